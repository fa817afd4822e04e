-- How the nodes of a typed tree lie among its tokens, and where the names that it declares are in scope (Go specification: Blocks,
-- Declarations and scope).
use Rattle.std.specs.Prelude.{◌≡◌, ℕ, ◌+◌, ◌<◌, ◌≤◌, Bool, false, List, [], ◌∷◌, Some}
use Rattle.go_tree.specs.declared.context.Scope.{Scope}
use Rattle.go_tree.specs.declared.object.Declared.{Declared}
use Rattle.go_tree.specs.declared.object.Object.TheVariants as object
use Rattle.go_tree.specs.Uses.{UsesView, object_of, local_of}
use Rattle.go_types.specs.Trees.{TypeTree}
use Rattle.go_typed.specs.declared.form.Form.{Form}
use Rattle.go_typed.specs.declared.form.Form.TheVariants as form
use Rattle.go_typed.specs.Contents.{FuncContent}
use Rattle.go_typed.specs.Trees.{Typed, typed, Typeds, none, more, skip, first_of, last_of}
use Rattle.go_stmts_scopes.specs.Runs.{Unless}
use Rattle.go_stmts_scopes.specs.Standing.{room_in, is_closed}
use Rattle.go_package_scopes.specs.Functions.{EachName, IsInScope}

-- A node that only holds parts for the one above it is open, whatever it holds.
abbrev pub is_shut : Form → Bool
is_shut (form.Held k) = false
is_shut f = is_closed f

-- what holds where a name is declared at a token, by the room that it has: from where on, and up to where, it may be in scope
abbrev pub NameHasRoom : (Scope → ℕ → Type 0) → Scope → Form → ℕ → Type 0
NameHasRoom D r (form.New k) i = D r i
NameHasRoom D r (form.Declared k) i = D r i
NameHasRoom D r f i = Unit {0}

module _ (D : Scope → ℕ → Type 0) where
  abbrev mutual
    -- The tokens of the tree lie from a up to b, those of its parts one behind the other, and each node has a token at least. Each name that
    -- is declared has the property in its room.
    pub Laid : Scope → (a b : ℕ) → Typed TypeTree → Type 0
    Laid r a b (typed f i j l ps) = (a ≤ i) × (i < j) × (j ≤ b) × NameHasRoom D r f i × Unless (is_shut f) (AllLaid (room_in r f i j ps) i j ps)

    pub AllLaid : Scope → (a b : ℕ) → Typeds TypeTree → Type 0
    AllLaid r a b none = a ≤ b
    AllLaid r a b (more p ps) = Laid r a b p × AllLaid r (last_of p) b ps
    AllLaid r a b (skip ps) = AllLaid r a b ps

-- nothing is asked of names
abbrev pub Anywhere : Scope → ℕ → Type 0
Anywhere r i = Unit {0}

-- all the tokens of a tree
abbrev pub all_tokens : Typed TypeTree → Scope
all_tokens t = record { from = first_of t; to = last_of t }

-- A tree lies so in the room that its own tokens give.
abbrev pub IsLaid : (Scope → ℕ → Type 0) → Typed TypeTree → Type 0
IsLaid D t = Laid D (all_tokens t) (first_of t) (last_of t) t

-- The nodes of each function lie in order.
abbrev pub HaveOrder : List FuncContent → Type 0
HaveOrder [] = Unit {0}
HaveOrder (f ∷ fs) = IsLaid Anywhere f.tree × HaveOrder fs

-- ---- where names are declared

-- Where a local is declared at a token of a function, it is in scope behind it, and in this room alone; the function begins at the token b of
-- the file n, and tokens of rooms are counted from there.
abbrev pub Begins : UsesView → (n b : ℕ) → Scope → ℕ → Type 0
Begins u n b r i = (f k : ℕ) (d : Declared) → object_of u n (b + i) ≡ Some (object.Local f k) → local_of u f k ≡ Some d → d.name ≡ b + i → (b + i ≤ d.scope.from) × (b + r.from ≤ d.scope.from) × (d.scope.to ≤ b + r.to)

-- The function begins at a token of a file, and its tokens that mean locals mean those of one function. Its nodes lie in order, each local that it
-- names or declares is in scope at its token, or declared there, and each one that is declared there is in scope in its room alone.
pub record HasRooms (u : UsesView) (f : FuncContent) : Type 0 where
  pub file : ℕ
  pub first : ℕ
  pub function : ℕ
  pub own : EachName (λ i k. object_of u file (first + i) ≡ Some (object.Local function k)) f.tree
  pub names : EachName (λ i k. IsInScope u file (first + i) k) f.tree
  pub laid : IsLaid (Begins u file first) f.tree

abbrev pub HaveRooms : UsesView → List FuncContent → Type 0
HaveRooms u [] = Unit {0}
HaveRooms u (f ∷ fs) = HasRooms u f × HaveRooms u fs
