-- How the names of locals stand in a typed tree, told by its tokens (Go specification: Blocks, Declarations and scope).
--
-- Of each variable it is known from which token on and up to which one it is in scope. Each variable that is named stands at a token where
-- it is, and each that is declared is in scope behind its statement, up to the end of the innermost block.
use Rattle.std.specs.Prelude.{◌≡◌, ℕ, zero, suc, ◌<◌, ◌≤◌, ◌⊎◌, Bool, true, false, List, Option, Some}
use Rattle.go_tree.specs.declared.context.Scope.{Scope}
use Rattle.go_types.specs.Trees.{TypeTree}
use Rattle.go_types.specs.Relations.{Rights}
use Rattle.go_typed.specs.declared.form.Form.{Form}
use Rattle.go_typed.specs.declared.form.Form.TheVariants as form
use Rattle.go_typed.specs.Trees.{Typed, typed, Typeds, none, more, skip, first_of, last_of}
use Rattle.go_meaning_simulation.specs.Locals.{In}
use Rattle.extract_runs.specs.Lexical.{Locals}
use Rattle.go_stmts_scopes.specs.Runs.{is_leaf, is_given, Unless, EachPlaced}

-- ---- where variables are in scope

-- the tokens where a local is in scope, if it is a variable
abbrev pub Extents : Type 0
Extents = ℕ → Option Scope

-- The local is a variable, and in scope at the token.
pub record Covers (x : Extents) (k t : ℕ) : Type 0 where
  pub scope : Scope
  pub is : x k ≡ Some scope
  pub begins : scope.from ≤ t
  pub lasts : t < scope.to

-- A local whose name stands at the token i is in scope behind it, from the one token on and at most up to the other.
abbrev pub BeginsIn : Extents → Scope → ℕ → ℕ → Type 0
BeginsIn x r k i = (s : Scope) → x k ≡ Some s → (i ≤ s.from) × (r.from ≤ s.from) × (s.to ≤ r.to)

-- What is no constant is a variable that is in scope and may be named, and what is declared may be.
abbrev pub NameStands : Locals → Extents → Scope → Bool → Form → ℕ → Type 0
NameStands ls x r b (form.Local k) i = Unless b (Covers x k i × ls.named k)
NameStands ls x r b (form.New k) i = BeginsIn x r k i × ls.declared k
NameStands ls x r b (form.Declared k) i = BeginsIn x r k i × ls.declared k
NameStands ls x r b f i = Unit {0}

-- the token behind the part of this number
abbrev pub behind_part : ℕ → Typeds TypeTree → ℕ
behind_part zero (more p ps) = last_of p
behind_part (suc n) (more p ps) = behind_part n ps
behind_part n ps = 0

-- Where names are in scope that a node declares: behind a definition or specification, behind the operand of a range clause, and up to the
-- end of the innermost block.
abbrev pub room_in : Scope → Form → ℕ → ℕ → Typeds TypeTree → Scope
room_in r (form.Define n) i j ps = record { from = j; to = r.to }
room_in r (form.Specified n) i j ps = record { from = j; to = r.to }
room_in r (form.Range d n) i j ps = record { from = behind_part n ps; to = j }
room_in r form.Block i j ps = record { from = i; to = j }
room_in r form.If i j ps = record { from = i; to = j }
room_in r form.Switch i j ps = record { from = i; to = j }
room_in r (form.Case n) i j ps = record { from = i; to = j }
room_in r form.Default i j ps = record { from = i; to = j }
room_in r form.For i j ps = record { from = i; to = j }
room_in r f i j ps = r

-- ---- branches

-- which branches may stand somewhere
pub record Exits : Type 0 where
  pub breaks : Bool
  pub continues : Bool
  pub falls : Bool

abbrev pub no_exits : Exits
no_exits = record { breaks = false; continues = false; falls = false }

abbrev pub MayStand : Locals → Exits → Form → Type 0
MayStand ls e form.Return = ls.returns
MayStand ls e form.Break = e.breaks ≡ true
MayStand ls e form.Continue = e.continues ≡ true
MayStand ls e form.Fallthrough = e.falls ≡ true
MayStand ls e f = Unit {0}

abbrev pub exits_in : Exits → Form → Exits
exits_in e form.For = record { breaks = true; continues = true; falls = e.falls }
exits_in e (form.Range d n) = record { breaks = true; continues = true; falls = e.falls }
exits_in e form.Switch = record { breaks = true; continues = e.continues; falls = true }
exits_in e f = e

-- ---- places

-- how many of a statement's first parts are places, or names that are declared
abbrev pub targets_in : Form → ℕ
targets_in (form.Step o) = 1
targets_in (form.Assign n) = n
targets_in (form.Operate o) = 1
targets_in (form.Define n) = n
targets_in (form.Specified n) = n
targets_in (form.Range d n) = n
targets_in f = 0

-- A place is one that may be written.
abbrev pub IsTarget : Locals → Rights → Typed TypeTree → Type 0
IsTarget ls rights (typed (form.New k) i j l ps) = Unit {0}
IsTarget ls rights (typed (form.Declared k) i j l ps) = Unit {0}
IsTarget ls rights t = EachPlaced rights (λ k. Unit {0}) ls.written t

abbrev pub AreTargets : Locals → Rights → ℕ → Typeds TypeTree → Type 0
AreTargets ls rights zero ps = Unit {0}
AreTargets ls rights (suc n) none = Unit {0}
AreTargets ls rights (suc n) (more p ps) = IsTarget ls rights p × AreTargets ls rights n ps
AreTargets ls rights (suc n) (skip ps) = AreTargets ls rights n ps

-- ---- trees

-- names, constants and what else has no parts that are run
abbrev pub is_closed : Form → Bool
is_closed (form.New k) = true
is_closed (form.Declared k) = true
is_closed form.Constants = true
is_closed form.TypeNames = true
is_closed form.Break = true
is_closed form.Continue = true
is_closed form.Fallthrough = true
is_closed f = is_leaf f

module _ (ls : Locals) (rights : Rights) (x : Extents) where
  abbrev mutual
    -- The tokens of the tree lie from a up to b, those of its parts one behind the other; names, places and branches stand where they may.
    pub Stands : Scope → Exits → (a b : ℕ) → Typed TypeTree → Type 0
    Stands r e a b (typed f i j l ps) = (a ≤ i) × (i < j) × (j ≤ b) × NameStands ls x r (is_given l.sort) f i × MayStand ls e f × AreTargets ls rights (targets_in f) ps
        × Unless (is_closed f) (AllStand (room_in r f i j ps) (exits_in e f) i j ps)

    pub AllStand : Scope → Exits → (a b : ℕ) → Typeds TypeTree → Type 0
    AllStand r e a b none = a ≤ b
    AllStand r e a b (more p ps) = Stands r e a b p × AllStand r e (last_of p) b ps
    AllStand r e a b (skip ps) = AllStand r e a b ps

-- ---- what is declared in a tree

abbrev pub IsDeclaredBy : ℕ → Form → Type 0
IsDeclaredBy k (form.New n) = n ≡ k
IsDeclaredBy k (form.Declared n) = n ≡ k
IsDeclaredBy k f = ⊥

abbrev pub Only : Bool → Type 0 → Type 0
Only true T = ⊥
Only false T = T

abbrev mutual
  -- the local is declared in the tree
  pub Declares : ℕ → Typed TypeTree → Type 0
  Declares k (typed f i j l ps) = IsDeclaredBy k f ⊎ Only (is_closed f) (AnyDeclares k ps)

  pub AnyDeclares : ℕ → Typeds TypeTree → Type 0
  AnyDeclares k none = ⊥
  AnyDeclares k (more p ps) = Declares k p ⊎ AnyDeclares k ps
  AnyDeclares k (skip ps) = AnyDeclares k ps

-- ---- functions and windows

-- The names of a function stand where they may, and each variable that is in scope at one of its tokens is one of these locals, its
-- parameters, or is declared in it.
pub record StandsInScope (ls : Locals) (rights : Rights) (x : Extents) (s : List ℕ) (t : Typed TypeTree) : Type 0 where
  pub names : Stands ls rights x (record { from = first_of t; to = last_of t }) no_exits (first_of t) (last_of t) t
  pub declared : (k u : ℕ) → first_of t ≤ u → u < last_of t → Covers x k u → In k s ⊎ Declares k t

-- So it is with a window, whose tokens lie from a up to b, in a block that ends at r.to, where these locals are in scope in front of it.
pub record StandInScope (ls : Locals) (rights : Rights) (x : Extents) (r : Scope) (a b : ℕ) (s : List ℕ) (ps : Typeds TypeTree) : Type 0 where
  pub names : AllStand ls rights x r no_exits a b ps
  pub declared : (k u : ℕ) → a ≤ u → u < b → Covers x k u → In k s ⊎ AnyDeclares k ps
