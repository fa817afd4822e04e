-- When a run of statements of a function is lexically scoped, told by what its tokens mean (Go specification: Blocks, Declarations and scope).
use Rattle.std.specs.Prelude.{◌≡◌, ℕ, ◌+◌, ◌<◌, ◌≤◌, ◌⊎◌, Bool, List, [], ◌∷◌, Some}
use Rattle.go_tree.specs.declared.context.Scope.{Scope}
use Rattle.go_tree.specs.declared.object.Object.TheVariants as object
use Rattle.go_tree.specs.Uses.{UsesView, object_of}
use Rattle.go_types.specs.Relations.{Rights}
use Rattle.go_types.specs.Trees.{TypeTree}
use Rattle.go_typed.specs.Contents.{FuncContent}
use Rattle.go_typed.specs.Trees.{Typed, typed, Typeds, none, more, skip, last_of}
use Rattle.go_meaning_simulation.specs.Links.{nowhere}
use Rattle.go_meaning_simulation.specs.Locals.{In}
use Rattle.extract_runs.specs.Lexical.{Locals, lexical_links}
use Rattle.extract_runs.specs.Sound.{SoundChain}
use Rattle.go_stmts_scopes.specs.Locals.{behind_all}
use Rattle.go_stmts_scopes.specs.Runs.{Unless}
use Rattle.go_stmts_scopes.specs.Scoped.{tested}
use Rattle.go_stmts_scopes.specs.Shapes.{AreStatements}
use Rattle.go_stmts_scopes.specs.Standing.{Exits, no_exits, exits_in, MayStand, Covers, AnyDeclares, room_in, is_closed}
use Rattle.go_package_scopes.specs.Functions.{EachName}
use Rattle.go_package_scopes.specs.Laid.{all_tokens}
use Rattle.go_package_scopes.specs.Own.{extents_of, AllNamesAreOwn}

-- ---- runs

-- These are the first ones of a row of parts behind the token a, and they end in front of the token z.
abbrev pub IsPrefix : (a z : ℕ) → Typeds TypeTree → Typeds TypeTree → Type 0
IsPrefix a z none ps = a ≡ z
IsPrefix a z (skip ws) ps = ⊥
IsPrefix a z (more w ws) none = ⊥
IsPrefix a z (more w ws) (more p ps) = (w ≡ p) × IsPrefix (last_of w) z ws ps
IsPrefix a z (more w ws) (skip ps) = IsPrefix a z (more w ws) ps

-- These stand one behind the other in a row of parts behind the token i, from behind the token a on, and they end in front of the token z.
abbrev pub IsRun : (a z : ℕ) → Typeds TypeTree → ℕ → Typeds TypeTree → Type 0
IsRun a z ws i none = (a ≡ i) × IsPrefix a z ws none
IsRun a z ws i (more p ps) = ((a ≡ i) × IsPrefix a z ws (more p ps)) ⊎ IsRun a z ws (last_of p) ps
IsRun a z ws i (skip ps) = IsRun a z ws i ps

-- what holds of the parts of each node, with their room and the node's first token
module _ (P : Scope → ℕ → Typeds TypeTree → Type 0) where
  abbrev mutual
    pub EachRow : Scope → Typed TypeTree → Type 0
    EachRow r (typed f i j l ps) = Unless (is_closed f) (P (room_in r f i j ps) i ps × AllRows (room_in r f i j ps) ps)

    pub AllRows : Scope → Typeds TypeTree → Type 0
    AllRows r none = Unit {0}
    AllRows r (more p ps) = EachRow r p × AllRows r ps
    AllRows r (skip ps) = AllRows r ps

-- ---- ways out

abbrev mutual
  -- each branch and each `return` of the tree stands where one may
  pub ExitsStand : Locals → Exits → Typed TypeTree → Type 0
  ExitsStand ls e (typed f i j l ps) = MayStand ls e f × AllExitsStand ls (exits_in e f) ps

  pub AllExitsStand : Locals → Exits → Typeds TypeTree → Type 0
  AllExitsStand ls e none = Unit {0}
  AllExitsStand ls e (more p ps) = ExitsStand ls e p × AllExitsStand ls e ps
  AllExitsStand ls e (skip ps) = AllExitsStand ls e ps

-- Of statements whose tokens lie from a up to z, in a function that begins at the token b and has the locals of the function f: each variable is
-- used behind its declaration, and each name that is declared is new; what is written is a place; no branch leads out; and each variable that
-- is in scope at one of their tokens is one of these locals, those in scope in front of them, or is declared in them.
pub record IsOwnRun (ls : Locals) (rights : Rights) (u : UsesView) (b f a z : ℕ) (s : List ℕ) (ws : Typeds TypeTree) : Type 0 where
  pub names : AllNamesAreOwn ls rights u f b ws
  pub exits : AllExitsStand ls no_exits ws
  pub declared : (k m : ℕ) → a ≤ m → m < z → Covers (extents_of u f b) k m → In k s ⊎ AnyDeclares k ws

-- Each run of statements among these parts is lexically scoped, where this holds of it.
abbrev pub RunsAreLexical : UsesView → (b f : ℕ) → Scope → ℕ → Typeds TypeTree → Type 0
RunsAreLexical u b f r i ps = (ws : Typeds TypeTree) (a z : ℕ) → IsRun a z ws i ps → AreStatements ws
    → (named written declared : ℕ → Bool) (returns : Bool) (rights : Rights) (local : ℕ → ℕ) (gone : ℕ → Bool) (s : List ℕ) →
    let ls = tested named written declared returns in IsOwnRun ls rights u b f a z s ws → SoundChain (lexical_links ls) rights local gone nowhere s (behind_all s ws) ws

-- There is a token at which the function begins, and its locals are those of one function, so that each run of its statements is lexically
-- scoped, from the locals on that are in scope in front of it, where its names are its own.
pub record HasLexicalRuns (u : UsesView) (t : Typed TypeTree) : Type 0 where
  pub file : ℕ
  pub first : ℕ
  pub function : ℕ
  pub own : EachName (λ i k. object_of u file (first + i) ≡ Some (object.Local function k)) t
  pub runs : EachRow (RunsAreLexical u first function) (all_tokens t) t

abbrev pub HaveLexicalRuns : UsesView → List FuncContent → Type 0
HaveLexicalRuns u [] = Unit {0}
HaveLexicalRuns u (f ∷ fs) = HasLexicalRuns u f.tree × HaveLexicalRuns u fs
