-- What is known between statements stands for something known.
use Rattle.std.specs.Prelude.{◌≡◌, ℕ, ◌⊎◌, [], ◌∷◌, Some, None}
use Rattle.go_grammar.specs.declared.kind.Kind.{Kind}
use Rattle.go_grammar.specs.declared.kind.Kind.TheVariants as kind
use Rattle.go_grammar.specs.declared.kind.Sort.TheVariants as declaring
use Rattle.go_types.specs.Relations.{Rights}
use Rattle.go_typed.specs.Trees.{form_of, sort_of, parts_of, list_of}
use Rattle.go_typed.specs.Trees as sort
use Rattle.go_exprs_rules.specs.Scopes.{in_full}
use Rattle.go_exprs_rules.specs.Settling.{Part}
use Rattle.go_exprs_rules.specs.Tables.{Parts}
use Rattle.go_stmts_defs.specs.Frames.{Frame, scope_of}
use Rattle.go_stmts_defs.specs.Reading.{is_new}
use Rattle.go_stmts_final_types.specs.Placed.{IsKnownObject, ObjectsAreGood, LocalsAreGood}

-- so many objects of the package do, and all locals that are declared so far
pub record FrameIsGood (count : ℕ) (s : Frame) : Type 0 where
  pub full : s.around.needed ≡ in_full
  pub objects : ObjectsAreGood count s.around
  pub locals : LocalsAreGood s.locals (scope_of s)

-- a name that is declared there stands for something known, or is declared elsewhere
abbrev pub IsFine : Rights → Part → Type 0
IsFine rights x = (n : ℕ) → is_new (form_of x) ≡ Some n → (sort_of x ≡ sort.Nothing) ⊎ IsKnownObject rights (sort_of x)

abbrev pub AllFine : Rights → Parts → Type 0
AllFine rights [] = Unit {0}
AllFine rights (None ∷ xs) = AllFine rights xs
AllFine rights (Some x ∷ xs) = IsFine rights x × AllFine rights xs

-- what a node declares stands for something known
abbrev pub DeclaresFine : Kind → Rights → Part → Type 0
DeclaresFine (kind.Specification declaring.Variable) rights x = AllFine rights (list_of (parts_of x))
DeclaresFine (kind.Specification declaring.Constant) rights x = AllFine rights (list_of (parts_of x))
DeclaresFine kind.Define rights x = AllFine rights (list_of (parts_of x))
DeclaresFine kind.DefiningRange rights x = AllFine rights (list_of (parts_of x))
DeclaresFine k rights x = Unit {0}
