-- Which declarations need themselves, and after how many rounds that shows.
use Rattle.std.specs.Prelude.{◌≡◌, ℕ, Bool, true, false, ◌+◌, ◌||◌, ◌⊎◌, List, [], ◌∷◌, length}
use Rattle.go_tree.specs.Declarations.{Found}
use Rattle.go_tree.specs.Lookups.{Asked}
use Rattle.go_tree.specs.Needs.{is_same, needs_itself}
use Rattle.go_scopes_cycles.specs.Columns.{IsSource, AreAlike}

-- Rounds after which no further one adds anything: each name calls for at most one declaration, in one of two ways.
abbrev pub rounds : List Asked → ℕ
rounds asks = length asks + length asks

-- whether one of the declarations needs itself, by way of at most k others
abbrev pub any_itself : List Asked → ℕ → List Found → Bool
any_itself asks k [] = false
any_itself asks k (d ∷ ds) = needs_itself asks k d || any_itself asks k ds

-- The declarations of its name that names call for have its specification and its column.
pub record IsLike (asks : List Asked) (d : Found) : Type 0 where
  pub specification : (e : Found) → IsSource e asks → is_same d e ≡ true → d.it.source ≡ e.it.source
  pub column : (e : Found) → IsSource e asks → is_same d e ≡ true → d.it.column ≡ e.it.column

abbrev pub AllLike : List Asked → List Found → Type 0
AllLike asks [] = Unit {0}
AllLike asks (d ∷ ds) = IsLike asks d × AllLike asks ds

-- Declarations of one name have one specification and one column in it: those that names call for, and these.
abbrev pub IsOneEach : List Asked → List Found → Type 0
IsOneEach asks ds = AreAlike asks × AllLike asks ds

abbrev pub IsDeclared : Found → List Found → Type 0
IsDeclared e [] = ⊥
IsDeclared e (d ∷ ds) = (is_same e d ≡ true) ⊎ IsDeclared e ds

-- All declarations that names call for are among these.
abbrev pub AreDeclared : List Asked → List Found → Type 0
AreDeclared asks ds = (e : Found) → IsSource e asks → IsDeclared e ds
