-- A function that stays as it is in a package with one function more.
use Rattle.std.specs.Prelude.{◌≡◌, ◌≤◌, ◌⊎◌, ℕ, true, false, nat_eq, Option, Some, None, slice_get}
use Rattle.go_grammar.specs.Trees.{Tree, last}
use Rattle.go_types.specs.Relations.{Rights}
use Rattle.go_exprs_elsewhere.specs.Elsewhere.{referent_moved}
use Rattle.go_stmts_elsewhere.specs.Functions.{AlongFunctions}
use Rattle.go_heads_added.specs.Added.{Gap, beyond}
use Rattle.go_package_defs.specs.Bodies.{Surroundings, portion_of, typed_function, stands_there}
use Rattle.go_package_defs.specs.Declarations.{Specification}
use Rattle.go_package_defs.specs.Knowledge.{referent_there}
use Rattle.go_package_defs.specs.Sources.{Package}
use Rattle.go_package_added.specs.OneMore.{function_moves}

-- Around all bodies each object of the package stands for the same under its new number, and is of the same sort.
pub record SurroundsAlong (g : Gap) (a b : Surroundings) : Type 0 where
  pub objects : (n : ℕ) → stands_there (slice_get b.objects (beyond g.shared n)) ≡ stands_there (slice_get a.objects n)
  pub referents : (n : ℕ) → referent_there (slice_get b.referents (beyond g.shared n)) ≡ referent_moved (function_moves g) (referent_there (slice_get a.referents n))

-- The declaration stands in another file than that of the number k, or in front of the token n of that file.
abbrev pub StandsWhole : ℕ → ℕ → Specification → Type 0
StandsWhole k n d = (nat_eq d.file k ≡ false) ⊎ (d.last ≤ n)

-- how many tokens the tree of a portion has
abbrev pub last_in : Option Tree → ℕ
last_in None = 0
last_in (Some t) = last t

-- A function with its types, under the next number where the new one stands in front of it: it has the same types, with the new numbers of
-- functions in its tree; or the same fault is reported of it.
abbrev pub StaysTyped : Package → Package → Gap → Surroundings → Surroundings → Rights → ℕ → Specification → Type 0
StaysTyped p q g a b rights number d =
    AlongFunctions (function_moves g) (λ n. true) (last_in (portion_of p d).tree) (beyond g.functions number) (typed_function p a rights number d) (typed_function q b rights (beyond g.functions number) d)
