-- The variables among objects.
use Rattle.std.proofs.Common.{◌≡◌, ℕ, suc, ◌+◌, List, [], ◌∷◌, refl, ◌∙◌, arith}
use Rattle.std.specs.Prelude.{if◌then◌else◌}
use Rattle.go_tree.specs.declared.context.Entity.{Entity}
use Rattle.go_tree.specs.declared.context.Entity.TheVariants as entity
use Rattle.go_tree.specs.declared.object.Declared.{Declared}
use Rattle.go_tree.specs.Declarations.{is_variable}
use Rattle.go_typed.specs.Packages.{Counts, counted, counts_from, no_counts}

abbrev pub variables_in : List Declared → ℕ
variables_in [] = 0
variables_in (d ∷ ds) = if is_variable d.entity then suc (variables_in ds) else variables_in ds

one_more : (c : Counts) (e : Entity) (k : ℕ) → (counted c e).variables + k ≡ c.variables + (if is_variable e then suc k else k)
one_more c entity.Constant k = refl
one_more c entity.Type k = refl
one_more c entity.Variable k = omega arith
one_more c entity.Parameter k = omega arith
one_more c entity.Function k = refl

counted_from : (c : Counts) (ds : List Declared) → (counts_from c ds).variables ≡ c.variables + variables_in ds
counted_from c [] = omega arith
counted_from c (d ∷ ds) = counted_from (counted c d.entity) ds ∙ one_more c d.entity (variables_in ds)

pub counted_variables : (ds : List Declared) → (counts_from no_counts ds).variables ≡ variables_in ds
counted_variables ds = counted_from no_counts ds ∙ omega arith
