-- Values of constants.
use Rattle.std.proofs.Common.{◌≡◌, Bool, true, false, List, [], ◌∷◌, ◌++◌, Option, Some, None, refl, ◌∙◌}
use Rattle.std.specs.Prelude.{if◌then◌else◌}
use Rattle.go_types.specs.Relations.{Rights}
use Rattle.go_types.specs.Trees.{TypeTree}
use Rattle.go_typed.specs.Trees.{sort_of}
use Rattle.go_exprs_rules.specs.declared.fault.TypeFault.{TypeFault}
use Rattle.go_exprs_rules.specs.Faults.{least, earlier}
use Rattle.go_exprs_rules.specs.Settling.{Part}
use Rattle.go_exprs_rules.specs.Sorts.{is_unknown}
use Rattle.go_exprs_rules.proofs.Public.{least_append}
use Rattle.go_stmts_defs.specs.Assigning.{constant_failing, constants_failing}
use Rattle.go_stmts_defs.specs.Rules.{constants_counted}
use Rattle.go_package_defs.specs.Verdicts.{known_parts}
use Rattle.go_package_types.specs.Whole.{known_failing}

earlier_none : (o : Option TypeFault) → earlier o None ≡ o
earlier_none None = refl
earlier_none (Some f) = refl

-- one value, counted as one
pub one_constant : (rights : Rights) (t : Option TypeTree) (x : Part) → least (constants_counted rights 0 0 1 t (x ∷ [])) ≡ least (constant_failing rights t x)
one_constant rights t x = least_append (constant_failing rights t x) [] ∙ earlier_none (least (constant_failing rights t x))

-- the values that are known, one by one
pub one_known : (rights : Rights) (t : Option TypeTree) (x : Part) (xs : List Part) → constants_failing rights t (known_parts (x ∷ xs)) ≡ known_failing rights t x ++ constants_failing rights t (known_parts xs)
one_known rights t x xs = by (is_unknown (sort_of x))
  where
    by : (b : Bool) → constants_failing rights t (if b then known_parts xs else x ∷ known_parts xs) ≡ (if b then [] else constant_failing rights t x) ++ constants_failing rights t (known_parts xs)
    by true = refl
    by false = refl
