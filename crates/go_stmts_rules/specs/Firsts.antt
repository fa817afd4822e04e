-- The first of what is left of a row.
use Rattle.std.specs.Prelude.{List, [], ◌∷◌, Option}
use Rattle.go_types.specs.Trees.{TypeTree}
use Rattle.go_typed.specs.Trees.{sort_of, Unknown}
use Rattle.go_exprs_rules.specs.Settling.{Part, default}
use Rattle.go_exprs_rules.specs.Sorts.{Stands}
use Rattle.go_stmts_defs.specs.Assigning.{Wanted, Taking, takes, type_or_default, constant_in}

-- what a value takes of the first of these variables, if there is one
abbrev pub first_taking : Wanted → Taking
first_taking [] = takes default
first_taking (t ∷ ts) = type_or_default t

-- what a name stands for by the first of these values, if there is one
abbrev pub first_constant : Option TypeTree → List Part → Stands
first_constant t [] = Unknown
first_constant t (x ∷ xs) = constant_in t (sort_of x)

abbrev pub others : {A : Type 0} → List A → List A
others [] = []
others (x ∷ xs) = xs
