-- The count of scalars as a function. It has no bound.
use Rattle.std.specs.Prelude.{ℕ, ◌+◌, max, Option, Some}
use Rattle.std.specs.Option.{option_map}
use Rattle.go_types.specs.Trees.{TypeTree, boolean, text, integer, array, slice, structure, function, declared, TypeRow, none, more}
use Rattle.go_types.specs.Relations.{Rights, array_scalars}
use Rattle.go_types_relations.specs.Questions.{Question, asked, on_both}

abbrev mutual
  pub scalars_by : Question ℕ
  scalars_by known boolean = Some 1
  scalars_by known text = Some 1
  scalars_by known (integer k) = Some 1
  scalars_by known (array n t) = option_map (array_scalars n) (scalars_by known t)
  scalars_by known (slice t) = Some 1
  scalars_by known (structure ns ts) = option_map (max 1) (row_scalars_by known ts)
  scalars_by known (function ps rs) = Some 1
  scalars_by known (declared n) = known n

  pub row_scalars_by : (ℕ → Option ℕ) → TypeRow → Option ℕ
  row_scalars_by known none = Some 0
  row_scalars_by known (more t ts) = on_both (λ a b. a + b) (scalars_by known t) (row_scalars_by known ts)

-- how many scalars a value of the type has, if it can be told
abbrev pub scalars_of : Rights → TypeTree → Option ℕ
scalars_of rights t = asked scalars_by rights t
