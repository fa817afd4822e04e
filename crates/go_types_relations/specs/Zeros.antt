-- Zero values as a function (Go specification, "The zero value").
use Rattle.std.specs.Prelude.{ℕ, Option, Some}
use Rattle.std.specs.Option.{option_map}
use Rattle.go_types.specs.Trees.{TypeTree, boolean, text, integer, array, slice, structure, function, declared, TypeRow, none, more}
use Rattle.go_types.specs.Relations.{Rights}
use Rattle.go_types_relations.specs.Questions.{Question, answers, asked, on_both}

mutual
  -- A zero value. It tells neither kinds of integers nor names of fields: values have none of these.
  pub data Zero : Type 0 where
    false_value : Zero
    number_zero : Zero
    empty_text : Zero
    -- so many elements, each this one
    elements : ℕ → Zero → Zero
    -- the values of the fields, in order
    fields : ZeroRow → Zero
    nil_slice : Zero
    nil_function : Zero

  pub data ZeroRow : Type 0 where
    no_zeros : ZeroRow
    more_zeros : Zero → ZeroRow → ZeroRow

abbrev mutual
  pub zero_by : Question Zero
  zero_by known boolean = Some false_value
  zero_by known text = Some empty_text
  zero_by known (integer k) = Some number_zero
  zero_by known (array n t) = option_map (elements n) (zero_by known t)
  zero_by known (slice t) = Some nil_slice
  zero_by known (structure ns ts) = option_map fields (zeros_by known ts)
  zero_by known (function ps rs) = Some nil_function
  zero_by known (declared n) = known n

  pub zeros_by : (ℕ → Option Zero) → TypeRow → Option ZeroRow
  zeros_by known none = Some no_zeros
  zeros_by known (more t ts) = on_both more_zeros (zero_by known t) (zeros_by known ts)

-- the zero value of the type, if it can be told
abbrev pub zero_of : Rights → TypeTree → Option Zero
zero_of rights t = asked zero_by rights t

-- the zero values of types in order
abbrev pub zeros_of : Rights → TypeRow → Option ZeroRow
zeros_of rights ts = zeros_by (answers zero_by rights) ts
