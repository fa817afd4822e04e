-- Selectors, index expressions and slice expressions.
use Rattle.std.proofs.Common.{ℕ, zero, suc, List, Option, Some, None}
use Rattle.go_types.specs.Trees.{TypeTree, structure, TypeRow, none, more}
use Rattle.go_types.specs.Relations.{Rights}
use Rattle.go_typed.specs.Trees as sort
use Rattle.go_exprs_rules.specs.Indexes.{field_number, type_at, field_type, numbered_type, named_field, value_or_unknown, selector_sort, index_sort, slice_sort}
use Rattle.go_exprs_rules.specs.Scopes.{Scope}
use Rattle.go_exprs_rules.specs.Sorts.{Stands, form_of_value, is_text, element_of, byte, value_type}
use Rattle.go_print_laws.specs.Reading.{RowIsWithin}
use Rattle.go_stmts_limits.specs.Limits.{StandsIsWithin, RightsAreWithin}
use Rattle.go_stmts_limits.proofs.Within.{MaybeWithin}
use Rattle.go_stmts_limits.proofs.Values.{branch, element_within, value_within, form_within}

module _ (limit : Scope) where
  pub row_type_within : (ts : TypeRow) (n : ℕ) → RowIsWithin limit ts → MaybeWithin limit (type_at ts n)
  row_type_within none n w = tt
  row_type_within (more t ts) zero w = w.0
  row_type_within (more t ts) (suc n) w = row_type_within ts n w.1

  field_type_within : (o : Option TypeTree) (n : ℕ) → MaybeWithin limit o → MaybeWithin limit (field_type o n)
  field_type_within (Some (structure ns ts)) n w = row_type_within ts n w
  field_type_within o n w = tt

  numbered_within : (o : Option TypeTree) (n : Option ℕ) → MaybeWithin limit o → MaybeWithin limit (numbered_type o n)
  numbered_within o None w = tt
  numbered_within o (Some n) w = field_type_within o n w

  named_field_within : (o : Option TypeTree) (name : List ℕ) → MaybeWithin limit o → MaybeWithin limit (named_field o name)
  named_field_within o name w = numbered_within o (field_number o name) w

  pub value_or_within : (o : Option TypeTree) → MaybeWithin limit o → StandsIsWithin limit (value_or_unknown o)
  value_or_within None w = tt
  value_or_within (Some t) w = w

  pub slice_sort_within : (x : Stands) → StandsIsWithin limit x → StandsIsWithin limit (slice_sort x)
  slice_sort_within x w = value_or_within (value_type x) (value_within limit x w)

module _ (limit : Scope) (rights : Rights) (a : RightsAreWithin limit rights) where
  pub selector_sort_within : (name : List ℕ) (x : Stands) → StandsIsWithin limit x → StandsIsWithin limit (selector_sort rights name x)
  selector_sort_within name sort.Package w = tt
  selector_sort_within name x w = value_or_within limit (named_field (form_of_value rights x) name) (named_field_within limit (form_of_value rights x) name (form_within limit rights a x w))

  byte_within : StandsIsWithin limit (sort.Value byte)
  byte_within = tt

  pub index_sort_within : (x : Stands) → StandsIsWithin limit x → StandsIsWithin limit (index_sort rights x)
  index_sort_within x w =
      branch (StandsIsWithin limit) (is_text rights x) (sort.Value byte) (value_or_unknown (element_of (form_of_value rights x))) byte_within
      (value_or_within limit (element_of (form_of_value rights x)) (element_within limit (form_of_value rights x) (form_within limit rights a x w)))
