-- Selectors, index expressions and slice expressions.
use Rattle.std.proofs.Common.{ℕ, zero, suc, List, Option, Some, None}
use Rattle.go_types.specs.Trees.{TypeTree, structure, TypeRow, none, more}
use Rattle.go_types.specs.Relations.{Rights}
use Rattle.go_typed.specs.Trees as sort
use Rattle.go_exprs_rules.specs.Indexes.{field_number, type_at, field_type, numbered_type, named_field, value_or_unknown, selector_sort, index_sort, slice_sort}
use Rattle.go_exprs_rules.specs.Sorts.{Stands, form_of_value, is_text, element_of, byte, value_type}
use Rattle.go_stmts_written.specs.Named.{RowIsNamed}
use Rattle.go_stmts_written.specs.Named.{StandsIsNamed, RightsAreNamed}
use Rattle.go_stmts_written.proofs.Said.{MaybeNamed}
use Rattle.go_stmts_written.proofs.Values.{branch, element_named, value_named, form_named}

module _ (texts : ℕ → List ℕ) where
  pub row_type_named : (ts : TypeRow) (n : ℕ) → RowIsNamed ts → MaybeNamed (type_at ts n)
  row_type_named none n w = tt
  row_type_named (more t ts) zero w = w.0
  row_type_named (more t ts) (suc n) w = row_type_named ts n w.1

  field_type_named : (o : Option TypeTree) (n : ℕ) → MaybeNamed o → MaybeNamed (field_type o n)
  field_type_named (Some (structure ns ts)) n w = row_type_named ts n w.1
  field_type_named o n w = tt

  numbered_named : (o : Option TypeTree) (n : Option ℕ) → MaybeNamed o → MaybeNamed (numbered_type o n)
  numbered_named o None w = tt
  numbered_named o (Some n) w = field_type_named o n w

  named_field_named : (o : Option TypeTree) (name : List ℕ) → MaybeNamed o → MaybeNamed (named_field o name)
  named_field_named o name w = numbered_named o (field_number o name) w

  pub value_or_named : (o : Option TypeTree) → MaybeNamed o → StandsIsNamed (value_or_unknown o)
  value_or_named None w = tt
  value_or_named (Some t) w = w

  pub slice_sort_named : (x : Stands) → StandsIsNamed x → StandsIsNamed (slice_sort x)
  slice_sort_named x w = value_or_named (value_type x) (value_named texts x w)

module _ (texts : ℕ → List ℕ) (rights : Rights) (a : RightsAreNamed rights) where
  pub selector_sort_named : (name : List ℕ) (x : Stands) → StandsIsNamed x → StandsIsNamed (selector_sort rights name x)
  selector_sort_named name sort.Package w = tt
  selector_sort_named name x w = value_or_named texts (named_field (form_of_value rights x) name) (named_field_named texts (form_of_value rights x) name (form_named texts rights a x w))

  byte_named : StandsIsNamed (sort.Value byte)
  byte_named = tt

  pub index_sort_named : (x : Stands) → StandsIsNamed x → StandsIsNamed (index_sort rights x)
  index_sort_named x w =
      branch (StandsIsNamed) (is_text rights x) (sort.Value byte) (value_or_unknown (element_of (form_of_value rights x))) byte_named
      (value_or_named texts (element_of (form_of_value rights x)) (element_named texts (form_of_value rights x) (form_named texts rights a x w)))
