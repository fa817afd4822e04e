-- The rules on selectors, index and slice expressions with other numbers of declared types.
use Rattle.std.proofs.Common.{◌≡◌, ◌∙◌, ℕ, zero, suc, ◌+◌, List, Option, Some, None, refl, ap, cond}
use Rattle.std.specs.Prelude.{is_some}
use Rattle.std.specs.Option.{option_map}
use Rattle.go_types.specs.Trees.{TypeTree, structure, TypeRow, none, more}
use Rattle.go_types.specs.Relations.{Rights}
use Rattle.go_types_relations.specs.Renaming.{renamed_row, IsOneToOne, AreRenamed}
use Rattle.go_typed.specs.Trees.{typed}
use Rattle.go_typed.specs.Trees as sort
use Rattle.go_exprs_rules.specs.Indexes.{field_number, type_at, field_type, numbered_type, named_field, selector_failing, value_or_unknown, selector_sort, bound_failing, optional_bound, disordered, text_length, index_failing_in, index_failing, index_sort, whole_or_absent, bounds_failing, slice_failing, slice_sort}
use Rattle.go_exprs_rules.specs.Settling.{Part}
use Rattle.go_exprs_rules.specs.Sorts.{Stands, constant_of, is_text, form_of_value, value_type, element_of, slice_element, array_length, byte, int}
use Rattle.go_renumbering.specs.Renumbered.{stands_renamed, part_renamed}
use Rattle.go_renumbering.proofs.Parts.{branches, optional}
use Rattle.go_renumbering.proofs.Sorts.{maybe, constant_same, value_same, element_same, slice_element_same, array_length_same, form_same, whole_same, text_same}
use Rattle.go_renumbering.proofs.Settling.{unrepresented_kept}

module _ (name : ℕ → ℕ) where
  -- ---- fields

  pub some_same : (o : Option TypeTree) → is_some (maybe name o) ≡ is_some o
  some_same None = refl
  some_same (Some t) = refl

  pub number_same : (o : Option TypeTree) (f : List ℕ) → field_number (maybe name o) f ≡ field_number o f
  number_same None f = refl
  number_same (Some (structure ns ts)) f = refl
  number_same (Some t) f = refl

  pub type_at_same : (ts : TypeRow) (n : ℕ) → type_at (renamed_row name ts) n ≡ maybe name (type_at ts n)
  type_at_same none n = refl
  type_at_same (more t ts) zero = refl
  type_at_same (more t ts) (suc n) = type_at_same ts n

  field_type_same : (o : Option TypeTree) (n : ℕ) → field_type (maybe name o) n ≡ maybe name (field_type o n)
  field_type_same None n = refl
  field_type_same (Some (structure ns ts)) n = type_at_same ts n
  field_type_same (Some t) n = refl

  numbered_same : (o : Option TypeTree) (n : Option ℕ) → numbered_type (maybe name o) n ≡ maybe name (numbered_type o n)
  numbered_same o None = refl
  numbered_same o (Some n) = field_type_same o n

  field_same : (o : Option TypeTree) (f : List ℕ) → named_field (maybe name o) f ≡ maybe name (named_field o f)
  field_same o f = ap (numbered_type (maybe name o)) (number_same o f) ∙ numbered_same o (field_number o f)

  pub value_or_same : (o : Option TypeTree) → value_or_unknown (maybe name o) ≡ stands_renamed name (value_or_unknown o)
  value_or_same None = refl
  value_or_same (Some t) = refl

  pub disordered_kept : (x y : Option Part) → disordered (optional name x) (optional name y) ≡ disordered x y
  disordered_kept None y = refl
  disordered_kept (Some x) None = refl
  disordered_kept (Some (typed f a b k ps)) (Some (typed g c d l qs)) = let e = constant_same name k.sort in let h = constant_same name l.sort in cc

  pub slice_sort_kept : (x : Stands) → slice_sort (stands_renamed name x) ≡ stands_renamed name (slice_sort x)
  slice_sort_kept x = ap value_or_unknown (value_same name x) ∙ value_or_same (value_type x)

module _ (name : ℕ → ℕ) (one : IsOneToOne name) (old new : Rights) (same : AreRenamed name old new) where
  form_field : (x : Stands) (f : List ℕ) → named_field (form_of_value new (stands_renamed name x)) f ≡ maybe name (named_field (form_of_value old x) f)
  form_field x f = ap (λ o. named_field o f) (form_same name one old new same x) ∙ field_same name (form_of_value old x) f

  pub selector_kept : (i j : ℕ) (f : List ℕ) (x : Stands) → selector_failing new i j f (stands_renamed name x) ≡ selector_failing old i j f x
  selector_kept i j f sort.Package = refl
  selector_kept i j f x = let e = form_field x f in let h = some_same name (named_field (form_of_value old x) f) in cc

  pub selector_sort_kept : (f : List ℕ) (x : Stands) → selector_sort new f (stands_renamed name x) ≡ stands_renamed name (selector_sort old f x)
  selector_sort_kept f sort.Package = refl
  selector_sort_kept f x = ap value_or_unknown (form_field x f) ∙ value_or_same name (named_field (form_of_value old x) f)

  -- ---- bounds

  pub bound_kept : (limit : Option ℕ) (x : Part) → bound_failing new limit (part_renamed name x) ≡ bound_failing old limit x
  bound_kept limit (typed f i j l ps) = let e = constant_same name l.sort in let h = unrepresented_kept name one old new same int (typed f i j l ps) in cc

  optional_bound_kept : (limit : Option ℕ) (x : Option Part) → optional_bound new limit (optional name x) ≡ optional_bound old limit x
  optional_bound_kept limit None = refl
  optional_bound_kept limit (Some x) = bound_kept limit x

  form_element : (x : Stands) → element_of (form_of_value new (stands_renamed name x)) ≡ maybe name (element_of (form_of_value old x))
  form_element x = ap element_of (form_same name one old new same x) ∙ element_same name (form_of_value old x)

  -- ---- index expressions

  index_in_kept : (i j : ℕ) (u : Option TypeTree) (n : Part) → index_failing_in new i j (maybe name u) (part_renamed name n) ≡ index_failing_in old i j u n
  index_in_kept i j u n =
      let e = element_same name u in
      let s = some_same name (element_of u) in
      let l = array_length_same name u in
      let b = bound_kept (array_length u) n in
      cc

  pub index_kept : (i j : ℕ) (x : Stands) (n : Part) → index_failing new i j (stands_renamed name x) (part_renamed name n) ≡ index_failing old i j x n
  index_kept i j x (typed f a b l ps) =
      let n = typed f a b l ps in
      let w = whole_same name one old new same l.sort in
      let t = text_same name one old new same x in
      let c = constant_same name x in
      let k = bound_kept (text_length (constant_of x)) n in
      let u = form_same name one old new same x in
      let h = index_in_kept i j (form_of_value old x) n in
      cc

  pub index_sort_kept : (x : Stands) → index_sort new (stands_renamed name x) ≡ stands_renamed name (index_sort old x)
  index_sort_kept x =
      ap (λ b. cond b (sort.Value byte) (value_or_unknown (element_of (form_of_value new (stands_renamed name x))))) (text_same name one old new same x)
      ∙ ap (λ o. cond (is_text old x) (sort.Value byte) (value_or_unknown o)) (form_element x)
      ∙ ap (cond (is_text old x) (sort.Value byte)) (value_or_same name (element_of (form_of_value old x)))
      ∙ branches (stands_renamed name) (is_text old x) (sort.Value byte) (value_or_unknown (element_of (form_of_value old x)))

  -- ---- slice expressions

  whole_kept : (x : Option Part) → whole_or_absent new (optional name x) ≡ whole_or_absent old x
  whole_kept None = refl
  whole_kept (Some (typed f i j l ps)) = whole_same name one old new same l.sort

  bounds_kept : (limit : Option ℕ) (low high : Option Part) → bounds_failing new limit (optional name low) (optional name high) ≡ bounds_failing old limit low high
  bounds_kept limit low high =
      let e = optional_bound_kept limit low in
      let f = optional_bound_kept limit high in
      let g = disordered_kept name low high in
      cc

  form_slice : (x : Stands) → is_some (slice_element (form_of_value new (stands_renamed name x))) ≡ is_some (slice_element (form_of_value old x))
  form_slice x =
      ap (λ o. is_some (slice_element o)) (form_same name one old new same x) ∙ ap is_some (slice_element_same name (form_of_value old x)) ∙ some_same name (slice_element (form_of_value old x))

  pub slice_kept : (i j : ℕ) (x : Stands) (low high : Option Part) → slice_failing new i j (stands_renamed name x) (optional name low) (optional name high) ≡ slice_failing old i j x low high
  slice_kept i j x low high =
      let t = text_same name one old new same x in
      let s = form_slice x in
      let e = whole_kept low in
      let f = whole_kept high in
      let c = constant_same name x in
      let b = bounds_kept (option_map (λ n. n + 1) (text_length (constant_of x))) low high in
      cc
