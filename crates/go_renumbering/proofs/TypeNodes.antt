-- Types with other numbers of declared types.
use Rattle.std.proofs.Common.{◌≡◌, ◌∙◌, ℕ, Bool, true, false, List, [], ◌∷◌, ◌++◌, map, Option, Some, None, refl, ap, cond}
use Rattle.std.specs.Option.{option_map}
use Rattle.go_types.specs.Trees.{TypeTree, array, slice, structure, row}
use Rattle.go_types.specs.Relations.{Rights}
use Rattle.go_types_relations.specs.Renaming.{renamed, renamed_row, IsOneToOne, AreRenamed}
use Rattle.go_types_relations.proofs.Public.{scalars_renamed}
use Rattle.go_typed.specs.Trees.{typed, list_of, sort_of}
use Rattle.go_typed.specs.Trees as sort
use Rattle.go_exprs_rules.specs.Settling.{Part}
use Rattle.go_exprs_rules.specs.Sorts.{Stands, constant_of, named_type, int}
use Rattle.go_exprs_rules.specs.Tables.{Parts}
use Rattle.go_exprs_rules.specs.TypeNodes.{part_type, type_sort, over_limit, limit_failing, length_in, length_failing, sequence_failing, array_of, sequence_type, is_parameter, second, entry_type, entry_of, first_entry, entry_types, with_front, all_types, is_result_list, result_types, parts_in, function_of, signature_type, is_field_name, Fields, fields_of, fields_from, names_of, types_of, structure_of}
use Rattle.go_renumbering.specs.Renumbered.{stands_renamed, part_renamed}
use Rattle.go_renumbering.proofs.Parts.{branches, optional, parts, list_kept}
use Rattle.go_renumbering.proofs.Settling.{unrepresented_kept}
use Rattle.go_renumbering.proofs.Sorts.{maybe, constant_same, named_same, whole_same}

module _ (name : ℕ → ℕ) where
  pub type_kept : (x : Option Part) → part_type (optional name x) ≡ maybe name (part_type x)
  type_kept None = refl
  type_kept (Some (typed f i j l ps)) = named_same name l.sort

  pub type_sort_kept : (o : Option TypeTree) → type_sort (maybe name o) ≡ stands_renamed name (type_sort o)
  type_sort_kept None = refl
  type_sort_kept (Some t) = refl

  -- ---- arrays and slices

  array_kept : (n : Option ℕ) (t : Option TypeTree) → array_of n (maybe name t) ≡ maybe name (array_of n t)
  array_kept None t = refl
  array_kept (Some n) None = refl
  array_kept (Some n) (Some t) = refl

  slice_kept : (t : Option TypeTree) → option_map slice (maybe name t) ≡ maybe name (option_map slice t)
  slice_kept None = refl
  slice_kept (Some t) = refl

  pub sequence_type_kept : (n : Option Part) (t : Option TypeTree) → sequence_type (optional name n) (maybe name t) ≡ maybe name (sequence_type n t)
  sequence_type_kept None t = slice_kept t
  sequence_type_kept (Some (typed f i j l ps)) t = ap (λ c. array_of (length_in c) (maybe name t)) (constant_same name l.sort) ∙ array_kept (length_in (constant_of l.sort)) t

  -- ---- parameters and results

  abbrev all_maybe : List (Option TypeTree) → List (Option TypeTree)
  all_maybe os = map (maybe name) os

  abbrev types_renamed : List TypeTree → List TypeTree
  types_renamed ts = map (renamed name) ts

  abbrev some_types : Option (List TypeTree) → Option (List TypeTree)
  some_types o = option_map types_renamed o

  second_kept : (xs : Parts) → second (parts name xs) ≡ optional name (second xs)
  second_kept [] = refl
  second_kept (x ∷ []) = refl
  second_kept (x ∷ y ∷ ys) = refl

  entry_type_kept : (x : Stands) (next : Option TypeTree) → entry_type (stands_renamed name x) (maybe name next) ≡ maybe name (entry_type x next)
  entry_type_kept sort.Nothing next = refl
  entry_type_kept (sort.IsType t) next = refl
  entry_type_kept x next = refl

  entry_kept : (x : Part) (next : Option TypeTree) → entry_of (part_renamed name x) (maybe name next) ≡ maybe name (entry_of x next)
  entry_kept (typed f i j l ps) next =
      ap (λ xs. cond (is_parameter f) (part_type (second xs)) (entry_type (stands_renamed name l.sort) (maybe name next))) (list_kept name ps)
      ∙ ap (λ x. cond (is_parameter f) (part_type x) (entry_type (stands_renamed name l.sort) (maybe name next))) (second_kept (list_of ps))
      ∙ ap (λ t. cond (is_parameter f) t (entry_type (stands_renamed name l.sort) (maybe name next))) (type_kept (second (list_of ps)))
      ∙ ap (cond (is_parameter f) (maybe name (part_type (second (list_of ps))))) (entry_type_kept l.sort next)
      ∙ branches (maybe name) (is_parameter f) (part_type (second (list_of ps))) (entry_type l.sort next)

  first_kept : (os : List (Option TypeTree)) → first_entry (all_maybe os) ≡ maybe name (first_entry os)
  first_kept [] = refl
  first_kept (o ∷ os) = refl

  pub entries_kept : (xs : Parts) → entry_types (parts name xs) ≡ all_maybe (entry_types xs)
  entries_kept [] = refl
  entries_kept (None ∷ xs) = entries_kept xs
  entries_kept (Some x ∷ xs) =
      ap (λ ts. entry_of (part_renamed name x) (first_entry ts) ∷ ts) (entries_kept xs)
      ∙ ap (λ t. entry_of (part_renamed name x) t ∷ all_maybe (entry_types xs)) (first_kept (entry_types xs))
      ∙ ap (λ t. t ∷ all_maybe (entry_types xs)) (entry_kept x (first_entry (entry_types xs)))

  front_kept : (o : Option TypeTree) (ts : Option (List TypeTree)) → with_front (maybe name o) (some_types ts) ≡ some_types (with_front o ts)
  front_kept None ts = refl
  front_kept (Some t) None = refl
  front_kept (Some t) (Some ts) = refl

  all_types_kept : (os : List (Option TypeTree)) → all_types (all_maybe os) ≡ some_types (all_types os)
  all_types_kept [] = refl
  all_types_kept (o ∷ os) = ap (with_front (maybe name o)) (all_types_kept os) ∙ front_kept o (all_types os)

  results_kept : (x : Option Part) → result_types (optional name x) ≡ all_maybe (result_types x)
  results_kept None = refl
  results_kept (Some (typed f i j l ps)) =
      ap (λ xs. cond (is_result_list f) (entry_types xs) (named_type (stands_renamed name l.sort) ∷ [])) (list_kept name ps)
      ∙ ap (λ ts. cond (is_result_list f) ts (named_type (stands_renamed name l.sort) ∷ [])) (entries_kept (list_of ps))
      ∙ ap (λ t. cond (is_result_list f) (all_maybe (entry_types (list_of ps))) (t ∷ [])) (named_same name l.sort)
      ∙ branches all_maybe (is_result_list f) (entry_types (list_of ps)) (named_type l.sort ∷ [])

  pub parts_in_kept : (x : Option Part) → parts_in (optional name x) ≡ parts name (parts_in x)
  parts_in_kept None = refl
  parts_in_kept (Some (typed f i j l ps)) = list_kept name ps

  row_kept : (ts : List TypeTree) → row (types_renamed ts) ≡ renamed_row name (row ts)
  row_kept [] = refl
  row_kept (t ∷ ts) = let e = row_kept ts in cc

  function_kept : (ps rs : Option (List TypeTree)) → function_of (some_types ps) (some_types rs) ≡ maybe name (function_of ps rs)
  function_kept None rs = refl
  function_kept (Some ps) None = refl
  function_kept (Some ps) (Some rs) = let e = row_kept ps in let f = row_kept rs in cc

  pub signature_kept : (ps rs : Option Part) → signature_type (optional name ps) (optional name rs) ≡ maybe name (signature_type ps rs)
  signature_kept ps rs =
      ap (λ xs. function_of (all_types (entry_types xs)) (all_types (result_types (optional name rs)))) (parts_in_kept ps)
      ∙ ap (λ os. function_of (all_types os) (all_types (result_types (optional name rs)))) (entries_kept (parts_in ps))
      ∙ ap (λ ts. function_of ts (all_types (result_types (optional name rs)))) (all_types_kept (entry_types (parts_in ps)))
      ∙ ap (λ os. function_of (some_types (all_types (entry_types (parts_in ps)))) (all_types os)) (results_kept rs)
      ∙ ap (function_of (some_types (all_types (entry_types (parts_in ps))))) (all_types_kept (result_types rs))
      ∙ function_kept (all_types (entry_types (parts_in ps))) (all_types (result_types rs))

  -- ---- structs

  abbrev fields_renamed : Fields → Fields
  fields_renamed fs = map (λ (f : List ℕ × TypeTree). (f.0, renamed name f.1)) fs

  line_kept : (ns : List (List ℕ)) (t : Option TypeTree) (fs : Fields) → fields_of ns (maybe name t) (fields_renamed fs) ≡ fields_renamed (fields_of ns t fs)
  line_kept [] t fs = refl
  line_kept (n ∷ ns) None fs = refl
  line_kept (n ∷ ns) (Some t) fs = ap (λ z. (n, renamed name t) ∷ z) (line_kept ns (Some t) fs)

  names_kept : (fs : Fields) → names_of (fields_renamed fs) ≡ names_of fs
  names_kept [] = refl
  names_kept (f ∷ fs) = ap (λ z. f.0 ∷ z) (names_kept fs)

  types_kept : (fs : Fields) → row (types_of (fields_renamed fs)) ≡ renamed_row name (row (types_of fs))
  types_kept [] = refl
  types_kept (f ∷ fs) = let e = types_kept fs in cc

  structure_kept : (fs : Fields) → structure_of (fields_renamed fs) ≡ renamed name (structure_of fs)
  structure_kept fs = ap (λ ns. structure ns (row (types_of (fields_renamed fs)))) (names_kept fs) ∙ ap (structure (names_of fs)) (types_kept fs)

  module _ (old_texts new_texts : ℕ → List ℕ) (says : (i : ℕ) → new_texts i ≡ old_texts i) where
    fields_kept : (ns : List (List ℕ)) (xs : Parts) → fields_from new_texts ns (parts name xs) ≡ fields_renamed (fields_from old_texts ns xs)
    fields_kept ns [] = refl
    fields_kept ns (None ∷ xs) = fields_kept ns xs
    fields_kept ns (Some (typed f i j l ps) ∷ xs) =
        ap (λ z. cond (is_field_name f) (fields_from new_texts (ns ++ z ∷ []) (parts name xs)) (fields_of ns (named_type (stands_renamed name l.sort)) (fields_from new_texts [] (parts name xs)))) (says i)
        ∙ ap (λ z. cond (is_field_name f) z (fields_of ns (named_type (stands_renamed name l.sort)) (fields_from new_texts [] (parts name xs)))) (fields_kept (ns ++ old_texts i ∷ []) xs)
        ∙ ap (λ z. cond (is_field_name f) (fields_renamed (fields_from old_texts (ns ++ old_texts i ∷ []) xs)) (fields_of ns (named_type (stands_renamed name l.sort)) z)) (fields_kept [] xs)
        ∙ ap (λ z. cond (is_field_name f) (fields_renamed (fields_from old_texts (ns ++ old_texts i ∷ []) xs)) (fields_of ns z (fields_renamed (fields_from old_texts [] xs)))) (named_same name l.sort)
        ∙ ap (cond (is_field_name f) (fields_renamed (fields_from old_texts (ns ++ old_texts i ∷ []) xs))) (line_kept ns (named_type l.sort) (fields_from old_texts [] xs))
        ∙ branches fields_renamed (is_field_name f) (fields_from old_texts (ns ++ old_texts i ∷ []) xs) (fields_of ns (named_type l.sort) (fields_from old_texts [] xs))

    pub struct_kept : (xs : Parts) → structure_of (fields_from new_texts [] (parts name xs)) ≡ renamed name (structure_of (fields_from old_texts [] xs))
    struct_kept xs = ap structure_of (fields_kept [] xs) ∙ structure_kept (fields_from old_texts [] xs)

-- ---- lengths

module _ (name : ℕ → ℕ) (one : IsOneToOne name) (old new : Rights) (same : AreRenamed name old new) (limits : Bool) where
  over_kept : (i j : ℕ) (n : Option ℕ) (t : Option TypeTree) → over_limit new i j n (maybe name t) ≡ over_limit old i j n t
  over_kept i j (Some n) (Some t) = let e = scalars_renamed name old new same (array n t) in cc
  over_kept i j (Some n) None = refl
  over_kept i j None (Some t) = refl
  over_kept i j None None = refl

  limit_kept : (b : Bool) (i j : ℕ) (n : Option ℕ) (t : Option TypeTree) → limit_failing new b i j n (maybe name t) ≡ limit_failing old b i j n t
  limit_kept true i j n t = over_kept i j n t
  limit_kept false i j n t = refl

  length_kept : (i j : ℕ) (n : Part) (t : Option TypeTree) → length_failing new limits i j (part_renamed name n) (maybe name t) ≡ length_failing old limits i j n t
  length_kept i j (typed f a b l ps) t =
      let c = constant_same name l.sort in
      let w = whole_same name one old new same l.sort in
      let u = unrepresented_kept name one old new same int (typed f a b l ps) in
      let e = limit_kept limits i j (length_in (constant_of l.sort)) t in
      cc

  pub sequence_kept : (i j : ℕ) (n e : Option Part) → sequence_failing new limits i j (optional name n) (optional name e) ≡ sequence_failing old limits i j n e
  sequence_kept i j None e = refl
  sequence_kept i j (Some n) e = ap (length_failing new limits i j (part_renamed name n)) (type_kept name e) ∙ length_kept i j n (part_type e)
