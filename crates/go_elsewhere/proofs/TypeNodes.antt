-- The rules on types elsewhere.
use Rattle.std.proofs.Common.{◌≡◌, ◌∙◌, ℕ, Bool, true, false, List, [], ◌∷◌, ◌++◌, Option, Some, None, refl, ap}
use Rattle.std.specs.Prelude.{◌&&◌, if◌then◌else◌}
use Rattle.go_base.specs.declared.fault.FaultCode.TheVariants as code
use Rattle.go_types.specs.Trees.{TypeTree, array}
use Rattle.go_types.specs.Relations.{Rights}
use Rattle.go_types_relations.specs.Sizes.{scalars_of}
use Rattle.go_typed.specs.Trees.{typed, list_of}
use Rattle.go_exprs_rules.specs.Faults.{fault_at}
use Rattle.go_exprs_rules.specs.Settling.{Part, unrepresented}
use Rattle.go_exprs_rules.specs.Sorts.{constant_of, is_constant, is_whole, is_negative, named_type, int}
use Rattle.go_exprs_rules.specs.Tables.{Parts}
use Rattle.go_exprs_rules.specs.TypeNodes.{part_type, length_in, exceeds, over_limit, limit_failing, length_failing, sequence_failing, sequence_type, is_parameter, second, entry_type, entry_of, first_entry, entry_types, all_types, is_result_list, result_types, parts_in, function_of, signature_type, is_field_name, fields_of, fields_from}
use Rattle.go_elsewhere.specs.Elsewhere.{placed}
use Rattle.go_elsewhere.proofs.Parts.{optional, parts, fails, list_kept, either, either_of, both}
use Rattle.go_elsewhere.proofs.Settling.{unrepresented_kept}

module _ (m : ℕ → ℕ) where
  pub type_kept : (x : Option Part) → part_type (optional m x) ≡ part_type x
  type_kept None = refl
  type_kept (Some (typed f i j l ps)) = refl

  -- ---- arrays and slices

  module _ (rights : Rights) (limits : Bool) where
    over_kept : (i j : ℕ) (n : Option ℕ) (t : Option TypeTree) → over_limit rights (m i) (m j) n t ≡ fails m (over_limit rights i j n t)
    over_kept i j (Some n) (Some t) = either m (exceeds (scalars_of rights (array n t))) (fault_at code.Limit i j) []
    over_kept i j (Some n) None = refl
    over_kept i j None (Some t) = refl
    over_kept i j None None = refl

    limit_kept : (b : Bool) (i j : ℕ) (n : Option ℕ) (t : Option TypeTree) → limit_failing rights b (m i) (m j) n t ≡ fails m (limit_failing rights b i j n t)
    limit_kept true i j n t = over_kept i j n t
    limit_kept false i j n t = refl

    length_kept : (i j : ℕ) (n : Part) (t : Option TypeTree) → length_failing rights limits (m i) (m j) (placed m n) t ≡ fails m (length_failing rights limits i j n t)
    length_kept i j (typed f a b l ps) t =
        let n = typed f a b l ps in
        let c = constant_of l.sort in
        let us = unrepresented rights int (placed m n) ++ limit_failing rights limits (m i) (m j) (length_in c) t in
        let xs = unrepresented rights int n ++ limit_failing rights limits i j (length_in c) t in
        either_of m (is_constant l.sort && is_whole rights l.sort)
        (if is_negative c then fault_at code.ConstIndex (m a) (m b) else us) (fault_at code.Operands (m a) (m b)) (if is_negative c then fault_at code.ConstIndex a b else xs) (fault_at code.Operands a b)
        (either_of m (is_negative c) (fault_at code.ConstIndex (m a) (m b)) us (fault_at code.ConstIndex a b) xs refl
        (both m (unrepresented rights int (placed m n)) (limit_failing rights limits (m i) (m j) (length_in c) t) (unrepresented rights int n) (limit_failing rights limits i j (length_in c) t) (unrepresented_kept m rights int n) (limit_kept limits i j (length_in c) t)))
        refl

    pub sequence_kept : (i j : ℕ) (n e : Option Part) → sequence_failing rights limits (m i) (m j) (optional m n) (optional m e) ≡ fails m (sequence_failing rights limits i j n e)
    sequence_kept i j None e = refl
    sequence_kept i j (Some n) e = ap (length_failing rights limits (m i) (m j) (placed m n)) (type_kept e) ∙ length_kept i j n (part_type e)

  pub sequence_type_kept : (n : Option Part) (t : Option TypeTree) → sequence_type (optional m n) t ≡ sequence_type n t
  sequence_type_kept None t = refl
  sequence_type_kept (Some (typed f i j l ps)) t = refl

  -- ---- parameters and results

  second_kept : (xs : Parts) → second (parts m xs) ≡ optional m (second xs)
  second_kept [] = refl
  second_kept (x ∷ []) = refl
  second_kept (x ∷ y ∷ ys) = refl

  entry_kept : (x : Part) (next : Option TypeTree) → entry_of (placed m x) next ≡ entry_of x next
  entry_kept (typed f i j l ps) next =
      ap (λ t. if is_parameter f then t else entry_type l.sort next) (ap (λ xs. part_type (second xs)) (list_kept m ps) ∙ ap part_type (second_kept (list_of ps)) ∙ type_kept (second (list_of ps)))

  entries_kept : (xs : Parts) → entry_types (parts m xs) ≡ entry_types xs
  entries_kept [] = refl
  entries_kept (None ∷ xs) = entries_kept xs
  entries_kept (Some x ∷ xs) =
      ap (λ ts. entry_of (placed m x) (first_entry ts) ∷ ts) (entries_kept xs) ∙ ap (λ t. t ∷ entry_types xs) (entry_kept x (first_entry (entry_types xs)))

  results_kept : (x : Option Part) → result_types (optional m x) ≡ result_types x
  results_kept None = refl
  results_kept (Some (typed f i j l ps)) = ap (λ ts. if is_result_list f then ts else named_type l.sort ∷ []) (ap entry_types (list_kept m ps) ∙ entries_kept (list_of ps))

  parts_in_kept : (x : Option Part) → parts_in (optional m x) ≡ parts m (parts_in x)
  parts_in_kept None = refl
  parts_in_kept (Some (typed f i j l ps)) = list_kept m ps

  pub signature_kept : (ps rs : Option Part) → signature_type (optional m ps) (optional m rs) ≡ signature_type ps rs
  signature_kept ps rs =
      ap (λ ts. function_of (all_types ts) (all_types (result_types (optional m rs)))) (ap entry_types (parts_in_kept ps) ∙ entries_kept (parts_in ps))
      ∙ ap (λ ts. function_of (all_types (entry_types (parts_in ps))) (all_types ts)) (results_kept rs)

  -- ---- structs

  module _ (texts : ℕ → List ℕ) where
    pub fields_kept : (ns : List (List ℕ)) (xs : Parts) → fields_from texts ns (parts m xs) ≡ fields_from (λ n. texts (m n)) ns xs
    fields_kept ns [] = refl
    fields_kept ns (None ∷ xs) = fields_kept ns xs
    fields_kept ns (Some (typed f i j l ps) ∷ xs) =
        ap (λ r. if is_field_name f then r else fields_of ns (named_type l.sort) (fields_from texts [] (parts m xs))) (fields_kept (ns ++ texts (m i) ∷ []) xs)
        ∙ ap (λ r. if is_field_name f then fields_from (λ n. texts (m n)) (ns ++ texts (m i) ∷ []) xs else fields_of ns (named_type l.sort) r) (fields_kept [] xs)
