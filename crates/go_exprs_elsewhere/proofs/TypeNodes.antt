-- The rules on types elsewhere.
use Rattle.std.proofs.Common.{◌≡◌, ◌∙◌, ℕ, Bool, true, false, List, [], ◌∷◌, ◌++◌, Option, Some, None, refl, ap}
use Rattle.std.specs.Prelude.{◌&&◌, if◌then◌else◌}
use Rattle.go_base.specs.declared.fault.FaultCode.TheVariants as code
use Rattle.go_types.specs.Trees.{TypeTree, array}
use Rattle.go_types.specs.Relations.{Rights}
use Rattle.go_types_relations.specs.Sizes.{scalars_of}
use Rattle.go_typed.specs.declared.form.Form.{Form}
use Rattle.go_typed.specs.Trees.{typed, list_of}
use Rattle.go_exprs_rules.specs.Faults.{fault_at}
use Rattle.go_exprs_rules.specs.Settling.{Part, unrepresented}
use Rattle.go_exprs_rules.specs.Sorts.{constant_of, is_constant, is_whole, is_negative, named_type, int}
use Rattle.go_exprs_rules.specs.Tables.{Parts}
use Rattle.go_exprs_rules.specs.TypeNodes.{part_type, length_in, exceeds, over_limit, limit_failing, length_failing, sequence_failing, sequence_type, is_parameter, second, entry_type, entry_of, first_entry, entry_types, all_types, is_result_list, result_types, parts_in, function_of, signature_type, is_field_name, Fields, fields_of, fields_from}
use Rattle.go_exprs_elsewhere.specs.Elsewhere.{Moves, placed, all_placed}
use Rattle.go_exprs_elsewhere.proofs.Parts.{parameter_moved, result_list_moved, field_name_moved, optional, parts, fails, list_kept, either, either_of, both}
use Rattle.go_exprs_elsewhere.proofs.Settling.{unrepresented_kept}
use Rattle.go_exprs_elsewhere.proofs.Spelling.{AreRead, field_read}

module _ (m : Moves) where
  pub type_kept : (x : Option Part) → part_type (optional m x) ≡ part_type x
  type_kept None = refl
  type_kept (Some (typed f i j l ps)) = refl

  -- ---- arrays and slices

  module _ (rights : Rights) (limits : Bool) where
    over_kept : (i j : ℕ) (n : Option ℕ) (t : Option TypeTree) → over_limit rights (m.token i) (m.token j) n t ≡ fails m (over_limit rights i j n t)
    over_kept i j (Some n) (Some t) = either m (exceeds (scalars_of rights (array n t))) (fault_at code.Limit i j) []
    over_kept i j (Some n) None = refl
    over_kept i j None (Some t) = refl
    over_kept i j None None = refl

    limit_kept : (b : Bool) (i j : ℕ) (n : Option ℕ) (t : Option TypeTree) → limit_failing rights b (m.token i) (m.token j) n t ≡ fails m (limit_failing rights b i j n t)
    limit_kept true i j n t = over_kept i j n t
    limit_kept false i j n t = refl

    length_kept : (i j : ℕ) (n : Part) (t : Option TypeTree) → length_failing rights limits (m.token i) (m.token j) (placed m n) t ≡ fails m (length_failing rights limits i j n t)
    length_kept i j (typed f a b l ps) t =
        let n = typed f a b l ps in
        let c = constant_of l.sort in
        let us = unrepresented rights int (placed m n) ++ limit_failing rights limits (m.token i) (m.token j) (length_in c) t in
        let xs = unrepresented rights int n ++ limit_failing rights limits i j (length_in c) t in
        either_of m (is_constant l.sort && is_whole rights l.sort)
        (if is_negative c then fault_at code.ConstIndex (m.token a) (m.token b) else us) (fault_at code.Operands (m.token a) (m.token b)) (if is_negative c then fault_at code.ConstIndex a b else xs) (fault_at code.Operands a b)
        (either_of m (is_negative c) (fault_at code.ConstIndex (m.token a) (m.token b)) us (fault_at code.ConstIndex a b) xs refl
        (both m (unrepresented rights int (placed m n)) (limit_failing rights limits (m.token i) (m.token j) (length_in c) t) (unrepresented rights int n) (limit_failing rights limits i j (length_in c) t) (unrepresented_kept m rights int n) (limit_kept limits i j (length_in c) t)))
        refl

    pub sequence_kept : (i j : ℕ) (n e : Option Part) → sequence_failing rights limits (m.token i) (m.token j) (optional m n) (optional m e) ≡ fails m (sequence_failing rights limits i j n e)
    sequence_kept i j None e = refl
    sequence_kept i j (Some n) e = ap (length_failing rights limits (m.token i) (m.token j) (placed m n)) (type_kept e) ∙ length_kept i j n (part_type e)

  pub sequence_type_kept : (n : Option Part) (t : Option TypeTree) → sequence_type (optional m n) t ≡ sequence_type n t
  sequence_type_kept None t = refl
  sequence_type_kept (Some (typed f i j l ps)) t = refl

  -- ---- parameters and results

  second_kept : (xs : Parts) → second (parts m xs) ≡ optional m (second xs)
  second_kept [] = refl
  second_kept (x ∷ []) = refl
  second_kept (x ∷ y ∷ ys) = refl

  entry_kept : (x : Part) (next : Option TypeTree) → entry_of (placed m x) next ≡ entry_of x next
  entry_kept (typed f i j l ps) next =
      ap (λ b. if b then part_type (second (list_of (all_placed m ps))) else entry_type l.sort next) (parameter_moved m f)
      ∙ ap (λ t. if is_parameter f then t else entry_type l.sort next) (ap (λ xs. part_type (second xs)) (list_kept m ps) ∙ ap part_type (second_kept (list_of ps)) ∙ type_kept (second (list_of ps)))

  pub entries_kept : (xs : Parts) → entry_types (parts m xs) ≡ entry_types xs
  entries_kept [] = refl
  entries_kept (None ∷ xs) = entries_kept xs
  entries_kept (Some x ∷ xs) =
      ap (λ ts. entry_of (placed m x) (first_entry ts) ∷ ts) (entries_kept xs) ∙ ap (λ t. t ∷ entry_types xs) (entry_kept x (first_entry (entry_types xs)))

  results_kept : (x : Option Part) → result_types (optional m x) ≡ result_types x
  results_kept None = refl
  results_kept (Some (typed f i j l ps)) =
      ap (λ b. if b then entry_types (list_of (all_placed m ps)) else named_type l.sort ∷ []) (result_list_moved m f)
      ∙ ap (λ ts. if is_result_list f then ts else named_type l.sort ∷ []) (ap entry_types (list_kept m ps) ∙ entries_kept (list_of ps))

  pub parts_in_kept : (x : Option Part) → parts_in (optional m x) ≡ parts m (parts_in x)
  parts_in_kept None = refl
  parts_in_kept (Some (typed f i j l ps)) = list_kept m ps

  pub signature_kept : (ps rs : Option Part) → signature_type (optional m ps) (optional m rs) ≡ signature_type ps rs
  signature_kept ps rs =
      ap (λ ts. function_of (all_types ts) (all_types (result_types (optional m rs)))) (ap entry_types (parts_in_kept ps) ∙ entries_kept (parts_in ps))
      ∙ ap (λ ts. function_of (all_types (entry_types (parts_in ps))) (all_types ts)) (results_kept rs)

  -- ---- structs

  module _ (texts said : ℕ → List ℕ) (same : (i : ℕ) → m.spelled i ≡ true → texts (m.token i) ≡ said i) where
    abbrev here : Form → ℕ → List (List ℕ) → Parts → Option TypeTree → Bool → Fields
    here f i ns xs t b = if b then fields_from texts (ns ++ texts (m.token i) ∷ []) (parts m xs) else fields_of ns t (fields_from texts [] (parts m xs))

    abbrev there : ℕ → List (List ℕ) → Parts → Option TypeTree → Bool → Fields
    there i ns xs t b = if b then fields_from said (ns ++ said i ∷ []) xs else fields_of ns t (fields_from said [] xs)

    field_kept : (f : Form) (i : ℕ) (ns : List (List ℕ)) (xs : Parts) (t : Option TypeTree) (b : Bool) → (b ≡ true → m.spelled i ≡ true)
        → fields_from texts (ns ++ said i ∷ []) (parts m xs) ≡ fields_from said (ns ++ said i ∷ []) xs → fields_from texts [] (parts m xs) ≡ fields_from said [] xs → here f i ns xs t b ≡ there i ns xs t b
    field_kept f i ns xs t true e g r = ap (λ n. fields_from texts (ns ++ n ∷ []) (parts m xs)) (same i (e refl)) ∙ g
    field_kept f i ns xs t false e g r = ap (fields_of ns t) r

    pub fields_kept : (ns : List (List ℕ)) (xs : Parts) → AreRead m xs → fields_from texts ns (parts m xs) ≡ fields_from said ns xs
    fields_kept ns [] e = refl
    fields_kept ns (None ∷ xs) e = fields_kept ns xs e
    fields_kept ns (Some (typed f i j l ps) ∷ xs) e =
        ap (here f i ns xs (named_type l.sort)) (field_name_moved m f)
        ∙ field_kept f i ns xs (named_type l.sort) (is_field_name f) (λ b. field_read m f i j l ps b e.0) (fields_kept (ns ++ said i ∷ []) xs e.1) (fields_kept [] xs e.1)
