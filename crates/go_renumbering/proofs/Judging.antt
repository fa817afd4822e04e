-- The rules of statements with other numbers of declared types.
use Rattle.std.proofs.Common.{◌≡◌, ◌∙◌, ℕ, zero, suc, Bool, true, false, List, [], ◌∷◌, ◌++◌, map, Option, Some, None, refl, ap, cond}
use Rattle.std.specs.Prelude.{take, drop, replicate}
use Rattle.std.specs.Option.{option_map}
use Rattle.go_base.specs.declared.fault.FaultCode.TheVariants as code
use Rattle.go_grammar.specs.declared.kind.Arithmetic.{Arithmetic}
use Rattle.go_grammar.specs.declared.kind.Kind.{Kind}
use Rattle.go_grammar.specs.declared.kind.Kind.TheVariants as kind
use Rattle.go_grammar.specs.declared.kind.Sort.TheVariants as declaring
use Rattle.go_grammar.specs.declared.kind.Comparison.TheVariants as comparison
use Rattle.go_grammar.specs.declared.kind.Operator.TheVariants as operator
use Rattle.go_types.specs.Trees.{TypeTree, array}
use Rattle.go_types.specs.Relations.{Rights}
use Rattle.go_types_relations.specs.Renaming.{renamed, IsOneToOne, AreRenamed}
use Rattle.go_types_relations.proofs.Public.{scalars_renamed}
use Rattle.go_typed.specs.declared.form.Form.{Form}
use Rattle.go_typed.specs.declared.form.Form.TheVariants as form
use Rattle.go_typed.specs.Trees.{typed, Typeds, sort_of, form_of, first_of, last_of}
use Rattle.go_typed.specs.Trees as sort
use Rattle.go_exprs_rules.specs.declared.fault.TypeFault.{TypeFault}
use Rattle.go_exprs_rules.specs.Operators.{compared_failing, operation_failing}
use Rattle.go_exprs_rules.specs.Settling.{Part, at_part}
use Rattle.go_exprs_rules.specs.Sorts.{Stands, is_truth, is_text, is_whole, value_type, element_of, form_of_value, int, rune}
use Rattle.go_exprs_rules.specs.Tables.{Parts, present, on_one}
use Rattle.go_exprs_rules.specs.TypeNodes.{part_type}
use Rattle.go_stmts_defs.specs.Assigning.{assignment_failing, at_nil}
use Rattle.go_stmts_defs.specs.Frames.{Frame, Locals, rights_of, with_own_right}
use Rattle.go_stmts_defs.specs.Laying.{local_named}
use Rattle.go_stmts_defs.specs.Rules.{each, not_a_target, not_a_variable, target_type, assign_failing, form_type, known_type, define_failing, step_failing, type_there, values_there, variables_failing, constants_counted, is_late, late_limits, all_late_limits, first_fault, type_failing, condition_failing, second_condition, tag_failing, second_tag, tag_at, case_failing, element_types, number_types, range_types, element_unassigned, elements_unassigned, number_target, is_open_number, number_unassigned, numbers_unassigned, range_assigned, targets_failing, range_failing, loop_failing, has_results, function_failing, names_in, split_at, failing}
use Rattle.go_stmts_defs.specs.Targets.{is_statement_call}
use Rattle.go_renumbering.specs.Renumbered.{stands_renamed, part_renamed}
use Rattle.go_renumbering.proofs.LaidOut.{one_kept, two_kept}
use Rattle.go_renumbering.proofs.Nodes.{made_kept}
use Rattle.go_renumbering.proofs.Operators.{operation_kept, compared_failing_same}
use Rattle.go_renumbering.proofs.Parts.{optional, every, parts, inner, count_kept, present_kept}
use Rattle.go_renumbering.proofs.Settling.{at_part_kept, undefaulted_kept}
use Rattle.go_renumbering.proofs.Sorts.{maybe, own_same, unknown_same, nil_same, element_same, value_same, family_same, whole_same, text_same, form_same, assignable_same}
use Rattle.go_renumbering.proofs.TypeNodes.{type_kept}
use Rattle.go_renumbering.specs.Frames.{locals_renamed, RenamedFrames}
use Rattle.go_renumbering.proofs.Arranging.{taken_mapped}
use Rattle.go_renumbering.proofs.Assigning.{wanted_renamed, types_renamed, some_types, some_each, at_nil_same, unassigned_same, assignment_same, constants_failing_same}
use Rattle.go_renumbering.proofs.Ending.{terminates_same, statement_call_same, variable_kept, target_kept}
use Rattle.go_renumbering.proofs.Framed.{declared_type_same}
use Rattle.go_renumbering.proofs.Placing.{own_right_renamed}

pub dropped_mapped : {A B : Type 0} (f : A → B) (n : ℕ) (xs : List A) → drop n (map f xs) ≡ map f (drop n xs)
dropped_mapped f zero xs = refl
dropped_mapped f (suc n) [] = refl
dropped_mapped f (suc n) (x ∷ xs) = dropped_mapped f n xs

pub repeated_mapped : {A B : Type 0} (f : A → B) (n : ℕ) (x : A) → replicate n (f x) ≡ map f (replicate n x)
repeated_mapped f zero x = refl
repeated_mapped f (suc n) x = ap (λ ys. f x ∷ ys) (repeated_mapped f n x)

module _ (name : ℕ → ℕ) where
  abbrev itself : {A : Type 0} → A → A
  itself x = x

  each_kept : (f g : Part → List TypeFault) → ((x : Part) → g (part_renamed name x) ≡ f x) → (xs : List Part) → each g (every name xs) ≡ each f xs
  each_kept f g e [] = refl
  each_kept f g e (x ∷ xs) = let h = e x in let k = each_kept f g e xs in cc

  pub target_type_same : (x : Part) → target_type (part_renamed name x) ≡ maybe name (target_type x)
  target_type_same (typed f i j l ps) = own_same name l.sort

  pub target_types : (xs : List Part) → map target_type (every name xs) ≡ wanted_renamed name (map target_type xs)
  target_types [] = refl
  target_types (x ∷ xs) = let e = target_type_same x in let f = target_types xs in cc

  pub open_number_same : (x : Stands) → is_open_number (stands_renamed name x) ≡ is_open_number x
  open_number_same (sort.OpenConstant c) = refl
  open_number_same x = refl

  number_target_same : (ts : List Part) → number_target (every name ts) ≡ maybe name (number_target ts)
  number_target_same [] = refl
  number_target_same (t ∷ ts) = target_type_same t

  form_type_same : (ls : Locals) (f : Form) → form_type (locals_renamed name ls) f ≡ maybe name (form_type ls f)
  form_type_same ls (form.Local n) = declared_type_same name ls n
  form_type_same ls f = refl

  known_type_same : (ls : Locals) (x : Part) → known_type (locals_renamed name ls) (part_renamed name x) ≡ maybe name (known_type ls x)
  known_type_same ls (typed f i j l ps) = form_type_same ls f

  pub known_types : (ls : Locals) (xs : List Part) → map (known_type (locals_renamed name ls)) (every name xs) ≡ wanted_renamed name (map (known_type ls) xs)
  known_types ls [] = refl
  known_types ls (x ∷ xs) = let e = known_type_same ls x in let f = known_types ls xs in cc

  pub type_there_same : (n : ℕ) (ys : Parts) → type_there n (parts name ys) ≡ maybe name (type_there n ys)
  type_there_same zero [] = refl
  type_there_same zero (y ∷ ys) = type_kept name y
  type_there_same (suc n) [] = refl
  type_there_same (suc n) (y ∷ ys) = type_there_same n ys

  pub values_there_same : (n : ℕ) (ys : Parts) → values_there n (parts name ys) ≡ every name (values_there n ys)
  values_there_same n ys = ap present (dropped_mapped (optional name) (suc n) ys) ∙ present_kept name (drop (suc n) ys)

  pub front_kept : (n : ℕ) (ys : Parts) → take n (present (parts name ys)) ≡ every name (take n (present ys))
  front_kept n ys = ap (take n) (present_kept name ys) ∙ taken_mapped (part_renamed name) n (present ys)

  pub back_kept : (n : ℕ) (ys : Parts) → drop n (present (parts name ys)) ≡ every name (drop n (present ys))
  back_kept n ys = ap (drop n) (present_kept name ys) ∙ dropped_mapped (part_renamed name) n (present ys)

  tag_at_kept : (tag : Stands) (x : Part) → tag_at (stands_renamed name tag) (part_renamed name x) ≡ part_renamed name (tag_at tag x)
  tag_at_kept tag (typed f i j l ps) = made_kept name form.Literal i j tag [] []

  some_results : (ts : List TypeTree) → has_results (types_renamed name ts) ≡ has_results ts
  some_results [] = refl
  some_results (t ∷ ts) = refl

  function_kept : (ts : List TypeTree) (j : ℕ) (x : Part) → function_failing (types_renamed name ts) j (part_renamed name x) ≡ function_failing ts j x
  function_kept ts j x = let e = some_results ts in let f = terminates_same name x in cc

module _ (name : ℕ → ℕ) (one : IsOneToOne name) (old new : Rights) (same : AreRenamed name old new) where
  not_target_kept : (x : Part) → not_a_target new (part_renamed name x) ≡ not_a_target old x
  not_target_kept (typed f i j l ps) = let e = target_kept name one old new same (typed f i j l ps) in cc

  not_variable_kept : (x : Part) → not_a_variable new (part_renamed name x) ≡ not_a_variable old x
  not_variable_kept (typed f i j l ps) = let e = variable_kept name one old new same (typed f i j l ps) in cc

  assign_kept : (i j : ℕ) (ts xs : List Part) → assign_failing new i j (every name ts) (every name xs) ≡ assign_failing old i j ts xs
  assign_kept i j ts xs =
      let e = each_kept name (not_a_target old) (not_a_target new) not_target_kept ts in
      let f = target_types name ts in
      let g = assignment_same name one old new same i j (map target_type ts) xs in
      cc

  step_kept : (i j : ℕ) (x : Part) → step_failing new i j (part_renamed name x) ≡ step_failing old i j x
  step_kept i j (typed f a b l ps) = let e = not_variable_kept (typed f a b l ps) in let h = whole_same name one old new same l.sort in cc

  variables_kept : (i j n : ℕ) (t : Option TypeTree) (xs : List Part) → variables_failing new i j n (maybe name t) (every name xs) ≡ variables_failing old i j n t xs
  variables_kept i j n t [] = refl
  variables_kept i j n t (x ∷ xs) =
      ap (λ ts. assignment_failing new i j ts (every name (x ∷ xs))) (repeated_mapped (maybe name) n t) ∙ assignment_same name one old new same i j (replicate n t) (x ∷ xs)

  constants_kept : (i j n : ℕ) (t : Option TypeTree) (xs : List Part) → constants_counted new i j n (maybe name t) (every name xs) ≡ constants_counted old i j n t xs
  constants_kept i j n t xs = let e = count_kept name xs in let f = constants_failing_same name one old new same t xs in cc

  module _ (before behind : Rights) (later : AreRenamed name before behind) where
    late_same : (x : Stands) → is_late new behind (stands_renamed name x) ≡ is_late old before x
    late_same (sort.IsType (array n t)) = let e = scalars_renamed name old new same (array n t) in let f = scalars_renamed name before behind later (array n t) in cc
    late_same (sort.IsType t) = refl
    late_same x = refl

    mutual
      late_limits_kept : (x : Part) → late_limits new behind (part_renamed name x) ≡ late_limits old before x
      late_limits_kept (typed f i j l ps) = let e = late_same l.sort in let g = all_late_kept ps in cc

      all_late_kept : (ps : Typeds TypeTree) → all_late_limits new behind (inner name ps) ≡ all_late_limits old before ps
      all_late_kept sort.none = refl
      all_late_kept (sort.more x ps) = let e = late_limits_kept x in let f = all_late_kept ps in cc
      all_late_kept (sort.skip ps) = all_late_kept ps

  -- ---- conditions, tags, cases and range clauses

  truth_same : (x : Stands) → is_truth new (stands_renamed name x) ≡ is_truth old x
  truth_same x = let e = family_same name one old new same x in cc

  condition_kept : (x : Option Part) → condition_failing new (optional name x) ≡ condition_failing old x
  condition_kept None = refl
  condition_kept (Some (typed f i j l ps)) = let e = truth_same l.sort in cc

  second_condition_kept : (ys : Parts) → second_condition new (parts name ys) ≡ second_condition old ys
  second_condition_kept [] = refl
  second_condition_kept (y ∷ []) = refl
  second_condition_kept (y ∷ z ∷ zs) = condition_kept z

  tag_kept : (x : Option Part) → tag_failing new (optional name x) ≡ tag_failing old x
  tag_kept None = refl
  tag_kept (Some (typed f i j l ps)) = let e = nil_same name l.sort in let h = undefaulted_kept name one old new same (typed f i j l ps) in cc

  second_tag_kept : (ys : Parts) → second_tag new (parts name ys) ≡ second_tag old ys
  second_tag_kept [] = refl
  second_tag_kept (y ∷ []) = refl
  second_tag_kept (y ∷ z ∷ zs) = tag_kept z

  compared_kept : (tag : Stands) (x : Part)
      → compared_failing new comparison.Equal (first_of (part_renamed name x)) (last_of (part_renamed name x)) (tag_at (stands_renamed name tag) (part_renamed name x)) (part_renamed name x)
      ≡ compared_failing old comparison.Equal (first_of x) (last_of x) (tag_at tag x) x
  compared_kept tag (typed f i j l ps) =
      let x = typed f i j l ps in
      ap (λ z. compared_failing new comparison.Equal i j z (part_renamed name x)) (tag_at_kept name tag x) ∙ compared_failing_same name one old new same comparison.Equal i j (tag_at tag x) x

  case_kept : (tag : Stands) (x : Part) → case_failing new (stands_renamed name tag) (part_renamed name x) ≡ case_failing old tag x
  case_kept tag x = let e = unknown_same name tag in let f = compared_kept tag x in cc

  element_types_same : (o : Option TypeTree) → element_types (maybe name o) ≡ some_types name (element_types o)
  element_types_same None = refl
  element_types_same (Some t) = refl

  number_types_same : (o : Option TypeTree) → number_types (maybe name o) ≡ some_types name (number_types o)
  number_types_same None = refl
  number_types_same (Some t) = refl

  elements_same : (x : Stands) → element_types (element_of (form_of_value new (stands_renamed name x))) ≡ some_types name (element_types (element_of (form_of_value old x)))
  elements_same x =
      ap (λ u. element_types (element_of u)) (form_same name one old new same x) ∙ ap element_types (element_same name (form_of_value old x)) ∙ element_types_same (element_of (form_of_value old x))

  numbers_same : (x : Stands) → number_types (value_type (stands_renamed name x)) ≡ some_types name (number_types (value_type x))
  numbers_same x = ap number_types (value_same name x) ∙ number_types_same (value_type x)

  either_same : (b : Bool) (us vs ts rs : Option (List TypeTree)) → us ≡ some_types name ts → vs ≡ some_types name rs → cond b us vs ≡ some_types name (cond b ts rs)
  either_same true us vs ts rs e f = e
  either_same false us vs ts rs e f = f

  pub range_types_same : (x : Part) → range_types new (part_renamed name x) ≡ some_types name (range_types old x)
  range_types_same (typed f i j l ps) =
      let x = l.sort in
      let y = stands_renamed name x in
      let both : Option (List TypeTree) = Some (int ∷ rune ∷ []) in
      let numbers = number_types (value_type x) in
      let new_numbers = number_types (value_type y) in
      let elements = element_types (element_of (form_of_value old x)) in
      let new_elements = element_types (element_of (form_of_value new y)) in
      ap (λ b. cond b both (cond (is_whole new y) new_numbers new_elements)) (text_same name one old new same x)
      ∙ ap (λ b. cond (is_text old x) both (cond b new_numbers new_elements)) (whole_same name one old new same x)
      ∙ either_same (is_text old x) both (cond (is_whole old x) new_numbers new_elements) both (cond (is_whole old x) numbers elements) refl
      (either_same (is_whole old x) new_numbers new_elements numbers elements (numbers_same x) (elements_same x))

  element_unassigned_kept : (x : Part) (t : Option TypeTree) (r : TypeTree) → element_unassigned new (part_renamed name x) (maybe name t) (renamed name r) ≡ element_unassigned old x t r
  element_unassigned_kept x None r = refl
  element_unassigned_kept (typed f i j l ps) (Some t) r = let e = assignable_same name one old new same r t in cc

  elements_kept : (x : Part) (ts : List Part) (rs : List TypeTree) → elements_unassigned new (part_renamed name x) (every name ts) (types_renamed name rs) ≡ elements_unassigned old x ts rs
  elements_kept x [] rs = refl
  elements_kept x (t ∷ ts) [] = refl
  elements_kept x (t ∷ ts) (r ∷ rs) =
      let e = target_type_same name t in
      let f = element_unassigned_kept x (target_type t) r in
      let g = elements_kept x ts rs in
      cc

  number_unassigned_kept : (ts : List Part) (x : Part) (rs : List TypeTree) → number_unassigned new (every name ts) (part_renamed name x) (types_renamed name rs) ≡ number_unassigned old ts x rs
  number_unassigned_kept ts x rs = let e = undefaulted_kept name one old new same x in let f = elements_kept x ts rs in cc

  numbers_kept : (i j : ℕ) (ts : List Part) (x : Part) (rs : List TypeTree) → numbers_unassigned new i j (every name ts) (part_renamed name x) (types_renamed name rs) ≡ numbers_unassigned old i j ts x rs
  numbers_kept i j ts (typed f a b l ps) rs =
      let x = typed f a b l ps in
      let c = count_kept name ts in
      let n = open_number_same name l.sort in
      let t = number_target_same name ts in
      let u = unassigned_same name one old new same (number_target ts) x in
      let v = number_unassigned_kept ts x rs in
      cc

  range_assigned_kept : (i j : ℕ) (ts : List Part) (x : Part) (o : Option (List TypeTree)) → range_assigned new i j (every name ts) (part_renamed name x) (some_types name o) ≡ range_assigned old i j ts x o
  range_assigned_kept i j ts x None = at_part_kept name _ x
  range_assigned_kept i j ts (typed f a b l ps) (Some rs) =
      let w = whole_same name one old new same l.sort in
      let n = numbers_kept i j ts (typed f a b l ps) rs in
      let e = elements_kept (typed f a b l ps) ts rs in
      cc

  targets_kept : (b : Bool) (ts : List Part) → targets_failing new b (every name ts) ≡ targets_failing old b ts
  targets_kept true ts = refl
  targets_kept false ts = each_kept name (not_a_target old) (not_a_target new) not_target_kept ts

  range_kept : (i j : ℕ) (b : Bool) (ts xs : List Part) → range_failing new i j b (every name ts) (every name xs) ≡ range_failing old i j b ts xs
  range_kept i j b ts [] = refl
  range_kept i j b ts (x ∷ xs) =
      let e = targets_kept b ts in
      let f = range_types_same x in
      let g = range_assigned_kept i j ts x (range_types old x) in
      cc

  loop_kept : (f : Form) (i j : ℕ) (ys : Parts) → loop_failing new f i j (parts name ys) ≡ loop_failing old f i j ys
  loop_kept (form.Range b n) i j ys =
      ap (λ ts. range_failing new i j b ts (drop n (present (parts name ys)))) (front_kept name n ys) ∙ ap (range_failing new i j b (every name (take n (present ys)))) (back_kept name n ys)
      ∙ range_kept i j b (take n (present ys)) (drop n (present ys))
  loop_kept f i j ys = second_condition_kept ys

-- ---- the rules that fail

module _ (name : ℕ → ℕ) (f g : Frame) (c : RenamedFrames name f g) where
  abbrev old : Rights
  old = f.around.rights

  abbrev new : Rights
  new = g.around.rights

  define_kept : (i j : ℕ) (ns xs : List Part) → define_failing g i j (every name ns) (every name xs) ≡ define_failing f i j ns xs
  define_kept i j ns xs =
      let e = each_kept name at_nil at_nil (at_nil_same name) xs in
      let l = c.locals in
      let k = known_types name f.locals ns in
      let h = assignment_same name c.one_to_one old new c.rights i j (map (known_type f.locals) ns) xs in
      cc

  type_kept_so : (i : ℕ) (x : Part) → type_failing g i (part_renamed name x) ≡ type_failing f i x
  type_kept_so i x =
      let own = own_right_renamed name f g c (local_named (f.around.objects i)) (part_type (Some x)) in
      ap (λ o. first_fault (late_limits new (rights_of (with_own_right (option_map g.types (local_named o)) (part_type (Some (part_renamed name x))) g)) (part_renamed name x))) (c.objects i)
      ∙ ap (λ t. first_fault (late_limits new (rights_of (with_own_right (option_map g.types (local_named (f.around.objects i))) t g)) (part_renamed name x))) (type_kept name (Some x))
      ∙ ap first_fault (late_limits_kept name c.one_to_one old new c.rights
      (rights_of (with_own_right (option_map f.types (local_named (f.around.objects i))) (part_type (Some x)) f))
      (rights_of (with_own_right (option_map g.types (local_named (f.around.objects i))) (maybe name (part_type (Some x))) g)) own.rights x)

  split_kept : (n : ℕ) (r s : List Part → List Part → List TypeFault) → ((us vs : List Part) → s (every name us) (every name vs) ≡ r us vs) → (ys : Parts) → split_at n s (parts name ys) ≡ split_at n r ys
  split_kept n r s e ys =
      ap (λ us. s us (drop n (present (parts name ys)))) (front_kept name n ys) ∙ ap (s (every name (take n (present ys)))) (back_kept name n ys) ∙ e (take n (present ys)) (drop n (present ys))

  operated_kept : (o : Arithmetic) (i j : ℕ) (x y : Part) → not_a_variable new (part_renamed name x) ++ operation_failing new (operator.Compute o) i j (part_renamed name x) (part_renamed name y)
      ≡ not_a_variable old x ++ operation_failing old (operator.Compute o) i j x y
  operated_kept o i j x y =
      let e = not_variable_kept name c.one_to_one old new c.rights x in
      let h = operation_kept name c.one_to_one old new c.rights (operator.Compute o) i j x y in
      cc

  returned_kept : (i j : ℕ) (ys : Parts) → assignment_failing new i j (map (λ t. Some t) g.results) (present (parts name ys)) ≡ assignment_failing old i j (map (λ t. Some t) f.results) (present ys)
  returned_kept i j ys =
      ap (λ ts. assignment_failing new i j (map (λ t. Some t) ts) (present (parts name ys))) c.results
      ∙ ap (λ ts. assignment_failing new i j ts (present (parts name ys))) (some_each name f.results)
      ∙ ap (assignment_failing new i j (wanted_renamed name (map (λ t. Some t) f.results))) (present_kept name ys)
      ∙ assignment_same name c.one_to_one old new c.rights i j (map (λ t. Some t) f.results) (present ys)

  pub failing_kept : (k : Kind) (r : Form) (i j : ℕ) (ys : Parts) → failing g k r i j (parts name ys) ≡ failing f k r i j ys
  failing_kept kind.ExpressionStatement r i j ys = one_kept name (λ (z : List TypeFault). z) [] (λ x. cond (is_statement_call x) [] (at_part code.UnusedValue x)) (λ x. cond (is_statement_call x) [] (at_part code.UnusedValue x)) statement_kept ys
    where
      statement_kept : (x : Part) → cond (is_statement_call (part_renamed name x)) [] (at_part code.UnusedValue (part_renamed name x)) ≡ cond (is_statement_call x) [] (at_part code.UnusedValue x)
      statement_kept x = let e = statement_call_same name x in let h = at_part_kept name code.UnusedValue x in cc
  failing_kept (kind.StepStatement o) r i j ys = one_kept name (λ (z : List TypeFault). z) [] (step_failing old i j) (step_failing new i j) (step_kept name c.one_to_one old new c.rights i j) ys
  failing_kept (kind.OperatorAssignment o) r i j ys = two_kept name (λ (z : List TypeFault). z) [] (λ x y. not_a_variable old x ++ operation_failing old (operator.Compute o) i j x y)
      (λ x y. not_a_variable new x ++ operation_failing new (operator.Compute o) i j x y) (operated_kept o i j) ys
  failing_kept kind.Assignment r i j ys = split_kept (names_in r) (assign_failing old i j) (assign_failing new i j) (assign_kept name c.one_to_one old new c.rights i j) ys
  failing_kept kind.Define r i j ys = split_kept (names_in r) (define_failing f i j) (define_failing g i j) (define_kept i j) ys
  failing_kept (kind.Specification declaring.Variable) r i j ys =
      ap (λ t. variables_failing new i j (names_in r) t (values_there (names_in r) (parts name ys))) (type_there_same name (names_in r) ys)
      ∙ ap (variables_failing new i j (names_in r) (maybe name (type_there (names_in r) ys))) (values_there_same name (names_in r) ys)
      ∙ variables_kept name c.one_to_one old new c.rights i j (names_in r) (type_there (names_in r) ys) (values_there (names_in r) ys)
  failing_kept (kind.Specification declaring.Constant) r i j ys =
      ap (λ t. constants_counted new i j (names_in r) t (values_there (names_in r) (parts name ys))) (type_there_same name (names_in r) ys)
      ∙ ap (constants_counted new i j (names_in r) (maybe name (type_there (names_in r) ys))) (values_there_same name (names_in r) ys)
      ∙ constants_kept name c.one_to_one old new c.rights i j (names_in r) (type_there (names_in r) ys) (values_there (names_in r) ys)
  failing_kept (kind.Specification declaring.Type) r i j ys = two_kept name (λ (z : List TypeFault). z) [] (λ n x. type_failing f i x) (λ n x. type_failing g i x) (λ n x. type_kept_so i x) ys
  failing_kept kind.Return r i j ys = returned_kept i j ys
  failing_kept kind.If r i j ys = second_condition_kept name c.one_to_one old new c.rights ys
  failing_kept kind.For r i j ys = loop_kept name c.one_to_one old new c.rights r i j ys
  failing_kept kind.Switch r i j ys = second_tag_kept name c.one_to_one old new c.rights ys
  failing_kept kind.Case r i j ys =
      ap (λ z. each (case_failing new z) (take (names_in r) (present (parts name ys)))) c.tag ∙ ap (each (case_failing new (stands_renamed name f.tag))) (front_kept name (names_in r) ys)
      ∙ each_kept name (case_failing old f.tag) (case_failing new (stands_renamed name f.tag)) (case_kept name c.one_to_one old new c.rights f.tag) (take (names_in r) (present ys))
  failing_kept kind.FunctionDeclaration r i j ys =
      ap (λ ts. on_one [] (function_failing ts j) (parts name ys)) c.results ∙ one_kept name (λ (z : List TypeFault). z) [] (function_failing f.results j) (function_failing (types_renamed name f.results) j) (function_kept name f.results j) ys
  failing_kept k r i j ys = refl
