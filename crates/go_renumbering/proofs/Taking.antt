-- What the parts of statements take, with other numbers of declared types.
use Rattle.std.proofs.Common.{◌≡◌, ◌∙◌, ℕ, ◌-◌, List, [], ◌∷◌, ◌++◌, map, length, Option, Some, None, refl, sym, ap, cond}
use Rattle.std.specs.Prelude.{take, drop, replicate, nat_lt, ◌==◌}
use Rattle.std.proofs.lemmas.List.{map-append}
use Rattle.go_grammar.specs.declared.kind.Arithmetic.{Arithmetic}
use Rattle.go_grammar.specs.declared.kind.Kind.{Kind}
use Rattle.go_grammar.specs.declared.kind.Kind.TheVariants as kind
use Rattle.go_grammar.specs.declared.kind.Sort.TheVariants as declaring
use Rattle.go_grammar.specs.declared.kind.Operator.TheVariants as operator
use Rattle.go_types.specs.Trees.{TypeTree}
use Rattle.go_types.specs.Relations.{Rights}
use Rattle.go_types_relations.specs.Renaming.{renamed}
use Rattle.go_typed.specs.declared.form.Form.{Form}
use Rattle.go_typed.specs.declared.form.Form.TheVariants as form
use Rattle.go_typed.specs.Trees.{Label, typed, sort_of, label_mapped}
use Rattle.go_typed.specs.Trees as sort
use Rattle.go_exprs_rules.specs.declared.fault.TypeFault.{TypeFault}
use Rattle.go_exprs_rules.specs.Operators.{operation_takes}
use Rattle.go_exprs_rules.specs.Settling.{Part, Take, default, as_type}
use Rattle.go_exprs_rules.specs.Sorts.{own_type}
use Rattle.go_exprs_rules.specs.Tables.{Parts, present, made}
use Rattle.go_stmts_defs.specs.Assigning.{Wanted, Taking, takes, stands, rests, type_or_default, declared_names, values_take, constants_take}
use Rattle.go_stmts_defs.specs.Frames.{Frame}
use Rattle.go_stmts_defs.specs.Rules.{target_type, known_type, type_there, values_there, names_in, split_at, rest, assign_takes, define_takes, variables_take, type_or_rest, specified_constants, returned, type_stands, elements_stand, last_part, range_stands, range_types, is_first_number, first_type, target_there, operand_takes, loop_takes, taking, judges, own_faults, failing, given_part, given_optional, all_given, built_by}
use Rattle.go_renumbering.specs.Renumbered.{part_renamed}
use Rattle.go_renumbering.proofs.LaidOut.{two_kept}
use Rattle.go_renumbering.proofs.Nodes.{made_kept, judged_kept}
use Rattle.go_renumbering.proofs.Operators.{takes_renamed, operation_takes_kept}
use Rattle.go_renumbering.proofs.Parts.{branches, optional, every, parts, count_kept, present_kept}
use Rattle.go_renumbering.proofs.Settling.{take_renamed, given_kept}
use Rattle.go_renumbering.proofs.Sorts.{maybe, own_same}
use Rattle.go_renumbering.specs.Frames.{RenamedFrames}
use Rattle.go_renumbering.proofs.Arranging.{taken_mapped}
use Rattle.go_renumbering.proofs.Assigning.{mapped_length, wanted_renamed, types_renamed, some_types, taking_renamed, takings_renamed, type_or_default_same, values_take_same, constants_take_same, declared_names_same}
use Rattle.go_renumbering.proofs.Judging.{dropped_mapped, repeated_mapped, target_type_same, target_types, open_number_same, known_types, type_there_same, values_there_same, front_kept, back_kept, range_types_same, failing_kept}

module _ (name : ℕ → ℕ) where
  abbrev now : List Taking → List Taking
  now ks = takings_renamed name ks

  joined : (ks ls ms ns : List Taking) → ms ≡ now ks → ns ≡ now ls → ms ++ ns ≡ now (ks ++ ls)
  joined ks ls ms ns e f = ap (λ z. z ++ ns) e ∙ ap (λ z. now ks ++ z) f ∙ sym (map-append (taking_renamed name) ks ls)

  rest_same : (n : ℕ) → rest n ≡ now (rest n)
  rest_same n = repeated_mapped (taking_renamed name) n rests

  assign_same : (ts xs : List Part) → assign_takes (every name ts) (every name xs) ≡ now (assign_takes ts xs)
  assign_same ts xs =
      joined (rest (length ts)) (values_take (map target_type ts) xs) (rest (length (every name ts))) (values_take (map target_type (every name ts)) (every name xs))
      (ap rest (count_kept name ts) ∙ rest_same (length ts))
      (ap (λ us. values_take us (every name xs)) (target_types name ts) ∙ values_take_same name (map target_type ts) xs)

  type_rest : (t : Option TypeTree) → type_or_rest (maybe name t) ≡ taking_renamed name (type_or_rest t)
  type_rest None = refl
  type_rest (Some t) = refl

  each_rest : (t : Option TypeTree) (xs : List Part) → map (λ (x : Part). type_or_rest (maybe name t)) (every name xs) ≡ now (map (λ (x : Part). type_or_rest t) xs)
  each_rest t [] = refl
  each_rest t (x ∷ xs) = let e = type_rest t in let f = each_rest t xs in cc

  specified_same : (n : ℕ) (t : Option TypeTree) (xs : List Part) → specified_constants n (maybe name t) (every name xs) ≡ now (specified_constants n t xs)
  specified_same n t xs =
      joined (constants_take t (replicate n t) xs) (rests ∷ map (λ x. type_or_rest t) xs) (constants_take (maybe name t) (replicate n (maybe name t)) (every name xs)) (rests ∷ map (λ x. type_or_rest (maybe name t)) (every name xs))
      (constants_take_same name t (replicate n t) (replicate n (maybe name t)) xs (ap length (repeated_mapped (maybe name) n t) ∙ mapped_length (maybe name) (replicate n t)))
      (ap (λ ks. rests ∷ ks) (each_rest t xs))

  each_returned : (ts : List TypeTree) → map (λ (t : TypeTree). takes (as_type t)) (types_renamed name ts) ≡ now (map (λ (t : TypeTree). takes (as_type t)) ts)
  each_returned [] = refl
  each_returned (t ∷ ts) = ap (λ ks. takes (as_type (renamed name t)) ∷ ks) (each_returned ts)

  returned_same : (ts : List TypeTree) (xs : List Part) → returned (types_renamed name ts) (every name xs) ≡ now (returned ts xs)
  returned_same ts xs =
      ap (λ n. cond (n == length (every name xs)) (map (λ t. takes (as_type t)) (types_renamed name ts)) []) (mapped_length (renamed name) ts)
      ∙ ap (λ n. cond (length ts == n) (map (λ t. takes (as_type t)) (types_renamed name ts)) []) (count_kept name xs)
      ∙ ap (λ ks. cond (length ts == length xs) ks []) (each_returned ts)
      ∙ branches now (length ts == length xs) (map (λ t. takes (as_type t)) ts) []

  each_stands : (ts : List TypeTree) → map type_stands (types_renamed name ts) ≡ now (map type_stands ts)
  each_stands [] = refl
  each_stands (t ∷ ts) = ap (λ ks. stands (sort.Value (renamed name t)) ∷ ks) (each_stands ts)

  elements_same : (n : ℕ) (o : Option (List TypeTree)) → elements_stand n (some_types name o) ≡ now (elements_stand n o)
  elements_same n None = repeated_mapped (taking_renamed name) n (stands sort.Unknown)
  elements_same n (Some rs) = ap (take n) (each_stands rs) ∙ taken_mapped (taking_renamed name) n (map type_stands rs)

  last_same : (xs : List Part) → last_part (every name xs) ≡ optional name (last_part xs)
  last_same [] = refl
  last_same (x ∷ []) = refl
  last_same (x ∷ y ∷ ys) = last_same (y ∷ ys)

  first_number_same : (ys : Parts) → is_first_number (parts name ys) ≡ is_first_number ys
  first_number_same [] = refl
  first_number_same (None ∷ ys) = refl
  first_number_same (Some (typed f i j l ps) ∷ ys) = open_number_same name l.sort

  first_type_same : (ys : Parts) → first_type (parts name ys) ≡ maybe name (first_type ys)
  first_type_same [] = refl
  first_type_same (None ∷ ys) = refl
  first_type_same (Some t ∷ ys) = target_type_same name t

  target_there_same : (n : ℕ) (ys : Parts) → target_there n (parts name ys) ≡ maybe name (target_there n ys)
  target_there_same n ys = ap (λ o. cond (nat_lt 0 n) o None) (first_type_same ys) ∙ branches (maybe name) (nat_lt 0 n) (first_type ys) None

  operand_same : (n : ℕ) (ys : Parts) → operand_takes n (parts name ys) ≡ taking_renamed name (operand_takes n ys)
  operand_same n ys =
      let b = is_first_number (drop n ys) in
      let k = type_or_default (target_there n ys) in
      ap (λ zs. cond (is_first_number zs) (type_or_default (target_there n (parts name ys))) (takes default)) (dropped_mapped (optional name) n ys)
      ∙ ap (λ c. cond c (type_or_default (target_there n (parts name ys))) (takes default)) (first_number_same (drop n ys))
      ∙ ap (λ t. cond b (type_or_default t) (takes default)) (target_there_same n ys)
      ∙ ap (λ z. cond b z (takes default)) (type_or_default_same name (target_there n ys))
      ∙ branches (taking_renamed name) b k (takes default)

  loop_same : (f : Form) (ys : Parts) → loop_takes f (parts name ys) ≡ now (loop_takes f ys)
  loop_same (form.Range b n) ys = joined (rest n) (operand_takes n ys ∷ []) (rest n) (operand_takes n (parts name ys) ∷ []) (rest_same n) (ap (λ k. k ∷ []) (operand_same n ys))
  loop_same f ys = refl

  each_take : (ks : List Take) → map takes (takes_renamed name ks) ≡ now (map takes ks)
  each_take [] = refl
  each_take (k ∷ ks) = ap (λ z. takes (take_renamed name k) ∷ z) (each_take ks)

  given_one : (k : Taking) (x : Part) → given_part (taking_renamed name k) (part_renamed name x) ≡ part_renamed name (given_part k x)
  given_one (takes k) x = given_kept name k x
  given_one (stands s) (typed f i j l ps) = refl

  given_maybe : (k : Taking) (x : Option Part) → given_optional (taking_renamed name k) (optional name x) ≡ optional name (given_optional k x)
  given_maybe k None = refl
  given_maybe k (Some x) = ap Some (given_one k x)

  all_given_kept : (ks : List Taking) (ys : Parts) → all_given (now ks) (parts name ys) ≡ parts name (all_given ks ys)
  all_given_kept [] ys = refl
  all_given_kept (k ∷ ks) [] = refl
  all_given_kept (k ∷ ks) (y ∷ ys) = let e = given_maybe k y in let f = all_given_kept ks ys in cc

  module _ (f g : Frame) (c : RenamedFrames name f g) where
    abbrev old : Rights
    old = f.around.rights

    abbrev new : Rights
    new = g.around.rights

    define_same : (ns xs : List Part) → define_takes g (every name ns) (every name xs) ≡ now (define_takes f ns xs)
    define_same ns xs =
        let ts : Wanted = map (known_type f.locals) ns in
        let e : map (known_type g.locals) (every name ns) ≡ wanted_renamed name ts = ap (λ ls. map (known_type ls) (every name ns)) c.locals ∙ known_types name f.locals ns in
        joined (declared_names old ts xs) (values_take ts xs) (declared_names new (map (known_type g.locals) (every name ns)) (every name xs)) (values_take (map (known_type g.locals) (every name ns)) (every name xs))
        (ap (λ us. declared_names new us (every name xs)) e ∙ declared_names_same name c.one_to_one old new c.rights ts xs)
        (ap (λ us. values_take us (every name xs)) e ∙ values_take_same name ts xs)

    variables_same : (n : ℕ) (t : Option TypeTree) (xs : List Part) → variables_take new n (maybe name t) (every name xs) ≡ now (variables_take old n t xs)
    variables_same n t xs =
        let ts : Wanted = replicate n t in
        let e : replicate n (maybe name t) ≡ wanted_renamed name ts = repeated_mapped (maybe name) n t in
        joined (declared_names old ts xs) (rests ∷ values_take ts xs) (declared_names new (replicate n (maybe name t)) (every name xs)) (rests ∷ values_take (replicate n (maybe name t)) (every name xs))
        (ap (λ us. declared_names new us (every name xs)) e ∙ declared_names_same name c.one_to_one old new c.rights ts xs)
        (ap (λ us. rests ∷ values_take us (every name xs)) e ∙ ap (λ ks. rests ∷ ks) (values_take_same name ts xs))

    range_same : (n : ℕ) (x : Option Part) → range_stands new n (optional name x) ≡ now (range_stands old n x)
    range_same n None = refl
    range_same n (Some x) = ap (elements_stand n) (range_types_same name c.one_to_one old new c.rights x) ∙ elements_same n (range_types old x)

    split_same : (n : ℕ) (r s : List Part → List Part → List Taking) → ((us vs : List Part) → s (every name us) (every name vs) ≡ now (r us vs)) → (ys : Parts) → split_at n s (parts name ys) ≡ now (split_at n r ys)
    split_same n r s e ys =
        ap (λ us. s us (drop n (present (parts name ys)))) (front_kept name n ys) ∙ ap (s (every name (take n (present ys)))) (back_kept name n ys) ∙ e (take n (present ys)) (drop n (present ys))

    operated_same : (o : Arithmetic) (x y : Part) → map takes (operation_takes new (operator.Compute o) (sort_of (part_renamed name x)) (sort_of (part_renamed name y)))
        ≡ now (map takes (operation_takes old (operator.Compute o) (sort_of x) (sort_of y)))
    operated_same o (typed p i j l ps) (typed q a b m qs) =
        ap (λ ks. map takes ks) (operation_takes_kept name c.one_to_one old new c.rights (operator.Compute o) l.sort m.sort) ∙ each_take (operation_takes old (operator.Compute o) l.sort m.sort)

    tag_same : (n : ℕ) → replicate n (type_or_default (own_type g.tag)) ≡ now (replicate n (type_or_default (own_type f.tag)))
    tag_same n =
        ap (λ s. replicate n (type_or_default (own_type s))) c.tag ∙ ap (λ t. replicate n (type_or_default t)) (own_same name f.tag)
        ∙ ap (replicate n) (type_or_default_same name (own_type f.tag)) ∙ repeated_mapped (taking_renamed name) n (type_or_default (own_type f.tag))

    taking_kept : (k : Kind) (r : Form) (ys : Parts) → taking g k r (parts name ys) ≡ now (taking f k r ys)
    taking_kept (kind.OperatorAssignment o) r ys =
        two_kept name now [] (λ x y. map takes (operation_takes old (operator.Compute o) (sort_of x) (sort_of y))) (λ x y. map takes (operation_takes new (operator.Compute o) (sort_of x) (sort_of y))) (operated_same o) ys
    taking_kept kind.Assignment r ys = split_same (names_in r) assign_takes assign_takes assign_same ys
    taking_kept kind.Define r ys = split_same (names_in r) (define_takes f) (define_takes g) define_same ys
    taking_kept (kind.Specification declaring.Variable) r ys =
        ap (λ t. variables_take new (names_in r) t (values_there (names_in r) (parts name ys))) (type_there_same name (names_in r) ys)
        ∙ ap (variables_take new (names_in r) (maybe name (type_there (names_in r) ys))) (values_there_same name (names_in r) ys)
        ∙ variables_same (names_in r) (type_there (names_in r) ys) (values_there (names_in r) ys)
    taking_kept (kind.Specification declaring.Constant) r ys =
        ap (λ t. specified_constants (names_in r) t (values_there (names_in r) (parts name ys))) (type_there_same name (names_in r) ys)
        ∙ ap (specified_constants (names_in r) (maybe name (type_there (names_in r) ys))) (values_there_same name (names_in r) ys)
        ∙ specified_same (names_in r) (type_there (names_in r) ys) (values_there (names_in r) ys)
    taking_kept kind.Return r ys =
        ap (λ ts. returned ts (present (parts name ys))) c.results ∙ ap (returned (types_renamed name f.results)) (present_kept name ys) ∙ returned_same f.results (present ys)
    taking_kept kind.For r ys = loop_same r ys
    taking_kept kind.DefiningRange r ys =
        ap (λ n. range_stands new (n - 1) (last_part (present (parts name ys)))) (mapped_length (optional name) ys)
        ∙ ap (λ xs. range_stands new (length ys - 1) (last_part xs)) (present_kept name ys) ∙ ap (range_stands new (length ys - 1)) (last_same (present ys)) ∙ range_same (length ys - 1) (last_part (present ys))
    taking_kept kind.Case r ys = tag_same (names_in r)
    taking_kept k r ys = refl

    -- ---- a node

    judges_same : (k : Kind) (ys : Parts) → judges k (parts name ys) ≡ judges k ys
    judges_same kind.For ys = refl
    judges_same k ys = judged_kept name ys

    pub own_faults_kept : (k : Kind) (r : Form) (i j : ℕ) (ys : Parts) → own_faults g k r i j (parts name ys) ≡ own_faults f k r i j ys
    own_faults_kept k r i j ys = ap (λ b. cond b (failing g k r i j (parts name ys)) []) (judges_same k ys) ∙ ap (λ fs. cond (judges k ys) fs []) (failing_kept name f g c k r i j ys)

    pub built_by_kept : (k : Kind) (r : Form) (i j : ℕ) (ys : Parts) (fs : List TypeFault) → built_by g k r i j (parts name ys) fs ≡ part_renamed name (built_by f k r i j ys fs)
    built_by_kept k r i j ys [] =
        ap (λ ks. made r i j sort.Nothing (parts name ys) (all_given ks (parts name ys))) (taking_kept k r ys)
        ∙ ap (made r i j sort.Nothing (parts name ys)) (all_given_kept (taking f k r ys) ys) ∙ made_kept name r i j sort.Nothing ys (all_given (taking f k r ys) ys)
    built_by_kept k r i j ys (e ∷ es) = made_kept name r i j sort.Nothing ys ys
