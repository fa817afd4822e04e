-- What parts of statements take at their new places, and nodes over them.
use Rattle.std.proofs.Common.{◌≡◌, ◌∙◌, ℕ, ◌-◌, Bool, List, [], ◌∷◌, ◌++◌, map, length, Option, Some, None, refl, sym, ap}
use Rattle.std.specs.Prelude.{if◌then◌else◌, nat_lt, take, drop, replicate}
use Rattle.go_grammar.specs.declared.kind.Arithmetic.{Arithmetic}
use Rattle.go_grammar.specs.declared.kind.Kind.{Kind}
use Rattle.go_grammar.specs.declared.kind.Kind.TheVariants as kind
use Rattle.go_grammar.specs.declared.kind.Operator.TheVariants as operator
use Rattle.go_grammar.specs.declared.kind.Sort.TheVariants as declaring
use Rattle.go_types.specs.Trees.{TypeTree}
use Rattle.go_types.specs.Relations.{Rights}
use Rattle.go_typed.specs.declared.form.Form.{Form}
use Rattle.go_typed.specs.declared.form.Form.TheVariants as form
use Rattle.go_typed.specs.Trees.{typed, sort_of}
use Rattle.go_typed.specs.Trees as sort
use Rattle.go_exprs_rules.specs.declared.fault.TypeFault.{TypeFault}
use Rattle.go_exprs_rules.specs.Operators.{operation_takes}
use Rattle.go_exprs_rules.specs.Settling.{Part, default}
use Rattle.go_exprs_rules.specs.Sorts.{own_type, value_type}
use Rattle.go_exprs_rules.specs.Tables.{Parts, present, on_two, made}
use Rattle.go_stmts_defs.specs.Assigning.{Wanted, Taking, takes, stands, rests, type_or_default, value_types_by, names_take, declared_names, values_take, constant_in, constants_take, whole_results}
use Rattle.go_stmts_defs.specs.Frames.{Frame}
use Rattle.go_stmts_defs.specs.Laying.{form_by}
use Rattle.go_stmts_defs.specs.Rules.{known_type, type_there, values_there, names_in, split_at, rest, assign_takes, define_takes, variables_take, type_or_rest, specified_constants, returned, elements_stand, last_part, range_stands, is_first_number, first_type, target_there, operand_takes, loop_takes, taking, given_part, all_given, built_by}
use Rattle.go_exprs_elsewhere.specs.Elsewhere.{Moves, form_moved, placed}
use Rattle.go_exprs_elsewhere.proofs.Public.{two_kept, made_kept, optional, every, parts, sort_kept, present_kept, given_kept, fails}
use Rattle.go_stmts_elsewhere.specs.Frames.{AlongFrames, form_named, Named}
use Rattle.go_stmts_elsewhere.proofs.Arranging.{mapped_length, form_plain}
use Rattle.go_stmts_elsewhere.proofs.Assigning.{dropped_mapped, front_kept, back_kept, target_type_kept, results_kept, values_take_kept, assign_takes_kept, returned_kept}
use Rattle.go_stmts_elsewhere.proofs.Judging.{type_there_kept, values_there_kept, known_along, front_named, range_types_kept}
use Rattle.go_stmts_elsewhere.proofs.Naming.{AllNamed, made_named, given_named}

module _ (m : Moves) where
  value_types : (xs : List Part) → map (λ (x : Part). value_type (sort_of x)) (every m xs) ≡ map (λ (x : Part). value_type (sort_of x)) xs
  value_types [] = refl
  value_types (typed f i j l ps ∷ xs) = ap (λ ts. value_type l.sort ∷ ts) (value_types xs)

  types_by : (xs : List Part) (o : Option (List TypeTree)) → value_types_by (every m xs) o ≡ value_types_by xs o
  types_by xs (Some rs) = refl
  types_by xs None = value_types xs

  declared_kept : (rights : Rights) (ts : Wanted) (xs : List Part) → declared_names rights ts (every m xs) ≡ declared_names rights ts xs
  declared_kept rights ts xs = ap (λ o. names_take ts (value_types_by (every m xs) o)) (results_kept m rights xs) ∙ ap (names_take ts) (types_by xs (whole_results rights xs))

  constants_kept : {A : Type 0} (t : Option TypeTree) (ns : List A) (xs : List Part) → constants_take t ns (every m xs) ≡ constants_take t ns xs
  constants_kept t [] xs = refl
  constants_kept t (n ∷ ns) [] = refl
  constants_kept t (n ∷ ns) (typed f i j l ps ∷ xs) = ap (λ ks. stands (constant_in t l.sort) ∷ ks) (constants_kept t ns xs)

  each_rest : (t : Option TypeTree) (xs : List Part) → map (λ (x : Part). type_or_rest t) (every m xs) ≡ map (λ (x : Part). type_or_rest t) xs
  each_rest t [] = refl
  each_rest t (x ∷ xs) = ap (λ ks. type_or_rest t ∷ ks) (each_rest t xs)

  specified_kept : (n : ℕ) (t : Option TypeTree) (xs : List Part) → specified_constants n t (every m xs) ≡ specified_constants n t xs
  specified_kept n t xs =
      ap (λ ks. ks ++ (rests ∷ map (λ (x : Part). type_or_rest t) (every m xs))) (constants_kept t (replicate n t) xs)
      ∙ ap (λ ks. constants_take t (replicate n t) xs ++ (rests ∷ ks)) (each_rest t xs)

  variables_kept : (rights : Rights) (n : ℕ) (t : Option TypeTree) (xs : List Part) → variables_take rights n t (every m xs) ≡ variables_take rights n t xs
  variables_kept rights n t xs =
      let ts : Wanted = replicate n t in
      ap (λ ks. ks ++ (rests ∷ values_take ts (every m xs))) (declared_kept rights ts xs) ∙ ap (λ ks. declared_names rights ts xs ++ (rests ∷ ks)) (values_take_kept m ts xs)

  last_kept : (xs : List Part) → last_part (every m xs) ≡ optional m (last_part xs)
  last_kept [] = refl
  last_kept (x ∷ []) = refl
  last_kept (x ∷ y ∷ ys) = last_kept (y ∷ ys)

  range_kept : (rights : Rights) (n : ℕ) (x : Option Part) → range_stands rights n (optional m x) ≡ range_stands rights n x
  range_kept rights n None = refl
  range_kept rights n (Some x) = ap (elements_stand n) (range_types_kept m rights x)

  first_number_kept : (ys : Parts) → is_first_number (parts m ys) ≡ is_first_number ys
  first_number_kept [] = refl
  first_number_kept (None ∷ ys) = refl
  first_number_kept (Some (typed f i j l ps) ∷ ys) = refl

  first_type_kept : (ys : Parts) → first_type (parts m ys) ≡ first_type ys
  first_type_kept [] = refl
  first_type_kept (None ∷ ys) = refl
  first_type_kept (Some t ∷ ys) = target_type_kept m t

  operand_kept : (n : ℕ) (ys : Parts) → operand_takes n (parts m ys) ≡ operand_takes n ys
  operand_kept n ys =
      ap (λ zs. if is_first_number zs then type_or_default (target_there n (parts m ys)) else takes default) (dropped_mapped (optional m) n ys)
      ∙ ap (λ b. if b then type_or_default (target_there n (parts m ys)) else takes default) (first_number_kept (drop n ys))
      ∙ ap (λ t. if is_first_number (drop n ys) then type_or_default (if nat_lt 0 n then t else None) else takes default) (first_type_kept ys)

  loop_kept : (f : Form) (ys : Parts) → loop_takes f (parts m ys) ≡ loop_takes f ys
  loop_kept (form.Range b n) ys = ap (λ k. rest n ++ k ∷ []) (operand_kept n ys)
  loop_kept f ys = refl

  operated_kept : (rights : Rights) (o : Arithmetic) (ys : Parts)
      → on_two [] (λ x y. map takes (operation_takes rights (operator.Compute o) (sort_of x) (sort_of y))) (parts m ys) ≡ on_two [] (λ x y. map takes (operation_takes rights (operator.Compute o) (sort_of x) (sort_of y))) ys
  operated_kept rights o ys =
      two_kept m (λ (ks : List Taking). ks) [] (λ x y. map takes (operation_takes rights (operator.Compute o) (sort_of x) (sort_of y))) (λ x y. map takes (operation_takes rights (operator.Compute o) (sort_of x) (sort_of y)))
      (λ x y. ap (λ s. map takes (operation_takes rights (operator.Compute o) s (sort_of (placed m y)))) (sort_kept m x) ∙ ap (λ s. map takes (operation_takes rights (operator.Compute o) (sort_of x) s)) (sort_kept m y)) ys

  -- ---- what is given

  given_part_kept : (k : Taking) (x : Part) → given_part k (placed m x) ≡ placed m (given_part k x)
  given_part_kept (takes k) x = given_kept m k x
  given_part_kept (stands s) (typed f i j x ps) = refl

  pub all_given_kept : (ks : List Taking) (ys : Parts) → all_given ks (parts m ys) ≡ parts m (all_given ks ys)
  all_given_kept [] ys = refl
  all_given_kept (k ∷ ks) [] = refl
  all_given_kept (k ∷ ks) (None ∷ ys) = ap (λ zs. None ∷ zs) (all_given_kept ks ys)
  all_given_kept (k ∷ ks) (Some y ∷ ys) = ap (λ z. Some z ∷ all_given ks (parts m ys)) (given_part_kept k y) ∙ ap (λ zs. Some (placed m (given_part k y)) ∷ zs) (all_given_kept ks ys)

  made_along : (r : Form) → form_moved m r ≡ r → (i j : ℕ) (ys zs : Parts) → made r (m.token i) (m.token j) sort.Nothing (parts m ys) (parts m zs) ≡ placed m (made r i j sort.Nothing ys zs)
  made_along r e i j ys zs = ap (λ z. made z (m.token i) (m.token j) sort.Nothing (parts m ys) (parts m zs)) (sym e) ∙ made_kept m r i j sort.Nothing ys zs

  -- ---- in two frames

  module _ (l : ℕ → Bool) (f g : Frame) (c : AlongFrames m l f g) where
    abbrev old : Rights
    old = f.around.rights

    define_along : (ns xs : List Part) → AllNamed l (map (λ x. Some x) ns) → define_takes g (every m ns) (every m xs) ≡ define_takes f ns xs
    define_along ns xs e =
        let ts : Wanted = map (known_type f.locals) ns in
        ap (λ us. declared_names g.around.rights us (every m xs) ++ values_take us (every m xs)) (known_along m l f g c ns e)
        ∙ ap (λ r. declared_names r ts (every m xs) ++ values_take ts (every m xs)) c.rights
        ∙ ap (λ ks. ks ++ values_take ts (every m xs)) (declared_kept old ts xs)
        ∙ ap (λ ks. declared_names old ts xs ++ ks) (values_take_kept m ts xs)

    assign_along : (n : ℕ) (ys : Parts) → split_at n assign_takes (parts m ys) ≡ split_at n assign_takes ys
    assign_along n ys =
        ap (λ ts. assign_takes ts (drop n (present (parts m ys)))) (front_kept m n ys) ∙ ap (assign_takes (every m (take n (present ys)))) (back_kept m n ys)
        ∙ assign_takes_kept m (take n (present ys)) (drop n (present ys))

    taking_along : (k : Kind) (r : Form) (ys : Parts) → AllNamed l ys → taking g k r (parts m ys) ≡ taking f k r ys
    taking_along (kind.OperatorAssignment o) r ys n =
        ap (λ rights. on_two [] (λ x y. map takes (operation_takes rights (operator.Compute o) (sort_of x) (sort_of y))) (parts m ys)) c.rights ∙ operated_kept old o ys
    taking_along kind.Assignment r ys n = assign_along (names_in r) ys
    taking_along kind.Define r ys n =
        ap (λ ns. define_takes g ns (drop (names_in r) (present (parts m ys)))) (front_kept m (names_in r) ys)
        ∙ ap (define_takes g (every m (take (names_in r) (present ys)))) (back_kept m (names_in r) ys)
        ∙ define_along (take (names_in r) (present ys)) (drop (names_in r) (present ys)) (front_named m l f g c (names_in r) ys n)
    taking_along (kind.Specification declaring.Variable) r ys n =
        ap (λ rights. variables_take rights (names_in r) (type_there (names_in r) (parts m ys)) (values_there (names_in r) (parts m ys))) c.rights
        ∙ ap (λ t. variables_take old (names_in r) t (values_there (names_in r) (parts m ys))) (type_there_kept m (names_in r) ys)
        ∙ ap (variables_take old (names_in r) (type_there (names_in r) ys)) (values_there_kept m (names_in r) ys)
        ∙ variables_kept old (names_in r) (type_there (names_in r) ys) (values_there (names_in r) ys)
    taking_along (kind.Specification declaring.Constant) r ys n =
        ap (λ t. specified_constants (names_in r) t (values_there (names_in r) (parts m ys))) (type_there_kept m (names_in r) ys)
        ∙ ap (specified_constants (names_in r) (type_there (names_in r) ys)) (values_there_kept m (names_in r) ys)
        ∙ specified_kept (names_in r) (type_there (names_in r) ys) (values_there (names_in r) ys)
    taking_along kind.Return r ys n = ap (λ ts. returned ts (present (parts m ys))) c.results ∙ ap (returned f.results) (present_kept m ys) ∙ returned_kept m f.results (present ys)
    taking_along kind.For r ys n = loop_kept r ys
    taking_along kind.DefiningRange r ys n =
        ap (λ rights. range_stands rights (length (parts m ys) - 1) (last_part (present (parts m ys)))) c.rights
        ∙ ap (λ n. range_stands old (n - 1) (last_part (present (parts m ys)))) (mapped_length (optional m) ys)
        ∙ ap (λ xs. range_stands old (length ys - 1) (last_part xs)) (present_kept m ys) ∙ ap (range_stands old (length ys - 1)) (last_kept (present ys))
        ∙ range_kept old (length ys - 1) (last_part (present ys))
    taking_along kind.Case r ys n = ap (λ s. replicate (names_in r) (type_or_default (own_type s))) c.tag
    taking_along k r ys n = refl

    pub built_along : (k : Kind) (xs : Parts) (i j : ℕ) (ys : Parts) → AllNamed l ys → (es : List TypeFault)
        → built_by g k (form_by k xs) (m.token i) (m.token j) (parts m ys) (fails m es) ≡ placed m (built_by f k (form_by k xs) i j ys es)
    built_along k xs i j ys n [] =
        let r = form_by k xs in
        ap (λ ks. made r (m.token i) (m.token j) sort.Nothing (parts m ys) (all_given ks (parts m ys))) (taking_along k r ys n)
        ∙ ap (made r (m.token i) (m.token j) sort.Nothing (parts m ys)) (all_given_kept (taking f k r ys) ys)
        ∙ made_along r (form_plain m k xs) i j ys (all_given (taking f k r ys) ys)
    built_along k xs i j ys n (e ∷ es) = made_along (form_by k xs) (form_plain m k xs) i j ys ys

-- ---- the locals that they name

module _ (l : ℕ → Bool) where
  given_part_named : (k : Taking) (x : Part) → Named l x → Named l (given_part k x)
  given_part_named (takes k) x e = given_named l k x e
  given_part_named (stands s) (typed f i j a ps) e = e

  all_given_named : (ks : List Taking) (ys : Parts) → AllNamed l ys → AllNamed l (all_given ks ys)
  all_given_named [] ys e = e
  all_given_named (k ∷ ks) [] e = e
  all_given_named (k ∷ ks) (None ∷ ys) e = all_given_named ks ys e
  all_given_named (k ∷ ks) (Some y ∷ ys) e = (given_part_named k y e.0, all_given_named ks ys e.1)

  pub built_named : (f : Frame) (k : Kind) (r : Form) (i j : ℕ) (ys : Parts) (es : List TypeFault) → form_named l r → AllNamed l ys → Named l (built_by f k r i j ys es)
  built_named f k r i j ys [] e n = made_named l r i j sort.Nothing ys (all_given (taking f k r ys) ys) e (all_given_named (taking f k r ys) ys n)
  built_named f k r i j ys (x ∷ xs) e n = made_named l r i j sort.Nothing ys ys e n
