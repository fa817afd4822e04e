-- Nodes with other numbers of declared types.
use Rattle.std.proofs.Common.{◌≡◌, ◌∙◌, ℕ, ◌-◌, Bool, true, false, List, [], ◌∷◌, Option, Some, None, refl, ap}
use Rattle.std.specs.Prelude.{◌&&◌, ◌||◌, not, unwrap_or}
use Rattle.std.specs.List.{list_any}
use Rattle.go_grammar.specs.declared.kind.Kind.{Kind}
use Rattle.go_grammar.specs.declared.kind.Kind.TheVariants as kind
use Rattle.go_types.specs.Trees.{TypeTree, structure}
use Rattle.go_types.specs.Relations.{Rights}
use Rattle.go_typed.specs.declared.form.Form.{Form}
use Rattle.go_typed.specs.declared.form.Form.TheVariants as form
use Rattle.go_typed.specs.declared.form.Referent.TheVariants as referent
use Rattle.go_typed.specs.Trees.{Label, typed, row, sort_of, label_mapped}
use Rattle.go_typed.specs.Trees as sort
use Rattle.go_types_relations.specs.Renaming.{renamed, IsOneToOne, AreRenamed}
use Rattle.go_exprs_rules.specs.declared.fault.TypeFault.{TypeFault}
use Rattle.go_exprs_rules.specs.Calls.{call_failing, call_sort, call_takes}
use Rattle.go_exprs_rules.specs.Indexes.{field_number, selector_failing, selector_sort, index_failing, index_sort, slice_failing, slice_sort}
use Rattle.go_exprs_rules.specs.Literals.{literal_failing, literal_sort, literal_takes}
use Rattle.go_exprs_rules.specs.Names.{integer_failing, integer_constant, rune_constant, text_constant}
use Rattle.go_exprs_rules.specs.Operators.{unary_failing, unary_sort, unary_take, operation_failing, operation_sort, operation_takes}
use Rattle.go_exprs_rules.specs.Scopes.{Scope, Hint, member}
use Rattle.go_exprs_rules.specs.Settling.{Part, Take, stay, given}
use Rattle.go_exprs_rules.specs.Sorts.{Stands, is_constant, form_of_value}
use Rattle.go_exprs_rules.specs.Tables.{Parts, layout, on_one, on_optional, callee_form, field_count, key_in_struct, key_form, selector_form, bracketed_form, form_by, selector_rule, failing, sort_by, takes, all_given, is_variable_name, is_call, varies_in, calls_in, label, is_lost, is_judged, placing, own_faults, is_sound, made, built_by, built_on, built, found}
use Rattle.go_exprs_rules.specs.TypeNodes.{part_type, type_sort, sequence_failing, sequence_type, signature_type}
use Rattle.go_renumbering.specs.Renumbered.{stands_renamed, part_renamed, hint_renamed, RenamedScopes}
use Rattle.go_renumbering.proofs.Calls.{call_kept, call_sort_kept, call_takes_kept}
use Rattle.go_renumbering.proofs.Indexes.{number_same, selector_kept, selector_sort_kept, index_kept, index_sort_kept, slice_kept, slice_sort_kept}
use Rattle.go_renumbering.proofs.LaidOut.{layout_kept, one_kept, two_kept, first_kept, any_bracketed_kept, optional_kept, on_literal_kept}
use Rattle.go_renumbering.proofs.Literals.{literal_kept, literal_takes_kept, literal_sort_kept}
use Rattle.go_renumbering.proofs.Names.{name_sort_kept, name_form_kept}
use Rattle.go_renumbering.proofs.Operators.{takes_renamed, unary_take_kept, unary_kept, unary_sort_kept, operation_kept, operation_sort_kept, operation_takes_kept}
use Rattle.go_renumbering.proofs.Parts.{optional, every, parts, row_kept, some_kept}
use Rattle.go_renumbering.proofs.Settling.{sort_kept, given_kept, place_kept}
use Rattle.go_renumbering.proofs.Sorts.{maybe, constant_same, unknown_same, row_length_same, und, form_same}
use Rattle.go_renumbering.proofs.TypeNodes.{type_kept, type_sort_kept, sequence_kept, sequence_type_kept, signature_kept, struct_kept}

module _ (name : ℕ → ℕ) where
  abbrev now : Stands → Stands
  now x = stands_renamed name x

  abbrev itself : {A : Type 0} → A → A
  itself x = x

  -- ---- forms

  callee_same : (x : Stands) → callee_form (now x) ≡ callee_form x
  callee_same (sort.IsType t) = refl
  callee_same x = refl

  field_count_same : (o : Option TypeTree) → field_count (maybe name o) ≡ field_count o
  field_count_same None = refl
  field_count_same (Some (structure ns ts)) = row_length_same name ts
  field_count_same (Some t) = refl

  key_same : (o : Option TypeTree) (f : List ℕ) → key_in_struct (maybe name o) f ≡ key_in_struct o f
  key_same o f = let e = number_same name o f in let g = field_count_same o in cc

  bracketed_form_kept : (ys : Parts) → bracketed_form (parts name ys) ≡ bracketed_form ys
  bracketed_form_kept [] = refl
  bracketed_form_kept (x ∷ []) = refl
  bracketed_form_kept (x ∷ y ∷ []) = refl
  bracketed_form_kept (x ∷ y ∷ z ∷ zs) = refl

  module _ (one : IsOneToOne name) (old new : Rights) (same : AreRenamed name old new) where
    key_form_kept : (h : Hint) (f : List ℕ) → key_form new (hint_renamed name h) f ≡ key_form old h f
    key_form_kept (member t) f = ap (λ o. key_in_struct o f) (und name one old new same t) ∙ key_same _ f
    key_form_kept h f = refl

    selected : (f : List ℕ) (x : Stands) → form.Selector (unwrap_or (field_number (form_of_value new (now x)) f) 0) ≡ form.Selector (unwrap_or (field_number (form_of_value old x) f) 0)
    selected f x = let e = form_same name one old new same x in let g = number_same name (form_of_value old x) f in cc

    selector_form_kept : (f : List ℕ) (ys : Parts) → selector_form new f (parts name ys) ≡ selector_form old f ys
    selector_form_kept f [] = refl
    selector_form_kept f (None ∷ ys) = refl
    selector_form_kept f (Some (typed g i j l ps) ∷ []) = selected f l.sort
    selector_form_kept f (Some x ∷ y ∷ ys) = refl

  -- ---- a node

  pub judged_kept : (ys : Parts) → is_judged (parts name ys) ≡ is_judged ys
  judged_kept ys = ap not (some_kept name is_lost is_lost lost_kept ys)
    where
      lost_kept : (x : Option Part) → is_lost (optional name x) ≡ is_lost x
      lost_kept None = refl
      lost_kept (Some (typed f i j l ps)) = unknown_same name l.sort

  given_all_kept : (ks : List Take) (ys : Parts) → all_given (takes_renamed name ks) (parts name ys) ≡ parts name (all_given ks ys)
  given_all_kept [] ys = refl
  given_all_kept (k ∷ ks) [] = refl
  given_all_kept (k ∷ ks) (None ∷ ys) = ap (λ zs. None ∷ zs) (given_all_kept ks ys)
  given_all_kept (k ∷ ks) (Some y ∷ ys) =
      ap (λ z. Some z ∷ all_given (takes_renamed name ks) (parts name ys)) (given_kept name k y) ∙ ap (λ zs. Some (part_renamed name (given k y)) ∷ zs) (given_all_kept ks ys)

  pub variable_same : (f : Form) (x : Stands) → is_variable_name f (now x) ≡ is_variable_name f x
  variable_same (form.Local n) (sort.Value t) = refl
  variable_same (form.Object (referent.Variable n)) x = refl
  variable_same f x = refl

  label_kept : (f : Form) (x : Stands) (ys : Parts) → label f (now x) (parts name ys) ≡ label_mapped (renamed name) (label f x ys)
  label_kept f x ys =
      ap (λ b. let l : Label TypeTree = record { sort = now x; varies = is_variable_name f (now x) || b; calls = (is_call f && not (is_constant (now x))) || list_any calls_in (parts name ys) } in l)
      (some_kept name varies_in varies_in varies_kept ys)
      ∙ ap (λ b. let l : Label TypeTree = record { sort = now x; varies = b || list_any varies_in ys; calls = (is_call f && not (is_constant (now x))) || list_any calls_in (parts name ys) } in l) (variable_same f x)
      ∙ ap (λ b. let l : Label TypeTree = record { sort = now x; varies = is_variable_name f x || list_any varies_in ys; calls = (is_call f && not (is_constant (now x))) || b } in l)
      (some_kept name calls_in calls_in calls_kept ys)
      ∙ ap (λ b. let l : Label TypeTree = record { sort = now x; varies = is_variable_name f x || list_any varies_in ys; calls = (is_call f && not b) || list_any calls_in ys } in l) constant_kept
    where
      varies_kept : (x : Option Part) → varies_in (optional name x) ≡ varies_in x
      varies_kept None = refl
      varies_kept (Some (typed f i j l ps)) = refl

      calls_kept : (x : Option Part) → calls_in (optional name x) ≡ calls_in x
      calls_kept None = refl
      calls_kept (Some (typed f i j l ps)) = refl

      constant_kept : is_constant (now x) ≡ is_constant x
      constant_kept = let e = constant_same name x in cc

  pub made_kept : (f : Form) (i j : ℕ) (x : Stands) (ys zs : Parts) → made f i j (now x) (parts name ys) (parts name zs) ≡ part_renamed name (made f i j x ys zs)
  made_kept f i j x ys zs = ap (λ l. typed f i j l (row (parts name zs))) (label_kept f x ys) ∙ ap (typed f i j (label_mapped (renamed name) (label f x ys))) (row_kept name zs)

  module _ (s t : Scope) (c : RenamedScopes name s t) where
    abbrev told : Hint → Hint
    told h = hint_renamed name h

    form_kept : (k : Kind) (h : Hint) (i j : ℕ) (ys : Parts) → form_by t k (told h) i j (parts name ys) ≡ form_by s k h i j ys
    form_kept kind.Name h i j ys = name_form_kept name s t c h i
    form_kept kind.Selector h i j ys = ap (λ f. selector_form t.rights f (parts name ys)) (c.texts (j - 1)) ∙ selector_form_kept c.one_to_one s.rights t.rights c.rights (s.texts (j - 1)) ys
    form_kept kind.Bracketed h i j ys = bracketed_form_kept ys
    form_kept kind.Call h i j ys =
        first_kept name itself form.Call (λ f xs. callee_form (sort_of f)) (λ f xs. callee_form (sort_of f)) (λ x xs. ap callee_form (sort_kept name x) ∙ callee_same (sort_of x)) ys
    form_kept kind.Keyed h i j ys = ap (key_form t.rights (told h)) (c.texts i) ∙ key_form_kept c.one_to_one s.rights t.rights c.rights h (s.texts i)
    form_kept k h i j ys = refl

    failing_kept : (k : Kind) (h : Hint) (i j : ℕ) (ys : Parts) → failing t k (told h) i j (parts name ys) ≡ failing s k h i j ys
    failing_kept kind.Integer h i j ys = ap (integer_failing i j) (c.texts i)
    failing_kept (kind.Unary o) h i j ys =
        one_kept name itself [] (λ x. unary_failing s.rights o i j (sort_of x)) (λ x. unary_failing t.rights o i j (sort_of x))
        (λ x. ap (unary_failing t.rights o i j) (sort_kept name x) ∙ unary_kept name c.one_to_one s.rights t.rights c.rights o i j (sort_of x)) ys
    failing_kept (kind.Binary o) h i j ys =
        two_kept name itself [] (operation_failing s.rights o i j) (operation_failing t.rights o i j) (operation_kept name c.one_to_one s.rights t.rights c.rights o i j) ys
    failing_kept kind.Selector h i j ys =
        ap (λ f. selector_rule t.rights i j f (parts name ys)) (c.texts (j - 1))
        ∙ one_kept name itself [] (λ x. selector_failing s.rights i j (s.texts (j - 1)) (sort_of x)) (λ x. selector_failing t.rights i j (s.texts (j - 1)) (sort_of x))
        (λ x. ap (selector_failing t.rights i j (s.texts (j - 1))) (sort_kept name x) ∙ selector_kept name c.one_to_one s.rights t.rights c.rights i j (s.texts (j - 1)) (sort_of x)) ys
    failing_kept kind.Bracketed h i j ys =
        any_bracketed_kept name itself [] (λ x n. index_failing s.rights i j (sort_of x) n) (λ x low high. slice_failing s.rights i j (sort_of x) low high)
        (λ x n. index_failing t.rights i j (sort_of x) n) (λ x low high. slice_failing t.rights i j (sort_of x) low high)
        (λ x n. ap (λ z. index_failing t.rights i j z (part_renamed name n)) (sort_kept name x) ∙ index_kept name c.one_to_one s.rights t.rights c.rights i j (sort_of x) n)
        (λ x low high. ap (λ z. slice_failing t.rights i j z (optional name low) (optional name high)) (sort_kept name x) ∙ slice_kept name c.one_to_one s.rights t.rights c.rights i j (sort_of x) low high) ys
    failing_kept kind.Call h i j ys =
        first_kept name itself [] (λ f xs. call_failing s.rights i j (sort_of f) xs) (λ f xs. call_failing t.rights i j (sort_of f) xs)
        (λ x xs. ap (λ z. call_failing t.rights i j z (every name xs)) (sort_kept name x) ∙ call_kept name c.one_to_one s.rights t.rights c.rights i j (sort_of x) xs) ys
    failing_kept kind.Composite h i j ys = on_literal_kept name itself [] h (literal_failing s.rights i j) (literal_failing t.rights i j) (literal_kept name c.one_to_one s.rights t.rights c.rights i j) ys
    failing_kept kind.LiteralValue h i j ys = on_literal_kept name itself [] h (literal_failing s.rights i j) (literal_failing t.rights i j) (literal_kept name c.one_to_one s.rights t.rights c.rights i j) ys
    failing_kept kind.SequenceType h i j ys =
        ap (λ b. on_optional [] (sequence_failing t.rights b i j) (parts name ys)) c.limits
        ∙ optional_kept name itself [] (sequence_failing s.rights s.limits i j) (sequence_failing t.rights s.limits i j) (sequence_kept name c.one_to_one s.rights t.rights c.rights s.limits i j) ys
    failing_kept k h i j ys = refl

    one_sort_kept : (ys : Parts) → on_one sort.Unknown sort_of (parts name ys) ≡ now (on_one sort.Unknown sort_of ys)
    one_sort_kept ys = one_kept name now sort.Unknown sort_of sort_of (sort_kept name) ys

    sort_by_kept : (k : Kind) (h : Hint) (i j : ℕ) (ys : Parts) → sort_by t k (told h) i j (parts name ys) ≡ now (sort_by s k h i j ys)
    sort_by_kept kind.Name h i j ys = name_sort_kept name s t c h i
    sort_by_kept kind.Integer h i j ys = ap (λ w. sort.OpenConstant (integer_constant w)) (c.texts i)
    sort_by_kept kind.Rune h i j ys = ap (λ w. sort.OpenConstant (rune_constant w)) (c.characters i)
    sort_by_kept kind.Text h i j ys = ap (λ w. sort.OpenConstant (text_constant w)) (c.characters i)
    sort_by_kept kind.Parenthesized h i j ys = one_sort_kept ys
    sort_by_kept kind.ParenthesizedType h i j ys = one_sort_kept ys
    sort_by_kept (kind.Unary o) h i j ys =
        one_kept name now sort.Unknown (λ x. unary_sort s.rights o (sort_of x)) (λ x. unary_sort t.rights o (sort_of x))
        (λ x. ap (unary_sort t.rights o) (sort_kept name x) ∙ unary_sort_kept name c.one_to_one s.rights t.rights c.rights o (sort_of x)) ys
    sort_by_kept (kind.Binary o) h i j ys =
        two_kept name now sort.Unknown (λ x y. operation_sort s.rights o (sort_of x) (sort_of y)) (λ x y. operation_sort t.rights o (sort_of x) (sort_of y))
        (λ x y. ap (λ z. operation_sort t.rights o z (sort_of (part_renamed name y))) (sort_kept name x) ∙ ap (operation_sort t.rights o (now (sort_of x))) (sort_kept name y)
        ∙ operation_sort_kept name c.one_to_one s.rights t.rights c.rights o (sort_of x) (sort_of y)) ys
    sort_by_kept kind.Selector h i j ys =
        ap (λ f. on_one sort.Println (λ x. selector_sort t.rights f (sort_of x)) (parts name ys)) (c.texts (j - 1))
        ∙ one_kept name now sort.Println (λ x. selector_sort s.rights (s.texts (j - 1)) (sort_of x)) (λ x. selector_sort t.rights (s.texts (j - 1)) (sort_of x))
        (λ x. ap (selector_sort t.rights (s.texts (j - 1))) (sort_kept name x) ∙ selector_sort_kept name c.one_to_one s.rights t.rights c.rights (s.texts (j - 1)) (sort_of x)) ys
    sort_by_kept kind.Bracketed h i j ys =
        any_bracketed_kept name now sort.Unknown (λ x n. index_sort s.rights (sort_of x)) (λ x low high. slice_sort (sort_of x)) (λ x n. index_sort t.rights (sort_of x)) (λ x low high. slice_sort (sort_of x))
        (λ x n. ap (index_sort t.rights) (sort_kept name x) ∙ index_sort_kept name c.one_to_one s.rights t.rights c.rights (sort_of x))
        (λ x low high. ap slice_sort (sort_kept name x) ∙ slice_sort_kept name (sort_of x)) ys
    sort_by_kept kind.Call h i j ys =
        first_kept name now sort.Unknown (λ f xs. call_sort s.rights (sort_of f) xs) (λ f xs. call_sort t.rights (sort_of f) xs)
        (λ x xs. ap (λ z. call_sort t.rights z (every name xs)) (sort_kept name x) ∙ call_sort_kept name c.one_to_one s.rights t.rights c.rights (sort_of x) xs) ys
    sort_by_kept kind.Composite h i j ys = on_literal_kept name now sort.Unknown h (λ o xs. literal_sort o) (λ o xs. literal_sort o) (λ o xs. literal_sort_kept name o) ys
    sort_by_kept kind.LiteralValue h i j ys = on_literal_kept name now sort.Unknown h (λ o xs. literal_sort o) (λ o xs. literal_sort o) (λ o xs. literal_sort_kept name o) ys
    sort_by_kept kind.Keyed h i j ys = one_sort_kept ys
    sort_by_kept kind.SequenceType h i j ys =
        optional_kept name now sort.Unknown (λ n e. type_sort (sequence_type n (part_type e))) (λ n e. type_sort (sequence_type n (part_type e)))
        (λ n e. ap (λ o. type_sort (sequence_type (optional name n) o)) (type_kept name e) ∙ ap type_sort (sequence_type_kept name n (part_type e)) ∙ type_sort_kept name (sequence_type n (part_type e))) ys
    sort_by_kept kind.FunctionType h i j ys = one_sort_kept ys
    sort_by_kept kind.StructType h i j ys = ap sort.IsType (struct_kept name s.texts t.texts c.texts ys)
    sort_by_kept kind.Signature h i j ys =
        optional_kept name now sort.Unknown (λ ps rs. type_sort (signature_type ps rs)) (λ ps rs. type_sort (signature_type ps rs))
        (λ ps rs. ap type_sort (signature_kept name ps rs) ∙ type_sort_kept name (signature_type ps rs)) ys
    sort_by_kept k h i j ys = refl

    takes_kept : (k : Kind) (h : Hint) (ys : Parts) → takes t k (told h) (parts name ys) ≡ takes_renamed name (takes s k h ys)
    takes_kept (kind.Unary o) h ys =
        one_kept name (takes_renamed name) [] (λ x. unary_take (sort_of x) ∷ []) (λ x. unary_take (sort_of x) ∷ [])
        (λ x. ap (λ z. unary_take z ∷ []) (sort_kept name x) ∙ ap (λ z. z ∷ []) (unary_take_kept name (sort_of x))) ys
    takes_kept (kind.Binary o) h ys =
        two_kept name (takes_renamed name) [] (λ x y. operation_takes s.rights o (sort_of x) (sort_of y)) (λ x y. operation_takes t.rights o (sort_of x) (sort_of y))
        (λ x y. ap (λ z. operation_takes t.rights o z (sort_of (part_renamed name y))) (sort_kept name x) ∙ ap (operation_takes t.rights o (now (sort_of x))) (sort_kept name y)
        ∙ operation_takes_kept name c.one_to_one s.rights t.rights c.rights o (sort_of x) (sort_of y)) ys
    takes_kept kind.Call h ys =
        first_kept name (takes_renamed name) [] (λ f xs. stay ∷ call_takes s.rights (sort_of f) xs) (λ f xs. stay ∷ call_takes t.rights (sort_of f) xs)
        (λ x xs. ap (λ z. stay ∷ call_takes t.rights z (every name xs)) (sort_kept name x) ∙ ap (λ ks. stay ∷ ks) (call_takes_kept name c.one_to_one s.rights t.rights c.rights (sort_of x) xs)) ys
    takes_kept kind.Composite h ys =
        on_literal_kept name (takes_renamed name) [] h (λ o xs. stay ∷ literal_takes s.rights o xs) (λ o xs. stay ∷ literal_takes t.rights o xs)
        (λ o xs. ap (λ ks. stay ∷ ks) (literal_takes_kept name c.one_to_one s.rights t.rights c.rights o xs)) ys
    takes_kept kind.LiteralValue h ys =
        on_literal_kept name (takes_renamed name) [] h (λ o xs. stay ∷ literal_takes s.rights o xs) (λ o xs. stay ∷ literal_takes t.rights o xs)
        (λ o xs. ap (λ ks. stay ∷ ks) (literal_takes_kept name c.one_to_one s.rights t.rights c.rights o xs)) ys
    takes_kept k h ys = refl

    placing_kept : (k : Kind) (h : Hint) (i j : ℕ) (x : Stands) → placing t k (told h) i j (now x) ≡ placing s k h i j x
    placing_kept k h i j x = let e = place_kept name c.one_to_one s.rights t.rights c.rights h i j x in cc

    own_faults_kept : (k : Kind) (h : Hint) (i j : ℕ) (ys : Parts) → own_faults t k (told h) i j (parts name ys) ≡ own_faults s k h i j ys
    own_faults_kept k h i j ys =
        let b = judged_kept ys in
        let g = failing_kept k h i j ys in
        let f : placing t k (told h) i j (sort_by t k (told h) i j (parts name ys)) ≡ placing s k h i j (sort_by s k h i j ys) =
        ap (placing t k (told h) i j) (sort_by_kept k h i j ys) ∙ placing_kept k h i j (sort_by s k h i j ys) in
        cc

    sound_kept : (k : Kind) (ys : Parts) (fs : List TypeFault) → is_sound k (parts name ys) fs ≡ is_sound k ys fs
    sound_kept k ys fs = let b = judged_kept ys in cc

    built_by_kept : (k : Kind) (h : Hint) (i j : ℕ) (ys : Parts) (b : Bool) → built_by t k (told h) i j (parts name ys) b ≡ part_renamed name (built_by s k h i j ys b)
    built_by_kept k h i j ys true =
        let zs = parts name ys in
        ap (λ f. made f i j (sort_by t k (told h) i j zs) zs (all_given (takes t k (told h) zs) zs)) (form_kept k h i j ys)
        ∙ ap (λ x. made (form_by s k h i j ys) i j x zs (all_given (takes t k (told h) zs) zs)) (sort_by_kept k h i j ys)
        ∙ ap (λ ks. made (form_by s k h i j ys) i j (now (sort_by s k h i j ys)) zs (all_given ks zs)) (takes_kept k h ys)
        ∙ ap (made (form_by s k h i j ys) i j (now (sort_by s k h i j ys)) zs) (given_all_kept (takes s k h ys) ys)
        ∙ made_kept (form_by s k h i j ys) i j (sort_by s k h i j ys) ys (all_given (takes s k h ys) ys)
    built_by_kept k h i j ys false = ap (λ f. made f i j sort.Unknown (parts name ys) (parts name ys)) (form_kept k h i j ys) ∙ made_kept (form_by s k h i j ys) i j sort.Unknown ys ys

    built_on_kept : (k : Kind) (h : Hint) (i j : ℕ) (ys : Parts) → built_on t k (told h) i j (parts name ys) ≡ part_renamed name (built_on s k h i j ys)
    built_on_kept k h i j ys =
        ap (λ fs. built_by t k (told h) i j (parts name ys) (is_sound k (parts name ys) fs)) (own_faults_kept k h i j ys)
        ∙ ap (built_by t k (told h) i j (parts name ys)) (sound_kept k ys (own_faults s k h i j ys))
        ∙ built_by_kept k h i j ys (is_sound k ys (own_faults s k h i j ys))

    pub built_kept : (k : Kind) (h : Hint) (i j : ℕ) (xs : Parts) → built t k (told h) i j (parts name xs) ≡ part_renamed name (built s k h i j xs)
    built_kept k h i j xs = ap (built_on t k (told h) i j) (layout_kept name k xs) ∙ built_on_kept k h i j (layout k xs)

    pub found_kept : (k : Kind) (h : Hint) (i j : ℕ) (xs : Parts) → found t k (told h) i j (parts name xs) ≡ found s k h i j xs
    found_kept k h i j xs = ap (own_faults t k (told h) i j) (layout_kept name k xs) ∙ own_faults_kept k h i j (layout k xs)
