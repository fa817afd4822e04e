-- Nodes elsewhere.
use Rattle.std.proofs.Common.{◌≡◌, ◌∙◌, ℕ, ◌-◌, Bool, true, false, List, [], ◌∷◌, ◌++◌, Option, Some, None, refl, sym, ap}
use Rattle.std.specs.Prelude.{◌^◌, ◌&&◌, ◌||◌, not, nat_lt, if◌then◌else◌}
use Rattle.std.specs.List.{list_any}
use Rattle.std.proofs.lemmas.List.{map-append}
use Rattle.go_base.specs.declared.fault.FaultCode.TheVariants as code
use Rattle.go_tokens.specs.Literals.{integer_value}
use Rattle.go_grammar.specs.declared.kind.Kind.{Kind}
use Rattle.go_grammar.specs.declared.kind.Kind.TheVariants as kind
use Rattle.go_types.specs.Trees.{TypeTree}
use Rattle.go_types.specs.Relations.{Rights}
use Rattle.go_typed.specs.declared.form.Form.{Form}
use Rattle.go_typed.specs.declared.form.Form.TheVariants as form
use Rattle.go_typed.specs.Trees.{Label, typed, row, list_of, sort_of}
use Rattle.go_typed.specs.Trees as sort
use Rattle.go_exprs_rules.specs.declared.fault.TypeFault.{TypeFault}
use Rattle.go_exprs_rules.specs.Faults.{fault_at, or_else}
use Rattle.go_exprs_rules.specs.Calls.{call_failing, call_sort, call_takes}
use Rattle.go_exprs_rules.specs.Indexes.{selector_failing, selector_sort, index_failing, index_sort, slice_failing, slice_sort}
use Rattle.go_exprs_rules.specs.Literals.{literal_failing, literal_sort, literal_takes}
use Rattle.go_exprs_rules.specs.Names.{integer_constant, rune_constant, text_constant, integer_failing, place_failing, not_a_value, one_value, too_many, is_no_value, is_no_type, is_no_callee, is_no_target, is_no_statement, are_results, need_of, name_sort, object_form, form_or_type, name_form}
use Rattle.go_exprs_rules.specs.Operators.{unary_failing, unary_sort, unary_take, operation_failing, operation_sort, operation_takes}
use Rattle.go_exprs_rules.specs.Scopes.{Scope, Hint, several, type_place, loose, inside, one_inside, loose_inside, callee, statement, target, declares, free, member}
use Rattle.go_exprs_rules.specs.Settling.{Part, Take, stay, given}
use Rattle.go_exprs_rules.specs.Sorts.{Stands, is_constant}
use Rattle.go_exprs_rules.specs.Tables.{Parts, is_held, held, all_held, leaf, is_type, cut, first_cut, is_make_call, call_parts, has_no_low, bounds_of, bracketed_parts, is_package, selector_parts, behind_first, layout, present, on_one, on_two, on_first, on_bracketed, on_optional}
use Rattle.go_exprs_rules.specs.Tables.{callee_form, key_form, selector_form, bracketed_form, form_by, literal_type, on_literal, selector_rule, failing, sort_by, takes, all_given, is_variable_name, is_call, varies_in, calls_in, label, is_lost, is_judged, is_placed, placing, own_faults, no_faults, is_sound, made, built_by, built_on, built, found}
use Rattle.go_exprs_rules.specs.TypeNodes.{part_type, type_sort, sequence_failing, sequence_type, signature_type, structure_of}
use Rattle.go_exprs_elsewhere.specs.Elsewhere.{Moves, form_moved, placed, all_placed, MeansAlong, LastSpelled}
use Rattle.go_exprs_elsewhere.proofs.Along.{Meant, along}
use Rattle.go_exprs_elsewhere.proofs.Calls.{call_kept, call_sort_kept, call_takes_kept}
use Rattle.go_exprs_elsewhere.proofs.Indexes.{selector_kept, index_kept, slice_kept}
use Rattle.go_exprs_elsewhere.proofs.Literals.{literal_kept, literal_takes_kept}
use Rattle.go_exprs_elsewhere.proofs.Operators.{unary_kept, operation_kept}
use Rattle.go_exprs_elsewhere.proofs.Parts.{held_moved, variable_moved, call_moved, optional, every, parts, fails, sort_kept, list_kept, row_kept, present_kept, either, either_of, or_else_kept, no_faults_kept, some_kept}
use Rattle.go_exprs_elsewhere.proofs.Settling.{given_kept}
use Rattle.go_exprs_elsewhere.proofs.Spelling.{Spelled}
use Rattle.go_exprs_elsewhere.proofs.TypeNodes.{type_kept, sequence_kept, sequence_type_kept, signature_kept, fields_kept}

module _ (m : Moves) where
  -- ---- how parts are laid out

  pub held_kept : (x : Option Part) → held (optional m x) ≡ parts m (held x)
  held_kept None = refl
  held_kept (Some (typed f i j l ps)) =
      ap (λ b. if b then list_of (all_placed m ps) else Some (placed m (typed f i j l ps)) ∷ []) (held_moved m f)
      ∙ ap (λ xs. if is_held f then xs else Some (placed m (typed f i j l ps)) ∷ []) (list_kept m ps) ∙ by (is_held f)
    where
      by : (b : Bool) → (if b then parts m (list_of ps) else Some (placed m (typed f i j l ps)) ∷ []) ≡ parts m (if b then list_of ps else Some (typed f i j l ps) ∷ [])
      by true = refl
      by false = refl

  pub all_held_kept : (xs : Parts) → all_held (parts m xs) ≡ parts m (all_held xs)
  all_held_kept [] = refl
  all_held_kept (x ∷ xs) = ap (λ ys. ys ++ all_held (parts m xs)) (held_kept x) ∙ ap (λ ys. parts m (held x) ++ ys) (all_held_kept xs) ∙ sym (map-append (optional m) (held x) (all_held xs))

  cut_kept : (x : Option Part) → cut (optional m x) ≡ optional m (cut x)
  cut_kept None = refl
  cut_kept (Some (typed f i j l ps)) = by (is_type l.sort)
    where
      by : (b : Bool) → (if b then Some (leaf (placed m (typed f i j l ps))) else Some (placed m (typed f i j l ps))) ≡ optional m (if b then Some (leaf (typed f i j l ps)) else Some (typed f i j l ps))
      by true = refl
      by false = refl

  pub first_cut_kept : (xs : Parts) → first_cut (parts m xs) ≡ parts m (first_cut xs)
  first_cut_kept [] = refl
  first_cut_kept (x ∷ xs) = ap (λ y. y ∷ parts m xs) (cut_kept x)

  make_call_kept : (x : Option Part) (xs : Parts) → is_make_call (optional m x ∷ parts m xs) ≡ is_make_call (x ∷ xs)
  make_call_kept None xs = refl
  make_call_kept (Some (typed f i j l ps)) xs = refl

  call_parts_kept : (xs : Parts) → call_parts (parts m xs) ≡ parts m (call_parts xs)
  call_parts_kept [] = refl
  call_parts_kept (f ∷ xs) =
      ap (λ b. if b then optional m f ∷ first_cut (parts m xs) else cut (optional m f) ∷ parts m xs) (make_call_kept f xs)
      ∙ ap (λ ys. if is_make_call (f ∷ xs) then optional m f ∷ ys else cut (optional m f) ∷ parts m xs) (first_cut_kept xs)
      ∙ ap (λ y. if is_make_call (f ∷ xs) then optional m f ∷ parts m (first_cut xs) else y ∷ parts m xs) (cut_kept f)
      ∙ by (is_make_call (f ∷ xs))
    where
      by : (b : Bool) → (if b then optional m f ∷ parts m (first_cut xs) else optional m (cut f) ∷ parts m xs) ≡ parts m (if b then f ∷ first_cut xs else cut f ∷ xs)
      by true = refl
      by false = refl

  no_low_kept : (x : Option Part) → has_no_low (optional m x) ≡ has_no_low x
  no_low_kept None = refl
  no_low_kept (Some (typed (form.Held kind.Bounds) i j l ps)) = refl
  no_low_kept (Some (typed f i j l ps)) = refl

  bounds_kept : (x : Option Part) → bounds_of (optional m x) ≡ parts m (bounds_of x)
  bounds_kept x =
      ap (λ b. if b then None ∷ held (optional m x) else held (optional m x)) (no_low_kept x) ∙ ap (λ ys. if has_no_low x then None ∷ ys else ys) (held_kept x) ∙ by (has_no_low x)
    where
      by : (b : Bool) → (if b then None ∷ parts m (held x) else parts m (held x)) ≡ parts m (if b then None ∷ held x else held x)
      by true = refl
      by false = refl

  bracketed_kept : (xs : Parts) → bracketed_parts (parts m xs) ≡ parts m (bracketed_parts xs)
  bracketed_kept [] = refl
  bracketed_kept (x ∷ []) = refl
  bracketed_kept (x ∷ y ∷ ys) = ap (λ zs. optional m x ∷ zs) (bounds_kept y)

  selector_parts_kept : (xs : Parts) → selector_parts (parts m xs) ≡ parts m (selector_parts xs)
  selector_parts_kept [] = refl
  selector_parts_kept (None ∷ xs) = refl
  selector_parts_kept (Some (typed f i j l ps) ∷ []) = by (is_package l.sort)
    where
      by : (b : Bool) → (if b then [] else Some (placed m (typed f i j l ps)) ∷ []) ≡ parts m (if b then [] else Some (typed f i j l ps) ∷ [])
      by true = refl
      by false = refl
  selector_parts_kept (Some x ∷ y ∷ ys) = refl

  pub behind_kept : (xs : Parts) → behind_first (parts m xs) ≡ parts m (behind_first xs)
  behind_kept [] = refl
  behind_kept (x ∷ xs) = refl

  layout_kept : (k : Kind) (xs : Parts) → layout k (parts m xs) ≡ parts m (layout k xs)
  layout_kept kind.Selector xs = selector_parts_kept xs
  layout_kept kind.Bracketed xs = bracketed_kept xs
  layout_kept kind.Call xs = call_parts_kept xs
  layout_kept kind.Composite xs = first_cut_kept xs
  layout_kept kind.LiteralValue xs = refl
  layout_kept kind.Keyed xs = behind_kept xs
  layout_kept kind.Fields xs = all_held_kept xs
  layout_kept kind.StructType xs = all_held_kept xs
  layout_kept k xs = refl

  -- ---- by the places of parts

  pub one_kept : {A B : Type 0} (g : A → B) (d : A) (f : Part → A) (u : Part → B) → ((x : Part) → u (placed m x) ≡ g (f x)) → (xs : Parts) → on_one (g d) u (parts m xs) ≡ g (on_one d f xs)
  one_kept g d f u e [] = refl
  one_kept g d f u e (None ∷ xs) = refl
  one_kept g d f u e (Some x ∷ []) = e x
  one_kept g d f u e (Some x ∷ y ∷ ys) = refl

  pub two_kept : {A B : Type 0} (g : A → B) (d : A) (f : Part → Part → A) (u : Part → Part → B) → ((x y : Part) → u (placed m x) (placed m y) ≡ g (f x y)) → (xs : Parts) → on_two (g d) u (parts m xs) ≡ g (on_two d f xs)
  two_kept g d f u e [] = refl
  two_kept g d f u e (None ∷ xs) = refl
  two_kept g d f u e (Some x ∷ []) = refl
  two_kept g d f u e (Some x ∷ None ∷ ys) = refl
  two_kept g d f u e (Some x ∷ Some y ∷ []) = e x y
  two_kept g d f u e (Some x ∷ Some y ∷ z ∷ zs) = refl

  pub first_kept : {A B : Type 0} (g : A → B) (d : A) (f : Part → List Part → A) (u : Part → List Part → B) → ((x : Part) (ys : List Part) → u (placed m x) (every m ys) ≡ g (f x ys)) → (xs : Parts) → on_first (g d) u (parts m xs) ≡ g (on_first d f xs)
  first_kept g d f u e [] = refl
  first_kept g d f u e (None ∷ xs) = refl
  first_kept g d f u e (Some x ∷ xs) = ap (u (placed m x)) (present_kept m xs) ∙ e x (present xs)

  any_bracketed_kept : {A B : Type 0} (g : A → B) (d : A) (f : Part → Part → A) (h : Part → Option Part → Option Part → A) (u : Part → Part → B) (v : Part → Option Part → Option Part → B)
      → ((x y : Part) → u (placed m x) (placed m y) ≡ g (f x y)) → ((x : Part) (y z : Option Part) → v (placed m x) (optional m y) (optional m z) ≡ g (h x y z)) → (xs : Parts)
      → on_bracketed (g d) u v (parts m xs) ≡ g (on_bracketed d f h xs)
  any_bracketed_kept g d f h u v e k [] = refl
  any_bracketed_kept g d f h u v e k (None ∷ xs) = refl
  any_bracketed_kept g d f h u v e k (Some x ∷ []) = refl
  any_bracketed_kept g d f h u v e k (Some x ∷ None ∷ []) = refl
  any_bracketed_kept g d f h u v e k (Some x ∷ Some y ∷ []) = e x y
  any_bracketed_kept g d f h u v e k (Some x ∷ None ∷ z ∷ []) = k x None z
  any_bracketed_kept g d f h u v e k (Some x ∷ Some y ∷ z ∷ []) = k x (Some y) z
  any_bracketed_kept g d f h u v e k (Some x ∷ None ∷ z ∷ w ∷ ws) = refl
  any_bracketed_kept g d f h u v e k (Some x ∷ Some y ∷ z ∷ w ∷ ws) = refl

  optional_kept : {A B : Type 0} (g : A → B) (d : A) (f : Option Part → Option Part → A) (u : Option Part → Option Part → B) → ((x y : Option Part) → u (optional m x) (optional m y) ≡ g (f x y)) → (xs : Parts)
      → on_optional (g d) u (parts m xs) ≡ g (on_optional d f xs)
  optional_kept g d f u e [] = refl
  optional_kept g d f u e (x ∷ []) = refl
  optional_kept g d f u e (x ∷ y ∷ []) = e x y
  optional_kept g d f u e (x ∷ y ∷ z ∷ zs) = refl

  literal_type_kept : (h : Hint) (x : Option Part) → literal_type h (optional m x) ≡ literal_type h x
  literal_type_kept h None = refl
  literal_type_kept h (Some (typed f i j l ps)) = refl

  on_literal_kept : {A B : Type 0} (g : A → B) (d : A) (h : Hint) (f : Option TypeTree → List Part → A) (u : Option TypeTree → List Part → B) → ((t : Option TypeTree) (xs : List Part) → u t (every m xs) ≡ g (f t xs)) → (xs : Parts)
      → on_literal (g d) h u (parts m xs) ≡ g (on_literal d h f xs)
  on_literal_kept g d h f u e [] = refl
  on_literal_kept g d h f u e (t ∷ xs) =
      ap (λ z. u z (present (parts m xs))) (literal_type_kept h t) ∙ ap (u (literal_type h t)) (present_kept m xs) ∙ e (literal_type h t) (present xs)

  abbrev same : {A : Type 0} → A → A
  same x = x

  -- ---- a node

  not_value_kept : (b : Bool) (i j : ℕ) → not_a_value b (m.token i) (m.token j) ≡ fails m (not_a_value b i j)
  not_value_kept true i j = refl
  not_value_kept false i j = refl

  one_value_kept : (b : Bool) (s : Stands) (i j : ℕ) → one_value b s (m.token i) (m.token j) ≡ fails m (one_value b s i j)
  one_value_kept true s i j = refl
  one_value_kept false s i j = either_of m (are_results s) _ _ _ _ refl refl

  too_many_kept : (b : Bool) (s : Stands) (i j : ℕ) → too_many b s (m.token i) (m.token j) ≡ fails m (too_many b s i j)
  too_many_kept true s i j = refl
  too_many_kept false s i j = one_value_kept false s i j

  place_kept : (rights : Rights) (h : Hint) (i j : ℕ) (s : Stands) → place_failing rights h (m.token i) (m.token j) s ≡ fails m (place_failing rights h i j s)
  place_kept rights several i j s = not_value_kept (is_no_value rights s) i j
  place_kept rights type_place i j s = not_value_kept (is_no_type s) i j
  place_kept rights loose i j s = not_value_kept (is_no_type s) i j
  place_kept rights callee i j s = one_value_kept (is_no_callee rights s) s i j
  place_kept rights target i j s = one_value_kept (is_no_target rights s) s i j
  place_kept rights statement i j s = not_value_kept (is_no_statement s) i j
  place_kept rights inside i j s = refl
  place_kept rights one_inside i j s = too_many_kept (is_no_value rights s) s i j
  place_kept rights loose_inside i j s = refl
  place_kept rights declares i j s = refl
  place_kept rights free i j s = refl
  place_kept rights h i j s = one_value_kept (is_no_value rights s) s i j

  selector_form_kept : (rights : Rights) (name : List ℕ) (ys : Parts) → selector_form rights name (parts m ys) ≡ form_moved m (selector_form rights name ys)
  selector_form_kept rights name [] = refl
  selector_form_kept rights name (None ∷ ys) = refl
  selector_form_kept rights name (Some (typed f i j l ps) ∷ []) = refl
  selector_form_kept rights name (Some x ∷ y ∷ ys) = refl

  bracketed_form_kept : (ys : Parts) → bracketed_form (parts m ys) ≡ form_moved m (bracketed_form ys)
  bracketed_form_kept [] = refl
  bracketed_form_kept (x ∷ []) = refl
  bracketed_form_kept (x ∷ y ∷ []) = refl
  bracketed_form_kept (x ∷ y ∷ z ∷ zs) = refl

  pub judged_kept : (ys : Parts) → is_judged (parts m ys) ≡ is_judged ys
  judged_kept ys = ap not (some_kept m is_lost lost_kept ys)
    where
      lost_kept : (x : Option Part) → is_lost (optional m x) ≡ is_lost x
      lost_kept None = refl
      lost_kept (Some (typed f i j l ps)) = refl

  given_all_kept : (ks : List Take) (ys : Parts) → all_given ks (parts m ys) ≡ parts m (all_given ks ys)
  given_all_kept [] ys = refl
  given_all_kept (k ∷ ks) [] = refl
  given_all_kept (k ∷ ks) (None ∷ ys) = ap (λ zs. None ∷ zs) (given_all_kept ks ys)
  given_all_kept (k ∷ ks) (Some y ∷ ys) = ap (λ z. Some z ∷ all_given ks (parts m ys)) (given_kept m k y) ∙ ap (λ zs. Some (placed m (given k y)) ∷ zs) (given_all_kept ks ys)

  label_same : (f : Form) (x : Stands) (ys : Parts) → label f x (parts m ys) ≡ label f x ys
  label_same f x ys =
      ap (λ b. let l : Label TypeTree = record { sort = x; varies = is_variable_name f x || b; calls = (is_call f && not (is_constant x)) || list_any calls_in (parts m ys) } in l) (some_kept m varies_in varies_kept ys)
      ∙ ap (λ b. let l : Label TypeTree = record { sort = x; varies = is_variable_name f x || list_any varies_in ys; calls = (is_call f && not (is_constant x)) || b } in l) (some_kept m calls_in calls_kept ys)
    where
      varies_kept : (x : Option Part) → varies_in (optional m x) ≡ varies_in x
      varies_kept None = refl
      varies_kept (Some (typed f i j l ps)) = refl

      calls_kept : (x : Option Part) → calls_in (optional m x) ≡ calls_in x
      calls_kept None = refl
      calls_kept (Some (typed f i j l ps)) = refl

  label_moved : (f : Form) (x : Stands) (ys : Parts) → label (form_moved m f) x ys ≡ label f x ys
  label_moved f x ys =
      ap (λ b. let l : Label TypeTree = record { sort = x; varies = b || list_any varies_in ys; calls = (is_call (form_moved m f) && not (is_constant x)) || list_any calls_in ys } in l) (variable_moved m f x)
      ∙ ap (λ b. let l : Label TypeTree = record { sort = x; varies = is_variable_name f x || list_any varies_in ys; calls = (b && not (is_constant x)) || list_any calls_in ys } in l) (call_moved m f)

  pub made_kept : (f : Form) (i j : ℕ) (x : Stands) (ys zs : Parts) → made (form_moved m f) (m.token i) (m.token j) x (parts m ys) (parts m zs) ≡ placed m (made f i j x ys zs)
  made_kept f i j x ys zs = ap (λ l. typed (form_moved m f) (m.token i) (m.token j) l (row (parts m zs))) (label_same (form_moved m f) x ys ∙ label_moved f x ys) ∙ ap (typed (form_moved m f) (m.token i) (m.token j) (label f x ys)) (row_kept m zs)

  module _ (a : Meant) (s : Scope) (means : MeansAlong m (along a s) s) where
    abbrev u : Scope
    u = along a s

    name_sort_kept : (h : Hint) (i : ℕ) → name_sort s h (m.token i) ≡ name_sort u h i
    name_sort_kept declares i = refl
    name_sort_kept free i = refl
    name_sort_kept h i = means.standing (need_of s.needed h) i

    form_or_type_moved : (x : Stands) (f : Form) → form_or_type x (form_moved m f) ≡ form_moved m (form_or_type x f)
    form_or_type_moved (sort.IsType t) f = refl
    form_or_type_moved x f = refl

    name_or_type_kept : (h : Hint) (i : ℕ) → name_sort s h (m.token i) ≡ name_sort u h i
        → form_or_type (name_sort s h (m.token i)) (object_form s (s.objects (m.token i))) ≡ form_moved m (form_or_type (name_sort u h i) (object_form u (u.objects i)))
    name_or_type_kept h i e =
        ap (λ x. form_or_type x (object_form s (s.objects (m.token i)))) e ∙ ap (form_or_type (name_sort u h i)) (means.object i) ∙ form_or_type_moved (name_sort u h i) (object_form u (u.objects i))

    name_form_kept : (h : Hint) (i : ℕ) → name_form s h (m.token i) ≡ form_moved m (name_form u h i)
    name_form_kept declares i = means.declared i
    name_form_kept free i = means.declared i
    name_form_kept h i = name_or_type_kept h i (name_sort_kept h i)

    key_form_moved : (h : Hint) (name : List ℕ) → key_form s.rights h name ≡ form_moved m (key_form s.rights h name)
    key_form_moved (member t) name = refl
    key_form_moved h name = refl

    -- what a selector's last token says
    last_said : (j : ℕ) → LastSpelled m j → s.texts (m.token j - 1) ≡ a.texts (j - 1)
    last_said j e = ap s.texts (sym e.0) ∙ means.texts (j - 1) e.1

    form_kept : (k : Kind) (h : Hint) (i j : ℕ) (ys : Parts) → Spelled m k i j ys → form_by s k h (m.token i) (m.token j) (parts m ys) ≡ form_moved m (form_by u k h i j ys)
    form_kept kind.Name h i j ys e = name_form_kept h i
    form_kept kind.Keyed h i j ys e = ap (key_form s.rights h) (means.texts i e) ∙ key_form_moved h (a.texts i)
    form_kept kind.Selector h i j ys e = ap (λ n. selector_form s.rights n (parts m ys)) (last_said j e) ∙ selector_form_kept s.rights (a.texts (j - 1)) ys
    form_kept kind.Bracketed h i j ys e = bracketed_form_kept ys
    form_kept kind.Call h i j ys e = first_kept (form_moved m) form.Call (λ f xs. callee_form (sort_of f)) (λ f xs. callee_form (sort_of f)) (λ x xs. ap callee_form (sort_kept m x) ∙ callee_moved (sort_of x)) ys
      where
        callee_moved : (x : Stands) → callee_form x ≡ form_moved m (callee_form x)
        callee_moved (sort.IsType t) = refl
        callee_moved x = refl
    form_kept k h i j ys e = refl

    failing_kept : (k : Kind) (h : Hint) (i j : ℕ) (ys : Parts) → Spelled m k i j ys → failing s k h (m.token i) (m.token j) (parts m ys) ≡ fails m (failing u k h i j ys)
    failing_kept kind.Integer h i j ys e =
        ap (integer_failing (m.token i) (m.token j)) (means.texts i e) ∙ either m (nat_lt (integer_value (a.texts i)) (2 ^ 127)) [] (fault_at code.Representable i j)
    failing_kept (kind.Unary o) h i j ys e =
        one_kept (fails m) [] (λ x. unary_failing s.rights o i j (sort_of x)) (λ x. unary_failing s.rights o (m.token i) (m.token j) (sort_of x))
        (λ x. ap (unary_failing s.rights o (m.token i) (m.token j)) (sort_kept m x) ∙ unary_kept m s.rights o i j (sort_of x)) ys
    failing_kept (kind.Binary o) h i j ys e = two_kept (fails m) [] (operation_failing s.rights o i j) (operation_failing s.rights o (m.token i) (m.token j)) (operation_kept m s.rights o i j) ys
    failing_kept kind.Selector h i j ys e =
        ap (λ n. selector_rule s.rights (m.token i) (m.token j) n (parts m ys)) (last_said j e)
        ∙ one_kept (fails m) [] (λ x. selector_failing s.rights i j (a.texts (j - 1)) (sort_of x)) (λ x. selector_failing s.rights (m.token i) (m.token j) (a.texts (j - 1)) (sort_of x))
        (λ x. ap (selector_failing s.rights (m.token i) (m.token j) (a.texts (j - 1))) (sort_kept m x) ∙ selector_kept m s.rights i j (a.texts (j - 1)) (sort_of x)) ys
    failing_kept kind.Bracketed h i j ys e =
        any_bracketed_kept (fails m) [] (λ x n. index_failing s.rights i j (sort_of x) n) (λ x low high. slice_failing s.rights i j (sort_of x) low high) (λ x n. index_failing s.rights (m.token i) (m.token j) (sort_of x) n) (λ x low high. slice_failing s.rights (m.token i) (m.token j) (sort_of x) low high)
        (λ x n. ap (λ z. index_failing s.rights (m.token i) (m.token j) z (placed m n)) (sort_kept m x) ∙ index_kept m s.rights i j (sort_of x) n)
        (λ x low high. ap (λ z. slice_failing s.rights (m.token i) (m.token j) z (optional m low) (optional m high)) (sort_kept m x) ∙ slice_kept m s.rights i j (sort_of x) low high) ys
    failing_kept kind.Call h i j ys e =
        first_kept (fails m) [] (λ f xs. call_failing s.rights i j (sort_of f) xs) (λ f xs. call_failing s.rights (m.token i) (m.token j) (sort_of f) xs)
        (λ x xs. ap (λ z. call_failing s.rights (m.token i) (m.token j) z (every m xs)) (sort_kept m x) ∙ call_kept m s.rights i j (sort_of x) xs) ys
    failing_kept kind.Composite h i j ys e = on_literal_kept (fails m) [] h (literal_failing s.rights i j) (literal_failing s.rights (m.token i) (m.token j)) (literal_kept m s.rights i j) ys
    failing_kept kind.LiteralValue h i j ys e = on_literal_kept (fails m) [] h (literal_failing s.rights i j) (literal_failing s.rights (m.token i) (m.token j)) (literal_kept m s.rights i j) ys
    failing_kept kind.SequenceType h i j ys e = optional_kept (fails m) [] (sequence_failing s.rights s.limits i j) (sequence_failing s.rights s.limits (m.token i) (m.token j)) (sequence_kept m s.rights s.limits i j) ys
    failing_kept k h i j ys e = refl

    one_sort_kept : (ys : Parts) → on_one sort.Unknown sort_of (parts m ys) ≡ on_one sort.Unknown sort_of ys
    one_sort_kept ys = one_kept same sort.Unknown sort_of sort_of (sort_kept m) ys

    sort_by_kept : (k : Kind) (h : Hint) (i j : ℕ) (ys : Parts) → Spelled m k i j ys → sort_by s k h (m.token i) (m.token j) (parts m ys) ≡ sort_by u k h i j ys
    sort_by_kept kind.Name h i j ys e = name_sort_kept h i
    sort_by_kept kind.Integer h i j ys e = ap (λ n. sort.OpenConstant (integer_constant n)) (means.texts i e)
    sort_by_kept kind.Rune h i j ys e = ap (λ n. sort.OpenConstant (rune_constant n)) (means.characters i e)
    sort_by_kept kind.Text h i j ys e = ap (λ n. sort.OpenConstant (text_constant n)) (means.characters i e)
    sort_by_kept kind.Parenthesized h i j ys e = one_sort_kept ys
    sort_by_kept kind.ParenthesizedType h i j ys e = one_sort_kept ys
    sort_by_kept (kind.Unary o) h i j ys e = one_kept same sort.Unknown (λ x. unary_sort s.rights o (sort_of x)) (λ x. unary_sort s.rights o (sort_of x)) (λ x. ap (unary_sort s.rights o) (sort_kept m x)) ys
    sort_by_kept (kind.Binary o) h i j ys e =
        two_kept same sort.Unknown (λ x y. operation_sort s.rights o (sort_of x) (sort_of y)) (λ x y. operation_sort s.rights o (sort_of x) (sort_of y))
        (λ x y. ap (λ z. operation_sort s.rights o z (sort_of (placed m y))) (sort_kept m x) ∙ ap (operation_sort s.rights o (sort_of x)) (sort_kept m y)) ys
    sort_by_kept kind.Selector h i j ys e =
        ap (λ n. on_one sort.Println (λ x. selector_sort s.rights n (sort_of x)) (parts m ys)) (last_said j e)
        ∙ one_kept same sort.Println (λ x. selector_sort s.rights (a.texts (j - 1)) (sort_of x)) (λ x. selector_sort s.rights (a.texts (j - 1)) (sort_of x)) (λ x. ap (selector_sort s.rights (a.texts (j - 1))) (sort_kept m x)) ys
    sort_by_kept kind.Bracketed h i j ys e =
        any_bracketed_kept same sort.Unknown (λ x n. index_sort s.rights (sort_of x)) (λ x low high. slice_sort (sort_of x)) (λ x n. index_sort s.rights (sort_of x)) (λ x low high. slice_sort (sort_of x))
        (λ x n. ap (index_sort s.rights) (sort_kept m x)) (λ x low high. ap slice_sort (sort_kept m x)) ys
    sort_by_kept kind.Call h i j ys e =
        first_kept same sort.Unknown (λ f xs. call_sort s.rights (sort_of f) xs) (λ f xs. call_sort s.rights (sort_of f) xs)
        (λ x xs. ap (λ z. call_sort s.rights z (every m xs)) (sort_kept m x) ∙ call_sort_kept m s.rights (sort_of x) xs) ys
    sort_by_kept kind.Composite h i j ys e = on_literal_kept same sort.Unknown h (λ t xs. literal_sort t) (λ t xs. literal_sort t) (λ t xs. refl) ys
    sort_by_kept kind.LiteralValue h i j ys e = on_literal_kept same sort.Unknown h (λ t xs. literal_sort t) (λ t xs. literal_sort t) (λ t xs. refl) ys
    sort_by_kept kind.Keyed h i j ys e = one_sort_kept ys
    sort_by_kept kind.SequenceType h i j ys e =
        optional_kept same sort.Unknown (λ n e. type_sort (sequence_type n (part_type e))) (λ n e. type_sort (sequence_type n (part_type e)))
        (λ n e. ap (λ t. type_sort (sequence_type (optional m n) t)) (type_kept m e) ∙ ap type_sort (sequence_type_kept m n (part_type e))) ys
    sort_by_kept kind.FunctionType h i j ys e = one_sort_kept ys
    sort_by_kept kind.StructType h i j ys e = ap (λ fs. sort.IsType (structure_of fs)) (fields_kept m s.texts a.texts means.texts [] ys e)
    sort_by_kept kind.Signature h i j ys e =
        optional_kept same sort.Unknown (λ ps rs. type_sort (signature_type ps rs)) (λ ps rs. type_sort (signature_type ps rs)) (λ ps rs. ap type_sort (signature_kept m ps rs)) ys
    sort_by_kept k h i j ys e = refl

    takes_kept : (k : Kind) (h : Hint) (ys : Parts) → takes s k h (parts m ys) ≡ takes u k h ys
    takes_kept (kind.Unary o) h ys = one_kept same [] (λ x. unary_take (sort_of x) ∷ []) (λ x. unary_take (sort_of x) ∷ []) (λ x. ap (λ z. unary_take z ∷ []) (sort_kept m x)) ys
    takes_kept (kind.Binary o) h ys =
        two_kept same [] (λ x y. operation_takes s.rights o (sort_of x) (sort_of y)) (λ x y. operation_takes s.rights o (sort_of x) (sort_of y))
        (λ x y. ap (λ z. operation_takes s.rights o z (sort_of (placed m y))) (sort_kept m x) ∙ ap (operation_takes s.rights o (sort_of x)) (sort_kept m y)) ys
    takes_kept kind.Call h ys =
        first_kept same [] (λ f xs. stay ∷ call_takes s.rights (sort_of f) xs) (λ f xs. stay ∷ call_takes s.rights (sort_of f) xs)
        (λ x xs. ap (λ z. stay ∷ call_takes s.rights z (every m xs)) (sort_kept m x) ∙ ap (λ ks. stay ∷ ks) (call_takes_kept m s.rights (sort_of x) xs)) ys
    takes_kept kind.Composite h ys = on_literal_kept same [] h (λ t xs. stay ∷ literal_takes s.rights t xs) (λ t xs. stay ∷ literal_takes s.rights t xs) (λ t xs. ap (λ ks. stay ∷ ks) (literal_takes_kept m s.rights t xs)) ys
    takes_kept kind.LiteralValue h ys = on_literal_kept same [] h (λ t xs. stay ∷ literal_takes s.rights t xs) (λ t xs. stay ∷ literal_takes s.rights t xs) (λ t xs. ap (λ ks. stay ∷ ks) (literal_takes_kept m s.rights t xs)) ys
    takes_kept k h ys = refl

    placing_kept : (k : Kind) (h : Hint) (i j : ℕ) (x : Stands) → placing s k h (m.token i) (m.token j) x ≡ fails m (placing u k h i j x)
    placing_kept k h i j x = either_of m (is_placed k) (place_failing s.rights h (m.token i) (m.token j) x) [] (place_failing s.rights h i j x) [] (place_kept s.rights h i j x) refl

    own_faults_kept : (k : Kind) (h : Hint) (i j : ℕ) (ys : Parts) → Spelled m k i j ys → own_faults s k h (m.token i) (m.token j) (parts m ys) ≡ fails m (own_faults u k h i j ys)
    own_faults_kept k h i j ys e =
        ap (λ b. if b then or_else (failing s k h (m.token i) (m.token j) (parts m ys)) (placing s k h (m.token i) (m.token j) (sort_by s k h (m.token i) (m.token j) (parts m ys))) else []) (judged_kept ys)
        ∙ ap (λ x. if is_judged ys then or_else (failing s k h (m.token i) (m.token j) (parts m ys)) (placing s k h (m.token i) (m.token j) x) else []) (sort_by_kept k h i j ys e)
        ∙ either_of m (is_judged ys) (or_else (failing s k h (m.token i) (m.token j) (parts m ys)) (placing s k h (m.token i) (m.token j) (sort_by u k h i j ys))) [] (or_else (failing u k h i j ys) (placing u k h i j (sort_by u k h i j ys))) []
        (or_else_kept m (failing s k h (m.token i) (m.token j) (parts m ys)) (placing s k h (m.token i) (m.token j) (sort_by u k h i j ys)) (failing u k h i j ys) (placing u k h i j (sort_by u k h i j ys)) (failing_kept k h i j ys e) (placing_kept k h i j (sort_by u k h i j ys)))
        refl

    sound_kept : (k : Kind) (ys : Parts) (fs : List TypeFault) → is_sound k (parts m ys) (fails m fs) ≡ is_sound k ys fs
    sound_kept k ys fs = ap (λ b. not (is_placed k) || (b && no_faults (fails m fs))) (judged_kept ys) ∙ ap (λ b. not (is_placed k) || (is_judged ys && b)) (no_faults_kept m fs)

    built_by_kept : (k : Kind) (h : Hint) (i j : ℕ) (ys : Parts) (b : Bool) → Spelled m k i j ys → built_by s k h (m.token i) (m.token j) (parts m ys) b ≡ placed m (built_by u k h i j ys b)
    built_by_kept k h i j ys true e =
        ap (λ f. made f (m.token i) (m.token j) (sort_by s k h (m.token i) (m.token j) (parts m ys)) (parts m ys) (all_given (takes s k h (parts m ys)) (parts m ys))) (form_kept k h i j ys e)
        ∙ ap (λ x. made (form_moved m (form_by u k h i j ys)) (m.token i) (m.token j) x (parts m ys) (all_given (takes s k h (parts m ys)) (parts m ys))) (sort_by_kept k h i j ys e)
        ∙ ap (λ ks. made (form_moved m (form_by u k h i j ys)) (m.token i) (m.token j) (sort_by u k h i j ys) (parts m ys) (all_given ks (parts m ys))) (takes_kept k h ys)
        ∙ ap (made (form_moved m (form_by u k h i j ys)) (m.token i) (m.token j) (sort_by u k h i j ys) (parts m ys)) (given_all_kept (takes u k h ys) ys)
        ∙ made_kept (form_by u k h i j ys) i j (sort_by u k h i j ys) ys (all_given (takes u k h ys) ys)
    built_by_kept k h i j ys false e = ap (λ f. made f (m.token i) (m.token j) sort.Unknown (parts m ys) (parts m ys)) (form_kept k h i j ys e) ∙ made_kept (form_by u k h i j ys) i j sort.Unknown ys ys

    built_on_kept : (k : Kind) (h : Hint) (i j : ℕ) (ys : Parts) → Spelled m k i j ys → built_on s k h (m.token i) (m.token j) (parts m ys) ≡ placed m (built_on u k h i j ys)
    built_on_kept k h i j ys e =
        ap (λ fs. built_by s k h (m.token i) (m.token j) (parts m ys) (is_sound k (parts m ys) fs)) (own_faults_kept k h i j ys e)
        ∙ ap (built_by s k h (m.token i) (m.token j) (parts m ys)) (sound_kept k ys (own_faults u k h i j ys))
        ∙ built_by_kept k h i j ys (is_sound k ys (own_faults u k h i j ys)) e

    pub built_kept : (k : Kind) (h : Hint) (i j : ℕ) (xs : Parts) → Spelled m k i j (layout k xs) → built s k h (m.token i) (m.token j) (parts m xs) ≡ placed m (built u k h i j xs)
    built_kept k h i j xs e = ap (built_on s k h (m.token i) (m.token j)) (layout_kept k xs) ∙ built_on_kept k h i j (layout k xs) e

    pub found_kept : (k : Kind) (h : Hint) (i j : ℕ) (xs : Parts) → Spelled m k i j (layout k xs) → found s k h (m.token i) (m.token j) (parts m xs) ≡ fails m (found u k h i j xs)
    found_kept k h i j xs e = ap (own_faults s k h (m.token i) (m.token j)) (layout_kept k xs) ∙ own_faults_kept k h i j (layout k xs) e
