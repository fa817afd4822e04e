-- Arguments of predeclared functions but `min` and `max`: from the call that fits to each argument, and the rules of the call.
use Rattle.std.proofs.Common.{◌≡◌, ◌∙◌, ℕ, suc, Bool, true, false, List, [], ◌∷◌, ◌++◌, length, nat_le, Option, Some, None, refl, sym, ap, subst, arith}
use Rattle.std.proofs.lemmas.Bool.Decides.{nat_tests}
use Rattle.std.specs.Prelude.{◌&&◌, ◌||◌, if◌then◌else◌, is_some}
use Rattle.std.specs.List.{list_all}
use Rattle.go_base.specs.declared.fault.FaultCode.TheVariants as code
use Rattle.go_constants.specs.declared.values.Const.TheVariants as const
use Rattle.go_tree.specs.declared.object.Predeclared.TheVariants as predeclared
use Rattle.go_types.specs.Trees.{TypeTree}
use Rattle.go_types.specs.Relations.{Rights}
use Rattle.go_types_relations.specs.Tests.{both_identical}
use Rattle.go_typed.specs.declared.sort.Untyped.TheVariants as untyped
use Rattle.go_typed.specs.declared.form.Form.TheVariants as form
use Rattle.go_typed.specs.Trees.{Sort, typed, sort_of, label_of, row}
use Rattle.go_typed.specs.Trees as sort
use Rattle.go_exprs_rules.specs.Calls.{operands_unless, count_unless, printed, has_elements, length_failing, sizes_failing, make_failing, each_unassignable, append_failing_in, copies, copy_failing, constant_length}
use Rattle.go_exprs_rules.specs.Calls.{length_value, length_sort, made_sort, appended_takes, array_count}
use Rattle.go_exprs_rules.specs.Calls as calls
use Rattle.go_exprs_rules.specs.Faults.{fault_at}
use Rattle.go_exprs_rules.specs.Indexes.{bound_failing, disordered, text_length, value_or_unknown, outside}
use Rattle.go_exprs_rules.specs.Settling.{Part, stay, default, as_type, given, at_part, unrepresented}
use Rattle.go_exprs_rules.specs.Sorts.{Stands, is_constant, is_open, is_text, is_byte, is_whole, is_unknown, form_of_value, slice_element, array_length, underlying_in, named_type, constant_of, own_type, takes_type, int}
use Rattle.go_exprs_rules.specs.Tables.{all_given, is_type, leaf}
use Rattle.clone_window.specs.Masses as masses
use Rattle.go_exprs_variables.specs.Stood.{Stood, as_before, in_place, early, taken}
use Rattle.go_exprs_variables.specs.Variables.{Standins, begun, Fits, AllFit}
use Rattle.go_exprs_variables.proofs.Agreeing.{leaf_agrees}
use Rattle.go_exprs_variables.proofs.BracketSteps.{Accepted, text_accepted, form_accepted, element_own, slice_own, accepted_default, whole_given}
use Rattle.go_exprs_variables.proofs.Builtins.{length_row, none_first, length_kept_open, make_row, append_row, copy_row, printed_row}
use Rattle.go_exprs_variables.proofs.Conversions.{unless_true}
use Rattle.go_exprs_variables.proofs.GivenLists.{Known, alike, alike_length, alike_new, GivenAs, Givens, given_nothing, each_given, operands_of, Argued, argued_of, printed_given}
use Rattle.go_exprs_variables.proofs.Identities.{tree_self}
use Rattle.go_exprs_variables.proofs.Leaves.{leaf_stays}
use Rattle.go_exprs_variables.proofs.Lists.{each, All, all_new, AllGiven, all_fit_each}
use Rattle.go_exprs_variables.proofs.Operands.{Ready, calls_kept}
use Rattle.go_exprs_variables.proofs.Parts.{both_none, holds}
use Rattle.go_exprs_variables.proofs.Ready.{Facts}
use Rattle.go_exprs_variables.proofs.Shifts.{and_true}

second_off : (a b c : Bool) → b ≡ false → ((a && b) || c) ≡ true → c ≡ true
second_off true true c e f = cc
second_off true false c e f = f
second_off false b c e f = f

first_true : (a b : Bool) → (a && b) ≡ true → b ≡ true
first_true true b e = e
first_true false b e = cc

no_length : (o : Option ℕ) → is_constant (length_value o) ≡ false → o ≡ None
no_length None e = refl
no_length (Some n) e = cc

module _ (rights : Rights) where
  -- ---- what has a length

  length_accepted : (texts : Bool) (a : Stands) → ((texts && is_text rights a) || has_elements rights a) ≡ true → Accepted rights a
  length_accepted texts a e = by_text (texts && is_text rights a) refl e
    where
      by_text : (b : Bool) → (texts && is_text rights a) ≡ b → (b || has_elements rights a) ≡ true → Accepted rights a
      by_text true f g = text_accepted rights a (first_true texts (is_text rights a) f)
      by_text false f g = form_accepted rights a (element_own rights a g)

  -- an untyped one is a constant text
  open_text : (texts : Bool) (a : Stands) → is_open a ≡ true → ((texts && is_text rights a) || has_elements rights a) ≡ true → is_some (text_length (constant_of a)) ≡ true
  open_text texts (sort.OpenConstant (const.Text b)) o e = refl
  open_text texts (sort.OpenConstant (const.Bool b)) o e = let none : false ≡ true = second_off texts false false refl e in cc
  open_text texts (sort.OpenConstant (const.Int z true)) o e = let none : false ≡ true = second_off texts false false refl e in cc
  open_text texts (sort.OpenConstant (const.Int z false)) o e = let none : false ≡ true = second_off texts false false refl e in cc
  open_text texts (sort.Open untyped.Boolean) o e = let none : false ≡ true = second_off texts false false refl e in cc
  open_text texts (sort.Open untyped.Integer) o e = let none : false ≡ true = second_off texts false false refl e in cc
  open_text texts (sort.Open untyped.Rune) o e = let none : false ≡ true = second_off texts false false refl e in cc
  open_text texts a o e = cc

  length_form : (texts : Bool) (u : Option TypeTree) (a b : Stands) → Stood rights u a b → ((texts && is_text rights a) || has_elements rights a) ≡ true → text_length (constant_of a) ≡ None → form_of_value rights b ≡ form_of_value rights a
  length_form texts u a b (as_before v c) e f = refl
  length_form texts u a b (in_place v t c) e f = refl
  length_form texts u a b (early t c k m n) e f = let none : true ≡ false = sym (open_text texts a (ap is_some m) e) ∙ ap is_some f in cc

  -- ---- what has a type keeps it

  pub same_own : (a b : Stands) (u : Option TypeTree) → u ≡ None → Stood rights u a b → own_type b ≡ own_type a
  same_own a b u e (as_before v c) = refl
  same_own a b u e (in_place v t c) = refl
  same_own a b u e (early t c k m n) = cc

  closed_own : (a : Stands) → is_some (own_type a) ≡ true → (is_open a ≡ false) × (takes_type a ≡ false) × (is_type a ≡ false)
  closed_own (sort.Value t) e = (refl, refl, refl)
  closed_own (sort.Constant t c) e = (refl, refl, refl)
  closed_own a e = cc

  -- ---- `copy`

  copied_accepted : (t : TypeTree) (b : Stands) → (both_identical (Some t) (slice_element (form_of_value rights b)) || (is_text rights b && is_byte (Some t))) ≡ true → Accepted rights b
  copied_accepted t b e = by_form (slice_element (form_of_value rights b)) refl e
    where
      by_form : (o : Option TypeTree) → slice_element (form_of_value rights b) ≡ o → (both_identical (Some t) o || (is_text rights b && is_byte (Some t))) ≡ true → Accepted rights b
      by_form (Some u) f g = form_accepted rights b (slice_own rights b (ap is_some f))
      by_form None f g = text_accepted rights b (second_true (is_text rights b) (is_byte (Some t)) g)
        where
          second_true : (a c : Bool) → (a && c) ≡ true → a ≡ true
          second_true true c e = refl
          second_true false c e = cc

  copy_accepted : (a b : Stands) (o : Option TypeTree) → slice_element (form_of_value rights a) ≡ o → copies rights o b ≡ true → Accepted rights a × Accepted rights b
  copy_accepted a b None is e = cc
  copy_accepted a b (Some t) is e = (form_accepted rights a (slice_own rights a (ap is_some is)), copied_accepted t b e)

module _ (w : Standins) (rights : Rights) where
  -- ---- a type as an argument

  -- It stays as it is.
  pub type_stays : (y : Part) (t : TypeTree) → sort_of y ≡ sort.IsType t → begun w false (leaf y) ≡ leaf y
  type_stays (typed f i j l ps) t e = leaf_stays rights w false form.Type i j l refl refl (ap masses.is_constant e)

  pub leaf_sort : (y : Part) → sort_of (leaf y) ≡ sort_of y
  leaf_sort (typed f i j l ps) = refl

  leaf_ready : (y : Part) (t : TypeTree) → sort_of y ≡ sort.IsType t → Ready rights w false (leaf y)
  leaf_ready (typed f i j l ps) t e = record {
    keys = (refl, leaf_agrees (typed f i j l ps));
    held = refl;
    expression = λ o. let both : true ≡ false = sym o ∙ ap is_open e in cc;
    known = ap is_unknown e;
    quiet = λ m. let both : true ≡ false = sym m ∙ ap masses.is_constant e in cc;
  }

  pub type_given : (y : Part) (t : TypeTree) → sort_of y ≡ sort.IsType t → Fits w false (leaf y) → GivenAs w rights stay (leaf y)
  type_given y t e fits = let is : sort_of (leaf y) ≡ sort.IsType t = leaf_sort y ∙ e in given_nothing w rights (leaf y) (leaf_ready y t e) (ap is_open is) (ap takes_type is) fits

  module _ (i j : ℕ) where
    -- ---- `len` and `cap`

    pub record Measured (texts : Bool) (x : Part) : Type 0 where
      pub given : GivenAs w rights default x
      pub failing : length_failing rights i j texts (begun w false x ∷ []) ≡ []
      pub sort : length_sort rights (begun w false x ∷ []) ≡ length_sort rights (x ∷ [])

    pub measured : (texts : Bool) (x : Part) → Facts w rights x → is_unknown (sort_of x) ≡ false → length_failing rights i j texts (x ∷ []) ≡ [] → is_constant (length_sort rights (x ∷ [])) ≡ false → Fits w false (given default x)
        → Measured texts x
    measured texts x facts known rule plain fits =
        let y = begun w false x in
        let test = unless_true ((texts && is_text rights (sort_of x)) || has_elements rights (sort_of x)) i j rule in
        let given = accepted_default w rights x facts known (length_accepted rights texts (sort_of x) test) fits in
        let u = taken default None (sort_of x) in
        let open_length = no_length (constant_length rights x) plain in
        let no_text = (none_first rights (text_length (constant_of (sort_of x))) (array_count (label_of x).calls (array_length (form_of_value rights (sort_of x)))) open_length).0 in
        let same = length_form rights texts u (sort_of x) (sort_of y) given.operand.stands test no_text in
        let still = length_kept_open rights u x y given.operand.stands (calls_kept rights w false x given.ready) same open_length in
        record {
          given = given;
          failing = length_row rights i j texts u x y given.operand.stands rule;
          sort = ap length_value still ∙ sym (ap length_value open_length);
        }

    length_fits : (x : Part) → AllFit w false (row (all_given (default ∷ []) (each (x ∷ [])))) → Fits w false (given default x)
    length_fits x fits = fits.0

    pub len_argued : (xs : List Part) → All (Facts w rights) xs → All Known xs → length_failing rights i j true xs ≡ [] → is_constant (length_sort rights xs) ≡ false
        → AllFit w false (row (all_given (calls.call_takes rights (sort.Builtin predeclared.Len) xs) (each xs)))
        → Argued w rights i j (sort.Builtin predeclared.Len) xs
    len_argued [] facts known rule plain fits = cc
    len_argued (x ∷ y ∷ xs) facts known rule plain fits = cc
    len_argued (x ∷ []) facts known rule plain fits =
        let m = measured true x facts.0 known.0 rule plain (length_fits x fits) in argued_of w rights i j (sort.Builtin predeclared.Len) (x ∷ []) (m.given, tt) (record { failing = m.failing; sort = m.sort; takes = refl })

    pub cap_argued : (xs : List Part) → All (Facts w rights) xs → All Known xs → length_failing rights i j false xs ≡ [] → is_constant (length_sort rights xs) ≡ false
        → AllFit w false (row (all_given (calls.call_takes rights (sort.Builtin predeclared.Cap) xs) (each xs)))
        → Argued w rights i j (sort.Builtin predeclared.Cap) xs
    cap_argued [] facts known rule plain fits = cc
    cap_argued (x ∷ y ∷ xs) facts known rule plain fits = cc
    cap_argued (x ∷ []) facts known rule plain fits =
        let m = measured false x facts.0 known.0 rule plain (length_fits x fits) in argued_of w rights i j (sort.Builtin predeclared.Cap) (x ∷ []) (m.given, tt) (record { failing = m.failing; sort = m.sort; takes = refl })

    -- ---- `make`

    too_long : (n : ℕ) → nat_le (suc (suc (suc n))) 2 ≡ true → ⊥
    too_long n e = grind (arith, nat_tests, e)

    size_given : (n : Part) → Facts w rights n → Known n → is_whole rights (sort_of n) ≡ true → bound_failing rights None n ≡ [] → Fits w false (given (as_type int) n) → GivenAs w rights (as_type int) n
    size_given n facts known whole e fits = whole_given w rights n facts known whole (both_none (unrepresented rights int n) (if outside None (constant_of (sort_of n)) then at_part code.ConstIndex n else []) e).0 fits

    count_at_most : (xs : List Part) → count_unless (nat_le 1 (length xs) && nat_le (length xs) 2) i j ≡ [] → nat_le (length xs) 2 ≡ true
    count_at_most xs e = by_test (nat_le 1 (length xs) && nat_le (length xs) 2) refl e
      where
        by_test : (b : Bool) → (nat_le 1 (length xs) && nat_le (length xs) 2) ≡ b → count_unless b i j ≡ [] → nat_le (length xs) 2 ≡ true
        by_test true f g = first_true (nat_le 1 (length xs)) (nat_le (length xs) 2) f
        by_test false f g = cc

    sizes_given : (xs : List Part) → All (Facts w rights) xs → All Known xs → nat_le (length xs) 2 ≡ true → list_all (λ n. is_whole rights (sort_of n)) xs ≡ true → sizes_failing rights xs ≡ []
        → AllGiven w rights (alike (as_type int) xs) xs → Givens w rights (alike (as_type int) xs) xs
    sizes_given [] facts known count whole e fits = tt
    sizes_given (x ∷ []) facts known count whole e fits = let ok = and_true (is_whole rights (sort_of x)) true whole in (size_given x facts.0 known.0 ok.0 e fits.0, tt)
    sizes_given (x ∷ y ∷ []) facts known count whole e fits =
        let ok = and_true (is_whole rights (sort_of x)) (is_whole rights (sort_of y) && true) whole in
        let second = and_true (is_whole rights (sort_of y)) true ok.1 in
        let outer = both_none (bound_failing rights None x ++ bound_failing rights None y) (disordered (Some x) (Some y)) e in
        let inner = both_none (bound_failing rights None x) (bound_failing rights None y) outer.0 in
        (size_given x facts.0 known.0 ok.0 inner.0 fits.0, (size_given y facts.1.0 known.1.0 second.0 inner.1 fits.1.0, tt))
    sizes_given (x ∷ y ∷ z ∷ xs) facts known count whole e fits = absurd (too_long (length xs) count)

    made_type : (z : Stands) → is_some (slice_element (underlying_in rights (named_type z))) ≡ true → (t : TypeTree) × (z ≡ sort.IsType t)
    made_type (sort.IsType t) e = (t, refl)
    made_type z e = cc

    -- a type and sizes; what is laid out of the type is a leaf
    pub make_type : (x : Part) (xs : List Part) → make_failing rights i j (x ∷ xs) ≡ [] → (t : TypeTree) × (sort_of x ≡ sort.IsType t)
    make_type x xs rule =
        let test = is_some (slice_element (underlying_in rights (named_type (sort_of x)))) in
        let both = both_none (count_unless (nat_le 1 (length xs) && nat_le (length xs) 2) i j) (if test && list_all (λ n. is_whole rights (sort_of n)) xs then sizes_failing rights xs else fault_at code.Operands i j) rule in
        let ok = holds (test && list_all (λ n. is_whole rights (sort_of n)) xs) (sizes_failing rights xs) code.Operands i j both.1 in
        made_type (sort_of x) (and_true test (list_all (λ n. is_whole rights (sort_of n)) xs) ok.0).0

    pub make_argued : (y : Part) (t : TypeTree) (xs : List Part) → sort_of y ≡ sort.IsType t → All (Facts w rights) xs → All Known xs → make_failing rights i j (leaf y ∷ xs) ≡ []
        → AllFit w false (row (all_given (calls.call_takes rights (sort.Builtin predeclared.Make) (leaf y ∷ xs)) (each (leaf y ∷ xs)))) → Argued w rights i j (sort.Builtin predeclared.Make) (leaf y ∷ xs)
    make_argued y t xs is facts known rule fits =
        let x = leaf y in
        let test = is_some (slice_element (underlying_in rights (named_type (sort_of x)))) in
        let whole = list_all (λ n. is_whole rights (sort_of n)) xs in
        let count = count_unless (nat_le 1 (length xs) && nat_le (length xs) 2) i j in
        let both = both_none count (if test && whole then sizes_failing rights xs else fault_at code.Operands i j) rule in
        let ok = holds (test && whole) (sizes_failing rights xs) code.Operands i j both.1 in
        let tests = and_true test whole ok.0 in
        let sizes = sizes_given xs facts known (count_at_most xs both.0) tests.1 ok.1 (all_fit_each w rights (alike (as_type int) xs) xs fits.1 (alike_length (as_type int) xs)) in
        let stays = type_stays y t is in
        let same : named_type (sort_of (begun w false x)) ≡ named_type (sort_of x) = ap (λ z. named_type (sort_of z)) stays in
        argued_of w rights i j (sort.Builtin predeclared.Make) (x ∷ xs) (type_given y t is fits.0, sizes)
        (record {
          failing = make_row rights i j x (begun w false x) xs (all_new w xs) same (operands_of w rights int xs sizes) rule;
          sort = ap value_or_unknown same;
          takes = ap (λ ks. stay ∷ ks) (alike_new w (as_type int) xs);
        })

    -- ---- `append`

    append_by : (x : Part) (xs : List Part) (o : Option TypeTree) → slice_element (form_of_value rights (sort_of x)) ≡ o → Facts w rights x → All (Facts w rights) xs → Known x → All Known xs → calls.append_failing rights i j (x ∷ xs) ≡ []
        → AllFit w false (row (all_given (appended_takes (slice_element (form_of_value rights (sort_of x))) xs) (each (x ∷ xs)))) → Argued w rights i j (sort.Builtin predeclared.Append) (x ∷ xs)
    append_by x xs None is fx facts kx known rule fits = let none : append_failing_in rights i j None xs ≡ [] = sym (ap (λ o. append_failing_in rights i j o xs) is) ∙ rule in cc
    append_by x xs (Some t) is fx facts kx known rule fits =
        let y = begun w false x in
        let news = all_new w xs in
        let closed = closed_own rights (sort_of x) (slice_own rights (sort_of x) (ap is_some is)) in
        let takes : appended_takes (slice_element (form_of_value rights (sort_of x))) xs ≡ stay ∷ alike (as_type t) xs = ap (λ o. appended_takes o xs) is in
        let all = subst (λ ks. AllFit w false (row (all_given ks (each (x ∷ xs))))) takes fits in
        let first = given_nothing w rights x (fx.ready kx closed.2) closed.0 closed.1 all.0 in
        let elements : each_unassignable rights t xs ≡ [] = sym (ap (λ o. append_failing_in rights i j o xs) is) ∙ rule in
        let rest = each_given w rights t xs facts known elements (all_fit_each w rights (alike (as_type t) xs) xs all.1 (alike_length (as_type t) xs)) in
        let own : own_type (sort_of y) ≡ own_type (sort_of x) = same_own rights (sort_of x) (sort_of y) None refl first.operand.stands in
        let same : form_of_value rights (sort_of y) ≡ form_of_value rights (sort_of x) = ap (underlying_in rights) own in
        argued_of w rights i j (sort.Builtin predeclared.Append) (x ∷ xs) (subst (λ ks. Givens w rights ks (x ∷ xs)) (sym takes) (first, rest))
        (record {
          failing = append_row rights tree_self i j x y t xs news same is (operands_of w rights t xs rest) rule;
          sort = ap value_or_unknown own;
          takes = ap (λ o. appended_takes (slice_element o) news) same ∙ ap (λ o. appended_takes o news) is ∙ ap (λ ks. stay ∷ ks) (alike_new w (as_type t) xs) ∙ sym takes;
        })

    pub append_argued : (xs : List Part) → All (Facts w rights) xs → All Known xs → calls.append_failing rights i j xs ≡ [] → AllFit w false (row (all_given (calls.call_takes rights (sort.Builtin predeclared.Append) xs) (each xs)))
        → Argued w rights i j (sort.Builtin predeclared.Append) xs
    append_argued [] facts known rule fits = cc
    append_argued (x ∷ xs) facts known rule fits = append_by x xs (slice_element (form_of_value rights (sort_of x))) refl facts.0 facts.1 known.0 known.1 rule fits

    -- ---- `copy`

    pub copy_argued : (xs : List Part) → All (Facts w rights) xs → All Known xs → copy_failing rights i j xs ≡ [] → AllFit w false (row (all_given (calls.call_takes rights (sort.Builtin predeclared.Copy) xs) (each xs)))
        → Argued w rights i j (sort.Builtin predeclared.Copy) xs
    copy_argued [] facts known rule fits = cc
    copy_argued (x ∷ []) facts known rule fits = cc
    copy_argued (x ∷ y ∷ z ∷ xs) facts known rule fits = cc
    copy_argued (x ∷ y ∷ []) facts known rule fits =
        let ok = copy_accepted rights (sort_of x) (sort_of y) (slice_element (form_of_value rights (sort_of x))) refl (unless_true (copies rights (slice_element (form_of_value rights (sort_of x))) (sort_of y)) i j rule) in
        let first = accepted_default w rights x facts.0 known.0 ok.0 fits.0 in
        let second = accepted_default w rights y facts.1.0 known.1.0 ok.1 fits.1.0 in
        argued_of w rights i j (sort.Builtin predeclared.Copy) (x ∷ y ∷ []) (first, (second, tt))
        (record {
          failing = copy_row rights i j (taken default None (sort_of x)) (taken default None (sort_of y)) x y (begun w false x) (begun w false y) first.operand.stands second.operand.stands rule;
          sort = refl;
          takes = refl;
        })

    -- ---- `panic`

    pub panic_argued : (xs : List Part) → All (Facts w rights) xs → All Known xs → calls.panic_failing rights i j xs ≡ [] → AllFit w false (row (all_given (calls.call_takes rights (sort.Builtin predeclared.Panic) xs) (each xs)))
        → Argued w rights i j (sort.Builtin predeclared.Panic) xs
    panic_argued [] facts known rule fits = cc
    panic_argued (x ∷ y ∷ xs) facts known rule fits = cc
    panic_argued (x ∷ []) facts known rule fits =
        let given = printed_given w rights i j x facts.0 known.0 rule fits.0 in
        argued_of w rights i j (sort.Builtin predeclared.Panic) (x ∷ []) (given, tt) (record { failing = printed_row rights i j (taken default None (sort_of x)) x (begun w false x) given.operand rule; sort = refl; takes = refl })
