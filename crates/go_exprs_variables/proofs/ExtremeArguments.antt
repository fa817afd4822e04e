-- Arguments of `min` and `max`: from the call that fits to each argument, and the rules of the call.
use Rattle.std.proofs.Common.{◌≡◌, ◌∙◌, ℕ, Bool, true, false, List, [], ◌∷◌, Option, Some, None, refl, sym, ap, subst}
use Rattle.std.specs.Prelude.{◌&&◌, ◌||◌, if◌then◌else◌, is_some}
use Rattle.go_ints.specs.declared.operators.Op.{Op}
use Rattle.go_types.specs.Trees.{TypeTree}
use Rattle.go_types.specs.Relations.{Rights}
use Rattle.go_typed.specs.declared.form.Form.{Form}
use Rattle.go_typed.specs.Trees.{Sort, Label, typed, Typeds, sort_of, label_of, row}
use Rattle.go_typed.specs.Trees as sort
use Rattle.go_exprs_rules.specs.declared.family.OpenKind.{OpenKind}
use Rattle.go_exprs_rules.specs.Calls.{met, all_met, meeting, are_constants, each_unrepresented, extreme_refuse, extreme_failing_in, extreme_failing, extreme_sort, extreme_take_in, extreme_take}
use Rattle.go_exprs_rules.specs.Operators.{Common, in_type, in_kind, type_in, common_kind, kind_common, one_typed, own, unordered}
use Rattle.go_exprs_rules.specs.Settling.{Part, Take, stay, default, as_type, given, defaulted, settled, all_settled, unrepresented}
use Rattle.go_exprs_rules.specs.Sorts as sorts
use Rattle.go_exprs_rules.specs.Sorts.{Stands, is_constant, is_open, is_nil, is_unknown, open_kind, default_type, suits, retyped, kind_of_untyped, kind_of_const}
use Rattle.go_exprs_rules.specs.Tables.{all_given, is_type}
use Rattle.clone_window.specs.Masses.{is_hole, is_inside}
use Rattle.go_exprs_variables.specs.Operands.{Operands}
use Rattle.go_exprs_variables.specs.Variables as variables
use Rattle.go_exprs_variables.specs.Variables.{Standin, Standins, at_hole, begun, put, are_constant, has_variable, any_variable, Fits, AllFit, WillFit}
use Rattle.go_exprs_variables.proofs.Agreeing.{given_agrees}
use Rattle.go_exprs_variables.proofs.Arguments.{given_fitting, closed_given}
use Rattle.go_exprs_variables.proofs.Assembly.{keeps_type}
use Rattle.go_exprs_variables.proofs.Away.{Away, AllAway, begun_nothing, put_nothing}
use Rattle.go_exprs_variables.proofs.Defaults.{default_suits}
use Rattle.go_exprs_variables.proofs.Extremes.{none_met, began, taken_now, refused_now, extreme_row}
use Rattle.go_exprs_variables.proofs.GivenLists.{Known, alike, alike_length, alike_new, GivenAs, Givens, all_pass, all_fine, operands_of}
use Rattle.go_exprs_variables.proofs.Identities.{trees_same, tree_self}
use Rattle.go_exprs_variables.proofs.Lists.{each, All, all_new, Passes, AllPass, AllGiven, all_fit_each}
use Rattle.go_exprs_variables.proofs.Meeting.{both_of, by_family}
use Rattle.go_exprs_variables.proofs.Operands.{open_so, settled_sort}
use Rattle.go_exprs_variables.proofs.Parts.{both_none, neither}
use Rattle.go_exprs_variables.proofs.Ready.{Facts}
use Rattle.go_exprs_variables.proofs.Trees.{retyped_label, hole_kept, inside_kept}

-- ---- constants stay so when they are given types

retyped_constant : (t : TypeTree) (z : Stands) → is_constant (retyped t z) ≡ is_constant z
retyped_constant t (sort.Open u) = refl
retyped_constant t sort.Nil = refl
retyped_constant t (sort.OpenConstant c) = refl
retyped_constant t z = refl

settled_constant : (t : TypeTree) (x : Part) → is_constant (sort_of (settled t x)) ≡ is_constant (sort_of x)
settled_constant t x = ap is_constant (settled_sort t x) ∙ retyped_constant t (sort_of x)

given_constant : (k : Take) (x : Part) → is_constant (sort_of (given k x)) ≡ is_constant (sort_of x)
given_constant stay x = refl
given_constant (as_type t) x = settled_constant t x
given_constant default x = by_kind (open_kind (sort_of x))
  where
    by_kind : (o : Option OpenKind) → is_constant (sort_of (defaulted o x)) ≡ is_constant (sort_of x)
    by_kind None = refl
    by_kind (Some k) = settled_constant (default_type k) x

constants_given : (k : Take) (xs : List Part) → are_constant (row (all_given (alike k xs) (each xs))) ≡ are_constants xs
constants_given k [] = refl
constants_given k (x ∷ xs) = ap (λ b. b && are_constant (row (all_given (alike k xs) (each xs)))) (given_constant k x) ∙ ap (λ b. is_constant (sort_of x) && b) (constants_given k xs)

split_or : (a b : Bool) → (a || b) ≡ false → (a ≡ false) × (b ≡ false)
split_or true b e = cc
split_or false b e = (refl, e)

split_and : (a b : Bool) → (a && b) ≡ true → (a ≡ true) × (b ≡ true)
split_and true b e = (refl, e)
split_and false b e = cc

differ : {X : Type 0} (b : Bool) → b ≡ false → b ≡ true → X
differ true e f = cc
differ false e f = cc

-- ---- trees without variables

module _ (w : Standins) where
  none_there : (o : Option Standin) → is_some o ≡ false → o ≡ None
  none_there None e = refl
  none_there (Some v) e = cc

  mutual
    no_variable : (a : Bool) (x : Part) → has_variable w a x ≡ false → Away w a x
    no_variable a (typed f i j l ps) e =
        let both = split_or (is_some (at_hole w (is_hole a f l) i)) (any_variable w (is_inside a f l) ps) e in (none_there (at_hole w (is_hole a f l) i) both.0, no_variables (is_inside a f l) ps both.1)

    no_variables : (a : Bool) (ps : Typeds TypeTree) → any_variable w a ps ≡ false → AllAway w a ps
    no_variables a sort.none e = tt
    no_variables a (sort.more p ps) e = let both = split_or (has_variable w a p) (any_variable w a ps) e in (no_variable a p both.0, no_variables a ps both.1)
    no_variables a (sort.skip ps) e = no_variables a ps e

  away_by : (t : TypeTree) (b a : Bool) (f : Form) (i j : ℕ) (l : Label TypeTree) (ps : Typeds TypeTree) → (AllAway w (is_inside a f l) (all_settled t ps) → AllAway w (is_inside a f l) ps)
      → Away w a (if b then typed f i j (retyped_label t l) (all_settled t ps) else typed f i j l ps) → Away w a (typed f i j l ps)
  away_by t true a f i j l ps back h = (ap (λ b. at_hole w b i) (sym (hole_kept t a f l)) ∙ h.0, back (subst (λ b. AllAway w b (all_settled t ps)) (inside_kept t a f l) h.1))
  away_by t false a f i j l ps back h = h

  mutual
    away_back : (t : TypeTree) (a : Bool) (x : Part) → Away w a (settled t x) → Away w a x
    away_back t a (typed f i j l ps) h = away_by t (sorts.takes_type l.sort) a f i j l ps (λ g. all_away_back t (is_inside a f l) ps g) h

    all_away_back : (t : TypeTree) (a : Bool) (ps : Typeds TypeTree) → AllAway w a (all_settled t ps) → AllAway w a ps
    all_away_back t a sort.none h = tt
    all_away_back t a (sort.more p ps) h = (away_back t a p h.0, all_away_back t a ps h.1)
    all_away_back t a (sort.skip ps) h = all_away_back t a ps h

  given_back : (k : Take) (x : Part) → Away w false (given k x) → Away w false x
  given_back stay x h = h
  given_back (as_type t) x h = away_back t false x h
  given_back default x h = by_kind (open_kind (sort_of x)) h
    where
      by_kind : (o : Option OpenKind) → Away w false (defaulted o x) → Away w false x
      by_kind None g = g
      by_kind (Some k) g = away_back (default_type k) false x g

  all_away : (k : Take) (xs : List Part) → any_variable w false (row (all_given (alike k xs) (each xs))) ≡ false → All (λ x. Away w false (given k x)) xs
  all_away k [] e = tt
  all_away k (x ∷ xs) e = let both = split_or (has_variable w false (given k x)) (any_variable w false (row (all_given (alike k xs) (each xs)))) e in (no_variable false (given k x) both.0, all_away k xs both.1)

module _ (rights : Rights) where
  -- ---- each of the values that meet suits the type in which they do

  abbrev Suited : TypeTree → Option Common → Type 0
  Suited t None = ⊥
  Suited t (Some (in_type u)) = Unit {0}
  Suited t (Some (in_kind k)) = suits rights k t ≡ true

  no_meeting : {X : Type 0} (xs : List Part) (c : Common) → all_met rights None xs ≡ Some c → X
  no_meeting xs c e = let none : None ≡ Some c = sym (none_met rights tree_self trees_same xs) ∙ e in cc

  in_one : (t : TypeTree) (k : OpenKind) (xs : List Part) (c : Common) → all_met rights (one_typed rights t (Some k)) xs ≡ Some c → suits rights k (type_in c) ≡ true
  in_one t k xs c e = by_test (suits rights k t) refl e
    where
      by_test : (b : Bool) → suits rights k t ≡ b → all_met rights (if b then Some (in_type t) else None) xs ≡ Some c → suits rights k (type_in c) ≡ true
      by_test true f g = ap (λ d. suits rights k (type_in d)) (began rights tree_self trees_same t xs c g) ∙ f
      by_test false f g = no_meeting xs c g

  kind_suits : (k : OpenKind) (xs : List Part) (c : Common) → all_met rights (Some (in_kind k)) xs ≡ Some c → suits rights k (type_in c) ≡ true
  kind_suits k [] c e = let same : in_kind k ≡ c = cc in ap (λ d. suits rights k (type_in d)) (sym same) ∙ default_suits rights k
  kind_suits k (x ∷ xs) c e = by_own (λ m g. kind_suits m xs c g) (own (sort_of x)) e
    where
      by_common : ((m : OpenKind) → all_met rights (Some (in_kind m)) xs ≡ Some c → suits rights m (type_in c) ≡ true) → (l : OpenKind) (o : Option OpenKind) → common_kind k l ≡ o → all_met rights (kind_common o) xs ≡ Some c
          → suits rights k (type_in c) ≡ true
      by_common later l None f g = no_meeting xs c g
      by_common later l (Some m) f g = by_family rights tree_self m k (type_in c) (sym (both_of k l m f).1) (later m g)

      by_own : ((m : OpenKind) → all_met rights (Some (in_kind m)) xs ≡ Some c → suits rights m (type_in c) ≡ true) → (d : Option Common) → all_met rights (met rights (Some (in_kind k)) d) xs ≡ Some c → suits rights k (type_in c) ≡ true
      by_own later None g = no_meeting xs c g
      by_own later (Some (in_type u)) g = in_one u k xs c g
      by_own later (Some (in_kind l)) g = by_common later l (common_kind k l) refl g

  second_suited : (a d : Option Common) (xs : List Part) (c : Common) → all_met rights (met rights a d) xs ≡ Some c → Suited (type_in c) d
  second_suited None None xs c e = no_meeting xs c e
  second_suited (Some (in_type t)) None xs c e = no_meeting xs c e
  second_suited (Some (in_kind k)) None xs c e = no_meeting xs c e
  second_suited a (Some (in_type u)) xs c e = tt
  second_suited None (Some (in_kind k)) xs c e = no_meeting xs c e
  second_suited (Some (in_type t)) (Some (in_kind k)) xs c e = in_one t k xs c e
  second_suited (Some (in_kind l)) (Some (in_kind k)) xs c e = by_common (common_kind l k) refl e
    where
      by_common : (o : Option OpenKind) → common_kind l k ≡ o → all_met rights (kind_common o) xs ≡ Some c → suits rights k (type_in c) ≡ true
      by_common None f g = no_meeting xs c g
      by_common (Some m) f g =
          let both = both_of l k m f in
          by_family rights tree_self m k (type_in c) (both.0 ∙ sym both.1) (kind_suits m xs c g)

  first_suited : (d : Option Common) (xs : List Part) (c : Common) → all_met rights d xs ≡ Some c → Suited (type_in c) d
  first_suited None xs c e = no_meeting xs c e
  first_suited (Some (in_type u)) xs c e = tt
  first_suited (Some (in_kind k)) xs c e = kind_suits k xs c e

  all_suited : (a : Option Common) (xs : List Part) (c : Common) → all_met rights a xs ≡ Some c → All (λ x. Suited (type_in c) (own (sort_of x))) xs
  all_suited a [] c e = tt
  all_suited a (x ∷ xs) c e = (second_suited a (own (sort_of x)) xs c e, all_suited (met rights a (own (sort_of x))) xs c e)

module _ (w : Standins) (rights : Rights) where
  -- ---- from the call to its arguments

  suited_by : (t : TypeTree) (x : Part) (z : Stands) → sort_of x ≡ z → Facts w rights x → Suited rights t (own z) → unrepresented rights t x ≡ [] → Fits w false (settled t x) → GivenAs w rights (as_type t) x
  suited_by t x (sort.Value u) is facts s e fits = closed_given w rights t x (facts.ready (ap is_unknown is) (ap is_type is)) (ap is_open is) (subst (Fits w false) (keeps_type t x (ap sorts.takes_type is)) fits)
  suited_by t x (sort.Constant u c) is facts s e fits = closed_given w rights t x (facts.ready (ap is_unknown is) (ap is_type is)) (ap is_open is) (subst (Fits w false) (keeps_type t x (ap sorts.takes_type is)) fits)
  suited_by t x (sort.Open u) is facts s e fits =
      given_fitting w rights t x (facts.ready (ap is_unknown is) (ap is_type is)) (open_so (kind_of_untyped u) (ap open_kind is) s fits) (variables.takes t (kind_of_untyped u) (ap open_kind is) s (λ c. e) fits)
  suited_by t x (sort.OpenConstant c) is facts s e fits =
      given_fitting w rights t x (facts.ready (ap is_unknown is) (ap is_type is)) (open_so (kind_of_const c) (ap open_kind is) s fits) (variables.takes t (kind_of_const c) (ap open_kind is) s (λ m. e) fits)
  suited_by t x z is facts s e fits = absurd s

  suited_given : (t : TypeTree) (xs : List Part) → All (Facts w rights) xs → All (λ x. Suited rights t (own (sort_of x))) xs → each_unrepresented rights t xs ≡ [] → AllGiven w rights (alike (as_type t) xs) xs
      → Givens w rights (alike (as_type t) xs) xs
  suited_given t [] facts s e fits = tt
  suited_given t (x ∷ xs) facts s e fits =
      let both = both_none (unrepresented rights t x) (each_unrepresented rights t xs) e in
      (suited_by t x (sort_of x) refl facts.0 s.0 both.0 fits.0, suited_given t xs facts.1 s.1 both.1 fits.1)

  -- ---- constants among which no variable stands

  still_passes : (k : Take) (x : Part) → Facts w rights x → Known x → Away w false (given k x) → Passes w rights k x
  still_passes k x facts known away =
      let same = begun_nothing w false x facts.agrees (given_back w k x away) in
      record {
        calls = ap (λ y. (label_of y).calls) same;
        gives = ap (given k) same ∙ sym (put_nothing w false (given k x) (given_agrees k x facts.agrees) away);
        known = ap (λ y. is_unknown (sort_of y)) same ∙ known;
      }

  all_pass_still : (k : Take) (xs : List Part) → All (Facts w rights) xs → All Known xs → All (λ x. Away w false (given k x)) xs → AllPass w rights (alike k xs) xs
  all_pass_still k [] facts known aways = tt
  all_pass_still k (x ∷ xs) facts known aways = (still_passes k x facts.0 known.0 aways.0, all_pass_still k xs facts.1 known.1 aways.1)

  all_same : (k : Take) (xs : List Part) → All (Facts w rights) xs → All (λ x. Away w false (given k x)) xs → all_new w xs ≡ xs
  all_same k [] facts aways = refl
  all_same k (x ∷ xs) facts aways = ap (λ y. y ∷ all_new w xs) (begun_nothing w false x facts.0.agrees (given_back w k x aways.0)) ∙ ap (λ ys. x ∷ ys) (all_same k xs facts.1 aways.1)

  constant_fits : (c : Common) (x : Part) (z : Stands) → sort_of x ≡ z → is_constant z ≡ true → Suited rights (type_in c) (own z) → Fits w false (given (extreme_take_in true (Some c)) x) → WillFit rights w false x
  constant_fits (in_type t) x (sort.Constant u v) is e s fits = variables.has (ap is_open is) (subst (Fits w false) (keeps_type t x (ap sorts.takes_type is)) fits)
  constant_fits (in_kind k) x (sort.Constant u v) is e s fits = variables.has (ap is_open is) (subst (λ o. Fits w false (defaulted o x)) (ap open_kind is) fits)
  constant_fits (in_type t) x (sort.OpenConstant v) is e s fits = variables.takes t (kind_of_const v) (ap open_kind is) s (λ m. differ (is_constant (sort_of x)) m (ap is_constant is)) fits
  constant_fits (in_kind k) x (sort.OpenConstant v) is e s fits =
      let n = kind_of_const v in
      variables.takes (default_type n) n (ap open_kind is) (default_suits rights n) (λ m. differ (is_constant (sort_of x)) m (ap is_constant is)) (subst (λ o. Fits w false (defaulted o x)) (ap open_kind is) fits)
  constant_fits c x z is e s fits = cc

  all_constant_fit : (c : Common) (xs : List Part) → are_constants xs ≡ true → All Known xs → All (λ x. Suited rights (type_in c) (own (sort_of x))) xs → AllGiven w rights (alike (extreme_take_in true (Some c)) xs) xs
      → All (λ x. (is_unknown (sort_of x) ≡ false) × WillFit rights w false x) xs
  all_constant_fit c [] e known s fits = tt
  all_constant_fit c (x ∷ xs) e known s fits =
      let both = split_and (is_constant (sort_of x)) (are_constants xs) e in
      ((known.0, constant_fits c x (sort_of x) refl both.0 s.0 fits.0), all_constant_fit c xs both.1 known.1 s.1 fits.1)

  module _ (i j : ℕ) (o : Op) where
    pub record ExtremeArgued (xs : List Part) : Type 0 where
      pub pass : AllPass w rights (alike (extreme_take rights xs) xs) xs
      pub fine : All (λ x. (is_unknown (sort_of x) ≡ false) × WillFit rights w false x) xs
      pub failing : extreme_failing rights i j (all_new w xs) ≡ []
      pub sort : extreme_sort rights o (all_new w xs) ≡ extreme_sort rights o xs
      pub takes : alike (extreme_take rights (all_new w xs)) (all_new w xs) ≡ alike (extreme_take rights xs) xs

    abbrev given_row : List Part → Typeds TypeTree
    given_row xs = row (all_given (alike (extreme_take rights xs) xs) (each xs))

    extreme_by : (x : Part) (xs : List Part) (m : Option Common) → meeting rights (x ∷ xs) ≡ m → All (Facts w rights) (x ∷ xs) → are_constants (x ∷ xs) ≡ false → extreme_failing_in rights i j (x ∷ xs) m ≡ []
        → AllFit w false (given_row (x ∷ xs)) → ExtremeArgued (x ∷ xs)
    extreme_by x xs None is facts plain rule fits = cc
    extreme_by x xs (Some c) is facts plain rule fits =
        let all = x ∷ xs in
        let t = type_in c in
        let take : extreme_take rights all ≡ as_type t = ap (λ b. extreme_take_in b (meeting rights all)) plain ∙ ap (extreme_take_in false) is ∙ taken_now rights tree_self trees_same c in
        let both = neither (unordered rights i j c) (extreme_refuse rights (are_constants all) c all) rule in
        let range = refused_now rights tree_self trees_same c all (sym (ap (λ b. extreme_refuse rights b c all) plain) ∙ both.1) in
        let each_fits = all_fit_each w rights (alike (as_type t) all) all (subst (λ k. AllFit w false (row (all_given (alike k all) (each all)))) take fits) (alike_length (as_type t) all) in
        let given = suited_given t all facts (first_suited rights (own (sort_of x)) xs c is, all_suited rights (own (sort_of x)) xs c is) range each_fits in
        let r = extreme_row rights tree_self trees_same o i j x (begun w false x) xs (all_new w xs) (λ d e. operands d e given) plain (ap (extreme_failing_in rights i j all) is ∙ rule) in
        record {
          pass = subst (λ k. AllPass w rights (alike k all) all) (sym take) (all_pass w rights (alike (as_type t) all) all given);
          fine = all_fine w rights (alike (as_type t) all) all given;
          failing = r.failing;
          sort = r.stands;
          takes = ap (λ k. alike k (all_new w all)) r.take ∙ alike_new w (extreme_take rights all) all;
        }
      where
        operands : (d : Common) → meeting rights (x ∷ xs) ≡ Some d → Givens w rights (alike (as_type (type_in c)) (x ∷ xs)) (x ∷ xs) → Operands rights (type_in d) (x ∷ xs) (all_new w (x ∷ xs))
        operands d e g =
            let two : Some c ≡ Some d = sym is ∙ e in
            let same : c ≡ d = cc in
            subst (λ z. Operands rights (type_in z) (x ∷ xs) (all_new w (x ∷ xs))) same (operands_of w rights (type_in c) (x ∷ xs) g)

    extreme_still : (x : Part) (xs : List Part) (m : Option Common) → meeting rights (x ∷ xs) ≡ m → All (Facts w rights) (x ∷ xs) → All Known (x ∷ xs) → are_constants (x ∷ xs) ≡ true → any_variable w false (given_row (x ∷ xs)) ≡ false
        → extreme_failing_in rights i j (x ∷ xs) m ≡ []
        → AllFit w false (given_row (x ∷ xs)) → ExtremeArgued (x ∷ xs)
    extreme_still x xs None is facts known constant none rule fits = cc
    extreme_still x xs (Some c) is facts known constant none rule fits =
        let all = x ∷ xs in
        let k = extreme_take rights all in
        let take : k ≡ extreme_take_in true (Some c) = ap (λ b. extreme_take_in b (meeting rights all)) constant ∙ ap (extreme_take_in true) is in
        let aways = all_away w k all none in
        let same = all_same k all facts aways in
        let each_fits = all_fit_each w rights (alike (extreme_take_in true (Some c)) all) all (subst (λ q. AllFit w false (row (all_given (alike q all) (each all)))) take fits) (alike_length (extreme_take_in true (Some c)) all) in
        record {
          pass = all_pass_still k all facts known aways;
          fine = all_constant_fit c all constant known (first_suited rights (own (sort_of x)) xs c is, all_suited rights (own (sort_of x)) xs c is) each_fits;
          failing = ap (extreme_failing rights i j) same ∙ ap (extreme_failing_in rights i j all) is ∙ rule;
          sort = ap (extreme_sort rights o) same;
          takes = ap (λ ys. alike (extreme_take rights ys) ys) same;
        }

    -- Where not all are constants, each takes the type in which they meet; else no variable stands among them.
    pub extreme_argued : (x : Part) (xs : List Part) → All (Facts w rights) (x ∷ xs) → All Known (x ∷ xs) → (are_constant (given_row (x ∷ xs)) && any_variable w false (given_row (x ∷ xs))) ≡ false → extreme_failing rights i j (x ∷ xs) ≡ []
        → AllFit w false (given_row (x ∷ xs)) → ExtremeArgued (x ∷ xs)
    extreme_argued x xs facts known folded rule fits = by_constants (are_constants (x ∷ xs)) refl
      where
        by_constants : (b : Bool) → are_constants (x ∷ xs) ≡ b → ExtremeArgued (x ∷ xs)
        by_constants false e = extreme_by x xs (meeting rights (x ∷ xs)) refl facts e rule fits
        by_constants true e =
            let none : any_variable w false (given_row (x ∷ xs)) ≡ false = sym (ap (λ b. b && any_variable w false (given_row (x ∷ xs))) (constants_given (extreme_take rights (x ∷ xs)) (x ∷ xs) ∙ e)) ∙ folded in
            extreme_still x xs (meeting rights (x ∷ xs)) refl facts known e none rule fits
