-- The operand of a conversion that isn't constant: what it takes, and that it fits.
use Rattle.std.proofs.Common.{◌≡◌, ◌∙◌, ℕ, Bool, true, false, [], ◌∷◌, Option, Some, None, refl, sym, ap, subst}
use Rattle.std.specs.Prelude.{◌&&◌, ◌||◌, not, if◌then◌else◌, is_some}
use Rattle.go_base.specs.declared.fault.FaultCode.TheVariants as code
use Rattle.go_constants.specs.declared.values.Const.{Const}
use Rattle.go_constants.specs.declared.values.Const.TheVariants as const
use Rattle.go_types.specs.Trees.{TypeTree, boolean, text, is_named}
use Rattle.go_types.specs.Relations.{Rights}
use Rattle.go_types_relations.specs.Identity.{is_identical}
use Rattle.go_types_relations.specs.Tests.{underlying_of, both_identical, is_assignable}
use Rattle.go_typed.specs.Trees.{Sort, typed, sort_of}
use Rattle.go_typed.specs.Trees as sort
use Rattle.go_exprs_rules.specs.declared.family.Family.TheVariants as family
use Rattle.go_exprs_rules.specs.declared.family.OpenKind.{OpenKind}
use Rattle.go_exprs_rules.specs.Calls.{keeps_value, is_integer_type, is_text_type, converts_number, converts_bytes, converts, value_conversion, conversion_failing, conversion_sort, conversion_take}
use Rattle.go_exprs_rules.specs.Settling.{Part, default, as_type, given, unrepresented}
use Rattle.go_exprs_rules.specs.Sorts.{Stands, is_constant, is_open, is_nil, is_unknown, is_whole, is_family, is_byte, is_bytes, family_of_type, underlying_in, slice_element, open_kind, suits, default_type, kind_of_const}
use Rattle.go_exprs_rules.specs.Sorts.{kind_of_untyped, int, rune}
use Rattle.go_exprs_rules.specs.Tables.{is_type}
use Rattle.go_exprs_variables.specs.Operands.{IsValue}
use Rattle.go_exprs_variables.specs.Stood as stood
use Rattle.go_exprs_variables.specs.Stood.{Stood, as_before, in_place, early}
use Rattle.go_exprs_variables.specs.Variables as variables
use Rattle.go_exprs_variables.specs.Variables.{Standins, begun, Fits}
use Rattle.go_exprs_variables.proofs.Arguments.{given_fitting, closed_given, given_by_default}
use Rattle.go_exprs_variables.proofs.Assembly.{keeps_type}
use Rattle.go_exprs_variables.proofs.Conversions.{unless_true, open_take, Plain, plain, plain_rule, conversion_row}
use Rattle.go_exprs_variables.proofs.GivenLists.{GivenAs, Argued, argued_of}
use Rattle.go_exprs_variables.proofs.Identities.{trees_same, tree_self}
use Rattle.go_exprs_variables.proofs.Indexes.{whole_kept}
use Rattle.go_exprs_variables.proofs.Operands.{Ready, open_so}
use Rattle.go_exprs_variables.proofs.Parts.{holds}
use Rattle.go_exprs_variables.proofs.Ready.{Facts}

differ : {X : Type 0} (b : Bool) → b ≡ false → b ≡ true → X
differ true e f = cc
differ false e f = cc

and_false : (b : Bool) → (b && false) ≡ false
and_false true = refl
and_false false = refl

boolean_under : (o : Option TypeTree) → is_family family.Booleans (family_of_type o) ≡ true → o ≡ Some boolean
boolean_under (Some boolean) e = refl
boolean_under None e = cc
boolean_under (Some t) e = cc

module _ (rights : Rights) where
  -- ---- no number and no text is converted to a boolean type

  -- of a basic type u, whose underlying type is itself and no boolean
  record NoBoolean (u : TypeTree) : Type 0 where
    under : underlying_of rights u ≡ Some u
    other : both_identical (Some u) (Some boolean) ≡ false

  unassigned : (t u : TypeTree) → underlying_of rights t ≡ Some boolean → NoBoolean u → is_assignable rights u t ≡ false
  unfolding is_assignable
  unassigned t u e n = by_identity (is_identical u t) refl ∙ ap (λ b. b && not (is_named u && is_named t)) (ap (λ o. both_identical o (underlying_of rights t)) n.under ∙ ap (both_identical (Some u)) e ∙ n.other)
    where
      by_identity : (b : Bool) → is_identical u t ≡ b
          → (b || (both_identical (underlying_of rights u) (underlying_of rights t) && not (is_named u && is_named t))) ≡ (both_identical (underlying_of rights u) (underlying_of rights t) && not (is_named u && is_named t))
      by_identity false f = refl
      by_identity true f =
          let same : Some u ≡ Some boolean = sym n.under ∙ ap (underlying_of rights) (trees_same u t f) ∙ e in
          differ (both_identical (Some u) (Some boolean)) n.other (ap (λ o. both_identical o (Some boolean)) same)

  unconverted : (t u : TypeTree) → underlying_of rights t ≡ Some boolean → NoBoolean u → converts rights t u true ≡ false
  unconverted t u e n =
      let numbers : converts_number rights t u true ≡ false = nothing (is_integer_type rights u) (is_integer_type rights t || is_text_type rights t) in
      let no_bytes : is_bytes rights t ≡ false = ap (λ o. is_byte (underlying_in rights (slice_element o))) e in
      let no_text : is_text_type rights t ≡ false = ap (λ o. is_family family.Texts (family_of_type o)) e in
      let bytes : converts_bytes rights t u ≡ false =
      ap (λ b. (is_text_type rights u && b) || (is_bytes rights u && is_text_type rights t)) no_bytes ∙ ap (λ b. (is_text_type rights u && false) || (is_bytes rights u && b)) no_text
      ∙ ap (λ b. b || (is_bytes rights u && false)) (and_false (is_text_type rights u)) ∙ and_false (is_bytes rights u) in
      ap (λ b. b || both_identical (underlying_of rights u) (underlying_of rights t) || converts_number rights t u true || converts_bytes rights t u) (unassigned t u e n)
      ∙ ap (λ b. b || converts_number rights t u true || converts_bytes rights t u) (ap (λ o. both_identical o (underlying_of rights t)) n.under ∙ ap (both_identical (Some u)) e ∙ n.other)
      ∙ ap (λ b. b || converts_bytes rights t u) numbers ∙ bytes
    where
      nothing : (a b : Bool) → (a && b && not true) ≡ false
      nothing true true = refl
      nothing true false = refl
      nothing false b = refl

  abbrev is_truth_type : TypeTree → Bool
  is_truth_type t = is_family family.Booleans (family_of_type (underlying_of rights t))

  -- whether the operand takes the target
  abbrev takes_target : TypeTree → Stands → Bool
  takes_target t z = (is_integer_type rights t && is_whole rights z) || is_truth_type t || is_nil z

  second_or : (a b : Bool) → ((a && false) || b || false) ≡ true → b ≡ true
  second_or true true e = refl
  second_or false true e = refl
  second_or true false e = cc
  second_or false false e = cc

  first_off : (a b c : Bool) → a ≡ false → ((a && b) || c || false) ≡ true → c ≡ true
  first_off false b true e f = refl
  first_off false b false e f = cc
  first_off true b c e f = cc

  -- An untyped constant that is converted to a type which it takes suits it.
  constant_suits : (t : TypeTree) (c : Const) → keeps_value rights t (Some c) ≡ false → takes_target t (sort.OpenConstant c) ≡ true → converts rights t (default_type (kind_of_const c)) true ≡ true → suits rights (kind_of_const c) t ≡ true
  constant_suits t (const.Bool v) keeps takes e = differ (is_truth_type t) keeps (second_or (is_integer_type rights t) (is_truth_type t) takes)
  constant_suits t (const.Int z true) keeps takes e =
      let under = boolean_under (underlying_of rights t) (first_off (is_integer_type rights t) (is_whole rights (sort.OpenConstant (const.Int z true))) (is_truth_type t) keeps takes) in
      differ (converts rights t rune true) (unconverted t rune under (record { under = refl; other = refl })) e
  constant_suits t (const.Int z false) keeps takes e =
      let under = boolean_under (underlying_of rights t) (first_off (is_integer_type rights t) (is_whole rights (sort.OpenConstant (const.Int z false))) (is_truth_type t) keeps takes) in
      differ (converts rights t int true) (unconverted t int under (record { under = refl; other = refl })) e
  constant_suits t (const.Text v) keeps takes e =
      let under = boolean_under (underlying_of rights t) (second_or (is_integer_type rights t) (is_truth_type t) takes) in
      differ (converts rights t text true) (unconverted t text under (record { under = refl; other = refl })) e

  nil_take : (t : TypeTree) → conversion_take rights t sort.Nil ≡ as_type t
  nil_take t = by_tests (is_integer_type rights t && is_whole rights sort.Nil) (is_truth_type t)
    where
      by_tests : (a b : Bool) → (if a || b || true then as_type t else default) ≡ as_type t
      by_tests true b = refl
      by_tests false true = refl
      by_tests false false = refl

  nil_kept : (u : Option TypeTree) (b c : Stands) → Stood rights u b c → is_nil c ≡ is_nil b
  nil_kept u b c (as_before v z) = refl
  nil_kept u b c (in_place v t z) = refl
  nil_kept u b c (early t z k m n) = sym (no_nil z k m)
    where
      no_nil : (z : Stands) (k : OpenKind) → open_kind z ≡ Some k → is_nil z ≡ false
      no_nil sort.Nil k e = cc
      no_nil z k e = refl

  take_kept : (t : TypeTree) (u : Option TypeTree) (b c : Stands) → Stood rights u b c → conversion_take rights t c ≡ conversion_take rights t b
  take_kept t u b c st =
      ap (λ z. if (is_integer_type rights t && z) || is_truth_type t || is_nil c then as_type t else default) (whole_kept rights u b c st)
      ∙ ap (λ z. if (is_integer_type rights t && is_whole rights b) || is_truth_type t || z then as_type t else default) (nil_kept u b c st)

module _ (w : Standins) (rights : Rights) where
  -- what has its type fits as it is
  closed_either : (t : TypeTree) (x : Part) (b : Bool) → Ready rights w false x → is_open (sort_of x) ≡ false → is_nil (sort_of x) ≡ false → Fits w false (given (if b then as_type t else default) x)
      → GivenAs w rights (if b then as_type t else default) x
  closed_either t x true r e n fits = closed_given w rights t x r e (subst (Fits w false) (keeps_type t x (ap (λ b. b || is_nil (sort_of x)) e ∙ n)) fits)
  closed_either t x false r e n fits = given_by_default w rights x r n (λ c k m. no_open k m) fits
    where
      no_open : {X : Type 0} (k : OpenKind) → open_kind (sort_of x) ≡ Some k → X
      no_open k m = differ (is_open (sort_of x)) e (ap is_some m)

  constant_either : (t : TypeTree) (x : Part) (c : Const) (b : Bool) → sort_of x ≡ sort.OpenConstant c → takes_target rights t (sort_of x) ≡ b → Facts w rights x → keeps_value rights t (Some c) ≡ false
      → converts rights t (default_type (kind_of_const c)) true ≡ true
      → Fits w false (given (if b then as_type t else default) x) → GivenAs w rights (if b then as_type t else default) x
  constant_either t x c true is test facts keeps e fits =
      let r = facts.ready (ap is_unknown is) (ap is_type is) in
      let at : open_kind (sort_of x) ≡ Some (kind_of_const c) = ap open_kind is in
      let s = constant_suits rights t c keeps (sym (ap (takes_target rights t) is) ∙ test) e in
      given_fitting w rights t x r (open_so (kind_of_const c) at s fits) (variables.takes t (kind_of_const c) at s (λ m. differ (is_constant (sort_of x)) m (ap is_constant is)) fits)
  constant_either t x c false is test facts keeps e fits = given_by_default w rights x (facts.ready (ap is_unknown is) (ap is_type is)) (ap is_nil is) (λ m k n. differ (is_constant (sort_of x)) m (ap is_constant is)) fits

  converted_by : (i j : ℕ) (t : TypeTree) (x : Part) (z : Stands) → sort_of x ≡ z → Facts w rights x → is_unknown z ≡ false → Plain rights tree_self t z → value_conversion rights i j t x z ≡ []
      → Fits w false (given (conversion_take rights t (sort_of x)) x)
      → GivenAs w rights (conversion_take rights t (sort_of x)) x
  converted_by i j t x (sort.Value u) is facts known p e fits = closed_either t x (takes_target rights t (sort_of x)) (facts.ready (ap is_unknown is) (ap is_type is)) (ap is_open is) (ap is_nil is) fits
  converted_by i j t x (sort.Constant u c) is facts known p e fits = closed_either t x (takes_target rights t (sort_of x)) (facts.ready (ap is_unknown is) (ap is_type is)) (ap is_open is) (ap is_nil is) fits
  converted_by i j t x sort.Nil is facts known p e fits =
      let take : conversion_take rights t (sort_of x) ≡ as_type t = ap (conversion_take rights t) is ∙ nil_take rights t in
      subst (λ k. GivenAs w rights k x) (sym take) (closed_given w rights t x (facts.ready (ap is_unknown is) (ap is_type is)) (ap is_open is) (facts.nil (ap is_nil is) t (subst (λ k. Fits w false (given k x)) take fits)))
  converted_by i j t x (sort.Open u) is facts known p e fits =
      let k = kind_of_untyped u in
      let ok = holds (suits rights k t) (unrepresented rights t x) code.Operands i j e in
      let take : conversion_take rights t (sort_of x) ≡ as_type t = ap (conversion_take rights t) is ∙ open_take rights tree_self t u ok.0 in
      let f = subst (λ k. Fits w false (given k x)) take fits in
      let at : open_kind (sort_of x) ≡ Some k = ap open_kind is in
      subst (λ k. GivenAs w rights k x) (sym take) (given_fitting w rights t x (facts.ready (ap is_unknown is) (ap is_type is)) (open_so k at ok.0 f) (variables.takes t k at ok.0 (λ c. ok.1) f))
  converted_by i j t x (sort.OpenConstant c) is facts known p e fits = constant_either t x c (takes_target rights t (sort_of x)) is refl facts p.keeps (unless_true (converts rights t (default_type (kind_of_const c)) true) i j e) fits
  converted_by i j t x z is facts known p e fits = cc

  -- A conversion that isn't constant: its operand takes the target or its default type.
  pub conversion_argued : (i j : ℕ) (t : TypeTree) (x : Part) → Facts w rights x → is_unknown (sort_of x) ≡ false → conversion_failing rights i j t x ≡ [] → IsValue (conversion_sort rights t (sort_of x))
      → Fits w false (given (conversion_take rights t (sort_of x)) x)
      → Argued w rights i j (sort.IsType t) (x ∷ [])
  conversion_argued i j t x facts known rule value fits =
      let p = plain rights tree_self t (sort_of x) value in
      let given = converted_by i j t x (sort_of x) refl facts known p (sym (plain_rule rights tree_self i j t x p) ∙ rule) fits in
      let kept = conversion_row rights tree_self i j t x (begun w false x) given.operand rule value in
      argued_of w rights i j (sort.IsType t) (x ∷ []) (given, tt)
      (record { failing = kept.failing; sort = kept.stands; takes = ap (λ k. k ∷ []) (take_kept rights t (stood.taken (conversion_take rights t (sort_of x)) None (sort_of x)) (sort_of x) (sort_of (begun w false x)) given.operand.stands) })
