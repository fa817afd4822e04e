-- Operations of assignments, on a variable and an operand, with variables in them.
use Rattle.std.proofs.Common.{◌≡◌, ◌∙◌, ◌⊎◌, inl, inr, ℕ, Bool, true, false, List, [], ◌∷◌, ◌++◌, map, Option, Some, None, refl, sym, ap, subst}
use Rattle.std.specs.Prelude.{◌&&◌, not, if◌then◌else◌, is_some, Result}
use Rattle.go_base.specs.declared.fault.FaultCode.TheVariants as code
use Rattle.go_constants.specs.declared.values.Const.{Const}
use Rattle.go_constants.specs.declared.values.Const.TheVariants as const
use Rattle.go_constants.specs.declared.values.ConstFault.{ConstFault}
use Rattle.go_constants.specs.declared.values.ConstOp.{ConstOp}
use Rattle.go_grammar.specs.declared.kind.Arithmetic.{Arithmetic}
use Rattle.go_grammar.specs.declared.kind.Operator.{Operator}
use Rattle.go_grammar.specs.declared.kind.Operator.TheVariants as operator
use Rattle.go_types.specs.Trees.{TypeTree}
use Rattle.go_types.specs.Relations.{Rights}
use Rattle.go_types_relations.specs.Identity.{is_identical}
use Rattle.go_typed.specs.Trees.{sort_of, row}
use Rattle.go_typed.specs.Trees as sort
use Rattle.go_exprs_rules.specs.declared.fault.TypeFault.{TypeFault}
use Rattle.go_exprs_rules.specs.declared.family.Family.TheVariants as family
use Rattle.go_exprs_rules.specs.declared.family.OpenKind.{OpenKind}
use Rattle.go_exprs_rules.specs.declared.family.OpenKind.TheVariants as untyped_kind
use Rattle.go_exprs_rules.specs.Faults.{fault_at, or_else}
use Rattle.go_exprs_rules.specs.Operators.{Common, in_type, common, common_by, one_typed, open_kinds, constant_op, folded_both, family_in, both_refuse, out_of_range, admits, divides, zero_divisor, own, binary_value}
use Rattle.go_exprs_rules.specs.Operators.{binary_failing, binary_failing_in, binary_take, binary_take_in, is_count, shift_failing, shift_failing_in, shifted_take, is_shift, operation_failing, operation_takes}
use Rattle.go_exprs_rules.specs.Settling.{Part, stay, default, as_type, settled, given, defaulted, at_part, unrepresented}
use Rattle.go_exprs_rules.specs.Sorts.{Stands, constant_of, is_constant, is_family, is_open, is_negative, is_whole, is_zero, open_kind, own_type, suits, takes_type, uint}
use Rattle.go_exprs_rules.specs.Tables.{Parts}
use Rattle.go_stmts_defs.specs.Assigning.{Taking, takes}
use Rattle.go_stmts_defs.specs.Rules.{all_given}
use Rattle.go_exprs_variables.specs.Stood.{Stood, as_before, in_place, early}
use Rattle.go_exprs_variables.specs.Variables.{Standins, begun, Fits, AllFit}
use Rattle.go_exprs_variables.specs.Variables as variables
use Rattle.go_exprs_variables.proofs.Public.{Meets, both_none, held, holds, keeps_type, meets, meets_sooner, meets_there, neither, no_place, none_of_both, of_neither, seen, tree_self, typed_operand}
use Rattle.go_stmts_variables.proofs.Expressions.{Will, will, IsValuePart}
use Rattle.go_stmts_variables.proofs.Puts.{Puts, value_put}
use Rattle.go_stmts_variables.proofs.Wills.{Suits, will_as, operand_as}

-- ---- values of operations become fewer

admitted : (b : Bool) (all fs : List TypeFault) (i j : ℕ) → (if b then all else fs ++ fault_at code.Operands i j) ≡ [] → (b ≡ true) × (all ≡ [])
admitted true all fs i j e = (refl, e)
admitted false all [] i j e = cc
admitted false all (f ∷ fs) i j e = cc

two_true : (b c : Bool) → (b && c) ≡ true → (b ≡ true) × (c ≡ true)
two_true true c e = (refl, e)
two_true false c e = cc

constants : (rights : Rights) (o : Option TypeTree) (a b : Stands) → Stood rights o a b → (constant_of b ≡ constant_of a) ⊎ (constant_of b ≡ None)
constants rights o a b (as_before v c) = inl refl
constants rights o a b (in_place v t c) = inr refl
constants rights o a b (early t c k e f) = inr refl

no_second : (o : ConstOp) (x : Option Const) → folded_both o x None ≡ None
no_second o None = refl
no_second o (Some c) = refl

fold_less : (o : ConstOp) (a b x y : Option Const) → (x ≡ a) ⊎ (x ≡ None) → (y ≡ b) ⊎ (y ≡ None) → (folded_both o x y ≡ folded_both o a b) ⊎ (folded_both o x y ≡ None)
fold_less o a b x y (inl e) (inl f) = inl (ap (λ z. folded_both o z y) e ∙ ap (folded_both o a) f)
fold_less o a b x y (inr e) f = inr (ap (λ z. folded_both o z y) e)
fold_less o a b x y (inl e) (inr f) = inr (ap (folded_both o x) f ∙ no_second o x)

range_less : (rights : Rights) (i j : ℕ) (c : Common) (r s : Option (Result Const ConstFault)) → (s ≡ r) ⊎ (s ≡ None) → out_of_range rights i j c r ≡ [] → out_of_range rights i j c s ≡ []
range_less rights i j c r s (inl e) f = ap (out_of_range rights i j c) e ∙ f
range_less rights i j c r s (inr e) f = ap (out_of_range rights i j c) e

no_zero : (b : Bool) (y : Part) → (if b then at_part code.ZeroDivisor y else []) ≡ [] → b ≡ false
no_zero false y e = refl
no_zero true y e = absurd (no_place code.ZeroDivisor y e)

zero_less : (b : Bool) (v u : Option Const) → (u ≡ v) ⊎ (u ≡ None) → (b && is_zero v) ≡ false → (b && is_zero u) ≡ false
zero_less b v u (inl e) f = ap (λ z. b && is_zero z) e ∙ f
zero_less true v u (inr e) f = ap is_zero e
zero_less false v u (inr e) f = refl

-- ---- operands of which the first isn't untyped

no_kind : (o : Option OpenKind) → is_some o ≡ false → o ≡ None
no_kind None e = refl
no_kind (Some k) e = cc

typed_takes : (z : Stands) (t : TypeTree) → own_type z ≡ Some t → takes_type z ≡ false
typed_takes (sort.Value u) t e = refl
typed_takes (sort.Constant u c) t e = refl
typed_takes z t e = cc

two_types : {X : Type 0} (z : Stands) (u : TypeTree) (k : OpenKind) → own_type z ≡ Some u → open_kind z ≡ Some k → X
two_types (sort.Value v) u k e f = cc
two_types (sort.Constant v c) u k e f = cc
two_types z u k e f = cc

closed_taken : (x : Part) (b : Bool) → is_open (sort_of x) ≡ false → given (if b then default else stay) x ≡ x
closed_taken x false o = refl
closed_taken x true o = ap (λ q. defaulted q x) (no_kind (open_kind (sort_of x)) o)

own_kept : (rights : Rights) (u : Option TypeTree) (a b : Stands) → Stood rights u a b → u ≡ None → own b ≡ own a
own_kept rights u a b (as_before v c) e = refl
own_kept rights u a b (in_place v t c) e = refl
own_kept rights u a b (early t c k m n) e = cc

closed_kept : (rights : Rights) (u : Option TypeTree) (a b : Stands) → Stood rights u a b → is_open a ≡ false → is_open b ≡ false
closed_kept rights u a b (as_before v c) e = e
closed_kept rights u a b (in_place v t c) e = refl
closed_kept rights u a b (early t c k m n) e = refl

module _ (rights : Rights) where
  in_one : (b : Bool) (t : TypeTree) (c : Common) → (if b then Some (in_type t) else None) ≡ Some c → c ≡ in_type t
  in_one true t c e = cc
  in_one false t c e = cc

  one_type : (t : TypeTree) (k : Option OpenKind) (c : Common) → one_typed rights t k ≡ Some c → (c ≡ in_type t) × ((l : OpenKind) → k ≡ Some l → suits rights l t ≡ true)
  one_type t None c e = cc
  one_type t (Some k) c e = by (suits rights k t) refl e
    where
      by : (b : Bool) → suits rights k t ≡ b → (if b then Some (in_type t) else None) ≡ Some c → (c ≡ in_type t) × ((l : OpenKind) → Some k ≡ Some l → suits rights l t ≡ true)
      by true f g = let is : c ≡ in_type t = cc in (is, λ l m. let same : k ≡ l = cc in ap (λ z. suits rights z t) (sym same) ∙ f)
      by false f g = cc

  -- They meet in the type of the first, which the second takes if it is untyped.
  record InType (a b : Stands) (c : Common) : Type 0 where
    pub type : TypeTree
    pub is : c ≡ in_type type
    pub has : own_type a ≡ Some type
    pub suited : (k : OpenKind) → open_kind b ≡ Some k → suits rights k type ≡ true

  meeting_type : (a b : Stands) (c : Common) → is_open a ≡ false → common rights a b ≡ Some c → InType a b c
  meeting_type a b c o e = by (own_type a) (own_type b) refl refl e
    where
      by : (p q : Option TypeTree) → own_type a ≡ p → own_type b ≡ q → common_by rights a b p q ≡ Some c → InType a b c
      by (Some t) (Some u) m n f = record { type = t; is = in_one (is_identical t u) t c f; has = m; suited = λ k g. two_types b u k n g }
      by (Some t) None m n f = let r = one_type t (open_kind b) c f in record { type = t; is = r.0; has = m; suited = r.1 }
      by None (Some u) m n f = let never : one_typed rights u None ≡ Some c = sym (ap (one_typed rights u) (no_kind (open_kind a) o)) ∙ f in cc
      by None None m n f = let never : open_kinds None (open_kind b) ≡ Some c = sym (ap (λ z. open_kinds z (open_kind b)) (no_kind (open_kind a) o)) ∙ f in cc

  -- ---- counts

  count_suits : (z : Stands) (k : OpenKind) → open_kind z ≡ Some k → is_count rights z ≡ true → suits rights k uint ≡ true
  count_suits (sort.Open u) k e f = cc
  count_suits (sort.OpenConstant (const.Int v true)) k e f = let same : untyped_kind.Rune ≡ k = cc in ap (λ m. suits rights m uint) (sym same)
  count_suits (sort.OpenConstant (const.Int v false)) k e f = let same : untyped_kind.Integer ≡ k = cc in ap (λ m. suits rights m uint) (sym same)
  count_suits (sort.OpenConstant (const.Bool b)) k e f = cc
  count_suits (sort.OpenConstant (const.Text bs)) k e f = cc
  count_suits z k e f = cc

  counts : (o : Option TypeTree) (a b : Stands) → o ≡ Some uint → Stood rights o a b → is_count rights a ≡ true → is_count rights b ≡ true
  counts o a b is (as_before v c) h = h
  counts o a b is (in_place v t c) h = (two_true (is_whole rights (sort.Constant t c)) (not (is_negative (Some c))) h).0
  counts o a b is (early t c k e f) h = let same : t ≡ uint = cc in ap (λ z. is_count rights (sort.Value z)) same

  module _ (w : Standins) (c : Arithmetic) (i j : ℕ) where
    abbrev op : Operator
    op = operator.Compute c

    abbrev two : Part → Part → Parts
    two x y = Some x ∷ Some y ∷ []

    abbrev taken : Part → Part → List Taking
    taken x y = map takes (operation_takes rights op (sort_of x) (sort_of y))

    -- The operation with variables in its operands.
    pub record NewOperation (ks : List Taking) (x y : Part) : Type 0 where
      pub failing : operation_failing rights op i j (begun w false x) (begun w false y) ≡ []
      pub same : all_given (taken (begun w false x) (begun w false y)) (two (begun w false x) (begun w false y)) ≡ all_given ks (two (begun w false x) (begun w false y))
      pub puts : Puts w ks (two x y)

    -- An operation on a variable and an operand: what they take, that they will fit, and what becomes of it.
    pub record IsOperation (x y : Part) : Type 0 where
      pub each : List Taking
      pub same : all_given (taken x y) (two x y) ≡ all_given each (two x y)
      pub fits : Fits w false x
      pub left : Will w rights x
      pub right : Will w rights y
      pub new : IsValuePart w x → IsValuePart w y → NewOperation each x y

    never_suits : (t : TypeTree) (x : Part) → is_open (sort_of x) ≡ false → Suits w rights t x
    never_suits t x o k e = let never : true ≡ false = sym (ap is_some e) ∙ o in cc

    -- ---- operators that don't shift

    module _ (plain : is_shift op ≡ false) where
      failing_is : (x y : Part) → operation_failing rights op i j x y ≡ binary_failing rights op i j x y
      failing_is x y = ap (λ b. if b then shift_failing rights op i j x y else binary_failing rights op i j x y) plain

      taken_is : (t : TypeTree) (x y : Part) → common rights (sort_of x) (sort_of y) ≡ Some (in_type t) → taken x y ≡ takes (as_type t) ∷ takes (as_type t) ∷ []
      taken_is t x y e =
          ap (λ b. map takes (if b then shifted_take (sort_of x) (sort_of y) ∷ as_type uint ∷ [] else binary_take rights (sort_of x) (sort_of y) ∷ binary_take rights (sort_of x) (sort_of y) ∷ [])) plain
          ∙ ap (λ d. map takes (binary_take_in (sort_of x) (sort_of y) d ∷ binary_take_in (sort_of x) (sort_of y) d ∷ [])) e

      met : (t : TypeTree) (d : Option Common) → Meets rights None (in_type t) d → d ≡ Some (in_type t)
      met t d (meets_there e) = e
      met t d (meets_sooner s k m n f e) = cc

      in_one_type : (t : TypeTree) (x y : Part) → is_open (sort_of x) ≡ false → own_type (sort_of x) ≡ Some t → ((k : OpenKind) → open_kind (sort_of y) ≡ Some k → suits rights k t ≡ true)
          → common rights (sort_of x) (sort_of y) ≡ Some (in_type t) → binary_failing rights op i j x y ≡ [] → AllFit w false (row (all_given (taken x y) (two x y))) → IsOperation x y
      in_one_type t x y o has suited is f fits =
          let a = sort_of x in
          let b = sort_of y in
          let all : AllFit w false (row (two (settled t x) (settled t y))) = subst (λ ks. AllFit w false (row (all_given ks (two x y)))) (taken_is t x y is) fits in
          let d : Common = in_type t in
          let refuse = both_refuse rights d x y in
          let out = out_of_range rights i j d (binary_value op a b) in
          let ok = admitted (admits op (family_in rights d)) (or_else (refuse ++ zero_divisor op y) out) refuse i j (sym (ap (binary_failing_in rights op i j x y) is) ∙ f) in
          let apart = neither (refuse ++ zero_divisor op y) out ok.1 in
          let parts = both_none refuse (zero_divisor op y) apart.0 in
          let range = both_none (unrepresented rights t x) (unrepresented rights t y) parts.0 in
          let sx : Suits w rights t x = never_suits t x o in
          let sy : Suits w rights t y = λ k e. (suited k e, range.1) in
          record {
            each = takes (as_type t) ∷ takes (as_type t) ∷ [];
            same = ap (λ ks. all_given ks (two x y)) (taken_is t x y is);
            fits = subst (Fits w false) (keeps_type t x (typed_takes a t has)) all.0;
            left = will_as w rights t x sx all.0;
            right = will_as w rights t y sy all.1.0;
            new = λ vx vy.
                let z = begun w false x in
                let v = begun w false y in
                let ox = operand_as w rights t x vx sx all.0 in
                let oy = operand_as w rights t y vy sy all.1.0 in
                let now = met t (common rights (sort_of z) (sort_of v))
                (meets rights tree_self None (Some t) (Some t) a b (sort_of z) (sort_of v) (in_type t) (seen rights (Some t) a (sort_of z) ox.stands) (seen rights (Some t) b (sort_of v) oy.stands) refl refl is) in
                let left = constants rights (Some t) a (sort_of z) ox.stands in
                let right = constants rights (Some t) b (sort_of v) oy.stands in
                let zero : zero_divisor op v ≡ [] = ap (λ q. if q then at_part code.ZeroDivisor v else [])
                (zero_less (divides op) (constant_of b) (constant_of (sort_of v)) right (no_zero (divides op && is_zero (constant_of b)) y parts.1)) in
                let refused = none_of_both (unrepresented rights t z) (unrepresented rights t v) (ox.range t range.0) (oy.range t range.1) in
                let out_now = out_of_range rights i j d (binary_value op (sort_of z) (sort_of v)) in
                let ranged : out_now ≡ [] = range_less rights i j d (binary_value op a b) (binary_value op (sort_of z) (sort_of v))
                (fold_less (constant_op op) (constant_of a) (constant_of b) (constant_of (sort_of z)) (constant_of (sort_of v)) left right) apart.1 in
                record {
                  failing = failing_is z v ∙ ap (binary_failing_in rights op i j z v) now
                      ∙ ap (λ q. if q then or_else (both_refuse rights d z v ++ zero_divisor op v) out_now else both_refuse rights d z v ++ fault_at code.Operands i j) ok.0
                      ∙ of_neither (both_refuse rights d z v ++ zero_divisor op v) out_now (none_of_both (both_refuse rights d z v) (zero_divisor op v) refused zero) ranged;
                  same = ap (λ ks. all_given ks (two z v)) (taken_is t z v now);
                  puts = (value_put w (as_type t) x vx.ready all.0, (value_put w (as_type t) y vy.ready all.1.0, tt));
                };
          }

      plain_operation : (x y : Part) → is_open (sort_of x) ≡ false → operation_failing rights op i j x y ≡ [] → AllFit w false (row (all_given (taken x y) (two x y))) → IsOperation x y
      plain_operation x y o e fits = by (common rights (sort_of x) (sort_of y)) refl (sym (failing_is x y) ∙ e)
        where
          by : (d : Option Common) → common rights (sort_of x) (sort_of y) ≡ d → binary_failing_in rights op i j x y d ≡ [] → IsOperation x y
          by None m f = cc
          by (Some d) m f =
              let r = meeting_type (sort_of x) (sort_of y) d o m in
              in_one_type r.type x y o r.has r.suited (m ∙ ap Some r.is) (ap (binary_failing_in rights op i j x y) m ∙ f) fits

    -- ---- shifts

    module _ (shifts : is_shift op ≡ true) where
      shift_is : (x y : Part) → operation_failing rights op i j x y ≡ shift_failing rights op i j x y
      shift_is x y = ap (λ b. if b then shift_failing rights op i j x y else binary_failing rights op i j x y) shifts

      shift_given : (x y : Part) → is_open (sort_of x) ≡ false → all_given (taken x y) (two x y) ≡ all_given (takes stay ∷ takes (as_type uint) ∷ []) (two x y)
      shift_given x y o =
          ap (λ b. all_given (map takes (if b then shifted_take (sort_of x) (sort_of y) ∷ as_type uint ∷ [] else binary_take rights (sort_of x) (sort_of y) ∷ binary_take rights (sort_of x) (sort_of y) ∷ [])) (two x y)) shifts
          ∙ ap (λ z. Some z ∷ Some (settled uint y) ∷ []) (closed_taken x (is_constant (sort_of x) && is_constant (sort_of y)) o)

      shift_in : (d : Common) (x y : Part) → own (sort_of x) ≡ Some d → is_open (sort_of x) ≡ false → shift_failing rights op i j x y ≡ [] → AllFit w false (row (all_given (taken x y) (two x y))) → IsOperation x y
      shift_in d x y is o f fits =
          let a = sort_of x in
          let b = sort_of y in
          let all : AllFit w false (row (two x (settled uint y))) = subst (λ ys. AllFit w false (row ys)) (shift_given x y o) fits in
          let out = out_of_range rights i j d (binary_value op a b) in
          let whole = is_family family.Integers (family_in rights d) in
          let ok = holds (whole && is_count rights b) (or_else (unrepresented rights uint y) out) code.Operands i j (sym (ap (shift_failing_in rights op i j x y) is) ∙ f) in
          let both = two_true whole (is_count rights b) ok.0 in
          let apart = neither (unrepresented rights uint y) out ok.1 in
          let sy : Suits w rights uint y = λ k e. (count_suits b k e both.1, apart.0) in
          record {
            each = takes stay ∷ takes (as_type uint) ∷ [];
            same = shift_given x y o;
            fits = all.0;
            left = will (variables.has o all.0);
            right = will_as w rights uint y sy all.1.0;
            new = λ vx vy.
                let z = begun w false x in
                let v = begun w false y in
                let ox = typed_operand rights w None false x vx.ready.keys vx.ready.held o all.0 in
                let oy = operand_as w rights uint y vy sy all.1.0 in
                let now : own (sort_of z) ≡ Some d = own_kept rights None a (sort_of z) ox.stands refl ∙ is in
                let out_now = out_of_range rights i j d (binary_value op (sort_of z) (sort_of v)) in
                let ranged : out_now ≡ [] = range_less rights i j d (binary_value op a b) (binary_value op (sort_of z) (sort_of v))
                (fold_less (constant_op op) (constant_of a) (constant_of b) (constant_of (sort_of z)) (constant_of (sort_of v))
                (constants rights None a (sort_of z) ox.stands) (constants rights (Some uint) b (sort_of v) oy.stands)) apart.1 in
                let count : (whole && is_count rights (sort_of v)) ≡ true = ap (λ q. q && is_count rights (sort_of v)) both.0 ∙ counts (Some uint) b (sort_of v) refl oy.stands both.1 in
                record {
                  failing = shift_is z v ∙ ap (shift_failing_in rights op i j z v) now
                      ∙ held (whole && is_count rights (sort_of v)) (or_else (unrepresented rights uint v) out_now) code.Operands i j count (of_neither (unrepresented rights uint v) out_now (oy.range uint apart.0) ranged);
                  same = shift_given z v (closed_kept rights None a (sort_of z) ox.stands o);
                  puts = (value_put w stay x vx.ready all.0, (value_put w (as_type uint) y vy.ready all.1.0, tt));
                };
          }

      shift_operation : (x y : Part) → is_open (sort_of x) ≡ false → operation_failing rights op i j x y ≡ [] → AllFit w false (row (all_given (taken x y) (two x y))) → IsOperation x y
      shift_operation x y o e fits = by (own (sort_of x)) refl (sym (shift_is x y) ∙ e)
        where
          by : (d : Option Common) → own (sort_of x) ≡ d → shift_failing_in rights op i j x y d ≡ [] → IsOperation x y
          by None m f = cc
          by (Some d) m f = shift_in d x y m o (ap (shift_failing_in rights op i j x y) m ∙ f) fits

    -- An operation on what isn't untyped, of which no rule fails.
    pub operation : (x y : Part) → is_open (sort_of x) ≡ false → operation_failing rights op i j x y ≡ [] → AllFit w false (row (all_given (taken x y) (two x y))) → IsOperation x y
    operation x y o e fits = by (is_shift op) refl
      where
        by : (b : Bool) → is_shift op ≡ b → IsOperation x y
        by true m = shift_operation m x y o e fits
        by false m = plain_operation m x y o e fits
