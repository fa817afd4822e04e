-- The steps of the induction at shifts and at index expressions.
use Rattle.std.proofs.Common.{◌≡◌, ◌∙◌, ℕ, Bool, true, false, [], ◌∷◌, Option, Some, None, refl, sym, ap, subst}
use Rattle.std.specs.Prelude.{◌&&◌, ◌||◌, not, if◌then◌else◌, is_some}
use Rattle.std.specs.Option.{option_map}
use Rattle.go_grammar.specs.declared.kind.Kind.TheVariants as kind
use Rattle.go_grammar.specs.declared.kind.Arithmetic.{Arithmetic}
use Rattle.go_grammar.specs.declared.kind.Operator.{Operator}
use Rattle.go_grammar.specs.declared.kind.Operator.TheVariants as operator
use Rattle.go_types.specs.Trees.{TypeTree}
use Rattle.go_types_relations.specs.Identity.{is_identical}
use Rattle.go_typed.specs.Trees.{Sort, typed, Typeds, sort_of, form_of, label_of, row}
use Rattle.go_typed.specs.Trees as sort
use Rattle.go_exprs_rules.specs.declared.family.OpenKind.{OpenKind}
use Rattle.go_exprs_rules.specs.declared.family.OpenKind.TheVariants as untyped_kind
use Rattle.go_exprs_rules.specs.Indexes.{index_sort, value_or_unknown}
use Rattle.go_exprs_rules.specs.Operators.{Common, in_type, in_kind, own, own_by, constant_op, result_in, open_value, binary_value, shift_failing, shift_sort, shift_sort_in, shifted_take, is_shift, binary_failing, binary_sort, binary_take}
use Rattle.go_exprs_rules.specs.Scopes.{Scope, Hint}
use Rattle.go_exprs_rules.specs.Settling.{Part, settled, stay, default, as_type, given}
use Rattle.go_exprs_rules.specs.Sorts.{Stands, is_constant, is_open, is_unknown, open_kind, retyped, suits, constant_of, uint, int, takes_type, default_type, is_text, form_of_value, element_of, byte, underlying_in}
use Rattle.go_exprs_rules.specs.Tables.{Parts, own_faults, built, built_on, all_given}
use Rattle.go_exprs_variables.specs.Stood.{Stood, as_before, in_place, early}
use Rattle.go_exprs_variables.specs.Variables.{Standins, wanted, all_wanted, or_wanted, begun, Fits}
use Rattle.go_exprs_variables.proofs.Parts.{Operand}
use Rattle.go_exprs_variables.proofs.Unary.{IsValue}
use Rattle.go_exprs_variables.proofs.Begun.{typed_operand}
use Rattle.go_exprs_variables.proofs.Binary.{never_folds, not_both, less_folds}
use Rattle.go_exprs_variables.proofs.Meeting.{constants, Seen, unchanged, closed, seen}
use Rattle.go_exprs_variables.proofs.Indexes.{text_kept, index_row}
use Rattle.go_exprs_variables.proofs.Shifts.{shift_row}
use Rattle.go_exprs_variables.proofs.Assembly.{Become, no_more, one, sort_with, has_taken, is_some_row}
use Rattle.go_exprs_variables.proofs.Operands.{Ready, Fitting, open_so, Defaulting, operand, default_operand, calls_kept, closed_wants, given_under, given_default, stays, varies_given, wanting_is, quiet_is}
use Rattle.go_exprs_variables.proofs.NodeSteps.{node_step, rule_of}

module _ (s : Scope) (itself : (t : TypeTree) → is_identical t t ≡ true) (h : Hint) (i j : ℕ) (w : Standins) (a : Bool) where
  abbrev two : Part → Part → Parts
  two x y = Some x ∷ Some y ∷ []

  abbrev ready : Part → Type 0
  ready x = Ready s.rights w a x

  abbrev new : Part → Part
  new x = begun w a x

  known_both : (b c : Bool) → b ≡ false → c ≡ false → not (b || (c || false)) ≡ true
  known_both b c e f = ap (λ z. not (z || (c || false))) e ∙ ap (λ z. not (z || false)) f

  still_known : (u : Option TypeTree) (b c : Stands) → Stood s.rights u b c → is_unknown b ≡ false → is_unknown c ≡ false
  still_known u b c (as_before v z) e = e
  still_known u b c (in_place v t z) e = refl
  still_known u b c (early t z k m n) e = refl

  settled_wants : (t : TypeTree) (x : Part) → wanted w a (settled t x) ≡ None
  settled_wants t x = closed_wants s.rights w a (settled t x) (not_open (sort_of (settled t x)) (has_taken t x))
    where
      not_open : (z : Stands) → takes_type z ≡ false → is_open z ≡ false
      not_open (sort.Open k) e = cc
      not_open sort.Nil e = refl
      not_open (sort.OpenConstant c) e = cc
      not_open (sort.Value v) e = refl
      not_open (sort.Constant v c) e = refl
      not_open sort.Nothing e = refl
      not_open sort.Unknown e = refl
      not_open sort.Blank e = refl
      not_open (sort.Builtin b) e = refl
      not_open sort.Println e = refl
      not_open sort.Package e = refl
      not_open (sort.IsType v) e = refl
      not_open (sort.Results v) e = refl

  -- ---- shifts: the left operand waits with the node, the count takes `uint`

  -- The left operand, under a node that takes the type u later, if it takes one: what it wants, the node wants.
  pub data Left (x : Part) : Option TypeTree → Type 0 where
    left_closed : is_open (sort_of x) ≡ false → Fits w a x → Left x None
    left_open : (t : TypeTree) (k : OpenKind) → open_kind (sort_of x) ≡ Some k → suits s.rights k t ≡ true → Fits w a (settled t x) → Left x (Some t)

  is_open_by : (z : Stands) (k : OpenKind) → open_kind z ≡ Some k → is_open z ≡ true
  is_open_by z k e = ap is_some e

  pub left_operand : (u : Option TypeTree) (x : Part) → ready x → Left x u → Operand s.rights u x (new x)
  left_operand None x r (left_closed e fits) = typed_operand s.rights w None a x r.keys r.held e fits
  left_operand (Some t) x r (left_open t' k e m fits) = operand s.rights w a t x r (open_so k e m fits)

  -- where it wants a type, it is a value of it; else it is untyped as before, or has its type
  own_kept : (b c : Stands) → Stood s.rights None b c → own c ≡ own b
  own_kept b c st = by_stood None b c st refl
    where
      by_stood : (u : Option TypeTree) (b c : Stands) → Stood s.rights u b c → u ≡ None → own c ≡ own b
      by_stood u b c (as_before v z) e = refl
      by_stood u b c (in_place v t z) e = refl
      by_stood u b c (early t z k m n) e = cc

  retyped_value : (t : TypeTree) (k : OpenKind) → IsValue (open_value k) → retyped t (open_value k) ≡ sort.Value t
  retyped_value t untyped_kind.Boolean v = refl
  retyped_value t untyped_kind.Integer v = refl
  retyped_value t untyped_kind.Rune v = refl
  retyped_value t untyped_kind.Text v = let e = v.known in cc

  open_own : (z : Stands) (k : OpenKind) → open_kind z ≡ Some k → own z ≡ Some (in_kind k)
  open_own (sort.Open u) k e = ap (λ o. own_by None o) e
  open_own (sort.OpenConstant c) k e = ap (λ o. own_by None o) e
  open_own (sort.Value u) k e = cc
  open_own (sort.Constant u c) k e = cc
  open_own sort.Nothing k e = cc
  open_own sort.Unknown k e = cc
  open_own sort.Blank k e = cc
  open_own sort.Nil k e = cc
  open_own (sort.Builtin b) k e = cc
  open_own sort.Println k e = cc
  open_own sort.Package k e = cc
  open_own (sort.IsType u) k e = cc
  open_own (sort.Results u) k e = cc

  module _ (o : Operator) where
    shifted : (b n c m : Stands) → own c ≡ own b → binary_value o b n ≡ None → binary_value o c m ≡ None → shift_sort o c m ≡ shift_sort o b n
    shifted b n c m e f g =
        ap (shift_sort_in o c m) e ∙ by_own (own b) ∙ refl
      where
        by_own : (z : Option Common) → shift_sort_in o c m z ≡ shift_sort_in o b n z
        by_own None = refl
        by_own (Some d) = ap (result_in d) g ∙ sym (ap (result_in d) f)

    sort_by_wanted : (u p : Option TypeTree) (x y : Part) → ready x → Left x u → wanted w a x ≡ p → binary_value o (sort_of x) (sort_of y) ≡ None → binary_value o (sort_of (new x)) (sort_of (new y)) ≡ None → IsValue (shift_sort o (sort_of x) (sort_of y))
        → shift_sort o (sort_of (new x)) (sort_of (new y)) ≡ sort_with s.rights w a p (shift_sort o (sort_of x) (sort_of y))
    sort_by_wanted None None x y r (left_closed e fits) is f g v = shifted (sort_of x) (sort_of y) (sort_of (new x)) (sort_of (new y)) (own_kept (sort_of x) (sort_of (new x)) (left_operand None x r (left_closed e fits)).stands) f g
    sort_by_wanted None (Some q) x y r (left_closed e fits) is f g v = let two : None ≡ Some q = sym (closed_wants s.rights w a x e) ∙ is in cc
    sort_by_wanted (Some t) None x y r (left_open t' k e m fits) is f g v = shifted (sort_of x) (sort_of y) (sort_of (new x)) (sort_of (new y)) (ap own (quiet_is s.rights w a x r (is_open_by (sort_of x) k e) is)) f g
    sort_by_wanted (Some t) (Some q) x y r (left_open t' k e m fits) is f g v =
        let z = wanting_is s.rights w a t q x r (open_so k e m fits) is in
        let old : shift_sort o (sort_of x) (sort_of y) ≡ open_value k = ap (shift_sort_in o (sort_of x) (sort_of y)) (open_own (sort_of x) k e) ∙ ap (result_in (in_kind k)) f in
        ap (shift_sort_in o (sort_of (new x)) (sort_of (new y))) (ap own z.1) ∙ ap (result_in (in_type t)) g
        ∙ sym (retyped_value t k (subst IsValue old v)) ∙ ap (retyped t) (sym old) ∙ ap (λ c. retyped c (shift_sort o (sort_of x) (sort_of y))) (sym z.0)

  not_both_now : (b c : Bool) → (b && c) ≡ false → (if b && c then default else stay) ≡ stay
  not_both_now b c e = ap (λ z. if z then default else stay) e

  -- The whole step at a shift.
  pub shift_step : (c : Arithmetic) → is_shift (operator.Compute c) ≡ true → (u : Option TypeTree) (x y : Part) → ready x → ready y → Left x u → Fitting s.rights w a uint y → own_faults s (kind.Binary (operator.Compute c)) h i j (two x y) ≡ []
      → IsValue (shift_sort (operator.Compute c) (sort_of x) (sort_of y))
      → (own_faults s (kind.Binary (operator.Compute c)) h i j (two (new x) (new y)) ≡ []) × (built s (kind.Binary (operator.Compute c)) h i j (two (new x) (new y)) ≡ begun w a (built s (kind.Binary (operator.Compute c)) h i j (two x y)))
  shift_step c is u x y rx ry left fy f value =
      let o = operator.Compute c in
      let judged = known_both (is_unknown (sort_of x)) (is_unknown (sort_of y)) rx.known ry.known in
      let ox = left_operand u x rx left in
      let oy = operand s.rights w a uint y ry fy in
      let judged_now = known_both (is_unknown (sort_of (new x))) (is_unknown (sort_of (new y))) (still_known u (sort_of x) (sort_of (new x)) ox.stands rx.known) (still_known (Some uint) (sort_of y) (sort_of (new y)) oy.stands ry.known) in
      let fails : (x y : Part) → (if is_shift o then shift_failing s.rights o i j x y else binary_failing s.rights o i j x y) ≡ shift_failing s.rights o i j x y = (λ x y. ap (λ b. if b then shift_failing s.rights o i j x y else binary_failing s.rights o i j x y) is) in
      let sorts : (b d : Stands) → (if is_shift o then shift_sort o b d else binary_sort s.rights o b d) ≡ shift_sort o b d = (λ b d. ap (λ z. if z then shift_sort o b d else binary_sort s.rights o b d) is) in
      let taken : (b d : Stands) → (if is_shift o then shifted_take b d ∷ as_type uint ∷ [] else binary_take s.rights b d ∷ binary_take s.rights b d ∷ []) ≡ shifted_take b d ∷ as_type uint ∷ [] = (λ b d. ap (λ z. if z then shifted_take b d ∷ as_type uint ∷ [] else binary_take s.rights b d ∷ binary_take s.rights b d ∷ []) is) in
      let rule = sym (fails x y) ∙ rule_of s (kind.Binary o) h i j (two x y) judged f in
      let r = shift_row s.rights itself u o i j x y (new x) (new y) ox oy rule value in
      let none : binary_value o (sort_of x) (sort_of y) ≡ None = value_none o (sort_of x) (sort_of y) (own (sort_of x)) value in
      let none_now : binary_value o (sort_of (new x)) (sort_of (new y)) ≡ None =
      less_folds (constant_op o) (constant_of (sort_of x)) (constant_of (sort_of y)) (constant_of (sort_of (new x))) (constant_of (sort_of (new y))) (constants s.rights u (sort_of x) (sort_of (new x)) ox.stands) (constants s.rights (Some uint) (sort_of y) (sort_of (new y)) oy.stands) none in
      let stay_old : shifted_take (sort_of x) (sort_of y) ≡ stay = not_both_now (is_constant (sort_of x)) (is_constant (sort_of y)) (not_both (constant_op o) (constant_of (sort_of x)) (constant_of (sort_of y)) none) in
      let stay_now : shifted_take (sort_of (new x)) (sort_of (new y)) ≡ stay = not_both_now (is_constant (sort_of (new x))) (is_constant (sort_of (new y))) (not_both (constant_op o) (constant_of (sort_of (new x))) (constant_of (sort_of (new y))) none_now) in
      let take_old = taken (sort_of x) (sort_of y) ∙ ap (λ z. z ∷ as_type uint ∷ []) stay_old in
      let take_now = taken (sort_of (new x)) (sort_of (new y)) ∙ ap (λ z. z ∷ as_type uint ∷ []) stay_now in
      let want : wanted w a x ≡ (if is_open (shift_sort o (sort_of x) (sort_of y)) then or_wanted (wanted w a x) (or_wanted (wanted w a (settled uint y)) None) else None) = wants_left o u x y rx left none value in
      let parts : Become s.rights w a (wanted w a x) (two x y) (two x (settled uint y)) (two (new x) (new y)) (two (new x) (settled uint (new y))) =
      one x x (new x) (new x) (Some y ∷ []) (Some (settled uint y) ∷ []) (Some (new y) ∷ []) (Some (settled uint (new y)) ∷ []) (stays s.rights w a x (wanted w a x) rx refl) (calls_kept s.rights w a x rx) refl
      (one y (settled uint y) (new y) (settled uint (new y)) [] [] [] [] (given_under s.rights w a (wanted w a x) uint y ry fy) (calls_kept s.rights w a y ry) (varies_given s.rights w a (as_type uint) (new y)) no_more) in
      node_step s (kind.Binary o) h i j w a u (two x y) (two (new x) (new y)) judged judged_now (ap (λ z. is_some_row s.rights w a (all_given z (two (new x) (new y)))) take_now) f (ap is_constant (sorts (sort_of x) (sort_of y)) ∙ value.constant)
      (record { form = refl; key = refl; held = refl; name = λ z. refl })
      (record {
        failing = fails (new x) (new y) ∙ r.failing;
        stands = subst (λ z. Stood s.rights u z (if is_shift o then shift_sort o (sort_of (new x)) (sort_of (new y)) else binary_sort s.rights o (sort_of (new x)) (sort_of (new y)))) (sym (sorts (sort_of x) (sort_of y)))
            (subst (Stood s.rights u (shift_sort o (sort_of x) (sort_of y))) (sym (sorts (sort_of (new x)) (sort_of (new y)))) r.stands);
        wants = wanted w a x;
        wanted = want ∙ sym (ap (λ z. if is_open z then all_wanted w a (row (all_given (if is_shift o then shifted_take (sort_of x) (sort_of y) ∷ as_type uint ∷ [] else binary_take s.rights (sort_of x) (sort_of y) ∷ binary_take s.rights (sort_of x) (sort_of y) ∷ []) (two x y))) else None) (sorts (sort_of x) (sort_of y))
            ∙ ap (λ z. if is_open (shift_sort o (sort_of x) (sort_of y)) then all_wanted w a (row (all_given z (two x y))) else None) take_old);
        sort = sorts (sort_of (new x)) (sort_of (new y)) ∙ sort_by_wanted o u (wanted w a x) x y rx left refl none none_now value ∙ ap (sort_with s.rights w a (wanted w a x)) (sym (sorts (sort_of x) (sort_of y)));
        parts = subst (λ z. Become s.rights w a (wanted w a x) (two x y) (all_given z (two x y)) (two (new x) (new y)) (all_given (if is_shift o then shifted_take (sort_of (new x)) (sort_of (new y)) ∷ as_type uint ∷ [] else binary_take s.rights (sort_of (new x)) (sort_of (new y)) ∷ binary_take s.rights (sort_of (new x)) (sort_of (new y)) ∷ []) (two (new x) (new y)))) (sym take_old)
            (subst (λ z. Become s.rights w a (wanted w a x) (two x y) (two x (settled uint y)) (two (new x) (new y)) (all_given z (two (new x) (new y)))) (sym take_now) parts);
      })
    where
      value_none : (o : Operator) (b n : Stands) (z : Option Common) → IsValue (shift_sort_in o b n z) → binary_value o b n ≡ None
      value_none o b n None v = let e = v.known in cc
      value_none o b n (Some d) v = never_folds d (binary_value o b n) v

      kind_open : (k : OpenKind) → IsValue (open_value k) → is_open (open_value k) ≡ true
      kind_open untyped_kind.Boolean v = refl
      kind_open untyped_kind.Integer v = refl
      kind_open untyped_kind.Rune v = refl
      kind_open untyped_kind.Text v = let e = v.known in cc

      wants_left : (o : Operator) (u : Option TypeTree) (x y : Part) → ready x → Left x u → binary_value o (sort_of x) (sort_of y) ≡ None → IsValue (shift_sort o (sort_of x) (sort_of y))
          → wanted w a x ≡ (if is_open (shift_sort o (sort_of x) (sort_of y)) then or_wanted (wanted w a x) (or_wanted (wanted w a (settled uint y)) None) else None)
      wants_left o None x y r (left_closed e fits) f v = closed_wants s.rights w a x e ∙ sym (nothing (is_open (shift_sort o (sort_of x) (sort_of y))))
        where
          nothing : (b : Bool) → (if b then or_wanted (wanted w a x) (or_wanted (wanted w a (settled uint y)) None) else None) ≡ None
          nothing false = refl
          nothing true = ap (λ z. or_wanted z (or_wanted (wanted w a (settled uint y)) None)) (closed_wants s.rights w a x e) ∙ ap (λ z. or_wanted z None) (settled_wants uint y)
      wants_left o (Some t) x y r (left_open t' k e m fits) f v =
          let old : shift_sort o (sort_of x) (sort_of y) ≡ open_value k = ap (shift_sort_in o (sort_of x) (sort_of y)) (open_own (sort_of x) k e) ∙ ap (result_in (in_kind k)) f in
          sym (ap (λ b. if b then or_wanted (wanted w a x) (or_wanted (wanted w a (settled uint y)) None) else None) (ap is_open old ∙ kind_open k (subst IsValue old v))
          ∙ ap (λ z. or_wanted (wanted w a x) (or_wanted z None)) (settled_wants uint y) ∙ or_none (wanted w a x))
        where
          or_none : (z : Option TypeTree) → or_wanted z (or_wanted None None) ≡ z
          or_none None = refl
          or_none (Some t) = refl

  -- ---- index expressions: the operand takes its default type, the index `int`

  pub same_index : (u : Option TypeTree) (b c : Stands) → Stood s.rights u b c → is_unknown (index_sort s.rights b) ≡ false → index_sort s.rights c ≡ index_sort s.rights b
  same_index u b c st k =
      ap (λ t. if t then sort.Value byte else value_or_unknown (element_of (form_of_value s.rights c))) (text_kept s.rights u b c st) ∙ by_text (is_text s.rights b) (seen s.rights u b c st) k
    where
      by_seen : Seen s.rights u b c → is_unknown (value_or_unknown (element_of (form_of_value s.rights b))) ≡ false → value_or_unknown (element_of (form_of_value s.rights c)) ≡ value_or_unknown (element_of (form_of_value s.rights b))
      by_seen (unchanged e f) k = ap (λ t. value_or_unknown (element_of (underlying_in s.rights t))) e
      by_seen (closed t m e f g p q r) k = let z : is_unknown (value_or_unknown (element_of (form_of_value s.rights b))) ≡ true = ap (λ t. is_unknown (value_or_unknown (element_of (underlying_in s.rights t)))) e in cc

      by_text : (t : Bool) → Seen s.rights u b c → is_unknown (if t then sort.Value byte else value_or_unknown (element_of (form_of_value s.rights b))) ≡ false
          → (if t then sort.Value byte else value_or_unknown (element_of (form_of_value s.rights c))) ≡ (if t then sort.Value byte else value_or_unknown (element_of (form_of_value s.rights b)))
      by_text true see k = refl
      by_text false see k = by_seen see k

  index_plain : (b : Stands) → (is_open (index_sort s.rights b) ≡ false) × (is_constant (index_sort s.rights b) ≡ false)
  index_plain b = by_text (is_text s.rights b)
    where
      by_element : (e : Option TypeTree) → (is_open (value_or_unknown e) ≡ false) × (is_constant (value_or_unknown e) ≡ false)
      by_element None = (refl, refl)
      by_element (Some e) = (refl, refl)

      by_text : (t : Bool) → (is_open (if t then sort.Value byte else value_or_unknown (element_of (form_of_value s.rights b))) ≡ false) × (is_constant (if t then sort.Value byte else value_or_unknown (element_of (form_of_value s.rights b))) ≡ false)
      by_text true = (refl, refl)
      by_text false = by_element (element_of (form_of_value s.rights b))

  -- The whole step at an index expression, as it is laid out.
  pub index_step : (x n : Part) → ready x → ready n → takes_type (sort_of x) ≡ is_open (sort_of x) → Defaulting s.rights w a x → Fitting s.rights w a int n → own_faults s kind.Bracketed h i j (two x n) ≡ [] → is_unknown (index_sort s.rights (sort_of x)) ≡ false
      → (own_faults s kind.Bracketed h i j (two (new x) (new n)) ≡ []) × (built_on s kind.Bracketed h i j (two (new x) (new n)) ≡ begun w a (built_on s kind.Bracketed h i j (two x n)))
  index_step x n rx rn no_nil dx fn f known =
      let u = option_map default_type (open_kind (sort_of x)) in
      let ox = default_operand s.rights w a x rx dx in
      let on = operand s.rights w a int n rn fn in
      let judged = known_both (is_unknown (sort_of x)) (is_unknown (sort_of n)) rx.known rn.known in
      let judged_now = known_both (is_unknown (sort_of (new x))) (is_unknown (sort_of (new n))) (still_known u (sort_of x) (sort_of (new x)) ox.stands rx.known) (still_known (Some int) (sort_of n) (sort_of (new n)) on.stands rn.known) in
      let same_sort = same_index u (sort_of x) (sort_of (new x)) ox.stands known in
      let plain = index_plain (sort_of x) in
      node_step s kind.Bracketed h i j w a None (two x n) (two (new x) (new n)) judged judged_now refl f plain.1
      (record { form = refl; key = refl; held = refl; name = λ z. refl })
      (record {
        failing = index_row s.rights i j u (sort_of x) (sort_of (new x)) n (new n) ox.stands on (rule_of s kind.Bracketed h i j (two x n) judged f);
        stands = subst (Stood s.rights None (index_sort s.rights (sort_of x))) (sym same_sort) (as_before None (index_sort s.rights (sort_of x)));
        wants = None;
        wanted = sym (ap (λ b. if b then all_wanted w a (row (two (given default x) (settled int n))) else None) plain.0);
        sort = same_sort;
        parts = one x (given default x) (new x) (given default (new x)) (Some n ∷ []) (Some (settled int n) ∷ []) (Some (new n) ∷ []) (Some (settled int (new n)) ∷ [])
            (given_default s.rights w a None x rx no_nil dx) (calls_kept s.rights w a x rx) (varies_given s.rights w a default (new x))
            (one n (settled int n) (new n) (settled int (new n)) [] [] [] [] (given_under s.rights w a None int n rn fn) (calls_kept s.rights w a n rn) (varies_given s.rights w a (as_type int) (new n)) no_more);
      })
