-- `min` and `max`, where variables stand in place of constants in the arguments.
use Rattle.std.proofs.Common.{◌≡◌, ◌∙◌, ◌⊎◌, inl, inr, ℕ, Bool, true, false, List, [], ◌∷◌, Option, Some, None, refl, sym, ap, subst}
use Rattle.std.specs.Prelude.{◌&&◌, ◌||◌, if◌then◌else◌, is_some}
use Rattle.go_base.specs.declared.fault.FaultCode.TheVariants as code
use Rattle.go_constants.specs.declared.values.Const.{Const}
use Rattle.go_ints.specs.declared.operators.Op.{Op}
use Rattle.go_types.specs.Trees.{TypeTree}
use Rattle.go_types.specs.Relations.{Rights}
use Rattle.go_types_relations.specs.Identity.{is_identical}
use Rattle.go_typed.specs.Trees.{sort_of}
use Rattle.go_typed.specs.Trees as sort
use Rattle.go_exprs_rules.specs.declared.family.Family.TheVariants as family
use Rattle.go_exprs_rules.specs.declared.family.OpenKind.{OpenKind}
use Rattle.go_exprs_rules.specs.Calls.{met, all_met, meeting, are_constants, each_unrepresented, extreme_refuse, extreme_failing_in, extreme_failing, better, extreme_behind, extreme_value, extreme_in, extreme_sort, extreme_take_in, extreme_take}
use Rattle.go_exprs_rules.specs.Faults.{fault_at}
use Rattle.go_exprs_rules.specs.Operators.{Common, in_type, in_kind, type_in, common_kind, kind_common, one_typed, own, own_by, unordered}
use Rattle.go_exprs_rules.specs.Settling.{Part, as_type, unrepresented}
use Rattle.go_exprs_rules.specs.Sorts.{Stands, constant_of, is_constant, is_family, own_type, open_kind, default_type, suits}
use Rattle.go_exprs_variables.proofs.Builtins.{Operands, no_operand, an_operand}
use Rattle.go_exprs_variables.proofs.Families.{suited}
use Rattle.go_exprs_variables.proofs.Meeting.{Seen, unchanged, closed, seen, constants, both_of, by_family}
use Rattle.go_exprs_variables.proofs.Parts.{Operand, both_none, none_of_both, neither, of_neither}

module _ (rights : Rights) (itself : (t : TypeTree) → is_identical t t ≡ true) (alike : (t u : TypeTree) → is_identical t u ≡ true → t ≡ u) where
  -- ---- where values meet that all take the type t at last

  -- where those meet that have been typed so far, before and with the variables: in the same, or in the type by now
  pub data Sooner (t : TypeTree) : Option Common → Option Common → Type 0 where
    same : (c : Option Common) → Sooner t c c
    by_now : (k : OpenKind) → suits rights k t ≡ true → Sooner t (Some (in_kind k)) (Some (in_type t))

  -- all meet in a type t, or in a kind of which t is the default type
  pub data Ends (t : TypeTree) : Common → Type 0 where
    in_one : Ends t (in_type t)
    in_default : (k : OpenKind) → t ≡ default_type k → Ends t (in_kind k)

  own_seen : (t : TypeTree) (a b : Stands) → Seen rights (Some t) a b → Sooner t (own a) (own b)
  own_seen t a b (unchanged e f) = subst (Sooner t (own a)) (sym (ap (λ z. own_by z (open_kind b)) e ∙ ap (own_by (own_type a)) f)) (same (own a))
  own_seen t a b (closed u k e f c d p q) =
      let one : u ≡ t = some_is u p in
      let old : own a ≡ Some (in_kind k) = ap (λ z. own_by z (open_kind a)) e ∙ ap (own_by None) f in
      let new : own b ≡ Some (in_type t) = ap (λ z. own_by z (open_kind b)) c ∙ ap (λ z. Some (in_type z)) one in
      subst (λ z. Sooner t z (own b)) (sym old) (subst (Sooner t (Some (in_kind k))) (sym new) (by_now k (ap (suits rights k) (sym one) ∙ q)))
    where
      some_is : (u : TypeTree) → Some t ≡ Some u → u ≡ t
      some_is u e = cc

  same_type : (t : TypeTree) → met rights (Some (in_type t)) (Some (in_type t)) ≡ Some (in_type t)
  same_type t = ap (λ b. if b then Some (in_type t) else None) (itself t)

  one_kind : (t : TypeTree) (k : OpenKind) → suits rights k t ≡ true → one_typed rights t (Some k) ≡ Some (in_type t)
  one_kind t k e = ap (λ b. if b then Some (in_type t) else None) e

  pub none_met : (xs : List Part) → all_met rights None xs ≡ None
  none_met [] = refl
  none_met (x ∷ xs) = none_met xs

  -- what is met with the type t is t, where it is anything that ends there
  pub data Next (t : TypeTree) (old new : Option Common) : Type 0 where
    next : Sooner t old new → Next t old new
    lost : old ≡ None → Next t old new

  kind_next : (t : TypeTree) (k l : OpenKind) (o : Option OpenKind) → common_kind k l ≡ o → suits rights l t ≡ true → Next t (kind_common o) (one_typed rights t (Some k))
  kind_next t k l None e f = lost refl
  kind_next t k l (Some m) e f =
      let one = both_of k l m e in
      let first : suits rights k t ≡ true = by_family rights itself l k t (sym one.0) f in
      next (subst (Sooner t (Some (in_kind m))) (sym (one_kind t k first)) (by_now m (by_family rights itself k m t one.1 first)))

  kind_first : (t : TypeTree) (k l : OpenKind) (o : Option OpenKind) → common_kind k l ≡ o → suits rights k t ≡ true → Next t (kind_common o) (one_typed rights t (Some l))
  kind_first t k l None e f = lost refl
  kind_first t k l (Some m) e f =
      let one = both_of k l m e in
      let second : suits rights l t ≡ true = by_family rights itself k l t one.0 f in
      next (subst (Sooner t (Some (in_kind m))) (sym (one_kind t l second)) (by_now m (by_family rights itself k m t one.1 f)))

  both_now : (t : TypeTree) (k l : OpenKind) (o : Option OpenKind) → common_kind k l ≡ o → suits rights k t ≡ true → Next t (kind_common o) (Some (in_type t))
  both_now t k l None e f = lost refl
  both_now t k l (Some m) e f = let one = both_of k l m e in next (by_now m (by_family rights itself k m t one.1 f))

  -- One more value: its own form d, and e with the variables in it. The type u of a value is the one that all take, where they meet at last.
  step_meets : (t : TypeTree) (c d x y : Option Common) → ((u : TypeTree) → c ≡ Some (in_type u) → u ≡ t) → ((u : TypeTree) → d ≡ Some (in_type u) → u ≡ t) → Sooner t c x → Sooner t d y → Next t (met rights c d) (met rights x y)
  step_meets t c d x y f g (same v) (same z) = next (same (met rights c d))
  step_meets t c d x y f g (by_now k e) (same None) = lost refl
  step_meets t c d x y f g (by_now k e) (same (Some (in_type u))) =
      let one : u ≡ t = g u refl in
      let old : met rights (Some (in_kind k)) (Some (in_type u)) ≡ Some (in_type t) = ap (λ z. one_typed rights z (Some k)) one ∙ one_kind t k e in
      let new : met rights (Some (in_type t)) (Some (in_type u)) ≡ Some (in_type t) = ap (λ z. met rights (Some (in_type t)) (Some (in_type z))) one ∙ same_type t in
      next (subst (λ z. Sooner t z (met rights (Some (in_type t)) (Some (in_type u)))) (sym old) (subst (Sooner t (Some (in_type t))) (sym new) (same (Some (in_type t)))))
  step_meets t c d x y f g (by_now k e) (same (Some (in_kind l))) = kind_first t k l (common_kind k l) refl e
  step_meets t c d x y f g (same None) (by_now l e) = lost refl
  step_meets t c d x y f g (same (Some (in_type u))) (by_now l e) =
      let one : u ≡ t = f u refl in
      let old : met rights (Some (in_type u)) (Some (in_kind l)) ≡ Some (in_type t) = ap (λ z. one_typed rights z (Some l)) one ∙ one_kind t l e in
      let new : met rights (Some (in_type u)) (Some (in_type t)) ≡ Some (in_type t) = ap (λ z. met rights (Some (in_type z)) (Some (in_type t))) one ∙ same_type t in
      next (subst (λ z. Sooner t z (met rights (Some (in_type u)) (Some (in_type t)))) (sym old) (subst (Sooner t (Some (in_type t))) (sym new) (same (Some (in_type t)))))
  step_meets t c d x y f g (same (Some (in_kind k))) (by_now l e) = kind_next t k l (common_kind k l) refl e
  step_meets t c d x y f g (by_now k e) (by_now l m) = subst (Next t (met rights (Some (in_kind k)) (Some (in_kind l)))) (sym (same_type t)) (both_now t k l (common_kind k l) refl e)

  -- ---- all of them

  began_by : (u : TypeTree) (d : Option Common) (xs : List Part) (c : Common) → (all_met rights (Some (in_type u)) xs ≡ Some c → c ≡ in_type u) → all_met rights (met rights (Some (in_type u)) d) xs ≡ Some c → c ≡ in_type u
  began_by u None xs c h f = let none : None ≡ Some c = sym (none_met xs) ∙ f in cc
  began_by u (Some (in_type t)) xs c h f = by_test (is_identical u t) f
    where
      by_test : (b : Bool) → all_met rights (if b then Some (in_type u) else None) xs ≡ Some c → c ≡ in_type u
      by_test true g = h g
      by_test false g = let none : None ≡ Some c = sym (none_met xs) ∙ g in cc
  began_by u (Some (in_kind k)) xs c h f = by_test (suits rights k u) f
    where
      by_test : (b : Bool) → all_met rights (if b then Some (in_type u) else None) xs ≡ Some c → c ≡ in_type u
      by_test true g = h g
      by_test false g = let none : None ≡ Some c = sym (none_met xs) ∙ g in cc

  -- what meets at last in c began in the type, if it began in one
  pub began : (u : TypeTree) (xs : List Part) (c : Common) → all_met rights (Some (in_type u)) xs ≡ Some c → c ≡ in_type u
  began u [] c e = cc
  began u (x ∷ xs) c e = began_by u (own (sort_of x)) xs c (λ g. began u xs c g) e

  -- and so did each value on the way
  came : (a : Option Common) (u : TypeTree) (xs : List Part) (c : Common) → all_met rights (met rights a (Some (in_type u))) xs ≡ Some c → c ≡ in_type u
  came None u xs c e = let none : None ≡ Some c = sym (none_met xs) ∙ e in cc
  came (Some (in_type t)) u xs c e = by_test (is_identical t u) refl e
    where
      by_test : (b : Bool) → is_identical t u ≡ b → all_met rights (if b then Some (in_type t) else None) xs ≡ Some c → c ≡ in_type u
      by_test true m g = began t xs c g ∙ ap in_type (alike t u m)
      by_test false m g = let none : None ≡ Some c = sym (none_met xs) ∙ g in cc
  came (Some (in_kind k)) u xs c e = by_test (suits rights k u) e
    where
      by_test : (b : Bool) → all_met rights (if b then Some (in_type u) else None) xs ≡ Some c → c ≡ in_type u
      by_test true g = began u xs c g
      by_test false g = let none : None ≡ Some c = sym (none_met xs) ∙ g in cc

  type_of_end : (t u : TypeTree) (c : Common) → Ends t c → c ≡ in_type u → u ≡ t
  type_of_end t u c in_one e = cc
  type_of_end t u c (in_default k f) e = cc

  -- what the type begins with goes on with it
  goes_on : (u : TypeTree) (d : Option Common) (xs : List Part) (c : Common) → all_met rights (met rights (Some (in_type u)) d) xs ≡ Some c → all_met rights (Some (in_type u)) xs ≡ Some c
  goes_on u None xs c g = let none : None ≡ Some c = sym (none_met xs) ∙ g in cc
  goes_on u (Some (in_type r)) xs c g = by_test (is_identical u r) g
    where
      by_test : (b : Bool) → all_met rights (if b then Some (in_type u) else None) xs ≡ Some c → all_met rights (Some (in_type u)) xs ≡ Some c
      by_test true g = g
      by_test false g = let none : None ≡ Some c = sym (none_met xs) ∙ g in cc
  goes_on u (Some (in_kind k)) xs c g = by_test (suits rights k u) g
    where
      by_test : (b : Bool) → all_met rights (if b then Some (in_type u) else None) xs ≡ Some c → all_met rights (Some (in_type u)) xs ≡ Some c
      by_test true g = g
      by_test false g = let none : None ≡ Some c = sym (none_met xs) ∙ g in cc

  by_next : (t : TypeTree) (c : Common) (old new : Option Common) (xs ys : List Part) → ((a b : Option Common) → Sooner t a b → all_met rights a xs ≡ Some c → Sooner t (Some c) (all_met rights b ys)) → Next t old new → all_met rights old xs ≡ Some c
      → Sooner t (Some c) (all_met rights new ys)
  by_next t c old new xs ys h (next s) e = h old new s e
  by_next t c old new xs ys h (lost f) e = let none : None ≡ Some c = sym (ap (λ z. all_met rights z xs) f ∙ none_met xs) ∙ e in cc

  -- They meet at last where they met, or by now in the type that all take.
  pub all_meet : (t : TypeTree) (c : Common) (a b : Option Common) (xs ys : List Part) → Ends t c → Operands rights t xs ys → Sooner t a b → all_met rights a xs ≡ Some c → Sooner t (Some c) (all_met rights b ys)
  all_meet t c a b xs ys end no_operand s e = subst (λ z. Sooner t z b) e s
  all_meet t c a b xs ys end (an_operand x y us vs p rest) s e =
      let d = own (sort_of x) in
      let own_now = own_seen t (sort_of x) (sort_of y) (seen rights (Some t) (sort_of x) (sort_of y) p.stands) in
      let n = step_meets t a d b (own (sort_of y))
      (λ u f. type_of_end t u c end (began u us c (goes_on u d us c (ap (λ z. all_met rights (met rights z d) us) (sym f) ∙ e))))
      (λ u f. type_of_end t u c end (came a u us c (ap (λ z. all_met rights (met rights a z) us) (sym f) ∙ e))) s own_now in
      by_next t c (met rights a d) (met rights b (own (sort_of y))) us vs (λ g h k m. all_meet t c g h us vs end rest k m) n e

  -- ---- constants among them

  constants_back : (t : TypeTree) (xs ys : List Part) → Operands rights t xs ys → are_constants ys ≡ true → are_constants xs ≡ true
  constants_back t xs ys no_operand e = refl
  constants_back t xs ys (an_operand x y us vs p rest) e =
      let both = and_parts (is_constant (sort_of y)) (are_constants vs) e in
      ap (λ b. b && are_constants us) (by_constants (constants rights (Some t) (sort_of x) (sort_of y) p.stands) both.0) ∙ constants_back t us vs rest both.1
    where
      and_parts : (b c : Bool) → (b && c) ≡ true → (b ≡ true) × (c ≡ true)
      and_parts true c e = (refl, e)
      and_parts false c e = cc

      by_constants : (constant_of (sort_of y) ≡ constant_of (sort_of x)) ⊎ (constant_of (sort_of y) ≡ None) → is_constant (sort_of y) ≡ true → is_constant (sort_of x) ≡ true
      by_constants (inl f) m = ap is_some (sym f) ∙ m
      by_constants (inr f) m = let none : false ≡ true = sym (ap is_some f) ∙ m in cc

  still_no_constants : (t : TypeTree) (xs ys : List Part) → Operands rights t xs ys → are_constants xs ≡ false → are_constants ys ≡ false
  still_no_constants t xs ys p e = by_test (are_constants ys) refl
    where
      by_test : (b : Bool) → are_constants ys ≡ b → b ≡ false
      by_test false f = refl
      by_test true f = sym (constants_back t xs ys p f) ∙ e

  better_there : (o : Op) (a b : Option Const) (u : Const) → better o a b ≡ Some u → (is_some a ≡ true) × (is_some b ≡ true)
  better_there o (Some a) (Some b) u e = (refl, refl)
  better_there o (Some a) None u e = cc
  better_there o None b u e = cc

  all_there : (o : Op) (c : Option Const) (xs : List Part) (u : Const) → extreme_behind o c xs ≡ Some u → (is_some c ≡ true) × (are_constants xs ≡ true)
  all_there o c [] u e = (ap is_some e, refl)
  all_there o c (x ∷ xs) u e =
      let rest = all_there o (better o c (constant_of (sort_of x))) xs u e in
      let both = some_better (better o c (constant_of (sort_of x))) refl rest.0 in
      (both.0, ap (λ b. b && are_constants xs) both.1 ∙ rest.1)
    where
      some_better : (m : Option Const) → better o c (constant_of (sort_of x)) ≡ m → is_some m ≡ true → (is_some c ≡ true) × (is_some (constant_of (sort_of x)) ≡ true)
      some_better (Some v) f g = better_there o c (constant_of (sort_of x)) v f
      some_better None f g = cc

  no_value : (o : Op) (x : Part) (xs : List Part) → are_constants (x ∷ xs) ≡ false → extreme_value o (x ∷ xs) ≡ None
  no_value o x xs e = by_value (extreme_behind o (constant_of (sort_of x)) xs) refl
    where
      by_value : (v : Option Const) → extreme_behind o (constant_of (sort_of x)) xs ≡ v → v ≡ None
      by_value None f = refl
      by_value (Some u) f =
          let all = all_there o (constant_of (sort_of x)) xs u f in
          let both : true ≡ false = sym (ap (λ b. b && are_constants xs) all.0 ∙ all.1) ∙ e in
          cc

  -- ---- the row

  each_range : (t r : TypeTree) (xs ys : List Part) → Operands rights t xs ys → each_unrepresented rights r xs ≡ [] → each_unrepresented rights r ys ≡ []
  each_range t r xs ys no_operand e = refl
  each_range t r xs ys (an_operand x y us vs p rest) e =
      let both = both_none (unrepresented rights r x) (each_unrepresented rights r us) e in
      none_of_both (unrepresented rights r y) (each_unrepresented rights r vs) (p.range r both.0) (each_range t r us vs rest both.1)

  pub record ExtremeRow (o : Op) (i j : ℕ) (xs ys : List Part) : Type 0 where
    pub failing : extreme_failing rights i j ys ≡ []
    pub stands : extreme_sort rights o ys ≡ extreme_sort rights o xs
    pub take : extreme_take rights ys ≡ extreme_take rights xs

  pub refused_now : (c : Common) (xs : List Part) → extreme_refuse rights false c xs ≡ [] → each_unrepresented rights (type_in c) xs ≡ []
  refused_now (in_type t) xs e = e
  refused_now (in_kind k) xs e = e

  refuses : (c : Common) (xs : List Part) → each_unrepresented rights (type_in c) xs ≡ [] → extreme_refuse rights false c xs ≡ []
  refuses (in_type t) xs e = e
  refuses (in_kind k) xs e = e

  pub taken_now : (c : Common) → extreme_take_in false (Some c) ≡ as_type (type_in c)
  taken_now (in_type t) = refl
  taken_now (in_kind k) = refl

  row_at : (o : Op) (i j : ℕ) (x y : Part) (xs ys : List Part) (c d : Common) → type_in d ≡ type_in c → Operands rights (type_in c) (x ∷ xs) (y ∷ ys) → are_constants (x ∷ xs) ≡ false → meeting rights (x ∷ xs) ≡ Some c → meeting rights (y ∷ ys) ≡ Some d
      → unordered rights i j d ≡ [] → extreme_refuse rights (are_constants (x ∷ xs)) c (x ∷ xs) ≡ [] → ExtremeRow o i j (x ∷ xs) (y ∷ ys)
  row_at o i j x y xs ys c d alike_type p none is now order refuse =
      let none_now = still_no_constants (type_in c) (x ∷ xs) (y ∷ ys) p none in
      let range : each_unrepresented rights (type_in d) (y ∷ ys) ≡ [] =
      ap (λ t. each_unrepresented rights t (y ∷ ys)) alike_type ∙ each_range (type_in c) (type_in c) (x ∷ xs) (y ∷ ys) p (refused_now c (x ∷ xs) (sym (ap (λ b. extreme_refuse rights b c (x ∷ xs)) none) ∙ refuse)) in
      record {
        failing = ap (extreme_failing_in rights i j (y ∷ ys)) now
            ∙ of_neither (unordered rights i j d) (extreme_refuse rights (are_constants (y ∷ ys)) d (y ∷ ys)) order (ap (λ b. extreme_refuse rights b d (y ∷ ys)) none_now ∙ refuses d (y ∷ ys) range);
        stands = ap (λ m. extreme_in m (extreme_value o (y ∷ ys))) now ∙ ap (extreme_in (Some d)) (no_value o y ys none_now) ∙ ap sort.Value alike_type
            ∙ sym (ap (λ m. extreme_in m (extreme_value o (x ∷ xs))) is ∙ ap (extreme_in (Some c)) (no_value o x xs none));
        take = ap (λ b. extreme_take_in b (meeting rights (y ∷ ys))) none_now ∙ ap (extreme_take_in false) now ∙ taken_now d ∙ ap as_type alike_type
            ∙ sym (ap (λ b. extreme_take_in b (meeting rights (x ∷ xs))) none ∙ ap (extreme_take_in false) is ∙ taken_now c);
      }

  ends_in : (c : Common) → Ends (type_in c) c
  ends_in (in_type t) = in_one
  ends_in (in_kind k) = in_default k refl

  ordered_now : (i j : ℕ) (t : TypeTree) (k : OpenKind) → suits rights k t ≡ true → unordered rights i j (in_kind k) ≡ [] → unordered rights i j (in_type t) ≡ []
  ordered_now i j t k e f = ap (λ g. if is_family family.Integers g || is_family family.Texts g then [] else fault_at code.Operands i j) (suited rights k t e) ∙ f

  first_own : (t : TypeTree) (x y : Part) → Operand rights (Some t) x y → Sooner t (own (sort_of x)) (own (sort_of y))
  first_own t x y p = own_seen t (sort_of x) (sort_of y) (seen rights (Some t) (sort_of x) (sort_of y) p.stands)

  by_meeting : (o : Op) (i j : ℕ) (x y : Part) (xs ys : List Part) (c : Common) (m : Option Common) → Operands rights (type_in c) (x ∷ xs) (y ∷ ys) → are_constants (x ∷ xs) ≡ false → meeting rights (x ∷ xs) ≡ Some c → meeting rights (y ∷ ys) ≡ m
      → Sooner (type_in c) (Some c) m → unordered rights i j c ≡ [] → extreme_refuse rights (are_constants (x ∷ xs)) c (x ∷ xs) ≡ [] → ExtremeRow o i j (x ∷ xs) (y ∷ ys)
  by_meeting o i j x y xs ys c m p none is now (same d) order refuse = row_at o i j x y xs ys c c refl p none is now order refuse
  by_meeting o i j x y xs ys c m p none is now (by_now k e) order refuse = row_at o i j x y xs ys c (in_type (type_in c)) refl p none is now (ordered_now i j (type_in c) k e order) refuse

  row_in : (o : Op) (i j : ℕ) (x y : Part) (xs ys : List Part) (m : Option Common) → meeting rights (x ∷ xs) ≡ m → ((c : Common) → m ≡ Some c → Operands rights (type_in c) (x ∷ xs) (y ∷ ys)) → are_constants (x ∷ xs) ≡ false
      → extreme_failing_in rights i j (x ∷ xs) m ≡ [] → ExtremeRow o i j (x ∷ xs) (y ∷ ys)
  row_in o i j x y xs ys None is ops none f = cc
  row_in o i j x y xs ys (Some c) is ops none f =
      let p = ops c refl in
      let both = neither (unordered rights i j c) (extreme_refuse rights (are_constants (x ∷ xs)) c (x ∷ xs)) f in
      by_meeting o i j x y xs ys c (meeting rights (y ∷ ys)) p none is refl (from_first c p is) both.0 both.1
    where
      from_first : (c : Common) → Operands rights (type_in c) (x ∷ xs) (y ∷ ys) → all_met rights (own (sort_of x)) xs ≡ Some c → Sooner (type_in c) (Some c) (all_met rights (own (sort_of y)) ys)
      from_first c (an_operand a b cs ds p rest) e = all_meet (type_in c) c (own (sort_of x)) (own (sort_of y)) xs ys (ends_in c) rest (first_own (type_in c) x y p) e

  -- Where not all arguments are constant, no rule fails that didn't; the result and what the arguments take are the same.
  pub extreme_row : (o : Op) (i j : ℕ) (x y : Part) (xs ys : List Part) → ((c : Common) → meeting rights (x ∷ xs) ≡ Some c → Operands rights (type_in c) (x ∷ xs) (y ∷ ys)) → are_constants (x ∷ xs) ≡ false
      → extreme_failing rights i j (x ∷ xs) ≡ [] → ExtremeRow o i j (x ∷ xs) (y ∷ ys)
  extreme_row o i j x y xs ys ops none f = row_in o i j x y xs ys (meeting rights (x ∷ xs)) refl ops none f
