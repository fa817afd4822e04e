-- Comparisons, where variables stand in place of constants in the operands, neither of which is `nil`.
use Rattle.std.proofs.Common.{◌≡◌, ◌∙◌, ℕ, Bool, true, false, [], Option, Some, None, refl, sym, ap, subst}
use Rattle.std.specs.Prelude.{◌||◌, if◌then◌else◌}
use Rattle.go_base.specs.declared.fault.FaultCode.TheVariants as code
use Rattle.go_grammar.specs.declared.kind.Comparison.{Comparison}
use Rattle.go_types.specs.Trees.{TypeTree}
use Rattle.go_types.specs.Relations.{Rights}
use Rattle.go_types_relations.specs.Identity.{is_identical}
use Rattle.go_types_relations.specs.Tests.{is_assignable, is_comparable}
use Rattle.go_typed.specs.Trees.{Sort, typed, sort_of}
use Rattle.go_typed.specs.Trees as sort
use Rattle.go_exprs_rules.specs.declared.family.Family.TheVariants as family
use Rattle.go_exprs_rules.specs.declared.family.OpenKind.{OpenKind}
use Rattle.go_exprs_rules.specs.Faults.{fault_at}
use Rattle.go_exprs_rules.specs.Operators.{Common, in_type, in_kind, common_kind, one_typed, open_kinds, typed_compared, compared_in, type_in, is_equality, unordered, incomparable, unfit}
use Rattle.go_exprs_rules.specs.Sorts.{Stands, is_family, is_nil, open_kind, own_type, suits, default_type}
use Rattle.go_exprs_variables.proofs.Families.{suited}
use Rattle.go_exprs_variables.proofs.Identical.{assignable_itself}
use Rattle.go_exprs_variables.proofs.Meeting.{Seen, unchanged, closed, both_of, kinds_are, one_is, one_meets, by_family}

-- by types and kinds alone
abbrev pub comparison : Rights → Option TypeTree → Option OpenKind → Option TypeTree → Option OpenKind → Option Common
comparison rights (Some t) k (Some u) l = if is_assignable rights t u || is_assignable rights u t then Some (in_type t) else None
comparison rights (Some t) k None l = one_typed rights t l
comparison rights None k (Some u) l = one_typed rights u k
comparison rights None k None l = open_kinds k l

typed_is : (rights : Rights) (a b : Stands) (t u : Option TypeTree) → typed_compared rights a b t u ≡ comparison rights t (open_kind a) u (open_kind b)
typed_is rights a b (Some t) (Some u) = refl
typed_is rights a b (Some t) None = refl
typed_is rights a b None (Some u) = refl
typed_is rights a b None None = refl

compared_by : (rights : Rights) (a b : Stands) → is_nil a ≡ false → is_nil b ≡ false → compared_in rights a b ≡ typed_compared rights a b (own_type a) (own_type b)
compared_by rights sort.Nil b e f = cc
compared_by rights a sort.Nil e f = cc
compared_by rights a b e f = refl

pub compared_is : (rights : Rights) (a b : Stands) → is_nil a ≡ false → is_nil b ≡ false → compared_in rights a b ≡ comparison rights (own_type a) (open_kind a) (own_type b) (open_kind b)
compared_is rights a b e f = compared_by rights a b e f ∙ typed_is rights a b (own_type a) (own_type b)

-- They are compared where they were; or both were untyped, and are compared in the default type of their kind.
pub data Compared (c : Common) (new : Option Common) : Type 0 where
  there : new ≡ Some c → Compared c new
  sooner : (k : OpenKind) → c ≡ in_kind k → new ≡ Some (in_type (default_type k)) → Compared c new

type_is : (c : Common) (s : TypeTree) → c ≡ in_type s → type_in c ≡ s
type_is c s e = ap type_in e

-- The premises are laws of the relations of types: what is identical is told to be so; the default types have themselves as underlying types, and
-- are comparable.
module _ (rights : Rights) (itself : (t : TypeTree) → is_identical t t ≡ true) (default_suits : (k : OpenKind) → suits rights k (default_type k) ≡ true) (default_comparable : (k : OpenKind) → is_comparable rights (default_type k) ≡ true) where
  itself_compared : (t u : TypeTree) (k l : Option OpenKind) → t ≡ u → comparison rights (Some t) k (Some u) l ≡ Some (in_type t)
  itself_compared t u k l e =
      ap (λ z. if is_assignable rights t z || is_assignable rights z t then Some (in_type t) else None) (sym e)
      ∙ ap (λ b. if b || is_assignable rights t t then Some (in_type t) else None) (assignable_itself rights t (itself t))

  left : (c : Common) (t : TypeTree) (k : OpenKind) (v : Option TypeTree) (l : Option OpenKind) → suits rights k t ≡ true → type_in c ≡ t → comparison rights None (Some k) v l ≡ Some c → Compared c (comparison rights (Some t) None v l)
  left c t k (Some s) l f g e =
      let is : c ≡ in_type s = one_is rights itself s k c (suits rights k s) e in
      let same : t ≡ s = sym g ∙ type_is c s is in
      there (itself_compared t s None l same ∙ ap (λ z. Some (in_type z)) same ∙ sym (ap Some is))
  left c t k None None f g e = cc
  left c t k None (Some l) f g e =
      let is = kinds_are rights itself (common_kind k l) c e in
      let one = both_of k l is.0 is.1 in
      let same : t ≡ default_type is.0 = sym g ∙ ap type_in is.2 in
      sooner is.0 is.2 (one_meets rights itself t l (by_family rights itself k l t one.0 f) ∙ ap (λ z. Some (in_type z)) same)

  right : (c : Common) (t : TypeTree) (l : OpenKind) (v : Option TypeTree) (k : Option OpenKind) → suits rights l t ≡ true → type_in c ≡ t → comparison rights v k None (Some l) ≡ Some c → Compared c (comparison rights v k (Some t) None)
  right c t l (Some s) k f g e =
      let is : c ≡ in_type s = one_is rights itself s l c (suits rights l s) e in
      let same : s ≡ t = sym (sym g ∙ type_is c s is) in
      there (itself_compared s t k None same ∙ sym (ap Some is))
  right c t l None None f g e = cc
  right c t l None (Some k) f g e =
      let is = kinds_are rights itself (common_kind k l) c e in
      let one = both_of k l is.0 is.1 in
      let same : t ≡ default_type is.0 = sym g ∙ ap type_in is.2 in
      sooner is.0 is.2 (one_meets rights itself t k (by_family rights itself l k t (sym one.0) f) ∙ ap (λ z. Some (in_type z)) same)

  two : (c : Common) (t s : TypeTree) (k l : OpenKind) → type_in c ≡ t → type_in c ≡ s → open_kinds (Some k) (Some l) ≡ Some c → Compared c (comparison rights (Some t) None (Some s) None)
  two c t s k l g h e =
      let is = kinds_are rights itself (common_kind k l) c e in
      let same : t ≡ default_type is.0 = sym g ∙ ap type_in is.2 in
      sooner is.0 is.2 (itself_compared t s None None (sym g ∙ h) ∙ ap (λ z. Some (in_type z)) same)

  some_is : (t s : TypeTree) → Some s ≡ Some t → s ≡ t
  some_is t s e = cc

  pub compared : (a b x y : Stands) (c : Common) → is_nil a ≡ false → is_nil b ≡ false → is_nil x ≡ false → is_nil y ≡ false → Seen rights (Some (type_in c)) a x → Seen rights (Some (type_in c)) b y → compared_in rights a b ≡ Some c → Compared c (compared_in rights x y)
  compared a b x y c na nb nx ny (unchanged e f) (unchanged g h) is =
      there (compared_is rights x y nx ny ∙ ap (λ z. comparison rights z (open_kind x) (own_type y) (open_kind y)) e ∙ ap (λ z. comparison rights (own_type a) z (own_type y) (open_kind y)) f
      ∙ ap (λ z. comparison rights (own_type a) (open_kind a) z (open_kind y)) g ∙ ap (λ z. comparison rights (own_type a) (open_kind a) (own_type b) z) h ∙ sym (compared_is rights a b na nb) ∙ is)
  compared a b x y c na nb nx ny (closed t k n m v w s d) (unchanged g h) is =
      let old : comparison rights None (Some k) (own_type b) (open_kind b) ≡ Some c =
      ap (λ z. comparison rights z (Some k) (own_type b) (open_kind b)) (sym n) ∙ ap (λ z. comparison rights (own_type a) z (own_type b) (open_kind b)) (sym m) ∙ sym (compared_is rights a b na nb) ∙ is in
      let new : compared_in rights x y ≡ comparison rights (Some t) None (own_type b) (open_kind b) =
      compared_is rights x y nx ny ∙ ap (λ z. comparison rights z (open_kind x) (own_type y) (open_kind y)) v ∙ ap (λ z. comparison rights (Some t) z (own_type y) (open_kind y)) w
      ∙ ap (λ z. comparison rights (Some t) None z (open_kind y)) g ∙ ap (λ z. comparison rights (Some t) None (own_type b) z) h in
      subst (Compared c) (sym new) (left c t k (own_type b) (open_kind b) d (some_is t (type_in c) s) old)
  compared a b x y c na nb nx ny (unchanged e f) (closed t k n m v w s d) is =
      let old : comparison rights (own_type a) (open_kind a) None (Some k) ≡ Some c =
      ap (λ z. comparison rights (own_type a) (open_kind a) z (Some k)) (sym n) ∙ ap (λ z. comparison rights (own_type a) (open_kind a) (own_type b) z) (sym m) ∙ sym (compared_is rights a b na nb) ∙ is in
      let new : compared_in rights x y ≡ comparison rights (own_type a) (open_kind a) (Some t) None =
      compared_is rights x y nx ny ∙ ap (λ z. comparison rights z (open_kind x) (own_type y) (open_kind y)) e ∙ ap (λ z. comparison rights (own_type a) z (own_type y) (open_kind y)) f
      ∙ ap (λ z. comparison rights (own_type a) (open_kind a) z (open_kind y)) v ∙ ap (λ z. comparison rights (own_type a) (open_kind a) (Some t) z) w in
      subst (Compared c) (sym new) (right c t k (own_type a) (open_kind a) d (some_is t (type_in c) s) old)
  compared a b x y c na nb nx ny (closed t k n m v w s d) (closed i p g h e f z j) is =
      let old : open_kinds (Some k) (Some p) ≡ Some c =
      ap (λ r. comparison rights None (Some k) None r) (sym h) ∙ ap (λ r. comparison rights None (Some k) r (open_kind b)) (sym g)
      ∙ ap (λ r. comparison rights r (Some k) (own_type b) (open_kind b)) (sym n) ∙ ap (λ r. comparison rights (own_type a) r (own_type b) (open_kind b)) (sym m) ∙ sym (compared_is rights a b na nb) ∙ is in
      let new : compared_in rights x y ≡ comparison rights (Some t) None (Some i) None =
      compared_is rights x y nx ny ∙ ap (λ r. comparison rights r (open_kind x) (own_type y) (open_kind y)) v ∙ ap (λ r. comparison rights (Some t) r (own_type y) (open_kind y)) w
      ∙ ap (λ r. comparison rights (Some t) None r (open_kind y)) e ∙ ap (λ r. comparison rights (Some t) None (Some i) r) f in
      subst (Compared c) (sym new) (two c t i k p (some_is t (type_in c) s) (some_is i (type_in c) z) old)

  -- ---- what isn't fit for the operator

  pub fit_in_default : (o : Comparison) (i j : ℕ) (k : OpenKind) → unfit rights o i j false (in_kind k) ≡ [] → unfit rights o i j false (in_type (default_type k)) ≡ []
  fit_in_default o i j k e = by_test (is_equality o) e
    where
      by_test : (b : Bool) → (if b then incomparable rights i j (in_kind k) else unordered rights i j (in_kind k)) ≡ [] → (if b then incomparable rights i j (in_type (default_type k)) else unordered rights i j (in_type (default_type k))) ≡ []
      by_test true f = ap (λ b. if b then [] else fault_at code.NotComparable i j) (default_comparable k)
      by_test false f = ap (λ g. if is_family family.Integers g || is_family family.Texts g then [] else fault_at code.Operands i j) (suited rights k (default_type k) (default_suits k)) ∙ f
