-- Values of cases, which are compared with the tag of their switch.
use Rattle.std.proofs.Common.{◌≡◌, ◌∙◌, ℕ, Bool, true, false, [], Option, Some, None, refl, sym, ap}
use Rattle.std.specs.Prelude.{◌||◌, if◌then◌else◌}
use Rattle.go_base.specs.declared.fault.FaultCode.TheVariants as code
use Rattle.go_grammar.specs.declared.kind.Comparison.TheVariants as comparison
use Rattle.go_types.specs.Trees.{TypeTree}
use Rattle.go_types.specs.Relations.{Rights}
use Rattle.go_types_relations.specs.Tests.{underlying_of, is_assignable, is_comparable}
use Rattle.go_typed.specs.Trees.{sort_of, first_of, last_of}
use Rattle.go_typed.specs.Trees as sort
use Rattle.go_exprs_rules.specs.declared.family.OpenKind.{OpenKind}
use Rattle.go_exprs_rules.specs.Faults.{fault_at}
use Rattle.go_exprs_rules.specs.Operators.{Common, in_type, nil_common, compared_in, compared_failing, compared_failing_in, compared_refuse, unfit}
use Rattle.go_exprs_rules.specs.Settling.{Part, unrepresented}
use Rattle.go_exprs_rules.specs.Sorts.{Stands, is_nil, is_unknown, has_nil, suits, own_type, open_kind}
use Rattle.go_stmts_defs.specs.Rules.{case_failing, tag_at}
use Rattle.go_exprs_variables.specs.Operands.{Operand}
use Rattle.go_exprs_variables.specs.Stood.{Stood, as_before, in_place, early}
use Rattle.go_exprs_variables.proofs.Public.{Compared, both_none, compared, compared_is, comparison as compared_types, default_comparable, default_suits, neither, none_of_both, of_neither, seen, sooner, there, tree_self}
use Rattle.go_exprs_variables.proofs.Public.{unchanged}
use Rattle.go_stmts_variables.specs.Rules.{CaseKept}
use Rattle.go_stmts_variables.proofs.Conditions.{nil_kept}

-- a tag that has a type
record IsTag (t : TypeTree) (a : Stands) : Type 0 where
  pub own : own_type a ≡ Some t
  pub kind : open_kind a ≡ None
  pub nil : is_nil a ≡ false
  pub known : is_unknown a ≡ false

is_tag : (t : TypeTree) (a : Stands) → own_type a ≡ Some t → IsTag t a
is_tag t (sort.Value u) e = record { own = e; kind = refl; nil = refl; known = refl }
is_tag t (sort.Constant u c) e = record { own = e; kind = refl; nil = refl; known = refl }
is_tag t a e = cc

pub type_kept : (rights : Rights) (u : Option TypeTree) (t : TypeTree) (a b : Stands) → Stood rights u a b → u ≡ None → own_type a ≡ Some t → own_type b ≡ Some t
type_kept rights u t a b (as_before v c) n e = e
type_kept rights u t a b (in_place v s c) n e = e
type_kept rights u t a b (early s c k f g) n e = cc

module _ (rights : Rights) where
  nil_right : (a : Stands) → is_nil a ≡ false → compared_in rights a sort.Nil ≡ nil_common rights (own_type a)
  nil_right sort.Nil e = cc
  nil_right a e = refl

  is_nil_sort : (z : Stands) → is_nil z ≡ true → z ≡ sort.Nil
  is_nil_sort sort.Nil e = refl
  is_nil_sort z e = cc

  in_type_if : (b : Bool) (t : TypeTree) (c : Common) → (if b then Some (in_type t) else None) ≡ Some c → c ≡ in_type t
  in_type_if true t c e = cc
  in_type_if false t c e = cc

  type_by : (t : TypeTree) (k : Option OpenKind) (u : Option TypeTree) (l : Option OpenKind) (c : Common) → compared_types rights (Some t) k u l ≡ Some c → c ≡ in_type t
  type_by t k (Some u) l c e = in_type_if (is_assignable rights t u || is_assignable rights u t) t c e
  type_by t k None (Some l) c e = in_type_if (suits rights l t) t c e
  type_by t k None None c e = cc

  -- what is compared with a tag is compared in its type
  tag_common : (t : TypeTree) (a z : Stands) (c : Common) → IsTag t a → compared_in rights a z ≡ Some c → c ≡ in_type t
  tag_common t a z c tag e = by_nil (is_nil z) refl
    where
      by_nil : (b : Bool) → is_nil z ≡ b → c ≡ in_type t
      by_nil true m = in_type_if (has_nil (underlying_of rights t)) t c (sym (ap (compared_in rights a) (is_nil_sort z m) ∙ nil_right a tag.nil ∙ ap (nil_common rights) tag.own) ∙ e)
      by_nil false m = type_by t (open_kind a) (own_type z) (open_kind z) c (sym (compared_is rights a z tag.nil m ∙ ap (λ o. compared_types rights o (open_kind a) (own_type z) (open_kind z)) tag.own) ∙ e)

  -- the new tag and the new value are compared in that type too
  same_common : (t : TypeTree) (a b x y : Stands) → IsTag t a → IsTag t b → Stood rights (Some t) x y → compared_in rights a x ≡ Some (in_type t) → compared_in rights b y ≡ Some (in_type t)
  same_common t a b x y old new st e = by_nil (is_nil x) refl
    where
      by_met : Compared (in_type t) (compared_in rights b y) → compared_in rights b y ≡ Some (in_type t)
      by_met (there e) = e
      by_met (sooner k k' e) = cc

      by_nil : (d : Bool) → is_nil x ≡ d → compared_in rights b y ≡ Some (in_type t)
      by_nil true m =
          ap (compared_in rights b) (is_nil_sort y (nil_kept rights (Some t) x y st ∙ m)) ∙ nil_right b new.nil ∙ ap (nil_common rights) new.own
          ∙ sym (ap (compared_in rights a) (is_nil_sort x m) ∙ nil_right a old.nil ∙ ap (nil_common rights) old.own) ∙ e
      by_nil false m =
          by_met (compared rights tree_self (default_suits rights) (default_comparable rights) a x b y (in_type t) old.nil m new.nil (nil_kept rights (Some t) x y st ∙ m)
          (unchanged (new.own ∙ sym old.own) (new.kind ∙ sym old.kind)) (seen rights (Some t) x y st) e)

  -- ---- what fails

  still_comparable : (b : Bool) (i j m n : ℕ) → (if b then [] else fault_at code.NotComparable i j) ≡ [] → (if b then [] else fault_at code.NotComparable m n) ≡ []
  still_comparable true i j m n e = refl
  still_comparable false i j m n e = cc

  still_fit : (d : Bool) (t : TypeTree) (i j m n : ℕ) → unfit rights comparison.Equal i j d (in_type t) ≡ [] → unfit rights comparison.Equal m n d (in_type t) ≡ []
  still_fit true t i j m n e = refl
  still_fit false t i j m n e = still_comparable (is_comparable rights t) i j m n e

  failing_by : (t : TypeTree) (a b : Stands) (x y : Part) → IsTag t a → IsTag t b → Operand rights (Some t) x y → (d : Option Common) → compared_in rights a (sort_of x) ≡ d
      → compared_failing_in rights comparison.Equal (first_of x) (last_of x) (tag_at a x) x d ≡ [] → compared_failing rights comparison.Equal (first_of y) (last_of y) (tag_at b y) y ≡ []
  failing_by t a b x y old new o None m e = cc
  failing_by t a b x y old new o (Some c) m e =
      let is : c ≡ in_type t = tag_common t a (sort_of x) c old m in
      let f : compared_failing_in rights comparison.Equal (first_of x) (last_of x) (tag_at a x) x (Some (in_type t)) ≡ [] = sym (ap (λ z. compared_failing_in rights comparison.Equal (first_of x) (last_of x) (tag_at a x) x (Some z)) is)
      ∙ e in
      let both = neither (unfit rights comparison.Equal (first_of x) (last_of x) (is_nil a || is_nil (sort_of x)) (in_type t)) (compared_refuse rights (in_type t) (tag_at a x) x) f in
      let range = both_none (unrepresented rights t (tag_at a x)) (unrepresented rights t x) both.1 in
      let nils : (is_nil b || is_nil (sort_of y)) ≡ (is_nil a || is_nil (sort_of x)) = ap (λ z. z || is_nil (sort_of y)) (new.nil ∙ sym old.nil) ∙ ap (λ z. is_nil a || z) (nil_kept rights (Some t) (sort_of x) (sort_of y) o.stands) in
      let met : compared_in rights b (sort_of y) ≡ Some (in_type t) = same_common t a b (sort_of x) (sort_of y) old new o.stands (m ∙ ap Some is) in
      ap (compared_failing_in rights comparison.Equal (first_of y) (last_of y) (tag_at b y) y) met
      ∙ of_neither (unfit rights comparison.Equal (first_of y) (last_of y) (is_nil b || is_nil (sort_of y)) (in_type t)) (compared_refuse rights (in_type t) (tag_at b y) y)
      (ap (λ z. unfit rights comparison.Equal (first_of y) (last_of y) z (in_type t)) nils ∙ still_fit (is_nil a || is_nil (sort_of x)) t (first_of x) (last_of x) (first_of y) (last_of y) both.0)
      (none_of_both (unrepresented rights t (tag_at b y)) (unrepresented rights t y) (ranged b new) (o.range t range.1))
    where
      ranged : (z : Stands) → IsTag t z → unrepresented rights t (tag_at z y) ≡ []
      ranged (sort.Open u) tag = let e = tag.kind in cc
      ranged (sort.OpenConstant c) tag = let e = tag.kind in cc
      ranged z tag = refl

  known_tag : (t : TypeTree) (a : Stands) (x : Part) → IsTag t a → case_failing rights a x ≡ compared_failing rights comparison.Equal (first_of x) (last_of x) (tag_at a x) x
  known_tag t a x tag = ap (λ b. if b then [] else compared_failing rights comparison.Equal (first_of x) (last_of x) (tag_at a x) x) tag.known

-- an untyped value of a case takes the tag's type, which has the constants in it
pub case_suits : (rights : Rights) (a : Stands) (t : TypeTree) (x : Part) → own_type a ≡ Some t → case_failing rights a x ≡ [] → (k : OpenKind) → open_kind (sort_of x) ≡ Some k → (suits rights k t ≡ true) × (unrepresented rights t x ≡ [])
case_suits rights a t x e f k o = by (compared_in rights a (sort_of x)) refl (sym (known_tag rights t a x (is_tag t a e)) ∙ f)
  where
    no_nil : (z : Stands) → open_kind z ≡ Some k → is_nil z ≡ false
    no_nil sort.Nil m = cc
    no_nil z m = refl

    no_type : (z : Stands) → open_kind z ≡ Some k → own_type z ≡ None
    no_type (sort.Value u) m = cc
    no_type (sort.Constant u c) m = cc
    no_type z m = refl

    some_type : (b : Bool) → (if b then Some (in_type t) else None) ≡ Some (in_type t) → b ≡ true
    some_type true m = refl
    some_type false m = cc

    by : (d : Option Common) → compared_in rights a (sort_of x) ≡ d → compared_failing_in rights comparison.Equal (first_of x) (last_of x) (tag_at a x) x d ≡ [] → (suits rights k t ≡ true) × (unrepresented rights t x ≡ [])
    by None m g = cc
    by (Some c) m g =
        let tag = is_tag t a e in
        let is : c ≡ in_type t = tag_common rights t a (sort_of x) c tag m in
        let judged : compared_failing_in rights comparison.Equal (first_of x) (last_of x) (tag_at a x) x (Some (in_type t)) ≡ [] =
        sym (ap (λ z. compared_failing_in rights comparison.Equal (first_of x) (last_of x) (tag_at a x) x (Some z)) is) ∙ g in
        let both = neither (unfit rights comparison.Equal (first_of x) (last_of x) (is_nil a || is_nil (sort_of x)) (in_type t)) (compared_refuse rights (in_type t) (tag_at a x) x) judged in
        let range = both_none (unrepresented rights t (tag_at a x)) (unrepresented rights t x) both.1 in
        let types : compared_types rights (Some t) (open_kind a) None (Some k) ≡ Some (in_type t) =
        sym (compared_is rights a (sort_of x) tag.nil (no_nil (sort_of x) o) ∙ ap (λ z. compared_types rights z (open_kind a) (own_type (sort_of x)) (open_kind (sort_of x))) tag.own
        ∙ ap (λ z. compared_types rights (Some t) (open_kind a) z (open_kind (sort_of x))) (no_type (sort_of x) o) ∙ ap (λ z. compared_types rights (Some t) (open_kind a) None z) o) ∙ m ∙ ap Some is in
        (some_type (suits rights k t) types, range.1)

pub case_kept : CaseKept
case_kept rights a b t x y st e o f =
    let old = is_tag t a e in
    let new = is_tag t b (type_kept rights None t a b st refl e) in
    known_tag rights t b y new ∙ failing_by rights t a b x y old new o (compared_in rights a (sort_of x)) refl (sym (known_tag rights t a x old) ∙ f)
