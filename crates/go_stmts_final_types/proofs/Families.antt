-- Constants are of the families of their types, and operations on them that no rule refuses have values.
use Rattle.std.proofs.Common.{◌≡◌, ℕ, Bool, true, false, cond, List, Option, Some, None, ℤ, refl, sym, ap, subst, ◌∙◌}
use Rattle.std.specs.Prelude.{◌&&◌, ◌||◌}
use Rattle.std.proofs.lemmas.Bool.{eqb-true}
use Rattle.go_constants.specs.declared.values.Const.{Const}
use Rattle.go_constants.specs.declared.values.Const.TheVariants as const
use Rattle.go_types.specs.Trees.{TypeTree, boolean, text, integer, declared}
use Rattle.go_types.specs.Relations.{Rights}
use Rattle.go_types_relations.specs.Identity.{is_identical}
use Rattle.go_types_relations.specs.Tests.{underlying_of, both_identical, is_assignable}
use Rattle.go_typed.specs.Trees as sort
use Rattle.go_exprs_rules.specs.declared.family.Family.{Family}
use Rattle.go_exprs_rules.specs.declared.family.Family.TheVariants as family
use Rattle.go_exprs_rules.specs.declared.family.OpenKind.{OpenKind}
use Rattle.go_exprs_rules.specs.declared.family.OpenKind.TheVariants as untyped_kind
use Rattle.go_exprs_rules.specs.Calls.{keeps_value, met}
use Rattle.go_exprs_rules.specs.Operators.{Common, in_type, in_kind, family_in, own, own_by, common, common_by, common_kind, kind_common, one_typed, open_kinds, compared_in}
use Rattle.go_exprs_rules.specs.Sorts.{Stands, same_family, is_family, family_of_type, family_of_const, family_of_open, kind_of_const, constant_of, own_type, open_kind, suits, basic_of, represented_in, represents}
use Rattle.go_stmts_final_types.specs.Names.{KeepsFamily}

-- ---- families

-- the value is of the family in which operands meet
abbrev pub InFamily : Rights → Common → Const → Type 0
InFamily rights c v = is_family (family_of_const v) (family_in rights c) ≡ true

own_kind : (v : Const) → same_family (family_of_const v) (family_of_open (kind_of_const v)) ≡ true
own_kind (const.Bool b) = refl
own_kind (const.Int z true) = refl
own_kind (const.Int z false) = refl
own_kind (const.Text bytes) = refl

family_same : (f g : Family) → same_family f g ≡ true → f ≡ g
family_same family.Booleans family.Booleans e = refl
family_same family.Booleans family.Integers e = cc
family_same family.Booleans family.Texts e = cc
family_same family.Integers family.Booleans e = cc
family_same family.Integers family.Integers e = refl
family_same family.Integers family.Texts e = cc
family_same family.Texts family.Booleans e = cc
family_same family.Texts family.Integers e = cc
family_same family.Texts family.Texts e = refl

pub family_is : (f : Family) (o : Option Family) → is_family f o ≡ true → o ≡ Some f
family_is f (Some g) e = ap Some (sym (family_same f g e))
family_is f None e = cc

pub family_self : (f : Family) → same_family f f ≡ true
family_self family.Booleans = refl
family_self family.Integers = refl
family_self family.Texts = refl

-- identical types have one family
identical_trees : (t u : TypeTree) → is_identical t u ≡ true → family_of_type (Some t) ≡ family_of_type (Some u)
identical_trees boolean boolean e = refl
identical_trees boolean u e = cc
identical_trees text text e = refl
identical_trees text u e = cc
identical_trees (integer k) (integer l) e = refl
identical_trees (integer k) u e = cc
identical_trees t boolean e = cc
identical_trees t text e = cc
identical_trees t (integer l) e = cc
identical_trees t u e = refl

identical_families : (rights : Rights) (t u : TypeTree) → is_identical t u ≡ true → family_of_type (underlying_of rights t) ≡ family_of_type (underlying_of rights u)
identical_families rights (declared n) (declared m) e = ap (λ k. family_of_type (underlying_of rights (declared k))) (eqb-true n m e)
identical_families rights (declared n) u e = cc
identical_families rights t (declared m) e = cc
identical_families rights t u e = identical_trees t u e

both_families : (t u : Option TypeTree) → both_identical t u ≡ true → family_of_type t ≡ family_of_type u
both_families (Some t) (Some u) e = identical_trees t u e
both_families (Some t) None e = cc
both_families None u e = cc

assignable_by : (rights : Rights) (t u : TypeTree) (a b c : Bool) → is_identical t u ≡ a → both_identical (underlying_of rights t) (underlying_of rights u) ≡ b → (a || (b && c)) ≡ true → family_of_type (underlying_of rights t) ≡ family_of_type (underlying_of rights u)
assignable_by rights t u true b c m n e = identical_families rights t u m
assignable_by rights t u false true c m n e = both_families (underlying_of rights t) (underlying_of rights u) n
assignable_by rights t u false false c m n e = cc

pub assignable_families : (rights : Rights) (t u : TypeTree) → is_assignable rights t u ≡ true → family_of_type (underlying_of rights t) ≡ family_of_type (underlying_of rights u)
unfolding is_assignable
assignable_families rights t u e = assignable_by rights t u (is_identical t u) (both_identical (underlying_of rights t) (underlying_of rights u)) _ refl refl e

-- ---- one value

pub own_family : (rights : Rights) (a : Stands) (c : Common) (v : Const) → own a ≡ Some c → constant_of a ≡ Some v → KeepsFamily rights a → InFamily rights c v
own_family rights (sort.Constant t w) c v e m k = let same : w ≡ v = cc in let where_ : in_type t ≡ c = cc in subst (λ d. InFamily rights d v) where_ (subst (λ x. keeps_value rights t (Some x) ≡ true) same k)
own_family rights (sort.OpenConstant w) c v e m k = let same : w ≡ v = cc in let where_ : in_kind (kind_of_const w) ≡ c = cc in subst (λ d. InFamily rights d v) where_ (subst (λ x. InFamily rights (in_kind (kind_of_const w)) x) same (own_kind w))
own_family rights a c v e m k = cc

-- ---- values that meet

if_some : {A : Type 0} (b : Bool) (x y : A) → cond b (Some x) None ≡ Some y → (b ≡ true) × (x ≡ y)
if_some true x y e = (refl, cc)
if_some false x y e = cc

-- operands meet in the family of each of them
abbrev pub SameFamilies : Rights → Common → Common → Common → Type 0
SameFamilies rights c d e = (family_in rights c ≡ family_in rights e) × (family_in rights d ≡ family_in rights e)

kinds_meet : (rights : Rights) (k l : OpenKind) (c : Common) → kind_common (common_kind k l) ≡ Some c → SameFamilies rights (in_kind k) (in_kind l) c
kinds_meet rights untyped_kind.Boolean untyped_kind.Boolean c e = let where_ : in_kind untyped_kind.Boolean ≡ c = cc in subst (SameFamilies rights (in_kind untyped_kind.Boolean) (in_kind untyped_kind.Boolean)) where_ (refl, refl)
kinds_meet rights untyped_kind.Boolean untyped_kind.Integer c e = cc
kinds_meet rights untyped_kind.Boolean untyped_kind.Rune c e = cc
kinds_meet rights untyped_kind.Boolean untyped_kind.Text c e = cc
kinds_meet rights untyped_kind.Integer untyped_kind.Boolean c e = cc
kinds_meet rights untyped_kind.Integer untyped_kind.Integer c e = let where_ : in_kind untyped_kind.Integer ≡ c = cc in subst (SameFamilies rights (in_kind untyped_kind.Integer) (in_kind untyped_kind.Integer)) where_ (refl, refl)
kinds_meet rights untyped_kind.Integer untyped_kind.Rune c e = let where_ : in_kind untyped_kind.Rune ≡ c = cc in subst (SameFamilies rights (in_kind untyped_kind.Integer) (in_kind untyped_kind.Rune)) where_ (refl, refl)
kinds_meet rights untyped_kind.Integer untyped_kind.Text c e = cc
kinds_meet rights untyped_kind.Rune untyped_kind.Boolean c e = cc
kinds_meet rights untyped_kind.Rune untyped_kind.Integer c e = let where_ : in_kind untyped_kind.Rune ≡ c = cc in subst (SameFamilies rights (in_kind untyped_kind.Rune) (in_kind untyped_kind.Integer)) where_ (refl, refl)
kinds_meet rights untyped_kind.Rune untyped_kind.Rune c e = let where_ : in_kind untyped_kind.Rune ≡ c = cc in subst (SameFamilies rights (in_kind untyped_kind.Rune) (in_kind untyped_kind.Rune)) where_ (refl, refl)
kinds_meet rights untyped_kind.Rune untyped_kind.Text c e = cc
kinds_meet rights untyped_kind.Text untyped_kind.Boolean c e = cc
kinds_meet rights untyped_kind.Text untyped_kind.Integer c e = cc
kinds_meet rights untyped_kind.Text untyped_kind.Rune c e = cc
kinds_meet rights untyped_kind.Text untyped_kind.Text c e = let where_ : in_kind untyped_kind.Text ≡ c = cc in subst (SameFamilies rights (in_kind untyped_kind.Text) (in_kind untyped_kind.Text)) where_ (refl, refl)

pub met_families : (rights : Rights) (c d e : Common) → met rights (Some c) (Some d) ≡ Some e → SameFamilies rights c d e
met_families rights (in_type t) (in_type u) e m =
    let h = if_some (is_identical t u) (in_type t) e m in subst (SameFamilies rights (in_type t) (in_type u)) h.1 (refl, sym (identical_families rights t u h.0))
met_families rights (in_type t) (in_kind k) e m =
    let h = if_some (suits rights k t) (in_type t) e m in subst (SameFamilies rights (in_type t) (in_kind k)) h.1 (refl, sym (family_is (family_of_open k) (family_of_type (underlying_of rights t)) h.0))
met_families rights (in_kind k) (in_type u) e m =
    let h = if_some (suits rights k u) (in_type u) e m in subst (SameFamilies rights (in_kind k) (in_type u)) h.1 (sym (family_is (family_of_open k) (family_of_type (underlying_of rights u)) h.0), refl)
met_families rights (in_kind k) (in_kind l) e m = kinds_meet rights k l e m

pub met_both : (rights : Rights) (c d : Option Common) (e : Common) → met rights c d ≡ Some e → (p : Common) × (q : Common) × (c ≡ Some p) × (d ≡ Some q) × SameFamilies rights p q e
met_both rights (Some c) (Some d) e m = (c, d, refl, refl, met_families rights c d e m)
met_both rights None d e m = cc
met_both rights (Some (in_type t)) None e m = cc
met_both rights (Some (in_kind k)) None e m = cc

-- where operands meet
pub common_met : (rights : Rights) (a b : Stands) → common rights a b ≡ met rights (own a) (own b)
common_met rights a b = by (own_type a) (own_type b) (open_kind a) (open_kind b) refl refl
  where
    kinds : (k l : Option OpenKind) → open_kinds k l ≡ met rights (own_by None k) (own_by None l)
    kinds (Some k) (Some l) = refl
    kinds (Some k) None = refl
    kinds None l = refl

    by : (o p : Option TypeTree) (k l : Option OpenKind) → open_kind a ≡ k → open_kind b ≡ l → common_by rights a b o p ≡ met rights (own_by o k) (own_by p l)
    by (Some t) (Some u) k l m n = refl
    by (Some t) None k (Some l) m n = ap (one_typed rights t) n
    by (Some t) None k None m n = ap (one_typed rights t) n
    by None (Some u) (Some k) l m n = ap (one_typed rights u) m
    by None (Some u) None l m n = ap (one_typed rights u) m
    by None None k l m n = ap (λ z. open_kinds z (open_kind b)) m ∙ (ap (open_kinds k) n ∙ kinds k l)

-- two constants that meet
pub common_families : (rights : Rights) (a b : Stands) (c : Common) (v w : Const) → common rights a b ≡ Some c → constant_of a ≡ Some v → constant_of b ≡ Some w → KeepsFamily rights a → KeepsFamily rights b → InFamily rights c v × InFamily rights c w
common_families rights a b c v w e m n g k =
    let h = met_both rights (own a) (own b) c (sym (common_met rights a b) ∙ e) in (
      subst (λ z. is_family (family_of_const v) z ≡ true) h.4.0 (own_family rights a h.0 v h.2 m g),
      subst (λ z. is_family (family_of_const w) z ≡ true) h.4.1 (own_family rights b h.1 w h.3 n k),
    )

-- two constants that are compared
either_way : (rights : Rights) (t u : TypeTree) (a b : Bool) → is_assignable rights t u ≡ a → is_assignable rights u t ≡ b → (a || b) ≡ true → family_of_type (underlying_of rights u) ≡ family_of_type (underlying_of rights t)
either_way rights t u true b m n e = sym (assignable_families rights t u m)
either_way rights t u false true m n e = assignable_families rights u t n
either_way rights t u false false m n e = cc

pub compared_families : (rights : Rights) (a b : Stands) (c : Common) (v w : Const) → compared_in rights a b ≡ Some c → constant_of a ≡ Some v → constant_of b ≡ Some w → KeepsFamily rights a → KeepsFamily rights b → InFamily rights c v × InFamily rights c w
compared_families rights (sort.Constant t x) (sort.Constant u y) c v w e m n g k =
    let h = if_some (is_assignable rights t u || is_assignable rights u t) (in_type t) c e in
    let same = either_way rights t u (is_assignable rights t u) (is_assignable rights u t) refl refl h.0 in
    let here : InFamily rights (in_type t) y = subst (λ z. is_family (family_of_const y) z ≡ true) same k in
    let left : x ≡ v = cc in
    let right : y ≡ w = cc in
    subst (λ d. InFamily rights d v × InFamily rights d w) h.1 (subst (InFamily rights (in_type t)) left g, subst (InFamily rights (in_type t)) right here)
compared_families rights (sort.Constant t x) (sort.OpenConstant y) c v w e m n g k = common_families rights (sort.Constant t x) (sort.OpenConstant y) c v w e m n g k
compared_families rights (sort.OpenConstant x) (sort.Constant u y) c v w e m n g k = common_families rights (sort.OpenConstant x) (sort.Constant u y) c v w e m n g k
compared_families rights (sort.OpenConstant x) (sort.OpenConstant y) c v w e m n g k = common_families rights (sort.OpenConstant x) (sort.OpenConstant y) c v w e m n g k
compared_families rights (sort.Constant t x) b c v w e m n g k = cc
compared_families rights (sort.OpenConstant x) b c v w e m n g k = cc
compared_families rights a b c v w e m n g k = cc

-- ---- what a type represents

represented_family : (v : Const) (u : Option TypeTree) → represented_in v (basic_of u) ≡ true → is_family (family_of_const v) (family_of_type u) ≡ true
represented_family (const.Bool b) (Some boolean) e = refl
represented_family (const.Bool b) (Some text) e = cc
represented_family (const.Bool b) (Some (integer k)) e = cc
represented_family (const.Int z r) (Some boolean) e = cc
represented_family (const.Int z r) (Some text) e = cc
represented_family (const.Int z r) (Some (integer k)) e = refl
represented_family (const.Text s) (Some boolean) e = cc
represented_family (const.Text s) (Some text) e = refl
represented_family (const.Text s) (Some (integer k)) e = cc
represented_family v u e = cc

pub represents_keeps : (rights : Rights) (t : TypeTree) (v : Const) → represents rights t v ≡ true → keeps_value rights t (Some v) ≡ true
represents_keeps rights t v e = represented_family v (underlying_of rights t) e

-- ---- shapes of values

pub boolean_value : (v : Const) → family_of_const v ≡ family.Booleans → (b : Bool) × (v ≡ const.Bool b)
boolean_value (const.Bool b) e = (b, refl)
boolean_value (const.Int z r) e = cc
boolean_value (const.Text s) e = cc

pub whole_value : (v : Const) → family_of_const v ≡ family.Integers → (z : ℤ) × (r : Bool) × (v ≡ const.Int z r)
whole_value (const.Int z r) e = (z, r, refl)
whole_value (const.Bool b) e = cc
whole_value (const.Text s) e = cc

pub text_value : (v : Const) → family_of_const v ≡ family.Texts → (s : List ℕ) × (v ≡ const.Text s)
text_value (const.Text s) e = (s, refl)
text_value (const.Bool b) e = cc
text_value (const.Int z r) e = cc

pub one_family : (f g : Family) (o : Option Family) → is_family f o ≡ true → is_family g o ≡ true → f ≡ g
one_family f g (Some x) d e = family_same f x d ∙ sym (family_same g x e)
one_family f g None d e = cc
