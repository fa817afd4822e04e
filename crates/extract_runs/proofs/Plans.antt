-- Plans of one node are equal, and those of different sorts aren't.
use Rattle.std.proofs.Common.{◌≡◌, ℕ, refl, sym, ap, ◌∙◌, subst}
use Rattle.std.specs.Prelude.{Bool, true, false}
use Rattle.go_types.specs.Trees.{TypeTree}
use Rattle.go_types.specs.Relations.{Rights}
use Rattle.go_typed.specs.declared.form.Form.{Form}
use Rattle.go_typed.specs.declared.form.Form.TheVariants as form
use Rattle.go_typed.specs.Trees.{Label, Typeds}
use Rattle.go_meaning.specs.Planning.{plan}
use Rattle.go_meaning.specs.Plans.{Plan, Course, Give, Local, Declare, Skip, Sequence, CaseOf, Otherwise, Once, Loop}
use Rattle.go_meaning_simulation.specs.Kin.{is_inner}
use Rattle.extract_runs.specs.Images.{is_list, plan_moved}
use Rattle.extract_runs.specs.Sound.{is_plain}

abbrev pub plan_in : Course → Plan
plan_in (Once p) = p
plan_in (Loop b) = Skip

pub one_plan : {c : Course} {p q : Plan} → c ≡ Once p → c ≡ Once q → p ≡ q
one_plan e d = ap plan_in (sym e ∙ d)

abbrev pub is_give : Plan → Bool
is_give (Give v) = true
is_give p = false

abbrev pub is_named : Plan → Bool
is_named (Local n) = true
is_named (Declare n) = true
is_named p = false

pub differ : {A : Type 0} {p q : Plan} (f : Plan → Bool) → f p ≡ true → f q ≡ false → p ≡ q → A
differ f e d s = absurd (clash (sym e ∙ ap f s ∙ d))
  where
    clash : true ≡ false → ⊥
    clash h = absurd cc

pub inner_no_list : (p : Plan) → is_inner p ≡ true → is_list p ≡ false
inner_no_list Sequence e = absurd cc
inner_no_list (CaseOf n) e = absurd cc
inner_no_list Otherwise e = absurd cc
inner_no_list p e = refl

pub plain_no_list : (p : Plan) → is_plain p ≡ true → is_list p ≡ false
plain_no_list Sequence e = absurd cc
plain_no_list (CaseOf n) e = absurd cc
plain_no_list Otherwise e = absurd cc
plain_no_list p e = refl

pub inner_no_give : (p : Plan) → is_inner p ≡ true → is_give p ≡ false
inner_no_give (Give v) e = absurd cc
inner_no_give p e = refl

pub plain_no_give : (p : Plan) → is_plain p ≡ true → is_give p ≡ false
plain_no_give (Give v) e = absurd cc
plain_no_give p e = refl

pub inner_stays : (s local : ℕ → ℕ) (p : Plan) → is_inner p ≡ true → plan_moved s local p ≡ p
inner_stays s local (Give v) e = absurd cc
inner_stays s local (Local n) e = absurd cc
inner_stays s local (Declare n) e = absurd cc
inner_stays s local p e = refl

pub plain_stays : (s local : ℕ → ℕ) (p : Plan) → is_plain p ≡ true → plan_moved s local p ≡ p
plain_stays s local (Give v) e = absurd cc
plain_stays s local (Local n) e = absurd cc
plain_stays s local (Declare n) e = absurd cc
plain_stays s local p e = refl

pub no_for : {A : Type 0} {f : Form} (rights : Rights) (e : Label TypeTree) (ps : Typeds TypeTree) {p : Plan} → plan rights f e ps ≡ Once p → f ≡ form.For → A
no_for rights e ps {p = p} d is = clash (subst (λ g. plan rights g e ps ≡ Once p) is d)
  where
    clash : {A : Type 0} {b : Bool} → Loop b ≡ Once p → A
    clash h = absurd cc

pub no_loop : {A : Type 0} {b : Bool} {p : Plan} → Loop b ≡ Once p → A
no_loop e = absurd cc
