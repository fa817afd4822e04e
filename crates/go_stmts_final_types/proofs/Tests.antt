-- What rules ask of operands says that they stand for values; and what it is that no rule fails.
use Rattle.std.proofs.Common.{◌≡◌, ℕ, Bool, true, false, cond, [], ◌∷◌, ◌++◌, List, Some, None, refl, sym, ap, ◌∙◌}
use Rattle.std.specs.Prelude.{is_some, not, ◌||◌}
use Rattle.std.specs.List.{list_any}
use Rattle.go_base.specs.declared.fault.FaultCode.{FaultCode}
use Rattle.go_types.specs.Trees.{TypeTree}
use Rattle.go_types.specs.Relations.{Rights}
use Rattle.go_typed.specs.Trees.{Typed, typed, sort_of}
use Rattle.go_typed.specs.Trees as sort
use Rattle.go_exprs_rules.specs.declared.fault.TypeFault.{TypeFault}
use Rattle.go_exprs_rules.specs.Calls.{operands_unless}
use Rattle.go_exprs_rules.specs.Operators.{is_count}
use Rattle.go_exprs_rules.specs.Settling.{Part, at_part, unassignable, unassignable_by}
use Rattle.go_exprs_rules.specs.Sorts.{Stands, is_text, is_whole, is_truth, is_unknown, family_of, element_of, slice_element, form_of_value}
use Rattle.go_exprs_rules.specs.Tables.{Parts, is_lost, is_judged}
use Rattle.go_stmts_final_types.proofs.Given.{is_valued}

-- ---- faults

pub holds : (b : Bool) (xs : List TypeFault) (f : TypeFault) → cond b xs (f ∷ []) ≡ [] → (b ≡ true) × (xs ≡ [])
holds true xs f e = (refl, e)
holds false xs f e = cc

pub never_at : {X : Type 0} (c : FaultCode) (x : Part) → at_part c x ≡ [] → X
never_at c (typed f i j l ps) e = cc

pub holds_at : (b : Bool) (xs : List TypeFault) (c : FaultCode) (x : Part) → cond b xs (at_part c x) ≡ [] → (b ≡ true) × (xs ≡ [])
holds_at true xs c x e = (refl, e)
holds_at false xs c x e = never_at c x e

pub fails_not : (b : Bool) (c : FaultCode) (x : Part) → cond b (at_part c x) [] ≡ [] → b ≡ false
fails_not true c x e = never_at c x e
fails_not false c x e = refl

pub unless_holds : (b : Bool) (i j : ℕ) → operands_unless b i j ≡ [] → b ≡ true
unless_holds true i j e = refl
unless_holds false i j e = cc

pub first_none : (xs ys : List TypeFault) → xs ++ ys ≡ [] → xs ≡ []
first_none [] ys e = refl
first_none (x ∷ xs) ys e = cc

pub second_none : (xs ys : List TypeFault) → xs ++ ys ≡ [] → ys ≡ []
second_none [] ys e = e
second_none (x ∷ xs) ys e = cc

-- ---- values

-- a test that nothing unknown and no type passes
pub valued_by : (q : Stands → Bool) → q sort.Unknown ≡ false → ((t : TypeTree) → q (sort.IsType t) ≡ false) → (x : Stands) → q x ≡ true → is_valued x ≡ true
valued_by q u v sort.Unknown e = sym u ∙ e
valued_by q u v (sort.IsType t) e = sym (v t) ∙ e
valued_by q u v x e = refl

pub text_valued : (rights : Rights) (x : Stands) → is_text rights x ≡ true → is_valued x ≡ true
text_valued rights x e = valued_by (is_text rights) refl (λ t. refl) x e

pub whole_valued : (rights : Rights) (x : Stands) → is_whole rights x ≡ true → is_valued x ≡ true
whole_valued rights x e = valued_by (is_whole rights) refl (λ t. refl) x e

pub truth_valued : (rights : Rights) (x : Stands) → is_truth rights x ≡ true → is_valued x ≡ true
truth_valued rights x e = valued_by (is_truth rights) refl (λ t. refl) x e

pub count_valued : (rights : Rights) (x : Stands) → is_count rights x ≡ true → is_valued x ≡ true
count_valued rights x e = valued_by (is_count rights) refl (λ t. refl) x e

pub basic_valued : (rights : Rights) (x : Stands) → is_some (family_of rights x) ≡ true → is_valued x ≡ true
basic_valued rights x e = valued_by (λ y. is_some (family_of rights y)) refl (λ t. refl) x e

pub elements_valued : (rights : Rights) (x : Stands) → is_some (element_of (form_of_value rights x)) ≡ true → is_valued x ≡ true
elements_valued rights x e = valued_by (λ y. is_some (element_of (form_of_value rights y))) refl (λ t. refl) x e

pub slice_valued : (rights : Rights) (x : Stands) → is_some (slice_element (form_of_value rights x)) ≡ true → is_valued x ≡ true
slice_valued rights x e = valued_by (λ y. is_some (slice_element (form_of_value rights y))) refl (λ t. refl) x e

-- what is given to a variable
pub assigned_valued : (rights : Rights) (t : TypeTree) (x : Part) → is_unknown (sort_of x) ≡ false → unassignable rights t x ≡ [] → is_valued (sort_of x) ≡ true
assigned_valued rights t x u e = by (sort_of x) u e
  where
    by : (s : Stands) → is_unknown s ≡ false → unassignable_by rights t s x ≡ [] → is_valued s ≡ true
    by sort.Unknown u e = cc
    by (sort.IsType v) u e = never_at _ x e
    by s u e = refl

-- ---- parts that are known

abbrev pub AllFound : Parts → Type 0
AllFound [] = Unit {0}
AllFound (None ∷ ys) = AllFound ys
AllFound (Some y ∷ ys) = (is_unknown (sort_of y) ≡ false) × AllFound ys

none_lost : (a b : Bool) → not (a || b) ≡ true → (a ≡ false) × (b ≡ false)
none_lost true b e = cc
none_lost false true e = cc
none_lost false false e = (refl, refl)

pub judged_found : (ys : Parts) → is_judged ys ≡ true → AllFound ys
judged_found [] e = tt
judged_found (None ∷ ys) e = judged_found ys e
judged_found (Some y ∷ ys) e =
    let h = none_lost (is_unknown (sort_of y)) (list_any is_lost ys) e in (h.0, judged_found ys (ap not h.1))
