-- What is made of the parts of a node, step by step.
use Rattle.std.proofs.Common.{◌≡◌, ℕ, List, [], ◌∷◌, Bool, true, false, cond, Option, Some, None, Result, Ok, Err, refl, ap, sym, subst, ◌∙◌}
use Rattle.std.specs.Prelude.{◌&&◌, ◌||◌, not}
use Rattle.go_grammar.specs.declared.kind.Kind.{Kind}
use Rattle.go_grammar.specs.declared.kind.Kind.TheVariants as kind
use Rattle.go_exprs_rules.specs.declared.fault.TypeFault.{TypeFault}
use Rattle.go_base.specs.Gives.{Gives}
use Rattle.go_exprs_rules.specs.declared.fault.TypeError.{TypeError}
use Rattle.go_exprs_rules.specs.declared.fault.TypeError.TheVariants as errors
use Rattle.go_exprs_rules.specs.Faults.{least, earlier, sooner, judged, or_else, refusal_of}
use Rattle.go_exprs_rules.specs.Sorts.{Stands}
use Rattle.go_exprs_rules.specs.Names.{place_failing}
use Rattle.go_exprs_rules.specs.Settling.{Part}
use Rattle.go_exprs_rules.specs.Scopes.{Scope, Hint}
use Rattle.go_exprs_rules.specs.Tables.{Parts, failing, placing, sort_by, form_by, takes, all_given, is_judged, is_placed, is_sound, own_faults, made, built_by, built_on}
use Rattle.go_exprs_engine.proofs.Answers.{judged_ok, judged_err, none_least}

module _ (s : Scope) (k : Kind) (h : Hint) (i j : ℕ) (ys : Parts) where
  abbrev pub answer_on : Result Part TypeFault
  answer_on = judged (least (own_faults s k h i j ys)) (built_on s k h i j ys)

  abbrev pub at_end : Stands → Part
  at_end x = made (form_by s k h i j ys) i j x ys (all_given (takes s k h ys) ys)

  -- nodes that only hold parts have no rules
  pub no_rules : (k : Kind) → is_placed k ≡ false → failing s k h i j ys ≡ []
  no_rules kind.Name e = cc
  no_rules kind.Integer e = cc
  no_rules kind.Rune e = cc
  no_rules kind.Text e = cc
  no_rules kind.Parenthesized e = cc
  no_rules (kind.Unary o) e = cc
  no_rules (kind.Binary o) e = cc
  no_rules kind.Selector e = cc
  no_rules kind.Bracketed e = cc
  no_rules kind.Call e = cc
  no_rules kind.Composite e = cc
  no_rules kind.LiteralValue e = cc
  no_rules kind.SequenceType e = cc
  no_rules kind.FunctionType e = cc
  no_rules kind.StructType e = cc
  no_rules kind.ParenthesizedType e = cc
  no_rules k e = refl

  -- whether the rules of the node count
  abbrev pub counts : Type 0
  counts = (is_placed k && not (is_judged ys)) ≡ false

  both_parts : (p q : Bool) → (p && not q) ≡ false → (x y : List TypeFault) → (p ≡ false → x ≡ []) → (p ≡ false → y ≡ []) → cond q (or_else x y) [] ≡ or_else x y
  both_parts true true e x y f g = refl
  both_parts true false e x y f g = cc
  both_parts false true e x y f g = refl
  both_parts false false e x y f g = sym (ap (λ z. or_else z y) (f refl) ∙ g refl)

  no_place : (x : Stands) → is_placed k ≡ false → placing s k h i j x ≡ []
  no_place x e = ap (λ b. cond b (place_failing s.rights h i j x) []) e

  pub own_are : counts → own_faults s k h i j ys ≡ or_else (failing s k h i j ys) (placing s k h i j (sort_by s k h i j ys))
  own_are c = both_parts (is_placed k) (is_judged ys) c (failing s k h i j ys) (placing s k h i j (sort_by s k h i j ys)) (no_rules k) (no_place (sort_by s k h i j ys))

  pub sound_by : (p q : Bool) → (p && not q) ≡ false → (not p || (q && true)) ≡ true
  sound_by true true e = refl
  sound_by true false e = cc
  sound_by false q e = refl

  pub first_fails : (fs gs : List TypeFault) (f : TypeFault) → least fs ≡ Some f → least (or_else fs gs) ≡ Some f
  first_fails [] gs f e = cc
  first_fails (g ∷ fs) gs f e = e

  -- its own rules fail
  pub rules_fail : counts → (f : TypeFault) → judged (least (failing s k h i j ys)) (sort_by s k h i j ys) ≡ Err f → answer_on ≡ Err f
  rules_fail c f e =
      let own : least (own_faults s k h i j ys) ≡ Some f = ap least (own_are c) ∙ first_fails (failing s k h i j ys) (placing s k h i j (sort_by s k h i j ys)) f (judged_err (least (failing s k h i j ys)) (sort_by s k h i j ys) f e) in
      ap (λ o. judged o (built_on s k h i j ys)) own

  placed_end : counts → (gs : List TypeFault) → own_faults s k h i j ys ≡ gs → answer_on ≡ judged (least gs) (at_end (sort_by s k h i j ys))
  placed_end c [] e =
      ap (λ fs. judged (least fs) (built_by s k h i j ys (is_sound k ys fs))) e
      ∙ ap (λ b. let r : Result Part TypeFault = Ok (built_by s k h i j ys b) in r) (sound_by (is_placed k) (is_judged ys) c)
  placed_end c (g ∷ gs) e = ap (λ fs. judged (least fs) (built_by s k h i j ys (is_sound k ys fs))) e ∙ same_fault (least (g ∷ gs)) (some_first g (least gs)) (built_by s k h i j ys (is_sound k ys (g ∷ gs))) (at_end (sort_by s k h i j ys))
    where
      some_first : (f : TypeFault) (o : Option TypeFault) → (e : TypeFault) × (earlier (Some f) o ≡ Some e)
      some_first f None = (f, refl)
      some_first f (Some g) = (sooner f g, refl)

      same_fault : (o : Option TypeFault) → (f : TypeFault) × (o ≡ Some f) → (x y : Part) → judged o x ≡ judged o y
      same_fault o p x y = ap (λ q. judged q x) p.1 ∙ sym (ap (λ q. judged q y) p.1)

  -- none of them fails: the node stands for x, and its place is judged
  pub rules_hold : counts → (x : Stands) → judged (least (failing s k h i j ys)) (sort_by s k h i j ys) ≡ Ok x → answer_on ≡ judged (least (placing s k h i j x)) (at_end x)
  rules_hold c x e =
      let split = judged_ok (least (failing s k h i j ys)) (sort_by s k h i j ys) x e in
      let none_fails : failing s k h i j ys ≡ [] = none_least (failing s k h i j ys) split.0 in
      let own : own_faults s k h i j ys ≡ placing s k h i j (sort_by s k h i j ys) = own_are c ∙ ap (λ fs. or_else fs (placing s k h i j (sort_by s k h i j ys))) none_fails in
      placed_end c (placing s k h i j (sort_by s k h i j ys)) own ∙ ap (λ z. judged (least (placing s k h i j z)) (at_end z)) split.1

  pub on_err : {X Y : Type 0} (see : X → Part) (shown : Y → Stands) (e : TypeError) (r : Result X TypeError) → counts → Gives shown refusal_of (Err e) (judged (least (failing s k h i j ys)) (sort_by s k h i j ys)) → r ≡ Err e → Gives see refusal_of r answer_on
  on_err see shown errors.Memory r c g re = subst (λ z. Gives see refusal_of z answer_on) (sym re) tt
  on_err see shown (errors.Fault f) r c g re = subst (λ z. Gives see refusal_of z answer_on) (sym re) (rules_fail c f g)

pub counts_judged : (p q : Bool) → q ≡ true → (p && not q) ≡ false
counts_judged true true e = refl
counts_judged true false e = cc
counts_judged false q e = refl

pub counts_holder : (p q : Bool) → p ≡ false → (p && not q) ≡ false
counts_holder true q e = cc
counts_holder false q e = refl
