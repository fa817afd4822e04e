-- A node over its parts, where a fault doesn't end the typing.
use Rattle.std.proofs.Common.{◌≡◌, ℕ, List, [], ◌∷◌, Bool, true, false, cond, Option, Some, None, Ok, Err, refl, ap, sym, ◌∙◌}
use Rattle.std.specs.Prelude.{◌&&◌, ◌||◌, not, is_some}
use Rattle.go_grammar.specs.declared.kind.Kind.{Kind}
use Rattle.go_exprs_rules.specs.declared.fault.TypeFault.{TypeFault}
use Rattle.go_base.specs.Gives.{Gives}
use Rattle.go_exprs_rules.specs.declared.fault.TypeError.{TypeError}
use Rattle.go_exprs_rules.specs.declared.fault.TypeError.TheVariants as errors
use Rattle.go_exprs_rules.specs.Faults.{least, earlier, judged, or_else, refusal_of}
use Rattle.go_exprs_rules.specs.Names.{place_failing}
use Rattle.go_exprs_rules.specs.Sorts.{Stands}
use Rattle.go_exprs_rules.specs.Scopes.{Scope, Hint}
use Rattle.go_exprs_rules.specs.Tables.{Parts, failing, placing, sort_by, is_placed, is_judged, is_sound, own_faults, built_by, built_on}
use Rattle.go_exprs_engine.specs.OverParts.{unknown, ended, IsFault}
use Rattle.go_exprs_engine.proofs.Answers.{judged_ok, judged_err, none_least}
use Rattle.go_exprs_engine.proofs.Building.{counts, no_rules, own_are, sound_by, first_fails, at_end}

some_first : (f : TypeFault) (o : Option TypeFault) → is_some (earlier (Some f) o) ≡ true
some_first f None = refl
some_first f (Some g) = refl

both_true : (p q : Bool) → (p && not q) ≡ true → (p ≡ true) × (q ≡ false)
both_true true true e = absurd cc
both_true true false e = (refl, refl)
both_true false q e = absurd cc

module _ (s : Scope) (k : Kind) (h : Hint) (i j : ℕ) (ys : Parts) where
  -- the place refuses it
  pub refused : (x : Stands) (gs : List TypeFault) (f : TypeFault) → Some f ≡ least gs → unknown s k h i j ys ≡ ended s k h i j ys x gs
  refused x [] f e = absurd cc
  refused x (g ∷ gs) f e = refl

  -- or takes it
  pub taken : (x : Stands) (gs : List TypeFault) → None ≡ least gs → at_end s k h i j ys x ≡ ended s k h i j ys x gs
  taken x [] e = refl
  taken x (g ∷ gs) e = let wrong : false ≡ true = ap is_some e ∙ some_first g (least gs) in absurd cc

  unsound_by : (p q : Bool) → p ≡ true → (not p || (q && false)) ≡ false
  unsound_by true true e = refl
  unsound_by true false e = refl
  unsound_by false q e = absurd cc

  -- nodes that only hold parts have no rules
  placed_by : counts s k h i j ys → (b : Bool) → is_placed k ≡ b → (g : TypeFault) (gs : List TypeFault) → own_faults s k h i j ys ≡ g ∷ gs → is_placed k ≡ true
  placed_by c true p g gs e = p
  placed_by c false p g gs e =
      let x = sort_by s k h i j ys in
      let nothing : own_faults s k h i j ys ≡ [] = own_are s k h i j ys c ∙ ap (λ fs. or_else fs (placing s k h i j x)) (no_rules s k h i j ys k p) ∙ ap (λ b. cond b (place_failing s.rights h i j x) []) p in
      let wrong : [] ≡ g ∷ gs = sym nothing ∙ e in
      absurd cc

  ends : counts s k h i j ys → (gs : List TypeFault) → own_faults s k h i j ys ≡ gs → (x : Stands) → sort_by s k h i j ys ≡ x → built_on s k h i j ys ≡ ended s k h i j ys x gs
  ends c [] e x is =
      ap (λ fs. built_by s k h i j ys (is_sound k ys fs)) e ∙ ap (built_by s k h i j ys) (sound_by s k h i j ys (is_placed k) (is_judged ys) c) ∙ ap (at_end s k h i j ys) is
  ends c (g ∷ gs) e x is =
      ap (λ fs. built_by s k h i j ys (is_sound k ys fs)) e ∙ ap (built_by s k h i j ys) (unsound_by (is_placed k) (is_judged ys) (placed_by c (is_placed k) refl g gs e))

  -- none of its rules fails: it stands for x, and its place is judged
  pub rules_hold : counts s k h i j ys → (x : Stands) → judged (least (failing s k h i j ys)) (sort_by s k h i j ys) ≡ Ok x
      → (own_faults s k h i j ys ≡ placing s k h i j x) × (built_on s k h i j ys ≡ ended s k h i j ys x (placing s k h i j x))
  rules_hold c x e =
      let split = judged_ok (least (failing s k h i j ys)) (sort_by s k h i j ys) x e in
      let none_fails : failing s k h i j ys ≡ [] = none_least (failing s k h i j ys) split.0 in
      let own : own_faults s k h i j ys ≡ placing s k h i j x =
      own_are s k h i j ys c ∙ ap (λ fs. or_else fs (placing s k h i j (sort_by s k h i j ys))) none_fails ∙ ap (placing s k h i j) split.1 in
      (own, ends c (placing s k h i j x) own x split.1)

  unknown_if : counts s k h i j ys → (f : TypeFault) (fs : List TypeFault) → own_faults s k h i j ys ≡ fs → least fs ≡ Some f → built_on s k h i j ys ≡ unknown s k h i j ys
  unknown_if c f [] e l = absurd cc
  unknown_if c f (g ∷ gs) e l = ends c (g ∷ gs) e (sort_by s k h i j ys) refl

  -- one fails
  pub rules_fail : counts s k h i j ys → (f : TypeFault) → judged (least (failing s k h i j ys)) (sort_by s k h i j ys) ≡ Err f
      → (least (own_faults s k h i j ys) ≡ Some f) × (built_on s k h i j ys ≡ unknown s k h i j ys)
  rules_fail c f e =
      let x = sort_by s k h i j ys in
      let own : least (own_faults s k h i j ys) ≡ Some f = ap least (own_are s k h i j ys c) ∙ first_fails s k h i j ys (failing s k h i j ys) (placing s k h i j x) f (judged_err (least (failing s k h i j ys)) x f e) in
      (own, unknown_if c f (own_faults s k h i j ys) refl own)

  pub error_fails : {Y : Type 0} (shown : Y → Stands) → counts s k h i j ys → (e : TypeError) (o : Option TypeFault) → IsFault e o → Gives shown refusal_of (Err e) (judged (least (failing s k h i j ys)) (sort_by s k h i j ys))
      → (o ≡ least (own_faults s k h i j ys)) × (unknown s k h i j ys ≡ built_on s k h i j ys)
  error_fails shown c errors.Memory o is g = absurd is
  error_fails shown c (errors.Fault f) o is g = let r = rules_fail c f g in (is ∙ sym r.0, sym r.1)
