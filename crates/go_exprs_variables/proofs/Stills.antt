-- Trees in which no variable takes a place are typed the same.
use Rattle.std.proofs.Common.{◌≡◌, ◌∙◌, true, false, refl, sym, ap}
use Rattle.go_grammar.specs.declared.kind.Category.{Category}
use Rattle.go_grammar.specs.Trees.{Tree}
use Rattle.go_types.specs.Relations.{Rights}
use Rattle.go_typed.specs.Trees.{Sort}
use Rattle.go_typed.specs.Trees as sort
use Rattle.go_exprs_rules.specs.Scopes.{Scope, Hint}
use Rattle.go_exprs_rules.specs.Sorts.{Stands, is_constant}
use Rattle.go_exprs_rules.specs.Typing.{typing, faults}
use Rattle.clone_window.specs.Masses as masses
use Rattle.go_exprs_variables.specs.Shapes.{IsShaped}
use Rattle.go_exprs_variables.specs.Variables.{Standins, StandsIn, no_rule_fails, IsTypedWithVariables}
use Rattle.go_exprs_variables.proofs.Agreeing.{typing_agrees}
use Rattle.go_exprs_variables.proofs.Away.{begun_nothing}
use Rattle.go_exprs_variables.proofs.Quiet.{is_silent}
use Rattle.go_exprs_variables.proofs.Same.{same_tree, typed_same, faults_kept}
use Rattle.go_exprs_variables.proofs.Standing.{Still}

pub still_typed : (w : Standins) (s t : Scope) (h : Hint) (c : Category) (x : Tree) → IsShaped c x → StandsIn w s t → Still w s h x → no_rule_fails (faults s h x) ≡ true → IsTypedWithVariables w s t h x
still_typed w s t h c x e st still f = record {
  typed = ap (typing t h) (same_tree w x still.0) ∙ typed_same w s t h x st still.0 ∙ sym (begun_nothing w false (typing s h x) (typing_agrees s h c x e) still.1);
  failing = ap (λ z. no_rule_fails (faults t h z)) (same_tree w x still.0) ∙ ap no_rule_fails (faults_kept w s t h x st still.0) ∙ f;
}

pub constant_tests : (z : Stands) → is_constant z ≡ true → masses.is_constant z ≡ true
constant_tests (sort.Constant t c) e = refl
constant_tests (sort.OpenConstant c) e = refl
constant_tests z e = cc

pub constant_calls : (rights : Rights) (z : Stands) → is_constant z ≡ true → is_silent rights z ≡ true
constant_calls rights (sort.Constant t c) e = refl
constant_calls rights (sort.OpenConstant c) e = refl
constant_calls rights z e = cc
