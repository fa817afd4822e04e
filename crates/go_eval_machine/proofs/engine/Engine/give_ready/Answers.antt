use Rattle.std.proofs.Common.{◌≡◌, ◌∷◌, [], ℕ, Option, sym, subst}
use Rattle.std.specs.Prelude.{IfSome}
use Rattle.go_typed.specs.Packages.{PackageView}
use Rattle.go_meaning.specs.Computations.{Next}
use Rattle.go_values.specs.declared.value.Value.{Value}
use Rattle.go_values.specs.Views.{view, views}
use Rattle.go_eval_plans.specs.Machines.{outcome, ends}
use Rattle.go_eval_plans.specs.Programs.{doing}
use Rattle.go_eval_machine.proofs.Rests.{nothing_more}
use Rattle.go_eval_machine.proofs.Giving.{kept_still, part_nothing, part_gives}
use Rattle.go_eval_machine.proofs.engine.Engine.give_ready.Goals as goal

pub returns-in_default : goal.returns-in_default
returns-in_default c =
    let x = c.args.node.now in
    let k = c.args.number in
    let old = c.args.self.now in
    record {
      kept = kept_still old;
      all = [];
      values = sym (nothing_more (views old.values.items));
      is = λ p n. part_nothing p n x k c.deref.result.now c.deref.ensures.value c.in_default.ensures old.depth old.machine;
    }

pub returns-in_ok-give-in-Some-2 : goal.returns-in_ok-give-in-Some-2
returns-in_ok-give-in-Some-2 c =
    let x = c.args.node.now in
    let k = c.args.number in
    let old = c.args.self.now in
    let y = c.in-Some.asked.now in
    let ready : (p : PackageView) (n d : ℕ) → outcome (doing p n y).value d old.machine ≡ ends (Next (view c.in-Some-2.value ∷ [])) old.machine =
    subst (λ (o : Option Value). IfSome o (λ (v : Value). (p : PackageView) (n d : ℕ) → outcome (doing p n y).value d old.machine ≡ ends (Next (view v ∷ [])) old.machine)) c.in-Some-2.is c.in_ok-value.ensures in
    record {
      kept = c.in_ok-give-in-Some-2.ensures.kept;
      all = view c.in-Some-2.value ∷ [];
      values = c.in_ok-give-in-Some-2.ensures.values;
      is = λ p n. part_gives p n x k c.deref.result.now c.deref.ensures.value y c.in-Some.ensures old.depth old.machine (view c.in-Some-2.value ∷ []) (ready p n old.depth);
    }
