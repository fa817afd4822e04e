use Rattle.std.proofs.Common.{◌≡◌, ◌<◌, List, ℕ, Option, IfNone, None, Ok, sym, ap, subst, ◌∙◌}
use Rattle.std.proofs.lemmas.Result.{err_from_is_err_and}
use Rattle.clone_script.specs.Grammar.{IsBeginning}
use Rattle.clone_server.specs.Taking.{Taken, Finds, Gets, consumed}
use Rattle.clone_server.proofs.Comings.{Came, comes_found, comes_end, comes_more, comes_none}
use Rattle.clone_server.proofs.intake.Intake.next.Goals as goal

-- nothing was found in the pending bytes, which are as they were
same_pending : (old now middle : Taken) (left : List ℕ) (after : Option (List ℕ)) → middle ≡ now → Came old left now after → Came old left middle after
same_pending old now middle left after e c = subst (λ (t : Taken). Came old left t after) (sym e) c

begun : (now middle : Taken) → Finds now (Ok None) middle → IsBeginning middle.pending
begun now middle f = subst (λ (t : Taken). IsBeginning t.pending) (sym f.1) f.0

pub returns-in-Some-clause-told : goal.returns-in-Some-clause-told
returns-in-Some-clause-told g c left is =
    comes_found c.args.self.now left c.loop-step.self (g.S.Source.left c.loop-step.script) c.in-Some.step c.find.new.self c.find.ensures.before (c.loop-step.invariant.told left is)
    (subst (λ o. Finds c.loop-step.self (Ok o) c.find.new.self) c.in-Some.is c.in_ok-step.ensures.found)

pub returns-in_err-end-clause-told : goal.returns-in_err-end-clause-told
returns-in_err-end-clause-told g c left is =
    let p = err_from_is_err_and c.from_residual-in_err-end.result c.from_residual-in_err-end.ensures.1 in
    let f = subst (λ o. Finds c.loop-step.self (Ok o) c.find.new.self) c.in-None.is c.in_ok-step.ensures.found in
    let came = same_pending c.args.self.now c.loop-step.self c.find.new.self left (g.S.Source.left c.loop-step.script) f.1 (c.loop-step.invariant.told left is) in
    rw (p.1, p.2) (comes_none c.args.self.now left c.find.new.self (g.S.Source.left c.loop-step.script) c.in_err-end.field-0.0 c.take_more.new.self (g.S.Source.left c.take_more.new.script) came
    (begun c.loop-step.self c.find.new.self f) (c.in_err-end.ensures.told came.rest came.told))

pub returns-in-Some-2-clause-told : goal.returns-in-Some-2-clause-told
returns-in-Some-2-clause-told g c left is =
    let f = subst (λ o. Finds c.loop-step.self (Ok o) c.find.new.self) c.in-None.is c.in_ok-step.ensures.found in
    let came = same_pending c.args.self.now c.loop-step.self c.find.new.self left (g.S.Source.left c.loop-step.script) f.1 (c.loop-step.invariant.told left is) in
    comes_end c.args.self.now left c.find.new.self (g.S.Source.left c.loop-step.script) c.in-Some-2.end c.take_more.new.self (g.S.Source.left c.take_more.new.script) c.find.ensures.within.1 came
    (begun c.loop-step.self c.find.new.self f)
    (subst (λ o. Gets c.find.new.self came.rest (Ok o) c.take_more.new.self (g.S.Source.left c.take_more.new.script)) c.in-Some-2.is (c.in_ok-end.ensures.told came.rest came.told))

pub loop-step-preserved : goal.loop-step-preserved
loop-step-preserved g c =
    let f = subst (λ o. Finds c.loop-step.self (Ok o) c.find.new.self) c.in-None.is c.in_ok-step.ensures.found in
    record {
      count = c.in_ok-end.ensures.count ∙ c.loop-step.invariant.count;
      consumed = (subst (λ o. IfNone o ((c.find.new.self.count < c.take_more.new.self.count) × (consumed c.take_more.new.self ≡ consumed c.find.new.self))) c.in-None-2.is c.in_ok-end.ensures.grows).1
          ∙ ap consumed f.1 ∙ c.loop-step.invariant.consumed;
      told = λ left is.
          let came = same_pending c.args.self.now c.loop-step.self c.find.new.self left (g.S.Source.left c.loop-step.script) f.1 (c.loop-step.invariant.told left is) in
          comes_more c.args.self.now left c.find.new.self (g.S.Source.left c.loop-step.script) c.take_more.new.self (g.S.Source.left c.take_more.new.script) came
          (subst (λ o. Gets c.find.new.self came.rest (Ok o) c.take_more.new.self (g.S.Source.left c.take_more.new.script)) c.in-None-2.is (c.in_ok-end.ensures.told came.rest came.told));
    }
