use Rattle.std.proofs.Common.{ℕ, Bool, arith}
use Rattle.std.proofs.lemmas.Result.{on_ok_weaker}
use Rattle.escape_check.specs.Stretches.{means_other}
use Rattle.escape_check.specs.Written.{type_name_view}
use Rattle.escape_check.proofs.Stretching.{stretches_left, stretches_more}
use Rattle.escape_check.proofs.hidden_names.add_between.Goals as goal

pub loop-change-preserved : goal.loop-change-preserved
loop-change-preserved c =
    let test : ℕ → Bool = λ t. means_other c.args.checked.now c.args.file t (type_name_view c.args.name.now) in
    stretches_more test c.args.changes.now c.loop-change.change-index _ c.loop-change.from c.from.result c.loop-change.stretches.items c.add_stretch.new.stretches.items _ c.loop-change-test.true
    c.from.ensures c.in_ok-add_stretch.ensures c.loop-change.invariant

pub returns : goal.returns
returns c =
    let test : ℕ → Bool = λ t. means_other c.args.checked.now c.args.file t (type_name_view c.args.name.now) in
    on_ok_weaker c.add_stretch-2.result
    (λ e. stretches_left test c.args.changes.now c.loop-change.change-index c.loop-change.from c.loop-change.stretches.items c.add_stretch-2.new.stretches.items _ (omega (arith, c.loop-change-test.false)) e c.loop-change.invariant)
    c.add_stretch-2.ensures
