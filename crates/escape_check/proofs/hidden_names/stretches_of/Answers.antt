use Rattle.std.proofs.Common.{arith}
use Rattle.std.specs.List.{list_any}
use Rattle.escape_check.specs.Stretches.{covers, means_other}
use Rattle.escape_check.proofs.Hiding.{name_more, names_left}
use Rattle.escape_check.proofs.hidden_names.stretches_of.Goals as goal

pub loop-name-preserved : goal.loop-name-preserved
loop-name-preserved c = λ t l.
    name_more (means_other c.args.checked.now c.args.file t) c.args.names.now c.loop-name.name-index _ (list_any (covers t) c.loop-name.stretches.items) (list_any (covers t) c.add_name.new.stretches.items) _ c.loop-name-test.true
    (c.in_ok-add_name.ensures t l) (c.loop-name.invariant t l)

pub returns : goal.returns
returns c = λ t l.
    names_left (means_other c.args.checked.now c.args.file t) c.args.names.now c.loop-name.name-index (list_any (covers t) c.loop-name.stretches.items) _ (omega (arith, c.loop-name-test.false)) (c.loop-name.invariant t l)
