use Rattle.go_types_relations.proofs.Public.{extends_both}
use Rattle.go_package_rounds.proofs.Public.{fits_more}
use Rattle.go_package_order.proofs.passes.pass.Goals as goal

pub returns-in_err-judge_next-clause-extends : goal.returns-in_err-judge_next-clause-extends
returns-in_err-judge_next-clause-extends c = extends_both c.args.types.now c.loop-number.types c.judge_next.new.types c.loop-number.invariant.0 c.judge_next.ensures.extends

pub loop-number-preserved : goal.loop-number-preserved
loop-number-preserved c = (
  extends_both c.args.types.now c.loop-number.types c.judge_next.new.types c.loop-number.invariant.0 c.judge_next.ensures.extends,
  fits_more c.loop-number.types c.judge_next.new.types c.judge_next.ensures.table c.judge_next.ensures.extends c.args.world.now c.loop-number.invariant.1,
  c.in_ok-judge_next.ensures.found,
)
