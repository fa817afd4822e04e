use Rattle.go_types_relations.proofs.Public.{extends_both}
use Rattle.go_package_rounds.proofs.Public.{fits_more}
use Rattle.go_package_order.proofs.passes.pass_all.Goals as goal

pub returns-in_err-pass_group-clause-extends : goal.returns-in_err-pass_group-clause-extends
returns-in_err-pass_group-clause-extends c = extends_both c.args.types.now c.loop-group.types c.pass_group.new.types c.loop-group.invariant.0 c.pass_group.ensures.extends

pub loop-group-preserved : goal.loop-group-preserved
loop-group-preserved c = (
  extends_both c.args.types.now c.loop-group.types c.pass_group.new.types c.loop-group.invariant.0 c.pass_group.ensures.extends,
  fits_more c.loop-group.types c.pass_group.new.types c.pass_group.ensures.table c.pass_group.ensures.extends c.args.world.now c.loop-group.invariant.1,
  c.in_ok-pass_group.ensures.found,
)
