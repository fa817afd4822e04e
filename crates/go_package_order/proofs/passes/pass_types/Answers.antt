use Rattle.go_types_relations.proofs.Public.{extends_both}
use Rattle.go_package_rounds.proofs.Public.{fits_more}
use Rattle.go_package_order.proofs.passes.pass_types.Goals as goal

pub pass-requires-2-clause-fits : goal.pass-requires-2-clause-fits
pass-requires-2-clause-fits c = fits_more c.args.types.now c.pass.new.types c.count.ensures.table c.pass.ensures.extends c.args.world.now c.requires.fits

pub returns-in_err-pass-2-clause-extends : goal.returns-in_err-pass-2-clause-extends
returns-in_err-pass-2-clause-extends c = extends_both c.args.types.now c.pass.new.types c.pass-2.new.types c.pass.ensures.extends c.pass-2.ensures.extends

pub returns-in_err-settle-clause-extends : goal.returns-in_err-settle-clause-extends
returns-in_err-settle-clause-extends c = extends_both c.args.types.now c.pass.new.types c.pass-2.new.types c.pass.ensures.extends c.pass-2.ensures.extends

pub returns-clause-extends : goal.returns-clause-extends
returns-clause-extends c = extends_both c.args.types.now c.pass.new.types c.pass-2.new.types c.pass.ensures.extends c.pass-2.ensures.extends

pub returns-clause-found : goal.returns-clause-found
returns-clause-found c = c.in_ok-settle.ensures c.pass-2.new.types c.in_ok-pass-2.ensures.found
