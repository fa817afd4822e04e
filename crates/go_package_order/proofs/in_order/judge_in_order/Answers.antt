use Rattle.std.proofs.Common.{sym, ◌∙◌}
use Rattle.go_types_relations.proofs.Public.{extends_both}
use Rattle.go_package_rounds.proofs.Public.{held_are, fits_more}
use Rattle.go_package_rounds.specs.World.{package_in, outlines_in}
use Rattle.go_package_defs.specs.Verdicts.{known}
use Rattle.go_package_order.proofs.in_order.judge_in_order.Goals as goal

pub at_first-requires-clause-rights : goal.at_first-requires-clause-rights
at_first-requires-clause-rights c =
    let t = c.args.types.now in
    let w = c.args.world.now in
    c.requires.first.rights ∙ sym (held_are t w.uses.now.package_level c.args.first.items (known (package_in w) (outlines_in w) 0) c.requires.first.states)

pub found_again-requires-clause-fits : goal.found_again-requires-clause-fits
found_again-requires-clause-fits c = fits_more c.args.types.now c.pass_all.new.types c.count.ensures.table c.pass_all.ensures.extends c.args.world.now c.requires.fits

pub returns-in_err-all-clause-extends : goal.returns-in_err-all-clause-extends
returns-in_err-all-clause-extends c = extends_both c.args.types.now c.pass_all.new.types c.found_again.new.types c.pass_all.ensures.extends c.found_again.ensures.extends

pub returns-in_default-clause-extends : goal.returns-in_default-clause-extends
returns-in_default-clause-extends c = extends_both c.args.types.now c.pass_all.new.types c.found_again.new.types c.pass_all.ensures.extends c.found_again.ensures.extends

pub is_settled-requires : goal.is_settled-requires
is_settled-requires c = record {
  fits = fits_more c.pass_all.new.types c.found_again.new.types c.found_again.ensures.table c.found_again.ensures.extends c.args.world.now (fits_more c.args.types.now c.pass_all.new.types c.count.ensures.table c.pass_all.ensures.extends c.args.world.now c.requires.fits);
}

pub returns-in_err-is_settled-clause-extends : goal.returns-in_err-is_settled-clause-extends
returns-in_err-is_settled-clause-extends c = extends_both c.args.types.now c.pass_all.new.types c.found_again.new.types c.pass_all.ensures.extends c.found_again.ensures.extends

pub returns-then-branch-clause-extends : goal.returns-then-branch-clause-extends
returns-then-branch-clause-extends c = extends_both c.args.types.now c.pass_all.new.types c.found_again.new.types c.pass_all.ensures.extends c.found_again.ensures.extends

pub returns-clause-extends : goal.returns-clause-extends
returns-clause-extends c = extends_both c.args.types.now c.pass_all.new.types c.found_again.new.types c.pass_all.ensures.extends c.found_again.ensures.extends
