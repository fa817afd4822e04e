use Rattle.std.proofs.Common.{◌≡◌, length, refl, ap, sym, subst, ◌∙◌}
use Rattle.go_types_relations.proofs.Public.{grows_both, tree_stays}
use Rattle.go_package_defs.specs.Knowledge as knowledge
use Rattle.go_package_defs.specs.Knowledge.{free_scope, told_scope}
use Rattle.go_package_defs.specs.Verdicts.{own_type}
use Rattle.go_declarations.specs.Views.{specification_view}
use Rattle.go_package_rounds.specs.World.{package_in, outlines_in}
use Rattle.go_package_rounds.proofs.Judged.{type_shown}
use Rattle.go_package_rounds.proofs.Stays.{below, fits_more, standings_more, stand_more, right_more, right_stays}
use Rattle.go_package_rounds.proofs.judge.judge_type.Goals as goal

pub fault_of-requires-clause-fits : goal.fault_of-requires-clause-fits
fault_of-requires-clause-fits c = fits_more c.args.types.now c.right_of.new.types c.count.ensures.table c.right_of.ensures.grows.extends c.args.world.now c.requires.fits

pub fault_of-requires-clause-known : goal.fault_of-requires-clause-known
fault_of-requires-clause-known c = standings_more c.args.types.now c.right_of.new.types c.count.ensures.table c.right_of.ensures.grows.extends c.args.sound.now c.requires.sound

pub returns-in_err-fault-clause-grows : goal.returns-in_err-fault-clause-grows
returns-in_err-fault-clause-grows c = grows_both c.args.types.now c.right_of.new.types c.fault_of.new.types c.right_of.ensures.grows c.fault_of.ensures.grows

pub returns-clause-grows : goal.returns-clause-grows
returns-clause-grows c = grows_both c.args.types.now c.right_of.new.types c.fault_of.new.types c.right_of.ensures.grows c.fault_of.ensures.grows

pub returns-clause-known : goal.returns-clause-known
returns-clause-known c =
    let a = c.args.types.now in
    let b = c.right_of.new.types in
    let z = c.fault_of.new.types in
    let one = c.right_of.ensures.grows in
    let two = c.fault_of.ensures.grows in
    let both = grows_both a b z one two in
    record { right = right_more b z one.table two.extends c.in_ok-right.right c.in_ok-right.ensures.known; stands = below a z c.count.ensures.table both.extends c.in_ok-named.named c.in_ok-named.ensures.known }

pub returns-clause-shows : goal.returns-clause-shows
returns-clause-shows c = λ ss sound told rights.
    let a = c.args.types.now in
    let b = c.right_of.new.types in
    let z = c.fault_of.new.types in
    let w = c.args.world.now in
    let p = package_in w in
    let os = outlines_in w in
    let d = specification_view c.args.specification.now in
    let xs = c.args.sound.now in
    let ok = c.count.ensures.table in
    let one = c.right_of.ensures.grows in
    let two = c.fault_of.ensures.grows in
    let both = grows_both a b z one two in
    type_shown z c.in_ok-right.right c.in_ok-named.named c.in_ok-fault.fault (own_type p c.args.number) (told_scope p os ss d) (free_scope p os ss d) d
    (right_stays b z one.table two.extends c.in_ok-right.right c.in_ok-right.ensures.known ∙ c.in_ok-right.ensures.right ss told rights)
    (tree_stays a z ok both.extends c.in_ok-named.named c.in_ok-named.ensures.known ∙ c.in_ok-named.ensures.is)
    (c.in_ok-fault.ensures.fault ss (stand_more a b ok one.extends w knowledge.is_sound xs ss c.requires.sound sound) (one.rights ∙ rights))
