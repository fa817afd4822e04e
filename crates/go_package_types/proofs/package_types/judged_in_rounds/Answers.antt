use Rattle.std.proofs.Common.{length, sym, subst, ◌∙◌}
use Rattle.go_types_relations.proofs.Public.{extends_both}
use Rattle.go_package_defs.specs.Knowledge.{outline_by, declaring}
use Rattle.go_package_defs.specs.Sources.{rounds}
use Rattle.go_package_defs.specs.Verdicts.{known}
use Rattle.go_package_rounds.specs.Held.{AllHeld}
use Rattle.go_package_rounds.specs.World.{package_in, outlines_in, specifications_in, Shows}
use Rattle.go_package_rounds.proofs.Public.{first_length, outlines_length, fits_more}
use Rattle.go_package_types.proofs.Starting.{first_open}
use Rattle.go_package_types.proofs.package_types.judged_in_rounds.Goals as goal

pub answer-requires-clause-fits : goal.answer-requires-clause-fits
answer-requires-clause-fits c = fits_more c.args.types.now c.rounds.new.types c.count.ensures.table c.rounds.ensures.extends c.args.world.now c.requires.fits

pub answer-requires-clause-held : goal.answer-requires-clause-held
answer-requires-clause-held c = subst (AllHeld (length c.rounds.new.types.shapes)) (sym c.deref.ensures.value) c.in_ok-all.ensures.known

pub returns-clause-extends : goal.returns-clause-extends
returns-clause-extends c = extends_both c.args.types.now c.rounds.new.types c.answer.new.types c.rounds.ensures.extends c.answer.ensures.grows.extends

pub returns-clause-exact : goal.returns-clause-exact
returns-clause-exact c =
    let a = c.args.types.now in
    let z = c.rounds.new.types in
    let w = c.args.world.now in
    let p = package_in w in
    let os = outlines_in w in
    let start : Shows a w c.in_ok-start.start.items (known p os 0) =
    record {
      states = c.in_ok-start.ensures.shows;
      rights = c.requires.fresh ∙ sym (first_open p 0 w.uses.now.package_level (λ d. outline_by p d (declaring (specifications_in w) d.file d.name)));
      as_many = first_length p 0 os ∙ outlines_length w;
    } in
    c.answer.ensures.exact (known p os (rounds p)) (subst (λ xs. Shows z w xs (known p os (rounds p))) (sym c.deref.ensures.value) (c.in_ok-all.ensures.shows start))

pub returns-clause-defined : goal.returns-clause-defined
returns-clause-defined c =
    let a = c.args.types.now in
    let z = c.rounds.new.types in
    let w = c.args.world.now in
    let p = package_in w in
    let os = outlines_in w in
    let start : Shows a w c.in_ok-start.start.items (known p os 0) =
    record {
      states = c.in_ok-start.ensures.shows;
      rights = c.requires.fresh ∙ sym (first_open p 0 w.uses.now.package_level (λ d. outline_by p d (declaring (specifications_in w) d.file d.name)));
      as_many = first_length p 0 os ∙ outlines_length w;
    } in
    c.answer.ensures.defined (known p os (rounds p)) (subst (λ xs. Shows z w xs (known p os (rounds p))) (sym c.deref.ensures.value) (c.in_ok-all.ensures.shows start))
