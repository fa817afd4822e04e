use Rattle.std.proofs.Common.{length, ap, sym, subst, ◌∙◌, arith}
use Rattle.go_types.specs.Tables.{Table}
use Rattle.go_types.specs.Changes.{first_types}
use Rattle.go_types_relations.specs.Extends.{Extends}
use Rattle.go_types_relations.proofs.Public.{extends_both}
use Rattle.go_exprs_engine.proofs.Public.{longer}
use Rattle.go_package_defs.specs.Knowledge.{outline_by, declaring}
use Rattle.go_package_defs.specs.Sources.{rounds}
use Rattle.go_package_defs.specs.Verdicts.{known}
use Rattle.go_package_rounds.specs.Held.{AllHeld}
use Rattle.go_package_rounds.specs.World.{package_in, outlines_in, specifications_in, Shows}
use Rattle.go_package_rounds.proofs.Public.{first_length, outlines_length, fits_more}
use Rattle.go_package_types.proofs.Starting.{first_open}
use Rattle.go_package_types.proofs.Undeclared.{closed_below, no_rights, bare_longer, first_stays, first_extends}
use Rattle.go_package_types.proofs.package_types.judged.Goals as goal

pub judge_in_order-requires-clause-first : goal.judge_in_order-requires-clause-first
judge_in_order-requires-clause-first c =
    let w = c.args.world.now in
    let p = package_in w in
    record {
      states = c.in_ok-start.ensures.shows;
      rights = c.requires.fresh ∙ sym (first_open p 0 w.uses.now.package_level (λ d. outline_by p d (declaring (specifications_in w) d.file d.name)));
      as_many = first_length p 0 (outlines_in w) ∙ outlines_length w;
    }

pub returns-in_err-start-clause-extends : goal.returns-in_err-start-clause-extends
returns-in_err-start-clause-extends c = first_extends c.args.size c.args.types.now c.requires.bare

pub returns-in_err-all-clause-extends : goal.returns-in_err-all-clause-extends
returns-in_err-all-clause-extends c =
    let a = c.args.types.now in
    extends_both (first_types c.args.size a) a c.judge_in_order.new.types (first_extends c.args.size a c.requires.bare) c.judge_in_order.ensures.extends

pub answer-requires-clause-fits : goal.answer-requires-clause-fits
answer-requires-clause-fits c = fits_more c.args.types.now c.judge_in_order.new.types c.count.ensures.table c.judge_in_order.ensures.extends c.args.world.now c.requires.fits

pub answer-requires-clause-held : goal.answer-requires-clause-held
answer-requires-clause-held c =
    let held = rw c.in-Some.is at c.in_ok-all.ensures.known in
    subst (AllHeld (length c.judge_in_order.new.types.shapes)) (sym c.deref.ensures.value) held

pub returns-in-Some-clause-extends : goal.returns-in-Some-clause-extends
returns-in-Some-clause-extends c =
    let a = c.args.types.now in
    let b = c.judge_in_order.new.types in
    extends_both (first_types c.args.size a) b c.answer.new.types (extends_both (first_types c.args.size a) a b (first_extends c.args.size a c.requires.bare) c.judge_in_order.ensures.extends) c.answer.ensures.grows.extends

pub returns-in-Some-clause-exact : goal.returns-in-Some-clause-exact
returns-in-Some-clause-exact c =
    let w = c.args.world.now in
    let p = package_in w in
    let os = outlines_in w in
    let shows = rw c.in-Some.is at c.in_ok-all.ensures.shows in
    c.answer.ensures.exact (known p os (rounds p)) (subst (λ xs. Shows c.judge_in_order.new.types w xs (known p os (rounds p))) (sym c.deref.ensures.value) shows)

pub returns-in-Some-clause-defined : goal.returns-in-Some-clause-defined
returns-in-Some-clause-defined c =
    let w = c.args.world.now in
    let p = package_in w in
    let os = outlines_in w in
    let shows = rw c.in-Some.is at c.in_ok-all.ensures.shows in
    c.answer.ensures.defined (known p os (rounds p)) (subst (λ xs. Shows c.judge_in_order.new.types w xs (known p os (rounds p))) (sym c.deref.ensures.value) shows)

pub cut-requires-clause-within : goal.cut-requires-clause-within
cut-requires-clause-within c =
    let more = longer c.args.types.now c.judge_in_order.new.types c.count.ensures.table c.judge_in_order.ensures.extends in
    let there = c.requires.within in
    omega (arith, more, there)

pub cut-requires-clause-closed : goal.cut-requires-clause-closed
cut-requires-clause-closed c = closed_below c.args.size c.judge_in_order.new.types (bare_longer c.args.size c.args.types.now c.judge_in_order.new.types c.requires.within c.judge_in_order.ensures.extends c.requires.bare)

pub judged_anew-requires-clause-fits : goal.judged_anew-requires-clause-fits
judged_anew-requires-clause-fits c = (c.args.types.now, c.requires.fits)

pub judged_anew-requires-clause-fresh : goal.judged_anew-requires-clause-fresh
judged_anew-requires-clause-fresh c =
    ap (λ (t : Table). t.rights) c.cut.ensures ∙ no_rights c.args.size c.judge_in_order.new.types (bare_longer c.args.size c.args.types.now c.judge_in_order.new.types c.requires.within c.judge_in_order.ensures.extends c.requires.bare)

pub returns-in-None-clause-extends : goal.returns-in-None-clause-extends
returns-in-None-clause-extends c =
    subst (λ (t : Table). Extends t c.judged_anew.new.types) (c.cut.ensures ∙ first_stays c.args.size c.args.types.now c.judge_in_order.new.types c.requires.within c.judge_in_order.ensures.extends c.requires.bare) c.judged_anew.ensures.extends
