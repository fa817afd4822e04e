use Rattle.std.proofs.Common.{List, length, sym, subst}
use Rattle.go_types.specs.declared.shape.Shape.{Shape}
use Rattle.go_types_relations.proofs.Public.{extends_both}
use Rattle.go_package_rounds.specs.Held.{AllHeld}
use Rattle.go_package_rounds.specs.World.{KnownStandings}
use Rattle.go_package_rounds.proofs.Public.{named_more, all_more, standings_more}
use Rattle.go_package_order.proofs.Growing.{has_more}
use Rattle.go_package_order.proofs.passes.judge_next.Goals as goal

pub judge-requires-clause-sound : goal.judge-requires-clause-sound
judge-requires-clause-sound c = subst (KnownStandings (length c.args.types.now.shapes)) (sym c.deref.ensures.value) c.requires.found.sound

pub judge-requires-clause-told : goal.judge-requires-clause-told
judge-requires-clause-told c = subst (KnownStandings (length c.args.types.now.shapes)) (sym c.deref-2.ensures.value) c.requires.found.told

pub give-requires-clause-named : goal.give-requires-clause-named
give-requires-clause-named c = named_more c.args.types.now c.judge.new.types c.count.ensures.table c.judge.ensures.grows.extends c.args.world.now.named.now c.requires.fits.named

pub give-requires-clause-rights : goal.give-requires-clause-rights
give-requires-clause-rights c = has_more c.args.types.now c.judge.new.types c.count.ensures.table c.judge.ensures.grows c.args.progress.now.rights.items c.requires.found.rights

pub returns-in_err-give-clause-extends : goal.returns-in_err-give-clause-extends
returns-in_err-give-clause-extends c = extends_both c.args.types.now c.judge.new.types c.give.new.types c.judge.ensures.grows.extends c.give.ensures.extends

pub returns-clause-found : goal.returns-clause-found
returns-clause-found c =
    let a = c.args.types.now in
    let b = c.judge.new.types in
    let z = c.give.new.types in
    let ok = c.count.ensures.table in
    let on = c.judge.ensures.grows.extends in
    let n = length b.shapes in
    let x = c.args.progress.now in
    let known = c.in_ok-known.ensures.known in
    let same = sym c.give.ensures.shapes in
    record {
      all = subst (λ (xs : List Shape). AllHeld (length xs) c.put_held.new.all.items) same (c.put_held.ensures n (all_more a b ok on x.all.items c.requires.found.all) known);
      sound = subst (λ (xs : List Shape). KnownStandings (length xs) c.put_standing.new.standings.items) same (c.put_standing.ensures n (standings_more a b ok on x.sound.items c.requires.found.sound) (c.in_ok-sound.ensures n known));
      told = subst (λ (xs : List Shape). KnownStandings (length xs) c.put_standing-2.new.standings.items) same (c.put_standing-2.ensures n (standings_more a b ok on x.told.items c.requires.found.told) (c.in_ok-told.ensures n known));
      rights = c.in_ok-give.ensures.rights;
    }
