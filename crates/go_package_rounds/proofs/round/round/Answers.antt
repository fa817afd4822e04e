use Rattle.std.proofs.Common.{◌≡◌, ℕ, List, length, map, refl, ap, sym, subst, ◌∙◌}
use Rattle.go_types.specs.Tables.{Table, rights_of}
use Rattle.go_types.specs.declared.shape.Shape.{Shape}
use Rattle.go_types_relations.proofs.Public.{extends_both}
use Rattle.go_package_defs.specs.Knowledge as knowledge
use Rattle.go_package_defs.specs.Verdicts.{next_states}
use Rattle.go_package_rounds.specs.Held.{all_seen, summary, AllHeld}
use Rattle.go_package_rounds.specs.World.{package_in, outlines_in, StandsFor, KnownStandings}
use Rattle.go_package_rounds.proofs.Listed.{next_length, outlines_length}
use Rattle.go_package_rounds.proofs.Stays.{named_more, all_stay, all_more, seen_in}
use Rattle.go_package_rounds.proofs.round.round.Goals as goal

pub take_rights-requires-clause-named : goal.take_rights-requires-clause-named
take_rights-requires-clause-named c = named_more c.args.types.now c.judge_all.new.types c.count.ensures.table c.judge_all.ensures.grows.extends c.args.world.now.named.now c.requires.fits.named

pub returns-clause-extends : goal.returns-clause-extends
returns-clause-extends c = extends_both c.args.types.now c.judge_all.new.types c.take_rights.new.types c.judge_all.ensures.grows.extends c.take_rights.ensures.extends

pub returns-clause-known : goal.returns-clause-known
returns-clause-known c = subst (λ (xs : List Shape). AllHeld (length xs) c.in_ok-found.found.items) (sym c.take_rights.ensures.shapes) c.in_ok-found.ensures.known

pub returns-clause-shows : goal.returns-clause-shows
returns-clause-shows c = λ ss h.
    let a = c.args.types.now in
    let b = c.judge_all.new.types in
    let z = c.take_rights.new.types in
    let w = c.args.world.now in
    let p = package_in w in
    let os = outlines_in w in
    let hs = c.args.all.now in
    let ks = c.in_ok-found.found.items in
    let grown = c.judge_all.ensures.grows in
    let zs = next_states p os ss 0 os in
    let found : all_seen b ks ≡ map summary zs = c.in_ok-found.ensures.shows ss (subst (λ xs. StandsFor a w knowledge.is_sound xs ss) (sym c.deref.ensures.value) (c.in_ok-standings.ensures.sound ss h)) (subst (λ xs. StandsFor a w knowledge.is_told xs ss) (sym c.deref-2.ensures.value) (c.in_ok-standings.ensures.told ss h)) h.rights in
    let before : all_seen b hs ≡ map summary ss = all_stay a b c.count.ensures.table grown.extends hs c.requires.known ∙ h.states in
    record {
      states = seen_in b z ks c.take_rights.ensures.shapes ∙ found;
      rights = c.in_ok-take_rights.ensures.rights ss zs before (ap (all_seen b) c.deref-3.ensures.value ∙ found) (grown.rights ∙ h.rights);
      as_many = next_length p os ss 0 os ∙ outlines_length w;
    }

pub judge_all-requires-clause-sound : goal.judge_all-requires-clause-sound
judge_all-requires-clause-sound c = subst (KnownStandings (length c.args.types.now.shapes)) (sym c.deref.ensures.value) c.in_ok-standings.ensures.known_sound

pub judge_all-requires-clause-told : goal.judge_all-requires-clause-told
judge_all-requires-clause-told c = subst (KnownStandings (length c.args.types.now.shapes)) (sym c.deref-2.ensures.value) c.in_ok-standings.ensures.known_told
