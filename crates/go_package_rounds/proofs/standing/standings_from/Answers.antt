use Rattle.std.proofs.Common.{◌≡◌, length, ap, sym, subst, ◌∙◌}
use Rattle.go_needs.specs.Passing.{ArePassing}
use Rattle.go_package_defs.specs.Knowledge as knowledge
use Rattle.go_package_rounds.specs.Held.{standings_of}
use Rattle.go_package_rounds.specs.World.{package_in, specifications_in, outlines_in, StandsFor, KnownStandings}
use Rattle.go_package_rounds.proofs.Listed.{outlines_length}
use Rattle.go_package_rounds.proofs.Standings.{sound_tests, told_tests, stand_for, standings_known, seen_length}
use Rattle.go_package_rounds.proofs.standing.standings_from.Goals as goal

pub returns-clause-sound : goal.returns-clause-sound
returns-clause-sound c = λ ss h.
    let t = c.args.types.now in
    let w = c.args.world.now in
    let hs = c.args.all.now in
    let ps = c.in_ok-passing_free.passing_free.items in
    let pass : ArePassing knowledge.is_sound (outlines_in w) ss ps =
    c.in_ok-passing_free.ensures (package_in w) (specifications_in w) ss knowledge.is_sound c.requires.fits.needs h.as_many (c.deref.ensures.value ∙ c.in_ok-free.ensures ∙ sound_tests t hs ss h.states) in
    let size : length ps ≡ length hs = pass.as_many ∙ outlines_length w ∙ sym h.as_many ∙ sym (seen_length t hs ss h.states) in
    subst (λ xs. StandsFor t w knowledge.is_sound xs ss) (sym (c.in_ok-in_sound.ensures ∙ ap (standings_of c.args.all.now) c.deref-3.ensures.value)) (stand_for t w hs ss ps knowledge.is_sound h.states size pass)

pub returns-clause-told : goal.returns-clause-told
returns-clause-told c = λ ss h.
    let t = c.args.types.now in
    let w = c.args.world.now in
    let hs = c.args.all.now in
    let ps = c.in_ok-passing_told.passing_told.items in
    let pass : ArePassing knowledge.is_told (outlines_in w) ss ps =
    c.in_ok-passing_told.ensures (package_in w) (specifications_in w) ss knowledge.is_told c.requires.fits.needs h.as_many (c.deref-2.ensures.value ∙ c.in_ok-told.ensures ∙ told_tests t hs ss h.states) in
    let size : length ps ≡ length hs = pass.as_many ∙ outlines_length w ∙ sym h.as_many ∙ sym (seen_length t hs ss h.states) in
    subst (λ xs. StandsFor t w knowledge.is_told xs ss) (sym (c.in_ok-in_told.ensures ∙ ap (standings_of c.args.all.now) c.deref-4.ensures.value)) (stand_for t w hs ss ps knowledge.is_told h.states size pass)

pub returns-clause-known_sound : goal.returns-clause-known_sound
returns-clause-known_sound c = subst (KnownStandings (length c.args.types.now.shapes)) (sym (c.in_ok-in_sound.ensures ∙ ap (standings_of c.args.all.now) c.deref-3.ensures.value)) (standings_known (length c.args.types.now.shapes) c.args.all.now c.in_ok-passing_free.passing_free.items c.requires.known)

pub returns-clause-known_told : goal.returns-clause-known_told
returns-clause-known_told c = subst (KnownStandings (length c.args.types.now.shapes)) (sym (c.in_ok-in_told.ensures ∙ ap (standings_of c.args.all.now) c.deref-4.ensures.value)) (standings_known (length c.args.types.now.shapes) c.args.all.now c.in_ok-passing_told.passing_told.items c.requires.known)
