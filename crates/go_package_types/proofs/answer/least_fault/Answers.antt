use Rattle.std.proofs.Common.{length, sym, subst, ◌∙◌}
use Rattle.go_types_relations.proofs.Public.{grows_both}
use Rattle.go_package_defs.specs.Knowledge as knowledge
use Rattle.go_package_rounds.specs.World.{package_in, specifications_in, outlines_in, StandsFor, KnownStandings}
use Rattle.go_package_rounds.proofs.Public.{standings_more}
use Rattle.go_package_types.specs.Known.{AreBlocked}
use Rattle.go_package_types.proofs.Environments.{faulty_are, misassigned_are}
use Rattle.go_package_types.proofs.Faulty.{tells_more, fits_grown}
use Rattle.go_package_types.proofs.answer.least_fault.Goals as goal

pub told_fault-requires-clause-known : goal.told_fault-requires-clause-known
told_fault-requires-clause-known c = subst (KnownStandings (length c.args.types.now.shapes)) (sym c.deref-3.ensures.value) c.in_ok-standings.ensures.known_sound

pub unless_told-requires-clause-fits : goal.unless_told-requires-clause-fits
unless_told-requires-clause-fits c = fits_grown c.args.types.now c.told_fault.new.types c.count.ensures.table c.told_fault.ensures.grows c.args.world.now c.requires.fits

pub unless_told-requires-clause-known : goal.unless_told-requires-clause-known
unless_told-requires-clause-known c =
    standings_more c.args.types.now c.told_fault.new.types c.count.ensures.table c.told_fault.ensures.grows.extends _
    (subst (KnownStandings (length c.args.types.now.shapes)) (sym c.deref-3.ensures.value) c.in_ok-standings.ensures.known_sound)

pub returns-clause-grows : goal.returns-clause-grows
returns-clause-grows c = grows_both c.args.types.now c.told_fault.new.types c.unless_told.new.types c.told_fault.ensures.grows c.unless_told.ensures.grows

pub returns-clause-fault : goal.returns-clause-fault
returns-clause-fault c = λ ss h.
    let a = c.args.types.now in
    let z = c.told_fault.new.types in
    let w = c.args.world.now in
    let p = package_in w in
    let os = outlines_in w in
    let ds = specifications_in w in
    let hs = c.args.all.now in
    let known = subst (KnownStandings (length a.shapes)) (sym c.deref-3.ensures.value) c.in_ok-standings.ensures.known_sound in
    let faulty = c.in_ok-faulty.ensures ∙ faulty_are a hs ss h.states in
    let assigning = c.in_ok-assigning.ensures ∙ misassigned_are a hs ss h.states in
    let stands = subst (λ xs. StandsFor a w knowledge.is_sound xs ss) (sym c.deref-3.ensures.value) (c.in_ok-standings.ensures.sound ss h) in
    let blocked = subst (AreBlocked p ds os ss) (sym c.deref-6.ensures.value) (c.in_ok-blocked.ensures ss c.requires.fits.needs h.as_many (c.deref.ensures.value ∙ faulty) (c.deref-2.ensures.value ∙ assigning)) in
    let told =
    c.in_ok-told.ensures.fault ss h (record { stands = stands; rights = h.rights; faulty = c.deref-4.ensures.value ∙ faulty; assigning = c.deref-5.ensures.value ∙ assigning; blocked = blocked; as_many = h.as_many }) in
    c.unless_told.ensures.fault ss
    (tells_more a z c.count.ensures.table c.told_fault.ensures.grows w _ ss known
    (record { stands = stands; rights = h.rights; faulty = c.deref-4.ensures.value ∙ faulty; assigning = c.deref-5.ensures.value ∙ assigning; blocked = blocked; as_many = h.as_many }))
    told
