use Rattle.std.proofs.Common.{◌≡◌, map, sym, subst, ◌∙◌}
use Rattle.std.specs.Option.{option_map}
use Rattle.std.proofs.lemmas.Result.{IfOk-weaker}
use Rattle.go_tree.specs.Failures.{least, least_from}
use Rattle.go_scopes.specs.Views.{failure_of}
use Rattle.go_needs.specs.Passing.{ArePassing}
use Rattle.go_package_defs.specs.Answer.{all_failures, mains_from}
use Rattle.go_package_defs.specs.Knowledge as knowledge
use Rattle.go_package_rounds.specs.Held.{all_seen, summary}
use Rattle.go_package_rounds.specs.World.{package_in, specifications_in, outlines_in}
use Rattle.go_package_rounds.proofs.Public.{sound_tests, all_more, all_stay}
use Rattle.go_package_types.proofs.answer.told_fault.Goals as goal

pub note_mains-requires : goal.note_mains-requires
note_mains-requires c = all_more c.args.types.now c.specifications_fault.new.types c.count.ensures.table c.specifications_fault.ensures.grows.extends c.args.all.now c.requires.held

pub returns-clause-fault : goal.returns-clause-fault
returns-clause-fault c = λ ss h k.
    let a = c.args.types.now in
    let z = c.specifications_fault.new.types in
    let w = c.args.world.now in
    let p = package_in w in
    let os = outlines_in w in
    let ds = specifications_in w in
    let hs = c.args.all.now in
    let found = c.in_ok-found.ensures.fault ss k in
    let pass : ArePassing knowledge.is_sound os ss c.in_ok-passing.passing.items =
    c.in_ok-passing.ensures p ds ss knowledge.is_sound c.requires.fits.needs h.as_many (c.deref.ensures.value ∙ c.in_ok-sound.ensures ∙ sound_tests a hs ss h.states) in
    let states : all_seen z hs ≡ map summary ss = all_stay a z c.count.ensures.table c.specifications_fault.ensures.grows.extends hs c.requires.held ∙ h.states in
    let o = option_map failure_of c.in_ok-found.found in
    IfOk-weaker c.note_mains.result (λ f. option_map failure_of f ≡ least_from o (mains_from p os ss 0 p.uses.package_level)) (λ f. option_map failure_of f ≡ least (all_failures p os ss ds)) (λ f e. e ∙ found)
    (c.note_mains.ensures ss states (subst (ArePassing knowledge.is_sound os ss) (sym c.deref-2.ensures.value) pass))
