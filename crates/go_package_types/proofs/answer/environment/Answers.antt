use Rattle.std.proofs.Common.{length, map, refl, ap, sym, subst, ◌∙◌}
use Rattle.std.specs.Prelude.{slice_get}
use Rattle.go_types.specs.Tables.{type_of}
use Rattle.go_typed.specs.Scopes.{EnvView}
use Rattle.go_typed.specs.Trees.{sort_mapped}
use Rattle.go_typed.specs.Views.{sort_view}
use Rattle.go_package_rounds.proofs.Public.{held_are}
use Rattle.go_package_types.specs.Answers.{environment_seen, HaveRights}
use Rattle.go_package_types.proofs.Environments.{stands_are, all_there, stands_known}
use Rattle.go_package_types.proofs.answer.environment.Goals as goal

pub returns-clause-seen : goal.returns-clause-seen
returns-clause-seen c = λ ss h.
    let t = c.args.types.now in
    let objects = ap (λ xs. map (sort_mapped (type_of t.shapes)) (map sort_view xs)) c.in_ok-sorts.ensures ∙ stands_are t c.args.all.now ss h.states in
    ap (environment_seen t) c.new.ensures ∙ (λ i. record { rights = h.rights i; objects = objects i })

pub returns-clause-defined : goal.returns-clause-defined
returns-clause-defined c = λ ss h.
    let t = c.args.types.now in
    let hs = c.args.all.now in
    let ds = c.args.world.now.uses.now.package_level in
    let have = subst (λ xs. HaveRights xs hs) c.package_objects-objects.ensures.objects (c.if-not-are_defined.ensures refl) in
    all_there t ds hs have (h.rights ∙ sym (held_are t ds hs ss h.states))

pub returns-clause-known : goal.returns-clause-known
returns-clause-known c = λ j x e.
    let there = ap (λ (v : EnvView). slice_get v.objects j) c.new.ensures ∙ ap (λ xs. slice_get (map sort_view xs) j) c.in_ok-sorts.ensures in
    stands_known (length c.args.types.now.shapes) c.args.all.now c.requires.held j x (sym there ∙ e)
