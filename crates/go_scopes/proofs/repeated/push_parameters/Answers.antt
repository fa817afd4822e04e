use Rattle.std.proofs.Common.{◌∙◌, ◌++◌, ◌∷◌, [], refl, ap, subst, take, map}
use Rattle.go_tree.specs.Repeated.{parameter_place}
use Rattle.go_scopes.specs.Gathered.{Gathers}
use Rattle.go_scopes.specs.Views.{name_view}
use Rattle.go_scopes.proofs.Gathering.{gathers-more}
use Rattle.go_scopes.proofs.Twice.{parameters_more}
use Rattle.go_scopes.proofs.repeated.push_parameters.Goals as goal

pub loop-event-init : goal.loop-event-init
loop-event-init c = record { rest = refl; before = c.new-members.ensures c.args.unit.now.tokens.now }

pub loop-event-preserved : goal.loop-event-preserved
loop-event-preserved c =
    let ts = c.args.unit.now.tokens.now in
    let es = c.args.unit.now.events.items in
    let read = c.deref-event-items.result.now in
    let i = c.loop-event.event-index in
    let before = c.loop-event.invariant.before in
    let e = c.event-item.result in
    let out = map name_view c.loop-event.out.items in
    let told = c.in_ok-push_parameter.ensures (take i es) before ∙ ap (λ x. out ++ parameter_place (take i es) c.args.file ts x []) c.event-item.is in
    record {
      rest = parameters_more out (map name_view c.push_parameter.new.out.items) c.args.file ts i es read e c.deref-event-items.ensures.value c.loop-event-test.true told ∙ c.loop-event.invariant.rest;
      before = gathers-more c.add.new.self ts i es read e c.deref-event-items.ensures.value c.loop-event-test.true (subst (λ x. Gathers c.add.new.self ts (take i es ++ x ∷ [])) c.event-item.is (c.in_ok-add.ensures (take i es) before));
    }
