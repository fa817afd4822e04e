use Rattle.std.proofs.Common.{◌∙◌, ◌++◌, ◌∷◌, [], refl, ap, subst, take}
use Rattle.std.specs.Option.{option_map}
use Rattle.go_base.specs.declared.fault.FaultCode.TheVariants as code
use Rattle.go_tree.specs.Constants.{hidden_at}
use Rattle.go_tree.specs.Units.{word, bytes_at}
use Rattle.go_scopes.specs.Lists.{KnowsLists}
use Rattle.go_scopes.specs.Noted.{noted}
use Rattle.go_scopes.specs.Views.{failure_of}
use Rattle.go_scopes.proofs.HiddenNames.{knows_more}
use Rattle.go_scopes.proofs.HiddenPlaces.{noted_hidden}
use Rattle.go_scopes.proofs.constants.HiddenListsFileRule.note_in.Goals as goal

pub loop-event-init : goal.loop-event-init
loop-event-init c = record { rest = refl; before = c.new-lists.ensures (word c.args.unit.now.tokens.now) }

pub loop-event-preserved : goal.loop-event-preserved
loop-event-preserved c =
    let ts = c.args.unit.now.tokens.now in
    let es = c.args.unit.now.events.items in
    let read = c.deref-event-items.result.now in
    let i = c.loop-event.event-index in
    let before = c.loop-event.invariant.before in
    let e = c.event-item.result in
    let told = c.note_list-found.ensures (take i es) before ∙ ap (λ x. noted (option_map failure_of c.loop-event.found) code.Outside (hidden_at (word ts) (bytes_at c.args.file ts) (take i es) x [])) c.event-item.is in
    record {
      rest = noted_hidden code.Outside (word ts) (bytes_at c.args.file ts) (option_map failure_of c.loop-event.found) (option_map failure_of c.note_list-found.result) i es read e c.deref-event-items.ensures.value c.loop-event-test.true told ∙ c.loop-event.invariant.rest;
      before = knows_more c.add.new.self (word ts) i es read e c.deref-event-items.ensures.value c.loop-event-test.true (subst (λ x. KnowsLists c.add.new.self (word ts) (take i es ++ x ∷ [])) c.event-item.is (c.in_ok-add.ensures (take i es) before));
    }
