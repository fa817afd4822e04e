use Rattle.go_stmts_calls.proofs.Taking.{call_takes}
use Rattle.go_stmts_calls.proofs.laws.calls_take_the_place.Goals as goal

pub returns : goal.returns
returns c p q m l s t front old olds d results w =
    call_takes c.statements_leave_the_rest.ensures c.declared_locals_stand.ensures c.frames_stay_related_behind_statements.ensures.behind c.frames_stay_related_behind_statements.ensures.shared c.calls_are_typed.ensures
    c.calls_are_read_alike.ensures c.calls_are_read_in_place.ensures p q m l s t front old olds d results w
