use Rattle.std.proofs.Common.{◌∙◌, ◌+◌, ◌++◌, drop, sym, ap, arith}
use Rattle.std.proofs.lemmas.List.{append-nil, drop_all}
use Rattle.go_tree.specs.Uses.{functions_among}
use Rattle.escape_check.proofs.Members.{functions_next}
use Rattle.escape_check.proofs.member.functions_of.Goals as goal

pub loop-object-preserved : goal.loop-object-preserved
loop-object-preserved c =
    let i = c.loop-object.object-index in
    ap (λ fs. fs ++ functions_among (drop (i + 1) c.args.objects.now)) c.in_ok-push_function.ensures
    ∙ functions_next c.loop-object.functions.items c.args.objects.now i _ c.loop-object-test.true
    ∙ c.loop-object.invariant

pub returns : goal.returns
returns c =
    let fs = c.loop-object.functions.items in
    sym (append-nil fs) ∙ ap (λ ds. fs ++ functions_among ds) (sym (drop_all c.loop-object.object-index c.args.objects.now (omega (arith, c.loop-object-test.false)))) ∙ c.loop-object.invariant
