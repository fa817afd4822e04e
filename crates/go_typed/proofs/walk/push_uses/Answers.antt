use Rattle.std.proofs.Common.{◌∙◌, ◌++◌, ◌+◌, ◌-◌, ap, sym}
use Rattle.std.proofs.lemmas.List.{append_assoc}
use Rattle.go_typed.specs.Funcs.{named_at}
use Rattle.go_typed.specs.Windows.{use_at, uses_from}
use Rattle.go_typed.proofs.Walks.{next_use}
use Rattle.go_typed.proofs.walk.push_uses.Goals as goal

pub loop-token-preserved : goal.loop-token-preserved
loop-token-preserved c =
    let tokens = c.args.func.now.tokens in
    let token = c.loop-token.token in
    let here = use_at token (named_at tokens token) in
    let others = uses_from tokens (token + 1) (c.args.to - (token + 1)) in
    ap (λ us. us ++ others) c.in_ok-push_use.ensures
    ∙ append_assoc c.loop-token.uses.items here others
    ∙ ap (λ us. c.loop-token.uses.items ++ us) (sym (next_use tokens token c.args.to c.loop-token-test.true))
    ∙ c.loop-token.invariant
