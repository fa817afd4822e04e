use Rattle.std.proofs.Common.{◌∙◌, ◌||◌, nat_eq, ap, arith}
use Rattle.std.specs.HashSet as set
use Rattle.escape_check.proofs.Steps.{cond-or, range_all, range_more}
use Rattle.escape_check.proofs.written.add_tokens.Goals as goal

pub loop-token-preserved : goal.loop-token-preserved
loop-token-preserved c =
    let i = c.loop-token.token in (
      λ t.
          c.in_ok-insert.ensures.updates.0 t
          ∙ cond-or (nat_eq i t) (set.contains nat_eq c.loop-token.tokens t)
          ∙ ap (λ b. nat_eq i t || b) (c.loop-token.invariant.0 t)
          ∙ range_more (set.contains nat_eq c.args.tokens.now t) c.args.from i t c.loop-token.auto.token,
      λ more. absurd (omega (arith, more, c.loop-token-test.true)),
    )

pub returns : goal.returns
returns c = λ t.
    c.loop-token.invariant.0 t
    ∙ range_all (set.contains nat_eq c.args.tokens.now t) c.args.from c.loop-token.token c.args.upto t (omega (arith, c.loop-token-test.false)) c.loop-token.auto.token-end c.loop-token.invariant.1
