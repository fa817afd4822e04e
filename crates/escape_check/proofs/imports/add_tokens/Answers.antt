use Rattle.std.proofs.Common.{◌≡◌, ◌∙◌, ◌+◌, ◌||◌, ap, arith}
use Rattle.std.specs.HashSet as set
use Rattle.go_scopes_lookup.specs.Tables.{same_spot}
use Rattle.escape_check.proofs.Importing.{spot_all, spot_more}
use Rattle.escape_check.proofs.Steps.{cond-or}
use Rattle.escape_check.proofs.imports.add_tokens.Goals as goal

pub loop-token-preserved : goal.loop-token-preserved
loop-token-preserved c =
    let m = c.args.member.now in
    let i = c.loop-token.token in
    let told = c.from-first.result + c.from.result in
    let this : told ≡ m.first + i = ap (λ a. a + c.from.result) c.from-first.ensures ∙ ap (λ b. m.first + b) c.from.ensures in (
      λ file token.
          c.in_ok-insert.ensures.updates.0 (file, token)
          ∙ cond-or (same_spot (m.file, told) (file, token)) (set.contains same_spot c.loop-token.tokens (file, token))
          ∙ ap (λ k. same_spot (m.file, k) (file, token) || set.contains same_spot c.loop-token.tokens (file, token)) this
          ∙ ap (λ b. same_spot (m.file, m.first + i) (file, token) || b) (c.loop-token.invariant.0 file token)
          ∙ spot_more (set.contains same_spot c.args.tokens.now (file, token)) m.file m.first m.from i file token c.loop-token.auto.token,
      λ more. absurd (omega (arith, more, c.loop-token-test.true)),
    )

pub returns : goal.returns
returns c = λ file token.
    let m = c.args.member.now in
    c.loop-token.invariant.0 file token
    ∙ spot_all (set.contains same_spot c.args.tokens.now (file, token)) m.file m.first m.from c.loop-token.token m.upto file token
    (omega (arith, c.loop-token-test.false)) c.loop-token.auto.token-end c.loop-token.invariant.1
