use Rattle.std.proofs.Common.{◌≡◌, ◌∙◌, true, sym, ap}
use Rattle.std.specs.Prelude.{◌&&◌}
use Rattle.go_tokens.specs.Spellings.{same_text}
use Rattle.go_tokens.specs.Tokens.{text_of}
use Rattle.escape_check.specs.Names.{is_identifier_token}
use Rattle.escape_check.proofs.Steps.{any_at, any_off, text_is}
use Rattle.escape_check.proofs.used.names_file.Goals as goal
use Rattle.escape_check.proofs.used.names_file.Goals.{else-is_name-via-then-is_name+else-same, else-is_name-via-else-is_name}

pub returns-then-same : goal.returns-then-same
returns-then-same c =
    let f = c.args.file.now in
    let w = c.args.name.now in
    let ts = c.tokens-tokens.result.now in
    let x = c.get.result in
    let text = ap (λ l. text_of l x) (sym c.tokens-tokens.ensures) ∙ text_is (text_of ts) _ x c.text.result.now c.get.ensures c.text.ensures in
    let named : is_identifier_token f w x ≡ true =
    ap (λ b. b && same_text (text_of f.tokens x) w) (sym c.is_identifier-is_name.ensures ∙ c.if-is_name.true)
    ∙ ap (λ t. same_text t w) text
    ∙ sym c.same.ensures
    ∙ c.if-same.true
    in
    sym (c.loop-number.invariant ∙ any_at (is_identifier_token f w) ts.tokens c.loop-number.number x c.get.ensures named)

pub loop-number-preserved : goal.loop-number-preserved
loop-number-preserved c =
    let f = c.args.file.now in
    let w = c.args.name.now in
    let ts = c.tokens-tokens.result.now in
    let x = c.get.result in
    c.loop-number.invariant
    ∙ any_off (is_identifier_token f w) ts.tokens c.loop-number.number x c.get.ensures (elim c.else-is_name.branch [
      | else-is_name-via-then-is_name+else-same v ↦
          ap (λ b. b && same_text (text_of f.tokens x) w) (sym c.is_identifier-is_name.ensures ∙ v.if-is_name.true)
          ∙ ap (λ t. same_text t w) (ap (λ l. text_of l x) (sym c.tokens-tokens.ensures) ∙ text_is (text_of ts) _ x v.text.result.now c.get.ensures v.text.ensures)
          ∙ sym v.same.ensures
          ∙ v.if-same.false
      | else-is_name-via-else-is_name v ↦ ap (λ b. b && same_text (text_of f.tokens x) w) (sym c.is_identifier-is_name.ensures ∙ v.if-is_name.false)
    ])
