use Rattle.std.proofs.Common.{◌≡◌, ℕ, List, length, sym, ◌∙◌, ap, eqb-true, ◌≤◌, subst, arith}
use Rattle.std.proofs.lemmas.List.{take_rest, get_or_read}
use Rattle.go_tokens.specs.Literals.{escape}
use Rattle.go_tokens.specs.Pieces.{front}
use Rattle.go_tokens.proofs.Elements.{escape_first, character_first}
use Rattle.go_tokens.proofs.First.{front_is}
use Rattle.go_tokens.proofs.Lists.{not_true}
use Rattle.go_tokens.proofs.literal.read_element.Goals as goal

pub returns-then-text-ne92 : goal.returns-then-text-ne92
returns-then-text-ne92 c =
    let text : List ℕ = c.args.text.now in
    let first : front text ≡ c.index-text-0.result = front_is text ∙ sym (get_or_read text 0 c.index-text-0.result (omega arith) c.index-text-0.is 0) in
    let here : front text ≡ c.index-text-0-then-text-ne92.result = front_is text ∙ sym (get_or_read text 0 c.index-text-0-then-text-ne92.result (omega arith) c.index-text-0-then-text-ne92.is 0) in
    character_first c.args.quote c.index-text-0-then-text-ne92.result text c.requires here (not_true _ (λ t. c.if-text-ne92.true (sym first ∙ here ∙ eqb-true _ 92 t)))

pub returns : goal.returns
returns c =
    let text : List ℕ = c.args.text.now in
    let first : front text ≡ c.index-text-0.result = front_is text ∙ sym (get_or_read text 0 c.index-text-0.result (omega arith) c.index-text-0.is 0) in
    let within = c.in_ok-escape.ensures.within in
    escape_first c.args.quote text c.in_ok-escape.escape c.requires (first ∙ c.if-text-ne92.false) (sym (c.read_escape.ensures.value ∙ ap (escape c.args.quote) (take_rest text 1)) ∙ c.in_ok-escape.was) (subst (λ l. c.in_ok-escape.escape.count ≤ length l) (take_rest text 1) within)
