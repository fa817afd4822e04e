use Rattle.std.proofs.Common.{◌≡◌, ◌∙◌, [], chars, ap}
use Rattle.std.proofs.lemmas.Str.{chars-nil}
use Rattle.go_tokens.specs.Literals.{string_value}
use Rattle.go_tokens.proofs.value.string_value.Goals as goal

pub returns-clause-no_text : goal.returns-clause-no_text
returns-clause-no_text c broken =
    let empty : c.in_ok-text.text.items ≡ [] = c.in_ok-text.ensures ∙ ap chars (c.decoded.ensures.no_text broken) ∙ chars-nil in
    c.in_ok-value_of.ensures ∙ ap string_value (c.deref.ensures.value ∙ empty)
