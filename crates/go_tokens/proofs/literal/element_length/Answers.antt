use Rattle.go_tokens.proofs.Elements.{first_length}
use Rattle.go_tokens.proofs.literal.element_length.Goals as goal

pub returns : goal.returns
returns c = first_length c.args.quote c.args.text.now c.in_ok-read_element.field-0 c.in_ok-read_element.ensures
