use Rattle.std.proofs.Common.{◌∙◌}
use Rattle.go_tokens.specs.Spellings.{keywords}
use Rattle.escape_check.proofs.Keywords.{listed-spelled}
use Rattle.escape_check.proofs.used.is_keyword.Goals as goal

pub returns : goal.returns
unfolding keywords
returns c = c.is_listed.ensures ∙ listed-spelled keywords c.args.name.now
