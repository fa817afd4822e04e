use Rattle.std.proofs.Common.{◌∙◌, map}
use Rattle.std.specs.Option.{option_map}
use Rattle.go_typed.specs.Views.{seen}
use Rattle.escape_check.proofs.Sparing.{default_anywhere}
use Rattle.escape_check.proofs.keeping.has_default_clause.Goals as goal

pub returns : goal.returns
returns c = λ g. c.has_default.ensures ∙ default_anywhere (record { from = 0; upto = 0 }) g (map (option_map (seen c.args.types.now)) c.args.clauses.now)
