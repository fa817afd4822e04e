use Rattle.std.proofs.Common.{◌∙◌, map}
use Rattle.std.specs.Option.{option_map}
use Rattle.go_typed.specs.Views.{seen}
use Rattle.escape_check.proofs.Sparing.{panic_anywhere}
use Rattle.escape_check.proofs.keeping.calls_panic.Goals as goal

pub returns : goal.returns
returns c = λ g. c.is_panic_statement.ensures ∙ panic_anywhere (record { from = 0; upto = 0 }) g (map (option_map (seen c.args.types.now)) c.args.parts.now)
