use Rattle.std.proofs.Common.{map, ap, ◌∙◌}
use Rattle.std.specs.Option.{option_map}
use Rattle.go_typed.specs.Views.{seen}
use Rattle.go_stmts_defs.specs.Rules.{is_first_number}
use Rattle.go_stmts_rules.proofs.Fronts.{mapped_behind}
use Rattle.go_stmts_rules.proofs.ranges.is_number_behind.Goals as goal

pub returns : goal.returns
returns c =
    let f = option_map (seen c.args.types.now) in
    c.is_first_number.ensures ∙ ap (λ ps. is_first_number (map f ps)) c.parts_behind.ensures.parts ∙ ap is_first_number (mapped_behind f c.args.count c.args.parts.now)
