use Rattle.std.proofs.Common.{◌∙◌}
use Rattle.std.specs.Option.{option_map}
use Rattle.go_typed.specs.Views.{seen}
use Rattle.go_stmts_rules.proofs.Fronts.{no_type, type_at_first}
use Rattle.go_stmts_rules.proofs.constants.type_there.Goals as goal

pub returns-in-empty-clause-tree : goal.returns-in-empty-clause-tree
returns-in-empty-clause-tree c = no_type (option_map (seen c.args.types.now)) c.args.count c.args.parts.now c.parts_behind.result.now c.parts_behind.ensures.parts c.in-empty.len_below

pub returns-in-len1-up-clause-tree : goal.returns-in-len1-up-clause-tree
returns-in-len1-up-clause-tree c =
    c.part_type.ensures.tree ∙ type_at_first (option_map (seen c.args.types.now)) c.args.count c.args.parts.now c.parts_behind.result.now c.part-item.result c.parts_behind.ensures.parts c.in-len1-up.len_at_least c.part-item.is
