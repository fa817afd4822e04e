use Rattle.std.proofs.Common.{◌∙◌, map, ap}
use Rattle.std.specs.Option.{option_map}
use Rattle.go_typed.specs.Views.{seen}
use Rattle.escape_check.proofs.Parts.{listed_parts}
use Rattle.escape_check.proofs.ends.parts_of.Goals as goal

pub returns-clause-parts : goal.returns-clause-parts
returns-clause-parts c = ap (map (option_map (seen c.args.types.now))) c.deref.ensures.value ∙ listed_parts c.args.types.now c.args.node.now
