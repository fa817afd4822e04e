use Rattle.std.proofs.Common.{◌<◌, length, arith}
use Rattle.go_stmts_rules.proofs.Fronts.{known_of}
use Rattle.go_stmts_rules.proofs.names.constant_at.Goals as goal

pub sort_of-requires : goal.sort_of-requires
sort_of-requires c = let lt : c.args.number < length c.args.values.now = omega arith in known_of (length c.args.types.now.shapes) c.args.values.now c.args.number c.index-values-number.result lt c.index-values-number.is c.requires.values
