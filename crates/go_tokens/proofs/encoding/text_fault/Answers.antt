use Rattle.std.proofs.Common.{◌+◌, ◌-◌, drop, arith}
use Rattle.go_tokens.proofs.Widths.{width_take}
use Rattle.go_tokens.proofs.encoding.text_fault.Goals as goal

pub width-length-requires : goal.width-length-requires
width-length-requires c = omega (arith, c.requires, width_take c.in-Some.index c.args.text.now, width_take ((c.in-Some.index + 1) - c.in-Some.index) (drop c.in-Some.index c.args.text.now))

pub width-requires : goal.width-requires
width-requires c = omega (arith, c.requires, width_take c.in-Some.index c.args.text.now)

pub encoding_fault-requires : goal.encoding_fault-requires
encoding_fault-requires c = omega (arith, c.requires, c.width.ensures, c.width-length.ensures, width_take c.in-Some.index c.args.text.now, width_take ((c.in-Some.index + 1) - c.in-Some.index) (drop c.in-Some.index c.args.text.now))
