use Rattle.std.proofs.Common.{◌+◌, sym, arith}
use Rattle.go_tokens.proofs.Widths.{width_more, width_take, width-nil}
use Rattle.go_tokens.proofs.lexer.width.Goals as goal

pub loop-c-init : goal.loop-c-init
loop-c-init c = sym width-nil

pub overflow_add-bytes : goal.overflow_add-bytes
overflow_add-bytes c = omega (arith, c.requires, c.loop-c.invariant, c.len_utf8.ensures.value, width_more c.args.text.now c.loop-c.c-index c.c-item.result (omega arith) c.c-item.is, width_take (c.loop-c.c-index + 1) c.args.text.now)

pub loop-c-preserved : goal.loop-c-preserved
loop-c-preserved c =
    let more = width_more c.args.text.now c.loop-c.c-index c.c-item.result (omega arith) c.c-item.is in
    let value = c.len_utf8.ensures.value in
    let was = c.loop-c.invariant in
    cc
