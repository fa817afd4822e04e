use Rattle.std.proofs.Common.{◌+◌, ◌*◌}
use Rattle.go_typed.specs.Funcs.{size, sizes}
use Rattle.go_typed.specs.Views.{sort_view, view, views}
use Rattle.alpha_hash.specs.Shown.{shown}
use Rattle.alpha_hash.proofs.Rows.{RowLeft, part-size}
use Rattle.alpha_hash.proofs.words.+words.Given as goal

abbrev pub decreases-push_words : goal.decreases-push_words
decreases-push_words l = 4 * size (view l.node.now)

abbrev pub decreases-push_open : goal.decreases-push_open
decreases-push_open l = 4 * sizes (views l.parts.now) + 3

abbrev pub decreases-push_row : goal.decreases-push_row
decreases-push_row l = 4 * sizes (views l.parts.now) + 2

abbrev pub decreases-push_part : goal.decreases-push_part
decreases-push_part l = 4 * part-size l.part.now + 1

abbrev pub invariant-push_row-loop-part : goal.invariant-push_row-loop-part
invariant-push_row-loop-part l = RowLeft l.names l.inside l.outline (sort_view l.owner) l.parts l.part-index l.index (shown l.fn.out.items) (shown l.out.items)
