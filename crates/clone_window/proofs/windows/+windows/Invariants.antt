use Rattle.std.proofs.Common.{◌+◌, ◌*◌, drop}
use Rattle.go_typed.specs.Funcs.{size, sizes}
use Rattle.go_typed.specs.Views.{view, views}
use Rattle.clone_window.specs.Weights.{rows}
use Rattle.clone_window.proofs.Walks.{AmongLeft, AlongLeft}
use Rattle.clone_window.proofs.windows.+windows.Given as goal

abbrev pub decreases-push_windows_in : goal.decreases-push_windows_in
decreases-push_windows_in l = 2 * size (view l.node.now)

abbrev pub decreases-push_windows_among : goal.decreases-push_windows_among
decreases-push_windows_among l = 2 * sizes (views l.parts.now) + 1

abbrev pub decreases-push_windows_along : goal.decreases-push_windows_along
decreases-push_windows_along l = 2 * sizes (views l.parts.now) + 1

abbrev pub invariant-push_windows_among-loop-part : goal.invariant-push_windows_among-loop-part
invariant-push_windows_among-loop-part l =
    AmongLeft l.bounds l.func l.initial.next l.next (views l.parts) (views (drop l.part-index l.parts)) (rows l.table) l.fn.out.items l.out.items

abbrev pub invariant-push_windows_along-loop-part : goal.invariant-push_windows_along-loop-part
invariant-push_windows_along-loop-part l =
    AlongLeft l.bounds l.func l.list.number l.list.ahead (l.list.number + 1) l.next l.index (views l.parts) (views (drop l.part-index l.parts)) l.masses (rows l.table) l.fn.out.items l.out.items
