use Rattle.std.proofs.Common.{◌≡◌, length}
use Rattle.window_index.specs.Buckets.{others_in}
use Rattle.window_index.specs.Groups.{changed, rows}
use Rattle.window_index.proofs.groups.leave_each.Given as goal

abbrev pub invariant-loop-index : goal.invariant-loop-index
invariant-loop-index l = record {
  so_far : rows l.groups.items ≡ changed (others_in l.func) l.index (rows l.fn.groups.items);
  long : length l.groups.items ≡ length l.fn.groups.items;
}
