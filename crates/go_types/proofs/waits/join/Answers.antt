use Rattle.std.proofs.Common.{◌≡◌, ◌≤◌, ◌+◌, Some, length, get_or, sym, ◌∙◌, arith}
use Rattle.std.specs.Prelude.{slice_get, count_by}
use Rattle.std.proofs.lemmas.Option.{slice_get-get_or}
use Rattle.go_types.specs.Waiting.{is_for}
use Rattle.go_types.proofs.Waiters.{counted_joined, count_fits}
use Rattle.go_types.proofs.waits.join.Goals as goal

count : (c : goal.After-slice_known-1) → slice_get c.args.counts.now c.args.part ≡ Some (get_or c.args.counts.now c.args.part 0)
count c = let many = c.requires.counted.as_many in let low = c.requires.part in slice_get-get_or c.args.counts.now c.args.part 0 (omega arith)

pub overflow_add-counts : goal.overflow_add-counts
overflow_add-counts c =
    let total = sym (count c) ∙ c.requires.counted.counts_are c.args.part c.requires.part in
    let same : get_or c.args.counts.now c.args.part 0 ≡ count_by (is_for c.args.part) c.args.awaited.now = cc in
    let fits : count_by (is_for c.args.part) c.args.awaited.now + 1 ≤ length c.args.awaited.now = count_fits c.args.awaited.now c.args.a c.args.part c.requires.free in
    omega arith

pub returns-clause-counted : goal.returns-clause-counted
returns-clause-counted c = counted_joined c.args.awaited.now c.args.counts.now c.args.a c.args.part (get_or c.args.counts.now c.args.part 0) c.requires.counted c.requires.free c.requires.part (count c)
