use Rattle.std.proofs.Common.{◌≡◌, ◌<◌, Some, None, length, get_or, ap, sym, ◌∙◌, arith}
use Rattle.std.specs.Prelude.{slice_get, count_by}
use Rattle.std.proofs.lemmas.Option.{slice_get-get_or}
use Rattle.go_types.specs.Waiting.{is_for}
use Rattle.go_types.proofs.Waiters.{counted_left, count_left}
use Rattle.go_types.proofs.waits.leave.Goals as goal

there : (c : goal.After-slice_known-1) → slice_get c.args.awaited.now c.args.a ≡ Some (Some c.in-Some.part)
there c = slice_get-get_or c.args.awaited.now c.args.a None c.requires.place ∙ ap Some c.in-Some.is

low : (c : goal.After-slice_known-1) → c.in-Some.part < length c.args.counts.now
low c =
    let within = c.requires.counted.within c.args.a c.in-Some.part (there c) in
    let many = c.requires.counted.as_many in
    omega arith

count : (c : goal.After-slice_known-1) → slice_get c.args.counts.now c.in-Some.part ≡ Some (get_or c.args.counts.now c.in-Some.part 0)
count c = slice_get-get_or c.args.counts.now c.in-Some.part 0 (low c)

pub bounds-counts-part-in-Some : goal.bounds-counts-part-in-Some
bounds-counts-part-in-Some c = low c

pub overflow_sub-counts : goal.overflow_sub-counts
overflow_sub-counts c =
    let total = sym (count c) ∙ c.requires.counted.counts_are c.in-Some.part (c.requires.counted.within c.args.a c.in-Some.part (there c)) in
    let same : get_or c.args.counts.now c.in-Some.part 0 ≡ count_by (is_for c.in-Some.part) c.args.awaited.now = cc in
    let left = count_left c.args.awaited.now c.args.a c.in-Some.part (there c) in
    omega arith

pub returns-in-Some-clause-counted : goal.returns-in-Some-clause-counted
returns-in-Some-clause-counted c = counted_left c.args.awaited.now c.args.counts.now c.args.a c.in-Some.part (get_or c.args.counts.now c.in-Some.part 0) c.requires.counted (there c) (count c)
