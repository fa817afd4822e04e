use Rattle.std.proofs.Common.{◌+◌, drop}
use Rattle.std.specs.HashMap.{get}
use Rattle.go_typed.specs.Views.{views}
use Rattle.clone_report.specs.Ends.{same_start, stands_by}
use Rattle.clone_report.proofs.Counted.{AmongLeft, AlongLeft}
use Rattle.clone_report.proofs.coverage.+counting.Given as goal

abbrev pub invariant-count_among-loop-part : goal.invariant-count_among-loop-part
invariant-count_among-loop-part l =
    AmongLeft (stands_by (get same_start l.ends) l.func) l.inside l.first l.behind (views l.parts) (views (drop l.part-index l.parts)) l.fn.tally l.tally

abbrev pub invariant-count_along-loop-part : goal.invariant-count_along-loop-part
invariant-count_along-loop-part l =
    AlongLeft (get same_start l.ends) l.func l.inside l.list.number l.list.ahead (l.list.number + 1) l.behind l.index l.end (views l.parts) (views (drop l.part-index l.parts)) l.fn.tally l.tally
