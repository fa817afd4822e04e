use Rattle.std.proofs.Common.{◌≡◌, suc, ◌-◌, ◌++◌, map, filter, take}
use Rattle.std.specs.Prelude.{sum}
use Rattle.std.specs.List.{range_with_len}
use Rattle.clone_window.specs.Caps.{capped}
use Rattle.clone_window.specs.Windows.{is_heavy, run_at}
use Rattle.clone_window.proofs.windows.push_windows_at.Given as goal

-- the sum so far, and the windows of at most as many statements
abbrev pub invariant-loop-index : goal.invariant-loop-index
invariant-loop-index l =
    (l.sum ≡ capped (sum (take l.index l.masses)))
    × (l.out.items ≡ l.fn.out.items ++ map (run_at l.func l.list l.first) (filter (is_heavy l.bounds l.masses) (range_with_len l.bounds.fewest (suc l.index - l.bounds.fewest))))
