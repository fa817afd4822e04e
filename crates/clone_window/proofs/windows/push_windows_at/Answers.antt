use Rattle.std.proofs.Common.{◌≡◌, ◌+◌, take, arith}
use Rattle.std.specs.Prelude.{sum}
use Rattle.std.proofs.lemmas.List.Sums.{sum_by_more}
use Rattle.clone_window.specs.Caps.{capped}
use Rattle.clone_window.specs.Windows.{run_at}
use Rattle.clone_window.proofs.Runs.{windows-next}
use Rattle.clone_window.proofs.windows.push_windows_at.Goals as goal

pub loop-index-preserved : goal.loop-index-preserved
loop-index-preserved c =
    let ms = c.args.masses.now in
    let i = c.loop-index.index in
    let next : c.saturating_add-sum.result ≡ capped (sum (take (i + 1) ms)) = omega (arith, sum_by_more (λ x. x) ms i 0 (omega arith)) in (
      next,
      windows-next c.args.bounds (run_at c.args.func c.args.list c.args.first) ms i c.saturating_add-sum.result c.args.out.now.items c.loop-index.out.items c.push_heavy.new.out.items
          (omega arith) next c.loop-index.invariant.1 c.in_ok-push_heavy.ensures,
    )
