use Rattle.std.proofs.Common.{◌-◌, ◌++◌, [], ap, sym, ◌∙◌, arith}
use Rattle.std.specs.Prelude.{if◌then◌else◌}
use Rattle.std.proofs.lemmas.Bool.{le-leb}
use Rattle.clone_window.specs.Windows.{windows_at}
use Rattle.clone_window.proofs.Runs.{windows-capped}
use Rattle.clone_window.proofs.windows.push_windows_from.Goals as goal

pub returns-in_ok-push_windows_at : goal.returns-in_ok-push_windows_at
returns-in_ok-push_windows_at c = λ ms e.
    let old = c.args.out.now.items in
    let at = c.args.index - c.args.list.ahead in
    c.in_ok-push_windows_at.ensures
    ∙ ap (λ m. old ++ windows_at c.args.bounds c.args.func c.args.list.number at m) e
    ∙ ap (λ l. old ++ l) (windows-capped c.args.bounds c.args.func c.args.list.number at ms (omega arith))
    ∙ ap (λ b. old ++ (if b then windows_at c.args.bounds c.args.func c.args.list.number at ms else [])) (sym (le-leb c.args.list.ahead c.args.index (omega arith)))
