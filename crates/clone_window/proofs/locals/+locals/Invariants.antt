use Rattle.std.proofs.Common.{◌≡◌, ◌++◌, drop}
use Rattle.go_typed.specs.Views.{views}
use Rattle.clone_window.specs.Sameness.{all_locals}
use Rattle.clone_window.proofs.locals.+locals.Given as goal

abbrev pub invariant-push_all_locals-loop-part : goal.invariant-push_all_locals-loop-part
invariant-push_all_locals-loop-part l =
    l.fn.out.items ++ all_locals l.inside (views l.parts) ≡ l.out.items ++ all_locals l.inside (views (drop l.part-index l.parts))
