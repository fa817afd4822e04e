-- Lists of tasks.
use Rattle.std.proofs.Common.{◌≡◌, ℕ, List, [], ◌∷◌, ◌++◌, refl, ap, ◌∙◌}
use Rattle.go_typed.specs.Packages.{PackageView}
use Rattle.go_eval_machine.specs.declared.task.Task.{Task}
use Rattle.go_eval_machine.specs.Rests.{Rest, finish}
use Rattle.go_eval_machine.specs.Tasks.{task_rest, on_top, rest, IsFit, AreFit}

topped : (p : PackageView) (n : ℕ) (r : Rest) (ts : List Task) (t : Task) → on_top p n r (ts ++ t ∷ []) ≡ task_rest p n t.node.now t.base t.what (on_top p n r ts)
topped p n r [] t = refl
topped p n r (u ∷ ts) t = topped p n (task_rest p n u.node.now u.base u.what r) ts t

pub one_on_top : (p : PackageView) (n : ℕ) (ts us : List Task) (t : Task) → us ≡ ts ++ t ∷ [] → rest p n us ≡ task_rest p n t.node.now t.base t.what (rest p n ts)
one_on_top p n ts us t e = ap (rest p n) e ∙ topped p n finish ts t

pub fit_on_top : (k : ℕ) (ts : List Task) (t : Task) → IsFit k t.node.now t.what → AreFit k ts → AreFit k (ts ++ t ∷ [])
fit_on_top k [] t h a = (h, tt)
fit_on_top k (u ∷ ts) t h a = (a.0, fit_on_top k ts t h a.1)

pub fit_below : (k : ℕ) (ts : List Task) (t : Task) → AreFit k (ts ++ t ∷ []) → IsFit k t.node.now t.what × AreFit k ts
fit_below k [] t a = (a.0, tt)
fit_below k (u ∷ ts) t a = let h = fit_below k ts t a.1 in (h.0, (a.0, h.1))
