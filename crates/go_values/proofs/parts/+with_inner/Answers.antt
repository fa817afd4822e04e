use Rattle.std.proofs.lemmas.Result.{IfOk-weaker}
use Rattle.go_values.specs.Views.{view}
use Rattle.go_values.proofs.Inner.{through_first}
use Rattle.go_values.proofs.parts.+with_inner.Goals as goal

pub returns-in_ok-other-in-len1-up : goal.returns-in_ok-other-in-len1-up
returns-in_ok-other-in-len1-up t c =
    let a = c.in_ok-whole-in-len1-up in
    IfOk-weaker c.with_part.result _ _ (λ v h. through_first c.args.path.now (view c.args.value) (view c.args.inner) (view a.whole) (view a.part) (view c.in_ok-other-in-len1-up.other) (view v) c.in-len1-up.len_at_least
    a.ensures.rest a.ensures.taken c.in_ok-other-in-len1-up.ensures h) c.with_part.ensures
