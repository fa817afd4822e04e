use Rattle.std.proofs.Common.{◌++◌, [], ◌∷◌, ap, ◌∙◌}
use Rattle.go_values.specs.Views.{view, views}
use Rattle.go_values.proofs.Rows.{views_push, one_more, none_more}
use Rattle.go_values.proofs.lists.filled.Goals as goal

pub loop-i-init : goal.loop-i-init
loop-i-init c = none_more (views c.args.values.items) (view c.args.filler.now)

pub loop-i-preserved : goal.loop-i-preserved
loop-i-preserved c =
    let l = c.loop-i in
    ap views c.in_ok-push.ensures.items ∙ views_push l.filled.items c.in_ok-copy.copy ∙ ap (λ v. views l.filled.items ++ v ∷ []) c.in_ok-copy.ensures
    ∙ ap (λ vs. vs ++ view c.args.filler.now ∷ []) l.invariant ∙ one_more (views c.args.values.items) l.i (view c.args.filler.now)
