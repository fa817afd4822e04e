use Rattle.std.proofs.Common.{◌++◌, List, [], ◌∷◌, ap, ◌∙◌}
use Rattle.go_meaning.specs.Values as meant
use Rattle.go_values.specs.declared.value.Value.{NilFunction}
use Rattle.go_values.specs.Views.{views}
use Rattle.go_values.proofs.Public.{views_push, one_more, view_nil}
use Rattle.go_eval_plans.proofs.calls.nils.Goals as goal

pub loop-i-preserved : goal.loop-i-preserved
loop-i-preserved c =
    let l = c.loop-i in
    ap views c.in_ok-push.ensures.items ∙ (views_push l.values.items NilFunction ∙ (ap (λ (v : meant.Value). views l.values.items ++ v ∷ []) view_nil
    ∙ (ap (λ (vs : List meant.Value). vs ++ meant.NilFunction ∷ []) l.invariant ∙ one_more [] l.i meant.NilFunction)))
