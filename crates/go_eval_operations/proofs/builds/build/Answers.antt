use Rattle.std.proofs.Common.{sym, ap, ◌∙◌, [], ◌∷◌}
use Rattle.std.proofs.lemmas.Result.{IfOk-weaker}
use Rattle.go_meaning.specs.Values as meant
use Rattle.go_meaning.specs.Values.{parts_of, valued}
use Rattle.go_meaning.specs.Operations.{Gives, placed}
use Rattle.go_values.specs.Views.{views}
use Rattle.go_eval_operations.proofs.builds.build.Goals as goal

pub returns : goal.returns
returns c =
    IfOk-weaker c.of_parts.result _ _ (λ v h f w.
    sym (ap (λ u. Gives (u ∷ []) w) (h ∙ ap (λ vs. meant.Parts (valued vs)) (c.placed-built.ensures
    ∙ ap (λ ps. placed ps (views c.args.operands.items) (views c.in_ok-into_parts.field-0.items)) (c.as_slice.ensures.value ∙ c.in_ok-places.ensures f)
    ∙ ap (placed _ (views c.args.operands.items)) (c.in_ok-into_parts.ensures ∙ ap parts_of c.in_ok-zero.ensures))))) c.of_parts.ensures
