use Rattle.std.proofs.Common.{◌≡◌, ◌∙◌, ◌+◌, ◌++◌, ◌∷◌, [], List, take, sym, ap, subst}
use Rattle.std.proofs.lemmas.List.{take_more}
use Rattle.go_typed.specs.Funcs.{FuncView}
use Rattle.escape_check.specs.Keeping.{KeepEnds}
use Rattle.escape_check.proofs.Sparing.{kept_more}
use Rattle.escape_check.proofs.keeping.ends_of.Goals as goal

pub loop-func-preserved : goal.loop-func-preserved
loop-func-preserved c =
    let table = c.args.types.now in
    let fs = c.args.functions.now in
    let i = c.loop-func.func-index in
    let f = c.func-item.result in
    let more : take i fs ++ f ∷ [] ≡ take (i + 1) fs = ap (λ (x : FuncView). take i fs ++ x ∷ []) c.func-item.is ∙ sym {A = List FuncView} (take_more fs i f c.loop-func-test.true) in
    subst (KeepEnds table (take (i + 1) fs)) (sym c.in_ok-push.ensures.items)
    (subst (λ (xs : List FuncView). KeepEnds table xs (c.loop-func.ends.items ++ c.in_ok-end_of.field-0 ∷ [])) more (kept_more table (take i fs) c.loop-func.ends.items f c.in_ok-end_of.field-0 c.loop-func.invariant c.in_ok-end_of.ensures))
