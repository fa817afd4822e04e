use Rattle.std.proofs.Common.{◌∙◌, ◌+◌, ℕ, List, map, drop, ap}
use Rattle.std.specs.HashSet as set
use Rattle.std.specs.List.{list_any}
use Rattle.std.proofs.lemmas.List.{drop_more}
use Rattle.go_tokens.specs.Spellings.{same_text}
use Rattle.param_choose.specs.Locals.{Variable}
use Rattle.param_choose.specs.Shown.{variable_view}
use Rattle.escape_check.specs.Places.{local_text, sources_in}
use Rattle.escape_check.specs.Shown.{member_view}
use Rattle.escape_check.specs.Texts.{same_bytes}
use Rattle.escape_check.proofs.Steps.{put_more, same_told}
use Rattle.escape_check.proofs.shadow.texts_of.Goals as goal

pub loop-variable-preserved : goal.loop-variable-preserved
loop-variable-preserved c = λ w.
    let text : Variable ℕ → List ℕ = λ (v : Variable ℕ). local_text (sources_in c.args.checked.now) (member_view c.args.member.now) v.local in
    let vs = c.args.variables.now in
    let i = c.loop-variable.variable-index in
    let key = c.local_text.result in
    put_more (set.contains same_bytes c.insert.new.self w) (set.contains same_bytes c.loop-variable.texts w) (same_bytes key w) _
    (list_any (λ v. same_text v w.now) (map text (map variable_view (drop (i + 1) vs)))) (list_any (λ v. same_text v w.now) (map text (map variable_view (drop i vs))))
    (list_any (λ v. same_text v w.now) (map text (map variable_view vs))) (c.in_ok-insert.ensures.updates.0 w) (same_told key.now w.now ∙ ap (λ t. same_text t w.now) c.local_text.ensures)
    (ap (λ xs. list_any (λ v. same_text v w.now) (map text (map variable_view xs))) (drop_more vs i _ c.loop-variable-test.true)) (c.loop-variable.invariant w)
