use Rattle.std.proofs.Common.{◌≡◌, ℕ, List, ◌||◌, map, drop}
use Rattle.std.specs.Borrow.{Bor}
use Rattle.std.specs.HashSet as set
use Rattle.std.specs.List.{list_any}
use Rattle.go_tokens.specs.Spellings.{same_text}
use Rattle.param_choose.specs.Locals.{Variable}
use Rattle.param_choose.specs.Shown.{variable_view}
use Rattle.escape_check.specs.Places.{local_text, sources_in}
use Rattle.escape_check.specs.Shown.{member_view}
use Rattle.escape_check.specs.Texts.{same_bytes}
use Rattle.escape_check.proofs.shadow.texts_of.Given as goal

abbrev pub invariant-loop-variable : goal.invariant-loop-variable
invariant-loop-variable l =
    let text : Variable ℕ → List ℕ = λ (v : Variable ℕ). local_text (sources_in l.checked) (member_view l.member) v.local in
    (w : Bor (List ℕ)) → (set.contains same_bytes l.texts w || list_any (λ v. same_text v w.now) (map text (map variable_view (drop l.variable-index l.variables))))
    ≡ list_any (λ v. same_text v w.now) (map text (map variable_view l.variables))
