use Rattle.std.proofs.Common.{◌≡◌, ℕ, List, map, drop}
use Rattle.std.specs.Prelude.{◌||◌}
use Rattle.std.specs.Borrow.{Bor}
use Rattle.std.specs.HashSet as set
use Rattle.std.specs.List.{list_any}
use Rattle.go_tokens.specs.Spellings.{same_text}
use Rattle.escape_check.specs.Places.{local_text, sources_in}
use Rattle.escape_check.specs.Shown.{member_view}
use Rattle.escape_check.specs.Texts.{same_bytes}
use Rattle.escape_check.proofs.site.texts_of.Given as goal

abbrev pub invariant-loop-local : goal.invariant-loop-local
invariant-loop-local l =
    let text : ℕ → List ℕ = local_text (sources_in l.checked) (member_view l.member) in
    (w : Bor (List ℕ)) → (set.contains same_bytes l.texts w || list_any (λ v. same_text v w.now) (map text (drop l.local-index l.locals)))
    ≡ list_any (λ v. same_text v w.now) (map text l.locals)
