use Rattle.std.proofs.Common.{◌≡◌, ℕ, Bool, List, filter, drop}
use Rattle.std.specs.List.{list_any}
use Rattle.go_tokens.specs.Spellings.{same_text}
use Rattle.escape_check.specs.Names.{declaring_places}
use Rattle.escape_check.specs.Places.{first_of, local_text, sources_in}
use Rattle.escape_check.specs.Shown.{member_view}
use Rattle.escape_check.specs.Texts.{AreTexts}
use Rattle.escape_check.proofs.shadow.first_among.Given as goal

abbrev pub invariant-loop-local : goal.invariant-loop-local
invariant-loop-local l =
    (ws : List (List ℕ)) → AreTexts l.texts ws →
    (let m = member_view l.member in
    let test : ℕ → Bool = λ n. list_any (λ w. same_text w (local_text (sources_in l.checked) m n)) ws in
    first_of (declaring_places m (filter test l.locals)) ≡ first_of (declaring_places m (filter test (drop l.local-index l.locals))))
