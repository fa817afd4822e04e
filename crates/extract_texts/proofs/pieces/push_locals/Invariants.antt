use Rattle.std.proofs.Common.{◌≡◌, ℕ, List, ◌++◌, drop, map}
use Rattle.escape_check.specs.Places.{local_text, sources_in}
use Rattle.escape_check.specs.Shown.{member_view}
use Rattle.extract_texts.proofs.pieces.push_locals.Given as goal

abbrev pub invariant-loop-local : goal.invariant-loop-local
invariant-loop-local l =
    let text : ℕ → List ℕ = local_text (sources_in l.checked) (member_view l.member) in
    l.out.items ++ map text (drop l.local-index l.locals) ≡ l.fn.out.items ++ map text l.locals
