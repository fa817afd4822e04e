use Rattle.std.proofs.Common.{◌≡◌, ℕ, List, ◌++◌, drop, map}
use Rattle.escape_check.specs.Places.{sources_in}
use Rattle.escape_check.specs.Shown.{member_view}
use Rattle.extract_texts.specs.Texts.{result_name}
use Rattle.extract_texts.proofs.call.push_declared.Given as goal

abbrev pub invariant-loop-local : goal.invariant-loop-local
invariant-loop-local l =
    let text : ℕ → List ℕ = result_name (sources_in l.checked) (member_view l.member) in
    l.names.items ++ map text (drop l.local-index l.locals) ≡ l.fn.names.items ++ map text l.locals
