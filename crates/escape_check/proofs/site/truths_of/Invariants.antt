use Rattle.std.proofs.Common.{◌≡◌, ℕ, Bool, drop}
use Rattle.std.specs.Prelude.{◌||◌}
use Rattle.std.specs.List.{list_any}
use Rattle.param_choose.specs.Holes.{holes}
use Rattle.param_choose.specs.Members.{Member}
use Rattle.param_choose.specs.Shown.{holes_view}
use Rattle.escape_check.specs.Sites.{truths_named}
use Rattle.escape_check.specs.Types.{TypeName, needed_truths}
use Rattle.escape_check.proofs.site.truths_of.Given as goal

abbrev pub invariant-loop-number : goal.invariant-loop-number
invariant-loop-number l = (m : Member ℕ) (test : TypeName → Bool) → holes_view l.holes ≡ holes m →
    (list_any test (truths_named l.found) || list_any test (needed_truths (drop l.number-index l.numbers) m)) ≡ list_any test (needed_truths l.numbers m)
