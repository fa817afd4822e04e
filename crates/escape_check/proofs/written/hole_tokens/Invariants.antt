use Rattle.std.proofs.Common.{◌≡◌, ℕ, ◌||◌, nat_eq, drop}
use Rattle.std.specs.HashSet as set
use Rattle.std.specs.List.{list_any}
use Rattle.param_choose.specs.Shown.{holes_view}
use Rattle.escape_check.specs.Names.{hole_covers}
use Rattle.escape_check.proofs.written.hole_tokens.Given as goal

abbrev pub invariant-loop-hole : goal.invariant-loop-hole
invariant-loop-hole l =
    (t : ℕ) → (set.contains nat_eq l.tokens t || list_any (λ h. hole_covers h t) (holes_view (drop l.hole-index l.holes))) ≡ list_any (λ h. hole_covers h t) (holes_view l.holes)
