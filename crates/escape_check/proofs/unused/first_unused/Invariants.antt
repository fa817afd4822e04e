use Rattle.std.proofs.Common.{◌≡◌, filter, drop}
use Rattle.go_typed.specs.Packages.{PackageView}
use Rattle.escape_check.specs.Lookups.{all_asked, is_left_unused}
use Rattle.escape_check.specs.Names.{declaring_places}
use Rattle.escape_check.specs.Places.{first_of, sources_in}
use Rattle.escape_check.specs.Shown.{IsSound, member_view}
use Rattle.escape_check.specs.Texts.{AreLastUses}
use Rattle.escape_check.proofs.unused.first_unused.Given as goal

abbrev pub invariant-loop-local : goal.invariant-loop-local
invariant-loop-local l =
    (p : PackageView) → IsSound p l.member → AreLastUses l.ends (all_asked (sources_in p)) →
    (let m = member_view l.member in
    first_of (declaring_places m (filter (is_left_unused (sources_in p) m) l.locals)) ≡ first_of (declaring_places m (filter (is_left_unused (sources_in p) m) (drop l.local-index l.locals))))
