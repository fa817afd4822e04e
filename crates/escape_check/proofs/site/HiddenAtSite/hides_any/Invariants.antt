use Rattle.std.proofs.Common.{◌≡◌, ℕ, Bool, List, map, drop, true, false}
use Rattle.std.specs.Prelude.{nat_eq}
use Rattle.std.specs.HashSet as set
use Rattle.std.specs.List.{list_any}
use Rattle.escape_check.specs.Collecting.{names_of_type, names_of_types}
use Rattle.escape_check.specs.Places.{local_text, sources_in}
use Rattle.escape_check.specs.Shown.{member_view}
use Rattle.escape_check.specs.Texts.{AreTexts}
use Rattle.escape_check.specs.Types.{TypeName, is_hidden}
use Rattle.escape_check.proofs.site.HiddenAtSite.hides_any.Given as goal

abbrev pub invariant-loop-of : goal.invariant-loop-of
invariant-loop-of l = (locals : List ℕ) → AreTexts l.texts (map (local_text (sources_in l.checked) (member_view l.member)) locals) →
    let hidden : TypeName → Bool = is_hidden (sources_in l.checked) (member_view l.member) locals in
    ((t : ℕ) → set.contains nat_eq l.passed t ≡ true → list_any hidden (names_of_type l.checked t) ≡ false)
    × (list_any hidden (names_of_types l.checked l.types) ≡ list_any hidden (names_of_types l.checked (drop l.of-index l.types)))
