use Rattle.std.proofs.Common.{◌≡◌, ℕ, Bool, List, map, drop}
use Rattle.std.specs.List.{list_any}
use Rattle.escape_check.specs.Places.{local_text, sources_in}
use Rattle.escape_check.specs.Shown.{member_view}
use Rattle.escape_check.specs.Texts.{AreTexts}
use Rattle.escape_check.specs.Types.{TypeName, is_hidden}
use Rattle.escape_check.specs.Written.{type_name_view}
use Rattle.escape_check.proofs.site.any_hidden.Given as goal

abbrev pub invariant-loop-name : goal.invariant-loop-name
invariant-loop-name l = (locals : List ℕ) → AreTexts l.texts (map (local_text (sources_in l.checked) (member_view l.member)) locals) →
    let hidden : TypeName → Bool = is_hidden (sources_in l.checked) (member_view l.member) locals in
    list_any hidden (map type_name_view l.names) ≡ list_any hidden (map type_name_view (drop l.name-index l.names))
