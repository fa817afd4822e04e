-- What names mean outside of functions stays where heads are equal.
use Rattle.std.proofs.Common.{◌≡◌, ◌∙◌, ℕ, List, map, sym, ap}
use Rattle.go_tree.specs.Meanings.{Meaning, imported_from}
use Rattle.go_scopes_events.specs.Scopes.{first_by, is_import}
use Rattle.go_heads.specs.Functions.{AreRead}
use Rattle.go_heads.specs.Heads.{File, heads}
use Rattle.go_heads.specs.Objects.{units_of, package_objects}
use Rattle.go_heads.proofs.Public.{Entry, entry, entries_same, find, imports_told, outer_object, outer_reached}
use Rattle.go_scopes_bodies.specs.Faults.{outer_in}

pub outer_stays : (old new : List File) → AreRead old → AreRead new → heads old ≡ heads new → (n : ℕ) (w : List ℕ) → outer_in new n w ≡ outer_in old n w
outer_stays old new h k e n w =
    outer_reached new n w
    ∙ ap (λ (ms : List Meaning). outer_object w (first_by (is_import n) w ms) (find 0 w (map (entry new) (package_objects new)))) (imports_told 0 old new h k e)
    ∙ ap (λ (xs : List Entry). outer_object w (first_by (is_import n) w (imported_from 0 (units_of old))) (find 0 w xs)) (entries_same old new h k e)
    ∙ sym (outer_reached old n w)
