use Rattle.std.proofs.Common.{◌≡◌, ℕ, Bool, ◌||◌, ◌&&◌, not, map, nat_eq, drop}
use Rattle.std.specs.HashSet as set
use Rattle.std.specs.List.{list_any}
use Rattle.go_scopes_lookup.specs.Tables.{same_spot}
use Rattle.go_scopes_lookup.specs.Views.{asked_view}
use Rattle.go_tree.specs.Lookups.{Asked}
use Rattle.escape_check.specs.Lookups.{is_import_in}
use Rattle.escape_check.specs.Shown.{covers_token}
use Rattle.escape_check.proofs.imports.kept_files.Given as goal

abbrev pub invariant-loop-name : goal.invariant-loop-name
invariant-loop-name l =
    (n : ℕ) →
    (let test : Asked → Bool = λ (a : Asked). is_import_in n a && (covers_token a.file a.it.name l.template || not (set.contains same_spot l.replaced (a.file, a.it.name))) in
    (set.contains nat_eq l.kept n || list_any test (map asked_view (drop l.name-index l.asked))) ≡ list_any test (map asked_view l.asked))
