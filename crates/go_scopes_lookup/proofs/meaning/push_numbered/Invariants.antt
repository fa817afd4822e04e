use Rattle.std.proofs.Common.{◌≡◌, ◌≤◌, ◌++◌, map, drop}
use Rattle.go_tree.specs.Meanings.{first_numbers, numbered}
use Rattle.go_scopes_lookup.specs.Views.{found_view, entry_view, numbers_view}
use Rattle.go_scopes_lookup.proofs.meaning.push_numbered.Given as goal

abbrev pub invariant-loop-d : goal.invariant-loop-d
invariant-loop-d l = (l.numbers.shared ≤ l.d-index) × (l.numbers.functions ≤ l.d-index) × (l.numbers.local ≤ l.d-index) × (map entry_view l.out.items ++ numbered (numbers_view l.numbers) (map found_view (drop l.d-index l.all)) ≡ map entry_view l.fn.out.items ++ numbered first_numbers (map found_view l.all))
