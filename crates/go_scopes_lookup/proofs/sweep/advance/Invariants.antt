use Rattle.std.proofs.Common.{◌≤◌, ℕ, List, drop, map}
use Rattle.go_tree.specs.Meanings as meanings
use Rattle.go_scopes_lookup.specs.Views.{meaning_view}
use Rattle.go_scopes_lookup.specs.Stacks.{IsSweeping}
use Rattle.go_scopes_lookup.proofs.sweep.advance.Given as goal

abbrev pub invariant-loop-number : goal.invariant-loop-number
invariant-loop-number l = (n i : ℕ) (all : List meanings.Meaning) → i ≤ l.token → IsSweeping n i all l.fn.scopes.blocks.items (map meaning_view (drop l.from l.locals)) → IsSweeping n l.token all l.scopes.blocks.items (map meaning_view (drop l.number l.locals))
