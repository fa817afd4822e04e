use Rattle.std.proofs.Common.{◌≡◌, ℕ, ◌||◌, ◌&&◌, nat_eq, drop}
use Rattle.std.specs.HashSet as set
use Rattle.std.specs.List.{list_any}
use Rattle.go_typed.specs.Places.{covers, nodes_among}
use Rattle.go_typed.specs.Trees.{Typed, form_of}
use Rattle.go_typed.specs.Views.{views}
use Rattle.escape_check.specs.Names.{is_closed}
use Rattle.escape_check.proofs.written.+closed.Given as goal

abbrev pub invariant-add_closed_among-loop-part : goal.invariant-add_closed_among-loop-part
invariant-add_closed_among-loop-part l =
    (t : ℕ) → (set.contains nat_eq l.tokens t || list_any (λ (x : Typed ℕ). is_closed (form_of x) && covers x t) (nodes_among (views (drop l.part-index l.parts))))
    ≡ (set.contains nat_eq l.fn.tokens t || list_any (λ (x : Typed ℕ). is_closed (form_of x) && covers x t) (nodes_among (views l.parts)))
