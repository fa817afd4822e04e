use Rattle.std.proofs.Common.{◌≡◌, ◌*◌, ◌+◌, ◌∷◌, [], drop, length, map}
use Rattle.std.specs.List.{list_all}
use Rattle.std.specs.Option.{option_map}
use Rattle.go_typed.specs.Funcs.{size, sizes}
use Rattle.go_typed.specs.Views.{seen, view, views, AllKnown}
use Rattle.go_stmts_defs.specs.Rows.{part_ends}
use Rattle.go_stmts_parts.proofs.endings.+endings.Given as goal

-- the measure of a node is four times its size, and that of parts a little more than four times theirs
abbrev pub decreases-terminates : goal.decreases-terminates
decreases-terminates l = 4 * size (view l.node.now)

abbrev pub decreases-part_ends : goal.decreases-part_ends
decreases-part_ends l = 4 * sizes (views (l.part.now ∷ [])) + 1

abbrev pub decreases-last_ends : goal.decreases-last_ends
decreases-last_ends l = 4 * sizes (views l.parts.now) + 2

abbrev pub decreases-branches_end : goal.decreases-branches_end
decreases-branches_end l = 4 * sizes (views l.parts.now) + 2

abbrev pub decreases-all_end : goal.decreases-all_end
decreases-all_end l = 4 * sizes (views l.clauses.now) + 2

abbrev pub decreases-clauses_end : goal.decreases-clauses_end
decreases-clauses_end l = 4 * sizes (views l.parts.now) + 3

abbrev pub invariant-all_end-loop-clause : goal.invariant-all_end-loop-clause
invariant-all_end-loop-clause l = record {
  known : AllKnown (length l.types.shapes) (drop l.clause-index l.clauses);
  found : list_all part_ends (map (option_map (seen l.types)) (drop l.clause-index l.clauses)) ≡ list_all part_ends (map (option_map (seen l.types)) l.clauses);
}
