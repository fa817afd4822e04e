use Rattle.std.proofs.Common.{◌≡◌, ◌*◌, ◌+◌, ◌∷◌, [], drop, map}
use Rattle.std.specs.List.{list_all}
use Rattle.std.specs.Option.{option_map}
use Rattle.go_typed.specs.Funcs.{size, sizes}
use Rattle.go_typed.specs.Views.{seen, view, views}
use Rattle.go_stmts_defs.specs.Rows.{part_ends}
use Rattle.escape_check.specs.declared.ends.Gap.{Gap as Found}
use Rattle.escape_check.specs.Called.{all_called}
use Rattle.escape_check.specs.Keeping.{Extends, Spares}
use Rattle.escape_check.proofs.keeping.+keeping.Given as goal

-- the measure of a node is four times its size, and that of parts a little more than four times theirs
abbrev pub decreases-keeps_end : goal.decreases-keeps_end
decreases-keeps_end l = 4 * size (view l.node.now)

abbrev pub decreases-part_keeps : goal.decreases-part_keeps
decreases-part_keeps l = 4 * sizes (views (l.part.now ∷ [])) + 1

abbrev pub decreases-list_keeps : goal.decreases-list_keeps
decreases-list_keeps l = 4 * sizes (views l.parts.now) + 2

abbrev pub decreases-clause_keeps : goal.decreases-clause_keeps
decreases-clause_keeps l = 4 * sizes (views l.parts.now) + 3

abbrev pub decreases-branches_keep : goal.decreases-branches_keep
decreases-branches_keep l = 4 * sizes (views l.parts.now) + 2

abbrev pub decreases-all_keep : goal.decreases-all_keep
decreases-all_keep l = 4 * sizes (views l.clauses.now) + 2

abbrev pub decreases-clauses_keep : goal.decreases-clauses_keep
decreases-clauses_keep l = 4 * sizes (views l.parts.now) + 3

abbrev pub invariant-all_keep-loop-clause : goal.invariant-all_keep-loop-clause
invariant-all_keep-loop-clause l = record {
  noted : Extends l.fn.noted l.noted;
  ends : (g : Found) → Spares g l.noted → list_all part_ends (all_called g (map (option_map (seen l.types)) (drop l.clause-index l.clauses))) ≡ list_all part_ends (all_called g (map (option_map (seen l.types)) l.clauses));
}
