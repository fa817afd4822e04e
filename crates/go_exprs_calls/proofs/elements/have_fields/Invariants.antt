use Rattle.std.proofs.Common.{◌≡◌, drop, map}
use Rattle.std.specs.List.{list_all}
use Rattle.go_types.specs.Trees.{row}
use Rattle.go_types.specs.Tables.{type_of}
use Rattle.go_exprs_rules.specs.Calls.{row_length}
use Rattle.go_exprs_rules.specs.Literals.{is_below, key_of}
use Rattle.go_exprs_calls.specs.Shown.{shown}
use Rattle.go_exprs_calls.proofs.elements.have_fields.Given as goal

abbrev pub invariant-loop-node : goal.invariant-loop-node
invariant-loop-node l = list_all (λ x. is_below (row_length (row (map (λ f. type_of l.types.shapes f.ty) l.fields))) (key_of x)) (shown l.types (drop l.node-index l.nodes)) ≡ list_all (λ x. is_below (row_length (row (map (λ f. type_of l.types.shapes f.ty) l.fields))) (key_of x)) (shown l.types l.nodes)
