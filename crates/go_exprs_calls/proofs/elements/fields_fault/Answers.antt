use Rattle.std.proofs.Common.{◌≤◌, length, map, sym, ap, ◌∙◌, arith}
use Rattle.go_types.specs.declared.shape.Field.{Field}
use Rattle.go_types.specs.Trees.{row}
use Rattle.go_types.specs.Tables.{type_of, rights_of}
use Rattle.go_exprs_rules.specs.Faults.{least}
use Rattle.go_exprs_calls.specs.Shown.{shown}
use Rattle.go_exprs_calls.proofs.Counts.{fields_by}
use Rattle.go_exprs_calls.proofs.Lists.{length-shown}
use Rattle.go_exprs_calls.proofs.elements.fields_fault.Goals as goal

pub returns-in-len1-up : goal.returns-in-len1-up
returns-in-len1-up c =
    let t = c.args.types.now in
    let ns = c.args.nodes.now in
    let some : 1 ≤ length (shown t ns) = omega (arith, length-shown t ns, c.in-len1-up.len_at_least) in
    c.some_fields_fault.ensures ∙ ap least (sym (fields_by (rights_of t) c.args.place.first c.args.place.last (row (map (λ (f : Field). type_of t.shapes f.ty) c.args.fields.now)) (shown t ns) some))
