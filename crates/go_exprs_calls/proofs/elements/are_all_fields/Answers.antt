use Rattle.std.proofs.Common.{length, map, nat_eq, ap, sym, ◌∙◌}
use Rattle.go_types.specs.declared.shape.Field.{Field}
use Rattle.go_types.specs.Tables.{type_of}
use Rattle.go_exprs_calls.specs.Shown.{shown}
use Rattle.go_exprs_calls.proofs.Lists.{length-shown, length-mapped_row}
use Rattle.go_exprs_calls.proofs.elements.are_all_fields.Goals as goal

pub returns-clause-count : goal.returns-clause-count
returns-clause-count c =
    let t = c.args.types.now in
    let fs = c.args.fields.now in
    let ns = c.args.nodes.now in
    sym (ap (λ n. nat_eq n (length (shown t ns))) (length-mapped_row (λ (f : Field). type_of t.shapes f.ty) fs) ∙ ap (λ m. nat_eq (length fs) m) (length-shown t ns))
