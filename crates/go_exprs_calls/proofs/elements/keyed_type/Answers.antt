use Rattle.std.proofs.Common.{ℕ, ◌<◌, ◌≤◌, length, map, sym, ap, ◌∙◌, arith}
use Rattle.go_types.specs.declared.shape.Field.{Field}
use Rattle.go_types.specs.Trees.{TypeTree, row}
use Rattle.go_types.specs.Tables.{type_of}
use Rattle.go_exprs_rules.specs.Literals.{keyed_type}
use Rattle.go_exprs_calls.proofs.Lists.{type_within, type_past, known_within}
use Rattle.go_exprs_calls.proofs.elements.keyed_type.Goals as goal

pub returns-then-key-fields-clause-known : goal.returns-then-key-fields-clause-known
returns-then-key-fields-clause-known c =
    let k = length c.args.types.now.shapes in
    known_within (λ (n : ℕ). n < k) (λ (x : Field). x.ty) c.args.fields.now c.in_ok-key.field-0 c.index-fields-key.result (omega arith) c.requires

pub returns-then-key-fields-clause-tree : goal.returns-then-key-fields-clause-tree
returns-then-key-fields-clause-tree c =
    let t = c.args.types.now in
    let f : Field → TypeTree = λ x. type_of t.shapes x.ty in
    let fs = c.args.fields.now in
    sym (ap (keyed_type (row (map f fs))) c.in_ok-key.was ∙ type_within f fs c.in_ok-key.field-0 c.index-fields-key.result (omega arith))

pub returns-else-key-fields-clause-tree : goal.returns-else-key-fields-clause-tree
returns-else-key-fields-clause-tree c =
    let t = c.args.types.now in
    let f : Field → TypeTree = λ x. type_of t.shapes x.ty in
    let fs = c.args.fields.now in
    sym (ap (keyed_type (row (map f fs))) c.in_ok-key.was ∙ type_past f fs c.in_ok-key.field-0 (omega arith))
