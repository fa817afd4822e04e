use Rattle.std.proofs.Common.{arith, sym}
use Rattle.go_types.specs.Tables.{type_of, rights_of}
use Rattle.go_types_relations.specs.Tests.{underlying_of}
use Rattle.go_exprs_types.proofs.Structs.{count_is}
use Rattle.go_exprs_types.proofs.fields.fields_in.Goals as goal

pub overflow_cast-result : goal.overflow_cast-result
overflow_cast-result c =
    let t = c.args.types.now in
    let size = count_is t (underlying_of (rights_of t) (type_of t.shapes c.args.of)) c.in-Some.fields.now c.in-Some.ensures.tree in
    omega (arith, size, c.requires.few)

pub returns-in-Some : goal.returns-in-Some
returns-in-Some c =
    let t = c.args.types.now in
    sym (count_is t (underlying_of (rights_of t) (type_of t.shapes c.args.of)) c.in-Some.fields.now c.in-Some.ensures.tree)
