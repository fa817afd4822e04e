use Rattle.std.proofs.Common.{length, subst}
use Rattle.go_typed.specs.Views.{AllKnown}
use Rattle.go_stmts_parts.proofs.Public.{last_known}
use Rattle.go_stmts.proofs.tag.last_tag.Goals as goal

pub tag_of-requires-clause-part : goal.tag_of-requires-clause-part
tag_of-requires-clause-part c =
    let k = length c.args.types.now.shapes in
    last_known k c.in-Some.field-0-1.now c.in-Some.last.now (subst (AllKnown k) c.in-Some.ensures.cases.0 c.requires.parts)
