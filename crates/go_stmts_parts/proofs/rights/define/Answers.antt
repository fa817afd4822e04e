use Rattle.std.proofs.Common.{◌∙◌, refl, ap, sym, subst}
use Rattle.go_types.specs.Tables.{Table, rights_of}
use Rattle.go_types_relations.specs.Extends.{Extends}
use Rattle.go_types_relations.proofs.Public.{defined_extends}
use Rattle.go_stmts_parts.proofs.Placing.{defined_rights}
use Rattle.go_stmts_parts.proofs.rights.define.Goals as goal

pub returns-then-can_define-clause-extends : goal.returns-then-can_define-clause-extends
returns-then-can_define-clause-extends c = subst (Extends c.args.types.now) (sym c.define.ensures) (defined_extends c.args.types.now c.args.named c.args.right (c.if-can_define.ensures.test.0 refl).0)

pub returns-then-can_define-clause-rights : goal.returns-then-can_define-clause-rights
returns-then-can_define-clause-rights c = λ n is. ap (λ (t : Table). rights_of t) c.define.ensures ∙ defined_rights c.args.types.now c.count.ensures.table c.args.named n (c.if-can_define.ensures.test.0 refl).0 is c.args.right
