use Rattle.std.proofs.Common.{◌≤◌, sym, subst}
use Rattle.clone_window.proofs.FieldNames.{past-all}
use Rattle.clone_window.proofs.fields.field_in.Goals as goal

pub returns-then-count-ty : goal.returns-then-count-ty
returns-then-count-ty c = sym (past-all c.args.types.now c.args.ty c.args.field (subst (λ n. n ≤ c.args.ty) c.count.ensures.count c.if-count-ty.true))
