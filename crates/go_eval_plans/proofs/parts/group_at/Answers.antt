use Rattle.std.proofs.Common.{subst}
use Rattle.go_types.specs.Tables.{type_of, rights_of}
use Rattle.go_meaning.specs.Planning.{shape_of}
use Rattle.go_eval_plans.specs.Views.{IsGroup}
use Rattle.go_eval_plans.proofs.parts.group_at.Goals as goal

pub returns-clause-group : goal.returns-clause-group
returns-clause-group c = let t = c.args.types.now in subst (λ u. IsGroup (type_of t.shapes) c.group_of.result (shape_of (rights_of t) u)) (c.type_at.ensures.is (type_of t.shapes)) c.group_of.ensures.group
