use Rattle.std.proofs.Common.{◌≡◌, subst, ◌∙◌, arith}
use Rattle.std.proofs.lemmas.Grind.{common_steps}
use Rattle.go_tree.specs.Uses.{UsesView, object_of, IsComplete}
use Rattle.go_tree.proofs.uses.Uses.object.Goals as goal

pub returns-clause-declared : goal.returns-clause-declared
returns-clause-declared c o e =
    let u : UsesView = c.args.self.now in
    let whole : IsComplete u = subst IsComplete c.self.view_is c.self.invariant in
    let here : object_of u c.args.file c.args.token ≡ c.object_in.result = grind (arith, common_steps) in
    whole.declared c.args.file c.args.token o (here ∙ e)

pub returns-clause-scope : goal.returns-clause-scope
returns-clause-scope c o d e f =
    let u : UsesView = c.args.self.now in
    let whole : IsComplete u = subst IsComplete c.self.view_is c.self.invariant in
    let here : object_of u c.args.file c.args.token ≡ c.object_in.result = grind (arith, common_steps) in
    whole.scope c.args.file c.args.token o d (here ∙ e) f

pub returns-clause-complete : goal.returns-clause-complete
returns-clause-complete c = subst IsComplete c.self.view_is c.self.invariant
