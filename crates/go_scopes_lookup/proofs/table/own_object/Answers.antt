use Rattle.std.proofs.Common.{arith, ◌≡◌, ◌∙◌, sym, Some, None}
use Rattle.go_scopes_lookup.specs.Tables.{declared_object}
use Rattle.go_scopes_lookup.proofs.Tables.{own_object-there, own_object-none}
use Rattle.go_scopes_lookup.proofs.table.own_object.Goals as goal

pub returns-in-Some : goal.returns-in-Some
returns-in-Some c ms owns means =
    let there : declared_object c.args.file c.args.token ms ≡ Some c.in-Some.object.now = grind (arith, c.in-Some.ensures.value, owns c.args.file c.args.token) in
    sym (own_object-there c.args.file c.args.token c.args.name.now ms ms c.in-Some.object.now there)

pub returns-in-None : goal.returns-in-None
returns-in-None c ms owns means =
    let none : declared_object c.args.file c.args.token ms ≡ None = grind (arith, c.in-None.ensures.value, owns c.args.file c.args.token) in
    c.named_object.ensures ms c.args.file c.args.token means ∙ sym (own_object-none c.args.file c.args.token c.args.name.now ms ms none)
