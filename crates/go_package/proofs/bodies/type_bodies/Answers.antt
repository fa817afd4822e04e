use Rattle.go_types_relations.proofs.Public.{extends_both}
use Rattle.go_package.proofs.Rows.{objects_known}
use Rattle.go_package.proofs.Parts.{bodies_shown}
use Rattle.go_package.proofs.bodies.type_bodies.Goals as goal

pub type_variables-requires-clause-objects : goal.type_variables-requires-clause-objects
type_variables-requires-clause-objects c = objects_known c.args.types.now c.type_functions.new.types c.count.ensures.table c.type_functions.ensures.extends c.args.env.now c.requires.objects

pub returns-in_err-variables-clause-extends : goal.returns-in_err-variables-clause-extends
returns-in_err-variables-clause-extends c = extends_both c.args.types.now c.type_functions.new.types c.type_variables.new.types c.type_functions.ensures.extends c.type_variables.ensures.extends

pub returns-clause-extends : goal.returns-clause-extends
returns-clause-extends c = extends_both c.args.types.now c.type_functions.new.types c.type_variables.new.types c.type_functions.ensures.extends c.type_variables.ensures.extends

pub returns-clause-exact : goal.returns-clause-exact
returns-clause-exact c =
    let shown = bodies_shown c.args.files.now c.args.uses.now c.args.env.now c.args.types.now c.type_functions.new.types c.type_variables.new.types c.count.ensures.table c.count-2.ensures.table
    c.type_functions.ensures.extends c.type_variables.ensures.extends c.requires.objects c.in_ok-variables.ensures.rights c.in_ok-functions.functions.items c.in_ok-variables.variables.items
    c.in_ok-functions.ensures.known c.in_ok-functions.ensures.exact c.in_ok-variables.ensures.exact in
    record { functions = shown.0; variables = shown.1 }
