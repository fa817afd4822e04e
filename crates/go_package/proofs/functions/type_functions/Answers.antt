use Rattle.std.proofs.Common.{sym, subst}
use Rattle.go_base.specs.Gives.{Gives}
use Rattle.go_tree.specs.declared.context.Entity.TheVariants as entity
use Rattle.go_types.specs.Tables.{rights_of}
use Rattle.go_package_defs.specs.Bodies.{those_of, functions_from}
use Rattle.go_package_defs.specs.Sources.{source_of}
use Rattle.go_package.specs.Functions.{package_in, around_in, AreStanding, functions_seen, check_failure}
use Rattle.go_package.proofs.functions.type_functions.Goals as goal
use Rattle.std.specs.Prelude.{map}

pub type_each-requires-clause-standing : goal.type_each-requires-clause-standing
type_each-requires-clause-standing c =
    let files = c.args.files.now in
    let uses = c.args.uses.now in
    subst (AreStanding (package_in files uses) entity.Function) (sym c.requires.specifications)
    (c.declarations_stand.ensures.standing files uses c.requires.files entity.Function (c.declarations_have_their_tokens.ensures 0 (map source_of files) entity.Function (c.declarations_stand.ensures.derived files c.requires.files)))

pub returns-clause-exact : goal.returns-clause-exact
returns-clause-exact c =
    let p = package_in c.args.files.now c.args.uses.now in
    let t = c.args.types.now in
    subst (λ ds. Gives (λ v. functions_seen c.type_each.new.types v.items) check_failure c.type_each.result
    (functions_from p (around_in t c.args.env.now) (rights_of t) 0 (those_of entity.Function ds))) c.requires.specifications c.type_each.ensures.exact
