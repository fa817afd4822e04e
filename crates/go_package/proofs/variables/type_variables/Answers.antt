use Rattle.std.proofs.Common.{◌≡◌, sym, subst, map}
use Rattle.std.specs.Prelude.{IfOk}
use Rattle.go_tree.specs.declared.context.Entity.TheVariants as entity
use Rattle.go_types.specs.Tables.{rights_of}
use Rattle.go_typed.specs.Views.{seen}
use Rattle.go_package_defs.specs.Bodies.{those_of, variables_of}
use Rattle.go_package_defs.specs.Sources.{source_of}
use Rattle.go_package.specs.Functions.{package_in, around_in, AreStanding, ArePlainVariables}
use Rattle.go_package.proofs.variables.type_variables.Goals as goal

pub type_each-requires-clause-standing : goal.type_each-requires-clause-standing
type_each-requires-clause-standing c =
    let files = c.args.files.now in
    let uses = c.args.uses.now in
    subst (AreStanding (package_in files uses) entity.Variable) (sym c.requires.specifications)
    (c.declarations_stand.ensures.standing files uses c.requires.files entity.Variable (c.declarations_have_their_tokens.ensures 0 (map source_of files) entity.Variable (c.declarations_stand.ensures.derived files c.requires.files)))

pub type_each-requires-clause-plain : goal.type_each-requires-clause-plain
type_each-requires-clause-plain c = subst ArePlainVariables (sym c.requires.specifications) (c.declarations_stand.ensures.plain c.args.files.now c.args.uses.now c.requires.files)

pub returns-clause-exact : goal.returns-clause-exact
returns-clause-exact c =
    let p = package_in c.args.files.now c.args.uses.now in
    let t = c.args.types.now in
    subst (λ ds. IfOk c.type_each.result (λ v. map (seen c.type_each.new.types) v.items ≡ variables_of p (around_in t c.args.env.now) (rights_of t) (those_of entity.Variable ds))) c.requires.specifications c.type_each.ensures.exact
