use Rattle.std.proofs.Common.{◌≡◌, ◌++◌, [], Some, refl, ap, sym, ◌∙◌}
use Rattle.std.specs.Prelude.{slice_get}
use Rattle.std.specs.Option.{option_map}
use Rattle.go_tree.specs.Views.{view}
use Rattle.go_types.specs.Tables.{rights_of}
use Rattle.go_typed.specs.Views.{seen}
use Rattle.go_declarations.specs.Views.{specification_view}
use Rattle.go_package_defs.specs.Sources.{tokens_in}
use Rattle.go_stmts.specs.Bodies.{function_scope}
use Rattle.go_package.specs.Functions.{package_in, around_in}
use Rattle.go_package.proofs.Answers.{variable_is, rights_kept}
use Rattle.go_package.proofs.Portions.{tokens_are, says}
use Rattle.go_package.proofs.variables.type_variable.Goals as goal

pub returns-in-Ok-clause-rights : goal.returns-in-Ok-clause-rights
returns-in-Ok-clause-rights c =
    let t = c.args.types.now in
    let s = function_scope t c.tokens-tokens.result.now c.args.uses.now c.args.env.now c.args.specification.now.first [] in
    c.in-Ok.ensures.rights ∙ rights_kept s c.args.specification.now.first (view c.args.specification.now.tree.now) (rights_of t) refl c.requires.plain

pub returns-in-Ok-clause-exact : goal.returns-in-Ok-clause-exact
returns-in-Ok-clause-exact c =
    let t = c.args.types.now in
    let files = c.args.files.now in
    let uses = c.args.uses.now in
    let env = c.args.env.now in
    let d = specification_view c.args.specification.now in
    let x = view c.args.specification.now.tree.now in
    let p = package_in files uses in
    let there : slice_get files d.file ≡ Some c.in-Some.file.now = c.file_at.ensures ∙ ap (option_map (λ f. f.now)) c.in-Some.is in
    let ts = c.tokens-tokens.result.now in
    let is : tokens_in p d.file ≡ ts = tokens_are files uses d.file c.in-Some.file.now there ∙ sym c.tokens-tokens.ensures in
    let number : ts.file ≡ d.file = ap (λ l. l.file) c.tokens-tokens.ensures ∙ (c.requires.files d.file c.in-Some.file.now there).number in
    let s = function_scope t ts uses env d.first [] in
    let law = c.portions_say_what_scopes_say.ensures.variable p (around_in t env) (rights_of t ++ []) d s (says t files uses env d ts is number []) c.requires.standing.whole in
    variable_is p (around_in t env) d (rights_of t) s x (seen c.type_variables.new.types c.in-Ok.typed) refl law c.in-Ok.ensures.exact
