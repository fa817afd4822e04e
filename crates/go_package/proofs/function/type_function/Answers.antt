use Rattle.std.proofs.Common.{◌≡◌, Some, Ok, Err, length, refl, ap, sym, subst, ◌∙◌}
use Rattle.std.specs.Prelude.{slice_get}
use Rattle.std.specs.Option.{option_map}
use Rattle.go_base.specs.Gives.{Gives}
use Rattle.go_exprs_rules.specs.Faults.{refusal_of}
use Rattle.go_tree.specs.Views.{view}
use Rattle.go_types.specs.Tables.{rights_of}
use Rattle.go_declarations.specs.Views.{specification_view}
use Rattle.go_package_defs.specs.Bodies.{local_type, types_in, typed_function, which_types}
use Rattle.go_package_defs.specs.Sources.{tokens_in}
use Rattle.go_stmts_defs.specs.Bodies.{based}
use Rattle.go_stmts.specs.Bodies.{function_scope}
use Rattle.go_package.specs.Functions.{package_in, around_in, behind_seen}
use Rattle.go_package.proofs.Answers.{behind_gives, placed_ok, placed_fault}
use Rattle.go_package.proofs.Portions.{tokens_are, says, function_there}
use Rattle.go_package.proofs.function.type_function.Goals as goal

pub returns-in-Ok-clause-exact : goal.returns-in-Ok-clause-exact
returns-in-Ok-clause-exact c =
    let t = c.args.types.now in
    let files = c.args.files.now in
    let uses = c.args.uses.now in
    let env = c.args.env.now in
    let n = c.args.number in
    let d = specification_view c.args.specification.now in
    let x = view c.args.specification.now.tree.now in
    let p = package_in files uses in
    let there : slice_get files d.file ≡ Some c.in-Some.file.now = c.file_at.ensures ∙ ap (option_map (λ f. f.now)) c.in-Some.is in
    let ts = c.tokens-tokens.result.now in
    let is : tokens_in p d.file ≡ ts = tokens_are files uses d.file c.in-Some.file.now there ∙ sym c.tokens-tokens.ensures in
    let number : ts.file ≡ d.file = ap (λ l. l.file) c.tokens-tokens.ensures ∙ (c.requires.files d.file c.in-Some.file.now there).number in
    let ds = c.locals_of-locals.result.now in
    let law = c.portions_say_what_scopes_say.ensures.typed p (around_in t env) (rights_of t) n d (function_scope t ts uses env d.first (types_in p n)) (based d.first x)
    (says t files uses env d ts is number (types_in p n)) c.requires.standing.whole refl in
    let same = function_there t files uses env d ts n ds c.locals_of-locals.ensures x law in
    let gives = behind_gives (function_scope t ts uses env d.first (which_types ds)) n (based d.first x) (length ds) (local_type (length t.rights) (which_types ds)) c.type_body.new.types
    (Ok c.in-Ok.typed) c.in-Ok.ensures.exact c.in-Ok.ensures.rights in
    placed_ok p d (typed_function p (around_in t env) (rights_of t) n d) (behind_seen c.type_body.new.types c.in-Ok.typed) (same ∙ gives)

pub returns-in-Err-clause-exact : goal.returns-in-Err-clause-exact
returns-in-Err-clause-exact c =
    let t = c.args.types.now in
    let files = c.args.files.now in
    let uses = c.args.uses.now in
    let env = c.args.env.now in
    let n = c.args.number in
    let d = specification_view c.args.specification.now in
    let x = view c.args.specification.now.tree.now in
    let p = package_in files uses in
    let there : slice_get files d.file ≡ Some c.in-Some.file.now = c.file_at.ensures ∙ ap (option_map (λ f. f.now)) c.in-Some.is in
    let ts = c.tokens-tokens.result.now in
    let is : tokens_in p d.file ≡ ts = tokens_are files uses d.file c.in-Some.file.now there ∙ sym c.tokens-tokens.ensures in
    let number : ts.file ≡ d.file = ap (λ l. l.file) c.tokens-tokens.ensures ∙ (c.requires.files d.file c.in-Some.file.now there).number in
    let ds = c.locals_of-locals.result.now in
    let law = c.portions_say_what_scopes_say.ensures.typed p (around_in t env) (rights_of t) n d (function_scope t ts uses env d.first (types_in p n)) (based d.first x)
    (says t files uses env d ts is number (types_in p n)) c.requires.standing.whole refl in
    let same = function_there t files uses env d ts n ds c.locals_of-locals.ensures x law in
    let gives = behind_gives (function_scope t ts uses env d.first (which_types ds)) n (based d.first x) (length ds) (local_type (length t.rights) (which_types ds)) c.type_body.new.types
    (Err c.in-Err.error) c.in-Err.ensures.exact c.in-Err.ensures.rights in
    placed_fault p d ts is number (behind_seen c.type_body.new.types) (typed_function p (around_in t env) (rights_of t) n d) c.in-Err.error (Err c.in-Err.error) (Err c.placed.result) c.placed.result
    (subst (λ z. Gives (behind_seen c.type_body.new.types) refusal_of (Err c.in-Err.error) z) (sym same) gives) refl c.placed.ensures refl
