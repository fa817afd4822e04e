use Rattle.std.proofs.Common.{length, ◌∙◌, ap}
use Rattle.std.specs.Option.{option_map}
use Rattle.go_typed.specs.Views.{seen}
use Rattle.go_stmts_defs.specs.Reading.{entry_names}
use Rattle.go_stmts.proofs.Known.{function_known}
use Rattle.go_stmts.proofs.Contents.{content_is, ok_then}
use Rattle.go_stmts.proofs.content.function_of.Goals as goal

pub returns-clause-exact : goal.returns-clause-exact
returns-clause-exact c s b objects locals =
    ok_then c.typed_func.result (λ f is.
    content_is c.args.types.now c.args.surroundings.now s b objects c.args.locals.now locals c.args.number c.args.count (option_map (seen c.args.types.now) c.args.signature.now) c.args.root f c.signature_type-of.result c.in_ok-parameters.parameters.items c.in_ok-sorts.sorts.items c.in_ok-tokens.tokens.items is
    c.signature_type-of.ensures.tree (c.in_ok-parameters.ensures ∙ ap entry_names c.parameters.ensures.parts) c.in_ok-sorts.ensures.tree c.in_ok-tokens.ensures)
    c.typed_func.ensures

pub returns-clause-known : goal.returns-clause-known
returns-clause-known c =
    ok_then c.typed_func.result (λ f is.
    function_known (length c.args.types.now.shapes) c.args.number c.signature_type-of.result c.in_ok-parameters.parameters.items c.in_ok-sorts.sorts.items c.in_ok-tokens.tokens.items c.args.root f c.signature_type-of.ensures.known c.in_ok-sorts.ensures.known c.requires.root is)
    c.typed_func.ensures
