use Rattle.std.proofs.Common.{rules, refl, sym, ◌∙◌, [], ◌∷◌}
use Rattle.go_tree.specs.Views.{view}
use Rattle.go_types.specs.Tables.{type_of}
use Rattle.go_typed.specs.Contents.{func_content}
use Rattle.go_types_relations.proofs.Public.{extends_both}
use Rattle.go_exprs_engine.proofs.Public.{parts_known}
use Rattle.go_stmts.proofs.Showing.{surroundings_known}
use Rattle.go_stmts.specs.Walks.{frame_in}
use Rattle.go_exprs_rules.specs.Scopes.{free}
use Rattle.go_stmts_defs.specs.Bodies.{start}
use Rattle.go_stmts_defs.specs.Reading.{reading}
use Rattle.go_stmts.specs.Bodies.{scope_around}
use Rattle.go_stmts.proofs.Around.{around_stays, numbered_stays, signature_stays}
use Rattle.go_stmts.proofs.Answers.{answered_err, answered_ok, shown_there}
use Rattle.go_stmts.proofs.body.type_function.Goals as goal

pub walk_function-requires-clause-known : goal.walk_function-requires-clause-known
walk_function-requires-clause-known c = surroundings_known c.args.types.now c.signature-signature.new.types c.count.ensures.table c.signature-signature.ensures.grows.extends c.args.surroundings.now c.requires.known

pub returns-in_err-root-clause-extends : goal.returns-in_err-root-clause-extends
returns-in_err-root-clause-extends c = extends_both c.args.types.now c.signature-signature.new.types c.walk_function.new.types c.signature-signature.ensures.grows.extends c.walk_function.ensures.extends

pub returns-in_err-root-clause-exact : goal.returns-in_err-root-clause-exact
returns-in_err-root-clause-exact c own numbered =
    let old = c.args.types.now in
    let mid = c.signature-signature.new.types in
    let new = c.walk_function.new.types in
    let o = c.args.surroundings.now in
    let g = c.signature-signature.ensures.grows in
    let same = around_stays old mid c.count.ensures.table g.extends o c.requires.known.objects g.rights in
    answered_err new (scope_around old o) (scope_around mid o) same c.args.number c.args.count own (view c.args.function.now) (func_content (type_of new.shapes)) c.in_err-root.field-0.0 c.from_residual.result
    (c.in_err-root.ensures.exact own (numbered_stays old mid c.count.ensures.table g.extends o c.requires.known own numbered)) (search rules)

pub function_of-requires-clause-signature : goal.function_of-requires-clause-signature
function_of-requires-clause-signature c =
    parts_known c.signature-signature.new.types c.walk_function.new.types c.count-2.ensures.table c.walk_function.ensures.extends (c.in_ok-signature.signature ∷ []) c.in_ok-signature.ensures.known

pub returns-in_err-typed-clause-extends : goal.returns-in_err-typed-clause-extends
returns-in_err-typed-clause-extends c = extends_both c.args.types.now c.signature-signature.new.types c.walk_function.new.types c.signature-signature.ensures.grows.extends c.walk_function.ensures.extends

pub returns-clause-extends : goal.returns-clause-extends
returns-clause-extends c = extends_both c.args.types.now c.signature-signature.new.types c.walk_function.new.types c.signature-signature.ensures.grows.extends c.walk_function.ensures.extends

pub returns-clause-exact : goal.returns-clause-exact
returns-clause-exact c own numbered =
    let old = c.args.types.now in
    let mid = c.signature-signature.new.types in
    let new = c.walk_function.new.types in
    let o = c.args.surroundings.now in
    let g = c.signature-signature.ensures.grows in
    let s = scope_around old o in
    let tree = view c.args.function.now in
    let same = around_stays old mid c.count.ensures.table g.extends o c.requires.known.objects g.rights in
    let w = shown_there new s (scope_around mid o) same c.args.number c.args.count own tree _ (c.in_ok-root.ensures.exact own (numbered_stays old mid c.count.ensures.table g.extends o c.requires.known own numbered)) in
    answered_ok new s (scope_around mid o) same c.args.number c.args.count own tree _ w (func_content (type_of new.shapes) c.in_ok-typed.typed) _ _
    (c.in_ok-typed.ensures.exact s (frame_in (reading (start s c.args.count own) free tree)) refl w.locals) c.last.ensures
    (signature_stays mid new c.count-2.ensures.table c.walk_function.ensures.extends o c.in_ok-signature.signature c.in_ok-signature.ensures.known ∙ c.in_ok-signature.ensures.tree)

pub returns-clause-rights : goal.returns-clause-rights
returns-clause-rights c own numbered =
    let old = c.args.types.now in
    let mid = c.signature-signature.new.types in
    let new = c.walk_function.new.types in
    let o = c.args.surroundings.now in
    let g = c.signature-signature.ensures.grows in
    let same = around_stays old mid c.count.ensures.table g.extends o c.requires.known.objects g.rights in
    let w = shown_there new (scope_around old o) (scope_around mid o) same c.args.number c.args.count own (view c.args.function.now) _ (c.in_ok-root.ensures.exact own (numbered_stays old mid c.count.ensures.table g.extends o c.requires.known own numbered)) in
    sym w.rights
