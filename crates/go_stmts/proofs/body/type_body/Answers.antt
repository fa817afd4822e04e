use Rattle.std.proofs.Common.{◌≡◌, length, ap, sym, subst, ◌∙◌}
use Rattle.std.specs.Prelude.{OnOk}
use Rattle.go_base.specs.Gives.{Gives}
use Rattle.go_tree.specs.Views.{view}
use Rattle.go_types.specs.Trees.{declared}
use Rattle.go_types.specs.Tables.{type_of, rights_of}
use Rattle.go_typed.specs.Contents.{func_content}
use Rattle.go_exprs_rules.specs.Faults.{refusal_of}
use Rattle.go_types_relations.proofs.Public.{extends_both}
use Rattle.go_exprs_engine.proofs.Public.{basics_stay}
use Rattle.go_exprs_rules.specs.Scopes.{free}
use Rattle.go_stmts_defs.specs.Bodies.{based, start, body_answer}
use Rattle.go_stmts_defs.specs.Reading.{reading}
use Rattle.go_stmts.specs.Walks.{frame_in}
use Rattle.go_stmts.specs.declared.state.Surroundings.{Surroundings}
use Rattle.go_package_defs.specs.Bodies.{which_types, local_type}
use Rattle.go_stmts.specs.Bodies.{scope_around, AreOwn}
use Rattle.go_stmts.proofs.Around.{around_is, all_known, count_stays}
use Rattle.go_stmts.proofs.body.type_body.Goals as goal

pub type_function-requires-clause-known : goal.type_function-requires-clause-known
type_function-requires-clause-known c =
    let old = c.args.types.now in
    let mid = c.basics.new.types in
    let new = c.own_types.new.types in
    let g = c.in_ok-basics.ensures.grows in
    all_known old new c.count.ensures.table (extends_both old mid new g.extends c.in_ok-own.ensures.extends) _ c.requires.objects (basics_stay mid new g.table c.in_ok-own.ensures.extends c.in_ok-basics.basics c.in_ok-basics.ensures.basics)
    (length mid.rights) (which_types c.args.locals.now) (subst (AreOwn new (length mid.rights) (which_types c.args.locals.now)) (sym c.deref.ensures.value) c.in_ok-own.ensures.own)

pub returns-clause-extends : goal.returns-clause-extends
returns-clause-extends c =
    let old = c.args.types.now in
    let mid = c.basics.new.types in
    let new = c.own_types.new.types in
    extends_both old new c.type_function.new.types (extends_both old mid new c.in_ok-basics.ensures.grows.extends c.in_ok-own.ensures.extends) c.type_function.ensures.extends

pub returns-clause-exact : goal.returns-clause-exact
returns-clause-exact c =
    let old = c.args.types.now in
    let mid = c.basics.new.types in
    let new = c.own_types.new.types in
    let g = c.in_ok-basics.ensures.grows in
    let bs = which_types c.args.locals.now in
    let o : Surroundings = record { tokens = c.args.tokens; uses = c.args.uses; env = c.args.env; basics = c.in_ok-basics.basics; base = c.args.base; types = c.deref.result } in
    let same = around_is old new c.count.ensures.table (extends_both old mid new g.extends c.in_ok-own.ensures.extends) o c.requires.objects bs (rights_of mid) c.in_ok-own.ensures.rights g.rights in
    let numbers = subst (AreOwn new (length mid.rights) bs) (sym c.deref.ensures.value) c.in_ok-own.ensures.own in
    let counted = count_stays old mid g.rights in
    let answer = c.type_function.ensures.exact (local_type (length old.rights) bs) (λ n i is. (numbers n i is).1 ∙ ap (λ m. declared (local_type m bs n)) counted) in
    subst (λ s. Gives (func_content (type_of c.type_function.new.types.shapes)) refusal_of c.type_function.result (body_answer s c.args.number (length c.args.locals.now) (local_type (length old.rights) bs) (based c.args.base (view c.args.function.now)))) same
    (subst (λ t. Gives (func_content (type_of c.type_function.new.types.shapes)) refusal_of c.type_function.result (body_answer (scope_around new o) c.args.number (length c.args.locals.now) (local_type (length old.rights) bs) t)) c.in_ok-function.ensures answer)

pub returns-clause-rights : goal.returns-clause-rights
returns-clause-rights c =
    let old = c.args.types.now in
    let mid = c.basics.new.types in
    let new = c.own_types.new.types in
    let behind = c.type_function.new.types in
    let g = c.in_ok-basics.ensures.grows in
    let bs = which_types c.args.locals.now in
    let own = local_type (length old.rights) bs in
    let o : Surroundings = record { tokens = c.args.tokens; uses = c.args.uses; env = c.args.env; basics = c.in_ok-basics.basics; base = c.args.base; types = c.deref.result } in
    let same = around_is old new c.count.ensures.table (extends_both old mid new g.extends c.in_ok-own.ensures.extends) o c.requires.objects bs (rights_of mid) c.in_ok-own.ensures.rights g.rights in
    let numbers = subst (AreOwn new (length mid.rights) bs) (sym c.deref.ensures.value) c.in_ok-own.ensures.own in
    let counted = count_stays old mid g.rights in
    let answer = c.type_function.ensures.rights own (λ n i is. (numbers n i is).1 ∙ ap (λ m. declared (local_type m bs n)) counted) in
    subst (λ s. OnOk c.type_function.result (rights_of behind ≡ (frame_in (reading (start s (length c.args.locals.now) own) free (based c.args.base (view c.args.function.now)))).around.rights)) same
    (subst (λ t. OnOk c.type_function.result (rights_of behind ≡ (frame_in (reading (start (scope_around new o) (length c.args.locals.now) own) free t)).around.rights)) c.in_ok-function.ensures answer)
