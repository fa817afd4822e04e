use Rattle.std.proofs.Common.{◌≡◌, [], Ok, Err, sym, ◌∙◌, rules}
use Rattle.go_tree.specs.Views.{view}
use Rattle.go_types_relations.proofs.Public.{extends_both}
use Rattle.go_stmts_defs.specs.Bodies.{based}
use Rattle.go_stmts.specs.declared.state.Surroundings.{Surroundings}
use Rattle.go_stmts.proofs.Around.{alone_known, alone_numbered}
use Rattle.go_stmts.proofs.Answers.{variables_err, variables_ok, walked_there}
use Rattle.go_stmts.proofs.variables.type_variables.Goals as goal

pub walk_function-requires-clause-known : goal.walk_function-requires-clause-known
walk_function-requires-clause-known c =
    let o : Surroundings = record { tokens = c.args.tokens; uses = c.args.uses; env = c.args.env; basics = c.in_ok-basics.basics; base = c.args.base; types = c.deref.result } in
    alone_known c.args.types.now c.basics.new.types c.count.ensures.table c.in_ok-basics.ensures.grows.extends o c.requires.objects (c.deref.ensures.value ∙ c.new-own.ensures.items) c.in_ok-basics.ensures.basics

pub returns-in_err-walked-clause-extends : goal.returns-in_err-walked-clause-extends
returns-in_err-walked-clause-extends c = extends_both c.args.types.now c.basics.new.types c.walk_function.new.types c.in_ok-basics.ensures.grows.extends c.walk_function.ensures.extends

pub returns-in_err-walked-clause-exact : goal.returns-in_err-walked-clause-exact
returns-in_err-walked-clause-exact c =
    let o : Surroundings = record { tokens = c.args.tokens; uses = c.args.uses; env = c.args.env; basics = c.in_ok-basics.basics; base = c.args.base; types = c.deref.result } in
    let none : o.types.now ≡ [] = c.deref.ensures.value ∙ c.new-own.ensures.items in
    let new = c.basics.new.types in
    let e = c.in_err-walked.field-0.0 in
    variables_err c.walk_function.new.types _ e c.from_residual-in_err-walked.result
    (walked_there c.args.types.now new c.count.ensures.table c.in_ok-basics.ensures.grows o c.requires.objects none c.walk_function.new.types (Err e) (based c.args.base (view c.args.specification.now)) _ c.in_ok-specification.ensures (c.in_err-walked.ensures.exact (λ n. n) (alone_numbered new o (λ n. n) none)))
    (search rules)

pub returns-clause-extends : goal.returns-clause-extends
returns-clause-extends c = extends_both c.args.types.now c.basics.new.types c.walk_function.new.types c.in_ok-basics.ensures.grows.extends c.walk_function.ensures.extends

pub returns-clause-exact : goal.returns-clause-exact
returns-clause-exact c =
    let o : Surroundings = record { tokens = c.args.tokens; uses = c.args.uses; env = c.args.env; basics = c.in_ok-basics.basics; base = c.args.base; types = c.deref.result } in
    let none : o.types.now ≡ [] = c.deref.ensures.value ∙ c.new-own.ensures.items in
    let new = c.basics.new.types in
    variables_ok c.walk_function.new.types _ c.in_ok-walked.walked
    (walked_there c.args.types.now new c.count.ensures.table c.in_ok-basics.ensures.grows o c.requires.objects none c.walk_function.new.types (Ok c.in_ok-walked.walked) (based c.args.base (view c.args.specification.now)) _ c.in_ok-specification.ensures (c.in_ok-walked.ensures.exact (λ n. n) (alone_numbered new o (λ n. n) none)))

pub returns-clause-rights : goal.returns-clause-rights
returns-clause-rights c =
    let o : Surroundings = record { tokens = c.args.tokens; uses = c.args.uses; env = c.args.env; basics = c.in_ok-basics.basics; base = c.args.base; types = c.deref.result } in
    let none : o.types.now ≡ [] = c.deref.ensures.value ∙ c.new-own.ensures.items in
    let new = c.basics.new.types in
    let w = walked_there c.args.types.now new c.count.ensures.table c.in_ok-basics.ensures.grows o c.requires.objects none c.walk_function.new.types (Ok c.in_ok-walked.walked) (based c.args.base (view c.args.specification.now)) _ c.in_ok-specification.ensures (c.in_ok-walked.ensures.exact (λ n. n) (alone_numbered new o (λ n. n) none)) in
    sym w.rights
