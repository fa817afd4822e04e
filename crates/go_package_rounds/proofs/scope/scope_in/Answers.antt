use Rattle.std.proofs.Common.{◌≡◌, refl, ap, ◌∙◌}
use Rattle.go_exprs_types.specs.declared.scope.Scope.{Scope}
use Rattle.go_package_defs.specs.Knowledge.{need_in}
use Rattle.go_package_rounds.proofs.Scopes.{scope_is, scope_knows, scope_texts}
use Rattle.go_package_rounds.proofs.scope.scope_in.Goals as goal

pub returns-clause-is : goal.returns-clause-is
returns-clause-is c = λ t test ss d fits stands rights tokens number locals entity.
    let w = c.args.world.now in
    let s : Scope = record { tokens = c.args.tokens; uses = w.uses; env = w.env; locals = c.args.locals; basics = w.basics; told = c.args.told; needed = c.need_in.result; limits = c.args.limits; base = 0 } in
    scope_is s w refl refl refl t fits c.args.told.now test ss d c.args.limits refl stands rights tokens number locals (c.need_in.ensures ∙ ap need_in entity) refl

pub returns-clause-known : goal.returns-clause-known
returns-clause-known c = λ t n fits locals known.
    let w = c.args.world.now in
    let s : Scope = record { tokens = c.args.tokens; uses = w.uses; env = w.env; locals = c.args.locals; basics = w.basics; told = c.args.told; needed = c.need_in.result; limits = c.args.limits; base = 0 } in
    scope_knows s w refl t fits n c.args.told.now refl locals known

pub returns-clause-texts : goal.returns-clause-texts
returns-clause-texts c = λ file tokens.
    let w = c.args.world.now in
    let s : Scope = record { tokens = c.args.tokens; uses = w.uses; env = w.env; locals = c.args.locals; basics = w.basics; told = c.args.told; needed = c.need_in.result; limits = c.args.limits; base = 0 } in
    scope_texts s w file refl tokens
