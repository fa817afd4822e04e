use Rattle.std.proofs.Common.{◌∷◌, ◌++◌, [], Some, None, map, ap, sym, subst, ◌∙◌, length}
use Rattle.std.proofs.lemmas.List.{map-append}
use Rattle.std.specs.Option.{option_map}
use Rattle.go_typed.specs.declared.node.TypedNode.TheViews.{out-TypedNode}
use Rattle.go_typed.specs.Views.{seen, AllKnown}
use Rattle.go_exprs_rules.specs.Tables.{held}
use Rattle.go_exprs_engine.proofs.Nodes.{known_append, known_parts, held_parts, held_itself}
use Rattle.go_exprs_engine.proofs.layout.push_held.Goals as goal

pub returns-in_ok-append-in-Some-clause-parts : goal.returns-in_ok-append-in-Some-clause-parts
returns-in_ok-append-in-Some-clause-parts c =
    let t = c.args.types.now in
    let f = option_map (seen t) in
    ap (map f) c.in_ok-append-in-Some.ensures.items ∙ map-append f c.args.out.now.items (out-TypedNode c.in-Some.node).parts.items
    ∙ ap (λ ys. map f c.args.out.now.items ++ ys) (sym (held_parts t c.in-Some.node (sym c.is_held.ensures ∙ c.if-is_held.true)) ∙ ap (λ o. held (f o)) (sym c.in-Some.is))

pub returns-in_ok-append-in-Some-clause-known : goal.returns-in_ok-append-in-Some-clause-known
returns-in_ok-append-in-Some-clause-known c =
    let k = (length c.args.types.now.shapes) in
    let own = known_parts k c.in-Some.node (subst (λ o. AllKnown k (o ∷ [])) c.in-Some.is c.requires.part).0 in
    subst (AllKnown k) (sym c.in_ok-append-in-Some.ensures.items) (known_append k c.args.out.now.items (out-TypedNode c.in-Some.node).parts.items c.requires.out own)

pub returns-in_ok-push-in-Some-clause-parts : goal.returns-in_ok-push-in-Some-clause-parts
returns-in_ok-push-in-Some-clause-parts c =
    let t = c.args.types.now in
    let f = option_map (seen t) in
    ap (map f) c.in_ok-push-in-Some.ensures.items ∙ map-append f c.args.out.now.items (Some c.in-Some.node ∷ [])
    ∙ ap (λ ys. map f c.args.out.now.items ++ ys) (sym (held_itself t c.in-Some.node (sym c.is_held.ensures ∙ c.if-is_held.false)) ∙ ap (λ o. held (f o)) (sym c.in-Some.is))

pub returns-in_ok-push-in-Some-clause-known : goal.returns-in_ok-push-in-Some-clause-known
returns-in_ok-push-in-Some-clause-known c =
    let k = (length c.args.types.now.shapes) in
    let own = subst (λ o. AllKnown k (o ∷ [])) c.in-Some.is c.requires.part in
    subst (AllKnown k) (sym c.in_ok-push-in-Some.ensures.items) (known_append k c.args.out.now.items (Some c.in-Some.node ∷ []) c.requires.out own)

pub returns-in_ok-push-in-None-clause-known : goal.returns-in_ok-push-in-None-clause-known
returns-in_ok-push-in-None-clause-known c =
    let k = (length c.args.types.now.shapes) in
    subst (AllKnown k) (sym c.in_ok-push-in-None.ensures.items) (known_append k c.args.out.now.items (None ∷ []) c.requires.out tt)
