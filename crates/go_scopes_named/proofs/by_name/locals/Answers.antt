use Rattle.std.proofs.Common.{◌+◌, map, take, sym, subst, ◌≡◌, ◌∙◌, ◌∷◌, [], ◌++◌, ap}
use Rattle.std.proofs.lemmas.List.{map_more}
use Rattle.go_scopes_lookup.specs.Views.{meaning_view}
use Rattle.go_scopes_named.specs.Named.{KnowsNamed, NestsIn}
use Rattle.go_scopes_named.proofs.ByName.{nested_at}
use Rattle.go_scopes_named.proofs.by_name.locals.Goals as goal

pub loop-meaning-preserved : goal.loop-meaning-preserved
loop-meaning-preserved c =
    let all = c.args.all.now in
    let i = c.loop-meaning.meaning-index in
    let m = c.meaning-item.result in
    let nests : NestsIn (map meaning_view (take i all)) (meaning_view m) = subst (λ x. NestsIn (map meaning_view (take i all)) (meaning_view x)) (sym c.meaning-item.is) (λ n. nested_at n all i m c.loop-meaning-test.true (c.requires n)) in
    let more : map meaning_view (take i all) ++ meaning_view m ∷ [] ≡ map meaning_view (take (i + 1) all) = ap (λ x. map meaning_view (take i all) ++ meaning_view x ∷ []) c.meaning-item.is ∙ sym (map_more meaning_view all i m c.loop-meaning-test.true) in
    subst (λ ms. KnowsNamed c.add_local.new.locals ms) more (c.in_ok-add_local.ensures (map meaning_view (take i all)) nests c.loop-meaning.invariant)
