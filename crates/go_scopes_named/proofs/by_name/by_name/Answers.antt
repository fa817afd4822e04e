use Rattle.std.proofs.Common.{◌≡◌, ◌∙◌, ap, sym, subst, map}
use Rattle.go_scopes_events.specs.Scopes.{locals_of, AreNested}
use Rattle.go_scopes_named.specs.Named.{KnowsNamed}
use Rattle.go_scopes_lookup.specs.Sorted.{all_of}
use Rattle.go_scopes_lookup.specs.Views.{entry_view, meaning_view}
use Rattle.go_scopes_named.proofs.by_name.by_name.Goals as goal

pub locals-requires : goal.locals-requires
locals-requires c = λ n.
    let all : all_of c.in_ok-sorted.sorted ≡ map entry_view c.args.entries.now = c.in_ok-sorted.ensures.all ∙ c.in_ok-meanings.ensures in
    subst (λ ms. AreNested (locals_of n ms)) (sym (ap (map meaning_view) c.deref.ensures.value ∙ all)) (c.requires.nested n)

pub returns-clause-named : goal.returns-clause-named
returns-clause-named c =
    let all : all_of c.in_ok-sorted.sorted ≡ map entry_view c.args.entries.now = c.in_ok-sorted.ensures.all ∙ c.in_ok-meanings.ensures in
    record {
      sorted = c.in_ok-sorted.ensures.sorted;
      locals = subst (λ l. KnowsNamed c.in_ok-locals.locals (map meaning_view l)) c.deref.ensures.value c.in_ok-locals.ensures;
      nested = λ n. subst (λ ms. AreNested (locals_of n ms)) (sym all) (c.requires.nested n);
    }
