use Rattle.std.proofs.Common.{◌≡◌, ◌<◌, ◌≤◌, ◌∙◌, List, take, drop, length, sym, subst}
use Rattle.std.specs.List.{AllByRecursion}
use Rattle.std.specs.Option.{option_map}
use Rattle.go_scopes_lookup.specs.Views.{meaning_view}
use Rattle.go_scopes_named.specs.declared.segments.Segment.{Segment}
use Rattle.go_scopes_named.specs.Segments.{AreRising, said}
use Rattle.go_scopes_named.proofs.Cut.{adds_none, adds_kept, adds_there}
use Rattle.go_scopes_named.proofs.segments.add.Goals as goal

pub returns-then-scope : goal.returns-then-scope
returns-then-scope c = adds_none c.args.scope (meaning_view c.args.meaning.now) c.args.segments.now.items c.if-scope.true

pub returns-then-lies_in : goal.returns-then-lies_in
returns-then-lies_in c =
    let there : AreRising c.args.segments.now.items → option_map meaning_view c.said-outer.result ≡ said c.args.scope.from c.args.segments.now.items =
    subst (λ l. AreRising l → option_map meaning_view c.said-outer.result ≡ said c.args.scope.from l) c.deref.ensures.value c.said-outer.ensures in
    adds_kept c.args.scope (meaning_view c.args.meaning.now) c.args.segments.now.items (option_map meaning_view c.said-outer.result) there (sym c.lies_in.ensures ∙ c.if-lies_in.true)

pub returns : goal.returns
returns c =
    let xs : List Segment = c.args.segments.now.items in
    let r = c.args.scope in
    let n = c.begun-number.result in
    let bound : n ≤ length xs = subst (λ (l : List Segment). n ≤ length l) c.deref-2.ensures.value c.begun-number.ensures.bound in
    let begun : AreRising xs → AllByRecursion (λ s. s.from ≤ r.from) (take n xs) = subst (λ l. AreRising l → AllByRecursion (λ s. s.from ≤ r.from) (take n l)) c.deref-2.ensures.value c.begun-number.ensures.begun in
    let later : AreRising xs → AllByRecursion (λ s. r.from < s.from) (drop n xs) = subst (λ l. AreRising l → AllByRecursion (λ s. r.from < s.from) (drop n l)) c.deref-2.ensures.value c.begun-number.ensures.later in
    let there : AreRising xs → option_map meaning_view c.said-outer.result ≡ said r.from xs = subst (λ l. AreRising l → option_map meaning_view c.said-outer.result ≡ said r.from l) c.deref.ensures.value c.said-outer.ensures in
    adds_there r c.args.meaning.now c.said-outer.result xs _ _ n c.if-scope.false bound begun later there (sym c.lies_in.ensures ∙ c.if-lies_in.false) c.in_ok-close.ensures c.in_ok-insert.ensures.items
