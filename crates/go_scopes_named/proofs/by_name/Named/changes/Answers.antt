use Rattle.std.proofs.Common.{◌≡◌, ◌∙◌, [], sym, ap, subst}
use Rattle.std.proofs.lemmas.Result.{IfOk-weaker}
use Rattle.go_scopes_named.specs.Changes.{AreAscending, AreChanges}
use Rattle.go_scopes_named.specs.Named.{all_meanings}
use Rattle.go_scopes_named.proofs.Changing.{changes_told, froms, in_order}
use Rattle.go_scopes_named.proofs.by_name.Named.changes.Goals as goal

pub returns-in-None-clause-changes : goal.returns-in-None-clause-changes
returns-in-None-clause-changes c =
    let w = c.args.name.now in
    let ms = all_meanings c.args.self.now in
    subst (AreChanges c.args.file w ms) (sym c.new.ensures.items) (changes_told c.args.file w ms [] (c.requires.nested c.args.file) c.in-None.ensures)

pub returns-in-Some-clause-order : goal.returns-in-Some-clause-order
returns-in-Some-clause-order c =
    let ss = c.in-Some.segments.now.items in
    let is : froms c.deref.result.now ≡ froms ss = ap froms c.deref.ensures.value in
    IfOk-weaker c.beginnings.result _ _ (λ v e. subst AreAscending (sym (e ∙ is)) (in_order ss c.in-Some.ensures.rising)) c.beginnings.ensures

pub returns-in-Some-clause-changes : goal.returns-in-Some-clause-changes
returns-in-Some-clause-changes c =
    let w = c.args.name.now in
    let ms = all_meanings c.args.self.now in
    let ss = c.in-Some.segments.now.items in
    let is : froms c.deref.result.now ≡ froms ss = ap froms c.deref.ensures.value in
    IfOk-weaker c.beginnings.result _ _ (λ v e. subst (AreChanges c.args.file w ms) (sym (e ∙ is)) (changes_told c.args.file w ms ss (c.requires.nested c.args.file) c.in-Some.ensures)) c.beginnings.ensures
