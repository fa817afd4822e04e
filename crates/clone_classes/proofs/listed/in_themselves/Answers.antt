use Rattle.std.proofs.Common.{◌≡◌, ◌+◌, List, [], ◌∷◌, ◌++◌, take, sym, subst, ap, ◌∙◌}
use Rattle.std.proofs.lemmas.List.{take_more}
use Rattle.go_typed.specs.declared.window.Class.{Class}
use Rattle.clone_window.specs.Bodies.{bodies_of}
use Rattle.clone_classes.specs.Choices.{place_of}
use Rattle.clone_classes.specs.Orders.{AreOrdered}
use Rattle.clone_classes.proofs.Orders.{ordered-more}
use Rattle.clone_classes.proofs.listed.in_themselves.Goals as goal

pub loop-group-preserved : goal.loop-group-preserved
loop-group-preserved c =
    let place = place_of (bodies_of c.args.checked.now.functions) in
    let i = c.loop-group.group-index in
    let xs = c.args.groups.now in
    let P : List Class → Type 0 = λ cs. AreOrdered place cs c.push.new.self.items in
    let Q : List Class → Type 0 = λ ds. AreOrdered place (take i xs ++ c.group-item.result ∷ []) ds in
    let there : take i xs ++ c.group-item.result ∷ [] ≡ take (i + 1) xs = ap (λ x. take i xs ++ x ∷ []) c.group-item.is ∙ sym (take_more xs i c.group-item.result c.loop-group-test.true) in
    subst P there (subst Q (sym c.in_ok-push.ensures.items) (ordered-more place (take i xs) c.loop-group.classes.items c.group-item.result c.in_ok-in_itself.field-0 c.loop-group.invariant c.in_ok-in_itself.ensures))
