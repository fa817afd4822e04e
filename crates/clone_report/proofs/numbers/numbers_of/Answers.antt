use Rattle.std.proofs.Common.{◌≡◌, ◌∙◌, List, ◌++◌, map, take, ap, sym, subst}
use Rattle.std.specs.HashMap.{get}
use Rattle.go_typed.specs.declared.window.Class.{Class}
use Rattle.go_typed.specs.declared.window.Window.{Window}
use Rattle.clone_classes.specs.Listing.{members_of}
use Rattle.clone_report.specs.Keys.{numbered, same_run, with_number, Tells}
use Rattle.clone_report.proofs.Steps.{tells-class}
use Rattle.clone_report.proofs.numbers.numbers_of.Goals as goal

pub loop-index-preserved : goal.loop-index-preserved
loop-index-preserved c =
    let cs = c.args.classes.now in
    let i = c.loop-index.index in
    let x = c.index-classes-index.result in
    let g = get same_run c.put_class.new.numbers in
    let before = numbered 0 (take i (members_of cs)) in
    let same : c.as_slice.result.now ≡ x.members = c.as_slice.ensures ∙ ap (λ (y : Class). y.members) (sym c.index-classes-index.is) in
    tells-class g cs i x c.loop-index-test.true c.index-classes-index.is
    (subst (λ (ws : List Window). Tells g (before ++ map (with_number i) ws)) same (c.in_ok-put_class.ensures before c.loop-index.invariant))
