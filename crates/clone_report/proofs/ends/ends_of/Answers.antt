use Rattle.std.proofs.Common.{List, ◌++◌, take, subst}
use Rattle.std.specs.HashMap.{get}
use Rattle.std.specs.List.{flat_map}
use Rattle.go_typed.specs.declared.window.Window.{Window}
use Rattle.clone_classes.specs.Listing.{members_of}
use Rattle.clone_report.specs.Ends.{same_start, Reaches}
use Rattle.clone_report.proofs.Steps.{reaches-class}
use Rattle.clone_report.proofs.ends.ends_of.Goals as goal

pub loop-class-preserved : goal.loop-class-preserved
loop-class-preserved c =
    let cs = c.args.classes.now in
    let i = c.loop-class.class-index in
    let x = c.class-item.result in
    let g = get same_start c.put_class.new.ends in
    let before : List Window = flat_map (λ ws. ws) (take i (members_of cs)) in
    reaches-class g cs i x c.loop-class-test.true c.class-item.is
    (subst (λ (ws : List Window). Reaches g (before ++ ws)) c.as_slice.ensures (c.in_ok-put_class.ensures before c.loop-class.invariant))
