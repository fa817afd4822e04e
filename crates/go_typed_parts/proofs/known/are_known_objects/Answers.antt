use Rattle.std.proofs.Common.{◌+◌, ◌<◌, ◌∙◌, length, drop, sym, ap, arith}
use Rattle.std.specs.Prelude.{◌&&◌}
use Rattle.std.specs.List.{list_all}
use Rattle.go_typed.specs.Packages.{is_below}
use Rattle.go_typed.specs.Trees.{sort_has}
use Rattle.go_typed_parts.proofs.Rows.{all-at}
use Rattle.go_typed_parts.proofs.known.are_known_objects.Goals as goal

pub returns-then-not-is_known_object : goal.returns-then-not-is_known_object
returns-then-not-is_known_object c =
    let p = sort_has (is_below c.args.count) in
    let xs = c.args.env.now.objects in
    let i = c.loop-number.number in
    let h : i < length xs = omega (arith, c.loop-number-test.true, c.count-number-end.ensures) in
    sym (c.loop-number.invariant ∙ all-at p xs i c.is_known_object.result h c.is_known_object.ensures ∙ ap (λ b. b && list_all p (drop (i + 1) xs)) c.if-not-is_known_object.true)

pub loop-number-preserved : goal.loop-number-preserved
loop-number-preserved c =
    let p = sort_has (is_below c.args.count) in
    let xs = c.args.env.now.objects in
    let i = c.loop-number.number in
    let h : i < length xs = omega (arith, c.loop-number-test.true, c.count-number-end.ensures) in
    c.loop-number.invariant ∙ all-at p xs i c.is_known_object.result h c.is_known_object.ensures ∙ ap (λ b. b && list_all p (drop (i + 1) xs)) c.if-not-is_known_object.false
