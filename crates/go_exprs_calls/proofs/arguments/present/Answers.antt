use Rattle.std.proofs.Common.{◌≡◌, ◌+◌, ◌<◌, length, drop, get_or, Some, refl, sym, ◌∙◌, arith}
use Rattle.go_typed.specs.Views.{Known, AllKnown}
use Rattle.go_exprs_rules.proofs.Public.{known_at}
use Rattle.go_exprs_calls.proofs.Lists.{present_step, known_push}
use Rattle.go_exprs_calls.proofs.arguments.present.Goals as goal

pub loop-part-preserved : goal.loop-part-preserved
loop-part-preserved c =
    let t = c.args.types.now in
    let k = length t.shapes in
    let ps = c.args.parts.now in
    let i = c.loop-part.part-index in
    let lt : i < length ps = omega arith in
    let is : Some c.in-Some.part ≡ get_or ps i c.part-item.result = sym c.in-Some.is ∙ c.part-item.is in
    let both : Known k c.in-Some.part × AllKnown k (drop (i + 1) ps) = known_at k ps i c.in-Some.part c.part-item.result lt is c.loop-part.invariant.left in
    record {
      left = both.1;
      known = known_push k c.loop-part.nodes.items c.push.new.self.items _ c.in_ok-push.ensures.items c.loop-part.invariant.known both.0;
      nodes = present_step t ps i c.in-Some.part c.part-item.result c.loop-part.nodes.items c.push.new.self.items _ _ lt is refl c.in_ok-push.ensures.items c.loop-part.invariant.nodes;
    }
