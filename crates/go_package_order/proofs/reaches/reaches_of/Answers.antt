use Rattle.std.proofs.Common.{◌≡◌, ◌+◌, ◌≤◌, [], ◌∷◌, ◌++◌, length, ap, ◌∙◌, length-append, arith}
use Rattle.go_package_order.specs.Reaches.{shape_reach}
use Rattle.go_package_order.proofs.ReachedTypes.{one_more, all_reaches}
use Rattle.go_package_order.proofs.reaches.reaches_of.Goals as goal

pub loop-id-preserved : goal.loop-id-preserved
loop-id-preserved c =
    let t = c.args.types.now in
    let reach = c.args.reach.now in
    let rs = c.loop-id.reaches.items in
    let zs = c.push.new.self.items in
    let s = c.shape.result.now in
    let many = c.loop-id.invariant.many in
    let more : zs ≡ rs ++ shape_reach reach rs s ∷ [] =
    c.in_ok-push.ensures.items ∙ ap (λ x. rs ++ x ∷ []) (c.shape_reach-most.ensures ∙ ap (λ ys. shape_reach reach ys s) c.deref.ensures.value) in
    record {
      many = omega (arith, many, simp length-append at (ap length more));
      below = one_more reach t rs zs c.loop-id.id s c.count-id-end.ensures.table c.shape.ensures many more c.loop-id.invariant.below;
    }

pub returns : goal.returns
returns c =
    let test = c.loop-id-test.false in
    let count = c.count-id-end.ensures.count in
    all_reaches c.args.reach.now c.args.types.now.shapes c.loop-id.reaches.items c.loop-id.id (let h : length c.args.types.now.shapes ≤ c.loop-id.id = omega (arith, test, count) in h) c.loop-id.invariant.below
