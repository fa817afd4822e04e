use Rattle.std.proofs.Common.{◌≡◌, ◌∙◌, ◌+◌, ℕ, suc, length, ap, sym, arith}
use Rattle.std.proofs.lemmas.Grind.{common_steps}
use Rattle.window_index.specs.Buckets.{others_in}
use Rattle.window_index.specs.Groups.{changed, rows}
use Rattle.window_index.proofs.Tables.{all-changed, rows-length, set-changed}
use Rattle.window_index.proofs.groups.leave_each.Goals as goal

pub loop-index-preserved : goal.loop-index-preserved
loop-index-preserved c =
    let i : ℕ = c.loop-index.index in
    let next : suc i ≡ i + 1 = omega arith in
    record {
      so_far =
          set-changed (others_in c.args.func) c.loop-index.groups.items i c.index_mut.result.now c.leave_one.new.group (rows c.args.groups.now.items)
          (omega (arith, c.loop-index-test.true, c.loop-index.invariant.long, c.len-index-end.ensures)) c.index_mut.ensures.value c.leave_one.ensures c.loop-index.invariant.so_far
          ∙ ap (λ n. changed (others_in c.args.func) n (rows c.args.groups.now.items)) next;
      long = grind (arith, common_steps, c.loop-index.invariant.long);
    }

pub returns : goal.returns
returns c =
    c.loop-index.invariant.so_far
    ∙ all-changed (others_in c.args.func) c.loop-index.index (rows c.args.groups.now.items) (omega (arith, rows-length c.args.groups.now.items, c.loop-index-test.false, c.len-index-end.ensures))
