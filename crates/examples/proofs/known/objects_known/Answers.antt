use Rattle.std.proofs.Common.{rules, ℕ, ◌<◌, Some, length, arith}
use Rattle.go_typed.specs.Trees.{Sort, SortHas}
use Rattle.examples.proofs.Rows.{none_below, more_below, all_below}
use Rattle.examples.proofs.known.objects_known.Goals as goal

pub loop-number-init : goal.loop-number-init
loop-number-init c = none_below {B = Sort ℕ} c.args.env.now.objects (λ x. x) (SortHas (λ t. t < length c.args.types.now.shapes))

pub loop-number-preserved : goal.loop-number-preserved
loop-number-preserved c = more_below {B = Sort ℕ} c.args.env.now.objects (λ x. x) (SortHas (λ t. t < length c.args.types.now.shapes)) c.loop-number.number c.loop-number.invariant (c.object_known.ensures (search rules))

pub returns : goal.returns
returns c r = all_below {B = Sort ℕ} c.args.env.now.objects (λ x. x) (SortHas (λ t. t < length c.args.types.now.shapes)) c.loop-number.number (let out = c.loop-number-test.false in let is = c.count.ensures in omega (arith, out, is)) c.loop-number.invariant
