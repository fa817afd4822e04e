use Rattle.alpha_hash.specs.Shown.{shown}
use Rattle.alpha_hash.proofs.Rows.{declared-more, row-known}
use Rattle.std.proofs.Common.{◌++◌}
use Rattle.go_typed.specs.Views.{views}
use Rattle.alpha_hash_defs.specs.Words.{all_declared}
use Rattle.alpha_hash.specs.Shown.{naming}
use Rattle.alpha_hash.proofs.own.push_all_declared.Goals as goal

pub push_part_declared-requires-clause-part : goal.push_part_declared-requires-clause-part
push_part_declared-requires-clause-part c = (row-known c.args.names c.args.parts.now c.loop-part.part-index c.part-item.result c.loop-part-test.true c.part-item.is c.loop-part.invariant.1).0

pub loop-part-preserved : goal.loop-part-preserved
loop-part-preserved c = (
  declared-more c.args.names c.args.inside c.args.parts.now c.loop-part.part-index (shown c.args.out.now.items ++ all_declared (naming c.args.names) c.args.inside (views c.args.parts.now))
      (shown c.loop-part.out.items) (shown c.push_part_declared.new.out.items) c.part-item.result c.loop-part-test.true c.part-item.is c.loop-part.invariant.0 c.in_ok-push_part_declared.ensures,
  (row-known c.args.names c.args.parts.now c.loop-part.part-index c.part-item.result c.loop-part-test.true c.part-item.is c.loop-part.invariant.1).1,
)
