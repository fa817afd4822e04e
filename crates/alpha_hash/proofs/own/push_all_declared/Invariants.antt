use Rattle.std.proofs.Common.{◌≡◌, ◌++◌, drop, true}
use Rattle.go_typed.specs.Views.{views}
use Rattle.alpha_hash_defs.specs.Words.{all_declared}
use Rattle.alpha_hash.specs.Shown.{knows_parts, naming, shown}
use Rattle.alpha_hash.proofs.own.push_all_declared.Given as goal

abbrev pub invariant-loop-part : goal.invariant-loop-part
invariant-loop-part l =
    (shown l.fn.out.items ++ all_declared (naming l.names) l.inside (views l.parts) ≡ shown l.out.items ++ all_declared (naming l.names) l.inside (views (drop l.part-index l.parts)))
    × (knows_parts l.names (views (drop l.part-index l.parts)) ≡ true)
