use Rattle.std.proofs.Common.{◌≡◌, ◌+◌, ◌≤◌, length}
use Rattle.clone_script.specs.Reading.{whole, name_from}
use Rattle.clone_script.proofs.name.name_end.Given as goal

abbrev pub invariant-loop-rest : goal.invariant-loop-rest
invariant-loop-rest l = (name_from l.fn.end l.count l.character l.rest ≡ name_from l.fn.end 0 whole l.fn.bytes) × (l.count + l.character.left ≤ 255) × (l.count + length l.rest ≡ length l.fn.bytes)

abbrev pub decreases-loop-rest : goal.decreases-loop-rest
decreases-loop-rest l = length l.rest
