use Rattle.std.proofs.Common.{◌≡◌, ◌++◌, drop, map}
use Rattle.clone_replies.proofs.hashes.push_numbers.Given as goal

abbrev pub invariant-loop-hash : goal.invariant-loop-hash
invariant-loop-hash l = l.initial.out.items ++ map (λ x. x.1) l.hashes ≡ l.out.items ++ map (λ x. x.1) (drop l.hash-index l.hashes)
