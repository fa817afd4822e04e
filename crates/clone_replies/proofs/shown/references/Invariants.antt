use Rattle.std.proofs.Common.{◌≡◌, map, take}
use Rattle.clone_replies.proofs.shown.references.Given as goal

abbrev pub invariant-loop-name : goal.invariant-loop-name
invariant-loop-name l = map (λ name. name.now) l.references.items ≡ take l.name-index l.names
