use Rattle.std.proofs.Common.{◌≡◌, suc, ◌++◌, [], drop}
use Rattle.clone_classes.specs.Choices.{apart}
use Rattle.clone_classes.proofs.choose.apart.Given as goal

abbrev pub invariant-loop-place : goal.invariant-loop-place
invariant-loop-place l =
    (apart [] 1 l.places ≡ l.numbers.items ++ apart l.taken (suc l.number) (drop l.place-index l.places)) × (l.number ≡ l.place-index)
