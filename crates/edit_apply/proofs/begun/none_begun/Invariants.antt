use Rattle.std.proofs.Common.{◌≡◌, take, map}
use Rattle.edit_apply.specs.Begun.{start}
use Rattle.edit_apply.proofs.begun.none_begun.Given as goal

abbrev pub invariant-loop-file : goal.invariant-loop-file
invariant-loop-file l = l.all.items ≡ map (λ _. start) (take l._file-index l.files)
