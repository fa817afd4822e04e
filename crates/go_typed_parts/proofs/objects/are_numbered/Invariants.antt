use Rattle.std.proofs.Common.{◌≡◌, ◌++◌, take, drop}
use Rattle.go_typed.specs.Packages.{referents, referents_from}
use Rattle.go_typed_parts.specs.Shown.{counts_view, AreAtMost}
use Rattle.go_typed_parts.proofs.objects.are_numbered.Given as goal

-- those so far, and those to come
abbrev pub invariant-loop-object : goal.invariant-loop-object
invariant-loop-object l =
    (referents l.objects ≡ take l.number l.env.referents ++ referents_from (counts_view l.counts) (drop l.number l.objects))
    × AreAtMost l.number l.counts
    × (l.number ≡ l.object-index)
