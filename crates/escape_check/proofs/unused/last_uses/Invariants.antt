use Rattle.std.proofs.Common.{map, take}
use Rattle.go_scopes_lookup.specs.Views.{asked_view}
use Rattle.escape_check.specs.Texts.{AreLastUses}
use Rattle.escape_check.proofs.unused.last_uses.Given as goal

abbrev pub invariant-loop-name : goal.invariant-loop-name
invariant-loop-name l = AreLastUses l.ends (map asked_view (take l.name-index l.asked))
