use Rattle.go_stmts_defs.specs.Reading.{reading}
use Rattle.go_stmts_elsewhere.proofs.Replacing.{changed_read, forgotten}
use Rattle.go_stmts_elsewhere.proofs.laws.statements_are_read_around_gaps.Goals as goal

pub returns : goal.returns
returns c p q m l s t gaps f g h x y d each k o =
    forgotten c.statements_follow_from_their_tokens.ensures p q m l s t gaps each (reading f h x) (reading g h y) (changed_read c.statements_follow_from_their_tokens.ensures p q m l s t gaps each f g k h x y d o)
