use Rattle.go_scopes_bodies.proofs.Listed.{told_onto}
use Rattle.go_scopes_bodies.proofs.laws.lists_tell_one_behind_the_other.Goals as goal

pub returns : goal.returns
returns c = told_onto
