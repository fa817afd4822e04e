use Rattle.go_stmts_elsewhere.proofs.Standing.{declared_stands}
use Rattle.go_stmts_elsewhere.proofs.laws.declared_locals_stand.Goals as goal

pub returns : goal.returns
returns c f ts v n t r e = declared_stands n t f ts v r e
