use Rattle.std.proofs.lemmas.Result.{err_from_is_err_and}
use Rattle.clone_server.proofs.Comings.{gets_behind, gets_piece}
use Rattle.clone_server.proofs.intake.Intake.take_more.Goals as goal

pub returns-in_err-end_behind-clause-told : goal.returns-in_err-end_behind-clause-told
returns-in_err-end_behind-clause-told g c left is =
    let p = err_from_is_err_and c.from_residual.result c.from_residual.ensures.1 in
    rw (p.1, p.2) (gets_behind c.args.self.now left c.in_err-end_behind.field-0.0 (g.S.Source.left c.end_behind.new.script) (c.in_err-end_behind.ensures.told left is))

pub returns-in_err-piece-clause-told : goal.returns-in_err-piece-clause-told
returns-in_err-piece-clause-told g c left is =
    let p = err_from_is_err_and c.from_residual-in_err-piece.result c.from_residual-in_err-piece.ensures.1 in
    rw (p.1, p.2) (gets_piece c.args.self.now left c.in_err-piece.field-0.0 (g.S.Source.left c.read_piece.new.script) (c.in_err-piece.ensures.told left is))
