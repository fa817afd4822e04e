use Rattle.std.proofs.Common.{ap, sym, subst, ◌∙◌}
use Rattle.clap.specs.Words.{fault_of, matches_of, HasKind, is_simple, is_simple_and_free}
use Rattle.clone_server.specs.Words.{texts_of}
use Rattle.clone_server.proofs.Matched.{simple, plain, rows_found, refused_as}
use Rattle.clone_server.proofs.words.matches_of.Goals as goal

pub returns-in-Ok : goal.returns-in-Ok
returns-in-Ok c =
    let texts = texts_of c.args.words.now in
    rows_found texts _
    (ap (λ a. fault_of a texts) (sym c.in_ok-command.ensures) ∙ c.in-Ok.ensures.kinds (ap is_simple_and_free c.in_ok-command.ensures ∙ simple))
    ((c.in-Ok.ensures.matches (ap is_simple c.in_ok-command.ensures ∙ plain)).0 ∙ ap (λ a. matches_of a texts) c.in_ok-command.ensures)

pub returns-in-Err : goal.returns-in-Err
returns-in-Err c =
    let texts = texts_of c.args.words.now in
    refused_as texts c.in-Err.error c.cause.result
    (subst (λ a. HasKind (fault_of a texts) c.in-Err.error) c.in_ok-command.ensures (c.in-Err.ensures.kinds (ap is_simple_and_free c.in_ok-command.ensures ∙ simple)))
    c.cause.ensures
