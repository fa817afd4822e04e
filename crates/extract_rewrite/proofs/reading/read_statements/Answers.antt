use Rattle.std.proofs.Common.{subst}
use Rattle.extract_rewrite.specs.Reading.{IsReadOrNone}
use Rattle.extract_rewrite.proofs.FilesRead.{read_anew}
use Rattle.extract_rewrite.proofs.reading.read_statements.Goals as goal

pub returns-in_ok-statements_of-in-Some : goal.returns-in_ok-statements_of-in-Some
returns-in_ok-statements_of-in-Some c =
    read_anew c.args.number c.args.text.now c.in-Some.file c.in_ok-statements_of-in-Some.field-0 (subst (IsReadOrNone c.args.number c.args.text.now) c.in-Some.is c.in_ok-file.ensures)
    c.in_ok-statements_of-in-Some.ensures
