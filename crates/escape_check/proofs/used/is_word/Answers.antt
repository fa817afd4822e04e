use Rattle.std.proofs.Common.{◌∙◌, sym, ap}
use Rattle.std.specs.Prelude.{◌&&◌}
use Rattle.std.specs.Str.{chars}
use Rattle.std.proofs.lemmas.Str.{is_utf8-from_IsUtf8}
use Rattle.escape_check.specs.Names as specs
use Rattle.escape_check.proofs.Words.{no-utf8}
use Rattle.escape_check.proofs.used.is_word.Goals as goal

pub returns-in-Ok : goal.returns-in-Ok
returns-in-Ok c =
    let w = c.args.name.now in
    c.is_name_text.ensures
    ∙ ap (λ bs. specs.is_name_text (chars bs)) c.in-Ok.ensures.cases.0
    ∙ sym (ap (λ b. b && specs.is_name_text (chars w)) (is_utf8-from_IsUtf8 w c.in-Ok.ensures.cases.1))

pub returns-in-Err : goal.returns-in-Err
returns-in-Err c = let w = c.args.name.now in sym (ap (λ b. b && specs.is_name_text (chars w)) (no-utf8 w c.in-Err.ensures.cases.0))
