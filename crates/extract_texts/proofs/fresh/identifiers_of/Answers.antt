use Rattle.std.proofs.Common.{◌∙◌, sym, ap, arith}
use Rattle.std.specs.HashSet as set
use Rattle.std.specs.List.{list_any}
use Rattle.escape_check.specs.Names.{names_file}
use Rattle.escape_check.specs.Texts.{same_bytes}
use Rattle.extract_texts.proofs.Identifiers.{file_in, none_left}
use Rattle.extract_texts.proofs.fresh.identifiers_of.Goals as goal

pub loop-file-preserved : goal.loop-file-preserved
loop-file-preserved c = λ w.
    file_in c.args.files.now w.now c.loop-file.file-index c.file-item.result _ _ _ c.loop-file-test.true c.file-item.is (c.in_ok-add_identifiers.ensures w) (c.loop-file.invariant w)

pub returns : goal.returns
returns c = λ s same w.
    none_left (names_file w.now) c.args.files.now c.loop-file.file-index (set.contains same_bytes c.loop-file.identifiers w) _ (omega (arith, c.loop-file-test.false)) (c.loop-file.invariant w)
    ∙ ap (list_any (names_file w.now)) (sym same)
