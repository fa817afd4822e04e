use Rattle.std.proofs.Common.{◌≡◌, Some, sym, ap, ◌∙◌}
use Rattle.clone_session.proofs.Placed.{placed, held}
use Rattle.clone_session.proofs.copy.file_at.Goals as goal

pub unreachable-requires : goal.unreachable-requires
unreachable-requires c =
    let same : c.in_ok-name.name ≡ c.name_at.result.now = c.in_ok-name.ensures in
    held c.args.texts.now c.args.file c.in_ok-name.name c.files-files.ensures.package.ascends (c.name_at.ensures ∙ ap Some (sym same)) (sym c.in_ok-bytes.ensures ∙ c.in-None.is)

pub returns : goal.returns
returns c =
    let same : c.in_ok-name.name ≡ c.name_at.result.now = c.in_ok-name.ensures in
    placed c.args.texts.now c.args.file c.in_ok-name.name c.in-Some.bytes c.files-files.ensures.package.ascends (c.name_at.ensures ∙ ap Some (sym same)) (sym c.in-Some.is ∙ c.in_ok-bytes.ensures)
