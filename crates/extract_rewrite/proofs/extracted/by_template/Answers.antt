use Rattle.extract_rewrite.proofs.Taken.{file_told, something_there}
use Rattle.extract_rewrite.proofs.extracted.by_template.Goals as goal

pub returns : goal.returns
returns c =
    something_there c.args.checked.now c.args.name.now c.args.windows.now c.in_ok-template.template c.in_ok-extracted.extracted c.in_ok-template.ensures.windows c.in_ok-template.ensures.template
    c.in_ok-extracted.ensures.edits c.in_ok-extracted.ensures.counts

pub extraction-requires-clause-file : goal.extraction-requires-clause-file
extraction-requires-clause-file c = file_told c.args.checked.now c.args.texts.now c.in_ok-template.template c.file_bytes-file.result.now c.requires.texts c.in_ok-template.ensures.template c.file_bytes-file.ensures
