use Rattle.go_typed.specs.Contents.{content}
use Rattle.extract_texts.specs.Texts.{function_for}
use Rattle.extract_rewrite.proofs.Seen.{function_told}
use Rattle.extract_rewrite.proofs.edits.function_edit.Goals as goal

pub returns : goal.returns
returns c =
    let p = c.args.checked.now in
    let t = c.args.template.now in
    function_told p t c.file_length-end.result c.in_ok-text.text (function_for (content p) c.args.name.now t.windows.now) c.requires.template c.file_length-end.ensures c.in_ok-text.ensures
