use Rattle.std.proofs.Common.{◌∙◌, ap}
use Rattle.go_typed.specs.Contents.{content}
use Rattle.escape_check.specs.Places.{bytes_of, sources_in}
use Rattle.extract_texts.specs.Texts.{call_at}
use Rattle.extract_rewrite.specs.Shown.{found_bytes}
use Rattle.extract_rewrite.proofs.Seen.{edit_told}
use Rattle.extract_rewrite.proofs.edits.window_edit.Goals as goal

pub returns : goal.returns
returns c =
    let p = c.args.checked.now in
    let m = c.args.member.now in
    edit_told c.bytes_of-window.result (found_bytes p m) c.in_ok-text.text (call_at (content p) c.args.name.now c.args.template.now.windows.now m.window)
    (c.bytes_of-window.ensures ∙ ap (bytes_of (sources_in p)) c.window_place.ensures) c.in_ok-text.ensures
