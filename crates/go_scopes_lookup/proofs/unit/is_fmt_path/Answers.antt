use Rattle.std.proofs.Common.{◌≡◌, ◌&&◌, false, true, ap, sym, ◌∙◌}
use Rattle.std.specs.Str.{IsAscii}
use Rattle.std.proofs.lemmas.Str.{IsUtf8-from_ascii, chars-IsAscii}
use Rattle.go_tokens.specs.Literals.{string_value}
use Rattle.go_tree.specs.Units.{is_fmt, word}
use Rattle.go_tree.specs.Imports.{is_ascii}
use Rattle.go_scopes_lookup.proofs.Ascii.{is_ascii-from, is_ascii-not}
use Rattle.go_scopes_lookup.proofs.unit.is_fmt_path.Goals as goal

pub returns-then-not-is_ascii : goal.returns-then-not-is_ascii
returns-then-not-is_ascii c =
    let w = word c.args.tokens.now c.args.number in
    let no : is_ascii w ≡ false = ap is_ascii (sym c.word-text.ensures) ∙ is_ascii-not _ c.if-not-is_ascii.ensures.cases in
    sym (ap (λ b. b && is_fmt (string_value w)) no)

pub returns : goal.returns
returns c =
    let w = word c.args.tokens.now c.args.number in
    let t = c.word-text.result.now in
    let ascii : IsAscii t = c.if-not-is_ascii.ensures.cases in
    let yes : is_ascii w ≡ true = ap is_ascii (sym c.word-text.ensures) ∙ is_ascii-from _ ascii in
    let value : c.in_ok-value.value.items ≡ string_value t = c.in_ok-value.ensures.utf8 (IsUtf8-from_ascii _ ascii) ∙ ap string_value (chars-IsAscii _ ascii) in
    c.is_fmt.ensures ∙ ap is_fmt (c.deref.ensures.value ∙ value ∙ ap string_value c.word-text.ensures) ∙ sym (ap (λ b. b && is_fmt (string_value w)) yes)
