use Rattle.std.proofs.Common.{◌≡◌, suc, ◌≤◌, sym, ap, ◌∙◌, subst}
use Rattle.std.specs.Prelude.{slice_get, if◌then◌else◌}
use Rattle.go_tokens.specs.Tokens.{kinds}
use Rattle.go_grammar.specs.declared.items.Turn.TheVariants.{Item}
use Rattle.go_grammar.specs.Reader.{turn, lead}
use Rattle.go_grammar.specs.Symbols.{repeated}
use Rattle.go_grammar.specs.Words.{is_word}
use Rattle.go_parse.proofs.Found.{again_item, no_earlier}
use Rattle.go_parse.proofs.next.lead.Goals as goal

pub returns-in-Again-clause-place : goal.returns-in-Again-clause-place
returns-in-Again-clause-place c =
    let w = slice_get (kinds c.args.tokens.now.tokens) c.args.at in
    let i = c.args.at in
    subst (λ z. turn (repeated z) w ≡ Item → c.behind.result ≡ lead (repeated z) i) (sym c.in-Again.is) (λ h. c.behind.ensures ∙ ap (λ b. if b then suc i else i) (again_item c.in-Again.item c.in-Again.separator w h))

pub returns-in-Again-clause-later : goal.returns-in-Again-clause-later
returns-in-Again-clause-later c = subst (λ j. c.args.at ≤ j) (sym c.behind.ensures) (no_earlier (is_word (slice_get (kinds c.args.tokens.now.tokens) c.args.at) c.in-Again.separator) c.args.at)
