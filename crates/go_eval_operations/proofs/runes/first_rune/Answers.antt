use Rattle.std.proofs.Common.{◌≡◌, ◌<◌, sym, ap, ◌∙◌, subst, length, List, ℕ}
use Rattle.go_meaning.specs.Texts.{first_bytes}
use Rattle.go_eval_operations.specs.Places.{rune_told}
use Rattle.go_eval_operations.proofs.RunePlaces.{rune_is_none}
use Rattle.go_eval_operations.proofs.runes.first_rune.Goals as goal

pub returns-in-None-clause-code : goal.returns-in-None-clause-code
returns-in-None-clause-code c =
    let f : c.first_bytes-first.result.now ≡ first_bytes c.args.bytes.now = c.first_bytes-first.ensures.bytes in
    sym (rune_is_none c.args.bytes.now (subst (λ (xs : List ℕ). 0 < length xs) f c.first_bytes-first.ensures.some) (sym (c.in-None.ensures ∙ ap rune_told f))).0

pub returns-in-None-clause-width : goal.returns-in-None-clause-width
returns-in-None-clause-width c =
    let f : c.first_bytes-first.result.now ≡ first_bytes c.args.bytes.now = c.first_bytes-first.ensures.bytes in
    sym (rune_is_none c.args.bytes.now (subst (λ (xs : List ℕ). 0 < length xs) f c.first_bytes-first.ensures.some) (sym (c.in-None.ensures ∙ ap rune_told f))).1
