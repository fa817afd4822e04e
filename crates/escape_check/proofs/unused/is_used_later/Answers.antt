use Rattle.std.proofs.Common.{◌≡◌, ◌∙◌, ◌+◌, false, Some, None, sym, ap, arith}
use Rattle.std.specs.Prelude.{nat_lt}
use Rattle.std.specs.HashMap.{get}
use Rattle.std.specs.Option.{option_copied}
use Rattle.std.proofs.lemmas.Bool.Decides.{nat_tests}
use Rattle.escape_check.specs.Texts.{end_in, same_key}
use Rattle.escape_check.proofs.LastUses.{used_told}
use Rattle.escape_check.proofs.unused.is_used_later.Goals as goal

pub returns-in-Some : goal.returns-in-Some
returns-in-Some c = λ p s known.
    let m = c.args.member.now in
    let found : get same_key c.args.ends.now (m.file, (m.window.func, c.args.local)) ≡ Some c.in-Some.end.now = sym c.get.ensures.value ∙ ap option_copied c.in-Some.is in
    ap (λ k. nat_lt k c.in-Some.end.now) (ap (λ a. a + c.from-in-Some.result) c.from.ensures ∙ ap (λ b. m.first + b) c.from-in-Some.ensures)
    ∙ ap (λ o. nat_lt (m.first + m.upto) (end_in o)) (sym found)
    ∙ used_told p m c.args.ends.now c.args.local s known

pub returns-in-None : goal.returns-in-None
returns-in-None c = λ p s known.
    let m = c.args.member.now in
    let none : get same_key c.args.ends.now (m.file, (m.window.func, c.args.local)) ≡ None = sym c.get.ensures.value ∙ ap option_copied c.in-None.is in
    let low : false ≡ nat_lt (m.first + m.upto) 0 = grind (arith, nat_tests) in
    low ∙ ap (λ o. nat_lt (m.first + m.upto) (end_in o)) (sym none) ∙ used_told p m c.args.ends.now c.args.local s known
