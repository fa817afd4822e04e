use Rattle.std.proofs.Common.{◌∙◌, ◌++◌, ◌∷◌, ◌+◌, [], ℕ, Bool, List, map, drop, get_or, sym, ap, arith}
use Rattle.std.specs.Prelude.{nat_lt}
use Rattle.std.specs.List.{zip}
use Rattle.go_typed.specs.Views.{views}
use Rattle.clone_window.specs.Spans as spans
use Rattle.param_choose.specs.Ends.{end_at}
use Rattle.param_choose.specs.Members.{second_of}
use Rattle.param_choose.proofs.Ends.{row_more, row_whole}
use Rattle.param_choose.proofs.later.later_each.Goals as goal

pub loop-local-preserved : goal.loop-local-preserved
loop-local-preserved c = λ left h.
    let ns = c.args.locals.now in
    let i = c.loop-local.local-index in
    let row = c.loop-local.row.items in
    let told : List ℕ → ℕ → Bool = λ others n. nat_lt c.last_from-upto.result (end_at c.args.ends.now (second_of (zip left others) n)) in
    let this = c.is_later.ensures left h ∙ ap (λ others. told others (get_or ns i 0)) c.deref.ensures.value in
    row_more (told c.in_ok-others.others.items) ns i row c.loop-local-test.true (c.loop-local.invariant left h)
    ∙ ap (λ bs. bs ++ map (told c.in_ok-others.others.items) (drop (i + 1) ns)) (ap (λ b. row ++ b ∷ []) (sym this) ∙ sym c.in_ok-push.ensures.items)

pub returns : goal.returns
returns c = λ left h.
    let ns = c.args.locals.now in
    let told : ℕ → List ℕ → ℕ → Bool = λ upto others n. nat_lt upto (end_at c.args.ends.now (second_of (zip left others) n)) in
    row_whole (told c.last_from-upto.result c.in_ok-others.others.items) ns c.loop-local.local-index c.loop-local.row.items (omega (arith, c.loop-local-test.false)) (c.loop-local.invariant left h)
    ∙ ap (λ k. map (told k c.in_ok-others.others.items) ns) c.last_from-upto.ensures
    ∙ ap (λ others. map (told (spans.last_from 0 (views c.args.statements.now)) others) ns) c.in_ok-others.ensures
