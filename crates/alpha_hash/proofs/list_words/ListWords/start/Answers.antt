use Rattle.std.proofs.Common.{◌≡◌, ◌∙◌, ◌+◌, ◌-◌, ◌≤◌, length, drop, map, take, min, ap, arith}
use Rattle.alpha_hash.specs.Shown.{shown}
use Rattle.alpha_hash.specs.Starts.{number_of}
use Rattle.alpha_hash.proofs.Rows.{shown-between, shown-count}
use Rattle.alpha_hash.proofs.Runs.{AreNumbers, start-numbers}
use Rattle.alpha_hash.proofs.list_words.ListWords.start.Goals as goal

pub returns : goal.returns
returns c = λ p h.
    let list = c.args.self.now in
    let i = c.args.index in
    let count = c.min-count.result in
    let begin = c.end_at-begin.result in
    let end = c.end_at-end.result in
    let row = c.words_between.result.now in
    let ns = c.in_ok-numbers.numbers.items in
    let within : i + count ≤ min list.run.count (length list.ends.items - 1) = omega (arith, c.min-count.ensures, c.count.ensures.count, c.requires.place) in
    let row_now : shown row ≡ take (end - begin) (drop begin (shown list.words.items)) =
    ap shown (c.words_between.ensures ∙ ap (λ ws. take (end - begin) (drop begin ws)) c.deref-3.ensures.value) ∙ shown-between begin (end - begin) list.words.items in
    let are : AreNumbers (shown row) ns = λ k l. c.in_ok-numbers.ensures k (omega (arith, l, shown-count row)) in
    let many : i + count + 1 - i ≡ count + 1 = omega arith in
    start-numbers p list h i count begin end (shown row) ns c.in_ok-numbers_at.field-0.items within
    (c.end_at-begin.ensures ∙ ap (λ es. number_of es i) c.deref.ensures.value)
    (c.end_at-end.ensures ∙ ap (λ es. number_of es (i + count)) c.deref-2.ensures.value)
    row_now are
    (c.in_ok-numbers_at.ensures
    ∙ ap (λ ms. map (λ e. number_of ms (e - begin)) (take (i + count + 1 - i) (drop i c.deref-4.result.now))) c.deref-5.ensures.value
    ∙ ap (λ m. map (λ e. number_of ns (e - begin)) (take m (drop i c.deref-4.result.now))) many
    ∙ ap (λ es. map (λ e. number_of ns (e - begin)) (take (count + 1) (drop i es))) c.deref-4.ensures.value)
