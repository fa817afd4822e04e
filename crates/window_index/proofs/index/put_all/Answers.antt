use Rattle.std.proofs.Common.{◌≡◌, ◌∙◌, ◌+◌, ◌≤◌, ℕ, Some, slice_get, get_or, refl, ap, arith}
use Rattle.std.proofs.lemmas.Option.{slice_get-get_or}
use Rattle.go_typed.specs.declared.window.Window.{Window}
use Rattle.clone_window.specs.Bodies.{same_in}
use Rattle.window_index.specs.Counting.{group_count}
use Rattle.window_index.proofs.Counting.{put-in-part, put-more}
use Rattle.window_index.proofs.index.put_all.Goals as goal

-- what stands for the window where there is none
abbrev nothing : Window × ℕ
nothing = (record { func = 0; list = 0; first = 0; count = 0 }, 0)

pub returns-in_err-put-clause-compared : goal.returns-in_err-put-clause-compared
returns-in_err-put-clause-compared g c =
    let xs = c.args.hashes.now in
    let i = c.loop-index.index in
    let x : Window × ℕ = get_or xs i nothing in
    put-in-part (same_in c.args.checked.now) xs i x.1 x c.args.buckets.now.entries c.loop-index.buckets.entries c.args.steps.now c.loop-index.steps c.put.new.steps (slice_get-get_or xs i nothing c.loop-index-test.true)
    c.loop-index.invariant refl c.put.ensures.compared

pub loop-index-preserved : goal.loop-index-preserved
loop-index-preserved g c =
    let xs = c.args.hashes.now in
    let i = c.loop-index.index in
    let x : Window × ℕ = get_or xs i nothing in
    let now' = c.tick_entered.new.self in
    let compared : now'.compared ≡ c.put.new.steps.compared = ap (λ s. s.compared) c.tick_entered.ensures in
    let most : c.put.new.steps.compared ≤ c.loop-index.steps.compared + group_count x.1 c.loop-index.buckets.entries = c.in_ok-put.ensures.compared in
    let entered : now'.entered ≡ c.put.new.steps.entered + 1 = ap (λ s. s.entered) c.tick_entered.ensures in
    let before : c.put.new.steps.entered ≡ c.loop-index.steps.entered = ap (λ s. s.entered) c.in_ok-put.ensures.others in
    put-more (same_in c.args.checked.now) xs i x c.args.buckets.now.entries c.loop-index.buckets.entries c.put.new.buckets.entries c.args.steps.now c.loop-index.steps now' (slice_get-get_or xs i nothing c.loop-index-test.true)
    c.loop-index.invariant c.in_ok-put.ensures.ok (omega (arith, compared, most)) (omega (arith, entered, before)) (ap (λ s. s.checked) c.tick_entered.ensures ∙ ap (λ s. s.checked) c.in_ok-put.ensures.others)
