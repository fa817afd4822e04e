use Rattle.std.proofs.Common.{◌≡◌, ◌-◌, ◌∙◌, length, map, drop, ap, sym, arith}
use Rattle.std.proofs.lemmas.Grind.{common_steps}
use Rattle.std.proofs.lemmas.List.{drop-map}
use Rattle.go_tree.specs.Needs.{needs_of, with_all}
use Rattle.go_scopes_lookup.specs.Views.{asked_view}
use Rattle.go_scopes_cycles.specs.Views.{needed_view}
use Rattle.go_scopes_cycles.proofs.AllNeeded.{last_round, next_round, fresh_round}
use Rattle.go_scopes_cycles.proofs.rounds.all_needed.Goals as goal

pub returns-then-len-end : goal.returns-then-len-end
returns-then-len-end c =
    let asks = map asked_view c.args.lookups.now in
    let xs = map needed_view c.loop-round.all.items in
    let ys = map needed_view c.push_round.new.out.items in
    let round : ys ≡ with_all (needs_of asks xs) xs = c.in_ok-push_round.ensures ∙ ap (λ zs. with_all (needs_of asks (map needed_view zs)) xs) c.deref.ensures.value ∙ sym c.loop-round.invariant.fresh in
    let same : length ys ≡ length xs = grind (arith, common_steps) in
    last_round asks (c.args.rounds - c.loop-round._round) xs ys _ c.loop-round.invariant.left round same

pub loop-round-preserved : goal.loop-round-preserved
loop-round-preserved c =
    let asks = map asked_view c.args.lookups.now in
    let olds = c.loop-round.all.items in
    let news = c.push_round.new.out.items in
    let xs = map needed_view olds in
    let ys = map needed_view news in
    let round : ys ≡ with_all (needs_of asks xs) xs = c.in_ok-push_round.ensures ∙ ap (λ zs. with_all (needs_of asks (map needed_view zs)) xs) c.deref.ensures.value ∙ sym c.loop-round.invariant.fresh in
    let end : c.len-end.result ≡ length xs = grind (arith, common_steps) in
    let copied : c.in_ok-fresh-2.fresh.items ≡ drop (length xs) news = c.in_ok-fresh-2.ensures ∙ ap (drop c.len-end.result) c.deref-in-loop-round.ensures.value ∙ ap (λ n. drop n news) end in
    let behind : drop (length xs) ys ≡ map needed_view c.in_ok-fresh-2.fresh.items = drop-map needed_view (length xs) news ∙ ap (map needed_view) (sym copied) in
    record {
      left = next_round asks c.args.rounds c.loop-round._round xs ys _ c.loop-round-test.true c.loop-round.invariant.left round;
      fresh = fresh_round asks xs ys round ∙ ap (λ n. with_all (needs_of asks n) ys) behind;
    }
