use Rattle.std.proofs.Common.{◌≡◌, ◌∙◌, ℕ, ◌+◌, ◌≤◌, Bool, Some, drop, length, map, slice_get, ap, sym, arith}
use Rattle.std.specs.Prelude.{min, nat_eq, slice_index}
use Rattle.std.specs.List.{list_all, zip}
use Rattle.std.proofs.lemmas.Option.{slice_get-get_or}
use Rattle.go_typed.specs.Views.{sort_view}
use Rattle.clone_window.specs.Sameness.{is_matched}
use Rattle.clone_window.proofs.Agreement.{agreeing, differing}
use Rattle.clone_window.proofs.Settled.{pair-left, none-left}
use Rattle.clone_window.proofs.pairing.are_matched.Goals as goal

pub returns-then-not-is_matched : goal.returns-then-not-is_matched
returns-then-not-is_matched c =
    let xs = c.args.left.now in
    let ys = c.args.right.now in
    let i = c.loop-index.index in
    let a = slice_index xs i in
    let b = slice_index ys i in
    let M : (ℕ × ℕ) → Bool = is_matched nat_eq (map sort_view c.args.here.now) (map sort_view c.args.there.now) in
    let e : slice_get xs i ≡ Some a = slice_get-get_or xs i 0 (omega (arith, c.loop-index-test.true, c.min-index-end.ensures)) in
    let f : slice_get ys i ≡ Some b = slice_get-get_or ys i 0 (omega (arith, c.loop-index-test.true, c.min-index-end.ensures)) in
    sym (c.loop-index.invariant ∙ ap (list_all M) (pair-left xs ys i a b e f) ∙ differing (M (a, b)) (list_all M (drop (i + 1) (zip xs ys))) (sym c.is_matched.ensures ∙ c.if-not-is_matched.true))

pub loop-index-preserved : goal.loop-index-preserved
loop-index-preserved c =
    let xs = c.args.left.now in
    let ys = c.args.right.now in
    let i = c.loop-index.index in
    let a = slice_index xs i in
    let b = slice_index ys i in
    let M : (ℕ × ℕ) → Bool = is_matched nat_eq (map sort_view c.args.here.now) (map sort_view c.args.there.now) in
    let e : slice_get xs i ≡ Some a = slice_get-get_or xs i 0 (omega (arith, c.loop-index-test.true, c.min-index-end.ensures)) in
    let f : slice_get ys i ≡ Some b = slice_get-get_or ys i 0 (omega (arith, c.loop-index-test.true, c.min-index-end.ensures)) in
    c.loop-index.invariant ∙ ap (list_all M) (pair-left xs ys i a b e f) ∙ agreeing (M (a, b)) (list_all M (drop (i + 1) (zip xs ys))) (sym c.is_matched.ensures ∙ c.if-not-is_matched.false)

pub returns : goal.returns
returns c =
    let xs = c.args.left.now in
    let ys = c.args.right.now in
    let M : (ℕ × ℕ) → Bool = is_matched nat_eq (map sort_view c.args.here.now) (map sort_view c.args.there.now) in
    let ended : min (length xs) (length ys) ≤ c.loop-index.index = omega (arith, c.loop-index-test.false, c.min-index-end.ensures) in
    sym (c.loop-index.invariant ∙ ap (list_all M) (none-left xs ys c.loop-index.index ended))
