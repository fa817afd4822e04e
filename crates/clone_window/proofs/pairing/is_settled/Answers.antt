use Rattle.std.proofs.Common.{◌≡◌, ◌∙◌, ◌+◌, ◌≤◌, Some, None, length, slice_get, ap, sym, subst, arith}
use Rattle.std.specs.Prelude.{min, nat_eq, slice_index}
use Rattle.std.specs.HashMap.{get}
use Rattle.std.specs.Option.{option_copied}
use Rattle.std.proofs.lemmas.Option.{slice_get-get_or}
use Rattle.clone_window.specs.Pairing.{is_settled}
use Rattle.clone_window.proofs.Settled.{SettledSoFar, settled-again, settled-new, unsettled, taken-all}
use Rattle.clone_window.proofs.pairing.is_settled.Goals as goal
use Rattle.clone_window.proofs.pairing.is_settled.Goals.{in-Some+else-partner-right, in-None+in_ok-insert-in-None}

pub returns-then-partner-right : goal.returns-then-partner-right
returns-then-partner-right c =
    let xs = c.args.left.now in
    let ys = c.args.right.now in
    let i = c.loop-index.index in
    let e : slice_get xs i ≡ Some (slice_index xs i) = slice_get-get_or xs i 0 (omega (arith, c.loop-index-test.true, c.min-index-end.ensures)) in
    let f : slice_get ys i ≡ Some (slice_index ys i) = slice_get-get_or ys i 0 (omega (arith, c.loop-index-test.true, c.min-index-end.ensures)) in
    let t : get nat_eq c.loop-index.partners (slice_index xs i) ≡ Some c.in-Some.partner.now = sym c.get.ensures.value ∙ ap option_copied c.in-Some.is in
    sym (unsettled (get nat_eq c.loop-index.partners) xs ys i (slice_index xs i) (slice_index ys i) c.in-Some.partner.now e f t c.if-partner-right.true c.loop-index.invariant)

pub loop-index-preserved : goal.loop-index-preserved
loop-index-preserved c =
    let xs = c.args.left.now in
    let ys = c.args.right.now in
    let i = c.loop-index.index in
    let a = slice_index xs i in
    let b = slice_index ys i in
    let e : slice_get xs i ≡ Some a = slice_get-get_or xs i 0 (omega (arith, c.loop-index-test.true, c.min-index-end.ensures)) in
    let f : slice_get ys i ≡ Some b = slice_get-get_or ys i 0 (omega (arith, c.loop-index-test.true, c.min-index-end.ensures)) in
    elim c.match-get.branch [
      | in-Some+else-partner-right w ↦
          let t : get nat_eq c.loop-index.partners a ≡ Some w.in-Some.partner.now = sym c.get.ensures.value ∙ ap option_copied w.in-Some.is in
          let s : w.in-Some.partner.now ≡ b = w.if-partner-right.false in
          subst (λ m. SettledSoFar (get nat_eq m) xs ys (i + 1)) (sym w.partners-is)
          (settled-again (get nat_eq c.loop-index.partners) xs ys i a b e f (t ∙ ap Some s) c.loop-index.invariant)
      | in-None+in_ok-insert-in-None w ↦
          let t : get nat_eq c.loop-index.partners a ≡ None = sym c.get.ensures.value ∙ ap option_copied w.in-None.is in
          subst (λ m. SettledSoFar (get nat_eq m) xs ys (i + 1)) (sym w.partners-is)
          (settled-new (get nat_eq c.loop-index.partners) (get nat_eq w.insert.new.self) xs ys i a b e f t (λ q. w.in_ok-insert-in-None.ensures.updates.0 q) c.loop-index.invariant)
    ]

pub returns : goal.returns
returns c =
    let xs = c.args.left.now in
    let ys = c.args.right.now in
    let ended : min (length xs) (length ys) ≤ c.loop-index.index = omega (arith, c.loop-index-test.false, c.min-index-end.ensures) in
    sym (ap is_settled (sym (taken-all xs ys c.loop-index.index ended)) ∙ c.loop-index.invariant.settled)
