-- Sizes of trees bound how many statement lists they have, and their masses.
use Rattle.std.proofs.Common.{ℕ, suc, ◌+◌, ◌<◌, ◌≤◌, Bool, true, false, [], ◌∷◌, length, arith, length-append}
use Rattle.std.specs.Prelude.{nat_lt, if◌then◌else◌}
use Rattle.go_typed.specs.Trees.{Typed, typed, Typeds, none, more, skip}
use Rattle.go_typed.specs.Funcs.{size, sizes}
use Rattle.go_typed.specs.Forms.{is_statement_list}
use Rattle.go_typed.specs.Lists.{own_list, statement_lists, lists_among}
use Rattle.clone_window.specs.Kinds.{outline}
use Rattle.clone_window.specs.Masses.{is_hole, is_inside, weight, mass, masses}

pub some-size : {T : Type 0} (t : Typed T) → 0 < size t
some-size (typed f i j l ps) = omega arith

own-few : {T : Type 0} (b : Bool) (t : Typed T) → length (if b then t ∷ [] else []) ≤ 1
own-few true t = omega arith
own-few false t = omega arith

mutual
  pub lists-few : {T : Type 0} (t : Typed T) → length (statement_lists t) ≤ size t
  lists-few (typed f i j l ps) =
      omega (arith, length-append (own_list (typed f i j l ps)) (lists_among ps), own-few (is_statement_list f) (typed f i j l ps), lists-few-among ps)

  pub lists-few-among : {T : Type 0} (ps : Typeds T) → length (lists_among ps) ≤ sizes ps
  lists-few-among none = omega arith
  lists-few-among (more p ps) = omega (arith, length-append (statement_lists p) (lists_among ps), lists-few p, lists-few-among ps)
  lists-few-among (skip ps) = lists-few-among ps

weight-few : (b : Bool) → (if b then 1 else 0) ≤ 1
weight-few true = omega arith
weight-few false = omega arith

mass-at : (hole : Bool) (w m s : ℕ) → w ≤ 1 → m ≤ s → (if hole then 1 else w + m) ≤ suc s
mass-at true w m s h k = omega arith
mass-at false w m s h k = omega arith

mutual
  pub mass-few : {T : Type 0} (a : Bool) (t : Typed T) → mass a t ≤ size t
  mass-few a (typed f i j l ps) =
      mass-at (is_hole a f l) (weight f) (masses (is_inside a f l) ps) (sizes ps) (weight-few (nat_lt (outline f).kind 50)) (masses-few (is_inside a f l) ps)

  pub masses-few : {T : Type 0} (a : Bool) (ps : Typeds T) → masses a ps ≤ sizes ps
  masses-few a none = omega arith
  masses-few a (more p ps) = omega (arith, mass-few a p, masses-few a ps)
  masses-few a (skip ps) = masses-few a ps
