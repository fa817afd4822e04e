use Rattle.std.proofs.Common.{◌≡◌, ℕ, ◌+◌, ◌<◌, ◌≤◌, ◌⊎◌, inl, inr, Some, subst, arith}
use Rattle.std.specs.Prelude.{slice_get}
use Rattle.std.proofs.lemmas.Bool.{cases_lt}
use Rattle.go_declarations.specs.Views.{seen_all}
use Rattle.go_package_defs.specs.Knowledge.{Outline, outlines, is_type}
use Rattle.go_package_stages.specs.Marked.{IsMarkedAs}
use Rattle.go_package_stages.proofs.marked.are_behind.Goals as goal

step : (P : ℕ → Type 0) (m n : ℕ) → ((k : ℕ) → k < m → P k) → P m → n < m + 1 → P n
step P m n f h l = on (cases_lt n m)
  where
    on : (n < m) ⊎ (m ≤ n) → P n
    on (inl a) = f n a
    on (inr b) = subst P (let e : m ≡ n = omega (arith, l, b) in e) h

pub loop-number-preserved : goal.loop-number-preserved
loop-number-preserved c = λ p n o l tells at.
    let t = c.args.trial.now in
    let ds = seen_all c.args.specifications.now in
    step (λ k. (w : Outline) → slice_get (outlines p ds) k ≡ Some w → IsMarkedAs t k w (is_type w.specification.entity)) c.loop-number.number n
    (λ k b w f. c.loop-number.invariant p k w b tells f) (λ w f. c.is_behind.ensures c.if-not-is_behind.false p w tells f) l o at

pub returns : goal.returns
returns c = λ yes p n o l tells at.
    let test = c.loop-number-test.false in
    c.loop-number.invariant p n o (let b : n < c.loop-number.number = omega (arith, l, test) in b) tells at
