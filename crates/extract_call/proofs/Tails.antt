-- The same for a window that ends in `return` and a site that returns what the new function returns: one turn more for each call
-- of the old run, whatever the number of windows. It shows what the toll is for.
use Rattle.std.proofs.Common.{◌≡◌, ℕ, zero, suc, ◌+◌, ◌*◌, ◌≤◌, List, [], refl, sym, ap, ◌∙◌, subst, arith}
use Rattle.std.specs.Prelude.{true, slice_get}
use Rattle.go_meaning.specs.Values.{Value}
use Rattle.go_meaning.specs.Computations.{World, Next, Return, Break, Continue, Fallthrough, Panics, Outcome, Ends, Undecided, output_of, Comp, go_on, spend, enter}
use Rattle.go_meaning.specs.Meaning.{frame_of, entered, called, Program, bounded}
use Rattle.go_meaning.specs.Laws.{IsPrefix}
use Rattle.go_meaning_simulation.specs.Likeness.{Likeness}
use Rattle.go_meaning.proofs.Public.{Grows}
use Rattle.go_meaning_simulation.proofs.Public.{no_frames, Frames, Exits, Follows, Meets}
use Rattle.extract_call.specs.Calls.{arguments}
use Rattle.extract_call.specs.Laws.{kept, give_back, Tail, TailCallsOneTurnLater}
use Rattle.extract_call.proofs.Calls.{tail_runs, body_runs}

give_back_output : (f : List Value) (oc : Outcome) → output_of (give_back true f oc) ≡ output_of oc
give_back_output f (Ends (Next vs) g w t) = refl
give_back_output f (Ends (Return vs) g w t) = refl
give_back_output f (Ends Break g w t) = refl
give_back_output f (Ends Continue g w t) = refl
give_back_output f (Ends Fallthrough g w t) = refl
give_back_output f (Ends (Panics p) g w t) = refl
give_back_output f (Undecided o) = refl

-- ---- the call of a function with a body

module _ (Q : Program) (x : Tail Q) where
  call_is : (n : ℕ) (vs : List Value) → called (bounded Q n) vs (slice_get Q.functions x.h) ≡ spend (enter (frame_of x.new vs) (bounded Q n x.new.body))
  call_is n vs = ap (called (bounded Q n) vs) x.there ∙ ap (λ b. spend (entered b (frame_of x.new vs) (bounded Q n x.new.body))) x.has

  pub tail_calls_later : TailCallsOneTurnLater Q x
  unfolding spend enter
  tail_calls_later n d f w t =
      tail_runs Q.rights (λ g vs. called (bounded Q (suc n)) vs (slice_get Q.functions g)) (bounded Q (suc n)) x.is_tail (suc d) f w (suc t)
      ∙ ap (λ (c : Comp). go_on (c (suc d) f w (suc t)) (λ vs g w1 t1. Ends (Return (kept x.keeps vs)) g w1 t1)) (call_is (suc n) (arguments f x.args))
      ∙ ap (λ oc. go_on oc (λ vs g w1 t1. Ends (Return (kept x.keeps vs)) g w1 t1)) (body_runs Q.rights (λ g vs. called (bounded Q n) vs (slice_get Q.functions g)) (bounded Q n) x.is_body f d (frame_of x.new (arguments f x.args)) w t)

-- ---- what follows, where what is given is returned

-- In a window that ends in a return nothing goes on.
pub record Returning (Z : Exits) : Type 0 where
  pub breaks : (f f' : List Value) → Z.breaks f f' → ⊥
  pub continues : (f f' : List Value) → Z.continues f f' → ⊥
  pub falls : (f f' : List Value) → Z.falls f f' → ⊥
  pub free : Z.toll ≡ 0

module _ (L : Likeness) (a : ℕ) (X Z : Exits) (only : Returning Z) (paid : 1 ≤ X.toll) (back : (f f' : List Value) → X.back f f') where
  -- at no cost where it goes on, which it never does, for whatever frames T behind it
  meets : (T : Frames) (t : ℕ) (f' : List Value) (within new : ℕ → Outcome) (oc : Outcome) → ((x : ℕ) → new (suc x) ≡ give_back true f' (within x)) → Meets L a no_frames Z 0 t within oc → Meets L a T X 0 t new oc
  meets T t f' within new (Ends (Next vs) f1 w1 left) runs h = absurd h.5
  meets T t f' within new (Ends (Return vs) f1 w1 left) runs h = (
    h.0,
    f',
    h.2,
    suc h.3,
    h.4,
    back f1 f',
    h.6,
    omega (arith, h.7, only.free, paid),
    λ x. let z : suc h.3 + x ≡ suc (h.3 + x) = omega arith in ap new z ∙ runs (h.3 + x) ∙ ap (give_back true f') (h.8 x),
  )
  meets T t f' within new (Ends Break f1 w1 left) runs h = absurd (only.breaks f1 h.1 h.5)
  meets T t f' within new (Ends Continue f1 w1 left) runs h = absurd (only.continues f1 h.1 h.5)
  meets T t f' within new (Ends Fallthrough f1 w1 left) runs h = absurd (only.falls f1 h.1 h.5)
  meets T t f' within new (Ends (Panics k) f1 w1 left) runs h = (
    [],
    f',
    h.2,
    suc h.3,
    L.nothing,
    tt,
    h.6,
    omega (arith, h.7, only.free, paid),
    λ x. let z : suc h.3 + x ≡ suc (h.3 + x) = omega arith in ap new z ∙ runs (h.3 + x) ∙ ap (give_back true f') (h.8 x),
  )
  meets T t f' within new (Undecided o) runs h = λ x lx. late x lx
    where
      late : (x : ℕ) → a * t + 0 + X.toll ≤ x → IsPrefix o (output_of (new x))
      late zero lx = absurd (omega (arith, lx, paid))
      late (suc y) lx = subst (IsPrefix o) (sym (ap output_of (runs y) ∙ give_back_output f' (within y))) (h y (omega (arith, lx, paid, only.free)))

  pub tail_follows : (p q : ℕ) (R T : Frames) (begins : List Value → List Value) (old new inner : Comp) → Grows new → ((d : ℕ) (f : List Value) (w : World) (t : ℕ) → new (suc d) f w (suc t) ≡ give_back true f (inner d (begins f) w t)) →
      ((d d' : ℕ) (f f' : List Value) (w w' : World) (t : ℕ) → L.worlds w w' → R f f' → p * d + q ≤ d' → Meets L a no_frames Z 0 t (inner d' (begins f') w') (old d f w t)) → Follows L a p (suc q) R T X 0 old new
  tail_follows p q R T begins old new inner g runs window = record { grows = g; by = by }
    where
      by : (d d' : ℕ) (f f' : List Value) (w w' : World) (t : ℕ) → L.worlds w w' → R f f' → p * d + suc q ≤ d' → Meets L a T X 0 t (new d' f' w') (old d f w t)
      by d zero f f' w w' t l r dd = absurd (omega (arith, dd))
      by d (suc d') f f' w w' t l r dd = meets T t f' (inner d' (begins f') w') (new (suc d') f' w') (old d f w t) (λ x. runs d' f' w' x) (window d d' f f' w w' t l r (omega (arith, dd)))

-- ---- the other way round; here the frames of the package with the call come first

module _ (L : Likeness) (X Z : Exits) (only : Returning Z) (back : (f' f : List Value) → X.back f' f) where
  back_meets : (T : Frames) (t : ℕ) (f' : List Value) (window : ℕ → Outcome) (oc : Outcome) → Meets L 1 no_frames Z 0 t window oc → Meets L 1 T X 0 (suc t) window (give_back true f' oc)
  back_meets T t f' window (Ends (Next vs) g' w' left) h = absurd h.5
  back_meets T t f' window (Ends (Return vs) g' w' left) h = (h.0, h.1, h.2, h.3, h.4, back f' h.1, h.6, omega (arith, h.7, only.free), h.8)
  back_meets T t f' window (Ends Break g' w' left) h = absurd (only.breaks g' h.1 h.5)
  back_meets T t f' window (Ends Continue g' w' left) h = absurd (only.continues g' h.1 h.5)
  back_meets T t f' window (Ends Fallthrough g' w' left) h = absurd (only.falls g' h.1 h.5)
  back_meets T t f' window (Ends (Panics k) g' w' left) h = (h.0, h.1, h.2, h.3, h.4, tt, h.6, omega (arith, h.7, only.free), h.8)
  back_meets T t f' window (Undecided o) h = λ x lx. h x (omega (arith, lx, only.free))

  pub tail_follows_back : (T : Frames) (t d : ℕ) (f' f : List Value) (w' w : World) (old inner new : Comp) (begins : List Value → List Value) → old (suc d) f' w' (suc t) ≡ give_back true f' (inner d (begins f') w' t) → (d' : ℕ) → Meets L 1 no_frames Z 0 t (new d' f w) (inner d (begins f') w' t) → Meets L 1 T X 0 (suc t) (new d' f w) (old (suc d) f' w' (suc t))
  tail_follows_back T t d f' f w' w old inner new begins e d' h = subst (Meets L 1 T X 0 (suc t) (new d' f w)) (sym e) (back_meets T t f' (new d' f w) (inner d (begins f') w' t) h)
