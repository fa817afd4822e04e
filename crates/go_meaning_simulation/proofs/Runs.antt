-- What follows for runs.
use Rattle.std.proofs.Common.{◌≡◌, ℕ, ◌+◌, ◌-◌, ◌*◌, ◌≤◌, List, refl, sym, ap, subst, arith}
use Rattle.go_meaning.specs.Values.{Value}
use Rattle.go_meaning.specs.Computations.{World, Ending, Next, Return, Break, Continue, Fallthrough, Panics, Outcome, Ends, Undecided, output_of}
use Rattle.go_meaning.specs.Meaning.{Ended, Panicked, run_of, printed}
use Rattle.go_meaning.specs.Laws.{IsPrefix, GoesOn}
use Rattle.go_meaning_simulation.specs.Likeness.{Likeness}
use Rattle.go_meaning_simulation.proofs.Following.{Frames, Exits, tolled, ending_with, Meets}

run_printed : (oc : Outcome) → output_of oc ≡ printed (run_of oc)
run_printed (Ends (Next vs) f w t) = refl
run_printed (Ends (Return vs) f w t) = refl
run_printed (Ends Break f w t) = refl
run_printed (Ends Continue f w t) = refl
run_printed (Ends Fallthrough f w t) = refl
run_printed (Ends (Panics p) f w t) = refl
run_printed (Undecided o) = refl

-- how a run goes on that ended so
ended_goes : (e : Ending) (vs' f f' : List Value) (w w' : World) (left left' : ℕ) → w.output ≡ w'.output → GoesOn (run_of (Ends e f w left)) (run_of (Ends (ending_with e vs') f' w' left'))
ended_goes (Next vs) vs' f f' w w' left left' h = ap Ended (sym h)
ended_goes (Return vs) vs' f f' w w' left left' h = ap Ended (sym h)
ended_goes Break vs' f f' w w' left left' h = ap Ended (sym h)
ended_goes Continue vs' f f' w w' left left' h = ap Ended (sym h)
ended_goes Fallthrough vs' f f' w w' left left' h = ap Ended (sym h)
ended_goes (Panics p) vs' f f' w w' left left' h = ap (Panicked p) (sym h)

pub toll_at_most : (X : Exits) (e : Ending) → tolled X e ≤ X.toll
toll_at_most X (Next vs) = omega arith
toll_at_most X (Return vs) = omega arith
toll_at_most X Break = omega arith
toll_at_most X Continue = omega arith
toll_at_most X Fallthrough = omega arith
toll_at_most X (Panics p) = omega arith

-- the new run, at turns that are enough
pub run_meets : (L : Likeness) (a : ℕ) (T : Frames) (X : Exits) (t t' : ℕ) (new : ℕ → Outcome) (old : Outcome) → a * t + X.toll ≤ t' → Meets L a T X 0 t new old → GoesOn (run_of old) (run_of (new t'))
run_meets L a T X t t' new (Ends e f w left) le h =
    let toll = toll_at_most X e in
    let s : h.3 + (t' - h.3) ≡ t' = omega (arith, h.7, le, toll) in
    subst (λ oc. GoesOn (run_of (Ends e f w left)) (run_of oc)) (ap (λ (n : ℕ). new n) s) (subst (λ oc. GoesOn (run_of (Ends e f w left)) (run_of oc)) (sym (h.8 (t' - h.3))) (ended_goes e h.0 f h.1 w h.2 left (t' - h.3) (L.outputs w h.2 h.6)))
run_meets L a T X t t' new (Undecided o) le h = subst (IsPrefix o) (run_printed (new t')) (h t' (omega (arith, le)))
