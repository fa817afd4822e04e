-- A window and the call in its place end likewise.
use Rattle.std.proofs.Common.{◌≡◌, ℕ, suc, ◌+◌, List, refl, ap, ◌∙◌, arith}
use Rattle.go_meaning.specs.Values.{Value}
use Rattle.go_meaning.specs.Computations.{Ending, Next, Return, Break, Continue, Fallthrough, Panics, Outcome, Ends, Undecided}
use Rattle.go_meaning.specs.Meaning.{Program}
use Rattle.go_meaning_simulation.specs.Locals.{Agree}
use Rattle.go_meaning_simulation.specs.Links.{nowhere}
use Rattle.go_meaning_simulation.proofs.Public.{Frames, Exits, after, values_in, ending_with, Meets, exits, flip_links, AllIn, toll_at_most}
use Rattle.go_meaning_numbers.specs.Moved.{moved, world_moved}
use Rattle.go_meaning_numbers.specs.Laws.{Moves}
use Rattle.go_meaning_numbers.proofs.Public.{forward, backward, mirrored, start_moved}
use Rattle.extract_call.specs.Extraction.{Extracts, function_links}
use Rattle.extract_call.specs.Laws.{ending_moved, FramesAfter, EndsLikewise, EndedLikewise, row, CallDoesAsWindow, WindowDoesAsCall, Gap, CallsOneTurnLater, StopsAtOnce}
use Rattle.extract_call.proofs.Windows.{outer_runs, outer_stops, outer_is_deep, outer_is_bounded}
use Rattle.extract_call.proofs.Extraction.{Body, all_in, call_at, back_room, back_all_in, window_at}

pub calls_later : (Q : Program) (x : Gap Q) → CallsOneTurnLater Q x
calls_later Q x = outer_runs Q x.h x.new x.there x.has x.args x.targets x.fresh x.gap x.is_gap x.statements x.given x.is_body

pub stops_at_once : (Q : Program) (x : Gap Q) → StopsAtOnce Q x
stops_at_once Q x n depth f w turns = (
  outer_stops Q x.h x.new x.there x.has x.args x.targets x.fresh x.gap x.is_gap x.statements x.given x.is_body n depth f w,
  outer_is_deep Q x.h x.new x.there x.has x.args x.targets x.fresh x.gap x.is_gap x.statements x.given x.is_body n f w turns,
  outer_is_bounded Q x.h x.new x.there x.has x.args x.targets x.fresh x.gap x.is_gap x.statements x.given x.is_body depth f w turns,
)

module _ (s : ℕ → ℕ) where
  ending_is : (e : Ending) (vs : List Value) → vs ≡ moved s (values_in e) → ending_with e vs ≡ ending_moved s e
  ending_is (Next us) vs h = ap Next h
  ending_is (Return us) vs h = ap Return h
  ending_is Break vs h = refl
  ending_is Continue vs h = refl
  ending_is Fallthrough vs h = refl
  ending_is (Panics p) vs h = refl

  ending_was : (e : Ending) (vs : List Value) → values_in e ≡ moved s vs → e ≡ ending_moved s (ending_with e vs)
  ending_was (Next us) vs h = ap Next h
  ending_was (Return us) vs h = ap Return h
  ending_was Break vs h = refl
  ending_was Continue vs h = refl
  ending_was Fallthrough vs h = refl
  ending_was (Panics p) vs h = refl

  frames_after : {R T : Frames} {X : Exits} → AllIn R T X → (e : Ending) (f f' : List Value) → after T X e f f' → FramesAfter s R e f f'
  frames_after all (Next vs) f f' h = all.next f f' h
  frames_after all (Return vs) f f' h = all.back f f' h
  frames_after all Break f f' h = all.breaks f f' h
  frames_after all Continue f f' h = all.continues f f' h
  frames_after all Fallthrough f f' h = all.falls f f' h
  frames_after all (Panics p) f f' h = tt

  likewise : {R T : Frames} {X : Exits} → AllIn R T X → (a m t : ℕ) (new : ℕ → Outcome) (old : Outcome) → Meets (forward s) a T X m t new old → EndsLikewise s R a m t new old
  likewise {X = X} all a m t new (Ends e f w left) h =
      let paid = toll_at_most X e in
      let free = all.free in
      (h.1, h.3, frames_after all e f h.1 h.5, omega (arith, h.7, paid, free), λ x. h.8 x ∙ ap (λ y. Ends y h.1 h.2 x) (ending_is e h.0 h.4) ∙ ap (λ y. Ends (ending_moved s e) h.1 y x) h.6)
  likewise all a m t new (Undecided o) h = λ x lx. let free = all.free in h x (omega (arith, lx, free))

  -- here the frames of the new side come first
  module _ (R T : Frames) (X : Exits) (all : AllIn (λ f' f. R f f') T X) where
    frames_before : (e : Ending) (vs f f' : List Value) → after T X e f' f → FramesAfter s R (ending_with e vs) f f'
    frames_before (Next us) vs f f' h = all.next f' f h
    frames_before (Return us) vs f f' h = all.back f' f h
    frames_before Break vs f f' h = all.breaks f' f h
    frames_before Continue vs f f' h = all.continues f' f h
    frames_before Fallthrough vs f f' h = all.falls f' f h
    frames_before (Panics p) vs f f' h = tt

    likewise_back : (t : ℕ) (old : ℕ → Outcome) (new : Outcome) → Meets (backward s) 1 T X 0 t old new → EndedLikewise s R t old new
    likewise_back t old (Ends e' f' w' left) h =
        let paid = toll_at_most X e' in
        let free = all.free in
        (ending_with e' h.0, h.1, h.2, h.3, ending_was e' h.0 h.4, frames_before e' h.0 h.1 f' h.5, h.6, omega (arith, h.7, paid, free), h.8)
    likewise_back t old (Undecided o) h = λ x lx. let free = all.free in h x (omega (arith, lx, free))

  module _ (k : ℕ) (P Q : Program) (e : Extracts s k P Q) (j : ℕ) where
    abbrev R : Frames
    R f f' = Agree (Moves s) (e.windows.bodies (e.windows.member j).function) f f'

    pub call_does_as_window : CallDoesAsWindow s k P Q e j
    call_does_as_window n n' depth depth' f f' w turns le deep a =
        likewise (all_in (forward s) P Q k e.windows e.fits (start_moved s P Q e.count) j) (k + 1) 1 turns (row Q (suc n') (e.windows.member j).gap depth' f' (world_moved s w)) (row P n (e.windows.member j).old depth f w turns)
        ((call_at (forward s) P Q k e.windows e.fits (start_moved s P Q e.count) j n n' le).by depth depth' f f' w (world_moved s w) turns refl a deep)

    pub window_does_as_call : WindowDoesAsCall s k P Q e j
    window_does_as_call n n' depth depth' f f' w turns le deep a =
        likewise_back R (λ f' f. R f f') (exits (backward s) (flip_links (function_links (Moves s) P Q k e.windows (e.windows.member j).function)) (back_room (forward s) P Q k e.windows e.fits (start_moved s P Q e.count) (backward s) (mirrored s) (Body (e.windows.member j).function)) nowhere)
        (back_all_in (forward s) P Q k e.windows e.fits (start_moved s P Q e.count) (backward s) (mirrored s) j) turns (row P n' (e.windows.member j).old depth' f w) (row Q n (e.windows.member j).gap depth f' (world_moved s w) turns)
        ((window_at (forward s) P Q k e.windows e.fits (start_moved s P Q e.count) (backward s) (mirrored s) j n n' le).by depth depth' f' f (world_moved s w) w turns refl a (omega (arith, deep)))
