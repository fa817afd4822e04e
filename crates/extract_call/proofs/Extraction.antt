-- A package whose windows became calls runs alike.
use Rattle.std.proofs.Common.{ℕ, zero, suc, ◌+◌, ◌*◌, ◌≤◌, List, [], refl, sym, subst, arith, Option}
use Rattle.std.proofs.Math.Nat.{mul-le-mul_right}
use Rattle.std.specs.Prelude.{slice_get}
use Rattle.go_types.specs.Trees.{TypeTree}
use Rattle.go_typed.specs.Trees.{Typeds}
use Rattle.go_meaning.specs.Values.{Value}
use Rattle.go_meaning.specs.Computations.{Comp, in_order}
use Rattle.go_meaning.specs.Doings.{values_of}
use Rattle.go_meaning.specs.Meaning.{meanings, Code, frame_of, called, Program, bounded, program, start, run}
use Rattle.go_meaning.specs.Laws.{GoesOn}
use Rattle.go_meaning_simulation.specs.Likeness.{Likeness, Mirror}
use Rattle.go_meaning_simulation.specs.Links.{Links, Ways, nowhere}
use Rattle.go_meaning_simulation.specs.Locals.{no_locals, none_here, window_links, Agree, Within}
use Rattle.go_meaning_simulation.specs.Mates.{MatesOrNone, missing, found}
use Rattle.go_meaning.proofs.Public.{Grows, in_order_grows, values_grow, called_grows, bounded_grows, meanings_grown}
use Rattle.go_meaning_simulation.proofs.Public.{Frames, Follows, Room, exits, flip_links, flip_statement, flip_chain, flip_room, Base, Mates, neither, both, Claim, FunctionsMatch, chain_step, WindowsFollow, Setting, bounded_follow, program_follows, run_meets, AllIn, body_room, window_room, empty_agree, calls_begin, flip_all}
use Rattle.go_meaning_numbers.proofs.Public.{forward, backward, mirrored, start_moved}
use Rattle.extract_call.specs.Calls.{arguments, results, stored, ready}
use Rattle.extract_call.specs.Extraction
use Rattle.extract_call.specs.Extraction.{Member, Extraction, Extracts}
use Rattle.extract_call.specs.Laws.{row}
use Rattle.extract_call.specs.Alike.{AreAlike}
use Rattle.extract_call.proofs.Frames.{agree_again}
use Rattle.extract_call.proofs.Entering.{enters}
use Rattle.extract_call.proofs.Windows.{Shut, call_follows, window_follows}

-- where a tree stands: outside of functions, in the body of one, or in a window that is entered with this frame
pub data Place : Type 0 where
  Outside : Place
  Body : ℕ → Place
  Window : ℕ → List Value → Place

module _ (L : Likeness) (P Q : Program) (k : ℕ) (x : Extraction L.values P Q k) where
  abbrev M : ℕ → Member L.values P Q x.bodies x.h x.new x.statements x.given
  M j = x.member j

  abbrev IsWindow : ℕ → Typeds TypeTree → Typeds TypeTree → Type 0
  IsWindow = Extraction.IsWindow L.values P Q k x

  abbrev outside_links : Links
  outside_links = Extraction.outside_links L.values P Q k x

  abbrev function_links : ℕ → Links
  function_links g = Extraction.function_links L.values P Q k x g

  abbrev links_at : Place → Links
  links_at Outside = outside_links
  links_at (Body g) = function_links g
  links_at (Window j f0) = window_links L.values (M j).inside

  abbrev room_at : (i : Place) → Room L (links_at i)
  room_at Outside = body_room L no_locals none_here 1 (k + 1)
  room_at (Body g) = body_room L (x.bodies g) (IsWindow g) 1 (k + 1)
  room_at (Window j f0) = window_room L (M j).inside f0

  abbrev deep_at : Place → ℕ
  deep_at Outside = 1
  deep_at (Body g) = 1
  deep_at (Window j f0) = 0

  pays_at : (i : Place) → (links_at i).factor ≤ k + 1
  pays_at Outside = omega arith
  pays_at (Body g) = omega arith
  pays_at (Window j f0) = omega arith

  window_shut : (j : ℕ) (f0 : List Value) → Shut (exits L (links_at (Window j f0)) (room_at (Window j f0)) nowhere)
  window_shut j f0 = record { back = λ f f' h. h; breaks = λ f f' h. h; continues = λ f f' h. h; falls = λ f f' h. h; free = refl }

  abbrev Begins : (j : ℕ) → List Value → List Value
  Begins j f = frame_of x.new (arguments (ready (M j).fresh f) (M j).args)

  enters_at : (j : ℕ) (f f' : List Value) → Agree L.values (x.bodies (M j).function) f f' → Within L.values (M j).inside f (M j).before f (Begins j f')
  enters_at j f f' a = enters L (x.bodies (M j).function) (M j).inside (M j).fresh f f' a x.new (M j).args (M j).before (M j).inside.held (M j).bound (M j).size (M j).count (λ v p h. h)

  comes_at : (j : ℕ) (f f' : List Value) → Agree L.values (x.bodies (M j).function) f f' → (g g' : List Value) → Within L.values (M j).inside f (M j).behind g g' → Agree L.values (x.bodies (M j).function) g (stored (M j).targets (results g' x.given) (ready (M j).fresh f'))
  comes_at j f f' a g g' r = agree_again L (x.bodies (M j).function) (M j).inside (M j).behind (M j).targets x.given (M j).fresh (M j).comes (M j).count f f' a g g' r

  module _ (fits : Extraction.Fits L.values P Q k x L.calls) (starts : (input : List ℕ) → L.worlds (start P input) (start Q input)) where
    -- ---- onward

    abbrev base : Base L (k + 1) 2 P Q
    base = record { Place = Place; links = links_at; room = room_at; deep = deep_at; pays = pays_at }

    shallow_at : (i : Place) → 1 + 1 ≤ 2 + deep_at i
    shallow_at i = omega arith

    mates_at : (g : ℕ) {o o' : Option Code} → MatesOrNone L.values P Q (x.bodies g) (IsWindow g) k o o' → Mates L (k + 1) 2 P Q base o o'
    mates_at g missing = neither
    mates_at g (found {g = f} {g' = f'} h) = both (record {
      place = Body g;
      start = tt;
      behind = tt;
      cost = h.cost;
      cheap = let c = h.cheap in omega (arith, c);
      shallow = shallow_at;
      bodies = h.bodies;
      tree = h.tree;
      frames = calls_begin L (x.bodies g) f f' h.locals h.new_locals h.parameters;
    })

    match : FunctionsMatch L (k + 1) 2 P Q base
    match g g' c = mates_at g (fits.functions g g' c)

    -- a window and its gap, in the function where they stand
    at_window : (j n n' : ℕ) → Claim L (k + 1) 2 P Q base n n' → (W : Ways (Unit {0})) →
        Follows L (k + 1) 2 1 (Agree L.values (x.bodies (M j).function)) (Agree L.values (x.bodies (M j).function)) (exits L (function_links (M j).function) (room_at (Body (M j).function)) W) 1 (row P n (M j).old)
        (row Q (suc n') (M j).gap)
    at_window j n n' claim W =
        call_follows Q x.h x.new x.there x.has (M j).args (M j).targets (M j).fresh (M j).gap (M j).is_gap x.statements x.given x.is_body L (k + 1) 2 (Agree L.values (x.bodies (M j).function)) (Agree L.values (x.bodies (M j).function)) (λ f. Within L.values (M j).inside f (M j).behind) (exits L (function_links (M j).function) (room_at (Body (M j).function)) W)
        (exits L (links_at (Window j [])) (room_at (Window j [])) nowhere) (window_shut j []) (comes_at j) 0 (values_of (meanings P.rights (λ g vs. called (bounded P n) vs (slice_get P.functions g)) (bounded P n) (M j).old)) n'
        (λ d d' f f' w w' t l a dd. (chain_step L (k + 1) 2 P Q base match n n' claim (Window j f) (λ s s' ws ws' z. z) nowhere (M j).before (M j).behind 0 (M j).old x.statements (M j).window).by d d' f (Begins j f') w w' t l (enters_at j f f' a) dd)

    windows : (n n' : ℕ) → 2 * suc n ≤ suc n' → ((j j' : ℕ) → j ≤ n → 2 * j ≤ j' → Claim L (k + 1) 2 P Q base j j') → WindowsFollow L (k + 1) 2 P Q base n n'
    windows n zero le ih i W s s' ws ws' h = absurd (omega (arith, le))
    windows n (suc n') le ih Outside W s s' ws ws' h = absurd h
    windows n (suc n') le ih (Window j f0) W s s' ws ws' h = absurd h
    windows n (suc n') le ih (Body g) W s s' ws ws' h =
        let j : ℕ = h.which in
        let G : ℕ → Typeds TypeTree → Typeds TypeTree → Type 0 = λ y us us'. Follows L (k + 1) 2 1 (Agree L.values (x.bodies y)) (Agree L.values (x.bodies y)) (exits L (function_links y) (room_at (Body y)) W) 1 (row P n us)
        (row Q (suc n') us') in
        subst (λ y. G y ws ws') (sym h.function_is) (subst (λ us. G (M j).function us ws') (sym h.old_is) (subst (λ us'. G (M j).function (M j).old us') (sym h.gap_is) (at_window j n n' (ih n n' (omega arith) (omega (arith, le))) W)))

    setting : Setting L (k + 1) 2 P Q base 2
    setting = record { grows = omega arith; functions = match; windows = windows }

    pub call_at : (j n n' : ℕ) → 2 * n ≤ n' → Follows L (k + 1) 2 1 (Agree L.values (x.bodies (M j).function)) (Agree L.values (x.bodies (M j).function)) (exits L (function_links (M j).function) (room_at (Body (M j).function)) nowhere) 1 (row P n (M j).old) (row Q (suc n') (M j).gap)
    call_at j n n' le = at_window j n n' (bounded_follow L (k + 1) 2 P Q base 2 setting n n' le) nowhere

    pub all_in : (j : ℕ) → AllIn (Agree L.values (x.bodies (M j).function)) (Agree L.values (x.bodies (M j).function)) (exits L (function_links (M j).function) (room_at (Body (M j).function)) nowhere)
    all_in j = record { next = λ f f' h. h; back = λ f f' h. h; breaks = λ f f' h. absurd h; continues = λ f f' h. absurd h; falls = λ f f' h. absurd h; free = refl }

    no_frame : Agree L.values no_locals [] []
    no_frame = empty_agree L no_locals 0 0 refl refl

    enough : (t : ℕ) → 2 * suc t ≤ suc ((k + 1) * (t + 1))
    enough t = let e = mul-le-mul_right t x.some in omega (arith, e)

    pub onward : (input : List ℕ) (turns depth : ℕ) → GoesOn (run P input turns depth) (run Q input ((k + 1) * (turns + 1)) (2 * depth + 1))
    onward input turns depth =
        run_meets L (k + 1) (Agree L.values no_locals) (exits L outside_links (room_at Outside) nowhere) turns ((k + 1) * (turns + 1)) (program Q (suc ((k + 1) * (turns + 1))) (2 * depth + 1) [] (start Q input)) (program P (suc turns) depth [] (start P input) turns) (omega arith)
        ((program_follows L (k + 1) 2 P Q base 2 setting Outside tt fits.variables fits.mains (suc turns) (suc ((k + 1) * (turns + 1))) (enough turns)).by depth (2 * depth + 1) [] [] (start P input) (start Q input) turns (starts input) no_frame (omega arith))

    -- ---- back

    module _ (K : Likeness) (mirror : Mirror L K) where
      abbrev pub back_room : (i : Place) → Room K (flip_links (links_at i))
      back_room i = flip_room L K mirror (links_at i) (room_at i)

      abbrev back_base : Base K 1 1 Q P
      back_base = record { Place = Place; links = λ i. flip_links (links_at i); room = back_room; deep = λ i. 0; pays = λ i. omega arith }

      back_mates : (g : ℕ) {o o' : Option Code} → MatesOrNone L.values P Q (x.bodies g) (IsWindow g) k o o' → Mates K 1 1 Q P back_base o' o
      back_mates g missing = neither
      back_mates g (found {g = f} {g' = f'} h) = both (record {
        place = Body g;
        start = tt;
        behind = tt;
        cost = 0;
        cheap = omega arith;
        shallow = λ i. omega arith;
        bodies = sym h.bodies;
        tree = flip_statement (function_links g) P.rights Q.rights h.tree;
        frames = λ vs' vs v. calls_begin L (x.bodies g) f f' h.locals h.new_locals h.parameters vs vs' (mirror.values_back vs vs' v);
      })

      back_match : FunctionsMatch K 1 1 Q P back_base
      back_match g' g c = back_mates g (fits.functions g g' (mirror.calls_back g g' c))

      Back : (j : ℕ) → Frames
      Back j f' f = Agree L.values (x.bodies (M j).function) f f'

      back_shut : (j : ℕ) (f0 : List Value) → Shut (exits K (flip_links (links_at (Window j f0))) (back_room (Window j f0)) nowhere)
      back_shut j f0 = record { back = λ f' f h. h; breaks = λ f f' h. h; continues = λ f f' h. h; falls = λ f f' h. h; free = refl }

      abbrev old_rows : (n' : ℕ) (ts : Typeds TypeTree) → List Comp
      old_rows n' ts = values_of (meanings P.rights (λ g vs. called (bounded P n') vs (slice_get P.functions g)) (bounded P n') ts)

      old_rows_grow : (n' : ℕ) (ts : Typeds TypeTree) → Grows (in_order (old_rows n' ts))
      old_rows_grow n' ts = in_order_grows (old_rows n' ts) (values_grow (meanings P.rights (λ g vs. called (bounded P n') vs (slice_get P.functions g)) (bounded P n') ts) (meanings_grown P.rights (λ g vs. called (bounded P n') vs (slice_get P.functions g)) (bounded P n') (λ g vs. called_grows (bounded P n') (bounded_grows P n') vs (slice_get P.functions g)) (bounded_grows P n') ts))

      back_at : (j n n' : ℕ) → ((m : ℕ) → m ≤ n → Claim K 1 1 Q P back_base m n') → (W : Ways (Unit {0})) →
          Follows K 1 1 0 (λ f' f. Agree L.values (x.bodies (M j).function) f f') (λ f' f. Agree L.values (x.bodies (M j).function) f f') (exits K (flip_links (function_links (M j).function)) (back_room (Body (M j).function)) W) 0
          (row Q n (M j).gap) (row P n' (M j).old)
      back_at j n n' claims W =
          window_follows Q x.h x.new x.there x.has (M j).args (M j).targets (M j).fresh (M j).gap (M j).is_gap x.statements x.given x.is_body K (λ f' f. Agree L.values (x.bodies (M j).function) f f') (λ f' f. Agree L.values (x.bodies (M j).function) f f') (λ f g' g. Within L.values (M j).inside f (M j).behind g g')
          (exits K (flip_links (function_links (M j).function)) (back_room (Body (M j).function)) W) (exits K (flip_links (links_at (Window j []))) (back_room (Window j [])) nowhere) (back_shut j []) (λ f' f a g' g r. comes_at j f f' a g g' r)
          (values_of (meanings P.rights (λ g vs. called (bounded P n') vs (slice_get P.functions g)) (bounded P n') (M j).old)) (old_rows_grow n' (M j).old) n
          (λ m le d d' f' f w' w t l a dd. (chain_step K 1 1 Q P back_base back_match m n' (claims m le) (Window j f) (λ s s' ws ws' z. z) nowhere (M j).before (M j).behind 0 x.statements (M j).old (flip_chain (window_links L.values (M j).inside) P.rights Q.rights (M j).window)).by d d' (Begins j f') f w' w t l (enters_at j f f' a) (omega (arith, dd)))

      back_windows : (n n' : ℕ) → 1 * suc n ≤ suc n' → ((j j' : ℕ) → j ≤ n → 1 * j ≤ j' → Claim K 1 1 Q P back_base j j') → WindowsFollow K 1 1 Q P back_base n n'
      back_windows n n' le ih Outside W s s' ws' ws h = absurd h
      back_windows n n' le ih (Window j f0) W s s' ws' ws h = absurd h
      back_windows n n' le ih (Body g) W s s' ws' ws h =
          let j : ℕ = h.which in
          let G : ℕ → Typeds TypeTree → Typeds TypeTree → Type 0 = λ y us us'. Follows K 1 1 0 (λ f' f. Agree L.values (x.bodies y) f f') (λ f' f. Agree L.values (x.bodies y) f f') (exits K (flip_links (function_links y)) (back_room (Body y)) W) 0
          (row Q n us') (row P n' us) in
          subst (λ y. G y ws ws') (sym h.function_is) (subst (λ us. G (M j).function us ws') (sym h.old_is) (subst (λ us'. G (M j).function (M j).old us') (sym h.gap_is) (back_at j n n' (λ m lm. ih m n' lm (omega (arith, lm, le))) W)))

      back_setting : Setting K 1 1 Q P back_base 1
      back_setting = record { grows = omega arith; functions = back_match; windows = back_windows }

      pub window_at : (j n n' : ℕ) → n ≤ n' → Follows K 1 1 0 (λ f' f. Agree L.values (x.bodies (M j).function) f f') (λ f' f. Agree L.values (x.bodies (M j).function) f f') (exits K (flip_links (function_links (M j).function)) (back_room (Body (M j).function)) nowhere) 0 (row Q n (M j).gap) (row P n' (M j).old)
      window_at j n n' le = back_at j n n' (λ m lm. bounded_follow K 1 1 Q P back_base 1 back_setting m n' (omega (arith, lm, le))) nowhere

      pub back_all_in : (j : ℕ) → AllIn (λ f' f. Agree L.values (x.bodies (M j).function) f f') (λ f' f. Agree L.values (x.bodies (M j).function) f f') (exits K (flip_links (function_links (M j).function)) (back_room (Body (M j).function)) nowhere)
      back_all_in j = record { next = λ f' f h. h; back = λ f' f h. h; breaks = λ f' f h. absurd h; continues = λ f' f h. absurd h; falls = λ f' f h. absurd h; free = refl }

      pub back : (input : List ℕ) (turns depth : ℕ) → GoesOn (run Q input turns depth) (run P input turns depth)
      back input turns depth =
          run_meets K 1 (λ f' f. Agree L.values no_locals f f') (exits K (flip_links outside_links) (back_room Outside) nowhere) turns turns (program P (suc turns) depth [] (start P input)) (program Q (suc turns) depth [] (start Q input) turns) (omega arith)
          ((program_follows K 1 1 Q P back_base 1 back_setting Outside tt (flip_all outside_links P.rights Q.rights fits.variables) (mirror.calls P.main Q.main fits.mains) (suc turns) (suc turns) (omega arith)).by depth depth [] [] (start Q input) (start P input) turns (mirror.worlds (start P input) (start Q input) (starts input)) no_frame (omega arith))

      -- the extracted package runs alike
      pub alike : AreAlike k P Q
      alike = record { onward = onward; back = back }

-- ---- the law

pub extraction_runs_alike : (s : ℕ → ℕ) (k : ℕ) (P Q : Program) → Extracts s k P Q → AreAlike k P Q
extraction_runs_alike s k P Q e = alike (forward s) P Q k e.windows e.fits (start_moved s P Q e.count) (backward s) (mirrored s)
