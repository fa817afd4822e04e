-- Packages whose functions are mates: each follows the other, at no cost.
use Rattle.std.proofs.Common.{◌≡◌, ℕ, suc, ◌*◌, ◌≤◌, List, [], refl, sym, ap, arith, Option, Some, None}
use Rattle.std.specs.Prelude.{replicate}
use Rattle.go_types.specs.Trees.{TypeTree}
use Rattle.go_typed.specs.Trees.{Typed, Typeds}
use Rattle.go_meaning.specs.Values.{Value, NilFunction}
use Rattle.go_meaning.specs.Computations.{World}
use Rattle.go_meaning.specs.Meaning.{Code, Program, bounded, program, start, run}
use Rattle.go_meaning.specs.Laws.{GoesOn, IsAlike}
use Rattle.go_meaning_simulation.specs.Likeness.{Likeness, Mirror}
use Rattle.go_meaning_simulation.specs.Links.{Links, Ways, nowhere}
use Rattle.go_meaning_simulation.specs.Kin.{Statement, AreKin}
use Rattle.go_meaning_simulation.specs.Locals.{Linked, no_locals, Inside, none_here, window_links, body_links, Agree, Within}
use Rattle.go_meaning_simulation.specs.Mates.{MatesOrNone, missing, found, AreMatched}
use Rattle.go_meaning_simulation.proofs.Following.{Exits, Follows}
use Rattle.go_meaning_simulation.proofs.Rooms.{Room, way, exits}
use Rattle.go_meaning_simulation.proofs.Locals.{body_room, window_room, empty_agree, calls_begin}
use Rattle.go_meaning_simulation.proofs.Programs.{Base, Mates, neither, both, FunctionsMatch, Claim, WindowsFollow, Setting, bounded_follow, program_follows}
use Rattle.go_meaning_simulation.proofs.Flip.{flip_links, flip_statement, flip_all, flip_room}
use Rattle.go_meaning_simulation.proofs.Runs.{run_meets}
use Rattle.go_meaning_simulation.proofs.Equal.{equal, equal_mirror, goes_both, AllIn, both_alike}

data Place : Type 0 where
  Further : Place
  Body : ℕ → Place

-- e: the links at one further place
module _ (L K : Likeness) (mirror : Mirror L K) (P Q : Program) (m : AreMatched L.values P Q L.calls) (e : Links) (room : Room L e) (cheap : e.factor ≤ 1) (alone : (s s' : e.Scope) (ws ws' : Typeds TypeTree) → e.windows s s' ws ws' → ⊥) (free : room.toll ≡ 0) where
  abbrev links_at : Place → Links
  links_at Further = e
  links_at (Body g) = body_links L.values (m.bodies g) none_here 1 1

  abbrev room_at : (i : Place) → Room L (links_at i)
  room_at Further = room
  room_at (Body g) = body_room L (m.bodies g) none_here 1 1

  pays_at : (i : Place) → (links_at i).factor ≤ 1
  pays_at Further = cheap
  pays_at (Body g) = omega arith

  -- ---- onward

  abbrev base : Base L 1 1 P Q
  base = record { Place = Place; links = links_at; room = room_at; deep = λ i. 0; pays = pays_at }

  mates_at : (g : ℕ) {o o' : Option Code} → MatesOrNone L.values P Q (m.bodies g) none_here 0 o o' → Mates L 1 1 P Q base o o'
  mates_at g missing = neither
  mates_at g (found {g = f} {g' = f'} h) = both (record {
    place = Body g;
    start = tt;
    behind = tt;
    cost = h.cost;
    cheap = let c = h.cheap in omega (arith, c);
    shallow = λ i. omega arith;
    bodies = h.bodies;
    tree = h.tree;
    frames = calls_begin L (m.bodies g) f f' h.locals h.new_locals h.parameters;
  })

  matched : FunctionsMatch L 1 1 P Q base
  matched g g' c = mates_at g (m.functions g g' c)

  setting : Setting L 1 1 P Q base 1
  setting = record { grows = omega arith; functions = matched; windows = windows }
    where
      windows : (n n' : ℕ) → 1 * suc n ≤ suc n' → ((j j' : ℕ) → j ≤ n → 1 * j ≤ j' → Claim L 1 1 P Q base j j') → WindowsFollow L 1 1 P Q base n n'
      windows n n' le ih Further W s s' ws ws' h = absurd (alone s s' ws ws' h)
      windows n n' le ih (Body g) W s s' ws ws' h = absurd h

  pub further_follows : (W : Ways e.Scope) (s s' : e.Scope) (c : ℕ) (t t' : Typed TypeTree) → Statement e P.rights Q.rights W s s' c t t' → (n : ℕ) → Follows L 1 1 0 (room.frames s) (room.frames s') (exits L e room W) c (bounded P n t) (bounded Q n t')
  further_follows W s s' c t t' h n = bounded_follow L 1 1 P Q base 1 setting n n (omega arith) Further W s s' c t t' h

  -- ---- back

  abbrev back_room : (i : Place) → Room K (flip_links (links_at i))
  back_room i = flip_room L K mirror (links_at i) (room_at i)

  abbrev back_base : Base K 1 1 Q P
  back_base = record { Place = Place; links = λ i. flip_links (links_at i); room = back_room; deep = λ i. 0; pays = λ i. omega arith }

  back_mates : (g : ℕ) {o o' : Option Code} → MatesOrNone L.values P Q (m.bodies g) none_here 0 o o' → Mates K 1 1 Q P back_base o' o
  back_mates g missing = neither
  back_mates g (found {g = f} {g' = f'} h) = both (record {
    place = Body g;
    start = tt;
    behind = tt;
    cost = 0;
    cheap = omega arith;
    shallow = λ i. omega arith;
    bodies = sym h.bodies;
    tree = flip_statement (links_at (Body g)) P.rights Q.rights h.tree;
    frames = λ vs' vs v. calls_begin L (m.bodies g) f f' h.locals h.new_locals h.parameters vs vs' (mirror.values_back vs vs' v);
  })

  back_matched : FunctionsMatch K 1 1 Q P back_base
  back_matched g' g c = back_mates g (m.functions g g' (mirror.calls_back g g' c))

  back_setting : Setting K 1 1 Q P back_base 1
  back_setting = record { grows = omega arith; functions = back_matched; windows = windows }
    where
      windows : (n n' : ℕ) → 1 * suc n ≤ suc n' → ((j j' : ℕ) → j ≤ n → 1 * j ≤ j' → Claim K 1 1 Q P back_base j j') → WindowsFollow K 1 1 Q P back_base n n'
      windows n n' le ih Further W s s' ws' ws h = absurd (alone s s' ws ws' h)
      windows n n' le ih (Body g) W s s' ws' ws h = absurd h

  pub further_follows_back : (W : Ways e.Scope) (s s' : e.Scope) (c : ℕ) (t t' : Typed TypeTree) → Statement e P.rights Q.rights W s s' c t t' → (n : ℕ) →
      Follows K 1 1 0 (λ f' f. room.frames s f f') (λ f' f. room.frames s' f f') (exits K (flip_links e) (flip_room L K mirror e room) W) 0 (bounded Q n t') (bounded P n t)
  further_follows_back W s s' c t t' h n = bounded_follow K 1 1 Q P back_base 1 back_setting n n (omega arith) Further W s s' 0 t' t (flip_statement e P.rights Q.rights h)

  -- ---- runs

  module _ (s : e.Scope) (kin : AreKin e P.rights Q.rights s P.variables Q.variables) (frames : room.frames s [] []) (starts : (input : List ℕ) → L.worlds (start P input) (start Q input)) where
    pub run_onward : (input : List ℕ) (turns depth : ℕ) → GoesOn (run P input turns depth) (run Q input turns depth)
    run_onward input turns depth =
        run_meets L 1 (room.frames s) (exits L e room nowhere) turns turns (program Q (suc turns) depth [] (start Q input)) (program P (suc turns) depth [] (start P input) turns) (omega (arith, free))
        ((program_follows L 1 1 P Q base 1 setting Further s kin m.mains (suc turns) (suc turns) (omega arith)).by depth depth [] [] (start P input) (start Q input) turns (starts input) frames (omega arith))

    pub run_back : (input : List ℕ) (turns depth : ℕ) → GoesOn (run Q input turns depth) (run P input turns depth)
    run_back input turns depth =
        run_meets K 1 (λ f' f. room.frames s f f') (exits K (flip_links e) (flip_room L K mirror e room) nowhere) turns turns (program P (suc turns) depth [] (start P input)) (program Q (suc turns) depth [] (start Q input) turns) (omega arith)
        ((program_follows K 1 1 Q P back_base 1 back_setting Further s (flip_all e P.rights Q.rights kin) (mirror.calls P.main Q.main m.mains) (suc turns) (suc turns) (omega arith)).by depth depth [] [] (start Q input) (start P input) turns (mirror.worlds (start P input) (start Q input) (starts input)) frames (omega arith))

-- ---- packages

module _ (L K : Likeness) (mirror : Mirror L K) (P Q : Program) (m : AreMatched L.values P Q L.calls) (starts : (input : List ℕ) → L.worlds (start P input) (start Q input)) where
  abbrev outer_room : Room L (body_links L.values no_locals none_here 1 1)
  outer_room = body_room L no_locals none_here 1 1

  pub runs_same : (input : List ℕ) (turns depth : ℕ) → run Q input turns depth ≡ run P input turns depth
  runs_same input turns depth =
      let outer : Links = body_links L.values no_locals none_here 1 1 in
      let empty : Agree L.values no_locals [] [] = empty_agree L no_locals 0 0 refl refl in
      sym (goes_both (run P input turns depth) (run Q input turns depth) (run_onward L K mirror P Q m outer outer_room (omega arith) (λ s s' ws ws' h. h) refl tt m.variables empty starts input turns depth)
      (run_back L K mirror P Q m outer outer_room (omega arith) (λ s s' ws ws' h. h) refl tt m.variables empty starts input turns depth))

-- ---- the laws, for equal values

module _ (P Q : Program) (m : AreMatched equal.values P Q equal.calls) where
  starts_same : (input : List ℕ) → start P input ≡ start Q input
  starts_same input = ap (λ n. record { arrays = []; variables = replicate n NilFunction; input = input; output = [] }) (sym m.count)

  pub packages_run_alike : (input : List ℕ) (turns depth : ℕ) → run Q input turns depth ≡ run P input turns depth
  packages_run_alike = runs_same equal equal equal_mirror P Q m starts_same

  module _ (J : Linked) (W : Ways (Unit {0})) where
    abbrev Z : Exits
    Z = exits equal (body_links equal.values J none_here 1 1) (body_room equal J none_here 1 1) W

    way_in : (o : Option (Unit {0})) (f f' : List Value) → way equal (body_links equal.values J none_here 1 1) (body_room equal J none_here 1 1) o f f' → Agree equal.values J f f'
    way_in None f f' h = absurd h
    way_in (Some s) f f' h = h

    in_body : AllIn (Agree equal.values J) (Agree equal.values J) Z
    in_body = record { next = λ f f' h. h; back = λ f f' h. h; breaks = way_in W.breaks; continues = way_in W.continues; falls = way_in W.falls; free = refl }

    pub statements_do_the_same : (n : ℕ) (t t' : Typed TypeTree) → Statement (body_links equal.values J none_here 1 1) P.rights Q.rights W tt tt 0 t t' → (d : ℕ) (f f' : List Value) (w : World) (turns : ℕ) → Agree equal.values J f f' →
        IsAlike (Agree equal.values J) (bounded P n t d f w turns) (bounded Q n t' d f' w turns)
    statements_do_the_same n t t' h d f f' w turns a =
        both_alike (Agree equal.values J) (Agree equal.values J) Z in_body (λ g' g. Agree equal.values J g g')
        (exits equal (flip_links (body_links equal.values J none_here 1 1)) (flip_room equal equal equal_mirror (body_links equal.values J none_here 1 1) (body_room equal J none_here 1 1)) W) refl turns (bounded P n t d f w) (bounded Q n t' d f' w)
        (bounded P n t d f w turns) (bounded Q n t' d f' w turns) refl refl
        ((further_follows equal equal equal_mirror P Q m (body_links equal.values J none_here 1 1) (body_room equal J none_here 1 1) (omega arith) (λ s s' ws ws' x. x) refl W tt tt 0 t t' h n).by d d f f' w w turns refl a (omega arith))
        ((further_follows_back equal equal equal_mirror P Q m (body_links equal.values J none_here 1 1) (body_room equal J none_here 1 1) (omega arith) (λ s s' ws ws' x. x) refl W tt tt 0 t t' h n).by d d f' f w w turns refl a (omega arith))

  module _ (I : Inside) (f0 : List Value) (s' : List ℕ) where
    in_window : AllIn (Within equal.values I f0 s') (Within equal.values I f0 s') (exits equal (window_links equal.values I) (window_room equal I f0) nowhere)
    in_window = record { next = λ f f' h. h; back = λ f f' h. absurd h; breaks = λ f f' h. absurd h; continues = λ f f' h. absurd h; falls = λ f f' h. absurd h; free = refl }

    pub windows_do_the_same : (s : List ℕ) (n : ℕ) (t t' : Typed TypeTree) → Statement (window_links equal.values I) P.rights Q.rights nowhere s s' 0 t t' → (d : ℕ) (f f' : List Value) (w : World) (turns : ℕ) → Within equal.values I f0 s f f' →
        IsAlike (Within equal.values I f0 s') (bounded P n t d f w turns) (bounded Q n t' d f' w turns)
    windows_do_the_same s n t t' h d f f' w turns a =
        both_alike (Within equal.values I f0 s') (Within equal.values I f0 s') (exits equal (window_links equal.values I) (window_room equal I f0) nowhere) in_window (λ g' g. Within equal.values I f0 s' g g')
        (exits equal (flip_links (window_links equal.values I)) (flip_room equal equal equal_mirror (window_links equal.values I) (window_room equal I f0)) nowhere) refl turns (bounded P n t d f w) (bounded Q n t' d f' w)
        (bounded P n t d f w turns) (bounded Q n t' d f' w turns) refl refl
        ((further_follows equal equal equal_mirror P Q m (window_links equal.values I) (window_room equal I f0) (omega arith) (λ s1 s2 ws ws' x. x) refl nowhere s s' 0 t t' h n).by d d f f' w w turns refl a (omega arith))
        ((further_follows_back equal equal equal_mirror P Q m (window_links equal.values I) (window_room equal I f0) (omega arith) (λ s1 s2 ws ws' x. x) refl nowhere s s' 0 t t' h n).by d d f' f w w turns refl a (omega arith))
