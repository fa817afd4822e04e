-- A window and the call in its place: each follows the other.
use Rattle.std.proofs.Common.{◌≡◌, ℕ, zero, suc, ◌+◌, ◌*◌, ◌≤◌, List, [], ◌∷◌, refl, sym, ap, ◌∙◌, subst, arith, Option, Some}
use Rattle.std.specs.Prelude.{true, slice_get}
use Rattle.go_types.specs.Trees.{TypeTree}
use Rattle.go_typed.specs.Trees.{Typeds}
use Rattle.go_meaning.specs.Values.{Value}
use Rattle.go_meaning.specs.Computations.{World, Next, Return, Break, Continue, Fallthrough, Panics, Outcome, Ends, Undecided, output_of, Comp, go_on, then_do, in_order, end_by, undecided, spend, enter}
use Rattle.go_meaning.specs.Doings.{values_of}
use Rattle.go_meaning.specs.Meaning.{meanings, Code, frame_of, entered, has_body, called, Program, bounded}
use Rattle.go_meaning.specs.Laws.{IsPrefix}
use Rattle.go_meaning_simulation.specs.Likeness.{Likeness}
use Rattle.go_meaning.proofs.Public.{Grows, in_order_grows, values_grow, called_grows, bounded_grows, meanings_grown}
use Rattle.go_meaning_simulation.proofs.Public.{Frames, Exits, Follows, Meets}
use Rattle.extract_call.specs.Calls.{Argument, arguments, results, stored, Fresh, ready, IsGap, IsBody}
use Rattle.extract_call.specs.Laws.{row, come_back}
use Rattle.extract_call.proofs.Calls.{gap_runs, after_call, body_runs}

pub come_back_output : (os : List (Option ℕ)) (rs : List ℕ) (f : List Value) (oc : Outcome) → output_of (come_back os rs f oc) ≡ output_of oc
come_back_output os rs f (Ends (Next vs) g w t) = refl
come_back_output os rs f (Ends (Return vs) g w t) = refl
come_back_output os rs f (Ends Break g w t) = refl
come_back_output os rs f (Ends Continue g w t) = refl
come_back_output os rs f (Ends Fallthrough g w t) = refl
come_back_output os rs f (Ends (Panics p) g w t) = refl
come_back_output os rs f (Undecided o) = refl

-- what goes on goes on with no values
abbrev pub GivesNothing : Outcome → Type 0
GivesNothing (Ends (Next vs) f w t) = vs ≡ []
GivesNothing (Ends (Return vs) f w t) = Unit {0}
GivesNothing (Ends Break f w t) = Unit {0}
GivesNothing (Ends Continue f w t) = Unit {0}
GivesNothing (Ends Fallthrough f w t) = Unit {0}
GivesNothing (Ends (Panics p) f w t) = Unit {0}
GivesNothing (Undecided o) = Unit {0}

nothing_behind : (oc : Outcome) (k : List Value → List Value → World → ℕ → Outcome) → ((vs f : List Value) (w : World) (t : ℕ) → GivesNothing (k vs f w t)) → GivesNothing (go_on oc k)
nothing_behind (Ends (Next vs) f w t) k h = h vs f w t
nothing_behind (Ends (Return vs) f w t) k h = tt
nothing_behind (Ends Break f w t) k h = tt
nothing_behind (Ends Continue f w t) k h = tt
nothing_behind (Ends Fallthrough f w t) k h = tt
nothing_behind (Ends (Panics p) f w t) k h = tt
nothing_behind (Undecided o) k h = tt

pub rows_give_nothing : (cs : List Comp) (d : ℕ) (f : List Value) (w : World) (t : ℕ) → GivesNothing (in_order cs d f w t)
unfolding in_order end_by then_do
rows_give_nothing [] d f w t = refl
rows_give_nothing (c ∷ cs) d f w t = nothing_behind (c d f w t) (λ vs f1 w1 t1. in_order cs d f1 w1 t1) (λ vs f1 w1 t1. rows_give_nothing cs d f1 w1 t1)

-- nothing leaves, and nothing is paid for it
pub record Shut (Z : Exits) : Type 0 where
  pub back : (f f' : List Value) → Z.back f f' → ⊥
  pub breaks : (f f' : List Value) → Z.breaks f f' → ⊥
  pub continues : (f f' : List Value) → Z.continues f f' → ⊥
  pub falls : (f f' : List Value) → Z.falls f f' → ⊥
  pub free : Z.toll ≡ 0

-- ---- the call of a function with a body

module _ (Q : Program) (h : ℕ) (new : Code) (there : slice_get Q.functions h ≡ Some new) (has : has_body new ≡ true) where
  abbrev new_call : ℕ → ℕ → List Value → Comp
  new_call n g vs = called (bounded Q n) vs (slice_get Q.functions g)

  call_is : (n : ℕ) (vs : List Value) → new_call n h vs ≡ spend (enter (frame_of new vs) (bounded Q n new.body))
  call_is n vs = ap (called (bounded Q n) vs) there ∙ ap (λ b. spend (entered b (frame_of new vs) (bounded Q n new.body))) has

  module _ (xs : List Argument) (os : List (Option ℕ)) (ys : List Fresh) (gap : Typeds TypeTree) (is_gap : IsGap Q.rights h xs os ys gap) (ws : Typeds TypeTree) (rs : List ℕ) (is_body : IsBody Q.rights ws rs new.body) where
    -- the statements of the new function, with so many rounds inside
    abbrev pub inner : ℕ → Comp
    inner n = row Q n ws

    abbrev pub outer : ℕ → Comp
    outer n = row Q n gap

    abbrev pub begins : List Value → List Value
    begins f = frame_of new (arguments (ready ys f) xs)

    outer_is : (n d : ℕ) (f : List Value) (w : World) (t : ℕ) → outer n d f w t ≡ go_on (spend (enter (begins f) (bounded Q n new.body)) d (ready ys f) w t) (after_call Q.rights (new_call n) (bounded Q n) os)
    outer_is n d f w t = gap_runs Q.rights (new_call n) (bounded Q n) is_gap d f w t ∙ ap (λ (c : Comp). go_on (c d (ready ys f) w t) (after_call Q.rights (new_call n) (bounded Q n) os)) (call_is n (arguments (ready ys f) xs))

    -- a turn and a level are spent, then it is what the statements do
    pub outer_runs : (n d : ℕ) (f : List Value) (w : World) (t : ℕ) → outer (suc n) (suc d) f w (suc t) ≡ come_back os rs (ready ys f) (inner n d (begins f) w t)
    unfolding spend enter
    outer_runs n d f w t = outer_is (suc n) (suc d) f w (suc t) ∙ ap (λ oc. go_on oc (after_call Q.rights (new_call n) (bounded Q n) os)) (body_runs Q.rights (new_call n) (bounded Q n) is_body (ready ys f) d (begins f) w t)

    pub outer_stops : (n d : ℕ) (f : List Value) (w : World) → outer n d f w 0 ≡ Undecided w.output
    unfolding spend enter
    outer_stops n d f w = outer_is n d f w 0

    pub outer_is_deep : (n : ℕ) (f : List Value) (w : World) (t : ℕ) → outer n 0 f w (suc t) ≡ Undecided w.output
    unfolding spend enter
    outer_is_deep n f w t = outer_is n 0 f w (suc t)

    pub outer_is_bounded : (d : ℕ) (f : List Value) (w : World) (t : ℕ) → outer 0 (suc d) f w (suc t) ≡ Undecided w.output
    unfolding spend enter undecided
    outer_is_bounded d f w t = outer_is 0 (suc d) f w (suc t)

    pub outer_grows : (n : ℕ) → Grows (outer n)
    outer_grows n = in_order_grows (values_of (meanings Q.rights (new_call n) (bounded Q n) gap)) (values_grow (meanings Q.rights (new_call n) (bounded Q n) gap) (meanings_grown Q.rights (new_call n) (bounded Q n) (λ g vs. called_grows (bounded Q n) (bounded_grows Q n) vs (slice_get Q.functions g)) (bounded_grows Q n) gap))

    -- ---- the call follows the window

    -- R and T: the frames of the old function and of the one with the call, before and behind; W: those of the window, which begins
    -- with the frame f, and of the new function
    module _ (L : Likeness) (a p : ℕ) (R T : Frames) (W : List Value → Frames) (X Z : Exits) (shut : Shut Z)
        (gives : (f f' : List Value) → R f f' → (g g' : List Value) → W f g g' → T g (stored os (results g' rs) (ready ys f'))) where
      undecided_meets : (m t : ℕ) (f' o : List ℕ) (within new : ℕ → Outcome) (x : ℕ) → ((y : ℕ) → a * t ≤ y → IsPrefix o (output_of (within y))) → ((y : ℕ) → output_of (new (suc y)) ≡ output_of (within y)) → a * t + 1 + X.toll ≤ x → IsPrefix o (output_of (new x))
      undecided_meets m t f' o within new zero h e lx = absurd (omega (arith, lx))
      undecided_meets m t f' o within new (suc y) h e lx = subst (IsPrefix o) (sym (e y)) (h y (omega (arith, lx)))

      meets : (t : ℕ) (f f' : List Value) (within new : ℕ → Outcome) (oc : Outcome) → ((x : ℕ) → new (suc x) ≡ come_back os rs (ready ys f') (within x)) → GivesNothing oc → R f f' → Meets L a (W f) Z 0 t within oc → Meets L a T X 1 t new oc
      meets t f f' within new (Ends (Next vs) f1 w1 left) runs nothing r h = (
        [],
        stored os (results h.1 rs) (ready ys f'),
        h.2,
        suc h.3,
        subst (λ us. L.values us []) (sym nothing) L.nothing,
        gives f f' r f1 h.1 h.5,
        h.6,
        omega (arith, h.7),
        λ x. let z : suc h.3 + x ≡ suc (h.3 + x) = omega arith in ap new z ∙ runs (h.3 + x) ∙ ap (come_back os rs (ready ys f')) (h.8 x),
      )
      meets t f f' within new (Ends (Return vs) f1 w1 left) runs nothing r h = absurd (shut.back f1 h.1 h.5)
      meets t f f' within new (Ends Break f1 w1 left) runs nothing r h = absurd (shut.breaks f1 h.1 h.5)
      meets t f f' within new (Ends Continue f1 w1 left) runs nothing r h = absurd (shut.continues f1 h.1 h.5)
      meets t f f' within new (Ends Fallthrough f1 w1 left) runs nothing r h = absurd (shut.falls f1 h.1 h.5)
      meets t f f' within new (Ends (Panics k) f1 w1 left) runs nothing r h =
          let free = shut.free in (
            [],
            ready ys f',
            h.2,
            suc h.3,
            L.nothing,
            tt,
            h.6,
            omega (arith, h.7, free),
            λ x. let z : suc h.3 + x ≡ suc (h.3 + x) = omega arith in ap new z ∙ runs (h.3 + x) ∙ ap (come_back os rs (ready ys f')) (h.8 x),
          )
      meets t f f' within new (Undecided o) runs nothing r h =
          let free = shut.free in
          λ x lx. undecided_meets 0 t [] o within new x (λ y ly. h y (omega (arith, ly, free))) (λ y. ap output_of (runs y) ∙ come_back_output os rs (ready ys f') (within y)) lx

      module _ (q : ℕ) (old : List Comp) (n : ℕ) (window : (d d' : ℕ) (f f' : List Value) (w w' : World) (t : ℕ) → L.worlds w w' → R f f' → p * d + q ≤ d' → Meets L a (W f) Z 0 t (inner n d' (begins f') w') (in_order old d f w t)) where
        meets_deeper : (d d' : ℕ) (f f' : List Value) (w w' : World) (t : ℕ) → L.worlds w w' → R f f' → p * d + suc q ≤ d' → Meets L a T X 1 t (outer (suc n) d' f' w') (in_order old d f w t)
        meets_deeper d zero f f' w w' t l r dd = absurd (omega (arith, dd))
        meets_deeper d (suc d') f f' w w' t l r dd = meets t f f' (inner n d' (begins f') w') (outer (suc n) (suc d') f' w') (in_order old d f w t) (λ x. outer_runs n d' f' w' x) (rows_give_nothing old d f w t) r (window d d' f f' w w' t l r (omega (arith, dd)))

        pub call_follows : Follows L a p (suc q) R T X 1 (in_order old) (outer (suc n))
        call_follows = record { grows = outer_grows (suc n); by = meets_deeper }

    -- ---- the window follows the call; here the frames of the package with the call come first

    module _ (L : Likeness) (R T : Frames) (W : List Value → Frames) (X Z : Exits) (shut : Shut Z)
        (gives : (f' f : List Value) → R f' f → (g' g : List Value) → W f g' g → T (stored os (results g' rs) (ready ys f')) g) where
      back_meets : (t : ℕ) (f' f : List Value) (window : ℕ → Outcome) (oc : Outcome) → ((x : ℕ) → GivesNothing (window x)) → R f' f → Meets L 1 (W f) Z 0 t window oc → Meets L 1 T X 0 (suc t) window (come_back os rs (ready ys f') oc)
      back_meets t f' f window (Ends (Next vs) g' w' left) nothing r h =
          let empty : h.0 ≡ [] = subst GivesNothing (h.8 0) (nothing (h.3 + 0)) in
          ([], h.1, h.2, h.3, L.nothing, gives f' f r g' h.1 h.5, h.6, omega (arith, h.7), λ x. h.8 x ∙ ap (λ vs. Ends (Next vs) h.1 h.2 x) empty)
      back_meets t f' f window (Ends (Return vs) g' w' left) nothing r h = absurd (shut.back g' h.1 h.5)
      back_meets t f' f window (Ends Break g' w' left) nothing r h = absurd (shut.breaks g' h.1 h.5)
      back_meets t f' f window (Ends Continue g' w' left) nothing r h = absurd (shut.continues g' h.1 h.5)
      back_meets t f' f window (Ends Fallthrough g' w' left) nothing r h = absurd (shut.falls g' h.1 h.5)
      back_meets t f' f window (Ends (Panics k) g' w' left) nothing r h = let free = shut.free in ([], h.1, h.2, h.3, L.nothing, tt, h.6, omega (arith, h.7, free), h.8)
      back_meets t f' f window (Undecided o) nothing r h = let free = shut.free in λ x lx. h x (omega (arith, lx, free))

      -- where the call is undecided at once
      stops : (new : Comp) → Grows new → (t d d' : ℕ) (f f' : List Value) (w w' : World) (oc : Outcome) → L.worlds w' w → oc ≡ Undecided w'.output → Meets L 1 T X 0 t (new d f w) oc
      stops new g t d d' f f' w w' oc l e = subst (Meets L 1 T X 0 t (new d f w)) (sym e) (λ x lx. subst (λ o. IsPrefix o (output_of (new d f w x))) (sym (L.outputs w' w l)) (g.by d f w x))

      module _ (old : List Comp) (og : Grows (in_order old)) (n : ℕ) (window : (m : ℕ) → m ≤ n → (d d' : ℕ) (f' f : List Value) (w' w : World) (t : ℕ) → L.worlds w' w → R f' f → d ≤ d' → Meets L 1 (W f) Z 0 t (in_order old d' f w) (inner m d (begins f') w' t)) where
        met : (m : ℕ) → m ≤ n → (d d' : ℕ) (f' f : List Value) (w' w : World) (t : ℕ) → L.worlds w' w → R f' f → 1 * d + 0 ≤ d' → Meets L 1 T X 0 t (in_order old d' f w) (outer m d f' w' t)
        met m le d d' f' f w' w zero l r dd = stops (in_order old) og 0 d' d f f' w w' (outer m d f' w' 0) l (outer_stops m d f' w')
        met m le zero d' f' f w' w (suc t) l r dd = stops (in_order old) og (suc t) d' 0 f f' w w' (outer m 0 f' w' (suc t)) l (outer_is_deep m f' w' t)
        met zero le (suc d) d' f' f w' w (suc t) l r dd = stops (in_order old) og (suc t) d' (suc d) f f' w w' (outer 0 (suc d) f' w' (suc t)) l (outer_is_bounded d f' w' t)
        met (suc m) le (suc d) d' f' f w' w (suc t) l r dd =
            subst (Meets L 1 T X 0 (suc t) (in_order old d' f w)) (sym (outer_runs m d f' w' t))
            (back_meets t f' f (in_order old d' f w) (inner m d (begins f') w' t) (λ x. rows_give_nothing old d' f w x) r (window m (omega (arith, le)) d d' f' f w' w t l r (omega (arith, dd))))

        pub window_follows : Follows L 1 1 0 R T X 0 (outer n) (in_order old)
        window_follows = record { grows = og; by = λ d d' f' f w' w t l r dd. met n (omega arith) d d' f' f w' w t l r dd }
