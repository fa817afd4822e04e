-- One simulation: a new computation follows an old one. It ends likewise, in frames, with values and in a world that are like
-- those of the old one, at turns that grow by no more than a factor and a cost; and it has printed what the old one has.
use Rattle.std.proofs.Common.{◌≡◌, ℕ, zero, suc, ◌+◌, ◌-◌, ◌*◌, ◌≤◌, List, [], ◌∷◌, sym, ap, ◌∙◌, subst, arith}
use Rattle.std.specs.Prelude.{Bool, true, false, slice_set}
use Rattle.go_meaning.specs.Values.{Value, nth}
use Rattle.go_meaning.specs.Computations.{World, Ending, Next, Return, Break, Continue, Fallthrough, Panics, Outcome, Ends, Undecided, Comp, output_of, go_on, go_round, go_down, leave, undecided, end_by, then_do, looped, clause, read, write, spend, enter, choose, over}
use Rattle.go_meaning.specs.Operations.{Operation, Deed, Gives, Traps, perform, done, operate}
use Rattle.go_meaning.specs.Laws.{IsPrefix}
use Rattle.go_meaning_simulation.specs.Likeness.{DeedLike, Likeness}
use Rattle.go_meaning.proofs.Public.{Grows, go_on_grows, go_round_grows, go_down_grows, leave_grows, end_grows, operate_grows, read_grows, write_grows, then_grows, looped_grows, clause_grows, spend_grows, enter_grows, over_grows}

-- a relation of frames
abbrev pub Frames : Type 1
Frames = List Value → List Value → Type 0

-- The frames after a return, after a break, after a continue, and where a clause falls through; and the turns that a
-- computation may cost besides where it doesn't go on.
pub record Exits : Type 1 where
  pub back : Frames
  pub breaks : Frames
  pub continues : Frames
  pub falls : Frames
  pub toll : ℕ

abbrev pub in_loop : Exits → Frames → Exits
in_loop X T = record { back = X.back; breaks = T; continues = T; falls = X.falls; toll = X.toll }

-- in a clause of a switch, behind which frames are in T, and which may fall through in frames of U
abbrev pub in_clause : Exits → (T U : Frames) → Exits
in_clause X T U = record { back = X.back; breaks = T; continues = X.continues; falls = U; toll = X.toll }

abbrev pub tolled : Exits → Ending → ℕ
tolled X (Next vs) = 0
tolled X (Return vs) = X.toll
tolled X Break = 0
tolled X Continue = 0
tolled X Fallthrough = 0
tolled X (Panics p) = X.toll

abbrev pub any : Frames
any f f' = Unit {0}

abbrev pub after : Frames → Exits → Ending → Frames
after T X (Next vs) = T
after T X (Return vs) = X.back
after T X Break = X.breaks
after T X Continue = X.continues
after T X Fallthrough = X.falls
after T X (Panics p) = any

-- the values of an ending, and the ending with other ones
abbrev pub values_in : Ending → List Value
values_in (Next vs) = vs
values_in (Return vs) = vs
values_in Break = []
values_in Continue = []
values_in Fallthrough = []
values_in (Panics p) = []

abbrev pub ending_with : Ending → List Value → Ending
ending_with (Next vs) us = Next us
ending_with (Return vs) us = Return us
ending_with Break us = Break
ending_with Continue us = Continue
ending_with Fallthrough us = Fallthrough
ending_with (Panics p) us = Panics p

pub after_weaker : (S T : Frames) (X : Exits) (e : Ending) (f f' : List Value) → (S f f' → T f f') → after S X e f f' → after T X e f f'
after_weaker S T X (Next vs) f f' k h = k h
after_weaker S T X (Return vs) f f' k h = h
after_weaker S T X Break f f' k h = h
after_weaker S T X Continue f f' k h = h
after_weaker S T X Fallthrough f f' k h = h
after_weaker S T X (Panics p) f f' k h = h

module _ (L : Likeness) (a : ℕ) where
  -- The new outcome, as a function of the turns, is like one that is decided: so many turns are spent, whatever is left then.
  abbrev pub Gone : Frames → Exits → (m t : ℕ) → (ℕ → Outcome) → Ending → List Value → World → ℕ → Type 0
  Gone T X m t new e f w left =
      (vs' : List Value) × (f' : List Value) × (w' : World) × (u : ℕ) × L.values (values_in e) vs' × after T X e f f' × L.worlds w w' × (u + a * left ≤ a * t + m + tolled X e) × ((x : ℕ) → new (u + x) ≡ Ends (ending_with e vs') f' w' x)

  abbrev pub Meets : Frames → Exits → (m t : ℕ) → (ℕ → Outcome) → Outcome → Type 0
  Meets T X m t new (Ends e f w left) = Gone T X m t new e f w left
  Meets T X m t new (Undecided o) = (x : ℕ) → a * t + m + X.toll ≤ x → IsPrefix o (output_of (new x))

  pub meets_weaker : (S T : Frames) (X : Exits) (m m' t : ℕ) (new : ℕ → Outcome) (old : Outcome) → ((f f' : List Value) → S f f' → T f f') → m ≤ m' → Meets S X m t new old → Meets T X m' t new old
  meets_weaker S T X m m' t new (Ends e f w left) k le h = (h.0, h.1, h.2, h.3, h.4, after_weaker S T X e f h.1 (k f h.1) h.5, h.6, omega (arith, h.7), h.8)
  meets_weaker S T X m m' t new (Undecided o) k le h = λ x lx. h x (omega arith)

  -- after u turns of the new, what is met from there on is met from the start
  meets_after : (T : Frames) (X : Exits) (m m2 t t1 u : ℕ) (new rest : ℕ → Outcome) (old : Outcome) → u + a * t1 + m2 ≤ a * t + m → ((x : ℕ) → new (u + x) ≡ rest x) → Meets T X m2 t1 rest old → Meets T X m t new old
  meets_after T X m m2 t t1 u new rest (Ends e f w left) cost eq h =
      (h.0, h.1, h.2, u + h.3, h.4, h.5, h.6, omega (arith, h.7), λ x. let z : (u + h.3) + x ≡ u + (h.3 + x) = omega arith in ap new z ∙ eq (h.3 + x) ∙ h.8 x)
  meets_after T X m m2 t t1 u new rest (Undecided o) cost eq h = λ x lx.
      let z : u + (x - u) ≡ x = omega arith in
      subst (λ y. IsPrefix o (output_of y)) (sym (eq (x - u)) ∙ ap new z) (h (x - u) (omega arith))

  meets_then : (S T : Frames) (X : Exits) (m m1 m2 t : ℕ) (new : ℕ → Outcome) (k k' : List Value → List Value → World → ℕ → Outcome) (old : Outcome) → m1 + m2 ≤ m → Meets S X m1 t new old → ((vs f1 : List Value) (w1 : World) (t1 : ℕ) → IsPrefix w1.output (output_of (k' vs f1 w1 t1))) → ((vs vs' f f' : List Value) (w w' : World) (left : ℕ) → L.values vs vs' → L.worlds w w' → S f f' → Meets T X m2 left (k' vs' f' w') (k vs f w left)) → Meets T X m t (λ x. go_on (new x) k') (go_on old k)
  meets_then S T X m m1 m2 t new k k' (Ends (Next vs) f w left) le h hg hk =
      meets_after T X m m2 t left h.3 (λ x. go_on (new x) k') (k' h.0 h.1 h.2) (k vs f w left) (omega (arith, h.7)) (λ x. ap (λ oc. go_on oc k') (h.8 x)) (hk vs h.0 f h.1 w h.2 left h.4 h.6 h.5)
  meets_then S T X m m1 m2 t new k k' (Ends (Return vs) f w left) le h hg hk = (h.0, h.1, h.2, h.3, h.4, h.5, h.6, omega (arith, h.7), λ x. ap (λ oc. go_on oc k') (h.8 x))
  meets_then S T X m m1 m2 t new k k' (Ends Break f w left) le h hg hk = (h.0, h.1, h.2, h.3, h.4, h.5, h.6, omega (arith, h.7), λ x. ap (λ oc. go_on oc k') (h.8 x))
  meets_then S T X m m1 m2 t new k k' (Ends Continue f w left) le h hg hk = (h.0, h.1, h.2, h.3, h.4, h.5, h.6, omega (arith, h.7), λ x. ap (λ oc. go_on oc k') (h.8 x))
  meets_then S T X m m1 m2 t new k k' (Ends Fallthrough f w left) le h hg hk = (h.0, h.1, h.2, h.3, h.4, h.5, h.6, omega (arith, h.7), λ x. ap (λ oc. go_on oc k') (h.8 x))
  meets_then S T X m m1 m2 t new k k' (Ends (Panics p) f w left) le h hg hk = (h.0, h.1, h.2, h.3, h.4, h.5, h.6, omega (arith, h.7), λ x. ap (λ oc. go_on oc k') (h.8 x))
  meets_then S T X m m1 m2 t new k k' (Undecided o) le h hg hk = λ x lx. go_on_grows o (new x) k' (h x (omega arith)) hg

  -- behind the block of a loop, also after a break or continue
  meets_round : (S T : Frames) (X : Exits) (m m1 m2 t : ℕ) (new : ℕ → Outcome) (k k' : List Value → World → ℕ → Outcome) (old : Outcome) → ((f f' : List Value) → S f f' → T f f') → m1 + m2 ≤ m → Meets S (in_loop X S) m1 t new old → ((f1 : List Value) (w1 : World) (t1 : ℕ) → IsPrefix w1.output (output_of (k' f1 w1 t1))) → ((f f' : List Value) (w w' : World) (left : ℕ) → L.worlds w w' → S f f' → Meets T X m2 left (k' f' w') (k f w left)) → Meets T X m t (λ x. go_round (new x) k') (go_round old k)
  meets_round S T X m m1 m2 t new k k' (Ends (Next vs) f w left) weak le h hg hk =
      meets_after T X m m2 t left h.3 (λ x. go_round (new x) k') (k' h.1 h.2) (k f w left) (omega (arith, h.7)) (λ x. ap (λ oc. go_round oc k') (h.8 x)) (hk f h.1 w h.2 left h.6 h.5)
  meets_round S T X m m1 m2 t new k k' (Ends Continue f w left) weak le h hg hk =
      meets_after T X m m2 t left h.3 (λ x. go_round (new x) k') (k' h.1 h.2) (k f w left) (omega (arith, h.7)) (λ x. ap (λ oc. go_round oc k') (h.8 x)) (hk f h.1 w h.2 left h.6 h.5)
  meets_round S T X m m1 m2 t new k k' (Ends Break f w left) weak le h hg hk = ([], h.1, h.2, h.3, L.nothing, weak f h.1 h.5, h.6, omega (arith, h.7), λ x. ap (λ oc. go_round oc k') (h.8 x))
  meets_round S T X m m1 m2 t new k k' (Ends (Return vs) f w left) weak le h hg hk = (h.0, h.1, h.2, h.3, h.4, h.5, h.6, omega (arith, h.7), λ x. ap (λ oc. go_round oc k') (h.8 x))
  meets_round S T X m m1 m2 t new k k' (Ends Fallthrough f w left) weak le h hg hk = (h.0, h.1, h.2, h.3, h.4, h.5, h.6, omega (arith, h.7), λ x. ap (λ oc. go_round oc k') (h.8 x))
  meets_round S T X m m1 m2 t new k k' (Ends (Panics p) f w left) weak le h hg hk = (h.0, h.1, h.2, h.3, h.4, h.5, h.6, omega (arith, h.7), λ x. ap (λ oc. go_round oc k') (h.8 x))
  meets_round S T X m m1 m2 t new k k' (Undecided o) weak le h hg hk = λ x lx. go_round_grows o (new x) k' (h x (omega arith)) hg

  -- behind a clause: in the frames of the next one where it falls through
  meets_down : (S U T : Frames) (X : Exits) (m m1 m2 t : ℕ) (new : ℕ → Outcome) (k k' : List Value → World → ℕ → Outcome) (old : Outcome) → ((f f' : List Value) → S f f' → T f f') → m1 + m2 ≤ m → Meets S (in_clause X T U) m1 t new old → ((f1 : List Value) (w1 : World) (t1 : ℕ) → IsPrefix w1.output (output_of (k' f1 w1 t1))) → ((f f' : List Value) (w w' : World) (left : ℕ) → L.worlds w w' → U f f' → Meets T X m2 left (k' f' w') (k f w left)) → Meets T X m t (λ x. go_down (new x) k') (go_down old k)
  meets_down S U T X m m1 m2 t new k k' (Ends Fallthrough f w left) weak le h hg hk =
      meets_after T X m m2 t left h.3 (λ x. go_down (new x) k') (k' h.1 h.2) (k f w left) (omega (arith, h.7)) (λ x. ap (λ oc. go_down oc k') (h.8 x)) (hk f h.1 w h.2 left h.6 h.5)
  meets_down S U T X m m1 m2 t new k k' (Ends (Next vs) f w left) weak le h hg hk = ([], h.1, h.2, h.3, L.nothing, weak f h.1 h.5, h.6, omega (arith, h.7), λ x. ap (λ oc. go_down oc k') (h.8 x))
  meets_down S U T X m m1 m2 t new k k' (Ends Break f w left) weak le h hg hk = ([], h.1, h.2, h.3, L.nothing, h.5, h.6, omega (arith, h.7), λ x. ap (λ oc. go_down oc k') (h.8 x))
  meets_down S U T X m m1 m2 t new k k' (Ends Continue f w left) weak le h hg hk = (h.0, h.1, h.2, h.3, h.4, h.5, h.6, omega (arith, h.7), λ x. ap (λ oc. go_down oc k') (h.8 x))
  meets_down S U T X m m1 m2 t new k k' (Ends (Return vs) f w left) weak le h hg hk = (h.0, h.1, h.2, h.3, h.4, h.5, h.6, omega (arith, h.7), λ x. ap (λ oc. go_down oc k') (h.8 x))
  meets_down S U T X m m1 m2 t new k k' (Ends (Panics p) f w left) weak le h hg hk = (h.0, h.1, h.2, h.3, h.4, h.5, h.6, omega (arith, h.7), λ x. ap (λ oc. go_down oc k') (h.8 x))
  meets_down S U T X m m1 m2 t new k k' (Undecided o) weak le h hg hk = λ x lx. go_down_grows o (new x) k' (h x (omega arith)) hg

  -- back from a body, in frames of the caller that are related
  meets_leave : (R S1 : Frames) (X X1 : Exits) (m m1 t : ℕ) (f f' : List Value) (new : ℕ → Outcome) (old : Outcome) → m1 + X1.toll ≤ m → R f f' → Meets S1 X1 m1 t new old → Meets R X m t (λ x. leave f' (new x)) (leave f old)
  meets_leave R S1 X X1 m m1 t f f' new (Ends (Next vs) f1 w left) le r h = ([], f', h.2, h.3, L.nothing, r, h.6, omega (arith, h.7, le), λ x. ap (leave f') (h.8 x))
  meets_leave R S1 X X1 m m1 t f f' new (Ends (Return vs) f1 w left) le r h = (h.0, f', h.2, h.3, h.4, r, h.6, omega (arith, h.7, le), λ x. ap (leave f') (h.8 x))
  meets_leave R S1 X X1 m m1 t f f' new (Ends Break f1 w left) le r h = ([], f', h.2, h.3, L.nothing, r, h.6, omega (arith, h.7, le), λ x. ap (leave f') (h.8 x))
  meets_leave R S1 X X1 m m1 t f f' new (Ends Continue f1 w left) le r h = ([], f', h.2, h.3, L.nothing, r, h.6, omega (arith, h.7, le), λ x. ap (leave f') (h.8 x))
  meets_leave R S1 X X1 m m1 t f f' new (Ends Fallthrough f1 w left) le r h = ([], f', h.2, h.3, L.nothing, r, h.6, omega (arith, h.7, le), λ x. ap (leave f') (h.8 x))
  meets_leave R S1 X X1 m m1 t f f' new (Ends (Panics p) f1 w left) le r h = ([], f', h.2, h.3, L.nothing, tt, h.6, omega (arith, h.7, le), λ x. ap (leave f') (h.8 x))
  meets_leave R S1 X X1 m m1 t f f' new (Undecided o) le r h = λ x lx. leave_grows o f' (new x) (h x (omega (arith, lx, le)))

  module _ (p q : ℕ) where
    -- from frames in R the new computation follows the old one to frames in T, at a cost of turns
    pub record Follows (R T : Frames) (X : Exits) (m : ℕ) (old new : Comp) : Type 0 where
      pub grows : Grows new
      pub by : (d d' : ℕ) (f f' : List Value) (w w' : World) (t : ℕ) → L.worlds w w' → R f f' → p * d + q ≤ d' → Meets T X m t (new d' f' w') (old d f w t)

    pub weaker : (R S T : Frames) (X : Exits) (m m' : ℕ) (c c' : Comp) → ((f f' : List Value) → S f f' → T f f') → m ≤ m' → Follows R S X m c c' → Follows R T X m' c c'
    weaker R S T X m m' c c' k le h = record { grows = h.grows; by = λ d d' f f' w w' t l r dd. meets_weaker S T X m m' t (c' d' f' w') (c d f w t) k le (h.by d d' f f' w w' t l r dd) }

    pub stronger : (S R T : Frames) (X : Exits) (m : ℕ) (c c' : Comp) → ((f f' : List Value) → S f f' → R f f') → Follows R T X m c c' → Follows S T X m c c'
    stronger S R T X m c c' k h = record { grows = h.grows; by = λ d d' f f' w w' t l r dd. h.by d d' f f' w w' t l (k f f' r) dd }

    -- ---- each way to make a computation

    pub undecided_follows : (R T : Frames) (X : Exits) (m : ℕ) (c' : Comp) → Grows c' → Follows R T X m undecided c'
    unfolding undecided
    undecided_follows R T X m c' g = record { grows = g; by = λ d d' f f' w w' t l r dd. λ x lx. subst (λ o. IsPrefix o (output_of (c' d' f' w' x))) (sym (L.outputs w w' l)) (g.by d' f' w' x) }

    pub end_follows : (R T : Frames) (X : Exits) (m : ℕ) (e : Ending) (vs' : List Value) → L.values (values_in e) vs' → ((f f' : List Value) → R f f' → after T X e f f') → Follows R T X m (end_by e) (end_by (ending_with e vs'))
    unfolding end_by
    end_follows R T X m e vs' h k = record {
      grows = end_grows (ending_with e vs');
      by = λ d d' f f' w w' t l r dd. (vs', f', w', 0, h, k f f' r, l, omega arith, λ x. ap (Ends (ending_with e vs') f' w') (omega arith));
    }

    deed_meets : (R : Frames) (X : Exits) (x x' : Deed) (f f' : List Value) (w w' : World) (t : ℕ) → L.worlds w w' → DeedLike L.values L.worlds x x' → R f f' → Meets R X 0 t (done x' f' w') (done x f w t)
    deed_meets R X (Gives vs w1) (Gives vs' w1') f f' w w' t l h r = (vs', f', w1', 0, h.0, r, h.1, omega arith, λ x. ap (Ends (Next vs') f' w1') (omega arith))
    deed_meets R X (Traps k) (Traps k') f f' w w' t l h r = ([], f', w', 0, L.nothing, tt, l, omega arith, λ x. ap (λ y. Ends (Panics y) f' w' (0 + x)) (sym h) ∙ ap (Ends (Panics k) f' w') (omega arith))
    deed_meets R X (Gives vs w1) (Traps k') f f' w w' t l h r = absurd h
    deed_meets R X (Traps k) (Gives vs' w1') f f' w w' t l h r = absurd h

    pub operate_follows : (R : Frames) (X : Exits) (o : Operation) (vs vs' : List Value) → L.values vs vs' → Follows R R X 0 (operate o vs) (operate o vs')
    unfolding operate
    operate_follows R X o vs vs' h = record {
      grows = operate_grows o vs';
      by = λ d d' f f' w w' t l r dd. deed_meets R X (perform o vs w) (perform o vs' w') f f' w w' t l (L.performs o vs vs' w w' h l) r;
    }

    pub read_follows : (R : Frames) (X : Exits) (i j : ℕ) → ((f f' : List Value) → R f f' → L.values (nth f i ∷ []) (nth f' j ∷ [])) → Follows R R X 0 (read i) (read j)
    unfolding read
    read_follows R X i j h = record {
      grows = read_grows j;
      by = λ d d' f f' w w' t l r dd. (nth f' j ∷ [], f', w', 0, h f f' r, r, l, omega arith, λ x. ap (Ends (Next (nth f' j ∷ [])) f' w') (omega arith));
    }

    pub write_follows : (R T : Frames) (X : Exits) (i j : ℕ) (v v' : Value) → ((f f' : List Value) → R f f' → T (slice_set f i v) (slice_set f' j v')) → Follows R T X 0 (write i v) (write j v')
    unfolding write
    write_follows R T X i j v v' h = record {
      grows = write_grows j v';
      by = λ d d' f f' w w' t l r dd. ([], slice_set f' j v', w', 0, L.nothing, h f f' r, l, omega arith, λ x. ap (Ends (Next []) (slice_set f' j v') w') (omega arith));
    }

    pub then_follows : (R S T : Frames) (X : Exits) (m m1 m2 : ℕ) (c c' : Comp) (k k' : List Value → Comp) → m1 + m2 ≤ m → Follows R S X m1 c c' → ((vs : List Value) → Grows (k' vs)) → ((vs vs' : List Value) → L.values vs vs' → Follows S T X m2 (k vs) (k' vs')) → Follows R T X m (then_do c k) (then_do c' k')
    unfolding then_do
    then_follows R S T X m m1 m2 c c' k k' le h hg hk = record {
      grows = then_grows c' k' h.grows hg;
      by = λ d d' f f' w w' t l r dd. meets_then S T X m m1 m2 t (c' d' f' w') (λ vs f1 w1 t1. k vs d f1 w1 t1) (λ vs f1 w1 t1. k' vs d' f1 w1 t1) (c d f w t) le (h.by d d' f f' w w' t l r dd) (λ vs f1 w1 t1. (hg vs).by d' f1 w1 t1)
          (λ vs vs' f1 f1' w1 w1' t1 v1 l1 r1. (hk vs vs' v1).by d d' f1 f1' w1 w1' t1 l1 r1 dd);
    }

    pub looped_follows : (R S T : Frames) (X : Exits) (m m1 m2 : ℕ) (c c' k k' : Comp) → ((f f' : List Value) → S f f' → T f f') → m1 + m2 ≤ m → Follows R S (in_loop X S) m1 c c' → Follows S T X m2 k k' → Follows R T X m (looped c k) (looped c' k')
    unfolding looped
    looped_follows R S T X m m1 m2 c c' k k' weak le h hk = record {
      grows = looped_grows c' k' h.grows hk.grows;
      by = λ d d' f f' w w' t l r dd. meets_round S T X m m1 m2 t (c' d' f' w') (λ f1 w1 t1. k d f1 w1 t1) (λ f1 w1 t1. k' d' f1 w1 t1) (c d f w t) weak le (h.by d d' f f' w w' t l r dd) (λ f1 w1 t1. hk.grows.by d' f1 w1 t1)
          (λ f1 f1' w1 w1' t1 l1 r1. hk.by d d' f1 f1' w1 w1' t1 l1 r1 dd);
    }

    pub clause_follows : (R S U T : Frames) (X : Exits) (m m1 m2 : ℕ) (c c' k k' : Comp) → ((f f' : List Value) → S f f' → T f f') → m1 + m2 ≤ m → Follows R S (in_clause X T U) m1 c c' → Follows U T X m2 k k' → Follows R T X m (clause c k) (clause c' k')
    unfolding clause
    clause_follows R S U T X m m1 m2 c c' k k' weak le h hk = record {
      grows = clause_grows c' k' h.grows hk.grows;
      by = λ d d' f f' w w' t l r dd. meets_down S U T X m m1 m2 t (c' d' f' w') (λ f1 w1 t1. k d f1 w1 t1) (λ f1 w1 t1. k' d' f1 w1 t1) (c d f w t) weak le (h.by d d' f f' w w' t l r dd) (λ f1 w1 t1. hk.grows.by d' f1 w1 t1)
          (λ f1 f1' w1 w1' t1 l1 r1. hk.by d d' f1 f1' w1 w1' t1 l1 r1 dd);
    }

    spend_meets : (R T : Frames) (X : Exits) (m m1 : ℕ) (c c' : Comp) → m1 + 1 ≤ m + a → Follows R T X m1 c c' → (d d' : ℕ) (f f' : List Value) (w w' : World) (t : ℕ) → L.worlds w w' → R f f' → p * d + q ≤ d' → Meets T X m t (spend c' d' f' w') (spend c d f w t)
    unfolding spend
    spend_meets R T X m m1 c c' le h d d' f f' w w' zero l r dd = λ x lx. subst (λ o. IsPrefix o (output_of (spend c' d' f' w' x))) (sym (L.outputs w w' l)) ((spend_grows c' h.grows).by d' f' w' x)
    spend_meets R T X m m1 c c' le h d d' f f' w w' (suc t) l r dd =
        meets_after T X m m1 (suc t) t 1 (spend c' d' f' w') (c' d' f' w') (c d f w t) (omega arith) (λ x. let z : 1 + x ≡ suc x = omega arith in ap (spend c' d' f' w') z) (h.by d d' f f' w w' t l r dd)

    pub spend_follows : (R T : Frames) (X : Exits) (m m1 : ℕ) (c c' : Comp) → m1 + 1 ≤ m + a → Follows R T X m1 c c' → Follows R T X m (spend c) (spend c')
    spend_follows R T X m m1 c c' le h = record { grows = spend_grows c' h.grows; by = spend_meets R T X m m1 c c' le h }

    pub choose_follows : (R T : Frames) (X : Exits) (m : ℕ) (b b' : Bool) (c c' k k' : Comp) → b ≡ b' → Follows R T X m c c' → Follows R T X m k k' → Follows R T X m (choose b c k) (choose b' c' k')
    choose_follows R T X m b b' c c' k k' e h hk = subst (λ z. Follows R T X m (choose b c k) (choose z c' k')) e (by_cases b)
      where
        by_cases : (z : Bool) → Follows R T X m (choose z c k) (choose z c' k')
        by_cases true = h
        by_cases false = hk

    -- the turns of a loop over items: each turn of the old pays for what the block costs
    pub over_follows : (R S : Frames) (X : Exits) (m1 : ℕ) (item item' : ℕ → Comp) (block block' : Comp) → ((f f' : List Value) → S f f' → R f f') → m1 + 1 ≤ a → ((i : ℕ) → Follows R S X 0 (item i) (item' i)) → Follows S S (in_loop X S) m1 block block' → (i n : ℕ) → Follows R R X 0 (over item block i n) (over item' block' i n)
    unfolding over
    over_follows R S X m1 item item' block block' weak le hi hb i zero = end_follows R R X 0 (Next []) [] L.nothing (λ f f' r. r)
    over_follows R S X m1 item item' block block' weak le hi hb i (suc n) =
        let rest = over_follows R S X m1 item item' block block' weak le hi hb (suc i) n in
        spend_follows R R X 0 m1 (then_do (item i) (λ vs. looped block (over item block (suc i) n))) (then_do (item' i) (λ vs. looped block' (over item' block' (suc i) n))) (omega arith)
        (then_follows R S R X m1 0 m1 (item i) (item' i) (λ vs. looped block (over item block (suc i) n)) (λ vs. looped block' (over item' block' (suc i) n)) (omega arith) (hi i)
        (λ vs. looped_grows block' (over item' block' (suc i) n) hb.grows (over_grows item' block' (λ j. (hi j).grows) hb.grows (suc i) n))
        (λ vs vs' v1. looped_follows S S R X m1 m1 0 block block' (over item block (suc i) n) (over item' block' (suc i) n) weak (omega arith) hb (stronger S R R X 0 (over item block (suc i) n) (over item' block' (suc i) n) weak rest)))

  module _ (p q q1 : ℕ) where
    enter_meets : (R R1 S1 : Frames) (X X1 : Exits) (m m1 : ℕ) (frame frame' : List Value) (c c' : Comp) → m1 + X1.toll ≤ m → q1 + 1 ≤ p + q → R1 frame frame' → Follows p q1 R1 S1 X1 m1 c c' → (d d' : ℕ) (f f' : List Value) (w w' : World) (t : ℕ) → L.worlds w w' → R f f' → p * d + q ≤ d' → Meets R X m t (enter frame' c' d' f' w') (enter frame c d f w t)
    unfolding enter
    enter_meets R R1 S1 X X1 m m1 frame frame' c c' le room fr h zero d' f f' w w' t l r dd = λ x lx. subst (λ o. IsPrefix o (output_of (enter frame' c' d' f' w' x))) (sym (L.outputs w w' l)) ((enter_grows frame' c' h.grows).by d' f' w' x)
    enter_meets R R1 S1 X X1 m m1 frame frame' c c' le room fr h (suc d) zero f f' w w' t l r dd = absurd (omega (arith, room, dd))
    enter_meets R R1 S1 X X1 m m1 frame frame' c c' le room fr h (suc d) (suc d') f f' w w' t l r dd =
        meets_leave R S1 X X1 m m1 t f f' (c' d' frame' w') (c d frame w t) le r (h.by d d' frame frame' w w' t l fr (omega (arith, room, dd)))

    -- a body, in frames of its own
    pub enter_follows : (R R1 S1 : Frames) (X X1 : Exits) (m m1 : ℕ) (frame frame' : List Value) (c c' : Comp) → m1 + X1.toll ≤ m → q1 + 1 ≤ p + q → R1 frame frame' → Follows p q1 R1 S1 X1 m1 c c' → Follows p q R R X m (enter frame c) (enter frame' c')
    enter_follows R R1 S1 X X1 m m1 frame frame' c c' le room fr h = record { grows = enter_grows frame' c' h.grows; by = enter_meets R R1 S1 X X1 m m1 frame frame' c c' le room fr h }
