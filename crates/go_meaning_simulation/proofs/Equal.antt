-- Sides with equal values and equal worlds, and what follows where each of two sides follows the other at no cost.
use Rattle.std.proofs.Common.{◌≡◌, ℕ, ◌+◌, ◌-◌, ◌≤◌, List, [], ◌∷◌, ◌++◌, refl, sym, ap, ◌∙◌, subst, arith, take, drop, append_assoc}
use Rattle.std.proofs.Common.{append-nil as append_nil}
use Rattle.std.specs.Prelude.{length}
use Rattle.go_meaning.specs.Values.{Value, Truth, Whole, Text, Parts, Slice, NilSlice, Function, NilFunction, nth, is_true}
use Rattle.go_meaning.specs.Computations.{World, Ending, Next, Return, Break, Continue, Fallthrough, Panics, Outcome, Ends, Undecided, output_of}
use Rattle.go_meaning.specs.Operations.{Operation, Deed, Gives, Traps, perform, item_count}
use Rattle.go_meaning.specs.Meaning.{Run, Ended, Panicked, Unfinished}
use Rattle.go_meaning.specs.Laws.{IsPrefix, GoesOn, IsAlike}
use Rattle.go_meaning_simulation.specs.Likeness.{DeedLike, CalledAlike, functions, none, Likeness, Mirror}
use Rattle.go_meaning_simulation.proofs.Following.{Frames, Exits, after, values_in, ending_with, Meets}
use Rattle.go_meaning_simulation.proofs.Runs.{toll_at_most}

abbrev pub EqualValues : List Value → List Value → Type 0
EqualValues vs vs' = vs ≡ vs'

abbrev pub EqualWorlds : World → World → Type 0
EqualWorlds w w' = w ≡ w'

deed_refl : (x : Deed) → DeedLike EqualValues EqualWorlds x x
deed_refl (Gives vs w) = (refl, refl)
deed_refl (Traps p) = refl

pub performs_equal : (o : Operation) (vs vs' : List Value) (w w' : World) → vs ≡ vs' → w ≡ w' → DeedLike EqualValues EqualWorlds (perform o vs w) (perform o vs' w')
performs_equal o vs vs' w w' e l =
    subst (λ us. DeedLike EqualValues EqualWorlds (perform o vs w) (perform o us w')) e (subst (λ u. DeedLike EqualValues EqualWorlds (perform o vs w) (perform o vs u)) l (deed_refl (perform o vs w)))

pub called_refl : (v : Value) → CalledAlike (λ g g'. g ≡ g') v v
called_refl (Truth b) = none refl refl
called_refl (Whole z) = none refl refl
called_refl (Text bytes) = none refl refl
called_refl (Parts us) = none refl refl
called_refl (Slice a i n c) = none refl refl
called_refl NilSlice = none refl refl
called_refl (Function g) = functions refl
called_refl NilFunction = none refl refl

pub first_is : (v v' : Value) → (v ∷ []) ≡ (v' ∷ []) → v ≡ v'
first_is v v' e = ap (λ vs. nth vs 0) e

abbrev pub equal : Likeness
equal = record {
  values = EqualValues;
  worlds = EqualWorlds;
  calls = λ g g'. g ≡ g';
  outputs = λ w w' e. ap (λ x. x.output) e;
  nothing = refl;
  joins = λ us us' vs vs' e k. ap (λ x. x ++ vs) e ∙ ap (λ x. us' ++ x) k;
  fronts = λ n vs vs' e. ap (take n) e;
  rests = λ n vs vs' e. ap (drop n) e;
  picks = λ n vs vs' e. ap (λ x. nth x n ∷ []) e;
  truths = λ v v' e. ap is_true (first_is v v' e);
  counts = λ items v v' e. ap (item_count items) (first_is v v' e);
  called = λ v v' e. subst (λ x. CalledAlike (λ g g'. g ≡ g') v x) (first_is v v' e) (called_refl v);
  zeros = λ z. refl;
  truth = λ b. refl;
  number = λ z. refl;
  performs = performs_equal;
}

pub equal_mirror : Mirror equal equal
equal_mirror = record { values = λ vs vs' e. sym e; values_back = λ vs vs' e. sym e; worlds = λ w w' e. sym e; calls = λ g g' e. sym e; calls_back = λ g g' e. sym e }

-- ---- runs, both ways

append_cancels : (o r : List ℕ) → o ≡ o ++ r → r ≡ []
append_cancels o r h = empty_by_length r (lengths o r (ap length h))
  where
    lengths : (o r : List ℕ) → length o ≡ length (o ++ r) → length r ≡ 0
    lengths [] r h = sym h
    lengths (x ∷ o) r h = lengths o r (omega (arith, h))

    empty_by_length : (r : List ℕ) → length r ≡ 0 → r ≡ []
    empty_by_length [] h = refl
    empty_by_length (x ∷ r) h = absurd (omega (arith, h))

appended_nothing : (r s : List ℕ) → r ++ s ≡ [] → r ≡ []
appended_nothing [] s h = refl
appended_nothing (x ∷ r) s h = absurd cc

prefixes_equal : (o o' : List ℕ) → IsPrefix o o' → IsPrefix o' o → o ≡ o'
prefixes_equal o o' h k =
    let whole : o ≡ o ++ (h.0 ++ k.0) = k.1 ∙ ap (λ x. x ++ k.0) h.1 ∙ append_assoc o h.0 k.0 in
    let empty : h.0 ≡ [] = appended_nothing h.0 k.0 (append_cancels o (h.0 ++ k.0) whole) in
    sym (h.1 ∙ ap (λ x. o ++ x) empty ∙ append_nil o)

pub goes_both : (r r' : Run) → GoesOn r r' → GoesOn r' r → r ≡ r'
goes_both (Ended o) r' h k = sym h
goes_both (Panicked p o) r' h k = sym h
goes_both (Unfinished o) (Ended o') h k = k
goes_both (Unfinished o) (Panicked p' o') h k = k
goes_both (Unfinished o) (Unfinished o') h k = ap Unfinished (prefixes_equal o o' h k)

-- ---- outcomes, both ways

ending_same : (e : Ending) (vs : List Value) → values_in e ≡ vs → ending_with e vs ≡ e
ending_same (Next us) vs h = ap Next (sym h)
ending_same (Return us) vs h = ap Return (sym h)
ending_same Break vs h = refl
ending_same Continue vs h = refl
ending_same Fallthrough vs h = refl
ending_same (Panics p) vs h = refl

-- the turns that are left
abbrev turns_left : Outcome → ℕ
turns_left (Ends e f w t) = t
turns_left (Undecided o) = 0

unlike : (o : List ℕ) (e : Ending) (f : List Value) (w : World) (t : ℕ) → Undecided o ≡ Ends e f w t → ⊥
unlike o e f w t h = absurd cc

-- in whatever way a statement ends, its frames are in R
pub record AllIn (R T : Frames) (X : Exits) : Type 0 where
  pub next : (f f' : List Value) → T f f' → R f f'
  pub back : (f f' : List Value) → X.back f f' → R f f'
  pub breaks : (f f' : List Value) → X.breaks f f' → R f f'
  pub continues : (f f' : List Value) → X.continues f f' → R f f'
  pub falls : (f f' : List Value) → X.falls f f' → R f f'
  pub free : X.toll ≡ 0

module _ (R T : Frames) (X : Exits) (all : AllIn R T X) where
  ends_alike : (e : Ending) (f f' : List Value) (w : World) (left : ℕ) (new : Outcome) → after T X e f f' → new ≡ Ends e f' w left → IsAlike R (Ends e f w left) new
  ends_alike (Next vs) f f' w left new h eq = (f', all.next f f' h, eq)
  ends_alike (Return vs) f f' w left new h eq = (f', all.back f f' h, eq)
  ends_alike Break f f' w left new h eq = (f', all.breaks f f' h, eq)
  ends_alike Continue f f' w left new h eq = (f', all.continues f f' h, eq)
  ends_alike Fallthrough f f' w left new h eq = (f', all.falls f f' h, eq)
  ends_alike (Panics p) f f' w left new h eq = (f', eq)

  -- a side that ended at the turns that it had, at no cost
  ended_at : (S : Frames) (Z : Exits) (free : Z.toll ≡ 0) (t left : ℕ) (e : Ending) (f : List Value) (w : World) (new : ℕ → Outcome) → Meets equal 1 S Z 0 t new (Ends e f w left) →
      (f' : List Value) × (left' : ℕ) × after S Z e f f' × (left ≤ left') × (new t ≡ Ends e f' w left')
  ended_at S Z free t left e f w new h =
      let paid = toll_at_most Z e in
      let s : h.3 + (t - h.3) ≡ t = omega (arith, h.7, paid, free) in
      (h.1, t - h.3, h.5, omega (arith, h.7, paid, free), ap new (sym s) ∙ h.8 (t - h.3) ∙ ap (λ x. Ends x h.1 h.2 (t - h.3)) (ending_same e h.0 h.4) ∙ ap (λ x. Ends e h.1 x (t - h.3)) (sym h.6))

  -- each follows the other, so both end alike with as many turns left
  pub both_alike : (S : Frames) (Z : Exits) → Z.toll ≡ 0 → (t : ℕ) (old new : ℕ → Outcome) (oc nc : Outcome) → old t ≡ oc → new t ≡ nc → Meets equal 1 T X 0 t new oc → Meets equal 1 S Z 0 t old nc → IsAlike R oc nc
  both_alike S Z free t old new (Ends e f w left) nc eq eq' h k =
      let x = ended_at T X all.free t left e f w new h in
      let y = ended_at S Z free t x.1 e x.0 w old (subst (Meets equal 1 S Z 0 t old) (sym eq' ∙ x.4) k) in
      let same : left ≡ y.1 = ap turns_left (sym eq ∙ y.4) in
      let both : x.1 ≡ left = omega (arith, same, x.3, y.3) in
      ends_alike e f x.0 w left nc x.2 (sym eq' ∙ x.4 ∙ ap (Ends e x.0 w) both)
  both_alike S Z free t old new (Undecided o) (Ends e f w left) eq eq' h k =
      let y = ended_at S Z free t left e f w old k in absurd (unlike o e y.0 w y.1 (sym eq ∙ y.4))
  both_alike S Z free t old new (Undecided o) (Undecided o') eq eq' h k =
      let a : IsPrefix o o' = subst (λ oc. IsPrefix o (output_of oc)) eq' (h t (omega (arith, all.free))) in
      let b : IsPrefix o' o = subst (λ oc. IsPrefix o' (output_of oc)) eq (k t (omega (arith, free))) in
      ap Undecided (prefixes_equal o' o b a)
