-- The two ways in which packages are alike whose functions have other numbers: the new one has those of s, or the old one has.
use Rattle.std.proofs.Common.{◌≡◌, ℕ, List, [], ◌∷◌, ◌++◌, refl, sym, ap, ◌∙◌, subst, take, drop}
use Rattle.go_meaning.specs.Values.{Value, Truth, Whole, Text, Parts, Slice, NilSlice, Function, NilFunction, nth, is_true}
use Rattle.go_meaning.specs.Computations.{World}
use Rattle.go_meaning.specs.Operations.{Operation, Deed, Gives, Traps, perform, item_count}
use Rattle.go_meaning_simulation.specs.Likeness.{DeedLike, CalledAlike, functions, none, Likeness, Mirror}
use Rattle.go_meaning_numbers.specs.Moved.{shifted, moved, world_moved, deed_moved}
use Rattle.go_meaning_numbers.proofs.Moving.{moved_append, nth_moved, moved_take, moved_drop, truth_moved, count_moved, zero_moved, perform_moved}

module _ (s : ℕ → ℕ) where
  abbrev pub V : List Value → List Value → Type 0
  V vs vs' = vs' ≡ moved s vs

  abbrev pub W : World → World → Type 0
  W w w' = w' ≡ world_moved s w

  pub first_is : (v v' : Value) → V (v ∷ []) (v' ∷ []) → v' ≡ shifted s v
  first_is v v' e = ap (λ vs. nth vs 0) e

  pub joined : (us us' vs vs' : List Value) → V us us' → V vs vs' → V (us ++ vs) (us' ++ vs')
  joined us us' vs vs' e k = ap (λ x. x ++ vs') e ∙ ap (λ x. moved s us ++ x) k ∙ sym (moved_append s us vs)

  pub picked : (n : ℕ) (vs vs' : List Value) → V vs vs' → V (nth vs n ∷ []) (nth vs' n ∷ [])
  picked n vs vs' e = ap (λ x. nth x n ∷ []) e ∙ ap (λ v. v ∷ []) (nth_moved s vs n)

  -- functions that are called alike, or none
  pub called_there : (v : Value) → CalledAlike (λ g g'. g' ≡ s g) v (shifted s v)
  called_there (Truth b) = none refl refl
  called_there (Whole z) = none refl refl
  called_there (Text t) = none refl refl
  called_there (Parts vs) = none refl refl
  called_there (Slice a i n c) = none refl refl
  called_there NilSlice = none refl refl
  called_there (Function g) = functions refl
  called_there NilFunction = none refl refl

  pub called_back : (v : Value) → CalledAlike (λ g' g. g' ≡ s g) (shifted s v) v
  called_back (Truth b) = none refl refl
  called_back (Whole z) = none refl refl
  called_back (Text t) = none refl refl
  called_back (Parts vs) = none refl refl
  called_back (Slice a i n c) = none refl refl
  called_back NilSlice = none refl refl
  called_back (Function g) = functions refl
  called_back NilFunction = none refl refl

  pub deed_there : (x : Deed) → DeedLike V W x (deed_moved s x)
  deed_there (Gives vs w) = (refl, refl)
  deed_there (Traps p) = refl

  pub deed_back : (x : Deed) → DeedLike (λ vs' vs. V vs vs') (λ w' w. W w w') (deed_moved s x) x
  deed_back (Gives vs w) = (refl, refl)
  deed_back (Traps p) = refl

  pub performed : (o : Operation) (vs vs' : List Value) (w w' : World) → V vs vs' → W w w' → perform o vs' w' ≡ deed_moved s (perform o vs w)
  performed o vs vs' w w' e l = ap (λ xs. perform o xs w') e ∙ ap (perform o (moved s vs)) l ∙ perform_moved s o vs w

  -- the new side has the numbers of s
  abbrev pub forward : Likeness
  forward = record {
    values = V;
    worlds = W;
    calls = λ g g'. g' ≡ s g;
    outputs = λ w w' e. sym (ap (λ x. x.output) e);
    nothing = refl;
    joins = joined;
    fronts = λ n vs vs' e. ap (take n) e ∙ sym (moved_take s n vs);
    rests = λ n vs vs' e. ap (drop n) e ∙ sym (moved_drop s n vs);
    picks = picked;
    truths = λ v v' e. sym (ap is_true (first_is v v' e) ∙ truth_moved s v);
    counts = λ items v v' e. sym (ap (item_count items) (first_is v v' e) ∙ count_moved s items v);
    called = λ v v' e. subst (λ x. CalledAlike (λ g g'. g' ≡ s g) v x) (sym (first_is v v' e)) (called_there v);
    zeros = λ z. ap (λ v. v ∷ []) (sym (zero_moved s z));
    truth = λ b. refl;
    number = λ z. refl;
    performs = λ o vs vs' w w' e l. subst (DeedLike V W (perform o vs w)) (sym (performed o vs vs' w w' e l)) (deed_there (perform o vs w));
  }

  -- the old side has them
  abbrev pub backward : Likeness
  backward = record {
    values = λ vs' vs. V vs vs';
    worlds = λ w' w. W w w';
    calls = λ g' g. g' ≡ s g;
    outputs = λ w' w e. ap (λ x. x.output) e;
    nothing = refl;
    joins = λ us' us vs' vs e k. joined us us' vs vs' e k;
    fronts = λ n vs' vs e. ap (take n) e ∙ sym (moved_take s n vs);
    rests = λ n vs' vs e. ap (drop n) e ∙ sym (moved_drop s n vs);
    picks = λ n vs' vs e. picked n vs vs' e;
    truths = λ v' v e. ap is_true (first_is v v' e) ∙ truth_moved s v;
    counts = λ items v' v e. ap (item_count items) (first_is v v' e) ∙ count_moved s items v;
    called = λ v' v e. subst (λ x. CalledAlike (λ g' g. g' ≡ s g) x v) (sym (first_is v v' e)) (called_back v);
    zeros = λ z. ap (λ v. v ∷ []) (sym (zero_moved s z));
    truth = λ b. refl;
    number = λ z. refl;
    performs = λ o vs' vs w' w e l. subst (λ x. DeedLike (λ vs' vs. V vs vs') (λ w' w. W w w') x (perform o vs w)) (sym (performed o vs vs' w w' e l)) (deed_back (perform o vs w));
  }

  pub mirrored : Mirror forward backward
  mirrored = record { values = λ vs vs' e. e; values_back = λ vs vs' e. e; worlds = λ w w' e. e; calls = λ g g' e. e; calls_back = λ g g' e. e }
