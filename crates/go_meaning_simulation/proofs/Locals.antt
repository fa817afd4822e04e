-- Frames of bodies and of windows: rooms for their links, and the frames that calls begin with.
use Rattle.std.proofs.Common.{◌≡◌, ℕ, zero, suc, ◌<◌, inl, inr, List, [], ◌∷◌, refl, sym, ap, ◌∙◌, subst, arith, drop, length, Option, get_or-set_same, get_or-set_other, length-set}
use Rattle.std.proofs.lemmas.List.{length-replicate}
use Rattle.std.proofs.lemmas.Bool.Decides.{eqb_tells}
use Rattle.std.specs.Prelude.{slice_set, replicate}
use Rattle.go_types.specs.Trees.{TypeTree}
use Rattle.go_types_relations.specs.Zeros.{nil_function}
use Rattle.go_typed.specs.Trees.{Typeds}
use Rattle.go_meaning.specs.Values.{Value, NilFunction, nth}
use Rattle.go_meaning.specs.Meaning.{Code, with_arguments, frame_of}
use Rattle.go_meaning_simulation.specs.Likeness.{Likeness}
use Rattle.go_meaning_simulation.specs.Locals.{In, Linked, Link, AreLinked, nothing, unnamed, named, Inside, May, Hole, window_links, body_links, Agree, Within}
use Rattle.go_meaning_simulation.proofs.Rooms.{Room, no_frames}

-- ---- places of a frame

pub set_here : (f : List Value) (i j : ℕ) (v : Value) → i < length f → j ≡ i → nth (slice_set f i v) j ≡ v
set_here f i j v lt e = ap (nth (slice_set f i v)) e ∙ get_or-set_same f i v NilFunction lt

pub set_there : (f : List Value) (i j : ℕ) (v : Value) → (j ≡ i → ⊥) → nth (slice_set f i v) j ≡ nth f j
set_there f i j v ne = get_or-set_other f i j v NilFunction ne

module _ (L : Likeness) where
  abbrev pub Same : Value → Value → Type 0
  Same v v' = L.values (v ∷ []) (v' ∷ [])

  pub same_by : (u u' v v' : Value) → u ≡ v → u' ≡ v' → Same v v' → Same u u'
  same_by u u' v v' e e' h = subst (λ x. Same x u') (sym e) (subst (λ x. Same v x) (sym e') h)

  -- two linked locals get like values
  pub pair_set : (I : Linked) (f f' : List Value) → length f ≡ I.count → length f' ≡ I.new_count → (i j : ℕ) → Link I i j → (v v' : Value) → Same v v' → (k n : ℕ) → Link I k n → ((k ≡ i → ⊥) → Same (nth f k) (nth f' n)) → Same (nth (slice_set f i v) k) (nth (slice_set f' j v') n)
  pair_set I f f' long fits i j h v v' e k n l rest = elim (eqb_tells k i) [ inl x ↦ here x.1 | inr x ↦ there x.1 ]
    where
      here : k ≡ i → Same (nth (slice_set f i v) k) (nth (slice_set f' j v') n)
      here x = same_by (nth (slice_set f i v) k) (nth (slice_set f' j v') n) v v' (set_here f i k v (omega (arith, long, I.in_old i j h)) x) (set_here f' j n v' (omega (arith, fits, I.in_new i j h)) (I.one i n j (subst (λ y. Link I y n) x l) h)) e

      there : (k ≡ i → ⊥) → Same (nth (slice_set f i v) k) (nth (slice_set f' j v') n)
      there x = same_by (nth (slice_set f i v) k) (nth (slice_set f' j v') n) (nth f k) (nth f' n) (set_there f i k v x) (set_there f' j n v' (λ y. x (I.back_one k i j (subst (Link I k) y l) h))) (rest x)

  -- ---- bodies

  pub agree_set : (I : Linked) (i j : ℕ) → Link I i j → (v v' : Value) → Same v v' → (f f' : List Value) → Agree L.values I f f' → Agree L.values I (slice_set f i v) (slice_set f' j v')
  agree_set I i j h v v' e f f' a = record {
    long = length-set f i v ∙ a.long;
    fits = length-set f' j v' ∙ a.fits;
    same = λ k n l. pair_set I f f' a.long a.fits i j h v v' e k n l (λ x. a.same k n l);
  }

  abbrev pub body_room : (I : Linked) (windows : Typeds TypeTree → Typeds TypeTree → Type 0) (cost factor : ℕ) → Room L (body_links L.values I windows cost factor)
  body_room I windows cost factor = record {
    frames = λ s. Agree L.values I;
    back = Agree L.values I;
    toll = 0;
    valuing = λ v v' e. e;
    reading = λ s i j h f f' a. a.same i j h;
    writing = λ s i j h v v' e f f' a. agree_set I i j h v v' e f f' a;
    declaring = λ s s1 i j h v v' e f f' a. agree_set I i j h v v' e f f' a;
    forgetting = λ s s1 h f f' a. a;
    holding = λ s v n h f f' a. absurd h;
    held = λ s n v h f f' a. absurd h;
    returning = λ s h f f' a. a;
  }

  -- ---- windows

  module _ (I : Inside) (f0 : List Value) where
    kept_set : (i : ℕ) → May I i → (v : Value) (f : List Value) → ((k : ℕ) → (May I k → ⊥) → nth f k ≡ nth f0 k) → (k : ℕ) → (May I k → ⊥) → nth (slice_set f i v) k ≡ nth f0 k
    kept_set i m v f h k away = set_there f i k v (λ e. away (subst (May I) (sym e) m)) ∙ h k away

    holes_set : (i j : ℕ) → Link I.locals i j → (v' : Value) (f' : List Value) → ((v : Value) (p : ℕ) → Hole I v p → Same v (nth f' p)) → (v : Value) (p : ℕ) → Hole I v p → Same v (nth (slice_set f' j v') p)
    holes_set i j h v' f' hs v p k = same_by v (nth (slice_set f' j v') p) v (nth f' p) refl (set_there f' j p v' (λ e. I.apart v p i k (subst (Link I.locals i) (sym e) h))) (hs v p k)

    pub within_write : (s : List ℕ) (i j : ℕ) → Link I.locals i j × May I i → (v v' : Value) → Same v v' → (f f' : List Value) → Within L.values I f0 s f f' → Within L.values I f0 s (slice_set f i v) (slice_set f' j v')
    within_write s i j h v v' e f f' r = record {
      long = length-set f i v ∙ r.long;
      fits = length-set f' j v' ∙ r.fits;
      same = λ k n known l. pair_set I.locals f f' r.long r.fits i j h.0 v v' e k n l (λ x. r.same k n known l);
      kept = kept_set i h.1 v f r.kept;
      holes = holes_set i j h.0 v' f' r.holes;
    }

    pub within_declare : (s : List ℕ) (i j : ℕ) → Link I.locals i j × May I i → (v v' : Value) → Same v v' → (f f' : List Value) → Within L.values I f0 s f f' → Within L.values I f0 (i ∷ s) (slice_set f i v) (slice_set f' j v')
    within_declare s i j h v v' e f f' r = record {
      long = length-set f i v ∙ r.long;
      fits = length-set f' j v' ∙ r.fits;
      same = λ k n known l. pair_set I.locals f f' r.long r.fits i j h.0 v v' e k n l (λ x. elim known [ inl y ↦ absurd (x y) | inr y ↦ r.same k n y l ]);
      kept = kept_set i h.1 v f r.kept;
      holes = holes_set i j h.0 v' f' r.holes;
    }

    pub within_forget : (s s1 : List ℕ) → ((i : ℕ) → In i s1 → In i s) → (f f' : List Value) → Within L.values I f0 s f f' → Within L.values I f0 s1 f f'
    within_forget s s1 h f f' r = record { long = r.long; fits = r.fits; same = λ i j known l. r.same i j (h i known) l; kept = r.kept; holes = r.holes }

    abbrev pub window_room : Room L (window_links L.values I)
    window_room = record {
      frames = Within L.values I f0;
      back = no_frames;
      toll = 0;
      valuing = λ v v' e. e;
      reading = λ s i j h f f' r. r.same i j h.0 h.1;
      writing = λ s i j h v v' e f f' r. within_write s i j h v v' e f f' r;
      declaring = λ s s1 i j h v v' e f f' r. within_forget (i ∷ s) s1 h.2 (slice_set f i v) (slice_set f' j v') (within_declare s i j (h.0, h.1) v v' e f f' r);
      forgetting = within_forget;
      holding = λ s v p h f f' r. r.holes v p h;
      held = λ s p v h f f' r. absurd h;
      returning = λ s h f f' r. absurd h;
    }

  -- ---- the frames that calls begin with

  no_values : (n i : ℕ) → nth (replicate n NilFunction) i ≡ NilFunction
  no_values zero i = refl
  no_values (suc n) zero = refl
  no_values (suc n) (suc i) = no_values n i

  pub empty_agree : (I : Linked) (n n' : ℕ) → n ≡ I.count → n' ≡ I.new_count → Agree L.values I (replicate n NilFunction) (replicate n' NilFunction)
  empty_agree I n n' e e' = record {
    long = length-replicate n NilFunction ∙ e;
    fits = length-replicate n' NilFunction ∙ e';
    same = λ i j l. same_by (nth (replicate n NilFunction) i) (nth (replicate n' NilFunction) j) NilFunction NilFunction (no_values n i) (no_values n' j) (L.zeros nil_function);
  }

  arguments_agree : (I : Linked) {ps ps' : List (Option ℕ)} → AreLinked I ps ps' → (vs vs' f f' : List Value) → L.values vs vs' → Agree L.values I f f' → Agree L.values I (with_arguments ps vs f) (with_arguments ps' vs' f')
  arguments_agree I nothing vs vs' f f' e a = a
  arguments_agree I (unnamed hs) vs vs' f f' e a = arguments_agree I hs (drop 1 vs) (drop 1 vs') f f' (L.rests 1 vs vs' e) a
  arguments_agree I (named {i = i} {j = j} h hs) vs vs' f f' e a =
      arguments_agree I hs (drop 1 vs) (drop 1 vs') (slice_set f i (nth vs 0)) (slice_set f' j (nth vs' 0)) (L.rests 1 vs vs' e) (agree_set I i j h (nth vs 0) (nth vs' 0) (L.picks 0 vs vs' e) f f' a)

  pub calls_begin : (I : Linked) (g g' : Code) → g.locals ≡ I.count → g'.locals ≡ I.new_count → AreLinked I g.parameters g'.parameters → (vs vs' : List Value) → L.values vs vs' → Agree L.values I (frame_of g vs) (frame_of g' vs')
  calls_begin I g g' e e' hs vs vs' v = arguments_agree I hs vs vs' (replicate g.locals NilFunction) (replicate g'.locals NilFunction) v (empty_agree I g.locals g'.locals e e')
