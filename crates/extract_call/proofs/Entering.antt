-- The frame of the call: the new function begins with what the window begins with.
use Rattle.std.proofs.Common.{◌≡◌, ℕ, ◌⊎◌, inl, inr, List, [], ◌∷◌, refl, sym, ap, ◌∙◌, subst, arith, drop, length, Option, Some, None, length-set}
use Rattle.std.proofs.lemmas.List.{length-replicate}
use Rattle.std.proofs.lemmas.Bool.Decides.{eqb_tells}
use Rattle.std.specs.Prelude.{slice_set, replicate}
use Rattle.go_meaning.specs.Values.{Value, NilFunction, nth}
use Rattle.go_meaning.specs.Meaning.{Code, with_arguments, frame_of}
use Rattle.go_meaning_simulation.specs.Likeness.{Likeness}
use Rattle.extract_call.specs.Calls.{Argument, arguments, Fresh, ready}
use Rattle.go_meaning_simulation.specs.Locals.{In, Linked, Link, Inside, Hole, InPairs, Agree, Within}
use Rattle.go_meaning_simulation.proofs.Public.{set_here, set_there, Same, same_by}
use Rattle.extract_call.specs.Members.{InFresh, IsHeld, Bound}
use Rattle.extract_call.specs.Members as members
use Rattle.extract_call.proofs.Frames.{ready_other}

pub with_length : (ps : List (Option ℕ)) (vs g : List Value) → length (with_arguments ps vs g) ≡ length g
with_length [] vs g = refl
with_length (None ∷ ps) vs g = with_length ps (drop 1 vs) g
with_length (Some n ∷ ps) vs g = with_length ps (drop 1 vs) (slice_set g n (nth vs 0)) ∙ length-set g n (nth vs 0)

module _ (L : Likeness) (J : Linked) (I : Inside) (ys : List Fresh) (f f' : List Value) (a : Agree L.values J f f') where
  abbrev r : List Value
  r = ready ys f'

  passed_like : (i j : ℕ) → Link J i j → (InFresh j ys → ⊥) → Same L (nth f i) (nth r j)
  passed_like i j l away = same_by L (nth f i) (nth r j) (nth f i) (nth f' j) refl (ready_other ys f' j away) (a.same i j l)

  -- locals that are linked
  enters_same : {ps : List (Option ℕ)} {xs : List Argument} {s : List ℕ} {hs : List (Value × ℕ)} → Bound L.values J I ys ps xs s hs → (g : List Value) → length g ≡ I.locals.new_count → (K : ℕ → Type 0) → ((k n : ℕ) → K k → Link I.locals k n → Same L (nth f k) (nth g n)) →
      (k n : ℕ) → K k ⊎ In k s → Link I.locals k n → Same L (nth f k) (nth (with_arguments ps (arguments r xs) g) n)
  enters_same members.none g len K known k n (inl x) l = known k n x l
  enters_same members.none g len K known k n (inr x) l = absurd x
  enters_same (members.passes {i = i} {j = j} {p = p} {ps = ps} {xs = xs} {s = s} lj away li rest) g len K known k n x l =
      enters_same rest (slice_set g p (nth r j)) (length-set g p (nth r j) ∙ len) (λ m. K m ⊎ (m ≡ i)) next k n (moved x) l
    where
      next : (m o : ℕ) → K m ⊎ (m ≡ i) → Link I.locals m o → Same L (nth f m) (nth (slice_set g p (nth r j)) o)
      next m o (inl y) lm = elim (eqb_tells o p) [ inl z ↦ same_place z.1 | inr z ↦ same_by L (nth f m) (nth (slice_set g p (nth r j)) o) (nth f m) (nth g o) refl (set_there g p o (nth r j) z.1) (known m o y lm) ]
        where
          same_place : o ≡ p → Same L (nth f m) (nth (slice_set g p (nth r j)) o)
          same_place z = same_by L (nth f m) (nth (slice_set g p (nth r j)) o) (nth f i) (nth r j) (ap (nth f) (I.locals.back_one m i p (subst (Link I.locals m) z lm) li)) (set_here g p o (nth r j) (omega (arith, len, I.locals.in_new i p li)) z) (passed_like i j lj away)
      next m o (inr y) lm =
          same_by L (nth f m) (nth (slice_set g p (nth r j)) o) (nth f i) (nth r j) (ap (nth f) y) (set_here g p o (nth r j) (omega (arith, len, I.locals.in_new i p li)) (I.locals.one i o p (subst (λ z. Link I.locals z o) y lm) li)) (passed_like i j lj away)

      moved : K k ⊎ In k (i ∷ s) → (K k ⊎ (k ≡ i)) ⊎ In k s
      moved (inl y) = inl (inl y)
      moved (inr (inl y)) = inl (inr y)
      moved (inr (inr y)) = inr y
  enters_same (members.holds {v' = v'} {p = p} e lt apart alone rest) g len K known k n x l =
      enters_same rest (slice_set g p v') (length-set g p v' ∙ len) K (λ m o y lm. same_by L (nth f m) (nth (slice_set g p v') o) (nth f m) (nth g o) refl (set_there g p o v' (λ z. apart m (subst (Link I.locals m) z lm))) (known m o y lm)) k n x l

  -- a place that no further argument is put in
  enters_other : {ps : List (Option ℕ)} {xs : List Argument} {s : List ℕ} {hs : List (Value × ℕ)} → Bound L.values J I ys ps xs s hs → (g : List Value) (p : ℕ) → ((i : ℕ) → Link I.locals i p → ⊥) → (IsHeld p hs → ⊥) → nth (with_arguments ps (arguments r xs) g) p ≡ nth g p
  enters_other members.none g p apart alone = refl
  enters_other (members.passes {i = i} {j = j} {p = q} lj away li rest) g p apart alone = enters_other rest (slice_set g q (nth r j)) p apart alone ∙ set_there g q p (nth r j) (λ e. apart i (subst (Link I.locals i) (sym e) li))
  enters_other (members.holds {v' = v'} {p = q} e lt ap2 al2 rest) g p apart alone = enters_other rest (slice_set g q v') p apart (λ h. alone (inr h)) ∙ set_there g q p v' (λ z. alone (inl z))

  -- constants that parameters hold
  enters_holes : {ps : List (Option ℕ)} {xs : List Argument} {s : List ℕ} {hs : List (Value × ℕ)} → Bound L.values J I ys ps xs s hs → (g : List Value) → length g ≡ I.locals.new_count → (v : Value) (p : ℕ) → InPairs v p hs → Same L v (nth (with_arguments ps (arguments r xs) g) p)
  enters_holes members.none g len v p h = absurd h
  enters_holes (members.passes {j = j} {p = q} lj away li rest) g len v p h = enters_holes rest (slice_set g q (nth r j)) (length-set g q (nth r j) ∙ len) v p h
  enters_holes (members.holds {v = u} {v' = v'} {p = q} {ps = ps} {xs = xs} e lt apart alone rest) g len v p (inl h) =
      same_by L v (nth (with_arguments ps (arguments r xs) (slice_set g q v')) p) u v' h.0 (ap (nth (with_arguments ps (arguments r xs) (slice_set g q v'))) h.1 ∙ enters_other rest (slice_set g q v') q apart alone ∙ set_here g q q v' (omega (arith, len, lt)) refl) e
  enters_holes (members.holds {v' = v'} {p = q} e lt apart alone rest) g len v p (inr h) = enters_holes rest (slice_set g q v') (length-set g q v' ∙ len) v p h

  pub enters : (new : Code) (xs : List Argument) (s : List ℕ) (hs : List (Value × ℕ)) → Bound L.values J I ys new.parameters xs s hs → new.locals ≡ I.locals.new_count → J.count ≡ I.locals.count → ((v : Value) (p : ℕ) → Hole I v p → InPairs v p hs) → Within L.values I f s f (frame_of new (arguments r xs))
  enters new xs s hs bound size count holes =
      let g : List Value = replicate new.locals NilFunction in
      let len : length g ≡ I.locals.new_count = length-replicate new.locals NilFunction ∙ size in
      record {
        long = a.long ∙ count;
        fits = with_length new.parameters (arguments r xs) g ∙ len;
        same = λ i j known l. enters_same bound g len (λ m. ⊥) (λ m o y lm. absurd y) i j (inr known) l;
        kept = λ i m. refl;
        holes = λ v p h. enters_holes bound g len v p (holes v p h);
      }
