-- Frames of a body behind a call: its results are written, and the rest stays.
use Rattle.std.proofs.Common.{◌≡◌, ℕ, ◌<◌, inl, inr, List, [], ◌∷◌, refl, sym, ap, ◌∙◌, subst, arith, drop, length, Option, Some, None, length-set}
use Rattle.std.specs.Prelude.{slice_set}
use Rattle.go_meaning.specs.Values.{Value, nth, zero_value}
use Rattle.go_meaning_simulation.specs.Likeness.{Likeness}
use Rattle.go_meaning_simulation.specs.Locals.{Linked, Link, Inside, Agree, Within}
use Rattle.go_meaning_simulation.proofs.Public.{set_here, set_there, Same, same_by}
use Rattle.extract_call.specs.Calls.{results, stored, Fresh, ready}
use Rattle.extract_call.specs.Members.{InOptions, InFresh, Lands, Stays, ComesBack, Comes}

pub ready_length : (ys : List Fresh) (f : List Value) → length (ready ys f) ≡ length f
ready_length [] f = refl
ready_length (y ∷ ys) f = ready_length ys (slice_set f y.local (zero_value y.zero)) ∙ length-set f y.local (zero_value y.zero)

pub ready_other : (ys : List Fresh) (f : List Value) (j : ℕ) → (InFresh j ys → ⊥) → nth (ready ys f) j ≡ nth f j
ready_other [] f j away = refl
ready_other (y ∷ ys) f j away = ready_other ys (slice_set f y.local (zero_value y.zero)) j (λ h. away (inr h)) ∙ set_there f y.local j (zero_value y.zero) (λ e. away (inl e))

pub stored_length : (os : List (Option ℕ)) (vs f : List Value) → length (stored os vs f) ≡ length f
stored_length [] vs f = refl
stored_length (None ∷ os) vs f = stored_length os (drop 1 vs) f
stored_length (Some i ∷ os) vs f = stored_length os (drop 1 vs) (slice_set f i (nth vs 0)) ∙ length-set f i (nth vs 0)

pub stored_other : (os : List (Option ℕ)) (vs f : List Value) (j : ℕ) → (InOptions j os → ⊥) → nth (stored os vs f) j ≡ nth f j
stored_other [] vs f j away = refl
stored_other (None ∷ os) vs f j away = stored_other os (drop 1 vs) f j away
stored_other (Some i ∷ os) vs f j away = stored_other os (drop 1 vs) (slice_set f i (nth vs 0)) j (λ h. away (inr h)) ∙ set_there f i j (nth vs 0) (λ e. away (inl e))

pub stored_lands : (os : List (Option ℕ)) (rs : List ℕ) (g f : List Value) (j p : ℕ) → j < length f → Lands j p os rs → nth (stored os (results g rs) f) j ≡ nth g p
stored_lands [] rs g f j p lt h = absurd h
stored_lands (o ∷ os) [] g f j p lt h = absurd h
stored_lands (None ∷ os) (r ∷ rs) g f j p lt h = stored_lands os rs g f j p lt h
stored_lands (Some i ∷ os) (r ∷ rs) g f j p lt (inl h) = stored_other os (results g rs) (slice_set f i (nth g r)) j h.2 ∙ set_here f i j (nth g r) (subst (λ x. x < length f) h.0 lt) h.0 ∙ ap (nth g) (sym h.1)
stored_lands (Some i ∷ os) (r ∷ rs) g f j p lt (inr h) = stored_lands os rs g (slice_set f i (nth g r)) j p (subst (λ n. j < n) (sym (length-set f i (nth g r))) lt) h

-- ---- back from a window

pub agree_again : (L : Likeness) (J : Linked) (I : Inside) (s : List ℕ) (os : List (Option ℕ)) (rs : List ℕ) (ys : List Fresh) → Comes J I s os rs ys → J.count ≡ I.locals.count → (f f' : List Value) → Agree L.values J f f' → (g g' : List Value) → Within L.values I f s g g' → Agree L.values J g (stored os (results g' rs) (ready ys f'))
agree_again L J I s os rs ys comes count f f' a g g' r = record {
  long = r.long ∙ sym count;
  fits = stored_length os (results g' rs) (ready ys f') ∙ ready_length ys f' ∙ a.fits;
  same = λ i j l. elim (comes i j l) [ inl x ↦ stays i j l x | inr x ↦ lands i j l x ];
}
  where
    stays : (i j : ℕ) → Link J i j → Stays I os ys i j → Same L (nth g i) (nth (stored os (results g' rs) (ready ys f')) j)
    stays i j l x = same_by L (nth g i) (nth (stored os (results g' rs) (ready ys f')) j) (nth f i) (nth f' j) (r.kept i x.0) (stored_other os (results g' rs) (ready ys f') j x.1 ∙ ready_other ys f' j x.2) (a.same i j l)

    lands : (i j : ℕ) → Link J i j → ComesBack I s os rs i j → Same L (nth g i) (nth (stored os (results g' rs) (ready ys f')) j)
    lands i j l x = same_by L (nth g i) (nth (stored os (results g' rs) (ready ys f')) j) (nth g i) (nth g' x.0) refl (stored_lands os rs g' (ready ys f') j x.0 (omega (arith, ready_length ys f', a.fits, J.in_new i j l)) x.3) (r.same i x.0 x.2 x.1)
