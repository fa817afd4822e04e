-- Lists of values and arrays that are written at a place.
use Rattle.std.proofs.Common.{◌≡◌, ℕ, zero, suc, ◌+◌, ◌<◌, ◌≤◌, List, [], ◌∷◌, ◌++◌, slice_set, take, drop, length, refl, sym, ap, ◌∙◌, arith, append_assoc, add-one}
use Rattle.std.proofs.lemmas.List.{set_split}
use Rattle.go_meaning.specs.Values as meant
use Rattle.go_meaning.specs.Operations.{put_at}
use Rattle.go_values.specs.Views.{view, views}
use Rattle.go_values.specs.declared.value.Value.{Value}
use Rattle.go_values.proofs.Views.{views_set}
use Rattle.go_values.proofs.Rows.{views_push}

pub length_views : (vs : List Value) → length (views vs) ≡ length vs
length_views [] = refl
length_views (v ∷ vs) = omega (arith, length_views vs)

-- ---- values put into an array

pub append_nil : (vs : List meant.Value) → vs ++ [] ≡ vs
append_nil [] = refl
append_nil (v ∷ vs) = ap (λ us. v ∷ us) (append_nil vs)

pub put_within : (vs : List Value) (i : ℕ) (v : Value) → i < length vs → views (slice_set vs i v) ≡ put_at i (view v ∷ []) (views vs)
put_within vs i v h =
    views_set vs i v ∙ set_split (views vs) i (view v) (omega (arith, length_views vs, h)) ∙ sym (append_assoc (take i (views vs)) (view v ∷ []) (drop (suc i) (views vs)))
    ∙ ap (λ k. take i (views vs) ++ view v ∷ [] ++ drop k (views vs)) (sym (add-one i))

take_past : (vs : List Value) (i : ℕ) → length vs ≤ i → take i (views vs) ≡ views vs
take_past [] zero h = refl
take_past [] (suc i) h = refl
take_past (v ∷ vs) zero h = absurd (omega arith)
take_past (v ∷ vs) (suc i) h = ap (λ us. view v ∷ us) (take_past vs i (omega arith))

pub drop_past : (vs : List Value) (i : ℕ) → length vs ≤ i → drop i (views vs) ≡ []
drop_past [] zero h = refl
drop_past [] (suc i) h = refl
drop_past (v ∷ vs) zero h = absurd (omega arith)
drop_past (v ∷ vs) (suc i) h = drop_past vs i (omega arith)

pub put_beyond : (vs : List Value) (i : ℕ) (v : Value) → length vs ≤ i → views (vs ++ v ∷ []) ≡ put_at i (view v ∷ []) (views vs)
put_beyond vs i v h =
    views_push vs v ∙ sym (append_nil (views vs ++ view v ∷ []))
    ∙ ap (λ us. views vs ++ view v ∷ [] ++ us) (sym (drop_past vs (i + 1) (omega (arith, h)))) ∙ ap (λ us. us ++ view v ∷ [] ++ drop (i + 1) (views vs)) (sym (take_past vs i h))
