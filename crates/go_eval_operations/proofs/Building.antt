-- Literals: the places of their elements, and the values that are put there.
use Rattle.std.proofs.Common.{◌≡◌, ◌<◌, ◌≤◌, ◌+◌, ◌-◌, take, ℕ, zero, suc, ◌⊎◌, inl, inr, List, [], ◌∷◌, ◌++◌, Option, Some, None, drop, length, slice_get, slice_set, refl, sym, ap, ◌∙◌, arith, append_assoc, min, true, false, nat_le, Result, Ok, Err, IfOk}
use Rattle.go_base.specs.declared.memory.Memory.{Memory}
use Rattle.std.proofs.lemmas.Bool.Decides.{leb_tells}
use Rattle.go_types.specs.Trees.{TypeTree}
use Rattle.go_typed.specs.declared.node.TypedNode.{TypedNode}
use Rattle.go_typed.specs.Trees.{all_mapped}
use Rattle.go_typed.specs.Views as typed
use Rattle.go_meaning.specs.Operations.{placed}
use Rattle.go_meaning.specs.Planning.{places_from, places_of}
use Rattle.go_meaning.specs.Values as meant
use Rattle.go_values.specs.declared.value.Value.{Value}
use Rattle.go_values.specs.Views.{views}
use Rattle.go_eval_operations.specs.Building.{place_there, with_place}

pub place_step : (f : ℕ → TypeTree) (xs : List (Option TypedNode)) (i k : ℕ) (o : Option TypedNode) → slice_get xs i ≡ Some o
    → places_from k (all_mapped f (typed.views (drop i xs))) ≡ with_place (place_there f o k) (places_from (suc k) (all_mapped f (typed.views (drop (suc i) xs))))
place_step f [] i k o e = absurd cc
place_step f (None ∷ xs) zero k None e = refl
place_step f (None ∷ xs) zero k (Some x) e = absurd cc
place_step f (Some x ∷ xs) zero k None e = absurd cc
place_step f (Some x ∷ xs) zero k (Some y) e = ap (λ o. with_place (place_there f o k) (places_from (suc k) (all_mapped f (typed.views xs)))) (some_is (Some x) (Some y) e)
  where
    some_is : (a b : Option TypedNode) → Some a ≡ Some b → a ≡ b
    some_is a b e = cc
place_step f (x ∷ xs) (suc i) k o e = place_step f xs i k o e

pub drop_set : (vs : List Value) (i : ℕ) (v : Value) → drop (suc i) (slice_set vs i v) ≡ drop (suc i) vs
drop_set [] i v = refl
drop_set (u ∷ vs) zero v = refl
drop_set (u ∷ vs) (suc i) v = drop_set vs i v

pub placed_all : (ps : List ℕ) (vs : List Value) (i : ℕ) (xs : List meant.Value) → (length ps ≤ i) ⊎ (length vs ≤ i) → placed (drop i ps) (views (drop i vs)) xs ≡ xs
placed_all [] vs zero xs h = refl
placed_all [] vs (suc i) xs h = refl
placed_all (p ∷ ps) [] zero xs h = refl
placed_all (p ∷ ps) [] (suc i) xs h = none (drop i ps)
  where
    none : (qs : List ℕ) → placed qs [] xs ≡ xs
    none [] = refl
    none (q ∷ qs) = refl
placed_all (p ∷ ps) (v ∷ vs) zero xs (inl h) = absurd (omega arith)
placed_all (p ∷ ps) (v ∷ vs) zero xs (inr h) = absurd (omega arith)
placed_all (p ∷ ps) (v ∷ vs) (suc i) xs (inl h) = placed_all ps vs i xs (inl (omega arith))
placed_all (p ∷ ps) (v ∷ vs) (suc i) xs (inr h) = placed_all ps vs i xs (inr (omega arith))

pub either : (a b i : ℕ) → min a b ≤ i → (a ≤ i) ⊎ (b ≤ i)
either a b i h = by (leb_tells a i)
  where
    by : ((nat_le a i ≡ true) × (a ≤ i)) ⊎ ((nat_le a i ≡ false) × (i < a)) → (a ≤ i) ⊎ (b ≤ i)
    by (inl t) = inl t.1
    by (inr t) = inr (omega (arith, h, t.1))

append_none : (ps : List ℕ) → ps ++ [] ≡ ps
append_none [] = refl
append_none (p ∷ ps) = ap (λ qs. p ∷ qs) (append_none ps)

rest_none : (f : ℕ → TypeTree) (xs : List (Option TypedNode)) (i k : ℕ) → length xs ≤ i → places_from k (all_mapped f (typed.views (drop i xs))) ≡ []
rest_none f [] zero k h = refl
rest_none f [] (suc i) k h = refl
rest_none f (x ∷ xs) zero k h = absurd (omega arith)
rest_none f (x ∷ xs) (suc i) k h = rest_none f xs i k (omega arith)

pub places_all : (f : ℕ → TypeTree) (xs : List (Option TypedNode)) (i : ℕ) (ps : List ℕ) → length xs ≤ i → ps ≡ ps ++ places_from i (all_mapped f (typed.views (drop i xs)))
places_all f xs i ps h = sym (ap (λ rs. ps ++ rs) (rest_none f xs i i h) ∙ append_none ps)

pub place_kept : (f : ℕ → TypeTree) (xs : List (Option TypedNode)) (i : ℕ) (o : Option TypedNode) (ps : List ℕ) → slice_get xs i ≡ Some o → None ≡ place_there f o i
    → ps ++ places_from (i + 1) (all_mapped f (typed.views (drop (i + 1) xs))) ≡ ps ++ places_from i (all_mapped f (typed.views (drop i xs)))
place_kept f xs i o ps e h =
    let n : suc i ≡ i + 1 = omega arith in
    sym (ap (λ rs. ps ++ rs) (place_step f xs i i o e ∙ ap (λ q. with_place q (places_from (suc i) (all_mapped f (typed.views (drop (suc i) xs))))) (sym h) ∙ ap (λ k. places_from k (all_mapped f (typed.views (drop k xs)))) n))

pub place_pushed : (f : ℕ → TypeTree) (xs : List (Option TypedNode)) (i p : ℕ) (o : Option TypedNode) (ps : List ℕ) → slice_get xs i ≡ Some o → Some p ≡ place_there f o i
    → (ps ++ p ∷ []) ++ places_from (i + 1) (all_mapped f (typed.views (drop (i + 1) xs))) ≡ ps ++ places_from i (all_mapped f (typed.views (drop i xs)))
place_pushed f xs i p o ps e h =
    let n : suc i ≡ i + 1 = omega arith in
    append_assoc ps (p ∷ []) (places_from (i + 1) (all_mapped f (typed.views (drop (i + 1) xs))))
    ∙ sym (ap (λ rs. ps ++ rs) (place_step f xs i i o e ∙ ap (λ q. with_place q (places_from (suc i) (all_mapped f (typed.views (drop (suc i) xs))))) (sym h) ∙ ap (λ k. p ∷ places_from k (all_mapped f (typed.views (drop k xs)))) n))

whole : (xs : List (Option TypedNode)) (n : ℕ) → length xs ≤ n → take n xs ≡ xs
whole [] zero h = refl
whole [] (suc n) h = refl
whole (x ∷ xs) zero h = absurd (omega arith)
whole (x ∷ xs) (suc n) h = ap (λ us. x ∷ us) (whole xs n (omega arith))

pub places_behind : (f : ℕ → TypeTree) (xs : List (Option TypedNode)) → 1 ≤ length xs → places_from 0 (all_mapped f (typed.views (take (length xs - 1) (drop 1 xs)))) ≡ places_of (all_mapped f (typed.views xs))
places_behind f [] h = absurd (omega arith)
places_behind f (None ∷ xs) h = ap (λ us. places_from 0 (all_mapped f (typed.views us))) (whole xs (length (None ∷ xs) - 1) (omega arith))
places_behind f (Some x ∷ xs) h = ap (λ us. places_from 0 (all_mapped f (typed.views us))) (whole xs (length (Some x ∷ xs) - 1) (omega arith))

pub if_each : {X : Type 0} (r : Result X Memory) (P Q : X → Type 0) → ((x : X) → P x → Q x) → IfOk r P → IfOk r Q
if_each (Ok x) P Q f h = f x h
if_each (Err e) P Q f h = h
