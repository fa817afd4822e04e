-- Parts of parts.
use Rattle.std.proofs.Common.{◌≡◌, ℕ, zero, suc, ◌≤◌, ◌-◌, List, [], ◌∷◌, get_or, slice_set, take, drop, length, refl, ap, ◌∙◌, arith}
use Rattle.std.proofs.lemmas.List.{set-set}
use Rattle.go_meaning.specs.Values.{Value, Parts, NilFunction, nth, parts_of, valued, with_part}
use Rattle.go_values.specs.Inner.{with_inner}
use Rattle.go_values.proofs.Views.{listed_valued}

-- a part that was taken out, and is put there again
part_again : (u : Value) (k : ℕ) (n v : Value) → with_part (with_part u k n) k v ≡ with_part u k v
part_again u k n v = ap (λ us. Parts (valued (slice_set us k v))) (listed_valued (slice_set (parts_of u) k n)) ∙ ap (λ us. Parts (valued us)) (set-set (parts_of u) k n v)

all_taken : (ks : List ℕ) (n : ℕ) → length ks ≤ n → take n ks ≡ ks
all_taken [] zero h = refl
all_taken [] (suc n) h = refl
all_taken (k ∷ ks) zero h = absurd (omega arith)
all_taken (k ∷ ks) (suc n) h = ap (λ js. k ∷ js) (all_taken ks n (omega arith))

pub through_first : (ks : List ℕ) (u v whole part other result : Value) → 1 ≤ length ks → whole ≡ with_part u (get_or ks 0 0) NilFunction → part ≡ nth (parts_of u) (get_or ks 0 0) → other ≡ with_inner (take (length ks - 1) (drop 1 ks)) part v → result ≡ with_part whole (get_or ks 0 0) other
    → result ≡ with_inner ks u v
through_first [] u v whole part other result h a b d e = absurd (omega arith)
through_first (k ∷ ks) u v whole part other result h a b d e =
    e ∙ ap (λ w. with_part w k other) a ∙ part_again u k NilFunction other
    ∙ ap (with_part u k) (d ∙ ap (λ js. with_inner js part v) (all_taken ks (length (k ∷ ks) - 1) (omega arith)) ∙ ap (λ w. with_inner ks w v) b)
