-- A text of ASCII characters is UTF-8, and its bytes are its characters.
use Rattle.std.proofs.Common.{◌≡◌, ℕ, suc, true, false, List, [], ◌∷◌, refl, arith, ⊎_elim}
use Rattle.std.specs.Str.{IsAscii, IsNotAscii}
use Rattle.std.proofs.lemmas.Bool.{and_parts, and_from, ltb-true, lt-ltb, cases_Bool}
use Rattle.std.proofs.lemmas.Str.Ascii.{IsAscii-nil, IsAscii-cons}
use Rattle.go_tree.specs.Imports.{is_ascii}

pub is_ascii-reads : (bs : List ℕ) → is_ascii bs ≡ true → IsAscii bs
is_ascii-reads [] h = IsAscii-nil
is_ascii-reads (x ∷ xs) h = let p = and_parts _ _ h in IsAscii-cons x xs (ltb-true _ _ p.0) (is_ascii-reads xs p.1)

pub is_ascii-from : (bs : List ℕ) → IsAscii bs → is_ascii bs ≡ true
is_ascii-from [] h = refl
is_ascii-from (x ∷ xs) h = and_from _ _ (lt-ltb _ _ (h 0)) (is_ascii-from xs (λ i. h (suc i)))

pub is_ascii-not : (bs : List ℕ) → IsNotAscii bs → is_ascii bs ≡ false
is_ascii-not bs (i, p) = ⊎_elim
    (λ e. absurd (let q = is_ascii-reads bs e i in omega arith))
    (λ e. e)
    (cases_Bool (is_ascii bs))
