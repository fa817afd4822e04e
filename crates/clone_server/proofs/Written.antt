-- What is written so far, and what is left.
use Rattle.std.proofs.Common.{◌≡◌, ◌<◌, ℕ, List, [], ◌∷◌, ◌++◌, length, take, drop, Option, Some, None, IfSome, refl, sym, ap, subst, ◌∙◌, append_assoc, arith}
use Rattle.std.proofs.lemmas.List.{append-nil, take-append-drop}
use Rattle.clone_server.specs.Serving.{LeavesBytes}

-- what is said of a value where there is one
pub told : {A : Type 0} (o : Option A) (P : A → Type 0) (a : A) → IfSome o P → o ≡ Some a → P a
told None P a h e = cc
told (Some b) P a h e = let same : b ≡ a = cc in subst P same h

pub leaves_all : (before bytes : List ℕ) (after : Option (List ℕ)) → after ≡ Some before → LeavesBytes before bytes bytes after
leaves_all before bytes after e = record { front = []; told = e ∙ ap Some (sym (append-nil before)); whole = refl }

-- some more of what is left is written
pub leaves_less : (before bytes rest rest2 : List ℕ) (after after2 : Option (List ℕ)) (n : ℕ) → LeavesBytes before bytes rest after →
    IfSome after (λ now. after2 ≡ Some (now ++ take n rest)) → rest2 ≡ drop n rest → LeavesBytes before bytes rest2 after2
leaves_less before bytes rest rest2 after after2 n h k e = record {
  front = h.front ++ take n rest;
  told = told after (λ now. after2 ≡ Some (now ++ take n rest)) (before ++ h.front) k h.told ∙ ap Some (append_assoc before h.front (take n rest));
  whole = ap (λ l. (h.front ++ take n rest) ++ l) e ∙ append_assoc h.front (take n rest) (drop n rest) ∙ ap (λ l. h.front ++ l) (take-append-drop n rest) ∙ h.whole;
}

-- nothing is left
pub leaves_none : (before bytes rest : List ℕ) (after : Option (List ℕ)) → LeavesBytes before bytes rest after → length rest ≡ 0 → after ≡ Some (before ++ bytes)
leaves_none before bytes [] after h e = h.told ∙ ap (λ l. Some (before ++ l)) (sym (append-nil h.front) ∙ h.whole)
leaves_none before bytes (r ∷ rest) after h e = absurd (omega arith)

-- the write stopped
pub leaves_some : (before bytes rest : List ℕ) (after after2 : Option (List ℕ)) → LeavesBytes before bytes rest after →
    IfSome after (λ now. after2 ≡ Some now) → 0 < length rest → (left : List ℕ) × (0 < length left) × LeavesBytes before bytes left after2
leaves_some before bytes rest after after2 h e p =
    (rest, p, record { front = h.front; told = told after (λ now. after2 ≡ Some now) (before ++ h.front) e h.told; whole = h.whole })
