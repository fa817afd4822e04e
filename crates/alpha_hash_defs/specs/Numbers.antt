-- The number of a window: of its words, and of where its locals occur.
use Rattle.std.specs.Prelude.{ℕ, suc, ◌+◌, ◌%◌, ◌^◌, nat_eq, if◌then◌else◌, List, [], ◌∷◌, map, Option, Some, None}
use Rattle.go_typed.specs.Trees.{Typeds}
use Rattle.alpha_hash_defs.specs.Hash.{mix, fold, term}
use Rattle.alpha_hash_defs.specs.Naming.{Naming}
use Rattle.alpha_hash_defs.specs.Words.{Word, number, named, word_value, window_words}

-- the place of a local, by the locals and places so far, the last one first
abbrev pub place_before : List (ℕ × ℕ) → ℕ → Option ℕ
place_before [] l = None
place_before (x ∷ xs) l = if nat_eq x.0 l then Some x.1 else place_before xs l

-- The sum of the terms of the names of locals, where the first word has the place p.
abbrev pub terms_from : List (ℕ × ℕ) → ℕ → List Word → ℕ
terms_from seen p [] = 0
terms_from seen p (number n ∷ ws) = terms_from seen (suc p) ws
terms_from seen p (named l ∷ ws) = (term p (place_before seen l) + terms_from ((l, p) ∷ seen) (suc p) ws) % 2 ^ 64

-- the words, and the distances between occurrences of locals
abbrev pub words_hash : List Word → ℕ
words_hash ws = mix (fold (map word_value ws)) (terms_from [] 1 ws)

abbrev pub hash : {T : Type 0} → Naming T → Typeds T → ℕ
hash n ps = words_hash (window_words n ps)
