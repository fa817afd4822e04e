-- Names for the parameters that stand in place of constants.
use Rattle.std.specs.Prelude.{◌≡◌, ◌≤◌, ◌^◌, ℕ, zero, suc, ◌+◌, Bool, ◌||◌, if◌then◌else◌, List, [], ◌∷◌, ◌++◌, length, codes}
use Rattle.std.specs.Fmt.{decimal}
use Rattle.go_tokens.specs.Spellings.{same_text}
use Rattle.go_tree.specs.File.{FileTree}
use Rattle.escape_check.specs.Names.{is_keyword, is_predeclared, names_package}
use Rattle.escape_check.specs.Places.{Sources}

-- `p` and a number
abbrev pub numbered_name : ℕ → List ℕ
numbered_name n = codes "p" ++ decimal n

-- Whether a text is an identifier token of the package, the name of the new function, a keyword or a predeclared name.
abbrev pub is_used : Sources → List ℕ → List ℕ → Bool
is_used s name w = names_package w s || same_text w name || is_keyword w || is_predeclared w

-- the name of a number unless it is used
abbrev pub unused_one : (List ℕ → Bool) → ℕ → List (List ℕ)
unused_one used n = if used (numbered_name n) then [] else numbered_name n ∷ []

-- The first so many of these names that are not used, from the number n on; `room` of them are looked at, as long as some are wanted.
abbrev pub unused_from : (List ℕ → Bool) → ℕ → ℕ → ℕ → List (List ℕ)
unused_from used n count zero = []
unused_from used n zero (suc room) = []
unused_from used n (suc count) (suc room) =
    if used (numbered_name n) then unused_from used (suc n) (suc count) room else numbered_name n ∷ unused_from used (suc n) count room

abbrev pub tokens_in : List FileTree → ℕ
tokens_in [] = 0
tokens_in (f ∷ fs) = length f.tokens.tokens + tokens_in fs

-- At most as many names are used as there are tokens, and the new function's own one.
abbrev pub room_for : List FileTree → ℕ → ℕ
room_for fs count = count + suc (tokens_in fs)

-- The first so many of `p0`, `p1` and so on that are not used.
abbrev pub fresh_names : Sources → List ℕ → ℕ → List (List ℕ)
fresh_names s name count = unused_from (is_used s name) 0 count (room_for s.files count)

-- There are as many as are asked for.
abbrev pub AreEnough : Type 0
AreEnough = (s : Sources) (name : List ℕ) (count : ℕ) → room_for s.files count ≤ 2 ^ 64 → length (fresh_names s name count) ≡ count
