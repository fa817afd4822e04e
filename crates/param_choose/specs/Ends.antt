-- Where locals occur last among the tokens of a function, and where they stand first in a row.
use Rattle.std.specs.Prelude.{ℕ, zero, suc, nat_eq, if◌then◌else◌, List, [], ◌∷◌, length, replicate, Option, Some, None, slice_set, slice_index_or}
use Rattle.std.specs.Option.{option_map}
use Rattle.go_typed.specs.Funcs.{FuncView}

-- For each local the number behind the last token that names it, where these were found among the tokens in front of the token k.
abbrev pub ends_by : List ℕ → ℕ → List (Option ℕ) → List ℕ
ends_by es k [] = es
ends_by es k (None ∷ ts) = ends_by es (suc k) ts
ends_by es k (Some n ∷ ts) = ends_by (slice_set es n (suc k)) (suc k) ts

-- those of a function; 0 for a local that no token names
abbrev pub ends_of : FuncView → List ℕ
ends_of f = ends_by (replicate (length f.locals) 0) 0 f.tokens

abbrev pub end_at : List ℕ → ℕ → ℕ
end_at es n = slice_index_or es n 0

-- the first place of a number
abbrev pub place_in : List ℕ → ℕ → Option ℕ
place_in [] n = None
place_in (x ∷ xs) n = if nat_eq x n then Some 0 else option_map suc (place_in xs n)
