-- The texts of a function's tokens where those of gaps stand in the place of runs.
use Rattle.std.specs.Prelude.{ℕ, List, [], ◌∷◌, ◌++◌, take, drop}
use Rattle.extract_names.specs.Gaps.{Gap}

-- with one gap
abbrev pub with_gap : Gap → List (List ℕ) → List (List ℕ)
with_gap g ws = take g.from ws ++ (g.texts ++ drop g.upto ws)

-- With all. Each gap lies behind the one before; so the last is put in first.
abbrev pub with_gaps : List Gap → List (List ℕ) → List (List ℕ)
with_gaps [] ws = ws
with_gaps (g ∷ gs) ws = with_gap g (with_gaps gs ws)
