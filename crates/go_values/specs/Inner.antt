-- Parts of parts, at the end of a path of places.
use Rattle.std.specs.Prelude.{ℕ, List, [], ◌∷◌}
use Rattle.go_meaning.specs.Values.{Value, nth, parts_of, with_part}

-- what stands there
abbrev pub inner_at : List ℕ → Value → Value
inner_at [] u = u
inner_at (k ∷ ks) u = inner_at ks (nth (parts_of u) k)

-- the value with another one there
abbrev pub with_inner : List ℕ → Value → Value → Value
with_inner [] u v = v
with_inner (k ∷ ks) u v = with_part u k (with_inner ks (nth (parts_of u) k) v)
