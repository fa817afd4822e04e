-- The greatest number of the declared types that stand in a type, by numbers of declared types.
use Rattle.std.specs.Prelude.{ℕ, suc, Bool, true, ◌&&◌, nat_le, max, List, [], ◌∷◌, map, Option, Some, None}
use Rattle.go_types.specs.declared.shape.Shape.{Shape}
use Rattle.go_types.specs.declared.shape.Shape.TheVariants as shape
use Rattle.go_types.specs.Tables.{type_of}
use Rattle.go_typed.specs.declared.sort.Sort.{Sort}
use Rattle.go_typed.specs.declared.sort.Sort.TheVariants as sort
use Rattle.go_package_laws.specs.Reach.{Within}
use Rattle.go_package_stages.specs.Numbers.{number_at}
use Rattle.go_package_stages.specs.Marked.{is_reached}

-- of types, by the numbers rs of types
abbrev pub most_of : List ℕ → List ℕ → ℕ
most_of rs [] = 0
most_of rs (i ∷ is) = max (number_at rs i) (most_of rs is)

-- of the type of a shape, by the numbers of declared types and those of its parts
abbrev pub shape_reach : List ℕ → List ℕ → Shape → ℕ
shape_reach reach rs (shape.Array n e) = number_at rs e
shape_reach reach rs (shape.Slice e) = number_at rs e
shape_reach reach rs (shape.Struct fs) = most_of rs (map (λ f. f.ty) fs)
shape_reach reach rs (shape.Func ps qs) = max (most_of rs ps) (most_of rs qs)
shape_reach reach rs (shape.Named n) = number_at reach n
shape_reach reach rs x = 0

-- of what an object stands for
abbrev pub sort_reach : List ℕ → Sort → ℕ
sort_reach rs (sort.Type i) = number_at rs i
sort_reach rs (sort.Value i) = number_at rs i
sort_reach rs (sort.Constant i c) = number_at rs i
sort_reach rs (sort.Results i) = number_at rs i
sort_reach rs x = 0

-- No declared type in a type has a greater number than the type.
abbrev pub AreReaches : List ℕ → List Shape → List ℕ → Type 0
AreReaches reach shapes rs = (i : ℕ) → Within (is_reached reach (number_at rs i)) (type_of shapes i)

-- whether the right side of the declared type n, if it has one, has no greater number
abbrev pub is_right_closed : List ℕ → List ℕ → ℕ → Option ℕ → Bool
is_right_closed reach rs n None = true
is_right_closed reach rs n (Some i) = nat_le (number_at rs i) (number_at reach n)

-- those of the declared types from n on
abbrev pub are_closed : List ℕ → List ℕ → ℕ → List (Option ℕ) → Bool
are_closed reach rs n [] = true
are_closed reach rs n (o ∷ os) = is_right_closed reach rs n o && are_closed reach rs (suc n) os
