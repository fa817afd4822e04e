-- Steps of the program over groups.
use Rattle.std.specs.Prelude.{ℕ, zero, suc, Bool, true, false, if◌then◌else◌, List, [], ◌∷◌, ◌++◌, map, length, Option, Some, None, Vec}
use Rattle.std.specs.Borrow.{Bor}
use Rattle.std.specs.declared.alloc.Global.{Global}
use Rattle.go_typed.specs.declared.window.Window.{Window}
use Rattle.window_index.specs.Buckets.{Bucket, joined, leads}

-- what a table of groups holds
abbrev pub rows : List (Vec Window Global) → List (List Window)
rows vs = map (λ v. v.items) vs

-- the number of the first group that a window leads that is the same, where the first group has the number n
abbrev pub first_led : (Window → Window → Bool) → Window → ℕ → List (List Window) → Option ℕ
first_led same w n [] = None
first_led same w n (g ∷ gs) = if leads same w g then Some n else first_led same w (suc n) gs

-- the groups with one more window in that of this number
abbrev pub with_one : ℕ → Window → List (List Window) → List (List Window)
with_one n w [] = []
with_one zero w (g ∷ gs) = (g ++ w ∷ []) ∷ gs
with_one (suc n) w (g ∷ gs) = g ∷ with_one n w gs

-- the first so many lists changed, and the others as they were
abbrev pub changed : (List Window → List Window) → ℕ → List (List Window) → List (List Window)
changed f zero gs = gs
changed f (suc n) [] = []
changed f (suc n) (g ∷ gs) = f g ∷ changed f n gs

-- the buckets with one more window in that of this number
abbrev pub joined_at : (Window → Window → Bool) → ℕ → Window → List Bucket → List Bucket
joined_at same n w [] = []
joined_at same zero w (b ∷ bs) = (b.0, joined same w b.1) ∷ bs
joined_at same (suc n) w (b ∷ bs) = b ∷ joined_at same n w bs

-- how many groups the bucket of this number has
abbrev pub count_at : ℕ → List Bucket → ℕ
count_at n [] = 0
count_at zero (b ∷ bs) = length b.1
count_at (suc n) (b ∷ bs) = count_at n bs

-- the groups that a reference to a bucket leads to, if there is one
abbrev pub groups_there : Option (Bor ℕ × Bor (List (List Window))) → List (List Window)
groups_there None = []
groups_there (Some b) = b.1.now
