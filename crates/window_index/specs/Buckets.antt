-- What an index holds: groups of windows under their hashes, and how windows come in and go.
use Rattle.std.specs.Prelude.{ℕ, suc, Bool, true, false, not, nat_eq, nat_lt, if◌then◌else◌, List, [], ◌∷◌, ◌++◌, map, filter, length, Option, Some, None}
use Rattle.std.specs.List.{flat_map}
use Rattle.go_typed.specs.declared.window.Window.{Window}
use Rattle.clone_window.specs.declared.bounds.Bounds.{Bounds}

-- the groups under a hash
abbrev pub Bucket : Type 0
Bucket = ℕ × List (List Window)

-- the windows of a bucket, each with its hash
abbrev pub held_under : Bucket → List (Window × ℕ)
held_under b = flat_map (λ g. map (λ w. (w, b.0)) g) b.1

-- the windows that are held, each with its hash
abbrev pub held : List Bucket → List (Window × ℕ)
held bs = flat_map held_under bs

-- all groups
abbrev pub groups_in : List Bucket → List (List Window)
groups_in bs = flat_map (λ b. b.1) bs

abbrev pub is_two : List Window → Bool
is_two g = nat_lt 1 (length g)

-- ---- windows come in

-- whether the first member of a group is the same as the window
abbrev pub leads : (Window → Window → Bool) → Window → List Window → Bool
leads same w [] = false
leads same w (v ∷ vs) = same w v

-- the groups with one more window: in the first one that a window leads that is the same, else in one of its own
abbrev pub joined : (Window → Window → Bool) → Window → List (List Window) → List (List Window)
joined same w [] = (w ∷ []) ∷ []
joined same w (g ∷ gs) = if leads same w g then (g ++ w ∷ []) ∷ gs else g ∷ joined same w gs

-- the buckets with one more window, which has this hash
abbrev pub entered : (Window → Window → Bool) → Window × ℕ → List Bucket → List Bucket
entered same x [] = (x.1, (x.0 ∷ []) ∷ []) ∷ []
entered same x (b ∷ bs) = if nat_eq x.1 b.0 then (b.0, joined same x.0 b.1) ∷ bs else b ∷ entered same x bs

-- with further windows, one after the other
abbrev pub all_entered : (Window → Window → Bool) → List (Window × ℕ) → List Bucket → List Bucket
all_entered same [] bs = bs
all_entered same (x ∷ xs) bs = all_entered same xs (entered same x bs)

-- ---- windows go

abbrev pub is_of : ℕ → Window → Bool
is_of func w = nat_eq w.func func

abbrev pub others_in : ℕ → List Window → List Window
others_in func g = filter (λ w. not (is_of func w)) g

abbrev pub is_some_left : {A : Type 0} → List A → Bool
is_some_left [] = false
is_some_left (x ∷ xs) = true

-- a list in front, if anything is in it
abbrev pub if_left : List Window → List (List Window) → List (List Window)
if_left [] gs = gs
if_left (w ∷ ws) gs = (w ∷ ws) ∷ gs

-- the groups without the windows of a function; a group of which nothing is left goes too
abbrev pub without : ℕ → List (List Window) → List (List Window)
without func [] = []
without func (g ∷ gs) = if_left (others_in func g) (without func gs)

abbrev pub bucket_if_left : ℕ → List (List Window) → List Bucket → List Bucket
bucket_if_left h [] bs = bs
bucket_if_left h (g ∷ gs) bs = (h, g ∷ gs) ∷ bs

-- the buckets without the windows of a function
abbrev pub left : ℕ → List Bucket → List Bucket
left func [] = []
left func (b ∷ bs) = bucket_if_left b.0 (without func b.1) (left func bs)
