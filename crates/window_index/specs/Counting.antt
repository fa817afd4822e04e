-- How many comparisons windows cost that come in.
use Rattle.std.specs.Prelude.{ℕ, nat_eq, if◌then◌else◌, Bool, List, [], ◌∷◌, length}
use Rattle.std.specs.List.{sum_by}
use Rattle.go_typed.specs.declared.window.Window.{Window}
use Rattle.window_index.specs.Buckets.{Bucket, all_entered}

-- how many groups stand under a hash
abbrev pub group_count : ℕ → List Bucket → ℕ
group_count h [] = 0
group_count h (b ∷ bs) = if nat_eq h b.0 then length b.1 else group_count h bs

-- The rivals of a window are the groups under its hash once all windows are in. This is their sum for windows that come in.
abbrev pub rivals : (Window → Window → Bool) → List (Window × ℕ) → List Bucket → ℕ
rivals same xs bs = sum_by (λ x. group_count x.1 (all_entered same xs bs)) xs
