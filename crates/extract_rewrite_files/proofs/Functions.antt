-- The tokens of members are among those of their functions, which stand apart.
use Rattle.std.proofs.Common.{◌≡◌, ℕ, zero, suc, ◌-◌, ◌<◌, ◌≤◌, inl, inr, List, [], ◌∷◌, drop, take, Option, Some, None, refl, subst, arith}
use Rattle.std.specs.Prelude.{slice_get}
use Rattle.std.specs.List.{AllByRecursion}
use Rattle.go_typed.specs.declared.window.Window.{Window}
use Rattle.go_typed.specs.Contents.{FuncContent}
use Rattle.go_typed.specs.Lists.{statement_lists, statements_of}
use Rattle.go_typed.specs.Trees.{Typed, last_of}
use Rattle.clone_window.specs.Spans.{last_from}
use Rattle.clone_window.specs.Windows.{row_of, statements_in, window_statements}
use Rattle.go_function_places.specs.Places.{AreInOrder, FunctionPlace, HaveStatements, ListsStandIn, StandInRow, StandsBefore}
use Rattle.extract_rewrite_files.proofs.Splits.{all_at, same_some}

-- ---- the statements of a window end with their function

module _ {T : Type 0} (n : ℕ) where
  taken : (k i : ℕ) (xs : List (Typed T)) → StandInRow i n xs → StandInRow i n (take k xs)
  taken zero i xs h = tt
  taken (suc k) i [] h = tt
  taken (suc k) i (x ∷ xs) h = (h.0, h.1, h.2, taken k (last_of x) xs h.3)

  dropped : (k i : ℕ) (xs : List (Typed T)) → StandInRow i n xs → StandInRow 0 n (drop k xs)
  dropped zero i [] h = tt
  dropped zero i (x ∷ xs) h = (omega arith, h.1, h.2, h.3)
  dropped (suc k) i [] h = tt
  dropped (suc k) i (x ∷ xs) h = dropped k (last_of x) xs h.3

  reaches : (j : ℕ) (xs : List (Typed T)) → j ≤ n → StandInRow j n xs → last_from j (row_of xs) ≤ n
  reaches j [] u h = u
  reaches j (x ∷ xs) u h = reaches (last_of x) xs h.2 h.3

  from_start : (xs : List (Typed T)) → StandInRow 0 n xs → last_from 0 (row_of xs) ≤ n
  from_start [] h = omega arith
  from_start (x ∷ xs) h = reaches (last_of x) xs h.2 h.3

  list_stands : (ls : List (Typed T)) (k : ℕ) (o : Option (Typed T)) → slice_get ls k ≡ o → AllByRecursion (λ l. StandInRow 0 n (statements_of l)) ls → StandInRow 0 n (statements_in o)
  list_stands ls k None e h = tt
  list_stands ls k (Some l) e h = all_at (λ l. StandInRow 0 n (statements_of l)) ls k l h e

  pub window_ends : (root : Typed T) (w : Window) → ListsStandIn n root → last_from 0 (window_statements root w) ≤ n
  window_ends root w h =
      let all = statements_in (slice_get (statement_lists root) w.list) in
      from_start (take w.count (drop w.first all)) (taken w.count 0 (drop w.first all) (dropped w.first 0 all (list_stands (statement_lists root) w.list (slice_get (statement_lists root) w.list) refl h)))

-- ---- functions by their numbers

pub place_there : (ps : List FunctionPlace) (fs : List FuncContent) (k : ℕ) (f : FuncContent) → HaveStatements ps fs → slice_get fs k ≡ Some f → (p : FunctionPlace) × (slice_get ps k ≡ Some p) × ListsStandIn (p.last - p.first) f.tree
place_there [] [] k f h e = absurd cc
place_there [] (g ∷ fs) k f h e = absurd h
place_there (p ∷ ps) [] k f h e = absurd h
place_there (p ∷ ps) (g ∷ fs) zero f h e = (p, refl, subst (λ (x : FuncContent). ListsStandIn (p.last - p.first) x.tree) (same_some g f e) h.0)
place_there (p ∷ ps) (g ∷ fs) (suc k) f h e = place_there ps fs k f h.1 e

later_at : (p q : FunctionPlace) (ps : List FunctionPlace) (k : ℕ) → AllByRecursion (StandsBefore p) ps → slice_get ps k ≡ Some q → StandsBefore p q
later_at p q ps k h e = all_at (StandsBefore p) ps k q h e

in_order : (ps : List FunctionPlace) (i j : ℕ) (p q : FunctionPlace) → AreInOrder ps → i < j → slice_get ps i ≡ Some p → slice_get ps j ≡ Some q → StandsBefore p q
in_order [] i j p q h lt a b = absurd cc
in_order (r ∷ ps) i zero p q h lt a b = absurd (omega (arith, lt))
in_order (r ∷ ps) zero (suc j) p q h lt a b = subst (λ z. StandsBefore z q) (same_some r p a) (later_at r q ps j h.0 b)
in_order (r ∷ ps) (suc i) (suc j) p q h lt a b = in_order ps i j p q h.1 (omega (arith, lt)) a b

-- a function in front of another one of the same file ends where that begins or before
pub in_front : (ps : List FunctionPlace) (i j : ℕ) (p q : FunctionPlace) → AreInOrder ps → i < j → slice_get ps i ≡ Some p → slice_get ps j ≡ Some q → p.file ≡ q.file → p.last ≤ q.first
in_front ps i j p q h lt a b same = elim (in_order ps i j p q h lt a b) [ inl less ↦ absurd (omega (arith, less, same)) | inr k ↦ k.1 ]
