-- Heights of objects that need one another, and the stages by them.
--
-- Of an object it becomes known what it stands for; of a type then its right side, and then the rules that fail in it. An object needs others
-- in full, or, if it is a type, in part: as its right side needs them.
use Rattle.std.specs.Prelude.{◌≡◌, ℕ, suc, ◌+◌, ◌*◌, ◌<◌, Bool, true, false, ◌&&◌, ◌||◌, nat_eq, Option, Some, None}
use Rattle.go_package_settled.specs.Counts.{count, greatest, rank}

-- Objects with numbers below `size`: whether one is a type, if there is one; whether the first needs the second in full; and whether it needs
-- that in part. What is needed through others is needed.
pub record Needing : Type 0 where
  pub size : ℕ
  pub sort : ℕ → Option Bool
  pub full : ℕ → ℕ → Bool
  pub part : ℕ → ℕ → Bool

-- What is needed by what is needed is needed, in full and in part, and in part no object needs itself. A constant, a variable or a function
-- needs nothing in full that it doesn't need in part.
pub record AreOrdered (x : Needing) : Type 0 where
  pub inside : (k : ℕ) (b : Bool) → x.sort k ≡ Some b → k < x.size
  pub through : (k m n : ℕ) → x.full k m ≡ true → x.full m n ≡ true → x.full k n ≡ true
  pub partly_through : (k m n : ℕ) → x.part k m ≡ true → x.part m n ≡ true → x.part k n ≡ true
  pub partly_full : (k m : ℕ) → x.part k m ≡ true → x.full k m ≡ true
  pub whole : (k m : ℕ) → x.sort k ≡ Some false → x.full k m ≡ true → x.part k m ≡ true
  pub itself : (k : ℕ) → x.part k k ≡ true → ⊥

-- whether the second is the first, or needed in full by it
abbrev pub is_within : Needing → ℕ → ℕ → Bool
is_within x k m = nat_eq m k || x.full k m

-- the same in part
abbrev pub is_partly_within : Needing → ℕ → ℕ → Bool
is_partly_within x k m = nat_eq m k || x.part k m

abbrev pub is_value : Option Bool → Bool
is_value (Some false) = true
is_value o = false

-- 0 where there is no object, the first of a type, and the second of another object
abbrev pub by_sort : Option Bool → ℕ → ℕ → ℕ
by_sort None a b = 0
by_sort (Some true) a b = a
by_sort (Some false) a b = b

-- how many constants, variables and functions an object needs in full
abbrev pub values_under : Needing → ℕ → ℕ
values_under x k = count (λ m. is_value (x.sort m) && x.full k m) x.size

-- how many objects it needs in part
abbrev pub parts_under : Needing → ℕ → ℕ
parts_under x k = count (x.part k) x.size

abbrev pub width : Needing → ℕ
width x = suc x.size

-- by how many constants, variables and functions it needs
abbrev pub base : Needing → ℕ → ℕ
base x k = (width x + (width x + width x)) * values_under x k

-- the heights at which the right side of a type is known, and all that is found of an object
abbrev pub told_height : Needing → ℕ → ℕ
told_height x k = base x k + by_sort (x.sort k) (parts_under x k) (width x + width x)

abbrev pub own_height : Needing → ℕ → ℕ
own_height x k = base x k + by_sort (x.sort k) (width x + parts_under x k) (width x + width x)

-- the stage of a height
abbrev pub stage : Needing → ℕ → ℕ
stage x k = rank (told_height x) (own_height x) x.size k

-- After so many rounds it is known for good what an object stands for, and its right side, and all that is found of it.
abbrev pub stand_stage : Needing → ℕ → ℕ
stand_stage x k = by_sort (x.sort k) 0 (stage x (own_height x k))

abbrev pub told_stage : Needing → ℕ → ℕ
told_stage x k = by_sort (x.sort k) (stage x (told_height x k)) (stage x (own_height x k))

abbrev pub own_stage : Needing → ℕ → ℕ
own_stage x k = by_sort (x.sort k) (stage x (own_height x k)) (stage x (own_height x k))

-- the greatest stage of the right sides of an object and of what it needs
abbrev pub reach_stage : Needing → ℕ → ℕ
reach_stage x k = greatest (is_within x k) (told_stage x) x.size
