-- When an index fits a package.
use Rattle.std.specs.Prelude.{◌≡◌, ℕ, ◌≤◌, Bool, true, false, nat_eq, List, [], ◌∷◌}
use Rattle.std.specs.List.{AllByRecursion}
use Rattle.go_typed.specs.declared.window.Window.{Window}
use Rattle.go_typed.specs.Packages.{PackageView}
use Rattle.clone_window.specs.declared.bounds.Bounds.{Bounds}
use Rattle.clone_window.specs.Bodies.{bodies_of, same_in}
use Rattle.clone_classes.specs.Classes.{Among}
use Rattle.clone_classes.specs.Listing.{windows_of_all}
use Rattle.window_index.specs.Buckets.{Bucket, held, is_some_left, leads}

-- what contracts see of an index: its hash, which runs of statements are windows, and what it holds
pub record IndexView (H : Type 0) : Type 0 where
  pub hash : H
  pub bounds : Bounds
  pub buckets : List Bucket

pub record AreBounds (bounds : Bounds) : Type 0 where
  pub some : 1 ≤ bounds.fewest
  pub at_most : bounds.fewest ≤ 32
  pub heavy : 1 ≤ bounds.least
  pub light : bounds.least ≤ 1000

-- One window or more, of which the first one is the same as each other.
abbrev pub IsGroup : (Window → Window → Bool) → List Window → Type 0
IsGroup same [] = ⊥
IsGroup same (w ∷ ws) = AllByRecursion (λ v. same w v ≡ true) ws

-- The first member of a group is the same as that of none of the others.
abbrev pub IsApart : (Window → Window → Bool) → List Window → List (List Window) → Type 0
IsApart same [] gs = Unit {0}
IsApart same (w ∷ ws) gs = AllByRecursion (λ g. leads same w g ≡ false) gs

-- Windows that are the same stand in one group, and others don't.
abbrev pub AreGroups : (Window → Window → Bool) → List (List Window) → Type 0
AreGroups same [] = Unit {0}
AreGroups same (g ∷ gs) = IsGroup same g × IsApart same g gs × AreGroups same gs

-- No two buckets have one hash.
abbrev pub AreDistinct : List Bucket → Type 0
AreDistinct [] = Unit {0}
AreDistinct (b ∷ bs) = AllByRecursion (λ c. nat_eq c.0 b.0 ≡ false) bs × AreDistinct bs

-- Buckets fit windows: what is held are some of them, each under its number, in groups of windows that are the same; none is
-- empty.
pub record Fits (number : Window → ℕ) (same : Window → Window → Bool) (windows : List Window) (buckets : List Bucket) : Type 0 where
  pub known : AllByRecursion (λ x. Among windows x.0) (held buckets)
  pub numbers : AllByRecursion (λ x. x.1 ≡ number x.0) (held buckets)
  pub filled : AllByRecursion (λ b. is_some_left b.1 ≡ true) buckets
  pub groups : AllByRecursion (λ b. AreGroups same b.1) buckets
  pub distinct : AreDistinct buckets

-- An index fits a package, whose windows have these numbers.
abbrev pub FitsPackage : {H : Type 0} → (H → PackageView → Window → ℕ) → PackageView → IndexView H → Type 0
FitsPackage number p i = Fits (number i.hash p) (same_in p) (windows_of_all i.bounds 0 (bodies_of p.functions)) i.buckets
