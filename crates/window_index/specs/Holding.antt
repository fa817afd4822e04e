-- When an index holds a package.
use Rattle.std.specs.Prelude.{ℕ}
use Rattle.std.specs.List.Sorted.{IsPermutation}
use Rattle.go_typed.specs.declared.window.Window.{Window}
use Rattle.go_typed.specs.Packages.{PackageView}
use Rattle.clone_window.specs.Bodies.{bodies_of}
use Rattle.clone_classes.specs.Listing.{windows_of_all}
use Rattle.alpha_hash_defs.specs.Sharing.{numbered}
use Rattle.window_index.specs.Buckets.{held}
use Rattle.window_index.specs.Fitting.{FitsPackage, IndexView}

-- What an index holds are exactly the windows of a package, each once and under its number, in groups of windows that are the same.
pub record HoldsPackage {H : Type 0} (number : H → PackageView → Window → ℕ) (p : PackageView) (i : IndexView H) : Type 0 where
  pub fits : FitsPackage number p i
  pub all : IsPermutation (numbered (number i.hash p) (windows_of_all i.bounds 0 (bodies_of p.functions))) (held i.buckets)
