-- Where a name has a meaning (Go specification: Declarations and scope).
--
-- Each declaration gives a name a meaning in an extent: in the whole package, in a whole file, or from one token of a file up
-- to another.
use Rattle.std.specs.Prelude.{ℕ, Bool, true, false, ◌&&◌, nat_eq, nat_le, nat_lt}
use Rattle.go_tree.specs.declared.context.Block.{Block}
use Rattle.go_tree.specs.declared.context.Scope.{Scope}
use Rattle.go_tree.specs.declared.context.Block.TheVariants as block
use Rattle.go_tree.specs.declared.object.Extent.{Extent}
use Rattle.go_tree.specs.declared.object.Extent.TheVariants as extent
use Rattle.go_tree.specs.Declarations.{Found}

-- whether it has the place: a token of a file
abbrev pub covers : Extent → ℕ → ℕ → Bool
covers extent.Everywhere n t = true
covers (extent.Throughout m) n t = nat_eq m n
covers (extent.Between m s) n t = nat_eq m n && nat_le s.from t && nat_lt t s.to

-- whether the first lies inside the second
abbrev pub lies_inside : Extent → Extent → Bool
lies_inside e extent.Everywhere = true
lies_inside extent.Everywhere (extent.Throughout n) = false
lies_inside (extent.Throughout m) (extent.Throughout n) = nat_eq m n
lies_inside (extent.Between m s) (extent.Throughout n) = nat_eq m n
lies_inside extent.Everywhere (extent.Between n r) = false
lies_inside (extent.Throughout m) (extent.Between n r) = false
lies_inside (extent.Between m s) (extent.Between n r) = nat_eq m n && nat_le r.from s.from && nat_le s.to r.to

abbrev pub extent_by : ℕ → Scope → Block → Extent
extent_by n s block.Package = extent.Everywhere
extent_by n s (block.Local i) = extent.Between n s

abbrev pub extent_of : Found → Extent
extent_of d = extent_by d.file d.it.scope d.it.block
