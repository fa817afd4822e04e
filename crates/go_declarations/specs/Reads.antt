-- The literals of specifications may be read.
use Rattle.std.specs.Prelude.{◌≡◌, ℕ, List, Some, slice_get}
use Rattle.go_grammar.specs.Trees.{Tree}
use Rattle.go_exprs_engine.specs.Literals.{AllRead}
use Rattle.go_package_defs.specs.Declarations.{Specification}
use Rattle.go_declarations.specs.Judged.{PartRead}

-- those of its type and of each of its values
pub record SpecificationRead (texts : ℕ → List ℕ) (d : Specification) : Type 0 where
  pub of : PartRead texts d.type_tree
  pub values : (c : ℕ) (t : Tree) → slice_get d.values c ≡ Some t → AllRead texts t
