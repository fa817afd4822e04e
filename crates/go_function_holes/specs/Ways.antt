-- What stands on the way to an expression that may become a name.
use Rattle.std.specs.Prelude.{ℕ, zero, suc, Bool, true, false, ◌&&◌, List, [], ◌∷◌}
use Rattle.go_grammar.specs.declared.kind.Kind.{Kind}
use Rattle.go_grammar.specs.Trees.{Tree, node, Trees, none, more, skip, kind_of}
use Rattle.extract_names_derived.specs.Holes.{may_hold_holes, may_be_replaced, gives_operands, is_simple_part}

abbrev mutual
  -- No node on the way down the path holds only what is no hole, and as the part at the end of the path an expression may become a name.
  -- `operand` says of a list of expressions whether its names are looked up only.
  pub may_be_named : Bool → List ℕ → Tree → Bool
  may_be_named operand [] t = true
  may_be_named operand (n ∷ path) (node k i j ps) = may_hold_holes k && part_named operand k n n path ps

  -- the same of the part with the number m of a node of this kind, which is the part n of those that are left
  pub part_named : Bool → Kind → ℕ → ℕ → List ℕ → Trees → Bool
  part_named operand k m n path none = false
  part_named operand k m zero [] (more p ps) = may_be_replaced operand k m && is_simple_part (kind_of p)
  part_named operand k m zero (l ∷ path) (more p ps) = may_be_named (gives_operands k m) (l ∷ path) p
  part_named operand k m (suc n) path (more p ps) = part_named operand k m n path ps
  part_named operand k m zero path (skip ps) = false
  part_named operand k m (suc n) path (skip ps) = part_named operand k m n path ps
