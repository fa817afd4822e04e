-- The kinds of a tree's nodes and of their parts are those of a derivation, whatever its tokens are.
use Rattle.std.specs.Prelude.{IsTrue}
use Rattle.go_grammar.specs.declared.kind.Category.{Category}
use Rattle.go_grammar.specs.Categories.{within, place_of}
use Rattle.go_grammar.specs.Grammar.{rule, agrees}
use Rattle.go_grammar.specs.Rules.{Rule, End, Then, Maybe, Unless, Many, item}
use Rattle.go_grammar.specs.Trees.{Tree, node, Trees, none, more, skip}

abbrev mutual
  -- the tree has the kinds of a text of the category
  pub IsShaped : Category → Tree → Type 0
  IsShaped c (node k i j ps) = IsTrue (within c k) × AreShaped (rule (place_of c) k) ps × IsTrue (agrees k ps)

  -- these are the parts of a right side
  pub AreShaped : Rule → Trees → Type 0
  AreShaped (End ws) none = Unit {0}
  AreShaped (End ws) (more p ps) = ⊥
  AreShaped (End ws) (skip ps) = ⊥
  AreShaped (Then ws c r) none = ⊥
  AreShaped (Then ws c r) (more p ps) = IsShaped c p × AreShaped r ps
  AreShaped (Then ws c r) (skip ps) = ⊥
  AreShaped (Maybe ws c r) none = ⊥
  AreShaped (Maybe ws c r) (more p ps) = IsShaped c p × AreShaped r ps
  AreShaped (Maybe ws c r) (skip ps) = AreShaped r ps
  AreShaped (Unless ws c us r) none = ⊥
  AreShaped (Unless ws c us r) (more p ps) = IsShaped c p × AreShaped r ps
  AreShaped (Unless ws c us r) (skip ps) = AreShaped r ps
  AreShaped (Many ws l) none = Unit {0}
  AreShaped (Many ws l) (more p ps) = IsShaped (item l) p × AreShaped (Many ws l) ps
  AreShaped (Many ws l) (skip ps) = ⊥
