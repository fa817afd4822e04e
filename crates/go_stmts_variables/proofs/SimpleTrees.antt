-- Simple statements, by their trees.
use Rattle.std.proofs.Common.{◌≡◌, ℕ, Bool, true, false, refl, sym, subst, IsTrue}
use Rattle.std.specs.Prelude.{◌&&◌}
use Rattle.go_grammar.specs.declared.kind.Category.TheVariants as category
use Rattle.go_grammar.specs.declared.kind.Kind.{Kind}
use Rattle.go_grammar.specs.declared.kind.Kind.TheVariants as kind
use Rattle.go_grammar.specs.declared.kind.Place.{Place}
use Rattle.go_grammar.specs.Grammar.{any, rule, agrees, is_name, are_names}
use Rattle.go_grammar.specs.Trees.{Tree, node, Trees, none, more, skip, kind_of}
use Rattle.go_exprs_variables.specs.Shapes.{IsShaped, AreShaped}
use Rattle.go_exprs_variables.specs.Variables.{Standins, AllFree, Proper, AllProper, ExpressionsTyped}
use Rattle.go_stmts_variables.specs.Statements.{AllDeclare}
use Rattle.go_stmts_variables.proofs.Assignments.{assign_row}
use Rattle.go_stmts_variables.proofs.Defines.{define_row}
use Rattle.go_stmts_variables.proofs.Lists.{AreExpressions, list_expressions}
use Rattle.go_stmts_variables.proofs.Names.{AreNames}
use Rattle.go_stmts_variables.proofs.Rows.{Stated}

pub first_true : (b c : Bool) → IsTrue (b && c) → (b ≡ true) × IsTrue c
first_true true c e = (refl, e)
first_true false c e = cc

-- the kind is none of these
pub impossible : {X : Type 0} → IsTrue false → X
impossible e = cc

pub uncovered : {X : Type 0} → false ≡ true → X
uncovered e = cc

the_name : (k : Kind) → is_name k ≡ true → k ≡ kind.Name
the_name kind.Name e = refl
the_name k e = cc

module _ (w : Standins) where
  named_shape : (p : Place) (i j : ℕ) (xs qs : Trees) → IsShaped (any p) (node kind.Name i j xs) → AreNames w qs → AreNames w (more (node kind.Name i j xs) qs)
  named_shape p i j none qs e named = named
  named_shape p i j (more x xs) qs e named = elim e.1 [ ]
  named_shape p i j (skip xs) qs e named = elim e.1 [ ]

  name_shape : (p : Place) (q : Tree) (qs : Trees) → IsShaped (any p) q → is_name (kind_of q) ≡ true → AreNames w qs → AreNames w (more q qs)
  name_shape p (node k i j xs) qs e n named =
      subst (λ k. IsShaped (any p) (node k i j xs) → AreNames w (more (node k i j xs) qs)) (sym (the_name k n)) (λ s. named_shape p i j xs qs s named) e

  pub names_shape : (p : Place) (qs : Trees) → AreExpressions p qs → IsTrue (are_names qs) → AreNames w qs
  names_shape p none e n = tt
  names_shape p (skip qs) e n = elim e [ ]
  names_shape p (more q qs) e n = let both = first_true (is_name (kind_of q)) (are_names qs) n in name_shape p q qs e.0 both.0 (names_shape p qs e.1 both.1)

  module _ (law : ExpressionsTyped) where
    define_values : (p : Place) (i j a b c d : ℕ) (qs : Trees) (x : Tree) → AreExpressions p qs → AreNames w qs → IsShaped (category.ExpressionList p) x → AllFree w qs → Proper w x
        → Stated w (node kind.Define i j (more (node kind.NewNames a b (more (node kind.ExpressionList c d qs) none)) (more x none)))
    define_values p i j a b c d qs (node kind.ExpressionList m n ps) e named shape free proper =
        define_row w i j a b c d m n p qs ps (more (node kind.NewNames a b (more (node kind.ExpressionList c d qs) none)) (more (node kind.ExpressionList m n ps) none)) refl named (list_expressions p ps shape.1) free law proper.2
    define_values p i j a b c d qs (node k m n ps) e named shape free proper = impossible shape.0

    define_names : (p : Place) (i j a b : ℕ) (ns : Trees) (x : Tree) → AreShaped (rule p kind.NewNames) ns → IsTrue (agrees kind.NewNames ns) → IsShaped (category.ExpressionList p) x → AllFree w ns → Proper w x
        → Stated w (node kind.Define i j (more (node kind.NewNames a b ns) (more x none)))
    define_names p i j a b none x e n shape free proper = elim e [ ]
    define_names p i j a b (skip ns) x e n shape free proper = elim e [ ]
    define_names p i j a b (more q (more r ns)) x e n shape free proper = elim e.1 [ ]
    define_names p i j a b (more q (skip ns)) x e n shape free proper = elim e.1 [ ]
    define_names p i j a b (more (node kind.ExpressionList c d qs) none) x e n shape free proper =
        let list = list_expressions p qs e.0.1 in define_values p i j a b c d qs x list (names_shape p qs list n) shape free.0.1 proper
    define_names p i j a b (more (node k c d qs) none) x e n shape free proper = impossible e.0.0

    pub define_stated : (p : Place) (i j : ℕ) (ps : Trees) → AreShaped (rule p kind.Define) ps → AllProper w ps → AllDeclare w ps → Stated w (node kind.Define i j ps)
    define_stated p i j none e proper dec = elim e [ ]
    define_stated p i j (skip ps) e proper dec = elim e [ ]
    define_stated p i j (more q none) e proper dec = elim e.1 [ ]
    define_stated p i j (more q (skip ps)) e proper dec = elim e.1 [ ]
    define_stated p i j (more q (more r (more s ps))) e proper dec = elim e.1.1 [ ]
    define_stated p i j (more q (more r (skip ps))) e proper dec = elim e.1.1 [ ]
    define_stated p i j (more (node kind.NewNames a b ns) (more x none)) e proper dec = define_names p i j a b ns x e.0.1 e.0.2 e.1.0 dec.0.0 proper.1.0
    define_stated p i j (more (node k a b ns) (more x none)) e proper dec = impossible e.0.0

    -- ---- assignments

    assign_values : (p : Place) (i j a b c d : ℕ) (qs : Trees) (x : Tree) → AreExpressions p qs → IsShaped (category.ExpressionList p) x → AllProper w qs → Proper w x
        → Stated w (node kind.Assignment i j (more (node kind.Targets a b (more (node kind.ExpressionList c d qs) none)) (more x none)))
    assign_values p i j a b c d qs (node kind.ExpressionList m n ps) e shape pq proper =
        assign_row w i j a b c d m n p qs ps (more (node kind.Targets a b (more (node kind.ExpressionList c d qs) none)) (more (node kind.ExpressionList m n ps) none)) refl e (list_expressions p ps shape.1) law pq proper.2
    assign_values p i j a b c d qs (node k m n ps) e shape pq proper = impossible shape.0

    assign_targets : (p : Place) (i j a b : ℕ) (ts : Trees) (x : Tree) → AreShaped (rule p kind.Targets) ts → IsShaped (category.ExpressionList p) x → AllProper w ts → Proper w x
        → Stated w (node kind.Assignment i j (more (node kind.Targets a b ts) (more x none)))
    assign_targets p i j a b none x e shape pt proper = elim e [ ]
    assign_targets p i j a b (skip ts) x e shape pt proper = elim e [ ]
    assign_targets p i j a b (more q (more r ts)) x e shape pt proper = elim e.1 [ ]
    assign_targets p i j a b (more q (skip ts)) x e shape pt proper = elim e.1 [ ]
    assign_targets p i j a b (more (node kind.ExpressionList c d qs) none) x e shape pt proper = assign_values p i j a b c d qs x (list_expressions p qs e.0.1) shape pt.0.2 proper
    assign_targets p i j a b (more (node k c d qs) none) x e shape pt proper = impossible e.0.0

    pub assign_stated : (p : Place) (i j : ℕ) (ps : Trees) → AreShaped (rule p kind.Assignment) ps → AllProper w ps → Stated w (node kind.Assignment i j ps)
    assign_stated p i j none e proper = elim e [ ]
    assign_stated p i j (skip ps) e proper = elim e [ ]
    assign_stated p i j (more q none) e proper = elim e.1 [ ]
    assign_stated p i j (more q (skip ps)) e proper = elim e.1 [ ]
    assign_stated p i j (more q (more r (more s ps))) e proper = elim e.1.1 [ ]
    assign_stated p i j (more q (more r (skip ps))) e proper = elim e.1.1 [ ]
    assign_stated p i j (more (node kind.Targets a b ts) (more x none)) e proper = assign_targets p i j a b ts x e.0.1 e.1.0 proper.0.2 proper.1.0
    assign_stated p i j (more (node k a b ts) (more x none)) e proper = impossible e.0.0
