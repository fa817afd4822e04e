-- What is derived from the grammar as an expression has brackets around what they are around, and a statement whose parts are expressions
-- is written as one.
use Rattle.std.proofs.Common.{◌≡◌, ◌⊎◌, inl, inr, ℕ, true, List, refl, subst}
use Rattle.go_grammar.specs.declared.kind.Category.{Category}
use Rattle.go_grammar.specs.declared.kind.Category.TheVariants as category
use Rattle.go_grammar.specs.declared.kind.Kind.{Kind}
use Rattle.go_grammar.specs.declared.kind.Kind.TheVariants as kind
use Rattle.go_grammar.specs.declared.kind.Place.{Place}
use Rattle.go_grammar.specs.Categories.{place_of, is_expression, is_post}
use Rattle.go_grammar.specs.Grammar.{any, rule}
use Rattle.go_grammar.specs.Rules.{Rule, Items, End, Then, Maybe, Unless, Many, item}
use Rattle.go_grammar.specs.Trees.{Tree, node, Trees, kind_of}
use Rattle.go_grammar.specs.Trees as syntax
use Rattle.go_stmts_final_types.specs.Shapes.{IsShaped, AreShaped}
use Rattle.go_stmts_scopes.specs.Runs.{HasBracket, HasBrackets, AllHaveBrackets}
use Rattle.go_stmts_scopes.specs.Statements.{AllOperands, IsOperandList, IsTargetList, IsSimpleTree, is_written_simple}
use Rattle.go_stmts_scopes.proofs.Never.{never}

-- ---- expressions

mutual
  pub shaped_brackets : (c : Category) (t : Tree) → IsShaped c t → HasBrackets t
  shaped_brackets c (node k i j ps) h = (own_bracket c k ps h.1, all_brackets (rule (place_of c) k) ps h.1)

  all_brackets : (r : Rule) (ps : Trees) → AreShaped r ps → AllHaveBrackets ps
  all_brackets (End ws) syntax.none h = tt
  all_brackets (End ws) (syntax.more p ps) h = absurd h
  all_brackets (End ws) (syntax.skip ps) h = absurd h
  all_brackets (Then ws c r) syntax.none h = absurd h
  all_brackets (Then ws c r) (syntax.more p ps) h = (shaped_brackets c p h.0, all_brackets r ps h.1)
  all_brackets (Then ws c r) (syntax.skip ps) h = absurd h
  all_brackets (Maybe ws c r) syntax.none h = absurd h
  all_brackets (Maybe ws c r) (syntax.more p ps) h = (shaped_brackets c p h.0, all_brackets r ps h.1)
  all_brackets (Maybe ws c r) (syntax.skip ps) h = all_brackets r ps h
  all_brackets (Unless ws c us r) syntax.none h = absurd h
  all_brackets (Unless ws c us r) (syntax.more p ps) h = (shaped_brackets c p h.0, all_brackets r ps h.1)
  all_brackets (Unless ws c us r) (syntax.skip ps) h = all_brackets r ps h
  all_brackets (Many ws l) syntax.none h = tt
  all_brackets (Many ws l) (syntax.more p ps) h = (shaped_brackets (item l) p h.0, all_brackets (Many ws l) ps h.1)
  all_brackets (Many ws l) (syntax.skip ps) h = absurd h

  own_bracket : (c : Category) (k : Kind) (ps : Trees) → AreShaped (rule (place_of c) k) ps → HasBracket k ps
  own_bracket c kind.Bracketed (syntax.more x (syntax.more (node k i j qs) ps)) h = h.1.0.0
  own_bracket c kind.Bracketed (syntax.skip (syntax.more y ps)) h = absurd h
  own_bracket c kind.Bracketed ps h = tt
  own_bracket c k ps h = tt

-- items of one category
abbrev pub AllShaped : Category → Trees → Type 0
AllShaped c syntax.none = Unit {0}
AllShaped c (syntax.more p ps) = IsShaped c p × AllShaped c ps
AllShaped c (syntax.skip ps) = ⊥

pub many_shaped : (l : Items) (ws : List _) (ps : Trees) → AreShaped (Many ws l) ps → AllShaped (item l) ps
many_shaped l ws syntax.none h = tt
many_shaped l ws (syntax.more p ps) h = (h.0, many_shaped l ws ps h.1)
many_shaped l ws (syntax.skip ps) h = absurd h

-- an expression
pub expression_kind : (p : Place) (t : Tree) → IsShaped (any p) t → is_expression (kind_of t) ≡ true
expression_kind p (node k i j ps) h = h.0

pub shaped_operands : (p : Place) (ps : Trees) → AllShaped (any p) ps → AllOperands ps
shaped_operands p syntax.none h = tt
shaped_operands p (syntax.more x ps) h = (expression_kind p x h.0, shaped_brackets (any p) x h.0, shaped_operands p ps h.1)
shaped_operands p (syntax.skip ps) h = absurd h

-- lists of expressions
pub list_shaped : (c : Category) (p : Place) (t : Tree) → (c ≡ category.ExpressionList p) ⊎ (c ≡ category.LeftList p) → IsShaped c t → IsOperandList t
list_shaped c p t (inl e) h = by t (subst (λ z. IsShaped z t) e h)
  where
    by : (t : Tree) → IsShaped (category.ExpressionList p) t → IsOperandList t
    by (node kind.ExpressionList i j (syntax.more x ps)) h = (expression_kind p x h.1.0, shaped_brackets (any p) x h.1.0, shaped_operands p ps (many_shaped _ _ ps h.1.1))
    by (node kind.ExpressionList i j syntax.none) h = absurd h.1
    by (node kind.ExpressionList i j (syntax.skip ps)) h = absurd h.1
    by (node k i j ps) h = absurd (never h.0)
list_shaped c p t (inr e) h = by t (subst (λ z. IsShaped z t) e h)
  where
    by : (t : Tree) → IsShaped (category.LeftList p) t → IsOperandList t
    by (node kind.ExpressionList i j (syntax.more x ps)) h = (expression_kind p x h.1.0, shaped_brackets (any p) x h.1.0, shaped_operands p ps (many_shaped _ _ ps h.1.1))
    by (node kind.ExpressionList i j syntax.none) h = absurd h.1
    by (node kind.ExpressionList i j (syntax.skip ps)) h = absurd h.1
    by (node k i j ps) h = absurd (never h.0)

pub targets_shaped : (p : Place) (t : Tree) → IsShaped (category.Targets p) t → IsTargetList t
targets_shaped p (node kind.Targets i j (syntax.more x syntax.none)) h = (list_shaped (category.LeftList p) p x (inr refl) h.1.0, tt)
targets_shaped p (node kind.Targets i j (syntax.more x (syntax.more y ps))) h = absurd h.1.1
targets_shaped p (node kind.Targets i j (syntax.more x (syntax.skip ps))) h = absurd h.1.1
targets_shaped p (node kind.Targets i j syntax.none) h = absurd h.1
targets_shaped p (node kind.Targets i j (syntax.skip ps)) h = absurd h.1
targets_shaped p (node k i j ps) h = absurd (never h.0)

-- ---- statements whose parts are expressions

pub simple_tree : (c : Category) (t : Tree) → is_post (kind_of t) ≡ true → IsShaped c t → IsSimpleTree t
simple_tree c (node kind.ExpressionStatement i j (syntax.more x syntax.none)) e g = shaped_operands (place_of c) (syntax.more x syntax.none) (g.1.0, tt)
simple_tree c (node kind.ExpressionStatement i j syntax.none) e g = absurd g.1
simple_tree c (node kind.ExpressionStatement i j (syntax.skip ps)) e g = absurd g.1
simple_tree c (node kind.ExpressionStatement i j (syntax.more x (syntax.more y ps))) e g = absurd g.1.1
simple_tree c (node kind.ExpressionStatement i j (syntax.more x (syntax.skip ps))) e g = absurd g.1.1
simple_tree c (node (kind.StepStatement o) i j (syntax.more x syntax.none)) e g = shaped_operands (place_of c) (syntax.more x syntax.none) (g.1.0, tt)
simple_tree c (node (kind.StepStatement o) i j syntax.none) e g = absurd g.1
simple_tree c (node (kind.StepStatement o) i j (syntax.skip ps)) e g = absurd g.1
simple_tree c (node (kind.StepStatement o) i j (syntax.more x (syntax.more y ps))) e g = absurd g.1.1
simple_tree c (node (kind.StepStatement o) i j (syntax.more x (syntax.skip ps))) e g = absurd g.1.1
simple_tree c (node (kind.OperatorAssignment o) i j (syntax.more x (syntax.more y syntax.none))) e g = shaped_operands (place_of c) (syntax.more x (syntax.more y syntax.none)) (g.1.0, (g.1.1.0, tt))
simple_tree c (node (kind.OperatorAssignment o) i j syntax.none) e g = absurd g.1
simple_tree c (node (kind.OperatorAssignment o) i j (syntax.skip ps)) e g = absurd g.1
simple_tree c (node (kind.OperatorAssignment o) i j (syntax.more x syntax.none)) e g = absurd g.1.1
simple_tree c (node (kind.OperatorAssignment o) i j (syntax.more x (syntax.skip ps))) e g = absurd g.1.1
simple_tree c (node (kind.OperatorAssignment o) i j (syntax.more x (syntax.more y (syntax.more z ps)))) e g = absurd g.1.1.1
simple_tree c (node (kind.OperatorAssignment o) i j (syntax.more x (syntax.more y (syntax.skip ps)))) e g = absurd g.1.1.1
simple_tree c (node kind.Assignment i j (syntax.more x (syntax.more y syntax.none))) e g = (targets_shaped (place_of c) x g.1.0, (list_shaped (category.ExpressionList (place_of c)) (place_of c) y (inl refl) g.1.1.0, tt))
simple_tree c (node kind.Assignment i j syntax.none) e g = absurd g.1
simple_tree c (node kind.Assignment i j (syntax.skip ps)) e g = absurd g.1
simple_tree c (node kind.Assignment i j (syntax.more x syntax.none)) e g = absurd g.1.1
simple_tree c (node kind.Assignment i j (syntax.more x (syntax.skip ps))) e g = absurd g.1.1
simple_tree c (node kind.Assignment i j (syntax.more x (syntax.more y (syntax.more z ps)))) e g = absurd g.1.1.1
simple_tree c (node kind.Assignment i j (syntax.more x (syntax.more y (syntax.skip ps)))) e g = absurd g.1.1.1
simple_tree c (node k i j ps) e g = absurd (never e)

pub return_tree : (c : Category) (i j : ℕ) (ps : Trees) → IsShaped c (node kind.Return i j ps) → IsSimpleTree (node kind.Return i j ps)
return_tree c i j syntax.none g = absurd g.1
return_tree c i j (syntax.skip syntax.none) g = tt
return_tree c i j (syntax.skip (syntax.more y ps)) g = absurd g.1
return_tree c i j (syntax.skip (syntax.skip ps)) g = absurd g.1
return_tree c i j (syntax.more x syntax.none) g = (list_shaped (category.ExpressionList (place_of c)) (place_of c) x (inl refl) g.1.0, tt)
return_tree c i j (syntax.more x (syntax.more y ps)) g = absurd g.1.1
return_tree c i j (syntax.more x (syntax.skip ps)) g = absurd g.1.1

pub derived_simple : (c : Category) (t : Tree) → IsShaped c t → is_written_simple (kind_of t) ≡ true → IsSimpleTree t
derived_simple c (node kind.Return i j ps) h e = return_tree c i j ps h
derived_simple c (node k i j ps) h e = simple_tree c (node k i j ps) e h
