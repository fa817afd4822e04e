-- Declarations of variables, by their trees.
use Rattle.std.proofs.Common.{ℕ, false, List, [], ◌∷◌, refl, subst}
use Rattle.go_grammar.specs.declared.kind.Category.TheVariants as category
use Rattle.go_grammar.specs.declared.kind.Kind.TheVariants as kind
use Rattle.go_grammar.specs.declared.kind.Place.{Place}
use Rattle.go_grammar.specs.declared.kind.Place.TheVariants as place
use Rattle.go_grammar.specs.declared.kind.Sort.TheVariants as declaring
use Rattle.go_grammar.specs.Categories.{is_type}
use Rattle.go_grammar.specs.Grammar.{rule}
use Rattle.go_grammar.specs.Rules.{Many, Lines, Again}
use Rattle.go_grammar.specs.Trees.{Tree, node, Trees, none, more, skip, kind_of}
use Rattle.go_tokens.specs.declared.token.TokenKind.{TokenKind}
use Rattle.go_tokens.specs.declared.token.TokenKind.TheVariants as token
use Rattle.go_exprs_variables.specs.Shapes.{IsShaped, AreShaped}
use Rattle.go_exprs_variables.specs.Variables.{Standins, Free, Proper, AllProper, ExpressionsTyped}
use Rattle.go_stmts_defs.specs.Frames.{Frame}
use Rattle.go_stmts_variables.specs.Frames.{FramesStand}
use Rattle.go_stmts_variables.specs.Statements.{FreeType, Declares, AllDeclare}
use Rattle.go_stmts_variables.proofs.Declarations.{AllSpecified, one_declared, group_declared}
use Rattle.go_stmts_variables.proofs.Declared.{AreDeclared}
use Rattle.go_stmts_variables.proofs.Lists.{list_expressions}
use Rattle.go_stmts_variables.proofs.Rows.{Stated}
use Rattle.go_stmts_variables.proofs.SimpleTrees.{impossible}
use Rattle.go_stmts_variables.proofs.Specifications.{RestReads, type_told, values_rest, typed_rest, type_rest, specified_reads}

module _ (w : Standins) (law : ExpressionsTyped) where
  names_declared : (ws : List TokenKind) (ps : Trees) → AreShaped (Many ws (Again category.DeclaredName token.Comma)) ps → AllDeclare w ps → AreDeclared w ps
  names_declared ws none e d = tt
  names_declared ws (skip ps) e d = elim e [ ]
  names_declared ws (more (node kind.DeclaredName i j none) ps) e d = (d.0.0, names_declared ws ps e.1 d.1)
  names_declared ws (more (node kind.DeclaredName i j (more q qs)) ps) e d = elim e.0.1 [ ]
  names_declared ws (more (node kind.DeclaredName i j (skip qs)) ps) e d = elim e.0.1 [ ]
  names_declared ws (more (node k i j qs) ps) e d = impossible e.0.0

  pub list_declared : (p : Place) (ps : Trees) → AreShaped (rule p kind.NameList) ps → AllDeclare w ps → AreDeclared w ps
  list_declared p none e d = elim e [ ]
  list_declared p (skip ps) e d = elim e [ ]
  list_declared p (more (node kind.DeclaredName i j none) ps) e d = (d.0.0, names_declared [] ps e.1 d.1)
  list_declared p (more (node kind.DeclaredName i j (more q qs)) ps) e d = elim e.0.1 [ ]
  list_declared p (more (node kind.DeclaredName i j (skip qs)) ps) e d = elim e.0.1 [ ]
  list_declared p (more (node k i j qs) ps) e d = impossible e.0.0

  values_tree : (f g : Frame) (st : FramesStand w f g) (c d : ℕ) (l : Tree) → IsShaped (category.ExpressionList place.Free) l → Proper w l → RestReads w f g (node kind.Values c d (more l none))
  values_tree f g st c d (node kind.ExpressionList a b ps) e proper = values_rest w law f g st c d a b place.Free ps (list_expressions place.Free ps e.1) proper.2
  values_tree f g st c d (node k a b ps) e proper = impossible e.0

  typed_tree : (f g : Frame) (st : FramesStand w f g) (c d : ℕ) (t l : Tree) → IsShaped category.Type t → Free w t → IsShaped (category.ExpressionList place.Free) l → Proper w l
      → RestReads w f g (node kind.TypedValues c d (more t (more l none)))
  typed_tree f g st c d (node m x y qs) (node kind.ExpressionList a b ps) s free e proper = typed_rest w law f g st c d a b place.Free (node m x y qs) ps s s.0 free (list_expressions place.Free ps e.1) proper.2
  typed_tree f g st c d t (node k a b ps) s free e proper = impossible e.0

  rest_tree : (f g : Frame) (st : FramesStand w f g) (r : Tree) → IsShaped category.VariableRest r → Proper w r → FreeType (is_type (kind_of r)) w r → Declares w r → RestReads w f g r
  rest_tree f g st (node kind.Values c d none) e proper free dec = elim e.1 [ ]
  rest_tree f g st (node kind.Values c d (skip ps)) e proper free dec = elim e.1 [ ]
  rest_tree f g st (node kind.Values c d (more l (more m ps))) e proper free dec = elim e.1.1 [ ]
  rest_tree f g st (node kind.Values c d (more l (skip ps))) e proper free dec = elim e.1.1 [ ]
  rest_tree f g st (node kind.Values c d (more l none)) e proper free dec = values_tree f g st c d l e.1.0 proper.2.0
  rest_tree f g st (node kind.TypedValues c d none) e proper free dec = elim e.1 [ ]
  rest_tree f g st (node kind.TypedValues c d (skip ps)) e proper free dec = elim e.1 [ ]
  rest_tree f g st (node kind.TypedValues c d (more t none)) e proper free dec = elim e.1.1 [ ]
  rest_tree f g st (node kind.TypedValues c d (more t (skip ps))) e proper free dec = elim e.1.1 [ ]
  rest_tree f g st (node kind.TypedValues c d (more t (more l (more m ps)))) e proper free dec = elim e.1.1.1 [ ]
  rest_tree f g st (node kind.TypedValues c d (more t (more l (skip ps)))) e proper free dec = elim e.1.1.1 [ ]
  rest_tree f g st (node kind.TypedValues c d (more t (more l none))) e proper free dec = typed_tree f g st c d t l e.1.0 dec.0 e.1.1.0 proper.2.1.0
  rest_tree f g st (node k c d ps) e proper free dec = type_rest w f g st (node k c d ps) (e.0, e.1, e.2) e.0 (subst (λ b. FreeType b w (node k c d ps)) e.0 free) (type_told k e.0)

  specified_tree : (i j : ℕ) (nl r : Tree) → IsShaped category.NameList nl → Declares w nl → IsShaped category.VariableRest r → Proper w r → FreeType (is_type (kind_of r)) w r → Declares w r
      → Stated w (node (kind.Specification declaring.Variable) i j (more nl (more r none)))
  specified_tree i j (node kind.NameList a b ds) r e dn s proper free dec = record {
    kind = refl;
    reads = λ f g h st good fits tags steady. specified_reads w f g h i j a b ds r (list_declared place.Free ds e.1 dn.1) (rest_tree f g st r s proper free dec) st law good fits;
  }
  specified_tree i j (node k a b ds) r e dn s proper free dec = impossible e.0

  specification_stated : (i j : ℕ) (ps : Trees) → AreShaped (rule place.Free (kind.Specification declaring.Variable)) ps → AllProper w ps → Declares w (node (kind.Specification declaring.Variable) i j ps)
      → Stated w (node (kind.Specification declaring.Variable) i j ps)
  specification_stated i j none e proper dec = elim e [ ]
  specification_stated i j (skip ps) e proper dec = elim e [ ]
  specification_stated i j (more nl none) e proper dec = elim e.1 [ ]
  specification_stated i j (more nl (skip ps)) e proper dec = elim e.1 [ ]
  specification_stated i j (more nl (more r (more x ps))) e proper dec = elim e.1.1 [ ]
  specification_stated i j (more nl (more r (skip ps))) e proper dec = elim e.1.1 [ ]
  specification_stated i j (more nl (more r none)) e proper dec = specified_tree i j nl r e.0 dec.1.0 e.1.0 proper.1.0 dec.0 dec.1.1.0

  -- several in parentheses
  group_stated : (ws : List TokenKind) (ps : Trees) → AreShaped (Many ws (Lines false (category.Specification declaring.Variable) token.Semicolon token.RightParenthesis)) ps → AllProper w ps → AllDeclare w ps → AllSpecified w ps
  group_stated ws none e proper dec = tt
  group_stated ws (skip ps) e proper dec = elim e [ ]
  group_stated ws (more (node (kind.Specification declaring.Variable) i j qs) ps) e proper dec = (specification_stated i j qs e.0.1 proper.0.2 dec.0, group_stated ws ps e.1 proper.1 dec.1)
  group_stated ws (more (node k i j qs) ps) e proper dec = impossible e.0.0

  -- A declaration of variables.
  pub variables_stated : (i j : ℕ) (ps : Trees) → AreShaped (rule place.Free (kind.Declaration declaring.Variable)) ps → AllProper w ps → AllDeclare w ps → Stated w (node (kind.Declaration declaring.Variable) i j ps)
  variables_stated i j none e proper dec = elim e [ ]
  variables_stated i j (skip ps) e proper dec = elim e [ ]
  variables_stated i j (more p (more q ps)) e proper dec = elim e.1 [ ]
  variables_stated i j (more p (skip ps)) e proper dec = elim e.1 [ ]
  variables_stated i j (more (node (kind.Specification declaring.Variable) a b qs) none) e proper dec =
      let s = specification_stated a b qs e.0.1 proper.0.2 dec.0 in
      record { kind = refl; reads = λ f g h st good fits tags steady. one_declared w f g h i j (node (kind.Specification declaring.Variable) a b qs) s st good fits tags steady }
  variables_stated i j (more (node (kind.Group declaring.Variable) a b qs) none) e proper dec =
      let s = group_stated (token.LeftParenthesis ∷ []) qs e.0.1 proper.0.2 dec.0.1 in
      record { kind = refl; reads = λ f g h st good fits tags steady. group_declared w f g h i j a b qs s st law good fits tags steady }
  variables_stated i j (more (node k a b qs) none) e proper dec = impossible e.0.0
