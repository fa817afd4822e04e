-- Declarations of constants and types, by their trees.
use Rattle.std.proofs.Common.{◌≡◌, ◌∙◌, ℕ, false, List, [], ◌∷◌, ◌++◌, length, Option, Some, None, refl, sym, subst}
use Rattle.go_grammar.specs.declared.kind.Category.TheVariants as category
use Rattle.go_grammar.specs.declared.kind.Kind.{Kind}
use Rattle.go_grammar.specs.declared.kind.Kind.TheVariants as kind
use Rattle.go_grammar.specs.declared.kind.Place.TheVariants as place
use Rattle.go_grammar.specs.declared.kind.Sort.TheVariants as declaring
use Rattle.go_grammar.specs.Grammar.{rule}
use Rattle.go_grammar.specs.Rules.{Many, Lines, Maybe, End}
use Rattle.go_grammar.specs.Trees.{Tree, node, Trees, none, more, skip}
use Rattle.go_tokens.specs.declared.token.TokenKind.{TokenKind}
use Rattle.go_tokens.specs.declared.token.TokenKind.TheVariants as token
use Rattle.go_typed.specs.declared.form.Form.TheVariants as form
use Rattle.go_exprs_rules.specs.Scopes.{value}
use Rattle.go_exprs_rules.specs.Settling.{Part}
use Rattle.go_exprs_rules.specs.Tables.{Parts}
use Rattle.go_stmts_defs.specs.Frames.{Frame}
use Rattle.go_stmts_defs.specs.Reading.{readings, entering}
use Rattle.go_exprs_variables.specs.Shapes.{IsShaped, AreShaped}
use Rattle.go_exprs_variables.specs.Variables.{Standins, Free, AllFree, ExpressionsTyped}
use Rattle.go_stmts_variables.specs.Frames.{FramesStand}
use Rattle.go_stmts_variables.specs.Statements.{AllDeclare}
use Rattle.go_stmts_variables.proofs.ConstantRests.{Rested, values_rested, typed_rested}
use Rattle.go_stmts_variables.proofs.DeclarationTrees.{list_declared}
use Rattle.go_stmts_variables.proofs.Declared.{AreDeclared}
use Rattle.go_stmts_variables.proofs.FixedConstants.{Sourced, bare_tail, rest_tail, constant_unchanged, closed_source}
use Rattle.go_stmts_variables.proofs.FixedDeclarations.{group_fixed, declaration_stated}
use Rattle.go_stmts_variables.proofs.FixedTypes.{type_fixed}
use Rattle.go_stmts_variables.proofs.Frames.{with_iota_stands, with_source_stands}
use Rattle.go_stmts_variables.proofs.Lists.{list_expressions}
use Rattle.go_stmts_variables.proofs.Rows.{Stated}
use Rattle.go_stmts_variables.proofs.SimpleTrees.{impossible}
use Rattle.go_stmts_variables.proofs.Unchanged.{IsFixedForm, Fixed, AllFixed, IsFixedRow}

module _ (w : Standins) where
  -- ---- types

  abbrev Anything : Frame → Type 0
  Anything f = Unit {0}

  type_row : IsFixedRow w Anything (kind.Declaration declaring.Type)
  type_row = record { enters = λ xs s t st. st; tells = λ h all xs n. refl; begins = λ s. tt; goes = λ xs x s p. tt }

  type_group : IsFixedRow w Anything (kind.Group declaring.Type)
  type_group = record { enters = λ xs s t st. st; tells = λ h all xs n. refl; begins = λ s. tt; goes = λ xs x s p. tt }

  types_form : IsFixedForm w form.TypeNames
  types_form = record { key = refl; name = refl }

  type_at : (i j : ℕ) (t : Tree) → IsShaped category.Type t → Free w t → w i ≡ None → Fixed w Anything (node (kind.Specification declaring.Type) i j (more t none))
  type_at i j (node k a b qs) shape free name = type_fixed w i j (node k a b qs) shape shape.0 free name

  type_specification : (i j : ℕ) (ps : Trees) → AreShaped (rule place.Free (kind.Specification declaring.Type)) ps → AllFree w ps → w i ≡ None → Fixed w Anything (node (kind.Specification declaring.Type) i j ps)
  type_specification i j none e free name = elim e [ ]
  type_specification i j (skip ps) e free name = elim e [ ]
  type_specification i j (more t (more u ps)) e free name = elim e.1 [ ]
  type_specification i j (more t (skip ps)) e free name = elim e.1 [ ]
  type_specification i j (more t none) e free name = type_at i j t e.0 free.0 name

  type_specifications : (ws : List TokenKind) (ps : Trees) → AreShaped (Many ws (Lines false (category.Specification declaring.Type) token.Semicolon token.RightParenthesis)) ps → AllFree w ps → AllDeclare w ps → AllFixed w Anything ps
  type_specifications ws none e free dec = tt
  type_specifications ws (skip ps) e free dec = elim e [ ]
  type_specifications ws (more (node (kind.Specification declaring.Type) i j qs) ps) e free dec = (type_specification i j qs e.0.1 free.0.1 dec.0.0, type_specifications ws ps e.1 free.1 dec.1)
  type_specifications ws (more (node k i j qs) ps) e free dec = impossible e.0.0

  types_with : (i j : ℕ) (p : Tree) → Fixed w Anything p → Stated w (node (kind.Declaration declaring.Type) i j (more p none))
  types_with i j p fixed = declaration_stated w Anything (λ f s e. tt) declaring.Type type_row form.TypeNames types_form refl (λ s i xs. refl) (λ xs. refl) i j p fixed

  -- A declaration of types.
  pub types_stated : (i j : ℕ) (ps : Trees) → AreShaped (rule place.Free (kind.Declaration declaring.Type)) ps → AllFree w ps → AllDeclare w ps → Stated w (node (kind.Declaration declaring.Type) i j ps)
  types_stated i j none e free dec = elim e [ ]
  types_stated i j (skip ps) e free dec = elim e [ ]
  types_stated i j (more p (more q ps)) e free dec = elim e.1 [ ]
  types_stated i j (more p (skip ps)) e free dec = elim e.1 [ ]
  types_stated i j (more (node (kind.Specification declaring.Type) a b qs) none) e free dec = types_with i j (node (kind.Specification declaring.Type) a b qs) (type_specification a b qs e.0.1 free.0.1 dec.0.0)
  types_stated i j (more (node (kind.Group declaring.Type) a b qs) none) e free dec =
      types_with i j (node (kind.Group declaring.Type) a b qs)
      (group_fixed w Anything (λ f s e. tt) declaring.Type type_group a b qs (type_specifications (token.LeftParenthesis ∷ []) qs e.0.1 free.0.1 dec.0.1))
  types_stated i j (more (node k a b qs) none) e free dec = impossible e.0.0

  -- ---- constants

  -- what is known before a specification
  constants_enter : (k : Kind) → ((xs : Parts) (s : Frame) → entering k xs s ≡ entering (kind.Group declaring.Constant) xs s) → (xs : Parts) (s t : Frame) → FramesStand w s t → FramesStand w (entering k xs s) (entering k xs t)
  constants_enter k e xs s t st =
      subst (λ z. FramesStand w z (entering k xs t)) (sym (e xs s)) (subst (FramesStand w (entering (kind.Group declaring.Constant) xs s)) (sym (e xs t)) (by xs))
    where
      by : (xs : Parts) → FramesStand w (entering (kind.Group declaring.Constant) xs s) (entering (kind.Group declaring.Constant) xs t)
      by [] = with_iota_stands w (record s { source = None }) (record t { source = None }) 0 0 refl (with_source_stands w s t None None refl st)
      by (x ∷ xs) = with_iota_stands w s t (length (x ∷ xs)) (length (x ∷ xs)) refl st

  constants_go : (xs : Parts) (x : Option Part) (s : Frame) → Sourced w s → Sourced w (entering (kind.Group declaring.Constant) (xs ++ x ∷ []) s)
  constants_go [] x s p = p
  constants_go (y ∷ xs) x s p = p

  constant_row : IsFixedRow w (Sourced w) (kind.Declaration declaring.Constant)
  constant_row = record { enters = constants_enter (kind.Declaration declaring.Constant) (λ xs s. refl); tells = λ h all xs n. refl; begins = λ s r e. cc; goes = constants_go }

  constant_group : IsFixedRow w (Sourced w) (kind.Group declaring.Constant)
  constant_group = record { enters = constants_enter (kind.Group declaring.Constant) (λ xs s. refl); tells = λ h all xs n. refl; begins = λ s r e. cc; goes = constants_go }

  constants_form : IsFixedForm w form.Constants
  constants_form = record { key = refl; name = refl }

  -- ---- a type and values

  values_at : (c d : ℕ) (l : Tree) → IsShaped (category.ExpressionList place.Free) l → Free w (node kind.Values c d (more l none)) → Rested w (node kind.Values c d (more l none))
  values_at c d (node kind.ExpressionList a b ps) e free = values_rested w c d a b place.Free ps (list_expressions place.Free ps e.1) free.1.0.1 free
  values_at c d (node k a b ps) e free = impossible e.0

  typed_at : (c d : ℕ) (t l : Tree) → IsShaped category.Type t → IsShaped (category.ExpressionList place.Free) l → Free w (node kind.TypedValues c d (more t (more l none))) → Rested w (node kind.TypedValues c d (more t (more l none)))
  typed_at c d (node m x y qs) (node kind.ExpressionList a b ps) s e free = typed_rested w c d a b place.Free ps (list_expressions place.Free ps e.1) free.1.1.0.1 (node m x y qs) s s.0 free.1.0 free
  typed_at c d t (node k a b ps) s e free = impossible e.0

  rest_at : (r : Tree) → IsShaped category.ConstantRest r → Free w r → Rested w r
  rest_at (node kind.Values c d none) e free = elim e.1 [ ]
  rest_at (node kind.Values c d (skip ps)) e free = elim e.1 [ ]
  rest_at (node kind.Values c d (more l (more m ps))) e free = elim e.1.1 [ ]
  rest_at (node kind.Values c d (more l (skip ps))) e free = elim e.1.1 [ ]
  rest_at (node kind.Values c d (more l none)) e free = values_at c d l e.1.0 free
  rest_at (node kind.TypedValues c d none) e free = elim e.1 [ ]
  rest_at (node kind.TypedValues c d (skip ps)) e free = elim e.1 [ ]
  rest_at (node kind.TypedValues c d (more t none)) e free = elim e.1.1 [ ]
  rest_at (node kind.TypedValues c d (more t (skip ps))) e free = elim e.1.1 [ ]
  rest_at (node kind.TypedValues c d (more t (more l (more m ps)))) e free = elim e.1.1.1 [ ]
  rest_at (node kind.TypedValues c d (more t (more l (skip ps)))) e free = elim e.1.1.1 [ ]
  rest_at (node kind.TypedValues c d (more t (more l none))) e free = typed_at c d t l e.1.0 e.1.1.0 free
  rest_at (node k c d ps) e free = impossible e.0

  -- ---- a specification of constants

  same_tree : (r q : Tree) → Some r ≡ Some q → r ≡ q
  same_tree r q e = cc

  bare_fixed : (i j a b : ℕ) (ds : Trees) → AreDeclared w ds → Fixed w (Sourced w) (node (kind.Specification declaring.Constant) i j (more (node kind.NameList a b ds) (skip none)))
  bare_fixed i j a b ds named = record {
    reads = λ f g st p. constant_unchanged w i j a b ds (skip none) named f g st (bare_tail w f g st p);
    keeps = λ f p r e.
        let whole : Trees = more (node kind.NameList a b ds) (skip none) in
        p r (sym (closed_source w f i j whole (readings f (kind.Specification declaring.Constant) value whole [] [] whole)) ∙ e);
  }

  rest_fixed : (i j a b : ℕ) (ds : Trees) (q : Tree) → AreDeclared w ds → Rested w q → Fixed w (Sourced w) (node (kind.Specification declaring.Constant) i j (more (node kind.NameList a b ds) (more q none)))
  rest_fixed i j a b ds q named rested = record {
    reads = λ f g st p. constant_unchanged w i j a b ds (more q none) named f g st (rest_tail w f g q st rested);
    keeps = λ f p r e.
        let whole : Trees = more (node kind.NameList a b ds) (more q none) in
        subst (Rested w) (same_tree q r (sym (closed_source w f i j whole (readings f (kind.Specification declaring.Constant) value whole [] [] whole)) ∙ e)) rested;
  }

  module _ (law : ExpressionsTyped) where
    named_fixed : (i j a b : ℕ) (ds rest : Trees) → AreDeclared w ds → AreShaped (Maybe [] category.ConstantRest (End [])) rest → AllFree w rest
        → Fixed w (Sourced w) (node (kind.Specification declaring.Constant) i j (more (node kind.NameList a b ds) rest))
    named_fixed i j a b ds none named e free = elim e [ ]
    named_fixed i j a b ds (skip none) named e free = bare_fixed i j a b ds named
    named_fixed i j a b ds (skip (more q ps)) named e free = elim e [ ]
    named_fixed i j a b ds (skip (skip ps)) named e free = elim e [ ]
    named_fixed i j a b ds (more q (more r ps)) named e free = elim e.1 [ ]
    named_fixed i j a b ds (more q (skip ps)) named e free = elim e.1 [ ]
    named_fixed i j a b ds (more q none) named e free = rest_fixed i j a b ds q named (rest_at q e.0 free.0)

    constant_specification : (i j : ℕ) (ps : Trees) → AreShaped (rule place.Free (kind.Specification declaring.Constant)) ps → AllFree w ps → AllDeclare w ps → Fixed w (Sourced w) (node (kind.Specification declaring.Constant) i j ps)
    constant_specification i j none e free dec = elim e [ ]
    constant_specification i j (skip ps) e free dec = elim e [ ]
    constant_specification i j (more (node kind.NameList a b ds) rest) e free dec = named_fixed i j a b ds rest (list_declared w law place.Free ds e.0.1 dec.0.1) e.1 free.1
    constant_specification i j (more (node k a b ds) rest) e free dec = impossible e.0.0

    constant_specifications : (ws : List TokenKind) (ps : Trees) → AreShaped (Many ws (Lines false (category.Specification declaring.Constant) token.Semicolon token.RightParenthesis)) ps → AllFree w ps → AllDeclare w ps
        → AllFixed w (Sourced w) ps
    constant_specifications ws none e free dec = tt
    constant_specifications ws (skip ps) e free dec = elim e [ ]
    constant_specifications ws (more (node (kind.Specification declaring.Constant) i j qs) ps) e free dec = (constant_specification i j qs e.0.1 free.0.1 dec.0.1, constant_specifications ws ps e.1 free.1 dec.1)
    constant_specifications ws (more (node k i j qs) ps) e free dec = impossible e.0.0

    constants_with : (i j : ℕ) (p : Tree) → Fixed w (Sourced w) p → Stated w (node (kind.Declaration declaring.Constant) i j (more p none))
    constants_with i j p fixed = declaration_stated w (Sourced w) (λ f s e. e) declaring.Constant constant_row form.Constants constants_form refl (λ s i xs. refl) (λ xs. refl) i j p fixed

    -- A declaration of constants.
    pub constants_stated : (i j : ℕ) (ps : Trees) → AreShaped (rule place.Free (kind.Declaration declaring.Constant)) ps → AllFree w ps → AllDeclare w ps → Stated w (node (kind.Declaration declaring.Constant) i j ps)
    constants_stated i j none e free dec = elim e [ ]
    constants_stated i j (skip ps) e free dec = elim e [ ]
    constants_stated i j (more p (more q ps)) e free dec = elim e.1 [ ]
    constants_stated i j (more p (skip ps)) e free dec = elim e.1 [ ]
    constants_stated i j (more (node (kind.Specification declaring.Constant) a b qs) none) e free dec = constants_with i j (node (kind.Specification declaring.Constant) a b qs) (constant_specification a b qs e.0.1 free.0.1 dec.0.1)
    constants_stated i j (more (node (kind.Group declaring.Constant) a b qs) none) e free dec =
        constants_with i j (node (kind.Group declaring.Constant) a b qs)
        (group_fixed w (Sourced w) (λ f s e. e) declaring.Constant constant_group a b qs (constant_specifications (token.LeftParenthesis ∷ []) qs e.0.1 free.0.1 dec.0.1))
    constants_stated i j (more (node k a b qs) none) e free dec = impossible e.0.0
