-- The types and values of constants, in which no variable stands: a later specification may repeat them.
use Rattle.std.proofs.Common.{◌≡◌, ◌∙◌, ℕ, true, [], ◌∷◌, ◌++◌, Option, Some, None, refl, sym, ap, subst, append-nil}
use Rattle.go_grammar.specs.declared.kind.Category.TheVariants as category
use Rattle.go_grammar.specs.declared.kind.Kind.TheVariants as kind
use Rattle.go_grammar.specs.declared.kind.Level.TheVariants as level
use Rattle.go_grammar.specs.declared.kind.Place.{Place}
use Rattle.go_grammar.specs.Categories as categories
use Rattle.go_grammar.specs.Grammar.{any}
use Rattle.go_grammar.specs.Trees.{Tree, Trees, node, none, more, skip, kind_of}
use Rattle.go_typed.specs.declared.form.Form.TheVariants as form
use Rattle.go_typed.specs.Trees.{list_of, row}
use Rattle.go_typed.specs.Trees as sort
use Rattle.go_exprs_rules.specs.Scopes.{Hint, value, type_place}
use Rattle.go_exprs_rules.specs.Settling.{Part}
use Rattle.go_exprs_rules.specs.Tables.{Parts, all_held, cut, first_cut, made}
use Rattle.go_exprs_rules.specs.Typing.{typing, faults}
use Rattle.go_stmts_defs.specs.Frames.{Frame, scope_of}
use Rattle.go_stmts_defs.specs.Laying.{behind_names, typed_or_not}
use Rattle.go_stmts_defs.specs.Reading.{read, holding, holdings, held_faults, all_held_faults, reading}
use Rattle.go_exprs_variables.specs.Shapes.{IsShaped}
use Rattle.go_exprs_variables.specs.Variables.{Standins, with_variables, Free, AllFree}
use Rattle.go_exprs_variables.proofs.Public.{each, expression_operand, same_tree, still_free, typing_agrees, typing_clear}
use Rattle.go_stmts_variables.specs.Frames.{FramesStand}
use Rattle.go_stmts_variables.proofs.Declared.{free_typed, free_faults, plain_type, typed_form, a_type}
use Rattle.go_stmts_variables.proofs.Expressions.{holding_plain, faults_plain, value_form}
use Rattle.go_stmts_variables.proofs.Lists.{AreExpressions, expression_operands, values_of, faults_of, list_row, list_held, list_faults, list_parts}
use Rattle.go_stmts_variables.proofs.Names.{AllFresh}
use Rattle.go_stmts_variables.proofs.Specifications.{values_laid, typed_laid, unheld_row}
use Rattle.go_stmts_variables.proofs.Unchanged.{AllStill, still_cut}

module _ (w : Standins) where
  -- What is written behind the names of a specification of constants is read the same where it stands, and where it is repeated.
  pub record Rested (r : Tree) : Type 0 where
    pub same : Frame → with_variables w r ≡ r
    pub reads : (s : Frame) → reading s (behind_names (kind_of r) value) r ≡ read (holding s value r) (held_faults s value r) s
    pub holds : (f g : Frame) → FramesStand w f g → holding g value r ≡ holding f value r
    pub found : (f g : Frame) → FramesStand w f g → held_faults g value r ≡ held_faults f value r
    pub still : (f : Frame) → AllStill w (first_cut (typed_or_not (Some (holding f value r))))
    pub fresh : (f : Frame) → AllFresh w (first_cut (typed_or_not (Some (holding f value r))))

  tree_same : (s : Frame) (h : Hint) (x : Tree) → Free w x → with_variables w x ≡ x
  tree_same s h x free = same_tree w x (still_free w (scope_of s) h x free).0

  -- ---- values

  module _ (f g : Frame) (st : FramesStand w f g) where
    one_value : (h : Hint) (x : Tree) → Free w x → typing (scope_of g) h x ≡ typing (scope_of f) h x
    one_value h x free = ap (typing (scope_of g) h) (sym (tree_same f h x free)) ∙ free_typed w f g st h x free

    one_found : (h : Hint) (x : Tree) → Free w x → faults (scope_of g) h x ≡ faults (scope_of f) h x
    one_found h x free = ap (faults (scope_of g) h) (sym (tree_same f h x free)) ∙ free_faults w f g st h x free

    values_same : (ps : Trees) → AllFree w ps → values_of (scope_of g) value ps ≡ values_of (scope_of f) value ps
    values_same none free = refl
    values_same (more q ps) free = ap (λ x. x ∷ values_of (scope_of g) value ps) (one_value value q free.0) ∙ ap (λ xs. typing (scope_of f) value q ∷ xs) (values_same ps free.1)
    values_same (skip ps) free = values_same ps free

    values_found : (ps : Trees) → AllFree w ps → faults_of (scope_of g) value ps ≡ faults_of (scope_of f) value ps
    values_found none free = refl
    values_found (more q ps) free = ap (λ x. x ++ faults_of (scope_of g) value ps) (one_found value q free.0) ∙ ap (λ xs. faults (scope_of f) value q ++ xs) (values_found ps free.1)
    values_found (skip ps) free = values_found ps free

    list_same : (p : Place) (ps : Trees) → AreExpressions p ps → AllFree w ps → holdings g kind.ExpressionList value ps [] ps ≡ holdings f kind.ExpressionList value ps [] ps
    list_same p ps shape free =
        let ops = expression_operands p ps shape in list_held w g value ps [] ps ops ∙ ap each (values_same ps free) ∙ sym (list_held w f value ps [] ps ops)

    list_found : (p : Place) (ps : Trees) → AreExpressions p ps → AllFree w ps → all_held_faults g kind.ExpressionList value ps [] ps ≡ all_held_faults f kind.ExpressionList value ps [] ps
    list_found p ps shape free =
        let ops = expression_operands p ps shape in list_faults w g value ps [] ps ops ∙ values_found ps free ∙ sym (list_faults w f value ps [] ps ops)

  values_still : (s : Frame) (p : Place) (ps : Trees) → AreExpressions p ps → AllFree w ps → AllStill w (each (values_of (scope_of s) value ps))
  values_still s p none shape free = tt
  values_still s p (skip ps) shape free = elim shape [ ]
  values_still s p (more q ps) shape free =
      (record { agrees = typing_agrees (scope_of s) value (any p) q shape.0; clear = typing_clear w (scope_of s) value q free.0 }, values_still s p ps shape.1 free.1)

  values_fresh : (s : Frame) (p : Place) (ps : Trees) → AreExpressions p ps → AllFresh w (each (values_of (scope_of s) value ps))
  values_fresh s p none shape = tt
  values_fresh s p (skip ps) shape = elim shape [ ]
  values_fresh s p (more q ps) shape =
      ((λ n e. let never : None ≡ Some n = sym (value_form w (scope_of s) value q (expression_operand level.Either p q shape.0) refl) ∙ e in cc), values_fresh s p ps shape.1)

  abbrev list_at : Frame → Trees → Parts
  list_at s ps = holdings s kind.ExpressionList value ps [] ps

  abbrev list_node_of : ℕ → ℕ → Parts → Part
  list_node_of e k xs = made (form.Held kind.ExpressionList) e k sort.Nothing xs xs

  module _ (c d e k : ℕ) (p : Place) (ps : Trees) (shape : AreExpressions p ps) (free : AllFree w ps) where
    abbrev values_row : Parts → Parts
    values_row xs = all_held (Some (list_node_of e k xs) ∷ [])

    row_values : (s : Frame) → list_of (row (values_row (list_at s ps))) ≡ each (values_of (scope_of s) value ps)
    row_values s = list_row (values_row (list_at s ps)) ∙ append-nil (list_of (row (list_at s ps))) ∙ list_parts w s value ps (expression_operands p ps shape)

    laid_values : (s : Frame) → first_cut (typed_or_not (Some (holding s value (node kind.Values c d (more (node kind.ExpressionList e k ps) none))))) ≡ None ∷ each (values_of (scope_of s) value ps)
    laid_values s = values_laid w c d (values_row (list_at s ps)) (each (values_of (scope_of s) value ps)) (row_values s)

    -- values alone
    pub values_rested : Free w (node kind.Values c d (more (node kind.ExpressionList e k ps) none)) → Rested (node kind.Values c d (more (node kind.ExpressionList e k ps) none))
    values_rested whole = record {
      same = λ s. tree_same s value (node kind.Values c d (more (node kind.ExpressionList e k ps) none)) whole;
      reads = λ s. refl;
      holds = λ f g st. ap (λ xs. made (form.Held kind.Values) c d sort.Nothing (values_row xs) (values_row xs)) (list_same f g st p ps shape free);
      found = λ f g st. ap (λ gs. gs ++ []) (list_found f g st p ps shape free);
      still = λ s. subst (AllStill w) (sym (laid_values s)) (values_still s p ps shape free);
      fresh = λ s. subst (AllFresh w) (sym (laid_values s)) (values_fresh s p ps shape);
    }

    -- a type and values
    module _ (t : Tree) (it : IsShaped category.Type t) (is : categories.is_type (kind_of t) ≡ true) (free_type : Free w t) where
      held_type : (s : Frame) (t : Tree) → categories.is_type (kind_of t) ≡ true → holding s type_place t ≡ typing (scope_of s) type_place t
      held_type s (node l m n qs) is = holding_plain s type_place l m n qs (plain_type w l is)

      type_found : (s : Frame) (t : Tree) → categories.is_type (kind_of t) ≡ true → held_faults s type_place t ≡ faults (scope_of s) type_place t
      type_found s (node l m n qs) is = faults_plain s type_place l m n qs (plain_type w l is)

      abbrev typed_row : Part → Parts → Parts
      typed_row x xs = all_held (Some x ∷ Some (list_node_of e k xs) ∷ [])

      abbrev typed_node : Part → Parts → Part
      typed_node x xs = made (form.Held kind.TypedValues) c d sort.Nothing (typed_row x xs) (typed_row x xs)

      abbrev type_at : Frame → Part
      type_at s = typing (scope_of s) type_place t

      node_is : (s : Frame) → holding s value (node kind.TypedValues c d (more t (more (node kind.ExpressionList e k ps) none))) ≡ typed_node (type_at s) (list_at s ps)
      node_is s = ap (λ x. typed_node x (list_at s ps)) (held_type s t is)

      found_is : (s : Frame) → held_faults s value (node kind.TypedValues c d (more t (more (node kind.ExpressionList e k ps) none)))
          ≡ faults (scope_of s) type_place t ++ (all_held_faults s kind.ExpressionList value ps [] ps ++ [])
      found_is s = ap (λ gs. gs ++ (all_held_faults s kind.ExpressionList value ps [] ps ++ [])) (type_found s t is)

      laid_typed : (s : Frame) → first_cut (typed_or_not (Some (holding s value (node kind.TypedValues c d (more t (more (node kind.ExpressionList e k ps) none)))))) ≡ cut (Some (type_at s)) ∷ each (values_of (scope_of s) value ps)
      laid_typed s =
          ap (λ x. first_cut (typed_or_not (Some x))) (node_is s)
          ∙ typed_laid w c d (typed_row (type_at s) (list_at s ps)) (Some (type_at s) ∷ each (values_of (scope_of s) value ps))
          (list_row (typed_row (type_at s) (list_at s ps)) ∙ unheld_row w (type_at s) (list_of (row (list_at s ps)) ++ []) (typed_form w (scope_of s) t is).held
          ∙ ap (λ zs. Some (type_at s) ∷ zs) (append-nil (list_of (row (list_at s ps))) ∙ list_parts w s value ps (expression_operands p ps shape)))

      cut_fresh : (o : Option Part) (ys : Parts) → AllFresh w (o ∷ []) → AllFresh w ys → AllFresh w (o ∷ ys)
      cut_fresh None ys a b = b
      cut_fresh (Some x) ys a b = (a.0, b)

      pub typed_rested : Free w (node kind.TypedValues c d (more t (more (node kind.ExpressionList e k ps) none))) → Rested (node kind.TypedValues c d (more t (more (node kind.ExpressionList e k ps) none)))
      typed_rested whole = record {
        same = λ s. tree_same s value (node kind.TypedValues c d (more t (more (node kind.ExpressionList e k ps) none))) whole;
        reads = λ s. refl;
        holds = λ f g st. node_is g ∙ ap (λ x. typed_node x (list_at g ps)) (one_value f g st type_place t free_type) ∙ ap (typed_node (type_at f)) (list_same f g st p ps shape free) ∙ sym (node_is f);
        found = λ f g st. found_is g ∙ ap (λ gs. gs ++ (all_held_faults g kind.ExpressionList value ps [] ps ++ [])) (one_found f g st type_place t free_type)
            ∙ ap (λ gs. faults (scope_of f) type_place t ++ (gs ++ [])) (list_found f g st p ps shape free) ∙ sym (found_is f);
        still = λ s. subst (AllStill w) (sym (laid_typed s))
            (still_cut w (Some (type_at s)) (each (values_of (scope_of s) value ps))
            (record { agrees = typing_agrees (scope_of s) type_place category.Type t it; clear = typing_clear w (scope_of s) type_place t free_type }, values_still s p ps shape free));
        fresh = λ s. subst (AllFresh w) (sym (laid_typed s)) (cut_fresh (cut (Some (type_at s))) (each (values_of (scope_of s) value ps)) (a_type w s t it is free_type).fresh (values_fresh s p ps shape));
      }
