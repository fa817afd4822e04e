-- Assignments with variables in them.
use Rattle.std.proofs.Common.{◌≡◌, ◌∙◌, ◌⊎◌, inl, inr, ℕ, Bool, true, false, List, [], ◌∷◌, ◌++◌, length, map, Option, Some, None, refl, sym, ap, subst, append-nil}
use Rattle.std.specs.Prelude.{◌||◌}
use Rattle.go_base.specs.declared.fault.FaultCode.TheVariants as code
use Rattle.go_grammar.specs.declared.kind.Kind.TheVariants as kind
use Rattle.go_grammar.specs.declared.kind.Level.TheVariants as level
use Rattle.go_grammar.specs.declared.kind.Place.{Place}
use Rattle.go_grammar.specs.Grammar.{any}
use Rattle.go_grammar.specs.Trees.{Tree, Trees, node, none, more, skip}
use Rattle.go_types.specs.Trees.{TypeTree}
use Rattle.go_types.specs.Relations.{Rights}
use Rattle.go_typed.specs.declared.form.Form.TheVariants as form
use Rattle.go_typed.specs.Trees.{sort_of, row, list_of}
use Rattle.go_typed.specs.Trees as sort
use Rattle.go_exprs_rules.specs.Names.{is_blank}
use Rattle.go_exprs_rules.specs.Scopes.{Scope, Hint, several, target}
use Rattle.go_exprs_rules.specs.Settling.{Part, stay}
use Rattle.go_exprs_rules.specs.Sorts.{Stands, is_open, is_unknown, open_kind, own_type}
use Rattle.go_exprs_rules.specs.Tables.{Parts, held, all_held, made}
use Rattle.go_exprs_rules.specs.Typing.{typing}
use Rattle.go_stmts_defs.specs.Assigning.{Wanted, Taking, rests, assignment_failing, values_take}
use Rattle.go_stmts_defs.specs.Frames.{Frame, rights_of, scope_of}
use Rattle.go_stmts_defs.specs.Reading.{Found, list_node, holdings, all_held_faults, reading, readings}
use Rattle.go_stmts_defs.specs.Rules.{not_a_target, target_type, assign_failing, assign_takes, split_at, rest, all_given, taking}
use Rattle.go_stmts_defs.specs.Rules as rules
use Rattle.go_stmts_defs.specs.Targets.{is_variable, is_target}
use Rattle.go_exprs_variables.specs.Shapes.{IsShaped}
use Rattle.go_exprs_variables.specs.Stood.{Stood, as_before, in_place, early}
use Rattle.go_exprs_variables.specs.Variables.{Standins, is_naming, all_with_variables, AllProper, begun, Fits, AllFit, no_rule_fails, ExpressionsTyped}
use Rattle.go_exprs_variables.specs.Variables as variables
use Rattle.go_exprs_variables.proofs.Public.{All, all_new, all_of, both_none, each, expression_operand, length_new, news, news_each, none_of_both, of_all, passed, passes, typed_operand}
use Rattle.go_stmts_variables.specs.Frames.{FramesStand}
use Rattle.go_stmts_variables.specs.Statements.{tree_in, found_in}
use Rattle.go_stmts_variables.proofs.Splits.{length_each, split_two, values_take_all, values_take_new}
use Rattle.go_stmts_variables.proofs.Expressions.{Will, will, IsValuePart, all_ready}
use Rattle.go_stmts_variables.proofs.Frames.{back_stands, variables_typed}
use Rattle.go_stmts_variables.proofs.Lists.{AreExpressions, expression_operands, values_of, list_row, list_parts, list_values, list_reads}
use Rattle.go_stmts_variables.proofs.Nodes.{Reads, Old, old_rules, old_fits, rule_of, own_none, node_reads, judged}
use Rattle.go_stmts_variables.proofs.Puts.{Put, AllTake, IsStatementForm, fitting_put, value_put, puts_rest, node_put, fits_put}
use Rattle.go_stmts_variables.proofs.Returns.{takes_known}
use Rattle.go_stmts_variables.proofs.Rows.{news_two, Stated, stated_by}
use Rattle.go_stmts_variables.proofs.Targets.{own_put, variable_put, variable_closed}
use Rattle.go_stmts_variables.proofs.Values.{values_kept}
use Rattle.go_stmts_variables.proofs.Wills.{all_will, all_operands, assignment_gives}

module _ (w : Standins) where
  -- ---- left sides

  blank_closed : (z : Stands) → is_blank z ≡ true → is_open z ≡ false
  blank_closed sort.Blank e = refl
  blank_closed z e = cc

  unknown_closed : (z : Stands) → is_unknown z ≡ true → is_open z ≡ false
  unknown_closed sort.Unknown e = refl
  unknown_closed z e = cc

  pub target_closed : (rights : Rights) (s : Scope) (b c d : Bool) (z : Stands) → is_blank z ≡ b → is_unknown z ≡ c → (d ≡ true → is_open z ≡ false) → ((b || c) || d) ≡ true → is_open z ≡ false
  target_closed rights s true c d z m n f e = blank_closed z m
  target_closed rights s false true d z m n f e = unknown_closed z n
  target_closed rights s false false d z m n f e = f e

  abbrev pub AllClosed : List Part → Type 0
  AllClosed [] = Unit {0}
  AllClosed (x ∷ xs) = (is_open (sort_of x) ≡ false) × AllClosed xs

  -- by whatever right sides they are judged
  module _ (f g : Frame) (st : FramesStand w f g) (rights : Rights) where
    pub one_closed : (h : Hint) (p : Place) (x : Tree) → IsShaped (any p) x → is_naming h ≡ false → is_target rights (typing (scope_of f) h x) ≡ true → is_open (sort_of (typing (scope_of f) h x)) ≡ false
    one_closed h p x shape n e =
        let y = typing (scope_of f) h x in
        target_closed rights (scope_of f) (is_blank (sort_of y)) (is_unknown (sort_of y)) (is_variable rights y) (sort_of y) refl refl
        (λ v. variable_closed rights (scope_of f) (variables_typed w f g st) h (any p) x shape (expression_operand level.Either p x shape) n v) e

    pub targets_will : (p : Place) (ps : Trees) → AreExpressions p ps → rules.each (not_a_target rights) (values_of (scope_of f) target ps) ≡ [] → All (Fits w false) (values_of (scope_of f) target ps)
        → All (Will w (rights_of f)) (values_of (scope_of f) target ps)
    targets_will p none shape e fits = tt
    targets_will p (skip ps) shape e fits = elim shape [ ]
    targets_will p (more q ps) shape e fits =
        let y = typing (scope_of f) target q in
        let both = both_none (not_a_target rights y) (rules.each (not_a_target rights) (values_of (scope_of f) target ps)) e in
        (will (variables.has (one_closed target p q shape.0 refl (passes (is_target rights y) [] code.LeftSide y both.0).0) fits.0), targets_will p ps shape.1 both.1 fits.1)

    pub targets_closed : (p : Place) (ps : Trees) → AreExpressions p ps → rules.each (not_a_target rights) (values_of (scope_of f) target ps) ≡ [] → AllClosed (values_of (scope_of f) target ps)
    targets_closed p none shape e = tt
    targets_closed p (skip ps) shape e = elim shape [ ]
    targets_closed p (more q ps) shape e =
        let y = typing (scope_of f) target q in
        let both = both_none (not_a_target rights y) (rules.each (not_a_target rights) (values_of (scope_of f) target ps)) e in
        (one_closed target p q shape.0 refl (passes (is_target rights y) [] code.LeftSide y both.0).0, targets_closed p ps shape.1 both.1)

  -- ---- a left side with variables in it

  blank_kept : (o : Option TypeTree) (a b : Stands) → Stood [] o a b → is_blank a ≡ true → is_blank b ≡ true
  blank_kept o a b (as_before v c) e = e
  blank_kept o a b (in_place v t c) e = cc
  blank_kept o a b (early t c k m n) e = never c m e
    where
      never : {X : Type 0} (z : Stands) → open_kind z ≡ Some k → is_blank z ≡ true → X
      never sort.Blank m e = cc
      never z m e = cc

  either : (b c d : Bool) → ((b || c) || d) ≡ true → c ≡ false → (b ≡ true) ⊎ (d ≡ true)
  either true c d e n = inl refl
  either false true d e n = cc
  either false false d e n = inr e

  or_first : (b c d : Bool) → b ≡ true → ((b || c) || d) ≡ true
  or_first b c d e = ap (λ z. (z || c) || d) e

  or_third : (b c d : Bool) → d ≡ true → ((b || c) || d) ≡ true
  or_third true c d e = refl
  or_third false true d e = refl
  or_third false false d e = e

  pub target_new : (rights : Rights) (x : Part) → IsValuePart w x → is_open (sort_of x) ≡ false → Fits w false x → is_target rights x ≡ true → is_target rights (begun w false x) ≡ true
  target_new rights x v o fits e = by (either (is_blank (sort_of x)) (is_unknown (sort_of x)) (is_variable rights x) e v.ready.known)
    where
      by : (is_blank (sort_of x) ≡ true) ⊎ (is_variable rights x ≡ true) → is_target rights (begun w false x) ≡ true
      by (inl m) = or_first (is_blank (sort_of (begun w false x))) (is_unknown (sort_of (begun w false x))) (is_variable rights (begun w false x))
          (blank_kept None (sort_of x) (sort_of (begun w false x)) (typed_operand [] w None false x v.ready.keys v.ready.held o fits).stands m)
      by (inr m) =
          or_third (is_blank (sort_of (begun w false x))) (is_unknown (sort_of (begun w false x))) (is_variable rights (begun w false x))
          (ap (is_variable rights) (fitting_put w x v.ready.held fits) ∙ variable_put rights w false x v.ready.keys.1 fits m)

  pub type_new : (rights : Rights) (x : Part) → IsValuePart w x → Fits w false x → target_type (begun w false x) ≡ target_type x
  type_new rights x v fits = ap (λ y. own_type (sort_of y)) (fitting_put w x v.ready.held fits) ∙ own_put rights w false x v.ready.keys.1 fits

  types_new : (rights : Rights) (xs : List Part) → All (IsValuePart w) xs → All (Fits w false) xs → map target_type (all_new w xs) ≡ map target_type xs
  types_new rights [] v fits = refl
  types_new rights (x ∷ xs) v fits = ap (λ o. o ∷ map target_type (all_new w xs)) (type_new rights x v.0 fits.0) ∙ ap (λ os. target_type x ∷ os) (types_new rights xs v.1 fits.1)

  targets_new : (rights : Rights) (xs : List Part) → All (IsValuePart w) xs → AllClosed xs → All (Fits w false) xs → rules.each (not_a_target rights) xs ≡ [] → rules.each (not_a_target rights) (all_new w xs) ≡ []
  targets_new rights [] v o fits e = refl
  targets_new rights (x ∷ xs) v o fits e =
      let both = both_none (not_a_target rights x) (rules.each (not_a_target rights) xs) e in
      none_of_both (not_a_target rights (begun w false x)) (rules.each (not_a_target rights) (all_new w xs))
      (passed (is_target rights (begun w false x)) [] code.LeftSide (begun w false x) (target_new rights x v.0 o.0 fits.0 (passes (is_target rights x) [] code.LeftSide x both.0).0) refl) (targets_new rights xs v.1 o.1 fits.1 both.1)

  pub targets_put : (xs : List Part) → All (IsValuePart w) xs → All (Fits w false) xs → All (Put w rests) xs
  targets_put [] v fits = tt
  targets_put (x ∷ xs) v fits = (value_put w stay x v.0.ready fits.0, targets_put xs v.1 fits.1)

  pub fits_front : (xs : List Part) (ks : List Taking) (ys : Parts) → AllFit w false (row (all_given (rest (length xs) ++ ks) (each xs ++ ys))) → All (Fits w false) xs × AllFit w false (row (all_given ks ys))
  fits_front [] ks ys fits = (tt, fits)
  fits_front (x ∷ xs) ks ys fits = let both = fits_front xs ks ys fits.1 in ((fits.0, both.0), both.1)

  rest_take : (n : List Part) (ks : List Taking) → AllTake w ks → AllTake w (rest (length n) ++ ks)
  rest_take [] ks t = t
  rest_take (x ∷ n) ks t = rest_take n ks t

  -- ---- the statement

  assign_form : (n : ℕ) → IsStatementForm w (form.Assign n)
  assign_form n = record { held = refl; key = refl; call = refl; name = λ z. refl }

  module _ (f g : Frame) (h : Hint) (i j a b c d e k : ℕ) (p : Place) (qs ps whole : Trees) (whole_is : whole ≡ more (node kind.Targets a b (more (node kind.ExpressionList c d qs) none)) (more (node kind.ExpressionList e k ps) none))
      (left : AreExpressions p qs) (shape : AreExpressions p ps) (st : FramesStand w f g) where
    abbrev vs : List Part
    vs = list_values w f several ps

    abbrev ns : List Part
    ns = list_values w f target qs

    abbrev ts : Wanted
    ts = map target_type ns

    abbrev targets_node : Frame → Trees → Part
    targets_node f qs = list_node f kind.Targets a b (all_held (Some (list_node f kind.ExpressionList c d (holdings f kind.ExpressionList target qs [] qs)) ∷ []))

    abbrev values_node : Frame → Trees → Part
    values_node f ps = list_node f kind.ExpressionList e k (holdings f kind.ExpressionList several ps [] ps)

    targets_are : (f : Frame) (qs : Trees) (zs : Parts) → list_of (row (holdings f kind.ExpressionList target qs [] qs)) ≡ zs → held (Some (targets_node f qs)) ≡ zs
    targets_are f qs zs m = list_row (all_held (Some (list_node f kind.ExpressionList c d (holdings f kind.ExpressionList target qs [] qs)) ∷ [])) ∙ append-nil (list_of (row (holdings f kind.ExpressionList target qs [] qs))) ∙ m

    abbrev found_of : Frame → Trees → Trees → Found
    found_of f qs ps = (all_held_faults f kind.ExpressionList target qs [] qs ++ []) ++ all_held_faults f kind.ExpressionList several ps [] ps

    old_targets : held (Some (targets_node f qs)) ≡ each ns
    old_targets = targets_are f qs (each ns) (list_parts w f target qs (expression_operands p qs left))

    assign_old : Old w f h kind.Assignment i j whole
    assign_old = record {
      parts = Some (targets_node f qs) ∷ Some (values_node f ps) ∷ [];
      found = found_of f qs ps;
      behind = f;
      form = form.Assign (length ns);
      laid = each ns ++ each vs;
      is = ap (λ z. readings f kind.Assignment h z [] [] z) whole_is;
      laid_is = ap (λ z. z ++ (held (Some (values_node f ps)) ++ [])) old_targets ∙ ap (λ z. each ns ++ z) (append-nil (held (Some (values_node f ps))) ∙ list_parts w f several ps (expression_operands p ps shape));
      form_is = ap (λ z. form.Assign (length z)) old_targets ∙ ap form.Assign (length_each ns);
    }

    new_row : news w (each ns ++ each vs) ≡ each (all_new w ns) ++ each (all_new w vs)
    new_row = news_two w (each ns) (each vs) ∙ ap (λ z. z ++ news w (each vs)) (news_each w ns) ∙ ap (λ z. each (all_new w ns) ++ z) (news_each w vs)

    split_new : {A : Type 0} (F : List Part → List Part → A) → split_at (length ns) F (news w (each ns ++ each vs)) ≡ F (all_new w ns) (all_new w vs)
    split_new F = ap (split_at (length ns) F) new_row ∙ ap (λ n. split_at n F (each (all_new w ns) ++ each (all_new w vs))) (sym (length_new w ns)) ∙ split_two F (all_new w ns) (all_new w vs)

    pub assign_reads : ExpressionsTyped → AllProper w qs → AllProper w ps → no_rule_fails (found_in (reading f h (node kind.Assignment i j whole))) ≡ true
        → Fits w false (tree_in (reading f h (node kind.Assignment i j whole)))
        → Reads w f g h (node kind.Assignment i j whole)
    unfolding assign_old
    assign_reads law pq pp good fits =
        let ks : List Taking = values_take ts vs in
        let ys : Parts = each ns ++ each vs in
        let own = old_rules w f h kind.Assignment i j whole refl assign_old good in
        let all = subst (λ z. AllFit w false (row (all_given z ys))) (split_two assign_takes ns vs) (old_fits w f h kind.Assignment i j whole refl assign_old own.1 fits) in
        let takes_all = rest_take ns ks (values_take_all w ts vs) in
        let known = judged w (rest (length ns) ++ ks) ys (takes_known w (rest (length ns) ++ ks) ys takes_all) all in
        let fails : assign_failing (rights_of f) i j ns vs ≡ [] = sym (split_two (assign_failing (rights_of f) i j) ns vs)
        ∙ rule_of w f h kind.Assignment i j whole refl f (form.Assign (length ns)) ys known own.1 in
        let two = both_none (rules.each (not_a_target (rights_of f)) ns) (assignment_failing (rights_of f) i j ts vs) fails in
        let front = fits_front ns ks (each vs) all in
        let gives = assignment_gives w (rights_of f) i j ts vs two.1 front.1 in
        let found = all_of (all_held_faults f kind.ExpressionList target qs [] qs ++ []) (all_held_faults f kind.ExpressionList several ps [] ps) own.0 in
        let left_found = sym (ap no_rule_fails (append-nil (all_held_faults f kind.ExpressionList target qs [] qs))) ∙ found.0 in
        let l = list_reads w law f g target p qs left refl st pq left_found (targets_will f g st (rights_of f) p qs left two.0 front.0) in
        let r = list_reads w law f g several p ps shape refl st pp found.1 (all_will w (rights_of f) ts vs gives) in
        let ops = all_operands w (rights_of f) ts vs r.values gives in
        let types = types_new (rights_of f) ns l.values front.0 in
        let closed = targets_closed f g st (rights_of f) p qs left two.0 in
        let now : assign_failing (rights_of g) i j (all_new w ns) (all_new w vs) ≡ [] =
        ap (λ q. assign_failing q i j (all_new w ns) (all_new w vs)) st.rights
        ∙ none_of_both (rules.each (not_a_target (rights_of f)) (all_new w ns)) (assignment_failing (rights_of f) i j (map target_type (all_new w ns)) (all_new w vs)) (targets_new (rights_of f) ns l.values closed front.0 two.0)
        (ap (λ z. assignment_failing (rights_of f) i j z (all_new w vs)) types ∙ values_kept (rights_of f) i j ts vs (all_new w vs) ops two.1) in
        let taking_new : taking g kind.Assignment (form.Assign (length ns)) (news w ys) ≡ rest (length ns) ++ ks =
        split_new assign_takes ∙ ap (λ n. rest n ++ values_take (map target_type (all_new w ns)) (all_new w vs)) (length_new w ns) ∙ ap (λ z. rest (length ns) ++ values_take z (all_new w vs)) types
        ∙ ap (λ z. rest (length ns) ++ z) (values_take_new w ts vs) in
        node_reads w f g h kind.Assignment i j whole assign_old refl refl own.1
        (record {
          parts = Some (targets_node g (all_with_variables w qs)) ∷ Some (values_node g (all_with_variables w ps)) ∷ [];
          found = found_of g (all_with_variables w qs) (all_with_variables w ps);
          behind = g;
          is = ap (λ z. readings g kind.Assignment h (all_with_variables w z) [] [] (all_with_variables w z)) whole_is;
          laid_is = ap (λ z. z ++ (held (Some (values_node g (all_with_variables w ps))) ++ [])) (targets_are g (all_with_variables w qs) (each (all_new w ns)) l.parts)
              ∙ ap (λ z. each (all_new w ns) ++ z) (append-nil (held (Some (values_node g (all_with_variables w ps)))) ∙ r.parts) ∙ sym new_row;
          form_is = ap (λ z. form.Assign (length z)) (targets_are g (all_with_variables w qs) (each (all_new w ns)) l.parts) ∙ ap form.Assign (length_each (all_new w ns) ∙ length_new w ns);
          good = of_all (all_held_faults g kind.ExpressionList target (all_with_variables w qs) [] (all_with_variables w qs) ++ []) (all_held_faults g kind.ExpressionList several (all_with_variables w ps) [] (all_with_variables w ps))
              (ap no_rule_fails (append-nil (all_held_faults g kind.ExpressionList target (all_with_variables w qs) [] (all_with_variables w qs))) ∙ l.good) r.good;
          rule = own_none w g h kind.Assignment i j (all_with_variables w whole) refl g
              (form.Assign (length ns)) (news w ys) (split_new (assign_failing (rights_of g) i j) ∙ now);
          node = ap (λ z. made (form.Assign (length ns)) i j sort.Nothing (news w ys) (all_given z (news w ys))) taking_new
              ∙ node_put w (form.Assign (length ns)) i j (rest (length ns) ++ ks) ys (assign_form (length ns)) (puts_rest w ns ks (each vs) (targets_put ns l.values front.0)
              (fits_put w ks vs (values_take_all w ts vs) (all_ready w vs r.values) front.1))
              ∙ ap (λ z. begun w false (made (form.Assign (length ns)) i j sort.Nothing ys (all_given z ys))) (sym (split_two assign_takes ns vs));
          frame = back_stands w f g f g st st;
          calm = tt;
        })

  -- The statement, by its parts.
  pub assign_row : (i j a b c d e k : ℕ) (p : Place) (qs ps whole : Trees) → whole ≡ more (node kind.Targets a b (more (node kind.ExpressionList c d qs) none)) (more (node kind.ExpressionList e k ps) none)
      → AreExpressions p qs → AreExpressions p ps → ExpressionsTyped → AllProper w qs → AllProper w ps → Stated w (node kind.Assignment i j whole)
  assign_row i j a b c d e k p qs ps whole is left shape law pq pp =
      stated_by w (node kind.Assignment i j whole) refl (λ f g h st good fits. assign_reads f g h i j a b c d e k p qs ps whole is left shape st law pq pp good fits)
