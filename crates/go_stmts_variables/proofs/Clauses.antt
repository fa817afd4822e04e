-- Clauses of switches with variables in them.
use Rattle.std.proofs.Common.{◌≡◌, ◌∙◌, ℕ, true, false, List, [], ◌∷◌, ◌++◌, length, Some, None, refl, sym, ap, subst}
use Rattle.std.specs.Prelude.{if◌then◌else◌, replicate}
use Rattle.go_grammar.specs.declared.kind.Kind.TheVariants as kind
use Rattle.go_grammar.specs.declared.kind.Level.TheVariants as level
use Rattle.go_grammar.specs.declared.kind.Place.{Place}
use Rattle.go_grammar.specs.Grammar.{any}
use Rattle.go_grammar.specs.Trees.{Tree, Trees, node, none, more, skip, kind_of}
use Rattle.go_types.specs.Trees.{TypeTree}
use Rattle.go_types.specs.Relations.{Rights}
use Rattle.go_typed.specs.declared.form.Form.TheVariants as form
use Rattle.go_typed.specs.Trees.{form_of, parts_of, list_of, row}
use Rattle.go_typed.specs.Trees as sort
use Rattle.go_exprs_rules.specs.Scopes.{Scope, Hint, value}
use Rattle.go_exprs_rules.specs.Settling.{Part, Take, as_type, given}
use Rattle.go_exprs_rules.specs.Sorts.{Stands, own_type}
use Rattle.go_exprs_rules.specs.Tables.{Parts, is_held, all_held, made}
use Rattle.go_stmts_defs.specs.Assigning.{Taking, takes, type_or_default}
use Rattle.go_stmts_defs.specs.Frames.{Frame, rights_of, scope_of}
use Rattle.go_stmts_defs.specs.Reading.{Found, list_node, holdings, all_held_faults, reading}
use Rattle.go_stmts_defs.specs.Rules.{case_failing, all_given}
use Rattle.go_stmts_defs.specs.Rules as rules
use Rattle.go_exprs_variables.specs.Stood.{Stood}
use Rattle.go_exprs_variables.specs.Variables.{Standins, with_variables, all_with_variables, AllProper, begun, Fits, AllFit, no_rule_fails, ExpressionsTyped}
use Rattle.go_exprs_variables.proofs.Public.{All, all_new, all_of, both_none, each, expression_operand, length_new, news, news_each, none_of_both, of_all}
use Rattle.go_stmts_variables.specs.Frames.{FramesStand}
use Rattle.go_stmts_variables.specs.Statements.{tree_in, found_in, frame_in, Tagged, AllTagged}
use Rattle.go_stmts_variables.specs.Steady.{Keeps, ClausesKeep, Steady}
use Rattle.go_stmts_variables.proofs.Calls.{calm_typed}
use Rattle.go_stmts_variables.proofs.Cases.{type_kept, case_suits, case_kept}
use Rattle.go_stmts_variables.proofs.Defines.{taken_form}
use Rattle.go_stmts_variables.proofs.Endings.{is_calm, calm_form, AllCalm}
use Rattle.go_stmts_variables.proofs.Expressions.{Will, IsValuePart}
use Rattle.go_stmts_variables.proofs.Frames.{back_stands}
use Rattle.go_stmts_variables.proofs.Left.{reading_tag, behind_tag}
use Rattle.go_stmts_variables.proofs.Lists.{AreExpressions, expression_operands, values_of, list_parts, list_values, list_reads}
use Rattle.go_stmts_variables.proofs.Nodes.{Reads, Old, old_closed, old_rules, old_fits, old_tagged, rule_of, own_none, node_reads, judged}
use Rattle.go_stmts_variables.proofs.Puts.{Puts, AllTake, IsStatementForm, value_put, node_put}
use Rattle.go_stmts_variables.proofs.Returns.{takes_known}
use Rattle.go_stmts_variables.proofs.Rows.{news_two, is_stated, reading_stated, AllStated, AreStated, are_stated, new_stated}
use Rattle.go_stmts_variables.proofs.Rows.{statements_of, statement_faults, frame_behind, RowSteady, row_steady, row_reads, statements_read, statements_put, stated_kind, default_reads}
use Rattle.go_stmts_variables.proofs.Splits.{length_each, split_two}
use Rattle.go_stmts_variables.proofs.Wills.{Suits, kept_suits, will_as, operand_as}

module _ (w : Standins) where
  -- ---- rows of values and statements

  all_flat : (xs : List Part) → All (λ x. is_held (form_of x) ≡ false) xs → all_held (each xs) ≡ each xs
  all_flat [] h = refl
  all_flat (x ∷ xs) h = ap (λ b. (if b then list_of (parts_of x) else Some x ∷ []) ++ all_held (each xs)) h.0 ∙ ap (λ ys. Some x ∷ ys) (all_flat xs h.1)

  statements_flat : (f : Frame) (ps : Trees) → AreStated ps → All (λ x. is_held (form_of x) ≡ false) (statements_of f ps)
  statements_flat f none s = tt
  statements_flat f (more p ps) s = ((reading_stated f value p s.0).held, statements_flat (frame_in (reading f value p)) ps s.1)
  statements_flat f (skip ps) s = elim s [ ]

  same_take : (k : Take) (n : List Part) → AllTake w (replicate (length n) (takes k))
  same_take k [] = tt
  same_take k (x ∷ n) = same_take k n

  clause_fits : (k : Take) (xs : List Part) (ys : Parts) → AllFit w false (row (all_given (replicate (length xs) (takes k)) (each xs ++ ys))) → All (λ x. Fits w false (given k x)) xs × AllFit w false (row ys)
  clause_fits k [] ys fits = (tt, fits)
  clause_fits k (x ∷ xs) ys fits = let rest = clause_fits k xs ys fits.1 in ((fits.0, rest.0), rest.1)

  clause_tagged : (k : Take) (xs : List Part) (ys : Parts) → AllTagged (row (all_given (replicate (length xs) (takes k)) (each xs ++ ys))) → AllTagged (row ys)
  clause_tagged k [] ys tags = tags
  clause_tagged k (x ∷ xs) ys tags = clause_tagged k xs ys tags.1

  clause_puts : (k : Take) (xs : List Part) (ys : Parts) → All (IsValuePart w) xs → All (λ x. Fits w false (given k x)) xs → Puts w [] ys → Puts w (replicate (length xs) (takes k)) (each xs ++ ys)
  clause_puts k [] ys v fits p = p
  clause_puts k (x ∷ xs) ys v fits p = (value_put w k x v.0.ready fits.0, clause_puts k xs ys v.1 fits.1 p)

  clause_calm : (k : Take) (xs : List Part) (ys : Parts) → All (λ x. is_calm (form_of x) ≡ true) xs → AllCalm w (row ys) → AllCalm w (row (all_given (replicate (length xs) (takes k)) (each xs ++ ys)))
  clause_calm k [] ys c h = h
  clause_calm k (x ∷ xs) ys c h = (calm_form w (given k x) (ap is_calm (taken_form w k x) ∙ c.0), clause_calm k xs ys c.1 h)

  calm_values : (s : Scope) (h : Hint) (p : Place) (ps : Trees) → AreExpressions p ps → All (λ x. is_calm (form_of x) ≡ true) (values_of s h ps)
  calm_values s h p none e = tt
  calm_values s h p (skip ps) e = elim e [ ]
  calm_values s h p (more q ps) e = (calm_typed w s h (any p) q e.0 (expression_operand level.Either p q e.0), calm_values s h p ps e.1)

  -- ---- values of a case

  cases_suit : (rights : Rights) (a : Stands) (t : TypeTree) (xs : List Part) → own_type a ≡ Some t → rules.each (case_failing rights a) xs ≡ [] → All (Suits w rights t) xs
  cases_suit rights a t [] e f = tt
  cases_suit rights a t (x ∷ xs) e f =
      let both = both_none (case_failing rights a x) (rules.each (case_failing rights a) xs) f in (case_suits rights a t x e both.0, cases_suit rights a t xs e both.1)

  cases_will : (rights : Rights) (t : TypeTree) (xs : List Part) → All (Suits w rights t) xs → All (λ x. Fits w false (given (as_type t) x)) xs → All (Will w rights) xs
  cases_will rights t [] s fits = tt
  cases_will rights t (x ∷ xs) s fits = (will_as w rights t x s.0 fits.0, cases_will rights t xs s.1 fits.1)

  cases_kept : (rights : Rights) (a b : Stands) (t : TypeTree) (xs : List Part) → Stood rights None a b → own_type a ≡ Some t → All (IsValuePart w) xs → All (Suits w rights t) xs → All (λ x. Fits w false (given (as_type t) x)) xs
      → rules.each (case_failing rights a) xs ≡ [] → rules.each (case_failing rights b) (all_new w xs) ≡ []
  cases_kept rights a b t [] st e v s fits f = refl
  cases_kept rights a b t (x ∷ xs) st e v s fits f =
      let both = both_none (case_failing rights a x) (rules.each (case_failing rights a) xs) f in
      none_of_both (case_failing rights b (begun w false x)) (rules.each (case_failing rights b) (all_new w xs))
      (case_kept rights a b t x (begun w false x) st e (operand_as w rights t x v.0 s.0 fits.0) both.0) (cases_kept rights a b t xs st e v.1 s.1 fits.1 both.1)

  all_suit : (r q : Rights) (t : TypeTree) → Keeps r q (Some t) → (xs : List Part) → All (Suits w q t) xs → All (Suits w r t) xs
  all_suit r q t e [] s = tt
  all_suit r q t e (x ∷ xs) s = (kept_suits w r q t x e s.0, all_suit r q t e xs s.1)

  -- ---- a clause is read in a switch whose tag has a type, which it keeps

  pub record Clause (p : Tree) : Type 0 where
    pub kind : is_stated (kind_of p) ≡ true
    pub reads : (f g : Frame) (h : Hint) (t : TypeTree) → own_type f.tag ≡ Some t → Keeps (rights_of f) (rights_of (frame_in (reading f h p))) (Some t) → FramesStand w f g → no_rule_fails (found_in (reading f h p)) ≡ true
        → Fits w false (tree_in (reading f h p)) → Tagged (tree_in (reading f h p)) → Steady f h p → Reads w f g h p

  abbrev pub AllClauses : Trees → Type 0
  AllClauses none = Unit {0}
  AllClauses (more p ps) = Clause p × AllClauses ps
  AllClauses (skip ps) = ⊥

  pub are_clauses : (ps : Trees) → AllClauses ps → AreStated ps
  are_clauses none s = tt
  are_clauses (more p ps) s = (s.0.kind, are_clauses ps s.1)
  are_clauses (skip ps) s = elim s [ ]

  pub record ClausesRead (f g : Frame) (ps : Trees) : Type 0 where
    pub trees : statements_of g (all_with_variables w ps) ≡ all_new w (statements_of f ps)
    pub good : no_rule_fails (statement_faults g (all_with_variables w ps)) ≡ true
    pub frame : FramesStand w (frame_behind f ps) (frame_behind g (all_with_variables w ps))
    pub calm : AllCalm w (row (each (statements_of f ps)))

  pub clauses_read : (f g : Frame) (ps : Trees) (t : TypeTree) → own_type f.tag ≡ Some t → ClausesKeep (Some t) f ps → AllClauses ps → FramesStand w f g
      → no_rule_fails (statement_faults f ps) ≡ true → AllFit w false (row (each (statements_of f ps)))
      → AllTagged (row (each (statements_of f ps))) → RowSteady f ps → ClausesRead f g ps
  clauses_read f g none t e m s st good fits tags steady = record { trees = refl; good = refl; frame = st; calm = tt }
  clauses_read f g (skip ps) t e m s st good fits tags steady = elim s [ ]
  clauses_read f g (more p ps) t e m s st good fits tags steady =
      let both = all_of (found_in (reading f value p)) (statement_faults (frame_in (reading f value p)) ps) good in
      let one = s.0.reads f g value t e m.0 st both.0 fits.0 tags.0 steady.0 in
      let q = with_variables w p in
      let rest = clauses_read (frame_in (reading f value p)) (frame_in (reading g value q)) ps t (ap own_type (reading_tag f value p) ∙ e) m.1 s.1 one.frame both.1 fits.1 tags.1 steady.1 in
      record {
        trees = ap (λ x. x ∷ statements_of (frame_in (reading g value q)) (all_with_variables w ps)) one.tree ∙ ap (λ xs. begun w false (tree_in (reading f value p)) ∷ xs) rest.trees;
        good = of_all (found_in (reading g value q)) (statement_faults (frame_in (reading g value q)) (all_with_variables w ps)) one.failing rest.good;
        frame = rest.frame;
        calm = (one.calm (stated_kind (kind_of p) s.0.kind), rest.calm);
      }

  -- ---- a case

  case_form : (n : ℕ) → IsStatementForm w (form.Case n)
  case_form n = record { held = refl; key = refl; call = refl; name = λ z. refl }

  module _ (f g : Frame) (h : Hint) (i j a b : ℕ) (p : Place) (vs ss : Trees) (shape : AreExpressions p vs) (s : AllStated w ss) (st : FramesStand w f g) (t : TypeTree) (tag : own_type f.tag ≡ Some t) where
    abbrev vals : List Part
    vals = list_values w f value vs

    abbrev xs : List Part
    xs = statements_of f ss

    abbrev values_node : Frame → Trees → Part
    values_node f vs = list_node f kind.ExpressionList a b (holdings f kind.ExpressionList value vs [] vs)

    abbrev values_found : Frame → Trees → Found
    values_found f vs = all_held_faults f kind.ExpressionList value vs [] vs

    case_old : Old w f h kind.Case i j (more (node kind.ExpressionList a b vs) ss)
    case_old = record {
      parts = Some (values_node f vs) ∷ each xs;
      found = values_found f vs ++ statement_faults f ss;
      behind = frame_behind f ss;
      form = form.Case (length vals);
      laid = each vals ++ each xs;
      is = row_reads kind.Case h (more (node kind.ExpressionList a b vs) ss) (λ xs s. refl) (λ xs n. refl) f (Some (values_node f vs) ∷ []) (values_found f vs) ss (are_stated w ss s);
      laid_is = ap (λ z. z ++ all_held (each xs)) (list_parts w f value vs (expression_operands p vs shape)) ∙ ap (λ z. each vals ++ z) (all_flat xs (statements_flat f ss (are_stated w ss s)));
      form_is = ap (λ z. form.Case (length z)) (list_parts w f value vs (expression_operands p vs shape)) ∙ ap form.Case (length_each vals);
    }

    new_row : news w (each vals ++ each xs) ≡ each (all_new w vals) ++ each (all_new w xs)
    new_row = news_two w (each vals) (each xs) ∙ ap (λ z. z ++ news w (each xs)) (news_each w vals) ∙ ap (λ z. each (all_new w vals) ++ z) (news_each w xs)

    same_length : length (all_new w vals) ≡ length vals
    same_length = length_new w vals

    split_new : {A : Type 0} (F : List Part → List Part → A) → rules.split_at (length vals) F (news w (each vals ++ each xs)) ≡ F (all_new w vals) (all_new w xs)
    split_new F = ap (rules.split_at (length vals) F) new_row ∙ ap (λ n. rules.split_at n F (each (all_new w vals) ++ each (all_new w xs))) (sym same_length) ∙ split_two F (all_new w vals) (all_new w xs)

    case_rights : rights_of (frame_in (reading f h (node kind.Case i j (more (node kind.ExpressionList a b vs) ss)))) ≡ rights_of (frame_behind f ss)
    unfolding case_old
    case_rights = ap (λ r. rights_of (frame_in r)) (old_closed w f h kind.Case i j (more (node kind.ExpressionList a b vs) ss) refl case_old)

    pub case_reads : Keeps (rights_of f) (rights_of (frame_in (reading f h (node kind.Case i j (more (node kind.ExpressionList a b vs) ss))))) (Some t) → ExpressionsTyped → AllProper w vs → no_rule_fails (found_in (reading f h (node kind.Case i j (more (node kind.ExpressionList a b vs) ss)))) ≡ true
        → Fits w false (tree_in (reading f h (node kind.Case i j (more (node kind.ExpressionList a b vs) ss)))) → Tagged (tree_in (reading f h (node kind.Case i j (more (node kind.ExpressionList a b vs) ss))))
        → Steady f h (node kind.Case i j (more (node kind.ExpressionList a b vs) ss)) → Reads w f g h (node kind.Case i j (more (node kind.ExpressionList a b vs) ss))
    unfolding case_old
    case_reads keeps law proper good fits tags steady =
        let ps : Trees = more (node kind.ExpressionList a b vs) ss in
        let ys : Parts = each vals ++ each xs in
        let n = length vals in
        let S = frame_behind f ss in
        let R = rights_of S in
        let ks : List Taking = replicate n (takes (as_type t)) in
        let typed : own_type S.tag ≡ Some t = ap own_type (behind_tag f ss) ∙ tag in
        let taking_is : replicate n (type_or_default (own_type S.tag)) ≡ ks = ap (λ o. replicate n (type_or_default o)) typed in
        let own = old_rules w f h kind.Case i j ps refl case_old good in
        let all = subst (λ z. AllFit w false (row (all_given z ys))) taking_is (old_fits w f h kind.Case i j ps refl case_old own.1 fits) in
        let tagged = clause_tagged (as_type t) vals (each xs) (subst (λ z. AllTagged (row (all_given z ys))) taking_is (old_tagged w f h kind.Case i j ps refl case_old own.1 tags).1) in
        let parts = clause_fits (as_type t) vals (each xs) all in
        let known = judged w ks ys (takes_known w ks ys (same_take (as_type t) vals)) all in
        let fails : rules.each (case_failing R S.tag) vals ≡ [] =
        sym (split_two (λ us vs. rules.each (case_failing R S.tag) us) vals xs) ∙ rule_of w f h kind.Case i j ps refl S (form.Case n) ys known own.1 in
        let suit = cases_suit R S.tag t vals typed fails in
        let wills = cases_will (rights_of f) t vals (all_suit (rights_of f) R t (subst (λ q. Keeps (rights_of f) q (Some t)) case_rights keeps) vals suit) parts.0 in
        let found = all_of (values_found f vs) (statement_faults f ss) own.0 in
        let r = list_reads w law f g value p vs shape refl st proper found.0 wills in
        let rows = statements_read w f g ss s st found.1 parts.1 tagged (row_steady kind.Case h (more (node kind.ExpressionList a b vs) ss) (λ xs s. refl) (λ xs n. refl) f [] (more (node kind.ExpressionList a b vs) ss) steady.1).1 in
        let new_vs = all_with_variables w vs in
        let new_ss = all_with_variables w ss in
        let T = frame_behind g new_ss in
        let stood : Stood R None S.tag T.tag = rows.frame.tag in
        let now : rules.each (case_failing (rights_of T) T.tag) (all_new w vals) ≡ [] =
        ap (λ q. rules.each (case_failing q T.tag) (all_new w vals)) rows.frame.rights ∙ cases_kept R S.tag T.tag t vals stood typed r.values suit parts.0 fails in
        let typed_now : own_type T.tag ≡ Some t = type_kept R None t S.tag T.tag stood refl typed in
        let taking_new : replicate n (type_or_default (own_type T.tag)) ≡ ks = ap (λ o. replicate n (type_or_default o)) typed_now in
        let stated_now = new_stated w ss (are_stated w ss s) in
        node_reads w f g h kind.Case i j ps case_old refl refl own.1
        (record {
          parts = Some (values_node g new_vs) ∷ each (statements_of g new_ss);
          found = values_found g new_vs ++ statement_faults g new_ss;
          behind = T;
          is = row_reads kind.Case h (more (node kind.ExpressionList a b new_vs) new_ss) (λ xs s. refl) (λ xs n. refl) g (Some (values_node g new_vs) ∷ []) (values_found g new_vs) new_ss stated_now;
          laid_is = ap (λ z. z ++ all_held (each (statements_of g new_ss))) r.parts ∙ ap (λ z. each (all_new w vals) ++ z) (all_flat (statements_of g new_ss) (statements_flat g new_ss stated_now) ∙ ap each rows.trees) ∙ sym new_row;
          form_is = ap (λ z. form.Case (length z)) r.parts ∙ ap form.Case (length_each (all_new w vals) ∙ same_length);
          good = of_all (values_found g new_vs) (statement_faults g new_ss) r.good rows.good;
          rule = own_none w g h kind.Case i j (more (node kind.ExpressionList a b new_vs) new_ss) refl T (form.Case n) (news w ys) (split_new (λ us vs. rules.each (case_failing (rights_of T) T.tag) us) ∙ now);
          node = ap (λ z. made (form.Case n) i j sort.Nothing (news w ys) (all_given z (news w ys))) taking_new
              ∙ node_put w (form.Case n) i j ks ys (case_form n) (clause_puts (as_type t) vals (each xs) r.values parts.0 (statements_put w f ss (are_stated w ss s) parts.1))
              ∙ ap (λ z. begun w false (made (form.Case n) i j sort.Nothing ys (all_given z ys))) (sym taking_is);
          frame = back_stands w f g S T st rows.frame;
          calm = subst (λ z. AllCalm w (row (all_given z ys))) (sym taking_is) (clause_calm (as_type t) vals (each xs) (calm_values (scope_of f) value p vs shape) rows.calm);
        })

  pub default_clause : (i j : ℕ) (ss : Trees) → AllStated w ss → Clause (node kind.Default i j ss)
  default_clause i j ss s = record { kind = refl; reads = λ f g h t e m st good fits tags steady. default_reads w f g h i j ss s st good fits tags steady }
