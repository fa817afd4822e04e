-- `++` and `--` on variables with variables in their indexes.
use Rattle.std.proofs.Common.{◌≡◌, ◌∙◌, ℕ, true, false, [], ◌∷◌, Some, None, refl, sym, ap}
use Rattle.std.specs.Prelude.{if◌then◌else◌}
use Rattle.go_base.specs.declared.fault.FaultCode.TheVariants as code
use Rattle.go_grammar.specs.declared.kind.Kind.TheVariants as kind
use Rattle.go_grammar.specs.declared.kind.Level.TheVariants as level
use Rattle.go_grammar.specs.declared.kind.Place.{Place}
use Rattle.go_grammar.specs.declared.kind.Step.{Step}
use Rattle.go_grammar.specs.Grammar.{any}
use Rattle.go_grammar.specs.Trees.{Tree, node, none, more}
use Rattle.go_types.specs.Relations.{Rights}
use Rattle.go_typed.specs.declared.form.Form.TheVariants as form
use Rattle.go_typed.specs.Trees.{sort_of}
use Rattle.go_exprs_rules.specs.Faults.{fault_at}
use Rattle.go_exprs_rules.specs.Scopes.{Hint, value}
use Rattle.go_exprs_rules.specs.Settling.{Part, stay}
use Rattle.go_exprs_rules.specs.Sorts.{is_open, is_whole}
use Rattle.go_stmts_defs.specs.Frames.{Frame, rights_of, scope_of}
use Rattle.go_stmts_defs.specs.Reading.{reading}
use Rattle.go_stmts_defs.specs.Rules.{not_a_variable, step_failing}
use Rattle.go_stmts_defs.specs.Targets.{is_variable}
use Rattle.go_exprs_variables.specs.Shapes.{IsShaped}
use Rattle.go_exprs_variables.specs.Variables.{Standins, all_with_variables, Proper, begun, Fits, no_rule_fails, ExpressionsTyped}
use Rattle.go_exprs_variables.specs.Variables as variables
use Rattle.go_exprs_variables.proofs.Public.{all_of, both_none, expression_operand, held, holds, news, none_of_both, passed, passes, typed_operand, whole_kept}
use Rattle.go_stmts_variables.specs.Frames.{FramesStand}
use Rattle.go_stmts_variables.specs.Statements.{tree_in, found_in}
use Rattle.go_stmts_variables.proofs.Expressions.{will, IsValuePart, operand_reading}
use Rattle.go_stmts_variables.proofs.Frames.{back_stands, variables_typed}
use Rattle.go_stmts_variables.proofs.Nodes.{Reads, Old, old_rules, old_fits, rule_of, own_none, node_reads, judged}
use Rattle.go_stmts_variables.proofs.Puts.{IsStatementForm, fitting_put, value_put, node_put}
use Rattle.go_stmts_variables.proofs.Roles.{IsPlainRow, row_parts, row_found, row_behind, any_row, parts_read, value_reads}
use Rattle.go_stmts_variables.proofs.Targets.{variable_put, variable_closed}

module _ (w : Standins) where
  -- a variable that is counted on stays one
  pub step_kept : (rights : Rights) (i j : ℕ) (x : Part) → IsValuePart w x → is_open (sort_of x) ≡ false → Fits w false x → step_failing rights i j x ≡ [] → step_failing rights i j (begun w false x) ≡ []
  step_kept rights i j x v o fits e =
      let both = both_none (not_a_variable rights x) (if is_whole rights (sort_of x) then [] else fault_at code.Operands i j) e in
      let variable = (passes (is_variable rights x) [] code.LeftSide x both.0).0 in
      let whole = (holds (is_whole rights (sort_of x)) [] code.Operands i j both.1).0 in
      none_of_both (not_a_variable rights (begun w false x)) (if is_whole rights (sort_of (begun w false x)) then [] else fault_at code.Operands i j)
      (passed (is_variable rights (begun w false x)) [] code.LeftSide (begun w false x) (ap (is_variable rights) (fitting_put w x v.ready.held fits) ∙ variable_put rights w false x v.ready.keys.1 fits variable) refl)
      (held (is_whole rights (sort_of (begun w false x))) [] code.Operands i j (whole_kept rights None (sort_of x) (sort_of (begun w false x)) (typed_operand rights w None false x v.ready.keys v.ready.held o fits).stands ∙ whole) refl)

  pub reading_closed : (rights : Rights) (f g : Frame) (p : Place) (x : Tree) → IsShaped (any p) x → FramesStand w f g → is_variable rights (tree_in (reading f value x)) ≡ true → is_open (sort_of (tree_in (reading f value x))) ≡ false
  reading_closed rights f g p x shape st v =
      let o = expression_operand level.Either p x shape in
      let same = operand_reading w f value x o in
      ap (λ r. is_open (sort_of (tree_in r))) same ∙ variable_closed rights (scope_of f) (variables_typed w f g st) value (any p) x shape o refl (sym (ap (λ r. is_variable rights (tree_in r)) same) ∙ v)

  step_form : (o : Step) → IsStatementForm w (form.Step o)
  step_form o = record { held = refl; key = refl; call = refl; name = λ z. refl }

  plain_step : (o : Step) → IsPlainRow (kind.StepStatement o)
  plain_step o = record { enters = λ xs s. refl; tells = λ h all xs n. refl; leaves = λ s. refl; finds = λ s. refl }

  module _ (f g : Frame) (h : Hint) (o : Step) (i j : ℕ) (p : Place) (x : Tree) (shape : IsShaped (any p) x) (st : FramesStand w f g) where
    abbrev x' : Part
    x' = tree_in (reading f value x)

    step_old : Old w f h (kind.StepStatement o) i j (more x none)
    step_old = record {
      parts = row_parts f (more x none);
      found = row_found f (more x none);
      behind = row_behind f (more x none);
      form = form.Step o;
      laid = Some x' ∷ [];
      is = any_row (kind.StepStatement o) h (more x none) (plain_step o) f [] [] (more x none);
      laid_is = refl;
      form_is = refl;
    }

    pub step_reads : ExpressionsTyped → Proper w x → no_rule_fails (found_in (reading f h (node (kind.StepStatement o) i j (more x none)))) ≡ true → Fits w false (tree_in (reading f h (node (kind.StepStatement o) i j (more x none))))
        → Reads w f g h (node (kind.StepStatement o) i j (more x none))
    unfolding step_old
    step_reads law proper good fits =
        let own = old_rules w f h (kind.StepStatement o) i j (more x none) refl step_old good in
        let all = old_fits w f h (kind.StepStatement o) i j (more x none) refl step_old own.1 fits in
        let S = row_behind f (more x none) in
        let known = judged w [] (Some x' ∷ []) tt all in
        let fails : step_failing (rights_of S) i j x' ≡ [] = rule_of w f h (kind.StepStatement o) i j (more x none) refl S (form.Step o) (Some x' ∷ []) known own.1 in
        let both = both_none (not_a_variable (rights_of S) x') (if is_whole (rights_of S) (sort_of x') then [] else fault_at code.Operands i j) fails in
        let closed = reading_closed (rights_of S) f g p x shape st (passes (is_variable (rights_of S) x') [] code.LeftSide x' both.0).0 in
        let found = all_of (found_in (reading f value x)) [] own.0 in
        let v = value_reads w law f g value p x shape refl st proper found.0 (will (variables.has closed all.0)) in
        let r = parts_read w f g (more x none) ((λ g st good. (value_reads w law f g value p x shape refl st proper good (will (variables.has closed all.0))).reads), tt) st own.0 in
        let T = row_behind g (all_with_variables w (more x none)) in
        node_reads w f g h (kind.StepStatement o) i j (more x none) step_old refl refl own.1
        (record {
          parts = row_parts g (all_with_variables w (more x none));
          found = row_found g (all_with_variables w (more x none));
          behind = T;
          is = any_row (kind.StepStatement o) h (all_with_variables w (more x none)) (plain_step o) g [] [] (all_with_variables w (more x none));
          laid_is = r.parts;
          form_is = refl;
          good = r.good;
          rule = own_none w g h (kind.StepStatement o) i j (all_with_variables w (more x none)) refl T (form.Step o) (news w (Some x' ∷ [])) (ap (λ q. step_failing q i j (begun w false x')) r.frame.rights
              ∙ step_kept (rights_of S) i j x' v.value closed all.0 fails);
          node = node_put w (form.Step o) i j [] (Some x' ∷ []) (step_form o) (value_put w stay x' v.value.ready all.0, tt);
          frame = back_stands w f g S T st r.frame;
          calm = tt;
        })
