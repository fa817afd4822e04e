-- Assignments with an operator, with variables in them.
use Rattle.std.proofs.Common.{◌≡◌, ◌∙◌, ℕ, true, false, List, [], ◌∷◌, ◌++◌, map, Some, refl, sym, ap, subst}
use Rattle.go_base.specs.declared.fault.FaultCode.TheVariants as code
use Rattle.go_grammar.specs.declared.kind.Arithmetic.{Arithmetic}
use Rattle.go_grammar.specs.declared.kind.Kind.TheVariants as kind
use Rattle.go_grammar.specs.declared.kind.Level.TheVariants as level
use Rattle.go_grammar.specs.declared.kind.Operator.TheVariants as operator
use Rattle.go_grammar.specs.declared.kind.Place.{Place}
use Rattle.go_grammar.specs.Grammar.{any}
use Rattle.go_grammar.specs.Trees.{Tree, Trees, node, none, more}
use Rattle.go_types.specs.Relations.{Rights}
use Rattle.go_typed.specs.declared.form.Form.TheVariants as form
use Rattle.go_typed.specs.Trees.{sort_of}
use Rattle.go_typed.specs.Trees as sort
use Rattle.go_exprs_rules.specs.Operators.{operation_failing, operation_takes}
use Rattle.go_exprs_rules.specs.Scopes.{Hint, value}
use Rattle.go_exprs_rules.specs.Settling.{Part, Take}
use Rattle.go_exprs_rules.specs.Tables.{Parts, made}
use Rattle.go_stmts_defs.specs.Assigning.{takes}
use Rattle.go_stmts_defs.specs.Frames.{Frame, rights_of}
use Rattle.go_stmts_defs.specs.Reading.{reading}
use Rattle.go_stmts_defs.specs.Rules.{all_given, not_a_variable}
use Rattle.go_stmts_defs.specs.Targets.{is_variable}
use Rattle.go_exprs_variables.specs.Shapes.{IsShaped}
use Rattle.go_exprs_variables.specs.Variables.{Standins, all_with_variables, with_variables, Proper, begun, Fits, no_rule_fails, ExpressionsTyped}
use Rattle.go_exprs_variables.proofs.Public.{all_of, both_none, expression_operand, news, none_of_both, passed, passes}
use Rattle.go_stmts_variables.specs.Frames.{FramesStand}
use Rattle.go_stmts_variables.specs.Statements.{tree_in, found_in, frame_in}
use Rattle.go_stmts_variables.proofs.Expressions.{Will, IsValuePart, operand_reading}
use Rattle.go_stmts_variables.proofs.Frames.{back_stands}
use Rattle.go_stmts_variables.proofs.Nodes.{Reads, Old, old_rules, old_fits, rule_of, own_none, node_reads, judged}
use Rattle.go_stmts_variables.proofs.Operations.{operation}
use Rattle.go_stmts_variables.proofs.Puts.{AllTake, IsStatementForm, fitting_put, node_put}
use Rattle.go_stmts_variables.proofs.Returns.{takes_known}
use Rattle.go_stmts_variables.proofs.Roles.{IsPlainRow, row_parts, row_found, row_behind, any_row, parts_read, value_reads}
use Rattle.go_stmts_variables.proofs.Steps.{reading_closed}
use Rattle.go_stmts_variables.proofs.Targets.{variable_put}

module _ (w : Standins) where
  all_take : (ks : List Take) → AllTake w (map takes ks)
  all_take [] = tt
  all_take (k ∷ ks) = all_take ks

  variable_kept : (rights : Rights) (x : Part) → IsValuePart w x → Fits w false x → not_a_variable rights x ≡ [] → not_a_variable rights (begun w false x) ≡ []
  variable_kept rights x v fits e =
      let variable = (passes (is_variable rights x) [] code.LeftSide x e).0 in
      passed (is_variable rights (begun w false x)) [] code.LeftSide (begun w false x) (ap (is_variable rights) (fitting_put w x v.ready.held fits) ∙ variable_put rights w false x v.ready.keys.1 fits variable) refl

  pub same_rights : (f : Frame) (p : Place) (x : Tree) → IsShaped (any p) x → rights_of (frame_in (reading f value x)) ≡ rights_of f
  same_rights f p x shape = ap (λ r. rights_of (frame_in r)) (operand_reading w f value x (expression_operand level.Either p x shape))

  operate_form : (o : Arithmetic) → IsStatementForm w (form.Operate o)
  operate_form o = record { held = refl; key = refl; call = refl; name = λ z. refl }

  plain_operate : (o : Arithmetic) → IsPlainRow (kind.OperatorAssignment o)
  plain_operate o = record { enters = λ xs s. refl; tells = λ h all xs n. refl; leaves = λ s. refl; finds = λ s. refl }

  module _ (f g : Frame) (h : Hint) (o : Arithmetic) (i j : ℕ) (p : Place) (x y : Tree) (left : IsShaped (any p) x) (right : IsShaped (any p) y) (st : FramesStand w f g) where
    abbrev ps : Trees
    ps = more x (more y none)

    abbrev x' : Part
    x' = tree_in (reading f value x)

    abbrev middle : Frame
    middle = frame_in (reading f value x)

    abbrev y' : Part
    y' = tree_in (reading middle value y)

    operate_old : Old w f h (kind.OperatorAssignment o) i j (more x (more y none))
    operate_old = record {
      parts = row_parts f ps;
      found = row_found f ps;
      behind = row_behind f ps;
      form = form.Operate o;
      laid = Some x' ∷ Some y' ∷ [];
      is = any_row (kind.OperatorAssignment o) h ps (plain_operate o) f [] [] ps;
      laid_is = refl;
      form_is = refl;
    }

    pub operate_reads : ExpressionsTyped → Proper w x → Proper w y → no_rule_fails (found_in (reading f h (node (kind.OperatorAssignment o) i j (more x (more y none))))) ≡ true
        → Fits w false (tree_in (reading f h (node (kind.OperatorAssignment o) i j (more x (more y none))))) → Reads w f g h (node (kind.OperatorAssignment o) i j (more x (more y none)))
    unfolding operate_old
    operate_reads law px py good fits =
        let ys : Parts = Some x' ∷ Some y' ∷ [] in
        let own = old_rules w f h (kind.OperatorAssignment o) i j ps refl operate_old good in
        let all = old_fits w f h (kind.OperatorAssignment o) i j ps refl operate_old own.1 fits in
        let S = row_behind f ps in
        let R = rights_of S in
        let ks : List Take = operation_takes R (operator.Compute o) (sort_of x') (sort_of y') in
        let known = judged w (map takes ks) ys (takes_known w (map takes ks) ys (all_take ks)) all in
        let fails : not_a_variable R x' ++ operation_failing R (operator.Compute o) i j x' y' ≡ [] = rule_of w f h (kind.OperatorAssignment o) i j ps refl S (form.Operate o) ys known own.1 in
        let both = both_none (not_a_variable R x') (operation_failing R (operator.Compute o) i j x' y') fails in
        let closed = reading_closed w R f g p x left st (passes (is_variable R x') [] code.LeftSide x' both.0).0 in
        let is = operation R w o i j x' y' closed both.1 all in
        let first : R ≡ rights_of middle = same_rights middle p y right in
        let second : R ≡ rights_of f = first ∙ same_rights f p x left in
        let will_left : Will w (rights_of f) x' = subst (λ q. Will w q x') second is.left in
        let will_right : Will w (rights_of middle) y' = subst (λ q. Will w q y') first is.right in
        let found = all_of (found_in (reading f value x)) (row_found middle (more y none)) own.0 in
        let found_right = all_of (found_in (reading middle value y)) [] found.1 in
        let vx = value_reads w law f g value p x left refl st px found.0 will_left in
        let vy = value_reads w law middle (frame_in (reading g value (with_variables w x))) value p y right refl vx.reads.frame py found_right.0 will_right in
        let r = parts_read w f g ps
        ((λ g st good. (value_reads w law f g value p x left refl st px good will_left).reads), ((λ g st good. (value_reads w law middle g value p y right refl st py good will_right).reads), tt)) st own.0 in
        let T = row_behind g (all_with_variables w ps) in
        let new = is.new vx.value vy.value in
        node_reads w f g h (kind.OperatorAssignment o) i j ps operate_old refl refl own.1
        (record {
          parts = row_parts g (all_with_variables w ps);
          found = row_found g (all_with_variables w ps);
          behind = T;
          is = any_row (kind.OperatorAssignment o) h (all_with_variables w ps) (plain_operate o) g [] [] (all_with_variables w ps);
          laid_is = r.parts;
          form_is = refl;
          good = r.good;
          rule = own_none w g h (kind.OperatorAssignment o) i j (all_with_variables w ps) refl T (form.Operate o) (news w ys)
              (ap (λ q. not_a_variable q (begun w false x') ++ operation_failing q (operator.Compute o) i j (begun w false x') (begun w false y')) r.frame.rights
              ∙ none_of_both (not_a_variable R (begun w false x')) (operation_failing R (operator.Compute o) i j (begun w false x') (begun w false y')) (variable_kept R x' vx.value is.fits both.0) new.failing);
          node = ap (λ q. made (form.Operate o) i j sort.Nothing (news w ys) (all_given (map takes (operation_takes q (operator.Compute o) (sort_of (begun w false x')) (sort_of (begun w false y')))) (news w ys))) r.frame.rights
              ∙ ap (made (form.Operate o) i j sort.Nothing (news w ys)) new.same
              ∙ node_put w (form.Operate o) i j is.each ys (operate_form o) new.puts
              ∙ ap (λ zs. begun w false (made (form.Operate o) i j sort.Nothing ys zs)) (sym is.same);
          frame = back_stands w f g S T st r.frame;
          calm = tt;
        })
