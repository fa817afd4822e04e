-- The laws on statements and on bodies.
use Rattle.std.proofs.Common.{◌≡◌, ◌∙◌, true, false, [], ap, refl}
use Rattle.std.specs.Prelude.{◌||◌, not, if◌then◌else◌, ◌-◌}
use Rattle.go_base.specs.declared.fault.FaultCode.TheVariants as code
use Rattle.go_grammar.specs.declared.kind.Category.{Category}
use Rattle.go_grammar.specs.declared.kind.Category.TheVariants as category
use Rattle.go_grammar.specs.Trees.{Tree, kind_of}
use Rattle.go_exprs_rules.specs.Faults.{fault_at}
use Rattle.go_exprs_rules.specs.Scopes.{Hint}
use Rattle.go_exprs_variables.specs.Shapes.{IsShaped}
use Rattle.go_exprs_variables.specs.Variables.{Standins, with_variables, Proper, put, Fits, no_rule_fails, ExpressionsTyped}
use Rattle.go_stmts_defs.specs.Ending.{terminates}
use Rattle.go_stmts_defs.specs.Frames.{Frame}
use Rattle.go_stmts_defs.specs.Reading.{reading}
use Rattle.go_stmts_defs.specs.Rules.{has_results}
use Rattle.go_stmts_variables.specs.Frames.{FramesStand}
use Rattle.go_stmts_variables.specs.Law.{StatementsRead, BodiesRead, IsReadWithVariables}
use Rattle.go_stmts_variables.specs.Statements.{tree_in, found_in, Declares, Tagged}
use Rattle.go_stmts_variables.specs.Steady.{Steady}
use Rattle.go_stmts_variables.proofs.Endings.{terminates_put}
use Rattle.go_stmts_variables.proofs.Induction.{states, statement_stated}
use Rattle.go_stmts_variables.proofs.Puts.{fitting_put}
use Rattle.go_stmts_variables.proofs.Rows.{reading_stated, stated_kind}

read_so : ExpressionsTyped → (w : Standins) (s t : Frame) (h : Hint) (c : Category) (x : Tree) → IsShaped c x → states c ≡ true → FramesStand w s t → Proper w x → Declares w x → no_rule_fails (found_in (reading s h x)) ≡ true
    → Fits w false (tree_in (reading s h x)) → Tagged (tree_in (reading s h x)) → Steady s h x → IsReadWithVariables w s t h x
read_so law w s t h c x shape states_c st proper dec good fits tags steady =
    let stated = statement_stated w law c x shape proper dec states_c in
    let r = stated.reads s t h st good fits tags steady in
    let tree : tree_in (reading t h (with_variables w x)) ≡ put w false (tree_in (reading s h x)) = r.tree ∙ fitting_put w (tree_in (reading s h x)) (reading_stated s h x stated.kind).held fits in
    record { tree = tree; failing = r.failing; terminating = ap terminates tree ∙ terminates_put w (tree_in (reading s h x)) (r.calm (stated_kind (kind_of x) stated.kind)); frame = r.frame }

-- With variables in place of holes a statement is read the same, with that change alone, no rule fails, and it terminates where it did.
pub statements_read : ExpressionsTyped → StatementsRead
statements_read law w s t h x shape st proper dec good fits tags steady = read_so law w s t h category.Statement x shape refl st proper dec good fits tags steady

pub bodies_read : ExpressionsTyped → BodiesRead
bodies_read law w s t h x shape st proper dec good fits tags steady =
    let r = read_so law w s t h category.Block x shape refl st proper dec good fits tags steady in
    record {
      body = r;
      missing = λ j. ap (λ ts. if not (has_results ts) || terminates (tree_in (reading t h (with_variables w x))) then [] else fault_at code.MissingReturn (j - 1) j) st.results
          ∙ ap (λ b. if not (has_results s.results) || b then [] else fault_at code.MissingReturn (j - 1) j) r.terminating;
    }
