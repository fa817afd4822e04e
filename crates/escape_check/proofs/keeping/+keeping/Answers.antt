use Rattle.std.proofs.Common.{◌∙◌, ◌-◌, length, map, take, drop, refl, sym, ap, arith, inl, inr}
use Rattle.std.specs.Prelude.{◌||◌}
use Rattle.std.specs.List.{list_all}
use Rattle.std.specs.Option.{option_map}
use Rattle.go_typed.specs.declared.form.Form.TheVariants as form
use Rattle.go_typed.specs.Views.{seen}
use Rattle.go_stmts_defs.specs.Ending.{last_falls, terminates}
use Rattle.go_stmts_defs.specs.Rows.{all_clauses_end, both_branches, last_ends, part_ends}
use Rattle.escape_check.specs.Called.{all_called, called, staying}
use Rattle.escape_check.specs.Keeping.{Extends}
use Rattle.escape_check.proofs.Parts.{one_within}
use Rattle.escape_check.proofs.Sparing.{all_left, all_more, both_kept, clauses_kept, ended, keeps_both, keeps_less, last_kept, or_right, spares_less}
use Rattle.escape_check.proofs.keeping.+keeping.Goals as goal

pub all_keep-part_keeps-requires : goal.all_keep-part_keeps-requires
all_keep-part_keeps-requires t c =
    let ns = c.args.clauses.now in
    let i = c.loop-clause.clause-index in
    let x = c.clause-item.result in
    let low = one_within ns i x x c.loop-clause-test.true c.clause-item.is in
    (omega (arith, low, c.decreases), tt)

pub all_keep-loop-clause-preserved : goal.all_keep-loop-clause-preserved
all_keep-loop-clause-preserved t c = record {
  noted = λ u e. c.in_ok-part_keeps.ensures.noted u (c.loop-clause.invariant.noted u e);
  ends = λ g s.
      all_more c.args.types.now g c.args.clauses.now c.loop-clause.clause-index c.clause-item.result c.loop-clause-test.true c.clause-item.is
      (c.in_ok-part_keeps.ensures.ends c.if-not-branch.false g s)
      ∙ c.loop-clause.invariant.ends g (spares_less c.loop-clause.noted _ g c.in_ok-part_keeps.ensures.noted s);
}

pub all_keep-returns-clause-ends : goal.all_keep-returns-clause-ends
all_keep-returns-clause-ends t c = λ e g s.
    sym (c.loop-clause.invariant.ends g s) ∙ all_left c.args.types.now g c.args.clauses.now c.loop-clause.clause-index (omega (arith, c.loop-clause-test.false))

pub branches_keep-returns-else-not-branch-clause-ends : goal.branches_keep-returns-else-not-branch-clause-ends
branches_keep-returns-else-not-branch-clause-ends t c =
    let table = c.args.types.now in
    let ns = c.args.parts.now in
    let b = c.block-item.result in
    let e = c.other-item.result in
    keeps_both c.part_keeps-in-len4.result c.part_keeps-in-len4.new.noted
    (λ g. part_ends (option_map (called g) (option_map (seen table) e)))
    (λ g. both_branches (all_called g (map (option_map (seen table)) ns)))
    (λ (extends : Extends c.part_keeps.new.noted c.part_keeps-in-len4.new.noted) g s h.
    both_kept table g ns b e c.in-len4.len_at_least c.in-len4.len_below c.block-item.is c.other-item.is
    (c.in_ok-part_keeps-in-len4.ensures.ends c.if-not-branch.false g (spares_less c.part_keeps.new.noted c.part_keeps-in-len4.new.noted g extends s)) h)
    c.part_keeps-in-len4.ensures.noted c.part_keeps-in-len4.ensures.ends

pub clause_keeps-returns-then-branch-clause-ends : goal.clause_keeps-returns-then-branch-clause-ends
clause_keeps-returns-then-branch-clause-ends t c = λ e g s.
    or_right (last_ends (all_called g (staying g 0 (map (option_map (seen c.args.types.now)) c.args.parts.now)))) _ (c.in_ok-falls_last.ensures.falls c.if-branch.true g s)

pub clause_keeps-returns-clause-ends : goal.clause_keeps-returns-clause-ends
clause_keeps-returns-clause-ends t c =
    let xs = map (option_map (seen c.args.types.now)) c.args.parts.now in
    keeps_less c.list_keeps.result c.list_keeps.new.noted
    (λ g. last_ends (all_called g (staying g 0 xs)))
    (λ g. last_ends (all_called g (staying g 0 xs)) || last_falls (all_called g (staying g 0 xs)))
    (λ g s h. ap (λ b. b || last_falls (all_called g (staying g 0 xs))) h)
    c.list_keeps.ensures.ends

pub clauses_keep-returns-else-not-none_breaks-clause-ends : goal.clauses_keep-returns-else-not-none_breaks-clause-ends
clauses_keep-returns-else-not-none_breaks-clause-ends t c =
    let table = c.args.types.now in
    let ns = c.args.parts.now in
    let cs = take (length ns - 2) (drop 2 ns) in
    keeps_less c.all_keep.result c.all_keep.new.noted
    (λ g. list_all part_ends (all_called g (map (option_map (seen table)) cs)))
    (λ g. all_clauses_end (all_called g (map (option_map (seen table)) ns)))
    (λ g s h. clauses_kept table g ns cs c.in-len2-up.len_at_least refl (sym (c.has_default_clause.ensures g) ∙ c.if-not-has_default_clause.false) (c.none_breaks.ensures c.if-not-none_breaks.false g) h)
    c.all_keep.ensures.ends

pub keeps_end-returns-in-Expression-clause-ends : goal.keeps_end-returns-in-Expression-clause-ends
keeps_end-returns-in-Expression-clause-ends t c = λ e g s.
    ended g (seen c.args.types.now c.args.node.now) form.Expression _ (sym c.in-Expression.is ∙ c.form_of.ensures) c.parts_of-parts.ensures.parts (sym (c.calls_panic.ensures g) ∙ e)

pub keeps_end-returns-in-Block-clause-ends : goal.keeps_end-returns-in-Block-clause-ends
keeps_end-returns-in-Block-clause-ends t c =
    let x = seen c.args.types.now c.args.node.now in
    let xs = map (option_map (seen c.args.types.now)) c.parts_of-parts.result.now in
    keeps_less c.list_keeps.result c.list_keeps.new.noted (λ g. last_ends (all_called g (staying g 0 xs))) (λ g. terminates (called g x))
    (λ g s h. ended g x form.Block xs (sym c.in-Block.is ∙ c.form_of.ensures) c.parts_of-parts.ensures.parts h) c.list_keeps.ensures.ends

pub keeps_end-returns-in-If-clause-ends : goal.keeps_end-returns-in-If-clause-ends
keeps_end-returns-in-If-clause-ends t c =
    let x = seen c.args.types.now c.args.node.now in
    let xs = map (option_map (seen c.args.types.now)) c.parts_of-parts.result.now in
    keeps_less c.branches_keep.result c.branches_keep.new.noted (λ g. both_branches (all_called g xs)) (λ g. terminates (called g x))
    (λ g s h. ended g x form.If xs (sym c.in-If.is ∙ c.form_of.ensures) c.parts_of-parts.ensures.parts h) c.branches_keep.ensures.ends

pub keeps_end-returns-in-For-clause-ends : goal.keeps_end-returns-in-For-clause-ends
keeps_end-returns-in-For-clause-ends t c = λ e g s.
    ended g (seen c.args.types.now c.args.node.now) form.For _ (sym c.in-For.is ∙ c.form_of.ensures) c.parts_of-parts.ensures.parts (c.loop_keeps.ensures e g)

pub keeps_end-returns-in-Switch-clause-ends : goal.keeps_end-returns-in-Switch-clause-ends
keeps_end-returns-in-Switch-clause-ends t c =
    let x = seen c.args.types.now c.args.node.now in
    let xs = map (option_map (seen c.args.types.now)) c.parts_of-parts.result.now in
    keeps_less c.clauses_keep.result c.clauses_keep.new.noted (λ g. all_clauses_end (all_called g xs)) (λ g. terminates (called g x))
    (λ g s h. ended g x form.Switch xs (sym c.in-Switch.is ∙ c.form_of.ensures) c.parts_of-parts.ensures.parts h) c.clauses_keep.ensures.ends

pub keeps_end-returns-in-Case-clause-ends : goal.keeps_end-returns-in-Case-clause-ends
keeps_end-returns-in-Case-clause-ends t c =
    let x = seen c.args.types.now c.args.node.now in
    let xs = map (option_map (seen c.args.types.now)) c.parts_of-parts.result.now in
    let parts = c.parts_of-parts.ensures.parts in
    keeps_less c.clause_keeps.result c.clause_keeps.new.noted
    (λ g. last_ends (all_called g (staying g 0 xs)) || last_falls (all_called g (staying g 0 xs)))
    (λ g. terminates (called g x))
    (λ g s h. elim c.in-Case.is [
      | inl a ↦ ended g x (form.Case a.0) xs (sym a.1 ∙ c.form_of.ensures) parts h
      | inr a ↦ ended g x form.Default xs (sym a ∙ c.form_of.ensures) parts h
    ])
    c.clause_keeps.ensures.ends

pub list_keeps-returns-clause-ends : goal.list_keeps-returns-clause-ends
list_keeps-returns-clause-ends t c =
    let table = c.args.types.now in
    let ns = c.args.parts.now in
    let last = c.in-Some.last.now in
    keeps_both c.keeps_end.result c.keeps_end.new.noted (λ g. terminates (called g (seen table last))) (λ g. last_ends (all_called g (staying g 0 (map (option_map (seen table)) ns))))
    (λ (extends : Extends c.note.new.noted c.keeps_end.new.noted) g s h.
    last_kept table g ns last (c.in-Some.ensures.part g (c.in_ok-note.ensures.spared g (spares_less c.note.new.noted c.keeps_end.new.noted g extends s))) h)
    c.keeps_end.ensures.noted c.keeps_end.ensures.ends
