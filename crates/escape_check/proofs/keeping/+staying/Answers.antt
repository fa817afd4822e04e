use Rattle.std.proofs.Common.{◌≡◌, ◌∙◌, sym, ap, subst, arith, true, false, refl, inl, inr}
use Rattle.std.specs.Option.{option_map}
use Rattle.go_typed.specs.Trees.{form_of}
use Rattle.go_typed.specs.Views.{seen}
use Rattle.go_typed.specs.declared.form.Form.{Form}
use Rattle.go_typed.specs.declared.form.Form.TheVariants as form
use Rattle.go_stmts_defs.specs.Ending.{lets_break, part_breaks}
use Rattle.escape_check.specs.Called.{called}
use Rattle.escape_check.proofs.Parts.{part_within}
use Rattle.escape_check.proofs.Sparing.{NoneBreaks, never_by, none_left, none_more}
use Rattle.escape_check.proofs.keeping.+staying.Goals as goal
use Rattle.escape_check.proofs.keeping.+staying.Goals.{none_breaks-in-Some+else-not-never_breaks, none_breaks-in_default}

pub never_breaks-returns-in-If : goal.never_breaks-returns-in-If
never_breaks-returns-in-If t c = λ e g.
    let x = seen c.args.types.now c.args.node.now in
    let to : (f : Form) → c.form_of.result ≡ f → lets_break f ≡ true → lets_break (form_of x) ≡ true = λ f e l. ap lets_break (sym c.form_of.ensures ∙ e) ∙ l in
    let lets : lets_break (form_of x) ≡ true =
    elim c.in-If.is [
      | inl a ↦ to form.If a refl
      | inr a ↦ elim a [ inl b ↦ to form.Block b refl | inr b ↦ elim b [ inl d ↦ to (form.Case d.0) d.1 refl | inr d ↦ to form.Default d refl ] ]
    ] in
    never_by g x lets (subst (NoneBreaks g) c.parts_of-parts.ensures.parts (c.none_breaks.ensures e g))

pub none_breaks-never_breaks-requires : goal.none_breaks-never_breaks-requires
none_breaks-never_breaks-requires t c =
    let ns = c.args.parts.now in
    let i = c.loop-part.part-index in
    let low = part_within ns i c.in-Some.node c.part-item.result c.loop-part-test.true (sym c.in-Some.is ∙ c.part-item.is) in
    (omega (arith, low, c.decreases), tt)

pub none_breaks-loop-part-preserved : goal.none_breaks-loop-part-preserved
none_breaks-loop-part-preserved t c = λ g h.
    let table = c.args.types.now in
    let x = c.part-item.result in
    let here : part_breaks (option_map (called g) (option_map (seen table) x)) ≡ false =
    elim c.match-part.branch [
      | none_breaks-in-Some+else-not-never_breaks w ↦
          ap (λ y. part_breaks (option_map (called g) (option_map (seen table) y))) w.in-Some.is ∙ w.never_breaks.ensures w.if-not-never_breaks.false g
      | none_breaks-in_default w ↦ ap (λ y. part_breaks (option_map (called g) (option_map (seen table) y))) w.in_default.is
    ] in
    c.loop-part.invariant g (none_more table g c.args.parts.now c.loop-part.part-index x c.loop-part-test.true c.part-item.is here h)

pub none_breaks-returns : goal.none_breaks-returns
none_breaks-returns t c = λ e g. c.loop-part.invariant g (none_left c.args.types.now g c.args.parts.now c.loop-part.part-index (omega (arith, c.loop-part-test.false)))
