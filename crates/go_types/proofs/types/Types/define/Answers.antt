use Rattle.std.proofs.Common.{◌≡◌, ◌<◌, ◌≤◌, Some, length, subst, sym, ap, ◌∙◌}
use Rattle.std.specs.Prelude.{slice_get, slice_set, count_by}
use Rattle.go_types.specs.declared.types.Definition.{Definition}
use Rattle.go_types.specs.Tables.{Table}
use Rattle.go_types.specs.Changes.{declaration, defined, table_of, IsKept}
use Rattle.go_types.specs.Waiting.{AreWaiting, is_stale, is_for}
use Rattle.go_types.specs.Kept.{IsComplete}
use Rattle.go_types.proofs.Defining.{CanDefine, declaration_shape, defined_table}
use Rattle.go_types.proofs.Watching.{defined_complete, defined_known, defined_waiting, defined_few, defined_there}
use Rattle.go_types.proofs.types.Types.define.Goals as goal

-- ---- nothing is known of the right side

pub invariant_of-self : goal.invariant_of-self
invariant_of-self c =
    let definition : Definition = record { right = c.args.right; underlying = c.underlying_id-underlying.result } in
    let is = ap (λ (t : Table). declaration (slice_get t.shapes c.args.named)) c.self.view_is ∙ sym c.in-Some.ensures in
    let can = subst (CanDefine c.args.named c.args.right c.underlying_id-underlying.result) (sym c.self.view_is) (c.requires.open, c.requires.right_known, c.requires.right_defined, c.requires.finite, c.underlying_id-underlying.ensures.leads, c.underlying_id-underlying.ensures.within) in
    let blank = ap (λ l. slice_get l c.args.right) (sym c.deref.ensures.value) ∙ (c.known.ensures ∙ ap Some c.in-None.is) in
    subst (IsComplete c.self.inside.shapes (slice_set c.self.inside.definitions.items c.in-Some.number (Some definition)) c.self.inside.verdicts.items) (sym c.wait.ensures)
    (defined_complete c.self.inside.shapes c.self.inside.definitions.items c.self.inside.verdicts.items c.self.inside.waits c.args.named c.in-Some.number definition c.self.invariant is can blank)

pub returns-in-None : goal.returns-in-None
returns-in-None c =
    let definition : Definition = record { right = c.args.right; underlying = c.underlying_id-underlying.result } in
    let is = ap (λ (t : Table). declaration (slice_get t.shapes c.args.named)) c.self.view_is ∙ sym c.in-Some.ensures in
    sym (defined_table c.self.inside.shapes c.self.inside.definitions.items c.args.named c.in-Some.number definition (declaration_shape (slice_get c.self.inside.shapes c.args.named) c.in-Some.number is))
    ∙ ap (λ (t : Table). defined t c.args.named c.args.right) c.self.view_is

-- ---- something is known of it

is_declared : (c : goal.After-learn-arg-in-Some-known-1) → declaration (slice_get c.self.inside.shapes c.args.named) ≡ Some c.in-Some.number
is_declared c = ap (λ (t : Table). declaration (slice_get t.shapes c.args.named)) c.self.view_is ∙ sym c.in-Some.ensures

can : (c : goal.After-learn-arg-in-Some-known-1) → CanDefine c.args.named c.args.right c.underlying_id-underlying.result (table_of c.self.inside.shapes c.self.inside.definitions.items)
can c = subst (CanDefine c.args.named c.args.right c.underlying_id-underlying.result) (sym c.self.view_is) (c.requires.open, c.requires.right_known, c.requires.right_defined, c.requires.finite, c.underlying_id-underlying.ensures.leads, c.underlying_id-underlying.ensures.within)

pub learn-requires-clause-kept : goal.learn-requires-clause-kept
learn-requires-clause-kept c =
    let definition : Definition = record { right = c.args.right; underlying = c.underlying_id-underlying.result } in
    let there = ap (λ l. slice_get l c.args.right) (sym c.deref.ensures.value) ∙ (c.known.ensures ∙ ap Some c.in-Some-known.is) in
    subst (λ ds. IsKept c.self.inside.shapes ds (slice_set c.deref_mut.result.now c.args.named (Some c.in-Some-known.verdict))) (sym c.deref-in-Some-known.ensures.value)
    (subst (λ v. IsKept c.self.inside.shapes (slice_set c.self.inside.definitions.items c.in-Some.number (Some definition)) (slice_set v c.args.named (Some c.in-Some-known.verdict))) (sym c.deref_mut.ensures.value)
    (defined_known c.self.inside.shapes c.self.inside.definitions.items c.self.inside.verdicts.items c.self.inside.waits c.args.named c.in-Some.number definition c.self.invariant (is_declared c) (can c) c.in-Some-known.verdict there))

pub learn-requires-clause-waiting : goal.learn-requires-clause-waiting
learn-requires-clause-waiting c =
    let definition : Definition = record { right = c.args.right; underlying = c.underlying_id-underlying.result } in
    subst (λ ds. AreWaiting (table_of c.self.inside.shapes ds) (slice_set c.deref_mut.result.now c.args.named (Some c.in-Some-known.verdict)) c.self.inside.waits) (sym c.deref-in-Some-known.ensures.value)
    (subst (λ v. AreWaiting (table_of c.self.inside.shapes (slice_set c.self.inside.definitions.items c.in-Some.number (Some definition))) (slice_set v c.args.named (Some c.in-Some-known.verdict)) c.self.inside.waits) (sym c.deref_mut.ensures.value)
    (defined_waiting c.self.inside.shapes c.self.inside.definitions.items c.self.inside.verdicts.items c.self.inside.waits c.args.named c.in-Some.number definition c.self.invariant (is_declared c) (can c) c.in-Some-known.verdict))

pub learn-requires-clause-place : goal.learn-requires-clause-place
learn-requires-clause-place c =
    let definition : Definition = record { right = c.args.right; underlying = c.underlying_id-underlying.result } in
    subst (λ v. c.args.named < length v) (sym c.deref_mut.ensures.value)
    (defined_there c.self.inside.shapes c.self.inside.definitions.items c.self.inside.verdicts.items c.self.inside.waits c.args.named c.in-Some.number definition c.self.invariant (is_declared c) (can c))

pub learn-requires-clause-few : goal.learn-requires-clause-few
learn-requires-clause-few c =
    let definition : Definition = record { right = c.args.right; underlying = c.underlying_id-underlying.result } in
    subst (λ v. count_by (is_stale (slice_set v c.args.named (Some c.in-Some-known.verdict))) c.self.inside.waits ≤ count_by (is_for c.args.named) c.self.inside.waits) (sym c.deref_mut.ensures.value)
    (defined_few c.self.inside.shapes c.self.inside.definitions.items c.self.inside.verdicts.items c.self.inside.waits c.args.named c.in-Some.number definition c.self.invariant (is_declared c) (can c) c.in-Some-known.verdict)

pub returns-in-Some-known : goal.returns-in-Some-known
returns-in-Some-known c =
    let definition : Definition = record { right = c.args.right; underlying = c.underlying_id-underlying.result } in
    let is = ap (λ (t : Table). declaration (slice_get t.shapes c.args.named)) c.self.view_is ∙ sym c.in-Some.ensures in
    sym (defined_table c.self.inside.shapes c.self.inside.definitions.items c.args.named c.in-Some.number definition (declaration_shape (slice_get c.self.inside.shapes c.args.named) c.in-Some.number is))
    ∙ ap (λ (t : Table). defined t c.args.named c.args.right) c.self.view_is
