use Rattle.std.proofs.Common.{◌<◌, None, ◌++◌, ◌∷◌, [], take, length, ap, subst, sym, ◌∙◌, arith}
use Rattle.std.specs.Prelude.{slice_get}
use Rattle.go_types.specs.Tables.{HasPartsBelow, WasDeclared, Table}
use Rattle.go_types.specs.Changes.{table_of}
use Rattle.go_types.specs.Verdicts.{AreVerdicts}
use Rattle.go_types.specs.Findings.{IsFinding, awaited_by}
use Rattle.go_types.specs.Kept.{IsComplete}
use Rattle.go_types.proofs.Places.{get_within}
use Rattle.go_types.proofs.Carrying.{definition_right}
use Rattle.go_types.proofs.Watching.{interned_complete, awaited_within, found_held}
use Rattle.go_types.proofs.types.Types.intern.Goals as goal

pub find_out-found-requires-clause-rights : goal.find_out-found-requires-clause-rights
find_out-found-requires-clause-rights c n d e =
    let side = (c.self.invariant.kept.resolved.table.right_sides n d.right (definition_right c.self.inside.shapes c.self.inside.definitions.items n d (ap (λ l. slice_get l n) (sym c.deref.ensures.value) ∙ e))).0 in
    subst (λ m. d.right < m) (sym (ap length c.deref-2.ensures.value ∙ c.self.invariant.kept.places)) side

pub add-requires-clause-within : goal.add-requires-clause-within
add-requires-clause-within c = awaited_within c.self.inside.shapes c.self.inside.definitions.items c.self.inside.verdicts.items c.self.inside.waits c.self.invariant

found : (c : goal.After-add-arg-4-1) → IsFinding (table_of c.self.inside.shapes c.self.inside.definitions.items) c.self.inside.verdicts.items c.args.shape.now c.find_out-found.result
found c =
    let shapes = c.self.inside.shapes in
    let told = c.find_out-found.ensures shapes (subst (λ v. AreVerdicts (table_of shapes c.deref.result.now) v) (sym c.deref-2.ensures.value) (subst (λ ds. AreVerdicts (table_of shapes ds) c.self.inside.verdicts.items) (sym c.deref.ensures.value) c.self.invariant.kept.right)) in
    subst (λ v. IsFinding (table_of shapes c.self.inside.definitions.items) v c.args.shape.now c.find_out-found.result) c.deref-2.ensures.value
    (subst (λ ds. IsFinding (table_of shapes ds) c.deref-2.result.now c.args.shape.now c.find_out-found.result) c.deref.ensures.value told)

pub add-requires-clause-part : goal.add-requires-clause-part
add-requires-clause-part c p e =
    let h = found_held c.self.inside.shapes c.self.inside.definitions.items c.self.inside.verdicts.items c.args.shape.now c.find_out-found.result (found c) p e in
    let low = get_within c.self.inside.verdicts.items p None h.1 in
    let places = c.self.invariant.watched.waiting.places in
    omega arith

pub invariant_of-self-2 : goal.invariant_of-self-2
invariant_of-self-2 c =
    let shapes = c.self.inside.shapes in
    let definitions = c.self.inside.definitions.items in
    let verdicts = c.self.inside.verdicts.items in
    let told = c.find_out-found.ensures shapes (subst (λ v. AreVerdicts (table_of shapes c.deref.result.now) v) (sym c.deref-2.ensures.value) (subst (λ ds. AreVerdicts (table_of shapes ds) verdicts) (sym c.deref.ensures.value) c.self.invariant.kept.right)) in
    let found : IsFinding (table_of shapes definitions) verdicts c.args.shape.now c.find_out-found.result =
    subst (λ v. IsFinding (table_of shapes definitions) v c.args.shape.now c.find_out-found.result) c.deref-2.ensures.value
    (subst (λ ds. IsFinding (table_of shapes ds) c.deref-2.result.now c.args.shape.now c.find_out-found.result) c.deref.ensures.value told) in
    subst (λ w. IsComplete c.add.new.shapes definitions c.add.new.verdicts.items w) (sym c.in_ok-place.ensures.waits)
    (subst (λ v. IsComplete c.add.new.shapes definitions v (take (length c.add.new.shapes) (c.self.inside.waits ++ awaited_by c.find_out-found.result ∷ []))) (sym c.in_ok-place.ensures.verdicts)
    (interned_complete shapes c.add.new.shapes definitions verdicts c.self.inside.waits c.args.shape.now c.in_ok-place.place c.find_out-found.result c.self.invariant
    (subst (λ (t : Table). HasPartsBelow (length t.shapes) c.args.shape.now) (sym c.self.view_is) c.requires.parts)
    (subst (λ (t : Table). WasDeclared t c.args.shape.now) (sym c.self.view_is) c.requires.declared)
    c.in_ok-place.ensures.number found))
