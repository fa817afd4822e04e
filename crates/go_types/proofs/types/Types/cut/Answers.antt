use Rattle.std.proofs.Common.{◌≡◌, ◌≤◌, ◌<◌, ℕ, subst, sym, ap, ◌∙◌, length, take}
use Rattle.std.specs.Prelude.{count_by}
use Rattle.go_types.specs.Tables.{Table, Holds, is_declaration}
use Rattle.go_types.specs.Changes.{IsClosedBelow, table_of, first_types}
use Rattle.go_types.specs.Kept.{IsComplete}
use Rattle.go_types.proofs.Cutting.{first_table}
use Rattle.go_types.proofs.Keeping.{first_kept, part_below}
use Rattle.go_types.proofs.Watching.{first_watched}
use Rattle.go_types.proofs.types.Types.cut.Goals as goal

k_is : (c : goal.After-truncate-arg-4-1) → c.declared_below-declared.result ≡ count_by is_declaration (take c.args.count c.self.inside.shapes)
k_is c = c.declared_below-declared.ensures ∙ ap (λ (t : Table). count_by is_declaration (take c.args.count t.shapes)) (sym c.self.view_is)

within : (c : goal.After-truncate-arg-4-1) → c.args.count ≤ length c.self.inside.shapes
within c = subst (λ (t : Table). c.args.count ≤ length t.shapes) (sym c.self.view_is) c.requires.within

closed : (c : goal.After-truncate-arg-4-1) → IsClosedBelow c.args.count (table_of c.self.inside.shapes c.self.inside.definitions.items)
closed c = subst (IsClosedBelow c.args.count) (sym c.self.view_is) c.requires.closed

holds_below : (c : goal.After-truncate-arg-4-1) → (i p : ℕ) → i < c.args.count → Holds (table_of c.self.inside.shapes c.self.inside.definitions.items) i p → p < c.args.count
holds_below c i p l h = part_below c.self.inside.shapes c.self.inside.definitions.items c.self.inside.verdicts.items c.args.count c.declared_below-declared.result c.self.invariant.kept (within c) (k_is c) (closed c) h.its_shape h.place p (i, l, h.shape_is) h.held_is

pub truncate-requires-4-clause-closed : goal.truncate-requires-4-clause-closed
truncate-requires-4-clause-closed c i p l e = holds_below c i p l (c.self.invariant.watched.waiting.held i p e)

pub invariant_of-self : goal.invariant_of-self
invariant_of-self c =
    let shapes = c.self.inside.shapes in
    let definitions = c.self.inside.definitions.items in
    let verdicts = c.self.inside.verdicts.items in
    let count = c.args.count in
    let k = c.declared_below-declared.result in
    let k_is : k ≡ count_by is_declaration (take count shapes) = c.declared_below-declared.ensures ∙ ap (λ (t : Table). count_by is_declaration (take count t.shapes)) (sym c.self.view_is) in
    let within : count ≤ length shapes = subst (λ (t : Table). count ≤ length t.shapes) (sym c.self.view_is) c.requires.within in
    let closed : IsClosedBelow count (table_of shapes definitions) = subst (IsClosedBelow count) (sym c.self.view_is) c.requires.closed in
    let complete : IsComplete (take count shapes) (take k definitions) (take count verdicts) (take count c.self.inside.waits) = record {
      kept = first_kept shapes definitions verdicts count k c.self.invariant.kept within k_is closed;
      watched = first_watched shapes definitions verdicts c.self.inside.waits count k c.self.invariant within k_is (λ i p l (h : Holds (table_of shapes definitions) i p). part_below shapes definitions verdicts count k c.self.invariant.kept within k_is closed h.its_shape h.place p (i, l, h.shape_is) h.held_is);
    } in
    subst (λ x. IsComplete x c.truncate-2.new.self.items c.truncate-3.new.self.items c.truncate-4.new.self) (sym c.truncate.ensures)
    (subst (λ x. IsComplete (take count shapes) x c.truncate-3.new.self.items c.truncate-4.new.self) (sym c.truncate-2.ensures.items)
    (subst (λ x. IsComplete (take count shapes) (take k definitions) x c.truncate-4.new.self) (sym c.truncate-3.ensures.items)
    (subst (IsComplete (take count shapes) (take k definitions) (take count verdicts)) (sym c.truncate-4.ensures) complete)))

pub returns : goal.returns
returns c =
    let k = c.declared_below-declared.ensures ∙ ap (λ (t : Table). count_by is_declaration (take c.args.count t.shapes)) (sym c.self.view_is) in
    (ap (λ x. table_of x c.truncate-2.new.self.items) c.truncate.ensures ∙ ap (table_of (take c.args.count c.self.inside.shapes)) c.truncate-2.ensures.items) ∙
    (sym (first_table c.self.inside.shapes c.self.inside.definitions.items c.args.count c.declared_below-declared.result k) ∙ ap (first_types c.args.count) c.self.view_is)
