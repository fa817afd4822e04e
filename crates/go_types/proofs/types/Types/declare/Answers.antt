use Rattle.std.proofs.Common.{None, subst, sym, length, take, ◌∙◌, ◌++◌, ◌∷◌, []}
use Rattle.go_types.specs.declared.shape.Shape.TheVariants as shape
use Rattle.go_types.specs.Shapes.{IsInterned}
use Rattle.go_types.specs.Changes.{IsDeclared, table_of}
use Rattle.go_types.specs.Kept.{IsComplete}
use Rattle.go_types.proofs.Growing.{declared_change}
use Rattle.go_types.proofs.Watching.{declared_complete, awaited_within}
use Rattle.go_types.proofs.types.Types.declare.Goals as goal

pub add-requires-clause-within : goal.add-requires-clause-within
add-requires-clause-within c = awaited_within c.self.inside.shapes c.self.inside.definitions.items c.self.inside.verdicts.items c.self.inside.waits c.self.invariant

number : (c : goal.Joined-shape) → IsInterned c.self.inside.shapes c.add.new.shapes (shape.Named (length c.self.inside.definitions.items)) c.in-Ok.place
number c = subst (λ n. IsInterned c.self.inside.shapes c.add.new.shapes (shape.Named n) c.in-Ok.place) (c.len-number.ensures ∙ c.self.inside.definitions.ok.0) c.in-Ok.ensures.number

pub invariant_of-self-in-Ok : goal.invariant_of-self-in-Ok
invariant_of-self-in-Ok c =
    let shapes = c.add.new.shapes in
    subst (λ d. IsComplete shapes d c.add.new.verdicts.items c.add.new.waits) (sym c.in_ok-push.ensures.items)
    (subst (λ w. IsComplete shapes (c.self.inside.definitions.items ++ None ∷ []) c.add.new.verdicts.items w) (sym c.in-Ok.ensures.waits)
    (subst (λ v. IsComplete shapes (c.self.inside.definitions.items ++ None ∷ []) v (take (length shapes) (c.self.inside.waits ++ None ∷ []))) (sym c.in-Ok.ensures.verdicts)
    (declared_complete c.self.inside.shapes shapes c.self.inside.definitions.items c.self.inside.verdicts.items c.self.inside.waits c.in-Ok.place c.self.invariant (number c))))

pub returns-in-Ok-clause-answer : goal.returns-in-Ok-clause-answer
returns-in-Ok-clause-answer c =
    subst (λ t. IsDeclared t (table_of c.add.new.shapes c.push.new.self.items) c.in-Ok.place) c.self.view_is
    (subst (λ d. IsDeclared (table_of c.self.inside.shapes c.self.inside.definitions.items) (table_of c.add.new.shapes d) c.in-Ok.place) (sym c.in_ok-push.ensures.items)
    (declared_change c.self.inside.shapes c.add.new.shapes c.self.inside.definitions.items c.in-Ok.place c.self.invariant.kept.resolved (number c)))
