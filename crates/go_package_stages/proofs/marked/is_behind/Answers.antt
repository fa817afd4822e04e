use Rattle.std.proofs.Common.{◌≡◌, true, false, refl, ap, sym, subst, ◌∙◌}
use Rattle.go_tree.specs.declared.context.Entity.{Entity}
use Rattle.go_tree.specs.declared.context.Entity.TheVariants as entity
use Rattle.go_declarations.specs.Views.{specification_view, seen_all}
use Rattle.go_package_defs.specs.Declarations.{Specification}
use Rattle.go_package_defs.specs.Knowledge.{is_type}
use Rattle.go_package_stages.specs.Marked.{IsMarked, IsMarkedType, IsMarkedAs}
use Rattle.go_package_stages.proofs.Objects.{seen_at}
use Rattle.go_package_stages.proofs.marked.is_behind.Goals as goal

no_type : (e : Entity) → (e ≡ entity.Type → ⊥) → is_type e ≡ false
no_type entity.Type h = absurd (h refl)
no_type e h = refl

pub returns-in-Type : goal.returns-in-Type
returns-in-Type c = λ yes p o tells at.
    let t = c.args.trial.now in
    let n = c.args.number in
    let ds = seen_all c.args.specifications.now in
    let s = c.in-Some-specification_at.specification.now in
    let there = c.in-Some.ensures.specification p ds o tells at in
    let is : specification_view s ≡ o.specification = seen_at specification_view c.args.specifications.now c.in-Some.place.specification s o.specification c.in-Some-specification_at.ensures there in
    let typed : is_type o.specification.entity ≡ true = ap (λ (d : Specification). is_type d.entity) (sym is) ∙ ap is_type c.in-Type.is in
    subst (IsMarkedAs t n o) (sym typed) (subst (IsMarkedType t n) is (c.is_type_behind.ensures yes))

pub returns-in_default-entity : goal.returns-in_default-entity
returns-in_default-entity c = λ yes p o tells at.
    let t = c.args.trial.now in
    let n = c.args.number in
    let ds = seen_all c.args.specifications.now in
    let s = c.in-Some-specification_at.specification.now in
    let there = c.in-Some.ensures.specification p ds o tells at in
    let is : specification_view s ≡ o.specification = seen_at specification_view c.args.specifications.now c.in-Some.place.specification s o.specification c.in-Some-specification_at.ensures there in
    let column = c.in-Some.ensures.column p ds o tells at in
    let untyped : is_type o.specification.entity ≡ false = no_type o.specification.entity (λ e. c.in_default-entity.not-Type (ap (λ (d : Specification). d.entity) is ∙ e)) in
    subst (IsMarkedAs t n o) (sym untyped) (subst (IsMarked t n o.specification) column (subst (λ d. IsMarked t n d c.in-Some.place.column) is (c.is_value_behind.ensures yes)))
