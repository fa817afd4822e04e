use Rattle.std.proofs.Common.{◌≡◌, Bool, true, false, subst, sym, ap, ◌∙◌, refl}
use Rattle.std.specs.Prelude.{not, ◌&&◌}
use Rattle.std.proofs.lemmas.Bool.{eqb-true, eq-eqb}
use Rattle.go_types.specs.Trees.{is_named}
use Rattle.go_types.specs.Tables.{IsTable, type_of}
use Rattle.go_types.proofs.Assigning.{assignable_same, assignable_by_form, only_by_form}
use Rattle.go_types.proofs.types.Types.assignable.Goals as goal
use Rattle.go_types.proofs.types.Types.assignable.Goals.{then-is_named, else-is_named}

pub returns-then-from-to : goal.returns-then-from-to
returns-then-from-to c =
    let ok : IsTable c.args.self.now = subst IsTable c.self.view_is c.self.invariant.kept.resolved.table in
    (λ h. assignable_same c.args.self.now ok c.args.from c.args.to c.requires.from_known c.requires.to_known c.if-from-to.true, λ h. eq-eqb c.args.from c.args.to c.if-from-to.true)

pub returns-else-underlying_id : goal.returns-else-underlying_id
returns-else-underlying_id c =
    let ok : IsTable c.args.self.now = subst IsTable c.self.view_is c.self.invariant.kept.resolved.table in (
      λ h. absurd (c.if-underlying_id.false (eqb-true c.underlying_id.result c.underlying_id-else-from-to.result h)),
      λ h. absurd (c.if-underlying_id.false (only_by_form c.args.self.now ok c.args.from c.args.to c.requires.from_known c.requires.to_known c.underlying_id.result c.underlying_id-else-from-to.result c.underlying_id.ensures.leads c.underlying_id-else-from-to.ensures.leads c.if-from-to.false h).0),
    )

both : (c : goal.Joined-is_named) → c.if-is_named.result ≡ (is_named (type_of c.args.self.now.shapes c.args.from) && is_named (type_of c.args.self.now.shapes c.args.to))
both c =
    elim c.if-is_named.branch [
      | then-is_named w ↦ (w.result-is ∙ w.is_named-then-is_named.ensures) ∙ ap (λ b. b && is_named (type_of c.args.self.now.shapes c.args.to)) w.if-is_named.ensures
      | else-is_named w ↦ (w.result-is ∙ w.if-is_named.false) ∙ ap (λ b. b && is_named (type_of c.args.self.now.shapes c.args.to)) w.if-is_named.ensures
    ]

false_from_not : (b : Bool) → not b ≡ true → b ≡ false
false_from_not true e = cc
false_from_not false e = refl

pub returns-after-is_named : goal.returns-after-is_named
returns-after-is_named c =
    let ok : IsTable c.args.self.now = subst IsTable c.self.view_is c.self.invariant.kept.resolved.table in (
      λ h. assignable_by_form c.args.self.now ok c.args.from c.args.to c.requires.from_known c.requires.to_known c.underlying_id.result c.underlying_id-else-from-to.result c.underlying_id.ensures.leads c.underlying_id-else-from-to.ensures.leads c.if-underlying_id.true (sym (both c) ∙ false_from_not c.if-is_named.result h),
      λ h. ap not (both c ∙ (only_by_form c.args.self.now ok c.args.from c.args.to c.requires.from_known c.requires.to_known c.underlying_id.result c.underlying_id-else-from-to.result c.underlying_id.ensures.leads c.underlying_id-else-from-to.ensures.leads c.if-from-to.false h).1),
    )
