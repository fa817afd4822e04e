use Rattle.std.proofs.Common.{◌≡◌, ◌∙◌, true, false, rules, sym, ap, subst}
use Rattle.std.specs.Prelude.{◌||◌, not}
use Rattle.std.specs.List.{list_any}
use Rattle.escape_check.specs.Stretches.{AreOrdered, covers, means_other}
use Rattle.escape_check.proofs.Hiding.{hidden_told_at, spelled, spelled_told}
use Rattle.escape_check.proofs.hidden_names.HiddenNames.hides.Goals as goal

pub returns-then-not-is_disjoint : goal.returns-then-not-is_disjoint
returns-then-not-is_disjoint c = λ p file names ws known told.
    let met = spelled_told ws c.args.self.now.words c.args.texts.now names known.words told c.is_disjoint.result c.is_disjoint.ensures.0 c.is_disjoint.ensures.1 in
    let some : list_any (spelled ws) names ≡ true = sym met ∙ ap not c.if-not-is_disjoint.true in
    ap not c.if-not-is_disjoint.true ∙ sym (ap (λ b. b || list_any (means_other p file c.args.token) names) some) ∙ hidden_told_at p file c.args.token ws names

pub returns-else-not-is_disjoint : goal.returns-else-not-is_disjoint
returns-else-not-is_disjoint c = λ p file names ws known told.
    let met = spelled_told ws c.args.self.now.words c.args.texts.now names known.words told c.is_disjoint.result c.is_disjoint.ensures.0 c.is_disjoint.ensures.1 in
    let none : list_any (spelled ws) names ≡ false = sym met ∙ ap not c.if-not-is_disjoint.false in
    let order : AreOrdered c.deref.result.now = subst AreOrdered (sym c.deref.ensures.value) known.order in
    c.any_covers.ensures order
    ∙ ap (list_any (covers c.args.token)) c.deref.ensures.value
    ∙ known.tokens c.args.token (search rules)
    ∙ sym (ap (λ b. b || list_any (means_other p file c.args.token) names) none)
    ∙ hidden_told_at p file c.args.token ws names
