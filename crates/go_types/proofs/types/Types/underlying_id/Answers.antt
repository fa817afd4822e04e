use Rattle.std.proofs.Common.{◌<◌, subst, sym, ap, ◌∙◌, length}
use Rattle.std.specs.Prelude.{slice_get}
use Rattle.go_types.specs.Tables.{Table, HasRightId}
use Rattle.go_types.specs.Changes.{Leads, stays, declaration}
use Rattle.go_types.proofs.Defining.{declaration_shape, definition_leads, read_definition}
use Rattle.go_types.proofs.types.Types.underlying_id.Goals as goal

pub returns-in-None-clause-leads : goal.returns-in-None-clause-leads
returns-in-None-clause-leads c = stays c.args.a (sym c.in-None.ensures)

lead : (c : goal.In-Some-index) → Leads c.args.self.now c.args.a c.in-Some-index.definition.underlying × (c.in-Some-index.definition.underlying < length c.args.self.now.shapes)
lead c =
    let right = c.requires.defined c.in-Some.number (declaration_shape (slice_get c.args.self.now.shapes c.args.a) c.in-Some.number (sym c.in-Some.ensures)) in
    let there = read_definition c.self.inside.shapes c.self.inside.definitions.items c.in-Some.number right.0 c.index.result.now c.in-Some-index.definition (subst (λ (t : Table). HasRightId t c.in-Some.number right.0) (sym c.self.view_is) right.1) c.index.ensures c.in-Some-index.is in
    let named = ap (λ (t : Table). declaration (slice_get t.shapes c.args.a)) c.self.view_is ∙ sym c.in-Some.ensures in
    subst (λ (t : Table). Leads t c.args.a c.in-Some-index.definition.underlying × (c.in-Some-index.definition.underlying < length t.shapes)) c.self.view_is
    (definition_leads c.self.inside.shapes c.self.inside.definitions.items c.self.invariant.kept.resolved c.args.a c.in-Some.number c.in-Some-index.definition named there)

pub returns-in-Some-index-clause-within : goal.returns-in-Some-index-clause-within
returns-in-Some-index-clause-within c = (lead c).1

pub returns-in-Some-index-clause-leads : goal.returns-in-Some-index-clause-leads
returns-in-Some-index-clause-leads c = (lead c).0
