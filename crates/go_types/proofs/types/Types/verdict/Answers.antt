use Rattle.std.proofs.Common.{◌≡◌, Option, Some, None, ap, subst, sym, ◌∙◌}
use Rattle.std.specs.Prelude.{slice_get, IfSome, IfNone}
use Rattle.go_types.specs.declared.verdict.Verdict.{Verdict}
use Rattle.go_types.specs.Tables.{Table, IsSettled}
use Rattle.go_types.specs.Changes.{table_of}
use Rattle.go_types.specs.Verdicts.{IsVerdict}
use Rattle.go_types.proofs.Watching.{unsettled}
use Rattle.go_types.proofs.types.Types.verdict.Goals as goal

there : (c : goal.After-known) → slice_get c.self.inside.verdicts.items c.args.a ≡ Some c.known.result
there c = ap (λ l. slice_get l c.args.a) (sym c.deref.ensures.value) ∙ c.known.ensures

pub returns-clause-found : goal.returns-clause-found
returns-clause-found c = subst (λ (t : Table). IfSome c.known.result (IsVerdict t c.args.a)) c.self.view_is (go c.known.result (there c))
  where
    go : (o : Option Verdict) → slice_get c.self.inside.verdicts.items c.args.a ≡ Some o → IfSome o (IsVerdict (table_of c.self.inside.shapes c.self.inside.definitions.items) c.args.a)
    go None e = tt
    go (Some v) e = c.self.invariant.kept.right c.args.a v e

pub returns-clause-unsettled : goal.returns-clause-unsettled
returns-clause-unsettled c = subst (λ (t : Table). IfNone c.known.result (IsSettled t c.args.a → ⊥)) c.self.view_is (go c.known.result (there c))
  where
    go : (o : Option Verdict) → slice_get c.self.inside.verdicts.items c.args.a ≡ Some o → IfNone o (IsSettled (table_of c.self.inside.shapes c.self.inside.definitions.items) c.args.a → ⊥)
    go None e = unsettled (table_of c.self.inside.shapes c.self.inside.definitions.items) c.self.inside.verdicts.items c.self.inside.waits c.self.invariant.kept.resolved.table c.self.invariant.watched c.args.a e
    go (Some v) e = tt
