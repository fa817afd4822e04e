use Rattle.std.proofs.Common.{◌≡◌, Some, refl, ap, sym, ◌∙◌}
use Rattle.std.specs.Option.{option_map}
use Rattle.go_tree.specs.Failures.{least_from}
use Rattle.go_scopes_lookup.proofs.Public.{get_some}
use Rattle.go_scopes.specs.Views.{failure_of}
use Rattle.go_exprs_rules.specs.Faults.{least}
use Rattle.go_package_defs.specs.Answer.{failures_at}
use Rattle.go_package_defs.specs.Declarations.{Specification}
use Rattle.go_package_defs.specs.Verdicts.{unblocked_faults}
use Rattle.go_declarations.specs.Views.{specification_view}
use Rattle.go_package_rounds.specs.World.{package_in, outlines_in}
use Rattle.go_package_rounds.proofs.Public.{seen_at}
use Rattle.go_package_types.specs.Places.{stands}
use Rattle.go_package_types.proofs.Unblocked.{each_hidden, whole_is}
use Rattle.go_package_types.proofs.Noted.{noted}
use Rattle.go_package_types.proofs.faults.note_hidden.Goals as goal

pub returns-then-specification_stands-clause-fault : goal.returns-then-specification_stands-clause-fault
returns-then-specification_stands-clause-fault c = λ ss d h at.
    let w = c.args.world.now in
    let p = package_in w in
    let os = outlines_in w in
    let s = c.in-Some.specification.now in
    let v = specification_view s in
    let ts = c.in-Some-tokens_of.tokens.now in
    let found = option_map failure_of c.args.found in
    let is : v ≡ d = seen_at specification_view w.specifications.now c.args.number s d (get_some w.specifications.now c.args.number s c.in-Some.ensures.lookup.3.0 ∙ ap (λ x. Some x) (sym c.in-Some.ensures.lookup.1)) at in
    noted p v.file ts c.in-Some-tokens_of.ensures.tokens c.in-Some-tokens_of.ensures.number c.in-Some-tokens_of.ensures.list (unblocked_faults p os ss v) found (option_map failure_of c.merged.result) c.in_ok-fault.fault
    (each_hidden p os ss v (stands ts) (c.if-specification_stands.ensures refl)) (c.in_ok-fault.ensures.fault ss h ∙ ap least (whole_is p os ss v)) c.merged.ensures
    ∙ ap (λ (x : Specification). least_from found (failures_at p x.file (unblocked_faults p os ss x))) is
