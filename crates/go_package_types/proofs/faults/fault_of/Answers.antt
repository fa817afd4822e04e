use Rattle.std.proofs.Common.{◌≡◌, false, Some, ap, sym, ◌∙◌}
use Rattle.go_types_relations.proofs.Public.{grows_both}
use Rattle.go_exprs_rules.specs.Faults.{least}
use Rattle.go_package_defs.specs.Knowledge.{free_scope}
use Rattle.go_package_types.specs.Whole.{failing_as_whole}
use Rattle.go_declarations.specs.Views.{specification_view}
use Rattle.go_package_rounds.specs.World.{package_in, outlines_in}
use Rattle.go_package_types.proofs.Faulty.{tells_more, fits_grown, known_grown, some_there, no_inner, own_there, blocked_there, told, changes_nothing}
use Rattle.go_package_types.proofs.faults.fault_of.Goals as goal

pub fault_as-requires-2-clause-fits : goal.fault_as-requires-2-clause-fits
fault_as-requires-2-clause-fits c = fits_grown c.args.types.now c.fault_as.new.types c.count.ensures.table c.fault_as.ensures.grows c.args.world.now c.requires.fits

pub fault_as-requires-2-clause-known : goal.fault_as-requires-2-clause-known
fault_as-requires-2-clause-known c = known_grown c.args.types.now c.fault_as.new.types c.count.ensures.table c.fault_as.ensures.grows c.args.known.now c.requires.known

pub returns-in_err-inner-clause-grows : goal.returns-in_err-inner-clause-grows
returns-in_err-inner-clause-grows c = grows_both c.args.types.now c.fault_as.new.types c.fault_as-2.new.types c.fault_as.ensures.grows c.fault_as-2.ensures.grows

pub returns-then-is_some-clause-grows : goal.returns-then-is_some-clause-grows
returns-then-is_some-clause-grows c = grows_both c.args.types.now c.fault_as.new.types c.fault_as-2.new.types c.fault_as.ensures.grows c.fault_as-2.ensures.grows

pub returns-then-is_some-clause-fault : goal.returns-then-is_some-clause-fault
returns-then-is_some-clause-fault c = λ ss h.
    let w = c.args.world.now in
    let more = tells_more c.args.types.now c.fault_as.new.types c.count.ensures.table c.fault_as.ensures.grows w c.args.known.now ss c.requires.known h in
    ap (told c.args.found c.args.tokens.now) (some_there (package_in w) (outlines_in w) ss (specification_view c.args.specification.now) c.in_ok-inner.inner (sym c.is_some.ensures ∙ c.if-is_some.true) (c.in_ok-inner.ensures.fault ss more))

pub returns-in_err-is_blocked-clause-grows : goal.returns-in_err-is_blocked-clause-grows
returns-in_err-is_blocked-clause-grows c = grows_both c.args.types.now c.fault_as.new.types c.fault_as-2.new.types c.fault_as.ensures.grows c.fault_as-2.ensures.grows

pub returns-then-branch-clause-grows : goal.returns-then-branch-clause-grows
returns-then-branch-clause-grows c = grows_both c.args.types.now c.fault_as.new.types c.fault_as-2.new.types c.fault_as.ensures.grows c.fault_as-2.ensures.grows

pub returns-then-branch-clause-fault : goal.returns-then-branch-clause-fault
returns-then-branch-clause-fault c = λ ss h.
    let w = c.args.world.now in
    let p = package_in w in
    let os = outlines_in w in
    let d = specification_view c.args.specification.now in
    let more = tells_more c.args.types.now c.fault_as.new.types c.count.ensures.table c.fault_as.ensures.grows w c.args.known.now ss c.requires.known h in
    let none = no_inner p os ss d c.in_ok-inner.inner (sym c.is_some.ensures ∙ c.if-is_some.false) (c.in_ok-inner.ensures.fault ss more) in
    ap (told c.args.found c.args.tokens.now) (blocked_there p os ss d none (sym c.if-branch.true ∙ c.in_ok-is_blocked.ensures c.args.types.now ss d c.requires.fits.needs h c.requires.number))

pub returns-else-branch-clause-grows : goal.returns-else-branch-clause-grows
returns-else-branch-clause-grows c = grows_both c.args.types.now c.fault_as.new.types c.fault_as-2.new.types c.fault_as.ensures.grows c.fault_as-2.ensures.grows

pub returns-else-branch-clause-fault : goal.returns-else-branch-clause-fault
returns-else-branch-clause-fault c = λ ss h.
    let w = c.args.world.now in
    let p = package_in w in
    let os = outlines_in w in
    let d = specification_view c.args.specification.now in
    let more = tells_more c.args.types.now c.fault_as.new.types c.count.ensures.table c.fault_as.ensures.grows w c.args.known.now ss c.requires.known h in
    let none = no_inner p os ss d c.in_ok-inner.inner (sym c.is_some.ensures ∙ c.if-is_some.false) (c.in_ok-inner.ensures.fault ss more) in
    let first : Some c.in-Some.fault ≡ least (failing_as_whole false (free_scope p os ss d) d) = sym c.in-Some.is ∙ c.in_ok-fault.ensures.fault ss h in
    ap (told c.args.found c.args.tokens.now) (own_there p os ss d (Some c.in-Some.fault) none first (sym c.if-branch.false ∙ c.in_ok-is_blocked.ensures c.args.types.now ss d c.requires.fits.needs h c.requires.number))

pub returns-then-not-is_first-clause-grows : goal.returns-then-not-is_first-clause-grows
returns-then-not-is_first-clause-grows c = grows_both c.args.types.now c.fault_as.new.types c.fault_as-2.new.types c.fault_as.ensures.grows c.fault_as-2.ensures.grows

pub returns-then-not-is_first-clause-fault : goal.returns-then-not-is_first-clause-fault
returns-then-not-is_first-clause-fault c = λ ss h.
    let w = c.args.world.now in
    let p = package_in w in
    let os = outlines_in w in
    let d = specification_view c.args.specification.now in
    let more = tells_more c.args.types.now c.fault_as.new.types c.count.ensures.table c.fault_as.ensures.grows w c.args.known.now ss c.requires.known h in
    let none = no_inner p os ss d c.in_ok-inner.inner (sym c.is_some.ensures ∙ c.if-is_some.false) (c.in_ok-inner.ensures.fault ss more) in
    let first : Some c.in-Some.fault ≡ least (failing_as_whole false (free_scope p os ss d) d) = sym c.in-Some.is ∙ c.in_ok-fault.ensures.fault ss h in
    changes_nothing p os ss d c.args.found c.args.tokens.now c.in-Some.fault none first (c.is_first.ensures c.if-not-is_first.true)
