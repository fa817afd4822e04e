use Rattle.std.proofs.Common.{◌<◌, ◌≤◌, length, arith}
use Rattle.std.specs.Option.{option_map}
use Rattle.std.proofs.lemmas.List.{length-map}
use Rattle.go_tree.specs.Failures.{least}
use Rattle.go_types_relations.proofs.Public.{grows_both}
use Rattle.go_scopes.specs.Views.{failure_of}
use Rattle.go_package_defs.specs.Answer.{hidden_failures}
use Rattle.go_declarations.specs.Views.{specification_view}
use Rattle.go_package_rounds.specs.World.{package_in, outlines_in, specifications_in}
use Rattle.go_package_rounds.proofs.Public.{element}
use Rattle.go_package_types.proofs.Faulty.{tells_more, fits_grown, known_grown}
use Rattle.go_package_types.proofs.Unblocked.{hidden_behind, none_behind}
use Rattle.go_package_types.proofs.faults.hidden_fault.Goals as goal

pub note_hidden-requires-clause-fits : goal.note_hidden-requires-clause-fits
note_hidden-requires-clause-fits c = fits_grown c.args.types.now c.loop-number.types c.count.ensures.table c.loop-number.invariant.0 c.args.world.now c.requires.fits

pub note_hidden-requires-clause-known : goal.note_hidden-requires-clause-known
note_hidden-requires-clause-known c = known_grown c.args.types.now c.loop-number.types c.count.ensures.table c.loop-number.invariant.0 c.args.known.now c.requires.known

pub returns-in_err-found-clause-grows : goal.returns-in_err-found-clause-grows
returns-in_err-found-clause-grows c = grows_both c.args.types.now c.loop-number.types c.note_hidden.new.types c.loop-number.invariant.0 c.note_hidden.ensures.grows

pub loop-number-preserved : goal.loop-number-preserved
loop-number-preserved c =
    let a = c.args.types.now in
    let b = c.loop-number.types in
    let z = c.note_hidden.new.types in
    let w = c.args.world.now in
    let p = package_in w in
    let os = outlines_in w in
    let ds = specifications_in w in
    let n = c.loop-number.number in
    let ok = c.count.ensures.table in
    let grown = c.loop-number.invariant.0 in (
      grows_both a b z grown c.note_hidden.ensures.grows,
      λ ss h.
          let size = length-map w.specifications.now specification_view in
          let test = c.loop-number-test.true in
          let at = element ds n (let lt : n < length ds = omega (arith, size, test) in lt) in
          hidden_behind p os ss ds n (least (hidden_failures p os ss ds)) at.0 (option_map failure_of c.loop-number.found) (option_map failure_of c.in_ok-found.found) at.2
          (c.in_ok-found.ensures.fault ss at.0 (tells_more a b ok grown w c.args.known.now ss c.requires.known h) at.1)
          (c.loop-number.invariant.1 ss h),
    )

pub returns-clause-fault : goal.returns-clause-fault
returns-clause-fault c = λ ss h.
    let w = c.args.world.now in
    let ds = specifications_in w in
    let size = length-map w.specifications.now specification_view in
    let test = c.loop-number-test.false in
    none_behind (package_in w) (outlines_in w) ss ds c.loop-number.number (least (hidden_failures (package_in w) (outlines_in w) ss ds)) (option_map failure_of c.loop-number.found)
    (let le : length ds ≤ c.loop-number.number = omega (arith, size, test) in le) (c.loop-number.invariant.1 ss h)
