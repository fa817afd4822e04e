use Rattle.std.proofs.Common.{◌≡◌, true, length, Some, refl, ap, sym, ◌∙◌}
use Rattle.std.proofs.lemmas.Option.{slice_get_read}
use Rattle.std.specs.Prelude.{slice_get}
use Rattle.std.specs.Option.{option_map}
use Rattle.go_tree.specs.Failures.{least_from}
use Rattle.go_scopes.specs.Views.{failure_of}
use Rattle.go_scopes_lookup.proofs.Public.{get_some}
use Rattle.go_package_defs.specs.Answer.{is_main_package}
use Rattle.go_package_rounds.specs.World.{package_in, outlines_in}
use Rattle.go_package_types.proofs.Standing.{seen_at, mains_step, mains_none}
use Rattle.go_package_types.proofs.main_function.note_mains.Goals as goal

pub returns-then-not-branch : goal.returns-then-not-branch
returns-then-not-branch c = λ ss e pass.
    let p = package_in c.args.world.now in
    let os = outlines_in c.args.world.now in
    sym (ap (least_from (option_map failure_of c.args.found)) (mains_none p os ss (sym c.in_ok-is_main_package.ensures ∙ c.if-not-branch.true) 0 p.uses.package_level))

pub loop-number-preserved : goal.loop-number-preserved
loop-number-preserved c = λ ss e pass.
    let p = package_in c.args.world.now in
    let os = outlines_in c.args.world.now in
    let hs = c.args.all.now in
    let xs = c.args.passing.now in
    let n = c.loop-number.number in
    let k = c.in-Some-Some.known.now in
    let x = c.in-Some-Some.passes.now in
    let known : slice_get hs n ≡ Some k = slice_get_read hs (length hs) n k refl c.in-Some-Some.ensures.lookup.3.0 c.in-Some-Some.ensures.lookup.1 in
    let passing : slice_get xs n ≡ Some x = slice_get_read xs (length xs) n x refl c.in-Some-Some.ensures'.lookup.3.0 c.in-Some-Some.ensures'.lookup.1 in
    let main : is_main_package p ≡ true = sym c.in_ok-is_main_package.ensures ∙ c.if-not-branch.false in
    mains_step p os ss p.uses.package_level n _ (option_map failure_of c.loop-number.fault) (option_map failure_of c.in_ok-fault.fault)
    (ap (λ ds. slice_get ds n) (sym c.package_objects-objects.ensures.objects) ∙ get_some c.package_objects-objects.result.now n _ c.loop-number-test.true)
    (c.in_ok-fault.ensures ss n main (pass.at_once n x passing) (seen_at c.args.types.now hs ss n k e known))
    ∙ c.loop-number.invariant ss e pass
