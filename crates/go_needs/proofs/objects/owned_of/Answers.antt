use Rattle.std.proofs.Common.{arith, ◌≡◌, ◌-◌, ◌∷◌, ◌∙◌, ap, map, drop}
use Rattle.std.specs.Option.{option_map}
use Rattle.go_scopes_lookup.specs.Views.{found_view}
use Rattle.go_package_defs.specs.Sources.{declared_at}
use Rattle.go_needs.specs.Owners.{owner_of}
use Rattle.go_needs.proofs.Lists.{drop-back, drop-nothing}
use Rattle.go_needs.proofs.objects.owned_of.Goals as goal

pub loop-number-preserved : goal.loop-number-preserved
loop-number-preserved c = λ n t.
    let number = c.loop-number.number in
    let d = c.index-found-number.result in
    let back : drop (number - 1) c.args.found.now ≡ d ∷ drop number c.args.found.now =
    drop-back c.args.found.now number (number - 1) d (omega (arith, c.loop-number-test.true)) (omega (arith, c.loop-number-test.true, c.loop-number.auto.number)) c.index-found-number.is in
    let front = ap (λ l. option_map owner_of (declared_at n t (map found_view l))) back in
    grind (arith, c.in_ok-insert.ensures.updates.0 (n, t), c.loop-number.invariant n t, c.owner_of.ensures, c.file_of.ensures, c.name_of.ensures, front)

pub returns : goal.returns
returns c = λ n t. c.loop-number.invariant n t ∙ drop-nothing (λ l. option_map owner_of (declared_at n t (map found_view l))) c.args.found.now c.loop-number.number c.loop-number-test.false
