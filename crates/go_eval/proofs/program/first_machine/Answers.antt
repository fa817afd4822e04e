use Rattle.std.proofs.Common.{◌≡◌, refl, ap, ◌∙◌}
use Rattle.go_values.specs.Views.{views}
use Rattle.go_eval.proofs.Programs.{begins_so}
use Rattle.go_eval.proofs.program.first_machine.Goals as goal

pub returns : goal.returns
returns c =
    let p = c.args.checked.now in
    let objects : c.package_objects.result.now ≡ p.uses.package_level = c.package_objects.ensures.objects ∙ ap (λ u. u.package_level) c.uses.ensures in
    begins_so p c.args.input.now c.in_ok-bytes.bytes.items c.args.turns c.variable_count-count.result c.package_objects.result.now
    (record { frame = c.new-2.result; world = c.in_ok-world.world; turns = c.args.turns }) (ap views c.new-2.ensures.items) (c.in_ok-bytes.ensures.items_if_clones_equal (λ x y e. e)) objects
    c.variable_count-count.ensures c.in_ok-world.ensures refl
