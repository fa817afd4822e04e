use Rattle.std.proofs.Common.{◌≡◌, true, false, sym, ◌∙◌}
use Rattle.go_tree.specs.Views.{views}
use Rattle.go_package_types.specs.Places as places
use Rattle.go_package_types.proofs.Standing.{each_listed}
use Rattle.go_package_types.proofs.stands.specification_stands.Goals as goal
use Rattle.go_package_types.proofs.stands.specification_stands.Goals.{then-stands, else-stands}

pub returns-then-part_stands : goal.returns-then-part_stands
returns-then-part_stands c =
    elim c.if-stands.branch [
      | then-stands w ↦ λ h. record {
        itself = sym c.stands.ensures ∙ w.if-stands.true;
        of = w.part_stands.ensures (sym w.value-is ∙ c.if-part_stands.true);
        values = each_listed (places.stands c.args.tokens.now) (views c.args.specification.now.values.now) (c.each_part.ensures h);
      }
      | else-stands w ↦ let no : true ≡ false = sym c.if-part_stands.true ∙ w.value-is ∙ w.if-stands.false in absurd cc
    ]
