use Rattle.std.proofs.Common.{◌≡◌, drop, map}
use Rattle.std.specs.Prelude.{max}
use Rattle.go_package_order.specs.Reaches as specs
use Rattle.go_package_order.proofs.reaches.most_of_fields.Given as goal

abbrev pub invariant-loop-field : goal.invariant-loop-field
invariant-loop-field l = max l.most (specs.most_of l.reaches (map (λ f. f.ty) (drop l.field-index l.fields))) ≡ specs.most_of l.reaches (map (λ f. f.ty) l.fields)
