use Rattle.go_package_added.proofs.Ordered.{in_order}
use Rattle.go_package_added.proofs.laws.functions_are_specified_in_order.Goals as goal

pub returns : goal.returns
returns c ss h = in_order ss h
