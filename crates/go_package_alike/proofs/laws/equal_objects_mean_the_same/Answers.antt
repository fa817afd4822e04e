use Rattle.go_package_alike.proofs.Objects.{mean_same}
use Rattle.go_package_alike.proofs.laws.equal_objects_mean_the_same.Goals as goal

pub returns : goal.returns
returns c s t a o q e = mean_same s t a o q e
