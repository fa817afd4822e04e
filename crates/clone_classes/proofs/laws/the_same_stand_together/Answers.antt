use Rattle.std.specs.Prelude.{nat_eq}
use Rattle.clone_classes.specs.Listing.{windows_of_all}
use Rattle.clone_window.specs.Bodies.{are_same}
use Rattle.clone_classes.proofs.Groups.{same-stand-together}
use Rattle.clone_classes.proofs.Sameness.{within, numbers}
use Rattle.clone_classes.proofs.laws.the_same_stand_together.Goals as goal

pub returns : goal.returns
returns c = λ fields bounds bodies w v n h. same-stand-together (are_same nat_eq fields fields bodies bodies) (within nat_eq numbers fields bodies) (windows_of_all bounds 0 bodies) w v n h
