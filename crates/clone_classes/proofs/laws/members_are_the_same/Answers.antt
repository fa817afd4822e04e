use Rattle.std.specs.Prelude.{nat_eq}
use Rattle.clone_classes.specs.Listing.{windows_of_all}
use Rattle.clone_window.specs.Bodies.{are_same}
use Rattle.clone_classes.proofs.Groups.{members-are-windows, members-are-same}
use Rattle.clone_classes.proofs.Sameness.{within, numbers}
use Rattle.clone_classes.proofs.laws.members_are_the_same.Goals as goal

pub returns-clause-windows : goal.returns-clause-windows
returns-clause-windows c = λ fields bounds bodies class h. members-are-windows (are_same nat_eq fields fields bodies bodies) (within nat_eq numbers fields bodies) (windows_of_all bounds 0 bodies) class h

pub returns-clause-alike : goal.returns-clause-alike
returns-clause-alike c = λ fields bounds bodies class h. members-are-same (are_same nat_eq fields fields bodies bodies) (within nat_eq numbers fields bodies) (windows_of_all bounds 0 bodies) class h
