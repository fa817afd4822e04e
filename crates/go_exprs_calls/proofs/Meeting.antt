-- Arguments meet as operands do.
use Rattle.std.proofs.Common.{◌≡◌, refl}
use Rattle.go_types.specs.Relations.{Rights}
use Rattle.go_typed.specs.Trees.{sort_of}
use Rattle.go_typed.specs.Trees as sort
use Rattle.go_exprs_rules.specs.Sorts.{Stands}
use Rattle.go_exprs_rules.specs.Operators.{own, common}
use Rattle.go_exprs_rules.specs.Calls.{met}
use Rattle.go_exprs_calls.specs.Meeting.{MeetAsOperands}

two_meet : (rights : Rights) (a b : Stands) → met rights (own a) (own b) ≡ common rights a b
two_meet rights (sort.Value t) (sort.Value u) = refl
two_meet rights (sort.Value t) (sort.Constant u d) = refl
two_meet rights (sort.Value t) (sort.Open v) = refl
two_meet rights (sort.Value t) (sort.OpenConstant d) = refl
two_meet rights (sort.Value t) b = refl
two_meet rights (sort.Constant t c) (sort.Value u) = refl
two_meet rights (sort.Constant t c) (sort.Constant u d) = refl
two_meet rights (sort.Constant t c) (sort.Open v) = refl
two_meet rights (sort.Constant t c) (sort.OpenConstant d) = refl
two_meet rights (sort.Constant t c) b = refl
two_meet rights (sort.Open u) (sort.Value t) = refl
two_meet rights (sort.Open u) (sort.Constant t d) = refl
two_meet rights (sort.Open u) (sort.Open v) = refl
two_meet rights (sort.Open u) (sort.OpenConstant d) = refl
two_meet rights (sort.Open u) b = refl
two_meet rights (sort.OpenConstant c) (sort.Value t) = refl
two_meet rights (sort.OpenConstant c) (sort.Constant t d) = refl
two_meet rights (sort.OpenConstant c) (sort.Open v) = refl
two_meet rights (sort.OpenConstant c) (sort.OpenConstant d) = refl
two_meet rights (sort.OpenConstant c) b = refl
two_meet rights a (sort.Value t) = refl
two_meet rights a (sort.Constant t d) = refl
two_meet rights a b = refl

pub arguments_meet : MeetAsOperands
arguments_meet rights x y = two_meet rights (sort_of x) (sort_of y)
