-- What nodes are as places.
use Rattle.std.specs.Prelude.{◌≡◌, false, List, [], ◌∷◌, take}
use Rattle.go_eval_plans.specs.declared.plan.Plan.{Plan}
use Rattle.go_eval_plans.specs.declared.plan.Plan.TheVariants as plan
use Rattle.go_meaning.specs.Values.{Truth, nth}
use Rattle.go_meaning.specs.Computations.{give}
use Rattle.go_meaning.specs.Doings.{Doing, absent, at, values_of, local_place, name_place, blank_place, variable_place, field_place, element_place, cell_place, chosen_by}
use Rattle.go_meaning.specs.Doings as doings
use Rattle.go_eval_plans.specs.declared.places.Place.{Place}
use Rattle.go_eval_plans.specs.declared.places.Place.TheVariants as place

abbrev pub place_of : Plan → Place
place_of (plan.Local n) = place.Local n
place_of (plan.Declare n) = place.Name n
place_of (plan.Variable n) = place.Variable n
place_of plan.Ignore = place.Blank
place_of plan.Inner = place.Inner
place_of (plan.FieldOf n) = place.Field n
place_of (plan.ElementOf n) = place.Element n
place_of plan.CellOf = place.Cell
place_of (plan.CaseOf n) = place.Case n
place_of plan.Otherwise = place.Otherwise
place_of p = place.Nothing

-- what a place can be asked to do, by its parts; its value aside
abbrev pub place_doing : Place → List Doing → Doing
place_doing (place.Local n) xs = local_place n
place_doing (place.Name n) xs = name_place n
place_doing (place.Variable n) xs = variable_place n
place_doing place.Blank xs = blank_place
place_doing place.Inner xs = at xs 0
place_doing (place.Field n) xs = field_place n (at xs 0)
place_doing (place.Element n) xs = element_place n (at xs 0) (at xs 1)
place_doing place.Cell xs = cell_place (at xs 0) (at xs 1)
place_doing (place.Case n) xs = chosen_by (λ us. doings.matches (nth us 0) (values_of (take n xs))) (give [])
place_doing place.Otherwise xs = chosen_by (λ us. give (Truth false ∷ [])) (give [])
place_doing place.Nothing xs = absent

-- Both are the same place.
pub record IsPlace (x y : Doing) : Type 0 where
  pub find : x.find ≡ y.find
  pub width : x.width ≡ y.width
  pub test : x.test ≡ y.test
  pub load : x.load ≡ y.load
  pub store : x.store ≡ y.store
