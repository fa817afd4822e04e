-- The world of the meaning that a world of the program stands for.
use Rattle.std.specs.Prelude.{List, map, drop, Vec}
use Rattle.std.specs.declared.alloc.Global.{Global}
use Rattle.go_meaning.specs.Values as meant
use Rattle.go_meaning.specs.Computations as meaning
use Rattle.go_values.specs.declared.value.Value.{Value}
use Rattle.go_values.specs.declared.world.World.{World}
use Rattle.go_values.specs.Views.{views}

abbrev pub array_views : List (Vec Value Global) → List (List meant.Value)
array_views arrays = map (λ a. views a.items) arrays

abbrev pub world_view : World → meaning.World
world_view w = record { arrays = array_views w.arrays.items; variables = views w.variables.items; input = drop w.read w.input.items; output = w.output.items }
