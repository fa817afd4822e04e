-- Values that are read at places.
use Rattle.std.specs.Prelude.{◌≡◌, ℕ, List, [], ◌∷◌, Option, Some, None, Result, Ok, Err, take, drop}
use Rattle.go_typed.specs.declared.node.TypedNode.{TypedNode}
use Rattle.go_typed.specs.Packages.{PackageView}
use Rattle.go_meaning.specs.Values as meant
use Rattle.go_meaning.specs.Doings.{at}
use Rattle.go_values.specs.declared.value.Value.{Value}
use Rattle.go_values.specs.Views.{view, views}
use Rattle.go_eval_plans.specs.declared.exit.Exit.{Exit}
use Rattle.go_eval_plans.specs.Machines.{outcome, Reads, IsLeft}
use Rattle.go_eval_machine.specs.declared.engine.Engine.{Engine}
use Rattle.go_eval_machine.specs.Tasks.{parts_of}
use Rattle.go_eval_machine.specs.Engines.{IsKept}

-- The place that the first part is was read, and nothing changed; where it wasn't read its operands are dropped.
abbrev pub IsLoaded : PackageView → TypedNode → ℕ → Engine → Result Value Exit → Engine → Type 0
IsLoaded p x b old (Ok v) new = (new ≡ old) × ((n : ℕ) → Reads ((at (parts_of p n x) 0).load (drop b (views old.values.items))) old.depth old.machine (view v))
IsLoaded p x b old (Err e) new =
    IsKept old new × ((views new.values.items ≡ take b (views old.values.items)) × ((n : ℕ) → IsLeft e old.machine (outcome ((at (parts_of p n x) 0).load (drop b (views old.values.items))) old.depth old.machine)))

-- what an operation gave
abbrev pub given_values : Option Value → List meant.Value
given_values None = []
given_values (Some v) = view v ∷ []
