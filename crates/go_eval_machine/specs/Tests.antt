-- Tests of indexes.
use Rattle.std.specs.Prelude.{◌≡◌, ℕ, [], Result, Ok, Err, drop}
use Rattle.go_meaning.specs.Computations.{World}
use Rattle.go_meaning.specs.Operations.{Deed, Gives, Traps}
use Rattle.go_meaning.specs.Doings.{at}
use Rattle.go_typed.specs.declared.node.TypedNode.{TypedNode}
use Rattle.go_typed.specs.Packages.{PackageView}
use Rattle.go_values.specs.Views.{panic_view}
use Rattle.go_eval_plans.specs.declared.exit.Exit.{Exit}
use Rattle.go_eval_plans.specs.declared.exit.Exit.TheVariants as exit
use Rattle.go_eval_machine.specs.Rests.{then_rest}
use Rattle.go_eval_machine.specs.Tasks.{parts_of}
use Rattle.go_eval_machine.specs.Engines.{Work}

-- It passes, or panics, in every world.
abbrev pub IsTest : {X : Type 0} → Result X Exit → (World → Deed) → Type 0
IsTest (Ok x) c = (w : World) → c w ≡ Gives [] w
IsTest (Err (exit.Panic k)) c = (w : World) → c w ≡ Traps (panic_view k)
IsTest (Err e) c = ⊥

-- the test of a part, whose operands stand above the base
abbrev pub tests : PackageView → TypedNode → (number base : ℕ) → Work
tests p x k b n r vs = then_rest ((at (parts_of p n x) k).test (drop b vs)) r vs
