-- Ways out through tasks.
use Rattle.std.specs.Prelude.{◌≡◌, ℕ, suc, List, Vec, Result, Ok, Err, take}
use Rattle.std.specs.declared.alloc.Global.{Global}
use Rattle.go_typed.specs.declared.node.TypedNode.{TypedNode}
use Rattle.go_typed.specs.Packages.{PackageView}
use Rattle.go_meaning.specs.Values as meant
use Rattle.go_meaning.specs.Computations as meaning
use Rattle.go_meaning.specs.Computations.{Comp, undecided}
use Rattle.go_values.specs.declared.value.Value.{Value}
use Rattle.go_values.specs.Views.{views, panic_view}
use Rattle.go_eval_plans.specs.declared.exit.Exit.{Exit}
use Rattle.go_eval_plans.specs.declared.exit.Exit.TheVariants as exit
use Rattle.go_eval_plans.specs.Machines.{values_view}
use Rattle.go_eval_machine.specs.declared.task.What.{What}
use Rattle.go_eval_machine.specs.declared.engine.Engine.{Engine}
use Rattle.go_eval_machine.specs.Rests.{Rest}
use Rattle.go_eval_machine.specs.Tasks.{task_rest}
use Rattle.go_eval_machine.specs.Engines.{Work}

-- a rest, behind what isn't next
abbrev pub out_by : Exit → Rest → List meant.Value → Comp
out_by (exit.Return us) r vs = r.out vs (meaning.Return (values_view us))
out_by exit.Break r vs = r.out vs meaning.Break
out_by exit.Continue r vs = r.out vs meaning.Continue
out_by exit.Fallthrough r vs = r.out vs meaning.Fallthrough
out_by (exit.Panic k) r vs = r.out vs (meaning.Panics (panic_view k))
out_by exit.Undecided r vs = undecided
out_by exit.Memory r vs = undecided

-- the way out through a task
abbrev pub outs : PackageView → TypedNode → ℕ → What → Exit → Work
outs p x b w e n r vs = out_by e (task_rest p n x b w r) vs

-- The values behind the base are dropped, the frame is that one, and a call may go one deeper.
pub record LeftBody (base : ℕ) (frame : Vec Value Global) (old new : Engine) : Type 0 where
  pub tasks : new.tasks ≡ old.tasks
  pub values : views new.values.items ≡ take base (views old.values.items)
  pub depth : new.depth ≡ suc old.depth
  pub machine : new.machine ≡ record old.machine { frame = frame }

abbrev pub IsLeftBody : {X : Type 0} → ℕ → Vec Value Global → Engine → Result X Exit → Engine → Type 0
IsLeftBody base frame old (Ok x) new = LeftBody base frame old new
IsLeftBody base frame old (Err e) new = e ≡ exit.Memory
