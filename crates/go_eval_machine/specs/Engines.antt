-- What steps of the machine come to.
use Rattle.std.specs.Prelude.{◌≡◌, ◌≤◌, ◌<◌, ◌∷◌, ◌++◌, ℕ, List, [], Result, Ok, Err, length, take, drop}
use Rattle.go_typed.specs.declared.node.TypedNode.{TypedNode}
use Rattle.go_typed.specs.declared.node.TypedNode.TheViews.{out-TypedNode}
use Rattle.go_typed.specs.Packages.{PackageView}
use Rattle.go_typed.specs.Views.{all_seen, sort_seen}
use Rattle.go_types.specs.Tables.{type_of, rights_of}
use Rattle.go_meaning.specs.Values as meant
use Rattle.go_meaning.specs.Computations as meaning
use Rattle.go_meaning.specs.Computations.{Outcome, Undecided, Comp, read, falling}
use Rattle.go_meaning.specs.Doings.{at, values_of, doing_of}
use Rattle.go_meaning.specs.Operations.{Operation, operate}
use Rattle.go_eval_plans.specs.declared.plan.Plan.{Plan}
use Rattle.go_eval_plans.specs.Views.{plan_view}
use Rattle.go_values.specs.declared.value.Value.{Value}
use Rattle.go_values.specs.Views.{views, panic_view}
use Rattle.go_values.specs.Worlds.{world_view}
use Rattle.go_eval_plans.specs.declared.exit.Exit.{Exit}
use Rattle.go_eval_plans.specs.declared.exit.Exit.TheVariants as exit
use Rattle.go_eval_plans.specs.Machines.{values_view}
use Rattle.go_eval_plans.specs.Programs.{calls, doing, again}
use Rattle.go_eval_machine.specs.declared.task.What.{What}
use Rattle.go_eval_machine.specs.declared.task.What.TheVariants as what
use Rattle.go_eval_machine.specs.declared.engine.Engine.{Engine}
use Rattle.go_eval_machine.specs.Rests.{Rest, then_rest}
use Rattle.go_eval_machine.specs.Tasks.{parts_of, rest, task_rest, IsFit, AreFit}

abbrev pub in_state : Comp → Engine → Outcome
in_state c m = c m.depth (views m.machine.frame.items) (world_view m.machine.world) m.machine.turns

-- the tasks on the way out
abbrev pub leaves : PackageView → ℕ → Engine → meaning.Ending → Outcome
leaves p n m e = in_state ((rest p n m.tasks.items).out (views m.values.items) e) m

-- What is left behind a step is the outcome; where memory is wanting nothing is meant.
abbrev pub IsNext : {X : Type 0} → PackageView → ℕ → Result X Exit → Engine → Outcome → Type 0
IsNext p n (Ok x) m o = o ≡ in_state ((rest p n m.tasks.items).go (views m.values.items)) m
IsNext p n (Err (exit.Return vs)) m o = o ≡ leaves p n m (meaning.Return (values_view vs))
IsNext p n (Err exit.Break) m o = o ≡ leaves p n m meaning.Break
IsNext p n (Err exit.Continue) m o = o ≡ leaves p n m meaning.Continue
IsNext p n (Err exit.Fallthrough) m o = o ≡ leaves p n m meaning.Fallthrough
IsNext p n (Err (exit.Panic k)) m o = o ≡ leaves p n m (meaning.Panics (panic_view k))
IsNext p n (Err exit.Undecided) m o = o ≡ Undecided (world_view m.machine.world).output
IsNext p n (Err exit.Memory) m o = Unit {0}

-- a computation, by the bound on what is inside one another, the rest and the values
abbrev pub Work : Type 0
Work = ℕ → Rest → List meant.Value → Comp

-- The work is what is left behind the step, under each bound above the turns.
pub record Went {X : Type 0} (p : PackageView) (c : Work) (old : Engine) (r : Result X Exit) (new : Engine) : Type 0 where
  pub fits : AreFit (length p.types.shapes) old.tasks.items → AreFit (length p.types.shapes) new.tasks.items
  pub turns : new.machine.turns ≤ old.machine.turns
  pub next : (n : ℕ) → old.machine.turns < n → IsNext p n r new (in_state (c n (rest p n old.tasks.items) (views old.values.items)) old)

abbrev pub Goes : {X : Type 0} → PackageView → Work → Engine → Result X Exit → Engine → Type 0
Goes p c old (Err exit.Memory) new = Unit {0}
Goes p c old r new = Went p c old r new

-- ---- works

abbrev pub asks : PackageView → TypedNode → Work
asks p x n r vs = then_rest (doing p n x).value r vs

abbrev pub seeks : PackageView → TypedNode → Work
seeks p x n r vs = then_rest (doing p n x).find r vs

-- the part of this number
abbrev pub asks_part : PackageView → TypedNode → ℕ → Work
asks_part p x k n r vs = then_rest (at (parts_of p n x) k).value r vs

abbrev pub seeks_part : PackageView → TypedNode → ℕ → Work
seeks_part p x k n r vs = then_rest (at (parts_of p n x) k).find r vs

abbrev pub works : PackageView → TypedNode → ℕ → What → Work
works p x b w n r vs = (task_rest p n x b w r).go vs

-- ---- small changes

-- a task is put on top
pub record IsPushed (x : TypedNode) (b : ℕ) (w : What) (old new : Engine) : Type 0 where
  pub rest : (p : PackageView) (n : ℕ) → rest p n new.tasks.items ≡ task_rest p n x b w (rest p n old.tasks.items)
  pub fits : (k : ℕ) → IsFit k x w → AreFit k old.tasks.items → AreFit k new.tasks.items
  pub values : new.values ≡ old.values
  pub machine : new.machine ≡ old.machine
  pub depth : new.depth ≡ old.depth

-- only the values are others
pub record IsKept (old new : Engine) : Type 0 where
  pub tasks : new.tasks ≡ old.tasks
  pub machine : new.machine ≡ old.machine
  pub depth : new.depth ≡ old.depth

-- ---- works of tasks that are put on top of the values

-- the task alone
abbrev pub lays : PackageView → TypedNode → What → Work
lays p x w n r vs = (task_rest p n x (length vs) w r).go vs

-- the value of a part first
abbrev pub lays_value : PackageView → TypedNode → What → ℕ → Work
lays_value p x w k n r vs = then_rest (at (parts_of p n x) k).value (task_rest p n x (length vs) w r) vs

-- the operands of a part first
abbrev pub lays_find : PackageView → TypedNode → What → ℕ → Work
lays_find p x w k n r vs = then_rest (at (parts_of p n x) k).find (task_rest p n x (length vs) w r) vs

-- the values of the first parts first
abbrev pub lays_values : PackageView → TypedNode → What → ℕ → Work
lays_values p x w end n r vs = (task_rest p n x (length vs) (what.Values 0 end) (task_rest p n x (length vs) w r)).go vs

-- the operands of the first parts first
abbrev pub lays_finds : PackageView → TypedNode → What → ℕ → Work
lays_finds p x w end n r vs = (task_rest p n x (length vs) (what.Finds 0 end) (task_rest p n x (length vs) w r)).go vs

-- a value that is given first
abbrev pub lays_given : PackageView → TypedNode → What → meant.Value → Work
lays_given p x w v n r vs = (task_rest p n x (length vs) w r).go (vs ++ v ∷ [])

-- a value that is given
abbrev pub gives : meant.Value → Work
gives v n r vs = r.go (vs ++ v ∷ [])

-- nothing is done
abbrev pub skips : Work
skips n r vs = r.go vs

-- what a local is
abbrev pub reads : ℕ → Work
reads i n r vs = then_rest (read i) r vs

-- an operation without operands
abbrev pub operates : Operation → Work
operates o n r vs = then_rest (operate o []) r vs

-- the value of a node that has the plan
abbrev pub plan_value : PackageView → ℕ → TypedNode → Plan → Comp
plan_value p n x q =
    (doing_of (calls p n) (again p n x) (plan_view (rights_of p.types) (type_of p.types.shapes) (sort_seen p.types (out-TypedNode x).sort) (all_seen p.types (out-TypedNode x).parts.items) q) (parts_of p n x)).value

abbrev pub begins : PackageView → TypedNode → Plan → Work
begins p x q n r vs = then_rest (plan_value p n x q) r vs

-- the clauses from one on
abbrev pub falls : PackageView → TypedNode → ℕ → ℕ → Work
falls p x b next n r vs = then_rest (falling (values_of (drop next (parts_of p n x)))) r (take b vs)
