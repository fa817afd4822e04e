-- What is run of a package, and what is said of its run.
use Rattle.std.specs.Prelude.{◌≡◌, ℕ, List, [], ◌∷◌, map, Option, Some, None, Result, Ok, Err, slice_get}
use Rattle.std.specs.Option.{option_map}
use Rattle.go_typed.specs.declared.node.TypedNode.{TypedNode}
use Rattle.go_typed.specs.Packages.{PackageView}
use Rattle.go_typed.specs.Views.{Known, seen}
use Rattle.go_meaning.specs.Computations.{Comp, Outcome, in_order}
use Rattle.go_meaning.specs.Meaning.{Run, Ended, Panicked, Unfinished, run, called, bounded, all_bounded, program, start}
use Rattle.go_values.specs.Views.{views, panic_view}
use Rattle.go_values.specs.Worlds.{world_view}
use Rattle.go_eval_plans.specs.declared.machine.Machine.{Machine}
use Rattle.go_eval_plans.specs.Machines.{outcome}
use Rattle.go_eval_plans.specs.Programs.{code_of, program_of}
use Rattle.go_eval.specs.declared.outcome.Outcome as outcomes
use Rattle.go_eval.specs.declared.outcome.Outcome.TheVariants as ends
use Rattle.go_eval.specs.declared.outcome.RunError.{RunError}
use Rattle.go_eval.specs.declared.outcome.RunError.TheVariants as errors
use Rattle.go_eval.specs.Entry.{main_number}

-- how deep calls may go
abbrev pub depth : ℕ
depth = 100000

-- ---- the answer

abbrev pub outcome_view : outcomes.Outcome → Run
outcome_view (ends.Ended output) = Ended output.items
outcome_view (ends.Panicked panic output) = Panicked (panic_view panic) output.items
outcome_view (ends.Undecided output) = Unfinished output.items

-- the refusal that an error names
abbrev pub refusal : RunError → Option RunError
refusal errors.Memory = None
refusal e = Some e

abbrev pub run_by : PackageView → List ℕ → ℕ → Option ℕ → Result Run RunError
run_by p input turns (Some main) = Ok (run (program_of p main) input turns depth)
run_by p input turns None = Err errors.NoMain

-- the run with this input and so many turns, where there is a function to run
abbrev pub run_package : PackageView → List ℕ → ℕ → Result Run RunError
run_package p input turns = run_by p input turns (main_number p)

-- ---- its parts, by a bound on what is inside one another

-- what a tree comes to
abbrev pub tree_run : PackageView → TypedNode → ℕ → Machine → Outcome
tree_run p x n m = outcome (bounded (program_of p 0) n (seen p.types x)) depth m

-- trees, one after the other
abbrev pub in_turn : PackageView → ℕ → List TypedNode → Comp
in_turn p n xs = in_order (all_bounded (program_of p 0) n (map (seen p.types) xs))

abbrev pub trees_run : PackageView → List TypedNode → ℕ → Machine → Outcome
trees_run p xs n m = outcome (in_turn p n xs) depth m

-- the call of the function of this number, without arguments
abbrev pub main_call : PackageView → ℕ → ℕ → Comp
main_call p main n = called (bounded (program_of p 0) n) [] (option_map (code_of p.types) (slice_get p.functions main))

abbrev pub main_run : PackageView → ℕ → ℕ → Machine → Outcome
main_run p main n m = outcome (main_call p main n) depth m

abbrev pub program_run : PackageView → ℕ → ℕ → Machine → Outcome
program_run p main n m = outcome (program (program_of p main) n) depth m

-- the types of all these are among the first k
abbrev pub AreKnown : ℕ → List TypedNode → Type 0
AreKnown k [] = Unit {0}
AreKnown k (x ∷ xs) = Known k x × AreKnown k xs

-- ---- the state in which it begins

pub record Begins (p : PackageView) (input : List ℕ) (given : ℕ) (m : Machine) : Type 0 where
  pub frame : views m.frame.items ≡ []
  pub world : (main : ℕ) → world_view m.world ≡ start (program_of p main) input
  pub turns : m.turns ≡ given
