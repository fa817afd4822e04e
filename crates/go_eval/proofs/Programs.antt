-- The number of `main` counts for the call of `main` alone.
use Rattle.std.proofs.Common.{◌≡◌, ◌<◌, ℕ, zero, suc, List, [], ◌∷◌, refl, sym, ap, ◌∙◌, subst, arith, Option, Result, Ok, Err}
use Rattle.std.specs.Prelude.{map, slice_get}
use Rattle.go_types.specs.Trees.{TypeTree}
use Rattle.go_types.specs.Tables.{rights_of}
use Rattle.go_typed.specs.Trees.{Typed}
use Rattle.go_tree.specs.declared.object.Declared.{Declared}
use Rattle.go_typed.specs.Packages.{PackageView, counts_from, no_counts}
use Rattle.go_typed.specs.Views.{seen}
use Rattle.go_meaning.specs.Values as meant
use Rattle.go_meaning.specs.Computations.{Comp, Outcome, then_do, in_order}
use Rattle.go_meaning.specs.Meaning.{Code, Program, meaning, called, bounded, all_bounded, program, start}
use Rattle.go_values.specs.Views.{views}
use Rattle.go_values.specs.Worlds.{world_view}
use Rattle.go_eval_plans.specs.declared.exit.Exit.{Exit}
use Rattle.go_eval_plans.specs.declared.exit.Exit.TheVariants as exit
use Rattle.go_eval_plans.specs.declared.machine.Machine.{Machine}
use Rattle.go_eval_plans.specs.Machines.{outcome}
use Rattle.go_eval_plans.specs.Programs.{code_of, program_of}
use Rattle.go_eval.proofs.Calling.{get_map}
use Rattle.go_eval.specs.Ends.{IsRun, IsRan}
use Rattle.go_eval.specs.Runs.{depth, in_turn, trees_run, main_call, main_run, program_run, Begins}
use Rattle.go_eval.proofs.Sequences.{earlier, same_ran, then_left, then_next}

module _ (p : PackageView) (main : ℕ) where
  bounded_main : (n : ℕ) → bounded (program_of p main) n ≡ bounded (program_of p 0) n
  unfolding program_of
  bounded_main zero = refl
  bounded_main (suc n) = ap {B = Typed TypeTree → Comp} (λ (b : Typed TypeTree → Comp) (t : Typed TypeTree). (meaning (rights_of p.types) (λ g vs. called b vs (slice_get (map (code_of p.types) p.functions) g)) b t).value) (bounded_main n)

  all_main : (n : ℕ) (ts : List (Typed TypeTree)) → all_bounded (program_of p main) n ts ≡ all_bounded (program_of p 0) n ts
  all_main n [] = refl
  all_main n (t ∷ ts) =
      ap (λ (b : Typed TypeTree → Comp). b t ∷ all_bounded (program_of p main) n ts) (bounded_main n)
      ∙ ap (λ (cs : List Comp). bounded (program_of p 0) n t ∷ cs) (all_main n ts)

  -- the variables, then the call
  pub program_is : (n : ℕ) → program (program_of p main) n ≡ then_do (in_turn p n p.variables) (λ no. main_call p main n)
  unfolding program_of
  program_is n =
      ap (λ (cs : List Comp). then_do (in_order cs) (λ no. called (bounded (program_of p main) n) [] (slice_get (map (code_of p.types) p.functions) main))) (all_main n (map (seen p.types) p.variables))
      ∙ (ap (λ (b : Typed TypeTree → Comp). then_do (in_turn p n p.variables) (λ no. called b [] (slice_get (map (code_of p.types) p.functions) main))) (bounded_main n)
      ∙ ap (λ (o : Option Code). then_do (in_turn p n p.variables) (λ no. called (bounded (program_of p 0) n) [] o)) (get_map (code_of p.types) p.functions main))

  -- what they come to is what the package does
  pub program_ran : (old m new : Machine) (r : Result (Unit {0}) Exit) → IsRan {X = Unit {0}} (trees_run p p.variables) old (Ok tt) m → IsRan (main_run p main) m r new → IsRan (program_run p main) old r new
  program_ran old m new r h g = earlier (program_run p main) (main_run p main) old m new h.turns
      (λ n lt. ap (λ (c : Comp). outcome c depth old) (program_is n) ∙ then_next (λ k. in_turn p k p.variables) (λ k. main_call p main k) old m tt h n lt) r g

  pub program_left : (q : Exit) (old m : Machine) → IsRan {X = Unit {0}} (trees_run p p.variables) old (Err q) m → IsRan {X = Unit {0}} (program_run p main) old (Err q) m
  program_left q old m h = same_ran (program_run p main) (λ n k. outcome (then_do (in_turn p n p.variables) (λ no. main_call p main n)) depth k) old m
      (λ n. ap (λ (c : Comp). outcome c depth old) (program_is n)) (Err q) (then_left (λ k. in_turn p k p.variables) (λ k. main_call p main k) old m q h)

pub is_run : (c : ℕ → Machine → Outcome) (old : Machine) (r : Result (Unit {0}) Exit) (new : Machine) → IsRan c old r new → (n : ℕ) → old.turns < n → IsRun r new (c n old)
is_run c old (Ok x) new h n lt = h.is n lt
is_run c old (Err (exit.Return vs)) new h n lt = h.is n lt
is_run c old (Err exit.Break) new h n lt = h.is n lt
is_run c old (Err exit.Continue) new h n lt = h.is n lt
is_run c old (Err exit.Fallthrough) new h n lt = h.is n lt
is_run c old (Err (exit.Panic k)) new h n lt = h.is n lt
is_run c old (Err exit.Undecided) new h n lt = h.is n lt
is_run c old (Err exit.Memory) new h n lt = tt

-- from the first state on
module _ (p : PackageView) (main : ℕ) (input : List ℕ) (turns : ℕ) (m : Machine) (b : Begins p input turns m) where
  begun : outcome (program (program_of p main) (suc turns)) depth m ≡ program (program_of p main) (suc turns) depth [] (start (program_of p main) input) turns
  begun =
      ap (λ (f : List meant.Value). program (program_of p main) (suc turns) depth f (world_view m.world) m.turns) b.frame
      ∙ (ap (λ w. program (program_of p main) (suc turns) depth [] w m.turns) (b.world main)
      ∙ ap (λ (t : ℕ). program (program_of p main) (suc turns) depth [] (start (program_of p main) input) t) b.turns)

  pub ran_whole : (r : Result (Unit {0}) Exit) (new : Machine) → IsRan (program_run p main) m r new → IsRun r new (program (program_of p main) (suc turns) depth [] (start (program_of p main) input) turns)
  ran_whole r new h = subst (IsRun r new) begun (is_run (program_run p main) m r new h (suc turns) (omega (arith, b.turns)))

pub begins_so : (p : PackageView) (input bytes : List ℕ) (given count : ℕ) (ds : List Declared) (m : Machine) →
    views m.frame.items ≡ [] → bytes ≡ input → ds ≡ p.uses.package_level → count ≡ (counts_from no_counts ds).variables →
    ((P : Program) → P.count ≡ count → world_view m.world ≡ start P bytes) → m.turns ≡ given → Begins p input given m
unfolding program_of
begins_so p input bytes given count ds m ef eb ed ec w et = record {
  frame = ef;
  world = λ main. w (program_of p main) (sym (ec ∙ ap (λ (xs : List Declared). (counts_from no_counts xs).variables) ed)) ∙ ap (λ (b : List ℕ). start (program_of p main) b) eb;
  turns = et;
}
