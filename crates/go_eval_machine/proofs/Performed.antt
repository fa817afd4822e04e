-- What a deed at a node comes to.
use Rattle.std.proofs.Common.{◌≡◌, ℕ, List, [], ◌∷◌, ◌++◌, take, drop, sym, ap, ◌∙◌, subst, Err}
use Rattle.go_typed.specs.declared.node.TypedNode.{TypedNode}
use Rattle.go_typed.specs.Packages.{PackageView}
use Rattle.go_meaning.specs.Values as meant
use Rattle.go_meaning.specs.Computations.{World, Panics}
use Rattle.go_meaning.specs.Operations.{Gives, Traps, perform}
use Rattle.go_values.specs.declared.value.Value.{Value}
use Rattle.go_values.specs.declared.panic.Panic.{Panic}
use Rattle.go_values.specs.declared.panic.Stop.{Stop}
use Rattle.go_values.specs.declared.panic.Stop.TheVariants as stop
use Rattle.go_values.specs.Views.{views, panic_view}
use Rattle.go_values.specs.Worlds.{world_view}
use Rattle.go_eval_plans.specs.declared.exit.Exit.{Exit}
use Rattle.go_eval_plans.specs.declared.exit.Exit.TheVariants as exit
use Rattle.go_eval_plans.specs.declared.machine.Machine.{Machine}
use Rattle.go_eval_plans.specs.Machines.{IsExitOf}
use Rattle.go_eval_operations.specs.Performing.{IsPerformed}
use Rattle.go_eval_machine.specs.declared.task.Deed.{Deed}
use Rattle.go_eval_machine.specs.declared.task.What.TheVariants as what
use Rattle.go_eval_machine.specs.declared.engine.Engine.{Engine}
use Rattle.go_eval_machine.specs.Rests.{Rest}
use Rattle.go_eval_machine.specs.Tasks.{deed_view, task_rest}
use Rattle.go_eval_machine.specs.Engines.{Goes, works, IsKept}
use Rattle.go_eval_machine.proofs.Going.{goes_worlded, goes_panicked}
use Rattle.go_eval_machine.proofs.Rests.{Same}
use Rattle.go_eval_machine.proofs.Performing.{operation_gives, operation_does, operation_traps}

module _ (p : PackageView) (x : TypedNode) (b : ℕ) (o : Deed) (old m1 m : Engine) where
  same_world : IsKept old m1 → world_view m1.machine.world ≡ world_view old.machine.world
  same_world h = ap (λ (k : Machine). world_view k.world) h.machine

  pub deed_gives : (v : meant.Value) → IsKept old m1 → (us : List meant.Value) → us ≡ drop b (views old.values.items) → perform (deed_view p x o) us (world_view m1.machine.world) ≡ Gives (v ∷ []) (world_view m.machine.world) →
      (n : ℕ) (s : Rest) (d : ℕ) (f : List meant.Value) (t : ℕ) → works p x b (what.Perform o) n s (views old.values.items) d f (world_view old.machine.world) t ≡ s.go (take b (views old.values.items) ++ v ∷ []) d f (world_view m.machine.world) t
  unfolding task_rest
  deed_gives v h us e done n s d f t = operation_gives s (take b (views old.values.items)) d f (world_view old.machine.world) t (deed_view p x o) (drop b (views old.values.items)) v (world_view m.machine.world)
      (subst (λ (w : World). perform (deed_view p x o) (drop b (views old.values.items)) w ≡ Gives (v ∷ []) (world_view m.machine.world)) (same_world h) (subst (λ (ws : List meant.Value). perform (deed_view p x o) ws (world_view m1.machine.world) ≡ Gives (v ∷ []) (world_view m.machine.world)) e done))

  pub deed_does : IsKept old m1 → (us : List meant.Value) → us ≡ drop b (views old.values.items) → perform (deed_view p x o) us (world_view m1.machine.world) ≡ Gives [] (world_view m.machine.world) →
      (n : ℕ) (s : Rest) (d : ℕ) (f : List meant.Value) (t : ℕ) → works p x b (what.Perform o) n s (views old.values.items) d f (world_view old.machine.world) t ≡ s.go (take b (views old.values.items)) d f (world_view m.machine.world) t
  unfolding task_rest
  deed_does h us e done n s d f t = operation_does s (take b (views old.values.items)) d f (world_view old.machine.world) t (deed_view p x o) (drop b (views old.values.items)) (world_view m.machine.world)
      (subst (λ (w : World). perform (deed_view p x o) (drop b (views old.values.items)) w ≡ Gives [] (world_view m.machine.world)) (same_world h) (subst (λ (ws : List meant.Value). perform (deed_view p x o) ws (world_view m1.machine.world) ≡ Gives [] (world_view m.machine.world)) e done))

  -- an operation on two values, which leaves the world as it is
  pub computed_gives : (v : meant.Value) → ((w : World) → perform (deed_view p x o) (drop b (views old.values.items)) w ≡ Gives (v ∷ []) w) → (n : ℕ) (s : Rest) → Same (works p x b (what.Perform o) n s (views old.values.items)) (s.go (take b (views old.values.items) ++ v ∷ []))
  unfolding task_rest
  computed_gives v done n s d f w t = operation_gives s (take b (views old.values.items)) d f w t (deed_view p x o) (drop b (views old.values.items)) v w (done w)

  pub computed_traps : (k : Panic) → ((w : World) → perform (deed_view p x o) (drop b (views old.values.items)) w ≡ Traps (panic_view k)) → (n : ℕ) (s : Rest) → Same (works p x b (what.Perform o) n s (views old.values.items)) (s.out (take b (views old.values.items)) (Panics (panic_view k)))
  unfolding task_rest
  computed_traps k done n s d f w t = operation_traps s (take b (views old.values.items)) d f w t (deed_view p x o) (drop b (views old.values.items)) (panic_view k) (done w)

  traps : (k : Panic) → IsKept old m1 → (us : List meant.Value) → us ≡ drop b (views old.values.items) → perform (deed_view p x o) us (world_view m1.machine.world) ≡ Traps (panic_view k) → world_view m.machine.world ≡ world_view m1.machine.world →
      (n : ℕ) (s : Rest) (d : ℕ) (f : List meant.Value) (t : ℕ) → works p x b (what.Perform o) n s (views old.values.items) d f (world_view old.machine.world) t ≡ s.out (take b (views old.values.items)) (Panics (panic_view k)) d f (world_view m.machine.world) t
  unfolding task_rest
  traps k h us e done ew n s d f t = operation_traps s (take b (views old.values.items)) d f (world_view old.machine.world) t (deed_view p x o) (drop b (views old.values.items)) (panic_view k)
      (subst (λ (w : World). perform (deed_view p x o) (drop b (views old.values.items)) w ≡ Traps (panic_view k)) (same_world h) (subst (λ (ws : List meant.Value). perform (deed_view p x o) ws (world_view m1.machine.world) ≡ Traps (panic_view k)) e done))
      ∙ ap (λ (w : World). s.out (take b (views old.values.items)) (Panics (panic_view k)) d f w t) (sym (ew ∙ same_world h))

  pub deed_stops : (s : Stop) (e : Exit) → IsKept old m1 → views m1.values.items ≡ take b (views old.values.items) → m.tasks ≡ m1.tasks → m.values ≡ m1.values → m.depth ≡ m1.depth → m.machine.frame ≡ m1.machine.frame → m.machine.turns ≡ m1.machine.turns →
      (us : List meant.Value) → us ≡ drop b (views old.values.items) → IsPerformed (Err s) (perform (deed_view p x o) us (world_view m1.machine.world)) (world_view m1.machine.world) (world_view m.machine.world) → IsExitOf s e → Goes {X = Unit {0}} p (works p x b (what.Perform o)) old (Err e) m
  deed_stops (stop.Panic k) e h v et ev ed ef en us eu done i = subst (λ (e1 : Exit). Goes {X = Unit {0}} p (works p x b (what.Perform o)) old (Err e1) m) (sym i)
      (goes_worlded p (works p x b (what.Perform o)) (λ n s ws. s.out ws (Panics (panic_view k))) old m1 m (Err (exit.Panic k)) m (take b (views old.values.items)) h v et ev ed ef en (goes_panicked p m k) (traps k h us eu done.0 done.1))
  deed_stops stop.Memory e h v et ev ed ef en us eu done i = subst (λ (e1 : Exit). Goes {X = Unit {0}} p (works p x b (what.Perform o)) old (Err e1) m) (sym i) tt
