-- Reading and writing places.
use Rattle.std.proofs.Common.{◌≡◌, ℕ, List, [], ◌∷◌, drop, refl, sym, ap, ◌∙◌, subst, Option, Some, None, Ok, Err}
use Rattle.go_types_relations.specs.Questions.{entry}
use Rattle.go_typed.specs.declared.node.TypedNode.{TypedNode}
use Rattle.go_typed.specs.Packages.{PackageView}
use Rattle.go_meaning.specs.Values as meant
use Rattle.go_meaning.specs.Values.{nth}
use Rattle.go_meaning.specs.Computations as meaning
use Rattle.go_meaning.specs.Computations.{Outcome, Ends, Undecided, Comp, go_on, undecided, end_by, give, then_do, one, read}
use Rattle.go_meaning.specs.Operations.{Operation, Deed, Gives, Traps, perform, done, operate}
use Rattle.go_meaning.specs.Doings.{Doing, at}
use Rattle.go_values.specs.declared.value.Value.{Value}
use Rattle.go_values.specs.declared.panic.Panic.{Panic}
use Rattle.go_values.specs.declared.panic.Stop.{Stop}
use Rattle.go_values.specs.declared.panic.Stop.TheVariants as stop
use Rattle.go_values.specs.Views.{views, panic_view}
use Rattle.go_values.specs.Worlds.{world_view}
use Rattle.go_values.specs.Deeds.{IsDone}
use Rattle.go_eval_plans.specs.declared.exit.Values.TheVariants as values
use Rattle.go_eval_plans.specs.declared.exit.Exit.{Exit}
use Rattle.go_eval_plans.specs.declared.exit.Exit.TheVariants as exit
use Rattle.go_eval_plans.specs.declared.machine.Machine.{Machine}
use Rattle.go_eval_plans.specs.Machines.{outcome, IsExitOf, IsLeft, Runs, Reads}
use Rattle.go_eval_plans.specs.Places.{IsPlace}
use Rattle.go_eval_plans.specs.Programs.{doing, doings}
use Rattle.go_eval_plans.proofs.Lists.{at_some, at_none}
use Rattle.go_eval_plans.proofs.Steps.{on_left}

-- ---- a part as a place

pub part_place : (p : PackageView) (n : ℕ) (xs : List (Option TypedNode)) (k : ℕ) (x : TypedNode) (y : Doing) → entry xs k ≡ Some x → IsPlace (doing p n x) y → IsPlace (at (doings p n xs) k) y
part_place p n xs k x y e h = subst (λ (z : Doing). IsPlace z y) (sym (at_some p n xs k x e)) h

-- ---- reading

pub rest_views : (vs ws : List Value) → ws ≡ drop 1 vs → views ws ≡ drop 1 (views vs)
rest_views [] ws e = ap views e
rest_views (v ∷ vs) ws e = ap views e

pub no_reading : (p : PackageView) (n : ℕ) (xs : List (Option TypedNode)) (k : ℕ) (us : List meant.Value) (d : ℕ) (m : Machine) → entry xs k ≡ None → outcome ((at (doings p n xs) k).load us) d m ≡ Undecided (world_view m.world).output
unfolding undecided
no_reading p n xs k us d m e = ap (λ (x : Doing). outcome (x.load us) d m) (at_none p n xs k e)

pub is_undecided : (d : ℕ) (m : Machine) → outcome undecided d m ≡ Undecided (world_view m.world).output
unfolding undecided
is_undecided d m = refl

pub reads_local : (k d : ℕ) (m : Machine) (v : meant.Value) → v ≡ nth (views m.frame.items) k → Reads (read k) d m v
unfolding read
reads_local k d m v e = record { all = nth (views m.frame.items) k ∷ []; is = refl; first = sym e }

pub reads_nothing : (d : ℕ) (m : Machine) → Reads (give []) d m meant.NilFunction
unfolding end_by
reads_nothing d m = record { all = []; is = refl; first = refl }

pub reads_by : (o : Operation) (us : List meant.Value) (d : ℕ) (m : Machine) (v : meant.Value) → perform o us (world_view m.world) ≡ Gives (v ∷ []) (world_view m.world) → Reads (operate o us) d m v
unfolding operate
reads_by o us d m v e = record { all = v ∷ []; is = ap (λ (x : Deed). done x (views m.frame.items) (world_view m.world) m.turns) e; first = refl }

pub panics_by : (o : Operation) (us : List meant.Value) (d : ℕ) (m : Machine) (p : Panic) → perform o us (world_view m.world) ≡ Traps (panic_view p) → IsLeft (exit.Panic p) m (outcome (operate o us) d m)
unfolding operate
panics_by o us d m p e = ap (λ (x : Deed). done x (views m.frame.items) (world_view m.world) m.turns) e

-- an operation that stops
pub left_done : (o : Operation) (us : List meant.Value) (d : ℕ) (m : Machine) (s : Stop) (e : Exit) → IsDone (Err s) (world_view m.world) (perform o us (world_view m.world)) → IsExitOf s e → IsLeft e m (outcome (operate o us) d m)
left_done o us d m (stop.Panic p) e h i = subst (λ (x : Exit). IsLeft x m (outcome (operate o us) d m)) (sym i) (panics_by o us d m p h)
left_done o us d m stop.Memory e h i = subst (λ (x : Exit). IsLeft x m (outcome (operate o us) d m)) (sym i) tt

-- with the value that was read
pub one_is : (c : Comp) (k : meant.Value → Comp) (d : ℕ) (m : Machine) (v : meant.Value) → Reads c d m v → outcome (one c k) d m ≡ outcome (k v) d m
unfolding then_do
one_is c k d m v h = ap (λ (o : Outcome). go_on o (λ us f1 w1 t1. k (nth us 0) d f1 w1 t1)) h.is ∙ ap (λ (u : meant.Value). outcome (k u) d m) h.first

pub one_reads : (c : Comp) (k : meant.Value → Comp) (d : ℕ) (m : Machine) (v u : meant.Value) → Reads c d m v → Reads (k v) d m u → Reads (one c k) d m u
one_reads c k d m v u h i = record { all = i.all; is = one_is c k d m v h ∙ i.is; first = i.first }

pub one_then_left : (c : Comp) (k : meant.Value → Comp) (d : ℕ) (m : Machine) (v : meant.Value) (e : Exit) → Reads c d m v → IsLeft e m (outcome (k v) d m) → IsLeft e m (outcome (one c k) d m)
one_then_left c k d m v e h i = subst (IsLeft e m) (sym (one_is c k d m v h)) i

pub one_left : (c : Comp) (k : meant.Value → Comp) (d : ℕ) (m : Machine) (e : Exit) → IsLeft e m (outcome c d m) → IsLeft e m (outcome (one c k) d m)
unfolding then_do
one_left c k d m e h = on_left e m (outcome c d m) (λ us f1 w1 t1. k (nth us 0) d f1 w1 t1) h

-- ---- tests

pub writes_by : (o : Operation) (us : List meant.Value) (d : ℕ) (m m1 : Machine) → perform o us (world_view m.world) ≡ Gives [] (world_view m1.world) → m1.frame ≡ m.frame → m1.turns ≡ m.turns → Runs (operate o us) d m (Ok values.Nothing) m1
unfolding operate
writes_by o us d m m1 e f t = record { is = ap (λ (x : Deed). done x (views m.frame.items) (world_view m.world) m.turns) e ∙ (ap (λ x. Ends (meaning.Next []) (views x.items) (world_view m1.world) m.turns) (sym f) ∙ ap (λ (x : ℕ). Ends (meaning.Next []) (views m1.frame.items) (world_view m1.world) x) (sym t)) }
