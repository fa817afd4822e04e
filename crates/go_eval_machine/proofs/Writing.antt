-- Assignments that are made of others.
use Rattle.std.proofs.Common.{◌≡◌, ℕ, List, [], ◌∷◌, Option, Some, None, refl, sym, ap, ◌∙◌, subst, Err}
use Rattle.std.proofs.lemmas.List.{set-set}
use Rattle.std.specs.Prelude.{slice_set}
use Rattle.go_meaning.specs.Values as meant
use Rattle.go_meaning.specs.Values.{nth, index_below, whole_of}
use Rattle.go_meaning.specs.Computations as meaning
use Rattle.go_meaning.specs.Computations.{World, Ends, Comp, end_by, give, read, then_do, write}
use Rattle.go_meaning.specs.Operations.{Operation, Deed, Gives, Traps, Cell, SetCell, cell, found, length_of, perform, done, operate, with_cells}
use Rattle.go_meaning.specs.Doings.{Doing}
use Rattle.go_values.specs.declared.panic.Stop.{Stop}
use Rattle.go_values.specs.declared.panic.Stop.TheVariants as stop
use Rattle.go_values.specs.Deeds.{IsStored}
use Rattle.go_values.specs.Inner.{with_inner}
use Rattle.go_values.specs.Views.{view, views, panic_view}
use Rattle.go_values.specs.declared.value.Value.{Value}
use Rattle.go_values.specs.declared.panic.Panic.{Panic}
use Rattle.go_values.specs.Worlds.{world_view}
use Rattle.go_eval_plans.specs.declared.exit.Exit.{Exit}
use Rattle.go_eval_plans.specs.declared.machine.Machine.{Machine}
use Rattle.go_eval_plans.specs.Machines.{outcome, ends, IsExitOf, IsLeft, Reads}
use Rattle.go_eval_plans.specs.Targets.{Reached, root_read, root_written}
use Rattle.go_eval_plans.specs.declared.targets.Root.{Root}
use Rattle.go_eval_plans.specs.declared.targets.Root.TheVariants as root
use Rattle.go_eval_plans.specs.declared.targets.Target.{Target}
use Rattle.go_eval_plans.proofs.Public.{reads_local, writes_by, on_left}

pub written_local : (k : ℕ) (v : meant.Value) (d : ℕ) (m m1 : Machine) → views m1.frame.items ≡ slice_set (views m.frame.items) k v → m1.world ≡ m.world → m1.turns ≡ m.turns → outcome (write k v) d m ≡ ends (meaning.Next []) m1
unfolding write
written_local k v d m m1 f w t = ap (λ fr. Ends (meaning.Next []) fr (world_view m.world) m.turns) (sym f) ∙ (ap (λ u. Ends (meaning.Next []) (views m1.frame.items) (world_view u) m.turns) (sym w) ∙ ap (λ u. Ends (meaning.Next []) (views m1.frame.items) (world_view m1.world) u) (sym t))

pub written_nothing : (d : ℕ) (m : Machine) → outcome (give []) d m ≡ ends (meaning.Next []) m
unfolding end_by
written_nothing d m = refl

pub then_left : (c : Comp) (k : List meant.Value → Comp) (d : ℕ) (m : Machine) (e : Exit) → IsLeft e m (outcome c d m) → IsLeft e m (outcome (then_do c k) d m)
unfolding then_do
then_left c k d m e h = on_left e m (outcome c d m) (λ us f1 w1 t1. k us d f1 w1 t1) h

-- an operation that stops, in a world that is the same
pub set_left : (o : Operation) (us : List meant.Value) (d : ℕ) (m m1 : Machine) (s : Stop) (e : Exit) → IsStored {X = Unit {0}} (Err s) (perform o us (world_view m.world)) (world_view m.world) (world_view m1.world) → m1.frame ≡ m.frame → m1.turns ≡ m.turns → IsExitOf s e → IsLeft e m1 (outcome (operate o us) d m)
unfolding operate
set_left o us d m m1 (stop.Panic p) e h f t i = subst (λ (x : Exit). IsLeft x m1 (outcome (operate o us) d m)) (sym i)
    (ap (λ (x : Deed). done x (views m.frame.items) (world_view m.world) m.turns) h.0
    ∙ (ap (λ fr. Ends (meaning.Panics (panic_view p)) (views fr.items) (world_view m.world) m.turns) (sym f)
    ∙ (ap (λ u. Ends (meaning.Panics (panic_view p)) (views m1.frame.items) u m.turns) (sym h.1) ∙ ap (λ u. Ends (meaning.Panics (panic_view p)) (views m1.frame.items) (world_view m1.world) u) (sym t))))
set_left o us d m m1 stop.Memory e h f t i = subst (λ (x : Exit). IsLeft x m1 (outcome (operate o us) d m)) (sym i) tt

-- ---- parts of roots

-- What is read is one value.
reads_same : (c : Comp) (d : ℕ) (m : Machine) (v w : meant.Value) → Reads c d m v → Reads c d m w → v ≡ w
reads_same c d m v w h i = let e = sym h.is ∙ i.is in let all : h.all ≡ i.all = cc in sym h.first ∙ ap (λ vs. nth vs 0) all ∙ i.first

-- a root of this form, and the assignment that is one to it
module _ (x : Doing) (us : List meant.Value) (d : ℕ) (m : Machine) (t : Target) (r : Root) (h : Reached x us d m t) (er : t.root ≡ r) where
  pub root_is : Reads (root_read r) d m h.whole
  root_is = subst (λ (q : Root). Reads (root_read q) d m h.whole) er h.root

  pub stored_is : (ks : List ℕ) (v u w : meant.Value) → t.path.items ≡ ks → Reads (root_read r) d m u → w ≡ with_inner ks u v → outcome (x.store us v) d m ≡ outcome (root_written r w) d m
  stored_is ks v u w ep read ew =
      h.store v ∙ ap (λ (q : Root). outcome (root_written q (with_inner t.path.items h.whole v)) d m) er
      ∙ ap (λ a. outcome (root_written r a) d m) (ap (λ (js : List ℕ). with_inner js h.whole v) ep ∙ ap (λ a. with_inner ks a v) (reads_same (root_read r) d m h.whole u root_is read) ∙ sym ew)

pub wrote_local : (x : Doing) (us : List meant.Value) (d : ℕ) (m m1 : Machine) (t : Target) (k : ℕ) (ks : List ℕ) (v u w n : meant.Value) → Reached x us d m t → t.root ≡ root.Local k → t.path.items ≡ ks → u ≡ nth (views m.frame.items) k → w ≡ with_inner ks u v
    → views m1.frame.items ≡ slice_set (slice_set (views m.frame.items) k n) k w → m1.world ≡ m.world → m1.turns ≡ m.turns → outcome (x.store us v) d m ≡ ends (meaning.Next []) m1
wrote_local x us d m m1 t k ks v u w n h er ep eu ew f eq et =
    stored_is x us d m t (root.Local k) h er ks v u w ep (reads_local k d m u eu) ew ∙ written_local k w d m m1 (f ∙ set-set (views m.frame.items) k n w) eq et

pub wrote_by : (x : Doing) (us : List meant.Value) (d : ℕ) (m m1 : Machine) (t : Target) (r : Root) (o : Operation) (ks : List ℕ) (os : List meant.Value) (v u w : meant.Value) → Reached x us d m t → t.root ≡ r → t.path.items ≡ ks → Reads (root_read r) d m u → w ≡ with_inner ks u v
    → root_written r w ≡ operate o os → perform o os (world_view m.world) ≡ Gives [] (world_view m1.world) → m1.frame ≡ m.frame → m1.turns ≡ m.turns → outcome (x.store us v) d m ≡ ends (meaning.Next []) m1
wrote_by x us d m m1 t r o ks os v u w h er ep read ew eo done f et =
    stored_is x us d m t r h er ks v u w ep read ew ∙ ap (λ c. outcome c d m) eo ∙ (writes_by o os d m m1 done f et).is

pub wrote_nothing : (x : Doing) (us : List meant.Value) (d : ℕ) (m : Machine) (t : Target) (v : meant.Value) → Reached x us d m t → t.root ≡ root.Nothing → outcome (x.store us v) d m ≡ ends (meaning.Next []) m
wrote_nothing x us d m t v h er = h.store v ∙ ap (λ (q : Root). outcome (root_written q (with_inner t.path.items h.whole v)) d m) er ∙ written_nothing d m

-- an element that is read is there
pub no_trap : (x : Doing) (us : List meant.Value) (d : ℕ) (m : Machine) (t : Target) (a b : Value) (p : Panic) → Reached x us d m t → t.root ≡ root.Cell a b → perform Cell (view a ∷ view b ∷ []) (world_view m.world) ≡ Traps (panic_view p) → ⊥
unfolding operate
no_trap x us d m t a b p h er e =
    let i = (root_is x us d m t (root.Cell a b) h er).is in
    let j = ap (λ (y : Deed). done y (views m.frame.items) (world_view m.world) m.turns) e in
    absurd cc

no_set_trap : (a b u v : meant.Value) (w : World) (p : Panic) → perform Cell (a ∷ b ∷ []) w ≡ Gives (u ∷ []) w → perform SetCell (a ∷ b ∷ v ∷ []) w ≡ Traps (panic_view p) → ⊥
no_set_trap a b u v w p = by (index_below (length_of a) (whole_of b))
  where
    by : (o : Option ℕ) → found o (λ k. Gives (cell a k w ∷ []) w) ≡ Gives (u ∷ []) w → found o (λ k. Gives [] (with_cells a k (v ∷ []) w)) ≡ Traps (panic_view p) → ⊥
    by None e f = absurd cc
    by (Some k) e f = absurd cc

pub set_trapped : (x : Doing) (us : List meant.Value) (o : meant.Value) (d : ℕ) (m m1 : Machine) (a b u v : meant.Value) (w1 w2 : World) (s : Stop) (e : Exit) → perform Cell (a ∷ b ∷ []) (world_view m.world) ≡ Gives (u ∷ []) (world_view m.world)
    → perform SetCell (a ∷ b ∷ v ∷ []) w1 ≡ perform SetCell (a ∷ b ∷ v ∷ []) (world_view m.world) → IsStored {X = Unit {0}} (Err s) (perform SetCell (a ∷ b ∷ v ∷ []) w1) w1 w2 → IsExitOf s e → IsLeft e m1 (outcome (x.store us o) d m)
set_trapped x us o d m m1 a b u v w1 w2 (stop.Panic p) e there same h i = absurd (no_set_trap a b u v (world_view m.world) p there (sym same ∙ h.0))
set_trapped x us o d m m1 a b u v w1 w2 stop.Memory e there same h i = subst (λ (y : Exit). IsLeft y m1 (outcome (x.store us o) d m)) (sym i) tt
