-- Where the values of places lie.
use Rattle.std.specs.Prelude.{ℤ, pos, negsuc, nat_lt, if◌then◌else◌, unsigned_abs}
use Rattle.std.proofs.Common.{◌≡◌, ℕ, List, [], ◌∷◌, ◌++◌, drop, Bool, true, false, Option, Some, None, Result, Ok, Err, refl, sym, ap, ◌∙◌, subst}
use Rattle.go_meaning.specs.Values as meant
use Rattle.go_meaning.specs.Values.{nth, parts_of, whole_of, index_below, with_part}
use Rattle.go_meaning.specs.Computations.{World, Comp, go_on, one, then_do}
use Rattle.go_meaning.specs.Operations.{Deed, Gives, Traps, Cell, Element, Field, InArray, ReadVariable, WithElement, WithField, SetCell, at_index, cell, done, found, length_of, operate, perform}
use Rattle.go_meaning.specs.Doings.{Doing, blank_place, cell_place, element_place, field_place, local_place, name_place, variable_place}
use Rattle.go_values.specs.declared.value.Value.{Value}
use Rattle.go_values.specs.declared.panic.Panic.{Panic}
use Rattle.go_values.specs.declared.panic.Panic.TheVariants as panic
use Rattle.go_values.specs.Inner.{inner_at, with_inner}
use Rattle.go_values.specs.Views.{view, views, panic_view}
use Rattle.go_values.specs.Worlds.{world_view}
use Rattle.go_eval_plans.specs.declared.exit.Exit.{Exit}
use Rattle.go_eval_plans.specs.declared.exit.Exit.TheVariants as exit
use Rattle.go_eval_plans.specs.declared.machine.Machine.{Machine}
use Rattle.go_eval_plans.specs.declared.targets.Root.{Root}
use Rattle.go_eval_plans.specs.declared.targets.Root.TheVariants as root
use Rattle.go_eval_plans.specs.declared.targets.Target.{Target}
use Rattle.go_eval_plans.specs.Machines.{outcome, IsLeft, Reads}
use Rattle.go_eval_plans.specs.Places.{IsPlace}
use Rattle.go_eval_plans.specs.Targets.{IsReached, Reached, root_read, root_written}
use Rattle.go_eval_plans.proofs.Placing.{reads_local, reads_nothing, reads_by, one_is, one_reads, one_left, one_then_left, panics_by}

-- ---- indexes

no_world : World
no_world = record { arrays = []; variables = []; input = []; output = [] }

is_index_panic : (p : Panic) → Traps (panic_view panic.Index) ≡ Traps (panic_view p) → p ≡ panic.Index
is_index_panic panic.Index e = refl
is_index_panic panic.Divide e = absurd cc
is_index_panic panic.Shift e = absurd cc
is_index_panic panic.Slicing e = absurd cc
is_index_panic panic.NilCall e = absurd cc
is_index_panic panic.Make e = absurd cc
is_index_panic panic.User e = absurd cc

some_index : (o : Option ℕ) (k : ℕ) → ((go : ℕ → Deed) → found o go ≡ go k) → o ≡ Some k
some_index None k h = let e = h (λ j. Gives [] no_world) in absurd cc
some_index (Some j) k h = let e = h (λ i. Gives (meant.Function i ∷ []) no_world) in cc

no_index : (o : Option ℕ) (p : Panic) → ((go : ℕ → Deed) → found o go ≡ Traps (panic_view p)) → (o ≡ None) × (p ≡ panic.Index)
no_index None p h = (refl, is_index_panic p (h (λ j. Gives [] no_world)))
no_index (Some j) p h = let e = h (λ i. Gives [] no_world) in absurd cc

pub index_place : (n : ℕ) (i : meant.Value) (k : ℕ) → ((go : ℕ → Deed) → at_index n i go ≡ go k) → index_below n (whole_of i) ≡ Some k
index_place n i k h = some_index (index_below n (whole_of i)) k h

pub index_panic : (n : ℕ) (i : meant.Value) (p : Panic) → ((go : ℕ → Deed) → at_index n i go ≡ Traps (panic_view p)) → (index_below n (whole_of i) ≡ None) × (p ≡ panic.Index)
index_panic n i p h = no_index (index_below n (whole_of i)) p h

-- an index that is below a length is the place
pub place_is : (n : ℕ) (z : ℤ) (k : ℕ) → index_below n z ≡ Some k → unsigned_abs z ≡ k
place_is n (pos j) k e = below j (nat_lt j n) e
  where
    below : (j : ℕ) (b : Bool) → (if b then Some j else None) ≡ Some k → j ≡ k
    below j true e = cc
    below j false e = absurd cc
place_is n (negsuc j) k e = absurd cc

pub at_place_is : (n : ℕ) (i : meant.Value) (k : ℕ) (go : ℕ → Deed) → index_below n (whole_of i) ≡ Some k → at_index n i go ≡ go k
at_place_is n i k go e = ap (λ o. found o go) e

pub index_left : (n : ℕ) (i : meant.Value) (us : List meant.Value) (d : ℕ) (m : Machine) (e : Exit) → (index_below n (whole_of i) ≡ None) × (e ≡ exit.Panic panic.Index)
    → IsLeft e m (outcome (operate (InArray n) (i ∷ us)) d m)
index_left n i us d m e h = subst (λ (x : Exit). IsLeft x m (outcome (operate (InArray n) (i ∷ us)) d m)) (sym h.1) (panics_by (InArray n) (i ∷ us) d m panic.Index (ap (λ o. found o (λ k. Gives [] (world_view m.world))) h.0))

-- behind a test that an index passes
pub passed : (n : ℕ) (i : meant.Value) (k : ℕ) (c : Comp) (d : ℕ) (m : Machine) → index_below n (whole_of i) ≡ Some k → outcome (then_do (operate (InArray n) (i ∷ [])) (λ no. c)) d m ≡ outcome c d m
unfolding then_do operate
passed n i k c d m e = ap (λ (x : Deed). go_on (done x (views m.frame.items) (world_view m.world) m.turns) (λ vs f w t. c d f w t)) (at_place_is n i k (λ j. Gives [] (world_view m.world)) e)

-- ---- one place more

inner_more : (ks : List ℕ) (k : ℕ) (u : meant.Value) → inner_at (ks ++ k ∷ []) u ≡ nth (parts_of (inner_at ks u)) k
inner_more [] k u = refl
inner_more (j ∷ ks) k u = inner_more ks k (nth (parts_of u) j)

with_more : (ks : List ℕ) (k : ℕ) (u v : meant.Value) → with_inner ks u (with_part (inner_at ks u) k v) ≡ with_inner (ks ++ k ∷ []) u v
with_more [] k u v = refl
with_more (j ∷ ks) k u v = ap (with_part u j) (with_more ks k (nth (parts_of u) j) v)

-- ---- places

pub reached_as : (x y : Doing) (us : List meant.Value) (d : ℕ) (m : Machine) (r : Result Target Exit) → IsPlace x y → IsReached y us d m r → IsReached x us d m r
reached_as x y us d m (Ok t) ip h = record {
  whole = h.whole;
  root = h.root;
  load = subst (λ (g : List meant.Value → Comp). Reads (g us) d m (inner_at t.path.items h.whole)) (sym ip.load) h.load;
  store = λ v. ap (λ (g : List meant.Value → meant.Value → Comp). outcome (g us v) d m) ip.store ∙ h.store v;
}
reached_as x y us d m (Err e) ip h = subst (λ (g : List meant.Value → Comp). IsLeft e m (outcome (g us) d m)) (sym ip.load) h

-- the whole root
pub reached_whole : (x : Doing) (us : List meant.Value) (d : ℕ) (m : Machine) (t : Target) (r : Root) (w : meant.Value) → t.root ≡ r → t.path.items ≡ [] → x.load us ≡ root_read r → ((v : meant.Value) → x.store us v ≡ root_written r v) → Reads (root_read r) d m w
    → Reached x us d m t
reached_whole x us d m t r w er ep el es h = record {
  whole = w;
  root = subst (λ (q : Root). Reads (root_read q) d m w) (sym er) h;
  load = subst (λ (c : Comp). Reads c d m (inner_at t.path.items w)) (sym el) (subst (λ (u : meant.Value). Reads (root_read r) d m u) (sym (ap (λ (ks : List ℕ). inner_at ks w) ep)) h);
  store = λ v. ap (λ (c : Comp). outcome c d m) (es v ∙ ap (root_written r) (sym (ap (λ (ks : List ℕ). with_inner ks w v) ep)) ∙ ap (λ (q : Root). root_written q (with_inner t.path.items w v)) (sym er));
}

pub reached_local : (k : ℕ) (us : List meant.Value) (d : ℕ) (m : Machine) (t : Target) → t.root ≡ root.Local k → t.path.items ≡ [] → Reached (local_place k) us d m t
reached_local k us d m t er ep = reached_whole (local_place k) us d m t (root.Local k) (nth (views m.frame.items) k) er ep refl (λ v. refl) (reads_local k d m (nth (views m.frame.items) k) refl)

pub reached_name : (k : ℕ) (us : List meant.Value) (d : ℕ) (m : Machine) (t : Target) → t.root ≡ root.Local k → t.path.items ≡ [] → Reached (name_place k) us d m t
reached_name k us d m t er ep = reached_whole (name_place k) us d m t (root.Local k) (nth (views m.frame.items) k) er ep refl (λ v. refl) (reads_local k d m (nth (views m.frame.items) k) refl)

pub reached_variable : (k : ℕ) (us : List meant.Value) (d : ℕ) (m : Machine) (t : Target) → t.root ≡ root.Variable k → t.path.items ≡ [] → Reached (variable_place k) us d m t
reached_variable k us d m t er ep =
    let w = nth (world_view m.world).variables k in
    reached_whole (variable_place k) us d m t (root.Variable k) w er ep refl (λ v. refl) (reads_by (ReadVariable k) [] d m w refl)

pub reached_blank : (us : List meant.Value) (d : ℕ) (m : Machine) (t : Target) → t.root ≡ root.Nothing → t.path.items ≡ [] → Reached blank_place us d m t
reached_blank us d m t er ep = reached_whole blank_place us d m t root.Nothing meant.NilFunction er ep refl (λ v. refl) (reads_nothing d m)

pub reached_field : (k : ℕ) (x : Doing) (us : List meant.Value) (d : ℕ) (m : Machine) (t s : Target) → Reached x us d m t → (s.root ≡ t.root) × (s.path.items ≡ t.path.items ++ k ∷ []) → Reached (field_place k x) us d m s
reached_field k x us d m t s h e =
    let u = inner_at t.path.items h.whole in
    record {
      whole = h.whole;
      root = subst (λ (q : Root). Reads (root_read q) d m h.whole) (sym e.0) h.root;
      load = one_reads (x.load us) (λ v. operate (Field k) (v ∷ [])) d m u (inner_at s.path.items h.whole) h.load (reads_by (Field k) (u ∷ []) d m (inner_at s.path.items h.whole)
          (ap (λ v. Gives (v ∷ []) (world_view m.world)) (sym (ap (λ (ks : List ℕ). inner_at ks h.whole) e.1 ∙ inner_more t.path.items k h.whole))));
      store = λ v.
          one_is (x.load us) (λ u1. one (operate (WithField k) (u1 ∷ v ∷ [])) (λ r. x.store us r)) d m u h.load
          ∙ one_is (operate (WithField k) (u ∷ v ∷ [])) (λ r. x.store us r) d m (with_part u k v) (reads_by (WithField k) (u ∷ v ∷ []) d m (with_part u k v) refl)
          ∙ h.store (with_part u k v) ∙ ap (λ w. outcome (root_written t.root w) d m) (with_more t.path.items k h.whole v ∙ sym (ap (λ (ks : List ℕ). with_inner ks h.whole v) e.1))
          ∙ ap (λ (q : Root). outcome (root_written q (with_inner s.path.items h.whole v)) d m) (sym e.0);
    }

pub reached_element : (n : ℕ) (x i : Doing) (us : List meant.Value) (d : ℕ) (m : Machine) (t s : Target) (k : ℕ) → Reached x (drop 1 us) d m t → index_below n (whole_of (nth us 0)) ≡ Some k → (s.root ≡ t.root) × (s.path.items ≡ t.path.items ++ k ∷ [])
    → Reached (element_place n x i) us d m s
reached_element n x i us d m t s k h there e =
    let u = inner_at t.path.items h.whole in
    let j = nth us 0 in
    let w = world_view m.world in
    let put : (v : meant.Value) → perform WithElement (u ∷ j ∷ v ∷ []) w ≡ Gives (with_part u k v ∷ []) w = λ v. ap (λ p. Gives (with_part u p v ∷ []) w) (place_is n (whole_of j) k there) in
    record {
      whole = h.whole;
      root = subst (λ (q : Root). Reads (root_read q) d m h.whole) (sym e.0) h.root;
      load = one_reads (x.load (drop 1 us)) (λ v. operate (Element n) (v ∷ j ∷ [])) d m u (inner_at s.path.items h.whole) h.load (reads_by (Element n) (u ∷ j ∷ []) d m (inner_at s.path.items h.whole)
          (at_place_is n j k (λ p. Gives (nth (parts_of u) p ∷ []) w) there ∙ ap (λ v. Gives (v ∷ []) w) (sym (ap (λ (ks : List ℕ). inner_at ks h.whole) e.1 ∙ inner_more t.path.items k h.whole))));
      store = λ v.
          passed n j k (one (x.load (drop 1 us)) (λ u1. one (operate WithElement (u1 ∷ j ∷ v ∷ [])) (λ r. x.store (drop 1 us) r))) d m there
          ∙ one_is (x.load (drop 1 us)) (λ u1. one (operate WithElement (u1 ∷ j ∷ v ∷ [])) (λ r. x.store (drop 1 us) r)) d m u h.load
          ∙ one_is (operate WithElement (u ∷ j ∷ v ∷ [])) (λ r. x.store (drop 1 us) r) d m (with_part u k v) (reads_by WithElement (u ∷ j ∷ v ∷ []) d m (with_part u k v) (put v))
          ∙ h.store (with_part u k v) ∙ ap (λ w. outcome (root_written t.root w) d m) (with_more t.path.items k h.whole v ∙ sym (ap (λ (ks : List ℕ). with_inner ks h.whole v) e.1))
          ∙ ap (λ (q : Root). outcome (root_written q (with_inner s.path.items h.whole v)) d m) (sym e.0);
    }

pub reached_field_left : (k : ℕ) (x : Doing) (us : List meant.Value) (d : ℕ) (m : Machine) (e : Exit) → IsLeft e m (outcome (x.load us) d m) → IsLeft e m (outcome ((field_place k x).load us) d m)
reached_field_left k x us d m e h = one_left (x.load us) (λ v. operate (Field k) (v ∷ [])) d m e h

pub reached_element_left : (n : ℕ) (x i : Doing) (us : List meant.Value) (d : ℕ) (m : Machine) (e : Exit) → IsLeft e m (outcome (x.load (drop 1 us)) d m) → IsLeft e m (outcome ((element_place n x i).load us) d m)
reached_element_left n x i us d m e h = one_left (x.load (drop 1 us)) (λ v. operate (Element n) (v ∷ nth us 0 ∷ [])) d m e h

-- the array was found, and the index isn't in range
pub reached_index_left : (n : ℕ) (x i : Doing) (us : List meant.Value) (d : ℕ) (m : Machine) (t : Target) (e : Exit) → Reached x (drop 1 us) d m t → (index_below n (whole_of (nth us 0)) ≡ None) × (e ≡ exit.Panic panic.Index)
    → IsLeft e m (outcome ((element_place n x i).load us) d m)
reached_index_left n x i us d m t e h there =
    let u = inner_at t.path.items h.whole in
    one_then_left (x.load (drop 1 us)) (λ v. operate (Element n) (v ∷ nth us 0 ∷ [])) d m u e h.load (subst (λ (y : Exit). IsLeft y m (outcome (operate (Element n) (u ∷ nth us 0 ∷ [])) d m)) (sym there.1)
    (panics_by (Element n) (u ∷ nth us 0 ∷ []) d m panic.Index (ap (λ o. found o (λ p. Gives (nth (parts_of u) p ∷ []) (world_view m.world))) there.0)))

pub reached_cell : (x i : Doing) (us : List meant.Value) (d : ℕ) (m : Machine) (t : Target) (a b : Value) (k : ℕ) → t.root ≡ root.Cell a b → t.path.items ≡ [] → view a ≡ nth us 0 → view b ≡ nth us 1 → index_below (length_of (nth us 0)) (whole_of (nth us 1)) ≡ Some k
    → Reached (cell_place x i) us d m t
reached_cell x i us d m t a b k er ep ea eb there =
    let w = world_view m.world in
    let v = cell (view a) k w in
    let same : index_below (length_of (view a)) (whole_of (view b)) ≡ Some k = ap (λ s. index_below (length_of s) (whole_of (view b))) ea ∙ ap (λ j. index_below (length_of (nth us 0)) (whole_of j)) eb ∙ there in
    reached_whole (cell_place x i) us d m t (root.Cell a b) v er ep
    (ap (λ s. operate Cell (s ∷ nth us 1 ∷ [])) (sym ea) ∙ ap (λ j. operate Cell (view a ∷ j ∷ [])) (sym eb))
    (λ u. ap (λ s. operate SetCell (s ∷ nth us 1 ∷ u ∷ [])) (sym ea) ∙ ap (λ j. operate SetCell (view a ∷ j ∷ u ∷ [])) (sym eb))
    (reads_by Cell (view a ∷ view b ∷ []) d m v (at_place_is (length_of (view a)) (view b) k (λ p. Gives (cell (view a) p w ∷ []) w) same))
