-- What range clauses come to.
use Rattle.std.proofs.Common.{◌≡◌, ◌<◌, ◌≤◌, ℕ, zero, suc, List, [], ◌∷◌, ◌++◌, take, drop, length, refl, sym, ap, ◌∙◌, subst, arith, Option}
use Rattle.std.specs.Prelude.{◌-◌, Box}
use Rattle.std.specs.declared.alloc.Global.{Global}
use Rattle.go_typed.specs.declared.node.TypedNode.{TypedNode}
use Rattle.go_typed.specs.Packages.{PackageView}
use Rattle.go_meaning.specs.Values.{Value, nth}
use Rattle.go_meaning.specs.Computations as meaning
use Rattle.go_meaning.specs.Computations.{World, Ending, Next, Return, Break, Continue, Fallthrough, Panics, Comp, Undecided, end_by, give, then_do, looped, spend, each, over}
use Rattle.go_meaning.specs.Doings.{Doing, at, finds_of, stores, assigned, iterated}
use Rattle.go_meaning.specs.Operations.{Items, Fixed, Elements, Cells, Runes, Numbers, Item, item, item_count, operate}
use Rattle.go_eval_plans.specs.Views.{items_view}
use Rattle.go_eval_operations.specs.Places.{IsPlace}
use Rattle.go_values.specs.Views.{view, views}
use Rattle.go_values.specs.Worlds.{world_view}
use Rattle.go_eval_plans.specs.declared.machine.Machine.{Machine}
use Rattle.go_eval_plans.specs.Machines.{outcome, ends}
use Rattle.go_eval_machine.specs.declared.task.Iteration.{Iteration}
use Rattle.go_eval_machine.specs.declared.task.What.TheVariants as what
use Rattle.go_eval_machine.specs.Rests.{Rest, before, behind, then_rest, adding, replacing}
use Rattle.go_eval_machine.specs.Tasks.{parts_of, task_rest, first_above, items_from, item_to}
use Rattle.go_eval_machine.specs.Engines.{lays_value, lays_finds, works}
use Rattle.go_eval_machine.proofs.Public.{Same, SameOut, same_refl, same_sym, then_before, then_both, begins_each_drop, begins_round, gives_nothing, out_itself, take_twice, then_to}

pub first_place : (i : Items) (v : Value) → IsPlace i v 0 0
first_place (Fixed n) v = tt
first_place Elements v = tt
first_place Cells v = tt
first_place Runes v = (omega arith, refl)
first_place Numbers v = tt

-- ---- a computation that is behind several

-- behind what is next a further computation
abbrev then_further : (List Value → Comp) → (Ending → Comp) → Ending → Comp
then_further g l (Next us) = before (g us) l
then_further g l e = l e

on_further : (g : List Value → Comp) (l : Ending → Comp) → SameOut l (then_further g l)
on_further g l = (λ us. same_refl (l (Return us)), (same_refl (l Break), (same_refl (l Continue), (same_refl (l Fallthrough), λ k. same_refl (l (Panics k))))))

further_on : (g : List Value → Comp) (l : Ending → Comp) → SameOut (then_further g l) l
further_on g l = (λ us. same_refl (l (Return us)), (same_refl (l Break), (same_refl (l Continue), (same_refl (l Fallthrough), λ k. same_refl (l (Panics k))))))

-- of three computations the first two come first, or the last two come behind
then_then : (c : Comp) (k g : List Value → Comp) (l : Ending → Comp) → Same (before (then_do (then_do c k) g) l) (before (then_do c (λ us. then_do (k us) g)) l)
then_then c k g l d f w t = then_before (then_do c k) g l (then_further g l) (λ us. same_refl (before (g us) l)) (on_further g l) d f w t
    ∙ then_both c k (λ us. then_do (k us) g) (then_further g l) l
    (λ us. same_sym (before (then_do (k us) g) l) (before (k us) (then_further g l)) (then_before (k us) g l (then_further g l) (λ ws. same_refl (before (g ws) l)) (on_further g l))) (further_on g l) d f w t

each_then : (cs : List Comp) (k g : List Value → Comp) (l : Ending → Comp) → Same (before (then_do (each cs k) g) l) (before (each cs (λ us. then_do (k us) g)) l)
unfolding each
each_then [] k g l = same_refl (before (then_do (k []) g) l)
each_then (c ∷ cs) k g l = λ d f w t. then_then c (λ us. each cs (λ vs. k (us ++ vs))) g l d f w t
    ∙ then_both c (λ us. then_do (each cs (λ vs. k (us ++ vs))) g) (λ us. each cs (λ vs. then_do (k (us ++ vs)) g)) l l (λ us. each_then cs (λ vs. k (us ++ vs)) g l) (out_itself l) d f w t

-- ---- items

module _ (p : PackageView) (n : ℕ) (x : TypedNode) (b : ℕ) (r : Rest) (vs : List Value) (g : Box Iteration Global) where
  abbrev targets : List Doing
  targets = take g.value.targets (parts_of p n x)

  abbrev block : Comp
  block = (at (parts_of p n x) (suc g.value.targets)).value

  abbrev is_item : ℕ → Comp
  is_item i = assigned targets (operate (Item (items_view g.value.items) i) (view g.value.operand ∷ []))

  -- the items are counted
  pub items_begin : g.value.next ≡ 0 → view g.value.operand ≡ first_above b vs → Same (works p x b (what.Items g.value.targets g.value.items) n r vs) (works p x b (what.Item g) n r (take b vs))
  unfolding task_rest
  items_begin z e d f w t =
      let none : item_count (items_view g.value.items) (view g.value.operand) ≡ item_count (items_view g.value.items) (view g.value.operand) - 0 = omega arith in
      ap (λ (v : Value). then_rest (iterated (items_view g.value.items) targets block v) r (take b vs) d f w t) (sym e)
      ∙ (ap (λ (i : ℕ). then_rest (over is_item block 0 i) r (take b vs) d f w t) none
      ∙ (ap (λ (i : ℕ). then_rest (over is_item block i (item_count (items_view g.value.items) (view g.value.operand) - i)) r (take b vs) d f w t) (sym z)
      ∙ ap (λ (us : List Value). then_rest (items_from (parts_of p n x) g.value.targets (items_view g.value.items) g.value.next (view g.value.operand)) r us d f w t) (sym (take_twice b vs))))

  module _ (ec : g.value.count ≡ item_count (items_view g.value.items) (view g.value.operand)) where
    pub items_done : g.value.count ≤ g.value.next → Same (works p x b (what.Item g) n r vs) (r.go (take b vs))
    unfolding task_rest over
    items_done h d f w t =
        let none : item_count (items_view g.value.items) (view g.value.operand) - g.value.next ≡ 0 = omega (arith, ec, h) in
        ap (λ (i : ℕ). then_rest (over is_item block g.value.next i) r (take b vs) d f w t) none ∙ gives_nothing r (take b vs) d f w t

    -- how many are left behind the next one
    abbrev left : ℕ
    left = item_count (items_view g.value.items) (view g.value.operand) - suc g.value.next

    module _ (h : g.value.next < g.value.count) where
      some_left : item_count (items_view g.value.items) (view g.value.operand) - g.value.next ≡ suc left
      some_left = omega (arith, ec, h)

      pub item_spent : (d : ℕ) (f : List Value) (w : World) → works p x b (what.Item g) n r vs d f w 0 ≡ Undecided w.output
      unfolding task_rest over before spend
      item_spent d f w = ap (λ (i : ℕ). then_rest (over is_item block g.value.next i) r (take b vs) d f w 0) some_left

      pub item_next : (end : ℕ) → end ≡ g.value.targets → (d : ℕ) (f : List Value) (w : World) (t : ℕ) → works p x b (what.Item g) n r vs d f w (suc t) ≡ lays_finds p x (what.ItemTo g) end n r (take b vs) d f w t
      unfolding task_rest over before spend
      item_next end ee d f w t = rw ee (ap (λ (i : ℕ). then_rest (over is_item block g.value.next i) r (take b vs) d f w (suc t)) some_left
          ∙ (each_then (finds_of targets) (λ us. then_do (operate (Item (items_view g.value.items) g.value.next) (view g.value.operand ∷ [])) (λ ws. stores targets us ws)) (λ no. looped block (over is_item block (suc g.value.next) left)) (behind r (take b vs) (take b vs)) d f w t
          ∙ begins_each_drop r (take b vs) (item_to (parts_of p n x) g.value.targets (items_view g.value.items) g.value.next (view g.value.operand)) (item_to (parts_of p n x) g.value.targets (items_view g.value.items) g.value.next (view g.value.operand)) (λ us. same_refl (item_to (parts_of p n x) g.value.targets (items_view g.value.items) g.value.next (view g.value.operand) us)) (finds_of targets) d f w t))

  -- the next item is assigned, and then the block runs
  pub item_assigned : Same (works p x b (what.ItemTo g) n r vs)
      (then_rest (then_do (then_do (operate (Item (items_view g.value.items) g.value.next) (view g.value.operand ∷ [])) (λ ws. stores targets (drop b vs) ws)) (λ no. looped block (items_from (parts_of p n x) g.value.targets (items_view g.value.items) (suc g.value.next) (view g.value.operand)))) r (take b vs))
  unfolding task_rest
  item_assigned d f w t = refl

  -- behind the assignment of an item the block, and then the others
  module _ (g1 : Box Iteration Global) (et : g1.value.targets ≡ g.value.targets) (ei : g1.value.items ≡ g.value.items) (eo : g1.value.operand ≡ g.value.operand) (en : g1.value.next ≡ suc g.value.next) where
    abbrev others : Comp
    others = items_from (parts_of p n x) g.value.targets (items_view g.value.items) (suc g.value.next) (view g.value.operand)

    pub item_round : (k : ℕ) → k ≡ suc g.value.targets → (us : List Value) → Same (lays_value p x (what.ItemRound g1) k n r us) (then_rest (looped block others) r us)
    unfolding task_rest
    item_round k ek us d f w t = rw (ek, et, ei, eo, en) (sym (begins_round r us (length us) block others refl d f w t))

item_gives : (i : Items) (k : ℕ) (v : Value) (ws : List Value) (d : ℕ) (m : Machine) → ws ≡ item i k v (world_view m.world) → outcome (operate (Item i k) (v ∷ [])) d m ≡ ends (meaning.Next ws) m
unfolding operate
item_gives i k v ws d m e = ap (λ (us : List Value). ends (meaning.Next us) m) (sym e)

-- the values of an item are assigned
pub item_given : (i : Items) (k : ℕ) (v : Value) (c : List Value → Comp) (ws : List Value) (d : ℕ) (m : Machine) → ws ≡ item i k v (world_view m.world) → outcome (then_do (operate (Item i k) (v ∷ [])) c) d m ≡ outcome (c ws) d m
item_given i k v c ws d m e = then_to (operate (Item i k) (v ∷ [])) c d m m ws (item_gives i k v ws d m e)
