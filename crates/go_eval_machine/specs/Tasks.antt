-- What tasks come to.
use Rattle.std.specs.Prelude.{ℕ, suc, pos, ◌-◌, Bool, true, false, List, [], ◌∷◌, ◌≡◌, replicate, take, drop, ◌<◌, IfSome}
use Rattle.go_grammar.specs.declared.kind.Comparison.TheVariants.{Equal}
use Rattle.go_types.specs.Tables.{type_of, rights_of}
use Rattle.go_typed.specs.declared.node.TypedNode.{TypedNode}
use Rattle.go_typed.specs.declared.node.TypedNode.TheViews.{out-TypedNode}
use Rattle.go_typed.specs.Packages.{PackageView}
use Rattle.go_typed.specs.Views.{Known, all_seen}
use Rattle.go_meaning.specs.Values.{Value, Truth, Whole, nth, is_true, zero_value}
use Rattle.go_meaning.specs.Computations.{Comp, Return, end_by, give, then_do, one, looped, spend, choose, each, in_order, falling, over}
use Rattle.go_meaning.specs.Operations as operations
use Rattle.go_meaning.specs.Operations.{operate, item_count}
use Rattle.go_meaning.specs.Doings.{Doing, at, values_of, finds_of, stores, assigned, applied, matches, selected, tag_of, condition_of, iterated}
use Rattle.go_meaning.specs.Planning.{zero_in}
use Rattle.go_eval_plans.specs.declared.plan.Operation.{Operation}
use Rattle.go_eval_plans.specs.Known.{KnownOperation}
use Rattle.go_eval_plans.specs.Views.{operation_view, items_view, type_in}
use Rattle.go_eval_operations.specs.Places.{IsPlace}
use Rattle.go_values.specs.Views.{view, views}
use Rattle.go_eval_plans.specs.Programs.{calls, doing, doings, again}
use Rattle.go_eval_machine.specs.declared.task.Deed.{Deed}
use Rattle.go_eval_machine.specs.declared.task.Deed.TheVariants as deed
use Rattle.go_eval_machine.specs.declared.task.Iteration.{Iteration}
use Rattle.go_eval_machine.specs.declared.task.What.{What}
use Rattle.go_eval_machine.specs.declared.task.What.TheVariants as what
use Rattle.go_eval_machine.specs.declared.task.Task.{Task}
use Rattle.go_eval_machine.specs.Rests.{Rest, finish, replacing, replacing_both, adding, asking, round, clause_end, leaving}

-- what the parts of a node can be asked to do
abbrev pub parts_of : PackageView → ℕ → TypedNode → List Doing
parts_of p n x = doings p n (out-TypedNode x).parts.items

-- an operation of a plan, at a node
abbrev pub planned : PackageView → TypedNode → Operation → operations.Operation
planned p x o = operation_view (rights_of p.types) (type_of p.types.shapes) (all_seen p.types (out-TypedNode x).parts.items) o

abbrev pub deed_view : PackageView → TypedNode → Deed → operations.Operation
deed_view p x (deed.Field k) = operations.Field k
deed_view p x (deed.Element k) = operations.Element k
deed_view p x deed.Cell = operations.Cell
deed_view p x (deed.Planned o) = planned p x o

-- ---- what is done with the values above a base

abbrev pub first_above : ℕ → List Value → Value
first_above b vs = nth (drop b vs) 0

-- the operands of an assignment stand below its values
abbrev pub between : ℕ → ℕ → List Value → List Value
between b k vs = drop b (take k vs)

-- `x op= y` behind y
abbrev pub operated_at : operations.Operation → Doing → List Value → Value → Value → Comp
operated_at o x us v u = one (operate o (v ∷ u ∷ [])) (λ r. x.store us r)

-- and behind the operands of x
abbrev pub loaded_at : operations.Operation → Doing → Comp → List Value → Comp
loaded_at o x y us = one (x.load us) (λ v. one y (λ u. operated_at o x us v u))

-- the index of an element behind the operands of its array
abbrev pub indexed : Doing → List Value → Comp
indexed i us = one i.value (λ k. give (k ∷ us))

abbrev pub clauses_at : List Doing → ℕ → ℕ → Value → Comp
clauses_at xs next default tag = selected tag (falling (values_of (drop default xs))) (drop next xs)

abbrev pub clause_at : List Doing → ℕ → ℕ → Value → Value → Comp
clause_at xs next default tag b = choose (is_true b) (falling (values_of (drop next xs))) (clauses_at xs (suc next) default tag)

abbrev pub matches_at : List Doing → ℕ → ℕ → Value → Comp
matches_at xs next end tag = matches tag (values_of (drop next (take end xs)))

abbrev pub match_at : List Doing → ℕ → ℕ → Value → Value → Comp
match_at xs next end tag v = one (operate (operations.Compare Equal) (tag ∷ v ∷ [])) (λ b. choose (is_true b) (give (Truth true ∷ [])) (matches_at xs (suc next) end tag))

-- behind the block of a loop
abbrev pub round_at : List Doing → Comp → Comp
round_at xs again = then_do (at xs 2).value (λ no. again)

-- behind the condition
abbrev pub block_at : List Doing → Comp → Value → Comp
block_at xs again v = choose (is_true v) (spend (looped (at xs 3).value (round_at xs again))) (give [])

abbrev pub turn_at : Bool → List Doing → Comp → Comp
turn_at c xs again = one (condition_of c (at xs 1)) (block_at xs again)

-- the items of a loop from one on, and what is done with that one
abbrev pub items_from : List Doing → ℕ → operations.Items → ℕ → Value → Comp
items_from xs m items next v = over (λ i. assigned (take m xs) (operate (operations.Item items i) (v ∷ []))) (at xs (suc m)).value next (item_count items v - next)

abbrev pub item_to : List Doing → ℕ → operations.Items → ℕ → Value → List Value → Comp
item_to xs m items next v us =
    then_do (then_do (operate (operations.Item items next) (v ∷ [])) (λ ws. stores (take m xs) us ws)) (λ no. looped (at xs (suc m)).value (items_from xs m items (suc next) v))

-- ---- the table

unfoldable pub task_rest : PackageView → ℕ → TypedNode → ℕ → What → Rest → Rest
task_rest p n x b what.Value r = asking (doing p n x).value r
task_rest p n x b what.Find r = asking (doing p n x).find r
task_rest p n x b (what.Values next end) r = adding b (each (values_of (drop next (take end (parts_of p n x)))) give) r
task_rest p n x b (what.Finds next end) r = adding b (each (finds_of (drop next (take end (parts_of p n x)))) give) r
task_rest p n x b (what.Perform o) r = replacing b (λ vs. operate (deed_view p x o) (drop b vs)) r
task_rest p n x b what.Both r = replacing b (λ vs. choose (is_true (first_above b vs)) (at (parts_of p n x) 1).value (give (Truth false ∷ []))) r
task_rest p n x b what.Either r = replacing b (λ vs. choose (is_true (first_above b vs)) (give (Truth true ∷ [])) (at (parts_of p n x) 1).value) r
task_rest p n x b what.Apply r = replacing b (λ vs. applied (calls p n) (first_above b vs) (drop 1 (drop b vs))) r
task_rest p n x b what.Return r = replacing b (λ vs. end_by (Return (drop b vs))) r
task_rest p n x b (what.Step o) r = replacing b (λ vs. loaded_at (planned p x o) (at (parts_of p n x) 0) (give (Whole (pos 1) ∷ [])) (drop b vs)) r
task_rest p n x b (what.Load o) r = replacing b (λ vs. loaded_at (planned p x o) (at (parts_of p n x) 0) (at (parts_of p n x) 1).value (drop b vs)) r
task_rest p n x b (what.Operate o k) r = replacing_both b k (λ vs. operated_at (planned p x o) (at (parts_of p n x) 0) (between b k vs) (nth (drop k vs) 0) (nth (drop k vs) 1)) r
task_rest p n x b (what.Assign m) r = replacing b (λ vs. then_do (each (values_of (drop m (parts_of p n x))) give) (λ ws. stores (take m (parts_of p n x)) (drop b vs) ws)) r
task_rest p n x b (what.Zero m t) r = replacing b (λ vs. stores (take m (parts_of p n x)) (drop b vs) (replicate m (zero_value (zero_in (rights_of p.types) (type_in (type_of p.types.shapes) t))))) r
task_rest p n x b (what.Store m k) r = replacing_both b k (λ vs. stores (take m (parts_of p n x)) (between b k vs) (drop k vs)) r
task_rest p n x b (what.Sequence next) r = replacing b (λ vs. in_order (values_of (drop next (parts_of p n x)))) r
task_rest p n x b what.Condition r = replacing b (λ vs. one (at (parts_of p n x) 1).value (λ v. choose (is_true v) (at (parts_of p n x) 2).value (at (parts_of p n x) 3).value)) r
task_rest p n x b what.Branch r = replacing b (λ vs. choose (is_true (first_above b vs)) (at (parts_of p n x) 2).value (at (parts_of p n x) 3).value) r
task_rest p n x b (what.Tag tag default) r = replacing b (λ vs. one (tag_of tag (at (parts_of p n x) 1)) (clauses_at (parts_of p n x) 2 default)) r
task_rest p n x b (what.Clauses next default) r = replacing b (λ vs. clauses_at (parts_of p n x) next default (first_above b vs)) r
task_rest p n x b (what.Clause next default k) r = replacing_both b k (λ vs. clause_at (parts_of p n x) next default (nth (between b k vs) 0) (nth (drop k vs) 0)) r
task_rest p n x b (what.Matches next end tag) r = replacing b (λ vs. matches_at (parts_of p n x) next end (nth (take b vs) tag)) r
task_rest p n x b (what.Match next end tag) r = replacing b (λ vs. match_at (parts_of p n x) next end (nth (take b vs) tag) (first_above b vs)) r
task_rest p n x b (what.Fall next) r = clause_end b (falling (values_of (drop next (parts_of p n x)))) r
task_rest p n x b (what.Turn c) r = replacing b (λ vs. turn_at c (parts_of p n x) (again p n x)) r
task_rest p n x b what.Block r = replacing b (λ vs. block_at (parts_of p n x) (again p n x) (first_above b vs)) r
task_rest p n x b what.Round r = round b (round_at (parts_of p n x) (again p n x)) r
task_rest p n x b what.Again r = replacing b (λ vs. again p n x) r
task_rest p n x b what.Index r = replacing b (λ vs. then_do ((at (parts_of p n x) 0).test (drop b vs)) (λ no. indexed (at (parts_of p n x) 1) (drop b vs))) r
task_rest p n x b (what.Tested k) r = replacing_both b k (λ vs. indexed (at (parts_of p n x) 1) (between b k vs)) r
task_rest p n x b (what.Behind k) r = replacing_both b k (λ vs. give (nth (drop k vs) 0 ∷ between b k vs)) r
task_rest p n x b (what.Items m items) r = replacing b (λ vs. iterated (items_view items) (take m (parts_of p n x)) (at (parts_of p n x) (suc m)).value (first_above b vs)) r
task_rest p n x b (what.Item g) r = replacing b (λ vs. items_from (parts_of p n x) g.value.targets (items_view g.value.items) g.value.next (view g.value.operand)) r
task_rest p n x b (what.ItemTo g) r = replacing b (λ vs. item_to (parts_of p n x) g.value.targets (items_view g.value.items) g.value.next (view g.value.operand) (drop b vs)) r
task_rest p n x b (what.ItemRound g) r = round b (items_from (parts_of p n x) g.value.targets (items_view g.value.items) g.value.next (view g.value.operand)) r
task_rest p n x b (what.Leave frame) r = leaving b (views frame.items) r

-- the tasks lie on one another, the last one on top
abbrev pub on_top : PackageView → ℕ → Rest → List Task → Rest
on_top p n r [] = r
on_top p n r (t ∷ ts) = on_top p n (task_rest p n t.node.now t.base t.what r) ts

abbrev pub rest : PackageView → ℕ → List Task → Rest
rest p n ts = on_top p n finish ts

-- ---- their types are among the first k of a table, and what they tell of items is so

abbrev pub KnownDeed : ℕ → Deed → Type 0
KnownDeed k (deed.Planned o) = KnownOperation k o
KnownDeed k o = Unit {0}

-- The items are counted, and the next one begins at the place.
pub record IsIteration (g : Iteration) : Type 0 where
  pub count : g.count ≡ item_count (items_view g.items) (view g.operand)
  pub place : IsPlace (items_view g.items) (view g.operand) g.next g.place

abbrev pub KnownWhat : ℕ → What → Type 0
KnownWhat k (what.Perform o) = KnownDeed k o
KnownWhat k (what.Step o) = KnownOperation k o
KnownWhat k (what.Load o) = KnownOperation k o
KnownWhat k (what.Operate o i) = KnownOperation k o
KnownWhat k (what.Zero m t) = IfSome t (λ a. a < k)
KnownWhat k (what.Item g) = IsIteration g.value
KnownWhat k (what.ItemTo g) = IsIteration g.value × (g.value.next < g.value.count)
KnownWhat k (what.ItemRound g) = IsIteration g.value
KnownWhat k w = Unit {0}

abbrev pub IsFit : ℕ → TypedNode → What → Type 0
IsFit k x w = Known k x × KnownWhat k w

abbrev pub AreFit : ℕ → List Task → Type 0
AreFit k [] = Unit {0}
AreFit k (t ∷ ts) = IsFit k t.node.now t.what × AreFit k ts
