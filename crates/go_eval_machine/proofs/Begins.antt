-- What the value of a node begins with, by its plan.
use Rattle.std.proofs.Common.{◌≡◌, ℕ, suc, List, [], ◌∷◌, ◌++◌, take, drop, length, refl, sym, ap, ◌∙◌, arith, Option, Some, None, Err}
use Rattle.std.specs.Prelude.{Bool, true, false, pos, replicate}
use Rattle.go_typed.specs.declared.node.TypedNode.{TypedNode}
use Rattle.go_typed.specs.declared.node.TypedNode.TheViews.{out-TypedNode}
use Rattle.go_typed.specs.Packages.{PackageView}
use Rattle.go_types.specs.Tables.{type_of, rights_of}
use Rattle.go_meaning.specs.Values as values
use Rattle.go_meaning.specs.Values.{Value, Truth, Whole, NilFunction, nth, is_true, zero_value}
use Rattle.go_meaning.specs.Planning.{zero_in}
use Rattle.go_meaning.specs.Planning.{plan as plan_meant}
use Rattle.go_typed.specs.Trees.{label_mapped}
use Rattle.go_typed.specs.Views.{all_seen, sort_seen, label_at}
use Rattle.go_eval_plans.specs.Views.{plan_view, type_in, constant_in}
use Rattle.go_eval_plans.specs.declared.plan.Plan.{Plan}
use Rattle.go_eval_plans.specs.declared.plan.Items.TheVariants as items
use Rattle.go_eval_plans.proofs.Public.{by_plan}
use Rattle.go_meaning.specs.Computations.{Comp, Ending, Return, Break, Continue, Fallthrough, Panics, end_by, give, then_do, one, each, in_order, choose}
use Rattle.go_meaning.specs.Operations as operations
use Rattle.go_meaning.specs.Operations.{operate}
use Rattle.go_meaning.specs.Doings.{Doing, act, at, values_of, finds_of, stores, applied, tag_of, iterated}
use Rattle.go_eval_plans.specs.Programs.{calls, doings, again}
use Rattle.go_eval_plans.specs.declared.plan.Operation.{Operation}
use Rattle.go_eval_plans.specs.declared.plan.Plan.TheVariants as plan
use Rattle.go_eval_machine.specs.declared.task.Deed.TheVariants as deed
use Rattle.go_eval_machine.specs.declared.task.What.TheVariants as what
use Rattle.go_eval_machine.specs.Rests.{Rest, before, behind, then_rest, adding}
use Rattle.go_eval_machine.specs.Tasks.{rest, parts_of, planned, task_rest, loaded_at, turn_at, clauses_at}
use Rattle.go_values.specs.Views.{views}
use Rattle.go_values.specs.Worlds.{world_view}
use Rattle.go_eval_plans.specs.declared.exit.Exit.TheVariants as exit
use Rattle.go_eval_machine.specs.declared.engine.Engine.{Engine}
use Rattle.go_eval_machine.specs.Engines.{Went, begins, asks, lays_given, gives, reads, operates, asks_part, lays, lays_value, lays_find, lays_values, lays_finds}
use Rattle.go_eval_machine.proofs.Rests.{Same, SameOut, same_refl, then_both, begins_drop, begins_each_drop, begins_plain, gives_nothing}

-- all parts
take_all : (xs : List Doing) → take (length xs) xs ≡ xs
take_all [] = refl
take_all (x ∷ xs) = ap (λ ys. x ∷ ys) (take_all xs)

pub as_many : (p : PackageView) (n : ℕ) (xs : List (Option TypedNode)) → length (doings p n xs) ≡ length xs
unfolding doings
as_many p n [] = refl
as_many p n (None ∷ xs) = ap suc (as_many p n xs)
as_many p n (Some x ∷ xs) = ap suc (as_many p n xs)

pub out_itself : (l : Ending → Comp) → SameOut l l
out_itself l = (λ us. same_refl (l (Return us)), (same_refl (l Break), (same_refl (l Continue), (same_refl (l Fallthrough), λ k. same_refl (l (Panics k))))))

module _ (p : PackageView) (n : ℕ) (x : TypedNode) (r : Rest) (vs : List Value) where
  module _ (end : ℕ) (e : end ≡ length (parts_of p n x)) where
    all_parts : values_of (drop 0 (take end (parts_of p n x))) ≡ values_of (parts_of p n x)
    all_parts = rw e (ap values_of (take_all (parts_of p n x)))

    pub begins_perform : (o : Operation) → Same (begins p x (plan.Perform o) n r vs) (lays_values p x (what.Perform (deed.Planned o)) end n r vs)
    unfolding act task_rest
    begins_perform o d f w t =
        begins_each_drop r vs (operate (planned p x o)) (operate (planned p x o)) (λ us d1 f1 w1 t1. refl) (values_of (parts_of p n x)) d f w t
        ∙ ap (λ cs. (adding (length vs) (each cs give) (task_rest p n x (length vs) (what.Perform (deed.Planned o)) r)).go vs d f w t) (sym all_parts)

    pub begins_apply : Same (begins p x plan.Apply n r vs) (lays_values p x what.Apply end n r vs)
    unfolding act task_rest
    begins_apply d f w t =
        begins_each_drop r vs (λ us. applied (calls p n) (nth us 0) (drop 1 us)) (λ us. applied (calls p n) (nth us 0) (drop 1 us)) (λ us d1 f1 w1 t1. refl) (values_of (parts_of p n x)) d f w t
        ∙ ap (λ cs. (adding (length vs) (each cs give) (task_rest p n x (length vs) what.Apply r)).go vs d f w t) (sym all_parts)

    pub begins_returns : Same (begins p x plan.Returns n r vs) (lays_values p x what.Return end n r vs)
    unfolding act task_rest
    begins_returns d f w t =
        begins_each_drop r vs (λ us. end_by (Return us)) (λ us. end_by (Return us)) (λ us d1 f1 w1 t1. refl) (values_of (parts_of p n x)) d f w t
        ∙ ap (λ cs. (adding (length vs) (each cs give) (task_rest p n x (length vs) what.Return r)).go vs d f w t) (sym all_parts)

  pub begins_field : (k : ℕ) → Same (begins p x (plan.FieldOf k) n r vs) (lays_value p x (what.Perform (deed.Field k)) 0 n r vs)
  unfolding act task_rest operate
  begins_field k = begins_drop r vs (λ us. operate (operations.Field k) (nth us 0 ∷ [])) (operate (operations.Field k)) (λ us d f w t. refl) (at (parts_of p n x) 0).value

  pub begins_both : Same (begins p x plan.Both n r vs) (lays_value p x what.Both 0 n r vs)
  unfolding act task_rest
  begins_both = begins_drop r vs _ (λ us. choose (is_true (nth us 0)) (at (parts_of p n x) 1).value (give (Truth false ∷ []))) (λ us d f w t. refl) (at (parts_of p n x) 0).value

  pub begins_either : Same (begins p x plan.Either n r vs) (lays_value p x what.Either 0 n r vs)
  unfolding act task_rest
  begins_either = begins_drop r vs _ (λ us. choose (is_true (nth us 0)) (give (Truth true ∷ [])) (at (parts_of p n x) 1).value) (λ us d f w t. refl) (at (parts_of p n x) 0).value

  pub begins_branch : Same (begins p x plan.Branch n r vs) (lays_value p x what.Condition 0 n r vs)
  unfolding act task_rest
  begins_branch = begins_drop r vs _ (λ us. one (at (parts_of p n x) 1).value (λ v. choose (is_true v) (at (parts_of p n x) 2).value (at (parts_of p n x) 3).value)) (λ us d f w t. refl) (at (parts_of p n x) 0).value

  pub begins_loop : (c : Bool) → Same (begins p x (plan.Loop c) n r vs) (lays_value p x (what.Turn c) 0 n r vs)
  unfolding task_rest
  begins_loop c = begins_drop r vs _ (λ us. turn_at c (parts_of p n x) (again p n x)) (λ us d f w t. refl) (at (parts_of p n x) 0).value

  pub begins_step : (o : Operation) → Same (begins p x (plan.StepBy o) n r vs) (lays_find p x (what.Step o) 0 n r vs)
  unfolding act task_rest
  begins_step o = begins_drop r vs _ (loaded_at (planned p x o) (at (parts_of p n x) 0) (give (Whole (pos 1) ∷ []))) (λ us d f w t. refl) (at (parts_of p n x) 0).find

  pub begins_operate : (o : Operation) → Same (begins p x (plan.OperateBy o) n r vs) (lays_find p x (what.Load o) 0 n r vs)
  unfolding act task_rest
  begins_operate o = begins_drop r vs _ (loaded_at (planned p x o) (at (parts_of p n x) 0) (at (parts_of p n x) 1).value) (λ us d f w t. refl) (at (parts_of p n x) 0).find

  pub begins_assign : (m : ℕ) → Same (begins p x (plan.AssignTo m) n r vs) (lays_finds p x (what.Assign m) m n r vs)
  unfolding act task_rest
  begins_assign m = begins_each_drop r vs _ (λ us. then_do (each (values_of (drop m (parts_of p n x))) give) (λ ws. stores (take m (parts_of p n x)) us ws)) (λ us d f w t. refl) (finds_of (take m (parts_of p n x)))

  pub begins_sequence : Same (begins p x plan.Sequence n r vs) (lays p x (what.Sequence 0) n r vs)
  unfolding act task_rest
  begins_sequence = begins_plain r vs (in_order (values_of (parts_of p n x)))

  pub begins_otherwise : Same (begins p x plan.Otherwise n r vs) (lays p x (what.Sequence 0) n r vs)
  unfolding act task_rest
  begins_otherwise = begins_plain r vs (in_order (values_of (parts_of p n x)))

  pub begins_case : (m : ℕ) → Same (begins p x (plan.CaseOf m) n r vs) (lays p x (what.Sequence m) n r vs)
  unfolding act task_rest
  begins_case m = begins_plain r vs (in_order (values_of (drop m (parts_of p n x))))

  -- two parts, of which either may not be there
  pub each_two : (xs : List Doing) (k : List Value → Comp) (l : Ending → Comp) → Same (before (each ((at xs 0).value ∷ (at xs 1).value ∷ []) k) l) (before (each (values_of (take 2 xs)) k) l)
  unfolding before each then_do end_by
  each_two [] k l d f w t = refl
  each_two (x1 ∷ []) k l d f w t = then_both x1.value (λ us. each (give [] ∷ []) (λ ws. k (us ++ ws))) (λ us. each [] (λ ws. k (us ++ ws))) l l (λ us d1 f1 w1 t1. refl) (out_itself l) d f w t
  each_two (x1 ∷ x2 ∷ xs) k l d f w t = refl

  pub begins_element : (k : ℕ) → Same (begins p x (plan.ElementOf k) n r vs) (lays_values p x (what.Perform (deed.Element k)) 2 n r vs)
  unfolding act task_rest
  begins_element k d f w t = each_two (parts_of p n x) (operate (operations.Element k)) (behind r vs vs) d f w t
      ∙ begins_each_drop r vs (operate (operations.Element k)) (operate (operations.Element k)) (λ us d1 f1 w1 t1. refl) (values_of (take 2 (parts_of p n x))) d f w t

  pub begins_cell : Same (begins p x plan.CellOf n r vs) (lays_values p x (what.Perform deed.Cell) 2 n r vs)
  unfolding act task_rest
  begins_cell d f w t = each_two (parts_of p n x) (operate operations.Cell) (behind r vs vs) d f w t
      ∙ begins_each_drop r vs (operate operations.Cell) (operate operations.Cell) (λ us d1 f1 w1 t1. refl) (values_of (take 2 (parts_of p n x))) d f w t

  abbrev zeros : ℕ → Option ℕ → List Value
  zeros m ty = replicate m (zero_value (zero_in (rights_of p.types) (type_in (type_of p.types.shapes) ty)))

  stores_given : (us ws : List Value) (m : ℕ) → Same (stores (take m (parts_of p n x)) us ws) (then_do (give ws) (λ ws1. stores (take m (parts_of p n x)) us ws1))
  unfolding then_do end_by
  stores_given us ws m d f w t = refl

  pub begins_zero : (m : ℕ) (ty : Option ℕ) → Same (begins p x (plan.ZeroTo m ty) n r vs) (lays_finds p x (what.Zero m ty) m n r vs)
  unfolding act task_rest
  begins_zero m ty =
      begins_each_drop r vs (λ us. then_do (give (zeros m ty)) (λ ws. stores (take m (parts_of p n x)) us ws)) (λ us. stores (take m (parts_of p n x)) us (zeros m ty)) (λ us. stores_given us (zeros m ty) m) (finds_of (take m (parts_of p n x)))

  pub begins_select : (tag : Bool) (default : ℕ) → Same (begins p x (plan.Select tag default) n r vs) (lays_value p x (what.Tag tag default) 0 n r vs)
  unfolding act task_rest
  begins_select tag default = begins_drop r vs _ (λ us. one (tag_of tag (at (parts_of p n x) 1)) (clauses_at (parts_of p n x) 2 default)) (λ us d f w t. refl) (at (parts_of p n x) 0).value

  pub begins_inner : Same (begins p x plan.Inner n r vs) (asks_part p x 0 n r vs)
  unfolding act
  begins_inner d f w t = refl

  pub begins_local : (i : ℕ) → Same (begins p x (plan.Local i) n r vs) (reads i n r vs)
  unfolding act
  begins_local i d f w t = refl

  pub begins_variable : (i : ℕ) → Same (begins p x (plan.Variable i) n r vs) (operates (operations.ReadVariable i) n r vs)
  unfolding act
  begins_variable i d f w t = refl

  pub begins_constant : Same (begins p x plan.Constant n r vs) (gives (constant_in (sort_seen p.types (out-TypedNode x).sort)) n r vs)
  unfolding act before end_by
  begins_constant d f w t = refl

  pub begins_function : (g : ℕ) → Same (begins p x (plan.Function g) n r vs) (gives (values.Function g) n r vs)
  unfolding act before end_by
  begins_function g d f w t = refl

  pub begins_nil : (ty : Option ℕ) → Same (begins p x (plan.Nil ty) n r vs) (gives (zero_value (zero_in (rights_of p.types) (type_in (type_of p.types.shapes) ty))) n r vs)
  unfolding act before end_by
  begins_nil ty d f w t = refl

  pub begins_declare : (i : ℕ) → Same (begins p x (plan.Declare i) n r vs) (r.go vs)
  unfolding act
  begins_declare i = gives_nothing r vs

  pub begins_ignore : Same (begins p x plan.Ignore n r vs) (r.go vs)
  unfolding act
  begins_ignore = gives_nothing r vs

  pub begins_skip : Same (begins p x plan.Skip n r vs) (r.go vs)
  unfolding act
  begins_skip = gives_nothing r vs

  pub begins_break : Same (begins p x plan.Breaks n r vs) (r.out vs Break)
  unfolding act before end_by
  begins_break d f w t = refl

  pub begins_continue : Same (begins p x plan.Continues n r vs) (r.out vs Continue)
  unfolding act before end_by
  begins_continue d f w t = refl

  pub begins_fall : Same (begins p x plan.Falls n r vs) (r.out vs Fallthrough)
  unfolding act before end_by
  begins_fall d f w t = refl

  module _ (m : ℕ) where
    abbrev item_rest : operations.Items → List Value → Comp
    item_rest i us = iterated i (take m (parts_of p n x)) (at (parts_of p n x) (suc m)).value (nth us 0)

    pub begins_fixed : (k : ℕ) → Same (begins p x (plan.Iterate m (items.Fixed k)) n r vs) (lays_given p x (what.Items m (items.Fixed k)) NilFunction n r vs)
    unfolding act task_rest before end_by
    begins_fixed k = begins_drop r vs _ (item_rest (operations.Fixed k)) (λ us d f w t. refl) (give (NilFunction ∷ []))

    pub begins_elements : Same (begins p x (plan.Iterate m items.Elements) n r vs) (lays_value p x (what.Items m items.Elements) m n r vs)
    unfolding act task_rest
    begins_elements = begins_drop r vs _ (item_rest operations.Elements) (λ us d f w t. refl) (at (parts_of p n x) m).value

    pub begins_cells : Same (begins p x (plan.Iterate m items.Cells) n r vs) (lays_value p x (what.Items m items.Cells) m n r vs)
    unfolding act task_rest
    begins_cells = begins_drop r vs _ (item_rest operations.Cells) (λ us d f w t. refl) (at (parts_of p n x) m).value

    pub begins_runes : Same (begins p x (plan.Iterate m items.Runes) n r vs) (lays_value p x (what.Items m items.Runes) m n r vs)
    unfolding act task_rest
    begins_runes = begins_drop r vs _ (item_rest operations.Runes) (λ us d f w t. refl) (at (parts_of p n x) m).value

    pub begins_numbers : Same (begins p x (plan.Iterate m items.Numbers) n r vs) (lays_value p x (what.Items m items.Numbers) m n r vs)
    unfolding act task_rest
    begins_numbers = begins_drop r vs _ (item_rest operations.Numbers) (λ us d f w t. refl) (at (parts_of p n x) m).value

-- ---- nodes by their plans

module _ (p : PackageView) (x : TypedNode) (q : Plan) (e : plan_view (rights_of p.types) (type_of p.types.shapes) (sort_seen p.types (out-TypedNode x).sort) (all_seen p.types (out-TypedNode x).parts.items) q ≡ plan_meant (rights_of p.types) (out-TypedNode x).form (label_mapped (type_of p.types.shapes) (label_at (out-TypedNode x))) (all_seen p.types (out-TypedNode x).parts.items)) where
  pub asks_by_plan : (n : ℕ) (r : Rest) (vs : List Value) → Same (asks p x n r vs) (begins p x q n r vs)
  asks_by_plan n r vs d f w t = ap (λ (y : Doing). then_rest y.value r vs d f w t) (by_plan p n x q e)

module _ (p : PackageView) (x : TypedNode) (m : Engine) where
  pub left_break : Went {X = Unit {0}} p (begins p x plan.Breaks) m (Err exit.Break) m
  left_break = record { fits = λ a. a; turns = omega arith; next = λ n le. begins_break p n x (rest p n m.tasks.items) (views m.values.items) m.depth (views m.machine.frame.items) (world_view m.machine.world) m.machine.turns }

  pub left_continue : Went {X = Unit {0}} p (begins p x plan.Continues) m (Err exit.Continue) m
  left_continue = record { fits = λ a. a; turns = omega arith; next = λ n le. begins_continue p n x (rest p n m.tasks.items) (views m.values.items) m.depth (views m.machine.frame.items) (world_view m.machine.world) m.machine.turns }

  pub left_fall : Went {X = Unit {0}} p (begins p x plan.Falls) m (Err exit.Fallthrough) m
  left_fall = record { fits = λ a. a; turns = omega arith; next = λ n le. begins_fall p n x (rest p n m.tasks.items) (views m.values.items) m.depth (views m.machine.frame.items) (world_view m.machine.world) m.machine.turns }
