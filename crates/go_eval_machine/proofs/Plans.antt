-- Nodes that have plans.
use Rattle.std.proofs.Common.{◌≡◌, ◌∷◌, [], ℕ, List, sym, ap, ◌∙◌, Option, Some, None}
use Rattle.std.specs.Prelude.{false, IfSome}
use Rattle.go_types.specs.Trees.{TypeTree}
use Rattle.go_types.specs.Relations.{Rights}
use Rattle.go_types.specs.Tables.{type_of, rights_of}
use Rattle.go_types_relations.specs.Questions.{entry}
use Rattle.go_typed.specs.declared.form.Form.{Form}
use Rattle.go_typed.specs.declared.sort.Sort.{Sort}
use Rattle.go_typed.specs.declared.node.TypedNode.{TypedNode}
use Rattle.go_typed.specs.declared.node.TypedNode.TheViews.{out-TypedNode}
use Rattle.go_typed.specs.Trees as trees
use Rattle.go_typed.specs.Trees.{Typeds, sort_mapped, label_mapped}
use Rattle.go_typed.specs.Packages.{PackageView}
use Rattle.go_typed.specs.Views.{all_seen, sort_seen, sort_view, label_at}
use Rattle.go_meaning.specs.Values.{Value, Function, nth}
use Rattle.go_meaning.specs.Computations.{Next, read, end_by, give}
use Rattle.go_meaning.specs.Operations.{Deed, Gives, ReadVariable, perform, done, operate}
use Rattle.go_meaning.specs.Doings.{Doing, act}
use Rattle.go_meaning.specs.Plans as plans
use Rattle.go_meaning.specs.Planning as planning
use Rattle.go_eval_plans.specs.declared.plan.Plan.{Plan}
use Rattle.go_eval_plans.specs.declared.plan.Plan.TheVariants as plan
use Rattle.go_eval_plans.specs.Views.{plan_view, constant_in, is_for}
use Rattle.go_eval_plans.proofs.Public.{plan_once, at_some, by_plan}
use Rattle.go_values.specs.Views.{views}
use Rattle.go_values.specs.Worlds.{world_view}
use Rattle.go_eval_plans.specs.declared.machine.Machine.{Machine}
use Rattle.go_eval_plans.specs.Machines.{outcome, ends}
use Rattle.go_eval_plans.specs.Programs.{doing}
use Rattle.go_eval_machine.specs.declared.task.What.TheVariants as what
use Rattle.go_eval_machine.specs.Rests.{Rest, then_rest}
use Rattle.go_eval_machine.specs.Engines.{asks_part, lays}
use Rattle.go_eval_machine.specs.Giving.{HasPlan}
use Rattle.go_eval_machine.proofs.Rests.{Same}
use Rattle.go_eval_machine.proofs.Begins.{asks_by_plan, begins_sequence}

-- what a plan by the form and one by the sort say
abbrev pub OfForm : Form → Plan → Type 0
OfForm g q = (rights : Rights) (f : ℕ → TypeTree) (s : trees.Sort TypeTree) (t : TypeTree) (ps : Typeds TypeTree) → plan_view rights f s ps q ≡ plans.Once (planning.form_plan rights g t ps)

abbrev pub OfSort : Sort → Option Plan → Plan → Type 0
OfSort s o q = (rights : Rights) (f : ℕ → TypeTree) (ps : Typeds TypeTree) (p : plans.Plan) → IfSome o (λ r. plan_view rights f (sort_mapped f (sort_view s)) ps r ≡ plans.Once p) → plan_view rights f (sort_mapped f (sort_view s)) ps q ≡ plans.Once (planning.sort_plan (sort_mapped f (sort_view s)) p)

module _ (p : PackageView) (x : TypedNode) where
  by_form : (o : Option Plan) (rights : Rights) (f : ℕ → TypeTree) (s : trees.Sort TypeTree) (t : TypeTree) (ps : Typeds TypeTree) → IfSome o (OfForm (out-TypedNode x).form) → IfSome o (λ r. plan_view rights f s ps r ≡ plans.Once (planning.form_plan rights (out-TypedNode x).form t ps))
  by_form (Some r) rights f s t ps h = h rights f s t ps
  by_form None rights f s t ps h = tt

  pub has_plan : is_for (out-TypedNode x).form ≡ false → (o r : Option Plan) → IfSome o (OfForm (out-TypedNode x).form) → IfSome r (OfSort (out-TypedNode x).sort o) → IfSome r (HasPlan p x)
  has_plan e o (Some q) h g =
      let y = out-TypedNode x in
      let f = type_of p.types.shapes in
      let R = rights_of p.types in
      let ps = all_seen p.types y.parts.items in
      let s = sort_mapped f (sort_view y.sort) in
      g R f ps (planning.form_plan R y.form (planning.sort_type s) ps) (by_form o R f s (planning.sort_type s) ps h) ∙ sym (plan_once R y.form (label_mapped f (label_at y)) ps e)
  has_plan e o None h g = tt

-- ---- what the plans give in a state

module _ (p : PackageView) (n : ℕ) (x : TypedNode) (d : ℕ) (m : Machine) where
  pub gives_constant : HasPlan p x plan.Constant → (v : Value) → v ≡ constant_in (sort_seen p.types (out-TypedNode x).sort) → outcome (doing p n x).value d m ≡ ends (Next (v ∷ [])) m
  unfolding act end_by
  gives_constant h v e = ap (λ (y : Doing). outcome y.value d m) (by_plan p n x plan.Constant h) ∙ ap (λ (u : Value). ends (Next (u ∷ [])) m) (sym e)

  pub gives_function : (k : ℕ) → HasPlan p x (plan.Function k) → (v : Value) → v ≡ Function k → outcome (doing p n x).value d m ≡ ends (Next (v ∷ [])) m
  unfolding act end_by
  gives_function k h v e = ap (λ (y : Doing). outcome y.value d m) (by_plan p n x (plan.Function k) h) ∙ ap (λ (u : Value). ends (Next (u ∷ [])) m) (sym e)

  pub gives_local : (k : ℕ) → HasPlan p x (plan.Local k) → (v : Value) → v ≡ nth (views m.frame.items) k → outcome (doing p n x).value d m ≡ ends (Next (v ∷ [])) m
  unfolding act read
  gives_local k h v e = ap (λ (y : Doing). outcome y.value d m) (by_plan p n x (plan.Local k) h) ∙ ap (λ (u : Value). ends (Next (u ∷ [])) m) (sym e)

  pub gives_variable : (k : ℕ) → HasPlan p x (plan.Variable k) → (v : Value) → perform (ReadVariable k) [] (world_view m.world) ≡ Gives (v ∷ []) (world_view m.world) → outcome (doing p n x).value d m ≡ ends (Next (v ∷ [])) m
  unfolding act operate
  gives_variable k h v e = ap (λ (y : Doing). outcome y.value d m) (by_plan p n x (plan.Variable k) h) ∙ ap (λ (u : Deed). done u (views m.frame.items) (world_view m.world) m.turns) e

-- ---- places without operands

module _ (p : PackageView) (n : ℕ) (x : TypedNode) where
  pub no_operands_local : (k : ℕ) → HasPlan p x (plan.Local k) → (doing p n x).find ≡ give []
  unfolding act
  no_operands_local k h = ap (λ (y : Doing). y.find) (by_plan p n x (plan.Local k) h)

  pub no_operands_variable : (k : ℕ) → HasPlan p x (plan.Variable k) → (doing p n x).find ≡ give []
  unfolding act
  no_operands_variable k h = ap (λ (y : Doing). y.find) (by_plan p n x (plan.Variable k) h)

  pub no_operands_declared : (k : ℕ) → HasPlan p x (plan.Declare k) → (doing p n x).find ≡ give []
  unfolding act
  no_operands_declared k h = ap (λ (y : Doing). y.find) (by_plan p n x (plan.Declare k) h)

  pub no_operands_blank : HasPlan p x plan.Ignore → (doing p n x).find ≡ give []
  unfolding act
  no_operands_blank h = ap (λ (y : Doing). y.find) (by_plan p n x plan.Ignore h)

-- ---- a part that is a block

pub block_asked : (p : PackageView) (x y : TypedNode) (k : ℕ) → entry (out-TypedNode x).parts.items k ≡ Some y → HasPlan p y plan.Sequence → (n : ℕ) (s : Rest) (vs : List Value) → Same (asks_part p x k n s vs) (lays p y (what.Sequence 0) n s vs)
block_asked p x y k e h n s vs d f w t = ap (λ (z : Doing). then_rest z.value s vs d f w t) (at_some p n (out-TypedNode x).parts.items k y e)
    ∙ (asks_by_plan p y plan.Sequence h n s vs d f w t ∙ begins_sequence p n y s vs d f w t)
