-- What is said of values and places that are ready.
use Rattle.std.specs.Prelude.{◌≡◌, ◌++◌, ℕ, Bool, true, false, List, length, take}
use Rattle.go_types.specs.Tables.{type_of, rights_of}
use Rattle.go_typed.specs.declared.node.TypedNode.{TypedNode}
use Rattle.go_typed.specs.declared.node.TypedNode.TheViews.{out-TypedNode}
use Rattle.go_typed.specs.Trees.{label_mapped}
use Rattle.go_typed.specs.Packages.{PackageView}
use Rattle.go_typed.specs.Views.{all_seen, sort_seen, label_at}
use Rattle.go_meaning.specs.Values as meant
use Rattle.go_meaning.specs.Computations as meaning
use Rattle.go_meaning.specs.Computations.{Comp}
use Rattle.go_meaning.specs.Planning.{plan}
use Rattle.go_eval_plans.specs.declared.plan.Plan.{Plan}
use Rattle.go_eval_plans.specs.Views.{plan_view}
use Rattle.go_values.specs.Views.{views}
use Rattle.go_eval_plans.specs.Machines.{outcome, ends}
use Rattle.go_eval_machine.specs.declared.task.What.TheVariants as what
use Rattle.go_eval_machine.specs.declared.engine.Engine.{Engine}
use Rattle.go_eval_machine.specs.Rests.{Rest}
use Rattle.go_eval_machine.specs.Engines.{in_state, works, IsKept}

-- the node has this plan
abbrev pub HasPlan : PackageView → TypedNode → Plan → Type 0
HasPlan p x q = plan_view (rights_of p.types) (type_of p.types.shapes) (sort_seen p.types (out-TypedNode x).sort) (all_seen p.types (out-TypedNode x).parts.items) q
    ≡ plan (rights_of p.types) (out-TypedNode x).form (label_mapped (type_of p.types.shapes) (label_at (out-TypedNode x))) (all_seen p.types (out-TypedNode x).parts.items)

-- What the computation gives in each package, by the bound on what is inside one another, stands behind the values, and nothing
-- else is another.
pub record Gave (c : PackageView → ℕ → Comp) (old new : Engine) : Type 0 where
  pub kept : IsKept old new
  pub all : List meant.Value
  pub values : views new.values.items ≡ views old.values.items ++ all
  pub is : (p : PackageView) (n : ℕ) → outcome (c p n) old.depth old.machine ≡ ends (meaning.Next all) old.machine

-- or nothing was done
abbrev pub IsGiven : (PackageView → ℕ → Comp) → Engine → Bool → Engine → Type 0
IsGiven c old true new = Gave c old new
IsGiven c old false new = new ≡ old

-- Of the parts from k on those before j gave their values: what is left are those from j on, behind each base that is no higher
-- than the values.
pub record GaveParts (x : TypedNode) (k end j : ℕ) (old new : Engine) : Type 0 where
  pub kept : IsKept old new
  pub base : (b : ℕ) → b ≡ length (take b (views old.values.items)) → b ≡ length (take b (views new.values.items))
  pub left : (p : PackageView) (n b : ℕ) (r : Rest) → b ≡ length (take b (views old.values.items)) →
      in_state (works p x b (what.Values k end) n r (views old.values.items)) old ≡ in_state (works p x b (what.Values j end) n r (views new.values.items)) old
