-- The types of plans are among the first n of a table.
use Rattle.std.specs.Prelude.{ℕ, ◌<◌, Bool, true, false, IfSome}
use Rattle.go_meaning.specs.Operations as does
use Rattle.go_meaning.specs.Plans as plans
use Rattle.go_eval_plans.specs.declared.groups.Group.{Group}
use Rattle.go_eval_plans.specs.declared.groups.Group.TheVariants as group
use Rattle.go_eval_plans.specs.declared.plan.Operation.{Operation}
use Rattle.go_eval_plans.specs.declared.plan.Operation.TheVariants as operation
use Rattle.go_eval_plans.specs.declared.plan.Plan.{Plan}
use Rattle.go_eval_plans.specs.declared.plan.Plan.TheVariants as plan

abbrev pub KnownGroup : ℕ → Group → Type 0
KnownGroup n (group.Array k t) = t < n
KnownGroup n (group.Slice t) = t < n
KnownGroup n _ = Unit {0}

abbrev pub KnownOperation : ℕ → Operation → Type 0
KnownOperation n (operation.MakeSlice t) = IfSome t (λ a. a < n)
KnownOperation n (operation.Append t) = IfSome t (λ a. a < n)
KnownOperation n (operation.Build t) = IfSome t (λ a. a < n)
KnownOperation n _ = Unit {0}

abbrev pub KnownPlan : ℕ → Plan → Type 0
KnownPlan n (plan.Nil t) = IfSome t (λ a. a < n)
KnownPlan n (plan.ZeroTo k t) = IfSome t (λ a. a < n)
KnownPlan n (plan.Perform o) = KnownOperation n o
KnownPlan n (plan.StepBy o) = KnownOperation n o
KnownPlan n (plan.OperateBy o) = KnownOperation n o
KnownPlan n _ = Unit {0}

-- whether an operation takes no zero value
abbrev pub takes_none : does.Operation → Bool
takes_none (does.MakeSlice z) = false
takes_none (does.Append z) = false
takes_none (does.Build z places) = false
takes_none o = true

abbrev pub has_none : plans.Plan → Bool
has_none (plans.Give v) = false
has_none (plans.ZeroTo k z) = false
has_none (plans.Perform o) = takes_none o
has_none (plans.StepBy o) = takes_none o
has_none (plans.OperateBy o) = takes_none o
has_none p = true

abbrev pub course_has_none : plans.Course → Bool
course_has_none (plans.Once p) = has_none p
course_has_none (plans.Loop c) = true
