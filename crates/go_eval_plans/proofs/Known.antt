-- The types of plans are those of a table.
use Rattle.std.proofs.Common.{◌≡◌, ℕ, refl, ◌∙◌}
use Rattle.std.specs.Prelude.{Bool, true, false}
use Rattle.go_grammar.specs.declared.kind.Arithmetic.{Arithmetic}
use Rattle.go_grammar.specs.declared.kind.Operator.{Operator}
use Rattle.go_grammar.specs.declared.kind.Operator.TheVariants as operator
use Rattle.go_grammar.specs.declared.kind.Sign.{Sign}
use Rattle.go_grammar.specs.declared.kind.Sign.TheVariants as sign
use Rattle.go_grammar.specs.declared.kind.Step.{Step}
use Rattle.go_grammar.specs.declared.kind.Step.TheVariants as step
use Rattle.go_types.specs.Trees.{TypeTree, boolean, text, integer, array, slice, structure, function, declared}
use Rattle.go_types.specs.Relations.{Rights}
use Rattle.go_typed.specs.Trees.{Sort, Typeds}
use Rattle.go_meaning.specs.Operations as does
use Rattle.go_meaning.specs.Planning.{operation, step_operation, unary_operation, conversion, binary_plan, index_plan}
use Rattle.go_eval_plans.specs.declared.plan.Operation.{Operation}
use Rattle.go_eval_plans.specs.declared.plan.Operation.TheVariants as code
use Rattle.go_eval_plans.specs.Views.{operation_view, plan_view}
use Rattle.go_eval_plans.specs.declared.plan.Plan.{Plan}
use Rattle.go_eval_plans.specs.declared.plan.Plan.TheVariants as plan
use Rattle.go_eval_plans.specs.Known.{KnownOperation, KnownPlan, takes_none, has_none, course_has_none}

-- an operation whose row takes no zero value
pub known_by : (n : ℕ) (R : Rights) (f : ℕ → TypeTree) (ps : Typeds TypeTree) (o : Operation) → takes_none (operation_view R f ps o) ≡ true → KnownOperation n o
known_by n R f ps (code.MakeSlice t) e = absurd cc
known_by n R f ps (code.Append t) e = absurd cc
known_by n R f ps (code.Build t) e = absurd cc
known_by n R f ps _ e = tt

pub operation_none : (a : Arithmetic) (u : TypeTree) → takes_none (operation a u) ≡ true
operation_none a text = refl
operation_none a _ = refl

pub step_none : (s : Step) (u : TypeTree) → takes_none (step_operation s u) ≡ true
step_none step.Increment text = refl
step_none step.Increment _ = refl
step_none step.Decrement text = refl
step_none step.Decrement _ = refl

pub unary_none : (s : Sign) (u : TypeTree) → takes_none (unary_operation s u) ≡ true
unary_none sign.Plus u = refl
unary_none sign.Minus u = refl
unary_none sign.Not u = refl
unary_none sign.Complement u = refl

pub conversion_none : (u v : TypeTree) → takes_none (conversion u v) ≡ true
conversion_none (integer k) (integer l) = refl
conversion_none text (integer l) = refl
conversion_none text (slice t) = refl
conversion_none (slice t) text = refl
conversion_none _ _ = refl

pub plan_known_by : (n : ℕ) (R : Rights) (f : ℕ → TypeTree) (s : Sort TypeTree) (ps : Typeds TypeTree) (r : Plan) → course_has_none (plan_view R f s ps r) ≡ true → KnownPlan n r
plan_known_by n R f s ps (plan.Nil t) e = absurd cc
plan_known_by n R f s ps (plan.ZeroTo k t) e = absurd cc
plan_known_by n R f s ps (plan.Perform o) e = known_by n R f ps o e
plan_known_by n R f s ps (plan.StepBy o) e = known_by n R f ps o e
plan_known_by n R f s ps (plan.OperateBy o) e = known_by n R f ps o e
plan_known_by n R f s ps _ e = tt

pub binary_none : (o : Operator) (u : TypeTree) → has_none (binary_plan o u) ≡ true
binary_none operator.Either u = refl
binary_none operator.Both u = refl
binary_none (operator.Compare c) u = refl
binary_none (operator.Compute o) u = operation_none o u

pub index_none : (u : TypeTree) → has_none (index_plan u) ≡ true
index_none (array n t) = refl
index_none (slice t) = refl
index_none _ = refl
