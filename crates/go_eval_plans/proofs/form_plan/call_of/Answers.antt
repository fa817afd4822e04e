use Rattle.std.proofs.Common.{sym, ap, ◌∙◌}
use Rattle.go_types.specs.Tables.{rights_of}
use Rattle.go_typed.specs.Views.{all_seen, sort_seen}
use Rattle.go_meaning.specs.Plans.{Once}
use Rattle.go_meaning.specs.Planning.{call_plan}
use Rattle.go_eval_plans.proofs.form_plan.call_of.Goals as goal

pub returns-in-Builtin-clause-plan : goal.returns-in-Builtin-clause-plan
returns-in-Builtin-clause-plan c s = let t = c.args.types.now in c.builtin.ensures.plan s ∙ ap (λ k. Once (call_plan (rights_of t) (sort_seen t k) (all_seen t c.args.parts.now))) (sym c.in-Builtin.is)
