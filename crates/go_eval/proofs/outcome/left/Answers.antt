use Rattle.std.proofs.Common.{ap, ◌∙◌, Ok}
use Rattle.go_eval.proofs.Endings.{is_memory, run_left, left_is}
use Rattle.go_eval.proofs.outcome.left.Goals as goal

pub returns-in-Return : goal.returns-in-Return
returns-in-Return c = λ m o e h. ap Ok (left_is m o c.args.output.items e c.args.exit.now (ap is_memory c.in-Return.is) h ∙ ap (λ q. run_left q c.args.output.items) c.in-Return.is)

pub returns-in-Break : goal.returns-in-Break
returns-in-Break c = λ m o e h. ap Ok (left_is m o c.args.output.items e c.args.exit.now (ap is_memory c.in-Break.is) h ∙ ap (λ q. run_left q c.args.output.items) c.in-Break.is)

pub returns-in-Continue : goal.returns-in-Continue
returns-in-Continue c = λ m o e h. ap Ok (left_is m o c.args.output.items e c.args.exit.now (ap is_memory c.in-Continue.is) h ∙ ap (λ q. run_left q c.args.output.items) c.in-Continue.is)

pub returns-in-Fallthrough : goal.returns-in-Fallthrough
returns-in-Fallthrough c = λ m o e h. ap Ok (left_is m o c.args.output.items e c.args.exit.now (ap is_memory c.in-Fallthrough.is) h ∙ ap (λ q. run_left q c.args.output.items) c.in-Fallthrough.is)

pub returns-in-Panic : goal.returns-in-Panic
returns-in-Panic c = λ m o e h. ap Ok (left_is m o c.args.output.items e c.args.exit.now (ap is_memory c.in-Panic.is) h ∙ ap (λ q. run_left q c.args.output.items) c.in-Panic.is)

pub returns-in-Undecided : goal.returns-in-Undecided
returns-in-Undecided c = λ m o e h. ap Ok (left_is m o c.args.output.items e c.args.exit.now (ap is_memory c.in-Undecided.is) h ∙ ap (λ q. run_left q c.args.output.items) c.in-Undecided.is)
