use Rattle.std.proofs.Common.{◌++◌, sym, ap, ◌∙◌}
use Rattle.clone_script.specs.Grammar.{spelling}
use Rattle.clone_server.specs.Taking.{Taken}
use Rattle.clone_server.proofs.intake.Intake.find.Goals as goal

pub returns-in-Ok-Quit-clause-found : goal.returns-in-Ok-Quit-clause-found
returns-in-Ok-Quit-clause-found c =
    (c.next_command.new.self, (tt, sym (ap (λ (t : Taken). t.pending) c.self.view_is) ∙ c.in-Ok-Quit.ensures.found.1 ∙ ap (λ cmd. spelling cmd ++ c.next_command.new.self) c.in-Ok-Quit.field-0-is))
