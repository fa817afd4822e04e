-- What a session holds once a command was answered.
use Rattle.std.specs.Prelude.{◌≡◌, ◌⊎◌, List, None, Result, Ok, Err}
use Rattle.go_base.specs.declared.bytes.FileText.{FileText}
use Rattle.edit_apply.specs.declared.texts.EditError.{EditError}
use Rattle.edit_apply.specs.Answers.{edit_answer, add_answer, remove_answer}
use Rattle.clone_script.specs.declared.command.Command.{Command}
use Rattle.clone_script.specs.declared.command.Command.TheVariants as command
use Rattle.clone_session.specs.Session.{SessionView}

-- after a change with this answer: the new texts, of which nothing is known, or all as it was
abbrev pub changed : SessionView → Result (List FileText) EditError → SessionView
changed s (Ok new) = record s { texts = new; verdict = None }
changed s (Err e) = s

-- Nothing changed, or there are new texts, of which nothing is known.
abbrev pub AreKeptOrNew : SessionView → SessionView → Type 0
AreKeptOrNew s t = (t ≡ s) ⊎ (t ≡ record s { texts = t.texts; verdict = None })

-- after a command that reads or changes the texts. The others take nothing away
abbrev pub after_command : SessionView → Command → SessionView
after_command s (command.Edit name start end text) = changed s (edit_answer s.texts name start end text)
after_command s (command.Add name text) = changed s (add_answer s.texts name text)
after_command s (command.Remove name) = changed s (remove_answer s.texts name)
after_command s (command.Show name) = s
after_command s command.Classes = s
after_command s command.Maximal = s
after_command s command.Stat = s
after_command s (command.Extract class name choice) = s
after_command s (command.Run turns input) = s
after_command s command.Save = s
after_command s command.Quit = s
