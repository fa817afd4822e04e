-- Replies to the commands that read or change texts.
use Rattle.std.specs.Prelude.{◌≡◌, ℕ, List, Option, Some, None, Result, Ok, Err}
use Rattle.go_base.specs.declared.bytes.FileText.{FileText}
use Rattle.edit_apply.specs.declared.texts.EditError.{EditError}
use Rattle.edit_apply.specs.declared.texts.EditError.TheVariants as errors
use Rattle.edit_apply.specs.Edited.{bytes_under}
use Rattle.edit_apply.specs.Answers.{edit_answer, add_answer, remove_answer}
use Rattle.clone_script.specs.declared.command.Command.{Command}
use Rattle.clone_script.specs.declared.command.Command.TheVariants as command
use Rattle.clone_script.specs.declared.reply.EditKind.{EditKind}
use Rattle.clone_script.specs.declared.reply.EditKind.TheVariants as kinds
use Rattle.clone_script.specs.declared.reply.EditAnswer.{EditAnswer}
use Rattle.clone_script.specs.declared.reply.EditAnswer.TheVariants as answers
use Rattle.clone_script.specs.Replies.{kind_word, edit_reply, show_reply}

-- what a reply tells of a refusal. Want of memory has no reply
abbrev pub told_of : EditError → Option EditAnswer
told_of errors.NoFile = Some answers.NoFile
told_of errors.Range = Some answers.Range
told_of errors.Limit = Some answers.Limit
told_of errors.Memory = None
told_of errors.BadName = Some answers.BadName
told_of errors.Held = Some answers.Held

-- the reply to a command that was refused so
abbrev pub IsRefusal : EditKind → EditError → List ℕ → Type 0
IsRefusal kind e reply = (told : EditAnswer) × (told_of e ≡ Some told) × (reply ≡ edit_reply (kind_word kind) told)

-- The command was done, or refused, and then the files are as they were.
abbrev pub Changes : EditKind → List FileText → Result (List FileText) EditError → List ℕ → List FileText → Type 0
Changes kind files (Ok new) reply after = (reply ≡ edit_reply (kind_word kind) answers.Done) × (after ≡ new)
Changes kind files (Err e) reply after = IsRefusal kind e reply × (after ≡ files)

-- At these files the command gets this reply, and leaves these files.
abbrev pub TextReply : List FileText → Command → List ℕ → List FileText → Type 0
TextReply files (command.Edit name start end text) reply after = Changes kinds.Edit files (edit_answer files name start end text) reply after
TextReply files (command.Add name text) reply after = Changes kinds.Add files (add_answer files name text) reply after
TextReply files (command.Remove name) reply after = Changes kinds.Drop files (remove_answer files name) reply after
TextReply files (command.Show name) reply after = (reply ≡ show_reply (bytes_under files name)) × (after ≡ files)
TextReply files command.Classes reply after = ⊥
TextReply files command.Maximal reply after = ⊥
TextReply files command.Stat reply after = ⊥
TextReply files (command.Extract class name choice) reply after = ⊥
TextReply files (command.Run turns input) reply after = ⊥
TextReply files command.Save reply after = ⊥
TextReply files command.Quit reply after = ⊥

-- a command of another sort
abbrev pub IsOther : Command → Type 0
IsOther (command.Edit name start end text) = ⊥
IsOther (command.Add name text) = ⊥
IsOther (command.Remove name) = ⊥
IsOther (command.Show name) = ⊥
IsOther command.Classes = Unit {0}
IsOther command.Maximal = Unit {0}
IsOther command.Stat = Unit {0}
IsOther (command.Extract class name choice) = Unit {0}
IsOther (command.Run turns input) = Unit {0}
IsOther command.Save = Unit {0}
IsOther command.Quit = Unit {0}
