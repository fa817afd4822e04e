-- The commands of a script, read from its front.
use Rattle.std.specs.Prelude.{ℕ, ◌+◌, ◌-◌, List, [], ◌∷◌, length, codes, Result, Ok, Err}
use Rattle.std.specs.Fmt.{decimal}
use Rattle.go_base.specs.Gives.{◌>>=◌, Gives}
use Rattle.clone_script.specs.declared.command.Command.{Command}
use Rattle.clone_script.specs.declared.command.Command.TheVariants as command
use Rattle.clone_script.specs.declared.command.Keyword.{Keyword}
use Rattle.clone_script.specs.declared.error.ScriptError.{ScriptError}
use Rattle.clone_script.specs.declared.command.Keyword.TheVariants as keyword
use Rattle.clone_script.specs.Reading.{Refusal, bad, Read, script_refusal, or_else, literal_at, number_at, name_at, bytes_at}
use Rattle.clone_script.specs.Members.{most_number, blank, newline, choice_at}

-- the greatest TURNS
abbrev pub most_turns : ℕ
most_turns = 1000000000

-- the greatest LEN
abbrev pub most_length : ℕ
most_length = 1048576

-- the most bytes of a command's line, with its newline
abbrev pub most_line : ℕ
most_line = 65536

-- the first word of a command, and the blank or newline behind it
abbrev pub spelling_of : Keyword → List ℕ
spelling_of keyword.Edit = codes "edit "
spelling_of keyword.Add = codes "add "
spelling_of keyword.Drop = codes "drop "
spelling_of keyword.Classes = codes "classes\n"
spelling_of keyword.Maximal = codes "maximal\n"
spelling_of keyword.Stat = codes "stat\n"
spelling_of keyword.Extract = codes "extract "
spelling_of keyword.Run = codes "run "
spelling_of keyword.Show = codes "show "
spelling_of keyword.Save = codes "save\n"
spelling_of keyword.Quit = codes "quit\n"

abbrev pub keywords : List Keyword
keywords = keyword.Edit ∷ keyword.Add ∷ keyword.Drop ∷ keyword.Classes ∷ keyword.Maximal ∷ keyword.Stat ∷ keyword.Extract ∷ keyword.Run ∷ keyword.Show ∷ keyword.Save ∷ keyword.Quit ∷ []

-- the first of these keywords that the bytes begin with, or may begin with
unfoldable pub keyword_of : List Keyword → List ℕ → Read Keyword
keyword_of [] bytes = Err bad
keyword_of (k ∷ ks) bytes = or_else (literal_at (spelling_of k) bytes >>= λ x. Ok (k, x.1)) (keyword_of ks bytes)

-- how many bytes of the line of `extract` are left behind the blank that follows the name
abbrev pub room_behind : ℕ → List ℕ → ℕ
room_behind class name = most_line - (length (spelling_of keyword.Extract) + (length (decimal class) + 1) + (length name + 1))

-- what stands behind a keyword
unfoldable pub behind_keyword : Keyword → List ℕ → Read Command
behind_keyword keyword.Edit bytes = do
  name ← name_at blank bytes
  start ← number_at most_number blank name.1
  end ← number_at most_number blank start.1
  size ← number_at most_length newline end.1
  text ← bytes_at size.0 size.1
  Ok (command.Edit name.0 start.0 end.0 text.0, text.1)
behind_keyword keyword.Add bytes = do
  name ← name_at blank bytes
  size ← number_at most_length newline name.1
  text ← bytes_at size.0 size.1
  Ok (command.Add name.0 text.0, text.1)
behind_keyword keyword.Drop bytes = do
  name ← name_at newline bytes
  Ok (command.Remove name.0, name.1)
behind_keyword keyword.Classes bytes = Ok (command.Classes, bytes)
behind_keyword keyword.Maximal bytes = Ok (command.Maximal, bytes)
behind_keyword keyword.Stat bytes = Ok (command.Stat, bytes)
behind_keyword keyword.Extract bytes = do
  class ← number_at most_number blank bytes
  name ← name_at blank class.1
  choice ← choice_at (room_behind class.0 name.0) name.1
  Ok (command.Extract class.0 name.0 choice.0, choice.1)
behind_keyword keyword.Run bytes = do
  turns ← number_at most_turns blank bytes
  size ← number_at most_length newline turns.1
  input ← bytes_at size.0 size.1
  Ok (command.Run turns.0 input.0, input.1)
behind_keyword keyword.Show bytes = do
  name ← name_at newline bytes
  Ok (command.Show name.0, name.1)
behind_keyword keyword.Save bytes = Ok (command.Save, bytes)
behind_keyword keyword.Quit bytes = Ok (command.Quit, bytes)

-- the command at the front, and the bytes behind it
unfoldable pub command_at : List ℕ → Read Command
command_at bytes = do
  word ← keyword_of keywords bytes
  behind_keyword word.0 word.1

-- the command at the front, and how many bytes it takes
unfoldable pub command_of : List ℕ → Result (Command × ℕ) Refusal
command_of bytes = do
  found ← command_at bytes
  Ok (found.0, length bytes - length found.1)

-- the command that a call answered, and how many bytes it takes
abbrev pub taken_view : Command × ℕ → Command × ℕ
taken_view x = (x.0, x.1)

-- a call answers this, unless memory ran out
abbrev pub Answers : Result (Command × ℕ) ScriptError → Result (Command × ℕ) Refusal → Type 0
Answers result answer = Gives taken_view script_refusal result answer
