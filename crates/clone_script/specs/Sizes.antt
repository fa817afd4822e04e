-- How many bytes a command has, told by its line.
use Rattle.std.specs.Prelude.{ℕ, ◌+◌, ◌<◌, List, ◌++◌, length, Err}
use Rattle.go_base.specs.Gives.{◌>>=◌}
use Rattle.clone_script.specs.declared.command.Keyword.{Keyword}
use Rattle.clone_script.specs.declared.command.Keyword.TheVariants as keyword
use Rattle.clone_script.specs.Reading.{bad, Read, number_at, name_at}
use Rattle.clone_script.specs.Members.{most_number, blank, newline}
use Rattle.clone_script.specs.Commands.{most_turns, most_length, keywords, keyword_of}
use Rattle.clone_script.specs.Grammar.{IsBeginning}

-- LEN at the end of a line whose keyword was read, and the bytes behind the line
unfoldable pub size_behind : Keyword → List ℕ → Read ℕ
size_behind keyword.Edit bytes = do
  name ← name_at blank bytes
  start ← number_at most_number blank name.1
  end ← number_at most_number blank start.1
  number_at most_length newline end.1
size_behind keyword.Add bytes = do
  name ← name_at blank bytes
  number_at most_length newline name.1
size_behind keyword.Drop bytes = Err bad
size_behind keyword.Classes bytes = Err bad
size_behind keyword.Maximal bytes = Err bad
size_behind keyword.Stat bytes = Err bad
size_behind keyword.Extract bytes = Err bad
size_behind keyword.Run bytes = do
  turns ← number_at most_turns blank bytes
  number_at most_length newline turns.1
size_behind keyword.Show bytes = Err bad
size_behind keyword.Save bytes = Err bad
size_behind keyword.Quit bytes = Err bad

-- LEN at the end of the line at the front, and the bytes behind the line
unfoldable pub size_at : List ℕ → Read ℕ
size_at bytes = do
  word ← keyword_of keywords bytes
  size_behind word.0 word.1

-- Fewer bytes than so many that begin like these are the beginning of a command.
pub record Wants (size : ℕ) (bytes : List ℕ) : Type 0 where
  pub unfinished : (later : List ℕ) → length bytes + length later < size → IsBeginning (bytes ++ later)
