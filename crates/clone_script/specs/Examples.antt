-- Words of the worked examples.
use Rattle.std.specs.Prelude.{◌≡◌, ℕ, List, Result, Ok, Err}
use Rattle.clone_script.specs.declared.command.Command.{Command}
use Rattle.clone_script.specs.Reading.{Refusal}
use Rattle.clone_script.specs.Commands.{command_of}

abbrev Answer : Type 0
Answer = Result (Command × ℕ) Refusal

-- the bytes begin with this command of so many bytes
abbrev pub Takes : List ℕ → Command → ℕ → Type 0
Takes bytes c n = let found : Command × ℕ = (c, n) in let answer : Answer = Ok found in command_of bytes ≡ answer

-- no command is taken from them
abbrev pub TakesNone : List ℕ → Refusal → Type 0
TakesNone bytes r = let answer : Answer = Err r in command_of bytes ≡ answer
