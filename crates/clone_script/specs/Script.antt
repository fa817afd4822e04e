-- A whole script: its commands, and how it ends.
use Rattle.std.specs.Prelude.{◌≡◌, ◌⊎◌, ℕ, ◌-◌, Bool, nat_lt, ◌==◌, List, [], ◌∷◌, length, take, if◌then◌else◌}
use Rattle.clone_script.specs.declared.command.Command.{Command}
use Rattle.clone_script.specs.declared.command.Command.TheVariants as command
use Rattle.clone_script.specs.Grammar.{BeginsWith, IsBeginning, IsBad}

-- the most bytes of a script
abbrev pub most_script : ℕ
most_script = 16777216

pub data Outcome : Type 0 where
  -- `quit` was met, or the script ends behind its last command
  done : Outcome
  -- no command stands at this offset
  bad_at : ℕ → Outcome
  -- the script is too long
  long : Outcome

-- The commands stand one after the other at the front of the bytes, and none is `quit`. This stands behind them.
abbrev pub Follow : List Command → List ℕ → List ℕ → Type 0
Follow [] bytes rest = bytes ≡ rest
Follow (c ∷ cs) bytes rest = (c ≡ command.Quit → ⊥) × (others : List ℕ) × BeginsWith bytes c others × Follow cs others rest

-- the outcome where no command begins at the rest of the script, and its end may lie within one
abbrev pub at_end : Bool → ℕ → List ℕ → Outcome
at_end more_follow size rest = if more_follow then long else (if length rest == 0 then done else bad_at (size - length rest))

-- The outcome where this is left of so many bytes. More may follow them.
abbrev pub Ends : Bool → ℕ → List ℕ → Outcome → Type 0
Ends more_follow size rest o =
    ((others : List ℕ) × BeginsWith rest command.Quit others × (o ≡ done))
    ⊎ ((IsBad rest × (o ≡ bad_at (size - length rest)))
    ⊎ (IsBeginning rest × (o ≡ at_end more_follow size rest)))

-- Commands are read from the first bytes of a script, up to a `quit`.
abbrev pub HasOutcome : List ℕ → Outcome → Type 0
HasOutcome script o =
    (cs : List Command) × (rest : List ℕ) × Follow cs (take most_script script) rest × Ends (nat_lt most_script (length script)) (length (take most_script script)) rest o
