-- The script of a package that is made from a number: its commands, and that it is done behind them.
use Rattle.std.proofs.Common.{◌≡◌, ℕ, ◌≤◌, List, [], ◌++◌, length, codes, inr, refl, ◌∙◌, arith}
use Rattle.std.specs.Fmt.{decimal}
use Rattle.std.proofs.lemmas.Fmt.{decimal_digit, decimal-digits_of}
use Rattle.clone_script.specs.declared.choice.Choice.TheVariants as choice
use Rattle.clone_script.specs.declared.command.Command.TheVariants as command
use Rattle.clone_script.specs.Commands.{most_line}
use Rattle.clone_script.specs.Grammar.{IsName, extract_line, spelling}
use Rattle.clone_script.specs.Reading.{first_byte, next_byte}
use Rattle.clone_script.specs.Script.{HasOutcome, Follow, done}
use Rattle.clone_server.specs.Made.{made_commands, made_script}

-- ---- numbers

zero_is : decimal 0 ≡ codes "0"
zero_is = decimal_digit 0 (omega arith)

one_is : decimal 1 ≡ codes "1"
one_is = decimal_digit 1 (omega arith)

ten_is : decimal 10 ≡ codes "10"
ten_is = decimal-digits_of 10 (omega arith) (omega arith) ∙ refl

start_is : decimal 58 ≡ codes "58"
start_is = decimal-digits_of 58 (omega arith) (omega arith) ∙ refl

end_is : decimal 68 ≡ codes "68"
end_is = decimal-digits_of 68 (omega arith) (omega arith) ∙ refl

turns_is : decimal 100000 ≡ codes "100000"
turns_is = decimal-digits_of 100000 (omega arith) (omega arith) ∙ refl

-- ---- commands

edit_spelled : (rest : List ℕ) → codes "edit m.go 58 68 10\na = b * 77\n" ++ rest ≡ spelling (command.Edit (codes "m.go") 58 68 (codes "a = b * 77")) ++ rest
edit_spelled rest = rw (start_is, end_is, ten_is) refl

extract_spelled : (rest : List ℕ) → codes "extract 1 taken all\n" ++ rest ≡ spelling (command.Extract 1 (codes "taken") choice.All) ++ rest
extract_spelled rest = rw one_is refl

run_spelled : (rest : List ℕ) → codes "run 100000 0\n\n" ++ rest ≡ spelling (command.Run 100000 []) ++ rest
run_spelled rest = rw (turns_is, zero_is) refl

file_is_name : IsName (codes "m.go")
unfolding first_byte next_byte
file_is_name = record { some = omega arith; few = omega arith; text = refl }

function_is_name : IsName (codes "taken")
unfolding first_byte next_byte
function_is_name = record { some = omega arith; few = omega arith; text = refl }

extract_is_short : length (extract_line 1 (codes "taken") choice.All) ≤ most_line
extract_is_short = rw one_is (omega arith)

-- the commands stand in the script, one behind the other
commands_follow : Follow made_commands made_script []
commands_follow = (
  λ e. cc,
  _,
  (tt, refl),
  (
    λ e. cc,
    _,
    ((file_is_name, omega arith, omega arith, omega arith), edit_spelled (codes "stat\nextract 1 taken all\nstat\nrun 100000 0\n\n")),
    (
      λ e. cc,
      _,
      (tt, refl),
      (
        λ e. cc,
        _,
        ((omega arith, function_is_name, tt, extract_is_short), extract_spelled (codes "stat\nrun 100000 0\n\n")),
        (
          λ e. cc,
          _,
          (tt, refl),
          (
            λ e. cc,
            [],
            ((omega arith, omega arith), run_spelled []),
            refl,
          ),
        ),
      ),
    ),
  ),
)

pub made_done : HasOutcome made_script done
made_done = (made_commands, [], commands_follow, inr (inr ((command.Stat, 115, codes "tat\n", (tt, refl)), refl)))
