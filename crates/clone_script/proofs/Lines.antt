-- How long the lines of commands are.
use Rattle.std.proofs.Common.{ℕ, ◌+◌, ◌≤◌, List, [], ◌∷◌, ◌++◌, length, arith}
use Rattle.std.proofs.lemmas.List.{length-append}
use Rattle.std.specs.Fmt.{decimal}
use Rattle.std.proofs.lemmas.Fmt.{length-decimal-le}
use Rattle.clone_script.specs.declared.command.Command.{Command}
use Rattle.clone_script.specs.declared.command.Command.TheVariants as command
use Rattle.clone_script.specs.Members.{blank, newline}
use Rattle.clone_script.specs.Commands.{most_length, most_line}
use Rattle.clone_script.specs.Grammar.{Fits, spelling, longest_line, behind_line}
use Rattle.clone_script.proofs.CommandTexts.{ten_digits}

seven_digits : (n : ℕ) → n ≤ most_length → length (decimal n) ≤ 7
seven_digits n h = length-decimal-le 7 n (omega arith) (omega (arith, h)) (omega (arith, h))

-- a field and the byte behind it
field : (xs ys : List ℕ) (end most n : ℕ) → length xs ≤ most → length ys ≤ n → length (xs ++ (end ∷ ys)) ≤ most + 1 + n
field xs ys end most n h k = omega (arith, length-append xs (end ∷ ys), h, k)

last : (xs : List ℕ) → length (xs ++ (newline ∷ [])) ≤ length xs + 1
last xs = omega (arith, length-append xs (newline ∷ []))

pub short_lines : (c : Command) → Fits c → length (spelling c) ≤ longest_line c + behind_line c
short_lines (command.Edit name start end text) h =
    let size = field (decimal (length text)) (text ++ (newline ∷ [])) newline 7 (length text + 1) (seven_digits (length text) h.3) (last text) in
    let third = field (decimal end) (decimal (length text) ++ (newline ∷ (text ++ (newline ∷ [])))) blank 10 (7 + 1 + (length text + 1)) (ten_digits end h.2) size in
    let second = field (decimal start) (decimal end ++ (blank ∷ (decimal (length text) ++ (newline ∷ (text ++ (newline ∷ [])))))) blank 10 (10 + 1 + (7 + 1 + (length text + 1))) (ten_digits start h.1) third in
    let first = field name (decimal start ++ (blank ∷ (decimal end ++ (blank ∷ (decimal (length text) ++ (newline ∷ (text ++ (newline ∷ [])))))))) blank 255 (10 + 1 + (10 + 1 + (7 + 1 + (length text + 1)))) h.0.few second in
    omega (arith, first)
short_lines (command.Add name text) h =
    let size = field (decimal (length text)) (text ++ (newline ∷ [])) newline 7 (length text + 1) (seven_digits (length text) h.1) (last text) in
    let first = field name (decimal (length text) ++ (newline ∷ (text ++ (newline ∷ [])))) blank 255 (7 + 1 + (length text + 1)) h.0.few size in
    omega (arith, first)
short_lines (command.Remove name) h = omega (arith, last name, h.few)
short_lines command.Classes h = omega arith
short_lines command.Maximal h = omega arith
short_lines command.Stat h = omega arith
short_lines (command.Extract class name choice) h = omega (arith, h.3)
short_lines (command.Run turns input) h =
    let size = field (decimal (length input)) (input ++ (newline ∷ [])) newline 7 (length input + 1) (seven_digits (length input) h.1) (last input) in
    let first = field (decimal turns) (decimal (length input) ++ (newline ∷ (input ++ (newline ∷ [])))) blank 10 (7 + 1 + (length input + 1)) (ten_digits turns (omega (arith, h.0))) size in
    omega (arith, first)
short_lines (command.Show name) h = omega (arith, last name, h.few)
short_lines command.Save h = omega arith
short_lines command.Quit h = omega arith

pub lines_within : (c : Command) → longest_line c ≤ most_line
lines_within (command.Edit name start end text) = omega arith
lines_within (command.Add name text) = omega arith
lines_within (command.Remove name) = omega arith
lines_within command.Classes = omega arith
lines_within command.Maximal = omega arith
lines_within command.Stat = omega arith
lines_within (command.Extract class name choice) = omega arith
lines_within (command.Run turns input) = omega arith
lines_within (command.Show name) = omega arith
lines_within command.Save = omega arith
lines_within command.Quit = omega arith
