-- The package that is made from a number, and the script that its session has.
use Rattle.std.specs.Prelude.{ℕ, zero, suc, ◌+◌, ◌*◌, ◌%◌, ◌/◌, ◌^◌, nat_eq, List, [], ◌∷◌, ◌++◌, codes, if◌then◌else◌}
use Rattle.std.specs.Fmt.{decimal}
use Rattle.go_base.specs.declared.bytes.FileText.{FileText}
use Rattle.clone_script.specs.declared.choice.Choice.TheVariants as choice
use Rattle.clone_script.specs.declared.command.Command.{Command}
use Rattle.clone_script.specs.declared.command.Command.TheVariants as command

-- ---- draws

-- Before each draw the state becomes the next one.
abbrev pub next_state : ℕ → ℕ
next_state x = (x * 6364136223846793005 + 1442695040888963407) % 2 ^ 64

abbrev pub drawn : ℕ → ℕ
drawn x = x / 2 ^ 33

-- the state behind so many draws
unfoldable pub behind_draws : ℕ → ℕ → ℕ
behind_draws zero x = x
behind_draws (suc n) x = next_state (behind_draws n x)

-- ---- lines

abbrev pub constant_of : ℕ → ℕ
constant_of r = 10 + r / 5 % 90

-- a statement of this kind, up to its constant
abbrev pub statement_front : ℕ → List ℕ
statement_front k =
    if nat_eq k 0 then codes "a = a + " else if nat_eq k 1 then codes "b = b ^ " else if nat_eq k 2 then codes "a = b - " else if nat_eq k 3 then codes "b = a & " else codes "b = a | "

-- the line that a draw gives
abbrev pub drawn_line : ℕ → List ℕ
drawn_line r = codes "\t" ++ (statement_front (r % 5) ++ (decimal (constant_of r) ++ codes "\n"))

-- those of the first draws from this state on, so many
unfoldable pub drawn_lines : ℕ → ℕ → List ℕ
drawn_lines zero x = []
drawn_lines (suc n) x = drawn_lines n x ++ drawn_line (drawn (behind_draws (suc n) x))

-- ---- functions

abbrev pub lines_of_function : ℕ
lines_of_function = 36

abbrev pub function_text : ℕ → ℕ → List ℕ
function_text i x = codes "\nfunc f" ++ (decimal i ++ (codes "(a int) int {\n\tb := a\n" ++ (drawn_lines lines_of_function x ++ codes "\treturn a + b\n}\n")))

-- the first functions, so many: each begins behind the draws of those in front of it
unfoldable pub functions_text : ℕ → ℕ → List ℕ
functions_text zero x = []
functions_text (suc n) x = functions_text n x ++ function_text n (behind_draws (n * lines_of_function) x)

abbrev pub call_line : ℕ → List ℕ
call_line i = codes "\ts = s + f" ++ (decimal i ++ codes "(s)\n")

-- the calls of the first functions, so many
unfoldable pub call_lines : ℕ → List ℕ
call_lines zero = []
call_lines (suc n) = call_lines n ++ call_line n

-- ---- the package

abbrev pub count_functions : ℕ
count_functions = 400

abbrev pub made_text : ℕ → List ℕ
made_text seed =
    codes "package main\n\nimport \"fmt\"\n" ++ (functions_text count_functions seed
    ++ (codes "\nfunc main() {\n\ts := 0\n" ++ (call_lines count_functions ++ codes "\tfmt.Println(s)\n}\n")))

-- one file
abbrev pub made : ℕ → List FileText
made seed = record { name = codes "m.go"; bytes = made_text seed } ∷ []

-- ---- the script

-- It stands for the script where the words tell a number to make the package from.
abbrev pub made_script : List ℕ
made_script = codes "stat\nedit m.go 58 68 10\na = b * 77\nstat\nextract 1 taken all\nstat\nrun 100000 0\n\n"

-- its commands
abbrev pub made_commands : List Command
made_commands =
    command.Stat ∷ command.Edit (codes "m.go") 58 68 (codes "a = b * 77") ∷ command.Stat ∷ command.Extract 1 (codes "taken") choice.All ∷ command.Stat
    ∷ command.Run 100000 [] ∷ []
