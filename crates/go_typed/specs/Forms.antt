-- Forms of nodes.
use Rattle.std.specs.Prelude.{ℕ, Bool, true, false, Option, Some, None}
use Rattle.go_typed.specs.declared.form.Form.{Form}
use Rattle.go_typed.specs.declared.form.Form.TheVariants as form

-- forms of nodes that hold statements in order (Go specification: Blocks, Expression switches)
abbrev pub is_statement_list : Form → Bool
is_statement_list form.Block = true
is_statement_list (form.Case n) = true
is_statement_list form.Default = true
is_statement_list f = false

-- how many parts of a statement list stand in front of its statements: the values of a case
abbrev pub values_count : Form → ℕ
values_count (form.Case n) = n
values_count f = 0

abbrev pub is_default : Form → Bool
is_default form.Default = true
is_default f = false

abbrev pub is_holder : Form → Bool
is_holder (form.Held k) = true
is_holder f = false

abbrev pub is_function : Form → Bool
is_function form.Function = true
is_function f = false

-- the local that a node names, if it names one
abbrev pub local_of : Form → Option ℕ
local_of (form.Local n) = Some n
local_of (form.New n) = Some n
local_of (form.Declared n) = Some n
local_of f = None
