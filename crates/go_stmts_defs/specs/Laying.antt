-- How the parts of statements and declarations stand in typed trees, and what a part is told.
use Rattle.std.specs.Prelude.{ℕ, suc, ◌-◌, Bool, true, false, if◌then◌else◌, nat_lt, [], ◌∷◌, ◌++◌, length, take, map, Option, Some, None}
use Rattle.std.specs.Option.{option_map}
use Rattle.go_grammar.specs.declared.kind.Kind.{Kind}
use Rattle.go_grammar.specs.declared.kind.Kind.TheVariants as kind
use Rattle.go_grammar.specs.declared.kind.Sort.TheVariants as declaring
use Rattle.go_grammar.specs.Trees.{Trees}
use Rattle.go_grammar.specs.Grammar.{count}
use Rattle.go_tree.specs.declared.object.Object.{Object}
use Rattle.go_tree.specs.declared.object.Object.TheVariants as object
use Rattle.go_types.specs.Trees.{TypeTree, declared}
use Rattle.go_typed.specs.declared.form.Form.{Form}
use Rattle.go_typed.specs.declared.form.Form.TheVariants as form
use Rattle.go_typed.specs.Trees.{Typed, typed, Typeds, list_of, form_of, parts_of}
use Rattle.go_typed.specs.Trees as sort
use Rattle.go_exprs_rules.specs.Settling.{Part}
use Rattle.go_exprs_rules.specs.Sorts.{Stands}
use Rattle.go_exprs_rules.specs.Scopes.{Hint, value, several, type_place, statement, target, declares, free}
use Rattle.go_exprs_rules.specs.Names.{declared_form}
use Rattle.go_exprs_rules.specs.Tables.{Parts, held, all_held, first_cut, made, behind_first}
use Rattle.go_stmts_defs.specs.Frames.{Frame, Locals, declared_type}

-- ---- what a part is told

-- a call of several results stands alone
abbrev pub alone_or_value : Trees → Hint → Hint
alone_or_value ps several = if nat_lt 1 (count ps) then value else several
alone_or_value ps h = h

abbrev pub behind_names : Kind → Hint → Hint
behind_names kind.TypedValues h = h
behind_names kind.Values h = h
behind_names k h = type_place

-- of a specification the names, and then a type or values
abbrev pub specification_told : Hint → Parts → Kind → Hint
specification_told h [] k = declares
specification_told h xs k = behind_names k h

abbrev pub first_then : Hint → Hint → Parts → Hint
first_then g h [] = g
first_then g h xs = h

-- What the next part is told: from the node's kind, from what it was told, from all its parts as they are written, from those in
-- front of the next one, typed, and from the next one's kind.
abbrev pub told : Kind → Hint → Trees → Parts → Kind → Hint
told (kind.Specification declaring.Type) h ps xs k = type_place
told (kind.Specification declaring.Variable) h ps xs k = specification_told several xs k
told (kind.Specification declaring.Constant) h ps xs k = specification_told value xs k
told kind.TypedValues h ps xs k = first_then type_place h xs
told kind.Values h ps xs k = h
told kind.ExpressionList h ps xs k = alone_or_value ps h
told kind.NameList h ps xs k = declares
told kind.NewNames h ps xs k = declares
told kind.Targets h ps xs k = target
told kind.Assignment h ps xs k = first_then free several xs
told kind.Define h ps xs k = first_then free several xs
told kind.ExpressionStatement h ps xs k = statement
told kind.Return h ps xs k = several
told n h ps xs k = value

-- ---- names that are declared

-- a name of `:=` or of a range clause: a local that is declared there, or one that is declared already
abbrev pub new_or_known : ℕ → Option TypeTree → Form
new_or_known n (Some t) = form.Local n
new_or_known n None = form.New n

abbrev pub new_form : Locals → Form → Form
new_form ls (form.Declared n) = new_or_known n (declared_type ls n)
new_form ls f = f

abbrev pub with_form : (Form → Form) → Part → Part
with_form g (typed f i j l ps) = typed (g f) i j l ps

abbrev pub new_name : Locals → Option Part → Option Part
new_name ls x = option_map (with_form (new_form ls)) x

-- the local that an object is
abbrev pub local_named : Option Object → Option ℕ
local_named (Some (object.Local f n)) = Some n
local_named o = None

-- the number of the declared type that the name at this token is; the blank identifier names none
abbrev pub type_number : Frame → ℕ → Option ℕ
type_number s i = option_map s.types (local_named (s.around.objects i))

abbrev pub type_sort : Option ℕ → Stands
type_sort (Some m) = sort.IsType (declared m)
type_sort None = sort.Nothing

-- the name of a type that is declared at this token
abbrev pub type_name : Frame → ℕ → Part
type_name s i = made (declared_form s.around (s.around.objects i)) i (suc i) (type_sort (type_number s i)) [] []

-- ---- how many parts of a node are names, targets or cases

abbrev pub held_count : Option Part → ℕ
held_count x = length (held x)

abbrev pub first_count : Parts → ℕ
first_count [] = 0
first_count (x ∷ xs) = held_count x

-- ---- layouts

abbrev pub is_values : Option Part → Bool
is_values (Some (typed (form.Held kind.Values) i j l ps)) = true
is_values x = false

abbrev pub typed_or_not : Option Part → Parts
typed_or_not None = None ∷ []
typed_or_not (Some x) = if is_values (Some x) then None ∷ held (Some x) else held (Some x)

-- names.. type? values..
abbrev pub specification_parts : Parts → Parts
specification_parts (ns ∷ x ∷ []) = held ns ++ first_cut (typed_or_not x)
specification_parts xs = xs

-- how many names a specification declares
abbrev pub names_count : Form → ℕ
names_count (form.Specified n) = n
names_count (form.Held (kind.Specification declaring.Type)) = 1
names_count f = 0

abbrev pub specified_names : Option Part → Parts
specified_names None = []
specified_names (Some x) = take (names_count (form_of x)) (list_of (parts_of x))

abbrev pub all_names : Parts → Parts
all_names [] = []
all_names (x ∷ xs) = specified_names x ++ all_names xs

abbrev pub is_group : Form → Bool
is_group (form.Held (kind.Group s)) = true
is_group f = false

-- the specifications of a declaration, in parentheses or without
abbrev pub specifications : Parts → Parts
specifications (Some x ∷ []) = if is_group (form_of x) then list_of (parts_of x) else Some x ∷ []
specifications xs = xs

-- first? condition, or first? tag?
abbrev pub header_parts : Option Part → Parts
header_parts (Some (typed (form.Held kind.LateCondition) i j l ps)) = None ∷ list_of ps
header_parts (Some (typed (form.Held kind.LateTag) i j l ps)) = None ∷ list_of ps
header_parts (Some (typed (form.Held kind.InitializedCondition) i j l ps)) = list_of ps
header_parts (Some (typed (form.Held kind.InitializedTag) i j l ps)) = list_of ps
header_parts x = None ∷ x ∷ []

abbrev pub if_parts : Parts → Parts
if_parts (h ∷ b ∷ e ∷ []) = header_parts h ++ b ∷ held e
if_parts xs = xs

abbrev pub switch_parts : Parts → Parts
switch_parts (h ∷ xs) = header_parts h ++ xs
switch_parts [] = []

-- first? condition? post?, or of a range clause targets.. operand
abbrev pub loop_header : Option Part → Parts
loop_header (Some (typed (form.Held kind.ForClause) i j l ps)) = None ∷ list_of ps
loop_header (Some (typed (form.Held k) i j l ps)) = list_of ps
loop_header x = None ∷ x ∷ None ∷ []

abbrev pub for_parts : Parts → Parts
for_parts (h ∷ xs) = loop_header h ++ xs
for_parts [] = []

abbrev pub without_absent : Parts → Parts
without_absent [] = []
without_absent (Some x ∷ xs) = Some x ∷ without_absent xs
without_absent (None ∷ xs) = without_absent xs

-- The parts of a node whose first token is i, with those of the nodes that only hold parts in their places
abbrev pub layout : Frame → Kind → ℕ → Parts → Parts
layout s kind.Targets i xs = all_held xs
layout s kind.NewNames i xs = map (new_name s.locals) (all_held xs)
layout s kind.Values i xs = all_held xs
layout s kind.TypedValues i xs = all_held xs
layout s (kind.Specification declaring.Type) i xs = Some (type_name s i) ∷ xs
layout s (kind.Specification d) i xs = specification_parts xs
layout s (kind.Declaration declaring.Variable) i xs = specifications xs
layout s (kind.Declaration d) i xs = all_names (specifications xs)
layout s kind.Assignment i xs = all_held xs
layout s kind.Define i xs = all_held xs
layout s kind.Case i xs = all_held xs
layout s kind.Return i xs = without_absent (all_held xs)
layout s kind.If i xs = if_parts xs
layout s kind.Switch i xs = switch_parts xs
layout s kind.For i xs = for_parts xs
layout s kind.AssigningRange i xs = all_held xs
layout s kind.DefiningRange i xs = all_held xs
layout s kind.FunctionDeclaration i xs = without_absent (behind_first xs)
layout s k i xs = xs

-- ---- forms

-- of a range clause with targets.. operand
abbrev pub target_count : Typeds TypeTree → ℕ
target_count ps = length (list_of ps) - 1

abbrev pub loop_form : Option Part → Form
loop_form (Some (typed (form.Held kind.Range) i j l ps)) = form.Range false 0
loop_form (Some (typed (form.Held kind.AssigningRange) i j l ps)) = form.Range false (target_count ps)
loop_form (Some (typed (form.Held kind.DefiningRange) i j l ps)) = form.Range true (target_count ps)
loop_form x = form.For

abbrev pub first_loop_form : Parts → Form
first_loop_form [] = form.For
first_loop_form (x ∷ xs) = loop_form x

-- the form of a node over the parts as they are written
abbrev pub form_by : Kind → Parts → Form
form_by kind.FunctionDeclaration xs = form.Function
form_by kind.ExpressionStatement xs = form.Expression
form_by (kind.StepStatement o) xs = form.Step o
form_by kind.Assignment xs = form.Assign (first_count xs)
form_by (kind.OperatorAssignment o) xs = form.Operate o
form_by kind.Define xs = form.Define (first_count xs)
form_by (kind.Declaration declaring.Variable) xs = form.Variables
form_by (kind.Declaration declaring.Constant) xs = form.Constants
form_by (kind.Declaration declaring.Type) xs = form.TypeNames
form_by (kind.Specification declaring.Variable) xs = form.Specified (first_count xs)
form_by (kind.Specification declaring.Constant) xs = form.Specified (first_count xs)
form_by kind.Return xs = form.Return
form_by kind.Break xs = form.Break
form_by kind.Continue xs = form.Continue
form_by kind.Fallthrough xs = form.Fallthrough
form_by kind.Block xs = form.Block
form_by kind.If xs = form.If
form_by kind.Switch xs = form.Switch
form_by kind.Case xs = form.Case (first_count xs)
form_by kind.Default xs = form.Default
form_by kind.For xs = first_loop_form xs
form_by k xs = form.Held k
