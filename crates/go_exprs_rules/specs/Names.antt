-- Names, literals of basic types, and the rule on places.
use Rattle.std.specs.Prelude.{ℕ, ◌^◌, Bool, true, false, if◌then◌else◌, nat_lt, List, [], Option, Some, None, pos}
use Rattle.go_base.specs.declared.fault.FaultCode.TheVariants as code
use Rattle.go_ints.specs.declared.kinds.Kind.TheVariants as integer_kind
use Rattle.go_constants.specs.declared.values.Const.{Const}
use Rattle.go_constants.specs.declared.values.Const.TheVariants as const
use Rattle.go_tokens.specs.Literals.{integer_value, rune_value, string_value}
use Rattle.go_tree.specs.declared.object.Predeclared.{Predeclared}
use Rattle.go_tree.specs.declared.object.Predeclared.TheVariants as predeclared
use Rattle.go_tree.specs.declared.object.Object.{Object}
use Rattle.go_tree.specs.declared.object.Object.TheVariants as object
use Rattle.go_types.specs.Trees.{boolean, text, integer, TypeRow, none, more}
use Rattle.go_types.specs.Relations.{Rights}
use Rattle.go_types_relations.specs.Tests.{underlying_of}
use Rattle.go_typed.specs.declared.form.Form.{Form}
use Rattle.go_typed.specs.declared.form.Form.TheVariants as form
use Rattle.go_typed.specs.declared.form.Referent.TheVariants as referent
use Rattle.go_typed.specs.Trees as sort
use Rattle.go_exprs_rules.specs.declared.fault.TypeFault.{TypeFault}
use Rattle.go_exprs_rules.specs.Faults.{fault_at}
use Rattle.go_exprs_rules.specs.Sorts.{Stands}
use Rattle.go_exprs_rules.specs.Scopes.{Needed, at_once, loosely, Scope, Hint, several, type_place, loose, inside, one_inside, loose_inside, callee, statement, target, declares, free}
use Rattle.go_exprs_rules.specs.Calls.{results_of}

-- ---- literals

abbrev pub integer_constant : List ℕ → Const
integer_constant bytes = const.Int (pos (integer_value bytes)) false

abbrev pub rune_constant : List ℕ → Const
rune_constant characters = const.Int (pos (rune_value characters)) true

abbrev pub text_constant : List ℕ → Const
text_constant characters = const.Text (string_value characters)

-- an untyped number lies below 2^127
abbrev pub integer_failing : ℕ → ℕ → List ℕ → List TypeFault
integer_failing i j bytes = if nat_lt (integer_value bytes) (2 ^ 127) then [] else fault_at code.Representable i j

-- ---- names

-- what a predeclared name stands for (Go specification, "Predeclared identifiers")
abbrev pub predeclared_sort : ℕ → Predeclared → Stands
predeclared_sort iota predeclared.Bool = sort.IsType boolean
predeclared_sort iota predeclared.String = sort.IsType text
predeclared_sort iota predeclared.Int = sort.IsType (integer integer_kind.Int)
predeclared_sort iota predeclared.Int8 = sort.IsType (integer integer_kind.Int8)
predeclared_sort iota predeclared.Int16 = sort.IsType (integer integer_kind.Int16)
predeclared_sort iota predeclared.Int32 = sort.IsType (integer integer_kind.Int32)
predeclared_sort iota predeclared.Int64 = sort.IsType (integer integer_kind.Int64)
predeclared_sort iota predeclared.Uint = sort.IsType (integer integer_kind.Uint)
predeclared_sort iota predeclared.Uint8 = sort.IsType (integer integer_kind.Uint8)
predeclared_sort iota predeclared.Uint16 = sort.IsType (integer integer_kind.Uint16)
predeclared_sort iota predeclared.Uint32 = sort.IsType (integer integer_kind.Uint32)
predeclared_sort iota predeclared.Uint64 = sort.IsType (integer integer_kind.Uint64)
predeclared_sort iota predeclared.Byte = sort.IsType (integer integer_kind.Uint8)
predeclared_sort iota predeclared.Rune = sort.IsType (integer integer_kind.Int32)
predeclared_sort iota predeclared.True = sort.OpenConstant (const.Bool true)
predeclared_sort iota predeclared.False = sort.OpenConstant (const.Bool false)
predeclared_sort iota predeclared.Iota = sort.OpenConstant (const.Int (pos iota) false)
predeclared_sort iota predeclared.Nil = sort.Nil
predeclared_sort iota p = sort.Builtin p

abbrev pub object_sort : Scope → Needed → Option Object → Stands
object_sort s n None = sort.Blank
object_sort s n (Some object.Import) = sort.Package
object_sort s n (Some (object.Predeclared p)) = predeclared_sort s.iota p
object_sort s n (Some o) = s.sorts n o

-- in a slice's element and in a function type of a type declaration a name needs nothing
abbrev pub need_of : Needed → Hint → Needed
need_of at_once loose = loosely
need_of at_once loose_inside = loosely
need_of n h = n

-- a name that is declared has no sort before its declaration is judged
abbrev pub name_sort : Scope → Hint → ℕ → Stands
name_sort s declares i = sort.Nothing
name_sort s free i = sort.Nothing
name_sort s h i = object_sort s (need_of s.needed h) (s.objects i)

abbrev pub object_form : Scope → Option Object → Form
object_form s None = form.Blank
object_form s (Some object.Import) = form.Object referent.Println
object_form s (Some (object.Predeclared p)) = form.Object (referent.Predeclared p)
object_form s (Some (object.Package n)) = form.Object (s.referents n)
object_form s (Some (object.Local f n)) = form.Local n

abbrev pub declared_form : Scope → Option Object → Form
declared_form s (Some (object.Local f n)) = form.Declared n
declared_form s o = object_form s o

abbrev pub form_or_type : Stands → Form → Form
form_or_type (sort.IsType t) f = form.Type
form_or_type s f = f

abbrev pub name_form : Scope → Hint → ℕ → Form
name_form s declares i = declared_form s (s.objects i)
name_form s free i = declared_form s (s.objects i)
name_form s h i = form_or_type (name_sort s h i) (object_form s (s.objects i))

-- ---- places

abbrev pub is_row_empty : TypeRow → Bool
is_row_empty none = true
is_row_empty (more t ts) = false

-- what is no value at all: a type, `_`, a predeclared function, or a call without results
abbrev pub is_no_value : Rights → Stands → Bool
is_no_value rights (sort.IsType t) = true
is_no_value rights (sort.Builtin p) = true
is_no_value rights sort.Blank = true
is_no_value rights (sort.Results t) = is_row_empty (results_of (underlying_of rights t))
is_no_value rights s = false

abbrev pub is_blank : Stands → Bool
is_blank sort.Blank = true
is_blank s = false

-- a callee may be a type or a predeclared function
abbrev pub is_no_callee : Rights → Stands → Bool
is_no_callee rights sort.Blank = true
is_no_callee rights (sort.Results t) = is_row_empty (results_of (underlying_of rights t))
is_no_callee rights s = false

abbrev pub is_no_target : Rights → Stands → Bool
is_no_target rights sort.Blank = false
is_no_target rights s = is_no_value rights s

abbrev pub is_no_statement : Stands → Bool
is_no_statement (sort.IsType t) = true
is_no_statement (sort.Builtin p) = true
is_no_statement sort.Blank = true
is_no_statement s = false

abbrev pub are_results : Stands → Bool
are_results (sort.Results t) = true
are_results s = false

abbrev pub is_no_type : Stands → Bool
is_no_type (sort.IsType t) = false
is_no_type sort.Unknown = false
is_no_type s = true

abbrev pub not_a_value : Bool → ℕ → ℕ → List TypeFault
not_a_value true i j = fault_at code.NotAValue i j
not_a_value false i j = []

-- one value, where a call of several results is a wrong count
abbrev pub one_value : Bool → Stands → ℕ → ℕ → List TypeFault
one_value true s i j = fault_at code.NotAValue i j
one_value false s i j = if are_results s then fault_at code.Count i j else []

-- several results where one value is wanted
abbrev pub too_many : Bool → Stands → ℕ → ℕ → List TypeFault
too_many true s i j = []
too_many false s i j = one_value false s i j

-- What a place asks of any expression. Inside parentheses the outermost ones are judged, but for the count of results, which
-- is judged at the call.
abbrev pub place_failing : Rights → Hint → ℕ → ℕ → Stands → List TypeFault
place_failing rights several i j s = not_a_value (is_no_value rights s) i j
place_failing rights type_place i j s = not_a_value (is_no_type s) i j
place_failing rights loose i j s = not_a_value (is_no_type s) i j
place_failing rights callee i j s = one_value (is_no_callee rights s) s i j
place_failing rights target i j s = one_value (is_no_target rights s) s i j
place_failing rights statement i j s = not_a_value (is_no_statement s) i j
place_failing rights inside i j s = []
place_failing rights one_inside i j s = too_many (is_no_value rights s) s i j
place_failing rights loose_inside i j s = []
place_failing rights declares i j s = []
place_failing rights free i j s = []
place_failing rights h i j s = one_value (is_no_value rights s) s i j
