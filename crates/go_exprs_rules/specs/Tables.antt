-- The tables, by kinds: what parts are told, how they are laid out, which rules fail, what the node stands for, and what its
-- parts take. None of them is recursive.
use Rattle.std.specs.Prelude.{ℕ, ◌-◌, Bool, true, false, ◌&&◌, ◌||◌, not, if◌then◌else◌, List, [], ◌∷◌, ◌++◌, Option, Some, None, unwrap_or}
use Rattle.std.specs.List.{list_any}
use Rattle.go_grammar.specs.declared.kind.Kind.{Kind}
use Rattle.go_grammar.specs.declared.kind.Kind.TheVariants as kind
use Rattle.go_grammar.specs.Trees.{Trees}
use Rattle.go_grammar.specs.Trees as syntax
use Rattle.go_grammar.specs.Grammar.{ends_named, is_name}
use Rattle.go_tree.specs.declared.object.Predeclared.TheVariants as predeclared
use Rattle.go_types.specs.Trees.{TypeTree, array, slice, structure}
use Rattle.go_types.specs.Relations.{Rights}
use Rattle.go_types_relations.specs.Tests.{underlying_of}
use Rattle.go_typed.specs.declared.form.Form.{Form}
use Rattle.go_typed.specs.declared.form.Form.TheVariants as form
use Rattle.go_typed.specs.declared.form.Referent.TheVariants as referent
use Rattle.go_typed.specs.Trees.{Label, Typed, typed, Typeds, row, list_of, form_of, sort_of, parts_of, label_of}
use Rattle.go_typed.specs.Trees as sort
use Rattle.go_exprs_rules.specs.declared.fault.TypeFault.{TypeFault}
use Rattle.go_exprs_rules.specs.Faults.{or_else}
use Rattle.go_exprs_rules.specs.Sorts.{Stands, named_type, is_unknown, is_constant, underlying_in, form_of_value, int}
use Rattle.go_exprs_rules.specs.Settling.{Part, Take, stay, default, as_type, given}
use Rattle.go_exprs_rules.specs.Scopes.{in_full, Scope, Hint, value, several, type_place, loose, inside, one_inside, loose_inside, callee, statement, declares, free, element, member, elided}
use Rattle.go_exprs_rules.specs.Operators.{unary_failing, unary_sort, unary_take, operation_failing, operation_sort, operation_takes}
use Rattle.go_exprs_rules.specs.Indexes.{field_number, selector_failing, selector_sort, index_failing, index_sort, slice_failing, slice_sort}
use Rattle.go_exprs_rules.specs.Calls.{row_length, call_failing, call_sort, call_takes}
use Rattle.go_exprs_rules.specs.Literals.{literal_failing, literal_takes, literal_sort}
use Rattle.go_exprs_rules.specs.TypeNodes.{part_type, type_sort, sequence_failing, sequence_type, signature_type, fields_from, structure_of}
use Rattle.go_exprs_rules.specs.Names.{integer_failing, integer_constant, rune_constant, text_constant, name_sort, name_form, place_failing}

-- typed parts, as they stand in a node
abbrev pub Parts : Type 0
Parts = List (Option Part)

-- ---- what a part is told

-- where one value is wanted the inside is told so
abbrev pub in_parentheses : Hint → Hint
in_parentheses loose = loose_inside
in_parentheses loose_inside = loose_inside
in_parentheses several = inside
in_parentheses type_place = inside
in_parentheses inside = inside
in_parentheses statement = inside
in_parentheses declares = inside
in_parentheses free = inside
in_parentheses h = one_inside

abbrev pub as_type_place : Hint → Hint
as_type_place loose = loose
as_type_place loose_inside = loose
as_type_place h = type_place

-- what an element of a literal of the type t is told, by its underlying type
abbrev pub element_in : TypeTree → Option TypeTree → Hint
element_in t (Some (array n e)) = element e
element_in t (Some (slice e)) = element e
element_in t (Some (structure ns ts)) = member t
element_in t u = elided

abbrev pub element_told : Rights → Option TypeTree → Hint
element_told rights (Some t) = element_in t (underlying_of rights t)
element_told rights None = elided

-- the type that a literal without a type of its own has
abbrev pub told_type : Hint → Option TypeTree
told_type (element t) = Some t
told_type h = None

abbrev pub is_make : Stands → Bool
is_make (sort.Builtin predeclared.Make) = true
is_make s = false

-- a type stands first among the arguments of `make`
abbrev pub argument_told : Parts → Hint
argument_told (Some f ∷ []) = if is_make (sort_of f) then type_place else value
argument_told xs = value

abbrev pub call_told : Parts → Hint
call_told [] = callee
call_told xs = argument_told xs

abbrev pub composite_told : Rights → Parts → Hint
composite_told rights [] = type_place
composite_told rights (t ∷ xs) = element_told rights (part_type t)

abbrev pub keyed_told : Hint → Parts → Hint
keyed_told h [] = free
keyed_told h xs = h

abbrev pub skips_first : Trees → Bool
skips_first (syntax.skip ps) = true
skips_first ps = false

-- the length of an array, and the type of the elements
abbrev pub sequence_told : Hint → Trees → Parts → Hint
sequence_told h ps [] = value
sequence_told h ps xs = if skips_first ps then loose else as_type_place h

abbrev pub names_told : Hint → Parts → Hint
names_told h [] = declares
names_told h xs = as_type_place h

-- a name in front of a named parameter shares its type
abbrev pub parameter_told : Hint → Trees → Kind → Hint
parameter_told h ps k = if ends_named ps then (if is_name k then declares else h) else as_type_place h

-- What the next part of a node is told: from the node's kind, from what it was told, from all its parts as they are written, from
-- those in front of the next one, typed, and from the next one's kind.
abbrev pub hint : Scope → Kind → Hint → Trees → Parts → Kind → Hint
hint s kind.Parenthesized h ps xs k = in_parentheses h
hint s kind.ParenthesizedType h ps xs k = in_parentheses h
hint s kind.Call h ps xs k = call_told xs
hint s kind.Composite h ps xs k = composite_told s.rights xs
hint s kind.LiteralValue h ps xs k = element_told s.rights (told_type h)
hint s kind.Keyed h ps xs k = keyed_told h xs
hint s kind.SequenceType h ps xs k = sequence_told h ps xs
hint s kind.FunctionType h ps xs k = loose
hint s kind.StructType h ps xs k = as_type_place h
hint s kind.Signature h ps xs k = as_type_place h
hint s kind.Results h ps xs k = as_type_place h
hint s kind.NameList h ps xs k = declares
hint s kind.Parameters h ps xs k = parameter_told h ps k
hint s kind.Parameter h ps xs k = names_told h xs
hint s kind.Fields h ps xs k = names_told h xs
hint s n h ps xs k = value

-- the scope of an array's length: what types it names are needed in full
abbrev pub in_length : Scope → Parts → Scope
in_length s [] = record s { needed = in_full }
in_length s xs = s

abbrev pub part_scope : Scope → Kind → Parts → Scope
part_scope s kind.SequenceType xs = in_length s xs
part_scope s k xs = s

-- ---- how parts are laid out

abbrev pub is_held : Form → Bool
is_held (form.Held k) = true
is_held f = false

-- the parts of a holder, or the node itself
abbrev pub held : Option Part → Parts
held (Some x) = if is_held (form_of x) then list_of (parts_of x) else Some x ∷ []
held None = None ∷ []

abbrev pub all_held : Parts → Parts
all_held [] = []
all_held (x ∷ xs) = held x ++ all_held xs

-- what is inside a type are no nodes
abbrev pub leaf : Part → Part
leaf (typed f i j l ps) = typed form.Type i j l sort.none

abbrev pub is_type : Stands → Bool
is_type (sort.IsType t) = true
is_type s = false

abbrev pub cut : Option Part → Option Part
cut (Some x) = if is_type (sort_of x) then Some (leaf x) else Some x
cut None = None

abbrev pub first_cut : Parts → Parts
first_cut [] = []
first_cut (x ∷ xs) = cut x ∷ xs

abbrev pub is_make_call : Parts → Bool
is_make_call (Some f ∷ xs) = is_make (sort_of f)
is_make_call xs = false

-- a callee that is a type, and the type that `make` is given
abbrev pub call_parts : Parts → Parts
call_parts [] = []
call_parts (f ∷ xs) = if is_make_call (f ∷ xs) then f ∷ first_cut xs else cut f ∷ xs

abbrev pub has_no_low : Option Part → Bool
has_no_low (Some (typed (form.Held kind.Bounds) i j l ps)) = true
has_no_low x = false

-- the index, or both bounds, each of which may be left out
abbrev pub bounds_of : Option Part → Parts
bounds_of x = if has_no_low x then None ∷ held x else held x

abbrev pub bracketed_parts : Parts → Parts
bracketed_parts (x ∷ y ∷ ys) = x ∷ bounds_of y
bracketed_parts xs = xs

abbrev pub is_package : Stands → Bool
is_package sort.Package = true
is_package s = false

-- `fmt.Println` is one node
abbrev pub selector_parts : Parts → Parts
selector_parts (Some x ∷ []) = if is_package (sort_of x) then [] else Some x ∷ []
selector_parts xs = xs

abbrev pub behind_first : Parts → Parts
behind_first [] = []
behind_first (x ∷ xs) = xs

abbrev pub layout : Kind → Parts → Parts
layout kind.Selector xs = selector_parts xs
layout kind.Bracketed xs = bracketed_parts xs
layout kind.Call xs = call_parts xs
layout kind.Composite xs = first_cut xs
layout kind.LiteralValue xs = None ∷ xs
layout kind.Keyed xs = behind_first xs
layout kind.Fields xs = all_held xs
layout kind.StructType xs = all_held xs
layout k xs = xs

-- ---- parts by their places

abbrev pub present : Parts → List Part
present [] = []
present (Some x ∷ xs) = x ∷ present xs
present (None ∷ xs) = present xs

-- what f makes of the one part, of the two, or of the first and the others
abbrev pub on_one : {A : Type 0} → A → (Part → A) → Parts → A
on_one d f (Some x ∷ []) = f x
on_one d f xs = d

abbrev pub on_two : {A : Type 0} → A → (Part → Part → A) → Parts → A
on_two d f (Some x ∷ Some y ∷ []) = f x y
on_two d f xs = d

abbrev pub on_first : {A : Type 0} → A → (Part → List Part → A) → Parts → A
on_first d f (Some x ∷ xs) = f x (present xs)
on_first d f xs = d

-- an index expression has two parts, a slice expression three
abbrev pub on_bracketed : {A : Type 0} → A → (Part → Part → A) → (Part → Option Part → Option Part → A) → Parts → A
on_bracketed d f g (Some x ∷ Some y ∷ []) = f x y
on_bracketed d f g (Some x ∷ y ∷ z ∷ []) = g x y z
on_bracketed d f g xs = d

abbrev pub on_optional : {A : Type 0} → A → (Option Part → Option Part → A) → Parts → A
on_optional d f (x ∷ y ∷ []) = f x y
on_optional d f xs = d

-- ---- forms

abbrev pub callee_form : Stands → Form
callee_form (sort.IsType t) = form.Conversion
callee_form s = form.Call

-- the field's number; of a field that there isn't the number of fields
abbrev pub field_count : Option TypeTree → ℕ
field_count (Some (structure ns ts)) = row_length ts
field_count u = 0

abbrev pub key_in_struct : Option TypeTree → List ℕ → Form
key_in_struct u name = form.Keyed (unwrap_or (field_number u name) (field_count u))

abbrev pub key_form : Rights → Hint → List ℕ → Form
key_form rights (member t) name = key_in_struct (underlying_of rights t) name
key_form rights h name = form.Keyed 0

abbrev pub selector_form : Rights → List ℕ → Parts → Form
selector_form rights name [] = form.Object referent.Println
selector_form rights name xs = on_one (form.Object referent.Println) (λ x. form.Selector (unwrap_or (field_number (form_of_value rights (sort_of x)) name) 0)) xs

abbrev pub bracketed_form : Parts → Form
bracketed_form (x ∷ y ∷ []) = form.Index
bracketed_form xs = form.Slice

-- the token of a node's name, which is the first of a key and the last of a selector
abbrev pub form_by : Scope → Kind → Hint → ℕ → ℕ → Parts → Form
form_by s kind.Name h i j ys = name_form s h i
form_by s kind.Integer h i j ys = form.Literal
form_by s kind.Rune h i j ys = form.Literal
form_by s kind.Text h i j ys = form.Literal
form_by s kind.Parenthesized h i j ys = form.Parenthesized
form_by s (kind.Unary o) h i j ys = form.Unary o
form_by s (kind.Binary o) h i j ys = form.Binary o
form_by s kind.Selector h i j ys = selector_form s.rights (s.texts (j - 1)) ys
form_by s kind.Bracketed h i j ys = bracketed_form ys
form_by s kind.Call h i j ys = on_first form.Call (λ f xs. callee_form (sort_of f)) ys
form_by s kind.Composite h i j ys = form.Composite
form_by s kind.LiteralValue h i j ys = form.Composite
form_by s kind.Keyed h i j ys = key_form s.rights h (s.texts i)
form_by s kind.ParenthesizedType h i j ys = form.Type
form_by s kind.SequenceType h i j ys = form.Type
form_by s kind.FunctionType h i j ys = form.Type
form_by s kind.StructType h i j ys = form.Type
form_by s k h i j ys = form.Held k

-- ---- the rules that fail, by the parts as they are laid out

-- of a literal the type that is written, or else told
abbrev pub literal_type : Hint → Option Part → Option TypeTree
literal_type h (Some t) = named_type (sort_of t)
literal_type h None = told_type h

abbrev pub on_literal : {A : Type 0} → A → Hint → (Option TypeTree → List Part → A) → Parts → A
on_literal d h f (t ∷ xs) = f (literal_type h t) (present xs)
on_literal d h f [] = d

abbrev pub selector_rule : Rights → ℕ → ℕ → List ℕ → Parts → List TypeFault
selector_rule rights i j name ys = on_one [] (λ x. selector_failing rights i j name (sort_of x)) ys

abbrev pub failing : Scope → Kind → Hint → ℕ → ℕ → Parts → List TypeFault
failing s kind.Integer h i j ys = integer_failing i j (s.texts i)
failing s (kind.Unary o) h i j ys = on_one [] (λ x. unary_failing s.rights o i j (sort_of x)) ys
failing s (kind.Binary o) h i j ys = on_two [] (operation_failing s.rights o i j) ys
failing s kind.Selector h i j ys = selector_rule s.rights i j (s.texts (j - 1)) ys
failing s kind.Bracketed h i j ys = on_bracketed [] (λ x n. index_failing s.rights i j (sort_of x) n) (λ x low high. slice_failing s.rights i j (sort_of x) low high) ys
failing s kind.Call h i j ys = on_first [] (λ f xs. call_failing s.rights i j (sort_of f) xs) ys
failing s kind.Composite h i j ys = on_literal [] h (literal_failing s.rights i j) ys
failing s kind.LiteralValue h i j ys = on_literal [] h (literal_failing s.rights i j) ys
failing s kind.SequenceType h i j ys = on_optional [] (sequence_failing s.rights s.limits i j) ys
failing s k h i j ys = []

-- ---- what the node stands for, where no rule fails

abbrev pub sort_by : Scope → Kind → Hint → ℕ → ℕ → Parts → Stands
sort_by s kind.Name h i j ys = name_sort s h i
sort_by s kind.Integer h i j ys = sort.OpenConstant (integer_constant (s.texts i))
sort_by s kind.Rune h i j ys = sort.OpenConstant (rune_constant (s.characters i))
sort_by s kind.Text h i j ys = sort.OpenConstant (text_constant (s.characters i))
sort_by s kind.Parenthesized h i j ys = on_one sort.Unknown sort_of ys
sort_by s kind.ParenthesizedType h i j ys = on_one sort.Unknown sort_of ys
sort_by s (kind.Unary o) h i j ys = on_one sort.Unknown (λ x. unary_sort s.rights o (sort_of x)) ys
sort_by s (kind.Binary o) h i j ys = on_two sort.Unknown (λ x y. operation_sort s.rights o (sort_of x) (sort_of y)) ys
sort_by s kind.Selector h i j ys = on_one sort.Println (λ x. selector_sort s.rights (s.texts (j - 1)) (sort_of x)) ys
sort_by s kind.Bracketed h i j ys = on_bracketed sort.Unknown (λ x n. index_sort s.rights (sort_of x)) (λ x low high. slice_sort (sort_of x)) ys
sort_by s kind.Call h i j ys = on_first sort.Unknown (λ f xs. call_sort s.rights (sort_of f) xs) ys
sort_by s kind.Composite h i j ys = on_literal sort.Unknown h (λ t xs. literal_sort t) ys
sort_by s kind.LiteralValue h i j ys = on_literal sort.Unknown h (λ t xs. literal_sort t) ys
sort_by s kind.Keyed h i j ys = on_one sort.Unknown sort_of ys
sort_by s kind.SequenceType h i j ys = on_optional sort.Unknown (λ n e. type_sort (sequence_type n (part_type e))) ys
sort_by s kind.FunctionType h i j ys = on_one sort.Unknown sort_of ys
sort_by s kind.StructType h i j ys = sort.IsType (structure_of (fields_from s.texts [] ys))
sort_by s kind.Signature h i j ys = on_optional sort.Unknown (λ ps rs. type_sort (signature_type ps rs)) ys
sort_by s k h i j ys = sort.Nothing

-- ---- what the parts take

abbrev pub takes : Scope → Kind → Hint → Parts → List Take
takes s (kind.Unary o) h ys = on_one [] (λ x. unary_take (sort_of x) ∷ []) ys
takes s (kind.Binary o) h ys = on_two [] (λ x y. operation_takes s.rights o (sort_of x) (sort_of y)) ys
takes s kind.Bracketed h ys = default ∷ as_type int ∷ as_type int ∷ []
takes s kind.Call h ys = on_first [] (λ f xs. stay ∷ call_takes s.rights (sort_of f) xs) ys
takes s kind.Composite h ys = on_literal [] h (λ t xs. stay ∷ literal_takes s.rights t xs) ys
takes s kind.LiteralValue h ys = on_literal [] h (λ t xs. stay ∷ literal_takes s.rights t xs) ys
takes s k h ys = []

abbrev pub take_optional : Take → Option Part → Option Part
take_optional k (Some x) = Some (given k x)
take_optional k None = None

-- a part for which nothing is said takes nothing
abbrev pub all_given : List Take → Parts → Parts
all_given (k ∷ ks) (y ∷ ys) = take_optional k y ∷ all_given ks ys
all_given _ ys = ys

-- ---- labels

abbrev pub is_variable_name : Form → Stands → Bool
is_variable_name (form.Local n) (sort.Value t) = true
is_variable_name (form.Object (referent.Variable n)) s = true
is_variable_name f s = false

abbrev pub is_call : Form → Bool
is_call form.Call = true
is_call f = false

abbrev pub varies_in : Option Part → Bool
varies_in (Some x) = (label_of x).varies
varies_in None = false

abbrev pub calls_in : Option Part → Bool
calls_in (Some x) = (label_of x).calls
calls_in None = false

-- whether a variable is named in it, and whether it has a call that isn't constant
abbrev pub label : Form → Stands → Parts → Label TypeTree
label f s ys = record { sort = s; varies = is_variable_name f s || list_any varies_in ys; calls = (is_call f && not (is_constant s)) || list_any calls_in ys }

-- ---- a node

abbrev pub is_lost : Option Part → Bool
is_lost (Some x) = is_unknown (sort_of x)
is_lost None = false

-- a node is judged where its parts are free of faults
abbrev pub is_judged : Parts → Bool
is_judged ys = not (list_any is_lost ys)

-- expressions and types, which have a place; other nodes only hold parts
abbrev pub is_placed : Kind → Bool
is_placed kind.Name = true
is_placed kind.Integer = true
is_placed kind.Rune = true
is_placed kind.Text = true
is_placed kind.Parenthesized = true
is_placed (kind.Unary o) = true
is_placed (kind.Binary o) = true
is_placed kind.Selector = true
is_placed kind.Bracketed = true
is_placed kind.Call = true
is_placed kind.Composite = true
is_placed kind.LiteralValue = true
is_placed kind.SequenceType = true
is_placed kind.FunctionType = true
is_placed kind.StructType = true
is_placed kind.ParenthesizedType = true
is_placed k = false

abbrev pub placing : Scope → Kind → Hint → ℕ → ℕ → Stands → List TypeFault
placing s k h i j x = if is_placed k then place_failing s.rights h i j x else []

-- the rules that fail at a node with these parts, laid out
abbrev pub own_faults : Scope → Kind → Hint → ℕ → ℕ → Parts → List TypeFault
own_faults s k h i j ys = if is_judged ys then or_else (failing s k h i j ys) (placing s k h i j (sort_by s k h i j ys)) else []

abbrev pub no_faults : List TypeFault → Bool
no_faults [] = true
no_faults (f ∷ fs) = false

-- whether it stands for something: it holds parts alone, or it was judged and no rule fails
abbrev pub is_sound : Kind → Parts → List TypeFault → Bool
is_sound k ys fs = not (is_placed k) || (is_judged ys && no_faults fs)

abbrev pub made : Form → ℕ → ℕ → Stands → Parts → Parts → Part
made f i j x ys zs = typed f i j (label f x ys) (row zs)

abbrev pub built_by : Scope → Kind → Hint → ℕ → ℕ → Parts → Bool → Part
built_by s k h i j ys true = made (form_by s k h i j ys) i j (sort_by s k h i j ys) ys (all_given (takes s k h ys) ys)
built_by s k h i j ys false = made (form_by s k h i j ys) i j sort.Unknown ys ys

-- the typed node over parts that are laid out
abbrev pub built_on : Scope → Kind → Hint → ℕ → ℕ → Parts → Part
built_on s k h i j ys = built_by s k h i j ys (is_sound k ys (own_faults s k h i j ys))

abbrev pub built : Scope → Kind → Hint → ℕ → ℕ → Parts → Part
built s k h i j xs = built_on s k h i j (layout k xs)

abbrev pub found : Scope → Kind → Hint → ℕ → ℕ → Parts → List TypeFault
found s k h i j xs = own_faults s k h i j (layout k xs)
