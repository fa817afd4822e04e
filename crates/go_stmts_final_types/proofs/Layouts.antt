-- The parts of statements are known where they are laid out.
use Rattle.std.proofs.Common.{◌≡◌, ℕ, suc, Bool, true, false, cond, [], ◌∷◌, Option, Some, None, refl}
use Rattle.go_grammar.specs.declared.kind.Kind.{Kind}
use Rattle.go_grammar.specs.declared.kind.Kind.TheVariants as kind
use Rattle.go_grammar.specs.declared.kind.Sort.TheVariants as declaring
use Rattle.go_types.specs.Trees.{TypeTree, declared}
use Rattle.go_typed.specs.declared.form.Form.{Form}
use Rattle.go_typed.specs.declared.form.Form.TheVariants as form
use Rattle.go_typed.specs.Trees.{typed, form_of, parts_of, list_of}
use Rattle.go_typed.specs.Trees as sort
use Rattle.go_exprs_rules.specs.Names.{declared_form}
use Rattle.go_exprs_rules.specs.Settling.{Part}
use Rattle.go_exprs_rules.specs.Tables.{Parts, held, all_held, first_cut, made, behind_first}
use Rattle.go_stmts_defs.specs.Frames.{Frame}
use Rattle.go_stmts_defs.specs.Laying.{layout, type_name, type_number, type_sort, is_values, typed_or_not, specification_parts, specifications, names_count, specified_names, all_names, is_group, header_parts, if_parts, switch_parts, loop_header, for_parts, without_absent}
use Rattle.go_stmts_final_types.specs.Known.{VariableIsTyped, is_package_variable, IsKnown}
use Rattle.go_stmts_final_types.proofs.Expressions.{is_constants, no_constants, nothing_typed}
use Rattle.go_stmts_final_types.proofs.Known.{AllKnown, known_list, known_parts, known_both, known_front, first_cut_known, held_known, optional_known, all_held_known, new_names_known}
use Rattle.go_stmts_final_types.proofs.Operands.{declared_fails}

first_of : (x : Option Part) (xs : Parts) → AllKnown (x ∷ xs) → AllKnown (x ∷ [])
first_of None xs h = tt
first_of (Some x) xs h = (h.0, tt)

others : (x : Option Part) (xs : Parts) → AllKnown (x ∷ xs) → AllKnown xs
others None xs h = h
others (Some x) xs h = h.1

pub in_front : (x : Option Part) (xs : Parts) → AllKnown (x ∷ []) → AllKnown xs → AllKnown (x ∷ xs)
in_front None xs h g = g
in_front (Some x) xs h g = (h.0, g)

-- ---- names of types

type_typed : (b : Bool) (t : TypeTree) → VariableIsTyped b (sort.IsType t)
type_typed true t = refl
type_typed false t = tt

type_name_known : (s : Frame) (i : ℕ) → IsKnown (type_name s i)
type_name_known s i = by (type_number s i)
  where
    f : Form
    f = declared_form s.around (s.around.objects i)

    e : is_constants f ≡ false
    e = declared_fails is_constants refl (λ r. refl) (λ n. refl) (λ n. refl) refl s.around (s.around.objects i)

    by : (o : Option ℕ) → IsKnown (made f i (suc i) (type_sort o) [] [])
    by (Some m) = (refl, type_typed (is_package_variable f) (declared m), no_constants f e sort.none, tt)
    by None = (refl, nothing_typed (is_package_variable f), no_constants f e sort.none, tt)

-- ---- specifications

rest_by : (b : Bool) (x : Part) → IsKnown x → AllKnown (cond b (None ∷ held (Some x)) (held (Some x)))
rest_by true x h = held_known x h
rest_by false x h = held_known x h

rest_known : (o : Option Part) → AllKnown (o ∷ []) → AllKnown (typed_or_not o)
rest_known None h = tt
rest_known (Some x) h = rest_by (is_values (Some x)) x h.0

specification_known : (xs : Parts) → AllKnown xs → AllKnown (specification_parts xs)
specification_known [] h = h
specification_known (n ∷ []) h = h
specification_known (n ∷ x ∷ []) h = known_both (held n) (first_cut (typed_or_not x)) (optional_known n (first_of n (x ∷ []) h)) (first_cut_known (typed_or_not x) (rest_known x (others n (x ∷ []) h)))
specification_known (n ∷ x ∷ y ∷ ys) h = h

group_by : (b : Bool) (x : Part) → IsKnown x → AllKnown (cond b (list_of (parts_of x)) (Some x ∷ []))
group_by true x h = known_parts x h
group_by false x h = (h, tt)

specifications_known : (xs : Parts) → AllKnown xs → AllKnown (specifications xs)
specifications_known [] h = h
specifications_known (None ∷ xs) h = h
specifications_known (Some x ∷ []) h = group_by (is_group (form_of x)) x h.0
specifications_known (Some x ∷ y ∷ ys) h = h

names_known : (xs : Parts) → AllKnown xs → AllKnown (all_names xs)
names_known [] h = tt
names_known (None ∷ xs) h = names_known xs h
names_known (Some x ∷ xs) h = known_both (specified_names (Some x)) (all_names xs) (known_front (names_count (form_of x)) (list_of (parts_of x)) (known_parts x h.0)) (names_known xs h.1)

present_known : (xs : Parts) → AllKnown xs → AllKnown (without_absent xs)
present_known [] h = tt
present_known (None ∷ xs) h = present_known xs h
present_known (Some x ∷ xs) h = (h.0, present_known xs h.1)

-- ---- headers

header_known : (o : Option Part) → AllKnown (o ∷ []) → AllKnown (header_parts o)
header_known (Some (typed (form.Held kind.LateCondition) i j l ps)) h = known_list ps h.0.3
header_known (Some (typed (form.Held kind.LateTag) i j l ps)) h = known_list ps h.0.3
header_known (Some (typed (form.Held kind.InitializedCondition) i j l ps)) h = known_list ps h.0.3
header_known (Some (typed (form.Held kind.InitializedTag) i j l ps)) h = known_list ps h.0.3
header_known (Some (typed (form.Held k) i j l ps)) h = h
header_known (Some (typed f i j l ps)) h = h
header_known None h = h

loop_known : (o : Option Part) → AllKnown (o ∷ []) → AllKnown (loop_header o)
loop_known (Some (typed (form.Held kind.ForClause) i j l ps)) h = known_list ps h.0.3
loop_known (Some (typed (form.Held k) i j l ps)) h = known_list ps h.0.3
loop_known (Some (typed f i j l ps)) h = h
loop_known None h = h

if_known : (xs : Parts) → AllKnown xs → AllKnown (if_parts xs)
if_known [] h = h
if_known (o ∷ []) h = h
if_known (o ∷ b ∷ []) h = h
if_known (o ∷ b ∷ e ∷ []) h =
    let rest = others o (b ∷ e ∷ []) h in
    known_both (header_parts o) (b ∷ held e) (header_known o (first_of o (b ∷ e ∷ []) h)) (in_front b (held e) (first_of b (e ∷ []) rest) (optional_known e (others b (e ∷ []) rest)))
if_known (o ∷ b ∷ e ∷ x ∷ xs) h = h

switch_known : (xs : Parts) → AllKnown xs → AllKnown (switch_parts xs)
switch_known [] h = h
switch_known (o ∷ xs) h = known_both (header_parts o) xs (header_known o (first_of o xs h)) (others o xs h)

for_known : (xs : Parts) → AllKnown xs → AllKnown (for_parts xs)
for_known [] h = h
for_known (o ∷ xs) h = known_both (loop_header o) xs (loop_known o (first_of o xs h)) (others o xs h)

function_known : (xs : Parts) → AllKnown xs → AllKnown (without_absent (behind_first xs))
function_known [] h = tt
function_known (o ∷ xs) h = present_known xs (others o xs h)

-- ---- all kinds

pub statement_layout : (s : Frame) (k : Kind) (i : ℕ) (xs : Parts) → AllKnown xs → AllKnown (layout s k i xs)
statement_layout s kind.Targets i xs h = all_held_known xs h
statement_layout s kind.NewNames i xs h = new_names_known s.locals (all_held xs) (all_held_known xs h)
statement_layout s kind.Values i xs h = all_held_known xs h
statement_layout s kind.TypedValues i xs h = all_held_known xs h
statement_layout s (kind.Specification declaring.Type) i xs h = (type_name_known s i, h)
statement_layout s (kind.Specification declaring.Variable) i xs h = specification_known xs h
statement_layout s (kind.Specification declaring.Constant) i xs h = specification_known xs h
statement_layout s (kind.Declaration declaring.Variable) i xs h = specifications_known xs h
statement_layout s (kind.Declaration declaring.Constant) i xs h = names_known (specifications xs) (specifications_known xs h)
statement_layout s (kind.Declaration declaring.Type) i xs h = names_known (specifications xs) (specifications_known xs h)
statement_layout s kind.Assignment i xs h = all_held_known xs h
statement_layout s kind.Define i xs h = all_held_known xs h
statement_layout s kind.Case i xs h = all_held_known xs h
statement_layout s kind.Return i xs h = present_known (all_held xs) (all_held_known xs h)
statement_layout s kind.If i xs h = if_known xs h
statement_layout s kind.Switch i xs h = switch_known xs h
statement_layout s kind.For i xs h = for_known xs h
statement_layout s kind.AssigningRange i xs h = all_held_known xs h
statement_layout s kind.DefiningRange i xs h = all_held_known xs h
statement_layout s kind.FunctionDeclaration i xs h = function_known xs h
statement_layout s k i xs h = h
