-- How parts of statements are laid out, where no constant is called in them.
use Rattle.std.proofs.Common.{◌≡◌, ℕ, Bool, true, false, if◌then◌else◌, List, [], ◌∷◌, ◌++◌, length, map, take, Option, Some, None, refl}
use Rattle.go_grammar.specs.declared.kind.Kind.{Kind}
use Rattle.go_grammar.specs.declared.kind.Kind.TheVariants as kind
use Rattle.go_grammar.specs.declared.kind.Sort.TheVariants as declaring
use Rattle.go_types.specs.Trees.{TypeTree}
use Rattle.go_typed.specs.declared.form.Form.{Form}
use Rattle.go_typed.specs.declared.form.Form.TheVariants as form
use Rattle.go_typed.specs.Trees.{typed, Typeds, list_of, form_of, parts_of}
use Rattle.go_exprs_rules.specs.Settling.{Part}
use Rattle.go_exprs_rules.specs.Tables.{Parts, held, all_held, first_cut, behind_first}
use Rattle.go_stmts_defs.specs.Assigning.{Taking, takes, stands}
use Rattle.go_stmts_defs.specs.Frames.{Frame, Locals, declared_type}
use Rattle.go_stmts_defs.specs.Laying.{layout, new_or_known, new_form, with_form, new_name, is_values, typed_or_not, specification_parts, names_count, all_names, is_group, specifications}
use Rattle.go_stmts_defs.specs.Laying.{header_parts, if_parts, switch_parts, loop_header, for_parts, without_absent, loop_form, first_loop_form, form_by}
use Rattle.go_stmts_defs.specs.Rules.{given_part, all_given}
use Rattle.go_function_holes.specs.Holes.{applies, none_called}
use Rattle.go_stmts_callees.proofs.Uncalled.{differ, both_true}
use Rattle.go_stmts_callees.proofs.Uncalled.{truly, whichever, Free, EachFree, inner_free, append_free, take_free, held_free, option_free, all_held_free, behind_free, first_cut_free, given_free}
use Rattle.go_stmts_callees.proofs.Expressions.{is_applied, unapplied}

-- ---- what parts take

part_free : (k : Taking) (x : Part) → Free x → Free (given_part k x)
part_free (takes k) x h = given_free k x h
part_free (stands y) (typed f i j l ps) h = h

pub all_given_free : (ks : List Taking) (ys : Parts) → EachFree ys → EachFree (all_given ks ys)
all_given_free [] ys h = h
all_given_free (k ∷ ks) [] h = tt
all_given_free (k ∷ ks) (None ∷ ys) h = all_given_free ks ys h
all_given_free (k ∷ ks) (Some y ∷ ys) h = (part_free k y h.0, all_given_free ks ys h.1)

-- the first ones of those that take something
pub front_given_free : (ks : List Taking) (xs ys : Parts) → EachFree xs → EachFree (take (length xs) (all_given ks (xs ++ ys)))
front_given_free ks [] ys h = tt
front_given_free [] (None ∷ xs) ys h = front_given_free [] xs ys h
front_given_free [] (Some x ∷ xs) ys h = (h.0, front_given_free [] xs ys h.1)
front_given_free (k ∷ ks) (None ∷ xs) ys h = front_given_free ks xs ys h
front_given_free (k ∷ ks) (Some x ∷ xs) ys h = (part_free k x h.0, front_given_free ks xs ys h.1)

-- ---- names that are declared

known_plain : (n : ℕ) (t : Option TypeTree) → is_applied (new_or_known n t) ≡ false
known_plain n None = refl
known_plain n (Some t) = refl

new_applies : (ls : Locals) (f : Form) (ps : Typeds TypeTree) → applies f ps ≡ true → applies (new_form ls f) ps ≡ true
new_applies ls (form.Declared n) ps h = unapplied (new_or_known n (declared_type ls n)) ps (known_plain n (declared_type ls n))
new_applies ls f ps h = h

new_free : (ls : Locals) (x : Part) → Free x → Free (with_form (new_form ls) x)
new_free ls (typed f i j l ps) h = let s = both_true (applies f ps) (none_called ps) h in truly (applies (new_form ls f) ps) (none_called ps) (new_applies ls f ps s.0) s.1

all_new_free : (ls : Locals) (xs : Parts) → EachFree xs → EachFree (map (new_name ls) xs)
all_new_free ls [] h = tt
all_new_free ls (None ∷ xs) h = all_new_free ls xs h
all_new_free ls (Some x ∷ xs) h = (new_free ls x h.0, all_new_free ls xs h.1)

-- ---- layouts

absent_free : (xs : Parts) → EachFree xs → EachFree (without_absent xs)
absent_free [] h = tt
absent_free (None ∷ xs) h = absent_free xs h
absent_free (Some x ∷ xs) h = (h.0, absent_free xs h.1)

optional_free : (x : Option Part) → EachFree (x ∷ []) → EachFree (typed_or_not x)
optional_free None h = tt
optional_free (Some x) h = whichever EachFree (is_values (Some x)) (None ∷ held (Some x)) (held (Some x)) (held_free x h.0) (held_free x h.0)

first_free : (x : Option Part) (xs : Parts) → EachFree (x ∷ xs) → EachFree (x ∷ [])
first_free None xs h = tt
first_free (Some x) xs h = (h.0, tt)

others_free : (x : Option Part) (xs : Parts) → EachFree (x ∷ xs) → EachFree xs
others_free None xs h = h
others_free (Some x) xs h = h.1

specification_free : (xs : Parts) → EachFree xs → EachFree (specification_parts xs)
specification_free [] h = tt
specification_free (x ∷ []) h = h
specification_free (ns ∷ x ∷ []) h = append_free (held ns) (first_cut (typed_or_not x)) (option_free ns (first_free ns (x ∷ []) h)) (first_cut_free (typed_or_not x) (optional_free x (others_free ns (x ∷ []) h)))
specification_free (x ∷ y ∷ z ∷ xs) h = h

group_free : (xs : Parts) → EachFree xs → EachFree (specifications xs)
group_free [] h = tt
group_free (None ∷ xs) h = h
group_free (Some x ∷ []) h = whichever EachFree (is_group (form_of x)) (list_of (parts_of x)) (Some x ∷ []) (inner_free x h.0) h
group_free (Some x ∷ y ∷ xs) h = h

header_free : (x : Option Part) → EachFree (x ∷ []) → EachFree (header_parts x)
header_free (Some (typed (form.Held kind.LateCondition) i j l ps)) h = inner_free (typed (form.Held kind.LateCondition) i j l ps) h.0
header_free (Some (typed (form.Held kind.LateTag) i j l ps)) h = inner_free (typed (form.Held kind.LateTag) i j l ps) h.0
header_free (Some (typed (form.Held kind.InitializedCondition) i j l ps)) h = inner_free (typed (form.Held kind.InitializedCondition) i j l ps) h.0
header_free (Some (typed (form.Held kind.InitializedTag) i j l ps)) h = inner_free (typed (form.Held kind.InitializedTag) i j l ps) h.0
header_free x h = h

loop_header_free : (x : Option Part) → EachFree (x ∷ []) → EachFree (loop_header x)
loop_header_free None h = tt
loop_header_free (Some (typed (form.Held kind.ForClause) i j l ps)) h = inner_free (typed (form.Held kind.ForClause) i j l ps) h.0
loop_header_free (Some (typed (form.Held k) i j l ps)) h = inner_free (typed (form.Held k) i j l ps) h.0
loop_header_free (Some x) h = h

if_free : (xs : Parts) → EachFree xs → EachFree (if_parts xs)
if_free [] h = tt
if_free (x ∷ []) h = h
if_free (x ∷ y ∷ []) h = h
if_free (c ∷ t ∷ e ∷ []) h =
    let u = others_free c (t ∷ e ∷ []) h in
    append_free (header_parts c) (t ∷ held e) (header_free c (first_free c (t ∷ e ∷ []) h)) (append_free (t ∷ []) (held e) (first_free t (e ∷ []) u) (option_free e (others_free t (e ∷ []) u)))
if_free (c ∷ t ∷ e ∷ z ∷ zs) h = h

switch_free : (xs : Parts) → EachFree xs → EachFree (switch_parts xs)
switch_free [] h = tt
switch_free (x ∷ xs) h = append_free (header_parts x) xs (header_free x (first_free x xs h)) (others_free x xs h)

for_free : (xs : Parts) → EachFree xs → EachFree (for_parts xs)
for_free [] h = tt
for_free (x ∷ xs) h = append_free (loop_header x) xs (loop_header_free x (first_free x xs h)) (others_free x xs h)

-- all but what declares constants or types
abbrev pub is_told : Kind → Bool
is_told (kind.Specification declaring.Constant) = false
is_told (kind.Specification declaring.Type) = false
is_told (kind.Declaration declaring.Constant) = false
is_told (kind.Declaration declaring.Type) = false
is_told k = true

pub layout_free : (s : Frame) (k : Kind) (i : ℕ) (xs : Parts) → is_told k ≡ true → EachFree xs → EachFree (layout s k i xs)
layout_free s kind.Targets i xs e h = all_held_free xs h
layout_free s kind.NewNames i xs e h = all_new_free s.locals (all_held xs) (all_held_free xs h)
layout_free s kind.Values i xs e h = all_held_free xs h
layout_free s kind.TypedValues i xs e h = all_held_free xs h
layout_free s (kind.Specification declaring.Type) i xs e h = differ e
layout_free s (kind.Specification declaring.Constant) i xs e h = differ e
layout_free s (kind.Specification declaring.Variable) i xs e h = specification_free xs h
layout_free s (kind.Declaration declaring.Variable) i xs e h = group_free xs h
layout_free s (kind.Declaration declaring.Constant) i xs e h = differ e
layout_free s (kind.Declaration declaring.Type) i xs e h = differ e
layout_free s kind.Assignment i xs e h = all_held_free xs h
layout_free s kind.Define i xs e h = all_held_free xs h
layout_free s kind.Case i xs e h = all_held_free xs h
layout_free s kind.Return i xs e h = absent_free (all_held xs) (all_held_free xs h)
layout_free s kind.If i xs e h = if_free xs h
layout_free s kind.Switch i xs e h = switch_free xs h
layout_free s kind.For i xs e h = for_free xs h
layout_free s kind.AssigningRange i xs e h = all_held_free xs h
layout_free s kind.DefiningRange i xs e h = all_held_free xs h
layout_free s kind.FunctionDeclaration i xs e h = absent_free (behind_first xs) (behind_free xs h)
layout_free s k i xs e h = h

-- ---- names that a declaration of constants or types keeps

abbrev pub NamesFree : Part → Type 0
NamesFree x = EachFree (take (names_count (form_of x)) (list_of (parts_of x)))

abbrev pub EachNamesFree : Parts → Type 0
EachNamesFree [] = Unit {0}
EachNamesFree (None ∷ xs) = EachNamesFree xs
EachNamesFree (Some x ∷ xs) = NamesFree x × EachNamesFree xs

-- so it is with those of a specification, or of all in a group
abbrev pub InnerFree : Part → Type 0
InnerFree x = NamesFree x × (is_group (form_of x) ≡ true → EachNamesFree (list_of (parts_of x)))

names_of : (x : Part) → Free x → NamesFree x
names_of x h = take_free (names_count (form_of x)) (list_of (parts_of x)) (inner_free x h)

each_names_of : (xs : Parts) → EachFree xs → EachNamesFree xs
each_names_of [] h = tt
each_names_of (None ∷ xs) h = each_names_of xs h
each_names_of (Some x ∷ xs) h = (names_of x h.0, each_names_of xs h.1)

inner_of : (x : Part) → Free x → InnerFree x
inner_of x h = (names_of x h, λ e. each_names_of (list_of (parts_of x)) (inner_free x h))

abbrev pub Of : Bool → Part → Type 0
Of true x = InnerFree x
Of false x = Free x

abbrev pub EachOf : Bool → Parts → Type 0
EachOf w [] = Unit {0}
EachOf w (None ∷ xs) = EachOf w xs
EachOf w (Some x ∷ xs) = Of w x × EachOf w xs

pub fitting : (w o : Bool) (x : Part) → (w ≡ true → o ≡ true) → Of w x → Of o x
fitting true true x e h = h
fitting true false x e h = differ (e refl)
fitting false true x e h = inner_of x h
fitting false false x e h = h

pub append_of : (w : Bool) (xs ys : Parts) → EachOf w xs → EachOf w ys → EachOf w (xs ++ ys)
append_of w [] ys h g = g
append_of w (None ∷ xs) ys h g = append_of w xs ys h g
append_of w (Some x ∷ xs) ys h g = (h.0, append_of w xs ys h.1 g)

pub strict : (xs : Parts) → EachOf false xs → EachFree xs
strict [] h = tt
strict (None ∷ xs) h = strict xs h
strict (Some x ∷ xs) h = (h.0, strict xs h.1)

pub inner_row : (xs : Parts) → EachOf true xs → EachNamesFree xs
inner_row [] h = tt
inner_row (None ∷ xs) h = inner_row xs h
inner_row (Some x ∷ xs) h = (h.0.0, inner_row xs h.1)

chosen : (P : Parts → Type 0) (b : Bool) (xs ys : Parts) → (b ≡ true → P xs) → P ys → P (if b then xs else ys)
chosen P true xs ys f h = f refl
chosen P false xs ys f h = h

specifications_free : (xs : Parts) → EachOf true xs → EachNamesFree (specifications xs)
specifications_free [] h = tt
specifications_free (None ∷ xs) h = inner_row xs h
specifications_free (Some x ∷ []) h = chosen EachNamesFree (is_group (form_of x)) (list_of (parts_of x)) (Some x ∷ []) h.0.1 (h.0.0, tt)
specifications_free (Some x ∷ y ∷ xs) h = inner_row (Some x ∷ y ∷ xs) h

all_names_free : (xs : Parts) → EachNamesFree xs → EachFree (all_names xs)
all_names_free [] h = tt
all_names_free (None ∷ xs) h = all_names_free xs h
all_names_free (Some x ∷ xs) h = append_free (take (names_count (form_of x)) (list_of (parts_of x))) (all_names xs) h.0 (all_names_free xs h.1)

pub declared_free : (xs : Parts) → EachOf true xs → EachFree (all_names (specifications xs))
declared_free xs h = all_names_free (specifications xs) (specifications_free xs h)

-- ---- forms of statements

loop_plain : (x : Option Part) → is_applied (loop_form x) ≡ false
loop_plain (Some (typed (form.Held kind.Range) i j l ps)) = refl
loop_plain (Some (typed (form.Held kind.AssigningRange) i j l ps)) = refl
loop_plain (Some (typed (form.Held kind.DefiningRange) i j l ps)) = refl
loop_plain x = refl

first_loop_plain : (xs : Parts) → is_applied (first_loop_form xs) ≡ false
first_loop_plain [] = refl
first_loop_plain (x ∷ xs) = loop_plain x

pub form_plain : (k : Kind) (xs : Parts) → is_applied (form_by k xs) ≡ false
form_plain kind.For xs = first_loop_plain xs
form_plain (kind.Declaration declaring.Variable) xs = refl
form_plain (kind.Declaration declaring.Constant) xs = refl
form_plain (kind.Declaration declaring.Type) xs = refl
form_plain (kind.Specification declaring.Variable) xs = refl
form_plain (kind.Specification declaring.Constant) xs = refl
form_plain (kind.Specification declaring.Type) xs = refl
form_plain k xs = refl
