-- What is read of a statement without a switch has none, and so no tags without types.
use Rattle.std.proofs.Common.{◌≡◌, ℕ, zero, suc, Bool, true, false, List, [], ◌∷◌, ◌++◌, take, map, Option, Some, None, refl, sym, subst}
use Rattle.std.specs.Prelude.{◌-◌, ◌&&◌, not, if◌then◌else◌}
use Rattle.go_grammar.specs.declared.kind.Kind.{Kind}
use Rattle.go_grammar.specs.declared.kind.Kind.TheVariants as kind
use Rattle.go_grammar.specs.declared.kind.Sort.TheVariants as declaring
use Rattle.go_grammar.specs.Trees.{Tree, node, Trees, none, more, skip, kind_of}
use Rattle.go_tree.specs.declared.object.Object.{Object}
use Rattle.go_tree.specs.declared.object.Object.TheVariants as object
use Rattle.go_types.specs.Trees.{TypeTree}
use Rattle.go_typed.specs.declared.form.Form.{Form}
use Rattle.go_typed.specs.declared.form.Form.TheVariants as form
use Rattle.go_typed.specs.Trees.{Label, typed, Typeds, sort_of, form_of, parts_of, list_of, row}
use Rattle.go_typed.specs.Trees as sort
use Rattle.go_exprs_rules.specs.declared.family.OpenKind.{OpenKind}
use Rattle.go_exprs_rules.specs.declared.fault.TypeFault.{TypeFault}
use Rattle.go_exprs_rules.specs.Names.{name_form, name_sort, object_form, declared_form, form_or_type}
use Rattle.go_exprs_rules.specs.Scopes.{Scope, Hint, value, member, declares, free}
use Rattle.go_exprs_rules.specs.Settling.{Part, settled, all_settled, Take, stay, default, as_type, given, defaulted}
use Rattle.go_exprs_rules.specs.Sorts.{Stands, takes_type, retyped, open_kind, default_type}
use Rattle.go_exprs_rules.specs.Tables.{Parts, hint, part_scope, is_held, held, all_held, leaf, is_type, cut, first_cut, is_make_call, call_parts, has_no_low, bounds_of, bracketed_parts, is_package, selector_parts, behind_first, callee_form, selector_form, key_form, bracketed_form, form_by}
use Rattle.go_exprs_rules.specs.Tables as tables
use Rattle.go_exprs_rules.specs.Typing.{typing, typings}
use Rattle.go_stmts_defs.specs.Assigning.{Taking, takes, stands}
use Rattle.go_stmts_defs.specs.Frames.{Frame, Locals, declared_type, scope_of}
use Rattle.go_stmts_defs.specs.Laying.{told, new_or_known, new_form, new_name, is_values, typed_or_not, specification_parts, names_count, specified_names, all_names, is_group, specifications, header_parts, if_parts, loop_header, for_parts, without_absent, layout, loop_form, first_loop_form}
use Rattle.go_stmts_defs.specs.Laying as laying
use Rattle.go_stmts_defs.specs.Reading.{Found, Readings, read, all_read, reading, readings, beginning, entering, is_statement, is_list, is_declared_name, list_node, name_node, holding, holdings, held_faults, repeated, left_out, left_out_faults, closed}
use Rattle.go_stmts_defs.specs.Rules.{own_faults, taking, given_part, all_given, built_by}
use Rattle.go_stmts_variables.specs.Statements.{tree_in, found_in, frame_in, TagAt, Tagged, AllTagged}
use Rattle.go_stmts_variables.specs.Switchless.{is_switch, is_switchless, are_switchless, SwitchlessAreTagged}
use Rattle.go_stmts_variables.proofs.Rows.{after_is}

-- ---- typed trees without switches

abbrev is_switching : Form → Bool
is_switching form.Switch = true
is_switching f = false

abbrev mutual
  NoSwitch : Part → Type 0
  NoSwitch (typed f i j l ps) = (is_switching f ≡ false) × NoSwitches ps

  NoSwitches : Typeds TypeTree → Type 0
  NoSwitches sort.none = Unit {0}
  NoSwitches (sort.more p ps) = NoSwitch p × NoSwitches ps
  NoSwitches (sort.skip ps) = NoSwitches ps

abbrev Each : Parts → Type 0
Each [] = Unit {0}
Each (None ∷ xs) = Each xs
Each (Some x ∷ xs) = NoSwitch x × Each xs

no_tag : (f : Form) (ps : Typeds TypeTree) → is_switching f ≡ false → TagAt f ps
no_tag form.Switch ps e = cc
no_tag f ps e = tt

mutual
  none_tagged : (x : Part) → NoSwitch x → Tagged x
  none_tagged (typed f i j l ps) e = (no_tag f ps e.0, all_none_tagged ps e.1)

  all_none_tagged : (ps : Typeds TypeTree) → NoSwitches ps → AllTagged ps
  all_none_tagged sort.none e = tt
  all_none_tagged (sort.more p ps) e = (none_tagged p e.0, all_none_tagged ps e.1)
  all_none_tagged (sort.skip ps) e = all_none_tagged ps e

-- ---- rows

row_of : (xs : Parts) → Each xs → NoSwitches (row xs)
row_of [] e = tt
row_of (None ∷ xs) e = row_of xs e
row_of (Some x ∷ xs) e = (e.0, row_of xs e.1)

each_of : (ps : Typeds TypeTree) → NoSwitches ps → Each (list_of ps)
each_of sort.none e = tt
each_of (sort.more p ps) e = (e.0, each_of ps e.1)
each_of (sort.skip ps) e = each_of ps e

each_in : (x : Part) → NoSwitch x → Each (list_of (parts_of x))
each_in (typed f i j l ps) e = each_of ps e.1

both : (xs ys : Parts) → Each xs → Each ys → Each (xs ++ ys)
both [] ys e d = d
both (None ∷ xs) ys e d = both xs ys e d
both (Some x ∷ xs) ys e d = (e.0, both xs ys e.1 d)

first : (x : Option Part) (xs : Parts) → Each (x ∷ xs) → Each (x ∷ []) × Each xs
first None xs e = (tt, e)
first (Some x) xs e = ((e.0, tt), e.1)

join : (x : Option Part) (xs : Parts) → Each (x ∷ []) → Each xs → Each (x ∷ xs)
join None xs e d = d
join (Some x) xs e d = (e.0, d)

-- ---- what parts are given

settled_by : (b : Bool) (f : Form) (i j : ℕ) (l k : Label TypeTree) (ps qs : Typeds TypeTree) → NoSwitch (typed f i j l ps) → NoSwitches qs → NoSwitch (if b then typed f i j k qs else typed f i j l ps)
settled_by true f i j l k ps qs e d = (e.0, d)
settled_by false f i j l k ps qs e d = e

mutual
  settled_none : (t : TypeTree) (x : Part) → NoSwitch x → NoSwitch (settled t x)
  settled_none t (typed f i j l ps) e = settled_by (takes_type l.sort) f i j l (record l { sort = retyped t l.sort }) ps (all_settled t ps) e (all_settled_none t ps e.1)

  all_settled_none : (t : TypeTree) (ps : Typeds TypeTree) → NoSwitches ps → NoSwitches (all_settled t ps)
  all_settled_none t sort.none e = tt
  all_settled_none t (sort.more p ps) e = (settled_none t p e.0, all_settled_none t ps e.1)
  all_settled_none t (sort.skip ps) e = all_settled_none t ps e

default_none : (o : Option OpenKind) (x : Part) → NoSwitch x → NoSwitch (defaulted o x)
default_none None x e = e
default_none (Some k) x e = settled_none (default_type k) x e

given_none : (k : Take) (x : Part) → NoSwitch x → NoSwitch (given k x)
given_none stay x e = e
given_none default x e = default_none (open_kind (sort_of x)) x e
given_none (as_type t) x e = settled_none t x e

all_given_none : (ks : List Take) (ys : Parts) → Each ys → Each (tables.all_given ks ys)
all_given_none [] ys e = e
all_given_none (k ∷ ks) [] e = tt
all_given_none (k ∷ ks) (None ∷ ys) e = all_given_none ks ys e
all_given_none (k ∷ ks) (Some y ∷ ys) e = (given_none k y e.0, all_given_none ks ys e.1)

taking_none : (k : Taking) (x : Part) → NoSwitch x → NoSwitch (given_part k x)
taking_none (takes k) x e = given_none k x e
taking_none (stands z) (typed f i j l ps) e = e

all_taking_none : (ks : List Taking) (ys : Parts) → Each ys → Each (all_given ks ys)
all_taking_none [] ys e = e
all_taking_none (k ∷ ks) [] e = tt
all_taking_none (k ∷ ks) (None ∷ ys) e = all_taking_none ks ys e
all_taking_none (k ∷ ks) (Some y ∷ ys) e = (taking_none k y e.0, all_taking_none ks ys e.1)

-- ---- parts that are laid out

held_none : (x : Option Part) → Each (x ∷ []) → Each (held x)
held_none None e = tt
held_none (Some (typed f i j l ps)) e = by (is_held f)
  where
    by : (b : Bool) → Each (if b then list_of ps else Some (typed f i j l ps) ∷ [])
    by true = each_of ps e.0.1
    by false = e

all_held_none : (xs : Parts) → Each xs → Each (all_held xs)
all_held_none [] e = tt
all_held_none (x ∷ xs) e = let d = first x xs e in both (held x) (all_held xs) (held_none x d.0) (all_held_none xs d.1)

leaf_none : (x : Part) → NoSwitch (leaf x)
leaf_none (typed f i j l ps) = (refl, tt)

cut_none : (x : Option Part) → Each (x ∷ []) → Each (cut x ∷ [])
cut_none None e = tt
cut_none (Some x) e = by (is_type (sort_of x))
  where
    by : (b : Bool) → Each ((if b then Some (leaf x) else Some x) ∷ [])
    by true = (leaf_none x, tt)
    by false = e

first_cut_none : (xs : Parts) → Each xs → Each (first_cut xs)
first_cut_none [] e = tt
first_cut_none (x ∷ xs) e = let d = first x xs e in join (cut x) xs (cut_none x d.0) d.1

call_none : (xs : Parts) → Each xs → Each (call_parts xs)
call_none [] e = tt
call_none (f ∷ xs) e = by (is_make_call (f ∷ xs))
  where
    by : (b : Bool) → Each (if b then f ∷ first_cut xs else cut f ∷ xs)
    by true = let d = first f xs e in join f (first_cut xs) d.0 (first_cut_none xs d.1)
    by false = let d = first f xs e in join (cut f) xs (cut_none f d.0) d.1

bounds_none : (x : Option Part) → Each (x ∷ []) → Each (bounds_of x)
bounds_none x e = by (has_no_low x)
  where
    by : (b : Bool) → Each (if b then None ∷ held x else held x)
    by true = held_none x e
    by false = held_none x e

bracketed_none : (xs : Parts) → Each xs → Each (bracketed_parts xs)
bracketed_none [] e = e
bracketed_none (x ∷ []) e = e
bracketed_none (x ∷ y ∷ ys) e = let d = first x (y ∷ ys) e in join x (bounds_of y) d.0 (bounds_none y (first y ys d.1).0)

selector_none : (xs : Parts) → Each xs → Each (selector_parts xs)
selector_none [] e = e
selector_none (None ∷ xs) e = e
selector_none (Some x ∷ y ∷ ys) e = e
selector_none (Some x ∷ []) e = by (is_package (sort_of x))
  where
    by : (b : Bool) → Each (if b then [] else Some x ∷ [])
    by true = tt
    by false = e

behind_none : (xs : Parts) → Each xs → Each (behind_first xs)
behind_none [] e = tt
behind_none (x ∷ xs) e = (first x xs e).1

laid_none : (k : Kind) (xs : Parts) → Each xs → Each (tables.layout k xs)
laid_none kind.Selector xs e = selector_none xs e
laid_none kind.Bracketed xs e = bracketed_none xs e
laid_none kind.Call xs e = call_none xs e
laid_none kind.Composite xs e = first_cut_none xs e
laid_none kind.LiteralValue xs e = e
laid_none kind.Keyed xs e = behind_none xs e
laid_none kind.Fields xs e = all_held_none xs e
laid_none kind.StructType xs e = all_held_none xs e
laid_none k xs e = e

-- ---- expressions

module _ (s : Scope) where
  object_none : (o : Option Object) → is_switching (object_form s o) ≡ false
  object_none None = refl
  object_none (Some object.Import) = refl
  object_none (Some (object.Predeclared p)) = refl
  object_none (Some (object.Package n)) = refl
  object_none (Some (object.Local g n)) = refl

  declared_none : (o : Option Object) → is_switching (declared_form s o) ≡ false
  declared_none None = refl
  declared_none (Some object.Import) = refl
  declared_none (Some (object.Predeclared p)) = refl
  declared_none (Some (object.Package n)) = refl
  declared_none (Some (object.Local g n)) = refl

  or_type : (z : Stands) (f : Form) → is_switching f ≡ false → is_switching (form_or_type z f) ≡ false
  or_type (sort.IsType u) f e = refl
  or_type z f e = e

  name_none : (h : Hint) (i : ℕ) → is_switching (name_form s h i) ≡ false
  name_none declares i = declared_none (s.objects i)
  name_none free i = declared_none (s.objects i)
  name_none h i = or_type (name_sort s h i) (object_form s (s.objects i)) (object_none (s.objects i))

  selector_form_none : (name : List ℕ) (ys : Parts) → is_switching (selector_form s.rights name ys) ≡ false
  selector_form_none name [] = refl
  selector_form_none name (None ∷ ys) = refl
  selector_form_none name (Some x ∷ []) = refl
  selector_form_none name (Some x ∷ y ∷ ys) = refl

  bracketed_form_none : (ys : Parts) → is_switching (bracketed_form ys) ≡ false
  bracketed_form_none [] = refl
  bracketed_form_none (x ∷ []) = refl
  bracketed_form_none (x ∷ y ∷ []) = refl
  bracketed_form_none (x ∷ y ∷ z ∷ ys) = refl

  callee_none : (z : Stands) → is_switching (callee_form z) ≡ false
  callee_none (sort.IsType t) = refl
  callee_none z = refl

  call_form_none : (ys : Parts) → is_switching (tables.on_first form.Call (λ f xs. callee_form (sort_of f)) ys) ≡ false
  call_form_none [] = refl
  call_form_none (None ∷ ys) = refl
  call_form_none (Some x ∷ ys) = callee_none (sort_of x)

  key_none : (h : Hint) (name : List ℕ) → is_switching (key_form s.rights h name) ≡ false
  key_none (member t) name = refl
  key_none h name = refl

  form_none : (k : Kind) (h : Hint) (i j : ℕ) (ys : Parts) → is_switching (form_by s k h i j ys) ≡ false
  form_none kind.Name h i j ys = name_none h i
  form_none kind.Selector h i j ys = selector_form_none (s.texts (j - 1)) ys
  form_none kind.Bracketed h i j ys = bracketed_form_none ys
  form_none kind.Call h i j ys = call_form_none ys
  form_none kind.Keyed h i j ys = key_none h (s.texts i)
  form_none k h i j ys = refl

  built_none : (k : Kind) (h : Hint) (i j : ℕ) (ys : Parts) (b : Bool) → Each ys → NoSwitch (tables.built_by s k h i j ys b)
  built_none k h i j ys true e = (form_none k h i j ys, row_of (tables.all_given (tables.takes s k h ys) ys) (all_given_none (tables.takes s k h ys) ys e))
  built_none k h i j ys false e = (form_none k h i j ys, row_of ys e)

mutual
  typing_none : (s : Scope) (h : Hint) (x : Tree) → NoSwitch (typing s h x)
  typing_none s h (node k i j ps) =
      let ys = tables.layout k (typings s k h ps [] ps) in
      built_none s k h i j ys (tables.is_sound k ys (tables.own_faults s k h i j ys)) (laid_none k (typings s k h ps [] ps) (typings_none s k h ps [] ps tt))

  typings_none : (s : Scope) (k : Kind) (h : Hint) (all : Trees) (xs : Parts) (ps : Trees) → Each xs → Each (typings s k h all xs ps)
  typings_none s k h all xs none e = e
  typings_none s k h all xs (skip ps) e = typings_none s k h all (xs ++ None ∷ []) ps (both xs (None ∷ []) e tt)
  typings_none s k h all xs (more p ps) e =
      let x = typing (part_scope s k xs) (hint s k h all xs (kind_of p)) p in
      typings_none s k h all (xs ++ Some x ∷ []) ps (both xs (Some x ∷ []) e (typing_none (part_scope s k xs) (hint s k h all xs (kind_of p)) p, tt))

-- ---- parts of statements that are laid out

new_form_none : (ls : Locals) (f : Form) → is_switching f ≡ false → is_switching (new_form ls f) ≡ false
new_form_none ls (form.Declared n) e = by (declared_type ls n)
  where
    by : (o : Option TypeTree) → is_switching (new_or_known n o) ≡ false
    by (Some t) = refl
    by None = refl
new_form_none ls f e = e

new_names_none : (ls : Locals) (xs : Parts) → Each xs → Each (map (new_name ls) xs)
new_names_none ls [] e = tt
new_names_none ls (None ∷ xs) e = new_names_none ls xs e
new_names_none ls (Some (typed f i j l ps) ∷ xs) e = ((new_form_none ls f e.0.0, e.0.1), new_names_none ls xs e.1)

values_none : (x : Option Part) → Each (x ∷ []) → Each (typed_or_not x)
values_none None e = tt
values_none (Some x) e = by (is_values (Some x))
  where
    by : (b : Bool) → Each (if b then None ∷ held (Some x) else held (Some x))
    by true = held_none (Some x) e
    by false = held_none (Some x) e

specification_none : (xs : Parts) → Each xs → Each (specification_parts xs)
specification_none [] e = e
specification_none (x ∷ []) e = e
specification_none (ns ∷ x ∷ []) e =
    let d = first ns (x ∷ []) e in both (held ns) (first_cut (typed_or_not x)) (held_none ns d.0) (first_cut_none (typed_or_not x) (values_none x d.1))
specification_none (x ∷ y ∷ z ∷ xs) e = e

take_none : (n : ℕ) (xs : Parts) → Each xs → Each (take n xs)
take_none zero xs e = tt
take_none (suc n) [] e = tt
take_none (suc n) (None ∷ xs) e = take_none n xs e
take_none (suc n) (Some x ∷ xs) e = (e.0, take_none n xs e.1)

names_none : (xs : Parts) → Each xs → Each (all_names xs)
names_none [] e = tt
names_none (None ∷ xs) e = names_none xs e
names_none (Some x ∷ xs) e = both (specified_names (Some x)) (all_names xs) (take_none (names_count (form_of x)) (list_of (parts_of x)) (each_in x e.0)) (names_none xs e.1)

specifications_none : (xs : Parts) → Each xs → Each (specifications xs)
specifications_none [] e = e
specifications_none (None ∷ xs) e = e
specifications_none (Some x ∷ y ∷ xs) e = e
specifications_none (Some x ∷ []) e = by (is_group (form_of x))
  where
    by : (b : Bool) → Each (if b then list_of (parts_of x) else Some x ∷ [])
    by true = each_in x e.0
    by false = e

present_none : (xs : Parts) → Each xs → Each (without_absent xs)
present_none [] e = tt
present_none (None ∷ xs) e = present_none xs e
present_none (Some x ∷ xs) e = (e.0, present_none xs e.1)

header_none : (x : Option Part) → Each (x ∷ []) → Each (header_parts x)
header_none None e = tt
header_none (Some (typed (form.Held kind.LateCondition) i j l ps)) e = each_of ps e.0.1
header_none (Some (typed (form.Held kind.LateTag) i j l ps)) e = each_of ps e.0.1
header_none (Some (typed (form.Held kind.InitializedCondition) i j l ps)) e = each_of ps e.0.1
header_none (Some (typed (form.Held kind.InitializedTag) i j l ps)) e = each_of ps e.0.1
header_none (Some (typed (form.Held k) i j l ps)) e = e
header_none (Some (typed f i j l ps)) e = e

if_none : (xs : Parts) → Each xs → Each (if_parts xs)
if_none [] e = e
if_none (h ∷ []) e = e
if_none (h ∷ b ∷ []) e = e
if_none (h ∷ b ∷ x ∷ []) e =
    let d = first h (b ∷ x ∷ []) e in
    let c = first b (x ∷ []) d.1 in both (header_parts h) (b ∷ held x) (header_none h d.0) (join b (held x) c.0 (held_none x c.1))
if_none (h ∷ b ∷ x ∷ y ∷ ys) e = e

loop_none : (x : Option Part) → Each (x ∷ []) → Each (loop_header x)
loop_none None e = tt
loop_none (Some (typed (form.Held kind.ForClause) i j l ps)) e = each_of ps e.0.1
loop_none (Some (typed (form.Held k) i j l ps)) e = each_of ps e.0.1
loop_none (Some (typed f i j l ps)) e = e

for_none : (xs : Parts) → Each xs → Each (for_parts xs)
for_none [] e = e
for_none (h ∷ xs) e = let d = first h xs e in both (loop_header h) xs (loop_none h d.0) d.1

layout_none : (s : Frame) (k : Kind) (i : ℕ) (xs : Parts) → is_switch k ≡ false → Each xs → Each (layout s k i xs)
layout_none s kind.Switch i xs n e = cc
layout_none s kind.Targets i xs n e = all_held_none xs e
layout_none s kind.NewNames i xs n e = new_names_none s.locals (all_held xs) (all_held_none xs e)
layout_none s kind.Values i xs n e = all_held_none xs e
layout_none s kind.TypedValues i xs n e = all_held_none xs e
layout_none s (kind.Specification declaring.Type) i xs n e = ((declared_none s.around (s.around.objects i), tt), e)
layout_none s (kind.Specification declaring.Variable) i xs n e = specification_none xs e
layout_none s (kind.Specification declaring.Constant) i xs n e = specification_none xs e
layout_none s (kind.Declaration declaring.Variable) i xs n e = specifications_none xs e
layout_none s (kind.Declaration declaring.Constant) i xs n e = names_none (specifications xs) (specifications_none xs e)
layout_none s (kind.Declaration declaring.Type) i xs n e = names_none (specifications xs) (specifications_none xs e)
layout_none s kind.Assignment i xs n e = all_held_none xs e
layout_none s kind.Define i xs n e = all_held_none xs e
layout_none s kind.Case i xs n e = all_held_none xs e
layout_none s kind.Return i xs n e = present_none (all_held xs) (all_held_none xs e)
layout_none s kind.If i xs n e = if_none xs e
layout_none s kind.For i xs n e = for_none xs e
layout_none s kind.AssigningRange i xs n e = all_held_none xs e
layout_none s kind.DefiningRange i xs n e = all_held_none xs e
layout_none s kind.FunctionDeclaration i xs n e = present_none (behind_first xs) (behind_none xs e)
layout_none s k i xs n e = e

loop_form_none : (x : Option Part) → is_switching (loop_form x) ≡ false
loop_form_none (Some (typed (form.Held kind.Range) i j l ps)) = refl
loop_form_none (Some (typed (form.Held kind.AssigningRange) i j l ps)) = refl
loop_form_none (Some (typed (form.Held kind.DefiningRange) i j l ps)) = refl
loop_form_none (Some (typed (form.Held k) i j l ps)) = refl
loop_form_none (Some (typed f i j l ps)) = refl
loop_form_none None = refl

first_loop_none : (xs : Parts) → is_switching (first_loop_form xs) ≡ false
first_loop_none [] = refl
first_loop_none (x ∷ xs) = loop_form_none x

statement_form_none : (k : Kind) (xs : Parts) → is_switch k ≡ false → is_switching (laying.form_by k xs) ≡ false
statement_form_none kind.Switch xs n = cc
statement_form_none kind.For xs n = first_loop_none xs
statement_form_none (kind.Declaration declaring.Variable) xs n = refl
statement_form_none (kind.Declaration declaring.Constant) xs n = refl
statement_form_none (kind.Declaration declaring.Type) xs n = refl
statement_form_none (kind.Specification declaring.Variable) xs n = refl
statement_form_none (kind.Specification declaring.Constant) xs n = refl
statement_form_none (kind.Specification declaring.Type) xs n = refl
statement_form_none k xs n = refl

-- ---- parts that hold no statements

list_unswitched : (k : Kind) → is_list k ≡ true → is_switch k ≡ false
list_unswitched kind.Switch e = cc
list_unswitched k e = refl

holding_by : (s : Frame) (h : Hint) (k : Kind) (i j : ℕ) (ps : Trees) → Each (holdings s k h ps [] ps) → (b : Bool) → is_list k ≡ b → (c : Bool)
    → NoSwitch (if b then list_node s k i j (layout s k i (holdings s k h ps [] ps)) else (if c then name_node s i j else typing (scope_of s) h (node k i j ps)))
holding_by s h k i j ps d true e c = (refl, row_of (layout s k i (holdings s k h ps [] ps)) (layout_none s k i (holdings s k h ps [] ps) (list_unswitched k e) d))
holding_by s h k i j ps d false e true = (declared_none s.around (s.around.objects i), tt)
holding_by s h k i j ps d false e false = typing_none (scope_of s) h (node k i j ps)

mutual
  holding_none : (s : Frame) (h : Hint) (x : Tree) → NoSwitch (holding s h x)
  holding_none s h (node k i j ps) = holding_by s h k i j ps (holdings_none s k h ps [] ps tt) (is_list k) refl (is_declared_name k)

  holdings_none : (s : Frame) (k : Kind) (h : Hint) (all : Trees) (xs : Parts) (ps : Trees) → Each xs → Each (holdings s k h all xs ps)
  holdings_none s k h all xs none e = e
  holdings_none s k h all xs (skip ps) e = holdings_none s k h all (xs ++ None ∷ []) ps (both xs (None ∷ []) e tt)
  holdings_none s k h all xs (more p ps) e =
      let x = holding s (told k h all xs (kind_of p)) p in
      holdings_none s k h all (xs ++ Some x ∷ []) ps (both xs (Some x ∷ []) e (holding_none s (told k h all xs (kind_of p)) p, tt))

repeated_none : (s : Frame) (o : Option Tree) → Each (repeated s o ∷ [])
repeated_none s None = tt
repeated_none s (Some r) = (holding_none s value r, tt)

left_none : (s : Frame) (k : Kind) → Each (left_out s k ∷ [])
left_none s (kind.Specification declaring.Constant) = repeated_none s s.source
left_none s k = tt

-- ---- statements

built_statement : (s : Frame) (k : Kind) (f : Form) (i j : ℕ) (ys : Parts) (own : List TypeFault) → is_switching f ≡ false → Each ys → NoSwitch (built_by s k f i j ys own)
built_statement s k f i j ys [] n e = (n, row_of (all_given (taking s k f ys) ys) (all_taking_none (taking s k f ys) ys e))
built_statement s k f i j ys (x ∷ xs) n e = (n, row_of ys e)

abbrev parts_in : Readings → Parts
parts_in (all_read xs fs s) = xs

closed_none : (f : Frame) (k : Kind) (i j : ℕ) (ps : Trees) (r : Readings) → is_switch k ≡ false → Each (parts_in r) → NoSwitch (tree_in (closed f k i j ps r))
closed_none f k i j ps (all_read xs fs s) n e =
    let ys = layout s k i xs in built_statement s k (laying.form_by k xs) i j ys (own_faults s k (laying.form_by k xs) i j ys) (statement_form_none k xs n) (layout_none s k i xs n e)

both_flags : (b c : Bool) → (not b && c) ≡ true → (b ≡ false) × (c ≡ true)
both_flags true c e = cc
both_flags false c e = (refl, e)

two_flags : (b c : Bool) → (b && c) ≡ true → (b ≡ true) × (c ≡ true)
two_flags true c e = (refl, e)
two_flags false c e = cc

reading_by : (f : Frame) (h : Hint) (k : Kind) (i j : ℕ) (ps : Trees) → is_switch k ≡ false → Each (parts_in (readings (beginning k i f) k h ps [] [] ps)) → (b : Bool)
    → NoSwitch (tree_in (if b then closed f k i j ps (readings (beginning k i f) k h ps [] [] ps) else read (holding f h (node k i j ps)) (held_faults f h (node k i j ps)) f))
reading_by f h k i j ps n e true = closed_none f k i j ps (readings (beginning k i f) k h ps [] [] ps) n e
reading_by f h k i j ps n e false = holding_none f h (node k i j ps)

mutual
  reading_none : (f : Frame) (h : Hint) (x : Tree) → is_switchless x ≡ true → NoSwitch (tree_in (reading f h x))
  reading_none f h (node k i j ps) e =
      let d = both_flags (is_switch k) (are_switchless ps) e in reading_by f h k i j ps d.0 (readings_none (beginning k i f) k h ps [] [] ps d.1 tt) (is_statement k)

  readings_none : (f : Frame) (k : Kind) (h : Hint) (all : Trees) (xs : Parts) (fs : Found) (ps : Trees) → are_switchless ps ≡ true → Each xs → Each (parts_in (readings f k h all xs fs ps))
  readings_none f k h all xs fs none n e = e
  readings_none f k h all xs fs (skip ps) n e =
      let s = entering k xs f in readings_none s k h all (xs ++ left_out s k ∷ []) (fs ++ left_out_faults s k) ps n (both xs (left_out s k ∷ []) e (left_none s k))
  readings_none f k h all xs fs (more p ps) n e =
      let d = two_flags (is_switchless p) (are_switchless ps) n in
      let r = reading (entering k xs f) (told k h all xs (kind_of p)) p in
      subst (λ z. Each (parts_in z)) (sym (after_is r (λ x gs t. readings t k h all (xs ++ Some x ∷ []) (fs ++ gs) ps)))
      (readings_none (frame_in r) k h all (xs ++ Some (tree_in r) ∷ []) (fs ++ found_in r) ps d.1
      (both xs (Some (tree_in r) ∷ []) e (reading_none (entering k xs f) (told k h all xs (kind_of p)) p d.0, tt)))

pub switchless_tagged : SwitchlessAreTagged
switchless_tagged f h x e = none_tagged (tree_in (reading f h x)) (reading_none f h x e)
