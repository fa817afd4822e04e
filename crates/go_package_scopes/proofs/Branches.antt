-- The branches of a body lead where those of its tree do.
use Rattle.std.proofs.Common.{◌≡◌, ℕ, zero, suc, Bool, true, false, List, [], ◌∷◌, ◌++◌, map, take, Option, Some, None, refl, sym, subst}
use Rattle.std.specs.Prelude.{if◌then◌else◌}
use Rattle.go_grammar.specs.declared.kind.Kind.{Kind}
use Rattle.go_grammar.specs.declared.kind.Kind.TheVariants as kind
use Rattle.go_grammar.specs.declared.kind.Sort.TheVariants as declaring
use Rattle.go_grammar.specs.Trees.{Tree, node, Trees, kind_of}
use Rattle.go_grammar.specs.Trees as syntax
use Rattle.go_types.specs.Trees.{TypeTree}
use Rattle.go_typed.specs.declared.form.Form.{Form}
use Rattle.go_typed.specs.declared.form.Form.TheVariants as form
use Rattle.go_typed.specs.Trees.{Typed, typed, Typeds, row, list_of, sort_of, mapped, all_mapped}
use Rattle.go_typed.specs.Trees as trees
use Rattle.go_exprs_rules.specs.declared.family.OpenKind.{OpenKind}
use Rattle.go_exprs_rules.specs.declared.fault.TypeFault.{TypeFault}
use Rattle.go_exprs_rules.specs.Scopes.{Hint, value}
use Rattle.go_exprs_rules.specs.Settling.{Part, Take, stay, default, as_type, settled, all_settled, defaulted, given}
use Rattle.go_exprs_rules.specs.Sorts.{takes_type, retyped, open_kind, default_type}
use Rattle.go_exprs_rules.specs.Tables.{Parts, leaf, is_type, held, all_held, first_cut, behind_first}
use Rattle.go_exprs_rules.specs.Typing.{typing}
use Rattle.go_stmts_defs.specs.Frames.{Frame, Locals, scope_of, declared_type}
use Rattle.go_stmts_defs.specs.Laying.{told, layout, form_by, new_or_known, new_name, is_values, typed_or_not, specification_parts, names_count, specified_names}
use Rattle.go_stmts_defs.specs.Laying.{all_names, specifications, header_parts, type_name}
use Rattle.go_stmts_defs.specs.Laying.{if_parts, switch_parts, loop_header, for_parts, without_absent, loop_form, first_loop_form}
use Rattle.go_stmts_defs.specs.Reading.{Found, is_list, is_declared_name, list_node, name_node, holding, holdings, held_faults, entering, beginning}
use Rattle.go_stmts_defs.specs.Reading.{Reading, read, Readings, all_read, after, repeated, left_out, left_out_faults, is_statement, closed, reading, readings}
use Rattle.go_stmts_defs.specs.Assigning.{Taking, takes, stands}
use Rattle.go_stmts_defs.specs.Rules.{own_faults, given_part, all_given, taking, built_by}
use Rattle.go_stmts_scopes.specs.Standing.{Exits, exits_in}
use Rattle.go_stmts_scopes.specs.Statements.{tree_in}
use Rattle.go_package_scopes.specs.Functions.{MayLead, BranchesStand, AllBranchesStand}
use Rattle.go_package_scopes.proofs.Plain.{Plain, AllPlain, declared_plain, typing_plain}
use Rattle.go_package_scopes.proofs.BranchTrees.{KindMayLead, exits_of, BranchesLead, AllBranchesLead}

-- ---- trees without branches

mutual
  plain_stands : (e : Exits) (x : Typed TypeTree) → Plain x → BranchesStand e x
  plain_stands e (typed form.Break i j l ps) h = absurd (let z : false ≡ true = h.0 in cc)
  plain_stands e (typed form.Continue i j l ps) h = absurd (let z : false ≡ true = h.0 in cc)
  plain_stands e (typed form.Fallthrough i j l ps) h = absurd (let z : false ≡ true = h.0 in cc)
  plain_stands e (typed form.For i j l ps) h = absurd (let z : false ≡ true = h.0 in cc)
  plain_stands e (typed (form.Range d n) i j l ps) h = absurd (let z : false ≡ true = h.0 in cc)
  plain_stands e (typed form.Switch i j l ps) h = absurd (let z : false ≡ true = h.0 in cc)
  plain_stands e (typed f i j l ps) h = (tt, all_plain_stand e ps h.1)

  all_plain_stand : (e : Exits) (ps : Typeds TypeTree) → AllPlain ps → AllBranchesStand e ps
  all_plain_stand e trees.none h = tt
  all_plain_stand e (trees.more p ps) h = (plain_stands e p h.0, all_plain_stand e ps h.1)
  all_plain_stand e (trees.skip ps) h = all_plain_stand e ps h

-- ---- parts

abbrev pub PartsStand : Exits → Parts → Type 0
PartsStand e [] = Unit {0}
PartsStand e (None ∷ xs) = PartsStand e xs
PartsStand e (Some x ∷ xs) = BranchesStand e x × PartsStand e xs

row_stands : (e : Exits) (xs : Parts) → PartsStand e xs → AllBranchesStand e (row xs)
row_stands e [] h = tt
row_stands e (None ∷ xs) h = row_stands e xs h
row_stands e (Some x ∷ xs) h = (h.0, row_stands e xs h.1)

list_stands : (e : Exits) (ps : Typeds TypeTree) → AllBranchesStand e ps → PartsStand e (list_of ps)
list_stands e trees.none h = tt
list_stands e (trees.more p ps) h = (h.0, list_stands e ps h.1)
list_stands e (trees.skip ps) h = list_stands e ps h

append_stands : (e : Exits) (xs ys : Parts) → PartsStand e xs → PartsStand e ys → PartsStand e (xs ++ ys)
append_stands e [] ys h g = g
append_stands e (None ∷ xs) ys h g = append_stands e xs ys h g
append_stands e (Some x ∷ xs) ys h g = (h.0, append_stands e xs ys h.1 g)

append_one : (e : Exits) (xs : Parts) (x : Part) → PartsStand e xs → BranchesStand e x → PartsStand e (xs ++ Some x ∷ [])
append_one e xs x h g = append_stands e xs (Some x ∷ []) h (g, tt)

take_stands : (e : Exits) (n : ℕ) (xs : Parts) → PartsStand e xs → PartsStand e (take n xs)
take_stands e zero xs h = tt
take_stands e (suc n) [] h = tt
take_stands e (suc n) (None ∷ xs) h = take_stands e n xs h
take_stands e (suc n) (Some x ∷ xs) h = (h.0, take_stands e n xs h.1)

absent_stands : (e : Exits) (xs : Parts) → PartsStand e xs → PartsStand e (without_absent xs)
absent_stands e [] h = tt
absent_stands e (None ∷ xs) h = absent_stands e xs h
absent_stands e (Some x ∷ xs) h = (h.0, absent_stands e xs h.1)

-- ---- what parts take

mutual
  settled_stands : (e : Exits) (t : TypeTree) (x : Part) → BranchesStand e x → BranchesStand e (settled t x)
  settled_stands e t (typed f i j l ps) h = by (takes_type l.sort) (all_settled_stand (exits_in e f) t ps h.1)
    where
      by : (b : Bool) → AllBranchesStand (exits_in e f) (all_settled t ps)
          → BranchesStand e (if b then typed f i j (record l { sort = retyped t l.sort }) (all_settled t ps) else typed f i j l ps)
      by true g = (h.0, g)
      by false g = h

  all_settled_stand : (e : Exits) (t : TypeTree) (ps : Typeds TypeTree) → AllBranchesStand e ps → AllBranchesStand e (all_settled t ps)
  all_settled_stand e t trees.none h = tt
  all_settled_stand e t (trees.more p ps) h = (settled_stands e t p h.0, all_settled_stand e t ps h.1)
  all_settled_stand e t (trees.skip ps) h = all_settled_stand e t ps h

defaulted_stands : (e : Exits) (k : Option OpenKind) (x : Part) → BranchesStand e x → BranchesStand e (defaulted k x)
defaulted_stands e None x h = h
defaulted_stands e (Some k) x h = settled_stands e (default_type k) x h

given_stands : (e : Exits) (k : Take) (x : Part) → BranchesStand e x → BranchesStand e (given k x)
given_stands e stay x h = h
given_stands e default x h = defaulted_stands e (open_kind (sort_of x)) x h
given_stands e (as_type t) x h = settled_stands e t x h

part_stands : (e : Exits) (k : Taking) (x : Part) → BranchesStand e x → BranchesStand e (given_part k x)
part_stands e (takes k) x h = given_stands e k x h
part_stands e (stands y) (typed f i j l ps) h = h

all_take : (e : Exits) (ks : List Taking) (xs : Parts) → PartsStand e xs → PartsStand e (all_given ks xs)
all_take e [] xs h = h
all_take e (k ∷ ks) [] h = tt
all_take e (k ∷ ks) (None ∷ xs) h = all_take e ks xs h
all_take e (k ∷ ks) (Some x ∷ xs) h = (part_stands e k x h.0, all_take e ks xs h.1)

-- ---- layouts

leaf_stands : (e : Exits) (x : Part) → BranchesStand e (leaf x)
leaf_stands e (typed f i j l ps) = (tt, tt)

cut_stands : (e : Exits) (x : Part) (b : Bool) (xs : Parts) → BranchesStand e x → PartsStand e xs → PartsStand e ((if b then Some (leaf x) else Some x) ∷ xs)
cut_stands e x true xs h g = (leaf_stands e x, g)
cut_stands e x false xs h g = (h, g)

first_cut_stands : (e : Exits) (xs : Parts) → PartsStand e xs → PartsStand e (first_cut xs)
first_cut_stands e [] h = tt
first_cut_stands e (None ∷ xs) h = h
first_cut_stands e (Some x ∷ xs) h = cut_stands e x (is_type (sort_of x)) xs h.0 h.1

behind_stands : (e : Exits) (xs : Parts) → PartsStand e xs → PartsStand e (behind_first xs)
behind_stands e [] h = tt
behind_stands e (None ∷ xs) h = h
behind_stands e (Some x ∷ xs) h = h.1

held_stands : (e : Exits) (x : Option Part) → PartsStand e (x ∷ []) → PartsStand e (held x)
held_stands e None h = tt
held_stands e (Some (typed (form.Held k) i j l ps)) h = list_stands e ps h.0.1
held_stands e (Some (typed f i j l ps)) h = h

all_held_stands : (e : Exits) (xs : Parts) → PartsStand e xs → PartsStand e (all_held xs)
all_held_stands e [] h = tt
all_held_stands e (None ∷ xs) h = all_held_stands e xs h
all_held_stands e (Some x ∷ xs) h = append_stands e (held (Some x)) (all_held xs) (held_stands e (Some x) (h.0, tt)) (all_held_stands e xs h.1)

new_stands : (e : Exits) (ls : Locals) (x : Part) → BranchesStand e x → PartsStand e (new_name ls (Some x) ∷ [])
new_stands e ls (typed (form.Declared n) i j l ps) h = by (declared_type ls n)
  where
    by : (t : Option TypeTree) → PartsStand e (Some (typed (new_or_known n t) i j l ps) ∷ [])
    by None = (h, tt)
    by (Some t) = (h, tt)
new_stands e ls (typed f i j l ps) h = (h, tt)

names_stand : (e : Exits) (ls : Locals) (xs : Parts) → PartsStand e xs → PartsStand e (map (new_name ls) xs)
names_stand e ls [] h = tt
names_stand e ls (None ∷ xs) h = names_stand e ls xs h
names_stand e ls (Some x ∷ xs) h = ((new_stands e ls x h.0).0, names_stand e ls xs h.1)

optional_stands : (e : Exits) (x : Option Part) → PartsStand e (x ∷ []) → PartsStand e (typed_or_not x)
optional_stands e None h = tt
optional_stands e (Some x) h = by (is_values (Some x)) (held_stands e (Some x) h)
  where
    by : (b : Bool) → PartsStand e (held (Some x)) → PartsStand e (if b then None ∷ held (Some x) else held (Some x))
    by true g = g
    by false g = g

specification_stands : (e : Exits) (xs : Parts) → PartsStand e xs → PartsStand e (specification_parts xs)
specification_stands e [] h = tt
specification_stands e (x ∷ []) h = h
specification_stands e (None ∷ None ∷ []) h = tt
specification_stands e (None ∷ Some y ∷ []) h = first_cut_stands e (typed_or_not (Some y)) (optional_stands e (Some y) (h.0, tt))
specification_stands e (Some x ∷ None ∷ []) h = append_stands e (held (Some x)) (None ∷ []) (held_stands e (Some x) (h.0, tt)) tt
specification_stands e (Some x ∷ Some y ∷ []) h =
    append_stands e (held (Some x)) (first_cut (typed_or_not (Some y))) (held_stands e (Some x) (h.0, tt)) (first_cut_stands e (typed_or_not (Some y)) (optional_stands e (Some y) (h.1.0, tt)))
specification_stands e (x ∷ y ∷ z ∷ xs) h = h

group_stands : (e : Exits) (xs : Parts) → PartsStand e xs → PartsStand e (specifications xs)
group_stands e [] h = tt
group_stands e (None ∷ xs) h = h
group_stands e (Some (typed (form.Held (kind.Group s)) i j l ps) ∷ []) h = list_stands e ps h.0.1
group_stands e (Some (typed (form.Held k) i j l ps) ∷ []) h = h
group_stands e (Some (typed f i j l ps) ∷ []) h = h
group_stands e (Some x ∷ y ∷ xs) h = h

specified_stands : (e : Exits) (x : Part) → BranchesStand e x → PartsStand e (specified_names (Some x))
specified_stands e (typed (form.Specified n) i j l ps) h = take_stands e n (list_of ps) (list_stands e ps h.1)
specified_stands e (typed (form.Held k) i j l ps) h = take_stands e (names_count (form.Held k)) (list_of ps) (list_stands e ps h.1)
specified_stands e (typed f i j l ps) h = tt

all_names_stand : (e : Exits) (xs : Parts) → PartsStand e xs → PartsStand e (all_names xs)
all_names_stand e [] h = tt
all_names_stand e (None ∷ xs) h = all_names_stand e xs h
all_names_stand e (Some x ∷ xs) h = append_stands e (specified_names (Some x)) (all_names xs) (specified_stands e x h.0) (all_names_stand e xs h.1)

header_stands : (e : Exits) (x : Option Part) → PartsStand e (x ∷ []) → PartsStand e (header_parts x)
header_stands e (Some (typed (form.Held kind.LateCondition) i j l ps)) h = list_stands e ps h.0.1
header_stands e (Some (typed (form.Held kind.LateTag) i j l ps)) h = list_stands e ps h.0.1
header_stands e (Some (typed (form.Held kind.InitializedCondition) i j l ps)) h = list_stands e ps h.0.1
header_stands e (Some (typed (form.Held kind.InitializedTag) i j l ps)) h = list_stands e ps h.0.1
header_stands e x h = h

loop_stands : (e : Exits) (x : Option Part) → PartsStand e (x ∷ []) → PartsStand e (loop_header x)
loop_stands e (Some (typed (form.Held kind.ForClause) i j l ps)) h = list_stands e ps h.0.1
loop_stands e (Some (typed (form.Held k) i j l ps)) h = list_stands e ps h.0.1
loop_stands e None h = tt
loop_stands e (Some x) h = (h.0, tt)

-- the first part, and the others
first_stands : (e : Exits) (x : Option Part) (xs : Parts) → PartsStand e (x ∷ xs) → PartsStand e (x ∷ []) × PartsStand e xs
first_stands e None xs h = (tt, h)
first_stands e (Some x) xs h = ((h.0, tt), h.1)

both_stand : (e : Exits) (x : Option Part) (xs : Parts) → PartsStand e (x ∷ []) → PartsStand e xs → PartsStand e (x ∷ xs)
both_stand e None xs h g = g
both_stand e (Some x) xs h g = (h.0, g)

if_stands : (e : Exits) (xs : Parts) → PartsStand e xs → PartsStand e (if_parts xs)
if_stands e [] h = tt
if_stands e (x ∷ []) h = h
if_stands e (x ∷ y ∷ []) h = h
if_stands e (c ∷ b ∷ o ∷ []) h =
    let x = first_stands e c (b ∷ o ∷ []) h in
    let y = first_stands e b (o ∷ []) x.1 in
    append_stands e (header_parts c) (b ∷ held o) (header_stands e c x.0) (both_stand e b (held o) y.0 (held_stands e o y.1))
if_stands e (c ∷ b ∷ o ∷ z ∷ zs) h = h

switch_stands : (e : Exits) (xs : Parts) → PartsStand e xs → PartsStand e (switch_parts xs)
switch_stands e [] h = tt
switch_stands e (x ∷ xs) h = let y = first_stands e x xs h in append_stands e (header_parts x) xs (header_stands e x y.0) y.1

for_stands : (e : Exits) (xs : Parts) → PartsStand e xs → PartsStand e (for_parts xs)
for_stands e [] h = tt
for_stands e (x ∷ xs) h = let y = first_stands e x xs h in append_stands e (loop_header x) xs (loop_stands e x y.0) y.1

layout_stands : (e : Exits) (s : Frame) (k : Kind) (i : ℕ) (xs : Parts) → PartsStand e xs → PartsStand e (layout s k i xs)
layout_stands e s kind.Targets i xs h = all_held_stands e xs h
layout_stands e s kind.NewNames i xs h = names_stand e s.locals (all_held xs) (all_held_stands e xs h)
layout_stands e s kind.Values i xs h = all_held_stands e xs h
layout_stands e s kind.TypedValues i xs h = all_held_stands e xs h
layout_stands e s (kind.Specification declaring.Type) i xs h = (plain_stands e (type_name s i) (declared_plain s.around (s.around.objects i), tt), h)
layout_stands e s (kind.Specification declaring.Constant) i xs h = specification_stands e xs h
layout_stands e s (kind.Specification declaring.Variable) i xs h = specification_stands e xs h
layout_stands e s (kind.Declaration declaring.Variable) i xs h = group_stands e xs h
layout_stands e s (kind.Declaration declaring.Constant) i xs h = all_names_stand e (specifications xs) (group_stands e xs h)
layout_stands e s (kind.Declaration declaring.Type) i xs h = all_names_stand e (specifications xs) (group_stands e xs h)
layout_stands e s kind.Assignment i xs h = all_held_stands e xs h
layout_stands e s kind.Define i xs h = all_held_stands e xs h
layout_stands e s kind.Case i xs h = all_held_stands e xs h
layout_stands e s kind.Return i xs h = absent_stands e (all_held xs) (all_held_stands e xs h)
layout_stands e s kind.If i xs h = if_stands e xs h
layout_stands e s kind.Switch i xs h = switch_stands e xs h
layout_stands e s kind.For i xs h = for_stands e xs h
layout_stands e s kind.AssigningRange i xs h = all_held_stands e xs h
layout_stands e s kind.DefiningRange i xs h = all_held_stands e xs h
layout_stands e s kind.FunctionDeclaration i xs h = absent_stands e (behind_first xs) (behind_stands e xs h)
layout_stands e s k i xs h = h

-- ---- parts without statements

name_node_stands : (e : Exits) (s : Frame) (i j : ℕ) → BranchesStand e (name_node s i j)
name_node_stands e s i j = plain_stands e (name_node s i j) (declared_plain s.around (s.around.objects i), tt)

mutual
  holding_stands : (e : Exits) (s : Frame) (h : Hint) (t : Tree) → BranchesStand e (holding s h t)
  holding_stands e s h (node k i j ps) = by (is_list k) (is_declared_name k) (holdings_stand e s k h ps [] ps tt)
    where
      by : (a b : Bool) → PartsStand e (holdings s k h ps [] ps)
          → BranchesStand e (if a then list_node s k i j (layout s k i (holdings s k h ps [] ps)) else (if b then name_node s i j else typing (scope_of s) h (node k i j ps)))
      by true b g = (tt, row_stands e (layout s k i (holdings s k h ps [] ps)) (layout_stands e s k i (holdings s k h ps [] ps) g))
      by false true g = name_node_stands e s i j
      by false false g = plain_stands e (typing (scope_of s) h (node k i j ps)) (typing_plain (scope_of s) h (node k i j ps))

  holdings_stand : (e : Exits) (s : Frame) (k : Kind) (h : Hint) (all : Trees) (xs : Parts) (ps : Trees) → PartsStand e xs → PartsStand e (holdings s k h all xs ps)
  holdings_stand e s k h all xs syntax.none g = g
  holdings_stand e s k h all xs (syntax.more p ps) g =
      let q : Part = holding s (told k h all xs (kind_of p)) p in holdings_stand e s k h all (xs ++ Some q ∷ []) ps (append_one e xs q g (holding_stands e s (told k h all xs (kind_of p)) p))
  holdings_stand e s k h all xs (syntax.skip ps) g = holdings_stand e s k h all (xs ++ None ∷ []) ps (append_stands e xs (None ∷ []) g tt)

-- ---- a node

loop_exits : (e : Exits) (x : Option Part) → exits_in e (loop_form x) ≡ exits_of e kind.For
loop_exits e (Some (typed (form.Held kind.Range) i j l ps)) = refl
loop_exits e (Some (typed (form.Held kind.AssigningRange) i j l ps)) = refl
loop_exits e (Some (typed (form.Held kind.DefiningRange) i j l ps)) = refl
loop_exits e x = refl

first_exits : (e : Exits) (xs : Parts) → exits_in e (first_loop_form xs) ≡ exits_of e kind.For
first_exits e [] = refl
first_exits e (x ∷ xs) = loop_exits e x

form_exits : (e : Exits) (k : Kind) (xs : Parts) → exits_in e (form_by k xs) ≡ exits_of e k
form_exits e kind.For xs = first_exits e xs
form_exits e (kind.Declaration declaring.Variable) xs = refl
form_exits e (kind.Declaration declaring.Constant) xs = refl
form_exits e (kind.Declaration declaring.Type) xs = refl
form_exits e (kind.Specification declaring.Variable) xs = refl
form_exits e (kind.Specification declaring.Constant) xs = refl
form_exits e (kind.Specification declaring.Type) xs = refl
form_exits e k xs = refl

loop_leads : (e : Exits) (x : Option Part) → MayLead e (loop_form x)
loop_leads e (Some (typed (form.Held kind.Range) i j l ps)) = tt
loop_leads e (Some (typed (form.Held kind.AssigningRange) i j l ps)) = tt
loop_leads e (Some (typed (form.Held kind.DefiningRange) i j l ps)) = tt
loop_leads e x = tt

first_leads : (e : Exits) (xs : Parts) → MayLead e (first_loop_form xs)
first_leads e [] = tt
first_leads e (x ∷ xs) = loop_leads e x

form_leads : (e : Exits) (k : Kind) (xs : Parts) → KindMayLead e k → MayLead e (form_by k xs)
form_leads e kind.Break xs h = h
form_leads e kind.Continue xs h = h
form_leads e kind.Fallthrough xs h = h
form_leads e kind.For xs h = first_leads e xs
form_leads e (kind.Declaration declaring.Variable) xs h = tt
form_leads e (kind.Declaration declaring.Constant) xs h = tt
form_leads e (kind.Declaration declaring.Type) xs h = tt
form_leads e (kind.Specification declaring.Variable) xs h = tt
form_leads e (kind.Specification declaring.Constant) xs h = tt
form_leads e (kind.Specification declaring.Type) xs h = tt
form_leads e k xs h = tt

built_stands : (e : Exits) (s : Frame) (k : Kind) (f : Form) (i j : ℕ) (ys : Parts) (es : List TypeFault) → MayLead e f → PartsStand (exits_in e f) ys → BranchesStand e (built_by s k f i j ys es)
built_stands e s k f i j ys [] m h = (m, row_stands (exits_in e f) (all_given (taking s k f ys) ys) (all_take (exits_in e f) (taking s k f ys) ys h))
built_stands e s k f i j ys (x ∷ es) m h = (m, row_stands (exits_in e f) ys h)

-- ---- trees

abbrev parts_in : Readings → Parts
parts_in (all_read xs fs s) = xs

abbrev faults_in : Reading → Found
faults_in (read x fs s) = fs

abbrev frame_in : Reading → Frame
frame_in (read x fs s) = s

after_read : (r : Reading) (next : Part → Found → Frame → Readings) → after r next ≡ next (tree_in r) (faults_in r) (frame_in r)
after_read (read x fs s) next = refl

closed_stands : (e : Exits) (old : Frame) (k : Kind) (i j : ℕ) (ps : Trees) (r : Readings) → KindMayLead e k → PartsStand (exits_of e k) (parts_in r) → BranchesStand e (tree_in (closed old k i j ps r))
closed_stands e old k i j ps (all_read xs fs s) m h =
    let ys : Parts = layout s k i xs in
    built_stands e s k (form_by k xs) i j ys (own_faults s k (form_by k xs) i j ys) (form_leads e k xs m) (subst (λ d. PartsStand d ys) (sym (form_exits e k xs)) (layout_stands (exits_of e k) s k i xs h))

left_out_stands : (e : Exits) (s : Frame) (k : Kind) (xs : Parts) → PartsStand e xs → PartsStand e (xs ++ left_out s k ∷ [])
left_out_stands e s (kind.Specification declaring.Constant) xs g = by s.source
  where
    by : (t : Option Tree) → PartsStand e (xs ++ repeated s t ∷ [])
    by None = append_stands e xs (None ∷ []) g tt
    by (Some t) = append_one e xs (holding s value t) g (holding_stands e s value t)
left_out_stands e s (kind.Specification declaring.Variable) xs g = append_stands e xs (None ∷ []) g tt
left_out_stands e s (kind.Specification declaring.Type) xs g = append_stands e xs (None ∷ []) g tt
left_out_stands e s k xs g = append_stands e xs (None ∷ []) g tt

mutual
  pub reading_stands : (e : Exits) (s : Frame) (h : Hint) (t : Tree) → BranchesLead e t → BranchesStand e (tree_in (reading s h t))
  reading_stands e s h (node k i j ps) m = by (is_statement k) (readings_stand (exits_of e k) (beginning k i s) k h ps [] [] ps m.1 tt)
    where
      by : (b : Bool) → PartsStand (exits_of e k) (parts_in (readings (beginning k i s) k h ps [] [] ps))
          → BranchesStand e (tree_in (if b then closed s k i j ps (readings (beginning k i s) k h ps [] [] ps) else read (holding s h (node k i j ps)) (held_faults s h (node k i j ps)) s))
      by true g = closed_stands e s k i j ps (readings (beginning k i s) k h ps [] [] ps) m.0 g
      by false g = holding_stands e s h (node k i j ps)

  readings_stand : (e : Exits) (s : Frame) (k : Kind) (h : Hint) (all : Trees) (xs : Parts) (fs : Found) (ps : Trees) → AllBranchesLead e ps → PartsStand e xs → PartsStand e (parts_in (readings s k h all xs fs ps))
  readings_stand e s k h all xs fs syntax.none m g = g
  readings_stand e s k h all xs fs (syntax.more p ps) m g =
      let r : Reading = reading (entering k xs s) (told k h all xs (kind_of p)) p in
      subst (λ z. PartsStand e (parts_in z)) (sym (after_read r (λ x gs t. readings t k h all (xs ++ Some x ∷ []) (fs ++ gs) ps)))
      (readings_stand e (frame_in r) k h all (xs ++ Some (tree_in r) ∷ []) (fs ++ faults_in r) ps m.1 (append_one e xs (tree_in r) g (reading_stands e (entering k xs s) (told k h all xs (kind_of p)) p m.0)))
  readings_stand e s k h all xs fs (syntax.skip ps) m g =
      let t : Frame = entering k xs s in readings_stand e t k h all (xs ++ left_out t k ∷ []) (fs ++ left_out_faults t k) ps m (left_out_stands e t k xs g)

-- ---- other numbers of types

module _ (g : TypeTree → TypeTree) where
  mutual
    pub mapped_stands : (e : Exits) (x : Typed TypeTree) → BranchesStand e x → BranchesStand e (mapped g x)
    mapped_stands e (typed f i j l ps) h = (h.0, all_mapped_stand (exits_in e f) ps h.1)

    all_mapped_stand : (e : Exits) (ps : Typeds TypeTree) → AllBranchesStand e ps → AllBranchesStand e (all_mapped g ps)
    all_mapped_stand e trees.none h = tt
    all_mapped_stand e (trees.more p ps) h = (mapped_stands e p h.0, all_mapped_stand e ps h.1)
    all_mapped_stand e (trees.skip ps) h = all_mapped_stand e ps h
