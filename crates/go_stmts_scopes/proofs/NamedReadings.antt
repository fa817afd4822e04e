-- Where a statement or a declaration names a local, the token means it; and what tokens mean stays while a body is read.
use Rattle.std.proofs.Common.{◌≡◌, ◌∙◌, ℕ, zero, suc, Bool, true, false, List, [], ◌∷◌, ◌++◌, map, take, Option, Some, None, refl, sym, subst}
use Rattle.std.specs.Prelude.{if◌then◌else◌}
use Rattle.go_grammar.specs.declared.kind.Kind.{Kind}
use Rattle.go_grammar.specs.declared.kind.Kind.TheVariants as kind
use Rattle.go_grammar.specs.declared.kind.Sort.TheVariants as declaring
use Rattle.go_grammar.specs.Trees.{Tree, node, Trees, kind_of}
use Rattle.go_grammar.specs.Trees as syntax
use Rattle.go_tree.specs.declared.object.Object.{Object}
use Rattle.go_types.specs.Trees.{TypeTree}
use Rattle.go_typed.specs.declared.form.Form.{Form}
use Rattle.go_typed.specs.declared.form.Form.TheVariants as form
use Rattle.go_typed.specs.Trees.{typed, list_of, form_of, sort_of, parts_of}
use Rattle.go_typed.specs.Trees as trees
use Rattle.go_exprs_rules.specs.declared.fault.TypeFault.{TypeFault}
use Rattle.go_exprs_rules.specs.Scopes.{Hint, value}
use Rattle.go_exprs_rules.specs.Settling.{Part}
use Rattle.go_exprs_rules.specs.Sorts.{Stands}
use Rattle.go_exprs_rules.specs.Tables.{Parts, held, all_held, first_cut, behind_first}
use Rattle.go_exprs_rules.specs.Typing.{typing}
use Rattle.go_exprs_rules.specs.TypeNodes.{part_type}
use Rattle.go_stmts_defs.specs.Assigning.{Taking, takes, stands}
use Rattle.go_stmts_defs.specs.Frames.{Frame, Locals, scope_of, with_own_right, declared_type}
use Rattle.go_stmts_defs.specs.Laying.{told, layout, form_by, local_named, type_number, new_or_known, new_form, new_name, is_values, typed_or_not, specification_parts, names_count, specified_names}
use Rattle.go_stmts_defs.specs.Laying.{all_names, is_group, specifications, header_parts}
use Rattle.go_stmts_defs.specs.Laying.{if_parts, switch_parts, loop_header, for_parts, without_absent, loop_form, first_loop_form}
use Rattle.go_stmts_defs.specs.Reading.{Found, is_list, is_declared_name, list_node, name_node, holding, holdings, held_faults, entry_names, first_parts, with_parameter, with_parameters, signature_results, entering}
use Rattle.go_stmts_defs.specs.Reading.{with_type, beginning, declares_sort, is_new, declares_name}
use Rattle.go_stmts_defs.specs.Reading.{declares_all, part_source, right_side, back, leaving, Reading, read, Readings, all_read, repeated, left_out, left_out_faults, is_statement, closed, reading, readings}
use Rattle.go_stmts_defs.specs.Rules.{own_faults, given_part, all_given, taking, built_by}
use Rattle.go_exprs_rules.specs.TypeNodes.{entry_types}
use Rattle.go_stmts_scopes.specs.Names.{NameMeans, NamesMean}
use Rattle.go_stmts_scopes.specs.Statements.{tree_in}
use Rattle.go_stmts_scopes.proofs.TypedStatements.{faults_in, frame_in, parts_in, after_read}
use Rattle.go_stmts_scopes.proofs.NamedTypings.{is_local, other_means, declared_means, PartsMean, row_means, list_means, append_means, given_means, first_cut_means, held_means, behind_means, all_held_means, typing_means}

abbrev pub Tokens : Type 0
Tokens = ℕ → Option Object

-- what the tokens mean in a frame
abbrev pub meant : Frame → Tokens
meant s = s.around.objects

-- ---- layouts

take_means : (o : Tokens) (n : ℕ) (xs : Parts) → PartsMean o xs → PartsMean o (take n xs)
take_means o zero xs h = tt
take_means o (suc n) [] h = tt
take_means o (suc n) (None ∷ xs) h = take_means o n xs h
take_means o (suc n) (Some x ∷ xs) h = (h.0, take_means o n xs h.1)

absent_means : (o : Tokens) (xs : Parts) → PartsMean o xs → PartsMean o (without_absent xs)
absent_means o [] h = tt
absent_means o (None ∷ xs) h = absent_means o xs h
absent_means o (Some x ∷ xs) h = (h.0, absent_means o xs h.1)

new_means : (o : Tokens) (ls : Locals) (f : Form) (i : ℕ) → NameMeans o f i → NameMeans o (new_form ls f) i
new_means o ls (form.Declared n) i h = by (declared_type ls n)
  where
    by : (t : Option TypeTree) → NameMeans o (new_or_known n t) i
    by None = h
    by (Some t) = h
new_means o ls f i h = h

names_means : (o : Tokens) (ls : Locals) (xs : Parts) → PartsMean o xs → PartsMean o (map (new_name ls) xs)
names_means o ls [] h = tt
names_means o ls (None ∷ xs) h = names_means o ls xs h
names_means o ls (Some (typed f i j l ps) ∷ xs) h = ((new_means o ls f i h.0.0, h.0.1), names_means o ls xs h.1)

optional_means : (o : Tokens) (x : Option Part) → PartsMean o (x ∷ []) → PartsMean o (typed_or_not x)
optional_means o None h = tt
optional_means o (Some x) h = by (is_values (Some x)) (held_means o (Some x) h)
  where
    by : (b : Bool) → PartsMean o (held (Some x)) → PartsMean o (if b then None ∷ held (Some x) else held (Some x))
    by true g = g
    by false g = g

specification_means : (o : Tokens) (xs : Parts) → PartsMean o xs → PartsMean o (specification_parts xs)
specification_means o [] h = tt
specification_means o (x ∷ []) h = h
specification_means o (None ∷ None ∷ []) h = tt
specification_means o (None ∷ Some y ∷ []) h = first_cut_means o (typed_or_not (Some y)) (optional_means o (Some y) (h.0, tt))
specification_means o (Some x ∷ None ∷ []) h = append_means o (held (Some x)) (None ∷ []) (held_means o (Some x) (h.0, tt)) tt
specification_means o (Some x ∷ Some y ∷ []) h =
    append_means o (held (Some x)) (first_cut (typed_or_not (Some y))) (held_means o (Some x) (h.0, tt)) (first_cut_means o (typed_or_not (Some y)) (optional_means o (Some y) (h.1.0, tt)))
specification_means o (x ∷ y ∷ z ∷ xs) h = h

group_means : (o : Tokens) (xs : Parts) → PartsMean o xs → PartsMean o (specifications xs)
group_means o [] h = tt
group_means o (None ∷ xs) h = h
group_means o (Some (typed f i j l ps) ∷ []) h = by (is_group f)
  where
    by : (b : Bool) → PartsMean o (if b then list_of ps else Some (typed f i j l ps) ∷ [])
    by true = list_means o ps h.0.1
    by false = h
group_means o (Some x ∷ y ∷ xs) h = h

specified_means : (o : Tokens) (x : Part) → NamesMean o x → PartsMean o (specified_names (Some x))
specified_means o (typed f i j l ps) h = take_means o (names_count f) (list_of ps) (list_means o ps h.1)

all_names_means : (o : Tokens) (xs : Parts) → PartsMean o xs → PartsMean o (all_names xs)
all_names_means o [] h = tt
all_names_means o (None ∷ xs) h = all_names_means o xs h
all_names_means o (Some x ∷ xs) h = append_means o (specified_names (Some x)) (all_names xs) (specified_means o x h.0) (all_names_means o xs h.1)

header_means : (o : Tokens) (x : Option Part) → PartsMean o (x ∷ []) → PartsMean o (header_parts x)
header_means o (Some (typed (form.Held kind.LateCondition) i j l ps)) h = list_means o ps h.0.1
header_means o (Some (typed (form.Held kind.LateTag) i j l ps)) h = list_means o ps h.0.1
header_means o (Some (typed (form.Held kind.InitializedCondition) i j l ps)) h = list_means o ps h.0.1
header_means o (Some (typed (form.Held kind.InitializedTag) i j l ps)) h = list_means o ps h.0.1
header_means o x h = h

loop_means : (o : Tokens) (x : Option Part) → PartsMean o (x ∷ []) → PartsMean o (loop_header x)
loop_means o (Some (typed (form.Held kind.ForClause) i j l ps)) h = list_means o ps h.0.1
loop_means o (Some (typed (form.Held k) i j l ps)) h = list_means o ps h.0.1
loop_means o None h = tt
loop_means o (Some x) h = (h.0, tt)

-- the first part, and the others
first_means : (o : Tokens) (x : Option Part) (xs : Parts) → PartsMean o (x ∷ xs) → PartsMean o (x ∷ []) × PartsMean o xs
first_means o None xs h = (tt, h)
first_means o (Some x) xs h = ((h.0, tt), h.1)

both_means : (o : Tokens) (x : Option Part) (xs : Parts) → PartsMean o (x ∷ []) → PartsMean o xs → PartsMean o (x ∷ xs)
both_means o None xs h g = g
both_means o (Some x) xs h g = (h.0, g)

if_means : (o : Tokens) (xs : Parts) → PartsMean o xs → PartsMean o (if_parts xs)
if_means o [] h = tt
if_means o (x ∷ []) h = h
if_means o (x ∷ y ∷ []) h = h
if_means o (c ∷ b ∷ e ∷ []) h =
    let x = first_means o c (b ∷ e ∷ []) h in
    let y = first_means o b (e ∷ []) x.1 in
    append_means o (header_parts c) (b ∷ held e) (header_means o c x.0) (both_means o b (held e) y.0 (held_means o e y.1))
if_means o (c ∷ b ∷ e ∷ z ∷ zs) h = h

switch_means : (o : Tokens) (xs : Parts) → PartsMean o xs → PartsMean o (switch_parts xs)
switch_means o [] h = tt
switch_means o (x ∷ xs) h = let y = first_means o x xs h in append_means o (header_parts x) xs (header_means o x y.0) y.1

for_means : (o : Tokens) (xs : Parts) → PartsMean o xs → PartsMean o (for_parts xs)
for_means o [] h = tt
for_means o (x ∷ xs) h = let y = first_means o x xs h in append_means o (loop_header x) xs (loop_means o x y.0) y.1

layout_means : (s : Frame) (k : Kind) (i : ℕ) (xs : Parts) → PartsMean (meant s) xs → PartsMean (meant s) (layout s k i xs)
layout_means s kind.Targets i xs h = all_held_means (meant s) xs h
layout_means s kind.NewNames i xs h = names_means (meant s) s.locals (all_held xs) (all_held_means (meant s) xs h)
layout_means s kind.Values i xs h = all_held_means (meant s) xs h
layout_means s kind.TypedValues i xs h = all_held_means (meant s) xs h
layout_means s (kind.Specification declaring.Type) i xs h = ((declared_means s.around (meant s i) (meant s) i refl, tt), h)
layout_means s (kind.Specification declaring.Constant) i xs h = specification_means (meant s) xs h
layout_means s (kind.Specification declaring.Variable) i xs h = specification_means (meant s) xs h
layout_means s (kind.Declaration declaring.Variable) i xs h = group_means (meant s) xs h
layout_means s (kind.Declaration declaring.Constant) i xs h = all_names_means (meant s) (specifications xs) (group_means (meant s) xs h)
layout_means s (kind.Declaration declaring.Type) i xs h = all_names_means (meant s) (specifications xs) (group_means (meant s) xs h)
layout_means s kind.Assignment i xs h = all_held_means (meant s) xs h
layout_means s kind.Define i xs h = all_held_means (meant s) xs h
layout_means s kind.Case i xs h = all_held_means (meant s) xs h
layout_means s kind.Return i xs h = absent_means (meant s) (all_held xs) (all_held_means (meant s) xs h)
layout_means s kind.If i xs h = if_means (meant s) xs h
layout_means s kind.Switch i xs h = switch_means (meant s) xs h
layout_means s kind.For i xs h = for_means (meant s) xs h
layout_means s kind.AssigningRange i xs h = all_held_means (meant s) xs h
layout_means s kind.DefiningRange i xs h = all_held_means (meant s) xs h
layout_means s kind.FunctionDeclaration i xs h = absent_means (meant s) (behind_first xs) (behind_means (meant s) xs h)
layout_means s k i xs h = h

-- ---- parts without statements

append_one : (o : Tokens) (xs : Parts) (x : Part) → PartsMean o xs → NamesMean o x → PartsMean o (xs ++ Some x ∷ [])
append_one o xs x h g = append_means o xs (Some x ∷ []) h (g, tt)

name_node_means : (s : Frame) (i j : ℕ) → NamesMean (meant s) (name_node s i j)
name_node_means s i j = (declared_means s.around (meant s i) (meant s) i refl, tt)

mutual
  pub holding_means : (s : Frame) (h : Hint) (t : Tree) → NamesMean (meant s) (holding s h t)
  holding_means s h (node k i j ps) = by (is_list k) (is_declared_name k) (holdings_mean s k h ps [] ps tt)
    where
      by : (a b : Bool) → PartsMean (meant s) (holdings s k h ps [] ps)
          → NamesMean (meant s) (if a then list_node s k i j (layout s k i (holdings s k h ps [] ps)) else (if b then name_node s i j else typing (scope_of s) h (node k i j ps)))
      by true b g = (tt, row_means (meant s) (layout s k i (holdings s k h ps [] ps)) (layout_means s k i (holdings s k h ps [] ps) g))
      by false true g = name_node_means s i j
      by false false g = typing_means (scope_of s) h (node k i j ps)

  holdings_mean : (s : Frame) (k : Kind) (h : Hint) (all : Trees) (xs : Parts) (ps : Trees) → PartsMean (meant s) xs → PartsMean (meant s) (holdings s k h all xs ps)
  holdings_mean s k h all xs syntax.none g = g
  holdings_mean s k h all xs (syntax.more p ps) g =
      let q : Part = holding s (told k h all xs (kind_of p)) p in holdings_mean s k h all (xs ++ Some q ∷ []) ps (append_one (meant s) xs q g (holding_means s (told k h all xs (kind_of p)) p))
  holdings_mean s k h all xs (syntax.skip ps) g = holdings_mean s k h all (xs ++ None ∷ []) ps (append_means (meant s) xs (None ∷ []) g tt)

-- ---- a node

loop_plain : (x : Option Part) → is_local (loop_form x) ≡ false
loop_plain (Some (typed (form.Held kind.Range) i j l ps)) = refl
loop_plain (Some (typed (form.Held kind.AssigningRange) i j l ps)) = refl
loop_plain (Some (typed (form.Held kind.DefiningRange) i j l ps)) = refl
loop_plain x = refl

first_plain : (xs : Parts) → is_local (first_loop_form xs) ≡ false
first_plain [] = refl
first_plain (x ∷ xs) = loop_plain x

form_plain : (k : Kind) (xs : Parts) → is_local (form_by k xs) ≡ false
form_plain kind.For xs = first_plain xs
form_plain (kind.Declaration declaring.Variable) xs = refl
form_plain (kind.Declaration declaring.Constant) xs = refl
form_plain (kind.Declaration declaring.Type) xs = refl
form_plain (kind.Specification declaring.Variable) xs = refl
form_plain (kind.Specification declaring.Constant) xs = refl
form_plain (kind.Specification declaring.Type) xs = refl
form_plain k xs = refl

part_means : (o : Tokens) (k : Taking) (x : Part) → NamesMean o x → NamesMean o (given_part k x)
part_means o (takes k) x h = given_means o k x h
part_means o (stands y) (typed f i j l ps) h = h

all_take : (o : Tokens) (ks : List Taking) (xs : Parts) → PartsMean o xs → PartsMean o (all_given ks xs)
all_take o [] xs h = h
all_take o (k ∷ ks) [] h = tt
all_take o (k ∷ ks) (None ∷ xs) h = all_take o ks xs h
all_take o (k ∷ ks) (Some x ∷ xs) h = (part_means o k x h.0, all_take o ks xs h.1)

built_means : (o : Tokens) (s : Frame) (k : Kind) (f : Form) (i j : ℕ) (ys : Parts) (es : List TypeFault) → is_local f ≡ false → PartsMean o ys → NamesMean o (built_by s k f i j ys es)
built_means o s k f i j ys [] e h = (other_means o f i e, row_means o (all_given (taking s k f ys) ys) (all_take o (taking s k f ys) ys h))
built_means o s k f i j ys (x ∷ es) e h = (other_means o f i e, row_means o ys h)

-- ---- frames

local_meant : (n : Option ℕ) (s : Frame) → meant (with_type n s) ≡ meant s
local_meant None s = refl
local_meant (Some n) s = refl

right_meant : (n : Option ℕ) (t : Option TypeTree) (s : Frame) → meant (with_own_right n t s) ≡ meant s
right_meant None t s = refl
right_meant (Some n) t s = refl

beginning_meant : (k : Kind) (i : ℕ) (s : Frame) → meant (beginning k i s) ≡ meant s
beginning_meant (kind.Specification declaring.Type) i s = local_meant (local_named (s.around.objects i)) s
beginning_meant (kind.Specification declaring.Constant) i s = refl
beginning_meant (kind.Specification declaring.Variable) i s = refl
beginning_meant k i s = refl

parameter_meant : (n : Option ℕ) (t : Option TypeTree) (s : Frame) → meant (with_parameter n t s) ≡ meant s
parameter_meant (Some n) (Some t) s = refl
parameter_meant (Some n) None s = refl
parameter_meant None t s = refl

parameters_meant : (ns : List (Option ℕ)) (ts : List (Option TypeTree)) (s : Frame) → meant (with_parameters ns ts s) ≡ meant s
parameters_meant [] ts s = refl
parameters_meant (n ∷ ns) [] s = refl
parameters_meant (n ∷ ns) (t ∷ ts) s = parameters_meant ns ts (with_parameter n t s) ∙ parameter_meant n t s

constants_meant : (xs : Parts) (s : Frame) → meant (entering (kind.Declaration declaring.Constant) xs s) ≡ meant s
constants_meant [] s = refl
constants_meant (x ∷ xs) s = refl

entering_meant : (k : Kind) (xs : Parts) (s : Frame) → meant (entering k xs s) ≡ meant s
entering_meant (kind.Declaration declaring.Constant) xs s = constants_meant xs s
entering_meant (kind.Declaration declaring.Variable) xs s = refl
entering_meant (kind.Declaration declaring.Type) xs s = refl
entering_meant (kind.Group declaring.Constant) xs s = constants_meant xs s
entering_meant (kind.Group declaring.Variable) xs s = refl
entering_meant (kind.Group declaring.Type) xs s = refl
entering_meant kind.Switch [] s = refl
entering_meant kind.Switch (x ∷ []) s = refl
entering_meant kind.Switch (x ∷ y ∷ xs) s = refl
entering_meant kind.FunctionDeclaration [] s = refl
entering_meant kind.FunctionDeclaration (g ∷ []) s =
    parameters_meant (entry_names (first_parts g)) (entry_types (first_parts g)) (record s { results = signature_results s (part_type g) })
entering_meant kind.FunctionDeclaration (x ∷ y ∷ xs) s = refl
entering_meant k xs s = refl

sort_meant : (n : Option ℕ) (x : Stands) (s : Frame) → meant (declares_sort n x s) ≡ meant s
sort_meant None x s = refl
sort_meant (Some n) trees.Nothing s = refl
sort_meant (Some n) x s = refl

name_meant : (x : Option Part) (s : Frame) → meant (declares_name x s) ≡ meant s
name_meant None s = refl
name_meant (Some x) s = sort_meant (is_new (form_of x)) (sort_of x) s

all_meant : (xs : Parts) (s : Frame) → meant (declares_all xs s) ≡ meant s
all_meant [] s = refl
all_meant (x ∷ xs) s = all_meant xs (declares_name x s) ∙ name_meant x s

leaving_meant : (k : Kind) (i : ℕ) (ps : Trees) (x : Part) (s : Frame) → meant (leaving k i ps x s) ≡ meant s
leaving_meant (kind.Specification declaring.Type) i ps x s = right_meant (type_number s i) (right_side (list_of (parts_of x))) s
leaving_meant (kind.Specification declaring.Variable) i ps x s = all_meant (list_of (parts_of x)) s
leaving_meant (kind.Specification declaring.Constant) i ps x s = all_meant (list_of (parts_of x)) (record s { source = part_source ps s.source })
leaving_meant kind.Define i ps x s = all_meant (list_of (parts_of x)) s
leaving_meant kind.DefiningRange i ps x s = all_meant (list_of (parts_of x)) s
leaving_meant k i ps x s = refl

-- ---- trees

abbrev pub frame_all : Readings → Frame
frame_all (all_read xs fs s) = s

-- what a reading tells where tokens mean this
pub record Tells (o : Tokens) (r : Reading) : Type 0 where
  pub names : NamesMean o (tree_in r)
  pub tokens : meant (frame_in r) ≡ o

pub record TellAll (o : Tokens) (r : Readings) : Type 0 where
  pub names : PartsMean o (parts_in r)
  pub tokens : meant (frame_all r) ≡ o

closed_means : (o : Tokens) (before : Frame) (k : Kind) (i j : ℕ) (ps : Trees) (r : Readings) → TellAll o r → Tells o (closed before k i j ps r)
closed_means o before k i j ps (all_read xs fs s) g =
    let ys : Parts = layout s k i xs in
    let es : List TypeFault = own_faults s k (form_by k xs) i j ys in
    let m : PartsMean (meant s) ys = layout_means s k i xs (subst (λ p. PartsMean p xs) (sym g.tokens) g.names) in
    record {
      names = built_means o s k (form_by k xs) i j ys es (form_plain k xs) (subst (λ p. PartsMean p ys) g.tokens m);
      tokens = leaving_meant k i ps (built_by s k (form_by k xs) i j ys es) (back before s) ∙ g.tokens;
    }

left_out_means : (s : Frame) (k : Kind) (xs : Parts) → PartsMean (meant s) xs → PartsMean (meant s) (xs ++ left_out s k ∷ [])
left_out_means s (kind.Specification declaring.Constant) xs g = by s.source
  where
    by : (t : Option Tree) → PartsMean (meant s) (xs ++ repeated s t ∷ [])
    by None = append_means (meant s) xs (None ∷ []) g tt
    by (Some t) = append_one (meant s) xs (holding s value t) g (holding_means s value t)
left_out_means s (kind.Specification declaring.Variable) xs g = append_means (meant s) xs (None ∷ []) g tt
left_out_means s (kind.Specification declaring.Type) xs g = append_means (meant s) xs (None ∷ []) g tt
left_out_means s k xs g = append_means (meant s) xs (None ∷ []) g tt

mutual
  pub reading_means : (o : Tokens) (s : Frame) (h : Hint) (t : Tree) → meant s ≡ o → Tells o (reading s h t)
  reading_means o s h (node k i j ps) e = by (is_statement k) (readings_mean o (beginning k i s) k h ps [] [] ps (beginning_meant k i s ∙ e) tt)
    where
      by : (b : Bool) → TellAll o (readings (beginning k i s) k h ps [] [] ps)
          → Tells o (if b then closed s k i j ps (readings (beginning k i s) k h ps [] [] ps) else read (holding s h (node k i j ps)) (held_faults s h (node k i j ps)) s)
      by true g = closed_means o s k i j ps (readings (beginning k i s) k h ps [] [] ps) g
      by false g = record { names = subst (λ p. NamesMean p (holding s h (node k i j ps))) e (holding_means s h (node k i j ps)); tokens = e }

  pub readings_mean : (o : Tokens) (s : Frame) (k : Kind) (h : Hint) (all : Trees) (xs : Parts) (fs : Found) (ps : Trees) → meant s ≡ o → PartsMean o xs → TellAll o (readings s k h all xs fs ps)
  readings_mean o s k h all xs fs syntax.none e g = record { names = g; tokens = e }
  readings_mean o s k h all xs fs (syntax.more p ps) e g =
      let r : Reading = reading (entering k xs s) (told k h all xs (kind_of p)) p in
      let m : Tells o r = reading_means o (entering k xs s) (told k h all xs (kind_of p)) p (entering_meant k xs s ∙ e) in
      subst (TellAll o) (sym (after_read r (λ x gs t. readings t k h all (xs ++ Some x ∷ []) (fs ++ gs) ps)))
      (readings_mean o (frame_in r) k h all (xs ++ Some (tree_in r) ∷ []) (fs ++ faults_in r) ps m.tokens (append_one o xs (tree_in r) g m.names))
  readings_mean o s k h all xs fs (syntax.skip ps) e g =
      let t : Frame = entering k xs s in
      let d : meant t ≡ o = entering_meant k xs s ∙ e in
      readings_mean o t k h all (xs ++ left_out t k ∷ []) (fs ++ left_out_faults t k) ps d
      (subst (λ p. PartsMean p (xs ++ left_out t k ∷ [])) d (left_out_means t k xs (subst (λ p. PartsMean p xs) (sym d) g)))
