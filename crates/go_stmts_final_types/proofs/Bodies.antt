-- Functions whose names are known, and that have no faults, are known.
use Rattle.std.proofs.Common.{◌≡◌, ℕ, zero, suc, ◌-◌, ◌==◌, Bool, true, false, cond, [], ◌∷◌, ◌++◌, List, length, map, take, drop, replicate, Option, Some, None, Ok, refl, sym, ap, subst, ◌∙◌, append_assoc, append-nil, IsTrue}
use Rattle.std.specs.Prelude.{◌&&◌, is_some}
use Rattle.go_base.specs.declared.fault.FaultCode.TheVariants as code
use Rattle.go_grammar.specs.declared.kind.Category.{Category}
use Rattle.go_grammar.specs.declared.kind.Category.TheVariants as category
use Rattle.go_grammar.specs.declared.kind.Kind.{Kind}
use Rattle.go_grammar.specs.declared.kind.Kind.TheVariants as kind
use Rattle.go_grammar.specs.declared.kind.Operator.TheVariants as operator
use Rattle.go_grammar.specs.declared.kind.Place.{Place}
use Rattle.go_grammar.specs.declared.kind.Sort.TheVariants as declaring
use Rattle.go_grammar.specs.Categories.{within, place_of}
use Rattle.go_grammar.specs.Grammar.{rule}
use Rattle.go_grammar.specs.Rules.{Rule, End, Then, Maybe, Unless, Many, Items, Lines, item}
use Rattle.go_grammar.specs.Trees.{Tree, node, Trees, none, more, skip, kind_of}
use Rattle.go_tokens.specs.declared.token.TokenKind.{TokenKind}
use Rattle.go_tokens.specs.declared.token.TokenKind.TheVariants as token
use Rattle.go_types.specs.Trees.{TypeTree}
use Rattle.go_types.specs.Relations.{Rights}
use Rattle.go_typed.specs.declared.form.Form.{Form}
use Rattle.go_typed.specs.declared.form.Form.TheVariants as form
use Rattle.go_typed.specs.Contents.{FuncContent}
use Rattle.go_typed.specs.Trees.{typed, sort_of, form_of, parts_of, list_of, row}
use Rattle.go_exprs_rules.specs.declared.family.OpenKind.{OpenKind}
use Rattle.go_exprs_rules.specs.declared.fault.TypeFault.{TypeFault}
use Rattle.go_exprs_rules.specs.Faults.{reported, fault_at}
use Rattle.go_exprs_rules.specs.Operators.{operation_takes}
use Rattle.go_exprs_rules.specs.Scopes.{Scope, Hint, value, several, free}
use Rattle.go_exprs_rules.specs.Settling.{Part, Take, stay, default, as_type, defaulted, settled, all_settled}
use Rattle.go_exprs_rules.specs.Sorts.{open_kind, default_type, takes_type, retyped, own_type}
use Rattle.go_exprs_rules.specs.Tables.{Parts, present, held, all_held, first_cut, on_two}
use Rattle.go_exprs_rules.specs.TypeNodes.{part_type}
use Rattle.go_stmts_defs.specs.Assigning.{Wanted, Taking, takes, stands, rests, assignment_failing, type_or_default, values_take, declared_names, constants_take, constants_failing, at_nil}
use Rattle.go_stmts_defs.specs.Bodies.{start, body_answer}
use Rattle.go_stmts_defs.specs.Frames.{Frame, rights_of}
use Rattle.go_stmts_defs.specs.Laying.{told, layout, form_by, held_count, behind_names, typed_or_not, specifications, specified_names, all_names, is_group, loop_form, first_loop_form}
use Rattle.go_stmts_defs.specs.Reading.{Found, Readings, all_read, reading, readings, holding, held_faults, entering, beginning, left_out, left_out_faults, repeated, repeated_faults, closed, is_statement}
use Rattle.go_stmts_defs.specs.Rules.{names_in, each, known_type, define_failing, define_takes, type_there, values_there, variables_failing, failing, judges, own_faults, taking, split_at, rest, variables_take, specified_constants, type_or_rest, type_stands, elements_stand, last_part, range_types, range_stands, operand_takes, is_first_number, target_there, loop_takes, target_type, given_part, all_given, built_by}
use Rattle.go_stmts_final_types.specs.Known.{is_object, is_package_variable, AreOwn, DeclaresOwn, IsKnown}
use Rattle.go_stmts_final_types.specs.Names.{IsOneOf, HeldIsKnown, SourceIsKnown, LeftOutIsKnown, OperandIsKnown, RangeIsKnown, NamesAreKnown, AllNamesAreKnown}
use Rattle.go_stmts_final_types.specs.Shapes.{IsShaped, AreShaped}
use Rattle.go_stmts_final_types.proofs.Categories.{IsNewName, plain_held}
use Rattle.go_stmts_final_types.proofs.Declared.{AllStand, NoneStand, Own, AreGiven, none_well, names_well, some_well, types_stand, values_none, rest_none, declared_stand, declared_length, typed_stand, constants_stand, constants_length}
use Rattle.go_stmts_final_types.proofs.Expressions.{is_constants, no_constants, nothing_typed}
use Rattle.go_stmts_final_types.proofs.Functions.{answered}
use Rattle.go_stmts_final_types.proofs.Given.{labelled}
use Rattle.go_stmts_final_types.proofs.Headers as headers
use Rattle.go_stmts_final_types.proofs.Holders.{HeldOf, held_are, list_row}
use Rattle.go_stmts_final_types.proofs.Induction as induction
use Rattle.go_stmts_final_types.proofs.Known.{AllKnown, StandsWell, known_row, known_judged, stands_known}
use Rattle.go_stmts_final_types.proofs.Layouts.{statement_layout, in_front}
use Rattle.go_stmts_final_types.proofs.Lists.{AllOwn, GivenList, RestIs, own_each, own_both, holding_known, values_given, names_own, new_names_own, rest_given}
use Rattle.go_stmts_final_types.proofs.Parts.{but_last}
use Rattle.go_stmts_final_types.proofs.Reading.{tree_in, found_in, frame_in, parts_in, found_all, frame_all, reported_front, reported_back, one_none, row_front, repeats, MaybeRead, RowRead, Row, Sound, node_of, held_length}
use Rattle.go_stmts_final_types.proofs.RowRules.{front, behind_front, shaped_front, shaped_behind, shaped_skip}
use Rattle.go_stmts_final_types.proofs.Rows.{somes, present_somes}
use Rattle.go_stmts_final_types.proofs.Sources.{SourceShaped, beginning_source, entering_source, reading_source}
use Rattle.go_stmts_final_types.proofs.Statements.{Each, split_both, length_mapped}
use Rattle.go_stmts_final_types.proofs.Taken.{Valued, IsBare}
use Rattle.go_stmts_final_types.proofs.Tests.{second_none}

-- ---- what is known of parts that are read, by their categories

-- a specification of constants declares names of the function
pub record Specifies (x : Part) : Type 0 where
  pub own : AllOwn (specified_names (Some x))
  pub single : is_group (form_of x) ≡ false

abbrev pub ReadKnown : Category → Kind → Hint → Part → Type 0
ReadKnown (category.ExpressionList p) n g x = g ≡ several → GivenList x
ReadKnown (category.NewNames p) n g x = AllOwn (held (Some x))
ReadKnown category.NameList n g x = AllOwn (held (Some x))
ReadKnown category.VariableRest n g x = g ≡ behind_names n several → RestIs x
ReadKnown (category.Specification declaring.Constant) n g x = Specifies x
ReadKnown (category.DeclarationBody declaring.Constant) n g x = AllOwn (all_names (specifications (Some x ∷ [])))
ReadKnown c n g x = Unit {0}

abbrev KindKnown : Kind → Part → Type 0
KindKnown (kind.Specification declaring.Constant) x = Specifies x
KindKnown (kind.Group declaring.Constant) x = AllOwn (all_names (specifications (Some x ∷ [])))
KindKnown k x = Unit {0}

abbrev is_maybe : Rule → Bool
is_maybe (Maybe ws c r) = true
is_maybe (Unless ws c us r) = true
is_maybe r = false

-- a specification of constants repeats what is left out
abbrev pub RowKnown : Kind → Hint → Trees → Parts → Rule → Parts → Type 0
RowKnown k h all pre w [] = Unit {0}
RowKnown k h all pre w (None ∷ ys) = RowKnown k h all (pre ++ None ∷ []) (behind_front w) ys
RowKnown k h all pre w (Some x ∷ ys) = MaybeRead (repeats k && is_maybe w) ((n : Kind) × ReadKnown (front w) n (told k h all pre n) x) × RowKnown k h all (pre ++ Some x ∷ []) (behind_front w) ys

-- ---- what parts of statements take

maps_none : (ks : List Take) → NoneStand (map takes ks)
maps_none [] = tt
maps_none (k ∷ ks) = maps_none ks

rest_stays : (n : ℕ) (ks : List Taking) → NoneStand ks → NoneStand (rest n ++ ks)
rest_stays zero ks h = h
rest_stays (suc n) ks h = rest_stays n ks h

default_none : (n : ℕ) (o : Option TypeTree) → NoneStand (replicate n (type_or_default o))
default_none zero o = tt
default_none (suc n) (Some t) = default_none n (Some t)
default_none (suc n) None = default_none n None

types_none : (ts : List TypeTree) → NoneStand (map (λ t. takes (as_type t)) ts)
types_none [] = tt
types_none (t ∷ ts) = types_none ts

returned_none : (b : Bool) (ts : List TypeTree) → NoneStand (cond b (map (λ t. takes (as_type t)) ts) [])
returned_none true ts = types_none ts
returned_none false ts = tt

two_none : (rights : Rights) (ys : Parts) (g : Part → Part → List Take) → NoneStand (on_two [] (λ x y. map takes (g x y)) ys)
two_none rights [] g = tt
two_none rights (None ∷ ys) g = tt
two_none rights (Some x ∷ []) g = tt
two_none rights (Some x ∷ None ∷ ys) g = tt
two_none rights (Some x ∷ Some y ∷ []) g = maps_none (g x y)
two_none rights (Some x ∷ Some y ∷ z ∷ zs) g = tt

or_default_none : (o : Option TypeTree) → NoneStand (type_or_default o ∷ [])
or_default_none (Some t) = tt
or_default_none None = tt

operand_none : (n : ℕ) (ys : Parts) → NoneStand (operand_takes n ys ∷ [])
operand_none n ys = by (is_first_number (drop n ys))
  where
    by : (b : Bool) → NoneStand (cond b (type_or_default (target_there n ys)) (takes default) ∷ [])
    by true = or_default_none (target_there n ys)
    by false = tt

loop_none : (f : Form) (ys : Parts) → NoneStand (loop_takes f ys)
loop_none (form.Range d n) ys = rest_stays n (operand_takes n ys ∷ []) (operand_none n ys)
loop_none f ys = tt

-- kinds that declare no names
abbrev declares_none : Kind → Bool
declares_none kind.Define = false
declares_none kind.DefiningRange = false
declares_none (kind.Specification declaring.Variable) = false
declares_none (kind.Specification declaring.Constant) = false
declares_none k = true

none_taken : (s : Frame) (k : Kind) (f : Form) (ys : Parts) → declares_none k ≡ true → NoneStand (taking s k f ys)
none_taken s (kind.OperatorAssignment o) f ys e = two_none (rights_of s) ys (λ x y. operation_takes (rights_of s) (operator.Compute o) (sort_of x) (sort_of y))
none_taken s kind.Assignment f ys e = let ts = take (names_in f) (present ys) in let vs = drop (names_in f) (present ys) in rest_stays (length ts) (values_take (map target_type ts) vs) (values_none (map target_type ts) vs)
none_taken s kind.Return f ys e = returned_none (length s.results == length (present ys)) s.results
none_taken s kind.If f ys e = tt
none_taken s kind.For f ys e = loop_none f ys
none_taken s kind.Switch f ys e = tt
none_taken s kind.Case f ys e = default_none (names_in f) (own_type s.tag)
none_taken s kind.Define f ys e = cc
none_taken s kind.DefiningRange f ys e = cc
none_taken s (kind.Specification declaring.Variable) f ys e = cc
none_taken s (kind.Specification declaring.Constant) f ys e = cc
none_taken s (kind.Specification declaring.Type) f ys e = tt
none_taken s k f ys e = tt

-- ---- names that are declared

define_well : (s : Frame) (i j : ℕ) (ns vs : List Part) (n : ℕ) → n ≡ length ns → (ys : Parts) → ys ≡ somes ns ++ somes vs → Each Own ns → AreGiven vs → failing s kind.Define (form.Define n) i j ys ≡ [] → StandsWell (taking s kind.Define (form.Define n) ys) ys
define_well s i j ns vs n c ys m o g e =
    let ts : Wanted = map (known_type s.locals) ns in
    let fails : define_failing s i j ns vs ≡ [] = sym (ap (λ z. split_at z (define_failing s i j) ys) c ∙ (ap (split_at (length ns) (define_failing s i j)) m ∙ split_both (define_failing s i j) ns vs)) ∙ e in
    let given_ = second_none (each at_nil vs) (assignment_failing (rights_of s) i j ts vs) fails in
    let all : AllStand (declared_names (rights_of s) ts vs) = declared_stand (rights_of s) i j ts vs g given_ in
    let count_ : length (declared_names (rights_of s) ts vs) ≡ length ns = declared_length (rights_of s) ts vs ∙ length_mapped (known_type s.locals) ns in
    let same : split_at n (define_takes s) ys ≡ define_takes s ns vs = ap (λ z. split_at z (define_takes s) ys) c ∙ (ap (split_at (length ns) (define_takes s)) m ∙ split_both (define_takes s) ns vs) in
    subst (λ ks. StandsWell ks ys) (sym same)
    (subst (StandsWell (define_takes s ns vs)) (sym m) (names_well (declared_names (rights_of s) ts vs) (values_take ts vs) ns (somes vs) all o count_ (none_well (values_take ts vs) (somes vs) (values_none ts vs))))

replicated : {A : Type 0} (n : ℕ) (x : A) → length (replicate n x) ≡ n
replicated zero x = refl
replicated (suc n) x = ap suc (replicated n x)

type_behind : (ns : List Part) (o : Option Part) (zs : Parts) → type_there (length ns) (somes ns ++ (o ∷ zs)) ≡ part_type o
type_behind [] o zs = refl
type_behind (n ∷ ns) o zs = type_behind ns o zs

variables_stand : (rights : Rights) (i j n : ℕ) (t : Option TypeTree) (vs : List Part) → (vs ≡ [] → is_some t ≡ true) → AreGiven vs → variables_failing rights i j n t vs ≡ [] → AllStand (declared_names rights (replicate n t) vs)
variables_stand rights i j n t [] h g e = typed_stand n t (h refl)
variables_stand rights i j n t (v ∷ vs) h g e = declared_stand rights i j (replicate n t) (v ∷ vs) g e

variables_well : (s : Frame) (i j : ℕ) (ns : List Part) (o : Option Part) (vs : List Part) (n : ℕ) → n ≡ length ns → (ys : Parts) → ys ≡ somes ns ++ (o ∷ somes vs) → Each Own ns → (vs ≡ [] → is_some (part_type o) ≡ true) → AreGiven vs
    → failing s (kind.Specification declaring.Variable) (form.Specified n) i j ys ≡ [] → StandsWell (taking s (kind.Specification declaring.Variable) (form.Specified n) ys) ys
variables_well s i j ns o vs n c ys m w t g e =
    let types_ : type_there n ys ≡ part_type o = ap (λ z. type_there z ys) c ∙ (ap (type_there (length ns)) m ∙ type_behind ns o (somes vs)) in
    let values_ : values_there n ys ≡ vs = ap (λ z. values_there z ys) c ∙ (ap present (ap (drop (suc (length ns))) m ∙ headers.behind_names ns o (somes vs)) ∙ present_somes vs) in
    let fails : variables_failing (rights_of s) i j n (part_type o) vs ≡ [] = sym (ap (λ z. variables_failing (rights_of s) i j n z (values_there n ys)) types_ ∙ ap (variables_failing (rights_of s) i j n (part_type o)) values_) ∙ e in
    let ts : Wanted = replicate n (part_type o) in
    let same : variables_take (rights_of s) n (type_there n ys) (values_there n ys) ≡ variables_take (rights_of s) n (part_type o) vs = ap (λ z. variables_take (rights_of s) n z (values_there n ys)) types_ ∙ ap (variables_take (rights_of s) n (part_type o)) values_ in
    subst (λ ks. StandsWell ks ys) (sym same)
    (subst (StandsWell (variables_take (rights_of s) n (part_type o) vs)) (sym m)
    (names_well (declared_names (rights_of s) ts vs) (rests ∷ values_take ts vs) ns (o ∷ somes vs) (variables_stand (rights_of s) i j n (part_type o) vs t g fails) w (declared_length (rights_of s) ts vs ∙ (replicated n (part_type o) ∙ c))
    (none_well (rests ∷ values_take ts vs) (o ∷ somes vs) (values_none ts vs))))

counted : (b : Bool) (i j : ℕ) (fs : List TypeFault) → cond b [] (fault_at code.Count i j) ++ fs ≡ [] → (b ≡ true) × (fs ≡ [])
counted true i j fs e = (refl, e)
counted false i j fs e = cc

constants_well : (s : Frame) (i j : ℕ) (ns : List Part) (zs : Parts) (n : ℕ) → n ≡ length ns → (ys : Parts) → ys ≡ somes ns ++ zs → Each Own ns → failing s (kind.Specification declaring.Constant) (form.Specified n) i j ys ≡ []
    → StandsWell (taking s (kind.Specification declaring.Constant) (form.Specified n) ys) ys
constants_well s i j ns zs n c ys m w e =
    let t = type_there n ys in
    let vs = values_there n ys in
    let h = counted (n == length vs) i j (constants_failing (rights_of s) t vs) e in
    subst (StandsWell (specified_constants n t vs)) (sym m)
    (names_well (constants_take t (replicate n t) vs) (rests ∷ map (λ x. type_or_rest t) vs) ns zs (constants_stand (rights_of s) t n vs h.0 h.1) w (constants_length t n vs ∙ c) (none_well (rests ∷ map (λ x. type_or_rest t) vs) zs (rest_none t vs)))

range_by : (rights : Rights) (ns : List Part) (zs : Parts) (o : Option Part) → Each Own ns → OperandIsKnown rights o → StandsWell (range_stands rights (length ns) o) (somes ns ++ zs)
range_by rights ns zs None w e = tt
range_by rights ns zs (Some x) w e = by (range_types rights x) e
  where
    by : (q : Option (List TypeTree)) → is_some q ≡ true → StandsWell (elements_stand (length ns) q) (somes ns ++ zs)
    by (Some rs) e = some_well (map type_stands rs) ns zs (types_stand rs) w
    by None e = cc

range_well : (s : Frame) (f : Form) (ns : List Part) (v : Part) (ys : Parts) → ys ≡ somes ns ++ (Some v ∷ []) → Each Own ns → OperandIsKnown (rights_of s) (last_part (present ys)) → StandsWell (taking s kind.DefiningRange f ys) ys
range_well s f ns v ys m w e =
    let n : length ys - 1 ≡ length ns = ap (λ z. length z - 1) m ∙ but_last ns v in
    subst (λ z. StandsWell (range_stands (rights_of s) z (last_part (present ys))) ys) (sym n)
    (subst (λ z. StandsWell (range_stands (rights_of s) (length ns) (last_part (present ys))) z) (sym m) (range_by (rights_of s) ns (Some v ∷ []) (last_part (present ys)) w e))

-- ---- forms, and what declares names

for_constants : (o : Option Part) → is_constants (loop_form o) ≡ false
for_constants (Some (typed (form.Held kind.Range) i j l ps)) = refl
for_constants (Some (typed (form.Held kind.AssigningRange) i j l ps)) = refl
for_constants (Some (typed (form.Held kind.DefiningRange) i j l ps)) = refl
for_constants (Some (typed (form.Held k) i j l ps)) = refl
for_constants (Some (typed f i j l ps)) = refl
for_constants None = refl

first_constants : (xs : Parts) → is_constants (first_loop_form xs) ≡ false
first_constants [] = refl
first_constants (x ∷ xs) = for_constants x

abbrev is_constant_declaration : Kind → Bool
is_constant_declaration (kind.Declaration declaring.Constant) = true
is_constant_declaration k = false

form_constants : (k : Kind) (xs : Parts) → is_constant_declaration k ≡ false → is_constants (form_by k xs) ≡ false
form_constants kind.For xs e = first_constants xs
form_constants (kind.Declaration declaring.Constant) xs e = cc
form_constants (kind.Declaration declaring.Variable) xs e = refl
form_constants (kind.Declaration declaring.Type) xs e = refl
form_constants (kind.Specification declaring.Variable) xs e = refl
form_constants (kind.Specification declaring.Constant) xs e = refl
form_constants k xs e = refl

own_parts : (xs : Parts) → AllOwn xs → AreOwn (row xs)
own_parts [] h = tt
own_parts (None ∷ xs) h = own_parts xs h
own_parts (Some (typed f i j l ps) ∷ xs) h = (h.0, own_parts xs h.1)

-- ---- what parts take changes no form

settled_form : (t : TypeTree) (x : Part) → form_of (settled t x) ≡ form_of x
settled_form t (typed f i j l ps) = by (takes_type l.sort)
  where
    by : (b : Bool) → form_of (cond b (typed f i j (labelled (retyped t l.sort) l.varies l.calls) (all_settled t ps)) (typed f i j l ps)) ≡ f
    by true = refl
    by false = refl

defaulted_form : (o : Option OpenKind) (x : Part) → form_of (defaulted o x) ≡ form_of x
defaulted_form (Some k) x = settled_form (default_type k) x
defaulted_form None x = refl

part_form : (k : Taking) (x : Part) → form_of (given_part k x) ≡ form_of x
part_form (takes stay) x = refl
part_form (takes default) x = defaulted_form (open_kind (sort_of x)) x
part_form (takes (as_type t)) x = settled_form t x
part_form (stands z) (typed f i j l ps) = refl

given_own : (ks : List Taking) (ns : List Part) (zs : Parts) → Each Own ns → AllOwn (take (length ns) (all_given ks (somes ns ++ zs)))
given_own [] [] zs h = tt
given_own (k ∷ ks) [] zs h = tt
given_own [] (n ∷ ns) zs h = (h.0, given_own [] ns zs h.1)
given_own (k ∷ ks) (n ∷ ns) zs h = (ap is_object (part_form k n) ∙ h.0, given_own ks ns zs h.1)

-- ---- one node

record Taken (s : Frame) (k : Kind) (i j : ℕ) (xs : Parts) : Type 0 where
  pub well : StandsWell (taking s k (form_by k xs) (layout s k i xs)) (layout s k i xs)
  pub declares : DeclaresOwn (form_by k xs) (row (all_given (taking s k (form_by k xs) (layout s k i xs)) (layout s k i xs)))
  pub kinds : KindKnown k (node_of s k i j xs)

judged_rule : (b : Bool) (fs : List TypeFault) → b ≡ true → cond b fs [] ≡ [] → fs ≡ []
judged_rule true fs m e = e
judged_rule false fs m e = cc

judges_known : (k : Kind) (ys : Parts) → AllKnown ys → judges k ys ≡ true
judges_known kind.For ys h = refl
judges_known k ys h = known_judged ys h

module _ (s : Frame) (h : Hint) (all : Trees) (p : Place) (i j : ℕ) where
  passes : (k : Kind) (xs : Parts) → AllKnown xs → Sound s k i j xs → failing s k (form_by k xs) i j (layout s k i xs) ≡ []
  passes k xs a e = judged_rule (judges k (layout s k i xs)) (failing s k (form_by k xs) i j (layout s k i xs)) (judges_known k (layout s k i xs) (statement_layout s k i xs a)) e

  -- a node that declares no names
  plain_taken : (k : Kind) (xs : Parts) → declares_none k ≡ true → is_constant_declaration k ≡ false → KindKnown k (node_of s k i j xs) → Taken s k i j xs
  plain_taken k xs d c g = record {
    well = none_well (taking s k (form_by k xs) (layout s k i xs)) (layout s k i xs) (none_taken s k (form_by k xs) (layout s k i xs) d);
    declares = no_constants (form_by k xs) (form_constants k xs c) (row (all_given (taking s k (form_by k xs) (layout s k i xs)) (layout s k i xs)));
    kinds = g;
  }

  define_taken : (xs : Parts) → Row s h all p i j kind.Define xs → RowKnown kind.Define h all [] (rule p kind.Define) xs → AllKnown xs → Sound s kind.Define i j xs → Taken s kind.Define i j xs
  define_taken [] r q a e = elim r [ ]
  define_taken (None ∷ xs) r q a e = elim r [ ]
  define_taken (Some t ∷ []) r q a e = elim r.1 [ ]
  define_taken (Some t ∷ None ∷ xs) r q a e = elim r.1 [ ]
  define_taken (Some t ∷ Some l ∷ z ∷ zs) r q a e = elim r.1.1 [ ]
  define_taken (Some t ∷ Some l ∷ []) r q a e =
      let ht = r.0.1 in
      let hl = q.1.0.1 refl in
      let names_ = held_are IsBare t ht in
      let m : layout s kind.Define i (Some t ∷ Some l ∷ []) ≡ somes ht.all ++ somes (hl.first ∷ hl.others) = ap (λ zs. zs ++ (held (Some l) ++ [])) names_ ∙ ap (λ zs. somes ht.all ++ zs) (append-nil (held (Some l)) ∙ hl.are) in
      record {
        well = define_well s i j ht.all (hl.first ∷ hl.others) (held_count (Some t)) (held_length IsBare t ht) (layout s kind.Define i (Some t ∷ Some l ∷ [])) m (own_each ht.all (subst AllOwn names_ q.0.1)) hl.given (passes kind.Define (Some t ∷ Some l ∷ []) a e);
        declares = tt;
        kinds = tt;
      }

  variables_taken : (xs : Parts) → Row s h all p i j (kind.Specification declaring.Variable) xs → RowKnown (kind.Specification declaring.Variable) h all [] (rule p (kind.Specification declaring.Variable)) xs → AllKnown xs
      → Sound s (kind.Specification declaring.Variable) i j xs → Taken s (kind.Specification declaring.Variable) i j xs
  variables_taken [] r q a e = elim r [ ]
  variables_taken (None ∷ xs) r q a e = elim r [ ]
  variables_taken (Some t ∷ []) r q a e = elim r.1 [ ]
  variables_taken (Some t ∷ None ∷ xs) r q a e = elim r.1 [ ]
  variables_taken (Some t ∷ Some l ∷ z ∷ zs) r q a e = elim r.1.1 [ ]
  variables_taken (Some t ∷ Some l ∷ []) r q a e =
      let ht = r.0.1 in
      let hl = q.1.0.1 refl in
      let names_ = held_are IsNewName t ht in
      let m : layout s (kind.Specification declaring.Variable) i (Some t ∷ Some l ∷ []) ≡ somes ht.all ++ (hl.type ∷ somes hl.values) = ap (λ zs. zs ++ first_cut (typed_or_not (Some l))) names_ ∙ ap (λ zs. somes ht.all ++ zs) hl.are in
      record {
        well = variables_well s i j ht.all hl.type hl.values (held_count (Some t)) (held_length IsNewName t ht) (layout s (kind.Specification declaring.Variable) i (Some t ∷ Some l ∷ [])) m (own_each ht.all (subst AllOwn names_ q.0.1)) hl.typed hl.given
            (passes (kind.Specification declaring.Variable) (Some t ∷ Some l ∷ []) a e);
        declares = tt;
        kinds = tt;
      }

  specified_own : (n : ℕ) (ns : List Part) (zs : Parts) → n ≡ length ns → (ys : Parts) → ys ≡ somes ns ++ zs → Each Own ns → (own : List TypeFault) → own ≡ [] → Specifies (built_by s (kind.Specification declaring.Constant) (form.Specified n) i j ys own)
  specified_own n ns zs c ys m o [] e =
      let ks = taking s (kind.Specification declaring.Constant) (form.Specified n) ys in
      record {
        own = subst (λ xs. AllOwn (take n xs)) (sym (list_row (all_given ks ys))) (subst (λ z. AllOwn (take z (all_given ks ys))) (sym c) (subst (λ xs. AllOwn (take (length ns) (all_given ks xs))) (sym m) (given_own ks ns zs o)));
        single = refl;
      }
  specified_own n ns zs c ys m o (f ∷ fs) e = cc

  constants_by : (t : Part) (o : Option Part) → HeldOf IsNewName t → AllOwn (held (Some t)) → AllKnown (Some t ∷ o ∷ []) → Sound s (kind.Specification declaring.Constant) i j (Some t ∷ o ∷ []) → Taken s (kind.Specification declaring.Constant) i j (Some t ∷ o ∷ [])
  constants_by t o ht w a e =
      let xs = Some t ∷ o ∷ [] in
      let zs = first_cut (typed_or_not o) in
      let names_ = held_are IsNewName t ht in
      let ys = layout s (kind.Specification declaring.Constant) i xs in
      let m : ys ≡ somes ht.all ++ zs = ap (λ us. us ++ zs) names_ in
      let own_ = own_each ht.all (subst AllOwn names_ w) in
      record {
        well = constants_well s i j ht.all zs (held_count (Some t)) (held_length IsNewName t ht) ys m own_ (passes (kind.Specification declaring.Constant) xs a e);
        declares = tt;
        kinds = specified_own (held_count (Some t)) ht.all zs (held_length IsNewName t ht) ys m own_ (own_faults s (kind.Specification declaring.Constant) (form_by (kind.Specification declaring.Constant) xs) i j ys) e;
      }

  constants_taken : (xs : Parts) → Row s h all p i j (kind.Specification declaring.Constant) xs → RowKnown (kind.Specification declaring.Constant) h all [] (rule p (kind.Specification declaring.Constant)) xs → AllKnown xs
      → Sound s (kind.Specification declaring.Constant) i j xs → Taken s (kind.Specification declaring.Constant) i j xs
  constants_taken [] r q a e = elim r [ ]
  constants_taken (None ∷ xs) r q a e = elim r [ ]
  constants_taken (Some t ∷ []) r q a e = elim r.1 [ ]
  constants_taken (Some t ∷ None ∷ z ∷ zs) r q a e = elim r.1 [ ]
  constants_taken (Some t ∷ Some l ∷ z ∷ zs) r q a e = elim r.1.1 [ ]
  constants_taken (Some t ∷ None ∷ []) r q a e = constants_by t None r.0.1 q.0.1 a e
  constants_taken (Some t ∷ Some l ∷ []) r q a e = constants_by t (Some l) r.0.1 q.0.1 a e

  range_taken : (xs : Parts) → Row s h all p i j kind.DefiningRange xs → RowKnown kind.DefiningRange h all [] (rule p kind.DefiningRange) xs → AllKnown xs → OperandIsKnown (rights_of s) (last_part (present (all_held xs))) → Taken s kind.DefiningRange i j xs
  range_taken [] r q a o = elim r [ ]
  range_taken (None ∷ xs) r q a o = elim r [ ]
  range_taken (Some t ∷ []) r q a o = elim r.1 [ ]
  range_taken (Some t ∷ None ∷ xs) r q a o = elim r.1 [ ]
  range_taken (Some t ∷ Some l ∷ z ∷ zs) r q a o = elim r.1.1 [ ]
  range_taken (Some t ∷ Some l ∷ []) r q a o =
      let ht = r.0.1 in
      let names_ = held_are IsBare t ht in
      let v : Valued l = r.1.0.1 refl in
      let m : all_held (Some t ∷ Some l ∷ []) ≡ somes ht.all ++ (Some l ∷ []) = ap (λ zs. zs ++ (held (Some l) ++ [])) names_ ∙ ap (λ zs. somes ht.all ++ zs) (append-nil (held (Some l)) ∙ plain_held l v.sound.plain) in
      record { well = range_well s (form_by kind.DefiningRange (Some t ∷ Some l ∷ [])) ht.all l (all_held (Some t ∷ Some l ∷ [])) m (own_each ht.all (subst AllOwn names_ q.0.1)) o; declares = tt; kinds = tt }

  declaration_taken : (xs : Parts) → Row s h all p i j (kind.Declaration declaring.Constant) xs → RowKnown (kind.Declaration declaring.Constant) h all [] (rule p (kind.Declaration declaring.Constant)) xs → Taken s (kind.Declaration declaring.Constant) i j xs
  declaration_taken [] r q = elim r [ ]
  declaration_taken (None ∷ xs) r q = elim r [ ]
  declaration_taken (Some x ∷ y ∷ ys) r q = elim r.1 [ ]
  declaration_taken (Some x ∷ []) r q = record { well = tt; declares = own_parts (all_names (specifications (Some x ∷ []))) q.0.1; kinds = tt }

  group_own : (ws : List TokenKind) (l : Items) → item l ≡ category.Specification declaring.Constant → (pre xs : Parts) → RowKnown (kind.Group declaring.Constant) h all pre (Many ws l) xs → AllOwn (all_names xs)
  group_own ws l m pre [] q = tt
  group_own ws l m pre (None ∷ xs) q = group_own ws l m (pre ++ None ∷ []) xs q
  group_own ws l m pre (Some x ∷ xs) q =
      let own_ : Specifies x = subst (λ c. ReadKnown c q.0.0 (told (kind.Group declaring.Constant) h all pre q.0.0) x) m q.0.1 in own_both (specified_names (Some x)) (all_names xs) own_.own (group_own ws l m (pre ++ Some x ∷ []) xs q.1)

  group_kind : (xs : Parts) → AllOwn (all_names xs) → (own : List TypeFault) → own ≡ [] → AllOwn (all_names (specifications (Some (built_by s (kind.Group declaring.Constant) (form.Held (kind.Group declaring.Constant)) i j xs own) ∷ [])))
  group_kind xs h [] e = subst (λ zs. AllOwn (all_names zs)) (sym (list_row xs)) h
  group_kind xs h (f ∷ fs) e = cc

  group_taken : (xs : Parts) → RowKnown (kind.Group declaring.Constant) h all [] (rule p (kind.Group declaring.Constant)) xs → Sound s (kind.Group declaring.Constant) i j xs → Taken s (kind.Group declaring.Constant) i j xs
  group_taken xs q e = plain_taken (kind.Group declaring.Constant) xs refl refl
      (group_kind xs (group_own (token.LeftParenthesis ∷ []) (Lines false (category.Specification declaring.Constant) token.Semicolon token.RightParenthesis) refl [] xs q) (own_faults s (kind.Group declaring.Constant) (form.Held (kind.Group declaring.Constant)) i j xs) e)

  node_taken : (k : Kind) (xs : Parts) → Row s h all p i j k xs → RowKnown k h all [] (rule p k) xs → AllKnown xs → RangeIsKnown k s xs → Sound s k i j xs → Taken s k i j xs
  node_taken kind.Define xs r q a o e = define_taken xs r q a e
  node_taken kind.DefiningRange xs r q a o e = range_taken xs r q a o
  node_taken (kind.Specification declaring.Variable) xs r q a o e = variables_taken xs r q a e
  node_taken (kind.Specification declaring.Constant) xs r q a o e = constants_taken xs r q a e
  node_taken (kind.Specification declaring.Type) xs r q a o e = plain_taken (kind.Specification declaring.Type) xs refl refl tt
  node_taken (kind.Declaration declaring.Constant) xs r q a o e = declaration_taken xs r q
  node_taken (kind.Declaration declaring.Variable) xs r q a o e = plain_taken (kind.Declaration declaring.Variable) xs refl refl tt
  node_taken (kind.Declaration declaring.Type) xs r q a o e = plain_taken (kind.Declaration declaring.Type) xs refl refl tt
  node_taken (kind.Group declaring.Constant) xs r q a o e = group_taken xs q e
  node_taken (kind.Group declaring.Variable) xs r q a o e = plain_taken (kind.Group declaring.Variable) xs refl refl tt
  node_taken (kind.Group declaring.Type) xs r q a o e = plain_taken (kind.Group declaring.Type) xs refl refl tt
  node_taken k xs r q a o e = plain_taken k xs refl refl tt

  built_known : (k : Kind) (f : Form) (ys : Parts) (own : List TypeFault) → own ≡ [] → AllKnown ys → StandsWell (taking s k f ys) ys → DeclaresOwn f (row (all_given (taking s k f ys) ys)) → IsKnown (built_by s k f i j ys own)
  built_known k f ys [] e a w d = (refl, nothing_typed (is_package_variable f), d, known_row (all_given (taking s k f ys) ys) (stands_known (taking s k f ys) ys w a))
  built_known k f ys (x ∷ xs) e a w d = cc

  statement_known : (k : Kind) (xs : Parts) → AllKnown xs → Sound s k i j xs → Taken s k i j xs → IsKnown (node_of s k i j xs)
  statement_known k xs a e t = built_known k (form_by k xs) (layout s k i xs) (own_faults s k (form_by k xs) i j (layout s k i xs)) e (statement_layout s k i xs a) t.well t.declares

-- ---- by category

-- a part without statements
plain_known : (s : Frame) (h : Hint) (c : Category) (k : Kind) (i j : ℕ) (ps : Trees) → IsShaped c (node k i j ps) → is_statement k ≡ false → HeldIsKnown s h (node k i j ps) → reported (held_faults s h (node k i j ps)) ≡ None → ReadKnown c k h (holding s h (node k i j ps))
plain_known s h (category.ExpressionList p) k i j ps w m n e = λ q. subst (λ g. GivenList (holding s g (node k i j ps))) (sym q)
    (values_given s p (node k i j ps) w (subst (λ g. HeldIsKnown s g (node k i j ps)) q n) (subst (λ g. reported (held_faults s g (node k i j ps)) ≡ None) q e))
plain_known s h (category.NewNames p) k i j ps w m n e = new_names_own s h p (node k i j ps) w n
plain_known s h category.NameList k i j ps w m n e = names_own s h (node k i j ps) w n
plain_known s h category.VariableRest k i j ps w m n e = λ q. rest_given s h (node k i j ps) w n e q
plain_known s h (category.Specification declaring.Constant) (kind.Specification d) i j ps w m n e = cc
plain_known s h (category.Specification declaring.Constant) k i j ps w m n e = let f = w.0 in cc
plain_known s h (category.DeclarationBody declaring.Constant) (kind.Specification d) i j ps w m n e = cc
plain_known s h (category.DeclarationBody declaring.Constant) (kind.Group d) i j ps w m n e = cc
plain_known s h (category.DeclarationBody declaring.Constant) k i j ps w m n e = let f = w.0 in cc
plain_known s h c k i j ps w m n e = tt

list_kind : {X : Type 0} (p : Place) (k : Kind) → IsTrue (within (category.ExpressionList p) k) → is_statement k ≡ true → X
list_kind p kind.ExpressionList e m = cc
list_kind p k e m = cc

names_kind : {X : Type 0} (p : Place) (k : Kind) → IsTrue (within (category.NewNames p) k) → is_statement k ≡ true → X
names_kind p kind.NewNames e m = cc
names_kind p k e m = cc

name_list_kind : {X : Type 0} (k : Kind) → IsTrue (within category.NameList k) → is_statement k ≡ true → X
name_list_kind kind.NameList e m = cc
name_list_kind k e m = cc

rest_kind : {X : Type 0} (k : Kind) → IsTrue (within category.VariableRest k) → is_statement k ≡ true → X
rest_kind kind.Values e m = cc
rest_kind kind.TypedValues e m = cc
rest_kind kind.Name e m = cc
rest_kind kind.ParenthesizedType e m = cc
rest_kind kind.SequenceType e m = cc
rest_kind kind.FunctionType e m = cc
rest_kind kind.StructType e m = cc
rest_kind k e m = cc

specification_kind : (k : Kind) (x : Part) → IsTrue (within (category.Specification declaring.Constant) k) → KindKnown k x → Specifies x
specification_kind (kind.Specification declaring.Constant) x e h = h
specification_kind (kind.Specification declaring.Variable) x e h = cc
specification_kind (kind.Specification declaring.Type) x e h = cc
specification_kind k x e h = cc

one_own : (b : Bool) (x : Part) → b ≡ false → AllOwn (specified_names (Some x)) → AllOwn (all_names (cond b (list_of (parts_of x)) (Some x ∷ [])))
one_own true x e h = cc
one_own false x e h = own_both (specified_names (Some x)) [] h tt

declaration_kind : (k : Kind) (x : Part) → IsTrue (within (category.DeclarationBody declaring.Constant) k) → KindKnown k x → AllOwn (all_names (specifications (Some x ∷ [])))
declaration_kind (kind.Specification declaring.Constant) x e h = one_own (is_group (form_of x)) x h.single h.own
declaration_kind (kind.Group declaring.Constant) x e h = h
declaration_kind (kind.Specification declaring.Variable) x e h = cc
declaration_kind (kind.Specification declaring.Type) x e h = cc
declaration_kind (kind.Group declaring.Variable) x e h = cc
declaration_kind (kind.Group declaring.Type) x e h = cc
declaration_kind k x e h = cc

within_known : (c : Category) (k : Kind) (g : Hint) (x : Part) → is_statement k ≡ true → IsTrue (within c k) → KindKnown k x → ReadKnown c k g x
within_known (category.ExpressionList p) k g x m e h = list_kind p k e m
within_known (category.NewNames p) k g x m e h = names_kind p k e m
within_known category.NameList k g x m e h = name_list_kind k e m
within_known category.VariableRest k g x m e h = rest_kind k e m
within_known (category.Specification declaring.Constant) k g x m e h = specification_kind k x e h
within_known (category.DeclarationBody declaring.Constant) k g x m e h = declaration_kind k x e h
within_known c k g x m e h = tt

-- ---- what is left out

source_known : (t : Frame) (o : Option Tree) → SourceShaped o → SourceIsKnown t o → reported (repeated_faults t o) ≡ None → AllKnown (repeated t o ∷ [])
source_known t None w n e = tt
source_known t (Some r) w n e = (holding_known t value category.ConstantRest r w n e, tt)

left_known : (t : Frame) (k : Kind) → SourceShaped t.source → LeftOutIsKnown t k → reported (left_out_faults t k) ≡ None → AllKnown (left_out t k ∷ [])
left_known t (kind.Specification declaring.Constant) w n e = source_known t t.source w n e
left_known t k w n e = tt

skip_by : (o : Option Part) (h : Hint) (all : Trees) (pre : Parts) (w : Rule) (ys : Parts) → is_maybe w ≡ true → RowKnown (kind.Specification declaring.Constant) h all (pre ++ o ∷ []) (behind_front w) ys → RowKnown (kind.Specification declaring.Constant) h all pre w (o ∷ ys)
skip_by None h all pre w ys m g = g
skip_by (Some x) h all pre w ys m g = (subst (λ b. MaybeRead b ((n : Kind) × ReadKnown (front w) n (told (kind.Specification declaring.Constant) h all pre n) x)) (sym m) tt, g)

skip_known : (k : Kind) (t : Frame) (h : Hint) (all : Trees) (pre : Parts) (w : Rule) (ys : Parts) → is_maybe w ≡ true → RowKnown k h all (pre ++ left_out t k ∷ []) (behind_front w) ys → RowKnown k h all pre w (left_out t k ∷ ys)
skip_known (kind.Specification declaring.Constant) t h all pre w ys m g = skip_by (repeated t t.source) h all pre w ys m g
skip_known k t h all pre w ys m g = g

skipped : (w : Rule) (ps : Trees) → AreShaped w (skip ps) → is_maybe w ≡ true
skipped (Maybe ws c r) ps w = refl
skipped (Unless ws c us r) ps w = refl
skipped (Then ws c r) ps w = elim w [ ]
skipped (Many ws l) ps w = elim w [ ]
skipped (End ws) ps w = elim w [ ]

maybe_known : (b : Bool) (T : Type 0) → T → MaybeRead b T
maybe_known true T x = tt
maybe_known false T x = x

-- ---- the induction

closed_tree : (before : Frame) (k : Kind) (i j : ℕ) (ps : Trees) (r : Readings) → tree_in (closed before k i j ps r) ≡ node_of (frame_all r) k i j (parts_in r)
closed_tree before k i j ps (all_read xs fs s) = refl

closed_found : (before : Frame) (k : Kind) (i j : ℕ) (ps : Trees) (r : Readings)
    → found_in (closed before k i j ps r) ≡ found_all r ++ own_faults (frame_all r) k (form_by k (parts_in r)) i j (layout (frame_all r) k i (parts_in r)) ∷ []
closed_found before k i j ps (all_read xs fs s) = refl

-- what is known of the parts of a node
abbrev RowsKnown : Frame → Kind → Hint → Trees → Parts → Found → Trees → Rule → Type 0
RowsKnown s k h all xs fs ps w = (ys : Parts) × (parts_in (readings s k h all xs fs ps) ≡ xs ++ ys) × AllKnown ys × RowKnown k h all xs w ys

statement_by : (s : Frame) (h : Hint) (c : Category) (k : Kind) (i j : ℕ) (ps : Trees) → is_statement k ≡ true → IsShaped c (node k i j ps) → let r = readings (beginning k i s) k h ps [] [] ps in RangeIsKnown k (frame_all r) (parts_in r)
    → (reported (found_all r) ≡ None → RowsKnown (beginning k i s) k h ps [] [] ps (rule (place_of c) k)) → reported (found_in (closed s k i j ps r)) ≡ None → IsKnown (tree_in (closed s k i j ps r)) × ReadKnown c k h (tree_in (closed s k i j ps r))
statement_by s h c k i j ps m w o rows e =
    let r = readings (beginning k i s) k h ps [] [] ps in
    let t = frame_all r in
    let own = own_faults t k (form_by k (parts_in r)) i j (layout t k i (parts_in r)) in
    let f : reported (found_all r ++ own ∷ []) ≡ None = sym (ap reported (closed_found s k i j ps r)) ∙ e in
    let sound : own ≡ [] = one_none own (reported_back (found_all r) (own ∷ []) f) in
    let row_ = rows (reported_front (found_all r) (own ∷ []) f) in
    let same : row_.0 ≡ parts_in r = sym row_.1 in
    let parts_ : AllKnown (parts_in r) = subst AllKnown same row_.2 in
    let known_ : RowKnown k h ps [] (rule (place_of c) k) (parts_in r) = subst (RowKnown k h ps [] (rule (place_of c) k)) same row_.3 in
    let fine = induction.readings_fine (beginning k i s) k h ps [] [] ps (rule (place_of c) k) w.1 (reported_front (found_all r) (own ∷ []) f) in
    let here : RowRead k h ps [] (rule (place_of c) k) (parts_in r) = subst (RowRead k h ps [] (rule (place_of c) k)) (sym fine.1) fine.2 in
    let taken = node_taken t h ps (place_of c) i j k (parts_in r) here known_ parts_ o sound in
    let x = node_of t k i j (parts_in r) in
    subst (λ z. IsKnown z × ReadKnown c k h z) (sym (closed_tree s k i j ps r)) (statement_known t h ps (place_of c) i j k (parts_in r) parts_ sound taken, within_known c k h x m w.0 taken.kinds)

over_known : (s : Frame) (h : Hint) (c : Category) (k : Kind) (i j : ℕ) (ps : Trees) → IsShaped c (node k i j ps) → (b : Bool) → is_statement k ≡ b
    → IsOneOf b (RangeIsKnown k (frame_all (readings (beginning k i s) k h ps [] [] ps)) (parts_in (readings (beginning k i s) k h ps [] [] ps)) × AllNamesAreKnown (beginning k i s) k h ps [] ps) (HeldIsKnown s h (node k i j ps))
    → (AllNamesAreKnown (beginning k i s) k h ps [] ps → reported (found_all (readings (beginning k i s) k h ps [] [] ps)) ≡ None → RowsKnown (beginning k i s) k h ps [] [] ps (rule (place_of c) k))
    → reported (found_in (induction.over s h k i j ps b)) ≡ None → IsKnown (tree_in (induction.over s h k i j ps b)) × ReadKnown c k h (tree_in (induction.over s h k i j ps b))
over_known s h c k i j ps w true m n rows e = statement_by s h c k i j ps m w n.0 (rows n.1) e
over_known s h c k i j ps w false m n rows e = (holding_known s h c (node k i j ps) w n e, plain_known s h c k i j ps w m n e)

mutual
  pub reading_known : (s : Frame) (h : Hint) (c : Category) (t : Tree) → IsShaped c t → SourceShaped s.source → NamesAreKnown s h t → reported (found_in (reading s h t)) ≡ None → IsKnown (tree_in (reading s h t)) × ReadKnown c (kind_of t) h (tree_in (reading s h t))
  reading_known s h c (node k i j ps) w g n e = over_known s h c k i j ps w (is_statement k) refl n (λ m f. readings_known (beginning k i s) k h ps [] [] ps (rule (place_of c) k) w.1 (beginning_source k i s g) m f) e

  readings_known : (s : Frame) (k : Kind) (h : Hint) (all : Trees) (xs : Parts) (fs : Found) (ps : Trees) (w : Rule) → AreShaped w ps → SourceShaped s.source → AllNamesAreKnown s k h all xs ps → reported (found_all (readings s k h all xs fs ps)) ≡ None → RowsKnown s k h all xs fs ps w
  readings_known s k h all xs fs none w a g n e = ([], sym (append-nil xs), tt, tt)
  readings_known s k h all xs fs (more p ps) w a g n e =
      let u = entering k xs s in
      let t = told k h all xs (kind_of p) in
      let q = reading u t p in
      let f = induction.front s k h all xs fs p ps e in
      let own = reading_known u t (front w) p (shaped_front w p ps a) (entering_source k xs s g) n.0 f.0 in
      let later = reading_source u t (front w) p (shaped_front w p ps a) (entering_source k xs s g) in
      let m = readings_known (frame_in q) k h all (xs ++ Some (tree_in q) ∷ []) (fs ++ found_in q) ps (behind_front w) (shaped_behind w p ps a) later n.1 f.1 in
      (Some (tree_in q) ∷ m.0, induction.joined s k h all xs fs p ps m.0 m.1, (own.0, m.2), (maybe_known (repeats k && is_maybe w) ((n : Kind) × ReadKnown (front w) n (told k h all xs n) (tree_in q)) (kind_of p, own.1), m.3))
  readings_known s k h all xs fs (skip ps) w a g n e =
      let t = entering k xs s in
      let o = left_out t k in
      let m = readings_known t k h all (xs ++ o ∷ []) (fs ++ left_out_faults t k) ps (behind_front w) (shaped_skip w ps a) (entering_source k xs s g) n.1 e in
      let none_ = reported_back fs (left_out_faults t k) (row_front t k h all (xs ++ o ∷ []) (fs ++ left_out_faults t k) ps e) in
      (o ∷ m.0, m.1 ∙ append_assoc xs (o ∷ []) m.0, in_front o m.0 (left_known t k (entering_source k xs s g) n.0 none_) m.2, skip_known k t h all xs w m.0 (skipped w ps a) m.3)

-- ---- functions

pub function_known : (s : Scope) (number locals : ℕ) (types : ℕ → ℕ) (t : Tree) (f : FuncContent) → IsShaped category.Declaration t → body_answer s number locals types t ≡ Ok f → NamesAreKnown (start s locals types) free t → IsKnown f.tree
function_known s number locals types t f w e n =
    let z = start s locals types in
    let a = answered s number t (reading z free t) f e in
    subst IsKnown a.1 (reading_known z free category.Declaration t w tt n a.0).0
