-- Statements with headers, blocks and declarations, over parts whose holes have types.
use Rattle.std.proofs.Common.{◌≡◌, ℕ, zero, suc, pred, Bool, true, false, cond, [], ◌∷◌, ◌++◌, List, length, map, take, drop, replicate, Option, Some, None, refl, sym, ap, subst, ◌∙◌, true≢false, arith}
use Rattle.std.specs.Prelude.{◌&&◌, ◌==◌, not}
use Rattle.std.proofs.lemmas.Bool.Decides.{nat_tests}
use Rattle.std.proofs.Math.Seq.{take-append_seam, drop-append_seam}
use Rattle.go_grammar.specs.declared.kind.Kind.{Kind}
use Rattle.go_grammar.specs.declared.kind.Kind.TheVariants as kind
use Rattle.go_grammar.specs.declared.kind.Sort.TheVariants as declaring
use Rattle.go_types.specs.Trees.{TypeTree, boolean}
use Rattle.go_types.specs.Relations.{Rights}
use Rattle.go_typed.specs.declared.form.Form.{Form}
use Rattle.go_typed.specs.declared.form.Form.TheVariants as form
use Rattle.go_typed.specs.Trees.{Typed, typed, Typeds, sort_of, form_of, parts_of, row}
use Rattle.go_typed.specs.Trees as sort
use Rattle.go_exprs_rules.specs.declared.fault.TypeFault.{TypeFault}
use Rattle.go_exprs_rules.specs.Settling.{Part, stay, default, as_type}
use Rattle.go_exprs_rules.specs.Sorts.{Stands, own_type}
use Rattle.go_exprs_rules.specs.Tables.{Parts, label, is_held, present, is_type, leaf}
use Rattle.go_stmts_defs.specs.Assigning.{called_results, assignment_by, assignment_failing, all_unassigned, Taking, takes, rests, type_or_default, values_take, value_types_by, whole_results}
use Rattle.go_stmts_defs.specs.Frames.{Frame, rights_of}
use Rattle.go_stmts_defs.specs.Laying.{header_parts, loop_header, loop_form}
use Rattle.go_stmts_defs.specs.Rules.{taking, own_faults, all_given, built_by, rest, not_a_target, each, range_failing, range_assigned, range_types, operand_takes, is_first_number, target_there, returned, type_there, values_there, variables_take}
use Rattle.go_stmts_final_types.specs.Holes.{HolesTyped, AllHolesTyped}
use Rattle.go_stmts_final_types.specs.Known.{AreKnown, AreOwn, is_object}
use Rattle.go_stmts_final_types.proofs.Given.{is_closed, is_valued, node_typed, no_hole}
use Rattle.go_stmts_final_types.proofs.Arguments.{leaf_done}
use Rattle.go_stmts_final_types.proofs.Rows.{somes, present_somes}
use Rattle.go_stmts_final_types.proofs.Statements.{Each, length_mapped, type_taking, values_ready, names_ready, targets_typed}
use Rattle.go_stmts_final_types.proofs.Taken.{Valued, Says, IsBare, Ready, AllReady, AllNamed, ruled_says, known_before, valued_known, ready_value, ready_says, ready_typed, statement_says, by_own}
use Rattle.clone_window.specs.Masses as masses
use Rattle.go_stmts_final_types.proofs.Tests.{holds, first_none}

abbrev pub SaysIf : Option Part → Type 0
SaysIf (Some x) = Says x
SaysIf None = Unit {0}

abbrev pub ValuedIf : Option Part → Type 0
ValuedIf (Some x) = Valued x
ValuedIf None = Unit {0}

-- a statement that is no holder
pub record Stated (x : Part) : Type 0 where
  pub says : Says x
  pub plain : is_held (form_of x) ≡ false

pub says_front : (o : Option Part) (ks : List Taking) (ys : Parts) → SaysIf o → AllReady ks ys → AllReady (rests ∷ ks) (o ∷ ys)
says_front (Some x) ks ys h r = (ready_says x h, r)
says_front None ks ys h r = r

value_front : (o : Option Part) (k : Taking) (ks : List Taking) (ys : Parts) → ((x : Part) → Valued x → Ready k x) → ValuedIf o → AllReady ks ys → AllReady (k ∷ ks) (o ∷ ys)
value_front (Some x) k ks ys g h r = (g x h, r)
value_front None k ks ys g h r = r

says_last : (o : Option Part) (ys : Parts) → SaysIf o → AllReady [] ys → AllReady [] (o ∷ ys)
says_last (Some x) ys h r = (ready_says x h, r)
says_last None ys h r = r

pub all_say : (xs : List Part) → Each Stated xs → AllReady [] (somes xs)
all_say [] h = tt
all_say (x ∷ xs) h = (ready_says x h.0.says, all_say xs h.1)

-- ---- `if` and `switch`

-- the statement and the expression of a header
pub record IfHeaderIs (x : Part) : Type 0 where
  pub first : Option Part
  pub value : Part
  pub are : header_parts (Some x) ≡ first ∷ Some value ∷ []
  pub says : SaysIf first
  pub valued : Valued value

pub record SwitchHeaderIs (o : Option Part) : Type 0 where
  pub first : Option Part
  pub value : Option Part
  pub are : header_parts o ≡ first ∷ value ∷ []
  pub says : SaysIf first
  pub valued : ValuedIf value

pub if_says : (s : Frame) (i j : ℕ) (first : Option Part) (v b : Part) (last : Option Part) → SaysIf first → Valued v → Says b → SaysIf last → (ys : Parts) → ys ≡ first ∷ Some v ∷ Some b ∷ last ∷ [] → (own : List TypeFault) → own ≡ [] → Says (built_by s kind.If form.If i j ys own)
if_says s i j first v b last h g r q ys m own e = statement_says s kind.If form.If i j ys own e
    (subst (AllReady (rests ∷ takes (as_type boolean) ∷ [])) (sym m) (says_front first (takes (as_type boolean) ∷ []) (Some v ∷ Some b ∷ last ∷ []) h (ready_value (as_type boolean) refl v g, (ready_says b r, says_last last [] q tt))))

pub switch_says : (s : Frame) (i j : ℕ) (first value : Option Part) (cs : List Part) → SaysIf first → ValuedIf value → Each Stated cs → (ys : Parts) → ys ≡ first ∷ value ∷ somes cs → (own : List TypeFault) → own ≡ [] → Says (built_by s kind.Switch form.Switch i j ys own)
switch_says s i j first value cs h g r ys m own e = statement_says s kind.Switch form.Switch i j ys own e
    (subst (AllReady (rests ∷ takes default ∷ [])) (sym m) (says_front first (takes default ∷ []) (value ∷ somes cs) h (value_front value (takes default) [] (somes cs) (λ x v. ready_value default refl x v) g (all_say cs r))))

case_ready : (o : Option TypeTree) (vs : List Part) (ss : List Part) → Each Valued vs → Each Stated ss → AllReady (replicate (length vs) (type_or_default o)) (somes vs ++ somes ss)
case_ready o [] ss g r = all_say ss r
case_ready o (v ∷ vs) ss g r = (type_taking o v g.0, case_ready o vs ss g.1 r)

pub case_says : (s : Frame) (i j : ℕ) (vs ss : List Part) → Each Valued vs → Each Stated ss → (ys : Parts) → ys ≡ somes vs ++ somes ss → (own : List TypeFault) → own ≡ [] → Says (built_by s kind.Case (form.Case (length vs)) i j ys own)
case_says s i j vs ss g r ys m own e = statement_says s kind.Case (form.Case (length vs)) i j ys own e
    (subst (AllReady (replicate (length vs) (type_or_default (own_type s.tag)))) (sym m) (case_ready (own_type s.tag) vs ss g r))

-- a statement whose parts take nothing
pub list_says : (s : Frame) (k : Kind) (f : Form) (i j : ℕ) (ys : Parts) → taking s k f ys ≡ [] → AllReady [] ys → (own : List TypeFault) → own ≡ [] → Says (built_by s k f i j ys own)
list_says s k f i j ys n r own e = statement_says s k f i j ys own e (subst (λ ks. AllReady ks ys) (sym n) r)

-- ---- returned values

returned_ready : (ts : List TypeTree) (vs : List Part) → Each Valued vs → length ts ≡ length vs → AllReady (map (λ t. takes (as_type t)) ts) (somes vs)
returned_ready ts [] g e = tt
returned_ready [] (v ∷ vs) g e = cc
returned_ready (t ∷ ts) (v ∷ vs) g e = (ready_value (as_type t) refl v g.0, returned_ready ts vs g.1 (ap pred e))

-- ---- loops

-- what the names of a range clause are
abbrev pub TargetsFine : Bool → List Part → Type 0
TargetsFine true ts = Each (HolesTyped false) ts
TargetsFine false ts = Each Valued ts

pub data LoopHeaderIs (o : Option Part) : Type 0 where
  clause : (first value post : Option Part) → loop_header o ≡ first ∷ value ∷ post ∷ [] → loop_form o ≡ form.For → SaysIf first → ValuedIf value → SaysIf post → LoopHeaderIs o
  ranges : (defines : Bool) (ts : List Part) (v : Part) → loop_header o ≡ somes ts ++ Some v ∷ [] → loop_form o ≡ form.Range defines (length ts) → TargetsFine defines ts → Valued v → LoopHeaderIs o

pub for_says : (s : Frame) (i j : ℕ) (first value post : Option Part) (b : Part) → SaysIf first → ValuedIf value → SaysIf post → Says b → (ys : Parts) → ys ≡ first ∷ value ∷ post ∷ Some b ∷ [] → (own : List TypeFault) → own ≡ [] → Says (built_by s kind.For form.For i j ys own)
for_says s i j first value post b h g r q ys m own e = statement_says s kind.For form.For i j ys own e
    (subst (AllReady (rests ∷ takes (as_type boolean) ∷ [])) (sym m) (says_front first (takes (as_type boolean) ∷ []) (value ∷ post ∷ Some b ∷ []) h (value_front value (takes (as_type boolean)) [] (post ∷ Some b ∷ []) (λ x v. ready_value (as_type boolean) refl x v) g (says_last post (Some b ∷ []) r (ready_says b q, tt)))))

operand_ready : (n : ℕ) (ys : Parts) (v : Part) → Valued v → Ready (operand_takes n ys) v
operand_ready n ys v g = by (is_first_number (drop n ys))
  where
    by : (b : Bool) → Ready (cond b (type_or_default (target_there n ys)) (takes default)) v
    by true = type_taking (target_there n ys) v g
    by false = ready_value default refl v g

done_typed : (ts : List Part) (ks : List Taking) (zs : Parts) → Each (HolesTyped false) ts → (AreKnown (row (all_given ks zs)) → AllHolesTyped false (row (all_given ks zs)))
    → AreKnown (row (all_given (rest (length ts) ++ ks) (somes ts ++ zs))) → AllHolesTyped false (row (all_given (rest (length ts) ++ ks) (somes ts ++ zs)))
done_typed [] ks zs g r h = r h
done_typed (t ∷ ts) ks zs g r h = (g.0, done_typed ts ks zs g.1 r h.1)

present_range : (ts : List Part) (v b : Part) → present (somes ts ++ (Some v ∷ Some b ∷ [])) ≡ ts ++ (v ∷ b ∷ [])
present_range [] v b = refl
present_range (t ∷ ts) v b = ap (λ ys. t ∷ ys) (present_range ts v b)

range_rule : (rights : Rights) (i j : ℕ) (ts : List Part) (v b : Part) (ys : Parts) → ys ≡ somes ts ++ (Some v ∷ Some b ∷ []) → range_failing rights i j false (take (length ts) (present ys)) (drop (length ts) (present ys)) ≡ [] → each (not_a_target rights) ts ≡ []
range_rule rights i j ts v b ys m f =
    let p : present ys ≡ ts ++ (v ∷ b ∷ []) = ap present m ∙ present_range ts v b in
    let r : range_failing rights i j false (take (length ts) (present ys)) (drop (length ts) (present ys)) ≡ range_failing rights i j false ts (v ∷ b ∷ []) =
    ap (λ zs. range_failing rights i j false (take (length ts) zs) (drop (length ts) zs)) p
    ∙ (ap (λ zs. range_failing rights i j false zs (drop (length ts) (ts ++ (v ∷ b ∷ [])))) (take-append_seam ts (v ∷ b ∷ [])) ∙ ap (range_failing rights i j false ts) (drop-append_seam ts (v ∷ b ∷ []))) in
    first_none (each (not_a_target rights) ts) (range_assigned rights i j ts v (range_types rights v)) (sym r ∙ f)

pub range_says : (s : Frame) (i j : ℕ) (defines : Bool) (ts : List Part) (v b : Part) → TargetsFine defines ts → Valued v → Says b → (ys : Parts) → ys ≡ somes ts ++ (Some v ∷ Some b ∷ []) → (own : List TypeFault) → own_faults s kind.For (form.Range defines (length ts)) i j ys ≡ own → own ≡ [] → Says (built_by s kind.For (form.Range defines (length ts)) i j ys own)
range_says s i j defines ts v b g r q ys m own is e = by_own s kind.For (form.Range defines (length ts)) i j ys own e
    (λ h.
    let ks = operand_takes (length ts) ys ∷ [] in
    let same : all_given (rest (length ts) ++ ks) ys ≡ all_given (rest (length ts) ++ ks) (somes ts ++ (Some v ∷ Some b ∷ [])) = ap (all_given (rest (length ts) ++ ks)) m in
    subst (λ zs. AllHolesTyped false (row zs)) (sym same)
    (targets defines g (is ∙ e) (ready_typed ks (Some v ∷ Some b ∷ []) (operand_ready (length ts) ys v r, (ready_says b q, tt))) (subst (λ zs. AreKnown (row zs)) same h)))
  where
    targets : (d : Bool) → TargetsFine d ts → own_faults s kind.For (form.Range d (length ts)) i j ys ≡ []
        → (AreKnown (row (all_given (operand_takes (length ts) ys ∷ []) (Some v ∷ Some b ∷ []))) → AllHolesTyped false (row (all_given (operand_takes (length ts) ys ∷ []) (Some v ∷ Some b ∷ []))))
        → AreKnown (row (all_given (rest (length ts) ++ (operand_takes (length ts) ys ∷ [])) (somes ts ++ (Some v ∷ Some b ∷ []))))
        → AllHolesTyped false (row (all_given (rest (length ts) ++ (operand_takes (length ts) ys ∷ [])) (somes ts ++ (Some v ∷ Some b ∷ []))))
    targets true g f r h = done_typed ts (operand_takes (length ts) ys ∷ []) (Some v ∷ Some b ∷ []) g r h
    targets false g f r h = targets_typed (rights_of s) ts (operand_takes (length ts) ys ∷ []) (Some v ∷ Some b ∷ []) g (range_rule (rights_of s) i j ts v b ys m f) r h

-- ---- variables

-- what stands between the names and the values of a specification: a type, or nothing
abbrev pub TypeIf : Option Part → Type 0
TypeIf (Some x) = Ready rests x
TypeIf None = Unit {0}

pub cut_ready : (x : Part) → is_valued (sort_of x) ≡ false → (b : Bool) → is_type (sort_of x) ≡ b → TypeIf (cond b (Some (leaf x)) (Some x))
cut_ready x v true e = record { typed = λ h. (leaf_done x e).now }
cut_ready x v false e = record { typed = λ h. absurd (true≢false (sym (valued_known (sort_of x) (known_before stay x h) e) ∙ v)) }

pub behind_names : (ns : List Part) (o : Option Part) (zs : Parts) → drop (suc (length ns)) (somes ns ++ (o ∷ zs)) ≡ zs
behind_names [] o zs = refl
behind_names (n ∷ ns) o zs = behind_names ns o zs

length_replicated : {A : Type 0} (n : ℕ) (x : A) → length (replicate n x) ≡ n
length_replicated zero x = refl
length_replicated (suc n) x = ap suc (length_replicated n x)

type_front : (o : Option Part) (ks : List Taking) (ys : Parts) → TypeIf o → AllReady ks ys → AllReady (rests ∷ ks) (o ∷ ys)
type_front (Some x) ks ys h r = (h, r)
type_front None ks ys h r = r

pub variables_say : (s : Frame) (i j : ℕ) (ns : List Part) (o : Option Part) (vs : List Part) → Each IsBare ns → TypeIf o → Each Valued vs → (ys : Parts) → ys ≡ somes ns ++ (o ∷ somes vs) → (own : List TypeFault) → own ≡ []
    → Says (built_by s (kind.Specification declaring.Variable) (form.Specified (length ns)) i j ys own)
variables_say s i j ns o vs g t r ys m own e = statement_says s (kind.Specification declaring.Variable) (form.Specified (length ns)) i j ys own e
    (subst (λ ws. AllReady (variables_take (rights_of s) (length ns) (type_there (length ns) ys) ws) ys) (sym values)
    (subst (AllReady (variables_take (rights_of s) (length ns) (type_there (length ns) ys) vs)) (sym m)
    (names_ready (replicate (length ns) (type_there (length ns) ys)) (value_types_by vs (whole_results (rights_of s) vs)) ns g (length_replicated (length ns) (type_there (length ns) ys))
    (rests ∷ values_take (replicate (length ns) (type_there (length ns) ys)) vs) (o ∷ somes vs) (type_front o _ (somes vs) t (values_ready (replicate (length ns) (type_there (length ns) ys)) vs r)))))
  where
    values : values_there (length ns) ys ≡ vs
    values = ap present (ap (drop (suc (length ns))) m ∙ behind_names ns o (somes vs)) ∙ present_somes vs

-- ---- `return`

returned_named : (b : Bool) (ts : List TypeTree) (ys : Parts) → AllNamed (cond b (map (λ t. takes (as_type t)) ts) []) ys
returned_named false ts ys = tt
returned_named true [] ys = tt
returned_named true (t ∷ ts) [] = tt
returned_named true (t ∷ ts) (None ∷ ys) = returned_named true ts ys
returned_named true (t ∷ ts) (Some y ∷ ys) = returned_named true ts ys

same_length : (a b : ℕ) → (a == b) ≡ true → a ≡ b
same_length a b e = grind (arith, nat_tests, e)

-- the call that is all that is returned
called_ready : (b : Bool) (ts : List TypeTree) (x : Part) → Valued x → is_closed (sort_of x) ≡ true → AllReady (cond b (map (λ t. takes (as_type t)) ts) []) (Some x ∷ [])
called_ready false ts x v c = (record { typed = λ h. v.sound.settles.closed c }, tt)
called_ready true [] x v c = (record { typed = λ h. v.sound.settles.closed c }, tt)
called_ready true (t ∷ ts) x v c = (ready_value (as_type t) refl x v, tt)

results_closed : (rights : Rights) (x : Stands) (rs : List TypeTree) → called_results rights x ≡ Some rs → is_closed x ≡ true
results_closed rights (sort.Results t) rs e = refl
results_closed rights x rs e = cc

whole_ready : (rights : Rights) (b : Bool) (ts : List TypeTree) (vs : List Part) (rs : List TypeTree) → Each Valued vs → whole_results rights vs ≡ Some rs → AllReady (cond b (map (λ t. takes (as_type t)) ts) []) (somes vs)
whole_ready rights b ts [] rs g e = cc
whole_ready rights b ts (x ∷ []) rs g e = called_ready b ts x g.0 (results_closed rights (sort_of x) rs e)
whole_ready rights b ts (x ∷ y ∷ vs) rs g e = cc

values_returned : (rights : Rights) (i j : ℕ) (ts : List TypeTree) (vs : List Part) → Each Valued vs → (o : Option (List TypeTree)) → whole_results rights vs ≡ o → assignment_by rights i j (map (λ t. Some t) ts) vs o ≡ [] → AllReady (returned ts vs) (somes vs)
values_returned rights i j ts vs g (Some rs) m f = whole_ready rights (length ts == length vs) ts vs rs g m
values_returned rights i j ts vs g None m f =
    let c = holds (length (map (λ t. Some t) ts) == length vs) (all_unassigned rights (map (λ t. Some t) ts) vs) _ f in
    let e : (length ts == length vs) ≡ true = subst (λ n. (n == length vs) ≡ true) (length_mapped (λ t. Some t) ts) c.0 in
    subst (λ b. AllReady (cond b (map (λ t. takes (as_type t)) ts) []) (somes vs)) (sym e) (returned_ready ts vs g (same_length (length ts) (length vs) e))

pub return_says : (s : Frame) (i j : ℕ) (vs : List Part) → Each Valued vs → (ys : Parts) → ys ≡ somes vs → own_faults s kind.Return form.Return i j ys ≡ [] → Says (built_by s kind.Return form.Return i j ys (own_faults s kind.Return form.Return i j ys))
return_says s i j vs g ys m e = ruled_says s kind.Return form.Return i j ys (λ z. z) e (returned_named (length s.results == length (present ys)) s.results ys)
    (λ f h.
    let p : present ys ≡ vs = ap present m ∙ present_somes vs in
    ready_typed (returned s.results (present ys)) ys
    (subst (λ ws. AllReady (returned s.results ws) ys) (sym p) (subst (AllReady (returned s.results vs)) (sym m)
    (values_returned (rights_of s) i j s.results vs g (whole_results (rights_of s) vs) refl (subst (λ ws. assignment_failing (rights_of s) i j (map (λ t. Some t) s.results) ws ≡ []) p f)))) h)

-- ---- constants and types

-- a name that isn't one of an object declared outside has no holes
pub record IsName (x : Part) : Type 0 where
  pub alone : parts_of x ≡ sort.none
  pub own : is_object (form_of x) ≡ false → masses.is_expression (form_of x) ≡ false

names_typed : (ms : List Part) → Each IsName ms → AreOwn (row (somes ms)) → AllHolesTyped false (row (somes ms))
names_typed [] h k = tt
names_typed (typed f i j l ps ∷ ms) h k =
    (subst (λ qs. HolesTyped false (typed f i j l qs)) (sym h.0.alone) (no_hole f i j l sort.none (ap (λ b. (b && masses.is_constant l.sort) && not l.varies) (h.0.own k.0)) tt), names_typed ms h.1 k.1)

pub constants_say : (s : Frame) (i j : ℕ) (ms : List Part) → Each IsName ms → (ys : Parts) → ys ≡ somes ms → (own : List TypeFault) → own ≡ [] → Says (built_by s (kind.Declaration declaring.Constant) form.Constants i j ys own)
constants_say s i j ms g ys m [] e = λ h. node_typed form.Constants i j (label form.Constants sort.Nothing ys) (row ys) refl (subst (λ zs. AllHolesTyped false (row zs)) (sym m) (names_typed ms g (subst (λ zs. AreOwn (row zs)) m h.2)))
constants_say s i j ms g ys m (x ∷ xs) e = cc

all_done : (ms : List Part) → Each (HolesTyped false) ms → AllReady [] (somes ms)
all_done [] h = tt
all_done (x ∷ ms) h = (record { typed = λ k. h.0 }, all_done ms h.1)

-- names of types
pub types_say : (s : Frame) (i j : ℕ) (ms : List Part) → Each (HolesTyped false) ms → (ys : Parts) → ys ≡ somes ms → (own : List TypeFault) → own ≡ [] → Says (built_by s (kind.Declaration declaring.Type) form.TypeNames i j ys own)
types_say s i j ms g ys m own e = list_says s (kind.Declaration declaring.Type) form.TypeNames i j ys refl (subst (AllReady []) (sym m) (all_done ms g)) own e
