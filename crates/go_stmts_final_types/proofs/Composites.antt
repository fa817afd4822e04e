-- Composite literals.
use Rattle.std.proofs.Common.{◌≡◌, ℕ, zero, suc, ◌==◌, Bool, true, false, cond, [], ◌∷◌, ◌++◌, List, length, map, Option, Some, None, refl, sym, ap, subst, ◌∙◌, true≢false, nat_lt, arith}
use Rattle.std.proofs.lemmas.Bool.Decides.{nat_tests}
use Rattle.std.specs.Prelude.{is_some}
use Rattle.std.specs.List.{list_all}
use Rattle.go_base.specs.declared.fault.FaultCode.TheVariants as code
use Rattle.go_grammar.specs.declared.kind.Kind.TheVariants as kind
use Rattle.go_types.specs.Trees.{TypeTree, array, slice, structure, TypeRow}
use Rattle.go_types.specs.Trees as types
use Rattle.go_types.specs.Relations.{Rights}
use Rattle.go_typed.specs.declared.form.Form.TheVariants as form
use Rattle.go_typed.specs.Trees.{Label, Typed, typed, Typeds, sort_of, parts_of, row}
use Rattle.go_typed.specs.Trees as sort
use Rattle.go_exprs_rules.specs.Faults.{fault_at}
use Rattle.go_exprs_rules.specs.Calls.{row_length, all_unassignable, each_unassignable, all_as}
use Rattle.go_exprs_rules.specs.Indexes.{type_at, value_or_unknown}
use Rattle.go_exprs_rules.specs.Literals.{key_of, has_keys, is_below, first_part, too_many, elements_failing, keyed_type, given_to_field, keyed_unassignable, keyed_failing, ordered_failing, fields_failing, literal_failing_in, as_optional, fields_take, literal_takes_in}
use Rattle.go_exprs_rules.specs.Scopes.{Scope, Hint, member}
use Rattle.go_exprs_rules.specs.Settling.{Part, as_type, given, unassignable}
use Rattle.go_exprs_rules.specs.Sorts.{Stands, is_unknown, underlying_in, named_type}
use Rattle.go_exprs_rules.specs.Tables.{present, all_given, leaf, first_cut, is_type, label, told_type, key_form, built_on}
use Rattle.go_stmts_final_types.proofs.Given.{Settles, Done, is_valued, settled_done}
use Rattle.go_stmts_final_types.proofs.Nodes.{Slot, AllSlots, Sound, AllSound, done_slot, node_settles, closed_sound, placed_sound, and_first, and_second}
use Rattle.go_stmts_final_types.proofs.Operands.{open_or_unknown}
use Rattle.go_stmts_final_types.proofs.Rows.{somes}
use Rattle.go_stmts_final_types.proofs.Tests.{AllFound, judged_found, holds, first_none, second_none, assigned_valued}
use Rattle.go_stmts_final_types.proofs.Arguments.{leaf_done, given_slots, each_valued, row_slots}

-- ---- elements with keys

key_below : (n : ℕ) (o : Option ℕ) → is_below n o ≡ true → (m : ℕ) × (o ≡ Some m) × (nat_lt m n ≡ true)
key_below n (Some m) e = (m, refl, e)
key_below n None e = cc

none_below : {X : Type 0} (m : ℕ) → nat_lt m 0 ≡ true → X
none_below m e = let never : ⊥ = grind (arith, nat_tests, e) in absurd never

one_below : (m n : ℕ) → nat_lt (suc m) (suc n) ≡ true → nat_lt m n ≡ true
one_below m n e = grind (arith, nat_tests, e)

field_there : (ts : TypeRow) (m : ℕ) → nat_lt m (row_length ts) ≡ true → (t : TypeTree) × (type_at ts m ≡ Some t)
field_there types.none m e = none_below m e
field_there (types.more t ts) zero e = (t, refl)
field_there (types.more t ts) (suc m) e = field_there ts m (one_below m (row_length ts) e)

keyed_done : (rights : Rights) (ts : TypeRow) (x : Part) → Sound x → is_unknown (sort_of x) ≡ false → is_below (row_length ts) (key_of x) ≡ true → given_to_field rights (keyed_type ts (key_of x)) (first_part (parts_of x)) ≡ [] → Done (given (as_optional (keyed_type ts (key_of x))) x)
keyed_done rights ts x g u b e =
    let k = key_below (row_length ts) (key_of x) b in
    let t = field_there ts k.0 k.2 in
    let v = g.element (ap is_some k.1) u in
    let same : keyed_type ts (key_of x) ≡ Some t.0 = ap (keyed_type ts) k.1 ∙ t.1 in
    let given_it : unassignable rights t.0 v.0 ≡ [] = subst (λ o. given_to_field rights o (Some v.0) ≡ []) same (subst (λ o. given_to_field rights (keyed_type ts (key_of x)) o ≡ []) v.1 e) in
    let valued : is_valued (sort_of x) ≡ true = subst (λ z. is_valued z ≡ true) v.2 (assigned_valued rights t.0 v.0 (ap is_unknown v.2 ∙ u) given_it) in
    subst (λ o. Done (given (as_optional o) x)) (sym same) (settled_done x g.settles t.0 valued)

keyed_slots : (n : Stands) (rights : Rights) (ts : TypeRow) (vs : List Part) → list_all (λ x. is_below (row_length ts) (key_of x)) (present (somes vs)) ≡ true → keyed_unassignable rights ts (present (somes vs)) ≡ [] → AllSound vs → AllFound (somes vs)
    → AllSlots n (all_given (map (λ x. as_optional (keyed_type ts (key_of x))) (present (somes vs))) (somes vs))
keyed_slots n rights ts [] b e g k = tt
keyed_slots n rights ts (x ∷ vs) b e g k =
    let own = given_to_field rights (keyed_type ts (key_of x)) (first_part (parts_of x)) in
    let later = keyed_unassignable rights ts (present (somes vs)) in
    let test = list_all (λ y. is_below (row_length ts) (key_of y)) (present (somes vs)) in (
      done_slot n (given (as_optional (keyed_type ts (key_of x))) x) (keyed_done rights ts x g.0 k.0 (and_first (is_below (row_length ts) (key_of x)) test b) (first_none own later e)),
      keyed_slots n rights ts vs (and_second (is_below (row_length ts) (key_of x)) test b) (second_none own later e) g.1 k.1,
    )

-- ---- elements

none_given : (n : Stands) (ts : TypeRow) → AllSlots n (all_given (all_as ts) [])
none_given n types.none = tt
none_given n (types.more t ts) = tt

elements_slots : (n : Stands) (rights : Rights) (i j : ℕ) (t : TypeTree) (limit : Option ℕ) (vs : List Part) → elements_failing rights i j t limit (present (somes vs)) ≡ [] → AllSound vs → AllFound (somes vs) → AllSlots n (all_given (map (λ x. as_type t) (present (somes vs))) (somes vs))
elements_slots n rights i j t limit vs e g k = by (has_keys (present (somes vs))) e
  where
    by : (b : Bool) → cond b (fault_at code.Operands i j) (each_unassignable rights t (present (somes vs)) ++ too_many limit (present (somes vs))) ≡ []
        → AllSlots n (all_given (map (λ x. as_type t) (present (somes vs))) (somes vs))
    by true e = cc
    by false e = given_slots n (as_type t) refl vs g (each_valued rights t vs (first_none (each_unassignable rights t (present (somes vs))) (too_many limit (present (somes vs))) e) k)

fields_slots : (n : Stands) (rights : Rights) (i j : ℕ) (ts : TypeRow) (vs : List Part) → fields_failing rights i j ts (present (somes vs)) ≡ [] → AllSound vs → AllFound (somes vs) → AllSlots n (all_given (fields_take ts (present (somes vs))) (somes vs))
fields_slots n rights i j ts [] e g k = none_given n ts
fields_slots n rights i j ts (x ∷ ws) e g k = by (has_keys (present (somes (x ∷ ws)))) e
  where
    by : (b : Bool) → cond b (keyed_failing rights i j ts (present (somes (x ∷ ws)))) (ordered_failing rights i j ts (present (somes (x ∷ ws)))) ≡ []
        → AllSlots n (all_given (cond b (map (λ y. as_optional (keyed_type ts (key_of y))) (present (somes (x ∷ ws)))) (all_as ts)) (somes (x ∷ ws)))
    by true e =
        let c = holds (list_all (λ y. is_below (row_length ts) (key_of y)) (present (somes (x ∷ ws)))) (keyed_unassignable rights ts (present (somes (x ∷ ws)))) _ e in keyed_slots n rights ts (x ∷ ws) c.0 c.1 g k
    by false e =
        let c = holds (row_length ts == length (present (somes (x ∷ ws)))) (all_unassignable rights ts (present (somes (x ∷ ws)))) _ e in row_slots n rights ts (x ∷ ws) c.0 c.1 g k

literal_slots : (n : Stands) (rights : Rights) (i j : ℕ) (u : Option TypeTree) (vs : List Part) → literal_failing_in rights i j u (present (somes vs)) ≡ [] → AllSound vs → AllFound (somes vs) → AllSlots n (all_given (literal_takes_in u (present (somes vs))) (somes vs))
literal_slots n rights i j (Some (array m t)) vs e g k = elements_slots n rights i j t (Some m) vs e g k
literal_slots n rights i j (Some (slice t)) vs e g k = elements_slots n rights i j t None vs e g k
literal_slots n rights i j (Some (structure ns ts)) vs e g k = fields_slots n rights i j ts vs e g k
literal_slots n rights i j u vs e g k = cc

-- ---- nodes

untyped : (rights : Rights) (i j : ℕ) (x : Stands) (xs : List Part) → is_type x ≡ false → literal_failing_in rights i j (underlying_in rights (named_type x)) xs ≡ [] → true ≡ false
untyped rights i j (sort.IsType t) xs e f = cc
untyped rights i j x xs e f = cc

pub composite_sound : (s : Scope) (h : Hint) (i j : ℕ) (t : Part) (vs : List Part) → AllSound vs → Sound (built_on s kind.Composite h i j (first_cut (Some t ∷ somes vs)))
composite_sound s h i j t vs g = by (is_type (sort_of t)) refl
  where
    by : (b : Bool) → is_type (sort_of t) ≡ b → Sound (built_on s kind.Composite h i j (cond b (Some (leaf t)) (Some t) ∷ somes vs))
    by true e = placed_sound s kind.Composite h i j (Some (leaf t) ∷ somes vs) refl refl refl
        (λ m f.
        let u = named_type (sort_of (leaf t)) in
        closed_sound form.Composite refl refl i j (value_or_unknown u) _ _ (Some (leaf t) ∷ all_given (literal_takes_in (underlying_in s.rights u) (present (somes vs))) (somes vs)) (open_or_unknown u)
        (done_slot (value_or_unknown u) (leaf t) (leaf_done t e), literal_slots (value_or_unknown u) s.rights i j (underlying_in s.rights u) vs f g (judged_found (Some (leaf t) ∷ somes vs) m).1))
    by false e = placed_sound s kind.Composite h i j (Some t ∷ somes vs) refl refl refl
        (λ m f. absurd (true≢false (untyped s.rights i j (sort_of t) (present (somes vs)) e f)))

pub literal_value_sound : (s : Scope) (h : Hint) (i j : ℕ) (vs : List Part) → AllSound vs → Sound (built_on s kind.LiteralValue h i j (None ∷ somes vs))
literal_value_sound s h i j vs g = placed_sound s kind.LiteralValue h i j (None ∷ somes vs) refl refl refl
    (λ m f.
    let u = told_type h in
    closed_sound form.Composite refl refl i j (value_or_unknown u) _ _ (None ∷ all_given (literal_takes_in (underlying_in s.rights u) (present (somes vs))) (somes vs)) (open_or_unknown u)
    (literal_slots (value_or_unknown u) s.rights i j (underlying_in s.rights u) vs f g (judged_found (None ∷ somes vs) m)))

keyed_form : (rights : Rights) (h : Hint) (name : List ℕ) → (m : ℕ) × (key_form rights h name ≡ form.Keyed m)
keyed_form rights (member t) name = (_, refl)
keyed_form rights h name = (0, refl)

same_part : (x : Part) → Settles x → Slot (sort_of x) x
same_part x h = record { now = h.closed; later = h.later }

keyed_node : (i j m : ℕ) (v : Part) → Sound v → Sound (typed (form.Keyed m) i j (label (form.Keyed m) (sort_of v) (Some v ∷ [])) (sort.more v sort.none))
keyed_node i j m v g =
    let l = label (form.Keyed m) (sort_of v) (Some v ∷ []) in
    record {
      plain = refl;
      settles = node_settles (form.Keyed m) i j (sort_of v) l.varies l.calls (Some v ∷ []) (same_part v g.settles, tt);
      target = λ rights o e. absurd (true≢false (sym e));
      called = λ e. absurd (true≢false (sym e));
      element = λ e u. (v, refl, refl);
    }

pub keyed_sound : (s : Scope) (h : Hint) (i j : ℕ) (v : Part) → Sound v → Sound (built_on s kind.Keyed h i j (Some v ∷ []))
keyed_sound s h i j v g =
    let k = keyed_form s.rights h (s.texts i) in
    subst (λ f. Sound (typed f i j (label f (sort_of v) (Some v ∷ [])) (sort.more v sort.none))) (sym k.1) (keyed_node i j k.0 v g)
