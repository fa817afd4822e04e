-- Parts that are known stay so, whatever they take and wherever they stand.
use Rattle.std.proofs.Common.{◌≡◌, ℕ, zero, suc, Bool, true, false, cond, [], ◌∷◌, ◌++◌, List, map, take, Option, Some, None, refl, sym, subst}
use Rattle.std.specs.Prelude.{◌||◌, not}
use Rattle.std.specs.List.{list_any}
use Rattle.go_types.specs.Trees.{TypeTree}
use Rattle.go_typed.specs.declared.form.Form.{Form}
use Rattle.go_typed.specs.declared.form.Form.TheVariants as form
use Rattle.go_typed.specs.Trees.{Label, typed, Typeds, sort_of, form_of, parts_of, row, list_of}
use Rattle.go_typed.specs.Trees as sort
use Rattle.go_exprs_rules.specs.declared.family.OpenKind.{OpenKind}
use Rattle.go_exprs_rules.specs.Settling.{Part, Take, stay, default, as_type, given, defaulted, settled, all_settled}
use Rattle.go_exprs_rules.specs.Sorts.{Stands, is_unknown, takes_type, open_kind, retyped, default_type}
use Rattle.go_exprs_rules.specs.Tables.{Parts, is_held, held, all_held, leaf, first_cut, is_type, is_lost, is_judged}
use Rattle.go_exprs_rules.specs.Tables as expressions
use Rattle.go_stmts_defs.specs.Assigning.{Taking, takes, stands}
use Rattle.go_stmts_defs.specs.Frames.{Locals, declared_type}
use Rattle.go_stmts_defs.specs.Laying.{new_form, new_or_known, new_name}
use Rattle.go_stmts_defs.specs.Rules.{given_part, all_given}
use Rattle.go_stmts_final_types.specs.Known.{VariableIsTyped, is_package_variable, is_object, AreOwn, DeclaresOwn, IsKnown, AreKnown}
use Rattle.go_stmts_final_types.proofs.Given.{labelled}

-- ---- rows

abbrev pub AllKnown : Parts → Type 0
AllKnown [] = Unit {0}
AllKnown (None ∷ xs) = AllKnown xs
AllKnown (Some x ∷ xs) = IsKnown x × AllKnown xs

pub known_row : (xs : Parts) → AllKnown xs → AreKnown (row xs)
known_row [] h = tt
known_row (None ∷ xs) h = known_row xs h
known_row (Some x ∷ xs) h = (h.0, known_row xs h.1)

pub known_list : (ps : Typeds TypeTree) → AreKnown ps → AllKnown (list_of ps)
known_list sort.none h = tt
known_list (sort.more p ps) h = (h.0, known_list ps h.1)
known_list (sort.skip ps) h = known_list ps h

pub known_parts : (x : Part) → IsKnown x → AllKnown (list_of (parts_of x))
known_parts (typed f i j l ps) h = known_list ps h.3

pub known_sort : (x : Part) → IsKnown x → is_unknown (sort_of x) ≡ false
known_sort (typed f i j l ps) h = h.0

pub known_both : (xs ys : Parts) → AllKnown xs → AllKnown ys → AllKnown (xs ++ ys)
known_both [] ys h g = g
known_both (None ∷ xs) ys h g = known_both xs ys h g
known_both (Some x ∷ xs) ys h g = (h.0, known_both xs ys h.1 g)

pub known_front : (n : ℕ) (xs : Parts) → AllKnown xs → AllKnown (take n xs)
known_front zero xs h = tt
known_front (suc n) [] h = tt
known_front (suc n) (None ∷ xs) h = known_front n xs h
known_front (suc n) (Some x ∷ xs) h = (h.0, known_front n xs h.1)

-- ---- what takes a type

unknown_retyped : (t : TypeTree) (s : Stands) → is_unknown s ≡ false → is_unknown (retyped t s) ≡ false
unknown_retyped t sort.Unknown e = e
unknown_retyped t s e = refl

typed_retyped : (b : Bool) (t : TypeTree) (s : Stands) → VariableIsTyped b s → VariableIsTyped b (retyped t s)
typed_retyped true t (sort.Open u) h = refl
typed_retyped true t (sort.OpenConstant c) h = refl
typed_retyped true t s h = refl
typed_retyped false t s h = tt

own_by : (b : Bool) (t : TypeTree) (f : Form) (i j : ℕ) (l : Label TypeTree) (qs ps : Typeds TypeTree) → is_object f ≡ false → AreOwn ps
    → AreOwn (sort.more (cond b (typed f i j (labelled (retyped t l.sort) l.varies l.calls) (all_settled t qs)) (typed f i j l qs)) ps)
own_by true t f i j l qs ps e h = (e, h)
own_by false t f i j l qs ps e h = (e, h)

own_settled : (t : TypeTree) (ps : Typeds TypeTree) → AreOwn ps → AreOwn (all_settled t ps)
own_settled t sort.none h = tt
own_settled t (sort.more (typed f i j l qs) ps) h = own_by (takes_type l.sort) t f i j l qs (all_settled t ps) h.0 (own_settled t ps h.1)
own_settled t (sort.skip ps) h = own_settled t ps h

declares_settled : (f : Form) (t : TypeTree) (ps : Typeds TypeTree) → DeclaresOwn f ps → DeclaresOwn f (all_settled t ps)
declares_settled form.Constants t ps h = own_settled t ps h
declares_settled f t ps h = tt

settled_by : (b : Bool) (t : TypeTree) (f : Form) (i j : ℕ) (l : Label TypeTree) (ps : Typeds TypeTree) → IsKnown (typed f i j l ps) → AreKnown (all_settled t ps)
    → IsKnown (cond b (typed f i j (labelled (retyped t l.sort) l.varies l.calls) (all_settled t ps)) (typed f i j l ps))
settled_by true t f i j l ps h g = (unknown_retyped t l.sort h.0, typed_retyped (is_package_variable f) t l.sort h.1, declares_settled f t ps h.2, g)
settled_by false t f i j l ps h g = h

mutual
  pub settled_known : (t : TypeTree) (x : Part) → IsKnown x → IsKnown (settled t x)
  settled_known t (typed f i j l ps) h = settled_by (takes_type l.sort) t f i j l ps h (all_settled_known t ps h.3)

  all_settled_known : (t : TypeTree) (ps : Typeds TypeTree) → AreKnown ps → AreKnown (all_settled t ps)
  all_settled_known t sort.none h = tt
  all_settled_known t (sort.more p ps) h = (settled_known t p h.0, all_settled_known t ps h.1)
  all_settled_known t (sort.skip ps) h = all_settled_known t ps h

defaulted_known : (o : Option OpenKind) (x : Part) → IsKnown x → IsKnown (defaulted o x)
defaulted_known (Some k) x h = settled_known (default_type k) x h
defaulted_known None x h = h

pub given_known : (k : Take) (x : Part) → IsKnown x → IsKnown (given k x)
given_known stay x h = h
given_known default x h = defaulted_known (open_kind (sort_of x)) x h
given_known (as_type t) x h = settled_known t x h

pub all_given_known : (ks : List Take) (ys : Parts) → AllKnown ys → AllKnown (expressions.all_given ks ys)
all_given_known [] ys h = h
all_given_known (k ∷ ks) [] h = tt
all_given_known (k ∷ ks) (None ∷ ys) h = all_given_known ks ys h
all_given_known (k ∷ ks) (Some y ∷ ys) h = (given_known k y h.0, all_given_known ks ys h.1)

-- ---- where parts stand

leaf_known : (x : Part) → IsKnown x → IsKnown (leaf x)
leaf_known (typed f i j l ps) h = (h.0, tt, tt, tt)

cut_by : (b : Bool) (x : Part) (xs : Parts) → IsKnown x → AllKnown xs → AllKnown (cond b (Some (leaf x)) (Some x) ∷ xs)
cut_by true x xs h g = (leaf_known x h, g)
cut_by false x xs h g = (h, g)

pub first_cut_known : (xs : Parts) → AllKnown xs → AllKnown (first_cut xs)
first_cut_known [] h = tt
first_cut_known (None ∷ xs) h = h
first_cut_known (Some x ∷ xs) h = cut_by (is_type (sort_of x)) x xs h.0 h.1

held_by : (b : Bool) (x : Part) → IsKnown x → AllKnown (cond b (list_of (parts_of x)) (Some x ∷ []))
held_by true x h = known_parts x h
held_by false x h = (h, tt)

pub held_known : (x : Part) → IsKnown x → AllKnown (held (Some x))
held_known x h = held_by (is_held (form_of x)) x h

pub optional_known : (o : Option Part) → AllKnown (o ∷ []) → AllKnown (held o)
optional_known None h = tt
optional_known (Some x) h = held_known x h.0

pub all_held_known : (xs : Parts) → AllKnown xs → AllKnown (all_held xs)
all_held_known [] h = tt
all_held_known (None ∷ xs) h = all_held_known xs h
all_held_known (Some x ∷ xs) h = known_both (held (Some x)) (all_held xs) (held_known x h.0) (all_held_known xs h.1)

new_or_known_known : (o : Option TypeTree) (n i j : ℕ) (l : Label TypeTree) (ps : Typeds TypeTree) → IsKnown (typed (form.Declared n) i j l ps) → IsKnown (typed (new_or_known n o) i j l ps)
new_or_known_known (Some t) n i j l ps h = h
new_or_known_known None n i j l ps h = h

form_known : (ls : Locals) (f : Form) (i j : ℕ) (l : Label TypeTree) (ps : Typeds TypeTree) → IsKnown (typed f i j l ps) → IsKnown (typed (new_form ls f) i j l ps)
form_known ls (form.Declared n) i j l ps h = new_or_known_known (declared_type ls n) n i j l ps h
form_known ls f i j l ps h = h

pub new_names_known : (ls : Locals) (xs : Parts) → AllKnown xs → AllKnown (map (new_name ls) xs)
new_names_known ls [] h = tt
new_names_known ls (None ∷ xs) h = new_names_known ls xs h
new_names_known ls (Some (typed f i j l ps) ∷ xs) h = (form_known ls f i j l ps h.0, new_names_known ls xs h.1)

-- ---- nodes over them are judged

next_judged : (a b : Bool) → a ≡ false → not b ≡ true → not (a || b) ≡ true
next_judged true b e h = cc
next_judged false b e h = h

pub known_judged : (ys : Parts) → AllKnown ys → is_judged ys ≡ true
known_judged [] h = refl
known_judged (None ∷ ys) h = known_judged ys h
known_judged (Some y ∷ ys) h = next_judged (is_unknown (sort_of y)) (list_any is_lost ys) (known_sort y h.0) (known_judged ys h.1)

-- ---- what parts of statements take

-- names that are declared are those of the function, and what they stand for is known
abbrev pub StandsWell : List Taking → Parts → Type 0
StandsWell [] ys = Unit {0}
StandsWell (k ∷ ks) [] = Unit {0}
StandsWell (k ∷ ks) (None ∷ ys) = StandsWell ks ys
StandsWell (takes k ∷ ks) (Some y ∷ ys) = StandsWell ks ys
StandsWell (stands z ∷ ks) (Some y ∷ ys) = (is_unknown z ≡ false) × (is_object (form_of y) ≡ false) × StandsWell ks ys

no_variable : (f : Form) → is_object f ≡ false → is_package_variable f ≡ false
no_variable (form.Object r) e = cc
no_variable f e = refl

standing_known : (z : Stands) (y : Part) → is_unknown z ≡ false → is_object (form_of y) ≡ false → IsKnown y → IsKnown (given_part (stands z) y)
standing_known z (typed f i j l ps) u e h = (u, subst (λ b. VariableIsTyped b z) (sym (no_variable f e)) tt, h.2, h.3)

pub stands_known : (ks : List Taking) (ys : Parts) → StandsWell ks ys → AllKnown ys → AllKnown (all_given ks ys)
stands_known [] ys w h = h
stands_known (k ∷ ks) [] w h = tt
stands_known (k ∷ ks) (None ∷ ys) w h = stands_known ks ys w h
stands_known (takes k ∷ ks) (Some y ∷ ys) w h = (given_known k y h.0, stands_known ks ys w h.1)
stands_known (stands z ∷ ks) (Some y ∷ ys) w h = (standing_known z y w.0 w.1 h.0, stands_known ks ys w.2 h.1)
