-- Trees in which no constant is called, and none is a struct, put together.
use Rattle.std.proofs.Common.{◌≡◌, ◌∙◌, ℕ, zero, suc, Bool, true, false, if◌then◌else◌, List, [], ◌∷◌, ◌++◌, take, Option, Some, None, refl, ap}
use Rattle.std.specs.Prelude.{not, ◌&&◌}
use Rattle.go_types.specs.Trees.{TypeTree}
use Rattle.go_typed.specs.declared.form.Form.{Form}
use Rattle.go_typed.specs.declared.form.Form.TheVariants as form
use Rattle.go_typed.specs.Trees.{typed, Typeds, none, more, skip, row, list_of, form_of, parts_of, sort_of}
use Rattle.go_typed.specs.Trees as sort
use Rattle.go_exprs_rules.specs.declared.family.OpenKind.{OpenKind}
use Rattle.go_exprs_rules.specs.Settling.{Part, Take, stay, default, as_type, settled, all_settled, defaulted, given}
use Rattle.go_exprs_rules.specs.Sorts.{Stands, takes_type, open_kind, retyped, default_type}
use Rattle.go_exprs_rules.specs.Tables.{Parts, is_held, held, all_held, is_type, leaf, cut, first_cut, behind_first, all_given}
use Rattle.clone_window.specs.Masses.{is_constant}
use Rattle.go_function_holes.specs.Holes.{is_first_constant, applies, calls_no_constant, none_called}

pub differ : {A : Type 0} → (let b : Bool = false in b) ≡ true → A
differ e = absurd cc

pub both_true : (a b : Bool) → (a && b) ≡ true → (a ≡ true) × (b ≡ true)
both_true true true e = (refl, refl)
both_true true false e = differ e
both_true false b e = differ e

pub truly : (a b : Bool) → a ≡ true → b ≡ true → (a && b) ≡ true
truly true true e f = refl
truly true false e f = differ f
truly false b e f = differ e

pub whichever : {A : Type 0} (P : A → Type 0) (b : Bool) (x y : A) → P x → P y → P (if b then x else y)
whichever P true x y g h = g
whichever P false x y g h = h

-- no constant is called in it
abbrev pub Free : Part → Type 0
Free x = calls_no_constant x ≡ true

abbrev pub EachFree : Parts → Type 0
EachFree [] = Unit {0}
EachFree (None ∷ xs) = EachFree xs
EachFree (Some x ∷ xs) = Free x × EachFree xs

abbrev pub MaybeFree : Option Part → Type 0
MaybeFree None = Unit {0}
MaybeFree (Some x) = Free x

pub row_free : (xs : Parts) → EachFree xs → none_called (row xs) ≡ true
row_free [] h = refl
row_free (None ∷ xs) h = row_free xs h
row_free (Some x ∷ xs) h = truly (calls_no_constant x) (none_called (row xs)) h.0 (row_free xs h.1)

pub list_free : (ps : Typeds TypeTree) → none_called ps ≡ true → EachFree (list_of ps)
list_free none h = tt
list_free (more p ps) h = let s = both_true (calls_no_constant p) (none_called ps) h in (s.0, list_free ps s.1)
list_free (skip ps) h = list_free ps h

pub inner_free : (x : Part) → Free x → EachFree (list_of (parts_of x))
inner_free (typed f i j l ps) h = list_free ps (both_true (applies f ps) (none_called ps) h).1

pub append_free : (xs ys : Parts) → EachFree xs → EachFree ys → EachFree (xs ++ ys)
append_free [] ys h g = g
append_free (None ∷ xs) ys h g = append_free xs ys h g
append_free (Some x ∷ xs) ys h g = (h.0, append_free xs ys h.1 g)

pub one_more : (xs : Parts) (x : Part) → EachFree xs → Free x → EachFree (xs ++ Some x ∷ [])
one_more xs x h g = append_free xs (Some x ∷ []) h (g, tt)

pub one_less : (xs : Parts) → EachFree xs → EachFree (xs ++ None ∷ [])
one_less xs h = append_free xs (None ∷ []) h tt

pub take_free : (n : ℕ) (xs : Parts) → EachFree xs → EachFree (take n xs)
take_free zero xs h = tt
take_free (suc n) [] h = tt
take_free (suc n) (None ∷ xs) h = take_free n xs h
take_free (suc n) (Some x ∷ xs) h = (h.0, take_free n xs h.1)

pub held_free : (x : Part) → Free x → EachFree (held (Some x))
held_free x h = whichever EachFree (is_held (form_of x)) (list_of (parts_of x)) (Some x ∷ []) (inner_free x h) (h, tt)

pub option_free : (x : Option Part) → EachFree (x ∷ []) → EachFree (held x)
option_free None h = tt
option_free (Some x) h = held_free x h.0

pub all_held_free : (xs : Parts) → EachFree xs → EachFree (all_held xs)
all_held_free [] h = tt
all_held_free (None ∷ xs) h = all_held_free xs h
all_held_free (Some x ∷ xs) h = append_free (held (Some x)) (all_held xs) (held_free x h.0) (all_held_free xs h.1)

pub behind_free : (xs : Parts) → EachFree xs → EachFree (behind_first xs)
behind_free [] h = tt
behind_free (None ∷ xs) h = h
behind_free (Some x ∷ xs) h = h.1

leaf_free : (x : Part) → Free (leaf x)
leaf_free (typed f i j l ps) = refl

pub cut_free : (x : Part) (xs : Parts) → Free x → EachFree xs → EachFree (cut (Some x) ∷ xs)
cut_free x xs h g = whichever (λ y. EachFree (y ∷ xs)) (is_type (sort_of x)) (Some (leaf x)) (Some x) (leaf_free x, g) (h, g)

pub first_cut_free : (xs : Parts) → EachFree xs → EachFree (first_cut xs)
first_cut_free [] h = tt
first_cut_free (None ∷ xs) h = h
first_cut_free (Some x ∷ xs) h = cut_free x xs h.0 h.1

-- ---- what takes a type stays a constant, or none

constant_retyped : (t : TypeTree) (x : Stands) → is_constant (retyped t x) ≡ is_constant x
constant_retyped t (sort.Open u) = refl
constant_retyped t sort.Nil = refl
constant_retyped t (sort.OpenConstant c) = refl
constant_retyped t x = refl

constant_settled : (t : TypeTree) (x : Part) → is_constant (sort_of (settled t x)) ≡ is_constant (sort_of x)
constant_settled t (typed f i j l ps) =
    whichever (λ y. is_constant (sort_of y) ≡ is_constant l.sort) (takes_type l.sort) (typed f i j (record l { sort = retyped t l.sort }) (all_settled t ps)) (typed f i j l ps) (constant_retyped t l.sort) refl

pub constant_given : (k : Take) (x : Part) → is_constant (sort_of (given k x)) ≡ is_constant (sort_of x)
constant_given stay x = refl
constant_given default x = by (open_kind (sort_of x))
  where
    by : (o : Option OpenKind) → is_constant (sort_of (defaulted o x)) ≡ is_constant (sort_of x)
    by None = refl
    by (Some c) = constant_settled (default_type c) x
constant_given (as_type t) x = constant_settled t x

first_settled : (t : TypeTree) (ps : Typeds TypeTree) → is_first_constant (all_settled t ps) ≡ is_first_constant ps
first_settled t none = refl
first_settled t (more p ps) = constant_settled t p
first_settled t (skip ps) = refl

-- whether it may be applied depends on its first part alone
pub applies_same : (f : Form) (ps qs : Typeds TypeTree) → is_first_constant qs ≡ is_first_constant ps → applies f ps ≡ true → applies f qs ≡ true
applies_same form.Call ps qs e h = ap not e ∙ h
applies_same (form.Selector n) ps qs e h = ap not e ∙ h
applies_same f ps qs e h = refl

mutual
  settled_free : (t : TypeTree) (x : Part) → Free x → Free (settled t x)
  settled_free t (typed f i j l ps) h =
      let s = both_true (applies f ps) (none_called ps) h in
      whichever Free (takes_type l.sort) (typed f i j (record l { sort = retyped t l.sort }) (all_settled t ps)) (typed f i j l ps)
      (truly (applies f (all_settled t ps)) (none_called (all_settled t ps)) (applies_same f ps (all_settled t ps) (first_settled t ps) s.0) (all_settled_free t ps s.1)) h

  all_settled_free : (t : TypeTree) (ps : Typeds TypeTree) → none_called ps ≡ true → none_called (all_settled t ps) ≡ true
  all_settled_free t none h = refl
  all_settled_free t (more p ps) h =
      let s = both_true (calls_no_constant p) (none_called ps) h in truly (calls_no_constant (settled t p)) (none_called (all_settled t ps)) (settled_free t p s.0) (all_settled_free t ps s.1)
  all_settled_free t (skip ps) h = all_settled_free t ps h

pub given_free : (k : Take) (x : Part) → Free x → Free (given k x)
given_free stay x h = h
given_free default x h = by (open_kind (sort_of x))
  where
    by : (o : Option OpenKind) → Free (defaulted o x)
    by None = h
    by (Some c) = settled_free (default_type c) x h
given_free (as_type t) x h = settled_free t x h

pub all_given_free : (ks : List Take) (xs : Parts) → EachFree xs → EachFree (all_given ks xs)
all_given_free [] xs h = h
all_given_free (k ∷ ks) [] h = tt
all_given_free (k ∷ ks) (None ∷ xs) h = all_given_free ks xs h
all_given_free (k ∷ ks) (Some x ∷ xs) h = (given_free k x h.0, all_given_free ks xs h.1)

pub first_given : (ks : List Take) (xs : Parts) → is_first_constant (row (all_given ks xs)) ≡ is_first_constant (row xs)
first_given [] xs = refl
first_given (k ∷ ks) [] = refl
first_given (k ∷ ks) (None ∷ xs) = refl
first_given (k ∷ ks) (Some x ∷ xs) = constant_given k x
