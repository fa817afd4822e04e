-- How parts that take types are laid out.
use Rattle.std.proofs.Common.{◌≡◌, Bool, true, false, cond, List, [], ◌∷◌, map, Option, Some, None, refl, ap, sym, ◌∙◌}
use Rattle.std.specs.Option.{option_map}
use Rattle.go_grammar.specs.declared.kind.Kind.{Kind}
use Rattle.go_grammar.specs.declared.kind.Kind.TheVariants as kind
use Rattle.go_types.specs.Trees.{TypeTree}
use Rattle.go_typed.specs.declared.form.Form.{Form}
use Rattle.go_typed.specs.declared.form.Form.TheVariants as form
use Rattle.go_typed.specs.Trees.{Sort, Typed, typed, Typeds, row, list_of, sort_of, form_of, parts_of, more, skip}
use Rattle.go_typed.specs.Trees as sort
use Rattle.go_exprs_rules.specs.Sorts.{Stands, default_type, kind_of_untyped, kind_of_const, retyped, int}
use Rattle.go_exprs_rules.specs.Settling.{Part, Take, stay, default, as_type, settled, given}
use Rattle.go_exprs_rules.specs.Tables.{Parts, take_optional, all_given, is_held, leaf, is_type, cut, first_cut, is_make, is_make_call, call_parts, bounds_of, bracketed_parts, is_package, selector_parts, behind_first}
use Rattle.go_exprs.specs.Final.{Wanted, take, bound, each, all_take, first_wanted, rest_wanted}
use Rattle.go_exprs.proofs.Takes.{labelled, typed_stays}

-- ---- each part with what is wanted of it

abbrev pub is_bounds : Form → Bool
is_bounds (form.Held kind.Bounds) = true
is_bounds (form.Held kind.BoundsFrom) = true
is_bounds f = false

abbrev pub bound_takes : Form → List Take
bound_takes (form.Held kind.Bounds) = as_type int ∷ []
bound_takes (form.Held kind.BoundsFrom) = as_type int ∷ as_type int ∷ []
bound_takes f = []

abbrev pub within_bounds : Part → Part
within_bounds (typed f i j l ps) = typed f i j l (row (all_given (bound_takes f) (list_of ps)))

-- an index, or bounds
abbrev pub bounded : Part → Part
bounded x = cond (is_bounds (form_of x)) (within_bounds x) (settled int x)

abbrev pub given_as : Wanted → Part → Part
given_as (take k) x = given k x
given_as bound x = bounded x

abbrev pub given_each : List Wanted → Parts → Parts
given_each ws [] = []
given_each ws (None ∷ xs) = None ∷ given_each (rest_wanted ws) xs
given_each ws (Some x ∷ xs) = Some (given_as (first_wanted ws) x) ∷ given_each (rest_wanted ws) xs

pub none_each : (xs : Parts) → given_each [] xs ≡ xs
none_each [] = refl
none_each (None ∷ xs) = ap (λ ys. None ∷ ys) (none_each xs)
none_each (Some x ∷ xs) = ap (λ ys. Some x ∷ ys) (none_each xs)

pub takes_each : (ks : List Take) (xs : Parts) → given_each (all_take ks) xs ≡ all_given ks xs
takes_each [] xs = none_each xs
takes_each (k ∷ ks) [] = refl
takes_each (k ∷ ks) (None ∷ xs) = ap (λ ys. None ∷ ys) (takes_each ks xs)
takes_each (k ∷ ks) (Some x ∷ xs) = ap (λ ys. Some (given k x) ∷ ys) (takes_each ks xs)

pub same_each : (k : Take) (xs : Parts) → given_each (all_take (each k xs)) xs ≡ map (option_map (given k)) xs
same_each k [] = refl
same_each k (None ∷ xs) = ap (λ ys. None ∷ ys) (same_each k xs)
same_each k (Some x ∷ xs) = ap (λ ys. Some (given k x) ∷ ys) (same_each k xs)

pub list_row : (xs : Parts) → list_of (row xs) ≡ xs
list_row [] = refl
list_row (None ∷ xs) = ap (λ ys. None ∷ ys) (list_row xs)
list_row (Some x ∷ xs) = ap (λ ys. Some x ∷ ys) (list_row xs)

-- ---- what stays the same where a type is taken

-- a question to which what takes a type gives one answer, whatever type it takes
pub kept_by : {A : Type 0} (q : Stands → A) → ((t : TypeTree) (s : Stands) → q (retyped t s) ≡ q s) → (k : Take) (x : Part) → q (sort_of (given k x)) ≡ q (sort_of x)
kept_by q h stay x = refl
kept_by q h (as_type t) (typed f i j l ps) = by_sort l.sort
  where
    by_sort : (s : Stands) → q (sort_of (settled t (typed f i j (labelled s l.varies l.calls) ps))) ≡ q s
    by_sort (sort.Open u) = h t (sort.Open u)
    by_sort (sort.OpenConstant k) = h t (sort.OpenConstant k)
    by_sort sort.Nil = h t sort.Nil
    by_sort s = refl
kept_by q h default (typed f i j l ps) = by_sort l.sort
  where
    by_sort : (s : Stands) → q (sort_of (given default (typed f i j (labelled s l.varies l.calls) ps))) ≡ q s
    by_sort (sort.Open u) = h (default_type (kind_of_untyped u)) (sort.Open u)
    by_sort (sort.OpenConstant k) = h (default_type (kind_of_const k)) (sort.OpenConstant k)
    by_sort s = refl

retyped_type : (t : TypeTree) (s : Stands) → is_type (retyped t s) ≡ is_type s
retyped_type t (sort.Open u) = refl
retyped_type t (sort.OpenConstant k) = refl
retyped_type t sort.Nil = refl
retyped_type t s = refl

retyped_make : (t : TypeTree) (s : Stands) → is_make (retyped t s) ≡ is_make s
retyped_make t (sort.Open u) = refl
retyped_make t (sort.OpenConstant k) = refl
retyped_make t sort.Nil = refl
retyped_make t s = refl

retyped_package : (t : TypeTree) (s : Stands) → is_package (retyped t s) ≡ is_package s
retyped_package t (sort.Open u) = refl
retyped_package t (sort.OpenConstant k) = refl
retyped_package t sort.Nil = refl
retyped_package t s = refl

pub form_kept : (t : TypeTree) (x : Part) → form_of (settled t x) ≡ form_of x
form_kept t (typed f i j l ps) = by_sort l.sort
  where
    by_sort : (s : Stands) → form_of (settled t (typed f i j (labelled s l.varies l.calls) ps)) ≡ f
    by_sort (sort.Open u) = refl
    by_sort (sort.OpenConstant k) = refl
    by_sort sort.Nil = refl
    by_sort s = refl

-- ---- inside types are no nodes

cut_given : (k : Take) (x : Option Part) → cut (take_optional k x) ≡ take_optional k (cut x)
cut_given k None = refl
cut_given k (Some (typed f i j l ps)) = by_sort l.sort
  where
    by_sort : (s : Stands) → cut (take_optional k (Some (typed f i j (labelled s l.varies l.calls) ps))) ≡ take_optional k (cut (Some (typed f i j (labelled s l.varies l.calls) ps)))
    by_sort (sort.IsType t) = ap (λ x. cut (Some x)) (typed_stays k (typed f i j (labelled (sort.IsType t) l.varies l.calls) ps) refl) ∙ sym (ap Some (typed_stays k (leaf (typed f i j (labelled (sort.IsType t) l.varies l.calls) ps)) refl))
    by_sort s = let x : Part = typed f i j (labelled s l.varies l.calls) ps in ap (λ b. cond b (Some (leaf (given k x))) (Some (given k x))) (kept_by is_type retyped_type k x)

pub first_cut_given : (ks : List Take) (xs : Parts) → all_given ks (first_cut xs) ≡ first_cut (all_given ks xs)
first_cut_given [] xs = refl
first_cut_given (k ∷ ks) [] = refl
first_cut_given (k ∷ ks) (x ∷ xs) = ap (λ y. y ∷ all_given ks xs) (sym (cut_given k x))

make_kept : (k : Take) (f : Option Part) (xs ys : Parts) → is_make_call (take_optional k f ∷ xs) ≡ is_make_call (f ∷ ys)
make_kept k None xs ys = refl
make_kept k (Some f) xs ys = kept_by is_make retyped_make k f

pub call_given : (ks : List Take) (xs : Parts) → all_given ks (call_parts xs) ≡ call_parts (all_given ks xs)
call_given [] xs = refl
call_given (k ∷ ks) [] = refl
call_given (k ∷ ks) (f ∷ xs) = by (is_make_call (f ∷ xs)) ∙ ap (λ b. cond b (take_optional k f ∷ first_cut (all_given ks xs)) (cut (take_optional k f) ∷ all_given ks xs)) (sym (make_kept k f (all_given ks xs) xs))
  where
    by : (b : Bool) → all_given (k ∷ ks) (cond b (f ∷ first_cut xs) (cut f ∷ xs)) ≡ cond b (take_optional k f ∷ first_cut (all_given ks xs)) (cut (take_optional k f) ∷ all_given ks xs)
    by true = ap (λ ys. take_optional k f ∷ ys) (first_cut_given ks xs)
    by false = ap (λ y. y ∷ all_given ks xs) (sym (cut_given k f))

pub selector_given : (k : Take) (xs : Parts) → map (option_map (given k)) (selector_parts xs) ≡ selector_parts (map (option_map (given k)) xs)
selector_given k [] = refl
selector_given k (None ∷ xs) = refl
selector_given k (Some x ∷ y ∷ ys) = refl
selector_given k (Some x ∷ []) = by (is_package (sort_of x)) ∙ ap (λ b. cond b [] (Some (given k x) ∷ [])) (sym (kept_by is_package retyped_package k x))
  where
    by : (b : Bool) → map (option_map (given k)) (cond b [] (Some x ∷ [])) ≡ cond b [] (Some (given k x) ∷ [])
    by true = refl
    by false = refl

pub behind_given : (k : Take) (xs : Parts) → map (option_map (given k)) (behind_first xs) ≡ behind_first (map (option_map (given k)) xs)
behind_given k [] = refl
behind_given k (x ∷ xs) = refl

pub all_stay : (xs : Parts) → map (option_map (given stay)) xs ≡ xs
all_stay [] = refl
all_stay (None ∷ xs) = ap (λ ys. None ∷ ys) (all_stay xs)
all_stay (Some x ∷ xs) = ap (λ ys. Some x ∷ ys) (all_stay xs)

-- ---- an index, or bounds

-- it is bounds, or no holder
abbrev pub IsBracket : Part → Type 0
IsBracket y = is_held (form_of y) ≡ is_bounds (form_of y)

lone : (x : Part) → is_held (form_of x) ≡ false → bounds_of (Some x) ≡ Some x ∷ []
lone (typed (form.Held k) i j l ps) e = cc
lone (typed f i j l ps) e = refl

bounds_given : (y : Part) → IsBracket y → all_given (as_type int ∷ as_type int ∷ []) (bounds_of (Some y)) ≡ bounds_of (Some (bounded y))
bounds_given (typed (form.Held kind.Bounds) i j l ps) e = ap (λ ys. None ∷ ys) (sym (list_row (all_given (as_type int ∷ []) (list_of ps))))
bounds_given (typed (form.Held kind.BoundsFrom) i j l ps) e = sym (list_row (all_given (as_type int ∷ as_type int ∷ []) (list_of ps)))
bounds_given (typed (form.Held k) i j l ps) e = cc
bounds_given (typed f i j l ps) e =
    ap (all_given (as_type int ∷ as_type int ∷ [])) (lone (typed f i j l ps) refl) ∙ sym (lone (settled int (typed f i j l ps)) (ap is_held (form_kept int (typed f i j l ps))))

-- none is left out
abbrev pub AllThere : Parts → Type 0
AllThere [] = Unit {0}
AllThere (None ∷ xs) = ⊥
AllThere (Some x ∷ xs) = AllThere xs

there_cut : (x : Part) (xs : Parts) → AllThere xs → AllThere (cut (Some x) ∷ xs)
there_cut x xs h = by (is_type (sort_of x))
  where
    by : (b : Bool) → AllThere (cond b (Some (leaf x)) (Some x) ∷ xs)
    by true = h
    by false = h

there_first : (xs : Parts) → AllThere xs → AllThere (first_cut xs)
there_first [] h = tt
there_first (None ∷ xs) h = absurd h
there_first (Some x ∷ xs) h = there_cut x xs h

pub there_call : (xs : Parts) → AllThere xs → AllThere (call_parts xs)
there_call [] h = tt
there_call (None ∷ xs) h = absurd h
there_call (Some f ∷ xs) h = by (is_make_call (Some f ∷ xs))
  where
    by : (b : Bool) → AllThere (cond b (Some f ∷ first_cut xs) (cut (Some f) ∷ xs))
    by true = there_first xs h
    by false = there_cut f xs h

-- the parts of an index or slice expression, and of a call, as the grammar has them
abbrev pub Fit : Kind → Parts → Type 0
Fit kind.Bracketed (x ∷ Some y ∷ xs) = IsBracket y
Fit kind.Call xs = AllThere xs
Fit k xs = Unit {0}

pub bracketed_given : (xs : Parts) → Fit kind.Bracketed xs → all_given (default ∷ as_type int ∷ as_type int ∷ []) (bracketed_parts xs) ≡ bracketed_parts (given_each (take default ∷ bound ∷ []) xs)
bracketed_given [] h = refl
bracketed_given (None ∷ []) h = refl
bracketed_given (Some x ∷ []) h = refl
bracketed_given (None ∷ None ∷ xs) h = refl
bracketed_given (Some x ∷ None ∷ xs) h = refl
bracketed_given (None ∷ Some y ∷ xs) h = ap (λ ys. None ∷ ys) (bounds_given y h)
bracketed_given (Some x ∷ Some y ∷ xs) h = ap (λ ys. Some (given default x) ∷ ys) (bounds_given y h)
