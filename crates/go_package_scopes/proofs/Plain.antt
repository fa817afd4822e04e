-- An expression holds no branch, and no statement that one may leave.
use Rattle.std.proofs.Common.{◌≡◌, ℕ, Bool, true, false, List, [], ◌∷◌, ◌++◌, Option, Some, None, refl}
use Rattle.std.specs.Prelude.{◌-◌, if◌then◌else◌}
use Rattle.go_grammar.specs.declared.kind.Kind.{Kind}
use Rattle.go_grammar.specs.declared.kind.Kind.TheVariants as kind
use Rattle.go_grammar.specs.Trees.{Tree, node, Trees, kind_of}
use Rattle.go_grammar.specs.Trees as syntax
use Rattle.go_tree.specs.declared.object.Object.{Object}
use Rattle.go_tree.specs.declared.object.Object.TheVariants as object
use Rattle.go_types.specs.Trees.{TypeTree}
use Rattle.go_types.specs.Relations.{Rights}
use Rattle.go_typed.specs.declared.form.Form.{Form}
use Rattle.go_typed.specs.declared.form.Form.TheVariants as form
use Rattle.go_typed.specs.Trees.{Typed, typed, Typeds, row, list_of, sort_of}
use Rattle.go_typed.specs.Trees as trees
use Rattle.go_exprs_rules.specs.declared.family.OpenKind.{OpenKind}
use Rattle.go_exprs_rules.specs.Names.{name_sort, object_form, declared_form, form_or_type, name_form}
use Rattle.go_exprs_rules.specs.Scopes.{Scope, Hint, declares, free, member}
use Rattle.go_exprs_rules.specs.Settling.{Part, Take, stay, default, as_type, settled, all_settled, defaulted, given}
use Rattle.go_exprs_rules.specs.Sorts.{Stands, takes_type, retyped, open_kind, default_type}
use Rattle.go_exprs_rules.specs.Tables.{Parts, is_make, hint, part_scope, is_held, held, all_held, leaf, is_type, cut, first_cut, call_parts, has_no_low, bounds_of}
use Rattle.go_exprs_rules.specs.Tables.{bracketed_parts, is_package, selector_parts, behind_first, layout, callee_form, on_first, key_form, selector_form, bracketed_form, form_by, takes, all_given, is_sound, own_faults, built_by}
use Rattle.go_exprs_rules.specs.Typing.{typing, typings}

-- ---- trees without branches

abbrev pub is_plain : Form → Bool
is_plain form.Break = false
is_plain form.Continue = false
is_plain form.Fallthrough = false
is_plain form.For = false
is_plain (form.Range d n) = false
is_plain form.Switch = false
is_plain f = true

abbrev mutual
  pub Plain : Typed TypeTree → Type 0
  Plain (typed f i j l ps) = (is_plain f ≡ true) × AllPlain ps

  pub AllPlain : Typeds TypeTree → Type 0
  AllPlain trees.none = Unit {0}
  AllPlain (trees.more p ps) = Plain p × AllPlain ps
  AllPlain (trees.skip ps) = AllPlain ps

-- ---- forms

object_plain : (s : Scope) (x : Option Object) → is_plain (object_form s x) ≡ true
object_plain s None = refl
object_plain s (Some object.Import) = refl
object_plain s (Some (object.Predeclared p)) = refl
object_plain s (Some (object.Package n)) = refl
object_plain s (Some (object.Local f n)) = refl

pub declared_plain : (s : Scope) (x : Option Object) → is_plain (declared_form s x) ≡ true
declared_plain s None = refl
declared_plain s (Some object.Import) = refl
declared_plain s (Some (object.Predeclared p)) = refl
declared_plain s (Some (object.Package n)) = refl
declared_plain s (Some (object.Local f n)) = refl

type_plain : (x : Stands) (f : Form) → is_plain f ≡ true → is_plain (form_or_type x f) ≡ true
type_plain (trees.IsType t) f e = refl
type_plain x f e = e

name_plain : (s : Scope) (h : Hint) (i : ℕ) → is_plain (name_form s h i) ≡ true
name_plain s declares i = declared_plain s (s.objects i)
name_plain s free i = declared_plain s (s.objects i)
name_plain s h i = type_plain (name_sort s h i) (object_form s (s.objects i)) (object_plain s (s.objects i))

selector_form_plain : (rights : Rights) (name : List ℕ) (ys : Parts) → is_plain (selector_form rights name ys) ≡ true
selector_form_plain rights name [] = refl
selector_form_plain rights name (Some x ∷ []) = refl
selector_form_plain rights name (None ∷ xs) = refl
selector_form_plain rights name (Some x ∷ y ∷ xs) = refl

bracketed_form_plain : (ys : Parts) → is_plain (bracketed_form ys) ≡ true
bracketed_form_plain [] = refl
bracketed_form_plain (x ∷ []) = refl
bracketed_form_plain (x ∷ y ∷ []) = refl
bracketed_form_plain (x ∷ y ∷ z ∷ xs) = refl

callee_plain : (x : Stands) → is_plain (callee_form x) ≡ true
callee_plain (trees.IsType t) = refl
callee_plain x = refl

call_form_plain : (ys : Parts) → is_plain (on_first form.Call (λ f xs. callee_form (sort_of f)) ys) ≡ true
call_form_plain [] = refl
call_form_plain (None ∷ xs) = refl
call_form_plain (Some x ∷ xs) = callee_plain (sort_of x)

key_plain : (rights : Rights) (h : Hint) (name : List ℕ) → is_plain (key_form rights h name) ≡ true
key_plain rights (member t) name = refl
key_plain rights h name = refl

form_plain : (s : Scope) (k : Kind) (h : Hint) (i j : ℕ) (ys : Parts) → is_plain (form_by s k h i j ys) ≡ true
form_plain s kind.Name h i j ys = name_plain s h i
form_plain s kind.Selector h i j ys = selector_form_plain s.rights (s.texts (j - 1)) ys
form_plain s kind.Bracketed h i j ys = bracketed_form_plain ys
form_plain s kind.Call h i j ys = call_form_plain ys
form_plain s kind.Keyed h i j ys = key_plain s.rights h (s.texts i)
form_plain s k h i j ys = refl

-- ---- parts

abbrev pub PartsPlain : Parts → Type 0
PartsPlain [] = Unit {0}
PartsPlain (None ∷ xs) = PartsPlain xs
PartsPlain (Some x ∷ xs) = Plain x × PartsPlain xs

pub row_plain : (xs : Parts) → PartsPlain xs → AllPlain (row xs)
row_plain [] h = tt
row_plain (None ∷ xs) h = row_plain xs h
row_plain (Some x ∷ xs) h = (h.0, row_plain xs h.1)

pub list_plain : (ps : Typeds TypeTree) → AllPlain ps → PartsPlain (list_of ps)
list_plain trees.none h = tt
list_plain (trees.more p ps) h = (h.0, list_plain ps h.1)
list_plain (trees.skip ps) h = list_plain ps h

pub append_plain : (xs ys : Parts) → PartsPlain xs → PartsPlain ys → PartsPlain (xs ++ ys)
append_plain [] ys h g = g
append_plain (None ∷ xs) ys h g = append_plain xs ys h g
append_plain (Some x ∷ xs) ys h g = (h.0, append_plain xs ys h.1 g)

-- ---- what parts take

mutual
  settled_plain : (t : TypeTree) (x : Part) → Plain x → Plain (settled t x)
  settled_plain t (typed f i j l ps) e = by (takes_type l.sort) (all_settled_plain t ps e.1)
    where
      by : (b : Bool) → AllPlain (all_settled t ps) → Plain (if b then typed f i j (record l { sort = retyped t l.sort }) (all_settled t ps) else typed f i j l ps)
      by true h = (e.0, h)
      by false h = e

  all_settled_plain : (t : TypeTree) (ps : Typeds TypeTree) → AllPlain ps → AllPlain (all_settled t ps)
  all_settled_plain t trees.none h = tt
  all_settled_plain t (trees.more p ps) h = (settled_plain t p h.0, all_settled_plain t ps h.1)
  all_settled_plain t (trees.skip ps) h = all_settled_plain t ps h

defaulted_plain : (k : Option OpenKind) (x : Part) → Plain x → Plain (defaulted k x)
defaulted_plain None x h = h
defaulted_plain (Some k) x h = settled_plain (default_type k) x h

pub given_plain : (k : Take) (x : Part) → Plain x → Plain (given k x)
given_plain stay x h = h
given_plain default x h = defaulted_plain (open_kind (sort_of x)) x h
given_plain (as_type t) x h = settled_plain t x h

all_given_plain : (ks : List Take) (xs : Parts) → PartsPlain xs → PartsPlain (all_given ks xs)
all_given_plain [] xs h = h
all_given_plain (k ∷ ks) [] h = tt
all_given_plain (k ∷ ks) (None ∷ xs) h = all_given_plain ks xs h
all_given_plain (k ∷ ks) (Some x ∷ xs) h = (given_plain k x h.0, all_given_plain ks xs h.1)

-- ---- layouts

leaf_plain : (x : Part) → Plain (leaf x)
leaf_plain (typed f i j l ps) = (refl, tt)

cut_plain : (x : Part) (b : Bool) (xs : Parts) → Plain x → PartsPlain xs → PartsPlain ((if b then Some (leaf x) else Some x) ∷ xs)
cut_plain x true xs h g = (leaf_plain x, g)
cut_plain x false xs h g = (h, g)

pub first_cut_plain : (xs : Parts) → PartsPlain xs → PartsPlain (first_cut xs)
first_cut_plain [] h = tt
first_cut_plain (None ∷ xs) h = h
first_cut_plain (Some x ∷ xs) h = cut_plain x (is_type (sort_of x)) xs h.0 h.1

call_plain : (xs : Parts) → PartsPlain xs → PartsPlain (call_parts xs)
call_plain [] h = tt
call_plain (None ∷ xs) h = h
call_plain (Some f ∷ xs) h = by (is_make (sort_of f)) (first_cut_plain xs h.1) (cut_plain f (is_type (sort_of f)) xs h.0 h.1)
  where
    by : (b : Bool) → PartsPlain (first_cut xs) → PartsPlain (cut (Some f) ∷ xs) → PartsPlain (if b then Some f ∷ first_cut xs else cut (Some f) ∷ xs)
    by true x y = (h.0, x)
    by false x y = y

selector_plain : (xs : Parts) → PartsPlain xs → PartsPlain (selector_parts xs)
selector_plain [] h = tt
selector_plain (None ∷ xs) h = h
selector_plain (Some x ∷ []) h = by (is_package (sort_of x))
  where
    by : (b : Bool) → PartsPlain (if b then [] else Some x ∷ [])
    by true = tt
    by false = h
selector_plain (Some x ∷ y ∷ xs) h = h

pub held_plain : (x : Option Part) → PartsPlain (x ∷ []) → PartsPlain (held x)
held_plain None h = tt
held_plain (Some (typed f i j l ps)) h = by (is_held f) (list_plain ps h.0.1)
  where
    by : (b : Bool) → PartsPlain (list_of ps) → PartsPlain (if b then list_of ps else Some (typed f i j l ps) ∷ [])
    by true g = g
    by false g = h

bounds_plain : (x : Option Part) → PartsPlain (x ∷ []) → PartsPlain (bounds_of x)
bounds_plain x h = by (has_no_low x) (held_plain x h)
  where
    by : (b : Bool) → PartsPlain (held x) → PartsPlain (if b then None ∷ held x else held x)
    by true g = g
    by false g = g

bracketed_plain : (xs : Parts) → PartsPlain xs → PartsPlain (bracketed_parts xs)
bracketed_plain [] h = tt
bracketed_plain (x ∷ []) h = h
bracketed_plain (None ∷ None ∷ ys) h = bounds_plain None tt
bracketed_plain (None ∷ Some y ∷ ys) h = bounds_plain (Some y) (h.0, tt)
bracketed_plain (Some x ∷ None ∷ ys) h = (h.0, bounds_plain None tt)
bracketed_plain (Some x ∷ Some y ∷ ys) h = (h.0, bounds_plain (Some y) (h.1.0, tt))

pub behind_plain : (xs : Parts) → PartsPlain xs → PartsPlain (behind_first xs)
behind_plain [] h = tt
behind_plain (None ∷ xs) h = h
behind_plain (Some x ∷ xs) h = h.1

pub all_held_plain : (xs : Parts) → PartsPlain xs → PartsPlain (all_held xs)
all_held_plain [] h = tt
all_held_plain (None ∷ xs) h = all_held_plain xs h
all_held_plain (Some x ∷ xs) h = append_plain (held (Some x)) (all_held xs) (held_plain (Some x) (h.0, tt)) (all_held_plain xs h.1)

layout_plain : (k : Kind) (xs : Parts) → PartsPlain xs → PartsPlain (layout k xs)
layout_plain kind.Selector xs h = selector_plain xs h
layout_plain kind.Bracketed xs h = bracketed_plain xs h
layout_plain kind.Call xs h = call_plain xs h
layout_plain kind.Composite xs h = first_cut_plain xs h
layout_plain kind.LiteralValue xs h = h
layout_plain kind.Keyed xs h = behind_plain xs h
layout_plain kind.Fields xs h = all_held_plain xs h
layout_plain kind.StructType xs h = all_held_plain xs h
layout_plain k xs h = h

-- ---- trees

built_plain : (s : Scope) (k : Kind) (h : Hint) (i j : ℕ) (ys : Parts) (b : Bool) → PartsPlain ys → Plain (built_by s k h i j ys b)
built_plain s k h i j ys true g = (form_plain s k h i j ys, row_plain (all_given (takes s k h ys) ys) (all_given_plain (takes s k h ys) ys g))
built_plain s k h i j ys false g = (form_plain s k h i j ys, row_plain ys g)

mutual
  pub typing_plain : (s : Scope) (h : Hint) (t : Tree) → Plain (typing s h t)
  typing_plain s h (node k i j ps) =
      let ys : Parts = layout k (typings s k h ps [] ps) in built_plain s k h i j ys (is_sound k ys (own_faults s k h i j ys)) (layout_plain k (typings s k h ps [] ps) (typings_plain s k h ps [] ps tt))

  typings_plain : (s : Scope) (k : Kind) (h : Hint) (all : Trees) (xs : Parts) (ps : Trees) → PartsPlain xs → PartsPlain (typings s k h all xs ps)
  typings_plain s k h all xs syntax.none g = g
  typings_plain s k h all xs (syntax.more p ps) g =
      let q : Part = typing (part_scope s k xs) (hint s k h all xs (kind_of p)) p in
      let m : Plain q = (typing_plain (part_scope s k xs) (hint s k h all xs (kind_of p)) p) in
      typings_plain s k h all (xs ++ Some q ∷ []) ps (append_plain xs (Some q ∷ []) g (m, tt))
  typings_plain s k h all xs (syntax.skip ps) g = typings_plain s k h all (xs ++ None ∷ []) ps (append_plain xs (None ∷ []) g tt)
