-- Where an expression names a local, the token means it.
use Rattle.std.proofs.Common.{◌≡◌, ℕ, Bool, true, false, List, [], ◌∷◌, ◌++◌, Option, Some, None, refl, sym, subst}
use Rattle.std.specs.Prelude.{◌-◌, if◌then◌else◌}
use Rattle.go_grammar.specs.declared.kind.Kind.{Kind}
use Rattle.go_grammar.specs.declared.kind.Kind.TheVariants as kind
use Rattle.go_grammar.specs.Trees.{Tree, node, Trees, kind_of}
use Rattle.go_grammar.specs.Trees as syntax
use Rattle.go_tree.specs.declared.object.Object.{Object}
use Rattle.go_tree.specs.declared.object.Object.TheVariants as object
use Rattle.go_types.specs.Trees.{TypeTree}
use Rattle.go_types.specs.Relations.{Rights}
use Rattle.go_typed.specs.declared.form.Form.{Form}
use Rattle.go_typed.specs.declared.form.Form.TheVariants as form
use Rattle.go_typed.specs.Trees.{typed, Typeds, row, list_of, sort_of}
use Rattle.go_typed.specs.Trees as trees
use Rattle.go_exprs_rules.specs.declared.family.OpenKind.{OpenKind}
use Rattle.go_exprs_rules.specs.Names.{name_sort, object_form, declared_form, form_or_type, name_form}
use Rattle.go_exprs_rules.specs.Scopes.{Scope, Hint, declares, free, member}
use Rattle.go_exprs_rules.specs.Settling.{Part, Take, stay, default, as_type, settled, all_settled, defaulted, given}
use Rattle.go_exprs_rules.specs.Sorts.{Stands, takes_type, retyped, open_kind, default_type}
use Rattle.go_exprs_rules.specs.Tables.{Parts, is_make, hint, part_scope, is_held, held, all_held, leaf, is_type, cut, first_cut, call_parts, has_no_low, bounds_of}
use Rattle.go_exprs_rules.specs.Tables.{bracketed_parts, is_package, selector_parts, behind_first, layout, callee_form, on_first, key_form, selector_form, bracketed_form, form_by, takes, all_given, is_sound, own_faults, built_by}
use Rattle.go_exprs_rules.specs.Typing.{typing, typings}
use Rattle.go_stmts_scopes.specs.Names.{MeansLocal, NameMeans, NamesMean, AllNamesMean}

-- ---- forms

-- names of locals
abbrev pub is_local : Form → Bool
is_local (form.Local n) = true
is_local (form.New n) = true
is_local (form.Declared n) = true
is_local f = false

pub other_means : (o : ℕ → Option Object) (f : Form) (i : ℕ) → is_local f ≡ false → NameMeans o f i
other_means o (form.Local n) i e = cc
other_means o (form.New n) i e = cc
other_means o (form.Declared n) i e = cc
other_means o f i e = tt

pub object_means : (s : Scope) (x : Option Object) → (o : ℕ → Option Object) (i : ℕ) → o i ≡ x → NameMeans o (object_form s x) i
object_means s None o i e = tt
object_means s (Some object.Import) o i e = tt
object_means s (Some (object.Predeclared p)) o i e = tt
object_means s (Some (object.Package n)) o i e = tt
object_means s (Some (object.Local f n)) o i e = subst (λ x. MeansLocal x n) (sym e) refl

pub declared_means : (s : Scope) (x : Option Object) → (o : ℕ → Option Object) (i : ℕ) → o i ≡ x → NameMeans o (declared_form s x) i
declared_means s None o i e = tt
declared_means s (Some object.Import) o i e = tt
declared_means s (Some (object.Predeclared p)) o i e = tt
declared_means s (Some (object.Package n)) o i e = tt
declared_means s (Some (object.Local f n)) o i e = subst (λ x. MeansLocal x n) (sym e) refl

type_means : (x : Stands) (f : Form) (o : ℕ → Option Object) (i : ℕ) → NameMeans o f i → NameMeans o (form_or_type x f) i
type_means (trees.IsType t) f o i e = tt
type_means x f o i e = e

name_means : (s : Scope) (h : Hint) (i : ℕ) → NameMeans s.objects (name_form s h i) i
name_means s declares i = declared_means s (s.objects i) s.objects i refl
name_means s free i = declared_means s (s.objects i) s.objects i refl
name_means s h i = type_means (name_sort s h i) (object_form s (s.objects i)) s.objects i (object_means s (s.objects i) s.objects i refl)

selector_plain : (rights : Rights) (name : List ℕ) (ys : Parts) → is_local (selector_form rights name ys) ≡ false
selector_plain rights name [] = refl
selector_plain rights name (Some x ∷ []) = refl
selector_plain rights name (None ∷ xs) = refl
selector_plain rights name (Some x ∷ y ∷ xs) = refl

bracketed_plain : (ys : Parts) → is_local (bracketed_form ys) ≡ false
bracketed_plain [] = refl
bracketed_plain (x ∷ []) = refl
bracketed_plain (x ∷ y ∷ []) = refl
bracketed_plain (x ∷ y ∷ z ∷ xs) = refl

callee_plain : (x : Stands) → is_local (callee_form x) ≡ false
callee_plain (trees.IsType t) = refl
callee_plain x = refl

call_plain : (ys : Parts) → is_local (on_first form.Call (λ f xs. callee_form (sort_of f)) ys) ≡ false
call_plain [] = refl
call_plain (None ∷ xs) = refl
call_plain (Some x ∷ xs) = callee_plain (sort_of x)

key_plain : (rights : Rights) (h : Hint) (name : List ℕ) → is_local (key_form rights h name) ≡ false
key_plain rights (member t) name = refl
key_plain rights h name = refl

form_means : (s : Scope) (k : Kind) (h : Hint) (i j : ℕ) (ys : Parts) → NameMeans s.objects (form_by s k h i j ys) i
form_means s kind.Name h i j ys = name_means s h i
form_means s kind.Selector h i j ys = other_means s.objects (selector_form s.rights (s.texts (j - 1)) ys) i (selector_plain s.rights (s.texts (j - 1)) ys)
form_means s kind.Bracketed h i j ys = other_means s.objects (bracketed_form ys) i (bracketed_plain ys)
form_means s kind.Call h i j ys = other_means s.objects (on_first form.Call (λ f xs. callee_form (sort_of f)) ys) i (call_plain ys)
form_means s kind.Keyed h i j ys = other_means s.objects (key_form s.rights h (s.texts i)) i (key_plain s.rights h (s.texts i))
form_means s k h i j ys = tt

-- ---- parts

abbrev pub PartsMean : (ℕ → Option Object) → Parts → Type 0
PartsMean o [] = Unit {0}
PartsMean o (None ∷ xs) = PartsMean o xs
PartsMean o (Some x ∷ xs) = NamesMean o x × PartsMean o xs

pub row_means : (o : ℕ → Option Object) (xs : Parts) → PartsMean o xs → AllNamesMean o (row xs)
row_means o [] h = tt
row_means o (None ∷ xs) h = row_means o xs h
row_means o (Some x ∷ xs) h = (h.0, row_means o xs h.1)

pub list_means : (o : ℕ → Option Object) (ps : Typeds TypeTree) → AllNamesMean o ps → PartsMean o (list_of ps)
list_means o trees.none h = tt
list_means o (trees.more p ps) h = (h.0, list_means o ps h.1)
list_means o (trees.skip ps) h = list_means o ps h

pub append_means : (o : ℕ → Option Object) (xs ys : Parts) → PartsMean o xs → PartsMean o ys → PartsMean o (xs ++ ys)
append_means o [] ys h g = g
append_means o (None ∷ xs) ys h g = append_means o xs ys h g
append_means o (Some x ∷ xs) ys h g = (h.0, append_means o xs ys h.1 g)

-- ---- what parts take

mutual
  settled_means : (o : ℕ → Option Object) (t : TypeTree) (x : Part) → NamesMean o x → NamesMean o (settled t x)
  settled_means o t (typed f i j l ps) e = by (takes_type l.sort) (all_settled_means o t ps e.1)
    where
      by : (b : Bool) → AllNamesMean o (all_settled t ps) → NamesMean o (if b then typed f i j (record l { sort = retyped t l.sort }) (all_settled t ps) else typed f i j l ps)
      by true h = (e.0, h)
      by false h = e

  all_settled_means : (o : ℕ → Option Object) (t : TypeTree) (ps : Typeds TypeTree) → AllNamesMean o ps → AllNamesMean o (all_settled t ps)
  all_settled_means o t trees.none h = tt
  all_settled_means o t (trees.more p ps) h = (settled_means o t p h.0, all_settled_means o t ps h.1)
  all_settled_means o t (trees.skip ps) h = all_settled_means o t ps h

defaulted_means : (o : ℕ → Option Object) (k : Option OpenKind) (x : Part) → NamesMean o x → NamesMean o (defaulted k x)
defaulted_means o None x h = h
defaulted_means o (Some k) x h = settled_means o (default_type k) x h

pub given_means : (o : ℕ → Option Object) (k : Take) (x : Part) → NamesMean o x → NamesMean o (given k x)
given_means o stay x h = h
given_means o default x h = defaulted_means o (open_kind (sort_of x)) x h
given_means o (as_type t) x h = settled_means o t x h

all_given_means : (o : ℕ → Option Object) (ks : List Take) (xs : Parts) → PartsMean o xs → PartsMean o (all_given ks xs)
all_given_means o [] xs h = h
all_given_means o (k ∷ ks) [] h = tt
all_given_means o (k ∷ ks) (None ∷ xs) h = all_given_means o ks xs h
all_given_means o (k ∷ ks) (Some x ∷ xs) h = (given_means o k x h.0, all_given_means o ks xs h.1)

-- ---- layouts

leaf_means : (o : ℕ → Option Object) (x : Part) → NamesMean o (leaf x)
leaf_means o (typed f i j l ps) = (tt, tt)

cut_means : (o : ℕ → Option Object) (x : Part) (b : Bool) (xs : Parts) → NamesMean o x → PartsMean o xs → PartsMean o ((if b then Some (leaf x) else Some x) ∷ xs)
cut_means o x true xs h g = (leaf_means o x, g)
cut_means o x false xs h g = (h, g)

pub first_cut_means : (o : ℕ → Option Object) (xs : Parts) → PartsMean o xs → PartsMean o (first_cut xs)
first_cut_means o [] h = tt
first_cut_means o (None ∷ xs) h = h
first_cut_means o (Some x ∷ xs) h = cut_means o x (is_type (sort_of x)) xs h.0 h.1

call_means : (o : ℕ → Option Object) (xs : Parts) → PartsMean o xs → PartsMean o (call_parts xs)
call_means o [] h = tt
call_means o (None ∷ xs) h = h
call_means o (Some f ∷ xs) h = by (is_make (sort_of f)) (first_cut_means o xs h.1) (cut_means o f (is_type (sort_of f)) xs h.0 h.1)
  where
    by : (b : Bool) → PartsMean o (first_cut xs) → PartsMean o (cut (Some f) ∷ xs) → PartsMean o (if b then Some f ∷ first_cut xs else cut (Some f) ∷ xs)
    by true x y = (h.0, x)
    by false x y = y

selector_means : (o : ℕ → Option Object) (xs : Parts) → PartsMean o xs → PartsMean o (selector_parts xs)
selector_means o [] h = tt
selector_means o (None ∷ xs) h = h
selector_means o (Some x ∷ []) h = by (is_package (sort_of x))
  where
    by : (b : Bool) → PartsMean o (if b then [] else Some x ∷ [])
    by true = tt
    by false = h
selector_means o (Some x ∷ y ∷ xs) h = h

pub held_means : (o : ℕ → Option Object) (x : Option Part) → PartsMean o (x ∷ []) → PartsMean o (held x)
held_means o None h = tt
held_means o (Some (typed f i j l ps)) h = by (is_held f) (list_means o ps h.0.1)
  where
    by : (b : Bool) → PartsMean o (list_of ps) → PartsMean o (if b then list_of ps else Some (typed f i j l ps) ∷ [])
    by true g = g
    by false g = h

bounds_means : (o : ℕ → Option Object) (x : Option Part) → PartsMean o (x ∷ []) → PartsMean o (bounds_of x)
bounds_means o x h = by (has_no_low x) (held_means o x h)
  where
    by : (b : Bool) → PartsMean o (held x) → PartsMean o (if b then None ∷ held x else held x)
    by true g = g
    by false g = g

bracketed_means : (o : ℕ → Option Object) (xs : Parts) → PartsMean o xs → PartsMean o (bracketed_parts xs)
bracketed_means o [] h = tt
bracketed_means o (x ∷ []) h = h
bracketed_means o (None ∷ None ∷ ys) h = bounds_means o None tt
bracketed_means o (None ∷ Some y ∷ ys) h = bounds_means o (Some y) (h.0, tt)
bracketed_means o (Some x ∷ None ∷ ys) h = (h.0, bounds_means o None tt)
bracketed_means o (Some x ∷ Some y ∷ ys) h = (h.0, bounds_means o (Some y) (h.1.0, tt))

pub behind_means : (o : ℕ → Option Object) (xs : Parts) → PartsMean o xs → PartsMean o (behind_first xs)
behind_means o [] h = tt
behind_means o (None ∷ xs) h = h
behind_means o (Some x ∷ xs) h = h.1

pub all_held_means : (o : ℕ → Option Object) (xs : Parts) → PartsMean o xs → PartsMean o (all_held xs)
all_held_means o [] h = tt
all_held_means o (None ∷ xs) h = all_held_means o xs h
all_held_means o (Some x ∷ xs) h = append_means o (held (Some x)) (all_held xs) (held_means o (Some x) (h.0, tt)) (all_held_means o xs h.1)

layout_means : (o : ℕ → Option Object) (k : Kind) (xs : Parts) → PartsMean o xs → PartsMean o (layout k xs)
layout_means o kind.Selector xs h = selector_means o xs h
layout_means o kind.Bracketed xs h = bracketed_means o xs h
layout_means o kind.Call xs h = call_means o xs h
layout_means o kind.Composite xs h = first_cut_means o xs h
layout_means o kind.LiteralValue xs h = h
layout_means o kind.Keyed xs h = behind_means o xs h
layout_means o kind.Fields xs h = all_held_means o xs h
layout_means o kind.StructType xs h = all_held_means o xs h
layout_means o k xs h = h

-- ---- trees

built_means : (s : Scope) (k : Kind) (h : Hint) (i j : ℕ) (ys : Parts) (b : Bool) → PartsMean s.objects ys → NamesMean s.objects (built_by s k h i j ys b)
built_means s k h i j ys true g = (form_means s k h i j ys, row_means s.objects (all_given (takes s k h ys) ys) (all_given_means s.objects (takes s k h ys) ys g))
built_means s k h i j ys false g = (form_means s k h i j ys, row_means s.objects ys g)

part_objects : (s : Scope) (k : Kind) (xs : Parts) → (part_scope s k xs).objects ≡ s.objects
part_objects s kind.SequenceType [] = refl
part_objects s kind.SequenceType (x ∷ xs) = refl
part_objects s k xs = refl

mutual
  pub typing_means : (s : Scope) (h : Hint) (t : Tree) → NamesMean s.objects (typing s h t)
  typing_means s h (node k i j ps) =
      let ys : Parts = layout k (typings s k h ps [] ps) in built_means s k h i j ys (is_sound k ys (own_faults s k h i j ys)) (layout_means s.objects k (typings s k h ps [] ps) (typings_mean s k h ps [] ps tt))

  typings_mean : (s : Scope) (k : Kind) (h : Hint) (all : Trees) (xs : Parts) (ps : Trees) → PartsMean s.objects xs → PartsMean s.objects (typings s k h all xs ps)
  typings_mean s k h all xs syntax.none g = g
  typings_mean s k h all xs (syntax.more p ps) g =
      let q : Part = typing (part_scope s k xs) (hint s k h all xs (kind_of p)) p in
      let m : NamesMean s.objects q = subst (λ o. NamesMean o q) (part_objects s k xs) (typing_means (part_scope s k xs) (hint s k h all xs (kind_of p)) p) in
      typings_mean s k h all (xs ++ Some q ∷ []) ps (append_means s.objects xs (Some q ∷ []) g (m, tt))
  typings_mean s k h all xs (syntax.skip ps) g = typings_mean s k h all (xs ++ None ∷ []) ps (append_means s.objects xs (None ∷ []) g tt)
