-- Typed expressions and types have no statement lists.
use Rattle.std.proofs.Common.{◌≡◌, ◌∙◌, ℕ, ◌-◌, Bool, true, false, if◌then◌else◌, List, [], ◌∷◌, ◌++◌, Option, Some, None, refl, sym, ap}
use Rattle.go_grammar.specs.declared.kind.Kind.{Kind}
use Rattle.go_grammar.specs.declared.kind.Kind.TheVariants as kind
use Rattle.go_grammar.specs.Trees.{Tree, node, Trees, kind_of, first, last}
use Rattle.go_grammar.specs.Trees as syntax
use Rattle.go_tree.specs.declared.object.Object.{Object}
use Rattle.go_tree.specs.declared.object.Object.TheVariants as object
use Rattle.go_types.specs.Relations.{Rights}
use Rattle.go_types.specs.Trees.{TypeTree}
use Rattle.go_typed.specs.declared.form.Form.{Form}
use Rattle.go_typed.specs.declared.form.Form.TheVariants as form
use Rattle.go_typed.specs.Forms.{is_statement_list}
use Rattle.go_typed.specs.Trees.{Typed, typed, Typeds, none, more, skip, row, list_of, first_of, last_of, form_of, sort_of, parts_of}
use Rattle.go_typed.specs.Trees as sort
use Rattle.go_exprs_rules.specs.declared.family.OpenKind.{OpenKind}
use Rattle.go_exprs_rules.specs.Names.{object_form, declared_form, form_or_type, name_form, name_sort}
use Rattle.go_exprs_rules.specs.Scopes.{Scope, Hint, member, declares, free}
use Rattle.go_exprs_rules.specs.Settling.{Part, Take, stay, default, as_type, settled, all_settled, defaulted, given}
use Rattle.go_exprs_rules.specs.Sorts.{Stands, takes_type, open_kind, retyped, default_type}
use Rattle.go_exprs_rules.specs.Tables.{Parts, is_held, held, all_held, is_type, leaf, cut, first_cut, is_make_call, call_parts, has_no_low, bounds_of, bracketed_parts, is_package, selector_parts, behind_first, layout, callee_form, key_form, selector_form, bracketed_form, on_first, form_by, takes, take_optional, all_given, own_faults, is_sound, built_by, built, hint, part_scope}
use Rattle.go_exprs_rules.specs.Typing.{typing, typings}
use Rattle.window_index.proofs.Nested.{Flat, AllFlat, plain, shape, shapes, flat-alike}

-- ---- parts

abbrev pub PartFlat : Option Part → Type 0
PartFlat None = Unit {0}
PartFlat (Some x) = Flat x

abbrev pub EachFlat : Parts → Type 0
EachFlat [] = Unit {0}
EachFlat (x ∷ xs) = PartFlat x × EachFlat xs

pub flat-row : (xs : Parts) → EachFlat xs → AllFlat (row xs)
flat-row [] h = tt
flat-row (None ∷ xs) h = flat-row xs h.1
flat-row (Some x ∷ xs) h = (h.0, flat-row xs h.1)

pub flat-list : (ps : Typeds TypeTree) → AllFlat ps → EachFlat (list_of ps)
flat-list none h = tt
flat-list (more p ps) h = (h.0, flat-list ps h.1)
flat-list (skip ps) h = (tt, flat-list ps h)

pub flat-parts : (x : Part) → Flat x → AllFlat (parts_of x)
flat-parts (typed f i j l ps) h = h.1

pub flat-behind : (xs ys : Parts) → EachFlat xs → EachFlat ys → EachFlat (xs ++ ys)
flat-behind [] ys h k = k
flat-behind (x ∷ xs) ys h k = (h.0, flat-behind xs ys h.1 k)

pub either-flat : (b : Bool) (xs ys : Parts) → EachFlat xs → EachFlat ys → EachFlat (if b then xs else ys)
either-flat true xs ys h k = h
either-flat false xs ys h k = k

-- ---- what takes a type keeps its shape

either-shape : (b : Bool) (x y z : Part) → shape x ≡ shape z → shape y ≡ shape z → shape (if b then x else y) ≡ shape z
either-shape true x y z h k = h
either-shape false x y z h k = k

mutual
  shape-settled : (t : TypeTree) (x : Part) → shape (settled t x) ≡ shape x
  shape-settled t (typed f i j l ps) =
      either-shape (takes_type l.sort) (typed f i j (record l { sort = retyped t l.sort }) (all_settled t ps)) (typed f i j l ps) (typed f i j l ps) (ap (typed f i j plain) (shapes-settled t ps)) refl

  shapes-settled : (t : TypeTree) (ps : Typeds TypeTree) → shapes (all_settled t ps) ≡ shapes ps
  shapes-settled t none = refl
  shapes-settled t (more p ps) = ap (λ q. more q (shapes (all_settled t ps))) (shape-settled t p) ∙ ap (more (shape p)) (shapes-settled t ps)
  shapes-settled t (skip ps) = ap skip (shapes-settled t ps)

shape-defaulted : (k : Option OpenKind) (x : Part) → shape (defaulted k x) ≡ shape x
shape-defaulted (Some k) x = shape-settled (default_type k) x
shape-defaulted None x = refl

pub shape-given : (k : Take) (x : Part) → shape (given k x) ≡ shape x
shape-given stay x = refl
shape-given default x = shape-defaulted (open_kind (sort_of x)) x
shape-given (as_type t) x = shape-settled t x

given-flat : (k : Take) (x : Option Part) → PartFlat x → PartFlat (take_optional k x)
given-flat k None h = tt
given-flat k (Some x) h = flat-alike x (given k x) (sym (shape-given k x)) h

all-given-flat : (ks : List Take) (ys : Parts) → EachFlat ys → EachFlat (all_given ks ys)
all-given-flat [] ys h = h
all-given-flat (k ∷ ks) [] h = tt
all-given-flat (k ∷ ks) (y ∷ ys) h = (given-flat k y h.0, all-given-flat ks ys h.1)

-- ---- how parts are laid out

pub held-flat : (x : Option Part) → PartFlat x → EachFlat (held x)
held-flat None h = (tt, tt)
held-flat (Some x) h = either-flat (is_held (form_of x)) (list_of (parts_of x)) (Some x ∷ []) (flat-list (parts_of x) (flat-parts x h)) (h, tt)

pub all-held-flat : (xs : Parts) → EachFlat xs → EachFlat (all_held xs)
all-held-flat [] h = tt
all-held-flat (x ∷ xs) h = flat-behind (held x) (all_held xs) (held-flat x h.0) (all-held-flat xs h.1)

pub leaf-flat : (x : Part) → Flat (leaf x)
leaf-flat (typed f i j l ps) = (refl, tt)

cut-flat : (x : Option Part) → PartFlat x → PartFlat (cut x)
cut-flat None h = tt
cut-flat (Some x) h = pick (is_type (sort_of x)) where
  pick : (b : Bool) → PartFlat (if b then Some (leaf x) else Some x)
  pick true = leaf-flat x
  pick false = h

pub first-cut-flat : (xs : Parts) → EachFlat xs → EachFlat (first_cut xs)
first-cut-flat [] h = tt
first-cut-flat (x ∷ xs) h = (cut-flat x h.0, h.1)

call-flat : (xs : Parts) → EachFlat xs → EachFlat (call_parts xs)
call-flat [] h = tt
call-flat (f ∷ xs) h = either-flat (is_make_call (f ∷ xs)) (f ∷ first_cut xs) (cut f ∷ xs) (h.0, first-cut-flat xs h.1) (cut-flat f h.0, h.1)

bounds-flat : (x : Option Part) → PartFlat x → EachFlat (bounds_of x)
bounds-flat x h = either-flat (has_no_low x) (None ∷ held x) (held x) (tt, held-flat x h) (held-flat x h)

bracketed-flat : (xs : Parts) → EachFlat xs → EachFlat (bracketed_parts xs)
bracketed-flat [] h = tt
bracketed-flat (x ∷ []) h = h
bracketed-flat (x ∷ y ∷ ys) h = (h.0, bounds-flat y h.1.0)

selector-flat : (xs : Parts) → EachFlat xs → EachFlat (selector_parts xs)
selector-flat [] h = tt
selector-flat (None ∷ xs) h = h
selector-flat (Some x ∷ []) h = either-flat (is_package (sort_of x)) [] (Some x ∷ []) tt h
selector-flat (Some x ∷ y ∷ xs) h = h

behind-first-flat : (xs : Parts) → EachFlat xs → EachFlat (behind_first xs)
behind-first-flat [] h = tt
behind-first-flat (x ∷ xs) h = h.1

layout-flat : (k : Kind) (xs : Parts) → EachFlat xs → EachFlat (layout k xs)
layout-flat kind.Selector xs h = selector-flat xs h
layout-flat kind.Bracketed xs h = bracketed-flat xs h
layout-flat kind.Call xs h = call-flat xs h
layout-flat kind.Composite xs h = first-cut-flat xs h
layout-flat kind.LiteralValue xs h = (tt, h)
layout-flat kind.Keyed xs h = behind-first-flat xs h
layout-flat kind.Fields xs h = all-held-flat xs h
layout-flat kind.StructType xs h = all-held-flat xs h
layout-flat k xs h = h

-- ---- forms

object-plain : (s : Scope) (o : Option Object) → is_statement_list (object_form s o) ≡ false
object-plain s None = refl
object-plain s (Some object.Import) = refl
object-plain s (Some (object.Predeclared p)) = refl
object-plain s (Some (object.Package n)) = refl
object-plain s (Some (object.Local f n)) = refl

pub declared-plain : (s : Scope) (o : Option Object) → is_statement_list (declared_form s o) ≡ false
declared-plain s None = refl
declared-plain s (Some object.Import) = refl
declared-plain s (Some (object.Predeclared p)) = refl
declared-plain s (Some (object.Package n)) = refl
declared-plain s (Some (object.Local f n)) = refl

typed-plain : (x : Stands) (f : Form) → is_statement_list f ≡ false → is_statement_list (form_or_type x f) ≡ false
typed-plain (sort.IsType t) f h = refl
typed-plain x f h = h

name-plain : (s : Scope) (h : Hint) (i : ℕ) → is_statement_list (name_form s h i) ≡ false
name-plain s declares i = declared-plain s (s.objects i)
name-plain s free i = declared-plain s (s.objects i)
name-plain s h i = typed-plain (name_sort s h i) (object_form s (s.objects i)) (object-plain s (s.objects i))

selector-plain : (rights : Rights) (name : List ℕ) (ys : Parts) → is_statement_list (selector_form rights name ys) ≡ false
selector-plain rights name [] = refl
selector-plain rights name (None ∷ ys) = refl
selector-plain rights name (Some x ∷ []) = refl
selector-plain rights name (Some x ∷ y ∷ ys) = refl

bracketed-plain : (ys : Parts) → is_statement_list (bracketed_form ys) ≡ false
bracketed-plain (x ∷ y ∷ []) = refl
bracketed-plain ys = refl

callee-plain : (x : Stands) → is_statement_list (callee_form x) ≡ false
callee-plain (sort.IsType t) = refl
callee-plain x = refl

call-plain : (ys : Parts) → is_statement_list (on_first form.Call (λ f xs. callee_form (sort_of f)) ys) ≡ false
call-plain (Some x ∷ ys) = callee-plain (sort_of x)
call-plain ys = refl

key-plain : (rights : Rights) (h : Hint) (name : List ℕ) → is_statement_list (key_form rights h name) ≡ false
key-plain rights (member t) name = refl
key-plain rights h name = refl

form-plain : (s : Scope) (k : Kind) (h : Hint) (i j : ℕ) (ys : Parts) → is_statement_list (form_by s k h i j ys) ≡ false
form-plain s kind.Name h i j ys = name-plain s h i
form-plain s kind.Selector h i j ys = selector-plain s.rights (s.texts (j - 1)) ys
form-plain s kind.Bracketed h i j ys = bracketed-plain ys
form-plain s kind.Call h i j ys = call-plain ys
form-plain s kind.Keyed h i j ys = key-plain s.rights h (s.texts i)
form-plain s k h i j ys = refl

-- ---- a node, and whole trees

by-flat : (s : Scope) (k : Kind) (h : Hint) (i j : ℕ) (ys : Parts) (b : Bool) → EachFlat ys → Flat (built_by s k h i j ys b)
by-flat s k h i j ys true g = (form-plain s k h i j ys, flat-row (all_given (takes s k h ys) ys) (all-given-flat (takes s k h ys) ys g))
by-flat s k h i j ys false g = (form-plain s k h i j ys, flat-row ys g)

built-flat : (s : Scope) (k : Kind) (h : Hint) (i j : ℕ) (xs : Parts) → EachFlat xs → Flat (built s k h i j xs)
built-flat s k h i j xs g = by-flat s k h i j (layout k xs) (is_sound k (layout k xs) (own_faults s k h i j (layout k xs))) (layout-flat k xs g)

one-more : (xs : Parts) (x : Option Part) → EachFlat xs → PartFlat x → EachFlat (xs ++ x ∷ [])
one-more xs x h g = flat-behind xs (x ∷ []) h (g, tt)

mutual
  pub typing-flat : (s : Scope) (h : Hint) (t : Tree) → Flat (typing s h t)
  typing-flat s h (node k i j ps) = built-flat s k h i j (typings s k h ps [] ps) (typings-flat s k h ps [] ps tt)

  typings-flat : (s : Scope) (k : Kind) (h : Hint) (all : Trees) (xs : Parts) (ps : Trees) → EachFlat xs → EachFlat (typings s k h all xs ps)
  typings-flat s k h all xs syntax.none g = g
  typings-flat s k h all xs (syntax.more p ps) g =
      let x = typing (part_scope s k xs) (hint s k h all xs (kind_of p)) p in
      typings-flat s k h all (xs ++ Some x ∷ []) ps (one-more xs (Some x) g (typing-flat (part_scope s k xs) (hint s k h all xs (kind_of p)) p))
  typings-flat s k h all xs (syntax.skip ps) g = typings-flat s k h all (xs ++ None ∷ []) ps (one-more xs None g tt)

by-first : (s : Scope) (k : Kind) (h : Hint) (i j : ℕ) (ys : Parts) (b : Bool) → first_of (built_by s k h i j ys b) ≡ i
by-first s k h i j ys true = refl
by-first s k h i j ys false = refl

by-last : (s : Scope) (k : Kind) (h : Hint) (i j : ℕ) (ys : Parts) (b : Bool) → last_of (built_by s k h i j ys b) ≡ j
by-last s k h i j ys true = refl
by-last s k h i j ys false = refl

-- it stands at the tokens of its tree
pub typing-first : (s : Scope) (h : Hint) (t : Tree) → first_of (typing s h t) ≡ first t
typing-first s h (node k i j ps) = let ys = layout k (typings s k h ps [] ps) in by-first s k h i j ys (is_sound k ys (own_faults s k h i j ys))

pub typing-last : (s : Scope) (h : Hint) (t : Tree) → last_of (typing s h t) ≡ last t
typing-last s h (node k i j ps) = let ys = layout k (typings s k h ps [] ps) in by-last s k h i j ys (is_sound k ys (own_faults s k h i j ys))
