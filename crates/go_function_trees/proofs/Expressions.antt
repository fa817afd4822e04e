-- Typed expressions and types have no statement lists, and stand at the tokens of their trees.
use Rattle.std.proofs.Common.{◌≡◌, ℕ, ◌-◌, Bool, true, false, List, [], ◌∷◌, ◌++◌, Option, Some, None, refl}
use Rattle.go_grammar.specs.declared.kind.Kind.{Kind}
use Rattle.go_grammar.specs.declared.kind.Kind.TheVariants as kind
use Rattle.go_grammar.specs.Trees.{Tree, node, Trees, kind_of, first, last}
use Rattle.go_grammar.specs.Trees as syntax
use Rattle.go_tree.specs.declared.object.Object.{Object}
use Rattle.go_tree.specs.declared.object.Object.TheVariants as object
use Rattle.go_types.specs.Relations.{Rights}
use Rattle.go_typed.specs.declared.form.Form.{Form}
use Rattle.go_typed.specs.declared.form.Form.TheVariants as form
use Rattle.go_typed.specs.Forms.{is_statement_list}
use Rattle.go_typed.specs.Trees.{row, first_of, last_of, sort_of}
use Rattle.go_typed.specs.Trees as sort
use Rattle.go_exprs_rules.specs.Names.{object_form, declared_form, form_or_type, name_form, name_sort}
use Rattle.go_exprs_rules.specs.Scopes.{Scope, Hint, member, declares, free}
use Rattle.go_exprs_rules.specs.Settling.{Part, Take}
use Rattle.go_exprs_rules.specs.Sorts.{Stands}
use Rattle.go_exprs_rules.specs.Tables.{Parts, held, cut, first_cut, is_make_call, call_parts, has_no_low, bounds_of, bracketed_parts, is_package, selector_parts, layout, callee_form, key_form, selector_form, bracketed_form, on_first, form_by, takes, take_optional, all_given, own_faults, is_sound, built_by, built, hint, part_scope}
use Rattle.go_exprs_rules.specs.Typing.{typing, typings}
use Rattle.go_function_trees.proofs.Listed.{OfList, Lists, PartLists, EachLists, both, plain, given-lists, row-lists, one-more, held-lists, all-held-lists, cut-lists, first-cut-lists, behind-first-lists}

-- ---- forms

object-plain : (s : Scope) (o : Option Object) → is_statement_list (object_form s o) ≡ false
object-plain s None = refl
object-plain s (Some object.Import) = refl
object-plain s (Some (object.Predeclared p)) = refl
object-plain s (Some (object.Package n)) = refl
object-plain s (Some (object.Local f n)) = refl

pub declared-plain : (s : Scope) (o : Option Object) → is_statement_list (declared_form s o) ≡ false
declared-plain s None = refl
declared-plain s (Some object.Import) = refl
declared-plain s (Some (object.Predeclared p)) = refl
declared-plain s (Some (object.Package n)) = refl
declared-plain s (Some (object.Local f n)) = refl

typed-plain : (x : Stands) (f : Form) → is_statement_list f ≡ false → is_statement_list (form_or_type x f) ≡ false
typed-plain (sort.IsType t) f h = refl
typed-plain x f h = h

name-plain : (s : Scope) (h : Hint) (i : ℕ) → is_statement_list (name_form s h i) ≡ false
name-plain s declares i = declared-plain s (s.objects i)
name-plain s free i = declared-plain s (s.objects i)
name-plain s h i = typed-plain (name_sort s h i) (object_form s (s.objects i)) (object-plain s (s.objects i))

selector-plain : (rights : Rights) (name : List ℕ) (ys : Parts) → is_statement_list (selector_form rights name ys) ≡ false
selector-plain rights name [] = refl
selector-plain rights name (None ∷ ys) = refl
selector-plain rights name (Some x ∷ []) = refl
selector-plain rights name (Some x ∷ y ∷ ys) = refl

bracketed-plain : (ys : Parts) → is_statement_list (bracketed_form ys) ≡ false
bracketed-plain (x ∷ y ∷ []) = refl
bracketed-plain ys = refl

callee-plain : (x : Stands) → is_statement_list (callee_form x) ≡ false
callee-plain (sort.IsType t) = refl
callee-plain x = refl

call-plain : (ys : Parts) → is_statement_list (on_first form.Call (λ f xs. callee_form (sort_of f)) ys) ≡ false
call-plain (Some x ∷ ys) = callee-plain (sort_of x)
call-plain ys = refl

key-plain : (rights : Rights) (h : Hint) (name : List ℕ) → is_statement_list (key_form rights h name) ≡ false
key-plain rights (member t) name = refl
key-plain rights h name = refl

form-plain : (s : Scope) (k : Kind) (h : Hint) (i j : ℕ) (ys : Parts) → is_statement_list (form_by s k h i j ys) ≡ false
form-plain s kind.Name h i j ys = name-plain s h i
form-plain s kind.Selector h i j ys = selector-plain s.rights (s.texts (j - 1)) ys
form-plain s kind.Bracketed h i j ys = bracketed-plain ys
form-plain s kind.Call h i j ys = call-plain ys
form-plain s kind.Keyed h i j ys = key-plain s.rights h (s.texts i)
form-plain s k h i j ys = refl

by-first : (s : Scope) (k : Kind) (h : Hint) (i j : ℕ) (ys : Parts) (b : Bool) → first_of (built_by s k h i j ys b) ≡ i
by-first s k h i j ys true = refl
by-first s k h i j ys false = refl

by-last : (s : Scope) (k : Kind) (h : Hint) (i j : ℕ) (ys : Parts) (b : Bool) → last_of (built_by s k h i j ys b) ≡ j
by-last s k h i j ys true = refl
by-last s k h i j ys false = refl

-- it stands at the tokens of its tree
pub typing-first : (s : Scope) (h : Hint) (t : Tree) → first_of (typing s h t) ≡ first t
typing-first s h (node k i j ps) = let ys = layout k (typings s k h ps [] ps) in by-first s k h i j ys (is_sound k ys (own_faults s k h i j ys))

pub typing-last : (s : Scope) (h : Hint) (t : Tree) → last_of (typing s h t) ≡ last t
typing-last s h (node k i j ps) = let ys = layout k (typings s k h ps [] ps) in by-last s k h i j ys (is_sound k ys (own_faults s k h i j ys))

module _ (P : OfList) where
  taken-lists : (k : Take) (x : Option Part) → PartLists P x → PartLists P (take_optional k x)
  taken-lists k None h = tt
  taken-lists k (Some x) h = given-lists P k x h

  all-given-lists : (ks : List Take) (ys : Parts) → EachLists P ys → EachLists P (all_given ks ys)
  all-given-lists [] ys h = h
  all-given-lists (k ∷ ks) [] h = tt
  all-given-lists (k ∷ ks) (y ∷ ys) h = (taken-lists k y h.0, all-given-lists ks ys h.1)

  -- ---- how parts are laid out

  call-lists : (xs : Parts) → EachLists P xs → EachLists P (call_parts xs)
  call-lists [] h = tt
  call-lists (f ∷ xs) h = both (EachLists P) (is_make_call (f ∷ xs)) (f ∷ first_cut xs) (cut f ∷ xs) (h.0, first-cut-lists P xs h.1) (cut-lists P f h.0, h.1)

  bounds-lists : (x : Option Part) → PartLists P x → EachLists P (bounds_of x)
  bounds-lists x h = both (EachLists P) (has_no_low x) (None ∷ held x) (held x) (tt, held-lists P x h) (held-lists P x h)

  bracketed-lists : (xs : Parts) → EachLists P xs → EachLists P (bracketed_parts xs)
  bracketed-lists [] h = tt
  bracketed-lists (x ∷ []) h = h
  bracketed-lists (x ∷ y ∷ ys) h = (h.0, bounds-lists y h.1.0)

  selector-lists : (xs : Parts) → EachLists P xs → EachLists P (selector_parts xs)
  selector-lists [] h = tt
  selector-lists (None ∷ xs) h = h
  selector-lists (Some x ∷ []) h = both (EachLists P) (is_package (sort_of x)) [] (Some x ∷ []) tt h
  selector-lists (Some x ∷ y ∷ xs) h = h

  layout-lists : (k : Kind) (xs : Parts) → EachLists P xs → EachLists P (layout k xs)
  layout-lists kind.Selector xs h = selector-lists xs h
  layout-lists kind.Bracketed xs h = bracketed-lists xs h
  layout-lists kind.Call xs h = call-lists xs h
  layout-lists kind.Composite xs h = first-cut-lists P xs h
  layout-lists kind.LiteralValue xs h = (tt, h)
  layout-lists kind.Keyed xs h = behind-first-lists P xs h
  layout-lists kind.Fields xs h = all-held-lists P xs h
  layout-lists kind.StructType xs h = all-held-lists P xs h
  layout-lists k xs h = h

  -- ---- a node, and whole trees

  by-lists : (s : Scope) (k : Kind) (h : Hint) (i j : ℕ) (ys : Parts) (b : Bool) → EachLists P ys → Lists P (built_by s k h i j ys b)
  by-lists s k h i j ys true g = (plain P (form_by s k h i j ys) _ i j _ (form-plain s k h i j ys), row-lists P (all_given (takes s k h ys) ys) (all-given-lists (takes s k h ys) ys g))
  by-lists s k h i j ys false g = (plain P (form_by s k h i j ys) _ i j _ (form-plain s k h i j ys), row-lists P ys g)

  built-lists : (s : Scope) (k : Kind) (h : Hint) (i j : ℕ) (xs : Parts) → EachLists P xs → Lists P (built s k h i j xs)
  built-lists s k h i j xs g = by-lists s k h i j (layout k xs) (is_sound k (layout k xs) (own_faults s k h i j (layout k xs))) (layout-lists k xs g)

  mutual
    pub typing-lists : (s : Scope) (h : Hint) (t : Tree) → Lists P (typing s h t)
    typing-lists s h (node k i j ps) = built-lists s k h i j (typings s k h ps [] ps) (typings-lists s k h ps [] ps tt)

    typings-lists : (s : Scope) (k : Kind) (h : Hint) (all : Trees) (xs : Parts) (ps : Trees) → EachLists P xs → EachLists P (typings s k h all xs ps)
    typings-lists s k h all xs syntax.none g = g
    typings-lists s k h all xs (syntax.more p ps) g =
        let x = typing (part_scope s k xs) (hint s k h all xs (kind_of p)) p in
        typings-lists s k h all (xs ++ Some x ∷ []) ps (one-more P xs (Some x) g (typing-lists (part_scope s k xs) (hint s k h all xs (kind_of p)) p))
    typings-lists s k h all xs (syntax.skip ps) g = typings-lists s k h all (xs ++ None ∷ []) ps (one-more P xs None g tt)
