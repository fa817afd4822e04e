-- Typed expressions and types have no statement lists of their own, so they are good.
use Rattle.std.proofs.Common.{◌≡◌, ℕ, ◌-◌, Bool, true, false, List, [], ◌∷◌, ◌++◌, Option, Some, None, refl}
use Rattle.go_grammar.specs.declared.kind.Kind.{Kind}
use Rattle.go_grammar.specs.declared.kind.Kind.TheVariants as kind
use Rattle.go_grammar.specs.Trees.{Tree, node, Trees, kind_of, first, last}
use Rattle.go_grammar.specs.Trees as syntax
use Rattle.go_tree.specs.declared.object.Object.{Object}
use Rattle.go_tree.specs.declared.object.Object.TheVariants as object
use Rattle.go_types.specs.Relations.{Rights}
use Rattle.go_typed.specs.declared.form.Form.{Form}
use Rattle.go_typed.specs.declared.form.Form.TheVariants as form
use Rattle.go_typed.specs.Forms.{is_statement_list}
use Rattle.go_typed.specs.Trees.{row, first_of, last_of, sort_of}
use Rattle.go_typed.specs.Trees as sort
use Rattle.go_exprs_rules.specs.Names.{object_form, declared_form, form_or_type, name_form, name_sort}
use Rattle.go_exprs_rules.specs.Scopes.{Scope, Hint, member, declares, free}
use Rattle.go_exprs_rules.specs.Settling.{Part, Take}
use Rattle.go_exprs_rules.specs.Sorts.{Stands}
use Rattle.go_exprs_rules.specs.Tables.{Parts, held, cut, first_cut, is_make_call, call_parts, has_no_low, bounds_of, bracketed_parts, is_package, selector_parts, layout, callee_form, key_form, selector_form, bracketed_form, on_first, form_by, takes, take_optional, all_given, own_faults, is_sound, built_by, built, hint, part_scope}
use Rattle.go_exprs_rules.specs.Typing.{typing, typings}
use Rattle.go_function_places.proofs.Good.{Good, PartGood, EachGood, plain, given-good, good-row, one-more, either-good, held-good, all-held-good, cut-good, first-cut-good, behind-first-good}

-- ---- forms

object-plain : (s : Scope) (o : Option Object) → is_statement_list (object_form s o) ≡ false
object-plain s None = refl
object-plain s (Some object.Import) = refl
object-plain s (Some (object.Predeclared p)) = refl
object-plain s (Some (object.Package n)) = refl
object-plain s (Some (object.Local f n)) = refl

pub declared-plain : (s : Scope) (o : Option Object) → is_statement_list (declared_form s o) ≡ false
declared-plain s None = refl
declared-plain s (Some object.Import) = refl
declared-plain s (Some (object.Predeclared p)) = refl
declared-plain s (Some (object.Package n)) = refl
declared-plain s (Some (object.Local f n)) = refl

typed-plain : (x : Stands) (f : Form) → is_statement_list f ≡ false → is_statement_list (form_or_type x f) ≡ false
typed-plain (sort.IsType t) f h = refl
typed-plain x f h = h

name-plain : (s : Scope) (h : Hint) (i : ℕ) → is_statement_list (name_form s h i) ≡ false
name-plain s declares i = declared-plain s (s.objects i)
name-plain s free i = declared-plain s (s.objects i)
name-plain s h i = typed-plain (name_sort s h i) (object_form s (s.objects i)) (object-plain s (s.objects i))

selector-plain : (rights : Rights) (name : List ℕ) (ys : Parts) → is_statement_list (selector_form rights name ys) ≡ false
selector-plain rights name [] = refl
selector-plain rights name (None ∷ ys) = refl
selector-plain rights name (Some x ∷ []) = refl
selector-plain rights name (Some x ∷ y ∷ ys) = refl

bracketed-plain : (ys : Parts) → is_statement_list (bracketed_form ys) ≡ false
bracketed-plain (x ∷ y ∷ []) = refl
bracketed-plain ys = refl

callee-plain : (x : Stands) → is_statement_list (callee_form x) ≡ false
callee-plain (sort.IsType t) = refl
callee-plain x = refl

call-plain : (ys : Parts) → is_statement_list (on_first form.Call (λ f xs. callee_form (sort_of f)) ys) ≡ false
call-plain (Some x ∷ ys) = callee-plain (sort_of x)
call-plain ys = refl

key-plain : (rights : Rights) (h : Hint) (name : List ℕ) → is_statement_list (key_form rights h name) ≡ false
key-plain rights (member t) name = refl
key-plain rights h name = refl

form-plain : (s : Scope) (k : Kind) (h : Hint) (i j : ℕ) (ys : Parts) → is_statement_list (form_by s k h i j ys) ≡ false
form-plain s kind.Name h i j ys = name-plain s h i
form-plain s kind.Selector h i j ys = selector-plain s.rights (s.texts (j - 1)) ys
form-plain s kind.Bracketed h i j ys = bracketed-plain ys
form-plain s kind.Call h i j ys = call-plain ys
form-plain s kind.Keyed h i j ys = key-plain s.rights h (s.texts i)
form-plain s k h i j ys = refl

by-first : (s : Scope) (k : Kind) (h : Hint) (i j : ℕ) (ys : Parts) (b : Bool) → first_of (built_by s k h i j ys b) ≡ i
by-first s k h i j ys true = refl
by-first s k h i j ys false = refl

by-last : (s : Scope) (k : Kind) (h : Hint) (i j : ℕ) (ys : Parts) (b : Bool) → last_of (built_by s k h i j ys b) ≡ j
by-last s k h i j ys true = refl
by-last s k h i j ys false = refl

-- it stands at the tokens of its tree
pub typing-first : (s : Scope) (h : Hint) (t : Tree) → first_of (typing s h t) ≡ first t
typing-first s h (node k i j ps) = let ys = layout k (typings s k h ps [] ps) in by-first s k h i j ys (is_sound k ys (own_faults s k h i j ys))

pub typing-last : (s : Scope) (h : Hint) (t : Tree) → last_of (typing s h t) ≡ last t
typing-last s h (node k i j ps) = let ys = layout k (typings s k h ps [] ps) in by-last s k h i j ys (is_sound k ys (own_faults s k h i j ys))

module _ (n : ℕ) where
  taken-good : (k : Take) (x : Option Part) → PartGood n x → PartGood n (take_optional k x)
  taken-good k None h = tt
  taken-good k (Some x) h = given-good n k x h

  all-given-good : (ks : List Take) (ys : Parts) → EachGood n ys → EachGood n (all_given ks ys)
  all-given-good [] ys h = h
  all-given-good (k ∷ ks) [] h = tt
  all-given-good (k ∷ ks) (y ∷ ys) h = (taken-good k y h.0, all-given-good ks ys h.1)

  -- ---- how parts are laid out

  call-good : (xs : Parts) → EachGood n xs → EachGood n (call_parts xs)
  call-good [] h = tt
  call-good (f ∷ xs) h = either-good n (is_make_call (f ∷ xs)) (f ∷ first_cut xs) (cut f ∷ xs) (h.0, first-cut-good n xs h.1) (cut-good n f h.0, h.1)

  bounds-good : (x : Option Part) → PartGood n x → EachGood n (bounds_of x)
  bounds-good x h = either-good n (has_no_low x) (None ∷ held x) (held x) (tt, held-good n x h) (held-good n x h)

  bracketed-good : (xs : Parts) → EachGood n xs → EachGood n (bracketed_parts xs)
  bracketed-good [] h = tt
  bracketed-good (x ∷ []) h = h
  bracketed-good (x ∷ y ∷ ys) h = (h.0, bounds-good y h.1.0)

  selector-good : (xs : Parts) → EachGood n xs → EachGood n (selector_parts xs)
  selector-good [] h = tt
  selector-good (None ∷ xs) h = h
  selector-good (Some x ∷ []) h = either-good n (is_package (sort_of x)) [] (Some x ∷ []) tt h
  selector-good (Some x ∷ y ∷ xs) h = h

  layout-good : (k : Kind) (xs : Parts) → EachGood n xs → EachGood n (layout k xs)
  layout-good kind.Selector xs h = selector-good xs h
  layout-good kind.Bracketed xs h = bracketed-good xs h
  layout-good kind.Call xs h = call-good xs h
  layout-good kind.Composite xs h = first-cut-good n xs h
  layout-good kind.LiteralValue xs h = (tt, h)
  layout-good kind.Keyed xs h = behind-first-good n xs h
  layout-good kind.Fields xs h = all-held-good n xs h
  layout-good kind.StructType xs h = all-held-good n xs h
  layout-good k xs h = h

  -- ---- a node, and whole trees

  by-good : (s : Scope) (k : Kind) (h : Hint) (i j : ℕ) (ys : Parts) (b : Bool) → EachGood n ys → Good n (built_by s k h i j ys b)
  by-good s k h i j ys true g = (plain n (form_by s k h i j ys) _ (form-plain s k h i j ys), good-row n (all_given (takes s k h ys) ys) (all-given-good (takes s k h ys) ys g))
  by-good s k h i j ys false g = (plain n (form_by s k h i j ys) _ (form-plain s k h i j ys), good-row n ys g)

  built-good : (s : Scope) (k : Kind) (h : Hint) (i j : ℕ) (xs : Parts) → EachGood n xs → Good n (built s k h i j xs)
  built-good s k h i j xs g = by-good s k h i j (layout k xs) (is_sound k (layout k xs) (own_faults s k h i j (layout k xs))) (layout-good k xs g)

  mutual
    pub typing-good : (s : Scope) (h : Hint) (t : Tree) → Good n (typing s h t)
    typing-good s h (node k i j ps) = built-good s k h i j (typings s k h ps [] ps) (typings-good s k h ps [] ps tt)

    typings-good : (s : Scope) (k : Kind) (h : Hint) (all : Trees) (xs : Parts) (ps : Trees) → EachGood n xs → EachGood n (typings s k h all xs ps)
    typings-good s k h all xs syntax.none g = g
    typings-good s k h all xs (syntax.more p ps) g =
        let x = typing (part_scope s k xs) (hint s k h all xs (kind_of p)) p in
        typings-good s k h all (xs ++ Some x ∷ []) ps (one-more n xs (Some x) g (typing-good (part_scope s k xs) (hint s k h all xs (kind_of p)) p))
    typings-good s k h all xs (syntax.skip ps) g = typings-good s k h all (xs ++ None ∷ []) ps (one-more n xs None g tt)
