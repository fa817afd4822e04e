-- The locals that typed parts name: each token of an expression means a local that counts.
use Rattle.std.proofs.Common.{◌≡◌, ℕ, zero, suc, ◌-◌, Bool, true, false, List, [], ◌∷◌, ◌++◌, Option, Some, None, cond}
use Rattle.std.specs.Prelude.{take}
use Rattle.go_grammar.specs.declared.kind.Kind.{Kind}
use Rattle.go_grammar.specs.declared.kind.Kind.TheVariants as kind
use Rattle.go_grammar.specs.Trees.{Tree, node, Trees, none, more, skip, kind_of}
use Rattle.go_tree.specs.declared.object.Object.{Object}
use Rattle.go_tree.specs.declared.object.Object.TheVariants as object
use Rattle.go_types.specs.Trees.{TypeTree}
use Rattle.go_types.specs.Relations.{Rights}
use Rattle.go_typed.specs.declared.form.Form.{Form}
use Rattle.go_typed.specs.declared.form.Form.TheVariants as form
use Rattle.go_typed.specs.Trees.{typed, Typeds, row, list_of, parts_of, sort_of}
use Rattle.go_typed.specs.Trees as sort
use Rattle.go_exprs_rules.specs.declared.family.OpenKind.{OpenKind}
use Rattle.go_exprs_rules.specs.Names.{object_form, declared_form, form_or_type, name_sort, name_form}
use Rattle.go_exprs_rules.specs.Scopes.{Scope, Hint, declares, free, member}
use Rattle.go_exprs_rules.specs.Settling.{Part, settled, all_settled, Take, stay, default, as_type, defaulted, given}
use Rattle.go_exprs_rules.specs.Sorts.{Stands, takes_type, retyped, open_kind, default_type}
use Rattle.go_exprs_rules.specs.Tables.{Parts, is_held, held, all_held, is_type, leaf, cut, first_cut, is_make_call, call_parts, has_no_low, bounds_of, bracketed_parts, is_package, selector_parts, behind_first, layout}
use Rattle.go_exprs_rules.specs.Tables.{callee_form, key_form, selector_form, bracketed_form, on_first, form_by, all_given, takes, own_faults, is_sound, made, built_by, hint, part_scope}
use Rattle.go_exprs_rules.specs.Typing.{typing, typings}
use Rattle.go_stmts_elsewhere.specs.Frames.{form_named, Named, RowNamed}

-- what holds either way
pub branch : {A : Type 0} (P : A → Type 0) (b : Bool) (x y : A) → P x → P y → P (cond b x y)
branch P true x y a c = a
branch P false x y a c = c

module _ (l : ℕ → Bool) where
  abbrev pub AllNamed : Parts → Type 0
  AllNamed [] = Unit {0}
  AllNamed (None ∷ xs) = AllNamed xs
  AllNamed (Some x ∷ xs) = Named l x × AllNamed xs

  -- ---- lists

  pub row_named : (xs : Parts) → AllNamed xs → RowNamed l (row xs)
  row_named [] e = tt
  row_named (Some x ∷ xs) e = (e.0, row_named xs e.1)
  row_named (None ∷ xs) e = row_named xs e

  pub list_named : (ps : Typeds TypeTree) → RowNamed l ps → AllNamed (list_of ps)
  list_named sort.none e = tt
  list_named (sort.more x xs) e = (e.0, list_named xs e.1)
  list_named (sort.skip xs) e = list_named xs e

  pub parts_named : (x : Part) → Named l x → AllNamed (list_of (parts_of x))
  parts_named (typed f i j a ps) e = list_named ps e.1

  pub both_named : (xs ys : Parts) → AllNamed xs → AllNamed ys → AllNamed (xs ++ ys)
  both_named [] ys e d = d
  both_named (Some x ∷ xs) ys e d = (e.0, both_named xs ys e.1 d)
  both_named (None ∷ xs) ys e d = both_named xs ys e d

  pub taken_named : (n : ℕ) (xs : Parts) → AllNamed xs → AllNamed (take n xs)
  taken_named zero xs e = tt
  taken_named (suc n) [] e = tt
  taken_named (suc n) (Some x ∷ xs) e = (e.0, taken_named n xs e.1)
  taken_named (suc n) (None ∷ xs) e = taken_named n xs e

  pub first_named : (x : Option Part) (xs : Parts) → AllNamed (x ∷ xs) → AllNamed (x ∷ [])
  first_named None xs e = tt
  first_named (Some x) xs e = (e.0, tt)

  pub rest_named : (x : Option Part) (xs : Parts) → AllNamed (x ∷ xs) → AllNamed xs
  rest_named None xs e = e
  rest_named (Some x) xs e = e.1

  pub with_named : (x : Option Part) (xs : Parts) → AllNamed (x ∷ []) → AllNamed xs → AllNamed (x ∷ xs)
  with_named None xs e d = d
  with_named (Some x) xs e d = (e.0, d)

  -- ---- how parts are laid out

  pub held_named : (x : Option Part) → AllNamed (x ∷ []) → AllNamed (held x)
  held_named None e = tt
  held_named (Some (typed f i j a ps)) e = branch AllNamed (is_held f) (list_of ps) (Some (typed f i j a ps) ∷ []) (list_named ps e.0.1) e

  pub all_held_named : (xs : Parts) → AllNamed xs → AllNamed (all_held xs)
  all_held_named [] e = tt
  all_held_named (x ∷ xs) e = both_named (held x) (all_held xs) (held_named x (first_named x xs e)) (all_held_named xs (rest_named x xs e))

  leaf_named : (x : Part) → Named l (leaf x)
  leaf_named (typed f i j a ps) = (tt, tt)

  cut_named : (x : Option Part) → AllNamed (x ∷ []) → AllNamed (cut x ∷ [])
  cut_named None e = tt
  cut_named (Some x) e = branch (λ (y : Option Part). AllNamed (y ∷ [])) (is_type (sort_of x)) (Some (leaf x)) (Some x) (leaf_named x, tt) e

  pub first_cut_named : (xs : Parts) → AllNamed xs → AllNamed (first_cut xs)
  first_cut_named [] e = tt
  first_cut_named (x ∷ xs) e = with_named (cut x) xs (cut_named x (first_named x xs e)) (rest_named x xs e)

  call_parts_named : (xs : Parts) → AllNamed xs → AllNamed (call_parts xs)
  call_parts_named [] e = tt
  call_parts_named (f ∷ xs) e =
      branch AllNamed (is_make_call (f ∷ xs)) (f ∷ first_cut xs) (cut f ∷ xs) (with_named f (first_cut xs) (first_named f xs e) (first_cut_named xs (rest_named f xs e)))
      (with_named (cut f) xs (cut_named f (first_named f xs e)) (rest_named f xs e))

  bounds_named : (x : Option Part) → AllNamed (x ∷ []) → AllNamed (bounds_of x)
  bounds_named x e = branch AllNamed (has_no_low x) (None ∷ held x) (held x) (held_named x e) (held_named x e)

  bracketed_named : (xs : Parts) → AllNamed xs → AllNamed (bracketed_parts xs)
  bracketed_named [] e = tt
  bracketed_named (x ∷ []) e = e
  bracketed_named (x ∷ y ∷ ys) e = with_named x (bounds_of y) (first_named x (y ∷ ys) e) (bounds_named y (first_named y ys (rest_named x (y ∷ ys) e)))

  selector_parts_named : (xs : Parts) → AllNamed xs → AllNamed (selector_parts xs)
  selector_parts_named [] e = tt
  selector_parts_named (None ∷ xs) e = e
  selector_parts_named (Some x ∷ []) e = branch AllNamed (is_package (sort_of x)) [] (Some x ∷ []) tt e
  selector_parts_named (Some x ∷ y ∷ ys) e = e

  pub behind_named : (xs : Parts) → AllNamed xs → AllNamed (behind_first xs)
  behind_named [] e = tt
  behind_named (x ∷ xs) e = rest_named x xs e

  layout_named : (k : Kind) (xs : Parts) → AllNamed xs → AllNamed (layout k xs)
  layout_named kind.Selector xs e = selector_parts_named xs e
  layout_named kind.Bracketed xs e = bracketed_named xs e
  layout_named kind.Call xs e = call_parts_named xs e
  layout_named kind.Composite xs e = first_cut_named xs e
  layout_named kind.LiteralValue xs e = e
  layout_named kind.Keyed xs e = behind_named xs e
  layout_named kind.Fields xs e = all_held_named xs e
  layout_named kind.StructType xs e = all_held_named xs e
  layout_named k xs e = e

  -- ---- what parts take

  mutual
    settled_named : (t : TypeTree) (x : Part) → Named l x → Named l (settled t x)
    settled_named t (typed f i j a ps) e = branch (Named l) (takes_type a.sort) (typed f i j (record a { sort = retyped t a.sort }) (all_settled t ps)) (typed f i j a ps) (e.0, row_settled_named t ps e.1) e

    row_settled_named : (t : TypeTree) (ps : Typeds TypeTree) → RowNamed l ps → RowNamed l (all_settled t ps)
    row_settled_named t sort.none e = tt
    row_settled_named t (sort.more x xs) e = (settled_named t x e.0, row_settled_named t xs e.1)
    row_settled_named t (sort.skip xs) e = row_settled_named t xs e

  defaulted_named : (o : Option OpenKind) (x : Part) → Named l x → Named l (defaulted o x)
  defaulted_named None x e = e
  defaulted_named (Some k) x e = settled_named (default_type k) x e

  pub given_named : (k : Take) (x : Part) → Named l x → Named l (given k x)
  given_named stay x e = e
  given_named default x e = defaulted_named (open_kind (sort_of x)) x e
  given_named (as_type t) x e = settled_named t x e

  all_given_named : (ks : List Take) (ys : Parts) → AllNamed ys → AllNamed (all_given ks ys)
  all_given_named [] ys e = e
  all_given_named (k ∷ ks) [] e = e
  all_given_named (k ∷ ks) (Some y ∷ ys) e = (given_named k y e.0, all_given_named ks ys e.1)
  all_given_named (k ∷ ks) (None ∷ ys) e = all_given_named ks ys e

  -- ---- forms

  -- a local that is meant counts
  abbrev pub Counts : Option Object → Type 0
  Counts (Some (object.Local f n)) = l n ≡ true
  Counts o = Unit {0}

  object_named : (s : Scope) (o : Option Object) → Counts o → form_named l (object_form s o)
  object_named s None w = tt
  object_named s (Some object.Import) w = tt
  object_named s (Some (object.Predeclared p)) w = tt
  object_named s (Some (object.Package a)) w = tt
  object_named s (Some (object.Local d a)) w = w

  pub declared_named : (s : Scope) (o : Option Object) → Counts o → form_named l (declared_form s o)
  declared_named s None w = tt
  declared_named s (Some object.Import) w = tt
  declared_named s (Some (object.Predeclared p)) w = tt
  declared_named s (Some (object.Package a)) w = tt
  declared_named s (Some (object.Local d a)) w = w

  type_named : (x : Stands) (f : Form) → form_named l f → form_named l (form_or_type x f)
  type_named (sort.IsType t) f e = tt
  type_named x f e = e

  selector_named : (rights : Rights) (name : List ℕ) (ys : Parts) → form_named l (selector_form rights name ys)
  selector_named rights name [] = tt
  selector_named rights name (None ∷ ys) = tt
  selector_named rights name (Some x ∷ []) = tt
  selector_named rights name (Some x ∷ y ∷ ys) = tt

  bracketed_form_named : (ys : Parts) → form_named l (bracketed_form ys)
  bracketed_form_named [] = tt
  bracketed_form_named (x ∷ []) = tt
  bracketed_form_named (x ∷ y ∷ []) = tt
  bracketed_form_named (x ∷ y ∷ z ∷ zs) = tt

  callee_named : (x : Stands) → form_named l (callee_form x)
  callee_named (sort.IsType t) = tt
  callee_named x = tt

  call_named : (ys : Parts) → form_named l (on_first form.Call (λ f xs. callee_form (sort_of f)) ys)
  call_named [] = tt
  call_named (None ∷ ys) = tt
  call_named (Some x ∷ ys) = callee_named (sort_of x)

  key_named : (rights : Rights) (h : Hint) (name : List ℕ) → form_named l (key_form rights h name)
  key_named rights (member t) name = tt
  key_named rights h name = tt

  pub made_named : (f : Form) (i j : ℕ) (x : Stands) (ys zs : Parts) → form_named l f → AllNamed zs → Named l (made f i j x ys zs)
  made_named f i j x ys zs e d = (e, row_named zs d)

  -- ---- expressions

  -- each token means a local that counts, or no local
  abbrev pub AllCount : Scope → Type 0
  AllCount s = (i : ℕ) → Counts (s.objects i)

  name_named : (s : Scope) → AllCount s → (h : Hint) (i : ℕ) → form_named l (name_form s h i)
  name_named s c declares i = declared_named s (s.objects i) (c i)
  name_named s c free i = declared_named s (s.objects i) (c i)
  name_named s c h i = type_named (name_sort s h i) (object_form s (s.objects i)) (object_named s (s.objects i) (c i))

  form_is_named : (s : Scope) → AllCount s → (k : Kind) (h : Hint) (i j : ℕ) (ys : Parts) → form_named l (form_by s k h i j ys)
  form_is_named s c kind.Name h i j ys = name_named s c h i
  form_is_named s c kind.Selector h i j ys = selector_named s.rights (s.texts (j - 1)) ys
  form_is_named s c kind.Bracketed h i j ys = bracketed_form_named ys
  form_is_named s c kind.Call h i j ys = call_named ys
  form_is_named s c kind.Keyed h i j ys = key_named s.rights h (s.texts i)
  form_is_named s c k h i j ys = tt

  built_named : (s : Scope) → AllCount s → (k : Kind) (h : Hint) (i j : ℕ) (ys : Parts) → AllNamed ys → (b : Bool) → Named l (built_by s k h i j ys b)
  built_named s c k h i j ys e true = (form_is_named s c k h i j ys, row_named (all_given (takes s k h ys) ys) (all_given_named (takes s k h ys) ys e))
  built_named s c k h i j ys e false = (form_is_named s c k h i j ys, row_named ys e)

  in_part : (s : Scope) → AllCount s → (k : Kind) (xs : Parts) → AllCount (part_scope s k xs)
  in_part s c kind.SequenceType [] = c
  in_part s c kind.SequenceType (x ∷ xs) = c
  in_part s c k xs = c

  mutual
    pub typing_named : (s : Scope) → AllCount s → (h : Hint) (t : Tree) → Named l (typing s h t)
    typing_named s c h (node k i j ps) =
        let xs = typings s k h ps [] ps in
        built_named s c k h i j (layout k xs) (layout_named k xs (typings_named s c k h ps [] tt ps)) (is_sound k (layout k xs) (own_faults s k h i j (layout k xs)))

    typings_named : (s : Scope) → AllCount s → (k : Kind) (h : Hint) (all : Trees) (xs : Parts) → AllNamed xs → (ps : Trees) → AllNamed (typings s k h all xs ps)
    typings_named s c k h all xs e none = e
    typings_named s c k h all xs e (skip ps) = typings_named s c k h all (xs ++ None ∷ []) (both_named xs (None ∷ []) e tt) ps
    typings_named s c k h all xs e (more t ps) =
        let x = typing (part_scope s k xs) (hint s k h all xs (kind_of t)) t in
        typings_named s c k h all (xs ++ Some x ∷ []) (both_named xs (Some x ∷ []) e (typing_named (part_scope s k xs) (in_part s c k xs) (hint s k h all xs (kind_of t)) t, tt)) ps
