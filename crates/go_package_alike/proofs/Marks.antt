-- Typed trees in which each field's name has a token that passes the test.
use Rattle.std.proofs.Common.{◌≡◌, ℕ, ◌-◌, Bool, true, false, if◌then◌else◌, List, [], ◌∷◌, ◌++◌, Option, Some, None, refl, ap, ◌∙◌}
use Rattle.go_grammar.specs.declared.kind.Kind.{Kind}
use Rattle.go_grammar.specs.declared.kind.Kind.TheVariants as kind
use Rattle.go_grammar.specs.Trees.{Tree, node, Trees, none, more, skip, kind_of}
use Rattle.go_types.specs.Trees.{TypeTree}
use Rattle.go_types.specs.Relations.{Rights}
use Rattle.go_typed.specs.declared.form.Form.{Form}
use Rattle.go_typed.specs.declared.form.Form.TheVariants as form
use Rattle.go_typed.specs.Trees.{Typed, typed, Typeds, row, list_of, form_of, first_of, sort_of, parts_of}
use Rattle.go_typed.specs.Trees as sort
use Rattle.go_exprs_rules.specs.declared.family.OpenKind.{OpenKind}
use Rattle.go_exprs_rules.specs.Scopes.{Scope, Hint}
use Rattle.go_exprs_rules.specs.Settling.{Part, Take, stay, default, as_type, settled, all_settled, defaulted, given}
use Rattle.go_exprs_rules.specs.Sorts.{Stands, takes_type, open_kind, default_type, named_type, retyped}
use Rattle.go_exprs_rules.specs.Tables.{Parts, is_held, held, all_held, leaf, is_type, cut, first_cut, is_make_call, call_parts, has_no_low, bounds_of, bracketed_parts, is_package, selector_parts}
use Rattle.go_exprs_rules.specs.Tables.{behind_first, layout, callee_form, selector_form, bracketed_form, on_first, form_by, take_optional, all_given, takes, is_sound, own_faults, built_by, built, hint}
use Rattle.go_exprs_rules.specs.Tables.{part_scope}
use Rattle.go_exprs_rules.specs.TypeNodes.{Fields, fields_from, fields_of, is_field_name}
use Rattle.go_exprs_rules.specs.Typing.{typing, typings}
use Rattle.go_package_alike.specs.Scopes.{TokenHas, AllTokens, TokensIn}

pub branch : {A : Type 0} (P : A → Type 0) (b : Bool) (x y : A) → P x → P y → P (if b then x else y)
branch P true x y h g = h
branch P false x y h g = g

abbrev pub FormHas : (ℕ → Bool) → Form → ℕ → Type 0
FormHas p (form.Held kind.DeclaredName) i = p i ≡ true
FormHas p f i = Unit {0}

abbrev mutual
  pub Marked : (ℕ → Bool) → Part → Type 0
  Marked p (typed f i j l ps) = FormHas p f i × AllMarked p ps

  pub AllMarked : (ℕ → Bool) → Typeds TypeTree → Type 0
  AllMarked p sort.none = Unit {0}
  AllMarked p (sort.more x xs) = Marked p x × AllMarked p xs
  AllMarked p (sort.skip xs) = AllMarked p xs

abbrev pub MaybeMarked : (ℕ → Bool) → Option Part → Type 0
MaybeMarked p None = Unit {0}
MaybeMarked p (Some x) = Marked p x

abbrev pub PartsMarked : (ℕ → Bool) → Parts → Type 0
PartsMarked p [] = Unit {0}
PartsMarked p (x ∷ xs) = MaybeMarked p x × PartsMarked p xs

module _ (p : ℕ → Bool) where
  -- ---- forms

  any_form : (f : Form) (i : ℕ) → p i ≡ true → FormHas p f i
  any_form (form.Held kind.DeclaredName) i e = e
  any_form f i e = tt

  callee_has : (x : Stands) (i : ℕ) → FormHas p (callee_form x) i
  callee_has (sort.IsType t) i = tt
  callee_has x i = tt

  call_has : (ys : Parts) (i : ℕ) → FormHas p (on_first form.Call (λ f xs. callee_form (sort_of f)) ys) i
  call_has (Some f ∷ xs) i = callee_has (sort_of f) i
  call_has ys i = tt

  selector_has : (rights : Rights) (name : List ℕ) (ys : Parts) (i : ℕ) → FormHas p (selector_form rights name ys) i
  selector_has rights name [] i = tt
  selector_has rights name (Some x ∷ []) i = tt
  selector_has rights name ys i = tt

  bracketed_has : (ys : Parts) (i : ℕ) → FormHas p (bracketed_form ys) i
  bracketed_has (x ∷ y ∷ []) i = tt
  bracketed_has ys i = tt

  form_has : (s : Scope) (k : Kind) (h : Hint) (i j : ℕ) (ys : Parts) → TokenHas p k i j → FormHas p (form_by s k h i j ys) i
  form_has s kind.Name h i j ys e = any_form (form_by s kind.Name h i j ys) i e
  form_has s kind.Keyed h i j ys e = any_form (form_by s kind.Keyed h i j ys) i e
  form_has s kind.DeclaredName h i j ys e = e
  form_has s kind.Selector h i j ys e = selector_has s.rights (s.texts (j - 1)) ys i
  form_has s kind.Bracketed h i j ys e = bracketed_has ys i
  form_has s kind.Call h i j ys e = call_has ys i
  form_has s k h i j ys e = tt

  -- ---- parts

  list_marked : (ps : Typeds TypeTree) → AllMarked p ps → PartsMarked p (list_of ps)
  list_marked sort.none w = tt
  list_marked (sort.more x xs) w = (w.0, list_marked xs w.1)
  list_marked (sort.skip xs) w = (tt, list_marked xs w)

  row_marked : (xs : Parts) → PartsMarked p xs → AllMarked p (row xs)
  row_marked [] w = tt
  row_marked (None ∷ xs) w = row_marked xs w.1
  row_marked (Some x ∷ xs) w = (w.0, row_marked xs w.1)

  inner_marked : (x : Part) → Marked p x → PartsMarked p (list_of (parts_of x))
  inner_marked (typed f i j l ps) w = list_marked ps w.1

  pub append_marked : (xs ys : Parts) → PartsMarked p xs → PartsMarked p ys → PartsMarked p (xs ++ ys)
  append_marked [] ys w h = h
  append_marked (x ∷ xs) ys w h = (w.0, append_marked xs ys w.1 h)

  held_marked : (x : Option Part) → MaybeMarked p x → PartsMarked p (held x)
  held_marked None w = (tt, tt)
  held_marked (Some x) w = branch (PartsMarked p) (is_held (form_of x)) (list_of (parts_of x)) (Some x ∷ []) (inner_marked x w) (w, tt)

  all_held_marked : (xs : Parts) → PartsMarked p xs → PartsMarked p (all_held xs)
  all_held_marked [] w = tt
  all_held_marked (x ∷ xs) w = append_marked (held x) (all_held xs) (held_marked x w.0) (all_held_marked xs w.1)

  leaf_marked : (x : Part) → Marked p x → Marked p (leaf x)
  leaf_marked (typed f i j l ps) w = (tt, tt)

  cut_marked : (x : Option Part) → MaybeMarked p x → MaybeMarked p (cut x)
  cut_marked None w = tt
  cut_marked (Some x) w = branch (MaybeMarked p) (is_type (sort_of x)) (Some (leaf x)) (Some x) (leaf_marked x w) w

  first_cut_marked : (xs : Parts) → PartsMarked p xs → PartsMarked p (first_cut xs)
  first_cut_marked [] w = tt
  first_cut_marked (x ∷ xs) w = (cut_marked x w.0, w.1)

  call_parts_marked : (xs : Parts) → PartsMarked p xs → PartsMarked p (call_parts xs)
  call_parts_marked [] w = tt
  call_parts_marked (f ∷ xs) w = branch (PartsMarked p) (is_make_call (f ∷ xs)) (f ∷ first_cut xs) (cut f ∷ xs) (w.0, first_cut_marked xs w.1) (cut_marked f w.0, w.1)

  bounds_marked : (x : Option Part) → MaybeMarked p x → PartsMarked p (bounds_of x)
  bounds_marked x w = branch (PartsMarked p) (has_no_low x) (None ∷ held x) (held x) (tt, held_marked x w) (held_marked x w)

  bracketed_marked : (xs : Parts) → PartsMarked p xs → PartsMarked p (bracketed_parts xs)
  bracketed_marked [] w = tt
  bracketed_marked (x ∷ []) w = w
  bracketed_marked (x ∷ y ∷ ys) w = (w.0, bounds_marked y w.1.0)

  selector_marked : (xs : Parts) → PartsMarked p xs → PartsMarked p (selector_parts xs)
  selector_marked (Some x ∷ []) w = branch (PartsMarked p) (is_package (sort_of x)) [] (Some x ∷ []) tt w
  selector_marked xs w = w

  behind_marked : (xs : Parts) → PartsMarked p xs → PartsMarked p (behind_first xs)
  behind_marked [] w = tt
  behind_marked (x ∷ xs) w = w.1

  pub layout_marked : (k : Kind) (xs : Parts) → PartsMarked p xs → PartsMarked p (layout k xs)
  layout_marked kind.Selector xs w = selector_marked xs w
  layout_marked kind.Bracketed xs w = bracketed_marked xs w
  layout_marked kind.Call xs w = call_parts_marked xs w
  layout_marked kind.Composite xs w = first_cut_marked xs w
  layout_marked kind.LiteralValue xs w = (tt, w)
  layout_marked kind.Keyed xs w = behind_marked xs w
  layout_marked kind.Fields xs w = all_held_marked xs w
  layout_marked kind.StructType xs w = all_held_marked xs w
  layout_marked k xs w = w

  -- ---- what parts take

  mutual
    settled_marked : (t : TypeTree) (x : Part) → Marked p x → Marked p (settled t x)
    settled_marked t (typed f i j l ps) w =
        branch (Marked p) (takes_type l.sort) (typed f i j (record l { sort = retyped t l.sort }) (all_settled t ps)) (typed f i j l ps) (w.0, all_settled_marked t ps w.1) w

    all_settled_marked : (t : TypeTree) (ps : Typeds TypeTree) → AllMarked p ps → AllMarked p (all_settled t ps)
    all_settled_marked t sort.none w = tt
    all_settled_marked t (sort.more x xs) w = (settled_marked t x w.0, all_settled_marked t xs w.1)
    all_settled_marked t (sort.skip xs) w = all_settled_marked t xs w

  defaulted_marked : (o : Option OpenKind) (x : Part) → Marked p x → Marked p (defaulted o x)
  defaulted_marked (Some k) x w = settled_marked (default_type k) x w
  defaulted_marked None x w = w

  given_marked : (k : Take) (x : Part) → Marked p x → Marked p (given k x)
  given_marked stay x w = w
  given_marked default x w = defaulted_marked (open_kind (sort_of x)) x w
  given_marked (as_type t) x w = settled_marked t x w

  take_marked : (k : Take) (x : Option Part) → MaybeMarked p x → MaybeMarked p (take_optional k x)
  take_marked k None w = tt
  take_marked k (Some x) w = given_marked k x w

  all_given_marked : (ks : List Take) (ys : Parts) → PartsMarked p ys → PartsMarked p (all_given ks ys)
  all_given_marked [] ys w = w
  all_given_marked (k ∷ ks) [] w = tt
  all_given_marked (k ∷ ks) (y ∷ ys) w = (take_marked k y w.0, all_given_marked ks ys w.1)

  -- ---- nodes

  built_by_marked : (s : Scope) (k : Kind) (h : Hint) (i j : ℕ) (ys : Parts) (b : Bool) → TokenHas p k i j → PartsMarked p ys → Marked p (built_by s k h i j ys b)
  built_by_marked s k h i j ys true e w = (form_has s k h i j ys e, row_marked (all_given (takes s k h ys) ys) (all_given_marked (takes s k h ys) ys w))
  built_by_marked s k h i j ys false e w = (form_has s k h i j ys e, row_marked ys w)

  built_marked : (s : Scope) (k : Kind) (h : Hint) (i j : ℕ) (xs : Parts) → TokenHas p k i j → PartsMarked p xs → Marked p (built s k h i j xs)
  built_marked s k h i j xs e w = built_by_marked s k h i j (layout k xs) (is_sound k (layout k xs) (own_faults s k h i j (layout k xs))) e (layout_marked k xs w)

  mutual
    pub typed_marked : (s : Scope) (h : Hint) (t : Tree) → AllTokens p t → Marked p (typing s h t)
    typed_marked s h (node k i j ps) e = built_marked s k h i j (typings s k h ps [] ps) e.0 (parts_marked s k h ps [] ps e.1 tt)

    pub parts_marked : (s : Scope) (k : Kind) (h : Hint) (all : Trees) (xs : Parts) (ps : Trees) → TokensIn p ps → PartsMarked p xs → PartsMarked p (typings s k h all xs ps)
    parts_marked s k h all xs none e w = w
    parts_marked s k h all xs (more t ts) e w =
        let x = typing (part_scope s k xs) (hint s k h all xs (kind_of t)) t in
        parts_marked s k h all (xs ++ Some x ∷ []) ts e.1 (append_marked xs (Some x ∷ []) w (typed_marked (part_scope s k xs) (hint s k h all xs (kind_of t)) t e.0, tt))
    parts_marked s k h all xs (skip ts) e w = parts_marked s k h all (xs ++ None ∷ []) ts e (append_marked xs (None ∷ []) w (tt, tt))

  -- ---- the fields of a struct, by two accounts of what tokens say

  module _ (a b : ℕ → List ℕ) (same : (i : ℕ) → p i ≡ true → b i ≡ a i) where
    abbrev line : (ℕ → List ℕ) → List (List ℕ) → Part → Parts → Fields
    line c ns x xs = if is_field_name (form_of x) then fields_from c (ns ++ c (first_of x) ∷ []) xs else fields_of ns (named_type (sort_of x)) (fields_from c [] xs)

    line_same : (ns : List (List ℕ)) (x : Part) (xs : Parts) → Marked p x → ((os : List (List ℕ)) → fields_from b os xs ≡ fields_from a os xs) → line b ns x xs ≡ line a ns x xs
    line_same ns (typed (form.Held kind.DeclaredName) i j l ps) xs w e = ap (λ t. fields_from b (ns ++ t ∷ []) xs) (same i w.0) ∙ e (ns ++ a i ∷ [])
    line_same ns (typed f i j l ps) xs w e = ap (fields_of ns (named_type l.sort)) (e [])

    pub fields_same : (ns : List (List ℕ)) (xs : Parts) → PartsMarked p xs → fields_from b ns xs ≡ fields_from a ns xs
    fields_same ns [] w = refl
    fields_same ns (None ∷ xs) w = fields_same ns xs w.1
    fields_same ns (Some x ∷ xs) w = line_same ns x xs w.0 (λ os. fields_same os xs w.1)
