-- What is typed says of its nodes what their parts say.
use Rattle.std.proofs.Common.{◌≡◌, ◌∙◌, ℕ, Bool, true, false, List, [], ◌∷◌, ◌++◌, Option, Some, None, refl, sym, ap}
use Rattle.std.specs.Prelude.{◌||◌, if◌then◌else◌}
use Rattle.std.specs.List.{list_any}
use Rattle.go_grammar.specs.declared.kind.Category.{Category}
use Rattle.go_grammar.specs.declared.kind.Kind.{Kind}
use Rattle.go_grammar.specs.declared.kind.Kind.TheVariants as kind
use Rattle.go_grammar.specs.declared.kind.Place.{Place}
use Rattle.go_grammar.specs.Categories.{place_of}
use Rattle.go_grammar.specs.Grammar.{rule}
use Rattle.go_grammar.specs.Rules.{Rule, End, Then, Maybe, Unless, Many, item}
use Rattle.go_grammar.specs.Trees.{Tree, node, Trees, none, more, skip, kind_of}
use Rattle.go_tree.specs.declared.object.Object.{Object}
use Rattle.go_tree.specs.declared.object.Object.TheVariants as object
use Rattle.go_types.specs.Trees.{TypeTree}
use Rattle.go_typed.specs.declared.form.Form.{Form}
use Rattle.go_typed.specs.declared.form.Form.TheVariants as form
use Rattle.go_typed.specs.Trees.{Sort, Label, Typed, typed, Typeds, sort_of, form_of, label_of, parts_of, row, list_of}
use Rattle.go_typed.specs.Trees as sort
use Rattle.go_exprs_rules.specs.Names.{name_form, object_form, declared_form, form_or_type, name_sort}
use Rattle.go_exprs_rules.specs.Scopes.{Scope, Hint, declares, free, member}
use Rattle.go_exprs_rules.specs.Settling.{Part, Take, stay, default, as_type, given, defaulted}
use Rattle.go_exprs_rules.specs.Sorts.{open_kind, default_type}
use Rattle.go_exprs_rules.specs.declared.family.OpenKind.{OpenKind}
use Rattle.go_exprs_rules.specs.Tables.{Parts, hint, part_scope, held, all_held, leaf, is_type, cut, first_cut, call_parts, is_make_call, bounds_of, has_no_low, bracketed_parts, selector_parts, is_package, behind_first, layout}
use Rattle.go_exprs_rules.specs.Tables.{is_held, form_by, sort_by, takes, all_given, label, made, built_by, built, is_sound, own_faults, varies_in, is_variable_name, key_form, callee_form}
use Rattle.go_exprs_rules.specs.Typing.{typing, typings}
use Rattle.go_exprs_variables.specs.Over.{any_varies, varies_over}
use Rattle.go_exprs_variables.specs.Shapes.{IsShaped, AreShaped}
use Rattle.go_exprs_variables.proofs.Assembly.{varies_settled}
use Rattle.go_exprs_variables.proofs.Operands.{keys_kept}
use Rattle.go_exprs_variables.proofs.Trees.{is_key, KeyAgrees, Agrees, AllAgree}

-- ---- rows of parts

abbrev pub EachAgrees : Parts → Type 0
EachAgrees [] = Unit {0}
EachAgrees (None ∷ xs) = EachAgrees xs
EachAgrees (Some x ∷ xs) = Agrees x × EachAgrees xs

pub row_agrees : (zs : Parts) → EachAgrees zs → AllAgree (row zs)
row_agrees [] h = tt
row_agrees (None ∷ zs) h = row_agrees zs h
row_agrees (Some z ∷ zs) h = (h.0, row_agrees zs h.1)

list_agrees : (ps : Typeds TypeTree) → AllAgree ps → EachAgrees (list_of ps)
list_agrees sort.none h = tt
list_agrees (sort.more p ps) h = (h.0, list_agrees ps h.1)
list_agrees (sort.skip ps) h = list_agrees ps h

pub both_agree : (xs ys : Parts) → EachAgrees xs → EachAgrees ys → EachAgrees (xs ++ ys)
both_agree [] ys g h = h
both_agree (None ∷ xs) ys g h = both_agree xs ys g h
both_agree (Some x ∷ xs) ys g h = (g.0, both_agree xs ys g.1 h)

-- ---- what parts are given

pub given_agrees : (k : Take) (x : Part) → Agrees x → Agrees (given k x)
given_agrees stay x h = h
given_agrees (as_type t) x h = keys_kept t x h
given_agrees default x h = by_kind (open_kind (sort_of x))
  where
    by_kind : (o : Option OpenKind) → Agrees (defaulted o x)
    by_kind None = h
    by_kind (Some k) = keys_kept (default_type k) x h

given_varies : (k : Take) (x : Part) → (label_of (given k x)).varies ≡ (label_of x).varies
given_varies stay x = refl
given_varies (as_type t) x = varies_settled t x
given_varies default x = by_kind (open_kind (sort_of x))
  where
    by_kind : (o : Option OpenKind) → (label_of (defaulted o x)).varies ≡ (label_of x).varies
    by_kind None = refl
    by_kind (Some k) = varies_settled (default_type k) x

pub all_given_agree : (ks : List Take) (ys : Parts) → EachAgrees ys → EachAgrees (all_given ks ys)
all_given_agree [] ys h = h
all_given_agree (k ∷ ks) [] h = tt
all_given_agree (k ∷ ks) (None ∷ ys) h = all_given_agree ks ys h
all_given_agree (k ∷ ks) (Some y ∷ ys) h = (given_agrees k y h.0, all_given_agree ks ys h.1)

all_given_vary : (ks : List Take) (ys : Parts) → list_any varies_in (all_given ks ys) ≡ list_any varies_in ys
all_given_vary [] ys = refl
all_given_vary (k ∷ ks) [] = refl
all_given_vary (k ∷ ks) (None ∷ ys) = all_given_vary ks ys
all_given_vary (k ∷ ks) (Some y ∷ ys) = ap (λ b. b || list_any varies_in (all_given ks ys)) (given_varies k y) ∙ ap (λ b. (label_of y).varies || b) (all_given_vary ks ys)

-- ---- how they are laid out

held_agrees : (x : Option Part) → EachAgrees (x ∷ []) → EachAgrees (held x)
held_agrees None h = tt
held_agrees (Some (typed f i j l ps)) h = by_test (is_held f)
  where
    by_test : (b : Bool) → EachAgrees (if b then list_of ps else Some (typed f i j l ps) ∷ [])
    by_test true = list_agrees ps h.0.2
    by_test false = h

first_agrees : (x : Option Part) (xs : Parts) → EachAgrees (x ∷ xs) → EachAgrees (x ∷ []) × EachAgrees xs
first_agrees None xs h = (tt, h)
first_agrees (Some x) xs h = ((h.0, tt), h.1)

with_first : (x : Option Part) (xs : Parts) → EachAgrees (x ∷ []) → EachAgrees xs → EachAgrees (x ∷ xs)
with_first None xs g h = h
with_first (Some x) xs g h = (g.0, h)

all_held_agree : (xs : Parts) → EachAgrees xs → EachAgrees (all_held xs)
all_held_agree [] h = tt
all_held_agree (x ∷ xs) h = let both = first_agrees x xs h in both_agree (held x) (all_held xs) (held_agrees x both.0) (all_held_agree xs both.1)

pub leaf_agrees : (x : Part) → Agrees (leaf x)
leaf_agrees (typed f i j l ps) = (tt, refl, tt)

cut_agrees : (x : Option Part) → EachAgrees (x ∷ []) → EachAgrees (cut x ∷ [])
cut_agrees None h = tt
cut_agrees (Some x) h = by_test (is_type (sort_of x))
  where
    by_test : (b : Bool) → EachAgrees ((if b then Some (leaf x) else Some x) ∷ [])
    by_test true = (leaf_agrees x, tt)
    by_test false = h

first_cut_agrees : (xs : Parts) → EachAgrees xs → EachAgrees (first_cut xs)
first_cut_agrees [] h = tt
first_cut_agrees (x ∷ xs) h = let both = first_agrees x xs h in with_first (cut x) xs (cut_agrees x both.0) both.1

call_agrees : (xs : Parts) → EachAgrees xs → EachAgrees (call_parts xs)
call_agrees [] h = tt
call_agrees (f ∷ xs) h = by_test (is_make_call (f ∷ xs))
  where
    both : EachAgrees (f ∷ []) × EachAgrees xs
    both = first_agrees f xs h

    by_test : (b : Bool) → EachAgrees (if b then f ∷ first_cut xs else cut f ∷ xs)
    by_test true = with_first f (first_cut xs) both.0 (first_cut_agrees xs both.1)
    by_test false = with_first (cut f) xs (cut_agrees f both.0) both.1

bounds_agree : (x : Option Part) → EachAgrees (x ∷ []) → EachAgrees (bounds_of x)
bounds_agree x h = by_test (has_no_low x)
  where
    by_test : (b : Bool) → EachAgrees (if b then None ∷ held x else held x)
    by_test true = held_agrees x h
    by_test false = held_agrees x h

bracketed_agree : (xs : Parts) → EachAgrees xs → EachAgrees (bracketed_parts xs)
bracketed_agree [] h = h
bracketed_agree (x ∷ []) h = h
bracketed_agree (x ∷ y ∷ ys) h =
    let both = first_agrees x (y ∷ ys) h in
    with_first x (bounds_of y) both.0 (bounds_agree y (first_agrees y ys both.1).0)

selector_agree : (xs : Parts) → EachAgrees xs → EachAgrees (selector_parts xs)
selector_agree [] h = h
selector_agree (None ∷ xs) h = h
selector_agree (Some x ∷ y ∷ ys) h = h
selector_agree (Some x ∷ []) h = by_test (is_package (sort_of x))
  where
    by_test : (b : Bool) → EachAgrees (if b then [] else Some x ∷ [])
    by_test true = tt
    by_test false = h

behind_agree : (xs : Parts) → EachAgrees xs → EachAgrees (behind_first xs)
behind_agree [] h = tt
behind_agree (x ∷ xs) h = (first_agrees x xs h).1

layout_agrees : (k : Kind) (xs : Parts) → EachAgrees xs → EachAgrees (layout k xs)
layout_agrees kind.Selector xs h = selector_agree xs h
layout_agrees kind.Bracketed xs h = bracketed_agree xs h
layout_agrees kind.Call xs h = call_agrees xs h
layout_agrees kind.Composite xs h = first_cut_agrees xs h
layout_agrees kind.LiteralValue xs h = h
layout_agrees kind.Keyed xs h = behind_agree xs h
layout_agrees kind.Fields xs h = all_held_agree xs h
layout_agrees kind.StructType xs h = all_held_agree xs h
layout_agrees k xs h = h

-- ---- forms

unkeyed : (f : Form) (x : Sort TypeTree) (qs : Typeds TypeTree) → is_key f ≡ false → KeyAgrees f x qs
unkeyed (form.Keyed n) x qs e = cc
unkeyed f x qs e = tt

abbrev pub is_keyed_kind : Kind → Bool
is_keyed_kind kind.Keyed = true
is_keyed_kind k = false

abbrev pub is_name_kind : Kind → Bool
is_name_kind kind.Name = true
is_name_kind k = false

module _ (s : Scope) where
  object_unkeyed : (o : Option Object) → is_key (object_form s o) ≡ false
  object_unkeyed None = refl
  object_unkeyed (Some object.Import) = refl
  object_unkeyed (Some (object.Predeclared p)) = refl
  object_unkeyed (Some (object.Package n)) = refl
  object_unkeyed (Some (object.Local g n)) = refl

  declared_unkeyed : (o : Option Object) → is_key (declared_form s o) ≡ false
  declared_unkeyed None = refl
  declared_unkeyed (Some object.Import) = refl
  declared_unkeyed (Some (object.Predeclared p)) = refl
  declared_unkeyed (Some (object.Package n)) = refl
  declared_unkeyed (Some (object.Local g n)) = refl

  or_type : (z : Sort TypeTree) (f : Form) → is_key f ≡ false → is_key (form_or_type z f) ≡ false
  or_type (sort.IsType u) f e = refl
  or_type z f e = e

  name_unkeyed : (h : Hint) (i : ℕ) → is_key (name_form s h i) ≡ false
  name_unkeyed declares i = declared_unkeyed (s.objects i)
  name_unkeyed free i = declared_unkeyed (s.objects i)
  name_unkeyed h i = or_type (name_sort s h i) (object_form s (s.objects i)) (object_unkeyed (s.objects i))

  callee_unkeyed : (z : Sort TypeTree) → (is_key (callee_form z) ≡ false) × ((x : Sort TypeTree) → is_variable_name (callee_form z) x ≡ false)
  callee_unkeyed (sort.IsType t) = (refl, λ x. refl)
  callee_unkeyed z = (refl, λ x. refl)

  pub form_unkeyed : (k : Kind) (h : Hint) (i j : ℕ) (ys : Parts) → is_keyed_kind k ≡ false → is_key (form_by s k h i j ys) ≡ false
  form_unkeyed kind.Keyed h i j ys e = cc
  form_unkeyed kind.Name h i j ys e = name_unkeyed h i
  form_unkeyed kind.Selector h i j [] e = refl
  form_unkeyed kind.Selector h i j (None ∷ ys) e = refl
  form_unkeyed kind.Selector h i j (Some x ∷ []) e = refl
  form_unkeyed kind.Selector h i j (Some x ∷ y ∷ ys) e = refl
  form_unkeyed kind.Bracketed h i j [] e = refl
  form_unkeyed kind.Bracketed h i j (x ∷ []) e = refl
  form_unkeyed kind.Bracketed h i j (x ∷ y ∷ []) e = refl
  form_unkeyed kind.Bracketed h i j (x ∷ y ∷ z ∷ ys) e = refl
  form_unkeyed kind.Call h i j [] e = refl
  form_unkeyed kind.Call h i j (None ∷ ys) e = refl
  form_unkeyed kind.Call h i j (Some f ∷ ys) e = (callee_unkeyed (sort_of f)).0
  form_unkeyed k h i j ys e = refl

  key_nameless : (h : Hint) (name : List ℕ) (x : Sort TypeTree) → is_variable_name (key_form s.rights h name) x ≡ false
  key_nameless (member t) name x = refl
  key_nameless h name x = refl

  form_nameless : (k : Kind) (h : Hint) (i j : ℕ) (ys : Parts) (x : Sort TypeTree) → is_name_kind k ≡ false → is_variable_name (form_by s k h i j ys) x ≡ false
  form_nameless kind.Name h i j ys x e = cc
  form_nameless kind.Keyed h i j ys x e = key_nameless h (s.texts i) x
  form_nameless kind.Selector h i j [] x e = refl
  form_nameless kind.Selector h i j (None ∷ ys) x e = refl
  form_nameless kind.Selector h i j (Some z ∷ []) x e = refl
  form_nameless kind.Selector h i j (Some z ∷ y ∷ ys) x e = refl
  form_nameless kind.Bracketed h i j [] x e = refl
  form_nameless kind.Bracketed h i j (z ∷ []) x e = refl
  form_nameless kind.Bracketed h i j (z ∷ y ∷ []) x e = refl
  form_nameless kind.Bracketed h i j (z ∷ y ∷ v ∷ ys) x e = refl
  form_nameless kind.Call h i j [] x e = refl
  form_nameless kind.Call h i j (None ∷ ys) x e = refl
  form_nameless kind.Call h i j (Some f ∷ ys) x e = (callee_unkeyed (sort_of f)).1 x
  form_nameless k h i j ys x e = refl

-- ---- nodes

varies_more : (x : Part) (qs : Typeds TypeTree) → any_varies (sort.more x qs) ≡ ((label_of x).varies || any_varies qs)
varies_more (typed f i j l ps) qs = refl

varies_row : (ys : Parts) → list_any varies_in ys ≡ any_varies (row ys)
varies_row [] = refl
varies_row (None ∷ ys) = varies_row ys
varies_row (Some x ∷ ys) = ap (λ b. (label_of x).varies || b) (varies_row ys) ∙ sym (varies_more x (row ys))

varies_here : (v : Bool) (zs : Parts) → (zs ≡ [] → ⊥) → varies_over v (row zs) ≡ any_varies (row zs)
varies_here v [] e = absurd (e refl)
varies_here v (None ∷ zs) e = refl
varies_here v (Some z ∷ zs) e = refl

made_agrees : (f : Form) (i j : ℕ) (x : Sort TypeTree) (ys zs : Parts) → KeyAgrees f x (row zs) → ((zs ≡ [] → ⊥) → is_variable_name f x ≡ false) → list_any varies_in zs ≡ list_any varies_in ys → EachAgrees zs → Agrees (made f i j x ys zs)
made_agrees f i j x ys [] key name same each = (key, refl, tt)
made_agrees f i j x ys (z ∷ zs) key name same each =
    let some : (z ∷ zs ≡ [] → ⊥) = (λ e. cc) in (
      key,
      varies_here (label f x ys).varies (z ∷ zs) some ∙ sym (varies_row (z ∷ zs)) ∙ same ∙ sym (ap (λ b. b || list_any varies_in ys) (name some)),
      row_agrees (z ∷ zs) each,
    )

-- a node that is neither a name nor an element with a key
node_agrees : (s : Scope) (k : Kind) (h : Hint) (i j : ℕ) (ys : Parts) (b : Bool) → is_keyed_kind k ≡ false → is_name_kind k ≡ false → EachAgrees ys → Agrees (built_by s k h i j ys b)
node_agrees s k h i j ys true key name each =
    let f = form_by s k h i j ys in
    let x = sort_by s k h i j ys in
    let zs = all_given (takes s k h ys) ys in
    made_agrees f i j x ys zs (unkeyed f x (row zs) (form_unkeyed s k h i j ys key)) (λ e. form_nameless s k h i j ys x name) (all_given_vary (takes s k h ys) ys) (all_given_agree (takes s k h ys) ys each)
node_agrees s k h i j ys false key name each =
    let f = form_by s k h i j ys in
    made_agrees f i j sort.Unknown ys ys (unkeyed f sort.Unknown (row ys) (form_unkeyed s k h i j ys key)) (λ e. form_nameless s k h i j ys sort.Unknown name) refl each

name_agrees : (s : Scope) (h : Hint) (i j : ℕ) (b : Bool) → Agrees (built_by s kind.Name h i j [] b)
name_agrees s h i j true = (unkeyed (name_form s h i) (name_sort s h i) sort.none (name_unkeyed s h i), refl, tt)
name_agrees s h i j false = (unkeyed (name_form s h i) sort.Unknown sort.none (name_unkeyed s h i), refl, tt)

keyed_agrees : (s : Scope) (h : Hint) (i j : ℕ) (n v : Part) → Agrees v → Agrees (built s kind.Keyed h i j (Some n ∷ Some v ∷ []))
keyed_agrees s h i j n v a =
    made_agrees (key_form s.rights h (s.texts i)) i j (sort_of v) (Some v ∷ []) (Some v ∷ []) (key h (s.texts i)) (λ e. key_nameless s h (s.texts i) (sort_of v)) refl (a, tt)
  where
    key : (h : Hint) (name : List ℕ) → KeyAgrees (key_form s.rights h name) (sort_of v) (sort.more v sort.none)
    key (member t) name = refl
    key h name = refl

by_kind : (s : Scope) (h : Hint) (p : Place) (k : Kind) (i j : ℕ) (ps : Trees) → AreShaped (rule p k) ps → EachAgrees (typings s k h ps [] ps) → Agrees (built s k h i j (typings s k h ps [] ps))
by_kind s h p kind.Name i j none e each = name_agrees s h i j (is_sound kind.Name [] (own_faults s kind.Name h i j []))
by_kind s h p kind.Name i j (more q qs) e each = elim e [ ]
by_kind s h p kind.Name i j (skip qs) e each = elim e [ ]
by_kind s h p kind.Keyed i j none e each = elim e [ ]
by_kind s h p kind.Keyed i j (skip qs) e each = elim e [ ]
by_kind s h p kind.Keyed i j (more n none) e each = elim e.1 [ ]
by_kind s h p kind.Keyed i j (more n (skip qs)) e each = elim e.1 [ ]
by_kind s h p kind.Keyed i j (more n (more v (more q qs))) e each = elim e.1.1 [ ]
by_kind s h p kind.Keyed i j (more n (more v (skip qs))) e each = elim e.1.1 [ ]
by_kind s h p kind.Keyed i j (more n (more v none)) e each =
    let first = typing s (hint s kind.Keyed h (more n (more v none)) [] (kind_of n)) n in
    keyed_agrees s h i j first (typing s (hint s kind.Keyed h (more n (more v none)) (Some first ∷ []) (kind_of v)) v) each.1.0
by_kind s h p k i j ps e each =
    let ys = layout k (typings s k h ps [] ps) in
    node_agrees s k h i j ys (is_sound k ys (own_faults s k h i j ys)) refl refl (layout_agrees k (typings s k h ps [] ps) each)

one_more : (xs : Parts) (x : Part) → EachAgrees xs → Agrees x → EachAgrees (xs ++ Some x ∷ [])
one_more xs x g h = both_agree xs (Some x ∷ []) g (h, tt)

one_less : (xs : Parts) → EachAgrees xs → EachAgrees (xs ++ None ∷ [])
one_less xs g = both_agree xs (None ∷ []) g tt

mutual
  -- Whatever is typed agrees.
  pub typing_agrees : (s : Scope) (h : Hint) (c : Category) (x : Tree) → IsShaped c x → Agrees (typing s h x)
  typing_agrees s h c (node k i j ps) e = by_kind s h (place_of c) k i j ps e.1 (parts_agree s k h ps [] ps (rule (place_of c) k) e.1 tt)

  parts_agree : (s : Scope) (k : Kind) (h : Hint) (all : Trees) (xs : Parts) (ps : Trees) (r : Rule) → AreShaped r ps → EachAgrees xs → EachAgrees (typings s k h all xs ps)
  parts_agree s k h all xs none r e each = each
  parts_agree s k h all xs (more p ps) (End ws) e each = elim e [ ]
  parts_agree s k h all xs (more p ps) (Then ws c r) e each =
      let x = typing (part_scope s k xs) (hint s k h all xs (kind_of p)) p in parts_agree s k h all (xs ++ Some x ∷ []) ps r e.1 (one_more xs x each (typing_agrees (part_scope s k xs) (hint s k h all xs (kind_of p)) c p e.0))
  parts_agree s k h all xs (more p ps) (Maybe ws c r) e each =
      let x = typing (part_scope s k xs) (hint s k h all xs (kind_of p)) p in parts_agree s k h all (xs ++ Some x ∷ []) ps r e.1 (one_more xs x each (typing_agrees (part_scope s k xs) (hint s k h all xs (kind_of p)) c p e.0))
  parts_agree s k h all xs (more p ps) (Unless ws c us r) e each =
      let x = typing (part_scope s k xs) (hint s k h all xs (kind_of p)) p in parts_agree s k h all (xs ++ Some x ∷ []) ps r e.1 (one_more xs x each (typing_agrees (part_scope s k xs) (hint s k h all xs (kind_of p)) c p e.0))
  parts_agree s k h all xs (more p ps) (Many ws l) e each =
      let x = typing (part_scope s k xs) (hint s k h all xs (kind_of p)) p in parts_agree s k h all (xs ++ Some x ∷ []) ps (Many ws l) e.1 (one_more xs x each (typing_agrees (part_scope s k xs) (hint s k h all xs (kind_of p)) (item l) p e.0))
  parts_agree s k h all xs (skip ps) (End ws) e each = elim e [ ]
  parts_agree s k h all xs (skip ps) (Then ws c r) e each = elim e [ ]
  parts_agree s k h all xs (skip ps) (Maybe ws c r) e each = parts_agree s k h all (xs ++ None ∷ []) ps r e (one_less xs each)
  parts_agree s k h all xs (skip ps) (Unless ws c us r) e each = parts_agree s k h all (xs ++ None ∷ []) ps r e (one_less xs each)
  parts_agree s k h all xs (skip ps) (Many ws l) e each = elim e [ ]
