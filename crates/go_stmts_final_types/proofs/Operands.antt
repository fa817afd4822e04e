-- Names, literals of basic types, parentheses, selectors, indexes and slice expressions.
use Rattle.std.proofs.Common.{◌≡◌, ℕ, ◌-◌, Bool, true, false, cond, [], ◌∷◌, List, Option, Some, None, refl, sym, ap, subst, ◌∙◌, true≢false}
use Rattle.std.specs.Prelude.{◌&&◌, ◌||◌, not, is_some}
use Rattle.go_grammar.specs.declared.kind.Kind.TheVariants as kind
use Rattle.go_tree.specs.declared.object.Object.{Object}
use Rattle.go_tree.specs.declared.object.Object.TheVariants as object
use Rattle.go_types.specs.Trees.{TypeTree}
use Rattle.go_types.specs.Relations.{Rights}
use Rattle.go_typed.specs.declared.form.Form.{Form}
use Rattle.go_typed.specs.declared.form.Form.TheVariants as form
use Rattle.go_typed.specs.declared.form.Referent.{Referent}
use Rattle.go_typed.specs.declared.form.Referent.TheVariants as referent
use Rattle.go_typed.specs.Trees.{Label, Typed, typed, Typeds, sort_of, form_of, row}
use Rattle.go_typed.specs.Trees as sort
use Rattle.go_exprs_rules.specs.Indexes.{bound_failing, text_length, index_failing_in, named_field, selector_failing, selector_sort, value_or_unknown, index_failing, index_sort, slice_failing, slice_sort, whole_or_absent}
use Rattle.go_exprs_rules.specs.Literals.{key_in}
use Rattle.go_exprs_rules.specs.Names.{object_form, declared_form, form_or_type, name_form, name_sort}
use Rattle.go_exprs_rules.specs.Scopes.{Scope, Hint, declares, free}
use Rattle.go_exprs_rules.specs.Settling.{Part, default, as_type, given, settled}
use Rattle.go_exprs_rules.specs.Sorts.{Stands, constant_of, is_open, takes_type, is_text, is_whole, form_of_value, element_of, slice_element, value_type, byte, int}
use Rattle.go_exprs_rules.specs.Tables.{Parts, is_held, is_variable_name, is_package, label, built_by, built_on, bounds_of, take_optional, failing}
use Rattle.go_stmts_defs.specs.Targets.{is_statement_call}
use Rattle.go_stmts_final_types.specs.Known.{VariableIsTyped, is_package_variable}
use Rattle.go_stmts_final_types.proofs.Given.{Settles, is_closed, is_valued, labelled, no_hole, settled_done, default_done, closed_done}
use Rattle.go_stmts_final_types.proofs.Nodes.{Slot, AllSlots, Sound, done_slot, no_slots, node_settles, other_sound, closed_sound, placed_sound}
use Rattle.go_stmts_final_types.proofs.Rows.{SoundIf, IsBracket, index, bounds}
use Rattle.go_stmts_final_types.proofs.Tests.{holds, valued_by, text_valued, whole_valued, elements_valued}
use Rattle.clone_window.specs.Masses.{is_hole, is_expression}
use Rattle.clone_window.specs.Masses as masses

-- ---- what holds of all forms of names

module _ (q : Form → Bool) (blank : q form.Blank ≡ false) (objects : (r : Referent) → q (form.Object r) ≡ false) (locals : (n : ℕ) → q (form.Local n) ≡ false) (declared : (n : ℕ) → q (form.Declared n) ≡ false) (types : q form.Type ≡ false) (s : Scope) where
  object_fails : (o : Option Object) → q (object_form s o) ≡ false
  object_fails None = blank
  object_fails (Some object.Import) = objects referent.Println
  object_fails (Some (object.Predeclared p)) = objects (referent.Predeclared p)
  object_fails (Some (object.Package n)) = objects (s.referents n)
  object_fails (Some (object.Local f n)) = locals n

  pub declared_fails : (o : Option Object) → q (declared_form s o) ≡ false
  declared_fails (Some (object.Local f n)) = declared n
  declared_fails None = blank
  declared_fails (Some object.Import) = objects referent.Println
  declared_fails (Some (object.Predeclared p)) = objects (referent.Predeclared p)
  declared_fails (Some (object.Package n)) = objects (s.referents n)

  type_fails : (x : Stands) (f : Form) → q f ≡ false → q (form_or_type x f) ≡ false
  type_fails (sort.IsType t) f e = types
  type_fails x f e = e

  pub name_fails : (h : Hint) (i : ℕ) → q (name_form s h i) ≡ false
  name_fails declares i = declared_fails (s.objects i)
  name_fails free i = declared_fails (s.objects i)
  name_fails h i = type_fails (name_sort s h i) (object_form s (s.objects i)) (object_fails (s.objects i))

-- ---- a node without parts

and_not : (a b : Bool) → b ≡ true → (a && not b) ≡ false
and_not true b e = ap not e
and_not false b e = refl

pub varying : (f : Form) (l : Label TypeTree) → l.varies ≡ true → is_hole false f l ≡ false
varying f l e = and_not (is_expression f && masses.is_constant l.sort) l.varies e

call_bare : (f : Form) (i j : ℕ) (l : Label TypeTree) → is_statement_call (typed f i j l sort.none) ≡ false
call_bare form.Parenthesized i j l = refl
call_bare form.Call i j l = refl
call_bare f i j l = refl

-- a variable that has no type isn't known
unknown_variable : (f : Form) (n : Stands) → (is_variable_name f n || false) ≡ true → is_open n ≡ true → VariableIsTyped (is_package_variable f) n → ⊥
unknown_variable (form.Local m) (sort.Value t) e o v = cc
unknown_variable (form.Local m) n e o v = cc
unknown_variable (form.Object (referent.Variable m)) n e o v = true≢false (sym o ∙ v)
unknown_variable (form.Object r) n e o v = cc
unknown_variable f n e o v = cc

pub bare_sound : (f : Form) → is_held f ≡ false → is_some (key_in f) ≡ false → (i j : ℕ) (n : Stands) → Sound (typed f i j (label f n []) sort.none)
bare_sound f p k i j n =
    let l = label f n [] in
    record {
      plain = p;
      settles = node_settles f i j n l.varies l.calls [] tt;
      target = λ rights o e. (e, no_hole f i j l sort.none (varying f l e) tt, λ k. unknown_variable f n e o k.1);
      called = λ m. absurd (true≢false (sym m ∙ call_bare f i j l));
      element = λ m u. absurd (true≢false (sym m ∙ k));
    }

pub name_sound : (s : Scope) (h : Hint) (i j : ℕ) → Sound (built_on s kind.Name h i j [])
name_sound s h i j =
    let p : is_held (name_form s h i) ≡ false = name_fails is_held refl (λ r. refl) (λ n. refl) (λ n. refl) refl s h i in
    let k : is_some (key_in (name_form s h i)) ≡ false = name_fails (λ f. is_some (key_in f)) refl (λ r. refl) (λ n. refl) (λ n. refl) refl s h i in
    placed_sound s kind.Name h i j [] refl p k (λ m f. bare_sound (name_form s h i) p k i j (name_sort s h i))

pub integer_sound : (s : Scope) (h : Hint) (i j : ℕ) → Sound (built_on s kind.Integer h i j [])
integer_sound s h i j = placed_sound s kind.Integer h i j [] refl refl refl (λ m f. bare_sound form.Literal refl refl i j _)

pub rune_sound : (s : Scope) (h : Hint) (i j : ℕ) → Sound (built_on s kind.Rune h i j [])
rune_sound s h i j = placed_sound s kind.Rune h i j [] refl refl refl (λ m f. bare_sound form.Literal refl refl i j _)

pub text_sound : (s : Scope) (h : Hint) (i j : ℕ) → Sound (built_on s kind.Text h i j [])
text_sound s h i j = placed_sound s kind.Text h i j [] refl refl refl (λ m f. bare_sound form.Literal refl refl i j _)

-- ---- a node that stands for what its only part does

same_slot : (x : Part) → Settles x → Slot (sort_of x) x
same_slot x h = record { now = h.closed; later = h.later }

parentheses : (i j : ℕ) (x : Part) → Sound x → Sound (typed form.Parenthesized i j (label form.Parenthesized (sort_of x) (Some x ∷ [])) (sort.more x sort.none))
parentheses i j x h =
    let l = label form.Parenthesized (sort_of x) (Some x ∷ []) in
    record {
      plain = refl;
      settles = node_settles form.Parenthesized i j (sort_of x) l.varies l.calls (Some x ∷ []) (same_slot x h.settles, tt);
      target = λ rights o e.
          let inner = h.target rights o e in
          let varies : l.varies ≡ true = ap (λ b. b || false) inner.0 in
          (varies, no_hole form.Parenthesized i j l (sort.more x sort.none) (varying form.Parenthesized l varies) (inner.1, tt), λ k. inner.2 k.3.0);
      called = λ m. h.called m;
      element = λ m u. absurd (true≢false (sym m));
    }

pub parenthesized_sound : (s : Scope) (h : Hint) (i j : ℕ) (x : Part) → Sound x → Sound (built_on s kind.Parenthesized h i j (Some x ∷ []))
parenthesized_sound s h i j x g = placed_sound s kind.Parenthesized h i j (Some x ∷ []) refl refl refl (λ m f. parentheses i j x g)

pub parenthesized_type_sound : (s : Scope) (h : Hint) (i j : ℕ) (x : Part) → Sound x → Sound (built_on s kind.ParenthesizedType h i j (Some x ∷ []))
parenthesized_type_sound s h i j x g =
    let l = label form.Type (sort_of x) (Some x ∷ []) in
    placed_sound s kind.ParenthesizedType h i j (Some x ∷ []) refl refl refl (λ m f. other_sound form.Type refl i j (sort_of x) l.varies l.calls (Some x ∷ []) (same_slot x g.settles, tt))

-- ---- types

pub not_closed : (n : Stands) → is_valued n ≡ false → is_closed n ≡ false
not_closed sort.Unknown e = refl
not_closed (sort.IsType t) e = refl
not_closed n e = cc

pub not_taking : (n : Stands) → is_valued n ≡ false → takes_type n ≡ false
not_taking sort.Unknown e = refl
not_taking (sort.IsType t) e = refl
not_taking n e = cc

-- a type or nothing that is known
pub type_node_sound : (i j : ℕ) (n : Stands) (v c : Bool) (zs : Parts) → is_valued n ≡ false → Sound (typed form.Type i j (labelled n v c) (row zs))
type_node_sound i j n v c zs e = other_sound form.Type refl i j n v c zs (no_slots n (not_closed n e) (not_taking n e) zs)

-- ---- selectors

pub open_or_unknown : (o : Option TypeTree) → is_open (value_or_unknown o) ≡ false
open_or_unknown None = refl
open_or_unknown (Some t) = refl

selector_open : (rights : Rights) (name : List ℕ) (x : Stands) → is_open (selector_sort rights name x) ≡ false
selector_open rights name sort.Package = refl
selector_open rights name x = open_or_unknown (named_field (form_of_value rights x) name)

selector_closed : (rights : Rights) (i j : ℕ) (name : List ℕ) (x : Stands) → is_package x ≡ false → selector_failing rights i j name x ≡ [] → is_closed x ≡ true
selector_closed rights i j name sort.Unknown p e = cc
selector_closed rights i j name (sort.IsType t) p e = cc
selector_closed rights i j name (sort.Open u) p e = cc
selector_closed rights i j name (sort.OpenConstant c) p e = cc
selector_closed rights i j name x p e = refl

pub selector_sound : (s : Scope) (h : Hint) (i j : ℕ) (x : Part) → Sound x → Sound (built_on s kind.Selector h i j (cond (is_package (sort_of x)) [] (Some x ∷ [])))
selector_sound s h i j x g = by (is_package (sort_of x)) refl
  where
    by : (b : Bool) → is_package (sort_of x) ≡ b → Sound (built_on s kind.Selector h i j (cond b [] (Some x ∷ [])))
    by true e = placed_sound s kind.Selector h i j [] refl refl refl (λ m f. closed_sound (form.Object referent.Println) refl refl i j sort.Println false false [] refl tt)
    by false e = placed_sound s kind.Selector h i j (Some x ∷ []) refl refl refl
        (λ m f.
        let n = selector_sort s.rights (s.texts (j - 1)) (sort_of x) in
        closed_sound _ refl refl i j n _ _ (Some x ∷ []) (selector_open s.rights (s.texts (j - 1)) (sort_of x))
        (done_slot n x (closed_done x g.settles (selector_closed s.rights i j (s.texts (j - 1)) (sort_of x) e f)), tt))

-- ---- indexes

index_open : (rights : Rights) (x : Stands) → is_open (index_sort rights x) ≡ false
index_open rights x = by (is_text rights x)
  where
    by : (b : Bool) → is_open (cond b (sort.Value byte) (value_or_unknown (element_of (form_of_value rights x)))) ≡ false
    by true = refl
    by false = open_or_unknown (element_of (form_of_value rights x))

index_valued : (rights : Rights) (i j : ℕ) (x : Stands) (n : Part) → index_failing rights i j x n ≡ [] → (is_valued x ≡ true) × (is_valued (sort_of n) ≡ true)
index_valued rights i j x n e =
    let w = holds (is_whole rights (sort_of n)) _ _ e in
    (by (is_text rights x) refl w.1, whole_valued rights (sort_of n) w.0)
  where
    by : (b : Bool) → is_text rights x ≡ b → cond b (bound_failing rights (text_length (constant_of x)) n) (index_failing_in rights i j (form_of_value rights x) n) ≡ [] → is_valued x ≡ true
    by true m e = text_valued rights x m
    by false m e = elements_valued rights x (holds (is_some (element_of (form_of_value rights x))) _ _ e).0

pub index_sound : (s : Scope) (h : Hint) (i j : ℕ) (x y : Part) → Sound x → Sound y → Sound (built_on s kind.Bracketed h i j (Some x ∷ Some y ∷ []))
index_sound s h i j x y g k = placed_sound s kind.Bracketed h i j (Some x ∷ Some y ∷ []) refl refl refl
    (λ m f.
    let n = index_sort s.rights (sort_of x) in
    let v = index_valued s.rights i j (sort_of x) y f in
    closed_sound form.Index refl refl i j n _ _ (Some (given default x) ∷ Some (settled int y) ∷ []) (index_open s.rights (sort_of x))
    (done_slot n (given default x) (default_done x g.settles v.0), (done_slot n (settled int y) (settled_done y k.settles int v.1), tt)))

-- ---- slice expressions

all_three : (a b c : Bool) → (a && b && c) ≡ true → (a ≡ true) × (b ≡ true) × (c ≡ true)
all_three true true true e = (refl, refl, refl)
all_three true true false e = cc
all_three true false c e = cc
all_three false b c e = cc

slice_parts : (rights : Rights) (i j : ℕ) (x : Stands) (low high : Option Part) → slice_failing rights i j x low high ≡ []
    → (is_valued x ≡ true) × (whole_or_absent rights low ≡ true) × (whole_or_absent rights high ≡ true)
slice_parts rights i j x low high e =
    let t = holds ((is_text rights x || is_some (slice_element (form_of_value rights x))) && whole_or_absent rights low && whole_or_absent rights high) _ _ e in
    let u = all_three (is_text rights x || is_some (slice_element (form_of_value rights x))) (whole_or_absent rights low) (whole_or_absent rights high) t.0 in
    (valued_by (λ y. is_text rights y || is_some (slice_element (form_of_value rights y))) refl (λ t. refl) x u.0, u.1, u.2)

bound_slots : (rights : Rights) (n : Stands) (o : Option Part) (zs : Parts) → SoundIf o → whole_or_absent rights o ≡ true → AllSlots n zs → AllSlots n (take_optional (as_type int) o ∷ zs)
bound_slots rights n None zs g w r = r
bound_slots rights n (Some y) zs g w r = (done_slot n (settled int y) (settled_done y g.settles int (whole_valued rights (sort_of y) w)), r)

pub slice_sound : (s : Scope) (h : Hint) (i j : ℕ) (x : Part) (low high : Option Part) → Sound x → SoundIf low → SoundIf high → Sound (built_on s kind.Bracketed h i j (Some x ∷ low ∷ high ∷ []))
slice_sound s h i j x low high g l k = placed_sound s kind.Bracketed h i j (Some x ∷ low ∷ high ∷ []) refl refl refl (λ m f. made low high l k (by low high f))
  where
    by : (low high : Option Part) → failing s kind.Bracketed h i j (Some x ∷ low ∷ high ∷ []) ≡ [] → slice_failing s.rights i j (sort_of x) low high ≡ []
    by (Some a) (Some b) f = f
    by (Some a) None f = f
    by None (Some b) f = f
    by None None f = f

    shown : (low high : Option Part) → AllSlots (slice_sort (sort_of x)) (Some (given default x) ∷ take_optional (as_type int) low ∷ take_optional (as_type int) high ∷ []) → Sound (built_by s kind.Bracketed h i j (Some x ∷ low ∷ high ∷ []) true)
    shown (Some a) (Some b) slots = closed_sound form.Slice refl refl i j (slice_sort (sort_of x)) _ _ (Some (given default x) ∷ Some (settled int a) ∷ Some (settled int b) ∷ []) (open_or_unknown (value_type (sort_of x))) slots
    shown (Some a) None slots = closed_sound form.Slice refl refl i j (slice_sort (sort_of x)) _ _ (Some (given default x) ∷ Some (settled int a) ∷ None ∷ []) (open_or_unknown (value_type (sort_of x))) slots
    shown None (Some b) slots = closed_sound form.Slice refl refl i j (slice_sort (sort_of x)) _ _ (Some (given default x) ∷ None ∷ Some (settled int b) ∷ []) (open_or_unknown (value_type (sort_of x))) slots
    shown None None slots = closed_sound form.Slice refl refl i j (slice_sort (sort_of x)) _ _ (Some (given default x) ∷ None ∷ None ∷ []) (open_or_unknown (value_type (sort_of x))) slots

    made : (low high : Option Part) → SoundIf low → SoundIf high → slice_failing s.rights i j (sort_of x) low high ≡ [] → Sound (built_by s kind.Bracketed h i j (Some x ∷ low ∷ high ∷ []) true)
    made low high l k f =
        let p = slice_parts s.rights i j (sort_of x) low high f in
        let n = slice_sort (sort_of x) in
        let slots : AllSlots (slice_sort (sort_of x)) (Some (given default x) ∷ take_optional (as_type int) low ∷ take_optional (as_type int) high ∷ []) =
        (done_slot n (given default x) (default_done x g.settles p.0), bound_slots s.rights n low (take_optional (as_type int) high ∷ []) l p.1 (bound_slots s.rights n high [] k p.2 tt)) in
        shown low high slots

-- what stands in brackets
pub lone : (y : Part) → is_held (form_of y) ≡ false → bounds_of (Some y) ≡ Some y ∷ []
lone (typed (form.Held k) i j l ps) e = cc
lone (typed f i j l ps) e = refl

pub bracketed_sound : (s : Scope) (h : Hint) (i j : ℕ) (x y : Part) → Sound x → IsBracket y → Sound (built_on s kind.Bracketed h i j (Some x ∷ bounds_of (Some y)))
bracketed_sound s h i j x y g (index k) = subst (λ ys. Sound (built_on s kind.Bracketed h i j (Some x ∷ ys))) (sym (lone y k.plain)) (index_sound s h i j x y g k)
bracketed_sound s h i j x y g (bounds low high e l k) = subst (λ ys. Sound (built_on s kind.Bracketed h i j (Some x ∷ ys))) (sym e) (slice_sound s h i j x low high g l k)
