-- What parts are told where variables stand in the parts in front of them.
use Rattle.std.proofs.Common.{◌≡◌, ◌∙◌, ℕ, Bool, true, false, [], ◌∷◌, Option, Some, None, refl, sym, ap, subst}
use Rattle.std.specs.Prelude.{◌||◌, if◌then◌else◌, is_some}
use Rattle.go_grammar.specs.declared.kind.Kind.{Kind}
use Rattle.go_grammar.specs.declared.kind.Kind.TheVariants as kind
use Rattle.go_grammar.specs.Trees.{Tree, Trees, kind_of}
use Rattle.go_types.specs.Trees.{TypeTree, boolean}
use Rattle.go_typed.specs.declared.form.Form.{Form}
use Rattle.go_typed.specs.declared.form.Form.TheVariants as form
use Rattle.go_typed.specs.Trees.{Sort, Label, Typed, typed, Typeds, sort_of, form_of}
use Rattle.go_typed.specs.Trees as sort
use Rattle.go_exprs_rules.specs.Scopes.{Scope, Hint, value, type_place}
use Rattle.go_exprs_rules.specs.Settling.{Part, settled}
use Rattle.go_exprs_rules.specs.Sorts.{Stands, is_open, own_type, named_type, retyped}
use Rattle.go_exprs_rules.specs.Tables.{Parts, hint, is_held, is_make, call_told, told_type, element_told, composite_told}
use Rattle.clone_window.specs.Masses.{is_hole, is_inside}
use Rattle.clone_window.specs.Masses as masses
use Rattle.go_exprs_variables.specs.Variables.{Standin, Standins, StandsIn, at_hole, put_over, put, all_put, wanted, all_wanted, first_wanted, put_with, begun, all_begun, all_with_variables, with_variables}
use Rattle.go_exprs_variables.specs.Over.{varies_over}
use Rattle.go_exprs_variables.proofs.Agreeing.{EachAgrees}
use Rattle.go_exprs_variables.proofs.Begun.{hole_constant, there}
use Rattle.go_exprs_variables.proofs.Expressing.{is_asking}
use Rattle.go_exprs_variables.proofs.Operands.{keys_kept, settled_sort}
use Rattle.go_exprs_variables.proofs.Trees.{Agrees, put_key}
use Rattle.go_exprs_variables.proofs.Induction.{walks, news, told}

module _ (w : Standins) where
  -- What a tree stands for with variables in it: the same, or it asked for a type or was constant, and has a type.
  pub data Turned (b c : Stands) : Type 0 where
    the_same : c ≡ b → Turned b c
    to_value : is_asking b ≡ true → is_some (own_type c) ≡ true → Turned b c

  by_hole : (a : Bool) (f : Form) (i j : ℕ) (l : Label TypeTree) (qs : Typeds TypeTree) (v : Option Standin) → at_hole w (is_hole a f l) i ≡ v → sort_of (put_over None f i j l qs) ≡ l.sort → Turned l.sort (sort_of (put_over v f i j l qs))
  by_hole a f i j l qs None e same = the_same same
  by_hole a f i j l qs (Some v) e same = to_value (constant_asks l.sort (hole_constant w a f l (there w (is_hole a f l) i v e).0)) refl
    where
      constant_asks : (z : Stands) → masses.is_constant z ≡ true → is_asking z ≡ true
      constant_asks (sort.Constant t c) e = refl
      constant_asks (sort.OpenConstant c) e = refl
      constant_asks z e = cc

  turned_put : (a : Bool) (x : Part) → Agrees x → Turned (sort_of x) (sort_of (put w a x))
  turned_put a (typed (form.Keyed n) i j l (sort.more p sort.none)) h =
      let inner = turned_put (is_inside a (form.Keyed n) l) p h.2.0 in
      subst (λ z. Turned z (sort_of (put w a (typed (form.Keyed n) i j l (sort.more p sort.none))))) (sym h.0)
      (subst (Turned (sort_of p)) (sym (ap sort_of (put_key w boolean a n i j l (sort.more p sort.none)))) inner)
  turned_put a (typed (form.Keyed n) i j l sort.none) h = absurd h.0
  turned_put a (typed (form.Keyed n) i j l (sort.skip ps)) h = absurd h.0
  turned_put a (typed (form.Keyed n) i j l (sort.more p (sort.more q ps))) h = absurd h.0
  turned_put a (typed (form.Keyed n) i j l (sort.more p (sort.skip ps))) h = absurd h.0
  turned_put a (typed f i j l ps) h = by_hole a f i j l (all_put w (is_inside a f l) ps) (at_hole w (is_hole a f l) i) refl refl

  turned_typed : (t : TypeTree) (b c : Stands) → is_open b ≡ true → Turned (retyped t b) c → Turned b c
  turned_typed t b c e (the_same f) = to_value (ap (λ z. z || masses.is_constant b) e) (ap (λ z. is_some (own_type z)) f ∙ retyped_typed t b e)
    where
      retyped_typed : (t : TypeTree) (b : Stands) → is_open b ≡ true → is_some (own_type (retyped t b)) ≡ true
      retyped_typed t (sort.Open u) e = refl
      retyped_typed t (sort.OpenConstant c) e = refl
      retyped_typed t b e = cc
  turned_typed t b c e (to_value m n) = to_value (ap (λ z. z || masses.is_constant b) e) n

  pub wants_open : (a : Bool) (x : Part) (t : TypeTree) → wanted w a x ≡ Some t → is_open (sort_of x) ≡ true
  wants_open a (typed f i j l ps) t e = by_test (is_open l.sort) (first_wanted (at_hole w (is_hole a f l) i) (all_wanted w (is_inside a f l) ps)) e
    where
      by_test : (b : Bool) (o : Option TypeTree) → (if b then o else None) ≡ Some t → b ≡ true
      by_test true o e = refl
      by_test false o e = cc

  pub turned : (a : Bool) (x : Part) → Agrees x → Turned (sort_of x) (sort_of (begun w a x))
  turned a (typed f i j l ps) h = by_held (is_held f) (wanted w a (typed f i j l ps)) refl
    where
      by_held : (b : Bool) (o : Option TypeTree) → wanted w a (typed f i j l ps) ≡ o
          → Turned l.sort (sort_of (if b then typed f i j (record l { varies = varies_over l.varies (all_begun w a ps) }) (all_begun w a ps) else put_with w a o (typed f i j l ps)))
      by_held true o e = the_same refl
      by_held false None e = turned_put a (typed f i j l ps) h
      by_held false (Some t) e =
          turned_typed t l.sort (sort_of (put w a (settled t (typed f i j l ps)))) (wants_open a (typed f i j l ps) t e)
          (subst (λ z. Turned z (sort_of (put w a (settled t (typed f i j l ps))))) (settled_sort t (typed f i j l ps)) (turned_put a (settled t (typed f i j l ps)) (keys_kept t (typed f i j l ps) h)))

  -- ---- what is asked of parts in front

  make_kept : (b c : Stands) → Turned b c → is_make c ≡ is_make b
  make_kept b c (the_same e) = ap is_make e
  make_kept b c (to_value e f) = typed_no c f ∙ sym (asking_no b e)
    where
      typed_no : (c : Stands) → is_some (own_type c) ≡ true → is_make c ≡ false
      typed_no (sort.Value t) f = refl
      typed_no (sort.Constant t v) f = refl
      typed_no c f = cc

      asking_no : (b : Stands) → is_asking b ≡ true → is_make b ≡ false
      asking_no (sort.Builtin p) e = cc
      asking_no b e = refl

  pub named_kept : (b c : Stands) → Turned b c → named_type c ≡ named_type b
  named_kept b c (the_same e) = ap named_type e
  named_kept b c (to_value e f) = typed_no c f ∙ sym (asking_no b e)
    where
      typed_no : (c : Stands) → is_some (own_type c) ≡ true → named_type c ≡ None
      typed_no (sort.Value t) f = refl
      typed_no (sort.Constant t v) f = refl
      typed_no c f = cc

      asking_no : (b : Stands) → is_asking b ≡ true → named_type b ≡ None
      asking_no (sort.IsType t) e = cc
      asking_no b e = refl

  call_same : (xs : Parts) → EachAgrees xs → call_told (news w xs) ≡ call_told xs
  call_same [] h = refl
  call_same (None ∷ []) h = refl
  call_same (Some f ∷ []) h = ap (λ b. if b then type_place else value) (make_kept (sort_of f) (sort_of (begun w false f)) (turned false f h.0))
  call_same (None ∷ y ∷ ys) h = refl
  call_same (Some f ∷ y ∷ ys) h = refl

  composite_same : (s t : Scope) (xs : Parts) → t.rights ≡ s.rights → EachAgrees xs → composite_told t.rights (news w xs) ≡ composite_told s.rights xs
  composite_same s t [] e h = refl
  composite_same s t (None ∷ xs) e h = ap (λ r. element_told r None) e
  composite_same s t (Some x ∷ xs) e h = ap (λ r. element_told r (named_type (sort_of (begun w false x)))) e ∙ ap (element_told s.rights) (named_kept (sort_of x) (sort_of (begun w false x)) (turned false x h.0))

  -- Parts are told what they were.
  pub same_told : (s t : Scope) (k : Kind) (h : Hint) (all : Trees) (xs : Parts) (p : Tree) → StandsIn w s t → walks k ≡ true → EachAgrees xs → hint t k h (all_with_variables w all) (news w xs) (kind_of (with_variables w p)) ≡ told w s k h all xs p
  same_told s t kind.Call h all xs p st e each = call_same xs each
  same_told s t kind.Composite h all xs p st e each = composite_same s t xs st.rights each
  same_told s t kind.LiteralValue h all xs p st e each = ap (λ r. element_told r (told_type h)) st.rights
  same_told s t kind.Keyed h all [] p st e each = refl
  same_told s t kind.Keyed h all (x ∷ xs) p st e each = refl
  same_told s t kind.Parenthesized h all xs p st e each = refl
  same_told s t kind.Name h all xs p st e each = refl
  same_told s t kind.Integer h all xs p st e each = refl
  same_told s t kind.Rune h all xs p st e each = refl
  same_told s t kind.Text h all xs p st e each = refl
  same_told s t (kind.Unary o) h all xs p st e each = refl
  same_told s t (kind.Binary o) h all xs p st e each = refl
  same_told s t kind.Selector h all xs p st e each = refl
  same_told s t kind.Bracketed h all xs p st e each = refl
  same_told s t kind.Bounds h all xs p st e each = refl
  same_told s t kind.BoundsFrom h all xs p st e each = refl
  same_told s t k h all xs p st e each = cc
