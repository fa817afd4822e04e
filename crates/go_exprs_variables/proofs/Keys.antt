-- Elements of literals with keys: what is typed over their values with variables in them.
use Rattle.std.proofs.Common.{◌≡◌, ◌∙◌, ◌⊎◌, inl, inr, ℕ, Bool, true, false, List, [], ◌∷◌, Option, Some, None, refl, sym, ap, subst, IsTrue}
use Rattle.std.specs.Prelude.{◌||◌, if◌then◌else◌}
use Rattle.go_grammar.specs.declared.kind.Category.{Category}
use Rattle.go_grammar.specs.declared.kind.Category.TheVariants as category
use Rattle.go_grammar.specs.declared.kind.Kind.{Kind}
use Rattle.go_grammar.specs.declared.kind.Kind.TheVariants as kind
use Rattle.go_grammar.specs.Categories.{within}
use Rattle.go_grammar.specs.Categories as categories
use Rattle.go_grammar.specs.Trees.{Tree, node, kind_of}
use Rattle.go_types.specs.Trees.{TypeTree, boolean}
use Rattle.go_types.specs.Relations.{Rights}
use Rattle.go_typed.specs.declared.form.Form.{Form}
use Rattle.go_typed.specs.declared.form.Form.TheVariants as form
use Rattle.go_typed.specs.Trees.{Sort, Label, typed, Typeds, sort_of, form_of, label_of, row}
use Rattle.go_typed.specs.Trees as sort
use Rattle.go_exprs_rules.specs.declared.fault.TypeFault.{TypeFault}
use Rattle.go_exprs_rules.specs.Scopes.{Scope, Hint, member}
use Rattle.go_exprs_rules.specs.Settling.{Part, settled, all_settled}
use Rattle.go_exprs_rules.specs.Sorts.{is_open, takes_type}
use Rattle.go_exprs_rules.specs.Tables.{Parts, layout, found, built, built_by, made, label, is_judged, is_held, is_sound, own_faults, key_form}
use Rattle.go_exprs_rules.specs.Tables as tables
use Rattle.go_exprs_rules.specs.Typing.{typing, typings}
use Rattle.go_exprs_variables.specs.Over.{any_varies}
use Rattle.go_exprs_variables.specs.Shapes.{IsShaped}
use Rattle.go_exprs_variables.specs.Variables as variables
use Rattle.go_exprs_variables.specs.Variables.{Standins, expresses, wanted, or_wanted, put, begun}
use Rattle.go_exprs_variables.proofs.Begun.{begun_by, settled_is, open_takes}
use Rattle.go_exprs_variables.proofs.Expressing.{unheld}
use Rattle.go_exprs_variables.proofs.Named.{is_operand, operand_kind}
use Rattle.go_exprs_variables.proofs.Ready.{split_operand}
use Rattle.go_exprs_variables.proofs.Told.{wants_open}
use Rattle.go_exprs_variables.proofs.Trees.{put_key, retyped_label}

-- ---- operands hold no parts of another node

pub operand_unheld : (w : Standins) (s : Scope) (h : Hint) (c : Category) (x : Tree) → IsShaped c x → is_operand (kind_of x) ≡ true → is_held (form_of (typing s h x)) ≡ false
operand_unheld w s h c (node k i j ps) e o = by_kind (split_operand w k o)
  where
    ys : Parts
    ys = layout k (typings s k h ps [] ps)

    by_sound : (k : Kind) (zs : Parts) (b : Bool) → categories.is_type_literal k ≡ true → is_held (form_of (built_by s k h i j zs b)) ≡ false
    by_sound kind.SequenceType zs true e = refl
    by_sound kind.SequenceType zs false e = refl
    by_sound kind.FunctionType zs true e = refl
    by_sound kind.FunctionType zs false e = refl
    by_sound kind.StructType zs true e = refl
    by_sound kind.StructType zs false e = refl
    by_sound k zs b e = cc

    by_kind : (expresses k ≡ true) ⊎ (categories.is_type_literal k ≡ true) → is_held (form_of (typing s h (node k i j ps))) ≡ false
    by_kind (inl x) = unheld s k h i j ys (is_sound k ys (own_faults s k h i j ys)) x
    by_kind (inr l) = by_sound k ys (is_sound k ys (own_faults s k h i j ys)) l

-- the value of an element with a key
value_kind : (k : Kind) → IsTrue (within category.Value k) → is_operand k ≡ true
value_kind kind.LiteralValue e = refl
value_kind (kind.Binary o) e = operand_kind (kind.Binary o) e
value_kind kind.Name e = refl
value_kind kind.Integer e = refl
value_kind kind.Rune e = refl
value_kind kind.Text e = refl
value_kind kind.Parenthesized e = refl
value_kind (kind.Unary o) e = refl
value_kind kind.Selector e = refl
value_kind kind.Bracketed e = refl
value_kind kind.Call e = refl
value_kind kind.Composite e = refl
value_kind kind.SequenceType e = refl
value_kind kind.FunctionType e = refl
value_kind kind.StructType e = refl
value_kind k e = cc

pub value_operand : (x : Tree) → IsShaped category.Value x → is_operand (kind_of x) ≡ true
value_operand (node k i j ps) e = value_kind k e.0

-- ---- the element

pub key_is : (rights : Rights) (h : Hint) (name : List ℕ) → (m : ℕ) × (key_form rights h name ≡ form.Keyed m)
key_is rights (member t) name = (_, refl)
key_is rights h name = (0, refl)

module _ (rights : Rights) (w : Standins) (m i j : ℕ) (l : Label TypeTree) where
  abbrev over : Part → Part
  over y = typed (form.Keyed m) i j (record { sort = sort_of y; varies = any_varies (sort.more y sort.none); calls = l.calls }) (sort.more y sort.none)

  -- it has calls as it had
  pub key_calls : (ps : Typeds TypeTree) → (label_of (begun w false (typed (form.Keyed m) i j l ps))).calls ≡ l.calls
  key_calls ps = ap (λ y. (label_of y).calls) (begun_by rights w false (form.Keyed m) i j l ps (wanted w false (typed (form.Keyed m) i j l ps)) refl refl) ∙ by_wanted (wanted w false (typed (form.Keyed m) i j l ps))
    where
      by_taking : (t : TypeTree) (b : Bool) → (label_of (put w false (if b then typed (form.Keyed m) i j (retyped_label t l) (all_settled t ps) else typed (form.Keyed m) i j l ps))).calls ≡ l.calls
      by_taking t true = ap (λ y. (label_of y).calls) (put_key w t false m i j (retyped_label t l) (all_settled t ps))
      by_taking t false = ap (λ y. (label_of y).calls) (put_key w t false m i j l ps)

      by_wanted : (o : Option TypeTree) → (label_of (variables.put_with w false o (typed (form.Keyed m) i j l ps))).calls ≡ l.calls
      by_wanted None = ap (λ y. (label_of y).calls) (put_key w boolean false m i j l ps)
      by_wanted (Some t) = by_taking t (takes_type l.sort)

  none_either : (b : Bool) → (if b then or_wanted None None else None) ≡ None
  none_either true = refl
  none_either false = refl

  begun_value : (f : Form) (a b : ℕ) (r : Label TypeTree) (qs : Typeds TypeTree) (o : Option TypeTree) → is_held f ≡ false → l.sort ≡ r.sort → wanted w false (typed f a b r qs) ≡ o
      → begun w false (typed (form.Keyed m) i j l (sort.more (typed f a b r qs) sort.none)) ≡ over (begun w false (typed f a b r qs))
  begun_value f a b r qs None held same e =
      let v = typed f a b r qs in
      let nothing : wanted w false (typed (form.Keyed m) i j l (sort.more v sort.none)) ≡ None = ap (λ z. if is_open l.sort then or_wanted z None else None) e ∙ none_either (is_open l.sort) in
      begun_by rights w false (form.Keyed m) i j l (sort.more v sort.none) None refl nothing ∙ put_key w boolean false m i j l (sort.more v sort.none) ∙ ap over (sym (begun_by rights w false f a b r qs None held e))
  begun_value f a b r qs (Some t) held same e =
      let v = typed f a b r qs in
      let opened : is_open l.sort ≡ true = ap is_open same ∙ wants_open w false v t e in
      let wants : wanted w false (typed (form.Keyed m) i j l (sort.more v sort.none)) ≡ Some t = ap (λ z. if z then or_wanted (wanted w false v) None else None) opened ∙ ap (λ z. or_wanted z None) e in
      begun_by rights w false (form.Keyed m) i j l (sort.more v sort.none) (Some t) refl wants ∙ ap (put w false) (settled_is w t (form.Keyed m) i j l (sort.more v sort.none) (open_takes w l.sort opened))
      ∙ put_key w t false m i j (retyped_label t l) (sort.more (settled t v) sort.none) ∙ ap over (sym (begun_by rights w false f a b r qs (Some t) held e))

  -- The element over its value with variables in it.
  pub begun_key : (v : Part) → is_held (form_of v) ≡ false → l.sort ≡ sort_of v → begun w false (typed (form.Keyed m) i j l (sort.more v sort.none)) ≡ over (begun w false v)
  begun_key (typed f a b r qs) held same = begun_value f a b r qs (wanted w false (typed f a b r qs)) held same refl

module _ (rights : Rights) (w : Standins) where
  varies_one : (x : Part) → any_varies (sort.more x sort.none) ≡ ((label_of x).varies || false)
  varies_one (typed f i j l ps) = refl

  key_made : (m i j : ℕ) (v : Part) → is_held (form_of v) ≡ false → (label_of (begun w false v)).calls ≡ (label_of v).calls
      → made (form.Keyed m) i j (sort_of (begun w false v)) (Some (begun w false v) ∷ []) (Some (begun w false v) ∷ []) ≡ begun w false (made (form.Keyed m) i j (sort_of v) (Some v ∷ []) (Some v ∷ []))
  key_made m i j v held calls =
      let y = begun w false v in
      ap (λ b. typed (form.Keyed m) i j (record { sort = sort_of y; varies = b; calls = (label_of y).calls || false }) (sort.more y sort.none)) (sym (varies_one y))
      ∙ ap (λ b. typed (form.Keyed m) i j (record { sort = sort_of y; varies = any_varies (sort.more y sort.none); calls = b || false }) (sort.more y sort.none)) calls
      ∙ sym (begun_key rights w m i j (label (form.Keyed m) (sort_of v) (Some v ∷ [])) v held refl)

  no_rule : (b : Bool) → (if◌then◌else◌ {A = List TypeFault} b [] []) ≡ []
  no_rule true = refl
  no_rule false = refl

  -- The step at an element with a key, over its name and its value.
  pub key_step : (s : Scope) (h : Hint) (i j : ℕ) (n v z : Part) → is_held (form_of v) ≡ false → (label_of (begun w false v)).calls ≡ (label_of v).calls
      → (found s kind.Keyed h i j (Some z ∷ Some (begun w false v) ∷ []) ≡ []) × (built s kind.Keyed h i j (Some z ∷ Some (begun w false v) ∷ []) ≡ begun w false (built s kind.Keyed h i j (Some n ∷ Some v ∷ [])))
  key_step s h i j n v z held calls =
      let k = key_is s.rights h (s.texts i) in
      let y = begun w false v in (
        no_rule (is_judged (Some y ∷ [])),
        ap (λ f. made f i j (sort_of y) (Some y ∷ []) (Some y ∷ [])) k.1 ∙ key_made k.0 i j v held calls ∙ ap (λ f. begun w false (made f i j (sort_of v) (Some v ∷ []) (Some v ∷ []))) (sym k.1),
      )

  -- with variables in it an element has a call where it had one
  pub key_quiet : (s : Scope) (h : Hint) (i j : ℕ) (xs : Parts) → (label_of (begun w false (built s kind.Keyed h i j xs))).calls ≡ (label_of (built s kind.Keyed h i j xs)).calls
  key_quiet s h i j xs =
      let k = key_is s.rights h (s.texts i) in
      let ys = layout kind.Keyed xs in
      let x = tables.sort_by s kind.Keyed h i j ys in
      subst (λ f. (label_of (begun w false (made f i j x ys ys))).calls ≡ (label_of (made f i j x ys ys)).calls) (sym k.1) (key_calls rights w k.0 i j (label (form.Keyed k.0) x ys) (row ys))
