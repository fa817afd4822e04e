-- Parts of nodes that are expressions: what is known of them as operands, and why they follow.
use Rattle.std.proofs.Common.{◌≡◌, ◌∙◌, ◌⊎◌, inl, inr, ℕ, ◌-◌, Bool, true, false, [], ◌∷◌, Option, Some, None, refl, sym, ap, subst, IsTrue}
use Rattle.std.specs.Prelude.{◌&&◌, ◌||◌, not, if◌then◌else◌, is_some}
use Rattle.go_grammar.specs.declared.kind.Category.{Category}
use Rattle.go_grammar.specs.declared.kind.Category.TheVariants as category
use Rattle.go_grammar.specs.declared.kind.Kind.{Kind}
use Rattle.go_grammar.specs.declared.kind.Kind.TheVariants as kind
use Rattle.go_grammar.specs.declared.kind.Level.TheVariants as level
use Rattle.go_grammar.specs.declared.kind.Place.{Place}
use Rattle.go_grammar.specs.declared.kind.Place.TheVariants as place
use Rattle.go_grammar.specs.Categories.{place_of}
use Rattle.go_grammar.specs.Categories as categories
use Rattle.go_grammar.specs.Grammar.{rule}
use Rattle.go_grammar.specs.Trees.{Tree, node, Trees, none, more, skip, kind_of}
use Rattle.go_types.specs.Trees.{TypeTree}
use Rattle.go_types.specs.Relations.{Rights}
use Rattle.go_typed.specs.declared.form.Form.{Form}
use Rattle.go_typed.specs.declared.form.Form.TheVariants as form
use Rattle.go_typed.specs.Trees.{Sort, Label, Typed, typed, Typeds, sort_of, form_of, label_of, parts_of, first_of, last_of}
use Rattle.go_typed.specs.Trees as sort
use Rattle.go_exprs_rules.specs.Indexes.{value_or_unknown, selector_sort, named_field}
use Rattle.go_exprs_rules.specs.Names.{name_form, name_sort}
use Rattle.go_exprs_rules.specs.Scopes.{Scope, Hint}
use Rattle.go_exprs_rules.specs.Settling.{Part, settled, all_settled}
use Rattle.go_exprs_rules.specs.Sorts.{Stands, is_open, is_unknown, is_nil, takes_type, form_of_value}
use Rattle.go_exprs_rules.specs.Tables.{Parts, hint, in_parentheses, layout, is_type, label, form_by, sort_by, built_by, is_sound, own_faults}
use Rattle.go_exprs_rules.specs.Typing.{typing, typings}
use Rattle.go_exprs_rules.specs.TypeNodes.{type_sort, sequence_type, part_type, signature_type}
use Rattle.clone_window.specs.Masses.{is_hole, is_inside, is_expression}
use Rattle.clone_window.specs.Masses as masses
use Rattle.go_exprs_variables.specs.Shapes.{IsShaped, AreShaped}
use Rattle.go_exprs_variables.specs.Variables as variables
use Rattle.go_exprs_variables.specs.Variables.{Standin, Standins, ends_at, may_be_constant, expresses, is_naming, NameFree, PartsFree, Stays, ProperNode, Proper, AllProper, FitsAt, is_unfolded, Fits, WillFit}
use Rattle.go_exprs_variables.proofs.Agreeing.{is_keyed_kind, form_unkeyed, typing_agrees}
use Rattle.go_exprs_variables.proofs.Away.{Away, clear_away}
use Rattle.go_exprs_variables.proofs.Expressing.{is_asking, expressed, unheld}
use Rattle.go_exprs_variables.proofs.Induction.{Follows}
use Rattle.go_exprs_variables.proofs.Named.{is_operand, is_named, value_unnamed, expression_operand, named_rest, unary_kind, binary_kind, bracketed_kind, call_kind, composite_kind, literal_kind}
use Rattle.go_exprs_variables.proofs.Operands.{Ready}
use Rattle.go_exprs_variables.proofs.Quiet.{is_silent, typing_silent}
use Rattle.go_exprs_variables.proofs.Standing.{Still}
use Rattle.go_exprs_variables.proofs.Trees.{is_key, Agrees, retyped_label, hole_kept}

differ : {X : Type 0} (b : Bool) → b ≡ false → b ≡ true → X
differ true e f = cc
differ false e f = cc

keyless_kind : (k : Kind) → expresses k ≡ true → is_keyed_kind k ≡ false
keyless_kind kind.Keyed e = cc
keyless_kind k e = refl

open_asks : (z : Stands) → is_open z ≡ true → is_asking z ≡ true
open_asks z e = ap (λ b. b || masses.is_constant z) e

constant_silent : (rights : Rights) (z : Stands) → masses.is_constant z ≡ true → is_silent rights z ≡ true
constant_silent rights (sort.Constant t c) e = refl
constant_silent rights (sort.OpenConstant c) e = refl
constant_silent rights z e = cc

never_true : IsTrue false → ⊥
never_true e = cc

module _ (w : Standins) where
  unkeyed_form : (s : Scope) (k : Kind) (h : Hint) (i j : ℕ) (ys : Parts) (b : Bool) → expresses k ≡ true → is_key (form_of (built_by s k h i j ys b)) ≡ false
  unkeyed_form s k h i j ys true e = form_unkeyed s k h i j ys (keyless_kind k e)
  unkeyed_form s k h i j ys false e = form_unkeyed s k h i j ys (keyless_kind k e)

  -- What is known of an expression that is known.
  pub ready_part : (s : Scope) (h : Hint) (c : Category) (x : Tree) → IsShaped c x → expresses (kind_of x) ≡ true → is_unknown (sort_of (typing s h x)) ≡ false → Ready s.rights w false (typing s h x)
  ready_part s h c (node k i j ps) e x known =
      let ys = layout k (typings s k h ps [] ps) in
      let b = is_sound k ys (own_faults s k h i j ys) in
      record {
        keys = (unkeyed_form s k h i j ys b x, typing_agrees s h c (node k i j ps) e);
        held = unheld s k h i j ys b x;
        expression = λ o. expressed s k h i j ys b x (open_asks (sort_of (typing s h (node k i j ps))) o);
        known = known;
        quiet = λ m. typing_silent s h c (node k i j ps) e (constant_silent s.rights (sort_of (typing s h (node k i j ps))) m);
      }

  -- ---- operands that stand for no value

  named_plain : (z : Stands) → is_named z ≡ true → (is_open z ≡ false) × (masses.is_constant z ≡ false)
  named_plain (sort.IsType t) e = (refl, refl)
  named_plain sort.Nil e = (refl, refl)
  named_plain (sort.Builtin p) e = (refl, refl)
  named_plain sort.Println e = (refl, refl)
  named_plain sort.Package e = (refl, refl)
  named_plain z e = cc

  -- where the top of a tree fits that is no hole, no variable takes its place
  stands_by : (f : Form) (i j : ℕ) (l : Label TypeTree) (o : Option Standin) → w i ≡ o → is_hole false f l ≡ false → FitsAt w false f i j l → ends_at o j ≡ false
  stands_by f i j l None e hole fit = refl
  stands_by f i j l (Some v) e hole fit = by_test (ends_at (Some v) j) refl
    where
      by_test : (b : Bool) → ends_at (Some v) j ≡ b → b ≡ false
      by_test false g = refl
      by_test true g = differ (is_hole false f l) hole (fit v e (ap (λ c. c || is_hole false f l) g)).hole

  no_hole : (f : Form) (l : Label TypeTree) → masses.is_constant l.sort ≡ false → is_hole false f l ≡ false
  no_hole f l e = ap (λ b. (is_expression f && b) && not l.varies) e ∙ nothing (is_expression f) (not l.varies)
    where
      nothing : (b c : Bool) → ((b && false) && c) ≡ false
      nothing true c = refl
      nothing false c = refl

  pub top_ends : (f : Form) (i j : ℕ) (l : Label TypeTree) (qs : Typeds TypeTree) → masses.is_constant l.sort ≡ false → Fits w false (typed f i j l qs) → ends_at (w i) j ≡ false
  top_ends f i j l qs plain fits = stands_by f i j l (w i) refl (no_hole f l plain) fits.0

  ends_stays : (k : Kind) (i j : ℕ) → ends_at (w i) j ≡ false → (may_be_constant k && ends_at (w i) j) ≡ false
  ends_stays k i j e = ap (λ b. may_be_constant k && b) e ∙ nothing (may_be_constant k)
    where
      nothing : (b : Bool) → (b && false) ≡ false
      nothing true = refl
      nothing false = refl

  pub named_follows : (s : Scope) (h : Hint) (c : Category) (x : Tree) → IsShaped c x → is_operand (kind_of x) ≡ true → Proper w x → Stays w x → is_named (sort_of (typing s h x)) ≡ true → Still w s h x
  named_follows s h c x e o p st m = let r = named_rest w s h c x e o st p m in (r.0, clear_away w false (typing s h x) r.1)

  built_ends : (s : Scope) (k : Kind) (h : Hint) (i j : ℕ) (ys : Parts) (b : Bool) → masses.is_constant (sort_of (built_by s k h i j ys b)) ≡ false → Fits w false (built_by s k h i j ys b) → ends_at (w i) j ≡ false
  built_ends s k h i j ys true plain fits = stands_by (form_by s k h i j ys) i j (label_of (built_by s k h i j ys true)) (w i) refl (no_hole (form_by s k h i j ys) (label_of (built_by s k h i j ys true)) plain) fits.0
  built_ends s k h i j ys false plain fits = stands_by (form_by s k h i j ys) i j (label_of (built_by s k h i j ys false)) (w i) refl (no_hole (form_by s k h i j ys) (label_of (built_by s k h i j ys false)) plain) fits.0

  -- what isn't constant and fits is none in place of which a variable stands
  pub fits_stays : (s : Scope) (h : Hint) (x : Tree) → masses.is_constant (sort_of (typing s h x)) ≡ false → Fits w false (typing s h x) → Stays w x
  fits_stays s h (node k i j ps) plain fits =
      let ys = layout k (typings s k h ps [] ps) in
      ends_stays k i j (built_ends s k h i j ys (is_sound k ys (own_faults s k h i j ys)) plain fits)

  will_plain : (rights : Rights) (x : Part) → is_open (sort_of x) ≡ false → WillFit rights w false x → Fits w false x
  will_plain rights x e (variables.has o fits) = fits
  will_plain rights x e (variables.takes t k o m r fits) = differ (is_open (sort_of x)) e (ap is_some o)

  pub split_operand : (k : Kind) → is_operand k ≡ true → (expresses k ≡ true) ⊎ (categories.is_type_literal k ≡ true)
  split_operand k e = by_test (expresses k) refl e
    where
      by_test : (b : Bool) → expresses k ≡ b → (b || categories.is_type_literal k) ≡ true → (expresses k ≡ true) ⊎ (categories.is_type_literal k ≡ true)
      by_test true f g = inl f
      by_test false f g = inr g

  -- ---- type literals stand for types

  type_sort_typed : (o : Option TypeTree) → is_unknown (type_sort o) ≡ false → is_type (type_sort o) ≡ true
  type_sort_typed None e = cc
  type_sort_typed (Some t) e = refl

  sequence_typed : (s : Scope) (h : Hint) (i j : ℕ) (ys : Parts) (b : Bool) → is_unknown (sort_of (built_by s kind.SequenceType h i j ys b)) ≡ false → is_type (sort_of (built_by s kind.SequenceType h i j ys b)) ≡ true
  sequence_typed s h i j ys false e = cc
  sequence_typed s h i j [] true e = cc
  sequence_typed s h i j (x ∷ []) true e = cc
  sequence_typed s h i j (x ∷ y ∷ []) true e = type_sort_typed (sequence_type x (part_type y)) e
  sequence_typed s h i j (x ∷ y ∷ z ∷ ys) true e = cc

  struct_typed : (s : Scope) (h : Hint) (i j : ℕ) (ys : Parts) (b : Bool) → is_unknown (sort_of (built_by s kind.StructType h i j ys b)) ≡ false → is_type (sort_of (built_by s kind.StructType h i j ys b)) ≡ true
  struct_typed s h i j ys false e = cc
  struct_typed s h i j ys true e = refl

  signature_typed : (s : Scope) (h : Hint) (i j : ℕ) (xs : Parts) → is_unknown (sort_of (built_by s kind.Signature h i j xs true)) ≡ false → is_type (sort_of (built_by s kind.Signature h i j xs true)) ≡ true
  signature_typed s h i j [] e = cc
  signature_typed s h i j (x ∷ []) e = cc
  signature_typed s h i j (x ∷ y ∷ []) e = type_sort_typed (signature_type x y) e
  signature_typed s h i j (x ∷ y ∷ z ∷ ys) e = cc

  function_typed : (s : Scope) (h : Hint) (i j : ℕ) (x : Part) (b : Bool) → (is_unknown (sort_of x) ≡ false → is_type (sort_of x) ≡ true) → is_unknown (sort_of (built_by s kind.FunctionType h i j (Some x ∷ []) b)) ≡ false → is_type (sort_of (built_by s kind.FunctionType h i j (Some x ∷ []) b)) ≡ true
  function_typed s h i j x false n e = cc
  function_typed s h i j x true n e = n e

  function_shaped : (s : Scope) (h : Hint) (p : Place) (i j : ℕ) (ps : Trees) → AreShaped (rule p kind.FunctionType) ps → is_unknown (sort_of (typing s h (node kind.FunctionType i j ps))) ≡ false → is_type (sort_of (typing s h (node kind.FunctionType i j ps))) ≡ true
  function_shaped s h p i j none e k = elim e [ ]
  function_shaped s h p i j (skip qs) e k = elim e [ ]
  function_shaped s h p i j (more q (more r qs)) e k = elim e.1 [ ]
  function_shaped s h p i j (more q (skip qs)) e k = elim e.1 [ ]
  function_shaped s h p i j (more (node kind.Signature m n qs) none) e k =
      let g = hint s kind.FunctionType h (more (node kind.Signature m n qs) none) [] kind.Signature in
      let x = typing s g (node kind.Signature m n qs) in
      function_typed s h i j x (is_sound kind.FunctionType (Some x ∷ []) (own_faults s kind.FunctionType h i j (Some x ∷ []))) (λ f. signature_typed s g m n (typings s kind.Signature g qs [] qs) f) k
  function_shaped s h p i j (more (node q m n qs) none) e k = absurd (never_true e.0.0)

  literal_typed : (s : Scope) (h : Hint) (c : Category) (k : Kind) (i j : ℕ) (ps : Trees) → IsShaped c (node k i j ps) → categories.is_type_literal k ≡ true → is_unknown (sort_of (typing s h (node k i j ps))) ≡ false → is_type (sort_of (typing s h (node k i j ps))) ≡ true
  literal_typed s h c kind.SequenceType i j ps e l k = let ys = typings s kind.SequenceType h ps [] ps in sequence_typed s h i j ys (is_sound kind.SequenceType ys (own_faults s kind.SequenceType h i j ys)) k
  literal_typed s h c kind.StructType i j ps e l k = let ys = layout kind.StructType (typings s kind.StructType h ps [] ps) in struct_typed s h i j ys (is_sound kind.StructType ys (own_faults s kind.StructType h i j ys)) k
  literal_typed s h c kind.FunctionType i j ps e l k = function_shaped s h (place_of c) i j ps e.1 k
  literal_typed s h c k i j ps e l m = cc

  -- an operand that is known and stands for no type is an expression
  pub valued_expresses : (s : Scope) (h : Hint) (c : Category) (x : Tree) → IsShaped c x → is_operand (kind_of x) ≡ true → is_unknown (sort_of (typing s h x)) ≡ false → is_type (sort_of (typing s h x)) ≡ false → expresses (kind_of x) ≡ true
  valued_expresses s h c (node k i j ps) e o known value = by_split (split_operand k o)
    where
      by_split : (expresses k ≡ true) ⊎ (categories.is_type_literal k ≡ true) → expresses k ≡ true
      by_split (inl x) = x
      by_split (inr l) = differ (is_type (sort_of (typing s h (node k i j ps)))) value (literal_typed s h c k i j ps e l known)

  unnamed_no_type : (z : Stands) → is_named z ≡ false → is_type z ≡ false
  unnamed_no_type (sort.IsType t) e = cc
  unnamed_no_type z e = refl

  -- ---- `nil`

  nil_named : (z : Stands) → is_nil z ≡ true → is_named z ≡ true
  nil_named sort.Nil e = refl
  nil_named z e = cc

  nil_no_type : (z : Stands) → is_nil z ≡ true → is_type z ≡ false
  nil_no_type sort.Nil e = refl
  nil_no_type z e = cc

  nil_known : (z : Stands) → is_nil z ≡ true → is_unknown z ≡ false
  nil_known sort.Nil e = refl
  nil_known z e = cc

  settled_ends : (t : TypeTree) (f : Form) (i j : ℕ) (l : Label TypeTree) (qs : Typeds TypeTree) → masses.is_constant l.sort ≡ false → Fits w false (settled t (typed f i j l qs)) → ends_at (w i) j ≡ false
  settled_ends t f i j l qs plain fits = by_test (takes_type l.sort) fits
    where
      by_test : (b : Bool) → Fits w false (if b then typed f i j (retyped_label t l) (all_settled t qs) else typed f i j l qs) → ends_at (w i) j ≡ false
      by_test true g = stands_by f i j (retyped_label t l) (w i) refl (hole_kept t false f l ∙ no_hole f l plain) g.0
      by_test false g = stands_by f i j l (w i) refl (no_hole f l plain) g.0

  settled_built : (t : TypeTree) (s : Scope) (k : Kind) (h : Hint) (i j : ℕ) (ys : Parts) (b : Bool) → masses.is_constant (sort_of (built_by s k h i j ys b)) ≡ false → Fits w false (settled t (built_by s k h i j ys b)) → ends_at (w i) j ≡ false
  settled_built t s k h i j ys true plain fits = settled_ends t (form_by s k h i j ys) i j (label_of (built_by s k h i j ys true)) (parts_of (built_by s k h i j ys true)) plain fits
  settled_built t s k h i j ys false plain fits = settled_ends t (form_by s k h i j ys) i j (label_of (built_by s k h i j ys false)) (parts_of (built_by s k h i j ys false)) plain fits

  settled_stays : (t : TypeTree) (s : Scope) (h : Hint) (x : Tree) → masses.is_constant (sort_of (typing s h x)) ≡ false → Fits w false (settled t (typing s h x)) → Stays w x
  settled_stays t s h (node k i j ps) plain fits =
      let ys = layout k (typings s k h ps [] ps) in
      ends_stays k i j (settled_built t s k h i j ys (is_sound k ys (own_faults s k h i j ys)) plain fits)

  bare_fits : (f : Form) (i j : ℕ) (l : Label TypeTree) → masses.is_constant l.sort ≡ false → ends_at (w i) j ≡ false → FitsAt w false f i j l
  bare_fits f i j l plain ends v e m =
      let none : false ≡ true = sym (ap (λ b. b || is_hole false f l) (sym (ap (λ o. ends_at o j) e) ∙ ends) ∙ no_hole f l plain) ∙ m in cc

  nil_plain : (z : Stands) → is_nil z ≡ true → masses.is_constant z ≡ false
  nil_plain sort.Nil e = refl
  nil_plain z e = cc

  neither : (b c : Bool) → b ≡ false → c ≡ false → (b || c) ≡ false
  neither b c e f = ap (λ z. z || c) e ∙ f

  no_parts : (f : Form) (z : Stands) → is_unfolded f z sort.none ≡ false
  no_parts form.Call z = refl
  no_parts f z = refl

  nil_sort : (s : Scope) (k : Kind) (h : Hint) (i j : ℕ) (ys : Parts) (b : Bool) → is_nil (sort_of (built_by s k h i j ys b)) ≡ true → b ≡ true
  nil_sort s k h i j ys true e = refl
  nil_sort s k h i j ys false e = cc

  name_fits : (s : Scope) (h : Hint) (i j : ℕ) (b : Bool) → is_nil (sort_of (built_by s kind.Name h i j [] b)) ≡ true → ends_at (w i) j ≡ false → Fits w false (built_by s kind.Name h i j [] b)
  name_fits s h i j true m ends = (bare_fits (name_form s h i) i j (label (name_form s h i) (name_sort s h i) []) (nil_plain (name_sort s h i) m) ends, neither (is_unknown (name_sort s h i)) (is_unfolded (name_form s h i) (name_sort s h i) sort.none && false) (nil_known (name_sort s h i) m) (ap (λ b. b && false) (no_parts (name_form s h i) (name_sort s h i))), tt)
  name_fits s h i j false m ends = cc

  inside_fits : (s : Scope) (h : Hint) (i j : ℕ) (x : Part) (b : Bool) → is_nil (sort_of (built_by s kind.Parenthesized h i j (Some x ∷ []) b)) ≡ true → ends_at (w i) j ≡ false → Fits w false x → Fits w false (built_by s kind.Parenthesized h i j (Some x ∷ []) b)
  inside_fits s h i j x true m ends fits =
      let l = label form.Parenthesized (sort_of x) (Some x ∷ []) in
      (bare_fits form.Parenthesized i j l (nil_plain (sort_of x) m) ends, neither (is_unknown (sort_of x)) false (nil_known (sort_of x) m) refl, (subst (λ c. Fits w c x) (sym (ap (λ b. true && b) (nil_plain (sort_of x) m))) fits, tt))
  inside_fits s h i j x false m ends fits = cc

  name_ends : (k : Kind) (i j : ℕ) → may_be_constant k ≡ true → (may_be_constant k && ends_at (w i) j) ≡ false → ends_at (w i) j ≡ false
  name_ends k i j e f = sym (ap (λ z. z && ends_at (w i) j) e) ∙ f

  not_nil : (s : Scope) (k : Kind) (h : Hint) (i j : ℕ) (ys : Parts) (b : Bool) (X : Type 0) → is_nil (sort_by s k h i j ys) ≡ false → is_nil (sort_of (built_by s k h i j ys b)) ≡ true → X
  not_nil s k h i j ys true X e f = differ (is_nil (sort_by s k h i j ys)) e f
  not_nil s k h i j ys false X e f = cc

  unnamed_no_nil : (z : Stands) → is_named z ≡ false → is_nil z ≡ false
  unnamed_no_nil sort.Nil e = cc
  unnamed_no_nil z e = refl

  selector_no_nil : (s : Scope) (h : Hint) (i j : ℕ) (ys : Parts) → is_nil (sort_by s kind.Selector h i j ys) ≡ false
  selector_no_nil s h i j [] = refl
  selector_no_nil s h i j (None ∷ ys) = refl
  selector_no_nil s h i j (Some x ∷ y ∷ ys) = refl
  selector_no_nil s h i j (Some x ∷ []) = by_sort (sort_of x)
    where
      by_sort : (z : Stands) → is_nil (selector_sort s.rights (s.texts (j - 1)) z) ≡ false
      by_sort sort.Package = refl
      by_sort z = unnamed_no_nil (value_or_unknown (named_field (form_of_value s.rights z) (s.texts (j - 1)))) (value_unnamed (named_field (form_of_value s.rights z) (s.texts (j - 1))))

  nil_inside : (s : Scope) (h : Hint) (i j : ℕ) (x : Part) (b : Bool) → is_nil (sort_of (built_by s kind.Parenthesized h i j (Some x ∷ []) b)) ≡ true → is_nil (sort_of x) ≡ true
  nil_inside s h i j x true m = m
  nil_inside s h i j x false m = cc

  type_sort_no_nil : (o : Option TypeTree) → is_nil (type_sort o) ≡ false
  type_sort_no_nil None = refl
  type_sort_no_nil (Some t) = refl

  sequence_no_nil : (s : Scope) (h : Hint) (i j : ℕ) (ys : Parts) → is_nil (sort_by s kind.SequenceType h i j ys) ≡ false
  sequence_no_nil s h i j [] = refl
  sequence_no_nil s h i j (x ∷ []) = refl
  sequence_no_nil s h i j (x ∷ y ∷ []) = type_sort_no_nil (sequence_type x (part_type y))
  sequence_no_nil s h i j (x ∷ y ∷ z ∷ ys) = refl

  signature_no_nil : (s : Scope) (h : Hint) (i j : ℕ) (ys : Parts) → is_nil (sort_by s kind.Signature h i j ys) ≡ false
  signature_no_nil s h i j [] = refl
  signature_no_nil s h i j (x ∷ []) = refl
  signature_no_nil s h i j (x ∷ y ∷ []) = type_sort_no_nil (signature_type x y)
  signature_no_nil s h i j (x ∷ y ∷ z ∷ ys) = refl

  function_no_nil : (s : Scope) (h : Hint) (p : Place) (i j : ℕ) (ps : Trees) → AreShaped (rule p kind.FunctionType) ps → is_nil (sort_of (typing s h (node kind.FunctionType i j ps))) ≡ true → Fits w false (typing s h (node kind.FunctionType i j ps))
  function_no_nil s h p i j none e m = elim e [ ]
  function_no_nil s h p i j (skip qs) e m = elim e [ ]
  function_no_nil s h p i j (more q (more r qs)) e m = elim e.1 [ ]
  function_no_nil s h p i j (more q (skip qs)) e m = elim e.1 [ ]
  function_no_nil s h p i j (more (node kind.Signature a b qs) none) e m =
      let g = hint s kind.FunctionType h (more (node kind.Signature a b qs) none) [] kind.Signature in
      let x = typing s g (node kind.Signature a b qs) in
      not_nil s kind.FunctionType h i j (Some x ∷ []) (is_sound kind.FunctionType (Some x ∷ []) (own_faults s kind.FunctionType h i j (Some x ∷ []))) _ (signature_no_nil s g a b (typings s kind.Signature g qs [] qs)) m
  function_no_nil s h p i j (more (node q a b qs) none) e m = absurd (never_true e.0.0)

  mutual
    -- `nil` fits where no variable takes its place.
    nil_fits : (s : Scope) (h : Hint) (c : Category) (x : Tree) → IsShaped c x → is_operand (kind_of x) ≡ true → Stays w x → Proper w x → is_nil (sort_of (typing s h x)) ≡ true → Fits w false (typing s h x)
    nil_fits s h c (node k i j ps) e o st pr m = nil_by s h (place_of c) k i j ps e.1 o st (subst (λ b. ProperNode b w k i ps (AllProper w ps)) st pr) m

    nil_by : (s : Scope) (h : Hint) (p : Place) (k : Kind) (i j : ℕ) (ps : Trees) → AreShaped (rule p k) ps → is_operand k ≡ true → Stays w (node k i j ps) → NameFree w k i × PartsFree w k ps × AllProper w ps → is_nil (sort_of (typing s h (node k i j ps))) ≡ true
        → Fits w false (typing s h (node k i j ps))
    nil_by s h p kind.Name i j none e o st pr m = name_fits s h i j (is_sound kind.Name [] (own_faults s kind.Name h i j [])) m (name_ends kind.Name i j refl st)
    nil_by s h p kind.Name i j (more q qs) e o st pr m = elim e [ ]
    nil_by s h p kind.Name i j (skip qs) e o st pr m = elim e [ ]
    nil_by s h p kind.Parenthesized i j none e o st pr m = elim e [ ]
    nil_by s h p kind.Parenthesized i j (skip qs) e o st pr m = elim e [ ]
    nil_by s h p kind.Parenthesized i j (more q (more r qs)) e o st pr m = elim e.1 [ ]
    nil_by s h p kind.Parenthesized i j (more q (skip qs)) e o st pr m = elim e.1 [ ]
    nil_by s h p kind.Parenthesized i j (more q none) e o st pr m =
        let x = typing s (in_parentheses h) q in
        let b = is_sound kind.Parenthesized (Some x ∷ []) (own_faults s kind.Parenthesized h i j (Some x ∷ [])) in
        inside_fits s h i j x b m (name_ends kind.Parenthesized i j refl st)
        (nil_fits s (in_parentheses h) (category.Expression level.Either place.Free) q e.0 (expression_operand level.Either place.Free q e.0) pr.1 pr.2.0 (nil_inside s h i j x b m))
    nil_by s h p kind.Selector i j ps e o st pr m = let ys = layout kind.Selector (typings s kind.Selector h ps [] ps) in not_nil s kind.Selector h i j ys (is_sound kind.Selector ys (own_faults s kind.Selector h i j ys)) _ (selector_no_nil s h i j ys) m
    nil_by s h p kind.SequenceType i j ps e o st pr m = let ys = typings s kind.SequenceType h ps [] ps in not_nil s kind.SequenceType h i j ys (is_sound kind.SequenceType ys (own_faults s kind.SequenceType h i j ys)) _ (sequence_no_nil s h i j ys) m
    nil_by s h p kind.StructType i j ps e o st pr m = let ys = layout kind.StructType (typings s kind.StructType h ps [] ps) in not_nil s kind.StructType h i j ys (is_sound kind.StructType ys (own_faults s kind.StructType h i j ys)) _ refl m
    nil_by s h p kind.FunctionType i j ps e o st pr m = function_no_nil s h p i j ps e m
    nil_by s h p kind.Integer i j ps e o st pr m = let ys = typings s kind.Integer h ps [] ps in not_nil s kind.Integer h i j ys (is_sound kind.Integer ys (own_faults s kind.Integer h i j ys)) _ refl m
    nil_by s h p kind.Rune i j ps e o st pr m = let ys = typings s kind.Rune h ps [] ps in not_nil s kind.Rune h i j ys (is_sound kind.Rune ys (own_faults s kind.Rune h i j ys)) _ refl m
    nil_by s h p kind.Text i j ps e o st pr m = let ys = typings s kind.Text h ps [] ps in not_nil s kind.Text h i j ys (is_sound kind.Text ys (own_faults s kind.Text h i j ys)) _ refl m
    nil_by s h p (kind.Unary q) i j ps e o st pr m =
        let ys = typings s (kind.Unary q) h ps [] ps in not_nil s (kind.Unary q) h i j ys (is_sound (kind.Unary q) ys (own_faults s (kind.Unary q) h i j ys)) _ (unnamed_no_nil (sort_by s (kind.Unary q) h i j ys) (unary_kind s h i j q ys)) m
    nil_by s h p (kind.Binary q) i j ps e o st pr m =
        let ys = typings s (kind.Binary q) h ps [] ps in not_nil s (kind.Binary q) h i j ys (is_sound (kind.Binary q) ys (own_faults s (kind.Binary q) h i j ys)) _ (unnamed_no_nil (sort_by s (kind.Binary q) h i j ys) (binary_kind s h i j q ys)) m
    nil_by s h p kind.Bracketed i j ps e o st pr m =
        let ys = layout kind.Bracketed (typings s kind.Bracketed h ps [] ps) in
        not_nil s kind.Bracketed h i j ys (is_sound kind.Bracketed ys (own_faults s kind.Bracketed h i j ys)) _ (unnamed_no_nil (sort_by s kind.Bracketed h i j ys) (bracketed_kind s h i j ys)) m
    nil_by s h p kind.Call i j ps e o st pr m =
        let ys = layout kind.Call (typings s kind.Call h ps [] ps) in not_nil s kind.Call h i j ys (is_sound kind.Call ys (own_faults s kind.Call h i j ys)) _ (unnamed_no_nil (sort_by s kind.Call h i j ys) (call_kind s h i j ys)) m
    nil_by s h p kind.Composite i j ps e o st pr m =
        let ys = layout kind.Composite (typings s kind.Composite h ps [] ps) in
        not_nil s kind.Composite h i j ys (is_sound kind.Composite ys (own_faults s kind.Composite h i j ys)) _ (unnamed_no_nil (sort_by s kind.Composite h i j ys) (composite_kind s h i j ys)) m
    nil_by s h p kind.LiteralValue i j ps e o st pr m =
        let ys = layout kind.LiteralValue (typings s kind.LiteralValue h ps [] ps) in
        not_nil s kind.LiteralValue h i j ys (is_sound kind.LiteralValue ys (own_faults s kind.LiteralValue h i j ys)) _ (unnamed_no_nil (sort_by s kind.LiteralValue h i j ys) (literal_kind s h i j ys)) m
    nil_by s h p k i j ps e o st pr m = cc

  -- ---- why parts follow

  -- An operand that will fit follows.
  pub operand_follows : (s : Scope) (h : Hint) (c : Category) (x : Tree) → IsShaped c x → is_operand (kind_of x) ≡ true → is_naming h ≡ false → Proper w x → is_unknown (sort_of (typing s h x)) ≡ false → WillFit s.rights w false (typing s h x) → Follows w s h x
  operand_follows s h c (node k i j ps) e o naming p known fits = by_named (is_named (sort_of (typing s h (node k i j ps)))) refl
    where
      by_named : (b : Bool) → is_named (sort_of (typing s h (node k i j ps))) ≡ b → Follows w s h (node k i j ps)
      by_named true m =
          let plain = named_plain (sort_of (typing s h (node k i j ps))) m in
          ((c, e), inl (named_follows s h c (node k i j ps) e o p (fits_stays s h (node k i j ps) plain.1 (will_plain s.rights (typing s h (node k i j ps)) plain.0 fits)) m))
      by_named false m = ((c, e), inr (inl (valued_expresses s h c (node k i j ps) e o known (unnamed_no_type (sort_of (typing s h (node k i j ps))) m), naming, fits)))

  -- ---- what is known of an operand by its tree alone

  pub record Facts (rights : Rights) (x : Part) : Type 0 where
    pub ready : is_unknown (sort_of x) ≡ false → is_type (sort_of x) ≡ false → Ready rights w false x
    pub nil : is_nil (sort_of x) ≡ true → (t : TypeTree) → Fits w false (settled t x) → Fits w false x
    pub agrees : Agrees x
    -- Where it stands for no value, and no variable takes its place, none stands in it.
    pub still : is_named (sort_of x) ≡ true → ends_at (w (first_of x)) (last_of x) ≡ false → Away w false x

  first_token : (s : Scope) (k : Kind) (h : Hint) (i j : ℕ) (ys : Parts) (b : Bool) → (first_of (built_by s k h i j ys b) ≡ i) × (last_of (built_by s k h i j ys b) ≡ j)
  first_token s k h i j ys true = (refl, refl)
  first_token s k h i j ys false = (refl, refl)

  -- no variable takes the place of a tree where none ends with what was typed
  pub ends_tree : (s : Scope) (h : Hint) (x : Tree) → ends_at (w (first_of (typing s h x))) (last_of (typing s h x)) ≡ false → Stays w x
  ends_tree s h (node k i j ps) e =
      let ys = layout k (typings s k h ps [] ps) in
      let at = first_token s k h i j ys (is_sound k ys (own_faults s k h i j ys)) in
      ends_stays k i j (ap (λ z. ends_at (w z) j) (sym at.0) ∙ ap (λ z. ends_at (w (first_of (typing s h (node k i j ps)))) z) (sym at.1) ∙ e)

  pub operand_facts : (s : Scope) (h : Hint) (c : Category) (x : Tree) → IsShaped c x → is_operand (kind_of x) ≡ true → Proper w x → Facts s.rights (typing s h x)
  operand_facts s h c x e o p = record {
    ready = λ known value. ready_part s h c x e (valued_expresses s h c x e o known value) known;
    nil = λ m t fits. nil_fits s h c x e o (settled_stays t s h x (nil_plain (sort_of (typing s h x)) m) fits) p m;
    agrees = typing_agrees s h c x e;
    still = λ m ends. (named_follows s h c x e o p (ends_tree s h x ends) m).1;
  }

  -- One in place of which none stands, and that stands for no value, does.
  pub still_follows : (s : Scope) (h : Hint) (c : Category) (x : Tree) → IsShaped c x → Still w s h x → Follows w s h x
  still_follows s h c (node k i j ps) e still = ((c, e), inl still)
