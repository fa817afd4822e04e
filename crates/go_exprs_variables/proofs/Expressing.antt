-- What is known of the nodes of expressions by their kinds: their forms, and which of them may be constant.
use Rattle.std.proofs.Common.{◌≡◌, ◌∙◌, ℕ, Bool, true, false, List, [], ◌∷◌, Option, Some, None, refl, ap}
use Rattle.std.specs.Prelude.{◌&&◌, ◌||◌}
use Rattle.go_grammar.specs.declared.kind.Kind.{Kind}
use Rattle.go_grammar.specs.declared.kind.Kind.TheVariants as kind
use Rattle.go_tree.specs.declared.object.Object.{Object}
use Rattle.go_tree.specs.declared.object.Object.TheVariants as object
use Rattle.go_typed.specs.declared.form.Form.{Form}
use Rattle.go_typed.specs.declared.form.Form.TheVariants as form
use Rattle.go_typed.specs.declared.form.Referent.{Referent}
use Rattle.go_typed.specs.declared.form.Referent.TheVariants as referent
use Rattle.go_typed.specs.Trees.{Sort, sort_of, form_of, label_of}
use Rattle.go_typed.specs.Trees as sort
use Rattle.go_exprs_rules.specs.Names.{name_form, name_sort, object_form, object_sort, declared_form, form_or_type, need_of}
use Rattle.go_exprs_rules.specs.Scopes.{Needed, Scope, Hint, declares, free, member}
use Rattle.go_exprs_rules.specs.Sorts.{Stands, is_open}
use Rattle.go_exprs_rules.specs.Tables.{Parts, form_by, sort_by, built_by, is_held, key_form, callee_form}
use Rattle.clone_window.specs.Masses.{is_expression, is_constant_expression}
use Rattle.clone_window.specs.Masses as masses
use Rattle.go_exprs_variables.specs.Variables.{may_be_constant, expresses}
use Rattle.go_exprs_variables.proofs.Quiet.{is_silent, selector_loud, bracketed_loud, literal_loud, untyped_literal_loud}

-- a value that may take a type, or a constant
abbrev pub is_asking : Stands → Bool
is_asking z = is_open z || masses.is_constant z

module _ (s : Scope) where
  -- ---- names

  referent_expression : (r : Referent) → is_expression (form.Object r) ≡ true
  referent_expression (referent.Constant n) = refl
  referent_expression (referent.Type n) = refl
  referent_expression (referent.Variable n) = refl
  referent_expression (referent.Function n) = refl
  referent_expression (referent.Predeclared p) = refl
  referent_expression referent.Println = refl

  object_expression : (need : Needed) (o : Option Object) → is_asking (object_sort s need o) ≡ true → is_expression (object_form s o) ≡ true
  object_expression need None e = cc
  object_expression need (Some object.Import) e = cc
  object_expression need (Some (object.Predeclared p)) e = refl
  object_expression need (Some (object.Package n)) e = referent_expression (s.referents n)
  object_expression need (Some (object.Local f n)) e = refl

  typed_expression : (z : Stands) (f : Form) → is_asking z ≡ true → is_expression f ≡ true → is_expression (form_or_type z f) ≡ true
  typed_expression (sort.IsType t) f e g = cc
  typed_expression z f e g = g

  name_expression : (h : Hint) (i : ℕ) → is_asking (name_sort s h i) ≡ true → is_expression (name_form s h i) ≡ true
  name_expression declares i e = cc
  name_expression free i e = cc
  name_expression h i e = typed_expression (name_sort s h i) (object_form s (s.objects i)) e (object_expression (need_of s.needed h) (s.objects i) e)

  object_unheld : (o : Option Object) → is_held (object_form s o) ≡ false
  object_unheld None = refl
  object_unheld (Some object.Import) = refl
  object_unheld (Some (object.Predeclared p)) = refl
  object_unheld (Some (object.Package n)) = refl
  object_unheld (Some (object.Local f n)) = refl

  declared_unheld : (o : Option Object) → is_held (declared_form s o) ≡ false
  declared_unheld None = refl
  declared_unheld (Some object.Import) = refl
  declared_unheld (Some (object.Predeclared p)) = refl
  declared_unheld (Some (object.Package n)) = refl
  declared_unheld (Some (object.Local f n)) = refl

  typed_unheld : (z : Stands) (f : Form) → is_held f ≡ false → is_held (form_or_type z f) ≡ false
  typed_unheld (sort.IsType t) f e = refl
  typed_unheld z f e = e

  name_unheld : (h : Hint) (i : ℕ) → is_held (name_form s h i) ≡ false
  name_unheld declares i = declared_unheld (s.objects i)
  name_unheld free i = declared_unheld (s.objects i)
  name_unheld h i = typed_unheld (name_sort s h i) (object_form s (s.objects i)) (object_unheld (s.objects i))

  -- ---- nodes

  callee_unheld : (z : Stands) → is_held (callee_form z) ≡ false
  callee_unheld (sort.IsType t) = refl
  callee_unheld z = refl

  callee_expression : (z : Stands) → is_expression (callee_form z) ≡ true
  callee_expression (sort.IsType t) = refl
  callee_expression z = refl

  -- an expression holds no parts of another node
  pub form_unheld : (k : Kind) (h : Hint) (i j : ℕ) (ys : Parts) → expresses k ≡ true → is_held (form_by s k h i j ys) ≡ false
  form_unheld kind.Name h i j ys e = name_unheld h i
  form_unheld kind.Selector h i j [] e = refl
  form_unheld kind.Selector h i j (None ∷ ys) e = refl
  form_unheld kind.Selector h i j (Some x ∷ []) e = refl
  form_unheld kind.Selector h i j (Some x ∷ y ∷ ys) e = refl
  form_unheld kind.Bracketed h i j [] e = refl
  form_unheld kind.Bracketed h i j (x ∷ []) e = refl
  form_unheld kind.Bracketed h i j (x ∷ y ∷ []) e = refl
  form_unheld kind.Bracketed h i j (x ∷ y ∷ z ∷ ys) e = refl
  form_unheld kind.Call h i j [] e = refl
  form_unheld kind.Call h i j (None ∷ ys) e = refl
  form_unheld kind.Call h i j (Some f ∷ ys) e = callee_unheld (sort_of f)
  form_unheld kind.Integer h i j ys e = refl
  form_unheld kind.Rune h i j ys e = refl
  form_unheld kind.Text h i j ys e = refl
  form_unheld kind.Parenthesized h i j ys e = refl
  form_unheld (kind.Unary o) h i j ys e = refl
  form_unheld (kind.Binary o) h i j ys e = refl
  form_unheld kind.Composite h i j ys e = refl
  form_unheld kind.LiteralValue h i j ys e = refl
  form_unheld k h i j ys e = cc

  -- ---- constants

  loud_constant : (z : Stands) → is_silent s.rights z ≡ false → masses.is_constant z ≡ false
  loud_constant (sort.Constant t c) e = cc
  loud_constant (sort.OpenConstant c) e = cc
  loud_constant z e = refl

  and_false : (b : Bool) → (b && false) ≡ false
  and_false true = refl
  and_false false = refl

  key_no_expression : (h : Hint) (name : List ℕ) → is_expression (key_form s.rights h name) ≡ false
  key_no_expression (member t) name = refl
  key_no_expression h name = refl

  abbrev constant_by : Kind → Hint → ℕ → ℕ → Parts → Stands → Bool
  constant_by k h i j ys z = is_expression (form_by s k h i j ys) && masses.is_constant z

  plain_by : (k : Kind) (h : Hint) (i j : ℕ) (ys : Parts) → masses.is_constant (sort_by s k h i j ys) ≡ false → constant_by k h i j ys (sort_by s k h i j ys) ≡ false
  plain_by k h i j ys e = ap (λ b. is_expression (form_by s k h i j ys) && b) e ∙ and_false (is_expression (form_by s k h i j ys))

  -- what isn't of these kinds is no constant expression
  never_constant : (k : Kind) (h : Hint) (i j : ℕ) (ys : Parts) → may_be_constant k ≡ false → constant_by k h i j ys (sort_by s k h i j ys) ≡ false
  never_constant kind.Selector h i j ys e = plain_by kind.Selector h i j ys (loud_constant (sort_by s kind.Selector h i j ys) (selector_loud s h i j ys))
  never_constant kind.Bracketed h i j ys e = plain_by kind.Bracketed h i j ys (loud_constant (sort_by s kind.Bracketed h i j ys) (bracketed_loud s h i j ys))
  never_constant kind.Composite h i j ys e = plain_by kind.Composite h i j ys (loud_constant (sort_by s kind.Composite h i j ys) (literal_loud s h i j ys))
  never_constant kind.LiteralValue h i j ys e = plain_by kind.LiteralValue h i j ys (loud_constant (sort_by s kind.LiteralValue h i j ys) (untyped_literal_loud s h i j ys))
  never_constant kind.Keyed h i j ys e = ap (λ b. b && masses.is_constant (sort_by s kind.Keyed h i j ys)) (key_no_expression h (s.texts i))
  never_constant kind.Name h i j ys e = cc
  never_constant kind.Integer h i j ys e = cc
  never_constant kind.Rune h i j ys e = cc
  never_constant kind.Text h i j ys e = cc
  never_constant kind.Parenthesized h i j ys e = cc
  never_constant (kind.Unary o) h i j ys e = cc
  never_constant (kind.Binary o) h i j ys e = cc
  never_constant kind.Call h i j ys e = cc
  never_constant k h i j ys e = refl

  pub not_constant : (k : Kind) (h : Hint) (i j : ℕ) (ys : Parts) (b : Bool) → may_be_constant k ≡ false → is_constant_expression (form_of (built_by s k h i j ys b)) (label_of (built_by s k h i j ys b)) ≡ false
  not_constant k h i j ys true e = never_constant k h i j ys e
  not_constant k h i j ys false e = and_false (is_expression (form_by s k h i j ys))

  -- What takes a type, or is constant, has the form of an expression.
  form_expression : (k : Kind) (h : Hint) (i j : ℕ) (ys : Parts) → expresses k ≡ true → is_asking (sort_by s k h i j ys) ≡ true → is_expression (form_by s k h i j ys) ≡ true
  form_expression kind.Name h i j ys e g = name_expression h i g
  form_expression kind.Integer h i j ys e g = refl
  form_expression kind.Rune h i j ys e g = refl
  form_expression kind.Text h i j ys e g = refl
  form_expression kind.Parenthesized h i j ys e g = refl
  form_expression (kind.Unary o) h i j ys e g = refl
  form_expression (kind.Binary o) h i j ys e g = refl
  form_expression kind.Composite h i j ys e g = refl
  form_expression kind.LiteralValue h i j ys e g = refl
  form_expression kind.Selector h i j [] e g = refl
  form_expression kind.Selector h i j (None ∷ ys) e g = refl
  form_expression kind.Selector h i j (Some x ∷ []) e g = refl
  form_expression kind.Selector h i j (Some x ∷ y ∷ ys) e g = refl
  form_expression kind.Bracketed h i j [] e g = refl
  form_expression kind.Bracketed h i j (x ∷ []) e g = refl
  form_expression kind.Bracketed h i j (x ∷ y ∷ []) e g = refl
  form_expression kind.Bracketed h i j (x ∷ y ∷ z ∷ ys) e g = refl
  form_expression kind.Call h i j [] e g = refl
  form_expression kind.Call h i j (None ∷ ys) e g = refl
  form_expression kind.Call h i j (Some f ∷ ys) e g = callee_expression (sort_of f)
  form_expression k h i j ys e g = cc

  pub expressed : (k : Kind) (h : Hint) (i j : ℕ) (ys : Parts) (b : Bool) → expresses k ≡ true → is_asking (sort_of (built_by s k h i j ys b)) ≡ true → is_expression (form_of (built_by s k h i j ys b)) ≡ true
  expressed k h i j ys true e g = form_expression k h i j ys e g
  expressed k h i j ys false e g = cc

  pub unheld : (k : Kind) (h : Hint) (i j : ℕ) (ys : Parts) (b : Bool) → expresses k ≡ true → is_held (form_of (built_by s k h i j ys b)) ≡ false
  unheld k h i j ys true e = form_unheld k h i j ys e
  unheld k h i j ys false e = form_unheld k h i j ys e
