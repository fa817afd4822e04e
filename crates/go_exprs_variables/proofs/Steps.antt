-- The step of the induction at a node with a unary operator: what is typed over the operand with variables in it is what is typed
-- over the operand, with the variables in it.
use Rattle.std.proofs.Common.{◌≡◌, ◌∙◌, ℕ, Bool, true, false, [], ◌∷◌, Option, Some, None, refl, sym, ap}
use Rattle.std.specs.Prelude.{◌&&◌, ◌||◌, not, if◌then◌else◌}
use Rattle.go_grammar.specs.declared.kind.Kind.TheVariants as kind
use Rattle.go_grammar.specs.declared.kind.Sign.{Sign}
use Rattle.go_types.specs.Trees.{TypeTree}
use Rattle.go_types.specs.Relations.{Rights}
use Rattle.go_typed.specs.declared.form.Form.{Form}
use Rattle.go_typed.specs.declared.form.Form.TheVariants as form
use Rattle.go_typed.specs.declared.sort.Untyped.TheVariants as untyped
use Rattle.go_typed.specs.Trees.{Sort, Label, Typed, typed, Typeds, sort_of, form_of, label_of}
use Rattle.go_typed.specs.Trees as sort
use Rattle.go_exprs_rules.specs.Operators.{in_kind, signed_const, complement_mask, unary_sort}
use Rattle.go_exprs_rules.specs.Scopes.{Scope, Hint}
use Rattle.go_exprs_rules.specs.Settling.{Part, settled}
use Rattle.go_exprs_rules.specs.Sorts.{Stands, is_constant, is_open, is_unknown, retyped, kind_of_const}
use Rattle.go_exprs_rules.specs.Tables.{Parts, label, own_faults, built, is_held}
use Rattle.clone_window.specs.Masses.{is_hole, is_inside, is_expression}
use Rattle.clone_window.specs.Masses as masses
use Rattle.go_exprs_variables.specs.Over.{any_varies}
use Rattle.go_exprs_variables.specs.Variables.{Standins, at_hole, put_over, put, wanted, first_wanted, or_wanted, begun}
use Rattle.go_exprs_variables.proofs.Trees.{is_key, plain_sort, hole_kept, inside_kept, retyped_label}
use Rattle.go_exprs_variables.specs.Stood.{Stood}
use Rattle.go_exprs_variables.proofs.Unary.{IsValue, folds}
use Rattle.go_exprs_variables.proofs.Nodes.{unary_node}
use Rattle.go_exprs_variables.proofs.Begun.{begun_by, settled_is, open_takes}

-- ---- nodes over one part that aren't constant

pub no_hole : (a : Bool) (f : Form) (l : Label TypeTree) → masses.is_constant l.sort ≡ false → is_hole a f l ≡ false
no_hole a f l e = ap (λ b. not a && (is_expression f && b) && not l.varies) e ∙ nothing (not a) (is_expression f) (not l.varies)
  where
    nothing : (b c d : Bool) → (b && (c && false) && d) ≡ false
    nothing true true d = refl
    nothing true false d = refl
    nothing false c d = refl

pub not_inside : (a : Bool) (f : Form) (l : Label TypeTree) → masses.is_constant l.sort ≡ false → is_inside a f l ≡ a
not_inside a f l e = ap (λ b. a || (is_expression f && b)) e ∙ nothing a (is_expression f)
  where
    nothing : (a c : Bool) → (a || (c && false)) ≡ a
    nothing true c = refl
    nothing false true = refl
    nothing false false = refl

varies_one : (y : Part) → any_varies (sort.more y sort.none) ≡ ((label_of y).varies || false)
varies_one (typed f i j l ps) = refl

module _ (rights : Rights) (w : Standins) (a : Bool) (f : Form) (i j : ℕ) (l : Label TypeTree) (x : Part) (key : is_key f ≡ false) (held : is_held f ≡ false) (value : masses.is_constant l.sort ≡ false) where
  abbrev node : Part
  node = typed f i j l (sort.more x sort.none)

  abbrev over : Stands → Part → Part
  over s y = typed f i j (record { sort = s; varies = any_varies (sort.more y sort.none); calls = l.calls }) (sort.more y sort.none)

  -- with variables in the part
  put_node : put w a node ≡ over l.sort (put w a x)
  put_node =
      ap (λ b. put_over (at_hole w b i) f i j l (sort.more (put w (is_inside a f l) x) sort.none)) (no_hole a f l value)
      ∙ ap (λ s. typed f i j (record { sort = s; varies = any_varies (sort.more (put w (is_inside a f l) x) sort.none); calls = l.calls }) (sort.more (put w (is_inside a f l) x) sort.none)) (plain_sort f l.sort (sort.more (put w (is_inside a f l) x) sort.none) key)
      ∙ ap (λ b. over l.sort (put w b x)) (not_inside a f l value)

  wanted_node : (b : Bool) → is_open l.sort ≡ b → wanted w a node ≡ (if b then or_wanted (wanted w a x) None else None)
  wanted_node b e =
      ap (λ c. if c then first_wanted (at_hole w (is_hole a f l) i) (or_wanted (wanted w (is_inside a f l) x) None) else None) e
      ∙ ap (λ c. if b then first_wanted (at_hole w c i) (or_wanted (wanted w (is_inside a f l) x) None) else None) (no_hole a f l value)
      ∙ ap (λ c. if b then or_wanted (wanted w c x) None else None) (not_inside a f l value)

  none_either : (b : Bool) → (if b then or_wanted None None else None) ≡ None
  none_either true = refl
  none_either false = refl

  -- the part wants nothing
  pub quiet_node : wanted w a x ≡ None → begun w a node ≡ over l.sort (put w a x)
  quiet_node e =
      let is : wanted w a node ≡ None = wanted_node (is_open l.sort) refl ∙ ap (λ o. if is_open l.sort then or_wanted o None else None) e ∙ none_either (is_open l.sort) in
      begun_by rights w a f i j l (sort.more x sort.none) None held is ∙ put_node

  -- the part wants a type, and so does the node
  pub wanting_node : (t : TypeTree) → wanted w a x ≡ Some t → is_open l.sort ≡ true → begun w a node ≡ over (retyped t l.sort) (put w a (settled t x))
  wanting_node t e o =
      let is : wanted w a node ≡ Some t = wanted_node true o ∙ ap (λ z. or_wanted z None) e in
      let qs : Typeds TypeTree = sort.more (put w a (settled t x)) sort.none in
      begun_by rights w a f i j l (sort.more x sort.none) (Some t) held is
      ∙ ap (put w a) (settled_is w t f i j l (sort.more x sort.none) (open_takes w l.sort o))
      ∙ ap (λ b. put_over (at_hole w b i) f i j (retyped_label t l) (sort.more (put w (is_inside a f (retyped_label t l)) (settled t x)) sort.none)) (hole_kept t a f l ∙ no_hole a f l value)
      ∙ ap (λ b. put_over None f i j (retyped_label t l) (sort.more (put w b (settled t x)) sort.none)) (inside_kept t a f l ∙ not_inside a f l value)
      ∙ ap (λ s. typed f i j (record { sort = s; varies = any_varies qs; calls = l.calls }) qs) (plain_sort f (retyped t l.sort) qs key)

-- ---- a unary operator

pub one_test : (s : Stands) → is_constant s ≡ false → masses.is_constant s ≡ false
one_test (sort.Constant t c) e = cc
one_test (sort.OpenConstant c) e = cc
one_test (sort.Open u) e = refl
one_test (sort.Value t) e = refl
one_test sort.Nothing e = refl
one_test sort.Unknown e = refl
one_test sort.Blank e = refl
one_test sort.Nil e = refl
one_test (sort.Builtin b) e = refl
one_test sort.Println e = refl
one_test sort.Package e = refl
one_test (sort.IsType t) e = refl
one_test (sort.Results t) e = refl

-- What an operand with variables in it is: as it was, where it wants no type; or a value of the type that it wants, where it is untyped.
pub data Begins (w : Standins) (a : Bool) (x : Part) : Type 0 where
  quiet : wanted w a x ≡ None → begun w a x ≡ put w a x → sort_of (put w a x) ≡ sort_of x → Begins w a x
  wanting : (t : TypeTree) → wanted w a x ≡ Some t → begun w a x ≡ put w a (settled t x) → sort_of (put w a (settled t x)) ≡ sort.Value t → is_open (sort_of x) ≡ true → Begins w a x

-- an operation on what is untyped is untyped, and takes the type as one on a value of the type stands for
pub record TakesWith (rights : Rights) (o : Sign) (s : Stands) : Type 0 where
  pub open_still : is_open s ≡ true → is_open (unary_sort rights o s) ≡ true
  pub typed_so : (t : TypeTree) → is_open s ≡ true → retyped t (unary_sort rights o s) ≡ unary_sort rights o (sort.Value t)

pub open_takes_with : (rights : Rights) (o : Sign) (s : Stands) → IsValue (unary_sort rights o s) → TakesWith rights o s
open_takes_with rights o (sort.Open untyped.Boolean) v = record { open_still = λ e. refl; typed_so = λ t e. refl }
open_takes_with rights o (sort.Open untyped.Integer) v = record { open_still = λ e. refl; typed_so = λ t e. refl }
open_takes_with rights o (sort.Open untyped.Rune) v = record { open_still = λ e. refl; typed_so = λ t e. refl }
open_takes_with rights o (sort.OpenConstant c) v = absurd (folds (in_kind (kind_of_const c)) (signed_const o (complement_mask None) c) v)
open_takes_with rights o (sort.Constant t c) v = record { open_still = λ e. cc; typed_so = λ u e. cc }
open_takes_with rights o (sort.Value t) v = record { open_still = λ e. cc; typed_so = λ u e. cc }
open_takes_with rights o sort.Nothing v = record { open_still = λ e. cc; typed_so = λ u e. cc }
open_takes_with rights o sort.Unknown v = record { open_still = λ e. cc; typed_so = λ u e. cc }
open_takes_with rights o sort.Blank v = record { open_still = λ e. cc; typed_so = λ u e. cc }
open_takes_with rights o sort.Nil v = record { open_still = λ e. cc; typed_so = λ u e. cc }
open_takes_with rights o (sort.Builtin b) v = record { open_still = λ e. cc; typed_so = λ u e. cc }
open_takes_with rights o sort.Println v = record { open_still = λ e. cc; typed_so = λ u e. cc }
open_takes_with rights o sort.Package v = record { open_still = λ e. cc; typed_so = λ u e. cc }
open_takes_with rights o (sort.IsType t) v = record { open_still = λ e. cc; typed_so = λ u e. cc }
open_takes_with rights o (sort.Results t) v = record { open_still = λ e. cc; typed_so = λ u e. cc }

module _ (s : Scope) (o : Sign) (h : Hint) (i j : ℕ) (w : Standins) (a : Bool) where
  abbrev one : Part → Parts
  one x = Some x ∷ []

  abbrev over_part : Part → Part
  over_part x = typed (form.Unary o) i j (label (form.Unary o) (unary_sort s.rights o (sort_of x)) (one x)) (sort.more x sort.none)

  -- the node over a part, by what its label says
  labelled : (x y : Part) (z : Stands) → (label_of y).calls ≡ (label_of x).calls → z ≡ unary_sort s.rights o (sort_of y)
      → typed (form.Unary o) i j (record { sort = z; varies = any_varies (sort.more y sort.none); calls = (label_of x).calls || false }) (sort.more y sort.none) ≡ over_part y
  labelled x y z c e =
      ap (λ b. typed (form.Unary o) i j (record { sort = z; varies = b; calls = (label_of x).calls || false }) (sort.more y sort.none)) (varies_one y)
      ∙ ap (λ b. typed (form.Unary o) i j (record { sort = z; varies = (label_of y).varies || false; calls = b || false }) (sort.more y sort.none)) (sym c)
      ∙ ap (λ r. typed (form.Unary o) i j (record { sort = r; varies = (label_of y).varies || false; calls = (label_of y).calls || false }) (sort.more y sort.none)) e

  step_by : (x : Part) → IsValue (unary_sort s.rights o (sort_of x)) → (label_of (begun w a x)).calls ≡ (label_of x).calls → Begins w a x → over_part (begun w a x) ≡ begun w a (over_part x)
  step_by x v c (quiet e is same) =
      let value = one_test (unary_sort s.rights o (sort_of x)) v.constant in
      let keeps : (label_of (put w a x)).calls ≡ (label_of x).calls = ap (λ y. (label_of y).calls) (sym is) ∙ c in
      ap over_part is ∙ sym (labelled x (put w a x) (unary_sort s.rights o (sort_of x)) keeps (ap (unary_sort s.rights o) (sym same)))
      ∙ sym (quiet_node s.rights w a (form.Unary o) i j (label (form.Unary o) (unary_sort s.rights o (sort_of x)) (one x)) x refl refl value e)
  step_by x v c (wanting t e is same untyped_still) =
      let value = one_test (unary_sort s.rights o (sort_of x)) v.constant in
      let taking = open_takes_with s.rights o (sort_of x) v in
      let keeps : (label_of (put w a (settled t x))).calls ≡ (label_of x).calls = ap (λ y. (label_of y).calls) (sym is) ∙ c in
      ap over_part is ∙ sym (labelled x (put w a (settled t x)) (retyped t (unary_sort s.rights o (sort_of x))) keeps (taking.typed_so t untyped_still ∙ ap (unary_sort s.rights o) (sym same)))
      ∙ sym (wanting_node s.rights w a (form.Unary o) i j (label (form.Unary o) (unary_sort s.rights o (sort_of x)) (one x)) x refl refl value t e (taking.open_still untyped_still))

  -- The whole step: over the operand with variables in it no rule fails, and what is typed is what was typed, with the variables in it.
  pub unary_step : (u : Option TypeTree) (x : Part) → Stood s.rights u (sort_of x) (sort_of (begun w a x)) → (label_of (begun w a x)).calls ≡ (label_of x).calls → Begins w a x
      → is_unknown (sort_of x) ≡ false → own_faults s (kind.Unary o) h i j (one x) ≡ [] → IsValue (unary_sort s.rights o (sort_of x))
      → (own_faults s (kind.Unary o) h i j (one (begun w a x)) ≡ []) × (built s (kind.Unary o) h i j (one (begun w a x)) ≡ begun w a (built s (kind.Unary o) h i j (one x)))
  unary_step u x st c b e f v =
      let n = unary_node s o h i j u x (begun w a x) st e f v in
      (n.failing, n.new ∙ step_by x v c b ∙ ap (begun w a) (sym n.old))
