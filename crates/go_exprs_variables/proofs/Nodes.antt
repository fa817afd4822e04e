-- A node with a unary operator, where variables stand in place of constants in its operand: what is typed, and that no rule fails.
use Rattle.std.proofs.Common.{◌≡◌, ◌∙◌, ℕ, Bool, true, false, List, [], ◌∷◌, Option, Some, None, refl, sym, ap}
use Rattle.std.specs.Prelude.{◌&&◌, ◌||◌, not, if◌then◌else◌}
use Rattle.go_grammar.specs.declared.kind.Kind.TheVariants as kind
use Rattle.go_grammar.specs.declared.kind.Sign.{Sign}
use Rattle.go_types.specs.Trees.{TypeTree}
use Rattle.go_types.specs.Relations.{Rights}
use Rattle.go_types_relations.specs.Tests.{underlying_of}
use Rattle.go_typed.specs.declared.form.Form.TheVariants as form
use Rattle.go_typed.specs.Trees.{Sort, Label, Typed, typed, Typeds, sort_of, label_of}
use Rattle.go_typed.specs.Trees as sort
use Rattle.go_exprs_rules.specs.declared.fault.TypeFault.{TypeFault}
use Rattle.go_exprs_rules.specs.Faults.{or_else}
use Rattle.go_exprs_rules.specs.Names.{place_failing}
use Rattle.go_exprs_rules.specs.Operators.{in_type, in_kind, complement_mask, signed_const, unary_failing, unary_sort, unary_take}
use Rattle.go_exprs_rules.specs.Scopes.{Scope, Hint}
use Rattle.go_exprs_rules.specs.Settling.{Part, stay, default, given}
use Rattle.go_exprs_rules.specs.Sorts.{Stands, is_constant, is_unknown, kind_of_const}
use Rattle.go_exprs_rules.specs.Tables.{Parts, label, made, own_faults, built, built_by}
use Rattle.go_exprs_variables.specs.Stood.{Stood, as_before, in_place, early}
use Rattle.go_exprs_variables.proofs.Parts.{neither, of_neither}
use Rattle.go_exprs_variables.proofs.Places.{place_row}
use Rattle.go_exprs_variables.proofs.Unary.{IsValue, folds, unary_row}

-- the operand of an operation that isn't constant is none
pub no_constant : (rights : Rights) (o : Sign) (a : Stands) → IsValue (unary_sort rights o a) → is_constant a ≡ false
no_constant rights o (sort.Constant t c) h = absurd (folds (in_type t) (signed_const o (complement_mask (underlying_of rights t)) c) h)
no_constant rights o (sort.OpenConstant c) h = absurd (folds (in_kind (kind_of_const c)) (signed_const o (complement_mask None) c) h)
no_constant rights o a h = refl

module _ (s : Scope) (o : Sign) (h : Hint) (i j : ℕ) where
  abbrev one : Part → Parts
  one x = Some x ∷ []

  -- the rules of the node, where its operand is known
  rules : (x : Part) → is_unknown (sort_of x) ≡ false → own_faults s (kind.Unary o) h i j (one x) ≡ or_else (unary_failing s.rights o i j (sort_of x)) (place_failing s.rights h i j (unary_sort s.rights o (sort_of x)))
  rules x e = ap (λ b. if not (b || false) then or_else (unary_failing s.rights o i j (sort_of x)) (place_failing s.rights h i j (unary_sort s.rights o (sort_of x))) else []) e

  -- the node, where no rule fails
  node : (x : Part) → is_unknown (sort_of x) ≡ false → own_faults s (kind.Unary o) h i j (one x) ≡ []
      → built s (kind.Unary o) h i j (one x) ≡ made (form.Unary o) i j (unary_sort s.rights o (sort_of x)) (one x) (one (given (unary_take (sort_of x)) x))
  node x e f = ap (λ fs. built_by s (kind.Unary o) h i j (one x) (not true || (not (is_unknown (sort_of x) || false) && no_faults_of fs))) f ∙ ap (λ b. built_by s (kind.Unary o) h i j (one x) (not true || (not (b || false) && true))) e
    where
      no_faults_of : List TypeFault → Bool
      no_faults_of [] = true
      no_faults_of (f ∷ fs) = false

  -- which stands over the operand as it is
  pub plain : (x : Part) → is_unknown (sort_of x) ≡ false → own_faults s (kind.Unary o) h i j (one x) ≡ [] → IsValue (unary_sort s.rights o (sort_of x))
      → built s (kind.Unary o) h i j (one x) ≡ typed (form.Unary o) i j (label (form.Unary o) (unary_sort s.rights o (sort_of x)) (one x)) (sort.more x sort.none)
  plain x e f v = node x e f ∙ ap (λ b. made (form.Unary o) i j (unary_sort s.rights o (sort_of x)) (one x) (one (given (if b then default else stay) x))) (no_constant s.rights o (sort_of x) v)

  pub record UnaryNode (u : Option TypeTree) (x y : Part) : Type 0 where
    pub failing : own_faults s (kind.Unary o) h i j (one y) ≡ []
    pub old : built s (kind.Unary o) h i j (one x) ≡ typed (form.Unary o) i j (label (form.Unary o) (unary_sort s.rights o (sort_of x)) (one x)) (sort.more x sort.none)
    pub new : built s (kind.Unary o) h i j (one y) ≡ typed (form.Unary o) i j (label (form.Unary o) (unary_sort s.rights o (sort_of y)) (one y)) (sort.more y sort.none)
    pub stands : Stood s.rights u (unary_sort s.rights o (sort_of x)) (unary_sort s.rights o (sort_of y))

  still_known : (u : Option TypeTree) (a b : Stands) → Stood s.rights u a b → is_unknown a ≡ false → is_unknown b ≡ false
  still_known u a b (as_before v c) e = e
  still_known u a b (in_place v t c) e = refl
  still_known u a b (early t c k m n) e = refl

  still_value : (u : Option TypeTree) (a b : Stands) → Stood s.rights u a b → IsValue a → IsValue b
  still_value u a b (as_before v c) e = e
  still_value u a b (in_place v t c) e = record { constant = refl; known = refl }
  still_value u a b (early t c k m n) e = record { constant = refl; known = refl }

  -- No rule fails over the operand with variables in it, and the node stands over it as it stood over the old one.
  pub unary_node : (u : Option TypeTree) (x y : Part) → Stood s.rights u (sort_of x) (sort_of y) → is_unknown (sort_of x) ≡ false → own_faults s (kind.Unary o) h i j (one x) ≡ [] → IsValue (unary_sort s.rights o (sort_of x)) → UnaryNode u x y
  unary_node u x y st e f v =
      let both = neither (unary_failing s.rights o i j (sort_of x)) (place_failing s.rights h i j (unary_sort s.rights o (sort_of x))) (sym (rules x e) ∙ f) in
      let row = unary_row s.rights o i j u (sort_of x) (sort_of y) st both.0 v in
      let known : is_unknown (sort_of y) ≡ false = still_known u (sort_of x) (sort_of y) st e in
      let place = place_row s.rights i j h u (unary_sort s.rights o (sort_of x)) (unary_sort s.rights o (sort_of y)) row.stands both.1 in
      let none = rules y known ∙ of_neither (unary_failing s.rights o i j (sort_of y)) (place_failing s.rights h i j (unary_sort s.rights o (sort_of y))) row.failing place in
      record {
        failing = none;
        old = plain x e f v;
        new = plain y known none (still_value u (unary_sort s.rights o (sort_of x)) (unary_sort s.rights o (sort_of y)) row.stands v);
        stands = row.stands;
      }
