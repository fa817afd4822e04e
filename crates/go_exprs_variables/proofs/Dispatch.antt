-- The kinds of expressions: from a node that fits to its parts, and the step.
use Rattle.std.proofs.Common.{◌≡◌, ◌∙◌, inr, ℕ, ◌-◌, Bool, true, false, [], ◌∷◌, Option, Some, None, refl, sym, ap, subst, IsTrue}
use Rattle.std.specs.Prelude.{◌&&◌, if◌then◌else◌, is_some}
use Rattle.go_grammar.specs.declared.kind.Category.{Category}
use Rattle.go_grammar.specs.declared.kind.Category.TheVariants as category
use Rattle.go_grammar.specs.declared.kind.Arithmetic.{Arithmetic}
use Rattle.go_grammar.specs.declared.kind.Comparison.{Comparison}
use Rattle.go_grammar.specs.declared.kind.Kind.{Kind}
use Rattle.go_grammar.specs.declared.kind.Kind.TheVariants as kind
use Rattle.go_grammar.specs.declared.kind.Level.TheVariants as level
use Rattle.go_grammar.specs.declared.kind.Operator.{Operator}
use Rattle.go_grammar.specs.declared.kind.Operator.TheVariants as operator
use Rattle.go_grammar.specs.declared.kind.Place.{Place}
use Rattle.go_grammar.specs.declared.kind.Place.TheVariants as place
use Rattle.go_grammar.specs.declared.kind.Sign.{Sign}
use Rattle.go_grammar.specs.Categories.{within, place_of}
use Rattle.go_grammar.specs.Grammar.{rule}
use Rattle.go_grammar.specs.Operators.{operator_level, tighter}
use Rattle.go_grammar.specs.Trees.{Tree, node, Trees, none, more, skip, kind_of}
use Rattle.go_types.specs.Trees.{TypeTree}
use Rattle.go_typed.specs.Trees.{Sort, Label, typed, Typeds, sort_of, form_of}
use Rattle.go_typed.specs.Trees as sort
use Rattle.go_exprs_rules.specs.Indexes.{selector_failing}
use Rattle.go_exprs_rules.specs.Operators.{is_shift, unary_sort}
use Rattle.go_exprs_rules.specs.Scopes.{Scope, Hint, value}
use Rattle.go_exprs_rules.specs.Settling.{Part, all_settled}
use Rattle.go_exprs_rules.specs.Sorts.{Stands, is_unknown, takes_type, own_type}
use Rattle.go_exprs_rules.specs.Tables.{Parts, in_parentheses, is_package, is_type, is_held, selector_parts, bracketed_parts, is_sound, sort_by, built, built_by, built_on, found, own_faults}
use Rattle.go_exprs_rules.specs.Typing.{typing, typings}
use Rattle.clone_window.specs.Masses.{is_hole, is_inside}
use Rattle.clone_window.specs.Masses as masses
use Rattle.go_exprs_variables.specs.Shapes.{IsShaped, AreShaped}
use Rattle.go_exprs_variables.specs.Variables as variables
use Rattle.go_exprs_variables.specs.Variables.{Standin, Standins, StandsIn, ends_at, at_hole, may_be_constant, expresses, is_naming, NameFree, PartsFree, Stays, ProperNode, Proper, AllProper, put_over, put, all_put, put_with, wanted, begun, all_begun, WillFit}
use Rattle.go_exprs_variables.specs.Over.{varies_over}
use Rattle.go_exprs_variables.proofs.Agreeing.{is_name_kind, typing_agrees}
use Rattle.go_exprs_variables.proofs.Induction.{holds, news, PartsFollow, Follows}
use Rattle.go_exprs_variables.proofs.CallWays.{call_both}
use Rattle.go_exprs_variables.proofs.Keys.{operand_unheld}
use Rattle.go_exprs_variables.proofs.Leaves.{name_step}
use Rattle.go_exprs_variables.proofs.LiteralWays.{composite_both, value_both}
use Rattle.go_exprs_variables.proofs.Named.{is_operand, is_named, operand_kind, expression_operand}
use Rattle.go_exprs_variables.proofs.Ready.{Facts, operand_facts, operand_follows, still_follows, named_follows}
use Rattle.go_exprs_variables.proofs.Same.{built_same, found_same}
use Rattle.go_exprs_variables.proofs.Waits.{judged, will_of}
use Rattle.go_exprs_variables.proofs.Ones.{FieldFacts, unary_facts, unary_whole, inner_facts, inner_whole, field_facts, selector_whole}
use Rattle.go_exprs_variables.proofs.Twos.{two_known, plain_fits, plain_whole, plain_values, shift_facts, shift_whole, shift_values}
use Rattle.go_exprs_variables.proofs.BracketSteps.{no_facts, some_facts, Bound, present, index_parts, index_facts, index_whole, slice_facts, slice_whole}
use Rattle.go_exprs_variables.proofs.BinarySteps.{IsPlain}
use Rattle.go_exprs_variables.proofs.Holes.{never_unknown}
use Rattle.go_exprs_variables.proofs.NodeSteps.{stands_made, rule_of}
use Rattle.go_exprs_variables.proofs.Operands.{Ready}
use Rattle.go_exprs_variables.proofs.Trees.{Agrees, retyped_label}
use Rattle.go_exprs_variables.proofs.Compares.{compare_facts, compare_whole}

parens_naming : (h : Hint) → is_naming (in_parentheses h) ≡ false
parens_naming value = refl
parens_naming h = refl

unknown_operand : (z : Stands) → is_package z ≡ true → is_named z ≡ true
unknown_operand sort.Package e = refl
unknown_operand z e = cc

begun_unheld : (w : Standins) (x : Part) → is_held (form_of x) ≡ false → is_held (form_of (begun w false x)) ≡ false
begun_unheld w (typed f i j l ps) e = ap (λ y. is_held (form_of y)) (begun_is e) ∙ by_wanted (wanted w false (typed f i j l ps))
  where
    begun_is : is_held f ≡ false → begun w false (typed f i j l ps) ≡ put_with w false (wanted w false (typed f i j l ps)) (typed f i j l ps)
    begun_is e = ap (λ b. if b then typed f i j (record l { varies = varies_over l.varies (all_begun w false ps) }) (all_begun w false ps) else put_with w false (wanted w false (typed f i j l ps)) (typed f i j l ps)) e

    by_hole : (v : Option Standin) (m : Label TypeTree) (qs : Typeds TypeTree) → is_held (form_of (put_over v f i j m qs)) ≡ false
    by_hole None m qs = e
    by_hole (Some v) m qs = refl

    by_taking : (t : TypeTree) (b : Bool) → is_held (form_of (put w false (if b then typed f i j (retyped_label t l) (all_settled t ps) else typed f i j l ps))) ≡ false
    by_taking t true = by_hole (at_hole w (is_hole false f (retyped_label t l)) i) (retyped_label t l) (all_put w (is_inside false f (retyped_label t l)) (all_settled t ps))
    by_taking t false = by_hole (at_hole w (is_hole false f l) i) l (all_put w (is_inside false f l) ps)

    by_wanted : (o : Option TypeTree) → is_held (form_of (put_with w false o (typed f i j l ps))) ≡ false
    by_wanted None = by_hole (at_hole w (is_hole false f l) i) l (all_put w (is_inside false f l) ps)
    by_wanted (Some t) = by_taking t (takes_type l.sort)

never_true : IsTrue false → ⊥
never_true e = cc

bracket_operand : (k : Kind) → holds k ≡ false → IsTrue (within category.Bracket k) → is_operand k ≡ true
bracket_operand kind.Name n e = refl
bracket_operand kind.Integer n e = refl
bracket_operand kind.Rune n e = refl
bracket_operand kind.Text n e = refl
bracket_operand kind.Parenthesized n e = refl
bracket_operand (kind.Unary o) n e = refl
bracket_operand (kind.Binary o) n e = operand_kind (kind.Binary o) e
bracket_operand kind.Selector n e = refl
bracket_operand kind.Bracketed n e = refl
bracket_operand kind.Call n e = refl
bracket_operand kind.Composite n e = refl
bracket_operand kind.SequenceType n e = refl
bracket_operand kind.FunctionType n e = refl
bracket_operand kind.StructType n e = refl
bracket_operand kind.Bounds n e = cc
bracket_operand kind.BoundsFrom n e = cc
bracket_operand kind.Keyed n e = cc
bracket_operand k n e = cc

-- the parts of a node in place of which no variable stands
proper_part : (w : Standins) (k : Kind) (i j : ℕ) (ps : Trees) → may_be_constant k ≡ false → Proper w (node k i j ps) → AllProper w ps
proper_part w k i j ps e pr = (subst (λ b. ProperNode b w k i ps (AllProper w ps)) (ap (λ c. c && ends_at (w i) j) e) pr).2

-- what the step says of a node
abbrev Step : Standins → Scope → Scope → Hint → Kind → ℕ → ℕ → Parts → Type 0
Step w s t h k i j xs = (found t k h i j (news w xs) ≡ []) × (built t k h i j (news w xs) ≡ begun w false (built s k h i j xs))

-- in the other scope as in this one
across : (w : Standins) (s t : Scope) (h : Hint) (k : Kind) (i j : ℕ) (xs : Parts) → StandsIn w s t → NameFree w k i → Step w s s h k i j xs → Step w s t h k i j xs
across w s t h k i j xs st free step = (found_same w s t st k h i j (news w xs) free ∙ step.0, built_same w s t st k h i j (news w xs) free ∙ step.1)

module _ (w : Standins) (s : Scope) (h : Hint) (i j : ℕ) (p : Place) where
  -- ---- one operand

  unary_follow : (o : Sign) (q : Tree) → IsShaped (category.Expression level.Unary p) q → Proper w q → masses.is_constant (sort_of (typing s h (node (kind.Unary o) i j (more q none)))) ≡ false → own_faults s (kind.Unary o) h i j (Some (typing s value q) ∷ []) ≡ []
      → WillFit s.rights w false (typing s h (node (kind.Unary o) i j (more q none))) → PartsFollow w s (kind.Unary o) h (more q none) [] (more q none)
  unary_follow o q e pr plain f fits =
      let x = typing s value q in
      let facts = unary_facts w s h i j o x f plain fits in
      (operand_follows w s value (category.Expression level.Unary p) q e (expression_operand level.Unary p q e) refl pr facts.known (will_of w s.rights facts.later x facts.waits), tt)

  type_asks : (o : Sign) (z : Stands) → is_unknown (unary_sort s.rights o z) ≡ false → is_type z ≡ false
  type_asks o (sort.IsType t) e = cc
  type_asks o z e = refl

  unary_step : (o : Sign) (q : Tree) → IsShaped (category.Expression level.Unary p) q → Proper w q → masses.is_constant (sort_of (typing s h (node (kind.Unary o) i j (more q none)))) ≡ false → own_faults s (kind.Unary o) h i j (Some (typing s value q) ∷ []) ≡ []
      → WillFit s.rights w false (typing s h (node (kind.Unary o) i j (more q none))) → Step w s s h (kind.Unary o) i j (Some (typing s value q) ∷ [])
  unary_step o q e pr plain f fits =
      let x = typing s value q in
      let facts = unary_facts w s h i j o x f plain fits in
      let all = operand_facts w s value (category.Expression level.Unary p) q e (expression_operand level.Unary p q e) pr in
      unary_whole w s h i j o x (all.ready facts.known (type_asks o (sort_of x) facts.value.known)) f facts

  inner_follow : (q : Tree) → IsShaped (category.Expression level.Either place.Free) q → Proper w q → masses.is_constant (sort_of (typing s h (node kind.Parenthesized i j (more q none)))) ≡ false → own_faults s kind.Parenthesized h i j (Some (typing s (in_parentheses h) q) ∷ []) ≡ []
      → WillFit s.rights w false (typing s h (node kind.Parenthesized i j (more q none))) → PartsFollow w s kind.Parenthesized h (more q none) [] (more q none)
  inner_follow q e pr plain f fits =
      let g = in_parentheses h in
      let x = typing s g q in
      let facts = inner_facts w s h i j x f plain fits in
      (operand_follows w s g (category.Expression level.Either place.Free) q e (expression_operand level.Either place.Free q e) (parens_naming h) pr facts.known (will_of w s.rights facts.later x facts.waits), tt)

  named_value : (z : Stands) → is_named z ≡ false → is_type z ≡ false
  named_value (sort.IsType t) e = cc
  named_value z e = refl

  inner_step : (q : Tree) → IsShaped (category.Expression level.Either place.Free) q → Proper w q → masses.is_constant (sort_of (typing s h (node kind.Parenthesized i j (more q none)))) ≡ false → is_named (sort_of (typing s h (node kind.Parenthesized i j (more q none)))) ≡ false
      → own_faults s kind.Parenthesized h i j (Some (typing s (in_parentheses h) q) ∷ []) ≡ [] → WillFit s.rights w false (typing s h (node kind.Parenthesized i j (more q none))) → Step w s s h kind.Parenthesized i j (Some (typing s (in_parentheses h) q) ∷ [])
  inner_step q e pr plain unnamed f fits =
      let g = in_parentheses h in
      let x = typing s g q in
      let facts = inner_facts w s h i j x f plain fits in
      let all = operand_facts w s g (category.Expression level.Either place.Free) q e (expression_operand level.Either place.Free q e) pr in
      let is = stands_made s kind.Parenthesized h i j (Some x ∷ []) (judged w s h i j kind.Parenthesized (Some x ∷ []) refl fits) f in
      inner_whole w s h i j x (all.ready facts.known (named_value (sort_of x) (ap (λ z. is_named (sort_of z)) (sym is) ∙ unnamed))) f facts

  -- ---- selectors

  fields : (q : Tree) → IsShaped (category.Expression level.Primary p) q → Proper w q → Agrees (typing s value q)
  fields q e pr = typing_agrees s value (category.Expression level.Primary p) q e

  field_value : (z : Stands) → is_some (own_type z) ≡ true → is_type z ≡ false
  field_value (sort.Value t) e = refl
  field_value (sort.Constant t c) e = refl
  field_value z e = cc

  selector_follow : (q : Tree) (b : Bool) → is_package (sort_of (typing s value q)) ≡ b → IsShaped (category.Expression level.Primary p) q → Stays w q → Proper w q → own_faults s kind.Selector h i j (selector_parts (Some (typing s value q) ∷ [])) ≡ []
      → WillFit s.rights w false (built_on s kind.Selector h i j (selector_parts (Some (typing s value q) ∷ []))) → PartsFollow w s kind.Selector h (more q none) [] (more q none)
  selector_follow q true is e st pr f fits =
      (still_follows w s value (category.Expression level.Primary p) q e (named_follows w s value (category.Expression level.Primary p) q e (expression_operand level.Primary p q e) pr st (unknown_operand (sort_of (typing s value q)) is)), tt)
  selector_follow q false is e st pr f fits =
      let x = typing s value q in
      let laid : selector_parts (Some x ∷ []) ≡ Some x ∷ [] = ap (λ c. if c then [] else Some x ∷ []) is in
      let facts = field_facts w s h i j x is (ap (own_faults s kind.Selector h i j) (sym laid) ∙ f) (subst (λ ys. WillFit s.rights w false (built_on s kind.Selector h i j ys)) laid fits) in
      (operand_follows w s value (category.Expression level.Primary p) q e (expression_operand level.Primary p q e) refl pr facts.known (variables.has facts.closed facts.fits), tt)

  closed_value : (z : Stands) → takes_type z ≡ false → is_unknown z ≡ false → selector_failing s.rights i j (s.texts (j - 1)) z ≡ [] → is_package z ≡ false → is_type z ≡ false
  closed_value (sort.IsType t) e k f m = cc
  closed_value z e k f m = refl

  selector_step : (q : Tree) → IsShaped (category.Expression level.Primary p) q → Proper w q → own_faults s kind.Selector h i j (selector_parts (Some (typing s value q) ∷ [])) ≡ []
      → WillFit s.rights w false (built_on s kind.Selector h i j (selector_parts (Some (typing s value q) ∷ []))) → Step w s s h kind.Selector i j (Some (typing s value q) ∷ [])
  selector_step q e pr f fits =
      let x = typing s value q in
      selector_whole w s h i j x (is_package (sort_of x)) refl (fields q e pr) (λ is. on_value x (operand_facts w s value (category.Expression level.Primary p) q e (expression_operand level.Primary p q e) pr) is f fits) f
    where
      on_value : (x : Part) → Facts w s.rights x → is_package (sort_of x) ≡ false → own_faults s kind.Selector h i j (selector_parts (Some x ∷ [])) ≡ [] → WillFit s.rights w false (built_on s kind.Selector h i j (selector_parts (Some x ∷ []))) → Ready s.rights w false x × FieldFacts w s h i j x
      on_value x all is f fits =
          let laid : selector_parts (Some x ∷ []) ≡ Some x ∷ [] = ap (λ c. if c then [] else Some x ∷ []) is in
          let old = ap (own_faults s kind.Selector h i j) (sym laid) ∙ f in
          let will = subst (λ ys. WillFit s.rights w false (built_on s kind.Selector h i j ys)) laid fits in
          let facts = field_facts w s h i j x is old will in
          let rule = rule_of s kind.Selector h i j (Some x ∷ []) (judged w s h i j kind.Selector (Some x ∷ []) refl will) old in
          (all.ready facts.known (closed_value (sort_of x) facts.taken facts.known rule is), facts)

  -- ---- two operands

  abbrev binary_shapes : Operator → Tree → Tree → Type 0
  binary_shapes o a b = IsShaped (category.Expression (operator_level o) p) a × IsShaped (category.Expression (tighter (operator_level o)) p) b

  abbrev two : Tree → Tree → Parts
  two a b = Some (typing s value a) ∷ Some (typing s value b) ∷ []

  both_follow : (o : Operator) (a b : Tree) → binary_shapes o a b → Proper w a → Proper w b → is_unknown (sort_of (typing s value a)) ≡ false → is_unknown (sort_of (typing s value b)) ≡ false → WillFit s.rights w false (typing s value a) → WillFit s.rights w false (typing s value b)
      → PartsFollow w s (kind.Binary o) h (more a (more b none)) [] (more a (more b none))
  both_follow o a b e pa pb ka kb fa fb = (
    operand_follows w s value (category.Expression (operator_level o) p) a e.0 (expression_operand (operator_level o) p a e.0) refl pa ka fa,
    (operand_follows w s value (category.Expression (tighter (operator_level o)) p) b e.1 (expression_operand (tighter (operator_level o)) p b e.1) refl pb kb fb, tt),
  )

  left_facts : (o : Operator) (a b : Tree) → binary_shapes o a b → Proper w a → Facts w s.rights (typing s value a)
  left_facts o a b e pa = operand_facts w s value (category.Expression (operator_level o) p) a e.0 (expression_operand (operator_level o) p a e.0) pa

  right_facts : (o : Operator) (a b : Tree) → binary_shapes o a b → Proper w b → Facts w s.rights (typing s value b)
  right_facts o a b e pb = operand_facts w s value (category.Expression (tighter (operator_level o)) p) b e.1 (expression_operand (tighter (operator_level o)) p b e.1) pb

  -- a node with two operands, that isn't constant, in which no rule fails, and that fits
  abbrev AtTwo : Operator → Tree → Tree → Type 0
  AtTwo o a b = (own_faults s (kind.Binary o) h i j (two a b) ≡ []) × (masses.is_constant (sort_of (built s (kind.Binary o) h i j (two a b))) ≡ false) × WillFit s.rights w false (built s (kind.Binary o) h i j (two a b))

  abbrev BothWays : Operator → Tree → Tree → Type 0
  BothWays o a b = PartsFollow w s (kind.Binary o) h (more a (more b none)) [] (more a (more b none)) × Step w s s h (kind.Binary o) i j (two a b)

  plain_both : (o : Operator) → IsPlain o → (a b : Tree) → binary_shapes o a b → Proper w a → Proper w b → AtTwo o a b → BothWays o a b
  plain_both o plain a b e pa pb at =
      let x = typing s value a in
      let y = typing s value b in
      let js = judged w s h i j (kind.Binary o) (two a b) refl at.2 in
      let known = two_known w s h i j x y js in
      let values = plain_values w s h i j o plain x y (rule_of s (kind.Binary o) h i j (two a b) js at.0) in
      let rx = (left_facts o a b e pa).ready known.left values.0 in
      let ry = (right_facts o a b e pb).ready known.right values.1 in
      let fits = plain_fits w s h i j o plain x y rx ry at.0 at.1 at.2 in
      (both_follow o a b e pa pb known.left known.right fits.0 fits.1, plain_whole w s h i j o plain x y rx ry at.0 at.1 at.2)

  shift_both : (c : Arithmetic) (is : is_shift (operator.Compute c) ≡ true) (a b : Tree) → binary_shapes (operator.Compute c) a b → Proper w a → Proper w b → AtTwo (operator.Compute c) a b → BothWays (operator.Compute c) a b
  shift_both c is a b e pa pb at =
      let o = operator.Compute c in
      let x = typing s value a in
      let y = typing s value b in
      let js = judged w s h i j (kind.Binary o) (two a b) refl at.2 in
      let known = two_known w s h i j x y js in
      let values = shift_values w s h i j c is x y (rule_of s (kind.Binary o) h i j (two a b) js at.0) in
      let rx = (left_facts o a b e pa).ready known.left values.0 in
      let ry = (right_facts o a b e pb).ready known.right values.1 in
      let facts = shift_facts w s h i j c is x y at.0 at.1 at.2 in
      (both_follow o a b e pa pb known.left known.right (will_of w s.rights facts.later x facts.waits) facts.count, shift_whole w s h i j c is x y rx ry at.0 facts)

  compare_both : (c : Comparison) (a b : Tree) → binary_shapes (operator.Compare c) a b → Proper w a → Proper w b → AtTwo (operator.Compare c) a b → BothWays (operator.Compare c) a b
  compare_both c a b e pa pb at =
      let o = operator.Compare c in
      let x = typing s value a in
      let y = typing s value b in
      let js = judged w s h i j (kind.Binary o) (two a b) refl at.2 in
      let known = two_known w s h i j x y js in
      let facts = compare_facts w s h i j c x y (left_facts o a b e pa) (right_facts o a b e pb) at.0 at.1 at.2 in
      (both_follow o a b e pa pb known.left known.right facts.left.fits facts.right.fits, compare_whole w s h i j c x y at.0 at.1 at.2 facts)

  binary_both : (o : Operator) (a b : Tree) → binary_shapes o a b → Proper w a → Proper w b → AtTwo o a b → BothWays o a b
  binary_both operator.Either a b e pa pb at = plain_both operator.Either (refl, refl) a b e pa pb at
  binary_both operator.Both a b e pa pb at = plain_both operator.Both (refl, refl) a b e pa pb at
  binary_both (operator.Compare c) a b e pa pb at = compare_both c a b e pa pb at
  binary_both (operator.Compute c) a b e pa pb at = by_shift (is_shift (operator.Compute c)) refl
    where
      by_shift : (d : Bool) → is_shift (operator.Compute c) ≡ d → BothWays (operator.Compute c) a b
      by_shift true is = shift_both c is a b e pa pb at
      by_shift false is = plain_both (operator.Compute c) (refl, is) a b e pa pb at

  -- ---- what stands in brackets

  abbrev bracket : Tree → Tree → Trees
  bracket a b = more a (more b none)

  abbrev At : Tree → Tree → Type 0
  At a b = (found s kind.Bracketed h i j (two a b) ≡ []) × WillFit s.rights w false (built s kind.Bracketed h i j (two a b))

  abbrev Bracketed : Tree → Tree → Type 0
  Bracketed a b = PartsFollow w s kind.Bracketed h (bracket a b) [] (bracket a b) × Step w s s h kind.Bracketed i j (two a b)

  abbrev AnyShape : Tree → Type 0
  AnyShape q = IsShaped (category.Expression level.Either place.Free) q

  primary_follows : (a : Tree) → IsShaped (category.Expression level.Primary p) a → Proper w a → is_unknown (sort_of (typing s value a)) ≡ false → WillFit s.rights w false (typing s value a) → Follows w s value a
  primary_follows a e pr known fits = operand_follows w s value (category.Expression level.Primary p) a e (expression_operand level.Primary p a e) refl pr known fits

  any_follows : (q : Tree) → AnyShape q → Proper w q → is_unknown (sort_of (typing s value q)) ≡ false → WillFit s.rights w false (typing s value q) → Follows w s value q
  any_follows q e pr known fits = operand_follows w s value (category.Expression level.Either place.Free) q e (expression_operand level.Either place.Free q e) refl pr known fits

  primary_facts : (a : Tree) → IsShaped (category.Expression level.Primary p) a → Proper w a → Facts w s.rights (typing s value a)
  primary_facts a e pr = operand_facts w s value (category.Expression level.Primary p) a e (expression_operand level.Primary p a e) pr

  any_facts : (q : Tree) → AnyShape q → Proper w q → Facts w s.rights (typing s value q)
  any_facts q e pr = operand_facts w s value (category.Expression level.Either place.Free) q e (expression_operand level.Either place.Free q e) pr

  bound_fits : (x : Part) → Bound w s h i j (Some x) → (is_unknown (sort_of x) ≡ false) × WillFit s.rights w false x
  bound_fits x (present x' g) = (g.ready.known, g.fits)

  -- `[:]`, and one bound behind or in front
  none_both : (a : Tree) (m n : ℕ) → IsShaped (category.Expression level.Primary p) a → IsShaped category.Bracket (node kind.Bounds m n (skip none)) → Proper w a → At a (node kind.Bounds m n (skip none)) → Bracketed a (node kind.Bounds m n (skip none))
  none_both a m n e shape pa at =
      let x = typing s value a in
      let facts = slice_facts w s h i j x None None (primary_facts a e pa) no_facts no_facts at.0 at.1 in
      ((primary_follows a e pa facts.first.ready.known facts.first.fits, (((category.Bracket, shape), inr (inr (refl, tt))), tt)), slice_whole w s h i j x None None at.0 at.1 facts)

  high_both : (a q : Tree) (m n : ℕ) → IsShaped (category.Expression level.Primary p) a → AnyShape q → IsShaped category.Bracket (node kind.Bounds m n (more q none)) → Proper w a → Proper w q → At a (node kind.Bounds m n (more q none)) → Bracketed a (node kind.Bounds m n (more q none))
  high_both a q m n e eq shape pa pq at =
      let x = typing s value a in
      let z = typing s value q in
      let facts = slice_facts w s h i j x None (Some z) (primary_facts a e pa) no_facts (some_facts z (any_facts q eq pq)) at.0 at.1 in
      let bound = bound_fits z facts.high in
      ((primary_follows a e pa facts.first.ready.known facts.first.fits, (((category.Bracket, shape), inr (inr (refl, (any_follows q eq pq bound.0 bound.1, tt)))), tt)), slice_whole w s h i j x None (Some z) at.0 at.1 facts)

  low_both : (a q : Tree) (m n : ℕ) → IsShaped (category.Expression level.Primary p) a → AnyShape q → IsShaped category.Bracket (node kind.BoundsFrom m n (more q (skip none))) → Proper w a → Proper w q → At a (node kind.BoundsFrom m n (more q (skip none))) → Bracketed a (node kind.BoundsFrom m n (more q (skip none)))
  low_both a q m n e eq shape pa pq at =
      let x = typing s value a in
      let y = typing s value q in
      let facts = slice_facts w s h i j x (Some y) None (primary_facts a e pa) (some_facts y (any_facts q eq pq)) no_facts at.0 at.1 in
      let bound = bound_fits y facts.low in
      ((primary_follows a e pa facts.first.ready.known facts.first.fits, (((category.Bracket, shape), inr (inr (refl, (any_follows q eq pq bound.0 bound.1, tt)))), tt)), slice_whole w s h i j x (Some y) None at.0 at.1 facts)

  bounds_both : (a q r : Tree) (m n : ℕ) → IsShaped (category.Expression level.Primary p) a → AnyShape q → AnyShape r → IsShaped category.Bracket (node kind.BoundsFrom m n (more q (more r none))) → Proper w a → Proper w q → Proper w r → At a (node kind.BoundsFrom m n (more q (more r none)))
      → Bracketed a (node kind.BoundsFrom m n (more q (more r none)))
  bounds_both a q r m n e eq er shape pa pq pr at =
      let x = typing s value a in
      let y = typing s value q in
      let z = typing s value r in
      let facts = slice_facts w s h i j x (Some y) (Some z) (primary_facts a e pa) (some_facts y (any_facts q eq pq)) (some_facts z (any_facts r er pr)) at.0 at.1 in
      let low = bound_fits y facts.low in
      let high = bound_fits z facts.high in (
        (primary_follows a e pa facts.first.ready.known facts.first.fits, (((category.Bracket, shape), inr (inr (refl, (any_follows q eq pq low.0 low.1, (any_follows r er pr high.0 high.1, tt))))), tt)),
        slice_whole w s h i j x (Some y) (Some z) at.0 at.1 facts,
      )

  -- an index
  index_both : (a b : Tree) → IsShaped (category.Expression level.Primary p) a → IsShaped category.Bracket b → is_operand (kind_of b) ≡ true → Proper w a → Proper w b → At a b → Bracketed a b
  index_both a b e eb o pa pb at =
      let x = typing s value a in
      let y = typing s value b in
      let laid : bracketed_parts (two a b) ≡ two a b = index_parts w s h i j x y (operand_unheld w s value category.Bracket b eb o) in
      let found_old : own_faults s kind.Bracketed h i j (two a b) ≡ [] = ap (own_faults s kind.Bracketed h i j) (sym laid) ∙ at.0 in
      let fits = subst (λ ys. WillFit s.rights w false (built_on s kind.Bracketed h i j ys)) laid at.1 in
      let facts = index_facts w s h i j x y (primary_facts a e pa) (operand_facts w s value category.Bracket b eb o pb) found_old fits in
      let step = index_whole w s h i j x y found_old fits facts in
      let now : bracketed_parts (Some (begun w false x) ∷ Some (begun w false y) ∷ []) ≡ Some (begun w false x) ∷ Some (begun w false y) ∷ [] = index_parts w s h i j (begun w false x) (begun w false y) (begun_unheld w y (operand_unheld w s value category.Bracket b eb o)) in (
        (primary_follows a e pa facts.first.ready.known facts.first.fits, (operand_follows w s value category.Bracket b eb o refl pb facts.second.ready.known facts.second.fits, tt)),
        (ap (own_faults s kind.Bracketed h i j) now ∙ step.0, ap (built_on s kind.Bracketed h i j) now ∙ step.1 ∙ ap (λ ys. begun w false (built_on s kind.Bracketed h i j ys)) (sym laid)),
      )

  bracket_both : (a b : Tree) → IsShaped (category.Expression level.Primary p) a → IsShaped category.Bracket b → Proper w a → Proper w b → At a b → Bracketed a b
  bracket_both a (node kind.Bounds m n none) e eb pa pb at = elim eb.1 [ ]
  bracket_both a (node kind.Bounds m n (skip none)) e eb pa pb at = none_both a m n e eb pa at
  bracket_both a (node kind.Bounds m n (skip (more q qs))) e eb pa pb at = elim eb.1 [ ]
  bracket_both a (node kind.Bounds m n (skip (skip qs))) e eb pa pb at = elim eb.1 [ ]
  bracket_both a (node kind.Bounds m n (more q none)) e eb pa pb at = high_both a q m n e eb.1.0 eb pa (proper_part w kind.Bounds m n (more q none) refl pb).0 at
  bracket_both a (node kind.Bounds m n (more q (more r qs))) e eb pa pb at = elim eb.1.1 [ ]
  bracket_both a (node kind.Bounds m n (more q (skip qs))) e eb pa pb at = elim eb.1.1 [ ]
  bracket_both a (node kind.BoundsFrom m n none) e eb pa pb at = elim eb.1 [ ]
  bracket_both a (node kind.BoundsFrom m n (skip qs)) e eb pa pb at = elim eb.1 [ ]
  bracket_both a (node kind.BoundsFrom m n (more q none)) e eb pa pb at = elim eb.1.1 [ ]
  bracket_both a (node kind.BoundsFrom m n (more q (skip none))) e eb pa pb at = low_both a q m n e eb.1.0 eb pa (proper_part w kind.BoundsFrom m n (more q (skip none)) refl pb).0 at
  bracket_both a (node kind.BoundsFrom m n (more q (skip (more r qs)))) e eb pa pb at = elim eb.1.1 [ ]
  bracket_both a (node kind.BoundsFrom m n (more q (skip (skip qs)))) e eb pa pb at = elim eb.1.1 [ ]
  bracket_both a (node kind.BoundsFrom m n (more q (more r none))) e eb pa pb at =
      let inner = proper_part w kind.BoundsFrom m n (more q (more r none)) refl pb in
      bounds_both a q r m n e eb.1.0 eb.1.1.0 eb pa inner.0 inner.1.0 at
  bracket_both a (node kind.BoundsFrom m n (more q (more r (more t qs)))) e eb pa pb at = elim eb.1.1.1 [ ]
  bracket_both a (node kind.BoundsFrom m n (more q (more r (skip qs)))) e eb pa pb at = elim eb.1.1.1 [ ]
  bracket_both a (node kind.Keyed m n qs) e eb pa pb at = absurd (never_true eb.0)
  bracket_both a (node k m n qs) e eb pa pb at = index_both a (node k m n qs) e eb (bracket_operand k refl eb.0) pa pb at

-- ---- all kinds

module _ (w : Standins) where
  no_constant_literal : {X : Type 0} (s : Scope) (h : Hint) (k : Kind) (i j : ℕ) (ys : Parts) (b : Bool) → masses.is_constant (sort_by s k h i j ys) ≡ true → masses.is_constant (sort_of (built_by s k h i j ys b)) ≡ false → WillFit s.rights w false (built_by s k h i j ys b) → X
  no_constant_literal s h k i j ys true e f fits = let both : true ≡ false = sym e ∙ f in cc
  no_constant_literal s h k i j ys false e f fits = absurd (never_unknown s.rights w (built_by s k h i j ys false) fits refl)

  abbrev Ways : Scope → Hint → Kind → ℕ → ℕ → Trees → Type 0
  Ways s h k i j ps = PartsFollow w s k h ps [] ps × Step w s s h k i j (typings s k h ps [] ps)

  -- from a node that fits to its parts, and the step in its scope; names have none
  ways : (s : Scope) (h : Hint) (p : Place) (k : Kind) (i j : ℕ) (ps : Trees) → AreShaped (rule p k) ps → expresses k ≡ true → is_name_kind k ≡ false → PartsFree w k ps → AllProper w ps → masses.is_constant (sort_of (typing s h (node k i j ps))) ≡ false
      → is_named (sort_of (typing s h (node k i j ps))) ≡ false → found s k h i j (typings s k h ps [] ps) ≡ [] → WillFit s.rights w false (typing s h (node k i j ps)) → Ways s h k i j ps
  ways s h p kind.Name i j ps e x m free pr plain unnamed f fits = cc
  ways s h p kind.Integer i j ps e x m free pr plain unnamed f fits = let ys = typings s kind.Integer h ps [] ps in no_constant_literal s h kind.Integer i j ys (is_sound kind.Integer ys (own_faults s kind.Integer h i j ys)) refl plain fits
  ways s h p kind.Rune i j ps e x m free pr plain unnamed f fits = let ys = typings s kind.Rune h ps [] ps in no_constant_literal s h kind.Rune i j ys (is_sound kind.Rune ys (own_faults s kind.Rune h i j ys)) refl plain fits
  ways s h p kind.Text i j ps e x m free pr plain unnamed f fits = let ys = typings s kind.Text h ps [] ps in no_constant_literal s h kind.Text i j ys (is_sound kind.Text ys (own_faults s kind.Text h i j ys)) refl plain fits
  ways s h p kind.Parenthesized i j none e x m free pr plain unnamed f fits = elim e [ ]
  ways s h p kind.Parenthesized i j (skip qs) e x m free pr plain unnamed f fits = elim e [ ]
  ways s h p kind.Parenthesized i j (more q (more r qs)) e x m free pr plain unnamed f fits = elim e.1 [ ]
  ways s h p kind.Parenthesized i j (more q (skip qs)) e x m free pr plain unnamed f fits = elim e.1 [ ]
  ways s h p kind.Parenthesized i j (more q none) e x m free pr plain unnamed f fits = (inner_follow w s h i j p q e.0 pr.0 plain f fits, inner_step w s h i j p q e.0 pr.0 plain unnamed f fits)
  ways s h p (kind.Unary o) i j none e x m free pr plain unnamed f fits = elim e [ ]
  ways s h p (kind.Unary o) i j (skip qs) e x m free pr plain unnamed f fits = elim e [ ]
  ways s h p (kind.Unary o) i j (more q (more r qs)) e x m free pr plain unnamed f fits = elim e.1 [ ]
  ways s h p (kind.Unary o) i j (more q (skip qs)) e x m free pr plain unnamed f fits = elim e.1 [ ]
  ways s h p (kind.Unary o) i j (more q none) e x m free pr plain unnamed f fits = (unary_follow w s h i j p o q e.0 pr.0 plain f fits, unary_step w s h i j p o q e.0 pr.0 plain f fits)
  ways s h p (kind.Binary o) i j none e x m free pr plain unnamed f fits = elim e [ ]
  ways s h p (kind.Binary o) i j (skip qs) e x m free pr plain unnamed f fits = elim e [ ]
  ways s h p (kind.Binary o) i j (more a none) e x m free pr plain unnamed f fits = elim e.1 [ ]
  ways s h p (kind.Binary o) i j (more a (skip qs)) e x m free pr plain unnamed f fits = elim e.1 [ ]
  ways s h p (kind.Binary o) i j (more a (more b (more q qs))) e x m free pr plain unnamed f fits = elim e.1.1 [ ]
  ways s h p (kind.Binary o) i j (more a (more b (skip qs))) e x m free pr plain unnamed f fits = elim e.1.1 [ ]
  ways s h p (kind.Binary o) i j (more a (more b none)) e x m free pr plain unnamed f fits = binary_both w s h i j p o a b (e.0, e.1.0) pr.0 pr.1.0 (f, plain, fits)
  ways s h p kind.Selector i j none e x m free pr plain unnamed f fits = elim e [ ]
  ways s h p kind.Selector i j (skip qs) e x m free pr plain unnamed f fits = elim e [ ]
  ways s h p kind.Selector i j (more q (more r qs)) e x m free pr plain unnamed f fits = elim e.1 [ ]
  ways s h p kind.Selector i j (more q (skip qs)) e x m free pr plain unnamed f fits = elim e.1 [ ]
  ways s h p kind.Selector i j (more q none) e x m free pr plain unnamed f fits =
      (selector_follow w s h i j p q (is_package (sort_of (typing s value q))) refl e.0 free pr.0 f fits, selector_step w s h i j p q e.0 pr.0 f fits)
  ways s h p kind.Bracketed i j none e x m free pr plain unnamed f fits = elim e [ ]
  ways s h p kind.Bracketed i j (skip qs) e x m free pr plain unnamed f fits = elim e [ ]
  ways s h p kind.Bracketed i j (more a none) e x m free pr plain unnamed f fits = elim e.1 [ ]
  ways s h p kind.Bracketed i j (more a (skip qs)) e x m free pr plain unnamed f fits = elim e.1 [ ]
  ways s h p kind.Bracketed i j (more a (more b (more q qs))) e x m free pr plain unnamed f fits = elim e.1.1 [ ]
  ways s h p kind.Bracketed i j (more a (more b (skip qs))) e x m free pr plain unnamed f fits = elim e.1.1 [ ]
  ways s h p kind.Bracketed i j (more a (more b none)) e x m free pr plain unnamed f fits = bracket_both w s h i j p a b e.0 e.1.0 pr.0 pr.1.0 (f, fits)
  ways s h p kind.Call i j ps e x m free pr plain unnamed f fits = call_both w s h i j p ps e pr plain f fits
  ways s h p kind.Composite i j ps e x m free pr plain unnamed f fits = composite_both w s h i j p ps e pr f fits
  ways s h p kind.LiteralValue i j ps e x m free pr plain unnamed f fits = value_both w s h i j p ps e pr f fits
  ways s h p k i j ps e x m free pr plain unnamed f fits = cc

  other_free : (k : Kind) (i : ℕ) → is_name_kind k ≡ false → NameFree w k i
  other_free kind.Name i e = cc
  other_free k i e = tt

  pub descends : (s : Scope) (h : Hint) (c : Category) (k : Kind) (i j : ℕ) (ps : Trees) → IsShaped c (node k i j ps) → expresses k ≡ true → PartsFree w k ps → AllProper w ps → masses.is_constant (sort_of (typing s h (node k i j ps))) ≡ false
      → is_named (sort_of (typing s h (node k i j ps))) ≡ false → found s k h i j (typings s k h ps [] ps) ≡ [] → WillFit s.rights w false (typing s h (node k i j ps)) → PartsFollow w s k h ps [] ps
  descends s h c k i j ps e x free pr plain unnamed f fits = by_name (is_name_kind k) refl
    where
      name_parts : (k : Kind) (ps : Trees) → is_name_kind k ≡ true → AreShaped (rule (place_of c) k) ps → PartsFollow w s k h ps [] ps
      name_parts kind.Name none m e = tt
      name_parts kind.Name (more q qs) m e = elim e [ ]
      name_parts kind.Name (skip qs) m e = elim e [ ]
      name_parts k ps m e = cc

      by_name : (b : Bool) → is_name_kind k ≡ b → PartsFollow w s k h ps [] ps
      by_name true m = name_parts k ps m e.1
      by_name false m = (ways s h (place_of c) k i j ps e.1 x m free pr plain unnamed f fits).0

  name_at : (s t : Scope) (h : Hint) (p : Place) (k : Kind) (i j : ℕ) (ps : Trees) → is_name_kind k ≡ true → StandsIn w s t → AreShaped (rule p k) ps → is_naming h ≡ false → NameFree w k i → masses.is_constant (sort_of (typing s h (node k i j ps))) ≡ false → found s k h i j (typings s k h ps [] ps) ≡ []
      → Step w s t h k i j (typings s k h ps [] ps)
  name_at s t h p kind.Name i j none m st e naming free plain f = name_step w s t st i free h j false naming f plain
  name_at s t h p kind.Name i j (more q qs) m st e naming free plain f = elim e [ ]
  name_at s t h p kind.Name i j (skip qs) m st e naming free plain f = elim e [ ]
  name_at s t h p k i j ps m st e naming free plain f = cc

  pub step : (s t : Scope) (h : Hint) (c : Category) (k : Kind) (i j : ℕ) (ps : Trees) → StandsIn w s t → IsShaped c (node k i j ps) → expresses k ≡ true → is_naming h ≡ false → NameFree w k i → PartsFree w k ps → AllProper w ps → masses.is_constant (sort_of (typing s h (node k i j ps))) ≡ false
      → is_named (sort_of (typing s h (node k i j ps))) ≡ false → found s k h i j (typings s k h ps [] ps) ≡ [] → WillFit s.rights w false (typing s h (node k i j ps)) → Step w s t h k i j (typings s k h ps [] ps)
  step s t h c k i j ps st e x naming name free pr plain unnamed f fits = by_name (is_name_kind k) refl
    where
      by_name : (b : Bool) → is_name_kind k ≡ b → Step w s t h k i j (typings s k h ps [] ps)
      by_name true m = name_at s t h (place_of c) k i j ps m st e.1 naming name plain f
      by_name false m = across w s t h k i j (typings s k h ps [] ps) st name (ways s h (place_of c) k i j ps e.1 x m free pr plain unnamed f fits).1
