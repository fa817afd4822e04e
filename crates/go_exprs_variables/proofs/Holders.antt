-- The step of the induction at nodes that only hold parts: bounds, and elements with keys.
use Rattle.std.proofs.Common.{◌≡◌, ◌∙◌, inl, inr, ℕ, Bool, true, false, List, [], ◌∷◌, ◌++◌, Some, None, refl, sym, ap, subst}
use Rattle.std.specs.Prelude.{◌||◌, if◌then◌else◌}
use Rattle.std.specs.List.{list_any}
use Rattle.go_grammar.specs.declared.kind.Category.{Category}
use Rattle.go_grammar.specs.declared.kind.Category.TheVariants as category
use Rattle.go_grammar.specs.declared.kind.Kind.{Kind}
use Rattle.go_grammar.specs.declared.kind.Kind.TheVariants as kind
use Rattle.go_grammar.specs.Trees.{Tree, node, Trees, none, more, skip}
use Rattle.go_types.specs.Relations.{Rights}
use Rattle.go_types.specs.Trees.{TypeTree}
use Rattle.go_typed.specs.declared.form.Form.TheVariants as form
use Rattle.go_typed.specs.Trees.{typed, Typeds, sort_of, label_of, row}
use Rattle.go_typed.specs.Trees as sort
use Rattle.go_exprs_rules.specs.declared.fault.TypeFault.{TypeFault}
use Rattle.go_exprs_rules.specs.Scopes.{Scope, Hint, free}
use Rattle.go_exprs_rules.specs.Settling.{Part}
use Rattle.go_exprs_rules.specs.Tables.{Parts, found, built, made, is_judged, calls_in, varies_in, part_scope}
use Rattle.go_exprs_rules.specs.Typing.{typing, typings}
use Rattle.go_exprs_variables.specs.Over.{any_varies, varies_over}
use Rattle.go_exprs_variables.specs.Shapes.{IsShaped}
use Rattle.go_exprs_variables.specs.Variables.{Standins, StandsIn, begun, all_begun}
use Rattle.go_exprs_variables.proofs.Agreeing.{typing_agrees}
use Rattle.go_exprs_variables.proofs.Away.{begun_nothing}
use Rattle.go_exprs_variables.proofs.Induction.{walks, holds, news, told, Follows, PartsFollow}
use Rattle.go_exprs_variables.proofs.Keys.{operand_unheld, value_operand, key_step, key_quiet}
use Rattle.go_exprs_variables.proofs.Operands.{calls_kept}
use Rattle.go_exprs_variables.proofs.Ready.{ready_part}
use Rattle.go_exprs_variables.proofs.Same.{built_same, found_same}
use Rattle.go_exprs_variables.proofs.Standing.{part_of, behind, typings_are}
use Rattle.go_exprs_variables.proofs.Waits.{known_sort}

abbrev is_bounds : Kind → Bool
is_bounds kind.Bounds = true
is_bounds kind.BoundsFrom = true
is_bounds k = false

module _ (rights : Rights) (w : Standins) where
  row_begun : (ys : Parts) → row (news w ys) ≡ all_begun w false (row ys)
  row_begun [] = refl
  row_begun (Some x ∷ ys) = ap (sort.more (begun w false x)) (row_begun ys)
  row_begun (None ∷ ys) = ap sort.skip (row_begun ys)

  -- all parts have calls as they had
  pub data Quiet : Parts → Type 0 where
    no_part : Quiet []
    left_out : (ys : Parts) → Quiet ys → Quiet (None ∷ ys)
    a_part : (x : Part) (ys : Parts) → (label_of (begun w false x)).calls ≡ (label_of x).calls → Quiet ys → Quiet (Some x ∷ ys)

  calls_same : (ys : Parts) → Quiet ys → list_any calls_in (news w ys) ≡ list_any calls_in ys
  calls_same [] q = refl
  calls_same (None ∷ ys) (left_out zs q) = calls_same ys q
  calls_same (Some x ∷ ys) (a_part y zs e q) = ap (λ b. b || list_any calls_in (news w ys)) e ∙ ap (λ b. (label_of x).calls || b) (calls_same ys q)

  varies_more : (x : Part) (qs : Typeds TypeTree) → any_varies (sort.more x qs) ≡ ((label_of x).varies || any_varies qs)
  varies_more (typed f i j l ps) qs = refl

  varies_row : (ys : Parts) → list_any varies_in ys ≡ any_varies (row ys)
  varies_row [] = refl
  varies_row (None ∷ ys) = varies_row ys
  varies_row (Some x ∷ ys) = ap (λ b. (label_of x).varies || b) (varies_row ys) ∙ sym (varies_more x (row ys))

  varies_is : (ys : Parts) → list_any varies_in (news w ys) ≡ varies_over (list_any varies_in ys) (row (news w ys))
  varies_is [] = refl
  varies_is (None ∷ ys) = varies_row (news w (None ∷ ys))
  varies_is (Some x ∷ ys) = varies_row (news w (Some x ∷ ys))

  held_by : (k : Kind) (i j : ℕ) (ys : Parts) → Quiet ys → made (form.Held k) i j sort.Nothing (news w ys) (news w ys) ≡ begun w false (made (form.Held k) i j sort.Nothing ys ys)
  held_by k i j ys q =
      ap (λ b. typed (form.Held k) i j (record { sort = sort.Nothing; varies = b; calls = list_any calls_in (news w ys) }) (row (news w ys))) (varies_is ys)
      ∙ ap (λ b. typed (form.Held k) i j (record { sort = sort.Nothing; varies = varies_over (list_any varies_in ys) (row (news w ys)); calls = b }) (row (news w ys))) (calls_same ys q)
      ∙ ap (λ qs. typed (form.Held k) i j (record { sort = sort.Nothing; varies = varies_over (list_any varies_in ys) qs; calls = list_any calls_in ys }) qs) (row_begun ys)

  no_rule : (b : Bool) → (if◌then◌else◌ {A = List TypeFault} b [] []) ≡ []
  no_rule true = refl
  no_rule false = refl

  -- The step at bounds.
  bounds_step : (s t : Scope) (h : Hint) (k : Kind) (i j : ℕ) (ys : Parts) → is_bounds k ≡ true → Quiet ys → (found t k h i j (news w ys) ≡ []) × (built t k h i j (news w ys) ≡ begun w false (built s k h i j ys))
  bounds_step s t h kind.Bounds i j ys e q = (no_rule (is_judged (news w ys)), held_by kind.Bounds i j ys q)
  bounds_step s t h kind.BoundsFrom i j ys e q = (no_rule (is_judged (news w ys)), held_by kind.BoundsFrom i j ys q)
  bounds_step s t h k i j ys e q = cc

  -- ---- scopes of parts

  pub same_scope : (s t : Scope) (k : Kind) (xs : Parts) → StandsIn w s t → walks k ≡ true → StandsIn w (part_scope s k xs) (part_scope t k (news w xs))
  same_scope s t kind.SequenceType xs st e = cc
  same_scope s t k xs st e = st

-- ---- parts that follow

module _ (w : Standins) where
  -- with variables in it a part has a call where it had one
  calls_follow : (s : Scope) (h : Hint) (p : Tree) → Follows w s h p → (label_of (begun w false (typing s h p))).calls ≡ (label_of (typing s h p)).calls
  calls_follow s h (node k i j ps) (shape, inl still) = ap (λ x. (label_of x).calls) (begun_nothing w false (typing s h (node k i j ps)) (typing_agrees s h shape.0 (node k i j ps) shape.1) still.1)
  calls_follow s h (node k i j ps) (shape, inr (inl fits)) =
      calls_kept s.rights w false (typing s h (node k i j ps)) (ready_part w s h shape.0 (node k i j ps) shape.1 fits.0 (known_sort w s.rights (typing s h (node k i j ps)) fits.2))
  calls_follow s h (node kind.Bounds i j ps) (shape, inr (inr held)) = refl
  calls_follow s h (node kind.BoundsFrom i j ps) (shape, inr (inr held)) = refl
  calls_follow s h (node kind.Keyed i j ps) (shape, inr (inr held)) = key_quiet s.rights w s h i j (typings s kind.Keyed h ps [] ps)
  calls_follow s h (node k i j ps) (shape, inr (inr held)) = cc

  quiet_parts : (s : Scope) (k : Kind) (h : Hint) (all : Trees) (xs : Parts) (ps : Trees) → PartsFollow w s k h all xs ps → Quiet s.rights w (behind s k h all xs ps)
  quiet_parts s k h all xs none f = no_part
  quiet_parts s k h all xs (skip ps) f = left_out (behind s k h all (xs ++ None ∷ []) ps) (quiet_parts s k h all (xs ++ None ∷ []) ps f)
  quiet_parts s k h all xs (more p ps) f =
      a_part (part_of s k h all xs p) (behind s k h all (xs ++ Some (part_of s k h all xs p) ∷ []) ps) (calls_follow (part_scope s k xs) (told w s k h all xs p) p f.0) (quiet_parts s k h all (xs ++ Some (part_of s k h all xs p) ∷ []) ps f.1)

  quiet_all : (s : Scope) (k : Kind) (h : Hint) (ps : Trees) → PartsFollow w s k h ps [] ps → Quiet s.rights w (typings s k h ps [] ps)
  quiet_all s k h ps f = subst (Quiet s.rights w) (sym (typings_are s k h ps [] ps)) (quiet_parts s k h ps [] ps f)

  -- The step at a node that only holds parts.
  pub holder_step : (s t : Scope) (h : Hint) (c : Category) (k : Kind) (i j : ℕ) (ps : Trees) → StandsIn w s t → IsShaped c (node k i j ps) → holds k ≡ true → PartsFollow w s k h ps [] ps
      → (found t k h i j (news w (typings s k h ps [] ps)) ≡ []) × (built t k h i j (news w (typings s k h ps [] ps)) ≡ begun w false (built s k h i j (typings s k h ps [] ps)))
  holder_step s t h c kind.Bounds i j ps st e held f = bounds_step s.rights w s t h kind.Bounds i j (typings s kind.Bounds h ps [] ps) refl (quiet_all s kind.Bounds h ps f)
  holder_step s t h c kind.BoundsFrom i j ps st e held f = bounds_step s.rights w s t h kind.BoundsFrom i j (typings s kind.BoundsFrom h ps [] ps) refl (quiet_all s kind.BoundsFrom h ps f)
  holder_step s t h c kind.Keyed i j none st e held f = elim e.1 [ ]
  holder_step s t h c kind.Keyed i j (skip qs) st e held f = elim e.1 [ ]
  holder_step s t h c kind.Keyed i j (more n none) st e held f = elim e.1.1 [ ]
  holder_step s t h c kind.Keyed i j (more n (skip qs)) st e held f = elim e.1.1 [ ]
  holder_step s t h c kind.Keyed i j (more n (more v (more q qs))) st e held f = elim e.1.1.1 [ ]
  holder_step s t h c kind.Keyed i j (more n (more v (skip qs))) st e held f = elim e.1.1.1 [ ]
  holder_step s t h c kind.Keyed i j (more n (more v none)) st e held f =
      let xs = typings s kind.Keyed h (more n (more v none)) [] (more n (more v none)) in
      let x = typing s free n in
      let step = key_step s.rights w s h i j x (typing s h v) (begun w false x) (operand_unheld w s h category.Value v e.1.1.0 (value_operand v e.1.1.0)) (calls_follow s h v f.1.0) in
      (found_same w s t st kind.Keyed h i j (news w xs) tt ∙ step.0, built_same w s t st kind.Keyed h i j (news w xs) tt ∙ step.1)
  holder_step s t h c k i j ps st e held f = cc
