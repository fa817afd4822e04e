-- A declared name is judged the same in scopes that agree.
use Rattle.std.proofs.Common.{◌≡◌, ℕ, Bool, true, false, ◌++◌, Option, Some, None, refl, ap, ◌∙◌}
use Rattle.std.specs.Prelude.{if◌then◌else◌}
use Rattle.go_grammar.specs.Trees.{Tree}
use Rattle.go_tree.specs.declared.context.Entity.{Entity}
use Rattle.go_tree.specs.declared.context.Entity.TheVariants as entity
use Rattle.go_types.specs.Relations.{Rights}
use Rattle.go_exprs_rules.specs.Scopes.{in_full, at_once, Scope, Hint, value, several, type_place}
use Rattle.go_exprs_rules.specs.Faults.{joined}
use Rattle.go_package_defs.specs.Declarations.{Specification, is_alone}
use Rattle.go_package_defs.specs.Verdicts.{type_hint, value_hint, part_in, faults_in, own_value, own_faults, value_state, state_with, assigned_of, right_found}
use Rattle.go_package_laws.specs.Reach.{AgreeOn, MaybePart, HintWithin, Standing, moved, IsTypedSo}
use Rattle.go_package_laws.proofs.Names.{expression_agrees, type_agrees}
use Rattle.go_package_laws.proofs.Typing.{typed_so}
use Rattle.go_package_laws.proofs.Types.{same_type}
use Rattle.go_package_laws.specs.Judged.{PartAgrees, ValueAgrees, IsJudgedSo, RightAgrees, LimitAgrees}
use Rattle.go_package_laws.proofs.Assigned.{assigned_same}

module _ (p : ℕ → Bool) (s : Scope) (new : Rights) (r : Standing) where
  type_hint_within : (e : Entity) → HintWithin p (type_hint e)
  type_hint_within entity.Function = tt
  type_hint_within e = tt

  several_or_value : (b : Bool) → HintWithin p (if b then several else value)
  several_or_value true = tt
  several_or_value false = tt

  -- ---- constants, variables and functions

  module _ (a : AgreeOn p s.rights new) (n : s.needed ≡ in_full) where
    whole : (h : Hint) (t : Tree) → HintWithin p h → PartAgrees p s r (Some t) → IsTypedSo p s new r h t
    whole h t w e = typed_so p new r s h t a (expression_agrees p s.sorts r s.objects new s h t (record { stand = refl; name = refl; need = n }) e) w

    part_same : (h : Hint) (o : Option Tree) → HintWithin p h → PartAgrees p s r o → part_in (moved s new r) h o ≡ part_in s h o
    part_same h None w e = refl
    part_same h (Some t) w e = ap Some ((whole h t w e).typed)

    part_faults_same : (h : Hint) (o : Option Tree) → HintWithin p h → PartAgrees p s r o → faults_in (moved s new r) h o ≡ faults_in s h o
    part_faults_same h None w e = refl
    part_faults_same h (Some t) w e = ap joined ((whole h t w e).failing)

    part_within : (h : Hint) (o : Option Tree) → HintWithin p h → PartAgrees p s r o → MaybePart p (part_in s h o)
    part_within h None w e = tt
    part_within h (Some t) w e = (whole h t w e).within

  pub judged_so : (d : Specification) (c : ℕ) → ValueAgrees p s new r d c → IsJudgedSo s new r d c
  judged_so d c v =
      let th = type_hint_within d.entity in
      let vh = several_or_value (is_alone d) in
      let t = part_same v.rights v.needed (type_hint d.entity) d.type_tree th v.of in
      let x = part_same v.rights v.needed (value_hint d) (own_value d c) vh v.value in
      let tf = part_faults_same v.rights v.needed (type_hint d.entity) d.type_tree th v.of in
      let xf = part_faults_same v.rights v.needed (value_hint d) (own_value d c) vh v.value in
      let tw = part_within v.rights v.needed (type_hint d.entity) d.type_tree th v.of in
      let xw = part_within v.rights v.needed (value_hint d) (own_value d c) vh v.value in
      let fs : own_faults (moved s new r) d c ≡ own_faults s d c =
      ap (λ gs. gs ++ faults_in (moved s new r) (value_hint d) (own_value d c)) tf ∙ ap (λ gs. faults_in s (type_hint d.entity) d.type_tree ++ gs) xf in
      ap (value_state (moved s new r) d c) fs
      ∙ ap (λ z. state_with (own_faults s d c) (assigned_of new d c (own_faults s d c) z (part_in (moved s new r) (value_hint d) (own_value d c)))) t
      ∙ ap (λ z. state_with (own_faults s d c) (assigned_of new d c (own_faults s d c) (part_in s (type_hint d.entity) d.type_tree) z)) x
      ∙ ap (state_with (own_faults s d c)) (assigned_same p s.rights new v.rights d c (own_faults s d c) (part_in s (type_hint d.entity) d.type_tree) (part_in s (value_hint d) (own_value d c)) tw xw)

  -- ---- types

  right_part : (o : Option Tree) → s.needed ≡ at_once → s.limits ≡ false → AgreeOn p s.rights new → RightAgrees p s r o → part_in (moved s new r) type_place o ≡ part_in s type_place o
  right_part None n lim a e = refl
  right_part (Some t) n lim a e = ap Some ((same_type p s.sorts r s.objects new s type_place t (record { stand = refl; name = refl; need = n }) lim a refl e).typed)

  right_faults : (o : Option Tree) → s.needed ≡ at_once → s.limits ≡ false → AgreeOn p s.rights new → RightAgrees p s r o → faults_in (moved s new r) type_place o ≡ faults_in s type_place o
  right_faults None n lim a e = refl
  right_faults (Some t) n lim a e = ap joined ((same_type p s.sorts r s.objects new s type_place t (record { stand = refl; name = refl; need = n }) lim a refl e).failing)

  -- the right side of a type
  pub right_same : (o : Option Tree) → s.needed ≡ at_once → s.limits ≡ false → AgreeOn p s.rights new → RightAgrees p s r o
      → right_found (faults_in (moved s new r) type_place o) (part_in (moved s new r) type_place o) ≡ right_found (faults_in s type_place o) (part_in s type_place o)
  right_same o n lim a e = ap (λ fs. right_found fs (part_in (moved s new r) type_place o)) (right_faults o n lim a e) ∙ ap (right_found (faults_in s type_place o)) (right_part o n lim a e)

  -- and the rules that fail in it
  pub limit_faults : (o : Option Tree) → s.needed ≡ at_once → AgreeOn p s.rights new → LimitAgrees p s r o → faults_in (moved s new r) type_place o ≡ faults_in s type_place o
  limit_faults None n a e = refl
  limit_faults (Some t) n a e = ap joined ((typed_so p new r s type_place t a (type_agrees p s.sorts r s.objects new s type_place t (record { stand = refl; name = refl; need = n }) e) tt).failing)
