-- What is known of objects after as many rounds, in packages whose declarations are the same but for where they stand.
use Rattle.std.proofs.Common.{◌≡◌, ◌∙◌, ℕ, zero, suc, ◌+◌, true, false, List, [], ◌∷◌, refl, sym, ap, subst}
use Rattle.std.specs.Prelude.{slice_get}
use Rattle.go_tree.specs.declared.context.Entity.{Entity}
use Rattle.go_tree.specs.declared.context.Entity.TheVariants as entity
use Rattle.go_types.specs.Trees.{TypeTree, declared}
use Rattle.go_typed.specs.declared.form.Referent.{Referent}
use Rattle.go_typed.specs.Trees as sort
use Rattle.go_exprs_rules.specs.Scopes.{Scope}
use Rattle.go_exprs_rules.specs.Tables.{no_faults}
use Rattle.go_package_defs.specs.Declarations.{Specification}
use Rattle.go_package_defs.specs.Knowledge.{Outline, outlines, State, rights_of, referent_there, free_scope, told_scope, is_sound, is_told}
use Rattle.go_package_defs.specs.Sources.{Package}
use Rattle.go_package_defs.specs.Verdicts.{number_of_type, own_type, own_faults, type_state, value_state, state_by, next_states, first_state, first_states, known}
use Rattle.go_elsewhere.specs.Elsewhere.{along}
use Rattle.go_heads_types.specs.Same.{SameSpecification, SameOutline, SameOutlines, SameDeclarations}
use Rattle.go_heads_types.specs.States.{SameState, SameStates}
use Rattle.go_heads_types.proofs.Judged.{MovesTyped, KeepsNames, FollowsTokens, value_state_further, type_state_further, value_state_same, type_state_same}
use Rattle.go_heads_types.proofs.Scopes.{MeansEqual, sound_same, told_same, rights_same, scopes_same}

between : (x y u v : State) → SameState x u → SameState y v → y ≡ x → SameState u v
between x y u v a b e = record {
  right = b.right ∙ ap (λ (s : State). s.right) e ∙ sym a.right;
  stands = b.stands ∙ ap (λ (s : State). s.stands) e ∙ sym a.stands;
  faults = b.faults ∙ ap (λ (s : State). no_faults s.faults) e ∙ sym a.faults;
  assigning = b.assigning ∙ ap (λ (s : State). no_faults s.assigning) e ∙ sym a.assigning;
}

module _ (moves : MovesTyped) (keeps : KeepsNames) (follows : FollowsTokens) (equal : MeansEqual) (p q : Package) (ds es : List Specification) (h : SameDeclarations p q ds es) where
  abbrev xs : List Outline
  xs = outlines p ds

  abbrev ys : List Outline
  ys = outlines q es

  pub rights_kept : (ss ts : List State) → SameStates ss ts → rights_of q ts ≡ rights_of p ss
  rights_kept ss ts g = rights_same p.uses.package_level q.uses.package_level ss ts h.entities g

  type_same : (n : ℕ) → own_type q n ≡ own_type p n
  type_same n = ap (λ (rs : List Referent). declared (number_of_type (referent_there (slice_get rs n)))) h.referents

  module _ (ss ts : List State) (g : SameStates ss ts) where
    value_kept : (d e : Specification) (s : SameSpecification p q d e) (c : ℕ)
        → SameState (value_state (free_scope p xs ss d) d c (own_faults (free_scope p xs ss d) d c)) (value_state (free_scope q ys ts e) e c (own_faults (free_scope q ys ts e) e c))
    value_kept d e s c =
        let old : Scope = free_scope p xs ss d in
        let new : Scope = free_scope q ys ts e in
        let a : Scope = along (λ i. s.from + i) old in
        let b : Scope = along (λ i. s.to + i) new in
        between (value_state a s.one c (own_faults a s.one c)) (value_state b s.one c (own_faults b s.one c)) (value_state old d c (own_faults old d c)) (value_state new e c (own_faults new e c))
        (value_state_further moves keeps s.from s.test s.one d s.before s.type_read s.values_read old c)
        (value_state_further moves keeps s.to s.test s.one e s.after s.type_read s.values_read new c)
        (value_state_same follows s.test s.one s.type_read s.values_read a b (scopes_same p q is_sound sound_same xs ys h.outlines ss ts g equal (rights_kept ss ts g) h.referents d e s true) c)

    type_kept : (t : TypeTree) (d e : Specification) (s : SameSpecification p q d e)
        → SameState (type_state t (told_scope p xs ss d) (free_scope p xs ss d) d) (type_state t (told_scope q ys ts e) (free_scope q ys ts e) e)
    type_kept t d e s =
        let told : Scope = told_scope p xs ss d in
        let free : Scope = free_scope p xs ss d in
        let new_told : Scope = told_scope q ys ts e in
        let new_free : Scope = free_scope q ys ts e in
        let a : Scope = along (λ i. s.from + i) told in
        let f : Scope = along (λ i. s.from + i) free in
        let b : Scope = along (λ i. s.to + i) new_told in
        let k : Scope = along (λ i. s.to + i) new_free in
        between (type_state t a f s.one) (type_state t b k s.one) (type_state t told free d) (type_state t new_told new_free e)
        (type_state_further moves keeps s.from s.test s.one d s.before s.type_read s.values_read t told free)
        (type_state_further moves keeps s.to s.test s.one e s.after s.type_read s.values_read t new_told new_free)
        (type_state_same follows s.test s.one s.type_read s.values_read t a b f k
        (scopes_same p q is_told told_same xs ys h.outlines ss ts g equal (rights_kept ss ts g) h.referents d e s false)
        (scopes_same p q is_sound sound_same xs ys h.outlines ss ts g equal (rights_kept ss ts g) h.referents d e s true))

    state_kept : (n : ℕ) (x y : Outline) (k : Entity) → SameOutline p q x y → SameState (state_by k p xs ss n x.specification x.column) (state_by k q ys ts n y.specification x.column)
    state_kept n x y entity.Type s =
        subst (λ t. SameState (type_state (own_type p n) (told_scope p xs ss x.specification) (free_scope p xs ss x.specification) x.specification)
        (type_state t (told_scope q ys ts y.specification) (free_scope q ys ts y.specification) y.specification)) (sym (type_same n))
        (type_kept (own_type p n) x.specification y.specification s.specification)
    state_kept n x y k s = value_kept x.specification y.specification s.specification x.column

    next_kept : (n : ℕ) (us vs : List Outline) → SameOutlines p q us vs → SameStates (next_states p xs ss n us) (next_states q ys ts n vs)
    next_kept n [] [] s = tt
    next_kept n [] (v ∷ vs) s = absurd s
    next_kept n (u ∷ us) [] s = absurd s
    next_kept n (u ∷ us) (v ∷ vs) s =
        let d : Specification = u.specification in
        let e : Specification = v.specification in
        let same : e.entity ≡ d.entity = s.0.specification.after.entity ∙ sym s.0.specification.before.entity in (
          subst (λ k. SameState (state_by d.entity p xs ss n d u.column) (state_by k q ys ts n e v.column)) (sym same)
              (subst (λ c. SameState (state_by d.entity p xs ss n d u.column) (state_by d.entity q ys ts n e c)) (sym s.0.column) (state_kept n u v d.entity s.0)),
          next_kept (suc n) us vs s.1,
        )

  begun_kept : (n : ℕ) (k : Entity) → SameState (first_state p n k) (first_state q n k)
  begun_kept n entity.Type = record { right = refl; stands = ap (λ t. sort.IsType t) (type_same n); faults = refl; assigning = refl }
  begun_kept n k = record { right = refl; stands = refl; faults = refl; assigning = refl }

  first_kept : (n : ℕ) (us vs : List Outline) → SameOutlines p q us vs → SameStates (first_states p n us) (first_states q n vs)
  first_kept n [] [] s = tt
  first_kept n [] (v ∷ vs) s = absurd s
  first_kept n (u ∷ us) [] s = absurd s
  first_kept n (u ∷ us) (v ∷ vs) s =
      let same : v.specification.entity ≡ u.specification.entity = s.0.specification.after.entity ∙ sym s.0.specification.before.entity in
      (subst (λ k. SameState (first_state p n u.specification.entity) (first_state q n k)) (sym same) (begun_kept n u.specification.entity), first_kept (suc n) us vs s.1)

  pub known_kept : (k : ℕ) → SameStates (known p xs k) (known q ys k)
  known_kept zero = first_kept 0 xs ys h.outlines
  known_kept (suc k) = next_kept (known p xs k) (known q ys k) (known_kept k) 0 xs ys h.outlines
