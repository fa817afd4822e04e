-- After any number of rounds an object stands for types alone that it needs in full, and its right side names such types alone.
use Rattle.std.proofs.Common.{◌≡◌, ℕ, zero, suc, ◌+◌, ◌<◌, Bool, true, false, List, [], ◌∷◌, length, Option, Some, None, refl, sym, ap, ◌∙◌, subst, arith}
use Rattle.std.specs.Prelude.{slice_get}
use Rattle.go_grammar.specs.Trees.{Tree}
use Rattle.go_tree.specs.declared.context.Entity.{Entity}
use Rattle.go_tree.specs.declared.context.Entity.TheVariants as entity
use Rattle.go_tree.specs.declared.object.Declared.{Declared}
use Rattle.go_tree.specs.declared.object.Object.{Object}
use Rattle.go_tree.specs.declared.object.Object.TheVariants as object
use Rattle.go_tree.specs.Uses.{object_of}
use Rattle.go_types.specs.Relations.{Rights}
use Rattle.go_types_relations.specs.Questions.{entry}
use Rattle.go_exprs_rules.specs.Scopes.{Needed, in_full, at_once, loosely, Hint, type_place}
use Rattle.go_package_defs.specs.Declarations.{Specification}
use Rattle.go_package_defs.specs.Knowledge.{Outline, State, state_there, state_of, is_type, is_sound, is_told, passes, stands_if, stands_where, rights_of, referent_at, need_in, free_scope, told_scope}
use Rattle.go_package_defs.specs.Sources.{Package}
use Rattle.go_package_defs.specs.Verdicts.{type_hint, value_hint, part_in, faults_in, typed_type, own_value, own_faults, own_type, number_of_type, value_state, type_state, state_by, first_state, first_states, known}
use Rattle.go_package_laws.specs.Names.{ObjectSame, ObjectWithin, ObjectAgrees, limited_ways}
use Rattle.go_package_laws.specs.Ranks.{type_object}
use Rattle.go_package_laws.specs.Reach.{MaybeWithin, AgreeOn, StandsWithin, MaybePart, HintWithin, Standing}
use Rattle.go_package_laws.proofs.Public.{right_there, right_entry, maybe_more, each_more, needs_more, stands_more, at_next, next_length}
use Rattle.go_package_settled.specs.Agreeing.{ExpressionsAgree, TypesAgree}
use Rattle.go_package_settled.specs.Heights.{Needing, is_within}
use Rattle.go_package_settled.specs.Ordered.{Passes, NeedsWhole, NeedsSo, NeedsNames, NeedsTypes, type_needs, NeedsNamed, NeedsAreOrdered}
use Rattle.go_package_settled.proofs.Lists.{one_first, one_later, place_below, item_at, outside}
use Rattle.go_package_settled.proofs.Reaching.{near, near_there, near_through, own_object}
use Rattle.go_package_settled.proofs.Judging.{type_told, value_told, right_within, assigned_within}

-- ---- entities

pub type_is : (e : Entity) → is_type e ≡ true → e ≡ entity.Type
type_is entity.Type e = refl
type_is x e = absurd cc

pub hint_is : (e : Entity) → is_type e ≡ true → type_hint e ≡ type_place
hint_is entity.Type e = refl
hint_is x e = absurd cc

pub need_is : (e : Entity) → is_type e ≡ true → need_in e ≡ at_once
need_is entity.Type e = refl
need_is x e = absurd cc

pub full_is : (e : Entity) → is_type e ≡ false → need_in e ≡ in_full
full_is entity.Type e = absurd cc
full_is x e = refl

-- ---- states by their numbers

module _ (p : Package) where
  at_first : (m n i : ℕ) (xs : List Outline) (x : Outline) → slice_get xs n ≡ Some x → i ≡ m + n → slice_get (first_states p m xs) n ≡ Some (first_state p i x.specification.entity)
  at_first m n i [] x e q = cc
  at_first m zero i (y ∷ xs) x e q =
      let h : i ≡ m = omega (arith, q) in
      ap (λ (z : Outline). Some (first_state p m z.specification.entity)) (same_outline y x e) ∙ ap (λ l. Some (first_state p l x.specification.entity)) (sym h)
    where
      same_outline : (a b : Outline) → ◌≡◌ {A = Option Outline} (Some a) (Some b) → a ≡ b
      same_outline a b f = cc
  at_first m (suc n) i (y ∷ xs) x e q = at_first (suc m) n i xs x e (let h : i ≡ suc m + n = omega (arith, q) in h)

  first_length : (m : ℕ) (xs : List Outline) → length (first_states p m xs) ≡ length xs
  first_length m [] = refl
  first_length m (x ∷ xs) = ap suc (first_length (suc m) xs)

  pub known_length : (os : List Outline) (k : ℕ) → length (known p os k) ≡ length os
  known_length os zero = first_length 0 os
  known_length os (suc k) = next_length p os (known p os k) 0 os

  pub first_at : (os : List Outline) (n : ℕ) (o : Outline) → slice_get os n ≡ Some o → state_of (known p os 0) n ≡ first_state p n o.specification.entity
  first_at os n o e = ap state_there (at_first 0 n n os o e (let q : n ≡ 0 + n = omega arith in q))

  pub next_at : (os : List Outline) (k n : ℕ) (o : Outline) → slice_get os n ≡ Some o → state_of (known p os (suc k)) n ≡ state_by o.specification.entity p os (known p os k) n o.specification o.column
  next_at os k n o e = ap state_there (at_next p os (known p os k) 0 n n os o e (let q : n ≡ 0 + n = omega arith in q))

  pub beyond : (os : List Outline) (k n : ℕ) → slice_get os n ≡ None → state_of (known p os k) n ≡ state_there None
  beyond os k n e = ap state_there (outside os (known p os k) n (known_length os k) e)

pub as_type : (p : Package) (os : List Outline) (ss : List State) (e : Entity) (n : ℕ) (d : Specification) (c : ℕ) → is_type e ≡ true →
    state_by e p os ss n d c ≡ type_state (own_type p n) (told_scope p os ss d) (free_scope p os ss d) d
as_type p os ss entity.Type n d c t = refl
as_type p os ss x n d c t = absurd cc

pub as_value : (p : Package) (os : List Outline) (ss : List State) (e : Entity) (n : ℕ) (d : Specification) (c : ℕ) → is_type e ≡ false →
    state_by e p os ss n d c ≡ value_state (free_scope p os ss d) d c (own_faults (free_scope p os ss d) d c)
as_value p os ss entity.Type n d c t = absurd cc
as_value p os ss x n d c t = refl

object_itself : (r : Standing) (way : Needed) (o : Option Object) → ObjectSame r r way o
object_itself r way (Some (object.Package m)) = refl
object_itself r way (Some (object.Local f m)) = refl
object_itself r way o = tt

module _ (expressions : ExpressionsAgree) (types : TypesAgree) (p : Package) (os : List Outline) (x : Needing) (a : NeedsAreOrdered p os x) where
  abbrev ds : List Declared
  ds = p.uses.package_level

  -- whether an object needs a declared type in full, or is it
  abbrev to : ℕ → ℕ → Bool
  to n = near ds x n

  pub record Reaches (k n : ℕ) : Type 0 where
    pub stands : StandsWithin (to n) (state_of (known p os k) n).stands
    pub right : MaybeWithin (to n) (state_of (known p os k) n).right

  reaches_as : (k n : ℕ) (s : State) → state_of (known p os k) n ≡ s → StandsWithin (to n) s.stands → MaybeWithin (to n) s.right → Reaches k n
  reaches_as k n s e w v = record {
    stands = subst (λ (z : State). StandsWithin (to n) z.stands) (sym e) w;
    right = subst (λ (z : State). MaybeWithin (to n) z.right) (sym e) v;
  }

  -- ---- types

  declared_there : (n : ℕ) (o : Outline) → slice_get os n ≡ Some o → (d : Declared) × (slice_get ds n ≡ Some d)
  declared_there n o e =
      let l = place_below os n o e in
      let m = a.declared in
      item_at ds n (let h : n < length ds = omega (arith, l, m) in h)

  own_within : (n : ℕ) (o : Outline) → slice_get os n ≡ Some o → is_type o.specification.entity ≡ true → to n (number_of_type (referent_at p n)) ≡ true
  own_within n o e t =
      let d = declared_there n o e in
      let same = own_object p n d.0 d.1 (sym (a.entities n o d.0 e d.1) ∙ t) in
      ap (near_there (is_within x n)) same ∙ one_first n (x.full n n)

  first_within : (n : ℕ) (o : Outline) (e : Entity) → slice_get os n ≡ Some o → o.specification.entity ≡ e → StandsWithin (to n) (first_state p n e).stands × MaybeWithin (to n) (first_state p n e).right
  first_within n o entity.Type q e = (own_within n o q (ap is_type e), tt)
  first_within n o x q e = (tt, tt)

  first : (n : ℕ) (o : Option Outline) → slice_get os n ≡ o → Reaches 0 n
  first n None e = reaches_as 0 n (state_there None) (beyond p os 0 n e) tt tt
  first n (Some o) e =
      let w = first_within n o o.specification.entity e refl in
      reaches_as 0 n (first_state p n o.specification.entity) (first_at p os n o e) w.0 w.1

  -- ---- a further round

  module _ (k : ℕ) (before : (m : ℕ) → Reaches k m) where
    abbrev states : List State
    states = known p os k

    abbrev rights : Rights
    rights = rights_of p states

    many : length states ≡ length ds
    many = known_length p os k ∙ sym a.declared

    right_near : (n : ℕ) (o : Option ℕ) → near_there (is_within x n) o ≡ true → MaybeWithin (to n) (right_there states o)
    right_near n None e = tt
    right_near n (Some m) e = maybe_more (to m) (to n) (λ u q. near_through x a.order ds n m u e q) (state_of states m).right (before m).right

    rights_closed : (n t : ℕ) → to n t ≡ true → MaybeWithin (to n) (entry rights t)
    rights_closed n t e = subst (MaybeWithin (to n)) (sym (right_entry ds states many t)) (right_near n (type_object ds t) e)

    agree : (n : ℕ) → AgreeOn (to n) rights rights
    agree n = record { same = λ t e. refl; closed = λ t e. rights_closed n t e; as_many = refl }

    if_within : (n : ℕ) (b : Bool) (s : State) → StandsWithin (to n) s.stands → StandsWithin (to n) (stands_if b s)
    if_within n true s w = w
    if_within n false s w = tt

    object_within : (test : State → Bool) (n : ℕ) (way : Needed) (o : Option Object) → Passes (x.full n) o → ObjectWithin (to n) (stands_where test os states) way o
    object_within test n way None h = tt
    object_within test n way (Some object.Import) h = tt
    object_within test n way (Some (object.Predeclared i)) h = tt
    object_within test n way (Some (object.Local f m)) h = tt
    object_within test n way (Some (object.Package m)) h =
        let l = one_later m n (x.full n m) h in
        if_within n (passes test os states way m) (state_of states m) (stands_more (to m) (to n) (λ u q. near_through x a.order ds n m u l q) (state_of states m).stands (before m).stands)

    object_agrees : (test : State → Bool) (n : ℕ) (way : Needed) (o : Option Object) → Passes (x.full n) o → ObjectAgrees (to n) (stands_where test os states) (stands_where test os states) way o
    object_agrees test n way o h = (object_itself (stands_where test os states) way o, object_within test n way o h)

    -- ---- constants, variables and functions

    part_within : (n : ℕ) (d : Specification) (h : Hint) (o : Option Tree) → need_in d.entity ≡ in_full → NeedsNames x n p d o → HintWithin (to n) h → MaybePart (to n) (part_in (free_scope p os states d) h o)
    part_within n d h None q names w = tt
    part_within n d h (Some t) q names w =
        let s = free_scope p os states d in
        (expressions (to n) s rights (stands_where is_sound os states) h t q (agree n)
        (each_more (λ i. Passes (x.full n) (object_of p.uses d.file i)) (λ i. ObjectAgrees (to n) (stands_where is_sound os states) (stands_where is_sound os states) in_full (object_of p.uses d.file i))
        (λ i g. object_agrees is_sound n in_full (object_of p.uses d.file i) g) t names)
        w).within

    value_within : (n : ℕ) (d : Specification) (c : ℕ) → is_type d.entity ≡ false → NeedsNames x n p d d.type_tree → NeedsNames x n p d (own_value d c)
        → StandsWithin (to n) (value_state (free_scope p os states d) d c (own_faults (free_scope p os states d) d c)).stands
    value_within n d c t of own =
        let s = free_scope p os states d in
        assigned_within (to n) rights (agree n) d c (own_faults s d c) (typed_type s d) (part_in s (value_hint d) (own_value d c))
        (part_within n d (type_hint d.entity) d.type_tree (full_is d.entity t) of (type_told (to n) d.entity))
        (part_within n d (value_hint d) (own_value d c) (full_is d.entity t) own (value_told (to n) d))

    -- ---- types

    whole_full : (n : ℕ) (o : Option Object) → NeedsWhole x n o → Passes (x.full n) o
    whole_full n None h = tt
    whole_full n (Some object.Import) h = tt
    whole_full n (Some (object.Predeclared i)) h = tt
    whole_full n (Some (object.Local f m)) h = tt
    whole_full n (Some (object.Package m)) h = a.order.partly_full n m h.0

    partly_full : (n : ℕ) (o : Option Object) → Passes (x.part n) o → Passes (x.full n) o
    partly_full n None h = tt
    partly_full n (Some object.Import) h = tt
    partly_full n (Some (object.Predeclared i)) h = tt
    partly_full n (Some (object.Local f m)) h = tt
    partly_full n (Some (object.Package m)) h = a.order.partly_full n m h

    so_full : (n : ℕ) (way : Needed) (o : Option Object) → NeedsSo x n way o → Passes (x.full n) o
    so_full n loosely o h = h
    so_full n at_once o h = partly_full n o h
    so_full n in_full o h = whole_full n o h

    type_within : (n : ℕ) (d : Specification) (o : Option Tree) → need_in d.entity ≡ at_once → NeedsTypes x n p d o → MaybePart (to n) (part_in (told_scope p os states d) type_place o)
    type_within n d None q h = tt
    type_within n d (Some t) q h =
        let s = told_scope p os states d in
        (types (to n) s rights (stands_where is_told os states) type_place t q (agree n)
        (needs_more (type_needs x n p d) (limited_ways (to n) s (stands_where is_told os states))
        (λ way i g. object_agrees is_told n way (object_of p.uses d.file i) (so_full n way (object_of p.uses d.file i) g))
        (λ i g. object_agrees is_told n in_full (object_of p.uses d.file i) (whole_full n (object_of p.uses d.file i) g))
        (λ i g. absurd g) type_place t h)
        tt).within

    told_within : (n : ℕ) (d : Specification) → is_type d.entity ≡ true → NeedsTypes x n p d d.type_tree → MaybePart (to n) (typed_type (told_scope p os states d) d)
    told_within n d t h =
        subst (λ g. MaybePart (to n) (part_in (told_scope p os states d) g d.type_tree)) (sym (hint_is d.entity t)) (type_within n d d.type_tree (need_is d.entity t) h)

    -- ---- both

    next_by : (n : ℕ) (o : Outline) → slice_get os n ≡ Some o → (b : Bool) → is_type o.specification.entity ≡ b → NeedsNamed x p n o b → Reaches (suc k) n
    next_by n o e true t h =
        let d = o.specification in
        let told = told_scope p os states d in
        let free = free_scope p os states d in
        reaches_as (suc k) n (type_state (own_type p n) told free d) (next_at p os k n o e ∙ as_type p os states d.entity n d o.column t) (own_within n o e t)
        (right_within (to n) (faults_in told (type_hint d.entity) d.type_tree) (typed_type told d) (told_within n d t h))
    next_by n o e false t h =
        let d = o.specification in
        let free = free_scope p os states d in
        reaches_as (suc k) n (value_state free d o.column (own_faults free d o.column)) (next_at p os k n o e ∙ as_value p os states d.entity n d o.column t) (value_within n d o.column t h.0 h.1) tt

    next : (n : ℕ) (o : Option Outline) → slice_get os n ≡ o → Reaches (suc k) n
    next n None e = reaches_as (suc k) n (state_there None) (beyond p os (suc k) n e) tt tt
    next n (Some o) e = next_by n o e (is_type o.specification.entity) refl (a.named n o e)

  pub reaches : (k n : ℕ) → Reaches k n
  reaches zero n = first n (slice_get os n) refl
  reaches (suc k) n = next k (λ m. reaches k m) n (slice_get os n) refl
