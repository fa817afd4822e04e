-- What is found of the objects one behind the other is what rounds find.
use Rattle.std.proofs.Common.{◌≡◌, ℕ, zero, suc, ◌+◌, ◌<◌, ◌≤◌, Bool, true, false, List, [], ◌∷◌, length, Option, Some, None, refl, sym, ap, ◌∙◌, subst, arith}
use Rattle.std.specs.Prelude.{slice_get, nat_le, nat_lt}
use Rattle.std.proofs.lemmas.Bool.{ltb-true, lt-ltb, leb-true}
use Rattle.std.proofs.lemmas.Option.{same_Some}
use Rattle.go_grammar.specs.Trees.{Tree}
use Rattle.go_tree.specs.declared.context.Entity.{Entity}
use Rattle.go_tree.specs.declared.context.Entity.TheVariants as entity
use Rattle.go_tree.specs.declared.object.Object.{Object}
use Rattle.go_tree.specs.Uses.{object_of}
use Rattle.go_types.specs.Trees.{TypeTree}
use Rattle.go_types_relations.specs.Questions.{entry}
use Rattle.go_typed.specs.Trees as sort
use Rattle.go_exprs_rules.specs.declared.fault.TypeFault.{TypeFault}
use Rattle.go_exprs_rules.specs.Scopes.{Needed, in_full, at_once, Scope, Hint, type_place}
use Rattle.go_exprs_rules.specs.Sorts.{Stands}
use Rattle.go_package_defs.specs.Declarations.{Specification}
use Rattle.go_package_defs.specs.Knowledge.{Outline, State, state_there, state_of, is_type, is_sound, is_told, is_told_by, stands_where, rights_of, need_in, free_scope, told_scope}
use Rattle.go_package_defs.specs.Sources.{Package}
use Rattle.go_package_defs.specs.Verdicts.{type_hint, part_in, faults_in, own_type, own_value, own_faults, value_state, right_found, type_state, state_by, next_states, first_state, first_states, known}
use Rattle.go_package_laws.specs.Names.{type_ways, limited_ways, ObjectSame, ObjectAgrees}
use Rattle.go_package_laws.specs.Reach.{MaybeWithin, AgreeOn}
use Rattle.go_package_laws.specs.Judged.{PartAgrees, RightAgrees, LimitAgrees}
use Rattle.go_package_laws.specs.Ranks.{Ranks, reached, NeedBefore, ReachedBefore, NamesBefore, told_ways, own_ways, NeedsBefore, IsFound, IsFoundType, IsFoundAs, type_object, AreFound, AreAtMost}
use Rattle.go_package_laws.proofs.Judged.{judged_so, right_same, limit_faults}
use Rattle.go_package_laws.proofs.Needs.{each_more, needs_more, maybe_more, object_same, right_there, right_entry, as_many_rights}

-- ---- numbers

lt_true : (a b : ℕ) → nat_lt a b ≡ true → a < b
lt_true a b e = ltb-true a b e

true_lt : (a b : ℕ) → a < b → nat_lt a b ≡ true
true_lt a b h = lt-ltb a b h

le_true : (a b : ℕ) → nat_le a b ≡ true → a ≤ b
le_true a b e = leb-true a b e

-- ---- entities

type_is : (e : Entity) → is_type e ≡ true → e ≡ entity.Type
type_is entity.Type e = refl
type_is x e = absurd cc

hint_is : (e : Entity) → is_type e ≡ true → type_hint e ≡ type_place
hint_is entity.Type e = refl
hint_is x e = absurd cc

need_is : (e : Entity) → is_type e ≡ true → need_in e ≡ at_once
need_is entity.Type e = refl
need_is x e = absurd cc

full_is : (e : Entity) → is_type e ≡ false → need_in e ≡ in_full
full_is entity.Type e = absurd cc
full_is x e = refl

-- ---- states by their numbers

module _ (p : Package) (os : List Outline) (ss : List State) where
  pub at_next : (m n i : ℕ) (xs : List Outline) (x : Outline) → slice_get xs n ≡ Some x → i ≡ m + n
      → slice_get (next_states p os ss m xs) n ≡ Some (state_by x.specification.entity p os ss i x.specification x.column)
  at_next m n i [] x e q = cc
  at_next m zero i (y ∷ xs) x e q =
      let h : i ≡ m = omega (arith, q) in
      ap (λ (z : Outline). Some (state_by z.specification.entity p os ss m z.specification z.column)) (same_Some y x e)
      ∙ ap (λ l. Some (state_by x.specification.entity p os ss l x.specification x.column)) (sym h)
  at_next m (suc n) i (y ∷ xs) x e q = at_next (suc m) n i xs x e (let h : i ≡ suc m + n = omega (arith, q) in h)

  pub next_length : (m : ℕ) (xs : List Outline) → length (next_states p os ss m xs) ≡ length xs
  next_length m [] = refl
  next_length m (x ∷ xs) = ap suc (next_length (suc m) xs)

module _ (p : Package) where
  at_first : (m n i : ℕ) (xs : List Outline) (x : Outline) → slice_get xs n ≡ Some x → i ≡ m + n → slice_get (first_states p m xs) n ≡ Some (first_state p i x.specification.entity)
  at_first m n i [] x e q = cc
  at_first m zero i (y ∷ xs) x e q =
      let h : i ≡ m = omega (arith, q) in
      ap (λ (z : Outline). Some (first_state p m z.specification.entity)) (same_Some y x e) ∙ ap (λ l. Some (first_state p l x.specification.entity)) (sym h)
  at_first m (suc n) i (y ∷ xs) x e q = at_first (suc m) n i xs x e (let h : i ≡ suc m + n = omega (arith, q) in h)

  first_length : (m : ℕ) (xs : List Outline) → length (first_states p m xs) ≡ length xs
  first_length m [] = refl
  first_length m (x ∷ xs) = ap suc (first_length (suc m) xs)

  known_length : (os : List Outline) (k : ℕ) → length (known p os k) ≡ length os
  known_length os zero = first_length 0 os
  known_length os (suc k) = next_length p os (known p os k) 0 os

outside : {A B : Type 0} (xs : List A) (ys : List B) (n : ℕ) → length ys ≡ length xs → slice_get xs n ≡ None → slice_get ys n ≡ None
outside [] [] n l e = refl
outside [] (y ∷ ys) n l e = cc
outside (x ∷ xs) [] n l e = cc
outside (x ∷ xs) (y ∷ ys) zero l e = cc
outside (x ∷ xs) (y ∷ ys) (suc n) l e = outside xs ys n (let h : length ys ≡ length xs = omega (arith, l) in h) e

lists_same : (xs ys : List State) → length xs ≡ length ys → ((n : ℕ) → state_of xs n ≡ state_of ys n) → xs ≡ ys
lists_same [] [] l h = refl
lists_same [] (y ∷ ys) l h = cc
lists_same (x ∷ xs) [] l h = cc
lists_same (x ∷ xs) (y ∷ ys) l h =
    let e : x ≡ y = h 0 in
    let r = lists_same xs ys (let q : length xs ≡ length ys = omega (arith, l) in q) (λ n. h (suc n)) in
    cc

module _ (p : Package) (os : List Outline) (found : List State) (ranks : Ranks) (a : AreFound p os found ranks) where
  abbrev after : ℕ → List State
  after k = known p os k

  -- what is found of an object is known after so many rounds
  record Holds (k n : ℕ) : Type 0 where
    stand : ranks.stand n ≤ k → (state_of (after k) n).stands ≡ (state_of found n).stands
    told : ranks.told n ≤ k → ((state_of (after k) n).stands ≡ (state_of found n).stands) × ((state_of (after k) n).right ≡ (state_of found n).right)
    own : ranks.own n ≤ k → state_of (after k) n ≡ state_of found n

  all_same : (k n : ℕ) → state_of (after k) n ≡ state_of found n → Holds k n
  all_same k n e = record { stand = λ h. ap (λ (s : State). s.stands) e; told = λ h. (ap (λ (s : State). s.stands) e, ap (λ (s : State). s.right) e); own = λ h. e }

  -- no such object
  beyond : (k n : ℕ) → slice_get os n ≡ None → Holds k n
  beyond k n e =
      all_same k n (ap state_there (outside os (after k) n (known_length p os k) e) ∙ sym (ap state_there (outside os found n a.as_many e)))

  -- ---- the first round

  first_at : (n : ℕ) (o : Outline) → slice_get os n ≡ Some o → state_of (after 0) n ≡ first_state p n o.specification.entity
  first_at n o e = ap state_there (at_first p 0 n n os o e (let q : n ≡ 0 + n = omega arith in q))

  first_type : (n : ℕ) (e : Entity) → is_type e ≡ true → (first_state p n e).stands ≡ sort.IsType (own_type p n)
  first_type n entity.Type e = refl
  first_type n x e = absurd cc

  first_holds : (n : ℕ) (o : Outline) → slice_get os n ≡ Some o → (b : Bool) → is_type o.specification.entity ≡ b → IsFoundAs p os found ranks n o b → Holds 0 n
  first_holds n o e true t f = record {
    stand = λ h. ap (λ (s : State). s.stands) (first_at n o e) ∙ first_type n o.specification.entity t ∙ sym (ap (λ (s : State). s.stands) f.is);
    told = λ h. let z = f.later in absurd (omega (arith, h, z));
    own = λ h. let z = f.later in let r = f.right in absurd (omega (arith, h, z, r));
  }
  first_holds n o e false t f = record {
    stand = λ h. let z = f.later in let r = f.stands in absurd (omega (arith, h, z, r));
    told = λ h. let z = f.later in let r = f.right in absurd (omega (arith, h, z, r));
    own = λ h. let z = f.later in absurd (omega (arith, h, z));
  }

  -- ---- a further round

  module _ (k : ℕ) (before : (n : ℕ) → Holds k n) where
    abbrev states : List State
    states = after k

    told_tests : (c : ℕ) → c ≤ suc k → (n : ℕ) → ranks.told n < c → is_told (state_of states n) ≡ is_told (state_of found n)
    told_tests c b n h =
        let q : ranks.told n ≤ k = omega (arith, b, h) in
        let e = ((before n).told q).0 in
        let f = ((before n).told q).1 in
        ap (λ x. is_told_by x (state_of states n).right) e ∙ ap (is_told_by (state_of found n).stands) f

    told_stands : (c : ℕ) → c ≤ suc k → (n : ℕ) → ranks.told n < c → (state_of states n).stands ≡ (state_of found n).stands
    told_stands c b n h = let q : ranks.told n ≤ k = omega (arith, b, h) in ((before n).told q).0

    stood : (c : ℕ) → c ≤ suc k → (n : ℕ) → ranks.stand n < c → (state_of states n).stands ≡ (state_of found n).stands
    stood c b n h = let q : ranks.stand n ≤ k = omega (arith, b, h) in (before n).stand q

    own_tests : (c : ℕ) → c ≤ suc k → (n : ℕ) → ranks.own n < c → is_sound (state_of states n) ≡ is_sound (state_of found n)
    own_tests c b n h = let q : ranks.own n ≤ k = omega (arith, b, h) in ap is_sound ((before n).own q)

    own_stands : (c : ℕ) → c ≤ suc k → (n : ℕ) → ranks.own n < c → (state_of states n).stands ≡ (state_of found n).stands
    own_stands c b n h = let q : ranks.own n ≤ k = omega (arith, b, h) in ap (λ (s : State). s.stands) ((before n).own q)

    told_object : (c : ℕ) → c ≤ suc k → (n : Needed) (o : Option Object) → NeedBefore os ranks.told ranks.stand c n o → ObjectSame (stands_where is_told os found) (stands_where is_told os states) n o
    told_object c b n o h = object_same os found states is_told ranks.told ranks.stand c (told_tests c b) (told_stands c b) (stood c b) n o h

    own_object : (c : ℕ) → c ≤ suc k → (n : Needed) (o : Option Object) → NeedBefore os ranks.own ranks.stand c n o → ObjectSame (stands_where is_sound os found) (stands_where is_sound os states) n o
    own_object c b n o h = object_same os found states is_sound ranks.own ranks.stand c (own_tests c b) (own_stands c b) (stood c b) n o h

    -- ---- right sides

    many : length states ≡ length found
    many = known_length p os k ∙ sym a.as_many

    there_same : (c : ℕ) → c ≤ suc k → (t : ℕ) → ranks.reach t < c → (o : Option ℕ) → type_object p.uses.package_level t ≡ o → right_there states o ≡ right_there found o
    there_same c b t h None e = refl
    there_same c b t h (Some n) e =
        let r = a.reaches t n e in
        let q : ranks.told n ≤ k = omega (arith, b, h, r) in
        ((before n).told q).1

    right_agrees : (c : ℕ) → c ≤ suc k → (t : ℕ) → reached ranks c t ≡ true → entry (rights_of p states) t ≡ entry (rights_of p found) t
    right_agrees c b t e =
        right_entry p.uses.package_level states (known_length p os k ∙ sym a.declared) t
        ∙ there_same c b t (lt_true (ranks.reach t) c e) (type_object p.uses.package_level t) refl
        ∙ sym (right_entry p.uses.package_level found (a.as_many ∙ sym a.declared) t)

    rights_closed : (c t : ℕ) → reached ranks c t ≡ true → MaybeWithin (reached ranks c) (entry (rights_of p found) t)
    rights_closed c t e =
        maybe_more (λ u. nat_le (ranks.reach u) (ranks.reach t)) (reached ranks c)
        (λ u h. let l = le_true (ranks.reach u) (ranks.reach t) h in let m = lt_true (ranks.reach t) c e in true_lt (ranks.reach u) c (let q : ranks.reach u < c = omega (arith, l, m) in q))
        (entry (rights_of p found) t) (a.closed t)

    agree : (c : ℕ) → c ≤ suc k → AgreeOn (reached ranks c) (rights_of p found) (rights_of p states)
    agree c b = record { same = right_agrees c b; closed = rights_closed c; as_many = as_many_rights p.uses.package_level states found many }

    -- ---- constants, variables and functions

    part_before : (c : ℕ) → c ≤ suc k → (d : Specification) (o : Option Tree) → NamesBefore p os found ranks c d o
        → PartAgrees (reached ranks c) (free_scope p os found d) (stands_where is_sound os states) o
    part_before c b d None h = tt
    part_before c b d (Some t) h =
        each_more (λ i. ReachedBefore os ranks ranks.own c (stands_where is_sound os found) in_full (object_of p.uses d.file i))
        (λ i. ObjectAgrees (reached ranks c) (stands_where is_sound os found) (stands_where is_sound os states) in_full (object_of p.uses d.file i))
        (λ i q. (own_object c b in_full (object_of p.uses d.file i) q.0, q.1)) t h

    value_same : (n : ℕ) (d : Specification) (c : ℕ) → is_type d.entity ≡ false → IsFound p os found ranks n d c → ranks.own n ≤ suc k
        → value_state (free_scope p os states d) d c (own_faults (free_scope p os states d) d c) ≡ state_of found n
    value_same n d c t f b =
        judged_so (reached ranks (ranks.own n)) (free_scope p os found d) (rights_of p states) (stands_where is_sound os states) d c
        (record {
          needed = full_is d.entity t;
          rights = agree (ranks.own n) b;
          of = part_before (ranks.own n) b d d.type_tree f.of;
          value = part_before (ranks.own n) b d (own_value d c) f.value;
        })
        ∙ sym f.is

    -- ---- types

    right_before : (c : ℕ) → c ≤ suc k → (d : Specification) (o : Option Tree) → NeedsBefore p os found ranks (told_ways p os found ranks c d) o
        → RightAgrees (reached ranks c) (told_scope p os found d) (stands_where is_told os states) o
    right_before c b d None h = tt
    right_before c b d (Some t) h =
        needs_more (told_ways p os found ranks c d) (type_ways (reached ranks c) (told_scope p os found d) (stands_where is_told os states))
        (λ n i q. told_object c b n (object_of p.uses d.file i) q) (λ i q. (told_object c b in_full (object_of p.uses d.file i) q.0, q.1)) (λ i q. absurd q) type_place t h

    limit_before : (c : ℕ) → c ≤ suc k → (d : Specification) (o : Option Tree) → NeedsBefore p os found ranks (own_ways p os found ranks c d) o
        → LimitAgrees (reached ranks c) (free_scope p os found d) (stands_where is_sound os states) o
    limit_before c b d None h = tt
    limit_before c b d (Some t) h =
        needs_more (own_ways p os found ranks c d) (limited_ways (reached ranks c) (free_scope p os found d) (stands_where is_sound os states))
        (λ n i q. (own_object c b n (object_of p.uses d.file i) q.0, q.1)) (λ i q. (own_object c b in_full (object_of p.uses d.file i) q.0, q.1)) (λ i q. absurd q) type_place t h

    abbrev right_of : Hint → Scope → Specification → Option TypeTree
    right_of h s d = right_found (faults_in s h d.type_tree) (part_in s h d.type_tree)

    right_stays : (n : ℕ) (d : Specification) → is_type d.entity ≡ true → IsFoundType p os found ranks n d → ranks.told n ≤ suc k
        → right_of (type_hint d.entity) (told_scope p os states d) d ≡ right_of (type_hint d.entity) (told_scope p os found d) d
    right_stays n d t f b =
        subst (λ h. right_of h (told_scope p os states d) d ≡ right_of h (told_scope p os found d) d) (sym (hint_is d.entity t))
        (right_same (reached ranks (ranks.told n)) (told_scope p os found d) (rights_of p states) (stands_where is_told os states) d.type_tree (need_is d.entity t) refl
        (agree (ranks.told n) b) (right_before (ranks.told n) b d d.type_tree f.of))

    faults_stay : (n : ℕ) (d : Specification) → is_type d.entity ≡ true → IsFoundType p os found ranks n d → ranks.own n ≤ suc k
        → faults_in (free_scope p os states d) (type_hint d.entity) d.type_tree ≡ faults_in (free_scope p os found d) (type_hint d.entity) d.type_tree
    faults_stay n d t f b =
        subst (λ h. faults_in (free_scope p os states d) h d.type_tree ≡ faults_in (free_scope p os found d) h d.type_tree) (sym (hint_is d.entity t))
        (limit_faults (reached ranks (ranks.own n)) (free_scope p os found d) (rights_of p states) (stands_where is_sound os states) d.type_tree (need_is d.entity t)
        (agree (ranks.own n) b) (limit_before (ranks.own n) b d d.type_tree f.limits))

    -- ---- both

    abbrev judged : ℕ → Specification → ℕ → State
    judged n d c = state_by d.entity p os states n d c

    next_at : (n : ℕ) (o : Outline) → slice_get os n ≡ Some o → state_of (after (suc k)) n ≡ judged n o.specification o.column
    next_at n o e = ap state_there (at_next p os states 0 n n os o e (let q : n ≡ 0 + n = omega arith in q))

    as_type : (e : Entity) (n : ℕ) (d : Specification) (c : ℕ) → is_type e ≡ true → state_by e p os states n d c ≡ type_state (own_type p n) (told_scope p os states d) (free_scope p os states d) d
    as_type entity.Type n d c t = refl
    as_type x n d c t = absurd cc

    as_value : (e : Entity) (n : ℕ) (d : Specification) (c : ℕ) → is_type e ≡ false → state_by e p os states n d c ≡ value_state (free_scope p os states d) d c (own_faults (free_scope p os states d) d c)
    as_value entity.Type n d c t = absurd cc
    as_value x n d c t = refl

    abbrev with_right : Stands → List TypeFault → Option TypeTree → State
    with_right x fs r = record { right = r; stands = x; faults = fs; assigning = [] }

    next_holds : (n : ℕ) (o : Outline) → slice_get os n ≡ Some o → (b : Bool) → is_type o.specification.entity ≡ b → IsFoundAs p os found ranks n o b → Holds (suc k) n
    next_holds n o e true t f =
        let d = o.specification in
        let is : state_of (after (suc k)) n ≡ type_state (own_type p n) (told_scope p os states d) (free_scope p os states d) d = next_at n o e ∙ as_type d.entity n d o.column t in
        let stands : (state_of (after (suc k)) n).stands ≡ (state_of found n).stands = ap (λ (s : State). s.stands) is ∙ sym (ap (λ (s : State). s.stands) f.is) in
        record {
          stand = λ h. stands;
          told = λ h. (stands, ap (λ (s : State). s.right) is ∙ right_stays n d t f h ∙ sym (ap (λ (s : State). s.right) f.is));
          own = λ h.
              let r = f.right in
              let q : ranks.told n ≤ suc k = omega (arith, h, r) in
              is
              ∙ ap (with_right (sort.IsType (own_type p n)) (faults_in (free_scope p os states d) (type_hint d.entity) d.type_tree)) (right_stays n d t f q)
              ∙ ap (λ fs. with_right (sort.IsType (own_type p n)) fs (right_of (type_hint d.entity) (told_scope p os found d) d)) (faults_stay n d t f h)
              ∙ sym f.is;
        }
    next_holds n o e false t f =
        let d = o.specification in
        let is : state_of (after (suc k)) n ≡ value_state (free_scope p os states d) d o.column (own_faults (free_scope p os states d) d o.column) = next_at n o e ∙ as_value d.entity n d o.column t in
        let whole : ranks.own n ≤ suc k → state_of (after (suc k)) n ≡ state_of found n = λ h. is ∙ value_same n d o.column t f h in
        let s = f.stands in
        let r = f.right in
        record {
          stand = λ h. let q : ranks.own n ≤ suc k = omega (arith, h, s) in ap (λ (z : State). z.stands) (whole q);
          told = λ h. let q : ranks.own n ≤ suc k = omega (arith, h, r) in (ap (λ (z : State). z.stands) (whole q), ap (λ (z : State). z.right) (whole q));
          own = whole;
        }

  first : (n : ℕ) (o : Option Outline) → slice_get os n ≡ o → Holds 0 n
  first n None e = beyond 0 n e
  first n (Some o) e = first_holds n o e (is_type o.specification.entity) refl (a.each n o e)

  next : (k : ℕ) → ((n : ℕ) → Holds k n) → (n : ℕ) (o : Option Outline) → slice_get os n ≡ o → Holds (suc k) n
  next k before n None e = beyond (suc k) n e
  next k before n (Some o) e = next_holds k before n o e (is_type o.specification.entity) refl (a.each n o e)

  holds : (k n : ℕ) → Holds k n
  holds zero n = first n (slice_get os n) refl
  holds (suc k) n = next k (holds k) n (slice_get os n) refl

  pub settled : (k : ℕ) → AreAtMost ranks k → known p os k ≡ found
  settled k m = lists_same (known p os k) found (known_length p os k ∙ sym a.as_many) (λ n. (holds k n).own (m.own n))

  pub further : (k : ℕ) → AreAtMost ranks k → known p os (suc k) ≡ known p os k
  further k m =
      settled (suc k) (record {
        stand = λ n. let h = m.stand n in let q : ranks.stand n ≤ suc k = omega (arith, h) in q;
        told = λ n. let h = m.told n in let q : ranks.told n ≤ suc k = omega (arith, h) in q;
        own = λ n. let h = m.own n in let q : ranks.own n ≤ suc k = omega (arith, h) in q;
      })
      ∙ sym (settled k m)
