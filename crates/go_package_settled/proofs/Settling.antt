-- From its stages on a further round finds the same of an object.
use Rattle.std.proofs.Common.{◌≡◌, ℕ, zero, suc, ◌+◌, ◌<◌, ◌≤◌, Bool, true, false, List, [], ◌∷◌, length, Option, Some, None, refl, sym, ap, ◌∙◌, subst, arith}
use Rattle.std.specs.Prelude.{slice_get, nat_le}
use Rattle.std.proofs.lemmas.Bool.{ltb-true, lt-ltb, le-leb}
use Rattle.go_grammar.specs.Trees.{Tree}
use Rattle.go_tree.specs.declared.context.Entity.{Entity}
use Rattle.go_tree.specs.declared.context.Entity.TheVariants as entity
use Rattle.go_tree.specs.declared.object.Declared.{Declared}
use Rattle.go_tree.specs.declared.object.Object.{Object}
use Rattle.go_tree.specs.declared.object.Object.TheVariants as object
use Rattle.go_tree.specs.Uses.{object_of}
use Rattle.go_types.specs.Trees.{TypeTree}
use Rattle.go_types_relations.specs.Questions.{entry}
use Rattle.go_typed.specs.Trees as sort
use Rattle.go_exprs_rules.specs.declared.fault.TypeFault.{TypeFault}
use Rattle.go_exprs_rules.specs.Scopes.{Needed, in_full, Scope, Hint, type_place}
use Rattle.go_exprs_rules.specs.Sorts.{Stands}
use Rattle.go_package_defs.specs.Declarations.{Specification}
use Rattle.go_package_defs.specs.Knowledge.{Outline, State, state_of, is_type, is_sound, is_told, is_told_by, passes, stands_if, stands_where, rights_of, free_scope, told_scope}
use Rattle.go_package_defs.specs.Sources.{Package, rounds}
use Rattle.go_package_defs.specs.Verdicts.{type_hint, part_in, faults_in, own_value, own_faults, own_type, value_state, type_state, first_state, known, right_found}
use Rattle.go_package_laws.specs.Judged.{PartAgrees, RightAgrees, LimitAgrees}
use Rattle.go_package_laws.specs.Names.{ObjectSame, ObjectWithin, ObjectAgrees, type_ways, limited_ways}
use Rattle.go_package_laws.specs.Ranks.{Ranks, reached, NeedBefore, NeedsBefore, type_object, AreAtMost}
use Rattle.go_package_laws.specs.Reach.{MaybeWithin, AgreeOn, StandsWithin}
use Rattle.go_package_laws.specs.Stages.{TypesBefore, StageBefore, NamesStaged, told_stages, own_stages, IsStagedAs}
use Rattle.go_package_laws.proofs.Public.{judged_so, right_same, limit_faults, object_same, right_there, right_entry, as_many_rights, maybe_more, each_more, needs_more}
use Rattle.go_package_settled.specs.Agreeing.{ExpressionsAgree, TypesAgree}
use Rattle.go_package_settled.specs.Heights.{Needing}
use Rattle.go_package_settled.specs.Ordered.{Passes, NeedsNames, NeedsTypes, type_needs, NeedsNamed, NeedsAreOrdered, reach_of, stages, IsSettled}
use Rattle.go_package_settled.proofs.Reaching.{near, told_most, reach_most}
use Rattle.go_package_settled.proofs.StageOrder.{own_is, own_later, told_later, told_value, stand_type, stand_value, told_under_own, own_low, told_low, stand_low}
use Rattle.go_package_settled.proofs.Within.{Reaches, reaches, hint_is, need_is, full_is, as_type, as_value, known_length, first_at, next_at, beyond}
use Rattle.go_package_settled.proofs.Staged.{sort_is, value_stage, told_need, counted_stage, own_counted, own_need}

lists_same : (xs ys : List State) → length xs ≡ length ys → ((n : ℕ) → state_of xs n ≡ state_of ys n) → xs ≡ ys
lists_same [] [] l h = refl
lists_same [] (y ∷ ys) l h = cc
lists_same (x ∷ xs) [] l h = cc
lists_same (x ∷ xs) (y ∷ ys) l h =
    let e : x ≡ y = h 0 in
    let r = lists_same xs ys (let q : length xs ≡ length ys = omega (arith, l) in q) (λ n. h (suc n)) in
    cc

module _ (expressions : ExpressionsAgree) (types : TypesAgree) (p : Package) (os : List Outline) (x : Needing) (a : NeedsAreOrdered p os x) where
  abbrev s : Ranks
  s = stages p x

  abbrev ds : List Declared
  ds = p.uses.package_level

  -- a round behind the k-th finds the same of an object, where its stages are past
  record Same (k n : ℕ) : Type 0 where
    stand : s.stand n ≤ k → (state_of (known p os (suc k)) n).stands ≡ (state_of (known p os k) n).stands
    told : s.told n ≤ k → ((state_of (known p os (suc k)) n).stands ≡ (state_of (known p os k) n).stands) × ((state_of (known p os (suc k)) n).right ≡ (state_of (known p os k) n).right)
    own : s.own n ≤ k → state_of (known p os (suc k)) n ≡ state_of (known p os k) n

  all_same : (k n : ℕ) → state_of (known p os (suc k)) n ≡ state_of (known p os k) n → Same k n
  all_same k n e = record { stand = λ h. ap (λ (z : State). z.stands) e; told = λ h. (ap (λ (z : State). z.stands) e, ap (λ (z : State). z.right) e); own = λ h. e }

  none_same : (k n : ℕ) → slice_get os n ≡ None → Same k n
  none_same k n e = all_same k n (beyond p os (suc k) n e ∙ sym (beyond p os k n e))

  -- ---- the first round

  first_type : (n : ℕ) (e : Entity) → is_type e ≡ true → (first_state p n e).stands ≡ sort.IsType (own_type p n)
  first_type n entity.Type e = refl
  first_type n z e = absurd cc

  type_next : (k n : ℕ) (o : Outline) → slice_get os n ≡ Some o → is_type o.specification.entity ≡ true
      → state_of (known p os (suc k)) n ≡ type_state (own_type p n) (told_scope p os (known p os k) o.specification) (free_scope p os (known p os k) o.specification) o.specification
  type_next k n o e t = next_at p os k n o e ∙ as_type p os (known p os k) o.specification.entity n o.specification o.column t

  value_next : (k n : ℕ) (o : Outline) → slice_get os n ≡ Some o → is_type o.specification.entity ≡ false
      → let f = free_scope p os (known p os k) o.specification in state_of (known p os (suc k)) n ≡ value_state f o.specification o.column (own_faults f o.specification o.column)
  value_next k n o e t = next_at p os k n o e ∙ as_value p os (known p os k) o.specification.entity n o.specification o.column t

  first_same : (n : ℕ) (o : Outline) → slice_get os n ≡ Some o → (b : Bool) → is_type o.specification.entity ≡ b → Same 0 n
  first_same n o e true t =
      let sorted = sort_is expressions types p os x a n o true e t in
      let z = told_later x a.order n sorted in
      let w = own_later x a.order n true sorted in
      record {
        stand = λ h. ap (λ (q : State). q.stands) (type_next 0 n o e t) ∙ sym (ap (λ (q : State). q.stands) (first_at p os n o e) ∙ first_type n o.specification.entity t);
        told = λ h. absurd (omega (arith, h, z));
        own = λ h. absurd (omega (arith, h, w));
      }
  first_same n o e false t =
      let sorted = sort_is expressions types p os x a n o false e t in
      let w = own_later x a.order n false sorted in
      let i = own_is x a.order n false sorted in
      let f = told_value x a.order n sorted in
      let g = stand_value x a.order n sorted in
      record {
        stand = λ h. absurd (omega (arith, h, w, i, g));
        told = λ h. absurd (omega (arith, h, w, i, f));
        own = λ h. absurd (omega (arith, h, w));
      }

  first : (n : ℕ) (o : Option Outline) → slice_get os n ≡ o → Same 0 n
  first n None e = none_same 0 n e
  first n (Some o) e = first_same n o e (is_type o.specification.entity) refl

  -- ---- a further round

  module _ (k : ℕ) (before : (m : ℕ) → Same k m) where
    abbrev old : List State
    old = known p os k

    abbrev new : List State
    new = known p os (suc k)

    told_tests : (c : ℕ) → c ≤ suc k → (n : ℕ) → s.told n < c → is_told (state_of new n) ≡ is_told (state_of old n)
    told_tests c b n h =
        let q : s.told n ≤ k = omega (arith, b, h) in
        let e = ((before n).told q).0 in
        let f = ((before n).told q).1 in
        ap (λ z. is_told_by z (state_of new n).right) e ∙ ap (is_told_by (state_of old n).stands) f

    told_stands : (c : ℕ) → c ≤ suc k → (n : ℕ) → s.told n < c → (state_of new n).stands ≡ (state_of old n).stands
    told_stands c b n h = let q : s.told n ≤ k = omega (arith, b, h) in ((before n).told q).0

    stood : (c : ℕ) → c ≤ suc k → (n : ℕ) → s.stand n < c → (state_of new n).stands ≡ (state_of old n).stands
    stood c b n h = let q : s.stand n ≤ k = omega (arith, b, h) in (before n).stand q

    own_tests : (c : ℕ) → c ≤ suc k → (n : ℕ) → s.own n < c → is_sound (state_of new n) ≡ is_sound (state_of old n)
    own_tests c b n h = let q : s.own n ≤ k = omega (arith, b, h) in ap is_sound ((before n).own q)

    own_stands : (c : ℕ) → c ≤ suc k → (n : ℕ) → s.own n < c → (state_of new n).stands ≡ (state_of old n).stands
    own_stands c b n h = let q : s.own n ≤ k = omega (arith, b, h) in ap (λ (z : State). z.stands) ((before n).own q)

    told_object : (c : ℕ) → c ≤ suc k → (way : Needed) (o : Option Object) → NeedBefore os s.told s.stand c way o → ObjectSame (stands_where is_told os old) (stands_where is_told os new) way o
    told_object c b way o h = object_same os old new is_told s.told s.stand c (told_tests c b) (told_stands c b) (stood c b) way o h

    own_object : (c : ℕ) → c ≤ suc k → (way : Needed) (o : Option Object) → NeedBefore os s.own s.stand c way o → ObjectSame (stands_where is_sound os old) (stands_where is_sound os new) way o
    own_object c b way o h = object_same os old new is_sound s.own s.stand c (own_tests c b) (own_stands c b) (stood c b) way o h

    if_reached : (c : ℕ) (b : Bool) (z : State) → StandsWithin (reached s c) z.stands → StandsWithin (reached s c) (stands_if b z)
    if_reached c true z w = w
    if_reached c false z w = tt

    object_reached : (test : State → Bool) (c : ℕ) (way : Needed) (o : Option Object) → TypesBefore old s c o → ObjectWithin (reached s c) (stands_where test os old) way o
    object_reached test c way None h = tt
    object_reached test c way (Some object.Import) h = tt
    object_reached test c way (Some (object.Predeclared i)) h = tt
    object_reached test c way (Some (object.Local f m)) h = tt
    object_reached test c way (Some (object.Package m)) h = if_reached c (passes test os old way m) (state_of old m) h

    -- ---- right sides

    right_there_same : (c : ℕ) → c ≤ suc k → (o : Option ℕ) → reach_of x o < c → right_there new o ≡ right_there old o
    right_there_same c b None h = refl
    right_there_same c b (Some n) h =
        let l = told_most x a.order n (x.sort n) refl in
        let q : s.told n ≤ k = omega (arith, b, h, l) in
        ((before n).told q).1

    right_agrees : (c : ℕ) → c ≤ suc k → (t : ℕ) → reached s c t ≡ true → entry (rights_of p new) t ≡ entry (rights_of p old) t
    right_agrees c b t e =
        right_entry ds new (known_length p os (suc k) ∙ sym a.declared) t
        ∙ right_there_same c b (type_object ds t) (ltb-true (s.reach t) c e)
        ∙ sym (right_entry ds old (known_length p os k ∙ sym a.declared) t)

    right_closed : (c : ℕ) (o : Option ℕ) → reach_of x o < c → MaybeWithin (reached s c) (right_there old o)
    right_closed c None h = tt
    right_closed c (Some n) h =
        let w : Reaches expressions types p os x a k n = reaches expressions types p os x a k n in
        maybe_more (near ds x n) (reached s c)
        (λ u q. let l = reach_most x a.order ds n u q in lt-ltb (s.reach u) c (omega (arith, l, h)))
        (state_of old n).right w.right

    rights_closed : (c t : ℕ) → reached s c t ≡ true → MaybeWithin (reached s c) (entry (rights_of p old) t)
    rights_closed c t e =
        subst (MaybeWithin (reached s c)) (sym (right_entry ds old (known_length p os k ∙ sym a.declared) t)) (right_closed c (type_object ds t) (ltb-true (s.reach t) c e))

    agree : (c : ℕ) → c ≤ suc k → AgreeOn (reached s c) (rights_of p old) (rights_of p new)
    agree c b = record { same = right_agrees c b; closed = rights_closed c; as_many = as_many_rights ds new old (known_length p os (suc k) ∙ sym (known_length p os k)) }

    -- ---- constants, variables and functions

    part_agrees : (n : ℕ) → s.own n ≤ suc k → x.sort n ≡ Some false → (d : Specification) (o : Option Tree) → NeedsNames x n p d o
        → PartAgrees (reached s (s.own n)) (free_scope p os old d) (stands_where is_sound os new) o
    part_agrees n b t d None h = tt
    part_agrees n b t d (Some z) h =
        each_more (λ i. Passes (x.full n) (object_of p.uses d.file i))
        (λ i. ObjectAgrees (reached s (s.own n)) (stands_where is_sound os old) (stands_where is_sound os new) in_full (object_of p.uses d.file i))
        (λ i q.
        let g = value_stage expressions types p os x a k n t (object_of p.uses d.file i) q in
        (own_object (s.own n) b in_full (object_of p.uses d.file i) g.0, object_reached is_sound (s.own n) in_full (object_of p.uses d.file i) g.1)) z h

    value_same : (n : ℕ) (d : Specification) (c : ℕ) → is_type d.entity ≡ false → x.sort n ≡ Some false → NeedsNames x n p d d.type_tree → NeedsNames x n p d (own_value d c) → s.own n ≤ suc k
        → value_state (free_scope p os new d) d c (own_faults (free_scope p os new d) d c) ≡ value_state (free_scope p os old d) d c (own_faults (free_scope p os old d) d c)
    value_same n d c e t of own b =
        judged_so (reached s (s.own n)) (free_scope p os old d) (rights_of p new) (stands_where is_sound os new) d c
        (record { needed = full_is d.entity e; rights = agree (s.own n) b; of = part_agrees n b t d d.type_tree of; value = part_agrees n b t d (own_value d c) own })

    -- ---- types

    right_before : (n : ℕ) → s.told n ≤ suc k → x.sort n ≡ Some true → (d : Specification) (o : Option Tree) → NeedsTypes x n p d o
        → RightAgrees (reached s (s.told n)) (told_scope p os old d) (stands_where is_told os new) o
    right_before n b t d None h = tt
    right_before n b t d (Some z) h =
        needs_more (type_needs x n p d) (type_ways (reached s (s.told n)) (told_scope p os old d) (stands_where is_told os new))
        (λ way i q. told_object (s.told n) b way (object_of p.uses d.file i) (told_need expressions types p os x a n t way (object_of p.uses d.file i) q))
        (λ i q.
        let g = counted_stage expressions types p os x a n t k (object_of p.uses d.file i) q in
        (told_object (s.told n) b in_full (object_of p.uses d.file i) g.0, object_reached is_told (s.told n) in_full (object_of p.uses d.file i) g.1))
        (λ i q. absurd q) type_place z h

    limit_before : (n : ℕ) → s.own n ≤ suc k → x.sort n ≡ Some true → (d : Specification) (o : Option Tree) → NeedsTypes x n p d o
        → LimitAgrees (reached s (s.own n)) (free_scope p os old d) (stands_where is_sound os new) o
    limit_before n b t d None h = tt
    limit_before n b t d (Some z) h =
        needs_more (type_needs x n p d) (limited_ways (reached s (s.own n)) (free_scope p os old d) (stands_where is_sound os new))
        (λ way i q.
        let g = own_need expressions types p os x a n t k way (object_of p.uses d.file i) q in
        (own_object (s.own n) b way (object_of p.uses d.file i) g.0, object_reached is_sound (s.own n) way (object_of p.uses d.file i) g.1))
        (λ i q.
        let g = own_counted expressions types p os x a n t k (object_of p.uses d.file i) q in
        (own_object (s.own n) b in_full (object_of p.uses d.file i) g.0, object_reached is_sound (s.own n) in_full (object_of p.uses d.file i) g.1))
        (λ i q. absurd q) type_place z h

    abbrev right_of : Hint → Scope → Specification → Option TypeTree
    right_of h f d = right_found (faults_in f h d.type_tree) (part_in f h d.type_tree)

    right_stays : (n : ℕ) (d : Specification) → is_type d.entity ≡ true → x.sort n ≡ Some true → NeedsTypes x n p d d.type_tree → s.told n ≤ suc k
        → right_of (type_hint d.entity) (told_scope p os new d) d ≡ right_of (type_hint d.entity) (told_scope p os old d) d
    right_stays n d e t h b =
        subst (λ g. right_of g (told_scope p os new d) d ≡ right_of g (told_scope p os old d) d) (sym (hint_is d.entity e))
        (right_same (reached s (s.told n)) (told_scope p os old d) (rights_of p new) (stands_where is_told os new) d.type_tree (need_is d.entity e) refl
        (agree (s.told n) b) (right_before n b t d d.type_tree h))

    faults_stay : (n : ℕ) (d : Specification) → is_type d.entity ≡ true → x.sort n ≡ Some true → NeedsTypes x n p d d.type_tree → s.own n ≤ suc k
        → faults_in (free_scope p os new d) (type_hint d.entity) d.type_tree ≡ faults_in (free_scope p os old d) (type_hint d.entity) d.type_tree
    faults_stay n d e t h b =
        subst (λ g. faults_in (free_scope p os new d) g d.type_tree ≡ faults_in (free_scope p os old d) g d.type_tree) (sym (hint_is d.entity e))
        (limit_faults (reached s (s.own n)) (free_scope p os old d) (rights_of p new) (stands_where is_sound os new) d.type_tree (need_is d.entity e)
        (agree (s.own n) b) (limit_before n b t d d.type_tree h))

    -- ---- both

    abbrev with_right : Stands → List TypeFault → Option TypeTree → State
    with_right z fs r = record { right = r; stands = z; faults = fs; assigning = [] }

    next_same : (n : ℕ) (o : Outline) → slice_get os n ≡ Some o → (b : Bool) → is_type o.specification.entity ≡ b → NeedsNamed x p n o b → Same (suc k) n
    next_same n o e true t h =
        let d = o.specification in
        let sorted = sort_is expressions types p os x a n o true e t in
        let up = type_next (suc k) n o e t in
        let down = type_next k n o e t in
        let stands : (state_of (known p os (suc (suc k))) n).stands ≡ (state_of new n).stands = ap (λ (z : State). z.stands) up ∙ sym (ap (λ (z : State). z.stands) down) in
        record {
          stand = λ q. stands;
          told = λ q. (stands, ap (λ (z : State). z.right) up ∙ right_stays n d t sorted h q ∙ sym (ap (λ (z : State). z.right) down));
          own = λ q.
              let r = told_under_own x a.order n sorted in
              let l : s.told n ≤ suc k = omega (arith, q, r) in
              up
              ∙ ap (with_right (sort.IsType (own_type p n)) (faults_in (free_scope p os new d) (type_hint d.entity) d.type_tree)) (right_stays n d t sorted h l)
              ∙ ap (λ fs. with_right (sort.IsType (own_type p n)) fs (right_of (type_hint d.entity) (told_scope p os old d) d)) (faults_stay n d t sorted h q)
              ∙ sym down;
        }
    next_same n o e false t h =
        let d = o.specification in
        let sorted = sort_is expressions types p os x a n o false e t in
        let whole : s.own n ≤ suc k → state_of (known p os (suc (suc k))) n ≡ state_of new n =
        λ q. value_next (suc k) n o e t ∙ value_same n d o.column t sorted h.0 h.1 q ∙ sym (value_next k n o e t) in
        let i = own_is x a.order n false sorted in
        let f = told_value x a.order n sorted in
        let g = stand_value x a.order n sorted in
        record {
          stand = λ q. let l : s.own n ≤ suc k = omega (arith, q, i, g) in ap (λ (z : State). z.stands) (whole l);
          told = λ q. let l : s.own n ≤ suc k = omega (arith, q, i, f) in (ap (λ (z : State). z.stands) (whole l), ap (λ (z : State). z.right) (whole l));
          own = whole;
        }

    next : (n : ℕ) (o : Option Outline) → slice_get os n ≡ o → Same (suc k) n
    next n None e = none_same (suc k) n e
    next n (Some o) e = next_same n o e (is_type o.specification.entity) refl (a.named n o e)

  same : (k n : ℕ) → Same k n
  same zero n = first n (slice_get os n) refl
  same (suc k) n = next k (λ m. same k m) n (slice_get os n) refl

  -- ---- all rounds

  -- no stage is above the rounds of a package
  all_rounds : x.size + x.size ≡ rounds p
  all_rounds = let m = a.declared in let n = a.size in omega (arith, m, n)

  pub low : AreAtMost s (rounds p)
  low =
      let m = all_rounds in
      record {
        stand = λ n. let h = stand_low x a.order n (x.sort n) refl in omega (arith, h, m);
        told = λ n. let h = told_low x a.order n in omega (arith, h, m);
        own = λ n. let h = own_low x a.order n (x.sort n) refl in omega (arith, h, m);
      }

  next_is : (k : ℕ) → rounds p ≤ k → known p os (suc k) ≡ known p os k
  next_is k l =
      lists_same (known p os (suc k)) (known p os k) (known_length p os (suc k) ∙ sym (known_length p os k))
      (λ n. let h = low.own n in (same k n).own (omega (arith, h, l)))

  pub further : (k : ℕ) → known p os (k + rounds p) ≡ known p os (rounds p)
  further zero = let e : 0 + rounds p ≡ rounds p = omega arith in ap (known p os) e
  further (suc k) =
      let e : suc k + rounds p ≡ suc (k + rounds p) = omega arith in
      let l : rounds p ≤ k + rounds p = omega arith in
      ap (known p os) e ∙ next_is (k + rounds p) l ∙ further k

  -- ---- stages

  abbrev found : List State
  found = known p os (rounds p)

  names_staged : (n : ℕ) → x.sort n ≡ Some false → (d : Specification) (o : Option Tree) → NeedsNames x n p d o → NamesStaged p os found s (s.own n) d o
  names_staged n t d None h = tt
  names_staged n t d (Some z) h =
      each_more (λ i. Passes (x.full n) (object_of p.uses d.file i)) (λ i. StageBefore os found s s.own (s.own n) in_full (object_of p.uses d.file i))
      (λ i q. value_stage expressions types p os x a (rounds p) n t (object_of p.uses d.file i) q) z h

  told_staged : (n : ℕ) → x.sort n ≡ Some true → (d : Specification) (o : Option Tree) → NeedsTypes x n p d o → NeedsBefore p os found s (told_stages p os found s (s.told n) d) o
  told_staged n t d None h = tt
  told_staged n t d (Some z) h =
      needs_more (type_needs x n p d) (told_stages p os found s (s.told n) d)
      (λ way i q. told_need expressions types p os x a n t way (object_of p.uses d.file i) q)
      (λ i q. counted_stage expressions types p os x a n t (rounds p) (object_of p.uses d.file i) q) (λ i q. absurd q) type_place z h

  own_staged : (n : ℕ) → x.sort n ≡ Some true → (d : Specification) (o : Option Tree) → NeedsTypes x n p d o → NeedsBefore p os found s (own_stages p os found s (s.own n) d) o
  own_staged n t d None h = tt
  own_staged n t d (Some z) h =
      needs_more (type_needs x n p d) (own_stages p os found s (s.own n) d)
      (λ way i q. own_need expressions types p os x a n t (rounds p) way (object_of p.uses d.file i) q)
      (λ i q. own_counted expressions types p os x a n t (rounds p) (object_of p.uses d.file i) q) (λ i q. absurd q) type_place z h

  staged_as : (n : ℕ) (o : Outline) → slice_get os n ≡ Some o → (b : Bool) → is_type o.specification.entity ≡ b → NeedsNamed x p n o b → IsStagedAs p os found s n o b
  staged_as n o e true t h =
      let sorted = sort_is expressions types p os x a n o true e t in
      let r = told_under_own x a.order n sorted in
      record {
        later = told_later x a.order n sorted;
        first = (let z = stand_type x a.order n sorted in let l : s.stand n ≤ s.told n = omega (arith, z) in l);
        right = (let l : s.told n ≤ s.own n = omega (arith, r) in l);
        of = told_staged n sorted o.specification o.specification.type_tree h;
        limits = own_staged n sorted o.specification o.specification.type_tree h;
      }
  staged_as n o e false t h =
      let sorted = sort_is expressions types p os x a n o false e t in
      let i = own_is x a.order n false sorted in
      let f = told_value x a.order n sorted in
      let g = stand_value x a.order n sorted in
      record {
        later = own_later x a.order n false sorted;
        stands = (let l : s.own n ≤ s.stand n = omega (arith, i, g) in l);
        right = (let l : s.own n ≤ s.told n = omega (arith, i, f) in l);
        of = names_staged n sorted o.specification o.specification.type_tree h.0;
        value = names_staged n sorted o.specification (own_value o.specification o.column) h.1;
      }

  type_reaches : (t n : ℕ) → type_object ds t ≡ Some n → s.told n ≤ s.reach t
  type_reaches t n e =
      let l = told_most x a.order n (x.sort n) refl in
      let q = ap (reach_of x) e in
      omega (arith, l, q)

  closed_there : (o : Option ℕ) (t : ℕ) → type_object ds t ≡ o → MaybeWithin (λ u. nat_le (s.reach u) (s.reach t)) (right_there found o)
  closed_there None t e = tt
  closed_there (Some n) t e =
      let w : Reaches expressions types p os x a (rounds p) n = reaches expressions types p os x a (rounds p) n in
      maybe_more (near ds x n) (λ u. nat_le (s.reach u) (s.reach t))
      (λ u q. let l = reach_most x a.order ds n u q in let r = ap (reach_of x) e in le-leb (s.reach u) (s.reach t) (omega (arith, l, r)))
      (state_of found n).right w.right

  closed : (t : ℕ) → MaybeWithin (λ u. nat_le (s.reach u) (s.reach t)) (entry (rights_of p found) t)
  closed t =
      subst (MaybeWithin (λ u. nat_le (s.reach u) (s.reach t))) (sym (right_entry ds found (known_length p os (rounds p) ∙ sym a.declared) t)) (closed_there (type_object ds t) t refl)

  pub settled : IsSettled p os
  settled = record {
    ranks = s;
    staged = record {
      declared = a.declared;
      same = next_is (rounds p) (let l : rounds p ≤ rounds p = omega arith in l);
      each = λ n o e. staged_as n o e (is_type o.specification.entity) refl (a.named n o e);
      reaches = type_reaches;
      closed = closed;
    };
    low = low;
    further = further;
  }
