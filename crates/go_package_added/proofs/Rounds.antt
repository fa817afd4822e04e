-- What is known of objects after as many rounds, where the package has one function more.
use Rattle.std.proofs.Common.{◌≡◌, ◌∙◌, ℕ, zero, suc, ◌+◌, ◌≤◌, true, false, List, [], ◌∷◌, length, map, None, refl, sym, ap, arith}
use Rattle.std.specs.Prelude.{if◌then◌else◌, nat_lt}
use Rattle.std.specs.List.{AllByRecursion}
use Rattle.std.proofs.lemmas.Bool.Decides.{nat_tests}
use Rattle.go_tree.specs.declared.context.Entity.{Entity}
use Rattle.go_tree.specs.declared.context.Entity.TheVariants as entity
use Rattle.go_types.specs.Trees.{TypeTree, declared}
use Rattle.go_typed.specs.declared.form.Referent.{Referent}
use Rattle.go_typed.specs.declared.form.Referent.TheVariants as referent
use Rattle.go_typed.specs.Trees as sort
use Rattle.go_exprs_elsewhere.specs.Elsewhere.{referent_moved}
use Rattle.go_package_defs.specs.Declarations.{Specification}
use Rattle.go_package_defs.specs.Knowledge.{Outline, outlines, State, is_sound, is_told, free_scope, told_scope, referent_at}
use Rattle.go_package_defs.specs.Sources.{Package}
use Rattle.go_package_defs.specs.Verdicts.{number_of_type, own_type, right_found, type_faults, typed_type, type_state, state_by, next_states, first_state, first_states, known}
use Rattle.go_heads_added.specs.Added.{Gap, beyond}
use Rattle.go_package_added.specs.OneMore.{inserted, outline_beyond, IsKept, IsOneMore}
use Rattle.go_package_added.proofs.Assigned.{m}
use Rattle.go_package_added.proofs.Judged.{value_state_anew, right_anew, judging_anew}
use Rattle.go_package_added.proofs.Scopes.{MovesTyped, KeepsWords, FollowsTokens, scopes_anew}

pub in_front : (a n : ℕ) → suc n ≤ a → beyond a n ≡ n
in_front a n h = ap (λ b. if b then n else suc n) (let z : nat_lt n a ≡ true = grind (arith, nat_tests) in z)

pub behind_it : (a n : ℕ) → a ≤ n → beyond a n ≡ suc n
behind_it a n h = ap (λ b. if b then n else suc n) (let z : nat_lt n a ≡ false = grind (arith, nat_tests) in z)

pub states_count : (p : Package) (os : List Outline) (ss : List State) (n : ℕ) (us : List Outline) → length (next_states p os ss n us) ≡ length us
states_count p os ss n [] = refl
states_count p os ss n (u ∷ us) = ap suc (states_count p os ss (suc n) us)

first_count : (p : Package) (n : ℕ) (us : List Outline) → length (first_states p n us) ≡ length us
first_count p n [] = refl
first_count p n (u ∷ us) = ap suc (first_count p (suc n) us)

pub known_count : (p : Package) (os : List Outline) (k : ℕ) → length (known p os k) ≡ length os
known_count p os zero = first_count p 0 os
known_count p os (suc k) = states_count p os (known p os k) 0 os

type_number : (g : Gap) (r : Referent) → number_of_type (referent_moved (m g) r) ≡ number_of_type r
type_number g (referent.Type k) = refl
type_number g (referent.Constant k) = refl
type_number g (referent.Variable k) = refl
type_number g (referent.Function k) = refl
type_number g (referent.Predeclared k) = refl
type_number g referent.Println = refl

module _ (moves : MovesTyped) (keeps : KeepsWords) (follows : FollowsTokens) (p q : Package) (ds es : List Specification) (g : Gap) (h : IsOneMore p q ds es g)
    (inside : g.shared ≤ length (outlines p ds)) where
  abbrev xs : List Outline
  xs = outlines p ds

  abbrev Kept : Outline → Type 0
  Kept o = IsKept p q g o.specification

  abbrev pub all_of : List Outline
  all_of = inserted g.shared h.function (map (outline_beyond g.shared) xs)

  type_same : (n : ℕ) → own_type q (beyond g.shared n) ≡ own_type p n
  type_same n = ap (λ r. declared (number_of_type r)) (h.referents n) ∙ ap declared (type_number g (referent_at p n))

  module _ (y : State) (ss : List State) (as_many : g.shared ≤ length ss) where
    abbrev ts : List State
    ts = inserted g.shared y ss

    type_state_same : (t : TypeTree) (d : Specification) → IsKept p q g d → type_state t (told_scope q all_of ts d) (free_scope q all_of ts d) d ≡ type_state t (told_scope p xs ss d) (free_scope p xs ss d) d
    type_state_same t d k =
        let told = scopes_anew moves keeps follows p q ds es g h inside y ss as_many is_told false d k in
        let judging = scopes_anew moves keeps follows p q ds es g h inside y ss as_many is_sound true d k in
        ap (λ o. let s : State = record { right = o; stands = sort.IsType t; faults = type_faults (free_scope q all_of ts d) d; assigning = [] } in s)
        (right_anew g k.test (told_scope p xs ss d) (told_scope q all_of ts d) told d k.type_read k.values_read)
        ∙ ap (λ fs. let s : State = record { right = right_found (type_faults (told_scope p xs ss d) d) (typed_type (told_scope p xs ss d) d); stands = sort.IsType t; faults = fs; assigning = [] } in s)
        (judging_anew g k.test (free_scope p xs ss d) (free_scope q all_of ts d) judging d k.type_read k.values_read)

    by_sort : (e : Entity) (n : ℕ) (d : Specification) (c : ℕ) → IsKept p q g d → state_by e q all_of ts (beyond g.shared n) d c ≡ state_by e p xs ss n d c
    by_sort entity.Type n d c k =
        ap (λ t. type_state t (told_scope q all_of ts d) (free_scope q all_of ts d) d) (type_same n) ∙ type_state_same (own_type p n) d k
    by_sort entity.Constant n d c k = value_state_anew g k.test (free_scope p xs ss d) (free_scope q all_of ts d) (scopes_anew moves keeps follows p q ds es g h inside y ss as_many is_sound true d k) d k.type_read k.values_read c
    by_sort entity.Variable n d c k = value_state_anew g k.test (free_scope p xs ss d) (free_scope q all_of ts d) (scopes_anew moves keeps follows p q ds es g h inside y ss as_many is_sound true d k) d k.type_read k.values_read c
    by_sort entity.Function n d c k = value_state_anew g k.test (free_scope p xs ss d) (free_scope q all_of ts d) (scopes_anew moves keeps follows p q ds es g h inside y ss as_many is_sound true d k) d k.type_read k.values_read c
    by_sort entity.Parameter n d c k = value_state_anew g k.test (free_scope p xs ss d) (free_scope q all_of ts d) (scopes_anew moves keeps follows p q ds es g h inside y ss as_many is_sound true d k) d k.type_read k.values_read c

    next_behind : (n : ℕ) (us : List Outline) → g.shared ≤ n → AllByRecursion Kept us → next_states q all_of ts (suc n) (map (outline_beyond g.shared) us) ≡ next_states p xs ss n us
    next_behind n [] l k = refl
    next_behind n (u ∷ us) l k =
        let d = u.specification in
        ap (λ i. state_by d.entity q all_of ts i d u.column ∷ next_states q all_of ts (suc (suc n)) (map (outline_beyond g.shared) us)) (sym (behind_it g.shared n l))
        ∙ ap (λ s. s ∷ next_states q all_of ts (suc (suc n)) (map (outline_beyond g.shared) us)) (by_sort d.entity n d u.column k.0)
        ∙ ap (λ zs. state_by d.entity p xs ss n d u.column ∷ zs) (next_behind (suc n) us (omega (arith, l)) k.1)

    -- what the function is found to be
    abbrev pub function_found : State
    function_found = state_by h.function.specification.entity q all_of ts g.shared h.function.specification h.function.column

    next_with : (b n : ℕ) (us : List Outline) → b + n ≡ g.shared → b ≤ length us → AllByRecursion Kept us
        → next_states q all_of ts n (inserted b h.function (map (outline_beyond g.shared) us)) ≡ inserted b function_found (next_states p xs ss n us)
    next_with zero n us e l k =
        let same : n ≡ g.shared = omega (arith, e) in
        ap (λ i. state_by h.function.specification.entity q all_of ts i h.function.specification h.function.column ∷ next_states q all_of ts (suc n) (map (outline_beyond g.shared) us)) same
        ∙ ap (λ zs. function_found ∷ zs) (next_behind n us (omega (arith, same)) k)
    next_with (suc b) n [] e l k = absurd (omega (arith, l))
    next_with (suc b) n (u ∷ us) e l k =
        let d = u.specification in
        ap (λ i. state_by d.entity q all_of ts i d u.column ∷ next_states q all_of ts (suc n) (inserted b h.function (map (outline_beyond g.shared) us))) (sym (in_front g.shared n (omega (arith, e))))
        ∙ ap (λ s. s ∷ next_states q all_of ts (suc n) (inserted b h.function (map (outline_beyond g.shared) us))) (by_sort d.entity n d u.column k.0)
        ∙ ap (λ zs. state_by d.entity p xs ss n d u.column ∷ zs) (next_with b (suc n) us (omega (arith, e)) (omega (arith, l)) k.1)

  -- ---- at first

  first_same : (e : Entity) (n : ℕ) → first_state q (beyond g.shared n) e ≡ first_state p n e
  first_same entity.Type n = ap (λ t. let s : State = record { right = None; stands = sort.IsType t; faults = []; assigning = [] } in s) (type_same n)
  first_same entity.Constant n = refl
  first_same entity.Variable n = refl
  first_same entity.Function n = refl
  first_same entity.Parameter n = refl

  first_behind : (n : ℕ) (us : List Outline) → g.shared ≤ n → first_states q (suc n) (map (outline_beyond g.shared) us) ≡ first_states p n us
  first_behind n [] l = refl
  first_behind n (u ∷ us) l =
      ap (λ i. first_state q i u.specification.entity ∷ first_states q (suc (suc n)) (map (outline_beyond g.shared) us)) (sym (behind_it g.shared n l))
      ∙ ap (λ s. s ∷ first_states q (suc (suc n)) (map (outline_beyond g.shared) us)) (first_same u.specification.entity n)
      ∙ ap (λ zs. first_state p n u.specification.entity ∷ zs) (first_behind (suc n) us (omega (arith, l)))

  abbrev function_first : State
  function_first = first_state q g.shared h.function.specification.entity

  first_with : (b n : ℕ) (us : List Outline) → b + n ≡ g.shared → b ≤ length us → first_states q n (inserted b h.function (map (outline_beyond g.shared) us)) ≡ inserted b function_first (first_states p n us)
  first_with zero n us e l =
      let same : n ≡ g.shared = omega (arith, e) in
      ap (λ i. first_state q i h.function.specification.entity ∷ first_states q (suc n) (map (outline_beyond g.shared) us)) same ∙ ap (λ zs. function_first ∷ zs) (first_behind n us (omega (arith, same)))
  first_with (suc b) n [] e l = absurd (omega (arith, l))
  first_with (suc b) n (u ∷ us) e l =
      ap (λ i. first_state q i u.specification.entity ∷ first_states q (suc n) (inserted b h.function (map (outline_beyond g.shared) us))) (sym (in_front g.shared n (omega (arith, e))))
      ∙ ap (λ s. s ∷ first_states q (suc n) (inserted b h.function (map (outline_beyond g.shared) us))) (first_same u.specification.entity n)
      ∙ ap (λ zs. first_state p n u.specification.entity ∷ zs) (first_with b (suc n) us (omega (arith, e)) (omega (arith, l)))

  -- ---- rounds

  pub long_enough : (k : ℕ) → g.shared ≤ length (known p xs k)
  long_enough k = let e = known_count p xs k in omega (arith, e, inside)

  -- what is known of the function after k rounds
  abbrev pub function_known : ℕ → State
  function_known zero = function_first
  function_known (suc k) = function_found (function_known k) (known p xs k) (long_enough k)

  pub known_with : (k : ℕ) → known q all_of k ≡ inserted g.shared (function_known k) (known p xs k)
  known_with zero = first_with g.shared 0 xs (omega arith) inside
  known_with (suc k) =
      ap (λ ts. next_states q all_of ts 0 all_of) (known_with k)
      ∙ next_with (function_known k) (known p xs k) (long_enough k) g.shared 0 xs (omega arith) inside h.outlines_kept
