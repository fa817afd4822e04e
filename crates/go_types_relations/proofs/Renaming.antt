-- Renamed types are told the same, renamed.
use Rattle.std.proofs.Common.{◌≡◌, ℕ, zero, suc, ◌+◌, Option, Some, None, length, refl, sym, ap, ◌∙◌, arith, Bool}
use Rattle.std.specs.Prelude.{◌&&◌, ◌||◌, not, nat_eq, max}
use Rattle.std.specs.Option.{option_map}
use Rattle.std.proofs.lemmas.Bool.{eqb-true, eq-eqb}
use Rattle.go_types.specs.Trees.{TypeTree, boolean, text, integer, array, slice, structure, function, declared, TypeRow, none, more, is_named}
use Rattle.go_types.specs.Relations.{Rights, array_scalars}
use Rattle.go_types_relations.specs.Questions.{Question, entry, asked_right, rounds, answers, asked, on_both}
use Rattle.go_types_relations.specs.Identity.{same_names, is_identical, are_identical}
use Rattle.go_types_relations.specs.Tests.{underlying_by, underlying_of, comparable_by, all_comparable_by, comparability_of, both_identical, is_assignable}
use Rattle.go_types_relations.specs.Sizes.{scalars_by, row_scalars_by, scalars_of}
use Rattle.go_types_relations.specs.Zeros.{Zero, elements, fields, more_zeros, zero_by, zeros_by, zero_of}
use Rattle.go_types_relations.specs.Renaming.{renamed, renamed_row, IsOneToOne, AreRenamed}
use Rattle.go_types_relations.proofs.Booleans.{map_itself, same_truth}
use Rattle.go_types_relations.proofs.Rounds.{Monotone, nothing_entry, round_entry, settled}
use Rattle.go_types_relations.proofs.Underlyings.{underlying_monotone}
use Rattle.go_types_relations.proofs.Comparing.{comparable_monotone}
use Rattle.go_types_relations.proofs.Counting.{scalars_monotone}
use Rattle.go_types_relations.proofs.Zeros.{zero_monotone}

-- ---- identity

module _ (name : ℕ → ℕ) (one : IsOneToOne name) where
  number_renamed : (n m : ℕ) → nat_eq (name n) (name m) ≡ nat_eq n m
  number_renamed n m = same_truth (nat_eq (name n) (name m)) (nat_eq n m) (λ e. eq-eqb n m (one n m (eqb-true (name n) (name m) e))) (λ e. eq-eqb (name n) (name m) (ap name (eqb-true n m e)))

  mutual
    pub identical_renamed : (t u : TypeTree) → is_identical (renamed name t) (renamed name u) ≡ is_identical t u
    identical_renamed (array n t) (array m u) = ap (λ b. nat_eq n m && b) (identical_renamed t u)
    identical_renamed (slice t) (slice u) = identical_renamed t u
    identical_renamed (structure ns ts) (structure ms us) = ap (λ b. same_names ns ms && b) (rows_renamed ts us)
    identical_renamed (function ps rs) (function qs ss) = ap (λ b. b && are_identical (renamed_row name rs) (renamed_row name ss)) (rows_renamed ps qs) ∙ ap (λ b. are_identical ps qs && b) (rows_renamed rs ss)
    identical_renamed (declared n) (declared m) = number_renamed n m
    identical_renamed boolean boolean = refl
    identical_renamed text text = refl
    identical_renamed (integer k) (integer l) = refl
    identical_renamed t u = refl

    rows_renamed : (ts us : TypeRow) → are_identical (renamed_row name ts) (renamed_row name us) ≡ are_identical ts us
    rows_renamed none none = refl
    rows_renamed none (more u us) = refl
    rows_renamed (more t ts) none = refl
    rows_renamed (more t ts) (more u us) = ap (λ b. b && are_identical (renamed_row name ts) (renamed_row name us)) (identical_renamed t u) ∙ ap (λ b. is_identical t u && b) (rows_renamed ts us)

-- ---- questions

-- what is told of renamed types is what is told of the types, changed so
abbrev IsNatural : (ℕ → ℕ) → {X : Type 0} → Question X → (X → X) → Type 0
IsNatural name {X} q change = (f g : ℕ → Option X) → ((n : ℕ) → g (name n) ≡ option_map change (f n)) → (t : TypeTree) → q g (renamed name t) ≡ option_map change (q f t)

module _ (name : ℕ → ℕ) {X : Type 0} (q : Question X) (change : X → X) (natural : IsNatural name q change) (old new : Rights) (same : AreRenamed name old new) where
  right_renamed : (f g : ℕ → Option X) → ((n : ℕ) → g (name n) ≡ option_map change (f n)) → (o : Option TypeTree) → asked_right q g (option_map (renamed name) o) ≡ option_map change (asked_right q f o)
  right_renamed f g h None = refl
  right_renamed f g h (Some r) = natural f g h r

  round_renamed : (k n : ℕ) → entry (rounds q new k) (name n) ≡ option_map change (entry (rounds q old k) n)
  round_renamed zero n = nothing_entry X new (name n) ∙ ap (option_map change) (sym (nothing_entry X old n))
  round_renamed (suc k) n =
      let f = entry (rounds q old k) in
      let g = entry (rounds q new k) in
      round_entry q g new (name n) ∙ ap (asked_right q g) (same n) ∙ right_renamed f g (round_renamed k) (entry old n) ∙ ap (option_map change) (sym (round_entry q f old n))

  answers_renamed : Monotone q → (n : ℕ) → answers q new (name n) ≡ option_map change (answers q old n)
  unfolding answers
  answers_renamed m n =
      let k = length old + length new in
      ap (λ xs. entry xs (name n)) (sym (settled q m new k (omega arith))) ∙ round_renamed k n ∙ ap (λ xs. option_map change (entry xs n)) (settled q m old k (omega arith))

  pub asked_renamed : Monotone q → (t : TypeTree) → asked q new (renamed name t) ≡ option_map change (asked q old t)
  asked_renamed m t = natural (answers q old) (answers q new) (answers_renamed m) t

-- ---- underlying types

underlying_natural : (name : ℕ → ℕ) → IsNatural name underlying_by (renamed name)
underlying_natural name f g h (declared n) = h n
underlying_natural name f g h boolean = refl
underlying_natural name f g h text = refl
underlying_natural name f g h (integer _) = refl
underlying_natural name f g h (array _ _) = refl
underlying_natural name f g h (slice _) = refl
underlying_natural name f g h (structure _ _) = refl
underlying_natural name f g h (function _ _) = refl

pub underlying_renamed : (name : ℕ → ℕ) (old new : Rights) → AreRenamed name old new → (t : TypeTree) → underlying_of new (renamed name t) ≡ option_map (renamed name) (underlying_of old t)
underlying_renamed name old new same = asked_renamed name underlying_by (renamed name) (underlying_natural name) old new same underlying_monotone

-- ---- comparability

on_both_itself : {X Y Z : Type 0} (f : X → Y → Z) (a c : Option X) (b d : Option Y) → a ≡ option_map (λ x. x) c → b ≡ option_map (λ x. x) d → on_both f a b ≡ option_map (λ x. x) (on_both f c d)
on_both_itself f a c b d e g = ap (λ o. on_both f o b) (e ∙ map_itself c) ∙ ap (on_both f c) (g ∙ map_itself d) ∙ sym (map_itself (on_both f c d))

mapped_itself : {X Y : Type 0} (f : X → Y) (a c : Option X) → a ≡ option_map (λ x. x) c → option_map f a ≡ option_map (λ x. x) (option_map f c)
mapped_itself f a c e = ap (option_map f) (e ∙ map_itself c) ∙ sym (map_itself (option_map f c))

module _ (name : ℕ → ℕ) where
  mutual
    comparable_natural : IsNatural name comparable_by (λ b. b)
    comparable_natural f g h boolean = refl
    comparable_natural f g h text = refl
    comparable_natural f g h (integer _) = refl
    comparable_natural f g h (array n t) = comparable_natural f g h t
    comparable_natural f g h (slice _) = refl
    comparable_natural f g h (structure ns ts) = all_comparable_natural f g h ts
    comparable_natural f g h (function _ _) = refl
    comparable_natural f g h (declared n) = h n

    all_comparable_natural : (f g : ℕ → Option Bool) → ((n : ℕ) → g (name n) ≡ option_map (λ b. b) (f n)) → (ts : TypeRow) → all_comparable_by g (renamed_row name ts) ≡ option_map (λ b. b) (all_comparable_by f ts)
    all_comparable_natural f g h none = refl
    all_comparable_natural f g h (more t ts) = on_both_itself (λ a b. a && b) (comparable_by g (renamed name t)) (comparable_by f t) (all_comparable_by g (renamed_row name ts)) (all_comparable_by f ts) (comparable_natural f g h t) (all_comparable_natural f g h ts)

  mutual
    scalars_natural : IsNatural name scalars_by (λ n. n)
    scalars_natural f g h boolean = refl
    scalars_natural f g h text = refl
    scalars_natural f g h (integer _) = refl
    scalars_natural f g h (array n t) = mapped_itself (array_scalars n) (scalars_by g (renamed name t)) (scalars_by f t) (scalars_natural f g h t)
    scalars_natural f g h (slice _) = refl
    scalars_natural f g h (structure ns ts) = mapped_itself (max 1) (row_scalars_by g (renamed_row name ts)) (row_scalars_by f ts) (row_scalars_natural f g h ts)
    scalars_natural f g h (function _ _) = refl
    scalars_natural f g h (declared n) = h n

    row_scalars_natural : (f g : ℕ → Option ℕ) → ((n : ℕ) → g (name n) ≡ option_map (λ x. x) (f n)) → (ts : TypeRow) → row_scalars_by g (renamed_row name ts) ≡ option_map (λ x. x) (row_scalars_by f ts)
    row_scalars_natural f g h none = refl
    row_scalars_natural f g h (more t ts) = on_both_itself (λ a b. a + b) (scalars_by g (renamed name t)) (scalars_by f t) (row_scalars_by g (renamed_row name ts)) (row_scalars_by f ts) (scalars_natural f g h t) (row_scalars_natural f g h ts)

  mutual
    zero_natural : IsNatural name zero_by (λ z. z)
    zero_natural f g h boolean = refl
    zero_natural f g h text = refl
    zero_natural f g h (integer _) = refl
    zero_natural f g h (array n t) = mapped_itself (elements n) (zero_by g (renamed name t)) (zero_by f t) (zero_natural f g h t)
    zero_natural f g h (slice _) = refl
    zero_natural f g h (structure ns ts) = mapped_itself fields (zeros_by g (renamed_row name ts)) (zeros_by f ts) (zeros_natural f g h ts)
    zero_natural f g h (function _ _) = refl
    zero_natural f g h (declared n) = h n

    zeros_natural : (f g : ℕ → Option Zero) → ((n : ℕ) → g (name n) ≡ option_map (λ z. z) (f n)) → (ts : TypeRow) → zeros_by g (renamed_row name ts) ≡ option_map (λ z. z) (zeros_by f ts)
    zeros_natural f g h none = refl
    zeros_natural f g h (more t ts) = on_both_itself more_zeros (zero_by g (renamed name t)) (zero_by f t) (zeros_by g (renamed_row name ts)) (zeros_by f ts) (zero_natural f g h t) (zeros_natural f g h ts)

module _ (name : ℕ → ℕ) (old new : Rights) (same : AreRenamed name old new) where
  pub comparability_renamed : (t : TypeTree) → comparability_of new (renamed name t) ≡ comparability_of old t
  comparability_renamed t = asked_renamed name comparable_by (λ b. b) (comparable_natural name) old new same comparable_monotone t ∙ map_itself (comparability_of old t)

  pub scalars_renamed : (t : TypeTree) → scalars_of new (renamed name t) ≡ scalars_of old t
  scalars_renamed t = asked_renamed name scalars_by (λ n. n) (scalars_natural name) old new same scalars_monotone t ∙ map_itself (scalars_of old t)

  pub zero_renamed : (t : TypeTree) → zero_of new (renamed name t) ≡ zero_of old t
  zero_renamed t = asked_renamed name zero_by (λ z. z) (zero_natural name) old new same zero_monotone t ∙ map_itself (zero_of old t)

-- ---- assignability

named_renamed : (name : ℕ → ℕ) (t : TypeTree) → is_named (renamed name t) ≡ is_named t
named_renamed name boolean = refl
named_renamed name text = refl
named_renamed name (integer _) = refl
named_renamed name (array _ _) = refl
named_renamed name (slice _) = refl
named_renamed name (structure _ _) = refl
named_renamed name (function _ _) = refl
named_renamed name (declared _) = refl

both_renamed : (name : ℕ → ℕ) → IsOneToOne name → (o p : Option TypeTree) → both_identical (option_map (renamed name) o) (option_map (renamed name) p) ≡ both_identical o p
both_renamed name one None p = refl
both_renamed name one (Some t) None = refl
both_renamed name one (Some t) (Some u) = identical_renamed name one t u

pub assignable_renamed : (name : ℕ → ℕ) → IsOneToOne name → (old new : Rights) → AreRenamed name old new → (from to : TypeTree) → is_assignable new (renamed name from) (renamed name to) ≡ is_assignable old from to
unfolding is_assignable
assignable_renamed name one old new same from to =
    let x = renamed name from in
    let y = renamed name to in
    let forms : both_identical (underlying_of new x) (underlying_of new y) ≡ both_identical (underlying_of old from) (underlying_of old to) =
    ap (λ o. both_identical o (underlying_of new y)) (underlying_renamed name old new same from)
    ∙ ap (both_identical (option_map (renamed name) (underlying_of old from))) (underlying_renamed name old new same to)
    ∙ both_renamed name one (underlying_of old from) (underlying_of old to) in
    ap (λ b. b || (both_identical (underlying_of new x) (underlying_of new y) && not (is_named x && is_named y))) (identical_renamed name one from to)
    ∙ ap (λ b. is_identical from to || (b && not (is_named x && is_named y))) forms
    ∙ ap (λ b. is_identical from to || (both_identical (underlying_of old from) (underlying_of old to) && not (b && is_named y))) (named_renamed name from)
    ∙ ap (λ b. is_identical from to || (both_identical (underlying_of old from) (underlying_of old to) && not (is_named from && b))) (named_renamed name to)
