-- Array types: what the rule on scalars says by more right sides it says by fewer.
use Rattle.std.proofs.Common.{◌≡◌, ℕ, ◌*◌, ◌≤◌, ◌<◌, ◌^◌, Bool, true, false, List, [], ◌∷◌, ◌++◌, Option, Some, None, refl, sym, ap, ◌∙◌, subst, cond, arith}
use Rattle.std.specs.Prelude.{nat_lt, nat_eq, ◌&&◌}
use Rattle.std.specs.Option.{option_map}
use Rattle.std.proofs.Math.Nat.{mul-le-mul_right}
use Rattle.std.proofs.lemmas.Bool.Decides.{nat_tests}
use Rattle.go_base.specs.declared.fault.FaultCode.{FaultCode}
use Rattle.go_base.specs.declared.fault.FaultCode.TheVariants as code
use Rattle.go_tree.specs.declared.object.Object.{Object}
use Rattle.go_types.specs.Trees.{TypeTree, TypeRow, array, slice}
use Rattle.go_types.specs.Relations.{Rights, HasRight, array_scalars, Scalars, RowScalars, of_boolean, of_text, of_integer, of_array, of_slice, of_structure, of_function, of_right, of_none, of_more}
use Rattle.go_types_relations.specs.Sizes.{scalars_of}
use Rattle.go_types_relations.proofs.Public.{told_scalars}
use Rattle.go_typed.specs.Trees.{typed, sort_of}
use Rattle.go_exprs_rules.specs.declared.fault.TypeFault.{TypeFault}
use Rattle.go_exprs_rules.specs.Faults.{fault_at, or_else}
use Rattle.go_exprs_rules.specs.Scopes.{Needed, Scope}
use Rattle.go_exprs_rules.specs.Settling.{Part, at_part, unrepresented}
use Rattle.go_exprs_rules.specs.Sorts.{constant_of, is_constant, is_whole, is_negative, int}
use Rattle.go_exprs_rules.specs.Tables.{no_faults}
use Rattle.go_exprs_rules.specs.TypeNodes.{part_type, most_scalars, kept_length, length_in, exceeds, limit_failing, sequence_failing, array_of, sequence_type}
use Rattle.go_stmts_limits.specs.Limits.{StandsIsWithin, RightsAreWithin}
use Rattle.go_stmts_limits.proofs.Within.{MaybeWithin}

-- The limit is judged in the scope, by right sides that begin with those of the scope named first, and all is within it that is known.
pub record JudgesWithin (limit s : Scope) : Type 0 where
  pub judged : s.limits ≡ true
  pub counted : (t : TypeTree) (n : ℕ) → scalars_of limit.rights t ≡ Some n → scalars_of s.rights t ≡ Some n
  pub rights : RightsAreWithin limit s.rights
  pub objects : (need : Needed) (o : Object) → StandsIsWithin limit (s.sorts need o)

-- ---- counts of scalars stay where right sides do

module _ (old new : Rights) (kept : (n : ℕ) (r : TypeTree) → HasRight old n r → HasRight new n r) where
  mutual
    scalars_stay : (t : TypeTree) (n : ℕ) → Scalars old t n → Scalars new t n
    scalars_stay t n of_boolean = of_boolean
    scalars_stay t n of_text = of_text
    scalars_stay t n (of_integer k) = of_integer k
    scalars_stay t n (of_array m u l s) = of_array m u l (scalars_stay u l s)
    scalars_stay t n (of_slice u) = of_slice u
    scalars_stay t n (of_structure ns ts l s) = of_structure ns ts l (row_stays ts l s)
    scalars_stay t n (of_function ps rs) = of_function ps rs
    scalars_stay t n (of_right m r l h s) = of_right m r l (kept m r h) (scalars_stay r l s)

    row_stays : (ts : TypeRow) (n : ℕ) → RowScalars old ts n → RowScalars new ts n
    row_stays ts n of_none = of_none
    row_stays ts n (of_more u us here there s ss) = of_more u us here there (scalars_stay u here s) (row_stays us there ss)

-- what is counted is told
abbrev pub AreTold : Type 0
AreTold = (rights : Rights) (t : TypeTree) (n : ℕ) → Scalars rights t n → scalars_of rights t ≡ Some n

pub counts_stay : AreTold → (old new : Rights) → ((n : ℕ) (r : TypeTree) → HasRight old n r → HasRight new n r) → (t : TypeTree) (n : ℕ) → scalars_of old t ≡ Some n → scalars_of new t ≡ Some n
counts_stay told old new kept t n e = told new t n (scalars_stay old new kept t n (told_scalars old t n e))

-- ---- numbers

not_over : (b m n : ℕ) → m ≤ n → nat_lt b n ≡ false → nat_lt b m ≡ false
not_over b m n l e = grind (arith, nat_tests)

kept_most : (n : ℕ) → kept_length n ≤ n
kept_most n = grind (arith, nat_tests)

kept_below : (n : ℕ) → kept_length n < 2 ^ 32
kept_below n = grind (arith, nat_tests)

fewer : (m n c : ℕ) → m ≤ n → array_scalars m c ≤ array_scalars n c
fewer m n c l = by (nat_eq c 0)
  where
    times : m * c ≤ n * c
    times = mul-le-mul_right c l

    by : (b : Bool) → cond b m (m * c) ≤ cond b n (n * c)
    by true = l
    by false = times

module _ (limit s : Scope) (judged : s.limits ≡ true) (counted : (t : TypeTree) (n : ℕ) → scalars_of limit.rights t ≡ Some n → scalars_of s.rights t ≡ Some n) where
  passes : (n : ℕ) (t : TypeTree) → exceeds (scalars_of s.rights (array n t)) ≡ false → exceeds (scalars_of limit.rights (array (kept_length n) t)) ≡ false
  passes n t e = by (scalars_of limit.rights t) refl
    where
      by : (o : Option ℕ) → scalars_of limit.rights t ≡ o → exceeds (option_map (array_scalars (kept_length n)) o) ≡ false
      by None h = refl
      by (Some c) h =
          let f : nat_lt most_scalars (array_scalars n c) ≡ false = sym (ap (λ o. exceeds (option_map (array_scalars n) o)) (counted t c h)) ∙ e in
          not_over most_scalars (array_scalars (kept_length n) c) (array_scalars n c) (fewer (kept_length n) n c (kept_most n)) f

  -- ---- where no rule fails

  not_exceeding : (b : Bool) (i j : ℕ) → cond b (fault_at code.Limit i j) [] ≡ [] → b ≡ false
  not_exceeding true i j e = cc
  not_exceeding false i j e = refl

  array_within : (i j : ℕ) (n : Option ℕ) (o : Option TypeTree) → MaybeWithin limit o → limit_failing s.rights true i j n o ≡ [] → MaybeWithin limit (array_of n o)
  array_within i j (Some n) (Some t) w e = (kept_below n, (λ h. passes n t (not_exceeding (exceeds (scalars_of s.rights (array n t))) i j e)), w)
  array_within i j (Some n) None w e = tt
  array_within i j None o w e = tt

  behind_none : (xs ys : List TypeFault) → xs ++ ys ≡ [] → ys ≡ []
  behind_none [] ys e = e
  behind_none (x ∷ xs) ys e = cc

  some_fault : {X : Type 0} (c : FaultCode) (n : Part) → at_part c n ≡ [] → X
  some_fault c (typed f i j l ps) e = cc

  limit_alone : (b c : Bool) (n : Part) (xs ys : List TypeFault) → cond b (cond c (at_part code.ConstIndex n) (xs ++ ys)) (at_part code.Operands n) ≡ [] → ys ≡ []
  limit_alone true true n xs ys e = some_fault code.ConstIndex n e
  limit_alone true false n xs ys e = behind_none xs ys e
  limit_alone false c n xs ys e = some_fault code.Operands n e

  slice_within : (o : Option TypeTree) → MaybeWithin limit o → MaybeWithin limit (option_map slice o)
  slice_within None w = tt
  slice_within (Some t) w = w

  pub sequence_within : (i j : ℕ) (n e : Option Part) → MaybeWithin limit (part_type e) → sequence_failing s.rights s.limits i j n e ≡ [] → MaybeWithin limit (sequence_type n (part_type e))
  sequence_within i j None e w f = slice_within (part_type e) w
  sequence_within i j (Some n) e w f =
      let c = length_in (constant_of (sort_of n)) in
      let g : limit_failing s.rights s.limits i j c (part_type e) ≡ [] =
      limit_alone (is_constant (sort_of n) && is_whole s.rights (sort_of n)) (is_negative (constant_of (sort_of n))) n (unrepresented s.rights int n) (limit_failing s.rights s.limits i j c (part_type e)) f in
      array_within i j c (part_type e) w (subst (λ b. limit_failing s.rights b i j c (part_type e) ≡ []) judged g)

-- a node that stands for something is judged, and no rule of its own fails
pub none_failing : (b : Bool) (fs gs : List TypeFault) → (b && no_faults (cond b (or_else fs gs) [])) ≡ true → fs ≡ []
none_failing true [] gs e = refl
none_failing true (f ∷ fs) gs e = cc
none_failing false fs gs e = cc
