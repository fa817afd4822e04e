-- Where right sides agree, so do the answers about types that reach these alone.
use Rattle.std.proofs.Common.{◌≡◌, ℕ, zero, suc, Bool, true, Option, Some, None, length, refl, sym, ap, ◌∙◌, subst}
use Rattle.std.specs.Prelude.{max}
use Rattle.std.specs.Option.{option_map}
use Rattle.go_types.specs.Trees.{TypeTree, array, structure, declared, TypeRow, none, more}
use Rattle.go_types.specs.Relations.{Rights, HasRight, array_scalars}
use Rattle.go_types_relations.specs.Questions.{flat, Question, asked_right, entry, rounds, answers, asked}
use Rattle.go_types_relations.specs.Tests.{underlying_by, underlying_of, comparable_by, all_comparable_by, comparability_of, is_comparable, is_assignable}
use Rattle.go_types_relations.specs.Sizes.{scalars_by, row_scalars_by, scalars_of}
use Rattle.go_types_relations.proofs.Public.{nothing_entry, round_entry, asked_holds}
use Rattle.std.proofs.lemmas.Option.{same_Some}
use Rattle.go_package_laws.specs.Reach.{Within, RowWithin, MaybeWithin, AgreeOn}

module _ (p : ℕ → Bool) (old new : Rights) (a : AgreeOn p old new) where
  -- what is known of the types that pass
  abbrev Same : {X : Type 0} → (ℕ → Option X) → (ℕ → Option X) → Type 0
  Same f g = (n : ℕ) → p n ≡ true → g n ≡ f n

  -- a question asks of a type the declared types that it names
  abbrev Local : {X : Type 0} → Question X → Type 0
  Local {X} q = (f g : ℕ → Option X) → Same f g → (t : TypeTree) → Within p t → q g t ≡ q f t

  module _ {X : Type 0} (q : Question X) (l : Local q) where
    right_same : (f g : ℕ → Option X) → Same f g → (o : Option TypeTree) → MaybeWithin p o → asked_right q g o ≡ asked_right q f o
    right_same f g h None w = refl
    right_same f g h (Some t) w = l f g h t w

    rounds_same : (k : ℕ) → Same (entry (rounds q old k)) (entry (rounds q new k))
    rounds_same zero n e = nothing_entry X new n ∙ sym (nothing_entry X old n)
    rounds_same (suc k) n e =
        round_entry q (entry (rounds q new k)) new n ∙ ap (asked_right q (entry (rounds q new k))) (a.same n e)
        ∙ right_same (entry (rounds q old k)) (entry (rounds q new k)) (rounds_same k) (entry old n) (a.closed n e)
        ∙ sym (round_entry q (entry (rounds q old k)) old n)

    answers_same : Same (answers q old) (answers q new)
    unfolding answers
    answers_same n e = ap (λ k. entry (rounds q new k) n) a.as_many ∙ rounds_same (length old) n e

    asked_same : (t : TypeTree) → Within p t → asked q new t ≡ asked q old t
    asked_same t w = l (answers q old) (answers q new) answers_same t w

  -- ---- underlying types

  underlying_local : Local underlying_by
  underlying_local f g h (declared n) w = h n w
  underlying_local f g h t w = refl

  pub underlying_same : (t : TypeTree) → Within p t → underlying_of new t ≡ underlying_of old t
  underlying_same = asked_same underlying_by underlying_local

  abbrev Reaches : TypeTree → TypeTree → Type 0
  Reaches t u = Within p t → Within p u

  right_reaches : (n : ℕ) (r x : TypeTree) → HasRight old n r → Reaches r x → Reaches (declared n) x
  right_reaches n r x h i e = i (subst (MaybeWithin p) (ap flat h) (a.closed n e))

  reaches_itself : (t x : TypeTree) → Some t ≡ Some x → Reaches t x
  reaches_itself t x e = subst (Within p) (same_Some t x e)

  underlying_reaches : (known : ℕ → Option TypeTree) → ((n : ℕ) (x : TypeTree) → known n ≡ Some x → Reaches (declared n) x) → (t x : TypeTree) → underlying_by known t ≡ Some x → Reaches t x
  underlying_reaches known f (declared n) x e = f n x e
  underlying_reaches known f t x e = reaches_itself t x e

  maybe_reached : (t : TypeTree) (o : Option TypeTree) → underlying_of old t ≡ o → Within p t → MaybeWithin p o
  maybe_reached t None e w = tt
  maybe_reached t (Some u) e w = asked_holds underlying_by old Reaches right_reaches underlying_reaches t u e w

  pub underlying_within : (t : TypeTree) → Within p t → MaybeWithin p (underlying_of old t)
  underlying_within t w = maybe_reached t (underlying_of old t) refl w

  pub assignable_same : (t u : TypeTree) → Within p t → Within p u → is_assignable new t u ≡ is_assignable old t u
  unfolding is_assignable
  assignable_same t u w v = let e = underlying_same t w in let f = underlying_same u v in cc

  -- ---- comparability

  mutual
    comparable_local : Local comparable_by
    comparable_local f g h (array n t) w = comparable_local f g h t w
    comparable_local f g h (structure ns ts) w = all_local f g h ts w
    comparable_local f g h (declared n) w = h n w
    comparable_local f g h t w = refl

    all_local : (f g : ℕ → Option Bool) → Same f g → (ts : TypeRow) → RowWithin p ts → all_comparable_by g ts ≡ all_comparable_by f ts
    all_local f g h none w = refl
    all_local f g h (more t ts) w = let e = comparable_local f g h t w.0 in let i = all_local f g h ts w.1 in cc

  pub comparability_same : (t : TypeTree) → Within p t → comparability_of new t ≡ comparability_of old t
  comparability_same = asked_same comparable_by comparable_local

  pub comparable_same : (t : TypeTree) → Within p t → is_comparable new t ≡ is_comparable old t
  comparable_same t w = let e = comparability_same t w in cc

  -- ---- scalars

  mutual
    scalars_local : Local scalars_by
    scalars_local f g h (array n t) w = ap (option_map (array_scalars n)) (scalars_local f g h t w)
    scalars_local f g h (structure ns ts) w = ap (option_map (max 1)) (row_local f g h ts w)
    scalars_local f g h (declared n) w = h n w
    scalars_local f g h t w = refl

    row_local : (f g : ℕ → Option ℕ) → Same f g → (ts : TypeRow) → RowWithin p ts → row_scalars_by g ts ≡ row_scalars_by f ts
    row_local f g h none w = refl
    row_local f g h (more t ts) w = let e = scalars_local f g h t w.0 in let i = row_local f g h ts w.1 in cc

  pub scalars_same : (t : TypeTree) → Within p t → scalars_of new t ≡ scalars_of old t
  scalars_same = asked_same scalars_by scalars_local
