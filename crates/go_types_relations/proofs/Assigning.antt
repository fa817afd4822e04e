-- What is told to be assignable is so.
use Rattle.std.proofs.Common.{◌≡◌, inl, inr, Option, Some, None, refl, ap, ◌∙◌, Bool, true, false}
use Rattle.std.specs.Prelude.{◌&&◌, ◌||◌, not}
use Rattle.go_types.specs.Trees.{TypeTree, is_named}
use Rattle.go_types.specs.Relations.{Rights, SameUnderlying, Assignable}
use Rattle.go_types_relations.specs.Identity.{is_identical}
use Rattle.go_types_relations.specs.Tests.{underlying_of, both_identical, is_assignable}
use Rattle.go_types_relations.proofs.Booleans.{and_parts, or_parts, or_true, or_false, not_true}
use Rattle.go_types_relations.proofs.Identity.{identical_test, test_identical}
use Rattle.go_types_relations.proofs.Underlyings.{underlying_told, told_underlying}

module _ (rights : Rights) (from to : TypeTree) where
  abbrev same : Bool
  same = both_identical (underlying_of rights from) (underlying_of rights to)

  abbrev unnamed : Bool
  unnamed = not (is_named from && is_named to)

  by_underlying : (o p : Option TypeTree) → underlying_of rights from ≡ o → underlying_of rights to ≡ p → both_identical o p ≡ true → unnamed ≡ true → SameUnderlying rights from to
  by_underlying None p h k e f = cc
  by_underlying (Some t) None h k e f = cc
  by_underlying (Some t) (Some u) h k e f = record {
    from_underlying = t;
    to_underlying = u;
    from_is = told_underlying rights from t h;
    to_is = told_underlying rights to u k;
    identical = test_identical t u e;
    unnamed = not_true (is_named from && is_named to) f;
  }

  pub test_assignable : is_assignable rights from to ≡ true → Assignable rights from to
  unfolding is_assignable
  test_assignable e =
      elim (or_parts (is_identical from to) (same && unnamed) e) [
        | inl h ↦ inl (test_identical from to h)
        | inr h ↦ let p = and_parts same unnamed h in inr (by_underlying (underlying_of rights from) (underlying_of rights to) refl refl p.0 p.1)
      ]

  pub assignable_test : Assignable rights from to → is_assignable rights from to ≡ true
  unfolding is_assignable
  assignable_test (inl h) = ap (λ b. b || (same && unnamed)) (identical_test from to h)
  assignable_test (inr s) =
      let first = underlying_told rights from s.from_underlying s.from_is in
      let second = underlying_told rights to s.to_underlying s.to_is in
      let forms : same ≡ true = ap (λ o. both_identical o (underlying_of rights to)) first ∙ ap (both_identical (Some s.from_underlying)) second ∙ identical_test s.from_underlying s.to_underlying s.identical in
      ap (λ b. is_identical from to || (b && unnamed)) forms ∙ ap (λ b. is_identical from to || not b) s.unnamed ∙ or_true (is_identical from to)

-- ---- types without an underlying type

no_second : (o : Option TypeTree) → both_identical o None ≡ false
no_second None = refl
no_second (Some t) = refl

pub no_underlying_from : (rights : Rights) (from to : TypeTree) → underlying_of rights from ≡ None → is_assignable rights from to ≡ is_identical from to
unfolding is_assignable
no_underlying_from rights from to e = ap (λ o. is_identical from to || (both_identical o (underlying_of rights to) && not (is_named from && is_named to))) e ∙ or_false (is_identical from to)

pub no_underlying_to : (rights : Rights) (from to : TypeTree) → underlying_of rights to ≡ None → is_assignable rights from to ≡ is_identical from to
unfolding is_assignable
no_underlying_to rights from to e =
    ap (λ o. is_identical from to || (both_identical (underlying_of rights from) o && not (is_named from && is_named to))) e
    ∙ ap (λ b. is_identical from to || (b && not (is_named from && is_named to))) (no_second (underlying_of rights from))
    ∙ or_false (is_identical from to)
