-- The free locals of a member are named by nodes of its statements.
use Rattle.std.proofs.Common.{◌≡◌, ◌∙◌, ℕ, zero, suc, ◌+◌, ◌-◌, ◌<◌, ◌≤◌, Bool, true, false, not, ◌&&◌, ◌||◌, ◌⊎◌, inl, inr, List, [], ◌∷◌, ◌++◌, map, filter, Option, Some, None, refl, sym, ap, arith}
use Rattle.std.specs.Prelude.{if◌then◌else◌, nat_eq}
use Rattle.std.specs.List.{AllByRecursion}
use Rattle.go_types.specs.Trees.{TypeTree}
use Rattle.go_typed.specs.declared.walk.LocalUse.{LocalUse}
use Rattle.go_typed.specs.Funcs.{named_at}
use Rattle.go_typed.specs.Trees.{Sort, Value, Typeds}
use Rattle.go_typed.specs.Trees as trees
use Rattle.go_typed.specs.Windows.{use_at, uses_from}
use Rattle.clone_window.specs.Sameness.{all_locals, sort_at, standing}
use Rattle.param_choose.specs.Choosing.{declared_results}
use Rattle.param_choose.specs.Locals.{Variable, variable_of, variable_at, variables_where, has, once, each_local, is_outside, free_locals}
use Rattle.param_choose.specs.Members.{Member, uses_within}
use Rattle.escape_check.specs.Places.{Sources, Place, token_place}
use Rattle.escape_check.specs.Names.{is_in_closed, is_variable, is_free, is_in_hole, is_unwritable, local_names}
use Rattle.param_choose.specs.Holes.{is_outer}
use Rattle.extract_texts_named.specs.Named.{AreNamed}
use Rattle.extract_texts_named.specs.Chosen.{TokensHaveNodes, ChosenLocalsAreNamed}
use Rattle.extract_texts_named.proofs.Declared.{declared_named}

-- ---- variables among numbers

module _ (P : Variable TypeTree → Type 0) (sorts : List (Sort TypeTree)) (test : ℕ → Bool) where
  -- a variable of this number that passes has it
  abbrev pub Passes : ℕ → Type 0
  Passes n = (u : TypeTree) → test n ≡ true → sort_at sorts n ≡ Value u → P (record { local = n; type = u })

  both_all : (vs ws : List (Variable TypeTree)) → AllByRecursion P vs → AllByRecursion P ws → AllByRecursion P (vs ++ ws)
  both_all [] ws h g = g
  both_all (v ∷ vs) ws h g = (h.0, both_all vs ws h.1 g)

  one_all : (n : ℕ) (x : Sort TypeTree) → sort_at sorts n ≡ x → test n ≡ true → Passes n → AllByRecursion P (variable_of n x)
  one_all n (trees.Value u) e t h = (h u t e, tt)
  one_all n x e t h = tt

  pub where_all : (ns : List ℕ) → AllByRecursion Passes ns → AllByRecursion P (variables_where sorts test ns)
  where_all [] h = tt
  where_all (n ∷ ns) h = both_all (if test n then variable_at sorts n else []) (variables_where sorts test ns) (by (test n) refl) (where_all ns h.1)
    where
      by : (b : Bool) → test n ≡ b → AllByRecursion P (if b then variable_at sorts n else [])
      by true e = one_all n (sort_at sorts n) refl e h.0
      by false e = tt

-- each number once
once_all : (Q : ℕ → Type 0) (seen ns : List ℕ) → AllByRecursion Q ns → AllByRecursion Q (once seen ns)
once_all Q seen [] h = tt
once_all Q seen (k ∷ ks) h = by (has seen k) (once_all Q seen ks h.1) (once_all Q (seen ++ k ∷ []) ks h.1)
  where
    by : (b : Bool) → AllByRecursion Q (once seen ks) → AllByRecursion Q (once (seen ++ k ∷ []) ks) → AllByRecursion Q (if b then once seen ks else k ∷ once (seen ++ k ∷ []) ks)
    by true g w = g
    by false g w = (h.0, w)

each_all : (Q : ℕ → Type 0) (us : List LocalUse) → AllByRecursion (λ u. Q u.local) us → AllByRecursion Q (each_local us)
each_all Q [] h = tt
each_all Q (u ∷ us) h = (h.0, each_all Q us h.1)

-- ---- uses

-- a use is one of a token from i on, and in front of j, which names the local
pub record IsUse (tokens : List (Option ℕ)) (i j : ℕ) (u : LocalUse) : Type 0 where
  pub from : i ≤ u.token
  pub upto : u.token < j
  pub named : named_at tokens u.token ≡ Some u.local

later_use : (tokens : List (Option ℕ)) (i j : ℕ) (us : List LocalUse) → AllByRecursion (IsUse tokens (suc i) j) us → AllByRecursion (IsUse tokens i j) us
later_use tokens i j [] h = tt
later_use tokens i j (u ∷ us) h = (record { from = omega (arith, h.0.from); upto = h.0.upto; named = h.0.named }, later_use tokens i j us h.1)

uses_are : (tokens : List (Option ℕ)) (i j c : ℕ) → i + c ≡ j → AllByRecursion (IsUse tokens i j) (uses_from tokens i c)
uses_are tokens i j zero e = tt
uses_are tokens i j (suc c) e = by (named_at tokens i) refl (later_use tokens i j (uses_from tokens (suc i) c) (uses_are tokens (suc i) j c (omega (arith, e))))
  where
    by : (o : Option ℕ) → named_at tokens i ≡ o → AllByRecursion (IsUse tokens i j) (uses_from tokens (suc i) c) → AllByRecursion (IsUse tokens i j) (use_at i o ++ uses_from tokens (suc i) c)
    by None w h = h
    by (Some n) w h = (record { from = omega arith; upto = omega (arith, e); named = w }, h)

-- those of a window, which has no tokens where it ends in front of its first one
within_are : (tokens : List (Option ℕ)) (i j : ℕ) → AllByRecursion (IsUse tokens i j) (uses_from tokens i (j - i))
within_are tokens i j = by (j - i) refl
  where
    by : (c : ℕ) → j - i ≡ c → AllByRecursion (IsUse tokens i j) (uses_from tokens i c)
    by zero e = tt
    by (suc c) e = uses_are tokens i j (suc c) (omega (arith, e))

-- ---- what isn't refused

none_pass : (test : LocalUse → Bool) (at : LocalUse → Place) (us : List LocalUse) → map at (filter test us) ≡ [] → AllByRecursion (λ u. test u ≡ false) us
none_pass test at [] h = tt
none_pass test at (u ∷ us) h = by (test u) refl h (λ g. none_pass test at us g)
  where
    by : (b : Bool) → test u ≡ b → map at (if b then u ∷ filter test us else filter test us) ≡ [] → (map at (filter test us) ≡ [] → AllByRecursion (λ v. test v ≡ false) us) → AllByRecursion (λ v. test v ≡ false) (u ∷ us)
    by true e g w = absurd (let z : (at u ∷ map at (filter test us)) ≡ [] = g in cc)
    by false e g w = (e, w g)

or_false : (a b : Bool) → (a || b) ≡ false → b ≡ false
or_false true b e = absurd cc
or_false false b e = e

and_false : (a b : Bool) → a ≡ true → (a && b) ≡ false → b ≡ false
and_false true b e h = h
and_false false b e h = absurd cc

and_true : (a b : Bool) → a ≡ true → b ≡ true → (a && b) ≡ true
and_true true b e h = h
and_true false b e h = absurd cc

both_all_uses : (P Q R : LocalUse → Type 0) → ((u : LocalUse) → P u → Q u → R u) → (us : List LocalUse) → AllByRecursion P us → AllByRecursion Q us → AllByRecursion R us
both_all_uses P Q R f [] h g = tt
both_all_uses P Q R f (u ∷ us) h g = (f u h.0 g.0, both_all_uses P Q R f us h.1 g.1)

module _ (s : Sources) (m : Member TypeTree) (unrefused : local_names s m ≡ []) (nodes : TokensHaveNodes m) where
  abbrev HasNode : Variable TypeTree → Type 0
  HasNode v = has (all_locals false m.statements) v.local ≡ true

  -- a free local that is used stands in no closed node
  use_named : (u : LocalUse) → IsUse m.tokens m.from m.upto u → is_unwritable m u ≡ false → Passes HasNode m.locals (is_outside m) u.local
  use_named u it free t outside value =
      let variable : is_variable m u.local ≡ true = ap (λ x. nat_eq (standing x) 1) value in
      let closed : is_in_closed m u.token ≡ false =
      and_false (is_free m u.local) (is_in_closed m u.token) (and_true (is_variable m u.local) (is_outside m u.local) variable outside)
      (or_false (is_outer m u && not (is_in_hole m u.token)) (is_free m u.local && is_in_closed m u.token) free) in
      by closed (nodes u.token u.local t it.from it.upto it.named value)
    where
      by : is_in_closed m u.token ≡ false → (is_in_closed m u.token ≡ true) ⊎ (has (all_locals false m.statements) u.local ≡ true) → has (all_locals false m.statements) u.local ≡ true
      by e (inl g) = absurd (let z : false ≡ true = sym e ∙ g in cc)
      by e (inr g) = g

  pub free_named : AreNamed m.statements (free_locals m)
  free_named =
      let each = both_all_uses (IsUse m.tokens m.from m.upto) (λ u. is_unwritable m u ≡ false) (λ u. Passes HasNode m.locals (is_outside m) u.local) use_named (uses_within m) (within_are m.tokens m.from m.upto)
      (none_pass (is_unwritable m) (λ u. token_place s m u.token) (uses_within m) unrefused) in
      where_all HasNode m.locals (is_outside m) (once [] (each_local (uses_within m)))
      (once_all (Passes HasNode m.locals (is_outside m)) [] (each_local (uses_within m)) (each_all (Passes HasNode m.locals (is_outside m)) (uses_within m) each))

both_named : (ps : Typeds TypeTree) (vs ws : List (Variable TypeTree)) → AreNamed ps vs → AreNamed ps ws → AreNamed ps (vs ++ ws)
both_named ps [] ws h g = g
both_named ps (v ∷ vs) ws h g = (h.0, both_named ps vs ws h.1 g)

pub chosen_named : ChosenLocalsAreNamed
chosen_named array s ms t unrefused nodes plain = both_named t.statements (free_locals t) (declared_results ms t) (free_named s t unrefused nodes) (declared_named ms t plain)
