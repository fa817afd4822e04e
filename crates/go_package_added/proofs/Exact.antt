-- The same fault of declarations is reported where a package has one function more.
use Rattle.std.proofs.Common.{◌≡◌, ◌∙◌, ℕ, zero, suc, ◌+◌, ◌≤◌, Bool, true, false, ◌&&◌, ◌||◌, not, List, [], ◌∷◌, ◌++◌, length, map, Option, Some, None, refl, sym, ap, arith}
use Rattle.std.specs.Prelude.{if◌then◌else◌, nat_eq, nat_lt, slice_get}
use Rattle.std.specs.List.{AllByRecursion, list_any}
use Rattle.std.specs.Option.{option_map}
use Rattle.std.proofs.lemmas.Bool.Decides.{nat_tests}
use Rattle.go_base.specs.declared.fault.FaultCode.TheVariants as code
use Rattle.go_tree.specs.declared.context.Entity.{Entity}
use Rattle.go_tree.specs.declared.context.Entity.TheVariants as entity
use Rattle.go_tree.specs.declared.object.Declared.{Declared}
use Rattle.go_tree.specs.Failures.{Failure, least}
use Rattle.go_tree.specs.Units.{Place}
use Rattle.go_exprs_rules.specs.declared.fault.TypeFault.{TypeFault}
use Rattle.go_exprs_rules.specs.Scopes.{Scope, at_once}
use Rattle.go_exprs_rules.specs.Sorts.{Stands}
use Rattle.go_exprs_rules.specs.Tables.{no_faults}
use Rattle.go_package_laws.specs.Places.{EachFault}
use Rattle.go_package_defs.specs.Answer.{Environment, failure_at, failures_at, is_procedure, is_main, fault_if, main_faults, mains_from, all_failures, hidden_failures, or_else, package_failures, unless, answer_by, environment_of}
use Rattle.go_package_defs.specs.Declarations.{Specification}
use Rattle.go_package_defs.specs.Knowledge.{Outline, outlines, State, state_of, passes, is_sound, free_scope}
use Rattle.go_package_defs.specs.Sources.{Package, rounds}
use Rattle.go_package_defs.specs.Verdicts.{known, own_faults, value_state, expression_faults, specification_rule}
use Rattle.go_package_defs.specs.Verdicts.{numbers_of, is_in, needs_one, needed_by_all, blocks, is_blocked, rule_unless, specification_faults_on, specification_faults, unblocked_faults_on, unblocked_faults}
use Rattle.go_heads_added.specs.Added.{Gap, beyond}
use Rattle.go_package_added.specs.OneMore.{inserted, all_beyond, outline_beyond, IsKept, IsOneMore, IsSignature, Settles, function_state, with_function}
use Rattle.go_package_added.specs.Reported.{KeepsFaults, NeedsKept, PlacesKept, answered_with, name_place}
use Rattle.go_package_added.proofs.Answered.{answer_there, expressions_same, first_of, function_unblocked, many, none_there, others_of, rule_same, unblocked_same}
use Rattle.go_package_added.proofs.Answered as answered
use Rattle.go_package_added.proofs.Rounds.{in_front, behind_it}
use Rattle.go_package_added.proofs.Scopes.{MovesTyped, KeepsWords, FollowsTokens, outline_there, passes_beyond, state_beyond}
use Rattle.go_package_added.proofs.Where.{expressions_at, unless_at, whole_rule_at}

-- ---- numbers

beyond_apart : (n a b : ℕ) → nat_eq (beyond n a) (beyond n b) ≡ nat_eq a b
beyond_apart n a b = by (nat_lt a n) (nat_lt b n) refl refl
  where
    by : (x y : Bool) → nat_lt a n ≡ x → nat_lt b n ≡ y → nat_eq (if x then a else suc a) (if y then b else suc b) ≡ nat_eq a b
    by true true e f = refl
    by true false e f = grind (arith, nat_tests, e, f)
    by false true e f = grind (arith, nat_tests, e, f)
    by false false e f = grind (arith, nat_tests)

module _ (a : ℕ) where
  any_beyond : (t u : ℕ → Bool) → ((n : ℕ) → u (beyond a n) ≡ t n) → (ns : List ℕ) → list_any u (all_beyond a ns) ≡ list_any t ns
  any_beyond t u f [] = refl
  any_beyond t u f (n ∷ ns) = ap (λ b. b || list_any u (all_beyond a ns)) (f n) ∙ ap (λ b. t n || b) (any_beyond t u f ns)

  in_beyond : (ns : List ℕ) (n : ℕ) → is_in (all_beyond a ns) (beyond a n) ≡ is_in ns n
  in_beyond ns n = any_beyond (nat_eq n) (nat_eq (beyond a n)) (beyond_apart a n) ns

-- ---- places

module _ (p q : Package) (d : Specification) (k : PlacesKept p q d) where
  one_placed : (f : TypeFault) → k.within f.first f.last ≡ true → failure_at q d.file f ≡ failure_at p d.file f
  one_placed f e = ap (λ s. let z : Failure = record { code = f.code; place = s } in z) (k.places f.first f.last e)

  all_placed : (fs : List TypeFault) → EachFault k.within fs → failures_at q d.file fs ≡ failures_at p d.file fs
  all_placed [] h = refl
  all_placed (f ∷ fs) h = ap (λ z. z ∷ failures_at q d.file fs) (one_placed f h.0) ∙ ap (λ zs. failure_at p d.file f ∷ zs) (all_placed fs h.1)

-- a fault of `main`
abbrev main_failure : Bool → Place → List Failure
main_failure true s = record { code = code.Operands; place = s } ∷ []
main_failure false s = []

main_placed : (r : Package) (d : Declared) (b : Bool) → failures_at r d.file (fault_if b d.name) ≡ main_failure b (name_place r d)
main_placed r d true = refl
main_placed r d false = refl

unless_same : (o : _) (x : Environment) (a : ℕ) (s : Stands) → unless o (with_function a s x) ≡ answered_with a s (unless o x)
unless_same None x a s = refl
unless_same (Some f) x a s = refl

module _ (moves : MovesTyped) (keeps : KeepsWords) (follows : FollowsTokens) (p q : Package) (ds es : List Specification) (g : Gap) (h : IsOneMore p q ds es g) (same : KeepsFaults p q ds es g h) where
  abbrev xs : List Outline
  xs = outlines p ds

  inside : g.shared ≤ length (outlines p ds)
  inside = answered.inside moves keeps follows p q ds es g h

  abbrev os : List Outline
  os = inserted g.shared h.function (map (outline_beyond g.shared) xs)

  abbrev MaybeNeeds : Option Outline → Type 0
  MaybeNeeds None = Unit {0}
  MaybeNeeds (Some o) = NeedsKept p q g o.specification

  needs_at : (us : List Outline) (n : ℕ) → AllByRecursion (λ o. NeedsKept p q g o.specification) us → MaybeNeeds (slice_get us n)
  needs_at [] n k = tt
  needs_at (u ∷ us) zero k = k.0
  needs_at (u ∷ us) (suc n) k = needs_at us n k.1

  one_needed : (own : List ℕ) (o : Option Outline) → MaybeNeeds o → needs_one q (all_beyond g.shared own) (option_map (outline_beyond g.shared) o) ≡ needs_one p own o
  one_needed own None k = refl
  one_needed own (Some o) k =
      ap (list_any (is_in (all_beyond g.shared own))) k.needed ∙ any_beyond g.shared (is_in own) (is_in (all_beyond g.shared own)) (in_beyond g.shared own) (needed_by_all p o.specification)

  module _ (y : State) (ss : List State) (as_many : g.shared ≤ length ss) where
    abbrev ts : List State
    ts = inserted g.shared y ss

    -- ---- what blocks

    one_blocks : (own : List ℕ) (n : ℕ) → blocks q os ts (all_beyond g.shared own) (beyond g.shared n) ≡ blocks p xs ss own n
    one_blocks own n =
        let o = needs_one q (all_beyond g.shared own) (slice_get os (beyond g.shared n)) in
        ap (λ b. not b && (not (no_faults (state_of ts (beyond g.shared n)).faults) || (not (no_faults (state_of ts (beyond g.shared n)).assigning) && not o))) (in_beyond g.shared own n)
        ∙ ap (λ (z : State). not (is_in own n) && (not (no_faults z.faults) || (not (no_faults z.assigning) && not o))) (state_beyond g.shared h.function xs inside y ss as_many n)
        ∙ ap (λ b. not (is_in own n) && (not (no_faults (state_of ss n).faults) || (not (no_faults (state_of ss n).assigning) && not b)))
        (ap (needs_one q (all_beyond g.shared own)) (outline_there g.shared h.function xs inside y ss as_many n) ∙ one_needed own (slice_get xs n) (needs_at xs n same.outlines_need))

    blocked_same : (d : Specification) → NeedsKept p q g d → is_blocked q os ts d ≡ is_blocked p xs ss d
    blocked_same d k =
        ap (λ ns. list_any (blocks q os ts ns) (needed_by_all q d)) k.names ∙ ap (list_any (blocks q os ts (all_beyond g.shared (numbers_of p d.file d.names)))) k.needed
        ∙ any_beyond g.shared (blocks p xs ss (numbers_of p d.file d.names)) (blocks q os ts (all_beyond g.shared (numbers_of p d.file d.names))) (one_blocks (numbers_of p d.file d.names)) (needed_by_all p d)

    -- ---- a specification

    module _ (d : Specification) (k : IsKept p q g d) (n : NeedsKept p q g d) (w : PlacesKept p q d) where
      abbrev old : Scope
      old = free_scope p xs ss d

      abbrev new : Scope
      new = free_scope q os ts d

      faults_on : (fs : List TypeFault) → specification_faults_on q os ts new d fs ≡ specification_faults_on p xs ss old d fs
      faults_on [] = ap (λ b. rule_unless b (specification_rule new d)) (blocked_same d n) ∙ ap (rule_unless (is_blocked p xs ss d)) (rule_same moves keeps follows p q ds es g h y ss as_many d k)
      faults_on (f ∷ fs) = refl

      faults_same : specification_faults q os ts d ≡ specification_faults p xs ss d
      faults_same = ap (specification_faults_on q os ts new d) (expressions_same moves keeps follows p q ds es g h y ss as_many d k) ∙ faults_on (expression_faults old d)

      on_at : (fs : List TypeFault) → EachFault w.within fs → EachFault w.within (specification_faults_on p xs ss old d fs)
      on_at [] e = unless_at w.within (is_blocked p xs ss d) (specification_rule old d) (whole_rule_at w.within old d w.itself w.type_stands w.values_stand)
      on_at (f ∷ fs) e = e

      unblocked_at : (fs : List TypeFault) → EachFault w.within fs → EachFault w.within (unblocked_faults_on old d fs)
      unblocked_at [] e = whole_rule_at w.within old d w.itself w.type_stands w.values_stand
      unblocked_at (f ∷ fs) e = e

      told_same : failures_at q d.file (specification_faults q os ts d) ≡ failures_at p d.file (specification_faults p xs ss d)
      told_same =
          ap (failures_at q d.file) faults_same
          ∙ all_placed p q d w (specification_faults p xs ss d) (on_at (expression_faults old d) (expressions_at w.within old d w.itself w.type_stands w.values_stand))

      hidden_same : failures_at q d.file (unblocked_faults q os ts d) ≡ failures_at p d.file (unblocked_faults p xs ss d)
      hidden_same =
          ap (failures_at q d.file) (unblocked_same moves keeps follows p q ds es g h y ss as_many d k)
          ∙ all_placed p q d w (unblocked_faults p xs ss d) (unblocked_at (expression_faults old d) (expressions_at w.within old d w.itself w.type_stands w.values_stand))

    -- ---- the function

    module _ (s : Stands) (sig : value_state (free_scope q os ts h.function.specification) h.function.specification h.function.column
        (own_faults (free_scope q os ts h.function.specification) h.function.specification h.function.column) ≡ function_state s) where
      abbrev f : Specification
      f = h.function.specification

      function_hidden : unblocked_faults q os ts f ≡ []
      function_hidden = function_unblocked moves keeps follows p q ds es g h y ss as_many s sig

      function_told : specification_faults q os ts f ≡ []
      function_told = by (expression_faults (free_scope q os ts f) f) function_hidden
        where
          by : (fs : List TypeFault) → unblocked_faults_on (free_scope q os ts f) f fs ≡ [] → specification_faults_on q os ts (free_scope q os ts f) f fs ≡ []
          by [] e = ap (rule_unless (is_blocked q os ts f)) e ∙ nothing (is_blocked q os ts f)
            where
              nothing : (b : Bool) → rule_unless b [] ≡ []
              nothing true = refl
              nothing false = refl
          by (x ∷ fs) e = e

      -- ---- the function `main`

      main_test : (n : ℕ) (u v : Declared) → is_main q v ≡ is_main p u → v.entity ≡ u.entity
          → (is_main q v && passes is_sound os ts at_once (beyond g.shared n) && not (is_procedure v.entity (state_of ts (beyond g.shared n)).stands))
          ≡ (is_main p u && passes is_sound xs ss at_once n && not (is_procedure u.entity (state_of ss n).stands))
      main_test n u v a e =
          ap (λ b. b && passes is_sound os ts at_once (beyond g.shared n) && not (is_procedure v.entity (state_of ts (beyond g.shared n)).stands)) a
          ∙ ap (λ b. is_main p u && b && not (is_procedure v.entity (state_of ts (beyond g.shared n)).stands)) (passes_beyond g.shared h.function xs inside y ss as_many is_sound at_once n)
          ∙ ap (λ z. is_main p u && passes is_sound xs ss at_once n && not (is_procedure z (state_of ts (beyond g.shared n)).stands)) e
          ∙ ap (λ (z : State). is_main p u && passes is_sound xs ss at_once n && not (is_procedure u.entity z.stands)) (state_beyond g.shared h.function xs inside y ss as_many n)

      one_main : (n : ℕ) (u v : Declared) → is_main q v ≡ is_main p u → v.entity ≡ u.entity → name_place q v ≡ name_place p u
          → failures_at q v.file (main_faults q os ts (beyond g.shared n) v) ≡ failures_at p u.file (main_faults p xs ss n u)
      one_main n u v a e w =
          main_placed q v (is_main q v && passes is_sound os ts at_once (beyond g.shared n) && not (is_procedure v.entity (state_of ts (beyond g.shared n)).stands))
          ∙ ap (λ b. main_failure b (name_place q v)) (main_test n u v a e)
          ∙ ap (main_failure (is_main p u && passes is_sound xs ss at_once n && not (is_procedure u.entity (state_of ss n).stands))) w
          ∙ sym (main_placed p u (is_main p u && passes is_sound xs ss at_once n && not (is_procedure u.entity (state_of ss n).stands)))

      abbrev entities : List Declared → List Entity
      entities us = map (λ (d : Declared). d.entity) us

      both : (us vs ws zs : List Failure) → us ≡ ws → vs ≡ zs → us ++ vs ≡ ws ++ zs
      both us vs ws zs e k = ap (λ l. l ++ vs) e ∙ ap (λ l. ws ++ l) k

      mains_behind : (n : ℕ) (us vs : List Declared) → g.shared ≤ n → entities vs ≡ entities us → map (is_main q) vs ≡ map (is_main p) us → map (name_place q) vs ≡ map (name_place p) us
          → mains_from q os ts (suc n) vs ≡ mains_from p xs ss n us
      mains_behind n [] [] l e a w = refl
      mains_behind n [] (v ∷ vs) l e a w = absurd (none_there v.entity (entities vs) e)
      mains_behind n (u ∷ us) [] l e a w = absurd (none_there u.entity (entities us) (sym e))
      mains_behind n (u ∷ us) (v ∷ vs) l e a w =
          both (failures_at q v.file (main_faults q os ts (suc n) v)) (mains_from q os ts (suc (suc n)) vs) (failures_at p u.file (main_faults p xs ss n u)) (mains_from p xs ss (suc n) us)
          (ap (λ i. failures_at q v.file (main_faults q os ts i v)) (sym (behind_it g.shared n l))
          ∙ one_main n u v (first_of (is_main q v) (is_main p u) (map (is_main q) vs) (map (is_main p) us) a) (first_of v.entity u.entity (entities vs) (entities us) e)
          (first_of (name_place q v) (name_place p u) (map (name_place q) vs) (map (name_place p) us) w))
          (mains_behind (suc n) us vs (omega (arith, l)) (others_of v.entity u.entity (entities vs) (entities us) e) (others_of (is_main q v) (is_main p u) (map (is_main q) vs) (map (is_main p) us) a)
          (others_of (name_place q v) (name_place p u) (map (name_place q) vs) (map (name_place p) us) w))

      skip_main : (n : ℕ) (v : Declared) (fs : List Failure) → is_main q v ≡ false → failures_at q v.file (main_faults q os ts n v) ++ fs ≡ fs
      skip_main n v fs a = ap (λ b. failures_at q v.file (fault_if (b && passes is_sound os ts at_once n && not (is_procedure v.entity (state_of ts n).stands)) v.name) ++ fs) a

      mains_with : (b n : ℕ) (us vs : List Declared) → b + n ≡ g.shared → b ≤ length us → entities vs ≡ inserted b entity.Function (entities us) → map (is_main q) vs ≡ inserted b false (map (is_main p) us)
          → map (name_place q) vs ≡ inserted b same.function (map (name_place p) us) → mains_from q os ts n vs ≡ mains_from p xs ss n us
      mains_with zero n us [] i l e a w = absurd (none_there entity.Function (entities us) (sym e))
      mains_with zero n us (v ∷ vs) i l e a w =
          skip_main n v (mains_from q os ts (suc n) vs) (first_of (is_main q v) false (map (is_main q) vs) (map (is_main p) us) a)
          ∙ mains_behind n us vs (omega (arith, i)) (others_of v.entity entity.Function (entities vs) (entities us) e) (others_of (is_main q v) false (map (is_main q) vs) (map (is_main p) us) a)
          (others_of (name_place q v) same.function (map (name_place q) vs) (map (name_place p) us) w)
      mains_with (suc b) n [] vs i l e a w = absurd (omega (arith, l))
      mains_with (suc b) n (u ∷ us) [] i l e a w = absurd (none_there u.entity (inserted b entity.Function (entities us)) (sym e))
      mains_with (suc b) n (u ∷ us) (v ∷ vs) i l e a w =
          both (failures_at q v.file (main_faults q os ts n v)) (mains_from q os ts (suc n) vs) (failures_at p u.file (main_faults p xs ss n u)) (mains_from p xs ss (suc n) us)
          (ap (λ j. failures_at q v.file (main_faults q os ts j v)) (sym (in_front g.shared n (omega (arith, i))))
          ∙ one_main n u v (first_of (is_main q v) (is_main p u) (map (is_main q) vs) (inserted b false (map (is_main p) us)) a) (first_of v.entity u.entity (entities vs) (inserted b entity.Function (entities us)) e)
          (first_of (name_place q v) (name_place p u) (map (name_place q) vs) (inserted b same.function (map (name_place p) us)) w))
          (mains_with b (suc n) us vs (omega (arith, i)) (omega (arith, l)) (others_of v.entity u.entity (entities vs) (inserted b entity.Function (entities us)) e)
          (others_of (is_main q v) (is_main p u) (map (is_main q) vs) (inserted b false (map (is_main p) us)) a)
          (others_of (name_place q v) (name_place p u) (map (name_place q) vs) (inserted b same.function (map (name_place p) us)) w))

      mains_same : mains_from q os ts 0 q.uses.package_level ≡ mains_from p xs ss 0 p.uses.package_level
      mains_same = mains_with g.shared 0 p.uses.package_level q.uses.package_level (omega arith) h.place h.entities h.mains same.names_stand

      -- ---- all of it

      all_rest : (us : List Specification) → AllByRecursion (IsKept p q g) us → AllByRecursion (NeedsKept p q g) us → AllByRecursion (PlacesKept p q) us → all_failures q os ts us ≡ all_failures p xs ss us
      all_rest [] k n w = mains_same
      all_rest (u ∷ us) k n w =
          both (failures_at q u.file (specification_faults q os ts u)) (all_failures q os ts us) (failures_at p u.file (specification_faults p xs ss u)) (all_failures p xs ss us) (told_same u k.0 n.0 w.0) (all_rest us k.1 n.1 w.1)

      all_front : (us vs : List Specification) → AllByRecursion (IsKept p q g) us → AllByRecursion (NeedsKept p q g) us → AllByRecursion (PlacesKept p q) us
          → AllByRecursion (IsKept p q g) vs → AllByRecursion (NeedsKept p q g) vs → AllByRecursion (PlacesKept p q) vs → all_failures q os ts (us ++ f ∷ vs) ≡ all_failures p xs ss (us ++ vs)
      all_front [] vs k n w l m z = ap (λ fs. failures_at q f.file fs ++ all_failures q os ts vs) function_told ∙ all_rest vs l m z
      all_front (u ∷ us) vs k n w l m z =
          both (failures_at q u.file (specification_faults q os ts u)) (all_failures q os ts (us ++ f ∷ vs)) (failures_at p u.file (specification_faults p xs ss u)) (all_failures p xs ss (us ++ vs)) (told_same u k.0 n.0 w.0)
          (all_front us vs k.1 n.1 w.1 l m z)

      hidden_rest : (us : List Specification) → AllByRecursion (IsKept p q g) us → AllByRecursion (NeedsKept p q g) us → AllByRecursion (PlacesKept p q) us → hidden_failures q os ts us ≡ hidden_failures p xs ss us
      hidden_rest [] k n w = refl
      hidden_rest (u ∷ us) k n w =
          both (failures_at q u.file (unblocked_faults q os ts u)) (hidden_failures q os ts us) (failures_at p u.file (unblocked_faults p xs ss u)) (hidden_failures p xs ss us) (hidden_same u k.0 n.0 w.0) (hidden_rest us k.1 n.1 w.1)

      hidden_front : (us vs : List Specification) → AllByRecursion (IsKept p q g) us → AllByRecursion (NeedsKept p q g) us → AllByRecursion (PlacesKept p q) us
          → AllByRecursion (IsKept p q g) vs → AllByRecursion (NeedsKept p q g) vs → AllByRecursion (PlacesKept p q) vs → hidden_failures q os ts (us ++ f ∷ vs) ≡ hidden_failures p xs ss (us ++ vs)
      hidden_front [] vs k n w l m z = ap (λ fs. failures_at q f.file fs ++ hidden_failures q os ts vs) function_hidden ∙ hidden_rest vs l m z
      hidden_front (u ∷ us) vs k n w l m z =
          both (failures_at q u.file (unblocked_faults q os ts u)) (hidden_failures q os ts (us ++ f ∷ vs)) (failures_at p u.file (unblocked_faults p xs ss u)) (hidden_failures p xs ss (us ++ vs)) (hidden_same u k.0 n.0 w.0)
          (hidden_front us vs k.1 n.1 w.1 l m z)

      failures_same : package_failures q os ts es ≡ package_failures p xs ss ds
      failures_same =
          ap (package_failures q os ts) h.are
          ∙ ap (λ l. or_else l (hidden_failures q os ts (h.front ++ f ∷ h.rest))) (all_front h.front h.rest h.front_kept same.front_need same.front_stand h.rest_kept same.rest_need same.rest_stand)
          ∙ ap (or_else (all_failures p xs ss (h.front ++ h.rest))) (hidden_front h.front h.rest h.front_kept same.front_need same.front_stand h.rest_kept same.rest_need same.rest_stand)
          ∙ ap (package_failures p xs ss) (sym h.were)

  pub answered_exactly : Settles p (outlines p ds) → (s : Stands) → IsSignature q os g.shared h.function.specification h.function.column (known p (outlines p ds) (rounds p)) s → answer_by q es ≡ answered_with g.shared s (answer_by p ds)
  answered_exactly settles s sig =
      let found = known p (outlines p ds) (rounds p) in
      answer_there moves keeps follows p q ds es g h settles s sig
      ∙ ap (λ fs. unless (least fs) (with_function g.shared s (environment_of p found)))
      (failures_same (function_state s) found (many moves keeps follows p q ds es g h settles s sig) s (sig.state (function_state s)))
      ∙ unless_same (least (package_failures p (outlines p ds) found ds)) (environment_of p found) g.shared s
