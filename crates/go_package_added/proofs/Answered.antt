-- The answer of a package with one function more.
use Rattle.std.proofs.Common.{◌≡◌, ◌∙◌, ℕ, zero, suc, ◌+◌, ◌≤◌, Bool, true, false, ◌&&◌, List, [], ◌∷◌, ◌++◌, length, map, Some, None, refl, sym, ap, arith}
use Rattle.std.specs.Prelude.{not, if◌then◌else◌, Ok}
use Rattle.std.specs.List.{AllByRecursion}
use Rattle.go_tree.specs.declared.context.Entity.{Entity}
use Rattle.go_tree.specs.declared.context.Entity.TheVariants as entity
use Rattle.go_tree.specs.declared.object.Declared.{Declared}
use Rattle.go_tree.specs.Failures.{Failure, is_earlier, least_from, least}
use Rattle.go_exprs_rules.specs.declared.fault.TypeFault.{TypeFault}
use Rattle.go_exprs_rules.specs.Scopes.{Scope, at_once}
use Rattle.go_exprs_rules.specs.Sorts.{Stands}
use Rattle.go_exprs_rules.specs.Tables.{no_faults}
use Rattle.go_package_defs.specs.Answer.{Environment, failures_at, is_procedure, is_main, fault_if, main_faults, mains_from, all_failures, hidden_failures, or_else, package_failures, unless, answer_on, answer_with, answer_by, environment_of}
use Rattle.go_package_defs.specs.Declarations.{Specification}
use Rattle.go_package_defs.specs.Knowledge.{Outline, outlines, State, state_of, passes, is_sound, free_scope, rights_of}
use Rattle.go_package_defs.specs.Sources.{Package, rounds}
use Rattle.go_package_defs.specs.Verdicts.{known, own_faults, value_state, state_by, type_faults, expression_faults, specification_rule, specification_failing, typed_type, typed_values, is_blocked, rule_unless, specification_faults_on, specification_faults, unblocked_faults_on, unblocked_faults, values_faults, value_hint, faults_in, own_value}
use Rattle.go_exprs_rules.specs.TypeNodes.{part_type}
use Rattle.go_heads_added.specs.Added.{Gap, beyond}
use Rattle.go_package_added.specs.OneMore.{inserted, outline_beyond, IsKept, IsOneMore, IsSignature, Settles, function_state, with_function}
use Rattle.go_package_added.proofs.Inserted.{map_inserted, length_inserted, mapped_count}
use Rattle.go_package_added.proofs.Judged.{IsTypedAnew, expressions_anew, rule_anew}
use Rattle.go_package_added.proofs.Scopes.{MovesTyped, KeepsWords, FollowsTokens, scopes_anew, rights_same, state_beyond, passes_beyond}
use Rattle.go_package_added.proofs.Rounds.{in_front, behind_it, function_known, known_with, long_enough}

-- ---- lists of failures

abbrev none_of : List Failure → Bool
none_of [] = true
none_of (f ∷ fs) = false

placed_none : (p : Package) (n : ℕ) (fs : List TypeFault) → none_of (failures_at p n fs) ≡ no_faults fs
placed_none p n [] = refl
placed_none p n (f ∷ fs) = refl

append_none : (fs gs : List Failure) → none_of (fs ++ gs) ≡ (none_of fs && none_of gs)
append_none [] gs = refl
append_none (f ∷ fs) gs = refl

both_none : (p q : Package) (m n : ℕ) (us xs : List TypeFault) (fs gs : List Failure) → no_faults us ≡ no_faults xs → none_of fs ≡ none_of gs
    → none_of (failures_at q n us ++ fs) ≡ none_of (failures_at p m xs ++ gs)
both_none p q m n us xs fs gs e h =
    append_none (failures_at q n us) fs ∙ ap (λ b. b && none_of fs) (placed_none q n us ∙ e ∙ sym (placed_none p m xs)) ∙ ap (λ b. none_of (failures_at p m xs) && b) h
    ∙ sym (append_none (failures_at p m xs) gs)

skip_none : (q : Package) (n : ℕ) (us : List TypeFault) (fs : List Failure) → us ≡ [] → none_of (failures_at q n us ++ fs) ≡ none_of fs
skip_none q n us fs e = ap (λ zs. none_of (failures_at q n zs ++ fs)) e

or_none : (fs gs : List Failure) → none_of (or_else fs gs) ≡ (none_of fs && none_of gs)
or_none [] gs = refl
or_none (f ∷ fs) gs = refl

false_true : {A : Type 0} → false ≡ true → A
false_true e = cc

exchange : (a h m : Bool) → (a ≡ true → m ≡ true) → (h ≡ true → m ≡ true → a ≡ true) → (a && h) ≡ (h && m)
exchange true true m f g = sym (f refl)
exchange true false m f g = refl
exchange false true true f g = g refl refl
exchange false true false f g = refl
exchange false false m f g = refl

both_left : (a b : Bool) → (a && b) ≡ true → a ≡ true
both_left true b e = refl
both_left false b e = e

both_right : (a b : Bool) → (a && b) ≡ true → b ≡ true
both_right true b e = e
both_right false b e = false_true e

-- No rule fails in a package where none fails at its specifications, blocked or not, and at `main`.
module _ (r : Package) (os : List Outline) (zs : List State) where
  rule_none : (b : Bool) (fs : List TypeFault) → no_faults fs ≡ true → no_faults (rule_unless b fs) ≡ true
  rule_none true fs e = refl
  rule_none false fs e = e

  on_none : (d : Specification) (fs : List TypeFault) → no_faults (unblocked_faults_on (free_scope r os zs d) d fs) ≡ true → no_faults (specification_faults_on r os zs (free_scope r os zs d) d fs) ≡ true
  on_none d [] e = rule_none (is_blocked r os zs d) (specification_rule (free_scope r os zs d) d) e
  on_none d (f ∷ fs) e = e

  abbrev mains : List Failure
  mains = mains_from r os zs 0 r.uses.package_level

  all_none : (us : List Specification) → none_of (hidden_failures r os zs us) ≡ true → none_of mains ≡ true → none_of (all_failures r os zs us) ≡ true
  all_none [] e m = m
  all_none (u ∷ us) e m =
      let here = failures_at r u.file (unblocked_faults r os zs u) in
      let parts = sym (append_none here (hidden_failures r os zs us)) ∙ e in
      let own = sym (placed_none r u.file (unblocked_faults r os zs u)) ∙ both_left (none_of here) (none_of (hidden_failures r os zs us)) parts in
      let rest = both_right (none_of here) (none_of (hidden_failures r os zs us)) parts in
      append_none (failures_at r u.file (specification_faults r os zs u)) (all_failures r os zs us)
      ∙ ap (λ b. b && none_of (all_failures r os zs us)) (placed_none r u.file (specification_faults r os zs u) ∙ on_none u (expression_faults (free_scope r os zs u) u) own)
      ∙ all_none us rest m

  mains_none : (us : List Specification) → none_of (all_failures r os zs us) ≡ true → none_of mains ≡ true
  mains_none [] e = e
  mains_none (u ∷ us) e =
      let here = failures_at r u.file (specification_faults r os zs u) in
      mains_none us (both_right (none_of here) (none_of (all_failures r os zs us)) (sym (append_none here (all_failures r os zs us)) ∙ e))

  whole_none : (us : List Specification) → none_of (package_failures r os zs us) ≡ (none_of (hidden_failures r os zs us) && none_of mains)
  whole_none us =
      or_none (all_failures r os zs us) (hidden_failures r os zs us)
      ∙ exchange (none_of (all_failures r os zs us)) (none_of (hidden_failures r os zs us)) (none_of mains) (mains_none us) (all_none us)

never_answered : (f : Failure) (fs : List Failure) (x z : Environment) → unless (least_from (Some f) fs) x ≡ Ok z → ⊥
never_answered f [] x z e = cc
never_answered f (g ∷ fs) x z e = by (is_earlier g f) (never_answered g fs x z) (never_answered f fs x z) e
  where
    by : (b : Bool) → (unless (least_from (Some g) fs) x ≡ Ok z → ⊥) → (unless (least_from (Some f) fs) x ≡ Ok z → ⊥) → unless (least_from (if b then Some g else Some f) fs) x ≡ Ok z → ⊥
    by true h k e = h e
    by false h k e = k e

inside_ok : (x z : Environment) → unless None x ≡ Ok z → x ≡ z
inside_ok x z e = cc

answered : (fs gs : List Failure) (x z : Environment) (to : Environment → Environment) → none_of gs ≡ none_of fs → unless (least fs) x ≡ Ok z → unless (least gs) (to x) ≡ Ok (to z)
answered [] [] x z to e k = ap (λ w. Ok (to w)) (inside_ok x z k)
answered [] (g ∷ gs) x z to e k = cc
answered (f ∷ fs) gs x z to e k = absurd (never_answered f fs x z k)

answered_back : (fs gs : List Failure) (x z : Environment) (to : Environment → Environment) → none_of gs ≡ none_of fs → unless (least gs) (to x) ≡ Ok z → (unless (least fs) x ≡ Ok x) × (z ≡ to x)
answered_back [] [] x z to e k = (refl, sym (inside_ok (to x) z k))
answered_back (f ∷ fs) [] x z to e k = cc
answered_back fs (g ∷ gs) x z to e k = absurd (never_answered g gs (to x) z k)

if_none : (b : Bool) (t : ℕ) → no_faults (fault_if b t) ≡ not b
if_none true t = refl
if_none false t = refl

pub first_of : {A : Type 0} (a b : A) (xs ys : List A) → (a ∷ xs) ≡ (b ∷ ys) → a ≡ b
first_of a b xs ys e = cc

pub others_of : {A : Type 0} (a b : A) (xs ys : List A) → (a ∷ xs) ≡ (b ∷ ys) → xs ≡ ys
others_of a b xs ys e = cc

pub none_there : {A : Type 0} (a : A) (xs : List A) → (a ∷ xs) ≡ [] → ⊥
none_there a xs e = cc

module _ (moves : MovesTyped) (keeps : KeepsWords) (follows : FollowsTokens) (p q : Package) (ds es : List Specification) (g : Gap) (h : IsOneMore p q ds es g) where
  abbrev xs : List Outline
  xs = outlines p ds

  pub inside : g.shared ≤ length (outlines p ds)
  inside = let e = mapped_count (λ (d : Declared). d.entity) p.uses.package_level in let f = outlines_count in let l = h.place in omega (arith, f, l)
    where
      outlines_count : length (outlines p ds) ≡ length p.uses.package_level
      outlines_count = mapped_count _ p.uses.package_level

  abbrev os : List Outline
  os = inserted g.shared h.function (map (outline_beyond g.shared) xs)

  module _ (y : State) (ss : List State) (as_many : g.shared ≤ length ss) where
    abbrev ts : List State
    ts = inserted g.shared y ss

    module _ (d : Specification) (k : IsKept p q g d) where
      anew : IsTypedAnew g k.test (free_scope p xs ss d) (free_scope q os ts d)
      anew = scopes_anew moves keeps follows p q ds es g h inside y ss as_many is_sound true d k

      pub expressions_same : expression_faults (free_scope q os ts d) d ≡ expression_faults (free_scope p xs ss d) d
      expressions_same = expressions_anew g k.test (free_scope p xs ss d) (free_scope q os ts d) anew d k.type_read k.values_read

      pub rule_same : specification_rule (free_scope q os ts d) d ≡ specification_rule (free_scope p xs ss d) d
      rule_same = rule_anew g k.test (free_scope p xs ss d) (free_scope q os ts d) anew d k.type_read k.values_read

      unblocked_on_same : (fs : List TypeFault) → unblocked_faults_on (free_scope q os ts d) d fs ≡ unblocked_faults_on (free_scope p xs ss d) d fs
      unblocked_on_same [] = rule_same
      unblocked_on_same (f ∷ fs) = refl

      pub unblocked_same : unblocked_faults q os ts d ≡ unblocked_faults p xs ss d
      unblocked_same = ap (unblocked_faults_on (free_scope q os ts d) d) expressions_same ∙ unblocked_on_same (expression_faults (free_scope p xs ss d) d)

    -- ---- the function

    module _ (s : Stands) (sig : value_state (free_scope q os ts h.function.specification) h.function.specification h.function.column
        (own_faults (free_scope q os ts h.function.specification) h.function.specification h.function.column) ≡ function_state s) where
      abbrev f : Specification
      f = h.function.specification

      abbrev around : Scope
      around = free_scope q os ts h.function.specification

      first_empty : (us vs : List TypeFault) → us ++ vs ≡ [] → us ≡ []
      first_empty [] vs e = refl
      first_empty (u ∷ us) vs e = cc

      type_sound : type_faults around f ≡ []
      type_sound = first_empty (type_faults around f) (faults_in around (value_hint f) (own_value f h.function.column)) (ap (λ (z : State). z.faults) sig)

      sound : expression_faults around f ≡ []
      sound = ap (λ fs. fs ++ values_faults around (value_hint f) f.values) type_sound ∙ ap (values_faults around (value_hint f)) h.no_values

      no_rule : specification_rule around f ≡ []
      no_rule = ap (λ e. specification_failing e around.rights f (part_type (typed_type around f)) (typed_values around f)) h.is_function

      pub function_unblocked : unblocked_faults q os ts f ≡ []
      function_unblocked = ap (unblocked_faults_on around f) sound ∙ no_rule

      -- ---- the function `main`

      main_same : (n : ℕ) (u v : Declared) → is_main q v ≡ is_main p u → v.entity ≡ u.entity → no_faults (main_faults q os ts (beyond g.shared n) v) ≡ no_faults (main_faults p xs ss n u)
      main_same n u v a e =
          if_none (is_main q v && passes is_sound os ts at_once (beyond g.shared n) && not (is_procedure v.entity (state_of ts (beyond g.shared n)).stands)) v.name
          ∙ ap (λ b. not (b && passes is_sound os ts at_once (beyond g.shared n) && not (is_procedure v.entity (state_of ts (beyond g.shared n)).stands))) a
          ∙ ap (λ b. not (is_main p u && b && not (is_procedure v.entity (state_of ts (beyond g.shared n)).stands))) (passes_beyond g.shared h.function xs inside y ss as_many is_sound at_once n)
          ∙ ap (λ z. not (is_main p u && passes is_sound xs ss at_once n && not (is_procedure z (state_of ts (beyond g.shared n)).stands))) e
          ∙ ap (λ (z : State). not (is_main p u && passes is_sound xs ss at_once n && not (is_procedure u.entity z.stands))) (state_beyond g.shared h.function xs inside y ss as_many n)
          ∙ sym (if_none (is_main p u && passes is_sound xs ss at_once n && not (is_procedure u.entity (state_of ss n).stands)) u.name)

      abbrev entities : List Declared → List Entity
      entities us = map (λ (d : Declared). d.entity) us

      mains_behind : (n : ℕ) (us vs : List Declared) → g.shared ≤ n → entities vs ≡ entities us → map (is_main q) vs ≡ map (is_main p) us → none_of (mains_from q os ts (suc n) vs) ≡ none_of (mains_from p xs ss n us)
      mains_behind n [] [] l e a = refl
      mains_behind n [] (v ∷ vs) l e a = absurd (none_there v.entity (entities vs) e)
      mains_behind n (u ∷ us) [] l e a = absurd (none_there u.entity (entities us) (sym e))
      mains_behind n (u ∷ us) (v ∷ vs) l e a =
          both_none p q u.file v.file (main_faults q os ts (suc n) v) (main_faults p xs ss n u) (mains_from q os ts (suc (suc n)) vs) (mains_from p xs ss (suc n) us)
          (ap (λ i. no_faults (main_faults q os ts i v)) (sym (behind_it g.shared n l))
          ∙ main_same n u v (first_of (is_main q v) (is_main p u) (map (is_main q) vs) (map (is_main p) us) a) (first_of v.entity u.entity (entities vs) (entities us) e))
          (mains_behind (suc n) us vs (omega (arith, l)) (others_of v.entity u.entity (entities vs) (entities us) e) (others_of (is_main q v) (is_main p u) (map (is_main q) vs) (map (is_main p) us) a))

      not_main : (n : ℕ) (v : Declared) → is_main q v ≡ false → no_faults (main_faults q os ts n v) ≡ true
      not_main n v a =
          ap (λ b. no_faults (fault_if (b && passes is_sound os ts at_once n && not (is_procedure v.entity (state_of ts n).stands)) v.name)) a

      skip_main : (n : ℕ) (v : Declared) (fs : List Failure) → is_main q v ≡ false → none_of (failures_at q v.file (main_faults q os ts n v) ++ fs) ≡ none_of fs
      skip_main n v fs a =
          append_none (failures_at q v.file (main_faults q os ts n v)) fs ∙ ap (λ b. b && none_of fs) (placed_none q v.file (main_faults q os ts n v) ∙ not_main n v a)

      mains_with : (b n : ℕ) (us vs : List Declared) → b + n ≡ g.shared → b ≤ length us → entities vs ≡ inserted b entity.Function (entities us) → map (is_main q) vs ≡ inserted b false (map (is_main p) us)
          → none_of (mains_from q os ts n vs) ≡ none_of (mains_from p xs ss n us)
      mains_with zero n us [] i l e a = absurd (none_there entity.Function (entities us) (sym e))
      mains_with zero n us (v ∷ vs) i l e a =
          skip_main n v (mains_from q os ts (suc n) vs) (first_of (is_main q v) false (map (is_main q) vs) (map (is_main p) us) a)
          ∙ mains_behind n us vs (omega (arith, i)) (others_of v.entity entity.Function (entities vs) (entities us) e) (others_of (is_main q v) false (map (is_main q) vs) (map (is_main p) us) a)
      mains_with (suc b) n [] vs i l e a = absurd (omega (arith, l))
      mains_with (suc b) n (u ∷ us) [] i l e a = absurd (none_there u.entity (inserted b entity.Function (entities us)) (sym e))
      mains_with (suc b) n (u ∷ us) (v ∷ vs) i l e a =
          both_none p q u.file v.file (main_faults q os ts n v) (main_faults p xs ss n u) (mains_from q os ts (suc n) vs) (mains_from p xs ss (suc n) us)
          (ap (λ j. no_faults (main_faults q os ts j v)) (sym (in_front g.shared n (omega (arith, i))))
          ∙ main_same n u v (first_of (is_main q v) (is_main p u) (map (is_main q) vs) (inserted b false (map (is_main p) us)) a) (first_of v.entity u.entity (entities vs) (inserted b entity.Function (entities us)) e))
          (mains_with b (suc n) us vs (omega (arith, i)) (omega (arith, l)) (others_of v.entity u.entity (entities vs) (inserted b entity.Function (entities us)) e)
          (others_of (is_main q v) (is_main p u) (map (is_main q) vs) (inserted b false (map (is_main p) us)) a))

      mains_same : none_of (mains_from q os ts 0 q.uses.package_level) ≡ none_of (mains_from p xs ss 0 p.uses.package_level)
      mains_same = mains_with g.shared 0 p.uses.package_level q.uses.package_level (omega arith) h.place h.entities h.mains

      -- ---- all of it

      hidden_rest : (us : List Specification) → AllByRecursion (IsKept p q g) us → none_of (hidden_failures q os ts us) ≡ none_of (hidden_failures p xs ss us)
      hidden_rest [] k = refl
      hidden_rest (u ∷ us) k =
          both_none p q u.file u.file (unblocked_faults q os ts u) (unblocked_faults p xs ss u) (hidden_failures q os ts us) (hidden_failures p xs ss us) (ap no_faults (unblocked_same u k.0)) (hidden_rest us k.1)

      hidden_front : (us vs : List Specification) → AllByRecursion (IsKept p q g) us → AllByRecursion (IsKept p q g) vs → none_of (hidden_failures q os ts (us ++ f ∷ vs)) ≡ none_of (hidden_failures p xs ss (us ++ vs))
      hidden_front [] vs k l = skip_none q f.file (unblocked_faults q os ts f) (hidden_failures q os ts vs) function_unblocked ∙ hidden_rest vs l
      hidden_front (u ∷ us) vs k l =
          both_none p q u.file u.file (unblocked_faults q os ts u) (unblocked_faults p xs ss u) (hidden_failures q os ts (us ++ f ∷ vs)) (hidden_failures p xs ss (us ++ vs))
          (ap no_faults (unblocked_same u k.0)) (hidden_front us vs k.1 l)

      failures_same : none_of (package_failures q os ts es) ≡ none_of (package_failures p xs ss ds)
      failures_same =
          whole_none q os ts es ∙ ap (λ us. none_of (hidden_failures q os ts us) && none_of (mains_from q os ts 0 q.uses.package_level)) h.are
          ∙ ap (λ b. b && none_of (mains_from q os ts 0 q.uses.package_level)) (hidden_front h.front h.rest h.front_kept h.rest_kept)
          ∙ ap (λ b. none_of (hidden_failures p xs ss (h.front ++ h.rest)) && b) mains_same
          ∙ ap (λ us. none_of (hidden_failures p xs ss us) && none_of (mains_from p xs ss 0 p.uses.package_level)) (sym h.were) ∙ sym (whole_none p xs ss ds)

    environment_same : environment_of q ts ≡ with_function g.shared y.stands (environment_of p ss)
    environment_same =
        ap (λ rs. let e : Environment = record { rights = rs; objects = map (λ (s : State). s.stands) ts } in e) (rights_same moves keeps follows p q ds es g h inside y ss as_many)
        ∙ ap (λ zs. let e : Environment = record { rights = rights_of p ss; objects = zs } in e) (map_inserted (λ (s : State). s.stands) g.shared y ss)

  count_with : length q.uses.package_level ≡ suc (length p.uses.package_level)
  count_with =
      sym (mapped_count (λ (d : Declared). d.entity) q.uses.package_level) ∙ ap length h.entities ∙ length_inserted g.shared entity.Function (map (λ (d : Declared). d.entity) p.uses.package_level)
      ∙ ap suc (mapped_count (λ (d : Declared). d.entity) p.uses.package_level)

  two_more : rounds q ≡ suc (suc (rounds p))
  two_more = let e = count_with in omega (arith, e)

  module _ (settles : Settles p xs) (s : Stands) (sig : IsSignature q os g.shared h.function.specification h.function.column (known p xs (rounds p)) s) where
    further_one : known p xs (suc (rounds p)) ≡ known p xs (rounds p)
    further_one = ap (known p xs) (let z : suc (rounds p) ≡ 1 + rounds p = omega arith in z) ∙ settles.further 1

    further_two : known p xs (suc (suc (rounds p))) ≡ known p xs (rounds p)
    further_two = ap (known p xs) (let z : suc (suc (rounds p)) ≡ 2 + rounds p = omega arith in z) ∙ settles.further 2

    abbrev found : List State
    found = known p xs (rounds p)

    abbrev last_but_one : State
    last_but_one = function_known moves keeps follows p q ds es g h inside (suc (rounds p))

    as_value : (e : Entity) (n : ℕ) (zs : List State) (d : Specification) (c : ℕ) → e ≡ entity.Function → state_by e q os zs n d c ≡ value_state (free_scope q os zs d) d c (own_faults (free_scope q os zs d) d c)
    as_value e n zs d c i = ap (λ k. state_by k q os zs n d c) i

    function_last : function_known moves keeps follows p q ds es g h inside (suc (suc (rounds p))) ≡ function_state s
    function_last =
        as_value h.function.specification.entity g.shared (inserted g.shared last_but_one (known p xs (suc (rounds p)))) h.function.specification h.function.column h.is_function
        ∙ ap (λ zs. value_state (free_scope q os (inserted g.shared last_but_one zs) h.function.specification) h.function.specification h.function.column
        (own_faults (free_scope q os (inserted g.shared last_but_one zs) h.function.specification) h.function.specification h.function.column)) further_one
        ∙ sig.state last_but_one

    known_at_last : known q os (rounds q) ≡ inserted g.shared (function_state s) found
    known_at_last =
        ap (known q os) two_more ∙ known_with moves keeps follows p q ds es g h inside (suc (suc (rounds p)))
        ∙ ap (λ z. inserted g.shared z (known p xs (suc (suc (rounds p))))) function_last ∙ ap (inserted g.shared (function_state s)) further_two

    pub many : g.shared ≤ length found
    many = long_enough moves keeps follows p q ds es g h inside (rounds p)

    abbrev failures_then : List Failure
    failures_then = package_failures q os (inserted g.shared (function_state s) found) es

    pub answer_there : answer_by q es ≡ unless (least failures_then) (with_function g.shared s (environment_of p found))
    answer_there =
        ap (answer_with q es) h.outlined
        ∙ ap (answer_on q es os) known_at_last
        ∙ ap (unless (least failures_then)) (environment_same (function_state s) found many)

    same_failures : none_of failures_then ≡ none_of (package_failures p xs found ds)
    same_failures = failures_same (function_state s) found many s (sig.state (function_state s))

    pub answered_with : (x : Environment) → answer_by p ds ≡ Ok x → answer_by q es ≡ Ok (with_function g.shared s x)
    answered_with x e = answer_there ∙ answered (package_failures p xs found ds) failures_then (environment_of p found) x (with_function g.shared s) same_failures e

    pub answered_before : (z : Environment) → answer_by q es ≡ Ok z → (x : Environment) × (answer_by p ds ≡ Ok x) × (z ≡ with_function g.shared s x)
    answered_before z e =
        let r = answered_back (package_failures p xs found ds) failures_then (environment_of p found) z (with_function g.shared s) same_failures (sym answer_there ∙ e) in
        (environment_of p found, r.0, r.1)
