-- The answers of packages whose declarations are the same but for where they stand.
use Rattle.std.proofs.Common.{◌≡◌, ◌∙◌, ℕ, zero, suc, ◌+◌, Bool, true, false, List, [], ◌∷◌, ◌++◌, map, length, Some, refl, sym, ap}
use Rattle.std.specs.Prelude.{◌&&◌, ◌||◌, not, if◌then◌else◌, slice_get, Ok}
use Rattle.std.specs.List.{list_any}
use Rattle.go_tree.specs.declared.context.Entity.{Entity}
use Rattle.go_tree.specs.declared.object.Declared.{Declared}
use Rattle.go_tree.specs.Failures.{Failure, is_earlier, least_from, least}
use Rattle.go_exprs_rules.specs.declared.fault.TypeFault.{TypeFault}
use Rattle.go_exprs_rules.specs.Scopes.{at_once, Scope}
use Rattle.go_exprs_rules.specs.Tables.{no_faults}
use Rattle.go_package_defs.specs.Answer.{Environment, failures_at, is_procedure, is_main, fault_if, main_faults, mains_from, all_failures, hidden_failures, or_else, package_failures, unless, answer_on}
use Rattle.go_package_defs.specs.Declarations.{Specification}
use Rattle.go_package_defs.specs.Knowledge.{Outline, outlines, State, state_of, passes, is_sound, free_scope, rights_of}
use Rattle.go_package_defs.specs.Sources.{Package, rounds}
use Rattle.go_package_defs.specs.Verdicts.{known, expression_faults, specification_rule, needed_by_all, numbers_of, is_in, needs_one, blocks, is_blocked, rule_unless, specification_faults_on, specification_faults, unblocked_faults_on, unblocked_faults}
use Rattle.go_package_alike.specs.Scopes.{SaySame}
use Rattle.go_elsewhere.specs.Elsewhere.{along}
use Rattle.go_heads_types.specs.Same.{SameSpecification, SameSpecifications, SameOutlines, SameDeclarations}
use Rattle.go_heads_types.specs.States.{SameStates, SameKnowledge}
use Rattle.go_heads_types.proofs.Failing.{Alike}
use Rattle.go_heads_types.proofs.Judged.{MovesTyped, KeepsNames, FollowsTokens, expressions_further, rule_further, expressions_same, rule_same}
use Rattle.go_heads_types.proofs.Scopes.{MeansEqual, state_same, sound_same, passes_same, scopes_same}
use Rattle.go_heads_types.proofs.States.{rights_kept, known_kept}

-- ---- lists of failures

abbrev none_of : List Failure → Bool
none_of [] = true
none_of (f ∷ fs) = false

placed_none : (p : Package) (n : ℕ) (fs : List TypeFault) → none_of (failures_at p n fs) ≡ no_faults fs
placed_none p n [] = refl
placed_none p n (f ∷ fs) = refl

append_none : (fs gs : List Failure) → none_of (fs ++ gs) ≡ (none_of fs && none_of gs)
append_none [] gs = refl
append_none (f ∷ fs) gs = refl

both_none : (p q : Package) (m n : ℕ) (us xs : List TypeFault) (fs gs : List Failure) → Alike us xs → none_of fs ≡ none_of gs
    → none_of (failures_at q n us ++ fs) ≡ none_of (failures_at p m xs ++ gs)
both_none p q m n us xs fs gs e h =
    append_none (failures_at q n us) fs ∙ ap (λ b. b && none_of fs) (placed_none q n us ∙ e ∙ sym (placed_none p m xs)) ∙ ap (λ b. none_of (failures_at p m xs) && b) h
    ∙ sym (append_none (failures_at p m xs) gs)

else_none : (us vs fs gs : List Failure) → none_of us ≡ none_of fs → none_of vs ≡ none_of gs → none_of (or_else us vs) ≡ none_of (or_else fs gs)
else_none [] vs [] gs e h = h
else_none [] vs (f ∷ fs) gs e h = cc
else_none (u ∷ us) vs [] gs e h = cc
else_none (u ∷ us) vs (f ∷ fs) gs e h = refl

never_answered : (f : Failure) (fs : List Failure) (x z : Environment) → unless (least_from (Some f) fs) x ≡ Ok z → ⊥
never_answered f [] x z e = cc
never_answered f (g ∷ fs) x z e = by (is_earlier g f) (never_answered g fs x z) (never_answered f fs x z) e
  where
    by : (b : Bool) → (unless (least_from (Some g) fs) x ≡ Ok z → ⊥) → (unless (least_from (Some f) fs) x ≡ Ok z → ⊥) → unless (least_from (if b then Some g else Some f) fs) x ≡ Ok z → ⊥
    by true h k e = h e
    by false h k e = k e

answered : (fs gs : List Failure) (x y : Environment) → none_of gs ≡ none_of fs → y ≡ x → (z : Environment) → unless (least fs) x ≡ Ok z → unless (least gs) y ≡ Ok z
answered [] [] x y e i z g = ap (λ a. Ok a) i ∙ g
answered [] (k ∷ gs) x y e i z g = cc
answered (f ∷ fs) gs x y e i z g = absurd (never_answered f fs x z g)

abbrev environment_in : Package → List State → Environment
environment_in r zs = record { rights = rights_of r zs; objects = map (λ (s : State). s.stands) zs }

-- ---- blocked specifications

any_same : (f g : ℕ → Bool) (ns : List ℕ) → ((n : ℕ) → f n ≡ g n) → list_any f ns ≡ list_any g ns
any_same f g [] h = refl
any_same f g (n ∷ ns) h = ap (λ b. b || list_any f ns) (h n) ∙ ap (λ b. g n || b) (any_same f g ns h)

one_needed : (p q : Package) (own : List ℕ) (xs ys : List Outline) → SameOutlines p q xs ys → (n : ℕ) → needs_one q own (slice_get ys n) ≡ needs_one p own (slice_get xs n)
one_needed p q own [] [] h n = refl
one_needed p q own [] (y ∷ ys) h n = absurd h
one_needed p q own (x ∷ xs) [] h n = absurd h
one_needed p q own (x ∷ xs) (y ∷ ys) h zero = ap (list_any (is_in own)) h.0.specification.needed
one_needed p q own (x ∷ xs) (y ∷ ys) h (suc n) = one_needed p q own xs ys h.1 n

first_entity : (a b : Entity) (xs ys : List Entity) → (a ∷ xs) ≡ (b ∷ ys) → a ≡ b
first_entity a b xs ys e = cc

other_entities : (a b : Entity) (xs ys : List Entity) → (a ∷ xs) ≡ (b ∷ ys) → xs ≡ ys
other_entities a b xs ys e = cc

first_test : (a b : Bool) (xs ys : List Bool) → (a ∷ xs) ≡ (b ∷ ys) → a ≡ b
first_test a b xs ys e = cc

other_tests : (a b : Bool) (xs ys : List Bool) → (a ∷ xs) ≡ (b ∷ ys) → xs ≡ ys
other_tests a b xs ys e = cc

no_entity : (a : Entity) (xs : List Entity) → (a ∷ xs) ≡ [] → ⊥
no_entity a xs e = cc

module _ (moves : MovesTyped) (keeps : KeepsNames) (follows : FollowsTokens) (equal : MeansEqual) (p q : Package) (ds es : List Specification) (h : SameDeclarations p q ds es) where
  abbrev xs : List Outline
  xs = outlines p ds

  abbrev ys : List Outline
  ys = outlines q es

  abbrev entities : List Declared → List Entity
  entities ds = map (λ (d : Declared). d.entity) ds

  module _ (ss ts : List State) (g : SameStates ss ts) where
    blocks_same : (own : List ℕ) (n : ℕ) → blocks q ys ts own n ≡ blocks p xs ss own n
    blocks_same own n =
        let same = state_same ss ts g n in
        ap (λ b. not (is_in own n) && (not b || (not (no_faults (state_of ts n).assigning) && not (needs_one q own (slice_get ys n))))) same.faults
        ∙ ap (λ b. not (is_in own n) && (not (no_faults (state_of ss n).faults) || (not b && not (needs_one q own (slice_get ys n))))) same.assigning
        ∙ ap (λ b. not (is_in own n) && (not (no_faults (state_of ss n).faults) || (not (no_faults (state_of ss n).assigning) && not b))) (one_needed p q own xs ys h.outlines n)

    module _ (d e : Specification) (s : SameSpecification p q d e) where
      abbrev old : Scope
      old = free_scope p xs ss d

      abbrev new : Scope
      new = free_scope q ys ts e

      abbrev a : Scope
      a = along (λ i. s.from + i) old

      abbrev b : Scope
      b = along (λ i. s.to + i) new

      says : SaySame s.test a b
      says = scopes_same p q is_sound sound_same xs ys h.outlines ss ts g equal (rights_kept moves keeps follows equal p q ds es h ss ts g) h.referents d e s true

      blocked_same : is_blocked q ys ts e ≡ is_blocked p xs ss d
      blocked_same =
          ap (λ own. list_any (blocks q ys ts own) (needed_by_all q e)) s.numbers
          ∙ ap (list_any (blocks q ys ts (numbers_of p d.file d.names))) s.needed
          ∙ any_same (blocks q ys ts (numbers_of p d.file d.names)) (blocks p xs ss (numbers_of p d.file d.names)) (needed_by_all p d) (blocks_same (numbers_of p d.file d.names))

      expressions_alike : Alike (expression_faults new e) (expression_faults old d)
      expressions_alike =
          expressions_further moves keeps s.to s.test s.one e s.after s.type_read s.values_read new
          ∙ ap no_faults (expressions_same follows s.test s.one s.type_read s.values_read a b says)
          ∙ sym (expressions_further moves keeps s.from s.test s.one d s.before s.type_read s.values_read old)

      rule_alike : Alike (specification_rule new e) (specification_rule old d)
      rule_alike =
          rule_further moves keeps s.to s.test s.one e s.after s.type_read s.values_read new
          ∙ ap no_faults (rule_same follows s.test s.one s.type_read s.values_read a b says)
          ∙ sym (rule_further moves keeps s.from s.test s.one d s.before s.type_read s.values_read old)

      unless_alike : (c : Bool) (us vs : List TypeFault) → Alike us vs → Alike (rule_unless c us) (rule_unless c vs)
      unless_alike true us vs k = refl
      unless_alike false us vs k = k

      on_alike : (us vs : List TypeFault) → Alike us vs → Alike (specification_faults_on q ys ts new e us) (specification_faults_on p xs ss old d vs)
      on_alike [] [] k =
          ap (λ c. no_faults (rule_unless c (specification_rule new e))) blocked_same ∙ unless_alike (is_blocked p xs ss d) (specification_rule new e) (specification_rule old d) rule_alike
      on_alike [] (v ∷ vs) k = cc
      on_alike (u ∷ us) [] k = cc
      on_alike (u ∷ us) (v ∷ vs) k = refl

      specification_alike : Alike (specification_faults q ys ts e) (specification_faults p xs ss d)
      specification_alike = on_alike (expression_faults new e) (expression_faults old d) expressions_alike

      unblocked_on_alike : (us vs : List TypeFault) → Alike us vs → Alike (unblocked_faults_on new e us) (unblocked_faults_on old d vs)
      unblocked_on_alike [] [] k = rule_alike
      unblocked_on_alike [] (v ∷ vs) k = cc
      unblocked_on_alike (u ∷ us) [] k = cc
      unblocked_on_alike (u ∷ us) (v ∷ vs) k = refl

      unblocked_alike : Alike (unblocked_faults q ys ts e) (unblocked_faults p xs ss d)
      unblocked_alike = unblocked_on_alike (expression_faults new e) (expression_faults old d) expressions_alike

    -- ---- the function `main`

    if_alike : (c : Bool) (t u : ℕ) → Alike (fault_if c t) (fault_if c u)
    if_alike true t u = refl
    if_alike false t u = refl

    main_alike : (n : ℕ) (x y : Declared) → is_main q y ≡ is_main p x → y.entity ≡ x.entity → Alike (main_faults q ys ts n y) (main_faults p xs ss n x)
    main_alike n x y m k =
        ap (λ c. no_faults (fault_if (c && passes is_sound ys ts at_once n && not (is_procedure y.entity (state_of ts n).stands)) y.name)) m
        ∙ ap (λ c. no_faults (fault_if (is_main p x && c && not (is_procedure y.entity (state_of ts n).stands)) y.name)) (passes_same p q is_sound sound_same xs ys h.outlines ss ts g at_once n)
        ∙ ap (λ z. no_faults (fault_if (is_main p x && passes is_sound xs ss at_once n && not (is_procedure z (state_of ts n).stands)) y.name)) k
        ∙ ap (λ z. no_faults (fault_if (is_main p x && passes is_sound xs ss at_once n && not (is_procedure x.entity z)) y.name)) ((state_same ss ts g n).stands)
        ∙ if_alike (is_main p x && passes is_sound xs ss at_once n && not (is_procedure x.entity (state_of ss n).stands)) y.name x.name

    mains_same : (n : ℕ) (us vs : List Declared) → entities vs ≡ entities us → map (is_main q) vs ≡ map (is_main p) us → none_of (mains_from q ys ts n vs) ≡ none_of (mains_from p xs ss n us)
    mains_same n [] [] k m = refl
    mains_same n [] (v ∷ vs) k m = absurd (no_entity v.entity (entities vs) k)
    mains_same n (u ∷ us) [] k m = absurd (no_entity u.entity (entities us) (sym k))
    mains_same n (u ∷ us) (v ∷ vs) k m =
        both_none p q u.file v.file (main_faults q ys ts n v) (main_faults p xs ss n u) (mains_from q ys ts (suc n) vs) (mains_from p xs ss (suc n) us)
        (main_alike n u v (first_test (is_main q v) (is_main p u) (map (is_main q) vs) (map (is_main p) us) m) (first_entity v.entity u.entity (entities vs) (entities us) k))
        (mains_same (suc n) us vs (other_entities v.entity u.entity (entities vs) (entities us) k) (other_tests (is_main q v) (is_main p u) (map (is_main q) vs) (map (is_main p) us) m))

    all_same : (us vs : List Specification) → SameSpecifications p q us vs → none_of (all_failures q ys ts vs) ≡ none_of (all_failures p xs ss us)
    all_same [] [] s = mains_same 0 p.uses.package_level q.uses.package_level h.entities h.mains
    all_same [] (v ∷ vs) s = absurd s
    all_same (u ∷ us) [] s = absurd s
    all_same (u ∷ us) (v ∷ vs) s =
        both_none p q u.file v.file (specification_faults q ys ts v) (specification_faults p xs ss u) (all_failures q ys ts vs) (all_failures p xs ss us) (specification_alike u v s.0) (all_same us vs s.1)

    hidden_same : (us vs : List Specification) → SameSpecifications p q us vs → none_of (hidden_failures q ys ts vs) ≡ none_of (hidden_failures p xs ss us)
    hidden_same [] [] s = refl
    hidden_same [] (v ∷ vs) s = absurd s
    hidden_same (u ∷ us) [] s = absurd s
    hidden_same (u ∷ us) (v ∷ vs) s =
        both_none p q u.file v.file (unblocked_faults q ys ts v) (unblocked_faults p xs ss u) (hidden_failures q ys ts vs) (hidden_failures p xs ss us) (unblocked_alike u v s.0) (hidden_same us vs s.1)

    package_same : (us vs : List Specification) → SameSpecifications p q us vs → none_of (package_failures q ys ts vs) ≡ none_of (package_failures p xs ss us)
    package_same us vs s = else_none (all_failures q ys ts vs) (hidden_failures q ys ts vs) (all_failures p xs ss us) (hidden_failures p xs ss us) (all_same us vs s) (hidden_same us vs s)

    stands_mapped : (us vs : List State) → SameStates us vs → map (λ (s : State). s.stands) vs ≡ map (λ (s : State). s.stands) us
    stands_mapped [] [] k = refl
    stands_mapped [] (v ∷ vs) k = absurd k
    stands_mapped (u ∷ us) [] k = absurd k
    stands_mapped (u ∷ us) (v ∷ vs) k = ap (λ x. x ∷ map (λ (s : State). s.stands) vs) k.0.stands ∙ ap (λ ys. u.stands ∷ ys) (stands_mapped us vs k.1)

    environment_same : environment_in q ts ≡ environment_in p ss
    environment_same =
        ap (λ rs. let e : Environment = record { rights = rs; objects = map (λ (s : State). s.stands) ts } in e) (rights_kept moves keeps follows equal p q ds es h ss ts g)
        ∙ ap (λ os. let e : Environment = record { rights = rights_of p ss; objects = os } in e) (stands_mapped ss ts g)

  length_kept : (us vs : List Declared) → entities vs ≡ entities us → length vs ≡ length us
  length_kept [] [] k = refl
  length_kept [] (v ∷ vs) k = absurd (no_entity v.entity (entities vs) k)
  length_kept (u ∷ us) [] k = absurd (no_entity u.entity (entities us) (sym k))
  length_kept (u ∷ us) (v ∷ vs) k = ap suc (length_kept us vs (other_entities v.entity u.entity (entities vs) (entities us) k))

  rounds_kept : rounds q ≡ rounds p
  rounds_kept = ap (λ n. n + n) (length_kept p.uses.package_level q.uses.package_level h.entities)

  kept : (k : ℕ) → SameStates (known p xs k) (known q ys k)
  kept = known_kept moves keeps follows equal p q ds es h

  pub knowledge_kept : SameKnowledge p q ds es
  knowledge_kept = record {
    known = kept;
    before =
        λ x e.
        let ss = known p xs (rounds p) in
        let ts = known q ys (rounds p) in
        ap (λ n. answer_on q es ys (known q ys n)) rounds_kept
        ∙ answered (package_failures p xs ss ds) (package_failures q ys ts es) (environment_in p ss) (environment_in q ts) (package_same ss ts (kept (rounds p)) ds es h.specifications) (environment_same ss ts (kept (rounds p))) x e;
    after =
        λ x e.
        let ss = known p xs (rounds p) in
        let ts = known q ys (rounds p) in
        answered (package_failures q ys ts es) (package_failures p xs ss ds) (environment_in q ts) (environment_in p ss) (sym (package_same ss ts (kept (rounds p)) ds es h.specifications)) (sym (environment_same ss ts (kept (rounds p)))) x
        (sym (ap (λ n. answer_on q es ys (known q ys n)) rounds_kept) ∙ e);
  }
