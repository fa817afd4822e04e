-- Where nothing else fails: the rules of specifications that may be blocked.
use Rattle.std.proofs.Common.{◌≡◌, ℕ, zero, suc, ◌+◌, ◌≤◌, Bool, true, false, List, [], ◌∷◌, ◌++◌, length, map, drop, Option, Some, None, refl, ap, sym, subst, ◌∙◌, arith, cond}
use Rattle.std.specs.Prelude.{◌&&◌, ◌||◌, not, is_some, slice_get}
use Rattle.std.specs.Bool.{beq}
use Rattle.std.specs.List.{list_any}
use Rattle.std.specs.Option.{option_map}
use Rattle.std.proofs.lemmas.List.{drop_all}
use Rattle.go_tree.specs.Failures.{Failure, is_earlier, earlier, least_from, least}
use Rattle.go_exprs_rules.specs.declared.fault.TypeFault.{TypeFault}
use Rattle.go_exprs_rules.specs.Scopes.{Scope}
use Rattle.go_exprs_rules.specs.Tables.{no_faults}
use Rattle.go_package_defs.specs.Answer.{all_failures, hidden_failures, package_failures, or_else, failures_at}
use Rattle.go_package_defs.specs.Declarations.{Specification}
use Rattle.go_package_defs.specs.Knowledge.{Outline, State, free_scope, state_of, state_there}
use Rattle.go_package_defs.specs.Sources.{Package}
use Rattle.go_package_defs.specs.Verdicts.{expression_faults, specification_rule, rule_unless, needed_by_all, numbers_of, is_in, needs_one, blocks, is_blocked, specification_faults, specification_faults_on, unblocked_faults, unblocked_faults_on}
use Rattle.go_needs.specs.Passing.{is_faulty, is_misassigned}
use Rattle.go_package_laws.specs.Places.{EachFault}
use Rattle.go_package_types.specs.Places.{SpecificationStands}
use Rattle.go_package_types.specs.Whole.{unless_failing, failing_as_whole}
use Rattle.go_package_types.proofs.Merged.{least_from_append}
use Rattle.go_package_types.proofs.WholeAnswers.{whole_at}

-- ---- the least of failures

earlier_there : (f g : Failure) → (h : Failure) × (earlier (Some f) g ≡ Some h)
earlier_there f g = by (is_earlier g f)
  where
    by : (b : Bool) → (h : Failure) × ((let o : Option Failure = cond b (Some g) (Some f) in o) ≡ Some h)
    by true = (g, refl)
    by false = (f, refl)

some_least : (f : Failure) (fs : List Failure) → least_from (Some f) fs ≡ None → ⊥
some_least f [] e = cc
some_least f (g ∷ gs) e = let h = earlier_there f g in some_least h.0 gs (subst (λ o. least_from o gs ≡ None) h.1 e)

none_least : (fs : List Failure) → None ≡ least fs → fs ≡ []
none_least [] e = refl
none_least (f ∷ fs) e = absurd (some_least f fs (sym e))

some_first : (o : Option Failure) (f : Failure) (fs gs : List Failure) → o ≡ Some f → o ≡ least fs → o ≡ least (or_else fs gs)
some_first o f [] gs s e = absurd (let no : None ≡ Some f = sym e ∙ s in cc)
some_first o f (g ∷ fs) gs s e = e

front_none : {A : Type 0} (xs ys : List A) → xs ++ ys ≡ [] → xs ≡ []
front_none [] ys e = refl
front_none (x ∷ xs) ys e = cc

behind_none : {A : Type 0} (xs ys : List A) → xs ++ ys ≡ [] → ys ≡ []
behind_none [] ys e = e
behind_none (x ∷ xs) ys e = cc

-- ---- what fails at a specification, blocked or not

failing_by : (gs fs : List TypeFault) (s : Scope) (d : Specification) → specification_rule s d ≡ gs → unless_failing false gs fs ≡ unblocked_faults_on s d fs
failing_by gs [] s d e = sym e
failing_by gs (f ∷ fs) s d e = refl

module _ (p : Package) (os : List Outline) (ss : List State) (d : Specification) where
  pub whole_is : failing_as_whole false (free_scope p os ss d) d ≡ unblocked_faults p os ss d
  whole_is = failing_by (specification_rule (free_scope p os ss d) d) (expression_faults (free_scope p os ss d) d) (free_scope p os ss d) d refl

  pub each_hidden : (q : ℕ → ℕ → Bool) → SpecificationStands q d → EachFault q (unblocked_faults p os ss d)
  each_hidden q h = subst (EachFault q) whole_is (whole_at q false (free_scope p os ss d) d h)

-- ---- all specifications

module _ (p : Package) (os : List Outline) (ss : List State) (ds : List Specification) (n : ℕ) (all : Option Failure) where
  pub hidden_behind : (d : Specification) (found new : Option Failure) → drop n ds ≡ d ∷ drop (suc n) ds → new ≡ least_from found (failures_at p d.file (unblocked_faults p os ss d)) → least_from found (hidden_failures p os ss (drop n ds)) ≡ all
      → least_from new (hidden_failures p os ss (drop (n + 1) ds)) ≡ all
  hidden_behind d found new e step h =
      let next : n + 1 ≡ suc n = omega arith in
      let rest = hidden_failures p os ss (drop (suc n) ds) in
      ap (λ m. least_from new (hidden_failures p os ss (drop m ds))) next
      ∙ ap (λ o. least_from o rest) step
      ∙ sym (least_from_append found (failures_at p d.file (unblocked_faults p os ss d)) rest)
      ∙ ap (λ xs. least_from found (hidden_failures p os ss xs)) (sym e) ∙ h

  pub none_behind : (found : Option Failure) → length ds ≤ n → least_from found (hidden_failures p os ss (drop n ds)) ≡ all → found ≡ all
  none_behind found le h = ap (λ xs. least_from found (hidden_failures p os ss xs)) (sym (drop_all n ds le)) ∙ h

-- ---- where no rule fails no specification is blocked

any_true : {A : Type 0} (test : A → Bool) (xs : List A) (bs : List Bool) → bs ≡ map test xs → list_any (λ b. beq b true) bs ≡ list_any test xs
any_true test xs bs e = ap (list_any (λ b. beq b true)) e ∙ mapped xs
  where
    one : (b : Bool) → beq b true ≡ b
    one true = refl
    one false = refl

    mapped : (ys : List _) → list_any (λ b. beq b true) (map test ys) ≡ list_any test ys
    mapped [] = refl
    mapped (y ∷ ys) = ap (λ b. b || list_any (λ b. beq b true) (map test ys)) (one (test y)) ∙ ap (λ b. test y || b) (mapped ys)

first_not : (a b : Bool) → (a || b) ≡ false → a ≡ false
first_not false b e = refl
first_not true b e = absurd cc

second_not : (a b : Bool) → (a || b) ≡ false → b ≡ false
second_not false b e = e
second_not true b e = absurd cc

none_of_all : {A : Type 0} (test : A → Bool) (xs : List A) → ((x : A) → test x ≡ false) → list_any test xs ≡ false
none_of_all test [] h = refl
none_of_all test (x ∷ xs) h = ap (λ b. b || list_any test xs) (h x) ∙ none_of_all test xs h

each_not : (test : State → Bool) (ss : List State) (n : ℕ) → test (state_of [] n) ≡ false → list_any test ss ≡ false → test (state_of ss n) ≡ false
each_not test [] n h e = h
each_not test (s ∷ ss) zero h e = first_not (test s) (list_any test ss) e
each_not test (s ∷ ss) (suc n) h e = each_not test ss n h (second_not (test s) (list_any test ss) e)

blocks_not : (i a b c : Bool) → a ≡ false → b ≡ false → (not i && (a || (b && c))) ≡ false
blocks_not true a b c e f = refl
blocks_not false a b c e f = ap (λ x. x || (b && c)) e ∙ ap (λ x. x && c) f

module _ (p : Package) (os : List Outline) (ss : List State) (faulty : list_any is_faulty ss ≡ false) (assigning : list_any is_misassigned ss ≡ false) where
  none_blocks : (own : List ℕ) (n : ℕ) → blocks p os ss own n ≡ false
  none_blocks own n =
      blocks_not (is_in own n) (is_faulty (state_of ss n)) (is_misassigned (state_of ss n)) (not (needs_one p own (slice_get os n)))
      (each_not is_faulty ss n refl faulty) (each_not is_misassigned ss n refl assigning)

  none_blocked : (d : Specification) → is_blocked p os ss d ≡ false
  none_blocked d = none_of_all (blocks p os ss (numbers_of p d.file d.names)) (needed_by_all p d) (none_blocks (numbers_of p d.file d.names))

  on_same : (s : Scope) (d : Specification) (fs : List TypeFault) → specification_faults_on p os ss s d fs ≡ unblocked_faults_on s d fs
  on_same s d [] = ap (λ b. rule_unless b (specification_rule s d)) (none_blocked d)
  on_same s d (f ∷ fs) = refl

  same_faults : (d : Specification) → specification_faults p os ss d ≡ unblocked_faults p os ss d
  same_faults d = on_same (free_scope p os ss d) d (expression_faults (free_scope p os ss d) d)

  none_hidden : (ds : List Specification) → all_failures p os ss ds ≡ [] → hidden_failures p os ss ds ≡ []
  none_hidden [] e = refl
  none_hidden (d ∷ ds) e =
      let own = failures_at p d.file (specification_faults p os ss d) in
      ap (λ fs. failures_at p d.file fs ++ hidden_failures p os ss ds) (sym (same_faults d))
      ∙ ap (λ fs. fs ++ hidden_failures p os ss ds) (front_none own (all_failures p os ss ds) e)
      ∙ none_hidden ds (behind_none own (all_failures p os ss ds) e)

-- ---- the fault that is reported

pub mapped_there : {A B : Type 0} (f : A → B) (o : Option A) → is_some (option_map f o) ≡ is_some o
mapped_there f None = refl
mapped_there f (Some x) = refl

or_first : (a b : Bool) → a ≡ true → a ≡ (a || b)
or_first true b e = refl
or_first false b e = absurd cc

or_second : (a b : Bool) → a ≡ false → b ≡ (a || b)
or_second false b e = refl
or_second true b e = absurd cc

-- whether a rule fails, by two tests
pub failing_first : (r : Bool) (faulty : List Bool) (ss : List State) → faulty ≡ map is_faulty ss → r ≡ list_any (λ b. beq b true) faulty → r ≡ true → r ≡ (list_any is_faulty ss || list_any is_misassigned ss)
failing_first r faulty ss f e t =
    let same : r ≡ list_any is_faulty ss = e ∙ any_true is_faulty ss faulty f in same ∙ or_first (list_any is_faulty ss) (list_any is_misassigned ss) (sym same ∙ t)

pub failing_second : (r q : Bool) (faulty assigning : List Bool) (ss : List State) → faulty ≡ map is_faulty ss → assigning ≡ map is_misassigned ss → r ≡ list_any (λ b. beq b true) faulty → r ≡ false → q ≡ list_any (λ b. beq b true) assigning
    → q ≡ (list_any is_faulty ss || list_any is_misassigned ss)
failing_second r q faulty assigning ss f a e t m = m ∙ any_true is_misassigned ss assigning a ∙ or_second (list_any is_faulty ss) (list_any is_misassigned ss) (sym (e ∙ any_true is_faulty ss faulty f) ∙ t)

module _ (p : Package) (os : List Outline) (ss : List State) (ds : List Specification) where
  -- it is told
  pub told_first : (o : Option Failure) (f : Failure) → o ≡ Some f → o ≡ least (all_failures p os ss ds) → o ≡ least (package_failures p os ss ds)
  told_first o f s e = some_first o f (all_failures p os ss ds) (hidden_failures p os ss ds) s e

  -- it isn't
  pub hidden_first : None ≡ least (all_failures p os ss ds) → least (package_failures p os ss ds) ≡ least (hidden_failures p os ss ds)
  hidden_first e = ap (λ fs. least (or_else fs (hidden_failures p os ss ds))) (none_least (all_failures p os ss ds) e)

  -- nothing fails
  pub nothing_first : (list_any is_faulty ss || list_any is_misassigned ss) ≡ false → None ≡ least (all_failures p os ss ds) → None ≡ least (package_failures p os ss ds)
  nothing_first n e =
      let faulty = first_not (list_any is_faulty ss) (list_any is_misassigned ss) n in
      let assigning = second_not (list_any is_faulty ss) (list_any is_misassigned ss) n in
      sym (hidden_first e ∙ ap least (none_hidden p os ss faulty assigning ds (none_least (all_failures p os ss ds) e)))

  pub told_there : (o : Option Failure) → is_some o ≡ true → o ≡ least (all_failures p os ss ds) → o ≡ least (package_failures p os ss ds)
  told_there None n e = absurd cc
  told_there (Some f) n e = told_first (Some f) f refl e

  pub hidden_there : (o : Option Failure) → is_some o ≡ false → o ≡ least (all_failures p os ss ds) → least (package_failures p os ss ds) ≡ least (hidden_failures p os ss ds)
  hidden_there None n e = hidden_first e
  hidden_there (Some f) n e = absurd cc

  pub nothing_there : (o : Option Failure) → is_some o ≡ false → o ≡ least (all_failures p os ss ds) → (list_any is_faulty ss || list_any is_misassigned ss) ≡ false → o ≡ least (package_failures p os ss ds)
  nothing_there None n e h = nothing_first h e
  nothing_there (Some f) n e h = absurd cc
