-- Specifications that are judged where they stand, and counted from another token.
use Rattle.std.proofs.Common.{◌≡◌, ◌∙◌, ℕ, zero, suc, ◌+◌, Bool, true, false, List, [], ◌∷◌, ◌++◌, map, Option, Some, None, length, refl, sym, ap, subst}
use Rattle.std.specs.Prelude.{◌==◌, if◌then◌else◌, slice_get, option_map}
use Rattle.std.proofs.lemmas.Option.{slice_get-map}
use Rattle.go_grammar.specs.Trees.{Tree}
use Rattle.go_rewriting.specs.Lists.{InOrder}
use Rattle.go_rewriting.specs.Places.{carry}
use Rattle.go_tree.specs.declared.context.Entity.{Entity}
use Rattle.go_tree.specs.declared.context.Entity.TheVariants as entity
use Rattle.go_types.specs.Trees.{TypeTree}
use Rattle.go_typed.specs.Trees.{sort_of}
use Rattle.go_typed.specs.Trees as sort
use Rattle.go_exprs_rules.specs.declared.fault.TypeFault.{TypeFault}
use Rattle.go_exprs_rules.specs.Scopes.{Scope, Hint, value, several}
use Rattle.go_exprs_rules.specs.Settling.{Part}
use Rattle.go_exprs_rules.specs.Sorts.{is_unknown}
use Rattle.go_exprs_rules.specs.Tables.{no_faults}
use Rattle.go_exprs_rules.specs.TypeNodes.{part_type}
use Rattle.go_exprs_rules.specs.Typing.{typing, faults}
use Rattle.go_exprs_rules.specs.Faults.{joined}
use Rattle.go_stmts_defs.specs.Assigning.{constants_failing}
use Rattle.go_stmts_defs.specs.Rules.{variables_failing}
use Rattle.go_package_defs.specs.Declarations.{Specification, is_alone}
use Rattle.go_package_defs.specs.Knowledge.{State}
use Rattle.go_package_defs.specs.Verdicts.{type_hint, value_hint, part_in, faults_in, typed_type, type_faults, own_value, typed_values, values_faults, expression_faults, assigned_of, right_found, type_state, state_with, own_faults, value_state, known_parts, counted, specification_failing, specification_rule}
use Rattle.go_package_alike.specs.Scopes.{AllTokens, SaySame, IsTypedSame}
use Rattle.go_elsewhere.specs.Elsewhere.{placed, along, KeepsLast, IsTypedElsewhere}
use Rattle.go_heads_types.specs.Same.{IsFurther, MaybeReadBy, AllReadBy}
use Rattle.go_heads_types.specs.States.{SameState}
use Rattle.go_heads_types.proofs.Failing.{Alike, both, joined_alike, sort_kept, constants_alike, variables_alike}
use Rattle.go_heads_types.proofs.StateAssigned.{SameAssigned, optional, type_kept, alone_kept, assigned_further}

abbrev pub MovesTyped : Type 0
MovesTyped = (m : ℕ → ℕ) (s : Scope) (h : Hint) (t : Tree) → KeepsLast m t → IsTypedElsewhere m s h t

abbrev pub KeepsNames : Type 0
KeepsNames = (n : ℕ) (t : Tree) → InOrder t → KeepsLast (λ i. n + i) t

abbrev pub FollowsTokens : Type 0
FollowsTokens = (p : ℕ → Bool) (s t : Scope) (h : Hint) (x : Tree) → SaySame p s t → AllTokens p x → IsTypedSame s t h x

read_at : (p : ℕ → Bool) (ts : List Tree) (k : ℕ) → AllReadBy p ts → MaybeReadBy p (slice_get ts k)
read_at p [] k h = tt
read_at p (t ∷ ts) zero h = h.0
read_at p (t ∷ ts) (suc k) h = read_at p ts k h.1

pub own_read : (p : ℕ → Bool) (r : Specification) (c : ℕ) → AllReadBy p r.values → MaybeReadBy p (own_value r c)
own_read p r c h = read_at p r.values (if is_alone r then 0 else c) h

-- ---- counted from another token

module _ (moves : MovesTyped) (keeps : KeepsNames) (n : ℕ) (p : ℕ → Bool) where
  abbrev pub m : ℕ → ℕ
  m = λ i. n + i

  part_further : (s : Scope) (h : Hint) (o : Option Tree) → MaybeReadBy p o → part_in s h (option_map (carry m) o) ≡ optional m (part_in (along m s) h o)
  part_further s h None w = refl
  part_further s h (Some t) w = ap Some ((moves m s h t (keeps n t w.0)).typed)

  faults_further : (s : Scope) (h : Hint) (o : Option Tree) → MaybeReadBy p o → Alike (faults_in s h (option_map (carry m) o)) (faults_in (along m s) h o)
  faults_further s h None w = refl
  faults_further s h (Some t) w = ap (λ nodes. no_faults (joined nodes)) ((moves m s h t (keeps n t w.0)).failing) ∙ joined_alike m (faults (along m s) h t)

  values_further : (s : Scope) (h : Hint) (ts : List Tree) → AllReadBy p ts → map (typing s h) (map (carry m) ts) ≡ map (placed m) (map (typing (along m s) h) ts)
  values_further s h [] w = refl
  values_further s h (t ∷ ts) w =
      ap (λ x. x ∷ map (typing s h) (map (carry m) ts)) ((moves m s h t (keeps n t w.0.0)).typed) ∙ ap (λ xs. placed m (typing (along m s) h t) ∷ xs) (values_further s h ts w.1)

  all_further : (s : Scope) (h : Hint) (ts : List Tree) → AllReadBy p ts → Alike (values_faults s h (map (carry m) ts)) (values_faults (along m s) h ts)
  all_further s h [] w = refl
  all_further s h (t ∷ ts) w =
      both (joined (faults s h (carry m t))) (values_faults s h (map (carry m) ts)) (joined (faults (along m s) h t)) (values_faults (along m s) h ts)
      (faults_further s h (Some t) w.0) (all_further s h ts w.1)

  known_kept : (xs : List Part) → known_parts (map (placed m) xs) ≡ map (placed m) (known_parts xs)
  known_kept [] = refl
  known_kept (x ∷ xs) =
      ap (λ z. if is_unknown z then known_parts (map (placed m) xs) else placed m x ∷ known_parts (map (placed m) xs)) (sort_kept m x) ∙ by (is_unknown (sort_of x)) (known_kept xs)
    where
      by : (b : Bool) → known_parts (map (placed m) xs) ≡ map (placed m) (known_parts xs)
          → (if b then known_parts (map (placed m) xs) else placed m x ∷ known_parts (map (placed m) xs)) ≡ map (placed m) (if b then known_parts xs else x ∷ known_parts xs)
      by true e = e
      by false e = ap (λ ys. placed m x ∷ ys) e

  count_kept : {A B : Type 0} (f : A → B) (xs : List A) → length (map f xs) ≡ length xs
  count_kept f [] = refl
  count_kept f (x ∷ xs) = ap suc (count_kept f xs)

  found_kept : (us xs : List TypeFault) (o : Option Part) → Alike us xs → right_found us (optional m o) ≡ right_found xs o
  found_kept [] [] o e = type_kept m o
  found_kept [] (x ∷ xs) o e = cc
  found_kept (u ∷ us) [] o e = cc
  found_kept (u ∷ us) (x ∷ xs) o e = refl

  module _ (r d : Specification) (h : IsFurther n r d) (read : MaybeReadBy p r.type_tree) (all : AllReadBy p r.values) where
    hint_kept : value_hint d ≡ value_hint r
    hint_kept = ap (λ b. if b then several else value) (alone_kept n r d h)

    value_kept : (c : ℕ) → own_value d c ≡ option_map (carry m) (own_value r c)
    value_kept c =
        ap (λ b. slice_get d.values (if b then 0 else c)) (alone_kept n r d h)
        ∙ ap (λ (ts : List Tree). slice_get ts (if is_alone r then 0 else c)) h.values
        ∙ slice_get-map (carry m) r.values (if is_alone r then 0 else c)

    module _ (s : Scope) where
      abbrev around : Scope
      around = along m s

      type_further : typed_type s d ≡ optional m (typed_type around r)
      type_further = ap (λ e. part_in s (type_hint e) d.type_tree) h.entity ∙ ap (part_in s (type_hint r.entity)) h.type_tree ∙ part_further s (type_hint r.entity) r.type_tree read

      pub type_faults_further : Alike (type_faults s d) (type_faults around r)
      type_faults_further =
          ap (λ e. no_faults (faults_in s (type_hint e) d.type_tree)) h.entity ∙ ap (λ o. no_faults (faults_in s (type_hint r.entity) o)) h.type_tree
          ∙ faults_further s (type_hint r.entity) r.type_tree read

      own_further : (c : ℕ) → part_in s (value_hint d) (own_value d c) ≡ optional m (part_in around (value_hint r) (own_value r c))
      own_further c = ap (λ z. part_in s z (own_value d c)) hint_kept ∙ ap (part_in s (value_hint r)) (value_kept c) ∙ part_further s (value_hint r) (own_value r c) (own_read p r c all)

      own_faults_further : (c : ℕ) → Alike (own_faults s d c) (own_faults around r c)
      own_faults_further c =
          both (type_faults s d) (faults_in s (value_hint d) (own_value d c)) (type_faults around r) (faults_in around (value_hint r) (own_value r c)) type_faults_further
          (ap (λ z. no_faults (faults_in s z (own_value d c))) hint_kept ∙ ap (λ o. no_faults (faults_in s (value_hint r) o)) (value_kept c)
          ∙ faults_further s (value_hint r) (own_value r c) (own_read p r c all))

      pub value_state_further : (c : ℕ) → SameState (value_state around r c (own_faults around r c)) (value_state s d c (own_faults s d c))
      value_state_further c =
          let fs = own_faults s d c in
          let gs = own_faults around r c in
          let t = typed_type around r in
          let x = part_in around (value_hint r) (own_value r c) in
          let same : SameAssigned (assigned_of s.rights d c fs (typed_type s d) (part_in s (value_hint d) (own_value d c))) (assigned_of s.rights r c gs t x) =
          subst (λ z. SameAssigned (assigned_of s.rights d c fs z (part_in s (value_hint d) (own_value d c))) (assigned_of s.rights r c gs t x)) (sym type_further)
          (subst (λ z. SameAssigned (assigned_of s.rights d c fs (optional m t) z) (assigned_of s.rights r c gs t x)) (sym (own_further c))
          (assigned_further n m s.rights r d c fs gs t x h (own_faults_further c))) in
          record { right = refl; stands = same.stands; faults = own_faults_further c; assigning = same.failing }

      -- ---- as a whole

      pub expressions_further : Alike (expression_faults s d) (expression_faults around r)
      expressions_further =
          both (type_faults s d) (values_faults s (value_hint d) d.values) (type_faults around r) (values_faults around (value_hint r) r.values) type_faults_further
          (ap (λ z. no_faults (values_faults s z d.values)) hint_kept ∙ ap (λ ts. no_faults (values_faults s (value_hint r) ts)) h.values ∙ all_further s (value_hint r) r.values all)

      typed_further : typed_values s d ≡ map (placed m) (typed_values around r)
      typed_further = ap (λ z. map (typing s z) d.values) hint_kept ∙ ap (map (typing s (value_hint r))) h.values ∙ values_further s (value_hint r) r.values all

      names_kept : length d.names ≡ length r.names
      names_kept = ap length h.names ∙ count_kept m r.names

      count_alike : (i j k l a b : ℕ) → Alike (counted i j a b) (counted k l a b)
      count_alike i j k l a b = by (a == b)
        where
          by : (c : Bool) → no_faults (if c then [] else counted i j zero (suc zero)) ≡ no_faults (if c then [] else counted k l zero (suc zero))
          by true = refl
          by false = refl

      failing_further : (e : Entity) (t : Option TypeTree) (xs : List Part) → Alike (specification_failing e s.rights d t (map (placed m) xs)) (specification_failing e s.rights r t xs)
      failing_further entity.Constant t xs =
          both (counted d.first d.last (length d.names) (length (map (placed m) xs))) (constants_failing s.rights t (known_parts (map (placed m) xs)))
          (counted r.first r.last (length r.names) (length xs)) (constants_failing s.rights t (known_parts xs))
          (ap (λ k. no_faults (counted d.first d.last k (length (map (placed m) xs)))) names_kept ∙ ap (λ k. no_faults (counted d.first d.last (length r.names) k)) (count_kept (placed m) xs)
          ∙ count_alike d.first d.last r.first r.last (length r.names) (length xs))
          (ap (λ ys. no_faults (constants_failing s.rights t ys)) (known_kept xs) ∙ constants_alike m s.rights t (known_parts xs))
      failing_further entity.Variable t xs =
          ap (λ k. no_faults (variables_failing s.rights d.first d.last k t (map (placed m) xs))) names_kept ∙ variables_alike m s.rights d.first d.last r.first r.last (length r.names) t xs
      failing_further e t xs = refl

      pub rule_further : Alike (specification_rule s d) (specification_rule around r)
      rule_further =
          ap (λ e. no_faults (specification_failing e s.rights d (part_type (typed_type s d)) (typed_values s d))) h.entity
          ∙ ap (λ o. no_faults (specification_failing r.entity s.rights d (part_type o) (typed_values s d))) type_further
          ∙ ap (λ o. no_faults (specification_failing r.entity s.rights d o (typed_values s d))) (type_kept m (typed_type around r))
          ∙ ap (λ xs. no_faults (specification_failing r.entity s.rights d (part_type (typed_type around r)) xs)) typed_further
          ∙ failing_further r.entity (part_type (typed_type around r)) (typed_values around r)

    pub type_state_further : (t : TypeTree) (told judging : Scope) → SameState (type_state t (along m told) (along m judging) r) (type_state t told judging d)
    type_state_further t told judging = record {
      right = ap (right_found (type_faults told d)) (type_further told) ∙ found_kept (type_faults told d) (type_faults (along m told) r) (typed_type (along m told) r) (type_faults_further told);
      stands = refl;
      faults = type_faults_further judging;
      assigning = refl;
    }

-- ---- in two scopes that say the same

module _ (follows : FollowsTokens) (p : ℕ → Bool) where
  part_same : (a b : Scope) → SaySame p a b → (h : Hint) (o : Option Tree) → MaybeReadBy p o → part_in b h o ≡ part_in a h o
  part_same a b e h None w = refl
  part_same a b e h (Some t) w = ap Some ((follows p a b h t e w.1).typed)

  faults_same : (a b : Scope) → SaySame p a b → (h : Hint) (o : Option Tree) → MaybeReadBy p o → faults_in b h o ≡ faults_in a h o
  faults_same a b e h None w = refl
  faults_same a b e h (Some t) w = ap joined ((follows p a b h t e w.1).failing)

  typed_same : (a b : Scope) → SaySame p a b → (h : Hint) (ts : List Tree) → AllReadBy p ts → map (typing b h) ts ≡ map (typing a h) ts
  typed_same a b e h [] w = refl
  typed_same a b e h (t ∷ ts) w = ap (λ x. x ∷ map (typing b h) ts) ((follows p a b h t e w.0.1).typed) ∙ ap (λ xs. typing a h t ∷ xs) (typed_same a b e h ts w.1)

  values_same : (a b : Scope) → SaySame p a b → (h : Hint) (ts : List Tree) → AllReadBy p ts → values_faults b h ts ≡ values_faults a h ts
  values_same a b e h [] w = refl
  values_same a b e h (t ∷ ts) w =
      ap (λ nodes. joined nodes ++ values_faults b h ts) ((follows p a b h t e w.0.1).failing) ∙ ap (λ fs. joined (faults a h t) ++ fs) (values_same a b e h ts w.1)

  module _ (r : Specification) (read : MaybeReadBy p r.type_tree) (all : AllReadBy p r.values) where
    pub value_state_same : (a b : Scope) → SaySame p a b → (c : ℕ) → value_state b r c (own_faults b r c) ≡ value_state a r c (own_faults a r c)
    value_state_same a b e c =
        let th = type_hint r.entity in
        let vh = value_hint r in
        let v = own_value r c in
        let w = own_read p r c all in
        let fs : own_faults b r c ≡ own_faults a r c =
        ap (λ gs. gs ++ faults_in b vh v) (faults_same a b e th r.type_tree read) ∙ ap (λ gs. faults_in a th r.type_tree ++ gs) (faults_same a b e vh v w) in
        ap (value_state b r c) fs
        ∙ ap (λ z. state_with (own_faults a r c) (assigned_of z r c (own_faults a r c) (typed_type b r) (part_in b vh v))) e.rights
        ∙ ap (λ z. state_with (own_faults a r c) (assigned_of a.rights r c (own_faults a r c) z (part_in b vh v))) (part_same a b e th r.type_tree read)
        ∙ ap (λ z. state_with (own_faults a r c) (assigned_of a.rights r c (own_faults a r c) (typed_type a r) z)) (part_same a b e vh v w)

    abbrev made : TypeTree → Option TypeTree → List TypeFault → State
    made t o fs = record { right = o; stands = sort.IsType t; faults = fs; assigning = [] }

    pub type_state_same : (t : TypeTree) (a b f g : Scope) → SaySame p a b → SaySame p f g → type_state t b g r ≡ type_state t a f r
    type_state_same t a b f g e i =
        let th = type_hint r.entity in
        ap (λ fs. made t (right_found fs (typed_type b r)) (type_faults g r)) (faults_same a b e th r.type_tree read)
        ∙ ap (λ x. made t (right_found (type_faults a r) x) (type_faults g r)) (part_same a b e th r.type_tree read)
        ∙ ap (λ fs. made t (right_found (type_faults a r) (typed_type a r)) fs) (faults_same f g i th r.type_tree read)

    pub expressions_same : (a b : Scope) → SaySame p a b → expression_faults b r ≡ expression_faults a r
    expressions_same a b e =
        ap (λ fs. fs ++ values_faults b (value_hint r) r.values) (faults_same a b e (type_hint r.entity) r.type_tree read)
        ∙ ap (λ fs. type_faults a r ++ fs) (values_same a b e (value_hint r) r.values all)

    pub rule_same : (a b : Scope) → SaySame p a b → specification_rule b r ≡ specification_rule a r
    rule_same a b e =
        ap (λ z. specification_failing r.entity z r (part_type (typed_type b r)) (typed_values b r)) e.rights
        ∙ ap (λ z. specification_failing r.entity a.rights r (part_type z) (typed_values b r)) (part_same a b e (type_hint r.entity) r.type_tree read)
        ∙ ap (specification_failing r.entity a.rights r (part_type (typed_type a r))) (typed_same a b e (value_hint r) r.values all)
