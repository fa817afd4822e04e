-- Rules that fail nowhere, file by file.
use Rattle.std.proofs.Common.{◌≡◌, ℕ, suc, Bool, true, false, ◌||◌, not, List, [], ◌∷◌, ◌++◌, Some, None, refl, ap, subst, ◌∙◌}
use Rattle.std.specs.Prelude.{if◌then◌else◌}
use Rattle.std.specs.List.{AllByRecursion}
use Rattle.go_base.specs.declared.fault.FaultCode.{FaultCode}
use Rattle.go_tokens.specs.Spellings.{same_text}
use Rattle.go_tokens.specs.Tokens.{TokenList}
use Rattle.go_tree.specs.Clauses.{first_name, other_names, package_names}
use Rattle.go_tree.specs.declared.event.Event.{Event}
use Rattle.go_tree.specs.Failures.{Failure, failing, place_if, of_files, is_earlier, earlier, least_from, least}
use Rattle.go_tree.specs.Units.{Unit, Place, word, is_blank, bytes_at}

-- ---- lists without a place

pub none_front : {A : Type 0} (xs ys : List A) → xs ++ ys ≡ [] → xs ≡ []
none_front [] ys e = refl
none_front (x ∷ xs) ys e = cc

pub none_behind : {A : Type 0} (xs ys : List A) → xs ++ ys ≡ [] → ys ≡ []
none_behind [] ys e = e
none_behind (x ∷ xs) ys e = cc

pub none_both : {A : Type 0} (xs ys : List A) → xs ≡ [] → ys ≡ [] → xs ++ ys ≡ []
none_both [] ys e f = f
none_both (x ∷ xs) ys e f = cc

pub test_false : (b : Bool) (s : Place) (ss : List Place) → place_if b s ss ≡ [] → b ≡ false
test_false true s ss e = cc
test_false false s ss e = refl

pub rest_none : (b : Bool) (s : Place) (ss : List Place) → place_if b s ss ≡ [] → ss ≡ []
rest_none true s ss e = cc
rest_none false s ss e = e

pub none_there : (b : Bool) (s : Place) (ss : List Place) → b ≡ false → ss ≡ [] → place_if b s ss ≡ []
none_there true s ss e f = cc
none_there false s ss e f = f

-- ---- what is reported

pub failing_none : (c : FaultCode) (ss : List Place) → failing c ss ≡ [] → ss ≡ []
failing_none c [] e = refl
failing_none c (s ∷ ss) e = cc

pub none_failing : (c : FaultCode) (ss : List Place) → ss ≡ [] → failing c ss ≡ []
none_failing c ss e = ap (failing c) e

earlier_there : (f g : Failure) → (h : Failure) × (earlier (Some f) g ≡ Some h)
earlier_there f g = by (is_earlier g f)
  where
    by : (b : Bool) → (h : Failure) × ((if b then Some g else Some f) ≡ Some h)
    by true = (g, refl)
    by false = (f, refl)

some_least : (f : Failure) (fs : List Failure) → least_from (Some f) fs ≡ None → ⊥
some_least f [] e = cc
some_least f (g ∷ gs) e = let h = earlier_there f g in some_least h.0 gs (subst (λ o. least_from o gs ≡ None) h.1 e)

pub least_none : (fs : List Failure) → least fs ≡ None → fs ≡ []
least_none [] e = refl
least_none (f ∷ fs) e = absurd (some_least f fs e)

-- ---- files

abbrev pub Rule : Type 0
Rule = ℕ → TokenList → List Event → List Place

-- where the first rule fails nowhere in a file, the second doesn't
abbrev pub Follows : Rule → Rule → Unit → Type 0
Follows r s u = (n : ℕ) → r n u.tokens u.events ≡ [] → s n u.tokens u.events ≡ []

module _ (r s : Rule) where
  pub files_none : (n : ℕ) (us : List Unit) → AllByRecursion (Follows r s) us → of_files r n us ≡ [] → of_files s n us ≡ []
  files_none n [] h e = refl
  files_none n (u ∷ us) h e =
      none_both (s n u.tokens u.events) (of_files s (suc n) us) (h.0 n (none_front (r n u.tokens u.events) (of_files r (suc n) us) e))
      (files_none (suc n) us h.1 (none_behind (r n u.tokens u.events) (of_files r (suc n) us) e))

  -- one file changes
  pub changed_none : (n : ℕ) (us : List Unit) (a b : Unit) (vs : List Unit) → AllByRecursion (Follows r s) us → AllByRecursion (Follows r s) vs
      → ((m : ℕ) → r m a.tokens a.events ≡ [] → s m b.tokens b.events ≡ []) → of_files r n (us ++ a ∷ vs) ≡ [] → of_files s n (us ++ b ∷ vs) ≡ []
  changed_none n [] a b vs h g c e =
      none_both (s n b.tokens b.events) (of_files s (suc n) vs) (c n (none_front (r n a.tokens a.events) (of_files r (suc n) vs) e))
      (files_none (suc n) vs g (none_behind (r n a.tokens a.events) (of_files r (suc n) vs) e))
  changed_none n (u ∷ us) a b vs h g c e =
      none_both (s n u.tokens u.events) (of_files s (suc n) (us ++ b ∷ vs)) (h.0 n (none_front (r n u.tokens u.events) (of_files r (suc n) (us ++ a ∷ vs)) e))
      (changed_none (suc n) us a b vs h.1 g c (none_behind (r n u.tokens u.events) (of_files r (suc n) (us ++ a ∷ vs)) e))

pub all_follow : (r : Rule) (us : List Unit) → AllByRecursion (Follows r r) us
all_follow r [] = tt
all_follow r (u ∷ us) = (λ n e. e, all_follow r us)

-- ---- the names of the package

module _ (a b : Unit) (same : word b.tokens 1 ≡ word a.tokens 1) where
  first_same : (us vs : List Unit) → first_name (us ++ b ∷ vs) ≡ first_name (us ++ a ∷ vs)
  first_same [] vs = same
  first_same (u ∷ us) vs = refl

  other_none : (w : List ℕ) (n : ℕ) (us vs : List Unit) → other_names w n (us ++ a ∷ vs) ≡ [] → other_names w n (us ++ b ∷ vs) ≡ []
  other_none w n [] vs e =
      let t = test_false (is_blank (word a.tokens 1) || not (same_text (word a.tokens 1) w)) (bytes_at n a.tokens 1) (other_names w (suc n) vs) e in
      none_there (is_blank (word b.tokens 1) || not (same_text (word b.tokens 1) w)) (bytes_at n b.tokens 1) (other_names w (suc n) vs)
      (ap (λ x. is_blank x || not (same_text x w)) same ∙ t)
      (rest_none (is_blank (word a.tokens 1) || not (same_text (word a.tokens 1) w)) (bytes_at n a.tokens 1) (other_names w (suc n) vs) e)
  other_none w n (u ∷ us) vs e =
      let x = is_blank (word u.tokens 1) || not (same_text (word u.tokens 1) w) in
      none_there x (bytes_at n u.tokens 1) (other_names w (suc n) (us ++ b ∷ vs)) (test_false x (bytes_at n u.tokens 1) (other_names w (suc n) (us ++ a ∷ vs)) e)
      (other_none w (suc n) us vs (rest_none x (bytes_at n u.tokens 1) (other_names w (suc n) (us ++ a ∷ vs)) e))

  pub names_none : (us vs : List Unit) → package_names (us ++ a ∷ vs) ≡ [] → package_names (us ++ b ∷ vs) ≡ []
  names_none us vs e = ap (λ w. other_names w 0 (us ++ b ∷ vs)) (first_same us vs) ∙ other_none (first_name (us ++ a ∷ vs)) 0 us vs e
