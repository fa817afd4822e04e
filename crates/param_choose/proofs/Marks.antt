-- Rows of answers, joined member by member, are the answers over all members.
use Rattle.std.proofs.Common.{◌≡◌, ◌∙◌, ℕ, zero, suc, ◌+◌, Bool, true, false, List, [], ◌∷◌, ◌++◌, length, map, drop, replicate, Some, None, slice_get, refl, sym, ap, arith}
use Rattle.std.specs.Prelude.{◌||◌, if◌then◌else◌, unwrap_or}
use Rattle.std.specs.List.{list_any}
use Rattle.go_typed.specs.Trees.{Sort, Typeds}
use Rattle.param_choose.specs.Members.{Member, occurs_later, local_in}
use Rattle.param_choose.specs.Locals.{variable_at, variables_where}
use Rattle.param_choose.specs.Holes.{Hole, holes, hole_value, hole_values, differs_at, names_outer}
use Rattle.param_choose.specs.Choosing.{is_parameter, is_needed, parameter_of, parameters_from}
use Rattle.param_choose.specs.Marks.{differ_each, either_each, either_from, mark_at, differing, later_each, needed, parameters_by, variables_by}

or-joined : (a b c : Bool) → ((a || b) || c) ≡ (a || (b || c))
or-joined true b c = refl
or-joined false b c = refl

or-nothing : (a : Bool) → (a || false) ≡ a
or-nothing true = refl
or-nothing false = refl

either-nil : (ls : List Bool) → either_each ls [] ≡ ls
either-nil [] = refl
either-nil (a ∷ ls) = ap (λ bs. a ∷ bs) (either-nil ls)

first-left : {A : Type 0} (n : ℕ) (xs : List A) → slice_get (drop n xs) 0 ≡ slice_get xs n
first-left zero xs = refl
first-left (suc n) [] = refl
first-left (suc n) (x ∷ xs) = first-left n xs

others-left : {A : Type 0} (n : ℕ) (xs : List A) → drop 1 (drop n xs) ≡ drop (suc n) xs
others-left zero xs = refl
others-left (suc n) [] = refl
others-left (suc n) (x ∷ xs) = others-left n xs

later-none : (ls : List Bool) (ns : List ℕ) → either_each ls (map (λ n. false) ns) ≡ ls
later-none [] ns = refl
later-none (a ∷ ls) [] = either-nil (a ∷ ls)
later-none (a ∷ ls) (n ∷ ns) = ap (λ b. b ∷ either_each ls (map (λ n. false) ns)) (or-nothing a) ∙ ap (λ bs. a ∷ bs) (later-none ls ns)

later-more : (f g : ℕ → Bool) (ls : List Bool) (ns : List ℕ) → either_each (either_each ls (map f ns)) (map g ns) ≡ either_each ls (map (λ n. f n || g n) ns)
later-more f g [] ns = refl
later-more f g (a ∷ ls) [] = ap (λ bs. a ∷ either_each bs []) (either-nil ls)
later-more f g (a ∷ ls) (n ∷ ns) =
    ap (λ b. b ∷ either_each (either_each ls (map f ns)) (map g ns)) (or-joined a (f n) (g n)) ∙ ap (λ bs. (a || (f n || g n)) ∷ bs) (later-more f g ls ns)

none-needed : (test : ℕ → Bool) (ns : List ℕ) → either_each (replicate (length ns) false) (map test ns) ≡ map test ns
none-needed test [] = refl
none-needed test (n ∷ ns) = ap (λ bs. test n ∷ bs) (none-needed test ns)

mark-of-name : (test : ℕ → Bool) (n : ℕ) (ks : List ℕ) (k : ℕ) → slice_get ks n ≡ Some k → mark_at (map test ks) n ≡ test k
mark-of-name test n [] k e = cc
mark-of-name test zero (j ∷ ks) k e = let same : j ≡ k = cc in ap test same
mark-of-name test (suc n) (j ∷ ks) k e = mark-of-name test n ks k e

-- ---- holes

module _ {T : Type 0} where
  -- whether each hole, the first of which has the number n, has another value in some member
  abbrev pub marked : List (Member T) → ℕ → List (Hole T) → List Bool
  marked ms n [] = []
  marked ms n (h ∷ hs) = list_any (differs_at (hole_value h) n) ms ∷ marked ms (suc n) hs

  either-none : (ls : List Bool) (n : ℕ) (hs : List (Hole T)) → either_each ls (marked [] n hs) ≡ ls
  either-none [] n hs = refl
  either-none (a ∷ ls) n [] = either-nil (a ∷ ls)
  either-none (a ∷ ls) n (h ∷ hs) = ap (λ b. b ∷ either_each ls (marked [] (suc n) hs)) (or-nothing a) ∙ ap (λ bs. a ∷ bs) (either-none ls (suc n) hs)

  either-more : (m : Member T) (ms : List (Member T)) (ls : List Bool) (n : ℕ) (hs : List (Hole T)) →
      either_each (either_each ls (differ_each (hole_values hs) n (holes m))) (marked ms n hs) ≡ either_each ls (marked (m ∷ ms) n hs)
  either-more m ms [] n hs = refl
  either-more m ms (a ∷ ls) n [] = ap (λ bs. a ∷ either_each bs []) (either-nil ls)
  either-more m ms (a ∷ ls) n (h ∷ hs) =
      let v = hole_value h in
      ap (λ b. b ∷ either_each (either_each ls (differ_each (hole_values hs) (suc n) (holes m))) (marked ms (suc n) hs)) (or-joined a (differs_at v n m) (list_any (differs_at v n) ms))
      ∙ ap (λ bs. (a || (differs_at v n m || list_any (differs_at v n) ms)) ∷ bs) (either-more m ms ls (suc n) hs)

  pub differing-marks : (hs : List (Hole T)) (ls : List Bool) (ms : List (Member T)) → differing (hole_values hs) ls ms ≡ either_each ls (marked ms 0 hs)
  differing-marks hs ls [] = sym (either-none ls 0 hs)
  differing-marks hs ls (m ∷ ms) = differing-marks hs (either_each ls (differ_each (hole_values hs) 0 (holes m))) ms ∙ either-more m ms ls 0 hs

  none-yet : (ms : List (Member T)) (n : ℕ) (hs : List (Hole T)) → either_each (replicate (length hs) false) (marked ms n hs) ≡ marked ms n hs
  none-yet ms n [] = refl
  none-yet ms n (h ∷ hs) = ap (λ bs. list_any (differs_at (hole_value h) n) ms ∷ bs) (none-yet ms (suc n) hs)

  pub differing-all : (ms : List (Member T)) (hs : List (Hole T)) → differing (hole_values hs) (replicate (length hs) false) ms ≡ marked ms 0 hs
  differing-all ms hs = differing-marks hs (replicate (length hs) false) ms ∙ none-yet ms 0 hs

  -- the mark of a hole
  mark-of-hole : (ms : List (Member T)) (k n : ℕ) (hs : List (Hole T)) (h : Hole T) → slice_get hs n ≡ Some h → mark_at (marked ms k hs) n ≡ list_any (differs_at (hole_value h) (k + n)) ms
  mark-of-hole ms k n [] h e = cc
  mark-of-hole ms k zero (g ∷ hs) h e =
      let same : g ≡ h = cc in
      let s : k ≡ k + 0 = omega arith in
      ap (λ x. list_any (differs_at (hole_value x) k) ms) same ∙ ap (λ j. list_any (differs_at (hole_value h) j) ms) s
  mark-of-hole ms k (suc n) (g ∷ hs) h e =
      let s : suc k + n ≡ k + suc n = omega arith in
      mark-of-hole ms (suc k) n hs h e ∙ ap (λ j. list_any (differs_at (hole_value h) j) ms) s

  -- what is marked so, or names a local that is declared outside, where some holes stand in front
  marked-behind : (ms : List (Member T)) (t : Member T) (all : List (Hole T)) (n : ℕ) (hs : List (Hole T)) → drop n all ≡ hs →
      parameters_by (names_outer t) t.start (marked ms 0 all) n hs ≡ parameters_from ms t n hs
  marked-behind ms t all n [] e = refl
  marked-behind ms t all n (h ∷ hs) e =
      let there : slice_get all n ≡ Some h = sym (first-left n all) ∙ ap (λ xs. slice_get xs 0) e in
      let start : 0 + n ≡ n = omega arith in
      let rest : drop (suc n) all ≡ hs = sym (others-left n all) ∙ ap (drop 1) e in
      ap (λ b. (if b || names_outer t h then parameter_of t.start n h else []) ++ parameters_by (names_outer t) t.start (marked ms 0 all) (suc n) hs) (mark-of-hole ms 0 n all h there ∙ ap (λ j. list_any (differs_at (hole_value h) j) ms) start)
      ∙ ap (λ ps. (if is_parameter ms t n h then parameter_of t.start n h else []) ++ ps) (marked-behind ms t all (suc n) hs rest)

  pub parameters-marked : (ms : List (Member T)) (t : Member T) (hs : List (Hole T)) → parameters_by (names_outer t) t.start (marked ms 0 hs) 0 hs ≡ parameters_from ms t 0 hs
  parameters-marked ms t hs = marked-behind ms t hs 0 hs refl

  -- ---- names

  -- whether a local of statements has one that occurs later in some member
  abbrev needed_in : Typeds T → List (Member T) → ℕ → Bool
  needed_in ps ms n = list_any (λ m. occurs_later m (local_in ps m n)) ms

  needed-marks : (ps : Typeds T) (ns : List ℕ) (ls : List Bool) (ms : List (Member T)) → needed ps ns ls ms ≡ either_each ls (map (needed_in ps ms) ns)
  needed-marks ps ns ls [] = sym (later-none ls ns)
  needed-marks ps ns ls (m ∷ ms) =
      needed-marks ps ns (either_each ls (later_each ps ns m)) ms ∙ later-more (λ n. occurs_later m (local_in ps m n)) (needed_in ps ms) ls ns

  pub needed-all : (t : Member T) (ms : List (Member T)) (ns : List ℕ) → needed t.statements ns (replicate (length ns) false) ms ≡ map (is_needed ms t) ns
  needed-all t ms ns = needed-marks t.statements ns (replicate (length ns) false) ms ∙ none-needed (is_needed ms t) ns

  variables-behind : (sorts : List (Sort T)) (test : ℕ → Bool) (all : List ℕ) (n : ℕ) (ks : List ℕ) → drop n all ≡ ks →
      variables_by sorts (map test all) n ks ≡ variables_where sorts test ks
  variables-behind sorts test all n [] e = refl
  variables-behind sorts test all n (k ∷ ks) e =
      let there : slice_get all n ≡ Some k = sym (first-left n all) ∙ ap (λ xs. slice_get xs 0) e in
      let rest : drop (suc n) all ≡ ks = sym (others-left n all) ∙ ap (drop 1) e in
      ap (λ b. (if b then variable_at sorts k else []) ++ variables_by sorts (map test all) (suc n) ks) (mark-of-name test n all k there)
      ∙ ap (λ vs. (if test k then variable_at sorts k else []) ++ vs) (variables-behind sorts test all (suc n) ks rest)

  pub variables-marked : (sorts : List (Sort T)) (test : ℕ → Bool) (ks : List ℕ) → variables_by sorts (map test ks) 0 ks ≡ variables_where sorts test ks
  variables-marked sorts test ks = variables-behind sorts test ks 0 ks refl

-- ---- rows that are made place by place

from-place : (ls bs : List Bool) (n : ℕ) → either_from ls n bs ≡ either_each ls (drop n bs)
from-place [] bs n = refl
from-place (l ∷ ls) bs n = by (drop n bs) refl (from-place ls bs (suc n)) where
  by : (cs : List Bool) → drop n bs ≡ cs → either_from ls (suc n) bs ≡ either_each ls (drop (suc n) bs) → either_from (l ∷ ls) n bs ≡ either_each (l ∷ ls) (drop n bs)
  by [] e r =
      let there : slice_get bs n ≡ None = sym (first-left n bs) ∙ ap (λ xs. slice_get xs 0) e in
      let rest : drop (suc n) bs ≡ [] = sym (others-left n bs) ∙ ap (drop 1) e in
      ap (λ o. (l || unwrap_or o false) ∷ either_from ls (suc n) bs) there
      ∙ ap (λ b. b ∷ either_from ls (suc n) bs) (or-nothing l)
      ∙ ap (λ cs. l ∷ cs) (r ∙ ap (either_each ls) rest)
      ∙ sym (ap (either_each (l ∷ ls)) e)
  by (c ∷ cs) e r =
      let there : slice_get bs n ≡ Some c = sym (first-left n bs) ∙ ap (λ xs. slice_get xs 0) e in
      let rest : drop (suc n) bs ≡ cs = sym (others-left n bs) ∙ ap (drop 1) e in
      ap (λ o. (l || unwrap_or o false) ∷ either_from ls (suc n) bs) there
      ∙ ap (λ ds. (l || c) ∷ ds) (r ∙ ap (either_each ls) rest)
      ∙ sym (ap (either_each (l ∷ ls)) e)

pub either_is : (ls bs : List Bool) → either_each ls bs ≡ either_from ls 0 bs
either_is ls bs = sym (from-place ls bs 0)
