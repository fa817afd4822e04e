-- Which objects pass with all that they need.
use Rattle.std.proofs.Common.{◌≡◌, ◌∙◌, ℕ, zero, suc, ◌<◌, ◌+◌, Bool, true, false, ◌&&◌, ◌||◌, not, List, [], ◌∷◌, length, map, replicate, Option, Some, is_some, refl, ap, sym, true≢false, arith}
use Rattle.std.proofs.lemmas.List.{length-replicate}
use Rattle.std.specs.Prelude.{slice_get}
use Rattle.std.specs.Bool.{beq}
use Rattle.std.specs.List.{list_any}
use Rattle.std.specs.HashMap.{HashMap}
use Rattle.std.specs.HashMap as hash
use Rattle.go_exprs_rules.specs.Scopes.{at_once, in_full}
use Rattle.go_package_defs.specs.Declarations.{Specification}
use Rattle.go_package_defs.specs.Knowledge.{Outline, State, state_of, outlines, all_pass, needs_of, passes}
use Rattle.go_package_defs.specs.Sources.{Package}
use Rattle.go_needs.specs.declared.needs.Needs.{Needs}
use Rattle.go_needs.specs.declared.needs.Passing.{Passing}
use Rattle.go_needs.specs.declared.owners.Owner.{Owner}
use Rattle.go_needs.specs.Blocked.{passing_of, passings, not_passing}
use Rattle.go_needs.specs.Levels.{near, fails_at}
use Rattle.go_scopes_cycles.specs.Ranks.{Place, same_place}
use Rattle.go_needs.specs.Passing.{ArePassing}
use Rattle.go_needs.specs.Reached.{AreCalls, TellFailing, Reaches}
use Rattle.go_needs.specs.Tells.{TellsNeeds}
use Rattle.go_needs.proofs.Knowing.{everything, object_reaches, as_many_outlines}
use Rattle.go_needs.proofs.Maps.{some_is, At, item_at, below}

-- ---- tests

pub tested_at : (test : State → Bool) (ss : List State) (n : ℕ) → n < length ss → fails_at (map test ss) n ≡ test (state_of ss n)
tested_at test [] n l = absurd (omega (arith, l))
tested_at test (s ∷ ss) zero l = refl
tested_at test (s ∷ ss) (suc n) l = tested_at test ss n (omega (arith, l))

-- the objects that fail a test
abbrev pub failing_by : (State → Bool) → List State → ℕ → Bool
failing_by test ss n = not (test (state_of ss n))

not_at : (test : State → Bool) (ss : List State) (n : ℕ) → n < length ss → fails_at (map not (map test ss)) n ≡ failing_by test ss n
not_at test [] n l = absurd (omega (arith, l))
not_at test (s ∷ ss) zero l = refl
not_at test (s ∷ ss) (suc n) l = not_at test ss n (omega (arith, l))

not_both : (b c : Bool) → (b && not c) ≡ not (not b || c)
not_both true c = refl
not_both false c = refl

all_pass_is : (test : State → Bool) (ss : List State) (ns : List ℕ) → all_pass test ss ns ≡ not (list_any (failing_by test ss) ns)
all_pass_is test ss [] = refl
all_pass_is test ss (n ∷ ns) = ap (λ b. test (state_of ss n) && b) (all_pass_is test ss ns) ∙ not_both (test (state_of ss n)) (list_any (failing_by test ss) ns)

-- ---- the list of answers

passings_length : (g : Place → Option ℕ) (bs : List Bool) (n : ℕ) (os : List Owner) → length (passings g bs n os) ≡ length os
passings_length g bs n [] = refl
passings_length g bs n (o ∷ os) = ap suc (passings_length g bs (suc n) os)

-- It is the answer for an object.
record Answers (g : Place → Option ℕ) (bs : List Bool) (m : ℕ) (os : List Owner) (k : ℕ) (x : Passing) : Type 0 where
  owner : Owner
  there : slice_get os k ≡ Some owner
  is : passing_of g bs m owner ≡ x

passings_at : (g : Place → Option ℕ) (bs : List Bool) (n k m : ℕ) (os : List Owner) (x : Passing) → m ≡ n + k → slice_get (passings g bs n os) k ≡ Some x → Answers g bs m os k x
passings_at g bs n k m [] x w e = absurd (grind (arith, e))
passings_at g bs n zero m (o ∷ os) x w e =
    let number : m ≡ n = omega (arith, w) in
    record { owner = o; there = refl; is = ap (λ j. passing_of g bs j o) number ∙ some_is (passing_of g bs n o) x e }
passings_at g bs n (suc k) m (o ∷ os) x w e = let a = passings_at g bs (suc n) k m os x (omega (arith, w)) e in record { owner = a.owner; there = a.there; is = a.is }

passes_once : (test : State → Bool) (os : List Outline) (ss : List State) (n : ℕ) (w : Outline) → slice_get os n ≡ Some w → passes test os ss at_once n ≡ (test (state_of ss n) && all_pass test ss w.partly)
passes_once test os ss n w e = ap (λ o. test (state_of ss n) && all_pass test ss (needs_of at_once o)) e

passes_full : (test : State → Bool) (os : List Outline) (ss : List State) (n : ℕ) (w : Outline) → slice_get os n ≡ Some w → passes test os ss in_full n ≡ (test (state_of ss n) && all_pass test ss w.fully)
passes_full test os ss n w e = ap (λ o. test (state_of ss n) && all_pass test ss (needs_of in_full o)) e

pub passing_is : {S : Type 0} (x : Needs) (m : HashMap Place ℕ S) (p : Package) (ds : List Specification) (ss : List State) (test : State → Bool)
    → ((q : Package) (all : List Owner) (f : ℕ → Bool) → AreCalls q x.owners.items all x.calls.items → TellFailing (length x.owners.items) (map not (map test ss)) f → Reaches m q all f)
    → TellsNeeds x p ds → length ss ≡ length p.uses.package_level → ArePassing test (outlines p ds) ss (passings (hash.get same_place m) (map test ss) 0 x.owners.items)
passing_is x m p ds ss test reach t l = record {
  as_many = passings_length (hash.get same_place m) (map test ss) 0 x.owners.items ∙ (t.calls.as_many ∙ sym (as_many_outlines x p ds t));
  at_once = λ n v e.
      let a = passings_at (hash.get same_place m) (map test ss) 0 n n x.owners.items v (omega arith) e in
      let low = low_at n a.owner a.there in
      let w = there n a.owner a.there in
      ap (λ y. y.at_once) (sym a.is)
      ∙ (ap (λ b. b && not (is_some (near (hash.get same_place m) a.owner false))) (tested_at test ss n low)
      ∙ (ap (λ b. test (state_of ss n) && not b) (object_reaches x p ds t m (failing_by test ss) n a.owner w.it false reaches a.there w.there)
      ∙ (ap (λ b. test (state_of ss n) && b) (sym (all_pass_is test ss w.it.partly)) ∙ sym (passes_once test (outlines p ds) ss n w.it w.there))));
  in_full = λ n v e.
      let a = passings_at (hash.get same_place m) (map test ss) 0 n n x.owners.items v (omega arith) e in
      let low = low_at n a.owner a.there in
      let w = there n a.owner a.there in
      ap (λ y. y.in_full) (sym a.is)
      ∙ (ap (λ b. b && not (is_some (near (hash.get same_place m) a.owner true))) (tested_at test ss n low)
      ∙ (ap (λ b. test (state_of ss n) && not b) (object_reaches x p ds t m (failing_by test ss) n a.owner w.it true reaches a.there w.there)
      ∙ (ap (λ b. test (state_of ss n) && b) (sym (all_pass_is test ss w.it.fully)) ∙ sym (passes_full test (outlines p ds) ss n w.it w.there))));
}
  where
    many : length x.owners.items ≡ length ss
    many = t.calls.as_many ∙ sym l

    low_at : (n : ℕ) (o : Owner) → slice_get x.owners.items n ≡ Some o → n < length ss
    low_at n o e = let b = below x.owners.items n o e in omega (arith, b, many)

    there : (n : ℕ) (o : Owner) → slice_get x.owners.items n ≡ Some o → At (outlines p ds) n
    there n o e = let b = below x.owners.items n o e in let a = t.calls.as_many in let c = as_many_outlines x p ds t in item_at (outlines p ds) n (omega (arith, a, b, c))

    reaches : Reaches m p (everything x p ds t) (failing_by test ss)
    reaches = reach p (everything x p ds t) (failing_by test ss) t.calls (λ n h. not_at test ss n (omega (arith, h, many)))

-- ---- where none passes by itself

none_at : (bs : List Bool) (n : ℕ) → list_any (λ b. beq b true) bs ≡ false → fails_at bs n ≡ false
none_at [] n e = refl
none_at (true ∷ bs) n e = absurd (true≢false e)
none_at (false ∷ bs) zero e = refl
none_at (false ∷ bs) (suc n) e = none_at bs n e

copied_at : {X : Type 0} (m n : ℕ) (x y : X) → slice_get (replicate m x) n ≡ Some y → x ≡ y
copied_at zero n x y e = absurd (grind (arith, e))
copied_at (suc m) zero x y e = some_is x y e
copied_at (suc m) (suc n) x y e = copied_at m n x y e

not_once : (test : State → Bool) (os : List Outline) (ss : List State) (n : ℕ) → test (state_of ss n) ≡ false → passes test os ss at_once n ≡ false
not_once test os ss n e = ap (λ b. b && all_pass test ss (needs_of at_once (slice_get os n))) e

not_full : (test : State → Bool) (os : List Outline) (ss : List State) (n : ℕ) → test (state_of ss n) ≡ false → passes test os ss in_full n ≡ false
not_full test os ss n e = ap (λ b. b && all_pass test ss (needs_of in_full (slice_get os n))) e

pub none_is : (x : Needs) (p : Package) (ds : List Specification) (ss : List State) (test : State → Bool)
    → list_any (λ b. beq b true) (map test ss) ≡ false
    → TellsNeeds x p ds → length ss ≡ length p.uses.package_level → ArePassing test (outlines p ds) ss (replicate (length x.owners.items) not_passing)
none_is x p ds ss test none t l = record {
  as_many = length-replicate many not_passing ∙ (t.calls.as_many ∙ sym (as_many_outlines x p ds t));
  at_once = λ n v e. ap (λ y. y.at_once) (sym (copied_at many n not_passing v e)) ∙ sym (not_once test (outlines p ds) ss n (fails n v e));
  in_full = λ n v e. ap (λ y. y.in_full) (sym (copied_at many n not_passing v e)) ∙ sym (not_full test (outlines p ds) ss n (fails n v e));
}
  where
    many : ℕ
    many = length x.owners.items

    low_at : (n : ℕ) (v : Passing) → slice_get (replicate many not_passing) n ≡ Some v → n < length ss
    low_at n v e = let b = below (replicate many not_passing) n v e in let k = length-replicate many not_passing in let o : many ≡ length ss = t.calls.as_many ∙ sym l in omega (arith, b, k, o)

    fails : (n : ℕ) (v : Passing) → slice_get (replicate many not_passing) n ≡ Some v → test (state_of ss n) ≡ false
    fails n v e = sym (tested_at test ss n (low_at n v e)) ∙ none_at (map test ss) n none
