-- Levels that are found right tell what declarations need.
use Rattle.std.proofs.Common.{◌≡◌, ◌∙◌, ℕ, zero, suc, ◌<◌, ◌≤◌, ◌+◌, Bool, true, false, List, [], ◌∷◌, length, Option, Some, None, is_some, refl, ap, sym, subst, arith}
use Rattle.std.specs.Prelude.{slice_get}
use Rattle.std.specs.HashMap.{HashMap}
use Rattle.std.specs.HashMap as hash
use Rattle.go_package_defs.specs.Sources.{Package, rounds}
use Rattle.go_needs.specs.declared.calls.Call.{Call}
use Rattle.go_needs.specs.declared.levels.Levels.{Levels}
use Rattle.go_needs.specs.declared.owners.Owner.{Owner}
use Rattle.go_scopes_cycles.specs.declared.ranks.Part.TheVariants as part
use Rattle.go_needs.specs.Calls.{calls_of}
use Rattle.go_needs.specs.Levels.{level_of, nearer, nearest, near_in, near, settled, fails_at, is_settled, are_settled, KnowsNearest}
use Rattle.go_scopes_cycles.specs.Ranks.{Place, same_place, own_part}
use Rattle.go_needs.specs.Reached.{AreCalls, TellFailing, Reaches}
use Rattle.go_needs.proofs.Standing.{both_left, both_right}
use Rattle.go_needs.proofs.Reaching.{reaches}

-- ---- one object

settled_there : (g : Place → Option ℕ) (ls : List Levels) (bs : List Bool) (r n m k : ℕ) (os : List Owner) (o : Owner) → m ≡ n + k → slice_get os k ≡ Some o → are_settled g ls bs r n os ≡ true → is_settled g ls bs r m o ≡ true
settled_there g ls bs r n m k [] o i e h = absurd (grind (arith, e))
settled_there g ls bs r n m zero (w ∷ os) o i e h =
    let first : is_settled g ls bs r n w ≡ true = both_left (is_settled g ls bs r n w) (are_settled g ls bs r (suc n) os) h in
    let same : w ≡ o = grind (arith, e) in
    let number : n ≡ m = omega (arith, i) in
    subst (λ j. is_settled g ls bs r j o ≡ true) number (subst (λ v. is_settled g ls bs r n v ≡ true) same first)
settled_there g ls bs r n m (suc k) (w ∷ os) o i e h =
    settled_there g ls bs r (suc n) m k os o (omega (arith, i)) e (both_right (is_settled g ls bs r n w) (are_settled g ls bs r (suc n) os) h)

settled_so : (g : Place → Option ℕ) (ls : List Levels) (bs : List Bool) (r m : ℕ) (b : Bool) (o : Owner) → is_settled g ls bs r m o ≡ true → settled (fails_at bs m) (level_of ls m b) (near g o b) r ≡ true
settled_so g ls bs r m false o h = both_left (settled (fails_at bs m) (level_of ls m false) (near g o false) r) (settled (fails_at bs m) (level_of ls m true) (near g o true) r) h
settled_so g ls bs r m true o h = both_right (settled (fails_at bs m) (level_of ls m false) (near g o false) r) (settled (fails_at bs m) (level_of ls m true) (near g o true) r) h

pub less : {X : Type 0} (xs : List X) (k : ℕ) (x : X) → slice_get xs k ≡ Some x → k < length xs
less [] k x e = absurd (grind (arith, e))
less (y ∷ ys) zero x e = omega arith
less (y ∷ ys) (suc k) x e = let h = less ys k x e in omega (arith, h)

-- ---- the map

pub near_same : (g h : Place → Option ℕ) (n : ℕ) (s : Option ℕ) (c : ℕ) (f : Bool) → ((k : Place) → g k ≡ h k) → near_in g n s c f ≡ near_in h n s c f
near_same g h n None c f e = refl
near_same g h n (Some s) c f e =
    ap (λ l. nearer l (nearer (g ((n, s), part.Value c)) (g ((n, s), own_part f)))) (e ((n, s), part.Always))
    ∙ (ap (λ l. nearer (h ((n, s), part.Always)) (nearer l (g ((n, s), own_part f)))) (e ((n, s), part.Value c))
    ∙ ap (λ l. nearer (h ((n, s), part.Always)) (nearer (h ((n, s), part.Value c)) l)) (e ((n, s), own_part f)))

pub reached_so : {S : Type 0} (m : HashMap Place ℕ S) (p : Package) (os all : List Owner) (cs : List Call) (ls : List Levels) (bs : List Bool) (f : ℕ → Bool) (r : ℕ)
    → KnowsNearest m ls cs → are_settled (hash.get same_place m) ls bs r 0 os ≡ true → r ≤ length os + length os → AreCalls p os all cs → TellFailing (length os) bs f → Reaches m p all f
reached_so m p os all cs ls bs f r known are low a tell x our =
    let levels : Place → Option ℕ = nearest ls (calls_of p.uses all p.asked) in
    let same : (k : Place) → hash.get same_place m k ≡ levels k = λ k. known k ∙ ap (λ l. nearest ls l k) a.calls in
    let many : rounds p ≡ length p.uses.package_level + length p.uses.package_level = refl in
    ap is_some (near_same (hash.get same_place m) levels x.it.file x.it.it.source x.it.it.column x.full same)
    ∙ reaches p os all ls f a.others a.fit a.among r
    (λ n b o e.
    let set = settled_so (hash.get same_place m) ls bs r n b o (settled_there (hash.get same_place m) ls bs r 0 n n os o (omega arith) e are) in
    sym (ap (λ v. settled v (level_of ls n b) (near levels o b) r) (tell n (less os n o e)))
    ∙ (sym (ap (λ v. settled (fails_at bs n) (level_of ls n b) v r) (near_same (hash.get same_place m) levels o.file o.source o.column b same)) ∙ set))
    x our (omega (arith, low, a.as_many, many))

-- the same of lists that are these
pub reach_on : {S : Type 0} (m : HashMap Place ℕ S) (os ws : List Owner) (cs xs : List Call) (bs ys : List Bool) → ws ≡ os → xs ≡ cs → ys ≡ bs
    → ((q : Package) (all : List Owner) (f : ℕ → Bool) → AreCalls q ws all xs → TellFailing (length ws) ys f → Reaches m q all f)
    → (q : Package) (all : List Owner) (f : ℕ → Bool) → AreCalls q os all cs → TellFailing (length os) bs f → Reaches m q all f
reach_on m os ws cs xs bs ys eo ec eb r q all f a t =
    r q all f (subst (λ o. AreCalls q o all xs) (sym eo) (subst (λ c. AreCalls q os all c) (sym ec) a)) (subst (λ o. TellFailing (length o) ys f) (sym eo) (subst (λ b. TellFailing (length os) b f) (sym eb) t))
