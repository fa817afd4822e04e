-- What ranks of specifications show of those that are blocked.
use Rattle.std.proofs.Common.{◌≡◌, ◌∙◌, ℕ, zero, suc, ◌<◌, ◌≤◌, ◌+◌, ◌-◌, max, Bool, true, false, ◌&&◌, ◌||◌, not, nat_eq, nat_le, nat_lt, List, [], ◌∷◌, ◌++◌, length, map, Option, Some, None, refl, ap, sym, subst, arith, inl, inr, ◌⊎◌}
use Rattle.std.specs.Prelude.{slice_get, unwrap_or}
use Rattle.std.specs.Option.{option_map}
use Rattle.std.specs.List.{list_any}
use Rattle.std.specs.HashMap.{HashMap}
use Rattle.std.specs.HashMap as hash
use Rattle.go_tree.specs.Declarations.{Found}
use Rattle.go_tree.specs.Needs.{Needed}
use Rattle.go_package_defs.specs.Declarations.{Specification}
use Rattle.go_package_defs.specs.Knowledge.{State, state_of, outlines}
use Rattle.go_package_defs.specs.Sources.{Package, declared_at, rounds, needed_by, needed_from, needed_at}
use Rattle.go_package_defs.specs.Verdicts.{first_name, needed_columns, needed_by_all, numbers_of, is_in, needs_one, blocks, is_blocked}
use Rattle.go_needs.specs.declared.groups.Group.{Group}
use Rattle.go_needs.specs.declared.levels.Levels.{Levels}
use Rattle.go_needs.specs.declared.needs.Needs.{Needs}
use Rattle.go_needs.specs.declared.owners.Owner.{Owner}
use Rattle.go_needs.specs.Bounds.{AtMost, AllAtMost, level_under, is_low, are_bounded}
use Rattle.go_needs.specs.Calls.{calls_of}
use Rattle.go_needs.specs.Groups.{Seen, group_view}
use Rattle.go_needs.specs.Levels.{near, nearest, fails_at, level_of, KnowsNearest}
use Rattle.go_needs.specs.Owners.{owner_of}
use Rattle.go_scopes_cycles.specs.Ranks.{Place, same_place}
use Rattle.go_needs.specs.Passing.{is_faulty, is_misassigned}
use Rattle.go_needs.specs.Ranks.{rank_at, rank_by, own_bound, AreRanks, low_below, low_by, is_ranked, are_ranked, descends, is_lower, is_lower_at, are_lower, is_under, any_under, all_from, shown_by, is_shown, shown}
use Rattle.go_needs.specs.Reached.{IsOurs}
use Rattle.go_needs.specs.Tells.{TellsNeeds}
use Rattle.go_needs.proofs.Blocking.{any_append, grouped}
use Rattle.go_needs.proofs.Bounded.{needed_within}
use Rattle.go_needs.proofs.Here.{or_holds}
use Rattle.go_needs.proofs.Knowing.{everything, with_number, declared_by, as_many_declaring, as_many_outlines}
use Rattle.go_needs.proofs.Maps.{some_is, at_map, item_at, below}
use Rattle.go_needs.proofs.Ours.{root_ours}
use Rattle.go_needs.proofs.Passes.{tested_at}
use Rattle.go_needs.proofs.Reaching.{Lower, reaches_from}
use Rattle.go_needs.proofs.Settled.{near_same}
use Rattle.go_needs.proofs.Standing.{both_left, both_right, same_number}

-- ---- lists

at_most_append : (rs : List ℕ) (k : ℕ) (xs ys : List ℕ) → AllAtMost rs k xs → AllAtMost rs k ys → AllAtMost rs k (xs ++ ys)
at_most_append rs k [] ys h i = i
at_most_append rs k (x ∷ xs) ys h i = (h.0, at_most_append rs k xs ys h.1 i)

rank_low : (o : Option ℕ) (k : ℕ) → AtMost o k → unwrap_or o 0 ≤ k
rank_low None k h = absurd h
rank_low (Some r) k h = h

ranked_there : (g : Place → Option ℕ) (top : ℕ) (ks : List ℕ) (n m k : ℕ) (xs : List Group) (x : Group) → m ≡ n + k → slice_get xs k ≡ Some x → are_ranked g top ks n xs ≡ true → is_ranked g top (rank_at ks m) x ≡ true
ranked_there g top ks n m k [] x i e h = absurd (grind (arith, e))
ranked_there g top ks n m zero (y ∷ xs) x i e h =
    let first : is_ranked g top (rank_at ks n) y ≡ true = both_left (is_ranked g top (rank_at ks n) y) (are_ranked g top ks (suc n) xs) h in
    let number : n ≡ m = omega (arith, i) in
    subst (λ j. is_ranked g top (rank_at ks j) x ≡ true) number (subst (λ v. is_ranked g top (rank_at ks n) v ≡ true) (some_is y x e) first)
ranked_there g top ks n m (suc k) (y ∷ xs) x i e h =
    ranked_there g top ks (suc n) m k xs x (omega (arith, i)) e (both_right (is_ranked g top (rank_at ks n) y) (are_ranked g top ks (suc n) xs) h)

lower_there : (g : Place → Option ℕ) (ls : List Levels) (gs rs : List ℕ) (bs cs : List Bool) (n m k : ℕ) (os : List Owner) (o : Owner) → m ≡ n + k → slice_get os k ≡ Some o → are_lower g ls gs rs bs cs n os ≡ true
    → is_lower_at g ls gs rs bs cs m o ≡ true
lower_there g ls gs rs bs cs n m k [] o i e h = absurd (grind (arith, e))
lower_there g ls gs rs bs cs n m zero (w ∷ os) o i e h =
    let first : is_lower_at g ls gs rs bs cs n w ≡ true = both_left (is_lower_at g ls gs rs bs cs n w) (are_lower g ls gs rs bs cs (suc n) os) h in
    let number : n ≡ m = omega (arith, i) in
    subst (λ j. is_lower_at g ls gs rs bs cs j o ≡ true) number (subst (λ v. is_lower_at g ls gs rs bs cs n v ≡ true) (some_is w o e) first)
lower_there g ls gs rs bs cs n m (suc k) (w ∷ os) o i e h =
    lower_there g ls gs rs bs cs (suc n) m k os o (omega (arith, i)) e (both_right (is_lower_at g ls gs rs bs cs n w) (are_lower g ls gs rs bs cs (suc n) os) h)

lower_so : (g : Place → Option ℕ) (ls : List Levels) (gs rs : List ℕ) (bs cs : List Bool) (m : ℕ) (o : Owner) (f : Bool) → is_lower_at g ls gs rs bs cs m o ≡ true
    → is_lower (fails_at bs m || fails_at cs m) (rank_at rs m) (level_of ls m f) (near g o f) gs ≡ true
lower_so g ls gs rs bs cs m o false h =
    both_left (is_lower (fails_at bs m || fails_at cs m) (rank_at rs m) (level_of ls m false) (near g o false) gs) (is_lower (fails_at bs m || fails_at cs m) (rank_at rs m) (level_of ls m true) (near g o true) gs) h
lower_so g ls gs rs bs cs m o true h =
    both_right (is_lower (fails_at bs m || fails_at cs m) (rank_at rs m) (level_of ls m false) (near g o false) gs) (is_lower (fails_at bs m || fails_at cs m) (rank_at rs m) (level_of ls m true) (near g o true) gs) h

shown_there : (g : Place → Option ℕ) (gs : List ℕ) (most : ℕ) (rs ks : List ℕ) (n m k : ℕ) (xs : List Group) (x : Group) → m ≡ n + k → slice_get xs k ≡ Some x → slice_get (shown g gs most rs ks n xs) k ≡ Some true
    → is_shown g gs most rs (rank_at ks m) x ≡ true
shown_there g gs most rs ks n m k [] x i e h = absurd (grind (arith, e))
shown_there g gs most rs ks n m zero (y ∷ xs) x i e h =
    let number : n ≡ m = omega (arith, i) in
    subst (λ j. is_shown g gs most rs (rank_at ks j) x ≡ true) number (subst (λ v. is_shown g gs most rs (rank_at ks n) v ≡ true) (some_is y x e) (some_is (is_shown g gs most rs (rank_at ks n) y) true h))
shown_there g gs most rs ks n m (suc k) (y ∷ xs) x i e h = shown_there g gs most rs ks (suc n) m k xs x (omega (arith, i)) e h

-- ---- no specification needs one of a higher rank

module _ {S : Type 0} (x : Needs) (m : HashMap Place ℕ S) (p : Package) (ds : List Specification) (top : ℕ) (ks rs : List ℕ)
    (knows : KnowsNearest m (map (level_under top) (map own_bound rs)) x.calls.items) (bounded : are_bounded (hash.get same_place m) top rs (map own_bound rs) 0 x.owners.items ≡ true)
    (ranked : are_ranked (hash.get same_place m) top ks 0 x.groups.items ≡ true) (t : TellsNeeds x p ds) where
  columns_low : (l : ℕ) (d : Specification) (fd : Found) (k : ℕ) → declared_at d.file (first_name d.names) p.declared ≡ Some fd → IsOurs (everything x p ds t) fd.file fd.it.source
      → low_below (hash.get same_place m) (owner_of fd) l k ≡ true → AllAtMost rs (top - l) (needed_columns p d k)
  columns_low l d fd zero e our h = tt
  columns_low l d fd (suc k) e our h =
      let y : Needed = record { it = with_number fd k; full = false } in
      let one = low_below (hash.get same_place m) (owner_of fd) l k in
      let two = is_low l (near (hash.get same_place m) (owner_of y.it) false) in
      at_most_append rs (top - l) (needed_columns p d k) (needed_at p d.file (first_name d.names) k false)
      (columns_low l d fd k e our (both_left one two h))
      (subst (AllAtMost rs (top - l)) (sym (ap (needed_from p k false) e)) (needed_within x m p ds top rs (map own_bound rs) knows bounded t l y our (both_right one two h)))

  none_low : (l : ℕ) (d : Specification) (k : ℕ) → declared_at d.file (first_name d.names) p.declared ≡ None → AllAtMost rs l (needed_columns p d k)
  none_low l d zero e = tt
  none_low l d (suc k) e =
      at_most_append rs l (needed_columns p d k) (needed_at p d.file (first_name d.names) k false) (none_low l d k e) (subst (AllAtMost rs l) (sym (ap (needed_from p k false) e)) tt)

  low_columns : (l : ℕ) (d : Specification) (o : Option Found) → declared_at d.file (first_name d.names) p.declared ≡ o → ((w : Owner) → option_map owner_of o ≡ Some w → IsOurs (everything x p ds t) w.file w.source)
      → low_by (hash.get same_place m) (option_map owner_of o) l (max (length d.names) (length d.values)) ≡ true → AllAtMost rs (top - l) (needed_by_all p d)
  low_columns l d None e our h = none_low (top - l) d (max (length d.names) (length d.values)) e
  low_columns l d (Some fd) e our h = columns_low l d fd (max (length d.names) (length d.values)) e (our (owner_of fd) refl) h

  abbrev low_seen : ℕ → Seen → Bool
  low_seen l s = low_by (hash.get same_place m) s.root l s.columns

  pub are_ranks : AreRanks ks rs p ds
  are_ranks i d e =
      let b = grouped x p ds t i d e in
      let r = rank_at ks i in
      let test : is_ranked (hash.get same_place m) top r b.group ≡ true = ranked_there (hash.get same_place m) top ks 0 i i x.groups.items b.group (omega arith) b.there ranked in
      let first : nat_le r top ≡ true = both_left (nat_le r top) (low_seen (top - r) (group_view b.group)) test in
      let low : r ≤ top = grind (arith, first) in
      let second : low_seen (top - r) (group_view b.group) ≡ true = both_right (nat_le r top) (low_seen (top - r) (group_view b.group)) test in
      let back : top - (top - r) ≡ r = omega (arith, low) in
      subst (λ k. AllAtMost rs k (needed_by_all p d)) back
      (low_columns (top - r) d (declared_at d.file (first_name d.names) p.declared) refl
      (λ w q. root_ours x.owners.items x.groups.items i b.group w b.there (ap (λ s. s.root) b.is ∙ q))
      (sym (ap (low_seen (top - r)) b.is) ∙ second))

-- ---- what blocks

own_by : (rs : List ℕ) (r k n : ℕ) (b q : Bool) → nat_eq n k ≡ b → (b || q) ≡ true → r ≤ rank_at rs k → (q ≡ true → r ≤ rank_at rs n) → r ≤ rank_at rs n
own_by rs r k n true q e w first rest = subst (λ j. r ≤ rank_at rs j) (sym (same_number n k e)) first
own_by rs r k n false q e w first rest = rest w

from_own : (rs : List ℕ) (r : ℕ) (ns : List ℕ) (n : ℕ) → all_from r rs ns ≡ true → is_in ns n ≡ true → r ≤ rank_at rs n
from_own rs r [] n h e = absurd (grind (arith, e))
from_own rs r (k ∷ ns) n h e =
    let first : nat_le r (rank_at rs k) ≡ true = both_left (nat_le r (rank_at rs k)) (all_from r rs ns) h in
    own_by rs r k n (nat_eq n k) (is_in ns n) refl e (grind (arith, first)) (from_own rs r ns n (both_right (nat_le r (rank_at rs k)) (all_from r rs ns) h))

not_own : (rs : List ℕ) (r : ℕ) (ns : List ℕ) (n : ℕ) → all_from r rs ns ≡ true → rank_at rs n < r → is_in ns n ≡ false
not_own rs r ns n h l = by (is_in ns n) refl
  where
    by : (b : Bool) → is_in ns n ≡ b → b ≡ false
    by true e = let q = from_own rs r ns n h e in absurd (omega (arith, l, q))
    by false e = refl

none_own : (rs : List ℕ) (r k : ℕ) (own ns : List ℕ) → all_from r rs own ≡ true → k < r → AllAtMost rs k ns → list_any (is_in own) ns ≡ false
none_own rs r k own [] h l a = refl
none_own rs r k own (n ∷ ns) h l a =
    let low : rank_at rs n ≤ k = rank_low (slice_get rs n) k a.0 in
    ap (λ b. b || list_any (is_in own) ns) (not_own rs r own n h (omega (arith, low, l))) ∙ none_own rs r k own ns h l a.1

all_hold : (a b c d : Bool) → a ≡ false → (b || c) ≡ true → d ≡ false → (not a && (b || (c && not d))) ≡ true
all_hold false true c false ea e ed = refl
all_hold false false true false ea e ed = refl
all_hold false false false d ea e ed = absurd (grind (arith, e))
all_hold true b c d ea e ed = absurd (grind (arith, ea))
all_hold false b c true ea e ed = absurd (grind (arith, ed))

module _ (x : Needs) (p : Package) (ds : List Specification) (t : TellsNeeds x p ds) (ks rs : List ℕ) (ranks : AreRanks ks rs p ds) (same : rs ≡ map (rank_by ks) x.declaring.items)
    (ss : List State) (many : length ss ≡ length p.uses.package_level) where
  blocks_under : (r : ℕ) (own : List ℕ) (m : ℕ) → all_from r rs own ≡ true → m < length x.owners.items → rank_at rs m < r → (fails_at (map is_faulty ss) m || fails_at (map is_misassigned ss) m) ≡ true
      → blocks p (outlines p ds) ss own m ≡ true
  blocks_under r own m h l low e =
      let am = t.calls.as_many in
      let ad = as_many_declaring x p ds t in
      let ao = as_many_outlines x p ds t in
      let y = item_at x.declaring.items m (omega (arith, l, am, ad)) in
      let w = item_at (outlines p ds) m (omega (arith, l, am, ao)) in
      let by = declared_by x p ds t m y.it w.it y.there w.there in
      let inside : m < length ss = omega (arith, l, am, many) in
      let i = y.it.specification in
      let rank : rank_at rs m ≡ rank_at ks i = ap (λ v. unwrap_or v 0) (ap (λ l. slice_get l m) same ∙ at_map (rank_by ks) x.declaring.items m y.it y.there) in
      let none : needs_one p own (slice_get (outlines p ds) m) ≡ false =
      ap (needs_one p own) w.there ∙ none_own rs r (rank_at ks i) own (needed_by_all p w.it.specification) h (subst (λ j. j < r) rank low) (ranks i w.it.specification by.specification) in
      all_hold (is_in own m) (is_faulty (state_of ss m)) (is_misassigned (state_of ss m)) (needs_one p own (slice_get (outlines p ds) m)) (not_own rs r own m h low)
      (sym (ap (λ b. b || fails_at (map is_misassigned ss) m) (tested_at is_faulty ss m inside) ∙ ap (λ b. is_faulty (state_of ss m) || b) (tested_at is_misassigned ss m inside)) ∙ e)
      none

  module _ {S : Type 0} (g : HashMap Place ℕ S) (ls : List Levels) (gs : List ℕ) (knows : KnowsNearest g ls x.calls.items)
      (lower : are_lower (hash.get same_place g) ls gs rs (map is_faulty ss) (map is_misassigned ss) 0 x.owners.items ≡ true) (r : ℕ) (own : List ℕ) (from : all_from r rs own ≡ true) where
    abbrev all : List Owner
    all = everything x p ds t

    abbrev f : ℕ → Bool
    f = blocks p (outlines p ds) ss own

    abbrev levels : Place → Option ℕ
    levels = nearest ls (calls_of p.uses all p.asked)

    equal : (k : Place) → levels k ≡ hash.get same_place g k
    equal k = sym (knows k ∙ ap (λ cs. nearest ls cs k) t.calls.calls)

    -- The level is found from one under the rank.
    abbrev Under : ℕ → Type 0
    Under l = rank_at gs l < r

    descends_to : (next : Option ℕ) (l : ℕ) → descends next l gs ≡ true → Under l → Lower p x.owners.items all ls f t.calls.others t.calls.fit t.calls.among Under l next
    descends_to None l e q = absurd (grind (arith, e))
    descends_to (Some j) l e q =
        let one = both_left (nat_lt j l) (nat_le (rank_at gs j) (rank_at gs l)) e in
        let two = both_right (nat_lt j l) (nat_le (rank_at gs j) (rank_at gs l)) e in
        record { next = j; is = refl; below = grind (arith, one); good = grind (arith, two, q) }

    fails_or : (fails : Bool) (m l : ℕ) (next : Option ℕ) → m < length x.owners.items → (fails_at (map is_faulty ss) m || fails_at (map is_misassigned ss) m) ≡ fails → Under l
        → ((fails && nat_le (rank_at rs m) (rank_at gs l)) || descends next l gs) ≡ true
        → (f m ≡ true) ⊎ Lower p x.owners.items all ls f t.calls.others t.calls.fit t.calls.among Under l next
    fails_or false m l next b e q h = inr (descends_to next l h q)
    fails_or true m l next b e q h = by (nat_le (rank_at rs m) (rank_at gs l)) refl h
      where
        by : (c : Bool) → nat_le (rank_at rs m) (rank_at gs l) ≡ c → (c || descends next l gs) ≡ true → (f m ≡ true) ⊎ Lower p x.owners.items all ls f t.calls.others t.calls.fit t.calls.among Under l next
        by true w v = inl (blocks_under r own m from b (grind (arith, w, q)) e)
        by false w v = inr (descends_to next l v q)

    down : (m : ℕ) (w : Bool) (o : Owner) (l : ℕ) → slice_get x.owners.items m ≡ Some o → level_of ls m w ≡ Some l → Under l
        → (f m ≡ true) ⊎ Lower p x.owners.items all ls f t.calls.others t.calls.fit t.calls.among Under l (near levels o w)
    down m w o l h e q =
        let fails = fails_at (map is_faulty ss) m || fails_at (map is_misassigned ss) m in
        let there = lower_there (hash.get same_place g) ls gs rs (map is_faulty ss) (map is_misassigned ss) 0 m m x.owners.items o (omega arith) h lower in
        let so = lower_so (hash.get same_place g) ls gs rs (map is_faulty ss) (map is_misassigned ss) m o w there in
        fails_or fails m l (near levels o w) (below x.owners.items m o h) refl q
        (ap (λ v. is_lower fails (rank_at rs m) (Some l) v gs) (near_same levels (hash.get same_place g) o.file o.source o.column w equal)
        ∙ (sym (ap (λ v. is_lower fails (rank_at rs m) v (near (hash.get same_place g) o w) gs) e) ∙ so))

    -- It is a level that is found from one under the rank.
    record IsUnder (most : ℕ) (o : Option ℕ) : Type 0 where
      level : ℕ
      is : o ≡ Some level
      low : level ≤ most
      under : Under level

    under_by : (most : ℕ) (o : Option ℕ) → is_under gs most r o ≡ true → IsUnder most o
    under_by most None e = absurd (grind (arith, e))
    under_by most (Some j) e =
        let one = both_left (nat_le j most) (nat_lt (rank_at gs j) r) e in
        let two = both_right (nat_le j most) (nat_lt (rank_at gs j) r) e in
        record { level = j; is = refl; low = grind (arith, one); under = grind (arith, two) }

    one_under : (most : ℕ) (y : Needed) → most ≤ rounds p → IsOurs all y.it.file y.it.it.source → is_under gs most r (near (hash.get same_place g) (owner_of y.it) y.full) ≡ true → list_any f (needed_by p y) ≡ true
    one_under most y high our e =
        let u = under_by most (near (hash.get same_place g) (owner_of y.it) y.full) e in
        let low = u.low in
        reaches_from p x.owners.items all ls f t.calls.others t.calls.fit t.calls.among Under down y u.level our
        (near_same levels (hash.get same_place g) y.it.file y.it.it.source y.it.it.column y.full equal ∙ u.is) u.under (omega (arith, low, high))

    some_under : (most : ℕ) (d : Specification) (fd : Found) (k : ℕ) → most ≤ rounds p → declared_at d.file (first_name d.names) p.declared ≡ Some fd → IsOurs all fd.file fd.it.source
        → any_under (hash.get same_place g) gs most r (owner_of fd) k ≡ true → list_any f (needed_columns p d k) ≡ true
    some_under most d fd zero high e our h = absurd (grind (arith, h))
    some_under most d fd (suc k) high e our h =
        any_append f (needed_columns p d k) (needed_at p d.file (first_name d.names) k false) ∙ by (any_under (hash.get same_place g) gs most r (owner_of fd) k) h (some_under most d fd k high e our)
      where
        y : Needed
        y = record { it = with_number fd k; full = false }

        by : (b : Bool) → (b || is_under gs most r (near (hash.get same_place g) (owner_of y.it) false)) ≡ true → (b ≡ true → list_any f (needed_columns p d k) ≡ true)
            → (list_any f (needed_columns p d k) || list_any f (needed_at p d.file (first_name d.names) k false)) ≡ true
        by true v rest = ap (λ b. b || list_any f (needed_at p d.file (first_name d.names) k false)) (rest refl)
        by false v rest = or_holds (list_any f (needed_columns p d k)) (list_any f (needed_at p d.file (first_name d.names) k false)) (ap (λ o. list_any f (needed_from p k false o)) e ∙ one_under most y high our v)

    columns_under : (most : ℕ) (d : Specification) (o : Option Found) → most ≤ rounds p → declared_at d.file (first_name d.names) p.declared ≡ o → ((w : Owner) → option_map owner_of o ≡ Some w → IsOurs all w.file w.source)
        → (w : Owner) → option_map owner_of o ≡ Some w → any_under (hash.get same_place g) gs most r w (max (length d.names) (length d.values)) ≡ true → list_any f (needed_by_all p d) ≡ true
    columns_under most d None high e our w q h = absurd (grind (arith, q))
    columns_under most d (Some fd) high e our w q h =
        let same : owner_of fd ≡ w = some_is (owner_of fd) w q in
        some_under most d fd (max (length d.names) (length d.values)) high e (our (owner_of fd) refl) (ap (λ v. any_under (hash.get same_place g) gs most r v (max (length d.names) (length d.values))) same ∙ h)

  -- It has an owner, whose columns need one under the rank, and no object under it.
  record Shown {S : Type 0} (g : HashMap Place ℕ S) (gs : List ℕ) (most r : ℕ) (y : Group) : Type 0 where
    owner : Owner
    root : y.root ≡ Some owner
    from : all_from r rs y.numbers.items ≡ true
    under : any_under (hash.get same_place g) gs most r owner y.columns ≡ true

  shown_so : {S : Type 0} (g : HashMap Place ℕ S) (gs : List ℕ) (most r : ℕ) (y : Group) (o : Option Owner) → y.root ≡ o → shown_by (hash.get same_place g) gs most rs r y o ≡ true → Shown g gs most r y
  shown_so g gs most r y None e h = absurd (grind (arith, h))
  shown_so g gs most r y (Some w) e h = record {
    owner = w;
    root = e;
    from = both_left (all_from r rs y.numbers.items) (any_under (hash.get same_place g) gs most r w y.columns) h;
    under = both_right (all_from r rs y.numbers.items) (any_under (hash.get same_place g) gs most r w y.columns) h;
  }

  pub shown_blocked : {S : Type 0} (g : HashMap Place ℕ S) (ls : List Levels) (gs : List ℕ) (most : ℕ) → KnowsNearest g ls x.calls.items
      → are_lower (hash.get same_place g) ls gs rs (map is_faulty ss) (map is_misassigned ss) 0 x.owners.items ≡ true → most ≤ length x.owners.items + length x.owners.items
      → (i : ℕ) (d : Specification) → slice_get ds i ≡ Some d → slice_get (shown (hash.get same_place g) gs most rs ks 0 x.groups.items) i ≡ Some true → is_blocked p (outlines p ds) ss d ≡ true
  shown_blocked g ls gs most knows lower high i d e h =
      let b = grouped x p ds t i d e in
      let r = rank_at ks i in
      let am = t.calls.as_many in
      let levels : rounds p ≡ length p.uses.package_level + length p.uses.package_level = refl in
      let s = shown_so g gs most r b.group b.group.root refl (shown_there (hash.get same_place g) gs most rs ks 0 i i x.groups.items b.group (omega arith) b.there h) in
      let own : b.group.numbers.items ≡ numbers_of p d.file d.names = ap (λ v. v.numbers) b.is in
      let from : all_from r rs (numbers_of p d.file d.names) ≡ true = sym (ap (all_from r rs) own) ∙ s.from in
      let columns : b.group.columns ≡ max (length d.names) (length d.values) = ap (λ v. v.columns) b.is in
      columns_under g ls gs knows lower r (numbers_of p d.file d.names) from most d (declared_at d.file (first_name d.names) p.declared) (omega (arith, high, am, levels)) refl
      (λ w q. root_ours x.owners.items x.groups.items i b.group w b.there (ap (λ v. v.root) b.is ∙ q))
      s.owner (sym (ap (λ v. v.root) b.is) ∙ s.root) (sym (ap (any_under (hash.get same_place g) gs most r s.owner) columns) ∙ s.under)
