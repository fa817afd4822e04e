-- Which objects block the rule of a specification.
use Rattle.std.proofs.Common.{◌≡◌, ◌∙◌, ℕ, zero, suc, ◌<◌, ◌+◌, max, Bool, true, false, ◌&&◌, ◌||◌, not, List, [], ◌∷◌, ◌++◌, length, map, Option, Some, None, is_some, refl, ap, sym, arith}
use Rattle.std.specs.Prelude.{slice_get}
use Rattle.std.specs.Option.{option_map}
use Rattle.std.specs.List.{list_any}
use Rattle.std.specs.HashMap.{HashMap}
use Rattle.std.specs.HashMap as hash
use Rattle.go_tree.specs.Declarations.{Found}
use Rattle.go_tree.specs.Needs.{Needed}
use Rattle.go_package_defs.specs.Declarations.{Specification}
use Rattle.go_package_defs.specs.Knowledge.{Outline, State, state_of, outlines}
use Rattle.go_package_defs.specs.Sources.{Package, declared_at, needed_from, needed_at}
use Rattle.go_package_defs.specs.Verdicts.{first_name, needed_columns, needed_by_all, numbers_of, is_in, needs_one, blocks, is_blocked}
use Rattle.go_needs.specs.declared.declaring.Declaring.{Declaring}
use Rattle.go_needs.specs.declared.groups.Group.{Group}
use Rattle.go_needs.specs.declared.needs.Needs.{Needs}
use Rattle.go_needs.specs.declared.owners.Owner.{Owner}
use Rattle.go_needs.specs.Blocked.{any_below, any_by, any_column, any_there, flags_from, blocks_at, blocking}
use Rattle.go_needs.specs.Groups.{Seen, group_view, group_in}
use Rattle.go_needs.specs.Levels.{near, fails_at}
use Rattle.go_needs.specs.Owners.{owner_of}
use Rattle.go_scopes_cycles.specs.Ranks.{Place, same_place}
use Rattle.go_needs.specs.Passing.{is_faulty, is_misassigned}
use Rattle.go_needs.specs.Reached.{AreCalls, IsOurs, TellFailing, Reaches}
use Rattle.go_needs.specs.Tells.{TellsNeeds}
use Rattle.go_needs.proofs.Knowing.{everything, with_number, declared_by, as_many_declaring, as_many_outlines}
use Rattle.go_needs.proofs.Maps.{some_is, item_at, from_one}
use Rattle.go_needs.proofs.Ours.{root_ours}
use Rattle.go_needs.proofs.Passes.{tested_at}

-- ---- lists

or_assoc : (b c d : Bool) → (b || (c || d)) ≡ ((b || c) || d)
or_assoc true c d = refl
or_assoc false c d = refl

pub any_append : (f : ℕ → Bool) (xs ys : List ℕ) → list_any f (xs ++ ys) ≡ (list_any f xs || list_any f ys)
any_append f [] ys = refl
any_append f (x ∷ xs) ys = ap (λ b. f x || b) (any_append f xs ys) ∙ or_assoc (f x) (list_any f xs) (list_any f ys)

flags_at : (ns : List ℕ) (n k m : ℕ) (os : List Owner) → m ≡ n + k → k < length os → fails_at (flags_from ns n os) k ≡ is_in ns m
flags_at ns n k m [] w l = absurd (omega (arith, l))
flags_at ns n zero m (o ∷ os) w l = let number : n ≡ m = omega (arith, w) in ap (is_in ns) number
flags_at ns n (suc k) m (o ∷ os) w l = flags_at ns (suc n) k m os (omega (arith, w)) (omega (arith, l))

blocking_at : (g : Place → Option ℕ) (gs : List Group) (own bs cs : List Bool) (n k m : ℕ) (xs : List Declaring) (x : Declaring) → m ≡ n + k → slice_get xs k ≡ Some x
    → fails_at (blocking g gs own bs cs n xs) k ≡ blocks_at g gs own bs cs m x
blocking_at g gs own bs cs n k m [] x w e = absurd (grind (arith, e))
blocking_at g gs own bs cs n zero m (y ∷ ys) x w e = let number : n ≡ m = omega (arith, w) in ap (λ j. blocks_at g gs own bs cs j y) number ∙ ap (blocks_at g gs own bs cs m) (some_is y x e)
blocking_at g gs own bs cs n (suc k) m (y ∷ ys) x w e = blocking_at g gs own bs cs (suc n) k m ys x (omega (arith, w)) e

-- ---- what a specification needs

none_needed : (p : Package) (d : Specification) (f : ℕ → Bool) (k : ℕ) → declared_at d.file (first_name d.names) p.declared ≡ None → list_any f (needed_columns p d k) ≡ false
none_needed p d f zero e = refl
none_needed p d f (suc k) e =
    any_append f (needed_columns p d k) (needed_at p d.file (first_name d.names) k false)
    ∙ (ap (λ b. b || list_any f (needed_at p d.file (first_name d.names) k false)) (none_needed p d f k e) ∙ ap (λ o. list_any f (needed_from p k false o)) e)

module _ {S : Type 0} (m : HashMap Place ℕ S) (p : Package) (all : List Owner) (f : ℕ → Bool) (r : Reaches m p all f) where
  some_needed : (d : Specification) (fd : Found) (k : ℕ) → declared_at d.file (first_name d.names) p.declared ≡ Some fd → IsOurs all fd.file fd.it.source
      → any_below (hash.get same_place m) (owner_of fd) k ≡ list_any f (needed_columns p d k)
  some_needed d fd zero e our = refl
  some_needed d fd (suc k) e our =
      let x : Needed = record { it = with_number fd k; full = false } in
      ap (λ b. b || is_some (near (hash.get same_place m) (owner_of x.it) false)) (some_needed d fd k e our)
      ∙ (ap (λ b. list_any f (needed_columns p d k) || b) (r x our ∙ sym (ap (λ o. list_any f (needed_from p k false o)) e))
      ∙ sym (any_append f (needed_columns p d k) (needed_at p d.file (first_name d.names) k false)))

  column_by : (d : Specification) (o : Option Found) → declared_at d.file (first_name d.names) p.declared ≡ o → ((w : Owner) → option_map owner_of o ≡ Some w → IsOurs all w.file w.source)
      → any_by (hash.get same_place m) (option_map owner_of o) (max (length d.names) (length d.values)) ≡ list_any f (needed_by_all p d)
  column_by d None e our = sym (none_needed p d f (max (length d.names) (length d.values)) e)
  column_by d (Some fd) e our = some_needed d fd (max (length d.names) (length d.values)) e (our (owner_of fd) refl)

  abbrev any_by_seen : Seen → Bool
  any_by_seen s = any_by (hash.get same_place m) s.root s.columns

  column_is : (d : Specification) (g : Group) → group_view g ≡ group_in p d → ((w : Owner) → g.root ≡ Some w → IsOurs all w.file w.source) → any_column (hash.get same_place m) g ≡ list_any f (needed_by_all p d)
  column_is d g e our =
      ap any_by_seen e
      ∙ column_by d (declared_at d.file (first_name d.names) p.declared) refl (λ w h. our w (ap (λ s. s.root) e ∙ h))

-- ---- what blocks

module _ (x : Needs) (p : Package) (ds : List Specification) (t : TellsNeeds x p ds) where
  -- There is a group for a specification.
  pub record Grouped (i : ℕ) (d : Specification) : Type 0 where
    pub group : Group
    pub there : slice_get x.groups.items i ≡ Some group
    pub is : group_view group ≡ group_in p d

  pub grouped : (i : ℕ) (d : Specification) → slice_get ds i ≡ Some d → Grouped i d
  grouped i d e = let b = from_one (group_in p) group_view ds x.groups.items i d (sym t.groups) e in record { group = b.it; there = b.there; is = b.is }

  pub group_column : {S : Type 0} (m : HashMap Place ℕ S) (f : ℕ → Bool) (i : ℕ) (d : Specification) (g : Group) → Reaches m p (everything x p ds t) f → slice_get ds i ≡ Some d → slice_get x.groups.items i ≡ Some g
      → any_column (hash.get same_place m) g ≡ list_any f (needed_by_all p d)
  group_column m f i d g r e h =
      let b = grouped i d e in
      let same : b.group ≡ g = some_is b.group g (sym b.there ∙ h) in
      column_is m p (everything x p ds t) f r d g (ap group_view (sym same) ∙ b.is) (λ w q. root_ours x.owners.items x.groups.items i g w h q)

  needs_there : {S : Type 0} (m : HashMap Place ℕ S) (own : List ℕ) (i : ℕ) (w : Outline) → Reaches m p (everything x p ds t) (is_in own) → slice_get ds i ≡ Some w.specification
      → any_there (hash.get same_place m) (slice_get x.groups.items i) ≡ list_any (is_in own) (needed_by_all p w.specification)
  needs_there m own i w r e =
      let b = grouped i w.specification e in
      ap (any_there (hash.get same_place m)) b.there ∙ group_column m (is_in own) i w.specification b.group r e b.there

  same_blocks : (a a2 b b2 c c2 d d2 : Bool) → a ≡ a2 → b ≡ b2 → c ≡ c2 → d ≡ d2 → (not a && (b || (c && not d))) ≡ (not a2 && (b2 || (c2 && not d2)))
  same_blocks a a2 b b2 c c2 d d2 ea eb ec ed =
      ap (λ v. not v && (b || (c && not d))) ea ∙ (ap (λ v. not a2 && (v || (c && not d))) eb ∙ (ap (λ v. not a2 && (b2 || (v && not d))) ec ∙ ap (λ v. not a2 && (b2 || (c2 && not v))) ed))

  tell_blocks : {S : Type 0} (needing : HashMap Place ℕ S) (ss : List State) (ns own : List ℕ) → ns ≡ own → Reaches needing p (everything x p ds t) (is_in own) → length ss ≡ length p.uses.package_level
      → TellFailing (length x.owners.items) (blocking (hash.get same_place needing) x.groups.items (flags_from ns 0 x.owners.items) (map is_faulty ss) (map is_misassigned ss) 0 x.declaring.items) (blocks p (outlines p ds) ss own)
  tell_blocks needing ss ns own same r l n b =
      let flags = flags_from ns 0 x.owners.items in
      let many : length x.owners.items ≡ length p.uses.package_level = t.calls.as_many in
      let ad = as_many_declaring x p ds t in
      let ao = as_many_outlines x p ds t in
      let y = item_at x.declaring.items n (omega (arith, b, many, ad)) in
      let w = item_at (outlines p ds) n (omega (arith, b, many, ao)) in
      let low : n < length ss = omega (arith, b, many, l) in
      let by = declared_by x p ds t n y.it w.it y.there w.there in
      let flag : fails_at flags n ≡ is_in own n = flags_at ns 0 n n x.owners.items (omega arith) b ∙ ap (λ ms. is_in ms n) same in
      blocking_at (hash.get same_place needing) x.groups.items flags (map is_faulty ss) (map is_misassigned ss) 0 n n x.declaring.items y.it (omega arith) y.there
      ∙ same_blocks (fails_at flags n) (is_in own n) (fails_at (map is_faulty ss) n) (is_faulty (state_of ss n)) (fails_at (map is_misassigned ss) n) (is_misassigned (state_of ss n))
      (any_there (hash.get same_place needing) (slice_get x.groups.items y.it.specification)) (needs_one p own (slice_get (outlines p ds) n))
      flag (tested_at is_faulty ss n low) (tested_at is_misassigned ss n low)
      (needs_there needing own y.it.specification w.it r by.specification ∙ sym (ap (needs_one p own) w.there))

  pub blocked_is : {S T : Type 0} (needing : HashMap Place ℕ S) (nearest : HashMap Place ℕ T) (ss : List State) (i : ℕ) (d : Specification) (g : Group)
      → ((q : Package) (all : List Owner) (f : ℕ → Bool) → AreCalls q x.owners.items all x.calls.items → TellFailing (length x.owners.items) (flags_from g.numbers.items 0 x.owners.items) f → Reaches needing q all f)
      → ((q : Package) (all : List Owner) (f : ℕ → Bool) → AreCalls q x.owners.items all x.calls.items
      → TellFailing (length x.owners.items) (blocking (hash.get same_place needing) x.groups.items (flags_from g.numbers.items 0 x.owners.items) (map is_faulty ss) (map is_misassigned ss) 0 x.declaring.items) f → Reaches nearest q all f)
      → length ss ≡ length p.uses.package_level → slice_get ds i ≡ Some d → slice_get x.groups.items i ≡ Some g
      → any_column (hash.get same_place nearest) g ≡ is_blocked p (outlines p ds) ss d
  blocked_is needing nearest ss i d g first second l e h =
      let own = numbers_of p d.file d.names in
      let b = grouped i d e in
      let numbers : g.numbers.items ≡ own = ap (λ s. s.numbers) (ap group_view (sym (some_is b.group g (sym b.there ∙ h))) ∙ b.is) in
      let r = first p (everything x p ds t) (is_in own) t.calls (λ n low. flags_at g.numbers.items 0 n n x.owners.items (omega arith) low ∙ ap (λ ns. is_in ns n) numbers) in
      group_column nearest (blocks p (outlines p ds) ss own) i d g (second p (everything x p ds t) (blocks p (outlines p ds) ss own) t.calls (tell_blocks needing ss g.numbers.items own numbers r l)) e h
