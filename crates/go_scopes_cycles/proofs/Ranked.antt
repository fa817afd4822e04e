-- A declaration that needs only ones of lower ranks doesn't need itself.
use Rattle.std.proofs.Common.{◌≡◌, ◌≤◌, ◌-◌, ◌∙◌, ℕ, zero, suc, Bool, true, false, ◌&&◌, ◌||◌, not, nat_eq, nat_le, List, [], ◌∷◌, ◌++◌, refl, ap, sym, subst, arith, cond, Option, Some, None}
use Rattle.std.specs.Prelude.{if◌then◌else◌, unwrap_or, max}
use Rattle.std.specs.HashMap.{HashMap}
use Rattle.go_tree.specs.declared.context.Site.{Site}
use Rattle.go_tree.specs.declared.context.Site.TheVariants as site
use Rattle.go_tree.specs.declared.context.Reach.TheVariants as reach
use Rattle.go_tree.specs.declared.event.Declaration.{Declaration}
use Rattle.go_tree.specs.Declarations.{Found}
use Rattle.go_tree.specs.Lookups.{Asked}
use Rattle.go_tree.specs.Needs.{Needed, if_so, way_by, way, is_same, is_among, is_known, with_one, with_all, needs, needs_of, all_needed, needs_itself}
use Rattle.go_scopes_cycles.specs.Needs.{source_of, way_of, needed_in, needed_by}
use Rattle.go_scopes_cycles.specs.declared.ranks.Rank.{Rank}
use Rattle.go_scopes_cycles.specs.declared.ranks.Part.{Part}
use Rattle.go_scopes_cycles.specs.declared.ranks.Part.TheVariants as part
use Rattle.go_scopes_cycles.specs.Ranks.{Place, same_part, same_place, bound_of, rank_of, part_of, own_part, are_within, is_within, HasRank, Grows, Covers, CoversAll, is_ranked, is_source_ranked, are_ranked, is_above}
use Rattle.go_scopes_cycles.proofs.AllNeeded.{needs_some, needs_none}

-- ---- bounds grow

pub part_sound : (p q : Part) → same_part p q ≡ true → p ≡ q
part_sound part.Always part.Always e = refl
part_sound part.Always (part.Value d) e = absurd (grind (arith, e))
part_sound part.Always part.Full e = absurd (grind (arith, e))
part_sound part.Always part.Partial e = absurd (grind (arith, e))
part_sound (part.Value c) part.Always e = absurd (grind (arith, e))
part_sound (part.Value c) (part.Value d) e = grind (arith, e)
part_sound (part.Value c) part.Full e = absurd (grind (arith, e))
part_sound (part.Value c) part.Partial e = absurd (grind (arith, e))
part_sound part.Full part.Always e = absurd (grind (arith, e))
part_sound part.Full (part.Value d) e = absurd (grind (arith, e))
part_sound part.Full part.Full e = refl
part_sound part.Full part.Partial e = absurd (grind (arith, e))
part_sound part.Partial part.Always e = absurd (grind (arith, e))
part_sound part.Partial (part.Value d) e = absurd (grind (arith, e))
part_sound part.Partial part.Full e = absurd (grind (arith, e))
part_sound part.Partial part.Partial e = refl

pub both_left : (b c : Bool) → (b && c) ≡ true → b ≡ true
both_left true c e = refl
both_left false c e = e

pub both_right : (b c : Bool) → (b && c) ≡ true → c ≡ true
both_right true c e = e
both_right false c e = absurd (grind (arith, e))

place_same : (n s : ℕ) (p : Part) (j t : ℕ) (q : Part) → nat_eq n j ≡ true → nat_eq s t ≡ true → p ≡ q → ◌≡◌ {A = Place} ((n, s), p) ((j, t), q)
place_same n s p j t q e d h = grind (arith, e, d, h)

pub place_sound : (a b : Place) → same_place a b ≡ true → a ≡ b
place_sound a b e =
    let spot = both_left (nat_eq a.0.0 b.0.0 && nat_eq a.0.1 b.0.1) (same_part a.1 b.1) e in
    place_same a.0.0 a.0.1 a.1 b.0.0 b.0.1 b.1 (both_left (nat_eq a.0.0 b.0.0) (nat_eq a.0.1 b.0.1) spot) (both_right (nat_eq a.0.0 b.0.0) (nat_eq a.0.1 b.0.1) spot) (part_sound a.1 b.1 (both_right (nat_eq a.0.0 b.0.0 && nat_eq a.0.1 b.0.1) (same_part a.1 b.1) e))

pub raised : (b : Bool) (old new own : Option ℕ) (v r : ℕ) → new ≡ cond b (Some v) old → (b ≡ true → own ≡ old) → v ≡ max (unwrap_or own 0) r → unwrap_or old 0 ≤ unwrap_or new 0
raised true old new own v r e h m = grind (arith, e, h refl, m)
raised false old new own v r e h m = grind (arith, e, m)

pub covers_grow : {S T : Type 0} (old new : HashMap Place ℕ S) (ranks : HashMap (ℕ × ℕ) Rank T) (asks : List Asked) → Grows old new → CoversAll old ranks asks → CoversAll new ranks asks
covers_grow old new ranks [] g h = tt
covers_grow old new ranks (a ∷ asks) g h = (λ d f e s q p. omega (arith, h.0 d f e s q p, g ((a.file, s), q)), covers_grow old new ranks asks g h.1)

-- ---- one need

if_so_holds : (b : Bool) (w : Option Bool) (g : Bool) → if_so b w ≡ Some g → b ≡ true
if_so_holds true w g e = refl
if_so_holds false w g e = absurd (grind (arith, e))

if_so_value : (b : Bool) (w : Option Bool) (g : Bool) → if_so b w ≡ Some g → w ≡ Some g
if_so_value true w g e = e
if_so_value false w g e = absurd (grind (arith, e))

needed_way : (w : Option Bool) (s : Option Found) (y : Needed) → needed_in w s ≡ Some y → w ≡ Some y.full
needed_way None s y e = absurd (grind (arith, e))
needed_way (Some f) None y e = absurd (grind (arith, e))
needed_way (Some f) (Some d) y e = grind (arith, e)

pub needed_source_of : (w : Option Bool) (s : Option Found) (y : Needed) → needed_in w s ≡ Some y → s ≡ Some y.it
needed_source_of None s y e = absurd (grind (arith, e))
needed_source_of (Some f) None y e = absurd (grind (arith, e))
needed_source_of (Some f) (Some d) y e = grind (arith, e)

way_rank : {S : Type 0} (m : HashMap Place ℕ S) (n : ℕ) (v : Bool → ℕ) (o own : ℕ) (f : Bool) (st : Site) (g : Bool) (r : ℕ) → ((b : Bool) → HasRank m n (part_of b st) (v b)) → way_by (Some o) own f st ≡ Some g → bound_of m ((n, o), part.Always) ≤ r → bound_of m ((n, o), part.Value own) ≤ r → bound_of m ((n, o), own_part f) ≤ r → v g ≤ r
way_rank m n v o own f site.Elsewhere g r h e x y z = absurd (grind (arith, e))
way_rank m n v o own f (site.Type s) true r h e x y z = grind (arith, h true s part.Always refl, e, x)
way_rank m n v o own f (site.Type s) false r h e x y z = absurd (grind (arith, e))
way_rank m n v o own f (site.Value s column true) true r h e x y z = grind (arith, h true s part.Always refl, e, x)
way_rank m n v o own f (site.Value s column true) false r h e x y z = absurd (grind (arith, e))
way_rank m n v o own f (site.Value s column false) true r h e x y z = grind (arith, h true s (part.Value column) refl, e, y)
way_rank m n v o own f (site.Value s column false) false r h e x y z = absurd (grind (arith, e))
way_rank m n v o own true (site.Right s reach.Direct) true r h e x y z = grind (arith, h true s part.Full refl, e, z)
way_rank m n v o own true (site.Right s reach.Indirect) true r h e x y z = grind (arith, h true s part.Full refl, e, z)
way_rank m n v o own true (site.Right s reach.Length) true r h e x y z = grind (arith, h true s part.Always refl, e, x)
way_rank m n v o own true (site.Right s w) false r h e x y z = absurd (grind (arith, e))
way_rank m n v o own false (site.Right s reach.Direct) false r h e x y z = grind (arith, h false s part.Partial refl, e, z)
way_rank m n v o own false (site.Right s reach.Direct) true r h e x y z = absurd (grind (arith, e))
way_rank m n v o own false (site.Right s reach.Indirect) g r h e x y z = absurd (grind (arith, e))
way_rank m n v o own false (site.Right s reach.Length) true r h e x y z = grind (arith, h true s part.Always refl, e, x)
way_rank m n v o own false (site.Right s reach.Length) false r h e x y z = absurd (grind (arith, e))

no_way : (own : ℕ) (f : Bool) (st : Site) (g : Bool) → way_by None own f st ≡ Some g → ⊥
no_way own f site.Elsewhere g e = grind (arith, e)
no_way own f (site.Type s) g e = grind (arith, e)
no_way own f (site.Value s column alone) g e = grind (arith, e)
no_way own f (site.Right s r) g e = grind (arith, e)

within_first : (x y z r : ℕ) → (nat_le x r && nat_le y r && nat_le z r) ≡ true → x ≤ r
within_first x y z r e = grind (arith, e)

within_second : (x y z r : ℕ) → (nat_le x r && nat_le y r && nat_le z r) ≡ true → y ≤ r
within_second x y z r e = grind (arith, e)

within_third : (x y z r : ℕ) → (nat_le x r && nat_le y r && nat_le z r) ≡ true → z ≤ r
within_third x y z r e = grind (arith, e)

-- what is needed by a specification has no higher rank than what stands in its parts
within_rank : {S : Type 0} (m : HashMap Place ℕ S) (n : ℕ) (v : Bool → ℕ) (o : Option ℕ) (own : ℕ) (f : Bool) (st : Site) (g : Bool) (r : ℕ) → ((b : Bool) → HasRank m n (part_of b st) (v b)) → way_by o own f st ≡ Some g → are_within m n o own f r ≡ true → v g ≤ r
within_rank m n v None own f st g r h e w = absurd (no_way own f st g e)
within_rank m n v (Some s) own f st g r h e w =
    let place : Part → ℕ = λ p. bound_of m ((n, s), p) in
    way_rank m n v s own f st g r h e
    (within_first (place part.Always) (place (part.Value own)) (place (own_part f)) r w)
    (within_second (place part.Always) (place (part.Value own)) (place (own_part f)) r w)
    (within_third (place part.Always) (place (part.Value own)) (place (own_part f)) r w)

pub same_number : (x y : ℕ) → nat_eq x y ≡ true → x ≡ y
same_number x y e = grind (arith, e)

-- what a declaration needs has no higher rank than the one that it is within
pub needed_rank : {S T : Type 0} (m : HashMap Place ℕ S) (ranks : HashMap (ℕ × ℕ) Rank T) (a : Asked) (x y : Needed) (r : ℕ) → Covers m ranks a → is_within m x.it x.full r ≡ true → needed_by a x ≡ Some y → rank_of ranks y.it.file y.it.it.name y.full ≤ r
needed_rank m ranks a x y r covers within e =
    let there = needed_way (way_of a x) (source_of a.meaning) y e in
    let from = needed_source_of (way_of a x) (source_of a.meaning) y e in
    let mine = if_so_holds (nat_eq a.file x.it.file) (way x.it.it x.full a.it.site) y.full there in
    let goes : way x.it.it x.full a.it.site ≡ Some y.full = if_so_value (nat_eq a.file x.it.file) (way x.it.it x.full a.it.site) y.full there in
    let file : a.file ≡ x.it.file = same_number a.file x.it.file mine in
    let ranked : (b : Bool) → HasRank m x.it.file (part_of b a.it.site) (rank_of ranks y.it.file y.it.it.name b) = λ b. subst (λ n. HasRank m n (part_of b a.it.site) (rank_of ranks y.it.file y.it.it.name b)) file (covers y.it b from) in
    within_rank m x.it.file (rank_of ranks y.it.file y.it.it.name) x.it.it.source x.it.it.column x.full a.it.site y.full r ranked goes within

-- ---- all needs

abbrev pub Each : (Needed → Type 0) → List Needed → Type 0
Each P [] = Unit {0}
Each P (x ∷ xs) = P x × Each P xs

pub each_append : (P : Needed → Type 0) (xs ys : List Needed) → Each P xs → Each P ys → Each P (xs ++ ys)
each_append P [] ys h k = k
each_append P (x ∷ xs) ys h k = (h.0, each_append P xs ys h.1 k)

each_if : (P : Needed → Type 0) (b : Bool) (xs ys : List Needed) → Each P xs → Each P ys → Each P (if b then xs else ys)
each_if P true xs ys h k = h
each_if P false xs ys h k = k

each_one : (P : Needed → Type 0) (x : Needed) (xs : List Needed) → P x → Each P xs → Each P (with_one x xs)
each_one P x xs p h = each_if P (is_known x xs) xs (xs ++ x ∷ []) h (each_append P xs (x ∷ []) h (p, tt))

pub each_all : (P : Needed → Type 0) (ys xs : List Needed) → Each P ys → Each P xs → Each P (with_all ys xs)
each_all P [] xs k h = h
each_all P (y ∷ ys) xs k h = each_all P ys (with_one y xs) k.1 (each_one P y xs k.0 h)

pub each_more : (P Q : Needed → Type 0) (xs : List Needed) → ((x : Needed) → P x → Q x) → Each P xs → Each Q xs
each_more P Q [] f h = tt
each_more P Q (x ∷ xs) f h = (f x h.0, each_more P Q xs f h.1)

-- It has no higher rank than r, and needs none of a higher rank than its own.
pub record IsLow {S T : Type 0} (m : HashMap Place ℕ S) (ranks : HashMap (ℕ × ℕ) Rank T) (r : ℕ) (x : Needed) : Type 0 where
  pub low : rank_of ranks x.it.file x.it.it.name x.full ≤ r
  pub ranked : is_ranked m ranks x.it ≡ true

source_ranked : {S T : Type 0} (m : HashMap Place ℕ S) (ranks : HashMap (ℕ × ℕ) Rank T) (s : Option Found) (d : Found) → s ≡ Some d → is_source_ranked m ranks s ≡ true → is_ranked m ranks d ≡ true
source_ranked m ranks s d e h = subst (λ o. is_source_ranked m ranks o ≡ true) e h

pub needs_by : (P : Needed → Type 0) (a : Asked) (asks : List Asked) (x : Needed) (o : Option Needed) → needed_by a x ≡ o → ((y : Needed) → needed_by a x ≡ Some y → P y) → Each P (needs asks x) → Each P (needs (a ∷ asks) x)
needs_by P a asks x None e p h = subst (Each P) (sym (needs_none a asks x e)) h
needs_by P a asks x (Some y) e p h = subst (Each P) (sym (needs_some a asks x y e)) (p y e, h)

pub needs_low : {S T : Type 0} (m : HashMap Place ℕ S) (ranks : HashMap (ℕ × ℕ) Rank T) (asks : List Asked) (x : Needed) (r : ℕ) → CoversAll m ranks asks → are_ranked m ranks asks ≡ true → is_within m x.it x.full r ≡ true → Each (IsLow m ranks r) (needs asks x)
needs_low m ranks [] x r covers ranked within = tt
needs_low m ranks (a ∷ asks) x r covers ranked within =
    let own : is_source_ranked m ranks (source_of a.meaning) ≡ true = both_left (is_source_ranked m ranks (source_of a.meaning)) (are_ranked m ranks asks) ranked in
    let rest : are_ranked m ranks asks ≡ true = both_right (is_source_ranked m ranks (source_of a.meaning)) (are_ranked m ranks asks) ranked in
    needs_by (IsLow m ranks r) a asks x (needed_by a x) refl
    (λ y e. record { low = needed_rank m ranks a x y r covers.0 within e; ranked = source_ranked m ranks (source_of a.meaning) y.it (needed_source_of (way_of a x) (source_of a.meaning) y e) own })
    (needs_low m ranks asks x r covers.1 rest within)

own_within : {S T : Type 0} (m : HashMap Place ℕ S) (ranks : HashMap (ℕ × ℕ) Rank T) (d : Found) (f : Bool) → is_ranked m ranks d ≡ true → is_within m d f (rank_of ranks d.file d.it.name f) ≡ true
own_within m ranks d true e = both_left (is_within m d true (rank_of ranks d.file d.it.name true)) (is_within m d false (rank_of ranks d.file d.it.name false)) e
own_within m ranks d false e = both_right (is_within m d true (rank_of ranks d.file d.it.name true)) (is_within m d false (rank_of ranks d.file d.it.name false)) e

pub round_low : {S T : Type 0} (m : HashMap Place ℕ S) (ranks : HashMap (ℕ × ℕ) Rank T) (asks : List Asked) (xs : List Needed) (r : ℕ) → CoversAll m ranks asks → are_ranked m ranks asks ≡ true → Each (IsLow m ranks r) xs → Each (IsLow m ranks r) (needs_of asks xs)
round_low m ranks asks [] r covers ranked h = tt
round_low m ranks asks (x ∷ xs) r covers ranked h =
    let rank = rank_of ranks x.it.file x.it.it.name x.full in
    let first = needs_low m ranks asks x rank covers ranked (own_within m ranks x.it x.full h.0.ranked) in
    let below : rank ≤ r = h.0.low in
    each_append (IsLow m ranks r) (needs asks x) (needs_of asks xs)
    (each_more (IsLow m ranks rank) (IsLow m ranks r) (needs asks x) (λ y p. record { low = omega (arith, p.low, below); ranked = p.ranked }) first)
    (round_low m ranks asks xs r covers ranked h.1)

pub all_low : {S T : Type 0} (m : HashMap Place ℕ S) (ranks : HashMap (ℕ × ℕ) Rank T) (asks : List Asked) (k : ℕ) (xs : List Needed) (r : ℕ) → CoversAll m ranks asks → are_ranked m ranks asks ≡ true → Each (IsLow m ranks r) xs → Each (IsLow m ranks r) (all_needed asks k xs)
all_low m ranks asks zero xs r covers ranked h = h
all_low m ranks asks (suc k) xs r covers ranked h = all_low m ranks asks k (with_all (needs_of asks xs) xs) r covers ranked (each_all (IsLow m ranks r) (needs_of asks xs) xs (round_low m ranks asks xs r covers ranked h) h)

-- ---- none is the declaration itself

other_way : {T : Type 0} (ranks : HashMap (ℕ × ℕ) Rank T) (d : Found) (f : Bool) → rank_of ranks d.file d.it.name false ≤ rank_of ranks d.file d.it.name true → rank_of ranks d.file d.it.name false ≤ rank_of ranks d.file d.it.name f
other_way ranks d true h = h
other_way ranks d false h = omega arith

other_by : {T : Type 0} (ranks : HashMap (ℕ × ℕ) Rank T) (d : Found) (y : Needed) (b : Bool) → is_same d y.it ≡ b → 1 ≤ rank_of ranks d.file d.it.name false → rank_of ranks d.file d.it.name false ≤ rank_of ranks d.file d.it.name true → rank_of ranks y.it.file y.it.it.name y.full ≤ rank_of ranks d.file d.it.name false - 1 → is_same d y.it ≡ false
other_by ranks d y false e one h low = e
other_by ranks d y true e one h low =
    let file : d.file ≡ y.it.file = same_number d.file y.it.file (both_left (nat_eq d.file y.it.file) (nat_eq d.it.name y.it.it.name) e) in
    let name : d.it.name ≡ y.it.it.name = same_number d.it.name y.it.it.name (both_right (nat_eq d.file y.it.file) (nat_eq d.it.name y.it.it.name) e) in
    let there : rank_of ranks d.file d.it.name y.full ≡ rank_of ranks y.it.file y.it.it.name y.full = ap (λ n. rank_of ranks n d.it.name y.full) file ∙ ap (λ t. rank_of ranks y.it.file t y.full) name in
    absurd (omega (arith, other_way ranks d y.full h, there, low, one))

pub none_among : {S T : Type 0} (m : HashMap Place ℕ S) (ranks : HashMap (ℕ × ℕ) Rank T) (d : Found) (xs : List Needed) → 1 ≤ rank_of ranks d.file d.it.name false → rank_of ranks d.file d.it.name false ≤ rank_of ranks d.file d.it.name true → Each (IsLow m ranks (rank_of ranks d.file d.it.name false - 1)) xs → is_among d xs ≡ false
none_among m ranks d [] one h low = refl
none_among m ranks d (y ∷ ys) one h low = ap (λ b. b || is_among d ys) (other_by ranks d y (is_same d y.it) refl one h low.0.low) ∙ none_among m ranks d ys one h low.1

pub above_first : (x y : ℕ) (b : Bool) → (nat_le 1 x && nat_le x y && b) ≡ true → 1 ≤ x
above_first x y b e = grind (arith, e)

pub above_second : (x y : ℕ) (b : Bool) → (nat_le 1 x && nat_le x y && b) ≡ true → x ≤ y
above_second x y b e = grind (arith, e)

pub above_third : (c b : Bool) → (c && b) ≡ true → b ≡ true
above_third c b e = both_right c b e

pub not_itself : {S T : Type 0} (m : HashMap Place ℕ S) (ranks : HashMap (ℕ × ℕ) Rank T) (asks : List Asked) (k : ℕ) (d : Found) → CoversAll m ranks asks → are_ranked m ranks asks ≡ true → is_above m ranks d ≡ true → needs_itself asks k d ≡ false
not_itself m ranks asks k d covers ranked above =
    let own = rank_of ranks d.file d.it.name false in
    let full = rank_of ranks d.file d.it.name true in
    let inside = is_within m d false (own - 1) in
    let first : Needed = record { it = d; full = false } in
    let start = needs_low m ranks asks first (own - 1) covers ranked (above_third (nat_le 1 own && nat_le own full) inside above) in
    let low = IsLow m ranks (own - 1) in
    none_among m ranks d (all_needed asks k (with_all (needs asks first) [])) (above_first own full inside above) (above_second own full inside above)
    (all_low m ranks asks k (with_all (needs asks first) []) (own - 1) covers ranked (each_all low (needs asks first) [] start tt))
