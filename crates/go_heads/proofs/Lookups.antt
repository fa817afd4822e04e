-- The names that are looked up outside of bodies are the same in packages with equal heads, with their objects.
use Rattle.std.proofs.Common.{◌≡◌, ◌∙◌, ℕ, zero, suc, ◌+◌, ◌-◌, ◌<◌, ◌≤◌, ◌⊎◌, inl, inr, Bool, true, false, List, [], ◌∷◌, map, length, Option, Some, refl, sym, ap, subst, arith}
use Rattle.std.specs.Prelude.{if◌then◌else◌, ◌&&◌, not, nat_eq, slice_get}
use Rattle.std.proofs.lemmas.Bool.Decides.{nat_tests}
use Rattle.go_tokens.specs.declared.token.Token.{Token}
use Rattle.go_tokens.specs.Tokens.{TokenList, kinds}
use Rattle.go_grammar.specs.declared.kind.Category.TheVariants as category
use Rattle.go_grammar.specs.Trees.{last, parts}
use Rattle.go_tree.specs.declared.event.Event.{Event}
use Rattle.go_tree.specs.declared.event.Event.TheVariants as event
use Rattle.go_tree.specs.declared.object.Object.{Object}
use Rattle.go_tree.specs.Contexts.{is_package, file_context}
use Rattle.go_tree.specs.Meanings.{Meaning, meanings}
use Rattle.go_tree.specs.Objects.{object_at, own_object, token_object, token_objects, objects_from}
use Rattle.go_tree.specs.Units.{word}
use Rattle.go_tree.specs.Uses.{uses, object_there, object_in, object_of}
use Rattle.go_scopes_events.specs.Orders.{AreInOrder}
use Rattle.go_scopes_events.proofs.Public.{derives_laid, events_order}
use Rattle.go_heads.specs.Functions.{AreRead}
use Rattle.go_heads.specs.Heads.{File, IsRead, head_of, heads, in_bodies, place_outside}
use Rattle.go_heads.proofs.Counting.{place_next, place_order}
use Rattle.go_heads.proofs.Files.{first_same, others_same, some_not_none}
use Rattle.go_heads.proofs.Functions.{same_some, some_none}
use Rattle.go_heads.specs.Objects.{units_of, file_there, file_in}
use Rattle.go_heads.specs.Told.{Told, declares, asks, new_name, asked_name, told, placed, file_events, told_outside}
use Rattle.go_heads.specs.Lookups.{HasUse, IsLookedUp, AtOnePlace, KeepsLookups}
use Rattle.go_heads.specs.Meanings.{meant_at}
use Rattle.go_heads.proofs.Meanings.{meanings_kept}

-- ---- the object of a name that is looked up

order_grows : (i j : ℕ) (es : List Event) → AreInOrder i j es → i ≤ j
order_grows i j [] o = o
order_grows i j (event.Declaration d ∷ es) o = omega (arith, o.0, order_grows (suc d.name) j es o.1)
order_grows i j (event.Use u ∷ es) o = omega (arith, o.0, order_grows (suc u.name) j es o.1)
order_grows i j (e ∷ es) o = order_grows i j es o

used_within : (i j t : ℕ) (es : List Event) → AreInOrder i j es → HasUse t es → (i ≤ t) × (t < j)
used_within i j t [] o h = absurd h
used_within i j t (event.Declaration d ∷ es) o h = let g = used_within (suc d.name) j t es o.1 h in (omega (arith, o.0, g.0), g.1)
used_within i j t (event.Use u ∷ es) o (inl e) = (omega (arith, o.0, e), omega (arith, order_grows (suc u.name) j es o.1, e))
used_within i j t (event.Use u ∷ es) o (inr h) = let g = used_within (suc u.name) j t es o.1 h in (omega (arith, o.0, g.0), g.1)
used_within i j t (e ∷ es) o h = used_within i j t es o h

less_other : (a b : ℕ) → a < b → nat_eq a b ≡ false
less_other a b lt = grind (arith, nat_tests)

same_equal : (a b : ℕ) → a ≡ b → nat_eq a b ≡ true
same_equal a b e = grind (arith, nat_tests)

either_way : (b : Bool) (x y : Option Object) → y ≡ x → (if b then x else y) ≡ x
either_way true x y e = refl
either_way false x y e = e

module _ (ms : List Meaning) (n : ℕ) (ts : TokenList) where
  used_object : (i j t : ℕ) (es : List Event) → AreInOrder i j es → HasUse t es → token_object ms n ts t es ≡ object_at ms n t (word ts t)
  used_object i j t [] o h = absurd h
  used_object i j t (event.Declaration d ∷ es) o h =
      let g = used_within (suc d.name) j t es o.1 h in
      ap (λ b. if b then own_object n t (word ts t) ms ms else token_object ms n ts t es) (less_other d.name t (omega (arith, g.0)))
      ∙ used_object (suc d.name) j t es o.1 h
  used_object i j t (event.Use u ∷ es) o (inl e) = ap (λ b. if b then object_at ms n t (word ts t) else token_object ms n ts t es) (same_equal u.name t e)
  used_object i j t (event.Use u ∷ es) o (inr h) = either_way (nat_eq u.name t) (object_at ms n t (word ts t)) (token_object ms n ts t es) (used_object (suc u.name) j t es o.1 h)
  used_object i j t (e ∷ es) o h = used_object i j t es o h

  token_at : (es : List Event) (t k i : ℕ) → i < k → slice_get (token_objects ms n ts es t k) i ≡ Some (token_object ms n ts (t + i) es)
  token_at es t zero i lt = absurd (omega (arith, lt))
  token_at es t (suc k) zero lt = let z : t ≡ t + 0 = omega arith in ap (λ x. Some (token_object ms n ts x es)) z
  token_at es t (suc k) (suc i) lt = let z : suc t + i ≡ t + suc i = omega arith in token_at es (suc t) k i (omega (arith, lt)) ∙ ap (λ x. Some (token_object ms n ts x es)) z

file_objects : (ms : List Meaning) (k : ℕ) (fs : List File) (n : ℕ) (f : File) → slice_get fs n ≡ Some f
    → slice_get (objects_from ms k (units_of fs)) n ≡ Some (token_objects ms (k + n) f.tokens (file_events f) 0 (length f.tokens.tokens))
file_objects ms k [] n f e = absurd (some_none f (sym e))
file_objects ms k (g ∷ fs) zero f e =
    let z : k ≡ k + 0 = omega arith in
    ap (λ (x : File). Some (token_objects ms k x.tokens (file_events x) 0 (length x.tokens.tokens))) (same_some g f e)
    ∙ ap (λ i. Some (token_objects ms i f.tokens (file_events f) 0 (length f.tokens.tokens))) z
file_objects ms k (g ∷ fs) (suc n) f e =
    let z : suc k + n ≡ k + suc n = omega arith in
    file_objects ms (suc k) fs n f e ∙ ap (λ i. Some (token_objects ms i f.tokens (file_events f) 0 (length f.tokens.tokens))) z

pub count_kinds : (ts : List Token) → length (kinds ts) ≡ length ts
count_kinds [] = refl
count_kinds (t ∷ ts) = ap suc (count_kinds ts)

file_order : (f : File) → IsRead f → AreInOrder 0 (last f.tree) (file_events f)
file_order f h = subst (λ i. AreInOrder i (last f.tree) (file_events f)) h.tree.begins (events_order (file_context (last f.tree)) f.tree (derives_laid (kinds f.tokens.tokens) f.tree category.File h.tree.derives))

pub read_at : (fs : List File) → AreRead fs → (n : ℕ) (f : File) → slice_get fs n ≡ Some f → IsRead f
read_at [] h n f e = absurd (some_none f (sym e))
read_at (g ∷ fs) h zero f e = subst IsRead (same_some g f e) h.0
read_at (g ∷ fs) h (suc n) f e = read_at fs h.1 n f e

-- the object of a token by what its file tells
pub token_told : (fs : List File) (n t : ℕ) (f : File) → slice_get fs n ≡ Some f → t < length f.tokens.tokens → object_of (uses (units_of fs)) n t ≡ token_object (meanings (units_of fs)) n f.tokens t (file_events f)
token_told fs n t f there some =
    let ms : List Meaning = meanings (units_of fs) in
    let z : 0 + n ≡ n = omega arith in
    let y : 0 + t ≡ t = omega arith in
    ap (λ o. object_in o t) (file_objects ms 0 fs n f there ∙ ap (λ i. Some (token_objects ms i f.tokens (file_events f) 0 (length f.tokens.tokens))) z)
    ∙ ap object_there (token_at ms n f.tokens (file_events f) 0 (length f.tokens.tokens) t some ∙ ap (λ i. Some (token_object ms n f.tokens i (file_events f))) y)

object_meant : (fs : List File) → AreRead fs → (n t : ℕ) (f : File) → slice_get fs n ≡ Some f → IsLookedUp fs n t → object_of (uses (units_of fs)) n t ≡ meant_at fs n t
object_meant fs h n t f there used =
    let ms : List Meaning = meanings (units_of fs) in
    let read : IsRead f = read_at fs h n f there in
    let here : file_in fs n ≡ f = ap file_there there in
    let own : HasUse t (file_events f) = subst (λ g. HasUse t (file_events g)) here used in
    let order : AreInOrder 0 (last f.tree) (file_events f) = file_order f read in
    let some : t < length f.tokens.tokens = omega (arith, (used_within 0 (last f.tree) t (file_events f) order own).1, read.tree.ends, count_kinds f.tokens.tokens) in
    token_told fs n t f there some
    ∙ used_object ms n f.tokens 0 (last f.tree) t (file_events f) order own
    ∙ ap (λ (g : File). object_at ms n t (word g.tokens t)) (sym here)

-- ---- names that are looked up in both

abbrev HasAsk : ℕ → List Told → Type 0
HasAsk t [] = ⊥
HasAsk t (asks x ∷ xs) = (x.name ≡ t) ⊎ HasAsk t xs
HasAsk t (declares x ∷ xs) = HasAsk t xs

module _ (p : ℕ → Bool) where
  abbrev m : ℕ → ℕ
  m = place_outside p

  abbrev asked_in : List Event → List Told
  asked_in es = map (placed m) (told p es)

  declared_aside : (k : ℕ) (b : Bool) (x : Told) (xs : List Told) → ((ys : List Told) → HasAsk k (map (placed m) ys) → HasAsk k (map (placed m) (x ∷ ys))) → HasAsk k (map (placed m) xs) → HasAsk k (map (placed m) (if b then x ∷ xs else xs))
  declared_aside k true x xs f h = f xs h
  declared_aside k false x xs f h = h

  used_told : (t : ℕ) (es : List Event) → p t ≡ false → HasUse t es → HasAsk (m t) (asked_in es)
  used_told t [] e h = absurd h
  used_told t (event.Declaration d ∷ es) e h = declared_aside (m t) (is_package d.block && not (p d.name)) (declares (new_name d)) (told p es) (λ ys g. g) (used_told t es e h)
  used_told t (event.Use u ∷ es) e (inl same) =
      subst (λ b. HasAsk (m t) (map (placed m) (if b then told p es else asks (asked_name u) ∷ told p es))) (sym (ap p same ∙ e)) (inl (ap m same))
  used_told t (event.Use u ∷ es) e (inr h) = by (p u.name) (used_told t es e h)
    where
      by : (b : Bool) → HasAsk (m t) (asked_in es) → HasAsk (m t) (map (placed m) (if b then told p es else asks (asked_name u) ∷ told p es))
      by true g = g
      by false g = inr g
  used_told t (x ∷ es) e h = used_told t es e h

  -- a token outside that is looked up and has this place
  pub record Found (k : ℕ) (es : List Event) : Type 0 where
    pub token : ℕ
    pub used : HasUse token es
    pub outside : p token ≡ false
    pub place : m token ≡ k

  told_used : (k : ℕ) (es : List Event) → HasAsk k (asked_in es) → Found k es
  told_used k [] h = absurd h
  told_used k (event.Declaration d ∷ es) h = later (by (is_package d.block && not (p d.name)) (told_used k es) h)
    where
      later : Found k es → Found k (event.Declaration d ∷ es)
      later f = record { token = f.token; used = f.used; outside = f.outside; place = f.place }

      by : (b : Bool) → (HasAsk k (asked_in es) → Found k es) → HasAsk k (map (placed m) (if b then declares (new_name d) ∷ told p es else told p es)) → Found k es
      by true go g = go g
      by false go g = go g
  told_used k (event.Use u ∷ es) h = by (p u.name) refl (told_used k es) h
    where
      later : Found k es → Found k (event.Use u ∷ es)
      later f = record { token = f.token; used = inr f.used; outside = f.outside; place = f.place }

      by : (b : Bool) → p u.name ≡ b → (HasAsk k (asked_in es) → Found k es) → HasAsk k (map (placed m) (if b then told p es else asks (asked_name u) ∷ told p es)) → Found k (event.Use u ∷ es)
      by true e go g = later (go g)
      by false e go (inl same) = record { token = u.name; used = inl refl; outside = e; place = same }
      by false e go (inr g) = later (go g)
  told_used k (e ∷ es) h = let f = told_used k es h in record { token = f.token; used = f.used; outside = f.outside; place = f.place }

  less_place : (a b : ℕ) → p a ≡ false → a < b → m a < m b
  less_place a b e lt = let z : suc a + (b - suc a) ≡ b = omega (arith, lt) in omega (arith, place_next p a e, place_order p (suc a) (b - suc a), ap m z)

  one_token : (a b : ℕ) → p a ≡ false → p b ≡ false → m a ≡ m b → a ≡ b
  one_token a b e f same = by (order a b)
    where
      order : (a b : ℕ) → (a < b) ⊎ (b < a) ⊎ (a ≡ b)
      order a b = grind arith

      by : (a < b) ⊎ (b < a) ⊎ (a ≡ b) → a ≡ b
      by (inl lt) = absurd (omega (arith, less_place a b e lt, same))
      by (inr (inl lt)) = absurd (omega (arith, less_place b a f lt, same))
      by (inr (inr q)) = q

-- the file of a name that is looked up
pub record There (fs : List File) (n : ℕ) : Type 0 where
  pub file : File
  pub there : slice_get fs n ≡ Some file

looked_there : (fs : List File) (n t : ℕ) → IsLookedUp fs n t → There fs n
looked_there [] n t h = absurd h
looked_there (f ∷ fs) zero t h = record { file = f; there = refl }
looked_there (f ∷ fs) (suc n) t h = let x = looked_there fs n t h in record { file = x.file; there = x.there }

pub record Both (f : File) (new : List File) (n : ℕ) : Type 0 where
  pub file : File
  pub there : slice_get new n ≡ Some file
  pub same : head_of f ≡ head_of file

both_there : (old new : List File) → heads old ≡ heads new → (n : ℕ) (f : File) → slice_get old n ≡ Some f → Both f new n
both_there [] new e n f s = absurd (some_none f (sym s))
both_there (a ∷ xs) [] e n f s = absurd (some_not_none (head_of a) (heads xs) e)
both_there (a ∷ xs) (b ∷ bs) e zero f s = record { file = b; there = refl; same = ap head_of (sym (same_some a f s)) ∙ first_same (head_of a) (head_of b) (heads xs) (heads bs) e }
both_there (a ∷ xs) (b ∷ bs) e (suc n) f s = let x = both_there xs bs (others_same (head_of a) (head_of b) (heads xs) (heads bs) e) n f s in record { file = x.file; there = x.there; same = x.same }

abbrev TellTheSame : Type 0
TellTheSame = (a b : File) → IsRead a → IsRead b → head_of a ≡ head_of b → told_outside b ≡ told_outside a

module _ (tell_same : TellTheSame) (old new : List File) (h : AreRead old) (k : AreRead new) (e : heads old ≡ heads new) where
  looked_up : (n t u : ℕ) → AtOnePlace old new n t u → IsLookedUp old n t → IsLookedUp new n u
  looked_up n t u at used =
      let f = looked_there old n t used in
      let g = both_there old new e n f.file f.there in
      let in_old : file_in old n ≡ f.file = ap file_there f.there in
      let in_new : file_in new n ≡ g.file = ap file_there g.there in
      let p : ℕ → Bool = in_bodies (parts f.file.tree) in
      let q : ℕ → Bool = in_bodies (parts g.file.tree) in
      let out : p t ≡ false = sym (ap (λ (x : File). in_bodies (parts x.tree) t) in_old) ∙ at.before in
      let off : q u ≡ false = sym (ap (λ (x : File). in_bodies (parts x.tree) u) in_new) ∙ at.after in
      let place : place_outside q u ≡ place_outside p t =
      sym (ap (λ (x : File). place_outside (in_bodies (parts x.tree)) u) in_new) ∙ at.place ∙ ap (λ (x : File). place_outside (in_bodies (parts x.tree)) t) in_old in
      let own : HasUse t (file_events f.file) = subst (λ x. HasUse t (file_events x)) in_old used in
      let asked : HasAsk (place_outside p t) (told_outside f.file) = used_told p t (file_events f.file) out own in
      let again : HasAsk (place_outside p t) (told_outside g.file) =
      subst (HasAsk (place_outside p t)) (sym (tell_same f.file g.file (read_at old h n f.file f.there) (read_at new k n g.file g.there) g.same)) asked in
      let found : Found q (place_outside p t) (file_events g.file) = told_used q (place_outside p t) (file_events g.file) again in
      let one : found.token ≡ u = one_token q found.token u found.outside off (found.place ∙ sym place) in
      subst (λ x. HasUse u (file_events x)) (sym in_new) (subst (λ x. HasUse x (file_events g.file)) one found.used)

  pub lookups_kept : KeepsLookups old new
  lookups_kept = record {
    names = looked_up;
    objects =
        λ n t u at used.
        let f = looked_there old n t used in
        let g = both_there old new e n f.file f.there in
        object_meant new k n u g.file g.there (looked_up n t u at used)
        ∙ (meanings_kept old new h k e).meaning n t u at.before at.after at.place
        ∙ sym (object_meant old h n t f.file f.there used);
  }
