-- What a stack of blocks says, as blocks and names come and go.
use Rattle.std.proofs.Common.{◌≡◌, ℕ, zero, suc, ◌<◌, ◌≤◌, inl, inr, Bool, true, false, ◌&&◌, if◌then◌else◌, nat_eq, nat_lt, List, [], ◌∷◌, ◌++◌, Option, Some, None, refl, sym, ap, ◌∙◌, arith, length, take, cond, slice_set, slice_index_or}
use Rattle.std.proofs.lemmas.Bool.Decides.{nat_tests}
use Rattle.std.specs.Option.{option_map}
use Rattle.std.specs.Borrow.{Bor}
use Rattle.std.specs.Prelude.{nat_le, slice_get}
use Rattle.std.specs.Cmp.{IsEquivalence, nat_eq_equiv, on_equiv}
use Rattle.std.specs.Cmp.Lexicographic.{pointwise, lists_equiv}
use Rattle.std.specs.HashMap.Eq.{lookup_congr}
use Rattle.indexmap.specs.IndexMap.{get}
use Rattle.go_tokens.specs.Spellings.{same_text}
use Rattle.go_tree.specs.declared.context.Scope.{Scope}
use Rattle.go_tree.specs.Extents.{covers, lies_inside}
use Rattle.go_tree.specs.Meanings.{Meaning}
use Rattle.go_scopes_events.specs.Scopes.{is_local, inner, over, otherwise, scope_of}
use Rattle.go_scopes_lookup.specs.declared.scopes.Block.{Block}
use Rattle.go_scopes_lookup.specs.declared.meaning.Meaning as own
use Rattle.go_tree.specs.declared.object.Extent.{Extent}
use Rattle.go_tree.specs.declared.object.Extent.TheVariants as extent
use Rattle.go_scopes_lookup.specs.Views.{meaning_view}
use Rattle.go_scopes_lookup.specs.Stacks.{same_name, said_in, said_by, said, with_one, ended_by, EachEnd, Parts, ArePartedBy, AreParted}

pub one_text : (a b : List ℕ) → pointwise nat_eq a b ≡ same_text a b
one_text [] [] = refl
one_text [] (y ∷ b) = refl
one_text (x ∷ a) [] = refl
one_text (x ∷ a) (y ∷ b) = ap (λ c. nat_eq x y && c) (one_text a b)

-- one more block inside the others
pub said_append : (bs : List Block) (b : Block) (t : ℕ) (w : Bor (List ℕ)) (o : Option Meaning) → said_by (bs ++ b ∷ []) t w o ≡ otherwise (said_in b t w) (said_by bs t w o)
said_append [] b t w o = refl
said_append (x ∷ bs) b t w o = said_append bs b t w (otherwise (said_in x t w) o)

pub with_otherwise : (c : Bool) (m : Meaning) (x y : Option Meaning) → otherwise (if c then Some m else x) y ≡ (if c then Some m else otherwise x y)
with_otherwise true m x y = refl
with_otherwise false m x y = refl

-- a name in a block, where the block's table changes so
pub block_step : (c k l : Bool) (m : own.Meaning) (x y : Option own.Meaning) → k ≡ l → y ≡ cond k (Some m) x → (if c then option_map meaning_view y else None) ≡ (if c && l then Some (meaning_view m) else (if c then option_map meaning_view x else None))
block_step true true true m x y e f = ap (option_map meaning_view) f
block_step true false false m x y e f = ap (option_map meaning_view) f
block_step true true false m x y e f = cc
block_step true false true m x y e f = cc
block_step false k l m x y e f = refl

-- the innermost block replaced by one with one more name
pub said_set : (e : ℕ) (m : Meaning) (t : ℕ) (w : Bor (List ℕ)) (bs : List Block) (i : ℕ) (d x : Block) (o : Option Meaning) → suc i ≡ length bs → slice_index_or bs i d ≡ d → said_in x t w ≡ with_one e m t w (said_in d t w) → said_by (slice_set bs i x) t w o ≡ with_one e m t w (said_by bs t w o)
said_set e m t w [] i d x o l g h = absurd (omega arith)
said_set e m t w (b ∷ []) zero d x o l g h =
    ap (λ y. otherwise y o) (h ∙ ap (λ z. with_one e m t w (said_in z t w)) (sym g))
    ∙ with_otherwise (nat_lt t e && same_text m.name w.now) m (said_in b t w) o
said_set e m t w (b ∷ c ∷ bs) zero d x o l g h = absurd (omega arith)
said_set e m t w (b ∷ []) (suc i) d x o l g h = absurd (omega arith)
said_set e m t w (b ∷ c ∷ bs) (suc i) d x o l g h = said_set e m t w (c ∷ bs) i d x (otherwise (said_in b t w) o) (omega (arith, l)) g h

-- what holds of the ends of blocks
pub ends_append : (Q : ℕ → Type 0) (bs : List Block) (b : Block) → EachEnd Q bs → Q b.end → EachEnd Q (bs ++ b ∷ [])
ends_append Q [] b h q = (q, tt)
ends_append Q (x ∷ bs) b h q = (h.0, ends_append Q bs b h.1 q)

pub ends_set : (Q : ℕ → Type 0) (bs : List Block) (i : ℕ) (x : Block) → EachEnd Q bs → Q x.end → EachEnd Q (slice_set bs i x)
ends_set Q [] i x h q = tt
ends_set Q (b ∷ bs) zero x h q = (q, h.1)
ends_set Q (b ∷ bs) (suc i) x h q = (h.0, ends_set Q bs i x h.1 q)

ends_more : (Q R : ℕ → Type 0) (bs : List Block) → ((e : ℕ) → Q e → R e) → EachEnd Q bs → EachEnd R bs
ends_more Q R [] f h = tt
ends_more Q R (b ∷ bs) f h = (f b.end h.0, ends_more Q R bs f h.1)

-- While no block ends, they say the same.
same_in : (b : Block) (t u : ℕ) (w : Bor (List ℕ)) → (t < b.end → u < b.end) → t ≤ u → said_in b u w ≡ said_in b t w
same_in b t u w f le = grind (arith, nat_tests, f)

same_on : (s : Scope) (t u : ℕ) (w : Bor (List ℕ)) (bs : List Block) (o : Option Meaning) → s.from ≤ t → t ≤ u → u < s.to → EachEnd (λ e. Parts e s) bs → said_by bs u w o ≡ said_by bs t w o
same_on s t u w [] o a b c h = refl
same_on s t u w (x ∷ bs) o a b c h =
    ap (λ y. said_by bs u w (otherwise y o)) (same_in x t u w (by h.0) b)
    ∙ same_on s t u w bs (otherwise (said_in x t w) o) a b c h.1
  where
    by : Parts x.end s → t < x.end → u < x.end
    by (inl p) q = absurd (omega (arith, p, q, a))
    by (inr p) q = omega (arith, p, c)

pub parted_head : (bs : List Block) (m : Meaning) (ms : List Meaning) → AreParted bs (m ∷ ms) → EachEnd (λ e. Parts e (scope_of m.extent)) bs
parted_head bs m ms h = ends_more (ArePartedBy (m ∷ ms)) (λ e. Parts e (scope_of m.extent)) bs (λ e p. p.0) h

pub parted_tail : (bs : List Block) (m : Meaning) (ms : List Meaning) → AreParted bs (m ∷ ms) → AreParted bs ms
parted_tail bs m ms h = ends_more (ArePartedBy (m ∷ ms)) (ArePartedBy ms) bs (λ e p. p.1) h

covers_now : (n t : ℕ) (e : Extent) → is_local n e ≡ true → (scope_of e).from ≤ t → covers e n t ≡ nat_lt t (scope_of e).to
covers_now n t (extent.Between m s) l a = grind (arith, nat_tests)
covers_now n t extent.Everywhere l a = cc
covers_now n t (extent.Throughout m) l a = cc

and_swap : (a b : Bool) → (a && b) ≡ (b && a)
and_swap true true = refl
and_swap true false = refl
and_swap false true = refl
and_swap false false = refl

-- A local whose scope has begun lies over what the blocks said when it began, as long as it lasts.
pub over_begun : (n t u : ℕ) (w : Bor (List ℕ)) (m : Meaning) (bs : List Block) → is_local n m.extent ≡ true → (scope_of m.extent).from ≤ t → t ≤ u → EachEnd (λ e. Parts e (scope_of m.extent)) bs → over n u w.now (said bs u w) m ≡ (if nat_lt u (scope_of m.extent).to && same_text m.name w.now then inner (said bs t w) m else said bs u w)
over_begun n t u w m bs l a b h =
    ap (λ c. if same_text m.name w.now && c then inner (said bs u w) m else said bs u w) (covers_now n u m.extent l (omega (arith, a, b)))
    ∙ by (nat_lt u (scope_of m.extent).to) (same_text m.name w.now) (λ e. same_on (scope_of m.extent) t u w bs None a b (grind (arith, nat_tests, e)) h)
  where
    by : (c d : Bool) → (c ≡ true → said bs u w ≡ said bs t w) → (if d && c then inner (said bs u w) m else said bs u w) ≡ (if c && d then inner (said bs t w) m else said bs u w)
    by true true f = ap (λ o. inner o m) (f refl)
    by true false f = refl
    by false true f = refl
    by false false f = refl

-- One whose name already has a meaning of the same extent changes nothing.
pub over_kept : (n t u : ℕ) (w : Bor (List ℕ)) (m x : Meaning) (bs : List Block) → is_local n m.extent ≡ true → (scope_of m.extent).from ≤ t → t ≤ u → EachEnd (λ e. Parts e (scope_of m.extent)) bs → (same_text m.name w.now ≡ true → said bs t w ≡ Some x) → lies_inside x.extent m.extent ≡ true → said bs u w ≡ over n u w.now (said bs u w) m
over_kept n t u w m x bs l a b h f i =
    by (nat_lt u (scope_of m.extent).to) (same_text m.name w.now) f (λ e. same_on (scope_of m.extent) t u w bs None a b (grind (arith, nat_tests, e)) h)
    ∙ sym (over_begun n t u w m bs l a b h)
  where
    by : (c d : Bool) → (d ≡ true → said bs t w ≡ Some x) → (c ≡ true → said bs u w ≡ said bs t w) → said bs u w ≡ (if c && d then inner (said bs t w) m else said bs u w)
    by true true g k = k refl ∙ g refl ∙ sym (ap (λ o. inner o m) (g refl) ∙ ap (λ c. if c then Some x else Some m) i)
    by true false g k = refl
    by false true g k = refl
    by false false g k = refl

-- Else it counts, as long as it lasts.
pub over_put : (n t u : ℕ) (w : Bor (List ℕ)) (m : Meaning) (o : Option Meaning) (bs : List Block) → is_local n m.extent ≡ true → (scope_of m.extent).from ≤ t → t ≤ u → EachEnd (λ e. Parts e (scope_of m.extent)) bs → (same_text m.name w.now ≡ true → said bs t w ≡ o) → inner o m ≡ Some m → with_one (scope_of m.extent).to m u w (said bs u w) ≡ over n u w.now (said bs u w) m
over_put n t u w m o bs l a b h f i = by (nat_lt u (scope_of m.extent).to) (same_text m.name w.now) f ∙ sym (over_begun n t u w m bs l a b h)
  where
    by : (c d : Bool) → (d ≡ true → said bs t w ≡ o) → (if c && d then Some m else said bs u w) ≡ (if c && d then inner (said bs t w) m else said bs u w)
    by true true g = sym (ap (λ o. inner o m) (g refl) ∙ i)
    by true false g = refl
    by false true g = refl
    by false false g = refl

name_laws : IsEquivalence same_name
name_laws = on_equiv (λ k. k.now) (lists_equiv nat_eq_equiv)

pub alike : (v w : Bor (List ℕ)) → v.now ≡ w.now → same_name v w ≡ true
alike v w e = ap (λ x. pointwise nat_eq v.now x) (sym e) ∙ name_laws.refl v

-- equal names have the same meaning
pub said_alike : (bs : List Block) (t : ℕ) (v w : Bor (List ℕ)) (o : Option Meaning) → same_name v w ≡ true → said_by bs t v o ≡ said_by bs t w o
said_alike [] t v w o e = refl
said_alike (b ∷ bs) t v w o e =
    ap (λ y. said_by bs t v (otherwise (if nat_lt t b.end then option_map meaning_view y else None) o)) (lookup_congr same_name name_laws.congr b.names.entries v w e)
    ∙ said_alike bs t v w (otherwise (said_in b t w) o) e

-- the innermost block apart from the others
pub said_last : (t : ℕ) (w : Bor (List ℕ)) (bs : List Block) (i : ℕ) (d : Block) (o : Option Meaning) → suc i ≡ length bs → d ≡ slice_index_or bs i d → said_by bs t w o ≡ otherwise (said_in d t w) (said_by (take i bs) t w o)
said_last t w [] i d o l e = absurd (omega (arith, l))
said_last t w (b ∷ []) zero d o l e = ap (λ y. otherwise (said_in y t w) o) (sym e)
said_last t w (b ∷ c ∷ bs) zero d o l e = absurd (omega (arith, l))
said_last t w (b ∷ []) (suc i) d o l e = absurd (omega (arith, l))
said_last t w (b ∷ c ∷ bs) (suc i) d o l e = said_last t w (c ∷ bs) i d (otherwise (said_in b t w) o) (omega (arith, l)) e

ended_in : (b : Block) (t u : ℕ) (w : Bor (List ℕ)) → nat_le b.end t ≡ true → t ≤ u → said_in b u w ≡ None
ended_in b t u w e le = ap (λ c. if c then option_map meaning_view (get same_name b.names w) else None) no
  where
    no : nat_lt u b.end ≡ false
    no = grind (arith, nat_tests, e, le)

-- without a block that has ended
pub said_left : (t u : ℕ) (w : Bor (List ℕ)) (bs : List Block) (i : ℕ) (o : Option Meaning) → suc i ≡ length bs → ended_by t (slice_get bs i) ≡ true → t ≤ u → said_by (take i bs) u w o ≡ said_by bs u w o
said_left t u w [] i o l e le = absurd (omega (arith, l))
said_left t u w (b ∷ []) zero o l e le = ap (λ y. otherwise y o) (sym (ended_in b t u w e le))
said_left t u w (b ∷ c ∷ bs) zero o l e le = absurd (omega (arith, l))
said_left t u w (b ∷ []) (suc i) o l e le = absurd (omega (arith, l))
said_left t u w (b ∷ c ∷ bs) (suc i) o l e le = said_left t u w (c ∷ bs) i (otherwise (said_in b u w) o) (omega (arith, l)) e le

pub ends_take : (Q : ℕ → Type 0) (bs : List Block) (k : ℕ) → EachEnd Q bs → EachEnd Q (take k bs)
ends_take Q [] zero h = tt
ends_take Q [] (suc k) h = tt
ends_take Q (b ∷ bs) zero h = tt
ends_take Q (b ∷ bs) (suc k) h = (h.0, ends_take Q bs k h.1)

pub ended_there : (t : ℕ) (bs : List Block) (i : ℕ) → ended_by t (slice_get bs i) ≡ true → 0 < length bs
ended_there t [] zero e = cc
ended_there t [] (suc i) e = cc
ended_there t (b ∷ bs) i e = omega arith

-- a new block says nothing
pub said_empty : (b : Block) (t : ℕ) (w : Bor (List ℕ)) → get same_name b.names w ≡ None → said_in b t w ≡ None
said_empty b t w e = ap (λ o. if nat_lt t b.end then option_map meaning_view o else None) e ∙ by (nat_lt t b.end)
  where
    by : (c : Bool) → (if c then (option_map meaning_view None) else None) ≡ None
    by true = refl
    by false = refl
