-- Edits that don't overlap go from the end of each file to its start.
use Rattle.std.proofs.Common.{◌≡◌, ◌≤◌, inl, inr, Bool, true, false, cond, List, [], ◌∷◌, ◌++◌, reverse, refl, sym, subst, arith}
use Rattle.std.specs.List.{AllByRecursion}
use Rattle.std.proofs.lemmas.Bool.Decides.{nat_tests}
use Rattle.std.proofs.lemmas.List.{reverse-append}
use Rattle.go_base.specs.declared.bytes.FileText.{FileText}
use Rattle.go_base.specs.Package.{most_bytes, total_bytes}
use Rattle.edit_apply.specs.declared.edits.Edit.{Edit}
use Rattle.edit_apply.specs.Applied.{IsInRange, Descends, AreApplicable, applied}
use Rattle.extract_rewrite.specs.Apart.{AreApart, AllApart}
use Rattle.extract_rewrite.specs.Ready.{CanBeDone}
use Rattle.extract_rewrite.specs.Order.{begins_before, begin_together, put_in, put_all, by_place, from_the_end}

-- ---- what holds of each edit

all_put : (P : Edit → Type 0) (ds : List Edit) (e : Edit) → P e → AllByRecursion P ds → AllByRecursion P (put_in ds e)
all_put P [] e p h = (p, tt)
all_put P (d ∷ ds) e p h =
    elim (begin_together e d) as (λ b. AllByRecursion P (cond b (e ∷ ds) (cond (begins_before e d) (e ∷ d ∷ ds) (d ∷ put_in ds e)))) [
      | true ↦ (p, h.1)
      | false ↦ elim (begins_before e d) as (λ b. AllByRecursion P (cond b (e ∷ d ∷ ds) (d ∷ put_in ds e))) [ true ↦ (p, h) | false ↦ (h.0, all_put P ds e p h.1) ]
    ]

all_placed : (P : Edit → Type 0) (ds es : List Edit) → AllByRecursion P ds → AllByRecursion P es → AllByRecursion P (put_all ds es)
all_placed P ds [] h k = h
all_placed P ds (e ∷ es) h k = all_placed P (put_in ds e) es (all_put P ds e k.0 h) k.1

-- ---- each two

all_more : {P Q : Edit → Type 0} → ((e : Edit) → P e → Q e) → (ds : List Edit) → AllByRecursion P ds → AllByRecursion Q ds
all_more f [] h = tt
all_more f (d ∷ ds) h = (f d h.0, all_more f ds h.1)

pub turned : (e d : Edit) → AreApart e d → AreApart d e
turned e d h s = elim (h (sym s)) [ inl a ↦ inr a | inr b ↦ inl b ]

apart_put : (ds : List Edit) (e : Edit) → AllByRecursion (AreApart e) ds → AllApart ds → AllApart (put_in ds e)
apart_put [] e h k = (tt, tt)
apart_put (d ∷ ds) e h k =
    elim (begin_together e d) as (λ b. AllApart (cond b (e ∷ ds) (cond (begins_before e d) (e ∷ d ∷ ds) (d ∷ put_in ds e)))) [
      | true ↦ (h.1, k.1)
      | false ↦ elim (begins_before e d) as (λ b. AllApart (cond b (e ∷ d ∷ ds) (d ∷ put_in ds e))) [
        | true ↦ (h, k)
        | false ↦ (all_put (AreApart d) ds e (turned e d h.0) k.0, apart_put ds e h.1 k.1)
      ]
    ]

-- edits that are left, apart from those that are placed already
apart_left : (d : Edit) (es : List Edit) → AllByRecursion (AreApart d) es → AllByRecursion (λ e. AreApart e d) es
apart_left d es h = all_more (λ e a. turned d e a) es h

abbrev AllFrom : List Edit → List Edit → Type 0
AllFrom [] ds = Unit {0}
AllFrom (e ∷ es) ds = AllByRecursion (AreApart e) ds × AllFrom es ds

from_put : (es ds : List Edit) (e : Edit) → AllFrom es ds → AllByRecursion (AreApart e) es → AllFrom es (put_in ds e)
from_put [] ds e h k = tt
from_put (d ∷ es) ds e h k = (all_put (AreApart d) ds e (turned e d k.0) h.0, from_put es ds e h.1 k.1)

from_nothing : (es : List Edit) → AllFrom es []
from_nothing [] = tt
from_nothing (e ∷ es) = (tt, from_nothing es)

apart_placed : (es ds : List Edit) → AllApart ds → AllFrom es ds → AllApart es → AllApart (put_all ds es)
apart_placed [] ds h f k = h
apart_placed (e ∷ es) ds h f k = apart_placed es (put_in ds e) (apart_put ds e f.0 h) (from_put es ds e f.1 k.0) k.1

-- ---- their order

abbrev Rises : List Edit → Type 0
Rises [] = Unit {0}
Rises (d ∷ ds) = AllByRecursion (λ e. begins_before d e ≡ true) ds × Rises ds

further : (c d e : Edit) → begins_before c d ≡ true → begins_before d e ≡ true → begins_before c e ≡ true
further c d e h k = grind (arith, nat_tests)

-- an edit that begins where another one does is in front of what that is in front of
together_front : (e d x : Edit) → begin_together e d ≡ true → begins_before d x ≡ true → begins_before e x ≡ true
together_front e d x h k = grind (arith, nat_tests)

behind : (e d : Edit) → begin_together e d ≡ false → begins_before e d ≡ false → begins_before d e ≡ true
behind e d h k = grind (arith, nat_tests)

rises_by : (p q : Bool) (a b c : List Edit) → (p ≡ true → Rises b) → (q ≡ true → Rises a) → (p ≡ false → q ≡ false → Rises c) → Rises (cond p b (cond q a c))
rises_by true q a b c f g h = f refl
rises_by false true a b c f g h = g refl
rises_by false false a b c f g h = h refl refl

rises_put : (ds : List Edit) (e : Edit) → Rises ds → Rises (put_in ds e)
rises_put [] e h = (tt, tt)
rises_put (d ∷ ds) e h =
    rises_by (begin_together e d) (begins_before e d) (e ∷ d ∷ ds) (e ∷ ds) (d ∷ put_in ds e)
    (λ t. (all_more (λ x k. together_front e d x t k) ds h.0, h.1))
    (λ b. ((b, all_more (λ x k. further e d x b k) ds h.0), h))
    (λ t b. (all_put (λ x. begins_before d x ≡ true) ds e (behind e d t b) h.0, rises_put ds e h.1))

rises_placed : (es ds : List Edit) → Rises ds → Rises (put_all ds es)
rises_placed [] ds h = h
rises_placed (e ∷ es) ds h = rises_placed es (put_in ds e) (rises_put ds e h)

-- ---- from the end

-- an edit that stands behind others, in front of which it lies in its file
abbrev pub EndsBefore : Edit → Edit → Type 0
EndsBefore e d = e.file ≡ d.file → e.end ≤ d.start

abbrev pub Follow : List Edit → Type 0
Follow [] = Unit {0}
Follow (e ∷ es) = AllByRecursion (EndsBefore e) es × Follow es

never : (e d : Edit) → e.start ≤ e.end → d.start ≤ d.end → d.end ≤ e.start → e.file ≡ d.file → begins_before e d ≡ true → ⊥
never e d r q h s b = grind (arith, nat_tests)

ends_before : (e d : Edit) → e.start ≤ e.end → d.start ≤ d.end → AreApart e d → begins_before e d ≡ true → EndsBefore e d
ends_before e d r q a b s = elim (a s) [ inl h ↦ h | inr h ↦ absurd (never e d r q h s b) ]

module _ (files : List FileText) where
  before_each : (e : Edit) (ds : List Edit) → IsInRange files e → AllByRecursion (IsInRange files) ds → AllByRecursion (AreApart e) ds → AllByRecursion (λ d. begins_before e d ≡ true) ds → AllByRecursion (EndsBefore e) ds
  before_each e [] r q a b = tt
  before_each e (d ∷ ds) r q a b = (ends_before e d r.range q.0.range a.0 b.0, before_each e ds r q.1 a.1 b.1)

  follow : (ds : List Edit) → AllByRecursion (IsInRange files) ds → AllApart ds → Rises ds → Follow ds
  follow [] r a b = tt
  follow (d ∷ ds) r a b = (before_each d ds r.0 r.1 a.0 b.0, follow ds r.1 a.1 b.1)

  all_behind : (P : Edit → Type 0) (ds : List Edit) (e : Edit) → AllByRecursion P ds → P e → AllByRecursion P (ds ++ e ∷ [])
  all_behind P [] e h p = (p, tt)
  all_behind P (d ∷ ds) e h p = (h.0, all_behind P ds e h.1 p)

  all_reversed : (P : Edit → Type 0) (ds : List Edit) → AllByRecursion P ds → AllByRecursion P (reverse ds)
  all_reversed P [] h = tt
  all_reversed P (d ∷ ds) h = subst (AllByRecursion P) (sym (reverse-append (d ∷ []) ds)) (all_behind P (reverse ds) d (all_reversed P ds h.1) h.0)

  descends_behind : (ds : List Edit) (e : Edit) → Descends ds → AllByRecursion (EndsBefore e) ds → Descends (ds ++ e ∷ [])
  descends_behind [] e h k = (tt, tt)
  descends_behind (d ∷ ds) e h k = (all_behind (λ later. later.file ≡ d.file → later.end ≤ d.start) ds e h.0 k.0, descends_behind ds e h.1 k.1)

  descends : (ds : List Edit) → Follow ds → Descends (reverse ds)
  descends [] h = tt
  descends (d ∷ ds) h = subst Descends (sym (reverse-append (d ∷ []) ds)) (descends_behind (reverse ds) d (descends ds h.1) (all_reversed (EndsBefore d) ds h.0))

  pub placed_in_range : (es : List Edit) → AllByRecursion (IsInRange files) es → AllByRecursion (IsInRange files) (by_place es)
  placed_in_range es r = all_placed (IsInRange files) [] es tt r

  pub placed_follow : (es : List Edit) → AllByRecursion (IsInRange files) es → AllApart es → Follow (by_place es)
  placed_follow es r a = follow (by_place es) (placed_in_range es r) (apart_placed es [] tt (from_nothing es) a) (rises_placed es [] tt)

  pub can_be_done : (es : List Edit) → AllByRecursion (IsInRange files) es → AllApart es → CanBeDone files (from_the_end es)
  can_be_done es r a = record { ranges = all_reversed (IsInRange files) (by_place es) (placed_in_range es r); descends = descends (by_place es) (placed_follow es r a) }

  pub edits_apply : (es : List Edit) → AllByRecursion (IsInRange files) es → AllApart es → total_bytes (applied files (from_the_end es)) ≤ most_bytes → AreApplicable files (from_the_end es)
  edits_apply es r a small = let done = can_be_done es r a in record { ranges = done.ranges; descends = done.descends; small = small }
