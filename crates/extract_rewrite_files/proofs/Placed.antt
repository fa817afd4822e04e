-- Edits by their places: in order, and each but those that begin where a later one does.
use Rattle.std.proofs.Common.{◌≡◌, ◌∙◌, ◌≤◌, ◌⊎◌, inl, inr, Bool, true, false, cond, List, [], ◌∷◌, ◌++◌, append-nil, append_assoc, reverse, refl, sym, ap, subst, arith}
use Rattle.std.specs.List.{AllByRecursion}
use Rattle.std.proofs.lemmas.Bool.Decides.{nat_tests}
use Rattle.std.proofs.lemmas.List.{reverse-append}
use Rattle.edit_apply.specs.declared.edits.Edit.{Edit}
use Rattle.edit_apply.specs.Applied.{Descends}
use Rattle.extract_rewrite.specs.Apart.{AreApart, AllApart}
use Rattle.extract_rewrite.specs.Order.{begins_before, begin_together, put_in, put_all, by_place}
use Rattle.extract_rewrite_files.specs.NewFiles.{IsOneOf}
use Rattle.extract_rewrite_files.proofs.Splits.{all_to}

-- ---- what holds of each edit

all_put : (P : Edit → Type 0) (ds : List Edit) (e : Edit) → P e → AllByRecursion P ds → AllByRecursion P (put_in ds e)
all_put P [] e p h = (p, tt)
all_put P (d ∷ ds) e p h =
    elim (begin_together e d) as (λ b. AllByRecursion P (cond b (e ∷ ds) (cond (begins_before e d) (e ∷ d ∷ ds) (d ∷ put_in ds e)))) [
      | true ↦ (p, h.1)
      | false ↦ elim (begins_before e d) as (λ b. AllByRecursion P (cond b (e ∷ d ∷ ds) (d ∷ put_in ds e))) [ true ↦ (p, h) | false ↦ (h.0, all_put P ds e p h.1) ]
    ]

pub all_placed : (P : Edit → Type 0) (ds es : List Edit) → AllByRecursion P ds → AllByRecursion P es → AllByRecursion P (put_all ds es)
all_placed P ds [] h k = h
all_placed P ds (e ∷ es) h k = all_placed P (put_in ds e) es (all_put P ds e k.0 h) k.1

-- ---- their order

abbrev pub Rises : List Edit → Type 0
Rises [] = Unit {0}
Rises (d ∷ ds) = AllByRecursion (λ e. begins_before d e ≡ true) ds × Rises ds

further : (c d e : Edit) → begins_before c d ≡ true → begins_before d e ≡ true → begins_before c e ≡ true
further c d e h k = grind (arith, nat_tests)

together_front : (e d x : Edit) → begin_together e d ≡ true → begins_before d x ≡ true → begins_before e x ≡ true
together_front e d x h k = grind (arith, nat_tests)

behind : (e d : Edit) → begin_together e d ≡ false → begins_before e d ≡ false → begins_before d e ≡ true
behind e d h k = grind (arith, nat_tests)

not_together : (d e : Edit) → begins_before d e ≡ true → begin_together e d ≡ false
not_together d e h = grind (arith, nat_tests)

not_before : (d e : Edit) → begins_before d e ≡ true → begins_before e d ≡ false
not_before d e h = grind (arith, nat_tests)

rises_by : (p q : Bool) (a b c : List Edit) → (p ≡ true → Rises b) → (q ≡ true → Rises a) → (p ≡ false → q ≡ false → Rises c) → Rises (cond p b (cond q a c))
rises_by true q a b c f g h = f refl
rises_by false true a b c f g h = g refl
rises_by false false a b c f g h = h refl refl

rises_put : (ds : List Edit) (e : Edit) → Rises ds → Rises (put_in ds e)
rises_put [] e h = (tt, tt)
rises_put (d ∷ ds) e h =
    rises_by (begin_together e d) (begins_before e d) (e ∷ d ∷ ds) (e ∷ ds) (d ∷ put_in ds e)
    (λ t. (all_to {P = λ x. begins_before d x ≡ true} {Q = λ x. begins_before e x ≡ true} (λ x k. together_front e d x t k) ds h.0, h.1))
    (λ b. ((b, all_to {P = λ x. begins_before d x ≡ true} {Q = λ x. begins_before e x ≡ true} (λ x k. further e d x b k) ds h.0), h))
    (λ t b. (all_put (λ x. begins_before d x ≡ true) ds e (behind e d t b) h.0, rises_put ds e h.1))

rises_placed : (es ds : List Edit) → Rises ds → Rises (put_all ds es)
rises_placed [] ds h = h
rises_placed (e ∷ es) ds h = rises_placed es (put_in ds e) (rises_put ds e h)

pub places_rise : (es : List Edit) → Rises (by_place es)
places_rise es = rises_placed es [] tt

-- ---- edits in order stay as they are

put_last : (ds : List Edit) (e : Edit) → AllByRecursion (λ d. begins_before d e ≡ true) ds → put_in ds e ≡ ds ++ e ∷ []
put_last [] e h = refl
put_last (d ∷ ds) e h =
    (λ j. cond (not_together d e h.0 j) (e ∷ ds) (cond (not_before d e h.0 j) (e ∷ d ∷ ds) (d ∷ put_in ds e))) ∙ ap (λ l. d ∷ l) (put_last ds e h.1)

-- each of the first edits is before each of the second
abbrev AllBefore : List Edit → List Edit → Type 0
AllBefore ds [] = Unit {0}
AllBefore ds (e ∷ es) = AllByRecursion (λ d. begins_before d e ≡ true) ds × AllBefore ds es

all_behind : (P : Edit → Type 0) (ds : List Edit) (e : Edit) → AllByRecursion P ds → P e → AllByRecursion P (ds ++ e ∷ [])
all_behind P [] e h p = (p, tt)
all_behind P (d ∷ ds) e h p = (h.0, all_behind P ds e h.1 p)

before_more : (ds es : List Edit) (e : Edit) → AllBefore ds es → AllByRecursion (λ x. begins_before e x ≡ true) es → AllBefore (ds ++ e ∷ []) es
before_more ds [] e h k = tt
before_more ds (x ∷ es) e h k = (all_behind (λ d. begins_before d x ≡ true) ds e h.0 k.0, before_more ds es e h.1 k.1)

put_rising : (es ds : List Edit) → AllBefore ds es → Rises es → put_all ds es ≡ ds ++ es
put_rising [] ds h r = sym (append-nil ds)
put_rising (e ∷ es) ds h r =
    ap (λ l. put_all l es) (put_last ds e h.0) ∙ put_rising es (ds ++ e ∷ []) (before_more ds es e h.1 r.0) r.1 ∙ append_assoc ds (e ∷ []) es

nothing_before : (es : List Edit) → AllBefore [] es
nothing_before [] = tt
nothing_before (e ∷ es) = (tt, nothing_before es)

pub placed_again : (es : List Edit) → Rises es → by_place es ≡ es
placed_again es r = put_rising es [] (nothing_before es) r

-- ---- one behind the other

-- an edit that stands behind others, in front of which it lies in its file
abbrev pub EndsBefore : Edit → Edit → Type 0
EndsBefore e d = e.file ≡ d.file → e.end ≤ d.start

abbrev pub Follow : List Edit → Type 0
Follow [] = Unit {0}
Follow (e ∷ es) = AllByRecursion (EndsBefore e) es × Follow es

-- edits from the end to the start, and one more in front of all
front_of : (ds : List Edit) (e : Edit) → Descends (ds ++ e ∷ []) → Descends ds × AllByRecursion (EndsBefore e) ds
front_of [] e h = (tt, tt)
front_of (d ∷ ds) e h =
    let r = front_of ds e h.1 in
    let l = last_of ds e (λ x. x.file ≡ d.file → x.end ≤ d.start) h.0 in
    ((l.0, r.0), (l.1, r.1))
  where
    last_of : (ds : List Edit) (e : Edit) (P : Edit → Type 0) → AllByRecursion P (ds ++ e ∷ []) → AllByRecursion P ds × P e
    last_of [] e P h = (tt, h.0)
    last_of (d ∷ ds) e P h = let r = last_of ds e P h.1 in ((h.0, r.0), r.1)

pub all_turned : (P : Edit → Type 0) (ds : List Edit) → AllByRecursion P (reverse ds) → AllByRecursion P ds
all_turned P [] h = tt
all_turned P (d ∷ ds) h =
    let k = subst (AllByRecursion P) (reverse-append (d ∷ []) ds) h in
    let l = last_of (reverse ds) d k in
    (l.1, all_turned P ds l.0)
  where
    last_of : (ds : List Edit) (e : Edit) → AllByRecursion P (ds ++ e ∷ []) → AllByRecursion P ds × P e
    last_of [] e h = (tt, h.0)
    last_of (d ∷ ds) e h = let r = last_of ds e h.1 in ((h.0, r.0), r.1)

pub follow : (ds : List Edit) → Descends (reverse ds) → Follow ds
follow [] h = tt
follow (d ∷ ds) h =
    let r = front_of (reverse ds) d (subst Descends (reverse-append (d ∷ []) ds) h) in
    (all_turned (EndsBefore d) ds r.1, follow ds r.0)

pub apart : (ds : List Edit) → Follow ds → AllApart ds
apart [] h = tt
apart (d ∷ ds) h = (all_to {P = EndsBefore d} {Q = AreApart d} (λ e k same. inl (k same)) ds h.0, apart ds h.1)

-- ---- what is put in stays

-- one of them
abbrev pub IsIn : Edit → List Edit → Type 0
IsIn e ds = IsOneOf e ds

pub put_there : (ds : List Edit) (e : Edit) → IsIn e (put_in ds e)
put_there [] e = inl refl
put_there (d ∷ ds) e =
    elim (begin_together e d) as (λ b. IsIn e (cond b (e ∷ ds) (cond (begins_before e d) (e ∷ d ∷ ds) (d ∷ put_in ds e)))) [
      | true ↦ inl refl
      | false ↦ elim (begins_before e d) as (λ b. IsIn e (cond b (e ∷ d ∷ ds) (d ∷ put_in ds e))) [ true ↦ inl refl | false ↦ inr (put_there ds e) ]
    ]

put_kept : (ds : List Edit) (e x : Edit) → begin_together e x ≡ false → IsIn x ds → IsIn x (put_in ds e)
put_kept [] e x n h = absurd h
put_kept (d ∷ ds) e x n h = by (begin_together e d) refl (begins_before e d) (λ k. put_kept ds e x n k)
  where
    here : (b : Bool) → begin_together e d ≡ b → b ≡ true → x ≡ d → ⊥
    here b t y s = let a : begin_together e x ≡ true = ap (begin_together e) s ∙ t ∙ y in cc

    at : (IsIn x ds → IsIn x (put_in ds e)) → (x ≡ d) ⊎ IsIn x ds → IsIn x (d ∷ put_in ds e)
    at f (inl s) = inl s
    at f (inr k) = inr (f k)

    other : (begin_together e d ≡ true) → (x ≡ d) ⊎ IsIn x ds → IsIn x (e ∷ ds)
    other t (inl s) = absurd (here true t refl s)
    other t (inr k) = inr k

    by : (b : Bool) → begin_together e d ≡ b → (q : Bool) → (IsIn x ds → IsIn x (put_in ds e)) → IsIn x (cond b (e ∷ ds) (cond q (e ∷ d ∷ ds) (d ∷ put_in ds e)))
    by true t q f = other t h
    by false t true f = inr h
    by false t false f = at f h

pub all_kept : (ds es : List Edit) (x : Edit) → AllByRecursion (λ e. begin_together e x ≡ false) es → IsIn x ds → IsIn x (put_all ds es)
all_kept ds [] x n h = h
all_kept ds (e ∷ es) x n h = all_kept (put_in ds e) es x n.1 (put_kept ds e x n.0 h)
