-- How many bytes a package has behind edits: those that it had, with those of the texts, without those of the ranges.
use Rattle.std.proofs.Common.{◌≡◌, ◌≢◌, ◌≤◌, ◌<◌, inl, inr, ℕ, zero, suc, ◌+◌, ◌-◌, List, [], ◌∷◌, ◌++◌, length, take, drop, get_or, refl, sym, ap, subst, arith, length-append, length-drop}
use Rattle.std.specs.Prelude.{nat_lt, slice_get}
use Rattle.std.specs.List.{AllByRecursion}
use Rattle.std.proofs.lemmas.Bool.Decides.{eqb_tells, nat_tests}
use Rattle.std.proofs.lemmas.List.{length-take, length-take-le}
use Rattle.std.proofs.lemmas.List.Sums.{sum_by-cons}
use Rattle.go_base.specs.declared.bytes.FileText.{FileText}
use Rattle.go_base.specs.Package.{Ascends, most_bytes, total_bytes}
use Rattle.edit_apply.specs.declared.edits.Edit.{Edit}
use Rattle.edit_apply.specs.Edited.{file_of, spliced}
use Rattle.edit_apply.specs.Applied.{IsInRange, edited_by, applied}
use Rattle.edit_apply.proofs.Public.{by_number, edited_number}
use Rattle.extract_rewrite.specs.Ready.{CanBeDone, added_bytes, removed_bytes}
use Rattle.extract_rewrite.proofs.Bytes.{ascends_by, names_of}

-- ---- one edit

length_spliced : (bytes : List ℕ) (s e : ℕ) (new : List ℕ) → s ≤ e → e ≤ length bytes → length (spliced bytes s e new) + (e - s) ≡ length bytes + length new
length_spliced bytes s e new a b =
    let front : length (take s bytes) ≡ s = length-take-le s bytes (omega (arith, a, b)) in
    let back : length (drop e bytes) ≡ length bytes - e = length-drop e bytes in
    let inner : length (take s bytes ++ new) ≡ length (take s bytes) + length new = length-append (take s bytes) new in
    let whole : length (spliced bytes s e new) ≡ length (take s bytes ++ new) + length (drop e bytes) = length-append (take s bytes ++ new) (drop e bytes) in
    omega (arith, a, b, front, back, inner, whole)

abbrev of_file : FileText → ℕ
of_file f = length f.bytes

total_number : (files : List FileText) (n s e : ℕ) (new : List ℕ) (d : FileText) → n < length files → s ≤ e → e ≤ length (get_or files n d).bytes
    → total_bytes (edited_number files n s e new) + (e - s) ≡ total_bytes files + length new
total_number [] n s e new d lt a b = absurd (omega (arith, lt))
total_number (f ∷ fs) zero s e new d lt a b =
    let one : length (spliced f.bytes s e new) + (e - s) ≡ length f.bytes + length new = length_spliced f.bytes s e new a b in
    let after : total_bytes (file_of f.name (spliced f.bytes s e new) ∷ fs) ≡ length (spliced f.bytes s e new) + total_bytes fs = sum_by-cons of_file (file_of f.name (spliced f.bytes s e new)) fs in
    let before : total_bytes (f ∷ fs) ≡ length f.bytes + total_bytes fs = sum_by-cons of_file f fs in
    omega (arith, one, after, before)
total_number (f ∷ fs) (suc n) s e new d lt a b =
    let rest : total_bytes (edited_number fs n s e new) + (e - s) ≡ total_bytes fs + length new = total_number fs n s e new d (omega (arith, lt)) a b in
    let after : total_bytes (f ∷ edited_number fs n s e new) ≡ length f.bytes + total_bytes (edited_number fs n s e new) = sum_by-cons of_file f (edited_number fs n s e new) in
    let before : total_bytes (f ∷ fs) ≡ length f.bytes + total_bytes fs = sum_by-cons of_file f fs in
    omega (arith, rest, after, before)

-- ---- the edits behind it can still be done

abbrev number_by : List FileText → Edit → List FileText
number_by files e = edited_number files e.file e.start e.end e.text

length_number : (files : List FileText) (n s e : ℕ) (new : List ℕ) → length (edited_number files n s e new) ≡ length files
length_number [] n s e new = refl
length_number (f ∷ fs) zero s e new = refl
length_number (f ∷ fs) (suc n) s e new = ap suc (length_number fs n s e new)

get_number : (files : List FileText) (n s e : ℕ) (new : List ℕ) (d : FileText) → n < length files → (get_or (edited_number files n s e new) n d).bytes ≡ spliced (get_or files n d).bytes s e new
get_number [] n s e new d lt = absurd (omega (arith, lt))
get_number (f ∷ fs) zero s e new d lt = refl
get_number (f ∷ fs) (suc n) s e new d lt = get_number fs n s e new d (omega (arith, lt))

get_other : (files : List FileText) (n m s e : ℕ) (new : List ℕ) (d : FileText) → m ≢ n → get_or (edited_number files n s e new) m d ≡ get_or files m d
get_other [] n m s e new d ne = refl
get_other (f ∷ fs) zero zero s e new d ne = absurd (ne refl)
get_other (f ∷ fs) zero (suc m) s e new d ne = refl
get_other (f ∷ fs) (suc n) zero s e new d ne = refl
get_other (f ∷ fs) (suc n) (suc m) s e new d ne = get_other fs n m s e new d (λ is. ne (ap suc is))

long_enough : (bytes : List ℕ) (s e : ℕ) (new : List ℕ) → s ≤ length bytes → s ≤ length (spliced bytes s e new)
long_enough bytes s e new le = simp length-append (omega (arith, length-take s bytes))

-- a range in front of the edit stays within its file
range_kept : (files : List FileText) (e later : Edit) → IsInRange files e → IsInRange files later → (later.file ≡ e.file → later.end ≤ e.start) → IsInRange (number_by files e) later
range_kept files e later r q before = record {
  file = omega (arith, q.file, length_number files e.file e.start e.end e.text);
  range = q.range;
  within = λ d. elim (eqb_tells later.file e.file) as (λ _. later.end ≤ length (get_or (number_by files e) later.file d).bytes) [
    | inl same ↦
        let here : later.end ≤ e.start = before same.1 in
        let long : e.start ≤ length (spliced (get_or files e.file d).bytes e.start e.end e.text) = long_enough (get_or files e.file d).bytes e.start e.end e.text (omega (arith, r.range, r.within d)) in
        let is : (get_or (number_by files e) e.file d).bytes ≡ spliced (get_or files e.file d).bytes e.start e.end e.text = get_number files e.file e.start e.end e.text d r.file in
        subst (λ n. later.end ≤ length (get_or (number_by files e) n d).bytes) (sym same.1) (omega (arith, ap length is))
    | inr apart ↦ subst (λ f. later.end ≤ length f.bytes) (sym (get_other files e.file later.file e.start e.end e.text d apart.1)) (q.within d)
  ];
}

ranges_kept : (files : List FileText) (e : Edit) (es : List Edit) → IsInRange files e → AllByRecursion (IsInRange files) es → AllByRecursion (λ later. later.file ≡ e.file → later.end ≤ e.start) es → AllByRecursion (IsInRange (number_by files e)) es
ranges_kept files e [] r qs bs = tt
ranges_kept files e (l ∷ ls) r qs bs = (range_kept files e l r qs.0 bs.0, ranges_kept files e ls r qs.1 bs.1)

next_done : (files : List FileText) (e : Edit) (es : List Edit) → Ascends files → CanBeDone files (e ∷ es) → CanBeDone (edited_by files e) es
next_done files e es asc h = record {
  ranges = subst (λ fs. AllByRecursion (IsInRange fs) es) (sym (by_number files e asc h.ranges.0.file)) (ranges_kept files e es h.ranges.0 h.ranges.1 h.descends.0);
  descends = h.descends.1;
}

next_ascends : (files : List FileText) (e : Edit) → Ascends files → Ascends (edited_by files e)
next_ascends files e asc = ascends_by files (edited_by files e) (sym (names_of (slice_get files e.file) files e)) asc

-- ---- all edits

pub sizes : (files : List FileText) (es : List Edit) → Ascends files → CanBeDone files es → total_bytes (applied files es) + removed_bytes es ≡ total_bytes files + added_bytes es
sizes files [] asc h = omega arith
sizes files (e ∷ es) asc h =
    let d : FileText = file_of [] [] in
    let r = h.ranges.0 in
    let rest : total_bytes (applied (edited_by files e) es) + removed_bytes es ≡ total_bytes (edited_by files e) + added_bytes es = sizes (edited_by files e) es (next_ascends files e asc) (next_done files e es asc h) in
    let by : total_bytes (edited_by files e) ≡ total_bytes (number_by files e) = ap total_bytes (by_number files e asc r.file) in
    let one : total_bytes (number_by files e) + (e.end - e.start) ≡ total_bytes files + length e.text = total_number files e.file e.start e.end e.text d r.file r.range (r.within d) in
    let old : removed_bytes (e ∷ es) ≡ (e.end - e.start) + removed_bytes es = sum_by-cons (λ (x : Edit). x.end - x.start) e es in
    let new : added_bytes (e ∷ es) ≡ length e.text + added_bytes es = sum_by-cons (λ (x : Edit). length x.text) e es in
    omega (arith, rest, by, one, old, new)

pub too_large : (files : List FileText) (es : List Edit) (held added removed more most : ℕ) → Ascends files → CanBeDone files es → held ≡ total_bytes files → added ≡ added_bytes es → removed ≡ removed_bytes es
    → more ≡ held + added → most ≡ removed + most_bytes → nat_lt most more ≡ nat_lt most_bytes (total_bytes (applied files es))
too_large files es held added removed more most asc h a b c d e =
    let s = sizes files es asc h in
    grind (arith, nat_tests)
