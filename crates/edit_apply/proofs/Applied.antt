-- Many edits, one after the other.
use Rattle.std.proofs.Common.{◌≡◌, ℕ, zero, suc, ◌<◌, ◌≤◌, ◌≢◌, inl, inr, Option, Some, None, List, [], ◌∷◌, length, get_or, refl, sym, ap, subst, ◌∙◌, arith, length-append}
use Rattle.std.specs.Prelude.{slice_get, slice_set}
use Rattle.std.specs.List.{AllByRecursion}
use Rattle.std.proofs.lemmas.Bool.Decides.{eqb_tells}
use Rattle.std.proofs.lemmas.List.{length-map, length-take}
use Rattle.std.proofs.lemmas.Option.{slice_get-get_or}
use Rattle.go_base.specs.declared.bytes.FileText.{FileText}
use Rattle.go_base.specs.Package.{Ascends, IsPackage}
use Rattle.edit_apply.specs.declared.edits.Edit.{Edit}
use Rattle.edit_apply.specs.Edited.{file_of, spliced}
use Rattle.edit_apply.specs.Applied.{edited_of, edited_by, applied, IsInRange, AreApplicable}
use Rattle.edit_apply.proofs.Lists.{edited_at, ascends-set}

-- ---- one edit

-- the file with the number is edited, and all others stay
abbrev pub edited_number : List FileText → ℕ → ℕ → ℕ → List ℕ → List FileText
edited_number [] number start end new = []
edited_number (f ∷ fs) zero start end new = file_of f.name (spliced f.bytes start end new) ∷ fs
edited_number (f ∷ fs) (suc number) start end new = f ∷ edited_number fs number start end new

abbrev pub number_by : List FileText → Edit → List FileText
number_by files e = edited_number files e.file e.start e.end e.text

number_set : (files : List FileText) (n s e : ℕ) (new : List ℕ) (d : FileText) → n < length files → edited_number files n s e new ≡ slice_set files n (file_of (get_or files n d).name (spliced (get_or files n d).bytes s e new))
number_set [] n s e new d lt = absurd (omega arith)
number_set (f ∷ fs) zero s e new d lt = refl
number_set (f ∷ fs) (suc n) s e new d lt = ap (λ l. f ∷ l) (number_set fs n s e new d (omega arith))

-- The file of a number is the one of its name.
pub by_number : (files : List FileText) (e : Edit) → Ascends files → e.file < length files → edited_by files e ≡ number_by files e
by_number files e asc lt =
    let d : FileText = file_of [] [] in
    ap (λ o. edited_of o files e) (slice_get-get_or files e.file d lt)
    ∙ edited_at files (get_or files e.file d).name e.start e.end e.text e.file d asc lt refl
    ∙ sym (number_set files e.file e.start e.end e.text d lt)

pub by_set : (files : List FileText) (e : Edit) (d : FileText) → Ascends files → e.file < length files → edited_by files e ≡ slice_set files e.file (file_of (get_or files e.file d).name (spliced (get_or files e.file d).bytes e.start e.end e.text))
by_set files e d asc lt = by_number files e asc lt ∙ number_set files e.file e.start e.end e.text d lt

length-of : (o : Option FileText) (files : List FileText) (e : Edit) → length (edited_of o files e) ≡ length files
length-of None files e = refl
length-of (Some f) files e = length-map files _

length-number : (files : List FileText) (n s e : ℕ) (new : List ℕ) → length (edited_number files n s e new) ≡ length files
length-number [] n s e new = refl
length-number (f ∷ fs) zero s e new = refl
length-number (f ∷ fs) (suc n) s e new = ap suc (length-number fs n s e new)

get-number : (files : List FileText) (n s e : ℕ) (new : List ℕ) (d : FileText) → n < length files → (get_or (edited_number files n s e new) n d).bytes ≡ spliced (get_or files n d).bytes s e new
get-number [] n s e new d lt = absurd (omega arith)
get-number (f ∷ fs) zero s e new d lt = refl
get-number (f ∷ fs) (suc n) s e new d lt = get-number fs n s e new d (omega arith)

get-other : (files : List FileText) (n m s e : ℕ) (new : List ℕ) (d : FileText) → m ≢ n → get_or (edited_number files n s e new) m d ≡ get_or files m d
get-other [] n m s e new d ne = refl
get-other (f ∷ fs) zero zero s e new d ne = absurd (ne refl)
get-other (f ∷ fs) zero (suc m) s e new d ne = refl
get-other (f ∷ fs) (suc n) zero s e new d ne = refl
get-other (f ∷ fs) (suc n) (suc m) s e new d ne = get-other fs n m s e new d (λ is. ne (ap suc is))

long_enough : (bytes : List ℕ) (s e : ℕ) (new : List ℕ) → s ≤ length bytes → s ≤ length (spliced bytes s e new)
long_enough bytes s e new le = simp length-append (omega (arith, length-take s bytes))

-- a range in front of the edit stays within its file
range_kept : (files : List FileText) (e later : Edit) → IsInRange files e → IsInRange files later → (later.file ≡ e.file → later.end ≤ e.start) → IsInRange (number_by files e) later
range_kept files e later r q before = record {
  file = omega (arith, q.file, length-number files e.file e.start e.end e.text);
  range = q.range;
  within = λ d. elim (eqb_tells later.file e.file) as (λ _. later.end ≤ length (get_or (number_by files e) later.file d).bytes) [
    | inl same ↦
        let here : later.end ≤ e.start = before same.1 in
        let long : e.start ≤ length (spliced (get_or files e.file d).bytes e.start e.end e.text) = long_enough (get_or files e.file d).bytes e.start e.end e.text (omega (arith, r.range, r.within d)) in
        let is : (get_or (number_by files e) e.file d).bytes ≡ spliced (get_or files e.file d).bytes e.start e.end e.text = get-number files e.file e.start e.end e.text d r.file in
        subst (λ n. later.end ≤ length (get_or (number_by files e) n d).bytes) (sym same.1) (omega (arith, ap length is))
    | inr apart ↦ subst (λ f. later.end ≤ length f.bytes) (sym (get-other files e.file later.file e.start e.end e.text d apart.1)) (q.within d)
  ];
}

ranges_kept : (files : List FileText) (e : Edit) (es : List Edit) → IsInRange files e → AllByRecursion (IsInRange files) es → AllByRecursion (λ later. later.file ≡ e.file → later.end ≤ e.start) es → AllByRecursion (IsInRange (number_by files e)) es
ranges_kept files e [] r qs bs = tt
ranges_kept files e (l ∷ ls) r qs bs = (range_kept files e l r qs.0 bs.0, ranges_kept files e ls r qs.1 bs.1)

pub next_edits : (files : List FileText) (e : Edit) (es : List Edit) → Ascends files → AreApplicable files (e ∷ es) → AreApplicable (edited_by files e) es
next_edits files e es asc h = record {
  ranges = subst (λ fs. AllByRecursion (IsInRange fs) es) (sym (by_number files e asc h.ranges.0.file)) (ranges_kept files e es h.ranges.0 h.ranges.1 h.descends.0);
  descends = h.descends.1;
  small = h.small;
}

pub next_ascends : (files : List FileText) (e : Edit) → Ascends files → e.file < length files → Ascends (edited_by files e)
next_ascends files e asc lt =
    subst Ascends (sym (by_set files e (file_of [] []) asc lt)) (ascends-set files e.file (file_of [] []) _ lt refl asc)

-- ---- all edits

ascends-applied : (files : List FileText) (edits : List Edit) → AreApplicable files edits → Ascends files → Ascends (applied files edits)
ascends-applied files [] h a = a
ascends-applied files (e ∷ es) h a = ascends-applied (edited_by files e) es (next_edits files e es a h) (next_ascends files e a h.ranges.0.file)

pub length-applied : (files : List FileText) (edits : List Edit) → length (applied files edits) ≡ length files
length-applied files [] = refl
length-applied files (e ∷ es) = length-applied (edited_by files e) es ∙ length-of (slice_get files e.file) files e

pub package_applied : (files : List FileText) (edits : List Edit) → IsPackage files → AreApplicable files edits → IsPackage (applied files edits)
package_applied files edits p h = record {
  ascends = ascends-applied files edits h p.ascends;
  few = omega (arith, p.few, length-applied files edits);
  small = h.small;
}
