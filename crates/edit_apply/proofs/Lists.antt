-- The edited packages at the place of a name.
use Rattle.std.proofs.Common.{◌≡◌, ℕ, zero, suc, ◌<◌, ◌≤◌, false, not, cond, Some, None, List, [], ◌∷◌, length, get_or, refl, sym, ap, subst, ◌∙◌, arith}
use Rattle.std.specs.Prelude.{slice_set}
use Rattle.std.specs.Ordering.{is_lt}
use Rattle.std.specs.Str.{bytes_eq}
use Rattle.std.specs.List.{AllByRecursion, insert, remove}
use Rattle.std.proofs.lemmas.List.Elements.{All-from_recursion, recursion_from_All}
use Rattle.std.proofs.lemmas.List.Sums.{sum_by-set}
use Rattle.go_base.specs.declared.bytes.FileText.{FileText}
use Rattle.go_base.specs.Package.{ComesBefore, Ascends, total_bytes}
use Rattle.edit_apply.specs.Edited.{bytes_under, spliced, file_of, edited, added, dropped, with_bytes}
use Rattle.edit_apply.specs.Places.{IsGap}
use Rattle.edit_apply.proofs.Order.{apart, apart_back, same_name, in_front}

-- ---- files that all come behind the name

edited_behind : (fs : List FileText) (name : List ℕ) (s e : ℕ) (new : List ℕ) → AllByRecursion (λ g. ComesBefore name g.name) fs → edited fs name s e new ≡ fs
edited_behind [] name s e new h = refl
edited_behind (f ∷ fs) name s e new h =
    λ i. cond (apart_back name f.name h.0 i) (file_of f.name (spliced f.bytes s e new)) f ∷ edited_behind fs name s e new h.1 i

dropped_behind : (fs : List FileText) (name : List ℕ) → AllByRecursion (λ g. ComesBefore name g.name) fs → dropped fs name ≡ fs
dropped_behind [] name h = refl
dropped_behind (f ∷ fs) name h =
    λ i. cond (not (apart_back name f.name h.0 i)) (f ∷ dropped_behind fs name h.1 i) (dropped_behind fs name h.1 i)

under_behind : (fs : List FileText) (name : List ℕ) → AllByRecursion (λ g. ComesBefore name g.name) fs → bytes_under fs name ≡ None
under_behind [] name h = refl
under_behind (f ∷ fs) name h = ap (λ b. cond b (Some f.bytes) (bytes_under fs name)) (apart_back name f.name h.0) ∙ under_behind fs name h.1

added_behind : (fs : List FileText) (name bytes : List ℕ) → AllByRecursion (λ g. ComesBefore name g.name) fs → added fs name bytes ≡ file_of name bytes ∷ fs
added_behind [] name bytes h = refl
added_behind (f ∷ fs) name bytes h = ap (λ r. cond (is_lt r) (file_of name bytes ∷ f ∷ fs) (f ∷ added fs name bytes)) h.0

-- ---- at the place of a name

renamed : (f : FileText) (fs : List FileText) (name : List ℕ) → f.name ≡ name → Ascends (f ∷ fs) → AllByRecursion (λ g. ComesBefore name g.name) fs
renamed f fs name is h = subst (λ n. AllByRecursion (λ g. ComesBefore n g.name) fs) is h.0

-- the first file comes before the one at a later place
earlier : (f : FileText) (fs : List FileText) (name : List ℕ) (i : ℕ) (d : FileText) → Ascends (f ∷ fs) → i < length fs → (get_or fs i d).name ≡ name → bytes_eq f.name name ≡ false
earlier f fs name i d h lt is = apart f.name name (subst (λ n. ComesBefore f.name n) is (All-from_recursion (λ g. ComesBefore f.name g.name) fs h.0 i d lt))

pub under_at : (files : List FileText) (name : List ℕ) (i : ℕ) (d : FileText) → Ascends files → i < length files → (get_or files i d).name ≡ name → bytes_under files name ≡ Some (get_or files i d).bytes
under_at [] name i d h lt is = absurd (omega arith)
under_at (f ∷ fs) name zero d h lt is = ap (λ b. cond b (Some f.bytes) (bytes_under fs name)) (same_name f.name name is)
under_at (f ∷ fs) name (suc i) d h lt is = let less : i < length fs = omega arith in ap (λ b. cond b (Some f.bytes) (bytes_under fs name)) (earlier f fs name i d h less is) ∙ under_at fs name i d h.1 less is

pub edited_at : (files : List FileText) (name : List ℕ) (s e : ℕ) (new : List ℕ) (i : ℕ) (d : FileText) → Ascends files → i < length files → (get_or files i d).name ≡ name → edited files name s e new ≡ slice_set files i (file_of (get_or files i d).name (spliced (get_or files i d).bytes s e new))
edited_at [] name s e new i d h lt is = absurd (omega arith)
edited_at (f ∷ fs) name s e new zero d h lt is =
    λ i. cond (same_name f.name name is i) (file_of f.name (spliced f.bytes s e new)) f ∷ edited_behind fs name s e new (renamed f fs name is h) i
edited_at (f ∷ fs) name s e new (suc i) d h lt is =
    let less : i < length fs = omega arith in
    let rest = edited_at fs name s e new i d h.1 less is in
    λ j. cond (earlier f fs name i d h less is j) (file_of f.name (spliced f.bytes s e new)) f ∷ rest j

pub dropped_at : (files : List FileText) (name : List ℕ) (i : ℕ) (d : FileText) → Ascends files → i < length files → (get_or files i d).name ≡ name → dropped files name ≡ remove files i
dropped_at [] name i d h lt is = absurd (omega arith)
dropped_at (f ∷ fs) name zero d h lt is =
    ap (λ b. cond (not b) (f ∷ dropped fs name) (dropped fs name)) (same_name f.name name is) ∙ dropped_behind fs name (renamed f fs name is h)
dropped_at (f ∷ fs) name (suc i) d h lt is =
    let less : i < length fs = omega arith in
    ap (λ b. cond (not b) (f ∷ dropped fs name) (dropped fs name)) (earlier f fs name i d h less is) ∙ ap (λ l. f ∷ l) (dropped_at fs name i d h.1 less is)

-- ---- where the name is not

gap_behind : (files : List FileText) (name : List ℕ) → IsGap files name 0 → AllByRecursion (λ g. ComesBefore name g.name) files
gap_behind files name g = recursion_from_All (λ f. ComesBefore name f.name) files (λ k d lt. g.after k d (omega arith) lt)

gap_rest : (f : FileText) (fs : List FileText) (name : List ℕ) (i : ℕ) → IsGap (f ∷ fs) name (suc i) → IsGap fs name i
gap_rest f fs name i g = record {
  within = omega (arith, g.within);
  before = λ k d low high. g.before (suc k) d (omega arith) (omega arith);
  after = λ k d low high. g.after (suc k) d (omega arith) (omega arith);
}

gap_first : (f : FileText) (fs : List FileText) (name : List ℕ) (i : ℕ) → IsGap (f ∷ fs) name (suc i) → ComesBefore f.name name
gap_first f fs name i g = g.before 0 f (omega arith) (omega arith)

pub under_gap : (files : List FileText) (name : List ℕ) (i : ℕ) → IsGap files name i → bytes_under files name ≡ None
under_gap [] name i g = refl
under_gap (f ∷ fs) name zero g = under_behind (f ∷ fs) name (gap_behind (f ∷ fs) name g)
under_gap (f ∷ fs) name (suc i) g = ap (λ b. cond b (Some f.bytes) (bytes_under fs name)) (apart f.name name (gap_first f fs name i g)) ∙ under_gap fs name i (gap_rest f fs name i g)

pub added_gap : (files : List FileText) (name bytes : List ℕ) (i : ℕ) → IsGap files name i → added files name bytes ≡ insert files i (file_of name bytes)
added_gap files name bytes zero g = added_behind files name bytes (gap_behind files name g)
added_gap [] name bytes (suc i) g = absurd (omega (arith, g.within))
added_gap (f ∷ fs) name bytes (suc i) g =
    ap (λ r. cond (is_lt r) (file_of name bytes ∷ f ∷ fs) (f ∷ added fs name bytes)) (in_front f.name name (gap_first f fs name i g))
    ∙ ap (λ l. f ∷ l) (added_gap fs name bytes i (gap_rest f fs name i g))

-- ---- the order is kept

module _ (P : FileText → Type 0) where
  all_set : (fs : List FileText) (i : ℕ) (g : FileText) → P g → AllByRecursion P fs → AllByRecursion P (slice_set fs i g)
  all_set [] i g p h = tt
  all_set (f ∷ fs) zero g p h = (p, h.1)
  all_set (f ∷ fs) (suc i) g p h = (h.0, all_set fs i g p h.1)

  all_remove : (fs : List FileText) (i : ℕ) → AllByRecursion P fs → AllByRecursion P (remove fs i)
  all_remove [] zero h = tt
  all_remove [] (suc i) h = tt
  all_remove (f ∷ fs) zero h = h.1
  all_remove (f ∷ fs) (suc i) h = (h.0, all_remove fs i h.1)

  all_insert : (fs : List FileText) (i : ℕ) (g : FileText) → P g → AllByRecursion P fs → AllByRecursion P (insert fs i g)
  all_insert fs zero g p h = (p, h)
  all_insert [] (suc i) g p h = (p, tt)
  all_insert (f ∷ fs) (suc i) g p h = (h.0, all_insert fs i g p h.1)

pub ascends-set : (files : List FileText) (i : ℕ) (d g : FileText) → i < length files → (get_or files i d).name ≡ g.name → Ascends files → Ascends (slice_set files i g)
ascends-set [] i d g lt is h = tt
ascends-set (f ∷ fs) zero d g lt is h = (subst (λ n. AllByRecursion (λ f. ComesBefore n f.name) fs) is h.0, h.1)
ascends-set (f ∷ fs) (suc i) d g lt is h =
    let less : i < length fs = omega arith in
    let before : ComesBefore f.name g.name = subst (λ n. ComesBefore f.name n) is (All-from_recursion (λ g. ComesBefore f.name g.name) fs h.0 i d less) in
    (all_set (λ g. ComesBefore f.name g.name) fs i g before h.0, ascends-set fs i d g less is h.1)

pub ascends-remove : (files : List FileText) (i : ℕ) → Ascends files → Ascends (remove files i)
ascends-remove [] zero h = tt
ascends-remove [] (suc i) h = tt
ascends-remove (f ∷ fs) zero h = h.1
ascends-remove (f ∷ fs) (suc i) h = (all_remove (λ g. ComesBefore f.name g.name) fs i h.0, ascends-remove fs i h.1)

pub ascends-insert : (files : List FileText) (name bytes : List ℕ) (i : ℕ) → IsGap files name i → Ascends files → Ascends (insert files i (file_of name bytes))
ascends-insert files name bytes zero g h = (gap_behind files name g, h)
ascends-insert [] name bytes (suc i) g h = (tt, tt)
ascends-insert (f ∷ fs) name bytes (suc i) g h =
    (all_insert (λ g. ComesBefore f.name g.name) fs i (file_of name bytes) (gap_first f fs name i g) h.0, ascends-insert fs name bytes i (gap_rest f fs name i g) h.1)

pub under_small : (files : List FileText) (name : List ℕ) (i : ℕ) (d : FileText) → i < length files → length (get_or files i d).bytes ≤ total_bytes files
under_small files name i d lt = let sums = sum_by-set (λ f. length f.bytes) files i (file_of [] []) d lt in omega arith

pub with_bytes_at : (files : List FileText) (i : ℕ) (d : FileText) (bytes : List ℕ) → i < length files → with_bytes files i bytes ≡ slice_set files i (file_of (get_or files i d).name bytes)
with_bytes_at [] i d bytes lt = absurd (omega arith)
with_bytes_at (f ∷ fs) zero d bytes lt = refl
with_bytes_at (f ∷ fs) (suc i) d bytes lt = ap (λ l. f ∷ l) (with_bytes_at fs i d bytes (omega arith))

-- the same in terms of the file that the code has read
pub with_bytes_named : (files items : List FileText) (i : ℕ) (f : FileText) (bytes : List ℕ) → files ≡ items → i < length files → f ≡ get_or items i f → with_bytes files i bytes ≡ slice_set items i (file_of f.name bytes)
with_bytes_named files items i f bytes same lt is =
    with_bytes_at files i f bytes lt
    ∙ (λ j. slice_set (same j) i (file_of (get_or (same j) i f).name bytes))
    ∙ ap (λ g. slice_set items i (file_of g.name bytes)) (sym is)
