-- Files that are written anew in one pass each, give what the edits give one after the other.
use Rattle.std.proofs.Common.{◌≡◌, ◌≢◌, ℕ, zero, suc, ◌+◌, ◌-◌, ◌<◌, ◌≤◌, inl, inr, cond, eqb, true, false, List, [], ◌∷◌, ◌++◌, length, take, drop, map, get_or, refl, sym, ap, subst, ◌∙◌, arith, drop-cons}
use Rattle.std.specs.Prelude.{slice_set}
use Rattle.std.specs.List.{slice_range}
use Rattle.std.proofs.lemmas.Bool.Decides.{eqb_tells}
use Rattle.std.proofs.lemmas.List.{append_assoc, length-map, length-take-le, take-append-drop, take-append-le, take-take, drop_at, take_all, take_more, get_or-map, get_or-set_same, get_or-set_other, get_or_read, same_lists}
use Rattle.std.proofs.lemmas.List.Elements.{All-from_recursion}
use Rattle.std.proofs.Math.ListN.{drop_of_length-le}
use Rattle.std.proofs.Math.Seq.{take-add}
use Rattle.go_base.specs.declared.bytes.FileText.{FileText}
use Rattle.go_base.specs.Package.{Ascends, IsPackage}
use Rattle.edit_apply.specs.declared.edits.Edit.{Edit}
use Rattle.edit_apply.specs.Edited.{file_of, spliced}
use Rattle.edit_apply.specs.Applied.{edited_by, applied, IsInRange, Descends, AreApplicable}
use Rattle.edit_apply.specs.Begun.{Progress, start, written_to, finished_bytes, finished, AreRead}
use Rattle.edit_apply.proofs.Applied.{by_set, length-applied, next_edits, next_ascends}

-- ---- the definitions of the loop's facts

-- the bytes of the file with that number, after the edits
abbrev pub bytes_after : ℕ → List ℕ → List Edit → List ℕ
bytes_after k bytes [] = bytes
bytes_after k bytes (e ∷ es) = bytes_after k (cond (eqb e.file k) (spliced bytes e.start e.end e.text) bytes) es

-- the edits up to a number start behind what is read of their files
abbrev pub AreBefore : List Progress → List Edit → ℕ → Type 0
AreBefore ps edits n = (j : ℕ) (e : Edit) (p : Progress) → j < n → (get_or ps (get_or edits j e).file p).read ≤ (get_or edits j e).start

-- Whatever comes behind what is read of a file, the edits put what is written in front of it.
abbrev pub AreWritten : List FileText → List Progress → List Edit → Type 0
AreWritten files ps edits =
    (k : ℕ) (f : FileText) (p : Progress) (tail : List ℕ) → k < length files →
    bytes_after k (take (get_or ps k p).read (get_or files k f).bytes ++ tail) edits ≡ (get_or ps k p).written ++ tail

-- ---- a file of the edited package

edited_at : (files : List FileText) (e : Edit) (d : FileText) → Ascends files → e.file < length files → get_or (edited_by files e) e.file d ≡ file_of (get_or files e.file d).name (spliced (get_or files e.file d).bytes e.start e.end e.text)
edited_at files e d asc lt = ap (λ fs. get_or fs e.file d) (by_set files e d asc lt) ∙ get_or-set_same files e.file _ d lt

edited_other : (files : List FileText) (e : Edit) (k : ℕ) (d : FileText) → Ascends files → e.file < length files → k ≢ e.file → get_or (edited_by files e) k d ≡ get_or files k d
edited_other files e k d asc lt ne = ap (λ fs. get_or fs k d) (by_set files e d asc lt) ∙ get_or-set_other files e.file k _ d ne

one_at : (files : List FileText) (e : Edit) (k : ℕ) (d : FileText) → Ascends files → e.file < length files → get_or (edited_by files e) k d ≡ file_of (get_or files k d).name (cond (eqb e.file k) (spliced (get_or files k d).bytes e.start e.end e.text) (get_or files k d).bytes)
one_at files e k d asc lt =
    elim (eqb_tells e.file k) as (λ _. get_or (edited_by files e) k d ≡ file_of (get_or files k d).name (cond (eqb e.file k) (spliced (get_or files k d).bytes e.start e.end e.text) (get_or files k d).bytes)) [
      | inl same ↦
          subst (λ m. get_or (edited_by files e) m d ≡ file_of (get_or files m d).name (spliced (get_or files m d).bytes e.start e.end e.text)) same.1 (edited_at files e d asc lt)
          ∙ ap (λ b. file_of (get_or files k d).name (cond b (spliced (get_or files k d).bytes e.start e.end e.text) (get_or files k d).bytes)) (sym same.0)
      | inr apart ↦
          edited_other files e k d asc lt (λ is. apart.1 (sym is))
          ∙ ap (λ b. file_of (get_or files k d).name (cond b (spliced (get_or files k d).bytes e.start e.end e.text) (get_or files k d).bytes)) (sym apart.0)
    ]

applied_at : (files : List FileText) (edits : List Edit) (k : ℕ) (d : FileText) → Ascends files → AreApplicable files edits → get_or (applied files edits) k d ≡ file_of (get_or files k d).name (bytes_after k (get_or files k d).bytes edits)
applied_at files [] k d asc h = refl
applied_at files (e ∷ es) k d asc h =
    applied_at (edited_by files e) es k d (next_ascends files e asc h.ranges.0.file) (next_edits files e es asc h)
    ∙ ap (λ g. file_of g.name (bytes_after k g.bytes es)) (one_at files e k d asc h.ranges.0.file)

-- ---- before the first edit that is read

begun_at : (files : List FileText) (ps : List Progress) (k : ℕ) (p : Progress) → ps ≡ map (λ _. start) files → k < length files → get_or ps k p ≡ start
begun_at files ps k p is lt = ap (λ l. get_or l k p) is ∙ get_or-map (λ _. start) files k (file_of [] []) p lt

pub none_same : (files : List FileText) (ps : List Progress) → ps ≡ map (λ _. start) files → length ps ≡ length files
none_same files ps is = ap length is ∙ length-map files (λ _. start)

pub none_read : (files : List FileText) (ps : List Progress) → ps ≡ map (λ _. start) files → AreRead files ps
none_read files ps is k f p lt = let at : (get_or ps k p).read ≡ 0 = ap (λ g. g.read) (begun_at files ps k p is lt) in omega arith

pub none_before : (files : List FileText) (ps : List Progress) (edits : List Edit) → ps ≡ map (λ _. start) files → AreApplicable files edits → AreBefore ps edits (length edits)
none_before files ps edits is h j e p lt =
    let range : IsInRange files (get_or edits j e) = All-from_recursion (IsInRange files) edits h.ranges j e lt in
    let at : (get_or ps (get_or edits j e).file p).read ≡ 0 = ap (λ g. g.read) (begun_at files ps (get_or edits j e).file p is range.file) in
    omega arith

pub none_written : (files : List FileText) (ps : List Progress) (edits : List Edit) → ps ≡ map (λ _. start) files → AreWritten files ps (drop (length edits) edits)
none_written files ps edits is k f p tail lt =
    let at : get_or ps k p ≡ start = begun_at files ps k p is lt in
    let none : drop (length edits) edits ≡ [] = drop_of_length-le edits (omega arith) in
    (λ i. bytes_after k (take (at i).read (get_or files k f).bytes ++ tail) (none i)) ∙ ap (λ g. g.written ++ tail) (sym at)

-- ---- one more edit

module _ (files : List FileText) (ps : List Progress) (e : Edit) (after : Progress) where
  -- what the code has written, in terms of the lists
  pub written_is : (f : FileText) (p : Progress) (bytes : List ℕ) → e.file < length files → e.file < length ps → f ≡ get_or files e.file f → bytes ≡ f.bytes → p ≡ get_or ps e.file p → after ≡ written_to bytes p e → (g : FileText) (q : Progress) → after ≡ written_to (get_or files e.file g).bytes (get_or ps e.file q) e
  written_is f p bytes in-files in-ps f-is bytes-is p-is done g q =
      let same-bytes : bytes ≡ (get_or files e.file g).bytes = bytes-is ∙ ap (λ x. x.bytes) (get_or_read files e.file f in-files f-is g) in
      let same-progress : p ≡ get_or ps e.file q = get_or_read ps e.file p in-ps p-is q in
      done ∙ (λ j. written_to (same-bytes j) (same-progress j) e)

  pub read_step : e.file < length ps → IsInRange files e → after.read ≡ e.end → AreRead files ps → AreRead files (slice_set ps e.file after)
  read_step in-ps range end-is h k f p lt =
      elim (eqb_tells k e.file) as (λ _. (get_or (slice_set ps e.file after) k p).read ≤ length (get_or files k f).bytes) [
        | inl same ↦
            let at : (get_or (slice_set ps e.file after) e.file p).read ≡ e.end = ap (λ g. g.read) (get_or-set_same ps e.file after p in-ps) ∙ end-is in
            subst (λ m. (get_or (slice_set ps e.file after) m p).read ≤ length (get_or files m f).bytes) (sym same.1) (omega (arith, at, range.within f))
        | inr apart ↦ subst (λ g. g.read ≤ length (get_or files k f).bytes) (sym (get_or-set_other ps e.file k after p apart.1)) (h k f p lt)
      ]

descends_at : (edits : List Edit) → Descends edits → (j i : ℕ) (d : Edit) → j < i → i < length edits → (get_or edits i d).file ≡ (get_or edits j d).file → (get_or edits i d).end ≤ (get_or edits j d).start
descends_at [] h j i d ji lt = absurd (omega arith)
descends_at (e ∷ es) h zero zero d ji lt = absurd (omega arith)
descends_at (e ∷ es) h zero (suc i) d ji lt = All-from_recursion (λ later. later.file ≡ e.file → later.end ≤ e.start) es h.0 i d (omega arith)
descends_at (e ∷ es) h (suc j) zero d ji lt = absurd (omega arith)
descends_at (e ∷ es) h (suc j) (suc i) d ji lt = descends_at es h.1 j i d (omega arith) (omega arith)

pub before_step : (ps : List Progress) (edits : List Edit) (n i : ℕ) (e : Edit) (after : Progress) → i + 1 ≡ n → i < length edits → e ≡ get_or edits i e → e.file < length ps → after.read ≡ e.end → Descends edits → AreBefore ps edits n → AreBefore (slice_set ps e.file after) edits i
before_step ps edits n i e after next lt e-is in-ps end-is descends h j d p ji =
    let earlier : Edit = get_or edits j d in
    elim (eqb_tells earlier.file e.file) as (λ _. (get_or (slice_set ps e.file after) earlier.file p).read ≤ earlier.start) [
      | inl same ↦
          let here : e ≡ get_or edits i d = get_or_read edits i e lt e-is d in
          let ends : e.file ≡ earlier.file → e.end ≤ earlier.start = subst (λ x. x.file ≡ earlier.file → x.end ≤ earlier.start) (sym here) (descends_at edits descends j i d ji lt) in
          let le : e.end ≤ earlier.start = ends (sym same.1) in
          let at : (get_or (slice_set ps e.file after) e.file p).read ≡ e.end = ap (λ g. g.read) (get_or-set_same ps e.file after p in-ps) ∙ end-is in
          subst (λ m. (get_or (slice_set ps e.file after) m p).read ≤ earlier.start) (sym same.1) (omega (arith, at, le))
      | inr apart ↦ subst (λ g. g.read ≤ earlier.start) (sym (get_or-set_other ps e.file earlier.file after p apart.1)) (h j d p (omega arith))
    ]

-- ---- what is written in front of the rest

-- the edit of bytes of which those behind it are put in the place of others
splice_front : (bytes tail text : List ℕ) (r s e : ℕ) → r ≤ s → s ≤ e → e ≤ length bytes → spliced (take e bytes ++ tail) s e text ≡ take r bytes ++ ((slice_range bytes r s ++ text) ++ tail)
splice_front bytes tail text r s e rs se el =
    let long : length (take e bytes) ≡ e = length-take-le e bytes el in
    let front : take s (take e bytes ++ tail) ≡ take s bytes = take-append-le s (take e bytes) tail (omega arith) ∙ take-take s e bytes se in
    let behind : drop e (take e bytes ++ tail) ≡ tail = drop_at (take e bytes) tail e long in
    let sum : r + (s - r) ≡ s = omega arith in
    let parts : take s bytes ≡ take r bytes ++ slice_range bytes r s = ap (λ n. take n bytes) (sym sum) ∙ take-add r (s - r) bytes in
    (λ i. (front i ++ text) ++ behind i)
    ∙ ap (λ l. (l ++ text) ++ tail) parts
    ∙ simp append_assoc

write_front : (k : ℕ) (bytes : List ℕ) (p : Progress) (e : Edit) (rest : List Edit) → p.read ≤ e.start → e.start ≤ e.end → e.end ≤ length bytes → ((tail : List ℕ) → bytes_after k (take p.read bytes ++ tail) rest ≡ p.written ++ tail) → (tail : List ℕ) → bytes_after k (spliced (take e.end bytes ++ tail) e.start e.end e.text) rest ≡ (written_to bytes p e).written ++ tail
write_front k bytes p e rest rs se el h tail =
    ap (λ b. bytes_after k b rest) (splice_front bytes tail e.text p.read e.start e.end rs se el)
    ∙ h ((slice_range bytes p.read e.start ++ e.text) ++ tail)
    ∙ joined p.written (slice_range bytes p.read e.start) e.text tail
  where
    joined : (a b c d : List ℕ) → a ++ ((b ++ c) ++ d) ≡ ((a ++ b) ++ c) ++ d
    joined a b c d = simp append_assoc

module _ (files : List FileText) (ps : List Progress) (e : Edit) (after : Progress) (rest : List Edit) where
  -- of the file that is edited
  written_here : (f : FileText) (p : Progress) → e.file < length files → e.file < length ps → IsInRange files e → (get_or ps e.file p).read ≤ e.start → after ≡ written_to (get_or files e.file f).bytes (get_or ps e.file p) e → AreWritten files ps rest → eqb e.file e.file ≡ true → (tail : List ℕ) → bytes_after e.file (take (get_or (slice_set ps e.file after) e.file p).read (get_or files e.file f).bytes ++ tail) (e ∷ rest) ≡ (get_or (slice_set ps e.file after) e.file p).written ++ tail
  written_here f p in-files in-ps range front done h test tail =
      let bytes : List ℕ = (get_or files e.file f).bytes in
      let at : get_or (slice_set ps e.file after) e.file p ≡ written_to bytes (get_or ps e.file p) e = get_or-set_same ps e.file after p in-ps ∙ done in
      let core = write_front e.file bytes (get_or ps e.file p) e rest front range.range (range.within f) (λ t. h e.file f p t in-files) tail in
      subst (λ g. bytes_after e.file (take g.read bytes ++ tail) (e ∷ rest) ≡ g.written ++ tail) (sym at)
      (ap (λ b. bytes_after e.file (cond b (spliced (take e.end bytes ++ tail) e.start e.end e.text) (take e.end bytes ++ tail)) rest) test ∙ core)

  -- of another file
  written_other : (k : ℕ) (f : FileText) (p : Progress) → k < length files → k ≢ e.file → eqb e.file k ≡ false → AreWritten files ps rest → (tail : List ℕ) → bytes_after k (take (get_or (slice_set ps e.file after) k p).read (get_or files k f).bytes ++ tail) (e ∷ rest) ≡ (get_or (slice_set ps e.file after) k p).written ++ tail
  written_other k f p lt ne test h tail =
      let bytes : List ℕ = (get_or files k f).bytes in
      subst (λ g. bytes_after k (take g.read bytes ++ tail) (e ∷ rest) ≡ g.written ++ tail) (sym (get_or-set_other ps e.file k after p ne))
      (ap (λ b. bytes_after k (cond b (spliced (take (get_or ps k p).read bytes ++ tail) e.start e.end e.text) (take (get_or ps k p).read bytes ++ tail)) rest) test ∙ h k f p tail lt)

  written_more : e.file < length files → e.file < length ps → IsInRange files e → ((p : Progress) → (get_or ps e.file p).read ≤ e.start) → ((f : FileText) (p : Progress) → after ≡ written_to (get_or files e.file f).bytes (get_or ps e.file p) e) → AreWritten files ps rest → AreWritten files (slice_set ps e.file after) (e ∷ rest)
  written_more in-files in-ps range front done h k f p tail lt =
      elim (eqb_tells e.file k) as (λ _. bytes_after k (take (get_or (slice_set ps e.file after) k p).read (get_or files k f).bytes ++ tail) (e ∷ rest) ≡ (get_or (slice_set ps e.file after) k p).written ++ tail) [
        | inl same ↦
            let test : eqb e.file e.file ≡ true = subst (λ m. eqb e.file m ≡ true) (sym same.1) same.0 in
            subst (λ m. bytes_after m (take (get_or (slice_set ps e.file after) m p).read (get_or files m f).bytes ++ tail) (e ∷ rest) ≡ (get_or (slice_set ps e.file after) m p).written ++ tail) same.1
            (written_here f p in-files in-ps range (front p) (done f p) h test tail)
        | inr apart ↦ written_other k f p lt (λ is. apart.1 (sym is)) apart.0 h tail
      ]

drop_back : (edits : List Edit) (n i : ℕ) (e : Edit) → i + 1 ≡ n → i < length edits → e ≡ get_or edits i e → drop i edits ≡ e ∷ drop n edits
drop_back edits n i e next lt is = let same : suc i ≡ n = omega arith in drop-cons edits i e lt ∙ (λ j. sym is j ∷ drop (same j) edits)

pub front_of : (ps : List Progress) (edits : List Edit) (n i : ℕ) (e : Edit) → i + 1 ≡ n → e ≡ get_or edits i e → AreBefore ps edits n → (p : Progress) → (get_or ps e.file p).read ≤ e.start
front_of ps edits n i e next is h p = subst (λ x. (get_or ps x.file p).read ≤ x.start) (sym is) (h i e p (omega arith))

pub range_at : (files : List FileText) (edits : List Edit) (i : ℕ) (e : Edit) → i < length edits → e ≡ get_or edits i e → AreApplicable files edits → IsInRange files e
range_at files edits i e lt is h = subst (IsInRange files) (sym is) (All-from_recursion (IsInRange files) edits h.ranges i e lt)

pub written_step : (files : List FileText) (ps : List Progress) (edits : List Edit) (n i : ℕ) (e : Edit) (after : Progress) → i + 1 ≡ n → i < length edits → e ≡ get_or edits i e → e.file < length ps → AreApplicable files edits → AreBefore ps edits n → ((f : FileText) (p : Progress) → after ≡ written_to (get_or files e.file f).bytes (get_or ps e.file p) e) → AreWritten files ps (drop n edits) → AreWritten files (slice_set ps e.file after) (drop i edits)
written_step files ps edits n i e after next lt is in-ps ok before done h =
    let range : IsInRange files e = range_at files edits i e lt is ok in
    subst (AreWritten files (slice_set ps e.file after)) (sym (drop_back edits n i e next lt is))
    (written_more files ps e after (drop n edits) range.file in-ps range (front_of ps edits n i e next is before) done h)

-- ---- all files

length-finished : (files : List FileText) (ps : List Progress) → length ps ≡ length files → length (finished files ps) ≡ length files
length-finished [] ps same = refl
length-finished (f ∷ fs) [] same = absurd (omega arith)
length-finished (f ∷ fs) (p ∷ ps) same = ap suc (length-finished fs ps (omega arith))

finished_at : (files : List FileText) (ps : List Progress) (k : ℕ) (f g : FileText) (p : Progress) → length ps ≡ length files → k < length files → get_or (finished files ps) k g ≡ file_of (get_or files k f).name (finished_bytes (get_or files k f).bytes (get_or ps k p))
finished_at [] ps k f g p same lt = absurd (omega arith)
finished_at (x ∷ fs) [] k f g p same lt = absurd (omega arith)
finished_at (x ∷ fs) (y ∷ ps) zero f g p same lt = refl
finished_at (x ∷ fs) (y ∷ ps) (suc k) f g p same lt = finished_at fs ps k f g p (omega arith) (omega arith)

-- one more file, in terms of what the code has read
pub finished_more : (files : List FileText) (ps : List Progress) (k : ℕ) (f new : FileText) (p : Progress) (sofar : List FileText) → length ps ≡ length files → k < length files → f ≡ get_or files k f → p ≡ get_or ps k p → new ≡ file_of f.name (finished_bytes f.bytes p) → sofar ≡ take k (finished files ps) → sofar ++ new ∷ [] ≡ take (k + 1) (finished files ps)
finished_more files ps k f new p sofar same lt f-is p-is new-is so =
    let at : new ≡ get_or (finished files ps) k f = new-is ∙ (λ j. file_of (f-is j).name (finished_bytes (f-is j).bytes (p-is j))) ∙ sym (finished_at files ps k f f p same lt) in
    (λ j. so j ++ at j ∷ []) ∙ sym (take_more (finished files ps) k f (omega (arith, length-finished files ps same)))

pub finished_all : (files : List FileText) (ps : List Progress) (k : ℕ) → length ps ≡ length files → length files ≤ k → take k (finished files ps) ≡ finished files ps
finished_all files ps k same le = take_all k (finished files ps) (omega (arith, length-finished files ps same))

bytes_done : (files : List FileText) (ps : List Progress) (edits : List Edit) (k : ℕ) (f : FileText) (p : Progress) → k < length files → AreWritten files ps edits → finished_bytes (get_or files k f).bytes (get_or ps k p) ≡ bytes_after k (get_or files k f).bytes edits
bytes_done files ps edits k f p lt h =
    let bytes : List ℕ = (get_or files k f).bytes in
    sym (h k f p (drop (get_or ps k p).read bytes) lt) ∙ ap (λ b. bytes_after k b edits) (take-append-drop (get_or ps k p).read bytes)

done_all : (files : List FileText) (ps : List Progress) (edits : List Edit) → Ascends files → AreApplicable files edits → length ps ≡ length files → AreWritten files ps edits → finished files ps ≡ applied files edits
done_all files ps edits asc ok same h =
    let long = length-finished files ps same in
    same_lists (finished files ps) (applied files edits) (long ∙ sym (length-applied files edits))
    (λ k d lt.
    let less : k < length files = omega (arith, long) in
    finished_at files ps k d d start same less
    ∙ ap (λ b. file_of (get_or files k d).name b) (bytes_done files ps edits k d start less h)
    ∙ sym (applied_at files edits k d asc ok))

pub all_written : (files : List FileText) (ps : List Progress) (edits : List Edit) (n : ℕ) → n ≤ 0 → IsPackage files → AreApplicable files edits → length ps ≡ length files → AreWritten files ps (drop n edits) → finished files ps ≡ applied files edits
all_written files ps edits zero none whole ok same h = done_all files ps edits whole.ascends ok same h
all_written files ps edits (suc n) none whole ok same h = absurd (omega arith)
