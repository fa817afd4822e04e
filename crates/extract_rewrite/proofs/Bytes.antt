-- All bytes stay but those in the ranges of edits.
use Rattle.std.proofs.Common.{◌≡◌, ℕ, zero, suc, ◌+◌, ◌-◌, ◌<◌, ◌≤◌, Bool, true, false, cond, Option, Some, None, List, [], ◌∷◌, ◌++◌, append_assoc, map, reverse, length, take, drop, get_or}
use Rattle.std.proofs.Common.{refl, ap, sym, subst, ◌∙◌, arith, eqb-true, eq-eqb}
use Rattle.std.specs.Prelude.{nat_eq, slice_get, slice_range}
use Rattle.std.specs.List.{AllByRecursion}
use Rattle.std.specs.Option.{option_map}
use Rattle.std.specs.Str.{bytes_eq}
use Rattle.std.proofs.Math.Nat.{sub-zero}
use Rattle.std.proofs.Math.Seq.{take-add, drop-append_seam}
use Rattle.std.proofs.lemmas.List.{reverse-append, length-map, length-take-le, take-append-le, take-take, drop-drop}
use Rattle.std.proofs.lemmas.List.Folds.{drop_split}
use Rattle.std.proofs.lemmas.Option.{slice_get-get_or}
use Rattle.go_base.specs.declared.bytes.FileText.{FileText}
use Rattle.go_base.specs.Package.{ComesBefore, Ascends}
use Rattle.edit_apply.specs.declared.edits.Edit.{Edit}
use Rattle.edit_apply.specs.Edited.{file_of, spliced, edited}
use Rattle.edit_apply.specs.Applied.{IsInRange, edited_of, edited_by, applied}
use Rattle.edit_apply.proofs.Public.{by_number, edited_number}
use Rattle.extract_rewrite.specs.Order.{by_place}
use Rattle.extract_rewrite.specs.Renewed.{renewed, edits_in, OtherBytesStay}
use Rattle.extract_rewrite.proofs.Descending.{EndsBefore, Follow, placed_follow, placed_in_range}

-- ---- names stay

name_kept : (b : Bool) (f : FileText) (bytes : List ℕ) → (cond b (file_of f.name bytes) f).name ≡ f.name
name_kept true f bytes = refl
name_kept false f bytes = refl

names_edited : (fs : List FileText) (name : List ℕ) (s e : ℕ) (new : List ℕ) → map (λ f. f.name) (edited fs name s e new) ≡ map (λ f. f.name) fs
names_edited [] name s e new = refl
names_edited (f ∷ fs) name s e new = λ j. name_kept (bytes_eq f.name name) f (spliced f.bytes s e new) j ∷ names_edited fs name s e new j

pub names_of : (o : Option FileText) (fs : List FileText) (e : Edit) → map (λ f. f.name) (edited_of o fs e) ≡ map (λ f. f.name) fs
names_of None fs e = refl
names_of (Some f) fs e = names_edited fs f.name e.start e.end e.text

names_applied : (fs : List FileText) (es : List Edit) → map (λ f. f.name) (applied fs es) ≡ map (λ f. f.name) fs
names_applied fs [] = refl
names_applied fs (e ∷ es) = names_applied (edited_by fs e) es ∙ names_of (slice_get fs e.file) fs e

before_by : (w : List ℕ) (fs gs : List FileText) → map (λ f. f.name) fs ≡ map (λ f. f.name) gs → AllByRecursion (λ g. ComesBefore w g.name) fs → AllByRecursion (λ g. ComesBefore w g.name) gs
before_by w [] [] h k = tt
before_by w [] (g ∷ gs) h k = absurd (cc)
before_by w (f ∷ fs) [] h k = tt
before_by w (f ∷ fs) (g ∷ gs) h k =
    let one : f.name ≡ g.name = cc in
    let more : map (λ f. f.name) fs ≡ map (λ f. f.name) gs = cc in
    (subst (ComesBefore w) one k.0, before_by w fs gs more k.1)

pub ascends_by : (fs gs : List FileText) → map (λ f. f.name) fs ≡ map (λ f. f.name) gs → Ascends fs → Ascends gs
ascends_by [] [] h k = tt
ascends_by [] (g ∷ gs) h k = absurd (cc)
ascends_by (f ∷ fs) [] h k = tt
ascends_by (f ∷ fs) (g ∷ gs) h k =
    let one : f.name ≡ g.name = cc in
    let more : map (λ f. f.name) fs ≡ map (λ f. f.name) gs = cc in
    (subst (λ w. AllByRecursion (λ x. ComesBefore w x.name) gs) one (before_by f.name fs gs more k.0), ascends_by fs gs more k.1)

-- ---- one edit

abbrev bytes_at : List FileText → ℕ → Option (List ℕ)
bytes_at fs n = option_map (λ g. g.bytes) (slice_get fs n)

got_same : (fs : List FileText) (n s e : ℕ) (new : List ℕ) → bytes_at (edited_number fs n s e new) n ≡ option_map (λ b. spliced b s e new) (bytes_at fs n)
got_same [] n s e new = refl
got_same (f ∷ fs) zero s e new = refl
got_same (f ∷ fs) (suc n) s e new = got_same fs n s e new

got_other : (fs : List FileText) (m n s e : ℕ) (new : List ℕ) → (m ≡ n → ⊥) → bytes_at (edited_number fs m s e new) n ≡ bytes_at fs n
got_other [] m n s e new ne = refl
got_other (f ∷ fs) zero zero s e new ne = absurd (ne refl)
got_other (f ∷ fs) zero (suc n) s e new ne = refl
got_other (f ∷ fs) (suc m) zero s e new ne = refl
got_other (f ∷ fs) (suc m) (suc n) s e new ne = got_other fs m n s e new (λ is. ne (ap suc is))

differ : (m n : ℕ) → nat_eq m n ≡ false → m ≡ n → ⊥
differ m n h is = let same : nat_eq m n ≡ true = eq-eqb m n is in cc

-- ---- bytes in pieces

front : (bytes : List ℕ) (k : ℕ) → slice_range bytes 0 k ≡ take k bytes
front bytes k = ap (λ n. take n bytes) (sub-zero k)

pieces_join : (bytes : List ℕ) (i j k : ℕ) → i ≤ j → j ≤ k → slice_range bytes i k ≡ slice_range bytes i j ++ slice_range bytes j k
pieces_join bytes i j k a b =
    let sum : k - i ≡ (j - i) + (k - j) = omega arith in
    let at : i + (j - i) ≡ j = omega arith in
    ap (λ n. take n (drop i bytes)) sum ∙ take-add (j - i) (k - j) (drop i bytes)
    ∙ ap (λ l. slice_range bytes i j ++ take (k - j) l) (drop-drop (j - i) i bytes ∙ ap (λ n. drop n bytes) at)

-- where edits begin
abbrev BeginFrom : ℕ → List Edit → Type 0
BeginFrom k es = AllByRecursion (λ e. k ≤ e.start) es

later_on : (bytes : List ℕ) (i j : ℕ) (es : List Edit) → i ≤ j → BeginFrom j es → renewed bytes i es ≡ slice_range bytes i j ++ renewed bytes j es
later_on bytes i j [] a h = drop_split bytes i j a
later_on bytes i j (e ∷ es) a h =
    ap (λ l. l ++ (e.text ++ renewed bytes e.end es)) (pieces_join bytes i j e.start a h.0)
    ∙ append_assoc (slice_range bytes i j) (slice_range bytes j e.start) (e.text ++ renewed bytes e.end es)

one_spliced : (bytes new rest : List ℕ) (s e : ℕ) → s ≤ e → e ≤ length bytes → spliced (take e bytes ++ rest) s e new ≡ take s bytes ++ (new ++ rest)
one_spliced bytes new rest s e a b =
    let long : length (take e bytes) ≡ e = length-take-le e bytes b in
    let fits : s ≤ length (take e bytes) = omega arith in
    let before : take s (take e bytes ++ rest) ≡ take s bytes = take-append-le s (take e bytes) rest fits ∙ take-take s e bytes a in
    let behind : drop e (take e bytes ++ rest) ≡ rest = ap (λ n. drop n (take e bytes ++ rest)) (sym long) ∙ drop-append_seam (take e bytes) rest in
    (λ j. (before j ++ new) ++ behind j) ∙ append_assoc (take s bytes) new rest

one_renewed : (bytes : List ℕ) (d : Edit) (es : List Edit) → d.start ≤ d.end → d.end ≤ length bytes → BeginFrom d.end es
    → spliced (renewed bytes 0 es) d.start d.end d.text ≡ renewed bytes 0 (d ∷ es)
one_renewed bytes d es a b h =
    ap (λ l. spliced l d.start d.end d.text) (later_on bytes 0 d.end es (omega arith) h ∙ ap (λ l. l ++ renewed bytes d.end es) (front bytes d.end))
    ∙ one_spliced bytes d.text (renewed bytes d.end es) d.start d.end a b
    ∙ ap (λ l. l ++ (d.text ++ renewed bytes d.end es)) (sym (front bytes d.start))

-- ---- all edits

applied_behind : (fs : List FileText) (es : List Edit) (d : Edit) → applied fs (es ++ d ∷ []) ≡ edited_by (applied fs es) d
applied_behind fs [] d = refl
applied_behind fs (e ∷ es) d = applied_behind (edited_by fs e) es d

front_kept : (k n : ℕ) (e : Edit) (es : List Edit) (b : Bool) → (b ≡ true → k ≤ e.start) → BeginFrom k es → BeginFrom k (cond b (e ∷ es) es)
front_kept k n e es true h m = (h refl, m)
front_kept k n e es false h m = m

begin_behind : (n : ℕ) (d : Edit) (es : List Edit) → d.file ≡ n → AllByRecursion (EndsBefore d) es → BeginFrom d.end (edits_in n es)
begin_behind n d [] s h = tt
begin_behind n d (e ∷ es) s h = front_kept d.end n e (edits_in n es) (nat_eq e.file n) (λ t. h.0 (s ∙ sym (eqb-true e.file n t))) (begin_behind n d es s h.1)

edited_there : (fs : List FileText) (d : Edit) (n : ℕ) (bytes : List ℕ) (es : List Edit) (b : Bool) → nat_eq d.file n ≡ b → bytes_at fs n ≡ Some (renewed bytes 0 es)
    → (b ≡ true → spliced (renewed bytes 0 es) d.start d.end d.text ≡ renewed bytes 0 (d ∷ es))
    → bytes_at (edited_number fs d.file d.start d.end d.text) n ≡ Some (renewed bytes 0 (cond b (d ∷ es) es))
edited_there fs d n bytes es true t h k =
    ap (λ m. bytes_at (edited_number fs m d.start d.end d.text) n) (eqb-true d.file n t)
    ∙ got_same fs n d.start d.end d.text ∙ ap (option_map (λ b. spliced b d.start d.end d.text)) h ∙ ap Some (k refl)
edited_there fs d n bytes es false t h k = got_other fs d.file n d.start d.end d.text (differ d.file n t) ∙ h

module _ (files : List FileText) (ascends : Ascends files) where
  fits_there : (d : Edit) (n : ℕ) (f : FileText) → IsInRange files d → slice_get files n ≡ Some f → d.file ≡ n → d.end ≤ length f.bytes
  fits_there d n f r h s =
      let found : slice_get files d.file ≡ Some (get_or files d.file f) = slice_get-get_or files d.file f r.file in
      let here : slice_get files d.file ≡ Some f = ap (slice_get files) s ∙ h in
      let is : get_or files d.file f ≡ f = cc in
      subst (λ g. d.end ≤ length g.bytes) is (r.within f)

  all_done : (ds : List Edit) → Follow ds → AllByRecursion (IsInRange files) ds → (n : ℕ) (f : FileText) → slice_get files n ≡ Some f
      → bytes_at (applied files (reverse ds)) n ≡ Some (renewed f.bytes 0 (edits_in n ds))
  all_done [] w r n f h = ap (option_map (λ g. g.bytes)) h
  all_done (d ∷ ds) w r n f h =
      let names = names_applied files (reverse ds) in
      let above : Ascends (applied files (reverse ds)) = ascends_by files (applied files (reverse ds)) (sym names) ascends in
      let long : d.file < length (applied files (reverse ds)) = omega (arith, r.0.file, length-map (applied files (reverse ds)) (λ f. f.name), length-map files (λ f. f.name), ap length names) in
      ap (λ l. bytes_at l n) (ap (applied files) (reverse-append (d ∷ []) ds) ∙ applied_behind files (reverse ds) d ∙ by_number (applied files (reverse ds)) d above long)
      ∙ edited_there (applied files (reverse ds)) d n f.bytes (edits_in n ds) (nat_eq d.file n) refl (all_done ds w.1 r.1 n f h)
      (λ t. let s = eqb-true d.file n t in one_renewed f.bytes d (edits_in n ds) r.0.range (fits_there d n f r.0 h s) (begin_behind n d ds s w.0))

pub other_bytes_stay : OtherBytesStay
other_bytes_stay files es asc r a n f h = all_done files asc (by_place es) (placed_follow files es r a) (placed_in_range files es r) n f h
