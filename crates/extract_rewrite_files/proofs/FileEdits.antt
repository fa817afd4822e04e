-- The edits of a file, in order of place: a call at each of its members, and the function behind the template's file.
use Rattle.std.proofs.Common.{◌≡◌, ◌∙◌, ℕ, ◌<◌, ◌≤◌, ◌⊎◌, inl, inr, Bool, true, false, cond, List, [], ◌∷◌, ◌++◌, length, map, Some, refl, sym, ap, subst, arith, eq-eqb, eqb-true}
use Rattle.std.specs.Prelude.{nat_eq, slice_get}
use Rattle.std.specs.List.{AllByRecursion}
use Rattle.go_tree.specs.File.{FileTree}
use Rattle.go_types.specs.Trees.{TypeTree}
use Rattle.go_typed.specs.declared.window.Window.{Window}
use Rattle.go_typed.specs.Contents.{Content}
use Rattle.edit_apply.specs.declared.edits.Edit.{Edit}
use Rattle.param_choose.specs.Members.{Member}
use Rattle.escape_check.specs.Places.{bytes_in, file_of, sources_of, window_place}
use Rattle.extract_texts.specs.Texts.{file_text, function_for, text_of, window_bytes}
use Rattle.extract_rewrite.specs.Edits.{edit_at, file_end, window_edit}
use Rattle.extract_rewrite.specs.Order.{begins_before}
use Rattle.extract_rewrite.specs.Renewed.{edits_in}
use Rattle.extract_rewrite_files.proofs.Placed.{EndsBefore, Follow, IsIn, Rises}
use Rattle.extract_rewrite_files.proofs.Splits.{all_to}
use Rattle.extract_rewrite_files.proofs.Windows.{InRow}
use Rattle.std.proofs.lemmas.Bool.Decides.{nat_tests}

-- The window has bytes, which lie in its file.
pub record HasBytes (c : Content) (m : Member TypeTree) : Type 0 where
  pub file : FileTree
  pub there : slice_get c.files (file_of (sources_of c) m) ≡ Some file
  pub some : (window_bytes (sources_of c) m).start < (window_bytes (sources_of c) m).end
  pub within : (window_bytes (sources_of c) m).end ≤ length file.tokens.text

pub bytes_file : (c : Content) (m : Member TypeTree) → HasBytes c m → (window_bytes (sources_of c) m).file ≡ file_of (sources_of c) m
bytes_file c m h = ap (λ o. (bytes_in (window_place (sources_of c) m) o).file) h.there

later : (a b : Edit) → begins_before a b ≡ true → a.file ≡ b.file → b.start < a.start → ⊥
later a b h f lt = grind (arith, nat_tests)

itself : (a : Edit) → begins_before a a ≡ true → ⊥
itself a h = grind (arith, nat_tests)

in_some : (x : Edit) (n : ℕ) (ds : List Edit) → x.file ≡ n → IsIn x ds → IsIn x (edits_in n ds)
in_some x n [] s h = absurd h
in_some x n (d ∷ ds) s h = by (nat_eq d.file n) refl h (in_some x n ds s)
  where
    by : (b : Bool) → nat_eq d.file n ≡ b → (x ≡ d) ⊎ IsIn x ds → (IsIn x ds → IsIn x (edits_in n ds)) → IsIn x (cond b (d ∷ edits_in n ds) (edits_in n ds))
    by true e (inl k) f = inl k
    by true e (inr k) f = inr (f k)
    by false e (inl k) f = (let same : nat_eq d.file n ≡ true = eq-eqb d.file n (ap (λ (y : Edit). y.file) (sym k) ∙ s) in absurd cc)
    by false e (inr k) f = f k

in_first : (x : Edit) (fs gs : List Edit) → IsIn x (fs ++ gs) → IsIn x fs ⊎ IsIn x gs
in_first x [] gs h = inr h
in_first x (f ∷ fs) gs (inl k) = inl (inl k)
in_first x (f ∷ fs) gs (inr k) = elim (in_first x fs gs k) [ inl a ↦ inl (inr a) | inr b ↦ inr b ]

module _ (c : Content) (name : List ℕ) (ws : List Window) (t : Member TypeTree) (P : Member TypeTree → Type 0) (own : (m : Member TypeTree) → P m → HasBytes c m) where
  abbrev pub edit : Member TypeTree → Edit
  edit m = window_edit c name ws m

  -- the function behind the template's file
  abbrev pub behind : Edit
  behind = edit_at (file_end (sources_of c) t) (function_for c name ws)

  -- an edit at a member, or that of the function
  abbrev pub Comes : Edit → Type 0
  Comes e = ((m : Member TypeTree) × P m × (e ≡ edit m)) ⊎ (e ≡ behind)

  -- what stands behind the windows of a file
  abbrev pub IsBehind : ℕ → List Edit → Type 0
  IsBehind n es = (es ≡ []) ⊎ ((es ≡ behind ∷ []) × (n ≡ file_of (sources_of c) t))

  pub record AreEdits (n at : ℕ) (es : List Edit) : Type 0 where
    pub members : List (Member TypeTree)
    pub tail : List Edit
    pub is : es ≡ map edit members ++ tail
    pub are : AllByRecursion (λ m. P m × (file_of (sources_of c) m ≡ n)) members
    pub row : InRow (sources_of c) at members
    pub last : IsBehind n tail

  edit_file : (m : Member TypeTree) → P m → (edit m).file ≡ file_of (sources_of c) m
  edit_file m p = bytes_file c m (own m p)

  -- no edit of a member lies behind its file
  pub not_behind : (m : Member TypeTree) → P m → file_of (sources_of c) m ≡ file_of (sources_of c) t → (edit m).start < behind.start
  not_behind m p same =
      let h = own m p in
      let text : length (file_text (sources_of c) t) ≡ length h.file.tokens.text = ap (λ o. length (text_of o)) (ap (slice_get c.files) (sym same) ∙ h.there) in
      omega (arith, text, h.some, h.within)

  -- none of these edits is of the file, where the function is the first one of it
  none_behind : (n : ℕ) (ds : List Edit) → n ≡ file_of (sources_of c) t → AllByRecursion Comes ds → AllByRecursion (λ d. begins_before behind d ≡ true) ds → edits_in n ds ≡ []
  none_behind n [] s a h = refl
  none_behind n (d ∷ ds) s a h = by (nat_eq d.file n) refl a.0 (none_behind n ds s a.1 h.1)
    where
      by : (b : Bool) → nat_eq d.file n ≡ b → Comes d → edits_in n ds ≡ [] → cond b (d ∷ edits_in n ds) (edits_in n ds) ≡ []
      by false e k r = r
      by true e (inl k) r =
          let same : d.file ≡ n = eqb-true d.file n e in
          let file : (edit k.0).file ≡ file_of (sources_of c) t = ap (λ (x : Edit). x.file) (sym k.2) ∙ same ∙ s in
          let lt = not_behind k.0 k.1 (sym (edit_file k.0 k.1) ∙ file) in
          absurd (later behind (edit k.0) (subst (λ x. begins_before behind x ≡ true) k.2 h.0) (sym file) lt)
      by true e (inr k) r = absurd (itself behind (subst (λ x. begins_before behind x ≡ true) k h.0))

  walk : (n : ℕ) (ds : List Edit) (at : ℕ) → AllByRecursion Comes ds → AllByRecursion (λ d. d.file ≡ n → at ≤ d.start) ds → Follow ds → Rises ds → AreEdits n at (edits_in n ds)
  walk n [] at a b f r = record { members = []; tail = []; is = refl; are = tt; row = tt; last = inl refl }
  walk n (d ∷ ds) at a b f r = by (nat_eq d.file n) refl a.0 b.0 f.0 (λ k h. walk n ds k a.1 h f.1 r.1)
    where
      here : List Edit
      here = edits_in n ds

      at_member : (m : Member TypeTree) → P m → d ≡ edit m → d.file ≡ n → (d.file ≡ n → at ≤ d.start) → AllByRecursion (EndsBefore d) ds → ((k : ℕ) → AllByRecursion (λ e. e.file ≡ n → k ≤ e.start) ds → AreEdits n k (edits_in n ds))
          → AreEdits n at (d ∷ edits_in n ds)
      at_member m p e same low ends on =
          let end : d.end ≡ (window_bytes (sources_of c) m).end = ap (λ (x : Edit). x.end) e in
          let start : d.start ≡ (window_bytes (sources_of c) m).start = ap (λ (x : Edit). x.start) e in
          let file : file_of (sources_of c) m ≡ n = sym (edit_file m p) ∙ ap (λ (x : Edit). x.file) (sym e) ∙ same in
          let rest = on (window_bytes (sources_of c) m).end (all_to {P = EndsBefore d} {Q = λ x. x.file ≡ n → (window_bytes (sources_of c) m).end ≤ x.start} (λ x k there. let z = k (same ∙ sym there) in omega (arith, z, end)) ds ends) in
          record {
            members = m ∷ rest.members;
            tail = rest.tail;
            is = (λ j. e j ∷ rest.is j);
            are = ((p, file), rest.are);
            row = ((let z = low same in omega (arith, z, start)), rest.row);
            last = rest.last;
          }

      at_function : d ≡ behind → d.file ≡ n → AreEdits n at (d ∷ edits_in n ds)
      at_function e same =
          let file : n ≡ file_of (sources_of c) t = sym same ∙ ap (λ (x : Edit). x.file) e in
          let none = none_behind n ds file a.1 (subst (λ y. AllByRecursion (λ x. begins_before y x ≡ true) ds) e r.0) in
          record { members = []; tail = behind ∷ []; is = (λ j. e j ∷ none j); are = tt; row = tt; last = inr (refl, file) }

      by : (q : Bool) → nat_eq d.file n ≡ q → Comes d → (d.file ≡ n → at ≤ d.start) → AllByRecursion (EndsBefore d) ds → ((k : ℕ) → AllByRecursion (λ e. e.file ≡ n → k ≤ e.start) ds → AreEdits n k (edits_in n ds))
          → AreEdits n at (cond q (d ∷ edits_in n ds) (edits_in n ds))
      by false e k low ends on = on at b.1
      by true e (inl k) low ends on = at_member k.0 k.1 k.2 (eqb-true d.file n e) low ends on
      by true e (inr k) low ends on = at_function k (eqb-true d.file n e)

  all_from : (n : ℕ) (ds : List Edit) → AllByRecursion (λ d. d.file ≡ n → 0 ≤ d.start) ds
  all_from n [] = tt
  all_from n (d ∷ ds) = ((λ e. omega arith), all_from n ds)

  -- the edits of a file, where all are in order
  pub file_edits : (n : ℕ) (ds : List Edit) → AllByRecursion Comes ds → Follow ds → Rises ds → AreEdits n 0 (edits_in n ds)
  file_edits n ds a f r = walk n ds 0 a (all_from n ds) f r

  no_member : (n : ℕ) (ms : List (Member TypeTree)) → n ≡ file_of (sources_of c) t → AllByRecursion (λ m. P m × (file_of (sources_of c) m ≡ n)) ms → IsIn behind (map edit ms) → ⊥
  no_member n [] s a h = absurd h
  no_member n (m ∷ ms) s a (inl k) = let lt = not_behind m a.0.0 (a.0.1 ∙ s) in let same : behind.start ≡ (edit m).start = ap (λ (x : Edit). x.start) k in omega (arith, lt, same)
  no_member n (m ∷ ms) s a (inr k) = no_member n ms s a.1 k

  -- the function is one of them, where it is an edit at all
  pub function_there : (n : ℕ) (ds : List Edit) (r : AreEdits n 0 (edits_in n ds)) → n ≡ file_of (sources_of c) t → IsIn behind ds → r.tail ≡ behind ∷ []
  function_there n ds r s h = elim r.last [
    | inr k ↦ k.0
    | inl k ↦ absurd (elim (in_first behind (map edit r.members) r.tail (subst (IsIn behind) r.is (in_some behind n ds (sym s) h))) [
      | inl a ↦ no_member n r.members s r.are a
      | inr b ↦ subst (IsIn behind) k b
    ])
  ]

  pub nothing_there : (n : ℕ) (ds : List Edit) (r : AreEdits n 0 (edits_in n ds)) → (n ≡ file_of (sources_of c) t → ⊥) → r.tail ≡ []
  nothing_there n ds r s = elim r.last [ inl k ↦ k | inr k ↦ absurd (s k.1) ]

  -- the edit of a member of the file is one of them, where it is an edit at all
  pub member_there : (n : ℕ) (ds : List Edit) (r : AreEdits n 0 (edits_in n ds)) (m : Member TypeTree) → P m → file_of (sources_of c) m ≡ n → IsIn (edit m) ds → IsIn (edit m) (map edit r.members)
  member_there n ds r m p same h = by (in_first (edit m) (map edit r.members) r.tail (subst (IsIn (edit m)) r.is (in_some (edit m) n ds (edit_file m p ∙ same) h))) r.last
    where
      by : IsIn (edit m) (map edit r.members) ⊎ IsIn (edit m) r.tail → IsBehind n r.tail → IsIn (edit m) (map edit r.members)
      by (inl a) k = a
      by (inr b) (inl k) = absurd (subst (IsIn (edit m)) k b)
      by (inr b) (inr k) = absurd (elim (subst (IsIn (edit m)) k.0 b) [
        | inl e ↦ (let lt = not_behind m p (same ∙ k.1) in let start : (edit m).start ≡ behind.start = ap (λ (x : Edit). x.start) e in omega (arith, lt, start))
        | inr x ↦ x
      ])
