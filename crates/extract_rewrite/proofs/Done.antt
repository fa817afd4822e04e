-- The edits that take windows out, to which no code applies, may be done one after the other.
use Rattle.std.proofs.Common.{◌≡◌, ◌∙◌, ℕ, zero, suc, ◌-◌, ◌<◌, ◌≤◌, List, [], ◌∷◌, ◌++◌, length, map, Some, slice_get, get_or, refl, sym, ap, subst, arith, inl, inr}
use Rattle.std.specs.List.{AllByRecursion}
use Rattle.std.proofs.lemmas.Bool.{cases_lt}
use Rattle.go_base.specs.declared.bytes.FileText.{FileText}
use Rattle.go_base.specs.Package.{most_bytes, total_bytes}
use Rattle.go_tree.specs.File.{FileTree}
use Rattle.go_types.specs.Trees.{TypeTree}
use Rattle.go_typed.specs.declared.window.Window.{Window}
use Rattle.go_typed.specs.Contents.{Content, content}
use Rattle.go_typed.specs.Packages.{PackageView}
use Rattle.go_package_defs.specs.Checked.{IsCheckedPackage, texts_of}
use Rattle.edit_apply.specs.declared.edits.Edit.{Edit}
use Rattle.edit_apply.specs.Applied.{IsInRange}
use Rattle.param_choose.specs.Members.{Member, members_of, template_of}
use Rattle.escape_check.specs.Apart as tokens
use Rattle.escape_check.specs.Places.{file_of, sources_of}
use Rattle.extract_texts.specs.Texts.{file_text, function_for, text_of, window_bytes}
use Rattle.go_function_places.specs.Places.{AreInOrder, FunctionPlace, HavePlaces, StandsBefore}
use Rattle.extract_rewrite.specs.Apart.{AreApart, AllApart}
use Rattle.extract_rewrite.specs.Edits.{edit_at, edits, file_end, function_edit, window_edit}
use Rattle.extract_rewrite.specs.Order.{from_the_end}
use Rattle.extract_rewrite.specs.Ready.{CanBeDone, EditsCanBeDone}
use Rattle.extract_rewrite.proofs.CheckedFiles.{its_texts}
use Rattle.extract_rewrite.proofs.Descending.{can_be_done, turned}
use Rattle.extract_rewrite.proofs.Runs.{before, ranges}
use Rattle.extract_rewrite.proofs.Standing.{IsPlaced, all_placed, begin_of, end_of, file_is, file_there, in_text, lies, nothing_stands, same_some, template_placed}

-- ---- functions in order

later_at : (p q : FunctionPlace) (ps : List FunctionPlace) (k : ℕ) → AllByRecursion (StandsBefore p) ps → slice_get ps k ≡ Some q → StandsBefore p q
later_at p q [] k h e = absurd cc
later_at p q (r ∷ ps) zero h e = subst (StandsBefore p) (same_some r q e) h.0
later_at p q (r ∷ ps) (suc k) h e = later_at p q ps k h.1 e

in_order : (ps : List FunctionPlace) (i j : ℕ) (p q : FunctionPlace) → AreInOrder ps → i < j → slice_get ps i ≡ Some p → slice_get ps j ≡ Some q → StandsBefore p q
in_order [] i j p q h lt a b = absurd cc
in_order (r ∷ ps) i zero p q h lt a b = absurd (omega (arith, lt))
in_order (r ∷ ps) zero (suc j) p q h lt a b = subst (λ z. StandsBefore z q) (same_some r p a) (later_at r q ps j h.0 b)
in_order (r ∷ ps) (suc i) (suc j) p q h lt a b = in_order ps i j p q h.1 (omega (arith, lt)) a b

in_front : (p q : FunctionPlace) → StandsBefore p q → p.file ≡ q.file → p.last ≤ q.first
in_front p q (inl less) e = absurd (omega (arith, less, e))
in_front p q (inr h) e = h.1

-- ---- members of one function, and of two

module _ (c : Content) (h : HavePlaces c) (name : List ℕ) (ws : List Window) where
  abbrev Placed : Member TypeTree → Type 0
  Placed m = IsPlaced c h.places m

  abbrev edit : Member TypeTree → Edit
  edit m = window_edit c name ws m

  -- the function of the one is in front of that of the other
  across : (m n : Member TypeTree) → Placed m → Placed n → m.window.func < n.window.func → AreApart (edit m) (edit n)
  across m n q r lt same =
      let files : q.place.file ≡ r.place.file = sym (file_is c h.places m q) ∙ same ∙ file_is c h.places n r in
      let one : q.stands.file ≡ r.stands.file = same_some q.stands.file r.stands.file (sym q.stands.there ∙ ap (slice_get c.files) files ∙ r.stands.there) in
      let order : q.place.last ≤ r.place.first = in_front q.place r.place (in_order h.places m.window.func n.window.func q.place r.place h.order lt q.there r.there) files in
      let l = r.stands.file.tokens in
      let a : (window_bytes (sources_of c) m).end ≤ end_of r.stands.file q.place = subst (λ f. (window_bytes (sources_of c) m).end ≤ end_of f q.place) one (lies c h.places m q).high in
      let first = q.stands.some in
      let some = r.stands.some in
      let within = r.stands.within in
      let b = before l.tokens 0 (length l.text) r.stands.ordered (q.place.last - 1) r.place.first (omega (arith, order, first)) (omega (arith, some, within)) in
      let low = (lies c h.places n r).low in
      inl (omega (arith, a, b, low))

  -- both are of one function
  within_one : (m n : Member TypeTree) (q : Placed m) (r : Placed n) → m.window.func ≡ n.window.func → tokens.AreApart m n → AreApart (edit m) (edit n)
  within_one m n q r funcs apart same =
      let place : q.place ≡ r.place = same_some q.place r.place (sym q.there ∙ ap (slice_get h.places) funcs ∙ r.there) in
      let one : q.stands.file ≡ r.stands.file =
      same_some q.stands.file r.stands.file (sym q.stands.there ∙ ap (λ (p : FunctionPlace). slice_get c.files p.file) place ∙ r.stands.there) in
      let begins : begin_of q.stands.file q.place ≡ begin_of r.stands.file r.place = λ j. begin_of (one j) (place j) in
      let low = (lies c h.places m q).low in
      let other = (lies c h.places n r).low in
      elim q.tokens [
        | inl e ↦ (let ends = nothing_stands c h.places m q e.0 e.1 in inl (omega (arith, ends, begins, other)))
        | inr e ↦ elim r.tokens [
          | inl d ↦ (let ends = nothing_stands c h.places n r d.0 d.1 in inr (omega (arith, ends, begins, low)))
          | inr d ↦
              let first : m.first ≡ q.place.first = q.first in
              let second : n.first ≡ r.place.first = r.first in
              let firsts : q.place.first ≡ r.place.first = ap (λ (p : FunctionPlace). p.first) place in
              let own = q.stands.some in
              let own_within = q.stands.within in
              let some = r.stands.some in
              let within = r.stands.within in
              ranges (sources_of c) r.stands.file m n (first ∙ firsts ∙ sym second) funcs
              (record { some = e.0; there = file_there c h.places m q ∙ ap Some one; tokens = omega (arith, first, own, own_within, e.1, ap (λ (f : FileTree). length f.tokens.tokens) one); ordered = r.stands.ordered })
              (record { some = d.0; there = file_there c h.places n r; tokens = omega (arith, second, some, within, d.1); ordered = r.stands.ordered }) apart
        ]
      ]

  apart_edits : (m n : Member TypeTree) → Placed m → Placed n → tokens.AreApart m n → AreApart (edit m) (edit n)
  apart_edits m n q r apart = elim (cases_lt m.window.func n.window.func) [
    | inl less ↦ across m n q r less
    | inr more ↦ elim (cases_lt n.window.func m.window.func) [
      | inl less ↦ turned (edit n) (edit m) (across n m r q less)
      | inr least ↦ within_one m n q r (omega (arith, more, least)) apart
    ]
  ]

  apart_from : (m : Member TypeTree) (ns : List (Member TypeTree)) → Placed m → AllByRecursion Placed ns → AllByRecursion (tokens.AreApart m) ns → AllByRecursion (AreApart (edit m)) (map edit ns)
  apart_from m [] q r a = tt
  apart_from m (n ∷ ns) q r a = (apart_edits m n q r.0 a.0, apart_from m ns q r.1 a.1)

  all_apart : (ms : List (Member TypeTree)) → AllByRecursion Placed ms → tokens.AllApart ms → AllApart (map edit ms)
  all_apart [] q a = tt
  all_apart (m ∷ ms) q a = (apart_from m ms q.0 q.1 a.0, all_apart ms q.1 a.1)

  -- ---- the function, behind the template's file

  abbrev behind : Member TypeTree → Edit
  behind t = edit_at (file_end (sources_of c) t) (function_for c name ws)

  file_length : (t : Member TypeTree) (q : Placed t) → length (file_text (sources_of c) t) ≡ length q.stands.file.tokens.text
  file_length t q = ap (λ o. length (text_of o)) (file_there c h.places t q)

  apart_behind : (t m : Member TypeTree) → Placed t → Placed m → AreApart (behind t) (edit m)
  apart_behind t m q r same =
      let files : file_of (sources_of c) t ≡ r.place.file = same ∙ file_is c h.places m r in
      let one : q.stands.file ≡ r.stands.file = same_some q.stands.file r.stands.file (sym (file_there c h.places t q) ∙ ap (slice_get c.files) files ∙ r.stands.there) in
      let long = file_length t q in
      let texts : length q.stands.file.tokens.text ≡ length r.stands.file.tokens.text = ap (λ (f : FileTree). length f.tokens.text) one in
      let ends = in_text c h.places m r in
      inr (omega (arith, long, texts, ends))

  all_behind : (t : Member TypeTree) (ms : List (Member TypeTree)) → Placed t → AllByRecursion Placed ms → AllByRecursion (AreApart (behind t)) (map edit ms)
  all_behind t [] q r = tt
  all_behind t (m ∷ ms) q r = (apart_behind t m q r.0, all_behind t ms q r.1)

  -- ---- in their files

  module _ (texts : List FileText) (same : map (λ f. f.bytes) texts ≡ map (λ f. f.tokens.text) c.files) where
    text_there : (xs : List FileText) (fs : List FileTree) (k : ℕ) (f : FileTree) → map (λ x. x.bytes) xs ≡ map (λ x. x.tokens.text) fs → slice_get fs k ≡ Some f
        → (k < length xs) × ((d : FileText) → (get_or xs k d).bytes ≡ f.tokens.text)
    text_there xs [] k f e at = absurd cc
    text_there [] (g ∷ fs) k f e at = absurd cc
    text_there (x ∷ xs) (g ∷ fs) zero f e at = let one : x.bytes ≡ g.tokens.text = cc in (omega arith, λ d. one ∙ ap (λ (z : FileTree). z.tokens.text) (same_some g f at))
    text_there (x ∷ xs) (g ∷ fs) (suc k) f e at =
        let more : map (λ x. x.bytes) xs ≡ map (λ x. x.tokens.text) fs = cc in
        let r = text_there xs fs k f more at in
        (omega (arith, r.0), r.1)

    member_in_range : (m : Member TypeTree) → Placed m → IsInRange texts (edit m)
    member_in_range m q =
        let at : slice_get c.files (window_bytes (sources_of c) m).file ≡ Some q.stands.file = ap (slice_get c.files) (file_is c h.places m q) ∙ q.stands.there in
        let r = text_there texts c.files (window_bytes (sources_of c) m).file q.stands.file same at in
        let ends = in_text c h.places m q in
        record { file = r.0; range = (lies c h.places m q).order; within = λ d. omega (arith, ends, ap length (r.1 d)) }

    behind_in_range : (t : Member TypeTree) → Placed t → IsInRange texts (behind t)
    behind_in_range t q =
        let r = text_there texts c.files (file_of (sources_of c) t) q.stands.file same (file_there c h.places t q) in
        let long = file_length t q in
        record { file = r.0; range = omega arith; within = λ d. omega (arith, long, ap length (r.1 d)) }

    all_in_range : (ms : List (Member TypeTree)) → AllByRecursion Placed ms → AllByRecursion (IsInRange texts) (map edit ms)
    all_in_range [] q = tt
    all_in_range (m ∷ ms) q = (member_in_range m q.0, all_in_range ms q.1)

    done : (t : Member TypeTree) → template_of c ws ≡ Some t → tokens.AllApart (members_of c ws) → CanBeDone texts (edits c name ws)
    done t there apart =
        let ms = members_of c ws in
        let q = template_placed c h ws t there in
        let rs = all_placed c h ws in
        subst (λ o. CanBeDone texts (from_the_end (function_edit c name ws o ++ map edit ms))) (sym there)
        (can_be_done texts (behind t ∷ map edit ms) (behind_in_range t q, all_in_range ms rs) (all_behind t ms q rs, all_apart ms rs apart))

pub edits_done : ((p : PackageView) → IsCheckedPackage p → total_bytes (texts_of p) ≤ most_bytes → HavePlaces (content p)) → tokens.UnrefusedAreApart → EditsCanBeDone
edits_done law apart p name ws t h small there none =
    done (content p) (law p h small) name ws (texts_of p) (its_texts p (texts_of p) h refl) t there (apart (content p) name ws t there none)
