-- The tokens of a text in which ranges are replaced.
use Rattle.std.proofs.Common.{◌≡◌, ℕ, zero, suc, ◌+◌, ◌-◌, ◌<◌, ◌≤◌, ◌⊎◌, inl, inr, true, List, [], ◌∷◌, ◌++◌, length, map, Some, refl, sym, ap, ◌∙◌, subst, arith}
use Rattle.std.specs.Prelude.{slice_get}
use Rattle.std.proofs.lemmas.List.{map-append}
use Rattle.go_base.specs.declared.Span.{Span}
use Rattle.go_tokens.specs.declared.token.Token.{Token}
use Rattle.go_tokens.specs.Lexing.{join, width, tokens, Lexes}
use Rattle.go_tokens.specs.Tokens.{AreOrdered, span_of, kinds}
use Rattle.go_tokens.specs.Replacing.{Item, read, items, IsAppended, Part, Kept, Replaced, old_pieces, Fits, spliced}
use Rattle.go_tokens.specs.Editing.{old_text, new_text, IsAmong, Spans, Allows, EditedLexing}
use Rattle.go_tokens.proofs.Public.{width-nil, tokens_ordered, one_cut, read_all, edited}
use Rattle.go_rewriting.specs.Places.{Ascending, changed, ranges}
use Rattle.go_rewriting.specs.Rewriting.{Rewrite, edits, changes, rewritten, IsRange, TextsFit, IsTail, NewTokens}
use Rattle.go_rewriting.proofs.Numbers.{earlier}
use Rattle.go_rewriting.proofs.Parts.{swaps_of, swaps, swapped, rewritten_swaps, spliced_swapped, kind_in, to_changes, kinds_read, same_changes, changed_kinds, swaps_ascend}
use Rattle.go_rewriting.proofs.Aligned.{aligned}
use Rattle.go_rewriting.proofs.Items.{items_kept}

pub among_get : (ts : List Token) (i : ℕ) (t : Token) → slice_get ts i ≡ Some t → IsAmong ts t
among_get [] i t e = cc
among_get (u ∷ ts) zero t e = inl (cc)
among_get (u ∷ ts) (suc i) t e = inr (among_get ts i t e)

apart : (i k : ℕ) → i ≤ k → (i ≡ k) ⊎ (i < k)
apart i k le = grind arith

pub some_range : (n : ℕ) (ts : List Token) (from upto start end : ℕ) → AreOrdered 0 (map span_of ts) n → IsRange ts from upto start end → start < end
some_range n ts from upto start end o r = elim (apart from (upto - 1) (omega (arith, r.order))) [
  | inl same ↦
      let one : Some r.first ≡ Some r.last = sym r.has_first ∙ ap (slice_get ts) same ∙ r.has_last in
      let token : r.first ≡ r.last = cc in
      let end_is : r.first.span.end ≡ r.last.span.end = ap (λ (t : Token). t.span.end) token in
      omega (arith, r.begins, r.ends, r.first_written, end_is)
  | inr lt ↦ omega (arith, r.begins, r.ends, r.first_written, r.last_written, earlier 0 n ts from (upto - 1) r.first r.last o lt r.has_first r.has_last)
]

abbrev pub spans_of : (n : ℕ) (ts : List Token) (from upto start end : ℕ) → AreOrdered 0 (map span_of ts) n → IsRange ts from upto start end → Spans ts start end
spans_of n ts from upto start end o r = record {
  first = r.first;
  last = r.last;
  has_first = among_get ts from r.first r.has_first;
  has_last = among_get ts (upto - 1) r.last r.has_last;
  first_written = r.first_written;
  last_written = r.last_written;
  begins = r.begins;
  ends = r.ends;
  some = some_range n ts from upto start end o r;
}

allows : (file n : ℕ) (ts : List Token) (at : ℕ) (rs : List Rewrite) (rest tail : List ℕ) (us : List Token) → AreOrdered 0 (map span_of ts) n → TextsFit file ts at rs rest tail → IsTail file tail us → Allows file ts at (edits rs rest) tail
allows file n ts at [] rest tail us o h t = (t.begins, (us, t.comments, t.lexes))
allows file n ts at (r ∷ rs) rest tail us o h t =
    (spans_of n ts r.from r.upto (at + width r.kept) (at + width r.kept + width r.old) o h.0.range, h.0.stands, h.0.apart_before, h.0.apart_behind, h.0.line, allows file n ts (at + width r.kept + width r.old) rs rest tail us o h.1 t)

fits_appended : (parts : List Part) (tail : List (List ℕ)) → Fits parts tail → IsAppended tail
fits_appended [] tail f = f
fits_appended (Kept ps ∷ parts) tail f = fits_appended parts tail f.1
fits_appended (Replaced a b ∷ parts) tail f = fits_appended parts tail f.4

length_map : {A B : Type 0} (f : A → B) (xs : List A) → length (map f xs) ≡ length xs
length_map f [] = refl
length_map f (x ∷ xs) = ap suc (length_map f xs)

-- the tokens of the new text; and the changes lie one behind the other
pub record Found (file : ℕ) (ts : List Token) (rs : List Rewrite) (rest tail : List ℕ) (us : List Token) : Type 0 where
  pub new : NewTokens file ts rs rest tail us
  pub ascend : Ascending 0 (ranges (changes rs)) (length (kinds ts))

pub found : (file : ℕ) (ts : List Token) (cs : List Span) (rs : List Rewrite) (rest tail : List ℕ) (us : List Token) → Lexes file (old_text (edits rs rest)) ts cs → TextsFit file ts 0 rs rest tail → IsTail file tail us → Found file ts rs rest tail us
found file ts cs rs rest tail us l h t = record {
  new = record { tokens = e.tokens; comments = e.comments; lexes = e.lexes; texts = texts; kept = items_kept (map (read (old_text (edits rs rest))) ts) rs (subst (Ascending 0 (ranges (changes rs))) many ascend); kinds_are = kinds_are };
  ascend = ascend;
}
  where
    old : List ℕ
    old = old_text (edits rs rest)

    new : List ℕ
    new = new_text (edits rs rest) tail

    ordered : AreOrdered 0 (map span_of ts) (0 + width (join l.pieces))
    ordered = subst (λ xs. AreOrdered 0 (map span_of xs) (0 + width (join l.pieces))) (sym l.spelled) (tokens_ordered file 0 l.pieces true)

    e : EditedLexing file (edits rs rest) tail ts
    e = edited file (edits rs rest) tail ts cs l (allows file (0 + width (join l.pieces)) ts 0 rs rest tail us ordered h t)

    whole : List (List ℕ)
    whole = old_pieces e.parts

    spelled : ts ≡ tokens file 0 (old_pieces e.parts) true
    spelled = l.spelled ∙ ap (λ ps. tokens file 0 ps true) (one_cut l.pieces (old_pieces e.parts) l.cut e.cut (ap (λ x. x ++ []) (l.whole ∙ sym e.old_is)))

    exchanged : swaps_of 0 e.parts ≡ swaps rs
    exchanged = aligned file (old_pieces e.parts) e.cut rs rest tail e.parts e.tail_pieces [] 0 0 refl (sym width-nil) refl e.matches e.fits (subst (λ xs. TextsFit file xs 0 rs rest tail) spelled h)

    old_items : spliced (λ old new. old) e.parts ≡ map (read (old_text (edits rs rest))) ts
    old_items = sym e.old

    new_items : spliced (λ old new. new) e.parts ≡ rewritten rs (map (read (old_text (edits rs rest))) ts)
    new_items = sym (spliced_swapped e.parts [] 0 refl) ∙ ap (λ xs. swapped xs (spliced (λ old new. old) e.parts)) exchanged ∙ ap (swapped (swaps rs)) old_items ∙ rewritten_swaps rs (map (read (old_text (edits rs rest))) ts)

    tail_items : items e.tail_pieces true ≡ map (read tail) us
    tail_items =
        let same : t.lexes.pieces ≡ e.tail_pieces = one_cut t.lexes.pieces e.tail_pieces t.lexes.cut (fits_appended e.parts e.tail_pieces e.fits).cut (ap (λ x. x ++ []) (t.lexes.whole ∙ sym e.tail_is)) in
        sym (ap (map (read tail)) (t.lexes.spelled ∙ ap (λ ps. tokens file 0 ps true) same) ∙ read_all file tail [] e.tail_pieces 0 true (sym e.tail_is) (sym width-nil))

    texts : map (read (new_text (edits rs rest) tail)) e.tokens ≡ rewritten rs (map (read (old_text (edits rs rest))) ts) ++ map (read tail) us
    texts = e.new ∙ ap (λ x. x ++ items e.tail_pieces true) new_items ∙ ap (λ x. rewritten rs (map (read (old_text (edits rs rest))) ts) ++ x) tail_items

    kinds_are : kinds e.tokens ≡ changed (changes rs) (kinds ts) ++ kinds us
    kinds_are =
        let before : List Item = map (read (old_text (edits rs rest))) ts in
        sym (kinds_read (new_text (edits rs rest) tail) e.tokens)
        ∙ ap (map kind_in) texts
        ∙ map-append kind_in (rewritten rs before) (map (read tail) us)
        ∙ ap (λ x. map kind_in (rewritten rs before) ++ x) (kinds_read tail us)
        ∙ ap (λ x. x ++ kinds us) (ap (map kind_in) (sym (rewritten_swaps rs before)) ∙ changed_kinds (swaps rs) before ∙ ap (λ xs. changed xs (map kind_in before)) (same_changes rs) ∙ ap (changed (changes rs)) (kinds_read (old_text (edits rs rest)) ts))

    long : 0 + length (spliced (λ old new. old) e.parts) ≡ length (kinds ts)
    long =
        let many : length (spliced (λ old new. old) e.parts) ≡ length ts = ap length old_items ∙ length_map (read (old_text (edits rs rest))) ts in
        let kinds_many : length (kinds ts) ≡ length ts = length_map (λ (t : Token). t.kind) ts in
        omega (arith, many, kinds_many)

    ascend : Ascending 0 (ranges (changes rs)) (length (kinds ts))
    ascend = subst (λ xs. Ascending 0 (ranges xs) (length (kinds ts))) (ap to_changes exchanged ∙ same_changes rs) (subst (Ascending 0 (ranges (to_changes (swaps_of 0 e.parts)))) long (swaps_ascend e.parts e.tail_pieces 0 e.fits))

    many : length (kinds ts) ≡ length (map (read (old_text (edits rs rest))) ts)
    many = length_map (λ (t : Token). t.kind) ts ∙ sym (length_map (read (old_text (edits rs rest))) ts)
