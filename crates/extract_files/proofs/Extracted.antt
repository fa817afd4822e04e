-- The files of an extraction are rewritten.
use Rattle.std.proofs.Common.{◌≡◌, ℕ, ◌+◌, List, [], ◌∷◌, ◌++◌, drop, map, append_assoc, refl, sym, ap, ◌∙◌, subst, arith}
use Rattle.std.specs.Prelude.{slice_range}
use Rattle.std.specs.Str.{encode_utf8_all}
use Rattle.std.proofs.lemmas.List.{drop_at}
use Rattle.std.proofs.lemmas.Str.{encodes-append}
use Rattle.go_tokens.specs.Lexing.{width}
use Rattle.go_tokens.proofs.Public.{width-append, width-nil}
use Rattle.go_types.specs.Trees.{TypeTree}
use Rattle.go_rewriting.specs.Rewriting.{Rewrite}
use Rattle.go_print_laws.specs.Calls as calls
use Rattle.param_choose.specs.Choosing.{Choice}
use Rattle.param_choose.specs.Members.{Member}
use Rattle.escape_check.specs.Places.{Sources}
use Rattle.escape_check.specs.Types.{declared_text}
use Rattle.extract_texts.specs.Texts.{call_of, call_text, window_bytes}
use Rattle.extract_files.specs.Files.{Window, AllStandFor, CalledFilesAreRewritten, call_chars, called_text, file_text}
use Rattle.extract_files.specs.Extracted.{with_texts, AreMembers, ExtractedFilesAreRewritten}
use Rattle.extract_files.proofs.Functions.{part_bytes}

-- the bytes behind a place
bytes_behind : (pre rest : List ℕ) (at : ℕ) → at ≡ width pre → drop at (encode_utf8_all (pre ++ rest)) ≡ encode_utf8_all rest
unfolding width
bytes_behind pre rest at e = ap (drop at) (encodes-append pre rest) ∙ drop_at (encode_utf8_all pre) (encode_utf8_all rest) at (sym e)

-- the bytes with the calls
called_bytes : (s : Sources) (name : List ℕ) (t : Member TypeTree) (h : Choice TypeTree) (f : ℕ → List ℕ) → f ≡ declared_text s → (ms : List (Member TypeTree)) (xs : List Window) (rs : List Rewrite) (pre rest tail : List ℕ) (text : List ℕ) (at : ℕ) → text ≡ pre ++ file_text xs rest → at ≡ width pre
    → AreMembers s name t h at ms xs → AllStandFor f rs xs → encode_utf8_all (called_text f xs (rest ++ tail)) ≡ with_texts (encode_utf8_all text) at (map (window_bytes s) ms) (map (call_text (λ x. x) s name t h) ms) ++ encode_utf8_all tail
called_bytes s name t h f n [] [] rs pre rest tail text at e a m st =
    encodes-append rest tail ∙ ap (λ l. l ++ encode_utf8_all tail) (sym (ap (λ l. drop at (encode_utf8_all l)) e ∙ bytes_behind pre rest at a))
called_bytes s name t h f n [] (x ∷ xs) rs pre rest tail text at e a m st = absurd m
called_bytes s name t h f n (y ∷ ms) [] rs pre rest tail text at e a m st = absurd m
called_bytes s name t h f n (y ∷ ms) (x ∷ xs) [] pre rest tail text at e a m st = absurd st
called_bytes s name t h f n (y ∷ ms) (x ∷ xs) (r ∷ rs) pre rest tail text at e a m st =
    let next : text ≡ (pre ++ (x.kept ++ x.old)) ++ file_text xs rest = e ∙ ap (λ l. pre ++ l) (sym (append_assoc x.kept x.old (file_text xs rest))) ∙ sym (append_assoc pre (x.kept ++ x.old) (file_text xs rest)) in
    let place : at + width x.kept + width x.old ≡ width (pre ++ (x.kept ++ x.old)) = omega (arith, a, width-append pre (x.kept ++ x.old), width-append x.kept x.old) in
    let first : slice_range (encode_utf8_all text) at (window_bytes s y).start ≡ encode_utf8_all x.kept =
    ap (λ l. slice_range (encode_utf8_all l) at (window_bytes s y).start) e ∙ part_bytes pre x.kept (x.old ++ file_text xs rest) at (window_bytes s y).start a m.0 in
    let call : encode_utf8_all (call_chars f x) ≡ call_text (λ x. x) s name t h y =
    ap encode_utf8_all (sym st.0.new) ∙ st.0.bytes ∙ ap (calls.call_text f) m.2 ∙ ap (λ g. calls.call_text g (call_of (λ x. x) s name t h y)) n in
    let others = called_bytes s name t h f n ms xs rs (pre ++ (x.kept ++ x.old)) rest tail text (at + width x.kept + width x.old) next place m.3 st.1 in
    let behind : encode_utf8_all (called_text f xs (rest ++ tail)) ≡ with_texts (encode_utf8_all text) (window_bytes s y).end (map (window_bytes s) ms) (map (call_text (λ x. x) s name t h) ms) ++ encode_utf8_all tail =
    subst (λ i. encode_utf8_all (called_text f xs (rest ++ tail)) ≡ with_texts (encode_utf8_all text) i (map (window_bytes s) ms) (map (call_text (λ x. x) s name t h) ms) ++ encode_utf8_all tail) (sym m.1) others in
    let bs : List ℕ = with_texts (encode_utf8_all text) (window_bytes s y).end (map (window_bytes s) ms) (map (call_text (λ x. x) s name t h) ms) in
    encodes-append x.kept (call_chars f x ++ called_text f xs (rest ++ tail))
    ∙ ap (λ l. encode_utf8_all x.kept ++ l) (encodes-append (call_chars f x) (called_text f xs (rest ++ tail)))
    ∙ ap (λ l. encode_utf8_all x.kept ++ (encode_utf8_all (call_chars f x) ++ l)) behind
    ∙ ap (λ l. encode_utf8_all x.kept ++ (l ++ (with_texts (encode_utf8_all text) (window_bytes s y).end (map (window_bytes s) ms) (map (call_text (λ x. x) s name t h) ms) ++ encode_utf8_all tail))) call
    ∙ ap (λ l. l ++ (call_text (λ x. x) s name t h y ++ (with_texts (encode_utf8_all text) (window_bytes s y).end (map (window_bytes s) ms) (map (call_text (λ x. x) s name t h) ms) ++ encode_utf8_all tail))) (sym first)
    ∙ regroup (slice_range (encode_utf8_all text) at (window_bytes s y).start) (call_text (λ x. x) s name t h y) (with_texts (encode_utf8_all text) (window_bytes s y).end (map (window_bytes s) ms) (map (call_text (λ x. x) s name t h) ms)) (encode_utf8_all tail)
  where
    regroup : (a b c d : List ℕ) → a ++ (b ++ (c ++ d)) ≡ (a ++ (b ++ c)) ++ d
    regroup a b c d = ap (λ l. a ++ l) (sym (append_assoc b c d)) ∙ sym (append_assoc a (b ++ c) d)

pub extracted_files : CalledFilesAreRewritten → ExtractedFilesAreRewritten
extracted_files law s name t h ms w e =
    let r = law w e.called in
    record { rewritten = r; bytes = called_bytes s name t h w.name e.names ms w.windows r.ranges [] w.rest w.tail (file_text w.windows w.rest) 0 refl (sym width-nil) e.members r.calls }
