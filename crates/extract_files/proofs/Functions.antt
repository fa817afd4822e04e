-- The new function stands.
use Rattle.std.proofs.Common.{◌≡◌, ℕ, ◌+◌, ◌-◌, List, [], ◌∷◌, ◌++◌, length, take, map, codes, append_assoc, refl, sym, ap, ◌∙◌, subst, arith}
use Rattle.std.specs.Prelude.{slice_range}
use Rattle.std.specs.Char.{encode_utf8}
use Rattle.std.specs.Str.{chars, encode_utf8_all}
use Rattle.std.proofs.lemmas.List.{take_at, drop_at}
use Rattle.std.proofs.lemmas.Str.{encodes-append}
use Rattle.go_tokens.specs.declared.token.Token.{Token}
use Rattle.go_tokens.specs.Lexing.{width}
use Rattle.go_tokens.proofs.Public.{width-append}
use Rattle.go_tree.specs.Units.{Place}
use Rattle.go_types.specs.Trees.{TypeTree}
use Rattle.go_grammar.specs.declared.kind.Category.{Category}
use Rattle.go_grammar.specs.Trees.{Tree}
use Rattle.go_print_laws.specs.Functions.{FunctionsStand, FunctionStands, Statements, function_text, function_tree, function_words}
use Rattle.go_print_laws.specs.Functions as functions
use Rattle.go_print_laws.specs.Headers.{header_text, signature_tree}
use Rattle.go_function_headers.specs.Functions.{FunctionReads, FunctionsRead}
use Rattle.param_choose.specs.Choosing.{Choice}
use Rattle.param_choose.specs.Members.{Member}
use Rattle.escape_check.specs.Places.{Sources}
use Rattle.escape_check.specs.Types.{declared_text}
use Rattle.extract_texts.specs.Texts.{function_with, header_of, hole_bytes, returning_text, template_text, variable_names, window_bytes, with_names}
use Rattle.extract_files.specs.Holes.{Hole, Template, TemplatesStand, AreHoles, whole_text, named_text, named_words, named_trees}
use Rattle.extract_files.specs.Functions.{AreAt, IsTemplateOf, ExtractedFunctionsRead, ExtractedFunctionsStand, extracted_function}

slice_at : (a p b : List ℕ) (i j : ℕ) → i ≡ length a → j ≡ i + length p → slice_range (a ++ (p ++ b)) i j ≡ p
slice_at a p b i j e f =
    let n : length p ≡ j - i = omega (arith, f) in
    ap (take (j - i)) (drop_at a (p ++ b) i (sym e)) ∙ take_at p b (j - i) n

-- a part of a text, in bytes
pub part_bytes : (pre p behind : List ℕ) (i j : ℕ) → i ≡ width pre → j ≡ i + width p → slice_range (encode_utf8_all (pre ++ (p ++ behind))) i j ≡ encode_utf8_all p
unfolding width
part_bytes pre p behind i j e f = ap (λ l. slice_range l i j) (encodes-append pre (p ++ behind) ∙ ap (λ l. encode_utf8_all pre ++ l) (encodes-append p behind)) ∙ slice_at (encode_utf8_all pre) (encode_utf8_all p) (encode_utf8_all behind) i j e f

blank_bytes : (xs : List ℕ) → encode_utf8_all (32 ∷ xs) ≡ 32 ∷ encode_utf8_all xs
unfolding encode_utf8
blank_bytes xs = refl

regroup : (a n r : List ℕ) → a ++ codes " " ++ n ++ codes " " ++ r ≡ a ++ (32 ∷ (n ++ (32 ∷ r)))
regroup a n r = append_assoc (a ++ codes " " ++ n) (codes " ") r ∙ append_assoc (a ++ codes " ") n (32 ∷ r) ∙ append_assoc a (codes " ") (n ++ (32 ∷ r))

-- the bytes with the names
named_bytes : (ts : List Token) (c : Category) (t : Tree) (text pre behind rest : List ℕ) (from upto : ℕ) (ps : List Place) (ns : List (List ℕ)) (hs : List Hole) → text ≡ pre ++ (whole_text hs rest ++ behind) → from ≡ width pre → upto ≡ width pre + width (whole_text hs rest)
    → AreHoles ts c t (width pre) hs → AreAt ps ns (width pre) hs → with_names (encode_utf8_all text) from upto ps ns ≡ encode_utf8_all (named_text hs rest)
named_bytes ts c t text pre behind rest from upto [] [] [] e f g a h = ap (λ l. slice_range (encode_utf8_all l) from upto) e ∙ part_bytes pre rest behind from upto f (g ∙ ap (λ n. n + width rest) (sym f))
named_bytes ts c t text pre behind rest from upto [] [] (x ∷ xs) e f g a h = absurd h
named_bytes ts c t text pre behind rest from upto [] (n ∷ ns) hs e f g a h = absurd h
named_bytes ts c t text pre behind rest from upto (p ∷ ps) [] hs e f g a h = absurd h
named_bytes ts c t text pre behind rest from upto (p ∷ ps) (n ∷ ns) [] e f g a h = absurd h
named_bytes ts c t text pre behind rest from upto (p ∷ ps) (n ∷ ns) (x ∷ xs) e f g a h =
    let laid : text ≡ pre ++ (x.kept ++ ((x.old ++ whole_text xs rest) ++ behind)) = e ∙ ap (λ l. pre ++ l) (append_assoc x.kept (x.old ++ whole_text xs rest) behind) in
    let next : text ≡ (pre ++ (x.kept ++ x.old)) ++ (whole_text xs rest ++ behind) =
    laid ∙ ap (λ l. pre ++ (x.kept ++ l)) (append_assoc x.old (whole_text xs rest) behind) ∙ ap (λ l. pre ++ l) (sym (append_assoc x.kept x.old (whole_text xs rest ++ behind))) ∙ sym (append_assoc pre (x.kept ++ x.old) (whole_text xs rest ++ behind)) in
    let place : width pre + width x.kept + width x.old ≡ width (pre ++ (x.kept ++ x.old)) = omega (arith, width-append pre (x.kept ++ x.old), width-append x.kept x.old) in
    let first : slice_range (encode_utf8_all text) from p.start ≡ encode_utf8_all x.kept = ap (λ l. slice_range (encode_utf8_all l) from p.start) laid ∙ part_bytes pre x.kept ((x.old ++ whole_text xs rest) ++ behind) from p.start f (omega (arith, h.0, f)) in
    let others = named_bytes ts c t text (pre ++ (x.kept ++ x.old)) behind rest p.end upto ps ns xs next (h.1 ∙ place)
    (omega (arith, g, place, width-append x.kept (x.old ++ whole_text xs rest), width-append x.old (whole_text xs rest)))
    (subst (λ i. AreHoles ts c t i xs) place a.1) (subst (λ i. AreAt ps ns i xs) place h.3) in
    let name : n ≡ encode_utf8_all (chars x.name) = h.2 ∙ sym a.0.name.encoded in
    regroup (slice_range (encode_utf8_all text) from p.start) n (with_names (encode_utf8_all text) p.end upto ps ns)
    ∙ ap (λ l. l ++ (32 ∷ (n ++ (32 ∷ with_names (encode_utf8_all text) p.end upto ps ns)))) first
    ∙ ap (λ l. encode_utf8_all x.kept ++ (32 ∷ (n ++ (32 ∷ l)))) others
    ∙ ap (λ l. encode_utf8_all x.kept ++ (32 ∷ (l ++ (32 ∷ encode_utf8_all (named_text xs rest))))) name
    ∙ ap (λ l. encode_utf8_all x.kept ++ (32 ∷ (encode_utf8_all (chars x.name) ++ l))) (sym (blank_bytes (named_text xs rest)))
    ∙ ap (λ l. encode_utf8_all x.kept ++ (32 ∷ l)) (sym (encodes-append (chars x.name) (32 ∷ named_text xs rest)))
    ∙ ap (λ l. encode_utf8_all x.kept ++ l) (sym (blank_bytes (chars x.name ++ (32 ∷ named_text xs rest))))
    ∙ sym (encodes-append x.kept (32 ∷ (chars x.name ++ (32 ∷ named_text xs rest))))

-- the template's text
pub template_bytes : (s : Sources) (fresh : List (List ℕ)) (t : Member TypeTree) (h : Choice TypeTree) (w : Template) → IsTemplateOf s fresh t h w → template_text s fresh t h ≡ encode_utf8_all (named_text w.holes w.rest)
template_bytes s fresh t h w i =
    let is = i.template in
    let part = is.is_part in
    let inner : width w.part.inner ≡ width (whole_text w.holes w.rest) = ap width is.inner in
    let end : (window_bytes s t).end ≡ width part.before + width (whole_text w.holes w.rest) = omega (arith, i.end, inner) in
    ap (λ l. with_names l (window_bytes s t).start (window_bytes s t).end (map (λ p. hole_bytes s t p.hole) h.holes) fresh) i.bytes
    ∙ named_bytes w.part.tokens w.category w.tree w.part.text part.before part.behind w.rest (window_bytes s t).start (window_bytes s t).end (map (λ p. hole_bytes s t p.hole) h.holes) fresh w.holes (part.whole ∙ ap (λ l. part.before ++ (l ++ part.behind)) is.inner) i.start end is.holes i.holes

returned_same : (xs : List (List ℕ)) → returning_text xs ≡ functions.returning_text xs
returned_same [] = refl
returned_same (x ∷ xs) = refl

text_same : (s : Sources) (name : List ℕ) (fresh : List (List ℕ)) (t : Member TypeTree) (h : Choice TypeTree) → function_text (declared_text s) (extracted_function s name fresh t h) ≡ function_with (λ x. x) s name fresh t h
text_same s name fresh t h =
    ap (λ l. codes "\n" ++ header_text (declared_text s) (header_of (λ x. x) s name fresh t h) ++ codes " {\n" ++ template_text s fresh t h ++ codes "\n" ++ l ++ codes "}\n") (sym (returned_same (variable_names s t (h.assigned ++ h.declared))))

body_stands : TemplatesStand → (s : Sources) (fresh : List (List ℕ)) (t : Member TypeTree) (h : Choice TypeTree) (w : Template) → IsTemplateOf s fresh t h w → Statements w.part.file (template_text s fresh t h) (named_words w) (named_trees w)
body_stands templates s fresh t h w i = subst (λ l. Statements w.part.file l (named_words w) (named_trees w)) (sym (template_bytes s fresh t h w i)) (templates w i.template)

pub extracted_functions_stand : FunctionsStand → TemplatesStand → ExtractedFunctionsStand
extracted_functions_stand stand templates s name fresh t h w header names i low =
    subst (λ l. FunctionStands w.part.file l (function_words (declared_text s) (extracted_function s name fresh t h) (named_words w)) (function_tree (extracted_function s name fresh t h) (length (named_words w)) (named_trees w)))
    (text_same s name fresh t h) (stand w.part.file (declared_text s) (extracted_function s name fresh t h) (named_words w) (named_trees w) header names (body_stands templates s fresh t h w i) low)

pub extracted_functions_read : FunctionsRead → TemplatesStand → ExtractedFunctionsRead
extracted_functions_read read templates s name fresh t h w header names i low =
    subst (λ l. FunctionReads w.part.file l (function_words (declared_text s) (extracted_function s name fresh t h) (named_words w)) (signature_tree 2 (header_of (λ x. x) s name fresh t h)))
    (text_same s name fresh t h) (read w.part.file (declared_text s) (extracted_function s name fresh t h) (named_words w) (named_trees w) header names (body_stands templates s fresh t h w i) low)
