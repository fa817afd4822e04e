-- The numbers of the tokens of a range, by its pieces.
use Rattle.std.proofs.Common.{◌≡◌, ℕ, ◌+◌, ◌-◌, true, false, List, [], ◌∷◌, ◌++◌, length, refl, sym, ap, ◌∙◌, append_assoc, arith}
use Rattle.std.specs.Str.{encode_utf8_all}
use Rattle.std.proofs.lemmas.List.{length-append}
use Rattle.go_tokens.specs.Lexing.{join, width, Cut, is_token, token_kind, tokens}
use Rattle.go_tokens.specs.Replacing.{items, Range, pieces_of, begins_with_token, IsOld}
use Rattle.go_tokens.proofs.Public.{items_append, join_two, old_blanks, width-append, width-nil}
use Rattle.go_rewriting.specs.Rewriting.{IsRange}
use Rattle.extract_files.proofs.Numbers.{number_at, number_to, range_items, front_line}

head : (p : List (List ℕ)) → begins_with_token p ≡ true → (x : List ℕ) × (xs : List (List ℕ)) × (p ≡ x ∷ xs) × (is_token x ≡ true)
head [] h = cc
head (x ∷ xs) h = (x, xs, refl, h)

-- how many tokens a range has that ends with one
pub range_count : (r : Range) → IsOld r → length (items (pieces_of r) false) ≡ length (items r.before false) + 1
range_count r o = ap length (range_items r o.ends (old_blanks r o)) ∙ length-append (items r.before false) (record { kind = token_kind r.last; text = encode_utf8_all r.last } ∷ [])

pub range_width : (r : Range) → IsOld r → width (join (pieces_of r)) ≡ width (join r.before) + width r.last
range_width r o =
    let z : width (join (pieces_of r)) ≡ width (join r.before ++ (r.last ++ join r.blanks)) = ap width (join_two r.before (r.last ∷ r.blanks)) in
    let b : width (join r.blanks) ≡ width [] = ap (λ x. width (join x)) o.blanks in
    omega (arith, z, b, width-nil, width-append (join r.before) (r.last ++ join r.blanks), width-append r.last (join r.blanks))

-- the number of its first token, and of the one behind its last
pub numbered : (file : ℕ) (whole : List (List ℕ)) → Cut whole [] → (front : List (List ℕ)) (r : Range) (rest : List (List ℕ)) → whole ≡ front ++ (pieces_of r ++ rest) → IsOld r → (from upto start end : ℕ) → IsRange (tokens file 0 whole true) from upto start end
    → start ≡ width (join front) → end ≡ start + width (join (pieces_of r)) → (from ≡ length (items front false)) × (upto ≡ length (items front false) + length (items (pieces_of r) false))
numbered file whole cut front r rest w o from upto start end t s e =
    let x = head (pieces_of r) o.begins in
    let first : from ≡ length (items front false) = number_at file whole cut front x.0 (x.1 ++ rest) from t.first (w ∙ ap (λ y. front ++ (y ++ rest)) x.2) x.3 t.has_first t.first_written (t.begins ∙ s) in
    let split : pieces_of r ++ rest ≡ r.before ++ (r.last ∷ rest) = append_assoc r.before (r.last ∷ r.blanks) rest ∙ ap (λ x. r.before ++ (r.last ∷ (x ++ rest))) o.blanks in
    let z : width (join (front ++ r.before)) ≡ width (join front ++ join r.before) = ap width (join_two front r.before) in
    let last : upto - 1 ≡ length (items (front ++ r.before) false) =
    number_to file whole cut (front ++ r.before) r.last rest (upto - 1) t.last (w ∙ ap (λ x. front ++ x) split ∙ sym (append_assoc front r.before (r.last ∷ rest))) o.ends t.has_last t.last_written
    (omega (arith, t.ends, e, s, z, width-append (join front) (join r.before), range_width r o)) in
    let count : length (items (front ++ r.before) false) ≡ length (items front false) + length (items r.before false) =
    ap length (items_append front r.before false ∙ ap (λ b. items front b ++ items r.before false) (front_line r.before r.last r.blanks o.begins)) ∙ length-append (items front false) (items r.before false) in
    (first, omega (arith, last, count, range_count r o, t.order))
