-- How many bytes characters have.
use Rattle.std.proofs.Common.{◌≡◌, ℕ, ◌+◌, ◌<◌, List, [], ◌∷◌, ◌++◌, length, get_or, take, drop, length-append, refl, sym, ap, ◌∙◌, arith}
use Rattle.std.specs.Str.{encode_utf8_all}
use Rattle.std.specs.Char.{len_utf8}
use Rattle.std.proofs.lemmas.Str.{encodes-append, length-encode, len_utf8_bounds}
use Rattle.std.proofs.lemmas.List.{take_more, take-append-drop, get_or_read}
use Rattle.go_tokens.specs.Lexing.{width}

pub width-append : (xs ys : List ℕ) → width (xs ++ ys) ≡ width xs + width ys
unfolding width
width-append xs ys = ap length (encodes-append xs ys) ∙ length-append (encode_utf8_all xs) (encode_utf8_all ys)

pub width-cons : (x : ℕ) (xs : List ℕ) → width (x ∷ xs) ≡ len_utf8 x + width xs
unfolding width
width-cons x xs = length-append _ (encode_utf8_all xs) ∙ ap (λ n. n + length (encode_utf8_all xs)) (length-encode x)

pub width-nil : width [] ≡ 0
unfolding width
width-nil = refl

-- two fronts of one width
pub wide_fronts : (p q r s : List ℕ) → width p ≡ width q → p ++ r ≡ q ++ s → (p ≡ q) × (r ≡ s)
wide_fronts [] [] r s n e = (refl, e)
wide_fronts [] (y ∷ q) r s n e = absurd (omega (arith, n, width-nil, width-cons y q, len_utf8_bounds y))
wide_fronts (x ∷ p) [] r s n e = absurd (omega (arith, n, width-nil, width-cons x p, len_utf8_bounds x))
wide_fronts (x ∷ p) (y ∷ q) r s n e =
    let heads : x ≡ y = cc in
    let tails : p ++ r ≡ q ++ s = cc in
    let here : len_utf8 x ≡ len_utf8 y = ap len_utf8 heads in
    let lens : width p ≡ width q = omega (arith, n, width-cons x p, width-cons y q, here) in
    let rest = wide_fronts p q r s lens tails in
    let same = rest.0 in
    (cc, rest.1)

pub width_some : (x : ℕ) (b : List ℕ) → 0 < width (x ∷ b)
width_some x b = omega (arith, width-cons x b, len_utf8_bounds x)

pub width_more : (cs : List ℕ) (i c : ℕ) → i < length cs → c ≡ get_or cs i c → width (take (i + 1) cs) ≡ width (take i cs) + len_utf8 c
width_more cs i c h e =
    let here : c ≡ get_or cs i 0 = get_or_read cs i c h e 0 in
    let one : width (c ∷ []) ≡ len_utf8 c = omega (arith, width-cons c [], width-nil) in
    ap width (take_more cs i 0 h ∙ ap (λ x. take i cs ++ x ∷ []) (sym here)) ∙ width-append (take i cs) (c ∷ []) ∙ ap (λ n. width (take i cs) + n) one

pub width_take : (n : ℕ) (cs : List ℕ) → width (take n cs) + width (drop n cs) ≡ width cs
width_take n cs = sym (width-append (take n cs) (drop n cs)) ∙ ap width (take-append-drop n cs)
