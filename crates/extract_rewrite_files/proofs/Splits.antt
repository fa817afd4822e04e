-- A text with a lexing is divided at the beginning and the end of each token.
use Rattle.std.proofs.Common.{◌≡◌, ℕ, zero, suc, ◌+◌, ◌<◌, ◌≤◌, ◌⊎◌, inl, inr, Bool, true, false, ◌&&◌, cond, List, [], ◌∷◌, ◌++◌, append_assoc, length-append, Some, refl, sym, ap, ◌∙◌, subst, arith}
use Rattle.std.specs.Prelude.{slice_get}
use Rattle.std.specs.Char.{encode_utf8}
use Rattle.std.specs.Str.{encode_utf8_all}
use Rattle.std.specs.List.{AllByRecursion}
use Rattle.std.proofs.lemmas.Str.{length-encode, len_utf8_bounds}
use Rattle.go_base.specs.declared.Span.{Span}
use Rattle.go_tokens.specs.declared.token.Token.{Token}
use Rattle.go_tokens.specs.declared.token.TokenKind.{TokenKind}
use Rattle.go_tokens.specs.declared.token.TokenKind.TheVariants as token
use Rattle.go_tokens.specs.Editing.{IsWritten}
use Rattle.go_tokens.specs.Lexing.{join, width, Cut, Lexes, is_token, token_kind, ends_statement, line_ends, span, inserted, tokens_of, tokens}
use Rattle.go_tokens.specs.Lexing as lexing
use Rattle.go_tokens.proofs.Public.{piece_some, width-append, width-nil}

pub same_some : {A : Type 0} (x y : A) → Some x ≡ Some y → x ≡ y
same_some x y e = cc

pub all_at : {A : Type 0} (P : A → Type 0) (xs : List A) (k : ℕ) (x : A) → AllByRecursion P xs → slice_get xs k ≡ Some x → P x
all_at P [] k x h e = absurd cc
all_at P (y ∷ xs) zero x h e = subst P (same_some y x e) h.0
all_at P (y ∷ xs) (suc k) x h e = all_at P xs k x h.1 e

pub all_both : {A : Type 0} (P : A → Type 0) (xs ys : List A) → AllByRecursion P xs → AllByRecursion P ys → AllByRecursion P (xs ++ ys)
all_both P [] ys h k = k
all_both P (x ∷ xs) ys h k = (h.0, all_both P xs ys h.1 k)

pub all_to : {A : Type 0} {P Q : A → Type 0} → ((x : A) → P x → Q x) → (xs : List A) → AllByRecursion P xs → AllByRecursion Q xs
all_to f [] h = tt
all_to f (x ∷ xs) h = (f x h.0, all_to f xs h.1)

-- The text, which begins at one place, is divided at another one.
pub record Divided (text : List ℕ) (at n : ℕ) : Type 0 where
  pub before : List ℕ
  pub behind : List ℕ
  pub whole : text ≡ before ++ behind
  pub place : n ≡ at + width before

-- It is divided where a token begins and where it ends; and the token is written or a semicolon.
pub record IsToken (text : List ℕ) (at : ℕ) (t : Token) : Type 0 where
  pub begins : Divided text at t.span.start
  pub ends : Divided text at t.span.end
  pub written : (t.kind ≡ token.Semicolon) ⊎ IsWritten t

start_of : (file at n : ℕ) → (span file at n).start ≡ at
unfolding span
start_of file at n = refl

end_of : (file at n : ℕ) → (span file at n).end ≡ at + n
unfolding span
end_of file at n = refl

here : (p rest : List ℕ) (at n : ℕ) → n ≡ at → Divided (p ++ rest) at n
here p rest at n e = record { before = []; behind = p ++ rest; whole = refl; place = omega (arith, e, width-nil) }

past : (p rest : List ℕ) (at n : ℕ) → n ≡ at + width p → Divided (p ++ rest) at n
past p rest at n e = record { before = p; behind = rest; whole = refl; place = e }

later : (p rest : List ℕ) (at n : ℕ) → Divided rest (at + width p) n → Divided (p ++ rest) at n
later p rest at n d = record {
  before = p ++ d.before;
  behind = d.behind;
  whole = ap (λ l. p ++ l) d.whole ∙ sym (append_assoc p d.before d.behind);
  place = (let e = d.place in omega (arith, e, width-append p d.before));
}

own : (file at : ℕ) (p rest : List ℕ) (k : TokenKind) → 0 < width p → IsToken (p ++ rest) at (lexing.token file k at (width p))
own file at p rest k some = record {
  begins = here p rest at _ (start_of file at (width p));
  ends = past p rest at _ (end_of file at (width p));
  written = inr (let a = start_of file at (width p) in let b = end_of file at (width p) in omega (arith, a, b, some));
}

closing : (file at : ℕ) (p rest : List ℕ) → IsToken (p ++ rest) at (inserted file (at + width p))
closing file at p rest = record {
  begins = past p rest at _ (start_of file (at + width p) 0);
  ends = past p rest at _ (let e = end_of file (at + width p) 0 in omega (arith, e));
  written = inl refl;
}

of_piece : (file at : ℕ) (p rest : List ℕ) (e : Bool) → 0 < width p → AllByRecursion (IsToken (p ++ rest) at) (tokens_of file at p e)
of_piece file at p rest e some = by (is_token p) (ends_statement p && e)
  where
    by : (t s : Bool) → AllByRecursion (IsToken (p ++ rest) at) (cond t (lexing.token file (token_kind p) at (width p) ∷ cond s (inserted file (at + width p) ∷ []) []) [])
    by false s = tt
    by true false = (own file at p rest (token_kind p) some, tt)
    by true true = (own file at p rest (token_kind p) some, (closing file at p rest, tt))

of_pieces : (file at : ℕ) (ps : List (List ℕ)) (e : Bool) → Cut ps [] → AllByRecursion (IsToken (join ps) at) (tokens file at ps e)
of_pieces file at [] e c = tt
of_pieces file at (p ∷ ps) e c =
    all_both (IsToken (p ++ join ps) at) (tokens_of file at p (line_ends ps e)) (tokens file (at + width p) ps e) (of_piece file at p (join ps) (line_ends ps e) (piece_some p c.0))
    (all_to {P = IsToken (join ps) (at + width p)} {Q = IsToken (p ++ join ps) at} (λ t h. record { begins = later p (join ps) at t.span.start h.begins; ends = later p (join ps) at t.span.end h.ends; written = h.written })
    (tokens file (at + width p) ps e) (of_pieces file (at + width p) ps e c.2))

-- each token of a lexing
pub token_of : (file : ℕ) (text : List ℕ) (ts : List Token) (cs : List Span) → Lexes file text ts cs → (k : ℕ) (t : Token) → slice_get ts k ≡ Some t → IsToken text 0 t
token_of file text ts cs l k t e =
    subst (λ x. IsToken x 0 t) l.whole (all_at (IsToken (join l.pieces) 0) (tokens file 0 l.pieces true) k t (of_pieces file 0 l.pieces true l.cut) (ap (λ us. slice_get us k) (sym l.spelled) ∙ e))

-- ---- behind a place

-- What stands behind a place is divided at a later one.
pub record Cuts (rest : List ℕ) (at n : ℕ) : Type 0 where
  pub front : List ℕ
  pub behind : List ℕ
  pub whole : rest ≡ front ++ behind
  pub place : n ≡ at + width front

pub width_cons : (x : ℕ) (xs : List ℕ) → width (x ∷ xs) ≡ width (x ∷ []) + width xs
width_cons x xs = width-append (x ∷ []) xs

pub width_some : (x : ℕ) (xs : List ℕ) → 0 < width (x ∷ xs)
unfolding width
width_some x xs = omega (arith, length-append (encode_utf8 x) (encode_utf8_all xs), length-encode x, len_utf8_bounds x)

-- Of two divisions of one text, the second is the later one.
record Later (pre rest a b : List ℕ) : Type 0 where
  middle : List ℕ
  first : rest ≡ middle ++ b
  second : a ≡ pre ++ middle

later_one : (pre rest a b : List ℕ) → pre ++ rest ≡ a ++ b → width pre ≤ width a → Later pre rest a b
later_one [] rest a b e le = record { middle = a; first = e; second = refl }
later_one (x ∷ pre) rest [] b e le = absurd (omega (arith, le, width-nil, width_some x pre))
later_one (x ∷ pre) rest (y ∷ a) b e le =
    let heads : x ≡ y = cc in
    let tails : pre ++ rest ≡ a ++ b = cc in
    let same : width (x ∷ []) ≡ width (y ∷ []) = ap (λ c. width (c ∷ [])) heads in
    let r = later_one pre rest a b tails (omega (arith, le, same, width_cons x pre, width_cons y a)) in
    record { middle = r.middle; first = r.first; second = λ j. sym heads j ∷ r.second j }

-- what stands behind some characters, at a place that divides them all
pub divided_on : (text pre rest : List ℕ) (n : ℕ) → text ≡ pre ++ rest → Divided text 0 n → width pre ≤ n → Cuts rest (width pre) n
divided_on text pre rest n e d le =
    let p = d.place in
    let r = later_one pre rest d.before d.behind (sym e ∙ d.whole) (omega (arith, p, le)) in
    record { front = r.middle; behind = d.behind; whole = r.first; place = (let q = ap width r.second in omega (arith, p, q, width-append pre r.middle)) }

-- a place in the first part of a text divides that part
pub divided_front : (a b : List ℕ) (n : ℕ) → Divided (a ++ b) 0 n → n ≤ width a → Divided a 0 n
divided_front a b n d le =
    let p = d.place in
    let r = later_one d.before d.behind a b (sym d.whole) (omega (arith, p, le)) in
    record { before = d.before; behind = r.middle; whole = r.second; place = d.place }

-- ---- two parts cut off one behind the other

pub one_cut : (text pre rest a r : List ℕ) → text ≡ pre ++ rest → rest ≡ a ++ r → text ≡ (pre ++ a) ++ r
one_cut text pre rest a r e f = e ∙ ap (λ l. pre ++ l) f ∙ sym (append_assoc pre a r)

pub two_cut : (text pre rest a r b q : List ℕ) → text ≡ pre ++ rest → rest ≡ a ++ r → r ≡ b ++ q → text ≡ (pre ++ (a ++ b)) ++ q
two_cut text pre rest a r b q e f g = one_cut text pre rest (a ++ b) q e (f ∙ ap (λ l. a ++ l) g ∙ sym (append_assoc a b q))

pub both_parts : (rest a r b q x : List ℕ) → rest ≡ a ++ r → r ≡ b ++ q → q ≡ x → rest ≡ a ++ (b ++ x)
both_parts rest a r b q x e f g = e ∙ ap (λ l. a ++ l) (f ∙ ap (λ l. b ++ l) g)

pub two_wide : (pre a b : List ℕ) → width (pre ++ (a ++ b)) ≡ width pre + width a + width b
two_wide pre a b = omega (arith, width-append pre (a ++ b), width-append a b)
