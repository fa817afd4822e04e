-- The numbers of written tokens by their places, and the tokens of a text that ends with one.
use Rattle.std.proofs.Common.{◌≡◌, ℕ, zero, suc, ◌+◌, ◌<◌, ◌≤◌, ◌⊎◌, inl, inr, Bool, true, false, cond, ◌&&◌, List, [], ◌∷◌, ◌++◌, length, map, Some, refl, sym, ap, ◌∙◌, subst, append_assoc, append-nil, arith}
use Rattle.std.specs.Prelude.{slice_get, ◌-◌}
use Rattle.std.specs.List.{list_all}
use Rattle.std.specs.Str.{encode_utf8_all}
use Rattle.std.proofs.lemmas.List.{length-append}
use Rattle.std.proofs.lemmas.Bool.{lt-ltb, le-ltb}
use Rattle.go_tokens.specs.declared.token.Token.{Token}
use Rattle.go_tokens.specs.Pieces.{is_piece}
use Rattle.go_tokens.specs.Lexing.{join, width, Cut, is_token, token_kind, ends_statement, line_ends, span, token, inserted, tokens_of, tokens}
use Rattle.go_tokens.specs.Tokens.{AreOrdered, span_of}
use Rattle.go_tokens.specs.Replacing.{Item, semicolon, items_of, items, is_blank, Range, pieces_of, begins_with_token}
use Rattle.go_tokens.specs.Editing.{IsAmong, IsWritten, Spans}
use Rattle.go_tokens.proofs.Public.{width-append, width-nil, piece_some, items_append, line_ends_append, line_ends_token, line_ends_blanks, items_blanks, token_items, no_semicolon, cut_second, tokens_ordered}
use Rattle.go_rewriting.specs.Rewriting.{is_written, own, IsRange}

same_token : (t u : Token) → Some t ≡ Some u → t ≡ u
same_token t u e = cc

starts_from : (a n : ℕ) (ts : List Token) (j : ℕ) (u : Token) → AreOrdered a (map span_of ts) n → slice_get ts j ≡ Some u → a ≤ u.span.start
starts_from a n [] j u o f = cc
starts_from a n (x ∷ ts) zero u o f = subst (λ (y : Token). a ≤ y.span.start) (same_token x u f) o.0
starts_from a n (x ∷ ts) (suc j) u o f = omega (arith, o.0, o.1, starts_from x.span.end n ts j u o.2 f)

-- of two tokens the one with the lesser number ends before the other begins
pub earlier : (a n : ℕ) (ts : List Token) (i j : ℕ) (t u : Token) → AreOrdered a (map span_of ts) n → i < j → slice_get ts i ≡ Some t → slice_get ts j ≡ Some u → t.span.end ≤ u.span.start
earlier a n [] i j t u o lt e f = cc
earlier a n (x ∷ ts) i zero t u o lt e f = absurd (omega (arith, lt))
earlier a n (x ∷ ts) zero (suc j) t u o lt e f = subst (λ (y : Token). y.span.end ≤ u.span.start) (same_token x t e) (starts_from x.span.end n ts j u o.2 f)
earlier a n (x ∷ ts) (suc i) (suc j) t u o lt e f = earlier x.span.end n ts i j t u o.2 (omega (arith, lt)) e f

three : (i j : ℕ) → (i < j) ⊎ ((i ≡ j) ⊎ (j < i))
three i j = grind arith

-- two written tokens that begin at one place, or end at one, have one number
pub same_start : (n : ℕ) (ts : List Token) (i j : ℕ) (t u : Token) → AreOrdered 0 (map span_of ts) n → slice_get ts i ≡ Some t → slice_get ts j ≡ Some u → IsWritten t → IsWritten u → t.span.start ≡ u.span.start → i ≡ j
same_start n ts i j t u o e f w v s = elim (three i j) [
  | inl lt ↦ absurd (omega (arith, earlier 0 n ts i j t u o lt e f, w, v, s))
  | inr other ↦ elim other [
    | inl same ↦ same
    | inr gt ↦ absurd (omega (arith, earlier 0 n ts j i u t o gt f e, w, v, s))
  ]
]

pub same_end : (n : ℕ) (ts : List Token) (i j : ℕ) (t u : Token) → AreOrdered 0 (map span_of ts) n → slice_get ts i ≡ Some t → slice_get ts j ≡ Some u → IsWritten t → IsWritten u → t.span.end ≡ u.span.end → i ≡ j
same_end n ts i j t u o e f w v s = elim (three i j) [
  | inl lt ↦ absurd (omega (arith, earlier 0 n ts i j t u o lt e f, w, v, s))
  | inr other ↦ elim other [
    | inl same ↦ same
    | inr gt ↦ absurd (omega (arith, earlier 0 n ts j i u t o gt f e, w, v, s))
  ]
]

-- The tokens of two rows of pieces.
pub tokens_append : (file at : ℕ) (xs ys : List (List ℕ)) (e : Bool) → tokens file at (xs ++ ys) e ≡ tokens file at xs (line_ends ys e) ++ tokens file (at + width (join xs)) ys e
tokens_append file at [] ys e = ap (λ n. tokens file n ys e) (let z : at ≡ at + width [] = omega (arith, width-nil) in z)
tokens_append file at (p ∷ xs) ys e =
    ap (λ b. tokens_of file at p b ++ tokens file (at + width p) (xs ++ ys) e) (line_ends_append xs ys e)
    ∙ ap (λ l. tokens_of file at p (line_ends xs (line_ends ys e)) ++ l) (tokens_append file (at + width p) xs ys e)
    ∙ ap (λ n. tokens_of file at p (line_ends xs (line_ends ys e)) ++ (tokens file (at + width p) xs (line_ends ys e) ++ tokens file n ys e)) (let z : at + width p + width (join xs) ≡ at + width (p ++ join xs) = omega (arith, width-append p (join xs)) in z)
    ∙ sym (append_assoc (tokens_of file at p (line_ends xs (line_ends ys e))) (tokens file (at + width p) xs (line_ends ys e)) (tokens file (at + width (p ++ join xs)) ys e))

of_many : (file at : ℕ) (p : List ℕ) (e : Bool) → length (tokens_of file at p e) ≡ length (items_of p e)
of_many file at p e = by (record { kind = token_kind p; text = encode_utf8_all p }) (is_token p) (ends_statement p && e)
  where
    by : (x : Item) (t s : Bool) → length (cond t (token file (token_kind p) at (width p) ∷ cond s (inserted file (at + width p) ∷ []) []) []) ≡ length (cond t (x ∷ semicolon s) [])
    by x false s = refl
    by x true false = refl
    by x true true = refl

-- as many tokens as items
pub as_many : (file at : ℕ) (ps : List (List ℕ)) (e : Bool) → length (tokens file at ps e) ≡ length (items ps e)
as_many file at [] e = refl
as_many file at (p ∷ ps) e = length-append (tokens_of file at p (line_ends ps e)) (tokens file (at + width p) ps e) ∙ ap (λ n. n + length (tokens file (at + width p) ps e)) (of_many file at p (line_ends ps e)) ∙ ap (λ n. length (items_of p (line_ends ps e)) + n) (as_many file (at + width p) ps e) ∙ sym (length-append (items_of p (line_ends ps e)) (items ps e))

no_length : {A : Type 0} (xs : List A) → length xs ≡ 0 → xs ≡ []
no_length [] e = refl
no_length (x ∷ xs) e = absurd (omega (arith, e))

no_tokens : (file at : ℕ) (ps : List (List ℕ)) (e : Bool) → list_all is_blank ps ≡ true → tokens file at ps e ≡ []
no_tokens file at ps e h = no_length (tokens file at ps e) (as_many file at ps e ∙ ap length (items_blanks ps e h))

token_of : (file at : ℕ) (p : List ℕ) (e : Bool) → is_token p ≡ true → tokens_of file at p e ≡ token file (token_kind p) at (width p) ∷ cond (ends_statement p && e) (inserted file (at + width p) ∷ []) []
token_of file at p e h = ap (λ t. cond t (token file (token_kind p) at (width p) ∷ cond (ends_statement p && e) (inserted file (at + width p) ∷ []) []) []) h

pub get_right : {A : Type 0} (xs ys : List A) (n : ℕ) → slice_get (xs ++ ys) (length xs + n) ≡ slice_get ys n
get_right [] ys n = let e : 0 + n ≡ n = omega arith in ap (slice_get ys) e
get_right (x ∷ xs) ys n = let e : suc (length xs) + n ≡ suc (length xs + n) = omega arith in ap (slice_get (x ∷ (xs ++ ys))) e ∙ get_right xs ys n

-- the token of a piece behind others
pub token_behind : (file : ℕ) (front : List (List ℕ)) (p : List ℕ) (rest : List (List ℕ)) (e : Bool) → is_token p ≡ true → slice_get (tokens file 0 (front ++ p ∷ rest) e) (length (items front false)) ≡ Some (token file (token_kind p) (width (join front)) (width p))
token_behind file front p rest e h =
    let n : ℕ = length (items front false) in
    let at : ℕ = 0 + width (join front) in
    let x : Token = token file (token_kind p) at (width p) in
    let others : List Token = cond (ends_statement p && line_ends rest e) (inserted file (at + width p) ∷ []) [] ++ tokens file (at + width p) rest e in
    let all : tokens file 0 (front ++ p ∷ rest) e ≡ tokens file 0 front false ++ (x ∷ others) =
    tokens_append file 0 front (p ∷ rest) e
    ∙ ap (λ b. tokens file 0 front b ++ tokens file at (p ∷ rest) e) (line_ends_token p rest e h)
    ∙ ap (λ l. tokens file 0 front false ++ (l ++ tokens file (at + width p) rest e)) (token_of file at p (line_ends rest e) h) in
    let here : length (tokens file 0 front false) + 0 ≡ n = omega (arith, as_many file 0 front false) in
    let start : at ≡ width (join front) = omega arith in
    ap (λ l. slice_get l n) all ∙ ap (slice_get (tokens file 0 front false ++ (x ∷ others))) (sym here) ∙ get_right (tokens file 0 front false) (x ∷ others) 0 ∙ ap (λ a. Some (token file (token_kind p) a (width p))) start

-- The items of a range, but for a semicolon behind it.
pub range_items : (r : Range) → is_token r.last ≡ true → list_all is_blank r.blanks ≡ true → items (pieces_of r) false ≡ items r.before false ++ (record { kind = token_kind r.last; text = encode_utf8_all r.last } ∷ [])
range_items r h k =
    items_append r.before (r.last ∷ r.blanks) false
    ∙ ap (λ b. items r.before b ++ items (r.last ∷ r.blanks) false) (line_ends_token r.last r.blanks false h)
    ∙ ap (λ l. items r.before false ++ l) (ap (λ l. items_of r.last (line_ends r.blanks false) ++ l) (items_blanks r.blanks false k) ∙ append-nil (items_of r.last (line_ends r.blanks false)) ∙ ap (items_of r.last) (line_ends_blanks r.blanks false k) ∙ token_items r.last false h ∙ ap (λ l. record { kind = token_kind r.last; text = encode_utf8_all r.last } ∷ l) (no_semicolon (ends_statement r.last)))

-- no line ends before a token, whatever stands behind the range
pub front_line : (before : List (List ℕ)) (p : List ℕ) (rest : List (List ℕ)) → begins_with_token (before ++ p ∷ rest) ≡ true → line_ends before false ≡ false
front_line [] p rest h = refl
front_line (q ∷ before) p rest h = line_ends_token q before false h

-- The tokens of a text but for a semicolon that is inserted at its end.
own_append : (xs : List Token) (y : Token) (ys : List Token) → own (xs ++ y ∷ ys) ≡ xs ++ own (y ∷ ys)
own_append [] y ys = refl
own_append (x ∷ []) y ys = refl
own_append (x ∷ z ∷ xs) y ys = ap (λ l. x ∷ l) (own_append (z ∷ xs) y ys)

token_written : (file : ℕ) (p : List ℕ) (at : ℕ) → is_piece p ≡ true → is_written (token file (token_kind p) at (width p)) ≡ true
unfolding span
token_written file p at h = lt-ltb at (at + width p) (omega (arith, piece_some p h))

inserted_unwritten : (file at : ℕ) → is_written (inserted file at) ≡ false
unfolding span
inserted_unwritten file at = le-ltb at (at + 0) (omega arith)

own_last : (file at : ℕ) (p : List ℕ) (s : Bool) → is_piece p ≡ true → own (token file (token_kind p) at (width p) ∷ cond s (inserted file (at + width p) ∷ []) []) ≡ token file (token_kind p) at (width p) ∷ []
own_last file at p false h = ap (λ b. cond b (token file (token_kind p) at (width p) ∷ []) []) (token_written file p at h)
own_last file at p true h = ap (λ b. token file (token_kind p) at (width p) ∷ cond b (inserted file (at + width p) ∷ []) []) (inserted_unwritten file (at + width p))

range_tokens : (file : ℕ) (r : Range) (e : Bool) → is_token r.last ≡ true → list_all is_blank r.blanks ≡ true → tokens file 0 (pieces_of r) e ≡ tokens file 0 r.before false ++ (token file (token_kind r.last) (0 + width (join r.before)) (width r.last) ∷ cond (ends_statement r.last && e) (inserted file (0 + width (join r.before) + width r.last) ∷ []) [])
range_tokens file r e h k =
    let at : ℕ = 0 + width (join r.before) in
    let x : Token = token file (token_kind r.last) at (width r.last) in
    tokens_append file 0 r.before (r.last ∷ r.blanks) e
    ∙ ap (λ b. tokens file 0 r.before b ++ tokens file at (r.last ∷ r.blanks) e) (line_ends_token r.last r.blanks e h)
    ∙ ap (λ l. tokens file 0 r.before false ++ l) (ap (λ l. tokens_of file at r.last (line_ends r.blanks e) ++ l) (no_tokens file (at + width r.last) r.blanks e k) ∙ append-nil (tokens_of file at r.last (line_ends r.blanks e)) ∙ ap (tokens_of file at r.last) (line_ends_blanks r.blanks e k) ∙ token_of file at r.last e h)

pub own_range : (file : ℕ) (r : Range) → is_piece r.last ≡ true → is_token r.last ≡ true → list_all is_blank r.blanks ≡ true → own (tokens file 0 (pieces_of r) true) ≡ tokens file 0 (pieces_of r) false
own_range file r g h k =
    let at : ℕ = 0 + width (join r.before) in
    let x : Token = token file (token_kind r.last) at (width r.last) in
    let rest : List Token = cond (ends_statement r.last && true) (inserted file (at + width r.last) ∷ []) [] in
    let none : (ends_statement r.last && false) ≡ false = and_false (ends_statement r.last) in
    ap own (range_tokens file r true h k)
    ∙ own_append (tokens file 0 r.before false) x rest
    ∙ ap (λ l. tokens file 0 r.before false ++ l) (own_last file at r.last (ends_statement r.last && true) g)
    ∙ sym (range_tokens file r false h k ∙ ap (λ b. tokens file 0 r.before false ++ (x ∷ cond b (inserted file (at + width r.last) ∷ []) [])) none)
  where
    and_false : (b : Bool) → (b && false) ≡ false
    and_false true = refl
    and_false false = refl

pub token_start : (file at n : ℕ) → (span file at n).start ≡ at
unfolding span
token_start file at n = refl

pub token_end : (file at n : ℕ) → (span file at n).end ≡ at + n
unfolding span
token_end file at n = refl

module _ (file : ℕ) (whole : List (List ℕ)) (cut : Cut whole []) where
  ts : List Token
  ts = tokens file 0 whole true

  ordered : AreOrdered 0 (map span_of (tokens file 0 whole true)) (0 + width (join whole))
  ordered = tokens_ordered file 0 whole true

  -- The number of a written token that begins where a piece does, or ends where one does.
  pub number_at : (front : List (List ℕ)) (p : List ℕ) (rest : List (List ℕ)) (i : ℕ) (t : Token) → whole ≡ front ++ p ∷ rest → is_token p ≡ true → slice_get (tokens file 0 whole true) i ≡ Some t → IsWritten t → t.span.start ≡ width (join front) → i ≡ length (items front false)
  number_at front p rest i t w h e f s =
      let u : Token = token file (token_kind p) (width (join front)) (width p) in
      let piece : is_piece p ≡ true = (cut_second front (p ∷ rest) [] (subst (λ x. Cut x []) w cut)).0 in
      let at : slice_get (tokens file 0 whole true) (length (items front false)) ≡ Some u = ap (λ x. slice_get (tokens file 0 x true) (length (items front false))) w ∙ token_behind file front p rest true h in
      same_start (0 + width (join whole)) (tokens file 0 whole true) i (length (items front false)) t u ordered e at f (omega (arith, token_start file (width (join front)) (width p), token_end file (width (join front)) (width p), piece_some p piece)) (s ∙ sym (token_start file (width (join front)) (width p)))

  pub number_to : (front : List (List ℕ)) (p : List ℕ) (rest : List (List ℕ)) (i : ℕ) (t : Token) → whole ≡ front ++ p ∷ rest → is_token p ≡ true → slice_get (tokens file 0 whole true) i ≡ Some t → IsWritten t → t.span.end ≡ width (join front) + width p → i ≡ length (items front false)
  number_to front p rest i t w h e f s =
      let u : Token = token file (token_kind p) (width (join front)) (width p) in
      let piece : is_piece p ≡ true = (cut_second front (p ∷ rest) [] (subst (λ x. Cut x []) w cut)).0 in
      let at : slice_get (tokens file 0 whole true) (length (items front false)) ≡ Some u = ap (λ x. slice_get (tokens file 0 x true) (length (items front false))) w ∙ token_behind file front p rest true h in
      same_end (0 + width (join whole)) (tokens file 0 whole true) i (length (items front false)) t u ordered e at f (omega (arith, token_start file (width (join front)) (width p), token_end file (width (join front)) (width p), piece_some p piece)) (s ∙ sym (token_end file (width (join front)) (width p)))

pub among_get : (ts : List Token) (i : ℕ) (t : Token) → slice_get ts i ≡ Some t → IsAmong ts t
among_get [] i t e = cc
among_get (u ∷ ts) zero t e = inl (cc)
among_get (u ∷ ts) (suc i) t e = inr (among_get ts i t e)

apart : (i k : ℕ) → i ≤ k → (i ≡ k) ⊎ (i < k)
apart i k le = grind arith

pub some_range : (n : ℕ) (ts : List Token) (from upto start end : ℕ) → AreOrdered 0 (map span_of ts) n → IsRange ts from upto start end → start < end
some_range n ts from upto start end o r = elim (apart from (upto - 1) (omega (arith, r.order))) [
  | inl same ↦
      let one : Some r.first ≡ Some r.last = sym r.has_first ∙ ap (slice_get ts) same ∙ r.has_last in
      let token : r.first ≡ r.last = cc in
      let end_is : r.first.span.end ≡ r.last.span.end = ap (λ (t : Token). t.span.end) token in
      omega (arith, r.begins, r.ends, r.first_written, end_is)
  | inr lt ↦ omega (arith, r.begins, r.ends, r.first_written, r.last_written, earlier 0 n ts from (upto - 1) r.first r.last o lt r.has_first r.has_last)
]

abbrev pub spans_of : (n : ℕ) (ts : List Token) (from upto start end : ℕ) → AreOrdered 0 (map span_of ts) n → IsRange ts from upto start end → Spans ts start end
spans_of n ts from upto start end o r = record {
  first = r.first;
  last = r.last;
  has_first = among_get ts from r.first r.has_first;
  has_last = among_get ts (upto - 1) r.last r.has_last;
  first_written = r.first_written;
  last_written = r.last_written;
  begins = r.begins;
  ends = r.ends;
  some = some_range n ts from upto start end o r;
}
