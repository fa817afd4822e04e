-- Spans in order.
use Rattle.std.proofs.Common.{◌≡◌, ℕ, zero, suc, ◌+◌, ◌*◌, ◌<◌, ◌≤◌, Bool, true, false, cond, ◌&&◌, List, [], ◌∷◌, ◌++◌, length, length-append, map, Some, slice_get, refl, sym, ap, ◌∙◌, subst, arith}
use Rattle.go_base.specs.declared.Span.{Span}
use Rattle.go_tokens.specs.declared.token.Token.{Token}
use Rattle.go_tokens.specs.Pieces.{kind, is_piece}
use Rattle.go_tokens.specs.Lexing.{join, Cut, width, span, token, inserted, token_kind, is_token, is_comment_kind, ends_statement, line_ends, tokens_of, tokens, comments, Lexes}
use Rattle.go_tokens.specs.Tokens.{AreOrdered, span_of}
use Rattle.go_tokens.proofs.Widths.{width-append, width_some}

map_append : (xs ys : List Token) → map span_of (xs ++ ys) ≡ map span_of xs ++ map span_of ys
map_append [] ys = refl
map_append (x ∷ xs) ys = ap (λ l. span_of x ∷ l) (map_append xs ys)

ordered_from : (a b c : ℕ) (ss : List Span) → a ≤ b → AreOrdered b ss c → AreOrdered a ss c
ordered_from a b c [] h o = omega (arith, h, o)
ordered_from a b c (s ∷ ss) h o = (omega (arith, h, o.0), o.1, o.2)

ordered_both : (a b c : ℕ) (ss ts : List Span) → AreOrdered a ss b → AreOrdered b ts c → AreOrdered a (ss ++ ts) c
ordered_both a b c [] ts o p = ordered_from a b c ts o p
ordered_both a b c (s ∷ ss) ts o p = (o.0, o.1, ordered_both s.end b c ss ts o.2 p)

none_ordered : (at n : ℕ) → AreOrdered at [] (at + n)
none_ordered at n = omega arith

one_ordered : (file at n : ℕ) → AreOrdered at (span file at n ∷ []) (at + n)
unfolding span
one_ordered file at n = (omega arith, omega arith, omega arith)

two_ordered : (file at n : ℕ) → AreOrdered at (span file at n ∷ span file (at + n) 0 ∷ []) (at + n)
unfolding span
two_ordered file at n = (omega arith, omega arith, (omega arith, omega arith, omega arith))

of_ordered : (file at : ℕ) (p : List ℕ) (e : Bool) → AreOrdered at (map span_of (tokens_of file at p e)) (at + width p)
of_ordered file at p e = by (is_token p) (ends_statement p && e)
  where
    by : (t s : Bool) → AreOrdered at (map span_of (cond t (token file (token_kind p) at (width p) ∷ cond s (inserted file (at + width p) ∷ []) []) [])) (at + width p)
    by false s = none_ordered at (width p)
    by true false = one_ordered file at (width p)
    by true true = two_ordered file at (width p)

joined : (at : ℕ) (p l : List ℕ) → (at + width p) + width l ≡ at + width (p ++ l)
joined at p l = omega (arith, width-append p l)

pub tokens_ordered : (file at : ℕ) (ps : List (List ℕ)) (e : Bool) → AreOrdered at (map span_of (tokens file at ps e)) (at + width (join ps))
tokens_ordered file at [] e = none_ordered at (width [])
tokens_ordered file at (p ∷ ps) e =
    subst (λ l. AreOrdered at l (at + width (p ++ join ps))) (sym (map_append (tokens_of file at p (line_ends ps e)) (tokens file (at + width p) ps e)))
    (ordered_both at (at + width p) (at + width (p ++ join ps)) (map span_of (tokens_of file at p (line_ends ps e))) (map span_of (tokens file (at + width p) ps e)) (of_ordered file at p (line_ends ps e))
    (subst (AreOrdered (at + width p) (map span_of (tokens file (at + width p) ps e))) (joined at p (join ps)) (tokens_ordered file (at + width p) ps e)))

pub comments_ordered : (file at : ℕ) (ps : List (List ℕ)) → AreOrdered at (comments file at ps) (at + width (join ps))
comments_ordered file at [] = none_ordered at (width [])
comments_ordered file at (p ∷ ps) =
    ordered_both at (at + width p) (at + width (p ++ join ps)) (cond (is_comment_kind (kind p)) (span file at (width p) ∷ []) []) (comments file (at + width p) ps) (by (is_comment_kind (kind p)))
    (subst (AreOrdered (at + width p) (comments file (at + width p) ps)) (joined at p (join ps)) (comments_ordered file (at + width p) ps))
  where
    by : (c : Bool) → AreOrdered at (cond c (span file at (width p) ∷ []) []) (at + width p)
    by true = one_ordered file at (width p)
    by false = none_ordered at (width p)

-- There are at most two tokens, and one comment, for each piece.
of_few : (file at : ℕ) (p : List ℕ) (e : Bool) → length (tokens_of file at p e) ≤ 2
of_few file at p e = by (is_token p) (ends_statement p && e)
  where
    by : (t s : Bool) → length (cond t (token file (token_kind p) at (width p) ∷ cond s (inserted file (at + width p) ∷ []) []) []) ≤ 2
    by false s = omega arith
    by true false = omega arith
    by true true = omega arith

pub piece_some : (p : List ℕ) → is_piece p ≡ true → 0 < width p
piece_some [] h = cc
piece_some (x ∷ b) h = width_some x b

pub tokens_few : (file at : ℕ) (ps : List (List ℕ)) (e : Bool) → Cut ps [] → length (tokens file at ps e) ≤ 2 * width (join ps)
tokens_few file at [] e c = omega arith
tokens_few file at (p ∷ ps) e c = omega (arith, length-append (tokens_of file at p (line_ends ps e)) (tokens file (at + width p) ps e), of_few file at p (line_ends ps e), tokens_few file (at + width p) ps e c.2, width-append p (join ps), piece_some p c.0)

pub comments_few : (file at : ℕ) (ps : List (List ℕ)) → Cut ps [] → length (comments file at ps) ≤ width (join ps)
comments_few file at [] c = omega arith
comments_few file at (p ∷ ps) c = omega (arith, length-append (cond (is_comment_kind (kind p)) (span file at (width p) ∷ []) []) (comments file (at + width p) ps), by (is_comment_kind (kind p)), comments_few file (at + width p) ps c.2, width-append p (join ps), piece_some p c.0)
  where
    by : (t : Bool) → length (cond t (span file at (width p) ∷ []) []) ≤ 1
    by true = omega arith
    by false = omega arith

-- A lexing has few tokens, in order.
pub record Placed (ts : List Token) (cs : List Span) (n : ℕ) : Type 0 where
  pub tokens : AreOrdered 0 (map span_of ts) n
  pub comments : AreOrdered 0 cs n
  pub few : length ts ≤ 2 * n
  pub few_comments : length cs ≤ n

pub placed : (file : ℕ) (text : List ℕ) (ts : List Token) (cs : List Span) (n : ℕ) → Lexes file text ts cs → width text ≡ n → Placed ts cs n
placed file text ts cs n l e =
    let whole : width (join l.pieces) ≡ n = ap width l.whole ∙ e in
    let place : 0 + width (join l.pieces) ≡ n = omega (arith, whole) in
    record {
      tokens = subst (λ xs. AreOrdered 0 (map span_of xs) n) (sym l.spelled) (subst (AreOrdered 0 (map span_of (tokens file 0 l.pieces true))) place (tokens_ordered file 0 l.pieces true));
      comments = subst (λ xs. AreOrdered 0 xs n) (sym l.noted) (subst (AreOrdered 0 (comments file 0 l.pieces)) place (comments_ordered file 0 l.pieces));
      few = (let same : length ts ≡ length (tokens file 0 l.pieces true) = ap length l.spelled in omega (arith, same, whole, tokens_few file 0 l.pieces true l.cut));
      few_comments = (let same : length cs ≡ length (comments file 0 l.pieces) = ap length l.noted in omega (arith, same, whole, comments_few file 0 l.pieces l.cut));
    }

-- A token of an ordered list lies within the text.
pub record IsWithin (n : ℕ) (s : Span) : Type 0 where
  pub forward : s.start ≤ s.end
  pub inside : s.end ≤ n

ordered_end : (a n : ℕ) (ss : List Span) → AreOrdered a ss n → a ≤ n
ordered_end a n [] o = o
ordered_end a n (s ∷ ss) o = omega (arith, o.0, o.1, ordered_end s.end n ss o.2)

pub within : (a n : ℕ) (ts : List Token) (i : ℕ) (t : Token) → AreOrdered a (map span_of ts) n → slice_get ts i ≡ Some t → IsWithin n t.span
within a n [] i t o e = cc
within a n (x ∷ ts) zero t o e = let same : x ≡ t = one x t e in subst (λ y. IsWithin n y.span) same (record { forward = o.1; inside = ordered_end x.span.end n (map span_of ts) o.2 })
  where
    one : (x t : Token) → Some x ≡ Some t → x ≡ t
    one x t e = cc
within a n (x ∷ ts) (suc i) t o e = within x.span.end n ts i t o.2 e
