-- The names that files have are names.
use Rattle.std.proofs.Common.{◌≡◌, ℕ, zero, suc, Bool, true, false, not, ◌&&◌, ◌==◌, if◌then◌else◌, List, [], ◌∷◌, ◌++◌, map, Some, eqb-true, refl, sym, ap, ◌∙◌, subst}
use Rattle.std.specs.Prelude.{slice_get, slice_range}
use Rattle.std.specs.Option.{option_map}
use Rattle.std.specs.List.{list_all}
use Rattle.std.specs.Str.{chars, encode_utf8_all, all_scalars}
use Rattle.std.proofs.lemmas.Str.{chars-encodes}
use Rattle.go_tokens.specs.declared.token.Token.{Token}
use Rattle.go_tokens.specs.declared.token.TokenKind.TheVariants as token
use Rattle.go_tokens.specs.Characters.{is_white}
use Rattle.go_tokens.specs.Pieces.{begun_by, is_piece, is_good}
use Rattle.go_tokens.specs.Encoding.{is_plain, are_allowed}
use Rattle.go_tokens.specs.Lexing.{join, Cut, is_token, token_kind, ends_statement, line_ends}
use Rattle.go_tokens.specs.Replacing.{Item, read, semicolon, items}
use Rattle.go_tokens.proofs.Public.{both, true_false, and_both, read_all, width-nil}
use Rattle.go_print_laws.specs.Lexemes.{IsWord, NamesAreNames}
use Rattle.go_print_laws.proofs.Lexed.{plain_allowed}

-- no token begins with a byte order mark
mark_is_none : (xs : List ℕ) → is_token (65279 ∷ xs) ≡ false
unfolding begun_by is_white
mark_is_none xs = refl

plain_first : (x : ℕ) (xs : List ℕ) → is_token (x ∷ xs) ≡ true → not (x == 0) ≡ true → is_plain x ≡ true
plain_first x xs t n = and_both (not (x == 0)) _ n (by (x == 65279) refl)
  where
    by : (b : Bool) → b ≡ (x == 65279) → not b ≡ true
    by true e = absurd (true_false _ t (ap (λ y. is_token (y ∷ xs)) (eqb-true x 65279 (sym e)) ∙ mark_is_none xs))
    by false e = refl

scalars-parts : (xs ys : List ℕ) → all_scalars (xs ++ ys) ≡ true → (all_scalars xs ≡ true) × (all_scalars ys ≡ true)
scalars-parts [] ys h = (refl, h)
scalars-parts (x ∷ xs) ys h = let b = both _ (all_scalars (xs ++ ys)) h in let r = scalars-parts xs ys b.1 in (and_both _ _ b.0 r.0, r.1)

plain-parts : (xs ys : List ℕ) → list_all is_plain (xs ++ ys) ≡ true → (list_all is_plain xs ≡ true) × (list_all is_plain ys ≡ true)
plain-parts [] ys h = (refl, h)
plain-parts (x ∷ xs) ys h = let b = both (is_plain x) _ h in let r = plain-parts xs ys b.1 in (and_both (is_plain x) _ b.0 r.0, r.1)

-- the characters of a piece, and those behind it
allowed-parts : (p ys : List ℕ) → is_piece p ≡ true → are_allowed (p ++ ys) ≡ true → (is_token p ≡ true → list_all is_plain p ≡ true) × (are_allowed ys ≡ true)
allowed-parts [] ys h a = absurd (true_false _ h refl)
allowed-parts (x ∷ xs) ys h a =
    let b = both (not (x == 0)) _ a in
    let r = plain-parts xs ys b.1 in
    (λ t. and_both (is_plain x) _ (plain_first x xs t b.0) r.0, plain_allowed ys r.1)

no_semicolon : (i : Item) → Some (record { kind = token.Semicolon; text = [] }) ≡ Some i → i.kind ≡ token.Identifier → ⊥
no_semicolon i e k =
    let same : record { kind = token.Semicolon; text = [] } ≡ i = cc in
    let other : token.Semicolon ≡ token.Identifier = ap (λ (x : Item). x.kind) same ∙ k in
    cc

record Spelled (bytes : List ℕ) : Type 0 where
  text : List ℕ
  word : IsWord token.Identifier bytes text

first_is : (p : List ℕ) (i : Item) → is_piece p ≡ true → is_good p ≡ true → is_token p ≡ true → all_scalars p ≡ true → list_all is_plain p ≡ true
    → Some (record { kind = token_kind p; text = encode_utf8_all p }) ≡ Some i → i.kind ≡ token.Identifier → Spelled i.text
first_is p i h g t s a e k =
    let same : record { kind = token_kind p; text = encode_utf8_all p } ≡ i = cc in
    record { text = p; word = record { piece = h; good = g; token = t; kind = ap (λ (x : Item). x.kind) same ∙ k; scalars = s; plain = a; encoded = ap (λ (x : Item). x.text) same } }

found : (ps : List (List ℕ)) (rest : List ℕ) (e : Bool) (n : ℕ) (i : Item) → Cut ps rest → list_all is_good ps ≡ true → all_scalars (join ps) ≡ true → are_allowed (join ps) ≡ true
    → slice_get (items ps e) n ≡ Some i → i.kind ≡ token.Identifier → Spelled i.text
found [] rest e n i c g s a h k = cc
found (p ∷ ps) rest e n i c g s a h k =
    let b = both (is_good p) _ g in
    let x = scalars-parts p (join ps) s in
    let y = allowed-parts p (join ps) c.0 a in
    by (is_token p) (ends_statement p && line_ends ps e) n refl (λ m f. found ps rest e m i c.2 b.1 x.1 y.1 f k) (λ t f. first_is p i c.0 b.0 t x.0 (y.0 t) f k) h
  where
    by : (t d : Bool) (m : ℕ) → t ≡ is_token p → ((l : ℕ) → slice_get (items ps e) l ≡ Some i → Spelled i.text)
        → (is_token p ≡ true → Some (record { kind = token_kind p; text = encode_utf8_all p }) ≡ Some i → Spelled i.text)
        → slice_get ((if t then record { kind = token_kind p; text = encode_utf8_all p } ∷ semicolon d else []) ++ items ps e) m ≡ Some i → Spelled i.text
    by false d m u later first f = later m f
    by true d zero u later first f = first (sym u) f
    by true false (suc m) u later first f = later m f
    by true true (suc zero) u later first f = absurd (no_semicolon i f k)
    by true true (suc (suc m)) u later first f = later m f

mapped_at : (f : Token → Item) (ts : List Token) (n : ℕ) (t : Token) → slice_get ts n ≡ Some t → slice_get (map f ts) n ≡ Some (f t)
mapped_at f [] n t h = cc
mapped_at f (u ∷ us) zero t h = ap (option_map f) h
mapped_at f (u ∷ us) (suc n) t h = mapped_at f us n t h

pub names_are_names : NamesAreNames
names_are_names bytes name h =
    let l = h.lexing in
    let x = l.lexes in
    let at : slice_get (items x.pieces true) h.number ≡ Some (record { kind = h.found.kind; text = slice_range (encode_utf8_all l.text) h.found.span.start h.found.span.end }) =
    ap (λ us. slice_get us h.number) (sym (ap (map (read l.text)) x.spelled ∙ read_all h.file l.text [] x.pieces 0 true (sym x.whole) (sym width-nil)))
    ∙ mapped_at (read l.text) h.tokens h.number h.found h.is_found in
    let w = found x.pieces [] true h.number (record { kind = h.found.kind; text = slice_range (encode_utf8_all l.text) h.found.span.start h.found.span.end }) x.cut x.good
    (ap all_scalars x.whole ∙ l.is_text.scalars) (ap are_allowed x.whole ∙ l.is_text.allowed) at h.kind_is in
    let same : slice_range (encode_utf8_all l.text) h.found.span.start h.found.span.end ≡ name = ap (λ b. slice_range b h.found.span.start h.found.span.end) l.is_text.encoded ∙ h.spelled_is in
    let word : IsWord token.Identifier name w.text = subst (λ b. IsWord token.Identifier b w.text) same w.word in
    subst (IsWord token.Identifier name) (sym (ap chars (sym word.encoded) ∙ chars-encodes w.text word.scalars)) word
