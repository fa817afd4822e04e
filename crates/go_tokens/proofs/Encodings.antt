-- The characters of a file, and where none begins.
use Rattle.std.proofs.Common.{◌≡◌, ℕ, suc, ◌+◌, ◌<◌, ◌≤◌, ◌⊎◌, ⊎_elim, Bool, true, false, not, cond, ◌&&◌, ◌==◌, List, [], ◌∷◌, ◌++◌, length, length-append, length-drop, take, drop, get_or, append_assoc, append-nil, refl, sym, ap, ◌∙◌, subst, inl, inr, arith, eqb-true}
use Rattle.std.specs.List.{list_all}
use Rattle.std.specs.Str.{encode_utf8_all, all_scalars, IsUtf8, IsValidUpTo, chars}
use Rattle.std.specs.Char.{encode_utf8, IsScalar}
use Rattle.std.proofs.Math.Seq.{split_at, take-add, drop-cons}
use Rattle.std.proofs.lemmas.List.{take-append-drop, take_more, take_at, take_all, length-take-le}
use Rattle.std.proofs.lemmas.Str.{encodes-append, encode_same, encodes_same, IsUtf8-append, IsUtf8-encode, length-encode, len_utf8_bounds, encodes-chars, scalars-chars, utf8_valid_len_le, utf8_valid_len-IsUtf8}
use Rattle.std.specs.Str.Lossy.{utf8_valid_len}
use Rattle.go_base.specs.declared.Fault.{Fault}
use Rattle.go_tokens.specs.Lexing.{width}
use Rattle.go_tokens.specs.Encoding.{is_plain, are_allowed, IsText, refused_width, encoding_fault, IsEncodingFault}
use Rattle.go_tokens.specs.Progress.{IsRefused}
use Rattle.go_tokens.proofs.Lists.{both, not_true, true_false, same_text-true}
use Rattle.go_tokens.proofs.Seams.{and_both, and_second}

-- Fronts of texts.
pub scalars_both : (xs ys : List ℕ) → all_scalars (xs ++ ys) ≡ true → (all_scalars xs ≡ true) × (all_scalars ys ≡ true)
scalars_both [] ys h = (refl, h)
scalars_both (x ∷ xs) ys h =
    let parts = both _ (all_scalars (xs ++ ys)) h in
    let rest = scalars_both xs ys parts.1 in
    (and_both _ _ parts.0 rest.0, rest.1)

pub scalars_join : (xs ys : List ℕ) → all_scalars xs ≡ true → all_scalars ys ≡ true → all_scalars (xs ++ ys) ≡ true
scalars_join [] ys h k = k
scalars_join (x ∷ xs) ys h k = let parts = both _ (all_scalars xs) h in and_both _ _ parts.0 (scalars_join xs ys parts.1 k)

plain_front : (xs ys : List ℕ) → list_all is_plain (xs ++ ys) ≡ true → list_all is_plain xs ≡ true
plain_front [] ys h = refl
plain_front (x ∷ xs) ys h = let parts = both (is_plain x) (list_all is_plain (xs ++ ys)) h in and_both _ _ parts.0 (plain_front xs ys parts.1)

pub allowed_front : (xs ys : List ℕ) → are_allowed (xs ++ ys) ≡ true → are_allowed xs ≡ true
allowed_front [] ys h = refl
allowed_front (x ∷ xs) ys h = let parts = both (not (x == 0)) (list_all is_plain (xs ++ ys)) h in and_both _ _ parts.0 (plain_front xs ys parts.1)

-- What is not allowed behind allowed characters is a NUL or a byte order mark.
not_plain : (a b : Bool) → (not a && not b) ≡ false → (a ≡ true) ⊎ (b ≡ true)
not_plain true b h = inl refl
not_plain false true h = inr refl
not_plain false false h = cc

plain_last : (xs : List ℕ) (c : ℕ) → list_all is_plain xs ≡ true → list_all is_plain (xs ++ c ∷ []) ≡ false → is_plain c ≡ false
plain_last [] c h k = not_true _ (λ t. true_false _ (and_both _ _ t refl) k)
plain_last (x ∷ xs) c h k =
    let parts = both (is_plain x) (list_all is_plain xs) h in
    plain_last xs c parts.1 (not_true _ (λ t. true_false _ (and_both _ _ parts.0 t) k))

refused_is : (xs : List ℕ) (c : ℕ) → are_allowed xs ≡ true → are_allowed (xs ++ c ∷ []) ≡ false → (c ≡ 0) ⊎ (c ≡ 65279)
refused_is [] c h k = inl (eqb-true c 0 (nought (c == 0) k))
  where
    nought : (a : Bool) → (not a && true) ≡ false → a ≡ true
    nought true e = refl
    nought false e = cc
refused_is (x ∷ xs) c h k =
    let parts = both (not (x == 0)) (list_all is_plain xs) h in
    let last = plain_last xs c parts.1 (not_true _ (λ t. true_false _ (and_both _ _ parts.0 t) k)) in
    ⊎_elim (λ e. inl (eqb-true c 0 e)) (λ e. inr (eqb-true c 65279 e)) (not_plain (c == 0) (c == 65279) last)

nul_width : (r : List ℕ) → refused_width (encode_utf8 0 ++ r) ≡ width (0 ∷ [])
unfolding width encode_utf8
nul_width r = refl

mark_width : (r : List ℕ) → refused_width (encode_utf8 65279 ++ r) ≡ width (65279 ∷ [])
unfolding width encode_utf8
mark_width r = refl

refused_wide : (c : ℕ) (r : List ℕ) → (c ≡ 0) ⊎ (c ≡ 65279) → refused_width (encode_utf8 c ++ r) ≡ width (c ∷ [])
refused_wide c r h =
    ⊎_elim
    (λ e. subst (λ d. refused_width (encode_utf8 d ++ r) ≡ width (d ∷ [])) (sym e) (nul_width r))
    (λ e. subst (λ d. refused_width (encode_utf8 d ++ r) ≡ width (d ∷ [])) (sym e) (mark_width r)) h

-- A character that is not allowed is the file's fault.
encode_some : (c : ℕ) (r : List ℕ) → 0 < length (encode_utf8 c ++ r)
encode_some c r = omega (arith, length-append (encode_utf8 c) r, length-encode c, len_utf8_bounds c)

pub refused_fault : (file : ℕ) (bytes text rest : List ℕ) (fault : Fault) → encode_utf8_all text ++ rest ≡ bytes → all_scalars text ≡ true → IsRefused file text fault → IsEncodingFault file bytes fault
refused_fault file bytes text rest fault e s r = record {
  text = before;
  rest = encode_utf8 c ++ behind;
  whole = append_parts ∙ e;
  scalars = (scalars_both before (c ∷ drop (suc r.index) text) (subst (λ l. all_scalars l ≡ true) parts s)).0;
  allowed = r.before;
  more = encode_some c behind;
  none = λ d others k f. subst (λ x. are_allowed (before ++ x ∷ []) ≡ false) ((encode_same c d behind others f).0) refused;
  place = r.place ∙ ap (λ l. encoding_fault file (width before) (width l)) one ∙ ap (encoding_fault file (width before)) (sym (refused_wide c behind (refused_is before c r.before refused)));
}
  where
    before : List ℕ
    before = take r.index text

    c : ℕ
    c = get_or text r.index 0

    behind : List ℕ
    behind = encode_utf8_all (drop (suc r.index) text) ++ rest

    parts : text ≡ before ++ c ∷ drop (suc r.index) text
    parts = split_at text r.index 0 r.within

    refused : are_allowed (before ++ c ∷ []) ≡ false
    refused = ap are_allowed (sym (take_more text r.index 0 r.within)) ∙ r.refused

    one : take 1 (drop r.index text) ≡ c ∷ []
    one = ap (take 1) (drop-cons text r.index 0 r.within)

    append_parts : encode_utf8_all before ++ (encode_utf8 c ++ behind) ≡ encode_utf8_all text ++ rest
    append_parts =
        ap (λ l. encode_utf8_all before ++ l) (sym (append_assoc (encode_utf8 c) (encode_utf8_all (drop (suc r.index) text)) rest))
        ∙ sym (append_assoc (encode_utf8_all before) (encode_utf8 c ++ encode_utf8_all (drop (suc r.index) text)) rest)
        ∙ ap (λ l. l ++ rest) (sym (encodes-append before (c ∷ drop (suc r.index) text)) ∙ ap encode_utf8_all (sym parts))

-- Where the bytes are no character the fault is there.
no_char : (bytes : List ℕ) (v : ℕ) → IsValidUpTo bytes v → (d : ℕ) (others : List ℕ) → IsScalar d → drop v bytes ≡ encode_utf8 d ++ others → ⊥
no_char bytes v valid d others s e =
    let n : ℕ = length (encode_utf8 d) in
    let longer : take (v + n) bytes ≡ take v bytes ++ encode_utf8 d = take-add v n bytes ∙ ap (λ l. take v bytes ++ l) (ap (take n) e ∙ take_at (encode_utf8 d) others n refl) in
    valid.longest (v + n) (omega (arith, length-encode d, len_utf8_bounds d)) (subst IsUtf8 (sym longer) (IsUtf8-append (take v bytes) (encode_utf8 d) valid.front (IsUtf8-encode d s)))

mark_scalar : IsScalar 65279
mark_scalar = refl

mark_bytes : encode_utf8 65279 ≡ 0xEF ∷ 0xBB ∷ 0xBF ∷ []
unfolding encode_utf8
mark_bytes = refl

one_byte : (bytes : List ℕ) (v : ℕ) → IsValidUpTo bytes v → refused_width (drop v bytes) ≡ 1
one_byte bytes v valid = ap (λ b. cond b 3 1) (not_true _ (λ t. no_char bytes v valid 65279 (drop 3 (drop v bytes)) mark_scalar (sym (take-append-drop 3 (drop v bytes)) ∙ ap (λ l. l ++ drop 3 (drop v bytes)) (sym (same_text-true _ _ t) ∙ sym mark_bytes))))

pub ill_formed_fault : (file : ℕ) (bytes text : List ℕ) (v : ℕ) (fault : Fault) → encode_utf8_all text ≡ take v bytes → all_scalars text ≡ true → are_allowed text ≡ true → IsValidUpTo bytes v → fault ≡ encoding_fault file (width text) 1 → IsEncodingFault file bytes fault
ill_formed_fault file bytes text v fault e s a valid f = record {
  text = text;
  rest = drop v bytes;
  whole = ap (λ l. l ++ drop v bytes) e ∙ take-append-drop v bytes;
  scalars = s;
  allowed = a;
  more = omega (arith, length-drop v bytes, valid.short);
  none = λ d others k g. absurd (no_char bytes v valid d others k g);
  place = f ∙ ap (encoding_fault file (width text)) (sym (one_byte bytes v valid));
}

-- A file has one text, or one fault of the encoding.
pub one_text : (text other bytes : List ℕ) → IsText text bytes → IsText other bytes → text ≡ other
one_text text other bytes x y = encodes_same text other (x.encoded ∙ sym y.encoded)

-- characters behind a front
record Behind (xs ts rest : List ℕ) : Type 0 where
  zs : List ℕ
  is : ts ≡ xs ++ zs
  encoded : rest ≡ encode_utf8_all zs

nothing_encoded : (x : ℕ) (l : List ℕ) → encode_utf8 x ++ l ≡ [] → ⊥
nothing_encoded x l e = let none : length (encode_utf8 x ++ l) ≡ 0 = ap length e in omega (arith, none, encode_some x l)

front_of : (xs ts rest : List ℕ) → encode_utf8_all xs ++ rest ≡ encode_utf8_all ts → Behind xs ts rest
front_of [] ts rest e = record { zs = ts; is = refl; encoded = e }
front_of (x ∷ xs) [] rest e = absurd (nothing_encoded x _ (sym (append_assoc (encode_utf8 x) (encode_utf8_all xs) rest) ∙ e))
front_of (x ∷ xs) (t ∷ ts) rest e =
    let same = encode_same x t _ _ (sym (append_assoc (encode_utf8 x) (encode_utf8_all xs) rest) ∙ e) in
    let more = front_of xs ts rest same.1 in
    let head = same.0 in
    let is = more.is in
    record { zs = more.zs; is = cc; encoded = more.encoded }

-- an allowed text goes on over no place where none is
no_next : (xs zs rest : List ℕ) → 0 < length rest → ((c : ℕ) (others : List ℕ) → IsScalar c → rest ≡ encode_utf8 c ++ others → are_allowed (xs ++ c ∷ []) ≡ false) → all_scalars zs ≡ true → are_allowed (xs ++ zs) ≡ true → (more : List ℕ) → rest ≡ encode_utf8_all zs ++ more → length more ≤ 0 ⊎ (0 < length zs) → ⊥
no_next xs [] rest some none s a more e h = ⊎_elim (λ m. let same : length rest ≡ length more = ap length e in omega (arith, some, same, m)) (λ z. omega (arith, z)) h
no_next xs (c ∷ cs) rest some none s a more e h =
    let refused = none c (encode_utf8_all cs ++ more) (both _ (all_scalars cs) s).0 (e ∙ append_assoc (encode_utf8 c) (encode_utf8_all cs) more) in
    let allowed : are_allowed (xs ++ c ∷ []) ≡ true = allowed_front (xs ++ c ∷ []) cs (subst (λ l. are_allowed l ≡ true) (sym (append_assoc xs (c ∷ []) cs)) a) in
    true_false _ allowed refused

pub text_no_fault : (file : ℕ) (bytes text : List ℕ) (fault : Fault) → IsText text bytes → IsEncodingFault file bytes fault → ⊥
text_no_fault file bytes text fault x y =
    let behind = front_of y.text text y.rest (y.whole ∙ sym x.encoded) in
    no_next y.text behind.zs y.rest y.more y.none
    (scalars_both y.text behind.zs (subst (λ l. all_scalars l ≡ true) behind.is x.scalars)).1
    (subst (λ l. are_allowed l ≡ true) behind.is x.allowed)
    [] (behind.encoded ∙ sym (append-nil (encode_utf8_all behind.zs))) (inl (omega arith))

-- two fronts of one text
data Fronts (xs r ys s : List ℕ) : Type 0 where
  Same : xs ≡ ys → r ≡ s → Fronts xs r ys s
  First : (c : ℕ) (cs : List ℕ) → ys ≡ xs ++ c ∷ cs → r ≡ encode_utf8_all (c ∷ cs) ++ s → Fronts xs r ys s
  Second : (c : ℕ) (cs : List ℕ) → xs ≡ ys ++ c ∷ cs → s ≡ encode_utf8_all (c ∷ cs) ++ r → Fronts xs r ys s

fronts_more : (x y : ℕ) (xs r ys s : List ℕ) → x ≡ y → Fronts xs r ys s → Fronts (x ∷ xs) r (y ∷ ys) s
fronts_more x y xs r ys s e (Same h k) = Same (cc) k
fronts_more x y xs r ys s e (First c cs h k) = First c cs (cc) k
fronts_more x y xs r ys s e (Second c cs h k) = Second c cs (cc) k

fronts_of : (xs r ys s : List ℕ) → encode_utf8_all xs ++ r ≡ encode_utf8_all ys ++ s → Fronts xs r ys s
fronts_of [] r [] s e = Same refl e
fronts_of [] r (y ∷ ys) s e = First y ys refl e
fronts_of (x ∷ xs) r [] s e = Second x xs refl (sym e)
fronts_of (x ∷ xs) r (y ∷ ys) s e =
    let same = encode_same x y _ _ (sym (append_assoc (encode_utf8 x) (encode_utf8_all xs) r) ∙ e ∙ append_assoc (encode_utf8 y) (encode_utf8_all ys) s) in
    fronts_more x y xs r ys s same.0 (fronts_of xs r ys s same.1)

same_fault : (file : ℕ) (bytes : List ℕ) (f g : Fault) (x : IsEncodingFault file bytes f) (y : IsEncodingFault file bytes g) → Fronts x.text x.rest y.text y.rest → f ≡ g
same_fault file bytes f g x y (Same h k) = x.place ∙ ap (λ l. encoding_fault file (width l) (refused_width x.rest)) h ∙ ap (λ l. encoding_fault file (width y.text) (refused_width l)) k ∙ sym y.place
same_fault file bytes f g x y (First c cs h k) = absurd (no_next x.text (c ∷ cs) x.rest x.more x.none (scalars_both x.text (c ∷ cs) (subst (λ l. all_scalars l ≡ true) h y.scalars)).1 (subst (λ l. are_allowed l ≡ true) h y.allowed) y.rest k (inr (omega arith)))
same_fault file bytes f g x y (Second c cs h k) = absurd (no_next y.text (c ∷ cs) y.rest y.more y.none (scalars_both y.text (c ∷ cs) (subst (λ l. all_scalars l ≡ true) h x.scalars)).1 (subst (λ l. are_allowed l ≡ true) h x.allowed) x.rest k (inr (omega arith)))

pub one_encoding_fault : (file : ℕ) (bytes : List ℕ) (f g : Fault) → IsEncodingFault file bytes f → IsEncodingFault file bytes g → f ≡ g
one_encoding_fault file bytes f g x y = same_fault file bytes f g x y (fronts_of x.text x.rest y.text y.rest (x.whole ∙ sym y.whole))

-- More of a text is allowed, or refused.
pub allowed_more : (text : List ℕ) (i c : ℕ) → are_allowed (take i text) ≡ true → i < length text → c ≡ get_or text i 0 → (c == 0) ≡ false → ((c == 65279) ≡ true → i ≡ 0) → are_allowed (take (i + 1) text) ≡ true
allowed_more text i c h within e nul mark = ap are_allowed (take_more text i 0 within ∙ ap (λ x. take i text ++ x ∷ []) (sym e)) ∙ behind (take i text) h (length_take)
  where
    length_take : length (take i text) ≡ i
    length_take = length-take-le i text (omega (arith, within))

    plain_more : (xs : List ℕ) → is_plain c ≡ true → list_all is_plain xs ≡ true → list_all is_plain (xs ++ c ∷ []) ≡ true
    plain_more [] p k = and_both _ _ p refl
    plain_more (x ∷ xs) p k = let parts = both (is_plain x) (list_all is_plain xs) k in and_both _ _ parts.0 (plain_more xs p parts.1)

    behind : (xs : List ℕ) → are_allowed xs ≡ true → length xs ≡ i → are_allowed (xs ++ c ∷ []) ≡ true
    behind [] k n = and_both _ _ (ap not nul) refl
    behind (x ∷ xs) k n =
        let parts = both (not (x == 0)) (list_all is_plain xs) k in
        let plain : is_plain c ≡ true = and_both _ _ (ap not nul) (ap not (not_true _ (λ t. let none = mark t in absurd (omega (arith, n, none))))) in
        and_both _ _ parts.0 (plain_more xs plain parts.1)

pub refused_nul : (text : List ℕ) (i c : ℕ) → i < length text → c ≡ get_or text i 0 → c ≡ 0 → are_allowed (take (i + 1) text) ≡ false
refused_nul text i c within e nul = ap are_allowed (take_more text i 0 within ∙ ap (λ x. take i text ++ x ∷ []) (sym e ∙ nul)) ∙ behind (take i text)
  where
    plain_nul : (xs : List ℕ) → list_all is_plain (xs ++ 0 ∷ []) ≡ false
    plain_nul [] = refl
    plain_nul (x ∷ xs) = and_second (is_plain x) _ (plain_nul xs)

    behind : (xs : List ℕ) → are_allowed (xs ++ 0 ∷ []) ≡ false
    behind [] = refl
    behind (x ∷ xs) = and_second (not (x == 0)) _ (plain_nul xs)

pub refused_mark : (text : List ℕ) (i c : ℕ) → i < length text → c ≡ get_or text i 0 → c ≡ 65279 → 0 < i → are_allowed (take (i + 1) text) ≡ false
refused_mark text i c within e mark some = ap are_allowed (take_more text i 0 within ∙ ap (λ x. take i text ++ x ∷ []) (sym e ∙ mark)) ∙ behind (take i text) (length-take-le i text (omega (arith, within)))
  where
    plain_mark : (xs : List ℕ) → list_all is_plain (xs ++ 65279 ∷ []) ≡ false
    plain_mark [] = refl
    plain_mark (x ∷ xs) = and_second (is_plain x) _ (plain_mark xs)

    behind : (xs : List ℕ) → length xs ≡ i → are_allowed (xs ++ 65279 ∷ []) ≡ false
    behind [] n = absurd (omega (arith, n, some))
    behind (x ∷ xs) n = and_second (not (x == 0)) _ (plain_mark xs)

-- The text of a file, or its fault, from the longest front that is UTF-8.
pub record IsFront (bytes front text : List ℕ) : Type 0 where
  pub is : front ≡ take (utf8_valid_len bytes) bytes
  pub utf8 : IsUtf8 front
  pub longest : IsUtf8 bytes ⊎ IsValidUpTo bytes (utf8_valid_len bytes)
  pub text_is : text ≡ chars front

front_encoded : (bytes front text : List ℕ) → IsFront bytes front text → encode_utf8_all text ≡ front
front_encoded bytes front text f = ap encode_utf8_all f.text_is ∙ encodes-chars front f.utf8

front_scalars : (bytes front text : List ℕ) → IsFront bytes front text → all_scalars text ≡ true
front_scalars bytes front text f = ap all_scalars f.text_is ∙ scalars-chars front f.utf8

pub front_width : (bytes front text : List ℕ) → IsFront bytes front text → width text ≤ length bytes
unfolding width
front_width bytes front text f =
    let same : length (encode_utf8_all text) ≡ length (take (utf8_valid_len bytes) bytes) = ap length (front_encoded bytes front text f ∙ f.is) in
    omega (arith, same, length-take-le (utf8_valid_len bytes) bytes (utf8_valid_len_le bytes), utf8_valid_len_le bytes)

front_length : (bytes front text : List ℕ) → IsFront bytes front text → length front ≡ utf8_valid_len bytes
front_length bytes front text f = ap length f.is ∙ length-take-le (utf8_valid_len bytes) bytes (utf8_valid_len_le bytes)

pub decode_fault : (file : ℕ) (bytes front text : List ℕ) (fault : Fault) (all : Bool) → IsFront bytes front text → (all ≡ false → length front ≡ length bytes → ⊥) → IsRefused file text fault ⊎ (are_allowed text ≡ true) × (all ≡ false) × (fault ≡ encoding_fault file (width text) 1) → IsEncodingFault file bytes fault
decode_fault file bytes front text fault all f short h =
    ⊎_elim
    (λ r. refused_fault file bytes text (drop (utf8_valid_len bytes) bytes) fault (ap (λ l. l ++ drop (utf8_valid_len bytes) bytes) (front_encoded bytes front text f ∙ f.is) ∙ take-append-drop (utf8_valid_len bytes) bytes) (front_scalars bytes front text f) r)
    (λ r. ⊎_elim
    (λ u. absurd (short r.1 (front_length bytes front text f ∙ utf8_valid_len-IsUtf8 bytes u)))
    (λ v. ill_formed_fault file bytes text (utf8_valid_len bytes) fault (front_encoded bytes front text f ∙ f.is) (front_scalars bytes front text f) r.0 v r.2)
    f.longest) h

pub decode_text : (bytes front text : List ℕ) → IsFront bytes front text → length front ≡ length bytes → are_allowed text ≡ true → IsText text bytes
decode_text bytes front text f e a = record {
  scalars = front_scalars bytes front text f;
  encoded = front_encoded bytes front text f ∙ f.is ∙ take_all (utf8_valid_len bytes) bytes (omega (arith, e, front_length bytes front text f));
  allowed = a;
}

pub text_width : (text bytes : List ℕ) → IsText text bytes → width text ≡ length bytes
unfolding width
text_width text bytes t = ap length t.encoded
