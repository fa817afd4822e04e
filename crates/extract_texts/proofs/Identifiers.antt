-- Identifier tokens, one by one.
use Rattle.std.proofs.Common.{◌≡◌, ◌∙◌, ℕ, zero, suc, ◌+◌, ◌<◌, ◌≤◌, Bool, true, false, cond, List, [], ◌∷◌, length, drop, get_or, Option, Some, slice_get, refl, sym, ap, arith}
use Rattle.std.proofs.lemmas.List.{drop_all, drop_more}
use Rattle.std.specs.Cmp.Lexicographic.{pointwise}
use Rattle.std.specs.List.{list_any}
use Rattle.std.specs.Option.{option_map}
use Rattle.std.specs.Prelude.{◌&&◌, ◌||◌, nat_eq}
use Rattle.go_tokens.specs.declared.token.Token.{Token}
use Rattle.go_tokens.specs.Editing.{is_identifier}
use Rattle.go_tokens.specs.Spellings.{same_text}
use Rattle.go_tokens.specs.Tokens.{TokenList, text_of}
use Rattle.go_tree.specs.File.{FileTree}
use Rattle.escape_check.specs.Names.{is_identifier_token, names_file}
use Rattle.escape_check.proofs.Public.{one_text, text_is}

cond-or : (b c : Bool) → cond b true c ≡ (b || c)
cond-or true c = refl
cond-or false c = refl

-- an item that is passed, with what was known before it
any-item : {A : Type 0} (test : A → Bool) (xs : List A) (i : ℕ) (x : A) → slice_get xs i ≡ Some x → list_any test (drop i xs) ≡ (test x || list_any test (drop (i + 1) xs))
any-item test [] i x e = cc
any-item test (y ∷ xs) zero x e = let same : y ≡ x = cc in ap (λ z. test z || list_any test xs) same
any-item test (y ∷ xs) (suc i) x e = let s : suc (i + 1) ≡ suc i + 1 = omega arith in any-item test xs i x e ∙ ap (λ j. test x || list_any test (drop j (y ∷ xs))) s

joined : (now before this rest whole : Bool) → now ≡ (this || before) → (before || (this || rest)) ≡ whole → (now || rest) ≡ whole
joined now true true rest whole e h = ap (λ b. b || rest) e ∙ h
joined now true false rest whole e h = ap (λ b. b || rest) e ∙ h
joined now false true rest whole e h = ap (λ b. b || rest) e ∙ h
joined now false false rest whole e h = ap (λ b. b || rest) e ∙ h

-- an identifier that was put into a set
pub identifier_in : (f : FileTree) (l : TokenList) (w v : List ℕ) (i : ℕ) (t : Token) (before now whole : Bool) → l ≡ f.tokens → slice_get l.tokens i ≡ Some t → is_identifier t.kind ≡ true →
    option_map (text_of l) (slice_get l.tokens i) ≡ Some v → now ≡ cond (pointwise nat_eq v w) true before →
    (before || list_any (is_identifier_token f w) (drop i f.tokens.tokens)) ≡ whole → (now || list_any (is_identifier_token f w) (drop (i + 1) f.tokens.tokens)) ≡ whole
identifier_in f l w v i t before now whole same e k text a h =
    let there : slice_get f.tokens.tokens i ≡ Some t = sym (ap (λ x. slice_get x.tokens i) same) ∙ e in
    let spelled : text_of f.tokens t ≡ v = sym (ap (λ x. text_of x t) same) ∙ text_is (text_of l) (slice_get l.tokens i) t v e text in
    let told : is_identifier_token f w t ≡ same_text v w = ap (λ b. b && same_text (text_of f.tokens t) w) k ∙ ap (λ x. same_text x w) spelled in
    joined now before (is_identifier_token f w t) (list_any (is_identifier_token f w) (drop (i + 1) f.tokens.tokens)) whole
    (a ∙ cond-or (pointwise nat_eq v w) before ∙ ap (λ b. b || before) (one_text v w ∙ sym told))
    (ap (λ b. before || b) (sym (any-item (is_identifier_token f w) f.tokens.tokens i t there)) ∙ h)

-- another token
pub identifier_not : (f : FileTree) (l : TokenList) (w : List ℕ) (i : ℕ) (t : Token) (before now whole : Bool) → l ≡ f.tokens → slice_get l.tokens i ≡ Some t → is_identifier t.kind ≡ false → now ≡ before →
    (before || list_any (is_identifier_token f w) (drop i f.tokens.tokens)) ≡ whole → (now || list_any (is_identifier_token f w) (drop (i + 1) f.tokens.tokens)) ≡ whole
identifier_not f l w i t before now whole same e k a h =
    let there : slice_get f.tokens.tokens i ≡ Some t = sym (ap (λ x. slice_get x.tokens i) same) ∙ e in
    let told : is_identifier_token f w t ≡ false = ap (λ b. b && same_text (text_of f.tokens t) w) k in
    joined now before (is_identifier_token f w t) (list_any (is_identifier_token f w) (drop (i + 1) f.tokens.tokens)) whole
    (a ∙ sym (ap (λ b. b || before) told))
    (ap (λ b. before || b) (sym (any-item (is_identifier_token f w) f.tokens.tokens i t there)) ∙ h)

-- a file
pub file_in : (fs : List FileTree) (w : List ℕ) (i : ℕ) (f : FileTree) (before now whole : Bool) → i < length fs → f ≡ get_or fs i f → now ≡ (before || names_file w f) →
    (before || list_any (names_file w) (drop i fs)) ≡ whole → (now || list_any (names_file w) (drop (i + 1) fs)) ≡ whole
file_in fs w i f before now whole l e a h =
    joined now before (names_file w f) (list_any (names_file w) (drop (i + 1) fs)) whole
    (a ∙ turned before (names_file w f))
    (ap (λ b. before || b) (sym (ap (list_any (names_file w)) (drop_more fs i f l ∙ ap (λ x. x ∷ drop (i + 1) fs) (sym e)))) ∙ h)
  where
    turned : (b c : Bool) → (b || c) ≡ (c || b)
    turned true true = refl
    turned true false = refl
    turned false true = refl
    turned false false = refl

pub none_left : {A : Type 0} (test : A → Bool) (xs : List A) (i : ℕ) (b whole : Bool) → length xs ≤ i → (b || list_any test (drop i xs)) ≡ whole → b ≡ whole
none_left test xs i b whole l h = sym (ap (λ ys. b || list_any test ys) (drop_all i xs l) ∙ or-false b) ∙ h
  where
    or-false : (b : Bool) → (b || false) ≡ b
    or-false true = refl
    or-false false = refl
