-- Texts of tokens that stand one behind the other.
use Rattle.std.proofs.Common.{◌≡◌, ℕ, zero, suc, ◌+◌, ◌<◌, List, [], ◌∷◌, Option, Some, None, refl, sym, ap, ◌∙◌, length, arith}
use Rattle.std.proofs.lemmas.Option.{slice_get-map}
use Rattle.std.specs.Prelude.{slice_get, option_map}
use Rattle.go_tokens.specs.declared.token.Token.{Token}
use Rattle.go_tokens.specs.Files.{IsLexing}
use Rattle.go_tokens.specs.Tokens.{TokenList, kinds, text_of}
use Rattle.go_tree.specs.Units.{word, text_in}
use Rattle.go_heads.specs.Functions.{texts_from}
use Rattle.go_heads.specs.Heads.{texts}
use Rattle.go_heads.proofs.Files.{first_same, others_same}
use Rattle.go_heads.proofs.Spellings.{kind_by, kinds_by_texts}

abbrev text_there : Option (List ℕ) → List ℕ
text_there None = []
text_there (Some w) = w

there_mapped : (l : TokenList) (o : Option Token) → text_in l o ≡ text_there (option_map (text_of l) o)
there_mapped l None = refl
there_mapped l (Some t) = refl

-- a token's text is that of the list of all texts
pub word_there : (l : TokenList) (n : ℕ) → word l n ≡ text_there (slice_get (texts l) n)
word_there l n = there_mapped l (slice_get l.tokens n) ∙ ap text_there (sym (slice_get-map (text_of l) l.tokens n))

pub words_same : (a b : TokenList) (n k : ℕ) → slice_get (texts b) k ≡ slice_get (texts a) n → word b k ≡ word a n
words_same a b n k e = word_there b k ∙ ap text_there e ∙ sym (word_there a n)

-- the same texts, one after the other
pub texts_same : (a b : TokenList) (i j k : ℕ) → ((n : ℕ) → n < k → word b (j + n) ≡ word a (i + n)) → texts_from b j k ≡ texts_from a i k
texts_same a b i j zero h = refl
texts_same a b i j (suc k) h =
    let w : word b j ≡ word a i = ap (word b) (let z : j ≡ j + 0 = omega arith in z) ∙ h 0 (omega arith) ∙ ap (word a) (let z : i + 0 ≡ i = omega arith in z) in
    ap (λ x. x ∷ texts_from b (suc j) k) w
    ∙ ap (λ xs. word a i ∷ xs) (texts_same a b (suc i) (suc j) k (λ n lt. ap (word b) (let z : suc j + n ≡ j + suc n = omega arith in z) ∙ h (suc n) (omega (arith, lt)) ∙ ap (word a) (let z : i + suc n ≡ suc i + n = omega arith in z)))

pub texts_length : (l : TokenList) (i k : ℕ) → length (texts_from l i k) ≡ k
texts_length l i zero = refl
texts_length l i (suc k) = ap suc (texts_length l (suc i) k)

pub texts_apart : (a b : TokenList) (i j k : ℕ) → texts_from b j k ≡ texts_from a i k → (n : ℕ) → n < k → word b (j + n) ≡ word a (i + n)
texts_apart a b i j zero e n lt = absurd (omega (arith, lt))
texts_apart a b i j (suc k) e zero lt =
    ap (word b) (let z : j + 0 ≡ j = omega arith in z) ∙ first_same (word b j) (word a i) (texts_from b (suc j) k) (texts_from a (suc i) k) e ∙ ap (word a) (let z : i ≡ i + 0 = omega arith in z)
texts_apart a b i j (suc k) e (suc n) lt =
    ap (word b) (let z : j + suc n ≡ suc j + n = omega arith in z)
    ∙ texts_apart a b (suc i) (suc j) k (others_same (word b j) (word a i) (texts_from b (suc j) k) (texts_from a (suc i) k) e) n (omega (arith, lt))
    ∙ ap (word a) (let z : suc i + n ≡ i + suc n = omega arith in z)

-- ---- kinds

within : {A : Type 0} (xs : List A) (n : ℕ) → n < length xs → (x : A) × (slice_get xs n ≡ Some x)
within [] n lt = absurd (omega (arith, lt))
within (x ∷ xs) zero lt = (x, refl)
within (x ∷ xs) (suc n) lt = within xs n (omega (arith, lt))

-- the kind of a token that is there, by its text
kind_of_word : (l : TokenList) → IsLexing l.file l.text l.tokens l.comments → (n : ℕ) → n < length l.tokens → slice_get (kinds l.tokens) n ≡ Some (kind_by (word l n))
kind_of_word l h n lt =
    let t = within l.tokens n lt in
    ap (λ ks. slice_get ks n) (kinds_by_texts l h)
    ∙ slice_get-map kind_by (texts l) n
    ∙ ap (option_map kind_by) (slice_get-map (text_of l) l.tokens n ∙ ap (option_map (text_of l)) t.1)
    ∙ ap (λ o. Some (kind_by (text_in l o))) (sym t.1)

pub kinds_same : (a b : TokenList) → IsLexing a.file a.text a.tokens a.comments → IsLexing b.file b.text b.tokens b.comments → (n k : ℕ)
    → n < length a.tokens → k < length b.tokens → word b k ≡ word a n → slice_get (kinds b.tokens) k ≡ slice_get (kinds a.tokens) n
kinds_same a b g h n k ln lk e = kind_of_word b h k lk ∙ ap (λ w. Some (kind_by w)) e ∙ sym (kind_of_word a g n ln)
