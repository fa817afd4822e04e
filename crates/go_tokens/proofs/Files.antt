-- A file has one lexing, or one fault.
use Rattle.std.proofs.Common.{◌≡◌, ℕ, ⊎_elim, List, ap, ◌∙◌, subst, inl, inr, Result, Ok, Err}
use Rattle.go_base.specs.Gives.{Unless, Meets}
use Rattle.go_base.proofs.Public.{unless_map}
use Rattle.go_base.specs.declared.Span.{Span}
use Rattle.go_base.specs.declared.Fault.{Fault}
use Rattle.go_tokens.specs.declared.token.Token.{Token}
use Rattle.go_tokens.specs.declared.error.LexError.{LexError}
use Rattle.go_tokens.specs.Lexing.{Lexes, IsTokenFault}
use Rattle.go_tokens.specs.Encoding.{IsText, IsEncodingFault}
use Rattle.go_tokens.specs.Tokens.{TokenList}
use Rattle.go_tokens.specs.Files.{IsLexing, IsLaterFault, IsFault, lex_refusal}
use Rattle.go_tokens.proofs.Unique.{one_lexing, one_fault, no_fault}
use Rattle.go_tokens.proofs.Encodings.{one_text, text_no_fault, one_encoding_fault}

pub one_file_lexing : (file : ℕ) (bytes : List ℕ) (ts us : List Token) (cs ds : List Span) → IsLexing file bytes ts cs → IsLexing file bytes us ds → (ts ≡ us) × (cs ≡ ds)
one_file_lexing file bytes ts us cs ds x y = one_lexing file y.text ts us cs ds (subst (λ t. Lexes file t ts cs) (one_text x.text y.text bytes x.is_text y.is_text) x.lexes) y.lexes

later_no_lexing : (file : ℕ) (bytes : List ℕ) (ts : List Token) (cs : List Span) (f : Fault) → IsLexing file bytes ts cs → IsLaterFault file bytes f → ⊥
later_no_lexing file bytes ts cs f x y = no_fault file y.text ts cs f (subst (λ t. Lexes file t ts cs) (one_text x.text y.text bytes x.is_text y.is_text) x.lexes) y.is_fault

pub no_file_fault : (file : ℕ) (bytes : List ℕ) (ts : List Token) (cs : List Span) (f : Fault) → IsLexing file bytes ts cs → IsFault file bytes f → ⊥
no_file_fault file bytes ts cs f x y = ⊎_elim (λ e. text_no_fault file bytes x.text f x.is_text e) (λ l. later_no_lexing file bytes ts cs f x l) y

pub one_file_fault : (file : ℕ) (bytes : List ℕ) (f g : Fault) → IsFault file bytes f → IsFault file bytes g → f ≡ g
one_file_fault file bytes f g x y =
    ⊎_elim
    (λ a. ⊎_elim (λ b. one_encoding_fault file bytes f g a b) (λ b. absurd (text_no_fault file bytes b.text f b.is_text a)) y)
    (λ a. ⊎_elim (λ b. absurd (text_no_fault file bytes a.text g a.is_text b)) (λ b. one_fault file b.text f g (subst (λ t. IsTokenFault file t f) (one_text a.text b.text bytes a.is_text b.is_text) a.is_fault) b.is_fault) y) x

-- The fault that an error names is that of the file.
pub blamed_encoding : (file : ℕ) (bytes : List ℕ) (e : LexError) → Unless (lex_refusal e) (IsEncodingFault file bytes) → Unless (lex_refusal e) (IsFault file bytes)
blamed_encoding file bytes e = unless_map (lex_refusal e) (IsEncodingFault file bytes) (IsFault file bytes) (λ f b. inl b)

pub blamed_later : (file : ℕ) (bytes text : List ℕ) (e : LexError) → IsText text bytes → Unless (lex_refusal e) (IsTokenFault file text) → Unless (lex_refusal e) (IsFault file bytes)
blamed_later file bytes text e t = unless_map (lex_refusal e) (IsTokenFault file text) (IsFault file bytes) (λ f b. inr (record { text = text; is_text = t; is_fault = b }))

-- A result that is exact is the only one.
abbrev pub Exact : ℕ → List ℕ → Result TokenList LexError → Type 0
Exact file bytes r = Meets lex_refusal r (λ t. (t.file ≡ file) × (t.text ≡ bytes) × IsLexing file bytes t.tokens t.comments) (IsFault file bytes)

same_list : (a b : TokenList) → a.file ≡ b.file → a.text ≡ b.text → a.tokens ≡ b.tokens → a.comments ≡ b.comments → a ≡ b
same_list a b e f g h =
    ap (λ x. let made : TokenList = record { file = x; text = a.text; tokens = a.tokens; comments = a.comments } in made) e
    ∙ ap (λ x. let made : TokenList = record { file = b.file; text = x; tokens = a.tokens; comments = a.comments } in made) f
    ∙ ap (λ x. let made : TokenList = record { file = b.file; text = b.text; tokens = x; comments = a.comments } in made) g
    ∙ ap (λ x. let made : TokenList = record { file = b.file; text = b.text; tokens = b.tokens; comments = x } in made) h

pub lexing_of : (file : ℕ) (bytes : List ℕ) (r : Result TokenList LexError) → Exact file bytes r → (ts : List Token) (cs : List Span) → IsLexing file bytes ts cs → Meets lex_refusal r (λ t. t ≡ record { file = file; text = bytes; tokens = ts; comments = cs }) (λ _. ⊥)
lexing_of file bytes (Ok t) x ts cs l = let same = one_file_lexing file bytes t.tokens ts t.comments cs x.2 l in same_list t (record { file = file; text = bytes; tokens = ts; comments = cs }) x.0 x.1 same.0 same.1
lexing_of file bytes (Err e) x ts cs l = unless_map (lex_refusal e) (IsFault file bytes) (λ _. ⊥) (λ f is. no_file_fault file bytes ts cs f l is) x

pub fault_of : (file : ℕ) (bytes : List ℕ) (r : Result TokenList LexError) → Exact file bytes r → (f : Fault) → IsFault file bytes f → Meets lex_refusal r (λ _. ⊥) (λ g. g ≡ f)
fault_of file bytes (Ok t) x f i = no_file_fault file bytes t.tokens t.comments f x.2 i
fault_of file bytes (Err e) x f i = unless_map (lex_refusal e) (IsFault file bytes) (λ g. g ≡ f) (λ g is. one_file_fault file bytes g f is i) x
