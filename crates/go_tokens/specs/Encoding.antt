-- The bytes of a file and its characters (Go specification: Source code representation, Characters).
use Rattle.std.specs.Prelude.{◌≡◌, ℕ, ◌<◌, Bool, true, false, not, ◌&&◌, ◌==◌, if◌then◌else◌, List, [], ◌∷◌, ◌++◌, length, take}
use Rattle.std.specs.List.{list_all}
use Rattle.std.specs.Str.{encode_utf8_all, all_scalars}
use Rattle.std.specs.Char.{encode_utf8, IsScalar}
use Rattle.go_base.specs.declared.Fault.{Fault}
use Rattle.go_base.specs.declared.FaultCode.TheVariants.{Encoding}
use Rattle.go_tokens.specs.Spellings.{same_text}
use Rattle.go_tokens.specs.Lexing.{width, span}

-- neither NUL nor a byte order mark
abbrev pub is_plain : ℕ → Bool
is_plain c = not (c == 0) && not (c == 65279)

-- A file has no NUL, and a byte order mark is its first character or none.
abbrev pub are_allowed : List ℕ → Bool
are_allowed [] = true
are_allowed (c ∷ cs) = not (c == 0) && list_all is_plain cs

-- These characters are the text of a file with these bytes.
pub record IsText (text bytes : List ℕ) : Type 0 where
  pub scalars : all_scalars text ≡ true
  pub encoded : encode_utf8_all text ≡ bytes
  pub allowed : are_allowed text ≡ true

-- how many bytes a fault of the encoding covers: a byte order mark, or one byte
abbrev pub refused_width : List ℕ → ℕ
refused_width rest = if same_text (0xEF ∷ 0xBB ∷ 0xBF ∷ []) (take 3 rest) then 3 else 1

abbrev pub encoding_fault : ℕ → ℕ → ℕ → Fault
encoding_fault file at n = record { code = Encoding; span = span file at n }

-- Behind some allowed characters of the file no further one begins, though more bytes stand there.
pub record IsEncodingFault (file : ℕ) (bytes : List ℕ) (fault : Fault) : Type 0 where
  pub text : List ℕ
  pub rest : List ℕ
  pub whole : encode_utf8_all text ++ rest ≡ bytes
  pub scalars : all_scalars text ≡ true
  pub allowed : are_allowed text ≡ true
  pub more : 0 < length rest
  pub none : (c : ℕ) (others : List ℕ) → IsScalar c → rest ≡ encode_utf8 c ++ others → are_allowed (text ++ c ∷ []) ≡ false
  pub place : fault ≡ encoding_fault file (width text) (refused_width rest)
