-- A fault of tokens is none of the encoding.
use Rattle.std.proofs.Common.{◌≡◌, ◌∙◌, inl, inr, Bool, true, false, List, ℕ, Some, None, ap, sym, refl, arith}
use Rattle.std.specs.Prelude.{if◌then◌else◌}
use Rattle.go_base.specs.declared.fault.Fault.{Fault}
use Rattle.go_base.specs.declared.fault.FaultCode.{FaultCode}
use Rattle.go_base.specs.declared.fault.FaultCode.TheVariants as code
use Rattle.go_tokens.specs.Encoding.{IsEncodingFault}
use Rattle.go_tokens.specs.Files.{IsFault, IsLaterFault}
use Rattle.go_tokens.specs.Pieces as pieces
use Rattle.go_tokens.specs.Pieces.{defect_by, is_ended}
use Rattle.go_tokens.specs.declared.piece.PieceKind.{PieceKind}
use Rattle.go_tokens.specs.declared.piece.PieceKind.TheVariants as sort
use Rattle.go_package.specs.Reading.{is_encoding}

same_some : {A : Type 0} (x y : A) → Some x ≡ Some y → x ≡ y
same_some x y e = grind (arith, e)

by_code : (d c : FaultCode) → is_encoding d ≡ false → Some d ≡ Some c → is_encoding c ≡ false
by_code d c h e = ap is_encoding (sym (same_some d c e)) ∙ h

unless_not : (b : Bool) (c : FaultCode) → (if b then None else Some code.Lexical) ≡ Some c → is_encoding c ≡ false
unless_not true c e = cc
unless_not false c e = by_code code.Lexical c refl e

outside_not : (b : Bool) (c : FaultCode) → (if b then Some code.Outside else None) ≡ Some c → is_encoding c ≡ false
outside_not true c e = by_code code.Outside c refl e
outside_not false c e = cc

number_not : (b d : Bool) (c : FaultCode) → (if b then None else (if d then Some code.Outside else Some code.Lexical)) ≡ Some c → is_encoding c ≡ false
number_not true d c e = cc
number_not false true c e = by_code code.Outside c refl e
number_not false false c e = by_code code.Lexical c refl e

defect_not : (k : PieceKind) (ended : Bool) (p : List ℕ) (c : FaultCode) → defect_by k ended p ≡ Some c → is_encoding c ≡ false
defect_not sort.White ended p c e = cc
defect_not sort.LineComment ended p c e = cc
defect_not sort.BlockComment ended p c e = unless_not ended c e
defect_not sort.Word ended p c e = outside_not _ c e
defect_not sort.Number ended p c e = number_not _ _ c e
defect_not sort.HexNumber ended p c e = number_not _ _ c e
defect_not sort.Rune ended p c e = unless_not _ c e
defect_not sort.Text ended p c e = unless_not _ c e
defect_not sort.RawText ended p c e = unless_not ended c e
defect_not sort.Operator ended p c e = outside_not _ c e
defect_not sort.Stray ended p c e = by_code code.Lexical c refl e

later_code : (n : ℕ) (bytes : List ℕ) (f : Fault) → IsLaterFault n bytes f → is_encoding f.code ≡ false
later_code n bytes f h = defect_not (pieces.kind h.is_fault.bad) (is_ended (pieces.kind h.is_fault.bad) h.is_fault.bad) h.is_fault.bad f.code h.is_fault.wrong

encoding_code : (n : ℕ) (bytes : List ℕ) (f : Fault) → IsEncodingFault n bytes f → is_encoding f.code ≡ true
encoding_code n bytes f h = ap (λ (g : Fault). is_encoding g.code) h.place

pub encoding_of : (n : ℕ) (bytes : List ℕ) (f : Fault) → IsFault n bytes f → is_encoding f.code ≡ true → IsEncodingFault n bytes f
encoding_of n bytes f (inl e) h = e
encoding_of n bytes f (inr l) h = let differs : false ≡ true = sym (later_code n bytes f l) ∙ h in absurd cc

pub later_of : (n : ℕ) (bytes : List ℕ) (f : Fault) → IsFault n bytes f → is_encoding f.code ≡ false → IsLaterFault n bytes f
later_of n bytes f (inl e) h = let differs : true ≡ false = sym (encoding_code n bytes f e) ∙ h in absurd cc
later_of n bytes f (inr l) h = l

pub no_encoding : ((file : ℕ) (bytes : List ℕ) (f g : Fault) → IsFault file bytes f → IsFault file bytes g → f ≡ g) → (n : ℕ) (bytes : List ℕ) (f : Fault) → IsFault n bytes f → is_encoding f.code ≡ false → (g : Fault) → IsEncodingFault n bytes g → ⊥
no_encoding law n bytes f h code_is g e =
    let differs : true ≡ false = sym (encoding_code n bytes g e) ∙ ap (λ (x : Fault). is_encoding x.code) (law n bytes g f (inl e) h) ∙ code_is in
    absurd cc
