-- Objects with numbers of 32 bits.
use Rattle.std.specs.Prelude.{◌≡◌, ◌<◌, ◌+◌, ◌*◌, ◌/◌, ◌%◌, ℕ, nat_lt, ◌^◌, Bool, true, ◌&&◌, Option, Some, None, refl}
use Rattle.std.proofs.Common.{ap, ◌∙◌}
use Rattle.std.proofs.lemmas.Nat.{div-mul-add, mod-mul-add}
use Rattle.go_tree.specs.declared.object.Object.{Object}
use Rattle.go_tree.specs.declared.object.Object.TheVariants as object
use Rattle.go_tree.specs.declared.meant.Packed.{Packed}
use Rattle.go_tree.specs.declared.meant.Packed.TheVariants as narrow

-- the lower part of a local's number
abbrev pub low_part : Packed → ℕ
low_part (narrow.Local h l f) = l
low_part p = 0

abbrev pub IsPacked : Packed → Type 0
IsPacked p = low_part p < 65536

-- the object that is meant
abbrev pub unpacked : Packed → Option Object
unpacked narrow.Nothing = None
unpacked narrow.Import = Some object.Import
unpacked (narrow.Predeclared n) = Some (object.Predeclared n)
unpacked (narrow.Package n) = Some (object.Package n)
unpacked (narrow.Local h l f) = Some (object.Local f (h * 65536 + l))

abbrev pub narrowed : Option Object → Packed
narrowed None = narrow.Nothing
narrowed (Some object.Import) = narrow.Import
narrowed (Some (object.Predeclared n)) = narrow.Predeclared n
narrowed (Some (object.Package n)) = narrow.Package n
narrowed (Some (object.Local f n)) = narrow.Local (n / 65536) (n % 65536) f

abbrev pub narrowed_again : (p : Packed) → IsPacked p → narrowed (unpacked p) ≡ p
narrowed_again narrow.Nothing q = refl
narrowed_again narrow.Import q = refl
narrowed_again (narrow.Predeclared n) q = refl
narrowed_again (narrow.Package n) q = refl
narrowed_again (narrow.Local h l f) q = ap (λ a. narrow.Local a ((h * 65536 + l) % 65536) f) (div-mul-add h 65536 l q) ∙ ap (λ b. narrow.Local h b f) (mod-mul-add h 65536 l q)

-- a number of 32 bits
abbrev pub is_short : ℕ → Bool
is_short n = nat_lt n (2 ^ 32)

-- the object's numbers have 32 bits, that of a local 24
abbrev pub has_short_numbers : Option Object → Bool
has_short_numbers (Some (object.Package n)) = is_short n
has_short_numbers (Some (object.Local f n)) = is_short f && nat_lt n (2 ^ 24)
has_short_numbers o = true
