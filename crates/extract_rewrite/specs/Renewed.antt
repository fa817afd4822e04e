-- The bytes of a file behind edits, from its start to its end.
use Rattle.std.specs.Prelude.{◌≡◌, ℕ, nat_eq, List, [], ◌∷◌, ◌++◌, drop, filter, Some, slice_get, slice_range}
use Rattle.std.specs.List.{AllByRecursion}
use Rattle.std.specs.Option.{option_map}
use Rattle.go_base.specs.declared.bytes.FileText.{FileText}
use Rattle.go_base.specs.Package.{Ascends}
use Rattle.edit_apply.specs.declared.edits.Edit.{Edit}
use Rattle.edit_apply.specs.Applied.{IsInRange, applied}
use Rattle.extract_rewrite.specs.Apart.{AllApart}
use Rattle.extract_rewrite.specs.Order.{by_place, from_the_end}

-- The bytes from a place on, with the texts of these edits in place of their ranges: they stand one behind the other.
abbrev pub renewed : List ℕ → ℕ → List Edit → List ℕ
renewed bytes at [] = drop at bytes
renewed bytes at (e ∷ es) = slice_range bytes at e.start ++ (e.text ++ renewed bytes e.end es)

-- those of a file
abbrev pub edits_in : ℕ → List Edit → List Edit
edits_in n es = filter (λ e. nat_eq e.file n) es

-- A file has its bytes but for the ranges of its edits, whose texts stand there.
abbrev pub OtherBytesStay : Type 0
OtherBytesStay = (files : List FileText) (es : List Edit) → Ascends files → AllByRecursion (IsInRange files) es → AllApart es
    → (n : ℕ) (f : FileText) → slice_get files n ≡ Some f
    → option_map (λ g. g.bytes) (slice_get (applied files (from_the_end es)) n) ≡ Some (renewed f.bytes 0 (edits_in n (by_place es)))
