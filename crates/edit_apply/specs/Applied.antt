-- Many edits of a package, one after the other.
use Rattle.std.specs.Prelude.{◌≡◌, ◌<◌, ◌≤◌, Option, Some, None, List, [], ◌∷◌, length, slice_get}
use Rattle.std.specs.List.{AllByRecursion, HoldsAt}
use Rattle.go_base.specs.declared.bytes.FileText.{FileText}
use Rattle.go_base.specs.Package.{total_bytes, most_bytes}
use Rattle.edit_apply.specs.declared.edits.Edit.{Edit}
use Rattle.edit_apply.specs.Edited.{edited}

-- one edit, of the bytes of that file
abbrev pub edited_of : Option FileText → List FileText → Edit → List FileText
edited_of None files e = files
edited_of (Some f) files e = edited files f.name e.start e.end e.text

-- one edit, of the file with its number
abbrev pub edited_by : List FileText → Edit → List FileText
edited_by files e = edited_of (slice_get files e.file) files e

-- the edits in the given order
abbrev pub applied : List FileText → List Edit → List FileText
applied files [] = files
applied files (e ∷ es) = applied (edited_by files e) es

-- The file is held, and the range lies in it.
pub record IsInRange (files : List FileText) (e : Edit) : Type 0 where
  pub file : e.file < length files
  pub range : e.start ≤ e.end
  pub within : HoldsAt (λ f. e.end ≤ length f.bytes) files e.file

-- The edits of one file go from its end to its start, and don't overlap.
abbrev pub Descends : List Edit → Type 0
Descends [] = Unit {0}
Descends (e ∷ es) = AllByRecursion (λ later. later.file ≡ e.file → later.end ≤ e.start) es × Descends es

pub record AreApplicable (files : List FileText) (edits : List Edit) : Type 0 where
  pub ranges : AllByRecursion (IsInRange files) edits
  pub descends : Descends edits
  pub small : total_bytes (applied files edits) ≤ most_bytes
