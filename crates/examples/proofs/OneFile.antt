-- Edits at both ends of the one file of a package.
use Rattle.std.proofs.Common.{◌≡◌, ℕ, Bool, true, false, List, [], ◌∷◌, Some, None, length, if◌then◌else◌, ◌≤◌, sym, ap, subst, ◌∙◌, arith, length-append, length-drop}
use Rattle.std.specs.Option.{option_map}
use Rattle.std.specs.Str.{bytes_eq}
use Rattle.std.proofs.lemmas.List.{length-take}
use Rattle.go_base.specs.declared.bytes.FileText.{FileText}
use Rattle.edit_apply.specs.declared.edits.Edit.{Edit}
use Rattle.go_base.specs.Package.{most_bytes, total_bytes}
use Rattle.edit_apply.specs.Edited.{bytes_under, file_of, spliced}
use Rattle.edit_apply.specs.Applied.{AreApplicable, edited_by}
use Rattle.edit_apply.proofs.Public.{by_number}

abbrev pub behind : List ℕ → Edit
behind x = record { file = 0; start = 125; end = 125; text = x }

abbrev pub before : List ℕ → Edit
before y = record { file = 0; start = 0; end = 8; text = y }

found : (b : Bool) (bytes : List ℕ) (n : ℕ) → Some n ≡ option_map length (if b then Some bytes else None) → n ≡ length bytes
found true bytes n e = cc
found false bytes n e = cc

pub both-applicable : (files : List FileText) (name x y : List ℕ) (n : ℕ) → length files ≡ 1 → Some n ≡ option_map length (bytes_under files name) → n ≡ 125 → length x ≡ 1 → length y ≡ 1 → AreApplicable files (behind x ∷ before y ∷ [])
both-applicable [] name x y n one e is lx ly = absurd (omega arith)
both-applicable (f ∷ (g ∷ fs)) name x y n one e is lx ly = absurd (omega arith)
both-applicable (f ∷ []) name x y n one e is lx ly =
    let long : length f.bytes ≡ 125 = let k : n ≡ length f.bytes = found (bytes_eq f.name name) f.bytes n e in omega arith in
    record {
      ranges = (record { file = omega arith; range = omega arith; within = λ d. omega (arith, long) }, (record { file = omega arith; range = omega arith; within = λ d. omega (arith, long) }, tt));
      descends = (((λ same. omega arith), tt), (tt, tt));
      small =
          let g : FileText = file_of f.name (spliced f.bytes 125 125 x) in
          let first : edited_by (f ∷ []) (behind x) ≡ g ∷ [] = by_number (f ∷ []) (behind x) (tt, tt) (omega arith) in
          let second : edited_by (g ∷ []) (before y) ≡ file_of f.name (spliced g.bytes 0 8 y) ∷ [] = by_number (g ∷ []) (before y) (tt, tt) (omega arith) in
          let short : total_bytes (file_of f.name (spliced g.bytes 0 8 y) ∷ []) ≤ most_bytes = simp (length-append, length-take, length-drop) (omega (arith, long, lx, ly)) in
          subst (λ fs. total_bytes fs ≤ most_bytes) (sym (ap (λ fs. edited_by fs (before y)) first ∙ second)) short;
    }
