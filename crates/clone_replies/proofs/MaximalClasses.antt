-- A package of the program has the maximal classes and the covered statements of the package over the types themselves.
use mathlib.Core.Path.{fun_ext}
use Rattle.std.proofs.Common.{◌≡◌, ◌∙◌, ℕ, Bool, true, List, map, length, ap, refl, sym}
use Rattle.std.specs.Prelude.{nat_eq}
use Rattle.std.specs.List.{list_all, range_with_len}
use Rattle.go_tree.specs.File.{FileTree}
use Rattle.go_types.specs.Tables.{IsTable, rights_of, type_of}
use Rattle.go_types.specs.Trees.{TypeTree}
use Rattle.go_types_relations.specs.Identity.{is_identical}
use Rattle.go_types_relations.specs.Renaming.{renamed}
use Rattle.go_typed.specs.declared.window.Window.{Window}
use Rattle.go_typed.specs.Contents.{Content, content, IsRenamed, IsPackageOf}
use Rattle.go_typed.specs.Packages.{PackageView, IsPackage, counts, is_below}
use Rattle.clone_window.specs.declared.bounds.Bounds.{Bounds}
use Rattle.clone_window.specs.Bodies.{Body, bodies_of}
use Rattle.clone_window.specs.Fields.{FieldNames, field_by}
use Rattle.clone_classes.specs.Listing.{listing}
use Rattle.clone_report.specs.Covered.{coverage, coverages}
use Rattle.clone_report.specs.Maximal.{maximal}
use Rattle.clone_replies.specs.Classes.{Listed, ShownClass, body_in, listed_content, listed_package}
use Rattle.clone_replies.specs.Maximal.{class_at, maximal_among, maximal_by, maximal_reply, maximal_text, members_at}
use Rattle.clone_replies.proofs.Covering.{coverage-mapped}
use Rattle.clone_replies.proofs.Fields.{SameFields, fields-renamed}
use Rattle.clone_replies.proofs.Mapped.{body-mapped}
use Rattle.clone_replies.proofs.Packages.{Keeps, OfTypes, keeps-numbers, keeps-renamed, known-pass, listed-numbers, listed-renamed}
use Rattle.clone_replies.proofs.Places.{listed-mapped, shown-mapped}
use Rattle.clone_replies.proofs.Tested.{passes, any-bodies, listing-mapped}

-- ---- over other words for types

module _ {T U : Type 0} (g : T → U) (m : FieldNames U) where
  abbrev with-number : ℕ → ShownClass → ℕ × ShownClass
  with-number n x = (n, x)

  class-mapped : (l : Listed T) (cs : List (List Window)) (n : ℕ) → class_at (listed-mapped g m l) cs n ≡ class_at l cs n
  class-mapped l cs n = ap (with-number n) (shown-mapped g m l (members_at cs n))

  coverages-mapped : (cs : List (List Window)) (files : List FileTree) (bs : List (Body T)) → coverages cs files (map (body-mapped g) bs) ≡ coverages cs files bs
  coverages-mapped cs files bs = ap (λ (f : ℕ → ℕ × ℕ). map f (range_with_len 0 (length files))) (fun_ext (coverage-mapped g cs files bs))

  report-mapped : (l : Listed T) (cs : List (List Window)) → maximal_among (listed-mapped g m l) cs ≡ maximal_among l cs
  report-mapped l cs =
      ap (λ (f : ℕ → ℕ × ShownClass). maximal_text l.names (map f (maximal cs)) (coverages cs l.files (map (body-mapped g) l.bodies))) (fun_ext (class-mapped l cs))
      ∙ ap (maximal_text l.names (map (class_at l cs) (maximal cs))) (coverages-mapped cs l.files l.bodies)

  report-by-mapped : (d : T → T → Bool) (e : U → U → Bool) (P : T → Bool) → Keeps g d e P →
      (bounds : Bounds) (l : Listed T) → SameFields g l.fields m → list_all (passes P) l.bodies ≡ true → maximal_by e bounds (listed-mapped g m l) ≡ maximal_by d bounds l
  report-by-mapped d e P keeps bounds l same h =
      ap (maximal_among (listed-mapped g m l)) (listing-mapped g d e P keeps l.fields m same bounds l.bodies h)
      ∙ report-mapped l (listing d l.fields bounds l.bodies)

-- ---- a package of the program

report-of-numbers : OfTypes → (bounds : Bounds) (p : PackageView) → IsPackage p → IsTable p.types → maximal_reply bounds (content p) ≡ maximal_by nat_eq bounds (listed_package p)
report-of-numbers law bounds p stands table =
    let n = length p.types.shapes in
    ap (maximal_by is_identical bounds) (listed-numbers p)
    ∙ report-by-mapped (type_of p.types.shapes) (field_by (rights_of p.types)) nat_eq is_identical (is_below n) (keeps-numbers law p table) bounds (listed_package p) (λ t k. refl)
    (known-pass (counts p) n p.functions stands.known_functions)

report-of-renamings : OfTypes → (bounds : Bounds) (name : ℕ → ℕ) (c d : Content) → IsRenamed name c d → maximal_reply bounds d ≡ maximal_reply bounds c
report-of-renamings law bounds name c d h =
    ap (maximal_by is_identical bounds) (listed-renamed name c d h)
    ∙ report-by-mapped (renamed name) (field_by d.rights) is_identical is_identical (λ t. true) (keeps-renamed law name h.one_to_one) bounds (listed_content c)
    (fields-renamed law.underlying name c.rights d.rights h.rights)
    (any-bodies (map body_in c.functions))

pub reports-of-types : OfTypes → (bounds : Bounds) (p : PackageView) (c : Content) → IsPackage p → IsTable p.types → IsPackageOf c (content p) →
    maximal_by nat_eq bounds (listed_package p) ≡ maximal_reply bounds c
reports-of-types law bounds p c stands table h = sym (report-of-numbers law bounds p stands table) ∙ report-of-renamings law bounds h.0 c (content p) h.1

-- ---- covered statements

abbrev counts-in : List (List Window) → ℕ → Listed TypeTree → ℕ × ℕ
counts-in cs file l = coverage cs l.files l.bodies file

pub covered-of-types : (classes : List (List Window)) (p : PackageView) (c : Content) (file : ℕ) → IsPackageOf c (content p) →
    coverage classes p.files (bodies_of p.functions) file ≡ coverage classes c.files (map body_in c.functions) file
covered-of-types classes p c file h =
    sym (coverage-mapped (type_of p.types.shapes) classes p.files (bodies_of p.functions) file)
    ∙ sym (ap (counts-in classes file) (listed-numbers p))
    ∙ ap (counts-in classes file) (listed-renamed h.0 c (content p) h.1)
    ∙ coverage-mapped (renamed h.0) classes c.files (map body_in c.functions) file
