-- The classes and the listing of a package follow from its bytes.
use Rattle.std.proofs.Common.{◌≡◌, ◌∙◌, List, map, ap, sym}
use Rattle.std.specs.Prelude.{nat_eq}
use Rattle.go_base.specs.declared.bytes.FileText.{FileText}
use Rattle.go_types.specs.Tables.{IsTable}
use Rattle.go_types_relations.specs.Identity.{is_identical}
use Rattle.go_typed.specs.Contents.{Content, content, IsPackageOf}
use Rattle.go_typed.specs.Packages.{PackageView, IsPackage}
use Rattle.go_package_defs.specs.Checked.{IsChecked, IsCheckedPackage, texts_of}
use Rattle.go_package_defs.specs.Single.{HasOneAnswer}
use Rattle.clone_window.specs.declared.bounds.Bounds.{Bounds}
use Rattle.clone_classes.specs.Listing.{listing_in}
use Rattle.clone_window.specs.Fields.{field_by}
use Rattle.clone_replies.specs.Classes.{body_in, classes_in, listed_package}
use Rattle.clone_replies.specs.Listing.{listing_by, listing_reply}
use Rattle.clone_replies.proofs.Public.{OfFiles, same-sources}
use Rattle.clone_session.proofs.Spans.{same-listing}

-- what is known of packages and their files
pub record OfPackages : Type 0 where
  pub classes : (bounds : Bounds) (p : PackageView) (c : Content) → IsPackage p → IsTable p.types → IsPackageOf c (content p) → listing_in bounds p ≡ classes_in bounds c
  pub listing : (bounds : Bounds) (p : PackageView) (c : Content) → IsPackage p → IsTable p.types → IsPackageOf c (content p) → listing_by nat_eq bounds (listed_package p) ≡ listing_reply bounds c
  pub one : (texts : List FileText) → HasOneAnswer texts
  pub files : OfFiles

pub classes-follow : OfPackages → (bounds : Bounds) (p : PackageView) (c : Content) → IsCheckedPackage p → IsTable p.types → IsChecked (texts_of p) c → listing_in bounds p ≡ classes_in bounds c
classes-follow law bounds p c h table k =
    law.classes bounds p h.given h.numbers table h.same
    ∙ ap (classes_in bounds) (sym ((law.one (texts_of p)).content c h.given k h.checked))

pub one-listing : OfPackages → (bounds : Bounds) (texts : List FileText) (c d : Content) → IsChecked texts c → IsChecked texts d → listing_reply bounds c ≡ listing_reply bounds d
one-listing law bounds texts c d h k =
    same-listing c.names (field_by c.rights) (map body_in c.functions) c.files d.files (same-sources law.files texts c d h k) is_identical bounds
    ∙ ap (listing_reply bounds) ((law.one texts).content c d h k)

pub listing-follows : OfPackages → (bounds : Bounds) (p : PackageView) (c : Content) → IsCheckedPackage p → IsTable p.types → IsChecked (texts_of p) c → listing_by nat_eq bounds (listed_package p) ≡ listing_reply bounds c
listing-follows law bounds p c h table k = law.listing bounds p h.given h.numbers table h.same ∙ one-listing law bounds (texts_of p) h.given c h.checked k
