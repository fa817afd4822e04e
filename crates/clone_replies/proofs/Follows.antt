-- The numbers of a package follow from its bytes.
use Rattle.std.proofs.Common.{◌≡◌, ◌∙◌, ℕ, List, [], ◌∷◌, length, map, count_by, ap, sym, refl}
use Rattle.std.specs.Prelude.{nat_eq}
use Rattle.std.specs.Set.{distinct_count}
use Rattle.go_base.specs.declared.bytes.FileText.{FileText}
use Rattle.go_base.specs.Package.{total_bytes}
use Rattle.go_tree.specs.File.{FileTree}
use Rattle.go_types.specs.Tables.{type_of}
use Rattle.go_types.specs.Trees.{TypeTree}
use Rattle.go_types_relations.specs.Renaming.{renamed}
use Rattle.go_typed.specs.Contents.{Content, FuncContent, content, func_content, func_renamed, IsRenamed}
use Rattle.go_typed.specs.Funcs.{FuncView, tree_of}
use Rattle.go_typed.specs.Packages.{PackageView}
use Rattle.go_package_defs.specs.Checked.{IsChecked, IsCheckedPackage, origins, texts_of}
use Rattle.go_package_defs.specs.Single.{HasOneAnswer}
use Rattle.go_package_defs.specs.Sources.{source_of}
use Rattle.clone_window.specs.declared.bounds.Bounds.{Bounds}
use Rattle.clone_window.specs.Bodies.{body_of, bodies_of}
use Rattle.clone_replies.specs.Classes.{body_in, classes_in}
use Rattle.clone_replies.proofs.Fields.{UnderlyingRenamed}
use Rattle.clone_replies.proofs.Mapped.{body-mapped}
use Rattle.clone_replies.specs.declared.numbers.Numbers.{Numbers}
use Rattle.clone_replies.specs.Names.{hashes_of, windows_of}
use Rattle.clone_replies.specs.Numbers.{has_body, hashes_in, numbers_in}
use Rattle.clone_replies.proofs.Functions.{with_body, content-counted, renamed-counted}
use Rattle.clone_replies.proofs.Mapping.{Names, hashes_by, hashes-mapped}
use Rattle.clone_replies.proofs.Names.{content_names, package_names, package-agrees, files-names, with_files}
use Rattle.clone_replies.proofs.Read.{OfFiles, same-sources, checked_origins}
use Rattle.clone_replies.proofs.Renamings.{renamed-agrees}

-- what is known of types, packages and files
pub record OfPackages : Type 0 where
  pub underlying : UnderlyingRenamed
  pub one : (texts : List FileText) → HasOneAnswer texts
  pub files : OfFiles

-- ---- the hashes of a package that the program holds are those of its content

content-bodies : (g : ℕ → TypeTree) (fs : List FuncView) → map body_in (map (func_content g) fs) ≡ map (body-mapped g) (bodies_of fs)
content-bodies g [] = refl
content-bodies g (f ∷ fs) = ap (λ bs. body-mapped g (body_of f) ∷ bs) (content-bodies g fs)

of-content : (bounds : Bounds) (p : PackageView) → hashes_of bounds (content p) ≡ hashes_in bounds p
of-content bounds p =
    ap (hashes_by (content_names (content p)) bounds) (content-bodies (type_of p.types.shapes) p.functions)
    ∙ hashes-mapped (type_of p.types.shapes) (package_names p) (content_names (content p)) (package-agrees p) bounds (bodies_of p.functions)

-- ---- other numbers of declared types

renamed-bodies : (name : ℕ → ℕ) (fs : List FuncContent) → map body_in (map (func_renamed name) fs) ≡ map (body-mapped (renamed name)) (map body_in fs)
renamed-bodies name [] = refl
renamed-bodies name (f ∷ fs) = ap (λ bs. body-mapped (renamed name) (body_in f) ∷ bs) (renamed-bodies name fs)

of-renamed : UnderlyingRenamed → (bounds : Bounds) (name : ℕ → ℕ) (c d : Content) → IsRenamed name c d → length c.origins ≡ length d.origins → hashes_of bounds d ≡ hashes_of bounds c
of-renamed law bounds name c d h as_many =
    ap (λ fs. hashes_by (content_names d) bounds (map body_in fs)) h.functions
    ∙ ap (hashes_by (content_names d) bounds) (renamed-bodies name c.functions)
    ∙ hashes-mapped (renamed name) (content_names c) (content_names d) (renamed-agrees law name c d h as_many) bounds (map body_in c.functions)

-- ---- other files with the same tokens

of-files : (bounds : Bounds) (c : Content) (gs : List FileTree) → map source_of c.files ≡ map source_of gs → hashes_of bounds c ≡ hashes_of bounds (with_files c gs)
of-files bounds c gs same = ap (λ (names : Names TypeTree). hashes_by names bounds (map body_in c.functions)) (files-names c gs same)

-- ---- from bytes on

one-hashes : OfPackages → (bounds : Bounds) (texts : List FileText) (c d : Content) → IsChecked texts c → IsChecked texts d → hashes_of bounds c ≡ hashes_of bounds d
one-hashes law bounds texts c d h k =
    of-files bounds c d.files (same-sources law.files texts c d h k) ∙ ap (hashes_of bounds) ((law.one texts).content c d h k)

abbrev numbers_by : Bounds → List FileText → Content → List ℕ → Numbers
numbers_by bounds texts c hs = record { files = length texts; bytes = total_bytes texts; functions = with_body c.functions; windows = length (windows_of bounds c); hashes = distinct_count nat_eq hs; classes = length (classes_in bounds c) }

pub one-numbers : OfPackages → (bounds : Bounds) (texts : List FileText) (c d : Content) → IsChecked texts c → IsChecked texts d → numbers_in bounds texts c ≡ numbers_in bounds texts d
one-numbers law bounds texts c d h k =
    ap (numbers_by bounds texts c) (of-files bounds c d.files (same-sources law.files texts c d h k)) ∙ ap (numbers_in bounds texts) ((law.one texts).content c d h k)

pub hashes-follow : OfPackages → (bounds : Bounds) (p : PackageView) (c : Content) → IsCheckedPackage p → length p.origins ≡ length (origins p.uses) → IsChecked (texts_of p) c → hashes_in bounds p ≡ hashes_of bounds c
hashes-follow law bounds p c h placed k =
    let name = h.same.0 in
    let same = h.same.1 in
    let as_many : length h.given.origins ≡ length p.origins =
    ap length (checked_origins (texts_of p) h.given h.checked) ∙ ap (λ u. length (origins u)) (sym same.uses) ∙ sym placed in
    sym (of-content bounds p) ∙ of-renamed law.underlying bounds name h.given (content p) same as_many ∙ one-hashes law bounds (texts_of p) h.given c h.checked k

pub functions-follow : OfPackages → (p : PackageView) (c : Content) → IsCheckedPackage p → IsChecked (texts_of p) c → count_by (λ f. has_body (tree_of f)) p.functions ≡ with_body c.functions
functions-follow law p c h k =
    let same = h.same.1 in
    sym (content-counted (type_of p.types.shapes) p.functions) ∙ ap with_body same.functions ∙ renamed-counted h.same.0 h.given.functions
    ∙ ap (λ (x : Content). with_body x.functions) ((law.one (texts_of p)).content h.given c h.checked k)
