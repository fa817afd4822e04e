-- The names of a package that the program holds are those of its content, and they read the tokens of files alone.
use mathlib.Core.Path.{fun_ext}
use Rattle.std.proofs.Common.{◌≡◌, ◌∙◌, ℕ, List, [], ◌∷◌, map, Option, Some, None, refl, sym, ap, slice_get}
use Rattle.std.proofs.lemmas.Option.{slice_get-map}
use Rattle.std.specs.Prelude.{if◌then◌else◌, nat_eq, codes, unwrap_or}
use Rattle.std.specs.Option.{option_map}
use Rattle.go_tree.specs.declared.object.Declared.{Declared}
use Rattle.go_tree.specs.File.{FileTree}
use Rattle.go_tree.specs.Predeclared.{known_names}
use Rattle.go_tree.specs.Spans.{token_text}
use Rattle.go_tree.specs.Uses.{declared_as}
use Rattle.go_types.specs.Tables.{type_of}
use Rattle.go_types.specs.Trees.{TypeTree}
use Rattle.go_typed.specs.declared.form.Referent.{Referent}
use Rattle.go_typed.specs.declared.origin.Origin.{Origin}
use Rattle.go_typed.specs.Contents.{Content, content}
use Rattle.go_typed.specs.Packages.{PackageView}
use Rattle.go_print.specs.Names as print
use Rattle.go_print.specs.Names.{object_at, text_in}
use Rattle.go_print.specs.Printed.{printed}
use Rattle.go_print.specs.Texts.{type_text}
use Rattle.go_package_defs.specs.Sources.{Source, source_of}
use Rattle.clone_window.specs.declared.outline.Outline.{Outline}
use Rattle.clone_window.specs.Kinds.{referent_outline}
use Rattle.clone_window.specs.Sameness.{same_outline}
use Rattle.clone_window.specs.Fields.{field_by, field_text}
use Rattle.alpha_hash_defs.specs.Packages as packages
use Rattle.alpha_hash_defs.specs.Packages.{predeclared_text}
use Rattle.clone_replies.specs.Names.{name_of, name_at, declared_name, declared_text, object_text}
use Rattle.clone_replies.proofs.Mapping.{Names, Agree}

-- what names a content, and a package that the program holds
abbrev pub content_names : Content → Names TypeTree
content_names c = record { type_text = type_text (declared_name c); object_text = object_text c; field_text = field_by c.rights }

abbrev pub package_names : PackageView → Names ℕ
package_names p = record { type_text = printed p; object_text = packages.object_text p; field_text = field_text p.types }

-- ---- packages that the program holds

same-name : (p : PackageView) (d : Option Declared) → name_of p.files d ≡ print.name_of p d
same-name p None = refl
same-name p (Some d) = refl

same-at : (p : PackageView) (o : Option Origin) → name_at (content p) o ≡ print.name_at p o
same-at p None = refl
same-at p (Some o) = same-name p (declared_as p.uses (object_at o))

same-declared : (p : PackageView) (n : ℕ) → declared_name (content p) n ≡ print.declared_name p n
same-declared p n = same-at p (slice_get p.origins n)

same-text : (p : PackageView) (o : Outline) (rs : List Referent) (ds : List Declared) → declared_text p.files o rs ds ≡ packages.declared_text p o rs ds
same-text p o [] ds = refl
same-text p o (r ∷ rs) [] = refl
same-text p o (r ∷ rs) (d ∷ ds) = ap (λ t. if same_outline (referent_outline r) o then print.name_of p (Some d) else t) (same-text p o rs ds)

abbrev pub by-number : Outline → List ℕ → List ℕ
by-number o t = if nat_eq o.operator 5 then predeclared_text o.count known_names else (if nat_eq o.operator 6 then codes "fmt.Println" else t)

same-object : (p : PackageView) (o : Outline) → object_text (content p) o ≡ packages.object_text p o
same-object p o = ap (by-number o) (same-text p o p.env.referents p.uses.package_level)

pub package-agrees : (p : PackageView) → Agree (type_of p.types.shapes) (package_names p) (content_names (content p))
package-agrees p = record {
  types = λ t. ap (λ (f : ℕ → List ℕ). type_text f (type_of p.types.shapes t)) (fun_ext (same-declared p));
  objects = same-object p;
  fields = λ t k. refl;
}

-- ---- other files with the same tokens

abbrev text_by : Option Source → ℕ → List ℕ
text_by None n = []
text_by (Some s) n = unwrap_or (token_text s.tokens n) []

text-by : (o : Option FileTree) (n : ℕ) → text_in o n ≡ text_by (option_map source_of o) n
text-by None n = refl
text-by (Some f) n = refl

module _ (fs gs : List FileTree) (same : map source_of fs ≡ map source_of gs) where
  file-text : (file n : ℕ) → text_in (slice_get fs file) n ≡ text_in (slice_get gs file) n
  file-text file n =
      text-by (slice_get fs file) n
      ∙ ap (λ o. text_by o n) (sym (slice_get-map source_of fs file) ∙ ap (λ ss. slice_get ss file) same ∙ slice_get-map source_of gs file)
      ∙ sym (text-by (slice_get gs file) n)

  file-name : (d : Option Declared) → name_of fs d ≡ name_of gs d
  file-name None = refl
  file-name (Some d) = file-text d.file d.name

  file-object : (o : Outline) (rs : List Referent) (ds : List Declared) → declared_text fs o rs ds ≡ declared_text gs o rs ds
  file-object o [] ds = refl
  file-object o (r ∷ rs) [] = refl
  file-object o (r ∷ rs) (d ∷ ds) =
      ap (λ t. if same_outline (referent_outline r) o then t else declared_text fs o rs ds) (file-name (Some d))
      ∙ ap (λ t. if same_outline (referent_outline r) o then name_of gs (Some d) else t) (file-object o rs ds)

abbrev pub with_files : Content → List FileTree → Content
with_files c fs = record c { files = fs }

module _ (c : Content) (gs : List FileTree) (same : map source_of c.files ≡ map source_of gs) where
  files-at : (o : Option Origin) → name_at c o ≡ name_at (with_files c gs) o
  files-at None = refl
  files-at (Some o) = file-name c.files gs same (declared_as c.uses (object_at o))

  names_with : (ℕ → List ℕ) → (Outline → List ℕ) → Names TypeTree
  names_with f g = record { type_text = type_text f; object_text = g; field_text = field_by c.rights }

  pub files-names : content_names c ≡ content_names (with_files c gs)
  unfolding names_with
  files-names =
      ap (λ (f : ℕ → List ℕ). names_with f (object_text c)) (fun_ext (λ n. files-at (slice_get c.origins n)))
      ∙ ap (names_with (declared_name (with_files c gs))) (fun_ext (λ o. ap (by-number o) (file-object c.files gs same o c.referents c.uses.package_level)))
