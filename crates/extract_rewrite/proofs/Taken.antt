-- Windows taken out of a package with its texts.
use Rattle.std.proofs.Common.{◌≡◌, ◌∙◌, ℕ, List, [], ◌∷◌, Option, Some, None, slice_get, refl, sym, ap}
use Rattle.std.specs.Prelude.{unwrap_or}
use Rattle.std.specs.Option.{option_map}
use Rattle.std.proofs.lemmas.Option.{slice_get-map}
use Rattle.go_base.specs.declared.bytes.FileText.{FileText}
use Rattle.go_tree.specs.File.{FileTree}
use Rattle.go_types.specs.Tables.{type_of}
use Rattle.go_typed.specs.declared.window.Window.{Window}
use Rattle.go_typed.specs.Contents.{content}
use Rattle.go_typed.specs.Funcs.{FuncView, tree_of}
use Rattle.go_typed.specs.Packages.{PackageView}
use Rattle.param_choose.specs.Members.{member_over}
use Rattle.param_choose.proofs.Public.{member_mapped, template-seen}
use Rattle.escape_check.specs.Places.{sources_in}
use Rattle.escape_check.specs.Shown.{member_view}
use Rattle.extract_texts.specs.declared.template.Template.{Template}
use Rattle.extract_texts.specs.Shown.{IsTemplate}
use Rattle.extract_texts.specs.Texts.{file_text, text_of}
use Rattle.extract_texts.proofs.Public.{template-there}
use Rattle.extract_rewrite.specs.declared.extracted.Extracted.{Extracted}
use Rattle.extract_rewrite.specs.Counts.{counts}
use Rattle.extract_rewrite.specs.Edits.{edits}
use Rattle.extract_rewrite.specs.Extraction.{extraction_by, extraction_of}
use Rattle.extract_rewrite.specs.Shown.{AreItsTexts, bytes_of_file, counts_shown, extracted_shown}

text_is : (o : Option FileTree) → unwrap_or (option_map (λ f. f.tokens.text) o) [] ≡ text_of o
text_is None = refl
text_is (Some f) = refl

pub file_told : (p : PackageView) (files : List FileText) (t : Template) (bytes : List ℕ) → AreItsTexts p files → IsTemplate p t → bytes ≡ bytes_of_file (slice_get files t.member.file)
    → bytes ≡ file_text (sources_in p) (member_view t.member)
file_told p files t bytes same i e =
    let there : Option (List ℕ) → List ℕ = λ o. unwrap_or o [] in
    let n = t.member.file in
    e
    ∙ ap there (sym (slice_get-map (λ (f : FileText). f.bytes) files n))
    ∙ ap (λ l. there (slice_get l n)) same
    ∙ ap there (slice_get-map (λ (f : FileTree). f.tokens.text) p.files n)
    ∙ text_is (slice_get p.files n)
    ∙ ap (λ k. text_of (slice_get p.files k)) i.sound.file

pub nothing_there : (p : PackageView) (name : List ℕ) (v : Window) (ws : List Window) → slice_get p.functions v.func ≡ None → extraction_of (content p) name (v ∷ ws) ≡ None
nothing_there p name v ws e =
    ap (extraction_by (content p) name (v ∷ ws))
    (template-seen p (v ∷ ws) ∙ ap (λ o. option_map (member_mapped (type_of p.types.shapes)) (option_map (λ (f : FuncView). member_over p.uses v f.locals f.tokens (tree_of f)) o)) e)

pub something_there : (p : PackageView) (name : List ℕ) (ws : List Window) (t : Template) (x : Extracted) → t.windows.now ≡ ws → IsTemplate p t → x.edits ≡ edits (content p) name t.windows.now
    → counts_shown x ≡ counts (content p) t.windows.now → Some (extracted_shown x) ≡ extraction_of (content p) name ws
something_there p name ws t x same i e k =
    (λ j. Some (record { edits = e j; counts = k j }))
    ∙ sym (ap (extraction_by (content p) name t.windows.now) (template-there p t i))
    ∙ ap (extraction_of (content p) name) same
