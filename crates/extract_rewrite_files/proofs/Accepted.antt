-- The files behind an extraction that is accepted are new.
use Rattle.std.proofs.Common.{◌≡◌, ◌∙◌, ℕ, List, Some, sym, ap, subst}
use Rattle.std.specs.Prelude.{slice_get}
use Rattle.go_types.specs.Trees.{TypeTree}
use Rattle.go_typed.specs.declared.window.Window.{Window}
use Rattle.go_typed.specs.Contents.{Content, content}
use Rattle.edit_apply.specs.declared.edits.Edit.{Edit}
use Rattle.param_choose.specs.Members.{Member, template_of}
use Rattle.extract_rewrite.specs.Answers.{texts_after}
use Rattle.extract_rewrite.specs.Counts.{counts}
use Rattle.extract_rewrite.specs.Edits.{edits}
use Rattle.extract_rewrite.specs.Extraction.{Extraction, extraction_by, extraction_of}
use Rattle.extract_rewrite.specs.Limits.{IsWithinLimits}
use Rattle.extract_rewrite_files.specs.Accepted.{AcceptedFilesAreNew}
use Rattle.extract_rewrite_files.specs.Levels.{NewFilesHaveTrees}
use Rattle.extract_rewrite_files.specs.NewFiles.{FilesBecomeNew}
use Rattle.extract_rewrite_files.proofs.Splits.{same_some}

pub made : (c : Content) (name : List ℕ) (ws : List Window) (t : Member TypeTree) (e : Extraction) → template_of c ws ≡ Some t → extraction_of c name ws ≡ Some e → edits c name ws ≡ e.edits
made c name ws t e there is =
    let whole : Extraction = record { edits = edits c name ws; counts = counts c ws } in
    ap (λ (x : Extraction). x.edits) (same_some whole e (sym (ap (extraction_by c name ws) there) ∙ is))

pub accepted_files_are_new : FilesBecomeNew → NewFilesHaveTrees → AcceptedFilesAreNew
accepted_files_are_new law trees p name ws t e checked within there sites calls x n f at behind =
    let b = law p name ws t (record { checked = checked; within = within; template = there; allowed = x.allowed; sites = sites }) calls n f at behind in
    let same = made (content p) name ws t e there x.made in
    record {
      becomes = b;
      there = subst (λ (es : List Edit). slice_get (texts_after (content p) es) n ≡ Some b.text) same b.there;
      tree = trees p name ws t n f b (subst (λ (es : List Edit). IsWithinLimits (texts_after (content p) es)) (sym same) x.within);
    }
