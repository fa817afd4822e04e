-- What is answered of windows that are to be taken out.
use Rattle.std.proofs.Common.{◌≡◌, ◌∙◌, ◌≤◌, ◌<◌, inl, inr, refl, sym, ap, subst, ℕ, zero, suc, true, false, List, [], ◌∷◌, length, Option, Some, None, slice_get, arith}
use Rattle.std.specs.List.{AllByRecursion}
use Rattle.std.specs.Option.{option_map}
use Rattle.std.proofs.lemmas.List.{length-map}
use Rattle.go_base.specs.declared.bytes.FileText.{FileText}
use Rattle.go_base.specs.Package.{IsPackage, most_bytes, total_bytes}
use Rattle.go_typed.specs.declared.window.Window.{Window}
use Rattle.go_types.specs.Tables.{type_of}
use Rattle.go_types.specs.Trees.{TypeTree}
use Rattle.go_typed.specs.Contents.{FuncContent, content, func_content}
use Rattle.go_typed.specs.Packages.{PackageView}
use Rattle.go_package_defs.specs.Checked.{IsCheckedPackage, texts_of}
use Rattle.edit_apply.specs.declared.edits.Edit.{Edit}
use Rattle.edit_apply.specs.Applied.{AreApplicable, applied}
use Rattle.param_choose.specs.Members.{Member, member_over, template_of}
use Rattle.escape_check.specs.declared.report.Refusal.{Refusal as FoundRefusal}
use Rattle.escape_check.specs.Refusals.{refused}
use Rattle.escape_check.specs.Shown.{refusal_view}
use Rattle.extract_rewrite.specs.declared.extracted.Extracted.{Extracted}
use Rattle.extract_rewrite.specs.Answers.{IsExtraction, IsRefused, limit_refusal}
use Rattle.extract_rewrite.specs.Extraction.{Extraction, extraction_by, extraction_of}
use Rattle.extract_rewrite.specs.Counts.{counts}
use Rattle.extract_rewrite.specs.Edits.{edits}
use Rattle.extract_rewrite.specs.Limits.{IsWithinLimits, PassesLimits}
use Rattle.extract_rewrite.specs.Reading.{Judges}
use Rattle.extract_rewrite.specs.Ready.{CanBeDone, EditsCanBeDone}
use Rattle.extract_rewrite.specs.Shown.{extracted_shown}
use Rattle.extract_rewrite.proofs.Standing.{same_some}

-- ---- a template

found_there : {A : Type 0} (xs : List A) (n : ℕ) → n < length xs → slice_get xs n ≡ None → ⊥
found_there [] n lt e = omega (arith, lt)
found_there (x ∷ xs) zero lt e = cc
found_there (x ∷ xs) (suc n) lt e = found_there xs n (omega (arith, lt)) e

nothing_made : (e : Extraction) → Some e ≡ None → ⊥
nothing_made e k = cc

-- the windows have a template
pub template_there : (p : PackageView) (name : List ℕ) (ws : List Window) → 1 ≤ length ws → AllByRecursion (λ w. w.func < length p.functions) ws → extraction_of (content p) name ws ≡ None → ⊥
template_there p name [] some h e = omega (arith, some)
template_there p name (w ∷ ws) some h e = by_function (slice_get (content p).functions w.func) refl e
  where
    by_function : (o : Option FuncContent) → slice_get (content p).functions w.func ≡ o → extraction_by (content p) name (w ∷ ws) (option_map (λ f. member_over (content p).uses w f.locals f.tokens f.tree) o) ≡ None → ⊥
    by_function None at k = found_there (content p).functions w.func (omega (arith, h.0, length-map p.functions (func_content (type_of p.types.shapes)))) at
    by_function (Some f) at k = nothing_made (record { edits = edits (content p) name (w ∷ ws); counts = counts (content p) (w ∷ ws) }) k

-- ---- edits

applicable : (texts : List FileText) (es : List Edit) → CanBeDone texts es → total_bytes (applied texts es) ≤ most_bytes → AreApplicable texts es
applicable texts es h small = record { ranges = h.ranges; descends = h.descends; small = small }

pub applicable_within : (texts : List FileText) (es : List Edit) → CanBeDone texts es → Judges true (applied texts es) → AreApplicable texts es
applicable_within texts es h w = applicable texts es h w.bytes

-- ---- the answer

module _ (p : PackageView) (texts : List FileText) (name : List ℕ) (ws : List Window) (same : texts_of p ≡ texts) where
  pub refused_early : (r : Option FoundRefusal) (x : FoundRefusal) → option_map refusal_view r ≡ refused (content p) name ws → r ≡ Some x → IsRefused (content p) name ws (refusal_view x)
  refused_early r x e is = inl (sym e ∙ ap (option_map refusal_view) is)

  nothing : (r : Option FoundRefusal) → option_map refusal_view r ≡ refused (content p) name ws → r ≡ None → refused (content p) name ws ≡ None
  nothing r e is = sym e ∙ ap (option_map refusal_view) is

  -- the edits may be done one after the other
  pub done : EditsCanBeDone → IsCheckedPackage p → IsPackage texts → (r : Option FoundRefusal) (x : Extracted) → option_map refusal_view r ≡ refused (content p) name ws → r ≡ None
      → extraction_of (content p) name ws ≡ Some (extracted_shown x) → CanBeDone texts x.edits
  done law h loaded r x e is made = by_template (template_of (content p) ws) refl made
    where
      by_template : (o : Option (Member TypeTree)) → template_of (content p) ws ≡ o → extraction_by (content p) name ws o ≡ Some (extracted_shown x) → CanBeDone texts x.edits
      by_template None there k = absurd (nothing_made (extracted_shown x) (sym k))
      by_template (Some t) there k =
          let whole : Extraction = record { edits = edits (content p) name ws; counts = counts (content p) ws } in
          let made_edits : edits (content p) name ws ≡ x.edits = ap (λ (e : Extraction). e.edits) (same_some whole (extracted_shown x) k) in
          let small : total_bytes (texts_of p) ≤ most_bytes = subst (λ ts. total_bytes ts ≤ most_bytes) (sym same) loaded.small in
          subst (CanBeDone texts) made_edits (subst (λ ts. CanBeDone ts (edits (content p) name ws)) same (law p name ws t h small there (nothing r e is)))

  pub extracted : (r : Option FoundRefusal) (x : Extracted) → option_map refusal_view r ≡ refused (content p) name ws → r ≡ None → extraction_of (content p) name ws ≡ Some (extracted_shown x)
      → Judges true (applied texts x.edits) → IsExtraction (content p) name ws (extracted_shown x)
  extracted r x e is made w = record {
    allowed = nothing r e is;
    made = made;
    within = subst (λ ts. IsWithinLimits (applied ts x.edits)) (sym same) w;
  }

  pub past : (r : Option FoundRefusal) (x : Extracted) (y : FoundRefusal) → option_map refusal_view r ≡ refused (content p) name ws → r ≡ None → extraction_of (content p) name ws ≡ Some (extracted_shown x)
      → Judges false (applied texts x.edits) → refusal_view y ≡ limit_refusal → IsRefused (content p) name ws (refusal_view y)
  past r x y e is made w l = inr (
    l,
    record {
      allowed = nothing r e is;
      extraction = extracted_shown x;
      made = made;
      passes = subst (λ ts. PassesLimits (applied ts x.edits)) (sym same) w;
    },
  )
