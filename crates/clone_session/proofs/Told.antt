-- The line of a refusal with a place.
use Rattle.std.proofs.Common.{◌≡◌, ◌∙◌, ℕ, zero, suc, List, [], ◌∷◌, ◌++◌, Option, Some, None, slice_get, refl, sym, ap}
use Rattle.std.specs.Prelude.{codes}
use Rattle.std.specs.Fmt.{decimal}
use Rattle.std.specs.Option.{option_map}
use Rattle.go_base.specs.declared.bytes.FileText.{FileText}
use Rattle.go_base.specs.declared.span.Span.{Span}
use Rattle.go_package_defs.specs.Checked.{names_of}
use Rattle.go_scopes_lookup.specs.Views.{place_of}
use Rattle.clone_script.specs.Extracts.{refusal_head, refused_line}
use Rattle.clone_script.specs.Listing.{file_name}
use Rattle.clone_script.specs.Replies.{place}
use Rattle.clone_session.specs.Extracting.{refusal_tail}

-- the name of the file at a place
named : (fs : List FileText) (n : ℕ) (name : List ℕ) → option_map (λ (f : FileText). f.name) (slice_get fs n) ≡ Some name → file_name (names_of fs) n ≡ name
named [] zero name e = cc
named [] (suc n) name e = cc
named (f ∷ fs) zero name e = cc
named (f ∷ fs) (suc n) name e = named fs n name e

regrouped : (h a b c d e : List ℕ) → h ++ a ++ b ++ c ++ d ++ e ≡ h ++ (a ++ b ++ c ++ d ++ e)
regrouped [] a b c d e = refl
regrouped (x ∷ h) a b c d e = ap (λ t. x ∷ t) (regrouped h a b c d e)

pub told : (texts : List FileText) (code member : ℕ) (span : Span) (name : List ℕ) → option_map (λ (f : FileText). f.name) (slice_get texts span.file) ≡ Some name
    → refused_line code member (Some (name, span)) ≡ refusal_head code ++ refusal_tail (names_of texts) member (Some (place_of span))
told texts code member span name e =
    ap (λ (n : List ℕ). refused_line code member (Some (n, span))) (sym (named texts span.file name e))
    ∙ regrouped (refusal_head code) (codes " ") (decimal member) (codes " ") (place (file_name (names_of texts) span.file) span) (codes "\n")
