-- No function of a package where statements are taken out fails a rule of names by itself.
use Rattle.std.proofs.Common.{◌≡◌, ◌∙◌, ℕ, inl, inr, ◌⊎◌, List, [], Some, sym, ap}
use Rattle.std.specs.Prelude.{slice_get}
use Rattle.go_heads.specs.Functions.{Alone, Function, KeepsFunctions, all_functions, function_alone}
use Rattle.go_heads.specs.Heads.{File}
use Rattle.go_heads.specs.Tokens.{function_files}
use Rattle.go_scopes_bodies.specs.Faults.{IsFaultlessByFunctions, outer_in, own_faults}
use Rattle.go_scopes_bodies.specs.Meant.{Outer}
use Rattle.go_scopes_changes.specs.Changes.{FunctionsAreSound}
use Rattle.extract_names.specs.Copies.{Copy, IsCopy, CopiesNames}
use Rattle.extract_names.specs.Gaps.{Gap}
use Rattle.extract_names.specs.Sites.{IsSite, KeepsNames}
use Rattle.extract_names_changes.specs.Extracted.{HasCopy, HasGaps, IsExtracted}
use Rattle.extract_names_changes.proofs.Numbers.{there_too}

abbrev pub SitesAreFaultless : Type 0
SitesAreFaultless = (a new : Alone) (outer : Outer) (gaps : List Gap) → IsSite a outer gaps new → own_faults a outer ≡ [] → KeepsNames a outer gaps new

abbrev pub CopiesAreFaultless : Type 0
CopiesAreFaultless = (a new : Alone) (outer : Outer) (c : Copy) → IsCopy a outer c new → own_faults a outer ≡ [] → CopiesNames a outer c new

module _ (sites : SitesAreFaultless) (copies : CopiesAreFaultless) (old new : List File) (keeps : KeepsFunctions old new) (files : function_files 0 new ≡ function_files 0 old) (was : IsFaultlessByFunctions old) (it : IsExtracted old new) where
  one_sound : (k n : ℕ) (f g : Function) → slice_get (all_functions old) k ≡ Some f → slice_get (function_files 0 old) k ≡ Some n → (function_alone g ≡ function_alone f) ⊎ HasGaps old n f g ⊎ HasCopy old n g
      → own_faults (function_alone g) (outer_in old n) ≡ []
  one_sound k n f g there file (inl same) = ap (λ a. own_faults a (outer_in old n)) same ∙ was.functions k n f there file
  one_sound k n f g there file (inr (inl x)) = (sites (function_alone f) (function_alone g) (outer_in old n) x.gaps x.site (was.functions k n f there file)).faultless
  one_sound k n f g there file (inr (inr x)) = (copies (function_alone x.function) (function_alone g) (outer_in old n) x.copy x.copied (was.functions x.number n x.function x.there x.file)).faultless

  pub all_sound : FunctionsAreSound old new
  all_sound = record {
    functions = λ k n g there file.
        let x = there_too (all_functions old) (all_functions new) keeps.count k g there in
        let stood : slice_get (function_files 0 old) k ≡ Some n = ap (λ ns. slice_get ns k) (sym files) ∙ file in
        one_sound k n x.0 g x.1 stood (it.each k n x.0 g x.1 there file);
    statements = it.statements;
  }
