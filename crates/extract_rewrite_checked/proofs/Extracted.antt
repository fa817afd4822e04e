-- Extractions from packages that type-check make each file new.
use Rattle.std.proofs.Common.{◌≡◌, ℕ, Bool, List, ◌++◌, length, Some, sym, ap, subst}
use Rattle.std.specs.List.{AllByRecursion}
use Rattle.go_types.specs.Trees.{TypeTree}
use Rattle.go_typed.specs.declared.window.Window.{Window}
use Rattle.go_typed.specs.Contents.{Content, content}
use Rattle.go_typed.specs.Packages.{PackageView}
use Rattle.go_print_laws.specs.Calls.{CallCanBeWritten}
use Rattle.go_print_laws.specs.Headers.{HeaderCanBeWritten}
use Rattle.go_print_laws.specs.Lexemes.{AreNames}
use Rattle.param_choose.specs.Choosing.{Choice, chosen_in, chosen_of}
use Rattle.param_choose.specs.Locals.{is_array}
use Rattle.param_choose.specs.Members.{Member, members_of}
use Rattle.escape_check.specs.Places.{sources_of}
use Rattle.escape_check.specs.Types.{declared_text}
use Rattle.extract_texts.specs.Fresh.{fresh_names}
use Rattle.extract_texts.specs.Texts.{call_of, header_of, variable_names}
use Rattle.extract_texts_written.specs.Written.{AllCallsCanBeWritten, FunctionsCanBeWritten}
use Rattle.extract_rewrite_files.specs.Accepted.{AcceptedFilesAreNew}
use Rattle.extract_rewrite_files.specs.Behind.{CallsCanBeWritten, FunctionCanBeWritten, FunctionsStandBehind, MayBeTaken}
use Rattle.extract_rewrite_files.specs.Signatures.{SignaturesAreShallow}
use Rattle.extract_rewrite_checked.specs.Checked.{WindowsHaveSites}
use Rattle.extract_rewrite_checked.specs.Extracted.{ExtractedFilesAreNew, MayBeExtracted}

module _ (functions : FunctionsCanBeWritten) (calls : AllCallsCanBeWritten) (identical : TypeTree → TypeTree → Bool) (p : PackageView) (name : List ℕ) (ws : List Window) (t : Member TypeTree) (h : MayBeExtracted identical p name ws t) where
  abbrev c : Content
  c = content p

  same : chosen_in (is_array c.rights) (Some t) (members_of c ws) ≡ chosen_of c ws
  same = sym (ap (λ o. chosen_in (is_array c.rights) o (members_of c ws)) h.allowed.template)

  abbrev Called : Choice TypeTree → Type 0
  Called k = AllByRecursion (λ m. CallCanBeWritten (declared_text (sources_of c)) (call_of (λ x. x) (sources_of c) name t k m)) (members_of c ws)

  abbrev Headed : Choice TypeTree → Type 0
  Headed k = HeaderCanBeWritten (declared_text (sources_of c)) (header_of (λ x. x) (sources_of c) name (fresh_names (sources_of c) name (length k.holes)) t k)
      × AreNames (variable_names (sources_of c) t (k.assigned ++ k.declared)) × AreNames (fresh_names (sources_of c) name (length k.holes))

  all_written : CallsCanBeWritten c name ws t
  all_written = subst Called same (calls identical p name ws t h.allowed h.named h.spelled)

  function_written : FunctionCanBeWritten c name ws t
  function_written =
      let f = functions identical p name ws t h.allowed in
      let r : Headed (chosen_of c ws) = subst Headed same (f.header, f.returned, f.fresh) in
      record { header = r.0; returned = r.1; fresh = r.2 }

pub extracted_files_are_new : WindowsHaveSites → FunctionsCanBeWritten → AllCallsCanBeWritten → FunctionsStandBehind → SignaturesAreShallow → AcceptedFilesAreNew → ExtractedFilesAreNew
extracted_files_are_new have functions calls stand shallow accepted identical p name ws t e h x n f at own =
    let sites = have p ws h.allowed.checked h.within.small h.windows in
    let taken : MayBeTaken p name ws t = record { checked = h.allowed.checked; within = h.within; template = h.allowed.template; allowed = h.allowed.allowed; sites = sites } in
    let called = all_written functions calls identical p name ws t h in
    let written = function_written functions calls identical p name ws t h in
    accepted p name ws t e h.allowed.checked h.within h.allowed.template sites called x n f at
    (λ same. let k = own same in stand p name ws t taken k written (shallow p name ws t e taken called k written x))
