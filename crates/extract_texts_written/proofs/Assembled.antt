-- What an extraction writes can be written.
use Rattle.std.proofs.Common.{ℕ, Bool, List, [], ◌∷◌, length}
use Rattle.std.specs.List.{AllByRecursion}
use Rattle.go_types.specs.Trees.{TypeTree}
use Rattle.go_typed.specs.declared.window.Window.{Window}
use Rattle.go_typed.specs.Contents.{content}
use Rattle.go_typed.specs.Packages.{PackageView}
use Rattle.go_print_laws.specs.Calls.{CallCanBeWritten}
use Rattle.go_print_laws.specs.Lexemes.{IsName, NamesAreNames}
use Rattle.param_choose.specs.Locals.{is_array}
use Rattle.param_choose.specs.Members.{Member, members_of}
use Rattle.escape_check.specs.Places.{sources_of}
use Rattle.escape_check.specs.Types.{declared_text}
use Rattle.extract_texts.specs.Texts.{call_of}
use Rattle.go_stmts_written.specs.Packages.{CheckedPackagesAreNamed}
use Rattle.extract_texts_written.specs.Written.{AreSame, IsAllowed, HolesCanBeSpelled, chosen, chosen_names, FunctionsCanBeWritten, AllCallsCanBeWritten}
use Rattle.extract_texts_written.proofs.Calls.{ChoiceFound, new_name, fresh_named, header_can, returned_can, call_can, choice_found}
use Rattle.extract_texts_written.proofs.Choices.{choice_written}
use Rattle.extract_texts_written.proofs.Locals.{MemberWritten, members_written, template_written}
use Rattle.extract_texts_written.proofs.Origins.{FunctionsAdd}
use Rattle.extract_texts_written.proofs.Packages.{IsWritten, AreWithin, is_written}

module _ (law : NamesAreNames) (adds : FunctionsAdd) (within : AreWithin) (fields : CheckedPackagesAreNamed) where
  written : (identical : TypeTree → TypeTree → Bool) (p : PackageView) (name : List ℕ) (ws : List Window) (t : Member TypeTree) → IsAllowed identical p name ws t → IsWritten (content p)
  written identical p name ws t h = is_written law adds within fields p h.checked h.table h.checked.numbers.defined

  pub functions_can : FunctionsCanBeWritten
  functions_can identical p name ws t h =
      let c = content p in
      let s = sources_of c in
      let own = template_written p h.checked.numbers.locals (written identical p name ws t h) ws t h.template in
      let w = choice_written (is_array c.rights) s (members_of c ws) t own in
      let fresh = fresh_named s name (length (chosen c ws t).holes) in
      record {
        header = header_can s name (chosen_names c name ws t) t (chosen c ws t) (new_name c name ws t h.template h.allowed) fresh w;
        returned = returned_can s t (chosen c ws t) w;
        fresh = fresh;
      }

  pub calls_can : AllCallsCanBeWritten
  calls_can identical p name ws t h named spelled =
      let c = content p in
      let n = new_name c name ws t h.template h.allowed in
      let found = choice_found (is_array c.rights) (members_of c ws) t named in
      each (members_of c ws) n found (members_written p h.checked.numbers.locals (written identical p name ws t h) ws) h.same spelled
    where
      each : (ms : List (Member TypeTree)) → IsName name → ChoiceFound t (chosen (content p) ws t) → AllByRecursion (MemberWritten (sources_of (content p))) ms → AreSame identical t ms → AllByRecursion HolesCanBeSpelled ms
          → AllByRecursion (λ m. CallCanBeWritten (declared_text (sources_of (content p))) (call_of (λ x. x) (sources_of (content p)) name t (chosen (content p) ws t) m)) ms
      each [] n f w a b = tt
      each (m ∷ ms) n f w a b = (call_can identical (sources_of (content p)) name t m w.0 a.0 (chosen (content p) ws t) n f.free f.assigned f.declared b.0, each ms n f w.1 a.1 b.1)
