-- A package of the program does what its content does.
use Rattle.std.proofs.Common.{◌≡◌, ◌∙◌, refl, sym, ap, ℕ, List, [], ◌∷◌, length, map}
use Rattle.std.specs.Option.{option_map}
use Rattle.std.proofs.lemmas.List.{length-map}
use Rattle.go_types.specs.Trees.{TypeTree}
use Rattle.go_types.specs.Tables.{Table, type_of, rights_of}
use Rattle.go_types.specs.Relations.{Rights}
use Rattle.go_tree.specs.Uses.{UsesView}
use Rattle.go_types_relations.specs.Renaming.{renamed, AreRenamed}
use Rattle.go_types_relations.specs.Tests.{underlying_of}
use Rattle.go_types_relations.specs.Zeros.{zero_of}
use Rattle.go_typed.specs.Contents.{FuncContent, Content, func_content, content, func_renamed, IsRenamed, IsPackageOf}
use Rattle.go_typed.specs.Funcs.{FuncView}
use Rattle.go_typed.specs.Packages.{PackageView}
use Rattle.go_typed.specs.Trees.{Typed, sort_mapped, mapped}
use Rattle.go_typed.specs.Views.{seen}
use Rattle.go_meaning.specs.Meaning.{Code, Program, run}
use Rattle.go_eval_plans.specs.Programs.{code_of, program_of}
use Rattle.clone_replies.specs.RunContents.{code_in, program_by, program_in}
use Rattle.clone_replies.proofs.Plans.{AreTold}
use Rattle.clone_replies.proofs.Meanings.{run-other}

-- what is known of renamed types
pub record OfTypes : Type 0 where
  pub underlying : (name : ℕ → ℕ) (old new : Rights) (t : TypeTree) → AreRenamed name old new → underlying_of new (renamed name t) ≡ option_map (renamed name) (underlying_of old t)
  pub zero : (name : ℕ → ℕ) (old new : Rights) (t : TypeTree) → AreRenamed name old new → zero_of new (renamed name t) ≡ zero_of old t

code-by : Table → FuncView → ℕ → Code
code-by t f n = record { parameters = f.parameters; locals = n; body = seen t f.root }

code-is : (t : Table) (f : FuncView) → code_of t f ≡ code_in (func_content (type_of t.shapes) f)
unfolding code_of code-by
code-is t f = ap (code-by t f) (sym (length-map f.locals (sort_mapped (type_of t.shapes))))

codes-are : (t : Table) (fs : List FuncView) → map (code_of t) fs ≡ map code_in (map (func_content (type_of t.shapes)) fs)
codes-are t [] = refl
codes-are t (f ∷ fs) = ap (λ c. c ∷ map (code_of t) fs) (code-is t f) ∙ ap (λ cs. code_in (func_content (type_of t.shapes) f) ∷ cs) (codes-are t fs)

with-codes : PackageView → ℕ → List Code → Program
with-codes p main codes = record (program_in (content p) main) { functions = codes }

program-is : (p : PackageView) (main : ℕ) → program_of p main ≡ program_in (content p) main
unfolding program_of with-codes
program-is p main = ap (with-codes p main) (codes-are p.types p.functions)

-- renamed field by field
renamed-is : (name : ℕ → ℕ) (c d : Content) (main : ℕ) → IsRenamed name c d → program_in d main ≡ program_by d.rights (map (mapped (renamed name)) c.variables) c.uses (map (func_renamed name) c.functions) main
renamed-is name c d main h =
    ap (λ (ts : List (Typed TypeTree)). program_by d.rights ts d.uses d.functions main) h.variables
    ∙ ap (λ (u : UsesView). program_by d.rights (map (mapped (renamed name)) c.variables) u d.functions main) h.uses
    ∙ ap (λ (fs : List FuncContent). program_by d.rights (map (mapped (renamed name)) c.variables) c.uses fs main) h.functions

pub run-is : OfTypes → (p : PackageView) (c : Content) (main : ℕ) (input : List ℕ) (turns depth : ℕ) → IsPackageOf c (content p) → run (program_of p main) input turns depth ≡ run (program_in c main) input turns depth
run-is law p c main input turns depth h =
    let name = h.0 in
    let told : AreTold name c.rights (content p).rights = record { underlying = λ t. law.underlying name c.rights (content p).rights t h.1.rights; zero = λ t. law.zero name c.rights (content p).rights t h.1.rights } in
    ap (λ (P : Program). run P input turns depth) (program-is p main ∙ renamed-is name c (content p) main h.1)
    ∙ run-other name c.rights (content p).rights told c.variables c.uses c.functions main input turns depth
