-- The new function of an extraction: the template's statements with fresh names in place of its holes that are parameters.
use Rattle.std.specs.Prelude.{◌≡◌, ℕ, ◌+◌, ◌≤◌, List, [], ◌∷◌, ◌++◌, length, map}
use Rattle.std.specs.Str.{encode_utf8_all}
use Rattle.go_tokens.specs.Lexing.{width}
use Rattle.go_tree.specs.Units.{Place}
use Rattle.go_types.specs.Trees.{TypeTree}
use Rattle.go_grammar.specs.Trees.{depth, depths}
use Rattle.go_print_laws.specs.Functions.{Function, FunctionStands, function_tree, function_words}
use Rattle.go_print_laws.specs.Headers.{HeaderCanBeWritten, signature_tree}
use Rattle.go_print_laws.specs.Lexemes.{AreNames}
use Rattle.go_function_headers.specs.Functions.{FunctionReads}
use Rattle.param_choose.specs.Choosing.{Choice}
use Rattle.param_choose.specs.Members.{Member}
use Rattle.escape_check.specs.Places.{Sources}
use Rattle.escape_check.specs.Types.{declared_text}
use Rattle.extract_texts.specs.Texts.{file_text, function_with, header_of, hole_bytes, template_text, variable_names, window_bytes}
use Rattle.extract_files.specs.Holes.{Hole, Template, IsTemplate, named_words, named_trees}

-- The holes stand at these places of a file, behind a place, and get these names.
abbrev pub AreAt : List Place → List (List ℕ) → ℕ → List Hole → Type 0
AreAt [] [] at [] = Unit {0}
AreAt [] [] at (h ∷ hs) = ⊥
AreAt [] (n ∷ ns) at hs = ⊥
AreAt (p ∷ ps) [] at hs = ⊥
AreAt (p ∷ ps) (n ∷ ns) at [] = ⊥
AreAt (p ∷ ps) (n ∷ ns) at (h ∷ hs) = (p.start ≡ at + width h.kept) × (p.end ≡ at + width h.kept + width h.old) × (n ≡ h.name) × AreAt ps ns (at + width h.kept + width h.old) hs

-- The statements are the window of a member in the bytes of its file, and their holes those of the choice, under these fresh names.
pub record IsTemplateOf (s : Sources) (fresh : List (List ℕ)) (t : Member TypeTree) (h : Choice TypeTree) (w : Template) : Type 0 where
  pub template : IsTemplate w
  pub bytes : file_text s t ≡ encode_utf8_all w.part.text
  pub start : (window_bytes s t).start ≡ width template.is_part.before
  pub end : (window_bytes s t).end ≡ width template.is_part.before + width w.part.inner
  pub holes : AreAt (map (λ p. hole_bytes s t p.hole) h.holes) fresh (width template.is_part.before) w.holes

-- the function under these fresh names
abbrev pub extracted_function : Sources → List ℕ → List (List ℕ) → Member TypeTree → Choice TypeTree → Function
extracted_function s name fresh t h = record { header = header_of (λ x. x) s name fresh t h; body = template_text s fresh t h; returned = variable_names s t (h.assigned ++ h.declared) }

-- What stands behind the template's file is a declaration, and its statements are the template's with names in place of its holes.
abbrev pub ExtractedFunctionsStand : Type 0
ExtractedFunctionsStand = (s : Sources) (name : List ℕ) (fresh : List (List ℕ)) (t : Member TypeTree) (h : Choice TypeTree) (w : Template)
    → HeaderCanBeWritten (declared_text s) (header_of (λ x. x) s name fresh t h) → AreNames (variable_names s t (h.assigned ++ h.declared)) → IsTemplateOf s fresh t h w
    → depth (function_tree (extracted_function s name fresh t h) (length (named_words w)) (named_trees w)) ≤ 100
    → FunctionStands w.part.file (function_with (λ x. x) s name fresh t h) (function_words (declared_text s) (extracted_function s name fresh t h) (named_words w))
    (function_tree (extracted_function s name fresh t h) (length (named_words w)) (named_trees w))

-- It is read there as a declaration, whatever levels its signature has.
abbrev pub ExtractedFunctionsRead : Type 0
ExtractedFunctionsRead = (s : Sources) (name : List ℕ) (fresh : List (List ℕ)) (t : Member TypeTree) (h : Choice TypeTree) (w : Template)
    → HeaderCanBeWritten (declared_text s) (header_of (λ x. x) s name fresh t h) → AreNames (variable_names s t (h.assigned ++ h.declared)) → IsTemplateOf s fresh t h w → depths (named_trees w) ≤ 98
    → FunctionReads w.part.file (function_with (λ x. x) s name fresh t h) (function_words (declared_text s) (extracted_function s name fresh t h) (named_words w)) (signature_tree 2 (header_of (λ x. x) s name fresh t h))
