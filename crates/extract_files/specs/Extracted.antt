-- The files of an extraction: calls at the windows of members, and the new function behind the template's file.
use Rattle.std.specs.Prelude.{◌≡◌, ℕ, ◌+◌, List, [], ◌∷◌, ◌++◌, drop, map, slice_range}
use Rattle.std.specs.Str.{encode_utf8_all}
use Rattle.go_tokens.specs.Lexing.{width}
use Rattle.go_tree.specs.Units.{Place}
use Rattle.go_types.specs.Trees.{TypeTree}
use Rattle.param_choose.specs.Choosing.{Choice}
use Rattle.param_choose.specs.Members.{Member}
use Rattle.escape_check.specs.Places.{Sources}
use Rattle.escape_check.specs.Types.{declared_text}
use Rattle.extract_texts.specs.Texts.{call_of, call_text, window_bytes}
use Rattle.extract_files.specs.Files.{Window, Called, IsCalled, IsRewritten, called_text, file_text}

-- the bytes of a text from a place on, with texts in place of parts of it, which lie behind that place in order
abbrev pub with_texts : List ℕ → ℕ → List Place → List (List ℕ) → List ℕ
with_texts bytes at [] ns = drop at bytes
with_texts bytes at (p ∷ ps) [] = drop at bytes
with_texts bytes at (p ∷ ps) (n ∷ ns) = slice_range bytes at p.start ++ (n ++ with_texts bytes p.end ps ns)

-- The windows are those of these members, behind a place of their file, and the calls those of the extraction.
abbrev pub AreMembers : Sources → List ℕ → Member TypeTree → Choice TypeTree → ℕ → List (Member TypeTree) → List Window → Type 0
AreMembers s name t h at [] [] = Unit {0}
AreMembers s name t h at [] (x ∷ xs) = ⊥
AreMembers s name t h at (m ∷ ms) [] = ⊥
AreMembers s name t h at (m ∷ ms) (x ∷ xs) =
    ((window_bytes s m).start ≡ at + width x.kept) × ((window_bytes s m).end ≡ at + width x.kept + width x.old) × (x.call ≡ call_of (λ x. x) s name t h m)
    × AreMembers s name t h (at + width x.kept + width x.old) ms xs

-- A file with the members whose windows it has.
pub record IsExtracted (s : Sources) (name : List ℕ) (t : Member TypeTree) (h : Choice TypeTree) (ms : List (Member TypeTree)) (w : Called) : Type 0 where
  pub called : IsCalled w
  pub names : w.name ≡ declared_text s
  pub members : AreMembers s name t h 0 ms w.windows

-- The file is rewritten, and its bytes are the old ones with what stands at the windows of the members, and what is appended.
pub record IsRewrittenFor (s : Sources) (name : List ℕ) (t : Member TypeTree) (h : Choice TypeTree) (ms : List (Member TypeTree)) (w : Called) : Type 0 where
  pub rewritten : IsRewritten w
  pub bytes : encode_utf8_all (called_text w.name w.windows (w.rest ++ w.tail))
      ≡ with_texts (encode_utf8_all (file_text w.windows w.rest)) 0 (map (window_bytes s) ms) (map (call_text (λ x. x) s name t h) ms) ++ encode_utf8_all w.tail

-- A file of an extraction is a rewriting of the file.
abbrev pub ExtractedFilesAreRewritten : Type 0
ExtractedFilesAreRewritten = (s : Sources) (name : List ℕ) (t : Member TypeTree) (h : Choice TypeTree) (ms : List (Member TypeTree)) (w : Called) → IsExtracted s name t h ms w → IsRewrittenFor s name t h ms w
