-- A worked example: two statements of a function, of which the first declares a variable that is named behind them, are replaced by a
-- declaration and a call.
use Rattle.std.specs.Prelude.{◌≡◌, ℕ, List, [], ◌∷◌, map, Option, Some, None, codes, if◌then◌else◌, nat_eq}
use Rattle.go_tokens.specs.declared.token.TokenKind.TheVariants as token
use Rattle.go_rewriting.specs.Places.{Patch, keep, inside, done, part, run, become, places}
use Rattle.go_tree.specs.declared.object.Object.TheVariants as object
use Rattle.go_tree.specs.declared.object.Predeclared.TheVariants as predeclared
use Rattle.go_tree.specs.Contexts.{file_context}
use Rattle.go_heads.specs.Bodies.{function_events}
use Rattle.go_heads.specs.Functions.{Alone}
use Rattle.go_scopes_bodies.specs.Faults.{own_faults}
use Rattle.go_scopes_bodies.specs.Meant.{Meant, own, outside, own_object}
use Rattle.extract_names.specs.Gaps.{Gap, moved_by, ranges}
use Rattle.extract_names.specs.Pieces.{pieces, told_before, told_behind}
use Rattle.extract_names.specs.Sentences.{Word, name, number, mark, function_of, statements_from, around, local}

-- func f(a int) int { b := a + 1; b = b * 2; return b }
abbrev pub old_words : List Word
old_words =
    mark token.Func ∷ name (codes "f") ∷ mark token.LeftParenthesis ∷ name (codes "a") ∷ name (codes "int") ∷ mark token.RightParenthesis ∷ name (codes "int") ∷ mark token.LeftBrace ∷
    name (codes "b") ∷ mark token.Define ∷ name (codes "a") ∷ mark token.Plus ∷ number (codes "1") ∷ mark token.Semicolon ∷
    name (codes "b") ∷ mark token.Assign ∷ name (codes "b") ∷ mark token.Star ∷ number (codes "2") ∷ mark token.Semicolon ∷
    mark token.Return ∷ name (codes "b") ∷ mark token.Semicolon ∷ mark token.RightBrace ∷ mark token.Semicolon ∷ []

-- func f(a int) int { var b int; b = h(a, 1); return b }
abbrev pub new_words : List Word
new_words =
    mark token.Func ∷ name (codes "f") ∷ mark token.LeftParenthesis ∷ name (codes "a") ∷ name (codes "int") ∷ mark token.RightParenthesis ∷ name (codes "int") ∷ mark token.LeftBrace ∷
    mark token.Var ∷ name (codes "b") ∷ name (codes "int") ∷ mark token.Semicolon ∷
    name (codes "b") ∷ mark token.Assign ∷ name (codes "h") ∷ mark token.LeftParenthesis ∷ name (codes "a") ∷ mark token.Comma ∷ number (codes "1") ∷ mark token.RightParenthesis ∷ mark token.Semicolon ∷
    mark token.Return ∷ name (codes "b") ∷ mark token.Semicolon ∷ mark token.RightBrace ∷ mark token.Semicolon ∷ []

-- var b int; b = h(a, 1)
abbrev pub gap_texts : List (List ℕ)
gap_texts = [] ∷ codes "b" ∷ codes "int" ∷ [] ∷ codes "b" ∷ [] ∷ codes "h" ∷ [] ∷ codes "a" ∷ [] ∷ codes "1" ∷ [] ∷ []

abbrev pub gap_means : ℕ → Option Meant
gap_means n =
    if nat_eq n 1 then local 1 else
    if nat_eq n 2 then Some (outside (object.Predeclared predeclared.Int)) else
    if nat_eq n 4 then local 1 else
    if nat_eq n 6 then Some (outside (object.Package 1)) else
    if nat_eq n 8 then local 0 else None

abbrev pub gap : Gap
gap = record { from = 8; upto = 19; texts = gap_texts; means = gap_means; declared = record { old = 8; token = 1; begins = 3 } ∷ [] }

abbrev pub gaps : List Gap
gaps = gap ∷ []

abbrev pub old : Alone
old = function_of old_words

abbrev pub new : Alone
new = function_of new_words

abbrev pub patch : Patch
patch = inside (part keep (part (inside (run 1 (statements_from new_words 8 1) done)) done))

pub record Examples : Type 0 where
  pub tree : become (moved_by gaps) old.tree patch ≡ new.tree
  pub places : places old.tree patch ≡ ranges gaps
  pub before : told_before (pieces (moved_by gaps) (file_context 0) old.tree patch) ≡ function_events old
  pub behind : told_behind (moved_by gaps) (pieces (moved_by gaps) (file_context 0) old.tree patch) ≡ function_events new
  pub faultless : own_faults old around ≡ []
  pub still : own_faults new around ≡ []
  -- what the names of the old function mean: of its parameter, of the variable, and that of the function
  pub meant : map (own_object old around) (1 ∷ 3 ∷ 4 ∷ 8 ∷ 10 ∷ 14 ∷ 16 ∷ 21 ∷ []) ≡ Some (own (object.Package 0)) ∷ local 0 ∷ Some (outside (object.Predeclared predeclared.Int)) ∷ local 1 ∷ local 0 ∷ local 1 ∷ local 1 ∷ local 1 ∷ []
  -- and those of the new one: what stays, and in the gap `b int`, `b`, `h` and `a`
  pub kept : map (own_object new around) (1 ∷ 3 ∷ 4 ∷ 22 ∷ []) ≡ Some (own (object.Package 0)) ∷ local 0 ∷ Some (outside (object.Predeclared predeclared.Int)) ∷ local 1 ∷ []
  pub said : map (own_object new around) (9 ∷ 10 ∷ 12 ∷ 14 ∷ 16 ∷ []) ≡ local 1 ∷ Some (outside (object.Predeclared predeclared.Int)) ∷ local 1 ∷ Some (outside (object.Package 1)) ∷ local 0 ∷ []
