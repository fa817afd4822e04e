-- Worked examples: the function of which two statements are replaced by a declaration and a call, and the one that begins with a copy of them.
use Rattle.std.specs.Prelude.{◌≡◌, List, [], ◌∷◌, ◌++◌, map, None, codes}
use Rattle.go_tokens.specs.declared.token.TokenKind.TheVariants as token
use Rattle.go_heads.specs.Functions.{Alone}
use Rattle.go_scopes_bodies.specs.Faults.{own_faults}
use Rattle.go_scopes_bodies.specs.Meant.{own_object}
use Rattle.go_rewriting.specs.Places.{places, range}
use Rattle.go_rewriting.specs.Sites.{Site, items, patch_of}
use Rattle.extract_names.specs.CopyExample.{copy, taken}
use Rattle.extract_names.specs.Examples.{gaps, new, new_words, old, patch}
use Rattle.extract_names.specs.Sentences.{Word, name, mark, function_of, around, local, statements_from}
use Rattle.extract_names_derived.specs.Copies.{PlacesRun}
use Rattle.extract_names_derived.specs.Patches.{InLists, ReplaceRuns}
use Rattle.extract_names_derived.specs.Texts.{with_gaps}

-- the body is the second part of the function, and the run its first two statements
abbrev pub sites : List Site
sites = record { path = 1 ∷ []; change = items 0 1 (statements_from new_words 8 1) } ∷ []

-- ---- a name that is reused in front of a run, in it and behind it

-- func f(x int) int { a, b := x, x; ..; a, d := c, a; return a + d }
abbrev around_run : List Word → Alone
around_run run = function_of (
    mark token.Func ∷ name (codes "f") ∷ mark token.LeftParenthesis ∷ name (codes "x") ∷ name (codes "int") ∷ mark token.RightParenthesis ∷ name (codes "int") ∷ mark token.LeftBrace ∷
    name (codes "a") ∷ mark token.Comma ∷ name (codes "b") ∷ mark token.Define ∷ name (codes "x") ∷ mark token.Comma ∷ name (codes "x") ∷ mark token.Semicolon ∷ (run ++
    (name (codes "a") ∷ mark token.Comma ∷ name (codes "d") ∷ mark token.Define ∷ name (codes "c") ∷ mark token.Comma ∷ name (codes "a") ∷ mark token.Semicolon ∷
    mark token.Return ∷ name (codes "a") ∷ mark token.Plus ∷ name (codes "d") ∷ mark token.Semicolon ∷ mark token.RightBrace ∷ mark token.Semicolon ∷ [])))

-- a, c := b, a
abbrev pub reusing : Alone
reusing = around_run (name (codes "a") ∷ mark token.Comma ∷ name (codes "c") ∷ mark token.Define ∷ name (codes "b") ∷ mark token.Comma ∷ name (codes "a") ∷ mark token.Semicolon ∷ [])

-- var c int; a, c = h(a, b)
abbrev pub reusing_call : Alone
reusing_call = around_run (
    mark token.Var ∷ name (codes "c") ∷ name (codes "int") ∷ mark token.Semicolon ∷
    name (codes "a") ∷ mark token.Comma ∷ name (codes "c") ∷ mark token.Assign ∷
    name (codes "h") ∷ mark token.LeftParenthesis ∷ name (codes "a") ∷ mark token.Comma ∷ name (codes "b") ∷ mark token.RightParenthesis ∷ mark token.Semicolon ∷ [])

-- ---- a field that is spelled like a free local

-- func f(a int, p T) { p.a = a }
abbrev pub field_of : Alone
field_of = function_of (
    mark token.Func ∷ name (codes "f") ∷ mark token.LeftParenthesis ∷ name (codes "a") ∷ name (codes "int") ∷ mark token.Comma ∷ name (codes "p") ∷ name (codes "T") ∷ mark token.RightParenthesis ∷ mark token.LeftBrace ∷
    name (codes "p") ∷ mark token.Period ∷ name (codes "a") ∷ mark token.Assign ∷ name (codes "a") ∷ mark token.Semicolon ∷ mark token.RightBrace ∷ mark token.Semicolon ∷ [])

pub record Examples : Type 0 where
  pub lists : InLists old.tree patch
  pub runs : ReplaceRuns old.tree sites
  pub patched : patch_of sites ≡ patch
  pub places : places old.tree (patch_of sites) ≡ range 8 19 ∷ []
  pub texts : with_gaps gaps old.texts ≡ new.texts
  -- `b := a + p` and `b = b * 2`, where `p` stands for the number
  pub copied : PlacesRun old taken copy
  -- The name a before each `:=` is the first a, with the run and with the call.
  pub reused : map (own_object reusing around) (8 ∷ 16 ∷ 24 ∷ 30 ∷ []) ≡ local 1 ∷ local 1 ∷ local 1 ∷ local 1 ∷ []
  pub reused_faultless : own_faults reusing around ≡ []
  pub called : map (own_object reusing_call around) (8 ∷ 20 ∷ 26 ∷ 31 ∷ 37 ∷ []) ≡ local 1 ∷ local 1 ∷ local 1 ∷ local 1 ∷ local 1 ∷ []
  pub called_faultless : own_faults reusing_call around ≡ []
  -- No name stands at the field's token, and at the other one the parameter.
  pub field : map (own_object field_of around) (12 ∷ 14 ∷ []) ≡ None ∷ local 0 ∷ []
  pub field_faultless : own_faults field_of around ≡ []
