-- Edits and counts of small packages, worked out by hand.
use Rattle.std.specs.Prelude.{◌≡◌, ℕ, ◌+◌, List, [], ◌∷◌, ◌++◌, map, codes}
use Rattle.go_tokens.specs.declared.token.TokenKind.TheVariants as token
use Rattle.go_tokens.specs.Lexing.{span}
use Rattle.go_tree.specs.declared.node.Node.{Node}
use Rattle.go_tree.specs.Units.{Place}
use Rattle.go_typed.specs.declared.window.Window.{Window}
use Rattle.go_typed.specs.Contents.{Content}
use Rattle.edit_apply.specs.declared.edits.Edit.{Edit}
use Rattle.edit_apply.specs.Edited.{file_of}
use Rattle.edit_apply.specs.Applied.{applied}
use Rattle.param_choose.specs.Examples.{content, window}
use Rattle.extract_texts.specs.Examples.{Piece, t, placed, function_pieces, both, first_two, a_place}
use Rattle.extract_rewrite.specs.Order.{from_the_end}
use Rattle.extract_rewrite.specs.Edits.{edit_at, edits}
use Rattle.extract_rewrite.specs.Counts.{counts, dropped}
use Rattle.extract_rewrite.specs.Ready.{added_bytes, removed_bytes}

abbrev pub place_of : Edit → Place
place_of e = record { file = e.file; start = e.start; end = e.end }

abbrev pub second_first : List Window
second_first = window 1 0 2 ∷ window 0 0 2 ∷ []

-- ---- with a comment between the first function's statements

-- `func f(a int) int {`, `b := a + 1 /* */`, `b = b * 2` and `return b`, and a brace
abbrev pub commented_pieces : List Piece
commented_pieces =
    t token.Func 2 4 ∷ t token.Identifier 1 1 ∷ t token.LeftParenthesis 0 1 ∷ t token.Identifier 0 1 ∷ t token.Identifier 1 3 ∷ t token.RightParenthesis 0 1 ∷ t token.Identifier 1 3 ∷ t token.LeftBrace 1 1
    ∷ t token.Identifier 2 1 ∷ t token.Define 1 2 ∷ t token.Identifier 1 1 ∷ t token.Plus 1 1 ∷ t token.Integer 1 1 ∷ t token.Semicolon 0 0
    ∷ t token.Identifier 8 1 ∷ t token.Assign 1 1 ∷ t token.Identifier 1 1 ∷ t token.Star 1 1 ∷ t token.Integer 1 1 ∷ t token.Semicolon 0 0
    ∷ t token.Return 2 6 ∷ t token.Identifier 1 1 ∷ t token.Semicolon 0 0 ∷ t token.RightBrace 1 1 ∷ t token.Semicolon 0 0 ∷ []

abbrev pub commented_text : List ℕ
commented_text = codes "package main\n\nfunc f(a int) int {\n\tb := a + 1 /* */\n\tb = b * 2\n\treturn b\n}\n\nfunc g(x int) int {\n\ty := x + 5\n\ty = y * 2\n\treturn y\n}\n"

abbrev pub commented : Node → Content
commented root = record content {
  files = record {
    tokens = record {
      file = 0;
      text = commented_text;
      tokens = placed 0 (t token.Package 0 7 ∷ t token.Identifier 1 4 ∷ t token.Semicolon 0 0 ∷ (commented_pieces ++ function_pieces));
      comments = span 0 46 5 ∷ [];
    };
    root = root;
  } ∷ [];
}

-- ---- plain edits

abbrev pub ab : Edit
ab = edit_at (a_place 1 3) (codes "ab")

abbrev pub nothing : Edit
nothing = edit_at (a_place 5 6) []

abbrev pub last : Edit
last = edit_at (a_place 8 8) (codes "!")

pub record Examples : Type 0 where
  -- the function behind the file, then the second call and the first one, however the windows are listed
  pub places : (r : Node) → map place_of (edits (both r) (codes "addmul") first_two) ≡ a_place 125 125 ∷ a_place 91 112 ∷ a_place 35 56 ∷ []
  pub other_template : (r : Node) → map place_of (edits (both r) (codes "addmul") second_first) ≡ a_place 125 125 ∷ a_place 91 112 ∷ a_place 35 56 ∷ []
  pub numbers : (r : Node) → counts (both r) first_two ≡ record { members = 2; parameters = 2; results = 1; dropped = 0 }
  -- with 1,048,494 bytes before, the new package has 1,048,576, which are as many as it may have
  pub grows : (r : Node) → added_bytes (edits (both r) (codes "addmul") first_two) ≡ removed_bytes (edits (both r) (codes "addmul") first_two) + 82
  -- a comment in the template stays, and one in another window is dropped
  pub kept : (r : Node) → dropped (commented r) first_two ≡ 0
  pub lost : (r : Node) → dropped (commented r) second_first ≡ 1
  pub ordered : from_the_end (ab ∷ last ∷ nothing ∷ []) ≡ last ∷ nothing ∷ ab ∷ []
  pub done : applied (file_of (codes "a.go") (codes "01234567") ∷ []) (last ∷ nothing ∷ ab ∷ []) ≡ file_of (codes "a.go") (codes "0ab3467!") ∷ []
