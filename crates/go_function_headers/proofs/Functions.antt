-- Functions are read, whatever their headers are.
use Rattle.std.proofs.Common.{ℕ, List, [], ◌∷◌, ◌++◌, codes, length, refl, arith}
use Rattle.go_tokens.specs.declared.token.TokenKind.{TokenKind}
use Rattle.go_tokens.specs.declared.token.TokenKind.TheVariants as token
use Rattle.go_print.specs.Texts.{listed, named, results_text, row_texts}
use Rattle.go_print_laws.specs.Functions.{Function, FunctionsStand, block_tree, returning_lexemes}
use Rattle.go_print_laws.specs.Headers.{Header, HeadersStand, header_lexemes, signature_tree}
use Rattle.go_print_laws.specs.Lexemes.{words}
use Rattle.go_print_laws.specs.Types.{right_brace, semicolon}
use Rattle.go_function_headers.specs.Functions.{FunctionsRead}
use Rattle.go_function_headers.proofs.Header.{short, short_written}
use Rattle.go_function_headers.proofs.Levels.{function_low}
use Rattle.go_function_headers.proofs.Texts.{TokensRewritten, with_header}
use Rattle.go_function_headers.proofs.Trees.{headed}

-- the tokens behind a header
abbrev behind : List TokenKind → List (List ℕ) → List TokenKind
behind ws returned = token.LeftBrace ∷ (ws ++ (token.Semicolon ∷ words (returning_lexemes returned (right_brace ∷ semicolon ∷ []))))

-- the bytes of a header behind its first word
abbrev behind_func : (ℕ → List ℕ) → Header → List ℕ
behind_func name h = h.function ++ codes "(" ++ listed (named h.parameters (row_texts name h.types)) ++ codes ")" ++ results_text (row_texts name h.results)

pub functions_read : FunctionsStand → HeadersStand → TokensRewritten → FunctionsRead
functions_read stand headers law file name f ws new w n b low =
    let g : Function = record { header = short; body = f.body; returned = f.returned } in
    let old = stand file name g ws new (short_written name) n b (function_low g (length ws) new (omega arith) low) in
    let h = headers file name f.header w in
    let us = behind ws f.returned in
    let r = with_header law file (behind_func name f.header) f.body f.returned (header_lexemes name f.header []) h.alone us
    (record { text = old.text; is_text = old.is_text; tokens = old.tokens; tail = old.tail; kinds_are = old.kinds_are }) in
    let t = headed (token.Func ∷ token.Identifier ∷ token.LeftParenthesis ∷ token.RightParenthesis ∷ []) (words (header_lexemes name f.header [])) us (signature_tree 2 short) (signature_tree 2 f.header)
    (block_tree 4 (length ws) new f.returned) old.declaration refl (h.derives us refl) h.ends in
    record { text = r.text; is_text = r.is_text; tokens = r.tokens; tail = r.tail; kinds_are = r.kinds_are; tree = t.tree; whole = t.whole; part = t.part; above = t.above }
