use Rattle.std.proofs.Common.{subst}
use Rattle.go_base.specs.Gives.{Unless}
use Rattle.go_grammar.specs.Grammar.{IsFile}
use Rattle.go_grammar.specs.Trees.{Tree}
use Rattle.go_tokens.specs.Files.{lex_refusal}
use Rattle.go_tokens.specs.Tokens.{kinds}
use Rattle.go_parse.specs.Parse.{IsSyntaxFault, parse_refusal}
use Rattle.extract_rewrite.proofs.FilesRead.{not_lexed, not_parsed}
use Rattle.extract_rewrite.proofs.reading.file_of.Goals as goal

pub returns-in-Err-Fault : goal.returns-in-Err-Fault
returns-in-Err-Fault c =
    not_lexed c.args.number c.args.text.now c.as_slice.result.now c.as_slice.ensures (λ ts cs h. subst (λ e. Unless (lex_refusal e) (λ f. ⊥)) c.in-Err-Fault.field-0-is (c.in-Err-Fault.ensures.lexing ts cs h))

pub returns-in-Err-Fault-parse : goal.returns-in-Err-Fault-parse
returns-in-Err-Fault-parse c =
    let t = c.in-Ok.tokens in
    let none = subst (λ e. Unless (parse_refusal e) (λ f. IsSyntaxFault t f × ((u : Tree) → IsFile (kinds t.tokens) u → ⊥))) c.in-Err-Fault-parse.field-0-is c.in-Err-Fault-parse.ensures in
    not_parsed c.args.number c.args.text.now c.as_slice.result.now t c.as_slice.ensures (λ ts cs h. c.in-Ok.ensures.lexing ts cs h) none.1
