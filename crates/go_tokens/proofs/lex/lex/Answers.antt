use Rattle.std.proofs.Common.{rules, ◌≡◌, ◌∙◌, length, Ok, sym, ap, subst, arith}
use Rattle.go_tokens.specs.Encoding.{IsText}
use Rattle.go_tokens.specs.Rows.{all_in_file}
use Rattle.go_tokens.proofs.Encodings.{text_width}
use Rattle.go_tokens.proofs.Ordered.{Placed, placed}
use Rattle.go_tokens.proofs.Files.{lexing_of, fault_of}
use Rattle.go_tokens.proofs.lex.lex.Goals as goal

pub lex_text-requires : goal.lex_text-requires
lex_text-requires c = omega (arith, c.requires, text_width c.deref.result.now c.args.bytes.now (subst (λ l. IsText l c.args.bytes.now) (sym c.deref.ensures.value) c.in_ok-text.ensures.exact))

pub of-requires : goal.of-requires
of-requires c =
    let text = subst (λ l. IsText l c.args.bytes.now) (sym c.deref.ensures.value) c.in_ok-text.ensures.exact in
    let wide : length c.args.bytes.now ≡ length c.in_ok-bytes.bytes.items = ap length (sym c.in_ok-bytes.ensures.items) in
    let at : Placed (all_in_file c.args.file c.in_ok-lexer.lexer.tokens.items) c.in_ok-lexer.lexer.comments.items (length c.in_ok-bytes.bytes.items) = placed c.args.file c.deref.result.now _ _ _ c.in_ok-lexer.ensures.exact (text_width c.deref.result.now c.args.bytes.now text ∙ wide) in
    record {
      short = omega (arith, c.requires, wide);
      few = omega (arith, c.requires, wide, at.few);
      few_comments = omega (arith, c.requires, wide, at.few_comments);
      tokens = at.tokens;
      comments = at.comments;
    }

pub returns-in_err-text-clause-lexing : goal.returns-in_err-text-clause-lexing
returns-in_err-text-clause-lexing c = lexing_of c.args.file c.args.bytes.now c.from_residual.result (search rules)

pub returns-in_err-text-clause-fault : goal.returns-in_err-text-clause-fault
returns-in_err-text-clause-fault c = fault_of c.args.file c.args.bytes.now c.from_residual.result (search rules)

pub returns-in_err-lexer-clause-lexing : goal.returns-in_err-lexer-clause-lexing
returns-in_err-lexer-clause-lexing c = lexing_of c.args.file c.args.bytes.now c.from_residual-in_err-lexer.result (search rules)

pub returns-in_err-lexer-clause-fault : goal.returns-in_err-lexer-clause-fault
returns-in_err-lexer-clause-fault c = fault_of c.args.file c.args.bytes.now c.from_residual-in_err-lexer.result (search rules)

pub returns-clause-lexing : goal.returns-clause-lexing
returns-clause-lexing c = lexing_of c.args.file c.args.bytes.now (Ok c.of.result) (search rules)

pub returns-clause-fault : goal.returns-clause-fault
returns-clause-fault c = fault_of c.args.file c.args.bytes.now (Ok c.of.result) (search rules)
