use Rattle.std.proofs.Common.{◌≡◌, None, length, sym, ◌∙◌, subst}
use Rattle.go_base.specs.Gives.{Unless as UnlessMemory}
use Rattle.go_tokens.specs.Tokens.{IsTokenList, kinds}
use Rattle.go_grammar.specs.declared.kind.Category.TheVariants as category
use Rattle.go_grammar.specs.Reader.{read, Tends}
use Rattle.go_grammar.specs.Grammar.{IsFile}
use Rattle.go_grammar.specs.Trees.{last}
use Rattle.go_tree.specs.Views.{view}
use Rattle.go_parse.specs.Engine.{stop_refusal}
use Rattle.go_parse.proofs.Found.{is_file, no_file, no_file_over, length-kinds}
use Rattle.go_parse.proofs.parser.parse.Goals as goal

pub returns-in-Err-Syntax : goal.returns-in-Err-Syntax
returns-in-Err-Syntax c =
    let ts = kinds c.args.tokens.now.tokens in
    let P : Type 0 = Tends (λ n. read n ts 101 category.File 0) None in
    let none : P = subst (λ e. UnlessMemory (stop_refusal e) (λ _. P)) c.in-Err-Syntax.field-0-is c.in-Err-Syntax.ensures in
    (c.no_tree.ensures, no_file ts none)

pub returns-then-last-count : goal.returns-then-last-count
returns-then-last-count c =
    let ts0 = c.args.tokens.now.tokens in
    let over : last (view c.in-Ok.grown.node) ≡ length (kinds ts0) → ⊥ = λ e. c.if-last-count.true (c.last.ensures ∙ e ∙ length-kinds ts0 ∙ sym c.count-count.ensures.count) in
    (c.no_tree-then-last-count.ensures, no_file_over (kinds ts0) (view c.in-Ok.grown.node) c.in-Ok.ensures.tends over)

pub new-requires : goal.new-requires
new-requires c =
    let ts0 = c.args.tokens.now.tokens in
    let all : last (view c.in-Ok.grown.node) ≡ length (kinds ts0) = sym c.last.ensures ∙ c.if-last-count.false ∙ c.count-count.ensures.count ∙ sym (length-kinds ts0) in
    record {
      tree = subst (λ l. IsFile (kinds l.tokens) (view c.in-Ok.grown.node)) (sym c.in-Ok-copy.ensures) (is_file (kinds ts0) (view c.in-Ok.grown.node) c.in-Ok.ensures.tends all);
      tokens = subst IsTokenList (sym c.in-Ok-copy.ensures) c.count-count.ensures.list;
    }
