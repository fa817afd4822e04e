use Rattle.std.proofs.Common.{◌∙◌, ◌≡◌, ◌+◌, ◌-◌, ℕ, Bool, None, List, length, length-drop, take, drop, sym, ap, subst, arith}
use Rattle.std.proofs.lemmas.List.{take_rest}
use Rattle.go_base.specs.declared.Span.{Span}
use Rattle.go_tokens.specs.declared.token.PlacedKind.{PlacedKind}
use Rattle.go_tokens.specs.Pieces.{defect_by}
use Rattle.go_tokens.specs.Rows.{all_in_file}
use Rattle.go_tokens.specs.Lexing.{width, Lexes, IsFirst}
use Rattle.go_tokens.specs.Progress.{State, state, taken, line_ended}
use Rattle.go_tokens.proofs.SoFar.{SoFar, so_far_more, so_far_end, so_far_none, so_far_bound, covered_bound}
use Rattle.go_tokens.proofs.lexer.lex_text.Goals as goal

-- the first piece of what is left
first : (text : List ℕ) (at : ℕ) (k : _) (n : ℕ) (ended : Bool) → IsFirst (take (length text - at) (drop at text)) k n ended → IsFirst (drop at text) k n ended
first text at k n ended h = subst (λ l. IsFirst l k n ended) (take_rest text at) h

pub loop-index-init : goal.loop-index-init
loop-index-init c = record { within = omega arith; so_far = subst (SoFar c.args.file c.args.text.now 0 0) (sym c.new-lexer.ensures.state) (so_far_none c.args.file c.args.text.now); file = c.new-lexer.ensures.file }

pub covered-requires : goal.covered-requires
covered-requires c = omega (arith, c.requires, so_far_bound c.args.file c.args.text.now c.loop-index.index c.loop-index.at (state c.loop-index.lexer) c.loop-index.invariant.so_far ((c.loop-index.index + c.first_piece-piece.result.length) - c.loop-index.index))

pub take-requires-clause-fits : goal.take-requires-clause-fits
take-requires-clause-fits c = omega (arith, c.requires, so_far_bound c.args.file c.args.text.now c.loop-index.index c.loop-index.at (state c.loop-index.lexer) c.loop-index.invariant.so_far ((c.loop-index.index + c.first_piece-piece.result.length) - c.loop-index.index))

pub take-requires-clause-short : goal.take-requires-clause-short
take-requires-clause-short c = omega (arith, c.requires, so_far_bound c.args.file c.args.text.now c.loop-index.index c.loop-index.at (state c.loop-index.lexer) c.loop-index.invariant.so_far ((c.loop-index.index + c.first_piece-piece.result.length) - c.loop-index.index))

pub width-at-requires : goal.width-at-requires
width-at-requires c = omega (arith, c.requires, so_far_bound c.args.file c.args.text.now c.loop-index.index c.loop-index.at (state c.loop-index.lexer) c.loop-index.invariant.so_far ((c.loop-index.index + c.first_piece-piece.result.length) - c.loop-index.index))

pub overflow_add-at : goal.overflow_add-at
overflow_add-at c = omega (arith, c.requires, c.width-at.ensures, so_far_bound c.args.file c.args.text.now c.loop-index.index c.loop-index.at (state c.loop-index.lexer) c.loop-index.invariant.so_far ((c.loop-index.index + c.first_piece-piece.result.length) - c.loop-index.index))

pub loop-index-preserved : goal.loop-index-preserved
loop-index-preserved c =
    let text : List ℕ = c.args.text.now in
    let n : ℕ = c.first_piece-piece.result.length in
    let index : ℕ = c.loop-index.index in
    let at : ℕ = c.loop-index.at in
    let same : (index + n) - index ≡ n = omega arith in
    let piece = first text index c.first_piece-piece.result.kind n c.first_piece-piece.result.is_ended c.first_piece-piece.ensures in
    let right : defect_by c.first_piece-piece.result.kind c.first_piece-piece.result.is_ended (take n (drop index text)) ≡ None = ap (λ m. defect_by c.first_piece-piece.result.kind c.first_piece-piece.result.is_ended (take m (drop index text))) (sym same) ∙ sym c.defect.ensures ∙ c.in-None.is in
    let more = so_far_more c.args.file text index at (state c.loop-index.lexer) c.first_piece-piece.result.kind n c.first_piece-piece.result.is_ended c.loop-index.invariant.so_far piece right in
    let took : state c.take.new.self ≡ taken c.args.file at (take n (drop index text)) (state c.loop-index.lexer) = c.in_ok-take-in-None.ensures.state ∙ ap (λ f. taken f at (take ((index + n) - index) (drop index text)) (state c.loop-index.lexer)) c.loop-index.invariant.file ∙ ap (λ m. taken c.args.file at (take m (drop index text)) (state c.loop-index.lexer)) same in
    let wide : c.width-at.result ≡ width (take n (drop index text)) = c.width-at.ensures ∙ ap (λ m. width (take m (drop index text))) same in
    record {
      within = omega (arith, piece.within, length-drop index text);
      so_far = subst (SoFar c.args.file text (index + n) (at + c.width-at.result)) (sym took) (subst (λ w. SoFar c.args.file text (index + n) (at + w) (taken c.args.file at (take n (drop index text)) (state c.loop-index.lexer))) (sym wide) more);
      file = c.in_ok-take-in-None.ensures.file ∙ c.loop-index.invariant.file;
    }

pub span-requires : goal.span-requires
span-requires c = omega (arith, c.requires, c.covered.ensures, covered_bound c.in-Some.code (take ((c.loop-index.index + c.first_piece-piece.result.length) - c.loop-index.index) (drop c.loop-index.index c.args.text.now)), so_far_bound c.args.file c.args.text.now c.loop-index.index c.loop-index.at (state c.loop-index.lexer) c.loop-index.invariant.so_far ((c.loop-index.index + c.first_piece-piece.result.length) - c.loop-index.index))

pub returns : goal.returns
returns c =
    let end = so_far_end c.args.file c.args.text.now c.loop-index.index c.loop-index.at (state c.loop-index.lexer) c.loop-index.invariant.so_far (omega arith) in
    let text : List ℕ = c.args.text.now in
    let lexer = c.end_line.new.self in
    let file : lexer.file ≡ c.args.file = c.in_ok-end_line.ensures.file ∙ c.loop-index.invariant.file in
    let lexed : Lexes c.args.file text (all_in_file lexer.file lexer.tokens.items) lexer.comments.items = subst (λ (s : State). Lexes c.args.file text s.tokens s.comments) (sym (c.in_ok-end_line.ensures.state ∙ ap (λ f. line_ended f (state c.loop-index.lexer)) c.loop-index.invariant.file)) end in
    let known : Lexes c.args.file text (all_in_file c.args.file lexer.tokens.items) lexer.comments.items = subst (λ f. Lexes c.args.file text (all_in_file f lexer.tokens.items) lexer.comments.items) file lexed in
    let cut : Lexes c.args.file text (all_in_file c.args.file c.shrink_to_fit.new.self.items) lexer.comments.items = subst (λ (ps : List PlacedKind). Lexes c.args.file text (all_in_file c.args.file ps) lexer.comments.items) (sym c.shrink_to_fit.ensures.items) known in
    record { exact = subst (λ (ss : List Span). Lexes c.args.file text (all_in_file c.args.file c.shrink_to_fit.new.self.items) ss) (sym c.shrink_to_fit-2.ensures.items) cut }
