use Rattle.std.proofs.Common.{◌∙◌, ◌≤◌, List, ℕ, length, slice_get, sym, ap, subst}
use Rattle.go_tokens.specs.Rows.{all_in_file}
use Rattle.go_tokens.specs.Tokens.{TokenList}
use Rattle.go_tokens.proofs.Ordered.{within}
use Rattle.go_tokens.proofs.tokens.Tokens.text.Goals as goal

pub part-requires-clause-forward : goal.part-requires-clause-forward
part-requires-clause-forward c =
    let same = ap (λ (l : TokenList). slice_get l.tokens c.args.i) c.self.view_is ∙ c.get.ensures in
    (within 0 (length c.self.inside.bytes.items) (all_in_file c.self.inside.file c.self.inside.tokens.items) c.args.i c.get.result c.self.invariant.tokens same).forward

pub part-requires-clause-inside : goal.part-requires-clause-inside
part-requires-clause-inside c =
    let same = ap (λ (l : TokenList). slice_get l.tokens c.args.i) c.self.view_is ∙ c.get.ensures in
    let inside = (within 0 (length c.self.inside.bytes.items) (all_in_file c.self.inside.file c.self.inside.tokens.items) c.args.i c.get.result c.self.invariant.tokens same).inside in
    subst (λ (l : List ℕ). c.get.result.span.end ≤ length l) (sym c.deref.ensures.value) inside
