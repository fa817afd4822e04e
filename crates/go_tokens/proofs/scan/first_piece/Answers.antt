use Rattle.std.proofs.Common.{arith, ◌≡◌, ℕ, List, sym, ◌∙◌, ap, subst, add-one, drop}
use Rattle.std.proofs.lemmas.List.{take_rest, get_or_read}
use Rattle.go_tokens.specs.Pieces.{begun, begins, front, Reaches}
use Rattle.go_tokens.proofs.First.{first_operator, first_other, front_is}
use Rattle.go_tokens.proofs.scan.first_piece.Goals as goal

pub returns-in-Operator : goal.returns-in-Operator
returns-in-Operator c = first_operator c.args.text.now c.operator_length.result c.requires (ap (λ x. begun x (front (drop 1 c.args.text.now))) (front_is c.args.text.now ∙ sym (get_or_read c.args.text.now 0 c.index-text-0.result (omega arith) c.index-text-0.is 0)) ∙ ap (begun c.index-text-0.result) (sym c.second.ensures) ∙ sym c.begun.ensures ∙ c.in-Operator.is) c.operator_length.ensures

pub returns-in_default : goal.returns-in_default
returns-in_default c =
    let text : List ℕ = c.args.text.now in
    let opened : begun (front text) (front (drop 1 text)) ≡ c.begun.result = ap (λ x. begun x (front (drop 1 text))) (front_is text ∙ sym (get_or_read text 0 c.index-text-0.result (omega arith) c.index-text-0.is 0)) ∙ ap (begun c.index-text-0.result) (sym c.second.ensures) ∙ sym c.begun.ensures in
    let reach : Reaches (begins c.begun.result) (drop 1 text) c.reach-extent.result.length c.reach-extent.result.mode =
    subst (λ m. Reaches m (drop 1 text) c.reach-extent.result.length c.reach-extent.result.mode) c.begins.ensures (subst (λ l. Reaches c.begins.result l c.reach-extent.result.length c.reach-extent.result.mode) (take_rest text 1) c.reach-extent.ensures) in
    rw add-one (first_other text c.begun.result c.reach-extent.result.length c.reach-extent.result.mode c.is_end.result c.requires opened (λ e. c.in_default.not-Operator e) reach c.is_end.ensures)
