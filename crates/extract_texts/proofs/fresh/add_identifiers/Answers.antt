use Rattle.std.proofs.Common.{◌∙◌, sym, ap}
use Rattle.std.specs.HashSet as set
use Rattle.escape_check.specs.Texts.{same_bytes}
use Rattle.extract_texts.proofs.Identifiers.{identifier_in, identifier_not}
use Rattle.extract_texts.proofs.fresh.add_identifiers.Goals as goal
use Rattle.extract_texts.proofs.fresh.add_identifiers.Goals.{then-is_name+in_ok-insert, else-is_name}

pub loop-number-preserved : goal.loop-number-preserved
loop-number-preserved c = λ w.
    let f = c.args.file.now in
    let l = c.tokens-tokens.result.now in
    let i = c.loop-number.number in
    let t = c.get.result in
    elim c.if-is_name.branch [
      | then-is_name+in_ok-insert v ↦
          identifier_in f l w.now v.text.result.now i t _ _ _ c.tokens-tokens.ensures c.get.ensures (sym c.is_identifier-is_name.ensures ∙ v.if-is_name.true) v.text.ensures
          (ap (λ x. set.contains same_bytes x w) v.identifiers-is ∙ v.in_ok-insert.ensures.updates.0 w)
          (c.loop-number.invariant w)
      | else-is_name v ↦
          identifier_not f l w.now i t _ _ _ c.tokens-tokens.ensures c.get.ensures (sym c.is_identifier-is_name.ensures ∙ v.if-is_name.false)
          (ap (λ x. set.contains same_bytes x w) v.identifiers-is)
          (c.loop-number.invariant w)
    ]
