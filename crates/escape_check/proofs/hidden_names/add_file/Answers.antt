use Rattle.std.proofs.Common.{get_or, sym, subst}
use Rattle.escape_check.specs.Stretches.{KnowsHidden}
use Rattle.escape_check.proofs.Hiding.{hidden_more}
use Rattle.escape_check.proofs.hidden_names.add_file.Goals as goal
use Rattle.escape_check.proofs.hidden_names.add_file.Goals.{then-not-contains_key+in_ok-names_hidden_in+in_ok-insert+in-Some-1, then-not-contains_key+in_ok-names_hidden_in+in_ok-insert+in-None-1, else-not-contains_key}

pub loop-of-preserved : goal.loop-of-preserved
loop-of-preserved c =
    let p = c.args.checked.now in
    let t = get_or c.args.types.now c.loop-of.of-index 0 in
    elim c.if-not-contains_key.branch [
      | then-not-contains_key+in_ok-names_hidden_in+in_ok-insert+in-Some-1 w ↦
          subst (λ m. KnowsHidden p m) (sym w.known-is)
          (hidden_more p c.loop-of.known w.insert.new.self c.args.file t w.in_ok-names_hidden_in.field-0 (λ q. w.in_ok-insert.ensures.updates.0 q) w.in_ok-names_hidden_in.ensures c.loop-of.invariant)
      | then-not-contains_key+in_ok-names_hidden_in+in_ok-insert+in-None-1 w ↦
          subst (λ m. KnowsHidden p m) (sym w.known-is)
          (hidden_more p c.loop-of.known w.insert.new.self c.args.file t w.in_ok-names_hidden_in.field-0 (λ q. w.in_ok-insert.ensures.updates.0 q) w.in_ok-names_hidden_in.ensures c.loop-of.invariant)
      | else-not-contains_key w ↦ subst (λ m. KnowsHidden p m) (sym w.known-is) c.loop-of.invariant
    ]
