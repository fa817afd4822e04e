use Rattle.std.proofs.Common.{length, ap, sym, ◌∙◌}
use Rattle.examples.proofs.OneFile.{both-applicable}
use Rattle.examples.proofs.texts.edit_both_ends.Goals as goal

pub apply-requires : goal.apply-requires
apply-requires c =
    both-applicable c.args.texts.now c.args.name.now c.in_ok-from_slice.field-0 c.in_ok-from_slice-2.field-0 c.in-Some.length
    (sym c.files-files.ensures.value ∙ c.if-files-eq1.true) (sym c.in-Some.is ∙ c.length.ensures) c.if-length-eq125.true
    (ap length c.in_ok-from_slice.ensures) (ap length c.in_ok-from_slice-2.ensures)
