use Rattle.go_print_laws.proofs.Copies.{copies_stand}
use Rattle.go_print_laws.proofs.laws.copies_stand.Goals as goal

pub returns : goal.returns
returns c =
    copies_stand
    (record {
      excerpts = c.excerpts_stand.ensures;
      items = c.copied_items_stand.ensures;
      endings = c.texts_end_well.ensures.run;
      ranges = c.ranges_end_well.ensures;
      blocks = c.statements_stand_in_both.ensures.block;
    })
