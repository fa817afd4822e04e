use Rattle.extract_files.proofs.Templates.{templates_stand}
use Rattle.extract_files.proofs.laws.templates_stand.Goals as goal

pub returns : goal.returns
returns c =
    templates_stand
    (record {
      sites = c.changed_sites.ensures;
      fits = c.a_new_text_fits.ensures;
      operands = c.operands_stand_for_expressions.ensures;
      clear = c.clear_sites_agree.ensures;
      subtrees = c.subtrees_stand.ensures;
      items = c.items_stand.ensures;
      elsewhere = c.run_stands_elsewhere.ensures;
      text_ends = c.texts_end_well.ensures.text;
      run_ends = c.texts_end_well.ensures.run;
      ranges = c.ranges_end_well.ensures;
      blocks = c.statements_stand_in_both.ensures.block;
    })
