use Rattle.extract_rewrite.proofs.extracted.extraction.Goals as goal

pub returns-clause-counts : goal.returns-clause-counts
returns-clause-counts c = λ j. record { members = c.in_ok-members.ensures j; parameters = c.in_ok-parameters.ensures j; results = c.in_ok-results.ensures j; dropped = c.in_ok-dropped.ensures j }
