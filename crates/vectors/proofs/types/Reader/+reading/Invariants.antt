use Rattle.vectors.proofs.types.Reader.+reading.Given as goal

abbrev pub decreases-fields : goal.decreases-fields
decreases-fields l = l.depth

abbrev pub decreases-list : goal.decreases-list
decreases-list l = l.depth

abbrev pub decreases-literal : goal.decreases-literal
decreases-literal l = l.depth

abbrev pub decreases-results : goal.decreases-results
decreases-results l = l.depth

abbrev pub decreases-ty : goal.decreases-ty
decreases-ty l = l.depth
