use Rattle.std.proofs.Common.{◌∙◌, ap, sym, take}
use Rattle.std.proofs.lemmas.List.{take-map}
use Rattle.go_types.proofs.index.Index.truncate.Goals as goal

pub invariant_of-self : goal.invariant_of-self
invariant_of-self c = rw c.truncate.ensures.entries ((sym (take-map _ _ _) ∙ ap (take c.args.count) c.self.invariant) ∙ take-map _ _ _)

pub returns : goal.returns
returns c = rw c.truncate.ensures.entries (sym (take-map _ _ _) ∙ ap (take c.args.count) c.self.view_is)
