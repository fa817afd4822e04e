use Rattle.std.proofs.Common.{◌∙◌, map}
use Rattle.escape_check.specs.Shown.{member_view}
use Rattle.escape_check.proofs.AtSites.{hidden_each, if_told}
use Rattle.escape_check.proofs.sites.hidden_refusal.Goals as goal

pub returns : goal.returns
returns c = λ h e f.
    if_told _ _ (λ r k. k ∙ hidden_each c.args.checked.now c.args.declared c.args.holes.now h (map member_view c.args.members.now) e f) c.first_refused.result c.first_refused.ensures
