use Rattle.extract_texts_written.proofs.Assembled.{calls_can}
use Rattle.extract_texts_written.proofs.laws.calls_can_be_written.Goals as goal

pub returns : goal.returns
returns c =
    calls_can c.names_are_names.ensures (λ p a rights n d b e. c.functions_add_right_sides.ensures p a rights n d b e)
    (λ limit texts d h t e r. c.checked_packages_are_within_limits.ensures.checked limit texts d h t e r) c.checked_packages_are_named.ensures
