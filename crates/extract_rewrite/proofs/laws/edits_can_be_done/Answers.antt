use Rattle.extract_rewrite.proofs.Done.{edits_done}
use Rattle.extract_rewrite.proofs.laws.edits_can_be_done.Goals as goal

pub returns : goal.returns
returns l = λ p name ws t h small there none. edits_done (λ q k u. l.functions_have_places.ensures q k u) (λ c n vs x a b. l.unrefused_windows_are_apart.ensures c n vs x a b) p name ws t h small there none
