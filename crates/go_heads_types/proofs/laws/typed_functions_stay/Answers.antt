use Rattle.go_heads_types.specs.Portions.{files_of}
use Rattle.go_heads_types.proofs.HeadPortions.{resolved, typed_kept}
use Rattle.go_heads_types.proofs.laws.typed_functions_stay.Goals as goal

pub returns : goal.returns
returns c p q names others h k e =
    let a = resolved c.functions_have_names.ensures p names h in
    let b = resolved c.functions_have_names.ensures q others k in
    typed_kept p q names others a b
    (c.portions_follow_from_functions.ensures p q names others h.named k.named h.read k.read e)
    (c.checked_names_stay.ensures p q names others a b e)
    (c.tokens_keep_their_objects.ensures (files_of names p.sources) (files_of others q.sources) h.read k.read a.functions b.functions e)
