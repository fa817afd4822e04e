use Rattle.go_heads_types.specs.Portions.{files_of}
use Rattle.go_package_defs.specs.Answer.{specifications}
use Rattle.go_package_defs.specs.Sources.{package_of, unit_of}
use Rattle.go_tree.specs.Uses.{uses}
use Rattle.std.specs.Prelude.{map}
use Rattle.go_heads_types.proofs.Answers.{declarations_same, by_uses, clean, named}
use Rattle.go_heads_types.proofs.laws.answers_stay.Goals as goal

pub returns : goal.returns
returns c ss us u v ws vs h k e =
    let old = files_of ws ss in
    let new = files_of vs us in
    by_uses ss us u v h.uses k.uses
    (c.same_declarations_have_one_answer.ensures (package_of ss (uses (map unit_of ss))) (package_of us (uses (map unit_of us))) (specifications 0 ss) (specifications 0 us)
    (declarations_same ss us ws vs h.named k.named h.read k.read e c.names_are_in_order.ensures
    (c.objects_keep_their_numbers.ensures old new h.read k.read e)
    (c.names_keep_their_meanings.ensures old new h.read k.read e)
    (c.outside_tokens_stay.ensures old new h.read k.read (named c.functions_have_names.ensures ss u ws h) (named c.functions_have_names.ensures us v vs k) (clean ss u ws h) (clean us v vs k) e)
    (c.needs_stay.ensures ss us ws vs h.named k.named h.read k.read e)
    (c.specifications_stay.ensures ss us ws vs h.named k.named h.read k.read e)))
