use Rattle.go_heads_types.specs.Portions.{files_of}
use Rattle.go_heads_types.proofs.Packages.{names_kept}
use Rattle.go_heads_types.proofs.laws.checked_names_stay.Goals as goal

pub returns : goal.returns
returns c p q names others h k e =
    names_kept p q names others h k
    (c.objects_keep_their_numbers.ensures (files_of names p.sources) (files_of others q.sources) h.read k.read e)
    (c.names_keep_their_objects.ensures (files_of names p.sources) (files_of others q.sources) h.read k.read e)
    (c.locals_stay.ensures (files_of names p.sources) (files_of others q.sources) h.read k.read h.functions k.functions e)
