use Rattle.go_heads_types.proofs.Kept.{needs_kept}
use Rattle.go_heads_types.proofs.laws.needs_stay.Goals as goal

pub returns : goal.returns
returns c =
    needs_kept c.files_are_orderly.ensures c.names_are_in_order.ensures c.heads_tell_names.ensures c.objects_keep_their_numbers.ensures c.names_keep_their_meanings.ensures
