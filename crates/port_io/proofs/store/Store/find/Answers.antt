use Rattle.std.proofs.Common.{ap, sym, ◌∙◌}
use Rattle.std.specs.Ordering.{nat_cmp}
use Rattle.std.specs.Cmp.Lexicographic.{slice_cmp, nat_list_cmp_total}
use Rattle.std.specs.FinMap.{find, get-from_entries}
use Rattle.port_io.specs.Stored.{stored_under}
use Rattle.port_io.proofs.store.Store.find.Goals as goal

pub returns : goal.returns
returns c =
    c.find_file.ensures
    ∙ ap (λ ss. find (slice_cmp nat_cmp) c.args.name.now (stored_under c.args.folder.now ss)) c.as_slice.ensures.value
    ∙ sym (get-from_entries nat_list_cmp_total _ _)
