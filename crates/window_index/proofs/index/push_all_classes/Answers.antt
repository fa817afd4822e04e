use Rattle.std.proofs.Common.{◌≡◌, ◌∙◌, ◌+◌, ◌++◌, drop, filter, ap, sym, append_assoc}
use Rattle.std.proofs.lemmas.List.Elements.{filter-append}
use Rattle.clone_classes.specs.Listing.{members_of}
use Rattle.window_index.specs.Buckets.{groups_in, is_two}
use Rattle.window_index.specs.Groups.{groups_there}
use Rattle.window_index.proofs.Joining.{groups-next}
use Rattle.window_index.proofs.index.push_all_classes.Goals as goal

pub loop-index-preserved : goal.loop-index-preserved
loop-index-preserved c =
    let bs = c.args.buckets.now.entries in
    let i = c.loop-index.index in
    let here = groups_there c.get_index.result in
    let rest = groups_in (drop (i + 1) bs) in
    c.loop-index.invariant
    ∙ ap (λ gs. members_of c.loop-index.classes.items ++ filter is_two gs) (groups-next c.get_index.result i bs c.get_index.ensures.entry)
    ∙ ap (λ gs. members_of c.loop-index.classes.items ++ gs) (filter-append is_two here rest)
    ∙ sym (append_assoc (members_of c.loop-index.classes.items) (filter is_two here) (filter is_two rest))
    ∙ ap (λ gs. gs ++ filter is_two rest) (sym c.in_ok-push_bucket.ensures)
