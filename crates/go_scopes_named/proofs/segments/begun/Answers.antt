use Rattle.std.proofs.Common.{leb, rules}
use Rattle.std.proofs.lemmas.List.Sorted.{IsPartitionPoint-from_clause, IsPartitionedBy-leb}
use Rattle.go_scopes_named.specs.declared.segments.Segment.{Segment}
use Rattle.go_scopes_named.proofs.Cut.{begun_front, later_back, rising_by}
use Rattle.go_scopes_named.proofs.segments.begun.Goals as goal

pub returns-clause-begun : goal.returns-clause-begun
returns-clause-begun c rising =
    let xs = c.args.segments.now in
    let t = c.args.token in
    let parted = IsPartitionedBy-leb (λ (s : Segment). s.from) xs t (rising_by xs rising) in
    let point = IsPartitionPoint-from_clause (λ (s : Segment). leb s.from t) _ _ c.partition_point.ensures.partitioned parted (λ a r q k. search rules) in
    begun_front t xs c.partition_point.result point.0

pub returns-clause-later : goal.returns-clause-later
returns-clause-later c rising =
    let xs = c.args.segments.now in
    let t = c.args.token in
    let parted = IsPartitionedBy-leb (λ (s : Segment). s.from) xs t (rising_by xs rising) in
    let point = IsPartitionPoint-from_clause (λ (s : Segment). leb s.from t) _ _ c.partition_point.ensures.partitioned parted (λ a r q k. search rules) in
    later_back t xs c.partition_point.result point.1
