use Rattle.std.proofs.Common.{leb, rules}
use Rattle.std.proofs.lemmas.List.Sorted.{IsPartitionPoint-from_clause, IsPartitionedBy-leb}
use Rattle.escape_check.specs.declared.stretches.Stretch.{Stretch}
use Rattle.escape_check.proofs.Stretching.{begun_front, behind_back, ordered_by}
use Rattle.escape_check.proofs.stretches.begun.Goals as goal

pub returns-clause-begun : goal.returns-clause-begun
returns-clause-begun c order =
    let xs = c.args.stretches.now in
    let t = c.args.token in
    let parted = IsPartitionedBy-leb (λ (s : Stretch). s.from) xs t (ordered_by xs order) in
    let point = IsPartitionPoint-from_clause (λ (s : Stretch). leb s.from t) _ _ c.partition_point.ensures.partitioned parted (λ a r q k. search rules) in
    begun_front t xs c.partition_point.result point.0

pub returns-clause-behind : goal.returns-clause-behind
returns-clause-behind c order =
    let xs = c.args.stretches.now in
    let t = c.args.token in
    let parted = IsPartitionedBy-leb (λ (s : Stretch). s.from) xs t (ordered_by xs order) in
    let point = IsPartitionPoint-from_clause (λ (s : Stretch). leb s.from t) _ _ c.partition_point.ensures.partitioned parted (λ a r q k. search rules) in
    behind_back t xs c.partition_point.result point.1
