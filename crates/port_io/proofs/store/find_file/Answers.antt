use Rattle.std.proofs.Common.{◌≡◌, drop, ◌+◌, ap, sym, ◌∙◌, cond, Some}
use Rattle.std.specs.Ordering.{nat_cmp}
use Rattle.std.specs.Cmp.Lexicographic.{slice_cmp}
use Rattle.std.specs.FinMap as map
use Rattle.port_io.specs.Stored.{stored_under}
use Rattle.port_io.proofs.StoredLemmas.{find_at}
use Rattle.port_io.proofs.store.find_file.Goals as goal

pub returns-then-is_at : goal.returns-then-is_at
returns-then-is_at c =
    let found = find_at c.args.folder.now c.args.name.now c.args.files.now c.loop-file.file-index c.file-item.result c.loop-file-test.true c.file-item.is in
    let here : map.find (slice_cmp nat_cmp) c.args.name.now (stored_under c.args.folder.now (drop c.loop-file.file-index c.args.files.now)) ≡ Some c.file-item.result.bytes = found ∙ ap (λ b. cond b (Some c.file-item.result.bytes) (map.find (slice_cmp nat_cmp) c.args.name.now (stored_under c.args.folder.now (drop (c.loop-file.file-index + 1) c.args.files.now)))) (sym c.is_at.ensures ∙ c.if-is_at.true) in
    sym here ∙ c.loop-file.invariant

pub loop-file-preserved : goal.loop-file-preserved
loop-file-preserved c =
    let found = find_at c.args.folder.now c.args.name.now c.args.files.now c.loop-file.file-index c.file-item.result c.loop-file-test.true c.file-item.is in
    let here : map.find (slice_cmp nat_cmp) c.args.name.now (stored_under c.args.folder.now (drop c.loop-file.file-index c.args.files.now)) ≡ map.find (slice_cmp nat_cmp) c.args.name.now (stored_under c.args.folder.now (drop (c.loop-file.file-index + 1) c.args.files.now)) = found ∙ ap (λ b. cond b (Some c.file-item.result.bytes) (map.find (slice_cmp nat_cmp) c.args.name.now (stored_under c.args.folder.now (drop (c.loop-file.file-index + 1) c.args.files.now)))) (sym c.is_at.ensures ∙ c.if-is_at.false) in
    sym here ∙ c.loop-file.invariant
