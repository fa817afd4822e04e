use Rattle.std.proofs.Common.{arith, ◌≡◌, ◌+◌, ◌-◌, ◌<◌, drop, length, true, cond, string_bytes, ap, subst, sym, ◌∙◌}
use Rattle.std.specs.Str.{bytes_eq}
use Rattle.std.specs.List.Sorted.{IsPermutation}
use Rattle.std.specs.FinMap as map
use Rattle.port_io.specs.Stored.{held_by, with_name}
use Rattle.port_io.proofs.StoredLemmas.{names_at, no_names}
use Rattle.port_io.proofs.store.list_names.Goals as goal

pub loop-i-init : goal.loop-i-init
loop-i-init c = no_names c.args.folder.now c.args.files.now c.new-names.result.items c.new-names.ensures.items

pub loop-i-preserved-in-Continue-1 : goal.loop-i-preserved-in-Continue-1
loop-i-preserved-in-Continue-1 c =
    let last : (c.loop-i.i - 1) + 1 ≡ c.loop-i.i = omega arith in
    let lt : c.loop-i.i - 1 < length c.args.files.now = omega arith in
    let so_far = subst (λ i. IsPermutation (map.keys (held_by (drop i c.args.files.now) c.args.folder.now)) c.loop-i.names.items) (sym last) c.loop-i.invariant in
    let all = names_at c.args.folder.now c.args.files.now (c.loop-i.i - 1) c.index-files-i.result c.loop-i.names.items lt c.index-files-i.is so_far in
    let in_folder : bytes_eq c.args.folder.now (string_bytes c.index-files-i.result.folder) ≡ true = sym c.is_in.ensures ∙ c.if-is_in.true in
    let names : cond (bytes_eq c.args.folder.now (string_bytes c.index-files-i.result.folder)) (with_name c.loop-i.names.items c.index-files-i.result.name) c.loop-i.names.items ≡ c.push_new.new.names.items = ap (λ b. cond b (with_name c.loop-i.names.items c.index-files-i.result.name) c.loop-i.names.items) in_folder ∙ sym c.in_ok-push_new.ensures in
    subst (λ ns. IsPermutation (map.keys (held_by (drop (c.loop-i.i - 1) c.args.files.now) c.args.folder.now)) ns) names all
