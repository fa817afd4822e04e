use Rattle.std.proofs.Common.{◌≡◌, ◌-◌, ◌∷◌, ◌∙◌, drop, ap, arith, slice_index_or}
use Rattle.std.specs.HashMap as hash
use Rattle.go_scopes_lookup.specs.Tables.{same_spot}
use Rattle.go_needs.specs.Declaring.{over_names}
use Rattle.go_needs.proofs.Lists.{drop-one}
use Rattle.go_needs.proofs.declaring.add_names.Goals as goal

pub loop-column-preserved : goal.loop-column-preserved
loop-column-preserved c n t =
    let xs = c.args.names.now in
    let i = c.loop-column.column in
    let x = slice_index_or xs (i - 1) 0 in
    let back : drop (i - 1) xs ≡ x ∷ drop i xs = drop-one xs i (i - 1) 0 (omega (arith, c.loop-column-test.true)) (omega (arith, c.loop-column-test.true, c.loop-column.auto.column)) in
    grind (arith, c.in_ok-insert.ensures.updates.0 (n, t), c.loop-column.invariant n t, ap (λ l. over_names c.args.specification c.args.file n t (i - 1) l (hash.get same_spot c.args.table.now (n, t))) back)

pub returns : goal.returns
returns c n t =
    let i = c.loop-column.column in
    let end : i ≡ 0 = omega (arith, c.loop-column-test.false) in
    c.loop-column.invariant n t ∙ ap (λ j. over_names c.args.specification c.args.file n t j (drop j c.args.names.now) (hash.get same_spot c.args.table.now (n, t))) end
