use Rattle.std.proofs.Common.{◌≡◌, ◌+◌, ◌∷◌, ◌++◌, ◌∙◌, [], suc, drop, ap, sym, arith, append_assoc, None, slice_index_or}
use Rattle.go_needs.specs.declared.owners.Owner.{Owner}
use Rattle.go_package_defs.specs.Verdicts.{is_in}
use Rattle.go_needs.specs.Blocked.{flags_from}
use Rattle.go_needs.proofs.Lists.{drop-one}
use Rattle.go_needs.proofs.blocked.flags.Goals as goal

pub loop-number-preserved : goal.loop-number-preserved
loop-number-preserved c =
    let ns = c.args.numbers.now in
    let os = c.args.owners.now in
    let i = c.loop-number.number in
    let d : Owner = record { file = 0; source = None; column = 0 } in
    let back : drop i os ≡ slice_index_or os i d ∷ drop (i + 1) os = drop-one os (i + 1) i d (omega arith) (omega (arith, c.loop-number-test.true)) in
    let next : i + 1 ≡ suc i = omega arith in
    ap (λ l. l ++ flags_from ns (i + 1) (drop (i + 1) os)) c.in_ok-push.ensures.items
    ∙ (append_assoc c.loop-number.flags.items (c.is_in.result ∷ []) (flags_from ns (i + 1) (drop (i + 1) os))
    ∙ (ap (λ b. c.loop-number.flags.items ++ b ∷ flags_from ns (i + 1) (drop (i + 1) os)) c.is_in.ensures
    ∙ (ap (λ n. c.loop-number.flags.items ++ is_in ns i ∷ flags_from ns n (drop (i + 1) os)) next
    ∙ (sym (ap (λ l. c.loop-number.flags.items ++ flags_from ns i l) back) ∙ c.loop-number.invariant))))
