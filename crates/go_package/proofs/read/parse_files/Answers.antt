use Rattle.std.proofs.Common.{◌≡◌, ◌+◌, Some, length, slice_get, refl, sym, subst, arith}
use Rattle.std.proofs.lemmas.Option.{slice_get_read}
use Rattle.go_package.specs.Reading.{Upto, IsParsed}
use Rattle.go_package.proofs.Each.{one_more}
use Rattle.go_package.proofs.read.parse_files.Goals as goal

pub loop-tokens-preserved : goal.loop-tokens-preserved
loop-tokens-preserved c =
    let ts = c.args.files.now in
    let i = c.loop-tokens.tokens-index in
    let t = c.tokens-item.result in
    let there : slice_get ts i ≡ Some t = slice_get_read ts (length ts) i t refl c.loop-tokens-test.true c.tokens-item.is in
    subst (Upto IsParsed ts (i + 1)) (sym c.in_ok-push-in-Ok.ensures.items) (one_more IsParsed ts i c.loop-tokens.trees.items t c.in-Ok.file c.loop-tokens.invariant there c.in-Ok.ensures)

pub returns : goal.returns
returns c =
    let ts = c.args.files.now in
    let ended : c.loop-tokens.tokens-index ≡ length ts = omega (arith, c.loop-tokens-test.false, c.loop-tokens.auto.tokens-index-end) in
    subst (λ n. Upto IsParsed ts n c.loop-tokens.trees.items) ended c.loop-tokens.invariant
