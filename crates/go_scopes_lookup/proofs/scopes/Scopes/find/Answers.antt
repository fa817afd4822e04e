use Rattle.std.proofs.Common.{◌≡◌, ◌-◌, ◌∙◌, suc, ap, sym, take, length, None, refl, arith, length-take}
use Rattle.go_scopes_events.specs.Scopes.{otherwise}
use Rattle.go_scopes_lookup.specs.Stacks.{said, said_in}
use Rattle.go_scopes_lookup.proofs.Stacks.{said_last, said_alike, alike}
use Rattle.go_scopes_lookup.proofs.scopes.Scopes.find.Goals as goal

pub returns-in-Some : goal.returns-in-Some
returns-in-Some c =
    let left = c.loop-left.left.now in
    let t = c.args.token in
    let w = c.args.name in
    let front = said (take (length left - 1) left) t w in
    let last : suc (length left - 1) ≡ length left = omega (arith, c.in-len1-up.len_at_least) in
    ap (λ o. otherwise o front) (c.in-Some.ensures)
    ∙ sym (said_last t w left (length left - 1) c.block-item.result None last c.block-item.is)
    ∙ c.loop-left.invariant.says w refl
    ∙ ap (λ bs. said bs t w) c.deref-left.ensures.value

pub loop-left-preserved : goal.loop-left-preserved
loop-left-preserved c =
    let left = c.loop-left.left.now in
    let front = take (length left - 1) left in
    let t = c.args.token in
    let v = c.args.name in
    let last : suc (length left - 1) ≡ length left = omega (arith, c.in-len1-up.len_at_least) in
    let none : said_in c.block-item.result t v ≡ None = sym (c.in_default-find.ensures) in
    let here : said left t v ≡ said front t v = said_last t v left (length left - 1) c.block-item.result None last c.block-item.is ∙ ap (λ o. otherwise o (said front t v)) none in
    record {
      says = λ w e.
          sym (said_alike front t v w None (alike v w (sym e)))
          ∙ sym here
          ∙ c.loop-left.invariant.says v refl
          ∙ said_alike c.deref-left.result.now t v w None (alike v w (sym e));
      fewer = omega (arith, length-take (length left - 1) left, c.loop-left.invariant.fewer);
    }
