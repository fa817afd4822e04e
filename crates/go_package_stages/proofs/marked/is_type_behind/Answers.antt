use Rattle.std.proofs.Common.{ap, subst, ◌∙◌, arith}
use Rattle.go_declarations.specs.Views.{specification_view}
use Rattle.go_package_stages.specs.Marked.{TypeMarked}
use Rattle.go_package_stages.specs.Numbers.{number_at}
use Rattle.go_package_stages.proofs.marked.is_type_behind.Goals as goal

pub returns : goal.returns
returns c = λ yes.
    let t = c.args.trial.now in
    let d = specification_view c.args.specification.now in
    let n = c.args.number in
    let own = c.number_at-own.ensures ∙ ap (λ ns. number_at ns n) c.deref.ensures.value in
    let stands = c.number_at-stands.ensures ∙ ap (λ ns. number_at ns n) c.deref-2.ensures.value in
    let told = c.number_at-told.ensures ∙ ap (λ ns. number_at ns n) c.deref-3.ensures.value in
    let some = c.if-told-eq0.false in
    let first = c.if-stands-told.false in
    let second = c.if-told-own.false in
    record {
      later = omega (arith, told, some);
      first = omega (arith, told, stands, first);
      right = omega (arith, own, told, second);
      of = subst (λ k. TypeMarked t t.told.now t.counted.now d.file k d.type_tree) told (c.is_type_marked.ensures c.if-not-is_type_marked.false);
      limits = subst (λ k. TypeMarked t t.own.now t.own.now d.file k d.type_tree) own (c.is_type_marked-2.ensures yes);
    }
