use Rattle.std.proofs.Common.{◌∙◌, rules, sym, ap, subst}
use Rattle.std.proofs.lemmas.List.Sorted.{IsNonDecreasingBy-from_sort_by_key, list_any-IsPermutation}
use Rattle.std.proofs.lemmas.Result.{IfOk-weaker}
use Rattle.std.specs.List.{list_any}
use Rattle.escape_check.specs.declared.stretches.Stretch.{Stretch}
use Rattle.escape_check.specs.Stretches.{AreOrdered, covers, reaching}
use Rattle.escape_check.proofs.Stretching.{reaching_order, rising, tokens_kept}
use Rattle.escape_check.proofs.stretches.ordered.Goals as goal

pub returns-clause-order : goal.returns-clause-order
returns-clause-order c =
    let xs = c.sort_by_key.new.self.items in
    let rise = rising xs (IsNonDecreasingBy-from_sort_by_key (λ (s : Stretch). s.from) _ c.in_ok-sort_by_key.ensures.sorted (λ a r q k. search rules)) in
    IfOk-weaker c.reaching.result _ _ (λ v e. subst AreOrdered (sym (e ∙ ap (reaching 0) c.deref.ensures.value)) (reaching_order 0 xs rise)) c.reaching.ensures

pub returns-clause-tokens : goal.returns-clause-tokens
returns-clause-tokens c t =
    let xs = c.sort_by_key.new.self.items in
    let rise = rising xs (IsNonDecreasingBy-from_sort_by_key (λ (s : Stretch). s.from) _ c.in_ok-sort_by_key.ensures.sorted (λ a r q k. search rules)) in
    IfOk-weaker c.reaching.result _ _
    (λ v e. ap (list_any (covers t)) (e ∙ ap (reaching 0) c.deref.ensures.value) ∙ tokens_kept t xs rise ∙ sym (list_any-IsPermutation (covers t) _ xs c.in_ok-sort_by_key.ensures.permutation))
    c.reaching.ensures
