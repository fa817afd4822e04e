use Rattle.std.proofs.Common.{sym, subst}
use Rattle.std.proofs.lemmas.List.Filters.{dedup_is}
use Rattle.std.proofs.lemmas.List.Kept.{IsStrictlySortedBy-dedup, Contains-dedup, Contains-from_dedup}
use Rattle.std.proofs.lemmas.List.Sorted.{Contains-permutation, IsPermutation-sym}
use Rattle.std.specs.List.{Contains}
use Rattle.std.specs.Cmp.Lexicographic.{nat_list_cmp_total, nat_list_eq_equiv, texts_ties}
use Rattle.clone_server.proofs.Ordered.{same_texts}
use Rattle.clone_server.proofs.names.go_names.Goals as goal

pub returns : goal.returns
returns c =
    let is = dedup_is _ _ _ c.dedup.ensures.filtered in
    let moved = c.sort_unstable.ensures.permutation in
    record {
      sorted = rw is (IsStrictlySortedBy-dedup nat_list_cmp_total texts_ties _ c.sort_unstable.ensures.sorted);
      keeps = λ x h. rw is (Contains-dedup nat_list_eq_equiv same_texts _ x (Contains-permutation _ _ x moved (subst (λ ns. Contains ns x) (sym c.go_files-names.ensures) h)));
      adds_none = λ x h. subst (λ ns. Contains ns x) c.go_files-names.ensures (Contains-permutation _ _ x (IsPermutation-sym _ _ moved) (Contains-from_dedup _ _ x (rw is at h)));
    }
