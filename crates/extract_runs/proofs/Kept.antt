-- Where declared types keep their numbers, plans stay.
use Rattle.std.proofs.Common.{◌≡◌, ◌∙◌, ℕ, refl, ap}
use Rattle.go_types.specs.Trees.{TypeTree, boolean, text, integer, array, slice, structure, function, declared, TypeRow}
use Rattle.go_types.specs.Trees as types
use Rattle.go_types.specs.Relations.{Rights}
use Rattle.go_types_relations.specs.Renaming.{renamed, renamed_row}
use Rattle.go_types_relations.specs.Zeros.{zero_of}
use Rattle.go_typed.specs.declared.form.Referent.{Referent}
use Rattle.go_typed.specs.Trees.{Sort, IsType, Value, Constant, Results, Label, Typed, typed, Typeds, none, more, skip, sort_mapped, label_mapped, mapped, all_mapped}
use Rattle.go_meaning.specs.Planning.{plan}
use Rattle.extract_trees.specs.Numberings.{Numbering}
use Rattle.extract_runs.specs.Renumbering.{referent_moved, Renumbers}

module _ (name : ℕ → ℕ) (kept : (n : ℕ) → name n ≡ n) where
  mutual
    type_kept : (t : TypeTree) → renamed name t ≡ t
    type_kept boolean = refl
    type_kept text = refl
    type_kept (integer k) = refl
    type_kept (array n t) = ap (array n) (type_kept t)
    type_kept (slice t) = ap slice (type_kept t)
    type_kept (structure ns ts) = ap (structure ns) (row_kept ts)
    type_kept (function ps rs) = ap (λ x. function x (renamed_row name rs)) (row_kept ps) ∙ ap (function ps) (row_kept rs)
    type_kept (declared n) = ap declared (kept n)

    row_kept : (ts : TypeRow) → renamed_row name ts ≡ ts
    row_kept types.none = refl
    row_kept (types.more t ts) = ap (λ x. types.more x (renamed_row name ts)) (type_kept t) ∙ ap (types.more t) (row_kept ts)

  sort_kept : (s : Sort TypeTree) → sort_mapped (renamed name) s ≡ s
  sort_kept (IsType t) = ap IsType (type_kept t)
  sort_kept (Value t) = ap Value (type_kept t)
  sort_kept (Constant t c) = ap (λ x. Constant x c) (type_kept t)
  sort_kept (Results t) = ap Results (type_kept t)
  sort_kept s = refl

  label_kept : (l : Label TypeTree) → label_mapped (renamed name) l ≡ l
  label_kept l = ap (λ s. record l { sort = s }) (sort_kept l.sort)

  mutual
    tree_kept : (t : Typed TypeTree) → mapped (renamed name) t ≡ t
    tree_kept (typed f i j l ps) = ap (λ x. typed f i j x (all_mapped (renamed name) ps)) (label_kept l) ∙ ap (typed f i j l) (trees_kept ps)

    trees_kept : (ps : Typeds TypeTree) → all_mapped (renamed name) ps ≡ ps
    trees_kept none = refl
    trees_kept (more p ps) = ap (λ x. more x (all_mapped (renamed name) ps)) (tree_kept p) ∙ ap (more p) (trees_kept ps)
    trees_kept (skip ps) = ap skip (trees_kept ps)

pub kept_types : (c : Numbering) (s : ℕ → ℕ) (rights : Rights) → ((r : Referent) → c.referent r ≡ referent_moved s r) → ((n : ℕ) → c.type n ≡ n) → Renumbers c s rights rights
kept_types c s rights referents kept = record {
  referents = referents;
  zero = λ t. ap (zero_of rights) (type_kept c.type kept t);
  plans = λ f l ps. ap (λ x. plan rights f x (all_mapped (renamed c.type) ps)) (label_kept c.type kept l) ∙ ap (plan rights f l) (trees_kept c.type kept ps);
}
