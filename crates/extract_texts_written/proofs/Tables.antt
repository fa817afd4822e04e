-- The types of a table name declared types that it has.
use Rattle.std.proofs.Common.{◌≡◌, ℕ, zero, suc, ◌<◌, Bool, true, List, [], ◌∷◌, map, length, take, Option, Some, None, count_by, refl, ap, cond, arith}
use Rattle.std.specs.Prelude.{nat_lt, slice_get}
use Rattle.std.specs.List.{AllByRecursion}
use Rattle.std.proofs.lemmas.Bool.{lt-ltb}
use Rattle.std.proofs.lemmas.List.Sums.{sum_by-cons}
use Rattle.go_types.specs.declared.shape.Shape.{Shape}
use Rattle.go_types.specs.declared.shape.Shape.TheVariants as shape
use Rattle.go_types.specs.Tables.{Table, tree_of, tree_at, type_below, type_of, is_declaration, IsTable}
use Rattle.go_types.specs.Trees.{TypeTree, row}
use Rattle.go_typed.specs.Trees.{Sort, Typed, typed, Typeds, SortHas, Every, EveryPart, sort_mapped, mapped, all_mapped}
use Rattle.go_typed.specs.Trees as trees
use Rattle.go_package_laws.specs.Reach.{Within, RowWithin}

abbrev pub below : ℕ → ℕ → Bool
below n m = nat_lt m n

counted : (ss : List Shape) (i n : ℕ) → slice_get ss i ≡ Some (shape.Named n) → count_by is_declaration (take i ss) < count_by is_declaration ss
counted [] i n e = absurd cc
counted (s ∷ ss) zero n e =
    let same : s ≡ shape.Named n = cc in
    let one : ◌≡◌ {A = ℕ} (cond (is_declaration s) 1 0) 1 = ap (λ z. cond (is_declaration z) 1 0) same in
    let all = sum_by-cons (λ z. cond (is_declaration z) 1 0) s ss in
    omega (arith, one, all)
counted (s ∷ ss) (suc i) n e =
    let l = counted ss i n e in
    let front = sum_by-cons (λ z. cond (is_declaration z) 1 0) s (take i ss) in
    let all = sum_by-cons (λ z. cond (is_declaration z) 1 0) s ss in
    omega (arith, l, front, all)

module _ (t : Table) (h : IsTable t) where
  abbrev Has : TypeTree → Type 0
  Has x = Within (below (length t.rights)) x

  named_below : (i n : ℕ) → slice_get t.shapes i ≡ Some (shape.Named n) → nat_lt n (length t.rights) ≡ true
  named_below i n e =
      let at = h.numbered i n e in
      let many = h.declarations in
      let l = counted t.shapes i n e in
      lt-ltb n (length t.rights) (omega (arith, at, many, l))

  row_has : (ts : List TypeTree) → AllByRecursion Has ts → RowWithin (below (length t.rights)) (row ts)
  row_has [] w = tt
  row_has (x ∷ ts) w = (w.0, row_has ts w.1)

  all_have : {A : Type 0} (f : A → TypeTree) (xs : List A) → ((x : A) → Has (f x)) → AllByRecursion Has (map f xs)
  all_have f [] w = tt
  all_have f (x ∷ xs) w = (w x, all_have f xs w)

  tree_has : (g : ℕ → TypeTree) → ((i : ℕ) → Has (g i)) → (i : ℕ) (s : Shape) → slice_get t.shapes i ≡ Some s → Has (tree_of g s)
  tree_has g w i shape.Bool e = tt
  tree_has g w i shape.Text e = tt
  tree_has g w i (shape.Int k) e = tt
  tree_has g w i (shape.Array n x) e = w x
  tree_has g w i (shape.Slice x) e = w x
  tree_has g w i (shape.Struct fs) e = row_has (map (λ f. g f.ty) fs) (all_have (λ f. g f.ty) fs (λ f. w f.ty))
  tree_has g w i (shape.Func ps rs) e = (row_has (map g ps) (all_have g ps w), row_has (map g rs) (all_have g rs w))
  tree_has g w i (shape.Named n) e = named_below i n e

  at_has : (g : ℕ → TypeTree) → ((i : ℕ) → Has (g i)) → (i : ℕ) (o : Option Shape) → slice_get t.shapes i ≡ o → Has (tree_at g o)
  at_has g w i None e = tt
  at_has g w i (Some s) e = tree_has g w i s e

  below_has : (n i : ℕ) → Has (type_below n t.shapes i)
  unfolding type_below
  below_has zero i = tt
  below_has (suc n) i = at_has (type_below n t.shapes) (below_has n) i (slice_get t.shapes i) refl

  -- each type of the table
  pub type_has : (i : ℕ) → Has (type_of t.shapes i)
  unfolding type_of
  type_has i = below_has (suc i) i

  pub sort_has : (x : Sort ℕ) → SortHas Has (sort_mapped (type_of t.shapes) x)
  sort_has (trees.IsType i) = type_has i
  sort_has (trees.Value i) = type_has i
  sort_has (trees.Constant i c) = type_has i
  sort_has (trees.Results i) = type_has i
  sort_has x = tt

  mutual
    pub node_has : (x : Typed ℕ) → Every Has (mapped (type_of t.shapes) x)
    node_has (typed f i j l ps) = (sort_has l.sort, parts_have ps)

    parts_have : (ps : Typeds ℕ) → EveryPart Has (all_mapped (type_of t.shapes) ps)
    parts_have trees.none = tt
    parts_have (trees.more p ps) = (node_has p, parts_have ps)
    parts_have (trees.skip ps) = parts_have ps
