-- The count of scalars that is found out is the one of the definition, and there is one alone.
use Rattle.std.proofs.Common.{◌≡◌, ℕ, zero, suc, ◌+◌, List, [], ◌∷◌, Some, map, take, length, refl, sym, ◌∙◌, ap, subst, arith, Bool}
use Rattle.std.specs.Prelude.{slice_get, max}
use Rattle.go_types.specs.declared.shape.Field.{Field}
use Rattle.go_types.specs.declared.shape.Shape.{Shape}
use Rattle.go_types.specs.declared.shape.Shape.TheVariants as shape
use Rattle.go_types.specs.Trees.{TypeTree, boolean, text, integer, array, slice, structure, function, declared, TypeRow, none, more, row}
use Rattle.go_types.specs.Relations.{Rights, HasRight, Scalars, of_boolean, of_text, of_integer, of_slice, of_structure, of_function, RowScalars, array_scalars}
use Rattle.go_types.specs.Relations as relations
use Rattle.go_types.specs.Tables.{Table, IsTable, tree_of, type_of, rights_of}
use Rattle.go_types.specs.Verdicts.{plain, Judged, by_shape, ShapeJudged, of_plain, of_array, of_struct, of_right, FieldsJudged, of_none, of_more}
use Rattle.go_types.proofs.Countings.{take_whole}
use Rattle.go_types.proofs.NumberedTypes.{type_of_shape}
use Rattle.go_types.proofs.Underlyings.{right_type, same_right}

-- ---- one count alone

module _ (rights : Rights) where
  -- what has to be counted before a type
  abbrev CountsTo : TypeTree → ℕ → Type 0
  CountsTo (array k t) m = (n : ℕ) × Scalars rights t n × (m ≡ array_scalars k n)
  CountsTo (structure names ts) m = (n : ℕ) × RowScalars rights ts n × (m ≡ max 1 n)
  CountsTo (declared k) m = (r : TypeTree) × HasRight rights k r × Scalars rights r m
  CountsTo _ m = m ≡ 1

  abbrev RowCountsTo : TypeRow → ℕ → Type 0
  RowCountsTo none m = m ≡ 0
  RowCountsTo (more t ts) m = (here : ℕ) × (there : ℕ) × Scalars rights t here × RowScalars rights ts there × (m ≡ here + there)

  counts_to : (t : TypeTree) (m : ℕ) → Scalars rights t m → CountsTo t m
  counts_to t m of_boolean = refl
  counts_to t m of_text = refl
  counts_to t m (of_integer _) = refl
  counts_to t m (relations.of_array k u n s) = (n, s, refl)
  counts_to t m (of_slice _) = refl
  counts_to t m (of_structure names ts n s) = (n, s, refl)
  counts_to t m (of_function _ _) = refl
  counts_to t m (relations.of_right k r _ h s) = (r, h, s)

  row_counts_to : (ts : TypeRow) (m : ℕ) → RowScalars rights ts m → RowCountsTo ts m
  row_counts_to ts m relations.of_none = refl
  row_counts_to ts m (relations.of_more t us here there s r) = (here, there, s, r, refl)

  mutual
    pub one_count : (t : TypeTree) (n m : ℕ) → Scalars rights t n → Scalars rights t m → n ≡ m
    one_count t n m of_boolean s = sym (counts_to boolean m s)
    one_count t n m of_text s = sym (counts_to text m s)
    one_count t n m (of_integer k) s = sym (counts_to (integer k) m s)
    one_count t n m (relations.of_array k u l d) s =
        let other = counts_to (array k u) m s in
        ap (array_scalars k) (one_count u l other.0 d other.1) ∙ sym other.2
    one_count t n m (of_slice u) s = sym (counts_to (slice u) m s)
    one_count t n m (of_structure names ts l d) s =
        let other = counts_to (structure names ts) m s in
        ap (max 1) (one_row_count ts l other.0 d other.1) ∙ sym other.2
    one_count t n m (of_function ps rs) s = sym (counts_to (function ps rs) m s)
    one_count t n m (relations.of_right k r _ h d) s =
        let other = counts_to (declared k) m s in
        one_count r n m d (subst (λ x. Scalars rights x m) (same_right rights k other.0 r other.1 h) other.2)

    one_row_count : (ts : TypeRow) (n m : ℕ) → RowScalars rights ts n → RowScalars rights ts m → n ≡ m
    one_row_count ts n m relations.of_none s = sym (row_counts_to none m s)
    one_row_count ts n m (relations.of_more t us here there d ds) s =
        let other = row_counts_to (more t us) m s in
        let first = one_count t here other.0 d other.2 in
        let rest = one_row_count us there other.1 ds other.3 in
        let all = other.4 in
        omega (arith, first, rest, all)

  -- ---- one type more

  pub row_longer : (f : Field → TypeTree) (fs : List Field) (k : ℕ) (x : Field) (n m : ℕ) → slice_get fs k ≡ Some x → RowScalars rights (row (map f (take k fs))) n → Scalars rights (f x) m → RowScalars rights (row (map f (take (suc k) fs))) (n + m)
  row_longer f [] k x n m e s d = cc
  row_longer f (y ∷ ys) zero x n m e s d =
      let same : x ≡ y = cc in
      let nothing : n ≡ 0 = row_counts_to none n s in
      let total : m + 0 ≡ n + m = omega (arith, nothing) in
      subst (RowScalars rights (more (f y) none)) total (relations.of_more (f y) none m 0 (subst (λ z. Scalars rights (f z) m) same d) relations.of_none)
  row_longer f (y ∷ ys) (suc k) x n m e s d =
      let parts = row_counts_to (row (map f (take (suc k) (y ∷ ys)))) n s in
      let all = parts.4 in
      let here = parts.0 in
      let there = parts.1 in
      let total : here + (there + m) ≡ n + m = omega (arith, all) in
      subst (RowScalars rights (row (map f (take (suc (suc k)) (y ∷ ys))))) total
      (relations.of_more (f y) (row (map f (take (suc k) ys))) here (there + m) parts.2 (row_longer f ys k x there m e parts.3 d))

-- ---- the count that is found out

module _ (t : Table) (ok : IsTable t) where
  plain_counts : (s : Shape) (c : Bool) → plain s ≡ Some c → Scalars (rights_of t) (tree_of (type_of t.shapes) s) 1
  plain_counts shape.Bool c e = of_boolean
  plain_counts shape.Text c e = of_text
  plain_counts (shape.Int k) c e = of_integer k
  plain_counts (shape.Slice d) c e = of_slice (type_of t.shapes d)
  plain_counts (shape.Func ps rs) c e = of_function (row (map (type_of t.shapes) ps)) (row (map (type_of t.shapes) rs))
  plain_counts (shape.Array _ _) c e = cc
  plain_counts (shape.Struct _) c e = cc
  plain_counts (shape.Named _) c e = cc

  abbrev type_in : Field → TypeTree
  type_in f = type_of t.shapes f.ty

  mutual
    pub judged_counts : (i : ℕ) (c : Bool) (n : ℕ) → Judged t i c n → Scalars (rights_of t) (type_of t.shapes i) n
    judged_counts i c n (by_shape _ s _ _ e j) = subst (λ x. Scalars (rights_of t) x n) (sym (type_of_shape t.shapes ok.parts_below i s e)) (shape_counts s c n j)

    shape_counts : (s : Shape) (c : Bool) (n : ℕ) → ShapeJudged t s c n → Scalars (rights_of t) (tree_of (type_of t.shapes) s) n
    shape_counts s c n (of_plain _ _ q) = plain_counts s c q
    shape_counts s c n (of_array k d _ m j) = relations.of_array k (type_of t.shapes d) m (judged_counts d c m j)
    shape_counts s c n (of_struct fs _ m j) =
        let whole = ap (λ l. row (map type_in l)) (take_whole fs) in
        of_structure (map (λ f. f.name) fs) (row (map type_in fs)) m (subst (λ x. RowScalars (rights_of t) x m) whole (fields_count fs (length fs) c m j))
    shape_counts s c n (of_right m r _ _ h j) = relations.of_right m (type_of t.shapes r) n (right_type t m r h) (judged_counts r c n j)

    fields_count : (fs : List Field) (k : ℕ) (c : Bool) (n : ℕ) → FieldsJudged t fs k c n → RowScalars (rights_of t) (row (map type_in (take k fs))) n
    fields_count fs k c n (of_none _) = relations.of_none
    fields_count fs k c n (of_more _ l x c' d n' m js e j) = row_longer (rights_of t) type_in fs l x n' m e (fields_count fs l c' n' js) (judged_counts x.ty d m j)
