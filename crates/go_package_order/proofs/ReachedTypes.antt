-- Declared types that stand in types, by numbers of theirs.
use Rattle.std.proofs.Common.{◌≡◌, ℕ, zero, suc, ◌+◌, ◌<◌, ◌≤◌, ◌⊎◌, inl, inr, Bool, true, List, [], ◌∷◌, ◌++◌, length, map, Option, Some, None, refl, ap, sym, subst, ◌∙◌, arith}
use Rattle.std.specs.Prelude.{slice_get, nat_le, max}
use Rattle.std.specs.List.{AllByRecursion}
use Rattle.std.proofs.lemmas.Bool.{leb-true, le-leb, and_parts, cases_lt}
use Rattle.go_types.specs.declared.shape.Field.{Field}
use Rattle.go_types.specs.declared.shape.Shape.{Shape}
use Rattle.go_types.specs.declared.shape.Shape.TheVariants as shape
use Rattle.go_types.specs.Trees.{TypeTree, row}
use Rattle.go_types.specs.Tables.{Table, HasShape, IsTable, HasPartsBelow, tree_at, tree_of, type_below, type_of}
use Rattle.go_types.proofs.Public.{type_of_shape}
use Rattle.go_typed.specs.declared.sort.Sort.{Sort}
use Rattle.go_typed.specs.declared.sort.Sort.TheVariants as sort
use Rattle.go_typed.specs.Views.{sort_seen}
use Rattle.go_types_relations.specs.Questions.{entry}
use Rattle.go_package_laws.specs.Reach.{Within, RowWithin, MaybeWithin, StandsWithin}
use Rattle.go_package_laws.proofs.Public.{within_more}
use Rattle.go_package_defs.specs.Knowledge.{State}
use Rattle.go_package_stages.specs.Numbers.{number_at}
use Rattle.go_package_stages.specs.Marked.{is_reached, AreReached, AreClosed}
use Rattle.go_package_rounds.specs.declared.held.Held.{Held}
use Rattle.go_package_rounds.specs.Held.{Summary, summary, held_seen, all_seen}
use Rattle.go_package_rounds.proofs.Public.{head_same, tail_same}
use Rattle.go_package_order.specs.Progress.{sides}
use Rattle.go_package_order.specs.Reaches.{most_of, shape_reach, sort_reach, AreReaches, is_right_closed, are_closed}

-- ---- greater numbers

reached_more : (reach : List ℕ) (a b : ℕ) → a ≤ b → (t : ℕ) → is_reached reach a t ≡ true → is_reached reach b t ≡ true
reached_more reach a b h t e = let low = leb-true (number_at reach t) a e in le-leb (number_at reach t) b (omega (arith, low, h))

more : (reach : List ℕ) (a b : ℕ) → a ≤ b → (t : TypeTree) → Within (is_reached reach a) t → Within (is_reached reach b) t
more reach a b h t w = within_more (is_reached reach a) (is_reached reach b) (reached_more reach a b h) t w

-- ---- the type of a shape

module _ (reach rs : List ℕ) (g : ℕ → TypeTree) (i : ℕ) (parts : (j : ℕ) → j < i → Within (is_reached reach (number_at rs j)) (g j)) where
  row_within : (k : ℕ) (ps : List ℕ) → AllByRecursion (λ p. p < i) ps → most_of rs ps ≤ k → RowWithin (is_reached reach k) (row (map g ps))
  row_within k [] a h = tt
  row_within k (p ∷ ps) a h = (more reach (number_at rs p) k (omega (arith, h)) (g p) (parts p a.0), row_within k ps a.1 (omega (arith, h)))

  fields_within : (k : ℕ) (fs : List Field) → AllByRecursion (λ p. p < i) (map (λ f. f.ty) fs) → most_of rs (map (λ f. f.ty) fs) ≤ k → RowWithin (is_reached reach k) (row (map (λ f. g f.ty) fs))
  fields_within k [] a h = tt
  fields_within k (f ∷ fs) a h = (more reach (number_at rs f.ty) k (omega (arith, h)) (g f.ty) (parts f.ty a.0), fields_within k fs a.1 (omega (arith, h)))

  left_below : (ps qs : List ℕ) → AllByRecursion (λ p. p < i) (ps ++ qs) → AllByRecursion (λ p. p < i) ps
  left_below [] qs a = tt
  left_below (p ∷ ps) qs a = (a.0, left_below ps qs a.1)

  right_below : (ps qs : List ℕ) → AllByRecursion (λ p. p < i) (ps ++ qs) → AllByRecursion (λ p. p < i) qs
  right_below [] qs a = a
  right_below (p ∷ ps) qs a = right_below ps qs a.1

  itself : (n : ℕ) → nat_le n n ≡ true
  itself n = grind arith

  shape_within : (s : Shape) → HasPartsBelow i s → Within (is_reached reach (shape_reach reach rs s)) (tree_of g s)
  shape_within shape.Bool a = tt
  shape_within shape.Text a = tt
  shape_within (shape.Int k) a = tt
  shape_within (shape.Array n e) a = parts e a.0
  shape_within (shape.Slice e) a = parts e a.0
  shape_within (shape.Struct fs) a = fields_within (most_of rs (map (λ f. f.ty) fs)) fs a (omega arith)
  shape_within (shape.Func ps qs) a =
      let k = max (most_of rs ps) (most_of rs qs) in
      (row_within k ps (left_below ps qs a) (omega arith), row_within k qs (right_below ps qs a) (omega arith))
  shape_within (shape.Named n) a = itself (number_at reach n)

-- ---- one type more

abbrev pub Below : List ℕ → List Shape → List ℕ → ℕ → Type 0
Below reach shapes rs n = (j : ℕ) → j < n → Within (is_reached reach (number_at rs j)) (type_of shapes j)

number_front : (rs : List ℕ) (x j : ℕ) → j < length rs → number_at (rs ++ x ∷ []) j ≡ number_at rs j
number_front [] x j h = absurd (omega (arith, h))
number_front (r ∷ rs) x zero h = refl
number_front (r ∷ rs) x (suc j) h = number_front rs x j (let l : j < length rs = omega (arith, h) in l)

number_last : (rs : List ℕ) (x : ℕ) → number_at (rs ++ x ∷ []) (length rs) ≡ x
number_last [] x = refl
number_last (r ∷ rs) x = number_last rs x

pub one_more : (reach : List ℕ) (t : Table) (rs zs : List ℕ) (i : ℕ) (s : Shape) → IsTable t → HasShape t i s → length rs ≡ i → zs ≡ rs ++ shape_reach reach rs s ∷ [] → Below reach t.shapes rs i → Below reach t.shapes zs (i + 1)
one_more reach t rs zs i s ok has many e below j h = on (cases_lt j i)
  where
    on : (j < i) ⊎ (i ≤ j) → Within (is_reached reach (number_at zs j)) (type_of t.shapes j)
    on (inl l) =
        let same : number_at zs j ≡ number_at rs j = ap (λ ys. number_at ys j) e ∙ number_front rs (shape_reach reach rs s) j (let k : j < length rs = omega (arith, l, many) in k) in
        subst (λ k. Within (is_reached reach k) (type_of t.shapes j)) (sym same) (below j l)
    on (inr l) =
        let here : length rs ≡ j = omega (arith, l, h, many) in
        let same : number_at zs j ≡ shape_reach reach rs s = ap (λ ys. number_at ys j) e ∙ ap (λ k. number_at (rs ++ shape_reach reach rs s ∷ []) k) (sym here) ∙ number_last rs (shape_reach reach rs s) in
        let at : i ≡ j = sym many ∙ here in
        subst (λ k. Within (is_reached reach k) (type_of t.shapes j)) (sym same)
        (subst (λ k. Within (is_reached reach (shape_reach reach rs s)) (type_of t.shapes k)) at
        (subst (Within (is_reached reach (shape_reach reach rs s))) (sym (type_of_shape t.shapes ok.parts_below i s has))
        (shape_within reach rs (type_of t.shapes) i below s (ok.parts_below i s has))))

none_there : (shapes : List Shape) (i : ℕ) → length shapes ≤ i → slice_get shapes i ≡ None
none_there [] i h = refl
none_there (s ∷ ss) zero h = absurd (omega (arith, h))
none_there (s ∷ ss) (suc i) h = none_there ss i (let l : length ss ≤ i = omega (arith, h) in l)

no_type : (p : ℕ → Bool) (shapes : List Shape) (i : ℕ) → length shapes ≤ i → Within p (type_of shapes i)
unfolding type_of type_below
no_type p shapes i h = subst (λ o. Within p (tree_at (type_below i shapes) o)) (sym (none_there shapes i h)) tt

-- all types
pub all_reaches : (reach : List ℕ) (shapes : List Shape) (rs : List ℕ) (n : ℕ) → length shapes ≤ n → Below reach shapes rs n → AreReaches reach shapes rs
all_reaches reach shapes rs n h below i = on (cases_lt i n)
  where
    on : (i < n) ⊎ (n ≤ i) → Within (is_reached reach (number_at rs i)) (type_of shapes i)
    on (inl l) = below i l
    on (inr l) = no_type (is_reached reach (number_at rs i)) shapes i (omega (arith, h, l))

-- ---- what objects stand for

module _ (reach : List ℕ) (t : Table) (rs : List ℕ) (are : AreReaches reach t.shapes rs) where
  sort_within : (x : Sort) → StandsWithin (is_reached reach (sort_reach rs x)) (sort_seen t x)
  sort_within (sort.Type i) = are i
  sort_within (sort.Value i) = are i
  sort_within (sort.Constant i c) = are i
  sort_within (sort.Results i) = are i
  sort_within sort.Nothing = tt
  sort_within sort.Unknown = tt
  sort_within sort.Blank = tt
  sort_within sort.Nil = tt
  sort_within (sort.Builtin b) = tt
  sort_within sort.Println = tt
  sort_within sort.Package = tt
  sort_within (sort.Open u) = tt
  sort_within (sort.OpenConstant c) = tt

  pub held_reached : (hs : List Held) (ss : List State) → all_seen t hs ≡ map summary ss → AreReached reach (map (λ h. sort_reach rs h.stands) hs) ss
  held_reached [] [] e n = tt
  held_reached [] (s ∷ ss) e n = absurd cc
  held_reached (h ∷ hs) [] e n = absurd cc
  held_reached (h ∷ hs) (s ∷ ss) e zero =
      subst (StandsWithin (is_reached reach (sort_reach rs h.stands))) (ap (λ (z : Summary). z.stands) (head_same (held_seen t h) (summary s) (all_seen t hs) (map summary ss) e)) (sort_within h.stands)
  held_reached (h ∷ hs) (s ∷ ss) e (suc n) = held_reached hs ss (tail_same (held_seen t h) (summary s) (all_seen t hs) (map summary ss) e) n

  -- ---- right sides

  right_within : (n : ℕ) (o : Option ℕ) → is_right_closed reach rs n o ≡ true → MaybeWithin (is_reached reach (number_at reach n)) (entry (sides t (o ∷ [])) 0)
  right_within n None e = tt
  right_within n (Some i) e = more reach (number_at rs i) (number_at reach n) (leb-true (number_at rs i) (number_at reach n) e) (type_of t.shapes i) (are i)

  rights_from : (n : ℕ) (os : List (Option ℕ)) → are_closed reach rs n os ≡ true → (u : ℕ) → MaybeWithin (is_reached reach (number_at reach (u + n))) (entry (sides t os) u)
  rights_from n [] e u = tt
  rights_from n (o ∷ os) e zero =
      let at : n ≡ 0 + n = omega arith in
      subst (λ k. MaybeWithin (is_reached reach (number_at reach k)) (entry (sides t (o ∷ [])) 0)) at (right_within n o (and_parts (is_right_closed reach rs n o) (are_closed reach rs (suc n) os) e).0)
  rights_from n (o ∷ os) e (suc u) =
      let at : u + suc n ≡ suc u + n = omega arith in
      subst (λ k. MaybeWithin (is_reached reach (number_at reach k)) (entry (sides t os) u)) at (rights_from (suc n) os (and_parts (is_right_closed reach rs n o) (are_closed reach rs (suc n) os) e).1 u)

  pub rights_closed : (os : List (Option ℕ)) → are_closed reach rs 0 os ≡ true → AreClosed reach (sides t os)
  rights_closed os e u =
      let at : u + 0 ≡ u = omega arith in
      subst (λ k. MaybeWithin (is_reached reach (number_at reach k)) (entry (sides t os) u)) at (rights_from 0 os e u)
