-- Specifications lie inside their declarations.
use Rattle.std.proofs.Common.{◌≡◌, ℕ, suc, ◌-◌, ◌<◌, ◌≤◌, true, List, [], ◌∷◌, Option, Some, None, refl, arith}
use Rattle.go_grammar.specs.declared.kind.Kind.{Kind}
use Rattle.go_grammar.specs.declared.kind.Kind.TheVariants as kind
use Rattle.go_grammar.specs.declared.kind.Sort.{Sort}
use Rattle.go_grammar.specs.declared.kind.Sort.TheVariants as declaring
use Rattle.go_grammar.specs.Trees.{Tree, node, Trees, none, more, skip, kind_of, first, last}
use Rattle.go_rewriting.specs.Lists.{InOrder, Ordered}
use Rattle.go_rewriting.specs.Places.{carry, carries}
use Rattle.go_rewriting.proofs.Public.{row_order}
use Rattle.go_tree.specs.Lists.{is_function}
use Rattle.go_stmts_defs.specs.Reading.{part_source}
use Rattle.go_package_defs.specs.Declarations.{Specification, trees_of, first_tokens, name_tokens, listed_values, type_behind, values_behind, first_part, specification_of, source_behind, grouped, declared, declaration}
use Rattle.go_heads_types.specs.Specifications.{Inside, MaybeInside, AllInside, AllBelow, LiesIn}

-- ---- trees counted from an earlier token

last_less : (a : ℕ) (t : Tree) → last (carry (λ n. n - a) t) ≡ last t - a
last_less a (node k i j ps) = refl

mutual
  pub order_less : (a : ℕ) (t : Tree) → InOrder t → a ≤ first t → InOrder (carry (λ n. n - a) t)
  order_less a (node k i j ps) h le = (omega (arith, h.0, le), row_less a ps i j h.1 le)

  row_less : (a : ℕ) (ps : Trees) (i j : ℕ) → Ordered i ps j → a ≤ i → Ordered (i - a) (carries (λ n. n - a) ps) (j - a)
  row_less a none i j h le = omega (arith, h)
  row_less a (more (node k x y qs) ps) i j h le =
      let in_t : x < y = h.1.0 in
      (omega (arith, h.0), order_less a (node k x y qs) h.1 (omega (arith, h.0, le)), row_less a ps y j h.2 (omega (arith, h.0, le, in_t)))
  row_less a (skip ps) i j h le = row_less a ps i j h le

-- ---- parts

module _ (w : ℕ) where
  abbrev RowInside : Trees → Type 0
  RowInside none = Unit {0}
  RowInside (more p ps) = Inside w p × RowInside ps
  RowInside (skip ps) = RowInside ps

  row_inside : (ps : Trees) (i j : ℕ) → Ordered i ps j → j ≤ w → RowInside ps
  row_inside none i j h le = tt
  row_inside (more p ps) i j h le = ((h.1, omega (arith, row_order ps (last p) j h.2, le)), row_inside ps (last p) j h.2 le)
  row_inside (skip ps) i j h le = row_inside ps i j h le

  parts_inside : (k : Kind) (i j : ℕ) (ps : Trees) → Inside w (node k i j ps) → RowInside ps
  parts_inside k i j ps h = row_inside ps i j h.0.1 h.1

  trees_inside : (ps : Trees) → RowInside ps → AllInside w (trees_of ps)
  trees_inside none h = tt
  trees_inside (more p ps) h = (h.0, trees_inside ps h.1)
  trees_inside (skip ps) h = trees_inside ps h

  firsts_below : (ps : Trees) → RowInside ps → AllBelow w (first_tokens ps)
  firsts_below none h = tt
  firsts_below (more (node k i j qs) ps) h = (omega (arith, h.0.0.0, h.0.1), firsts_below ps h.1)
  firsts_below (skip ps) h = firsts_below ps h

  names_below : (ps : Trees) → RowInside ps → AllBelow w (name_tokens ps)
  names_below none h = tt
  names_below (more (node k i j qs) ps) h = firsts_below qs (parts_inside k i j qs h.0)
  names_below (skip ps) h = tt

  listed_inside : (ps : Trees) → RowInside ps → AllInside w (listed_values ps)
  listed_inside none h = tt
  listed_inside (more (node k i j qs) ps) h = trees_inside qs (parts_inside k i j qs h.0)
  listed_inside (skip ps) h = tt

  first_inside : (ps : Trees) → RowInside ps → MaybeInside w (first_part ps)
  first_inside none h = tt
  first_inside (more p ps) h = h.0
  first_inside (skip ps) h = tt

  type_inside : (r : Option Tree) → MaybeInside w r → MaybeInside w (type_behind r)
  type_inside None h = tt
  type_inside (Some (node kind.Values i j ps)) h = tt
  type_inside (Some (node kind.TypedValues i j none)) h = h
  type_inside (Some (node kind.TypedValues i j (more t ps))) h = (parts_inside kind.TypedValues i j (more t ps) h).0
  type_inside (Some (node kind.TypedValues i j (skip ps))) h = h
  type_inside (Some (node k i j ps)) h = h

  values_inside : (r : Option Tree) → MaybeInside w r → AllInside w (values_behind r)
  values_inside None h = tt
  values_inside (Some (node kind.Values i j ps)) h = listed_inside ps (parts_inside kind.Values i j ps h)
  values_inside (Some (node kind.TypedValues i j none)) h = tt
  values_inside (Some (node kind.TypedValues i j (more t ps))) h = listed_inside ps (parts_inside kind.TypedValues i j (more t ps) h).1
  values_inside (Some (node kind.TypedValues i j (skip ps))) h = tt
  values_inside (Some (node k i j ps)) h = tt

  source_inside : (ps : Trees) (r : Option Tree) → RowInside ps → MaybeInside w r → MaybeInside w (part_source ps r)
  source_inside none r h g = g
  source_inside (skip ps) r h g = g
  source_inside (more ns none) r h g = g
  source_inside (more ns (skip ps)) r h g = g
  source_inside (more ns (more t none)) r h g = h.1.0
  source_inside (more ns (more t (more u ps))) r h g = g
  source_inside (more ns (more t (skip ps))) r h g = g

  -- ---- specifications

  -- specifications of the file n
  abbrev pub AllLie : ℕ → List Specification → Type 0
  AllLie n [] = Unit {0}
  AllLie n (d ∷ ds) = (LiesIn w d × (d.file ≡ n)) × AllLie n ds

  one_lies : (n : ℕ) (s : Sort) (k : ℕ) (r : Option Tree) (t : Tree) → Inside w t → MaybeInside w r → LiesIn w (specification_of n s k r t) × ((specification_of n s k r t).file ≡ n)
  one_lies n declaring.Type k r (node l i j ps) h g = (record { names = (omega (arith, h.0.0, h.1), tt); type_tree = first_inside ps (parts_inside l i j ps h); values = tt }, refl)
  one_lies n s k r (node l i j ps) h g =
      let rows = parts_inside l i j ps h in
      let source = source_inside ps r rows g in
      (record { names = names_below ps rows; type_tree = type_inside (part_source ps r) source; values = values_inside (part_source ps r) source }, refl)

  behind_inside : (r : Option Tree) (t : Tree) → Inside w t → MaybeInside w r → MaybeInside w (source_behind r t)
  behind_inside r (node l i j ps) h g = source_inside ps r (parts_inside l i j ps h) g

  grouped_lie : (n : ℕ) (s : Sort) (k : ℕ) (r : Option Tree) (ps : Trees) → RowInside ps → MaybeInside w r → AllLie n (grouped n s k r ps)
  grouped_lie n s k r none h g = tt
  grouped_lie n s k r (more p ps) h g = (one_lies n s k r p h.0 g, grouped_lie n s (suc k) (source_behind r p) ps h.1 (behind_inside r p h.0 g))
  grouped_lie n s k r (skip ps) h g = grouped_lie n s k r ps h g

  declared_lie : (n : ℕ) (s : Sort) (ps : Trees) → RowInside ps → AllLie n (declared n s ps)
  declared_lie n s none h = tt
  declared_lie n s (skip ps) h = grouped_lie n s 0 None (skip ps) h tt
  declared_lie n s (more (node (kind.Group g) i j qs) none) h = grouped_lie n s 0 None qs (parts_inside (kind.Group g) i j qs h.0) tt
  declared_lie n s (more (node (kind.Group g) i j qs) (more q ps)) h = grouped_lie n s 0 None (more (node (kind.Group g) i j qs) (more q ps)) h tt
  declared_lie n s (more (node (kind.Group g) i j qs) (skip ps)) h = grouped_lie n s 0 None (more (node (kind.Group g) i j qs) (skip ps)) h tt
  declared_lie n s (more (node k i j qs) ps) h = grouped_lie n s 0 None (more (node k i j qs) ps) h tt

  -- a function's name is its second token, so it needs two
  pub declaration_lies : (n : ℕ) (t : Tree) → Inside w t → (is_function (kind_of t) ≡ true → suc (first t) < w) → AllLie n (declaration n t)
  declaration_lies n (node (kind.Declaration s) i j ps) h lt = declared_lie n s ps (parts_inside (kind.Declaration s) i j ps h)
  declaration_lies n (node kind.FunctionDeclaration i j ps) h lt = ((record { names = (lt refl, tt); type_tree = first_inside ps (parts_inside kind.FunctionDeclaration i j ps h); values = tt }, refl), tt)
  declaration_lies n (node k i j ps) h lt = tt
