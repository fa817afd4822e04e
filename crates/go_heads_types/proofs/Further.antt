-- Specifications of declarations whose tokens stand elsewhere.
use Rattle.std.proofs.Common.{◌≡◌, ◌∙◌, ℕ, suc, ◌+◌, List, [], ◌∷◌, map, Option, Some, None, refl, sym, ap, subst, arith}
use Rattle.std.specs.Prelude.{option_map}
use Rattle.go_grammar.specs.declared.kind.Kind.TheVariants as kind
use Rattle.go_grammar.specs.declared.kind.Sort.{Sort}
use Rattle.go_grammar.specs.declared.kind.Sort.TheVariants as declaring
use Rattle.go_grammar.specs.Trees.{Tree, node, Trees, none, more, skip}
use Rattle.go_rewriting.specs.Places.{carry, carries}
use Rattle.go_tree.specs.declared.context.Entity.{Entity}
use Rattle.go_tree.specs.declared.context.Entity.TheVariants as entity
use Rattle.go_stmts_defs.specs.Reading.{part_source}
use Rattle.go_heads.specs.Heads.{without_body}
use Rattle.go_package_defs.specs.Declarations.{Specification, trees_of, first_tokens, name_tokens, listed_values, type_behind, values_behind, first_part, specification_of, source_behind, grouped, declared, declaration}
use Rattle.go_heads_types.specs.Same.{IsFurther}

module _ (f : ℕ → ℕ) where
  abbrev optional : Option Tree → Option Tree
  optional o = option_map (carry f) o

  abbrev elsewhere : Specification → Specification
  elsewhere d = record {
    entity = d.entity;
    file = d.file;
    first = f d.first;
    last = f d.last;
    iota = d.iota;
    names = map f d.names;
    type_tree = optional d.type_tree;
    values = map (carry f) d.values;
    tree = optional d.tree;
  }

  trees_kept : (ps : Trees) → trees_of (carries f ps) ≡ map (carry f) (trees_of ps)
  trees_kept none = refl
  trees_kept (more p ps) = ap (λ ts. carry f p ∷ ts) (trees_kept ps)
  trees_kept (skip ps) = trees_kept ps

  firsts_kept : (ps : Trees) → first_tokens (carries f ps) ≡ map f (first_tokens ps)
  firsts_kept none = refl
  firsts_kept (more (node k i j qs) ps) = ap (λ ns. f i ∷ ns) (firsts_kept ps)
  firsts_kept (skip ps) = firsts_kept ps

  names_kept : (ps : Trees) → name_tokens (carries f ps) ≡ map f (name_tokens ps)
  names_kept none = refl
  names_kept (more (node k i j qs) ps) = firsts_kept qs
  names_kept (skip ps) = refl

  listed_kept : (ps : Trees) → listed_values (carries f ps) ≡ map (carry f) (listed_values ps)
  listed_kept none = refl
  listed_kept (more (node k i j qs) ps) = trees_kept qs
  listed_kept (skip ps) = refl

  type_kept : (r : Option Tree) → type_behind (optional r) ≡ optional (type_behind r)
  type_kept None = refl
  type_kept (Some (node kind.Values i j ps)) = refl
  type_kept (Some (node kind.TypedValues i j none)) = refl
  type_kept (Some (node kind.TypedValues i j (more t ps))) = refl
  type_kept (Some (node kind.TypedValues i j (skip ps))) = refl
  type_kept (Some (node k i j ps)) = refl

  values_kept : (r : Option Tree) → values_behind (optional r) ≡ map (carry f) (values_behind r)
  values_kept None = refl
  values_kept (Some (node kind.Values i j ps)) = listed_kept ps
  values_kept (Some (node kind.TypedValues i j none)) = refl
  values_kept (Some (node kind.TypedValues i j (more t ps))) = listed_kept ps
  values_kept (Some (node kind.TypedValues i j (skip ps))) = refl
  values_kept (Some (node k i j ps)) = refl

  source_kept : (ps : Trees) (r : Option Tree) → part_source (carries f ps) (optional r) ≡ optional (part_source ps r)
  source_kept none r = refl
  source_kept (skip ps) r = refl
  source_kept (more ns none) r = refl
  source_kept (more ns (skip ps)) r = refl
  source_kept (more ns (more t none)) r = refl
  source_kept (more ns (more t (more u ps))) r = refl
  source_kept (more ns (more t (skip ps))) r = refl

  first_kept : (ps : Trees) → first_part (carries f ps) ≡ optional (first_part ps)
  first_kept none = refl
  first_kept (more p ps) = refl
  first_kept (skip ps) = refl

  module _ (n : ℕ) where
    abbrev made : Entity → ℕ → Tree → ℕ → ℕ → List ℕ → Option Tree → List Tree → Specification
    made e k t i j ns o vs = record { entity = e; file = n; first = f i; last = f j; iota = k; names = ns; type_tree = o; values = vs; tree = Some (carry f t) }

    named_kept : (e : Entity) (k : ℕ) (t : Tree) (i j : ℕ) (ps : Trees) (r : Option Tree)
        → made e k t i j (name_tokens (carries f ps)) (type_behind (part_source (carries f ps) (optional r))) (values_behind (part_source (carries f ps) (optional r)))
        ≡ made e k t i j (map f (name_tokens ps)) (optional (type_behind (part_source ps r))) (map (carry f) (values_behind (part_source ps r)))
    named_kept e k t i j ps r =
        ap (λ ns. made e k t i j ns (type_behind (part_source (carries f ps) (optional r))) (values_behind (part_source (carries f ps) (optional r)))) (names_kept ps)
        ∙ ap (λ o. made e k t i j (map f (name_tokens ps)) (type_behind o) (values_behind o)) (source_kept ps r)
        ∙ ap (λ o. made e k t i j (map f (name_tokens ps)) o (values_behind (optional (part_source ps r)))) (type_kept (part_source ps r))
        ∙ ap (made e k t i j (map f (name_tokens ps)) (optional (type_behind (part_source ps r)))) (values_kept (part_source ps r))

    specified_kept : (s : Sort) (k : ℕ) (r : Option Tree) (t : Tree) → specification_of n s k (optional r) (carry f t) ≡ elsewhere (specification_of n s k r t)
    specified_kept declaring.Constant k r (node l i j ps) = named_kept entity.Constant k (node l i j ps) i j ps r
    specified_kept declaring.Variable k r (node l i j ps) = named_kept entity.Variable k (node l i j ps) i j ps r
    specified_kept declaring.Type k r (node l i j ps) = ap (λ o. made entity.Type 0 (node l i j ps) i j (f i ∷ []) o []) (first_kept ps)

    behind_kept : (r : Option Tree) (t : Tree) → source_behind (optional r) (carry f t) ≡ optional (source_behind r t)
    behind_kept r (node l i j ps) = source_kept ps r

    grouped_kept : (s : Sort) (k : ℕ) (r : Option Tree) (ps : Trees) → grouped n s k (optional r) (carries f ps) ≡ map elsewhere (grouped n s k r ps)
    grouped_kept s k r none = refl
    grouped_kept s k r (more p ps) =
        ap (λ d. d ∷ grouped n s (suc k) (source_behind (optional r) (carry f p)) (carries f ps)) (specified_kept s k r p)
        ∙ ap (λ o. elsewhere (specification_of n s k r p) ∷ grouped n s (suc k) o (carries f ps)) (behind_kept r p)
        ∙ ap (λ ds. elsewhere (specification_of n s k r p) ∷ ds) (grouped_kept s (suc k) (source_behind r p) ps)
    grouped_kept s k r (skip ps) = grouped_kept s k r ps

    pub declared_kept : (s : Sort) (ps : Trees) → declared n s (carries f ps) ≡ map elsewhere (declared n s ps)
    declared_kept s none = refl
    declared_kept s (skip ps) = grouped_kept s 0 None (skip ps)
    declared_kept s (more (node (kind.Group g) i j qs) none) = grouped_kept s 0 None qs
    declared_kept s (more (node (kind.Group g) i j qs) (more q ps)) = grouped_kept s 0 None (more (node (kind.Group g) i j qs) (more q ps))
    declared_kept s (more (node (kind.Group g) i j qs) (skip ps)) = grouped_kept s 0 None (more (node (kind.Group g) i j qs) (skip ps))
    declared_kept s (more (node k i j qs) ps) = grouped_kept s 0 None (more (node k i j qs) ps)

-- ---- so many tokens further on

module _ (a : ℕ) where
  abbrev m : ℕ → ℕ
  m = λ i. a + i

  -- specifications, each so many tokens further on, in the same file
  abbrev pub AllFurther : List Specification → List Specification → Type 0
  AllFurther [] [] = Unit {0}
  AllFurther (r ∷ rs) (d ∷ ds) = (IsFurther a r d × (d.file ≡ r.file)) × AllFurther rs ds
  AllFurther _ _ = ⊥

  all_elsewhere : (rs : List Specification) → AllFurther rs (map (elsewhere m) rs)
  all_elsewhere [] = tt
  all_elsewhere (r ∷ rs) = ((record { entity = refl; iota = refl; names = refl; type_tree = refl; values = refl }, refl), all_elsewhere rs)

  next_name : (i : ℕ) → suc (a + i) ≡ a + suc i
  next_name i = omega arith

  declaration_further : (n : ℕ) (t : Tree) → AllFurther (declaration n t) (declaration n (carry m t))
  declaration_further n (node (kind.Declaration s) i j ps) = subst (AllFurther (declared n s ps)) (sym (declared_kept m n s ps)) (all_elsewhere (declared n s ps))
  declaration_further n (node kind.FunctionDeclaration i j ps) =
      ((record { entity = refl; iota = refl; names = ap (λ k. k ∷ []) (next_name i); type_tree = first_kept m ps; values = refl }, refl), tt)
  declaration_further n (node k i j ps) = tt

  -- the body of a function counts for nothing
  with_body : (n : ℕ) (rs : List Specification) (t : Tree) → AllFurther rs (declaration n (without_body t)) → AllFurther rs (declaration n t)
  with_body n rs (node k i j none) h = h
  with_body n rs (node k i j (skip ps)) h = h
  with_body n rs (node k i j (more s none)) h = h
  with_body n rs (node k i j (more s (skip ps))) h = h
  with_body n [] (node kind.FunctionDeclaration i j (more s (more b ps))) h = absurd h
  with_body n (r ∷ []) (node kind.FunctionDeclaration i j (more s (more b ps))) h =
      let g = h.0.0 in ((record { entity = g.entity; iota = g.iota; names = g.names; type_tree = g.type_tree; values = g.values }, h.0.1), tt)
  with_body n (r ∷ u ∷ rs) (node kind.FunctionDeclaration i j (more s (more b ps))) h = absurd h.1
  with_body n rs (node k i j (more s (more b ps))) h = h

  pub bare_further : (n : ℕ) (t u : Tree) → without_body t ≡ carry m u → AllFurther (declaration n u) (declaration n t)
  bare_further n t u e = with_body n (declaration n u) t (subst (λ x. AllFurther (declaration n u) (declaration n x)) (sym e) (declaration_further n u))
