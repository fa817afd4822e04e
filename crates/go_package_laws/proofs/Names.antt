-- The names of expressions and of types, by the tree alone.
use Rattle.std.proofs.Common.{◌≡◌, ℕ, Bool, true, false, [], ◌∷◌, ◌++◌, Option, Some, None, refl, sym, subst}
use Rattle.go_grammar.specs.declared.kind.Kind.{Kind}
use Rattle.go_grammar.specs.declared.kind.Kind.TheVariants as kind
use Rattle.go_grammar.specs.Trees.{Tree, node, Trees, none, more, skip, kind_of}
use Rattle.go_tree.specs.declared.object.Object.{Object}
use Rattle.go_tree.specs.declared.object.Object.TheVariants as object
use Rattle.go_types.specs.Relations.{Rights}
use Rattle.go_exprs_rules.specs.Names.{object_sort, need_of, name_sort}
use Rattle.go_exprs_rules.specs.Scopes.{Needed, in_full, at_once, Scope, Hint, declares, free}
use Rattle.go_exprs_rules.specs.Settling.{Part}
use Rattle.go_exprs_rules.specs.Tables.{Parts, hint, in_length, part_scope}
use Rattle.go_exprs_rules.specs.Typing.{typing}
use Rattle.go_package_laws.specs.Reach.{StandsWithin, Standing, moved, NameAgrees, NamesAgree, PartsAgree}
use Rattle.go_package_laws.specs.Names.{NameHas, EachName, EachNameIn, is_of_types, is_sequence, told_in, Ways, EachNeed, NeedsIn, ObjectSame, ObjectWithin, ObjectAgrees}
use Rattle.go_package_laws.proofs.Values.{predeclared_within}

module _ (p : ℕ → Bool) (old r : Standing) (objects : ℕ → Option Object) (new : Rights) where
  -- a scope of these objects, which need each other in this way
  pub record Of (s : Scope) (n : Needed) : Type 0 where
    pub stand : s.sorts ≡ old
    pub name : s.objects ≡ objects
    pub need : s.needed ≡ n

  -- ---- objects

  object_same : (s : Scope) (n : Needed) (o : Option Object) → ObjectSame s.sorts r n o → object_sort (moved s new r) n o ≡ object_sort s n o
  object_same s n None e = refl
  object_same s n (Some object.Import) e = refl
  object_same s n (Some (object.Predeclared b)) e = refl
  object_same s n (Some (object.Package m)) e = e
  object_same s n (Some (object.Local f m)) e = e

  object_within : (s : Scope) (n : Needed) (o : Option Object) → ObjectWithin p s.sorts n o → StandsWithin p (object_sort s n o)
  object_within s n None w = tt
  object_within s n (Some object.Import) w = tt
  object_within s n (Some (object.Predeclared b)) w = predeclared_within p s.iota b
  object_within s n (Some (object.Package m)) w = w
  object_within s n (Some (object.Local f m)) w = w

  pub name_same : (s : Scope) (h : Hint) (i : ℕ) → ObjectSame s.sorts r (need_of s.needed h) (s.objects i) → name_sort (moved s new r) h i ≡ name_sort s h i
  name_same s declares i e = refl
  name_same s free i e = refl
  name_same s h i e = object_same s (need_of s.needed h) (s.objects i) e

  name_within : (s : Scope) (h : Hint) (i : ℕ) → ObjectWithin p s.sorts (need_of s.needed h) (s.objects i) → StandsWithin p (name_sort s h i)
  name_within s declares i w = tt
  name_within s free i w = tt
  name_within s h i w = object_within s (need_of s.needed h) (s.objects i) w

  name_agrees : (s : Scope) (k : Kind) (h : Hint) (i : ℕ) → NameHas (λ t. ObjectAgrees p s.sorts r (need_of s.needed h) (s.objects t)) k i → NameAgrees p s new r k h i
  name_agrees s kind.Name h i e = (name_same s h i e.0, name_within s h i e.1)
  name_agrees s k h i e = tt

  -- what is said of names in the words of the first scope
  here : (s : Scope) (n : Needed) → Of s n → (m : Needed) (k : Kind) (i : ℕ) → NameHas (λ t. ObjectAgrees p old r m (objects t)) k i → NameHas (λ t. ObjectAgrees p s.sorts r m (s.objects t)) k i
  here s n of m k i e =
      subst (λ (f : ℕ → Option Object). NameHas (λ t. ObjectAgrees p s.sorts r m (f t)) k i) (sym of.name)
      (subst (λ (g : Standing). NameHas (λ t. ObjectAgrees p g r m (objects t)) k i) (sym of.stand) e)

  pub name_needed : (s : Scope) (n : Needed) → Of s n → (k : Kind) (h : Hint) (i : ℕ) → NameHas (λ t. ObjectAgrees p old r (need_of n h) (objects t)) k i → NameAgrees p s new r k h i
  name_needed s n of k h i e =
      name_agrees s k h i (subst (λ m. NameHas (λ t. ObjectAgrees p s.sorts r (need_of m h) (s.objects t)) k i) (sym of.need) (here s n of (need_of n h) k i e))

  -- ---- the scopes of parts

  length_of : (s : Scope) (xs : Parts) → Of s in_full → Of (in_length s xs) in_full
  length_of s [] of = record { stand = of.stand; name = of.name; need = refl }
  length_of s (x ∷ xs) of = of

  pub full_scope : (s : Scope) (k : Kind) (xs : Parts) → Of s in_full → Of (part_scope s k xs) in_full
  full_scope s kind.SequenceType xs of = length_of s xs of
  full_scope s k xs of = of

  pub counting_scope : (s : Scope) (n : Needed) → Of s n → Of (part_scope s kind.SequenceType []) in_full
  counting_scope s n of = record { stand = of.stand; name = of.name; need = refl }

  -- ---- expressions

  abbrev full : ℕ → Type 0
  full i = ObjectAgrees p old r in_full (objects i)

  mutual
    pub expression_agrees : (s : Scope) (h : Hint) (t : Tree) → Of s in_full → EachName full t → NamesAgree p s new r h t
    expression_agrees s h (node k i j ps) of e = (name_needed s in_full of k h i e.0, expressions_agree s k h ps [] ps of e.1)

    expressions_agree : (s : Scope) (k : Kind) (h : Hint) (all : Trees) (xs : Parts) (ps : Trees) → Of s in_full → EachNameIn full ps → PartsAgree p s new r k h all xs ps
    expressions_agree s k h all xs none of e = tt
    expressions_agree s k h all xs (skip ts) of e = expressions_agree s k h all (xs ++ None ∷ []) ts of e
    expressions_agree s k h all xs (more t ts) of e = (
      expression_agrees (part_scope s k xs) (hint s k h all xs (kind_of t)) t (full_scope s k xs of) e.0,
      expressions_agree s k h all (xs ++ Some (typing (part_scope s k xs) (hint s k h all xs (kind_of t)) t) ∷ []) ts of e.1,
    )

  -- ---- where no type stands

  abbrev any : ℕ → Type 0
  any i = (n : Needed) → ObjectAgrees p old r n (objects i)

  one_way : (n : Needed) (k : Kind) (i : ℕ) → NameHas any k i → NameHas (λ t. ObjectAgrees p old r n (objects t)) k i
  one_way n kind.Name i e = e n
  one_way n k i e = tt

  length_any : (s : Scope) (n : Needed) (xs : Parts) → Of s n → (m : Needed) × Of (in_length s xs) m
  length_any s n [] of = (in_full, record { stand = of.stand; name = of.name; need = refl })
  length_any s n (x ∷ xs) of = (n, of)

  scope_any : (s : Scope) (n : Needed) (k : Kind) (xs : Parts) → Of s n → (m : Needed) × Of (part_scope s k xs) m
  scope_any s n kind.SequenceType xs of = length_any s n xs of
  scope_any s n k xs of = (n, of)

  mutual
    any_agrees : (s : Scope) (n : Needed) (h : Hint) (t : Tree) → Of s n → EachName any t → NamesAgree p s new r h t
    any_agrees s n h (node k i j ps) of e = (name_needed s n of k h i (one_way (need_of n h) k i e.0), anys_agree s n k h ps [] ps of e.1)

    pub anys_agree : (s : Scope) (n : Needed) (k : Kind) (h : Hint) (all : Trees) (xs : Parts) (ps : Trees) → Of s n → EachNameIn any ps → PartsAgree p s new r k h all xs ps
    anys_agree s n k h all xs none of e = tt
    anys_agree s n k h all xs (skip ts) of e = anys_agree s n k h all (xs ++ None ∷ []) ts of e
    anys_agree s n k h all xs (more t ts) of e =
        let inner = scope_any s n k xs of in (
          any_agrees (part_scope s k xs) inner.0 (hint s k h all xs (kind_of t)) t inner.1 e.0,
          anys_agree s n k h all (xs ++ Some (typing (part_scope s k xs) (hint s k h all xs (kind_of t)) t) ∷ []) ts of e.1,
        )

  -- ---- types

  abbrev limited : Ways
  limited = record { named = λ n i. ObjectAgrees p old r n (objects i); counted = full; anywhere = any }

  -- whether the parts so far are none
  abbrev pub Front : Bool → Parts → Type 0
  Front true xs = xs ≡ []
  Front false [] = ⊥
  Front false (x ∷ xs) = Unit {0}

  pub behind : (b : Bool) (xs : Parts) (x : Option Part) → Front false (xs ++ x ∷ [])
  behind b [] x = tt
  behind b (y ∷ xs) x = tt

  -- parts of types are told by the tree alone
  pub told_same : (s : Scope) (k : Kind) (h : Hint) (all : Trees) (b : Bool) (xs : Parts) (n : Kind) → is_of_types k ≡ true → Front b xs → hint s k h all xs n ≡ told_in k h all b n
  told_same s k h all true xs n t f = subst (λ ys. hint s k h all ys n ≡ told_in k h all true n) (sym f) (first_told k t)
    where
      first_told : (k : Kind) → is_of_types k ≡ true → hint s k h all [] n ≡ told_in k h all true n
      first_told kind.ParenthesizedType e = refl
      first_told kind.SequenceType e = refl
      first_told kind.FunctionType e = refl
      first_told kind.StructType e = refl
      first_told kind.Signature e = refl
      first_told kind.Results e = refl
      first_told kind.NameList e = refl
      first_told kind.Parameters e = refl
      first_told kind.Parameter e = refl
      first_told kind.Fields e = refl
      first_told k e = absurd cc
  told_same s k h all false [] n t f = absurd f
  told_same s k h all false (x ∷ xs) n t f = later_told k t
    where
      later_told : (k : Kind) → is_of_types k ≡ true → hint s k h all (x ∷ xs) n ≡ told_in k h all false n
      later_told kind.ParenthesizedType e = refl
      later_told kind.SequenceType e = refl
      later_told kind.FunctionType e = refl
      later_told kind.StructType e = refl
      later_told kind.Signature e = refl
      later_told kind.Results e = refl
      later_told kind.NameList e = refl
      later_told kind.Parameters e = refl
      later_told kind.Parameter e = refl
      later_told kind.Fields e = refl
      later_told k e = absurd cc

  -- a part that is no length is in the scope of the type
  pub scope_later : (s : Scope) (k : Kind) (x : Option Part) (xs : Parts) → part_scope s k (x ∷ xs) ≡ s
  scope_later s kind.SequenceType x xs = refl
  scope_later s k x xs = refl

  -- whether the next part is a length; else it is in the scope of the node
  abbrev pub Counting : Kind → Parts → Bool → Type 0
  Counting k xs true = (k ≡ kind.SequenceType) × (xs ≡ [])
  Counting k xs false = (s : Scope) → part_scope s k xs ≡ s

  pub counting_first : (k : Kind) → Counting k [] (is_sequence k)
  counting_first kind.SequenceType = (refl, refl)
  counting_first k = λ s. refl

  pub counting_later : (k : Kind) (xs : Parts) (x : Option Part) → Counting k (xs ++ x ∷ []) false
  counting_later k [] x s = scope_later s k x []
  counting_later k (y ∷ xs) x s = scope_later s k y (xs ++ x ∷ [])

  pub length_scope : (s : Scope) (n : Needed) (k : Kind) (xs : Parts) → Of s n → Counting k xs true → Of (part_scope s k xs) in_full
  length_scope s n k xs of e = subst (λ ys. Of (part_scope s k ys) in_full) (sym e.1) (subst (λ l. Of (part_scope s l []) in_full) (sym e.0) (counting_scope s n of))

  mutual
    pub type_agrees : (s : Scope) (h : Hint) (t : Tree) → Of s at_once → EachNeed limited h t → NamesAgree p s new r h t
    type_agrees s h (node k i j ps) of e = (name_needed s at_once of k h i e.0, types_agree s k h ps true [] ps (is_of_types k) (is_sequence k) refl refl (counting_first k) of e.1)

    types_agree : (s : Scope) (k : Kind) (h : Hint) (all : Trees) (b : Bool) (xs : Parts) (ts : Trees) (d l : Bool) → is_of_types k ≡ d → Front b xs → Counting k xs l → Of s at_once
        → NeedsIn limited k h all b ts d l → PartsAgree p s new r k h all xs ts
    types_agree s k h all b xs ts false l is f c of e = anys_agree s at_once k h all xs ts of e
    types_agree s k h all b xs none true l is f c of e = tt
    types_agree s k h all b xs (skip ts) true l is f c of e = types_agree s k h all false (xs ++ None ∷ []) ts true false is (behind b xs None) (counting_later k xs None) of e
    types_agree s k h all b xs (more t ts) true true is f c of e =
        let x = Some (typing (part_scope s k xs) (hint s k h all xs (kind_of t)) t) in (
          expression_agrees (part_scope s k xs) (hint s k h all xs (kind_of t)) t (length_scope s at_once k xs of c) e.0,
          types_agree s k h all false (xs ++ x ∷ []) ts true false is (behind b xs x) (counting_later k xs x) of e.1,
        )
    types_agree s k h all b xs (more t ts) true false is f c of e =
        let x = Some (typing (part_scope s k xs) (hint s k h all xs (kind_of t)) t) in (
          subst (λ z. NamesAgree p z new r (hint s k h all xs (kind_of t)) t) (sym (c s))
              (subst (λ g. NamesAgree p s new r g t) (sym (told_same s k h all b xs (kind_of t) is f)) (type_agrees s (told_in k h all b (kind_of t)) t of e.0)),
          types_agree s k h all false (xs ++ x ∷ []) ts true false is (behind b xs x) (counting_later k xs x) of e.1,
        )
