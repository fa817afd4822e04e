-- The specifications of a package to a file of which a function is appended.
use Rattle.std.proofs.Common.{◌≡◌, ◌∙◌, ℕ, suc, ◌+◌, ◌-◌, ◌<◌, ◌≤◌, inl, inr, ◌⊎◌, true, false, List, [], ◌∷◌, ◌++◌, length, Option, Some, None, refl, sym, ap, append_assoc, arith}
use Rattle.std.specs.Prelude.{nat_eq, nat_lt}
use Rattle.std.specs.List.{AllByRecursion}
use Rattle.std.proofs.lemmas.Bool.Decides.{nat_tests}
use Rattle.go_grammar.specs.declared.kind.Kind.{Kind}
use Rattle.go_grammar.specs.declared.kind.Kind.TheVariants as kind
use Rattle.go_grammar.specs.declared.kind.Sort.{Sort}
use Rattle.go_grammar.specs.declared.kind.Sort.TheVariants as declaring
use Rattle.go_grammar.specs.Trees.{Tree, node, Trees, none, more, skip, last, onto}
use Rattle.go_rewriting.specs.Places.{with_declaration}
use Rattle.go_tree.specs.declared.context.Entity.{Entity}
use Rattle.go_tree.specs.declared.context.Entity.TheVariants as entity
use Rattle.go_tree.specs.Contexts.{entity_of}
use Rattle.go_scopes_events.proofs.Public.{IsLaidOut, LieIn, behind_name, lie_order}
use Rattle.go_stmts_defs.specs.Reading.{part_source}
use Rattle.go_package_alike.specs.Scopes.{AllTokens, TokensIn, TokenHas}
use Rattle.go_package_defs.specs.Answer.{specifications}
use Rattle.go_package_defs.specs.Declarations.{Specification, trees_of, first_tokens, name_tokens, listed_values, type_behind, values_behind, first_part, named_specification, specification_by, specification_of, source_behind, grouped, declared, function, declaration, declarations, in_file}
use Rattle.go_package_defs.specs.Sources.{Source}

-- ---- lists

declarations_onto : (n : ℕ) (ps qs : Trees) → declarations n (onto ps qs) ≡ declarations n ps ++ declarations n qs
declarations_onto n none qs = refl
declarations_onto n (more p ps) qs = ap (λ l. declaration n p ++ l) (declarations_onto n ps qs) ∙ sym (append_assoc (declaration n p) (declarations n ps) (declarations n qs))
declarations_onto n (skip ps) qs = declarations_onto n ps qs

specifications_append : (n : ℕ) (ss us : List Source) → specifications n (ss ++ us) ≡ specifications n ss ++ specifications (n + length ss) us
specifications_append n [] us = ap (λ i. specifications i us) (let z : n ≡ n + length {A = Source} [] = omega arith in z)
specifications_append n (s ∷ ss) us =
    ap (λ l. in_file n s.tree ++ l) (specifications_append (suc n) ss us ∙ ap (λ i. specifications (suc n) ss ++ specifications i us) (let z : suc n + length ss ≡ n + suc (length ss) = omega arith in z))
    ∙ sym (append_assoc (in_file n s.tree) (specifications (suc n) ss) (specifications (n + suc (length ss)) us))

module _ (k : ℕ) (before : List Source) (place : length before ≡ k) where
  there : (us : List Source) → specifications 0 (before ++ us) ≡ specifications 0 before ++ specifications k us
  there us = specifications_append 0 before us ∙ ap (λ i. specifications 0 before ++ specifications i us) (let z : 0 + length before ≡ k = omega (arith, place) in z)

  pub specifications_were : (s : Source) (i j : ℕ) (ps : Trees) (behind : List Source) → s.tree ≡ node kind.File i j ps
      → specifications 0 (before ++ s ∷ behind) ≡ (specifications 0 before ++ declarations k ps) ++ specifications (suc k) behind
  specifications_were s i j ps behind e =
      there (s ∷ behind) ∙ ap (λ t. specifications 0 before ++ (in_file k t ++ specifications (suc k) behind)) e
      ∙ sym (append_assoc (specifications 0 before) (declarations k ps) (specifications (suc k) behind))

  pub specifications_are : (s : Source) (i j end x y : ℕ) (ps qs : Trees) (behind : List Source) → s.tree ≡ with_declaration (node kind.File i j ps) (node kind.FunctionDeclaration x y qs) end
      → specifications 0 (before ++ s ∷ behind) ≡ (specifications 0 before ++ declarations k ps) ++ function k (node kind.FunctionDeclaration x y qs) x y qs ∷ specifications (suc k) behind
  specifications_are s i j end x y ps qs behind e =
      let d = node kind.FunctionDeclaration x y qs in
      there (s ∷ behind) ∙ ap (λ t. specifications 0 before ++ (in_file k t ++ specifications (suc k) behind)) e
      ∙ ap (λ l. specifications 0 before ++ (l ++ specifications (suc k) behind)) (declarations_onto k ps (more d none))
      ∙ ap (λ l. specifications 0 before ++ l) (append_assoc (declarations k ps) (function k d x y qs ∷ []) (specifications (suc k) behind))
      ∙ sym (append_assoc (specifications 0 before) (declarations k ps) (function k d x y qs ∷ specifications (suc k) behind))

-- ---- trees in front of a token

abbrev mutual
  -- each node begins in front of the token n, and ends there or before, with its name
  pub IsBelow : ℕ → Tree → Type 0
  IsBelow n (node k i j ps) = (i < n) × (j ≤ n) × (behind_name k i ≤ n) × AreBelow n ps

  pub AreBelow : ℕ → Trees → Type 0
  AreBelow n none = Unit {0}
  AreBelow n (more t ts) = IsBelow n t × AreBelow n ts
  AreBelow n (skip ts) = AreBelow n ts

mutual
  pub laid_below : (n : ℕ) (t : Tree) → IsLaidOut t → last t ≤ n → IsBelow n t
  laid_below n (node k i j ps) h l = (omega (arith, h.0, l), l, (let o = lie_order (behind_name k i) j ps h.1 in omega (arith, o, l)), all_below n (behind_name k i) j ps h.1 l)

  all_below : (n i j : ℕ) (ps : Trees) → LieIn i j ps → j ≤ n → AreBelow n ps
  all_below n i j none h l = tt
  all_below n i j (more p ps) h l = (laid_below n p h.1 (let o = lie_order (last p) j ps h.2 in omega (arith, o, l)), all_below n (last p) j ps h.2 l)
  all_below n i j (skip ps) h l = all_below n i j ps h l

below_test : (n i : ℕ) → i < n → nat_lt i n ≡ true
below_test n i h = grind (arith, nat_tests)

token_below : (n : ℕ) (k : Kind) (i j : ℕ) → i < n → j ≤ n → TokenHas (λ t. nat_lt t n) k i j
token_below n kind.Name i j h l = below_test n i h
token_below n kind.DeclaredName i j h l = below_test n i h
token_below n kind.Integer i j h l = below_test n i h
token_below n kind.Rune i j h l = below_test n i h
token_below n kind.Text i j h l = below_test n i h
token_below n kind.Keyed i j h l = below_test n i h
token_below n kind.Selector i j h l = below_test n (j - 1) (omega (arith, h, l))
token_below n (kind.Specification declaring.Type) i j h l = below_test n i h
token_below n k i j h l = tt

mutual
  pub below_tokens : (n : ℕ) (t : Tree) → IsBelow n t → AllTokens (λ i. nat_lt i n) t
  below_tokens n (node k i j ps) h = (token_below n k i j h.0 h.1, all_tokens n ps h.3)

  all_tokens : (n : ℕ) (ps : Trees) → AreBelow n ps → TokensIn (λ i. nat_lt i n) ps
  all_tokens n none h = tt
  all_tokens n (more t ts) h = (below_tokens n t h.0, all_tokens n ts h.1)
  all_tokens n (skip ts) h = all_tokens n ts h

any_token : (k : Kind) (i j : ℕ) → TokenHas (λ t. true) k i j
any_token kind.Name i j = refl
any_token kind.DeclaredName i j = refl
any_token kind.Integer i j = refl
any_token kind.Rune i j = refl
any_token kind.Text i j = refl
any_token kind.Keyed i j = refl
any_token kind.Selector i j = refl
any_token (kind.Specification declaring.Type) i j = refl
any_token k i j = tt

mutual
  pub all_of_them : (t : Tree) → AllTokens (λ i. true) t
  all_of_them (node k i j ps) = (any_token k i j, each_of_them ps)

  each_of_them : (ps : Trees) → TokensIn (λ i. true) ps
  each_of_them none = tt
  each_of_them (more t ts) = (all_of_them t, each_of_them ts)
  each_of_them (skip ts) = each_of_them ts

-- ---- specifications in front of a token

abbrev pub MaybeBelow : ℕ → Option Tree → Type 0
MaybeBelow n None = Unit {0}
MaybeBelow n (Some t) = IsBelow n t

-- what it is read by, and its names, stand in front of the token n
pub record StandsBelow (k n : ℕ) (d : Specification) : Type 0 where
  pub file : d.file ≡ k
  pub type_below : MaybeBelow n d.type_tree
  pub values_below : AllByRecursion (IsBelow n) d.values
  pub names_below : AllByRecursion (λ t. t < n) d.names
  pub begins : d.first < n
  pub ends : d.last ≤ n

module _ (k n : ℕ) where
  abbrev Below : Specification → Type 0
  Below d = StandsBelow k n d

  trees_below : (ps : Trees) → AreBelow n ps → AllByRecursion (IsBelow n) (trees_of ps)
  trees_below none h = tt
  trees_below (more p ps) h = (h.0, trees_below ps h.1)
  trees_below (skip ps) h = trees_below ps h

  firsts_below : (ps : Trees) → AreBelow n ps → AllByRecursion (λ t. t < n) (first_tokens ps)
  firsts_below none h = tt
  firsts_below (more (node l i j qs) ps) h = (h.0.0, firsts_below ps h.1)
  firsts_below (skip ps) h = firsts_below ps h

  names_below : (ps : Trees) → AreBelow n ps → AllByRecursion (λ t. t < n) (name_tokens ps)
  names_below none h = tt
  names_below (more (node l i j ns) ps) h = firsts_below ns h.0.3
  names_below (skip ps) h = tt

  listed_below : (ps : Trees) → AreBelow n ps → AllByRecursion (IsBelow n) (listed_values ps)
  listed_below none h = tt
  listed_below (more (node l i j xs) ps) h = trees_below xs h.0.3
  listed_below (skip ps) h = tt

  type_below : (r : Option Tree) → MaybeBelow n r → MaybeBelow n (type_behind r)
  type_below None h = tt
  type_below (Some (node kind.Values i j ps)) h = tt
  type_below (Some (node kind.TypedValues i j none)) h = h
  type_below (Some (node kind.TypedValues i j (more t ps))) h = h.3.0
  type_below (Some (node kind.TypedValues i j (skip ps))) h = h
  type_below (Some (node l i j ps)) h = h

  values_below : (r : Option Tree) → MaybeBelow n r → AllByRecursion (IsBelow n) (values_behind r)
  values_below None h = tt
  values_below (Some (node kind.Values i j ps)) h = listed_below ps h.3
  values_below (Some (node kind.TypedValues i j none)) h = tt
  values_below (Some (node kind.TypedValues i j (more t ps))) h = listed_below ps h.3.1
  values_below (Some (node kind.TypedValues i j (skip ps))) h = tt
  values_below (Some (node l i j ps)) h = tt

  part_below : (ps : Trees) → AreBelow n ps → MaybeBelow n (first_part ps)
  part_below none h = tt
  part_below (more p ps) h = h.0
  part_below (skip ps) h = tt

  source_below : (ps : Trees) (r : Option Tree) → AreBelow n ps → MaybeBelow n r → MaybeBelow n (part_source ps r)
  source_below none r h o = o
  source_below (skip ps) r h o = o
  source_below (more ns none) r h o = o
  source_below (more ns (skip ps)) r h o = o
  source_below (more ns (more t none)) r h o = h.1.0
  source_below (more ns (more t (more u ps))) r h o = o
  source_below (more ns (more t (skip ps))) r h o = o

  named_is : (e : Entity) (m : ℕ) (r : Option Tree) (t : Tree) (i j : ℕ) (ps : Trees) → i < n → j ≤ n → AreBelow n ps → MaybeBelow n r → Below (named_specification k e m t i j ps r)
  named_is e m r t i j ps l v h o = record { file = refl; type_below = type_below r o; values_below = values_below r o; names_below = names_below ps h; begins = l; ends = v }

  by_entity : (e : Entity) (m : ℕ) (r : Option Tree) (t : Tree) (i j : ℕ) (ps : Trees) → i < n → j ≤ n → AreBelow n ps → MaybeBelow n r → Below (specification_by k e m r t i j ps)
  by_entity entity.Type m r t i j ps l v h o = record { file = refl; type_below = part_below ps h; values_below = tt; names_below = (l, tt); begins = l; ends = v }
  by_entity entity.Constant m r t i j ps l v h o = named_is entity.Constant m (part_source ps r) t i j ps l v h (source_below ps r h o)
  by_entity entity.Variable m r t i j ps l v h o = named_is entity.Variable m (part_source ps r) t i j ps l v h (source_below ps r h o)
  by_entity entity.Function m r t i j ps l v h o = named_is entity.Function m (part_source ps r) t i j ps l v h (source_below ps r h o)
  by_entity entity.Parameter m r t i j ps l v h o = named_is entity.Parameter m (part_source ps r) t i j ps l v h (source_below ps r h o)

  one_below : (s : Sort) (m : ℕ) (r : Option Tree) (t : Tree) → IsBelow n t → MaybeBelow n r → Below (specification_of k s m r t)
  one_below s m r (node l i j ps) h o = by_entity (entity_of s) m r (node l i j ps) i j ps h.0 h.1 h.3 o

  behind_below : (r : Option Tree) (t : Tree) → IsBelow n t → MaybeBelow n r → MaybeBelow n (source_behind r t)
  behind_below r (node l i j ps) h o = source_below ps r h.3 o

  grouped_below : (s : Sort) (m : ℕ) (r : Option Tree) (ps : Trees) → AreBelow n ps → MaybeBelow n r → AllByRecursion Below (grouped k s m r ps)
  grouped_below s m r none h o = tt
  grouped_below s m r (more p ps) h o = (one_below s m r p h.0 o, grouped_below s (suc m) (source_behind r p) ps h.1 (behind_below r p h.0 o))
  grouped_below s m r (skip ps) h o = grouped_below s m r ps h o

  declared_below : (s : Sort) (ps : Trees) → AreBelow n ps → AllByRecursion Below (declared k s ps)
  declared_below s none h = grouped_below s 0 None none h tt
  declared_below s (skip ps) h = grouped_below s 0 None (skip ps) h tt
  declared_below s (more (node (kind.Group g) i j ps) none) h = grouped_below s 0 None ps h.0.3 tt
  declared_below s (more (node (kind.Group g) i j ps) (more u us)) h = grouped_below s 0 None (more (node (kind.Group g) i j ps) (more u us)) h tt
  declared_below s (more (node (kind.Group g) i j ps) (skip us)) h = grouped_below s 0 None (more (node (kind.Group g) i j ps) (skip us)) h tt
  declared_below s (more (node l i j ps) us) h = grouped_below s 0 None (more (node l i j ps) us) h tt

  declaration_below : (t : Tree) → IsBelow n t → AllByRecursion Below (declaration k t)
  declaration_below (node (kind.Declaration s) i j ps) h = declared_below s ps h.3
  declaration_below (node kind.FunctionDeclaration i j ps) h = (
    record { file = refl; type_below = part_below ps h.3; values_below = tt; names_below = ((let o = h.2 in omega (arith, o)), tt); begins = h.0; ends = h.1 },
    tt,
  )
  declaration_below (node l i j ps) h = tt

  both_below : (xs ys : List Specification) → AllByRecursion Below xs → AllByRecursion Below ys → AllByRecursion Below (xs ++ ys)
  both_below [] ys h g = g
  both_below (x ∷ xs) ys h g = (h.0, both_below xs ys h.1 g)

  pub declarations_below : (ps : Trees) → AreBelow n ps → AllByRecursion Below (declarations k ps)
  declarations_below none h = tt
  declarations_below (more p ps) h = both_below (declaration k p) (declarations k ps) (declaration_below p h.0) (declarations_below ps h.1)
  declarations_below (skip ps) h = declarations_below ps h

abbrev OfFile : ℕ → Specification → Type 0
OfFile m d = d.file ≡ m

module _ (m : ℕ) where
  by_sort_file : (e : Entity) (c : ℕ) (r : Option Tree) (t : Tree) (i j : ℕ) (ps : Trees) → OfFile m (specification_by m e c r t i j ps)
  by_sort_file entity.Type c r t i j ps = refl
  by_sort_file entity.Constant c r t i j ps = refl
  by_sort_file entity.Variable c r t i j ps = refl
  by_sort_file entity.Function c r t i j ps = refl
  by_sort_file entity.Parameter c r t i j ps = refl

  one_file : (s : Sort) (c : ℕ) (r : Option Tree) (t : Tree) → OfFile m (specification_of m s c r t)
  one_file s c r (node l i j ps) = by_sort_file (entity_of s) c r (node l i j ps) i j ps

  grouped_file : (s : Sort) (c : ℕ) (r : Option Tree) (ps : Trees) → AllByRecursion (OfFile m) (grouped m s c r ps)
  grouped_file s c r none = tt
  grouped_file s c r (more p ps) = (one_file s c r p, grouped_file s (suc c) (source_behind r p) ps)
  grouped_file s c r (skip ps) = grouped_file s c r ps

  declared_file : (s : Sort) (ps : Trees) → AllByRecursion (OfFile m) (declared m s ps)
  declared_file s none = tt
  declared_file s (skip ps) = grouped_file s 0 None (skip ps)
  declared_file s (more (node (kind.Group g) i j ps) none) = grouped_file s 0 None ps
  declared_file s (more (node (kind.Group g) i j ps) (more u us)) = grouped_file s 0 None (more (node (kind.Group g) i j ps) (more u us))
  declared_file s (more (node (kind.Group g) i j ps) (skip us)) = grouped_file s 0 None (more (node (kind.Group g) i j ps) (skip us))
  declared_file s (more (node l i j ps) us) = grouped_file s 0 None (more (node l i j ps) us)

  declaration_file : (t : Tree) → AllByRecursion (OfFile m) (declaration m t)
  declaration_file (node (kind.Declaration s) i j ps) = declared_file s ps
  declaration_file (node kind.FunctionDeclaration i j ps) = (refl, tt)
  declaration_file (node l i j ps) = tt

  pub both_of : (P : Specification → Type 0) (xs ys : List Specification) → AllByRecursion P xs → AllByRecursion P ys → AllByRecursion P (xs ++ ys)
  both_of P [] ys h g = g
  both_of P (x ∷ xs) ys h g = (h.0, both_of P xs ys h.1 g)

  declarations_file : (ps : Trees) → AllByRecursion (OfFile m) (declarations m ps)
  declarations_file none = tt
  declarations_file (more p ps) = both_of (OfFile m) (declaration m p) (declarations m ps) (declaration_file p) (declarations_file ps)
  declarations_file (skip ps) = declarations_file ps

  pub in_file_file : (t : Tree) → AllByRecursion (OfFile m) (in_file m t)
  in_file_file (node l i j ps) = declarations_file ps

-- It stands in another file than that of the number k, or in front of the token n of that file.
abbrev pub IsPlaced : ℕ → ℕ → Specification → Type 0
IsPlaced k n d = (nat_eq d.file k ≡ false) ⊎ StandsBelow k n d

each_placed : (k n m : ℕ) → nat_eq m k ≡ false → (ds : List Specification) → AllByRecursion (OfFile m) ds → AllByRecursion (IsPlaced k n) ds
each_placed k n m e [] h = tt
each_placed k n m e (d ∷ ds) h = (inl (ap (λ i. nat_eq i k) h.0 ∙ e), each_placed k n m e ds h.1)

each_below : (k n : ℕ) (ds : List Specification) → AllByRecursion (StandsBelow k n) ds → AllByRecursion (IsPlaced k n) ds
each_below k n [] h = tt
each_below k n (d ∷ ds) h = (inr h.0, each_below k n ds h.1)

module _ (k n : ℕ) where
  pub before_placed : (m : ℕ) (ss : List Source) → m + length ss ≤ k → AllByRecursion (IsPlaced k n) (specifications m ss)
  before_placed m [] l = tt
  before_placed m (s ∷ ss) l =
      both_of m (IsPlaced k n) (in_file m s.tree) (specifications (suc m) ss) (each_placed k n m (grind (arith, nat_tests)) (in_file m s.tree) (in_file_file m s.tree)) (before_placed (suc m) ss (omega (arith, l)))

  pub behind_placed : (m : ℕ) (ss : List Source) → k < m → AllByRecursion (IsPlaced k n) (specifications m ss)
  behind_placed m [] l = tt
  behind_placed m (s ∷ ss) l =
      both_of m (IsPlaced k n) (in_file m s.tree) (specifications (suc m) ss) (each_placed k n m (grind (arith, nat_tests)) (in_file m s.tree) (in_file_file m s.tree)) (behind_placed (suc m) ss (omega (arith, l)))

  -- those in front of the function
  pub front_placed : (before : List Source) (ps : Trees) → length before ≡ k → AreBelow n ps → AllByRecursion (IsPlaced k n) (specifications 0 before ++ declarations k ps)
  front_placed before ps e h =
      both_of 0 (IsPlaced k n) (specifications 0 before) (declarations k ps) (before_placed 0 before (omega (arith, e))) (each_below k n (declarations k ps) (declarations_below k n ps h))
