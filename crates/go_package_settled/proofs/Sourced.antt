-- What the specifications of a file name is looked up in the parts that they are: each name of a specification is declared with the one that
-- has its type and its values, in the type and in the value of its number of which, and in its right side if it is a type, the names stand.
use Rattle.std.proofs.Common.{◌≡◌, ◌∙◌, ℕ, zero, suc, ◌+◌, ◌<◌, ◌≤◌, ◌⊎◌, inl, inr, Bool, true, false, nat_eq, List, [], ◌∷◌, ◌++◌, length, Option, Some, None, refl, sym, ap, subst, arith, append-nil}
use Rattle.std.specs.Prelude.{if◌then◌else◌, slice_get}
use Rattle.std.proofs.lemmas.Bool.{lt-ltb}
use Rattle.go_tokens.specs.Tokens.{TokenList}
use Rattle.go_tokens.specs.declared.token.TokenKind.{TokenKind}
use Rattle.go_grammar.specs.declared.kind.Kind.{Kind}
use Rattle.go_grammar.specs.declared.kind.Kind.TheVariants as kind
use Rattle.go_grammar.specs.declared.kind.Sort.{Sort}
use Rattle.go_grammar.specs.declared.kind.Sort.TheVariants as declaring
use Rattle.go_grammar.specs.declared.kind.Category.TheVariants as category
use Rattle.go_grammar.specs.declared.kind.Level.TheVariants as level
use Rattle.go_grammar.specs.declared.kind.Place.TheVariants as place
use Rattle.go_grammar.specs.Operators.{sort_word}
use Rattle.go_grammar.specs.Rules.{End, Then}
use Rattle.go_grammar.specs.Trees.{Tree, node, Trees, none, more, skip, kind_of, first, last, parts}
use Rattle.go_grammar.specs.Grammar.{IsFile, Derives, Spells, ends_named, count}
use Rattle.go_tree.specs.Views.{part_at}
use Rattle.go_tree.specs.declared.context.Naming.{Naming}
use Rattle.go_tree.specs.declared.context.Role.{Role}
use Rattle.go_tree.specs.declared.context.Role.TheVariants as role
use Rattle.go_tree.specs.declared.context.Site.TheVariants as site
use Rattle.go_tree.specs.declared.context.Context.{Context}
use Rattle.go_tree.specs.declared.event.Declaration.{Declaration}
use Rattle.go_tree.specs.declared.event.Event.{Event}
use Rattle.go_tree.specs.declared.event.Event.TheVariants as event
use Rattle.go_tree.specs.Contexts.{is_there, column_site, value_site, specified, own_source, source_of, enter, file_context}
use Rattle.go_tree.specs.Events.{statement_events, name_events, own_events, function_events, is_more, pass, begin, events, events_of}
use Rattle.go_tree.specs.Meanings.{Meaning}
use Rattle.go_scopes_events.specs.Orders.{AreInOrder, EachDeclared}
use Rattle.go_scopes_events.proofs.Public.{IsLaidOut, LieIn, derives_laid, each_append, true_false}
use Rattle.go_exprs_rules.specs.Scopes.{type_place}
use Rattle.go_stmts_defs.specs.Reading.{part_source}
use Rattle.go_package_defs.specs.Declarations.{Specification, trees_of, first_tokens, type_behind, values_behind, specification_of, source_behind, grouped, declared, function, declaration, declarations, in_file}
use Rattle.go_package_defs.specs.Knowledge.{is_type, place_of}
use Rattle.go_package_laws.specs.Names.{EachName, EachNeed}
use Rattle.go_package_settled.proofs.Around.{Around, around_own, around_parts, around_first, around_rest}
use Rattle.go_package_settled.proofs.Looking.{LocalsApart, Told, type_fixed, value_fixed, names_told}
use Rattle.go_package_settled.proofs.Naming.{NotNew, part_not}
use Rattle.go_package_settled.proofs.Rights.{told_ways, right_told}
use Rattle.go_package_settled.proofs.Simple.{AllDerived, expression_is_simple, many_derived, signature_is_simple, type_is_simple}
use Rattle.go_package_settled.proofs.Specified.{AnyDeclared, AreNames, all_names, any_front, any_behind, place_by, only_first, no_specifications, same_sort}

abbrev no_trees : List Tree
no_trees = []

-- ---- declarations of one name

no_name : (i lo hi : ℕ) (Q : Declaration → Type 0) (es : List Event) → AreInOrder lo hi es → (i < lo) ⊎ (hi ≤ i) → EachDeclared (λ e. e.name ≡ i → Q e) es
no_name i lo hi Q [] o l = tt
no_name i lo hi Q (event.Declaration d ∷ es) o (inl l) = (λ e. absurd (let a = o.0 in omega (arith, a, l, e)), no_name i (suc d.name) hi Q es o.1 (inl (let a = o.0 in omega (arith, a, l))))
no_name i lo hi Q (event.Declaration d ∷ es) o (inr l) = (λ e. absurd (let a = below (suc d.name) hi es o.1 in omega (arith, a, l, e)), no_name i (suc d.name) hi Q es o.1 (inr l))
  where
    below : (a b : ℕ) (fs : List Event) → AreInOrder a b fs → a ≤ b
    below a b [] h = h
    below a b (event.Declaration x ∷ fs) h = let r = below (suc x.name) b fs h.1 in let q = h.0 in omega (arith, q, r)
    below a b (event.Use x ∷ fs) h = let r = below (suc x.name) b fs h.1 in let q = h.0 in omega (arith, q, r)
    below a b (e ∷ fs) h = below a b fs h
no_name i lo hi Q (event.Use u ∷ es) o (inl l) = no_name i (suc u.name) hi Q es o.1 (inl (let a = o.0 in omega (arith, a, l)))
no_name i lo hi Q (event.Use u ∷ es) o (inr l) = no_name i (suc u.name) hi Q es o.1 (inr l)
no_name i lo hi Q (e ∷ es) o l = no_name i lo hi Q es o l

-- what holds of the declarations of a token in its part holds in all that is told
only_there : (es own : List Event) (lo hi i : ℕ) (Q : Declaration → Type 0) → Around es own lo hi → lo ≤ i → i < hi → EachDeclared (λ e. e.name ≡ i → Q e) own → EachDeclared (λ e. e.name ≡ i → Q e) es
only_there es own lo hi i Q a l h q =
    subst (EachDeclared (λ e. e.name ≡ i → Q e)) (sym a.whole)
    (each_append (λ e. e.name ≡ i → Q e) a.before (own ++ a.after) (no_name i 0 lo Q a.before a.below (inr l))
    (each_append (λ e. e.name ≡ i → Q e) own a.after q (no_name i hi a.end Q a.after a.above (inl h))))

any_there : (P : Declaration → Type 0) (es own : List Event) (lo hi : ℕ) → Around es own lo hi → AnyDeclared P own → AnyDeclared P es
any_there P es own lo hi a h = subst (AnyDeclared P) (sym a.whole) (any_behind P a.before (own ++ a.after) (any_front P own a.after h))

-- ---- lists of names

module _ (X : Option ℕ → Type 0) where
  -- It declares the token, and its source is such a one.
  abbrev Sourced : ℕ → Declaration → Type 0
  Sourced t e = (e.name ≡ t) × X e.source

  one_sourced : (c : Context) (d : Naming) (i j : ℕ) (qs : Trees) (t : ℕ) → c.role ≡ role.New d → t ≡ i → X d.source → AnyDeclared (Sourced t) (events c (node kind.DeclaredName i j qs))
  one_sourced c d i j qs t r e x =
      let own : List Event = own_events c kind.DeclaredName i j qs in
      any_front (Sourced t) (statement_events c.listed i j ++ own) (events_of (begin c kind.DeclaredName) kind.DeclaredName i j qs 0 qs)
      (any_behind (Sourced t) (statement_events c.listed i j) own (found c.role r))
    where
      found : (y : Role) → y ≡ role.New d → AnyDeclared (Sourced t) (name_events c i y)
      found y w = subst (λ (z : Role). AnyDeclared (Sourced t) (name_events c i z)) (sym w) (inl (sym e, x))

  names_sourced : (c : Context) (d : Naming) (i j : ℕ) (all : Trees) (m : ℕ) (ps : Trees) (t k : ℕ) → c.role ≡ role.New d → AreNames ps → place_of t (first_tokens ps) ≡ Some k → X d.source
      → AnyDeclared (Sourced t) (events_of c kind.NameList i j all m ps)
  names_sourced c d i j all m none t k r h e x = absurd cc
  names_sourced c d i j all m (skip ps) t k r h e x = absurd h
  names_sourced c d i j all m (more (node l a b qs) ps) t k r h e x =
      let p : Tree = node l a b qs in
      let inner : Context = enter c kind.NameList i j all (ends_named all) m p (is_more ps) in
      let rest : List Event = events_of (pass c p) kind.NameList i j all (suc m) ps in
      let further : (y : ℕ) → place_of t (first_tokens ps) ≡ Some y → AnyDeclared (Sourced t) rest = λ y q. names_sourced (pass c p) d i j all (suc m) ps t y r h.2 q x in
      place_by t a k (first_tokens ps) e
      (λ s z. any_front (Sourced t) (events inner p) rest
      (subst (λ (y : Kind). AnyDeclared (Sourced t) (events (enter c kind.NameList i j all (ends_named all) m (node y a b qs) (is_more ps)) (node y a b qs))) (sym h.0)
      (one_sourced (enter c kind.NameList i j all (ends_named all) m (node kind.DeclaredName a b qs) (is_more ps)) d a b qs t r s x)))
      (λ y q z. any_behind (Sourced t) (events inner p) rest (further y q))

  list_sourced : (c : Context) (d : Naming) (l : Kind) (a b : ℕ) (ns : Trees) (t k : ℕ) → l ≡ kind.NameList → AreNames ns → c.role ≡ role.New d → X d.source → place_of t (first_tokens ns) ≡ Some k
      → AnyDeclared (Sourced t) (events c (node l a b ns))
  list_sourced c d l a b ns t k e h r x q =
      subst (λ (y : Kind). AnyDeclared (Sourced t) (events c (node y a b ns))) (sym e)
      (any_behind (Sourced t) (statement_events c.listed a b ++ own_events c kind.NameList a b ns) (events_of (begin c kind.NameList) kind.NameList a b ns 0 ns)
      (names_sourced (begin c kind.NameList) d a b ns 0 ns t k r h q x))

-- ---- what a specification tells

module _ (ms : List Meaning) (n : ℕ) (ts : TokenList) (es : List Event) where
  -- No type is declared at the token.
  abbrev pub NoType : ℕ → Type 0
  NoType s = EachDeclared (λ e. e.name ≡ s → is_type e.entity ≡ false) es

  abbrev pub InType : ℕ → Tree → Type 0
  InType s t = EachName (Told ms n ts es (λ z. z ≡ site.Type s)) t

  abbrev pub InValue : ℕ → ℕ → ℕ → Tree → Type 0
  InValue s c k v = EachName (Told ms n ts es (λ z. z ≡ site.Value s c (nat_eq k 1))) v

  -- what stands behind the names of the specification that begins at the token s
  record RestTold (s : ℕ) (q : Tree) : Type 0 where
    type : (t : Tree) → type_behind (Some q) ≡ Some t → InType s t
    values : (c : ℕ) (v : Tree) → slice_get (values_behind (Some q)) c ≡ Some v → InValue s c (length (values_behind (Some q))) v
    plain : NoType s

  abbrev SourceTold : Option ℕ → Option Tree → Type 0
  SourceTold o None = o ≡ None
  SourceTold o (Some q) = (s : ℕ) × (o ≡ Some s) × RestTold s q

  -- of constants, variables and functions
  pub record ValueTold (x : Specification) (o : Option ℕ) : Type 0 where
    pub type : (t : Tree) → x.type_tree ≡ Some t → (s : ℕ) × (o ≡ Some s) × InType s t
    pub values : (c : ℕ) (v : Tree) → slice_get x.values c ≡ Some v → (s : ℕ) × (o ≡ Some s) × InValue s c (length x.values) v
    pub plain : (s : ℕ) → o ≡ Some s → NoType s

  -- of types
  pub record TypeTold (x : Specification) (o : Option ℕ) : Type 0 where
    pub number : ℕ
    pub is : o ≡ Some number
    pub right : (t : Tree) → x.type_tree ≡ Some t → EachNeed (told_ways ms n ts es number) type_place t

  abbrev pub SpecTold : Bool → Specification → Option ℕ → Type 0
  SpecTold true x o = TypeTold x o
  SpecTold false x o = ValueTold x o

  -- Each name of the specification is declared, with such a source.
  abbrev pub IsSourced : Specification → Type 0
  IsSourced x = (t c : ℕ) → place_of t x.names ≡ Some c → AnyDeclared (λ e. (e.name ≡ t) × SpecTold (is_type x.entity) x e.source) es

  abbrev pub AreSourced : List Specification → Type 0
  AreSourced [] = Unit {0}
  AreSourced (x ∷ xs) = IsSourced x × AreSourced xs

  module _ (apart : LocalsApart ms n ts es) (kts : List TokenKind) where
    sourced_append : (xs ys : List Specification) → AreSourced xs → AreSourced ys → AreSourced (xs ++ ys)
    sourced_append [] ys h g = g
    sourced_append (x ∷ xs) ys h g = (h.0, sourced_append xs ys h.1 g)

    record Lies (c : Context) (t : Tree) : Type 0 where
      laid : IsLaidOut t
      around : Around es (events c t) (first t) (last t)

    lies_first : (c : Context) (k : Kind) (i j : ℕ) (all : Trees) (m : ℕ) (p : Tree) (qs : Trees) (lo : ℕ) → LieIn lo j (more p qs) → Around es (events_of c k i j all m (more p qs)) lo j
        → Lies (enter c k i j all (ends_named all) m p (is_more qs)) p
    lies_first c k i j all m p qs lo l a = record { laid = l.1; around = around_first es c k i j all m p qs lo l a }

    -- ---- values

    some_tree : (a b : Tree) → ◌≡◌ {A = Option Tree} (Some a) (Some b) → a ≡ b
    some_tree a b e = cc

    counts : (vs : Trees) → AllDerived kts (category.Expression level.Either place.Free) vs → count vs ≡ length (trees_of vs)
    counts none h = refl
    counts (more p vs) h = ap suc (counts vs h.1)
    counts (skip vs) h = absurd h

    columns_told : (s : ℕ) (alone : Bool) (c : Context) (i j : ℕ) (all : Trees) (m z : ℕ) (qs : Trees) (lo : ℕ) → AllDerived kts (category.Expression level.Either place.Free) qs → c.site ≡ site.Value s z alone → NotNew c.role
        → LieIn lo j qs → Around es (events_of c kind.ExpressionList i j all m qs) lo j → (x : ℕ) (v : Tree) → slice_get (trees_of qs) x ≡ Some v → EachName (Told ms n ts es (λ y. y ≡ site.Value s (m + x) alone)) v
    columns_told s alone c i j all m z none lo h e r l a x v q = absurd cc
    columns_told s alone c i j all m z (skip qs) lo h e r l a x v q = absurd h
    columns_told s alone c i j all m z (more p qs) lo h e r l a zero v q =
        let same : m ≡ m + 0 = omega arith in
        subst (λ y. EachName (Told ms n ts es (λ w. w ≡ site.Value s y alone)) v) same
        (subst (EachName (Told ms n ts es (λ w. w ≡ site.Value s m alone))) (some_tree p v q)
        (names_told ms n ts es apart (site.Value s m alone) (value_fixed s m alone) (enter c kind.ExpressionList i j all (ends_named all) m p (is_more qs)) p (ap (column_site m) e)
        (part_not c kind.ExpressionList i j (ends_named all) m p refl r) (expression_is_simple kts level.Either place.Free p h.0) l.1 (around_first es c kind.ExpressionList i j all m p qs lo l a)))
    columns_told s alone c i j all m z (more p qs) lo h e r l a (suc x) v q =
        let next : suc m + x ≡ m + suc x = omega arith in
        subst (λ y. EachName (Told ms n ts es (λ w. w ≡ site.Value s y alone)) v) next
        (columns_told s alone (pass c p) i j all (suc m) z qs (last p) h.1 e r l.2 (around_rest es c kind.ExpressionList i j all m p qs lo l a) x v q)

    values_told : (s : ℕ) (c : Context) (t : Tree) → Derives kts (category.ExpressionList place.Free) t → c.site ≡ value_site (Some s) (nat_eq (count (parts t)) 1) → NotNew c.role → Lies c t
        → (x : ℕ) (v : Tree) → slice_get (trees_of (parts t)) x ≡ Some v → InValue s x (length (trees_of (parts t))) v
    values_told s c (node kind.ExpressionList i j none) h e r l x v q = absurd h.1
    values_told s c (node kind.ExpressionList i j (skip vs)) h e r l x v q = absurd h.1
    values_told s c (node kind.ExpressionList i j (more p vs)) h e r l x v q =
        let all : Trees = more p vs in
        let each : AllDerived kts (category.Expression level.Either place.Free) all = (h.1.1, many_derived kts _ _ vs (last p) j h.1.2) in
        let same : 0 + x ≡ x = omega arith in
        subst (λ y. InValue s y (length (trees_of all)) v) same
        (subst (λ y. EachName (Told ms n ts es (λ w. w ≡ site.Value s (0 + x) (nat_eq y 1))) v) (counts all each)
        (columns_told s (nat_eq (count all) 1) (begin c kind.ExpressionList) i j all 0 0 all i each e r l.laid.1 (around_parts es c kind.ExpressionList i j all l.around) x v q))
    values_told s c (node k i j vs) h e r l x v q = absurd (true_false false h.0 refl)

    -- ---- what stands behind the names

    type_rest : (s : ℕ) (c : Context) (q : Tree) → type_behind (Some q) ≡ Some q → values_behind (Some q) ≡ [] → Derives kts category.Type q → c.site ≡ site.Type s → NotNew c.role → Lies c q → NoType s → RestTold s q
    type_rest s c q e v h f r l p = record {
      type = λ t g. subst (InType s) (some_tree q t (sym e ∙ g)) (names_told ms n ts es apart (site.Type s) (type_fixed s) c q f r (type_is_simple kts q h) l.laid l.around);
      values = λ x y g. no_value x y (sym (ap (λ vs. slice_get vs x) v) ∙ g);
      plain = p;
    }
      where
        no_value : {P : Type 0} (x : ℕ) (y : Tree) → slice_get no_trees x ≡ Some y → P
        no_value x y g = absurd cc

    no_type : {P : Type 0} (t : Tree) → ◌≡◌ {A = Option Tree} None (Some t) → P
    no_type t e = absurd cc

    rest_told : (s : ℕ) (c : Context) (q : Tree) → Derives kts category.VariableRest q → c.site ≡ site.Type s → c.specification ≡ Some s → NotNew c.role → Lies c q → NoType s → RestTold s q
    rest_told s c (node kind.Values i j none) h f g r l p = absurd h.1
    rest_told s c (node kind.Values i j (skip us)) h f g r l p = absurd h.1
    rest_told s c (node kind.Values i j (more v (more u us))) h f g r l p = absurd h.1.2
    rest_told s c (node kind.Values i j (more v (skip us))) h f g r l p = absurd h.1.2
    rest_told s c (node kind.Values i j (more (node o a b vs) none)) h f g r l p =
        let k : Kind = kind.Values in
        let v : Tree = node o a b vs in
        let all : Trees = more v none in
        record {
          type = λ t e. no_type t e;
          values = values_told s (enter (begin c k) k i j all (ends_named all) 0 v false) v h.1.1 (ap (λ y. value_site y (nat_eq (count vs) 1)) g) tt (lies_first (begin c k) k i j all 0 v none i l.laid.1 (around_parts es c k i j all l.around));
          plain = p;
        }
    rest_told s c (node kind.TypedValues i j none) h f g r l p = absurd h.1
    rest_told s c (node kind.TypedValues i j (skip us)) h f g r l p = absurd h.1
    rest_told s c (node kind.TypedValues i j (more t none)) h f g r l p = absurd h.1.2
    rest_told s c (node kind.TypedValues i j (more t (skip us))) h f g r l p = absurd h.1.2
    rest_told s c (node kind.TypedValues i j (more t (more v (more u us)))) h f g r l p = absurd h.1.2.2
    rest_told s c (node kind.TypedValues i j (more t (more v (skip us)))) h f g r l p = absurd h.1.2.2
    rest_told s c (node kind.TypedValues i j (more t (more (node o a b vs) none))) h f g r l p =
        let k : Kind = kind.TypedValues in
        let v : Tree = node o a b vs in
        let all : Trees = more t (more v none) in
        let x = around_parts es c k i j all l.around in
        let inner : Context = enter (begin c k) k i j all (ends_named all) 0 t true in
        record {
          type = λ u e.
              subst (InType s) (some_tree t u e)
              (names_told ms n ts es apart (site.Type s) (type_fixed s) inner t f tt (type_is_simple kts t h.1.1) l.laid.1.1 (around_first es (begin c k) k i j all 0 t (more v none) i l.laid.1 x));
          values = values_told s (enter (pass (begin c k) t) k i j all (ends_named all) 1 v false) v h.1.2.1 (ap (λ y. value_site y (nat_eq (count vs) 1)) g) tt
              (lies_first (pass (begin c k) t) k i j all 1 v none (last t) l.laid.1.2 (around_rest es (begin c k) k i j all 0 t (more v none) i l.laid.1 x));
          plain = p;
        }
    rest_told s c (node kind.Name i j us) h f g r l p = type_rest s c (node kind.Name i j us) refl refl (refl, h.1, refl, refl) f r l p
    rest_told s c (node kind.ParenthesizedType i j us) h f g r l p = type_rest s c (node kind.ParenthesizedType i j us) refl refl (refl, h.1, refl, refl) f r l p
    rest_told s c (node kind.SequenceType i j us) h f g r l p = type_rest s c (node kind.SequenceType i j us) refl refl (refl, h.1, refl, refl) f r l p
    rest_told s c (node kind.FunctionType i j us) h f g r l p = type_rest s c (node kind.FunctionType i j us) refl refl (refl, h.1, refl, refl) f r l p
    rest_told s c (node kind.StructType i j us) h f g r l p = type_rest s c (node kind.StructType i j us) refl refl (refl, h.1, refl, refl) f r l p
    rest_told s c (node k i j us) h f g r l p = absurd (true_false false h.0 refl)

    constant_rest : (q : Tree) → Derives kts category.ConstantRest q → Derives kts category.VariableRest q
    constant_rest (node kind.Values i j us) h = (refl, h.1, refl, refl)
    constant_rest (node kind.TypedValues i j us) h = (refl, h.1, refl, refl)
    constant_rest (node k i j us) h = absurd (true_false false h.0 refl)

    -- ---- the first name

    name_plain : (c : Context) (d : Naming) (i : ℕ) (r : Role) → r ≡ role.New d → is_type d.entity ≡ false → Around es (name_events c i r) i (suc i) → NoType i
    name_plain c d i r e f a =
        only_there es (name_events c i r) i (suc i) i (λ x. is_type x.entity ≡ false) a (omega arith) (omega arith)
        (subst (λ (y : Role). EachDeclared (λ x. x.name ≡ i → is_type x.entity ≡ false) (name_events c i y)) (sym e) (λ q. f, tt))

    names_plain : (c : Context) (d : Naming) (t : Tree) → Derives kts category.NameList t → c.role ≡ role.New d → is_type d.entity ≡ false → Lies c t → NoType (first t)
    names_plain c d (node kind.NameList i j none) h r f l = absurd h.1
    names_plain c d (node kind.NameList i j (skip us)) h r f l = absurd h.1
    names_plain c d (node kind.NameList i j (more (node kind.DeclaredName a b us) ns)) h r f l =
        let k : Kind = kind.NameList in
        let p : Tree = node kind.DeclaredName a b us in
        let all : Trees = more p ns in
        let inner : Context = enter (begin c k) k i j all (ends_named all) 0 p (is_more ns) in
        let there : Lies inner p = lies_first (begin c k) k i j all 0 p ns i l.laid.1 (around_parts es c k i j all l.around) in
        subst NoType (sym h.1.0) (name_plain inner d a inner.role r f (around_own es inner kind.DeclaredName a b us there.laid there.around))
    names_plain c d (node kind.NameList i j (more (node k a b us) ns)) h r f l = absurd (true_false false h.1.1.0 refl)
    names_plain c d (node k i j us) h r f l = absurd (true_false false h.0 refl)

    are_names : (t : Tree) → Derives kts category.NameList t → (kind_of t ≡ kind.NameList) × AreNames (parts t)
    are_names (node kind.NameList i j ns) h = (refl, all_names kts ns i j h.1)
    are_names (node k i j ns) h = absurd (true_false false h.0 refl)

    -- ---- specifications

    value_by : (x : Specification) (o : Option ℕ) (r : Option Tree) → x.type_tree ≡ type_behind r → x.values ≡ values_behind r → SourceTold o r → ValueTold x o
    value_by x o None e v h = record {
      type = λ t g. no_type t (sym e ∙ g);
      values = λ c y g. no_value c y (sym (ap (λ vs. slice_get vs c) v) ∙ g);
      plain = λ s g. no_source s (sym h ∙ g);
    }
      where
        no_value : {P : Type 0} (c : ℕ) (y : Tree) → slice_get no_trees c ≡ Some y → P
        no_value c y g = absurd cc

        no_source : {P : Type 0} (s : ℕ) → ◌≡◌ {A = Option ℕ} None (Some s) → P
        no_source s g = absurd cc
    value_by x o (Some q) e v h = record {
      type = λ t g. (h.0, h.1, h.2.type t (sym e ∙ g));
      values = λ c y g. (h.0, h.1, subst (λ k. InValue h.0 c k y) (ap length (sym v)) (h.2.values c y (sym (ap (λ vs. slice_get vs c) v) ∙ g)));
      plain = λ s g. subst NoType (same_source h.0 s (sym h.1 ∙ g)) h.2.plain;
    }
      where
        same_source : (a b : ℕ) → ◌≡◌ {A = Option ℕ} (Some a) (Some b) → a ≡ b
        same_source a b f = cc

    -- what is known behind a specification
    abbrev Held : Sort → Option ℕ → Option Tree → Type 0
    Held declaring.Type o r = Unit {0}
    Held s o r = SourceTold o r

    record Step (s : Sort) (k : ℕ) (o : Option ℕ) (old : Option Tree) (p : Tree) : Type 0 where
      next : Held s o (source_behind old p)
      one : IsSourced (specification_of n s k old p)

    constant_names : (c : Context) (k : ℕ) (i j a b : ℕ) (l : Kind) (ns rest : Trees) (old : Option Tree) → l ≡ kind.NameList → AreNames ns → SourceTold c.source (part_source (more (node l a b ns) rest) old)
        → Lies c (node (kind.Specification declaring.Constant) i j (more (node l a b ns) rest)) → IsSourced (specification_of n declaring.Constant k old (node (kind.Specification declaring.Constant) i j (more (node l a b ns) rest)))
    constant_names c k i j a b l ns rest old e g h w t x q =
        let s : Kind = kind.Specification declaring.Constant in
        let all : Trees = more (node l a b ns) rest in
        let spec : Specification = specification_of n declaring.Constant k old (node s i j all) in
        let f : Context = begin c s in
        let P : Declaration → Type 0 = λ y. (y.name ≡ t) × ValueTold spec y.source in
        any_there P es (events c (node s i j all)) i j w.around
        (any_behind P (statement_events c.listed i j ++ own_events c s i j all) (events_of f s i j all 0 all)
        (any_front P (events (enter f s i j all (ends_named all) 0 (node l a b ns) (is_more rest)) (node l a b ns)) (events_of (pass f (node l a b ns)) s i j all 1 rest)
        (list_sourced (ValueTold spec) (enter f s i j all (ends_named all) 0 (node l a b ns) (is_more rest)) (specified f declaring.Constant i j) l a b ns t x e g refl
        (value_by spec c.source (part_source all old) refl refl h) q)))

    variable_names : (c : Context) (k : ℕ) (i j a b : ℕ) (l : Kind) (ns rest : Trees) (old : Option Tree) → l ≡ kind.NameList → AreNames ns → SourceTold c.source (part_source (more (node l a b ns) rest) old)
        → Lies c (node (kind.Specification declaring.Variable) i j (more (node l a b ns) rest)) → IsSourced (specification_of n declaring.Variable k old (node (kind.Specification declaring.Variable) i j (more (node l a b ns) rest)))
    variable_names c k i j a b l ns rest old e g h w t x q =
        let s : Kind = kind.Specification declaring.Variable in
        let all : Trees = more (node l a b ns) rest in
        let spec : Specification = specification_of n declaring.Variable k old (node s i j all) in
        let f : Context = begin c s in
        let P : Declaration → Type 0 = λ y. (y.name ≡ t) × ValueTold spec y.source in
        any_there P es (events c (node s i j all)) i j w.around
        (any_behind P (statement_events c.listed i j ++ own_events c s i j all) (events_of f s i j all 0 all)
        (any_front P (events (enter f s i j all (ends_named all) 0 (node l a b ns) (is_more rest)) (node l a b ns)) (events_of (pass f (node l a b ns)) s i j all 1 rest)
        (list_sourced (ValueTold spec) (enter f s i j all (ends_named all) 0 (node l a b ns) (is_more rest)) (specified f declaring.Variable i j) l a b ns t x e g refl
        (value_by spec c.source (part_source all old) refl refl h) q)))

    constant_step : (c : Context) (o : Option ℕ) (k : ℕ) (old : Option Tree) (i j : ℕ) (ps : Trees) → Derives kts (category.Specification declaring.Constant) (node (kind.Specification declaring.Constant) i j ps)
        → c.source ≡ own_source o declaring.Constant i ps → SourceTold o old → Lies c (node (kind.Specification declaring.Constant) i j ps) → Step declaring.Constant k c.source old (node (kind.Specification declaring.Constant) i j ps)
    constant_step c o k old i j none h e g w = absurd h.1
    constant_step c o k old i j (skip ps) h e g w = absurd h.1
    constant_step c o k old i j (more u none) h e g w = absurd h.1.2
    constant_step c o k old i j (more u (skip (more q us))) h e g w = absurd h.1.2.2
    constant_step c o k old i j (more u (skip (skip us))) h e g w = absurd h.1.2.2
    constant_step c o k old i j (more u (more q (more v us))) h e g w = absurd h.1.2.2
    constant_step c o k old i j (more u (more q (skip us))) h e g w = absurd h.1.2.2
    constant_step c o k old i j (more (node l a b ns) (skip none)) h e g w =
        let next : SourceTold c.source old = subst (λ x. SourceTold x old) (sym e) g in
        let named = are_names (node l a b ns) h.1.1 in
        record { next = next; one = constant_names c k i j a b l ns (skip none) old named.0 named.1 next w }
    constant_step c o k old i j (more (node l a b ns) (more q none)) h e g w =
        let s : Kind = kind.Specification declaring.Constant in
        let u : Tree = node l a b ns in
        let all : Trees = more u (more q none) in
        let f : Context = begin c s in
        let x = around_parts es c s i j all w.around in
        let plain : NoType i = subst NoType (sym h.1.0) (names_plain (enter f s i j all (ends_named all) 0 u true) (specified f declaring.Constant i j) u h.1.1 refl refl (lies_first f s i j all 0 u (more q none) i w.laid.1 x)) in
        let rest : RestTold i q =
        rest_told i (enter (pass f u) s i j all (ends_named all) 1 q false) q (constant_rest q h.1.2.1) refl refl tt (lies_first (pass f u) s i j all 1 q none b w.laid.1.2 (around_rest es f s i j all 0 u (more q none) i w.laid.1 x)) plain in
        let next : SourceTold c.source (Some q) = (i, e, rest) in
        let named = are_names u h.1.1 in
        record { next = next; one = constant_names c k i j a b l ns (more q none) old named.0 named.1 next w }

    variable_step : (c : Context) (o : Option ℕ) (k : ℕ) (old : Option Tree) (i j : ℕ) (ps : Trees) → Derives kts (category.Specification declaring.Variable) (node (kind.Specification declaring.Variable) i j ps)
        → c.source ≡ own_source o declaring.Variable i ps → Lies c (node (kind.Specification declaring.Variable) i j ps) → Step declaring.Variable k c.source old (node (kind.Specification declaring.Variable) i j ps)
    variable_step c o k old i j none h e w = absurd h.1
    variable_step c o k old i j (skip ps) h e w = absurd h.1
    variable_step c o k old i j (more u none) h e w = absurd h.1.2
    variable_step c o k old i j (more u (skip us)) h e w = absurd h.1.2
    variable_step c o k old i j (more u (more q (more v us))) h e w = absurd h.1.2.2
    variable_step c o k old i j (more u (more q (skip us))) h e w = absurd h.1.2.2
    variable_step c o k old i j (more (node l a b ns) (more q none)) h e w =
        let s : Kind = kind.Specification declaring.Variable in
        let u : Tree = node l a b ns in
        let all : Trees = more u (more q none) in
        let f : Context = begin c s in
        let x = around_parts es c s i j all w.around in
        let plain : NoType i = subst NoType (sym h.1.0) (names_plain (enter f s i j all (ends_named all) 0 u true) (specified f declaring.Variable i j) u h.1.1 refl refl (lies_first f s i j all 0 u (more q none) i w.laid.1 x)) in
        let rest : RestTold i q =
        rest_told i (enter (pass f u) s i j all (ends_named all) 1 q false) q h.1.2.1 refl refl tt (lies_first (pass f u) s i j all 1 q none b w.laid.1.2 (around_rest es f s i j all 0 u (more q none) i w.laid.1 x)) plain in
        let next : SourceTold c.source (Some q) = (i, e, rest) in
        let named = are_names u h.1.1 in
        record { next = next; one = variable_names c k i j a b l ns (more q none) old named.0 named.1 next w }

    type_step : (c : Context) (k : ℕ) (old : Option Tree) (i j : ℕ) (ps : Trees) → Derives kts (category.Specification declaring.Type) (node (kind.Specification declaring.Type) i j ps)
        → Lies c (node (kind.Specification declaring.Type) i j ps) → Step declaring.Type k c.source old (node (kind.Specification declaring.Type) i j ps)
    type_step c k old i j none h w = absurd h.1
    type_step c k old i j (skip ps) h w = absurd h.1
    type_step c k old i j (more u (more q us)) h w = absurd h.1.2
    type_step c k old i j (more u (skip us)) h w = absurd h.1.2
    type_step c k old i j (more u none) h w =
        let s : Kind = kind.Specification declaring.Type in
        let all : Trees = more u none in
        let f : Context = begin c s in
        let inner : Context = enter f s i j all (ends_named all) 0 u false in
        let there : Lies inner u = lies_first f s i j all 0 u none (suc i) w.laid.1 (around_parts es c s i j all w.around) in
        let spec : Specification = specification_of n declaring.Type k old (node s i j all) in
        let right : EachNeed (told_ways ms n ts es i) type_place u = right_told ms n ts es apart kts i inner u h.1.1 refl tt there.laid there.around in
        let whole : TypeTold spec (Some i) = record { number = i; is = refl; right = λ t e. subst (EachNeed (told_ways ms n ts es i) type_place) (some_tree u t e) right } in
        record {
          next = tt;
          one = λ t x q. only_first t i x q
              (λ y z. any_there (λ d. (d.name ≡ t) × TypeTold spec d.source) es (own_events c s i j all) i (suc i) (around_own es c s i j all w.laid w.around) (inl (sym y, whole)));
        }

    spec_step : (s : Sort) (c : Context) (o : Option ℕ) (k : ℕ) (old : Option Tree) (p : Tree) → Derives kts (category.Specification s) p → c.source ≡ source_of o (kind_of p) (first p) (parts p) → Held s o old → Lies c p → Step s k c.source old p
    spec_step declaring.Constant c o k old (node (kind.Specification declaring.Constant) i j ps) h e g w = constant_step c o k old i j ps h e g w
    spec_step declaring.Variable c o k old (node (kind.Specification declaring.Variable) i j ps) h e g w = variable_step c o k old i j ps h e w
    spec_step declaring.Type c o k old (node (kind.Specification declaring.Type) i j ps) h e g w = type_step c k old i j ps h w
    spec_step s c o k old (node l i j ps) h e g w = absurd (true_false false h.0 refl)

    -- ---- groups

    group_sourced : (s : Sort) (c : Context) (l : Kind) (i j : ℕ) (all : Trees) (m k : ℕ) (old : Option Tree) (ps : Trees) (lo : ℕ) → AllDerived kts (category.Specification s) ps → Held s c.source old → LieIn lo j ps
        → Around es (events_of c l i j all m ps) lo j → AreSourced (grouped n s k old ps)
    group_sourced s c l i j all m k old none lo h g w a = tt
    group_sourced s c l i j all m k old (skip ps) lo h g w a = absurd h
    group_sourced s c l i j all m k old (more p ps) lo h g w a =
        let inner : Context = enter c l i j all (ends_named all) m p (is_more ps) in
        let step : Step s k inner.source old p = spec_step s inner c.source k old p h.0 refl g (lies_first c l i j all m p ps lo w a) in
        (step.one, group_sourced s (pass c p) l i j all (suc m) (suc k) (source_behind old p) ps (last p) h.1 step.next w.2 (around_rest es c l i j all m p ps lo w a))

    nothing_held : (s : Sort) → Held s None None
    nothing_held declaring.Constant = refl
    nothing_held declaring.Type = tt
    nothing_held declaring.Variable = refl

    -- the body of a declaration
    body_sourced : (s : Sort) (c : Context) (b : Tree) → Derives kts (category.DeclarationBody s) b → c.source ≡ source_of None (kind_of b) (first b) (parts b) → Lies c b → AreSourced (declared n s (more b none))
    body_sourced s c (node (kind.Specification t) i j ps) h e w =
        let same : t ≡ s = same_sort s t h.0 in
        let q : Derives kts (category.Specification s) (node (kind.Specification t) i j ps) = (h.0, h.1, h.2, refl) in
        ((spec_step s c None 0 None (node (kind.Specification t) i j ps) q e (nothing_held s) w).one, tt)
    body_sourced s c (node (kind.Group t) i j ps) h e w =
        let same : t ≡ s = same_sort s t h.0 in
        let g : Kind = kind.Group t in
        let each : AllDerived kts (category.Specification s) ps = subst (λ u. AllDerived kts (category.Specification u) ps) same (many_derived kts _ _ ps i j h.1) in
        group_sourced s (begin c g) g i j ps 0 0 None ps i each (subst (λ o. Held s o None) (sym e) (nothing_held s)) w.laid.1 (around_parts es c g i j ps w.around)
    body_sourced s c (node k i j ps) h e w = absurd (true_false false h.0 refl)

    -- ---- functions

    function_plain : (i j : ℕ) (b : Bool) → EachDeclared (λ x. x.name ≡ i → is_type x.entity ≡ false) (function_events i j b)
    function_plain i j true = (λ e. refl, tt)
    function_plain i j false = (λ e. refl, tt)

    function_there : (P : Declaration → Type 0) (i j : ℕ) (b : Bool) → AnyDeclared P (function_events i j true) → AnyDeclared P (function_events i j b)
    function_there P i j true h = h
    function_there P i j false (inl h) = inl h
    function_there P i j false (inr h) = absurd h

    function_sourced : (c : Context) (i j : ℕ) (ps : Trees) → Derives kts category.Declaration (node kind.FunctionDeclaration i j ps) → Lies c (node kind.FunctionDeclaration i j ps)
        → IsSourced (function n (node kind.FunctionDeclaration i j ps) i j ps)
    function_sourced c i j none h w = absurd h.1
    function_sourced c i j (skip ps) h w = absurd h.1
    function_sourced c i j (more u ps) h w =
        let k : Kind = kind.FunctionDeclaration in
        let all : Trees = more u ps in
        let f : Context = begin c k in
        let body : Bool = is_there (part_at all 1) in
        let inner : Context = enter f k i j all (ends_named all) 0 u (is_more ps) in
        let own : List Event = own_events c k i j all in
        let a : Around es own i (suc (suc i)) = around_own es c k i j all w.laid w.around in
        let is : own ≡ function_events i j body = ap (λ b. if b then function_events i j body else []) (lt-ltb i j w.laid.0) in
        let there : Lies inner u = lies_first f k i j all 0 u ps (suc (suc i)) w.laid.1 (around_parts es c k i j all w.around) in
        let spec : Specification = function n (node k i j all) i j all in
        let plain : NoType i =
        only_there es own i (suc (suc i)) i (λ x. is_type x.entity ≡ false) a (omega arith) (omega arith) (subst (EachDeclared (λ x. x.name ≡ i → is_type x.entity ≡ false)) (sym is) (function_plain i j body)) in
        let signature : InType i u = names_told ms n ts es apart (site.Type i) (type_fixed i) inner u refl tt (signature_is_simple kts u h.1.1) there.laid there.around in
        let whole : ValueTold spec (Some i) = record {
          type = λ t e. (i, refl, subst (InType i) (some_tree u t e) signature);
          values = λ x v e. no_value x v e;
          plain = λ s e. subst NoType (same_source i s e) plain;
        } in
        λ t x q. only_first t (suc i) x q
        (λ y z. any_there (λ d. (d.name ≡ t) × ValueTold spec d.source) es own i (suc (suc i)) a
        (subst (AnyDeclared (λ d. (d.name ≡ t) × ValueTold spec d.source)) (sym is) (function_there (λ d. (d.name ≡ t) × ValueTold spec d.source) i j body (inl (sym y, whole)))))
      where
        no_value : {P : Type 0} (x : ℕ) (y : Tree) → slice_get no_trees x ≡ Some y → P
        no_value x y g = absurd cc

        same_source : (a b : ℕ) → ◌≡◌ {A = Option ℕ} (Some a) (Some b) → a ≡ b
        same_source a b f = cc

    -- ---- declarations

    body_declared : (s : Sort) (c : Context) (i j : ℕ) (ps : Trees) → Spells kts (Then (sort_word s ∷ []) (category.DeclarationBody s) (End [])) i ps j → c.source ≡ None → LieIn i j ps
        → Around es (events_of c (kind.Declaration s) i j ps 0 ps) i j → AreSourced (declared n s ps)
    body_declared s c i j none h e l a = absurd h
    body_declared s c i j (skip ps) h e l a = absurd h
    body_declared s c i j (more b (more q ps)) h e l a = absurd h.2
    body_declared s c i j (more b (skip ps)) h e l a = absurd h.2
    body_declared s c i j (more b none) h e l a =
        body_sourced s (enter c (kind.Declaration s) i j (more b none) (ends_named (more b none)) 0 b false) b h.1 (ap (λ o. source_of o (kind_of b) (first b) (parts b)) e)
        (lies_first c (kind.Declaration s) i j (more b none) 0 b none i l a)

    declaration_sourced : (c : Context) (t : Tree) → Derives kts category.Declaration t → Lies c t → AreSourced (declaration n t)
    declaration_sourced c (node (kind.Declaration s) i j ps) h w = body_declared s (begin c (kind.Declaration s)) i j ps h.1 refl w.laid.1 (around_parts es c (kind.Declaration s) i j ps w.around)
    declaration_sourced c (node kind.FunctionDeclaration i j ps) h w = (function_sourced c i j ps h w, tt)
    declaration_sourced c (node k i j ps) h w = absurd (true_false false h.0 refl)

    row_sourced : (c : Context) (i j : ℕ) (all : Trees) (m : ℕ) (ps : Trees) (lo : ℕ) → AllDerived kts category.Declaration ps → LieIn lo j ps → Around es (events_of c kind.File i j all m ps) lo j → AreSourced (declarations n ps)
    row_sourced c i j all m none lo h l a = tt
    row_sourced c i j all m (skip ps) lo h l a = absurd h
    row_sourced c i j all m (more p ps) lo h l a =
        sourced_append (declaration n p) (declarations n ps) (declaration_sourced (enter c kind.File i j all (ends_named all) m p (is_more ps)) p h.0 (lies_first c kind.File i j all m p ps lo l a))
        (row_sourced (pass c p) i j all (suc m) ps (last p) h.1 l.2 (around_rest es c kind.File i j all m p ps lo l a))

    file_by : (c : Context) (i j : ℕ) (ps : Trees) → Derives kts category.File (node kind.File i j ps) → LieIn i j ps → Around es (events_of c kind.File i j ps 0 ps) i j → AreSourced (declarations n ps)
    file_by c i j none h l a = absurd h.1
    file_by c i j (skip ps) h l a = row_sourced c i j (skip ps) 1 ps i (many_derived kts _ _ ps h.1.0 j h.1.2) l a
    file_by c i j (more p ps) h l a =
        sourced_append (declaration n p) (declarations n ps) (subst AreSourced (sym (no_specifications kts n p h.1.1)) tt)
        (row_sourced (pass c p) i j (more p ps) 1 ps (last p) (many_derived kts _ _ ps (last p) j h.1.2) l.2 (around_rest es c kind.File i j (more p ps) 0 p ps i l a))

    whole_around : (i j : ℕ) → Around es es i j
    whole_around i j = record { before = []; after = []; end = j; whole = sym (append-nil es); below = omega arith; above = omega arith }

    -- each name of a specification of the file is declared with such a source
    pub file_sourced : (t : Tree) → IsFile kts t → es ≡ events (file_context (last t)) t → AreSourced (in_file n t)
    file_sourced (node kind.File i j ps) f e =
        let c : Context = file_context j in
        let laid : IsLaidOut (node kind.File i j ps) = derives_laid kts (node kind.File i j ps) category.File f.derives in
        file_by (begin c kind.File) i j ps f.derives laid.1 (around_parts es c kind.File i j ps (subst (λ xs. Around es xs i j) e (whole_around i j)))
    file_sourced (node k i j ps) f e = absurd (true_false false f.derives.0 refl)
