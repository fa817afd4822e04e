-- What a file tells of the names that its specifications declare.
use Rattle.std.proofs.Common.{◌≡◌, ℕ, suc, ◌+◌, ◌<◌, ◌⊎◌, inl, inr, Bool, true, false, nat_eq, List, [], ◌∷◌, ◌++◌, Option, Some, None, refl, sym, ap, subst, arith}
use Rattle.std.specs.Prelude.{if◌then◌else◌}
use Rattle.std.proofs.lemmas.Bool.{eqb-true, lt-ltb}
use Rattle.go_tokens.specs.declared.token.TokenKind.{TokenKind}
use Rattle.go_tokens.specs.declared.token.TokenKind.TheVariants as token
use Rattle.go_grammar.specs.declared.kind.Kind.{Kind}
use Rattle.go_grammar.specs.declared.kind.Kind.TheVariants as kind
use Rattle.go_grammar.specs.declared.kind.Sort.{Sort}
use Rattle.go_grammar.specs.declared.kind.Sort.TheVariants as declaring
use Rattle.go_grammar.specs.declared.kind.Category.TheVariants as category
use Rattle.go_grammar.specs.Categories.{is_sort}
use Rattle.go_grammar.specs.Operators.{sort_word}
use Rattle.go_grammar.specs.Rules.{Again, Each, End, Lines, Many, Rule, Then}
use Rattle.go_grammar.specs.Trees.{Tree, node, Trees, none, more, skip, last}
use Rattle.go_grammar.specs.Grammar.{IsFile, Derives, Spells, Goes, ends_named}
use Rattle.go_tree.specs.declared.context.Naming.{Naming}
use Rattle.go_tree.specs.declared.context.Role.{Role}
use Rattle.go_tree.specs.declared.context.Role.TheVariants as role
use Rattle.go_tree.specs.declared.context.Context.{Context}
use Rattle.go_tree.specs.declared.event.Declaration.{Declaration}
use Rattle.go_tree.specs.declared.event.Event.{Event}
use Rattle.go_tree.specs.declared.event.Event.TheVariants as event
use Rattle.go_tree.specs.Contexts.{enter, file_context, specified, is_there}
use Rattle.go_tree.specs.Events.{statement_events, own_events, function_events, is_more, pass, begin, events, events_of}
use Rattle.go_tree.specs.Views.{part_at}
use Rattle.go_package_defs.specs.Declarations.{Specification, first_tokens, name_tokens, specification_of, source_behind, grouped, declared, declaration, declarations, in_file}
use Rattle.go_package_defs.specs.Knowledge.{is_type, following, place_of}
use Rattle.go_scopes_events.proofs.Public.{derives_laid, laid_grows, true_false}

-- ---- a declaration that is told

abbrev pub AnyDeclared : (Declaration → Type 0) → List Event → Type 0
AnyDeclared P [] = ⊥
AnyDeclared P (event.Declaration d ∷ es) = P d ⊎ AnyDeclared P es
AnyDeclared P (e ∷ es) = AnyDeclared P es

pub any_front : (P : Declaration → Type 0) (es fs : List Event) → AnyDeclared P es → AnyDeclared P (es ++ fs)
any_front P [] fs h = absurd h
any_front P (event.Declaration d ∷ es) fs (inl h) = inl h
any_front P (event.Declaration d ∷ es) fs (inr h) = inr (any_front P es fs h)
any_front P (e ∷ es) fs h = any_front P es fs h

pub any_behind : (P : Declaration → Type 0) (es fs : List Event) → AnyDeclared P fs → AnyDeclared P (es ++ fs)
any_behind P [] fs h = h
any_behind P (event.Declaration d ∷ es) fs h = inr (any_behind P es fs h)
any_behind P (e ∷ es) fs h = any_behind P es fs h

-- The declaration is by the name at this token, as the name of this number, and whether of a type.
pub record IsNamed (t c : ℕ) (b : Bool) (d : Declaration) : Type 0 where
  pub name : d.name ≡ t
  pub column : d.column ≡ c
  pub entity : is_type d.entity ≡ b

-- A specification stands in the file n, and each of its names is declared there.
pub record IsTold (es : List Event) (n : ℕ) (x : Specification) : Type 0 where
  pub file : x.file ≡ n
  pub names : (t c : ℕ) → place_of t x.names ≡ Some c → AnyDeclared (IsNamed t c (is_type x.entity)) es

abbrev pub AreTold : List Event → ℕ → List Specification → Type 0
AreTold es n [] = Unit {0}
AreTold es n (x ∷ xs) = IsTold es n x × AreTold es n xs

abbrev Grows : List Event → List Event → Type 1
Grows es fs = (P : Declaration → Type 0) → AnyDeclared P es → AnyDeclared P fs

one_more : (es fs : List Event) → Grows es fs → (n : ℕ) (x : Specification) → IsTold es n x → IsTold fs n x
one_more es fs f n x h = record { file = h.file; names = λ t c e. f (IsNamed t c (is_type x.entity)) (h.names t c e) }

told_more : (es fs : List Event) → Grows es fs → (n : ℕ) (xs : List Specification) → AreTold es n xs → AreTold fs n xs
told_more es fs f n [] h = tt
told_more es fs f n (x ∷ xs) h = (one_more es fs f n x h.0, told_more es fs f n xs h.1)

told_append : (es : List Event) (n : ℕ) (xs ys : List Specification) → AreTold es n xs → AreTold es n ys → AreTold es n (xs ++ ys)
told_append es n [] ys h g = g
told_append es n (x ∷ xs) ys h g = (h.0, told_append es n xs ys h.1 g)

front : (es fs : List Event) → Grows es (es ++ fs)
front es fs P h = any_front P es fs h

behind : (es fs : List Event) → Grows fs (es ++ fs)
behind es fs P h = any_behind P es fs h

-- ---- lists of names

abbrev pub AreNames : Trees → Type 0
AreNames none = Unit {0}
AreNames (more (node k i j qs) ps) = (k ≡ kind.DeclaredName) × (qs ≡ none) × AreNames ps
AreNames (skip ps) = ⊥

-- the place of a name in a list
pub place_by : {P : Type 0} (t i k : ℕ) (ts : List ℕ) → place_of t (i ∷ ts) ≡ Some k → (t ≡ i → k ≡ 0 → P) → ((l : ℕ) → place_of t ts ≡ Some l → k ≡ suc l → P) → P
place_by {P} t i k ts e f g = by (nat_eq t i) refl e
  where
    some_number : (a b : ℕ) → ◌≡◌ {A = Option ℕ} (Some a) (Some b) → b ≡ a
    some_number a b q = cc

    next : (o : Option ℕ) → place_of t ts ≡ o → following o ≡ Some k → P
    next None q h = absurd cc
    next (Some l) q h = g l q (some_number (suc l) k h)

    by : (b : Bool) → nat_eq t i ≡ b → (if b then Some 0 else following (place_of t ts)) ≡ Some k → P
    by true q h = f (eqb-true t i q) (some_number 0 k h)
    by false q h = next (place_of t ts) refl h

one_told : (c : Context) (d : Naming) (i j : ℕ) (qs : Trees) (t k : ℕ) → c.role ≡ role.New d → t ≡ i → c.column ≡ k → AnyDeclared (IsNamed t k (is_type d.entity)) (events c (node kind.DeclaredName i j qs))
one_told c d i j qs t k r e q =
    let own : List Event = own_events c kind.DeclaredName i j qs in
    any_front (IsNamed t k (is_type d.entity)) (statement_events c.listed i j ++ own) (events_of (begin c kind.DeclaredName) kind.DeclaredName i j qs 0 qs)
    (any_behind (IsNamed t k (is_type d.entity)) (statement_events c.listed i j) own (told c.role r))
  where
    told : (x : Role) → x ≡ role.New d → AnyDeclared (IsNamed t k (is_type d.entity)) (own_events (record c { role = x }) kind.DeclaredName i j qs)
    told x w = subst (λ (y : Role). AnyDeclared (IsNamed t k (is_type d.entity)) (own_events (record c { role = y }) kind.DeclaredName i j qs)) (sym w) (inl (record { name = sym e; column = q; entity = refl }))

names_told : (c : Context) (d : Naming) (i j : ℕ) (all : Trees) (m : ℕ) (ps : Trees) (t k : ℕ) → c.role ≡ role.New d → AreNames ps → place_of t (first_tokens ps) ≡ Some k
    → AnyDeclared (IsNamed t (m + k) (is_type d.entity)) (events_of c kind.NameList i j all m ps)
names_told c d i j all m none t k r h e = absurd cc
names_told c d i j all m (skip ps) t k r h e = absurd h
names_told c d i j all m (more (node l a b qs) ps) t k r h e =
    let p : Tree = node l a b qs in
    let inner : Context = enter c kind.NameList i j all (ends_named all) m p (is_more ps) in
    let own : List Event = events inner p in
    let rest : List Event = events_of (pass c p) kind.NameList i j all (suc m) ps in
    let P : Declaration → Type 0 = IsNamed t (m + k) (is_type d.entity) in
    let more_told : (x : ℕ) → place_of t (first_tokens ps) ≡ Some x → AnyDeclared (IsNamed t (suc m + x) (is_type d.entity)) rest = λ x q. names_told (pass c p) d i j all (suc m) ps t x r h.2 q in
    place_by t a k (first_tokens ps) e
    (λ s z.
    let number : m ≡ m + k = omega (arith, z) in
    any_front P own rest (subst (λ (y : Kind). AnyDeclared P (events (enter c kind.NameList i j all (ends_named all) m (node y a b qs) (is_more ps)) (node y a b qs))) (sym h.0)
    (one_told (enter c kind.NameList i j all (ends_named all) m (node kind.DeclaredName a b qs) (is_more ps)) d a b qs t (m + k) r s number)))
    (λ x q z.
    let number : suc m + x ≡ m + k = omega (arith, z) in
    any_behind P own rest (subst (λ y. AnyDeclared (IsNamed t y (is_type d.entity)) rest) number (more_told x q)))

-- ---- specifications of constants and variables

-- A list of names stands in front.
abbrev pub BeginsNamed : Trees → Type 0
BeginsNamed none = Unit {0}
BeginsNamed (more (node k i j ns) ps) = (k ≡ kind.NameList) × AreNames ns
BeginsNamed (skip ps) = Unit {0}

abbrev Names : Context → Sort → ℕ → ℕ → Naming
Names c s i j = specified c s i j

constants_told : (c : Context) (i j : ℕ) (ps : Trees) (t k : ℕ) → BeginsNamed ps → place_of t (name_tokens ps) ≡ Some k
    → AnyDeclared (IsNamed t k false) (events c (node (kind.Specification declaring.Constant) i j ps))
constants_told c i j none t k h e = absurd cc
constants_told c i j (skip ps) t k h e = absurd cc
constants_told c i j (more (node l a b ns) ps) t k h e =
    let s : Kind = kind.Specification declaring.Constant in
    let all : Trees = more (node l a b ns) ps in
    let f : Context = begin c s in
    let own : List Event = statement_events c.listed i j ++ own_events c s i j all in
    let P : Declaration → Type 0 = IsNamed t k false in
    let zeroth : 0 + k ≡ k = omega arith in
    any_behind P own (events_of f s i j all 0 all)
    (any_front P (events (enter f s i j all (ends_named all) 0 (node l a b ns) (is_more ps)) (node l a b ns)) (events_of (pass f (node l a b ns)) s i j all 1 ps)
    (subst (λ (y : Kind). AnyDeclared P (events (enter f s i j all (ends_named all) 0 (node y a b ns) (is_more ps)) (node y a b ns))) (sym h.0)
    (let g : Context = enter f s i j all (ends_named all) 0 (node kind.NameList a b ns) (is_more ps) in
    any_behind P (statement_events g.listed a b ++ own_events g kind.NameList a b ns) (events_of (begin g kind.NameList) kind.NameList a b ns 0 ns)
    (subst (λ m. AnyDeclared (IsNamed t m false) (events_of (begin g kind.NameList) kind.NameList a b ns 0 ns)) zeroth
    (names_told (begin g kind.NameList) (Names f declaring.Constant i j) a b ns 0 ns t k refl h.1 e)))))

variables_told : (c : Context) (i j : ℕ) (ps : Trees) (t k : ℕ) → BeginsNamed ps → place_of t (name_tokens ps) ≡ Some k
    → AnyDeclared (IsNamed t k false) (events c (node (kind.Specification declaring.Variable) i j ps))
variables_told c i j none t k h e = absurd cc
variables_told c i j (skip ps) t k h e = absurd cc
variables_told c i j (more (node l a b ns) ps) t k h e =
    let s : Kind = kind.Specification declaring.Variable in
    let all : Trees = more (node l a b ns) ps in
    let f : Context = begin c s in
    let own : List Event = statement_events c.listed i j ++ own_events c s i j all in
    let P : Declaration → Type 0 = IsNamed t k false in
    let zeroth : 0 + k ≡ k = omega arith in
    any_behind P own (events_of f s i j all 0 all)
    (any_front P (events (enter f s i j all (ends_named all) 0 (node l a b ns) (is_more ps)) (node l a b ns)) (events_of (pass f (node l a b ns)) s i j all 1 ps)
    (subst (λ (y : Kind). AnyDeclared P (events (enter f s i j all (ends_named all) 0 (node y a b ns) (is_more ps)) (node y a b ns))) (sym h.0)
    (let g : Context = enter f s i j all (ends_named all) 0 (node kind.NameList a b ns) (is_more ps) in
    any_behind P (statement_events g.listed a b ++ own_events g kind.NameList a b ns) (events_of (begin g kind.NameList) kind.NameList a b ns 0 ns)
    (subst (λ m. AnyDeclared (IsNamed t m false) (events_of (begin g kind.NameList) kind.NameList a b ns 0 ns)) zeroth
    (names_told (begin g kind.NameList) (Names f declaring.Variable i j) a b ns 0 ns t k refl h.1 e)))))

-- a type
pub only_first : {P : Type 0} (t i k : ℕ) → place_of t (i ∷ []) ≡ Some k → (t ≡ i → k ≡ 0 → P) → P
only_first t i k e f = place_by t i k [] e f (λ l q z. absurd cc)

type_told : (c : Context) (i j : ℕ) (ps : Trees) (t k : ℕ) → place_of t (i ∷ []) ≡ Some k → AnyDeclared (IsNamed t k true) (events c (node (kind.Specification declaring.Type) i j ps))
type_told c i j ps t k e =
    let s : Kind = kind.Specification declaring.Type in
    let P : Declaration → Type 0 = IsNamed t k true in
    only_first t i k e (λ q z.
    any_front P (statement_events c.listed i j ++ own_events c s i j ps) (events_of (begin c s) s i j ps 0 ps)
    (any_behind P (statement_events c.listed i j) (own_events c s i j ps) (inl (record { name = sym q; column = sym z; entity = refl }))))

-- ---- what the trees of a group are

-- It is a specification of this sort, and one of constants or variables begins with its names.
abbrev pub SpecifiesNames : Sort → Trees → Type 0
SpecifiesNames declaring.Type ps = Unit {0}
SpecifiesNames s ps = BeginsNamed ps

abbrev pub Specifies : Sort → Tree → Type 0
Specifies s (node k i j ps) = (k ≡ kind.Specification s) × SpecifiesNames s ps

abbrev pub AreSpecified : Sort → Trees → Type 0
AreSpecified s none = Unit {0}
AreSpecified s (more p ps) = Specifies s p × AreSpecified s ps
AreSpecified s (skip ps) = AreSpecified s ps

one_specified : (c : Context) (n : ℕ) (s : Sort) (k : ℕ) (r : Option Tree) (p : Tree) → Specifies s p → IsTold (events c p) n (specification_of n s k r p)
one_specified c n declaring.Constant k r (node l i j ps) h =
    subst (λ (y : Kind). IsTold (events c (node y i j ps)) n (specification_of n declaring.Constant k r (node y i j ps))) (sym h.0)
    (record { file = refl; names = λ t x e. constants_told c i j ps t x h.1 e })
one_specified c n declaring.Variable k r (node l i j ps) h =
    subst (λ (y : Kind). IsTold (events c (node y i j ps)) n (specification_of n declaring.Variable k r (node y i j ps))) (sym h.0)
    (record { file = refl; names = λ t x e. variables_told c i j ps t x h.1 e })
one_specified c n declaring.Type k r (node l i j ps) h =
    subst (λ (y : Kind). IsTold (events c (node y i j ps)) n (specification_of n declaring.Type k r (node y i j ps))) (sym h.0)
    (record { file = refl; names = λ t x e. type_told c i j ps t x e })

group_told : (c : Context) (l : Kind) (i j : ℕ) (all : Trees) (m n : ℕ) (s : Sort) (k : ℕ) (r : Option Tree) (ps : Trees) → AreSpecified s ps → AreTold (events_of c l i j all m ps) n (grouped n s k r ps)
group_told c l i j all m n s k r none h = tt
group_told c l i j all m n s k r (skip ps) h = group_told c l i j all (suc m) n s k r ps h
group_told c l i j all m n s k r (more p ps) h =
    let inner : Context = enter c l i j all (ends_named all) m p (is_more ps) in
    let own : List Event = events inner p in
    let rest : List Event = events_of (pass c p) l i j all (suc m) ps in (
      one_more own (own ++ rest) (front own rest) n (specification_of n s k r p) (one_specified inner n s k r p h.0),
      told_more rest (own ++ rest) (behind own rest) n (grouped n s (suc k) (source_behind r p) ps) (group_told (pass c p) l i j all (suc m) n s (suc k) (source_behind r p) ps h.1),
    )

-- ---- derivations

pub same_sort : (s t : Sort) → is_sort s t ≡ true → t ≡ s
same_sort declaring.Constant declaring.Constant e = refl
same_sort declaring.Type declaring.Type e = refl
same_sort declaring.Variable declaring.Variable e = refl
same_sort s t e = absurd cc

module _ (ts : List TokenKind) where
  one_name : (p : Tree) → Derives ts category.DeclaredName p → (ps : Trees) → AreNames ps → AreNames (more p ps)
  one_name (node kind.DeclaredName i j none) h ps g = (refl, refl, g)
  one_name (node kind.DeclaredName i j (more q qs)) h ps g = absurd h.1
  one_name (node kind.DeclaredName i j (skip qs)) h ps g = absurd h.1
  one_name (node k i j qs) h ps g = absurd (true_false false h.0 refl)

  more_names : (ps : Trees) (i j : ℕ) → Goes ts (Again category.DeclaredName token.Comma) i ps j → AreNames ps
  more_names none i j h = tt
  more_names (more p ps) i j h = one_name p h.3 ps (more_names ps (last p) j h.4)
  more_names (skip ps) i j h = absurd h

  further_names : (ps : Trees) (i j : ℕ) → Spells ts (Many [] (Again category.DeclaredName token.Comma)) i ps j → AreNames ps
  further_names none i j h = tt
  further_names (more p ps) i j h = one_name p h.3 ps (more_names ps (last p) j h.4)
  further_names (skip ps) i j h = absurd h

  pub all_names : (ps : Trees) (i j : ℕ) → Spells ts (Then [] category.DeclaredName (Many [] (Again category.DeclaredName token.Comma))) i ps j → AreNames ps
  all_names none i j h = absurd h
  all_names (more p ps) i j h = one_name p h.1 ps (further_names ps (last p) j h.2)
  all_names (skip ps) i j h = absurd h

  name_list : (p : Tree) (ps : Trees) → Derives ts category.NameList p → BeginsNamed (more p ps)
  name_list (node kind.NameList i j ns) ps h = (refl, all_names ns i j h.1)
  name_list (node k i j ns) ps h = absurd (true_false false h.0 refl)

  pub begins_named : (r : Rule) (ps : Trees) (i j : ℕ) → Spells ts (Then [] category.NameList r) i ps j → BeginsNamed ps
  begins_named r none i j h = absurd h
  begins_named r (more p ps) i j h = name_list p ps h.1
  begins_named r (skip ps) i j h = absurd h

  specifies : (s : Sort) (i j : ℕ) (ps : Trees) → Derives ts (category.Specification s) (node (kind.Specification s) i j ps) → SpecifiesNames s ps
  specifies declaring.Constant i j ps h = begins_named _ ps i j h.1
  specifies declaring.Variable i j ps h = begins_named _ ps i j h.1
  specifies declaring.Type i j ps h = tt

  pub specified_by : (s : Sort) (p : Tree) → Derives ts (category.Specification s) p → Specifies s p
  specified_by s (node (kind.Specification t) i j ps) h =
      let same : t ≡ s = same_sort s t h.0 in
      let d : Derives ts (category.Specification s) (node (kind.Specification s) i j ps) = subst (λ u. Derives ts (category.Specification s) (node (kind.Specification u) i j ps)) same h in
      (ap (λ u. kind.Specification u) same, specifies s i j ps d)
  specified_by s (node k i j ps) h = absurd (true_false false h.0 refl)

  rest_specified : (s : Sort) (ps : Trees) (i j : ℕ) → Goes ts (Lines false (category.Specification s) token.Semicolon token.RightParenthesis) i ps j → AreSpecified s ps
  rest_specified s none i j h = tt
  rest_specified s (more p ps) i j h = (specified_by s p h.3, rest_specified s ps (last p) j h.4)
  rest_specified s (skip ps) i j h = absurd h

  pub all_specified : (s : Sort) (ps : Trees) (i j : ℕ) → Spells ts (Many (token.LeftParenthesis ∷ []) (Lines false (category.Specification s) token.Semicolon token.RightParenthesis)) i ps j → AreSpecified s ps
  all_specified s none i j h = tt
  all_specified s (more p ps) i j h = (specified_by s p h.3, rest_specified s ps (last p) j h.4)
  all_specified s (skip ps) i j h = absurd h

  -- the body of a declaration
  body_told : (c : Context) (n : ℕ) (s : Sort) (b : Tree) → Derives ts (category.DeclarationBody s) b → AreTold (events c b) n (declared n s (more b none))
  body_told c n s (node (kind.Specification t) i j ps) h =
      let same : t ≡ s = same_sort s t h.0 in
      let whole : Derives ts (category.DeclarationBody s) (node (kind.Specification s) i j ps) = subst (λ u. Derives ts (category.DeclarationBody s) (node (kind.Specification u) i j ps)) same h in
      (one_specified c n s 0 None (node (kind.Specification t) i j ps) (ap (λ u. kind.Specification u) same, body_names s i j ps whole), tt)
    where
      body_names : (u : Sort) (a e : ℕ) (qs : Trees) → Derives ts (category.DeclarationBody u) (node (kind.Specification u) a e qs) → SpecifiesNames u qs
      body_names declaring.Constant a e qs g = begins_named _ qs a e g.1
      body_names declaring.Variable a e qs g = begins_named _ qs a e g.1
      body_names declaring.Type a e qs g = tt
  body_told c n s (node (kind.Group t) i j ps) h =
      let same : t ≡ s = same_sort s t h.0 in
      let g : Kind = kind.Group t in
      let own : List Event = statement_events c.listed i j ++ own_events c g i j ps in
      let rest : List Event = events_of (begin c g) g i j ps 0 ps in
      let specified : AreSpecified s ps = subst (λ u. AreSpecified u ps) same (all_specified t ps i j h.1) in
      told_more rest (own ++ rest) (behind own rest) n (grouped n s 0 None ps) (group_told (begin c g) g i j ps 0 n s 0 None ps specified)
  body_told c n s (node k i j ps) h = absurd (true_false false h.0 refl)

  body_declared : (c : Context) (n : ℕ) (s : Sort) (i j : ℕ) (ps : Trees) → Spells ts (Then (sort_word s ∷ []) (category.DeclarationBody s) (End [])) i ps j
      → AreTold (events_of c (kind.Declaration s) i j ps 0 ps) n (declared n s ps)
  body_declared c n s i j none h = absurd h
  body_declared c n s i j (skip ps) h = absurd h
  body_declared c n s i j (more b (more q ps)) h = absurd h.2
  body_declared c n s i j (more b (skip ps)) h = absurd h.2
  body_declared c n s i j (more b none) h =
      let inner : Context = enter c (kind.Declaration s) i j (more b none) (ends_named (more b none)) 0 b false in
      told_more (events inner b) (events inner b ++ []) (front (events inner b) []) n (declared n s (more b none)) (body_told inner n s b h.1)

  -- a function
  function_told : (c : Context) (i j : ℕ) (ps : Trees) (t k : ℕ) → i < j → place_of t (suc i ∷ []) ≡ Some k → AnyDeclared (IsNamed t k false) (events c (node kind.FunctionDeclaration i j ps))
  function_told c i j ps t k l e =
      let s : Kind = kind.FunctionDeclaration in
      let P : Declaration → Type 0 = IsNamed t k false in
      only_first t (suc i) k e (λ q z.
      any_front P (statement_events c.listed i j ++ own_events c s i j ps) (events_of (begin c s) s i j ps 0 ps)
      (any_behind P (statement_events c.listed i j) (own_events c s i j ps)
      (subst (λ b. AnyDeclared P (if b then function_events i j (is_there (part_at ps 1)) else [])) (sym (lt-ltb i j l)) (told (is_there (part_at ps 1)) q z))))
    where
      told : (b : Bool) → t ≡ suc i → k ≡ 0 → AnyDeclared (IsNamed t k false) (function_events i j b)
      told true q z = inl (record { name = sym q; column = sym z; entity = refl })
      told false q z = inl (record { name = sym q; column = sym z; entity = refl })

  declaration_told : (c : Context) (n : ℕ) (t : Tree) → Derives ts category.Declaration t → AreTold (events c t) n (declaration n t)
  declaration_told c n (node (kind.Declaration s) i j ps) h =
      let d : Kind = kind.Declaration s in
      let own : List Event = statement_events c.listed i j ++ own_events c d i j ps in
      let rest : List Event = events_of (begin c d) d i j ps 0 ps in
      told_more rest (own ++ rest) (behind own rest) n (declared n s ps) (body_declared (begin c d) n s i j ps h.1)
  declaration_told c n (node kind.FunctionDeclaration i j ps) h =
      let l = laid_grows (node kind.FunctionDeclaration i j ps) (derives_laid ts (node kind.FunctionDeclaration i j ps) category.Declaration h) in
      (record { file = refl; names = λ t k e. function_told c i j ps t k l e }, tt)
  declaration_told c n (node k i j ps) h = absurd (true_false false h.0 refl)

  -- ---- a file

  -- the specifications of each part are told by it, in any context
  abbrev AllTell : ℕ → Trees → Type 0
  AllTell n none = Unit {0}
  AllTell n (more p ps) = ((c : Context) → AreTold (events c p) n (declaration n p)) × AllTell n ps
  AllTell n (skip ps) = AllTell n ps

  row_told : (c : Context) (i j : ℕ) (all : Trees) (m n : ℕ) (ps : Trees) → AllTell n ps → AreTold (events_of c kind.File i j all m ps) n (declarations n ps)
  row_told c i j all m n none h = tt
  row_told c i j all m n (skip ps) h = row_told c i j all (suc m) n ps h
  row_told c i j all m n (more p ps) h =
      let inner : Context = enter c kind.File i j all (ends_named all) m p (is_more ps) in
      let own : List Event = events inner p in
      let rest : List Event = events_of (pass c p) kind.File i j all (suc m) ps in
      told_append (own ++ rest) n (declaration n p) (declarations n ps)
      (told_more own (own ++ rest) (front own rest) n (declaration n p) (h.0 inner))
      (told_more rest (own ++ rest) (behind own rest) n (declarations n ps) (row_told (pass c p) i j all (suc m) n ps h.1))

  goes_tell : (n : ℕ) (ps : Trees) (i j : ℕ) → Goes ts (Each category.Declaration (token.Semicolon ∷ []) []) i ps j → AllTell n ps
  goes_tell n none i j h = tt
  goes_tell n (more p ps) i j h = (λ c. declaration_told c n p h.3, goes_tell n ps (last p) j h.4)
  goes_tell n (skip ps) i j h = absurd h

  many_tell : (n : ℕ) (ps : Trees) (i j : ℕ) → Spells ts (Many [] (Each category.Declaration (token.Semicolon ∷ []) [])) i ps j → AllTell n ps
  many_tell n none i j h = tt
  many_tell n (more p ps) i j h = (λ c. declaration_told c n p h.3, goes_tell n ps (last p) j h.4)
  many_tell n (skip ps) i j h = absurd h

  -- imports specify nothing
  pub no_specifications : (n : ℕ) (p : Tree) → Derives ts category.Imports p → declaration n p ≡ []
  no_specifications n (node kind.Imports i j ps) h = refl
  no_specifications n (node k i j ps) h = absurd (true_false false h.0 refl)

  parts_tell : (n i j : ℕ) (ps : Trees) → Derives ts category.File (node kind.File i j ps) → AllTell n ps
  parts_tell n i j none h = absurd h.1
  parts_tell n i j (skip ps) h = many_tell n ps h.1.0 j h.1.2
  parts_tell n i j (more p ps) h = (λ c. subst (AreTold (events c p) n) (sym (no_specifications n p h.1.1)) tt, many_tell n ps (last p) j h.1.2)

  -- each name of a specification is declared in its file, as the name of this number, and as a type or not
  pub file_told : (n : ℕ) (t : Tree) → IsFile ts t → AreTold (events (file_context (last t)) t) n (in_file n t)
  file_told n (node kind.File i j ps) f =
      let c : Context = file_context j in
      let own : List Event = statement_events c.listed i j ++ own_events c kind.File i j ps in
      let rest : List Event = events_of (begin c kind.File) kind.File i j ps 0 ps in
      told_more rest (own ++ rest) (behind own rest) n (declarations n ps) (row_told (begin c kind.File) i j ps 0 n ps (parts_tell n i j ps f.derives))
  file_told n (node k i j ps) f = absurd (true_false false f.derives.0 refl)
