-- The first name of each specification of a file is declared there, in the package block.
use Rattle.std.proofs.Common.{◌≡◌, ◌∙◌, ℕ, suc, ◌<◌, ◌⊎◌, inl, inr, Bool, true, false, List, [], ◌∷◌, ◌++◌, Option, None, refl, sym, ap, subst}
use Rattle.std.specs.Prelude.{if◌then◌else◌}
use Rattle.std.specs.List.{AllByRecursion}
use Rattle.std.proofs.lemmas.Bool.{lt-ltb}
use Rattle.go_tokens.specs.declared.token.TokenKind.{TokenKind}
use Rattle.go_tokens.specs.declared.token.TokenKind.TheVariants as token
use Rattle.go_grammar.specs.declared.kind.Kind.{Kind}
use Rattle.go_grammar.specs.declared.kind.Kind.TheVariants as kind
use Rattle.go_grammar.specs.declared.kind.Sort.{Sort}
use Rattle.go_grammar.specs.declared.kind.Sort.TheVariants as declaring
use Rattle.go_grammar.specs.declared.kind.Category.TheVariants as category
use Rattle.go_grammar.specs.Categories.{is_sort}
use Rattle.go_grammar.specs.Operators.{sort_word}
use Rattle.go_grammar.specs.Rules.{Again, Each, End, Lines, Many, Rule, Then}
use Rattle.go_grammar.specs.Trees.{Tree, node, Trees, none, more, skip, last}
use Rattle.go_grammar.specs.Grammar.{IsFile, Derives, Spells, Goes, ends_named}
use Rattle.go_tree.specs.declared.context.Block.TheVariants as block
use Rattle.go_tree.specs.declared.context.Naming.{Naming}
use Rattle.go_tree.specs.declared.context.Role.{Role}
use Rattle.go_tree.specs.declared.context.Role.TheVariants as role
use Rattle.go_tree.specs.declared.context.Context.{Context}
use Rattle.go_tree.specs.declared.event.Declaration.{Declaration}
use Rattle.go_tree.specs.declared.event.Event.{Event}
use Rattle.go_tree.specs.declared.event.Event.TheVariants as event
use Rattle.go_tree.specs.Contexts.{enter, file_context, is_package, is_there, opens, specified}
use Rattle.go_tree.specs.Events.{statement_events, own_events, function_events, is_more, pass, begin, events, events_of}
use Rattle.go_tree.specs.Views.{part_at}
use Rattle.go_package_defs.specs.Declarations.{Specification, first_tokens, name_tokens, specification_of, source_behind, grouped, declared, declaration, declarations, in_file}
use Rattle.go_package_defs.specs.Verdicts.{first_name}
use Rattle.go_scopes_events.proofs.Public.{derives_laid, laid_grows, true_false}

-- ---- a declaration that is told

abbrev pub AnyDeclared : (Declaration → Type 0) → List Event → Type 0
AnyDeclared P [] = ⊥
AnyDeclared P (event.Declaration d ∷ es) = P d ⊎ AnyDeclared P es
AnyDeclared P (e ∷ es) = AnyDeclared P es

any_front : (P : Declaration → Type 0) (es fs : List Event) → AnyDeclared P es → AnyDeclared P (es ++ fs)
any_front P [] fs h = absurd h
any_front P (event.Declaration d ∷ es) fs (inl h) = inl h
any_front P (event.Declaration d ∷ es) fs (inr h) = inr (any_front P es fs h)
any_front P (e ∷ es) fs h = any_front P es fs h

any_behind : (P : Declaration → Type 0) (es fs : List Event) → AnyDeclared P fs → AnyDeclared P (es ++ fs)
any_behind P [] fs h = h
any_behind P (event.Declaration d ∷ es) fs h = inr (any_behind P es fs h)
any_behind P (e ∷ es) fs h = any_behind P es fs h

-- The declaration is by the name at this token, in the package block.
pub record IsHere (t : ℕ) (d : Declaration) : Type 0 where
  pub name : d.name ≡ t
  pub block : is_package d.block ≡ true

abbrev pub IsTold : List Event → Specification → Type 0
IsTold es x = AnyDeclared (IsHere (first_name x.names)) es

abbrev pub AreTold : List Event → List Specification → Type 0
AreTold es xs = AllByRecursion (IsTold es) xs

told_front : (es fs : List Event) (xs : List Specification) → AreTold es xs → AreTold (es ++ fs) xs
told_front es fs [] h = tt
told_front es fs (x ∷ xs) h = (any_front (IsHere (first_name x.names)) es fs h.0, told_front es fs xs h.1)

told_behind : (es fs : List Event) (xs : List Specification) → AreTold fs xs → AreTold (es ++ fs) xs
told_behind es fs [] h = tt
told_behind es fs (x ∷ xs) h = (any_behind (IsHere (first_name x.names)) es fs h.0, told_behind es fs xs h.1)

told_both : (es : List Event) (xs ys : List Specification) → AreTold es xs → AreTold es ys → AreTold es (xs ++ ys)
told_both es [] ys h g = g
told_both es (x ∷ xs) ys h g = (h.0, told_both es xs ys h.1 g)

-- ---- names

abbrev IsOuter : Context → Type 0
IsOuter c = is_package c.block ≡ true

one_told : (c : Context) (d : Naming) (i j : ℕ) (qs : Trees) → IsOuter c → c.role ≡ role.New d → AnyDeclared (IsHere i) (events c (node kind.DeclaredName i j qs))
one_told c d i j qs o r =
    any_front (IsHere i) (statement_events c.listed i j ++ own_events c kind.DeclaredName i j qs) (events_of (begin c kind.DeclaredName) kind.DeclaredName i j qs 0 qs)
    (any_behind (IsHere i) (statement_events c.listed i j) (own_events c kind.DeclaredName i j qs) (told c.role r))
  where
    told : (x : Role) → x ≡ role.New d → AnyDeclared (IsHere i) (own_events (record c { role = x }) kind.DeclaredName i j qs)
    told x w = subst (λ (y : Role). AnyDeclared (IsHere i) (own_events (record c { role = y }) kind.DeclaredName i j qs)) (sym w) (inl (record { name = refl; block = o }))

-- a list of names begins with a name
abbrev HasName : Trees → Type 0
HasName none = ⊥
HasName (more (node k i j qs) ps) = k ≡ kind.DeclaredName
HasName (skip ps) = ⊥

-- a list of names stands in front
abbrev BeginsNamed : Trees → Type 0
BeginsNamed none = ⊥
BeginsNamed (more (node k i j ns) ps) = (k ≡ kind.NameList) × HasName ns
BeginsNamed (skip ps) = ⊥

list_told : (c : Context) (d : Naming) (i j : ℕ) (ns : Trees) → IsOuter c → c.role ≡ role.New d → HasName ns → AnyDeclared (IsHere (first_name (first_tokens ns))) (events c (node kind.NameList i j ns))
list_told c d i j none o r h = absurd h
list_told c d i j (skip ps) o r h = absurd h
list_told c d i j (more (node l a b qs) ps) o r h =
    let all : Trees = more (node l a b qs) ps in
    any_behind (IsHere a) (statement_events c.listed i j ++ own_events c kind.NameList i j all) (events_of (begin c kind.NameList) kind.NameList i j all 0 all)
    (any_front (IsHere a) (events (enter (begin c kind.NameList) kind.NameList i j all (ends_named all) 0 (node l a b qs) (is_more ps)) (node l a b qs))
    (events_of (pass (begin c kind.NameList) (node l a b qs)) kind.NameList i j all 1 ps)
    (subst (λ (y : Kind). AnyDeclared (IsHere a) (events (enter (begin c kind.NameList) kind.NameList i j all (ends_named all) 0 (node y a b qs) (is_more ps)) (node y a b qs))) (sym h)
    (one_told (enter (begin c kind.NameList) kind.NameList i j all (ends_named all) 0 (node kind.DeclaredName a b qs) (is_more ps)) d a b qs o r)))

constants_told : (c : Context) (i j : ℕ) (ps : Trees) → IsOuter c → BeginsNamed ps → AnyDeclared (IsHere (first_name (name_tokens ps))) (events c (node (kind.Specification declaring.Constant) i j ps))
constants_told c i j none o h = absurd h
constants_told c i j (skip ps) o h = absurd h
constants_told c i j (more (node l a b ns) ps) o h =
    let s : Kind = kind.Specification declaring.Constant in
    let all : Trees = more (node l a b ns) ps in
    let f : Context = begin c s in
    let P : Declaration → Type 0 = IsHere (first_name (first_tokens ns)) in
    any_behind P (statement_events c.listed i j ++ own_events c s i j all) (events_of f s i j all 0 all)
    (any_front P (events (enter f s i j all (ends_named all) 0 (node l a b ns) (is_more ps)) (node l a b ns)) (events_of (pass f (node l a b ns)) s i j all 1 ps)
    (subst (λ (y : Kind). AnyDeclared P (events (enter f s i j all (ends_named all) 0 (node y a b ns) (is_more ps)) (node y a b ns))) (sym h.0)
    (list_told (enter f s i j all (ends_named all) 0 (node kind.NameList a b ns) (is_more ps)) (specified f declaring.Constant i j) a b ns o refl h.1)))

variables_told : (c : Context) (i j : ℕ) (ps : Trees) → IsOuter c → BeginsNamed ps → AnyDeclared (IsHere (first_name (name_tokens ps))) (events c (node (kind.Specification declaring.Variable) i j ps))
variables_told c i j none o h = absurd h
variables_told c i j (skip ps) o h = absurd h
variables_told c i j (more (node l a b ns) ps) o h =
    let s : Kind = kind.Specification declaring.Variable in
    let all : Trees = more (node l a b ns) ps in
    let f : Context = begin c s in
    let P : Declaration → Type 0 = IsHere (first_name (first_tokens ns)) in
    any_behind P (statement_events c.listed i j ++ own_events c s i j all) (events_of f s i j all 0 all)
    (any_front P (events (enter f s i j all (ends_named all) 0 (node l a b ns) (is_more ps)) (node l a b ns)) (events_of (pass f (node l a b ns)) s i j all 1 ps)
    (subst (λ (y : Kind). AnyDeclared P (events (enter f s i j all (ends_named all) 0 (node y a b ns) (is_more ps)) (node y a b ns))) (sym h.0)
    (list_told (enter f s i j all (ends_named all) 0 (node kind.NameList a b ns) (is_more ps)) (specified f declaring.Variable i j) a b ns o refl h.1)))

type_told : (c : Context) (i j : ℕ) (ps : Trees) → IsOuter c → AnyDeclared (IsHere i) (events c (node (kind.Specification declaring.Type) i j ps))
type_told c i j ps o =
    let s : Kind = kind.Specification declaring.Type in
    any_front (IsHere i) (statement_events c.listed i j ++ own_events c s i j ps) (events_of (begin c s) s i j ps 0 ps)
    (any_behind (IsHere i) (statement_events c.listed i j) (own_events c s i j ps) (inl (record { name = refl; block = o })))

-- ---- groups

abbrev SpecifiesNames : Sort → Trees → Type 0
SpecifiesNames declaring.Type ps = Unit {0}
SpecifiesNames s ps = BeginsNamed ps

abbrev Specifies : Sort → Tree → Type 0
Specifies s (node k i j ps) = (k ≡ kind.Specification s) × SpecifiesNames s ps

abbrev AreSpecified : Sort → Trees → Type 0
AreSpecified s none = Unit {0}
AreSpecified s (more p ps) = Specifies s p × AreSpecified s ps
AreSpecified s (skip ps) = AreSpecified s ps

one_specified : (c : Context) (n : ℕ) (s : Sort) (k : ℕ) (r : Option Tree) (p : Tree) → IsOuter c → Specifies s p → IsTold (events c p) (specification_of n s k r p)
one_specified c n declaring.Constant k r (node l i j ps) o h =
    subst (λ (y : Kind). IsTold (events c (node y i j ps)) (specification_of n declaring.Constant k r (node y i j ps))) (sym h.0) (constants_told c i j ps o h.1)
one_specified c n declaring.Variable k r (node l i j ps) o h =
    subst (λ (y : Kind). IsTold (events c (node y i j ps)) (specification_of n declaring.Variable k r (node y i j ps))) (sym h.0) (variables_told c i j ps o h.1)
one_specified c n declaring.Type k r (node l i j ps) o h =
    subst (λ (y : Kind). IsTold (events c (node y i j ps)) (specification_of n declaring.Type k r (node y i j ps))) (sym h.0) (type_told c i j ps o)

inner_outer : (c : Context) (l : Kind) (i j : ℕ) (all : Trees) (b : Bool) (m : ℕ) (p : Tree) (more_behind : Bool) → opens l ≡ false → IsOuter c → IsOuter (enter c l i j all b m p more_behind)
inner_outer c l i j all b m p more_behind e o = ap (λ x. is_package (if x then block.Local i else c.block)) e ∙ o

group_told : (c : Context) (l : Kind) (i j : ℕ) (all : Trees) (m n : ℕ) (s : Sort) (k : ℕ) (r : Option Tree) (ps : Trees) → opens l ≡ false → IsOuter c → AreSpecified s ps → AreTold (events_of c l i j all m ps) (grouped n s k r ps)
group_told c l i j all m n s k r none e o h = tt
group_told c l i j all m n s k r (skip ps) e o h = group_told c l i j all (suc m) n s k r ps e o h
group_told c l i j all m n s k r (more p ps) e o h =
    let inner : Context = enter c l i j all (ends_named all) m p (is_more ps) in
    let own : List Event = events inner p in
    let rest : List Event = events_of (pass c p) l i j all (suc m) ps in (
      any_front (IsHere (first_name (specification_of n s k r p).names)) own rest (one_specified inner n s k r p (inner_outer c l i j all (ends_named all) m p (is_more ps) e o) h.0),
      told_behind own rest (grouped n s (suc k) (source_behind r p) ps) (group_told (pass c p) l i j all (suc m) n s (suc k) (source_behind r p) ps e o h.1),
    )

-- ---- derivations

same_sort : (s t : Sort) → is_sort s t ≡ true → t ≡ s
same_sort declaring.Constant declaring.Constant e = refl
same_sort declaring.Type declaring.Type e = refl
same_sort declaring.Variable declaring.Variable e = refl
same_sort s t e = absurd cc

module _ (ts : List TokenKind) where
  one_name : (p : Tree) (ps : Trees) → Derives ts category.DeclaredName p → HasName (more p ps)
  one_name (node kind.DeclaredName i j qs) ps h = refl
  one_name (node k i j qs) ps h = absurd (true_false false h.0 refl)

  all_names : (ps : Trees) (i j : ℕ) → Spells ts (Then [] category.DeclaredName (Many [] (Again category.DeclaredName token.Comma))) i ps j → HasName ps
  all_names none i j h = absurd h
  all_names (more p ps) i j h = one_name p ps h.1
  all_names (skip ps) i j h = absurd h

  name_list : (p : Tree) (ps : Trees) → Derives ts category.NameList p → BeginsNamed (more p ps)
  name_list (node kind.NameList i j ns) ps h = (refl, all_names ns i j h.1)
  name_list (node k i j ns) ps h = absurd (true_false false h.0 refl)

  begins_named : (r : Rule) (ps : Trees) (i j : ℕ) → Spells ts (Then [] category.NameList r) i ps j → BeginsNamed ps
  begins_named r none i j h = absurd h
  begins_named r (more p ps) i j h = name_list p ps h.1
  begins_named r (skip ps) i j h = absurd h

  specifies : (s : Sort) (i j : ℕ) (ps : Trees) → Derives ts (category.Specification s) (node (kind.Specification s) i j ps) → SpecifiesNames s ps
  specifies declaring.Constant i j ps h = begins_named _ ps i j h.1
  specifies declaring.Variable i j ps h = begins_named _ ps i j h.1
  specifies declaring.Type i j ps h = tt

  specified_by : (s : Sort) (p : Tree) → Derives ts (category.Specification s) p → Specifies s p
  specified_by s (node (kind.Specification t) i j ps) h =
      let same : t ≡ s = same_sort s t h.0 in
      let d : Derives ts (category.Specification s) (node (kind.Specification s) i j ps) = subst (λ u. Derives ts (category.Specification s) (node (kind.Specification u) i j ps)) same h in
      (ap (λ u. kind.Specification u) same, specifies s i j ps d)
  specified_by s (node k i j ps) h = absurd (true_false false h.0 refl)

  rest_specified : (s : Sort) (ps : Trees) (i j : ℕ) → Goes ts (Lines false (category.Specification s) token.Semicolon token.RightParenthesis) i ps j → AreSpecified s ps
  rest_specified s none i j h = tt
  rest_specified s (more p ps) i j h = (specified_by s p h.3, rest_specified s ps (last p) j h.4)
  rest_specified s (skip ps) i j h = absurd h

  all_specified : (s : Sort) (ps : Trees) (i j : ℕ) → Spells ts (Many (token.LeftParenthesis ∷ []) (Lines false (category.Specification s) token.Semicolon token.RightParenthesis)) i ps j → AreSpecified s ps
  all_specified s none i j h = tt
  all_specified s (more p ps) i j h = (specified_by s p h.3, rest_specified s ps (last p) j h.4)
  all_specified s (skip ps) i j h = absurd h

  -- the body of a declaration
  body_told : (c : Context) (n : ℕ) (s : Sort) (b : Tree) → IsOuter c → Derives ts (category.DeclarationBody s) b → AreTold (events c b) (declared n s (more b none))
  body_told c n s (node (kind.Specification t) i j ps) o h =
      let same : t ≡ s = same_sort s t h.0 in
      let whole : Derives ts (category.DeclarationBody s) (node (kind.Specification s) i j ps) = subst (λ u. Derives ts (category.DeclarationBody s) (node (kind.Specification u) i j ps)) same h in
      (one_specified c n s 0 None (node (kind.Specification t) i j ps) o (ap (λ u. kind.Specification u) same, body_names s i j ps whole), tt)
    where
      body_names : (u : Sort) (a e : ℕ) (qs : Trees) → Derives ts (category.DeclarationBody u) (node (kind.Specification u) a e qs) → SpecifiesNames u qs
      body_names declaring.Constant a e qs g = begins_named _ qs a e g.1
      body_names declaring.Variable a e qs g = begins_named _ qs a e g.1
      body_names declaring.Type a e qs g = tt
  body_told c n s (node (kind.Group t) i j ps) o h =
      let same : t ≡ s = same_sort s t h.0 in
      let g : Kind = kind.Group t in
      let specified : AreSpecified s ps = subst (λ u. AreSpecified u ps) same (all_specified t ps i j h.1) in
      told_behind (statement_events c.listed i j ++ own_events c g i j ps) (events_of (begin c g) g i j ps 0 ps) (grouped n s 0 None ps) (group_told (begin c g) g i j ps 0 n s 0 None ps refl o specified)
  body_told c n s (node k i j ps) o h = absurd (true_false false h.0 refl)

  body_declared : (c : Context) (n : ℕ) (s : Sort) (i j : ℕ) (ps : Trees) → IsOuter c → Spells ts (Then (sort_word s ∷ []) (category.DeclarationBody s) (End [])) i ps j
      → AreTold (events_of c (kind.Declaration s) i j ps 0 ps) (declared n s ps)
  body_declared c n s i j none o h = absurd h
  body_declared c n s i j (skip ps) o h = absurd h
  body_declared c n s i j (more b (more q ps)) o h = absurd h.2
  body_declared c n s i j (more b (skip ps)) o h = absurd h.2
  body_declared c n s i j (more b none) o h =
      let inner : Context = enter c (kind.Declaration s) i j (more b none) (ends_named (more b none)) 0 b false in
      told_front (events inner b) [] (declared n s (more b none)) (body_told inner n s b o h.1)

  -- a function
  function_told : (c : Context) (i j : ℕ) (ps : Trees) → i < j → AnyDeclared (IsHere (suc i)) (events c (node kind.FunctionDeclaration i j ps))
  function_told c i j ps l =
      let s : Kind = kind.FunctionDeclaration in
      let P : Declaration → Type 0 = IsHere (suc i) in
      any_front P (statement_events c.listed i j ++ own_events c s i j ps) (events_of (begin c s) s i j ps 0 ps)
      (any_behind P (statement_events c.listed i j) (own_events c s i j ps)
      (subst (λ b. AnyDeclared P (if b then function_events i j (is_there (part_at ps 1)) else [])) (sym (lt-ltb i j l)) (told (is_there (part_at ps 1)))))
    where
      told : (b : Bool) → AnyDeclared (IsHere (suc i)) (function_events i j b)
      told true = inl (record { name = refl; block = refl })
      told false = inl (record { name = refl; block = refl })

  declaration_told : (c : Context) (n : ℕ) (t : Tree) → IsOuter c → Derives ts category.Declaration t → AreTold (events c t) (declaration n t)
  declaration_told c n (node (kind.Declaration s) i j ps) o h =
      let d : Kind = kind.Declaration s in
      told_behind (statement_events c.listed i j ++ own_events c d i j ps) (events_of (begin c d) d i j ps 0 ps) (declared n s ps) (body_declared (begin c d) n s i j ps o h.1)
  declaration_told c n (node kind.FunctionDeclaration i j ps) o h =
      (function_told c i j ps (laid_grows (node kind.FunctionDeclaration i j ps) (derives_laid ts (node kind.FunctionDeclaration i j ps) category.Declaration h)), tt)
  declaration_told c n (node k i j ps) o h = absurd (true_false false h.0 refl)

  -- ---- a file

  -- the specifications of each part are told by it, in the package block
  abbrev AllTell : ℕ → Trees → Type 0
  AllTell n none = Unit {0}
  AllTell n (more p ps) = ((c : Context) → IsOuter c → AreTold (events c p) (declaration n p)) × AllTell n ps
  AllTell n (skip ps) = AllTell n ps

  row_told : (c : Context) (i j : ℕ) (all : Trees) (m n : ℕ) (ps : Trees) → IsOuter c → AllTell n ps → AreTold (events_of c kind.File i j all m ps) (declarations n ps)
  row_told c i j all m n none o h = tt
  row_told c i j all m n (skip ps) o h = row_told c i j all (suc m) n ps o h
  row_told c i j all m n (more p ps) o h =
      let inner : Context = enter c kind.File i j all (ends_named all) m p (is_more ps) in
      let own : List Event = events inner p in
      let rest : List Event = events_of (pass c p) kind.File i j all (suc m) ps in
      told_both (own ++ rest) (declaration n p) (declarations n ps) (told_front own rest (declaration n p) (h.0 inner o)) (told_behind own rest (declarations n ps) (row_told (pass c p) i j all (suc m) n ps o h.1))

  goes_tell : (n : ℕ) (ps : Trees) (i j : ℕ) → Goes ts (Each category.Declaration (token.Semicolon ∷ []) []) i ps j → AllTell n ps
  goes_tell n none i j h = tt
  goes_tell n (more p ps) i j h = (λ c o. declaration_told c n p o h.3, goes_tell n ps (last p) j h.4)
  goes_tell n (skip ps) i j h = absurd h

  many_tell : (n : ℕ) (ps : Trees) (i j : ℕ) → Spells ts (Many [] (Each category.Declaration (token.Semicolon ∷ []) [])) i ps j → AllTell n ps
  many_tell n none i j h = tt
  many_tell n (more p ps) i j h = (λ c o. declaration_told c n p o h.3, goes_tell n ps (last p) j h.4)
  many_tell n (skip ps) i j h = absurd h

  -- imports specify nothing
  no_specifications : (n : ℕ) (p : Tree) → Derives ts category.Imports p → declaration n p ≡ []
  no_specifications n (node kind.Imports i j ps) h = refl
  no_specifications n (node k i j ps) h = absurd (true_false false h.0 refl)

  parts_tell : (n i j : ℕ) (ps : Trees) → Derives ts category.File (node kind.File i j ps) → AllTell n ps
  parts_tell n i j none h = absurd h.1
  parts_tell n i j (skip ps) h = many_tell n ps h.1.0 j h.1.2
  parts_tell n i j (more p ps) h = (λ c o. subst (AreTold (events c p)) (sym (no_specifications n p h.1.1)) tt, many_tell n ps (last p) j h.1.2)

  pub file_told : (n : ℕ) (t : Tree) → IsFile ts t → AreTold (events (file_context (last t)) t) (in_file n t)
  file_told n (node kind.File i j ps) f =
      let c : Context = file_context j in
      told_behind (statement_events c.listed i j ++ own_events c kind.File i j ps) (events_of (begin c kind.File) kind.File i j ps 0 ps) (declarations n ps)
      (row_told (begin c kind.File) i j ps 0 n ps refl (parts_tell n i j ps f.derives))
  file_told n (node k i j ps) f = absurd (true_false false f.derives.0 refl)
