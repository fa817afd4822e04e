-- What is told of the tokens of an expression or a type is what its own names tell.
use Rattle.std.proofs.Common.{◌≡◌, ◌∙◌, ℕ, suc, ◌<◌, ◌≤◌, Bool, true, false, nat_eq, List, [], ◌∷◌, ◌++◌, Option, Some, None, refl, sym, ap, subst, arith, append_assoc}
use Rattle.std.specs.Prelude.{if◌then◌else◌, nat_lt}
use Rattle.std.proofs.lemmas.Bool.{eqb-true}
use Rattle.go_tokens.specs.Tokens.{TokenList}
use Rattle.go_grammar.specs.declared.kind.Kind.{Kind}
use Rattle.go_grammar.specs.declared.kind.Kind.TheVariants as kind
use Rattle.go_grammar.specs.declared.kind.Sort.TheVariants as sort
use Rattle.go_grammar.specs.Trees.{Tree, node, Trees, more, first, last}
use Rattle.go_grammar.specs.Grammar.{ends_named}
use Rattle.go_tree.specs.Views.{part_at}
use Rattle.go_tree.specs.declared.context.Role.{Role}
use Rattle.go_tree.specs.declared.context.Role.TheVariants as role
use Rattle.go_tree.specs.declared.context.Context.{Context}
use Rattle.go_tree.specs.declared.event.Declaration.{Declaration}
use Rattle.go_tree.specs.declared.event.Use.{Use}
use Rattle.go_tree.specs.declared.event.Event.{Event}
use Rattle.go_tree.specs.declared.event.Event.TheVariants as event
use Rattle.go_tree.specs.declared.object.Object.{Object}
use Rattle.go_tree.specs.Contexts.{is_there, enter}
use Rattle.go_tree.specs.Events.{statement_events, own_events, name_events, function_events, is_more, pass, begin, events, events_of}
use Rattle.go_tree.specs.Meanings.{Meaning}
use Rattle.go_tree.specs.Objects.{own_object, object_at, token_object}
use Rattle.go_tree.specs.Units.{word}
use Rattle.go_scopes_events.specs.Orders.{AreInOrder}
use Rattle.go_scopes_events.proofs.Public.{LieIn, behind_name, events_order, laid_grows, lie_order, parts_order}
use Rattle.go_package_placed.proofs.Tidy.{is_simple}

-- ---- order

order_least : (i j : ℕ) (es : List Event) → AreInOrder i j es → i ≤ j
order_least i j [] h = h
order_least i j (event.Declaration d ∷ es) h = let a = h.0 in let r = order_least (suc d.name) j es h.1 in omega (arith, a, r)
order_least i j (event.Use u ∷ es) h = let a = h.0 in let r = order_least (suc u.name) j es h.1 in omega (arith, a, r)
order_least i j (e ∷ es) h = order_least i j es h

statement_order : (b : Bool) (i j : ℕ) → AreInOrder i i (statement_events b i j)
statement_order true i j = omega arith
statement_order false i j = omega arith

name_order : (c : Context) (i : ℕ) (r : Role) → AreInOrder i (suc i) (name_events c i r)
name_order c i (role.New d) = (omega arith, omega arith)
name_order c i (role.Field g) = omega arith
name_order c i (role.Key g) = omega arith
name_order c i (role.Parameter g None) = omega arith
name_order c i (role.Parameter g (Some s)) = (omega arith, omega arith)
name_order c i r = (omega arith, omega arith)

function_order : (i j : ℕ) (b : Bool) → AreInOrder i (suc (suc i)) (function_events i j b)
function_order i j true = (omega arith, omega arith)
function_order i j false = (omega arith, omega arith)

declaration_order : (b : Bool) (i j : ℕ) (ps : Trees) → AreInOrder i (suc (suc i)) (if b then function_events i j (is_there (part_at ps 1)) else [])
declaration_order true i j ps = function_order i j (is_there (part_at ps 1))
declaration_order false i j ps = omega arith

-- a node of another kind tells no rule on statements
abbrev pub is_quiet : Kind → Bool
is_quiet kind.Switch = false
is_quiet kind.Break = false
is_quiet kind.Continue = false
is_quiet kind.Fallthrough = false
is_quiet k = true

pub simple_quiet : (k : Kind) → is_simple k ≡ true → is_quiet k ≡ true
simple_quiet kind.Switch e = e
simple_quiet kind.Break e = e
simple_quiet kind.Continue e = e
simple_quiet kind.Fallthrough e = e
simple_quiet k e = refl

own_order : (c : Context) (k : Kind) (i j : ℕ) (ps : Trees) → is_quiet k ≡ true → AreInOrder i (behind_name k i) (own_events c k i j ps)
own_order c kind.FunctionDeclaration i j ps e = declaration_order (nat_lt i j) i j ps
own_order c (kind.Specification sort.Type) i j ps e = (omega arith, omega arith)
own_order c kind.DeclaredName i j ps e = name_order c i c.role
own_order c kind.Name i j ps e = name_order c i c.role
own_order c kind.Switch i j ps e = let no : false ≡ true = e in cc
own_order c kind.Break i j ps e = let no : false ≡ true = e in cc
own_order c kind.Continue i j ps e = let no : false ≡ true = e in cc
own_order c kind.Fallthrough i j ps e = let no : false ≡ true = e in cc
own_order c k i j ps e = omega arith

-- ---- objects of tokens

pub differ : (m n : ℕ) → (m ≡ n → ⊥) → nat_eq m n ≡ false
differ m n f = by (nat_eq m n) refl
  where
    by : (b : Bool) → nat_eq m n ≡ b → nat_eq m n ≡ false
    by true q = absurd (f (eqb-true m n q))
    by false q = q

module _ (ms : List Meaning) (n : ℕ) (ts : TokenList) where
  abbrev told : ℕ → List Event → Option Object
  told i es = token_object ms n ts i es

  pass_declared : (i : ℕ) (d : Declaration) (es : List Event) → (d.name ≡ i → ⊥) → told i (event.Declaration d ∷ es) ≡ told i es
  pass_declared i d es f = ap (λ b. if b then own_object n i (word ts i) ms ms else told i es) (differ d.name i f)

  pass_used : (i : ℕ) (u : Use) (es : List Event) → (u.name ≡ i → ⊥) → told i (event.Use u ∷ es) ≡ told i es
  pass_used i u es f = ap (λ b. if b then object_at ms n i (word ts i) else told i es) (differ u.name i f)

  -- no name stands there
  pub none_told : (i lo hi : ℕ) (es : List Event) → AreInOrder lo hi es → i < lo → told i es ≡ None
  none_told i lo hi [] o l = refl
  none_told i lo hi (event.Declaration d ∷ es) o l =
      let a = o.0 in pass_declared i d es (λ e. absurd (omega (arith, a, l, e))) ∙ none_told i (suc d.name) hi es o.1 (omega (arith, a, l))
  none_told i lo hi (event.Use u ∷ es) o l =
      let a = o.0 in pass_used i u es (λ e. absurd (omega (arith, a, l, e))) ∙ none_told i (suc u.name) hi es o.1 (omega (arith, a, l))
  none_told i lo hi (e ∷ es) o l = none_told i lo hi es o l

  skip_front : (i lo hi : ℕ) (es fs : List Event) → AreInOrder lo hi es → hi ≤ i → told i (es ++ fs) ≡ told i fs
  skip_front i lo hi [] fs o l = refl
  skip_front i lo hi (event.Declaration d ∷ es) fs o l =
      let a = order_least (suc d.name) hi es o.1 in pass_declared i d (es ++ fs) (λ e. absurd (omega (arith, a, l, e))) ∙ skip_front i (suc d.name) hi es fs o.1 l
  skip_front i lo hi (event.Use u ∷ es) fs o l =
      let a = order_least (suc u.name) hi es o.1 in pass_used i u (es ++ fs) (λ e. absurd (omega (arith, a, l, e))) ∙ skip_front i (suc u.name) hi es fs o.1 l
  skip_front i lo hi (e ∷ es) fs o l = skip_front i lo hi es fs o l

  drop_back : (i : ℕ) (es fs : List Event) → told i fs ≡ None → told i (es ++ fs) ≡ told i es
  drop_back i [] fs q = q
  drop_back i (event.Declaration d ∷ es) fs q = ap (λ x. if nat_eq d.name i then own_object n i (word ts i) ms ms else x) (drop_back i es fs q)
  drop_back i (event.Use u ∷ es) fs q = ap (λ x. if nat_eq u.name i then object_at ms n i (word ts i) else x) (drop_back i es fs q)
  drop_back i (event.Import p ∷ es) fs q = drop_back i es fs q
  drop_back i (event.Member m g x ∷ es) fs q = drop_back i es fs q
  drop_back i (event.Bodiless a b ∷ es) fs q = drop_back i es fs q
  drop_back i (event.Statement a b ∷ es) fs q = drop_back i es fs q
  drop_back i (event.Misplaced a b ∷ es) fs q = drop_back i es fs q
  drop_back i (event.SecondDefault x ∷ es) fs q = drop_back i es fs q

  -- ---- what is told of the tokens from lo up to hi

  module _ (o : ℕ → Option Object) where
    -- The object of such a token is what these tell of it.
    abbrev pub Says : List Event → ℕ → ℕ → Type 0
    Says es lo hi = (i : ℕ) (x : Object) → lo ≤ i → i < hi → o i ≡ Some x → told i es ≡ Some x

    pub says_front : (xs ys : List Event) (lo mid hi end : ℕ) → Says (xs ++ ys) lo hi → AreInOrder mid end ys → mid ≤ hi → Says xs lo mid
    says_front xs ys lo mid hi end s a l = λ i x from upto e. sym (drop_back i xs ys (none_told i mid end ys a upto)) ∙ s i x from (omega (arith, upto, l)) e

    pub says_back : (xs ys : List Event) (lo low mid hi : ℕ) → Says (xs ++ ys) lo hi → AreInOrder low mid xs → lo ≤ mid → Says ys mid hi
    says_back xs ys lo low mid hi s a l = λ i x from upto e. sym (skip_front i low mid xs ys a from) ∙ s i x (omega (arith, from, l)) upto e

    pub says_within : (es : List Event) (lo low hi high : ℕ) → Says es lo hi → lo ≤ low → high ≤ hi → Says es low high
    says_within es lo low hi high s a b = λ i x from upto e. s i x (omega (arith, a, from)) (omega (arith, upto, b)) e

    -- what a node tells by itself, and what its parts tell
    pub says_own : (c : Context) (k : Kind) (i j : ℕ) (ps : Trees) → LieIn (behind_name k i) j ps → Says (events c (node k i j ps)) i j → Says (own_events c k i j ps) i (behind_name k i)
    says_own c k i j ps l s =
        says_back (statement_events c.listed i j) (own_events c k i j ps) i i i (behind_name k i)
        (says_front (statement_events c.listed i j ++ own_events c k i j ps) (events_of (begin c k) k i j ps 0 ps) i (behind_name k i) j j s (parts_order (begin c k) k i j ps 0 ps (behind_name k i) l) (lie_order (behind_name k i) j ps l))
        (statement_order c.listed i j) (omega arith)

    pub says_parts : (c : Context) (k : Kind) (i j : ℕ) (ps : Trees) → is_quiet k ≡ true → Says (events c (node k i j ps)) i j → Says (events_of (begin c k) k i j ps 0 ps) (behind_name k i) j
    says_parts c k i j ps q s =
        let rest : List Event = events_of (begin c k) k i j ps 0 ps in
        let front : Says (statement_events c.listed i j ++ (own_events c k i j ps ++ rest)) i j = subst (λ es. Says es i j) (append_assoc (statement_events c.listed i j) (own_events c k i j ps) rest) s in
        says_back (own_events c k i j ps) rest i i (behind_name k i) j
        (says_back (statement_events c.listed i j) (own_events c k i j ps ++ rest) i i i j front (statement_order c.listed i j) (omega arith))
        (own_order c k i j ps q) (order_least i (behind_name k i) (own_events c k i j ps) (own_order c k i j ps q))

    -- the first of some parts, and the others
    pub says_first : (c : Context) (k : Kind) (i j : ℕ) (all : Trees) (m : ℕ) (p : Tree) (qs : Trees) (lo : ℕ) → LieIn lo j (more p qs) → Says (events_of c k i j all m (more p qs)) lo j
        → Says (events (enter c k i j all (ends_named all) m p (is_more qs)) p) (first p) (last p)
    says_first c k i j all m p qs lo l s =
        let own : List Event = events (enter c k i j all (ends_named all) m p (is_more qs)) p in
        let rest : List Event = events_of (pass c p) k i j all (suc m) qs in
        says_within own lo (first p) (last p) (last p) (says_front own rest lo (last p) j j s (parts_order (pass c p) k i j all (suc m) qs (last p) l.2) (lie_order (last p) j qs l.2)) l.0 (omega arith)

    pub says_rest : (c : Context) (k : Kind) (i j : ℕ) (all : Trees) (m : ℕ) (p : Tree) (qs : Trees) (lo : ℕ) → LieIn lo j (more p qs) → Says (events_of c k i j all m (more p qs)) lo j
        → Says (events_of (pass c p) k i j all (suc m) qs) (last p) j
    says_rest c k i j all m p qs lo l s =
        let inner : Context = enter c k i j all (ends_named all) m p (is_more qs) in
        says_back (events inner p) (events_of (pass c p) k i j all (suc m) qs) lo (first p) (last p) j s (events_order inner p l.1) (let a = l.0 in let g = laid_grows p l.1 in omega (arith, a, g))
