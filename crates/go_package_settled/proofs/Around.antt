-- Where a part of what a file tells stands in it, by the tokens of its names.
use Rattle.std.proofs.Common.{◌≡◌, ◌∙◌, ℕ, suc, ◌<◌, ◌≤◌, Bool, true, false, nat_eq, List, [], ◌∷◌, ◌++◌, Option, Some, None, refl, sym, ap, arith, append_assoc}
use Rattle.std.specs.Prelude.{if◌then◌else◌, nat_lt, ◌||◌}
use Rattle.std.proofs.lemmas.Bool.{eqb-true}
use Rattle.go_tokens.specs.Tokens.{TokenList}
use Rattle.go_grammar.specs.declared.kind.Kind.{Kind}
use Rattle.go_grammar.specs.declared.kind.Kind.TheVariants as kind
use Rattle.go_grammar.specs.declared.kind.Sort.TheVariants as declaring
use Rattle.go_grammar.specs.Trees.{Tree, node, Trees, none, more, skip, kind_of, first, last}
use Rattle.go_grammar.specs.Grammar.{ends_named}
use Rattle.go_tree.specs.Views.{part_at}
use Rattle.go_tree.specs.declared.context.Role.{Role}
use Rattle.go_tree.specs.declared.context.Role.TheVariants as role
use Rattle.go_tree.specs.declared.context.Context.{Context}
use Rattle.go_tree.specs.declared.event.Declaration.{Declaration}
use Rattle.go_tree.specs.declared.event.Use.{Use}
use Rattle.go_tree.specs.declared.event.Event.{Event}
use Rattle.go_tree.specs.declared.event.Event.TheVariants as event
use Rattle.go_tree.specs.declared.object.Object.{Object}
use Rattle.go_tree.specs.Contexts.{is_there, enter}
use Rattle.go_tree.specs.Events.{statement_events, own_events, name_events, function_events, misplaced, is_default, default_events, second_defaults, is_more, pass, begin, events, events_of}
use Rattle.go_tree.specs.Meanings.{Meaning}
use Rattle.go_tree.specs.Objects.{own_object, object_at, token_object}
use Rattle.go_tree.specs.Units.{word}
use Rattle.go_scopes_events.specs.Orders.{AreInOrder}
use Rattle.go_scopes_events.proofs.Public.{IsLaidOut, LieIn, behind_name, events_order, parts_order}

-- ---- order

pub order_least : (i j : ℕ) (es : List Event) → AreInOrder i j es → i ≤ j
order_least i j [] h = h
order_least i j (event.Declaration d ∷ es) h = let a = h.0 in let r = order_least (suc d.name) j es h.1 in omega (arith, a, r)
order_least i j (event.Use u ∷ es) h = let a = h.0 in let r = order_least (suc u.name) j es h.1 in omega (arith, a, r)
order_least i j (e ∷ es) h = order_least i j es h

-- names that begin later lie in the longer range too
pub order_from : (i k j : ℕ) (es : List Event) → i ≤ k → AreInOrder k j es → AreInOrder i j es
order_from i k j [] le h = omega (arith, le, h)
order_from i k j (event.Declaration d ∷ es) le h = (let a = h.0 in omega (arith, le, a), h.1)
order_from i k j (event.Use u ∷ es) le h = (let a = h.0 in omega (arith, le, a), h.1)
order_from i k j (e ∷ es) le h = order_from i k j es le h

pub order_to : (i k j : ℕ) (es : List Event) → k ≤ j → AreInOrder i k es → AreInOrder i j es
order_to i k j [] le h = omega (arith, le, h)
order_to i k j (event.Declaration d ∷ es) le h = (h.0, order_to (suc d.name) k j es le h.1)
order_to i k j (event.Use u ∷ es) le h = (h.0, order_to (suc u.name) k j es le h.1)
order_to i k j (e ∷ es) le h = order_to i k j es le h

pub order_append : (i k j : ℕ) (es fs : List Event) → AreInOrder i k es → AreInOrder k j fs → AreInOrder i j (es ++ fs)
order_append i k j [] fs h g = order_from i k j fs h g
order_append i k j (event.Declaration d ∷ es) fs h g = (h.0, order_append (suc d.name) k j es fs h.1 g)
order_append i k j (event.Use u ∷ es) fs h g = (h.0, order_append (suc u.name) k j es fs h.1 g)
order_append i k j (e ∷ es) fs h g = order_append i k j es fs h g

statement_order : (b : Bool) (i j : ℕ) → AreInOrder i i (statement_events b i j)
statement_order true i j = omega arith
statement_order false i j = omega arith

misplaced_order : (b : Bool) (i j : ℕ) → AreInOrder i i (misplaced b i j)
misplaced_order true i j = omega arith
misplaced_order false i j = omega arith

default_order : (d b : Bool) (i word : ℕ) → AreInOrder i i (default_events d b word)
default_order true true i word = omega arith
default_order true false i word = omega arith
default_order false b i word = omega arith

second_order : (b : Bool) (i : ℕ) (ps : Trees) → AreInOrder i i (second_defaults b ps)
second_order b i none = omega arith
second_order b i (skip ps) = second_order b i ps
second_order b i (more p ps) =
    order_append i i i (default_events (is_default (kind_of p)) b (first p)) (second_defaults (b || is_default (kind_of p)) ps) (default_order (is_default (kind_of p)) b i (first p)) (second_order (b || is_default (kind_of p)) i ps)

name_order : (c : Context) (i : ℕ) (r : Role) → AreInOrder i (suc i) (name_events c i r)
name_order c i (role.New d) = (omega arith, omega arith)
name_order c i (role.Field g) = omega arith
name_order c i (role.Key g) = omega arith
name_order c i (role.Parameter g None) = omega arith
name_order c i (role.Parameter g (Some s)) = (omega arith, omega arith)
name_order c i r = (omega arith, omega arith)

pub function_order : (i j : ℕ) (b : Bool) → AreInOrder (suc i) (suc (suc i)) (function_events i j b)
function_order i j true = (omega arith, omega arith)
function_order i j false = (omega arith, omega arith)

declaration_order : (b : Bool) (i j : ℕ) (ps : Trees) → AreInOrder i (suc (suc i)) (if b then function_events i j (is_there (part_at ps 1)) else [])
declaration_order true i j ps = order_from i (suc i) (suc (suc i)) (function_events i j (is_there (part_at ps 1))) (omega arith) (function_order i j (is_there (part_at ps 1)))
declaration_order false i j ps = omega arith

own_order : (c : Context) (k : Kind) (i j : ℕ) (ps : Trees) → AreInOrder i (behind_name k i) (own_events c k i j ps)
own_order c kind.FunctionDeclaration i j ps = declaration_order (nat_lt i j) i j ps
own_order c (kind.Specification declaring.Type) i j ps = (omega arith, omega arith)
own_order c kind.DeclaredName i j ps = name_order c i c.role
own_order c kind.Name i j ps = name_order c i c.role
own_order c kind.Switch i j ps = second_order false i ps
own_order c kind.Break i j ps = misplaced_order c.breaks i j
own_order c kind.Continue i j ps = misplaced_order c.continues i j
own_order c kind.Fallthrough i j ps = misplaced_order c.falls i j
own_order c k i j ps = omega arith

head_order : (c : Context) (k : Kind) (i j : ℕ) (ps : Trees) → AreInOrder i (behind_name k i) (statement_events c.listed i j ++ own_events c k i j ps)
head_order c k i j ps = order_append i i (behind_name k i) (statement_events c.listed i j) (own_events c k i j ps) (statement_order c.listed i j) (own_order c k i j ps)

-- ---- objects of tokens

differ : (m n : ℕ) → (m ≡ n → ⊥) → nat_eq m n ≡ false
differ m n f = by (nat_eq m n) refl
  where
    by : (b : Bool) → nat_eq m n ≡ b → nat_eq m n ≡ false
    by true q = absurd (f (eqb-true m n q))
    by false q = q

module _ (ms : List Meaning) (n : ℕ) (ts : TokenList) where
  abbrev told : ℕ → List Event → Option Object
  told i es = token_object ms n ts i es

  pass_declared : (i : ℕ) (d : Declaration) (es : List Event) → (d.name ≡ i → ⊥) → told i (event.Declaration d ∷ es) ≡ told i es
  pass_declared i d es f = ap (λ b. if b then own_object n i (word ts i) ms ms else told i es) (differ d.name i f)

  pass_used : (i : ℕ) (u : Use) (es : List Event) → (u.name ≡ i → ⊥) → told i (event.Use u ∷ es) ≡ told i es
  pass_used i u es f = ap (λ b. if b then object_at ms n i (word ts i) else told i es) (differ u.name i f)

  -- no name stands there
  pub none_told : (i lo hi : ℕ) (es : List Event) → AreInOrder lo hi es → i < lo → told i es ≡ None
  none_told i lo hi [] o l = refl
  none_told i lo hi (event.Declaration d ∷ es) o l =
      let a = o.0 in pass_declared i d es (λ e. absurd (omega (arith, a, l, e))) ∙ none_told i (suc d.name) hi es o.1 (omega (arith, a, l))
  none_told i lo hi (event.Use u ∷ es) o l =
      let a = o.0 in pass_used i u es (λ e. absurd (omega (arith, a, l, e))) ∙ none_told i (suc u.name) hi es o.1 (omega (arith, a, l))
  none_told i lo hi (e ∷ es) o l = none_told i lo hi es o l

  pub skip_front : (i lo hi : ℕ) (es fs : List Event) → AreInOrder lo hi es → hi ≤ i → told i (es ++ fs) ≡ told i fs
  skip_front i lo hi [] fs o l = refl
  skip_front i lo hi (event.Declaration d ∷ es) fs o l =
      let a = order_least (suc d.name) hi es o.1 in pass_declared i d (es ++ fs) (λ e. absurd (omega (arith, a, l, e))) ∙ skip_front i (suc d.name) hi es fs o.1 l
  skip_front i lo hi (event.Use u ∷ es) fs o l =
      let a = order_least (suc u.name) hi es o.1 in pass_used i u (es ++ fs) (λ e. absurd (omega (arith, a, l, e))) ∙ skip_front i (suc u.name) hi es fs o.1 l
  skip_front i lo hi (e ∷ es) fs o l = skip_front i lo hi es fs o l

-- ---- a part of what is told

-- The events stand in all that is told, behind the names before the token `lo` and in front of those from the token `hi` on.
pub record Around (es own : List Event) (lo hi : ℕ) : Type 0 where
  pub before : List Event
  pub after : List Event
  pub end : ℕ
  pub whole : es ≡ before ++ (own ++ after)
  pub below : AreInOrder 0 lo before
  pub above : AreInOrder hi end after

pub around_front : (es xs ys : List Event) (lo mid hi : ℕ) → Around es (xs ++ ys) lo hi → AreInOrder mid hi ys → Around es xs lo mid
around_front es xs ys lo mid hi a o = record {
  before = a.before;
  after = ys ++ a.after;
  end = a.end;
  whole = a.whole ∙ ap (λ zs. a.before ++ zs) (append_assoc xs ys a.after);
  below = a.below;
  above = order_append mid hi a.end ys a.after o a.above;
}

pub around_back : (es xs ys : List Event) (lo mid hi : ℕ) → Around es (xs ++ ys) lo hi → AreInOrder lo mid xs → Around es ys mid hi
around_back es xs ys lo mid hi a o = record {
  before = a.before ++ xs;
  after = a.after;
  end = a.end;
  whole = a.whole ∙ ap (λ zs. a.before ++ zs) (append_assoc xs ys a.after) ∙ sym (append_assoc a.before xs (ys ++ a.after));
  below = order_append 0 lo mid a.before xs a.below o;
  above = a.above;
}

pub around_within : (es own : List Event) (lo low hi high : ℕ) → Around es own lo hi → lo ≤ low → high ≤ hi → Around es own low high
around_within es own lo low hi high a l h = record {
  before = a.before;
  after = a.after;
  end = a.end;
  whole = a.whole;
  below = order_to 0 lo low a.before l a.below;
  above = order_from high hi a.end a.after h a.above;
}

-- what a node tells by itself, and what its parts tell
pub around_own : (es : List Event) (c : Context) (k : Kind) (i j : ℕ) (ps : Trees) → IsLaidOut (node k i j ps) → Around es (events c (node k i j ps)) i j → Around es (own_events c k i j ps) i (behind_name k i)
around_own es c k i j ps l a =
    around_back es (statement_events c.listed i j) (own_events c k i j ps) i i (behind_name k i)
    (around_front es (statement_events c.listed i j ++ own_events c k i j ps) (events_of (begin c k) k i j ps 0 ps) i (behind_name k i) j a (parts_order (begin c k) k i j ps 0 ps (behind_name k i) l.1))
    (statement_order c.listed i j)

pub around_parts : (es : List Event) (c : Context) (k : Kind) (i j : ℕ) (ps : Trees) → Around es (events c (node k i j ps)) i j → Around es (events_of (begin c k) k i j ps 0 ps) (behind_name k i) j
around_parts es c k i j ps a =
    around_back es (statement_events c.listed i j ++ own_events c k i j ps) (events_of (begin c k) k i j ps 0 ps) i (behind_name k i) j a (head_order c k i j ps)

-- the first of some parts, and the others
pub around_first : (es : List Event) (c : Context) (k : Kind) (i j : ℕ) (all : Trees) (n : ℕ) (p : Tree) (qs : Trees) (lo : ℕ) → LieIn lo j (more p qs) → Around es (events_of c k i j all n (more p qs)) lo j
    → Around es (events (enter c k i j all (ends_named all) n p (is_more qs)) p) (first p) (last p)
around_first es c k i j all n p qs lo l a =
    let own : List Event = events (enter c k i j all (ends_named all) n p (is_more qs)) p in
    let rest : List Event = events_of (pass c p) k i j all (suc n) qs in
    around_within es own lo (first p) (last p) (last p) (around_front es own rest lo (last p) j a (parts_order (pass c p) k i j all (suc n) qs (last p) l.2)) l.0 (omega arith)

pub around_rest : (es : List Event) (c : Context) (k : Kind) (i j : ℕ) (all : Trees) (n : ℕ) (p : Tree) (qs : Trees) (lo : ℕ) → LieIn lo j (more p qs) → Around es (events_of c k i j all n (more p qs)) lo j
    → Around es (events_of (pass c p) k i j all (suc n) qs) (last p) j
around_rest es c k i j all n p qs lo l a =
    let inner : Context = enter c k i j all (ends_named all) n p (is_more qs) in
    around_back es (events inner p) (events_of (pass c p) k i j all (suc n) qs) lo (last p) j a (order_from lo (first p) (last p) (events inner p) l.0 (events_order inner p l.1))

-- ---- what is told of one token

-- the object of a token of the part is what that tells
pub around_told : (ms : List Meaning) (n : ℕ) (ts : TokenList) (es own : List Event) (lo hi i : ℕ) → Around es own lo hi → lo ≤ i → (end : ℕ) × (after : List Event) × AreInOrder hi end after × (token_object ms n ts i es ≡ token_object ms n ts i (own ++ after))
around_told ms n ts es own lo hi i a l =
    (a.end, a.after, a.above, ap (token_object ms n ts i) a.whole ∙ skip_front ms n ts i 0 lo a.before (own ++ a.after) a.below l)
