-- Each name that a tree tells stands in the part of a declaration that its place in the tree says.
use Rattle.std.proofs.Common.{◌≡◌, ℕ, suc, ◌⊎◌, inl, inr, Bool, true, false, List, [], ◌∷◌, ◌++◌, Option, Some, None, refl, sym, subst}
use Rattle.std.specs.Prelude.{nat_lt, if◌then◌else◌, ◌||◌}
use Rattle.go_grammar.specs.declared.kind.Kind.{Kind}
use Rattle.go_grammar.specs.declared.kind.Kind.TheVariants as kind
use Rattle.go_grammar.specs.declared.kind.Sort.TheVariants as sort
use Rattle.go_grammar.specs.Trees.{Tree, node, Trees, none, more, skip, kind_of, first}
use Rattle.go_grammar.specs.Grammar.{ends_named}
use Rattle.go_tree.specs.Views.{part_at}
use Rattle.go_tree.specs.declared.context.Reach.TheVariants as reach
use Rattle.go_tree.specs.declared.context.Role.{Role}
use Rattle.go_tree.specs.declared.context.Role.TheVariants as role
use Rattle.go_tree.specs.declared.context.Site.{Site}
use Rattle.go_tree.specs.declared.context.Site.TheVariants as site
use Rattle.go_tree.specs.declared.context.Context.{Context}
use Rattle.go_tree.specs.declared.event.Use.{Use}
use Rattle.go_tree.specs.declared.event.Event.{Event}
use Rattle.go_tree.specs.declared.event.Event.TheVariants as event
use Rattle.go_tree.specs.Contexts.{is_there, enter, site_in, specification_in, values_site, element_site, length_site, column_site}
use Rattle.go_tree.specs.Events.{statement_events, own_events, name_events, function_events, misplaced, is_default, default_events, second_defaults, is_more, pass, begin, events, events_of}
use Rattle.go_scopes_events.specs.Sited.{EachUsed, IsAt, IsSited, AreSited, HoldValues, HoldTypeAndValues, HoldColumns, HoldSignature, HoldElement}

used_append : (Q : Use → Type 0) (es fs : List Event) → EachUsed Q es → EachUsed Q fs → EachUsed Q (es ++ fs)
used_append Q [] fs h g = g
used_append Q (event.Use u ∷ es) fs h g = (h.0, used_append Q es fs h.1 g)
used_append Q (e ∷ es) fs h g = used_append Q es fs h g

used_map : (Q R : Use → Type 0) (es : List Event) → ((u : Use) → Q u → R u) → EachUsed Q es → EachUsed R es
used_map Q R [] f h = tt
used_map Q R (event.Use u ∷ es) f h = (f u h.0, used_map Q R es f h.1)
used_map Q R (e ∷ es) f h = used_map Q R es f h

name_used : (c : Context) (i : ℕ) (r : Role) → EachUsed (IsAt i c.site) (name_events c i r)
name_used c i (role.New d) = tt
name_used c i (role.Field g) = tt
name_used c i (role.Key g) = tt
name_used c i (role.Parameter g None) = tt
name_used c i (role.Parameter g (Some s)) = tt
name_used c i role.Operand = ((refl, refl), tt)
name_used c i role.Assigned = ((refl, refl), tt)
name_used c i role.Called = ((refl, refl), tt)
name_used c i (role.Selected j b) = ((refl, refl), tt)

statement_used : (Q : Use → Type 0) (b : Bool) (i j : ℕ) → EachUsed Q (statement_events b i j)
statement_used Q true i j = tt
statement_used Q false i j = tt

misplaced_used : (Q : Use → Type 0) (b : Bool) (i j : ℕ) → EachUsed Q (misplaced b i j)
misplaced_used Q true i j = tt
misplaced_used Q false i j = tt

function_used : (Q : Use → Type 0) (b y : Bool) (i j : ℕ) → EachUsed Q (if b then function_events i j y else [])
function_used Q true true i j = tt
function_used Q true false i j = tt
function_used Q false y i j = tt

default_used : (Q : Use → Type 0) (d b : Bool) (word : ℕ) → EachUsed Q (default_events d b word)
default_used Q true true word = tt
default_used Q true false word = tt
default_used Q false b word = tt

second_used : (Q : Use → Type 0) (b : Bool) (ps : Trees) → EachUsed Q (second_defaults b ps)
second_used Q b none = tt
second_used Q b (skip ps) = second_used Q b ps
second_used Q b (more p ps) = used_append Q (default_events (is_default (kind_of p)) b (first p)) (second_defaults (b || is_default (kind_of p)) ps) (default_used Q (is_default (kind_of p)) b (first p)) (second_used Q (b || is_default (kind_of p)) ps)

-- what a node tells, by what it tells itself and what its parts tell
told_used : (Q : Use → Type 0) (c : Context) (k : Kind) (i j : ℕ) (ps : Trees) → EachUsed Q (own_events c k i j ps) → EachUsed Q (events_of (begin c k) k i j ps 0 ps) → EachUsed Q (events c (node k i j ps))
told_used Q c k i j ps own below =
    used_append Q (statement_events c.listed i j ++ own_events c k i j ps) (events_of (begin c k) k i j ps 0 ps)
    (used_append Q (statement_events c.listed i j) (own_events c k i j ps) (statement_used Q c.listed i j) own)
    below

-- one part, and the others behind it
part_used : (P R Q : Use → Type 0) (es fs : List Event) → ((u : Use) → P u → Q u) → ((u : Use) → R u → Q u) → EachUsed P es → EachUsed R fs → EachUsed Q (es ++ fs)
part_used P R Q es fs f g h k = used_append Q es fs (used_map P Q es f h) (used_map R Q fs g k)

-- a name
name_sited : (c : Context) (k : Kind) (i j : ℕ) (ps : Trees) (Q : Use → Type 0) → own_events c k i j ps ≡ name_events c i c.role → EachUsed Q (events_of (begin c k) k i j ps 0 ps) → EachUsed (λ u. IsAt i c.site u ⊎ Q u) (events c (node k i j ps))
name_sited c k i j ps Q own below =
    told_used (λ u. IsAt i c.site u ⊎ Q u) c k i j ps
    (subst (EachUsed (λ u. IsAt i c.site u ⊎ Q u)) (sym own) (used_map (IsAt i c.site) (λ u. IsAt i c.site u ⊎ Q u) (name_events c i c.role) (λ u h. inl h) (name_used c i c.role)))
    (used_map Q (λ u. IsAt i c.site u ⊎ Q u) (events_of (begin c k) k i j ps 0 ps) (λ u h. inr h) below)

mutual
  pub sited : (c : Context) (t : Tree) → EachUsed (IsSited c.specification c.site t) (events c t)
  sited c (node kind.Name i j ps) = name_sited c kind.Name i j ps (AreSited c.specification c.site ps) refl (parts_sited (begin c kind.Name) kind.Name i j ps 0 ps c.specification c.site refl (λ n p. refl))
  sited c (node kind.DeclaredName i j ps) = name_sited c kind.DeclaredName i j ps (AreSited c.specification c.site ps) refl (parts_sited (begin c kind.DeclaredName) kind.DeclaredName i j ps 0 ps c.specification c.site refl (λ n p. refl))
  sited c (node (kind.Specification sort.Type) i j ps) = told_used (IsSited c.specification c.site (node (kind.Specification sort.Type) i j ps)) c (kind.Specification sort.Type) i j ps tt (parts_sited (begin c (kind.Specification sort.Type)) (kind.Specification sort.Type) i j ps 0 ps (Some i) (site.Right i reach.Direct) refl (λ n p. refl))
  sited c (node (kind.Specification sort.Constant) i j ps) = told_used (IsSited c.specification c.site (node (kind.Specification sort.Constant) i j ps)) c (kind.Specification sort.Constant) i j ps tt (parts_sited (begin c (kind.Specification sort.Constant)) (kind.Specification sort.Constant) i j ps 0 ps (Some i) (site.Type i) refl (λ n p. refl))
  sited c (node (kind.Specification sort.Variable) i j ps) = told_used (IsSited c.specification c.site (node (kind.Specification sort.Variable) i j ps)) c (kind.Specification sort.Variable) i j ps tt (parts_sited (begin c (kind.Specification sort.Variable)) (kind.Specification sort.Variable) i j ps 0 ps (Some i) (site.Type i) refl (λ n p. refl))
  sited c (node kind.Values i j ps) = told_used (HoldValues c.specification ps) c kind.Values i j ps tt (values_sited (begin c kind.Values) i j ps 0 ps)
  sited c (node kind.TypedValues i j ps) = told_used (HoldTypeAndValues c.specification c.site ps) c kind.TypedValues i j ps tt (type_and_values_sited (begin c kind.TypedValues) i j ps ps)
  sited c (node kind.ExpressionList i j ps) = told_used (HoldColumns c.specification c.site 0 ps) c kind.ExpressionList i j ps tt (columns_sited (begin c kind.ExpressionList) i j ps 0 ps)
  sited c (node kind.FunctionDeclaration i j ps) = told_used (HoldSignature c.specification i ps) c kind.FunctionDeclaration i j ps (function_used (HoldSignature c.specification i ps) (nat_lt i j) (is_there (part_at ps 1)) i j) (signature_sited (begin c kind.FunctionDeclaration) i j ps ps)
  sited c (node kind.SequenceType i j ps) = told_used (HoldElement c.specification c.site ps) c kind.SequenceType i j ps tt (element_sited (begin c kind.SequenceType) i j ps)
  sited c (node kind.FunctionType i j ps) = told_used (AreSited c.specification (element_site false c.site) ps) c kind.FunctionType i j ps tt (parts_sited (begin c kind.FunctionType) kind.FunctionType i j ps 0 ps c.specification (element_site false c.site) refl (λ n p. refl))
  sited c (node kind.Switch i j ps) = told_used (AreSited c.specification c.site ps) c kind.Switch i j ps (second_used (AreSited c.specification c.site ps) false ps) (parts_sited (begin c kind.Switch) kind.Switch i j ps 0 ps c.specification c.site refl (λ n p. refl))
  sited c (node kind.Break i j ps) = told_used (AreSited c.specification c.site ps) c kind.Break i j ps (misplaced_used (AreSited c.specification c.site ps) c.breaks i j) (parts_sited (begin c kind.Break) kind.Break i j ps 0 ps c.specification c.site refl (λ n p. refl))
  sited c (node kind.Continue i j ps) = told_used (AreSited c.specification c.site ps) c kind.Continue i j ps (misplaced_used (AreSited c.specification c.site ps) c.continues i j) (parts_sited (begin c kind.Continue) kind.Continue i j ps 0 ps c.specification c.site refl (λ n p. refl))
  sited c (node kind.Fallthrough i j ps) = told_used (AreSited c.specification c.site ps) c kind.Fallthrough i j ps (misplaced_used (AreSited c.specification c.site ps) c.falls i j) (parts_sited (begin c kind.Fallthrough) kind.Fallthrough i j ps 0 ps c.specification c.site refl (λ n p. refl))
  sited c (node k i j ps) = told_used (AreSited c.specification c.site ps) c k i j ps tt (parts_sited (begin c k) k i j ps 0 ps c.specification c.site refl (λ n p. refl))

  -- parts that are all in one part of a declaration
  parts_sited : (c : Context) (k : Kind) (i j : ℕ) (ps : Trees) (n : ℕ) (qs : Trees) (o : Option ℕ) (s : Site) → specification_in c k i ≡ o → ((n : ℕ) (p : Tree) → site_in c k i ps n p ≡ s) → EachUsed (AreSited o s qs) (events_of c k i j ps n qs)
  parts_sited c k i j ps n none o s e f = tt
  parts_sited c k i j ps n (skip qs) o s e f = parts_sited c k i j ps (suc n) qs o s e f
  parts_sited c k i j ps n (more p qs) o s e f =
      let below = enter c k i j ps (ends_named ps) n p (is_more qs) in
      part_used (IsSited o s p) (AreSited o s qs) (AreSited o s (more p qs)) (events below p) (events_of (pass c p) k i j ps (suc n) qs) (λ u h. inl h) (λ u h. inr h)
      (subst (λ x. EachUsed (IsSited x s p) (events below p)) e (subst (λ x. EachUsed (IsSited (specification_in c k i) x p) (events below p)) (f n p) (sited below p)))
      (parts_sited (pass c p) k i j ps (suc n) qs o s e f)

  values_sited : (c : Context) (i j : ℕ) (ps : Trees) (n : ℕ) (qs : Trees) → EachUsed (HoldValues c.specification qs) (events_of c kind.Values i j ps n qs)
  values_sited c i j ps n none = tt
  values_sited c i j ps n (skip qs) = values_sited c i j ps (suc n) qs
  values_sited c i j ps n (more p qs) =
      let below = enter c kind.Values i j ps (ends_named ps) n p (is_more qs) in
      part_used (IsSited c.specification (values_site c p) p) (HoldValues c.specification qs) (HoldValues c.specification (more p qs)) (events below p) (events_of (pass c p) kind.Values i j ps (suc n) qs) (λ u h. inl h) (λ u h. inr h)
      (sited below p)
      (values_sited (pass c p) i j ps (suc n) qs)

  type_and_values_sited : (c : Context) (i j : ℕ) (ps : Trees) (qs : Trees) → EachUsed (HoldTypeAndValues c.specification c.site qs) (events_of c kind.TypedValues i j ps 0 qs)
  type_and_values_sited c i j ps none = tt
  type_and_values_sited c i j ps (skip qs) = behind_type_sited c i j ps 0 qs
  type_and_values_sited c i j ps (more p qs) =
      let below = enter c kind.TypedValues i j ps (ends_named ps) 0 p (is_more qs) in
      part_used (IsSited c.specification c.site p) (HoldValues c.specification qs) (HoldTypeAndValues c.specification c.site (more p qs)) (events below p) (events_of (pass c p) kind.TypedValues i j ps 1 qs) (λ u h. inl h) (λ u h. inr h)
      (sited below p)
      (behind_type_sited (pass c p) i j ps 0 qs)

  behind_type_sited : (c : Context) (i j : ℕ) (ps : Trees) (n : ℕ) (qs : Trees) → EachUsed (HoldValues c.specification qs) (events_of c kind.TypedValues i j ps (suc n) qs)
  behind_type_sited c i j ps n none = tt
  behind_type_sited c i j ps n (skip qs) = behind_type_sited c i j ps (suc n) qs
  behind_type_sited c i j ps n (more p qs) =
      let below = enter c kind.TypedValues i j ps (ends_named ps) (suc n) p (is_more qs) in
      part_used (IsSited c.specification (values_site c p) p) (HoldValues c.specification qs) (HoldValues c.specification (more p qs)) (events below p) (events_of (pass c p) kind.TypedValues i j ps (suc (suc n)) qs) (λ u h. inl h) (λ u h. inr h)
      (sited below p)
      (behind_type_sited (pass c p) i j ps (suc n) qs)

  columns_sited : (c : Context) (i j : ℕ) (ps : Trees) (n : ℕ) (qs : Trees) → EachUsed (HoldColumns c.specification c.site n qs) (events_of c kind.ExpressionList i j ps n qs)
  columns_sited c i j ps n none = tt
  columns_sited c i j ps n (skip qs) = columns_sited c i j ps (suc n) qs
  columns_sited c i j ps n (more p qs) =
      let below = enter c kind.ExpressionList i j ps (ends_named ps) n p (is_more qs) in
      part_used (IsSited c.specification (column_site n c.site) p) (HoldColumns c.specification c.site (suc n) qs) (HoldColumns c.specification c.site n (more p qs)) (events below p) (events_of (pass c p) kind.ExpressionList i j ps (suc n) qs) (λ u h. inl h) (λ u h. inr h)
      (sited below p)
      (columns_sited (pass c p) i j ps (suc n) qs)

  signature_sited : (c : Context) (i j : ℕ) (ps : Trees) (qs : Trees) → EachUsed (HoldSignature c.specification i qs) (events_of c kind.FunctionDeclaration i j ps 0 qs)
  signature_sited c i j ps none = tt
  signature_sited c i j ps (skip qs) = body_sited c i j ps 0 qs
  signature_sited c i j ps (more p qs) =
      let below = enter c kind.FunctionDeclaration i j ps (ends_named ps) 0 p (is_more qs) in
      part_used (IsSited c.specification (site.Type i) p) (AreSited c.specification site.Elsewhere qs) (HoldSignature c.specification i (more p qs)) (events below p) (events_of (pass c p) kind.FunctionDeclaration i j ps 1 qs) (λ u h. inl h) (λ u h. inr h)
      (sited below p)
      (body_sited (pass c p) i j ps 0 qs)

  body_sited : (c : Context) (i j : ℕ) (ps : Trees) (n : ℕ) (qs : Trees) → EachUsed (AreSited c.specification site.Elsewhere qs) (events_of c kind.FunctionDeclaration i j ps (suc n) qs)
  body_sited c i j ps n none = tt
  body_sited c i j ps n (skip qs) = body_sited c i j ps (suc n) qs
  body_sited c i j ps n (more p qs) =
      let below = enter c kind.FunctionDeclaration i j ps (ends_named ps) (suc n) p (is_more qs) in
      part_used (IsSited c.specification site.Elsewhere p) (AreSited c.specification site.Elsewhere qs) (AreSited c.specification site.Elsewhere (more p qs)) (events below p) (events_of (pass c p) kind.FunctionDeclaration i j ps (suc (suc n)) qs) (λ u h. inl h) (λ u h. inr h)
      (sited below p)
      (body_sited (pass c p) i j ps (suc n) qs)

  element_sited : (c : Context) (i j : ℕ) (ps : Trees) → EachUsed (HoldElement c.specification c.site ps) (events_of c kind.SequenceType i j ps 0 ps)
  element_sited c i j none = tt
  element_sited c i j (skip qs) = behind_length_sited c i j (skip qs) 0 qs (element_site false c.site) refl
  element_sited c i j (more p qs) =
      let ps = more p qs in
      let below = enter c kind.SequenceType i j ps (ends_named ps) 0 p (is_more qs) in
      part_used (IsSited c.specification (length_site c.site) p) (AreSited c.specification c.site qs) (HoldElement c.specification c.site ps) (events below p) (events_of (pass c p) kind.SequenceType i j ps 1 qs) (λ u h. inl h) (λ u h. inr h)
      (sited below p)
      (behind_length_sited (pass c p) i j ps 0 qs c.site refl)

  behind_length_sited : (c : Context) (i j : ℕ) (ps : Trees) (n : ℕ) (qs : Trees) (s : Site) → element_site (is_there (part_at ps 0)) c.site ≡ s → EachUsed (AreSited c.specification s qs) (events_of c kind.SequenceType i j ps (suc n) qs)
  behind_length_sited c i j ps n none s e = tt
  behind_length_sited c i j ps n (skip qs) s e = behind_length_sited c i j ps (suc n) qs s e
  behind_length_sited c i j ps n (more p qs) s e =
      let below = enter c kind.SequenceType i j ps (ends_named ps) (suc n) p (is_more qs) in
      part_used (IsSited c.specification s p) (AreSited c.specification s qs) (AreSited c.specification s (more p qs)) (events below p) (events_of (pass c p) kind.SequenceType i j ps (suc (suc n)) qs) (λ u h. inl h) (λ u h. inr h)
      (subst (λ x. EachUsed (IsSited c.specification x p) (events below p)) e (sited below p))
      (behind_length_sited (pass c p) i j ps (suc n) qs s e)
