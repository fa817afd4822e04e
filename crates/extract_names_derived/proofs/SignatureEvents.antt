-- What the signature of a printed function tells, and its return.
use Rattle.std.proofs.Common.{◌≡◌, ◌∙◌, ℕ, suc, ◌<◌, inl, inr, Bool, true, false, List, [], ◌∷◌, ◌++◌, Option, Some, None, refl, sym, ap, subst, arith}
use Rattle.std.specs.Prelude.{nat_lt, if◌then◌else◌}
use Rattle.go_grammar.specs.declared.kind.Kind.TheVariants as kind
use Rattle.go_grammar.specs.Grammar.{ends_named}
use Rattle.go_grammar.specs.Trees.{Tree, node, Trees, last}
use Rattle.go_grammar.specs.Trees as trees
use Rattle.go_tree.specs.Views.{part_at}
use Rattle.go_tree.specs.declared.context.Block.TheVariants as block
use Rattle.go_tree.specs.declared.context.Context.{Context}
use Rattle.go_tree.specs.declared.context.Entity.TheVariants as entity
use Rattle.go_tree.specs.declared.context.Manner.TheVariants as manner
use Rattle.go_tree.specs.declared.context.Role.TheVariants as role
use Rattle.go_tree.specs.declared.context.Scope.{Scope}
use Rattle.go_tree.specs.declared.context.Site.TheVariants as site
use Rattle.go_tree.specs.declared.event.Declaration.{Declaration}
use Rattle.go_tree.specs.declared.event.Event.{Event}
use Rattle.go_tree.specs.declared.event.Event.TheVariants as event
use Rattle.go_tree.specs.declared.event.Member.TheVariants as member
use Rattle.go_tree.specs.Contexts.{is_there, is_package, column_site, file_context, source_in, source_at, enter}
use Rattle.go_tree.specs.Events.{name_events, parameter_declared, parameter_events, function_events, declaration_events, statement_events, is_more, begin, events, events_of}
use Rattle.go_heads.specs.Functions.{Alone}
use Rattle.go_print_laws.specs.Calls.{names_behind, names_end}
use Rattle.go_print_laws.specs.Functions.{return_tree, returning_trees}
use Rattle.go_print_laws.specs.Headers.{Header, parameter_at, further_trees, parameter_trees, parameters_end, signature_tree}
use Rattle.go_print_laws.specs.Trees.{name_at, type_tree, result_trees, result_end}
use Rattle.go_scopes_bodies.specs.Listed.{told_list}
use Rattle.go_scopes_bodies.specs.Meant.{Outer}
use Rattle.go_types.specs.Trees.{TypeTree, TypeRow, none, more}
use Rattle.extract_names.specs.Copies.{Copy, TokenInFront, HeadTells, TailTells, InSignature, InReturn}
use Rattle.extract_names.specs.Gaps.{Among}
use Rattle.extract_names.specs.Sites.{EachEvent}
use Rattle.extract_names_derived.specs.Bodies.{NamedBefore, BodySplits}
use Rattle.extract_names_derived.specs.Calls.{NamesType}
use Rattle.extract_names_derived.specs.Signatures.{NamesFurther, NamesParameters, NamesSignature, NamesOutside, SignatureStands, SignatureTells, NamesBehindOne, NamesReturned, IsReturned, ReturnTells, ReturnStands}
use Rattle.extract_names_derived.proofs.Lying.{each_event_append}
use Rattle.extract_names_derived.proofs.TypeEvents.{use_in, node_asked, type_asked, results_asked}

-- ---- signatures

-- P holds of the names of parameters, whose scope is s.
module _ (P N : ℕ → Type 0) (s : Scope) (Q : Event → Type 0) (stated : (i j : ℕ) → Q (event.Statement i j)) (membered : (g x : ℕ) → Q (event.Member member.Field g x)) (used : (c : Context) (i : ℕ) → c.role ≡ role.Operand → c.constant ≡ false → N i → Q (event.Use (use_in c i)))
    (given : (g i : ℕ) → Q (event.Member member.Parameter g i)) (declares : (i : ℕ) → P i → Q (parameter_declared i s)) where
  abbrev E : List Event → Type 0
  E = EachEvent Q

  abbrev both : (es fs : List Event) → E es → E fs → E (es ++ fs)
  both = each_event_append Q

  name_given : (g i : ℕ) (o : Option Scope) → o ≡ Some s → P i → E (parameter_events g i o)
  name_given g i None e p = absurd cc
  name_given g i (Some r) e p = let same : s ≡ r = cc in (given g i, (subst (λ z. Q (parameter_declared i z)) same (declares i p), tt))

  one_parameter : (c : Context) (k j : ℕ) (all : Trees) (so : Option ℕ) (n x : ℕ) (t : TypeTree) (y : Bool) → c.parameters ≡ Some s → c.constant ≡ false → P x → NamesType N (suc x) t
      → E (events (enter (record c { source = so }) kind.Parameters k j all (ends_named all) n (parameter_at x (type_tree (suc x) t)) y) (parameter_at x (type_tree (suc x) t)))
  one_parameter c k j all so n x t y o e p h =
      let of : Tree = type_tree (suc x) t in
      let here : Context = enter (record c { source = so }) kind.Parameters k j all (ends_named all) n (parameter_at x of) y in
      let ps : Trees = trees.more (name_at x) (trees.more of trees.none) in
      let second : Context = enter (record here { source = source_at (begin here kind.Parameter) (name_at x) }) kind.Parameter x (last of) ps (ends_named ps) 1 of false in
      both (parameter_events k x c.parameters ++ []) (events second of ++ []) (both (parameter_events k x c.parameters) [] (name_given k x c.parameters o p) tt)
      (both (events second of) [] (type_asked N Q stated membered used second (suc x) t (record { role = refl; constant = e }) h) tt)

  further_told : (c : Context) (k j : ℕ) (all : Trees) (so : Option ℕ) (n x : ℕ) (ns : List (List ℕ)) (ts : TypeRow) → c.parameters ≡ Some s → c.constant ≡ false → NamesFurther P N x ns ts
      → E (events_of (record c { source = so }) kind.Parameters k j all n (further_trees x ns ts))
  further_told c k j all so n x [] ts o e h = tt
  further_told c k j all so n x (m ∷ ns) none o e h = tt
  further_told c k j all so n x (m ∷ ns) (more t ts) o e h =
      let p : Tree = parameter_at (suc x) (type_tree (suc (suc x)) t) in
      let rest : Trees = further_trees (last (type_tree (suc (suc x)) t)) ns ts in
      both (events (enter (record c { source = so }) kind.Parameters k j all (ends_named all) n p (is_more rest)) p) (events_of (record c { source = source_at (record c { source = so }) p }) kind.Parameters k j all (suc n) rest)
      (one_parameter c k j all so n (suc x) t (is_more rest) o e h.0 h.1)
      (further_told c k j all (source_at (record c { source = so }) p) (suc n) (last (type_tree (suc (suc x)) t)) ns ts o e h.2)

  parameters_told : (c : Context) (k j : ℕ) (all : Trees) (so : Option ℕ) (x : ℕ) (ns : List (List ℕ)) (ts : TypeRow) → c.parameters ≡ Some s → c.constant ≡ false → NamesParameters P N x ns ts
      → E (events_of (record c { source = so }) kind.Parameters k j all 0 (parameter_trees x ns ts))
  parameters_told c k j all so x [] ts o e h = tt
  parameters_told c k j all so x (m ∷ ns) none o e h = tt
  parameters_told c k j all so x (m ∷ ns) (more t ts) o e h =
      let p : Tree = parameter_at x (type_tree (suc x) t) in
      let rest : Trees = further_trees (last (type_tree (suc x) t)) ns ts in
      both (events (enter (record c { source = so }) kind.Parameters k j all (ends_named all) 0 p (is_more rest)) p) (events_of (record c { source = source_at (record c { source = so }) p }) kind.Parameters k j all 1 rest)
      (one_parameter c k j all so 0 x t (is_more rest) o e h.0 h.1)
      (further_told c k j all (source_at (record c { source = so }) p) 1 (last (type_tree (suc x) t)) ns ts o e h.2)

  pub signature_told : (c : Context) (i : ℕ) (h : Header) → c.parameters ≡ Some s → c.constant ≡ false → NamesSignature P N i h → E (events c (signature_tree i h))
  signature_told c i h o e n =
      let k : ℕ = suc (parameters_end (suc i) h.parameters h.types) in
      let j : ℕ = result_end k h.results in
      let qs : Trees = parameter_trees (suc i) h.parameters h.types in
      let list : Tree = node kind.Parameters i k qs in
      let row : Trees = trees.more list (result_trees k h.results) in
      let c2 : Context = enter (begin c kind.Signature) kind.Signature i j row (ends_named row) 0 list (is_more (result_trees k h.results)) in
      node_asked N Q stated membered used c.listed i j [] (events c2 list ++ events_of (record c { source = source_at (begin c kind.Signature) list }) kind.Signature i j row 1 (result_trees k h.results)) tt
      (both (events c2 list) (events_of (record c { source = source_at (begin c kind.Signature) list }) kind.Signature i j row 1 (result_trees k h.results))
      (parameters_told c2 i k qs (source_in c2 kind.Parameters) (suc i) h.parameters h.types o e n.0)
      (results_asked N Q stated membered used c i j row (source_at (begin c kind.Signature) list) k h.results e n.1))

-- ---- the head of a function

-- what it declares, but for where the names stand: itself, or a parameter
data HeadDeclares (c : Copy) (d : Declaration) : Type 0 where
  itself : is_package d.block ≡ true → d.entity ≡ entity.Function → d.manner ≡ manner.Declared → (i : ℕ) → d.source ≡ Some i → d.name ≡ suc i → HeadDeclares c d
  parameter : Among d.name c.parameters → d.entity ≡ entity.Parameter → d.manner ≡ manner.Declared → d.block ≡ block.Local c.body → d.scope.from ≡ c.body → d.scope.to ≡ c.close → d.source ≡ None → HeadDeclares c d

abbrev HeadEvent : Alone → Outer → Copy → Event → Type 0
HeadEvent new outer c (event.Declaration d) = HeadDeclares c d
HeadEvent new outer c (event.Use u) = NamesOutside new outer u.name × (u.constant ≡ false)
HeadEvent new outer c (event.Misplaced i j) = ⊥
HeadEvent new outer c (event.SecondDefault i) = ⊥
HeadEvent new outer c e = Unit {0}

package_local : (c : Copy) (d : Declaration) → is_package d.block ≡ true → is_package d.block ≡ false → ⊥
package_local c d e f = let no : true ≡ false = sym e ∙ f in cc

head_event : (new : Alone) (outer : Outer) (c : Copy) (x : Event) → c.body < c.place c.from → NamedBefore c.body x → HeadEvent new outer c x → HeadTells c x × InSignature new outer c x
head_event new outer c (event.Declaration d) lt b (itself p e m i s n) = (
  (omega (arith, lt, b), λ l. absurd (package_local c d p l)),
  record { entity = inl e; manner = m; source = subst (TokenInFront c) (sym s) (omega (arith, lt, b, n)); parameter = λ l. absurd (package_local c d p l) },
)
head_event new outer c (event.Declaration d) lt b (parameter l e m k f t s) = (
  (omega (arith, lt, b), λ x. record { listed = l; entity = e; block = k; from = omega (arith, f, lt); to = t }),
  record { entity = inr e; manner = m; source = subst (TokenInFront c) (sym s) tt; parameter = λ x. (s, omega (arith, f)) },
)
head_event new outer c (event.Use u) lt b h = (omega (arith, lt, b.0), record { name = b.0; object = h.0.0; meant = h.0.1; plain = h.0.2; constant = h.1; initial = b.1 })
head_event new outer c (event.Member m g x) lt b h = (tt, omega (arith, lt, b))
head_event new outer c (event.Misplaced i j) lt b h = absurd h
head_event new outer c (event.SecondDefault i) lt b h = absurd h
head_event new outer c (event.Import i) lt b h = (tt, tt)
head_event new outer c (event.Bodiless i j) lt b h = (tt, tt)
head_event new outer c (event.Statement i j) lt b h = (tt, tt)

head_events : (new : Alone) (outer : Outer) (c : Copy) (es : List Event) → c.body < c.place c.from → EachEvent (NamedBefore c.body) es → EachEvent (HeadEvent new outer c) es → EachEvent (HeadTells c) es × EachEvent (InSignature new outer c) es
head_events new outer c [] lt b h = (tt, tt)
head_events new outer c (x ∷ es) lt b h =
    let one = head_event new outer c x lt b.0 h.0 in
    let others = head_events new outer c es lt b.1 h.1 in
    ((one.0, others.0), (one.1, others.1))

function_told : (new : Alone) (outer : Outer) (c : Copy) (i j : ℕ) (ps : Trees) (b : Bool) → EachEvent (HeadEvent new outer c) (if b then function_events i j (is_there (part_at ps 1)) else [])
function_told new outer c i j ps false = tt
function_told new outer c i j ps true = by (is_there (part_at ps 1))
  where
    by : (y : Bool) → EachEvent (HeadEvent new outer c) (function_events i j y)
    by true = (itself refl refl refl i refl refl, tt)
    by false = (itself refl refl refl i refl refl, (tt, tt))

pub signature_tells : (new : Alone) (outer : Outer) (c : Copy) (e : ℕ) (xs ys : Trees) (split : BodySplits new c.body e xs ys) (h : Header) → SignatureStands new outer c e xs ys split h → SignatureTells new outer c e xs ys split
signature_tells new outer c e xs ys split h x =
    let i : ℕ = split.first_token in
    let j : ℕ = split.last_token in
    let row : Trees = trees.more split.signature (trees.more (node kind.Block c.body e (trees.onto xs ys)) trees.none) in
    let here : Context = enter (file_context 0) kind.FunctionDeclaration i j row (ends_named row) 0 split.signature true in
    let scope : Scope = record { from = last split.signature; to = j } in
    let told : EachEvent (HeadEvent new outer c) (events here split.signature) =
    subst (λ z. EachEvent (HeadEvent new outer c) (events here z)) (sym x.tree)
    (signature_told (λ u. Among u c.parameters) (NamesOutside new outer) scope (HeadEvent new outer c) (λ a b. tt) (λ g y. tt) (λ d y r q n. (n, q)) (λ g y. tt)
    (λ y p. parameter p refl refl (ap block.Local x.begins) x.begins x.close refl) here 2 h refl refl x.names) in
    let whole : EachEvent (HeadEvent new outer c) split.head =
    subst (EachEvent (HeadEvent new outer c)) (sym split.head_told)
    (each_event_append (HeadEvent new outer c) (declaration_events i j row) (events here split.signature) (function_told new outer c i j row (nat_lt i j)) told) in
    let both = head_events new outer c split.head x.inner split.before whole in
    record { head = both.0; signature = both.1 }

-- ---- returns

-- where the names of a return stand
record ReturnContext (c : Context) : Type 0 where
  role : c.role ≡ role.Operand
  site : c.site ≡ site.Elsewhere
  constant : c.constant ≡ false
  initial : c.initial ≡ false

module _ (a new : Alone) (c : Copy) (run : List Event) where
  abbrev R : ℕ → Type 0
  R = IsReturned a new c run

  abbrev B : Event → Type 0
  B x = TailTells c x × InReturn a new c run x

  abbrev Told : List Event → Type 0
  Told = EachEvent B

  join : (es fs : List Event) → Told es → Told fs → Told (es ++ fs)
  join es fs x y = each_event_append B es fs x y

  stated_told : (x : Bool) (i j : ℕ) → Told (statement_events x i j)
  stated_told true i j = ((tt, tt), tt)
  stated_told false i j = tt

  node_told : (x : Bool) (i j : ℕ) (own rest : List Event) → Told own → Told rest → Told ((statement_events x i j ++ own) ++ rest)
  node_told x i j own rest f h = join (statement_events x i j ++ own) rest (join (statement_events x i j) own (stated_told x i j) f) h

  returned_name : (x : Context) (i : ℕ) → ReturnContext x → R i → Told (events x (name_at i))
  returned_name x i h r =
      node_told x.listed i (suc i) (name_events x i x.role) []
      (subst (λ z. Told (name_events x i z)) (sym h.role) ((r.behind, record { name = r.within; elsewhere = h.site; constant = h.constant; initial = h.initial; meant = r.meant }), tt)) tt

  names_told : (x : Context) (i j : ℕ) (all : Trees) (so : Option ℕ) (n y : ℕ) (xs : List (List ℕ)) → ReturnContext x → NamesBehindOne R y xs → Told (events_of (record x { source = so }) kind.ExpressionList i j all n (names_behind y xs))
  names_told x i j all so n y [] h r = tt
  names_told x i j all so n y (w ∷ xs) h r =
      let rest : Trees = names_behind (suc (suc y)) xs in
      let here : Context = enter (record x { source = so }) kind.ExpressionList i j all (ends_named all) n (name_at (suc y)) (is_more rest) in
      join (events here (name_at (suc y))) (events_of (record x { source = source_at (record x { source = so }) (name_at (suc y)) }) kind.ExpressionList i j all (suc n) rest)
      (returned_name here (suc y) (record { role = h.role; site = ap (column_site n) h.site; constant = h.constant; initial = h.initial }) r.0)
      (names_told x i j all (source_at (record x { source = so }) (name_at (suc y))) (suc n) (suc (suc y)) xs h r.1)

  returns_told : (x : Context) (i : ℕ) (xs : List (List ℕ)) → ReturnContext x → NamesReturned R i xs → Told (told_list x false (returning_trees i xs))
  returns_told x i [] h r = tt
  returns_told x i (w ∷ xs) h r =
      let e : ℕ = names_end (suc (suc i)) xs in
      let names : Trees = trees.more (name_at (suc i)) (names_behind (suc (suc i)) xs) in
      let list : Tree = node kind.ExpressionList (suc i) e names in
      let all : Trees = trees.more list trees.none in
      let c0 : Context = record x { falls = false } in
      let c1 : Context = enter (begin c0 kind.Return) kind.Return i e all (ends_named all) 0 list false in
      let c2 : Context = enter (begin c1 kind.ExpressionList) kind.ExpressionList (suc i) e names (ends_named names) 0 (name_at (suc i)) (is_more (names_behind (suc (suc i)) xs)) in
      join (events c0 (return_tree i xs)) []
      (node_told x.listed i e [] (events c1 list ++ []) tt
      (join (events c1 list) []
      (join (events c2 (name_at (suc i))) (events_of (record c1 { source = source_at (begin c1 kind.ExpressionList) (name_at (suc i)) }) kind.ExpressionList (suc i) e names 1 (names_behind (suc (suc i)) xs))
      (returned_name c2 (suc i) (record { role = refl; site = ap (column_site 0) h.site; constant = h.constant; initial = h.initial }) r.0)
      (names_told c1 (suc i) e names (source_at (begin c1 kind.ExpressionList) (name_at (suc i))) 1 (suc (suc i)) xs (record { role = refl; site = h.site; constant = h.constant; initial = h.initial }) r.1)) tt)) tt

  unzip : (es : List Event) → Told es → ReturnTells a new c run es
  unzip [] h = record { tail = tt; returns = tt }
  unzip (y ∷ es) h = let others : ReturnTells a new c run es = unzip es h.1 in record { tail = (h.0.0, others.tail); returns = (h.0.1, others.returns) }

  pub return_tells : (e : ℕ) (xs ys : Trees) (split : BodySplits new c.body e xs ys) (i : ℕ) (names : List (List ℕ)) → ReturnStands a new c run e xs ys split i names → ReturnTells a new c run (told_list split.context false ys)
  return_tells e xs ys split i names h =
      subst (λ z. ReturnTells a new c run (told_list split.context false z)) (sym h.trees)
      (unzip (told_list split.context false (returning_trees i names))
      (returns_told split.context i names (record { role = split.role; site = split.site; constant = split.constant; initial = split.initial }) h.returned))
