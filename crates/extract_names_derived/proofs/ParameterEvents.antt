-- The parameters that a printed signature declares.
use Rattle.std.proofs.Common.{◌≡◌, ℕ, suc, inl, inr, Bool, true, false, List, [], ◌∷◌, ◌++◌, Option, Some, None, refl, sym, ap, subst}
use Rattle.go_grammar.specs.declared.kind.Kind.TheVariants as kind
use Rattle.go_grammar.specs.Grammar.{ends_named}
use Rattle.go_grammar.specs.Trees.{Tree, node, Trees, last}
use Rattle.go_grammar.specs.Trees as trees
use Rattle.go_tree.specs.declared.context.Block.TheVariants as block
use Rattle.go_tree.specs.declared.context.Context.{Context}
use Rattle.go_tree.specs.declared.context.Entity.TheVariants as entity
use Rattle.go_tree.specs.declared.context.Manner.TheVariants as manner
use Rattle.go_tree.specs.declared.context.Scope.{Scope}
use Rattle.go_tree.specs.declared.event.Declaration.{Declaration}
use Rattle.go_tree.specs.declared.event.Event.{Event}
use Rattle.go_tree.specs.declared.event.Event.TheVariants as event
use Rattle.go_tree.specs.Contexts.{file_context, source_in, source_at, enter}
use Rattle.go_tree.specs.Events.{parameter_events, declaration_events, statement_events, is_more, begin, events, events_of}
use Rattle.go_tree.specs.Units.{is_blank}
use Rattle.go_heads.specs.Functions.{Alone}
use Rattle.go_heads.specs.Names.{own_text}
use Rattle.go_print_laws.specs.Headers.{Header, parameter_at, further_trees, parameter_trees, parameters_end, signature_tree}
use Rattle.go_print_laws.specs.Trees.{name_at, type_tree, result_trees, result_end}
use Rattle.go_types.specs.Trees.{TypeTree, TypeRow, none, more}
use Rattle.extract_names.specs.Copies.{ParameterStands}
use Rattle.extract_names.specs.Gaps.{Among}
use Rattle.extract_names_derived.specs.Bodies.{function_row, BodySplits}
use Rattle.extract_names_derived.specs.Signatures.{further_tokens, parameter_tokens}

among_left : (e : Event) (es fs : List Event) → Among e es → Among e (es ++ fs)
among_left e [] fs k = absurd k
among_left e (x ∷ es) fs (inl q) = inl q
among_left e (x ∷ es) fs (inr k) = inr (among_left e es fs k)

among_right : (e : Event) (es fs : List Event) → Among e fs → Among e (es ++ fs)
among_right e [] fs k = k
among_right e (x ∷ es) fs k = inr (among_right e es fs k)

module _ (s : Scope) where
  abbrev parameter_of : ℕ → Declaration
  parameter_of x = record { name = x; entity = entity.Parameter; manner = manner.Declared; block = block.Local s.from; scope = s; statement = x; source = None; column = 0 }

  abbrev IsTold : ℕ → List Event → Type 0
  IsTold u es = Among (event.Declaration (parameter_of u)) es

  name_there : (g x : ℕ) (o : Option Scope) → o ≡ Some s → IsTold x (parameter_events g x o)
  name_there g x None e = absurd cc
  name_there g x (Some r) e = let same : s ≡ r = cc in inr (inl (ap (λ (z : Scope). event.Declaration (record { name = x; entity = entity.Parameter; manner = manner.Declared; block = block.Local z.from; scope = z; statement = x; source = None; column = 0 })) same))

  one_there : (c : Context) (k j : ℕ) (all : Trees) (so : Option ℕ) (n x : ℕ) (t : TypeTree) (y : Bool) → c.parameters ≡ Some s
      → IsTold x (events (enter (record c { source = so }) kind.Parameters k j all (ends_named all) n (parameter_at x (type_tree (suc x) t)) y) (parameter_at x (type_tree (suc x) t)))
  one_there c k j all so n x t y o =
      let of : Tree = type_tree (suc x) t in
      let here : Context = enter (record c { source = so }) kind.Parameters k j all (ends_named all) n (parameter_at x of) y in
      let ps : Trees = trees.more (name_at x) (trees.more of trees.none) in
      let second : Context = enter (record here { source = source_at (begin here kind.Parameter) (name_at x) }) kind.Parameter x (last of) ps (ends_named ps) 1 of false in
      among_left (event.Declaration (parameter_of x)) (parameter_events k x c.parameters ++ []) (events second of ++ []) (among_left (event.Declaration (parameter_of x)) (parameter_events k x c.parameters) [] (name_there k x c.parameters o))

  further_there : (u : ℕ) (c : Context) (k j : ℕ) (all : Trees) (so : Option ℕ) (n x : ℕ) (ns : List (List ℕ)) (ts : TypeRow) → c.parameters ≡ Some s → Among u (further_tokens x ns ts)
      → IsTold u (events_of (record c { source = so }) kind.Parameters k j all n (further_trees x ns ts))
  further_there u c k j all so n x [] ts o m = absurd m
  further_there u c k j all so n x (w ∷ ns) none o m = absurd m
  further_there u c k j all so n x (w ∷ ns) (more t ts) o (inl e) =
      let p : Tree = parameter_at (suc x) (type_tree (suc (suc x)) t) in
      let rest : Trees = further_trees (last (type_tree (suc (suc x)) t)) ns ts in
      among_left (event.Declaration (parameter_of u)) (events (enter (record c { source = so }) kind.Parameters k j all (ends_named all) n p (is_more rest)) p) (events_of (record c { source = source_at (record c { source = so }) p }) kind.Parameters k j all (suc n) rest)
      (subst (λ z. IsTold z (events (enter (record c { source = so }) kind.Parameters k j all (ends_named all) n p (is_more rest)) p)) (sym e) (one_there c k j all so n (suc x) t (is_more rest) o))
  further_there u c k j all so n x (w ∷ ns) (more t ts) o (inr m) =
      let p : Tree = parameter_at (suc x) (type_tree (suc (suc x)) t) in
      let rest : Trees = further_trees (last (type_tree (suc (suc x)) t)) ns ts in
      among_right (event.Declaration (parameter_of u)) (events (enter (record c { source = so }) kind.Parameters k j all (ends_named all) n p (is_more rest)) p) (events_of (record c { source = source_at (record c { source = so }) p }) kind.Parameters k j all (suc n) rest)
      (further_there u c k j all (source_at (record c { source = so }) p) (suc n) (last (type_tree (suc (suc x)) t)) ns ts o m)

  parameters_there : (u : ℕ) (c : Context) (k j : ℕ) (all : Trees) (so : Option ℕ) (x : ℕ) (ns : List (List ℕ)) (ts : TypeRow) → c.parameters ≡ Some s → Among u (parameter_tokens x ns ts)
      → IsTold u (events_of (record c { source = so }) kind.Parameters k j all 0 (parameter_trees x ns ts))
  parameters_there u c k j all so x [] ts o m = absurd m
  parameters_there u c k j all so x (w ∷ ns) none o m = absurd m
  parameters_there u c k j all so x (w ∷ ns) (more t ts) o (inl e) =
      let p : Tree = parameter_at x (type_tree (suc x) t) in
      let rest : Trees = further_trees (last (type_tree (suc x) t)) ns ts in
      among_left (event.Declaration (parameter_of u)) (events (enter (record c { source = so }) kind.Parameters k j all (ends_named all) 0 p (is_more rest)) p) (events_of (record c { source = source_at (record c { source = so }) p }) kind.Parameters k j all 1 rest)
      (subst (λ z. IsTold z (events (enter (record c { source = so }) kind.Parameters k j all (ends_named all) 0 p (is_more rest)) p)) (sym e) (one_there c k j all so 0 x t (is_more rest) o))
  parameters_there u c k j all so x (w ∷ ns) (more t ts) o (inr m) =
      let p : Tree = parameter_at x (type_tree (suc x) t) in
      let rest : Trees = further_trees (last (type_tree (suc x) t)) ns ts in
      among_right (event.Declaration (parameter_of u)) (events (enter (record c { source = so }) kind.Parameters k j all (ends_named all) 0 p (is_more rest)) p) (events_of (record c { source = source_at (record c { source = so }) p }) kind.Parameters k j all 1 rest)
      (further_there u c k j all (source_at (record c { source = so }) p) 1 (last (type_tree (suc x) t)) ns ts o m)

  signature_there : (u : ℕ) (c : Context) (i : ℕ) (h : Header) → c.parameters ≡ Some s → Among u (parameter_tokens (suc i) h.parameters h.types) → IsTold u (events c (signature_tree i h))
  signature_there u c i h o m =
      let k : ℕ = suc (parameters_end (suc i) h.parameters h.types) in
      let j : ℕ = result_end k h.results in
      let qs : Trees = parameter_trees (suc i) h.parameters h.types in
      let list : Tree = node kind.Parameters i k qs in
      let row : Trees = trees.more list (result_trees k h.results) in
      let c2 : Context = enter (begin c kind.Signature) kind.Signature i j row (ends_named row) 0 list (is_more (result_trees k h.results)) in
      let others : List Event = events_of (record c { source = source_at (begin c kind.Signature) list }) kind.Signature i j row 1 (result_trees k h.results) in
      among_right (event.Declaration (parameter_of u)) (statement_events c.listed i j ++ []) (events c2 list ++ others)
      (among_left (event.Declaration (parameter_of u)) (events c2 list) others (parameters_there u c2 i k qs (source_in c2 kind.Parameters) (suc i) h.parameters h.types o m))

pub parameter_stands : (new : Alone) (k e : ℕ) (xs ys : Trees) (split : BodySplits new k e xs ys) (h : Header) (u : ℕ) → split.signature ≡ signature_tree 2 h → Among u (parameter_tokens 3 h.parameters h.types) → is_blank (own_text new u) ≡ false → ParameterStands new split.head u
parameter_stands new k e xs ys split h u same m some =
    let i : ℕ = split.first_token in
    let j : ℕ = split.last_token in
    let row : Trees = function_row split.signature k e xs ys in
    let here : Context = enter (file_context 0) kind.FunctionDeclaration i j row (ends_named row) 0 split.signature true in
    let scope : Scope = record { from = last split.signature; to = j } in
    record {
      it = parameter_of scope u;
      there =
          subst (Among (event.Declaration (parameter_of scope u))) (sym split.head_told)
          (among_right (event.Declaration (parameter_of scope u)) (declaration_events i j row) (events here split.signature)
          (subst (λ z. Among (event.Declaration (parameter_of scope u)) (events here z)) (sym same) (signature_there scope u here 2 h refl m)));
      name = refl;
      local = refl;
      manner = refl;
      some = some;
    }
