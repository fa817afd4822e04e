-- No member stands twice in what a printed signature tells.
use Rattle.std.proofs.Common.{◌≡◌, ◌∙◌, ℕ, suc, ◌<◌, ◌≤◌, Bool, true, false, List, [], ◌∷◌, ◌++◌, Option, Some, refl, sym, ap, subst, arith}
use Rattle.std.specs.Prelude.{◌&&◌, not, nat_lt, if◌then◌else◌}
use Rattle.go_grammar.specs.declared.kind.Kind.TheVariants as kind
use Rattle.go_grammar.specs.Grammar.{ends_named}
use Rattle.go_grammar.specs.Trees.{Tree, node, Trees, last}
use Rattle.go_grammar.specs.Trees as trees
use Rattle.go_tree.specs.Views.{part_at}
use Rattle.go_tree.specs.declared.context.Context.{Context}
use Rattle.go_tree.specs.declared.context.Scope.{Scope}
use Rattle.go_tree.specs.declared.event.Event.{Event}
use Rattle.go_tree.specs.declared.event.Event.TheVariants as event
use Rattle.go_tree.specs.declared.event.Member.TheVariants as member
use Rattle.go_tree.specs.Contexts.{is_there, file_context, source_in, source_at, enter}
use Rattle.go_tree.specs.Events.{parameter_declared, parameter_events, function_events, declaration_events, is_more, begin, events, events_of}
use Rattle.go_tree.specs.Units.{is_blank}
use Rattle.go_heads.specs.Functions.{Alone}
use Rattle.go_heads.specs.Names.{own_text}
use Rattle.go_print_laws.specs.Headers.{Header, parameter_at, further_trees, further_end, parameter_trees, parameters_end, signature_tree}
use Rattle.go_print_laws.specs.Trees.{name_at, type_tree, result_trees, result_end}
use Rattle.go_scopes_bodies.specs.Faults.{own_has_member, own_is_duplicate, second_members_by}
use Rattle.go_types.specs.Trees.{TypeTree, TypeRow, none, more}
use Rattle.extract_names_derived.specs.Bodies.{function_row, BodySplits}
use Rattle.extract_names_derived.specs.Fields.{IsOther, FieldsOnce, FurtherOnce, ParametersOnce, SignatureOnce}
use Rattle.extract_names_derived.proofs.FieldsOnce.{Between, Once, once_wide, once_append, once_none, node_once, below_append, below_wide, Below, Known, known_next, other_groups, place_off, free_append, between_wide, type_once, type_ends, results_end, results_once}
use Rattle.extract_names_derived.proofs.Lying.{each_event_append, each_event_map}

further_ends : (i : ℕ) (ns : List (List ℕ)) (ts : TypeRow) → i ≤ further_end i ns ts
further_ends i [] ts = omega arith
further_ends i (n ∷ ns) none = omega arith
further_ends i (n ∷ ns) (more t ts) = omega (arith, type_ends (suc (suc i)) t, further_ends (last (type_tree (suc (suc i)) t)) ns ts)

parameters_ends : (i : ℕ) (ns : List (List ℕ)) (ts : TypeRow) → i ≤ parameters_end i ns ts
parameters_ends i [] ts = omega arith
parameters_ends i (n ∷ ns) none = omega arith
parameters_ends i (n ∷ ns) (more t ts) = omega (arith, type_ends (suc i) t, further_ends (last (type_tree (suc i) t)) ns ts)

module _ (w : ℕ → List ℕ) where
  second_off : (a b : Bool) → b ≡ false → (a && b) ≡ false
  second_off true b e = e
  second_off false b e = refl

  -- a parameter by its name y, and then these events
  record Part (g hi y : ℕ) (front : List ℕ) (before es : List Event) : Type 0 where
    once : Once w g hi before es
    known : Known w member.Parameter g (y ∷ front) (before ++ es)

  part_some : (g y hi : ℕ) (before es : List Event) (front : List ℕ) (s : Scope) → g < hi → IsOther w y front → Known w member.Parameter g front before
      → Once w (suc g) hi ((before ++ event.Member member.Parameter g y ∷ []) ++ parameter_declared y s ∷ []) es → Part g hi y front before (event.Member member.Parameter g y ∷ parameter_declared y s ∷ es)
  part_some g y hi before es front s lt other k told = record {
    once = record {
      free = place_off w (own_is_duplicate w member.Parameter g (w y) before) (second_members_by w (before ++ event.Member member.Parameter g y ∷ []) (parameter_declared y s ∷ es))
          (second_off (not (is_blank (w y))) (own_has_member w member.Parameter g (w y) before) (k y other)) told.free;
      between = ((omega arith, lt), (tt, each_event_map (Between w (suc g) hi) (Between w g hi) es (λ e. between_wide w (suc g) hi g hi e (omega arith) (omega arith)) told.between));
    };
    known = known_next w member.Parameter g y front before (parameter_declared y s ∷ es) hi k (tt, told.between);
  }

  parameter_part : (c : Context) (g j : ℕ) (all : Trees) (so : Option ℕ) (n x : ℕ) (t : TypeTree) (y : Bool) (front : List ℕ) (before : List Event) (s : Scope) → c.parameters ≡ Some s → g < x → Below w x before → Known w member.Parameter g front before
      → IsOther w x front → FieldsOnce w (suc x) t
      → Part g (last (type_tree (suc x) t)) x front before (events (enter (record c { source = so }) kind.Parameters g j all (ends_named all) n (parameter_at x (type_tree (suc x) t)) y) (parameter_at x (type_tree (suc x) t)))
  parameter_part c g j all so n x t y front before s o lt b k other h =
      let of : Tree = type_tree (suc x) t in
      let here : Context = enter (record c { source = so }) kind.Parameters g j all (ends_named all) n (parameter_at x of) y in
      let ps : Trees = trees.more (name_at x) (trees.more of trees.none) in
      let second : Context = enter (record here { source = source_at (begin here kind.Parameter) (name_at x) }) kind.Parameter x (last of) ps (ends_named ps) 1 of false in
      let mark : List Event = event.Member member.Parameter g x ∷ [] in
      let after : List Event = (before ++ mark) ++ parameter_declared x s ∷ [] in
      let grows : suc x < last of = type_ends (suc x) t in
      let below : Below w (suc x) after = each_event_append (Between w 0 (suc x)) (before ++ mark) (parameter_declared x s ∷ []) (below_append w x (suc x) g before mark b ((omega arith, omega (arith, lt)), tt) (omega arith)) (tt, tt) in
      let it : Once w (suc x) (last of) after (events second of) = type_once w second (suc x) t after refl h below in
      subst (λ z. Part g (last of) x front before ((parameter_events g x z ++ []) ++ (events second of ++ []))) (sym o)
      (part_some g x (last of) before (events second of ++ []) front s (omega (arith, lt, grows)) other k
      (once_append w (suc g) (last of) after (events second of) [] (once_wide w (suc x) (last of) (suc g) (last of) after (events second of) (omega (arith, lt)) (omega arith) it) (once_none w (suc g) (last of) (after ++ events second of))))

  further_once : (c : Context) (g j : ℕ) (all : Trees) (so : Option ℕ) (n x : ℕ) (ns : List (List ℕ)) (ts : TypeRow) (front : List ℕ) (before : List Event) (s : Scope) → c.parameters ≡ Some s → g < x → Below w x before → Known w member.Parameter g front before
      → FurtherOnce w front x ns ts → Once w g (suc (further_end x ns ts)) before (events_of (record c { source = so }) kind.Parameters g j all n (further_trees x ns ts))
  further_once c g j all so n x [] ts front before s o lt b k h = once_none w g (suc x) before
  further_once c g j all so n x (m ∷ ns) none front before s o lt b k h = once_none w g (suc x) before
  further_once c g j all so n x (m ∷ ns) (more t ts) front before s o lt b k h =
      let of : Tree = type_tree (suc (suc x)) t in
      let p : Tree = parameter_at (suc x) of in
      let rest : Trees = further_trees (last of) ns ts in
      let es : List Event = events (enter (record c { source = so }) kind.Parameters g j all (ends_named all) n p (is_more rest)) p in
      let grows : suc (suc x) < last of = type_ends (suc (suc x)) t in
      let up : last of ≤ further_end (last of) ns ts = further_ends (last of) ns ts in
      let hi : ℕ = suc (further_end (last of) ns ts) in
      let one : Part g (last of) (suc x) front before es = parameter_part c g j all so n (suc x) t (is_more rest) front before s o (omega (arith, lt)) (below_wide w x (suc x) before (omega arith) b) k h.0 h.1 in
      once_append w g hi before es (events_of (record c { source = source_at (record c { source = so }) p }) kind.Parameters g j all (suc n) rest) (once_wide w g (last of) g hi before es (omega arith) (omega (arith, up)) one.once)
      (further_once c g j all (source_at (record c { source = so }) p) (suc n) (last of) ns ts (suc x ∷ front) (before ++ es) s o (omega (arith, lt, grows)) (below_append w x (last of) g before es b one.once.between (omega (arith, grows))) one.known h.2)

  parameters_once : (c : Context) (g j : ℕ) (all : Trees) (so : Option ℕ) (x : ℕ) (ns : List (List ℕ)) (ts : TypeRow) (before : List Event) (s : Scope) → c.parameters ≡ Some s → g < x → Below w g before → ParametersOnce w x ns ts
      → Once w g (suc (parameters_end x ns ts)) before (events_of (record c { source = so }) kind.Parameters g j all 0 (parameter_trees x ns ts))
  parameters_once c g j all so x [] ts before s o lt b h = once_none w g (suc x) before
  parameters_once c g j all so x (m ∷ ns) none before s o lt b h = once_none w g (suc x) before
  parameters_once c g j all so x (m ∷ ns) (more t ts) before s o lt b h =
      let of : Tree = type_tree (suc x) t in
      let p : Tree = parameter_at x of in
      let rest : Trees = further_trees (last of) ns ts in
      let es : List Event = events (enter (record c { source = so }) kind.Parameters g j all (ends_named all) 0 p (is_more rest)) p in
      let grows : suc x < last of = type_ends (suc x) t in
      let up : last of ≤ further_end (last of) ns ts = further_ends (last of) ns ts in
      let hi : ℕ = suc (further_end (last of) ns ts) in
      let below : Below w x before = below_wide w g x before (omega (arith, lt)) b in
      let one : Part g (last of) x [] before es = parameter_part c g j all so 0 x t (is_more rest) [] before s o lt below (λ z q. other_groups w member.Parameter g (w z) 0 g before (λ y low high e. omega (arith, high, e)) b) tt h.0 in
      once_append w g hi before es (events_of (record c { source = source_at (record c { source = so }) p }) kind.Parameters g j all 1 rest) (once_wide w g (last of) g hi before es (omega arith) (omega (arith, up)) one.once)
      (further_once c g j all (source_at (record c { source = so }) p) 1 (last of) ns ts (x ∷ []) (before ++ es) s o (omega (arith, lt, grows)) (below_append w x (last of) g before es below one.once.between (omega (arith, grows))) one.known h.1)

  signature_once : (c : Context) (i : ℕ) (h : Header) (before : List Event) (s : Scope) → c.parameters ≡ Some s → Below w i before → SignatureOnce w i h → Once w i (result_end (suc (parameters_end (suc i) h.parameters h.types)) h.results) before (events c (signature_tree i h))
  signature_once c i h before s o b n =
      let k : ℕ = suc (parameters_end (suc i) h.parameters h.types) in
      let j : ℕ = result_end k h.results in
      let qs : Trees = parameter_trees (suc i) h.parameters h.types in
      let list : Tree = node kind.Parameters i k qs in
      let row : Trees = trees.more list (result_trees k h.results) in
      let c2 : Context = enter (begin c kind.Signature) kind.Signature i j row (ends_named row) 0 list (is_more (result_trees k h.results)) in
      let others : List Event = events_of (record c { source = source_at (begin c kind.Signature) list }) kind.Signature i j row 1 (result_trees k h.results) in
      let up : k ≤ j = results_end k h.results in
      let low : suc i ≤ parameters_end (suc i) h.parameters h.types = parameters_ends (suc i) h.parameters h.types in
      node_once w i j before c.listed i j (events c2 list ++ others)
      (λ after f.
      let first : Once w i k after (events c2 list) = parameters_once c2 i k qs (source_in c2 kind.Parameters) (suc i) h.parameters h.types after s o (omega arith) (f b) n.0 in
      once_append w i j after (events c2 list) others (once_wide w i k i j after (events c2 list) (omega arith) up first)
      (once_wide w k j i j (after ++ events c2 list) others (omega (arith, low)) (omega arith)
      (results_once w c i j row (source_at (begin c kind.Signature) list) k h.results (after ++ events c2 list) n.1 (below_append w i k i after (events c2 list) (f b) first.between (omega (arith, low))))))

  function_once : (i j : ℕ) (x y : Bool) → Once w 0 0 [] (if x then function_events i j y else [])
  function_once i j false y = once_none w 0 0 []
  function_once i j true true = record { free = refl; between = (tt, tt) }
  function_once i j true false = record { free = refl; between = (tt, (tt, tt)) }

pub head_free : (new : Alone) (k e : ℕ) (xs ys : Trees) (split : BodySplits new k e xs ys) (h : Header) → split.signature ≡ signature_tree 2 h → SignatureOnce (own_text new) 2 h → second_members_by (own_text new) [] split.head ≡ []
head_free new k e xs ys split h same once =
    let w : ℕ → List ℕ = own_text new in
    let i : ℕ = split.first_token in
    let j : ℕ = split.last_token in
    let row : Trees = function_row split.signature k e xs ys in
    let here : Context = enter (file_context 0) kind.FunctionDeclaration i j row (ends_named row) 0 split.signature true in
    let own : List Event = declaration_events i j row in
    let first : Once w 0 0 [] own = function_once w i j (nat_lt i j) (is_there (part_at row 1)) in
    let scope : Scope = record { from = last split.signature; to = j } in
    ap (second_members_by w []) split.head_told
    ∙ free_append w [] own (events here split.signature) first.free
    (subst (λ z. second_members_by w own (events here z) ≡ []) (sym same)
    (signature_once w here 2 h own scope refl (each_event_map (Between w 0 0) (Between w 0 2) own (λ x. between_wide w 0 0 0 2 x (omega arith) (omega arith)) first.between) once).free)
