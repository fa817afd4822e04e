-- No member stands twice in what the statements of a call tell.
use Rattle.std.proofs.Common.{◌≡◌, ℕ, suc, Bool, true, false, List, [], ◌∷◌, ◌++◌, Option, Some, refl, sym, subst, arith}
use Rattle.std.specs.Prelude.{◌&&◌, not, pos, negsuc}
use Rattle.go_constants.specs.declared.values.Const.TheVariants as const
use Rattle.go_grammar.specs.declared.kind.Kind.TheVariants as kind
use Rattle.go_grammar.specs.declared.kind.Sign.TheVariants as sign
use Rattle.go_grammar.specs.declared.kind.Sort.TheVariants as sort
use Rattle.go_grammar.specs.Grammar.{ends_named}
use Rattle.go_grammar.specs.Trees.{Tree, node, Trees, none, more, last}
use Rattle.go_tree.specs.declared.context.Context.{Context}
use Rattle.go_tree.specs.declared.context.Entity.TheVariants as entity
use Rattle.go_tree.specs.declared.context.Manner.TheVariants as manner
use Rattle.go_tree.specs.declared.context.Role.{Role}
use Rattle.go_tree.specs.declared.context.Role.TheVariants as role
use Rattle.go_tree.specs.declared.event.Event.{Event}
use Rattle.go_tree.specs.declared.event.Event.TheVariants as event
use Rattle.go_tree.specs.Contexts.{source_at, enter}
use Rattle.go_tree.specs.Events.{statement_events, name_events, is_more, begin, events, events_of}
use Rattle.go_print_laws.specs.Calls.{Argument, variable, constant, Call, argument_tree, further_trees, arguments_trees, arguments_end, call_tree, names_behind, names_end, statement_tree, declaration_at, statement_trees, call_trees}
use Rattle.go_print_laws.specs.Trees.{name_at, number_at, names_at, type_tree}
use Rattle.go_scopes_bodies.specs.Faults.{second_members_by}
use Rattle.go_scopes_bodies.specs.Listed.{told_list}
use Rattle.go_types.specs.Trees.{TypeTree, TypeRow}
use Rattle.go_types.specs.Trees as types
use Rattle.extract_names.specs.Sites.{EachEvent}
use Rattle.extract_names_derived.specs.Fields.{FieldsOnce, DeclaredOnce, CallFieldsOnce}
use Rattle.extract_names_derived.proofs.FieldsOnce.{Between, Once, free_append, once_wide, once_append, once_none, node_once, below_append, type_once, type_ends}
use Rattle.extract_names_derived.proofs.Lying.{each_event_append}
use Rattle.extract_names_derived.proofs.TypeEvents.{IsLookedUp}

abbrev NoMember : Event → Type 0
NoMember (event.Member m g x) = ⊥
NoMember e = Unit {0}

abbrev E : List Event → Type 0
E = EachEvent NoMember

both : (es fs : List Event) → E es → E fs → E (es ++ fs)
both es fs x y = each_event_append NoMember es fs x y

statement_quiet : (x : Bool) (i j : ℕ) → E (statement_events x i j)
statement_quiet true i j = (tt, tt)
statement_quiet false i j = tt

node_quiet : (x : Bool) (i j : ℕ) (own rest : List Event) → E own → E rest → E ((statement_events x i j ++ own) ++ rest)
node_quiet x i j own rest f h = both (statement_events x i j ++ own) rest (both (statement_events x i j) own (statement_quiet x i j) f) h

name_quiet : (c : Context) (i : ℕ) (r : Role) → IsLookedUp r → E (name_events c i r)
name_quiet c i role.Operand r = (tt, tt)
name_quiet c i role.Assigned r = (tt, tt)
name_quiet c i role.Called r = (tt, tt)
name_quiet c i (role.Selected l x) r = absurd r
name_quiet c i (role.New d) r = absurd r
name_quiet c i (role.Field x) r = absurd r
name_quiet c i (role.Key x) r = absurd r
name_quiet c i (role.Parameter x s) r = absurd r

leaf_quiet : (c : Context) (i : ℕ) → IsLookedUp c.role → E (events c (name_at i))
leaf_quiet c i r = node_quiet c.listed i (suc i) (name_events c i c.role) [] (name_quiet c i c.role r) tt

number_quiet : (c : Context) (i : ℕ) → E (events c (number_at i))
number_quiet c i = node_quiet c.listed i (suc i) [] [] tt tt

argument_quiet : (c : Context) (i : ℕ) (x : Argument) → IsLookedUp c.role → E (events c (argument_tree i x))
argument_quiet c i (variable n) r = leaf_quiet c i r
argument_quiet c i (constant (const.Bool b)) r = leaf_quiet c i r
argument_quiet c i (constant (const.Int (pos n) rune)) r = number_quiet c i
argument_quiet c i (constant (const.Int (negsuc n) rune)) r =
    let ps : Trees = more (number_at (suc i)) none in
    let here : Context = enter (begin c (kind.Unary sign.Minus)) (kind.Unary sign.Minus) i (suc (suc i)) ps (ends_named ps) 0 (number_at (suc i)) false in
    node_quiet c.listed i (suc (suc i)) [] (events here (number_at (suc i)) ++ []) tt (both (events here (number_at (suc i))) [] (number_quiet here (suc i)) tt)
argument_quiet c i (constant (const.Text bs)) r = node_quiet c.listed i (suc i) [] [] tt tt

further_quiet : (c : Context) (i j : ℕ) (all : Trees) (s : Option ℕ) (n x : ℕ) (gs : List Argument) → E (events_of (record c { source = s }) kind.Call i j all (suc n) (further_trees x gs))
further_quiet c i j all s n x [] = tt
further_quiet c i j all s n x (y ∷ gs) =
    let of : Tree = argument_tree (suc x) y in
    let rest : Trees = further_trees (last of) gs in
    let here : Context = enter (record c { source = s }) kind.Call i j all (ends_named all) (suc n) of (is_more rest) in
    both (events here of) (events_of (record c { source = source_at (record c { source = s }) of }) kind.Call i j all (suc (suc n)) rest) (argument_quiet here (suc x) y tt)
    (further_quiet c i j all (source_at (record c { source = s }) of) (suc n) (last of) gs)

arguments_quiet : (c : Context) (i j : ℕ) (all : Trees) (s : Option ℕ) (x : ℕ) (gs : List Argument) → E (events_of (record c { source = s }) kind.Call i j all 1 (arguments_trees x gs))
arguments_quiet c i j all s x [] = tt
arguments_quiet c i j all s x (y ∷ gs) =
    let of : Tree = argument_tree x y in
    let rest : Trees = further_trees (last of) gs in
    let here : Context = enter (record c { source = s }) kind.Call i j all (ends_named all) 1 of (is_more rest) in
    both (events here of) (events_of (record c { source = source_at (record c { source = s }) of }) kind.Call i j all 2 rest) (argument_quiet here x y tt)
    (further_quiet c i j all (source_at (record c { source = s }) of) 1 (last of) gs)

call_quiet : (c : Context) (i : ℕ) (gs : List Argument) → E (events c (call_tree i gs))
call_quiet c i gs =
    let rest : Trees = arguments_trees (suc (suc i)) gs in
    let j : ℕ = suc (arguments_end (suc (suc i)) gs) in
    let ps : Trees = more (name_at i) rest in
    let here : Context = enter (begin c kind.Call) kind.Call i j ps (ends_named ps) 0 (name_at i) (is_more rest) in
    let others : List Event = events_of (record c { source = source_at (begin c kind.Call) (name_at i) }) kind.Call i j ps 1 rest in
    node_quiet c.listed i j [] (events here (name_at i) ++ others) tt (both (events here (name_at i)) others (leaf_quiet here i tt) (arguments_quiet c i j ps (source_at (begin c kind.Call) (name_at i)) (suc (suc i)) gs))

targets_quiet : (c : Context) (i j : ℕ) (all : Trees) (s : Option ℕ) (n x : ℕ) (xs : List (List ℕ)) → c.role ≡ role.Assigned → E (events_of (record c { source = s }) kind.ExpressionList i j all n (names_behind x xs))
targets_quiet c i j all s n x [] r = tt
targets_quiet c i j all s n x (y ∷ xs) r =
    let rest : Trees = names_behind (suc (suc x)) xs in
    let here : Context = enter (record c { source = s }) kind.ExpressionList i j all (ends_named all) n (name_at (suc x)) (is_more rest) in
    both (events here (name_at (suc x))) (events_of (record c { source = source_at (record c { source = s }) (name_at (suc x)) }) kind.ExpressionList i j all (suc n) rest) (leaf_quiet here (suc x) (subst IsLookedUp (sym r) tt))
    (targets_quiet c i j all (source_at (record c { source = s }) (name_at (suc x))) (suc n) (suc (suc x)) xs r)

tree_quiet : (c : Context) (i : ℕ) (xs : List (List ℕ)) (gs : List Argument) → E (events c (statement_tree i xs gs))
tree_quiet c i [] gs =
    let call : Tree = call_tree i gs in
    let ps : Trees = more call none in
    let here : Context = enter (begin c kind.ExpressionStatement) kind.ExpressionStatement i (last call) ps (ends_named ps) 0 call false in
    node_quiet c.listed i (last call) [] (events here call ++ []) tt (both (events here call) [] (call_quiet here i gs) tt)
tree_quiet c i (x ∷ xs) gs =
    let k : ℕ = names_end (suc i) xs in
    let call : Tree = call_tree (suc k) gs in
    let names : Trees = more (name_at i) (names_behind (suc i) xs) in
    let left : Tree = node kind.ExpressionList i k names in
    let targets : Tree = node kind.Targets i (suc k) (more left none) in
    let right : Tree = node kind.ExpressionList (suc k) (last call) (more call none) in
    let ps : Trees = more targets (more right none) in
    let c1 : Context = enter (begin c kind.Assignment) kind.Assignment i (last call) ps (ends_named ps) 0 targets true in
    let c2 : Context = enter (begin c1 kind.Targets) kind.Targets i (suc k) (more left none) (ends_named (more left none)) 0 left false in
    let c3 : Context = enter (begin c2 kind.ExpressionList) kind.ExpressionList i k names (ends_named names) 0 (name_at i) (is_more (names_behind (suc i) xs)) in
    let d1 : Context = enter (record c { source = source_at (begin c kind.Assignment) targets }) kind.Assignment i (last call) ps (ends_named ps) 1 right false in
    let d2 : Context = enter (begin d1 kind.ExpressionList) kind.ExpressionList (suc k) (last call) (more call none) (ends_named (more call none)) 0 call false in
    let others : List Event = events_of (record c2 { source = source_at (begin c2 kind.ExpressionList) (name_at i) }) kind.ExpressionList i k names 1 (names_behind (suc i) xs) in
    node_quiet c.listed i (last call) [] (events c1 targets ++ (events d1 right ++ [])) tt
    (both (events c1 targets) (events d1 right ++ [])
    (both (events c2 left) [] (both (events c3 (name_at i)) others (leaf_quiet c3 i tt) (targets_quiet c2 i k names (source_at (begin c2 kind.ExpressionList) (name_at i)) 1 (suc i) xs refl)) tt)
    (both (events d1 right) [] (both (events d2 call) [] (call_quiet d2 (suc k) gs) tt) tt))

module _ (w : ℕ → List ℕ) where
  quiet_once : (lo hi : ℕ) (es before : List Event) → E es → Once w lo hi before es
  quiet_once lo hi [] before h = once_none w lo hi before
  quiet_once lo hi (event.Member m g x ∷ es) before h = absurd h.0
  quiet_once lo hi (event.Declaration d ∷ es) before h = let o = quiet_once lo hi es (before ++ event.Declaration d ∷ []) h.1 in record { free = o.free; between = (tt, o.between) }
  quiet_once lo hi (event.Use u ∷ es) before h = let o = quiet_once lo hi es (before ++ event.Use u ∷ []) h.1 in record { free = o.free; between = (tt, o.between) }
  quiet_once lo hi (event.Import i ∷ es) before h = let o = quiet_once lo hi es (before ++ event.Import i ∷ []) h.1 in record { free = o.free; between = (tt, o.between) }
  quiet_once lo hi (event.Bodiless i j ∷ es) before h = let o = quiet_once lo hi es (before ++ event.Bodiless i j ∷ []) h.1 in record { free = o.free; between = (tt, o.between) }
  quiet_once lo hi (event.Statement i j ∷ es) before h = let o = quiet_once lo hi es (before ++ event.Statement i j ∷ []) h.1 in record { free = o.free; between = (tt, o.between) }
  quiet_once lo hi (event.Misplaced i j ∷ es) before h = let o = quiet_once lo hi es (before ++ event.Misplaced i j ∷ []) h.1 in record { free = o.free; between = (tt, o.between) }
  quiet_once lo hi (event.SecondDefault i ∷ es) before h = let o = quiet_once lo hi es (before ++ event.SecondDefault i ∷ []) h.1 in record { free = o.free; between = (tt, o.between) }

  abbrev Below : ℕ → List Event → Type 0
  Below i es = EachEvent (Between w 0 i) es

  declaration_once : (c : Context) (i : ℕ) (t : TypeTree) (before : List Event) → FieldsOnce w (suc (suc i)) t → Below i before → Once w i (last (type_tree (suc (suc i)) t)) before (events c (declaration_at i (type_tree (suc (suc i)) t)))
  declaration_once c i t before h b =
      let of : Tree = type_tree (suc (suc i)) t in
      let j : ℕ = last of in
      let qs : Trees = more (names_at (suc i)) (more of none) in
      let specification : Tree = node (kind.Specification sort.Variable) (suc i) j qs in
      let ps : Trees = more specification none in
      let c1 : Context = enter (begin c (kind.Declaration sort.Variable)) (kind.Declaration sort.Variable) i j ps (ends_named ps) 0 specification false in
      let c2 : Context = enter (record c1 { source = source_at (begin c1 (kind.Specification sort.Variable)) (names_at (suc i)) }) (kind.Specification sort.Variable) (suc i) j qs (ends_named qs) 1 of false in
      let d : List Event = event.Declaration (record { name = suc i; entity = entity.Variable; manner = manner.Declared; block = c.block; scope = record { from = j; to = c.end }; statement = suc i; source = Some (suc i); column = 0 }) ∷ [] in
      node_once w i j before c.listed i j (events c1 specification ++ [])
      (λ after f.
      once_append w i j after (events c1 specification) []
      (once_append w i j after d (events c2 of ++ []) (quiet_once i j d after (tt, tt))
      (once_append w i j (after ++ d) (events c2 of) []
      (once_wide w (suc (suc i)) j i j (after ++ d) (events c2 of) (omega arith) (omega arith)
      (type_once w c2 (suc (suc i)) t (after ++ d) refl h (below_append w i (suc (suc i)) i after d (f b) (tt, tt) (omega arith)))) (once_none w i j ((after ++ d) ++ events c2 of))))
      (once_none w i j (after ++ events c1 specification)))

  each_free : (c : Context) (f : Bool) (i : ℕ) (ys : List (List ℕ)) (ts : TypeRow) (xs : List (List ℕ)) (gs : List Argument) (before : List Event) → DeclaredOnce w i ys ts → Below i before → second_members_by w before (told_list c f (statement_trees i ys ts xs gs)) ≡ []
  each_free c f i [] ts xs gs before h b = (quiet_once 0 0 (told_list c f (more (statement_tree i xs gs) none)) before (both (events (record c { falls = f && not false }) (statement_tree i xs gs)) [] (tree_quiet (record c { falls = f && not false }) i xs gs) tt)).free
  each_free c f i (y ∷ ys) types.none xs gs before h b = (quiet_once 0 0 (told_list c f (more (statement_tree i xs gs) none)) before (both (events (record c { falls = f && not false }) (statement_tree i xs gs)) [] (tree_quiet (record c { falls = f && not false }) i xs gs) tt)).free
  each_free c f i (y ∷ ys) (types.more t ts) xs gs before h b =
      let of : Tree = type_tree (suc (suc i)) t in
      let rest : Trees = statement_trees (suc (last of)) ys ts xs gs in
      let here : Context = record c { falls = f && not (is_more rest) } in
      let es : List Event = events here (declaration_at i of) in
      let grows = type_ends (suc (suc i)) t in
      let one : Once w i (last of) before es = declaration_once here i t before h.0 b in
      free_append w before es (told_list c f rest) one.free
      (each_free c f (suc (last of)) ys ts xs gs (before ++ es) h.1 (below_append w i (suc (last of)) i before es b (once_wide w i (last of) i (suc (last of)) before es (omega arith) (omega arith) one).between (omega (arith, grows))))

pub call_free : (w : ℕ → List ℕ) (c : Context) (f : Bool) (i : ℕ) (call : Call) → CallFieldsOnce w i call → second_members_by w [] (told_list c f (call_trees i call)) ≡ []
call_free w c f i call h = each_free w c f i call.declared call.types call.results call.arguments [] h tt
