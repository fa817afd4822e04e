-- What the statements of a call tell, with the variables that are declared in front of it.
use Rattle.std.proofs.Common.{◌≡◌, ◌∙◌, ℕ, suc, ◌+◌, ◌<◌, ◌≤◌, ◌⊎◌, inl, inr, Bool, true, false, List, [], ◌∷◌, ◌++◌, length, Option, Some, None, refl, sym, ap, subst, arith}
use Rattle.std.specs.Prelude.{◌&&◌, not}
use Rattle.go_tokens.specs.declared.token.TokenKind.{TokenKind}
use Rattle.go_constants.specs.declared.values.Const.TheVariants as const
use Rattle.std.specs.Prelude.{pos, negsuc}
use Rattle.go_grammar.specs.declared.kind.Kind.TheVariants as kind
use Rattle.go_grammar.specs.declared.kind.Sign.TheVariants as sign
use Rattle.go_grammar.specs.declared.kind.Sort.TheVariants as sort
use Rattle.go_grammar.specs.Trees.{Tree, node, Trees, none, more, last}
use Rattle.go_grammar.specs.Grammar.{ends_named}
use Rattle.go_tree.specs.declared.context.Context.{Context}
use Rattle.go_tree.specs.declared.context.Entity.TheVariants as entity
use Rattle.go_tree.specs.declared.context.Manner.TheVariants as manner
use Rattle.go_tree.specs.declared.context.Role.TheVariants as role
use Rattle.go_tree.specs.declared.context.Site.{Site}
use Rattle.go_tree.specs.declared.context.Site.TheVariants as site
use Rattle.go_tree.specs.declared.event.Declaration.{Declaration}
use Rattle.go_tree.specs.declared.event.Event.{Event}
use Rattle.go_tree.specs.declared.event.Event.TheVariants as event
use Rattle.go_tree.specs.declared.event.Member.TheVariants as member
use Rattle.go_tree.specs.Contexts.{column_site, source_at, enter}
use Rattle.go_tree.specs.Events.{statement_events, is_more, begin, events, events_of}
use Rattle.go_heads.specs.Functions.{Alone}
use Rattle.go_heads.specs.Names.{own_text}
use Rattle.go_print_laws.specs.Calls.{Call, Argument, variable, constant, argument_tree, further_trees, arguments_trees, arguments_end, call_tree, names_behind, names_end, statement_tree, declaration_at, statement_trees, call_trees}
use Rattle.go_print_laws.specs.Trees.{name_at, number_at, names_at, type_tree}
use Rattle.go_scopes_bodies.specs.Carried.{carried_block, carried_context, carried_site}
use Rattle.go_scopes_bodies.specs.Faults.{second_members_by}
use Rattle.go_scopes_bodies.specs.Listed.{told_list}
use Rattle.go_scopes_bodies.specs.Meant.{Meant, outside}
use Rattle.go_types.specs.Trees.{TypeTree, TypeRow}
use Rattle.go_types.specs.Trees as types
use Rattle.extract_names.specs.Gaps.{Redeclared, Gap, Among}
use Rattle.extract_names.specs.Sites.{EachEvent, specification_at, EventGoes, DeclaresAgain, IsDeclared}
use Rattle.extract_names_derived.specs.Calls.{MeansOuter, MeansPlain, TypeMeans, ArgumentMeans, FurtherMean, ArgumentsMean, CallMeans, TargetMeans, TargetsMean, StatementMeans, DeclaresOne, DeclaresEach, gap_means, gap_text, CallStands}
use Rattle.extract_names_derived.specs.News.{EventAsked, StatementsAsked}
use Rattle.extract_names_derived.specs.Sites.{RunStands}
use Rattle.extract_names_derived.proofs.CallFields.{call_free}
use Rattle.extract_names_derived.proofs.Lying.{each_event_append}
use Rattle.extract_names_derived.proofs.TypeEvents.{node_asked, use_in, leaf_asked, number_asked, IsLookedUp, type_asked}

-- where a value stands
record ValueStands (c : Context) : Type 0 where
  site : c.site ≡ site.Elsewhere
  constant : c.constant ≡ false

module _ (a : Alone) (v : ℕ → ℕ) (g : Gap) (old : List Event) where
  abbrev Q : Event → Type 0
  Q = EventAsked a v g old

  abbrev Each : List Event → Type 0
  Each = EachEvent Q

  abbrev means : ℕ → Option Meant
  means = gap_means g (v g.from)

  abbrev text : ℕ → List ℕ
  text = gap_text g (v g.from)

  abbrev join : (es fs : List Event) → Each es → Each fs → Each (es ++ fs)
  join = each_event_append Q

  abbrev stated : (i j : ℕ) → Q (event.Statement i j)
  stated i j = tt

  abbrev membered : (k x : ℕ) → Q (event.Member member.Field k x)
  membered k x = tt

  abbrev outer_used : (c : Context) (i : ℕ) → c.role ≡ role.Operand → c.constant ≡ false → MeansOuter means i → Q (event.Use (use_in c i))
  outer_used c i r e o = record { calm = inr (outside o.object, o.means, o.plain); constant = e; declaring = inr (o.object, o.means) }

  -- a node that tells nothing by itself
  told_node : (x : Bool) (i j : ℕ) (rest : List Event) → Each rest → Each ((statement_events x i j ++ []) ++ rest)
  told_node x i j rest h = node_asked (MeansOuter means) Q stated membered outer_used x i j [] rest tt h

  plain_asked : (c : Context) (i : ℕ) → ValueStands c → IsLookedUp c.role → MeansPlain means i → Each (events c (name_at i))
  plain_asked c i s r h = leaf_asked (MeansOuter means) Q stated membered outer_used c i r (record { calm = inr (h.object, h.means, h.plain); constant = s.constant; declaring = inl s.site })

  target_asked : (c : Context) (i : ℕ) → ValueStands c → IsLookedUp c.role → TargetMeans text means i → Each (events c (name_at i))
  target_asked c i s r (inl b) = leaf_asked (MeansOuter means) Q stated membered outer_used c i r (record { calm = inl b; constant = s.constant; declaring = inl s.site })
  target_asked c i s r (inr h) = plain_asked c i s r h

  argument_asked : (c : Context) (i : ℕ) (x : Argument) → ValueStands c → IsLookedUp c.role → ArgumentMeans means i x → Each (events c (argument_tree i x))
  argument_asked c i (variable n) s r h = plain_asked c i s r h
  argument_asked c i (constant (const.Bool b)) s r h = plain_asked c i s r h
  argument_asked c i (constant (const.Int (pos n) rune)) s r h = number_asked (MeansOuter means) Q stated membered outer_used c i
  argument_asked c i (constant (const.Int (negsuc n) rune)) s r h =
      let ps : Trees = more (number_at (suc i)) none in
      let here : Context = enter (begin c (kind.Unary sign.Minus)) (kind.Unary sign.Minus) i (suc (suc i)) ps (ends_named ps) 0 (number_at (suc i)) false in
      told_node c.listed i (suc (suc i)) (events here (number_at (suc i)) ++ [])
      (join (events here (number_at (suc i))) [] (number_asked (MeansOuter means) Q stated membered outer_used here (suc i)) tt)
  argument_asked c i (constant (const.Text bs)) s r h = told_node c.listed i (suc i) [] tt

  -- the parts of a call behind the callee
  further_asked : (c : Context) (i j : ℕ) (all : Trees) (s : Option ℕ) (n x : ℕ) (gs : List Argument) → ValueStands c → FurtherMean means x gs → Each (events_of (record c { source = s }) kind.Call i j all (suc n) (further_trees x gs))
  further_asked c i j all s n x [] e h = tt
  further_asked c i j all s n x (y ∷ gs) e h =
      let of : Tree = argument_tree (suc x) y in
      let rest : Trees = further_trees (last of) gs in
      let here : Context = enter (record c { source = s }) kind.Call i j all (ends_named all) (suc n) of (is_more rest) in
      join (events here of) (events_of (record c { source = source_at (record c { source = s }) of }) kind.Call i j all (suc (suc n)) rest)
      (argument_asked here (suc x) y (record { site = e.site; constant = e.constant }) tt h.0)
      (further_asked c i j all (source_at (record c { source = s }) of) (suc n) (last of) gs e h.1)

  arguments_asked : (c : Context) (i j : ℕ) (all : Trees) (s : Option ℕ) (x : ℕ) (gs : List Argument) → ValueStands c → ArgumentsMean means x gs → Each (events_of (record c { source = s }) kind.Call i j all 1 (arguments_trees x gs))
  arguments_asked c i j all s x [] e h = tt
  arguments_asked c i j all s x (y ∷ gs) e h =
      let of : Tree = argument_tree x y in
      let rest : Trees = further_trees (last of) gs in
      let here : Context = enter (record c { source = s }) kind.Call i j all (ends_named all) 1 of (is_more rest) in
      join (events here of) (events_of (record c { source = source_at (record c { source = s }) of }) kind.Call i j all 2 rest)
      (argument_asked here x y (record { site = e.site; constant = e.constant }) tt h.0)
      (further_asked c i j all (source_at (record c { source = s }) of) 1 (last of) gs e h.1)

  call_asked : (c : Context) (i : ℕ) (gs : List Argument) → ValueStands c → CallMeans means i gs → Each (events c (call_tree i gs))
  call_asked c i gs e h =
      let rest : Trees = arguments_trees (suc (suc i)) gs in
      let j : ℕ = suc (arguments_end (suc (suc i)) gs) in
      let ps : Trees = more (name_at i) rest in
      let here : Context = enter (begin c kind.Call) kind.Call i j ps (ends_named ps) 0 (name_at i) (is_more rest) in
      told_node c.listed i j (events here (name_at i) ++ events_of (record c { source = source_at (begin c kind.Call) (name_at i) }) kind.Call i j ps 1 rest)
      (join (events here (name_at i)) (events_of (record c { source = source_at (begin c kind.Call) (name_at i) }) kind.Call i j ps 1 rest)
      (plain_asked here i (record { site = e.site; constant = e.constant }) tt h.0)
      (arguments_asked c i j ps (source_at (begin c kind.Call) (name_at i)) (suc (suc i)) gs e h.1))

  -- the targets of an assignment, in a list of expressions
  targets_asked : (c : Context) (i j : ℕ) (all : Trees) (s : Option ℕ) (n x : ℕ) (xs : List (List ℕ)) → c.role ≡ role.Assigned → ValueStands c → TargetsMean text means x xs
      → Each (events_of (record c { source = s }) kind.ExpressionList i j all n (names_behind x xs))
  targets_asked c i j all s n x [] r e h = tt
  targets_asked c i j all s n x (y ∷ xs) r e h =
      let rest : Trees = names_behind (suc (suc x)) xs in
      let here : Context = enter (record c { source = s }) kind.ExpressionList i j all (ends_named all) n (name_at (suc x)) (is_more rest) in
      join (events here (name_at (suc x))) (events_of (record c { source = source_at (record c { source = s }) (name_at (suc x)) }) kind.ExpressionList i j all (suc n) rest)
      (target_asked here (suc x) (record { site = ap (column_site n) e.site; constant = e.constant }) (subst IsLookedUp (sym r) tt) h.0)
      (targets_asked c i j all (source_at (record c { source = s }) (name_at (suc x))) (suc n) (suc (suc x)) xs r e h.1)

  statement_tree_asked : (c : Context) (i : ℕ) (xs : List (List ℕ)) (gs : List Argument) → ValueStands c → StatementMeans text means i xs gs → Each (events c (statement_tree i xs gs))
  statement_tree_asked c i [] gs e h =
      let call : Tree = call_tree i gs in
      let ps : Trees = more call none in
      let here : Context = enter (begin c kind.ExpressionStatement) kind.ExpressionStatement i (last call) ps (ends_named ps) 0 call false in
      told_node c.listed i (last call) (events here call ++ [])
      (join (events here call) [] (call_asked here i gs (record { site = e.site; constant = e.constant }) h) tt)
  statement_tree_asked c i (x ∷ xs) gs e h =
      let k : ℕ = names_end (suc i) xs in
      let call : Tree = call_tree (suc k) gs in
      let names : Trees = more (name_at i) (names_behind (suc i) xs) in
      let left : Tree = node kind.ExpressionList i k names in
      let targets : Tree = node kind.Targets i (suc k) (more left none) in
      let right : Tree = node kind.ExpressionList (suc k) (last call) (more call none) in
      let ps : Trees = more targets (more right none) in
      let c1 : Context = enter (begin c kind.Assignment) kind.Assignment i (last call) ps (ends_named ps) 0 targets true in
      let c2 : Context = enter (begin c1 kind.Targets) kind.Targets i (suc k) (more left none) (ends_named (more left none)) 0 left false in
      let c3 : Context = enter (begin c2 kind.ExpressionList) kind.ExpressionList i k names (ends_named names) 0 (name_at i) (is_more (names_behind (suc i) xs)) in
      let d1 : Context = enter (record c { source = source_at (begin c kind.Assignment) targets }) kind.Assignment i (last call) ps (ends_named ps) 1 right false in
      let d2 : Context = enter (begin d1 kind.ExpressionList) kind.ExpressionList (suc k) (last call) (more call none) (ends_named (more call none)) 0 call false in
      told_node c.listed i (last call) (events c1 targets ++ (events d1 right ++ []))
      (join (events c1 targets) (events d1 right ++ [])
      (join (events c2 left) []
      (join (events c3 (name_at i)) (events_of (record c2 { source = source_at (begin c2 kind.ExpressionList) (name_at i) }) kind.ExpressionList i k names 1 (names_behind (suc i) xs))
      (target_asked c3 i (record { site = ap (column_site 0) e.site; constant = e.constant }) tt h.0)
      (targets_asked c2 i k names (source_at (begin c2 kind.ExpressionList) (name_at i)) 1 (suc i) xs refl (record { site = e.site; constant = e.constant }) h.1)) tt)
      (join (events d1 right) []
      (join (events d2 call) [] (call_asked d2 (suc k) gs (record { site = ap (column_site 0) e.site; constant = e.constant }) h.2) tt) tt))

  -- ---- declared variables

  -- what `var y T` declares at the token i, where T ends in front of the token j
  abbrev declared_at : Context → ℕ → ℕ → Declaration
  declared_at c i j = record { name = suc i; entity = entity.Variable; manner = manner.Declared; block = c.block; scope = record { from = j; to = c.end }; statement = suc i; source = Some (suc i); column = 0 }

  declaration_asked : (c : Context) (i : ℕ) (t : TypeTree) → DeclaresAgain a v g old (declared_at c i (last (type_tree (suc (suc i)) t))) → TypeMeans means (suc (suc i)) t → Each (events c (declaration_at i (type_tree (suc (suc i)) t)))
  declaration_asked c i t d h =
      let of : Tree = type_tree (suc (suc i)) t in
      let j : ℕ = last of in
      let qs : Trees = more (names_at (suc i)) (more of none) in
      let specification : Tree = node (kind.Specification sort.Variable) (suc i) j qs in
      let ps : Trees = more specification none in
      let c1 : Context = enter (begin c (kind.Declaration sort.Variable)) (kind.Declaration sort.Variable) i j ps (ends_named ps) 0 specification false in
      let c2 : Context = enter (record c1 { source = source_at (begin c1 (kind.Specification sort.Variable)) (names_at (suc i)) }) (kind.Specification sort.Variable) (suc i) j qs (ends_named qs) 1 of false in
      told_node c.listed i j (events c1 specification ++ [])
      (join (events c1 specification) [] (d, join (events c2 of) [] (type_asked (MeansOuter means) Q stated membered outer_used c2 (suc (suc i)) t (record { role = refl; constant = refl }) h) tt) tt)

  -- ---- the statements

  each_asked : (c : Context) (f : Bool) (i : ℕ) (ys : List (List ℕ)) (ts : TypeRow) (zs : List Redeclared) (xs : List (List ℕ)) (gs : List Argument) → ValueStands c
      → ((k j : ℕ) (z : Redeclared) → Among z g.declared → DeclaresOne a g old (v g.from) (suc k) j z → DeclaresAgain a v g old (declared_at c k j)) → ((z : Redeclared) → Among z zs → Among z g.declared)
      → DeclaresEach a g old text means (v g.from) i ys ts zs xs gs → Each (told_list c f (statement_trees i ys ts xs gs))
  each_asked c f i (y ∷ ys) (types.more t ts) (z ∷ zs) xs gs e d l h =
      let of : Tree = type_tree (suc (suc i)) t in
      let rest : Trees = statement_trees (suc (last of)) ys ts xs gs in
      join (events (record c { falls = f && not (is_more rest) }) (declaration_at i of)) (told_list c f rest)
      (declaration_asked (record c { falls = f && not (is_more rest) }) i t (d i (last of) z (l z (inl refl)) h.0) h.1)
      (each_asked c f (suc (last of)) ys ts zs xs gs e d (λ x k. l x (inr k)) h.2)
  each_asked c f i [] ts [] xs gs e d l h =
      join (events (record c { falls = f && not false }) (statement_tree i xs gs)) [] (statement_tree_asked (record c { falls = f && not false }) i xs gs (record { site = e.site; constant = e.constant }) h) tt
  each_asked c f i [] ts (z ∷ zs) xs gs e d l h = absurd h
  each_asked c f i (y ∷ ys) types.none zs xs gs e d l h = absurd h
  each_asked c f i (y ∷ ys) (types.more t ts) [] xs gs e d l h = absurd h

  -- ---- what is declared there

  declared_left : (t : ℕ) (es fs : List Event) → IsDeclared t es → IsDeclared t (es ++ fs)
  declared_left t [] fs h = absurd h
  declared_left t (event.Declaration d ∷ es) fs (inl e) = inl e
  declared_left t (event.Declaration d ∷ es) fs (inr h) = inr (declared_left t es fs h)
  declared_left t (event.Use u ∷ es) fs h = declared_left t es fs h
  declared_left t (event.Import i ∷ es) fs h = declared_left t es fs h
  declared_left t (event.Member x y z ∷ es) fs h = declared_left t es fs h
  declared_left t (event.Bodiless i j ∷ es) fs h = declared_left t es fs h
  declared_left t (event.Statement i j ∷ es) fs h = declared_left t es fs h
  declared_left t (event.Misplaced i j ∷ es) fs h = declared_left t es fs h
  declared_left t (event.SecondDefault i ∷ es) fs h = declared_left t es fs h

  declared_right : (t : ℕ) (es fs : List Event) → IsDeclared t fs → IsDeclared t (es ++ fs)
  declared_right t [] fs h = h
  declared_right t (event.Declaration d ∷ es) fs h = inr (declared_right t es fs h)
  declared_right t (event.Use u ∷ es) fs h = declared_right t es fs h
  declared_right t (event.Import i ∷ es) fs h = declared_right t es fs h
  declared_right t (event.Member x y z ∷ es) fs h = declared_right t es fs h
  declared_right t (event.Bodiless i j ∷ es) fs h = declared_right t es fs h
  declared_right t (event.Statement i j ∷ es) fs h = declared_right t es fs h
  declared_right t (event.Misplaced i j ∷ es) fs h = declared_right t es fs h
  declared_right t (event.SecondDefault i ∷ es) fs h = declared_right t es fs h

  each_declared : (c : Context) (f : Bool) (i : ℕ) (ys : List (List ℕ)) (ts : TypeRow) (zs : List Redeclared) (xs : List (List ℕ)) (gs : List Argument) → DeclaresEach a g old text means (v g.from) i ys ts zs xs gs
      → (z : Redeclared) → Among z zs → IsDeclared (v g.from + z.token) (told_list c f (statement_trees i ys ts xs gs))
  each_declared c f i (y ∷ ys) (types.more t ts) (z ∷ zs) xs gs h w k =
      let of : Tree = type_tree (suc (suc i)) t in
      let rest : Trees = statement_trees (suc (last of)) ys ts xs gs in
      let c0 : Context = record c { falls = f && not (is_more rest) } in
      let qs : Trees = more (names_at (suc i)) (more of none) in
      let specification : Tree = node (kind.Specification sort.Variable) (suc i) (last of) qs in
      let ps : Trees = more specification none in
      let c1 : Context = enter (begin c0 (kind.Declaration sort.Variable)) (kind.Declaration sort.Variable) i (last of) ps (ends_named ps) 0 specification false in
      by (events c0 (declaration_at i of)) (told_list c f rest) k
      (λ e. declared_right (v g.from + w.token) (statement_events c.listed i (last of) ++ []) (events c1 specification ++ []) (inl (h.0.at ∙ ap (λ (x : Redeclared). v g.from + x.token) (sym e))))
      (λ l. each_declared c f (suc (last of)) ys ts zs xs gs h.2 w l)
    where
      by : (es fs : List Event) → (w ≡ z) ⊎ Among w zs → (w ≡ z → IsDeclared (v g.from + w.token) es) → (Among w zs → IsDeclared (v g.from + w.token) fs) → IsDeclared (v g.from + w.token) (es ++ fs)
      by es fs (inl e) x y = declared_left (v g.from + w.token) es fs (x e)
      by es fs (inr l) x y = declared_right (v g.from + w.token) es fs (y l)
  each_declared c f i [] ts [] xs gs h w k = absurd k
  each_declared c f i [] ts (z ∷ zs) xs gs h w k = absurd h
  each_declared c f i (y ∷ ys) types.none zs xs gs h w k = absurd h
  each_declared c f i (y ∷ ys) (types.more t ts) [] xs gs h w k = absurd h

  -- ---- in the place of a run

  among_each : (P : Event → Type 0) (e : Event) (es : List Event) → EachEvent P es → Among e es → P e
  among_each P e [] h k = absurd k
  among_each P e (x ∷ es) h (inl q) = subst P (sym q) h.0
  among_each P e (x ∷ es) h (inr k) = among_each P e es h.1 k

  module _ (new : Alone) (news : List Event) (x : RunStands v g old news) where
    abbrev here : Context
    here = carried_context v x.context

    again : (k j : ℕ) (z : Redeclared) → Among z g.declared → DeclaresOne a g old (v g.from) (suc k) j z → DeclaresAgain a v g old (declared_at here k j)
    again k j z l o = by (among_each (EventGoes g x.context.block x.context.end) (event.Declaration o.was) old x.each o.told).ends
      where
        by : (o.was.scope.to ≤ g.upto) ⊎ ((o.was.block ≡ x.context.block) × (o.was.scope.to ≡ x.context.end) × (o.was.scope.from ≤ g.upto)) → DeclaresAgain a v g old (declared_at here k j)
        by (inl le) = absurd (let lt : g.upto < o.was.scope.to = o.beyond in omega (arith, le, lt))
        by (inr e) =
            let at : suc k ≡ v g.from + z.token = o.at in
            let lt : z.token < z.begins = o.order in
            let le : z.begins ≤ length g.texts = o.before in
            record {
              again = z;
              listed = l;
              was = o.was;
              told = o.told;
              named = o.named;
              new = o.new;
              variable = o.variable;
              beyond = o.beyond;
              behind = lt;
              before = le;
              text = o.text;
              name = at;
              entity = refl;
              manner = refl;
              block = ap (carried_block v) (sym e.0);
              from = o.ends;
              to = ap v (sym e.1);
              source = (omega (arith, at), omega (arith, at, lt, le));
            }

    site_elsewhere : (s : Site) → specification_at s ≡ None → carried_site v s ≡ site.Elsewhere
    site_elsewhere site.Elsewhere e = refl
    site_elsewhere (site.Type s) e = absurd cc
    site_elsewhere (site.Value s column alone) e = absurd cc
    site_elsewhere (site.Right s reach) e = absurd cc

    pub asked : (us : List TokenKind) (call : Call) → CallStands us a new v g old news x call → StatementsAsked us a new v g old news x
    asked us call h =
        let told : news ≡ told_list here x.followed (call_trees (v g.from) call) = x.told ∙ ap (told_list here x.followed) h.trees in
        record {
          derive = h.derive;
          each =
              subst Each (sym told)
              (each_asked here x.followed (v g.from) call.declared call.types g.declared call.results call.arguments (record { site = site_elsewhere x.context.site x.site; constant = x.constant }) again (λ z k. k) h.each);
          all = λ z k. subst (IsDeclared (v g.from + z.token)) (sym told) (each_declared here x.followed (v g.from) call.declared call.types g.declared call.results call.arguments h.each z k);
          members_once = ap (second_members_by (own_text new) []) told ∙ call_free (own_text new) here x.followed (v g.from) call h.fields;
        }
