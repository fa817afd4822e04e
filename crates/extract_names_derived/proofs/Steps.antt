-- The order in which names are in scope that statements of one list declare, in the list's block and in inner ones.
use Rattle.std.proofs.Common.{◌≡◌, ◌∙◌, ℕ, zero, suc, ◌<◌, ◌≤◌, ◌⊎◌, inl, inr, Bool, true, false, List, [], ◌∷◌, ◌++◌, Some, None, refl, sym, subst, arith}
use Rattle.std.specs.Prelude.{◌&&◌, ◌||◌, not, if◌then◌else◌}
use Rattle.go_grammar.specs.declared.kind.Kind.{Kind}
use Rattle.go_grammar.specs.declared.kind.Kind.TheVariants as kind
use Rattle.go_grammar.specs.declared.kind.Sort.TheVariants as sort
use Rattle.go_grammar.specs.Grammar.{ends_named}
use Rattle.go_grammar.specs.Trees.{Tree, node, Trees, none, more, skip, kind_of, first, last}
use Rattle.go_rewriting.specs.Lists.{so_many}
use Rattle.go_rewriting.specs.Places.{has_items, items_end}
use Rattle.go_tree.specs.declared.context.Block.{Block}
use Rattle.go_tree.specs.declared.context.Block.TheVariants as block
use Rattle.go_tree.specs.declared.context.Context.{Context}
use Rattle.go_tree.specs.declared.context.Role.{Role}
use Rattle.go_tree.specs.declared.context.Role.TheVariants as role
use Rattle.go_tree.specs.declared.context.Entity.{Entity}
use Rattle.go_tree.specs.declared.context.Entity.TheVariants as entity
use Rattle.go_tree.specs.declared.event.Declaration.{Declaration}
use Rattle.go_tree.specs.declared.event.Event.{Event}
use Rattle.go_tree.specs.declared.event.Event.TheVariants as event
use Rattle.go_tree.specs.Contexts.{opens, block_in, enter, is_package}
use Rattle.go_tree.specs.Events.{statement_events, own_events, name_events, misplaced, is_default, default_events, second_defaults, is_more, pass, begin, events, events_of}
use Rattle.go_tree.specs.Redeclared.{are_parameters}
use Rattle.go_scopes_events.specs.Orders.{BeginsIn}
use Rattle.go_scopes_events.proofs.Public.{IsLaidOut, LieIn, behind_name, lie_order, laid_grows, is_top, true_false}
use Rattle.go_scopes_bodies.specs.Listed.{told_list, is_specification}
use Rattle.extract_names.specs.Gaps.{Among}
use Rattle.extract_names.specs.Pieces.{leads_to_lists}
use Rattle.extract_names.specs.Sites.{EachEvent}
use Rattle.extract_names_derived.proofs.Ascends.{run_lies}
use Rattle.extract_names_derived.proofs.Fit.{may_hold, is_if, IsFit, AreFit, Rises, part_inner}
use Rattle.extract_names_derived.proofs.Lying.{OwnLies, ParameterLies, EventLies, events_lie, each_event_append, each_event_map}
use Rattle.extract_names_derived.proofs.Walk.{Calm, calm_less, calm_falls, calm_lies, IsPart, is_part}

-- ---- blocks

-- A name that is no parameter is declared in the block b, or in one that begins at the token i or behind it.
abbrev Inner : Block → ℕ → Event → Type 0
Inner b i (event.Declaration d) = (d.entity ≡ entity.Parameter) ⊎ ((d.block ≡ b) ⊎ ((x : ℕ) × (d.block ≡ block.Local x) × (i ≤ x)))
Inner b i e = Unit {0}

-- It is declared in the block b.
abbrev Flat : Block → Event → Type 0
Flat b (event.Declaration d) = (d.entity ≡ entity.Parameter) ⊎ (d.block ≡ b)
Flat b e = Unit {0}

-- what holds of each declaration, and of all other events
module _ (P : Event → Type 0) (other : (i j : ℕ) → P (event.Statement i j)) (misplaces : (i j : ℕ) → P (event.Misplaced i j)) (second : (i : ℕ) → P (event.SecondDefault i)) (imports : (i : ℕ) → P (event.Import i)) where
  pub statement_holds : (x : Bool) (i j : ℕ) → EachEvent P (statement_events x i j)
  statement_holds true i j = (other i j, tt)
  statement_holds false i j = tt

  misplaced_holds : (x : Bool) (i j : ℕ) → EachEvent P (misplaced x i j)
  misplaced_holds true i j = tt
  misplaced_holds false i j = (misplaces i j, tt)

  default_holds : (d x : Bool) (w : ℕ) → EachEvent P (default_events d x w)
  default_holds true true w = (second w, tt)
  default_holds true false w = tt
  default_holds false x w = tt

  second_holds : (x : Bool) (ps : Trees) → EachEvent P (second_defaults x ps)
  second_holds x none = tt
  second_holds x (skip ps) = second_holds x ps
  second_holds x (more p ps) = each_event_append P (default_events (is_default (kind_of p)) x (first p)) (second_defaults (x || is_default (kind_of p)) ps) (default_holds (is_default (kind_of p)) x (first p)) (second_holds (x || is_default (kind_of p)) ps)

  -- what a node tells by itself, where that holds of names and of types
  pub own_holds : (c : Context) (k : Kind) (i j : ℕ) (ps : Trees) → is_top k ≡ false → ((r : Role) → EachEvent P (name_events c i r)) → EachEvent P (own_events c (kind.Specification sort.Type) i j none) → EachEvent P (own_events c k i j ps)
  own_holds c kind.ImportPath i j ps top f g = (imports i, tt)
  own_holds c kind.FunctionDeclaration i j ps top f g = absurd (true_false true refl top)
  own_holds c (kind.Specification sort.Type) i j ps top f g = g
  own_holds c kind.DeclaredName i j ps top f g = f c.role
  own_holds c kind.Name i j ps top f g = f c.role
  own_holds c kind.Switch i j ps top f g = second_holds false ps
  own_holds c kind.Break i j ps top f g = misplaced_holds c.breaks i j
  own_holds c kind.Continue i j ps top f g = misplaced_holds c.continues i j
  own_holds c kind.Fallthrough i j ps top f g = misplaced_holds c.falls i j
  own_holds c k i j ps top f g = tt

name_inner : (c : Context) (i x : ℕ) (r : Role) → EachEvent (Inner c.block x) (name_events c i r)
name_inner c i x (role.New d) = (inr (inl refl), tt)
name_inner c i x (role.Field g) = (tt, tt)
name_inner c i x (role.Key g) = (tt, tt)
name_inner c i x (role.Parameter g None) = (tt, tt)
name_inner c i x (role.Parameter g (Some s)) = (tt, (inl refl, tt))
name_inner c i x (role.Selected l y) = (tt, tt)
name_inner c i x role.Operand = (tt, tt)
name_inner c i x role.Assigned = (tt, tt)
name_inner c i x role.Called = (tt, tt)

name_flat : (c : Context) (i : ℕ) (r : Role) → EachEvent (Flat c.block) (name_events c i r)
name_flat c i (role.New d) = (inr refl, tt)
name_flat c i (role.Field g) = (tt, tt)
name_flat c i (role.Key g) = (tt, tt)
name_flat c i (role.Parameter g None) = (tt, tt)
name_flat c i (role.Parameter g (Some s)) = (tt, (inl refl, tt))
name_flat c i (role.Selected l y) = (tt, tt)
name_flat c i role.Operand = (tt, tt)
name_flat c i role.Assigned = (tt, tt)
name_flat c i role.Called = (tt, tt)

inner_less : (b : Block) (i x : ℕ) (e : Event) → i ≤ x → Inner b x e → Inner b i e
inner_less b i x (event.Declaration d) le (inl h) = inl h
inner_less b i x (event.Declaration d) le (inr (inl h)) = inr (inl h)
inner_less b i x (event.Declaration d) le (inr (inr h)) = inr (inr (h.0, h.1, (let at : x ≤ h.0 = h.2 in omega (arith, le, at))))
inner_less b i x (event.Use u) le h = tt
inner_less b i x (event.Import y) le h = tt
inner_less b i x (event.Member m g y) le h = tt
inner_less b i x (event.Bodiless y z) le h = tt
inner_less b i x (event.Statement y z) le h = tt
inner_less b i x (event.Misplaced y z) le h = tt
inner_less b i x (event.SecondDefault y) le h = tt

-- in a block that begins at the token i, or in the same one
inner_opened : (b : Block) (i : ℕ) (o : Bool) (e : Event) → Inner (if o then block.Local i else b) i e → Inner b i e
inner_opened b i false e h = h
inner_opened b i true (event.Declaration d) (inl h) = inl h
inner_opened b i true (event.Declaration d) (inr (inl h)) = inr (inr (i, h, omega arith))
inner_opened b i true (event.Declaration d) (inr (inr h)) = inr (inr h)
inner_opened b i true (event.Use u) h = tt
inner_opened b i true (event.Import y) h = tt
inner_opened b i true (event.Member m g y) h = tt
inner_opened b i true (event.Bodiless y z) h = tt
inner_opened b i true (event.Statement y z) h = tt
inner_opened b i true (event.Misplaced y z) h = tt
inner_opened b i true (event.SecondDefault y) h = tt

name_above : (k : Kind) (i : ℕ) → i ≤ behind_name k i
name_above kind.FunctionDeclaration i = omega arith
name_above (kind.Specification sort.Type) i = omega arith
name_above kind.DeclaredName i = omega arith
name_above kind.Name i = omega arith
name_above k i = omega arith

mutual
  events_inner : (c : Context) (t : Tree) → IsLaidOut t → IsFit t → is_top (kind_of t) ≡ false → EachEvent (Inner c.block (first t)) (events c t)
  events_inner c (node k i j ps) laid fit top =
      each_event_append (Inner c.block i) (statement_events c.listed i j ++ own_events c k i j ps) (events_of (begin c k) k i j ps 0 ps)
      (each_event_append (Inner c.block i) (statement_events c.listed i j) (own_events c k i j ps)
      (statement_holds (Inner c.block i) (λ x y. tt) (λ x y. tt) (λ x. tt) (λ x. tt) c.listed i j)
      (own_holds (Inner c.block i) (λ x y. tt) (λ x y. tt) (λ x. tt) (λ x. tt) c k i j ps top (name_inner c i i) (inr (inl refl), tt)))
      (each_event_map (Inner (block_in c k i) i) (Inner c.block i) (events_of (begin c k) k i j ps 0 ps) (inner_opened c.block i (opens k)) (parts_inner (begin c k) k i j ps 0 ps (behind_name k i) (name_above k i) laid.1 fit.1 top))

  parts_inner : (c : Context) (k : Kind) (i j : ℕ) (ps : Trees) (n : ℕ) (qs : Trees) (x : ℕ) → i ≤ x → LieIn x j qs → AreFit k i qs → is_top k ≡ false → EachEvent (Inner (block_in c k i) i) (events_of c k i j ps n qs)
  parts_inner c k i j ps n none x at laid fit top = tt
  parts_inner c k i j ps n (skip qs) x at laid fit top = parts_inner c k i j ps (suc n) qs x at laid fit top
  parts_inner c k i j ps n (more q qs) x at laid fit top =
      let grows : first q < last q = laid_grows q laid.1 in
      each_event_append (Inner (block_in c k i) i) (events (enter c k i j ps (ends_named ps) n q (is_more qs)) q) (events_of (pass c q) k i j ps (suc n) qs)
      (each_event_map (Inner (block_in c k i) (first q)) (Inner (block_in c k i) i) (events (enter c k i j ps (ends_named ps) n q (is_more qs)) q) (λ e. inner_less (block_in c k i) i (first q) e (omega (arith, at, laid.0)))
      (events_inner (enter c k i j ps (ends_named ps) n q (is_more qs)) q laid.1 fit.2 (part_inner k (kind_of q) top fit.0)))
      (parts_inner (pass c q) k i j ps (suc n) qs (last q) (omega (arith, at, laid.0, grows)) laid.2 fit.3 top)

-- ---- statements without blocks

-- what a node holds below which no lists stand has none below it either
flat_part : (k l : Kind) → leads_to_lists k ≡ false → is_top k ≡ false → may_hold k l ≡ true → leads_to_lists l ≡ false
flat_part k kind.FunctionDeclaration e top h = absurd (true_false true refl (part_inner k kind.FunctionDeclaration top h))
flat_part k kind.Block e top h = absurd (true_false (leads_to_lists k) h e)
flat_part k kind.If e top h = absurd (true_false (leads_to_lists k) h e)
flat_part k kind.Else e top h = absurd (if_leads k h e)
  where
    if_leads : (k : Kind) → is_if k ≡ true → leads_to_lists k ≡ false → ⊥
    if_leads kind.If h e = true_false true refl e
    if_leads k h e = true_false false h refl
flat_part k kind.Switch e top h = absurd (true_false (leads_to_lists k) h e)
flat_part k kind.Case e top h = absurd (true_false (leads_to_lists k) h e)
flat_part k kind.Default e top h = absurd (true_false (leads_to_lists k) h e)
flat_part k kind.For e top h = absurd (true_false (leads_to_lists k) h e)
flat_part k l e top h = refl

flat_block : (c : Context) (k : Kind) (i : ℕ) → leads_to_lists k ≡ false → block_in c k i ≡ c.block
flat_block c kind.Block i e = absurd (true_false true refl e)
flat_block c kind.Case i e = absurd (true_false true refl e)
flat_block c kind.Default i e = absurd (true_false true refl e)
flat_block c kind.If i e = absurd (true_false true refl e)
flat_block c kind.Switch i e = absurd (true_false true refl e)
flat_block c kind.For i e = absurd (true_false true refl e)
flat_block c k i e = refl

mutual
  events_flat : (c : Context) (t : Tree) → IsFit t → leads_to_lists (kind_of t) ≡ false → is_top (kind_of t) ≡ false → EachEvent (Flat c.block) (events c t)
  events_flat c (node k i j ps) fit e top =
      each_event_append (Flat c.block) (statement_events c.listed i j ++ own_events c k i j ps) (events_of (begin c k) k i j ps 0 ps)
      (each_event_append (Flat c.block) (statement_events c.listed i j) (own_events c k i j ps)
      (statement_holds (Flat c.block) (λ x y. tt) (λ x y. tt) (λ x. tt) (λ x. tt) c.listed i j)
      (own_holds (Flat c.block) (λ x y. tt) (λ x y. tt) (λ x. tt) (λ x. tt) c k i j ps top (name_flat c i) (inr refl, tt)))
      (parts_flat (begin c k) k i j ps 0 ps fit.1 e top)

  parts_flat : (c : Context) (k : Kind) (i j : ℕ) (ps : Trees) (n : ℕ) (qs : Trees) → AreFit k i qs → leads_to_lists k ≡ false → is_top k ≡ false → EachEvent (Flat c.block) (events_of c k i j ps n qs)
  parts_flat c k i j ps n none fit e top = tt
  parts_flat c k i j ps n (skip qs) fit e top = parts_flat c k i j ps (suc n) qs fit e top
  parts_flat c k i j ps n (more q qs) fit e top =
      let here : Context = enter c k i j ps (ends_named ps) n q (is_more qs) in
      each_event_append (Flat c.block) (events here q) (events_of (pass c q) k i j ps (suc n) qs)
      (subst (λ b. EachEvent (Flat b) (events here q)) (flat_block c k i e) (events_flat here q fit.2 (flat_part k (kind_of q) e top fit.0) (part_inner k (kind_of q) top fit.0)))
      (parts_flat (pass c q) k i j ps (suc n) qs fit.3 e top)

-- A statement opens a block for all that it declares, or it has no blocks.
opens_or_flat : (k l : Kind) → is_if k ≡ false → is_top k ≡ false → may_hold k l ≡ true → (opens l ≡ true) ⊎ (leads_to_lists l ≡ false)
opens_or_flat k kind.FunctionDeclaration o top h = absurd (true_false true refl (part_inner k kind.FunctionDeclaration top h))
opens_or_flat k kind.Block o top h = inl refl
opens_or_flat k kind.If o top h = inl refl
opens_or_flat k kind.Else o top h = absurd (true_false (is_if k) h o)
opens_or_flat k kind.Switch o top h = inl refl
opens_or_flat k kind.Case o top h = inl refl
opens_or_flat k kind.Default o top h = inl refl
opens_or_flat k kind.For o top h = inl refl
opens_or_flat k l o top h = inr refl

-- ---- pairs of names

-- Behind a name of the block b a name of another block is in scope later.
abbrev pub StepsOf : Block → List Event → Type 0
StepsOf b es = (d e : Declaration) → Among (event.Declaration d) es → Among (event.Declaration e) es → d.block ≡ b → (e.block ≡ b → ⊥) → d.name < e.name → d.scope.from < e.scope.from

-- names and where they begin to be in scope, between two tokens; and no parameters
record Bounds (lo hi : ℕ) (d : Declaration) : Type 0 where
  low : lo ≤ d.name
  high : d.name < hi
  begins : d.scope.from ≤ hi
  behind : d.name ≤ d.scope.from
  other : d.entity ≡ entity.Parameter → ⊥

abbrev Bound : ℕ → ℕ → Event → Type 0
Bound lo hi (event.Declaration d) = Bounds lo hi d
Bound lo hi e = Unit {0}

pub among_each : (P : Event → Type 0) (e : Event) (es : List Event) → EachEvent P es → Among e es → P e
among_each P e [] h k = absurd k
among_each P e (x ∷ es) h (inl q) = subst P (sym q) h.0
among_each P e (x ∷ es) h (inr k) = among_each P e es h.1 k

pub among_both : (e : Event) (es fs : List Event) → Among e (es ++ fs) → Among e es ⊎ Among e fs
among_both e [] fs k = inr k
among_both e (x ∷ es) fs (inl q) = inl (inl q)
among_both e (x ∷ es) fs (inr k) = by (among_both e es fs k)
  where
    by : Among e es ⊎ Among e fs → ((e ≡ x) ⊎ Among e es) ⊎ Among e fs
    by (inl m) = inl (inr m)
    by (inr m) = inr m

name_behind : (b : Block) (x : Entity) (i n : ℕ) → is_package b ≡ false → BeginsIn b x i n → i ≤ n
name_behind block.Package x i n l h = absurd cc
name_behind (block.Local k) entity.Type i n l h = omega (arith, h)
name_behind (block.Local k) entity.Function i n l h = absurd h
name_behind (block.Local k) entity.Constant i n l h = omega (arith, h)
name_behind (block.Local k) entity.Variable i n l h = omega (arith, h)
name_behind (block.Local k) entity.Parameter i n l h = omega (arith, h)

no_parameter : (x : Entity) → are_parameters x x ≡ false → x ≡ entity.Parameter → ⊥
no_parameter entity.Parameter h e = cc
no_parameter entity.Constant h e = cc
no_parameter entity.Variable h e = cc
no_parameter entity.Type h e = cc
no_parameter entity.Function h e = cc

module _ (blk : Block) (e : ℕ) (lo hi : ℕ) where
  bound_of : (x : Event) → EventLies 0 lo hi blk e None x → Bound lo hi x
  bound_of (event.Declaration d) l = by l.sort
    where
      by : OwnLies 0 lo hi blk e None d ⊎ ParameterLies 0 lo hi blk e None d → Bounds lo hi d
      by (inl o) = record { low = l.name.0; high = l.name.1; begins = o.upto; behind = name_behind d.block d.entity d.name d.scope.from o.local l.follows.0; other = no_parameter d.entity o.variety }
      by (inr p) = let no : Some d.scope ≡ None = p.given in absurd cc
  bound_of (event.Use u) l = tt
  bound_of (event.Member k g x) l = tt
  bound_of (event.Import i) l = tt
  bound_of (event.Bodiless i j) l = tt
  bound_of (event.Statement i j) l = tt
  bound_of (event.Misplaced i j) l = tt
  bound_of (event.SecondDefault w) l = tt

bound_wide : (lo hi low high : ℕ) (x : Event) → low ≤ lo → hi ≤ high → Bound lo hi x → Bound low high x
bound_wide lo hi low high (event.Declaration d) a b l = record { low = omega (arith, a, l.low); high = omega (arith, b, l.high); begins = omega (arith, b, l.begins); behind = l.behind; other = l.other }
bound_wide lo hi low high (event.Use u) a b l = tt
bound_wide lo hi low high (event.Member k g x) a b l = tt
bound_wide lo hi low high (event.Import i) a b l = tt
bound_wide lo hi low high (event.Bodiless i j) a b l = tt
bound_wide lo hi low high (event.Statement i j) a b l = tt
bound_wide lo hi low high (event.Misplaced i j) a b l = tt
bound_wide lo hi low high (event.SecondDefault w) a b l = tt

steps_append : (b : Block) (es fs : List Event) (x y z w : ℕ) → EachEvent (Bound x y) es → EachEvent (Bound z w) fs → y < z → StepsOf b es → StepsOf b fs → StepsOf b (es ++ fs)
steps_append b es fs x y z w h g lt f k d e m n = by (among_both (event.Declaration d) es fs m) (among_both (event.Declaration e) es fs n)
  where
    by : Among (event.Declaration d) es ⊎ Among (event.Declaration d) fs → Among (event.Declaration e) es ⊎ Among (event.Declaration e) fs → d.block ≡ b → (e.block ≡ b → ⊥) → d.name < e.name → d.scope.from < e.scope.from
    by (inl p) (inl q) = f d e p q
    by (inr p) (inr q) = k d e p q
    by (inl p) (inr q) =
        let s : Bounds x y d = among_each (Bound x y) (event.Declaration d) es h p in
        let r : Bounds z w e = among_each (Bound z w) (event.Declaration e) fs g q in
        λ u v o. omega (arith, s.begins, lt, r.low, r.behind)
    by (inr p) (inl q) =
        let s : Bounds z w d = among_each (Bound z w) (event.Declaration d) fs g p in
        let r : Bounds x y e = among_each (Bound x y) (event.Declaration e) es h q in
        λ u v o. absurd (omega (arith, s.low, lt, r.high, o))

-- ---- statements

statement_bounds : (cx : Context) (t : Tree) → Calm [] (last t) cx → IsPart t → EachEvent (Bound (first t) (last t)) (events cx t)
statement_bounds cx t h p =
    each_event_map (EventLies 0 (first t) (last t) cx.block cx.end None) (Bound (first t) (last t)) (events cx t) (bound_of cx.block cx.end (first t) (last t))
    (events_lie 0 (first t) (last t) cx.block cx.end None cx t tt p.laid p.fit (omega arith) (omega arith) (omega arith) p.inner (λ e. absurd (true_false (is_specification (kind_of t)) e p.other)) (inl h.local) (calm_lies 0 (first t) (last t) (last t) [] cx h))

statement_steps : (cx : Context) (o : ℕ) (t : Tree) → cx.block ≡ block.Local o → o < first t → Calm [] (last t) cx → IsPart t → (opens (kind_of t) ≡ true) ⊎ (leads_to_lists (kind_of t) ≡ false) → StepsOf cx.block (events cx t)
statement_steps cx o t at lt h p (inr flat) d e m n = by (among_each (Flat cx.block) (event.Declaration e) (events cx t) (events_flat cx t p.fit flat p.inner) n)
  where
    by : (e.entity ≡ entity.Parameter) ⊎ (e.block ≡ cx.block) → d.block ≡ cx.block → (e.block ≡ cx.block → ⊥) → d.name < e.name → d.scope.from < e.scope.from
    by (inl x) u v w = absurd ((among_each (Bound (first t) (last t)) (event.Declaration e) (events cx t) (statement_bounds cx t h p) n).other x)
    by (inr x) u v w = absurd (v x)
statement_steps cx o (node k i j ps) at lt h p (inl opening) d e m n = by (among_each (Inner (block.Local i) i) (event.Declaration d) (events cx (node k i j ps)) all m)
  where
    own : EachEvent (Inner (block.Local i) i) (own_events cx k i j ps)
    own = opened k opening
      where
        opened : (k : Kind) → opens k ≡ true → EachEvent (Inner (block.Local i) i) (own_events cx k i j ps)
        opened kind.Block e = tt
        opened kind.Case e = tt
        opened kind.Default e = tt
        opened kind.If e = tt
        opened kind.Switch e = second_holds (Inner (block.Local i) i) (λ x y. tt) (λ x y. tt) (λ x. tt) (λ x. tt) false ps
        opened kind.For e = tt
        opened k e = absurd (true_false false e refl)

    all : EachEvent (Inner (block.Local i) i) (events cx (node k i j ps))
    all =
        each_event_append (Inner (block.Local i) i) (statement_events cx.listed i j ++ own_events cx k i j ps) (events_of (begin cx k) k i j ps 0 ps)
        (each_event_append (Inner (block.Local i) i) (statement_events cx.listed i j) (own_events cx k i j ps)
        (statement_holds (Inner (block.Local i) i) (λ x y. tt) (λ x y. tt) (λ x. tt) (λ x. tt) cx.listed i j) own)
        (subst (λ b. EachEvent (Inner (if b then block.Local i else cx.block) i) (events_of (begin cx k) k i j ps 0 ps)) opening (parts_inner (begin cx k) k i j ps 0 ps (behind_name k i) (name_above k i) p.laid.1 p.fit.1 p.inner))

    late : (x : ℕ) → d.block ≡ block.Local x → i ≤ x → d.block ≡ cx.block → ⊥
    late x q le u = let same : block.Local x ≡ block.Local o = sym q ∙ u ∙ at in let n : x ≡ o = cc in omega (arith, n, le, lt)

    by : (d.entity ≡ entity.Parameter) ⊎ ((d.block ≡ block.Local i) ⊎ ((x : ℕ) × (d.block ≡ block.Local x) × (i ≤ x))) → d.block ≡ cx.block → (e.block ≡ cx.block → ⊥) → d.name < e.name → d.scope.from < e.scope.from
    by (inl x) u v w = absurd ((among_each (Bound i j) (event.Declaration d) (events cx (node k i j ps)) (statement_bounds cx (node k i j ps) h p) m).other x)
    by (inr (inl x)) u v w = absurd (late i x (omega arith) u)
    by (inr (inr (x, y, z))) u v w = absurd (late x y z u)

-- ---- a run of them

record RunSteps (b : Block) (lo hi : ℕ) (es : List Event) : Type 0 where
  steps : StepsOf b es
  bounds : EachEvent (Bound lo hi) es

none_steps : (b : Block) → StepsOf b []
none_steps b d e m n = absurd m

run_told : (cx : Context) (o : ℕ) (f : Bool) (n : ℕ) (k : Kind) (i x y j : ℕ) (p : Tree) (ps : Trees) → leads_to_lists k ≡ true → is_top k ≡ false → is_if k ≡ false → Calm [] j cx → LieIn x j (more p ps) → Rises y (more p ps)
    → AreFit k i (more p ps) → has_items n ps ≡ true → cx.block ≡ block.Local o → o < first p → RunSteps cx.block (first p) (items_end n p ps) (told_list cx f (more p (so_many n ps)))
run_told cx o f zero k i x y j p ps lead top out h l r t has at lt =
    let order : last p ≤ j = lie_order (last p) j ps l.2 in
    let here : Calm [] (last p) (record cx { falls = f && not false }) = calm_falls [] (last p) cx (f && not false) (calm_less [] (last p) j cx order h) in
    let part : IsPart p = is_part k i x j p ps lead top l t in
    let bounds = statement_bounds (record cx { falls = f && not false }) p here part in
    record {
      steps = steps_append cx.block (events (record cx { falls = f && not false }) p) [] (first p) (last p) (suc (last p)) (suc (last p)) bounds tt (omega arith)
          (statement_steps (record cx { falls = f && not false }) o p at lt here part (opens_or_flat k (kind_of p) out top t.0)) (none_steps cx.block);
      bounds = each_event_append (Bound (first p) (last p)) (events (record cx { falls = f && not false }) p) [] bounds tt;
    }
run_told cx o f (suc m) k i x y j p none lead top out h l r t has at lt = absurd (true_false false has refl)
run_told cx o f (suc m) k i x y j p (skip ps) lead top out h l r t has at lt = absurd (true_false false has refl)
run_told cx o f (suc m) k i x y j p (more q qs) lead top out h l r t has at lt =
    let order : last p ≤ j = lie_order (last p) j (more q qs) l.2 in
    let grows : first p < last p = laid_grows p l.1 in
    let far = run_lies m q qs j has l.2.2 in
    let next : first q < last q = laid_grows q l.2.1 in
    let behind : suc (last p) ≤ first q = r.1.0 in
    let here : Calm [] (last p) (record cx { falls = f && not true }) = calm_falls [] (last p) cx (f && not true) (calm_less [] (last p) j cx order h) in
    let part : IsPart p = is_part k i x j p (more q qs) lead top l t in
    let bounds = statement_bounds (record cx { falls = f && not true }) p here part in
    let others = run_told cx o f m k i (last p) (suc (last p)) j q qs lead top out h l.2 r.1 t.3 has at (omega (arith, lt, grows, behind)) in
    let es : List Event = events (record cx { falls = f && not true }) p in
    let fs : List Event = told_list cx f (more q (so_many m qs)) in
    record {
      steps = steps_append cx.block es fs (first p) (last p) (first q) (items_end m q qs) bounds others.bounds (omega (arith, behind))
          (statement_steps (record cx { falls = f && not true }) o p at lt here part (opens_or_flat k (kind_of p) out top t.0)) others.steps;
      bounds = each_event_append (Bound (first p) (items_end m q qs)) es fs
          (each_event_map (Bound (first p) (last p)) (Bound (first p) (items_end m q qs)) es (λ e. bound_wide (first p) (last p) (first p) (items_end m q qs) e (omega arith) (omega (arith, behind, next, far.from))) bounds)
          (each_event_map (Bound (first q) (items_end m q qs)) (Bound (first p) (items_end m q qs)) fs (λ e. bound_wide (first q) (items_end m q qs) (first p) (items_end m q qs) e (omega (arith, grows, behind)) (omega arith)) others.bounds);
    }

pub run_steps : (cx : Context) (o : ℕ) (f : Bool) (n : ℕ) (k : Kind) (i x y j : ℕ) (p : Tree) (ps : Trees) → leads_to_lists k ≡ true → is_top k ≡ false → is_if k ≡ false → Calm [] j cx → LieIn x j (more p ps) → Rises y (more p ps)
    → AreFit k i (more p ps) → has_items n ps ≡ true → cx.block ≡ block.Local o → o < first p → StepsOf cx.block (told_list cx f (more p (so_many n ps)))
run_steps cx o f n k i x y j p ps lead top out h l r t has at lt = (run_told cx o f n k i x y j p ps lead top out h l r t has at lt).steps
