-- What a function tells in front of a run of statements, and behind it.
use Rattle.std.proofs.Common.{◌≡◌, ◌∙◌, ℕ, zero, suc, ◌<◌, ◌≤◌, ◌⊎◌, inl, inr, Bool, true, false, List, [], ◌∷◌, ◌++◌, Option, Some, None, refl, sym, subst, arith}
use Rattle.std.specs.Prelude.{◌&&◌, ◌||◌, not}
use Rattle.go_grammar.specs.declared.kind.Kind.{Kind}
use Rattle.go_grammar.specs.declared.kind.Kind.TheVariants as kind
use Rattle.go_grammar.specs.Trees.{Tree, Trees, none, more, skip, kind_of, first, last}
use Rattle.go_rewriting.specs.Lists.{so_many}
use Rattle.go_rewriting.specs.Places.{Range, Ascending, has_items, items_end}
use Rattle.go_tree.specs.declared.context.Block.{Block}
use Rattle.go_tree.specs.declared.context.Block.TheVariants as block
use Rattle.go_tree.specs.declared.context.Context.{Context}
use Rattle.go_tree.specs.declared.context.Entity.{Entity}
use Rattle.go_tree.specs.declared.context.Entity.TheVariants as entity
use Rattle.go_tree.specs.declared.context.Role.{Role}
use Rattle.go_tree.specs.declared.context.Role.TheVariants as role
use Rattle.go_tree.specs.declared.event.Declaration.{Declaration}
use Rattle.go_tree.specs.declared.event.Event.{Event}
use Rattle.go_tree.specs.declared.event.Event.TheVariants as event
use Rattle.go_tree.specs.Contexts.{is_package}
use Rattle.go_tree.specs.Events.{statement_events, own_events, is_default, default_events, second_defaults, is_more, events}
use Rattle.go_scopes_events.specs.Orders.{BeginsAt, BeginsIn}
use Rattle.go_scopes_events.proofs.Public.{LieIn, lie_order, laid_grows, is_top, true_false}
use Rattle.go_scopes_bodies.specs.Listed.{told_list, is_specification}
use Rattle.extract_names.specs.Copies.{Copy, StaysOutside, AtHole, IsKept, IsEdge, TokenKept, RoleCopied, DeclarationCopied, EventCopied, BlockInFront, DeclaredInFront, StandsInFront, StandsBehind}
use Rattle.extract_names.specs.Pieces.{leads_to_lists, Piece, stays, gap}
use Rattle.extract_names.specs.Sites.{EachEvent, specification_at}
use Rattle.extract_names_derived.specs.Copies.{RunTold}
use Rattle.extract_names_derived.proofs.Ascends.{run_lies}
use Rattle.extract_names_derived.proofs.Fit.{front, AreFit, Rises, front_from, front_below}
use Rattle.extract_names_derived.proofs.Lying.{OptionIn, EndsAs, OwnLies, ParameterLies, DeclarationLies, UseRoleLies, EventLies, events_lie, each_event_append, each_event_map}
use Rattle.extract_names_derived.proofs.Walk.{Calm, calm_less, calm_falls, calm_lies, IsPart, is_part}

-- in front of the run of a copy, or behind it
abbrev pub Side : Copy → Bool → Event → Type 0
Side c false x = StandsInFront c x
Side c true x = StandsBehind c x

-- The pieces lead from the one side to the other: the run is the one gap.
abbrev pub AllSides : Copy → Bool → Bool → List Piece → Type 0
AllSides c b d [] = b ≡ d
AllSides c b d (stays es ∷ ps) = EachEvent (Side c b) es × AllSides c b d ps
AllSides c b d (gap old news ∷ ps) = (b ≡ false) × RunTold c old × AllSides c true d ps

pub sides_append : (c : Copy) (b d e : Bool) (ps qs : List Piece) → AllSides c b d ps → AllSides c d e qs → AllSides c b e (ps ++ qs)
sides_append c b d e [] qs h g = subst (λ x. AllSides c x e qs) (sym h) g
sides_append c b d e (stays es ∷ ps) qs h g = (h.0, sides_append c b d e ps qs h.1 g)
sides_append c b d e (gap old news ∷ ps) qs h g = (h.0, h.1, sides_append c true d e ps qs h.2 g)

-- ---- where the run lies

-- A tree whose names begin at x or behind it, and which ends in front of y, is on this side of the run; or the run is its one place.
abbrev pub Where : Copy → Bool → List Range → ℕ → ℕ → Type 0
Where c false [] x y = y ≤ c.from
Where c true [] x y = c.upto < x
Where c false (r ∷ []) x y = (r.from ≡ c.from) × (r.upto ≡ c.upto)
Where c false (r ∷ s ∷ rs) x y = ⊥
Where c true (r ∷ rs) x y = ⊥

-- the side behind these places
abbrev pub turned : List Range → Bool → Bool
turned [] b = b
turned (r ∷ rs) b = true

pub turned_both : (rs ss : List Range) (b : Bool) → turned (rs ++ ss) b ≡ turned ss (turned rs b)
turned_both [] ss b = refl
turned_both (r ∷ rs) [] b = refl
turned_both (r ∷ rs) (s ∷ ss) b = refl

module _ (c : Copy) (x y m n : ℕ) (lo : x ≤ m) (hi : n ≤ y) where
  pub where_part : (b : Bool) (rs ss : List Range) (k : ℕ) → Ascending n ss k → Where c b (rs ++ ss) x y → Where c b rs m n
  where_part false [] [] k a h = omega (arith, h, hi)
  where_part true [] [] k a h = omega (arith, h, lo)
  where_part false [] (s ∷ []) k a h = omega (arith, a.0, h.0)
  where_part false [] (s ∷ t ∷ ss) k a h = absurd h
  where_part true [] (s ∷ ss) k a h = absurd h
  where_part false (r ∷ []) [] k a h = h
  where_part false (r ∷ []) (s ∷ ss) k a h = absurd h
  where_part false (r ∷ q ∷ rs) ss k a h = absurd h
  where_part true (r ∷ rs) ss k a h = absurd h

  pub where_rest : (b : Bool) (rs ss : List Range) → m < suc n → Ascending m rs n → Where c b (rs ++ ss) x y → Where c (turned rs b) ss (suc n) y
  where_rest false [] [] lt a h = h
  where_rest true [] [] lt a h = omega (arith, h, lo, lt)
  where_rest false [] (s ∷ []) lt a h = h
  where_rest false [] (s ∷ t ∷ ss) lt a h = absurd h
  where_rest true [] (s ∷ ss) lt a h = absurd h
  where_rest false (r ∷ []) [] lt a h = omega (arith, a.2, h.1)
  where_rest false (r ∷ []) (s ∷ ss) lt a h = absurd h
  where_rest false (r ∷ q ∷ rs) ss lt a h = absurd h
  where_rest true (r ∷ rs) ss lt a h = absurd h

-- ---- a statement that stays

abbrev pub BlockFrom : Block → ℕ → Type 0
BlockFrom block.Package x = Unit {0}
BlockFrom (block.Local i) x = i ≤ x

pub block_from : (k : Block) (x y : ℕ) → x ≤ y → BlockFrom k x → BlockFrom k y
block_from block.Package x y le h = tt
block_from (block.Local i) x y le h = omega (arith, le, h)

begins_at : (e : Entity) (i n : ℕ) → BeginsAt e i n → i ≤ n
begins_at entity.Type i n h = omega (arith, h)
begins_at entity.Function i n h = absurd h
begins_at entity.Constant i n h = omega (arith, h)
begins_at entity.Variable i n h = omega (arith, h)
begins_at entity.Parameter i n h = omega (arith, h)

begins_low : (k : Block) (e : Entity) (i n : ℕ) → is_package k ≡ false → BeginsIn k e i n → i ≤ n
begins_low block.Package e i n o h = absurd (true_false true refl o)
begins_low (block.Local j) e i n o h = begins_at e i n h

block_front : (c : Copy) (k : Block) (x : ℕ) → x < c.from → BlockFrom k x → BlockInFront c k
block_front c block.Package x lt h = tt
block_front c (block.Local i) x lt h = omega (arith, lt, h)

module _ (c : Copy) (m a b : ℕ) (blk : Block) (e : ℕ) (from : BlockFrom blk a) (grows : a < b) (le : m ≤ suc a) where
  front_block : b ≤ c.from → (k : Block) (to : ℕ) → EndsAs m a b blk e None k to → BlockInFront c k
  front_block h k to (inl x) = subst (BlockInFront c) (sym x.0) (block_front c blk a (omega (arith, grows, h)) from)
  front_block h k to (inr x) = subst (BlockInFront c) (sym x.1) (omega (arith, x.2.1, h))

  own_front : b ≤ c.from → (d : Declaration) → DeclarationLies m a b blk e None d → DeclaredInFront c d
  own_front h d l = by l.sort
    where
      by : OwnLies m a b blk e None d ⊎ ParameterLies m a b blk e None d → DeclaredInFront c d
      by (inl x) = record {
        name = omega (arith, l.name.1, h);
        statement = omega (arith, x.statement.1, h);
        block = front_block h d.block d.scope.to x.ends;
        scope = λ o. inl (omega (arith, x.upto, h));
      }
      by (inr x) = let no : Some d.scope ≡ None = x.given in absurd cc

  own_behind : c.upto < m → (d : Declaration) → DeclarationLies m a b blk e None d → (c.upto ≤ d.name) × (d.name ≤ d.scope.from) × (c.upto ≤ d.statement)
  own_behind h d l = by l.sort
    where
      by : OwnLies m a b blk e None d ⊎ ParameterLies m a b blk e None d → (c.upto ≤ d.name) × (d.name ≤ d.scope.from) × (c.upto ≤ d.statement)
      by (inl x) = (omega (arith, h, l.low), begins_low d.block d.entity d.name d.scope.from x.local l.follows.0, omega (arith, h, le, x.statement.0))
      by (inr x) = let no : Some d.scope ≡ None = x.given in absurd cc

  event_front : b ≤ c.from → (x : Event) → EventLies m a b blk e None x → StandsInFront c x
  event_front h (event.Declaration d) l = own_front h d l
  event_front h (event.Use u) l = omega (arith, l.name.1, h)
  event_front h (event.Member k g x) l = tt
  event_front h (event.Import i) l = tt
  event_front h (event.Bodiless i j) l = tt
  event_front h (event.Statement i j) l = tt
  event_front h (event.Misplaced i j) l = tt
  event_front h (event.SecondDefault w) l = tt

  event_behind : c.upto < m → (x : Event) → EventLies m a b blk e None x → StandsBehind c x
  event_behind h (event.Declaration d) l = own_behind h d l
  event_behind h (event.Use u) l = omega (arith, l.name.0, h, le)
  event_behind h (event.Member k g x) l = tt
  event_behind h (event.Import i) l = tt
  event_behind h (event.Bodiless i j) l = tt
  event_behind h (event.Statement i j) l = tt
  event_behind h (event.Misplaced i j) l = tt
  event_behind h (event.SecondDefault w) l = tt

  event_side : (s : Bool) → Where c s [] m b → (x : Event) → EventLies m a b blk e None x → Side c s x
  event_side false h x l = event_front h x l
  event_side true h x l = event_behind h x l

pub kept_side : (c : Copy) (s : Bool) (cx : Context) (t : Tree) → Calm [] (last t) cx → BlockFrom cx.block (first t) → IsPart t → Where c s [] (front (kind_of t) (first t)) (last t) → EachEvent (Side c s) (events cx t)
kept_side c s cx t h f p w =
    let m : ℕ = front (kind_of t) (first t) in
    each_event_map (EventLies m (first t) (last t) cx.block cx.end None) (Side c s) (events cx t)
    (event_side c m (first t) (last t) cx.block cx.end f (laid_grows t p.laid) (front_below (kind_of t) (first t)) s w)
    (events_lie m (first t) (last t) cx.block cx.end None cx t tt p.laid p.fit (omega arith) (omega arith) (omega arith) p.inner (λ e. absurd (true_false (is_specification (kind_of t)) e p.other)) (inl h.local)
    (calm_lies m (first t) (last t) (last t) [] cx h))

-- ---- what names nothing

bare_side : (c : Copy) (s : Bool) (i j : ℕ) → Side c s (event.Statement i j)
bare_side c false i j = tt
bare_side c true i j = tt

second_one : (c : Copy) (s : Bool) (w : ℕ) → Side c s (event.SecondDefault w)
second_one c false w = tt
second_one c true w = tt

pub statement_side : (c : Copy) (s : Bool) (x : Bool) (i j : ℕ) → EachEvent (Side c s) (statement_events x i j)
statement_side c s true i j = (bare_side c s i j, tt)
statement_side c s false i j = tt

default_side : (c : Copy) (s : Bool) (d x : Bool) (w : ℕ) → EachEvent (Side c s) (default_events d x w)
default_side c s true true w = (second_one c s w, tt)
default_side c s true false w = tt
default_side c s false x w = tt

second_side : (c : Copy) (s : Bool) (x : Bool) (ps : Trees) → EachEvent (Side c s) (second_defaults x ps)
second_side c s x none = tt
second_side c s x (skip ps) = second_side c s x ps
second_side c s x (more p ps) = each_event_append (Side c s) (default_events (is_default (kind_of p)) x (first p)) (second_defaults (x || is_default (kind_of p)) ps) (default_side c s (is_default (kind_of p)) x (first p))
    (second_side c s (x || is_default (kind_of p)) ps)

pub own_side : (c : Copy) (s : Bool) (cx : Context) (k : Kind) (i j : ℕ) (ps : Trees) → leads_to_lists k ≡ true → is_top k ≡ false → EachEvent (Side c s) (own_events cx k i j ps)
own_side c s cx kind.FunctionDeclaration i j ps e top = absurd (true_false true refl top)
own_side c s cx kind.Switch i j ps e top = second_side c s false ps
own_side c s cx kind.Block i j ps e top = tt
own_side c s cx kind.If i j ps e top = tt
own_side c s cx kind.Else i j ps e top = tt
own_side c s cx kind.Case i j ps e top = tt
own_side c s cx kind.Default i j ps e top = tt
own_side c s cx kind.For i j ps e top = tt
own_side c s cx k i j ps e top = absurd (true_false false e refl)

-- ---- lists and rows that stay

pub where_here : (c : Copy) (s : Bool) (x y m n : ℕ) → x ≤ m → n ≤ y → Where c s [] x y → Where c s [] m n
where_here c false x y m n lo hi h = omega (arith, h, hi)
where_here c true x y m n lo hi h = omega (arith, h, lo)

pub told_side : (c : Copy) (s : Bool) (cx : Context) (f : Bool) (k : Kind) (i x y j : ℕ) (ps : Trees) → leads_to_lists k ≡ true → is_top k ≡ false → Calm [] j cx → BlockFrom cx.block x → LieIn x j ps → Rises y ps
    → AreFit k i ps → Where c s [] y j → EachEvent (Side c s) (told_list cx f ps)
told_side c s cx f k i x y j none e top h o l r t w = tt
told_side c s cx f k i x y j (skip ps) e top h o l r t w = told_side c s cx f k i x y j ps e top h o l r t w
told_side c s cx f k i x y j (more p ps) e top h o l r t w =
    let grows : first p < last p = laid_grows p l.1 in
    let order : last p ≤ j = lie_order (last p) j ps l.2 in
    let b : Bool = f && not (is_more ps) in
    let low : y ≤ front (kind_of p) (first p) = omega (arith, r.0, front_from (kind_of p) (first p)) in
    each_event_append (Side c s) (events (record cx { falls = b }) p) (told_list cx f ps)
    (kept_side c s (record cx { falls = b }) p (calm_falls [] (last p) cx b (calm_less [] (last p) j cx order h)) (block_from cx.block x (first p) l.0 o) (is_part k i x j p ps e top l t)
    (where_here c s y j (front (kind_of p) (first p)) (last p) low order w))
    (told_side c s cx f k i (last p) (suc (last p)) j ps e top h (block_from cx.block x (last p) (omega (arith, l.0, grows)) o) l.2 r.1 t.3 (where_here c s y j (suc (last p)) j (omega (arith, r.0, grows)) (omega arith) w))

-- ---- what a run tells is copied where no hole is replaced

module _ (c : Copy) (blk : Block) (e : ℕ) (none_replaced : c.holes ≡ []) (at : blk ≡ block.Local c.around) (end : e ≡ c.end) where
  outside_all : (t : ℕ) → StaysOutside c.holes t
  outside_all t = subst (λ hs. StaysOutside hs t) (sym none_replaced) tt

  inside_none : (t : ℕ) → AtHole c.holes t
  inside_none t = subst (λ hs. AtHole hs t) (sym none_replaced) tt

  option_copied : (o : Option ℕ) → OptionIn 0 c.from c.upto blk e None o → TokenKept c o
  option_copied None h = tt
  option_copied (Some t) h = (h.0, h.1, outside_all t)

  role_copied : (r : Role) → UseRoleLies 0 c.from c.upto blk e None r → RoleCopied c r
  role_copied (role.Selected l x) h = (h.0, h.1, (h.2.0, h.2.1, outside_all h.0))
  role_copied (role.New d) h = tt
  role_copied (role.Field g) h = tt
  role_copied (role.Key g) h = tt
  role_copied (role.Parameter g s) h = tt
  role_copied role.Operand h = tt
  role_copied role.Assigned h = tt
  role_copied role.Called h = tt

  ends_copied : (k : Block) (to : ℕ) → EndsAs 0 c.from c.upto blk e None k to → ((k ≡ block.Local c.around) × (to ≡ c.end)) ⊎ ((i : ℕ) × (k ≡ block.Local i) × IsKept c i × IsEdge c to)
  ends_copied k to (inl x) = inl (x.0 ∙ at, x.1 ∙ end)
  ends_copied k to (inr x) = inr (x.0, x.1, (x.2.0, x.2.1, outside_all x.0), (x.3.0, x.3.1, inside_none to))

  declaration_copied : (d : Declaration) → DeclarationLies 0 c.from c.upto blk e None d → DeclarationCopied c d
  declaration_copied d l = by l.sort
    where
      by : OwnLies 0 c.from c.upto blk e None d ⊎ ParameterLies 0 c.from c.upto blk e None d → DeclarationCopied c d
      by (inl x) = record {
        name = (l.name.0, l.name.1, outside_all d.name);
        statement = (x.statement.0, x.statement.1, outside_all d.statement);
        from = (omega (arith, x.behind), x.upto, inside_none d.scope.from);
        source = option_copied d.source x.source;
        variety = x.variety;
        behind = x.behind;
        ends = ends_copied d.block d.scope.to x.ends;
      }
      by (inr x) = let no : Some d.scope ≡ None = x.given in absurd cc

  event_copied : (x : Event) → EventLies 0 c.from c.upto blk e None x → EventCopied c x
  event_copied (event.Declaration d) l = declaration_copied d l
  event_copied (event.Use u) l = record { name = (l.name.0, l.name.1, outside_all u.name); role = role_copied u.role l.role; specification = option_copied (specification_at u.site) l.specification; initial = l.initial }
  event_copied (event.Member k g x) l = ((l.0.0, l.0.1, outside_all g), (l.1.0, l.1.1, outside_all x))
  event_copied (event.Import i) l = tt
  event_copied (event.Bodiless i j) l = tt
  event_copied (event.Statement i j) l = tt
  event_copied (event.Misplaced i j) l = tt
  event_copied (event.SecondDefault w) l = tt

statement_copied : (c : Copy) (cx : Context) (t : Tree) → c.holes ≡ [] → cx.block ≡ block.Local c.around → cx.end ≡ c.end → Calm [] (last t) cx → IsPart t → c.from ≤ first t → last t ≤ c.upto → EachEvent (EventCopied c) (events cx t)
statement_copied c cx t n at end h p le hi =
    each_event_map (EventLies 0 c.from c.upto cx.block cx.end None) (EventCopied c) (events cx t) (event_copied c cx.block cx.end n at end)
    (events_lie 0 c.from c.upto cx.block cx.end None cx t tt p.laid p.fit (omega arith) le hi p.inner (λ e. absurd (true_false (is_specification (kind_of t)) e p.other)) (inl h.local) (calm_lies 0 c.from c.upto (last t) [] cx h))

pub run_copied : (c : Copy) (cx : Context) (f : Bool) (n : ℕ) (k : Kind) (i x j : ℕ) (p : Tree) (ps : Trees) → leads_to_lists k ≡ true → is_top k ≡ false → Calm [] j cx → LieIn x j (more p ps) → AreFit k i (more p ps)
    → has_items n ps ≡ true → c.from ≤ first p → items_end n p ps ≤ c.upto
    → c.holes ≡ [] → cx.block ≡ block.Local c.around → cx.end ≡ c.end → EachEvent (EventCopied c) (told_list cx f (more p (so_many n ps)))
run_copied c cx f zero k i x j p ps lead top h l t has le hi n at end =
    let order : last p ≤ j = lie_order (last p) j ps l.2 in
    each_event_append (EventCopied c) (events (record cx { falls = f && not false }) p) []
    (statement_copied c (record cx { falls = f && not false }) p n at end (calm_falls [] (last p) cx (f && not false) (calm_less [] (last p) j cx order h)) (is_part k i x j p ps lead top l t) le hi) tt
run_copied c cx f (suc m) k i x j p none lead top h l t has le hi n at end = absurd (true_false false has refl)
run_copied c cx f (suc m) k i x j p (skip ps) lead top h l t has le hi n at end = absurd (true_false false has refl)
run_copied c cx f (suc m) k i x j p (more q qs) lead top h l t has le hi n at end =
    let order : last p ≤ j = lie_order (last p) j (more q qs) l.2 in
    let grows : first p < last p = laid_grows p l.1 in
    let far = run_lies m q qs j has l.2.2 in
    let next : first q < last q = laid_grows q l.2.1 in
    let low : last p ≤ first q = l.2.0 in
    each_event_append (EventCopied c) (events (record cx { falls = f && not true }) p) (told_list cx f (more q (so_many m qs)))
    (statement_copied c (record cx { falls = f && not true }) p n at end (calm_falls [] (last p) cx (f && not true) (calm_less [] (last p) j cx order h)) (is_part k i x j p (more q qs) lead top l t) le
    (omega (arith, low, next, far.from, hi)))
    (run_copied c cx f m k i (last p) j q qs lead top h l.2 t.3 has (omega (arith, le, grows, low)) hi n at end)
