-- What stays in a function whose runs are replaced, and what the runs tell, piece by piece.
use Rattle.std.proofs.Common.{◌≡◌, ◌∙◌, ℕ, zero, suc, ◌<◌, ◌≤◌, ◌⊎◌, inl, inr, Bool, true, false, List, [], ◌∷◌, ◌++◌, Option, None, refl, sym, subst, arith}
use Rattle.std.specs.Prelude.{◌&&◌, ◌||◌, not}
use Rattle.go_grammar.specs.declared.kind.Kind.{Kind}
use Rattle.go_grammar.specs.declared.kind.Kind.TheVariants as kind
use Rattle.go_grammar.specs.Trees.{Tree, Trees, none, more, skip, kind_of, first, last, parts}
use Rattle.go_rewriting.specs.Places.{has_items, items_end}
use Rattle.go_rewriting.specs.Lists.{so_many}
use Rattle.go_tree.specs.declared.context.Context.{Context}
use Rattle.go_tree.specs.declared.context.Role.TheVariants as role
use Rattle.go_tree.specs.Contexts.{is_package, source_of, enter}
use Rattle.go_tree.specs.Events.{statement_events, own_events, is_default, default_events, second_defaults, is_more, pass, events}
use Rattle.go_scopes_events.proofs.Public.{IsLaidOut, LieIn, lie_order, laid_grows, is_top, true_false}
use Rattle.go_scopes_bodies.specs.Listed.{list_context, told_list, is_specification}
use Rattle.extract_names.specs.Gaps.{Gap, Among, AtEdge, BlockAtEdge}
use Rattle.extract_names.specs.Pieces.{leads_to_lists, Piece, stays, gap}
use Rattle.extract_names.specs.Sites.{EachEvent, specification_at, EventStays, EventGoes, RunGoes}
use Rattle.extract_names_derived.specs.Sites.{RunStands}
use Rattle.extract_names_derived.proofs.Fit.{front, may_hold, holds_specifications, IsFit, AreFit, Rises, front_from, front_below, part_inner}
use Rattle.extract_names_derived.proofs.Lying.{RoleLies, OptionIn, ContextLies, EventLies, events_lie, each_event_append, each_event_map}
use Rattle.extract_names_derived.proofs.Stays.{Aside, event_stays, event_goes}
use Rattle.extract_names_derived.proofs.Ascends.{run_lies}

-- the pieces stand, each gap with its run
abbrev pub AllStay : (ℕ → Trees → Type 0) → (ℕ → ℕ) → List Gap → List Gap → List Piece → Type 0
AllStay P v all gs [] = gs ≡ []
AllStay P v all gs (stays es ∷ ps) = EachEvent (EventStays all) es × AllStay P v all gs ps
AllStay P v all [] (gap old news ∷ ps) = ⊥
AllStay P v all (g ∷ gs) (gap old news ∷ ps) = RunGoes all g old × ((x : RunStands v g old news) × P g.from x.new) × AllStay P v all gs ps

module _ (P : ℕ → Trees → Type 0) (v : ℕ → ℕ) where
  pub stay_append : (all gs hs : List Gap) (ps qs : List Piece) → AllStay P v all gs ps → AllStay P v all hs qs → AllStay P v all (gs ++ hs) (ps ++ qs)
  stay_append all gs hs [] qs h g = subst (λ z. AllStay P v all (z ++ hs) qs) (sym h) g
  stay_append all gs hs (stays es ∷ ps) qs h g = (h.0, stay_append all gs hs ps qs h.1 g)
  stay_append all [] hs (gap old news ∷ ps) qs h g = absurd h
  stay_append all (x ∷ gs) hs (gap old news ∷ ps) qs h g = (h.0, h.1, stay_append all gs hs ps qs h.2 g)

-- ---- statements

-- A statement that ends in front of z stands in a block of a function; the block begins and ends in no run.
pub record Calm (all : List Gap) (z : ℕ) (c : Context) : Type 0 where
  pub local : is_package c.block ≡ false
  pub block : BlockAtEdge all c.block
  pub end : AtEdge all c.end
  pub behind : z ≤ c.end
  pub role : c.role ≡ role.Operand
  pub site : specification_at c.site ≡ None
  pub specification : c.specification ≡ None
  pub source : c.source ≡ None
  pub group : c.group ≡ None
  pub parameters : c.parameters ≡ None
  pub constant : c.constant ≡ false
  pub initial : c.initial ≡ false

pub calm_lies : (m a b z : ℕ) (all : List Gap) (c : Context) → Calm all z c → ContextLies m a b c.block c.end None z c
calm_lies m a b z all c h = record {
  ends = inl (refl, refl);
  behind = λ l. h.behind;
  role = subst (RoleLies m a b c.block c.end None z c.block) (sym h.role) tt;
  site = subst (OptionIn m a b c.block c.end None) (sym h.site) tt;
  specification = subst (OptionIn m a b c.block c.end None) (sym h.specification) tt;
  source = subst (OptionIn m a b c.block c.end None) (sym h.source) tt;
  group = subst (OptionIn m a b c.block c.end None) (sym h.group) tt;
  parameters = rw h.parameters tt;
  initial = h.initial;
}

pub calm_less : (all : List Gap) (y z : ℕ) (c : Context) → y ≤ z → Calm all z c → Calm all y c
calm_less all y z c le h = record {
  local = h.local;
  block = h.block;
  end = h.end;
  behind = omega
      (arith, le, h.behind);
  role = h.role;
  site = h.site;
  specification = h.specification;
  source = h.source;
  group = h.group;
  parameters = h.parameters;
  constant = h.constant;
  initial = h.initial;
}

pub calm_falls : (all : List Gap) (z : ℕ) (c : Context) (x : Bool) → Calm all z c → Calm all z (record c { falls = x })
calm_falls all z c x h = record {
  local = h.local;
  block = h.block;
  end = h.end;
  behind = h.behind;
  role = h.role;
  site = h.site;
  specification = h.specification;
  source = h.source;
  group = h.group;
  parameters =
      h.parameters;
  constant = h.constant;
  initial = h.initial;
}

pub calm_list : (all : List Gap) (z : ℕ) (c : Context) (i j : ℕ) → AtEdge all i → AtEdge all j → Calm all z c → Calm all j (list_context c i j)
calm_list all z c i j a e h = record {
  local = refl;
  block = a;
  end = e;
  behind = omega arith;
  role = refl;
  site = h.site;
  specification = h.specification;
  source = h.source;
  group = h.group;
  parameters = h.parameters;
  constant = h.constant;
  initial = h.initial;
}

-- facts on a part
pub record IsPart (t : Tree) : Type 0 where
  pub laid : IsLaidOut t
  pub fit : IsFit t
  pub inner : is_top (kind_of t) ≡ false
  pub other : is_specification (kind_of t) ≡ false

abbrev pub Around : List Gap → ℕ → ℕ → Type 0
Around all m b = (g : Gap) → Among g all → Aside m b g

-- a statement that stays
pub kept : (all : List Gap) (c : Context) (t : Tree) → Calm all (last t) c → IsPart t → Around all (front (kind_of t) (first t)) (last t) → EachEvent (EventStays all) (events c t)
kept all c t h p f =
    let m : ℕ = front (kind_of t) (first t) in
    each_event_map (EventLies m (first t) (last t) c.block c.end None) (EventStays all) (events c t)
    (event_stays all m (first t) (last t) c.block c.end None f (front_below (kind_of t) (first t)) h.block h.end tt)
    (events_lie m (first t) (last t) c.block c.end None c t tt p.laid p.fit (omega arith) (omega arith) (omega arith) p.inner (λ e. absurd (true_false (is_specification (kind_of t)) e p.other)) (inl h.local)
    (calm_lies m (first t) (last t) (last t) all c h))

-- one that goes
goes : (all : List Gap) (g : Gap) (c : Context) (t : Tree) → Calm all (last t) c → IsPart t → g.from ≤ first t → last t ≤ g.upto → EachEvent (EventGoes g c.block c.end) (events c t)
goes all g c t h p le lo =
    each_event_map (EventLies 0 g.from g.upto c.block c.end None) (EventGoes g c.block c.end) (events c t) (event_goes 0 g c.block c.end)
    (events_lie 0 g.from g.upto c.block c.end None c t tt p.laid p.fit (omega arith) le lo p.inner (λ e. absurd (true_false (is_specification (kind_of t)) e p.other)) (inl h.local) (calm_lies 0 g.from g.upto (last t) all c h))

-- ---- parts of nodes below which lists stand

holds_out : (k : Kind) → leads_to_lists k ≡ true → holds_specifications k ≡ false
holds_out kind.FunctionDeclaration e = refl
holds_out kind.Block e = refl
holds_out kind.If e = refl
holds_out kind.Else e = refl
holds_out kind.Switch e = refl
holds_out kind.Case e = refl
holds_out kind.Default e = refl
holds_out kind.For e = refl
holds_out k e = absurd (true_false false e refl)

pub statement_part : (k l : Kind) → leads_to_lists k ≡ true → may_hold k l ≡ true → is_specification l ≡ false
statement_part k (kind.Specification s) e h = absurd (true_false (holds_specifications k) h (holds_out k e))
statement_part k l e h = refl

pub leads_inner : (k : Kind) → leads_to_lists k ≡ true → is_top k ≡ false ⊎ (k ≡ kind.FunctionDeclaration)
leads_inner kind.FunctionDeclaration e = inr refl
leads_inner kind.Block e = inl refl
leads_inner kind.If e = inl refl
leads_inner kind.Else e = inl refl
leads_inner kind.Switch e = inl refl
leads_inner kind.Case e = inl refl
leads_inner kind.Default e = inl refl
leads_inner kind.For e = inl refl
leads_inner k e = absurd (true_false false e refl)

pub is_part : (k : Kind) (i x j : ℕ) (p : Tree) (ps : Trees) → leads_to_lists k ≡ true → is_top k ≡ false → LieIn x j (more p ps) → AreFit k i (more p ps) → IsPart p
is_part k i x j p ps e top h f = record { laid = h.1; fit = f.2; inner = part_inner k (kind_of p) top f.0; other = statement_part k (kind_of p) e f.0 }

-- ---- contexts of parts

source_other : (s : Option ℕ) (k : Kind) (i : ℕ) (ps : Trees) → is_specification k ≡ false → source_of s k i ps ≡ s
source_other s (kind.Specification t) i ps e = absurd (true_false true refl e)
source_other s k i ps e = refl

pub calm_pass : (all : List Gap) (z : ℕ) (c : Context) (p : Tree) → is_specification (kind_of p) ≡ false → Calm all z c → Calm all z (pass c p)
calm_pass all z c p e h = record {
  local = h.local;
  block = h.block;
  end = h.end;
  behind = h.behind;
  role = h.role;
  site = h.site;
  specification = h.specification;
  source = source_other c.source (kind_of p) (first p)
      (parts p) e ∙ h.source;
  group = h.group;
  parameters = h.parameters;
  constant = h.constant;
  initial = h.initial;
}

module _ (all : List Gap) (c : Context) (i j : ℕ) (ps : Trees) (named : Bool) (n : ℕ) (p : Tree) (x : Bool) where
  pub enter_calm : (k : Kind) → leads_to_lists k ≡ true → is_top k ≡ false → AtEdge all i → AtEdge all j → last p ≤ j → is_specification (kind_of p) ≡ false → Calm all j c → Calm all (last p) (enter c k i j ps named n p x)
  enter_calm kind.FunctionDeclaration e top a b le o h = absurd (true_false true refl top)
  enter_calm kind.Block e top a b le o h = record {
    local = refl;
    block = a;
    end = b;
    behind = le;
    role = refl;
    site = h.site;
    specification = h.specification;
    source = source_other c.source (kind_of p) (first p)
        (parts p) o ∙ h.source;
    group = h.group;
    parameters = h.parameters;
    constant = h.constant;
    initial = h.initial;
  }
  enter_calm kind.If e top a b le o h = record {
    local = refl;
    block = a;
    end = b;
    behind = le;
    role = refl;
    site = h.site;
    specification = h.specification;
    source = source_other c.source (kind_of p) (first p)
        (parts p) o ∙ h.source;
    group = h.group;
    parameters = h.parameters;
    constant = h.constant;
    initial = h.initial;
  }
  enter_calm kind.Else e top a b le o h = record {
    local = h.local;
    block = h.block;
    end = h.end;
    behind = omega
        (arith, le, h.behind);
    role = refl;
    site = h.site;
    specification = h.specification;
    source = source_other c.source (kind_of p) (first p) (parts p) o ∙ h.source;
    group = h.group;
    parameters = h.parameters;
    constant = h.constant;
    initial = h.initial;
  }
  enter_calm kind.Switch e top a b le o h = record {
    local = refl;
    block = a;
    end = b;
    behind = le;
    role = refl;
    site = h.site;
    specification = h.specification;
    source = source_other c.source (kind_of p) (first p)
        (parts p) o ∙ h.source;
    group = h.group;
    parameters = h.parameters;
    constant = h.constant;
    initial = h.initial;
  }
  enter_calm kind.Case e top a b le o h = record {
    local = refl;
    block = a;
    end = b;
    behind = le;
    role = refl;
    site = h.site;
    specification = h.specification;
    source = source_other c.source (kind_of p) (first p)
        (parts p) o ∙ h.source;
    group = h.group;
    parameters = h.parameters;
    constant = h.constant;
    initial = h.initial;
  }
  enter_calm kind.Default e top a b le o h = record {
    local = refl;
    block = a;
    end = b;
    behind = le;
    role = refl;
    site = h.site;
    specification = h.specification;
    source = source_other c.source (kind_of p) (first p)
        (parts p) o ∙ h.source;
    group = h.group;
    parameters = h.parameters;
    constant = h.constant;
    initial = h.initial;
  }
  enter_calm kind.For e top a b le o h = record {
    local = refl;
    block = a;
    end = b;
    behind = le;
    role = refl;
    site = h.site;
    specification = h.specification;
    source = source_other c.source (kind_of p) (first p)
        (parts p) o ∙ h.source;
    group = h.group;
    parameters = h.parameters;
    constant = h.constant;
    initial = h.initial;
  }
  enter_calm k e top a b le o h = absurd (true_false false e refl)

-- ---- own events

pub statement_stays : (all : List Gap) (x : Bool) (i j : ℕ) → EachEvent (EventStays all) (statement_events x i j)
statement_stays all true i j = (tt, tt)
statement_stays all false i j = tt

default_stays : (all : List Gap) (d x : Bool) (w : ℕ) → EachEvent (EventStays all) (default_events d x w)
default_stays all true true w = (tt, tt)
default_stays all true false w = tt
default_stays all false x w = tt

second_stays : (all : List Gap) (x : Bool) (ps : Trees) → EachEvent (EventStays all) (second_defaults x ps)
second_stays all x none = tt
second_stays all x (skip ps) = second_stays all x ps
second_stays all x (more p ps) = each_event_append (EventStays all) (default_events (is_default (kind_of p)) x (first p)) (second_defaults (x || is_default (kind_of p)) ps)
    (default_stays all (is_default (kind_of p)) x (first p)) (second_stays all (x || is_default (kind_of p)) ps)

pub own_stays : (all : List Gap) (c : Context) (k : Kind) (i j : ℕ) (ps : Trees) → leads_to_lists k ≡ true → is_top k ≡ false → EachEvent (EventStays all) (own_events c k i j ps)
own_stays all c kind.FunctionDeclaration i j ps e top = absurd (true_false true refl top)
own_stays all c kind.Switch i j ps e top = second_stays all false ps
own_stays all c kind.Block i j ps e top = tt
own_stays all c kind.If i j ps e top = tt
own_stays all c kind.Else i j ps e top = tt
own_stays all c kind.Case i j ps e top = tt
own_stays all c kind.Default i j ps e top = tt
own_stays all c kind.For i j ps e top = tt
own_stays all c k i j ps e top = absurd (true_false false e refl)

-- ---- lists of statements

pub told_kept : (all : List Gap) (c : Context) (f : Bool) (k : Kind) (i x y j : ℕ) (ps : Trees) → leads_to_lists k ≡ true → is_top k ≡ false → Calm all j c → LieIn x j ps → Rises y ps → AreFit k i ps → Around all y j
    → EachEvent (EventStays all) (told_list c f ps)
told_kept all c f k i x y j none e top h l r t a = tt
told_kept all c f k i x y j (skip ps) e top h l r t a = told_kept all c f k i x y j ps e top h l r t a
told_kept all c f k i x y j (more p ps) e top h l r t a =
    let grows : first p < last p = laid_grows p l.1 in
    let order : last p ≤ j = lie_order (last p) j ps l.2 in
    each_event_append (EventStays all) (events (record c { falls = f && not (is_more ps) }) p) (told_list c f ps)
    (kept all (record c { falls = f && not (is_more ps) }) p (calm_falls all (last p) c (f && not (is_more ps)) (calm_less all (last p) j c order h)) (is_part k i x j p ps e top l t) (λ g m. here g (a g m)))
    (told_kept all c f k i (last p) (suc (last p)) j ps e top h l.2 r.1 t.3 (λ g m. later g (a g m)))
  where
    here : (g : Gap) → Aside y j g → Aside (front (kind_of p) (first p)) (last p) g
    here g (inl z) = inl (omega (arith, z, r.0, front_from (kind_of p) (first p)))
    here g (inr z) = inr (omega (arith, z, lie_order (last p) j ps l.2))

    later : (g : Gap) → Aside y j g → Aside (suc (last p)) j g
    later g (inl z) = inl (omega (arith, z, r.0, laid_grows p l.1))
    later g (inr z) = inr z

pub run_told : (all : List Gap) (g : Gap) (c : Context) (f : Bool) (n : ℕ) (k : Kind) (i x j : ℕ) (p : Tree) (ps : Trees) → leads_to_lists k ≡ true → is_top k ≡ false → Calm all j c → LieIn x j (more p ps)
    → AreFit k i (more p ps) → has_items n ps ≡ true → g.from ≤ first p → items_end n p ps ≤ g.upto
    → EachEvent (EventGoes g c.block c.end) (told_list c f (more p (so_many n ps)))
run_told all g c f zero k i x j p ps e top h l t has le hi =
    let order : last p ≤ j = lie_order (last p) j ps l.2 in
    each_event_append (EventGoes g c.block c.end) (events (record c { falls = f && not false }) p) []
    (goes all g (record c { falls = f && not false }) p (calm_falls all (last p) c (f && not false) (calm_less all (last p) j c order h)) (is_part k i x j p ps e top l t) le hi) tt
run_told all g c f (suc n) k i x j p none e top h l t has le hi = absurd (true_false false has refl)
run_told all g c f (suc n) k i x j p (skip ps) e top h l t has le hi = absurd (true_false false has refl)
run_told all g c f (suc n) k i x j p (more q qs) e top h l t has le hi =
    let order : last p ≤ j = lie_order (last p) j (more q qs) l.2 in
    let grows : first p < last p = laid_grows p l.1 in
    let far = run_lies n q qs j has l.2.2 in
    let next : first q < last q = laid_grows q l.2.1 in
    let low : last p ≤ first q = l.2.0 in
    each_event_append (EventGoes g c.block c.end) (events (record c { falls = f && not true }) p) (told_list c f (more q (so_many n qs)))
    (goes all g (record c { falls = f && not true }) p (calm_falls all (last p) c (f && not true) (calm_less all (last p) j c order h)) (is_part k i x j p (more q qs) e top l t) le (omega (arith, low, next, far.from, hi)))
    (run_told all g c f n k i (last p) j q qs e top h l.2 t.3 has (omega (arith, le, grows, low)) hi)
