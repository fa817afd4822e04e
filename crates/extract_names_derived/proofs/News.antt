-- Derived statements in the place of a run tell what its gap has to.
use Rattle.std.proofs.Common.{◌≡◌, ℕ, ◌+◌, ◌-◌, ◌<◌, ◌≤◌, inl, Bool, true, false, List, [], ◌∷◌, length, None, refl, sym, subst, arith, inr, ap}
use Rattle.std.specs.Prelude.{◌&&◌, not, nat_le, if◌then◌else◌}
use Rattle.std.proofs.lemmas.Bool.{leb-true}
use Rattle.go_tokens.specs.declared.token.TokenKind.{TokenKind}
use Rattle.go_grammar.specs.declared.kind.Category.TheVariants as category
use Rattle.go_grammar.specs.declared.kind.Kind.{Kind}
use Rattle.go_grammar.specs.declared.kind.Kind.TheVariants as kind
use Rattle.go_grammar.specs.Categories.{within}
use Rattle.go_grammar.specs.Grammar.{Derives}
use Rattle.go_grammar.specs.Rules.{Items, item}
use Rattle.go_grammar.proofs.Public.{gap_order, between_order, derives_grows}
use Rattle.go_grammar.specs.Trees.{Tree, node, Trees, none, more, skip, kind_of, first, last}
use Rattle.go_rewriting.specs.Places.{Patch, Patches, keep, put, inside, done, part, run, items_behind, Ascending}
use Rattle.go_rewriting.specs.Replacing.{moved, Run}
use Rattle.go_tree.specs.declared.context.Block.{Block}
use Rattle.go_tree.specs.declared.context.Block.TheVariants as block
use Rattle.go_tree.specs.declared.context.Context.{Context}
use Rattle.go_tree.specs.declared.context.Site.{Site}
use Rattle.go_tree.specs.declared.context.Site.TheVariants as site
use Rattle.go_tree.specs.declared.event.Event.{Event}
use Rattle.go_tree.specs.declared.event.Event.TheVariants as event
use Rattle.go_tree.specs.declared.event.Use.{Use}
use Rattle.go_tree.specs.Contexts.{is_package}
use Rattle.go_tree.specs.Events.{is_more, events}
use Rattle.go_heads.specs.Functions.{Alone}
use Rattle.go_scopes_events.proofs.Public.{derives_laid, is_top, true_false, ScopeGives}
use Rattle.go_scopes_bodies.specs.Carried.{carried_token, carried_scopes, carried_block, carried_role, carried_site, carried_context}
use Rattle.go_scopes_bodies.specs.Listed.{told_list, is_specification}
use Rattle.go_scopes_bodies.specs.Meant.{Outer}
use Rattle.extract_names.specs.Gaps.{Gap, moved_by, ranges, Among}
use Rattle.extract_names.specs.Sites.{EachEvent, specification_at, UseIsNew, EventIsNew, GapTells, IsSite}
use Rattle.extract_names_derived.specs.News.{DeriveWithin, UseAsked, EventAsked, StatementsAsked, AskedInPlace, IsAskedFor, AreNewStatements}
use Rattle.extract_names_derived.specs.Patches.{EachRun, EachIn}
use Rattle.extract_names_derived.specs.Sites.{RunStands, IsRewritten, TellsInPlace}
use Rattle.extract_names_derived.proofs.Ascends.{ascend_member}
use Rattle.extract_names_derived.proofs.DerivedSites.{gaps_ascend, gaps_tell, is_site}
use Rattle.extract_names_derived.proofs.Fit.{derives_fit}
use Rattle.extract_names_derived.proofs.Texts.{low, high}
use Rattle.extract_names_derived.proofs.Whole.{Tells}
use Rattle.extract_names_derived.proofs.Lying.{OptionIn, RoleLies, ContextLies, UseLies, EventLies, events_lie, each_event_append}

both_new : (Q R S : Event → Type 0) (es : List Event) → ((e : Event) → Q e → R e → S e) → EachEvent Q es → EachEvent R es → EachEvent S es
both_new Q R S [] f q r = tt
both_new Q R S (e ∷ es) f q r = (f e q.0 r.0, both_new Q R S es f q.1 r.1)

local_carried : (v : ℕ → ℕ) (k : Block) → is_package k ≡ false → is_package (carried_block v k) ≡ false
local_carried v block.Package h = h
local_carried v (block.Local i) h = refl

site_carried : (v : ℕ → ℕ) (s : Site) → specification_at s ≡ None → specification_at (carried_site v s) ≡ None
site_carried v site.Elsewhere h = refl
site_carried v (site.Type s) h = absurd cc
site_carried v (site.Value s column alone) h = absurd cc
site_carried v (site.Right s reach) h = absurd cc

statement_kind : (ts : List TokenKind) (p : Tree) → Derives ts category.Statement p → (is_top (kind_of p) ≡ false) × (is_specification (kind_of p) ≡ false)
statement_kind ts (node k i j ps) h = by k h.0
  where
    by : (k : Kind) → within category.Statement k ≡ true → (is_top k ≡ false) × (is_specification k ≡ false)
    by kind.File e = absurd (true_false false e refl)
    by kind.FunctionDeclaration e = absurd (true_false false e refl)
    by (kind.Specification s) e = absurd (true_false false e refl)
    by k e = (refl, refl)

module _ (us : List TokenKind) (v : ℕ → ℕ) (g : Gap) (old news : List Event) (x : RunStands v g old news) where
  abbrev here : Context
  here = carried_context v x.context

  abbrev from : ℕ
  from = v g.from

  abbrev upto : ℕ
  upto = v g.from + length g.texts

  stands_at : (z : ℕ) → z ≤ v x.context.end → (f : Bool) → ContextLies 0 from upto here.block here.end None z (record here { falls = f })
  stands_at z le f = record {
    ends = inl (refl, refl);
    behind = λ l. le;
    role = subst (λ r. RoleLies 0 from upto here.block here.end None z here.block (carried_role v r)) (sym x.role) tt;
    site = subst (OptionIn 0 from upto here.block here.end None) (sym (site_carried v x.context.site x.site)) tt;
    specification = subst (λ o. OptionIn 0 from upto here.block here.end None (carried_token v o)) (sym x.specification) tt;
    source = subst (λ o. OptionIn 0 from upto here.block here.end None (carried_token v o)) (sym x.source) tt;
    group = subst (λ o. OptionIn 0 from upto here.block here.end None (carried_token v o)) (sym x.group) tt;
    parameters = subst (λ o. ScopeGives None (carried_scopes v o)) (sym x.parameters) tt;
    initial = x.initial;
  }

  told_lies : (f : Bool) (ps : Trees) → upto ≤ v x.context.end → DeriveWithin us from upto ps → EachEvent (EventLies 0 from upto here.block here.end None) (told_list here f ps)
  told_lies f none le h = tt
  told_lies f (skip ps) le h = told_lies f ps le h
  told_lies f (more p ps) le h =
      let b : Bool = f && not (is_more ps) in
      let k = statement_kind us p h.0 in
      let ends : last p ≤ v x.context.end = (let hi : last p ≤ upto = h.2 in omega (arith, hi, le)) in
      each_event_append (EventLies 0 from upto here.block here.end None) (events (record here { falls = b }) p) (told_list here f ps)
      (events_lie 0 from upto here.block here.end None (record here { falls = b }) p tt (derives_laid us p category.Statement h.0) (derives_fit us p category.Statement h.0) (omega arith) h.1 h.2 k.0
      (λ e. absurd (true_false (is_specification (kind_of p)) e k.1)) (inl (local_carried v x.context.block x.local)) (stands_at (last p) ends b))
      (told_lies f ps le h.3)

  use_new : (u : Use) → UseLies 0 from upto here.block here.end None u → UseAsked v g u → UseIsNew v g u
  use_new u l q =
      let lo : from ≤ u.name = l.name.0 in
      let hi : u.name < upto = l.name.1 in
      record {
        token = u.name - v g.from;
        within = omega (arith, lo, hi);
        name = omega (arith, lo);
        calm = q.calm;
        initial = l.initial;
        constant = q.constant;
        declaring = q.declaring;
      }

  event_new : (a : Alone) (e : Event) → EventLies 0 from upto here.block here.end None e → EventAsked a v g old e → EventIsNew a v g old e
  event_new a (event.Declaration d) l q = q
  event_new a (event.Use u) l q = use_new u l q
  event_new a (event.Member m k y) l q = (l.0, l.1)
  event_new a (event.Statement i j) l q = tt
  event_new a (event.Import i) l q = absurd q
  event_new a (event.Bodiless i j) l q = absurd q
  event_new a (event.Misplaced i j) l q = absurd q
  event_new a (event.SecondDefault i) l q = absurd q

  pub gap_tells : (a new : Alone) → upto ≤ v x.context.end → StatementsAsked us a new v g old news x → GapTells a new v g old news
  gap_tells a new ends h = record {
    each = both_new (EventLies 0 from upto here.block here.end None) (EventAsked a v g old) (EventIsNew a v g old) news (event_new a)
        (subst (EachEvent (EventLies 0 from upto here.block here.end None)) (sym x.told) (told_lies x.followed x.new ends h.derive)) h.each;
    all = h.all;
    members_once = h.members_once;
  }

-- ---- in a rewritten function

-- A gap ends in front of what its run ends in front of.
pub gap_in_front : (gs : List Gap) (i j e : ℕ) → Ascending i (ranges gs) j → (g : Gap) → Among g gs → g.upto ≤ e → moved_by gs g.from + length g.texts ≤ moved_by gs e
gap_in_front [] i j e h g a le = absurd a
gap_in_front (x ∷ gs) i j e h g (inl s) le =
    subst (λ (z : Gap). z.upto ≤ e → moved_by (x ∷ gs) z.from + length z.texts ≤ moved_by (x ∷ gs) e) (sym s)
    (λ l. omega (arith, low x gs x.from (omega arith), high x gs e (let lt : x.from < e = omega (arith, h.1, l) in lt))) le
gap_in_front (x ∷ gs) i j e h g (inr a) le =
    let m = ascend_member gs x.upto j h.2 g a in
    let r : moved_by gs g.from + length g.texts ≤ moved_by gs e = gap_in_front gs x.upto j e h.2 g a le in
    let on : x.upto ≤ moved_by gs g.from = moves_on gs x.upto j g.from h.2 m.0 in
    let first : x.from < g.from = omega (arith, h.1, m.0) in
    let last : x.from < e = omega (arith, h.1, m.0, m.1, le) in
    omega (arith, high x gs g.from first, high x gs e last, on, r)
  where
    moves_on : (gs : List Gap) (i j t : ℕ) → Ascending i (ranges gs) j → i ≤ t → i ≤ moved_by gs t
    moves_on [] i j t h le = le
    moves_on (y ∷ gs) i j t h le = by (nat_le t y.from) refl
      where
        by : (b : Bool) → nat_le t y.from ≡ b → i ≤ moved_by (y ∷ gs) t
        by true e = omega (arith, low y gs t (leb-true t y.from e), le)
        by false e =
            let is : moved_by (y ∷ gs) t ≡ moved y.upto (y.from + length y.texts) (moved_by gs t) = ap (λ b. if b then t else moved y.upto (y.from + length y.texts) (moved_by gs t)) e in
            omega (arith, is, h.0)

mutual
  run_maps : (P Q : ℕ → Trees → Type 0) → ((i : ℕ) (ps : Trees) → P i ps → Q i ps) → (t : Tree) (q : Patch) → EachRun P t q → EachRun Q t q
  run_maps P Q f t keep h = tt
  run_maps P Q f t (put s) h = tt
  run_maps P Q f (node k i j ps) (inside qs) h = runs_map P Q f ps qs h

  runs_map : (P Q : ℕ → Trees → Type 0) → ((i : ℕ) (ps : Trees) → P i ps → Q i ps) → (ps : Trees) (qs : Patches) → EachIn P ps qs → EachIn Q ps qs
  runs_map P Q f ps done h = tt
  runs_map P Q f none (part q qs) h = tt
  runs_map P Q f (more p ps) (part q qs) h = (run_maps P Q f p q h.0, runs_map P Q f ps qs h.1)
  runs_map P Q f (skip ps) (part q qs) h = runs_map P Q f ps qs h
  runs_map P Q f none (run n new qs) h = tt
  runs_map P Q f (more p ps) (run n new qs) h = (f (first p) new h.0, runs_map P Q f (items_behind n ps) qs h.1)
  runs_map P Q f (skip ps) (run n new qs) h = tt

pub asked_site : (tells : Tells) (ts us : List TokenKind) (a : Alone) (outer : Outer) (gaps : List Gap) (new : Alone) (h : IsRewritten ts us a gaps new) → IsAskedFor us a outer gaps new h.patch → IsSite a outer gaps new
asked_site tells ts us a outer gaps new h c =
    let asc : Ascending 1 (ranges gaps) (length a.texts) = gaps_ascend tells ts us a gaps new h in
    is_site tells ts us a gaps new h outer (record {
      tell =
          gaps_tell tells ts us a gaps new h
          (run_maps (AskedInPlace us a new gaps) (TellsInPlace a new gaps)
          (λ i ps f. λ g m e old news x s. gap_tells us (moved_by gaps) g old news x a new (gap_in_front gaps 1 (length a.texts) x.context.end asc g m x.within) (f g m e old news x s)) a.tree h.patch c.statements);
      says = c.says;
      needed = c.needed;
      once = c.once;
      reuses = c.reuses;
      used = c.used;
    })

-- ---- runs

within_less : (us : List TokenKind) (i k j : ℕ) (ps : Trees) → i ≤ k → DeriveWithin us k j ps → DeriveWithin us i j ps
within_less us i k j none le h = tt
within_less us i k j (more p ps) le h = (h.0, (let low : k ≤ first p = h.1 in omega (arith, le, low)), h.2, within_less us i k j ps le h.3)
within_less us i k j (skip ps) le h = within_less us i k j ps le h

run_order : (us : List TokenKind) (l : Items) (new : Trees) (i j : ℕ) → Run us l new i j → i < j
run_order us l none i j h = absurd h
run_order us l (skip ps) i j h = absurd h
run_order us l (more p none) i j h = (let e : first p ≡ i = h.0 in let f : last p ≡ j = h.2 in omega (arith, e, f, derives_grows us p (item l) h.1))
run_order us l (more p (skip qs)) i j h = absurd h
run_order us l (more p (more q qs)) i j h =
    let e : first p ≡ i = h.0 in
    omega (arith, e, derives_grows us p (item l) h.1, between_order us l (last p) h.2 h.3, gap_order us l h.2 (first q) h.4, run_order us l (more q qs) (first q) j h.5)

run_within : (us : List TokenKind) (l : Items) → item l ≡ category.Statement → (new : Trees) (i j : ℕ) → Run us l new i j → AreNewStatements us i j new
run_within us l s none i j h = absurd h
run_within us l s (skip ps) i j h = absurd h
run_within us l s (more p (skip qs)) i j h = absurd h
run_within us l s (more p none) i j h =
    let d : Derives us category.Statement p = subst (λ c. Derives us c p) s h.1 in
    let e : first p ≡ i = h.0 in
    let f : last p ≡ j = h.2 in
    record { within = (d, omega (arith, e), omega (arith, f), tt); some = refl; statements = ((statement_kind us p d).1, tt) }
run_within us l s (more p (more q qs)) i j h =
    let d : Derives us category.Statement p = subst (λ c. Derives us c p) s h.1 in
    let e : first p ≡ i = h.0 in
    let low : last p ≤ first q = omega (arith, between_order us l (last p) h.2 h.3, gap_order us l h.2 (first q) h.4) in
    let grows : first p < last p = derives_grows us p (item l) h.1 in
    let rest = run_within us l s (more q qs) (first q) j h.5 in
    let order : first q < j = run_order us l (more q qs) (first q) j h.5 in
    record {
      within = (d, omega (arith, e), omega (arith, low, order), within_less us i (first q) j (more q qs) (omega (arith, e, grows, low)) rest.within);
      some = refl;
      statements = ((statement_kind us p d).1, rest.statements);
    }

pub runs_stand : (us : List TokenKind) (l : Items) (new : Trees) (i j : ℕ) → item l ≡ category.Statement → Run us l new i j → AreNewStatements us i j new
runs_stand us l new i j s h = run_within us l s new i j h
