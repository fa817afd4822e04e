-- A derived function with calls in the place of runs is a site.
use Rattle.std.proofs.Common.{◌≡◌, ◌∙◌, ℕ, suc, ◌+◌, ◌<◌, ◌≤◌, ◌⊎◌, inl, inr, List, [], ◌∷◌, ◌++◌, length, Option, refl, sym, ap, subst, arith}
use Rattle.go_tokens.specs.declared.token.TokenKind.{TokenKind}
use Rattle.go_grammar.specs.declared.kind.Category.TheVariants as category
use Rattle.go_grammar.specs.Trees.{Trees, first, last}
use Rattle.go_grammar.proofs.Public.{derives_grows}
use Rattle.go_rewriting.specs.Places.{Ascending}
use Rattle.go_tree.specs.declared.event.Declaration.{Declaration}
use Rattle.go_tree.specs.declared.event.Event.{Event}
use Rattle.go_tree.specs.declared.event.Event.TheVariants as event
use Rattle.go_tree.specs.Contexts.{file_context}
use Rattle.go_heads.specs.Bodies.{function_events}
use Rattle.go_heads.specs.Functions.{Alone}
use Rattle.go_print_laws.specs.Calls.{Call, Argument}
use Rattle.go_print_laws.specs.Trees.{type_tree}
use Rattle.go_scopes_bodies.specs.Meant.{Meant, Outer}
use Rattle.go_types.specs.Trees.{TypeRow}
use Rattle.go_types.specs.Trees as types
use Rattle.extract_names.specs.Gaps.{Redeclared, Gap, moved_by, ranges, Among, IsInRun, Stays}
use Rattle.extract_names.specs.Pieces.{Piece, stays, gap, told_before, pieces}
use Rattle.extract_names.specs.Sites.{EachEvent, EventStays, EventGoes, IsSite}
use Rattle.extract_names_derived.specs.Calls.{DeclaresOne, DeclaresEach, gap_means, gap_text}
use Rattle.extract_names_derived.specs.CallSites.{CallInPlace, CallsAsked}
use Rattle.extract_names_derived.specs.Sites.{AllTell, IsRewritten}
use Rattle.extract_names_derived.proofs.Ascends.{ascend_member}
use Rattle.extract_names_derived.proofs.CallEvents.{asked}
use Rattle.extract_names_derived.proofs.DerivedSites.{gaps_ascend, name_kept, is_site}
use Rattle.extract_names_derived.proofs.Functions.{function_stays, function_gaps}
use Rattle.extract_names_derived.proofs.News.{gap_in_front, gap_tells}
use Rattle.extract_names_derived.proofs.Split.{TellPieces}
use Rattle.extract_names_derived.proofs.Replaced.{function_replaces}
use Rattle.extract_names_derived.proofs.Steps.{among_each, among_both}
use Rattle.extract_names_derived.proofs.Walk.{AllStay}
use Rattle.extract_names_derived.proofs.Whole.{Tells}

-- ---- where what is told of a run stands

-- a token that stays is in no run
stays_out : (gs : List Gap) (g : Gap) (t : ℕ) → Among g gs → Stays gs t → IsInRun g t → ⊥
stays_out [] g t k s r = absurd k
stays_out (x ∷ gs) g t (inl e) s r = by s.0 (subst (λ (z : Gap). IsInRun z t) e r)
  where
    by : (t < x.from) ⊎ (x.upto ≤ t) → IsInRun x t → ⊥
    by (inl lt) q = let le : x.from ≤ t = q.0 in omega (arith, lt, le)
    by (inr le) q = let lt : t < x.upto = q.1 in omega (arith, lt, le)
stays_out (x ∷ gs) g t (inr k) s r = stays_out gs g t k s.1 r

module _ (P : ℕ → Trees → Type 0) (v : ℕ → ℕ) (all : List Gap) (d : Declaration) where
  -- a declaration stays, or it is one of these runs
  told_where : (gs : List Gap) (ps : List Piece) → AllStay P v all gs ps → Among (event.Declaration d) (told_before ps) → Stays all d.name ⊎ ((g : Gap) × Among g gs × IsInRun g d.name)
  told_where gs [] h k = absurd k
  told_where gs (stays es ∷ ps) h k = by (among_both (event.Declaration d) es (told_before ps) k) (told_where gs ps h.1)
    where
      by : Among (event.Declaration d) es ⊎ Among (event.Declaration d) (told_before ps) → (Among (event.Declaration d) (told_before ps) → Stays all d.name ⊎ ((g : Gap) × Among g gs × IsInRun g d.name)) → Stays all d.name ⊎ ((g : Gap) × Among g gs × IsInRun g d.name)
      by (inl m) go = inl (among_each (EventStays all) (event.Declaration d) es h.0 m).name
      by (inr m) go = go m
  told_where [] (gap old news ∷ ps) h k = absurd h
  told_where (g ∷ gs) (gap old news ∷ ps) h k = by (among_both (event.Declaration d) old (told_before ps) k) (told_where gs ps h.2)
    where
      on : Stays all d.name ⊎ ((f : Gap) × Among f gs × IsInRun f d.name) → Stays all d.name ⊎ ((f : Gap) × Among f (g ∷ gs) × IsInRun f d.name)
      on (inl s) = inl s
      on (inr (f, m, r)) = inr (f, inr m, r)

      by : Among (event.Declaration d) old ⊎ Among (event.Declaration d) (told_before ps) → (Among (event.Declaration d) (told_before ps) → Stays all d.name ⊎ ((f : Gap) × Among f gs × IsInRun f d.name)) → Stays all d.name ⊎ ((f : Gap) × Among f (g ∷ gs) × IsInRun f d.name)
      by (inl m) go = inr (g, inl refl, (among_each (EventGoes g h.0.block h.0.end) (event.Declaration d) old h.0.each m).name)
      by (inr m) go = on (go m)

  -- One of the first run is told there; and one of a later run behind it.
  told_here : (g : Gap) (gs : List Gap) (ps : List Piece) (old : List Event) (i j : ℕ) → Ascending i (ranges (g ∷ gs)) j → Among g all → IsInRun g d.name → AllStay P v all gs ps → Among (event.Declaration d) (old ++ told_before ps) → Among (event.Declaration d) old
  told_here g gs ps old i j asc m r h k = by (among_both (event.Declaration d) old (told_before ps) k)
    where
      out : Stays all d.name ⊎ ((f : Gap) × Among f gs × IsInRun f d.name) → Among (event.Declaration d) old
      out (inl s) = absurd (stays_out all g d.name m s r)
      out (inr (f, n, q)) = absurd (let low : g.upto ≤ f.from = (ascend_member gs g.upto j asc.2 f n).0 in let le : f.from ≤ d.name = q.0 in let lt : d.name < g.upto = r.1 in omega (arith, low, le, lt))

      by : Among (event.Declaration d) old ⊎ Among (event.Declaration d) (told_before ps) → Among (event.Declaration d) old
      by (inl n) = n
      by (inr n) = out (told_where gs ps h n)

  told_later : (f g : Gap) (gs : List Gap) (ps : List Piece) (old : List Event) (i j : ℕ) → Ascending i (ranges (g ∷ gs)) j → Among f gs → IsInRun f d.name → ((m : Among (event.Declaration d) old) → IsInRun g d.name) → Among (event.Declaration d) (old ++ told_before ps)
      → Among (event.Declaration d) (told_before ps)
  told_later f g gs ps old i j asc m r h k = by (among_both (event.Declaration d) old (told_before ps) k)
    where
      by : Among (event.Declaration d) old ⊎ Among (event.Declaration d) (told_before ps) → Among (event.Declaration d) (told_before ps)
      by (inl n) = absurd (let q = h n in let low : g.upto ≤ f.from = (ascend_member gs g.upto j asc.2 f m).0 in let le : f.from ≤ d.name = r.0 in let lt : d.name < g.upto = q.1 in omega (arith, low, le, lt))
      by (inr n) = n

  told_behind_it : (f : Gap) (es : List Event) (ps : List Piece) → Among f all → IsInRun f d.name → EachEvent (EventStays all) es → Among (event.Declaration d) (es ++ told_before ps) → Among (event.Declaration d) (told_before ps)
  told_behind_it f es ps m r h k = by (among_both (event.Declaration d) es (told_before ps) k)
    where
      by : Among (event.Declaration d) es ⊎ Among (event.Declaration d) (told_before ps) → Among (event.Declaration d) (told_before ps)
      by (inl n) = absurd (stays_out all f d.name m (among_each (EventStays all) (event.Declaration d) es h n).name r)
      by (inr n) = n

-- ---- what is declared

-- the same variables, by what the run tells
each_told : (a : Alone) (g : Gap) (es old : List Event) (w : ℕ → List ℕ) (m : ℕ → Option Meant) (b i : ℕ) (ys : List (List ℕ)) (ts : TypeRow) (zs : List Redeclared) (xs : List (List ℕ)) (gs : List Argument)
    → ((d : Declaration) → Among (event.Declaration d) es → IsInRun g d.name → Among (event.Declaration d) old) → DeclaresEach a g es w m b i ys ts zs xs gs → DeclaresEach a g old w m b i ys ts zs xs gs
each_told a g es old w m b i (y ∷ ys) (types.more t ts) (z ∷ zs) xs gs f h =
    let one : DeclaresOne a g es b (suc i) (last (type_tree (suc (suc i)) t)) z = h.0 in (
      record {
        was = one.was;
        told = f one.was one.told one.within;
        within = one.within;
        named = one.named;
        new = one.new;
        variable = one.variable;
        beyond = one.beyond;
        text = one.text;
        order = one.order;
        at = one.at;
        ends = one.ends;
        before = one.before;
      },
      h.1,
      each_told a g es old w m b (suc (last (type_tree (suc (suc i)) t))) ys ts zs xs gs f h.2,
    )
each_told a g es old w m b i [] ts [] xs gs f h = h
each_told a g es old w m b i [] ts (z ∷ zs) xs gs f h = absurd h
each_told a g es old w m b i (y ∷ ys) types.none zs xs gs f h = absurd h
each_told a g es old w m b i (y ∷ ys) (types.more t ts) [] xs gs f h = absurd h

-- the tokens rise
tokens_behind : (a : Alone) (g : Gap) (es : List Event) (w : ℕ → List ℕ) (m : ℕ → Option Meant) (b i : ℕ) (ys : List (List ℕ)) (ts : TypeRow) (zs : List Redeclared) (xs : List (List ℕ)) (gs : List Argument)
    → DeclaresEach a g es w m b i ys ts zs xs gs → (z : Redeclared) → Among z zs → i < b + z.token
tokens_behind a g es w m b i (y ∷ ys) (types.more t ts) (z ∷ zs) xs gs h x (inl e) =
    let at : suc i ≡ b + z.token = h.0.at in
    let same : x.token ≡ z.token = ap (λ (r : Redeclared). r.token) e in
    omega (arith, at, same)
tokens_behind a g es w m b i (y ∷ ys) (types.more t ts) (z ∷ zs) xs gs h x (inr k) =
    let at : suc i ≡ b + z.token = h.0.at in
    let ends : last (type_tree (suc (suc i)) t) ≡ b + z.begins = h.0.ends in
    let order : z.token < z.begins = h.0.order in
    let later : suc (last (type_tree (suc (suc i)) t)) < b + x.token = tokens_behind a g es w m b (suc (last (type_tree (suc (suc i)) t))) ys ts zs xs gs h.2 x k in
    omega (arith, at, ends, order, later)
tokens_behind a g es w m b i [] ts [] xs gs h x k = absurd k
tokens_behind a g es w m b i [] ts (z ∷ zs) xs gs h x k = absurd h
tokens_behind a g es w m b i (y ∷ ys) types.none zs xs gs h x k = absurd h
tokens_behind a g es w m b i (y ∷ ys) (types.more t ts) [] xs gs h x k = absurd k

tokens_once : (a : Alone) (g : Gap) (es : List Event) (w : ℕ → List ℕ) (m : ℕ → Option Meant) (b i : ℕ) (ys : List (List ℕ)) (ts : TypeRow) (zs : List Redeclared) (xs : List (List ℕ)) (gs : List Argument)
    → DeclaresEach a g es w m b i ys ts zs xs gs → (x y : Redeclared) → Among x zs → Among y zs → x.token ≡ y.token → x ≡ y
tokens_once a g es w m b i (n ∷ ns) (types.more t ts) (z ∷ zs) xs gs h x y (inl e) (inl f) s = e ∙ sym f
tokens_once a g es w m b i (n ∷ ns) (types.more t ts) (z ∷ zs) xs gs h x y (inl e) (inr l) s = absurd (
    let at : suc i ≡ b + z.token = h.0.at in
    let ends : last (type_tree (suc (suc i)) t) ≡ b + z.begins = h.0.ends in
    let order : z.token < z.begins = h.0.order in
    let same : x.token ≡ z.token = ap (λ (r : Redeclared). r.token) e in
    let later : suc (last (type_tree (suc (suc i)) t)) < b + y.token = tokens_behind a g es w m b (suc (last (type_tree (suc (suc i)) t))) ns ts zs xs gs h.2 y l in
    omega (arith, at, ends, order, same, later, s))
tokens_once a g es w m b i (n ∷ ns) (types.more t ts) (z ∷ zs) xs gs h x y (inr k) (inl f) s = absurd (
    let at : suc i ≡ b + z.token = h.0.at in
    let ends : last (type_tree (suc (suc i)) t) ≡ b + z.begins = h.0.ends in
    let order : z.token < z.begins = h.0.order in
    let same : y.token ≡ z.token = ap (λ (r : Redeclared). r.token) f in
    let later : suc (last (type_tree (suc (suc i)) t)) < b + x.token = tokens_behind a g es w m b (suc (last (type_tree (suc (suc i)) t))) ns ts zs xs gs h.2 x k in
    omega (arith, at, ends, order, same, later, s))
tokens_once a g es w m b i (n ∷ ns) (types.more t ts) (z ∷ zs) xs gs h x y (inr k) (inr l) s = tokens_once a g es w m b (suc (last (type_tree (suc (suc i)) t))) ns ts zs xs gs h.2 x y k l s
tokens_once a g es w m b i [] ts [] xs gs h x y k l s = absurd k
tokens_once a g es w m b i [] ts (z ∷ zs) xs gs h x y k l s = absurd h
tokens_once a g es w m b i (n ∷ ns) types.none zs xs gs h x y k l s = absurd h
tokens_once a g es w m b i (n ∷ ns) (types.more t ts) [] xs gs h x y k l s = absurd k

-- ---- the site

module _ (tells : Tells) (tell : TellPieces) (ts us : List TokenKind) (a : Alone) (outer : Outer) (gaps : List Gap) (new : Alone) (h : IsRewritten ts us a gaps new) (calls : Gap → Call) (c : CallsAsked us a outer gaps new h.patch calls) where
  abbrev v : ℕ → ℕ
  v = moved_by gaps

  abbrev P : ℕ → Trees → Type 0
  P = CallInPlace us gaps calls

  asc : Ascending 1 (ranges gaps) (length a.texts)
  asc = gaps_ascend tells ts us a gaps new h

  -- what each of these runs declares is told there
  abbrev AllTold : List Gap → List Piece → Type 0
  AllTold gs ps = (g : Gap) → Among g gs → (d : Declaration) → Among (event.Declaration d) (function_events a) → IsInRun g d.name → Among (event.Declaration d) (told_before ps)

  walk : (gs : List Gap) (ps : List Piece) (i j : ℕ) → Ascending i (ranges gs) j → ((g : Gap) → Among g gs → Among g gaps) → AllStay P v gaps gs ps → AllTold gs ps → AllTell a new gaps gs ps
  walk gs [] i j s into k f = tt
  walk gs (stays es ∷ ps) i j s into k f = walk gs ps i j s into k.1 (λ g m d n r. told_behind_it P v gaps d g es ps (into g m) r k.0 (f g m d n r))
  walk [] (gap old news ∷ ps) i j s into k f = absurd k
  walk (g ∷ gs) (gap old news ∷ ps) i j s into k f =
      let m : Among g gaps = into g (inl refl) in
      let x = k.1.0 in
      let place = k.1.1 g m refl in (
        gap_tells us v g old news x a new (gap_in_front gaps 1 (length a.texts) x.context.end asc g m x.within)
            (asked a v g old new news x us (calls g) (record {
              trees = place.0;
              derive = place.1;
              each =
                  each_told a g (function_events a) old (gap_text g (v g.from)) (gap_means g (v g.from)) (v g.from) (v g.from) (calls g).declared (calls g).types g.declared (calls g).results (calls g).arguments
                  (λ d n r. told_here P v gaps d g gs ps old i j s m r k.2 (f g (inl refl) d n r)) (c.mean.each g m);
              fields = c.mean.fields g m;
            })),
        walk gs ps g.upto j s.2 (λ y n. into y (inr n)) k.2
            (λ y n d o r. told_later P v gaps d y g gs ps old i j s n r (λ e. (among_each (EventGoes g k.0.block k.0.end) (event.Declaration d) old k.0.each e).name) (f y (inr n) d o r)),
      )

  pub call_site : IsSite a outer gaps new
  call_site = is_site tells ts us a gaps new h outer (record {
    tell = walk gaps (pieces v (file_context 0) a.tree h.patch) 1 (length a.texts) asc (λ g m. m)
        (function_stays P ts tells gaps v a.tree h.patch h.function.function h.function.derives h.lists h.places c.trees) (λ g m d n r. subst (Among (event.Declaration d)) before n);
    says = c.mean.says;
    needed = c.mean.needed;
    once = λ g m y z k l e. by g m y z k l e;
    reuses = c.mean.reuses;
    used = c.mean.used;
  })
    where
      before : function_events a ≡ told_before (pieces v (file_context 0) a.tree h.patch)
      before =
          (tell v (file_context 0) a.tree h.patch
          (function_replaces v ts a.tree h.patch h.function.function h.function.derives
          (name_kept gaps (first a.tree) (last a.tree) (function_gaps ts gaps a.tree h.patch h.function.function h.function.derives h.lists h.places) (derives_grows ts a.tree category.Declaration h.function.derives)) h.lists)).before

      by : (g : Gap) → Among g gaps → (y z : Redeclared) → Among y g.declared → Among z g.declared → (y.old ≡ z.old) ⊎ (y.token ≡ z.token) → y ≡ z
      by g m y z k l (inl e) = c.mean.once g m y z k l e
      by g m y z k l (inr e) = tokens_once a g (function_events a) (gap_text g (v g.from)) (gap_means g (v g.from)) (v g.from) (v g.from) (calls g).declared (calls g).types g.declared (calls g).results (calls g).arguments (c.mean.each g m) y z k l e
