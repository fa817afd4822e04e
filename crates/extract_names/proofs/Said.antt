-- The names of gaps mean what they have to.
use Rattle.std.proofs.Common.{◌≡◌, ◌∙◌, ℕ, zero, suc, ◌+◌, ◌<◌, ◌≤◌, ◌⊎◌, inl, inr, Bool, true, false, List, [], ◌∷◌, length, map, Option, Some, None, refl, sym, ap, subst, arith}
use Rattle.std.specs.Prelude.{if◌then◌else◌, ◌&&◌, not, nat_eq, nat_le, nat_lt, slice_get}
use Rattle.go_tokens.specs.Spellings.{same_text}
use Rattle.go_tokens.proofs.Public.{same_text-true}
use Rattle.go_rewriting.specs.Places.{become}
use Rattle.go_tree.specs.declared.event.Declaration.{Declaration}
use Rattle.go_tree.specs.declared.event.Event.{Event}
use Rattle.go_tree.specs.declared.event.Event.TheVariants as event
use Rattle.go_tree.specs.Contexts.{is_package, file_context}
use Rattle.go_tree.specs.Declarations.{Found, is_reused, may_be_reused}
use Rattle.go_tree.specs.Units.{is_blank}
use Rattle.go_scopes_events.specs.Orders.{AreInOrder}
use Rattle.go_heads.specs.Functions.{Alone}
use Rattle.go_heads.specs.Names.{text_there, own_text, found_by, own_names, own_declarations}
use Rattle.go_heads.proofs.Public.{Every, every_map, every_new}
use Rattle.go_scopes_bodies.specs.Carried.{carried_event}
use Rattle.go_scopes_bodies.specs.Faults.{own_second_declarations}
use Rattle.go_scopes_bodies.specs.Meant.{Meant, Outer, own_meant, own_object}
use Rattle.extract_names.specs.Gaps.{Redeclared, Gap, moved_by, Among, AreApart, AtEdge}
use Rattle.extract_names.specs.Pieces.{Piece, stays, gap, told_before, told_behind, TellsPieces}
use Rattle.extract_names.specs.Sites.{found_as, declared_at, EventStays, AllStand, SaysOuter, SaysDeclared, Says, IsNamed, IsSite, token_in, declared_behind, renamed}
use Rattle.extract_names.proofs.Edges.{eq_true, is_le, not_le, is_lt, not_lt, is_eq, not_eq, rises, upto_moved, placed, mono, Placed}
use Rattle.extract_names.proofs.Founds.{RiseFrom, find, find_self, hit, innermost_of, Which, untold, looked_up, declaring, which, pick, first_of_two, object_is, by_found, meant_is}
use Rattle.extract_names.proofs.Rows.{both_true, and_true, on_off, not_on, hit_tells, hit_told, every_among, Row, same, other, new_row, placed_at, Again, GapStands, RowsStand, LieAlike, Side, Sides, nothing, Reaching, gap_fold}
use Rattle.extract_names.proofs.Replaced.{among_left, among_right, among_new, among_found, carried_local}
use Rattle.extract_names.proofs.Replaced as replaced
use Rattle.extract_names.proofs.Kept as kept

-- ---- two gaps

after : (gs : List Gap) (i : ℕ) → AreApart i gs → (g : Gap) → Among g gs → (i ≤ g.from) × (g.from < g.upto)
after [] i h g k = absurd k
after (f ∷ gs) i h g (inl e) = subst (λ (x : Gap). (i ≤ x.from) × (x.from < x.upto)) (sym e) (h.0, h.1)
after (f ∷ gs) i h g (inr k) =
    let r = after gs f.upto h.3 g k in
    let a : i ≤ f.from = h.0 in
    let b : f.from < f.upto = h.1 in
    let c : f.upto ≤ g.from = r.0 in
    (omega (arith, a, b, c), r.1)

pub data TwoGaps (g h : Gap) : Type 0 where
  one_gap : g ≡ h → TwoGaps g h
  in_front : g.upto ≤ h.from → TwoGaps g h
  behind : h.upto ≤ g.from → TwoGaps g h

pub two_gaps : (gs : List Gap) (i : ℕ) → AreApart i gs → (g h : Gap) → Among g gs → Among h gs → TwoGaps g h
two_gaps [] i p g h k l = absurd k
two_gaps (f ∷ gs) i p g h (inl e) (inl d) = one_gap (e ∙ sym d)
two_gaps (f ∷ gs) i p g h (inl e) (inr l) = in_front (subst (λ (x : Gap). x.upto ≤ h.from) (sym e) (after gs f.upto p.3 h l).0)
two_gaps (f ∷ gs) i p g h (inr k) (inl d) = behind (subst (λ (x : Gap). x.upto ≤ g.from) (sym d) (after gs f.upto p.3 g k).0)
two_gaps (f ∷ gs) i p g h (inr k) (inr l) = two_gaps gs f.upto p.3 g h k l

-- ---- what is told of a token

which_named : (t : ℕ) (es : List Event) → IsNamed t es → which t es ≡ untold → ⊥
which_named t [] k e = absurd k
which_named t (event.Declaration d ∷ es) k e = by (nat_eq d.name t) refl k e (which_named t es)
  where
    by : (b : Bool) → nat_eq d.name t ≡ b → (d.name ≡ t) ⊎ IsNamed t es → (if b then declaring else which t es) ≡ untold → (IsNamed t es → which t es ≡ untold → ⊥) → ⊥
    by true q k e go = cc
    by false q (inl n) e go = on_off (nat_eq d.name t) (is_eq d.name t n) q
    by false q (inr k) e go = go k e
which_named t (event.Use u ∷ es) k e = by (nat_eq u.name t) refl k e (which_named t es)
  where
    by : (b : Bool) → nat_eq u.name t ≡ b → (u.name ≡ t) ⊎ IsNamed t es → (if b then looked_up else which t es) ≡ untold → (IsNamed t es → which t es ≡ untold → ⊥) → ⊥
    by true q k e go = cc
    by false q (inl n) e go = on_off (nat_eq u.name t) (is_eq u.name t n) q
    by false q (inr k) e go = go k e
which_named t (event.Import i ∷ es) k e = which_named t es k e
which_named t (event.Member m g i ∷ es) k e = which_named t es k e
which_named t (event.Bodiless i j ∷ es) k e = which_named t es k e
which_named t (event.Statement i j ∷ es) k e = which_named t es k e
which_named t (event.Misplaced i j ∷ es) k e = which_named t es k e
which_named t (event.SecondDefault i ∷ es) k e = which_named t es k e

which_declares : (t : ℕ) (es : List Event) → which t es ≡ declaring → (d : Declaration) × Among (event.Declaration d) es × (d.name ≡ t)
which_declares t [] e = cc
which_declares t (event.Declaration d ∷ es) e = by (nat_eq d.name t) refl e (which_declares t es)
  where
    by : (b : Bool) → nat_eq d.name t ≡ b → (if b then declaring else which t es) ≡ declaring → (which t es ≡ declaring → (x : Declaration) × Among (event.Declaration x) es × (x.name ≡ t)) → (x : Declaration) × Among (event.Declaration x) (event.Declaration d ∷ es) × (x.name ≡ t)
    by true q e go = (d, inl refl, eq_true d.name t q)
    by false q e go = let y = go e in (y.0, inr y.1, y.2)
which_declares t (event.Use u ∷ es) e = by (nat_eq u.name t) e (which_declares t es)
  where
    by : (b : Bool) → (if b then looked_up else which t es) ≡ declaring → (which t es ≡ declaring → (x : Declaration) × Among (event.Declaration x) es × (x.name ≡ t)) → (x : Declaration) × Among (event.Declaration x) (event.Use u ∷ es) × (x.name ≡ t)
    by true e go = cc
    by false e go = let y = go e in (y.0, inr y.1, y.2)
which_declares t (event.Import i ∷ es) e = let y = which_declares t es e in (y.0, inr y.1, y.2)
which_declares t (event.Member m g i ∷ es) e = let y = which_declares t es e in (y.0, inr y.1, y.2)
which_declares t (event.Bodiless i j ∷ es) e = let y = which_declares t es e in (y.0, inr y.1, y.2)
which_declares t (event.Statement i j ∷ es) e = let y = which_declares t es e in (y.0, inr y.1, y.2)
which_declares t (event.Misplaced i j ∷ es) e = let y = which_declares t es e in (y.0, inr y.1, y.2)
which_declares t (event.SecondDefault i ∷ es) e = let y = which_declares t es e in (y.0, inr y.1, y.2)

-- a token that is declared is told so: no name stands there in front
which_declared : (i j : ℕ) (es : List Event) → AreInOrder i j es → (d : Declaration) → Among (event.Declaration d) es → which d.name es ≡ declaring
which_declared i j [] h d k = absurd k
which_declared i j (event.Declaration x ∷ es) h d (inl e) = let n : x.name ≡ d.name = cc in ap (λ b. if b then declaring else which d.name es) (is_eq x.name d.name n)
which_declared i j (event.Declaration x ∷ es) h d (inr k) =
    let lt : suc x.name ≤ d.name = replaced.name_low (suc x.name) j es h.1 d k in
    ap (λ b. if b then declaring else which d.name es) (not_eq x.name d.name (λ e. omega (arith, lt, e))) ∙ which_declared (suc x.name) j es h.1 d k
which_declared i j (event.Use u ∷ es) h d (inl e) = cc
which_declared i j (event.Use u ∷ es) h d (inr k) =
    let lt : suc u.name ≤ d.name = replaced.name_low (suc u.name) j es h.1 d k in
    ap (λ b. if b then looked_up else which d.name es) (not_eq u.name d.name (λ e. omega (arith, lt, e))) ∙ which_declared (suc u.name) j es h.1 d k
which_declared i j (event.Import x ∷ es) h d (inl e) = cc
which_declared i j (event.Import x ∷ es) h d (inr k) = which_declared i j es h d k
which_declared i j (event.Member m g x ∷ es) h d (inl e) = cc
which_declared i j (event.Member m g x ∷ es) h d (inr k) = which_declared i j es h d k
which_declared i j (event.Bodiless x y ∷ es) h d (inl e) = cc
which_declared i j (event.Bodiless x y ∷ es) h d (inr k) = which_declared i j es h d k
which_declared i j (event.Statement x y ∷ es) h d (inl e) = cc
which_declared i j (event.Statement x y ∷ es) h d (inr k) = which_declared i j es h d k
which_declared i j (event.Misplaced x y ∷ es) h d (inl e) = cc
which_declared i j (event.Misplaced x y ∷ es) h d (inr k) = which_declared i j es h d k
which_declared i j (event.SecondDefault x ∷ es) h d (inl e) = cc
which_declared i j (event.SecondDefault x ∷ es) h d (inr k) = which_declared i j es h d k

-- what is found is spelled as its token
spelled : (w : ℕ → List ℕ) (es : List Event) → Every (λ d. d.name ≡ w d.it.name) (found_by w es)
spelled w [] = tt
spelled w (event.Declaration d ∷ es) = (refl, spelled w es)
spelled w (event.Use u ∷ es) = spelled w es
spelled w (event.Import k ∷ es) = spelled w es
spelled w (event.Member m g k ∷ es) = spelled w es
spelled w (event.Bodiless k l ∷ es) = spelled w es
spelled w (event.Statement k l ∷ es) = spelled w es
spelled w (event.Misplaced k l ∷ es) = spelled w es
spelled w (event.SecondDefault k ∷ es) = spelled w es

same_refl : (w : List ℕ) → same_text w w ≡ true
same_refl [] = refl
same_refl (x ∷ xs) = and_true (nat_eq x x) (same_text xs xs) (is_eq x x refl) (same_refl xs)

module _ (a new : Alone) (outer : Outer) (gaps : List Gap) (site : IsSite a outer gaps new) (told : TellsPieces (moved_by gaps) (file_context 0) a.tree site.patch (become (moved_by gaps) a.tree site.patch)) (free : own_second_declarations a ≡ []) where
  abbrev v : ℕ → ℕ
  v = moved_by gaps

  abbrev old_events : List Event
  old_events = replaced.old_events a new outer gaps site told

  abbrev new_events : List Event
  new_events = replaced.new_events a new outer gaps site told

  abbrev all : List Row
  all = replaced.rows a new outer gaps site told

  abbrev InGap : Gap → List Event → List Event → Type 0
  InGap g old news = replaced.InGap a new outer gaps site told g old news

  up : (x y : ℕ) → AtEdge gaps x → AtEdge gaps y → x < y → v x < v y
  up = rises gaps 1 site.apart

  stand : RowsStand v gaps 1 all
  stand = replaced.all_rows a new outer gaps site told free

  abbrev D : List Found
  D = own_declarations a

  abbrev E : List Found
  E = own_declarations new

  abbrev rename : Option Meant → Option Meant
  rename o = renamed a gaps new o

  -- each gap has a piece
  gap_at : (ps : List Piece) (gs : List Gap) → AllStand a new gaps gs ps → ((g : Gap) → Among g gs → Among g gaps) → ((e : Event) → Among e (told_before ps) → Among e old_events) → ((e : Event) → Among e (told_behind v ps) → Among e new_events)
      → (g : Gap) → Among g gs → (old : List Event) × (news : List Event) × InGap g old news
  gap_at [] gs h into f k g m = absurd (subst (Among g) h m)
  gap_at (stays es ∷ ps) gs h into f k g m = gap_at ps gs h.1 into (λ x n. f x (among_right x es (told_before ps) n)) (λ x n. k x (among_right x (map (carried_event v) es) (told_behind v ps) n)) g m
  gap_at (gap old news ∷ ps) [] h into f k g m = absurd h
  gap_at (gap old news ∷ ps) (g0 ∷ gs) h into f k g (inl e) =
      (old, news, subst (λ x. InGap x old news) (sym e) (record { listed = into g0 (inl refl); goes = h.0; tells = h.1; from_old = λ x q. f x (among_left x old (told_before ps) q); from_new = λ x q. k x (among_left x news (told_behind v ps) q) }))
  gap_at (gap old news ∷ ps) (g0 ∷ gs) h into f k g (inr m) =
      gap_at ps gs h.2 (λ x n. into x (inr n)) (λ x n. f x (among_right x old (told_before ps) n)) (λ x n. k x (among_right x news (told_behind v ps) n)) g m

  pub piece_of : (g : Gap) → Among g gaps → (old : List Event) × (news : List Event) × InGap g old news
  piece_of g k =
      gap_at (replaced.all_pieces a new outer gaps site told) gaps site.stand (λ g k. k) (λ x n. subst (Among x) (sym (replaced.before a new outer gaps site told)) n)
      (λ x n. subst (Among x) (sym (replaced.behind a new outer gaps site told)) n) g k

  spelled_new : Every (λ d. d.name ≡ own_text new d.it.name) E
  spelled_new = every_new (λ d. d.name ≡ own_text new d.it.name) (own_names new) (own_names new) (spelled (own_text new) new_events)

  module _ (g0 : Gap) (k0 : Among g0 gaps) (i : ℕ) (lt0 : i < length g0.texts) where
    abbrev u : ℕ
    u = v g0.from + i

    place : Placed gaps g0
    place = (placed gaps 1 site.apart g0 k0).1

    above_it : v g0.from ≤ u
    above_it = omega arith

    moved0 : v g0.upto ≡ v g0.from + length g0.texts
    moved0 = upto_moved gaps 1 site.apart g0 k0

    below_it : u < v g0.upto
    below_it = let m : v g0.upto ≡ v g0.from + length g0.texts = moved0 in omega (arith, m, lt0)

    edge_of : (x : ℕ) (g : Gap) (gs : List Gap) → AtEdge gs x → Among g gs → (x ≤ g.from) ⊎ (g.upto ≤ x)
    edge_of x g [] h k = absurd k
    edge_of x g (f ∷ gs) h (inl q) = subst (λ (z : Gap). (x ≤ z.from) ⊎ (z.upto ≤ x)) (sym q) h.0
    edge_of x g (f ∷ gs) h (inr k) = edge_of x g gs h.1 k

    said_alike : LieAlike v gaps g0.from u
    said_alike = record { from = λ x e. from_by x e (edge_of x g0 gaps e k0); to = λ x e. to_by x e (edge_of x g0 gaps e k0) }
      where
        beyond : (x : ℕ) → AtEdge gaps x → g0.upto ≤ x → u < v x
        beyond x e le = let m : v g0.upto ≤ v x = mono v (AtEdge gaps) up g0.upto x place.upto e le in let z : v g0.upto ≡ v g0.from + length g0.texts = moved0 in omega (arith, m, z, lt0)

        from_by : (x : ℕ) → AtEdge gaps x → (x ≤ g0.from) ⊎ (g0.upto ≤ x) → nat_le (v x) u ≡ nat_le x g0.from
        from_by x e (inl le) = let m : v x ≤ v g0.from = mono v (AtEdge gaps) up x g0.from e place.from le in is_le (v x) u (omega (arith, m)) ∙ sym (is_le x g0.from le)
        from_by x e (inr le) = let w : g0.from < g0.upto = place.wide in not_le (v x) u (beyond x e le) ∙ sym (not_le x g0.from (omega (arith, w, le)))

        to_by : (x : ℕ) → AtEdge gaps x → (x ≤ g0.from) ⊎ (g0.upto ≤ x) → nat_lt u (v x) ≡ nat_lt g0.from x
        to_by x e (inl le) = let m : v x ≤ v g0.from = mono v (AtEdge gaps) up x g0.from e place.from le in not_lt u (v x) (omega (arith, m)) ∙ sym (not_lt g0.from x le)
        to_by x e (inr le) = let w : g0.from < g0.upto = place.wide in is_lt u (v x) (beyond x e le) ∙ sym (is_lt g0.from x (omega (arith, w, le)))

    -- a gap in front of it or behind it
    far_side : (w : List ℕ) (g : Gap) (old news : List Found) → GapStands v gaps g old news → (g.upto ≤ g0.from) ⊎ (g0.upto ≤ g.from) → Side v gaps g0.from u w g news
    far_side w g old news s (inl le) = let m : v g.upto ≤ v g0.from = mono v (AtEdge gaps) up g.upto g0.from s.placed.upto place.from le in inr (le, omega (arith, m))
    far_side w g old news s (inr le) =
        let wide : g0.from < g0.upto = place.wide in
        let m : v g0.upto ≤ v g.from = mono v (AtEdge gaps) up g0.upto g.from place.upto s.placed.from le in
        let z : v g0.upto ≡ v g0.from + length g0.texts = moved0 in
        inl (
          omega (arith, le, wide),
          every_map (Again v gaps g old) (λ d. hit u w d ≡ false) news (λ d x. not_on (hit u w d) (λ h.
              let f : d.it.scope.from ≤ u = (hit_tells u w d h).from in
              let n : d.it.scope.from ≡ v g.from + x.again.begins = x.from in
              omega (arith, f, n, m, z, lt0))) s.again,
        )

    -- its own gap, where no local of this name is in scope
    abbrev Hidden : List ℕ → Type 0
    Hidden w = (z : Redeclared) → Among z g0.declared → z.begins ≤ i → text_there (slice_get g0.texts z.token) ≡ w → ⊥

    own_side : (w : List ℕ) → Hidden w → (old news : List Found) → GapStands v gaps g0 old news → ((d : Found) → Among d news → Among d E) → Side v gaps g0.from u w g0 news
    own_side w hidden old news s into = inl (omega arith, off news s.again into)
      where
        one_off : (d : Found) → Again v gaps g0 old d → Among d E → hit u w d ≡ false
        one_off d x k = not_on (hit u w d) (λ h.
            let t = hit_tells u w d h in
            let f : d.it.scope.from ≤ u = t.from in
            let n : d.it.scope.from ≡ v g0.from + x.again.begins = x.from in
            let b : x.again.token < x.again.begins = x.behind in
            let c : x.again.begins ≤ length g0.texts = x.before in
            hidden x.again x.listed (omega (arith, f, n))
            (sym (site.new_texts g0 k0 x.again.token (omega (arith, b, c))) ∙ ap (own_text new) (sym x.name) ∙ sym (every_among (λ d. d.name ≡ own_text new d.it.name) d E spelled_new k) ∙ same_text-true d.name w t.text))

        off : (ds : List Found) → Every (Again v gaps g0 old) ds → ((d : Found) → Among d ds → Among d E) → Every (λ d. hit u w d ≡ false) ds
        off [] h f = tt
        off (d ∷ ds) h f = (one_off d h.0 (f d (inl refl)), off ds h.1 (λ e k. f e (inr k)))

    said_side : (w : List ℕ) → Hidden w → (g : Gap) (old news : List Found) → GapStands v gaps g old news → ((d : Found) → Among d news → Among d E) → Side v gaps g0.from u w g news
    said_side w hidden g old news s into = by (two_gaps gaps 1 site.apart g g0 s.listed k0)
      where
        by : TwoGaps g g0 → Side v gaps g0.from u w g news
        by (one_gap e) = subst (λ z. Side v gaps g0.from u w z news) (sym e) (own_side w hidden old news (subst (λ z. GapStands v gaps z old news) e s) into)
        by (in_front le) = far_side w g old news s (inl le)
        by (behind le) = far_side w g old news s (inr le)

    said_sides : (w : List ℕ) → Hidden w → (rs : List Row) (j : ℕ) → RowsStand v gaps j rs → ((d : Found) → Among d (new_row v gaps rs) → Among d E) → Sides v gaps g0.from u w rs
    said_sides w hidden [] j h f = tt
    said_sides w hidden (same ds ∷ rs) j h f = said_sides w hidden rs j h.1 (λ d k. f d (among_right d (map (placed_at v gaps) ds) (new_row v gaps rs) k))
    said_sides w hidden (other g old news ∷ rs) j h f = (said_side w hidden g old news h.1 (λ d k. f d (among_left d news (new_row v gaps rs) k)), said_sides w hidden rs g.upto h.2 (λ d k. f d (among_right d news (new_row v gaps rs) k)))

    into_new : (d : Found) → Among d (new_row v gaps all) → Among d E
    into_new d k = subst (Among d) (sym (replaced.new_whole a new outer gaps site told)) k

    -- ---- a name that means what it means in front of the run

    outer_meant : (w : List ℕ) (s : SaysOuter a outer g0 i w) (o : Meant) → g0.means i ≡ Some o → own_meant new outer u w ≡ rename (g0.means i)
    outer_meant w s o e = by (kept.meant_alike a new outer gaps site told free g0.from u w said_alike (said_sides w s.hidden all 1 stand into_new))
      where
        by : kept.Outcome a new outer gaps site told free g0.from u w → own_meant new outer u w ≡ rename (g0.means i)
        by (inl q) = q ∙ ap rename s.meant
        by (inr k) = let y = site.needed k.gap k.listed k.token k.in_run k.it k.declared (inr (g0, i, k0, lt0, sym s.meant ∙ k.meant)) in absurd (k.gone y.0 y.1 y.2)

    abbrev w0 : List ℕ
    w0 = own_text new u

    pub new_is : own_object new outer u ≡ pick (which u new_events) (own_meant new outer u w0) (first_of_two (declared_at new u) (own_meant new outer u w0))
    new_is = object_is new outer u (own_meant new outer u w0) w0 refl

    -- what is declared at the token is a local of its gap
    declared_here : which u new_events ≡ declaring → (z : Redeclared) × Among z g0.declared × (z.token ≡ i)
    declared_here e = let y = which_declares u new_events e in by y.0 y.2 (replaced.old_or_new a new outer gaps site told (event.Declaration y.0) y.1)
      where
        remains : (d : Declaration) (x : Event) → d.name ≡ u → event.Declaration d ≡ carried_event v x → EventStays gaps x → ⊥
        remains d (event.Declaration x) n q s = let m : d.name ≡ v x.name = cc in kept.not_new a new outer gaps site told free x.name s.name g0 u i k0 refl lt0 (sym n ∙ m)
        remains d (event.Use x) n q s = cc
        remains d (event.Import x) n q s = cc
        remains d (event.Member m g x) n q s = cc
        remains d (event.Bodiless x y) n q s = cc
        remains d (event.Statement x y) n q s = cc
        remains d (event.Misplaced x y) n q s = cc
        remains d (event.SecondDefault x) n q s = cc

        in_gap : (g : Gap) (z : Redeclared) → Among g gaps → Among z g.declared → z.token < length g.texts → u ≡ v g.from + z.token → (y : Redeclared) × Among y g0.declared × (y.token ≡ i)
        in_gap g z k l lt e = two (two_gaps gaps 1 site.apart g g0 k k0)
          where
            two : TwoGaps g g0 → (y : Redeclared) × Among y g0.declared × (y.token ≡ i)
            two (one_gap q) =
                let same : v g.from ≡ v g0.from = ap (λ (x : Gap). v x.from) q in
                (z, subst (λ (x : Gap). Among z x.declared) q l, omega (arith, e, same))
            two (in_front le) =
                let m : v g.upto ≤ v g0.from = mono v (AtEdge gaps) up g.upto g0.from (placed gaps 1 site.apart g k).1.upto place.from le in
                let n : v g.upto ≡ v g.from + length g.texts = upto_moved gaps 1 site.apart g k in
                absurd (omega (arith, m, n, e, lt))
            two (behind le) =
                let m : v g0.upto ≤ v g.from = mono v (AtEdge gaps) up g0.upto g.from place.upto (placed gaps 1 site.apart g k).1.from le in
                let n : v g0.upto ≡ v g0.from + length g0.texts = moved0 in
                absurd (omega (arith, m, n, e, lt0))

        by : (d : Declaration) → d.name ≡ u → replaced.Remained a new outer gaps site told (event.Declaration d) ⊎ replaced.Comes a new outer gaps site told (event.Declaration d) → (z : Redeclared) × Among z g0.declared × (z.token ≡ i)
        by d n (inl (x, q, s, m)) = absurd (remains d x n q s)
        by d n (inr (g, old, news, here, m)) =
            let c = replaced.came_from a new outer gaps site told g old news here d m in
            let b : c.it.again.token < c.it.again.begins = c.it.behind in
            let l : c.it.again.begins ≤ length g.texts = c.it.before in
            in_gap g c.it.again here.listed c.it.listed (omega (arith, b, l)) (sym n ∙ c.it.name)

    -- ---- a local that the gap declares

    -- the local, with its piece
    record Declares (z : Redeclared) : Type 0 where
      old : List Event
      news : List Event
      here : InGap g0 old news
      it : Declaration
      there : Among (event.Declaration it) news
      came : replaced.CameFrom a new outer gaps site told g0 old it
      again : came.it.again ≡ z

    abbrev declares_by : (old news : List Event) → InGap g0 old news → (z : Redeclared) → Among z g0.declared → Declares z
    declares_by old news here z k =
        let y = replaced.redone a new outer gaps site told g0 old news here z k in
        record { old = old; news = news; here = here; it = y.it; there = y.there; came = y.came; again = y.again }

    module _ (z : Redeclared) (l : Among z g0.declared) (y : Declares z) where
      name_is : y.it.name ≡ v g0.from + z.token
      name_is = y.came.it.name ∙ ap (λ (q : Redeclared). v g0.from + q.token) y.again

      was_is : y.came.it.was.name ≡ z.old
      was_is = y.came.it.named ∙ ap (λ (q : Redeclared). q.old) y.again

      in_old : Among (found_as a y.came.it.was) D
      in_old = among_new (own_names a) (found_as a y.came.it.was) (own_names a) y.came.it.new (among_found (own_text a) y.came.it.was old_events (y.here.from_old (event.Declaration y.came.it.was) y.came.it.told))

      in_new : Among (found_as new y.it) E
      in_new = among_new (own_names new) (found_as new y.it) (own_names new) (replaced.declares_new a new outer gaps site told g0 y.old y.it y.came) (among_found (own_text new) y.it new_events (y.here.from_new (event.Declaration y.it) y.there))

      local_new : is_package y.it.block ≡ false
      local_new = ap is_package y.came.it.block ∙ carried_local v y.came.it.was.block y.came.goes_local

      text_new : own_text new y.it.name ≡ text_there (slice_get g0.texts z.token)
      text_new =
          let b : y.came.it.again.token < y.came.it.again.begins = y.came.it.behind in
          let c : y.came.it.again.begins ≤ length g0.texts = y.came.it.before in
          ap (own_text new) y.came.it.name ∙ site.new_texts g0 k0 y.came.it.again.token (omega (arith, b, c)) ∙ ap (λ (q : Redeclared). text_there (slice_get g0.texts q.token)) y.again

      not_blank : is_blank (own_text new y.it.name) ≡ false
      not_blank =
          let b = both_true (not (is_blank (own_text a y.came.it.was.name))) (not (may_be_reused y.came.it.was.manner && is_reused (found_as a y.came.it.was) (own_names a))) y.came.it.new in
          ap is_blank y.came.text ∙ by (is_blank (own_text a y.came.it.was.name)) b.0
        where
          by : (b : Bool) → not b ≡ true → b ≡ false
          by true e = cc
          by false e = refl

      same_object : declared_at new y.it.name ≡ rename (declared_at a z.old)
      same_object =
          let f : find y.came.it.was.name D ≡ Some (found_as a y.came.it.was) = (every_among (λ d. (0 ≤ d.it.name) × (find d.it.name D ≡ Some d)) (found_as a y.came.it.was) D (find_self 0 D (replaced.rises_old a new outer gaps site told)) in_old).1 in
          let h : find y.it.name E ≡ Some (found_as new y.it) = (every_among (λ d. (0 ≤ d.it.name) × (find d.it.name E ≡ Some d)) (found_as new y.it) E (find_self 0 E (replaced.rises_new a new outer gaps site told)) in_new).1 in
          let b : declared_behind v gaps y.came.it.was.name ≡ v g0.from + token_in g0.declared y.came.it.was.name = kept.behind_gap v gaps 1 y.came.it.was.name site.apart g0 k0 y.came.goes_name in
          let t : token_in g0.declared y.came.it.was.name ≡ z.token = kept.token_is g0.declared z y.came.it.was.name l (sym was_is) (λ x m e. site.once g0 k0 x z m l (inl (e ∙ was_is))) in
          kept.objects_same a new outer gaps site told free y.came.it.was.name y.it.name (found_as a y.came.it.was) (found_as new y.it) f h (name_is ∙ ap (λ n. v g0.from + n) (sym t) ∙ sym b) (local_new ∙ sym y.came.goes_local)
          ∙ ap (λ x. rename (declared_at a x)) was_is

      -- at the token that declares it
      declared_said : z.token ≡ i → declared_at a z.old ≡ g0.means i → (o : Meant) → g0.means i ≡ Some o → own_object new outer u ≡ rename (g0.means i)
      declared_said e m o f =
          let at : y.it.name ≡ u = name_is ∙ ap (λ n. v g0.from + n) e in
          let q : which u new_events ≡ declaring = subst (λ x. which x new_events ≡ declaring) at (which_declared 0 (length new.texts) new_events site.new_order y.it (y.here.from_new (event.Declaration y.it) y.there)) in
          let r : declared_at new u ≡ rename (Some o) = ap (declared_at new) (sym at) ∙ same_object ∙ ap rename (m ∙ f) in
          new_is ∙ ap (λ x. pick x (own_meant new outer u w0) (first_of_two (declared_at new u) (own_meant new outer u w0))) q ∙ ap (λ x. first_of_two x (own_meant new outer u w0)) r ∙ sym (ap rename f)

      hits_it : z.begins ≤ i → (w : List ℕ) → text_there (slice_get g0.texts z.token) ≡ w → hit u w (found_as new y.it) ≡ true
      hits_it le w t =
          let f : y.it.scope.from ≡ v g0.from + y.came.it.again.begins = y.came.it.from in
          let b : y.came.it.again.begins ≡ z.begins = ap (λ (q : Redeclared). q.begins) y.again in
          let n : v g0.upto < v y.came.it.was.scope.to = up g0.upto y.came.it.was.scope.to place.upto y.came.goes_to y.came.it.beyond in
          let m : v g0.upto ≡ v g0.from + length g0.texts = moved0 in
          let to : y.it.scope.to ≡ v y.came.it.was.scope.to = y.came.it.to in
          hit_told u w (found_as new y.it) refl local_new (subst (λ x. same_text x w ≡ true) (sym (text_new ∙ t)) (same_refl w)) (omega (arith, f, b, le)) (omega (arith, n, m, to, lt0))

    abbrev Reached : List ℕ → Found → List Row → Type 0
    Reached w one rs = Reaching v gaps up g0 u (above_it) below_it place said_alike w one rs

    -- the rows up to the gap
    reach : (w : List ℕ) (ps : List Piece) (gs : List Gap) (j : ℕ) → AllStand a new gaps gs ps → AreApart j gs → ((g : Gap) → Among g gs → Among g gaps) → ((e : Event) → Among e (told_before ps) → Among e old_events) → ((e : Event) → Among e (told_behind v ps) → Among e new_events) → Among g0 gs
        → (old : List Event) × (news : List Event) × InGap g0 old news × ((one : Found) → Among one (replaced.new_declared a new outer gaps site told news) → hit u w one ≡ true → Reached w one (replaced.rows_of a new outer gaps site told ps gs))
    reach w [] gs j h p into f k m = absurd (subst (Among g0) h m)
    reach w (stays es ∷ ps) gs j h p into f k m = reach w ps gs j h.1 p into (λ x n. f x (among_right x es (told_before ps) n)) (λ x n. k x (among_right x (map (carried_event v) es) (told_behind v ps) n)) m
    reach w (gap old news ∷ ps) [] j h p into f k m = absurd h
    reach w (gap old news ∷ ps) (g ∷ gs) j h p into f k (inl e) = (
      old,
      news,
      subst (λ x. InGap x old news) (sym e) (record { listed = into g (inl refl); goes = h.0; tells = h.1; from_old = λ x q. f x (among_left x old (told_before ps) q); from_new = λ x q. k x (among_left x news (told_behind v ps) q) }),
      λ one c d. inr (sym e, c, d),
    )
    reach w (gap old news ∷ ps) (g ∷ gs) j h p into f k (inr m) =
        let r = reach w ps gs g.upto h.2 p.3 (λ x n. into x (inr n)) (λ x n. f x (among_right x old (told_before ps) n)) (λ x n. k x (among_right x news (told_behind v ps) n)) m in
        (r.0, r.1, r.2, λ one c d. inl ((after gs g.upto p.3 g0 m).0, r.3 one c d))

    used_meant : (z : Redeclared) → Among z g0.declared → z.begins ≤ i → w0 ≡ text_there (slice_get g0.texts z.token) → own_meant new outer u w0 ≡ rename (declared_at a z.old)
    used_meant z l le t =
        let r = reach w0 (replaced.all_pieces a new outer gaps site told) gaps 1 site.stand site.apart (λ g k. k) (λ x n. subst (Among x) (sym (replaced.before a new outer gaps site told)) n) (λ x n. subst (Among x) (sym (replaced.behind a new outer gaps site told)) n) k0 in
        let y : Declares z = declares_by r.0 r.1 r.2 z l in
        let one : Found = found_as new y.it in
        let k : Among one (replaced.new_declared a new outer gaps site told r.1) = among_new (own_names new) one (found_by (own_text new) r.1) (replaced.declares_new a new outer gaps site told g0 y.old y.it y.came) (among_found (own_text new) y.it r.1 y.there) in
        let f : innermost_of u w0 None (new_row v gaps all) ≡ Some one = gap_fold v gaps up g0 u above_it below_it place said_alike w0 one all 0 1 None None (nothing refl refl) stand (subst (RiseFrom 0) (replaced.old_whole a new outer gaps site told) (replaced.rises_old a new outer gaps site told)) (r.3 one k (hits_it z l y le w0 (sym t))) in
        let n : is_blank w0 ≡ false = ap is_blank (t ∙ sym (text_new z l y)) ∙ not_blank z l y in
        meant_is new outer 0 (replaced.rises_new a new outer gaps site told) (replaced.files_new a new outer gaps site told) u w0
        ∙ ap (λ b. if b then None else by_found new (innermost_of u w0 None E) (outer w0)) n
        ∙ ap (λ o. by_found new o (outer w0)) (ap (innermost_of u w0 None) (replaced.new_whole a new outer gaps site told) ∙ f)
        ∙ same_object z l y

    used_said : (z : Redeclared) → Among z g0.declared → z.begins ≤ i → ((x : Redeclared) → Among x g0.declared → x.token ≡ i → ⊥) → w0 ≡ text_there (slice_get g0.texts z.token) → declared_at a z.old ≡ g0.means i → IsNamed u new_events → own_object new outer u ≡ rename (g0.means i)
    used_said z l le other_one t m k = new_is ∙ by (which u new_events) refl
      where
        by : (x : Which) → which u new_events ≡ x → pick x (own_meant new outer u w0) (first_of_two (declared_at new u) (own_meant new outer u w0)) ≡ rename (g0.means i)
        by untold q = absurd (which_named u new_events k q)
        by looked_up q = used_meant z l le t ∙ ap rename m
        by declaring q = let y = declared_here q in absurd (other_one y.0 y.1 y.2)

    outer_said : (w : List ℕ) → w0 ≡ w → (s : SaysOuter a outer g0 i w) (o : Meant) → g0.means i ≡ Some o → IsNamed u new_events → own_object new outer u ≡ rename (g0.means i)
    outer_said w t s o e k = new_is ∙ by (which u new_events) refl
      where
        by : (x : Which) → which u new_events ≡ x → pick x (own_meant new outer u w0) (first_of_two (declared_at new u) (own_meant new outer u w0)) ≡ rename (g0.means i)
        by untold q = absurd (which_named u new_events k q)
        by looked_up q = ap (own_meant new outer u) t ∙ outer_meant w s o e
        by declaring q = let y = declared_here q in absurd (s.apart y.0 y.1 y.2)

    inner_said : (w : List ℕ) → w0 ≡ w → (s : SaysDeclared a g0 i w) (o : Meant) → g0.means i ≡ Some o → IsNamed u new_events → own_object new outer u ≡ rename (g0.means i)
    inner_said w t s o e k = by s.within
      where
        by : ((s.again.begins ≤ i) × ((z : Redeclared) → Among z g0.declared → z.token ≡ i → ⊥)) ⊎ (s.again.token ≡ i) → own_object new outer u ≡ rename (g0.means i)
        by (inl x) = used_said s.again s.listed x.0 x.1 (t ∙ sym s.text) s.meant k
        by (inr n) = let p = piece_of g0 k0 in declared_said s.again s.listed (declares_by p.0 p.1 p.2 s.again s.listed) n s.meant o e

  slice_some : (xs : List (List ℕ)) (i : ℕ) → i < length xs → (w : List ℕ) × (slice_get xs i ≡ Some w)
  slice_some [] i lt = absurd (omega (arith, lt))
  slice_some (x ∷ xs) zero lt = (x, refl)
  slice_some (x ∷ xs) (suc i) lt = slice_some xs i (omega (arith, lt))

  pub said : (g : Gap) (k : Among g gaps) (i : ℕ) (lt : i < length g.texts) (o : Meant) → g.means i ≡ Some o → IsNamed (v g.from + i) new_events → own_object new outer (v g.from + i) ≡ rename (Some o)
  said g k i lt o e n =
      let w = slice_some g.texts i lt in
      by w.0 (site.new_texts g k i lt ∙ ap text_there w.1) (site.says g k i w.0 w.1 o e) ∙ ap rename e
    where
      by : (w : List ℕ) → own_text new (v g.from + i) ≡ w → Says a outer g i w → own_object new outer (v g.from + i) ≡ rename (g.means i)
      by w t (inl s) = outer_said g k i lt w t s o e n
      by w t (inr s) = inner_said g k i lt w t s o e n
