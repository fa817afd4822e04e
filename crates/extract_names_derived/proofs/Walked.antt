-- Each piece of a function whose runs are replaced stands as it has to.
use Rattle.std.proofs.Common.{◌≡◌, ℕ, zero, suc, ◌<◌, ◌≤◌, ◌⊎◌, inl, inr, Bool, true, false, List, [], ◌∷◌, ◌++◌, refl, sym, ap, subst, arith}
use Rattle.std.specs.Prelude.{◌&&◌, not}
use Rattle.go_grammar.specs.declared.kind.Kind.{Kind}
use Rattle.go_grammar.specs.declared.kind.Kind.TheVariants as kind
use Rattle.go_grammar.specs.Trees.{Tree, node, Trees, none, more, skip, kind_of, first, last}
use Rattle.go_grammar.specs.Grammar.{ends_named}
use Rattle.go_rewriting.specs.Places.{Patch, Patches, keep, put, inside, done, part, run, items_behind, items_end, Range, range, places, places_in, Ascending}
use Rattle.go_tree.specs.declared.context.Context.{Context}
use Rattle.go_tree.specs.Contexts.{enter}
use Rattle.go_tree.specs.Events.{statement_events, own_events, is_more, pass, events, events_of}
use Rattle.go_scopes_events.proofs.Public.{LieIn, behind_name, lie_order, laid_grows, is_top, true_false}
use Rattle.go_scopes_bodies.specs.Listed.{list_context, is_specification}
use Rattle.extract_names.specs.Gaps.{Gap, ranges, Among, AtEdge}
use Rattle.extract_names.specs.Pieces.{leads_to_lists, pieces, row_pieces, case_pieces, list_pieces}
use Rattle.extract_names.specs.Sites.{EachEvent, EventStays}
use Rattle.extract_names_derived.specs.Patches.{InLists, InParts, InCase, InList, EachRun, EachIn}
use Rattle.extract_names_derived.proofs.Fit.{case_rises, front, AreFit, Rises, AllWords, WordsBehind, ListFits, front_from, front_below, word_front}
use Rattle.extract_names_derived.proofs.Lying.{each_event_append}
use Rattle.extract_names_derived.proofs.Stays.{Aside, edge_by}
use Rattle.extract_names_derived.proofs.Ascends.{split_gaps, no_gaps, among_append, ascend_member, ascend_tree, ascend_parts, ascend_list, lie_front, run_lies, fit_behind, rises_behind}
use Rattle.extract_names_derived.proofs.Walk.{AllStay, stay_append, Calm, calm_less, calm_falls, calm_list, calm_pass, enter_calm, IsPart, is_part, statement_part, kept, told_kept, run_told, statement_stays, own_stays}

-- each gap lies aside, or is one of these
abbrev pub Placed : List Gap → ℕ → ℕ → List Gap → Type 0
Placed all m b gs = (g : Gap) → Among g all → Aside m b g ⊎ Among g gs

none_among : (all : List Gap) (m b : ℕ) (gs : List Gap) → gs ≡ [] → Placed all m b gs → (g : Gap) → Among g all → Aside m b g
none_among all m b gs e f g a = by (f g a)
  where
    by : Aside m b g ⊎ Among g gs → Aside m b g
    by (inl x) = x
    by (inr x) = absurd (subst (Among g) e x)

-- The first token of a node with gaps inside stays, and nothing begins or ends in the middle of one.
pub node_edge : (all : List Gap) (m i j : ℕ) (gs : List Gap) → i < m → m ≤ suc i → i < j → Ascending m (ranges gs) j → Placed all m j gs → AtEdge all i × AtEdge all j
node_edge all m i j gs lo hi lt h f = (edge_by all i (λ g a. low g (f g a)), edge_by all j (λ g a. high g (f g a)))
  where
    low : (g : Gap) → Aside m j g ⊎ Among g gs → (i ≤ g.from) ⊎ (g.upto ≤ i)
    low g (inl (inl x)) = inr (omega (arith, x, hi))
    low g (inl (inr x)) = inl (omega (arith, x, lt))
    low g (inr x) = inl (omega (arith, lo, (ascend_member gs m j h g x).0))

    high : (g : Gap) → Aside m j g ⊎ Among g gs → (j ≤ g.from) ⊎ (g.upto ≤ j)
    high g (inl (inl x)) = inr (omega (arith, x, hi, lt))
    high g (inl (inr x)) = inl x
    high g (inr x) = inr (ascend_member gs m j h g x).2

-- of a row of parts from the number n on: what begins with a word may have a gap directly in front
abbrev pub RowWords : ℕ → Trees → Type 0
RowWords zero ps = WordsBehind ps
RowWords (suc n) ps = AllWords ps

abbrev pub Low : ℕ → ℕ → ℕ → Type 0
Low zero x y = y ≤ x
Low (suc n) x y = y ≤ suc x

pub low_front : (n x y : ℕ) (p : Tree) (ps : Trees) → RowWords n (more p ps) → Low n x y → x ≤ first p → y ≤ front (kind_of p) (first p)
low_front zero x y p ps w l le = omega (arith, l, le, front_from (kind_of p) (first p))
low_front (suc n) x y p ps w l le = omega (arith, l, le, word_front (kind_of p) (first p) w.0)

pub words_next : (n : ℕ) (p : Tree) (ps : Trees) → RowWords n (more p ps) → AllWords ps
words_next zero p ps w = w
words_next (suc n) p ps w = w.1

pub words_skip : (n : ℕ) (ps : Trees) → RowWords n (skip ps) → AllWords ps
words_skip zero ps w = w
words_skip (suc n) ps w = w

pub low_skip : (n x y : ℕ) → Low n x y → y ≤ suc x
low_skip zero x y l = omega (arith, l)
low_skip (suc n) x y l = l

-- a gap that lies aside of a row lies aside of its first part and of the others
aside_part : (y j : ℕ) (p : Tree) (g : Gap) → y ≤ front (kind_of p) (first p) → last p ≤ j → Aside y j g → Aside (front (kind_of p) (first p)) (last p) g
aside_part y j p g lo hi (inl x) = inl (omega (arith, x, lo))
aside_part y j p g lo hi (inr x) = inr (omega (arith, x, hi))

aside_rest : (y j : ℕ) (p : Tree) (g : Gap) → y ≤ front (kind_of p) (first p) → first p < last p → Aside y j g → Aside (suc (last p)) j g
aside_rest y j p g lo lt (inl x) = inl (omega (arith, x, lo, lt, front_below (kind_of p) (first p)))
aside_rest y j p g lo lt (inr x) = inr x

module _ (all before behind : List Gap) (y j : ℕ) (p : Tree) (lo : y ≤ front (kind_of p) (first p)) (lt : first p < last p) (hi : last p ≤ j) where
  placed_part : (k : ℕ) → Ascending (last p) (ranges behind) k → Placed all y j (before ++ behind) → Placed all (front (kind_of p) (first p)) (last p) before
  placed_part k h f g a = by (f g a)
    where
      split : Among g before ⊎ Among g behind → Aside (front (kind_of p) (first p)) (last p) g ⊎ Among g before
      split (inl x) = inr x
      split (inr x) = inl (inr (ascend_member behind (last p) k h g x).0)

      by : Aside y j g ⊎ Among g (before ++ behind) → Aside (front (kind_of p) (first p)) (last p) g ⊎ Among g before
      by (inl x) = inl (aside_part y j p g lo hi x)
      by (inr x) = split (among_append g before behind x)

  placed_rest : Ascending (front (kind_of p) (first p)) (ranges before) (last p) → Placed all y j (before ++ behind) → Placed all (suc (last p)) j behind
  placed_rest h f g a = by (f g a)
    where
      split : Among g before ⊎ Among g behind → Aside (suc (last p)) j g ⊎ Among g behind
      split (inl x) = let r = ascend_member before (front (kind_of p) (first p)) (last p) h g x in inl (inl (omega (arith, r.2)))
      split (inr x) = inr x

      by : Aside y j g ⊎ Among g (before ++ behind) → Aside (suc (last p)) j g ⊎ Among g behind
      by (inl x) = inl (aside_rest y j p g lo lt x)
      by (inr x) = split (among_append g before behind x)

-- parts that all stay
pub parts_kept : (all : List Gap) (c : Context) (k : Kind) (i j : ℕ) (ps : Trees) (n : ℕ) (rs : Trees) (x y : ℕ) → leads_to_lists k ≡ true → is_top k ≡ false → AtEdge all i → AtEdge all j → Calm all j c → LieIn x j rs
    → AreFit k i rs → RowWords n rs → Low n x y → ((g : Gap) → Among g all → Aside y j g)
    → EachEvent (EventStays all) (events_of c k i j ps n rs)
parts_kept all c k i j ps n none x y e top ei ej h l t w lo f = tt
parts_kept all c k i j ps n (skip rs) x y e top ei ej h l t w lo f = parts_kept all c k i j ps (suc n) rs x y e top ei ej h l t (words_skip n rs w) (low_skip n x y lo) f
parts_kept all c k i j ps n (more p rs) x y e top ei ej h l t w lo f =
    let hi : last p ≤ j = lie_order (last p) j rs l.2 in
    let lt : first p < last p = laid_grows p l.1 in
    let at : y ≤ front (kind_of p) (first p) = low_front n x y p rs w lo l.0 in
    let other : is_specification (kind_of p) ≡ false = statement_part k (kind_of p) e t.0 in
    each_event_append (EventStays all) (events (enter c k i j ps (ends_named ps) n p (is_more rs)) p) (events_of (pass c p) k i j ps (suc n) rs)
    (kept all (enter c k i j ps (ends_named ps) n p (is_more rs)) p (enter_calm all c i j ps (ends_named ps) n p (is_more rs) k e top ei ej hi other h) (is_part k i x j p rs e top l t) (λ g a. aside_part y j p g at hi (f g a)))
    (parts_kept all (pass c p) k i j ps (suc n) rs (last p) (suc (last p)) e top ei ej (calm_pass all j c p other h) l.2 t.3 (words_next n p rs w) (omega arith) (λ g a. aside_rest y j p g at lt (f g a)))

pub list_words : (k : Kind) (i : ℕ) (ps : Trees) → leads_to_lists k ≡ true → ListFits k i ps → (k ≡ kind.Block → ⊥) → (k ≡ kind.Case → ⊥) → (k ≡ kind.Default → ⊥) → WordsBehind ps
list_words kind.Block i ps e h a b d = absurd (a refl)
list_words kind.Case i ps e h a b d = absurd (b refl)
list_words kind.Default i ps e h a b d = absurd (d refl)
list_words kind.FunctionDeclaration i ps e h a b d = h
list_words kind.If i ps e h a b d = h
list_words kind.Else i ps e h a b d = h
list_words kind.Switch i ps e h a b d = h
list_words kind.For i ps e h a b d = h
list_words k i ps e h a b d = absurd (true_false false e refl)

pub leads_front : (k : Kind) (i : ℕ) → leads_to_lists k ≡ true → i < front k i
leads_front kind.FunctionDeclaration i e = omega arith
leads_front kind.Block i e = omega arith
leads_front kind.If i e = omega arith
leads_front kind.Else i e = omega arith
leads_front kind.Switch i e = omega arith
leads_front kind.Case i e = omega arith
leads_front kind.Default i e = omega arith
leads_front kind.For i e = omega arith
leads_front k i e = absurd (true_false false e refl)

range_from : (a b c d : ℕ) (rs ss : List Range) → range a b ∷ rs ≡ range c d ∷ ss → c ≡ a
range_from a b c d rs ss e = let h : range a b ≡ range c d = cc in sym (ap (λ (r : Range). r.from) h)

range_upto : (a b c d : ℕ) (rs ss : List Range) → range a b ∷ rs ≡ range c d ∷ ss → d ≡ b
range_upto a b c d rs ss e = let h : range a b ≡ range c d = cc in sym (ap (λ (r : Range). r.upto) h)

range_tail : (a b c d : ℕ) (rs ss : List Range) → range a b ∷ rs ≡ range c d ∷ ss → rs ≡ ss
range_tail a b c d rs ss e = cc

placed_behind : (all : List Gap) (x : Gap) (gs : List Gap) (y z j : ℕ) → y ≤ z → x.upto ≡ z → Placed all y j (x ∷ gs) → Placed all (suc z) j gs
placed_behind all x gs y z j le e f g a = by (f g a)
  where
    by : Aside y j g ⊎ Among g (x ∷ gs) → Aside (suc z) j g ⊎ Among g gs
    by (inl (inl h)) = inl (inl (omega (arith, h, le)))
    by (inl (inr h)) = inl (inr h)
    by (inr (inl h)) = let u : g.upto ≡ x.upto = ap (λ (w : Gap). w.upto) h in inl (inl (omega (arith, u, e)))
    by (inr (inr h)) = inr h

module _ (P : ℕ → Trees → Type 0) where
  mutual
    pub walk_tree : (all : List Gap) (v : ℕ → ℕ) (c : Context) (t : Tree) (q : Patch) (gs : List Gap) → Calm all (last t) c → IsPart t → InLists t q → places t q ≡ ranges gs
        → Placed all (front (kind_of t) (first t)) (last t) gs → EachRun P t q → AllStay P v all gs (pieces v c t q)
    walk_tree all v c (node k i j ps) keep gs h p l e f y0 = (kept all c (node k i j ps) h p (none_among all (front k i) j gs (no_gaps gs e) f), no_gaps gs e)
    walk_tree all v c (node k i j ps) (put s) gs h p l e f y0 = absurd l
    walk_tree all v c (node kind.Block i j ps) (inside qs) gs h p l e f y0 =
        let asc : Ascending (suc i) (ranges gs) j = subst (λ z. Ascending (suc i) z j) e (ascend_tree (node kind.Block i j ps) (inside qs) p.laid p.fit l) in
        let edges = node_edge all (suc i) i j gs (omega arith) (omega arith) p.laid.0 asc f in (
          statement_stays all c.listed i j,
          walk_list all v (list_context c i j) false kind.Block i ps qs gs (suc i) (suc i) j refl refl (calm_list all j c i j edges.0 edges.1 h) (lie_front kind.Block i i j ps p.laid.0 p.laid.1 p.fit.1) p.fit.0 p.fit.1 l e f y0,
        )
    walk_tree all v c (node kind.Default i j ps) (inside qs) gs h p l e f y0 =
        let asc : Ascending (suc i) (ranges gs) j = subst (λ z. Ascending (suc i) z j) e (ascend_tree (node kind.Default i j ps) (inside qs) p.laid p.fit l) in
        let edges = node_edge all (suc i) i j gs (omega arith) (omega arith) p.laid.0 asc f in (
          statement_stays all c.listed i j,
          walk_list all v (list_context c i j) c.followed kind.Default i ps qs gs (suc i) (suc i) j refl refl (calm_list all j c i j edges.0 edges.1 h) (lie_front kind.Default i i j ps p.laid.0 p.laid.1 p.fit.1) p.fit.0 p.fit.1 l e f y0,
        )
    walk_tree all v c (node kind.Case i j ps) (inside qs) gs h p l e f y0 =
        let asc : Ascending (suc i) (ranges gs) j = subst (λ z. Ascending (suc i) z j) e (ascend_tree (node kind.Case i j ps) (inside qs) p.laid p.fit l) in
        let edges = node_edge all (suc i) i j gs (omega arith) (omega arith) p.laid.0 asc f in
        (statement_stays all c.listed i j, walk_case all v c i j ps qs gs edges.0 edges.1 h p.laid.0 p.laid.1 (case_rises i ps p.fit.0) p.fit.1 l e f y0)
    walk_tree all v c (node k i j ps) (inside qs) gs h p l e f y0 =
        let asc : Ascending (front k i) (ranges gs) j = subst (λ z. Ascending (front k i) z j) e (ascend_tree (node k i j ps) (inside qs) p.laid p.fit l) in
        let w : WordsBehind ps = list_words k i ps l.0 p.fit.0 (λ x. cc) (λ x. cc) (λ x. cc) in
        let edges = node_edge all (front k i) i j gs (leads_front k i l.0) (front_below k i) p.laid.0 asc f in (
          each_event_append (EventStays all) (statement_events c.listed i j) (own_events c k i j ps) (statement_stays all c.listed i j) (own_stays all c k i j ps l.0 p.inner),
          walk_row all v c k i j ps 0 ps qs gs (front k i) (front k i) l.0 p.inner edges.0 edges.1 h (lie_front k i (behind_name k i) j ps p.laid.0 p.laid.1 p.fit.1) p.fit.1 w (omega arith) l.1 e f y0,
        )

    walk_case : (all : List Gap) (v : ℕ → ℕ) (c : Context) (i j : ℕ) (ps : Trees) (qs : Patches) (gs : List Gap) → AtEdge all i → AtEdge all j → Calm all j c → i < j → LieIn i j ps → Rises (suc i) ps → AreFit kind.Case i ps
        → InCase ps qs → places_in ps qs ≡ ranges gs → Placed all (suc i) j gs
        → EachIn P ps qs → AllStay P v all gs (case_pieces v c i j ps qs)
    walk_case all v c i j (more p ps) (part keep qs) gs ei ej h lt l r t il e f y0 =
        let hi : last p ≤ j = lie_order (last p) j ps l.2 in
        let grows : first p < last p = laid_grows p l.1 in
        let asc : Ascending (last p) (ranges gs) j = subst (λ z. Ascending (last p) z j) e (ascend_list kind.Case i ps qs (last p) j l.2 t.3 il) in
        let other : is_specification (kind_of p) ≡ false = statement_part kind.Case (kind_of p) refl t.0 in
        let low : suc i ≤ front (kind_of p) (first p) = omega (arith, t.1, front_from (kind_of p) (first p)) in (
          kept all (enter c kind.Case i j (more p ps) (ends_named (more p ps)) 0 p (is_more ps)) p (enter_calm all c i j (more p ps) (ends_named (more p ps)) 0 p (is_more ps) kind.Case refl refl ei ej hi other h)
              (is_part kind.Case i i j p ps refl refl l t)
              (none_among all (front (kind_of p) (first p)) (last p) [] refl (placed_part all [] gs (suc i) j p low grows hi j asc f)),
          walk_list all v (list_context c i j) c.followed kind.Case i ps qs gs (last p) (suc (last p)) j refl refl (calm_list all j c i j ei ej h) l.2 r.1 t.3 il e
              (placed_rest all [] gs (suc i) j p low grows hi (omega (arith, grows, front_below (kind_of p) (first p))) f) y0.1,
        )
    walk_case all v c i j (more p ps) (part (put s) qs) gs ei ej h lt l r t il e f y0 = absurd il
    walk_case all v c i j (more p ps) (part (inside rs) qs) gs ei ej h lt l r t il e f y0 = absurd il
    walk_case all v c i j (more p ps) done gs ei ej h lt l r t il e f y0 = absurd il
    walk_case all v c i j (more p ps) (run n new qs) gs ei ej h lt l r t il e f y0 = absurd il
    walk_case all v c i j none qs gs ei ej h lt l r t il e f y0 = absurd il
    walk_case all v c i j (skip ps) qs gs ei ej h lt l r t il e f y0 = absurd il

    pub walk_row : (all : List Gap) (v : ℕ → ℕ) (c : Context) (k : Kind) (i j : ℕ) (ps : Trees) (n : ℕ) (rs : Trees) (qs : Patches) (gs : List Gap) (x y : ℕ) → leads_to_lists k ≡ true → is_top k ≡ false → AtEdge all i
        → AtEdge all j → Calm all j c → LieIn x j rs → AreFit k i rs → RowWords n rs → Low n x y → InParts rs qs → places_in rs qs ≡ ranges gs → Placed all y j gs
        → EachIn P rs qs → AllStay P v all gs (row_pieces v c k i j ps n rs qs)
    walk_row all v c k i j ps n rs done gs x y lead top ei ej h l t w lo il e f y0 =
        (parts_kept all c k i j ps n rs x y lead top ei ej h l t w lo (none_among all y j gs (no_gaps gs e) f), no_gaps gs e)
    walk_row all v c k i j ps n none (part q qs) gs x y lead top ei ej h l t w lo il e f y0 = no_gaps gs e
    walk_row all v c k i j ps n (skip rs) (part q qs) gs x y lead top ei ej h l t w lo il e f y0 = walk_row all v c k i j ps (suc n) rs qs gs x y lead top ei ej h l t (words_skip n rs w) (low_skip n x y lo) il e f y0
    walk_row all v c k i j ps n none (run m new qs) gs x y lead top ei ej h l t w lo il e f y0 = absurd il
    walk_row all v c k i j ps n (more p rs) (run m new qs) gs x y lead top ei ej h l t w lo il e f y0 = absurd il
    walk_row all v c k i j ps n (skip rs) (run m new qs) gs x y lead top ei ej h l t w lo il e f y0 = absurd il
    walk_row all v c k i j ps n (more p rs) (part q qs) gs x y lead top ei ej h l t w lo il e f y0 =
        let hi : last p ≤ j = lie_order (last p) j rs l.2 in
        let lt : first p < last p = laid_grows p l.1 in
        let at : y ≤ front (kind_of p) (first p) = low_front n x y p rs w lo l.0 in
        let other : is_specification (kind_of p) ≡ false = statement_part k (kind_of p) lead t.0 in
        let s = split_gaps gs (places p q) (places_in rs qs) e in
        let asc : Ascending (front (kind_of p) (first p)) (ranges s.before) (last p) = subst (λ z. Ascending (front (kind_of p) (first p)) z (last p)) s.first (ascend_tree p q l.1 t.2 il.0) in
        let asc2 : Ascending (last p) (ranges s.behind) j = subst (λ z. Ascending (last p) z j) s.second (ascend_parts k i rs qs (last p) j l.2 t.3 il.1) in
        let f2 : Placed all y j (s.before ++ s.behind) = subst (λ z. Placed all y j z) s.whole f in
        subst (λ z. AllStay P v all z (pieces v (enter c k i j ps (ends_named ps) n p (is_more rs)) p q ++ row_pieces v c k i j ps (suc n) rs qs)) (sym s.whole)
        (stay_append P v all s.before s.behind (pieces v (enter c k i j ps (ends_named ps) n p (is_more rs)) p q) (row_pieces v c k i j ps (suc n) rs qs)
        (walk_tree all v (enter c k i j ps (ends_named ps) n p (is_more rs)) p q s.before (enter_calm all c i j ps (ends_named ps) n p (is_more rs) k lead top ei ej hi other h) (is_part k i x j p rs lead top l t) il.0 s.first
        (placed_part all s.before s.behind y j p at lt hi j asc2 f2) y0.0)
        (walk_row all v c k i j ps (suc n) rs qs s.behind (last p) (suc (last p)) lead top ei ej h l.2 t.3 (words_next n p rs w) (omega arith) il.1 s.second (placed_rest all s.before s.behind y j p at lt hi asc f2) y0.1))

    pub walk_list : (all : List Gap) (v : ℕ → ℕ) (c : Context) (d : Bool) (k : Kind) (i : ℕ) (ps : Trees) (qs : Patches) (gs : List Gap) (x y j : ℕ) → leads_to_lists k ≡ true → is_top k ≡ false → Calm all j c → LieIn x j ps
        → Rises y ps → AreFit k i ps → InList ps qs → places_in ps qs ≡ ranges gs → Placed all y j gs
        → EachIn P ps qs → AllStay P v all gs (list_pieces v c d ps qs)
    walk_list all v c d k i ps done gs x y j lead top h l r t il e f y0 =
        (told_kept all c d k i x y j ps lead top h l r t (none_among all y j gs (no_gaps gs e) f), no_gaps gs e)
    walk_list all v c d k i none (part q qs) gs x y j lead top h l r t il e f y0 = no_gaps gs e
    walk_list all v c d k i (skip ps) (part q qs) gs x y j lead top h l r t il e f y0 = walk_list all v c d k i ps qs gs x y j lead top h l r t il e f y0
    walk_list all v c d k i none (run n new qs) gs x y j lead top h l r t il e f y0 = absurd il
    walk_list all v c d k i (skip ps) (run n new qs) gs x y j lead top h l r t il e f y0 = absurd il
    walk_list all v c d k i (more p ps) (part q qs) gs x y j lead top h l r t il e f y0 =
        let hi : last p ≤ j = lie_order (last p) j ps l.2 in
        let lt : first p < last p = laid_grows p l.1 in
        let at : y ≤ front (kind_of p) (first p) = omega (arith, r.0, front_from (kind_of p) (first p)) in
        let s = split_gaps gs (places p q) (places_in ps qs) e in
        let asc : Ascending (front (kind_of p) (first p)) (ranges s.before) (last p) = subst (λ z. Ascending (front (kind_of p) (first p)) z (last p)) s.first (ascend_tree p q l.1 t.2 il.0) in
        let asc2 : Ascending (last p) (ranges s.behind) j = subst (λ z. Ascending (last p) z j) s.second (ascend_list k i ps qs (last p) j l.2 t.3 il.1) in
        let f2 : Placed all y j (s.before ++ s.behind) = subst (λ z. Placed all y j z) s.whole f in
        let b : Bool = d && not (is_more ps) in
        subst (λ z. AllStay P v all z (pieces v (record c { falls = b }) p q ++ list_pieces v c d ps qs)) (sym s.whole)
        (stay_append P v all s.before s.behind (pieces v (record c { falls = b }) p q) (list_pieces v c d ps qs)
        (walk_tree all v (record c { falls = b }) p q s.before (calm_falls all (last p) c b (calm_less all (last p) j c hi h)) (is_part k i x j p ps lead top l t) il.0 s.first
        (placed_part all s.before s.behind y j p at lt hi j asc2 f2) y0.0)
        (walk_list all v c d k i ps qs s.behind (last p) (suc (last p)) j lead top h l.2 r.1 t.3 il.1 s.second (placed_rest all s.before s.behind y j p at lt hi asc f2) y0.1))
    walk_list all v c d k i (more p ps) (run n new qs) [] x y j lead top h l r t il e f y0 = absurd cc
    walk_list all v c d k i (more p ps) (run n new qs) (g ∷ gs) x y j lead top h l r t il e f y0 =
        let from : g.from ≡ first p = range_from (first p) (items_end n p ps) g.from g.upto (places_in (items_behind n ps) qs) (ranges gs) e in
        let upto : g.upto ≡ items_end n p ps = range_upto (first p) (items_end n p ps) g.from g.upto (places_in (items_behind n ps) qs) (ranges gs) e in
        let tail : places_in (items_behind n ps) qs ≡ ranges gs = range_tail (first p) (items_end n p ps) g.from g.upto (places_in (items_behind n ps) qs) (ranges gs) e in
        let far = run_lies n p ps j il.0 l.2 in
        let lt : first p < last p = laid_grows p l.1 in
        let b : Bool = d && not (is_more (items_behind n ps)) in (
          record {
            block = c.block;
            end = c.end;
            begins = h.block;
            ends = h.end;
            behind = omega (arith, upto, far.upto, h.behind);
            each = run_told all g c b n k i x j p ps lead top h l t il.0 (omega (arith, from)) (omega (arith, upto));
          },
          (
            record {
              context = c;
              followed = b;
              new = new;
              told = refl;
              local = h.local;
              within = omega (arith, upto, far.upto, h.behind);
              role = h.role;
              site = h.site;
              specification = h.specification;
              source = h.source;
              group = h.group;
              parameters = h.parameters;
              constant = h.constant;
              initial = h.initial;
              each = run_told all g c b n k i x j p ps lead top h l t il.0 (omega (arith, from)) (omega (arith, upto));
            },
            subst (λ o. P o new) (sym from) y0.0,
          ),
          walk_list all v c d k i (items_behind n ps) qs gs (items_end n p ps) (suc (items_end n p ps)) j lead top h far.others (rises_behind n p ps il.0 r.1) (fit_behind n k i ps il.0 t.3) il.3 tail
              (placed_behind all g gs y (items_end n p ps) j (omega (arith, r.0, lt, far.from)) upto f) y0.1,
        )
