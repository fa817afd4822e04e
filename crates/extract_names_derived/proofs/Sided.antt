-- Each piece of a function with one run is on its side of the run.
use Rattle.std.proofs.Common.{◌≡◌, ◌∙◌, ℕ, zero, suc, ◌<◌, ◌≤◌, Bool, true, false, List, [], ◌∷◌, ◌++◌, refl, sym, ap, subst, arith}
use Rattle.std.specs.Prelude.{◌&&◌, not, if◌then◌else◌}
use Rattle.go_grammar.specs.declared.kind.Kind.{Kind}
use Rattle.go_grammar.specs.declared.kind.Kind.TheVariants as kind
use Rattle.go_grammar.specs.Trees.{Tree, node, Trees, none, more, skip, kind_of, first, last}
use Rattle.go_grammar.specs.Grammar.{ends_named}
use Rattle.go_rewriting.specs.Lists.{so_many}
use Rattle.go_rewriting.specs.Places.{Patch, Patches, keep, put, inside, done, part, run, has_items, items_behind, items_end, Range, range, places, places_in}
use Rattle.go_tree.specs.declared.context.Block.TheVariants as block
use Rattle.go_tree.specs.declared.context.Context.{Context}
use Rattle.go_tree.specs.Contexts.{opens, block_in, enter}
use Rattle.go_tree.specs.Events.{statement_events, own_events, is_more, pass, events, events_of}
use Rattle.go_scopes_events.proofs.Public.{LieIn, behind_name, lie_order, laid_grows, is_top, true_false}
use Rattle.go_scopes_bodies.specs.Listed.{list_context, told_list, is_specification}
use Rattle.extract_names.specs.Copies.{Copy}
use Rattle.extract_names.specs.Pieces.{leads_to_lists, pieces, row_pieces, case_pieces, list_pieces}
use Rattle.extract_names.specs.Sites.{EachEvent}
use Rattle.extract_names_derived.specs.Patches.{InLists, InParts, InCase, InList}
use Rattle.extract_names_derived.proofs.Ascends.{ascend_tree, ascend_parts, ascend_list, lie_front, run_lies, fit_behind, rises_behind}
use Rattle.extract_names_derived.proofs.CopiedContexts.{NoScope}
use Rattle.extract_names_derived.specs.Apart.{bare}
use Rattle.extract_names_derived.proofs.CopiedEvents.{list_holes, list_before}
use Rattle.extract_names_derived.proofs.Fit.{is_if, front, case_rises, AreFit, Rises, front_from, front_below}
use Rattle.extract_names_derived.proofs.Lying.{each_event_append}
use Rattle.extract_names_derived.proofs.Outside.{calm_out, list_copied}
use Rattle.extract_names_derived.proofs.Sides.{Side, AllSides, sides_append, Where, turned, turned_both, where_part, where_rest, where_here, BlockFrom, block_from, kept_side, statement_side, own_side, told_side, run_copied}
use Rattle.extract_names_derived.proofs.Steps.{StepsOf, run_steps}
use Rattle.extract_names_derived.proofs.Walk.{Calm, calm_less, calm_falls, calm_list, calm_pass, enter_calm, IsPart, is_part, statement_part}
use Rattle.extract_names_derived.proofs.Walked.{RowWords, Low, low_front, words_next, words_skip, low_skip, list_words}

enter_from : (cx : Context) (k : Kind) (i y : ℕ) → i ≤ y → BlockFrom cx.block i → BlockFrom (block_in cx k i) y
enter_from cx k i y le h = elim (opens k) as (λ x. BlockFrom (if x then block.Local i else cx.block) y) [ true ↦ le | false ↦ block_from cx.block i y le h ]

turned_true : (rs : List Range) → turned rs true ≡ true
turned_true [] = refl
turned_true (r ∷ rs) = refl

where_false : (c : Copy) (b : Bool) (r : Range) (rs : List Range) (x y : ℕ) → Where c b (r ∷ rs) x y → b ≡ false
where_false c false r rs x y h = refl
where_false c true r rs x y h = absurd h

where_none : (c : Copy) (b : Bool) (r : Range) (rs : List Range) (x y : ℕ) → Where c b (r ∷ rs) x y → (rs ≡ []) × (r.from ≡ c.from) × (r.upto ≡ c.upto)
where_none c false r [] x y h = (refl, h.0, h.1)
where_none c false r (s ∷ rs) x y h = absurd h
where_none c true r rs x y h = absurd h

where_behind : (c : Copy) (rs : List Range) (e y : ℕ) → rs ≡ [] → e ≡ c.upto → Where c true rs (suc e) y
where_behind c [] e y n h = omega (arith, h)
where_behind c (r ∷ rs) e y n h = absurd cc

-- parts that all stay
parts_side : (c : Copy) (b : Bool) (cx : Context) (k : Kind) (i j : ℕ) (ps : Trees) (n : ℕ) (rs : Trees) (x y : ℕ) → leads_to_lists k ≡ true → is_top k ≡ false → Calm [] j cx → BlockFrom cx.block i → i ≤ x → LieIn x j rs
    → AreFit k i rs → RowWords n rs → Low n x y → Where c b [] y j
    → EachEvent (Side c b) (events_of cx k i j ps n rs)
parts_side c b cx k i j ps n none x y lead top h o le l t w lo g = tt
parts_side c b cx k i j ps n (skip rs) x y lead top h o le l t w lo g = parts_side c b cx k i j ps (suc n) rs x y lead top h o le l t (words_skip n rs w) (low_skip n x y lo) g
parts_side c b cx k i j ps n (more p rs) x y lead top h o le l t w lo g =
    let hi : last p ≤ j = lie_order (last p) j rs l.2 in
    let lt : first p < last p = laid_grows p l.1 in
    let at : y ≤ front (kind_of p) (first p) = low_front n x y p rs w lo l.0 in
    let other : is_specification (kind_of p) ≡ false = statement_part k (kind_of p) lead t.0 in
    each_event_append (Side c b) (events (enter cx k i j ps (ends_named ps) n p (is_more rs)) p) (events_of (pass cx p) k i j ps (suc n) rs)
    (kept_side c b (enter cx k i j ps (ends_named ps) n p (is_more rs)) p (enter_calm [] cx i j ps (ends_named ps) n p (is_more rs) k lead top tt tt hi other h) (enter_from cx k i (first p) (omega (arith, le, l.0)) o)
    (is_part k i x j p rs lead top l t)
    (where_here c b y j (front (kind_of p) (first p)) (last p) at hi g))
    (parts_side c b (pass cx p) k i j ps (suc n) rs (last p) (suc (last p)) lead top (calm_pass [] j cx p other h) o (omega (arith, le, l.0, lt)) l.2 t.3 (words_next n p rs w) (omega arith)
    (where_here c b y j (suc (last p)) j (omega (arith, at, lt, front_below (kind_of p) (first p))) (omega arith) g))

-- the context of a list of statements
abbrev IsListed : Context → Type 0
IsListed cx = (cx.column ≡ 0) × (cx.listed ≡ true) × (cx.followed ≡ false) × (cx.falls ≡ false)

lie_many : (n : ℕ) (p : Tree) (ps : Trees) (x j : ℕ) → has_items n ps ≡ true → LieIn x j (more p ps) → LieIn x (items_end n p ps) (more p (so_many n ps))
lie_many zero p ps x j e h = (h.0, h.1, omega arith)
lie_many (suc n) p none x j e h = absurd (true_false false e refl)
lie_many (suc n) p (skip ps) x j e h = absurd (true_false false e refl)
lie_many (suc n) p (more q qs) x j e h = (h.0, h.1, lie_many n q qs (last p) j e h.2)

fit_many : (n : ℕ) (p : Tree) (ps : Trees) (k : Kind) (i : ℕ) → has_items n ps ≡ true → AreFit k i (more p ps) → AreFit k i (more p (so_many n ps))
fit_many zero p ps k i e h = (h.0, h.1, h.2, tt)
fit_many (suc n) p none k i e h = absurd (true_false false e refl)
fit_many (suc n) p (skip ps) k i e h = absurd (true_false false e refl)
fit_many (suc n) p (more q qs) k i e h = (h.0, h.1, h.2, fit_many n q qs k i e h.3)

mutual
  pub sides_tree : (c : Copy) (v : ℕ → ℕ) (b : Bool) (cx : Context) (t : Tree) (q : Patch) → Calm [] (last t) cx → BlockFrom cx.block (first t) → IsPart t → InLists t q
      → Where c b (places t q) (front (kind_of t) (first t)) (last t) → AllSides c b (turned (places t q) b) (pieces v cx t q)
  sides_tree c v b cx (node k i j ps) keep h o p l w = (kept_side c b cx (node k i j ps) h o p w, refl)
  sides_tree c v b cx (node k i j ps) (put s) h o p l w = absurd l
  sides_tree c v b cx (node kind.Block i j ps) (inside qs) h o p l w = (
    statement_side c b cx.listed i j,
    sides_list c v b (list_context cx i j) false kind.Block i ps qs (suc i) (suc i) j refl refl refl (refl, refl, refl, refl) (calm_list [] j cx i j tt tt h) (omega arith) refl (lie_front kind.Block i i j ps p.laid.0 p.laid.1 p.fit.1) p.fit.0 p.fit.1 l w,
  )
  sides_tree c v b cx (node kind.Default i j ps) (inside qs) h o p l w = (
    statement_side c b cx.listed i j,
    sides_list c v b (list_context cx i j) cx.followed kind.Default i ps qs (suc i) (suc i) j refl refl refl (refl, refl, refl, refl) (calm_list [] j cx i j tt tt h) (omega arith) refl (lie_front kind.Default i i j ps p.laid.0 p.laid.1 p.fit.1) p.fit.0 p.fit.1 l w,
  )
  sides_tree c v b cx (node kind.Case i j ps) (inside qs) h o p l w =
      (statement_side c b cx.listed i j, sides_case c v b cx i j ps qs h p.laid.0 p.laid.1 (case_rises i ps p.fit.0) p.fit.1 l w)
  sides_tree c v b cx (node k i j ps) (inside qs) h o p l w = (
    each_event_append (Side c b) (statement_events cx.listed i j) (own_events cx k i j ps) (statement_side c b cx.listed i j) (own_side c b cx k i j ps l.0 p.inner),
    sides_row c v b cx k i j ps 0 ps qs (front k i) (front k i) l.0 p.inner h o (front_from k i) (lie_front k i (behind_name k i) j ps p.laid.0 p.laid.1 p.fit.1) p.fit.1
        (list_words k i ps l.0 p.fit.0 (λ x. cc) (λ x. cc) (λ x. cc)) (omega arith) l.1 w,
  )

  sides_case : (c : Copy) (v : ℕ → ℕ) (b : Bool) (cx : Context) (i j : ℕ) (ps : Trees) (qs : Patches) → Calm [] j cx → i < j → LieIn i j ps → Rises (suc i) ps → AreFit kind.Case i ps → InCase ps qs
      → Where c b (places_in ps qs) (suc i) j → AllSides c b (turned (places_in ps qs) b) (case_pieces v cx i j ps qs)
  sides_case c v b cx i j (more p ps) (part keep qs) h lt l r t il w =
      let hi : last p ≤ j = lie_order (last p) j ps l.2 in
      let grows : first p < last p = laid_grows p l.1 in
      let other : is_specification (kind_of p) ≡ false = statement_part kind.Case (kind_of p) refl t.0 in
      let low : suc i ≤ front (kind_of p) (first p) = omega (arith, t.1, front_from (kind_of p) (first p)) in
      let far : front (kind_of p) (first p) < suc (last p) = omega (arith, grows, front_below (kind_of p) (first p)) in (
        kept_side c b (enter cx kind.Case i j (more p ps) (ends_named (more p ps)) 0 p (is_more ps)) p (enter_calm [] cx i j (more p ps) (ends_named (more p ps)) 0 p (is_more ps) kind.Case refl refl tt tt hi other h) l.0
            (is_part kind.Case i i j p ps refl refl l t)
            (where_part c (suc i) j (front (kind_of p) (first p)) (last p) low hi b [] (places_in ps qs) j (ascend_list kind.Case i ps qs (last p) j l.2 t.3 il) w),
        sides_list c v b (list_context cx i j) cx.followed kind.Case i ps qs (last p) (suc (last p)) j refl refl refl (refl, refl, refl, refl) (calm_list [] j cx i j tt tt h) (omega (arith, l.0, grows)) refl l.2 r.1 t.3 il
            (where_rest c (suc i) j (front (kind_of p) (first p)) (last p) low hi b [] (places_in ps qs) far (omega (arith, far)) w),
      )
  sides_case c v b cx i j (more p ps) (part (put s) qs) h lt l r t il w = absurd il
  sides_case c v b cx i j (more p ps) (part (inside rs) qs) h lt l r t il w = absurd il
  sides_case c v b cx i j (more p ps) done h lt l r t il w = absurd il
  sides_case c v b cx i j (more p ps) (run n new qs) h lt l r t il w = absurd il
  sides_case c v b cx i j none qs h lt l r t il w = absurd il
  sides_case c v b cx i j (skip ps) qs h lt l r t il w = absurd il

  sides_row : (c : Copy) (v : ℕ → ℕ) (b : Bool) (cx : Context) (k : Kind) (i j : ℕ) (ps : Trees) (n : ℕ) (rs : Trees) (qs : Patches) (x y : ℕ) → leads_to_lists k ≡ true → is_top k ≡ false → Calm [] j cx → BlockFrom cx.block i
      → i ≤ x → LieIn x j rs → AreFit k i rs → RowWords n rs → Low n x y → InParts rs qs
      → Where c b (places_in rs qs) y j
      → AllSides c b (turned (places_in rs qs) b) (row_pieces v cx k i j ps n rs qs)
  sides_row c v b cx k i j ps n rs done x y lead top h o le l t w lo il g = (parts_side c b cx k i j ps n rs x y lead top h o le l t w lo g, refl)
  sides_row c v b cx k i j ps n none (part q qs) x y lead top h o le l t w lo il g = refl
  sides_row c v b cx k i j ps n (skip rs) (part q qs) x y lead top h o le l t w lo il g = sides_row c v b cx k i j ps (suc n) rs qs x y lead top h o le l t (words_skip n rs w) (low_skip n x y lo) il g
  sides_row c v b cx k i j ps n none (run m new qs) x y lead top h o le l t w lo il g = absurd il
  sides_row c v b cx k i j ps n (more p rs) (run m new qs) x y lead top h o le l t w lo il g = absurd il
  sides_row c v b cx k i j ps n (skip rs) (run m new qs) x y lead top h o le l t w lo il g = absurd il
  sides_row c v b cx k i j ps n (more p rs) (part q qs) x y lead top h o le l t w lo il g =
      let hi : last p ≤ j = lie_order (last p) j rs l.2 in
      let lt : first p < last p = laid_grows p l.1 in
      let at : y ≤ front (kind_of p) (first p) = low_front n x y p rs w lo l.0 in
      let other : is_specification (kind_of p) ≡ false = statement_part k (kind_of p) lead t.0 in
      let far : front (kind_of p) (first p) < suc (last p) = omega (arith, lt, front_below (kind_of p) (first p)) in
      let ex : Context = enter cx k i j ps (ends_named ps) n p (is_more rs) in
      subst (λ z. AllSides c b z (pieces v ex p q ++ row_pieces v cx k i j ps (suc n) rs qs)) (sym (turned_both (places p q) (places_in rs qs) b))
      (sides_append c b (turned (places p q) b) (turned (places_in rs qs) (turned (places p q) b)) (pieces v ex p q) (row_pieces v cx k i j ps (suc n) rs qs)
      (sides_tree c v b ex p q (enter_calm [] cx i j ps (ends_named ps) n p (is_more rs) k lead top tt tt hi other h) (enter_from cx k i (first p) (omega (arith, le, l.0)) o) (is_part k i x j p rs lead top l t) il.0
      (where_part c y j (front (kind_of p) (first p)) (last p) at hi b (places p q) (places_in rs qs) j (ascend_parts k i rs qs (last p) j l.2 t.3 il.1) g))
      (sides_row c v (turned (places p q) b) cx k i j ps (suc n) rs qs (last p) (suc (last p)) lead top h o (omega (arith, le, l.0, lt)) l.2 t.3 (words_next n p rs w) (omega arith) il.1
      (where_rest c y j (front (kind_of p) (first p)) (last p) at hi b (places p q) (places_in rs qs) far (ascend_tree p q l.1 t.2 il.0) g)))

  pub sides_list : (c : Copy) (v : ℕ → ℕ) (b : Bool) (cx : Context) (d : Bool) (k : Kind) (i : ℕ) (ps : Trees) (qs : Patches) (x y j : ℕ) → leads_to_lists k ≡ true → is_top k ≡ false → is_if k ≡ false → IsListed cx → Calm [] j cx → i < x
      → cx.block ≡ block.Local i → LieIn x j ps → Rises y ps → AreFit k i ps → InList ps qs → Where c b (places_in ps qs) y j
      → AllSides c b (turned (places_in ps qs) b) (list_pieces v cx d ps qs)
  sides_list c v b cx d k i ps done x y j lead top out ls h o e l r t il w = (told_side c b cx d k i x y j ps lead top h (subst (λ z. BlockFrom z x) (sym e) (let le : i ≤ x = omega (arith, o) in le)) l r t w, refl)
  sides_list c v b cx d k i none (part q qs) x y j lead top out ls h o e l r t il w = refl
  sides_list c v b cx d k i (skip ps) (part q qs) x y j lead top out ls h o e l r t il w = sides_list c v b cx d k i ps qs x y j lead top out ls h o e l r t il w
  sides_list c v b cx d k i none (run n new qs) x y j lead top out ls h o e l r t il w = absurd il
  sides_list c v b cx d k i (skip ps) (run n new qs) x y j lead top out ls h o e l r t il w = absurd il
  sides_list c v b cx d k i (more p ps) (part q qs) x y j lead top out ls h o e l r t il w =
      let hi : last p ≤ j = lie_order (last p) j ps l.2 in
      let lt : first p < last p = laid_grows p l.1 in
      let at : y ≤ front (kind_of p) (first p) = omega (arith, r.0, front_from (kind_of p) (first p)) in
      let far : front (kind_of p) (first p) < suc (last p) = omega (arith, lt, front_below (kind_of p) (first p)) in
      let f : Bool = d && not (is_more ps) in
      let here : BlockFrom cx.block (first p) = subst (λ z. BlockFrom z (first p)) (sym e) (let le : i ≤ first p = omega (arith, o, l.0) in le) in
      subst (λ z. AllSides c b z (pieces v (record cx { falls = f }) p q ++ list_pieces v cx d ps qs)) (sym (turned_both (places p q) (places_in ps qs) b))
      (sides_append c b (turned (places p q) b) (turned (places_in ps qs) (turned (places p q) b)) (pieces v (record cx { falls = f }) p q) (list_pieces v cx d ps qs)
      (sides_tree c v b (record cx { falls = f }) p q (calm_falls [] (last p) cx f (calm_less [] (last p) j cx hi h)) here (is_part k i x j p ps lead top l t) il.0
      (where_part c y j (front (kind_of p) (first p)) (last p) at hi b (places p q) (places_in ps qs) j (ascend_list k i ps qs (last p) j l.2 t.3 il.1) w))
      (sides_list c v (turned (places p q) b) cx d k i ps qs (last p) (suc (last p)) j lead top out ls h (omega (arith, o, l.0, lt)) e l.2 r.1 t.3 il.1
      (where_rest c y j (front (kind_of p) (first p)) (last p) at hi b (places p q) (places_in ps qs) far (ascend_tree p q l.1 t.2 il.0) w)))
  sides_list c v b cx d k i (more p ps) (run n new qs) x y j lead top out ls h o e l r t il w =
      let far = run_lies n p ps j il.0 l.2 in
      let g = where_none c b (range (first p) (items_end n p ps)) (places_in (items_behind n ps) qs) y j w in
      let grows : first p < last p = laid_grows p l.1 in
      let f : Bool = d && not (is_more (items_behind n ps)) in (
        where_false c b (range (first p) (items_end n p ps)) (places_in (items_behind n ps) qs) y j w,
        record {
          context = cx;
          followed = f;
          statements = more p (so_many n ps);
          told = refl;
          around = i;
          block = e;
          inner = omega (arith, o, l.0, g.1);
          outer_end = omega (arith, g.2, far.upto, h.behind);
          role = h.role;
          site = h.site;
          specification = h.specification;
          source = h.source;
          group = h.group;
          parameters = h.parameters;
          constant = h.constant;
          initial = h.initial;
          steps = subst (λ z. StepsOf z (told_list cx f (more p (so_many n ps)))) e (run_steps cx i f n k i x y j p ps lead top out h l r t il.0 e (omega (arith, o, l.0)));
          replaced = λ at z role none g qs holes.
              record {
                before = list_before c z g (more p (so_many n ps)) qs holes;
                copied =
                    list_holes c z g k i x (items_end n p ps) (more p (so_many n ps)) qs (record { role = subst NoScope (sym (role ∙ h.role)) tt; parameters = none }) top
                    (let q : c.around ≡ i = at in omega (arith, q, o)) (lie_many n p ps x j il.0 l) (fit_many n p ps k i il.0 t) holes;
              };
          column = ls.0;
          listed = ls.1;
          last = ls.2;
          falls = ls.3;
          copied = λ at end none_replaced. run_copied c cx f n k i x j p ps lead top h l t il.0 (omega (arith, g.1)) (omega (arith, g.2)) none_replaced (e ∙ ap block.Local (sym at)) (sym end);
          bare_copied = λ at end. run_copied (bare c) cx f n k i x j p ps lead top h l t il.0 (omega (arith, g.1)) (omega (arith, g.2)) refl (e ∙ ap block.Local (sym at)) (sym end);
          holes_copied = λ at end low qs holes a b look.
              list_copied c low (record cx { breaks = false; continues = false }) false k i (first p) (items_end n p ps) (more p (so_many n ps)) qs top (omega (arith, g.1)) (omega (arith, g.2)) (lie_many n p ps (first p) j il.0 (omega arith, l.1, l.2))
              (fit_many n p ps k i il.0 t) h.constant (calm_out c cx j h (e ∙ ap block.Local (sym at)) (sym end)) holes a b look;
        },
        subst (λ z. AllSides c true z (list_pieces v cx d (items_behind n ps) qs)) (turned_true (places_in (items_behind n ps) qs))
            (sides_list c v true cx d k i (items_behind n ps) qs (items_end n p ps) (suc (items_end n p ps)) j lead top out ls h (omega (arith, o, l.0, grows, far.from)) e far.others (rises_behind n p ps il.0 r.1)
            (fit_behind n k i ps il.0 t.3) il.3
            (where_behind c (places_in (items_behind n ps) qs) (items_end n p ps) j g.0 g.2)),
      )
