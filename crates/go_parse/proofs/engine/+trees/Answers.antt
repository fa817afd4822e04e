use Rattle.std.proofs.Common.{rules, ◌≡◌, ℕ, zero, suc, ◌+◌, ◌-◌, ◌*◌, ◌<◌, ◌≤◌, inl, inr, max, Bool, true, false, List, [], ◌∷◌, ◌++◌, length, take, drop, Option, Some, None, refl, sym, ap, ◌∙◌, subst, add-one, arith}
use Rattle.std.proofs.lemmas.Bool.{le-leb, lt-leb}
use Rattle.std.specs.Prelude.{slice_get, nat_le, ◌&&◌}
use Rattle.go_base.specs.Gives.{Unless as UnlessMemory}
use Rattle.go_base.proofs.Public.{meets_map}
use Rattle.go_tokens.specs.Tokens.{kinds}
use Rattle.go_tokens.specs.declared.token.TokenKind.{TokenKind}
use Rattle.go_tokens.specs.declared.token.TokenKind.TheVariants as token
use Rattle.go_grammar.specs.declared.kind.Kind.{Kind}
use Rattle.go_grammar.specs.declared.kind.Category.{Category}
use Rattle.go_grammar.specs.declared.kind.Place.{Place}
use Rattle.go_grammar.specs.declared.kind.Category.TheVariants as category
use Rattle.go_grammar.specs.declared.production.Symbol.{Symbol}
use Rattle.go_grammar.specs.declared.production.Symbol.TheVariants as symbol
use Rattle.go_grammar.specs.declared.items.Turn.TheVariants.{Stop, Pass, Item}
use Rattle.go_grammar.specs.declared.items.Next.TheVariants.{On, Done, Wrong}
use Rattle.go_grammar.specs.Categories.{within, place_of}
use Rattle.go_grammar.specs.Grammar.{rule, agrees, ends, result_words}
use Rattle.go_grammar.specs.Rules.{Rule, End, Then, Maybe, Unless, Many, item}
use Rattle.go_grammar.specs.Reader.{opens_before, begins, continues, fits, after_first, words, turn, lead, next, read, grow, spell, option, items, Tends}
use Rattle.go_grammar.specs.Symbols.{prepend, right, repeated}
use Rattle.go_grammar.specs.Trees.{Trees, node, none, more, kind_of, first, last, weight, depth, depths, onto}
use Rattle.go_grammar.proofs.Public.{read_on, grow_on}
use Rattle.go_tree.specs.Views.{view, views}
use Rattle.go_parse.specs.declared.error.Stop.TheVariants as stop
use Rattle.go_parse.specs.declared.row.Row.{Row}
use Rattle.go_parse.specs.Engine.{IsLow, IsRowOn, LeadsOn, IsFinished, IsOpened, IsNotOpened, IsJoined, IsNotJoined, stop_refusal, rank, lag, prefix, is_worded, is_solid}
use Rattle.go_parse.proofs.Found.{lacks, lacks_map, length-kinds, token_within, found_stands, spelled_stands, worded_grows, worded_starts, solid_grows, right_after, word_behind, turn_stops, turn_passes, turn_item, pass_there, next_on, fits_part}
use Rattle.go_parse.proofs.Ranks.{opened_words, joined_ranks, rank_low}
use Rattle.go_parse.proofs.Rows.{behind, skipped, low_with, low_without, leads_with, leads_without, leads_same, leads_begin, leads_leads, leads_to, leads_end, views_push, row_on, drop_get, drop_past, from_one}
use Rattle.go_parse.proofs.Steps as steps
use Rattle.go_parse.proofs.engine.+trees.Goals as goal

-- the reader's right side, by the place of the category
placed : (c : Category) (p : Place) (k : Kind) → place_of c ≡ p → rule p k ≡ rule (place_of c) k
placed c p k e = ap (λ q. rule q k) (sym e)

and_right : (a b : Bool) → b ≡ false → a && b ≡ false
and_right true b e = e
and_right false b e = refl

and_left : (a b : Bool) → a ≡ false → a && b ≡ false
and_left true b e = cc
and_left false b e = refl

and_two : (a b : Bool) → a ≡ true → b ≡ true → a && b ≡ true
and_two true b e f = f
and_two false b e f = cc

pub opened_node-returns-then-weight-room : goal.opened_node-returns-then-weight-room
opened_node-returns-then-weight-room t c =
    let ts = kinds c.args.tokens.now.tokens in
    let no : nat_le (weight c.args.kind) c.args.room ≡ false = lt-leb (weight c.args.kind) c.args.room (omega (arith, c.if-weight-room.true, c.weight.ensures)) in
    λ g p e. steps.read_no_room ts c.args.room c.args.kind g c.args.at e no

pub opened_node-returns-in_err-row : goal.opened_node-returns-in_err-row
opened_node-returns-in_err-row t c =
    let ts = kinds c.args.tokens.now.tokens in
    let k = c.args.kind in
    let m = c.args.room in
    let i = c.args.at in
    let le : weight k ≤ m = omega (arith, c.if-weight-room.false, c.weight.ensures) in
    let yes : nat_le (weight k) m ≡ true = le-leb (weight k) m le in
    let w : m - c.weight-2.result ≡ m - weight k = ap (λ x. m - x) c.weight-2.ensures in
    let e = c.in_err-row.field-0.0 in
    let P : Type 0 = IsNotOpened ts m c.args.place k i in
    let f : UnlessMemory (stop_refusal e) (λ _. P) = lacks_map (Tends (λ n. spell n ts (m - c.weight-2.result) (right c.production-symbols.result) c.empty.result.last) None) P e (λ r g p o. steps.read_none ts m k g i o yes (subst (λ q. Tends (λ n. spell n ts (m - weight k) q i) None) (c.production-symbols.ensures ∙ placed g c.args.place k p) (subst (λ j. Tends (λ n. spell n ts (m - weight k) (right c.production-symbols.result) j) None) c.empty.ensures.last (subst (λ x. Tends (λ n. spell n ts x (right c.production-symbols.result) c.empty.result.last) None) w r)))) c.in_err-row.ensures.exact in
    search rules

pub opened_node-returns : goal.opened_node-returns
opened_node-returns t c =
    let ts = kinds c.args.tokens.now.tokens in
    let k = c.args.kind in
    let m = c.args.room in
    let i = c.args.at in
    let le : weight k ≤ m = omega (arith, c.if-weight-room.false, c.weight.ensures) in
    let yes : nat_le (weight k) m ≡ true = le-leb (weight k) m le in
    let w : m - c.weight-2.result ≡ m - weight k = ap (λ x. m - x) c.weight-2.ensures in
    let row = c.in_ok-row.row in
    let ex : IsRowOn (λ n. spell n ts (m - c.weight-2.result) (right c.production-symbols.result) c.empty.result.last) c.empty.result row = c.in_ok-row.ensures.exact in
    let low : IsLow (m - c.weight-2.result) row = c.in_ok-row.ensures.low in
    let ps = ex.behind in
    let are : views row.parts.items ≡ ps = ex.are ∙ ap (λ ns. onto (views ns) ps) c.empty.ensures.parts in
    let sp : Tends (λ n. spell n ts (m - weight k) (rule c.args.place k) i) (Some (ps, row.last)) = subst (λ q. Tends (λ n. spell n ts (m - weight k) q i) (Some (ps, row.last))) c.production-symbols.ensures (subst (λ j. Tends (λ n. spell n ts (m - weight k) (right c.production-symbols.result) j) (Some (ps, row.last))) c.empty.ensures.last (subst (λ x. Tends (λ n. spell n ts x (right c.production-symbols.result) c.empty.result.last) (Some (ps, row.last))) w ex.tends)) in
    let st = spelled_stands ts (m - weight k) (rule c.args.place k) i ps row.last sp in
    let grows : i < row.last = worded_grows ts ps (rule c.args.place k) i row.last c.requires.worded st.spells in
    let ends : row.last ≤ length ts = st.ends (worded_starts ts ps (rule c.args.place k) i row.last c.requires.worded st.spells) in
    meets_map (λ e. Some e) stop_refusal c.finished.result (IsFinished k i row) (λ g. IsOpened ts m c.args.place k i g) (λ e. (e ≡ stop.Syntax) × (agrees k (views row.parts.items) ≡ false)) (λ _. IsNotOpened ts m c.args.place k i)
    (λ g fin.
    let u : view g.node ≡ node k i row.last ps = fin.is ∙ ap (node k i row.last) are in
    let a : agrees k ps ≡ true = ap (agrees k) (sym are) ∙ fin.agree in
    let d : depth (view g.node) ≡ weight k + depths ps = ap depth u in
    let tall : row.levels ≡ depths ps = low.told ∙ ap depths are in
    record {
      told = omega (arith, fin.levels, d, tall);
      low = omega (arith, fin.levels, low.low, w, le);
      begins = ap first u;
      grows = omega (arith, grows, ap last u);
      ends = omega (arith, ends, ap last u);
      leads = λ g' x p o r. read_on ts m k i row.last ps g' x o le (subst (λ q. Tends (λ n. spell n ts (m - weight k) q i) (Some (ps, row.last))) (placed g' c.args.place k p) sp) a (subst (λ v. Tends (λ n. grow n ts m g' v) x) u r);
    })
    (λ e no. lacks (IsNotOpened ts m c.args.place k i) e (λ g' p o. steps.read_disagrees ts m k g' i row.last ps o yes (subst (λ q. Tends (λ n. spell n ts (m - weight k) q i) (Some (ps, row.last))) (placed g' c.args.place k p) sp) (ap (agrees k) (sym are) ∙ no.1)))
    c.finished.ensures

pub joined_node-returns-then-weight-room : goal.joined_node-returns-then-weight-room
joined_node-returns-then-weight-room t c =
    let ts = kinds c.args.tokens.now.tokens in
    let m = c.args.room in
    let k = c.args.kind in
    let p = view c.args.grown.node in
    λ g q e. elim c.then-weight-room.branch [
      | goal.joined_node-then-weight-room-via-then-weight-room w ↦
          let no : nat_le (weight k + depth p) m ≡ false = lt-leb (weight k + depth p) m (omega (arith, w.if-weight-room.true, c.weight.ensures)) in
          steps.grow_refused ts m p g k e (and_right (fits (rule (place_of g) k) (kind_of p) (slice_get ts (last p))) (nat_le (weight k + depth p) m) no)
      | goal.joined_node-then-weight-room-via-else-weight-room+then-grown-room w ↦
          let no : nat_le (weight k + depth p) m ≡ false = lt-leb (weight k + depth p) m (omega (arith, w.if-weight-room.false, w.if-grown-room.true, w.weight-else-weight-room.ensures, c.weight.ensures, c.requires.told)) in
          steps.grow_refused ts m p g k e (and_right (fits (rule (place_of g) k) (kind_of p) (slice_get ts (last p))) (nat_le (weight k + depth p) m) no)
      | goal.joined_node-then-weight-room-via-else-weight-room+else-grown-room+then-not-may_begin w ↦
          let no : fits (rule (place_of g) k) (kind_of p) (slice_get ts (last p)) ≡ false = ap (λ r. fits r (kind_of p) (slice_get ts (last p))) (sym (placed g c.args.place k q) ∙ sym c.production-symbols.ensures) ∙ sym w.may_begin.ensures ∙ w.if-not-may_begin.true in
          steps.grow_refused ts m p g k e (and_left (fits (rule (place_of g) k) (kind_of p) (slice_get ts (last p))) (nat_le (weight k + depth p) m) no)
    ]

pub joined_node-returns-in_err-row-2 : goal.joined_node-returns-in_err-row-2
joined_node-returns-in_err-row-2 t c =
    let ts = kinds c.args.tokens.now.tokens in
    let m = c.args.room in
    let k = c.args.kind in
    let xs = c.production-symbols.result in
    let p = view c.args.grown.node in
    let fit : fits (right xs) (kind_of p) (slice_get ts (last p)) ≡ true = sym c.may_begin.ensures ∙ c.if-not-may_begin.false in
    let part = fits_part (right xs) (kind_of p) (slice_get ts (last p)) fit in
    let ys = take 4 (drop 1 xs) in
    let five : length xs ≡ 5 = search rules in
    let rest : right ys ≡ after_first (rule c.args.place k) = ap right (ap (λ n. take (n - 1) (drop 1 xs)) (sym five) ∙ from_one xs) ∙ right_after xs part.0 (after_first (right xs)) part.1 ∙ ap after_first c.production-symbols.ensures in
    let le : weight k + depth p ≤ m = omega (arith, c.if-weight-room.false, c.if-grown-room.false, c.weight.ensures, c.weight-else-weight-room.ensures, c.requires.told) in
    let w : m - c.weight-2.result ≡ m - weight k = ap (λ x. m - x) c.weight-2.ensures in
    let at : c.in_ok-row.row.last ≡ last p = c.in_ok-row.ensures.1 in
    let e = c.in_err-row-2.field-0.0 in
    let P : Type 0 = IsNotJoined ts m c.args.place k p in
    let f : UnlessMemory (stop_refusal e) (λ _. P) = lacks_map (Tends (λ n. spell n ts (m - c.weight-2.result) (right ys) c.in_ok-row.row.last) None) P e (λ r g q o. steps.grow_none ts m p g k o (and_two (fits (rule (place_of g) k) (kind_of p) (slice_get ts (last p))) (nat_le (weight k + depth p) m) (ap (λ z. fits z (kind_of p) (slice_get ts (last p))) (sym (placed g c.args.place k q) ∙ sym c.production-symbols.ensures) ∙ fit) (le-leb (weight k + depth p) m le)) (subst (λ z. Tends (λ n. spell n ts (m - weight k) z (last p)) None) (rest ∙ ap after_first (placed g c.args.place k q)) (subst (λ j. Tends (λ n. spell n ts (m - weight k) (right ys) j) None) at (subst (λ x. Tends (λ n. spell n ts x (right ys) c.in_ok-row.row.last) None) w r)))) c.in_err-row-2.ensures.exact in
    search rules

pub joined_node-returns : goal.joined_node-returns
joined_node-returns t c =
    let ts = kinds c.args.tokens.now.tokens in
    let m = c.args.room in
    let k = c.args.kind in
    let xs = c.production-symbols.result in
    let p = view c.args.grown.node in
    let fit : fits (right xs) (kind_of p) (slice_get ts (last p)) ≡ true = sym c.may_begin.ensures ∙ c.if-not-may_begin.false in
    let part = fits_part (right xs) (kind_of p) (slice_get ts (last p)) fit in
    let ys = take 4 (drop 1 xs) in
    let five : length xs ≡ 5 = search rules in
    let rest : right ys ≡ after_first (rule c.args.place k) = ap right (ap (λ n. take (n - 1) (drop 1 xs)) (sym five) ∙ from_one xs) ∙ right_after xs part.0 (after_first (right xs)) part.1 ∙ ap after_first c.production-symbols.ensures in
    let le : weight k + depth p ≤ m = omega (arith, c.if-weight-room.false, c.if-grown-room.false, c.weight.ensures, c.weight-else-weight-room.ensures, c.requires.told) in
    let w : m - c.weight-2.result ≡ m - weight k = ap (λ x. m - x) c.weight-2.ensures in
    let at : c.in_ok-row.row.last ≡ last p = c.in_ok-row.ensures.1 in
    let row = c.in_ok-row-2.row in
    let ex : IsRowOn (λ n. spell n ts (m - c.weight-2.result) (right ys) c.in_ok-row.row.last) c.in_ok-row.row row = c.in_ok-row-2.ensures.exact in
    let low : IsLow (m - c.weight-2.result) row = c.in_ok-row-2.ensures.low in
    let qs = ex.behind in
    let before : c.in_ok-row.row.parts.items ≡ Some c.args.grown.node ∷ [] = c.in_ok-row.ensures.0 ∙ ap (λ ns. ns ++ Some c.args.grown.node ∷ []) c.empty.ensures.parts in
    let are : views row.parts.items ≡ more p qs = ex.are ∙ ap (λ ns. onto (views ns) qs) before in
    let i : c.first-first.result ≡ first p = c.first-first.ensures in
    let sp : Tends (λ n. spell n ts (m - weight k) (after_first (rule c.args.place k)) (last p)) (Some (qs, row.last)) = subst (λ z. Tends (λ n. spell n ts (m - weight k) z (last p)) (Some (qs, row.last))) rest (subst (λ j. Tends (λ n. spell n ts (m - weight k) (right ys) j) (Some (qs, row.last))) at (subst (λ x. Tends (λ n. spell n ts x (right ys) c.in_ok-row.row.last) (Some (qs, row.last))) w ex.tends)) in
    let st = spelled_stands ts (m - weight k) (after_first (rule c.args.place k)) (last p) qs row.last sp in
    let within_p : last p ≤ length ts = omega (arith, c.requires.ends, length-kinds c.args.tokens.now.tokens) in
    let yes : (g : Category) → place_of g ≡ c.args.place → fits (rule (place_of g) k) (kind_of p) (slice_get ts (last p)) ≡ true = λ g q. ap (λ z. fits z (kind_of p) (slice_get ts (last p))) (sym (placed g c.args.place k q) ∙ sym c.production-symbols.ensures) ∙ fit in
    let spot : (g : Category) → place_of g ≡ c.args.place → Tends (λ n. spell n ts (m - weight k) (after_first (rule (place_of g) k)) (last p)) (Some (qs, row.last)) = λ g q. subst (λ z. Tends (λ n. spell n ts (m - weight k) z (last p)) (Some (qs, row.last))) (ap after_first (placed g c.args.place k q)) sp in
    meets_map (λ e. Some e) stop_refusal c.finished.result (IsFinished k c.first-first.result row) (λ g. IsJoined ts m c.args.place k p g) (λ e. (e ≡ stop.Syntax) × (agrees k (views row.parts.items) ≡ false)) (λ _. IsNotJoined ts m c.args.place k p)
    (λ g fin.
    let u : view g.node ≡ node k (first p) row.last (more p qs) = fin.is ∙ ap (λ z. node k z row.last (views row.parts.items)) i ∙ ap (node k (first p) row.last) are in
    let a : agrees k (more p qs) ≡ true = ap (agrees k) (sym are) ∙ fin.agree in
    let d : depth (view g.node) ≡ weight k + depths (more p qs) = ap depth u in
    let tall : row.levels ≡ depths (more p qs) = low.told ∙ ap depths are in
    record {
      told = omega (arith, fin.levels, d, tall);
      low = omega (arith, fin.levels, low.low, w, le);
      begins = ap first u;
      kind = ap kind_of u;
      later = omega (arith, st.order, ap last u);
      moves = λ s. omega (arith, solid_grows ts qs (after_first (rule c.args.place k)) (last p) row.last s st.spells, ap last u);
      ends = omega (arith, st.ends within_p, ap last u);
      leads = λ g' x q o r. grow_on ts m k p row.last qs g' x o (yes g' q) le (spot g' q) a (subst (λ v. Tends (λ n. grow n ts m g' v) x) u r);
    })
    (λ e no. lacks (IsNotJoined ts m c.args.place k p) e (λ g' q o. steps.grow_disagrees ts m p g' k row.last qs o (and_two (fits (rule (place_of g') k) (kind_of p) (slice_get ts (last p))) (nat_le (weight k + depth p) m) (yes g' q) (le-leb (weight k + depth p) m le)) (spot g' q) (ap (agrees k) (sym are) ∙ no.1)))
    c.finished.ensures

pub optional-returns-in_err-part-clause-exact : goal.optional-returns-in_err-part-clause-exact
optional-returns-in_err-part-clause-exact t c =
    let ts = kinds c.args.tokens.now.tokens in
    let m = c.args.room in
    let g = c.args.category in
    let i = c.args.row.last in
    let e = c.in_err-part.field-0.0 in
    let P : Type 0 = (r : Rule) → Tends (λ n. option n ts m g r i c.args.here) None in
    let f : UnlessMemory (stop_refusal e) (λ _. P) = lacks_map (Tends (λ n. read n ts m g i) None) P e (λ a r. subst (λ b. Tends (λ n. option n ts m g r i b) None) (sym c.if-here.true) (steps.option_off ts m g r i a)) c.in_err-part.ensures in
    search rules

pub optional-returns-in_ok-with-clause-low : goal.optional-returns-in_ok-with-clause-low
optional-returns-in_ok-with-clause-low t c =
    let ts = kinds c.args.tokens.now.tokens in
    let part = c.in_ok-part.part in
    let st = found_stands ts c.args.room c.args.category c.args.row.last (view part.node) c.in_ok-part.ensures.tends in
    low_with c.args.room c.args.row c.in_ok-with.field-0 part c.requires.low c.in_ok-part.ensures.told (omega (arith, st.low, c.in_ok-part.ensures.told)) c.in_ok-with.ensures.0 c.in_ok-with.ensures.2

pub optional-returns-in_ok-with-clause-later : goal.optional-returns-in_ok-with-clause-later
optional-returns-in_ok-with-clause-later t c =
    let ts = kinds c.args.tokens.now.tokens in
    let part = c.in_ok-part.part in
    let st = found_stands ts c.args.room c.args.category c.args.row.last (view part.node) c.in_ok-part.ensures.tends in
    omega (arith, st.grows, c.in_ok-with.ensures.1)

pub optional-returns-in_ok-with-clause-exact : goal.optional-returns-in_ok-with-clause-exact
optional-returns-in_ok-with-clause-exact t c =
    let ts = kinds c.args.tokens.now.tokens in
    let m = c.args.room in
    let g = c.args.category in
    let i = c.args.row.last in
    let part = c.in_ok-part.part in
    let row' = c.in_ok-with.field-0 in
    λ r.
    let f : ℕ → Option (Trees × ℕ) = λ n. option n ts m g r i c.args.here in
    let h : ℕ → Option (Trees × ℕ) = λ n. spell n ts m r row'.last in
    leads_with f f h c.args.row c.args.row row' part.node (leads_begin f c.args.row c.args.row refl) c.in_ok-with.ensures.0 (λ x a. subst (λ b. Tends (λ n. option n ts m g r i b) (behind (view part.node) x)) (sym c.if-here.true) (steps.option_on ts m g r i (view part.node) x c.in_ok-part.ensures.tends (subst (λ j. Tends (λ n. spell n ts m r j) x) c.in_ok-with.ensures.1 a)))

pub optional-returns-in_ok-without-clause-low : goal.optional-returns-in_ok-without-clause-low
optional-returns-in_ok-without-clause-low t c = low_without c.args.room c.args.row c.in_ok-without.field-0 c.requires.low c.in_ok-without.ensures.0 c.in_ok-without.ensures.2

pub optional-returns-in_ok-without-clause-exact : goal.optional-returns-in_ok-without-clause-exact
optional-returns-in_ok-without-clause-exact t c =
    let ts = kinds c.args.tokens.now.tokens in
    let m = c.args.room in
    let g = c.args.category in
    let i = c.args.row.last in
    let row' = c.in_ok-without.field-0 in
    λ r.
    let f : ℕ → Option (Trees × ℕ) = λ n. option n ts m g r i c.args.here in
    let h : ℕ → Option (Trees × ℕ) = λ n. spell n ts m r row'.last in
    leads_without f f h c.args.row c.args.row row' (leads_begin f c.args.row c.args.row refl) c.in_ok-without.ensures.0 (λ x a. subst (λ b. Tends (λ n. option n ts m g r i b) (skipped x)) (sym c.if-here.false) (steps.option_skips ts m g r i x (subst (λ j. Tends (λ n. spell n ts m r j) x) c.in_ok-without.ensures.1 a)))

lag_zero : (xs : List Symbol) → lag xs 0 ≡ 0
lag_zero [] = refl
lag_zero (symbol.Word w ∷ xs) = refl
lag_zero (x ∷ xs) = refl

pub spelled-loop-symbol-init : goal.spelled-loop-symbol-init
spelled-loop-symbol-init t c =
    let ts = kinds c.args.tokens.now.tokens in
    let z : lag c.args.symbols.now 0 ≡ 0 = lag_zero c.args.symbols.now in
    record {
      low = c.requires.low;
      later = omega (arith, z);
      within = λ one. absurd (omega (arith, z, one));
      leads = leads_begin (λ n. spell n ts c.args.room (right c.args.symbols.now) c.args.row.last) c.args.row c.args.row refl;
    }

pub spelled-returns-in_err-so_far-in-Word-clause-exact : goal.spelled-returns-in_err-so_far-in-Word-clause-exact
spelled-returns-in_err-so_far-in-Word-clause-exact t c =
    let ts = kinds c.args.tokens.now.tokens in
    let m = c.args.room in
    let xs = c.args.symbols.now in
    let n0 = c.loop-symbol.symbol-index in
    let row = c.loop-symbol.so_far in
    let d = symbol.Word token.Identifier in
    let w = c.in-Word.word in
    let at : right (drop n0 xs) ≡ prepend w (right (drop (suc n0) xs)) = ap right (drop_get xs n0 d (symbol.Word w) c.loop-symbol-test.true c.in-Word.is) in
    let e = c.in_err-so_far-in-Word.field-0.0 in
    let f : UnlessMemory (stop_refusal e) (λ _. Tends (λ n. spell n ts m (right xs) c.args.row.last) None) = lacks (Tends (λ n. spell n ts m (right xs) c.args.row.last) None) e (c.loop-symbol.invariant.leads.leads None (subst (λ r. Tends (λ n. spell n ts m r row.last) None) (sym at) (steps.word_off ts m (right (drop (suc n0) xs)) w row.last c.in_err-so_far-in-Word.ensures.1))) in
    search rules

pub spelled-returns-in_err-part-in-Part-clause-exact : goal.spelled-returns-in_err-part-in-Part-clause-exact
spelled-returns-in_err-part-in-Part-clause-exact t c =
    let ts = kinds c.args.tokens.now.tokens in
    let m = c.args.room in
    let xs = c.args.symbols.now in
    let n0 = c.loop-symbol.symbol-index in
    let row = c.loop-symbol.so_far in
    let d = symbol.Word token.Identifier in
    let g = c.in-Part.category in
    let at : right (drop n0 xs) ≡ Then [] g (right (drop (suc n0) xs)) = ap right (drop_get xs n0 d (symbol.Part g) c.loop-symbol-test.true c.in-Part.is) in
    let e = c.in_err-part-in-Part.field-0.0 in
    let f : UnlessMemory (stop_refusal e) (λ _. Tends (λ n. spell n ts m (right xs) c.args.row.last) None) = lacks_map (Tends (λ n. read n ts m g row.last) None) (Tends (λ n. spell n ts m (right xs) c.args.row.last) None) e (λ q. c.loop-symbol.invariant.leads.leads None (subst (λ r. Tends (λ n. spell n ts m r row.last) None) (sym at) (steps.part_off ts m g (right (drop (suc n0) xs)) row.last q))) c.in_err-part-in-Part.ensures in
    search rules

pub spelled-returns-in_err-so_far-in-Optional-clause-exact : goal.spelled-returns-in_err-so_far-in-Optional-clause-exact
spelled-returns-in_err-so_far-in-Optional-clause-exact t c =
    let ts = kinds c.args.tokens.now.tokens in
    let m = c.args.room in
    let xs = c.args.symbols.now in
    let n0 = c.loop-symbol.symbol-index in
    let row = c.loop-symbol.so_far in
    let d = symbol.Word token.Identifier in
    let g = c.in-Optional.category in
    let r = right (drop (suc n0) xs) in
    let at : right (drop n0 xs) ≡ Maybe [] g r = ap right (drop_get xs n0 d (symbol.Optional g) c.loop-symbol-test.true c.in-Optional.is) in
    let here : c.begins-here.result ≡ begins g (slice_get ts row.last) = c.begins-here.ensures ∙ ap (begins g) c.kind_at.ensures in
    let e = c.in_err-so_far-in-Optional.field-0.0 in
    let f : UnlessMemory (stop_refusal e) (λ _. Tends (λ n. spell n ts m (right xs) c.args.row.last) None) = lacks_map ((u : Rule) → Tends (λ n. option n ts m g u row.last c.begins-here.result) None) (Tends (λ n. spell n ts m (right xs) c.args.row.last) None) e (λ q. c.loop-symbol.invariant.leads.leads None (subst (λ z. Tends (λ n. spell n ts m z row.last) None) (sym at) (steps.maybe_all ts m g r row.last None (subst (λ b. Tends (λ n. option n ts m g r row.last b) None) here (q r))))) c.in_err-so_far-in-Optional.ensures.exact in
    search rules

pub spelled-returns-in_err-so_far-in-Result-clause-exact : goal.spelled-returns-in_err-so_far-in-Result-clause-exact
spelled-returns-in_err-so_far-in-Result-clause-exact t c =
    let ts = kinds c.args.tokens.now.tokens in
    let m = c.args.room in
    let xs = c.args.symbols.now in
    let n0 = c.loop-symbol.symbol-index in
    let row = c.loop-symbol.so_far in
    let d = symbol.Word token.Identifier in
    let g = category.Result in
    let r = right (drop (suc n0) xs) in
    let at : right (drop n0 xs) ≡ Unless [] g result_words r = ap right (drop_get xs n0 d symbol.Result c.loop-symbol-test.true c.in-Result.is) in
    let e = c.in_err-so_far-in-Result.field-0.0 in
    let f : UnlessMemory (stop_refusal e) (λ _. Tends (λ n. spell n ts m (right xs) c.args.row.last) None) = lacks_map ((u : Rule) → Tends (λ n. option n ts m g u row.last c.begins_result-here.result) None) (Tends (λ n. spell n ts m (right xs) c.args.row.last) None) e (λ q. c.loop-symbol.invariant.leads.leads None (subst (λ z. Tends (λ n. spell n ts m z row.last) None) (sym at) (steps.unless_all ts m g result_words r row.last None (subst (λ b. Tends (λ n. option n ts m g r row.last b) None) c.begins_result-here.ensures (q r))))) c.in_err-so_far-in-Result.ensures.exact in
    search rules

pub spelled-returns-in-Items-clause-exact : goal.spelled-returns-in-Items-clause-exact
spelled-returns-in-Items-clause-exact t c =
    let ts = kinds c.args.tokens.now.tokens in
    let m = c.args.room in
    let xs = c.args.symbols.now in
    let n0 = c.loop-symbol.symbol-index in
    let row = c.loop-symbol.so_far in
    let d = symbol.Word token.Identifier in
    let l = repeated c.in-Items.repetition in
    let f : ℕ → Option (Trees × ℕ) = λ n. spell n ts m (right xs) c.args.row.last in
    let h : ℕ → Option (Trees × ℕ) = λ n. spell n ts m (right (drop n0 xs)) row.last in
    let i : ℕ → Option (Trees × ℕ) = λ n. items n ts m l row.last in
    let at : right (drop n0 xs) ≡ Many [] l = ap right (drop_get xs n0 d (symbol.Items c.in-Items.repetition) c.loop-symbol-test.true c.in-Items.is) in
    let same : (x : Option (Trees × ℕ)) → Tends i x → Tends h x = λ x a. subst (λ r. Tends (λ n. spell n ts m r row.last) x) (sym at) (steps.many_all ts m l row.last x a) in
    meets_map stop_refusal stop_refusal c.items.result (λ r. IsRowOn i row r) (λ r. IsRowOn f c.args.row r) (λ _. Tends i None) (λ _. Tends f None)
    (λ r on. leads_to f h c.args.row row r c.loop-symbol.invariant.leads (row_on h i row r same on))
    (λ e. lacks_map (Tends i None) (Tends f None) e (λ a. c.loop-symbol.invariant.leads.leads None (same None a)))
    c.items.ensures.exact

pub spelled-returns-in-End-clause-exact : goal.spelled-returns-in-End-clause-exact
spelled-returns-in-End-clause-exact t c =
    let ts = kinds c.args.tokens.now.tokens in
    let m = c.args.room in
    let xs = c.args.symbols.now in
    let n0 = c.loop-symbol.symbol-index in
    let row = c.loop-symbol.so_far in
    let d = symbol.Word token.Identifier in
    let f : ℕ → Option (Trees × ℕ) = λ n. spell n ts m (right xs) c.args.row.last in
    let h : ℕ → Option (Trees × ℕ) = λ n. spell n ts m (right (drop n0 xs)) row.last in
    let at : right (drop n0 xs) ≡ End [] = ap right (drop_get xs n0 d symbol.End c.loop-symbol-test.true c.in-End.is) in
    leads_end f h c.args.row row row c.loop-symbol.invariant.leads refl (subst (λ r. Tends (λ n. spell n ts m r row.last) (Some (none, row.last))) (sym at) (steps.end_all ts m row.last))

pub spelled-returns-clause-exact : goal.spelled-returns-clause-exact
spelled-returns-clause-exact t c =
    let ts = kinds c.args.tokens.now.tokens in
    let m = c.args.room in
    let xs = c.args.symbols.now in
    let n0 = c.loop-symbol.symbol-index in
    let row = c.loop-symbol.so_far in
    let f : ℕ → Option (Trees × ℕ) = λ n. spell n ts m (right xs) c.args.row.last in
    let h : ℕ → Option (Trees × ℕ) = λ n. spell n ts m (right (drop n0 xs)) row.last in
    let at : right (drop n0 xs) ≡ End [] = ap right (drop_past xs n0 c.loop-symbol-test.false) in
    leads_end f h c.args.row row row c.loop-symbol.invariant.leads refl (subst (λ r. Tends (λ n. spell n ts m r row.last) (Some (none, row.last))) (sym at) (steps.end_all ts m row.last))

abbrev word_weight : Symbol → ℕ
word_weight (symbol.Word w) = 1
word_weight x = 0

lag_low : (xs : List Symbol) (n : ℕ) → lag xs n ≤ 1
lag_low [] n = omega arith
lag_low (symbol.Word w ∷ xs) zero = omega arith
lag_low (symbol.Word w ∷ xs) (suc n) = omega arith
lag_low (x ∷ xs) n = omega arith

-- one symbol further, the lag grows at a first word alone
lag_step : (xs : List Symbol) (n : ℕ) (x : Symbol) (ys : List Symbol) → drop n xs ≡ x ∷ ys → lag xs (suc n) ≤ lag xs n + word_weight x
lag_step [] zero x ys e = cc
lag_step [] (suc n) x ys e = cc
lag_step (symbol.Word w ∷ zs) zero x ys e = let same : symbol.Word w ≡ x = cc in subst (λ z. 1 ≤ 0 + word_weight z) same (omega arith)
lag_step (symbol.Word w ∷ zs) (suc n) x ys e = omega arith
lag_step (z ∷ zs) n x ys e = omega arith

weight_one : (z : Symbol) → 1 ≤ word_weight z → word_weight z ≡ 1
weight_one (symbol.Word w) h = refl
weight_one z h = absurd (omega (arith, h))

-- the place in the row, one symbol further
record Further (xs : List Symbol) (n0 big before now after : ℕ) : Type 0 where
  later : before + lag xs (n0 + 1) ≤ after
  within : lag xs (n0 + 1) ≡ 1 → before < big

further : (xs : List Symbol) (n0 big before now after : ℕ) (x : Symbol) (ys : List Symbol) → drop n0 xs ≡ x ∷ ys → before + lag xs n0 ≤ now → (lag xs n0 ≡ 1 → before < big) → now + word_weight x ≤ after → (word_weight x ≡ 1 → now < big) → Further xs n0 big before now after
further xs n0 big before now after x ys e late inside moved there =
    let step : lag xs (n0 + 1) ≤ lag xs n0 + word_weight x = subst (λ n. lag xs n ≤ lag xs n0 + word_weight x) (sym (add-one n0)) (lag_step xs n0 x ys e) in
    record {
      later = omega (arith, step, late, moved);
      within = λ one. go (lag xs n0) (word_weight x) refl refl (lag_low xs n0) (omega (arith, step, one));
    }
  where
    go : (a b : ℕ) → lag xs n0 ≡ a → word_weight x ≡ b → lag xs n0 ≤ 1 → 1 ≤ lag xs n0 + word_weight x → before < big
    go zero zero p q le h = absurd (omega (arith, p, q, h))
    go zero (suc b) p q le h = let w : word_weight x ≡ 1 = weight_one x (omega (arith, q)) in omega (arith, there w, late)
    go (suc a) b p q le h = inside (omega (arith, p, le))

pub spelled-loop-symbol-preserved : goal.spelled-loop-symbol-preserved
spelled-loop-symbol-preserved t c =
    let ts = kinds c.args.tokens.now.tokens in
    let big = length c.args.tokens.now.tokens in
    let m = c.args.room in
    let xs = c.args.symbols.now in
    let n0 = c.loop-symbol.symbol-index in
    let inv = c.loop-symbol.invariant in
    let row = c.loop-symbol.so_far in
    let d = symbol.Word token.Identifier in
    let row' = c.match-symbol.so_far in
    let r = right (drop (suc n0) xs) in
    let f : ℕ → Option (Trees × ℕ) = λ n. spell n ts m (right xs) c.args.row.last in
    let h : ℕ → Option (Trees × ℕ) = λ n. spell n ts m (right (drop n0 xs)) row.last in
    let h' : ℕ → Option (Trees × ℕ) = λ n. spell n ts m (right (drop (n0 + 1) xs)) row'.last in
    let next_r : right (drop (n0 + 1) xs) ≡ r = ap (λ n. right (drop n xs)) (add-one n0) in
    elim c.match-symbol.branch [
      | goal.spelled-in-Word+in_ok-so_far-in-Word v ↦
          let w = v.in-Word.word in
          let got : drop n0 xs ≡ symbol.Word w ∷ drop (suc n0) xs = drop_get xs n0 d (symbol.Word w) c.loop-symbol-test.true v.in-Word.is in
          let at : right (drop n0 xs) ≡ prepend w r = ap right got in
          let place : row'.last ≡ v.in_ok-so_far-in-Word.field-0 = ap (λ z. z.last) v.so_far-is in
          let e : words ts row.last (w ∷ []) ≡ Some row'.last = v.in_ok-so_far-in-Word.ensures ∙ ap Some (sym place) in
          let here = word_behind ts row.last row'.last w e in
          let step : (x : Option (Trees × ℕ)) → Tends h' x → Tends h x = λ x a. subst (λ q. Tends (λ n. spell n ts m q row.last) x) (sym at) (steps.word_on ts m r w row.last row'.last x e (subst (λ q. Tends (λ n. spell n ts m q row'.last) x) next_r a)) in
          let fu = further xs n0 big c.args.row.last row.last row'.last (symbol.Word w) (drop (suc n0) xs) got inv.later inv.within (omega (arith, here.1)) (λ one. token_within c.args.tokens.now.tokens row.last w here.0) in
          record {
            low = subst (IsLow m) (sym v.so_far-is) (record { told = inv.low.told; low = inv.low.low });
            later = fu.later;
            within = fu.within;
            leads = leads_same f h h' c.args.row row row' inv.leads (ap (λ z. z.parts.items) v.so_far-is) step;
          }
      | goal.spelled-in-Part+in_ok-part-in-Part+in_ok-so_far-in-Part v ↦
          let g = v.in-Part.category in
          let part = v.in_ok-part-in-Part.part in
          let grown = v.in_ok-so_far-in-Part.ensures in
          let got : drop n0 xs ≡ symbol.Part g ∷ drop (suc n0) xs = drop_get xs n0 d (symbol.Part g) c.loop-symbol-test.true v.in-Part.is in
          let at : right (drop n0 xs) ≡ Then [] g r = ap right got in
          let place : row'.last ≡ last (view part.node) = ap (λ z. z.last) v.so_far-is ∙ grown.1 in
          let items : row'.parts.items ≡ row.parts.items ++ Some part.node ∷ [] = ap (λ z. z.parts.items) v.so_far-is ∙ grown.0 in
          let levels : row'.levels ≡ max row.levels part.depth = ap (λ z. z.levels) v.so_far-is ∙ grown.2 in
          let found = v.in_ok-part-in-Part.ensures in
          let st = found_stands ts m g row.last (view part.node) found.tends in
          let step : (x : Option (Trees × ℕ)) → Tends h' x → Tends h (behind (view part.node) x) = λ x a. subst (λ q. Tends (λ n. spell n ts m q row.last) (behind (view part.node) x)) (sym at) (steps.part_on ts m g r row.last (view part.node) x found.tends (subst (λ j. Tends (λ n. spell n ts m r j) x) place (subst (λ q. Tends (λ n. spell n ts m q row'.last) x) next_r a))) in
          let fu = further xs n0 big c.args.row.last row.last row'.last (symbol.Part g) (drop (suc n0) xs) got inv.later inv.within (omega (arith, st.grows, place)) (λ one. absurd (omega (arith, one))) in
          record {
            low = low_with m row row' part inv.low found.told (omega (arith, st.low, found.told)) items levels;
            later = fu.later;
            within = fu.within;
            leads = leads_with f h h' c.args.row row row' part.node inv.leads items step;
          }
      | goal.spelled-in-Optional+in_ok-so_far-in-Optional v ↦
          let g = v.in-Optional.category in
          let opt = v.in_ok-so_far-in-Optional.so_far in
          let exact = v.in_ok-so_far-in-Optional.ensures.exact r in
          let got : drop n0 xs ≡ symbol.Optional g ∷ drop (suc n0) xs = drop_get xs n0 d (symbol.Optional g) c.loop-symbol-test.true v.in-Optional.is in
          let at : right (drop n0 xs) ≡ Maybe [] g r = ap right got in
          let here : v.begins-here.result ≡ begins g (slice_get ts row.last) = v.begins-here.ensures ∙ ap (begins g) v.kind_at.ensures in
          let on : LeadsOn h (λ n. spell n ts m r opt.last) row opt = record {
            behind = exact.behind;
            are = exact.are;
            leads = λ x a. subst (λ q. Tends (λ n. spell n ts m q row.last) (prefix exact.behind x)) (sym at) (steps.maybe_all ts m g r row.last (prefix exact.behind x) (subst (λ b. Tends (λ n. option n ts m g r row.last b) (prefix exact.behind x)) here (exact.leads x a)));
          } in
          let both : LeadsOn f (λ n. spell n ts m r opt.last) c.args.row opt = leads_leads f h (λ n. spell n ts m r opt.last) c.args.row row opt inv.leads on in
          let both' : LeadsOn f (λ n. spell n ts m (right (drop (n0 + 1) xs)) opt.last) c.args.row opt = subst (λ q. LeadsOn f (λ n. spell n ts m q opt.last) c.args.row opt) (sym next_r) both in
          let later : row.last ≤ row'.last = omega (arith, v.in_ok-so_far-in-Optional.ensures.later, ap (λ z. z.last) v.so_far-is) in
          let fu = further xs n0 big c.args.row.last row.last row'.last (symbol.Optional g) (drop (suc n0) xs) got inv.later inv.within (omega (arith, later)) (λ one. absurd (omega (arith, one))) in
          record {
            low = subst (IsLow m) (sym v.so_far-is) v.in_ok-so_far-in-Optional.ensures.low;
            later = fu.later;
            within = fu.within;
            leads = subst (λ z. LeadsOn f (λ n. spell n ts m (right (drop (n0 + 1) xs)) z.last) c.args.row z) (sym v.so_far-is) both';
          }
      | goal.spelled-in-Result+in_ok-so_far-in-Result v ↦
          let g = category.Result in
          let opt = v.in_ok-so_far-in-Result.so_far in
          let exact = v.in_ok-so_far-in-Result.ensures.exact r in
          let got : drop n0 xs ≡ symbol.Result ∷ drop (suc n0) xs = drop_get xs n0 d symbol.Result c.loop-symbol-test.true v.in-Result.is in
          let at : right (drop n0 xs) ≡ Unless [] g result_words r = ap right got in
          let on : LeadsOn h (λ n. spell n ts m r opt.last) row opt = record {
            behind = exact.behind;
            are = exact.are;
            leads = λ x a. subst (λ q. Tends (λ n. spell n ts m q row.last) (prefix exact.behind x)) (sym at) (steps.unless_all ts m g result_words r row.last (prefix exact.behind x) (subst (λ b. Tends (λ n. option n ts m g r row.last b) (prefix exact.behind x)) v.begins_result-here.ensures (exact.leads x a)));
          } in
          let both : LeadsOn f (λ n. spell n ts m r opt.last) c.args.row opt = leads_leads f h (λ n. spell n ts m r opt.last) c.args.row row opt inv.leads on in
          let both' : LeadsOn f (λ n. spell n ts m (right (drop (n0 + 1) xs)) opt.last) c.args.row opt = subst (λ q. LeadsOn f (λ n. spell n ts m q opt.last) c.args.row opt) (sym next_r) both in
          let later : row.last ≤ row'.last = omega (arith, v.in_ok-so_far-in-Result.ensures.later, ap (λ z. z.last) v.so_far-is) in
          let fu = further xs n0 big c.args.row.last row.last row'.last symbol.Result (drop (suc n0) xs) got inv.later inv.within (omega (arith, later)) (λ one. absurd (omega (arith, one))) in
          record {
            low = subst (IsLow m) (sym v.so_far-is) v.in_ok-so_far-in-Result.ensures.low;
            later = fu.later;
            within = fu.within;
            leads = subst (λ z. LeadsOn f (λ n. spell n ts m (right (drop (n0 + 1) xs)) z.last) c.args.row z) (sym v.so_far-is) both';
          }
    ]

pub items-loop-alloc-init : goal.items-loop-alloc-init
items-loop-alloc-init t c =
    let ts = kinds c.args.tokens.now.tokens in
    let l = repeated c.args.repetition in
    record {
      low = c.requires.low;
      told = c.turn-turned.ensures ∙ ap (turn l) c.kind_at.ensures;
      later = omega arith;
      leads = leads_begin (λ n. items n ts c.args.room l c.args.row.last) c.args.row c.args.row refl;
    }

pub items-overflow_add-so_far : goal.items-overflow_add-so_far
items-overflow_add-so_far t c =
    let ts0 = c.args.tokens.now.tokens in
    let l = repeated c.args.repetition in
    let p : c.loop-alloc.turned ≡ Pass = turn_passes c.loop-alloc.turned (sym c.is_pass.ensures ∙ c.if-is_pass.true) in
    let th = pass_there l (slice_get (kinds ts0) c.loop-alloc.so_far.last) (sym c.loop-alloc.invariant.told ∙ p) in
    omega (arith, token_within ts0 c.loop-alloc.so_far.last th.0 th.1, c.requires.size)

pub items-returns-in_err-part-clause-exact : goal.items-returns-in_err-part-clause-exact
items-returns-in_err-part-clause-exact t c =
    let ts = kinds c.args.tokens.now.tokens in
    let m = c.args.room in
    let l = repeated c.args.repetition in
    let i = c.loop-alloc.so_far.last in
    let it : turn l (slice_get ts i) ≡ Item = sym c.loop-alloc.invariant.told ∙ turn_item c.loop-alloc.turned (sym c.is_stop.ensures ∙ c.loop-alloc-test.true) (sym c.is_pass.ensures ∙ c.if-is_pass.false) in
    let place : c.lead-at.result ≡ lead l i = c.lead-at.ensures.place it in
    let e = c.in_err-part.field-0.0 in
    let P : Type 0 = Tends (λ n. items n ts m l c.args.row.last) None in
    let f : UnlessMemory (stop_refusal e) (λ _. P) = lacks_map (Tends (λ n. read n ts m c.item.result c.lead-at.result) None) P e (λ r. c.loop-alloc.invariant.leads.leads None (steps.item_off ts m l i it (subst (λ g. Tends (λ n. read n ts m g (lead l i)) None) c.item.ensures (subst (λ j. Tends (λ n. read n ts m c.item.result j) None) place r)))) c.in_err-part.ensures in
    search rules

pub items-returns-in-Done-clause-low : goal.items-returns-in-Done-clause-low
items-returns-in-Done-clause-low t c =
    let ts = kinds c.args.tokens.now.tokens in
    let m = c.args.room in
    let part = c.in_ok-part.part in
    let found = c.in_ok-part.ensures in
    let st = found_stands ts m c.item.result c.lead-at.result (view part.node) found.tends in
    let low = low_with m c.loop-alloc.so_far c.in_ok-so_far.so_far part c.loop-alloc.invariant.low found.told (omega (arith, st.low, found.told)) c.in_ok-so_far.ensures.0 c.in_ok-so_far.ensures.2 in
    record { told = low.told; low = low.low }

pub items-returns-in-Done-clause-exact : goal.items-returns-in-Done-clause-exact
items-returns-in-Done-clause-exact t c =
    let ts = kinds c.args.tokens.now.tokens in
    let m = c.args.room in
    let l = repeated c.args.repetition in
    let row = c.loop-alloc.so_far in
    let i = row.last in
    let p = view c.in_ok-part.part.node in
    let it : turn l (slice_get ts i) ≡ Item = sym c.loop-alloc.invariant.told ∙ turn_item c.loop-alloc.turned (sym c.is_stop.ensures ∙ c.loop-alloc-test.true) (sym c.is_pass.ensures ∙ c.if-is_pass.false) in
    let place : c.lead-at.result ≡ lead l i = c.lead-at.ensures.place it in
    let a : Tends (λ n. read n ts m (item l) (lead l i)) (Some p) = subst (λ g. Tends (λ n. read n ts m g (lead l i)) (Some p)) c.item.ensures (subst (λ j. Tends (λ n. read n ts m c.item.result j) (Some p)) place c.in_ok-part.ensures.tends) in
    let done : next ts l (last p) ≡ Done c.in-Done.end = ap (next ts l) (sym c.in_ok-so_far.ensures.1) ∙ sym c.following.ensures ∙ c.in-Done.is in
    let f : ℕ → Option (Trees × ℕ) = λ n. items n ts m l c.args.row.last in
    let g : ℕ → Option (Trees × ℕ) = λ n. items n ts m l i in
    let row' : Row = record { parts = c.in_ok-so_far.so_far.parts; last = c.in-Done.end; levels = c.in_ok-so_far.so_far.levels } in
    leads_to f g c.args.row row row' c.loop-alloc.invariant.leads (record {
      behind = more p none;
      are = ap views c.in_ok-so_far.ensures.0 ∙ views_push row.parts.items (Some c.in_ok-part.part.node);
      tends = steps.item_done ts m l i c.in-Done.end p it a done;
    })

pub items-returns-in-Wrong-clause-exact : goal.items-returns-in-Wrong-clause-exact
items-returns-in-Wrong-clause-exact t c =
    let ts = kinds c.args.tokens.now.tokens in
    let m = c.args.room in
    let l = repeated c.args.repetition in
    let i = c.loop-alloc.so_far.last in
    let p = view c.in_ok-part.part.node in
    let it : turn l (slice_get ts i) ≡ Item = sym c.loop-alloc.invariant.told ∙ turn_item c.loop-alloc.turned (sym c.is_stop.ensures ∙ c.loop-alloc-test.true) (sym c.is_pass.ensures ∙ c.if-is_pass.false) in
    let place : c.lead-at.result ≡ lead l i = c.lead-at.ensures.place it in
    let a : Tends (λ n. read n ts m (item l) (lead l i)) (Some p) = subst (λ g. Tends (λ n. read n ts m g (lead l i)) (Some p)) c.item.ensures (subst (λ j. Tends (λ n. read n ts m c.item.result j) (Some p)) place c.in_ok-part.ensures.tends) in
    let wrong : next ts l (last p) ≡ Wrong = ap (next ts l) (sym c.in_ok-so_far.ensures.1) ∙ sym c.following.ensures ∙ c.in-Wrong.is in
    c.loop-alloc.invariant.leads.leads None (steps.item_wrong ts m l i p it a wrong)

pub items-loop-alloc-smaller : goal.items-loop-alloc-smaller
items-loop-alloc-smaller t c =
    let ts0 = c.args.tokens.now.tokens in
    let ts = kinds ts0 in
    let m = c.args.room in
    let l = repeated c.args.repetition in
    let i = c.loop-alloc.so_far.last in
    elim c.if-is_pass.branch [
      | goal.items-then-is_pass w ↦
          let p : c.loop-alloc.turned ≡ Pass = turn_passes c.loop-alloc.turned (sym c.is_pass.ensures ∙ w.if-is_pass.true) in
          let th = pass_there l (slice_get ts i) (sym c.loop-alloc.invariant.told ∙ p) in
          let less : length ts0 - c.if-is_pass.so_far.last < length ts0 - i = omega (arith, token_within ts0 i th.0 th.1, ap (λ z. z.last) w.so_far-is) in
          less
      | goal.items-else-is_pass+in_ok-part+in_ok-so_far+in-On w ↦
          let p = view w.in_ok-part.part.node in
          let st = found_stands ts m w.item.result w.lead-at.result p w.in_ok-part.ensures.tends in
          let on : next ts l (last p) ≡ On w.in-On.next = ap (next ts l) (sym w.in_ok-so_far.ensures.1) ∙ sym w.following.ensures ∙ w.in-On.is in
          let k = next_on ts l (last p) w.in-On.next on st.ends in
          let less : length ts0 - c.if-is_pass.so_far.last < length ts0 - i = omega (arith, st.grows, w.lead-at.ensures.later, k.0, k.1, length-kinds ts0, ap (λ z. z.last) w.so_far-is) in
          less
    ]

pub items-loop-alloc-preserved : goal.items-loop-alloc-preserved
items-loop-alloc-preserved t c =
    let ts0 = c.args.tokens.now.tokens in
    let ts = kinds ts0 in
    let m = c.args.room in
    let l = repeated c.args.repetition in
    let inv = c.loop-alloc.invariant in
    let row = c.loop-alloc.so_far in
    let i = row.last in
    let row' = c.if-is_pass.so_far in
    let f : ℕ → Option (Trees × ℕ) = λ n. items n ts m l c.args.row.last in
    let g : ℕ → Option (Trees × ℕ) = λ n. items n ts m l i in
    let g' : ℕ → Option (Trees × ℕ) = λ n. items n ts m l row'.last in
    let told' : c.turn-turned-in-loop-alloc.result ≡ turn l (slice_get ts row'.last) = c.turn-turned-in-loop-alloc.ensures ∙ ap (turn l) c.kind_at-in-loop-alloc.ensures in
    elim c.if-is_pass.branch [
      | goal.items-then-is_pass w ↦
          let p : turn l (slice_get ts i) ≡ Pass = sym inv.told ∙ turn_passes c.loop-alloc.turned (sym c.is_pass.ensures ∙ w.if-is_pass.true) in
          let place : row'.last ≡ suc i = ap (λ z. z.last) w.so_far-is ∙ add-one i in
          record {
            low = subst (IsLow m) (sym w.so_far-is) (record { told = inv.low.told; low = inv.low.low });
            told = told';
            later = omega (arith, inv.later, place);
            leads = leads_same f g g' c.args.row row row' inv.leads (ap (λ z. z.parts.items) w.so_far-is) (λ x a. steps.pass_on ts m l i row'.last x p place a);
          }
      | goal.items-else-is_pass+in_ok-part+in_ok-so_far+in-On w ↦
          let part = w.in_ok-part.part in
          let p = view part.node in
          let found = w.in_ok-part.ensures in
          let st = found_stands ts m w.item.result w.lead-at.result p found.tends in
          let it : turn l (slice_get ts i) ≡ Item = sym inv.told ∙ turn_item c.loop-alloc.turned (sym c.is_stop.ensures ∙ c.loop-alloc-test.true) (sym c.is_pass.ensures ∙ w.if-is_pass.false) in
          let place : w.lead-at.result ≡ lead l i = w.lead-at.ensures.place it in
          let a : Tends (λ n. read n ts m (item l) (lead l i)) (Some p) = subst (λ z. Tends (λ n. read n ts m z (lead l i)) (Some p)) w.item.ensures (subst (λ j. Tends (λ n. read n ts m w.item.result j) (Some p)) place found.tends) in
          let on : next ts l (last p) ≡ On w.in-On.next = ap (next ts l) (sym w.in_ok-so_far.ensures.1) ∙ sym w.following.ensures ∙ w.in-On.is in
          let here : row'.last ≡ w.in-On.next = ap (λ z. z.last) w.so_far-is in
          let on' : next ts l (last p) ≡ On row'.last = on ∙ ap On (sym here) in
          let k = next_on ts l (last p) w.in-On.next on st.ends in
          let items' : row'.parts.items ≡ row.parts.items ++ Some part.node ∷ [] = ap (λ z. z.parts.items) w.so_far-is ∙ w.in_ok-so_far.ensures.0 in
          let levels : row'.levels ≡ max row.levels part.depth = ap (λ z. z.levels) w.so_far-is ∙ w.in_ok-so_far.ensures.2 in
          record {
            low = low_with m row row' part inv.low found.told (omega (arith, st.low, found.told)) items' levels;
            told = told';
            later = omega (arith, inv.later, st.grows, w.lead-at.ensures.later, k.0, here);
            leads = leads_with f g g' c.args.row row row' part.node inv.leads items' (λ x b. steps.item_on ts m l i row'.last p x it a on' b);
          }
    ]

pub items-returns-in_err-so_far-2-clause-exact : goal.items-returns-in_err-so_far-2-clause-exact
items-returns-in_err-so_far-2-clause-exact t c =
    let ts = kinds c.args.tokens.now.tokens in
    let m = c.args.room in
    let l = repeated c.args.repetition in
    let i = c.loop-alloc.so_far.last in
    let st : turn l (slice_get ts i) ≡ Stop = sym c.loop-alloc.invariant.told ∙ turn_stops c.loop-alloc.turned (sym c.is_stop.ensures ∙ c.loop-alloc-test.false) in
    let e = c.in_err-so_far-2.field-0.0 in
    let P : Type 0 = Tends (λ n. items n ts m l c.args.row.last) None in
    let f : UnlessMemory (stop_refusal e) (λ _. P) = lacks P e (c.loop-alloc.invariant.leads.leads None (steps.stop_off ts m l i st c.in_err-so_far-2.ensures.1)) in
    search rules

pub items-returns-clause-exact : goal.items-returns-clause-exact
items-returns-clause-exact t c =
    let ts = kinds c.args.tokens.now.tokens in
    let m = c.args.room in
    let l = repeated c.args.repetition in
    let row = c.loop-alloc.so_far in
    let i = row.last in
    let j = c.in_ok-so_far-2.field-0 in
    let st : turn l (slice_get ts i) ≡ Stop = sym c.loop-alloc.invariant.told ∙ turn_stops c.loop-alloc.turned (sym c.is_stop.ensures ∙ c.loop-alloc-test.false) in
    let row' : Row = record { parts = row.parts; last = j; levels = row.levels } in
    leads_end (λ n. items n ts m l c.args.row.last) (λ n. items n ts m l i) c.args.row row row' c.loop-alloc.invariant.leads refl (steps.stop_on ts m l i j st c.in_ok-so_far-2.ensures)

pub tree-returns-in_default : goal.tree-returns-in_default
tree-returns-in_default t c =
    let ts = kinds c.args.tokens.now.tokens in
    let no_word : slice_get ts c.args.at ≡ None = search rules in
    steps.read_nothing ts c.args.room c.args.category c.args.at (ap (opens_before c.args.category) no_word)

pub tree-returns-in_default-opened : goal.tree-returns-in_default-opened
tree-returns-in_default-opened t c =
    let ts = kinds c.args.tokens.now.tokens in
    let word : slice_get ts c.args.at ≡ Some c.in-Some.word = sym c.kind_at.ensures ∙ c.in-Some.is in
    let nothing : c.opened.result ≡ None = search rules in
    steps.read_nothing ts c.args.room c.args.category c.args.at (ap (opens_before c.args.category) word ∙ sym c.opened.ensures ∙ nothing)

pub tree-opened_node-requires : goal.tree-opened_node-requires
tree-opened_node-requires t c =
    let ts = kinds c.args.tokens.now.tokens in
    let g = c.args.category in
    let k = c.in-Some-opened.kind in
    let word : slice_get ts c.args.at ≡ Some c.in-Some.word = sym c.kind_at.ensures ∙ c.in-Some.is in
    let o : opens_before g (slice_get ts c.args.at) ≡ Some k = ap (opens_before g) word ∙ sym c.opened.ensures ∙ c.in-Some-opened.is in
    let worded : is_worded (rule c.place.result k) ≡ true = ap (λ q. is_worded (rule q k)) c.place.ensures ∙ opened_words g (slice_get ts c.args.at) k o in
    search rules

pub tree-loop-kind-init : goal.tree-loop-kind-init
tree-loop-kind-init t c =
    let ts = kinds c.args.tokens.now.tokens in
    let g = c.args.category in
    let k = c.in-Some-opened.kind in
    let word : slice_get ts c.args.at ≡ Some c.in-Some.word = sym c.kind_at.ensures ∙ c.in-Some.is in
    let o : opens_before g (slice_get ts c.args.at) ≡ Some k = ap (opens_before g) word ∙ sym c.opened.ensures ∙ c.in-Some-opened.is in
    let is = c.in_ok-grown.ensures in
    record {
      told = is.told;
      low = is.low;
      begins = is.begins;
      grows = is.grows;
      ends = omega (arith, is.ends, length-kinds c.args.tokens.now.tokens);
      leads = λ x r. is.leads g x (sym c.place.ensures) o r;
    }

pub tree-returns-in_err-grown-2 : goal.tree-returns-in_err-grown-2
tree-returns-in_err-grown-2 t c =
    let ts = kinds c.args.tokens.now.tokens in
    let m = c.args.room in
    let g = c.args.category in
    let i = c.args.at in
    let k = c.in-Some-next_kind.kind in
    let p = view c.loop-kind.grown.node in
    let e = c.in_err-grown-2.field-0.0 in
    let next : continues g (kind_of p) (slice_get ts (last p)) ≡ Some k = sym c.next_kind.ensures ∙ c.in-Some-next_kind.is in
    let f : UnlessMemory (stop_refusal e) (λ _. Tends (λ n. read n ts m g i) None) = lacks_map (IsNotJoined ts m c.place-in-Some-next_kind.result k p) (Tends (λ n. read n ts m g i) None) e (λ r. c.loop-kind.invariant.leads None (r g (sym c.place-in-Some-next_kind.ensures) next)) c.in_err-grown-2.ensures in
    search rules

ranked : (c : Category) (k l : Kind) (w : Option TokenKind) (big a b d : ℕ) (p : Place) → place_of c ≡ p → continues c k w ≡ Some l → (is_solid (after_first (rule p l)) ≡ true → a < b) → a ≤ b → b ≤ big → d ≡ rank l → 8 * (big - b) + d < 8 * (big - a) + rank k
ranked c k l w big a b d p e o moves later ends same = elim (joined_ranks c k l w o) [
  | inl lt ↦ omega (arith, lt, later, ends, same)
  | inr s ↦ let s' : is_solid (after_first (rule p l)) ≡ true = subst (λ q. is_solid (after_first (rule q l)) ≡ true) e s in omega (arith, moves s', ends, same, rank_low l)
]

pub tree-loop-kind-smaller : goal.tree-loop-kind-smaller
tree-loop-kind-smaller t c =
    let ts = kinds c.args.tokens.now.tokens in
    let g = c.args.category in
    let k = c.in-Some-next_kind.kind in
    let p = view c.loop-kind.grown.node in
    let is = c.in_ok-grown-2.ensures in
    let next : continues g (kind_of p) (slice_get ts (last p)) ≡ Some k = sym c.next_kind.ensures ∙ c.in-Some-next_kind.is in
    ranked g (kind_of p) k (slice_get ts (last p)) (length c.args.tokens.now.tokens) (last p) (last (view c.in_ok-grown-2.grown.node)) (rank (kind_of (view c.in_ok-grown-2.grown.node))) c.place-in-Some-next_kind.result (sym c.place-in-Some-next_kind.ensures) next is.moves is.later (omega (arith, is.ends, length-kinds c.args.tokens.now.tokens)) (ap rank is.kind)

pub tree-loop-kind-preserved : goal.tree-loop-kind-preserved
tree-loop-kind-preserved t c =
    let ts = kinds c.args.tokens.now.tokens in
    let g = c.args.category in
    let k = c.in-Some-next_kind.kind in
    let p = view c.loop-kind.grown.node in
    let is = c.in_ok-grown-2.ensures in
    let next : continues g (kind_of p) (slice_get ts (last p)) ≡ Some k = sym c.next_kind.ensures ∙ c.in-Some-next_kind.is in
    record {
      told = is.told;
      low = is.low;
      begins = is.begins ∙ c.loop-kind.invariant.begins;
      grows = omega (arith, is.later, c.loop-kind.invariant.grows);
      ends = omega (arith, is.ends, length-kinds c.args.tokens.now.tokens);
      leads = λ x r. c.loop-kind.invariant.leads x (is.leads g x (sym c.place-in-Some-next_kind.ensures) next r);
    }

pub tree-returns-then-is_whole : goal.tree-returns-then-is_whole
tree-returns-then-is_whole t c =
    let ts = kinds c.args.tokens.now.tokens in
    let g = c.args.category in
    let p = view c.loop-kind.grown.node in
    let over : continues g (kind_of p) (slice_get ts (last p)) ≡ None = search rules in
    let w : within g (kind_of p) && ends g (kind_of p) (slice_get ts (last p)) ≡ true = sym c.is_whole.ensures ∙ c.if-is_whole.true in
    record {
      told = c.loop-kind.invariant.told;
      tends = c.loop-kind.invariant.leads (Some p) (steps.grow_whole ts c.args.room p g over w);
    }

pub tree-returns-else-is_whole : goal.tree-returns-else-is_whole
tree-returns-else-is_whole t c =
    let ts = kinds c.args.tokens.now.tokens in
    let g = c.args.category in
    let p = view c.loop-kind.grown.node in
    let over : continues g (kind_of p) (slice_get ts (last p)) ≡ None = search rules in
    let w : within g (kind_of p) && ends g (kind_of p) (slice_get ts (last p)) ≡ false = sym c.is_whole.ensures ∙ c.if-is_whole.false in
    c.loop-kind.invariant.leads None (steps.grow_other ts c.args.room p g over w)
