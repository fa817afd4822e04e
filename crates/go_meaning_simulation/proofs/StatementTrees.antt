-- Statements that are kin: the new one follows the old one, from the frames of the scope before it to those of the scope behind it.
use Rattle.std.proofs.Common.{◌≡◌, ℕ, suc, ◌+◌, ◌≤◌, List, [], ◌∷◌, ◌++◌, refl, sym, ap, subst, arith, take, drop, replicate, Option, Some}
use Rattle.std.specs.Prelude.{Bool, true, false}
use Rattle.go_types_relations.specs.Zeros.{nil_function}
use Rattle.go_types.specs.Trees.{TypeTree}
use Rattle.go_types.specs.Relations.{Rights}
use Rattle.go_typed.specs.declared.form.Form.{Form}
use Rattle.go_typed.specs.declared.form.Form.TheVariants as form
use Rattle.go_typed.specs.Trees.{Label, Typed, typed, Typeds}
use Rattle.go_typed.specs.Trees as trees
use Rattle.go_meaning.specs.Values.{Value, Truth, NilFunction, nth, zero_value}
use Rattle.go_meaning.specs.Computations.{Return, Break, Continue, Fallthrough, Comp, end_by, give, then_do, one, each, in_order, falling}
use Rattle.go_meaning.specs.Operations.{Items, Fixed, Elements, Cells, Runes, Numbers}
use Rattle.go_meaning.specs.Plans.{Plan, Declare, AssignTo, ZeroTo, Returns, Breaks, Continues, Falls, Sequence, Branch, Select, CaseOf, Otherwise, Iterate, Once}
use Rattle.go_meaning.specs.Doings.{Doing, absent, values_of, at, name_place, assigned, selected, tag_of, loop, iterated, operand_of, condition_of, act, doing_of}
use Rattle.go_meaning.specs.Planning.{part_at, is_there, plan}
use Rattle.go_meaning.specs.Meaning.{without_first, turned, meaning, meanings}
use Rattle.go_meaning.proofs.Public.{Grows, AllGrown, give_grows, end_grows, name_grown, take_grown, at_grown, act_grown, iterated_grows, meanings_grown}
use Rattle.go_meaning_simulation.specs.Likeness.{Likeness}
use Rattle.go_meaning_simulation.specs.Links.{Links, joined, Ways, loop_ways, clause_ways}
use Rattle.go_meaning_simulation.specs.Kin.{Expression, Expressions, Names, Part, Values, Statement, First, Other, Chain, Clauses, Ranged}
use Rattle.go_meaning_simulation.specs.Kin as kin
use Rattle.go_meaning_simulation.proofs.Following.{Frames, Exits, Follows, weaker, end_follows, then_follows, write_follows}
use Rattle.go_meaning_simulation.proofs.Expressions.{Like, Met, Valued, valued, Asked, AllAsked, AllLike, asked_values, each_like, give_like, copies_like, matches_like, absent_met}
use Rattle.go_meaning_simulation.proofs.Rooms.{Room, way, exits}
use Rattle.go_meaning_simulation.proofs.ExpressionTrees.{expression_asked, expressions_asked}
use Rattle.go_meaning_simulation.proofs.Rows.{values_joined, in_order_joined}
use Rattle.go_meaning_simulation.proofs.Steps.{same_states, nothing_follows, one_follows, each_follows, branch_follows, loop_follows, Target, Stored, none, more, assigned_follows, iterated_follows, ClauseMet, ClausesMet, switch_follows}

module _ (L : Likeness) (a p q : ℕ) (l : Links) (room : Room L l) (pays : l.factor ≤ a) (rights rights' : Rights) (call call' : ℕ → List Value → Comp) (later later' : Typed TypeTree → Comp) (hg : (g : ℕ) (vs : List Value) → Grows (call' g vs)) (hlg : (t : Typed TypeTree) → Grows (later' t))
    (hc : (R : Frames) (X : Exits) (g g' : ℕ) (vs vs' : List Value) → L.calls g g' → L.values vs vs' → Like L a p q R X (call g vs) (call' g' vs'))
    (hl : (W : Ways l.Scope) (s s' : l.Scope) (m : ℕ) (t t' : Typed TypeTree) → Statement l rights rights' W s s' m t t' → Follows L a p q (room.frames s) (room.frames s') (exits L l room W) m (later t) (later' t'))
    (hw : (W : Ways l.Scope) (s s' : l.Scope) (ws ws' : Typeds TypeTree) → l.windows s s' ws ws' → Follows L a p q (room.frames s) (room.frames s') (exits L l room W) l.cost (in_order (values_of (meanings rights call later ws))) (in_order (values_of (meanings rights' call' later' ws')))) where
  abbrev R : l.Scope → Frames
  R s = room.frames s

  abbrev G : Ways l.Scope → l.Scope → l.Scope → ℕ → Comp → Comp → Type 0
  G W s s' m c c' = Follows L a p q (room.frames s) (room.frames s') (exits L l room W) m c c'

  abbrev old : Typed TypeTree → Doing
  old t = meaning rights call later t

  abbrev new : Typed TypeTree → Doing
  new t = meaning rights' call' later' t

  abbrev olds : Typeds TypeTree → List Doing
  olds ts = meanings rights call later ts

  abbrev news : Typeds TypeTree → List Doing
  news ts = meanings rights' call' later' ts

  asked : (W : Ways l.Scope) {s : l.Scope} {b : Bool} {t t' : Typed TypeTree} → Expression l rights rights' s b t t' → Asked L a p q (R s) (exits L l room W) b (old t) (new t')
  asked W {s = s} h = expression_asked L a p q l room s (exits L l room W) call call' hg (hc (R s) (exits L l room W)) rights rights' later later' h

  all_asked : (W : Ways l.Scope) {s : l.Scope} {m : ℕ → Bool} {ts ts' : Typeds TypeTree} → Expressions l rights rights' s m ts ts' → AllAsked L a p q (R s) (exits L l room W) m (olds ts) (news ts')
  all_asked W {s = s} h = expressions_asked L a p q l room s (exits L l room W) call call' hg (hc (R s) (exits L l room W)) rights rights' later later' h

  -- the values of a node whose plans are these
  planned : (W : Ways l.Scope) (s s' : l.Scope) (m : ℕ) (f f' : Form) (i i' j j' : ℕ) (e e' : Label TypeTree) (ps ps' : Typeds TypeTree) (t t' : Plan) → plan rights f e ps ≡ Once t → plan rights' f' e' ps' ≡ Once t' → G W s s' m (act call t (olds ps)).value (act call' t' (news ps')).value →
      G W s s' m (old (typed f i j e ps)).value (new (typed f' i' j' e' ps')).value
  planned W s s' m f f' i i' j j' e e' ps ps' t t' eq eq' h =
      let again : Comp = later (typed f i j e (turned f ps)) in
      let again' : Comp = later' (typed f' i' j' e' (turned f' ps')) in
      subst (λ c. G W s s' m (doing_of call again c (olds ps)).value (doing_of call' again' (plan rights' f' e' ps') (news ps')).value) (sym eq)
      (subst (λ c. G W s s' m (doing_of call again (Once t) (olds ps)).value (doing_of call' again' c (news ps')).value) (sym eq') h)

  -- a node that is asked for all that its plan gives
  whole : (C : Doing → Doing → Type 0) (f f' : Form) (i i' j j' : ℕ) (e e' : Label TypeTree) (ps ps' : Typeds TypeTree) (t t' : Plan) → plan rights f e ps ≡ Once t → plan rights' f' e' ps' ≡ Once t' → C (act call t (olds ps)) (act call' t' (news ps')) → C (old (typed f i j e ps)) (new (typed f' i' j' e' ps'))
  whole C f f' i i' j j' e e' ps ps' t t' eq eq' h =
      let again : Comp = later (typed f i j e (turned f ps)) in
      let again' : Comp = later' (typed f' i' j' e' (turned f' ps')) in
      subst (λ c. C (doing_of call again c (olds ps)) (doing_of call' again' (plan rights' f' e' ps') (news ps'))) (sym eq)
      (subst (λ c. C (doing_of call again (Once t) (olds ps)) (doing_of call' again' c (news ps'))) (sym eq') h)

  forgets : (s s' : l.Scope) → l.forgets s s' → (f f' : List Value) → R s f f' → R s' f f'
  forgets s s' h = room.forgetting s s' h

  stays : (s : l.Scope) → (f f' : List Value) → R s f f' → R s f f'
  stays s f f' r = r

  -- ---- declarations

  name_target : (X : Exits) (r s s1 : l.Scope) (i j : ℕ) → l.declares s i j s1 → Target L a p q (R r) X (R s) (R s1) (name_place i) (name_place j)
  name_target X r s s1 i j h = record {
    grown = name_grown j;
    width = refl;
    find = nothing_follows L a p q (R r) (R r) X 0 (stays r);
    store = λ us us' v v' u e. write_follows L a p q (R s) (R s1) X i j v v' (room.declaring s s1 i j h v v' e);
  }

  place_target : (X : Exits) (r s : l.Scope) (x x' : Doing) → Met L a p q (R r) X x x' → Met L a p q (R s) X x x' → Target L a p q (R r) X (R s) (R s) x x'
  place_target X r s x x' h k = record { grown = h.grown; width = h.width; find = h.find; store = k.store }

  names_stored : (W : Ways l.Scope) {r s s' : l.Scope} {n : ℕ} {ts ts' : Typeds TypeTree} → Names l rights rights' r s s' n ts ts' → Stored L a p q (R r) (exits L l room W) (R s) (R s') (take n (olds ts)) (take n (news ts'))
  unfolding act
  names_stored W (kin.values h) = none
  names_stored W {r = r} (kin.declared {s = s} {s1 = s1} {i = i} {j = j} {f = f} {f' = f'} {a = c} {a' = c'} {b = b} {b' = b'} {e = e} {e' = e'} {ps = ps} {ps' = ps'} {ts = ts} {ts' = ts'} eq eq' h hs) =
      more (whole (λ x x'. Target L a p q (R r) (exits L l room W) (R s) (R s1) x x') f f' c c' b b' e e' ps ps' (Declare i) (Declare j) eq eq' (name_target (exits L l room W) r s s1 i j h)) (names_stored W hs)
  names_stored W {r = r} (kin.other {s = s} {t = t} {t' = t'} h k hs) = more (place_target (exits L l room W) r s (old t) (new t') (asked W h) (asked W k)) (names_stored W hs)

  names_values : (W : Ways l.Scope) {r s s' : l.Scope} {n : ℕ} {ts ts' : Typeds TypeTree} → Names l rights rights' r s s' n ts ts' → AllLike L a p q (R r) (exits L l room W) (values_of (drop n (olds ts))) (values_of (drop n (news ts')))
  names_values W {r = r} (kin.values {ts = ts} {ts' = ts'} h) = asked_values L a p q (R r) (exits L l room W) (λ k. false) (olds ts) (news ts') (all_asked W h)
  names_values W (kin.declared eq eq' h hs) = names_values W hs
  names_values W (kin.other h k hs) = names_values W hs

  -- ---- switches

  values_like : (W : Ways l.Scope) {s : l.Scope} {n : ℕ} {ts ts' rs rs' : Typeds TypeTree} → Values l rights rights' s n ts ts' rs rs' → AllLike L a p q (R s) (exits L l room W) (values_of (take n (olds ts))) (values_of (take n (news ts')))
  values_like W kin.rest = tt
  values_like W {s = s} (kin.value {t = t} {t' = t'} h hs) = ((asked W h).value, values_like W hs)

  values_rest : {s : l.Scope} {n : ℕ} {ts ts' rs rs' : Typeds TypeTree} → Values l rights rights' s n ts ts' rs rs' → (drop n (olds ts) ≡ olds rs) × (drop n (news ts') ≡ news rs')
  values_rest kin.rest = (refl, refl)
  values_rest (kin.value h hs) = values_rest hs

  part_like : (W : Ways l.Scope) {s : l.Scope} {ts ts' rs rs' : Typeds TypeTree} → Part l rights rights' s ts ts' rs rs' → Valued L a p q (R s) (exits L l room W) (at (olds ts) 0) (at (news ts') 0)
  part_like W {s = s} (kin.there h) = asked W h
  part_like W {s = s} kin.absent = valued L a p q (R s) (exits L l room W) absent absent (absent_met L a p q (R s) (exits L l room W))

  part_rest : {s : l.Scope} {ts ts' rs rs' : Typeds TypeTree} → Part l rights rights' s ts ts' rs rs' → (drop 1 (olds ts) ≡ olds rs) × (drop 1 (news ts') ≡ news rs')
  part_rest (kin.there h) = (refl, refl)
  part_rest kin.absent = (refl, refl)

  first_rest : {W : Ways l.Scope} {s s' : l.Scope} {ts ts' rs rs' : Typeds TypeTree} → First l rights rights' W s s' ts ts' rs rs' → (drop 1 (olds ts) ≡ olds rs) × (drop 1 (news ts') ≡ news rs')
  first_rest (kin.first h) = (refl, refl)
  first_rest kin.no_first = (refl, refl)

  rows_grown : (ts : Typeds TypeTree) → AllGrown (news ts)
  rows_grown ts = meanings_grown rights' call' later' hg hlg ts

  -- what stands behind an operation, a return, a way out
  return_follows : (W : Ways l.Scope) (s s' : l.Scope) (m : ℕ) → l.returns → (vs vs' : List Value) → L.values vs vs' → G W s s' m (end_by (Return vs)) (end_by (Return vs'))
  return_follows W s s' m h vs vs' e = end_follows L a p q (R s) (R s') (exits L l room W) m (Return vs) vs' e (room.returning s h)

  to_way : (s s1 : l.Scope) (o : Option l.Scope) → o ≡ Some s1 → l.forgets s s1 → (f f' : List Value) → R s f f' → way L l room o f f'
  to_way s s1 o eq h f f' r = subst (λ x. way L l room x f f') (sym eq) (forgets s s1 h f f' r)

  operand_follows : (W : Ways l.Scope) (s : l.Scope) (items : Items) (x x' : Doing) → Valued L a p q (R s) (exits L l room W) x x' → G W s s 0 (operand_of items x) (operand_of items x')
  operand_follows W s (Fixed n) x x' h = give_like L a p q (R s) (exits L l room W) (NilFunction ∷ []) (NilFunction ∷ []) (L.zeros nil_function)
  operand_follows W s Elements x x' h = h.value
  operand_follows W s Cells x x' h = h.value
  operand_follows W s Runes x x' h = h.value
  operand_follows W s Numbers x x' h = h.value

  tag_follows : (W : Ways l.Scope) (s : l.Scope) (tag : Bool) (x x' : Doing) → Valued L a p q (R s) (exits L l room W) x x' → G W s s 0 (tag_of tag x) (tag_of tag x')
  tag_follows W s true x x' h = h.value
  tag_follows W s false x x' h = give_like L a p q (R s) (exits L l room W) (Truth true ∷ []) (Truth true ∷ []) (L.truth true)

  ranged_stored : (W : Ways l.Scope) {r s s' : l.Scope} {mb n : ℕ} {ts ts' : Typeds TypeTree} → Ranged l rights rights' W r s s' mb n ts ts' → Stored L a p q (R r) (exits L l room W) (R s) (R s') (take n (olds ts)) (take n (news ts'))
  unfolding act
  ranged_stored W (kin.operand h hb) = none
  ranged_stored W {r = r} (kin.ranged_name {s = s} {s1 = s1} {i = i} {j = j} {f = f} {f' = f'} {a = b} {a' = b'} {c = c} {c' = c'} {e = e} {e' = e'} {ps = ps} {ps' = ps'} eq eq' h hs) =
      more (whole (λ x x'. Target L a p q (R r) (exits L l room W) (R s) (R s1) x x') f f' b b' c c' e e' ps ps' (Declare i) (Declare j) eq eq' (name_target (exits L l room W) r s s1 i j h)) (ranged_stored W hs)
  ranged_stored W {r = r} (kin.ranged_place {s = s} {t = t} {t' = t'} h k hs) = more (place_target (exits L l room W) r s (old t) (new t') (asked W h) (asked W k)) (ranged_stored W hs)

  ranged_operand : (W : Ways l.Scope) {r s s' : l.Scope} {mb n : ℕ} {ts ts' : Typeds TypeTree} → Ranged l rights rights' W r s s' mb n ts ts' → Valued L a p q (R r) (exits L l room W) (at (olds ts) n) (at (news ts') n)
  ranged_operand W (kin.operand h hb) = asked W h
  ranged_operand W (kin.ranged_name eq eq' h hs) = ranged_operand W hs
  ranged_operand W (kin.ranged_place h k hs) = ranged_operand W hs

  condition_after : {W : Ways l.Scope} {s s1 : l.Scope} {ps ps' qs qs' rs rs' : Typeds TypeTree} → First l rights rights' W s s1 ps ps' qs qs' → Part l rights rights' s1 qs qs' rs rs' → G W s1 s1 0 (condition_of (is_there (part_at ps 1)) (at (olds ps) 1)) (condition_of (is_there (part_at ps' 1)) (at (news ps') 1))
  condition_after {W = W} (kin.first h) (kin.there k) = (asked W k).value
  condition_after {W = W} kin.no_first (kin.there k) = (asked W k).value
  condition_after {W = W} {s1 = s1} (kin.first h) kin.absent = give_like L a p q (R s1) (exits L l room W) (Truth true ∷ []) (Truth true ∷ []) (L.truth true)
  condition_after {W = W} {s1 = s1} kin.no_first kin.absent = give_like L a p q (R s1) (exits L l room W) (Truth true ∷ []) (Truth true ∷ []) (L.truth true)

  again_kin : {W : Ways l.Scope} {s s1 s' : l.Scope} {mb i i' j j' : ℕ} {e e' : Label TypeTree} {ps ps' qs qs' rs rs' : Typeds TypeTree} {b b' : Typed TypeTree} → First l rights rights' W s s1 ps ps' qs qs' → Part l rights rights' s1 qs qs' rs rs' → First l rights rights' W s1 s1 rs rs' (trees.more b trees.none) (trees.more b' trees.none) → Statement l rights rights' (loop_ways W s1) s1 s1 mb b b' → mb + 1 ≤ l.factor → l.forgets s1 s' →
      Statement l rights rights' W s1 s' 0 (typed form.For i j e (without_first ps)) (typed form.For i' j' e' (without_first ps'))
  again_kin (kin.first h) hp hq hb le fg = kin.loops kin.no_first hp hq hb le fg
  again_kin kin.no_first hp hq hb le fg = kin.loops kin.no_first hp hq hb le fg

  -- ---- rows of statements

  empty_follows : (W : Ways l.Scope) (s : l.Scope) (m : ℕ) → G W s s m (in_order []) (in_order [])
  unfolding in_order
  empty_follows W s m = nothing_follows L a p q (R s) (R s) (exits L l room W) m (stays s)

  step_follows : (W : Ways l.Scope) (s s1 s' : l.Scope) (m m1 m2 : ℕ) (c c' : Comp) (cs cs' : List Comp) → m1 + m2 ≤ m → G W s s1 m1 c c' → G W s1 s' m2 (in_order cs) (in_order cs') → G W s s' m (in_order (c ∷ cs)) (in_order (c' ∷ cs'))
  unfolding in_order
  step_follows W s s1 s' m m1 m2 c c' cs cs' le h hs = then_follows L a p q (R s) (R s1) (R s') (exits L l room W) m m1 m2 c c' (λ vs. in_order cs) (λ vs. in_order cs') le h (λ vs. hs.grows) (λ vs vs' e. hs)

  olds_joined : (ws ts : Typeds TypeTree) → olds (joined ws ts) ≡ olds ws ++ olds ts
  olds_joined trees.none ts = refl
  olds_joined (trees.more t ws) ts = ap (λ xs. old t ∷ xs) (olds_joined ws ts)
  olds_joined (trees.skip ws) ts = ap (λ xs. absent ∷ xs) (olds_joined ws ts)

  news_joined : (ws ts : Typeds TypeTree) → news (joined ws ts) ≡ news ws ++ news ts
  news_joined trees.none ts = refl
  news_joined (trees.more t ws) ts = ap (λ xs. new t ∷ xs) (news_joined ws ts)
  news_joined (trees.skip ws) ts = ap (λ xs. absent ∷ xs) (news_joined ws ts)

  window_step : (W : Ways l.Scope) (s s1 s' : l.Scope) (m m2 : ℕ) (ws ws' ts ts' : Typeds TypeTree) → l.cost + m2 ≤ m → G W s s1 l.cost (in_order (values_of (olds ws))) (in_order (values_of (news ws'))) → G W s1 s' m2 (in_order (values_of (olds ts))) (in_order (values_of (news ts'))) → G W s s' m (in_order (values_of (olds (joined ws ts)))) (in_order (values_of (news (joined ws' ts'))))
  window_step W s s1 s' m m2 ws ws' ts ts' le h hs =
      let both : G W s s' m (then_do (in_order (values_of (olds ws))) (λ vs. in_order (values_of (olds ts)))) (then_do (in_order (values_of (news ws'))) (λ vs. in_order (values_of (news ts')))) =
      then_follows L a p q (R s) (R s1) (R s') (exits L l room W) m l.cost m2 (in_order (values_of (olds ws))) (in_order (values_of (news ws'))) (λ vs. in_order (values_of (olds ts))) (λ vs. in_order (values_of (news ts'))) le h (λ vs. hs.grows) (λ vs vs' e. hs) in
      subst (λ xs. G W s s' m (in_order (values_of xs)) (in_order (values_of (news (joined ws' ts'))))) (sym (olds_joined ws ts))
      (subst (λ xs. G W s s' m (in_order (values_of (olds ws ++ olds ts))) (in_order (values_of xs))) (sym (news_joined ws' ts'))
      (subst (λ cs. G W s s' m (in_order cs) (in_order (values_of (news ws' ++ news ts')))) (sym (values_joined (olds ws) (olds ts)))
      (subst (λ cs. G W s s' m (in_order (values_of (olds ws) ++ values_of (olds ts))) (in_order cs)) (sym (values_joined (news ws') (news ts')))
      (same_states L a p q (R s) (R s') (exits L l room W) m (then_do (in_order (values_of (olds ws))) (λ vs. in_order (values_of (olds ts)))) (in_order (values_of (olds ws) ++ values_of (olds ts))) (then_do (in_order (values_of (news ws'))) (λ vs. in_order (values_of (news ts')))) (in_order (values_of (news ws') ++ values_of (news ts')))
      (λ d f w t. sym (in_order_joined (values_of (olds ws)) (values_of (olds ts)) d f w t)) (λ d f w t. sym (in_order_joined (values_of (news ws')) (values_of (news ts')) d f w t)) both))))

  selects_at : (W : Ways l.Scope) (s s1 s' : l.Scope) (m other : ℕ) (tag : Bool) (x x' y y' : Doing) (xs xs' : List Doing) → G W s s1 0 x.value x'.value → Valued L a p q (R s1) (exits L l room W) y y' → ClausesMet L a p q (R s1) (R s') (exits L l room W) m xs xs' → l.forgets s1 s' →
      G W s s' m (act call (Select tag (suc (suc other))) (x ∷ y ∷ xs)).value (act call' (Select tag (suc (suc other))) (x' ∷ y' ∷ xs')).value
  unfolding act
  selects_at W s s1 s' m other tag x x' y y' xs xs' hf hy hx fg =
      let inner : G W s1 s' m (one (tag_of tag y) (λ v. selected v (falling (values_of (drop other xs))) xs)) (one (tag_of tag y') (λ v. selected v (falling (values_of (drop other xs'))) xs')) =
      switch_follows L a p q (R s1) (R s') (exits L l room W) (forgets s1 s' fg) m other (tag_of tag y) (tag_of tag y') xs xs' (tag_follows W s1 tag y y' hy) hx in
      then_follows L a p q (R s) (R s1) (R s') (exits L l room W) m 0 m x.value x'.value (λ no. one (tag_of tag y) (λ v. selected v (falling (values_of (drop other xs))) xs)) (λ no. one (tag_of tag y') (λ v. selected v (falling (values_of (drop other xs'))) xs')) (omega arith) hf (λ no. inner.grows) (λ no no' e. inner)

  case_met : (W : Ways l.Scope) (s s1 s' : l.Scope) (m n : ℕ) (ps ps' qs qs' : Typeds TypeTree) → Values l rights rights' s n ps ps' qs qs' → l.forgets s1 s' → G (clause_ways W s' s) s s1 m (in_order (values_of (olds qs))) (in_order (values_of (news qs'))) →
      ClauseMet L a p q (R s) (R s') (exits L l room W) m (act call (CaseOf n) (olds ps)) (act call' (CaseOf n) (news ps'))
  unfolding act
  case_met W s s1 s' m n ps ps' qs qs' hv fg h =
      let rest = values_rest hv in
      record {
        grown = act_grown call' hg (CaseOf n) (news ps') (rows_grown ps');
        test = λ us us' u. matches_like L a p q (R s) (exits L l room W) (nth us 0) (nth us' 0) (values_of (take n (olds ps))) (values_of (take n (news ps'))) (L.picks 0 us us' u) (values_like W hv);
        value = subst (λ xs. G (clause_ways W s' s) s s' m (in_order (values_of xs)) (in_order (values_of (drop n (news ps'))))) (sym rest.0) (subst (λ xs. G (clause_ways W s' s) s s' m (in_order (values_of (olds qs))) (in_order (values_of xs))) (sym rest.1)
            (weaker L a p q (R s) (R s1) (R s') (exits L l room (clause_ways W s' s)) m m (in_order (values_of (olds qs))) (in_order (values_of (news qs'))) (forgets s1 s' fg) (omega arith) h));
      }

  default_met : (W : Ways l.Scope) (s s1 s' : l.Scope) (m : ℕ) (ps ps' : Typeds TypeTree) → l.forgets s1 s' → G (clause_ways W s' s) s s1 m (in_order (values_of (olds ps))) (in_order (values_of (news ps'))) →
      ClauseMet L a p q (R s) (R s') (exits L l room W) m (act call Otherwise (olds ps)) (act call' Otherwise (news ps'))
  unfolding act
  default_met W s s1 s' m ps ps' fg h = record {
    grown = act_grown call' hg Otherwise (news ps') (rows_grown ps');
    test = λ us us' u. give_like L a p q (R s) (exits L l room W) (Truth false ∷ []) (Truth false ∷ []) (L.truth false);
    value = weaker L a p q (R s) (R s1) (R s') (exits L l room (clause_ways W s' s)) m m (in_order (values_of (olds ps))) (in_order (values_of (news ps'))) (forgets s1 s' fg) (omega arith) h;
  }

  post_after : {W : Ways l.Scope} {s s1 : l.Scope} {ps ps' qs qs' rs rs' : Typeds TypeTree} → First l rights rights' W s s1 ps ps' qs qs' → Part l rights rights' s1 qs qs' rs rs' → G W s1 s1 0 (at (olds rs) 0).value (at (news rs') 0).value → G W s1 s1 0 (at (olds ps) 2).value (at (news ps') 2).value
  post_after (kin.first h) (kin.there k) g = g
  post_after (kin.first h) kin.absent g = g
  post_after kin.no_first (kin.there k) g = g
  post_after kin.no_first kin.absent g = g

  block_after : (V : Ways l.Scope) {W : Ways l.Scope} {s s1 s2 : l.Scope} {m : ℕ} {ps ps' qs qs' rs rs' : Typeds TypeTree} {b b' : Typed TypeTree} → First l rights rights' W s s1 ps ps' qs qs' → Part l rights rights' s1 qs qs' rs rs' → First l rights rights' W s1 s2 rs rs' (trees.more b trees.none) (trees.more b' trees.none) → G V s2 s2 m (old b).value (new b').value → G V s2 s2 m (at (olds ps) 3).value (at (news ps') 3).value
  block_after V (kin.first h) (kin.there k) (kin.first hq) g = g
  block_after V (kin.first h) kin.absent (kin.first hq) g = g
  block_after V kin.no_first (kin.there k) (kin.first hq) g = g
  block_after V kin.no_first kin.absent (kin.first hq) g = g
  block_after V (kin.first h) (kin.there k) kin.no_first g = g
  block_after V (kin.first h) kin.absent kin.no_first g = g
  block_after V kin.no_first (kin.there k) kin.no_first g = g
  block_after V kin.no_first kin.absent kin.no_first g = g

  -- ---- all statements, in one induction

  mutual
    unfolding act

    pub statement_follows : {W : Ways l.Scope} {s s' : l.Scope} {m : ℕ} {t t' : Typed TypeTree} → Statement l rights rights' W s s' m t t' → G W s s' m (old t).value (new t').value
    statement_follows {W = W} {s = s} {s' = s'} {m = m} {t = t} {t' = t'} (kin.does fg h) = weaker L a p q (R s) (R s) (R s') (exits L l room W) 0 m (old t).value (new t').value (forgets s s' fg) (omega arith) (asked W h).value
    statement_follows {W = W} {s = s} {s' = s'} {m = m} (kin.defines {n = n} {f = f} {f' = f'} {i = i} {i' = i'} {j = j} {j' = j'} {e = e} {e' = e'} {ps = ps} {ps' = ps'} eq eq' h) =
        planned W s s' m f f' i i' j j' e e' ps ps' (AssignTo n) (AssignTo n) eq eq'
        (weaker L a p q (R s) (R s') (R s') (exits L l room W) 0 m (assigned (take n (olds ps)) (each (values_of (drop n (olds ps))) give)) (assigned (take n (news ps')) (each (values_of (drop n (news ps'))) give)) (stays s') (omega arith)
        (assigned_follows L a p q (names_stored W h) (each (values_of (drop n (olds ps))) give) (each (values_of (drop n (news ps'))) give) (each_like L a p q (R s) (exits L l room W) (values_of (drop n (olds ps))) (values_of (drop n (news ps'))) give give (names_values W h) give_grows (give_like L a p q (R s) (exits L l room W)))))
    statement_follows {W = W} {s = s} {s' = s'} {m = m} (kin.zeros {n = n} {z = z} {f = f} {f' = f'} {i = i} {i' = i'} {j = j} {j' = j'} {e = e} {e' = e'} {ps = ps} {ps' = ps'} eq eq' h) =
        planned W s s' m f f' i i' j j' e e' ps ps' (ZeroTo n z) (ZeroTo n z) eq eq'
        (weaker L a p q (R s) (R s') (R s') (exits L l room W) 0 m (assigned (take n (olds ps)) (give (replicate n (zero_value z)))) (assigned (take n (news ps')) (give (replicate n (zero_value z)))) (stays s') (omega arith)
        (assigned_follows L a p q (names_stored W h) (give (replicate n (zero_value z))) (give (replicate n (zero_value z))) (give_like L a p q (R s) (exits L l room W) (replicate n (zero_value z)) (replicate n (zero_value z)) (copies_like L a p q (R s) (exits L l room W) n z))))
    statement_follows {W = W} {s = s} {s' = s'} {m = m} (kin.returns {f = f} {f' = f'} {i = i} {i' = i'} {j = j} {j' = j'} {e = e} {e' = e'} {ps = ps} {ps' = ps'} may eq eq' h) =
        planned W s s' m f f' i i' j j' e e' ps ps' Returns Returns eq eq'
        (each_follows L a p q (R s) (R s') (exits L l room W) m (values_of (olds ps)) (values_of (news ps')) (λ vs. end_by (Return vs)) (λ vs. end_by (Return vs)) (asked_values L a p q (R s) (exits L l room W) (λ k. false) (olds ps) (news ps') (all_asked W h)) (λ vs. end_grows (Return vs)) (return_follows W s s' m may))
    statement_follows {W = W} {s = s} {s' = s'} {m = m} (kin.breaks {s1 = s1} {f = f} {f' = f'} {i = i} {i' = i'} {j = j} {j' = j'} {e = e} {e' = e'} {ps = ps} {ps' = ps'} out fg eq eq') =
        planned W s s' m f f' i i' j j' e e' ps ps' Breaks Breaks eq eq' (end_follows L a p q (R s) (R s') (exits L l room W) m Break [] L.nothing (to_way s s1 W.breaks out fg))
    statement_follows {W = W} {s = s} {s' = s'} {m = m} (kin.continues {s1 = s1} {f = f} {f' = f'} {i = i} {i' = i'} {j = j} {j' = j'} {e = e} {e' = e'} {ps = ps} {ps' = ps'} out fg eq eq') =
        planned W s s' m f f' i i' j j' e e' ps ps' Continues Continues eq eq' (end_follows L a p q (R s) (R s') (exits L l room W) m Continue [] L.nothing (to_way s s1 W.continues out fg))
    statement_follows {W = W} {s = s} {s' = s'} {m = m} (kin.falls {s1 = s1} {f = f} {f' = f'} {i = i} {i' = i'} {j = j} {j' = j'} {e = e} {e' = e'} {ps = ps} {ps' = ps'} out fg eq eq') =
        planned W s s' m f f' i i' j j' e e' ps ps' Falls Falls eq eq' (end_follows L a p q (R s) (R s') (exits L l room W) m Fallthrough [] L.nothing (to_way s s1 W.falls out fg))
    statement_follows {W = W} {s = s} {s' = s'} {m = m} (kin.sequence {s1 = s1} {f = f} {f' = f'} {i = i} {i' = i'} {j = j} {j' = j'} {e = e} {e' = e'} {ps = ps} {ps' = ps'} eq eq' h fg) =
        planned W s s' m f f' i i' j j' e e' ps ps' Sequence Sequence eq eq' (weaker L a p q (R s) (R s1) (R s') (exits L l room W) m m (in_order (values_of (olds ps))) (in_order (values_of (news ps'))) (forgets s1 s' fg) (omega arith) (chain_follows h))
    statement_follows {W = W} {s = s} {s' = s'} {m = m} (kin.branch {s1 = s1} {f = f} {f' = f'} {i = i} {i' = i'} {j = j} {j' = j'} {e = e} {e' = e'} {ps = ps} {ps' = ps'} {rs = rs} {rs' = rs'} {c = c} {c' = c'} {b = b} {b' = b'} eq eq' (kin.first {t = t} {t' = t'} hf) hc hb ho) =
        planned W s s' m f f' i i' j j' e e' (trees.more t (trees.more c (trees.more b rs))) (trees.more t' (trees.more c' (trees.more b' rs'))) Branch Branch eq eq'
        (branch_follows L a p q (R s) (R s1) (R s') (exits L l room W) m (old t).value (new t').value (old c).value (new c').value (old b).value (new b').value (at (olds rs) 0).value (at (news rs') 0).value (statement_follows hf) (asked W hc).value (statement_follows hb) (other_follows ho))
    statement_follows {W = W} {s = s} {s' = s'} {m = m} (kin.branch {f = f} {f' = f'} {i = i} {i' = i'} {j = j} {j' = j'} {e = e} {e' = e'} {rs = rs} {rs' = rs'} {c = c} {c' = c'} {b = b} {b' = b'} eq eq' kin.no_first hc hb ho) =
        planned W s s' m f f' i i' j j' e e' (trees.skip (trees.more c (trees.more b rs))) (trees.skip (trees.more c' (trees.more b' rs'))) Branch Branch eq eq'
        (branch_follows L a p q (R s) (R s) (R s') (exits L l room W) m (give []) (give []) (old c).value (new c').value (old b).value (new b').value (at (olds rs) 0).value (at (news rs') 0).value (nothing_follows L a p q (R s) (R s) (exits L l room W) 0 (stays s)) (asked W hc).value (statement_follows hb) (other_follows ho))
    statement_follows {W = W} {s = s} {s' = s'} {m = m} (kin.selects {s1 = s1} {other = other} {tag = tag} {f = f} {f' = f'} {i = i} {i' = i'} {j = j} {j' = j'} {e = e} {e' = e'} {ps = ps} {ps' = ps'} {qs = qs} {qs' = qs'} {rs = rs} {rs' = rs'} eq eq' hf hp hc fg) =
        planned W s s' m f f' i i' j j' e e' ps ps' (Select tag (suc (suc other))) (Select tag (suc (suc other))) eq eq' (select_follows other tag hf hp (clauses_met W s1 s' m rs rs' hc) fg)
    statement_follows {W = W} {s = s} {s' = s'} {m = m} (kin.iterates {s1 = s1} {mb = mb} {n = n} {items = items} {f = f} {f' = f'} {i = i} {i' = i'} {j = j} {j' = j'} {e = e} {e' = e'} {ps = ps} {ps' = ps'} eq eq' h le back fg) =
        planned W s s' m f f' i i' j j' e e' ps ps' (Iterate n items) (Iterate n items) eq eq'
        (one_follows L a p q (R s) (R s) (R s') (exits L l room W) m 0 m (operand_of items (at (olds ps) n)) (operand_of items (at (news ps') n)) (iterated items (take n (olds ps)) (at (olds ps) (suc n)).value) (iterated items (take n (news ps')) (at (news ps') (suc n)).value) (omega arith)
        (operand_follows W s items (at (olds ps) n) (at (news ps') n) (ranged_operand W h)) (iterated_grows items (take n (news ps')) (at (news ps') (suc n)).value (take_grown n (news ps') (rows_grown ps')) (at_grown (news ps') (suc n) (rows_grown ps')).value)
        (λ v v' k. weaker L a p q (R s) (R s) (R s') (exits L l room W) 0 m (iterated items (take n (olds ps)) (at (olds ps) (suc n)).value v) (iterated items (take n (news ps')) (at (news ps') (suc n)).value v') (forgets s s' fg) (omega arith)
        (iterated_follows L a p q mb items (at (olds ps) (suc n)).value (at (news ps') (suc n)).value (omega (arith, le, pays)) (forgets s1 s back) (ranged_stored W h) (ranged_block h) v v' k)))
    statement_follows {W = W} {s = s} {s' = s'} {m = m} (kin.loops {s1 = s1} {mb = mb} {i = i} {i' = i'} {j = j} {j' = j'} {e = e} {e' = e'} {ps = ps} {ps' = ps'} {b = b} {b' = b'} hf hp hq hb le fg) =
        let again : Comp = later (typed form.For i j e (without_first ps)) in
        let again' : Comp = later' (typed form.For i' j' e' (without_first ps')) in
        weaker L a p q (R s) (R s') (R s') (exits L l room W) 0 m (loop (at (olds ps) 0).value (condition_of (is_there (part_at ps 1)) (at (olds ps) 1)) (at (olds ps) 3).value (at (olds ps) 2).value again) (loop (at (news ps') 0).value (condition_of (is_there (part_at ps' 1)) (at (news ps') 1)) (at (news ps') 3).value (at (news ps') 2).value again') (stays s') (omega arith)
        (loop_follows L a p q (R s) (R s1) (R s') (exits L l room W) mb (at (olds ps) 0).value (at (news ps') 0).value (condition_of (is_there (part_at ps 1)) (at (olds ps) 1)) (condition_of (is_there (part_at ps' 1)) (at (news ps') 1)) (at (olds ps) 3).value (at (news ps') 3).value (at (olds ps) 2).value (at (news ps') 2).value again again' (omega (arith, le, pays)) (forgets s1 s' fg)
        (first_follows hf) (condition_after hf hp) (block_after (loop_ways W s1) hf hp hq (statement_follows hb)) (post_after hf hp (first_follows hq)) (hl W s1 s' 0 (typed form.For i j e (without_first ps)) (typed form.For i' j' e' (without_first ps')) (again_kin hf hp hq hb le fg)))

    first_follows : {W : Ways l.Scope} {s s' : l.Scope} {ts ts' rs rs' : Typeds TypeTree} → First l rights rights' W s s' ts ts' rs rs' → G W s s' 0 (at (olds ts) 0).value (at (news ts') 0).value
    first_follows (kin.first h) = statement_follows h
    first_follows {W = W} (kin.no_first {s = s}) = nothing_follows L a p q (R s) (R s) (exits L l room W) 0 (stays s)

    other_follows : {W : Ways l.Scope} {s s' : l.Scope} {m : ℕ} {ts ts' : Typeds TypeTree} → Other l rights rights' W s s' m ts ts' → G W s s' m (at (olds ts) 0).value (at (news ts') 0).value
    other_follows (kin.other h) = statement_follows h
    other_follows {W = W} {s = s} {s' = s'} {m = m} (kin.no_other fg) = nothing_follows L a p q (R s) (R s') (exits L l room W) m (forgets s s' fg)
    other_follows {W = W} {s = s} {s' = s'} {m = m} (kin.nothing_behind fg) = nothing_follows L a p q (R s) (R s') (exits L l room W) m (forgets s s' fg)

    pub chain_follows : {W : Ways l.Scope} {s s' : l.Scope} {m : ℕ} {ts ts' : Typeds TypeTree} → Chain l rights rights' W s s' m ts ts' → G W s s' m (in_order (values_of (olds ts))) (in_order (values_of (news ts')))
    chain_follows {W = W} {m = m} (kin.ends {s = s}) = empty_follows W s m
    chain_follows {W = W} {s = s} {s' = s'} {m = m} (kin.next {s1 = s1} {t = t} {t' = t'} {ts = ts} {ts' = ts'} m1 m2 le h hs) = step_follows W s s1 s' m m1 m2 (old t).value (new t').value (values_of (olds ts)) (values_of (news ts')) le (statement_follows h) (chain_follows hs)
    chain_follows {W = W} {s = s} {s' = s'} {m = m} (kin.left_out {ts = ts} {ts' = ts'} hs) = step_follows W s s s' m 0 m (give []) (give []) (values_of (olds ts)) (values_of (news ts')) (omega arith) (nothing_follows L a p q (R s) (R s) (exits L l room W) 0 (stays s)) (chain_follows hs)
    chain_follows {W = W} {s = s} {s' = s'} {m = m} (kin.window {s1 = s1} {ws = ws} {ws' = ws'} {ts = ts} {ts' = ts'} m2 le h hs) = window_step W s s1 s' m m2 ws ws' ts ts' le (hw W s s1 ws ws' h) (chain_follows hs)

    clauses_met : (W : Ways l.Scope) (s s' : l.Scope) (m : ℕ) (ts ts' : Typeds TypeTree) → Clauses l rights rights' (clause_ways W s' s) s s' m ts ts' → ClausesMet L a p q (R s) (R s') (exits L l room W) m (olds ts) (news ts')
    clauses_met W s s' m ts ts' kin.no_clauses = tt
    clauses_met W s s' m ts0 ts0' (kin.clause {s1 = s1} {n = n} {f = f} {f' = f'} {i = i} {i' = i'} {j = j} {j' = j'} {e = e} {e' = e'} {ps = ps} {ps' = ps'} {qs = qs} {qs' = qs'} {ts = ts} {ts' = ts'} m1 m2 le eq eq' hv h fg hs) =
        (m1, m2, le, whole (λ x x'. ClauseMet L a p q (R s) (R s') (exits L l room W) m1 x x') f f' i i' j j' e e' ps ps' (CaseOf n) (CaseOf n) eq eq' (case_met W s s1 s' m1 n ps ps' qs qs' hv fg (chain_follows h)), clauses_met W s s' m2 ts ts' hs)
    clauses_met W s s' m ts0 ts0' (kin.default {s1 = s1} {f = f} {f' = f'} {i = i} {i' = i'} {j = j} {j' = j'} {e = e} {e' = e'} {ps = ps} {ps' = ps'} {ts = ts} {ts' = ts'} m1 m2 le eq eq' h fg hs) =
        (m1, m2, le, whole (λ x x'. ClauseMet L a p q (R s) (R s') (exits L l room W) m1 x x') f f' i i' j j' e e' ps ps' Otherwise Otherwise eq eq' (default_met W s s1 s' m1 ps ps' fg (chain_follows h)), clauses_met W s s' m2 ts ts' hs)

    select_follows : (other : ℕ) (tag : Bool) {W : Ways l.Scope} {s s1 s' : l.Scope} {m : ℕ} {ps ps' qs qs' rs rs' : Typeds TypeTree} → First l rights rights' W s s1 ps ps' qs qs' → Part l rights rights' s1 qs qs' rs rs' → ClausesMet L a p q (R s1) (R s') (exits L l room W) m (olds rs) (news rs') → l.forgets s1 s' →
        G W s s' m (act call (Select tag (suc (suc other))) (olds ps)).value (act call' (Select tag (suc (suc other))) (news ps')).value
    select_follows other tag {W = W} {s = s} {s1 = s1} {s' = s'} {m = m} (kin.first {t = t} {t' = t'} hf) (kin.there {t = c} {t' = c'} {ts = rs} {ts' = rs'} k) hx fg = selects_at W s s1 s' m other tag (old t) (new t') (old c) (new c') (olds rs) (news rs') (statement_follows hf) (asked W k) hx fg
    select_follows other tag {W = W} {s = s} {s1 = s1} {s' = s'} {m = m} (kin.first {t = t} {t' = t'} hf) (kin.absent {ts = rs} {ts' = rs'}) hx fg = selects_at W s s1 s' m other tag (old t) (new t') absent absent (olds rs) (news rs') (statement_follows hf) (valued L a p q (R s1) (exits L l room W) absent absent (absent_met L a p q (R s1) (exits L l room W))) hx fg
    select_follows other tag {W = W} {s' = s'} {m = m} (kin.no_first {s = s}) (kin.there {t = c} {t' = c'} {ts = rs} {ts' = rs'} k) hx fg = selects_at W s s s' m other tag absent absent (old c) (new c') (olds rs) (news rs') (nothing_follows L a p q (R s) (R s) (exits L l room W) 0 (stays s)) (asked W k) hx fg
    select_follows other tag {W = W} {s' = s'} {m = m} (kin.no_first {s = s}) (kin.absent {ts = rs} {ts' = rs'}) hx fg = selects_at W s s s' m other tag absent absent absent absent (olds rs) (news rs') (nothing_follows L a p q (R s) (R s) (exits L l room W) 0 (stays s)) (valued L a p q (R s) (exits L l room W) absent absent (absent_met L a p q (R s) (exits L l room W))) hx fg

    ranged_block : {W : Ways l.Scope} {r s s' : l.Scope} {mb n : ℕ} {ts ts' : Typeds TypeTree} → Ranged l rights rights' W r s s' mb n ts ts' → G (loop_ways W s') s' s' mb (at (olds ts) (suc n)).value (at (news ts') (suc n)).value
    ranged_block (kin.operand h hb) = statement_follows hb
    ranged_block (kin.ranged_name eq eq' h hs) = ranged_block hs
    ranged_block (kin.ranged_place h k hs) = ranged_block hs
