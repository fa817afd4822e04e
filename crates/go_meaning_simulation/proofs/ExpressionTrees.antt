-- Expressions that are kin match: the new one follows the old one in the frames of the scope.
use Rattle.std.proofs.Common.{◌≡◌, ℕ, List, [], ◌∷◌, sym, ap, subst, arith}
use Rattle.std.specs.Prelude.{Bool, false}
use Rattle.go_types.specs.Trees.{TypeTree}
use Rattle.go_types.specs.Relations.{Rights}
use Rattle.go_typed.specs.declared.form.Form.{Form}
use Rattle.go_typed.specs.Trees.{Label, Typed, typed, Typeds}
use Rattle.go_typed.specs.Trees as trees
use Rattle.go_meaning.specs.Values.{Value, nth}
use Rattle.go_meaning.specs.Computations.{Next, Ends, Comp, end_by, give, read, write}
use Rattle.go_meaning.specs.Plans.{Plan, Give, Local, Variable, Ignore, Inner, Skip, Once}
use Rattle.go_meaning.specs.Doings.{Doing, plain, absent, local_place, act, doing_of}
use Rattle.go_meaning.specs.Planning.{plan}
use Rattle.go_meaning.specs.Meaning.{turned, meaning, meanings}
use Rattle.go_meaning.proofs.Public.{Grows, give_grows, read_grows, plain_grown, local_grown}
use Rattle.go_meaning_simulation.specs.Likeness.{Likeness}
use Rattle.go_meaning_simulation.specs.Links.{Links}
use Rattle.go_meaning_simulation.specs.Kin.{Leaf, gives, reads, changes, holds, held, variable, blank, nothing, Expression, leaf, inner, keyed, keyed_back, Expressions, none, more, skip}
use Rattle.go_meaning_simulation.proofs.Following.{Frames, Exits, read_follows, write_follows}
use Rattle.go_meaning_simulation.proofs.Expressions.{Like, Valued, Asked, met_asked, AllAsked, give_like, plain_met, absent_met, local_met, blank_met, variable_met}
use Rattle.go_meaning_simulation.proofs.Inner.{inner_asked}
use Rattle.go_meaning_simulation.proofs.Rooms.{Room}

module _ (L : Likeness) (a p q : ℕ) (l : Links) (room : Room L l) (s : l.Scope) (X : Exits) where
  abbrev R : Frames
  R = room.frames s

  reads_like : (i j : ℕ) → l.reads s i j → Like L a p q R X (read i) (read j)
  reads_like i j h = read_follows L a p q R X i j (room.reading s i j h)

  writes_like : (i j : ℕ) → l.writes s i j → (v v' : Value) → L.values (v ∷ []) (v' ∷ []) → Like L a p q R X (write i v) (write j v')
  writes_like i j h v v' e = write_follows L a p q R R X i j v v' (room.writing s i j h v v' e)

  local_valued : (i j : ℕ) → l.reads s i j → Valued L a p q R X (local_place i) (local_place j)
  local_valued i j h = record { grown = local_grown j; value = reads_like i j h }

  -- a constant against a local that holds it
  holds_like : (v : Value) (n : ℕ) → l.holds s v n → Like L a p q R X (give (v ∷ [])) (read n)
  unfolding read end_by
  holds_like v n h = record {
    grows = read_grows n;
    by = λ d d' f f' w w' t le r dd. (nth f' n ∷ [], f', w', 0, room.holding s v n h f f' r, r, le, omega arith, λ x. ap (Ends (Next (nth f' n ∷ [])) f' w') (omega arith));
  }

  held_like : (n : ℕ) (v : Value) → l.held s n v → Like L a p q R X (read n) (give (v ∷ []))
  unfolding read end_by
  held_like n v h = record {
    grows = give_grows (v ∷ []);
    by = λ d d' f f' w w' t le r dd. (v ∷ [], f', w', 0, room.held s n v h f f' r, r, le, omega arith, λ x. ap (Ends (Next (v ∷ [])) f' w') (omega arith));
  }

  module _ (call call' : ℕ → List Value → Comp) (hg : (g : ℕ) (vs : List Value) → Grows (call' g vs)) (hc : (g g' : ℕ) (vs vs' : List Value) → L.calls g g' → L.values vs vs' → Like L a p q R X (call g vs) (call' g' vs')) where
    leaf_asked : {b : Bool} {t t' : Plan} → Leaf l s b t t' → (xs xs' : List Doing) → Asked L a p q R X b (act call t xs) (act call' t' xs')
    unfolding act
    leaf_asked (gives {b = b} {v = v} {v' = v'} e) xs xs' = met_asked L a p q R X b (plain (give (v ∷ []))) (plain (give (v' ∷ []))) (plain_met L a p q R X (give (v ∷ [])) (give (v' ∷ [])) (give_like L a p q R X (v ∷ []) (v' ∷ []) (room.valuing v v' e)))
    leaf_asked (reads {i = i} {j = j} h) xs xs' = local_valued i j h
    leaf_asked (changes {i = i} {j = j} h k) xs xs' = local_met L a p q R X i j (reads_like i j h) (writes_like i j k)
    leaf_asked (holds {v = v} {n = n} h) xs xs' = record { grown = local_grown n; value = holds_like v n h }
    leaf_asked (held {n = n} {v = v} h) xs xs' = record { grown = plain_grown (give (v ∷ [])) (give_grows (v ∷ [])); value = held_like n v h }
    leaf_asked (variable {b = b} {n = n}) xs xs' = met_asked L a p q R X b (act call (Variable n) xs) (act call' (Variable n) xs') (variable_met L a p q R X n)
    leaf_asked (blank {b = b}) xs xs' = met_asked L a p q R X b (act call Ignore xs) (act call' Ignore xs') (blank_met L a p q R X)
    leaf_asked (nothing {b = b}) xs xs' = met_asked L a p q R X b (act call Skip xs) (act call' Skip xs') (absent_met L a p q R X)

    module _ (rights rights' : Rights) (later later' : Typed TypeTree → Comp) where
      -- by the plans of the two nodes
      planned : (b : Bool) (f f' : Form) (i i' j j' : ℕ) (e e' : Label TypeTree) (ps ps' : Typeds TypeTree) (t t' : Plan) → plan rights f e ps ≡ Once t → plan rights' f' e' ps' ≡ Once t' → Asked L a p q R X b (act call t (meanings rights call later ps)) (act call' t' (meanings rights' call' later' ps')) →
          Asked L a p q R X b (meaning rights call later (typed f i j e ps)) (meaning rights' call' later' (typed f' i' j' e' ps'))
      planned b f f' i i' j j' e e' ps ps' t t' eq eq' h =
          let again : Comp = later (typed f i j e (turned f ps)) in
          let again' : Comp = later' (typed f' i' j' e' (turned f' ps')) in
          subst (λ c. Asked L a p q R X b (doing_of call again c (meanings rights call later ps)) (doing_of call' again' (plan rights' f' e' ps') (meanings rights' call' later' ps'))) (sym eq)
          (subst (λ c. Asked L a p q R X b (doing_of call again (Once t) (meanings rights call later ps)) (doing_of call' again' c (meanings rights' call' later' ps'))) (sym eq') h)

      keyed_asked : (v : Value) (n : ℕ) (g : Form) (u z : ℕ) (c : Label TypeTree) (qs : Typeds TypeTree) (xs xs' : List Doing) → plan rights' g c qs ≡ Once (Local n) → l.holds s v n → Valued L a p q R X (act call (Give v) xs) (act call' Inner (meaning rights' call' later' (typed g u z c qs) ∷ xs'))
      unfolding act
      keyed_asked v n g u z c qs xs xs' eq h =
          subst (λ k. Valued L a p q R X (plain (give (v ∷ []))) (doing_of call' (later' (typed g u z c (turned g qs))) k (meanings rights' call' later' qs))) (sym eq) (record { grown = local_grown n; value = holds_like v n h })

      keyed_back_asked : (v : Value) (n : ℕ) (g : Form) (u z : ℕ) (c : Label TypeTree) (qs : Typeds TypeTree) (xs xs' : List Doing) → plan rights g c qs ≡ Once (Local n) → l.held s n v → Valued L a p q R X (act call Inner (meaning rights call later (typed g u z c qs) ∷ xs)) (act call' (Give v) xs')
      unfolding act
      keyed_back_asked v n g u z c qs xs xs' eq h =
          subst (λ k. Valued L a p q R X (doing_of call (later (typed g u z c (turned g qs))) k (meanings rights call later qs)) (plain (give (v ∷ [])))) (sym eq) (record { grown = plain_grown (give (v ∷ [])) (give_grows (v ∷ [])); value = held_like n v h })

      mutual
        pub expression_asked : {b : Bool} {t t' : Typed TypeTree} → Expression l rights rights' s b t t' → Asked L a p q R X b (meaning rights call later t) (meaning rights' call' later' t')
        expression_asked (leaf {b = b} {f = f} {f' = f'} {i = i} {i' = i'} {j = j} {j' = j'} {e = e} {e' = e'} {ps = ps} {ps' = ps'} t t' eq eq' h) =
            planned b f f' i i' j j' e e' ps ps' t t' eq eq' (leaf_asked h (meanings rights call later ps) (meanings rights' call' later' ps'))
        expression_asked (inner {b = b} {f = f} {f' = f'} {i = i} {i' = i'} {j = j} {j' = j'} {e = e} {e' = e'} {ps = ps} {ps' = ps'} t eq eq' is hs) =
            planned b f f' i i' j j' e e' ps ps' t t eq eq' (inner_asked L a p q R X call call' hg hc t b is (meanings rights call later ps) (meanings rights' call' later' ps') (expressions_asked hs))
        expression_asked (keyed {v = v} {n = n} {f = f} {f' = f'} {g = g} {i = i} {i' = i'} {j = j} {j' = j'} {a = u} {b = z} {e = e} {e' = e'} {c = c} {ps = ps} {qs = qs} {ts' = ts'} eq eq' eq1 h) =
            planned false f f' i i' j j' e e' ps (trees.more (typed g u z c qs) ts') (Give v) Inner eq eq' (keyed_asked v n g u z c qs (meanings rights call later ps) (meanings rights' call' later' ts') eq1 h)
        expression_asked (keyed_back {v = v} {n = n} {f = f} {f' = f'} {g = g} {i = i} {i' = i'} {j = j} {j' = j'} {a = u} {b = z} {e = e} {e' = e'} {c = c} {ps' = ps'} {qs = qs} {ts = ts} eq eq1 eq' h) =
            planned false f f' i i' j j' e e' (trees.more (typed g u z c qs) ts) ps' Inner (Give v) eq eq' (keyed_back_asked v n g u z c qs (meanings rights call later ts) (meanings rights' call' later' ps') eq1 h)

        pub expressions_asked : {m : ℕ → Bool} {ts ts' : Typeds TypeTree} → Expressions l rights rights' s m ts ts' → AllAsked L a p q R X m (meanings rights call later ts) (meanings rights' call' later' ts')
        expressions_asked none = tt
        expressions_asked (more h hs) = (expression_asked h, expressions_asked hs)
        expressions_asked (skip {m = m} hs) = (met_asked L a p q R X (m 0) absent absent (absent_met L a p q R X), expressions_asked hs)
