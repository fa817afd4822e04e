-- Typed trees at whose holes no variable stands: nothing is put into them.
use Rattle.std.proofs.Common.{◌≡◌, ◌∙◌, ℕ, Bool, true, false, None, refl, sym, ap, subst}
use Rattle.std.specs.Prelude.{◌&&◌, not, if◌then◌else◌}
use Rattle.go_types.specs.Trees.{TypeTree}
use Rattle.go_typed.specs.declared.form.Form.{Form}
use Rattle.go_typed.specs.declared.form.Form.TheVariants as form
use Rattle.go_typed.specs.Trees.{Sort, Label, Typed, typed, Typeds, sort_of}
use Rattle.go_typed.specs.Trees as sort
use Rattle.go_exprs_rules.specs.Settling.{Part}
use Rattle.go_exprs_rules.specs.Sorts.{is_open}
use Rattle.go_exprs_rules.specs.Tables.{is_held}
use Rattle.clone_window.specs.Masses.{is_hole, is_inside, is_constant_expression}
use Rattle.go_exprs_variables.specs.Over.{varies_over, sort_over}
use Rattle.go_exprs_variables.specs.Variables.{Standins, at_hole, put_over, put, all_put, wanted, all_wanted, first_wanted, or_wanted, put_with, begun, all_begun}
use Rattle.go_exprs_variables.proofs.Begun.{unless_none}
use Rattle.go_exprs_variables.proofs.Trees.{KeyAgrees, Agrees, AllAgree}

pub sort_agrees : (f : Form) (s : Sort TypeTree) (ps : Typeds TypeTree) → KeyAgrees f s ps → sort_over f s ps ≡ s
sort_agrees (form.Keyed n) s (sort.more p sort.none) h = sym h
sort_agrees (form.Keyed n) s sort.none h = absurd h
sort_agrees (form.Keyed n) s (sort.skip ps) h = absurd h
sort_agrees (form.Keyed n) s (sort.more p (sort.more q ps)) h = absurd h
sort_agrees (form.Keyed n) s (sort.more p (sort.skip ps)) h = absurd h
sort_agrees f s ps h = refl

held_inside : (a : Bool) (f : Form) (l : Label TypeTree) → is_held f ≡ true → is_inside a f l ≡ a
held_inside true (form.Held k) l e = refl
held_inside false (form.Held k) l e = refl
held_inside a f l e = cc

module _ (w : Standins) where
  abbrev mutual
    -- No variable stands at a hole of the tree, which may stand inside a constant expression.
    pub Away : Bool → Part → Type 0
    Away a (typed f i j l ps) = (at_hole w (is_hole a f l) i ≡ None) × AllAway (is_inside a f l) ps

    pub AllAway : Bool → Typeds TypeTree → Type 0
    AllAway a sort.none = Unit {0}
    AllAway a (sort.more p ps) = Away a p × AllAway a ps
    AllAway a (sort.skip ps) = AllAway a ps

  -- inside a constant expression there are no holes
  mutual
    pub away_inside : (x : Part) → Away true x
    away_inside (typed f i j l ps) = (refl, all_away_inside ps)

    pub all_away_inside : (ps : Typeds TypeTree) → AllAway true ps
    all_away_inside sort.none = tt
    all_away_inside (sort.more p ps) = (away_inside p, all_away_inside ps)
    all_away_inside (sort.skip ps) = all_away_inside ps

  put_node : (a : Bool) (f : Form) (i j : ℕ) (l : Label TypeTree) (ps : Typeds TypeTree) → KeyAgrees f l.sort ps → varies_over l.varies ps ≡ l.varies → at_hole w (is_hole a f l) i ≡ None → all_put w (is_inside a f l) ps ≡ ps
      → put w a (typed f i j l ps) ≡ typed f i j l ps
  put_node a f i j l ps key varies at same =
      ap (λ v. put_over v f i j l (all_put w (is_inside a f l) ps)) at ∙ ap (λ qs. put_over None f i j l qs) same
      ∙ ap (λ z. typed f i j (record { sort = z; varies = varies_over l.varies ps; calls = l.calls }) ps) (sort_agrees f l.sort ps key)
      ∙ ap (λ z. typed f i j (record { sort = l.sort; varies = z; calls = l.calls }) ps) varies

  mutual
    -- Nothing is put into the tree.
    pub put_nothing : (a : Bool) (x : Part) → Agrees x → Away a x → put w a x ≡ x
    put_nothing a (typed f i j l ps) g h = put_node a f i j l ps g.0 g.1 h.0 (put_none (is_inside a f l) ps g.2 h.1)

    put_none : (a : Bool) (ps : Typeds TypeTree) → AllAgree ps → AllAway a ps → all_put w a ps ≡ ps
    put_none a sort.none g h = refl
    put_none a (sort.more p ps) g h = ap (λ z. sort.more z (all_put w a ps)) (put_nothing a p g.0 h.0) ∙ ap (sort.more p) (put_none a ps g.1 h.1)
    put_none a (sort.skip ps) g h = ap sort.skip (put_none a ps g h)

  mutual
    -- It wants no type.
    pub wants_nothing : (a : Bool) (x : Part) → Away a x → wanted w a x ≡ None
    wants_nothing a (typed f i j l ps) h =
        unless_none (is_open l.sort) (first_wanted (at_hole w (is_hole a f l) i) (all_wanted w (is_inside a f l) ps))
        (ap (λ v. first_wanted v (all_wanted w (is_inside a f l) ps)) h.0 ∙ want_none (is_inside a f l) ps h.1)

    want_none : (a : Bool) (ps : Typeds TypeTree) → AllAway a ps → all_wanted w a ps ≡ None
    want_none a sort.none h = refl
    want_none a (sort.more p ps) h = ap (λ o. or_wanted o (all_wanted w a ps)) (wants_nothing a p h.0) ∙ want_none a ps h.1
    want_none a (sort.skip ps) h = want_none a ps h

  begun_node : (a b : Bool) (f : Form) (i j : ℕ) (l : Label TypeTree) (ps : Typeds TypeTree) → is_held f ≡ b → Agrees (typed f i j l ps) → Away a (typed f i j l ps) → (is_held f ≡ true → all_begun w a ps ≡ ps) → begun w a (typed f i j l ps) ≡ typed f i j l ps
  begun_node a true f i j l ps e g h same =
      ap (λ c. if c then typed f i j (record l { varies = varies_over l.varies (all_begun w a ps) }) (all_begun w a ps) else put_with w a (wanted w a (typed f i j l ps)) (typed f i j l ps)) e
      ∙ ap (λ qs. typed f i j (record l { varies = varies_over l.varies qs }) qs) (same e) ∙ ap (λ z. typed f i j (record l { varies = z }) ps) g.1
  begun_node a false f i j l ps e g h same =
      ap (λ c. if c then typed f i j (record l { varies = varies_over l.varies (all_begun w a ps) }) (all_begun w a ps) else put_with w a (wanted w a (typed f i j l ps)) (typed f i j l ps)) e
      ∙ ap (λ z. put_with w a z (typed f i j l ps)) (wants_nothing a (typed f i j l ps) h) ∙ put_nothing a (typed f i j l ps) g h

  mutual
    -- It stands as it was typed.
    pub begun_nothing : (a : Bool) (x : Part) → Agrees x → Away a x → begun w a x ≡ x
    begun_nothing a (typed f i j l ps) g h = begun_node a (is_held f) f i j l ps refl g h (λ e. begun_none a ps g.2 (subst (λ b. AllAway b ps) (held_inside a f l e) h.1))

    begun_none : (a : Bool) (ps : Typeds TypeTree) → AllAgree ps → AllAway a ps → all_begun w a ps ≡ ps
    begun_none a sort.none g h = refl
    begun_none a (sort.more p ps) g h = ap (λ z. sort.more z (all_begun w a ps)) (begun_nothing a p g.0 h.0) ∙ ap (sort.more p) (begun_none a ps g.1 h.1)
    begun_none a (sort.skip ps) g h = ap sort.skip (begun_none a ps g h)

  -- ---- trees with no constant expression at whose first token a variable stands

  abbrev mutual
    pub Clear : Part → Type 0
    Clear (typed f i j l ps) = (is_constant_expression f l ≡ true → w i ≡ None) × AllClear ps

    pub AllClear : Typeds TypeTree → Type 0
    AllClear sort.none = Unit {0}
    AllClear (sort.more p ps) = Clear p × AllClear ps
    AllClear (sort.skip ps) = AllClear ps

  clear_hole : (a b : Bool) (f : Form) (i : ℕ) (l : Label TypeTree) → is_hole a f l ≡ b → (is_constant_expression f l ≡ true → w i ≡ None) → at_hole w b i ≡ None
  clear_hole a false f i l e h = refl
  clear_hole true true f i l e h = cc
  clear_hole false true f i l e h = h (first (is_constant_expression f l) (not l.varies) e)
    where
      first : (b c : Bool) → (true && b && c) ≡ true → b ≡ true
      first true c e = refl
      first false c e = cc

  mutual
    pub clear_away : (a : Bool) (x : Part) → Clear x → Away a x
    clear_away a (typed f i j l ps) h = (clear_hole a (is_hole a f l) f i l refl h.0, all_clear_away (is_inside a f l) ps h.1)

    pub all_clear_away : (a : Bool) (ps : Typeds TypeTree) → AllClear ps → AllAway a ps
    all_clear_away a sort.none h = tt
    all_clear_away a (sort.more p ps) h = (clear_away a p h.0, all_clear_away a ps h.1)
    all_clear_away a (sort.skip ps) h = all_clear_away a ps h
