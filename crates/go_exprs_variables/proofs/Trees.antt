-- Typed trees with variables in place of holes: what they take, and what they refuse.
use Rattle.std.proofs.Common.{◌≡◌, ◌∙◌, ℕ, Bool, true, false, List, [], ◌++◌, Option, Some, None, refl, sym, ap}
use Rattle.std.specs.Prelude.{◌&&◌, ◌||◌, not, if◌then◌else◌}
use Rattle.go_base.specs.declared.fault.FaultCode.TheVariants as code
use Rattle.go_constants.specs.declared.values.Const.{Const}
use Rattle.go_types.specs.Trees.{TypeTree}
use Rattle.go_types.specs.Relations.{Rights}
use Rattle.go_typed.specs.declared.form.Form.{Form}
use Rattle.go_typed.specs.declared.form.Form.TheVariants as form
use Rattle.go_typed.specs.Trees.{Sort, Label, Typed, typed, Typeds, sort_of, form_of}
use Rattle.go_typed.specs.Trees as sort
use Rattle.go_exprs_rules.specs.declared.fault.TypeFault.{TypeFault}
use Rattle.go_exprs_rules.specs.Faults.{fault_at}
use Rattle.go_exprs_rules.specs.Settling.{Part, settled, all_settled, unrepresented, all_unrepresented, unrepresented_constant}
use Rattle.go_exprs_rules.specs.Sorts.{Stands, is_open, is_constant, takes_type, retyped, constant_of, represents}
use Rattle.clone_window.specs.Masses.{is_hole, is_inside, is_expression, is_constant_expression}
use Rattle.clone_window.specs.Masses as masses
use Rattle.go_exprs_variables.specs.Over.{varies_over, any_varies, sort_over, first_sort}
use Rattle.go_exprs_variables.specs.Variables.{Standin, Standins, at_hole, put_over, put, all_put}
use Rattle.go_exprs_variables.proofs.Parts.{both_none, none_of_both}

-- ---- elements for fields, which pass on what their value is

abbrev pub is_key : Form → Bool
is_key (form.Keyed n) = true
is_key f = false

-- such an element has one part, its value, and stands for what that does
abbrev pub KeyAgrees : Form → Stands → Typeds TypeTree → Type 0
KeyAgrees (form.Keyed n) s (sort.more p sort.none) = s ≡ sort_of p
KeyAgrees (form.Keyed n) s qs = ⊥
KeyAgrees f s qs = Unit {0}

abbrev mutual
  -- The labels of a tree say of its nodes what their parts say.
  pub Agrees : Part → Type 0
  Agrees (typed f i j l ps) = KeyAgrees f l.sort ps × (varies_over l.varies ps ≡ l.varies) × AllAgree ps

  pub AllAgree : Typeds TypeTree → Type 0
  AllAgree sort.none = Unit {0}
  AllAgree (sort.more p ps) = Agrees p × AllAgree ps
  AllAgree (sort.skip ps) = AllAgree ps

-- an expression that is no such element
abbrev pub Keyless : Part → Type 0
Keyless x = (is_key (form_of x) ≡ false) × Agrees x

pub plain_sort : (f : Form) (s : Stands) (qs : Typeds TypeTree) → is_key f ≡ false → sort_over f s qs ≡ s
plain_sort (form.Keyed n) s qs e = cc
plain_sort f s qs e = refl

-- ---- a label that takes a type

constant_kept : (t : TypeTree) (s : Stands) → masses.is_constant (retyped t s) ≡ masses.is_constant s
constant_kept t (sort.Open u) = refl
constant_kept t sort.Nil = refl
constant_kept t (sort.OpenConstant c) = refl
constant_kept t (sort.Value u) = refl
constant_kept t (sort.Constant u c) = refl
constant_kept t sort.Nothing = refl
constant_kept t sort.Unknown = refl
constant_kept t sort.Blank = refl
constant_kept t (sort.Builtin b) = refl
constant_kept t sort.Println = refl
constant_kept t sort.Package = refl
constant_kept t (sort.IsType u) = refl
constant_kept t (sort.Results u) = refl

abbrev pub retyped_label : TypeTree → Label TypeTree → Label TypeTree
retyped_label t l = record l { sort = retyped t l.sort }

pub hole_kept : (t : TypeTree) (a : Bool) (f : Form) (l : Label TypeTree) → is_hole a f (retyped_label t l) ≡ is_hole a f l
hole_kept t a f l = ap (λ b. not a && (is_expression f && b) && not l.varies) (constant_kept t l.sort)

pub inside_kept : (t : TypeTree) (a : Bool) (f : Form) (l : Label TypeTree) → is_inside a f (retyped_label t l) ≡ is_inside a f l
inside_kept t a f l = ap (λ b. a || (is_expression f && b)) (constant_kept t l.sort)

varies_by : (t : TypeTree) (b : Bool) (f : Form) (i j : ℕ) (l : Label TypeTree) (ps : Typeds TypeTree) (qs : Typeds TypeTree) → any_varies qs ≡ b → any_varies (sort.more (settled t (typed f i j l ps)) qs) ≡ (l.varies || b)
varies_by t b f i j l ps qs e = by_test (takes_type l.sort)
  where
    by_test : (c : Bool) → any_varies (sort.more (if c then typed f i j (retyped_label t l) (all_settled t ps) else typed f i j l ps) qs) ≡ (l.varies || b)
    by_test true = ap (λ z. l.varies || z) e
    by_test false = ap (λ z. l.varies || z) e

varies_settled : (t : TypeTree) (qs : Typeds TypeTree) → any_varies (all_settled t qs) ≡ any_varies qs
varies_settled t sort.none = refl
varies_settled t (sort.more (typed f i j l ps) qs) = varies_by t (any_varies qs) f i j l ps (all_settled t qs) (varies_settled t qs)
varies_settled t (sort.skip qs) = varies_settled t qs

pub varies_kept : (t : TypeTree) (v : Bool) (qs : Typeds TypeTree) → varies_over v (all_settled t qs) ≡ varies_over v qs
varies_kept t v sort.none = refl
varies_kept t v (sort.more q qs) = varies_settled t (sort.more q qs)
varies_kept t v (sort.skip qs) = varies_settled t (sort.skip qs)

-- ---- taking a type and putting variables in

abbrev over : Form → ℕ → ℕ → Label TypeTree → Stands → Typeds TypeTree → Part
over f i j l s qs = typed f i j (record { sort = s; varies = varies_over l.varies qs; calls = l.calls }) qs

module _ (w : Standins) (t : TypeTree) where
  -- by what stands at the node, and by whether it takes a type
  node_commutes : (o : Option Standin) (b : Bool) (f : Form) (i j : ℕ) (l : Label TypeTree) (qs rs : Typeds TypeTree) → is_key f ≡ false → takes_type l.sort ≡ b → all_settled t qs ≡ rs
      → settled t (put_over o f i j l qs) ≡ put_over o f i j (if b then retyped_label t l else l) (if b then rs else qs)
  node_commutes (Some v) b f i j l qs rs k e same = refl
  node_commutes None true f i j l qs rs k e same =
      let plain : put_over None f i j l qs ≡ over f i j l l.sort qs = ap (λ s. over f i j l s qs) (plain_sort f l.sort qs k) in
      let after : settled t (over f i j l l.sort qs) ≡ typed f i j (record { sort = retyped t l.sort; varies = varies_over l.varies qs; calls = l.calls }) (all_settled t qs) =
      ap (λ b. if b then typed f i j (record { sort = retyped t l.sort; varies = varies_over l.varies qs; calls = l.calls }) (all_settled t qs) else over f i j l l.sort qs) e in
      ap (settled t) plain ∙ after
      ∙ ap (λ v. typed f i j (record { sort = retyped t l.sort; varies = v; calls = l.calls }) (all_settled t qs)) (sym (varies_kept t l.varies qs))
      ∙ ap (λ z. over f i j l (retyped t l.sort) z) same
      ∙ sym (ap (λ s. over f i j l s rs) (plain_sort f (retyped t l.sort) rs k))
  node_commutes None false f i j l qs rs k e same =
      let plain : put_over None f i j l qs ≡ over f i j l l.sort qs = ap (λ s. over f i j l s qs) (plain_sort f l.sort qs k) in
      ap (settled t) plain ∙ ap (λ b. if b then typed f i j (record { sort = retyped t l.sort; varies = varies_over l.varies qs; calls = l.calls }) (all_settled t qs) else over f i j l l.sort qs) e ∙ sym plain

  -- the tree that takes the type, with variables in it
  put_settled : (a b : Bool) (f : Form) (i j : ℕ) (l : Label TypeTree) (ps : Typeds TypeTree) → put w a (if b then typed f i j (retyped_label t l) (all_settled t ps) else typed f i j l ps)
      ≡ put_over (at_hole w (is_hole a f l) i) f i j (if b then retyped_label t l else l) (if b then all_put w (is_inside a f l) (all_settled t ps) else all_put w (is_inside a f l) ps)
  put_settled a true f i j l ps =
      ap (λ h. put_over (at_hole w h i) f i j (retyped_label t l) (all_put w (is_inside a f (retyped_label t l)) (all_settled t ps))) (hole_kept t a f l)
      ∙ ap (λ h. put_over (at_hole w (is_hole a f l) i) f i j (retyped_label t l) (all_put w h (all_settled t ps))) (inside_kept t a f l)
  put_settled a false f i j l ps = refl

  -- ---- an element with a key

  -- over its value
  abbrev keyed_over : ℕ → ℕ → ℕ → Label TypeTree → Typeds TypeTree → Part
  keyed_over n i j l qs = typed (form.Keyed n) i j (record { sort = first_sort l.sort qs; varies = varies_over l.varies qs; calls = l.calls }) qs

  pub key_settled : (n i j : ℕ) (l : Label TypeTree) (x : Part) → settled t (keyed_over n i j l (sort.more x sort.none)) ≡ keyed_over n i j l (sort.more (settled t x) sort.none)
  key_settled n i j l (typed g k m r qs) = by_test (takes_type r.sort) refl
    where
      x : Part
      x = typed g k m r qs

      y : Part
      y = typed g k m (retyped_label t r) (all_settled t qs)

      taken_label : Label TypeTree
      taken_label = record { sort = retyped t r.sort; varies = r.varies || false; calls = l.calls }

      by_test : (b : Bool) → takes_type r.sort ≡ b → settled t (keyed_over n i j l (sort.more x sort.none)) ≡ keyed_over n i j l (sort.more (settled t x) sort.none)
      by_test true e =
          let q : settled t x ≡ y = ap (λ z. if z then y else x) e in
          ap (λ z. if z then typed (form.Keyed n) i j taken_label (sort.more (settled t x) sort.none) else keyed_over n i j l (sort.more x sort.none)) e
          ∙ ap (λ z. typed (form.Keyed n) i j taken_label (sort.more z sort.none)) q ∙ ap (λ z. keyed_over n i j l (sort.more z sort.none)) (sym q)
      by_test false e =
          let q : settled t x ≡ x = ap (λ z. if z then y else x) e in
          ap (λ z. if z then typed (form.Keyed n) i j taken_label (sort.more (settled t x) sort.none) else keyed_over n i j l (sort.more x sort.none)) e
          ∙ ap (λ z. keyed_over n i j l (sort.more z sort.none)) (sym q)

  key_no_hole : (a : Bool) (n : ℕ) (l : Label TypeTree) → is_hole a (form.Keyed n) l ≡ false
  key_no_hole true n l = refl
  key_no_hole false n l = refl

  pub put_key : (a : Bool) (n i j : ℕ) (l : Label TypeTree) (ps : Typeds TypeTree) → put w a (typed (form.Keyed n) i j l ps) ≡ keyed_over n i j l (all_put w (is_inside a (form.Keyed n) l) ps)
  put_key a n i j l ps = ap (λ h. put_over (at_hole w h i) (form.Keyed n) i j l (all_put w (is_inside a (form.Keyed n) l) ps)) (key_no_hole a n l)

  kept_type : (x : Part) → takes_type (sort_of x) ≡ false → settled t x ≡ x
  kept_type (typed f i j l ps) e = ap (λ c. if c then typed f i j (retyped_label t l) (all_settled t ps) else typed f i j l ps) e

  key_commutes : (a b : Bool) (n i j : ℕ) (l : Label TypeTree) (p : Part) → takes_type l.sort ≡ b → l.sort ≡ sort_of p
      → all_settled t (all_put w (is_inside a (form.Keyed n) l) (sort.more p sort.none)) ≡ all_put w (is_inside a (form.Keyed n) l) (all_settled t (sort.more p sort.none))
      → settled t (put w a (typed (form.Keyed n) i j l (sort.more p sort.none))) ≡ put w a (settled t (typed (form.Keyed n) i j l (sort.more p sort.none)))
  key_commutes a b n i j l p e is same =
      let h = is_inside a (form.Keyed n) l in
      let x = typed (form.Keyed n) i j l (sort.more p sort.none) in
      let y = typed (form.Keyed n) i j (retyped_label t l) (sort.more (settled t p) sort.none) in
      ap (settled t) (put_key a n i j l (sort.more p sort.none)) ∙ key_settled n i j l (put w h p) ∙ ap (λ qs. keyed_over n i j l qs) same ∙ by_test b e
    where
      by_test : (b : Bool) → takes_type l.sort ≡ b → keyed_over n i j l (sort.more (put w (is_inside a (form.Keyed n) l) (settled t p)) sort.none) ≡ put w a (settled t (typed (form.Keyed n) i j l (sort.more p sort.none)))
      by_test true e =
          sym
          (ap (λ z. put w a (if z then typed (form.Keyed n) i j (retyped_label t l) (sort.more (settled t p) sort.none) else typed (form.Keyed n) i j l (sort.more p sort.none))) e
          ∙ put_key a n i j (retyped_label t l) (sort.more (settled t p) sort.none))
      by_test false e =
          ap (λ z. keyed_over n i j l (sort.more (put w (is_inside a (form.Keyed n) l) z) sort.none)) (kept_type p (ap takes_type (sym is) ∙ e))
          ∙ sym
          (ap (λ z. put w a (if z then typed (form.Keyed n) i j (retyped_label t l) (sort.more (settled t p) sort.none) else typed (form.Keyed n) i j l (sort.more p sort.none))) e
          ∙ put_key a n i j l (sort.more p sort.none))

  form_commutes : (a : Bool) (f : Form) (i j : ℕ) (l : Label TypeTree) (ps : Typeds TypeTree) → KeyAgrees f l.sort ps → all_settled t (all_put w (is_inside a f l) ps) ≡ all_put w (is_inside a f l) (all_settled t ps)
      → settled t (put w a (typed f i j l ps)) ≡ put w a (settled t (typed f i j l ps))
  form_commutes a (form.Keyed n) i j l (sort.more p sort.none) h same = key_commutes a (takes_type l.sort) n i j l p refl h same
  form_commutes a (form.Keyed n) i j l sort.none h same = absurd h
  form_commutes a (form.Keyed n) i j l (sort.skip ps) h same = absurd h
  form_commutes a (form.Keyed n) i j l (sort.more p (sort.more q ps)) h same = absurd h
  form_commutes a (form.Keyed n) i j l (sort.more p (sort.skip ps)) h same = absurd h
  form_commutes a f i j l ps h same =
      node_commutes (at_hole w (is_hole a f l) i) (takes_type l.sort) f i j l (all_put w (is_inside a f l) ps) (all_put w (is_inside a f l) (all_settled t ps)) refl refl same ∙ sym (put_settled a (takes_type l.sort) f i j l ps)

  mutual
    -- It doesn't matter whether a tree takes the type first or the variables.
    pub commutes : (a : Bool) (x : Part) → Agrees x → settled t (put w a x) ≡ put w a (settled t x)
    commutes a (typed f i j l ps) h = form_commutes a f i j l ps h.0 (all_commute (is_inside a f l) ps h.2)

    pub all_commute : (a : Bool) (ps : Typeds TypeTree) → AllAgree ps → all_settled t (all_put w a ps) ≡ all_put w a (all_settled t ps)
    all_commute a sort.none h = refl
    all_commute a (sort.more p ps) h = ap (λ z. sort.more z (all_settled t (all_put w a ps))) (commutes a p h.0) ∙ ap (sort.more (put w a (settled t p))) (all_commute a ps h.1)
    all_commute a (sort.skip ps) h = ap sort.skip (all_commute a ps h)

-- ---- constants out of range

module _ (w : Standins) (rights : Rights) (t : TypeTree) where
  abbrev untyped : ℕ → ℕ → Stands → List TypeFault → List TypeFault
  untyped i j s fs = if is_open s then (if is_constant s then unrepresented_constant rights t i j (constant_of s) else fs) else []

  weaker : (i j : ℕ) (s : Stands) (b c : Bool) (fs gs : List TypeFault) → (fs ≡ [] → gs ≡ [])
      → (if b then (if c then unrepresented_constant rights t i j (constant_of s) else fs) else []) ≡ [] → (if b then (if c then unrepresented_constant rights t i j (constant_of s) else gs) else []) ≡ []
  weaker i j s true true fs gs h e = e
  weaker i j s true false fs gs h e = h e
  weaker i j s false c fs gs h e = refl

  node_range : (o : Option Standin) (f : Form) (i j : ℕ) (l : Label TypeTree) (ps qs : Typeds TypeTree) → is_key f ≡ false → (all_unrepresented rights t ps ≡ [] → all_unrepresented rights t qs ≡ [])
      → unrepresented rights t (typed f i j l ps) ≡ [] → unrepresented rights t (put_over o f i j l qs) ≡ []
  node_range (Some v) f i j l ps qs k h e = refl
  node_range None f i j l ps qs k h e =
      ap (λ s. unrepresented rights t (over f i j l s qs)) (plain_sort f l.sort qs k) ∙ weaker i j l.sort (is_open l.sort) (is_constant l.sort) (all_unrepresented rights t ps) (all_unrepresented rights t qs) h e

  constant_range : (i j k m : ℕ) (o : Option Const) → unrepresented_constant rights t i j o ≡ [] → unrepresented_constant rights t k m o ≡ []
  constant_range i j k m None e = refl
  constant_range i j k m (Some c) e = by_test (represents rights t c) e
    where
      by_test : (b : Bool) → (if b then [] else fault_at code.Representable i j) ≡ [] → (if b then [] else fault_at code.Representable k m) ≡ []
      by_test true e = refl
      by_test false e = cc

  -- an element with a key refuses what its value does
  key_range : (n i j : ℕ) (v c : Bool) (x : Part) → unrepresented rights t x ≡ [] → unrepresented rights t (typed (form.Keyed n) i j (record { sort = sort_of x; varies = v; calls = c }) (sort.more x sort.none)) ≡ []
  key_range n i j v c (typed g k m l qs) e = by_tests (is_open l.sort) (is_constant l.sort) (all_unrepresented rights t qs) (unrepresented rights t (typed g k m l qs)) e e
    where
      by_tests : (b d : Bool) (fs gs : List TypeFault) → gs ≡ [] → (if b then (if d then unrepresented_constant rights t k m (constant_of l.sort) else fs) else []) ≡ []
          → (if b then (if d then unrepresented_constant rights t i j (constant_of l.sort) else gs ++ []) else []) ≡ []
      by_tests true true fs gs z e = constant_range k m i j (constant_of l.sort) e
      by_tests true false fs gs z e = ap (λ hs. hs ++ []) z
      by_tests false d fs gs z e = refl

  value_range : (n i j : ℕ) (l : Label TypeTree) (x : Part) → l.sort ≡ sort_of x → unrepresented rights t (typed (form.Keyed n) i j l (sort.more x sort.none)) ≡ [] → unrepresented rights t x ≡ []
  value_range n i j r (typed g k m l qs) is e =
      by_tests (is_open l.sort) (is_constant l.sort) (all_unrepresented rights t qs) (unrepresented rights t (typed g k m l qs)) refl
      (ap (λ z. if is_open z then (if is_constant z then unrepresented_constant rights t i j (constant_of z) else unrepresented rights t (typed g k m l qs) ++ []) else []) (sym is) ∙ e)
    where
      by_tests : (b d : Bool) (fs gs : List TypeFault) → gs ≡ (if b then (if d then unrepresented_constant rights t k m (constant_of l.sort) else fs) else [])
          → (if b then (if d then unrepresented_constant rights t i j (constant_of l.sort) else gs ++ []) else []) ≡ [] → (if b then (if d then unrepresented_constant rights t k m (constant_of l.sort) else fs) else []) ≡ []
      by_tests true true fs gs z e = constant_range i j k m (constant_of l.sort) e
      by_tests true false fs gs z e = sym z ∙ (both_none gs [] e).0
      by_tests false d fs gs z e = refl

  form_range : (a : Bool) (f : Form) (i j : ℕ) (l : Label TypeTree) (ps : Typeds TypeTree) → KeyAgrees f l.sort ps → (all_unrepresented rights t ps ≡ [] → all_unrepresented rights t (all_put w (is_inside a f l) ps) ≡ [])
      → unrepresented rights t (typed f i j l ps) ≡ [] → unrepresented rights t (put w a (typed f i j l ps)) ≡ []
  form_range a (form.Keyed n) i j l (sort.more p sort.none) h under e =
      let inner : unrepresented rights t (put w (is_inside a (form.Keyed n) l) p) ≡ [] =
      (both_none (unrepresented rights t (put w (is_inside a (form.Keyed n) l) p)) [] (under (none_of_both (unrepresented rights t p) [] (value_range n i j l p h e) refl))).0 in
      ap (unrepresented rights t) (put_key w t a n i j l (sort.more p sort.none)) ∙ key_range n i j (any_varies (sort.more (put w (is_inside a (form.Keyed n) l) p) sort.none)) l.calls (put w (is_inside a (form.Keyed n) l) p) inner
  form_range a (form.Keyed n) i j l sort.none h under e = absurd h
  form_range a (form.Keyed n) i j l (sort.skip ps) h under e = absurd h
  form_range a (form.Keyed n) i j l (sort.more p (sort.more q ps)) h under e = absurd h
  form_range a (form.Keyed n) i j l (sort.more p (sort.skip ps)) h under e = absurd h
  form_range a f i j l ps h under e = node_range (at_hole w (is_hole a f l) i) f i j l ps (all_put w (is_inside a f l) ps) refl under e

  mutual
    -- No constant gets out of range where variables are put in.
    pub put_in_range : (a : Bool) (x : Part) → Agrees x → unrepresented rights t x ≡ [] → unrepresented rights t (put w a x) ≡ []
    put_in_range a (typed f i j l ps) h e = form_range a f i j l ps h.0 (λ g. all_in_range (is_inside a f l) ps h.2 g) e

    pub all_in_range : (a : Bool) (ps : Typeds TypeTree) → AllAgree ps → all_unrepresented rights t ps ≡ [] → all_unrepresented rights t (all_put w a ps) ≡ []
    all_in_range a sort.none h e = refl
    all_in_range a (sort.more p ps) h e =
        let both = both_none (unrepresented rights t p) (all_unrepresented rights t ps) e in
        none_of_both (unrepresented rights t (put w a p)) (all_unrepresented rights t (all_put w a ps)) (put_in_range a p h.0 both.0) (all_in_range a ps h.1 both.1)
    all_in_range a (sort.skip ps) h e = all_in_range a ps h e
