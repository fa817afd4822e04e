-- What holds of the holes of a typed tree, and what is asked of its nodes.
use Rattle.std.proofs.Common.{◌≡◌, ◌∙◌, ℕ, Bool, true, false, if◌then◌else◌, [], ◌∷◌, ◌++◌, Option, Some, None, refl, sym, ap, subst}
use Rattle.std.specs.Prelude.{◌&&◌, not}
use Rattle.go_types.specs.Trees.{TypeTree}
use Rattle.go_typed.specs.declared.form.Form.{Form}
use Rattle.go_typed.specs.declared.form.Form.TheVariants as form
use Rattle.go_typed.specs.Trees.{Label, Typed, typed, Typeds, none, more, skip, row, list_of, first_of, last_of, form_of, sort_of, label_of, parts_of}
use Rattle.go_typed.specs.Trees as sort
use Rattle.go_exprs_rules.specs.declared.family.OpenKind.{OpenKind}
use Rattle.go_exprs_rules.specs.Settling.{Part, Take, stay, default, as_type, settled, all_settled, defaulted, given}
use Rattle.go_exprs_rules.specs.Sorts.{Stands, takes_type, open_kind, retyped, default_type, is_unknown}
use Rattle.go_exprs_rules.specs.Tables.{Parts, is_held, held, all_held}
use Rattle.clone_window.specs.Masses.{is_constant, is_expression}
use Rattle.go_stmts_final_types.specs.Known.{IsKnown, AreKnown, AreOwn, DeclaresOwn, is_object}
use Rattle.go_function_holes.specs.Holes.{is_first_constant, applies, calls_no_constant, none_called}

-- what is asked of the tokens of a hole
abbrev pub OfHole : Type 1
OfHole = ℕ → ℕ → Type 0

pub differ : false ≡ true → ⊥
differ e = cc

pub either : {A : Type 0} (P : A → Type 0) (b : Bool) (x y : A) → (b ≡ true → P x) → (b ≡ false → P y) → P (if b then x else y)
either P true x y g h = g refl
either P false x y g h = h refl

pub both : {A : Type 0} (P : A → Type 0) (b : Bool) (x y : A) → P x → P y → P (if b then x else y)
both P b x y g h = either P b x y (λ e. g) (λ e. h)

-- is it a constant expression
abbrev pub is_whole : Part → Bool
is_whole x = is_expression (form_of x) && is_constant (sort_of x)

-- of a constant expression that names no variable
abbrev pub Here : Bool → Bool → Type 0 → Type 0
Here true false A = A
Here a v A = Unit {0}

module _ (P : OfHole) where
  abbrev mutual
    -- it holds of each constant expression that names no variable, those inside others too
    pub Holes : Part → Type 0
    Holes (typed f i j l ps) = Here (is_expression f && is_constant l.sort) l.varies (P i j) × AllHoles ps

    pub AllHoles : Typeds TypeTree → Type 0
    AllHoles none = Unit {0}
    AllHoles (more p ps) = Holes p × AllHoles ps
    AllHoles (skip ps) = AllHoles ps

  abbrev pub PartHoles : Option Part → Type 0
  PartHoles None = Unit {0}
  PartHoles (Some x) = Holes x

  abbrev pub EachHoles : Parts → Type 0
  EachHoles [] = Unit {0}
  EachHoles (x ∷ xs) = PartHoles x × EachHoles xs

-- ---- one thing from another

pub here-weaker : (A B : Type 0) (a v : Bool) → (A → B) → Here a v A → Here a v B
here-weaker A B true false f h = f h
here-weaker A B true true f h = tt
here-weaker A B false v f h = tt

module _ (P Q : OfHole) (g : (i j : ℕ) → P i j → Q i j) where
  mutual
    pub holes-weaker : (x : Part) → Holes P x → Holes Q x
    holes-weaker (typed f i j l ps) h = (here-weaker (P i j) (Q i j) (is_expression f && is_constant l.sort) l.varies (g i j) h.0, all-weaker ps h.1)

    pub all-weaker : (ps : Typeds TypeTree) → AllHoles P ps → AllHoles Q ps
    all-weaker none h = tt
    all-weaker (more p ps) h = (holes-weaker p h.0, all-weaker ps h.1)
    all-weaker (skip ps) h = all-weaker ps h

  pub part-weaker : (x : Option Part) → PartHoles P x → PartHoles Q x
  part-weaker None h = tt
  part-weaker (Some x) h = holes-weaker x h

  pub each-weaker : (xs : Parts) → EachHoles P xs → EachHoles Q xs
  each-weaker [] h = tt
  each-weaker (x ∷ xs) h = (part-weaker x h.0, each-weaker xs h.1)

-- ---- what takes a type

pub retyped-constant : (t : TypeTree) (s : Stands) → is_constant (retyped t s) ≡ is_constant s
retyped-constant t (sort.Open u) = refl
retyped-constant t sort.Nil = refl
retyped-constant t (sort.OpenConstant c) = refl
retyped-constant t s = refl

retyped-unknown : (t : TypeTree) (s : Stands) → is_unknown (retyped t s) ≡ is_unknown s
retyped-unknown t (sort.Open u) = refl
retyped-unknown t sort.Nil = refl
retyped-unknown t (sort.OpenConstant c) = refl
retyped-unknown t s = refl

module _ (P : OfHole) where
  mutual
    pub settled-holes : (t : TypeTree) (x : Part) → Holes P x → Holes P (settled t x)
    settled-holes t (typed f i j l ps) h =
        both (Holes P) (takes_type l.sort) (typed f i j (record l { sort = retyped t l.sort }) (all_settled t ps)) (typed f i j l ps)
        (subst (λ b. Here (is_expression f && b) l.varies (P i j)) (sym (retyped-constant t l.sort)) h.0, all-settled-holes t ps h.1) h

    all-settled-holes : (t : TypeTree) (ps : Typeds TypeTree) → AllHoles P ps → AllHoles P (all_settled t ps)
    all-settled-holes t none h = tt
    all-settled-holes t (more p ps) h = (settled-holes t p h.0, all-settled-holes t ps h.1)
    all-settled-holes t (skip ps) h = all-settled-holes t ps h

  pub given-holes : (k : Take) (x : Part) → Holes P x → Holes P (given k x)
  given-holes stay x h = h
  given-holes default x h = by (open_kind (sort_of x)) where
    by : (o : Option OpenKind) → Holes P (defaulted o x)
    by None = h
    by (Some c) = settled-holes (default_type c) x h
  given-holes (as_type t) x h = settled-holes t x h

  -- ---- rows of parts

  pub row-holes : (xs : Parts) → EachHoles P xs → AllHoles P (row xs)
  row-holes [] h = tt
  row-holes (None ∷ xs) h = row-holes xs h.1
  row-holes (Some x ∷ xs) h = (h.0, row-holes xs h.1)

  pub list-holes : (ps : Typeds TypeTree) → AllHoles P ps → EachHoles P (list_of ps)
  list-holes none h = tt
  list-holes (more p ps) h = (h.0, list-holes ps h.1)
  list-holes (skip ps) h = (tt, list-holes ps h)

  pub behind-holes : (xs ys : Parts) → EachHoles P xs → EachHoles P ys → EachHoles P (xs ++ ys)
  behind-holes [] ys h k = k
  behind-holes (x ∷ xs) ys h k = (h.0, behind-holes xs ys h.1 k)

  pub parts-holes : (x : Part) → Holes P x → AllHoles P (parts_of x)
  parts-holes (typed f i j l ps) h = h.1

  pub held-holes : (x : Option Part) → PartHoles P x → EachHoles P (held x)
  held-holes None h = (tt, tt)
  held-holes (Some x) h = both (EachHoles P) (is_held (form_of x)) (list_of (parts_of x)) (Some x ∷ []) (list-holes (parts_of x) (parts-holes x h)) (h, tt)

  pub all-held-holes : (xs : Parts) → EachHoles P xs → EachHoles P (all_held xs)
  all-held-holes [] h = tt
  all-held-holes (x ∷ xs) h = behind-holes (held x) (all_held xs) (held-holes x h.0) (all-held-holes xs h.1)

-- ---- what is asked of nodes

abbrev mutual
  -- No node stands for what isn't known, no constant is called, and a declaration of constants declares names of its function.
  pub Sound : Part → Type 0
  Sound (typed f i j l ps) = (is_unknown l.sort ≡ false) × (applies f ps ≡ true) × DeclaresOwn f ps × AllSound ps

  pub AllSound : Typeds TypeTree → Type 0
  AllSound none = Unit {0}
  AllSound (more p ps) = Sound p × AllSound ps
  AllSound (skip ps) = AllSound ps

abbrev pub PartSound : Option Part → Type 0
PartSound None = Unit {0}
PartSound (Some x) = Sound x

abbrev pub EachSound : Parts → Type 0
EachSound [] = Unit {0}
EachSound (x ∷ xs) = PartSound x × EachSound xs

first-true : (a b : Bool) → (a && b) ≡ true → a ≡ true
first-true true b e = refl
first-true false b e = e

second-true : (a b : Bool) → (a && b) ≡ true → b ≡ true
second-true true b e = e
second-true false b e = absurd (differ e)

mutual
  pub sound : (x : Part) → IsKnown x → calls_no_constant x ≡ true → Sound x
  sound (typed f i j l ps) h e = (h.0, first-true (applies f ps) (none_called ps) e, h.2, all-sound ps h.3 (second-true (applies f ps) (none_called ps) e))

  all-sound : (ps : Typeds TypeTree) → AreKnown ps → none_called ps ≡ true → AllSound ps
  all-sound none h e = tt
  all-sound (more p ps) h e = (sound p h.0 (first-true (calls_no_constant p) (none_called ps) e), all-sound ps h.1 (second-true (calls_no_constant p) (none_called ps) e))
  all-sound (skip ps) h e = all-sound ps h e

-- of what takes a type it was asked before

settled-form : (t : TypeTree) (x : Part) → form_of (settled t x) ≡ form_of x
settled-form t (typed f i j l ps) = both (λ (y : Part). form_of y ≡ f) (takes_type l.sort) (typed f i j (record l { sort = retyped t l.sort }) (all_settled t ps)) (typed f i j l ps) refl refl

settled-constant : (t : TypeTree) (x : Part) → is_constant (sort_of (settled t x)) ≡ is_constant (sort_of x)
settled-constant t (typed f i j l ps) =
    both (λ (y : Part). is_constant (sort_of y) ≡ is_constant l.sort) (takes_type l.sort) (typed f i j (record l { sort = retyped t l.sort }) (all_settled t ps)) (typed f i j l ps) (retyped-constant t l.sort) refl

settled-first : (t : TypeTree) (ps : Typeds TypeTree) → is_first_constant (all_settled t ps) ≡ is_first_constant ps
settled-first t none = refl
settled-first t (more p ps) = settled-constant t p
settled-first t (skip ps) = refl

settled-applies : (t : TypeTree) (f : Form) (ps : Typeds TypeTree) → applies f (all_settled t ps) ≡ applies f ps
settled-applies t form.Call ps = ap not (settled-first t ps)
settled-applies t (form.Selector n) ps = ap not (settled-first t ps)
settled-applies t f ps = refl

own-first : (b : Bool) (f : Form) (i j : ℕ) (l m : Label TypeTree) (qs rs ps : Typeds TypeTree) → AreOwn (more (if b then typed f i j l qs else typed f i j m rs) ps) → (is_object f ≡ false) × AreOwn ps
own-first true f i j l m qs rs ps h = h
own-first false f i j l m qs rs ps h = h

settled-own : (t : TypeTree) (ps : Typeds TypeTree) → AreOwn (all_settled t ps) → AreOwn ps
settled-own t none h = tt
settled-own t (more (typed f i j l qs) ps) h =
    let u = own-first (takes_type l.sort) f i j (record l { sort = retyped t l.sort }) l (all_settled t qs) qs (all_settled t ps) h in (u.0, settled-own t ps u.1)
settled-own t (skip ps) h = settled-own t ps h

settled-declares : (t : TypeTree) (f : Form) (ps : Typeds TypeTree) → DeclaresOwn f (all_settled t ps) → DeclaresOwn f ps
settled-declares t form.Constants ps h = settled-own t ps h
settled-declares t f ps h = tt

mutual
  pub unsettled : (t : TypeTree) (x : Part) → Sound (settled t x) → Sound x
  unsettled t (typed f i j l ps) =
      either (λ (y : Part). Sound y → Sound (typed f i j l ps)) (takes_type l.sort) (typed f i j (record l { sort = retyped t l.sort }) (all_settled t ps)) (typed f i j l ps)
      (λ e h. (sym (retyped-unknown t l.sort) ∙ h.0, sym (settled-applies t f ps) ∙ h.1, settled-declares t f ps h.2, all-unsettled t ps h.3)) (λ e h. h)

  all-unsettled : (t : TypeTree) (ps : Typeds TypeTree) → AllSound (all_settled t ps) → AllSound ps
  all-unsettled t none h = tt
  all-unsettled t (more p ps) h = (unsettled t p h.0, all-unsettled t ps h.1)
  all-unsettled t (skip ps) h = all-unsettled t ps h

pub ungiven : (k : Take) (x : Part) → Sound (given k x) → Sound x
ungiven stay x h = h
ungiven default x h = by (open_kind (sort_of x)) h where
  by : (o : Option OpenKind) → Sound (defaulted o x) → Sound x
  by None u = u
  by (Some c) u = unsettled (default_type c) x u
ungiven (as_type t) x h = unsettled t x h

pub each-row : (xs : Parts) → AllSound (row xs) → EachSound xs
each-row [] h = tt
each-row (None ∷ xs) h = (tt, each-row xs h)
each-row (Some x ∷ xs) h = (h.0, each-row xs h.1)

pub list-sound : (ps : Typeds TypeTree) → AllSound ps → EachSound (list_of ps)
list-sound none h = tt
list-sound (more p ps) h = (h.0, list-sound ps h.1)
list-sound (skip ps) h = (tt, list-sound ps h)
