-- Rows of typed parts, and what holds of each part that is there.
use Rattle.std.proofs.Common.{◌≡◌, ℕ, Bool, true, false, [], ◌∷◌, ◌++◌, Option, Some, None, refl, sym, ap, subst}
use Rattle.std.specs.Prelude.{◌&&◌}
use Rattle.go_types.specs.Trees.{TypeTree}
use Rattle.go_typed.specs.declared.form.Form.{Form}
use Rattle.go_typed.specs.declared.form.Form.TheVariants as form
use Rattle.go_typed.specs.Trees.{typed, Typeds, none, more, skip, row, list_of, form_of, sort_of, parts_of}
use Rattle.go_typed.specs.Trees as sort
use Rattle.go_exprs_rules.specs.Settling.{Part}
use Rattle.go_exprs_rules.specs.Tables.{Parts, is_held, held, all_held, made, label}
use Rattle.go_stmts_defs.specs.Laying.{without_absent}
use Rattle.clone_window.specs.Masses.{is_constant, is_expression}
use Rattle.go_stmts_final_types.specs.Known.{is_object, AreOwn}
use Rattle.go_function_holes.proofs.Public.{OfHole, Here, Holes, AllHoles, Sound, AllSound, both, differ}

-- ---- each part

abbrev pub OneOf : (Part → Type 0) → Option Part → Type 0
OneOf D None = Unit {0}
OneOf D (Some x) = D x

abbrev pub Each : (Part → Type 0) → Parts → Type 0
Each D [] = Unit {0}
Each D (x ∷ xs) = OneOf D x × Each D xs

pub each-both : (D : Part → Type 0) (xs ys : Parts) → Each D xs → Each D ys → Each D (xs ++ ys)
each-both D [] ys g h = h
each-both D (x ∷ xs) ys g h = (g.0, each-both D xs ys g.1 h)

pub one-weaker : (D E : Part → Type 0) → ((x : Part) → D x → E x) → (x : Option Part) → OneOf D x → OneOf E x
one-weaker D E g None h = tt
one-weaker D E g (Some x) h = g x h

pub each-weaker : (D E : Part → Type 0) → ((x : Part) → D x → E x) → (xs : Parts) → Each D xs → Each E xs
each-weaker D E g [] h = tt
each-weaker D E g (x ∷ xs) h = (one-weaker D E g x h.0, each-weaker D E g xs h.1)

pub list-row : (xs : Parts) → list_of (row xs) ≡ xs
list-row [] = refl
list-row (None ∷ xs) = ap (λ ys. None ∷ ys) (list-row xs)
list-row (Some x ∷ xs) = ap (λ ys. Some x ∷ ys) (list-row xs)

-- of the parts of holders, one by one
pub each-held : (D : Part → Type 0) (xs : Parts) → Each (λ x. Each D (held (Some x))) xs → Each D (all_held xs)
each-held D [] h = tt
each-held D (None ∷ xs) h = (tt, each-held D xs h.1)
each-held D (Some x ∷ xs) h = each-both D (held (Some x)) (all_held xs) h.0 (each-held D xs h.1)

pub each-there : (D : Part → Type 0) (xs : Parts) → Each D xs → Each D (without_absent xs)
each-there D [] h = tt
each-there D (None ∷ xs) h = each-there D xs h.1
each-there D (Some x ∷ xs) h = (h.0, each-there D xs h.1)

-- ---- parts whose holes stand somewhere

nothing-here : (a v : Bool) (A : Type 0) → Here (a && false) v A
nothing-here true v A = tt
nothing-here false v A = tt

module _ (P : OfHole) where
  -- its holes do where all in it is known
  abbrev pub Good : Part → Type 0
  Good y = Sound y → Holes P y

  -- those of what it holds do
  abbrev pub Fine : Part → Type 0
  Fine x = Each Good (held (Some x))

  pub rows-hold : (ys : Parts) → Each Good ys → AllSound (row ys) → AllHoles P (row ys)
  rows-hold [] h s = tt
  rows-hold (None ∷ ys) h s = rows-hold ys h.1 s
  rows-hold (Some y ∷ ys) h s = (h.0 s.0, rows-hold ys h.1 s.1)

  listed-hold : (ps : Typeds TypeTree) → Each Good (list_of ps) → AllSound ps → AllHoles P ps
  listed-hold none h s = tt
  listed-hold (more p ps) h s = (h.0 s.0, listed-hold ps h.1 s.1)
  listed-hold (skip ps) h s = listed-hold ps h.1 s

  pub fine-good : (x : Part) → Fine x → Good x
  fine-good (typed (form.Held k) i j l ps) h = λ s. (tt, listed-hold ps h s.3)
  fine-good (typed f i j l ps) h = h.0

  pub each-good : (xs : Parts) → Each Fine xs → Each Good xs
  each-good xs h = each-weaker Fine Good fine-good xs h

  -- a statement, or what holds others
  pub made-good : (f : Form) (i j : ℕ) (ys zs : Parts) → (AllSound (row zs) → Each Good zs) → Good (made f i j sort.Nothing ys zs)
  made-good f i j ys zs h = λ s. (nothing-here (is_expression f) (label f sort.Nothing ys).varies (P i j), rows-hold zs (h s.3) s.3)

  pub made-fine : (f : Form) (i j : ℕ) (ys zs : Parts) → Each Good zs → Fine (made f i j sort.Nothing ys zs)
  made-fine f i j ys zs h =
      let x = made f i j sort.Nothing ys zs in
      both (Each Good) (is_held f) (list_of (row zs)) (Some x ∷ []) (subst (Each Good) (sym (list-row zs)) h) (made-good f i j ys zs (λ s. h), tt)

-- ---- names that are declared

-- it has no parts, and is no constant
pub record IsBare (y : Part) : Type 0 where
  pub alone : parts_of y ≡ sort.none
  pub plain : is_constant (sort_of y) ≡ false

-- it has no parts, and where it is one of the function it is no expression
pub record IsOwn (y : Part) : Type 0 where
  pub alone : parts_of y ≡ sort.none
  pub own : is_object (form_of y) ≡ false → is_expression (form_of y) ≡ false

pub bare-good : (P : OfHole) (y : Part) → IsBare y → Good P y
bare-good P (typed f i j l ps) h = λ s. (subst (λ b. Here (is_expression f && b) l.varies (P i j)) (sym h.plain) (nothing-here (is_expression f) l.varies (P i j)), subst (AllHoles P) (sym h.alone) tt)

none-here : (b v : Bool) (A : Type 0) → b ≡ false → (c : Bool) → Here (b && c) v A
none-here false v A e c = tt
none-here true v A e c = absurd (differ (sym e))

pub own-hold : (P : OfHole) (ys : Parts) → Each IsOwn ys → AreOwn (row ys) → AllHoles P (row ys)
own-hold P [] h o = tt
own-hold P (None ∷ ys) h o = own-hold P ys h.1 o
own-hold P (Some (typed f i j l ps) ∷ ys) h o =
    ((none-here (is_expression f) l.varies (P i j) (h.0.own o.0) (is_constant l.sort), subst (AllHoles P) (sym h.0.alone) tt), own-hold P ys h.1 o.1)
