-- Typed trees of whose statement lists each has its statements in a row, among so many tokens.
use Rattle.std.proofs.Common.{◌≡◌, ◌∙◌, ℕ, ◌<◌, ◌≤◌, Bool, true, false, if◌then◌else◌, List, [], ◌∷◌, ◌++◌, drop, take, zero, suc, Option, Some, None, refl, sym, subst}
use Rattle.go_types.specs.Trees.{TypeTree}
use Rattle.go_typed.specs.declared.form.Form.{Form}
use Rattle.go_typed.specs.declared.form.Form.TheVariants as form
use Rattle.go_typed.specs.Forms.{is_statement_list, values_count}
use Rattle.go_typed.specs.Trees.{Typed, typed, Typeds, none, more, skip, row, list_of, first_of, last_of, form_of, sort_of, parts_of}
use Rattle.go_exprs_rules.specs.declared.family.OpenKind.{OpenKind}
use Rattle.go_exprs_rules.specs.Settling.{Part, Take, stay, default, as_type, settled, all_settled, defaulted, given}
use Rattle.go_exprs_rules.specs.Sorts.{takes_type, open_kind, retyped, default_type}
use Rattle.go_exprs_rules.specs.Tables.{Parts, is_held, held, all_held, is_type, leaf, cut, first_cut, behind_first}

-- the tokens of the parts that are there
abbrev pub spans : {T : Type 0} → Typeds T → List (ℕ × ℕ)
spans none = []
spans (more p ps) = (first_of p, last_of p) ∷ spans ps
spans (skip ps) = spans ps

-- Ranges of tokens lie in a row.
abbrev pub Rises : ℕ → ℕ → List (ℕ × ℕ) → Type 0
Rises i j [] = Unit {0}
Rises i j (s ∷ ss) = (i ≤ s.0) × (s.0 < s.1) × (s.1 ≤ j) × Rises s.1 j ss

-- A node of this form over parts of these tokens has its statements in a row, if it is a statement list.
abbrev pub Fits : ℕ → Form → List (ℕ × ℕ) → Type 0
Fits n f ss = is_statement_list f ≡ true → Rises 0 n (drop (values_count f) ss)

abbrev mutual
  pub Good : {T : Type 0} → ℕ → Typed T → Type 0
  Good n (typed f i j l ps) = Fits n f (spans ps) × AllGood n ps

  pub AllGood : {T : Type 0} → ℕ → Typeds T → Type 0
  AllGood n none = Unit {0}
  AllGood n (more p ps) = Good n p × AllGood n ps
  AllGood n (skip ps) = AllGood n ps

abbrev pub PartGood : ℕ → Option Part → Type 0
PartGood n None = Unit {0}
PartGood n (Some x) = Good n x

abbrev pub EachGood : ℕ → Parts → Type 0
EachGood n [] = Unit {0}
EachGood n (x ∷ xs) = PartGood n x × EachGood n xs

-- what holds of both
pub either : (P : Part → Type 0) (b : Bool) (x y : Part) → P x → P y → P (if b then x else y)
either P true x y g h = g
either P false x y g h = h

-- ---- what takes a type has the same tokens

first-settled : (t : TypeTree) (x : Part) → first_of (settled t x) ≡ first_of x
first-settled t (typed f i j l ps) = either (λ y. first_of y ≡ i) (takes_type l.sort) (typed f i j (record l { sort = retyped t l.sort }) (all_settled t ps)) (typed f i j l ps) refl refl

last-settled : (t : TypeTree) (x : Part) → last_of (settled t x) ≡ last_of x
last-settled t (typed f i j l ps) = either (λ y. last_of y ≡ j) (takes_type l.sort) (typed f i j (record l { sort = retyped t l.sort }) (all_settled t ps)) (typed f i j l ps) refl refl

spans-settled : (t : TypeTree) (ps : Typeds TypeTree) → spans (all_settled t ps) ≡ spans ps
spans-settled t none = refl
spans-settled t (more p ps) = λ k. (first-settled t p k, last-settled t p k) ∷ spans-settled t ps k
spans-settled t (skip ps) = spans-settled t ps

pub first-given : (k : Take) (x : Part) → first_of (given k x) ≡ first_of x
first-given stay x = refl
first-given default x = by (open_kind (sort_of x)) where
  by : (o : Option OpenKind) → first_of (defaulted o x) ≡ first_of x
  by None = refl
  by (Some c) = first-settled (default_type c) x
first-given (as_type t) x = first-settled t x

pub last-given : (k : Take) (x : Part) → last_of (given k x) ≡ last_of x
last-given stay x = refl
last-given default x = by (open_kind (sort_of x)) where
  by : (o : Option OpenKind) → last_of (defaulted o x) ≡ last_of x
  by None = refl
  by (Some c) = last-settled (default_type c) x
last-given (as_type t) x = last-settled t x

module _ (n : ℕ) where
  -- a form that is no statement list
  pub plain : (f : Form) (ss : List (ℕ × ℕ)) → is_statement_list f ≡ false → Fits n f ss
  plain f ss e t = let never : true ≡ false = sym t ∙ e in cc

  mutual
    settled-good : (t : TypeTree) (x : Part) → Good n x → Good n (settled t x)
    settled-good t (typed f i j l ps) h =
        either (Good n) (takes_type l.sort) (typed f i j (record l { sort = retyped t l.sort }) (all_settled t ps)) (typed f i j l ps)
        (subst (Fits n f) (sym (spans-settled t ps)) h.0, all-settled-good t ps h.1) h

    all-settled-good : (t : TypeTree) (ps : Typeds TypeTree) → AllGood n ps → AllGood n (all_settled t ps)
    all-settled-good t none h = tt
    all-settled-good t (more p ps) h = (settled-good t p h.0, all-settled-good t ps h.1)
    all-settled-good t (skip ps) h = all-settled-good t ps h

  pub given-good : (k : Take) (x : Part) → Good n x → Good n (given k x)
  given-good stay x h = h
  given-good default x h = by (open_kind (sort_of x)) where
    by : (o : Option OpenKind) → Good n (defaulted o x)
    by None = h
    by (Some c) = settled-good (default_type c) x h
  given-good (as_type t) x h = settled-good t x h

  -- ---- rows of parts

  pub good-row : (xs : Parts) → EachGood n xs → AllGood n (row xs)
  good-row [] h = tt
  good-row (None ∷ xs) h = good-row xs h.1
  good-row (Some x ∷ xs) h = (h.0, good-row xs h.1)

  pub good-list : (ps : Typeds TypeTree) → AllGood n ps → EachGood n (list_of ps)
  good-list none h = tt
  good-list (more p ps) h = (h.0, good-list ps h.1)
  good-list (skip ps) h = (tt, good-list ps h)

  pub good-parts : (x : Part) → Good n x → AllGood n (parts_of x)
  good-parts (typed f i j l ps) h = h.1

  pub good-behind : (xs ys : Parts) → EachGood n xs → EachGood n ys → EachGood n (xs ++ ys)
  good-behind [] ys h k = k
  good-behind (x ∷ xs) ys h k = (h.0, good-behind xs ys h.1 k)

  pub one-more : (xs : Parts) (x : Option Part) → EachGood n xs → PartGood n x → EachGood n (xs ++ x ∷ [])
  one-more xs x h g = good-behind xs (x ∷ []) h (g, tt)

  pub either-good : (b : Bool) (xs ys : Parts) → EachGood n xs → EachGood n ys → EachGood n (if b then xs else ys)
  either-good true xs ys h k = h
  either-good false xs ys h k = k

  -- the parts of a part
  pub inner-good : (x : Part) → Good n x → EachGood n (list_of (parts_of x))
  inner-good x h = good-list (parts_of x) (good-parts x h)

  pub held-good : (x : Option Part) → PartGood n x → EachGood n (held x)
  held-good None h = (tt, tt)
  held-good (Some x) h = either-good (is_held (form_of x)) (list_of (parts_of x)) (Some x ∷ []) (inner-good x h) (h, tt)

  pub all-held-good : (xs : Parts) → EachGood n xs → EachGood n (all_held xs)
  all-held-good [] h = tt
  all-held-good (x ∷ xs) h = good-behind (held x) (all_held xs) (held-good x h.0) (all-held-good xs h.1)

  leaf-good : (x : Part) → Good n (leaf x)
  leaf-good (typed f i j l ps) = (plain form.Type [] refl, tt)

  pub cut-good : (x : Option Part) → PartGood n x → PartGood n (cut x)
  cut-good None h = tt
  cut-good (Some x) h = pick (is_type (sort_of x)) where
    pick : (b : Bool) → PartGood n (if b then Some (leaf x) else Some x)
    pick true = leaf-good x
    pick false = h

  pub first-cut-good : (xs : Parts) → EachGood n xs → EachGood n (first_cut xs)
  first-cut-good [] h = tt
  first-cut-good (x ∷ xs) h = (cut-good x h.0, h.1)

  pub behind-first-good : (xs : Parts) → EachGood n xs → EachGood n (behind_first xs)
  behind-first-good [] h = tt
  behind-first-good (x ∷ xs) h = h.1

  pub take-good : (m : ℕ) (xs : Parts) → EachGood n xs → EachGood n (take m xs)
  take-good zero xs h = tt
  take-good (suc m) [] h = tt
  take-good (suc m) (x ∷ xs) h = (h.0, take-good m xs h.1)
