-- What holds of the statement lists of a typed tree.
use Rattle.std.proofs.Common.{◌≡◌, ◌∙◌, ℕ, Bool, true, false, if◌then◌else◌, [], ◌∷◌, ◌++◌, take, zero, suc, Option, Some, None, refl, sym}
use Rattle.go_types.specs.Trees.{TypeTree}
use Rattle.go_typed.specs.declared.form.Form.{Form}
use Rattle.go_typed.specs.declared.form.Form.TheVariants as form
use Rattle.go_typed.specs.Forms.{is_statement_list}
use Rattle.go_typed.specs.Trees.{typed, Typeds, none, more, skip, row, list_of, form_of, sort_of, parts_of}
use Rattle.go_exprs_rules.specs.declared.family.OpenKind.{OpenKind}
use Rattle.go_exprs_rules.specs.Settling.{Part, Take, stay, default, as_type, settled, all_settled, defaulted, given}
use Rattle.go_exprs_rules.specs.Sorts.{takes_type, open_kind, retyped, default_type}
use Rattle.go_exprs_rules.specs.Tables.{Parts, is_held, held, all_held, is_type, leaf, cut, first_cut, behind_first}

-- what is asked of a statement list: by its form, its tokens and its parts
abbrev pub OfList : Type 1
OfList = Form → ℕ → ℕ → Typeds TypeTree → Type 0

abbrev pub Never : OfList
Never f i j ps = ⊥

-- what holds of both
pub either : {A : Type 0} (P : A → Type 0) (b : Bool) (x y : A) → (b ≡ true → P x) → (b ≡ false → P y) → P (if b then x else y)
either P true x y g h = g refl
either P false x y g h = h refl

pub both : {A : Type 0} (P : A → Type 0) (b : Bool) (x y : A) → P x → P y → P (if b then x else y)
both P b x y g h = either P b x y (λ e. g) (λ e. h)

pub differ : false ≡ true → ⊥
differ e = cc

module _ (P : OfList) where
  -- a statement list takes no type
  abbrev pub ListHas : Bool → Bool → Form → ℕ → ℕ → Typeds TypeTree → Type 0
  ListHas is takes f i j ps = is ≡ true → (takes ≡ false) × P f i j ps

  abbrev mutual
    -- it holds of each statement list
    pub Lists : Part → Type 0
    Lists (typed f i j l ps) = ListHas (is_statement_list f) (takes_type l.sort) f i j ps × AllLists ps

    pub AllLists : Typeds TypeTree → Type 0
    AllLists none = Unit {0}
    AllLists (more p ps) = Lists p × AllLists ps
    AllLists (skip ps) = AllLists ps

  abbrev pub PartLists : Option Part → Type 0
  PartLists None = Unit {0}
  PartLists (Some x) = Lists x

  abbrev pub EachLists : Parts → Type 0
  EachLists [] = Unit {0}
  EachLists (x ∷ xs) = PartLists x × EachLists xs

  -- a form that is no statement list
  pub plain : (f : Form) (b : Bool) (i j : ℕ) (ps : Typeds TypeTree) → is_statement_list f ≡ false → ListHas (is_statement_list f) b f i j ps
  plain f b i j ps e t = absurd (differ (sym e ∙ t))

  -- ---- what takes a type

  taking-none : (b : Bool) (is : Bool) (f : Form) (i j : ℕ) (ps : Typeds TypeTree) → b ≡ true → ListHas is b f i j ps → is ≡ true → ⊥
  taking-none b is f i j ps e h t = differ (sym (h t).0 ∙ e)

  mutual
    pub settled-lists : (t : TypeTree) (x : Part) → Lists x → Lists (settled t x)
    settled-lists t (typed f i j l ps) h =
        either Lists (takes_type l.sort) (typed f i j (record l { sort = retyped t l.sort }) (all_settled t ps)) (typed f i j l ps)
        (λ e. ((λ u. absurd (taking-none (takes_type l.sort) (is_statement_list f) f i j ps e h.0 u)), all-settled-lists t ps h.1)) (λ e. h)

    all-settled-lists : (t : TypeTree) (ps : Typeds TypeTree) → AllLists ps → AllLists (all_settled t ps)
    all-settled-lists t none h = tt
    all-settled-lists t (more p ps) h = (settled-lists t p h.0, all-settled-lists t ps h.1)
    all-settled-lists t (skip ps) h = all-settled-lists t ps h

  pub given-lists : (k : Take) (x : Part) → Lists x → Lists (given k x)
  given-lists stay x h = h
  given-lists default x h = by (open_kind (sort_of x)) where
    by : (o : Option OpenKind) → Lists (defaulted o x)
    by None = h
    by (Some c) = settled-lists (default_type c) x h
  given-lists (as_type t) x h = settled-lists t x h

  -- ---- rows of parts

  pub row-lists : (xs : Parts) → EachLists xs → AllLists (row xs)
  row-lists [] h = tt
  row-lists (None ∷ xs) h = row-lists xs h.1
  row-lists (Some x ∷ xs) h = (h.0, row-lists xs h.1)

  pub list-lists : (ps : Typeds TypeTree) → AllLists ps → EachLists (list_of ps)
  list-lists none h = tt
  list-lists (more p ps) h = (h.0, list-lists ps h.1)
  list-lists (skip ps) h = (tt, list-lists ps h)

  pub parts-lists : (x : Part) → Lists x → AllLists (parts_of x)
  parts-lists (typed f i j l ps) h = h.1

  pub behind-lists : (xs ys : Parts) → EachLists xs → EachLists ys → EachLists (xs ++ ys)
  behind-lists [] ys h k = k
  behind-lists (x ∷ xs) ys h k = (h.0, behind-lists xs ys h.1 k)

  pub one-more : (xs : Parts) (x : Option Part) → EachLists xs → PartLists x → EachLists (xs ++ x ∷ [])
  one-more xs x h g = behind-lists xs (x ∷ []) h (g, tt)

  -- the parts of a part
  pub inner-lists : (x : Part) → Lists x → EachLists (list_of (parts_of x))
  inner-lists x h = list-lists (parts_of x) (parts-lists x h)

  pub held-lists : (x : Option Part) → PartLists x → EachLists (held x)
  held-lists None h = (tt, tt)
  held-lists (Some x) h = both EachLists (is_held (form_of x)) (list_of (parts_of x)) (Some x ∷ []) (inner-lists x h) (h, tt)

  pub all-held-lists : (xs : Parts) → EachLists xs → EachLists (all_held xs)
  all-held-lists [] h = tt
  all-held-lists (x ∷ xs) h = behind-lists (held x) (all_held xs) (held-lists x h.0) (all-held-lists xs h.1)

  leaf-lists : (x : Part) → Lists (leaf x)
  leaf-lists (typed f i j l ps) = (plain form.Type (takes_type l.sort) i j none refl, tt)

  pub cut-lists : (x : Option Part) → PartLists x → PartLists (cut x)
  cut-lists None h = tt
  cut-lists (Some x) h = both PartLists (is_type (sort_of x)) (Some (leaf x)) (Some x) (leaf-lists x) h

  pub first-cut-lists : (xs : Parts) → EachLists xs → EachLists (first_cut xs)
  first-cut-lists [] h = tt
  first-cut-lists (x ∷ xs) h = (cut-lists x h.0, h.1)

  pub behind-first-lists : (xs : Parts) → EachLists xs → EachLists (behind_first xs)
  behind-first-lists [] h = tt
  behind-first-lists (x ∷ xs) h = h.1

  pub take-lists : (m : ℕ) (xs : Parts) → EachLists xs → EachLists (take m xs)
  take-lists zero xs h = tt
  take-lists (suc m) [] h = tt
  take-lists (suc m) (x ∷ xs) h = (h.0, take-lists m xs h.1)

-- ---- one thing from another

module _ (P Q : OfList) (g : (f : Form) (i j : ℕ) (ps : Typeds TypeTree) → P f i j ps → Q f i j ps) where
  mutual
    pub lists-weaker : (x : Part) → Lists P x → Lists Q x
    lists-weaker (typed f i j l ps) h = ((λ e. ((h.0 e).0, g f i j ps (h.0 e).1)), all-weaker ps h.1)

    pub all-weaker : (ps : Typeds TypeTree) → AllLists P ps → AllLists Q ps
    all-weaker none h = tt
    all-weaker (more p ps) h = (lists-weaker p h.0, all-weaker ps h.1)
    all-weaker (skip ps) h = all-weaker ps h

  pub part-weaker : (x : Option Part) → PartLists P x → PartLists Q x
  part-weaker None h = tt
  part-weaker (Some x) h = lists-weaker x h

  pub each-weaker : (xs : Parts) → EachLists P xs → EachLists Q xs
  each-weaker [] h = tt
  each-weaker (x ∷ xs) h = (part-weaker x h.0, each-weaker xs h.1)

never-any : (Q : OfList) (f : Form) (i j : ℕ) (ps : Typeds TypeTree) → ⊥ → Q f i j ps
never-any Q f i j ps h = absurd h

-- a tree without statement lists
pub listless : (Q : OfList) (x : Part) → Lists Never x → Lists Q x
listless Q x h = lists-weaker Never Q (never-any Q) x h

pub listless-part : (Q : OfList) (x : Option Part) → PartLists Never x → PartLists Q x
listless-part Q x h = part-weaker Never Q (never-any Q) x h

pub listless-each : (Q : OfList) (xs : Parts) → EachLists Never xs → EachLists Q xs
listless-each Q xs h = each-weaker Never Q (never-any Q) xs h
