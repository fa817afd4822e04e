-- Parts that lie in order, put together.
use Rattle.std.proofs.Common.{◌≡◌, ℕ, zero, suc, ◌<◌, ◌≤◌, Bool, true, false, if◌then◌else◌, [], ◌∷◌, ◌++◌, Option, Some, None, refl, sym, subst, arith}
use Rattle.go_tree.specs.declared.context.Scope.{Scope}
use Rattle.go_types.specs.Trees.{TypeTree}
use Rattle.go_typed.specs.declared.form.Form.{Form}
use Rattle.go_typed.specs.declared.form.Form.TheVariants as form
use Rattle.go_typed.specs.Trees.{typed, Typeds, none, more, skip, row, list_of, first_of, last_of, sort_of}
use Rattle.go_exprs_rules.specs.declared.family.OpenKind.{OpenKind}
use Rattle.go_exprs_rules.specs.Settling.{Part, Take, stay, default, as_type, settled, all_settled, defaulted, given}
use Rattle.go_exprs_rules.specs.Sorts.{takes_type, open_kind, retyped, default_type}
use Rattle.go_exprs_rules.specs.Tables.{Parts, held, all_held, is_type, leaf, first_cut, behind_first}
use Rattle.go_stmts_scopes.specs.Runs.{Unless}
use Rattle.go_stmts_scopes.specs.Standing.{behind_part, room_in}
use Rattle.go_package_scopes.specs.Laid.{is_shut, Laid, AllLaid}

-- what holds of both
pub either : (P : Part → Type 0) (b : Bool) (x y : Part) → P x → P y → P (if b then x else y)
either P true x y g h = g
either P false x y g h = h

pub either_parts : (P : Parts → Type 0) (b : Bool) (x y : Parts) → P x → P y → P (if b then x else y)
either_parts P true x y g h = g
either_parts P false x y g h = h

pub unless_both : (b : Bool) (A B : Type 0) → (A → B) → Unless b A → Unless b B
unless_both true A B f h = tt
unless_both false A B f h = f h

pub unless_there : (b : Bool) (A : Type 0) → A → Unless b A
unless_there true A h = tt
unless_there false A h = h

-- ---- what takes a type has the same tokens

first_settled : (t : TypeTree) (x : Part) → first_of (settled t x) ≡ first_of x
first_settled t (typed f i j l ps) = either (λ y. first_of y ≡ i) (takes_type l.sort) (typed f i j (record l { sort = retyped t l.sort }) (all_settled t ps)) (typed f i j l ps) refl refl

last_settled : (t : TypeTree) (x : Part) → last_of (settled t x) ≡ last_of x
last_settled t (typed f i j l ps) = either (λ y. last_of y ≡ j) (takes_type l.sort) (typed f i j (record l { sort = retyped t l.sort }) (all_settled t ps)) (typed f i j l ps) refl refl

behind_settled : (t : TypeTree) (n : ℕ) (ps : Typeds TypeTree) → behind_part n (all_settled t ps) ≡ behind_part n ps
behind_settled t zero none = refl
behind_settled t zero (more p ps) = last_settled t p
behind_settled t zero (skip ps) = refl
behind_settled t (suc n) none = refl
behind_settled t (suc n) (more p ps) = behind_settled t n ps
behind_settled t (suc n) (skip ps) = refl

pub first_given : (k : Take) (x : Part) → first_of (given k x) ≡ first_of x
first_given stay x = refl
first_given default x = by (open_kind (sort_of x))
  where
    by : (o : Option OpenKind) → first_of (defaulted o x) ≡ first_of x
    by None = refl
    by (Some c) = first_settled (default_type c) x
first_given (as_type t) x = first_settled t x

pub last_given : (k : Take) (x : Part) → last_of (given k x) ≡ last_of x
last_given stay x = refl
last_given default x = by (open_kind (sort_of x))
  where
    by : (o : Option OpenKind) → last_of (defaulted o x) ≡ last_of x
    by None = refl
    by (Some c) = last_settled (default_type c) x
last_given (as_type t) x = last_settled t x

-- the room of parts depends on where they end alone
pub same_room : (r : Scope) (f : Form) (i j : ℕ) (ps qs : Typeds TypeTree) → ((n : ℕ) → behind_part n ps ≡ behind_part n qs) → room_in r f i j ps ≡ room_in r f i j qs
same_room r (form.Range d n) i j ps qs e = λ k. record { from = e n k; to = j }
same_room r (form.Define n) i j ps qs e = refl
same_room r (form.Specified n) i j ps qs e = refl
same_room r form.Block i j ps qs e = refl
same_room r form.If i j ps qs e = refl
same_room r form.Switch i j ps qs e = refl
same_room r (form.Case n) i j ps qs e = refl
same_room r form.Default i j ps qs e = refl
same_room r form.For i j ps qs e = refl
same_room r f i j ps qs e = refl

module _ (D : Scope → ℕ → Type 0) where
  -- ---- wider ranges

  pub wider : (r : Scope) (a b c d : ℕ) (x : Part) → c ≤ a → b ≤ d → Laid D r a b x → Laid D r c d x
  wider r a b c d (typed f i j l ps) u v h = (omega (arith, u, h.0), h.1, omega (arith, v, h.2), h.3, h.4)

  pub all_wider : (r : Scope) (a b c d : ℕ) (ps : Typeds TypeTree) → c ≤ a → b ≤ d → AllLaid D r a b ps → AllLaid D r c d ps
  all_wider r a b c d none u v h = omega (arith, u, v, h)
  all_wider r a b c d (more p ps) u v h = (wider r a b c d p u v h.0, all_wider r (last_of p) b (last_of p) d ps (omega arith) v h.1)
  all_wider r a b c d (skip ps) u v h = all_wider r a b c d ps u v h

  pub begins : (r : Scope) (a b : ℕ) (x : Part) → Laid D r a b x → a ≤ first_of x
  begins r a b (typed f i j l ps) h = h.0

  pub grows : (r : Scope) (a b : ℕ) (x : Part) → Laid D r a b x → first_of x < last_of x
  grows r a b (typed f i j l ps) h = h.1

  pub ends : (r : Scope) (a b : ℕ) (x : Part) → Laid D r a b x → last_of x ≤ b
  ends r a b (typed f i j l ps) h = h.2

  -- ---- parts in order

  abbrev pub EachLaid : Scope → (a b : ℕ) → Parts → Type 0
  EachLaid r a b [] = a ≤ b
  EachLaid r a b (None ∷ xs) = EachLaid r a b xs
  EachLaid r a b (Some x ∷ xs) = Laid D r a b x × EachLaid r (last_of x) b xs

  pub each_wider : (r : Scope) (a b c d : ℕ) (xs : Parts) → c ≤ a → b ≤ d → EachLaid r a b xs → EachLaid r c d xs
  each_wider r a b c d [] u v h = omega (arith, u, v, h)
  each_wider r a b c d (None ∷ xs) u v h = each_wider r a b c d xs u v h
  each_wider r a b c d (Some x ∷ xs) u v h = (wider r a b c d x u v h.0, each_wider r (last_of x) b (last_of x) d xs (omega arith) v h.1)

  pub each_order : (r : Scope) (a b : ℕ) (xs : Parts) → EachLaid r a b xs → a ≤ b
  each_order r a b [] h = h
  each_order r a b (None ∷ xs) h = each_order r a b xs h
  each_order r a b (Some x ∷ xs) h = omega (arith, begins r a b x h.0, grows r a b x h.0, ends r a b x h.0)

  pub append_laid : (r : Scope) (a m b : ℕ) (xs ys : Parts) → EachLaid r a m xs → EachLaid r m b ys → EachLaid r a b (xs ++ ys)
  append_laid r a m b [] ys h g = each_wider r m b a b ys h (omega arith) g
  append_laid r a m b (None ∷ xs) ys h g = append_laid r a m b xs ys h g
  append_laid r a m b (Some x ∷ xs) ys h g = (wider r a m a b x (omega arith) (each_order r m b ys g) h.0, append_laid r (last_of x) m b xs ys h.1 g)

  pub one_laid : (r : Scope) (a b : ℕ) (x : Part) → Laid D r a b x → EachLaid r a b (Some x ∷ [])
  one_laid r a b x h = (h, ends r a b x h)

  -- it ends where its last token is
  pub exact : (r : Scope) (a b : ℕ) (x : Part) → Laid D r a b x → Laid D r a (last_of x) x
  exact r a b (typed f i j l ps) h = (h.0, h.1, omega arith, h.3, h.4)

  pub row_laid : (r : Scope) (a b : ℕ) (xs : Parts) → EachLaid r a b xs → AllLaid D r a b (row xs)
  row_laid r a b [] h = h
  row_laid r a b (None ∷ xs) h = row_laid r a b xs h
  row_laid r a b (Some x ∷ xs) h = (h.0, row_laid r (last_of x) b xs h.1)

  pub list_laid : (r : Scope) (a b : ℕ) (ps : Typeds TypeTree) → AllLaid D r a b ps → EachLaid r a b (list_of ps)
  list_laid r a b none h = h
  list_laid r a b (more p ps) h = (h.0, list_laid r (last_of p) b ps h.1)
  list_laid r a b (skip ps) h = list_laid r a b ps h

  -- ---- holders

  pub held_laid : (r : Scope) (a b : ℕ) (x : Part) → Laid D r a b x → EachLaid r a b (held (Some x))
  held_laid r a b (typed (form.Held k) i j l ps) h = each_wider r i j a b (list_of ps) h.0 h.2 (list_laid r i j ps h.4)
  held_laid r a b (typed f i j l ps) h = one_laid r a b (typed f i j l ps) h

  pub all_held_laid : (r : Scope) (a b : ℕ) (xs : Parts) → EachLaid r a b xs → EachLaid r a b (all_held xs)
  all_held_laid r a b [] h = h
  all_held_laid r a b (None ∷ xs) h = all_held_laid r a b xs h
  all_held_laid r a b (Some x ∷ xs) h =
      append_laid r a (last_of x) b (held (Some x)) (all_held xs) (held_laid r a (last_of x) x (exact r a b x h.0)) (all_held_laid r (last_of x) b xs h.1)

  pub behind_laid : (r : Scope) (a b : ℕ) (xs : Parts) → EachLaid r a b xs → EachLaid r a b (behind_first xs)
  behind_laid r a b [] h = h
  behind_laid r a b (None ∷ xs) h = h
  behind_laid r a b (Some x ∷ xs) h = each_wider r (last_of x) b a b xs (omega (arith, begins r a b x h.0, grows r a b x h.0)) (omega arith) h.1

  leaf_laid : (r : Scope) (a b : ℕ) (x : Part) → Laid D r a b x → Laid D r a b (leaf x)
  leaf_laid r a b (typed f i j l ps) h = (h.0, h.1, h.2, tt, tt)

  leaf_last : (x : Part) → last_of (leaf x) ≡ last_of x
  leaf_last (typed f i j l ps) = refl

  cut_laid : (r : Scope) (a b : ℕ) (x : Part) (xs : Parts) (c : Bool) → EachLaid r a b (Some x ∷ xs) → EachLaid r a b ((if c then Some (leaf x) else Some x) ∷ xs)
  cut_laid r a b x xs true h = (leaf_laid r a b x h.0, subst (λ m. EachLaid r m b xs) (sym (leaf_last x)) h.1)
  cut_laid r a b x xs false h = h

  pub first_cut_laid : (r : Scope) (a b : ℕ) (xs : Parts) → EachLaid r a b xs → EachLaid r a b (first_cut xs)
  first_cut_laid r a b [] h = h
  first_cut_laid r a b (None ∷ xs) h = h
  first_cut_laid r a b (Some x ∷ xs) h = cut_laid r a b x xs (is_type (sort_of x)) h

  -- ---- what parts take

  mutual
    pub settled_laid : (t : TypeTree) (r : Scope) (a b : ℕ) (x : Part) → Laid D r a b x → Laid D r a b (settled t x)
    settled_laid t r a b (typed f i j l ps) h =
        either (Laid D r a b) (takes_type l.sort) (typed f i j (record l { sort = retyped t l.sort }) (all_settled t ps)) (typed f i j l ps) (
          h.0,
          h.1,
          h.2,
          h.3,
          unless_both (is_shut f) (AllLaid D (room_in r f i j ps) i j ps) (AllLaid D (room_in r f i j (all_settled t ps)) i j (all_settled t ps))
              (λ g. subst (λ s. AllLaid D s i j (all_settled t ps)) (same_room r f i j ps (all_settled t ps) (λ n. sym (behind_settled t n ps))) (all_settled_laid t (room_in r f i j ps) i j ps g)) h.4,
        ) h

    all_settled_laid : (t : TypeTree) (r : Scope) (a b : ℕ) (ps : Typeds TypeTree) → AllLaid D r a b ps → AllLaid D r a b (all_settled t ps)
    all_settled_laid t r a b none h = h
    all_settled_laid t r a b (more p ps) h = (settled_laid t r a b p h.0, subst (λ m. AllLaid D r m b (all_settled t ps)) (sym (last_settled t p)) (all_settled_laid t r (last_of p) b ps h.1))
    all_settled_laid t r a b (skip ps) h = all_settled_laid t r a b ps h

  pub given_laid : (k : Take) (r : Scope) (a b : ℕ) (x : Part) → Laid D r a b x → Laid D r a b (given k x)
  given_laid stay r a b x h = h
  given_laid default r a b x h = by (open_kind (sort_of x))
    where
      by : (o : Option OpenKind) → Laid D r a b (defaulted o x)
      by None = h
      by (Some c) = settled_laid (default_type c) r a b x h
  given_laid (as_type t) r a b x h = settled_laid t r a b x h
