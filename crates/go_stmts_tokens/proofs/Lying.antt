-- Parts whose nodes lie in the order of their tokens, put together.
use Rattle.std.proofs.Common.{◌≡◌, ℕ, zero, suc, ◌<◌, ◌≤◌, Bool, true, false, if◌then◌else◌, [], ◌∷◌, ◌++◌, take, Option, Some, None, refl, sym, subst, arith}
use Rattle.go_types.specs.Trees.{TypeTree}
use Rattle.go_typed.specs.declared.form.Form.TheVariants as form
use Rattle.go_typed.specs.Trees.{typed, Typeds, none, more, skip, row, list_of, first_of, last_of, sort_of}
use Rattle.go_exprs_rules.specs.declared.family.OpenKind.{OpenKind}
use Rattle.go_exprs_rules.specs.Settling.{Part, Take, stay, default, as_type, settled, all_settled, defaulted, given}
use Rattle.go_exprs_rules.specs.Sorts.{takes_type, open_kind, retyped, default_type}
use Rattle.go_stmts_tokens.specs.Lying.{Lies, AllLie}
use Rattle.go_exprs_rules.specs.Tables.{Parts, held, all_held, is_type, leaf, first_cut, behind_first}

-- what holds of both
pub either : (P : Part → Type 0) (b : Bool) (x y : Part) → P x → P y → P (if b then x else y)
either P true x y g h = g
either P false x y g h = h

pub either_parts : (P : Parts → Type 0) (b : Bool) (x y : Parts) → P x → P y → P (if b then x else y)
either_parts P true x y g h = g
either_parts P false x y g h = h

-- parts in a row lie one behind the other
abbrev pub EachLie : (a b : ℕ) → Parts → Type 0
EachLie a b [] = a ≤ b
EachLie a b (None ∷ xs) = EachLie a b xs
EachLie a b (Some x ∷ xs) = Lies a b x × EachLie (last_of x) b xs

-- ---- what takes a type has the same tokens

last_settled : (t : TypeTree) (x : Part) → last_of (settled t x) ≡ last_of x
last_settled t (typed f i j l ps) = either (λ y. last_of y ≡ j) (takes_type l.sort) (typed f i j (record l { sort = retyped t l.sort }) (all_settled t ps)) (typed f i j l ps) refl refl

pub last_given : (k : Take) (x : Part) → last_of (given k x) ≡ last_of x
last_given stay x = refl
last_given default x = by (open_kind (sort_of x))
  where
    by : (o : Option OpenKind) → last_of (defaulted o x) ≡ last_of x
    by None = refl
    by (Some c) = last_settled (default_type c) x
last_given (as_type t) x = last_settled t x

-- ---- wider ranges

pub wider : (a b c d : ℕ) (x : Part) → c ≤ a → b ≤ d → Lies a b x → Lies c d x
wider a b c d (typed f i j l ps) u v h = (omega (arith, u, h.0), h.1, omega (arith, v, h.2), h.3)

begins : (a b : ℕ) (x : Part) → Lies a b x → a ≤ first_of x
begins a b (typed f i j l ps) h = h.0

grows : (a b : ℕ) (x : Part) → Lies a b x → first_of x < last_of x
grows a b (typed f i j l ps) h = h.1

pub ends : (a b : ℕ) (x : Part) → Lies a b x → last_of x ≤ b
ends a b (typed f i j l ps) h = h.2

pub spans : (a b : ℕ) (x : Part) → Lies a b x → a < last_of x
spans a b x h = omega (arith, begins a b x h, grows a b x h)

pub each_wider : (a b c d : ℕ) (xs : Parts) → c ≤ a → b ≤ d → EachLie a b xs → EachLie c d xs
each_wider a b c d [] u v h = omega (arith, u, v, h)
each_wider a b c d (None ∷ xs) u v h = each_wider a b c d xs u v h
each_wider a b c d (Some x ∷ xs) u v h = (wider a b c d x u v h.0, each_wider (last_of x) b (last_of x) d xs (omega arith) v h.1)

pub each_order : (a b : ℕ) (xs : Parts) → EachLie a b xs → a ≤ b
each_order a b [] h = h
each_order a b (None ∷ xs) h = each_order a b xs h
each_order a b (Some x ∷ xs) h = omega (arith, spans a b x h.0, ends a b x h.0)

pub append_lie : (a m b : ℕ) (xs ys : Parts) → EachLie a m xs → EachLie m b ys → EachLie a b (xs ++ ys)
append_lie a m b [] ys h g = each_wider m b a b ys h (omega arith) g
append_lie a m b (None ∷ xs) ys h g = append_lie a m b xs ys h g
append_lie a m b (Some x ∷ xs) ys h g = (wider a m a b x (omega arith) (each_order m b ys g) h.0, append_lie (last_of x) m b xs ys h.1 g)

pub one_lies : (a b : ℕ) (x : Part) → Lies a b x → EachLie a b (Some x ∷ [])
one_lies a b x h = (h, ends a b x h)

-- it ends where its last token is
pub exact : (a b : ℕ) (x : Part) → Lies a b x → Lies a (last_of x) x
exact a b (typed f i j l ps) h = (h.0, h.1, omega arith, h.3)

pub row_lies : (a b : ℕ) (xs : Parts) → EachLie a b xs → AllLie a b (row xs)
row_lies a b [] h = h
row_lies a b (None ∷ xs) h = row_lies a b xs h
row_lies a b (Some x ∷ xs) h = (h.0, row_lies (last_of x) b xs h.1)

pub list_lies : (a b : ℕ) (ps : Typeds TypeTree) → AllLie a b ps → EachLie a b (list_of ps)
list_lies a b none h = h
list_lies a b (more p ps) h = (h.0, list_lies (last_of p) b ps h.1)
list_lies a b (skip ps) h = list_lies a b ps h

pub take_lies : (n a b : ℕ) (xs : Parts) → EachLie a b xs → EachLie a b (take n xs)
take_lies zero a b xs h = each_order a b xs h
take_lies (suc n) a b [] h = h
take_lies (suc n) a b (None ∷ xs) h = take_lies n a b xs h
take_lies (suc n) a b (Some x ∷ xs) h = (h.0, take_lies n (last_of x) b xs h.1)

-- ---- nodes that only hold parts

pub held_lie : (a b : ℕ) (x : Part) → Lies a b x → EachLie a b (held (Some x))
held_lie a b (typed (form.Held k) i j l ps) h = each_wider i j a b (list_of ps) h.0 h.2 (list_lies i j ps h.3)
held_lie a b (typed f i j l ps) h = one_lies a b (typed f i j l ps) h

pub option_lies : (a b : ℕ) (x : Option Part) → EachLie a b (x ∷ []) → EachLie a b (held x)
option_lies a b None h = h
option_lies a b (Some x) h = held_lie a b x h.0

pub all_held_lie : (a b : ℕ) (xs : Parts) → EachLie a b xs → EachLie a b (all_held xs)
all_held_lie a b [] h = h
all_held_lie a b (None ∷ xs) h = all_held_lie a b xs h
all_held_lie a b (Some x ∷ xs) h = append_lie a (last_of x) b (held (Some x)) (all_held xs) (held_lie a (last_of x) x (exact a b x h.0)) (all_held_lie (last_of x) b xs h.1)

pub behind_lie : (a b : ℕ) (xs : Parts) → EachLie a b xs → EachLie a b (behind_first xs)
behind_lie a b [] h = h
behind_lie a b (None ∷ xs) h = h
behind_lie a b (Some x ∷ xs) h = let u = spans a b x h.0 in each_wider (last_of x) b a b xs (omega (arith, u)) (omega arith) h.1

leaf_lies : (a b : ℕ) (x : Part) → Lies a b x → Lies a b (leaf x)
leaf_lies a b (typed f i j l ps) h = (h.0, h.1, h.2, omega (arith, h.1))

leaf_last : (x : Part) → last_of (leaf x) ≡ last_of x
leaf_last (typed f i j l ps) = refl

cut_lies : (a b : ℕ) (x : Part) (xs : Parts) (c : Bool) → EachLie a b (Some x ∷ xs) → EachLie a b ((if c then Some (leaf x) else Some x) ∷ xs)
cut_lies a b x xs true h = (leaf_lies a b x h.0, subst (λ m. EachLie m b xs) (sym (leaf_last x)) h.1)
cut_lies a b x xs false h = h

pub first_cut_lie : (a b : ℕ) (xs : Parts) → EachLie a b xs → EachLie a b (first_cut xs)
first_cut_lie a b [] h = h
first_cut_lie a b (None ∷ xs) h = h
first_cut_lie a b (Some x ∷ xs) h = cut_lies a b x xs (is_type (sort_of x)) h

-- ---- what parts take

mutual
  settled_lies : (t : TypeTree) (a b : ℕ) (x : Part) → Lies a b x → Lies a b (settled t x)
  settled_lies t a b (typed f i j l ps) h =
      either (Lies a b) (takes_type l.sort) (typed f i j (record l { sort = retyped t l.sort }) (all_settled t ps)) (typed f i j l ps) (h.0, h.1, h.2, all_settled_lie t i j ps h.3) h

  all_settled_lie : (t : TypeTree) (a b : ℕ) (ps : Typeds TypeTree) → AllLie a b ps → AllLie a b (all_settled t ps)
  all_settled_lie t a b none h = h
  all_settled_lie t a b (more p ps) h = (settled_lies t a b p h.0, subst (λ m. AllLie m b (all_settled t ps)) (sym (last_settled t p)) (all_settled_lie t (last_of p) b ps h.1))
  all_settled_lie t a b (skip ps) h = all_settled_lie t a b ps h

pub given_lies : (k : Take) (a b : ℕ) (x : Part) → Lies a b x → Lies a b (given k x)
given_lies stay a b x h = h
given_lies default a b x h = by (open_kind (sort_of x))
  where
    by : (o : Option OpenKind) → Lies a b (defaulted o x)
    by None = h
    by (Some c) = settled_lies (default_type c) a b x h
given_lies (as_type t) a b x h = settled_lies t a b x h
