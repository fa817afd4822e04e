-- The front of a row, and what is behind it.
use Rattle.std.proofs.Common.{◌≡◌, ℕ, zero, suc, min, ◌+◌, ◌-◌, ◌<◌, ◌≤◌, List, [], ◌∷◌, ◌++◌, length, drop, take, get_or, map, Option, Some, None, refl, ap, sym, ◌∙◌, subst, length-drop, arith}
use Rattle.std.proofs.lemmas.List.{take_all}
use Rattle.std.specs.Borrow.{Bor}
use Rattle.go_types.specs.Tables.{Table}
use Rattle.go_typed.specs.declared.node.TypedNode.{TypedNode}
use Rattle.go_typed.specs.Views.{seen, Known, AllKnown}
use Rattle.go_exprs_rules.specs.Settling.{Part}
use Rattle.go_exprs_rules.specs.Tables.{present}
use Rattle.go_exprs_rules.specs.TypeNodes.{part_type}
use Rattle.go_stmts_defs.specs.Rules.{type_there, values_there, last_part}
use Rattle.go_exprs_calls.specs.Shown.{shown, AllShownKnown}

pub front_is : (t : Table) (ns : List (Bor TypedNode)) (n m : ℕ) → m ≡ min (length ns) n → shown t (take m ns) ≡ take n (shown t ns)
front_is t [] zero zero e = refl
front_is t [] (suc n) zero e = refl
front_is t [] n (suc m) e = absurd (omega (arith, e))
front_is t (x ∷ ns) zero zero e = refl
front_is t (x ∷ ns) zero (suc m) e = absurd (omega (arith, e))
front_is t (x ∷ ns) (suc n) zero e = absurd (omega (arith, e))
front_is t (x ∷ ns) (suc n) (suc m) e = ap (λ xs. seen t x.now ∷ xs) (front_is t ns n m (omega (arith, e)))

pub front_known : (k : ℕ) (ns : List (Bor TypedNode)) (m : ℕ) → AllShownKnown k ns → AllShownKnown k (take m ns)
front_known k [] zero h = tt
front_known k [] (suc m) h = tt
front_known k (x ∷ ns) zero h = tt
front_known k (x ∷ ns) (suc m) h = (h.0, front_known k ns m h.1)

behind_is : (t : Table) (ns : List (Bor TypedNode)) (n m : ℕ) → m ≡ min (length ns) n → shown t (drop m ns) ≡ drop n (shown t ns)
behind_is t [] zero zero e = refl
behind_is t [] (suc n) zero e = refl
behind_is t [] n (suc m) e = absurd (omega (arith, e))
behind_is t (x ∷ ns) zero zero e = refl
behind_is t (x ∷ ns) zero (suc m) e = absurd (omega (arith, e))
behind_is t (x ∷ ns) (suc n) zero e = absurd (omega (arith, e))
behind_is t (x ∷ ns) (suc n) (suc m) e = behind_is t ns n m (omega (arith, e))

behind_known : (k : ℕ) (ns : List (Bor TypedNode)) (m : ℕ) → AllShownKnown k ns → AllShownKnown k (drop m ns)
behind_known k [] zero h = tt
behind_known k [] (suc m) h = tt
behind_known k (x ∷ ns) zero h = h
behind_known k (x ∷ ns) (suc m) h = behind_known k ns m h.1

all_left : {A : Type 0} (ns : List A) (m : ℕ) → take (length ns - m) (drop m ns) ≡ drop m ns
all_left ns m = let size = length-drop m ns in take_all (length ns - m) (drop m ns) (omega (arith, size))

pub rest_is : (t : Table) (ns : List (Bor TypedNode)) (n m : ℕ) → m ≡ min (length ns) n → shown t (take (length ns - m) (drop m ns)) ≡ drop n (shown t ns)
rest_is t ns n m e = ap (shown t) (all_left ns m) ∙ behind_is t ns n m e

pub rest_known : (k : ℕ) (ns : List (Bor TypedNode)) (m : ℕ) → AllShownKnown k ns → AllShownKnown k (take (length ns - m) (drop m ns))
rest_known k ns m h = subst (AllShownKnown k) (sym (all_left ns m)) (behind_known k ns m h)

parts_left_known : (k : ℕ) (ns : List (Option TypedNode)) (m : ℕ) → AllKnown k ns → AllKnown k (drop m ns)
parts_left_known k [] zero h = tt
parts_left_known k [] (suc m) h = tt
parts_left_known k (x ∷ ns) zero h = h
parts_left_known k (None ∷ ns) (suc m) h = parts_left_known k ns m h
parts_left_known k (Some x ∷ ns) (suc m) h = parts_left_known k ns m h.1

pub parts_rest_known : (k : ℕ) (ns : List (Option TypedNode)) (m : ℕ) → AllKnown k ns → AllKnown k (take (length ns - m) (drop m ns))
parts_rest_known k ns m h = subst (AllKnown k) (sym (all_left ns m)) (parts_left_known k ns m h)

-- ---- what stands behind the names of a specification

module _ {A : Type 0} (f : A → Option Part) where
  pub mapped_behind : (n : ℕ) (ps : List A) → map f (drop n ps) ≡ drop n (map f ps)
  mapped_behind zero [] = refl
  mapped_behind (suc n) [] = refl
  mapped_behind zero (p ∷ ps) = refl
  mapped_behind (suc n) (p ∷ ps) = mapped_behind n ps

  pub no_type : (n : ℕ) (ps qs : List A) → qs ≡ drop n ps → length qs < 1 → None ≡ type_there n (map f ps)
  no_type zero [] qs e lt = refl
  no_type (suc n) [] qs e lt = refl
  no_type zero (p ∷ ps) qs e lt = let long : length qs ≡ suc (length ps) = ap length e in absurd (omega (arith, lt, long))
  no_type (suc n) (p ∷ ps) qs e lt = no_type n ps qs e lt

  pub type_at_first : (n : ℕ) (ps qs : List A) (x : A) → qs ≡ drop n ps → 1 ≤ length qs → x ≡ get_or qs 0 x → part_type (f x) ≡ type_there n (map f ps)
  type_at_first zero [] qs x e le is = let none : length qs ≡ 0 = ap length e in absurd (omega (arith, le, none))
  type_at_first (suc n) [] qs x e le is = let none : length qs ≡ 0 = ap length e in absurd (omega (arith, le, none))
  type_at_first zero (p ∷ ps) qs x e le is = ap (λ y. part_type (f y)) (is ∙ ap (λ zs. get_or zs 0 x) e)
  type_at_first (suc n) (p ∷ ps) qs x e le is = type_at_first n ps qs x e le is

  pub values_behind : (n : ℕ) (ps qs : List A) → qs ≡ drop (n + 1) ps → present (map f qs) ≡ values_there n (map f ps)
  values_behind n ps qs e =
      let next : n + 1 ≡ suc n = omega arith in
      ap (λ zs. present (map f zs)) e ∙ ap present (mapped_behind (n + 1) ps) ∙ ap (λ k. present (drop k (map f ps))) next

pub last_shown : (t : Table) (ns : List (Bor TypedNode)) (x : Bor TypedNode) → last_part (shown t (ns ++ x ∷ [])) ≡ Some (seen t x.now)
last_shown t [] x = refl
last_shown t (n ∷ []) x = refl
last_shown t (n ∷ m ∷ ns) x = last_shown t (m ∷ ns) x

pub last_shown_known : (k : ℕ) (ns : List (Bor TypedNode)) (x : Bor TypedNode) → AllShownKnown k (ns ++ x ∷ []) → Known k x.now
last_shown_known k [] x h = h.0
last_shown_known k (n ∷ ns) x h = last_shown_known k ns x h.1

pub known_of : (k : ℕ) (ns : List (Bor TypedNode)) (i : ℕ) (x : Bor TypedNode) → i < length ns → x ≡ get_or ns i x → AllShownKnown k ns → Known k x.now
known_of k [] i x lt is h = absurd (omega (arith, lt))
known_of k (n ∷ ns) zero x lt is h = subst (λ (y : Bor TypedNode). Known k y.now) (sym is) h.0
known_of k (n ∷ ns) (suc i) x lt is h = known_of k ns i x (omega (arith, lt)) is h.1
