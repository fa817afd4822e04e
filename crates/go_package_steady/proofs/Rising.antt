-- A statement is ordered where the types that are declared at its tokens have numbers in order.
use Rattle.std.proofs.Common.{◌≡◌, ◌∙◌, ℕ, zero, suc, ◌≤◌, Bool, true, false, List, [], ◌∷◌, ◌++◌, Option, Some, None, refl, sym, ap, subst, arith}
use Rattle.std.specs.Prelude.{slice_get}
use Rattle.std.specs.Option.{option_map}
use Rattle.go_grammar.specs.declared.kind.Category.{Category}
use Rattle.go_grammar.specs.declared.kind.Kind.{Kind}
use Rattle.go_grammar.specs.declared.kind.Kind.TheVariants as kind
use Rattle.go_grammar.specs.declared.kind.Sort.TheVariants as declaring
use Rattle.go_grammar.specs.Categories.{place_of}
use Rattle.go_grammar.specs.Grammar.{rule}
use Rattle.go_grammar.specs.Rules.{Rule, End, Then, Maybe, Unless, Many, item}
use Rattle.go_grammar.specs.Trees.{Tree, node, Trees, none, more, skip}
use Rattle.go_exprs_variables.specs.Shapes.{IsShaped, AreShaped}
use Rattle.go_package_defs.specs.Bodies.{local_type}
use Rattle.go_stmts_steady.specs.Ordered.{Numbers, next, next_at, behind, behind_all, Follows, FollowsAt, Ordered, AllOrdered}
use Rattle.go_package_steady.specs.Rising.{place_in, type_places, all_type_places, Rise, is_inner, StatementsAreOrdered, IsLaterType, LocalsRise}
use Rattle.go_package_steady.proofs.Inner.{Inner, AllInner, kind_inner, rule_inner}

module _ (t : Numbers) where
  -- the first number behind those at these tokens
  abbrev passed : ℕ → List ℕ → ℕ
  passed k [] = k
  passed k (i ∷ is) = passed (next (t i) k) is

  passed_both : (k : ℕ) (xs ys : List ℕ) → passed k (xs ++ ys) ≡ passed (passed k xs) ys
  passed_both k [] ys = refl
  passed_both k (i ∷ is) ys = passed_both (next (t i) k) is ys

  rise_first : (k : ℕ) (xs ys : List ℕ) → Rise t k (xs ++ ys) → Rise t k xs
  rise_first k [] ys r = tt
  rise_first k (i ∷ is) ys r = (r.0, rise_first (next (t i) k) is ys r.1)

  rise_second : (k : ℕ) (xs ys : List ℕ) → Rise t k (xs ++ ys) → Rise t (passed k xs) ys
  rise_second k [] ys r = r
  rise_second k (i ∷ is) ys r = rise_second (next (t i) k) is ys r.1

  passed_at : (d : Kind) (i k : ℕ) → passed k (place_in d i) ≡ next_at t d i k
  passed_at (kind.Specification declaring.Type) i k = refl
  passed_at d i k = refl

  mutual
    passed_behind : (k : ℕ) (x : Tree) → passed k (type_places x) ≡ behind t k x
    passed_behind k (node d i j ps) = passed_both k (place_in d i) (all_type_places ps) ∙ ap (λ n. passed n (all_type_places ps)) (passed_at d i k) ∙ all_passed_behind (next_at t d i k) ps

    all_passed_behind : (k : ℕ) (ps : Trees) → passed k (all_type_places ps) ≡ behind_all t k ps
    all_passed_behind k none = refl
    all_passed_behind k (skip ps) = all_passed_behind k ps
    all_passed_behind k (more p ps) = passed_both k (type_places p) (all_type_places ps) ∙ ap (λ n. passed n (all_type_places ps)) (passed_behind k p) ∙ all_passed_behind (behind t k p) ps

  follows_at : (d : Kind) (i k : ℕ) → Inner d → Rise t k (place_in d i) → FollowsAt t d i k
  follows_at (kind.Specification declaring.Type) i k n r = r.0
  follows_at kind.FunctionDeclaration i k n r = n
  follows_at d i k n r = tt

  front : (k : ℕ) (p : Tree) (ps : Trees) → Rise t k (type_places p ++ all_type_places ps) → Rise t k (type_places p)
  front k p ps q = rise_first k (type_places p) (all_type_places ps) q

  rest : (k : ℕ) (p : Tree) (ps : Trees) → Rise t k (type_places p ++ all_type_places ps) → Rise t (behind t k p) (all_type_places ps)
  rest k p ps q = subst (λ m. Rise t m (all_type_places ps)) (passed_behind k p) (rise_second k (type_places p) (all_type_places ps) q)

  mutual
    ordered : (c : Category) (k : ℕ) (x : Tree) → is_inner c ≡ true → IsShaped c x → Rise t k (type_places x) → Ordered t k x
    ordered c k (node d i j ps) e s r =
        let n : Inner d = kind_inner c d e s.0 in (
          follows_at d i k n (rise_first k (place_in d i) (all_type_places ps) r),
          all_ordered (rule (place_of c) d) (next_at t d i k) ps (rule_inner (place_of c) d n) s.1
              (subst (λ m. Rise t m (all_type_places ps)) (passed_at d i k) (rise_second k (place_in d i) (all_type_places ps) r)),
        )

    all_ordered : (r : Rule) (k : ℕ) (ps : Trees) → AllInner r → AreShaped r ps → Rise t k (all_type_places ps) → AllOrdered t k ps
    all_ordered (End ws) k none n s q = tt
    all_ordered (End ws) k (more p ps) n s q = absurd s
    all_ordered (End ws) k (skip ps) n s q = absurd s
    all_ordered (Then ws c r) k none n s q = tt
    all_ordered (Then ws c r) k (more p ps) n s q = (ordered c k p n.0 s.0 (front k p ps q), all_ordered r (behind t k p) ps n.1 s.1 (rest k p ps q))
    all_ordered (Then ws c r) k (skip ps) n s q = absurd s
    all_ordered (Maybe ws c r) k none n s q = tt
    all_ordered (Maybe ws c r) k (more p ps) n s q = (ordered c k p n.0 s.0 (front k p ps q), all_ordered r (behind t k p) ps n.1 s.1 (rest k p ps q))
    all_ordered (Maybe ws c r) k (skip ps) n s q = all_ordered r k ps n.1 s q
    all_ordered (Unless ws c us r) k none n s q = tt
    all_ordered (Unless ws c us r) k (more p ps) n s q = (ordered c k p n.0 s.0 (front k p ps q), all_ordered r (behind t k p) ps n.1 s.1 (rest k p ps q))
    all_ordered (Unless ws c us r) k (skip ps) n s q = all_ordered r k ps n.1 s q
    all_ordered (Many ws l) k none n s q = tt
    all_ordered (Many ws l) k (more p ps) n s q = (ordered (item l) k p n s.0 (front k p ps q), all_ordered (Many ws l) (behind t k p) ps n s.1 (rest k p ps q))
    all_ordered (Many ws l) k (skip ps) n s q = absurd s

pub statements_ordered : StatementsAreOrdered
statements_ordered c t k x e s r = ordered t c k x e s r

-- ---- numbers by locals

first_type : (k : ℕ) (bs : List Bool) → local_type k bs zero ≡ k
first_type k [] = refl
first_type k (b ∷ bs) = refl

type_from : (k : ℕ) (bs : List Bool) (n : ℕ) → k ≤ local_type k bs n
type_from k [] n = omega (arith)
type_from k (b ∷ bs) zero = omega (arith)
type_from k (true ∷ bs) (suc n) = let a = type_from (suc k) bs n in omega (arith, a)
type_from k (false ∷ bs) (suc n) = type_from k bs n

type_up : (k : ℕ) (bs : List Bool) (m n : ℕ) → m ≤ n → local_type k bs m ≤ local_type k bs n
type_up k bs zero n l = subst (λ z. z ≤ local_type k bs n) (sym (first_type k bs)) (type_from k bs n)
type_up k bs (suc m) zero l = absurd (omega (arith, l))
type_up k [] (suc m) (suc n) l = omega (arith)
type_up k (true ∷ bs) (suc m) (suc n) l = type_up (suc k) bs m n (omega (arith, l))
type_up k (false ∷ bs) (suc m) (suc n) l = type_up k bs m n (omega (arith, l))

type_next : (k : ℕ) (bs : List Bool) (m : ℕ) → slice_get bs m ≡ Some true → suc (local_type k bs m) ≡ local_type k bs (suc m)
type_next k [] m e = absurd cc
type_next k (true ∷ bs) zero e = sym (first_type (suc k) bs)
type_next k (false ∷ bs) zero e = absurd cc
type_next k (true ∷ bs) (suc m) e = type_next (suc k) bs m e
type_next k (false ∷ bs) (suc m) e = type_next k bs m e

module _ (k : ℕ) (bs : List Bool) (o : Numbers) where
  abbrev numbers : Numbers
  numbers i = option_map (local_type k bs) (o i)

  follows : (u : Option ℕ) (n : ℕ) → IsLaterType bs n u → Follows (option_map (local_type k bs) u) (local_type k bs n)
  follows None n h = tt
  follows (Some m) n h = type_up k bs n m h.0

  next_type : (u : Option ℕ) (n : ℕ) → IsLaterType bs n u → next (option_map (local_type k bs) u) (local_type k bs n) ≡ local_type k bs (next u n)
  next_type None n h = refl
  next_type (Some m) n h = type_next k bs m h.1

  rise_from : (n : ℕ) (is : List ℕ) → LocalsRise o bs n is → Rise numbers (local_type k bs n) is
  rise_from n [] h = tt
  rise_from n (i ∷ is) h = (follows (o i) n h.0, subst (λ m. Rise numbers m is) (sym (next_type (o i) n h.0)) (rise_from (next (o i) n) is h.1))

  pub locals_rise : (is : List ℕ) → LocalsRise o bs 0 is → Rise numbers k is
  locals_rise is h = subst (λ m. Rise numbers m is) (first_type k bs) (rise_from 0 is h)
