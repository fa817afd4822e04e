-- Every member of a class lies within a member of a class that has the number of a maximal one.
use Rattle.std.proofs.Common.{◌≡◌, ℕ, suc, ◌+◌, Bool, true, false, inl, inr, List, [], ◌∷◌, Option, Some, slice_get, ap, sym, subst, arith}
use Rattle.std.specs.Prelude.{if◌then◌else◌, unwrap_or}
use Rattle.go_typed.specs.declared.window.Window.{Window}
use Rattle.clone_classes.specs.Classes.{Among}
use Rattle.clone_report.specs.Maximal.{is_maximal, maximal, maximal_from, IsWithinMaximal}
use Rattle.clone_session.specs.Maximal.{LiesInOneOf}

abbrev numbers_by : Bool → ℕ → List ℕ → List ℕ
numbers_by b n rest = if b then n ∷ rest else rest

behind : (b : Bool) (n m : ℕ) (rest : List ℕ) → Among rest m → Among (numbers_by b n rest) m
behind true n m rest h = inr h
behind false n m rest h = h

abbrev there : List Window → Option (List Window)
there class = Some class

-- A maximal one among classes, the first of which has the number n, has its number among theirs.
numbered : (all : List (List Window)) (n : ℕ) (cs : List (List Window)) (class : List Window) → Among cs class → is_maximal all class ≡ true →
    (k : ℕ) × Among (maximal_from all n cs) (n + k) × (slice_get cs k ≡ there class)
numbered all n [] class h m = absurd h
numbered all n (c ∷ cs) class (inl e) m =
    let here : is_maximal all c ≡ true = subst (λ (x : List Window). is_maximal all x ≡ true) e m in
    let first : n + 0 ≡ n = omega arith in
    (0, subst (λ (b : Bool). Among (numbers_by b n (maximal_from all (suc n) cs)) (n + 0)) (sym here) (inl first), ap there (sym e))
numbered all n (c ∷ cs) class (inr h) m =
    let t = numbered all (suc n) cs class h m in
    let next : suc n + t.0 ≡ n + suc t.0 = omega arith in
    (suc t.0, behind (is_maximal all c) n (n + suc t.0) (maximal_from all (suc n) cs) (subst (λ (x : ℕ). Among (maximal_from all (suc n) cs) x) next t.1), t.2)

pub within-numbered : (classes : List (List Window)) (w : Window) → IsWithinMaximal classes w → LiesInOneOf classes (maximal classes) w
within-numbered classes w h =
    let t = numbered classes 1 classes h.class h.listed h.maximal in
    let number : 1 + t.0 ≡ suc t.0 = omega arith in
    record {
      number = suc t.0;
      listed = subst (λ (x : ℕ). Among (maximal classes) x) number t.1;
      member = h.member;
      among = subst (λ (ms : List Window). Among ms h.member) (sym (ap (λ (o : Option (List Window)). unwrap_or o []) t.2)) h.among;
      lies = h.lies;
    }
