-- Windows and the keys of tables.
use Rattle.std.proofs.Common.{◌≡◌, ◌∙◌, ℕ, zero, suc, ◌+◌, ◌-◌, true, ◌&&◌, List, Some, None, refl, sym, ap, subst, arith}
use Rattle.std.specs.Prelude.{nat_eq}
use Rattle.std.specs.Option.{option_map}
use Rattle.std.proofs.lemmas.Bool.{eqb-true, eq-eqb, and_parts, and_from}
use Rattle.go_typed.specs.declared.window.Window.{Window}
use Rattle.clone_classes.specs.Classes.{Among}
use Rattle.clone_report.specs.declared.run.Run.{Run}
use Rattle.clone_report.specs.Keys.{run_of, same_run}
use Rattle.clone_report.specs.Maximal.{after, before, is_among, is_same}
use Rattle.clone_report.proofs.Lists.{and-assoc, any-among, some-pass}

abbrev made : ℕ → ℕ → ℕ → ℕ → Window
made a b c d = record { func = a; list = b; first = c; count = d }

-- windows with equal numbers are one
one-window : (w v : Window) → w.func ≡ v.func → w.list ≡ v.list → w.first ≡ v.first → w.count ≡ v.count → w ≡ v
one-window w v a b c d = ap (λ x. made x w.list w.first w.count) a ∙ ap (λ x. made v.func x w.first w.count) b ∙ ap (λ x. made v.func v.list x w.count) c ∙ ap (λ x. made v.func v.list v.first x) d

pub same-window : (w v : Window) → is_same w v ≡ true → w ≡ v
same-window w v h =
    let p = and_parts (nat_eq w.func v.func && nat_eq w.list v.list && nat_eq w.first v.first) (nat_eq w.count v.count) h in
    let q = and_parts (nat_eq w.func v.func && nat_eq w.list v.list) (nat_eq w.first v.first) p.0 in
    let r = and_parts (nat_eq w.func v.func) (nat_eq w.list v.list) q.0 in
    one-window w v (eqb-true w.func v.func r.0) (eqb-true w.list v.list r.1) (eqb-true w.first v.first q.1) (eqb-true w.count v.count p.1)

pub same-itself : (w : Window) → is_same w w ≡ true
same-itself w =
    and_from (nat_eq w.func w.func && nat_eq w.list w.list && nat_eq w.first w.first) (nat_eq w.count w.count)
    (and_from (nat_eq w.func w.func && nat_eq w.list w.list) (nat_eq w.first w.first)
    (and_from (nat_eq w.func w.func) (nat_eq w.list w.list) (eq-eqb w.func w.func refl) (eq-eqb w.list w.list refl)) (eq-eqb w.first w.first refl)) (eq-eqb w.count w.count refl)

pub same-key : (w v : Window) → same_run (run_of w) (run_of v) ≡ is_same w v
same-key w v =
    let a = nat_eq w.func v.func in
    let b = nat_eq w.list v.list in
    let c = nat_eq w.first v.first in
    let d = nat_eq w.count v.count in
    and-assoc a b (c && d) ∙ and-assoc (a && b) c d

pub same-from : (w v : Window) → w ≡ v → same_run (run_of w) (run_of v) ≡ true
same-from w v e = same-key w v ∙ ap (is_same w) (sym e) ∙ same-itself w

pub key-same : (w v : Window) → same_run (run_of w) (run_of v) ≡ true → w ≡ v
key-same w v h = same-window w v (sym (same-key w v) ∙ h)

-- ---- among windows

pub among-says : (ws : List Window) (v : Window) → is_among ws (Some v) ≡ true → Among ws v
among-says ws v h =
    let p = some-pass (is_same v) ws h in
    subst (λ (z : Window). Among ws z) (sym (same-window v p.one p.holds)) p.among

pub among-said : (ws : List Window) (v : Window) → Among ws v → is_among ws (Some v) ≡ true
among-said ws v h = any-among (is_same v) ws v (same-itself v) h

-- ---- extensions

-- the program's test of the first statement
pub before-none : (w : Window) → w.first ≡ 0 → None ≡ option_map run_of (before w.first w)
before-none w e = ap (λ n. option_map run_of (before n w)) (sym e)

abbrev key : ℕ → ℕ → ℕ → ℕ → Run
key a b c d = record { func = a; list = b; first = c; count = d }

before-from : (n : ℕ) (w : Window) → (n ≡ 0 → ⊥) → Some (key w.func w.list (n - 1) (w.count + 1)) ≡ option_map run_of (before n w)
before-from zero w h = absurd (h refl)
before-from (suc n) w h =
    ap (λ k. Some (key w.func w.list k (w.count + 1))) (let e : suc n - 1 ≡ n = omega arith in e)
    ∙ ap (λ k. Some (key w.func w.list n k)) (let e : w.count + 1 ≡ suc w.count = omega arith in e)

pub before-some : (w : Window) → (w.first ≡ 0 → ⊥) → Some (key w.func w.list (w.first - 1) (w.count + 1)) ≡ option_map run_of (before w.first w)
before-some w h = before-from w.first w h

pub after-run : (w : Window) → key w.func w.list w.first (w.count + 1) ≡ run_of (after w)
after-run w = ap (key w.func w.list w.first) (let e : w.count + 1 ≡ suc w.count = omega arith in e)
