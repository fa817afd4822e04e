-- Every member of every class lies within a member of a maximal class.
use Rattle.std.proofs.Common.{◌≡◌, ◌∙◌, ◌⊎◌, inl, inr, ℕ, zero, suc, ◌+◌, ◌≤◌, Bool, true, false, List, [], ◌∷◌, Option, Some, None, refl, ap, subst, arith}
use Rattle.std.specs.Prelude.{◌||◌, not, max}
use Rattle.std.specs.List.{list_any}
use Rattle.std.proofs.lemmas.Option.{same_Some}
use Rattle.go_typed.specs.declared.window.Window.{Window}
use Rattle.clone_classes.specs.Classes.{Among}
use Rattle.clone_report.specs.declared.side.Side.{Side}
use Rattle.clone_report.specs.declared.side.Side.TheVariants as side
use Rattle.clone_report.specs.Maximal.{after, before, extension, is_among, is_maximal, is_subsumed_by, is_subsumed_on, IsWithinMaximal, LiesIn}
use Rattle.clone_report.proofs.Lists.{all-among, some-pass}
use Rattle.clone_report.proofs.Windows.{among-says}

-- ---- extensions are longer

record Longer (w v : Window) : Type 0 where
  count : v.count ≡ suc w.count
  lies : LiesIn w v

longer-before : (n : ℕ) (w v : Window) → w.first ≡ n → before n w ≡ Some v → Longer w v
longer-before zero w v f e = cc
longer-before (suc n) w v f e =
    let b : Window = record { func = w.func; list = w.list; first = n; count = suc w.count } in
    let s : b ≡ v = same_Some b v e in
    subst (λ (x : Window). Longer w x) s (record { count = refl; lies = record { func = refl; list = refl; first = omega (arith, f); last = omega (arith, f) } })

longer-after : (w v : Window) → Some (after w) ≡ Some v → Longer w v
longer-after w v e =
    let s : after w ≡ v = same_Some (after w) v e in
    subst (λ (x : Window). Longer w x) s (record { count = refl; lies = record { func = refl; list = refl; first = omega arith; last = omega arith } })

longer : (on : Side) (w v : Window) → extension on w ≡ Some v → Longer w v
longer side.Before w v e = longer-before w.first w v refl e
longer side.After w v e = longer-after w v e

-- ---- from one class to a longer one

record Extended (cs : List (List Window)) (w : Window) : Type 0 where
  class : List Window
  listed : Among cs class
  member : Window
  among : Among class member
  longer : Longer w member

extended-in : (on : Side) (cs : List (List Window)) (d : List Window) (w : Window) (o : Option Window) → extension on w ≡ o → is_among d o ≡ true → Among cs d → Extended cs w
extended-in on cs d w None e h a = cc
extended-in on cs d w (Some v) e h a = record { class = d; listed = a; member = v; among = among-says d v h; longer = longer on w v e }

extended-on : (on : Side) (cs : List (List Window)) (c d : List Window) (w : Window) → is_subsumed_on on c d ≡ true → Among cs d → Among c w → Extended cs w
extended-on on cs c d w h a k = extended-in on cs d w (extension on w) refl (all-among (λ x. is_among d (extension on x)) c h w k) a

either : (a b : Bool) → (a || b) ≡ true → (a ≡ true) ⊎ (b ≡ true)
either true b h = inl refl
either false b h = inr h

turned : (b : Bool) → not b ≡ false → b ≡ true
turned true e = refl
turned false e = cc

extended-by : (cs : List (List Window)) (c d : List Window) (w : Window) → Among cs d → Among c w → (is_subsumed_on side.Before c d ≡ true) ⊎ (is_subsumed_on side.After c d ≡ true) → Extended cs w
extended-by cs c d w h k (inl a) = extended-on side.Before cs c d w a h k
extended-by cs c d w h k (inr a) = extended-on side.After cs c d w a h k

extended : (cs : List (List Window)) (c : List Window) (w : Window) → is_maximal cs c ≡ false → Among c w → Extended cs w
extended cs c w h k =
    let p = some-pass (is_subsumed_by c) cs (turned (list_any (is_subsumed_by c) cs) h) in
    extended-by cs c p.one w p.among k (either (is_subsumed_on side.Before c p.one) (is_subsumed_on side.After c p.one) p.holds)

-- ---- the longest

most : List Window → ℕ
most [] = 0
most (w ∷ ws) = max w.count (most ws)

most_of : List (List Window) → ℕ
most_of [] = 0
most_of (c ∷ cs) = max (most c) (most_of cs)

is-most : (ws : List Window) (w : Window) → Among ws w → w.count ≤ most ws
unfolding most
is-most [] w h = absurd h
is-most (v ∷ ws) w (inl e) = let s : w.count ≡ v.count = ap (λ x. x.count) e in omega (arith, s)
is-most (v ∷ ws) w (inr h) = omega (arith, is-most ws w h)

is-most-of : (cs : List (List Window)) (c : List Window) (w : Window) → Among cs c → Among c w → w.count ≤ most_of cs
unfolding most_of
is-most-of [] c w h k = absurd h
is-most-of (d ∷ cs) c w (inl e) k = let m = is-most d w (subst (λ (x : List Window). Among x w) e k) in omega (arith, m)
is-most-of (d ∷ cs) c w (inr h) k = omega (arith, is-most-of cs c w h k)

-- ---- up to a maximal class

itself : (w : Window) → LiesIn w w
itself w = record { func = refl; list = refl; first = omega arith; last = omega arith }

joined : (w v x : Window) → LiesIn w v → LiesIn v x → LiesIn w x
joined w v x h k = record { func = h.func ∙ k.func; list = h.list ∙ k.list; first = omega (arith, h.first, k.first); last = omega (arith, h.last, k.last) }

here : (cs : List (List Window)) (c : List Window) (w : Window) → Among cs c → Among c w → is_maximal cs c ≡ true → IsWithinMaximal cs w
here cs c w h k e = record { class = c; listed = h; maximal = e; member = w; among = k; lies = itself w }

up : (cs : List (List Window)) (w v : Window) → Longer w v → IsWithinMaximal cs v → IsWithinMaximal cs w
up cs w v l r = record { class = r.class; listed = r.listed; maximal = r.maximal; member = r.member; among = r.among; lies = joined w v r.member l.lies r.lies }

-- none of the longest members is extended
at-last : (cs : List (List Window)) (c : List Window) (w : Window) → Among cs c → Among c w → most_of cs ≤ w.count → (b : Bool) → is_maximal cs c ≡ b → IsWithinMaximal cs w
at-last cs c w h k few true e = here cs c w h k e
at-last cs c w h k few false e =
    let x = extended cs c w e k in
    let m = is-most-of cs x.class x.member x.listed x.among in
    let l = x.longer.count in
    absurd (omega (arith, few, m, l))

-- one step up
one-up : (n : ℕ) (cs : List (List Window)) (c : List Window) (w : Window) → Among cs c → Among c w → most_of cs ≤ w.count + suc n →
    ((d : List Window) (v : Window) → Among cs d → Among d v → most_of cs ≤ v.count + n → IsWithinMaximal cs v) → (b : Bool) → is_maximal cs c ≡ b → IsWithinMaximal cs w
one-up n cs c w h k few rest true e = here cs c w h k e
one-up n cs c w h k few rest false e =
    let x = extended cs c w e k in
    let l = x.longer.count in
    up cs w x.member x.longer (rest x.class x.member x.listed x.among (omega (arith, few, l)))

-- so many steps are left to the longest member
within-step : (left : ℕ) (cs : List (List Window)) (c : List Window) (w : Window) → Among cs c → Among c w → most_of cs ≤ w.count + left → IsWithinMaximal cs w
within-step zero cs c w h k few = at-last cs c w h k (omega (arith, few)) (is_maximal cs c) refl
within-step (suc n) cs c w h k few = one-up n cs c w h k few (λ d v a b f. within-step n cs d v a b f) (is_maximal cs c) refl

pub within : (cs : List (List Window)) (c : List Window) (w : Window) → Among cs c → Among c w → IsWithinMaximal cs w
within cs c w h k = within-step (most_of cs) cs c w h k (omega arith)
