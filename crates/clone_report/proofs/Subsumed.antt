-- Which classes have the extensions of the members of a class, by the table.
use Rattle.std.proofs.Common.{◌≡◌, ◌∙◌, inl, inr, ℕ, zero, suc, ◌+◌, Bool, true, false, List, [], ◌∷◌, ◌++◌, take, length, get_or, ◌≤◌, ◌<◌, Option, Some, None, slice_get, refl, sym, ap, subst, arith, append_assoc}
use Rattle.std.specs.Prelude.{◌&&◌, ◌||◌, if◌then◌else◌}
use Rattle.std.specs.List.{list_all, list_any}
use Rattle.std.specs.Option.{option_map}
use Rattle.std.proofs.lemmas.Bool.{eqb-true, eq-eqb, and_from}
use Rattle.std.proofs.lemmas.Option.{same_Some}
use Rattle.go_typed.specs.declared.window.Window.{Window}
use Rattle.clone_classes.specs.Classes.{AllApart, Among}
use Rattle.clone_report.specs.declared.run.Run.{Run}
use Rattle.clone_report.specs.declared.side.Side.{Side}
use Rattle.clone_report.specs.declared.side.Side.TheVariants as side
use Rattle.clone_report.specs.Keys.{is_in, number_of, numbered, run_of, says, Tells}
use Rattle.clone_report.specs.Maximal.{extension, is_among, is_maximal, is_subsumed_by, is_subsumed_on, maximal_from}
use Rattle.clone_report.proofs.Lists.{all-among, among-all, among-there, any-among, any-or, both-ways, place-of, some-pass}
use Rattle.clone_report.proofs.Table.{Known, known}
use Rattle.clone_report.proofs.Windows.{among-said, among-says}

module _ (g : Run → Option ℕ) (cs : List (List Window)) (k : Known g cs) where
  -- a run is a member of the class of the number that the table tells of it, and of no other one
  in-class : (n : ℕ) (c : List Window) (o : Option Window) → slice_get cs n ≡ Some c → number_of g (option_map run_of o) ≡ Some n → is_among c o ≡ true
  in-class n c None e h = cc
  in-class n c (Some v) e h =
      let r = k.found v n h in
      let s : r.class ≡ c = same_Some r.class c (sym r.there ∙ e) in
      among-said c v (subst (λ (x : List Window). Among x v) s r.among)

  class-in : (n : ℕ) (c : List Window) (o : Option Window) → slice_get cs n ≡ Some c → is_among c o ≡ true → number_of g (option_map run_of o) ≡ Some n
  class-in n c None e h = cc
  class-in n c (Some v) e h = k.held v n c e (among-says c v h)

  said : (n : ℕ) (o : Option ℕ) → o ≡ Some n → says n o ≡ true
  said n None e = cc
  said n (Some m) e = eq-eqb m n (same_Some m n e)

  told : (n : ℕ) (o : Option ℕ) → says n o ≡ true → o ≡ Some n
  told n None e = cc
  told n (Some m) e = ap Some (eqb-true m n e)

  -- the class of the first member's extension decides
  none-has : (on : Side) (w : Window) (ws : List Window) → number_of g (option_map run_of (extension on w)) ≡ None → list_any (is_subsumed_on on (w ∷ ws)) cs ≡ false
  none-has on w ws e = both-ways (list_any (is_subsumed_on on (w ∷ ws)) cs) false contra (λ h. cc) where
    contra : list_any (is_subsumed_on on (w ∷ ws)) cs ≡ true → false ≡ true
    contra h =
        let p = some-pass (is_subsumed_on on (w ∷ ws)) cs h in
        let at = place-of cs p.one p.among in
        let t = class-in at.number p.one (extension on w) at.there (all-among (λ x. is_among p.one (extension on x)) (w ∷ ws) p.holds w (inl refl)) in
        let c : None ≡ Some at.number = sym e ∙ t in
        cc

  one-has : (on : Side) (w : Window) (ws : List Window) (n : ℕ) → number_of g (option_map run_of (extension on w)) ≡ Some n →
      list_all (is_in g on n) ws ≡ list_any (is_subsumed_on on (w ∷ ws)) cs
  one-has on w ws n e = both-ways (list_all (is_in g on n) ws) (list_any (is_subsumed_on on (w ∷ ws)) cs) forth back where
    class-there : (o : Option Window) → number_of g (option_map run_of o) ≡ Some n → (c : List Window) × (slice_get cs n ≡ Some c)
    class-there None h = cc
    class-there (Some v) h = let r = k.found v n h in (r.class, r.there)

    forth : list_all (is_in g on n) ws ≡ true → list_any (is_subsumed_on on (w ∷ ws)) cs ≡ true
    forth h =
        let c = class-there (extension on w) e in
        any-among (is_subsumed_on on (w ∷ ws)) cs c.0
        (and_from (is_among c.0 (extension on w)) (list_all (λ x. is_among c.0 (extension on x)) ws) (in-class n c.0 (extension on w) c.1 e)
        (among-all (λ x. is_among c.0 (extension on x)) ws (λ x a. in-class n c.0 (extension on x) c.1 (told n (number_of g (option_map run_of (extension on x))) (all-among (is_in g on n) ws h x a)))))
        (among-there cs n c.0 c.1)

    back : list_any (is_subsumed_on on (w ∷ ws)) cs ≡ true → list_all (is_in g on n) ws ≡ true
    back h =
        let p = some-pass (is_subsumed_on on (w ∷ ws)) cs h in
        let at = place-of cs p.one p.among in
        let each = all-among (λ x. is_among p.one (extension on x)) (w ∷ ws) p.holds in
        let first = class-in at.number p.one (extension on w) at.there (each w (inl refl)) in
        let s : at.number ≡ n = same_Some at.number n (sym first ∙ e) in
        among-all (is_in g on n) ws (λ x a. said n (number_of g (option_map run_of (extension on x)))
        (class-in at.number p.one (extension on x) at.there (each x (inr a)) ∙ ap Some s))

-- what stands for the first member where there is none
abbrev pub nothing : Window
nothing = record { func = 0; list = 0; first = 0; count = 0 }

-- no members: every class has all their extensions
pub of-empty : (on : Side) (members : List Window) (cs : List (List Window)) → length members < 1 → Among cs members → true ≡ list_any (is_subsumed_on on members) cs
of-empty on [] cs l h = sym (any-among (is_subsumed_on on []) cs [] refl h)
of-empty on (w ∷ ws) cs l h = absurd (omega (arith, l))

-- no class has the extension of the first one
pub of-absent : (g : Run → Option ℕ) (cs : List (List Window)) → AllApart cs → Tells g (numbered 0 cs) → (on : Side) (members : List Window) → 1 ≤ length members →
    number_of g (option_map run_of (extension on (get_or members 0 nothing))) ≡ None → false ≡ list_any (is_subsumed_on on members) cs
of-absent g cs apart h on [] l e = absurd (omega (arith, l))
of-absent g cs apart h on (w ∷ ws) l e = sym (none-has g cs (known g cs apart h) on w ws e)

says-so : (n : ℕ) (o : Option ℕ) → o ≡ Some n → says n o ≡ true
says-so n None e = cc
says-so n (Some m) e = eq-eqb m n (same_Some m n e)

-- the class of this number has it
pub of-present : (g : Run → Option ℕ) (cs : List (List Window)) → AllApart cs → Tells g (numbered 0 cs) → (on : Side) (members : List Window) (n : ℕ) → 1 ≤ length members →
    number_of g (option_map run_of (extension on (get_or members 0 nothing))) ≡ Some n → list_all (is_in g on n) members ≡ list_any (is_subsumed_on on members) cs
of-present g cs apart h on [] n l e = absurd (omega (arith, l))
of-present g cs apart h on (w ∷ ws) n l e =
    ap (λ b. b && list_all (is_in g on n) ws) (says-so n (number_of g (option_map run_of (extension on w))) e) ∙ one-has g cs (known g cs apart h) on w ws n e

pub on-either : (members : List Window) (cs : List (List Window)) →
    list_any (is_subsumed_by members) cs ≡ (list_any (is_subsumed_on side.Before members) cs || list_any (is_subsumed_on side.After members) cs)
on-either members cs = any-or (is_subsumed_on side.Before members) (is_subsumed_on side.After members) cs

-- ---- the numbers, class by class

abbrev pub if-maximal : Bool → ℕ → List ℕ
if-maximal b n = if b then n ∷ [] else []

one-more : (b : Bool) (n : ℕ) (ns : List ℕ) → (if b then n ∷ ns else ns) ≡ if-maximal b n ++ ns
one-more true n ns = refl
one-more false n ns = refl

pub maximal-more : (all : List (List Window)) (n i : ℕ) (cs : List (List Window)) (c : List Window) → slice_get cs i ≡ Some c →
    maximal_from all n (take (i + 1) cs) ≡ maximal_from all n (take i cs) ++ if-maximal (is_maximal all c) (n + i)
maximal-more all n i [] c e = cc
maximal-more all n zero (d ∷ cs) c e =
    let s : d ≡ c = same_Some d c e in
    ap (λ x. if is_maximal all x then n ∷ [] else []) s ∙ ap (λ k. if-maximal (is_maximal all c) k) (let z : n ≡ n + 0 = omega arith in z)
maximal-more all n (suc i) (d ∷ cs) c e =
    ap (λ j. maximal_from all n (take j (d ∷ cs))) (let z : suc i + 1 ≡ suc (i + 1) = omega arith in z)
    ∙ one-more (is_maximal all d) n (maximal_from all (suc n) (take (i + 1) cs))
    ∙ ap (λ l. if-maximal (is_maximal all d) n ++ l) (maximal-more all (suc n) i cs c e ∙ ap (λ j. maximal_from all (suc n) (take i cs) ++ if-maximal (is_maximal all c) j) (let z : suc n + i ≡ n + suc i = omega arith in z))
    ∙ sym (append_assoc (if-maximal (is_maximal all d) n) (maximal_from all (suc n) (take i cs)) (if-maximal (is_maximal all c) (n + suc i)))
    ∙ ap (λ l. l ++ if-maximal (is_maximal all c) (n + suc i)) (sym (one-more (is_maximal all d) n (maximal_from all (suc n) (take i cs))))
