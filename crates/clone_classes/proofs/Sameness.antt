-- Sameness of windows of packages is an equivalence.
use Rattle.std.proofs.Common.{◌≡◌, ℕ, Bool, true, false, List, slice_get, refl, sym, ◌∙◌}
use Rattle.std.specs.Prelude.{◌&&◌, nat_eq}
use Rattle.std.specs.List.{list_all}
use Rattle.std.proofs.lemmas.Bool.{and_parts, and_from, eqb-true, eq-eqb}
use Rattle.go_typed.specs.declared.window.Window.{Window}
use Rattle.go_typed.specs.Trees.{Sort, Nothing, Typeds}
use Rattle.clone_window.specs.Sameness.{all_agree, is_matched, is_one_to_one, is_same, local_pairs}
use Rattle.clone_window.proofs.Public.{same-refl, same-sym, same-trans, fields-refl, fields-sym, fields-trans}
use Rattle.clone_window.specs.Bodies.{Body, locals_in, statements_at, are_same}
use Rattle.clone_window.specs.Fields.{FieldNames, window_fields_agree}
use Rattle.clone_classes.specs.Classes.{IsEquivalent}

-- the nodes of runs that are the same agree
same-agree : (d : ℕ → ℕ → Bool) (here there : List (Sort ℕ)) (ps qs : Typeds ℕ) → is_same d here there ps qs ≡ true → all_agree d false false ps qs ≡ true
same-agree d here there ps qs h =
    let u = and_parts (all_agree d false false ps qs && is_one_to_one (local_pairs ps qs)) (list_all (is_matched d here there) (local_pairs ps qs)) h in
    (and_parts (all_agree d false false ps qs) (is_one_to_one (local_pairs ps qs)) u.0).0

pub between-sym : (there back : ℕ → ℕ → Bool) → ((t u : ℕ) → there t u ≡ true → back u t ≡ true) → (n m : FieldNames ℕ) (here others : List (Body ℕ)) (w v : Window) →
    are_same there n m here others w v ≡ true → are_same back m n others here v w ≡ true
between-sym there back turn n m here others w v h =
    let xs = locals_in (slice_get here w.func) in
    let ys = locals_in (slice_get others v.func) in
    let ps = statements_at (slice_get here w.func) w in
    let qs = statements_at (slice_get others v.func) v in
    let k = and_parts (is_same there xs ys ps qs) (window_fields_agree n m ps qs) h in
    and_from (is_same back ys xs qs ps) (window_fields_agree m n qs ps) (same-sym there back turn xs ys ps qs k.0)
    (fields-sym there n m false false Nothing Nothing ps qs (same-agree there xs ys ps qs k.0) k.1)

pub between-trans : (first second both : ℕ → ℕ → Bool) → ((t u v : ℕ) → first t u ≡ true → second u v ≡ true → both t v ≡ true) → (n m o : FieldNames ℕ)
    (one two three : List (Body ℕ)) (w v x : Window) → are_same first n m one two w v ≡ true → are_same second m o two three v x ≡ true → are_same both n o one three w x ≡ true
between-trans first second both join n m o one two three w v x h g =
    let xs = locals_in (slice_get one w.func) in
    let ys = locals_in (slice_get two v.func) in
    let zs = locals_in (slice_get three x.func) in
    let ps = statements_at (slice_get one w.func) w in
    let qs = statements_at (slice_get two v.func) v in
    let rs = statements_at (slice_get three x.func) x in
    let k = and_parts (is_same first xs ys ps qs) (window_fields_agree n m ps qs) h in
    let l = and_parts (is_same second ys zs qs rs) (window_fields_agree m o qs rs) g in
    and_from (is_same both xs zs ps rs) (window_fields_agree n o ps rs) (same-trans first second both join xs ys zs ps qs rs k.0 l.0)
    (fields-trans first second n m o false false false Nothing Nothing Nothing ps qs rs (same-agree first xs ys ps qs k.0) (same-agree second ys zs qs rs l.0) k.1 l.1)

-- every window is the same as itself
pub itself : (identical : ℕ → ℕ → Bool) → ((t : ℕ) → identical t t ≡ true) → (n : FieldNames ℕ) (bodies : List (Body ℕ)) (w : Window) → are_same identical n n bodies bodies w w ≡ true
itself identical reflexive n bodies w =
    let xs = locals_in (slice_get bodies w.func) in
    let ps = statements_at (slice_get bodies w.func) w in
    and_from (is_same identical xs xs ps ps) (window_fields_agree n n ps ps) (same-refl identical reflexive xs ps) (fields-refl n false Nothing ps)

pub within : (identical : ℕ → ℕ → Bool) → IsEquivalent identical → (n : FieldNames ℕ) (bodies : List (Body ℕ)) → IsEquivalent (are_same identical n n bodies bodies)
within identical q n bodies = record {
  reflexive = λ w. itself identical q.reflexive n bodies w;
  symmetric = λ w v. between-sym identical identical q.symmetric n n bodies bodies w v;
  transitive = λ w v x. between-trans identical identical identical q.transitive n n n bodies bodies bodies w v x;
}

pub numbers : IsEquivalent nat_eq
numbers = record {
  reflexive = λ a. eq-eqb a a refl;
  symmetric = λ a b h. eq-eqb b a (sym (eqb-true a b h));
  transitive = λ a b c h g. eq-eqb a c (eqb-true a b h ∙ eqb-true b c g);
}
