-- Right sides of declared types stand where they stood, where functions stay as they are or declare no types.
use Rattle.std.proofs.Common.{◌≡◌, ◌∙◌, ◌<◌, ◌≤◌, inl, inr, ℕ, zero, suc, ◌+◌, Bool, true, false, List, [], ◌∷◌, length, map, ap, refl, sym, arith}
use Rattle.std.specs.Prelude.{Err, Ok, Result, nat_lt}
use Rattle.std.proofs.lemmas.Bool.Decides.{nat_tests}
use Rattle.std.proofs.lemmas.List.{length-append}
use Rattle.go_exprs_rules.specs.declared.fault.TypeFault.{TypeFault}
use Rattle.go_heads_added.specs.Added.{Gap, beyond}
use Rattle.go_heads_types.specs.Portions.{function_specifications}
use Rattle.go_heads_types.specs.Typings.{rights_after, rights_before, rights_behind}
use Rattle.go_package_added.specs.Appended.{function_specification, package_in}
use Rattle.go_package_added.proofs.Public.{behind_it, in_front}
use Rattle.go_package_defs.specs.Bodies.{Behind, Surroundings, count_types, typed_function, types_in}
use Rattle.go_package_defs.specs.Checked.{Typing, surroundings_of}
use Rattle.go_package_defs.specs.Declarations.{Specification}
use Rattle.go_package_defs.specs.Sources.{Package, Source, package_of, unit_of}
use Rattle.go_tree.specs.Uses.{UsesView, uses}
use Rattle.go_types.specs.Relations.{Rights}
use Rattle.clone_window_added.specs.Extended.{IsExtended, KeepsRights, MovesNoRights}
use Rattle.clone_window_added.proofs.Extended.{Known, after_same, before_same, keeps_types, same_front, there_before}
use Rattle.clone_window_added.proofs.Lists.{in_range}
use Rattle.clone_window_added.proofs.Places.{rights_in_all}
use Rattle.clone_window_added.proofs.Typeless.{RightSidesAreAdded, none_own}

module _ (law : RightSidesAreAdded) (p : Package) (a : Surroundings) where
  none_at : (rights : Rights) (n : ℕ) (d : Specification) (r : Result Behind TypeFault) → typed_function p a rights n d ≡ r → count_types (types_in p n) ≡ 0 → rights_behind rights r ≡ rights
  none_at rights n d (Err f) e c = refl
  none_at rights n d (Ok b) e c = none_own rights b.rights (count_types (types_in p n)) c (law p a rights n d b e)

  -- a function that declares no types leaves the right sides as they are
  none_after : (rights : Rights) (n : ℕ) (ds : List Specification) (k : ℕ) → count_types (types_in p (n + k)) ≡ 0 → rights_after p a rights n ds (suc k) ≡ rights_after p a rights n ds k
  none_after rights n [] zero e = refl
  none_after rights n [] (suc k) e = refl
  none_after rights n (d ∷ ds) zero e =
      let number : n + zero ≡ n = omega arith in
      none_at rights n d (typed_function p a rights n d) refl (sym (ap (λ i. count_types (types_in p i)) number) ∙ e)
  none_after rights n (d ∷ ds) (suc k) e =
      let number : suc n + k ≡ n + suc k = omega arith in
      none_after (rights_behind rights (typed_function p a rights n d)) (suc n) ds k (ap (λ i. count_types (types_in p i)) number ∙ e)

module _ (k : ℕ) (ss ms us : List Source) (names others : List (List ℕ)) (t z : Typing) (h : IsExtended k ss ms us names others t z) (x : Known k ss ms us names others t z h) where
  abbrev g : Gap
  g = h.keeps.gap

  abbrev old : ℕ → Rights
  old n = rights_before ss t n

  abbrev new : ℕ → Rights
  new n = rights_before us z n

  none_old : (n : ℕ) → count_types (types_in (package_in ss) n) ≡ 0 → old (suc n) ≡ old n
  none_old n e =
      let number : 0 + n ≡ n = omega arith in
      none_after x.added (package_of ss t.uses) (surroundings_of t.uses t.environment) t.environment.rights 0 (function_specifications (package_of ss t.uses)) n
      (ap (λ i. count_types (types_in (package_of ss t.uses) i)) number ∙ ap (λ (u : UsesView). count_types (types_in (package_of ss u) n)) x.before.meant ∙ e)

  none_new : (n : ℕ) → count_types (types_in (package_in us) n) ≡ 0 → new (suc n) ≡ new n
  none_new n e =
      let number : 0 + n ≡ n = omega arith in
      none_after x.added (package_of us z.uses) (surroundings_of z.uses z.environment) z.environment.rights 0 (function_specifications (package_of us z.uses)) n
      (ap (λ i. count_types (types_in (package_of us z.uses) i)) number ∙ ap (λ (u : UsesView). count_types (types_in (package_of us u) n)) x.after.meant ∙ e)

  module _ (own : count_types (types_in (package_in us) g.functions) ≡ 0)
      (each : (n : ℕ) → n < length (function_specifications (package_in ss)) → MovesNoRights k ss ms us names others t z h n) where
    none_own_there : (n : ℕ) → n ≡ g.functions → new (suc n) ≡ new n
    none_own_there n e = none_new n (ap (λ i. count_types (types_in (package_in us) i)) e ∙ own)

    first_level : new (beyond g.functions zero) ≡ old zero
    first_level = by (nat_lt zero g.functions) refl
      where
        begins : new zero ≡ old zero
        begins = same_front k ss ms us names others t z h x

        by : (b : Bool) → nat_lt zero g.functions ≡ b → new (beyond g.functions zero) ≡ old zero
        by true e =
            let l : zero < g.functions = grind (arith, nat_tests, e) in
            ap new (in_front g.functions zero (omega (arith, l))) ∙ begins
        by false e =
            let le : g.functions ≤ zero = grind (arith, nat_tests, e) in
            ap new (behind_it g.functions zero le) ∙ none_own_there zero (omega (arith, le)) ∙ begins

    one_step : (n : ℕ) → MovesNoRights k ss ms us names others t z h n → new (beyond g.functions n) ≡ old n → new (suc (beyond g.functions n)) ≡ old (suc n)
    one_step n (inl s) e = (keeps_types k ss ms us names others t z h x n s e).rights
    one_step n (inr (inl s)) e = none_new (beyond g.functions n) s.after ∙ e ∙ sym (none_old n s.before)
    one_step n (inr (inr s)) e = s.rights e

    next_number : (n : ℕ) → new (beyond g.functions (suc n)) ≡ new (suc (beyond g.functions n))
    next_number n = by (nat_lt n g.functions) (nat_lt (suc n) g.functions) refl refl
      where
        by : (b c : Bool) → nat_lt n g.functions ≡ b → nat_lt (suc n) g.functions ≡ c → new (beyond g.functions (suc n)) ≡ new (suc (beyond g.functions n))
        by b true e f =
            let l : suc n < g.functions = grind (arith, nat_tests, f) in
            ap new (in_front g.functions (suc n) (omega (arith, l))) ∙ sym (ap (λ i. new (suc i)) (in_front g.functions n (omega (arith, l))))
        by true false e f =
            let l : n < g.functions = grind (arith, nat_tests, e) in
            let r : g.functions ≤ suc n = grind (arith, nat_tests, f) in
            ap new (behind_it g.functions (suc n) r) ∙ none_own_there (suc n) (omega (arith, l, r)) ∙ sym (ap (λ i. new (suc i)) (in_front g.functions n (omega (arith, l))))
        by false false e f =
            let l : g.functions ≤ n = grind (arith, nat_tests, e) in
            ap new (behind_it g.functions (suc n) (omega (arith, l))) ∙ sym (ap (λ i. new (suc i)) (behind_it g.functions n l))

    level : (n : ℕ) → n ≤ length (function_specifications (package_in ss)) → new (beyond g.functions n) ≡ old n
    level zero l = first_level
    level (suc n) l = next_number n ∙ one_step n (each n (omega (arith, l))) (level n (omega (arith, l)))

    pub keeps_rights : KeepsRights k ss ms us names others t z h
    keeps_rights =
        let count = length (function_specifications (package_in ss)) in
        let all : count ≡ length x.kept.front + length x.kept.rest = ap length x.kept.was ∙ length-append x.kept.front x.kept.rest in
        let longer : length (function_specifications (package_in us)) ≡ suc count =
        x.count ∙ ap length x.kept.is ∙ length-append x.kept.front (function_specification k ss ms h.appended ∷ x.kept.rest) ∙ (let e : length x.kept.front + suc (length x.kept.rest) ≡ suc count = omega (arith, all) in e) in
        let place = x.place in
        let behind : beyond g.functions count ≡ suc count = behind_it g.functions count (omega (arith, all, place)) in
        record {
          in_front = λ n s. let l = in_range (function_specifications (package_in ss)) n s.old (there_before k ss ms us names others t z h x n s) in level n (omega (arith, l));
          all =
              rights_in_all (package_in us) (surroundings_of (uses (map unit_of us)) z.environment) z.environment.rights 0 (function_specifications (package_in us)) z.bodies x.after.bodies
              ∙ sym (after_same k ss ms us names others t z h x (length (function_specifications (package_in us))))
              ∙ ap new (longer ∙ sym behind) ∙ level count (omega arith)
              ∙ before_same k ss ms us names others t z h x count
              ∙ sym (rights_in_all (package_in ss) (surroundings_of (uses (map unit_of ss)) t.environment) t.environment.rights 0 (function_specifications (package_in ss)) t.bodies x.before.bodies);
        }
