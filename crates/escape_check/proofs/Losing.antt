-- Functions that lose their end, by what the program tells of them.
use Rattle.std.proofs.Common.{◌≡◌, ◌∙◌, ℕ, ◌<◌, Bool, true, false, List, [], ◌∷◌, length, Option, Some, None, slice_get, zero, suc, sym, ap, subst}
use Rattle.std.proofs.lemmas.Bool.{and_parts, ltb-true}
use Rattle.std.proofs.lemmas.Option.{slice_get-map}
use Rattle.std.specs.Prelude.{◌&&◌, not, nat_lt}
use Rattle.std.specs.List.{list_all}
use Rattle.std.specs.Option.{option_map}
use Rattle.go_types.specs.Tables.{Table, type_of}
use Rattle.go_typed.specs.Contents.{content, func_content}
use Rattle.go_typed.specs.Funcs.{FuncView, tree_of}
use Rattle.go_typed.specs.Packages.{PackageView, IsPackage, counts, is_known_func, is_known_tree, is_below}
use Rattle.go_typed.specs.Trees.{sort_has}
use Rattle.go_typed.specs.Views.{seen}
use Rattle.escape_check.specs.declared.member.Member.{Member as Found}
use Rattle.escape_check.specs.Called.{called}
use Rattle.escape_check.specs.Endings.{has_results, loses_end, lost_ends, tree_terminates}
use Rattle.escape_check.specs.Places.{Place, first_of, place_if, sources_in, window_place}
use Rattle.escape_check.specs.Shown.{member_view}

all_at : {A : Type 0} (test : A → Bool) (xs : List A) (k : ℕ) (x : A) → list_all test xs ≡ true → slice_get xs k ≡ Some x → test x ≡ true
all_at test [] k x h e = cc
all_at test (y ∷ xs) zero x h e = let same : y ≡ x = cc in subst (λ z. test z ≡ true) same (and_parts (test y) (list_all test xs) h).0
all_at test (y ∷ xs) (suc k) x h e = all_at test xs k x (and_parts (test y) (list_all test xs) h).1 e

-- the type of a function is in the table
pub known_signature : (p : PackageView) → IsPackage p → (k : ℕ) (f : FuncView) → slice_get p.functions k ≡ Some f → f.signature < length p.types.shapes
known_signature p stands k f e =
    let n = length p.types.shapes in
    let known : is_known_func (counts p) n f ≡ true = all_at (is_known_func (counts p) n) p.functions k f stands.known_functions e in
    let first = nat_lt f.signature n in
    let second = list_all (sort_has (is_below n)) f.locals in
    ltb-true f.signature n (and_parts first second (and_parts (first && second) (is_known_tree (counts p) n (tree_of f)) known).0).0

-- the window of a member, by whether its function has results and whether it ends with the call
module _ (p : PackageView) (m : Found) (e : slice_get p.functions m.window.func ≡ Some m.func.now) where
  abbrev pub told : Bool → Bool → Option Place
  told a b = first_of (place_if (a && not b) (window_place (sources_in p) (member_view m)))

  abbrev lost : Option Place
  lost = first_of (lost_ends (sources_in p) (content p).functions (member_view m))

  by_function : lost ≡ told (has_results (type_of p.types.shapes m.func.now.signature)) (tree_terminates (called (record { from = m.from; upto = m.upto }) (seen p.types m.func.now.root)))
  by_function =
      let g = type_of p.types.shapes in
      ap (λ o. first_of (place_if (loses_end (member_view m) o) (window_place (sources_in p) (member_view m)))) (slice_get-map (func_content g) p.functions m.window.func ∙ ap (option_map (func_content g)) e)

  with_results : (t : Table) (n : ℕ) (a b : Bool) → t ≡ p.types → n ≡ m.func.now.signature → a ≡ has_results (type_of t.shapes n) → told (has_results (type_of p.types.shapes m.func.now.signature)) b ≡ told a b
  with_results t n a b types same has =
      ap (λ x. told x b) (sym (has ∙ ap (λ (u : Table). has_results (type_of u.shapes n)) types ∙ ap (λ k. has_results (type_of p.types.shapes k)) same))

  pub lost_by : (t : Table) (n : ℕ) (a b : Bool) → t ≡ p.types → n ≡ m.func.now.signature → a ≡ has_results (type_of t.shapes n) →
      b ≡ tree_terminates (called (record { from = m.from; upto = m.upto }) (seen p.types m.func.now.root)) → lost ≡ told a b
  lost_by t n a b types same has ends =
      let end = tree_terminates (called (record { from = m.from; upto = m.upto }) (seen p.types m.func.now.root)) in
      by_function ∙ with_results t n a end types same has ∙ ap (told a) (sym ends)

  pub none_lost : (t : Table) (n : ℕ) (a : Bool) → t ≡ p.types → n ≡ m.func.now.signature → a ≡ has_results (type_of t.shapes n) → a ≡ false → lost ≡ None
  none_lost t n a types same has without =
      let end = tree_terminates (called (record { from = m.from; upto = m.upto }) (seen p.types m.func.now.root)) in
      by_function ∙ with_results t n a end types same has ∙ ap (λ x. told x end) without
