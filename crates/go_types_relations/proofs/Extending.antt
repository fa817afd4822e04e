-- Tables with more types: trees stay, and what is told stays told.
use Rattle.std.proofs.Common.{◌≡◌, ℕ, ◌<◌, [], ◌++◌, Option, Some, None, length, refl, sym, ap, ◌∙◌, subst, append-nil, append_assoc, inl, inr, true, List, arith, ◌≤◌, suc}
use Rattle.std.specs.Prelude.{◌∷◌, slice_get, slice_set, count_by, ◌&&◌, ◌||◌, not}
use Rattle.std.specs.Option.{option_map}
use Rattle.std.proofs.lemmas.List.{length-append}
use Rattle.std.proofs.lemmas.Option.{slice_get-map, same_Some}
use Rattle.go_types.specs.Trees.{TypeTree, declared, is_named}
use Rattle.go_types.specs.Relations.{HasRight, Underlying, itself, through, Assignable}
use Rattle.go_types.specs.Tables.{Table, IsTable, HasRightId, type_of, rights_of, is_declaration}
use Rattle.go_types.specs.declared.shape.Shape.{Shape}
use Rattle.go_types.specs.declared.shape.Shape.TheVariants as shape
use Rattle.go_types.specs.Changes.{IsDeclared, IsOpen, defined, rights_with}
use Rattle.go_types.proofs.Public.{get_left, get_set_other, type_of_longer, right_type}
use Rattle.go_types_relations.specs.Questions.{Question, answers, asked}
use Rattle.go_types_relations.specs.Identity.{is_identical}
use Rattle.go_types_relations.specs.Tests.{underlying_by, underlying_of, both_identical, is_assignable}
use Rattle.go_types_relations.specs.Extends.{Extends, Grows}
use Rattle.go_types_relations.proofs.Rounds.{Monotone, right_answers, asked_holds}
use Rattle.go_types_relations.proofs.Underlyings.{underlying_monotone}
use Rattle.go_types_relations.proofs.Assigning.{test_assignable, assignable_test}

pub extends_self : (t : Table) → Extends t t
extends_self t = record { added = []; shapes = sym (append-nil t.shapes); rights = λ n r h. h }

pub extends_both : (s t u : Table) → Extends s t → Extends t u → Extends s u
extends_both s t u h k = record {
  added = h.added ++ k.added;
  shapes = k.shapes ∙ ap (λ x. x ++ k.added) h.shapes ∙ append_assoc s.shapes h.added k.added;
  rights = λ n r e. k.rights n r (h.rights n r e);
}

-- tables that extend each other are equal
nothing_added : {X : Type 0} (xs ys zs : List X) → ys ≡ xs ++ zs → length ys ≤ length xs → ys ≡ xs
nothing_added xs ys [] e h = e ∙ append-nil xs
nothing_added xs ys (z ∷ zs) e h =
    let size = ap length e ∙ length-append xs (z ∷ zs) in
    absurd (omega (arith, h, size))

entries_same : (xs ys : List (Option ℕ)) → length xs ≡ length ys → ((n r : ℕ) → slice_get xs n ≡ Some (Some r) → slice_get ys n ≡ Some (Some r)) → ((n r : ℕ) → slice_get ys n ≡ Some (Some r) → slice_get xs n ≡ Some (Some r)) → xs ≡ ys
entries_same [] [] l f g = refl
entries_same [] (y ∷ ys) l f g = cc
entries_same (x ∷ xs) [] l f g = cc
entries_same (x ∷ xs) (y ∷ ys) l f g =
    let size : length xs ≡ length ys = omega (arith, l) in
    let rest : xs ≡ ys = entries_same xs ys size (λ n r h. f (suc n) r h) (λ n r h. g (suc n) r h) in
    let first : x ≡ y = entry_same x y (λ r h. f 0 r (ap Some h)) (λ r h. g 0 r (ap Some h)) in
    cc
  where
    entry_same : (o p : Option ℕ) → ((r : ℕ) → o ≡ Some r → Some p ≡ Some (Some r)) → ((r : ℕ) → p ≡ Some r → Some o ≡ Some (Some r)) → o ≡ p
    entry_same None None f g = refl
    entry_same None (Some s) f g = let wrong : Some None ≡ Some (Some s) = g s refl in cc
    entry_same (Some r) p f g = sym (same_Some p (Some r) (f r refl))

pub extends_same : (s t : Table) → IsTable s → IsTable t → Extends s t → Extends t s → s ≡ t
extends_same s t ok now e g =
    let longer = ap length e.shapes ∙ length-append s.shapes e.added in
    let shorter = ap length g.shapes ∙ length-append t.shapes g.added in
    let shapes : t.shapes ≡ s.shapes = nothing_added s.shapes t.shapes e.added e.shapes (omega (arith, longer, shorter)) in
    let sizes : length s.rights ≡ length t.rights = ok.declarations ∙ ap (count_by is_declaration) (sym shapes) ∙ sym now.declarations in
    let rights : s.rights ≡ t.rights = entries_same s.rights t.rights sizes e.rights g.rights in
    ap (λ (x : List Shape). let u : Table = record { shapes = x; rights = s.rights } in u) (sym shapes) ∙ ap (λ (x : List (Option ℕ)). let u : Table = record { shapes = t.shapes; rights = x } in u) rights

pub grows_self : (t : Table) → IsTable t → Grows t t
grows_self t ok = record { extends = extends_self t; rights = refl; table = ok }

pub grows_both : (s t u : Table) → Grows s t → Grows t u → Grows s u
grows_both s t u h k = record { extends = extends_both s t u h.extends k.extends; rights = k.rights ∙ h.rights; table = k.table }

pub tree_stays : (old new : Table) → IsTable old → Extends old new → (i : ℕ) → i < length old.shapes → type_of new.shapes i ≡ type_of old.shapes i
tree_stays old new ok e i h = ap (λ xs. type_of xs i) e.shapes ∙ type_of_longer old.shapes e.added ok.parts_below i h

-- ---- right sides

right_at : (t : Table) (n : ℕ) (x : TypeTree) (o : Option (Option ℕ)) → option_map (option_map (type_of t.shapes)) o ≡ Some (Some x) → (r : ℕ) × (o ≡ Some (Some r)) × (type_of t.shapes r ≡ x)
right_at t n x None e = cc
right_at t n x (Some None) e = cc
right_at t n x (Some (Some r)) e = (r, refl, same_Some (type_of t.shapes r) x (same_Some (Some (type_of t.shapes r)) (Some x) e))

pub right_number : (t : Table) (n : ℕ) (x : TypeTree) → HasRight (rights_of t) n x → (r : ℕ) × HasRightId t n r × (type_of t.shapes r ≡ x)
unfolding rights_of
right_number t n x h = right_at t n x (slice_get t.rights n) (sym (slice_get-map (option_map (type_of t.shapes)) t.rights n) ∙ h)

pub right_stays : (old new : Table) → IsTable old → Extends old new → (n : ℕ) (x : TypeTree) → HasRight (rights_of old) n x → HasRight (rights_of new) n x
right_stays old new ok e n x h =
    let r = right_number old n x h in
    subst (HasRight (rights_of new) n) (tree_stays old new ok e r.0 (ok.right_sides n r.0 r.1).0 ∙ r.2) (right_type new n r.0 (e.rights n r.0 r.1))

-- an answer stays
pub answer_stays : {X : Type 0} (q : Question X) → Monotone q → ((known : ℕ → Option X) (n : ℕ) → q known (declared n) ≡ known n) → (old new : Table) → IsTable old → Extends old new → (t : TypeTree) (x : X) → asked q (rights_of old) t ≡ Some x → asked q (rights_of new) t ≡ Some x
answer_stays {X} q m direct old new ok e =
    asked_holds q (rights_of old) (λ t x. asked q (rights_of new) t ≡ Some x)
    (λ n r x h p. direct (answers q (rights_of new)) n ∙ right_answers q m (rights_of new) n r (right_stays old new ok e n r h) ∙ p)
    (λ known g t x p. m known (answers q (rights_of new)) (λ n y k. sym (direct (answers q (rights_of new)) n) ∙ g n y k) t x p)

underlying_stays : (old new : Table) → IsTable old → Extends old new → (t u : TypeTree) → Underlying (rights_of old) t u → Underlying (rights_of new) t u
underlying_stays old new ok e t u (itself _ d) = itself t d
underlying_stays old new ok e t u (through n r _ h l) = through n r u (right_stays old new ok e n r h) (underlying_stays old new ok e r u l)

-- and what is assignable stays so
assignable_stays : (old new : Table) → IsTable old → Extends old new → (from to : TypeTree) → Assignable (rights_of old) from to → Assignable (rights_of new) from to
assignable_stays old new ok e from to (inl h) = inl h
assignable_stays old new ok e from to (inr s) = inr (record {
  from_underlying = s.from_underlying;
  to_underlying = s.to_underlying;
  from_is = underlying_stays old new ok e from s.from_underlying s.from_is;
  to_is = underlying_stays old new ok e to s.to_underlying s.to_is;
  identical = s.identical;
  unnamed = s.unnamed;
})

pub assignable_test_stays : (old new : Table) → IsTable old → Extends old new → (from to : TypeTree) → is_assignable (rights_of old) from to ≡ true → is_assignable (rights_of new) from to ≡ true
assignable_test_stays old new ok e from to h = assignable_test (rights_of new) from to (assignable_stays old new ok e from to (test_assignable (rights_of old) from to h))

-- where both have underlying types, so does what isn't assignable
pub assignable_answer_stays : (old new : Table) → IsTable old → Extends old new → (from to u v : TypeTree) → underlying_of (rights_of old) from ≡ Some u → underlying_of (rights_of old) to ≡ Some v → is_assignable (rights_of new) from to ≡ is_assignable (rights_of old) from to
unfolding is_assignable
assignable_answer_stays old new ok e from to u v h k =
    let first : underlying_of (rights_of new) from ≡ underlying_of (rights_of old) from = answer_stays underlying_by underlying_monotone (λ known n. refl) old new ok e from u h ∙ sym h in
    let second : underlying_of (rights_of new) to ≡ underlying_of (rights_of old) to = answer_stays underlying_by underlying_monotone (λ known n. refl) old new ok e to v k ∙ sym k in
    ap (λ o. is_identical from to || (both_identical o (underlying_of (rights_of new) to) && not (is_named from && is_named to))) first
    ∙ ap (λ o. is_identical from to || (both_identical (underlying_of (rights_of old) from) o && not (is_named from && is_named to))) second

-- ---- what is declared and what is defined

pub declared_extends : (old new : Table) (i : ℕ) → IsDeclared old new i → Extends old new
declared_extends old new i d = record {
  added = shape.Named (length old.rights) ∷ [];
  shapes = ap (λ (t : Table). t.shapes) d.table;
  rights = λ n r h. ap (λ (t : Table). slice_get t.rights n) d.table ∙ get_left old.rights (None ∷ []) n (Some r) h;
}

pub defined_extends : (old : Table) (named right : ℕ) → IsOpen old named → Extends old (defined old named right)
defined_extends old named right o = record { added = []; shapes = sym (append-nil old.shapes); rights = stay }
  where
    rights_are : (defined old named right).rights ≡ slice_set old.rights o.0 (Some right)
    rights_are = ap (λ x. rights_with x right old.rights) o.1

    apart : (n r : ℕ) → HasRightId old n r → n ≡ o.0 → ⊥
    apart n r h e = let wrong : Some (Some r) ≡ Some None = sym h ∙ (ap (slice_get old.rights) e ∙ o.2) in cc

    stay : (n r : ℕ) → HasRightId old n r → HasRightId (defined old named right) n r
    stay n r h = ap (λ l. slice_get l n) rights_are ∙ get_set_other old.rights o.0 (Some right) n (Some r) h (apart n r h)
