-- The parts of nodes in a table.
use Rattle.std.proofs.Common.{rules, arith, ◌≡◌, ◌≤◌, ℕ, zero, suc, List, [], ◌∷◌, refl, sym, ap, ◌∙◌, subst, Option, Some, None, drop}
use Rattle.std.proofs.lemmas.Option.{slice_get_past, slice_get_read}
use Rattle.std.specs.Prelude.{true, false, IfSome, MatchOption, is_some, nat_lt, slice_get, get_or, length, ◌<◌, if◌then◌else◌}
use Rattle.std.specs.Option.{option_map}
use Rattle.std.proofs.lemmas.Bool.{le-ltb}
use Rattle.go_types.specs.Trees.{TypeTree, boolean}
use Rattle.go_types.specs.Relations.{Rights}
use Rattle.go_typed.specs.declared.form.Form.{Form}
use Rattle.go_typed.specs.declared.form.Form.TheVariants as form
use Rattle.go_types_relations.specs.Questions.{entry}
use Rattle.go_typed.specs.declared.node.TypedNode.{TypedNode}
use Rattle.go_typed.specs.declared.node.TypedNode.TheViews.{out-TypedNode}
use Rattle.go_typed.specs.declared.node.TypedNode.TheFolds.{fold_out-TypedNode}
use Rattle.go_typed.specs.Trees.{Label, Nothing, typed, Typeds, mapped, all_mapped, sort_mapped, sort_of, label_of, form_of, SortHas, Every, EveryPart}
use Rattle.go_typed.specs.Views.{view, views, label_at, sort_view}
use Rattle.go_meaning.specs.Planning.{part_at, is_there, sort_type, type_there, sort_there, calls_there, default_at, at_most_one, form_plan, sort_plan, plan}
use Rattle.go_meaning.specs.Plans.{Once, Loop}
use Rattle.go_eval_plans.specs.Views.{is_default_there, is_for}

pub opened : (x : TypedNode) → view x ≡ typed (out-TypedNode x).form (out-TypedNode x).first (out-TypedNode x).last (label_at (out-TypedNode x)) (views (out-TypedNode x).parts.items)
opened x = search (rules, fold_out-TypedNode)

pub part_seen : (f : ℕ → TypeTree) (xs : List (Option TypedNode)) (n : ℕ) → part_at (all_mapped f (views xs)) n ≡ option_map (λ x. mapped f (view x)) (entry xs n)
part_seen f [] n = refl
part_seen f (None ∷ xs) zero = refl
part_seen f (Some x ∷ xs) zero = refl
part_seen f (None ∷ xs) (suc n) = part_seen f xs n
part_seen f (Some x ∷ xs) (suc n) = part_seen f xs n

pub part_known : (P : ℕ → Type 0) (xs : List (Option TypedNode)) (n : ℕ) → EveryPart P (views xs) → IfSome (entry xs n) (λ x. Every P (view x))
part_known P [] n h = tt
part_known P (None ∷ xs) zero h = tt
part_known P (Some x ∷ xs) zero h = h.0
part_known P (None ∷ xs) (suc n) h = part_known P xs n h
part_known P (Some x ∷ xs) (suc n) h = part_known P xs n h.1

pub sort_out : (f : ℕ → TypeTree) (x : TypedNode) → sort_of (mapped f (view x)) ≡ sort_mapped f (sort_view (out-TypedNode x).sort)
sort_out f x = ap (λ t. sort_of (mapped f t)) (opened x)

pub calls_out : (f : ℕ → TypeTree) (x : TypedNode) → (label_of (mapped f (view x))).calls ≡ (out-TypedNode x).calls
calls_out f x = ap (λ t. (label_of (mapped f t)).calls) (opened x)

pub form_out : (f : ℕ → TypeTree) (x : TypedNode) → form_of (mapped f (view x)) ≡ (out-TypedNode x).form
form_out f x = ap (λ t. form_of (mapped f t)) (opened x)

pub sort_known : (P : ℕ → Type 0) (x : TypedNode) → Every P (view x) → SortHas P (sort_view (out-TypedNode x).sort)
sort_known P x h = let h1 : Every P (typed (out-TypedNode x).form (out-TypedNode x).first (out-TypedNode x).last (label_at (out-TypedNode x)) (views (out-TypedNode x).parts.items)) = subst (Every P) (opened x) h in h1.0

pub part_place : {B : Type 0} (now : B → Option TypedNode) (xs : List (Option TypedNode)) (i : ℕ) (Q : B → Type 0) (o : Option B) → MatchOption o (length xs ≤ i) (λ x. (i < length xs) × Q x) → IfSome o (λ x. now x ≡ get_or xs i (now x)) → slice_get xs i ≡ option_map now o
part_place now xs i Q None h e = slice_get_past xs i h
part_place now xs i Q (Some x) h e = slice_get_read xs (length xs) i (now x) refl h.0 e

-- the default clause, from a place on
pub default_here : (f : ℕ → TypeTree) (xs : List (Option TypedNode)) (i : ℕ) (o : Option TypedNode) → slice_get xs i ≡ Some o → is_default_there (option_map (λ x. mapped f (view x)) o) ≡ true → default_at (all_mapped f (views (drop i xs))) ≡ 0
default_here f [] i o e h = absurd cc
default_here f (None ∷ xs) zero None e h = absurd cc
default_here f (None ∷ xs) zero (Some y) e h = absurd cc
default_here f (Some x ∷ xs) zero None e h = absurd cc
default_here f (Some x ∷ xs) zero (Some y) e h = ap (λ b. if b then 0 else suc (default_at (all_mapped f (views xs)))) (ap (λ z. is_default_there (option_map (λ x. mapped f (view x)) z)) (some_is (Some x) (Some y) e) ∙ h)
  where
    some_is : (a b : Option TypedNode) → Some a ≡ Some b → a ≡ b
    some_is a b e = cc
default_here f (x ∷ xs) (suc i) o e h = default_here f xs i o e h

pub default_later : (f : ℕ → TypeTree) (xs : List (Option TypedNode)) (i : ℕ) (o : Option TypedNode) → slice_get xs i ≡ Some o → is_default_there (option_map (λ x. mapped f (view x)) o) ≡ false → default_at (all_mapped f (views (drop i xs))) ≡ suc (default_at (all_mapped f (views (drop (suc i) xs))))
default_later f [] i o e h = absurd cc
default_later f (None ∷ xs) zero o e h = refl
default_later f (Some x ∷ xs) zero o e h = ap (λ b. if b then 0 else suc (default_at (all_mapped f (views xs)))) (ap (λ z. is_default_there (option_map (λ x. mapped f (view x)) z)) (some_is (Some x) o e) ∙ h)
  where
    some_is : (a b : Option TypedNode) → Some a ≡ Some b → a ≡ b
    some_is a b e = cc
default_later f (x ∷ xs) (suc i) o e h = default_later f xs i o e h

module _ (f : ℕ → TypeTree) (xs : List (Option TypedNode)) (n : ℕ) where
  part_some : (x : TypedNode) → entry xs n ≡ Some x → part_at (all_mapped f (views xs)) n ≡ Some (mapped f (view x))
  part_some x e = part_seen f xs n ∙ ap (option_map (λ y. mapped f (view y))) e

  part_none : entry xs n ≡ None → part_at (all_mapped f (views xs)) n ≡ None
  part_none e = part_seen f xs n ∙ ap (option_map (λ y. mapped f (view y))) e

  pub there_by : {B : Type 0} (now : B → TypedNode) (o : Option B) → entry xs n ≡ option_map now o → is_some o ≡ is_there (part_at (all_mapped f (views xs)) n)
  there_by now None e = sym (ap is_there (part_none e))
  there_by now (Some x) e = sym (ap is_there (part_some (now x) e))

  pub type_some : (x : TypedNode) → entry xs n ≡ Some x → sort_type (sort_mapped f (sort_view (out-TypedNode x).sort)) ≡ type_there (part_at (all_mapped f (views xs)) n)
  type_some x e = sym (ap sort_type (sort_out f x)) ∙ sym (ap type_there (part_some x e))

  pub type_none : entry xs n ≡ None → boolean ≡ type_there (part_at (all_mapped f (views xs)) n)
  type_none e = sym (ap type_there (part_none e))

  pub sort_some : (x : TypedNode) → entry xs n ≡ Some x → sort_mapped f (sort_view (out-TypedNode x).sort) ≡ sort_there (part_at (all_mapped f (views xs)) n)
  sort_some x e = sym (sort_out f x) ∙ sym (ap sort_there (part_some x e))

  pub sort_none : entry xs n ≡ None → Nothing ≡ sort_there (part_at (all_mapped f (views xs)) n)
  sort_none e = sym (ap sort_there (part_none e))

  pub calls_some : (x : TypedNode) → entry xs n ≡ Some x → (out-TypedNode x).calls ≡ calls_there (part_at (all_mapped f (views xs)) n)
  calls_some x e = sym (calls_out f x) ∙ sym (ap calls_there (part_some x e))

  pub calls_none : entry xs n ≡ None → false ≡ calls_there (part_at (all_mapped f (views xs)) n)
  calls_none e = sym (ap calls_there (part_none e))

pub known_some : (P : ℕ → Type 0) (xs : List (Option TypedNode)) (n : ℕ) (x : TypedNode) → entry xs n ≡ Some x → EveryPart P (views xs) → SortHas P (sort_view (out-TypedNode x).sort)
known_some P xs n x e h = sort_known P x (subst (λ o. IfSome o (λ y. Every P (view y))) e (part_known P xs n h))

pub at_most_one_is : (n : ℕ) → nat_lt n 2 ≡ at_most_one n
at_most_one_is zero = refl
at_most_one_is (suc zero) = refl
at_most_one_is (suc (suc n)) = le-ltb (suc (suc n)) 2 (omega arith)

-- all forms but one do what they do once
pub plan_once : (rights : Rights) (f : Form) (l : Label TypeTree) (ps : Typeds TypeTree) → is_for f ≡ false → plan rights f l ps ≡ Once (sort_plan l.sort (form_plan rights f (sort_type l.sort) ps))
plan_once rights form.For l ps e = absurd cc
plan_once rights f l ps e = refl

pub plan_loops : (rights : Rights) (f : Form) (l : Label TypeTree) (ps : Typeds TypeTree) → is_for f ≡ true → plan rights f l ps ≡ Loop (is_there (part_at ps 1))
plan_loops rights form.For l ps e = refl
plan_loops rights f l ps e = absurd cc
