-- The nodes of the program, and what the meaning says of their trees.
use Rattle.std.proofs.Common.{◌≡◌, ℕ, List, refl, sym, ap, ◌∙◌, subst, Option, Some}
use Rattle.std.specs.Prelude.{IfSome, ◌<◌}
use Rattle.go_types_relations.specs.Questions.{entry}
use Rattle.go_types.specs.Trees.{TypeTree}
use Rattle.go_types.specs.Relations.{Rights}
use Rattle.go_types.specs.Tables.{type_of, rights_of}
use Rattle.go_typed.specs.declared.node.TypedNode.{TypedNode}
use Rattle.go_typed.specs.declared.node.TypedNode.TheViews.{out-TypedNode}
use Rattle.go_typed.specs.Trees.{Sort, Typed, typed, Typeds, mapped, label_mapped, Every}
use Rattle.go_typed.specs.Packages.{PackageView}
use Rattle.go_typed.specs.Views.{view, views, label_at, all_seen, sort_seen, Known, AllKnown}
use Rattle.go_meaning.specs.Values.{Value}
use Rattle.go_meaning.specs.Computations.{Comp}
use Rattle.go_meaning.specs.Doings.{Doing, act, doing_of}
use Rattle.go_meaning.specs.Plans as plans
use Rattle.go_meaning.specs.Planning.{plan}
use Rattle.go_meaning.specs.Meaning.{meaning, bounded}
use Rattle.go_eval_plans.specs.declared.plan.Plan.{Plan}
use Rattle.go_eval_plans.specs.declared.plan.Plan.TheVariants as code
use Rattle.go_eval_plans.specs.Views.{plan_view}
use Rattle.go_eval_plans.proofs.Seen.{opened, part_known}
use Rattle.go_eval_plans.specs.Places.{place_of, place_doing, IsPlace}
use Rattle.go_eval_plans.specs.Programs.{program_of, calls, doing, doings, again, further}

pub known_parts : (k : ℕ) (x : TypedNode) → Known k x → AllKnown k (out-TypedNode x).parts.items
known_parts k x h = let h1 : Every (λ t. t < k) (typed (out-TypedNode x).form (out-TypedNode x).first (out-TypedNode x).last (label_at (out-TypedNode x)) (views (out-TypedNode x).parts.items)) = subst (Every (λ t. t < k)) (opened x) h in h1.1

pub known_entry : (k : ℕ) (xs : List (Option TypedNode)) (i : ℕ) (x : TypedNode) → AllKnown k xs → entry xs i ≡ Some x → Known k x
known_entry k xs i x h e = let s : IfSome (entry xs i) (λ y. Every (λ t. t < k) (view y)) = part_known (λ t. t < k) xs i h in subst (λ (o : Option TypedNode). IfSome o (λ y. Every (λ t. t < k) (view y))) e s

-- the parts of a part
pub known_below : (k : ℕ) (xs : List (Option TypedNode)) (i : ℕ) (x : TypedNode) (ys : List (Option TypedNode)) → AllKnown k xs → entry xs i ≡ Some x → ys ≡ (out-TypedNode x).parts.items → AllKnown k ys
known_below k xs i x ys h e s = subst (AllKnown k) (sym s) (known_parts k x (known_entry k xs i x h e))

module _ (p : PackageView) (n : ℕ) (x : TypedNode) where
  pub node_acts : doing p n x ≡ doing_of (calls p n) (again p n x) (plan (rights_of p.types) (out-TypedNode x).form (label_mapped (type_of p.types.shapes) (label_at (out-TypedNode x))) (all_seen p.types (out-TypedNode x).parts.items)) (doings p n (out-TypedNode x).parts.items)
  unfolding doing doings again
  node_acts =
      let f = type_of p.types.shapes in
      ap (λ (v : Typed ℕ). meaning (rights_of p.types) (calls p n) (bounded (program_of p 0) n) (mapped f v)) (opened x)
      ∙ ap (λ (v : Typed ℕ). doing_of (calls p n) (bounded (program_of p 0) n (further (mapped f v))) (plan (rights_of p.types) (out-TypedNode x).form (label_mapped f (label_at (out-TypedNode x))) (all_seen p.types (out-TypedNode x).parts.items)) (doings p n (out-TypedNode x).parts.items)) (sym (opened x))

  module _ (r : Plan) (e : plan_view (rights_of p.types) (type_of p.types.shapes) (sort_seen p.types (out-TypedNode x).sort) (all_seen p.types (out-TypedNode x).parts.items) r ≡ plan (rights_of p.types) (out-TypedNode x).form (label_mapped (type_of p.types.shapes) (label_at (out-TypedNode x))) (all_seen p.types (out-TypedNode x).parts.items)) where
    pub by_plan : doing p n x ≡ doing_of (calls p n) (again p n x) (plan_view (rights_of p.types) (type_of p.types.shapes) (sort_seen p.types (out-TypedNode x).sort) (all_seen p.types (out-TypedNode x).parts.items) r) (doings p n (out-TypedNode x).parts.items)
    by_plan = node_acts ∙ ap (λ (q : plans.Course). doing_of (calls p n) (again p n x) q (doings p n (out-TypedNode x).parts.items)) (sym e)

-- as a place
place_acts : (C : ℕ → List Value → Comp) (A : Comp) (R : Rights) (f : ℕ → TypeTree) (s : Sort TypeTree) (ps : Typeds TypeTree) (r : Plan) (xs : List Doing) → IsPlace (doing_of C A (plan_view R f s ps r) xs) (place_doing (place_of r) xs)
unfolding act
place_acts C A R f s ps (code.Local k) xs = record { find = refl; width = refl; test = refl; load = refl; store = refl }
place_acts C A R f s ps (code.Declare k) xs = record { find = refl; width = refl; test = refl; load = refl; store = refl }
place_acts C A R f s ps (code.Variable k) xs = record { find = refl; width = refl; test = refl; load = refl; store = refl }
place_acts C A R f s ps code.Ignore xs = record { find = refl; width = refl; test = refl; load = refl; store = refl }
place_acts C A R f s ps code.Inner xs = record { find = refl; width = refl; test = refl; load = refl; store = refl }
place_acts C A R f s ps (code.FieldOf k) xs = record { find = refl; width = refl; test = refl; load = refl; store = refl }
place_acts C A R f s ps (code.ElementOf k) xs = record { find = refl; width = refl; test = refl; load = refl; store = refl }
place_acts C A R f s ps code.CellOf xs = record { find = refl; width = refl; test = refl; load = refl; store = refl }
place_acts C A R f s ps (code.CaseOf k) xs = record { find = refl; width = refl; test = refl; load = refl; store = refl }
place_acts C A R f s ps code.Otherwise xs = record { find = refl; width = refl; test = refl; load = refl; store = refl }
place_acts C A R f s ps _ xs = record { find = refl; width = refl; test = refl; load = refl; store = refl }

pub node_place : (p : PackageView) (n : ℕ) (x : TypedNode) (r : Plan) → plan_view (rights_of p.types) (type_of p.types.shapes) (sort_seen p.types (out-TypedNode x).sort) (all_seen p.types (out-TypedNode x).parts.items) r ≡ plan (rights_of p.types) (out-TypedNode x).form (label_mapped (type_of p.types.shapes) (label_at (out-TypedNode x))) (all_seen p.types (out-TypedNode x).parts.items) → IsPlace (doing p n x) (place_doing (place_of r) (doings p n (out-TypedNode x).parts.items))
node_place p n x r e =
    let xs = doings p n (out-TypedNode x).parts.items in
    subst (λ (y : Doing). IsPlace y (place_doing (place_of r) xs)) (sym (by_plan p n x r e)) (place_acts (calls p n) (again p n x) (rights_of p.types) (type_of p.types.shapes) (sort_seen p.types (out-TypedNode x).sort) (all_seen p.types (out-TypedNode x).parts.items) r xs)
