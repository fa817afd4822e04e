-- Statements in which switches and loops declare no types are steady.
use Rattle.std.proofs.Common.{◌≡◌, Bool, true, false, ◌∷◌, ◌++◌, [], Option, Some, None, refl, ap}
use Rattle.std.specs.Prelude.{◌&&◌}
use Rattle.go_grammar.specs.declared.kind.Kind.{Kind}
use Rattle.go_grammar.specs.declared.kind.Kind.TheVariants as kind
use Rattle.go_grammar.specs.Trees.{Tree, node, Trees, none, more, skip, kind_of}
use Rattle.go_types.specs.Trees.{TypeTree}
use Rattle.go_types.specs.Relations.{Rights}
use Rattle.go_types_relations.specs.Tests.{underlying_of}
use Rattle.go_exprs_rules.specs.Scopes.{Hint, value}
use Rattle.go_exprs_rules.specs.Sorts.{own_type}
use Rattle.go_exprs_rules.specs.Tables.{Parts}
use Rattle.go_stmts_defs.specs.Frames.{Frame, rights_of}
use Rattle.go_stmts_defs.specs.Laying.{told}
use Rattle.go_stmts_defs.specs.Reading.{reading, beginning, entering, in_switch, left_out, tag_behind}
use Rattle.go_stmts_variables.specs.Statements.{tree_in, frame_in}
use Rattle.go_stmts_variables.specs.Steady.{Keeps, KeepsIf, ClausesKeep, range_type, SteadyAt, PartsSteady, is_typeless, are_typeless, goes_over, TypelessIf, HeadTypeless, AllTypeless, TypelessAreSteady}
use Rattle.go_stmts_variables.proofs.Left.{reading_rights}

same_keeps : (r q : Rights) (t : Option TypeTree) → q ≡ r → Keeps r q t
same_keeps r q None e = tt
same_keeps r q (Some t) e = ap (λ z. underlying_of z t) e

both_true : (b c : Bool) → (b && c) ≡ true → (b ≡ true) × (c ≡ true)
both_true true c e = (refl, e)
both_true false c e = cc

clauses_keep : (t : Option TypeTree) (f : Frame) (ps : Trees) → are_typeless ps ≡ true → ClausesKeep t f ps
clauses_keep t f none e = tt
clauses_keep t f (skip ps) e = clauses_keep t f ps e
clauses_keep t f (more p ps) e =
    let both = both_true (is_typeless p) (are_typeless ps) e in
    (same_keeps (rights_of f) (rights_of (frame_in (reading f value p))) t (reading_rights f value p both.0), clauses_keep t (frame_in (reading f value p)) ps both.1)

keeps_if : (b : Bool) (f : Frame) (hd x : Tree) → TypelessIf b (more hd (more x none)) → KeepsIf b (rights_of (frame_in (reading f value hd))) (rights_of (frame_in (reading (frame_in (reading f value hd)) value x))) (range_type (tree_in (reading f value hd)))
keeps_if false f hd x e = tt
keeps_if true f hd x e =
    let one = both_true (is_typeless hd) (is_typeless x && true) e in
    let two = both_true (is_typeless x) true one.1 in
    let g = frame_in (reading f value hd) in
    same_keeps (rights_of g) (rights_of (frame_in (reading g value x))) (range_type (tree_in (reading f value hd))) (reading_rights g value x two.0)

steady_at : (f : Frame) (k : Kind) (ps : Trees) → HeadTypeless k ps → SteadyAt f k ps
steady_at f kind.Switch none e = tt
steady_at f kind.Switch (skip ps) e = tt
steady_at f kind.Switch (more hd cs) e =
    let x = tree_in (reading f value hd) in
    clauses_keep (own_type (tag_behind (Some x))) (in_switch (Some x ∷ []) (frame_in (reading f value hd))) cs (both_true (is_typeless hd) (are_typeless cs) e).1
steady_at f kind.For none e = tt
steady_at f kind.For (skip ps) e = tt
steady_at f kind.For (more hd none) e = tt
steady_at f kind.For (more hd (skip ps)) e = tt
steady_at f kind.For (more hd (more b (more c ps))) e = tt
steady_at f kind.For (more hd (more b (skip ps))) e = tt
steady_at f kind.For (more hd (more b none)) e = keeps_if (goes_over (more hd (more b none))) f hd b e
steady_at f k ps e = tt

mutual
  pub typeless_steady : TypelessAreSteady
  typeless_steady f h (node k i j ps) e = (steady_at f k ps e.0, parts_steady (beginning k i f) k h ps [] ps e.1)

  parts_steady : (f : Frame) (k : Kind) (h : Hint) (all : Trees) (xs : Parts) (ps : Trees) → AllTypeless ps → PartsSteady f k h all xs ps
  parts_steady f k h all xs none e = tt
  parts_steady f k h all xs (skip ps) e = parts_steady (entering k xs f) k h all (xs ++ left_out (entering k xs f) k ∷ []) ps e
  parts_steady f k h all xs (more p ps) e =
      let r = reading (entering k xs f) (told k h all xs (kind_of p)) p in
      (typeless_steady (entering k xs f) (told k h all xs (kind_of p)) p e.0, parts_steady (frame_in r) k h all (xs ++ Some (tree_in r) ∷ []) ps e.1)
