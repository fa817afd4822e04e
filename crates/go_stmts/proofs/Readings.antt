-- What is read of a node and of its parts, and which fault is reported of it.
use Rattle.std.proofs.Common.{◌≡◌, ℕ, true, false, cond, [], ◌∷◌, ◌++◌, Some, None, refl, ap, sym, ◌∙◌}
use Rattle.go_grammar.specs.declared.kind.Kind.{Kind}
use Rattle.go_grammar.specs.Trees.{Tree, node, Trees, none, more, skip, kind_of, first, last, parts}
use Rattle.go_exprs_rules.specs.declared.fault.TypeFault.{TypeFault}
use Rattle.go_exprs_rules.specs.Faults.{reported}
use Rattle.go_exprs_rules.specs.Scopes.{Hint}
use Rattle.go_exprs_rules.specs.Settling.{Part}
use Rattle.go_exprs_rules.specs.Tables.{Parts}
use Rattle.go_exprs_engine.proofs.Public.{instead, reported_append}
use Rattle.go_stmts_defs.specs.Frames.{Frame}
use Rattle.go_stmts_defs.specs.Laying.{told}
use Rattle.go_stmts_defs.specs.Reading.{Found, Reading, read, Readings, all_read, is_statement, holding, held_faults, entering, beginning, left_out, left_out_faults, closed, after, reading, readings}
use Rattle.go_stmts.specs.Walks.{tree_in, found_in, frame_in, parts_in, found_in_all, frame_behind}

pub after_is : (r : Reading) (next : Part → Found → Frame → Readings) → after r next ≡ next (tree_in r) (found_in r) (frame_in r)
after_is (read x fs s) next = refl

pub row_is : (r : Readings) → r ≡ all_read (parts_in r) (found_in_all r) (frame_behind r)
row_is (all_read xs fs s) = refl

-- ---- by the kind of a node

module _ (s : Frame) (h : Hint) where
  pub held_reading : (n : Tree) (k : Kind) → k ≡ kind_of n → is_statement k ≡ false → reading s h n ≡ read (holding s h n) (held_faults s h n) s
  held_reading (node k i j ps) k1 ke e =
      ap (λ b. cond b (closed s k i j ps (readings (beginning k i s) k h ps [] [] ps)) (read (holding s h (node k i j ps)) (held_faults s h (node k i j ps)) s)) (ap is_statement (sym ke) ∙ e)

  -- the node over what is read of its parts
  abbrev pub over : Kind → ℕ → ℕ → Trees → Reading
  over k i j ps = closed s k i j ps (readings (beginning k i s) k h ps [] [] ps)

  pub statement_reading : (n : Tree) (k : Kind) (i j : ℕ) (ps : Trees) → k ≡ kind_of n → i ≡ first n → j ≡ last n → ps ≡ parts n → is_statement k ≡ true → reading s h n ≡ over k i j ps
  statement_reading (node k i j ps) k1 i1 j1 ps1 ke ie je pe e =
      ap (λ b. cond b (over k i j ps) (read (holding s h (node k i j ps)) (held_faults s h (node k i j ps)) s)) (ap is_statement (sym ke) ∙ e)
      ∙ ap (λ z. over z i j ps) (sym ke) ∙ ap (λ z. over k1 z j ps) (sym ie) ∙ ap (λ z. over k1 i1 z ps) (sym je) ∙ ap (over k1 i1 j1) (sym pe)

-- ---- what is reported

-- what is reported of the first parts is reported of all
reported_first : (fs gs : Found) (f : TypeFault) → reported fs ≡ Some f → reported (fs ++ gs) ≡ Some f
reported_first fs gs f e = reported_append fs gs ∙ ap (λ o. instead o (reported gs)) e

-- where nothing is reported of the first ones, the others decide
pub reported_later : (fs gs : Found) → reported fs ≡ None → reported (fs ++ gs) ≡ reported gs
reported_later fs gs e = reported_append fs gs ∙ ap (λ o. instead o (reported gs)) e

pub row_fails : (s : Frame) (k : Kind) (h : Hint) (all : Trees) (xs : Parts) (fs : Found) (ps : Trees) (f : TypeFault) → reported fs ≡ Some f → reported (found_in_all (readings s k h all xs fs ps)) ≡ Some f
row_fails s k h all xs fs none f e = e
row_fails s k h all xs fs (more p ps) f e =
    let r = reading (entering k xs s) (told k h all xs (kind_of p)) p in
    ap (λ z. reported (found_in_all z)) (after_is r (λ x gs t. readings t k h all (xs ++ Some x ∷ []) (fs ++ gs) ps))
    ∙ row_fails (frame_in r) k h all (xs ++ Some (tree_in r) ∷ []) (fs ++ found_in r) ps f (reported_first fs (found_in r) f e)
row_fails s k h all xs fs (skip ps) f e =
    let t = entering k xs s in
    row_fails t k h all (xs ++ left_out t k ∷ []) (fs ++ left_out_faults t k) ps f (reported_first fs (left_out_faults t k) f e)

pub node_fails : (b : Frame) (k : Kind) (i j : ℕ) (ps : Trees) (r : Readings) (f : TypeFault) → reported (found_in_all r) ≡ Some f → reported (found_in (closed b k i j ps r)) ≡ Some f
node_fails b k i j ps (all_read xs fs s) f e = reported_first fs _ f e
