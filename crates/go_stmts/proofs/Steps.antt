-- One more part of a row.
use Rattle.std.proofs.Common.{◌≡◌, ℕ, List, [], ◌∷◌, ◌++◌, Option, Some, None, Ok, Err, ap, sym, ◌∙◌}
use Rattle.std.specs.Option.{option_map}
use Rattle.go_grammar.specs.declared.kind.Kind.{Kind}
use Rattle.go_grammar.specs.Trees.{Tree, Trees, more, skip, kind_of}
use Rattle.go_types.specs.Tables.{Table}
use Rattle.go_typed.specs.declared.node.TypedNode.{TypedNode}
use Rattle.go_typed.specs.declared.sort.Sort as program
use Rattle.go_typed.specs.Views.{seen}
use Rattle.go_exprs_rules.specs.declared.fault.TypeFault.{TypeFault}
use Rattle.go_exprs_rules.specs.Faults.{judged, reported}
use Rattle.go_exprs_rules.specs.Scopes.{Hint}
use Rattle.go_exprs_rules.specs.Tables.{Parts}
use Rattle.go_exprs_engine.proofs.Public.{judged_ok, judged_err}
use Rattle.go_stmts_defs.specs.Frames.{Frame}
use Rattle.go_stmts_defs.specs.Laying.{told}
use Rattle.go_stmts_defs.specs.Reading.{Found, Readings, entering, left_out, left_out_faults, reading, readings}
use Rattle.go_stmts.specs.declared.state.Surroundings.{Surroundings}
use Rattle.go_stmts.specs.declared.state.State.{State}
use Rattle.go_stmts.specs.State.{Shows}
use Rattle.go_stmts.specs.Walks.{tree_in, found_in, frame_in, found_in_all, ShowsReading}
use Rattle.go_stmts.proofs.Readings.{after_is, reported_later, row_fails}

-- What is read of the parts that are left is what is due, and no rule fails in those before them.
pub record Reaches (t : Table) (o : Surroundings) (k : State) (x : program.Sort) (rs : List ℕ) (kind : Kind) (h : Hint) (all : Trees) (xs : Parts) (ps : Trees) (due : Readings) : Type 0 where
  pub frame : Frame
  pub faults : Found
  pub sound : reported faults ≡ None
  pub shows : Shows t o k x rs frame
  pub reads : readings frame kind h all xs faults ps ≡ due

module _ (o : Surroundings) (kind : Kind) (h : Hint) (all : Trees) (due : Readings) where
  -- the state before a part and behind it
  Before : Table → State → program.Sort → List ℕ → Parts → Trees → Type 0
  Before t k x rs xs ps = Reaches t o k x rs kind h all xs ps due

  module _ (a : Table) (k k2 : State) (x x2 : program.Sort) (rs rs2 : List ℕ) (xs : Parts) (enters : (s : Frame) → Shows a o k x rs s → Shows a o k2 x2 rs2 (entering kind xs s)) where
    pub part_read : (b : Table) (k3 : State) (p : Tree) (ps : Trees) (n : TypedNode) (ys : Parts) → Reaches a o k x rs kind h all xs (more p ps) due
        → ((s : Frame) → Shows a o k2 x2 rs2 s → ShowsReading b o k3 x2 rs2 n (reading s (told kind h all xs (kind_of p)) p))
        → ys ≡ xs ++ Some (seen b n) ∷ [] → Reaches b o k3 x2 rs2 kind h all ys ps due
    part_read b k3 p ps n ys before walks e =
        let s = entering kind xs before.frame in
        let r = reading s (told kind h all xs (kind_of p)) p in
        let w = walks s (enters before.frame before.shows) in
        record {
          frame = frame_in r;
          faults = before.faults ++ found_in r;
          sound = reported_later before.faults (found_in r) before.sound ∙ w.sound;
          shows = w.behind;
          reads =
              ap (λ zs. readings (frame_in r) kind h all zs (before.faults ++ found_in r) ps) (e ∙ ap (λ y. xs ++ Some y ∷ []) w.tree)
              ∙ sym (after_is r (λ y gs t. readings t kind h all (xs ++ Some y ∷ []) (before.faults ++ gs) ps))
              ∙ before.reads;
        }

    pub part_fails : (p : Tree) (ps : Trees) (f : TypeFault) → Reaches a o k x rs kind h all xs (more p ps) due
        → ((s : Frame) → Shows a o k2 x2 rs2 s → reported (found_in (reading s (told kind h all xs (kind_of p)) p)) ≡ Some f) → reported (found_in_all due) ≡ Some f
    part_fails p ps f before walks =
        let s = entering kind xs before.frame in
        let r = reading s (told kind h all xs (kind_of p)) p in
        sym (ap (λ z. reported (found_in_all z)) (sym (after_is r (λ y gs t. readings t kind h all (xs ++ Some y ∷ []) (before.faults ++ gs) ps)) ∙ before.reads))
        ∙ row_fails (frame_in r) kind h all (xs ++ Some (tree_in r) ∷ []) (before.faults ++ found_in r) ps f (reported_later before.faults (found_in r) before.sound ∙ walks s (enters before.frame before.shows))

    pub gap_read : (b : Table) (ps : Trees) (m : Option TypedNode) (ys : Parts) → Reaches a o k x rs kind h all xs (skip ps) due
        → ((s : Frame) → Shows a o k2 x2 rs2 s → judged (reported (left_out_faults s kind)) (left_out s kind) ≡ Ok (option_map (seen b) m))
        → ((s : Frame) → Shows a o k2 x2 rs2 s → Shows b o k2 x2 rs2 s)
        → ys ≡ xs ++ option_map (seen b) m ∷ [] → Reaches b o k2 x2 rs2 kind h all ys ps due
    gap_read b ps m ys before holds stays e =
        let s = entering kind xs before.frame in
        let there = enters before.frame before.shows in
        let split = judged_ok (reported (left_out_faults s kind)) (left_out s kind) (option_map (seen b) m) (holds s there) in
        record {
          frame = s;
          faults = before.faults ++ left_out_faults s kind;
          sound = reported_later before.faults (left_out_faults s kind) before.sound ∙ split.0;
          shows = stays s there;
          reads = ap (λ zs. readings s kind h all zs (before.faults ++ left_out_faults s kind) ps) (e ∙ ap (λ y. xs ++ y ∷ []) (sym split.1)) ∙ before.reads;
        }

    pub gap_fails : (ps : Trees) (f : TypeFault) → Reaches a o k x rs kind h all xs (skip ps) due
        → ((s : Frame) → Shows a o k2 x2 rs2 s → judged (reported (left_out_faults s kind)) (left_out s kind) ≡ Err f) → reported (found_in_all due) ≡ Some f
    gap_fails ps f before holds =
        let s = entering kind xs before.frame in
        let fails = judged_err (reported (left_out_faults s kind)) (left_out s kind) f (holds s (enters before.frame before.shows)) in
        sym (ap (λ z. reported (found_in_all z)) before.reads)
        ∙ row_fails s kind h all (xs ++ left_out s kind ∷ []) (before.faults ++ left_out_faults s kind) ps f (reported_later before.faults (left_out_faults s kind) before.sound ∙ fails)
