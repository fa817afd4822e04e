-- A node over its parts, and what is known behind it.
use Rattle.std.proofs.Common.{◌≡◌, ℕ, List, [], ◌∷◌, Some, None, Result, Ok, Err, ap, sym, subst, ◌∙◌}
use Rattle.go_base.specs.Gives.{Gives}
use Rattle.go_grammar.specs.declared.kind.Kind.{Kind}
use Rattle.go_grammar.specs.Trees.{Trees}
use Rattle.go_types.specs.Tables.{Table, IsTable}
use Rattle.go_types_relations.specs.Extends.{Extends}
use Rattle.go_typed.specs.declared.node.TypedNode.{TypedNode}
use Rattle.go_typed.specs.declared.sort.Sort as program
use Rattle.go_typed.specs.Views.{seen}
use Rattle.go_exprs_rules.specs.declared.fault.TypeFault.{TypeFault}
use Rattle.go_exprs_rules.specs.declared.fault.TypeError.{TypeError}
use Rattle.go_exprs_rules.specs.declared.fault.TypeError.TheVariants as errors
use Rattle.go_exprs_rules.specs.Faults.{least, judged, reported, refusal_of}
use Rattle.go_exprs_rules.specs.Settling.{Part}
use Rattle.go_exprs_rules.specs.Tables.{Parts}
use Rattle.go_exprs_rules.specs.Scopes.{Scope}
use Rattle.go_exprs_engine.proofs.Public.{sort_stays, reported_one, judged_ok, judged_err}
use Rattle.go_stmts_defs.specs.Frames.{Frame, with_iota}
use Rattle.go_stmts_defs.specs.Reading.{Found, all_read, closed, back, leaving}
use Rattle.go_stmts.specs.declared.state.Surroundings.{Surroundings}
use Rattle.go_stmts.specs.declared.state.State.{State}
use Rattle.go_stmts.specs.Signatures.{failing_over, built_over}
use Rattle.go_stmts.specs.State.{Shows, KnownState}
use Rattle.go_stmts.proofs.Showing.{types_stay, shows_iota}
use Rattle.go_stmts.specs.Walks.{found_in, ShowsReading, IsReading, IsBefore}
use Rattle.go_stmts.proofs.Readings.{reported_later}

module _ (b s : Frame) (kind : Kind) (i j : ℕ) (ps : Trees) (xs : Parts) (fs : Found) (sound : reported fs ≡ None) where
  pub own_fault : (f : TypeFault) → judged (least (failing_over s kind i j xs)) (built_over s kind i j xs) ≡ Err f → reported (found_in (closed b kind i j ps (all_read xs fs s))) ≡ Some f
  own_fault f e = reported_later fs (failing_over s kind i j xs ∷ []) sound ∙ reported_one (failing_over s kind i j xs) ∙ judged_err (least (failing_over s kind i j xs)) (built_over s kind i j xs) f e

  pub node_made : (t : Table) (o : Surroundings) (k : State) (x : program.Sort) (rs : List ℕ) (n : TypedNode) → judged (least (failing_over s kind i j xs)) (built_over s kind i j xs) ≡ Ok (seen t n)
      → Shows t o k x rs (leaving kind i ps (seen t n) (back b s)) → ShowsReading t o k x rs n (closed b kind i j ps (all_read xs fs s))
  node_made t o k x rs n e behind =
      let split = judged_ok (least (failing_over s kind i j xs)) (built_over s kind i j xs) (seen t n) e in
      record {
        sound = reported_later fs (failing_over s kind i j xs ∷ []) sound ∙ reported_one (failing_over s kind i j xs) ∙ split.0;
        tree = sym split.1;
        behind = subst (λ y. Shows t o k x rs (leaving kind i ps y (back b s))) (sym split.1) behind;
      }

  -- the fault of the node itself
  own_err : {X : Type 0} (see : X → Part) (t : Table) (o : Surroundings) (k : State) (x : program.Sort) (rs : List ℕ) (e : TypeError) → Gives see refusal_of (Err e) (judged (least (failing_over s kind i j xs)) (built_over s kind i j xs))
      → IsReading t o k x rs (Err e) (closed b kind i j ps (all_read xs fs s))
  own_err see t o k x rs errors.Memory g = tt
  own_err see t o k x rs (errors.Fault f) g = own_fault f g

  pub own_failed : {X : Type 0} (see : X → Part) (t : Table) (o : Surroundings) (k : State) (x : program.Sort) (rs : List ℕ) (e : TypeError) (r : Result TypedNode TypeError) → Gives see refusal_of (Err e) (judged (least (failing_over s kind i j xs)) (built_over s kind i j xs))
      → r ≡ Err e → IsReading t o k x rs r (closed b kind i j ps (all_read xs fs s))
  own_failed see t o k x rs e r g re = subst (λ z. IsReading t o k x rs z (closed b kind i j ps (all_read xs fs s))) (sym re) (own_err see t o k x rs e g)

-- `iota`, the tag and the results are again those in front of the node
pub shows_back : (t : Table) (o : Surroundings) (k : State) (x x2 : program.Sort) (rs rs2 : List ℕ) (b s : Frame) (iota : ℕ) → IsBefore t iota x rs b → Shows t o k x2 rs2 s
    → Shows t o (record k { locals = record (k.locals) { iota = iota } }) x rs (back b s)
shows_back t o k x x2 rs rs2 b s iota before has =
    let again : Shows t o k x rs (record s { tag = b.tag; results = b.results }) = record {
      names = has.names;
      locals = has.locals;
      source = has.source;
      tag = before.tag;
      results = before.results;
      types = has.types;
    } in
    subst (λ n. Shows t o (record k { locals = record (k.locals) { iota = iota } }) x rs (with_iota n (record s { tag = b.tag; results = b.results }))) (sym before.counted)
    (shows_iota t o k x rs (record s { tag = b.tag; results = b.results }) again iota)

-- what is in front of a node, in a table with more types
pub before_is : (old mid : Table) → IsTable old → Extends old mid → (o : Surroundings) (k : State) (x : program.Sort) (rs : List ℕ) (s : Frame) → KnownState old o k x rs → Shows old o k x rs s → (n : ℕ) → n ≡ k.locals.iota → IsBefore mid n x rs s
before_is old mid ok e o k x rs s known has n is = record {
  counted = ap (λ (c : Scope). c.iota) has.names ∙ sym is;
  tag = has.tag ∙ sym (sort_stays old mid ok e x known.tag);
  results = has.results ∙ sym (types_stay old mid ok e rs known.results);
}
