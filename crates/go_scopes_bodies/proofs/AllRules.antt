-- No rule of names fails in a package where none fails outside of functions and none in a function by itself.
use Rattle.std.proofs.Common.{◌≡◌, ℕ, ◌+◌, List, [], ◌++◌, length, Some, None}
use Rattle.std.specs.Prelude.{false, slice_get}
use Rattle.go_base.specs.declared.fault.FaultCode.{FaultCode}
use Rattle.go_base.specs.declared.fault.FaultCode.TheVariants as code
use Rattle.go_tree.specs.Branches.{branches, limit}
use Rattle.go_tree.specs.Constants.{hidden_lists}
use Rattle.go_tree.specs.Declarations.{Found, found, declarations}
use Rattle.go_tree.specs.Duplicates.{second_members, second_defaults, duplicates}
use Rattle.go_tree.specs.Failures.{Failure, failing, of_files}
use Rattle.go_tree.specs.Faults.{clause_faults, lookup_faults, unused_faults, placed_faults, cycle_faults, name_faults, reported}
use Rattle.go_tree.specs.Lookups.{Asked, undeclared, outside_names, outside_members, not_called, initialisers, unused_variables, unused_imports}
use Rattle.go_tree.specs.Needs.{cycles}
use Rattle.go_tree.specs.Redeclared.{second_declarations, has_import, hidden_imports, second_imports, none_new, redeclared}
use Rattle.go_tree.specs.Units as names
use Rattle.go_tree.specs.Units.{Place}
use Rattle.go_heads.specs.Functions.{Alone, Function, AreRead, all_functions, function_alone}
use Rattle.go_heads.specs.Heads.{File}
use Rattle.go_heads.specs.Locals.{AreNamed}
use Rattle.go_heads.specs.Objects.{units_of}
use Rattle.go_heads.specs.Tokens.{function_files}
use Rattle.go_scopes_bodies.specs.Faults.{own_asked, own_misplaced, own_second_defaults, own_second_members, own_hidden_lists, own_second_declarations, own_none_new, own_undeclared, own_outside_names, own_outside_members, own_not_called, own_initialisers, own_unused, own_cycles, shared, outside_asked, all_asked, outside_declared, outer_in, GoesByFunctions, own_faults, NothingFailsOutside, IsFaultlessByFunctions, FaultsAreThoseOfFunctions}
use Rattle.go_scopes_bodies.specs.Meant.{Outer}
use Rattle.go_scopes_bodies.specs.Outside.{outside_units}
use Rattle.go_scopes_bodies.proofs.Cycles.{cycles_by_functions}
use Rattle.go_scopes_bodies.proofs.Each.{by_functions}
use Rattle.go_scopes_bodies.proofs.EnoughRounds.{BoundRounds}
use Rattle.go_scopes_bodies.proofs.Initial.{initialisers_by_functions}
use Rattle.go_scopes_bodies.proofs.Lists.{none_left, none_right, none_both}
use Rattle.go_scopes_bodies.proofs.Lookups.{undeclared_by_functions, outside_names_by_functions, outside_members_by_functions, not_called_by_functions}
use Rattle.go_scopes_bodies.proofs.Members.{members_by_functions}
use Rattle.go_scopes_bodies.proofs.New.{none_new_by_functions}
use Rattle.go_scopes_bodies.proofs.Nothing.{nothing_outside}
use Rattle.go_scopes_bodies.proofs.Once.{declared_once_by_functions}
use Rattle.go_scopes_bodies.proofs.Repeated.{lists_by_functions}
use Rattle.go_scopes_bodies.proofs.Reported.{none_reported, none_failing}
use Rattle.go_scopes_bodies.proofs.Rules.{branches_by_functions, second_defaults_by_functions}
use Rattle.go_scopes_bodies.proofs.Unused.{unused_by_functions}

-- ---- lists of rules

of_code : (c : FaultCode) (ss : List Place) → failing c ss ≡ [] → ss ≡ []
of_code c ss e = (none_failing c ss).to e

to_code : (c : FaultCode) (ss : List Place) → ss ≡ [] → failing c ss ≡ []
to_code c ss e = (none_failing c ss).from e

record AreLookedUp (asks : List Asked) : Type 0 where
  undeclared : undeclared asks ≡ []
  outside : outside_names asks ≡ []
  members : outside_members asks ≡ []
  called : not_called asks ≡ []
  initial : initialisers asks ≡ []

looked_to : (asks : List Asked) → lookup_faults asks ≡ [] → AreLookedUp asks
looked_to asks e =
    let a : List Failure = failing code.Undeclared (undeclared asks) in
    let b : List Failure = failing code.Outside (outside_names asks) in
    let c : List Failure = failing code.Outside (outside_members asks) in
    let d : List Failure = failing code.NotAValue (not_called asks) in
    let f : List Failure = failing code.Initialiser (initialisers asks) in
    let e4 = none_left (((a ++ b) ++ c) ++ d) f e in
    let e3 = none_left ((a ++ b) ++ c) d e4 in
    let e2 = none_left (a ++ b) c e3 in
    record {
      undeclared = of_code code.Undeclared (undeclared asks) (none_left a b e2);
      outside = of_code code.Outside (outside_names asks) (none_right a b e2);
      members = of_code code.Outside (outside_members asks) (none_right (a ++ b) c e3);
      called = of_code code.NotAValue (not_called asks) (none_right ((a ++ b) ++ c) d e4);
      initial = of_code code.Initialiser (initialisers asks) (none_right (((a ++ b) ++ c) ++ d) f e);
    }

looked_from : (asks : List Asked) → AreLookedUp asks → lookup_faults asks ≡ []
looked_from asks h =
    let a : List Failure = failing code.Undeclared (undeclared asks) in
    let b : List Failure = failing code.Outside (outside_names asks) in
    let c : List Failure = failing code.Outside (outside_members asks) in
    let d : List Failure = failing code.NotAValue (not_called asks) in
    let f : List Failure = failing code.Initialiser (initialisers asks) in
    none_both (((a ++ b) ++ c) ++ d) f
    (none_both ((a ++ b) ++ c) d
    (none_both (a ++ b) c
    (none_both a b (to_code code.Undeclared (undeclared asks) h.undeclared) (to_code code.Outside (outside_names asks) h.outside))
    (to_code code.Outside (outside_members asks) h.members))
    (to_code code.NotAValue (not_called asks) h.called))
    (to_code code.Initialiser (initialisers asks) h.initial)

-- what no fault of a function by itself is
record HasNone (a : Alone) (outer : Outer) : Type 0 where
  once : own_second_declarations a ≡ []
  new : own_none_new a ≡ []
  looked : AreLookedUp (own_asked a outer)
  used : own_unused a outer ≡ []
  branches : own_misplaced a ≡ []
  members : own_second_members a ≡ []
  defaults : own_second_defaults a ≡ []
  lists : own_hidden_lists a ≡ []
  cycles : own_cycles a outer ≡ []

own_to : (a : Alone) (outer : Outer) → own_faults a outer ≡ [] → HasNone a outer
own_to a outer e =
    let r : List Failure = failing code.Redeclared (own_second_declarations a ++ own_none_new a) in
    let l : List Failure = lookup_faults (own_asked a outer) in
    let u : List Failure = failing code.UnusedVariable (own_unused a outer) in
    let b : List Failure = failing code.Branch (own_misplaced a) in
    let d : List Failure = failing code.Duplicate (own_second_members a ++ own_second_defaults a) in
    let h : List Failure = failing code.Outside (own_hidden_lists a) in
    let c : List Failure = failing code.Cycle (own_cycles a outer) in
    let e6 = none_left (((((r ++ l) ++ u) ++ b) ++ d) ++ h) c e in
    let e5 = none_left ((((r ++ l) ++ u) ++ b) ++ d) h e6 in
    let e4 = none_left (((r ++ l) ++ u) ++ b) d e5 in
    let e3 = none_left ((r ++ l) ++ u) b e4 in
    let e2 = none_left (r ++ l) u e3 in
    let first = of_code code.Redeclared (own_second_declarations a ++ own_none_new a) (none_left r l e2) in
    let last = of_code code.Duplicate (own_second_members a ++ own_second_defaults a) (none_right (((r ++ l) ++ u) ++ b) d e5) in
    record {
      once = none_left (own_second_declarations a) (own_none_new a) first;
      new = none_right (own_second_declarations a) (own_none_new a) first;
      looked = looked_to (own_asked a outer) (none_right r l e2);
      used = of_code code.UnusedVariable (own_unused a outer) (none_right (r ++ l) u e3);
      branches = of_code code.Branch (own_misplaced a) (none_right ((r ++ l) ++ u) b e4);
      members = none_left (own_second_members a) (own_second_defaults a) last;
      defaults = none_right (own_second_members a) (own_second_defaults a) last;
      lists = of_code code.Outside (own_hidden_lists a) (none_right ((((r ++ l) ++ u) ++ b) ++ d) h e6);
      cycles = of_code code.Cycle (own_cycles a outer) (none_right (((((r ++ l) ++ u) ++ b) ++ d) ++ h) c e);
    }

own_from : (a : Alone) (outer : Outer) → HasNone a outer → own_faults a outer ≡ []
own_from a outer h =
    let r : List Failure = failing code.Redeclared (own_second_declarations a ++ own_none_new a) in
    let l : List Failure = lookup_faults (own_asked a outer) in
    let u : List Failure = failing code.UnusedVariable (own_unused a outer) in
    let b : List Failure = failing code.Branch (own_misplaced a) in
    let d : List Failure = failing code.Duplicate (own_second_members a ++ own_second_defaults a) in
    let o : List Failure = failing code.Outside (own_hidden_lists a) in
    none_both (((((r ++ l) ++ u) ++ b) ++ d) ++ o) (failing code.Cycle (own_cycles a outer))
    (none_both ((((r ++ l) ++ u) ++ b) ++ d) o
    (none_both (((r ++ l) ++ u) ++ b) d
    (none_both ((r ++ l) ++ u) b
    (none_both (r ++ l) u
    (none_both r l (to_code code.Redeclared (own_second_declarations a ++ own_none_new a) (none_both (own_second_declarations a) (own_none_new a) h.once h.new)) (looked_from (own_asked a outer) h.looked))
    (to_code code.UnusedVariable (own_unused a outer) h.used))
    (to_code code.Branch (own_misplaced a) h.branches))
    (to_code code.Duplicate (own_second_members a ++ own_second_defaults a) (none_both (own_second_members a) (own_second_defaults a) h.members h.defaults)))
    (to_code code.Outside (own_hidden_lists a) h.lists))
    (to_code code.Cycle (own_cycles a outer) h.cycles)

-- what no fault of a package is
record NoneFails (us : List names.Unit) (ds : List Found) (asks : List Asked) : Type 0 where
  clauses : clause_faults us ≡ []
  once : second_declarations [] ds ≡ []
  hidden : hidden_imports (has_import us) ds ≡ []
  imported : of_files (second_imports false) 0 us ≡ []
  new : none_new ds (found us) ≡ []
  looked : AreLookedUp asks
  used : unused_variables asks ds ≡ []
  imports : unused_imports asks us ≡ []
  branches : branches us ≡ []
  members : of_files (second_members []) 0 us ≡ []
  defaults : of_files second_defaults 0 us ≡ []
  statements : limit us ≡ []
  lists : hidden_lists us ≡ []
  cycles : cycles asks (length ds + length ds) ds ≡ []

module _ (fs : List File) where
  abbrev us : List names.Unit
  us = units_of fs

  abbrev ds : List Found
  ds = declarations us

  abbrev asks : List Asked
  asks = all_asked fs

  abbrev redeclared_faults : List Failure
  redeclared_faults = failing code.Redeclared (redeclared us ds)

  abbrev first_three : List Place
  first_three = (second_declarations [] ds ++ hidden_imports (has_import us) ds) ++ of_files (second_imports false) 0 us

  package_to : reported us ≡ None → NoneFails us ds asks
  package_to e =
      let x = (none_reported us).to e in
      let l : List Failure = lookup_faults asks in
      let u : List Failure = unused_faults us ds asks in
      let p : List Failure = placed_faults us in
      let c : List Failure = cycle_faults ds asks in
      let e4 = none_left (((redeclared_faults ++ l) ++ u) ++ p) c x.1 in
      let e3 = none_left ((redeclared_faults ++ l) ++ u) p e4 in
      let e2 = none_left (redeclared_faults ++ l) u e3 in
      let unused = none_right (redeclared_faults ++ l) u e3 in
      let placed = none_right ((redeclared_faults ++ l) ++ u) p e4 in
      let r = of_code code.Redeclared (redeclared us ds) (none_left redeclared_faults l e2) in
      let three = none_left first_three (none_new ds (found us)) r in
      let two = none_left (second_declarations [] ds ++ hidden_imports (has_import us) ds) (of_files (second_imports false) 0 us) three in
      let b : List Failure = failing code.Branch (branches us) in
      let d : List Failure = failing code.Duplicate (duplicates us) in
      let m : List Failure = failing code.Limit (limit us) in
      let o : List Failure = failing code.Outside (hidden_lists us) in
      let before_lists = none_left ((b ++ d) ++ m) o placed in
      let before_limit = none_left (b ++ d) m before_lists in
      let twice = of_code code.Duplicate (duplicates us) (none_right b d before_limit) in
      let v : List Failure = failing code.UnusedVariable (unused_variables asks ds) in
      let i : List Failure = failing code.UnusedImport (unused_imports asks us) in
      record {
        clauses = x.0;
        once = none_left (second_declarations [] ds) (hidden_imports (has_import us) ds) two;
        hidden = none_right (second_declarations [] ds) (hidden_imports (has_import us) ds) two;
        imported = none_right (second_declarations [] ds ++ hidden_imports (has_import us) ds) (of_files (second_imports false) 0 us) three;
        new = none_right first_three (none_new ds (found us)) r;
        looked = looked_to asks (none_right redeclared_faults l e2);
        used = of_code code.UnusedVariable (unused_variables asks ds) (none_left v i unused);
        imports = of_code code.UnusedImport (unused_imports asks us) (none_right v i unused);
        branches = of_code code.Branch (branches us) (none_left b d before_limit);
        members = none_left (of_files (second_members []) 0 us) (of_files second_defaults 0 us) twice;
        defaults = none_right (of_files (second_members []) 0 us) (of_files second_defaults 0 us) twice;
        statements = of_code code.Limit (limit us) (none_right (b ++ d) m before_lists);
        lists = of_code code.Outside (hidden_lists us) (none_right ((b ++ d) ++ m) o placed);
        cycles = of_code code.Cycle (cycles asks (length ds + length ds) ds) (none_right (((redeclared_faults ++ l) ++ u) ++ p) c x.1);
      }

  package_from : NoneFails us ds asks → reported us ≡ None
  package_from h =
      let l : List Failure = lookup_faults asks in
      let u : List Failure = unused_faults us ds asks in
      let p : List Failure = placed_faults us in
      let c : List Failure = cycle_faults ds asks in
      let b : List Failure = failing code.Branch (branches us) in
      let d : List Failure = failing code.Duplicate (duplicates us) in
      let m : List Failure = failing code.Limit (limit us) in
      let v : List Failure = failing code.UnusedVariable (unused_variables asks ds) in
      let i : List Failure = failing code.UnusedImport (unused_imports asks us) in
      let r : redeclared us ds ≡ [] =
      none_both first_three (none_new ds (found us))
      (none_both (second_declarations [] ds ++ hidden_imports (has_import us) ds) (of_files (second_imports false) 0 us) (none_both (second_declarations [] ds) (hidden_imports (has_import us) ds) h.once h.hidden) h.imported)
      h.new in
      let unused : u ≡ [] = none_both v i (to_code code.UnusedVariable (unused_variables asks ds) h.used) (to_code code.UnusedImport (unused_imports asks us) h.imports) in
      let placed : p ≡ [] =
      none_both ((b ++ d) ++ m) (failing code.Outside (hidden_lists us))
      (none_both (b ++ d) m
      (none_both b d (to_code code.Branch (branches us) h.branches) (to_code code.Duplicate (duplicates us) (none_both (of_files (second_members []) 0 us) (of_files second_defaults 0 us) h.members h.defaults)))
      (to_code code.Limit (limit us) h.statements))
      (to_code code.Outside (hidden_lists us) h.lists) in
      let all : name_faults us ≡ [] =
      none_both (((redeclared_faults ++ l) ++ u) ++ p) c
      (none_both ((redeclared_faults ++ l) ++ u) p
      (none_both (redeclared_faults ++ l) u (none_both redeclared_faults l (to_code code.Redeclared (redeclared us ds) r) (looked_from asks h.looked)) unused)
      placed)
      (to_code code.Cycle (cycles asks (length ds + length ds) ds) h.cycles) in
      (none_reported us).from (h.clauses, all)

-- ---- function by function

-- Each of these rules goes by functions.
record AreJudged (fs : List File) : Type 0 where
  once : GoesByFunctions fs (λ n f. own_second_declarations (function_alone f)) (second_declarations [] (shared (declarations (units_of fs)))) (second_declarations [] (declarations (units_of fs)))
  new : GoesByFunctions fs (λ n f. own_none_new (function_alone f)) (none_new (declarations (units_of fs)) (found (outside_units fs))) (none_new (declarations (units_of fs)) (found (units_of fs)))
  undeclared : GoesByFunctions fs (λ n f. own_undeclared (function_alone f) (outer_in fs n)) (undeclared (outside_asked fs)) (undeclared (all_asked fs))
  outside : GoesByFunctions fs (λ n f. own_outside_names (function_alone f) (outer_in fs n)) (outside_names (outside_asked fs)) (outside_names (all_asked fs))
  others : GoesByFunctions fs (λ n f. own_outside_members (function_alone f) (outer_in fs n)) (outside_members (outside_asked fs)) (outside_members (all_asked fs))
  called : GoesByFunctions fs (λ n f. own_not_called (function_alone f) (outer_in fs n)) (not_called (outside_asked fs)) (not_called (all_asked fs))
  initial : GoesByFunctions fs (λ n f. own_initialisers (function_alone f) (outer_in fs n)) (initialisers (outside_asked fs)) (initialisers (all_asked fs))
  used : GoesByFunctions fs (λ n f. own_unused (function_alone f) (outer_in fs n)) (unused_variables (all_asked fs) (outside_declared fs)) (unused_variables (all_asked fs) (declarations (units_of fs)))
  branches : GoesByFunctions fs (λ n f. own_misplaced (function_alone f)) (branches (outside_units fs)) (branches (units_of fs))
  members : GoesByFunctions fs (λ n f. own_second_members (function_alone f)) (of_files (second_members []) 0 (outside_units fs)) (of_files (second_members []) 0 (units_of fs))
  defaults : GoesByFunctions fs (λ n f. own_second_defaults (function_alone f)) (of_files second_defaults 0 (outside_units fs)) (of_files second_defaults 0 (units_of fs))
  lists : GoesByFunctions fs (λ n f. own_hidden_lists (function_alone f)) (hidden_lists (outside_units fs)) (hidden_lists (units_of fs))
  cycles : GoesByFunctions fs (λ n f. own_cycles (function_alone f) (outer_in fs n)) (cycles (all_asked fs) (length (declarations (units_of fs)) + length (declarations (units_of fs))) (shared (declarations (units_of fs)))) (cycles (all_asked fs) (length (declarations (units_of fs)) + length (declarations (units_of fs))) (declarations (units_of fs)))

are_judged : BoundRounds → (fs : List File) → AreRead fs → AreNamed fs → AreJudged fs
are_judged law fs h g = record {
  once = by_functions fs (λ n f. own_second_declarations (function_alone f)) (second_declarations [] (shared (declarations (units_of fs)))) (second_declarations [] (declarations (units_of fs))) (declared_once_by_functions fs h);
  new = by_functions fs (λ n f. own_none_new (function_alone f)) (none_new (declarations (units_of fs)) (found (outside_units fs))) (none_new (declarations (units_of fs)) (found (units_of fs))) (none_new_by_functions fs h g);
  undeclared = by_functions fs (λ n f. own_undeclared (function_alone f) (outer_in fs n)) (undeclared (outside_asked fs)) (undeclared (all_asked fs)) (undeclared_by_functions fs h g);
  outside = by_functions fs (λ n f. own_outside_names (function_alone f) (outer_in fs n)) (outside_names (outside_asked fs)) (outside_names (all_asked fs)) (outside_names_by_functions fs h g);
  others = by_functions fs (λ n f. own_outside_members (function_alone f) (outer_in fs n)) (outside_members (outside_asked fs)) (outside_members (all_asked fs)) (outside_members_by_functions fs h g);
  called = by_functions fs (λ n f. own_not_called (function_alone f) (outer_in fs n)) (not_called (outside_asked fs)) (not_called (all_asked fs)) (not_called_by_functions fs h g);
  initial = by_functions fs (λ n f. own_initialisers (function_alone f) (outer_in fs n)) (initialisers (outside_asked fs)) (initialisers (all_asked fs)) (initialisers_by_functions fs h g);
  used = by_functions fs (λ n f. own_unused (function_alone f) (outer_in fs n)) (unused_variables (all_asked fs) (outside_declared fs)) (unused_variables (all_asked fs) (declarations (units_of fs))) (unused_by_functions fs h g);
  branches = by_functions fs (λ n f. own_misplaced (function_alone f)) (branches (outside_units fs)) (branches (units_of fs)) (branches_by_functions fs h g);
  members = by_functions fs (λ n f. own_second_members (function_alone f)) (of_files (second_members []) 0 (outside_units fs)) (of_files (second_members []) 0 (units_of fs)) (members_by_functions fs h g);
  defaults = by_functions fs (λ n f. own_second_defaults (function_alone f)) (of_files second_defaults 0 (outside_units fs)) (of_files second_defaults 0 (units_of fs)) (second_defaults_by_functions fs h g);
  lists = by_functions fs (λ n f. own_hidden_lists (function_alone f)) (hidden_lists (outside_units fs)) (hidden_lists (units_of fs)) (lists_by_functions fs h g);
  cycles =
      let ds = declarations (units_of fs) in
      let rounds = length ds + length ds in
      by_functions fs (λ n f. own_cycles (function_alone f) (outer_in fs n)) (cycles (all_asked fs) rounds (shared ds)) (cycles (all_asked fs) rounds ds) (cycles_by_functions law fs h g);
}

module _ (fs : List File) (judged : AreJudged fs) (nothing : NothingFailsOutside fs) where
  apart : NoneFails (units_of fs) (declarations (units_of fs)) (all_asked fs) → IsFaultlessByFunctions fs
  apart x =
      let once = judged.once.apart x.once in
      let new = judged.new.apart x.new in
      let unknown = judged.undeclared.apart x.looked.undeclared in
      let outside = judged.outside.apart x.looked.outside in
      let others = judged.others.apart x.looked.members in
      let called = judged.called.apart x.looked.called in
      let initial = judged.initial.apart x.looked.initial in
      let used = judged.used.apart x.used in
      let branches = judged.branches.apart x.branches in
      let members = judged.members.apart x.members in
      let defaults = judged.defaults.apart x.defaults in
      let lists = judged.lists.apart x.lists in
      let circles = judged.cycles.apart x.cycles in
      record {
        outside = record {
          clauses = x.clauses;
          declared_once = once.0;
          not_hidden = x.hidden;
          imported_once = x.imported;
          lookups = looked_from (outside_asked fs) (record { undeclared = unknown.0; outside = outside.0; members = others.0; called = called.0; initial = initial.0 });
          members_once = members.0;
          needs = circles.0;
        };
        imports = x.imports;
        statements = x.statements;
        functions =
            λ k n f e i.
            own_from (function_alone f) (outer_in fs n)
            (record {
              once = once.1 k n f e i;
              new = new.1 k n f e i;
              looked = record { undeclared = unknown.1 k n f e i; outside = outside.1 k n f e i; members = others.1 k n f e i; called = called.1 k n f e i; initial = initial.1 k n f e i };
              used = used.1 k n f e i;
              branches = branches.1 k n f e i;
              members = members.1 k n f e i;
              defaults = defaults.1 k n f e i;
              lists = lists.1 k n f e i;
              cycles = circles.1 k n f e i;
            });
      }

  together : IsFaultlessByFunctions fs → NoneFails (units_of fs) (declarations (units_of fs)) (all_asked fs)
  together y =
      let own : (k n : ℕ) (f : Function) → slice_get (all_functions fs) k ≡ Some f → slice_get (function_files 0 fs) k ≡ Some n → HasNone (function_alone f) (outer_in fs n) =
      λ k n f e i. own_to (function_alone f) (outer_in fs n) (y.functions k n f e i) in
      let looked : AreLookedUp (outside_asked fs) = looked_to (outside_asked fs) y.outside.lookups in
      record {
        clauses = y.outside.clauses;
        once = judged.once.together y.outside.declared_once (λ k n f e i. (own k n f e i).once);
        hidden = y.outside.not_hidden;
        imported = y.outside.imported_once;
        new = judged.new.together (nothing.some_new (declarations (units_of fs))) (λ k n f e i. (own k n f e i).new);
        looked = record {
          undeclared = judged.undeclared.together looked.undeclared (λ k n f e i. (own k n f e i).looked.undeclared);
          outside = judged.outside.together looked.outside (λ k n f e i. (own k n f e i).looked.outside);
          members = judged.others.together looked.members (λ k n f e i. (own k n f e i).looked.members);
          called = judged.called.together looked.called (λ k n f e i. (own k n f e i).looked.called);
          initial = judged.initial.together looked.initial (λ k n f e i. (own k n f e i).looked.initial);
        };
        used = judged.used.together (nothing.variables (all_asked fs)) (λ k n f e i. (own k n f e i).used);
        imports = y.imports;
        branches = judged.branches.together nothing.branches (λ k n f e i. (own k n f e i).branches);
        members = judged.members.together y.outside.members_once (λ k n f e i. (own k n f e i).members);
        defaults = judged.defaults.together nothing.defaults (λ k n f e i. (own k n f e i).defaults);
        statements = y.statements;
        lists = judged.lists.together nothing.lists (λ k n f e i. (own k n f e i).lists);
        cycles = judged.cycles.together y.outside.needs (λ k n f e i. (own k n f e i).cycles);
      }

pub faults_by_functions : BoundRounds → (fs : List File) → AreRead fs → AreNamed fs → FaultsAreThoseOfFunctions fs
faults_by_functions law fs h g = record {
  apart = λ e. apart fs (are_judged law fs h g) (nothing_outside fs h) (package_to fs e);
  together = λ y. package_from fs (together fs (are_judged law fs h g) (nothing_outside fs h) y);
}
