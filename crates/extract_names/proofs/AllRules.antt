-- All rules on names that a function fails by itself.
use Rattle.std.proofs.Common.{◌≡◌, ◌∙◌, List, [], ◌∷◌, ◌++◌, refl, ap}
use Rattle.go_base.specs.declared.fault.FaultCode.{FaultCode}
use Rattle.go_base.specs.declared.fault.FaultCode.TheVariants as code
use Rattle.go_tree.specs.Failures.{Failure, failing}
use Rattle.go_tree.specs.Units.{Place}
use Rattle.go_heads.specs.Functions.{Alone}
use Rattle.go_scopes_bodies.specs.Faults.{own_second_declarations, own_none_new, own_undeclared, own_outside_names, own_outside_members, own_not_called, own_initialisers, own_unused, own_misplaced, own_second_members, own_second_defaults, own_hidden_lists, own_cycles, own_faults}
use Rattle.go_scopes_bodies.specs.Meant.{Outer}

left : {A : Type 0} (xs ys : List A) → xs ++ ys ≡ [] → xs ≡ []
left [] ys e = refl
left (x ∷ xs) ys e = cc

right : {A : Type 0} (xs ys : List A) → xs ++ ys ≡ [] → ys ≡ []
right [] ys e = e
right (x ∷ xs) ys e = cc

both : {A : Type 0} (xs ys : List A) → xs ≡ [] → ys ≡ [] → xs ++ ys ≡ []
both xs ys e f = ap (λ zs. zs ++ ys) e ∙ f

fails : (c : FaultCode) (ss : List Place) → failing c ss ≡ [] → ss ≡ []
fails c [] e = refl
fails c (s ∷ ss) e = cc

-- each rule, by itself
pub record NoneFails (a : Alone) (outer : Outer) : Type 0 where
  pub once : own_second_declarations a ≡ []
  pub some_new : own_none_new a ≡ []
  pub declared : own_undeclared a outer ≡ []
  pub known : own_outside_names a outer ≡ []
  pub members : own_outside_members a outer ≡ []
  pub called : own_not_called a outer ≡ []
  pub initial : own_initialisers a outer ≡ []
  pub used : own_unused a outer ≡ []
  pub placed : own_misplaced a ≡ []
  pub groups : own_second_members a ≡ []
  pub defaults : own_second_defaults a ≡ []
  pub lists : own_hidden_lists a ≡ []
  pub needs : own_cycles a outer ≡ []

module _ (a : Alone) (outer : Outer) where
  abbrev declaring : List Failure
  declaring = failing code.Redeclared (own_second_declarations a ++ own_none_new a)

  abbrev undeclared : List Failure
  undeclared = failing code.Undeclared (own_undeclared a outer)

  abbrev outside : List Failure
  outside = failing code.Outside (own_outside_names a outer)

  abbrev members : List Failure
  members = failing code.Outside (own_outside_members a outer)

  abbrev uncalled : List Failure
  uncalled = failing code.NotAValue (own_not_called a outer)

  abbrev early : List Failure
  early = failing code.Initialiser (own_initialisers a outer)

  abbrev asking : List Failure
  asking = undeclared ++ outside ++ members ++ uncalled ++ early

  abbrev unused : List Failure
  unused = failing code.UnusedVariable (own_unused a outer)

  abbrev branches : List Failure
  branches = failing code.Branch (own_misplaced a)

  abbrev doubled : List Failure
  doubled = failing code.Duplicate (own_second_members a ++ own_second_defaults a)

  abbrev lists : List Failure
  lists = failing code.Outside (own_hidden_lists a)

  abbrev circles : List Failure
  circles = failing code.Cycle (own_cycles a outer)

  pub each_rule : own_faults a outer ≡ [] → NoneFails a outer
  each_rule e =
      let e6 = left (declaring ++ asking ++ unused ++ branches ++ doubled ++ lists) circles e in
      let e5 = left (declaring ++ asking ++ unused ++ branches ++ doubled) lists e6 in
      let e4 = left (declaring ++ asking ++ unused ++ branches) doubled e5 in
      let e3 = left (declaring ++ asking ++ unused) branches e4 in
      let e2 = left (declaring ++ asking) unused e3 in
      let names = right declaring asking e2 in
      let n4 = left (undeclared ++ outside ++ members ++ uncalled) early names in
      let n3 = left (undeclared ++ outside ++ members) uncalled n4 in
      let n2 = left (undeclared ++ outside) members n3 in
      let ds = fails code.Redeclared (own_second_declarations a ++ own_none_new a) (left declaring asking e2) in
      let twice = fails code.Duplicate (own_second_members a ++ own_second_defaults a) (right (declaring ++ asking ++ unused ++ branches) doubled e5) in
      record {
        once = left (own_second_declarations a) (own_none_new a) ds;
        some_new = right (own_second_declarations a) (own_none_new a) ds;
        declared = fails code.Undeclared (own_undeclared a outer) (left undeclared outside n2);
        known = fails code.Outside (own_outside_names a outer) (right undeclared outside n2);
        members = fails code.Outside (own_outside_members a outer) (right (undeclared ++ outside) members n3);
        called = fails code.NotAValue (own_not_called a outer) (right (undeclared ++ outside ++ members) uncalled n4);
        initial = fails code.Initialiser (own_initialisers a outer) (right (undeclared ++ outside ++ members ++ uncalled) early names);
        used = fails code.UnusedVariable (own_unused a outer) (right (declaring ++ asking) unused e3);
        placed = fails code.Branch (own_misplaced a) (right (declaring ++ asking ++ unused) branches e4);
        groups = left (own_second_members a) (own_second_defaults a) twice;
        defaults = right (own_second_members a) (own_second_defaults a) twice;
        lists = fails code.Outside (own_hidden_lists a) (right (declaring ++ asking ++ unused ++ branches ++ doubled) lists e6);
        needs = fails code.Cycle (own_cycles a outer) (right (declaring ++ asking ++ unused ++ branches ++ doubled ++ lists) circles e);
      }

  pub no_faults : NoneFails a outer → own_faults a outer ≡ []
  no_faults h =
      both (declaring ++ asking ++ unused ++ branches ++ doubled ++ lists) circles
      (both (declaring ++ asking ++ unused ++ branches ++ doubled) lists
      (both (declaring ++ asking ++ unused ++ branches) doubled
      (both (declaring ++ asking ++ unused) branches
      (both (declaring ++ asking) unused
      (both declaring asking (ap (failing code.Redeclared) (both (own_second_declarations a) (own_none_new a) h.once h.some_new))
      (both (undeclared ++ outside ++ members ++ uncalled) early
      (both (undeclared ++ outside ++ members) uncalled
      (both (undeclared ++ outside) members
      (both undeclared outside (ap (failing code.Undeclared) h.declared) (ap (failing code.Outside) h.known))
      (ap (failing code.Outside) h.members))
      (ap (failing code.NotAValue) h.called))
      (ap (failing code.Initialiser) h.initial)))
      (ap (failing code.UnusedVariable) h.used))
      (ap (failing code.Branch) h.placed))
      (ap (failing code.Duplicate) (both (own_second_members a) (own_second_defaults a) h.groups h.defaults)))
      (ap (failing code.Outside) h.lists))
      (ap (failing code.Cycle) h.needs)
