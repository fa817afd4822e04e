-- The statement of a call, read: alone, or as an assignment of its results.
use Rattle.std.proofs.Common.{◌≡◌, ◌∙◌, ℕ, suc, Bool, true, false, List, [], ◌∷◌, ◌++◌, map, length, Option, Some, None, refl, sym, ap, cond, arith}
use Rattle.std.specs.Prelude.{if◌then◌else◌, take, drop}
use Rattle.std.specs.List.{list_any}
use Rattle.std.proofs.lemmas.Bool.{eq-eqb}
use Rattle.std.proofs.lemmas.List.{append_assoc, append-nil}
use Rattle.go_base.specs.declared.fault.FaultCode.TheVariants as code
use Rattle.go_grammar.specs.declared.kind.Kind.TheVariants as kind
use Rattle.go_grammar.specs.Trees.{Tree, Trees, node, last}
use Rattle.go_grammar.specs.Trees as trees
use Rattle.go_types.specs.Trees.{TypeTree, TypeRow, none, more, function}
use Rattle.go_types_relations.specs.Identity.{is_identical}
use Rattle.go_typed.specs.declared.form.Form.TheVariants as form
use Rattle.go_typed.specs.Trees.{typed, row, list_of, sort_of}
use Rattle.go_typed.specs.Trees as sort
use Rattle.go_exprs_rules.specs.declared.fault.TypeFault.{TypeFault}
use Rattle.go_exprs_rules.specs.Calls.{called}
use Rattle.go_exprs_rules.specs.Faults.{fault_at}
use Rattle.go_exprs_rules.specs.Names.{place_failing}
use Rattle.go_exprs_rules.specs.Scopes.{Hint, value, several, statement, free, target}
use Rattle.go_exprs_rules.specs.Settling.{Part, at_part, settled, all_settled, default, defaulted, undefaulted_by, unassignable_by}
use Rattle.go_exprs_rules.specs.Sorts.{open_kind, is_unknown, is_nil, takes_type, retyped}
use Rattle.go_exprs_rules.specs.Tables.{Parts, is_lost, present, is_judged, made}
use Rattle.go_exprs_rules.specs.Typing.{typing, faults}
use Rattle.go_print_laws.specs.Calls.{Argument, call_tree, names_behind, names_end, statement_tree}
use Rattle.go_print_laws.specs.Reading.{LiteralsReadBack}
use Rattle.go_print_laws.specs.Trees.{name_at}
use Rattle.go_stmts_defs.specs.Assigning.{types_in, called_results, unassigned, result_unassigned, results_unassigned, assignment_by, assignment_failing, Taking, takes, type_or_default, values_take}
use Rattle.go_stmts_defs.specs.Frames.{Frame, rights_of, scope_of}
use Rattle.go_stmts_defs.specs.Reading.{Found, holdings, held_faults, all_held_faults, read, reading}
use Rattle.go_stmts_defs.specs.Rules.{each, not_a_target, target_type, assign_failing, rest, assign_takes, own_faults, given_part, all_given, built_by}
use Rattle.go_stmts_elsewhere.specs.Replaced.{AreFree}
use Rattle.go_stmts_calls.specs.Calls.{IsTarget, blank, given as given_to, FurtherTargets, MeansFunction, ArgumentsFit, StatementReads, call_part, target_at, targets_at, assignment_part, statement_part}
use Rattle.go_stmts_calls.proofs.Arguments.{free_both, assignable_itself}
use Rattle.go_stmts_calls.proofs.Called.{call_typed, call_clear}
use Rattle.go_stmts_calls.proofs.Named.{one_free, target_typed, targets_free}

-- what a statement is read to be: no rule fails in it, and the frame is the same behind it
pub record IsStatement (g : Frame) (t : Tree) (x : Part) : Type 0 where
  pub found : Found
  pub clear : AreFree found
  pub read_so : reading g value t ≡ read x found g

row_list : (xs : Parts) → list_of (row xs) ≡ xs
row_list [] = refl
row_list (None ∷ xs) = ap (λ ys. None ∷ ys) (row_list xs)
row_list (Some x ∷ xs) = ap (λ ys. Some x ∷ ys) (row_list xs)

module _ (itself : (t : TypeTree) → is_identical t t ≡ true) (literals : LiteralsReadBack) (g : Frame) where
  -- ---- a call alone

  module _ (i number : ℕ) (gs : List Argument) (ps rs : TypeRow) (f : MeansFunction g i number ps rs) (w : ArgumentsFit g (suc (suc i)) gs ps) where
    abbrev c : Part
    c = call_part g i number gs ps rs

    placed_alone : (rs : TypeRow) (j : ℕ) → place_failing (rights_of g) statement i j (called (function ps rs) rs) ≡ []
    placed_alone none j = refl
    placed_alone (more r none) j = refl
    placed_alone (more r (more u us)) j = refl

    alone : typing (scope_of g) statement (call_tree i gs) ≡ c
    alone = call_typed itself literals g statement i number gs ps rs f w (placed_alone rs)

    abbrev own : Part → List TypeFault
    own z = own_faults g kind.ExpressionStatement form.Expression i (last (call_tree i gs)) (Some z ∷ [])

    known : is_judged (Some c ∷ []) ≡ true
    known = by rs
      where
        by : (rs : TypeRow) → is_judged (Some (call_part g i number gs ps rs) ∷ []) ≡ true
        by none = refl
        by (more r none) = refl
        by (more r (more u us)) = refl

    none_fails : own c ≡ []
    none_fails = ap (λ b. if b then [] else []) known

    pub call_alone : IsStatement g (node kind.ExpressionStatement i (last (call_tree i gs)) (trees.more (call_tree i gs) trees.none)) (made form.Expression i (last (call_tree i gs)) sort.Nothing (Some c ∷ []) (Some c ∷ []))
    call_alone = record {
      found = faults (scope_of g) statement (call_tree i gs) ++ own (typing (scope_of g) statement (call_tree i gs)) ∷ [];
      clear = free_both (faults (scope_of g) statement (call_tree i gs)) (own (typing (scope_of g) statement (call_tree i gs)) ∷ [])
          (call_clear itself literals g statement i number gs ps rs f w (placed_alone rs)) (one_free (own (typing (scope_of g) statement (call_tree i gs))) (ap own alone ∙ none_fails));
      read_so = ap (λ z. read (built_by g kind.ExpressionStatement form.Expression i (last (call_tree i gs)) (Some z ∷ []) (own z)) (faults (scope_of g) statement (call_tree i gs) ++ own (typing (scope_of g) statement (call_tree i gs)) ∷ []) g) alone
          ∙ ap (λ es. read (built_by g kind.ExpressionStatement form.Expression i (last (call_tree i gs)) (Some c ∷ []) es) (faults (scope_of g) statement (call_tree i gs) ++ own (typing (scope_of g) statement (call_tree i gs)) ∷ []) g) none_fails;
    }

  -- ---- targets

  -- They are given these results: they are targets, and each has its type or is blank.
  record AreTargets (ts : TypeRow) (ys : Parts) : Type 0 where
    judged : list_any is_lost ys ≡ false
    all_there : map (λ x. Some x) (present ys) ≡ ys
    many : length (present ys) ≡ length (types_in ts)
    targets : each (not_a_target (rights_of g)) (present ys) ≡ []
    -- the results of a call of these types are assignable to them
    results : (x : Part) → results_unassigned (rights_of g) x (map target_type (present ys)) (types_in ts) ≡ []

  one_target : (j : ℕ) (t : TypeTree) (w : IsTarget g j t) (ts : TypeRow) (ys : Parts) → AreTargets ts ys → AreTargets (more t ts) (Some (target_at g j t w) ∷ ys)
  one_target j t (blank e) ts ys r = record {
    judged = r.judged;
    all_there = ap (λ zs. Some (target_at g j t (blank e)) ∷ zs) r.all_there;
    many = ap suc r.many;
    targets = r.targets;
    results = λ x. r.results x;
  }
  one_target j t (given_to v) ts ys r = record {
    judged = r.judged;
    all_there = ap (λ zs. Some (target_at g j t (given_to v)) ∷ zs) r.all_there;
    many = ap suc r.many;
    targets = r.targets;
    results = λ x. ap (λ b. (if b then [] else at_part code.Assignable x) ++ results_unassigned (rights_of g) x (map target_type (present ys)) (types_in ts)) (assignable_itself (rights_of g) t (itself t)) ∙ r.results x;
  }

  no_targets : AreTargets none []
  no_targets = record { judged = refl; all_there = refl; many = refl; targets = refl; results = λ x. refl }

  further_targets : (j : ℕ) (xs : List (List ℕ)) (ts : TypeRow) (w : FurtherTargets g j xs ts) → AreTargets ts (targets_at g j xs ts w)
  further_targets j [] none w = no_targets
  further_targets j (x ∷ xs) (more t ts) w = one_target (suc j) t w.0 ts (targets_at g (suc (suc j)) xs ts w.1) (further_targets (suc (suc j)) xs ts w.1)
  further_targets j [] (more t ts) w = absurd w
  further_targets j (x ∷ xs) none w = absurd w

  module _ (h : Hint) (all : Trees) where
    names_held : (j : ℕ) (xs : List (List ℕ)) (ts : TypeRow) (w : FurtherTargets g j xs ts) (zs : Parts) → holdings g kind.ExpressionList target all zs (names_behind j xs) ≡ zs ++ targets_at g j xs ts w
    names_held j [] none w zs = sym (append-nil zs)
    names_held j (x ∷ xs) (more t ts) w zs =
        ap (λ z. holdings g kind.ExpressionList target all (zs ++ Some z ∷ []) (names_behind (suc (suc j)) xs)) (target_typed g (suc j) t w.0)
        ∙ names_held (suc (suc j)) xs ts w.1 (zs ++ Some (target_at g (suc j) t w.0) ∷ [])
        ∙ append_assoc zs (Some (target_at g (suc j) t w.0) ∷ []) (targets_at g (suc (suc j)) xs ts w.1)
    names_held j [] (more t ts) w zs = absurd w
    names_held j (x ∷ xs) none w zs = absurd w

    names_clear : (j : ℕ) (xs : List (List ℕ)) (ts : TypeRow) (w : FurtherTargets g j xs ts) (zs : Parts) → AreFree (all_held_faults g kind.ExpressionList target all zs (names_behind j xs))
    names_clear j [] none w zs = tt
    names_clear j (x ∷ xs) (more t ts) w zs =
        free_both (faults (scope_of g) target (name_at (suc j))) (all_held_faults g kind.ExpressionList target all (zs ++ Some (typing (scope_of g) target (name_at (suc j))) ∷ []) (names_behind (suc (suc j)) xs))
        (targets_free g (suc j) t w.0) (names_clear (suc (suc j)) xs ts w.1 (zs ++ Some (typing (scope_of g) target (name_at (suc j))) ∷ []))
    names_clear j [] (more t ts) w zs = absurd w
    names_clear j (x ∷ xs) none w zs = absurd w

  -- ---- an assignment of the results

  taken_all : {A : Type 0} (xs ys : List A) → take (length xs) (xs ++ ys) ≡ xs
  taken_all [] [] = refl
  taken_all [] (y ∷ ys) = refl
  taken_all (x ∷ xs) ys = ap (λ zs. x ∷ zs) (taken_all xs ys)

  dropped_all : {A : Type 0} (xs ys : List A) → drop (length xs) (xs ++ ys) ≡ ys
  dropped_all [] [] = refl
  dropped_all [] (y ∷ ys) = refl
  dropped_all (x ∷ xs) ys = dropped_all xs ys

  somes_present : (xs : List Part) (y : Part) → present (map (λ x. Some x) xs ++ Some y ∷ []) ≡ xs ++ y ∷ []
  somes_present [] y = refl
  somes_present (x ∷ xs) y = ap (λ zs. x ∷ zs) (somes_present xs y)

  somes_many : (xs : List Part) → length (map (λ (x : Part). Some x) xs) ≡ length xs
  somes_many [] = refl
  somes_many (x ∷ xs) = ap suc (somes_many xs)

  wanted_many : (xs : List Part) → length (map target_type xs) ≡ length xs
  wanted_many [] = refl
  wanted_many (x ∷ xs) = ap suc (wanted_many xs)

  -- the call is a value, or several
  known_call : (ps r : TypeRow) → is_unknown (called (function ps r) r) ≡ false
  known_call ps none = refl
  known_call ps (more t none) = refl
  known_call ps (more t (more u us)) = refl

  takes_nothing : (ps r : TypeRow) → takes_type (called (function ps r) r) ≡ false
  takes_nothing ps none = refl
  takes_nothing ps (more t none) = refl
  takes_nothing ps (more t (more u us)) = refl

  no_kind : (ps r : TypeRow) → open_kind (called (function ps r) r) ≡ None
  no_kind ps none = refl
  no_kind ps (more t none) = refl
  no_kind ps (more t (more u us)) = refl

  unsettled : (t : TypeTree) (c : Part) → takes_type (sort_of c) ≡ false → settled t c ≡ c
  unsettled t (typed f i j l ps) e = ap (λ b. cond b (typed f i j (record l { sort = retyped t l.sort }) (all_settled t ps)) (typed f i j l ps)) e

  -- it takes no type
  call_stays : (ps r : TypeRow) (c : Part) → sort_of c ≡ called (function ps r) r → (w : Option TypeTree) → given_part (type_or_default w) c ≡ c
  call_stays ps r c e (Some t) = unsettled t c (ap takes_type e ∙ takes_nothing ps r)
  call_stays ps r c e None = ap (λ o. defaulted o c) (ap open_kind e ∙ no_kind ps r)

  one_result : (t : TypeTree) (w : Option TypeTree) (c : Part) → sort_of c ≡ sort.Value t → unassigned (rights_of g) w c ≡ result_unassigned (rights_of g) c w t
  one_result t (Some u) c e = ap (λ z. unassignable_by (rights_of g) u z c) e
  one_result t None c e = ap (λ z. if is_nil z then at_part code.Operands c else undefaulted_by (rights_of g) (open_kind z) c) e

  -- The results of the call are given to these targets.
  results_given : (i j : ℕ) (ps : TypeRow) (t : TypeTree) (ts : TypeRow) (xs : List Part) (c : Part) → sort_of c ≡ called (function ps (more t ts)) (more t ts) → length xs ≡ length (types_in (more t ts))
      → ((x : Part) → results_unassigned (rights_of g) x (map target_type xs) (types_in (more t ts)) ≡ []) → assignment_failing (rights_of g) i j (map target_type xs) (c ∷ []) ≡ []
  results_given i j ps t none [] c e n k = absurd (omega (arith, n))
  results_given i j ps t none (x ∷ []) c e n k =
      ap (λ z. assignment_by (rights_of g) i j (target_type x ∷ []) (c ∷ []) (called_results (rights_of g) z)) e
      ∙ ap (λ fs. fs ++ []) (one_result t (target_type x) c e) ∙ k c
  results_given i j ps t none (x ∷ y ∷ ys) c e n k = absurd (omega (arith, n))
  results_given i j ps t (more u us) xs c e n k =
      ap (λ z. assignment_by (rights_of g) i j (map target_type xs) (c ∷ []) (called_results (rights_of g) z)) e
      ∙ ap (λ b. if b then results_unassigned (rights_of g) c (map target_type xs) (types_in (more t (more u us))) else fault_at code.Count i j)
      (eq-eqb (length (map target_type xs)) (length (types_in (more t (more u us)))) (wanted_many xs ∙ n))
      ∙ k c

  abbrev somes : List Part → Parts
  somes xs = map (λ x. Some x) xs

  given_rest : (k : Taking) (xs : List Part) (c : Part) → given_part k c ≡ c → all_given (rest (length xs) ++ k ∷ []) (somes xs ++ Some c ∷ []) ≡ somes xs ++ Some c ∷ []
  given_rest k [] c e = ap (λ z. Some z ∷ []) e
  given_rest k (x ∷ xs) c e = ap (λ zs. Some x ∷ zs) (given_rest k xs c e)

  either_way : (b : Bool) (fs : List TypeFault) → fs ≡ [] → (if b then fs else []) ≡ []
  either_way true fs e = e
  either_way false fs e = refl

  -- ---- over targets that are there

  module _ (i j : ℕ) (ps : TypeRow) (t : TypeTree) (ts : TypeRow) (xs : List Part) (c : Part) (e : sort_of c ≡ called (function ps (more t ts)) (more t ts)) (n : length xs ≡ length (types_in (more t ts)))
      (targets : each (not_a_target (rights_of g)) xs ≡ []) (results : (x : Part) → results_unassigned (rights_of g) x (map target_type xs) (types_in (more t ts)) ≡ []) where
    abbrev ys : Parts
    ys = somes xs ++ Some c ∷ []

    abbrev k : ℕ
    k = length (somes xs)

    front : take k (present ys) ≡ xs
    front = ap (take k) (somes_present xs c) ∙ ap (λ n. take n (xs ++ c ∷ [])) (somes_many xs) ∙ taken_all xs (c ∷ [])

    behind : drop k (present ys) ≡ c ∷ []
    behind = ap (drop k) (somes_present xs c) ∙ ap (λ n. drop n (xs ++ c ∷ [])) (somes_many xs) ∙ dropped_all xs (c ∷ [])

    assigning : assign_failing (rights_of g) i j (take k (present ys)) (drop k (present ys)) ≡ []
    assigning =
        ap (λ zs. assign_failing (rights_of g) i j zs (drop k (present ys))) front ∙ ap (assign_failing (rights_of g) i j xs) behind
        ∙ ap (λ fs. fs ++ assignment_failing (rights_of g) i j (map target_type xs) (c ∷ [])) targets ∙ results_given i j ps t ts xs c e n results

    own_none : own_faults g kind.Assignment (form.Assign k) i j ys ≡ []
    own_none = either_way (is_judged ys) (assign_failing (rights_of g) i j (take k (present ys)) (drop k (present ys))) assigning

    takes_so : assign_takes (take k (present ys)) (drop k (present ys)) ≡ rest (length xs) ++ values_take (map target_type xs) (c ∷ [])
    takes_so = ap (λ zs. assign_takes zs (drop k (present ys))) front ∙ ap (assign_takes xs) behind

    abbrev value_takes : List Part → Taking
    value_takes [] = takes default
    value_takes (w ∷ ws) = type_or_default (target_type w)

    one_value : (ws : List Part) → values_take (map target_type ws) (c ∷ []) ≡ value_takes ws ∷ []
    one_value [] = refl
    one_value (w ∷ []) = refl
    one_value (w ∷ v ∷ ws) = refl

    value_stays : (ws : List Part) → given_part (value_takes ws) c ≡ c
    value_stays [] = call_stays ps (more t ts) c e None
    value_stays (w ∷ ws) = call_stays ps (more t ts) c e (target_type w)

    nothing_given : all_given (assign_takes (take k (present ys)) (drop k (present ys))) ys ≡ ys
    nothing_given = ap (λ ks. all_given ks ys) (takes_so ∙ ap (λ ks. rest (length xs) ++ ks) (one_value xs)) ∙ given_rest (value_takes xs) xs c (value_stays xs)

    pub assigned : built_by g kind.Assignment (form.Assign k) i j ys (own_faults g kind.Assignment (form.Assign k) i j ys) ≡ made (form.Assign k) i j sort.Nothing ys ys
    assigned = ap (built_by g kind.Assignment (form.Assign k) i j ys) own_none ∙ ap (made (form.Assign k) i j sort.Nothing ys) nothing_given

    pub none_assigned : own_faults g kind.Assignment (form.Assign k) i j ys ≡ []
    none_assigned = own_none

  -- ---- the statement

  tidy : (zs : Parts) → list_of (row (list_of (row zs) ++ [])) ≡ zs
  tidy zs = row_list (list_of (row zs) ++ []) ∙ append-nil (list_of (row zs)) ∙ row_list zs

  module _ (i number : ℕ) (x : List ℕ) (xs : List (List ℕ)) (gs : List Argument) (ps : TypeRow) (t : TypeTree) (ts : TypeRow) (w : StatementReads g i (x ∷ xs) number gs ps (more t ts)) where
    abbrev m : ℕ
    m = names_end (suc i) xs

    abbrev names : Trees
    names = trees.more (name_at i) (names_behind (suc i) xs)

    abbrev call : Tree
    call = call_tree (suc m) gs

    abbrev j : ℕ
    j = last call

    abbrev list : Tree
    list = node kind.ExpressionList i m names

    abbrev targets : Tree
    targets = node kind.Targets i (suc m) (trees.more list trees.none)

    abbrev values : Tree
    values = node kind.ExpressionList (suc m) j (trees.more call trees.none)

    placed_well : (ts : TypeRow) (k : ℕ) → place_failing (rights_of g) several (suc m) k (called (function ps (more t ts)) (more t ts)) ≡ []
    placed_well none k = refl
    placed_well (more u us) k = refl

    abbrev its_call : Part
    its_call = call_part g (suc m) number gs ps (more t ts)

    abbrev before : Part
    before = typing (scope_of g) several call

    called_so : before ≡ its_call
    called_so = call_typed itself literals g several (suc m) number gs ps (more t ts) w.2 w.3 (placed_well ts)

    abbrev zs : Parts
    zs = Some (target_at g i t w.0) ∷ targets_at g (suc i) xs ts w.1

    all_targets : AreTargets (more t ts) zs
    all_targets = one_target i t w.0 ts (targets_at g (suc i) xs ts w.1) (further_targets (suc i) xs ts w.1)

    abbrev first_held : Parts
    first_held = holdings g kind.ExpressionList target names [] names

    names_are : first_held ≡ zs
    names_are =
        ap (λ z. holdings g kind.ExpressionList target names (Some z ∷ []) (names_behind (suc i) xs)) (target_typed g i t w.0)
        ∙ names_held target names (suc i) xs ts w.1 (Some (target_at g i t w.0) ∷ [])

    abbrev held_targets : Parts
    held_targets = list_of (row (list_of (row first_held) ++ []))

    targets_are : held_targets ≡ somes (present zs)
    targets_are = tidy first_held ∙ names_are ∙ sym all_targets.all_there

    abbrev own_of : Parts → Part → List TypeFault
    own_of hs z = own_faults g kind.Assignment (form.Assign (length hs)) i j (hs ++ Some z ∷ [])

    abbrev built_of : Parts → Part → Part
    built_of hs z = built_by g kind.Assignment (form.Assign (length hs)) i j (hs ++ Some z ∷ []) (own_of hs z)

    abbrev fs : Found
    fs = (held_faults g free targets ++ held_faults g several values) ++ own_of held_targets before ∷ []

    sort_there : sort_of its_call ≡ called (function ps (more t ts)) (more t ts)
    sort_there = refl

    own_none_there : own_of held_targets before ≡ []
    own_none_there =
        ap (λ hs. own_of hs before) targets_are ∙ ap (own_of (somes (present zs))) called_so
        ∙ none_assigned i j ps t ts (present zs) its_call sort_there all_targets.many all_targets.targets all_targets.results

    built_there : built_of held_targets before ≡ assignment_part i j zs its_call
    built_there =
        ap (λ hs. built_of hs before) targets_are ∙ ap (built_of (somes (present zs))) called_so
        ∙ assigned i j ps t ts (present zs) its_call sort_there all_targets.many all_targets.targets all_targets.results
        ∙ ap (λ hs. assignment_part i j hs its_call) all_targets.all_there

    all_clear : AreFree fs
    all_clear =
        free_both (held_faults g free targets ++ held_faults g several values) (own_of held_targets before ∷ [])
        (free_both (held_faults g free targets) (held_faults g several values)
        (free_both (held_faults g target list) []
        (free_both (faults (scope_of g) target (name_at i)) (all_held_faults g kind.ExpressionList target names (Some (typing (scope_of g) target (name_at i)) ∷ []) (names_behind (suc i) xs))
        (targets_free g i t w.0) (names_clear target names (suc i) xs ts w.1 (Some (typing (scope_of g) target (name_at i)) ∷ []))) tt)
        (free_both (faults (scope_of g) several call) [] (call_clear itself literals g several (suc m) number gs ps (more t ts) w.2 w.3 (placed_well ts)) tt))
        (one_free (own_of held_targets before) own_none_there)

    pub assignment_read : IsStatement g (statement_tree i (x ∷ xs) gs) (statement_part g i (x ∷ xs) number gs ps (more t ts) w)
    assignment_read = record { found = fs; clear = all_clear; read_so = ap (λ z. read z fs g) built_there }

  -- whichever it is
  pub statement_read : (i number : ℕ) (xs : List (List ℕ)) (gs : List Argument) (ps rs : TypeRow) (w : StatementReads g i xs number gs ps rs) → IsStatement g (statement_tree i xs gs) (statement_part g i xs number gs ps rs w)
  statement_read i number [] gs ps rs w = call_alone i number gs ps rs w.0 w.1
  statement_read i number (x ∷ xs) gs ps none w = absurd w
  statement_read i number (x ∷ xs) gs ps (more t ts) w = assignment_read i number x xs gs ps t ts w
