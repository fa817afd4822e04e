-- One more part of a row, and the node over its parts.
use Rattle.std.proofs.Common.{◌≡◌, ℕ, Bool, true, false, cond, List, [], ◌∷◌, ◌++◌, length, drop, get_or, Option, Some, None, Result, Ok, Err, refl, ap, sym, subst, ◌∙◌, ◌+◌, ◌<◌, map}
use Rattle.go_base.specs.Gives.{Gives}
use Rattle.go_grammar.specs.declared.kind.Kind.{Kind}
use Rattle.go_grammar.specs.Trees.{Tree, node, Trees, more, kind_of, first, last, parts}
use Rattle.go_tree.specs.declared.node.Node.{Node}
use Rattle.go_tree.specs.declared.object.Object.{Object}
use Rattle.go_tree.specs.declared.object.Object.TheVariants as object
use Rattle.go_tree.specs.Views.{view, views}
use Rattle.go_exprs_rules.specs.declared.fault.TypeFault.{TypeFault}
use Rattle.go_exprs_rules.specs.declared.fault.TypeError.{TypeError}
use Rattle.go_exprs_rules.specs.declared.fault.TypeError.TheVariants as errors
use Rattle.go_exprs_rules.specs.Faults.{judged, reported, refusal_of}
use Rattle.go_exprs_rules.specs.Names.{declared_form}
use Rattle.go_exprs_rules.specs.Scopes.{Hint}
use Rattle.go_exprs_rules.specs.Settling.{Part}
use Rattle.go_exprs_rules.specs.Tables.{Parts, label, made}
use Rattle.go_exprs_rules.specs.Typing.{typing, faults, answer}
use Rattle.go_exprs_engine.proofs.Public.{instead, reported_append, judged_ok, judged_err, drop_step, row_seen}
use Rattle.go_stmts_defs.specs.Frames.{Frame, scope_of}
use Rattle.go_stmts_defs.specs.Laying.{told, layout}
use Rattle.go_stmts_defs.specs.Reading.{is_list, is_declared_name, list_node, name_node, holding, holdings, held_faults, all_held_faults}
use Rattle.std.specs.Option.{option_map}
use Rattle.go_types.specs.Tables.{Table, type_of}
use Rattle.go_types.specs.Trees.{TypeTree}
use Rattle.go_typed.specs.declared.form.Form.TheVariants as form
use Rattle.go_typed.specs.declared.node.TypedNode.{TypedNode}
use Rattle.go_typed.specs.declared.sort.Label as program
use Rattle.go_typed.specs.Trees as sort
use Rattle.go_typed.specs.Trees.{Label, typed, mapped, all_mapped, label_mapped}
use Rattle.go_typed.specs.Views as trees
use Rattle.go_typed.specs.Views.{seen, label_view}
use Rattle.go_stmts.specs.Held.{held_answer, left}

module _ (s : Frame) (k : Kind) (h : Hint) (all : Trees) where
  -- the answer for the next part
  abbrev pub next : Parts → Tree → Result Part TypeFault
  next xs p = held_answer s (told k h all xs (kind_of p)) p

  on_fault : (rest : List (List TypeFault)) (fs : List (List TypeFault)) (x : Part) (ys : Parts) (f : TypeFault) → judged (reported fs) x ≡ Err f → judged (reported (fs ++ rest)) ys ≡ Err f
  on_fault rest fs x ys f e = ap (λ r. judged r ys) (reported_append fs rest ∙ ap (λ r. instead r (reported rest)) (judged_err (reported fs) x f e))

  left_fails : (xs : Parts) (p : Tree) (ps : Trees) (f : TypeFault) → next xs p ≡ Err f → left s k h all xs (more p ps) ≡ Err f
  left_fails xs p ps f e =
      let hint = told k h all xs (kind_of p) in
      let one = holding s hint p in
      on_fault (all_held_faults s k h all (xs ++ Some one ∷ []) ps) (held_faults s hint p) one (holdings s k h all (xs ++ Some one ∷ []) ps) f e

  left_more : (xs : Parts) (p : Tree) (ps : Trees) (x : Part) → next xs p ≡ Ok x → left s k h all xs (more p ps) ≡ left s k h all (xs ++ Some x ∷ []) ps
  left_more xs p ps x e =
      let hint = told k h all xs (kind_of p) in
      let one = holding s hint p in
      let own = held_faults s hint p in
      let rest = all_held_faults s k h all (xs ++ Some one ∷ []) ps in
      let split = judged_ok (reported own) one x e in
      ap (λ r. judged r (holdings s k h all (xs ++ Some one ∷ []) ps)) (reported_append own rest ∙ ap (λ r. instead r (reported rest)) split.0)
      ∙ ap (λ y. left s k h all (xs ++ Some y ∷ []) ps) split.1

  module _ (written : List (Option Node)) (i : ℕ) where
    pub skipped : (xs ys : Parts) (d : Option Node) (due : Result Parts TypeFault) → i < length written → get_or written i d ≡ None → ys ≡ xs ++ None ∷ []
        → left s k h all xs (views (drop i written)) ≡ due → left s k h all ys (views (drop (i + 1) written)) ≡ due
    skipped xs ys d due lt is e before =
        ap (λ zs. left s k h all zs (views (drop (i + 1) written))) e ∙ sym (ap (λ ns. left s k h all xs (views ns)) (drop_step written i None d lt (sym is))) ∙ before

    pub typed_more : (xs ys : Parts) (n : Node) (x : Part) (d : Option Node) (due : Result Parts TypeFault) → i < length written → get_or written i d ≡ Some n
        → next xs (view n) ≡ Ok x → ys ≡ xs ++ Some x ∷ []
        → left s k h all xs (views (drop i written)) ≡ due → left s k h all ys (views (drop (i + 1) written)) ≡ due
    typed_more xs ys n x d due lt is own e before =
        ap (λ zs. left s k h all zs (views (drop (i + 1) written))) e
        ∙ sym (left_more xs (view n) (views (drop (i + 1) written)) x own)
        ∙ sym (ap (λ ns. left s k h all xs (views ns)) (drop_step written i (Some n) d lt (sym is))) ∙ before

    pub part_fails : {X Y : Type 0} (shown : X → Parts) (see : Y → Part) (xs : Parts) (n : Node) (e : TypeError) (r : Result X TypeError) (d : Option Node) (due : Result Parts TypeFault) → i < length written → get_or written i d ≡ Some n
        → Gives see refusal_of (Err e) (next xs (view n)) → r ≡ Err e
        → left s k h all xs (views (drop i written)) ≡ due → Gives shown refusal_of r due
    part_fails shown see xs n errors.Memory r d due lt is g re before = subst (λ z. Gives shown refusal_of z due) (sym re) tt
    part_fails shown see xs n (errors.Fault f) r d due lt is g re before =
        subst (λ z. Gives shown refusal_of z due) (sym re)
        (sym before ∙ ap (λ ns. left s k h all xs (views ns)) (drop_step written i (Some n) d lt (sym is)) ∙ left_fails xs (view n) (views (drop (i + 1) written)) f g)

-- what the next part is told, in the program's words
pub next_by : (s : Frame) (k : Kind) (h : Hint) (all : Trees) (xs : Parts) (p : Tree) (hint : Hint) → hint ≡ told k h all xs (kind_of p) → next s k h all xs p ≡ held_answer s hint p
next_by s k h all xs p hint e = ap (λ z. held_answer s z p) (sym e)

-- ---- the node

by_list : {A : Type 0} (b : Bool) (x y : A) → b ≡ true → cond b x y ≡ x
by_list b x y e = ap (λ c. cond c x y) e

by_other : {A : Type 0} (b : Bool) (x y : A) → b ≡ false → cond b x y ≡ y
by_other b x y e = ap (λ c. cond c x y) e

module _ (s : Frame) (h : Hint) where
  list_answer : (k : Kind) (i j : ℕ) (ps : Trees) → is_list k ≡ true
      → held_answer s h (node k i j ps) ≡ judged (reported (all_held_faults s k h ps [] ps)) (list_node s k i j (layout s k i (holdings s k h ps [] ps)))
  list_answer k i j ps e =
      ap (λ fs. judged (reported fs) (holding s h (node k i j ps))) (by_list (is_list k) (all_held_faults s k h ps [] ps) (cond (is_declared_name k) [] (faults (scope_of s) h (node k i j ps))) e)
      ∙ ap (judged (reported (all_held_faults s k h ps [] ps))) (by_list (is_list k) (list_node s k i j (layout s k i (holdings s k h ps [] ps))) (cond (is_declared_name k) (name_node s i j) (typing (scope_of s) h (node k i j ps))) e)

  typed_answer : (k : Kind) (i j : ℕ) (ps : Trees) → is_list k ≡ false → is_declared_name k ≡ false → held_answer s h (node k i j ps) ≡ answer (scope_of s) h (node k i j ps)
  typed_answer k i j ps e d =
      ap (λ fs. judged (reported fs) (holding s h (node k i j ps))) (by_other (is_list k) (all_held_faults s k h ps [] ps) (cond (is_declared_name k) [] (faults (scope_of s) h (node k i j ps))) e ∙ by_other (is_declared_name k) [] (faults (scope_of s) h (node k i j ps)) d)
      ∙ ap (judged (reported (faults (scope_of s) h (node k i j ps)))) (by_other (is_list k) (list_node s k i j (layout s k i (holdings s k h ps [] ps))) (cond (is_declared_name k) (name_node s i j) (typing (scope_of s) h (node k i j ps))) e ∙ by_other (is_declared_name k) (name_node s i j) (typing (scope_of s) h (node k i j ps)) d)

  pub node_typed : (n : Tree) (k : Kind) → k ≡ kind_of n → is_list k ≡ false → is_declared_name k ≡ false → held_answer s h n ≡ answer (scope_of s) h n
  node_typed (node k i j ps) k1 ke e d = typed_answer k i j ps (ap is_list (sym ke) ∙ e) (ap is_declared_name (sym ke) ∙ d)

  list_fails : (k : Kind) (i j : ℕ) (ps : Trees) (f : TypeFault) → is_list k ≡ true → left s k h ps [] ps ≡ Err f → held_answer s h (node k i j ps) ≡ Err f
  list_fails k i j ps f e l =
      let xs = holdings s k h ps [] ps in
      list_answer k i j ps e ∙ ap (λ o. judged o (list_node s k i j (layout s k i xs))) (judged_err (reported (all_held_faults s k h ps [] ps)) xs f l)

  list_over : (k : Kind) (i j : ℕ) (ps : Trees) (xs : Parts) → is_list k ≡ true → left s k h ps [] ps ≡ Ok xs → held_answer s h (node k i j ps) ≡ Ok (list_node s k i j (layout s k i xs))
  list_over k i j ps xs e l =
      let ys = holdings s k h ps [] ps in
      let split = judged_ok (reported (all_held_faults s k h ps [] ps)) ys xs l in
      list_answer k i j ps e ∙ ap (λ o. judged o (list_node s k i j (layout s k i ys))) split.0 ∙ ap (λ zs. Ok (list_node s k i j (layout s k i zs))) split.1

  pub node_over : (n : Tree) (k : Kind) (i j : ℕ) (ps : Trees) (xs : Parts) → k ≡ kind_of n → i ≡ first n → j ≡ last n → ps ≡ parts n → is_list k ≡ true
      → left s k h ps [] ps ≡ Ok xs → held_answer s h n ≡ Ok (list_node s k i j (layout s k i xs))
  node_over (node k i j ps) k1 i1 j1 ps1 xs ke ie je pe e l =
      let same : left s k h ps [] ps ≡ left s k1 h ps1 [] ps1 = ap (λ z. left s z h ps [] ps) (sym ke) ∙ ap (λ z. left s k1 h z [] z) (sym pe) in
      list_over k i j ps xs (ap is_list (sym ke) ∙ e) (same ∙ l)
      ∙ ap (λ z. Ok (list_node s z i j (layout s z i xs))) (sym ke) ∙ ap (λ z. Ok (list_node s k1 z j (layout s k1 z xs))) (sym ie) ∙ ap (λ z. Ok (list_node s k1 i1 z (layout s k1 i1 xs))) (sym je)

  pub node_fails : {X Y : Type 0} (see : X → Part) (shown : Y → Parts) (n : Tree) (k : Kind) (ps : Trees) (e : TypeError) (r : Result X TypeError) → k ≡ kind_of n → ps ≡ parts n → is_list k ≡ true
      → Gives shown refusal_of (Err e) (left s k h ps [] ps) → r ≡ Err e → Gives see refusal_of r (held_answer s h n)
  node_fails see shown n k ps errors.Memory r ke pe le g re = subst (λ z. Gives see refusal_of z (held_answer s h n)) (sym re) tt
  node_fails see shown (node k i j ps) k1 ps1 (errors.Fault f) r ke pe le g re =
      let same : left s k h ps [] ps ≡ left s k1 h ps1 [] ps1 = ap (λ z. left s z h ps [] ps) (sym ke) ∙ ap (λ z. left s k1 h z [] z) (sym pe) in
      subst (λ z. Gives see refusal_of z (held_answer s h (node k i j ps))) (sym re) (list_fails k i j ps f (ap is_list (sym ke) ∙ le) (same ∙ g))

-- ---- names that are declared

pub form_around : (s : Frame) (o : Option Object) → declared_form s.around o ≡ declared_form (scope_of s) o
form_around s None = refl
form_around s (Some object.Import) = refl
form_around s (Some (object.Predeclared b)) = refl
form_around s (Some (object.Package n)) = refl
form_around s (Some (object.Local f n)) = refl

-- ---- a node of parts

pub made_by : (t : Table) (n : TypedNode) (k : Kind) (i j : ℕ) (l : program.Label) (ns : List (Option TypedNode)) (xs : Parts)
    → trees.view n ≡ typed (form.Held k) i j (label_view l) (trees.views ns)
    → label_mapped (type_of t.shapes) (label_view l) ≡ label (form.Held k) sort.Nothing (map (option_map (seen t)) ns)
    → map (option_map (seen t)) ns ≡ xs
    → seen t n ≡ made (form.Held k) i j sort.Nothing xs xs
made_by t n k i j l ns xs e le pe =
    ap (mapped (type_of t.shapes)) e
    ∙ ap (λ (m : Label TypeTree). typed (form.Held k) i j m (all_mapped (type_of t.shapes) (trees.views ns))) le
    ∙ ap (typed (form.Held k) i j (label (form.Held k) sort.Nothing (map (option_map (seen t)) ns))) (row_seen t ns)
    ∙ ap (λ ys. made (form.Held k) i j sort.Nothing ys ys) pe
