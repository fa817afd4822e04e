-- The engine's steps: a node over its parts, and one more part of a row.
use Rattle.std.proofs.Common.{◌≡◌, ℕ, zero, suc, slice_get, ◌+◌, ◌<◌, ◌≤◌, List, [], ◌∷◌, ◌++◌, length, drop, get_or, map, Option, Some, None, Result, Ok, Err, refl, ap, sym, subst, ◌∙◌, arith}
use Rattle.std.specs.Option.{option_map}
use Rattle.go_base.specs.Gives.{Gives}
use Rattle.go_grammar.specs.declared.kind.Kind.{Kind}
use Rattle.go_grammar.specs.Trees.{Tree, node, Trees, none, more, skip, kind_of, first, last, parts}
use Rattle.go_tree.specs.declared.node.Node.{Node}
use Rattle.go_tree.specs.Views.{view, views}
use Rattle.go_exprs_rules.specs.declared.fault.TypeFault.{TypeFault}
use Rattle.go_exprs_rules.specs.declared.fault.TypeError.{TypeError}
use Rattle.go_exprs_rules.specs.declared.fault.TypeError.TheVariants as errors
use Rattle.go_exprs_rules.specs.Faults.{least, judged, refusal_of}
use Rattle.go_exprs_rules.specs.Settling.{Part}
use Rattle.go_exprs_rules.specs.Scopes.{Scope, Hint}
use Rattle.go_exprs_rules.specs.Tables.{Parts, hint, part_scope, built, found}
use Rattle.go_exprs_rules.specs.Typing.{answer}
use Rattle.go_exprs_engine.specs.Literals.{Reads, AllRead, PartsRead}
use Rattle.go_exprs_engine.proofs.Nodes.{drop_step}
use Rattle.go_exprs_engine.proofs.Rows.{left, next, left_fails, left_more, left_skip, answer_fails, answer_over}

-- ---- a node

module _ {X : Type 0} (see : X → Part) (s : Scope) (h : Hint) where
  pub node_fails : {Y : Type 0} (shown : Y → Parts) (n : Tree) (k : Kind) (ps : Trees) (e : TypeError) (r : Result X TypeError) → k ≡ kind_of n → ps ≡ parts n
      → Gives shown refusal_of (Err e) (left s k h ps [] ps) → r ≡ Err e → Gives see refusal_of r (answer s h n)
  node_fails shown n k ps errors.Memory r ke pe g re = subst (λ z. Gives see refusal_of z (answer s h n)) (sym re) tt
  node_fails shown (node k i j ps) k1 ps1 (errors.Fault f) r ke pe g re =
      let same : left s k h ps [] ps ≡ left s k1 h ps1 [] ps1 = ap (λ z. left s z h ps [] ps) (sym ke) ∙ ap (λ z. left s k1 h z [] z) (sym pe) in
      subst (λ z. Gives see refusal_of z (answer s h (node k i j ps))) (sym re) (answer_fails s k h i j ps f (same ∙ g))

  pub node_done : (n : Tree) (k : Kind) (i j : ℕ) (ps : Trees) (xs : Parts) (r : Result X TypeError) → k ≡ kind_of n → i ≡ first n → j ≡ last n → ps ≡ parts n
      → left s k h ps [] ps ≡ Ok xs → Gives see refusal_of r (judged (least (found s k h i j xs)) (built s k h i j xs)) → Gives see refusal_of r (answer s h n)
  node_done (node k i j ps) k1 i1 j1 ps1 xs r ke ie je pe l g =
      let same : left s k h ps [] ps ≡ left s k1 h ps1 [] ps1 = ap (λ z. left s z h ps [] ps) (sym ke) ∙ ap (λ z. left s k1 h z [] z) (sym pe) in
      let over = answer_over s k h i j ps xs (same ∙ l) in
      let here : judged (least (found s k1 h i1 j1 xs)) (built s k1 h i1 j1 xs) ≡ answer s h (node k i j ps) =
      ap (λ z. judged (least (found s z h i1 j1 xs)) (built s z h i1 j1 xs)) ke
      ∙ ap (λ z. judged (least (found s k h z j1 xs)) (built s k h z j1 xs)) ie
      ∙ ap (λ z. judged (least (found s k h i z xs)) (built s k h i z xs)) je
      ∙ sym over in
      subst (Gives see refusal_of r) here g

-- ---- its parts

module _ (s : Scope) (k : Kind) (h : Hint) (all : Trees) (written : List (Option Node)) (i : ℕ) where
  pub skipped : (xs ys : Parts) (d : Option Node) (due : Result Parts TypeFault) → i < length written → get_or written i d ≡ None → ys ≡ xs ++ None ∷ []
      → left s k h all xs (views (drop i written)) ≡ due → left s k h all ys (views (drop (i + 1) written)) ≡ due
  skipped xs ys d due lt is e before =
      ap (λ zs. left s k h all zs (views (drop (i + 1) written))) e ∙ sym (ap (λ ns. left s k h all xs (views ns)) (drop_step written i None d lt (sym is))) ∙ before

  pub typed_more : (xs ys : Parts) (n : Node) (x : Part) (d : Option Node) (due : Result Parts TypeFault) → i < length written → get_or written i d ≡ Some n
      → next s k h all xs (view n) ≡ Ok x → ys ≡ xs ++ Some x ∷ []
      → left s k h all xs (views (drop i written)) ≡ due → left s k h all ys (views (drop (i + 1) written)) ≡ due
  typed_more xs ys n x d due lt is own e before =
      ap (λ zs. left s k h all zs (views (drop (i + 1) written))) e
      ∙ sym (left_more s k h all xs (view n) (views (drop (i + 1) written)) x own)
      ∙ sym (ap (λ ns. left s k h all xs (views ns)) (drop_step written i (Some n) d lt (sym is))) ∙ before

  pub part_fails : {X Y : Type 0} (shown : X → Parts) (see : Y → Part) (xs : Parts) (n : Node) (e : TypeError) (r : Result X TypeError) (d : Option Node) (due : Result Parts TypeFault) → i < length written → get_or written i d ≡ Some n
      → Gives see refusal_of (Err e) (next s k h all xs (view n)) → r ≡ Err e
      → left s k h all xs (views (drop i written)) ≡ due → Gives shown refusal_of r due
  part_fails shown see xs n errors.Memory r d due lt is g re before = subst (λ z. Gives shown refusal_of z due) (sym re) tt
  part_fails shown see xs n (errors.Fault f) r d due lt is g re before =
      subst (λ z. Gives shown refusal_of z due) (sym re)
      (sym before ∙ ap (λ ns. left s k h all xs (views ns)) (drop_step written i (Some n) d lt (sym is)) ∙ left_fails s k h all xs (view n) (views (drop (i + 1) written)) f g)

-- what the next part is told, and where, in the program's words
pub next_is : (s : Scope) (k : Kind) (h : Hint) (all : Trees) (xs : Parts) (p : Tree) (inner : Scope) (told : Hint) → inner ≡ part_scope s k xs → told ≡ hint s k h all xs (kind_of p) → next s k h all xs p ≡ answer inner told p
next_is s k h all xs p inner told i e = ap (λ z. answer z (hint s k h all xs (kind_of p)) p) (sym i) ∙ ap (λ z. answer inner z p) (sym e)

-- the literals of a part read
pub read_at : (texts : ℕ → List ℕ) (ns : List (Option Node)) (i : ℕ) (n : Node) → slice_get ns i ≡ Some (Some n) → PartsRead texts (views ns) → AllRead texts (view n)
read_at texts [] i n e h = cc
read_at texts (None ∷ ns) zero n e h = cc
read_at texts (Some m ∷ ns) zero n e h = subst (λ z. AllRead texts (view z)) (let s : m ≡ n = cc in s) h.0
read_at texts (None ∷ ns) (suc i) n e h = read_at texts ns i n e h
read_at texts (Some m ∷ ns) (suc i) n e h = read_at texts ns i n e h.1

-- the literals of a node read, and so do those of its parts
pub parts_read : (texts : ℕ → List ℕ) (n : Tree) (ps : Trees) → ps ≡ parts n → AllRead texts n → PartsRead texts ps
parts_read texts (node k i j ps) qs e h = subst (PartsRead texts) (sym e) h.1

pub own_reads : (texts : ℕ → List ℕ) (n : Tree) (k : Kind) (i : ℕ) → k ≡ kind_of n → i ≡ first n → AllRead texts n → Reads texts k i
own_reads texts (node k i j ps) k1 i1 ke ie h = subst (λ z. Reads texts z i1) (sym ke) (subst (Reads texts k) (sym ie) h.0)
