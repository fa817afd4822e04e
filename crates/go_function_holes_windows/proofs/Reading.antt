-- Statements that are read: the induction.
use Rattle.std.proofs.Common.{◌≡◌, ◌∙◌, ℕ, suc, Bool, true, false, if◌then◌else◌, [], ◌∷◌, ◌++◌, Option, Some, None, refl, sym, ap, subst, append_assoc, append-nil}
use Rattle.go_grammar.specs.declared.kind.Category.{Category}
use Rattle.go_grammar.specs.declared.kind.Kind.{Kind}
use Rattle.go_grammar.specs.declared.kind.Kind.TheVariants as kind
use Rattle.go_grammar.specs.declared.kind.Sort.TheVariants as declaring
use Rattle.go_grammar.specs.Categories.{place_of}
use Rattle.go_grammar.specs.Grammar.{rule}
use Rattle.go_grammar.specs.Rules.{Rule}
use Rattle.go_grammar.specs.Trees.{Tree, node, Trees, none, more, skip, kind_of}
use Rattle.go_rewriting.specs.Replacing.{next_category, next_rule}
use Rattle.go_exprs_rules.specs.Scopes.{Hint}
use Rattle.go_exprs_rules.specs.Settling.{Part}
use Rattle.go_exprs_rules.specs.Tables.{Parts}
use Rattle.go_stmts_defs.specs.Frames.{Frame}
use Rattle.go_stmts_defs.specs.Laying.{told, layout, form_by}
use Rattle.go_stmts_defs.specs.Reading.{Found, Reading, read, Readings, all_read, reading, readings, after, entering, beginning, closed, left_out, left_out_faults, repeated, is_statement, holding, held_faults}
use Rattle.go_stmts_defs.specs.Rules.{own_faults}
use Rattle.go_stmts_final_types.specs.Names.{frame_in, parts_in, frame_all}
use Rattle.go_stmts_final_types.specs.Shapes.{IsShaped, AreShaped}
use Rattle.extract_names_derived.specs.Holes.{gives_operands}
use Rattle.go_function_trees.specs.Lists.{Faultless, parts_behind, tree_in, found_in}
use Rattle.go_function_holes.proofs.Public.{back-faultless, behind-asked, behind-more, behind-skip, behind-there, front-faultless, rules-next, rules_behind, shaped-more, shaped-skip}
use Rattle.go_function_holes_windows.proofs.Read.{LeftOut, PartAs, ReadAs, RowAs, row-end, row-more, row-skip}
use Rattle.go_function_holes_windows.proofs.Layouts.{node_of}
use Rattle.go_function_holes_windows.proofs.Holding.{RowsAs, holding-as}
use Rattle.go_function_holes_windows.proofs.Nodes.{kind-as, node-as}

-- ---- readings

abbrev found_all : Readings → Found
found_all (all_read xs fs s) = fs

after-is : (r : Reading) (next : Part → Found → Frame → Readings) → after r next ≡ next (tree_in r) (found_in r) (frame_in r)
after-is (read x fs s) next = refl

closed-tree : (before : Frame) (k : Kind) (i j : ℕ) (ps : Trees) (r : Readings) → tree_in (closed before k i j ps r) ≡ node_of (frame_all r) k i j (parts_in r)
closed-tree before k i j ps (all_read xs fs s) = refl

closed-found : (before : Frame) (k : Kind) (i j : ℕ) (ps : Trees) (r : Readings) → found_in (closed before k i j ps r) ≡ found_all r ++ own_faults (frame_all r) k (form_by k (parts_in r)) i j (layout (frame_all r) k i (parts_in r)) ∷ []
closed-found before k i j ps (all_read xs fs s) = refl

-- what fails nowhere in a row fails nowhere in front of it
row-front : (s : Frame) (k : Kind) (h : Hint) (all : Trees) (xs : Parts) (fs : Found) (ps : Trees) → Faultless (found_all (readings s k h all xs fs ps)) → Faultless fs
row-front s k h all xs fs none f = f
row-front s k h all xs fs (more p ps) f =
    let q = reading (entering k xs s) (told k h all xs (kind_of p)) p in
    front-faultless fs (found_in q) (row-front (frame_in q) k h all (xs ++ Some (tree_in q) ∷ []) (fs ++ found_in q) ps
    (subst (λ z. Faultless (found_all z)) (after-is q (λ x gs t. readings t k h all (xs ++ Some x ∷ []) (fs ++ gs) ps)) f))
row-front s k h all xs fs (skip ps) f =
    let t = entering k xs s in
    front-faultless fs (left_out_faults t k) (row-front t k h all (xs ++ left_out t k ∷ []) (fs ++ left_out_faults t k) ps f)

repeated-out : (s : Frame) (o : Option Tree) → LeftOut (kind.Specification declaring.Constant) (repeated s o)
repeated-out s None = tt
repeated-out s (Some r) = refl

left-out : (s : Frame) (k : Kind) → LeftOut k (left_out s k)
left-out s (kind.Specification declaring.Constant) = repeated-out s s.source
left-out s (kind.Specification declaring.Variable) = tt
left-out s (kind.Specification declaring.Type) = tt
left-out s k = tt

-- ---- one statement over its parts

statement-as : (o : Bool) (s : Frame) (h : Hint) (c : Category) (k : Kind) (i j : ℕ) (ps : Trees) → is_statement k ≡ true → IsShaped c (node k i j ps) → let r = readings (beginning k i s) k h ps [] [] ps in
    (Faultless (found_all r) → RowsAs c k h ps (rule (place_of c) k) 0 [] (parts_in r)) → Faultless (found_in (closed s k i j ps r)) → ReadAs o c h (node k i j ps) (tree_in (closed s k i j ps r))
statement-as o s h c k i j ps m w rows f =
    let r = readings (beginning k i s) k h ps [] [] ps in
    let t = frame_all r in
    let xs = parts_in r in
    let own = own_faults t k (form_by k xs) i j (layout t k i xs) in
    let all : Faultless (found_all r ++ own ∷ []) = subst Faultless (closed-found s k i j ps r) f in
    let found = rows (front-faultless (found_all r) (own ∷ []) all) in
    let unfailing = back-faultless (found_all r) (own ∷ []) all in
    let row = subst (RowAs c k h ps (rule (place_of c) k) 0 []) (sym found.1) found.2 in
    subst (ReadAs o c h (node k i j ps)) (sym (closed-tree s k i j ps r)) (kind-as o h k i j ps (node_of t k i j xs) m c w.0 (node-as o c t h i j ps k xs m row unfailing.0))

over-as : (o : Bool) (s : Frame) (h : Hint) (c : Category) (k : Kind) (i j : ℕ) (ps : Trees) (b : Bool) → is_statement k ≡ b → IsShaped c (node k i j ps) → let r = readings (beginning k i s) k h ps [] [] ps in
    (Faultless (found_all r) → RowsAs c k h ps (rule (place_of c) k) 0 [] (parts_in r))
    → let x = if b then closed s k i j ps r else read (holding s h (node k i j ps)) (held_faults s h (node k i j ps)) s in Faultless (found_in x) → ReadAs o c h (node k i j ps) (tree_in x)
over-as o s h c k i j ps true m w rows f = statement-as o s h c k i j ps m w rows f
over-as o s h c k i j ps false m w rows f = holding-as o s h c (node k i j ps) m w f

mutual
  pub reading-as : (o : Bool) (s : Frame) (h : Hint) (c : Category) (t : Tree) → IsShaped c t → Faultless (found_in (reading s h t)) → ReadAs o c h t (tree_in (reading s h t))
  reading-as o s h c (node k i j ps) w f = over-as o s h c k i j ps (is_statement k) refl w (λ g. readings-row c k h ps (beginning k i s) 0 (rule (place_of c) k) [] [] ps refl refl w.1 g) f

  readings-row : (c : Category) (k : Kind) (h : Hint) (all : Trees) (s : Frame) (n : ℕ) (r : Rule) (xs : Parts) (fs : Found) (ps : Trees) → parts_behind n all ≡ ps → rules_behind n (rule (place_of c) k) ≡ r → AreShaped r ps
      → Faultless (found_all (readings s k h all xs fs ps)) → RowsAs c k h all r n xs (parts_in (readings s k h all xs fs ps))
  readings-row c k h all s n r xs fs none at a w f = ([], sym (append-nil xs), row-end c k h all r n xs w)
  readings-row c k h all s n r xs fs (more p ps) at a w f =
      let u = entering k xs s in
      let g = told k h all xs (kind_of p) in
      let q = reading u g p in
      let x = tree_in q in
      let v = shaped-more r p ps w in
      let same = after-is q (λ y gs t. readings t k h all (xs ++ Some y ∷ []) (fs ++ gs) ps) in
      let later : Faultless (found_all (readings (frame_in q) k h all (xs ++ Some x ∷ []) (fs ++ found_in q) ps)) = subst (λ z. Faultless (found_all z)) same f in
      let here = back-faultless fs (found_in q) (row-front (frame_in q) k h all (xs ++ Some x ∷ []) (fs ++ found_in q) ps later) in
      let rest = readings-row c k h all (frame_in q) (suc n) (next_rule r) (xs ++ Some x ∷ []) (fs ++ found_in q) ps (behind-more n all p ps at) (rules-next n (rule (place_of c) k) ∙ ap next_rule a) v.1 later in
      let part : PartAs c k h all n (next_category r) xs x = record {
        stood = p;
        at = λ z. record { there = behind-there n all p ps at; asked = behind-asked n (rule (place_of c) k) all p ps at ∙ ap (λ d. Some (next_category d)) a; holds = z };
        read = reading-as (gives_operands k n) u g (next_category r) p v.0 here;
      } in
      (Some x ∷ rest.0, ap parts_in same ∙ (rest.1 ∙ append_assoc xs (Some x ∷ []) rest.0), row-more c k h all r n xs p ps x rest.0 w part rest.2)
  readings-row c k h all s n r xs fs (skip ps) at a w f =
      let t = entering k xs s in
      let x = left_out t k in
      let rest = readings-row c k h all t (suc n) (next_rule r) (xs ++ x ∷ []) (fs ++ left_out_faults t k) ps (behind-skip n all ps at) (rules-next n (rule (place_of c) k) ∙ ap next_rule a) (shaped-skip r ps w) f in
      (x ∷ rest.0, rest.1 ∙ append_assoc xs (x ∷ []) rest.0, row-skip c k h all r n xs ps x rest.0 w (left-out t k) rest.2)
