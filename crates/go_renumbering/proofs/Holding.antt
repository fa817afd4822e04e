-- Parts without statements, with other numbers of declared types.
use Rattle.std.proofs.Common.{◌≡◌, ◌∙◌, ℕ, Bool, true, false, [], ◌∷◌, ◌++◌, Option, Some, None, refl, sym, ap, cond}
use Rattle.std.proofs.lemmas.List.{map-append}
use Rattle.go_grammar.specs.declared.kind.Kind.{Kind}
use Rattle.go_grammar.specs.Trees.{Tree, node, Trees, none, more, skip, kind_of}
use Rattle.go_typed.specs.declared.form.Form.TheVariants as form
use Rattle.go_typed.specs.Trees as sort
use Rattle.go_exprs_rules.specs.Names.{declared_form}
use Rattle.go_exprs_rules.specs.Scopes.{Hint}
use Rattle.go_exprs_rules.specs.Settling.{Part}
use Rattle.go_exprs_rules.specs.Tables.{Parts, made}
use Rattle.go_exprs_rules.specs.Typing.{typing, faults}
use Rattle.go_stmts_defs.specs.Frames.{Frame, scope_of}
use Rattle.go_stmts_defs.specs.Laying.{told, layout}
use Rattle.go_stmts_defs.specs.Reading.{Found, is_list, is_declared_name, list_node, name_node, holding, holdings, held_faults, all_held_faults}
use Rattle.go_renumbering.specs.Renumbered.{part_renamed, hint_renamed}
use Rattle.go_renumbering.proofs.Nodes.{made_kept}
use Rattle.go_renumbering.proofs.Parts.{optional, parts}
use Rattle.go_renumbering.proofs.Typing.{typing_kept, faults_kept}
use Rattle.go_renumbering.specs.Frames.{RenamedFrames}
use Rattle.go_renumbering.proofs.Arranging.{told_kept, layout_kept}
use Rattle.go_renumbering.proofs.Framed.{name_form_same, scopes_renamed}

three : {A B : Type 0} (p : A → B) (a b : Bool) (x y z : A) (u v w : B) → u ≡ p x → v ≡ p y → w ≡ p z → cond a u (cond b v w) ≡ p (cond a x (cond b y z))
three p true b x y z u v w e f g = e
three p false true x y z u v w e f g = f
three p false false x y z u v w e f g = g

module _ (name : ℕ → ℕ) where
  pub grown : (xs : Parts) (x : Option Part) → parts name xs ++ optional name x ∷ [] ≡ parts name (xs ++ x ∷ [])
  grown xs x = sym (map-append (optional name) xs (x ∷ []))

  module _ (f g : Frame) (c : RenamedFrames name f g) where
    abbrev now : Hint → Hint
    now h = hint_renamed name h

    name_node_kept : (i j : ℕ) → name_node g i j ≡ part_renamed name (name_node f i j)
    name_node_kept i j = ap (λ z. made z i j sort.Nothing [] []) (name_form_same name f g c i) ∙ made_kept name (declared_form f.around (f.around.objects i)) i j sort.Nothing [] []

    list_node_kept : (k : Kind) (i j : ℕ) (us xs : Parts) → us ≡ parts name xs → list_node g k i j (layout g k i us) ≡ part_renamed name (list_node f k i j (layout f k i xs))
    list_node_kept k i j us xs e =
        ap (λ ys. list_node g k i j (layout g k i ys)) e ∙ ap (list_node g k i j) (layout_kept name f g c k i xs) ∙ made_kept name (form.Held k) i j sort.Nothing (layout f k i xs) (layout f k i xs)

    abbrev held_part : Frame → Kind → Hint → Trees → Parts → Tree → Part
    held_part s k h all xs x = holding s (told k h all xs (kind_of x)) x

    told_part : (k : Kind) (h : Hint) (all : Trees) (xs : Parts) (x : Tree) → holding g (now (told k h all xs (kind_of x))) x ≡ part_renamed name (held_part f k h all xs x)
        → held_part g k (now h) all (parts name xs) x ≡ part_renamed name (held_part f k h all xs x)
    told_part k h all xs x e = ap (λ z. holding g z x) (told_kept name k h all xs (kind_of x)) ∙ e

    mutual
      pub holding_kept : (h : Hint) (x : Tree) → holding g (now h) x ≡ part_renamed name (holding f h x)
      holding_kept h (node k i j ps) =
          three (part_renamed name) (is_list k) (is_declared_name k) (list_node f k i j (layout f k i (holdings f k h ps [] ps))) (name_node f i j) (typing (scope_of f) h (node k i j ps))
          (list_node g k i j (layout g k i (holdings g k (now h) ps [] ps))) (name_node g i j) (typing (scope_of g) (now h) (node k i j ps))
          (list_node_kept k i j (holdings g k (now h) ps [] ps) (holdings f k h ps [] ps) (holdings_kept k h ps [] ps)) (name_node_kept i j)
          (typing_kept name (scope_of f) (scope_of g) (scopes_renamed name f g c) h (node k i j ps))

      pub holdings_kept : (k : Kind) (h : Hint) (all : Trees) (xs : Parts) (ps : Trees) → holdings g k (now h) all (parts name xs) ps ≡ parts name (holdings f k h all xs ps)
      holdings_kept k h all xs none = refl
      holdings_kept k h all xs (skip ps) = ap (λ ys. holdings g k (now h) all ys ps) (grown xs None) ∙ holdings_kept k h all (xs ++ None ∷ []) ps
      holdings_kept k h all xs (more x ps) =
          ap (λ y. holdings g k (now h) all (parts name xs ++ Some y ∷ []) ps) (told_part k h all xs x (holding_kept (told k h all xs (kind_of x)) x))
          ∙ ap (λ ys. holdings g k (now h) all ys ps) (grown xs (Some (held_part f k h all xs x))) ∙ holdings_kept k h all (xs ++ Some (held_part f k h all xs x) ∷ []) ps

    abbrev itself : Found → Found
    itself fs = fs

    mutual
      pub held_faults_kept : (h : Hint) (x : Tree) → held_faults g (now h) x ≡ held_faults f h x
      held_faults_kept h (node k i j ps) =
          three itself (is_list k) (is_declared_name k) (all_held_faults f k h ps [] ps) [] (faults (scope_of f) h (node k i j ps))
          (all_held_faults g k (now h) ps [] ps) [] (faults (scope_of g) (now h) (node k i j ps)) (all_held_kept k h ps [] ps) refl
          (faults_kept name (scope_of f) (scope_of g) (scopes_renamed name f g c) h (node k i j ps))

      all_held_kept : (k : Kind) (h : Hint) (all : Trees) (xs : Parts) (ps : Trees) → all_held_faults g k (now h) all (parts name xs) ps ≡ all_held_faults f k h all xs ps
      all_held_kept k h all xs none = refl
      all_held_kept k h all xs (skip ps) = ap (λ ys. all_held_faults g k (now h) all ys ps) (grown xs None) ∙ all_held_kept k h all (xs ++ None ∷ []) ps
      all_held_kept k h all xs (more x ps) =
          let own : Found = held_faults f (told k h all xs (kind_of x)) x in
          ap (λ z. held_faults g z x ++ all_held_faults g k (now h) all (parts name xs ++ Some (held_part g k (now h) all (parts name xs) x) ∷ []) ps) (told_kept name k h all xs (kind_of x))
          ∙ ap (λ fs. fs ++ all_held_faults g k (now h) all (parts name xs ++ Some (held_part g k (now h) all (parts name xs) x) ∷ []) ps) (held_faults_kept (told k h all xs (kind_of x)) x)
          ∙ ap (λ y. own ++ all_held_faults g k (now h) all (parts name xs ++ Some y ∷ []) ps) (told_part k h all xs x (holding_kept (told k h all xs (kind_of x)) x))
          ∙ ap (λ ys. own ++ all_held_faults g k (now h) all ys ps) (grown xs (Some (held_part f k h all xs x)))
          ∙ ap (λ fs. own ++ fs) (all_held_kept k h all (xs ++ Some (held_part f k h all xs x) ∷ []) ps)
