-- Parts without statements at their new places.
use Rattle.std.proofs.Common.{◌≡◌, ◌∙◌, ℕ, suc, Bool, true, false, List, [], ◌∷◌, ◌++◌, map, Option, Some, None, refl, sym, ap, cond}
use Rattle.std.specs.Prelude.{if◌then◌else◌, nat_lt}
use Rattle.std.proofs.lemmas.List.{map-append}
use Rattle.go_grammar.specs.declared.kind.Kind.{Kind}
use Rattle.go_grammar.specs.declared.kind.Kind.TheVariants as kind
use Rattle.go_grammar.specs.declared.kind.Sort.TheVariants as declaring
use Rattle.go_grammar.specs.Grammar.{count}
use Rattle.go_grammar.specs.Trees.{Tree, node, Trees, none, more, skip, kind_of}
use Rattle.go_rewriting.specs.Places.{carry, carries}
use Rattle.go_typed.specs.declared.form.Form.TheVariants as form
use Rattle.go_typed.specs.Trees as sort
use Rattle.go_exprs_rules.specs.Names.{declared_form}
use Rattle.go_exprs_rules.specs.declared.fault.TypeFault.{TypeFault}
use Rattle.go_exprs_rules.specs.Scopes.{Hint, value, several, type_place}
use Rattle.go_exprs_rules.specs.Settling.{Part}
use Rattle.go_exprs_rules.specs.Tables.{Parts, made}
use Rattle.go_exprs_rules.specs.Typing.{typing, faults}
use Rattle.go_stmts_defs.specs.Frames.{Frame, scope_of}
use Rattle.go_stmts_defs.specs.Laying.{alone_or_value, specification_told, first_then, told, layout}
use Rattle.go_stmts_defs.specs.Reading.{Found, is_list, is_declared_name, list_node, name_node, holding, holdings, held_faults, all_held_faults}
use Rattle.go_exprs_elsewhere.specs.Elsewhere.{Moves, form_moved, placed, fault_placed, KeepsSpelling, AllKeepSpelling}
use Rattle.go_exprs_elsewhere.proofs.Public.{optional, parts, made_kept, typed_elsewhere}
use Rattle.go_stmts_elsewhere.specs.Frames.{faults_placed, PlaceKept, AlongFrames, Named}
use Rattle.go_stmts_elsewhere.proofs.Arranging.{layout_along, layout_is_named}
use Rattle.go_stmts_elsewhere.proofs.Naming.{branch, AllNamed, both_named, made_named, declared_named, typing_named}
use Rattle.go_stmts_elsewhere.proofs.Placing.{declared_along, all_count, scopes_along}

module _ (m : Moves) where
  -- ---- what parts are told

  kind_along : (t : Tree) → kind_of (carry m.token t) ≡ kind_of t
  kind_along (node k i j ps) = refl

  counted : (ps : Trees) → count (carries m.token ps) ≡ count ps
  counted none = refl
  counted (more t ps) = ap suc (counted ps)
  counted (skip ps) = ap suc (counted ps)

  alone_along : (ps : Trees) (h : Hint) → alone_or_value (carries m.token ps) h ≡ alone_or_value ps h
  alone_along ps several = ap (λ n. if nat_lt 1 n then value else several) (counted ps)
  alone_along ps h = refl

  specified_along : (h : Hint) (xs : Parts) (k : Kind) → specification_told h (parts m xs) k ≡ specification_told h xs k
  specified_along h [] k = refl
  specified_along h (x ∷ xs) k = refl

  first_along : (g h : Hint) (xs : Parts) → first_then g h (parts m xs) ≡ first_then g h xs
  first_along g h [] = refl
  first_along g h (x ∷ xs) = refl

  told_along : (k : Kind) (h : Hint) (ps : Trees) (xs : Parts) (n : Kind) → told k h (carries m.token ps) (parts m xs) n ≡ told k h ps xs n
  told_along (kind.Specification declaring.Type) h ps xs n = refl
  told_along (kind.Specification declaring.Variable) h ps xs n = specified_along several xs n
  told_along (kind.Specification declaring.Constant) h ps xs n = specified_along value xs n
  told_along kind.TypedValues h ps xs n = first_along type_place h xs
  told_along kind.ExpressionList h ps xs n = alone_along ps h
  told_along kind.Assignment h ps xs n = first_along _ several xs
  told_along kind.Define h ps xs n = first_along _ several xs
  told_along k h ps xs n = refl

  pub part_told : (k : Kind) (h : Hint) (ps : Trees) (xs : Parts) (x : Tree) → told k h (carries m.token ps) (parts m xs) (kind_of (carry m.token x)) ≡ told k h ps xs (kind_of x)
  part_told k h ps xs x = ap (told k h (carries m.token ps) (parts m xs)) (kind_along x) ∙ told_along k h ps xs (kind_of x)

  pub grown : (xs : Parts) (x : Option Part) → parts m xs ++ optional m x ∷ [] ≡ parts m (xs ++ x ∷ [])
  grown xs x = sym (map-append (optional m) xs (x ∷ []))

  -- ---- in two frames

  module _ (l : ℕ → Bool) (f g : Frame) (c : AlongFrames m l f g) where
    name_node_along : (i j : ℕ) → name_node g (m.token i) (m.token j) ≡ placed m (name_node f i j)
    name_node_along i j = ap (λ z. made z (m.token i) (m.token j) sort.Nothing [] []) (name_along i) ∙ made_kept m (declared_form f.around (f.around.objects i)) i j sort.Nothing [] []
      where
        name_along : (i : ℕ) → declared_form g.around (g.around.objects (m.token i)) ≡ form_moved m (declared_form f.around (f.around.objects i))
        name_along i = declared_along m l f g c (f.around.objects i) (g.around.objects (m.token i)) (c.objects i)

    abbrev held_part : Kind → Hint → Trees → Parts → Tree → Part
    held_part k h all xs x = holding f (told k h all xs (kind_of x)) x

    abbrev moved_part : Kind → Hint → Trees → Parts → Tree → Part
    moved_part k h all xs x = holding g (told k h (carries m.token all) (parts m xs) (kind_of (carry m.token x))) (carry m.token x)

    told_part : (k : Kind) (h : Hint) (all : Trees) (xs : Parts) (x : Tree) → holding g (told k h all xs (kind_of x)) (carry m.token x) ≡ placed m (held_part k h all xs x)
        → moved_part k h all xs x ≡ placed m (held_part k h all xs x)
    told_part k h all xs x e = ap (λ z. holding g z (carry m.token x)) (part_told k h all xs x) ∙ e

    by_kind : {A B : Type 0} (p : A → B) (a b : Bool) (x y z : A) (u v w : B) → (a ≡ true → u ≡ p x) → v ≡ p y → w ≡ p z → cond a u (cond b v w) ≡ p (cond a x (cond b y z))
    by_kind p true b x y z u v w d e k = d refl
    by_kind p false true x y z u v w d e k = e
    by_kind p false false x y z u v w d e k = k

    -- ---- the locals that these parts name

    mutual
      pub holding_named : (h : Hint) (x : Tree) → Named l (holding f h x)
      holding_named h (node k i j ps) =
          branch (Named l) (is_list k) (list_node f k i j (layout f k i (holdings f k h ps [] ps))) (cond (is_declared_name k) (name_node f i j) (typing (scope_of f) h (node k i j ps)))
          (made_named l (form.Held k) i j sort.Nothing (layout f k i (holdings f k h ps [] ps)) (layout f k i (holdings f k h ps [] ps)) tt
          (layout_is_named l f (all_count m l f g c) k i (holdings f k h ps [] ps) (holdings_named k h ps [] tt ps)))
          (branch (Named l) (is_declared_name k) (name_node f i j) (typing (scope_of f) h (node k i j ps))
          (made_named l (declared_form f.around (f.around.objects i)) i j sort.Nothing [] [] (declared_named l f.around (f.around.objects i) (all_count m l f g c i)) tt)
          (typing_named l (scope_of f) (all_count m l f g c) h (node k i j ps)))

      holdings_named : (k : Kind) (h : Hint) (all : Trees) (xs : Parts) → AllNamed l xs → (ps : Trees) → AllNamed l (holdings f k h all xs ps)
      holdings_named k h all xs a none = a
      holdings_named k h all xs a (skip ps) = holdings_named k h all (xs ++ None ∷ []) (both_named l xs (None ∷ []) a tt) ps
      holdings_named k h all xs a (more x ps) =
          holdings_named k h all (xs ++ Some (held_part k h all xs x) ∷ []) (both_named l xs (Some (held_part k h all xs x) ∷ []) a (holding_named (told k h all xs (kind_of x)) x, tt)) ps

    -- a list is no place of its own
    list_place : (k : Kind) (i j : ℕ) → is_list k ≡ true → PlaceKept m k i j
    list_place (kind.Specification declaring.Type) i j e = cc
    list_place kind.FunctionDeclaration i j e = cc
    list_place k i j e = tt

    mutual
      pub holding_along : (h : Hint) (x : Tree) → KeepsSpelling m x → holding g h (carry m.token x) ≡ placed m (holding f h x)
      holding_along h (node k i j ps) w =
          by_kind (placed m) (is_list k) (is_declared_name k) (list_node f k i j (layout f k i (holdings f k h ps [] ps))) (name_node f i j) (typing (scope_of f) h (node k i j ps))
          (list_node g k (m.token i) (m.token j) (layout g k (m.token i) (holdings g k h (carries m.token ps) [] (carries m.token ps)))) (name_node g (m.token i) (m.token j)) (typing (scope_of g) h (carry m.token (node k i j ps)))
          (λ e. ap (λ ys. list_node g k (m.token i) (m.token j) (layout g k (m.token i) ys)) (holdings_along k h ps [] ps w.1)
          ∙ ap (list_node g k (m.token i) (m.token j)) (layout_along m l f g c k i j (holdings f k h ps [] ps) (holdings_named k h ps [] tt ps) (list_place k i j e))
          ∙ made_kept m (form.Held k) i j sort.Nothing (layout f k i (holdings f k h ps [] ps)) (layout f k i (holdings f k h ps [] ps)))
          (name_node_along i j)
          ((typed_elsewhere m (scope_of f) (scope_of g) h (node k i j ps) (scopes_along m l f g c) w).typed)

      holdings_along : (k : Kind) (h : Hint) (all : Trees) (xs : Parts) (ps : Trees) → AllKeepSpelling m ps → holdings g k h (carries m.token all) (parts m xs) (carries m.token ps) ≡ parts m (holdings f k h all xs ps)
      holdings_along k h all xs none w = refl
      holdings_along k h all xs (skip ps) w = ap (λ ys. holdings g k h (carries m.token all) ys (carries m.token ps)) (grown xs None) ∙ holdings_along k h all (xs ++ None ∷ []) ps w
      holdings_along k h all xs (more x ps) w =
          ap (λ y. holdings g k h (carries m.token all) (parts m xs ++ Some y ∷ []) (carries m.token ps)) (told_part k h all xs x (holding_along (told k h all xs (kind_of x)) x w.0))
          ∙ ap (λ ys. holdings g k h (carries m.token all) ys (carries m.token ps)) (grown xs (Some (held_part k h all xs x))) ∙ holdings_along k h all (xs ++ Some (held_part k h all xs x) ∷ []) ps w.1

    mutual
      pub held_faults_along : (h : Hint) (x : Tree) → KeepsSpelling m x → held_faults g h (carry m.token x) ≡ faults_placed m (held_faults f h x)
      held_faults_along h (node k i j ps) w =
          by_kind (faults_placed m) (is_list k) (is_declared_name k) (all_held_faults f k h ps [] ps) [] (faults (scope_of f) h (node k i j ps))
          (all_held_faults g k h (carries m.token ps) [] (carries m.token ps)) [] (faults (scope_of g) h (carry m.token (node k i j ps))) (λ e. all_held_along k h ps [] ps w.1) refl
          ((typed_elsewhere m (scope_of f) (scope_of g) h (node k i j ps) (scopes_along m l f g c) w).failing)

      all_held_along : (k : Kind) (h : Hint) (all : Trees) (xs : Parts) (ps : Trees) → AllKeepSpelling m ps → all_held_faults g k h (carries m.token all) (parts m xs) (carries m.token ps) ≡ faults_placed m (all_held_faults f k h all xs ps)
      all_held_along k h all xs none w = refl
      all_held_along k h all xs (skip ps) w = ap (λ ys. all_held_faults g k h (carries m.token all) ys (carries m.token ps)) (grown xs None) ∙ all_held_along k h all (xs ++ None ∷ []) ps w
      all_held_along k h all xs (more x ps) w =
          let own : Found = held_faults f (told k h all xs (kind_of x)) x in
          let after : Parts → Found = λ ys. all_held_faults g k h (carries m.token all) ys (carries m.token ps) in
          let here : held_faults g (told k h (carries m.token all) (parts m xs) (kind_of (carry m.token x))) (carry m.token x) ≡ faults_placed m own =
          ap (λ z. held_faults g z (carry m.token x)) (part_told k h all xs x) ∙ held_faults_along (told k h all xs (kind_of x)) x w.0 in
          let there : after (parts m xs ++ Some (moved_part k h all xs x) ∷ []) ≡ faults_placed m (all_held_faults f k h all (xs ++ Some (held_part k h all xs x) ∷ []) ps) =
          ap (λ y. after (parts m xs ++ Some y ∷ [])) (told_part k h all xs x (holding_along (told k h all xs (kind_of x)) x w.0))
          ∙ ap after (grown xs (Some (held_part k h all xs x))) ∙ all_held_along k h all (xs ++ Some (held_part k h all xs x) ∷ []) ps w.1 in
          ap (λ gs. gs ++ after (parts m xs ++ Some (moved_part k h all xs x) ∷ [])) here
          ∙ ap (λ gs. faults_placed m own ++ gs) there
          ∙ sym (map-append (λ (gs : List TypeFault). map (fault_placed m) gs) own (all_held_faults f k h all (xs ++ Some (held_part k h all xs x) ∷ []) ps))
