-- Nodes that hold names and expressions, in frames whose tokens say the same.
use Rattle.std.proofs.Common.{◌≡◌, ℕ, Bool, if◌then◌else◌, [], ◌∷◌, ◌++◌, Option, Some, None, refl, ap, ◌∙◌}
use Rattle.go_grammar.specs.declared.kind.Kind.{Kind}
use Rattle.go_grammar.specs.declared.kind.Kind.TheVariants as kind
use Rattle.go_grammar.specs.declared.kind.Sort.TheVariants as declaring
use Rattle.go_grammar.specs.Trees.{Tree, node, Trees, none, more, skip, kind_of}
use Rattle.go_typed.specs.Trees as sort
use Rattle.go_exprs_rules.specs.Scopes.{Hint, value}
use Rattle.go_exprs_rules.specs.Settling.{Part}
use Rattle.go_exprs_rules.specs.Tables.{Parts, made}
use Rattle.go_exprs_rules.specs.Typing.{typing, faults}
use Rattle.go_stmts_defs.specs.Frames.{Frame, scope_of}
use Rattle.go_stmts_defs.specs.Laying.{told, layout}
use Rattle.go_stmts_defs.specs.Reading.{is_list, is_declared_name, list_node, name_node, holding, holdings, held_faults, all_held_faults, repeated, repeated_faults, left_out, left_out_faults}
use Rattle.go_package_alike.specs.Frames.{MaybeTokens}
use Rattle.go_package_alike.specs.Scopes.{Says, said, SaidSame, TokenHas, AllTokens, TokensIn}
use Rattle.go_package_alike.proofs.Framed.{framed, with_locals, said_with, name_same, layout_same}
use Rattle.go_package_alike.proofs.Typing as expressions

module _ (p : ℕ → Bool) (m : Says) where
  module _ (f : Frame) (a : SaidSame p (said f.around) m) where
    typing_same : (h : Hint) (t : Tree) → AllTokens p t → typing (scope_of (framed f m)) h t ≡ typing (scope_of f) h t
    typing_same h t w = expressions.typed_same p (with_locals f.locals m) (scope_of f) h t (said_with p m f a) w

    failing_same : (h : Hint) (t : Tree) → AllTokens p t → faults (scope_of (framed f m)) h t ≡ faults (scope_of f) h t
    failing_same h t w = expressions.faults_same p (with_locals f.locals m) (scope_of f) h t (said_with p m f a) w

    -- a declared name, or what is typed by itself
    leaf_same : (k : Kind) (i j : ℕ) (x y : Part) → TokenHas p k i j → x ≡ y → (if is_declared_name k then name_node (framed f m) i j else x) ≡ (if is_declared_name k then name_node f i j else y)
    leaf_same kind.DeclaredName i j x y e h = ap (λ n. made n i j sort.Nothing [] []) (name_same p m f i a e)
    leaf_same k i j x y e h = h

    list_same : (k : Kind) (i j : ℕ) (xs ys : Parts) → TokenHas p k i j → xs ≡ ys → list_node (framed f m) k i j (layout (framed f m) k i xs) ≡ list_node f k i j (layout f k i ys)
    list_same k i j xs ys e h = ap (λ zs. list_node f k i j (layout (framed f m) k i zs)) h ∙ ap (λ zs. list_node f k i j zs) (layout_same p m f k i j ys a e)

    mutual
      pub holding_same : (h : Hint) (t : Tree) → AllTokens p t → holding (framed f m) h t ≡ holding f h t
      holding_same h (node k i j ps) w =
          ap (λ x. if is_list k then x else (if is_declared_name k then name_node (framed f m) i j else typing (scope_of (framed f m)) h (node k i j ps)))
          (list_same k i j (holdings (framed f m) k h ps [] ps) (holdings f k h ps [] ps) w.0 (holdings_same k h ps [] ps w.1))
          ∙ ap (λ x. if is_list k then list_node f k i j (layout f k i (holdings f k h ps [] ps)) else x)
          (leaf_same k i j (typing (scope_of (framed f m)) h (node k i j ps)) (typing (scope_of f) h (node k i j ps)) w.0 (typing_same h (node k i j ps) w))

      holdings_same : (k : Kind) (h : Hint) (all : Trees) (xs : Parts) (ts : Trees) → TokensIn p ts → holdings (framed f m) k h all xs ts ≡ holdings f k h all xs ts
      holdings_same k h all xs none w = refl
      holdings_same k h all xs (more t ts) w =
          ap (λ x. holdings (framed f m) k h all (xs ++ Some x ∷ []) ts) (holding_same (told k h all xs (kind_of t)) t w.0)
          ∙ holdings_same k h all (xs ++ Some (holding f (told k h all xs (kind_of t)) t) ∷ []) ts w.1
      holdings_same k h all xs (skip ts) w = holdings_same k h all (xs ++ None ∷ []) ts w

    mutual
      pub held_same : (h : Hint) (t : Tree) → AllTokens p t → held_faults (framed f m) h t ≡ held_faults f h t
      held_same h (node k i j ps) w =
          ap (λ x. if is_list k then x else (if is_declared_name k then [] else faults (scope_of (framed f m)) h (node k i j ps))) (all_held_same k h ps [] ps w.1)
          ∙ ap (λ x. if is_list k then all_held_faults f k h ps [] ps else (if is_declared_name k then [] else x)) (failing_same h (node k i j ps) w)

      all_held_same : (k : Kind) (h : Hint) (all : Trees) (xs : Parts) (ts : Trees) → TokensIn p ts → all_held_faults (framed f m) k h all xs ts ≡ all_held_faults f k h all xs ts
      all_held_same k h all xs none w = refl
      all_held_same k h all xs (more t ts) w =
          let to = told k h all xs (kind_of t) in
          ap (λ fs. fs ++ all_held_faults (framed f m) k h all (xs ++ Some (holding (framed f m) to t) ∷ []) ts) (held_same to t w.0)
          ∙ ap (λ x. held_faults f to t ++ all_held_faults (framed f m) k h all (xs ++ Some x ∷ []) ts) (holding_same to t w.0)
          ∙ ap (λ fs. held_faults f to t ++ fs) (all_held_same k h all (xs ++ Some (holding f to t) ∷ []) ts w.1)
      all_held_same k h all xs (skip ts) w = all_held_same k h all (xs ++ None ∷ []) ts w

    -- ---- what constants repeat

    repeated_same : (o : Option Tree) → MaybeTokens p o → repeated (framed f m) o ≡ repeated f o
    repeated_same None w = refl
    repeated_same (Some t) w = ap (λ x. Some x) (holding_same value t w)

    repeated_faults_same : (o : Option Tree) → MaybeTokens p o → repeated_faults (framed f m) o ≡ repeated_faults f o
    repeated_faults_same None w = refl
    repeated_faults_same (Some t) w = held_same value t w

    pub left_out_same : (k : Kind) → MaybeTokens p f.source → left_out (framed f m) k ≡ left_out f k
    left_out_same (kind.Specification declaring.Constant) w = repeated_same f.source w
    left_out_same k w = refl

    pub left_out_faults_same : (k : Kind) → MaybeTokens p f.source → left_out_faults (framed f m) k ≡ left_out_faults f k
    left_out_faults_same (kind.Specification declaring.Constant) w = repeated_faults_same f.source w
    left_out_faults_same k w = refl
