-- Lists of parts: arguments of calls and elements of literals.
use Rattle.std.proofs.Common.{◌≡◌, ◌∙◌, ℕ, true, false, List, [], ◌∷◌, ◌++◌, map, length, Some, None, refl, sym, ap, subst}
use Rattle.std.specs.Prelude.{◌||◌, suc}
use Rattle.std.specs.List.{list_any}
use Rattle.go_grammar.specs.declared.kind.Kind.{Kind}
use Rattle.go_grammar.specs.Rules.{Items, Many, item}
use Rattle.go_grammar.specs.Trees.{Tree, Trees, none, more, skip, kind_of}
use Rattle.go_tokens.specs.declared.token.TokenKind.{TokenKind}
use Rattle.go_types.specs.Relations.{Rights}
use Rattle.go_typed.specs.Trees.{sort_of, label_of, row}
use Rattle.go_exprs_rules.specs.Scopes.{Scope, Hint}
use Rattle.go_exprs_rules.specs.Settling.{Part, Take, given}
use Rattle.go_exprs_rules.specs.Sorts.{is_unknown}
use Rattle.go_exprs_rules.specs.Tables.{Parts, hint, part_scope, present, is_judged, is_lost, all_given}
use Rattle.go_exprs_variables.specs.Shapes.{IsShaped, AreShaped}
use Rattle.go_exprs_variables.specs.Variables.{Standins, is_naming, AllProper, begun, put, Fits, AllFit, WillFit}
use Rattle.go_exprs_variables.proofs.Assembly.{Become, no_more, one}
use Rattle.go_exprs_variables.proofs.Induction.{news, told, PartsFollow}
use Rattle.go_exprs_variables.proofs.Named.{is_operand}
use Rattle.go_exprs_variables.proofs.Operands.{varies_given}
use Rattle.go_exprs_variables.proofs.Quiet.{rights_kept}
use Rattle.go_exprs_variables.proofs.Ready.{Facts, operand_facts, operand_follows}
use Rattle.go_exprs_variables.proofs.Standing.{part_of, behind}
use Rattle.go_exprs_variables.proofs.Waits.{known_first}

abbrev pub each : List Part → Parts
each [] = []
each (x ∷ xs) = Some x ∷ each xs

pub present_each : (xs : List Part) → present (each xs) ≡ xs
present_each [] = refl
present_each (x ∷ xs) = ap (λ ys. x ∷ ys) (present_each xs)

abbrev pub All : (Part → Type 0) → List Part → Type 0
All P [] = Unit {0}
All P (x ∷ xs) = P x × All P xs

-- parts that are judged are known
pub all_known : (xs : List Part) → is_judged (each xs) ≡ true → All (λ x. is_unknown (sort_of x) ≡ false) xs
all_known [] e = tt
all_known (x ∷ xs) e = let both = known_first x (each xs) e in (both.0, all_known xs both.1)

pub known_judged : (xs : List Part) → All (λ x. is_unknown (sort_of x) ≡ false) xs → list_any is_lost (each xs) ≡ false
known_judged [] h = refl
known_judged (x ∷ xs) h = ap (λ b. b || list_any is_lost (each xs)) h.0 ∙ known_judged xs h.1

module _ (w : Standins) where
  abbrev pub all_new : List Part → List Part
  all_new xs = map (λ (x : Part). begun w false x) xs

  pub news_each : (xs : List Part) → news w (each xs) ≡ each (all_new xs)
  news_each [] = refl
  news_each (x ∷ xs) = ap (λ ys. Some (begun w false x) ∷ ys) (news_each xs)

  pub length_new : (xs : List Part) → length (all_new xs) ≡ length xs
  length_new [] = refl
  length_new (x ∷ xs) = ap (λ n. suc n) (length_new xs)

  -- ---- from the trees of a list

  module _ (s : Scope) (k : Kind) (h : Hint) where
    -- typed parts, of which this is known
    pub many_parts : (all : Trees) (xs : Parts) (ps : Trees) (ws : List TokenKind) (l : Items) → ((p : Tree) → IsShaped (item l) p → is_operand (kind_of p) ≡ true) → AreShaped (Many ws l) ps → AllProper w ps
        → (vs : List Part) × (behind s k h all xs ps ≡ each vs) × All (Facts w s.rights) vs
    many_parts all xs none ws l operands e p = ([], refl, tt)
    many_parts all xs (skip ps) ws l operands e p = elim e [ ]
    many_parts all xs (more q ps) ws l operands e p =
        let x = part_of s k h all xs q in
        let rest = many_parts all (xs ++ Some x ∷ []) ps ws l operands e.1 p.1 in (
          x ∷ rest.0,
          ap (λ ys. Some x ∷ ys) rest.1,
          (subst (λ r. Facts w r x) (rights_kept s k xs) (operand_facts w (part_scope s k xs) (hint s k h all xs (kind_of q)) (item l) q e.0 (operands q e.0) p.0), rest.2),
        )

    abbrev pub Fine : Part → Type 0
    Fine x = (is_unknown (sort_of x) ≡ false) × WillFit s.rights w false x

    -- Parts of which each will fit follow.
    pub many_follow : (all : Trees) (xs : Parts) (ps : Trees) (vs : List Part) (ws : List TokenKind) (l : Items) → ((p : Tree) → IsShaped (item l) p → is_operand (kind_of p) ≡ true)
        → ((ys : Parts) (n : Kind) → is_naming (hint s k h all ys n) ≡ false)
        → AreShaped (Many ws l) ps → AllProper w ps → behind s k h all xs ps ≡ each vs → All Fine vs → PartsFollow w s k h all xs ps
    many_follow all xs none vs ws l operands naming e p is fine = tt
    many_follow all xs (skip ps) vs ws l operands naming e p is fine = elim e [ ]
    many_follow all xs (more q ps) [] ws l operands naming e p is fine = cc
    many_follow all xs (more q ps) (v ∷ vs) ws l operands naming e p is fine =
        let x = part_of s k h all xs q in
        let first : x ≡ v = cc in
        let later : behind s k h all (xs ++ Some x ∷ []) ps ≡ each vs = cc in
        let fits : WillFit (part_scope s k xs).rights w false x = subst (λ r. WillFit r w false x) (sym (rights_kept s k xs)) (subst (WillFit s.rights w false) (sym first) fine.0.1) in (
          operand_follows w (part_scope s k xs) (told w s k h all xs q) (item l) q e.0 (operands q e.0) (naming xs (kind_of q)) p.0 (ap (λ z. is_unknown (sort_of z)) first ∙ fine.0.0) fits,
          many_follow all (xs ++ Some x ∷ []) ps vs ws l operands naming e.1 p.1 later fine.1,
        )

  -- ---- what becomes of them

  module _ (rights : Rights) where
    -- A part that is given this: with variables in it it has the calls that it had, is given what it was given, with the variables in it, and is known.
    pub record Passes (k : Take) (x : Part) : Type 0 where
      pub calls : (label_of (begun w false x)).calls ≡ (label_of x).calls
      pub gives : given k (begun w false x) ≡ put w false (given k x)
      pub known : is_unknown (sort_of (begun w false x)) ≡ false

    abbrev pub AllPass : List Take → List Part → Type 0
    AllPass [] [] = Unit {0}
    AllPass [] (x ∷ xs) = ⊥
    AllPass (k ∷ ks) [] = Unit {0}
    AllPass (k ∷ ks) (x ∷ xs) = Passes k x × AllPass ks xs

    pub all_become : (ks : List Take) (xs : List Part) → AllPass ks xs → Become rights w false None (each xs) (all_given ks (each xs)) (each (all_new xs)) (all_given ks (each (all_new xs)))
    all_become [] [] p = no_more
    all_become [] (x ∷ xs) p = absurd p
    all_become (k ∷ ks) [] p = no_more
    all_become (k ∷ ks) (x ∷ xs) p =
        one x (given k x) (begun w false x) (given k (begun w false x)) (each xs) (all_given ks (each xs)) (each (all_new xs)) (all_given ks (each (all_new xs))) p.0.gives p.0.calls (varies_given rights w false k (begun w false x))
        (all_become ks xs p.1)

    pub pass_known : (ks : List Take) (xs : List Part) → AllPass ks xs → list_any is_lost (each (all_new xs)) ≡ false
    pass_known [] [] p = refl
    pass_known [] (x ∷ xs) p = absurd p
    pass_known (k ∷ ks) [] p = refl
    pass_known (k ∷ ks) (x ∷ xs) p = ap (λ b. b || list_any is_lost (each (all_new xs))) p.0.known ∙ pass_known ks xs p.1

    -- each fits once it is given
    abbrev pub AllGiven : List Take → List Part → Type 0
    AllGiven [] xs = Unit {0}
    AllGiven (k ∷ ks) [] = Unit {0}
    AllGiven (k ∷ ks) (x ∷ xs) = Fits w false (given k x) × AllGiven ks xs

    pub all_fit_each : (ks : List Take) (xs : List Part) → AllFit w false (row (all_given ks (each xs))) → length ks ≡ length xs → AllGiven ks xs
    all_fit_each [] [] f e = tt
    all_fit_each [] (x ∷ xs) f e = cc
    all_fit_each (k ∷ ks) [] f e = cc
    all_fit_each (k ∷ ks) (x ∷ xs) f e = (f.0, all_fit_each ks xs f.1 (pred (length ks) (length xs) e))
      where
        pred : (m n : ℕ) → suc m ≡ suc n → m ≡ n
        pred m n e = cc
