-- The worked examples, by computing.
use Rattle.std.proofs.Common.{◌≡◌, ◌∙◌, ℕ, suc, zero, Bool, List, [], ◌++◌, ◌∷◌, codes, refl, ap, arith}
use Rattle.std.proofs.lemmas.Fmt.{decimal_digit}
use Rattle.std.specs.Fmt.{decimal}
use Rattle.std.specs.Prelude.{if◌then◌else◌}
use Rattle.go_tokens.specs.Spellings.{keywords}
use Rattle.go_tree.specs.declared.node.Node.{Node}
use Rattle.go_tree.specs.Predeclared.{known_names, unknown_names}
use Rattle.extract_texts.specs.Examples.{Examples, taken}
use Rattle.extract_texts.specs.Fresh.{fresh_names, is_used}

-- so many of some names that are not used
abbrev among : (List ℕ → Bool) → List (List ℕ) → ℕ → List (List ℕ)
among used [] n = []
among used (w ∷ ws) zero = []
among used (w ∷ ws) (suc n) = if used w then among used ws (suc n) else w ∷ among used ws n

fresh_ones : (r : Node) → fresh_names (taken r) (codes "p1") 2 ≡ codes "p2" ∷ codes "p3" ∷ []
unfolding keywords known_names unknown_names
fresh_ones r =
    let by : List ℕ → List ℕ → List ℕ → List ℕ → List (List ℕ) = λ a b c d. among (is_used (taken r) (codes "p1")) ((112 ∷ a) ∷ (112 ∷ b) ∷ (112 ∷ c) ∷ (112 ∷ d) ∷ []) 2 in
    ap (λ a. by a (decimal 1) (decimal 2) (decimal 3)) (decimal_digit 0 (omega arith))
    ∙ ap (λ b. by (codes "0") b (decimal 2) (decimal 3)) (decimal_digit 1 (omega arith))
    ∙ ap (λ c. by (codes "0") (codes "1") c (decimal 3)) (decimal_digit 2 (omega arith))
    ∙ ap (by (codes "0") (codes "1") (codes "2")) (decimal_digit 3 (omega arith))

pub examples : Examples
unfolding keywords known_names unknown_names
examples = record {
  first_call = λ r. ap (λ ds. codes "var b int; b = addmul(a, " ++ ((ds ++ []) ++ codes ")")) (decimal_digit 1 (omega arith));
  second_call = λ r. ap (λ ds. codes "var y int; y = addmul(x, " ++ ((ds ++ []) ++ codes ")")) (decimal_digit 5 (omega arith));
  function = λ r. refl;
  assigned = λ r. refl;
  function_assigning = λ r. refl;
  needed = λ r. refl;
  not_needed = λ r. refl;
  no_results = λ r. refl;
  function_alone = λ r. refl;
  negative = ap (λ ds. codes "x = h(x, -" ++ ((ds ++ []) ++ codes ")")) (decimal_digit 3 (omega arith));
  in_case = refl;
  commented = refl;
  identifier = λ r. refl;
  own_name = λ r. refl;
  keyword = λ r. refl;
  predeclared = λ r. refl;
  unused = λ r. refl;
  fresh = fresh_ones;
  no_fresh = λ r. refl;
}
