-- Arguments of calls of functions and of `fmt.Println`: from the call that fits to each argument, and the rules of the call.
use Rattle.std.proofs.Common.{◌≡◌, ◌∙◌, ℕ, suc, true, false, List, [], ◌∷◌, map, length, Option, Some, None, refl, sym, ap, subst}
use Rattle.std.specs.Prelude.{◌==◌, is_some}
use Rattle.std.proofs.lemmas.Bool.{eqb-true}
use Rattle.go_base.specs.declared.fault.FaultCode.TheVariants as code
use Rattle.go_types.specs.Trees.{TypeTree, TypeRow}
use Rattle.go_types.specs.Trees as types
use Rattle.go_types.specs.Relations.{Rights}
use Rattle.go_types_relations.specs.Tests.{underlying_of}
use Rattle.go_typed.specs.Trees.{Sort, typed, sort_of, row}
use Rattle.go_typed.specs.Trees as sort
use Rattle.go_exprs_rules.specs.Calls.{parameters_of, results_of, row_length, all_unassignable, each_unassignable, function_call_failing, called, all_as, function_takes, printed, all_printed, call_failing, call_sort, call_takes}
use Rattle.go_exprs_rules.specs.Settling.{Part, Take, stay, default, as_type, given, unassignable, undefaulted, undefaulted_by}
use Rattle.go_exprs_rules.specs.Sorts.{Stands, is_open, is_nil, is_unknown, own_type, family_of, takes_type}
use Rattle.go_exprs_rules.specs.Tables.{all_given, is_type}
use Rattle.go_exprs_variables.specs.Operands.{Operands, no_operand, an_operand, InOrder, none_in_order, next_in_order}
use Rattle.go_exprs_variables.specs.Stood.{taken}
use Rattle.go_exprs_variables.specs.Variables as variables
use Rattle.go_exprs_variables.specs.Variables.{Standins, begun, Fits, AllFit, WillFit}
use Rattle.go_exprs_variables.proofs.Arguments.{Given, given_value, given_by_default, still_known}
use Rattle.go_exprs_variables.proofs.Begun.{typed_operand}
use Rattle.go_exprs_variables.proofs.Builtins.{printed_row}
use Rattle.go_exprs_variables.proofs.CallNodes.{CallKept}
use Rattle.go_exprs_variables.proofs.Elements.{order_given}
use Rattle.go_exprs_variables.proofs.Identities.{tree_self}
use Rattle.go_exprs_variables.proofs.Lists.{each, All, all_new, length_new, AllPass, AllGiven, all_fit_each}
use Rattle.go_exprs_variables.proofs.Operands.{Ready, calls_kept, closed_part}
use Rattle.go_exprs_variables.proofs.Parts.{both_none, none_of_both, holds, held}
use Rattle.go_exprs_variables.proofs.Ready.{Facts}

abbrev pub Known : Part → Type 0
Known x = is_unknown (sort_of x) ≡ false

-- all are given the same
abbrev pub alike : Take → List Part → List Take
alike k xs = map (λ (x : Part). k) xs

pub alike_length : (k : Take) (xs : List Part) → length (alike k xs) ≡ length xs
alike_length k [] = refl
alike_length k (x ∷ xs) = ap (λ n. suc n) (alike_length k xs)

-- what is printed is a value
pub family_value : (rights : Rights) (z : Stands) → is_some (family_of rights z) ≡ true → (is_nil z ≡ false) × (is_type z ≡ false)
family_value rights sort.Nil e = cc
family_value rights (sort.IsType t) e = cc
family_value rights z e = (refl, refl)

module _ (w : Standins) where
  pub alike_new : (k : Take) (xs : List Part) → alike k (all_new w xs) ≡ alike k xs
  alike_new k [] = refl
  alike_new k (x ∷ xs) = ap (λ ks. k ∷ ks) (alike_new k xs)

module _ (w : Standins) (rights : Rights) where
  -- A value that a node gives this fits, and is an operand with variables in it.
  abbrev pub GivenAs : Take → Part → Type 0
  GivenAs k x = Given w rights k (taken k None (sort_of x)) x

  abbrev pub Givens : List Take → List Part → Type 0
  Givens [] [] = Unit {0}
  Givens [] (x ∷ xs) = ⊥
  Givens (k ∷ ks) [] = Unit {0}
  Givens (k ∷ ks) (x ∷ xs) = GivenAs k x × Givens ks xs

  pub all_pass : (ks : List Take) (xs : List Part) → Givens ks xs → AllPass w rights ks xs
  all_pass [] [] g = tt
  all_pass [] (x ∷ xs) g = absurd g
  all_pass (k ∷ ks) [] g = tt
  all_pass (k ∷ ks) (x ∷ xs) g = (record { calls = calls_kept rights w false x g.0.ready; gives = g.0.gives; known = g.0.known }, all_pass ks xs g.1)

  pub all_fine : (ks : List Take) (xs : List Part) → Givens ks xs → All (λ x. (is_unknown (sort_of x) ≡ false) × WillFit rights w false x) xs
  all_fine [] [] g = tt
  all_fine [] (x ∷ xs) g = absurd g
  all_fine (k ∷ ks) [] g = tt
  all_fine (k ∷ ks) (x ∷ xs) g = ((g.0.ready.known, g.0.fits), all_fine ks xs g.1)

  -- what has its type, and takes nothing
  pub given_nothing : (x : Part) → Ready rights w false x → is_open (sort_of x) ≡ false → takes_type (sort_of x) ≡ false → Fits w false x → GivenAs stay x
  given_nothing x r closed takes fits =
      let ops = typed_operand rights w None false x r.keys r.held closed fits in
      record {
        ready = r;
        fits = variables.has closed fits;
        operand = ops;
        gives = closed_part rights w false None x r takes closed;
        known = still_known rights None (sort_of x) (sort_of (begun w false x)) ops.stands r.known;
      }

  -- ---- values of one type, and of the types of a row

  pub each_given : (t : TypeTree) (xs : List Part) → All (Facts w rights) xs → All Known xs → each_unassignable rights t xs ≡ [] → AllGiven w rights (alike (as_type t) xs) xs → Givens (alike (as_type t) xs) xs
  each_given t [] facts known e fits = tt
  each_given t (x ∷ xs) facts known e fits =
      let both = both_none (unassignable rights t x) (each_unassignable rights t xs) e in
      (given_value w rights t x facts.0 known.0 both.0 fits.0, each_given t xs facts.1 known.1 both.1 fits.1)

  pub operands_of : (t : TypeTree) (xs : List Part) → Givens (alike (as_type t) xs) xs → Operands rights t xs (all_new w xs)
  operands_of t [] g = no_operand
  operands_of t (x ∷ xs) g = an_operand x (begun w false x) xs (all_new w xs) g.0.operand (operands_of t xs g.1)

  pub row_given : (ts : TypeRow) (xs : List Part) → All (Facts w rights) xs → All Known xs → all_unassignable rights ts xs ≡ [] → AllGiven w rights (all_as ts) xs → row_length ts ≡ length xs → Givens (all_as ts) xs
  row_given types.none [] facts known e fits n = tt
  row_given types.none (x ∷ xs) facts known e fits n = cc
  row_given (types.more t ts) [] facts known e fits n = cc
  row_given (types.more t ts) (x ∷ xs) facts known e fits n =
      let both = both_none (unassignable rights t x) (all_unassignable rights ts xs) e in
      (given_value w rights t x facts.0 known.0 both.0 fits.0, row_given ts xs facts.1 known.1 both.1 fits.1 (pred (row_length ts) (length xs) n))
    where
      pred : (m n : ℕ) → suc m ≡ suc n → m ≡ n
      pred m n e = cc

  pub in_order : (ts : TypeRow) (xs : List Part) → Givens (all_as ts) xs → InOrder rights ts xs (all_new w xs)
  in_order types.none [] g = none_in_order types.none
  in_order types.none (x ∷ xs) g = absurd g
  in_order (types.more t ts) [] g = none_in_order (types.more t ts)
  in_order (types.more t ts) (x ∷ xs) g = next_in_order t ts x (begun w false x) xs (all_new w xs) g.0.operand (in_order ts xs g.1)

  pub row_takes : (ts : TypeRow) → length (all_as ts) ≡ row_length ts
  row_takes types.none = refl
  row_takes (types.more t ts) = ap (λ n. suc n) (row_takes ts)

  module _ (i j : ℕ) where
    -- What is known of the arguments of a call, and of the call with variables in them, where the callee stands for the same.
    pub record Argued (z : Stands) (xs : List Part) : Type 0 where
      pub pass : AllPass w rights (call_takes rights z xs) xs
      pub fine : All (λ x. (is_unknown (sort_of x) ≡ false) × WillFit rights w false x) xs
      pub kept : CallKept w rights i j z z xs

    -- from what is given
    pub argued_of : (z : Stands) (xs : List Part) → Givens (call_takes rights z xs) xs → CallKept w rights i j z z xs → Argued z xs
    argued_of z xs given kept = record { pass = all_pass (call_takes rights z xs) xs given; fine = all_fine (call_takes rights z xs) xs given; kept = kept }

    -- ---- functions

    failing_of : (z : Stands) (t : TypeTree) (xs : List Part) → own_type z ≡ Some t → call_failing rights i j z xs ≡ function_call_failing rights i j (parameters_of (underlying_of rights t)) xs
    failing_of (sort.Value u) t xs e = let same : u ≡ t = cc in ap (λ v. function_call_failing rights i j (parameters_of (underlying_of rights v)) xs) same
    failing_of (sort.Constant u c) t xs e = let same : u ≡ t = cc in ap (λ v. function_call_failing rights i j (parameters_of (underlying_of rights v)) xs) same
    failing_of z t xs e = cc

    sorts_of : (z : Stands) (t : TypeTree) (xs : List Part) → own_type z ≡ Some t → call_sort rights z xs ≡ called t (results_of (underlying_of rights t))
    sorts_of (sort.Value u) t xs e = let same : u ≡ t = cc in ap (λ v. called v (results_of (underlying_of rights v))) same
    sorts_of (sort.Constant u c) t xs e = let same : u ≡ t = cc in ap (λ v. called v (results_of (underlying_of rights v))) same
    sorts_of z t xs e = cc

    takes_of : (z : Stands) (t : TypeTree) (xs : List Part) → own_type z ≡ Some t → call_takes rights z xs ≡ function_takes (parameters_of (underlying_of rights t)) xs
    takes_of (sort.Value u) t xs e = let same : u ≡ t = cc in ap (λ v. function_takes (parameters_of (underlying_of rights v)) xs) same
    takes_of (sort.Constant u c) t xs e = let same : u ≡ t = cc in ap (λ v. function_takes (parameters_of (underlying_of rights v)) xs) same
    takes_of z t xs e = cc

    function_by : (z b : Stands) (t : TypeTree) (xs : List Part) (o : Option TypeRow) → parameters_of (underlying_of rights t) ≡ o → own_type z ≡ Some t → own_type b ≡ Some t → All (Facts w rights) xs → All Known xs
        → call_failing rights i j z xs ≡ [] → AllFit w false (row (all_given (call_takes rights z xs) (each xs))) → Givens (call_takes rights z xs) xs × CallKept w rights i j z b xs
    function_by z b t xs None is e f facts known rule fits =
        let none : function_call_failing rights i j None xs ≡ [] = sym (failing_of z t xs e ∙ ap (λ o. function_call_failing rights i j o xs) is) ∙ rule in cc
    function_by z b t xs (Some ps) is e f facts known rule fits =
        let news = all_new w xs in
        let ok = holds (row_length ps == length xs) (all_unassignable rights ps xs) code.Count i j (sym (failing_of z t xs e ∙ ap (λ o. function_call_failing rights i j o xs) is) ∙ rule) in
        let count : row_length ps ≡ length xs = eqb-true (row_length ps) (length xs) ok.0 in
        let takes : call_takes rights z xs ≡ all_as ps = takes_of z t xs e ∙ ap (λ o. function_takes o xs) is in
        let all = all_fit_each w rights (all_as ps) xs (subst (λ ks. AllFit w false (row (all_given ks (each xs)))) takes fits) (row_takes ps ∙ count) in
        let given = row_given ps xs facts known ok.1 all count in (
          subst (λ ks. Givens ks xs) (sym takes) given,
          record {
            failing = failing_of b t news f ∙ ap (λ o. function_call_failing rights i j o news) is
                ∙ held (row_length ps == length news) (all_unassignable rights ps news) code.Count i j (ap (λ n. row_length ps == n) (length_new w xs) ∙ ok.0) (order_given rights tree_self ps xs news (in_order ps xs given) ok.1);
            sort = sorts_of b t news f ∙ sym (sorts_of z t xs e);
            takes = takes_of b t news f ∙ ap (λ o. function_takes o news) is ∙ sym takes;
          },
        )

    -- A call of a function: its arguments are given to its parameters.
    pub function_argued : (z b : Stands) (t : TypeTree) (xs : List Part) → own_type z ≡ Some t → own_type b ≡ Some t → All (Facts w rights) xs → All Known xs → call_failing rights i j z xs ≡ []
        → AllFit w false (row (all_given (call_takes rights z xs) (each xs))) → Givens (call_takes rights z xs) xs × CallKept w rights i j z b xs
    function_argued z b t xs e f facts known rule fits = function_by z b t xs (parameters_of (underlying_of rights t)) refl e f facts known rule fits

    -- ---- what is printed

    pub printed_given : (x : Part) → Facts w rights x → is_unknown (sort_of x) ≡ false → printed rights i j x ≡ [] → Fits w false (given default x) → GivenAs default x
    printed_given x facts known e fits =
        let ok = holds (is_some (family_of rights (sort_of x))) (undefaulted rights x) code.Operands i j e in
        let is = family_value rights (sort_of x) ok.0 in
        given_by_default w rights x (facts.ready known is.1) is.0 (λ c k m. sym (ap (λ o. undefaulted_by rights o x) m) ∙ ok.1) fits

    all_printed_given : (xs : List Part) → All (Facts w rights) xs → All Known xs → all_printed rights i j xs ≡ [] → AllGiven w rights (alike default xs) xs → Givens (alike default xs) xs
    all_printed_given [] facts known e fits = tt
    all_printed_given (x ∷ xs) facts known e fits =
        let both = both_none (printed rights i j x) (all_printed rights i j xs) e in
        (printed_given x facts.0 known.0 both.0 fits.0, all_printed_given xs facts.1 known.1 both.1 fits.1)

    all_printed_kept : (xs : List Part) → Givens (alike default xs) xs → all_printed rights i j xs ≡ [] → all_printed rights i j (all_new w xs) ≡ []
    all_printed_kept [] g e = refl
    all_printed_kept (x ∷ xs) g e =
        let both = both_none (printed rights i j x) (all_printed rights i j xs) e in
        none_of_both (printed rights i j (begun w false x)) (all_printed rights i j (all_new w xs)) (printed_row rights i j (taken default None (sort_of x)) x (begun w false x) g.0.operand both.0) (all_printed_kept xs g.1 both.1)

    -- `fmt.Println`
    pub println_argued : (xs : List Part) → All (Facts w rights) xs → All Known xs → call_failing rights i j sort.Println xs ≡ [] → AllFit w false (row (all_given (call_takes rights sort.Println xs) (each xs))) → Argued sort.Println xs
    println_argued xs facts known rule fits =
        let given = all_printed_given xs facts known rule (all_fit_each w rights (alike default xs) xs fits (alike_length default xs)) in
        argued_of sort.Println xs given (record { failing = all_printed_kept xs given rule; sort = refl; takes = alike_new w default xs })
