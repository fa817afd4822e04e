-- One more of what parts take.
use Rattle.std.proofs.Common.{◌≡◌, ℕ, Bool, zero, suc, ◌+◌, ◌-◌, ◌<◌, ◌≤◌, List, [], ◌∷◌, ◌++◌, length, drop, get_or, map, replicate, Option, None, refl, ap, sym, ◌∙◌, arith}
use Rattle.std.proofs.lemmas.List.{append_assoc}
use Rattle.std.specs.Option.{option_map}
use Rattle.std.specs.Borrow.{Bor}
use Rattle.go_types.specs.Trees.{TypeTree}
use Rattle.go_types.specs.Relations.{Rights}
use Rattle.go_types.specs.Tables.{Table, type_of}
use Rattle.go_typed.specs.declared.node.TypedNode.{TypedNode}
use Rattle.go_typed.specs.Views.{seen}
use Rattle.go_exprs_rules.specs.declared.fault.TypeFault.{TypeFault}
use Rattle.go_exprs_rules.specs.Faults.{least, earlier}
use Rattle.go_exprs_rules.specs.Settling.{Part}
use Rattle.go_exprs_rules.proofs.Public.{least_append, earlier_none}
use Rattle.go_stmts_defs.specs.Assigning.{assignment_failing, Wanted, Taking, stands, values_take, constants_take, whole_results}
use Rattle.go_stmts_defs.specs.Rules.{variables_failing, element_unassigned, elements_unassigned, target_type, range_failing, range_assigned, range_types, targets_failing}
use Rattle.go_exprs_calls.specs.Shown.{shown}
use Rattle.go_exprs_calls.proofs.Public.{list_more}
use Rattle.go_stmts_rules.specs.Firsts.{first_taking, first_constant, others}
use Rattle.go_stmts_rules.specs.Seen.{wanted_seen}

later : {A B : Type 0} (f : A → B) (xs : List A) (i : ℕ) → others (map f (drop i xs)) ≡ map f (drop (suc i) xs)
later f [] zero = refl
later f [] (suc i) = refl
later f (x ∷ xs) zero = refl
later f (x ∷ xs) (suc i) = later f xs i

later_shown : (t : Table) (ns : List (Bor TypedNode)) (i : ℕ) → others (shown t (drop i ns)) ≡ shown t (drop (suc i) ns)
later_shown t [] zero = refl
later_shown t [] (suc i) = refl
later_shown t (x ∷ ns) zero = refl
later_shown t (x ∷ ns) (suc i) = later_shown t ns i

-- there is one more
one_more : (t : Table) (ns : List (Bor TypedNode)) (i : ℕ) → i < length ns → (x : Part) × (shown t (drop i ns) ≡ x ∷ shown t (drop (suc i) ns))
one_more t [] i lt = absurd (omega (arith, lt))
one_more t (n ∷ ns) zero lt = (seen t n.now, refl)
one_more t (n ∷ ns) (suc i) lt = one_more t ns i (omega (arith, lt))

values_more : (us : Wanted) (x : Part) (xs : List Part) → values_take us (x ∷ xs) ≡ first_taking us ∷ values_take (others us) xs
values_more [] x xs = refl
values_more (u ∷ us) x xs = refl

behind_one : {A : Type 0} (old now rest left due : List A) (k : A) → now ≡ old ++ k ∷ [] → left ≡ k ∷ rest → old ++ left ≡ due → now ++ rest ≡ due
behind_one old now rest left due k pushed split before = ap (λ zs. zs ++ rest) pushed ∙ append_assoc old (k ∷ []) rest ∙ ap (λ zs. old ++ zs) (sym split) ∙ before

pub values_step : (t : Table) (ws : List (Option ℕ)) (ns : List (Bor TypedNode)) (i : ℕ) (k : Taking) (old now due : List Taking) → i < length ns → k ≡ first_taking (wanted_seen t (drop i ws))
    → old ++ values_take (wanted_seen t (drop i ws)) (shown t (drop i ns)) ≡ due → now ≡ old ++ k ∷ [] → now ++ values_take (wanted_seen t (drop (i + 1) ws)) (shown t (drop (i + 1) ns)) ≡ due
values_step t ws ns i k old now due lt is before pushed =
    let next : suc i ≡ i + 1 = omega arith in
    let f = option_map (type_of t.shapes) in
    let one = one_more t ns i lt in
    let split : values_take (wanted_seen t (drop i ws)) (shown t (drop i ns)) ≡ k ∷ values_take (wanted_seen t (drop (i + 1) ws)) (shown t (drop (i + 1) ns)) =
    ap (values_take (wanted_seen t (drop i ws))) one.1
    ∙ values_more (wanted_seen t (drop i ws)) one.0 (shown t (drop (suc i) ns))
    ∙ ap (λ z. z ∷ values_take (others (wanted_seen t (drop i ws))) (shown t (drop (suc i) ns))) (sym is)
    ∙ ap (λ us. k ∷ values_take us (shown t (drop (suc i) ns))) (later f ws i)
    ∙ ap (λ j. k ∷ values_take (wanted_seen t (drop j ws)) (shown t (drop j ns))) next in
    behind_one old now (values_take (wanted_seen t (drop (i + 1) ws)) (shown t (drop (i + 1) ns))) (values_take (wanted_seen t (drop i ws)) (shown t (drop i ns))) due k pushed split before

constants_more : {A : Type 0} (o : Option TypeTree) (a : A) (bs : List A) (xs : List Part) → constants_take o (a ∷ bs) xs ≡ stands (first_constant o xs) ∷ constants_take o bs (others xs)
constants_more o a bs [] = refl
constants_more o a bs (x ∷ xs) = refl

pub constants_step : {A : Type 0} (o : Option TypeTree) (t : Table) (ns : List (Bor TypedNode)) (n i : ℕ) (a : A) (k : Taking) (old now due : List Taking) → i < n → k ≡ stands (first_constant o (shown t (drop i ns)))
    → old ++ constants_take o (replicate (n - i) a) (shown t (drop i ns)) ≡ due → now ≡ old ++ k ∷ [] → now ++ constants_take o (replicate (n - (i + 1)) a) (shown t (drop (i + 1) ns)) ≡ due
constants_step o t ns n i a k old now due lt is before pushed =
    let next : suc i ≡ i + 1 = omega arith in
    let size : n - i ≡ suc (n - (i + 1)) = omega (arith, lt) in
    let split : constants_take o (replicate (n - i) a) (shown t (drop i ns)) ≡ k ∷ constants_take o (replicate (n - (i + 1)) a) (shown t (drop (i + 1) ns)) =
    ap (λ m. constants_take o (replicate m a) (shown t (drop i ns))) size
    ∙ constants_more o a (replicate (n - (i + 1)) a) (shown t (drop i ns))
    ∙ ap (λ z. z ∷ constants_take o (replicate (n - (i + 1)) a) (others (shown t (drop i ns)))) (sym is)
    ∙ ap (λ xs. k ∷ constants_take o (replicate (n - (i + 1)) a) xs) (later_shown t ns i ∙ ap (λ j. shown t (drop j ns)) next) in
    behind_one old now (constants_take o (replicate (n - (i + 1)) a) (shown t (drop (i + 1) ns))) (constants_take o (replicate (n - i) a) (shown t (drop i ns))) due k pushed split before

-- ---- rows by the number of their elements

pub no_whole : (rights : Rights) (t : Table) (ns : List (Bor TypedNode)) → 2 ≤ length ns → None ≡ whole_results rights (shown t ns)
no_whole rights t [] h = absurd (omega (arith, h))
no_whole rights t (n ∷ []) h = absurd (omega (arith, h))
no_whole rights t (n ∷ m ∷ ns) h = refl

no_elements : (rights : Rights) (x : Part) (ts : List Part) → elements_unassigned rights x ts [] ≡ []
no_elements rights x [] = refl
no_elements rights x (t ∷ ts) = refl

abbrev first_of_two : Rights → Part → Table → Bor TypedNode → TypeTree → Option TypeFault
first_of_two rights x t n r = least (element_unassigned rights x (target_type (seen t n.now)) r)

pub two_elements : (rights : Rights) (x : Part) (r s : TypeTree) (t : Table) (ns : List (Bor TypedNode)) (n m : Bor TypedNode) → 2 ≤ length ns → n ≡ get_or ns 0 n → m ≡ get_or ns 1 m
    → earlier (first_of_two rights x t n r) (first_of_two rights x t m s) ≡ least (elements_unassigned rights x (shown t ns) (r ∷ s ∷ []))
two_elements rights x r s t [] n m h e g = absurd (omega (arith, h))
two_elements rights x r s t (a ∷ []) n m h e g = absurd (omega (arith, h))
two_elements rights x r s t (a ∷ b ∷ ns) n m h e g =
    let one = element_unassigned rights x (target_type (seen t a.now)) r in
    let two = element_unassigned rights x (target_type (seen t b.now)) s in
    let rest = elements_unassigned rights x (shown t ns) [] in
    ap (λ z. earlier (first_of_two rights x t z r) (first_of_two rights x t m s)) e
    ∙ ap (λ z. earlier (least one) (first_of_two rights x t z s)) g
    ∙ sym (least_append one (two ++ rest) ∙ ap (earlier (least one)) (least_append two rest ∙ ap (λ z. earlier (least two) (least z)) (no_elements rights x (shown t ns)) ∙ earlier_none (least two)))

pub range_over : (rights : Rights) (i j : ℕ) (defines : Bool) (ts : List Part) (t : Table) (ns : List (Bor TypedNode)) (n : Bor TypedNode) → 1 ≤ length ns → n ≡ get_or ns 0 n
    → earlier (least (targets_failing rights defines ts)) (least (range_assigned rights i j ts (seen t n.now) (range_types rights (seen t n.now)))) ≡ least (range_failing rights i j defines ts (shown t ns))
range_over rights i j defines ts t ns n h e =
    let x = seen t n.now in
    sym (ap (λ ms. least (range_failing rights i j defines ts (shown t ms))) (list_more ns n h e) ∙ least_append (targets_failing rights defines ts) (range_assigned rights i j ts x (range_types rights x)))

pub variables_over : (rights : Rights) (i j n : ℕ) (o : Option TypeTree) (t : Table) (ns : List (Bor TypedNode)) → 1 ≤ length ns → assignment_failing rights i j (replicate n o) (shown t ns) ≡ variables_failing rights i j n o (shown t ns)
variables_over rights i j n o t [] h = absurd (omega (arith, h))
variables_over rights i j n o t (m ∷ ns) h = refl
