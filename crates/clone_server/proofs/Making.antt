-- The text of the package that is made from a number, a line at a time, and how long it is.
use Rattle.std.proofs.Common.{◌≡◌, ℕ, zero, suc, ◌+◌, ◌*◌, ◌%◌, ◌/◌, ◌≤◌, ◌<◌, Bool, true, false, nat_eq, if◌then◌else◌, List, [], ◌++◌, length, codes, refl, sym, ap, ◌∙◌, arith}
use Rattle.std.proofs.lemmas.List.{length-append}
use Rattle.std.proofs.lemmas.Fmt.{length-decimal-le}
use Rattle.std.proofs.Math.Nat.{mod-lt}
use Rattle.std.specs.Fmt.{decimal}
use Rattle.clone_server.specs.Made.{behind_draws, call_line, call_lines, constant_of, count_functions, drawn, drawn_line, drawn_lines, function_text, functions_text, lines_of_function, made_text, next_state, statement_front}

behind : (n : ℕ) → suc n ≡ n + 1
behind n = omega arith

pub no_draws : (x : ℕ) → behind_draws 0 x ≡ x
unfolding behind_draws
no_draws x = refl

pub one_draw : (n x : ℕ) → next_state (behind_draws n x) ≡ behind_draws (n + 1) x
unfolding behind_draws
one_draw n x = ap (λ k. behind_draws k x) (behind n)

draws_from : (m n x : ℕ) → behind_draws m (behind_draws n x) ≡ behind_draws (m + n) x
unfolding behind_draws
draws_from zero n x = ap (λ k. behind_draws k x) (zero_in_front n)
  where
    zero_in_front : (n : ℕ) → n ≡ 0 + n
    zero_in_front n = omega arith
draws_from (suc m) n x = ap next_state (draws_from m n x) ∙ ap (λ k. behind_draws k x) (suc_in_front m n)
  where
    suc_in_front : (m n : ℕ) → suc (m + n) ≡ suc m + n
    suc_in_front m n = omega arith

-- behind one function more
pub draws_behind : (n x : ℕ) → behind_draws lines_of_function (behind_draws (n * lines_of_function) x) ≡ behind_draws ((n + 1) * lines_of_function) x
draws_behind n x = draws_from lines_of_function (n * lines_of_function) x ∙ ap (λ k. behind_draws k x) (one_more n)
  where
    one_more : (n : ℕ) → lines_of_function + n * lines_of_function ≡ (n + 1) * lines_of_function
    one_more n = omega arith

pub no_lines : (x : ℕ) → drawn_lines 0 x ≡ []
unfolding drawn_lines
no_lines x = refl

last_line : (n x : ℕ) → drawn_lines n x ++ drawn_line (drawn (behind_draws (suc n) x)) ≡ drawn_lines (suc n) x
unfolding drawn_lines
last_line n x = refl

pub one_line : (n x : ℕ) → drawn_lines n x ++ drawn_line (drawn (behind_draws (n + 1) x)) ≡ drawn_lines (n + 1) x
one_line n x = ap (λ k. drawn_lines n x ++ drawn_line (drawn (behind_draws k x))) (sym (behind n)) ∙ (last_line n x ∙ ap (λ k. drawn_lines k x) (behind n))

pub no_functions : (x : ℕ) → functions_text 0 x ≡ []
unfolding functions_text
no_functions x = refl

pub one_function : (n x : ℕ) → functions_text n x ++ function_text n (behind_draws (n * lines_of_function) x) ≡ functions_text (n + 1) x
unfolding functions_text
one_function n x = ap (λ k. functions_text k x) (behind n)

pub no_calls : call_lines 0 ≡ []
unfolding call_lines
no_calls = refl

pub one_call : (n : ℕ) → call_lines n ++ call_line n ≡ call_lines (n + 1)
unfolding call_lines
one_call n = ap call_lines (behind n)

-- ---- lengths

front_chosen : (a b c d : Bool) → length (if a then codes "a = a + " else if b then codes "b = b ^ " else if c then codes "a = b - " else if d then codes "b = a & " else codes "b = a | ") ≡ 8
front_chosen true b c d = refl
front_chosen false true c d = refl
front_chosen false false true d = refl
front_chosen false false false true = refl
front_chosen false false false false = refl

front_length : (k : ℕ) → length (statement_front k) ≡ 8
front_length k = front_chosen (nat_eq k 0) (nat_eq k 1) (nat_eq k 2) (nat_eq k 3)

line_length : (r : ℕ) → length (drawn_line r) ≤ 12
line_length r =
    let m : r / 5 % 90 < 90 = mod-lt (r / 5) (omega arith) in
    let d = length-decimal-le 2 (constant_of r) (omega arith) (omega (arith, m)) (omega (arith, m)) in
    let e = length-append (statement_front (r % 5)) (decimal (constant_of r) ++ codes "\n") in
    let f = length-append (decimal (constant_of r)) (codes "\n") in
    let g = front_length (r % 5) in
    omega (arith, d, e, f, g)

lines_length : (n x : ℕ) → length (drawn_lines n x) ≤ n * 12
unfolding drawn_lines
lines_length zero x = omega arith
lines_length (suc n) x =
    let t = lines_length n x in
    let l = line_length (drawn (behind_draws (suc n) x)) in
    let e = length-append (drawn_lines n x) (drawn_line (drawn (behind_draws (suc n) x))) in
    omega (arith, t, l, e)

function_length : (i x : ℕ) → i < 1000 → length (function_text i x) ≤ 500
function_length i x h =
    let d = length-decimal-le 3 i (omega arith) (omega (arith, h)) (omega (arith, h)) in
    let l = lines_length lines_of_function x in
    let e = length-append (decimal i) (codes "(a int) int {\n\tb := a\n" ++ (drawn_lines lines_of_function x ++ codes "\treturn a + b\n}\n")) in
    let f = length-append (drawn_lines lines_of_function x) (codes "\treturn a + b\n}\n") in
    omega (arith, d, l, e, f)

functions_length : (n x : ℕ) → n ≤ 1000 → length (functions_text n x) ≤ n * 500
unfolding functions_text
functions_length zero x h = omega arith
functions_length (suc n) x h =
    let t = functions_length n x (omega (arith, h)) in
    let l = function_length n (behind_draws (n * lines_of_function) x) (omega (arith, h)) in
    let e = length-append (functions_text n x) (function_text n (behind_draws (n * lines_of_function) x)) in
    omega (arith, t, l, e)

calls_length : (n : ℕ) → n ≤ 1000 → length (call_lines n) ≤ n * 20
unfolding call_lines
calls_length zero h = omega arith
calls_length (suc n) h =
    let t = calls_length n (omega (arith, h)) in
    let d = length-decimal-le 3 n (omega arith) (omega (arith, h)) (omega (arith, h)) in
    let l = length-append (decimal n) (codes "(s)\n") in
    let e = length-append (call_lines n) (call_line n) in
    omega (arith, t, d, l, e)

-- far below the limit of a package
pub text_length : (seed : ℕ) → length (made_text seed) ≤ 1048576
text_length seed =
    let f = functions_length count_functions seed (omega arith) in
    let c = calls_length count_functions (omega arith) in
    let rest = codes "\nfunc main() {\n\ts := 0\n" ++ (call_lines count_functions ++ codes "\tfmt.Println(s)\n}\n") in
    let e = length-append (functions_text count_functions seed) rest in
    let g = length-append (call_lines count_functions) (codes "\tfmt.Println(s)\n}\n") in
    omega (arith, f, c, e, g)
