-- One more declaration behind those that a map or a set knows.
use Rattle.std.proofs.Common.{◌≡◌, ℕ, Bool, true, false, ◌&&◌, ◌||◌, not, cond, nat_eq, List, [], ◌∷◌, ◌++◌, Option, Some, None, refl, sym, ap, ◌∙◌, arith}
use Rattle.std.specs.Prelude.{nat_lt, unwrap_or}
use Rattle.std.specs.Cmp.{IsEquivalence, nat_eq_equiv, and_equiv, on_equiv}
use Rattle.std.specs.Cmp.Lexicographic.{pointwise, lists_equiv, options_equiv}
use Rattle.std.specs.Option.{option_eq}
use Rattle.std.proofs.lemmas.Bool.Decides.{nat_tests}
use Rattle.go_tree.specs.declared.context.Block.{Block}
use Rattle.go_tree.specs.declared.context.Block.TheVariants as block
use Rattle.go_tree.specs.declared.context.Entity.{Entity}
use Rattle.go_tree.specs.declared.context.Entity.TheVariants as entity
use Rattle.go_tokens.specs.Spellings.{same_text}
use Rattle.go_tree.specs.Declarations.{are_one_block, same_block, is_variable, is_reused_of, is_reused}
use Rattle.go_tree.specs.Declarations as names
use Rattle.go_tree.specs.Redeclared.{are_parameters, clashes, has_clash, is_by_define, same_statement, has_new}
use Rattle.go_scopes_lookup.specs.declared.found.Found.{Found}
use Rattle.go_scopes_lookup.specs.Views.{found_view}
use Rattle.go_scopes_lookup.specs.declared.keys.Key.{Key}
use Rattle.go_scopes_lookup.specs.Keys.{same_key, block_of, IsKey, first_of, is_before, is_parameter, clashes_by, one_statement, statement_of}

pub or_false : (b : Bool) → (b || false) ≡ b
or_false true = refl
or_false false = refl

or_more : (r a b : Bool) → (r || (a || b)) ≡ ((r || a) || b)
or_more true a b = refl
or_more false a b = refl

-- what the definitions say of one more declaration
pub reused_more : (d : names.Found) (xs : List names.Found) (x : names.Found) → is_reused d (xs ++ x ∷ []) ≡ (is_reused d xs || is_reused_of d x)
reused_more d [] x = or_false _
reused_more d (y ∷ xs) x = ap (λ b. is_reused_of d y || b) (reused_more d xs x) ∙ or_more (is_reused_of d y) (is_reused d xs) (is_reused_of d x)

pub clash_more : (d : names.Found) (xs : List names.Found) (x : names.Found) → has_clash d (xs ++ x ∷ []) ≡ (has_clash d xs || clashes d x)
clash_more d [] x = or_false _
clash_more d (y ∷ xs) x = ap (λ b. clashes d y || b) (clash_more d xs x) ∙ or_more (clashes d y) (has_clash d xs) (clashes d x)

pub new_more : (d : names.Found) (xs : List names.Found) (x : names.Found) → has_new d (xs ++ x ∷ []) ≡ (has_new d xs || same_statement d x)
new_more d [] x = or_false _
new_more d (y ∷ xs) x = ap (λ b. same_statement d y || b) (new_more d xs x) ∙ or_more (same_statement d y) (has_new d xs) (same_statement d x)

-- keys
abbrev same_pair : ℕ × ℕ → ℕ × ℕ → Bool
same_pair p q = nat_eq p.0 q.0 && nat_eq p.1 q.1

both : (a b c d : Bool) → a ≡ c → b ≡ d → (a && b) ≡ (c && d)
both a b c d p q = cc

one_block : (m : ℕ) (p : Block) (n : ℕ) (q : Block) → option_eq same_pair (block_of n q) (block_of m p) ≡ are_one_block m p n q
one_block m block.Package n block.Package = refl
one_block m block.Package n (block.Local j) = refl
one_block m (block.Local i) n block.Package = refl
one_block m (block.Local i) n (block.Local j) = both _ _ _ _ (nat_eq_equiv.symm n m) (nat_eq_equiv.symm j i)

one_text : (a b : List ℕ) → pointwise nat_eq b a ≡ same_text a b
one_text [] [] = refl
one_text [] (y ∷ b) = refl
one_text (x ∷ a) [] = refl
one_text (x ∷ a) (y ∷ b) = both _ _ _ _ (nat_eq_equiv.symm y x) (one_text a b)

pub one_key : (d x : names.Found) (k l : Key) → IsKey d k → IsKey x l → same_key l k ≡ (same_block d x && same_text d.name x.name)
one_key d x k l dk xl =
    both _ _ _ _ (ap (λ b. option_eq same_pair b k.block) xl.block ∙ ap (option_eq same_pair (block_of x.file x.it.block)) dk.block ∙ one_block d.file d.it.block x.file x.it.block)
    (ap (λ w. pointwise nat_eq w k.name.now) xl.name ∙ ap (pointwise nat_eq x.name) dk.name ∙ one_text d.name x.name)

pub one_place : (d x : Found) → one_statement (statement_of x) (statement_of d) ≡ (nat_eq d.file x.file && nat_eq d.declaration.now.statement x.declaration.now.statement)
one_place d x = both _ _ _ _ (nat_eq_equiv.symm x.file d.file) (nat_eq_equiv.symm x.declaration.now.statement d.declaration.now.statement)

pub key_laws : IsEquivalence same_key
key_laws = and_equiv (on_equiv (λ k. k.block) (options_equiv (and_equiv (on_equiv (λ p. p.0) nat_eq_equiv) (on_equiv (λ p. p.1) nat_eq_equiv)))) (on_equiv (λ k. k.name.now) (lists_equiv nat_eq_equiv))

-- what is known of one more variable
before_first : (s n i : ℕ) → nat_lt (first_of n (Some i)) s ≡ (nat_lt i s || nat_lt n s)
before_first s n i = grind (arith, nat_tests)

pub and_true : (b : Bool) → (b && true) ≡ b
and_true true = refl
and_true false = refl

pub and_false : (b : Bool) → (b && false) ≡ false
and_false true = refl
and_false false = refl

before_here : (s n : ℕ) (o : Option ℕ) → is_before s (Some (first_of n o)) ≡ (is_before s o || nat_lt n s)
before_here s n None = refl
before_here s n (Some i) = before_first s n i

pub variable_step : (s n : ℕ) (k : Bool) (o ox : Option ℕ) → (k ≡ true → ox ≡ o) → is_before s (cond k (Some (first_of n ox)) o) ≡ (is_before s o || (nat_lt n s && k))
variable_step s n true o ox same = ap (λ y. is_before s (Some (first_of n y))) (same refl) ∙ (before_here s n o ∙ ap (λ b. is_before s o || b) (sym (and_true _)))
variable_step s n false o ox same = sym (ap (λ b. is_before s o || b) (and_false _) ∙ or_false _)

-- and of one more name
clash_here : (p q : Bool) (o : Option Bool) → clashes_by q (Some (unwrap_or o false || not p)) ≡ (clashes_by q o || not (q && p))
clash_here true true None = refl
clash_here true false None = refl
clash_here false true None = refl
clash_here false false None = refl
clash_here p q (Some true) = refl
clash_here true true (Some false) = refl
clash_here true false (Some false) = refl
clash_here false true (Some false) = refl
clash_here false false (Some false) = refl

pub name_step : (p q k : Bool) (o ox : Option Bool) → (k ≡ true → ox ≡ o) → clashes_by q (cond k (Some (unwrap_or ox false || not p)) o) ≡ (clashes_by q o || (k && not (q && p)))
name_step p q true o ox same = ap (λ y. clashes_by q (Some (unwrap_or y false || not p))) (same refl) ∙ clash_here p q o
name_step p q false o ox same = sym (or_false _)

pub parameters : (a b : Entity) → are_parameters a b ≡ (is_parameter a && is_parameter b)
parameters entity.Parameter entity.Parameter = refl
parameters entity.Parameter entity.Constant = refl
parameters entity.Parameter entity.Type = refl
parameters entity.Parameter entity.Variable = refl
parameters entity.Parameter entity.Function = refl
parameters entity.Constant b = refl
parameters entity.Type b = refl
parameters entity.Variable b = refl
parameters entity.Function b = refl

-- and of one more statement
pub statement_step : (k c : Bool) → cond k true c ≡ (c || k)
statement_step true true = refl
statement_step true false = refl
statement_step false c = sym (or_false c)

and_swap : (a b : Bool) → (a && b) ≡ (b && a)
and_swap true b = sym (and_true b)
and_swap false b = sym (and_false b)

and_more : (a b c : Bool) → (a && (b && c)) ≡ ((a && b) && c)
and_more true b c = refl
and_more false b c = refl

pub one_clash : (d x : names.Found) (k l : Key) → IsKey d k → IsKey x l → (same_key l k && not (is_parameter d.it.entity && is_parameter x.it.entity)) ≡ clashes d x
one_clash d x k l dk xl =
    ap (λ b. b && not (is_parameter d.it.entity && is_parameter x.it.entity)) (one_key d x k l dk xl ∙ and_swap (same_block d x) (same_text d.name x.name))
    ∙ ap (λ b. (same_text d.name x.name && same_block d x) && not b) (sym (parameters d.it.entity x.it.entity))

pub one_variable : (d x : names.Found) (k l : Key) → IsKey d k → IsKey x l → is_variable x.it.entity ≡ true → (nat_lt x.it.name d.it.statement && same_key l k) ≡ is_reused_of d x
one_variable d x k l dk xl h =
    ap (λ b. nat_lt x.it.name d.it.statement && b) (one_key d x k l dk xl)
    ∙ (and_more (nat_lt x.it.name d.it.statement) (same_block d x) (same_text d.name x.name)
    ∙ sym (ap (λ b. ((b && nat_lt x.it.name d.it.statement) && same_block d x) && same_text d.name x.name) h))

pub no_variable : (d x : names.Found) → is_variable x.it.entity ≡ false → is_reused_of d x ≡ false
no_variable d x h = ap (λ b. ((b && nat_lt x.it.name d.it.statement) && same_block d x) && same_text d.name x.name) h

pub one_new : (d x : Found) → is_by_define x.declaration.now.manner ≡ true → one_statement (statement_of x) (statement_of d) ≡ same_statement (found_view d) (found_view x)
one_new d x h =
    one_place d x
    ∙ sym (ap (λ b. (nat_eq d.file x.file && nat_eq d.declaration.now.statement x.declaration.now.statement) && b) h ∙ and_true (nat_eq d.file x.file && nat_eq d.declaration.now.statement x.declaration.now.statement))

pub no_new : (d x : Found) → is_by_define x.declaration.now.manner ≡ false → same_statement (found_view d) (found_view x) ≡ false
no_new d x h =
    ap (λ b. (nat_eq d.file x.file && nat_eq d.declaration.now.statement x.declaration.now.statement) && b) h
    ∙ and_false (nat_eq d.file x.file && nat_eq d.declaration.now.statement x.declaration.now.statement)
