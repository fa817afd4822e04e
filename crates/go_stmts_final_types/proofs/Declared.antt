-- Names that are declared stand for something known, where no rule fails.
use Rattle.std.proofs.Common.{◌≡◌, ℕ, zero, suc, pred, ◌==◌, Bool, true, false, cond, [], ◌∷◌, ◌++◌, List, length, map, take, replicate, Option, Some, None, refl, ap, arith}
use Rattle.std.proofs.lemmas.Bool.Decides.{nat_tests}
use Rattle.std.specs.Prelude.{is_some, nat_lt}
use Rattle.go_base.specs.declared.fault.FaultCode.TheVariants as code
use Rattle.go_types.specs.Trees.{TypeTree}
use Rattle.go_types.specs.Relations.{Rights}
use Rattle.go_typed.specs.Trees.{sort_of, form_of}
use Rattle.go_typed.specs.Trees as sort
use Rattle.go_exprs_rules.specs.declared.fault.TypeFault.{TypeFault}
use Rattle.go_exprs_rules.specs.Names.{is_no_value, one_value, place_failing}
use Rattle.go_exprs_rules.specs.Scopes.{value, several}
use Rattle.go_exprs_rules.specs.Settling.{Part, at_part, undefaulted}
use Rattle.go_exprs_rules.specs.Sorts.{Stands, is_unknown, is_nil, is_constant, value_type}
use Rattle.go_exprs_rules.specs.Tables.{Parts}
use Rattle.go_stmts_defs.specs.Assigning.{Wanted, Taking, takes, stands, called_results, whole_results, unassigned, all_unassigned, call_assigned, assignment_by, assignment_failing, constant_failing, constants_failing, first_known, variable, value_types_by, names_take, values_take, declared_names, constant_in, constants_take}
use Rattle.go_stmts_defs.specs.Rules.{type_stands, type_or_rest}
use Rattle.go_stmts_final_types.specs.Known.{is_object}
use Rattle.go_stmts_final_types.specs.Names.{alone, is_fit}
use Rattle.go_stmts_final_types.proofs.Facts.{Clear}
use Rattle.go_stmts_final_types.proofs.Known.{StandsWell}
use Rattle.go_stmts_final_types.proofs.Rows.{somes}
use Rattle.go_stmts_final_types.proofs.Statements.{Each}
use Rattle.go_stmts_final_types.proofs.Tests.{holds, first_none, second_none, never_at}

-- ---- values that are given

-- it is `nil`, or has a type or a default type, or is a call's results
abbrev pub is_given : Stands → Bool
is_given (sort.Value t) = true
is_given (sort.Constant t c) = true
is_given (sort.Open u) = true
is_given (sort.OpenConstant c) = true
is_given (sort.Results t) = true
is_given sort.Nil = true
is_given x = false

abbrev pub is_single : Stands → Bool
is_single (sort.Results t) = false
is_single x = true

abbrev pub Given : Part → Type 0
Given x = is_given (sort_of x) ≡ true

abbrev pub Single : Part → Type 0
Single x = is_single (sort_of x) ≡ true

given_by : (rights : Rights) (i j : ℕ) (x : Stands) → is_fit alone x ≡ true → (b : Bool) → place_failing rights (cond b value several) i j x ≡ [] → is_given x ≡ true
given_by rights i j sort.Unknown f b e = cc
given_by rights i j sort.Nothing f b e = cc
given_by rights i j sort.Package f b e = cc
given_by rights i j sort.Println f b e = cc
given_by rights i j (sort.IsType t) f true e = cc
given_by rights i j (sort.IsType t) f false e = cc
given_by rights i j (sort.Builtin p) f true e = cc
given_by rights i j (sort.Builtin p) f false e = cc
given_by rights i j sort.Blank f true e = cc
given_by rights i j sort.Blank f false e = cc
given_by rights i j x f b e = refl

one_result : (b : Bool) (t : TypeTree) (i j : ℕ) → one_value b (sort.Results t) i j ≡ [] → false ≡ true
one_result true t i j e = cc
one_result false t i j e = cc

single_by : (rights : Rights) (i j : ℕ) (x : Stands) → place_failing rights value i j x ≡ [] → is_single x ≡ true
single_by rights i j (sort.Results t) e = one_result (is_no_value rights (sort.Results t)) t i j e
single_by rights i j x e = refl

pub clear_given : (rights : Rights) (b : Bool) (x : Part) → Clear alone rights (cond b value several) x → Given x
clear_given rights b x h = given_by rights h.first h.last (sort_of x) h.fits.fit b h.placed

pub clear_single : (rights : Rights) (x : Part) → Clear alone rights value x → Single x
clear_single rights x h = single_by rights h.first h.last (sort_of x) h.placed

-- values, of which several are no results of calls
pub record AreGiven (xs : List Part) : Type 0 where
  pub given : Each Given xs
  pub single : nat_lt 1 (length xs) ≡ true → Each Single xs

-- ---- what names take

-- names stand for something known
abbrev pub AllStand : List Taking → Type 0
AllStand [] = Unit {0}
AllStand (takes k ∷ ks) = ⊥
AllStand (stands z ∷ ks) = (is_unknown z ≡ false) × AllStand ks

-- parts that stand for what they do
abbrev pub NoneStand : List Taking → Type 0
NoneStand [] = Unit {0}
NoneStand (takes k ∷ ks) = NoneStand ks
NoneStand (stands z ∷ ks) = ⊥

abbrev pub Own : Part → Type 0
Own x = is_object (form_of x) ≡ false

pub none_well : (ks : List Taking) (ys : Parts) → NoneStand ks → StandsWell ks ys
none_well [] ys n = tt
none_well (takes k ∷ ks) [] n = tt
none_well (takes k ∷ ks) (None ∷ ys) n = none_well ks ys n
none_well (takes k ∷ ks) (Some y ∷ ys) n = none_well ks ys n
none_well (stands z ∷ ks) ys n = elim n [ ]

-- names in front of other parts
pub names_well : (ks js : List Taking) (ns : List Part) (zs : Parts) → AllStand ks → Each Own ns → length ks ≡ length ns → StandsWell js zs → StandsWell (ks ++ js) (somes ns ++ zs)
names_well [] js [] zs a o e w = w
names_well [] js (n ∷ ns) zs a o e w = cc
names_well (takes k ∷ ks) js ns zs a o e w = elim a [ ]
names_well (stands z ∷ ks) js [] zs a o e w = cc
names_well (stands z ∷ ks) js (n ∷ ns) zs a o e w = (a.0, o.0, names_well ks js ns zs a.1 o.1 (ap pred e) w)

-- at most as many
pub some_well : (ks : List Taking) (ns : List Part) (zs : Parts) → AllStand ks → Each Own ns → StandsWell (take (length ns) ks) (somes ns ++ zs)
some_well ks [] zs a o = tt
some_well [] (n ∷ ns) zs a o = tt
some_well (takes k ∷ ks) (n ∷ ns) zs a o = elim a [ ]
some_well (stands z ∷ ks) (n ∷ ns) zs a o = (a.0, o.0, some_well ks ns zs a.1 o.1)

pub types_stand : (rs : List TypeTree) → AllStand (map type_stands rs)
types_stand [] = tt
types_stand (r ∷ rs) = (refl, types_stand rs)

pub values_none : (ts : Wanted) (vs : List Part) → NoneStand (values_take ts vs)
values_none ts [] = tt
values_none [] (x ∷ vs) = values_none [] vs
values_none (Some t ∷ ts) (x ∷ vs) = values_none ts vs
values_none (None ∷ ts) (x ∷ vs) = values_none ts vs

pub rest_none : (t : Option TypeTree) (vs : List Part) → NoneStand (map (λ (x : Part). type_or_rest t) vs)
rest_none t [] = tt
rest_none (Some t) (x ∷ vs) = rest_none (Some t) vs
rest_none None (x ∷ vs) = rest_none None vs

names_length : (ts us : Wanted) → length (names_take ts us) ≡ length ts
names_length [] us = refl
names_length (t ∷ ts) [] = ap suc (names_length ts [])
names_length (t ∷ ts) (u ∷ us) = ap suc (names_length ts us)

-- ---- variables

variable_known : (o : Option TypeTree) → is_some o ≡ true → is_unknown (variable o) ≡ false
variable_known (Some t) e = refl
variable_known None e = cc

first_is : (t u : Option TypeTree) → is_some u ≡ true → is_some (first_known t u) ≡ true
first_is (Some t) u e = refl
first_is None u e = e

same_less : (a b : ℕ) → (suc a == suc b) ≡ true → (a == b) ≡ true
same_less a b e = grind (arith, nat_tests, e)

no_more : {X : Type 0} (n : ℕ) → (suc n == 0) ≡ true → X
no_more n e = let never : ⊥ = grind (arith, nat_tests, e) in absurd never

results_stand : (ts : Wanted) (rs : List TypeTree) → (length ts == length rs) ≡ true → AllStand (names_take ts (map (λ r. Some r) rs))
results_stand [] rs e = tt
results_stand (t ∷ ts) [] e = no_more (length ts) e
results_stand (t ∷ ts) (r ∷ rs) e = (variable_known (first_known t (Some r)) (first_is t (Some r) refl), results_stand ts rs (same_less (length ts) (length rs) e))

-- a value for a variable that has no type yet
pub unassigned_type : (rights : Rights) (t : Option TypeTree) (x : Part) → Given x → Single x → unassigned rights t x ≡ [] → is_some (first_known t (value_type (sort_of x))) ≡ true
unassigned_type rights (Some t) x g s e = refl
unassigned_type rights None x g s e = by (sort_of x) g s e
  where
    by : (z : Stands) → is_given z ≡ true → is_single z ≡ true → cond (is_nil z) (at_part code.Operands x) (undefaulted rights x) ≡ [] → is_some (value_type z) ≡ true
    by (sort.Value t) g s e = refl
    by (sort.Constant t c) g s e = refl
    by (sort.Open u) g s e = refl
    by (sort.OpenConstant c) g s e = refl
    by (sort.Results t) g s e = cc
    by sort.Nil g s e = never_at code.Operands x e
    by z g s e = cc

values_stand : (rights : Rights) (ts : Wanted) (vs : List Part) → (length ts == length vs) ≡ true → Each Given vs → Each Single vs → all_unassigned rights ts vs ≡ [] → AllStand (names_take ts (map (λ x. value_type (sort_of x)) vs))
values_stand rights [] vs c g s e = tt
values_stand rights (t ∷ ts) [] c g s e = no_more (length ts) c
values_stand rights (t ∷ ts) (x ∷ vs) c g s e =
    (variable_known (first_known t (value_type (sort_of x))) (unassigned_type rights t x g.0 s.0 (first_none (unassigned rights t x) (all_unassigned rights ts vs) e)), values_stand rights ts vs (same_less (length ts) (length vs) c) g.1 s.1 (second_none (unassigned rights t x) (all_unassigned rights ts vs) e))

-- no call with several results is the only value
one_single : (rights : Rights) (x : Stands) → called_results rights x ≡ None → is_single x ≡ true
one_single rights (sort.Results t) e = cc
one_single rights x e = refl

more_than_one : (n : ℕ) → nat_lt 1 (suc (suc n)) ≡ true
more_than_one n = grind (arith, nat_tests)

all_single : (rights : Rights) (vs : List Part) → AreGiven vs → whole_results rights vs ≡ None → Each Single vs
all_single rights [] g e = tt
all_single rights (x ∷ []) g e = (one_single rights (sort_of x) e, tt)
all_single rights (x ∷ y ∷ vs) g e = g.single (more_than_one (length vs))

names_stand : (rights : Rights) (i j : ℕ) (ts : Wanted) (vs : List Part) → AreGiven vs → (o : Option (List TypeTree)) → whole_results rights vs ≡ o → assignment_by rights i j ts vs o ≡ [] → AllStand (names_take ts (value_types_by vs o))
names_stand rights i j ts vs g (Some rs) m e = results_stand ts rs (holds (length ts == length rs) (call_assigned rights ts vs rs) _ e).0
names_stand rights i j ts vs g None m e = let h = holds (length ts == length vs) (all_unassigned rights ts vs) _ e in values_stand rights ts vs h.0 g.given (all_single rights vs g m) h.1

pub declared_stand : (rights : Rights) (i j : ℕ) (ts : Wanted) (vs : List Part) → AreGiven vs → assignment_failing rights i j ts vs ≡ [] → AllStand (declared_names rights ts vs)
declared_stand rights i j ts vs g e = names_stand rights i j ts vs g (whole_results rights vs) refl e

pub declared_length : (rights : Rights) (ts : Wanted) (vs : List Part) → length (declared_names rights ts vs) ≡ length ts
declared_length rights ts vs = names_length ts (value_types_by vs (whole_results rights vs))

-- without values
pub typed_stand : (n : ℕ) (t : Option TypeTree) → is_some t ≡ true → AllStand (names_take (replicate n t) [])
typed_stand zero t e = tt
typed_stand (suc n) t e = (variable_known t e, typed_stand n t e)

-- ---- constants

constant_known : (t : Option TypeTree) (x : Stands) → is_constant x ≡ true → is_unknown (constant_in t x) ≡ false
constant_known None (sort.Constant u c) e = refl
constant_known None (sort.OpenConstant c) e = refl
constant_known (Some t) (sort.Constant u c) e = refl
constant_known (Some t) (sort.OpenConstant c) e = refl
constant_known t x e = cc

pub constant_is : (rights : Rights) (t : Option TypeTree) (x : Part) → constant_failing rights t x ≡ [] → is_constant (sort_of x) ≡ true
constant_is rights (Some t) x e = by (is_constant (sort_of x)) _ e
  where
    by : (b : Bool) (fs : List TypeFault) → cond b fs (at_part code.Operands x) ≡ [] → b ≡ true
    by true fs e = refl
    by false fs e = never_at code.Operands x e
constant_is rights None x e = by (is_constant (sort_of x)) _ e
  where
    by : (b : Bool) (fs : List TypeFault) → cond b fs (at_part code.Operands x) ≡ [] → b ≡ true
    by true fs e = refl
    by false fs e = never_at code.Operands x e

pub constants_stand : (rights : Rights) (t : Option TypeTree) (n : ℕ) (vs : List Part) → (n == length vs) ≡ true → constants_failing rights t vs ≡ [] → AllStand (constants_take t (replicate n t) vs)
constants_stand rights t zero vs c e = tt
constants_stand rights t (suc n) [] c e = no_more n c
constants_stand rights t (suc n) (x ∷ vs) c e =
    (constant_known t (sort_of x) (constant_is rights t x (first_none (constant_failing rights t x) (constants_failing rights t vs) e)), constants_stand rights t n vs (same_less n (length vs) c) (second_none (constant_failing rights t x) (constants_failing rights t vs) e))

pub constants_length : (t : Option TypeTree) (n : ℕ) (vs : List Part) → length (constants_take t (replicate n t) vs) ≡ n
constants_length t zero vs = refl
constants_length t (suc n) [] = ap suc (constants_length t n [])
constants_length t (suc n) (x ∷ vs) = ap suc (constants_length t n vs)
