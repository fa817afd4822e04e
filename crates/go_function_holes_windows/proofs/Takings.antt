-- What the parts of statements take: values take types, and names stand for what they are given.
use Rattle.std.proofs.Common.{◌≡◌, ◌∙◌, ℕ, zero, suc, Bool, true, false, List, [], ◌∷◌, ◌++◌, length, map, take, drop, replicate, Option, Some, None, refl, sym, ap, subst}
use Rattle.std.specs.Prelude.{◌||◌, not, ◌==◌}
use Rattle.std.specs.List.{list_any}
use Rattle.go_grammar.specs.declared.kind.Kind.{Kind}
use Rattle.go_grammar.specs.declared.kind.Kind.TheVariants as kind
use Rattle.go_grammar.specs.declared.kind.Operator.TheVariants as operator
use Rattle.go_grammar.specs.declared.kind.Sort.TheVariants as declaring
use Rattle.go_types.specs.Relations.{Rights}
use Rattle.go_types.specs.Trees.{TypeTree}
use Rattle.go_typed.specs.declared.form.Form.{Form}
use Rattle.go_typed.specs.declared.form.Form.TheVariants as form
use Rattle.go_typed.specs.Trees.{typed, Typeds, row, form_of, sort_of, parts_of}
use Rattle.go_typed.specs.Trees as sort
use Rattle.go_exprs_rules.specs.declared.family.OpenKind.{OpenKind}
use Rattle.go_exprs_rules.specs.declared.fault.TypeFault.{TypeFault}
use Rattle.go_exprs_rules.specs.Operators.{operation_takes}
use Rattle.go_exprs_rules.specs.Settling.{Part, Take, stay, default, as_type, settled, all_settled, defaulted}
use Rattle.go_exprs_rules.specs.Sorts.{own_type, open_kind, default_type, takes_type, retyped}
use Rattle.go_exprs_rules.specs.Tables.{Parts, present, on_two, is_lost, is_judged}
use Rattle.go_stmts_defs.specs.Assigning.{Wanted, Taking, takes, stands, type_or_default, variable, first_known, names_take, values_take}
use Rattle.go_stmts_defs.specs.Frames.{Frame, rights_of}
use Rattle.go_stmts_defs.specs.Rules.{names_in, target_type, rest, type_stands, elements_stand, range_types, range_stands, operand_takes, is_first_number, target_there, loop_takes, taking, given_part, all_given, built_by}
use Rattle.clone_window.specs.Masses.{is_constant, is_expression}
use Rattle.go_stmts_final_types.specs.Known.{is_object}
use Rattle.go_function_holes.proofs.Public.{OfHole, EachSound, both, differ, given-holes, retyped-constant, sound-known, ungiven}
use Rattle.go_function_holes_windows.proofs.Rows.{OneOf, Each, Good, Fine, IsBare, IsOwn, made-fine, bare-good}

-- ---- one part

abbrev pub IsTaken : Taking → Type 0
IsTaken (takes t) = Unit {0}
IsTaken (stands x) = ⊥

-- no name becomes a constant
abbrev pub IsPlain : Taking → Type 0
IsPlain (takes t) = Unit {0}
IsPlain (stands x) = is_constant x ≡ false

settled-alone : (t : TypeTree) (y : Part) → parts_of y ≡ sort.none → parts_of (settled t y) ≡ sort.none
settled-alone t (typed f i j l ps) e =
    both (λ (z : Part). parts_of z ≡ sort.none) (takes_type l.sort) (typed f i j (record l { sort = retyped t l.sort }) (all_settled t ps)) (typed f i j l ps) (ap (all_settled t) e) e

settled-form : (t : TypeTree) (y : Part) → form_of (settled t y) ≡ form_of y
settled-form t (typed f i j l ps) = both (λ (z : Part). form_of z ≡ f) (takes_type l.sort) (typed f i j (record l { sort = retyped t l.sort }) (all_settled t ps)) (typed f i j l ps) refl refl

settled-constant : (t : TypeTree) (y : Part) → is_constant (sort_of (settled t y)) ≡ is_constant (sort_of y)
settled-constant t (typed f i j l ps) =
    both (λ (z : Part). is_constant (sort_of z) ≡ is_constant l.sort) (takes_type l.sort) (typed f i j (record l { sort = retyped t l.sort }) (all_settled t ps)) (typed f i j l ps) (retyped-constant t l.sort) refl

settled-bare : (t : TypeTree) (y : Part) → IsBare y → IsBare (settled t y)
settled-bare t y h = record { alone = settled-alone t y h.alone; plain = settled-constant t y ∙ h.plain }

bare-given : (k : Taking) (y : Part) → IsPlain k → IsBare y → IsBare (given_part k y)
bare-given (takes stay) y e h = h
bare-given (takes default) y e h = by (open_kind (sort_of y))
  where
    by : (o : Option OpenKind) → IsBare (defaulted o y)
    by None = h
    by (Some c) = settled-bare (default_type c) y h
bare-given (takes (as_type t)) y e h = settled-bare t y h
bare-given (stands x) (typed f i j l ps) e h = record { alone = h.alone; plain = e }

settled-own : (t : TypeTree) (y : Part) → IsOwn y → IsOwn (settled t y)
settled-own t y h = record { alone = settled-alone t y h.alone; own = subst (λ f. is_object f ≡ false → is_expression f ≡ false) (sym (settled-form t y)) h.own }

own-given : (k : Taking) (y : Part) → IsOwn y → IsOwn (given_part k y)
own-given (takes stay) y h = h
own-given (takes default) y h = by (open_kind (sort_of y))
  where
    by : (o : Option OpenKind) → IsOwn (defaulted o y)
    by None = h
    by (Some c) = settled-own (default_type c) y h
own-given (takes (as_type t)) y h = settled-own t y h
own-given (stands x) (typed f i j l ps) h = record { alone = h.alone; own = h.own }

-- ---- rows

-- what all parts behind the first ones take
abbrev pub Taken : List Taking → Type 0
Taken [] = Unit {0}
Taken (k ∷ ks) = IsTaken k × Taken ks

abbrev pub Fit : ℕ → List Taking → Type 0
Fit zero ks = Taken ks
Fit (suc n) [] = Unit {0}
Fit (suc n) (k ∷ ks) = IsPlain k × Fit n ks

module _ (P : OfHole) where
  -- the first parts are names
  abbrev pub NamesFirst : ℕ → Parts → Type 0
  NamesFirst zero ys = Each (Good P) ys
  NamesFirst (suc n) [] = Unit {0}
  NamesFirst (suc n) (y ∷ ys) = OneOf IsBare y × NamesFirst n ys

  names-good : (n : ℕ) (ys : Parts) → NamesFirst n ys → Each (Good P) ys
  names-good zero ys h = h
  names-good (suc n) [] h = tt
  names-good (suc n) (None ∷ ys) h = (tt, names-good n ys h.1)
  names-good (suc n) (Some y ∷ ys) h = (bare-good P y h.0, names-good n ys h.1)

  pub names-front : (ns ys : Parts) → Each IsBare ns → Each (Good P) ys → NamesFirst (length ns) (ns ++ ys)
  names-front [] ys h g = g
  names-front (n ∷ ns) ys h g = (h.0, names-front ns ys h.1 g)

  given-good : (k : Taking) (y : Part) → IsTaken k → Good P y → Good P (given_part k y)
  given-good (takes t) y e h = λ s. given-holes P t y (h (ungiven t y s))
  given-good (stands x) y e h = absurd e

  pub given-row : (n : ℕ) (ks : List Taking) (ys : Parts) → Fit n ks → NamesFirst n ys → Each (Good P) (all_given ks ys)
  given-row zero [] ys t h = h
  given-row zero (k ∷ ks) [] t h = tt
  given-row zero (k ∷ ks) (None ∷ ys) t h = (tt, given-row zero ks ys t.1 h.1)
  given-row zero (k ∷ ks) (Some y ∷ ys) t h = (given-good k y t.0 h.0, given-row zero ks ys t.1 h.1)
  given-row (suc n) [] ys t h = names-good (suc n) ys h
  given-row (suc n) (k ∷ ks) [] t h = tt
  given-row (suc n) (k ∷ ks) (None ∷ ys) t h = (tt, given-row n ks ys t.1 h.1)
  given-row (suc n) (k ∷ ks) (Some y ∷ ys) t h = (bare-good P (given_part k y) (bare-given k y t.0 h.0), given-row n ks ys t.1 h.1)

  -- a node in which no rule fails
  pub built-fine : (s : Frame) (k : Kind) (f : Form) (i j : ℕ) (ys : Parts) (own : List TypeFault) (n : ℕ) → own ≡ [] → Fit n (taking s k f ys) → NamesFirst n ys → Fine P (built_by s k f i j ys own)
  built-fine s k f i j ys [] n e t h = made-fine P f i j ys (all_given (taking s k f ys) ys) (given-row n (taking s k f ys) ys t h)
  built-fine s k f i j ys (x ∷ xs) n e t h = absurd cc

pub given-sound : (ks : List Taking) (ys : Parts) → Taken ks → EachSound (all_given ks ys) → EachSound ys
given-sound [] ys t h = h
given-sound (k ∷ ks) [] t h = tt
given-sound (k ∷ ks) (None ∷ ys) t h = (tt, given-sound ks ys t.1 h.1)
given-sound (takes t ∷ ks) (Some y ∷ ys) e h = (ungiven t y h.0, given-sound ks ys e.1 h.1)
given-sound (stands x ∷ ks) (Some y ∷ ys) e h = absurd e.0

none-lost : (ys : Parts) → EachSound ys → list_any is_lost ys ≡ false
none-lost [] h = refl
none-lost (None ∷ ys) h = none-lost ys h.1
none-lost (Some y ∷ ys) h = ap (λ b. b || list_any is_lost ys) (sound-known y h.0) ∙ none-lost ys h.1

pub sound-judged : (ys : Parts) → EachSound ys → is_judged ys ≡ true
sound-judged ys h = ap not (none-lost ys h)

-- ---- the first parts

-- so many parts keep what they are, where they are names of the function
abbrev pub FirstOwn : ℕ → Parts → Type 0
FirstOwn zero ys = Unit {0}
FirstOwn (suc n) [] = Unit {0}
FirstOwn (suc n) (y ∷ ys) = OneOf IsOwn y × FirstOwn n ys

pub first-front : (ns ys : Parts) → Each IsOwn ns → FirstOwn (length ns) (ns ++ ys)
first-front [] ys h = tt
first-front (n ∷ ns) ys h = (h.0, first-front ns ys h.1)

pub first-given : (n : ℕ) (ks : List Taking) (ys : Parts) → FirstOwn n ys → FirstOwn n (all_given ks ys)
first-given zero ks ys h = tt
first-given (suc n) [] ys h = h
first-given (suc n) (k ∷ ks) [] h = tt
first-given (suc n) (k ∷ ks) (None ∷ ys) h = (tt, first-given n ks ys h.1)
first-given (suc n) (k ∷ ks) (Some y ∷ ys) h = (own-given k y h.0, first-given n ks ys h.1)

pub first-taken : (n : ℕ) (ys : Parts) → FirstOwn n ys → Each IsOwn (take n ys)
first-taken zero ys h = tt
first-taken (suc n) [] h = tt
first-taken (suc n) (y ∷ ys) h = (h.0, first-taken n ys h.1)

-- ---- what kinds of nodes give

maps-taken : (ks : List Take) → Taken (map takes ks)
maps-taken [] = tt
maps-taken (k ∷ ks) = (tt, maps-taken ks)

rest-taken : (n : ℕ) (ks : List Taking) → Taken ks → Taken (rest n ++ ks)
rest-taken zero ks h = h
rest-taken (suc n) ks h = (tt, rest-taken n ks h)

one-taken : (o : Option TypeTree) → IsTaken (type_or_default o)
one-taken (Some t) = tt
one-taken None = tt

default-taken : (n : ℕ) (o : Option TypeTree) → Taken (replicate n (type_or_default o))
default-taken zero o = tt
default-taken (suc n) o = (one-taken o, default-taken n o)

types-taken : (ts : List TypeTree) → Taken (map (λ t. takes (as_type t)) ts)
types-taken [] = tt
types-taken (t ∷ ts) = (tt, types-taken ts)

values-taken : (ts : Wanted) (xs : List Part) → Taken (values_take ts xs)
values-taken ts [] = tt
values-taken [] (x ∷ xs) = (tt, values-taken [] xs)
values-taken (t ∷ ts) (x ∷ xs) = (one-taken t, values-taken ts xs)

two-taken : (ys : Parts) (g : Part → Part → List Take) → Taken (on_two [] (λ x y. map takes (g x y)) ys)
two-taken [] g = tt
two-taken (None ∷ ys) g = tt
two-taken (Some x ∷ []) g = tt
two-taken (Some x ∷ None ∷ ys) g = tt
two-taken (Some x ∷ Some y ∷ []) g = maps-taken (g x y)
two-taken (Some x ∷ Some y ∷ z ∷ zs) g = tt

pub loop-taken : (f : Form) (ys : Parts) → Taken (loop_takes f ys)
loop-taken (form.Range d n) ys =
    rest-taken n (operand_takes n ys ∷ []) (both IsTaken (is_first_number (drop n ys)) (type_or_default (target_there n ys)) (takes default) (one-taken (target_there n ys)) tt, tt)
loop-taken f ys = (tt, (tt, tt))

-- kinds that declare no names
abbrev pub declares_none : Kind → Bool
declares_none kind.Define = false
declares_none kind.DefiningRange = false
declares_none (kind.Specification declaring.Variable) = false
declares_none (kind.Specification declaring.Constant) = false
declares_none k = true

pub none-declared : (s : Frame) (k : Kind) (f : Form) (ys : Parts) → declares_none k ≡ true → Taken (taking s k f ys)
none-declared s (kind.OperatorAssignment o) f ys e = two-taken ys (λ x y. operation_takes (rights_of s) (operator.Compute o) (sort_of x) (sort_of y))
none-declared s kind.Assignment f ys e =
    let ts = take (names_in f) (present ys) in let vs = drop (names_in f) (present ys) in rest-taken (length ts) (values_take (map target_type ts) vs) (values-taken (map target_type ts) vs)
none-declared s kind.Return f ys e = both Taken (length s.results == length (present ys)) (map (λ t. takes (as_type t)) s.results) [] (types-taken s.results) tt
none-declared s kind.If f ys e = (tt, (tt, tt))
none-declared s kind.For f ys e = loop-taken f ys
none-declared s kind.Switch f ys e = (tt, (tt, tt))
none-declared s kind.Case f ys e = default-taken (names_in f) (own_type s.tag)
none-declared s kind.Define f ys e = absurd (differ e)
none-declared s kind.DefiningRange f ys e = absurd (differ e)
none-declared s (kind.Specification declaring.Variable) f ys e = absurd (differ e)
none-declared s (kind.Specification declaring.Constant) f ys e = absurd (differ e)
none-declared s (kind.Specification declaring.Type) f ys e = tt
none-declared s k f ys e = tt

-- ---- names

variable-plain : (o : Option TypeTree) → is_constant (variable o) ≡ false
variable-plain (Some t) = refl
variable-plain None = refl

taken-fit : (n : ℕ) (ks : List Taking) → Taken ks → Fit n ks
taken-fit zero ks h = h
taken-fit (suc n) [] h = tt
taken-fit (suc n) (takes t ∷ ks) h = (tt, taken-fit n ks h.1)
taken-fit (suc n) (stands x ∷ ks) h = absurd h.0

pub names-fit : (g : Part → Option TypeTree) (n : ℕ) (xs : List Part) (us : Wanted) (ks : List Taking) → Taken ks → Fit n (names_take (map g (take n xs)) us ++ ks)
names-fit g zero xs us ks h = h
names-fit g (suc n) [] us ks h = taken-fit (suc n) ks h
names-fit g (suc n) (x ∷ xs) [] ks h = (variable-plain (g x), names-fit g n xs [] ks h)
names-fit g (suc n) (x ∷ xs) (u ∷ us) ks h = (variable-plain (first_known (g x) u), names-fit g n xs us ks h)

pub variables-fit : (n : ℕ) (t : Option TypeTree) (us : Wanted) (ks : List Taking) → Taken ks → Fit n (names_take (replicate n t) us ++ ks)
variables-fit zero t us ks h = h
variables-fit (suc n) t [] ks h = (variable-plain t, variables-fit n t [] ks h)
variables-fit (suc n) t (u ∷ us) ks h = (variable-plain (first_known t u), variables-fit n t us ks h)

unknown-fit : (n : ℕ) → Fit n (replicate n (stands sort.Unknown))
unknown-fit zero = tt
unknown-fit (suc n) = (refl, unknown-fit n)

types-fit : (n : ℕ) (rs : List TypeTree) → Fit n (take n (map type_stands rs))
types-fit zero rs = tt
types-fit (suc n) [] = tt
types-fit (suc n) (r ∷ rs) = (refl, types-fit n rs)

elements-fit : (n : ℕ) (o : Option (List TypeTree)) → Fit n (elements_stand n o)
elements-fit n (Some rs) = types-fit n rs
elements-fit n None = unknown-fit n

nothing-fit : (n : ℕ) → Fit n []
nothing-fit zero = tt
nothing-fit (suc n) = tt

pub range-fit : (rights : Rights) (n : ℕ) (o : Option Part) → Fit n (range_stands rights n o)
range-fit rights n (Some x) = elements-fit n (range_types rights x)
range-fit rights n None = nothing-fit n

pub values-fit : (ts : Wanted) (xs : List Part) → Taken (values_take ts xs)
values-fit ts xs = values-taken ts xs
