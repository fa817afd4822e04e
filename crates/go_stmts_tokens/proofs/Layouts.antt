-- Parts of statements and declarations lie in order as they are laid out.
use Rattle.std.proofs.Common.{◌≡◌, ℕ, ◌<◌, ◌≤◌, Bool, true, false, List, [], ◌∷◌, ◌++◌, length, map, take, Option, Some, None, refl, sym, subst, arith}
use Rattle.std.specs.Prelude.{if◌then◌else◌}
use Rattle.go_grammar.specs.declared.kind.Kind.{Kind}
use Rattle.go_grammar.specs.declared.kind.Kind.TheVariants as kind
use Rattle.go_grammar.specs.declared.kind.Sort.TheVariants as declaring
use Rattle.go_types.specs.Trees.{TypeTree}
use Rattle.go_typed.specs.declared.form.Form.{Form}
use Rattle.go_typed.specs.declared.form.Form.TheVariants as form
use Rattle.go_typed.specs.Trees.{Label, typed, Typeds, list_of, last_of}
use Rattle.go_exprs_rules.specs.Settling.{Part}
use Rattle.go_exprs_rules.specs.Tables.{Parts, held, all_held, first_cut, behind_first}
use Rattle.go_stmts_defs.specs.Assigning.{Taking, takes, stands}
use Rattle.go_stmts_defs.specs.Frames.{Frame, Locals}
use Rattle.go_stmts_defs.specs.Laying.{layout, new_name, is_values, typed_or_not, specification_parts, names_count, all_names, is_group, specifications}
use Rattle.go_stmts_defs.specs.Laying.{header_parts, if_parts, switch_parts, loop_header, for_parts, without_absent}
use Rattle.go_stmts_defs.specs.Rules.{given_part, all_given}
use Rattle.go_stmts_tokens.specs.Lying.{Lies}
use Rattle.go_stmts_tokens.proofs.Lying.{EachLie, either_parts, last_given, given_lies, wider, ends, spans, exact, each_wider, append_lie, one_lies, list_lies, take_lies, held_lie, option_lies, all_held_lie, behind_lie, first_cut_lie}
use Rattle.go_stmts_tokens.proofs.Trees.{differ}

-- ---- what parts take

last_part : (k : Taking) (x : Part) → last_of (given_part k x) ≡ last_of x
last_part (takes k) x = last_given k x
last_part (stands y) (typed f i j l ps) = refl

part_lies : (a b : ℕ) (k : Taking) (x : Part) → Lies a b x → Lies a b (given_part k x)
part_lies a b (takes k) x h = given_lies k a b x h
part_lies a b (stands y) (typed f i j l ps) h = h

pub all_given_lie : (a b : ℕ) (ks : List Taking) (ys : Parts) → EachLie a b ys → EachLie a b (all_given ks ys)
all_given_lie a b [] ys h = h
all_given_lie a b (k ∷ ks) [] h = h
all_given_lie a b (k ∷ ks) (None ∷ ys) h = all_given_lie a b ks ys h
all_given_lie a b (k ∷ ks) (Some y ∷ ys) h = (part_lies a b k y h.0, subst (λ m. EachLie m b (all_given ks ys)) (sym (last_part k y)) (all_given_lie (last_of y) b ks ys h.1))

-- the first ones of those that take something
pub front_given_lie : (a b : ℕ) (ks : List Taking) (xs ys : Parts) → EachLie a b xs → EachLie a b (take (length xs) (all_given ks (xs ++ ys)))
front_given_lie a b ks [] ys h = h
front_given_lie a b [] (None ∷ xs) ys h = front_given_lie a b [] xs ys h
front_given_lie a b [] (Some x ∷ xs) ys h = (h.0, front_given_lie (last_of x) b [] xs ys h.1)
front_given_lie a b (k ∷ ks) (None ∷ xs) ys h = front_given_lie a b ks xs ys h
front_given_lie a b (k ∷ ks) (Some x ∷ xs) ys h =
    (part_lies a b k x h.0, subst (λ m. EachLie m b (take (length xs) (all_given ks (xs ++ ys)))) (sym (last_part k x)) (front_given_lie (last_of x) b ks xs ys h.1))

-- ---- layouts

-- the first part, and the others
split_lie : (a z : ℕ) (x : Option Part) (xs : Parts) → EachLie a z (x ∷ xs) → (m : ℕ) × EachLie a m (x ∷ []) × EachLie m z xs
split_lie a z None xs h = (a, (let u : a ≤ a = omega arith in u), h)
split_lie a z (Some x) xs h = (last_of x, one_lies a (last_of x) x (exact a z x h.0), h.1)

absent_lie : (a b : ℕ) (xs : Parts) → EachLie a b xs → EachLie a b (without_absent xs)
absent_lie a b [] h = h
absent_lie a b (None ∷ xs) h = absent_lie a b xs h
absent_lie a b (Some x ∷ xs) h = (h.0, absent_lie (last_of x) b xs h.1)

all_new_lie : (ls : Locals) (a b : ℕ) (xs : Parts) → EachLie a b xs → EachLie a b (map (new_name ls) xs)
all_new_lie ls a b [] h = h
all_new_lie ls a b (None ∷ xs) h = all_new_lie ls a b xs h
all_new_lie ls a b (Some (typed f i j l ps) ∷ xs) h = (h.0, all_new_lie ls j b xs h.1)

optional_lie : (a b : ℕ) (x : Option Part) → EachLie a b (x ∷ []) → EachLie a b (typed_or_not x)
optional_lie a b None h = h
optional_lie a b (Some x) h = either_parts (EachLie a b) (is_values (Some x)) (None ∷ held (Some x)) (held (Some x)) (held_lie a b x h.0) (held_lie a b x h.0)

specification_lie : (a b : ℕ) (xs : Parts) → EachLie a b xs → EachLie a b (specification_parts xs)
specification_lie a b [] h = h
specification_lie a b (x ∷ []) h = h
specification_lie a b (ns ∷ x ∷ []) h =
    let s = split_lie a b ns (x ∷ []) h in
    append_lie a s.0 b (held ns) (first_cut (typed_or_not x)) (option_lies a s.0 ns s.1) (first_cut_lie s.0 b (typed_or_not x) (optional_lie s.0 b x s.2))
specification_lie a b (x ∷ y ∷ z ∷ xs) h = h

inner_lie : (a b : ℕ) (f : Form) (i j : ℕ) (l : Label TypeTree) (ps : Typeds TypeTree) → Lies a b (typed f i j l ps) → EachLie a b (list_of ps)
inner_lie a b f i j l ps h = each_wider i j a b (list_of ps) h.0 h.2 (list_lies i j ps h.3)

group_lie : (a b : ℕ) (xs : Parts) → EachLie a b xs → EachLie a b (specifications xs)
group_lie a b [] h = h
group_lie a b (None ∷ xs) h = h
group_lie a b (Some (typed f i j l ps) ∷ []) h = either_parts (EachLie a b) (is_group f) (list_of ps) (Some (typed f i j l ps) ∷ []) (inner_lie a b f i j l ps h.0) h
group_lie a b (Some x ∷ y ∷ xs) h = h

header_lie : (a b : ℕ) (x : Option Part) → EachLie a b (x ∷ []) → EachLie a b (header_parts x)
header_lie a b (Some (typed (form.Held kind.LateCondition) i j l ps)) h = inner_lie a b (form.Held kind.LateCondition) i j l ps h.0
header_lie a b (Some (typed (form.Held kind.LateTag) i j l ps)) h = inner_lie a b (form.Held kind.LateTag) i j l ps h.0
header_lie a b (Some (typed (form.Held kind.InitializedCondition) i j l ps)) h = inner_lie a b (form.Held kind.InitializedCondition) i j l ps h.0
header_lie a b (Some (typed (form.Held kind.InitializedTag) i j l ps)) h = inner_lie a b (form.Held kind.InitializedTag) i j l ps h.0
header_lie a b x h = h

loop_header_lie : (a b : ℕ) (x : Option Part) → EachLie a b (x ∷ []) → EachLie a b (loop_header x)
loop_header_lie a b None h = h
loop_header_lie a b (Some (typed (form.Held kind.ForClause) i j l ps)) h = inner_lie a b (form.Held kind.ForClause) i j l ps h.0
loop_header_lie a b (Some (typed (form.Held k) i j l ps)) h = inner_lie a b (form.Held k) i j l ps h.0
loop_header_lie a b (Some x) h = h

if_lie : (a b : ℕ) (xs : Parts) → EachLie a b xs → EachLie a b (if_parts xs)
if_lie a b [] h = h
if_lie a b (x ∷ []) h = h
if_lie a b (x ∷ y ∷ []) h = h
if_lie a b (c ∷ t ∷ e ∷ []) h =
    let x = split_lie a b c (t ∷ e ∷ []) h in
    let y = split_lie x.0 b t (e ∷ []) x.2 in
    append_lie a x.0 b (header_parts c) (t ∷ held e) (header_lie a x.0 c x.1) (append_lie x.0 y.0 b (t ∷ []) (held e) y.1 (option_lies y.0 b e y.2))
if_lie a b (c ∷ t ∷ e ∷ z ∷ zs) h = h

switch_lie : (a b : ℕ) (xs : Parts) → EachLie a b xs → EachLie a b (switch_parts xs)
switch_lie a b [] h = h
switch_lie a b (x ∷ xs) h = let s = split_lie a b x xs h in append_lie a s.0 b (header_parts x) xs (header_lie a s.0 x s.1) s.2

for_lie : (a b : ℕ) (xs : Parts) → EachLie a b xs → EachLie a b (for_parts xs)
for_lie a b [] h = h
for_lie a b (x ∷ xs) h = let s = split_lie a b x xs h in append_lie a s.0 b (loop_header x) xs (loop_header_lie a s.0 x s.1) s.2

-- all but what declares constants or types
abbrev pub is_told : Kind → Bool
is_told (kind.Specification declaring.Constant) = false
is_told (kind.Specification declaring.Type) = false
is_told (kind.Declaration declaring.Constant) = false
is_told (kind.Declaration declaring.Type) = false
is_told k = true

pub layout_lie : (s : Frame) (k : Kind) (i a b : ℕ) (xs : Parts) → is_told k ≡ true → EachLie a b xs → EachLie a b (layout s k i xs)
layout_lie s kind.Targets i a b xs e h = all_held_lie a b xs h
layout_lie s kind.NewNames i a b xs e h = all_new_lie s.locals a b (all_held xs) (all_held_lie a b xs h)
layout_lie s kind.Values i a b xs e h = all_held_lie a b xs h
layout_lie s kind.TypedValues i a b xs e h = all_held_lie a b xs h
layout_lie s (kind.Specification declaring.Type) i a b xs e h = differ e
layout_lie s (kind.Specification declaring.Constant) i a b xs e h = differ e
layout_lie s (kind.Specification declaring.Variable) i a b xs e h = specification_lie a b xs h
layout_lie s (kind.Declaration declaring.Variable) i a b xs e h = group_lie a b xs h
layout_lie s (kind.Declaration declaring.Constant) i a b xs e h = differ e
layout_lie s (kind.Declaration declaring.Type) i a b xs e h = differ e
layout_lie s kind.Assignment i a b xs e h = all_held_lie a b xs h
layout_lie s kind.Define i a b xs e h = all_held_lie a b xs h
layout_lie s kind.Case i a b xs e h = all_held_lie a b xs h
layout_lie s kind.Return i a b xs e h = absent_lie a b (all_held xs) (all_held_lie a b xs h)
layout_lie s kind.If i a b xs e h = if_lie a b xs h
layout_lie s kind.Switch i a b xs e h = switch_lie a b xs h
layout_lie s kind.For i a b xs e h = for_lie a b xs h
layout_lie s kind.AssigningRange i a b xs e h = all_held_lie a b xs h
layout_lie s kind.DefiningRange i a b xs e h = all_held_lie a b xs h
layout_lie s kind.FunctionDeclaration i a b xs e h = absent_lie a b (behind_first xs) (behind_lie a b xs h)
layout_lie s k i a b xs e h = h

-- ---- names that a declaration of constants or types keeps

-- The tokens of a specification lie from a up to b, and those of its names one behind the other among them. Nothing is asked of the values of
-- constants, which may be those of a specification in front of it.
abbrev pub NamesLie : (a b : ℕ) → Part → Type 0
NamesLie a b (typed f i j l ps) = (a ≤ i) × (i < j) × (j ≤ b) × EachLie i j (take (names_count f) (list_of ps))

abbrev pub EachNamesLie : (a b : ℕ) → Parts → Type 0
EachNamesLie a b [] = a ≤ b
EachNamesLie a b (None ∷ xs) = EachNamesLie a b xs
EachNamesLie a b (Some x ∷ xs) = NamesLie a b x × EachNamesLie (last_of x) b xs

-- so do those of a specification, or of all in a group
abbrev pub InnerLies : (a b : ℕ) → Part → Type 0
InnerLies a b (typed f i j l ps) = NamesLie a b (typed f i j l ps) × (is_group f ≡ true → EachNamesLie i j (list_of ps))

names_of : (a b : ℕ) (x : Part) → Lies a b x → NamesLie a b x
names_of a b (typed f i j l ps) h = (h.0, h.1, h.2, take_lies (names_count f) i j (list_of ps) (list_lies i j ps h.3))

each_names_of : (a b : ℕ) (xs : Parts) → EachLie a b xs → EachNamesLie a b xs
each_names_of a b [] h = h
each_names_of a b (None ∷ xs) h = each_names_of a b xs h
each_names_of a b (Some x ∷ xs) h = (names_of a b x h.0, each_names_of (last_of x) b xs h.1)

pub inner_of : (a b : ℕ) (x : Part) → Lies a b x → InnerLies a b x
inner_of a b (typed f i j l ps) h = (names_of a b (typed f i j l ps) h, λ e. each_names_of i j (list_of ps) (list_lies i j ps h.3))

-- ---- parts that may be such

abbrev pub Of : Bool → (a b : ℕ) → Part → Type 0
Of true a b x = InnerLies a b x
Of false a b x = Lies a b x

abbrev pub EachOf : Bool → (a b : ℕ) → Parts → Type 0
EachOf w a b [] = a ≤ b
EachOf w a b (None ∷ xs) = EachOf w a b xs
EachOf w a b (Some x ∷ xs) = Of w a b x × EachOf w (last_of x) b xs

pub fitting : (w o : Bool) (a b : ℕ) (x : Part) → (w ≡ true → o ≡ true) → Of w a b x → Of o a b x
fitting true true a b x e h = h
fitting true false a b x e h = differ (e refl)
fitting false true a b x e h = inner_of a b x h
fitting false false a b x e h = h

inner_wider : (a b c d : ℕ) (x : Part) → c ≤ a → b ≤ d → InnerLies a b x → InnerLies c d x
inner_wider a b c d (typed f i j l ps) u v h = ((omega (arith, u, h.0.0), h.0.1, omega (arith, v, h.0.2), h.0.3), h.1)

pub of_wider : (w : Bool) (a b c d : ℕ) (x : Part) → c ≤ a → b ≤ d → Of w a b x → Of w c d x
of_wider true a b c d x u v h = inner_wider a b c d x u v h
of_wider false a b c d x u v h = wider a b c d x u v h

of_spans : (w : Bool) (a b : ℕ) (x : Part) → Of w a b x → (a < last_of x) × (last_of x ≤ b)
of_spans true a b (typed f i j l ps) h = (omega (arith, h.0.0, h.0.1), h.0.2)
of_spans false a b x h = (spans a b x h, ends a b x h)

pub each_of_wider : (w : Bool) (a b c d : ℕ) (xs : Parts) → c ≤ a → b ≤ d → EachOf w a b xs → EachOf w c d xs
each_of_wider w a b c d [] u v h = omega (arith, u, v, h)
each_of_wider w a b c d (None ∷ xs) u v h = each_of_wider w a b c d xs u v h
each_of_wider w a b c d (Some x ∷ xs) u v h = (of_wider w a b c d x u v h.0, each_of_wider w (last_of x) b (last_of x) d xs (omega arith) v h.1)

each_of_order : (w : Bool) (a b : ℕ) (xs : Parts) → EachOf w a b xs → a ≤ b
each_of_order w a b [] h = h
each_of_order w a b (None ∷ xs) h = each_of_order w a b xs h
each_of_order w a b (Some x ∷ xs) h = let s = of_spans w a b x h.0 in omega (arith, s.0, s.1)

pub append_of : (w : Bool) (a m b : ℕ) (xs ys : Parts) → EachOf w a m xs → EachOf w m b ys → EachOf w a b (xs ++ ys)
append_of w a m b [] ys h g = each_of_wider w m b a b ys h (omega arith) g
append_of w a m b (None ∷ xs) ys h g = append_of w a m b xs ys h g
append_of w a m b (Some x ∷ xs) ys h g = (of_wider w a m a b x (omega arith) (each_of_order w m b ys g) h.0, append_of w (last_of x) m b xs ys h.1 g)

pub one_of : (w : Bool) (a b : ℕ) (x : Part) → Of w a b x → EachOf w a b (Some x ∷ [])
one_of w a b x h = let s = of_spans w a b x h in (h, s.1)

pub strict : (a b : ℕ) (xs : Parts) → EachOf false a b xs → EachLie a b xs
strict a b [] h = h
strict a b (None ∷ xs) h = strict a b xs h
strict a b (Some x ∷ xs) h = (h.0, strict (last_of x) b xs h.1)

inner_names : (a b : ℕ) (x : Part) → InnerLies a b x → NamesLie a b x
inner_names a b (typed f i j l ps) h = h.0

pub inner_row : (a b : ℕ) (xs : Parts) → EachOf true a b xs → EachNamesLie a b xs
inner_row a b [] h = h
inner_row a b (None ∷ xs) h = inner_row a b xs h
inner_row a b (Some x ∷ xs) h = (inner_names a b x h.0, inner_row (last_of x) b xs h.1)

-- ---- the names of all specifications

names_wider : (a b c d : ℕ) (x : Part) → c ≤ a → b ≤ d → NamesLie a b x → NamesLie c d x
names_wider a b c d (typed f i j l ps) u v h = (omega (arith, u, h.0), h.1, omega (arith, v, h.2), h.3)

each_names_wider : (a b c d : ℕ) (xs : Parts) → c ≤ a → b ≤ d → EachNamesLie a b xs → EachNamesLie c d xs
each_names_wider a b c d [] u v h = omega (arith, u, v, h)
each_names_wider a b c d (None ∷ xs) u v h = each_names_wider a b c d xs u v h
each_names_wider a b c d (Some x ∷ xs) u v h = (names_wider a b c d x u v h.0, each_names_wider (last_of x) b (last_of x) d xs (omega arith) v h.1)

chosen : (P : Parts → Type 0) (b : Bool) (xs ys : Parts) → (b ≡ true → P xs) → P ys → P (if b then xs else ys)
chosen P true xs ys f h = f refl
chosen P false xs ys f h = h

specifications_lie : (a b : ℕ) (xs : Parts) → EachOf true a b xs → EachNamesLie a b (specifications xs)
specifications_lie a b [] h = h
specifications_lie a b (None ∷ xs) h = inner_row a b xs h
specifications_lie a b (Some (typed f i j l ps) ∷ []) h =
    chosen (EachNamesLie a b) (is_group f) (list_of ps) (Some (typed f i j l ps) ∷ []) (λ e. each_names_wider i j a b (list_of ps) h.0.0.0 h.0.0.2 (h.0.1 e)) (h.0.0, h.1)
specifications_lie a b (Some x ∷ y ∷ xs) h = inner_row a b (Some x ∷ y ∷ xs) h

all_names_lie : (a b : ℕ) (xs : Parts) → EachNamesLie a b xs → EachLie a b (all_names xs)
all_names_lie a b [] h = h
all_names_lie a b (None ∷ xs) h = all_names_lie a b xs h
all_names_lie a b (Some (typed f i j l ps) ∷ xs) h =
    append_lie a j b (take (names_count f) (list_of ps)) (all_names xs) (each_wider i j a j (take (names_count f) (list_of ps)) h.0.0 (omega arith) h.0.3) (all_names_lie j b xs h.1)

pub declared_lie : (a b : ℕ) (xs : Parts) → EachOf true a b xs → EachLie a b (all_names (specifications xs))
declared_lie a b xs h = all_names_lie a b (specifications xs) (specifications_lie a b xs h)
