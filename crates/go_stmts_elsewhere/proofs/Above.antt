-- Nodes above a gap.
use Rattle.std.proofs.Common.{◌≡◌, ◌∙◌, ℕ, zero, suc, Bool, true, false, List, [], ◌∷◌, ◌++◌, length, Option, Some, None, refl, sym, ap, subst, cond}
use Rattle.std.specs.Prelude.{◌||◌, not, if◌then◌else◌, nat_lt, take, drop, replicate}
use Rattle.std.specs.List.{list_any}
use Rattle.go_base.specs.declared.fault.FaultCode.TheVariants as code
use Rattle.go_grammar.specs.declared.kind.Comparison.TheVariants as comparison
use Rattle.go_grammar.specs.declared.kind.Kind.{Kind}
use Rattle.go_grammar.specs.declared.kind.Kind.TheVariants as kind
use Rattle.go_types.specs.Trees.{TypeTree}
use Rattle.go_types.specs.Relations.{Rights}
use Rattle.go_typed.specs.declared.form.Form.{Form}
use Rattle.go_typed.specs.declared.form.Form.TheVariants as form
use Rattle.go_typed.specs.Trees.{Label, typed, Typeds, list_of, sort_of}
use Rattle.go_typed.specs.Trees as sort
use Rattle.go_exprs_rules.specs.declared.fault.TypeFault.{TypeFault}
use Rattle.go_exprs_rules.specs.Faults.{fault_at}
use Rattle.go_exprs_rules.specs.Operators.{Common, in_type, in_kind, compared_in, compared_failing_in}
use Rattle.go_exprs_rules.specs.Settling.{Part, Take, stay, default, as_type}
use Rattle.go_exprs_rules.specs.Sorts.{Stands, is_unknown, own_type}
use Rattle.go_exprs_rules.specs.Tables.{Parts, is_held, held, all_held, present, is_lost, is_variable_name}
use Rattle.go_stmts_defs.specs.Assigning.{Taking, takes, type_or_default}
use Rattle.go_stmts_defs.specs.Frames.{Frame, rights_of}
use Rattle.go_stmts_defs.specs.Laying.{first_count, header_parts, if_parts, switch_parts, loop_header, for_parts, layout, loop_form, first_loop_form, form_by}
use Rattle.go_stmts_defs.specs.Rules.{each, not_a_target, target_type, condition_failing, second_condition, tag_failing, second_tag, tag_at, case_failing, range_types, element_unassigned, elements_unassigned, number_target, range_assigned, targets_failing, range_failing, loop_failing}
use Rattle.go_stmts_defs.specs.Rules.{names_in, failing, rest, is_first_number, first_type, target_there, operand_takes, loop_takes, taking, judges, own_faults, given_optional, all_given}
use Rattle.go_stmts_defs.specs.Targets.{through, is_variable, first_varies}
use Rattle.go_stmts_elsewhere.specs.Above.{Container, a_block, an_if, a_switch, a_for, a_range, a_case, a_default, form_in, quiet, Similar, same, loose, elsed, AllSimilar, no_parts, next_parts, IsAbove, NodesAbove}

-- ---- containers

unheld : (c : Container) → is_held (form_in c) ≡ false
unheld a_block = refl
unheld an_if = refl
unheld a_switch = refl
unheld a_for = refl
unheld (a_range b n) = refl
unheld (a_case n) = refl
unheld a_default = refl

pub plain_header : (c : Container) (i j : ℕ) (l : Label TypeTree) (ps : Typeds TypeTree) → header_parts (Some (typed (form_in c) i j l ps)) ≡ None ∷ Some (typed (form_in c) i j l ps) ∷ []
plain_header a_block i j l ps = refl
plain_header an_if i j l ps = refl
plain_header a_switch i j l ps = refl
plain_header a_for i j l ps = refl
plain_header (a_range b n) i j l ps = refl
plain_header (a_case n) i j l ps = refl
plain_header a_default i j l ps = refl

pub plain_loop : (c : Container) (i j : ℕ) (l : Label TypeTree) (ps : Typeds TypeTree) → loop_header (Some (typed (form_in c) i j l ps)) ≡ None ∷ Some (typed (form_in c) i j l ps) ∷ None ∷ []
plain_loop a_block i j l ps = refl
plain_loop an_if i j l ps = refl
plain_loop a_switch i j l ps = refl
plain_loop a_for i j l ps = refl
plain_loop (a_range b n) i j l ps = refl
plain_loop (a_case n) i j l ps = refl
plain_loop a_default i j l ps = refl

plain_form : (c : Container) (i j : ℕ) (l : Label TypeTree) (ps : Typeds TypeTree) → loop_form (Some (typed (form_in c) i j l ps)) ≡ form.For
plain_form a_block i j l ps = refl
plain_form an_if i j l ps = refl
plain_form a_switch i j l ps = refl
plain_form a_for i j l ps = refl
plain_form (a_range b n) i j l ps = refl
plain_form (a_case n) i j l ps = refl
plain_form a_default i j l ps = refl

module _ (rights : Rights) where
  unnamed : (c : Container) → is_variable_name (form_in c) sort.Nothing ≡ false
  unnamed a_block = refl
  unnamed an_if = refl
  unnamed a_switch = refl
  unnamed a_for = refl
  unnamed (a_range b n) = refl
  unnamed (a_case n) = refl
  unnamed a_default = refl

  closed_through : (c : Container) (x : Stands) (b : Bool) → through rights (form_in c) x b ≡ false
  closed_through a_block x b = refl
  closed_through an_if x b = refl
  closed_through a_switch x b = refl
  closed_through a_for x b = refl
  closed_through (a_range d n) x b = refl
  closed_through (a_case n) x b = refl
  closed_through a_default x b = refl

  first_still : (c : Container) (ps : Typeds TypeTree) → first_varies rights (form_in c) ps ≡ false
  first_still c sort.none = refl
  first_still c (sort.more p ps) = closed_through c (sort_of p) (is_variable rights p)
  first_still c (sort.skip ps) = refl

  no_variable : (c : Container) (i j : ℕ) (a b : Bool) (ps : Typeds TypeTree) → is_variable rights (typed (form_in c) i j (quiet a b) ps) ≡ false
  no_variable c i j a b ps = ap (λ z. z || first_varies rights (form_in c) ps) (unnamed c) ∙ first_still c ps

-- ---- lists

all_same : (xs : Parts) → AllSimilar xs xs
all_same [] = no_parts
all_same (x ∷ xs) = next_parts x x xs xs (same x) (all_same xs)

joined : (xs ys us vs : Parts) → AllSimilar xs ys → AllSimilar us vs → AllSimilar (xs ++ us) (ys ++ vs)
joined xs ys us vs no_parts e = e
joined xs ys us vs (next_parts x y os bs p d) e = next_parts x y (os ++ us) (bs ++ vs) p (joined os bs us vs d e)

single : (x y : Option Part) → Similar x y → AllSimilar (x ∷ []) (y ∷ [])
single x y p = next_parts x y [] [] p no_parts

same_length : (xs ys : Parts) → AllSimilar xs ys → length ys ≡ length xs
same_length xs ys no_parts = refl
same_length xs ys (next_parts x y os bs p d) = ap suc (same_length os bs d)

-- by equations of both lists
between : (xs ys us vs : Parts) → us ≡ xs → vs ≡ ys → AllSimilar xs ys → AllSimilar us vs
between xs ys us vs e d w = subst (λ zs. AllSimilar zs vs) (sym e) (subst (λ zs. AllSimilar xs zs) (sym d) w)

pub held_alone : (c : Container) (i j : ℕ) (l : Label TypeTree) (ps : Typeds TypeTree) → held (Some (typed (form_in c) i j l ps)) ≡ Some (typed (form_in c) i j l ps) ∷ []
held_alone c i j l ps = ap (λ b. cond b (list_of ps) (Some (typed (form_in c) i j l ps) ∷ [])) (unheld c)

held_similar : (x y : Option Part) → Similar x y → AllSimilar (held x) (held y)
held_similar x y (same o) = all_same (held o)
held_similar x y (loose c i j a b d e ps qs) =
    let u = typed (form_in c) i j (quiet a b) ps in
    let v = typed (form_in c) i j (quiet d e) qs in
    between (Some u ∷ []) (Some v ∷ []) (held (Some u)) (held (Some v)) (held_alone c i j (quiet a b) ps) (held_alone c i j (quiet d e) qs) (single (Some u) (Some v) (loose c i j a b d e ps qs))
held_similar x y (elsed c i j m n a b d e s t u v ps qs) =
    single (Some (typed (form_in c) m n (quiet d e) ps)) (Some (typed (form_in c) m n (quiet u v) qs)) (loose c m n d e u v ps qs)

all_held_similar : (xs ys : Parts) → AllSimilar xs ys → AllSimilar (all_held xs) (all_held ys)
all_held_similar xs ys no_parts = no_parts
all_held_similar xs ys (next_parts x y os bs p d) = joined (held x) (held y) (all_held os) (all_held bs) (held_similar x y p) (all_held_similar os bs d)

header_similar : (x y : Option Part) → Similar x y → AllSimilar (header_parts x) (header_parts y)
header_similar x y (same o) = all_same (header_parts o)
header_similar x y (loose c i j a b d e ps qs) =
    let u = typed (form_in c) i j (quiet a b) ps in
    let v = typed (form_in c) i j (quiet d e) qs in
    between (None ∷ Some u ∷ []) (None ∷ Some v ∷ []) (header_parts (Some u)) (header_parts (Some v)) (plain_header c i j (quiet a b) ps) (plain_header c i j (quiet d e) qs)
    (next_parts None None (Some u ∷ []) (Some v ∷ []) (same None) (single (Some u) (Some v) (loose c i j a b d e ps qs)))
header_similar x y (elsed c i j m n a b d e s t u v ps qs) =
    let g = typed (form.Held kind.Else) i j (quiet a b) (sort.more (typed (form_in c) m n (quiet d e) ps) sort.none) in
    let h = typed (form.Held kind.Else) i j (quiet s t) (sort.more (typed (form_in c) m n (quiet u v) qs) sort.none) in
    next_parts None None (Some g ∷ []) (Some h ∷ []) (same None) (single (Some g) (Some h) (elsed c i j m n a b d e s t u v ps qs))

loop_similar : (x y : Option Part) → Similar x y → AllSimilar (loop_header x) (loop_header y)
loop_similar x y (same o) = all_same (loop_header o)
loop_similar x y (loose c i j a b d e ps qs) =
    let u = typed (form_in c) i j (quiet a b) ps in
    let v = typed (form_in c) i j (quiet d e) qs in
    between (None ∷ Some u ∷ None ∷ []) (None ∷ Some v ∷ None ∷ []) (loop_header (Some u)) (loop_header (Some v)) (plain_loop c i j (quiet a b) ps) (plain_loop c i j (quiet d e) qs)
    (next_parts None None (Some u ∷ None ∷ []) (Some v ∷ None ∷ []) (same None) (next_parts (Some u) (Some v) (None ∷ []) (None ∷ []) (loose c i j a b d e ps qs) (single None None (same None))))
loop_similar x y (elsed c i j m n a b d e s t u v ps qs) =
    single (Some (typed (form_in c) m n (quiet d e) ps)) (Some (typed (form_in c) m n (quiet u v) qs)) (loose c m n d e u v ps qs)

if_similar : (xs ys : Parts) → AllSimilar xs ys → AllSimilar (if_parts xs) (if_parts ys)
if_similar xs ys no_parts = no_parts
if_similar xs ys (next_parts h g os bs p no_parts) = single h g p
if_similar xs ys (next_parts h g os bs p (next_parts b d cs ds q no_parts)) = next_parts h g (b ∷ []) (d ∷ []) p (single b d q)
if_similar xs ys (next_parts h g os bs p (next_parts b d cs ds q (next_parts e f es fs r no_parts))) =
    joined (header_parts h) (header_parts g) (b ∷ held e) (d ∷ held f) (header_similar h g p) (next_parts b d (held e) (held f) q (held_similar e f r))
if_similar xs ys (next_parts h g os bs p (next_parts b d cs ds q (next_parts e f es fs r (next_parts u v us vs t w)))) =
    next_parts h g (b ∷ e ∷ u ∷ us) (d ∷ f ∷ v ∷ vs) p (next_parts b d (e ∷ u ∷ us) (f ∷ v ∷ vs) q (next_parts e f (u ∷ us) (v ∷ vs) r (next_parts u v us vs t w)))

switch_similar : (xs ys : Parts) → AllSimilar xs ys → AllSimilar (switch_parts xs) (switch_parts ys)
switch_similar xs ys no_parts = no_parts
switch_similar xs ys (next_parts h g os bs p d) = joined (header_parts h) (header_parts g) os bs (header_similar h g p) d

for_similar : (xs ys : Parts) → AllSimilar xs ys → AllSimilar (for_parts xs) (for_parts ys)
for_similar xs ys no_parts = no_parts
for_similar xs ys (next_parts h g os bs p d) = joined (loop_header h) (loop_header g) os bs (loop_similar h g p) d

layout_similar : (s : Frame) (k : Kind) → IsAbove k → (i : ℕ) (xs ys : Parts) → AllSimilar xs ys → AllSimilar (layout s k i xs) (layout s k i ys)
layout_similar s kind.Block w i xs ys e = e
layout_similar s kind.Else w i xs ys e = e
layout_similar s kind.Default w i xs ys e = e
layout_similar s kind.Case w i xs ys e = all_held_similar xs ys e
layout_similar s kind.If w i xs ys e = if_similar xs ys e
layout_similar s kind.Switch w i xs ys e = switch_similar xs ys e
layout_similar s kind.For w i xs ys e = for_similar xs ys e
layout_similar s k w i xs ys e = absurd w

-- ---- forms

loop_form_similar : (x y : Option Part) → Similar x y → loop_form y ≡ loop_form x
loop_form_similar x y (same o) = refl
loop_form_similar x y (loose c i j a b d e ps qs) = plain_form c i j (quiet d e) qs ∙ sym (plain_form c i j (quiet a b) ps)
loop_form_similar x y (elsed c i j m n a b d e s t u v ps qs) = refl

first_loop_similar : (xs ys : Parts) → AllSimilar xs ys → first_loop_form ys ≡ first_loop_form xs
first_loop_similar xs ys no_parts = refl
first_loop_similar xs ys (next_parts x y os bs p d) = loop_form_similar x y p

count_similar : (xs ys : Parts) → AllSimilar xs ys → first_count ys ≡ first_count xs
count_similar xs ys no_parts = refl
count_similar xs ys (next_parts x y os bs p d) = same_length (held x) (held y) (held_similar x y p)

form_similar : (k : Kind) → IsAbove k → (xs ys : Parts) → AllSimilar xs ys → form_by k ys ≡ form_by k xs
form_similar kind.Block w xs ys e = refl
form_similar kind.Else w xs ys e = refl
form_similar kind.Default w xs ys e = refl
form_similar kind.Case w xs ys e = ap form.Case (count_similar xs ys e)
form_similar kind.If w xs ys e = refl
form_similar kind.Switch w xs ys e = refl
form_similar kind.For w xs ys e = first_loop_similar xs ys e
form_similar k w xs ys e = absurd w

-- ---- parts that are there

pub data Alike : List Part → List Part → Type 0 where
  no_alike : Alike [] []
  next_alike : (x y : Part) (xs ys : List Part) → Similar (Some x) (Some y) → Alike xs ys → Alike (x ∷ xs) (y ∷ ys)

-- one more part, if it is there
abbrev with_part : Option Part → List Part → List Part
with_part (Some x) xs = x ∷ xs
with_part None xs = xs

with_similar : (x y : Option Part) → Similar x y → (xs ys : List Part) → Alike xs ys → Alike (with_part x xs) (with_part y ys)
with_similar x y (same None) xs ys e = e
with_similar x y (same (Some z)) xs ys e = next_alike z z xs ys (same (Some z)) e
with_similar x y (loose c i j a b d f ps qs) xs ys e = next_alike (typed (form_in c) i j (quiet a b) ps) (typed (form_in c) i j (quiet d f) qs) xs ys (loose c i j a b d f ps qs) e
with_similar x y (elsed c i j m n a b d f s t u v ps qs) xs ys e =
    next_alike (typed (form.Held kind.Else) i j (quiet a b) (sort.more (typed (form_in c) m n (quiet d f) ps) sort.none))
    (typed (form.Held kind.Else) i j (quiet s t) (sort.more (typed (form_in c) m n (quiet u v) qs) sort.none)) xs ys (elsed c i j m n a b d f s t u v ps qs) e

present_with : (x : Option Part) (xs : Parts) → present (x ∷ xs) ≡ with_part x (present xs)
present_with None xs = refl
present_with (Some x) xs = refl

present_similar : (xs ys : Parts) → AllSimilar xs ys → Alike (present xs) (present ys)
present_similar xs ys no_parts = no_alike
present_similar xs ys (next_parts x y os bs p d) =
    subst (λ zs. Alike zs (present (y ∷ bs))) (sym (present_with x os))
    (subst (λ zs. Alike (with_part x (present os)) zs) (sym (present_with y bs)) (with_similar x y p (present os) (present bs) (present_similar os bs d)))

take_alike : (n : ℕ) (xs ys : List Part) → Alike xs ys → Alike (take n xs) (take n ys)
take_alike zero xs ys e = no_alike
take_alike (suc n) xs ys no_alike = no_alike
take_alike (suc n) xs ys (next_alike x y os bs p d) = next_alike x y (take n os) (take n bs) p (take_alike n os bs d)

drop_alike : (n : ℕ) (xs ys : List Part) → Alike xs ys → Alike (drop n xs) (drop n ys)
drop_alike zero xs ys e = e
drop_alike (suc n) xs ys no_alike = no_alike
drop_alike (suc n) xs ys (next_alike x y os bs p d) = drop_alike n os bs d

alike_length : (xs ys : List Part) → Alike xs ys → length ys ≡ length xs
alike_length xs ys no_alike = refl
alike_length xs ys (next_alike x y os bs p d) = ap suc (alike_length os bs d)

-- ---- rules

-- what a rule says of a part, if it is there
abbrev said : (Part → List TypeFault) → Option Part → List TypeFault
said rule (Some x) = rule x
said rule None = []

each_alike : (rule : Part → List TypeFault) → ((x y : Option Part) → Similar x y → said rule y ≡ said rule x) → (xs ys : List Part) → Alike xs ys → each rule ys ≡ each rule xs
each_alike rule e xs ys no_alike = refl
each_alike rule e xs ys (next_alike x y os bs p d) = ap (λ z. z ++ each rule bs) (e (Some x) (Some y) p) ∙ ap (λ zs. rule x ++ zs) (each_alike rule e os bs d)

lost_similar : (x y : Option Part) → Similar x y → is_lost y ≡ is_lost x
lost_similar x y (same o) = refl
lost_similar x y (loose c i j a b d e ps qs) = refl
lost_similar x y (elsed c i j m n a b d e s t u v ps qs) = refl

any_lost : (xs ys : Parts) → AllSimilar xs ys → list_any is_lost ys ≡ list_any is_lost xs
any_lost xs ys no_parts = refl
any_lost xs ys (next_parts x y os bs p d) = ap (λ b. b || list_any is_lost bs) (lost_similar x y p) ∙ ap (λ b. is_lost x || b) (any_lost os bs d)

target_type_similar : (x y : Option Part) → Similar x y → first_type (y ∷ []) ≡ first_type (x ∷ [])
target_type_similar x y (same o) = refl
target_type_similar x y (loose c i j a b d e ps qs) = refl
target_type_similar x y (elsed c i j m n a b d e s t u v ps qs) = refl

number_target_alike : (xs ys : List Part) → Alike xs ys → number_target ys ≡ number_target xs
number_target_alike xs ys no_alike = refl
number_target_alike xs ys (next_alike x y os bs p d) = target_type_similar (Some x) (Some y) p

module _ (rights : Rights) where
  condition_similar : (x y : Option Part) → Similar x y → condition_failing rights y ≡ condition_failing rights x
  condition_similar x y (same o) = refl
  condition_similar x y (loose c i j a b d e ps qs) = refl
  condition_similar x y (elsed c i j m n a b d e s t u v ps qs) = refl

  second_condition_similar : (xs ys : Parts) → AllSimilar xs ys → second_condition rights ys ≡ second_condition rights xs
  second_condition_similar xs ys no_parts = refl
  second_condition_similar xs ys (next_parts x y os bs p no_parts) = refl
  second_condition_similar xs ys (next_parts x y os bs p (next_parts z w us vs q d)) = condition_similar z w q

  tag_similar : (x y : Option Part) → Similar x y → tag_failing rights y ≡ tag_failing rights x
  tag_similar x y (same o) = refl
  tag_similar x y (loose c i j a b d e ps qs) = refl
  tag_similar x y (elsed c i j m n a b d e s t u v ps qs) = refl

  second_tag_similar : (xs ys : Parts) → AllSimilar xs ys → second_tag rights ys ≡ second_tag rights xs
  second_tag_similar xs ys no_parts = refl
  second_tag_similar xs ys (next_parts x y os bs p no_parts) = refl
  second_tag_similar xs ys (next_parts x y os bs p (next_parts z w us vs q d)) = tag_similar z w q

  -- a part that stands for nothing is compared with the tag by its place
  compared_still : (tag : Stands) (f : Form) (i j : ℕ) (a b d e : Bool) (ps qs : Typeds TypeTree) (o : Option Common)
      → compared_failing_in rights comparison.Equal i j (tag_at tag (typed f i j (quiet d e) qs)) (typed f i j (quiet d e) qs) o
      ≡ compared_failing_in rights comparison.Equal i j (tag_at tag (typed f i j (quiet a b) ps)) (typed f i j (quiet a b) ps) o
  compared_still tag f i j a b d e ps qs None = refl
  compared_still tag f i j a b d e ps qs (Some (in_type t)) = refl
  compared_still tag f i j a b d e ps qs (Some (in_kind k)) = refl

  case_similar : (tag : Stands) (x y : Option Part) → Similar x y → said (case_failing rights tag) y ≡ said (case_failing rights tag) x
  case_similar tag x y (same o) = refl
  case_similar tag x y (loose c i j a b d e ps qs) = ap (λ z. if is_unknown tag then [] else z) (compared_still tag (form_in c) i j a b d e ps qs (compared_in rights tag sort.Nothing))
  case_similar tag x y (elsed c i j m n a b d e s t u v ps qs) =
      ap (λ z. if is_unknown tag then [] else z) (compared_still tag (form.Held kind.Else) i j a b s t (sort.more (typed (form_in c) m n (quiet d e) ps) sort.none)
      (sort.more (typed (form_in c) m n (quiet u v) qs) sort.none) (compared_in rights tag sort.Nothing))

  not_target_similar : (x y : Option Part) → Similar x y → said (not_a_target rights) y ≡ said (not_a_target rights) x
  not_target_similar x y (same o) = refl
  not_target_similar x y (loose c i j a b d e ps qs) =
      ap (λ z. if z then [] else fault_at code.LeftSide i j) (no_variable rights c i j d e qs) ∙ sym (ap (λ z. if z then [] else fault_at code.LeftSide i j) (no_variable rights c i j a b ps))
  not_target_similar x y (elsed c i j m n a b d e s t u v ps qs) = refl

  -- the value of a range clause
  elements_alike : (x : Part) (ts us : List Part) (rs : List TypeTree) → Alike ts us → elements_unassigned rights x us rs ≡ elements_unassigned rights x ts rs
  elements_alike x ts us rs no_alike = refl
  elements_alike x ts us [] (next_alike t u os bs p d) = refl
  elements_alike x ts us (r ∷ rs) (next_alike t u os bs p d) =
      ap (λ o. element_unassigned rights x o r ++ elements_unassigned rights x bs rs) (target_type_similar (Some t) (Some u) p) ∙ ap (λ zs. element_unassigned rights x (target_type t) r ++ zs) (elements_alike x os bs rs d)

  targets_alike : (b : Bool) (ts us : List Part) → Alike ts us → targets_failing rights b us ≡ targets_failing rights b ts
  targets_alike true ts us e = refl
  targets_alike false ts us e = each_alike (not_a_target rights) not_target_similar ts us e

  assigned_alike : (i j : ℕ) (x : Part) (ts us : List Part) → Alike ts us → (o : Option (List TypeTree)) → range_assigned rights i j us x o ≡ range_assigned rights i j ts x o
  assigned_alike i j x ts us e None = refl
  assigned_alike i j x ts us e (Some rs) = let n = alike_length ts us e in let t = number_target_alike ts us e in let r = elements_alike x ts us rs e in cc

  -- the rule on the value, if it is there
  abbrev given_to : ℕ → ℕ → List Part → Part → List TypeFault
  given_to i j ts x = range_assigned rights i j ts x (range_types rights x)

  value_similar : (i j : ℕ) (ts : List Part) (x y : Option Part) → Similar x y → said (given_to i j ts) y ≡ said (given_to i j ts) x
  value_similar i j ts x y (same o) = refl
  value_similar i j ts x y (loose c m n a b d e ps qs) = refl
  value_similar i j ts x y (elsed c k l m n a b d e s t u v ps qs) = refl

  range_alike : (i j : ℕ) (b : Bool) (ts us : List Part) → Alike ts us → (xs ys : List Part) → Alike xs ys → range_failing rights i j b us ys ≡ range_failing rights i j b ts xs
  range_alike i j b ts us e xs ys no_alike = refl
  range_alike i j b ts us e xs ys (next_alike x y os bs p d) =
      ap (λ z. z ++ given_to i j us y) (targets_alike b ts us e)
      ∙ ap (λ z. targets_failing rights b ts ++ z) (value_similar i j us (Some x) (Some y) p ∙ assigned_alike i j x ts us e (range_types rights x))

  loop_alike : (f : Form) (i j : ℕ) (xs ys : Parts) → AllSimilar xs ys → loop_failing rights f i j ys ≡ loop_failing rights f i j xs
  loop_alike (form.Range b n) i j xs ys e =
      let p = present_similar xs ys e in
      range_alike i j b (take n (present xs)) (take n (present ys)) (take_alike n (present xs) (present ys) p) (drop n (present xs)) (drop n (present ys)) (drop_alike n (present xs) (present ys) p)
  loop_alike f i j xs ys e = second_condition_similar xs ys e

-- ---- nodes

failing_similar : (s : Frame) (k : Kind) → IsAbove k → (f : Form) (i j : ℕ) (xs ys : Parts) → AllSimilar xs ys → failing s k f i j ys ≡ failing s k f i j xs
failing_similar s kind.Block w f i j xs ys e = refl
failing_similar s kind.Else w f i j xs ys e = refl
failing_similar s kind.Default w f i j xs ys e = refl
failing_similar s kind.If w f i j xs ys e = second_condition_similar (rights_of s) xs ys e
failing_similar s kind.Switch w f i j xs ys e = second_tag_similar (rights_of s) xs ys e
failing_similar s kind.Case w f i j xs ys e =
    each_alike (case_failing (rights_of s) s.tag) (case_similar (rights_of s) s.tag) (take (names_in f) (present xs)) (take (names_in f) (present ys))
    (take_alike (names_in f) (present xs) (present ys) (present_similar xs ys e))
failing_similar s kind.For w f i j xs ys e = loop_alike (rights_of s) f i j xs ys e
failing_similar s k w f i j xs ys e = absurd w

judged_similar : (k : Kind) (xs ys : Parts) → AllSimilar xs ys → judges k ys ≡ judges k xs
judged_similar kind.For xs ys e = refl
judged_similar k xs ys e = ap (λ b. not b) (any_lost xs ys e)

own_similar : (s : Frame) (k : Kind) → IsAbove k → (f : Form) (i j : ℕ) (xs ys : Parts) → AllSimilar xs ys → own_faults s k f i j ys ≡ own_faults s k f i j xs
own_similar s k w f i j xs ys e = ap (λ b. if b then failing s k f i j ys else []) (judged_similar k xs ys e) ∙ ap (λ fs. if judges k xs then fs else []) (failing_similar s k w f i j xs ys e)

-- ---- what parts are given

-- types alone, and no part of its own stands for anything
abbrev pub OnlyTypes : List Taking → Type 0
OnlyTypes [] = Unit {0}
OnlyTypes (takes k ∷ ks) = OnlyTypes ks
OnlyTypes (k ∷ ks) = ⊥

first_open : (xs ys : Parts) → AllSimilar xs ys → is_first_number ys ≡ is_first_number xs
first_open xs ys no_parts = refl
first_open xs ys (next_parts x y os bs p d) = by x y os bs p
  where
    by : (x y : Option Part) (os bs : Parts) → Similar x y → is_first_number (y ∷ bs) ≡ is_first_number (x ∷ os)
    by x y os bs (same None) = refl
    by x y os bs (same (Some z)) = refl
    by x y os bs (loose c i j a b d e ps qs) = refl
    by x y os bs (elsed c i j m n a b d e s t u v ps qs) = refl

first_typed : (xs ys : Parts) → AllSimilar xs ys → first_type ys ≡ first_type xs
first_typed xs ys no_parts = refl
first_typed xs ys (next_parts x y os bs p d) = by x y os bs p
  where
    by : (x y : Option Part) (os bs : Parts) → Similar x y → first_type (y ∷ bs) ≡ first_type (x ∷ os)
    by x y os bs (same None) = refl
    by x y os bs (same (Some z)) = refl
    by x y os bs (loose c i j a b d e ps qs) = refl
    by x y os bs (elsed c i j m n a b d e s t u v ps qs) = refl

dropped_similar : (n : ℕ) (xs ys : Parts) → AllSimilar xs ys → AllSimilar (drop n xs) (drop n ys)
dropped_similar zero xs ys e = e
dropped_similar (suc n) xs ys no_parts = no_parts
dropped_similar (suc n) xs ys (next_parts x y os bs p d) = dropped_similar n os bs d

operand_similar : (n : ℕ) (xs ys : Parts) → AllSimilar xs ys → operand_takes n ys ≡ operand_takes n xs
operand_similar n xs ys e =
    ap (λ b. if b then type_or_default (target_there n ys) else takes default) (first_open (drop n xs) (drop n ys) (dropped_similar n xs ys e))
    ∙ ap (λ t. if is_first_number (drop n xs) then type_or_default (if nat_lt 0 n then t else None) else takes default) (first_typed xs ys e)

loop_takes_similar : (f : Form) (xs ys : Parts) → AllSimilar xs ys → loop_takes f ys ≡ loop_takes f xs
loop_takes_similar (form.Range b n) xs ys e = ap (λ k. rest n ++ k ∷ []) (operand_similar n xs ys e)
loop_takes_similar f xs ys e = refl

taking_similar : (s : Frame) (k : Kind) → IsAbove k → (f : Form) (xs ys : Parts) → AllSimilar xs ys → taking s k f ys ≡ taking s k f xs
taking_similar s kind.Block w f xs ys e = refl
taking_similar s kind.Else w f xs ys e = refl
taking_similar s kind.Default w f xs ys e = refl
taking_similar s kind.If w f xs ys e = refl
taking_similar s kind.Switch w f xs ys e = refl
taking_similar s kind.Case w f xs ys e = refl
taking_similar s kind.For w f xs ys e = loop_takes_similar f xs ys e
taking_similar s k w f xs ys e = absurd w

pub both_types : (ks ls : List Taking) → OnlyTypes ks → OnlyTypes ls → OnlyTypes (ks ++ ls)
both_types [] ls e d = d
both_types (takes k ∷ ks) ls e d = both_types ks ls e d
both_types (k ∷ ks) ls e d = absurd e

pub rest_types : (n : ℕ) → OnlyTypes (rest n)
rest_types zero = tt
rest_types (suc n) = rest_types n

pub default_types : (n : ℕ) (t : Option TypeTree) → OnlyTypes (replicate n (type_or_default t))
default_types zero t = tt
default_types (suc n) None = default_types n None
default_types (suc n) (Some t) = default_types n (Some t)

pub either_types : (b : Bool) (t : Option TypeTree) → OnlyTypes ((if b then type_or_default t else takes default) ∷ [])
either_types true None = tt
either_types true (Some t) = tt
either_types false t = tt

pub loop_types : (f : Form) (ys : Parts) → OnlyTypes (loop_takes f ys)
loop_types (form.Range b n) ys = both_types (rest n) (operand_takes n ys ∷ []) (rest_types n) (either_types (is_first_number (drop n ys)) (target_there n ys))
loop_types f ys = tt

only_types : (s : Frame) (k : Kind) → IsAbove k → (f : Form) (ys : Parts) → OnlyTypes (taking s k f ys)
only_types s kind.Block w f ys = tt
only_types s kind.Else w f ys = tt
only_types s kind.Default w f ys = tt
only_types s kind.If w f ys = tt
only_types s kind.Switch w f ys = tt
only_types s kind.Case w f ys = default_types (names_in f) (own_type s.tag)
only_types s kind.For w f ys = loop_types f ys
only_types s k w f ys = absurd w

given_similar : (k : Take) (x y : Option Part) → Similar x y → Similar (given_optional (takes k) x) (given_optional (takes k) y)
given_similar k x y (same o) = same (given_optional (takes k) o)
given_similar stay x y (loose c i j a b d e ps qs) = loose c i j a b d e ps qs
given_similar default x y (loose c i j a b d e ps qs) = loose c i j a b d e ps qs
given_similar (as_type t) x y (loose c i j a b d e ps qs) = loose c i j a b d e ps qs
given_similar stay x y (elsed c i j m n a b d e s t u v ps qs) = elsed c i j m n a b d e s t u v ps qs
given_similar default x y (elsed c i j m n a b d e s t u v ps qs) = elsed c i j m n a b d e s t u v ps qs
given_similar (as_type z) x y (elsed c i j m n a b d e s t u v ps qs) = elsed c i j m n a b d e s t u v ps qs

all_given_similar : (ks : List Taking) → OnlyTypes ks → (xs ys : Parts) → AllSimilar xs ys → AllSimilar (all_given ks xs) (all_given ks ys)
all_given_similar [] w xs ys e = e
all_given_similar (takes k ∷ ks) w xs ys no_parts = no_parts
all_given_similar (takes k ∷ ks) w xs ys (next_parts x y os bs p d) =
    next_parts (given_optional (takes k) x) (given_optional (takes k) y) (all_given ks os) (all_given ks bs) (given_similar k x y p) (all_given_similar ks w os bs d)
all_given_similar (k ∷ ks) w xs ys e = absurd w

pub nodes_above : NodesAbove
nodes_above s k w i j xs ys e =
    let f = form_by k xs in
    let us = layout s k i xs in
    let vs = layout s k i ys in
    let d = layout_similar s k w i xs ys e in
    record {
      formed = form_similar k w xs ys e;
      laid = d;
      failing = own_similar s k w f i j us vs d;
      given = subst (λ ks. AllSimilar (all_given (taking s k f us) us) (all_given ks vs)) (sym (taking_similar s k w f us vs d)) (all_given_similar (taking s k f us) (only_types s k w f us) us vs d);
    }
