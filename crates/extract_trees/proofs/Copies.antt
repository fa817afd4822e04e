-- Windows that are the same have one copy: where what is told of the parts is one, what they stand for is one, and so are the copies.
use Rattle.std.proofs.Common.{◌≡◌, ◌∙◌, ℕ, zero, suc, ◌-◌, ◌<◌, Bool, true, false, List, Option, Some, None, refl, sym, ap, subst, arith}
use Rattle.std.specs.Prelude.{◌&&◌, ◌||◌, not, nat_le, nat_lt, if◌then◌else◌}
use Rattle.std.proofs.lemmas.Bool.{eqb-true, and_parts, lt-leb, ltb-true}
use Rattle.go_constants.specs.declared.values.Const.{Const}
use Rattle.go_tree.specs.declared.object.Predeclared.{Predeclared}
use Rattle.go_tree.specs.declared.object.Predeclared.TheVariants as predeclared
use Rattle.go_types.specs.Trees.{TypeTree, boolean}
use Rattle.go_types.specs.Relations.{Rights}
use Rattle.go_types_relations.specs.Renaming.{renamed}
use Rattle.go_typed.specs.declared.form.Form.{Form}
use Rattle.go_typed.specs.declared.form.Form.TheVariants as form
use Rattle.go_typed.specs.declared.form.Referent.{Referent}
use Rattle.go_typed.specs.declared.form.Referent.TheVariants as referent
use Rattle.go_typed.specs.Forms.{is_holder, local_of}
use Rattle.go_typed.specs.Trees.{Label, Typed, typed, Typeds, form_of, label_of, sort_of, SortHas, Every, EveryPart, Nothing, Unknown, Blank, Nil, Builtin, Println, Package, IsType, Value, Constant, Open, OpenConstant, Results}
use Rattle.go_typed.specs.Trees as trees
use Rattle.go_exprs_rules.specs.Sorts.{Stands, own_type, slice_element, underlying_in}
use Rattle.go_exprs_rules.specs.Literals.{key_in}
use Rattle.go_exprs_rules.specs.Tables.{is_call}
use Rattle.clone_window.specs.Masses.{is_constant, is_expression, is_constant_expression, is_hole}
use Rattle.clone_window.specs.Sameness.{agree_besides, compared, are_alike, final, same_final, same_value, same_values, value_of}
use Rattle.extract_trees.specs.Numberings.{Numbering, form_numbered, sort_numbered, any_calls, calls_over, first_sort, sort_over, label_numbered, node_numbered}
use Rattle.extract_trees.specs.Copied.{copy_over, parameter_at, parameter_node, copied, all_copied}
use Rattle.extract_trees.specs.Copied as copies
use Rattle.extract_trees.specs.Standing.{Around, part_sort, Working, comparing, shifting, meeting, working, first_waits, second_waits, compared_told, or_boolean, value_told, operand_told, builtin_told, argument_told, element_told, second_told, told_in}
use Rattle.extract_trees.specs.Standing.{is_quiet, are_quiet, calls_nothing, IsRuled, IsTyped, IsSettled, AreSettled, nothing_told}
use Rattle.extract_trees.specs.OneCopy.{AreOneSort, same, constant, untyped, target, no_target, IsOneCopy, AreOneCopy}
use Rattle.extract_trees.specs.Windows.{IsExact, same_parameter, is_one_parameter, SameWindowsHaveOneCopy}
use Rattle.extract_trees.specs.OneCopy as copy
use Rattle.extract_trees.proofs.Sorts.{types_one, blanks_one, constants_one}
use Rattle.extract_trees.proofs.Pairs.{AreForms, IsPair, ArePairs, same_pairs}
use Rattle.extract_trees.proofs.Pairs as pairs
use Rattle.extract_trees.proofs.Settled.{AreOneType, alike, values, own_one, named_one, hole_constant, Parts, told_one, first_free, second_free, part_one, skips_one, first_one, second_one, rules_of, type_of_constant}

-- ---- constants have no calls in their copies

numbered_constant : (c : Numbering) (s : Stands) → is_constant (sort_numbered c s) ≡ is_constant s
numbered_constant c trees.Nothing = refl
numbered_constant c s = refl

turned : (b : Bool) → not (true && not b) ≡ true → (true && not b) ≡ false
turned true k = refl
turned false k = cc

still_constant : (c : Numbering) (s : Stands) → not (true && not (is_constant s)) ≡ true → (true && not (is_constant (sort_numbered c s))) ≡ false
still_constant c s h = ap (λ b. true && not b) (numbered_constant c s) ∙ turned (is_constant s) h

call_kept : (c : Numbering) (f : Form) (s : Stands) (qs : Typeds TypeTree) → not (is_call f && not (is_constant s)) ≡ true → (is_call f && not (is_constant (sort_over f (sort_numbered c s) qs))) ≡ false
call_kept c form.Call s qs h = still_constant c s h
call_kept c f s qs h = refl

not_true : (b : Bool) → not b ≡ true → b ≡ false
not_true true h = cc
not_true false h = refl

-- the calls of a node over parts that have none
over_quiet : (f : Form) (s : Stands) (v : Bool) (qs : Typeds TypeTree) → not v ≡ true → (is_call f && not (is_constant s)) ≡ false → any_calls qs ≡ false → calls_over f s v qs ≡ false
over_quiet f s v trees.none h k e = not_true v h
over_quiet f s v (trees.more q qs) h k e = ap (λ b. b || any_calls (trees.more q qs)) k ∙ e
over_quiet f s v (trees.skip qs) h k e = ap (λ b. b || any_calls (trees.skip qs)) k ∙ e

quiet_over : (c : Numbering) (f : Form) (i j : ℕ) (l : Label TypeTree) (ps : Typeds TypeTree) → is_quiet (typed f i j l ps) ≡ true → (are_quiet ps ≡ true → any_calls (all_copied c true ps) ≡ false) →
    (label_numbered c f l (all_copied c true ps)).calls ≡ false
quiet_over c f i j l ps h r =
    let p = and_parts (not l.calls && not (is_call f && not (is_constant l.sort))) (are_quiet ps) h in
    let q = and_parts (not l.calls) (not (is_call f && not (is_constant l.sort))) p.0 in
    over_quiet f (sort_over f (sort_numbered c l.sort) (all_copied c true ps)) l.calls (all_copied c true ps) q.0 (call_kept c f l.sort (all_copied c true ps) q.1) (r p.1)

quiet_parts : (c : Numbering) (ps : Typeds TypeTree) → are_quiet ps ≡ true → any_calls (all_copied c true ps) ≡ false
quiet_parts c trees.none h = refl
quiet_parts c (trees.more (typed f i j l qs) ps) h =
    let p = and_parts (is_quiet (typed f i j l qs)) (are_quiet ps) h in
    ap (λ b. b || any_calls (all_copied c true ps)) (quiet_over c f i j l qs p.0 (λ e. quiet_parts c qs e)) ∙ quiet_parts c ps p.1
quiet_parts c (trees.skip ps) h = quiet_parts c ps h

-- what is no element for a field stands for itself, whatever its parts
kept_sort : (f : Form) (s : Stands) (qs : Typeds TypeTree) → key_in f ≡ None → sort_over f s qs ≡ s
kept_sort (form.Keyed n) s qs h = cc
kept_sort f s qs h = refl

no_key : (f : Form) (l : Label TypeTree) → is_constant_expression f l ≡ true → key_in f ≡ None
no_key (form.Keyed n) l h = cc
no_key f l h = refl

no_call : (a b : Bool) → b ≡ true → (a && not b) ≡ false
no_call true true k = refl
no_call true false k = cc
no_call false b k = refl

constant_calls : (c : Numbering) (f : Form) (l : Label TypeTree) (ps : Typeds TypeTree) → is_constant_expression f l ≡ true → (not l.calls && are_quiet ps) ≡ true → (label_numbered c f l (all_copied c true ps)).calls ≡ false
constant_calls c f l ps h q =
    let p = and_parts (not l.calls) (are_quiet ps) q in
    let s : Stands = sort_over f (sort_numbered c l.sort) (all_copied c true ps) in
    let e : is_constant s ≡ true = ap is_constant (kept_sort f (sort_numbered c l.sort) (all_copied c true ps) (no_key f l h)) ∙ numbered_constant c l.sort ∙ (and_parts (is_expression f) (is_constant l.sort) h).1 in
    over_quiet f s l.calls (all_copied c true ps) p.0 (no_call (is_call f) (is_constant s) e) (quiet_parts c ps p.1)

object_expression : (r : Referent) → is_expression (form.Object r) ≡ true
object_expression referent.Println = refl
object_expression r = refl

expression_numbered : (c : Numbering) (f : Form) → is_expression f ≡ true → is_expression (form_numbered c f) ≡ true
expression_numbered c (form.Object r) h = object_expression (c.referent r)
expression_numbered c f h = h

-- ---- copies as nodes

copied_node : (c : Numbering) (f : Form) (i j : ℕ) (l : Label TypeTree) (ps : Typeds TypeTree) (b : Bool) → is_constant_expression f l ≡ b → parameter_at c (is_hole false f l) i ≡ None →
    copied c false (typed f i j l ps) ≡ node_numbered c f i j l (all_copied c b ps)
copied_node c f i j l ps b e h = ap (λ x. copy_over c x f i j l (all_copied c (is_constant_expression f l) ps)) h ∙ ap (λ x. node_numbered c f i j l (all_copied c x ps)) e

copied_parameter : (c : Numbering) (f : Form) (i j : ℕ) (l : Label TypeTree) (ps : Typeds TypeTree) (p : ℕ) → parameter_at c (is_hole false f l) i ≡ Some p → copied c false (typed f i j l ps) ≡ parameter_node c p i j l.sort
copied_parameter c f i j l ps p h = ap (λ x. copy_over c x f i j l (all_copied c (is_constant_expression f l) ps)) h

no_parameter : (c : Numbering) (x : Bool) (i : ℕ) → x ≡ false → parameter_at c x i ≡ None
no_parameter c true i e = cc
no_parameter c false i e = refl

hole_parameter : (c : Numbering) (x : Bool) (i : ℕ) → x ≡ true → parameter_at c x i ≡ c.parameter i
hole_parameter c true i e = refl
hole_parameter c false i e = cc

no_hole : (f : Form) (l : Label TypeTree) → is_constant_expression f l ≡ false → is_hole false f l ≡ false
no_hole f l e = ap (λ b. b && not l.varies) e

by_both : {t u x y : Typed TypeTree} → t ≡ x → u ≡ y → IsOneCopy x y → IsOneCopy t u
by_both {t} {u} {x} {y} e f h = subst (λ z. IsOneCopy z u) (sym e) (subst (λ z. IsOneCopy x z) (sym f) h)

-- ---- what two rows of copies have in common

any_one : {ps qs : Typeds TypeTree} → AreOneCopy ps qs → any_calls ps ≡ any_calls qs
any_one copy.none = refl
any_one (copy.more {ps = ps} {ps' = qs} (copy.node {l = l} {l' = n} s e parts) xs) = ap (λ b. b || any_calls ps) e ∙ ap (λ b. n.calls || b) (any_one xs)
any_one (copy.more {ps = ps} {ps' = qs} (copy.constant {l = l} {l' = n} h h' x y v e) xs) = ap (λ b. b || any_calls ps) e ∙ ap (λ b. n.calls || b) (any_one xs)
any_one (copy.skip xs) = any_one xs

constant_by : {s t : Stands} (u : TypeTree) (v x : Const) → s ≡ Constant u v → t ≡ Constant u x → same_value v x ≡ true → AreOneSort s t
constant_by {s} {t} u v x e f h = subst (λ z. AreOneSort z t) (sym e) (subst (λ z. AreOneSort (Constant u v) z) (sym f) (constant h))

constant_one : {s t : Stands} → AreOneSort s t → is_constant s ≡ is_constant t
constant_one same = refl
constant_one (constant h) = refl
constant_one (untyped h) = refl
constant_one target = refl
constant_one no_target = refl

-- no constants
not_constants : {s t : Stands} → AreOneType s t → is_constant s ≡ false → AreOneSort s t
not_constants (alike o) h = o
not_constants values h = cc

module _ (identical : TypeTree → TypeTree → Bool) (exact : IsExact identical) (w : Around) (here there : List Stands) (c d : Numbering) (referents : (r : Referent) → c.referent r ≡ d.referent r) where
  -- the type has one number in both
  abbrev One : TypeTree → Type 0
  One t = renamed c.type t ≡ renamed d.type t

  abbrev Pair : Typed TypeTree → Typed TypeTree → Type 0
  Pair = IsPair identical exact here there c d

  abbrev Pairs : Typeds TypeTree → Typeds TypeTree → Type 0
  Pairs = ArePairs identical exact here there c d

  abbrev Forms : Form → Form → Type 0
  Forms = AreForms identical exact here there c d

  abbrev tells : Option TypeTree → Form → Label TypeTree → Typeds TypeTree → ℕ → Option ℕ → Option TypeTree
  tells told f l ps = told_in w told f l.sort ps

  abbrev Known : Option TypeTree → Form → Form → Label TypeTree → Label TypeTree → Typeds TypeTree → Typeds TypeTree → Type 0
  Known told f g l n ps qs = Parts identical exact w here there c d (tells told f l ps) (tells told g n qs) ps qs

  same_numbered : (s : Stands) → SortHas One s → sort_numbered c s ≡ sort_numbered d s
  same_numbered (IsType t) h = ap IsType h
  same_numbered (Value t) h = ap Value h
  same_numbered (Constant t v) h = ap (λ x. Constant x v) h
  same_numbered (Results t) h = ap Results h
  same_numbered s h = refl

  sorts_numbered : {s t : Stands} → AreOneSort s t → SortHas One s → AreOneSort (sort_numbered c s) (sort_numbered d t)
  sorts_numbered {s} {t} same h = subst (λ x. AreOneSort (sort_numbered c s) x) (same_numbered s h) same
  sorts_numbered (constant {t = t} {v = v} {w = x} k) h = subst (λ z. AreOneSort (Constant (renamed c.type t) v) (Constant z x)) h (constant k)
  sorts_numbered (untyped k) h = untyped k
  sorts_numbered target h = target
  sorts_numbered no_target h = no_target

  -- ---- forms

  one_numbered : (f : Form) → local_of f ≡ None → form_numbered c f ≡ form_numbered d f
  one_numbered (form.Local n) h = cc
  one_numbered (form.New n) h = cc
  one_numbered (form.Declared n) h = cc
  one_numbered (form.Object r) h = ap form.Object (referents r)
  one_numbered f h = refl

  forms_numbered : {f g : Form} → is_holder f ≡ false → Forms f g → form_numbered c f ≡ form_numbered d g
  forms_numbered {f} {g} z (pairs.one h k) = one_numbered f h
  forms_numbered z (pairs.used o e) = ap form.Local e
  forms_numbered z (pairs.new o e) = ap form.New e
  forms_numbered z (pairs.declared o e) = ap form.Declared e
  forms_numbered z pairs.holders = cc

  key_one : {f g : Form} → Forms f g → key_in f ≡ key_in g
  key_one (pairs.one h k) = refl
  key_one (pairs.used o e) = refl
  key_one (pairs.new o e) = refl
  key_one (pairs.declared o e) = refl
  key_one pairs.holders = refl

  call_one : {f g : Form} → Forms f g → is_call f ≡ is_call g
  call_one (pairs.one h k) = refl
  call_one (pairs.used o e) = refl
  call_one (pairs.new o e) = refl
  call_one (pairs.declared o e) = refl
  call_one pairs.holders = refl

  keys_one : {t u : Typed TypeTree} → Pair t u → key_in (form_of t) ≡ key_in (form_of u)
  keys_one (pairs.hole {f = f} {g = g} {l = l} {n = n} h k s o) = no_key f l (hole_constant f l h) ∙ sym (no_key g n (hole_constant g n k))
  keys_one (pairs.constant h k e e' o s) = key_one o
  keys_one (pairs.node e e' o b parts) = key_one o

  -- ---- what parts are told

  compared_one : (b b' : Bool) (s t : Stands) → b ≡ b' → (b ≡ false → AreOneType s t) → compared_told b s ≡ compared_told b' t
  compared_one true true s t e h = refl
  compared_one true false s t e h = cc
  compared_one false true s t e h = cc
  compared_one false false s t e h = own_one (h refl)

  operands_told : (k : Working) (told : Option TypeTree) (s t : Stands) (ps qs : Typeds TypeTree) → AreOneType s t → first_waits ps ≡ first_waits qs → second_waits ps ≡ second_waits qs →
      (first_waits ps ≡ false → AreOneType (part_sort ps 0) (part_sort qs 0)) → (second_waits ps ≡ false → AreOneType (part_sort ps 1) (part_sort qs 1)) → (m : ℕ) → operand_told k told s ps m ≡ operand_told k told t qs m
  operands_told comparing told s t ps qs o x y f g zero = compared_one (second_waits ps) (second_waits qs) (part_sort ps 1) (part_sort qs 1) y g
  operands_told comparing told s t ps qs o x y f g (suc m) = compared_one (first_waits ps) (first_waits qs) (part_sort ps 0) (part_sort qs 0) x f
  operands_told shifting told s t ps qs o x y f g zero = refl
  operands_told shifting told s t ps qs o x y f g (suc m) = refl
  operands_told meeting told s t ps qs o x y f g m =
      ap (λ b. if b && second_waits ps then told else own_type s) x ∙ ap (λ b. if first_waits qs && b then told else own_type s) y ∙ ap (λ z. if first_waits qs && second_waits qs then told else z) (own_one o)

  -- behind names or targets
  values_by : (b : Bool) (s t : Stands) → (b ≡ true → AreOneType s t) → (if b then or_boolean (own_type s) else None) ≡ (if b then or_boolean (own_type t) else None)
  values_by true s t h = ap or_boolean (own_one (h refl))
  values_by false s t h = refl

  value_one : (n behind : ℕ) (ps qs : Typeds TypeTree) (m : ℕ) → ((m : ℕ) (t : Option TypeTree) → value_told n behind ps m ≡ t → value_told n behind qs m ≡ t → AreOneType (part_sort ps m) (part_sort qs m)) →
      nat_le behind m ≡ false → AreOneType (part_sort ps m) (part_sort qs m)
  value_one n behind ps qs m at e =
      at m None (ap (λ b. if b && nat_lt (m - behind) n then or_boolean (own_type (part_sort ps (m - behind))) else None) e)
      (ap (λ b. if b && nat_lt (m - behind) n then or_boolean (own_type (part_sort qs (m - behind))) else None) e)

  values_told : (n behind : ℕ) (ps qs : Typeds TypeTree) → ((m : ℕ) → nat_lt m n ≡ true → nat_le behind m ≡ false) →
      ((m : ℕ) (t : Option TypeTree) → value_told n behind ps m ≡ t → value_told n behind qs m ≡ t → AreOneType (part_sort ps m) (part_sort qs m)) → (k : ℕ) → value_told n behind ps k ≡ value_told n behind qs k
  values_told n behind ps qs before at k =
      values_by (nat_le behind k && nat_lt (k - behind) n) (part_sort ps (k - behind)) (part_sort qs (k - behind))
      (λ h. value_one n behind ps qs (k - behind) at (before (k - behind) (and_parts (nat_le behind k) (nat_lt (k - behind) n) h).1))

  builtins_told : (p : Predeclared) (rights : Rights) (ps qs : Typeds TypeTree) → (((r : Rights) (xs : Typeds TypeTree) → builtin_told r p xs 0 ≡ None) → AreOneType (part_sort ps 1) (part_sort qs 1)) →
      (k : ℕ) → builtin_told rights p ps k ≡ builtin_told rights p qs k
  builtins_told predeclared.Append rights ps qs h zero = refl
  builtins_told predeclared.Append rights ps qs h (suc k) = ap (λ t. slice_element (underlying_in rights t)) (own_one (h (λ r xs. refl)))
  builtins_told p rights ps qs h k = refl

  same_arguments : (x : Stands) (rights : Rights) (ps qs : Typeds TypeTree) →
      ((p : Predeclared) → x ≡ Builtin p → ((r : Rights) (xs : Typeds TypeTree) → builtin_told r p xs 0 ≡ None) → AreOneType (part_sort ps 1) (part_sort qs 1)) → (k : ℕ) → argument_told rights x ps k ≡ argument_told rights x qs k
  same_arguments (Builtin p) rights ps qs h k = builtins_told p rights ps qs (h p refl) k
  same_arguments x rights ps qs h k = refl

  arguments_told : (x y : Stands) (rights : Rights) (ps qs : Typeds TypeTree) → AreOneType x y →
      ((p : Predeclared) → x ≡ Builtin p → y ≡ Builtin p → ((r : Rights) (xs : Typeds TypeTree) → builtin_told r p xs 0 ≡ None) → AreOneType (part_sort ps 1) (part_sort qs 1)) → (k : ℕ) → argument_told rights x ps k ≡ argument_told rights y qs k
  arguments_told x y rights ps qs (alike same) h k = same_arguments x rights ps qs (λ p e. h p e e) k
  arguments_told x y rights ps qs (alike (constant e)) h k = refl
  arguments_told x y rights ps qs (alike (untyped e)) h k = refl
  arguments_told x y rights ps qs (alike target) h k = refl
  arguments_told x y rights ps qs (alike no_target) h k = refl
  arguments_told x y rights ps qs values h k = refl

  -- fewer than the names, and so no value
  before_targets : (n m : ℕ) → nat_lt m n ≡ true → nat_le n m ≡ false
  before_targets n m h = lt-leb n m (ltb-true m n h)

  before_names : (n m : ℕ) → nat_lt m n ≡ true → nat_le (suc n) m ≡ false
  before_names n m h = let e : m < n = ltb-true m n h in lt-leb (suc n) m (omega (arith, e))

  told_by : (told : Option TypeTree) (f : Form) (l n : Label TypeTree) (ps qs : Typeds TypeTree) → AreOneType l.sort n.sort → first_waits ps ≡ first_waits qs → second_waits ps ≡ second_waits qs →
      Known told f f l n ps qs → (k : ℕ) (key : Option ℕ) → tells told f l ps k key ≡ tells told f n qs k key
  told_by told (form.Binary q) l n ps qs o x y p k key = operands_told (working q) told l.sort n.sort ps qs o x y p.first p.second k
  told_by told (form.Assign m) l n ps qs o x y p k key = values_told m m ps qs (before_targets m) (λ q t e e'. p.at q t (λ z. e) (λ z. e')) k
  told_by told (form.Define m) l n ps qs o x y p k key = values_told m m ps qs (before_targets m) (λ q t e e'. p.at q t (λ z. e) (λ z. e')) k
  told_by told (form.Specified m) l n ps qs o x y p k key = values_told m (suc m) ps qs (before_names m) (λ q t e e'. p.at q t (λ z. e) (λ z. e')) k
  told_by told form.Switch l n ps qs o x y p zero key = refl
  told_by told form.Switch l n ps qs o x y p (suc zero) key = refl
  told_by told form.Switch l n ps qs o x y p (suc (suc k)) key = ap or_boolean (own_one (p.at 1 (Some boolean) (λ z. refl) (λ z. refl)))
  told_by told form.Call l n ps qs o x y p zero key = refl
  told_by told form.Call l n ps qs o x y p (suc k) key =
      arguments_told (part_sort ps 0) (part_sort qs 0) w.rights ps qs (p.at 0 None (λ z. refl) (λ z. refl))
      (λ q e e' z. p.at 1 None (λ v. ap (λ r. argument_told w.rights r ps 0) e ∙ z w.rights ps) (λ v. ap (λ r. argument_told w.rights r qs 0) e' ∙ z w.rights qs)) k
  told_by told form.Conversion l n ps qs o x y p k key = ap (λ t. second_told t k) (named_one (p.at 0 None (λ z. refl) (λ z. refl)))
  told_by told form.Composite l n ps qs o x y p zero key = refl
  told_by told form.Composite l n ps qs o x y p (suc k) key = ap (λ t. element_told (underlying_in w.rights t) k key) (own_one o)
  told_by told f l n ps qs o x y p k key = refl

  tells_one : (told : Option TypeTree) (f g : Form) (l n : Label TypeTree) (ps qs : Typeds TypeTree) → Forms f g → AreOneType l.sort n.sort → first_waits ps ≡ first_waits qs → second_waits ps ≡ second_waits qs →
      Known told f g l n ps qs → (k : ℕ) (key : Option ℕ) → tells told f l ps k key ≡ tells told g n qs k key
  tells_one told f g l n ps qs (pairs.one h e) o x y p k key = told_by told f l n ps qs o x y p k key
  tells_one told f g l n ps qs (pairs.used z e) o x y p k key = refl
  tells_one told f g l n ps qs (pairs.new z e) o x y p k key = refl
  tells_one told f g l n ps qs (pairs.declared z e) o x y p k key = refl
  tells_one told f g l n ps qs pairs.holders o x y p k key = refl

  -- ---- what nodes stand for, in their copies

  either_sort : {s t x y : Stands} → s ≡ x → t ≡ y → x ≡ y → AreOneSort s t
  either_sort {s} {t} {x} {y} e f h = subst (λ z. AreOneSort s z) (e ∙ h ∙ sym f) same

  named_sort : {s t x y : Stands} → s ≡ x → t ≡ y → AreOneSort x y → AreOneSort s t
  named_sort {s} {t} {x} {y} e f o = subst (λ z. AreOneSort z t) (sym e) (subst (λ z. AreOneSort x z) (sym f) o)

  -- what a node stands for that is no element for a field
  sort_one : (told : Option TypeTree) (f : Form) (l n : Label TypeTree) (ps qs : Typeds TypeTree) → local_of f ≡ None → key_in f ≡ None → is_constant_expression f l ≡ false →
      agree_besides identical (compared f) (compared f) l.sort n.sort ≡ true → IsRuled w here told f l ps → IsRuled w there told f n qs → AreOneType l.sort n.sort → AreOneSort l.sort n.sort
  sort_one told (form.Held q) l n ps qs h k e b r r' o = let z = r.holder in cc
  sort_one told (form.Local m) l n ps qs h k e b r r' o = cc
  sort_one told (form.New m) l n ps qs h k e b r r' o = cc
  sort_one told (form.Declared m) l n ps qs h k e b r r' o = cc
  sort_one told (form.Keyed m) l n ps qs h k e b r r' o = cc
  sort_one told form.Blank l n ps qs h k e b r r' o = blanks_one identical exact l.sort n.sort r.stands r'.stands b
  sort_one told form.Type l n ps qs h k e b r r' o = types_one identical exact l.sort n.sort r.stands r'.stands b
  sort_one told form.Parenthesized l n ps qs h k e b r r' o = not_constants o e
  sort_one told (form.Selector m) l n ps qs h k e b r r' o = not_constants o e
  sort_one told form.Index l n ps qs h k e b r r' o = not_constants o e
  sort_one told form.Slice l n ps qs h k e b r r' o = not_constants o e
  sort_one told form.Call l n ps qs h k e b r r' o = not_constants o e
  sort_one told form.Conversion l n ps qs h k e b r r' o = not_constants o e
  sort_one told form.Composite l n ps qs h k e b r r' o = not_constants o e
  sort_one told (form.Unary q) l n ps qs h k e b r r' o = not_constants o e
  sort_one told (form.Binary q) l n ps qs h k e b r r' o = not_constants o e
  sort_one told f l n ps qs h k e b r r' o = either_sort r.stands r'.stands refl

  head_one : {p q : Typed TypeTree} {ps qs : Typeds TypeTree} → AreOneCopy (trees.more p ps) (trees.more q qs) → AreOneSort (sort_of p) (sort_of q)
  head_one (copy.more (copy.node o e parts) xs) = o
  head_one (copy.more (copy.constant {t = u} {v = v} {w = x} h h' e f k z) xs) = constant_by u v x e f k

  -- an element for a field
  keyed_one : (s t : Stands) {ps qs : Typeds TypeTree} → Pairs ps qs → s ≡ part_sort ps 0 → t ≡ part_sort qs 0 → AreOneCopy (all_copied c false ps) (all_copied d false qs) →
      AreOneSort (first_sort (sort_numbered c s) (all_copied c false ps)) (first_sort (sort_numbered d t) (all_copied d false qs))
  keyed_one s t pairs.none e e' h = either_sort (ap (sort_numbered c) e) (ap (sort_numbered d) e') refl
  keyed_one s t (pairs.more p xs) e e' h = head_one h
  keyed_one s t (pairs.skip xs) e e' h = either_sort (ap (sort_numbered c) e) (ap (sort_numbered d) e') refl

  -- over the copies of parts
  over_by : (told : Option TypeTree) (f : Form) (l n : Label TypeTree) (ps qs : Typeds TypeTree) → local_of f ≡ None → is_constant_expression f l ≡ false →
      agree_besides identical (compared f) (compared f) l.sort n.sort ≡ true → IsRuled w here told f l ps → IsRuled w there told f n qs → AreOneType l.sort n.sort → SortHas One l.sort → Pairs ps qs →
      AreOneCopy (all_copied c false ps) (all_copied d false qs) → AreOneSort (label_numbered c f l (all_copied c false ps)).sort (label_numbered d f n (all_copied d false qs)).sort
  over_by told (form.Keyed m) l n ps qs h e b r r' o i pp xx = keyed_one l.sort n.sort pp r.stands r'.stands xx
  over_by told f l n ps qs h e b r r' o i pp xx = sorts_numbered (sort_one told f l n ps qs h refl e b r r' o) i

  over_one : (told : Option TypeTree) (f g : Form) (l n : Label TypeTree) (ps qs : Typeds TypeTree) → Forms f g → is_constant_expression f l ≡ false →
      agree_besides identical (compared f) (compared g) l.sort n.sort ≡ true → IsRuled w here told f l ps → IsRuled w there told g n qs → AreOneType l.sort n.sort → SortHas One l.sort → Pairs ps qs →
      AreOneCopy (all_copied c false ps) (all_copied d false qs) → AreOneSort (label_numbered c f l (all_copied c false ps)).sort (label_numbered d g n (all_copied d false qs)).sort
  over_one told f g l n ps qs (pairs.one h k) e b r r' o i pp xx = over_by told f l n ps qs h e b r r' o i pp xx
  over_one told f g l n ps qs (pairs.used z k) e b r r' o i pp xx = sorts_numbered (named_sort r.stands r'.stands z) i
  over_one told f g l n ps qs (pairs.new z k) e b r r' o i pp xx = sorts_numbered (named_sort r.stands r'.stands z) i
  over_one told f g l n ps qs (pairs.declared z k) e b r r' o i pp xx = sorts_numbered (named_sort r.stands r'.stands z) i
  over_one told f g l n ps qs pairs.holders e b r r' o i pp xx = let z = r.holder in cc

  calls_same : {ps qs : Typeds TypeTree} (f g : Form) (s t : Stands) (v x : Bool) → Pairs ps qs → is_call f ≡ is_call g → is_constant s ≡ is_constant t → calls_nothing v ps ≡ true → calls_nothing x qs ≡ true →
      any_calls (all_copied c false ps) ≡ any_calls (all_copied d false qs) → calls_over f s v (all_copied c false ps) ≡ calls_over g t x (all_copied d false qs)
  calls_same f g s t v x pairs.none e k h h' a = not_true v h ∙ sym (not_true x h')
  calls_same f g s t v x (pairs.more {p = p} {q = q} {ps = ps} {qs = qs} y ys) e k h h' a =
      ap (λ b. (b && not (is_constant s)) || any_calls (all_copied c false (trees.more p ps))) e ∙ ap (λ b. (is_call g && not b) || any_calls (all_copied c false (trees.more p ps))) k ∙ ap (λ b. (is_call g && not (is_constant t)) || b) a
  calls_same f g s t v x (pairs.skip {ps = ps} {qs = qs} ys) e k h h' a =
      ap (λ b. (b && not (is_constant s)) || any_calls (all_copied c false (trees.skip ps))) e ∙ ap (λ b. (is_call g && not b) || any_calls (all_copied c false (trees.skip ps))) k ∙ ap (λ b. (is_call g && not (is_constant t)) || b) a

  -- ---- constants

  constants_copy : (f g : Form) (i j k m : ℕ) (l n : Label TypeTree) (ps qs : Typeds TypeTree) (u u' : TypeTree) (v x : Const) → is_constant_expression f l ≡ true → is_constant_expression g n ≡ true →
      l.sort ≡ Constant u v → n.sort ≡ Constant u' x → u ≡ u' → same_value v x ≡ true → SortHas One l.sort → (not l.calls && are_quiet ps) ≡ true → (not n.calls && are_quiet qs) ≡ true →
      IsOneCopy (node_numbered c f i j l (all_copied c true ps)) (node_numbered d g k m n (all_copied d true qs))
  constants_copy f g i j k m l n ps qs u u' v x h h' e e' t s o z z' =
      let p : One u = subst (λ y. SortHas One y) e o in
      copy.constant {t = renamed c.type u} {v = v} {w = x}
      (expression_numbered c f (and_parts (is_expression f) (is_constant l.sort) h).0) (expression_numbered d g (and_parts (is_expression g) (is_constant n.sort) h').0)
      (kept_sort f (sort_numbered c l.sort) (all_copied c true ps) (no_key f l h) ∙ ap (sort_numbered c) e)
      (kept_sort g (sort_numbered d n.sort) (all_copied d true qs) (no_key g n h') ∙ ap (sort_numbered d) e' ∙ ap (λ y. Constant (renamed d.type y) x) (sym t) ∙ ap (λ y. Constant y x) (sym p))
      s (constant_calls c f l ps h z ∙ sym (constant_calls d g n qs h' z'))

  parameters_copy : (i j k m : ℕ) (s t : Stands) (p q : ℕ) (u u' : TypeTree) (v x : Const) → s ≡ Constant u v → t ≡ Constant u' x → u ≡ u' → SortHas One s → p ≡ q → IsOneCopy (parameter_node c p i j s) (parameter_node d q k m t)
  parameters_copy i j k m s t p q u u' v x e e' h o f =
      let y : One u = subst (λ y. SortHas One y) e o in
      let z : sort_numbered c (copies.value_of s) ≡ sort_numbered d (copies.value_of t) =
      ap (λ r. sort_numbered c (copies.value_of r)) e ∙ ap Value y ∙ ap (λ r. Value (renamed d.type r)) h ∙ sym (ap (λ r. sort_numbered d (copies.value_of r)) e') in
      subst (λ r. IsOneCopy (parameter_node c p i j s) (parameter_node d r k m t)) f (copy.node (subst (λ r. AreOneSort (sort_numbered c (copies.value_of s)) r) z same) refl copy.none)

  same_const : (s t : Stands) (u u' : TypeTree) (v x : Const) → s ≡ Constant u v → t ≡ Constant u' x → same_values (value_of s) (value_of t) ≡ true → same_value v x ≡ true
  same_const s t u u' v x e e' h = subst (λ y. same_values (value_of (Constant u v)) (value_of y) ≡ true) e' (subst (λ y. same_values (value_of y) (value_of t) ≡ true) e h)

  hole_copy : (f g : Form) (i j k m : ℕ) (l n : Label TypeTree) (ps qs : Typeds TypeTree) (u u' : TypeTree) (v x : Const) (a b : Option ℕ) → is_hole false f l ≡ true → is_hole false g n ≡ true →
      l.sort ≡ Constant u v → n.sort ≡ Constant u' x → u ≡ u' → SortHas One l.sort → (not l.calls && are_quiet ps) ≡ true → (not n.calls && are_quiet qs) ≡ true → c.parameter i ≡ a → d.parameter k ≡ b →
      same_parameter a b (same_values (value_of l.sort) (value_of n.sort)) ≡ true → IsOneCopy (copied c false (typed f i j l ps)) (copied d false (typed g k m n qs))
  hole_copy f g i j k m l n ps qs u u' v x (Some p) (Some q) h h' e e' t o z z' y y' s =
      by_both (copied_parameter c f i j l ps p (hole_parameter c (is_hole false f l) i h ∙ y)) (copied_parameter d g k m n qs q (hole_parameter d (is_hole false g n) k h' ∙ y'))
      (parameters_copy i j k m l.sort n.sort p q u u' v x e e' t o (eqb-true p q s))
  hole_copy f g i j k m l n ps qs u u' v x (Some p) None h h' e e' t o z z' y y' s = cc
  hole_copy f g i j k m l n ps qs u u' v x None (Some q) h h' e e' t o z z' y y' s = cc
  hole_copy f g i j k m l n ps qs u u' v x None None h h' e e' t o z z' y y' s =
      by_both (copied_node c f i j l ps true (hole_constant f l h) (hole_parameter c (is_hole false f l) i h ∙ y)) (copied_node d g k m n qs true (hole_constant g n h') (hole_parameter d (is_hole false g n) k h' ∙ y'))
      (constants_copy f g i j k m l n ps qs u u' v x (hole_constant f l h) (hole_constant g n h') e e' t (same_const l.sort n.sort u u' v x e e' s) o z z')

  hole_case : (f g : Form) (i j k m : ℕ) (l n : Label TypeTree) (ps qs : Typeds TypeTree) → is_hole false f l ≡ true → is_hole false g n ≡ true → same_final identical (final l.sort) (final n.sort) ≡ true →
      is_one_parameter c d ((i, l.sort), (k, n.sort)) ≡ true → SortHas One l.sort → IsTyped l.sort × ((not l.calls && are_quiet ps) ≡ true) → IsTyped n.sort × ((not n.calls && are_quiet qs) ≡ true) →
      IsOneCopy (copied c false (typed f i j l ps)) (copied d false (typed g k m n qs))
  hole_case f g i j k m l n ps qs h h' s p o ((u, v, e), z) ((u', x, e'), z') =
      let r : same_final identical (final (Constant u v)) (final (Constant u' x)) ≡ true = subst (λ y. same_final identical (final (Constant u v)) (final y) ≡ true) e' (subst (λ y. same_final identical (final y) (final n.sort) ≡ true) e s) in
      hole_copy f g i j k m l n ps qs u u' v x (c.parameter i) (d.parameter k) h h' e e' (exact u u' r) o z z' refl refl p

  constant_case : (f g : Form) (i j k m : ℕ) (l n : Label TypeTree) (ps qs : Typeds TypeTree) → is_hole false f l ≡ false → is_hole false g n ≡ false → is_constant_expression f l ≡ true → is_constant_expression g n ≡ true →
      are_alike identical l.sort n.sort ≡ true → SortHas One l.sort → IsTyped l.sort × ((not l.calls && are_quiet ps) ≡ true) → IsTyped n.sort × ((not n.calls && are_quiet qs) ≡ true) →
      IsOneCopy (copied c false (typed f i j l ps)) (copied d false (typed g k m n qs))
  constant_case f g i j k m l n ps qs h h' x x' s o ((u, v, e), z) ((u', y, e'), z') =
      let r = constants_one identical exact l.sort n.sort u u' v y e e' s in
      by_both (copied_node c f i j l ps true x (no_parameter c (is_hole false f l) i h)) (copied_node d g k m n qs true x' (no_parameter d (is_hole false g n) k h'))
      (constants_copy f g i j k m l n ps qs u u' v y x x' e e' r.0 r.1 o z z')

  -- a node that is no constant, over the copies of its parts
  node_case : (told : Option TypeTree) (f g : Form) (i j k m : ℕ) (l n : Label TypeTree) (ps qs : Typeds TypeTree) → is_constant_expression f l ≡ false → is_constant_expression g n ≡ false → Forms f g →
      agree_besides identical (compared f) (compared g) l.sort n.sort ≡ true → Pairs ps qs → IsRuled w here told f l ps → IsRuled w there told g n qs → AreOneType l.sort n.sort → SortHas One l.sort →
      AreOneCopy (all_copied c false ps) (all_copied d false qs) → IsOneCopy (copied c false (typed f i j l ps)) (copied d false (typed g k m n qs))
  node_case told f g i j k m l n ps qs e e' o b parts r r' t i' xx =
      let s : AreOneSort (label_numbered c f l (all_copied c false ps)).sort (label_numbered d g n (all_copied d false qs)).sort = over_one told f g l n ps qs o e b r r' t i' parts xx in
      let a : (label_numbered c f l (all_copied c false ps)).calls ≡ (label_numbered d g n (all_copied d false qs)).calls =
      calls_same f g (label_numbered c f l (all_copied c false ps)).sort (label_numbered d g n (all_copied d false qs)).sort l.calls n.calls parts (call_one o) (constant_one s) r.calls r'.calls (any_one xx) in
      by_both (copied_node c f i j l ps false e (no_parameter c (is_hole false f l) i (no_hole f l e))) (copied_node d g k m n qs false e' (no_parameter d (is_hole false g n) k (no_hole g n e')))
      (subst (λ y. IsOneCopy (typed (form_numbered c f) (c.token i) (c.token j) (label_numbered c f l (all_copied c false ps)) (all_copied c false ps)) (typed y (d.token k) (d.token m) (label_numbered d g n (all_copied d false qs)) (all_copied d false qs)))
      (forms_numbered r.holder o) (copy.node s a xx))

  -- ---- trees

  known : (told : Option TypeTree) (f g : Form) (l n : Label TypeTree) (ps qs : Typeds TypeTree) → Pairs ps qs → AreSettled w here (tells told f l ps) ps → AreSettled w there (tells told g n qs) qs → Known told f g l n ps qs
  known told f g l n ps qs parts s s' = record {
    skips = skips_one identical exact w here there c d parts;
    first = λ e. first_free identical exact w here there c d (tells told f l ps) (tells told g n qs) parts s s' e;
    second = λ e. second_free identical exact w here there c d (tells told f l ps) (tells told g n qs) parts s s' e;
    at = λ q t e e'. part_one identical exact w here there c d (tells told f l ps) (tells told g n qs) parts s s' q t e e';
  }

  mutual
    copy_one : {t u : Typed TypeTree} (told : Option TypeTree) → Pair t u → IsSettled w here told t → IsSettled w there told u → Every One t → IsOneCopy (copied c false t) (copied d false u)
    copy_one told (pairs.hole {f = f} {g = g} {i = i} {j = j} {k = k} {m = m} {l = l} {n = n} {ps = ps} {qs = qs} h h' e p) s s' o =
        hole_case f g i j k m l n ps qs h h' e p o.0 (type_of_constant identical exact w here there c d here told f i j l ps (hole_constant f l h) s) (type_of_constant identical exact w here there c d there told g k m n qs (hole_constant g n h') s')
    copy_one told (pairs.constant {f = f} {g = g} {i = i} {j = j} {k = k} {m = m} {l = l} {n = n} {ps = ps} {qs = qs} h h' e e' p z) s s' o =
        constant_case f g i j k m l n ps qs h h' e e' z o.0 (type_of_constant identical exact w here there c d here told f i j l ps e s) (type_of_constant identical exact w here there c d there told g k m n qs e' s')
    copy_one told (pairs.node {f = f} {g = g} {i = i} {j = j} {k = k} {m = m} {l = l} {n = n} {ps = ps} {qs = qs} e e' p b parts) s s' o =
        let r = rules_of identical exact w here there c d here told f i j l ps e s in
        let r' = rules_of identical exact w here there c d there told g k m n qs e' s' in
        let t : AreOneType l.sort n.sort = told_one identical exact w here there c d told (pairs.node {i = i} {j = j} {k = k} {m = m} e e' p b parts) s s' in
        node_case told f g i j k m l n ps qs e e' p b parts r.0 r'.0 t o.0
        (copies_one (tells told f l ps) (tells told g n qs) parts r.1 r'.1
        (λ q key. tells_one told f g l n ps qs p t (first_one identical exact w here there c d parts) (second_one identical exact w here there c d parts) (known told f g l n ps qs parts r.1 r'.1) q key) o.1)

    pub copies_one : {ps qs : Typeds TypeTree} (tell tell' : ℕ → Option ℕ → Option TypeTree) → Pairs ps qs → AreSettled w here tell ps → AreSettled w there tell' qs → ((k : ℕ) (key : Option ℕ) → tell k key ≡ tell' k key) →
        EveryPart One ps → AreOneCopy (all_copied c false ps) (all_copied d false qs)
    copies_one tell tell' pairs.none s s' e o = copy.none
    copies_one tell tell' (pairs.more {p = p} {q = q} x xs) s s' e o =
        copy.more (copy_one (tell 0 (key_in (form_of p))) x s.0 (subst (λ z. IsSettled w there z q) (sym (e 0 (key_in (form_of p)) ∙ ap (λ k. tell' 0 k) (keys_one x))) s'.0) o.0)
        (copies_one (λ k. tell (suc k)) (λ k. tell' (suc k)) xs s.1 s'.1 (λ k key. e (suc k) key) o.1)
    copies_one tell tell' (pairs.skip xs) s s' e o = copy.skip (copies_one (λ k. tell (suc k)) (λ k. tell' (suc k)) xs s s' (λ k key. e (suc k) key) o)

pub same_windows : SameWindowsHaveOneCopy
same_windows identical w here there ps qs c d exact same_ settled settled' constants numbered =
    copies_one identical exact w here there c d numbered.referents nothing_told nothing_told (same_pairs identical exact here there c d ps qs same_ constants numbered) settled settled' (λ k key. refl) numbered.types
