-- Printed types name no variable and call nothing, whatever they are read to be.
use Rattle.std.proofs.Common.{◌≡◌, ◌∙◌, ℕ, suc, Bool, true, false, List, [], ◌∷◌, ◌++◌, Some, None, refl, sym, ap, subst}
use Rattle.std.specs.Prelude.{◌||◌, ◌&&◌, not, if◌then◌else◌}
use Rattle.std.specs.List.{list_any}
use Rattle.std.proofs.lemmas.List.{append_assoc}
use Rattle.go_grammar.specs.declared.kind.Kind.{Kind}
use Rattle.go_grammar.specs.declared.kind.Kind.TheVariants as kind
use Rattle.go_grammar.specs.Grammar.{ends_from, is_name}
use Rattle.go_grammar.specs.Trees.{Tree, Trees, node, last}
use Rattle.go_grammar.specs.Trees as trees
use Rattle.go_types.specs.Trees.{TypeTree, boolean, text, integer, array, slice, structure, function, declared, TypeRow, none, more}
use Rattle.go_typed.specs.declared.form.Form.{Form}
use Rattle.go_typed.specs.Trees.{row, list_of, parts_of, form_of, sort_of}
use Rattle.go_typed.specs.Trees as sort
use Rattle.go_exprs_rules.specs.Names.{name_sort, object_form, form_or_type}
use Rattle.go_exprs_rules.specs.Scopes.{Hint, Scope, value, type_place, loose, declares}
use Rattle.go_exprs_rules.specs.Settling.{Part}
use Rattle.go_exprs_rules.specs.Sorts.{Stands, is_constant}
use Rattle.go_exprs_rules.specs.Tables.{Parts, is_held, held, all_held, hint, part_scope, as_type_place, in_length, is_variable_name, is_call, varies_in, calls_in, is_sound, own_faults, form_by, sort_by, layout, built_by}
use Rattle.go_exprs_rules.specs.Typing.{typing, typings}
use Rattle.go_print_laws.specs.Reading.{ReadsType, ReadsRow, ReadsResults, ReadsFields, IsWithin, RowIsWithin, IsTypePlace, at_place, in_loose, TypesReadBack}
use Rattle.go_print_laws.specs.Trees.{name_at, number_at, field_at, type_tree, list_trees, behind_trees, result_trees, field_trees, later_trees, list_end, behind_end}
use Rattle.go_stmts_calls.proofs.Declared.{either_unheld, object_unheld}

abbrev pub IsQuiet : Part → Type 0
IsQuiet x = (varies_in (Some x) ≡ false) × (calls_in (Some x) ≡ false)

abbrev AreQuiet : Parts → Type 0
AreQuiet xs = (list_any varies_in xs ≡ false) × (list_any calls_in xs ≡ false)

-- ---- lists

quiet_front : (x : Part) (xs : Parts) → IsQuiet x → AreQuiet xs → AreQuiet (Some x ∷ xs)
quiet_front x xs e d = (ap (λ b. b || list_any varies_in xs) e.0 ∙ d.0, ap (λ b. b || list_any calls_in xs) e.1 ∙ d.1)

pub first_quiet : (b c : Bool) → (b || c) ≡ false → b ≡ false
first_quiet true c e = e
first_quiet false c e = refl

pub rest_quiet : (b c : Bool) → (b || c) ≡ false → c ≡ false
rest_quiet true c e = cc
rest_quiet false c e = e

quiet_both : (xs ys : Parts) → AreQuiet xs → AreQuiet ys → AreQuiet (xs ++ ys)
quiet_both [] ys e d = d
quiet_both (None ∷ xs) ys e d = quiet_both xs ys e d
quiet_both (Some x ∷ xs) ys e d =
    quiet_front x (xs ++ ys) (first_quiet (varies_in (Some x)) (list_any varies_in xs) e.0, first_quiet (calls_in (Some x)) (list_any calls_in xs) e.1)
    (quiet_both xs ys (rest_quiet (varies_in (Some x)) (list_any varies_in xs) e.0, rest_quiet (calls_in (Some x)) (list_any calls_in xs) e.1) d)

quiet_behind : (xs : Parts) (x : Part) → AreQuiet xs → IsQuiet x → AreQuiet (xs ++ Some x ∷ [])
quiet_behind xs x e d = quiet_both xs (Some x ∷ []) e (quiet_front x [] d (refl, refl))

list_row : (xs : Parts) → list_of (row xs) ≡ xs
list_row [] = refl
list_row (None ∷ xs) = ap (λ ys. None ∷ ys) (list_row xs)
list_row (Some x ∷ xs) = ap (λ ys. Some x ∷ ys) (list_row xs)

held_both : (xs ys : Parts) → all_held (xs ++ ys) ≡ all_held xs ++ all_held ys
held_both [] ys = refl
held_both (x ∷ xs) ys = ap (λ zs. held x ++ zs) (held_both xs ys) ∙ sym (append_assoc (held x) (all_held xs) (all_held ys))

-- ---- nodes

-- a form that is no variable's name and no call
abbrev IsCalm : Form → Type 0
IsCalm r = ((x : Stands) → is_variable_name r x ≡ false) × (is_call r ≡ false)

made_quiet : (r : Form) (x : Stands) (ys : Parts) → IsCalm r → AreQuiet ys → ((is_variable_name r x || list_any varies_in ys) ≡ false) × (((is_call r && not (is_constant x)) || list_any calls_in ys) ≡ false)
made_quiet r x ys c q = (ap (λ b. b || list_any varies_in ys) (c.0 x) ∙ q.0, ap (λ b. (b && not (is_constant x)) || list_any calls_in ys) c.1 ∙ q.1)

built_quiet : (s : Scope) (k : Kind) (h : Hint) (i j : ℕ) (ys : Parts) (b : Bool) → IsCalm (form_by s k h i j ys) → AreQuiet ys → IsQuiet (built_by s k h i j ys b)
built_quiet s k h i j ys true c q = made_quiet (form_by s k h i j ys) (sort_by s k h i j ys) ys c q
built_quiet s k h i j ys false c q = made_quiet (form_by s k h i j ys) sort.Unknown ys c q

node_quiet : (s : Scope) (k : Kind) (h : Hint) (i j : ℕ) (ps : Trees) → IsCalm (form_by s k h i j (layout k (typings s k h ps [] ps))) → AreQuiet (layout k (typings s k h ps [] ps)) → IsQuiet (typing s h (node k i j ps))
node_quiet s k h i j ps c q =
    let ys = layout k (typings s k h ps [] ps) in
    built_quiet s k h i j ys (is_sound k ys (own_faults s k h i j ys)) c q

-- ---- names and numbers

type_named : (F : Form) (x : Stands) (t : TypeTree) → x ≡ sort.IsType t → ((is_variable_name (form_or_type x F) x || false) ≡ false) × (((is_call (form_or_type x F) && not (is_constant x)) || false) ≡ false)
type_named F x t e = (ap (λ y. is_variable_name (form_or_type y F) y || false) e, ap (λ y. (is_call (form_or_type y F) && not (is_constant y)) || false) e)

place_quiet : (s : Scope) (i : ℕ) (t : TypeTree) (b : Bool) → sort_of (built_by s kind.Name type_place i (suc i) [] b) ≡ sort.IsType t → IsQuiet (built_by s kind.Name type_place i (suc i) [] b)
place_quiet s i t true e = type_named (object_form s (s.objects i)) (name_sort s type_place i) t e
place_quiet s i t false e = cc

loose_quiet : (s : Scope) (i : ℕ) (t : TypeTree) (b : Bool) → sort_of (built_by s kind.Name loose i (suc i) [] b) ≡ sort.IsType t → IsQuiet (built_by s kind.Name loose i (suc i) [] b)
loose_quiet s i t true e = type_named (object_form s (s.objects i)) (name_sort s loose i) t e
loose_quiet s i t false e = cc

name_quiet : (s : Scope) (h : Hint) (i : ℕ) (t : TypeTree) → IsTypePlace h → sort_of (typing s h (name_at i)) ≡ sort.IsType t → IsQuiet (typing s h (name_at i))
name_quiet s h i t at_place e = place_quiet s i t (is_sound kind.Name [] (own_faults s kind.Name type_place i (suc i) [])) e
name_quiet s h i t in_loose e = loose_quiet s i t (is_sound kind.Name [] (own_faults s kind.Name loose i (suc i) [])) e

number_quiet : (s : Scope) (h : Hint) (i : ℕ) → IsQuiet (typing s h (number_at i))
number_quiet s h i = node_quiet s kind.Integer h i (suc i) trees.none ((λ x. refl), refl) (refl, refl)

-- ---- what stands in no holder

built_form : (s : Scope) (k : Kind) (h : Hint) (i j : ℕ) (ys : Parts) (b : Bool) → form_of (built_by s k h i j ys b) ≡ form_by s k h i j ys
built_form s k h i j ys true = refl
built_form s k h i j ys false = refl

typed_form : (s : Scope) (h : Hint) (k : Kind) (i j : ℕ) (ps : Trees) → form_of (typing s h (node k i j ps)) ≡ form_by s k h i j (layout k (typings s k h ps [] ps))
typed_form s h k i j ps =
    let ys = layout k (typings s k h ps [] ps) in
    built_form s k h i j ys (is_sound k ys (own_faults s k h i j ys))

either_quiet : (b : Bool) (xs : Parts) (x : Part) → b ≡ false → IsQuiet x → AreQuiet (if b then xs else Some x ∷ [])
either_quiet true xs x e q = cc
either_quiet false xs x e q = quiet_front x [] q (refl, refl)

held_quiet : (x : Part) → is_held (form_of x) ≡ false → IsQuiet x → AreQuiet (held (Some x))
held_quiet x e q = either_quiet (is_held (form_of x)) (list_of (parts_of x)) x e q

-- ---- a row of printed types ends with no named parameter

unnamed_behind : (i : ℕ) (ts : TypeRow) → ends_from false (behind_trees i ts) ≡ false
unnamed_behind i none = refl
unnamed_behind i (more boolean ts) = unnamed_behind _ ts
unnamed_behind i (more text ts) = unnamed_behind _ ts
unnamed_behind i (more (integer k) ts) = unnamed_behind _ ts
unnamed_behind i (more (array n t) ts) = unnamed_behind _ ts
unnamed_behind i (more (slice t) ts) = unnamed_behind _ ts
unnamed_behind i (more (structure ns us) ts) = unnamed_behind _ ts
unnamed_behind i (more (function ps rs) ts) = unnamed_behind _ ts
unnamed_behind i (more (declared n) ts) = unnamed_behind _ ts

unnamed : (i : ℕ) (ts : TypeRow) → ends_from false (list_trees i ts) ≡ false
unnamed i none = refl
unnamed i (more boolean ts) = unnamed_behind _ ts
unnamed i (more text ts) = unnamed_behind _ ts
unnamed i (more (integer k) ts) = unnamed_behind _ ts
unnamed i (more (array n t) ts) = unnamed_behind _ ts
unnamed i (more (slice t) ts) = unnamed_behind _ ts
unnamed i (more (structure ns us) ts) = unnamed_behind _ ts
unnamed i (more (function ps rs) ts) = unnamed_behind _ ts
unnamed i (more (declared n) ts) = unnamed_behind _ ts

module _ (types : TypesReadBack) (s : Scope) where
  -- each part is told that it is a type, in this scope
  record Lists (k : Kind) (all : Trees) : Type 0 where
    told : (xs : Parts) (j : Kind) → hint s k loose all xs j ≡ loose
    scope : (xs : Parts) → part_scope s k xs ≡ s

  parameters_list : (i : ℕ) (ts : TypeRow) → Lists kind.Parameters (list_trees i ts)
  parameters_list i ts = record { told = λ xs j. ap (λ b. if b then (if is_name j then declares else loose) else loose) (unnamed i ts); scope = λ xs. refl }

  results_list : (all : Trees) → Lists kind.Results all
  results_list all = record { told = λ xs j. refl; scope = λ xs. refl }

  name_held : (h : Hint) (i : ℕ) (t : TypeTree) → IsTypePlace h → sort_of (typing s h (name_at i)) ≡ sort.IsType t → is_held (form_of (typing s h (name_at i))) ≡ false
  name_held h i t at_place e = ap is_held (typed_form s type_place kind.Name i (suc i) trees.none) ∙ either_unheld (name_sort s type_place i) (object_form s (s.objects i)) (object_unheld s (s.objects i))
  name_held h i t in_loose e = ap is_held (typed_form s loose kind.Name i (suc i) trees.none) ∙ either_unheld (name_sort s loose i) (object_form s (s.objects i)) (object_unheld s (s.objects i))

  unheld : (t : TypeTree) (h : Hint) (i : ℕ) → IsTypePlace h → sort_of (typing s h (type_tree i t)) ≡ sort.IsType t → is_held (form_of (typing s h (type_tree i t))) ≡ false
  unheld boolean h i p e = name_held h i boolean p e
  unheld text h i p e = name_held h i text p e
  unheld (integer k) h i p e = name_held h i (integer k) p e
  unheld (declared n) h i p e = name_held h i (declared n) p e
  unheld (array n t) h i p e = ap is_held (typed_form s h kind.SequenceType i (last (type_tree i (array n t))) (trees.parts (type_tree i (array n t))))
  unheld (slice t) h i p e = ap is_held (typed_form s h kind.SequenceType i (last (type_tree i (slice t))) (trees.parts (type_tree i (slice t))))
  unheld (structure ns ts) h i p e = ap is_held (typed_form s h kind.StructType i (last (type_tree i (structure ns ts))) (trees.parts (type_tree i (structure ns ts))))
  unheld (function ps rs) h i p e = ap is_held (typed_form s h kind.FunctionType i (last (type_tree i (function ps rs))) (trees.parts (type_tree i (function ps rs))))

  -- ---- nodes over types

  array_quiet : (h : Hint) (i j : ℕ) (x : Tree) → IsTypePlace h → IsQuiet (typing s h x) → IsQuiet (typing s h (node kind.SequenceType i j (trees.more (number_at (suc i)) (trees.more x trees.none))))
  array_quiet h i j x at_place q =
      node_quiet s kind.SequenceType type_place i j (trees.more (number_at (suc i)) (trees.more x trees.none)) ((λ y. refl), refl)
      (quiet_front (typing (in_length s []) value (number_at (suc i))) (Some (typing s type_place x) ∷ []) (number_quiet (in_length s []) value (suc i)) (quiet_front (typing s type_place x) [] q (refl, refl)))
  array_quiet h i j x in_loose q =
      node_quiet s kind.SequenceType loose i j (trees.more (number_at (suc i)) (trees.more x trees.none)) ((λ y. refl), refl)
      (quiet_front (typing (in_length s []) value (number_at (suc i))) (Some (typing s loose x) ∷ []) (number_quiet (in_length s []) value (suc i)) (quiet_front (typing s loose x) [] q (refl, refl)))

  slice_quiet : (h : Hint) (i j : ℕ) (x : Tree) → IsQuiet (typing s loose x) → IsQuiet (typing s h (node kind.SequenceType i j (trees.skip (trees.more x trees.none))))
  slice_quiet h i j x q = node_quiet s kind.SequenceType h i j (trees.skip (trees.more x trees.none)) ((λ y. refl), refl) (quiet_front (typing s loose x) [] q (refl, refl))

  function_quiet : (h : Hint) (i k j : ℕ) (ps us : Trees) → AreQuiet (typings s kind.Parameters loose ps [] ps)
      → ((all : Trees) (x : Part) → IsQuiet x → AreQuiet (typings s kind.Signature loose all (Some x ∷ []) us))
      → IsQuiet (typing s h (node kind.FunctionType i j (trees.more (node kind.Signature (suc i) j (trees.more (node kind.Parameters (suc i) k ps) us)) trees.none)))
  function_quiet h i k j ps us q r =
      let params : Tree = node kind.Parameters (suc i) k ps in
      let all = trees.more params us in
      let sig : Tree = node kind.Signature (suc i) j all in
      let x = node_quiet s kind.Parameters loose (suc i) k ps ((λ y. refl), refl) q in
      let y = node_quiet s kind.Signature loose (suc i) j all ((λ z. refl), refl) (r all (typing s loose params) x) in
      node_quiet s kind.FunctionType h i j (trees.more sig trees.none) ((λ z. refl), refl) (quiet_front (typing s loose sig) [] y (refl, refl))

  -- ---- rows

  one_quiet : (k : Kind) (all : Trees) (xs : Parts) (x : Tree) (ps : Trees) → Lists k all → IsQuiet (typing s loose x)
      → (IsQuiet (typing s loose x) → AreQuiet (typings s k loose all (xs ++ Some (typing s loose x) ∷ []) ps)) → AreQuiet (typings s k loose all xs (trees.more x ps))
  one_quiet k all xs x ps l q r =
      let same : typing (part_scope s k xs) (hint s k loose all xs (trees.kind_of x)) x ≡ typing s loose x =
      ap (λ g. typing (part_scope s k xs) g x) (l.told xs (trees.kind_of x)) ∙ ap (λ u. typing u loose x) (l.scope xs) in
      subst (λ y. AreQuiet (typings s k loose all (xs ++ Some y ∷ []) ps)) (sym same) (r q)

  more_results : (i j : ℕ) (ps all : Trees) (x : Part) → IsQuiet x → AreQuiet (typings s kind.Results loose ps [] ps) → AreQuiet (typings s kind.Signature loose all (Some x ∷ []) (trees.more (node kind.Results i j ps) trees.none))
  more_results i j ps all x q r =
      let y = typing s loose (node kind.Results i j ps) in
      quiet_front x (Some y ∷ []) q (quiet_front y [] (node_quiet s kind.Results loose i j ps ((λ z. refl), refl) r) (refl, refl))

  -- ---- fields

  names_quiet : (i : ℕ) → IsQuiet (typing s declares (node kind.DeclaredName i (suc i) trees.none))
  names_quiet i = node_quiet s kind.DeclaredName declares i (suc i) trees.none ((λ z. refl), refl) (refl, refl)

  field_parts : (i : ℕ) (e : Part) → is_held (form_of e) ≡ false → IsQuiet e
      → AreQuiet (list_of (row (Some (typing s declares (node kind.DeclaredName i (suc i) trees.none)) ∷ (held (Some e) ++ []))))
  field_parts i e u q =
      let d = typing s declares (node kind.DeclaredName i (suc i) trees.none) in
      let zs = held (Some e) ++ [] in
      subst AreQuiet (sym (list_row (Some d ∷ zs))) (quiet_front d zs (names_quiet i) (quiet_both (held (Some e)) [] (held_quiet e u q) (refl, refl)))

  field_quiet : (h : Hint) (i : ℕ) (x : Tree) → IsTypePlace h → is_held (form_of (typing s h x)) ≡ false → IsQuiet (typing s h x) → AreQuiet (held (Some (typing s (as_type_place h) (field_at i x))))
  field_quiet h i x at_place u q = field_parts i (typing s type_place x) u q
  field_quiet h i x in_loose u q = field_parts i (typing s loose x) u q

  behind_fields : (xs : Parts) (x : Part) → AreQuiet (all_held xs) → AreQuiet (held (Some x)) → AreQuiet (all_held (xs ++ Some x ∷ []))
  behind_fields xs x q r = subst AreQuiet (sym (held_both xs (Some x ∷ []))) (quiet_both (all_held xs) (held (Some x) ++ []) q (quiet_both (held (Some x)) [] r (refl, refl)))

  struct_quiet : (h : Hint) (i j : ℕ) (ps : Trees) → AreQuiet (all_held (typings s kind.StructType h ps [] ps)) → IsQuiet (typing s h (node kind.StructType i j ps))
  struct_quiet h i j ps q = node_quiet s kind.StructType h i j ps ((λ z. refl), refl) q

  one_field : (t : TypeTree) (h : Hint) (i : ℕ) → IsTypePlace h → IsWithin s t → ReadsType s h (suc i) t → IsQuiet (typing s h (type_tree (suc i) t)) → AreQuiet (held (Some (typing s (as_type_place h) (field_at i (type_tree (suc i) t)))))
  one_field t h i p w r q = field_quiet h i (type_tree (suc i) t) p (unheld t h (suc i) p (types s h (suc i) t p w r).stands) q

  mutual
    pub type_quiet : (t : TypeTree) (h : Hint) (i : ℕ) → IsTypePlace h → IsWithin s t → ReadsType s h i t → IsQuiet (typing s h (type_tree i t))
    type_quiet boolean h i p w r = name_quiet s h i boolean p (types s h i boolean p w r).stands
    type_quiet text h i p w r = name_quiet s h i text p (types s h i text p w r).stands
    type_quiet (integer k) h i p w r = name_quiet s h i (integer k) p (types s h i (integer k) p w r).stands
    type_quiet (declared n) h i p w r = name_quiet s h i (declared n) p (types s h i (declared n) p w r).stands
    type_quiet (array n t) h i p w r = array_quiet h i _ (type_tree (suc (suc (suc i))) t) p (type_quiet t h (suc (suc (suc i))) p w.2 r.1)
    type_quiet (slice t) h i p w r = slice_quiet h i _ (type_tree (suc (suc i)) t) (type_quiet t loose (suc (suc i)) in_loose w r)
    type_quiet (structure ns ts) h i p w r = struct_quiet h i _ (field_trees (suc (suc i)) ns ts) (fields_quiet ts ns h (suc (suc i)) (field_trees (suc (suc i)) ns ts) p w r)
    type_quiet (function ps rs) h i p w r =
        function_quiet h i _ _ (list_trees (suc (suc i)) ps) (result_trees (suc (list_end (suc (suc i)) ps)) rs)
        (list_quiet ps kind.Parameters (suc (suc i)) (list_trees (suc (suc i)) ps) (parameters_list (suc (suc i)) ps) w.0 r.0)
        (λ all x q. results_quiet rs (suc (list_end (suc (suc i)) ps)) all x q w.1 r.1)

    list_quiet : (ts : TypeRow) (k : Kind) (i : ℕ) (all : Trees) → Lists k all → RowIsWithin s ts → ReadsRow s i ts → AreQuiet (typings s k loose all [] (list_trees i ts))
    list_quiet none k i all l w r = (refl, refl)
    list_quiet (more t ts) k i all l w r =
        one_quiet k all [] (type_tree i t) (behind_trees (last (type_tree i t)) ts) l (type_quiet t loose i in_loose w.0 r.0)
        (λ q. behind_quiet ts k (last (type_tree i t)) all (Some (typing s loose (type_tree i t)) ∷ []) (quiet_front (typing s loose (type_tree i t)) [] q (refl, refl)) l w.1 r.1)

    behind_quiet : (ts : TypeRow) (k : Kind) (i : ℕ) (all : Trees) (xs : Parts) → AreQuiet xs → Lists k all → RowIsWithin s ts → ReadsRow s (suc i) ts → AreQuiet (typings s k loose all xs (behind_trees i ts))
    behind_quiet none k i all xs q l w r = q
    behind_quiet (more t ts) k i all xs q l w r =
        let x = typing s loose (type_tree (suc i) t) in
        one_quiet k all xs (type_tree (suc i) t) (behind_trees (last (type_tree (suc i) t)) ts) l (type_quiet t loose (suc i) in_loose w.0 r.0)
        (λ d. behind_quiet ts k (last (type_tree (suc i) t)) all (xs ++ Some x ∷ []) (quiet_behind xs x q d) l w.1 r.1)

    results_quiet : (ts : TypeRow) (i : ℕ) (all : Trees) (x : Part) → IsQuiet x → RowIsWithin s ts → ReadsResults s i ts → AreQuiet (typings s kind.Signature loose all (Some x ∷ []) (result_trees i ts))
    results_quiet none i all x q w r = quiet_front x (None ∷ []) q (refl, refl)
    results_quiet (more t none) i all x q w r =
        quiet_front x (Some (typing s loose (type_tree i t)) ∷ []) q (quiet_front (typing s loose (type_tree i t)) [] (type_quiet t loose i in_loose w.0 r) (refl, refl))
    results_quiet (more t (more u us)) i all x q w r =
        let ps = list_trees (suc i) (more t (more u us)) in
        more_results i (suc (behind_end (last (type_tree (suc (last (type_tree (suc i) t))) u)) us)) ps all x q
        (one_quiet kind.Results ps [] (type_tree (suc i) t) (behind_trees (last (type_tree (suc i) t)) (more u us)) (results_list ps) (type_quiet t loose (suc i) in_loose w.0 r.0)
        (λ d. behind_quiet (more u us) kind.Results (last (type_tree (suc i) t)) ps (Some (typing s loose (type_tree (suc i) t)) ∷ []) (quiet_front (typing s loose (type_tree (suc i) t)) [] d (refl, refl)) (results_list ps) w.1 r.1))

    fields_quiet : (ts : TypeRow) (ns : List (List ℕ)) (h : Hint) (i : ℕ) (all : Trees) → IsTypePlace h → RowIsWithin s ts → ReadsFields s h i ns ts → AreQuiet (all_held (typings s kind.StructType h all [] (field_trees i ns ts)))
    fields_quiet none [] h i all p w r = (refl, refl)
    fields_quiet none (n ∷ ns) h i all p w r = absurd r
    fields_quiet (more t ts) [] h i all p w r = absurd r
    fields_quiet (more t ts) (n ∷ ns) h i all p w r =
        let x = typing s (as_type_place h) (field_at i (type_tree (suc i) t)) in
        later_quiet ts ns h (last (type_tree (suc i) t)) all (Some x ∷ []) (behind_fields [] x (refl, refl) (one_field t h i p w.0 r.1 (type_quiet t h (suc i) p w.0 r.1))) p w.1 r.2

    later_quiet : (ts : TypeRow) (ns : List (List ℕ)) (h : Hint) (i : ℕ) (all : Trees) (xs : Parts) → AreQuiet (all_held xs) → IsTypePlace h → RowIsWithin s ts → ReadsFields s h (suc i) ns ts
        → AreQuiet (all_held (typings s kind.StructType h all xs (later_trees i ns ts)))
    later_quiet none [] h i all xs q p w r = q
    later_quiet none (n ∷ ns) h i all xs q p w r = absurd r
    later_quiet (more t ts) [] h i all xs q p w r = absurd r
    later_quiet (more t ts) (n ∷ ns) h i all xs q p w r =
        let x = typing s (as_type_place h) (field_at (suc i) (type_tree (suc (suc i)) t)) in
        later_quiet ts ns h (last (type_tree (suc (suc i)) t)) all (xs ++ Some x ∷ []) (behind_fields xs x q (one_field t h (suc i) p w.0 r.1 (type_quiet t h (suc (suc i)) p w.0 r.1))) p w.1 r.2
