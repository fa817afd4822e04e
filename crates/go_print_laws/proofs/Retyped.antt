-- Printed types are typed as what they print.
use Rattle.std.proofs.Common.{◌≡◌, ℕ, suc, ◌-◌, ◌<◌, ◌^◌, Bool, true, false, not, ◌&&◌, ◌||◌, if◌then◌else◌, List, [], ◌∷◌, ◌++◌, append-nil, append_assoc, Some, None, Option, nat_le, codes, refl, sym, ap, ◌∙◌, subst, arith}
use Rattle.std.specs.Prelude.{pos}
use Rattle.std.specs.List.{list_all, list_any}
use Rattle.std.specs.Option.{option_map}
use Rattle.std.specs.Fmt.{decimal}
use Rattle.std.proofs.lemmas.Bool.Decides.{nat_tests}
use Rattle.go_base.specs.declared.fault.FaultCode.TheVariants as code
use Rattle.go_ints.specs.declared.kinds.Kind.{Kind}
use Rattle.go_ints.specs.declared.kinds.Kind.TheVariants as ints
use Rattle.go_ints.specs.Kinds.{is_value_of}
use Rattle.go_grammar.specs.declared.kind.Kind.{Kind as Node}
use Rattle.go_grammar.specs.declared.kind.Kind.TheVariants as kind
use Rattle.go_grammar.specs.Trees.{Tree, node, Trees, kind_of, last}
use Rattle.go_grammar.specs.Trees as trees
use Rattle.go_grammar.specs.Grammar.{ends_from, is_name}
use Rattle.go_tree.specs.declared.object.Object.{Object}
use Rattle.go_tree.specs.Predeclared.{known_names}
use Rattle.go_types.specs.Trees.{TypeTree, TypeRow, boolean, text, integer, array, slice, structure, function, declared, none, more, row}
use Rattle.go_types_relations.specs.Sizes.{scalars_of}
use Rattle.go_typed.specs.declared.form.Form.TheVariants as form
use Rattle.go_typed.specs.Trees.{list_of, form_of, first_of, sort_of, parts_of}
use Rattle.go_typed.specs.Trees as sort
use Rattle.go_exprs_rules.specs.declared.fault.TypeFault.{TypeFault}
use Rattle.go_exprs_rules.specs.Faults.{fault_at}
use Rattle.go_exprs_rules.specs.Sorts.{Stands, is_unknown, named_type}
use Rattle.go_exprs_rules.specs.Settling.{Part}
use Rattle.go_exprs_rules.specs.Scopes.{Scope, Needed, Hint, value, type_place, loose, declares}
use Rattle.go_exprs_rules.specs.TypeNodes.{with_front, part_type, second, type_sort, kept_length, exceeds, limit_failing, array_of, is_parameter, entry_type, first_entry, entry_types, all_types, is_result_list, result_types, function_of, signature_type, is_field_name, Fields, fields_of, fields_from, names_of, types_of, structure_of}
use Rattle.go_exprs_rules.specs.Names.{object_sort, need_of, name_sort, object_form, form_or_type, name_form}
use Rattle.go_exprs_rules.specs.Tables.{Parts, on_optional, hint, part_scope, as_type_place, in_length, held, all_held, is_judged, is_lost, own_faults, no_faults, built_on}
use Rattle.go_exprs_rules.specs.Typing.{typing, typings, faults, faults_of_parts}
use Rattle.go_print.specs.Texts.{kind_text}
use Rattle.go_print_laws.specs.Trees.{name_at, number_at, names_at, field_at, type_tree, list_trees, list_end, behind_trees, result_trees, field_trees, later_trees}
use Rattle.go_print_laws.specs.Reading.{in_universe, ReadsType, ReadsRow, ReadsResults, ReadsFields, IsWithin, RowIsWithin, IsTypePlace, at_place, in_loose, TypesReadBack}
use Rattle.go_print_laws.proofs.Nodes.{list_row, clear-append, same_place, TypeAt, node_type, held_type}
use Rattle.go_print_laws.proofs.Numbers.{number_part, number_typed, number_clear}

-- ---- rows

abbrev types_in : TypeRow → List TypeTree
types_in none = []
types_in (more t ts) = t ∷ types_in ts

abbrev somes : TypeRow → List (Option TypeTree)
somes none = []
somes (more t ts) = Some t ∷ somes ts

all_somes : (ts : TypeRow) → all_types (somes ts) ≡ Some (types_in ts)
all_somes none = refl
all_somes (more t ts) = ap (λ o. with_front (Some t) o) (all_somes ts)

rows_are : (ts : TypeRow) → row (types_in ts) ≡ ts
rows_are none = refl
rows_are (more t ts) = ap (λ us. more t us) (rows_are ts)

abbrev zipped : List (List ℕ) → TypeRow → Fields
zipped [] ts = []
zipped (n ∷ ns) none = []
zipped (n ∷ ns) (more t ts) = (n, t) ∷ zipped ns ts

held-append : (xs ys : Parts) → all_held (xs ++ ys) ≡ all_held xs ++ all_held ys
held-append [] ys = refl
held-append (x ∷ xs) ys = ap (λ l. held x ++ l) (held-append xs ys) ∙ sym (append_assoc (held x) (all_held xs) (all_held ys))

abbrev nothing : List TypeFault
nothing = []

same_if : (b : Bool) → (if b then nothing else nothing) ≡ nothing
same_if true = refl
same_if false = refl

-- a row of printed types ends with no named parameter
unnamed_behind : (i : ℕ) (ts : TypeRow) → ends_from false (behind_trees i ts) ≡ false
unnamed_behind i none = refl
unnamed_behind i (more boolean ts) = unnamed_behind _ ts
unnamed_behind i (more text ts) = unnamed_behind _ ts
unnamed_behind i (more (integer k) ts) = unnamed_behind _ ts
unnamed_behind i (more (array n t) ts) = unnamed_behind _ ts
unnamed_behind i (more (slice t) ts) = unnamed_behind _ ts
unnamed_behind i (more (structure ns us) ts) = unnamed_behind _ ts
unnamed_behind i (more (function ps rs) ts) = unnamed_behind _ ts
unnamed_behind i (more (declared n) ts) = unnamed_behind _ ts

unnamed : (i : ℕ) (ts : TypeRow) → ends_from false (list_trees i ts) ≡ false
unnamed i none = refl
unnamed i (more boolean ts) = unnamed_behind _ ts
unnamed i (more text ts) = unnamed_behind _ ts
unnamed i (more (integer k) ts) = unnamed_behind _ ts
unnamed i (more (array n t) ts) = unnamed_behind _ ts
unnamed i (more (slice t) ts) = unnamed_behind _ ts
unnamed i (more (structure ns us) ts) = unnamed_behind _ ts
unnamed i (more (function ps rs) ts) = unnamed_behind _ ts
unnamed i (more (declared n) ts) = unnamed_behind _ ts

-- a length that is kept is a value of int
length_kept : (n : ℕ) → n < 2 ^ 32 → kept_length n ≡ n
length_kept n h = grind (arith, nat_tests)

length_whole : (n : ℕ) → n < 2 ^ 32 → is_value_of ints.Int (pos n) ≡ true
length_whole n h = let u : nat_le n (2 ^ 63 - 1) ≡ true = grind (arith, nat_tests) in u

module _ (s : Scope) where
  -- ---- names

  by_object : (h : Hint) (i : ℕ) (o : Option Object) (x : Stands) → IsTypePlace h → s.objects i ≡ o → ((n : Needed) → object_sort s n o ≡ x) → name_sort s h i ≡ x
  by_object h i o x at_place e f = ap (object_sort s (need_of s.needed type_place)) e ∙ f (need_of s.needed type_place)
  by_object h i o x in_loose e f = ap (object_sort s (need_of s.needed loose)) e ∙ f (need_of s.needed loose)

  universe_bool : (n : Needed) → object_sort s n (in_universe (codes "bool")) ≡ sort.IsType boolean
  unfolding known_names
  universe_bool n = refl

  universe_text : (n : Needed) → object_sort s n (in_universe (codes "string")) ≡ sort.IsType text
  unfolding known_names
  universe_text n = refl

  universe_kind : (k : Kind) (n : Needed) → object_sort s n (in_universe (kind_text k)) ≡ sort.IsType (integer k)
  unfolding known_names
  universe_kind ints.Int n = refl
  universe_kind ints.Int8 n = refl
  universe_kind ints.Int16 n = refl
  universe_kind ints.Int32 n = refl
  universe_kind ints.Int64 n = refl
  universe_kind ints.Uint n = refl
  universe_kind ints.Uint8 n = refl
  universe_kind ints.Uint16 n = refl
  universe_kind ints.Uint32 n = refl
  universe_kind ints.Uint64 n = refl

  form_named : (h : Hint) (i : ℕ) (t : TypeTree) → IsTypePlace h → name_sort s h i ≡ sort.IsType t → name_form s h i ≡ form.Type
  form_named h i t at_place e = ap (λ x. form_or_type x (object_form s (s.objects i))) e
  form_named h i t in_loose e = ap (λ x. form_or_type x (object_form s (s.objects i))) e

  name_type : (h : Hint) (i : ℕ) (t : TypeTree) → IsTypePlace h → name_sort s h i ≡ sort.IsType t → TypeAt s h (name_at i) t
  name_type h i t p e = node_type s kind.Name h i (suc i) trees.none [] t p refl refl refl e (form_named h i t p e) refl

  -- ---- arrays and slices

  limit_clear : (b : Bool) (i j n : ℕ) (t : TypeTree) → (b ≡ true → exceeds (scalars_of s.rights (array n t)) ≡ false) → limit_failing s.rights b i j (Some n) (Some t) ≡ []
  limit_clear true i j n t h = ap (λ b. if b then fault_at code.Limit i j else []) (h refl)
  limit_clear false i j n t h = refl

  array_type : (h : Hint) (i n : ℕ) (tree : Tree) (t : TypeTree) → IsTypePlace h → n < 2 ^ 32 → (s.limits ≡ true → exceeds (scalars_of s.rights (array n t)) ≡ false)
      → s.texts (suc i) ≡ decimal n → TypeAt s h tree t → TypeAt s h (node kind.SequenceType i (last tree) (trees.more (number_at (suc i)) (trees.more tree trees.none))) (array n t)
  array_type h i n tree t p small limit said elem =
      let at : TypeAt s (as_type_place h) tree t = subst (λ g. TypeAt s g tree t) (sym (same_place h p)) elem in
      let e = typing s (as_type_place h) tree in
      let wide : n < 2 ^ 127 = omega arith in
      node_type s kind.SequenceType h i (last tree) (trees.more (number_at (suc i)) (trees.more tree trees.none)) (Some (number_part (suc i) n) ∷ Some e ∷ []) (array n t) p
      (ap (λ x. Some x ∷ Some e ∷ []) (number_typed (in_length s []) (suc i) n said wide))
      (ap (λ x. not (is_unknown x || false)) at.stands)
      (ap (λ b. (if b then [] else fault_at code.Representable (suc i) (suc (suc i))) ++ limit_failing s.rights s.limits i (last tree) (Some n) (named_type (sort_of e))) (length_whole n small)
      ∙ ap (λ x. limit_failing s.rights s.limits i (last tree) (Some n) (named_type x)) at.stands ∙ limit_clear s.limits i (last tree) n t limit)
      (ap (λ x. type_sort (array_of (Some n) (named_type x))) at.stands ∙ ap (λ m. sort.IsType (array m t)) (length_kept n small))
      refl
      (clear-append (faults (in_length s []) value (number_at (suc i))) (faults s (as_type_place h) tree ++ []) (number_clear (in_length s []) (suc i) n said wide) (clear-append (faults s (as_type_place h) tree) [] at.faultless refl))

  slice_type : (h : Hint) (i : ℕ) (tree : Tree) (t : TypeTree) → IsTypePlace h → TypeAt s loose tree t → TypeAt s h (node kind.SequenceType i (last tree) (trees.skip (trees.more tree trees.none))) (slice t)
  slice_type h i tree t p at =
      node_type s kind.SequenceType h i (last tree) (trees.skip (trees.more tree trees.none)) (None ∷ Some (typing s loose tree) ∷ []) (slice t) p refl
      (ap (λ x. not (is_unknown x || false)) at.stands) refl (ap (λ x. type_sort (option_map slice (named_type x))) at.stands) refl
      (clear-append (faults s loose tree) [] at.faultless refl)

  -- ---- functions

  -- types that are typed behind others, in parameters or results
  record Listing (k : Node) (ts : TypeRow) (all : Trees) (xs : Parts) (ps : Trees) : Type 0 where
    parts : Parts
    are : typings s k loose all xs ps ≡ xs ++ parts
    entries : entry_types parts ≡ somes ts
    clear : list_all no_faults (faults_of_parts s k loose all xs ps) ≡ true

  -- each part is told that it is a type, in this scope
  record Lists (k : Node) (all : Trees) : Type 0 where
    told : (xs : Parts) (j : Node) → hint s k loose all xs j ≡ loose
    scope : (xs : Parts) → part_scope s k xs ≡ s

  no_types : (k : Node) (all : Trees) (xs : Parts) → Listing k none all xs trees.none
  no_types k all xs = record { parts = []; are = sym (append-nil xs); entries = refl; clear = refl }

  one_type : (k : Node) (t : TypeTree) (ts : TypeRow) (all : Trees) (xs : Parts) (tree : Tree) (ps : Trees) → Lists k all → TypeAt s loose tree t
      → Listing k ts all (xs ++ Some (typing s loose tree) ∷ []) ps → Listing k (more t ts) all xs (trees.more tree ps)
  one_type k t ts all xs tree ps l at r =
      let x = typing s loose tree in
      let same : typing (part_scope s k xs) (hint s k loose all xs (kind_of tree)) tree ≡ x =
      ap (λ g. typing (part_scope s k xs) g tree) (l.told xs (kind_of tree)) ∙ ap (λ u. typing u loose tree) (l.scope xs) in
      let alike : faults (part_scope s k xs) (hint s k loose all xs (kind_of tree)) tree ≡ faults s loose tree =
      ap (λ g. faults (part_scope s k xs) g tree) (l.told xs (kind_of tree)) ∙ ap (λ u. faults u loose tree) (l.scope xs) in
      record {
        parts = Some x ∷ r.parts;
        are = ap (λ y. typings s k loose all (xs ++ Some y ∷ []) ps) same ∙ r.are ∙ append_assoc xs (Some x ∷ []) r.parts;
        entries =
            ap (λ f. (if is_parameter f then part_type (second (list_of (parts_of x))) else entry_type (sort_of x) (first_entry (entry_types r.parts))) ∷ entry_types r.parts) at.form
            ∙ ap (λ y. entry_type y (first_entry (entry_types r.parts)) ∷ entry_types r.parts) at.stands
            ∙ ap (λ l. Some t ∷ l) r.entries;
        clear = clear-append (faults (part_scope s k xs) (hint s k loose all xs (kind_of tree)) tree) _ (ap (list_all no_faults) alike ∙ at.faultless)
            (ap (λ y. list_all no_faults (faults_of_parts s k loose all (xs ++ Some y ∷ []) ps)) same ∙ r.clear);
      }

  parameters_list : (i : ℕ) (ts : TypeRow) → Lists kind.Parameters (list_trees i ts)
  parameters_list i ts = record { told = λ xs j. ap (λ b. if b then (if is_name j then declares else loose) else loose) (unnamed i ts); scope = λ xs. refl }

  results_list : (all : Trees) → Lists kind.Results all
  results_list all = record { told = λ xs j. refl; scope = λ xs. refl }

  -- what stands where the results do
  record ResultsAt (all : Trees) (x : Part) (rs : TypeRow) (ps : Trees) : Type 0 where
    result : Option Part
    are : typings s kind.Signature loose all (Some x ∷ []) ps ≡ Some x ∷ result ∷ []
    types : result_types result ≡ somes rs
    clear : list_all no_faults (faults_of_parts s kind.Signature loose all (Some x ∷ []) ps) ≡ true

  no_results : (all : Trees) (x : Part) → ResultsAt all x none (trees.skip trees.none)
  no_results all x = record { result = None; are = refl; types = refl; clear = refl }

  one_result : (all : Trees) (x : Part) (t : TypeTree) (tree : Tree) → TypeAt s loose tree t → ResultsAt all x (more t none) (trees.more tree trees.none)
  one_result all x t tree at = record {
    result = Some (typing s loose tree);
    are = refl;
    types =
        ap (λ f. if is_result_list f then entry_types (list_of (parts_of (typing s loose tree))) else named_type (sort_of (typing s loose tree)) ∷ []) at.form
        ∙ ap (λ y. named_type y ∷ []) at.stands;
    clear = clear-append (faults s loose tree) [] at.faultless refl;
  }

  more_results : (all : Trees) (x : Part) (i j : ℕ) (rs : TypeRow) (ps : Trees) → Listing kind.Results rs ps [] ps
      → ResultsAt all x rs (trees.more (node kind.Results i j ps) trees.none)
  more_results all x i j rs ps l = record {
    result = Some (typing s loose (node kind.Results i j ps));
    are = refl;
    types = ap entry_types (list_row (typings s kind.Results loose ps [] ps)) ∙ ap entry_types l.are ∙ l.entries;
    clear = clear-append (faults_of_parts s kind.Results loose ps [] ps ++ own_faults s kind.Results loose i j (typings s kind.Results loose ps [] ps) ∷ []) []
        (clear-append (faults_of_parts s kind.Results loose ps [] ps) _ l.clear (ap (λ fs. no_faults fs && true) (same_if (is_judged (typings s kind.Results loose ps [] ps))))) refl;
  }

  function_type : (h : Hint) (i k j : ℕ) (qs : TypeRow) (rs : TypeRow) (ps us : Trees) → IsTypePlace h → Listing kind.Parameters qs ps [] ps
      → ((all : Trees) (x : Part) → ResultsAt all x rs us)
      → TypeAt s h (node kind.FunctionType i j (trees.more (node kind.Signature (suc i) j (trees.more (node kind.Parameters (suc i) k ps) us)) trees.none)) (function qs rs)
  function_type h i k j qs rs ps us p l r =
      let params : Tree = node kind.Parameters (suc i) k ps in
      let all = trees.more params us in
      let x = typing s loose params in
      let q = r all x in
      let sig : Tree = node kind.Signature (suc i) j all in
      let stands : sort_of (typing s loose sig) ≡ sort.IsType (function qs rs) =
      ap (λ ys. on_optional sort.Unknown (λ ps rs. type_sort (signature_type ps rs)) ys) q.are
      ∙ ap (λ l. type_sort (function_of (all_types (entry_types l)) (all_types (result_types q.result)))) (list_row (typings s kind.Parameters loose ps [] ps) ∙ l.are)
      ∙ ap (λ l. type_sort (function_of (all_types l) (all_types (result_types q.result)))) l.entries
      ∙ ap (λ l. type_sort (function_of (all_types (somes qs)) (all_types l))) q.types
      ∙ ap (λ o. type_sort (function_of o (all_types (somes rs)))) (all_somes qs)
      ∙ ap (λ o. type_sort (function_of (Some (types_in qs)) o)) (all_somes rs)
      ∙ ap (λ a. sort.IsType (function a (row (types_in rs)))) (rows_are qs)
      ∙ ap (λ a. sort.IsType (function qs a)) (rows_are rs) in
      let params_clear : list_all no_faults (faults s loose params) ≡ true =
      clear-append (faults_of_parts s kind.Parameters loose ps [] ps) _ l.clear (ap (λ fs. no_faults fs && true) (same_if (is_judged (typings s kind.Parameters loose ps [] ps)))) in
      let clear : list_all no_faults (faults s loose sig) ≡ true =
      clear-append (faults s loose params ++ faults_of_parts s kind.Signature loose all (Some x ∷ []) us) _ (clear-append (faults s loose params) _ params_clear q.clear)
      (ap (λ fs. no_faults fs && true) (same_if (is_judged (typings s kind.Signature loose all [] all)))) in
      node_type s kind.FunctionType h i j (trees.more sig trees.none) (Some (typing s loose sig) ∷ []) (function qs rs) p refl
      (ap (λ y. not (is_unknown y || false)) stands) refl stands refl (clear-append (faults s loose sig) [] clear refl)

  -- ---- structs

  record Fielding (h : Hint) (ns : List (List ℕ)) (ts : TypeRow) (all : Trees) (xs : Parts) (ps : Trees) : Type 0 where
    parts : Parts
    are : all_held (typings s kind.StructType h all xs ps) ≡ all_held xs ++ parts
    fields : fields_from s.texts [] parts ≡ zipped ns ts
    lost : list_any is_lost parts ≡ false
    clear : list_all no_faults (faults_of_parts s kind.StructType h all xs ps) ≡ true

  no_fields : (h : Hint) (all : Trees) (xs : Parts) → Fielding h [] none all xs trees.none
  no_fields h all xs = record { parts = []; are = sym (append-nil (all_held xs)); fields = refl; lost = refl; clear = refl }

  one_field : (h : Hint) (n : List ℕ) (t : TypeTree) (ns : List (List ℕ)) (ts : TypeRow) (all : Trees) (xs : Parts) (i : ℕ) (tree : Tree) (ps : Trees) → IsTypePlace h
      → s.texts i ≡ n → TypeAt s h tree t → Fielding h ns ts all (xs ++ Some (typing s (as_type_place h) (field_at i tree)) ∷ []) ps → Fielding h (n ∷ ns) (more t ts) all xs (trees.more (field_at i tree) ps)
  one_field h n t ns ts all xs i tree ps p said at r =
      let again : TypeAt s (as_type_place (as_type_place h)) tree t = subst (λ g. TypeAt s g tree t) (sym (ap as_type_place (same_place h p) ∙ same_place h p)) at in
      let e = typing s (as_type_place (as_type_place h)) tree in
      let d = typing s declares (node kind.DeclaredName i (suc i) trees.none) in
      let x = typing s (as_type_place h) (field_at i tree) in
      let whole : held (Some x) ≡ Some d ∷ Some e ∷ [] =
      ap (λ l. held (Some (built_on s kind.Fields (as_type_place h) i (last tree) (Some d ∷ (l ++ []))))) (held_type e again.form) in
      record {
        parts = Some d ∷ Some e ∷ r.parts;
        are =
            r.are ∙ ap (λ l. l ++ r.parts) (held-append xs (Some x ∷ [])) ∙ append_assoc (all_held xs) (held (Some x) ++ []) r.parts
            ∙ ap (λ l. all_held xs ++ ((l ++ []) ++ r.parts)) whole;
        fields =
            ap (λ f. if is_field_name f then fields_from s.texts (s.texts i ∷ s.texts (first_of e) ∷ []) r.parts else fields_of (s.texts i ∷ []) (named_type (sort_of e)) (fields_from s.texts [] r.parts)) again.form
            ∙ ap (λ y. fields_of (s.texts i ∷ []) (named_type y) (fields_from s.texts [] r.parts)) again.stands
            ∙ ap (λ m. (m, t) ∷ fields_from s.texts [] r.parts) said
            ∙ ap (λ l. (n, t) ∷ l) r.fields;
        lost = ap (λ y. is_unknown y || list_any is_lost r.parts) again.stands ∙ r.lost;
        clear = clear-append (faults s (as_type_place h) (field_at i tree)) _
            (clear-append (faults s declares (names_at i) ++ (faults s (as_type_place (as_type_place h)) tree ++ [])) _
            (clear-append (faults s declares (names_at i)) (faults s (as_type_place (as_type_place h)) tree ++ []) refl (clear-append (faults s (as_type_place (as_type_place h)) tree) [] again.faultless refl))
            (ap (λ fs. no_faults fs && true) (same_if (is_judged (Some d ∷ (held (Some e) ++ []))))))
            r.clear;
      }

  even_names : (h : Hint) (i : ℕ) (ns : List (List ℕ)) (ts : TypeRow) → ReadsFields s h i ns ts → names_of (zipped ns ts) ≡ ns
  even_names h i [] ts r = refl
  even_names h i (n ∷ ns) none r = absurd r
  even_names h i (n ∷ ns) (more t ts) r = ap (λ l. n ∷ l) (even_names h _ ns ts r.2)

  even_types : (h : Hint) (i : ℕ) (ns : List (List ℕ)) (ts : TypeRow) → ReadsFields s h i ns ts → row (types_of (zipped ns ts)) ≡ ts
  even_types h i [] none r = refl
  even_types h i [] (more t ts) r = absurd r
  even_types h i (n ∷ ns) none r = absurd r
  even_types h i (n ∷ ns) (more t ts) r = ap (λ l. more t l) (even_types h _ ns ts r.2)

  struct_type : (h : Hint) (i j k : ℕ) (ns : List (List ℕ)) (ts : TypeRow) (ps : Trees) → IsTypePlace h → ReadsFields s h k ns ts → Fielding h ns ts ps [] ps → TypeAt s h (node kind.StructType i j ps) (structure ns ts)
  struct_type h i j k ns ts ps p even f =
      node_type s kind.StructType h i j ps f.parts (structure ns ts) p f.are (ap not f.lost) refl
      (ap (λ fs. sort.IsType (structure_of fs)) f.fields ∙ ap (λ ms. sort.IsType (structure ms (row (types_of (zipped ns ts))))) (even_names h k ns ts even) ∙ ap (λ us. sort.IsType (structure ns us)) (even_types h k ns ts even))
      refl f.clear

  -- ---- all types

  mutual
    type_read : (t : TypeTree) (h : Hint) (i : ℕ) → IsTypePlace h → IsWithin s t → ReadsType s h i t → TypeAt s h (type_tree i t) t
    type_read boolean h i p w r = name_type h i boolean p (by_object h i (in_universe (codes "bool")) (sort.IsType boolean) p r universe_bool)
    type_read text h i p w r = name_type h i text p (by_object h i (in_universe (codes "string")) (sort.IsType text) p r universe_text)
    type_read (integer k) h i p w r = name_type h i (integer k) p (by_object h i (in_universe (kind_text k)) (sort.IsType (integer k)) p r (universe_kind k))
    type_read (declared n) h i p w r = name_type h i (declared n) p r
    type_read (array n t) h i p w r = array_type h i n (type_tree (suc (suc (suc i))) t) t p w.0 w.1 r.0 (type_read t h (suc (suc (suc i))) p w.2 r.1)
    type_read (slice t) h i p w r = slice_type h i (type_tree (suc (suc i)) t) t p (type_read t loose (suc (suc i)) in_loose w r)
    type_read (structure ns ts) h i p w r = struct_type h i _ (suc (suc i)) ns ts (field_trees (suc (suc i)) ns ts) p r (fields_read ts ns h (suc (suc i)) (field_trees (suc (suc i)) ns ts) p w r)
    type_read (function ps rs) h i p w r =
        function_type h i _ _ ps rs (list_trees (suc (suc i)) ps) (result_trees (suc (list_end (suc (suc i)) ps)) rs) p
        (list_read ps kind.Parameters (suc (suc i)) (list_trees (suc (suc i)) ps) (parameters_list (suc (suc i)) ps) w.0 r.0)
        (λ all x. results_read rs (suc (list_end (suc (suc i)) ps)) all x w.1 r.1)

    list_read : (ts : TypeRow) (k : Node) (i : ℕ) (all : Trees) → Lists k all → RowIsWithin s ts → ReadsRow s i ts → Listing k ts all [] (list_trees i ts)
    list_read none k i all l w r = no_types k all []
    list_read (more t ts) k i all l w r =
        one_type k t ts all [] (type_tree i t) (behind_trees (last (type_tree i t)) ts) l (type_read t loose i in_loose w.0 r.0)
        (behind_read ts k (last (type_tree i t)) all (Some (typing s loose (type_tree i t)) ∷ []) l w.1 r.1)

    behind_read : (ts : TypeRow) (k : Node) (i : ℕ) (all : Trees) (xs : Parts) → Lists k all → RowIsWithin s ts → ReadsRow s (suc i) ts → Listing k ts all xs (behind_trees i ts)
    behind_read none k i all xs l w r = no_types k all xs
    behind_read (more t ts) k i all xs l w r =
        one_type k t ts all xs (type_tree (suc i) t) (behind_trees (last (type_tree (suc i) t)) ts) l (type_read t loose (suc i) in_loose w.0 r.0)
        (behind_read ts k (last (type_tree (suc i) t)) all (xs ++ Some (typing s loose (type_tree (suc i) t)) ∷ []) l w.1 r.1)

    results_read : (ts : TypeRow) (i : ℕ) (all : Trees) (x : Part) → RowIsWithin s ts → ReadsResults s i ts → ResultsAt all x ts (result_trees i ts)
    results_read none i all x w r = no_results all x
    results_read (more t none) i all x w r = one_result all x t (type_tree i t) (type_read t loose i in_loose w.0 r)
    results_read (more t (more u us)) i all x w r =
        let ps = list_trees (suc i) (more t (more u us)) in
        more_results all x i _ (more t (more u us)) ps
        (one_type kind.Results t (more u us) ps [] (type_tree (suc i) t) (behind_trees (last (type_tree (suc i) t)) (more u us)) (results_list ps) (type_read t loose (suc i) in_loose w.0 r.0)
        (behind_read (more u us) kind.Results (last (type_tree (suc i) t)) ps (Some (typing s loose (type_tree (suc i) t)) ∷ []) (results_list ps) w.1 r.1))

    fields_read : (ts : TypeRow) (ns : List (List ℕ)) (h : Hint) (i : ℕ) (all : Trees) → IsTypePlace h → RowIsWithin s ts → ReadsFields s h i ns ts → Fielding h ns ts all [] (field_trees i ns ts)
    fields_read none [] h i all p w r = no_fields h all []
    fields_read none (n ∷ ns) h i all p w r = absurd r
    fields_read (more t ts) [] h i all p w r = absurd r
    fields_read (more t ts) (n ∷ ns) h i all p w r =
        one_field h n t ns ts all [] i (type_tree (suc i) t) (later_trees (last (type_tree (suc i) t)) ns ts) p r.0 (type_read t h (suc i) p w.0 r.1)
        (later_read ts ns h (last (type_tree (suc i) t)) all (Some (typing s (as_type_place h) (field_at i (type_tree (suc i) t))) ∷ []) p w.1 r.2)

    later_read : (ts : TypeRow) (ns : List (List ℕ)) (h : Hint) (i : ℕ) (all : Trees) (xs : Parts) → IsTypePlace h → RowIsWithin s ts → ReadsFields s h (suc i) ns ts → Fielding h ns ts all xs (later_trees i ns ts)
    later_read none [] h i all xs p w r = no_fields h all xs
    later_read none (n ∷ ns) h i all xs p w r = absurd r
    later_read (more t ts) [] h i all xs p w r = absurd r
    later_read (more t ts) (n ∷ ns) h i all xs p w r =
        one_field h n t ns ts all xs (suc i) (type_tree (suc (suc i)) t) (later_trees (last (type_tree (suc (suc i)) t)) ns ts) p r.0 (type_read t h (suc (suc i)) p w.0 r.1)
        (later_read ts ns h (last (type_tree (suc (suc i)) t)) all (xs ++ Some (typing s (as_type_place h) (field_at (suc i) (type_tree (suc (suc i)) t))) ∷ []) p w.1 r.2)

pub types_read_back : TypesReadBack
types_read_back s h i t p w r = let at = type_read s t h i p w r in record { stands = at.stands; faultless = at.faultless }
