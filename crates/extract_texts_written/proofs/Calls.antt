-- Calls and headers.
use Rattle.std.proofs.Common.{◌≡◌, ℕ, zero, suc, Bool, true, false, not, ◌&&◌, ◌||◌, List, [], ◌∷◌, ◌++◌, map, Option, Some, None, codes, refl, sym, ap, ◌∙◌}
use Rattle.std.specs.Prelude.{if◌then◌else◌, slice_get}
use Rattle.std.specs.List.{AllByRecursion}
use Rattle.std.specs.Option.{option_map}
use Rattle.std.specs.Str.{chars, is_utf8}
use Rattle.std.proofs.lemmas.Bool.{and_parts}
use Rattle.go_tokens.specs.Spellings.{same_text}
use Rattle.go_constants.specs.declared.values.Const.{Const}
use Rattle.go_types.specs.Trees.{TypeTree}
use Rattle.go_typed.specs.declared.window.Window.{Window}
use Rattle.go_typed.specs.Contents.{Content}
use Rattle.go_typed.specs.Trees.{Sort}
use Rattle.go_typed.specs.Trees as trees
use Rattle.clone_window.specs.Sameness.{all_locals, is_same, sort_at}
use Rattle.go_print_laws.specs.Calls.{Argument, variable, ArgumentsCanBeWritten, CallCanBeWritten}
use Rattle.go_print_laws.specs.Headers.{HeaderCanBeWritten}
use Rattle.go_print_laws.specs.Lexemes.{IsName, AreNames}
use Rattle.go_print_laws.specs.Types.{CanBeWritten}
use Rattle.param_choose.specs.Choosing.{Choice, choice, declared_results, is_needed}
use Rattle.param_choose.specs.Holes.{Hole, holes, hole_value}
use Rattle.param_choose.specs.Locals.{Variable, variable_of, variable_at, variables_where, has, only, is_array, free_locals, is_outside, once, each_local, declared_names}
use Rattle.param_choose.specs.Members.{Member, members_of, template_of, occurs_later, local_at, uses_within}
use Rattle.escape_check.specs.Lookups.{locals_at}
use Rattle.escape_check.specs.Names.{is_keyword, is_name_text, is_reserved, is_predeclared, names_package, is_in_use}
use Rattle.escape_check.specs.Places.{Sources, Refused, sources_of, local_text, reported, refused_if, first_refused}
use Rattle.escape_check.specs.Refusals.{refusals, refused_among, refused}
use Rattle.escape_check.specs.Types.{declared_text, hole_numbers, variable_types, hole_types, parameter_types, result_types}
use Rattle.extract_texts.specs.Fresh.{is_used, numbered_name, unused_from, fresh_names, room_for}
use Rattle.extract_texts.specs.Texts.{variable_names, later_variables, result_name, constant_in, constant_at, constants_at, call_of, header_of}
use Rattle.extract_texts_written.specs.Written.{ValueCanBeSpelled, HolesCanBeSpelled, LocalsAreNamed}
use Rattle.extract_texts_written.proofs.Choices.{names_of, types_of, row_can, both_types, both_names, ChoiceWritten, partner_named}
use Rattle.extract_texts_written.proofs.Locals.{MemberWritten, VariableWritten, where_written}
use Rattle.extract_texts_written.proofs.Words.{name_is, numbered_is, blank_is}

-- ---- the new name

none_first : (r : Option Refused) (rs : List (Option Refused)) → first_refused (r ∷ rs) ≡ None → (r ≡ None) × (first_refused rs ≡ None)
none_first None rs h = (refl, h)
none_first (Some r) rs h = absurd cc

nth_none : (rs : List (Option Refused)) → first_refused rs ≡ None → (n : ℕ) (r : Option Refused) → slice_get rs n ≡ Some r → r ≡ None
nth_none [] h n r e = absurd cc
nth_none (x ∷ rs) h zero r e = let same : r ≡ x = cc in same ∙ (none_first x rs h).0
nth_none (x ∷ rs) h (suc n) r e = nth_none rs (none_first x rs h).1 n r e

no_map : {A B : Type 0} (f : A → B) (o : Option A) → option_map f o ≡ None → o ≡ None
no_map f None h = refl
no_map f (Some x) h = absurd cc

not_refused : (code : ℕ) (b : Bool) → refused_if code b ≡ None → b ≡ false
not_refused code true h = absurd cc
not_refused code false h = refl

or_parts : (a b : Bool) → (a || b) ≡ false → (a ≡ false) × (b ≡ false)
or_parts true b h = cc
or_parts false b h = (refl, h)

not_parts : (a : Bool) → not a ≡ false → a ≡ true
not_parts true h = refl
not_parts false h = cc

module _ (c : Content) (name : List ℕ) (ws : List Window) (t : Member TypeTree) (template : template_of c ws ≡ Some t) (allowed : refused c name ws ≡ None) where
  abbrev s : Sources
  s = sources_of c

  abbrev h : Choice TypeTree
  h = choice (is_array c.rights) (members_of c ws) t

  all_none : first_refused (refusals (λ x. x) s c.functions name (members_of c ws) t h) ≡ None
  all_none =
      no_map (reported s) (first_refused (refusals (λ x. x) s c.functions name (members_of c ws) t h))
      (ap (λ o. option_map (reported s) (refused_among (λ x. x) (is_array c.rights) s c.functions name o (members_of c ws))) (sym template) ∙ allowed)

  unused : is_in_use s name ≡ false
  unused = not_refused 10 (is_in_use s name) (nth_none (refusals (λ x. x) s c.functions name (members_of c ws) t h) all_none 7 (refused_if 10 (is_in_use s name)) refl)

  abbrev unfit : Bool
  unfit = not (is_utf8 name && is_name_text (chars name))

  pub new_name : IsName name
  new_name =
      let a = or_parts (unfit || is_reserved name || is_keyword name || is_predeclared name) (names_package name s) unused in
      let b = or_parts (unfit || is_reserved name || is_keyword name) (is_predeclared name) a.0 in
      let d = or_parts (unfit || is_reserved name) (is_keyword name) b.0 in
      let e = or_parts unfit (is_reserved name) d.0 in
      let text = and_parts (is_utf8 name) (is_name_text (chars name)) (not_parts (is_utf8 name && is_name_text (chars name)) e.0) in
      name_is name text.0 text.1 d.1

-- ---- fresh names

module _ (s : Sources) (name : List ℕ) where
  free_name : (n : ℕ) → is_used s name (numbered_name n) ≡ false → IsName (numbered_name n)
  free_name n free =
      let w : List ℕ = numbered_name n in
      let a = or_parts (names_package w s || same_text w name || is_keyword w) (is_predeclared w) free in
      let b = or_parts (names_package w s || same_text w name) (is_keyword w) a.0 in
      numbered_is n b.1

  fresh_from : (n count room : ℕ) → AreNames (unused_from (is_used s name) n count room)
  fresh_from n count zero = tt
  fresh_from n zero (suc room) = tt
  fresh_from n (suc count) (suc room) = by (is_used s name (numbered_name n)) refl (fresh_from (suc n) (suc count) room) (fresh_from (suc n) count room)
    where
      by : (b : Bool) → is_used s name (numbered_name n) ≡ b → AreNames (unused_from (is_used s name) (suc n) (suc count) room) → AreNames (unused_from (is_used s name) (suc n) count room)
          → AreNames (if b then unused_from (is_used s name) (suc n) (suc count) room else numbered_name n ∷ unused_from (is_used s name) (suc n) count room)
      by true e f g = f
      by false e f g = (free_name n e, g)

  pub fresh_named : (count : ℕ) → AreNames (fresh_names s name count)
  fresh_named count = fresh_from 0 count (room_for s.files count)

-- ---- the header

pub header_can : (s : Sources) (name : List ℕ) (fresh : List (List ℕ)) (t : Member TypeTree) (h : Choice TypeTree) → IsName name → AreNames fresh → ChoiceWritten s t h
    → HeaderCanBeWritten (declared_text s) (header_of (λ x. x) s name fresh t h)
header_can s name fresh t h n f w = record {
  function = n;
  parameters = both_names (variable_names s t h.free) fresh (names_of s t h.free w.free) f;
  types = row_can (declared_text s) (parameter_types h) (both_types (CanBeWritten (declared_text s)) (variable_types h.free) (hole_types h.holes) (types_of s t h.free w.free) w.holes);
  results = row_can (declared_text s) (result_types h) (both_types (CanBeWritten (declared_text s)) (variable_types h.assigned) (variable_types h.declared) (types_of s t h.assigned w.assigned) (types_of s t h.declared w.declared));
}

joined : (s : Sources) (t : Member TypeTree) (xs ys : List (Variable TypeTree)) → AllByRecursion (VariableWritten s t) xs → AllByRecursion (VariableWritten s t) ys → AllByRecursion (VariableWritten s t) (xs ++ ys)
joined s t [] ys a b = b
joined s t (x ∷ xs) ys a b = (a.0, joined s t xs ys a.1 b)

pub returned_can : (s : Sources) (t : Member TypeTree) (h : Choice TypeTree) → ChoiceWritten s t h → AreNames (variable_names s t (h.assigned ++ h.declared))
returned_can s t h w = names_of s t (h.assigned ++ h.declared) (joined s t h.assigned h.declared w.assigned w.declared)

-- ---- variables of the template

-- it is one by what its function's locals stand for
abbrev pub Stands : Member TypeTree → Variable TypeTree → Type 0
Stands t v = sort_at t.locals v.local ≡ trees.Value v.type

module _ (t : Member TypeTree) where
  both_stand : (xs ys : List (Variable TypeTree)) → AllByRecursion (Stands t) xs → AllByRecursion (Stands t) ys → AllByRecursion (Stands t) (xs ++ ys)
  both_stand [] ys a b = b
  both_stand (x ∷ xs) ys a b = (a.0, both_stand xs ys a.1 b)

  one_stands : (n : ℕ) (x : Sort TypeTree) → sort_at t.locals n ≡ x → AllByRecursion (Stands t) (variable_of n x)
  one_stands n (trees.Value u) e = (e, tt)
  one_stands n x e = tt

  pub where_stand : (test : ℕ → Bool) (ns : List ℕ) → AllByRecursion (Stands t) (variables_where t.locals test ns)
  where_stand test [] = tt
  where_stand test (n ∷ ns) = both_stand (if test n then variable_at t.locals n else []) (variables_where t.locals test ns) (by (test n)) (where_stand test ns)
    where
      by : (b : Bool) → AllByRecursion (Stands t) (if b then variable_at t.locals n else [])
      by true = one_stands n (sort_at t.locals n) refl
      by false = tt

-- ---- a call

-- variables that nodes of the template name
abbrev Found : Member TypeTree → Variable TypeTree → Type 0
Found t v = Stands t v × (has (all_locals false t.statements) v.local ≡ true)

found_both : (t : Member TypeTree) (vs : List (Variable TypeTree)) → AllByRecursion (Stands t) vs → AllByRecursion (λ v. has (all_locals false t.statements) v.local ≡ true) vs → AllByRecursion (Found t) vs
found_both t [] a b = tt
found_both t (v ∷ vs) a b = ((a.0, b.0), found_both t vs a.1 b.1)

found_only : (t : Member TypeTree) (test : ℕ → Bool) (vs : List (Variable TypeTree)) → AllByRecursion (Found t) vs → AllByRecursion (Found t) (only test vs)
found_only t test [] h = tt
found_only t test (v ∷ vs) h = by (test v.local) (found_only t test vs h.1)
  where
    by : (b : Bool) → AllByRecursion (Found t) (only test vs) → AllByRecursion (Found t) ((if b then v ∷ [] else []) ++ only test vs)
    by true g = (h.0, g)
    by false g = g

front : (P : Variable TypeTree → Type 0) (xs ys : List (Variable TypeTree)) → AllByRecursion P (xs ++ ys) → AllByRecursion P xs × AllByRecursion P ys
front P [] ys h = (tt, h)
front P (x ∷ xs) ys h = let r = front P xs ys h.1 in ((h.0, r.0), r.1)

module _ (identical : TypeTree → TypeTree → Bool) (s : Sources) (name : List ℕ) (t m : Member TypeTree) (written : MemberWritten s m) (same : is_same identical t.locals m.locals t.statements m.statements ≡ true) where
  abbrev Partner : ℕ → List ℕ
  Partner n = local_text s m n

  partners : (vs : List (Variable TypeTree)) → AllByRecursion (Found t) vs → AreNames (map (local_text s m) (locals_at t m vs))
  partners [] h = tt
  partners (v ∷ vs) h = (partner_named identical s t m written same v.local (v.type, h.0.0) h.0.1, partners vs h.1)

  result_partners : (vs : List (Variable TypeTree)) → AllByRecursion (Found t) vs → AreNames (map (result_name s m) (locals_at t m vs))
  result_partners [] h = tt
  result_partners (v ∷ vs) h = (by (occurs_later m (local_at t m v.local)), result_partners vs h.1)
    where
      by : (b : Bool) → IsName (if b then local_text s m (local_at t m v.local) else codes "_")
      by true = partner_named identical s t m written same v.local (v.type, h.0.0) h.0.1
      by false = blank_is

  variables_can : (ns : List (List ℕ)) (gs : List Argument) → AreNames ns → ArgumentsCanBeWritten gs → ArgumentsCanBeWritten (map variable ns ++ gs)
  variables_can [] gs a b = b
  variables_can (n ∷ ns) gs a b = (a.0, variables_can ns gs a.1 b)

  both_arguments : (fs gs : List Argument) → ArgumentsCanBeWritten fs → ArgumentsCanBeWritten gs → ArgumentsCanBeWritten (fs ++ gs)
  both_arguments [] gs a b = b
  both_arguments (f ∷ fs) gs a b = (a.0, both_arguments fs gs a.1 b)

  value_can : (o : Option Const) → ValueCanBeSpelled o → ArgumentsCanBeWritten (constant_in o)
  value_can None h = tt
  value_can (Some v) h = (h, tt)

  hole_can : (hs : List (Hole TypeTree)) (n : ℕ) → AllByRecursion (λ x. ValueCanBeSpelled (hole_value x)) hs → ArgumentsCanBeWritten (constant_at (slice_get hs n))
  hole_can [] n h = tt
  hole_can (x ∷ hs) zero h = value_can (hole_value x) h.0
  hole_can (x ∷ hs) (suc n) h = hole_can hs n h.1

  constants_can : (ns : List ℕ) → HolesCanBeSpelled m → ArgumentsCanBeWritten (constants_at ns m)
  constants_can [] h = tt
  constants_can (n ∷ ns) h = both_arguments (constant_at (slice_get (holes m) n)) (constants_at ns m) (hole_can (holes m) n h) (constants_can ns h)

  pub call_can : (h : Choice TypeTree) → IsName name → AllByRecursion (Found t) h.free → AllByRecursion (Found t) h.assigned → AllByRecursion (Found t) h.declared → HolesCanBeSpelled m
      → CallCanBeWritten (declared_text s) (call_of (λ x. x) s name t h m)
  call_can h n free assigned declared spelled =
      let later = where_written s m written (occurs_later m) (locals_at t m h.declared) in
      record {
        declared = names_of s m (later_variables t h m) later;
        types = row_can (declared_text s) (variable_types (later_variables t h m)) (types_of s m (later_variables t h m) later);
        results = both_names (map (local_text s m) (locals_at t m h.assigned)) (map (result_name s m) (locals_at t m h.declared)) (partners h.assigned assigned) (result_partners h.declared declared);
        function = n;
        arguments = variables_can (map (local_text s m) (locals_at t m h.free)) (constants_at (hole_numbers h.holes) m) (partners h.free free) (constants_can (hole_numbers h.holes) spelled);
      }

-- each of a choice's variables is one that nodes name
pub record ChoiceFound (t : Member TypeTree) (h : Choice TypeTree) : Type 0 where
  pub free : AllByRecursion (Found t) h.free
  pub assigned : AllByRecursion (Found t) h.assigned
  pub declared : AllByRecursion (Found t) h.declared

pub choice_found : (array : Sort TypeTree → Bool) (ms : List (Member TypeTree)) (t : Member TypeTree) → LocalsAreNamed t (choice array ms t) → ChoiceFound t (choice array ms t)
choice_found array ms t h =
    let f = front (λ v. has (all_locals false t.statements) v.local ≡ true) (free_locals t) (declared_results ms t) h in
    let free = found_both t (free_locals t) (where_stand t (is_outside t) (once [] (each_local (uses_within t)))) f.0 in
    record { free = free; assigned = found_only t _ (free_locals t) free; declared = found_both t (declared_results ms t) (where_stand t (is_needed ms t) (declared_names t)) f.1 }
