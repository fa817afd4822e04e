-- No member stands twice in what printed types tell.
use Rattle.std.proofs.Common.{◌≡◌, ◌∙◌, ℕ, suc, ◌<◌, ◌≤◌, Bool, true, false, List, [], ◌∷◌, ◌++◌, Option, refl, sym, ap, subst, append_assoc, append-nil, ne_eqb, arith}
use Rattle.std.specs.Prelude.{◌&&◌, ◌||◌, nat_eq}
use Rattle.go_grammar.specs.declared.kind.Kind.{Kind}
use Rattle.go_grammar.specs.declared.kind.Kind.TheVariants as kind
use Rattle.go_grammar.specs.Grammar.{ends_named}
use Rattle.go_grammar.specs.Trees.{Tree, node, Trees, last}
use Rattle.go_grammar.specs.Trees as trees
use Rattle.go_tokens.specs.Spellings.{same_text}
use Rattle.go_tree.specs.declared.context.Context.{Context}
use Rattle.go_tree.specs.declared.context.Role.{Role}
use Rattle.go_tree.specs.declared.context.Role.TheVariants as role
use Rattle.go_tree.specs.declared.event.Event.{Event}
use Rattle.go_tree.specs.declared.event.Event.TheVariants as event
use Rattle.go_tree.specs.declared.event.Member.{Member}
use Rattle.go_tree.specs.declared.event.Member.TheVariants as member
use Rattle.go_tree.specs.Contexts.{entry_role, source_in, source_at, enter}
use Rattle.go_tree.specs.Duplicates.{same_member}
use Rattle.go_tree.specs.Events.{statement_events, name_events, is_more, begin, events, events_of}
use Rattle.go_tree.specs.Failures.{place_if}
use Rattle.go_tree.specs.Units.{Place, is_blank}
use Rattle.go_heads.specs.Names.{no_place}
use Rattle.go_print_laws.specs.Trees.{name_at, number_at, names_at, field_at, type_tree, list_trees, list_end, behind_trees, behind_end, result_trees, result_end, field_trees, field_end, later_trees, later_end}
use Rattle.go_scopes_bodies.specs.Faults.{own_has_member, own_is_duplicate, second_members_by}
use Rattle.go_types.specs.Trees.{TypeTree, boolean, text, integer, array, slice, structure, function, declared, TypeRow, none, more}
use Rattle.extract_names.specs.Sites.{EachEvent}
use Rattle.extract_names_derived.specs.Fields.{IsOther, FieldsOnce, ListOnce, BehindOnce, ResultsOnce, FieldsApart, LaterApart}
use Rattle.extract_names_derived.proofs.Lying.{each_event_append, each_event_map}
use Rattle.extract_names_derived.proofs.TypeEvents.{list_unnamed}

-- ---- where types end

mutual
  pub type_ends : (i : ℕ) (t : TypeTree) → i < last (type_tree i t)
  type_ends i boolean = omega arith
  type_ends i text = omega arith
  type_ends i (integer k) = omega arith
  type_ends i (array n t) = omega (arith, type_ends (suc (suc (suc i))) t)
  type_ends i (slice t) = omega (arith, type_ends (suc (suc i)) t)
  type_ends i (structure ns ts) = omega (arith, fields_end (suc (suc i)) ns ts)
  type_ends i (function ps rs) = omega (arith, list_ends (suc (suc i)) ps, results_end (suc (list_end (suc (suc i)) ps)) rs)
  type_ends i (declared n) = omega arith

  list_ends : (i : ℕ) (ts : TypeRow) → i ≤ list_end i ts
  list_ends i none = omega arith
  list_ends i (more t ts) = omega (arith, type_ends i t, behind_ends (last (type_tree i t)) ts)

  behind_ends : (i : ℕ) (ts : TypeRow) → i ≤ behind_end i ts
  behind_ends i none = omega arith
  behind_ends i (more t ts) = omega (arith, type_ends (suc i) t, behind_ends (last (type_tree (suc i) t)) ts)

  pub results_end : (i : ℕ) (ts : TypeRow) → i ≤ result_end i ts
  results_end i none = omega arith
  results_end i (more t none) = omega (arith, type_ends i t)
  results_end i (more t (more u us)) = omega (arith, type_ends (suc i) t, type_ends (suc (last (type_tree (suc i) t))) u, behind_ends (last (type_tree (suc (last (type_tree (suc i) t))) u)) us)

  fields_end : (i : ℕ) (ns : List (List ℕ)) (ts : TypeRow) → i ≤ field_end i ns ts
  fields_end i [] ts = omega arith
  fields_end i (n ∷ ns) none = omega arith
  fields_end i (n ∷ ns) (more t ts) = omega (arith, type_ends (suc i) t, later_ends (last (type_tree (suc i) t)) ns ts)

  later_ends : (i : ℕ) (ns : List (List ℕ)) (ts : TypeRow) → i ≤ later_end i ns ts
  later_ends i [] ts = omega arith
  later_ends i (n ∷ ns) none = omega arith
  later_ends i (n ∷ ns) (more t ts) = omega (arith, type_ends (suc (suc i)) t, later_ends (last (type_tree (suc (suc i)) t)) ns ts)

module _ (w : ℕ → List ℕ) where
  abbrev F : List Event → List Event → Type 0
  F before es = second_members_by w before es ≡ []

  pub both_off : (a b : Bool) → a ≡ false → b ≡ false → (a || b) ≡ false
  both_off a b e f = ap (λ x. x || b) e ∙ f

  pub place_off : (b : Bool) (ps : List Place) → b ≡ false → ps ≡ [] → place_if b no_place ps ≡ []
  place_off b ps e f = ap (λ x. place_if x no_place ps) e ∙ f

  place_tells : (b : Bool) (ps : List Place) → place_if b no_place ps ≡ [] → (b ≡ false) × (ps ≡ [])
  place_tells true ps e = cc
  place_tells false ps e = (refl, e)

  -- one list behind the other
  pub free_append : (before es fs : List Event) → F before es → F (before ++ es) fs → F before (es ++ fs)
  free_append before [] fs h g = subst (λ z. F z fs) (append-nil before) g
  free_append before (event.Member m k x ∷ es) fs h g =
      let t = place_tells (own_is_duplicate w m k (w x) before) (second_members_by w (before ++ event.Member m k x ∷ []) es) h in
      place_off (own_is_duplicate w m k (w x) before) (second_members_by w (before ++ event.Member m k x ∷ []) (es ++ fs)) t.0
      (free_append (before ++ event.Member m k x ∷ []) es fs t.1 (subst (λ z. F z fs) (sym (append_assoc before (event.Member m k x ∷ []) es)) g))
  free_append before (event.Declaration d ∷ es) fs h g = free_append (before ++ event.Declaration d ∷ []) es fs h (subst (λ z. F z fs) (sym (append_assoc before (event.Declaration d ∷ []) es)) g)
  free_append before (event.Use u ∷ es) fs h g = free_append (before ++ event.Use u ∷ []) es fs h (subst (λ z. F z fs) (sym (append_assoc before (event.Use u ∷ []) es)) g)
  free_append before (event.Import i ∷ es) fs h g = free_append (before ++ event.Import i ∷ []) es fs h (subst (λ z. F z fs) (sym (append_assoc before (event.Import i ∷ []) es)) g)
  free_append before (event.Bodiless i j ∷ es) fs h g = free_append (before ++ event.Bodiless i j ∷ []) es fs h (subst (λ z. F z fs) (sym (append_assoc before (event.Bodiless i j ∷ []) es)) g)
  free_append before (event.Statement i j ∷ es) fs h g = free_append (before ++ event.Statement i j ∷ []) es fs h (subst (λ z. F z fs) (sym (append_assoc before (event.Statement i j ∷ []) es)) g)
  free_append before (event.Misplaced i j ∷ es) fs h g = free_append (before ++ event.Misplaced i j ∷ []) es fs h (subst (λ z. F z fs) (sym (append_assoc before (event.Misplaced i j ∷ []) es)) g)
  free_append before (event.SecondDefault i ∷ es) fs h g = free_append (before ++ event.SecondDefault i ∷ []) es fs h (subst (λ z. F z fs) (sym (append_assoc before (event.SecondDefault i ∷ []) es)) g)

  -- members of groups that begin at tokens from one up to another
  abbrev pub Between : ℕ → ℕ → Event → Type 0
  Between lo hi (event.Member m g x) = (lo ≤ g) × (g < hi)
  Between lo hi e = Unit {0}

  pub between_wide : (lo hi low high : ℕ) (e : Event) → low ≤ lo → hi ≤ high → Between lo hi e → Between low high e
  between_wide lo hi low high (event.Member m g x) a b h = (omega (arith, a, h.0), omega (arith, b, h.1))
  between_wide lo hi low high (event.Declaration d) a b h = tt
  between_wide lo hi low high (event.Use u) a b h = tt
  between_wide lo hi low high (event.Import i) a b h = tt
  between_wide lo hi low high (event.Bodiless i j) a b h = tt
  between_wide lo hi low high (event.Statement i j) a b h = tt
  between_wide lo hi low high (event.Misplaced i j) a b h = tt
  between_wide lo hi low high (event.SecondDefault i) a b h = tt

  -- Events with members between these tokens stand once behind others, of which no member is of such a group.
  pub record Once (lo hi : ℕ) (before es : List Event) : Type 0 where
    pub free : F before es
    pub between : EachEvent (Between lo hi) es

  pub once_wide : (lo hi low high : ℕ) (before es : List Event) → low ≤ lo → hi ≤ high → Once lo hi before es → Once low high before es
  once_wide lo hi low high before es a b h = record { free = h.free; between = each_event_map (Between lo hi) (Between low high) es (λ e. between_wide lo hi low high e a b) h.between }

  pub once_append : (lo hi : ℕ) (before es fs : List Event) → Once lo hi before es → Once lo hi (before ++ es) fs → Once lo hi before (es ++ fs)
  once_append lo hi before es fs h g = record { free = free_append before es fs h.free g.free; between = each_event_append (Between lo hi) es fs h.between g.between }

  pub once_none : (lo hi : ℕ) (before : List Event) → Once lo hi before []
  once_none lo hi before = record { free = refl; between = tt }

  once_statement : (lo hi : ℕ) (before : List Event) (x : Bool) (i j : ℕ) → Once lo hi before (statement_events x i j)
  once_statement lo hi before true i j = record { free = refl; between = (tt, tt) }
  once_statement lo hi before false i j = record { free = refl; between = tt }

  pub below_append : (lo hi low : ℕ) (before es : List Event) → EachEvent (Between 0 lo) before → EachEvent (Between low hi) es → lo ≤ hi → EachEvent (Between 0 hi) (before ++ es)
  below_append lo hi low before es b h le =
      each_event_append (Between 0 hi) before es (each_event_map (Between 0 lo) (Between 0 hi) before (λ e. between_wide 0 lo 0 hi e (omega arith) le) b)
      (each_event_map (Between low hi) (Between 0 hi) es (λ e. between_wide low hi 0 hi e (omega arith) (omega arith)) h)

  -- a node that tells nothing by itself but of its parts
  pub node_once : (lo hi : ℕ) (before : List Event) (x : Bool) (i j : ℕ) (rest : List Event) → ((after : List Event) → (EachEvent (Between 0 lo) before → EachEvent (Between 0 lo) after) → Once lo hi after rest) → Once lo hi before ((statement_events x i j ++ []) ++ rest)
  node_once lo hi before x i j rest f =
      once_append lo hi before (statement_events x i j ++ []) rest (once_append lo hi before (statement_events x i j) [] (once_statement lo hi before x i j) (once_none lo hi (before ++ statement_events x i j)))
      (f (before ++ (statement_events x i j ++ []))
      (λ b. each_event_append (Between 0 lo) before (statement_events x i j ++ []) b (each_event_append (Between 0 lo) (statement_events x i j) [] (once_statement 0 lo before x i j).between tt)))

  name_once : (lo hi : ℕ) (before : List Event) (c : Context) (i : ℕ) (r : Role) → r ≡ role.Operand → Once lo hi before (name_events c i r)
  name_once lo hi before c i r e = subst (λ z. Once lo hi before (name_events c i z)) (sym e) (record { free = refl; between = (tt, tt) })

  leaf_once : (lo hi : ℕ) (before : List Event) (c : Context) (i : ℕ) → c.role ≡ role.Operand → Once lo hi before (events c (name_at i))
  leaf_once lo hi before c i e =
      once_append lo hi before (statement_events c.listed i (suc i) ++ name_events c i c.role) []
      (once_append lo hi before (statement_events c.listed i (suc i)) (name_events c i c.role) (once_statement lo hi before c.listed i (suc i)) (name_once lo hi (before ++ statement_events c.listed i (suc i)) c i c.role e))
      (once_none lo hi (before ++ (statement_events c.listed i (suc i) ++ name_events c i c.role)))

  number_once : (lo hi : ℕ) (before : List Event) (c : Context) (i : ℕ) → Once lo hi before (events c (number_at i))
  number_once lo hi before c i = node_once lo hi before c.listed i (suc i) [] (λ after f. once_none lo hi after)

  -- ---- members of one group

  abbrev pub Lacks : Member → ℕ → List ℕ → List Event → Type 0
  Lacks mk g u es = own_has_member w mk g u es ≡ false

  or_parts : (a b : Bool) → (a || b) ≡ false → (a ≡ false) × (b ≡ false)
  or_parts true b e = cc
  or_parts false b e = (refl, e)

  pub lacks_append : (mk : Member) (g : ℕ) (u : List ℕ) (es fs : List Event) → Lacks mk g u es → Lacks mk g u fs → Lacks mk g u (es ++ fs)
  lacks_append mk g u [] fs h k = k
  lacks_append mk g u (event.Member m x y ∷ es) fs h k =
      let t = or_parts (same_member mk m && nat_eq g x && same_text u (w y)) (own_has_member w mk g u es) h in
      both_off (same_member mk m && nat_eq g x && same_text u (w y)) (own_has_member w mk g u (es ++ fs)) t.0 (lacks_append mk g u es fs t.1 k)
  lacks_append mk g u (event.Declaration d ∷ es) fs h k = lacks_append mk g u es fs h k
  lacks_append mk g u (event.Use x ∷ es) fs h k = lacks_append mk g u es fs h k
  lacks_append mk g u (event.Import i ∷ es) fs h k = lacks_append mk g u es fs h k
  lacks_append mk g u (event.Bodiless i j ∷ es) fs h k = lacks_append mk g u es fs h k
  lacks_append mk g u (event.Statement i j ∷ es) fs h k = lacks_append mk g u es fs h k
  lacks_append mk g u (event.Misplaced i j ∷ es) fs h k = lacks_append mk g u es fs h k
  lacks_append mk g u (event.SecondDefault i ∷ es) fs h k = lacks_append mk g u es fs h k

  and_off : (a b c : Bool) → b ≡ false → ((a && b) && c) ≡ false
  and_off true b c e = ap (λ x. x && c) e
  and_off false b c e = refl

  last_off : (a b c : Bool) → c ≡ false → ((a && b) && c) ≡ false
  last_off true true c e = e
  last_off true false c e = refl
  last_off false b c e = refl

  -- members of other groups
  pub other_groups : (mk : Member) (g : ℕ) (u : List ℕ) (lo hi : ℕ) (es : List Event) → ((x : ℕ) → lo ≤ x → x < hi → g ≡ x → ⊥) → EachEvent (Between lo hi) es → Lacks mk g u es
  other_groups mk g u lo hi [] f h = refl
  other_groups mk g u lo hi (event.Member m x y ∷ es) f h =
      both_off (same_member mk m && nat_eq g x && same_text u (w y)) (own_has_member w mk g u es) (and_off (same_member mk m) (nat_eq g x) (same_text u (w y)) (ne_eqb g x (f x h.0.0 h.0.1)))
      (other_groups mk g u lo hi es f h.1)
  other_groups mk g u lo hi (event.Declaration d ∷ es) f h = other_groups mk g u lo hi es f h.1
  other_groups mk g u lo hi (event.Use x ∷ es) f h = other_groups mk g u lo hi es f h.1
  other_groups mk g u lo hi (event.Import i ∷ es) f h = other_groups mk g u lo hi es f h.1
  other_groups mk g u lo hi (event.Bodiless i j ∷ es) f h = other_groups mk g u lo hi es f h.1
  other_groups mk g u lo hi (event.Statement i j ∷ es) f h = other_groups mk g u lo hi es f h.1
  other_groups mk g u lo hi (event.Misplaced i j ∷ es) f h = other_groups mk g u lo hi es f h.1
  other_groups mk g u lo hi (event.SecondDefault i ∷ es) f h = other_groups mk g u lo hi es f h.1

  -- in front stand of the group only fields of these names
  abbrev pub Known : Member → ℕ → List ℕ → List Event → Type 0
  Known mk g front before = (x : ℕ) → IsOther w x front → Lacks mk g (w x) before

  pub known_next : (mk : Member) (g y : ℕ) (front : List ℕ) (before es : List Event) (hi : ℕ) → Known mk g front before → EachEvent (Between (suc g) hi) es → Known mk g (y ∷ front) (before ++ event.Member mk g y ∷ es)
  known_next mk g y front before es hi k h x o =
      lacks_append mk g (w x) before (event.Member mk g y ∷ es) (k x o.1)
      (both_off (same_member mk mk && nat_eq g g && same_text (w x) (w y)) (own_has_member w mk g (w x) es) (last_off (same_member mk mk) (nat_eq g g) (same_text (w x) (w y)) o.0)
      (other_groups mk g (w x) (suc g) hi es (λ z lo lt e. omega (arith, lo, e)) h))

  -- a field, and then what its type tells
  field_once : (g y hi : ℕ) (before es : List Event) (front : List ℕ) → g < hi → is_blank (w y) ≡ false → IsOther w y front → Known member.Field g front before → Once (suc g) hi (before ++ event.Member member.Field g y ∷ []) es → Once g hi before (event.Member member.Field g y ∷ es)
  field_once g y hi before es front lt blank other k h = record {
    free = place_off (own_is_duplicate w member.Field g (w y) before) (second_members_by w (before ++ event.Member member.Field g y ∷ []) es) (both_off (is_blank (w y)) (own_has_member w member.Field g (w y) before) blank (k y other)) h.free;
    between = ((omega arith, lt), each_event_map (Between (suc g) hi) (Between g hi) es (λ e. between_wide (suc g) hi g hi e (omega arith) (omega arith)) h.between);
  }

  -- ---- types

  -- the parts of a node of this kind are types
  abbrev Holds : Context → Kind → ℕ → ℕ → Trees → Type 0
  Holds c k i j ps = (s : Option ℕ) (n : ℕ) (p : Tree) (x : Bool) → (enter (record c { source = s }) k i j ps (ends_named ps) n p x).role ≡ role.Operand

  list_holds : (c : Context) (i j x : ℕ) (ts : TypeRow) → Holds c kind.Parameters i j (list_trees x ts)
  list_holds c i j x ts s n p y = subst (λ b. entry_role b p i c.parameters ≡ role.Operand) (sym (list_unnamed x ts)) refl

  abbrev pub Below : ℕ → List Event → Type 0
  Below i es = EachEvent (Between 0 i) es

  pub below_wide : (lo hi : ℕ) (es : List Event) → lo ≤ hi → Below lo es → Below hi es
  below_wide lo hi es le b = each_event_map (Between 0 lo) (Between 0 hi) es (λ e. between_wide 0 lo 0 hi e (omega arith) le) b

  mutual
    pub type_once : (c : Context) (i : ℕ) (t : TypeTree) (before : List Event) → c.role ≡ role.Operand → FieldsOnce w i t → Below i before → Once i (last (type_tree i t)) before (events c (type_tree i t))
    type_once c i boolean before r h b = leaf_once i (suc i) before c i r
    type_once c i text before r h b = leaf_once i (suc i) before c i r
    type_once c i (integer k) before r h b = leaf_once i (suc i) before c i r
    type_once c i (declared n) before r h b = leaf_once i (suc i) before c i r
    type_once c i (array n t) before r h b =
        let of : Tree = type_tree (suc (suc (suc i))) t in
        let ps : Trees = trees.more (number_at (suc i)) (trees.more of trees.none) in
        let first : Context = enter (begin c kind.SequenceType) kind.SequenceType i (last of) ps (ends_named ps) 0 (number_at (suc i)) true in
        let second : Context = enter (record c { source = source_at (begin c kind.SequenceType) (number_at (suc i)) }) kind.SequenceType i (last of) ps (ends_named ps) 1 of false in
        let front : List Event = events first (number_at (suc i)) in
        node_once i (last of) before c.listed i (last of) (front ++ (events second of ++ []))
        (λ after f.
        once_append i (last of) after front (events second of ++ []) (number_once i (last of) after first (suc i))
        (once_append i (last of) (after ++ front) (events second of) []
        (once_wide (suc (suc (suc i))) (last of) i (last of) (after ++ front) (events second of) (omega arith) (omega arith)
        (type_once second (suc (suc (suc i))) t (after ++ front) refl h (below_append i (suc (suc (suc i))) i after front (f b) (number_once i (suc (suc (suc i))) after first (suc i)).between (omega arith))))
        (once_none i (last of) ((after ++ front) ++ events second of))))
    type_once c i (slice t) before r h b =
        let of : Tree = type_tree (suc (suc i)) t in
        let ps : Trees = trees.skip (trees.more of trees.none) in
        let second : Context = enter (begin c kind.SequenceType) kind.SequenceType i (last of) ps (ends_named ps) 1 of false in
        node_once i (last of) before c.listed i (last of) (events second of ++ [])
        (λ after f.
        once_append i (last of) after (events second of) []
        (once_wide (suc (suc i)) (last of) i (last of) after (events second of) (omega arith) (omega arith) (type_once second (suc (suc i)) t after refl h (below_wide i (suc (suc i)) after (omega arith) (f b))))
        (once_none i (last of) (after ++ events second of)))
    type_once c i (structure ns ts) before r h b =
        let j : ℕ = suc (field_end (suc (suc i)) ns ts) in
        let ps : Trees = field_trees (suc (suc i)) ns ts in
        node_once i j before c.listed i j (events_of (begin c kind.StructType) kind.StructType i j ps 0 ps)
        (λ after f.
        fields_once c i j ps (source_in c kind.StructType) 0 (suc (suc i)) ns ts [] after (omega arith) (below_wide i (suc (suc i)) after (omega arith) (f b))
        (λ x o. other_groups member.Field i (w x) 0 i after (λ z lo hi e. omega (arith, hi, e)) (f b)) h)
    type_once c i (function ps rs) before r h b =
        let k : ℕ = suc (list_end (suc (suc i)) ps) in
        let j : ℕ = result_end k rs in
        let qs : Trees = list_trees (suc (suc i)) ps in
        let list : Tree = node kind.Parameters (suc i) k qs in
        let row : Trees = trees.more list (result_trees k rs) in
        let signature : Tree = node kind.Signature (suc i) j row in
        let all : Trees = trees.more signature trees.none in
        let c1 : Context = enter (begin c kind.FunctionType) kind.FunctionType i j all (ends_named all) 0 signature false in
        let c2 : Context = enter (begin c1 kind.Signature) kind.Signature (suc i) j row (ends_named row) 0 list (is_more (result_trees k rs)) in
        let others : List Event = events_of (record c1 { source = source_at (begin c1 kind.Signature) list }) kind.Signature (suc i) j row 1 (result_trees k rs) in
        let up : k ≤ j = results_end k rs in
        let low : suc (suc i) ≤ list_end (suc (suc i)) ps = list_ends (suc (suc i)) ps in
        node_once i j before c.listed i j (events c1 signature ++ [])
        (λ after f.
        let first : Once (suc (suc i)) (list_end (suc (suc i)) ps) after (events c2 list) = list_once c2 (suc i) k qs (source_in c2 kind.Parameters) (suc (suc i)) ps after h.0 (list_holds c2 (suc i) k (suc (suc i)) ps) (below_wide i (suc (suc i)) after (omega arith) (f b)) in
        let below : Below k (after ++ events c2 list) = below_append i k (suc (suc i)) after (events c2 list) (f b) (once_wide (suc (suc i)) (list_end (suc (suc i)) ps) (suc (suc i)) k after (events c2 list) (omega arith) (omega arith) first).between (omega (arith, low)) in
        once_append i j after (events c1 signature) []
        (once_append i j after (events c2 list) others (once_wide (suc (suc i)) (list_end (suc (suc i)) ps) i j after (events c2 list) (omega arith) (omega (arith, up)) first)
        (once_wide k j i j (after ++ events c2 list) others (omega (arith, low)) (omega arith) (results_once c1 (suc i) j row (source_at (begin c1 kind.Signature) list) k rs (after ++ events c2 list) h.1 below)))
        (once_none i j (after ++ events c1 signature)))

    list_once : (c : Context) (i j : ℕ) (all : Trees) (s : Option ℕ) (x : ℕ) (ts : TypeRow) (before : List Event) → ListOnce w x ts → Holds c kind.Parameters i j all → Below x before → Once x (list_end x ts) before (events_of (record c { source = s }) kind.Parameters i j all 0 (list_trees x ts))
    list_once c i j all s x none before h f b = once_none x x before
    list_once c i j all s x (more t ts) before h f b =
        let of : Tree = type_tree x t in
        let rest : Trees = behind_trees (last of) ts in
        let here : Context = enter (record c { source = s }) kind.Parameters i j all (ends_named all) 0 of (is_more rest) in
        let src : Option ℕ = source_at (record c { source = s }) of in
        let hi : ℕ = behind_end (last of) ts in
        let up : last of ≤ hi = behind_ends (last of) ts in
        let grows : x < last of = type_ends x t in
        let one : Once x (last of) before (events here of) = type_once here x t before (f s 0 of (is_more rest)) h.0 b in
        once_append x hi before (events here of) (events_of (record c { source = src }) kind.Parameters i j all 1 rest) (once_wide x (last of) x hi before (events here of) (omega arith) up one)
        (once_wide (last of) hi x hi (before ++ events here of) (events_of (record c { source = src }) kind.Parameters i j all 1 rest) (omega (arith, grows)) (omega arith)
        (behind_once c kind.Parameters i j all src 1 (last of) ts (before ++ events here of) h.1 f (below_append x (last of) x before (events here of) b one.between (omega (arith, grows)))))

    behind_once : (c : Context) (k : Kind) (i j : ℕ) (all : Trees) (s : Option ℕ) (n x : ℕ) (ts : TypeRow) (before : List Event) → BehindOnce w x ts → Holds c k i j all → Below x before → Once x (behind_end x ts) before (events_of (record c { source = s }) k i j all n (behind_trees x ts))
    behind_once c k i j all s n x none before h f b = once_none x x before
    behind_once c k i j all s n x (more t ts) before h f b =
        let of : Tree = type_tree (suc x) t in
        let rest : Trees = behind_trees (last of) ts in
        let here : Context = enter (record c { source = s }) k i j all (ends_named all) n of (is_more rest) in
        let src : Option ℕ = source_at (record c { source = s }) of in
        let hi : ℕ = behind_end (last of) ts in
        let up : last of ≤ hi = behind_ends (last of) ts in
        let grows : suc x < last of = type_ends (suc x) t in
        let one : Once (suc x) (last of) before (events here of) = type_once here (suc x) t before (f s n of (is_more rest)) h.0 (below_wide x (suc x) before (omega arith) b) in
        once_append x hi before (events here of) (events_of (record c { source = src }) k i j all (suc n) rest) (once_wide (suc x) (last of) x hi before (events here of) (omega arith) up one)
        (once_wide (last of) hi x hi (before ++ events here of) (events_of (record c { source = src }) k i j all (suc n) rest) (omega (arith, grows)) (omega arith)
        (behind_once c k i j all src (suc n) (last of) ts (before ++ events here of) h.1 f (below_append x (last of) (suc x) before (events here of) b one.between (omega (arith, grows)))))

    pub results_once : (c : Context) (i j : ℕ) (all : Trees) (s : Option ℕ) (x : ℕ) (ts : TypeRow) (before : List Event) → ResultsOnce w x ts → Below x before → Once x (result_end x ts) before (events_of (record c { source = s }) kind.Signature i j all 1 (result_trees x ts))
    results_once c i j all s x none before h b = once_none x x before
    results_once c i j all s x (more t none) before h b =
        let of : Tree = type_tree x t in
        let here : Context = enter (record c { source = s }) kind.Signature i j all (ends_named all) 1 of false in
        once_append x (last of) before (events here of) [] (type_once here x t before refl h b) (once_none x (last of) (before ++ events here of))
    results_once c i j all s x (more t (more u us)) before h b =
        let one : Tree = type_tree (suc x) t in
        let two : Tree = type_tree (suc (last one)) u in
        let ends : ℕ = suc (behind_end (last two) us) in
        let ps : Trees = trees.more one (trees.more two (behind_trees (last two) us)) in
        let results : Tree = node kind.Results x ends ps in
        let here : Context = enter (record c { source = s }) kind.Signature i j all (ends_named all) 1 results false in
        let first : Context = enter (begin here kind.Results) kind.Results x ends ps (ends_named ps) 0 one true in
        let others : List Event = events_of (record here { source = source_at (begin here kind.Results) one }) kind.Results x ends ps 1 (behind_trees (last one) (more u us)) in
        let grows : suc x < last one = type_ends (suc x) t in
        let next : suc (last one) < last two = type_ends (suc (last one)) u in
        let up : last two ≤ behind_end (last two) us = behind_ends (last two) us in
        let it : Once (suc x) (last one) before (events first one) = type_once first (suc x) t before refl h.0 (below_wide x (suc x) before (omega arith) b) in
        once_append x ends before (events here results) []
        (once_append x ends before (events first one) others (once_wide (suc x) (last one) x ends before (events first one) (omega arith) (omega (arith, next, up)) it)
        (once_wide (last one) (behind_end (last two) us) x ends (before ++ events first one) others (omega (arith, grows)) (omega arith)
        (behind_once here kind.Results x ends ps (source_at (begin here kind.Results) one) 1 (last one) (more u us) (before ++ events first one) h.1 (λ z n p y. refl) (below_append x (last one) (suc x) before (events first one) b it.between (omega (arith, grows))))))
        (once_none x ends (before ++ events here results))

    fields_once : (c : Context) (i j : ℕ) (all : Trees) (s : Option ℕ) (n x : ℕ) (ns : List (List ℕ)) (ts : TypeRow) (front : List ℕ) (before : List Event) → i < x → Below x before → Known member.Field i front before → FieldsApart w front x ns ts
        → Once i (suc (field_end x ns ts)) before (events_of (record c { source = s }) kind.StructType i j all n (field_trees x ns ts))
    fields_once c i j all s n x [] ts front before lt b k h = once_none i (suc x) before
    fields_once c i j all s n x (f ∷ ns) none front before lt b k h = once_none i (suc x) before
    fields_once c i j all s n x (f ∷ ns) (more t ts) front before lt b k h =
        let of : Tree = type_tree (suc x) t in
        let rest : Trees = later_trees (last of) ns ts in
        let here : Context = enter (record c { source = s }) kind.StructType i j all (ends_named all) n (field_at x of) (is_more rest) in
        let src : Option ℕ = source_at (record c { source = s }) (field_at x of) in
        let ps : Trees = trees.more (names_at x) (trees.more of trees.none) in
        let second : Context = enter (record here { source = source_at (begin here kind.Fields) (names_at x) }) kind.Fields x (last of) ps (ends_named ps) 1 of false in
        let grows : suc x < last of = type_ends (suc x) t in
        let up : last of ≤ later_end (last of) ns ts = later_ends (last of) ns ts in
        let mark : List Event = event.Member member.Field i x ∷ [] in
        let it : Once (suc x) (last of) (before ++ mark) (events second of) = type_once second (suc x) t (before ++ mark) refl h.2 (below_append x (suc x) i before mark b ((omega arith, omega (arith, lt)), tt) (omega arith)) in
        let told : Once (suc i) (last of) (before ++ mark) (events second of ++ []) =
        once_append (suc i) (last of) (before ++ mark) (events second of) [] (once_wide (suc x) (last of) (suc i) (last of) (before ++ mark) (events second of) (omega (arith, lt)) (omega arith) it) (once_none (suc i) (last of) ((before ++ mark) ++ events second of)) in
        let one : Once i (last of) before (events here (field_at x of)) = field_once i x (last of) before (events second of ++ []) front (omega (arith, lt, grows)) h.0 h.1 k told in
        let hi : ℕ = suc (later_end (last of) ns ts) in
        once_append i hi before (events here (field_at x of)) (events_of (record c { source = src }) kind.StructType i j all (suc n) rest) (once_wide i (last of) i hi before (events here (field_at x of)) (omega arith) (omega (arith, up)) one)
        (later_once c i j all src (suc n) (last of) ns ts (x ∷ front) (before ++ events here (field_at x of)) (omega (arith, lt, grows)) (below_append x (last of) i before (events here (field_at x of)) b one.between (omega (arith, grows)))
        (known_next member.Field i x front before (events second of ++ []) (last of) k told.between) h.3)

    later_once : (c : Context) (i j : ℕ) (all : Trees) (s : Option ℕ) (n x : ℕ) (ns : List (List ℕ)) (ts : TypeRow) (front : List ℕ) (before : List Event) → i < x → Below x before → Known member.Field i front before → LaterApart w front x ns ts
        → Once i (suc (later_end x ns ts)) before (events_of (record c { source = s }) kind.StructType i j all n (later_trees x ns ts))
    later_once c i j all s n x [] ts front before lt b k h = once_none i (suc x) before
    later_once c i j all s n x (f ∷ ns) none front before lt b k h = once_none i (suc x) before
    later_once c i j all s n x (f ∷ ns) (more t ts) front before lt b k h =
        let of : Tree = type_tree (suc (suc x)) t in
        let rest : Trees = later_trees (last of) ns ts in
        let here : Context = enter (record c { source = s }) kind.StructType i j all (ends_named all) n (field_at (suc x) of) (is_more rest) in
        let src : Option ℕ = source_at (record c { source = s }) (field_at (suc x) of) in
        let ps : Trees = trees.more (names_at (suc x)) (trees.more of trees.none) in
        let second : Context = enter (record here { source = source_at (begin here kind.Fields) (names_at (suc x)) }) kind.Fields (suc x) (last of) ps (ends_named ps) 1 of false in
        let grows : suc (suc x) < last of = type_ends (suc (suc x)) t in
        let up : last of ≤ later_end (last of) ns ts = later_ends (last of) ns ts in
        let mark : List Event = event.Member member.Field i (suc x) ∷ [] in
        let it : Once (suc (suc x)) (last of) (before ++ mark) (events second of) = type_once second (suc (suc x)) t (before ++ mark) refl h.2 (below_append x (suc (suc x)) i before mark b ((omega arith, omega (arith, lt)), tt) (omega arith)) in
        let told : Once (suc i) (last of) (before ++ mark) (events second of ++ []) =
        once_append (suc i) (last of) (before ++ mark) (events second of) [] (once_wide (suc (suc x)) (last of) (suc i) (last of) (before ++ mark) (events second of) (omega (arith, lt)) (omega arith) it) (once_none (suc i) (last of) ((before ++ mark) ++ events second of)) in
        let one : Once i (last of) before (events here (field_at (suc x) of)) = field_once i (suc x) (last of) before (events second of ++ []) front (omega (arith, lt, grows)) h.0 h.1 k told in
        let hi : ℕ = suc (later_end (last of) ns ts) in
        once_append i hi before (events here (field_at (suc x) of)) (events_of (record c { source = src }) kind.StructType i j all (suc n) rest) (once_wide i (last of) i hi before (events here (field_at (suc x) of)) (omega arith) (omega (arith, up)) one)
        (later_once c i j all src (suc n) (last of) ns ts (suc x ∷ front) (before ++ events here (field_at (suc x) of)) (omega (arith, lt, grows)) (below_append x (last of) i before (events here (field_at (suc x) of)) b one.between (omega (arith, grows)))
        (known_next member.Field i (suc x) front before (events second of ++ []) (last of) k told.between) h.3)

  pub type_free : (c : Context) (i : ℕ) (t : TypeTree) → c.role ≡ role.Operand → FieldsOnce w i t → second_members_by w [] (events c (type_tree i t)) ≡ []
  type_free c i t r h = (type_once c i t [] r h tt).free
