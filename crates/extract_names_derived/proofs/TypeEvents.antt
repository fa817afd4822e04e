-- What the trees of printed types tell: names that mean what no local is, and members.
use Rattle.std.proofs.Common.{◌≡◌, ℕ, suc, Bool, true, false, List, [], ◌∷◌, ◌++◌, Option, refl, sym, subst}
use Rattle.go_grammar.specs.declared.kind.Kind.{Kind}
use Rattle.go_grammar.specs.declared.kind.Kind.TheVariants as kind
use Rattle.go_grammar.specs.Trees.{Tree, node, Trees, kind_of, last}
use Rattle.go_grammar.specs.Trees as trees
use Rattle.go_grammar.specs.Grammar.{ends_named, ends_from, is_parameter}
use Rattle.go_tree.specs.declared.context.Context.{Context}
use Rattle.go_tree.specs.declared.context.Role.{Role}
use Rattle.go_tree.specs.declared.context.Role.TheVariants as role
use Rattle.go_tree.specs.declared.event.Event.{Event}
use Rattle.go_tree.specs.declared.event.Event.TheVariants as event
use Rattle.go_tree.specs.declared.event.Member.TheVariants as member
use Rattle.go_tree.specs.declared.event.Use.{Use}
use Rattle.go_tree.specs.Contexts.{entry_role, source_in, source_at, enter}
use Rattle.go_tree.specs.Events.{statement_events, name_events, is_more, begin, events, events_of}
use Rattle.go_print_laws.specs.Trees.{name_at, number_at, names_at, field_at, type_tree, list_trees, list_end, behind_trees, behind_end, result_trees, result_end, field_trees, field_end, later_trees}
use Rattle.go_types.specs.Trees.{TypeTree, boolean, text, integer, array, slice, structure, function, declared, TypeRow, none, more}
use Rattle.extract_names.specs.Sites.{EachEvent}
use Rattle.extract_names_derived.specs.Calls.{NamesType, NamesList, NamesBehind, NamesResults, NamesFields, NamesLater}
use Rattle.extract_names_derived.proofs.Lying.{each_event_append}

type_is_no_parameter : (i : ℕ) (t : TypeTree) → is_parameter (kind_of (type_tree i t)) ≡ false
type_is_no_parameter i boolean = refl
type_is_no_parameter i text = refl
type_is_no_parameter i (integer k) = refl
type_is_no_parameter i (array n t) = refl
type_is_no_parameter i (slice t) = refl
type_is_no_parameter i (structure ns ts) = refl
type_is_no_parameter i (function ps rs) = refl
type_is_no_parameter i (declared n) = refl

behind_unnamed : (b : Bool) (i : ℕ) (ts : TypeRow) → b ≡ false → ends_from b (behind_trees i ts) ≡ false
behind_unnamed b i none e = e
behind_unnamed b i (more t ts) e = behind_unnamed (is_parameter (kind_of (type_tree (suc i) t))) (last (type_tree (suc i) t)) ts (type_is_no_parameter (suc i) t)

pub list_unnamed : (i : ℕ) (ts : TypeRow) → ends_named (list_trees i ts) ≡ false
list_unnamed i none = refl
list_unnamed i (more t ts) = behind_unnamed (is_parameter (kind_of (type_tree i t))) (last (type_tree i t)) ts (type_is_no_parameter i t)

-- the role of a name that is looked up, and of which nothing else is asked
abbrev pub IsLookedUp : Role → Type 0
IsLookedUp role.Operand = Unit {0}
IsLookedUp role.Assigned = Unit {0}
IsLookedUp role.Called = Unit {0}
IsLookedUp r = ⊥

-- where a type stands
pub record TypeStands (c : Context) : Type 0 where
  pub role : c.role ≡ role.Operand
  pub constant : c.constant ≡ false

-- what a context makes of a name that is looked up in it
abbrev pub use_in : Context → ℕ → Use
use_in c i = record { name = i; role = c.role; site = c.site; constant = c.constant; initial = c.initial }

-- N holds of the names of types, and Q is what is to hold of events.
module _ (N : ℕ → Type 0) (Q : Event → Type 0) (stated : (i j : ℕ) → Q (event.Statement i j)) (membered : (g x : ℕ) → Q (event.Member member.Field g x)) (used : (c : Context) (i : ℕ) → c.role ≡ role.Operand → c.constant ≡ false → N i → Q (event.Use (use_in c i))) where
  abbrev pub E : List Event → Type 0
  E = EachEvent Q

  pub both : (es fs : List Event) → E es → E fs → E (es ++ fs)
  both es fs x y = each_event_append Q es fs x y

  pub statement_asked : (x : Bool) (i j : ℕ) → E (statement_events x i j)
  statement_asked true i j = (stated i j, tt)
  statement_asked false i j = tt

  -- what a node tells: its statement, what it tells by itself, and its parts
  pub node_asked : (x : Bool) (i j : ℕ) (own rest : List Event) → E own → E rest → E ((statement_events x i j ++ own) ++ rest)
  node_asked x i j own rest f h = both (statement_events x i j ++ own) rest (both (statement_events x i j) own (statement_asked x i j) f) h

  name_asked : (c : Context) (i : ℕ) (r : Role) → IsLookedUp r → Q (event.Use (use_in c i)) → E (name_events c i r)
  name_asked c i role.Operand r u = (u, tt)
  name_asked c i role.Assigned r u = (u, tt)
  name_asked c i role.Called r u = (u, tt)
  name_asked c i (role.Selected l x) r u = absurd r
  name_asked c i (role.New d) r u = absurd r
  name_asked c i (role.Field x) r u = absurd r
  name_asked c i (role.Key x) r u = absurd r
  name_asked c i (role.Parameter x s) r u = absurd r

  -- a name that is looked up
  pub leaf_asked : (c : Context) (i : ℕ) → IsLookedUp c.role → Q (event.Use (use_in c i)) → E (events c (name_at i))
  leaf_asked c i r u = node_asked c.listed i (suc i) (name_events c i c.role) [] (name_asked c i c.role r u) tt

  pub number_asked : (c : Context) (i : ℕ) → E (events c (number_at i))
  number_asked c i = node_asked c.listed i (suc i) [] [] tt tt

  outer_asked : (c : Context) (i : ℕ) → TypeStands c → N i → E (events c (name_at i))
  outer_asked c i s o = leaf_asked c i (subst IsLookedUp (sym s.role) tt) (used c i s.role s.constant o)

  -- the parts of a node of this kind are such types
  abbrev Holds : Context → Kind → ℕ → ℕ → Trees → Type 0
  Holds c k i j ps = (s : Option ℕ) (n : ℕ) (p : Tree) (x : Bool) → TypeStands (enter (record c { source = s }) k i j ps (ends_named ps) n p x)

  sequence_holds : (c : Context) (i j : ℕ) (ps : Trees) → c.constant ≡ false → Holds c kind.SequenceType i j ps
  sequence_holds c i j ps e s n p x = record { role = refl; constant = e }

  results_hold : (c : Context) (i j : ℕ) (ps : Trees) → c.constant ≡ false → Holds c kind.Results i j ps
  results_hold c i j ps e s n p x = record { role = refl; constant = e }

  signature_holds : (c : Context) (i j : ℕ) (ps : Trees) → c.constant ≡ false → Holds c kind.Signature i j ps
  signature_holds c i j ps e s n p x = record { role = refl; constant = e }

  list_holds : (c : Context) (i j x : ℕ) (ts : TypeRow) → c.constant ≡ false → Holds c kind.Parameters i j (list_trees x ts)
  list_holds c i j x ts e s n p y = record { role = subst (λ b. entry_role b p i c.parameters ≡ role.Operand) (sym (list_unnamed x ts)) refl; constant = e }

  -- a field with one name, whose type is told so
  abbrev type_in : Context → ℕ → ℕ → Trees → Option ℕ → ℕ → ℕ → TypeTree → Bool → Context
  type_in c i j all s n x t y =
      let here : Context = enter (record c { source = s }) kind.StructType i j all (ends_named all) n (field_at x (type_tree (suc x) t)) y in
      let ps : Trees = trees.more (names_at x) (trees.more (type_tree (suc x) t) trees.none) in
      enter (record here { source = source_at (begin here kind.Fields) (names_at x) }) kind.Fields x (last (type_tree (suc x) t)) ps (ends_named ps) 1 (type_tree (suc x) t) false

  field_asked : (c : Context) (i j : ℕ) (all : Trees) (s : Option ℕ) (n x : ℕ) (t : TypeTree) (y : Bool) → E (events (type_in c i j all s n x t y) (type_tree (suc x) t))
      → E (events (enter (record c { source = s }) kind.StructType i j all (ends_named all) n (field_at x (type_tree (suc x) t)) y) (field_at x (type_tree (suc x) t)))
  field_asked c i j all s n x t y h = (membered i x, both (events (type_in c i j all s n x t y) (type_tree (suc x) t)) [] h tt)

  type_stands : (c : Context) (i j : ℕ) (all : Trees) (s : Option ℕ) (n x : ℕ) (t : TypeTree) (y : Bool) → c.constant ≡ false → TypeStands (type_in c i j all s n x t y)
  type_stands c i j all s n x t y e = record { role = refl; constant = e }

  mutual
    pub type_asked : (c : Context) (i : ℕ) (t : TypeTree) → TypeStands c → NamesType N i t → E (events c (type_tree i t))
    type_asked c i boolean s h = outer_asked c i s h
    type_asked c i text s h = outer_asked c i s h
    type_asked c i (integer k) s h = outer_asked c i s h
    type_asked c i (declared n) s h = outer_asked c i s h
    type_asked c i (array n t) s h =
        let of : Tree = type_tree (suc (suc (suc i))) t in
        let ps : Trees = trees.more (number_at (suc i)) (trees.more of trees.none) in
        let first : Context = enter (begin c kind.SequenceType) kind.SequenceType i (last of) ps (ends_named ps) 0 (number_at (suc i)) true in
        let second : Context = enter (record c { source = source_at (begin c kind.SequenceType) (number_at (suc i)) }) kind.SequenceType i (last of) ps (ends_named ps) 1 of false in
        node_asked c.listed i (last of) [] (events first (number_at (suc i)) ++ (events second of ++ [])) tt
        (both (events first (number_at (suc i))) (events second of ++ []) (number_asked first (suc i))
        (both (events second of) [] (type_asked second (suc (suc (suc i))) t (sequence_holds c i (last of) ps s.constant (source_at (begin c kind.SequenceType) (number_at (suc i))) 1 of false) h) tt))
    type_asked c i (slice t) s h =
        let of : Tree = type_tree (suc (suc i)) t in
        let ps : Trees = trees.skip (trees.more of trees.none) in
        let second : Context = enter (begin c kind.SequenceType) kind.SequenceType i (last of) ps (ends_named ps) 1 of false in
        node_asked c.listed i (last of) [] (events second of ++ []) tt
        (both (events second of) [] (type_asked second (suc (suc i)) t (sequence_holds c i (last of) ps s.constant (source_in c kind.SequenceType) 1 of false) h) tt)
    type_asked c i (structure ns ts) s h =
        let j : ℕ = suc (field_end (suc (suc i)) ns ts) in
        let ps : Trees = field_trees (suc (suc i)) ns ts in
        node_asked c.listed i j [] (events_of (begin c kind.StructType) kind.StructType i j ps 0 ps) tt (fields_asked c i j ps (source_in c kind.StructType) 0 (suc (suc i)) ns ts s.constant h)
    type_asked c i (function ps rs) s h =
        let k : ℕ = suc (list_end (suc (suc i)) ps) in
        let j : ℕ = result_end k rs in
        let qs : Trees = list_trees (suc (suc i)) ps in
        let list : Tree = node kind.Parameters (suc i) k qs in
        let row : Trees = trees.more list (result_trees k rs) in
        let signature : Tree = node kind.Signature (suc i) j row in
        let all : Trees = trees.more signature trees.none in
        let c1 : Context = enter (begin c kind.FunctionType) kind.FunctionType i j all (ends_named all) 0 signature false in
        let c2 : Context = enter (begin c1 kind.Signature) kind.Signature (suc i) j row (ends_named row) 0 list (is_more (result_trees k rs)) in
        node_asked c.listed i j [] (events c1 signature ++ []) tt
        (both (events c1 signature) []
        (both (events c2 list) (events_of (record c1 { source = source_at (begin c1 kind.Signature) list }) kind.Signature (suc i) j row 1 (result_trees k rs))
        (list_asked c2 (suc i) k qs (source_in c2 kind.Parameters) (suc (suc i)) ps s.constant h.0 (list_holds c2 (suc i) k (suc (suc i)) ps s.constant))
        (results_asked c1 (suc i) j row (source_at (begin c1 kind.Signature) list) k rs s.constant h.1)) tt)

    list_asked : (c : Context) (i j : ℕ) (all : Trees) (s : Option ℕ) (x : ℕ) (ts : TypeRow) → c.constant ≡ false → NamesList N x ts → Holds c kind.Parameters i j all → E (events_of (record c { source = s }) kind.Parameters i j all 0 (list_trees x ts))
    list_asked c i j all s x none e h f = tt
    list_asked c i j all s x (more t ts) e h f =
        let of : Tree = type_tree x t in
        let rest : Trees = behind_trees (last of) ts in
        let here : Context = enter (record c { source = s }) kind.Parameters i j all (ends_named all) 0 of (is_more rest) in
        both (events here of) (events_of (record c { source = source_at (record c { source = s }) of }) kind.Parameters i j all 1 rest) (type_asked here x t (f s 0 of (is_more rest)) h.0)
        (behind_asked c kind.Parameters i j all (source_at (record c { source = s }) of) 1 (last of) ts h.1 f)

    behind_asked : (c : Context) (k : Kind) (i j : ℕ) (all : Trees) (s : Option ℕ) (n x : ℕ) (ts : TypeRow) → NamesBehind N x ts → Holds c k i j all → E (events_of (record c { source = s }) k i j all n (behind_trees x ts))
    behind_asked c k i j all s n x none h f = tt
    behind_asked c k i j all s n x (more t ts) h f =
        let of : Tree = type_tree (suc x) t in
        let rest : Trees = behind_trees (last of) ts in
        let here : Context = enter (record c { source = s }) k i j all (ends_named all) n of (is_more rest) in
        both (events here of) (events_of (record c { source = source_at (record c { source = s }) of }) k i j all (suc n) rest) (type_asked here (suc x) t (f s n of (is_more rest)) h.0)
        (behind_asked c k i j all (source_at (record c { source = s }) of) (suc n) (last of) ts h.1 f)

    pub results_asked : (c : Context) (i j : ℕ) (all : Trees) (s : Option ℕ) (x : ℕ) (ts : TypeRow) → c.constant ≡ false → NamesResults N x ts → E (events_of (record c { source = s }) kind.Signature i j all 1 (result_trees x ts))
    results_asked c i j all s x none e h = tt
    results_asked c i j all s x (more t none) e h =
        let of : Tree = type_tree x t in
        let here : Context = enter (record c { source = s }) kind.Signature i j all (ends_named all) 1 of false in
        both (events here of) [] (type_asked here x t (signature_holds c i j all e s 1 of false) h) tt
    results_asked c i j all s x (more t (more u us)) e h =
        let one : Tree = type_tree (suc x) t in
        let two : Tree = type_tree (suc (last one)) u in
        let ends : ℕ = suc (behind_end (last two) us) in
        let ps : Trees = trees.more one (trees.more two (behind_trees (last two) us)) in
        let results : Tree = node kind.Results x ends ps in
        let here : Context = enter (record c { source = s }) kind.Signature i j all (ends_named all) 1 results false in
        let first : Context = enter (begin here kind.Results) kind.Results x ends ps (ends_named ps) 0 one true in
        let f : Holds here kind.Results x ends ps = results_hold here x ends ps e in
        both (events here results) []
        (both (events first one) (events_of (record here { source = source_at (begin here kind.Results) one }) kind.Results x ends ps 1 (behind_trees (last one) (more u us)))
        (type_asked first (suc x) t (f (source_in here kind.Results) 0 one true) h.0)
        (behind_asked here kind.Results x ends ps (source_at (begin here kind.Results) one) 1 (last one) (more u us) h.1 f)) tt

    fields_asked : (c : Context) (i j : ℕ) (all : Trees) (s : Option ℕ) (n x : ℕ) (ns : List (List ℕ)) (ts : TypeRow) → c.constant ≡ false → NamesFields N x ns ts → E (events_of (record c { source = s }) kind.StructType i j all n (field_trees x ns ts))
    fields_asked c i j all s n x [] ts e h = tt
    fields_asked c i j all s n x (f ∷ ns) none e h = tt
    fields_asked c i j all s n x (f ∷ ns) (more t ts) e h =
        let of : Tree = type_tree (suc x) t in
        let rest : Trees = later_trees (last of) ns ts in
        let here : Context = enter (record c { source = s }) kind.StructType i j all (ends_named all) n (field_at x of) (is_more rest) in
        both (events here (field_at x of)) (events_of (record c { source = source_at (record c { source = s }) (field_at x of) }) kind.StructType i j all (suc n) rest) (field_asked c i j all s n x t (is_more rest) (type_asked (type_in c i j all s n x t (is_more rest)) (suc x) t (type_stands c i j all s n x t (is_more rest) e) h.0))
        (later_asked c i j all (source_at (record c { source = s }) (field_at x of)) (suc n) (last of) ns ts e h.1)

    later_asked : (c : Context) (i j : ℕ) (all : Trees) (s : Option ℕ) (n x : ℕ) (ns : List (List ℕ)) (ts : TypeRow) → c.constant ≡ false → NamesLater N x ns ts → E (events_of (record c { source = s }) kind.StructType i j all n (later_trees x ns ts))
    later_asked c i j all s n x [] ts e h = tt
    later_asked c i j all s n x (f ∷ ns) none e h = tt
    later_asked c i j all s n x (f ∷ ns) (more t ts) e h =
        let of : Tree = type_tree (suc (suc x)) t in
        let rest : Trees = later_trees (last of) ns ts in
        let here : Context = enter (record c { source = s }) kind.StructType i j all (ends_named all) n (field_at (suc x) of) (is_more rest) in
        both (events here (field_at (suc x) of)) (events_of (record c { source = source_at (record c { source = s }) (field_at (suc x) of) }) kind.StructType i j all (suc n) rest) (field_asked c i j all s n (suc x) t (is_more rest) (type_asked (type_in c i j all s n (suc x) t (is_more rest)) (suc (suc x)) t (type_stands c i j all s n (suc x) t (is_more rest) e) h.0))
        (later_asked c i j all (source_at (record c { source = s }) (field_at (suc x) of)) (suc n) (last of) ns ts e h.1)
