-- What a file tells of the types that it declares.
use Rattle.std.proofs.Common.{◌≡◌, ℕ, suc, ◌<◌, ◌≤◌, ◌⊎◌, inl, inr, true, false, List, [], ◌∷◌, ◌++◌, Option, None, refl, sym, subst, arith}
use Rattle.go_tokens.specs.declared.token.TokenKind.{TokenKind}
use Rattle.go_tokens.specs.declared.token.TokenKind.TheVariants as token
use Rattle.go_grammar.specs.declared.kind.Kind.{Kind}
use Rattle.go_grammar.specs.declared.kind.Kind.TheVariants as kind
use Rattle.go_grammar.specs.declared.kind.Sort.{Sort}
use Rattle.go_grammar.specs.declared.kind.Sort.TheVariants as declaring
use Rattle.go_grammar.specs.declared.kind.Category.TheVariants as category
use Rattle.go_grammar.specs.Operators.{sort_word}
use Rattle.go_grammar.specs.Rules.{Each, End, Lines, Many, Then}
use Rattle.go_grammar.specs.Trees.{Tree, node, Trees, none, more, skip, kind_of, last}
use Rattle.go_grammar.specs.Grammar.{IsFile, Derives, Spells, Goes, ends_named}
use Rattle.go_tree.specs.declared.context.Context.{Context}
use Rattle.go_tree.specs.declared.event.Event.{Event}
use Rattle.go_tree.specs.declared.event.Event.TheVariants as event
use Rattle.go_tree.specs.Contexts.{enter, entity_of, file_context}
use Rattle.go_tree.specs.Events.{statement_events, own_events, is_more, pass, begin, events, events_of}
use Rattle.go_scopes_events.proofs.Public.{true_false}
use Rattle.go_scopes_events.specs.Orders.{AreInOrder, EachDeclared}
use Rattle.go_package_defs.specs.Declarations.{Specification, specification_of, source_behind, grouped, declared, declaration, declarations, in_file}
use Rattle.go_package_defs.specs.Knowledge.{is_type}

-- ---- a type that is told

-- Among what is told is the declaration of a type by the name at this token.
abbrev pub TellsType : ℕ → List Event → Type 0
TellsType i [] = ⊥
TellsType i (event.Declaration d ∷ es) = ((d.name ≡ i) × (is_type d.entity ≡ true)) ⊎ TellsType i es
TellsType i (e ∷ es) = TellsType i es

tells_front : (i : ℕ) (es fs : List Event) → TellsType i es → TellsType i (es ++ fs)
tells_front i [] fs h = absurd h
tells_front i (event.Declaration d ∷ es) fs (inl h) = inl h
tells_front i (event.Declaration d ∷ es) fs (inr h) = inr (tells_front i es fs h)
tells_front i (e ∷ es) fs h = tells_front i es fs h

tells_behind : (i : ℕ) (es fs : List Event) → TellsType i fs → TellsType i (es ++ fs)
tells_behind i [] fs h = h
tells_behind i (event.Declaration d ∷ es) fs h = inr (tells_behind i es fs h)
tells_behind i (e ∷ es) fs h = tells_behind i es fs h

-- ---- names in order

not_before : (i a b : ℕ) (es : List Event) → AreInOrder a b es → TellsType i es → a ≤ i
not_before i a b [] o h = absurd h
not_before i a b (event.Declaration d ∷ es) o (inl h) = omega (arith, o.0, h.0)
not_before i a b (event.Declaration d ∷ es) o (inr h) = let z = not_before i (suc d.name) b es o.1 h in omega (arith, o.0, z)
not_before i a b (event.Use u ∷ es) o h = let z = not_before i (suc u.name) b es o.1 h in omega (arith, o.0, z)
not_before i a b (e ∷ es) o h = not_before i a b es o h

-- no declaration by this name but one of a type
abbrev pub OnlyType : ℕ → List Event → Type 0
OnlyType i es = EachDeclared (λ d. d.name ≡ i → is_type d.entity ≡ true) es

none_behind : (i a b : ℕ) (es : List Event) → AreInOrder a b es → i < a → OnlyType i es
none_behind i a b [] o lt = tt
none_behind i a b (event.Declaration d ∷ es) o lt = (λ e. absurd (omega (arith, o.0, lt, e)), none_behind i (suc d.name) b es o.1 (omega (arith, o.0, lt)))
none_behind i a b (event.Use u ∷ es) o lt = none_behind i (suc u.name) b es o.1 (omega (arith, o.0, lt))
none_behind i a b (e ∷ es) o lt = none_behind i a b es o lt

pub only_type : (i a b : ℕ) (es : List Event) → AreInOrder a b es → TellsType i es → OnlyType i es
only_type i a b [] o h = tt
only_type i a b (event.Declaration d ∷ es) o (inl h) = (λ e. h.1, none_behind i (suc d.name) b es o.1 (omega (arith, h.0)))
only_type i a b (event.Declaration d ∷ es) o (inr h) = let z = not_before i (suc d.name) b es o.1 h in (λ e. absurd (omega (arith, z, e)), only_type i (suc d.name) b es o.1 h)
only_type i a b (event.Use u ∷ es) o h = only_type i (suc u.name) b es o.1 h
only_type i a b (e ∷ es) o h = only_type i a b es o h

-- ---- specifications

-- A specification stands in the file n; one of a type has one name, and the file tells of a type by this name.
pub record IsTold (es : List Event) (n : ℕ) (d : Specification) : Type 0 where
  pub file : d.file ≡ n
  pub told : is_type d.entity ≡ true → (i : ℕ) × (d.names ≡ i ∷ []) × TellsType i es

abbrev pub AreTold : List Event → ℕ → List Specification → Type 0
AreTold es n [] = Unit {0}
AreTold es n (d ∷ ds) = IsTold es n d × AreTold es n ds

one_more : (es fs : List Event) → ((i : ℕ) → TellsType i es → TellsType i fs) → (n : ℕ) (d : Specification) → IsTold es n d → IsTold fs n d
one_more es fs f n d h = record { file = h.file; told = λ e. let z = h.told e in (z.0, z.1, f z.0 z.2) }

told_more : (es fs : List Event) → ((i : ℕ) → TellsType i es → TellsType i fs) → (n : ℕ) (ds : List Specification) → AreTold es n ds → AreTold fs n ds
told_more es fs f n [] h = tt
told_more es fs f n (d ∷ ds) h = (one_more es fs f n d h.0, told_more es fs f n ds h.1)

told_append : (es : List Event) (n : ℕ) (ds gs : List Specification) → AreTold es n ds → AreTold es n gs → AreTold es n (ds ++ gs)
told_append es n [] gs h g = g
told_append es n (d ∷ ds) gs h g = (h.0, told_append es n ds gs h.1 g)

-- ---- constants and variables

module _ (es : List Event) (n : ℕ) where
  other_told : (s : Sort) (k : ℕ) (r : Option Tree) (t : Tree) → is_type (entity_of s) ≡ false → IsTold es n (specification_of n s k r t)
  other_told declaring.Constant k r (node l i j ps) e = record { file = refl; told = λ h. absurd (true_false false h refl) }
  other_told declaring.Variable k r (node l i j ps) e = record { file = refl; told = λ h. absurd (true_false false h refl) }
  other_told declaring.Type k r (node l i j ps) e = absurd (true_false true refl e)

  others_told : (s : Sort) (k : ℕ) (r : Option Tree) (ps : Trees) → is_type (entity_of s) ≡ false → AreTold es n (grouped n s k r ps)
  others_told s k r none e = tt
  others_told s k r (more p ps) e = (other_told s k r p e, others_told s (suc k) (source_behind r p) ps e)
  others_told s k r (skip ps) e = others_told s k r ps e

  other_declared : (s : Sort) (ps : Trees) → is_type (entity_of s) ≡ false → AreTold es n (declared n s ps)
  other_declared s none e = tt
  other_declared s (skip ps) e = others_told s 0 None (skip ps) e
  other_declared s (more (node (kind.Group g) i j qs) none) e = others_told s 0 None qs e
  other_declared s (more (node (kind.Group g) i j qs) (more q ps)) e = others_told s 0 None (more (node (kind.Group g) i j qs) (more q ps)) e
  other_declared s (more (node (kind.Group g) i j qs) (skip ps)) e = others_told s 0 None (more (node (kind.Group g) i j qs) (skip ps)) e
  other_declared s (more (node k i j qs) ps) e = others_told s 0 None (more (node k i j qs) ps) e

-- ---- types

abbrev type_kind : Kind
type_kind = kind.Specification declaring.Type

-- each part specifies a type
abbrev AreTypes : Trees → Type 0
AreTypes none = Unit {0}
AreTypes (more p ps) = (kind_of p ≡ type_kind) × AreTypes ps
AreTypes (skip ps) = AreTypes ps

type_told : (c : Context) (n k : ℕ) (r : Option Tree) (p : Tree) → kind_of p ≡ type_kind → IsTold (events c p) n (specification_of n declaring.Type k r p)
type_told c n k r (node l i j ps) e = subst (λ m. IsTold (events c (node m i j ps)) n (specification_of n declaring.Type k r (node l i j ps))) (sym e) (record {
  file = refl;
  told = λ h. (
    i,
    refl,
    tells_front i (statement_events c.listed i j ++ own_events c type_kind i j ps) (events_of (begin c type_kind) type_kind i j ps 0 ps)
        (tells_behind i (statement_events c.listed i j) (own_events c type_kind i j ps) (inl (refl, refl))),
  );
})

types_told : (c : Context) (l : Kind) (i j : ℕ) (all : Trees) (m n k : ℕ) (r : Option Tree) (ps : Trees) → AreTypes ps → AreTold (events_of c l i j all m ps) n (grouped n declaring.Type k r ps)
types_told c l i j all m n k r none h = tt
types_told c l i j all m n k r (skip ps) h = types_told c l i j all (suc m) n k r ps h
types_told c l i j all m n k r (more p ps) h =
    let inner : Context = enter c l i j all (ends_named all) m p (is_more ps) in
    let own : List Event = events inner p in
    let rest : List Event = events_of (pass c p) l i j all (suc m) ps in (
      one_more own (own ++ rest) (λ x. tells_front x own rest) n (specification_of n declaring.Type k r p) (type_told inner n k r p h.0),
      told_more rest (own ++ rest) (λ x. tells_behind x own rest) n (grouped n declaring.Type (suc k) (source_behind r p) ps) (types_told (pass c p) l i j all (suc m) n (suc k) (source_behind r p) ps h.1),
    )

module _ (ts : List TokenKind) where
  specified_type : (p : Tree) → Derives ts (category.Specification declaring.Type) p → kind_of p ≡ type_kind
  specified_type (node (kind.Specification declaring.Type) i j ps) h = refl
  specified_type (node (kind.Specification declaring.Constant) i j ps) h = absurd (true_false false h.0 refl)
  specified_type (node (kind.Specification declaring.Variable) i j ps) h = absurd (true_false false h.0 refl)
  specified_type (node k i j ps) h = absurd (true_false false h.0 refl)

  rest_types : (ps : Trees) (i j : ℕ) → Goes ts (Lines false (category.Specification declaring.Type) token.Semicolon token.RightParenthesis) i ps j → AreTypes ps
  rest_types none i j h = tt
  rest_types (more p ps) i j h = (specified_type p h.3, rest_types ps (last p) j h.4)
  rest_types (skip ps) i j h = absurd h

  all_types : (ps : Trees) (i j : ℕ) → Spells ts (Many (token.LeftParenthesis ∷ []) (Lines false (category.Specification declaring.Type) token.Semicolon token.RightParenthesis)) i ps j → AreTypes ps
  all_types none i j h = tt
  all_types (more p ps) i j h = (specified_type p h.3, rest_types ps (last p) j h.4)
  all_types (skip ps) i j h = absurd h

  body_told : (c : Context) (n : ℕ) (b : Tree) → Derives ts (category.DeclarationBody declaring.Type) b → AreTold (events c b) n (declared n declaring.Type (more b none))
  body_told c n (node (kind.Specification declaring.Type) i j ps) h = (type_told c n 0 None (node type_kind i j ps) refl, tt)
  body_told c n (node (kind.Specification declaring.Constant) i j ps) h = absurd (true_false false h.0 refl)
  body_told c n (node (kind.Specification declaring.Variable) i j ps) h = absurd (true_false false h.0 refl)
  body_told c n (node (kind.Group declaring.Type) i j ps) h =
      let g : Kind = kind.Group declaring.Type in
      let own : List Event = statement_events c.listed i j ++ own_events c g i j ps in
      let rest : List Event = events_of (begin c g) g i j ps 0 ps in
      told_more rest (own ++ rest) (λ x. tells_behind x own rest) n (grouped n declaring.Type 0 None ps) (types_told (begin c g) g i j ps 0 n 0 None ps (all_types ps i j h.1))
  body_told c n (node (kind.Group declaring.Constant) i j ps) h = absurd (true_false false h.0 refl)
  body_told c n (node (kind.Group declaring.Variable) i j ps) h = absurd (true_false false h.0 refl)
  body_told c n (node k i j ps) h = absurd (true_false false h.0 refl)

  -- the body of a declaration of types
  types_declared : (c : Context) (n i j : ℕ) (ps : Trees) → Spells ts (Then (sort_word declaring.Type ∷ []) (category.DeclarationBody declaring.Type) (End [])) i ps j
      → AreTold (events_of c (kind.Declaration declaring.Type) i j ps 0 ps) n (declared n declaring.Type ps)
  types_declared c n i j none h = absurd h
  types_declared c n i j (skip ps) h = absurd h
  types_declared c n i j (more b (more q ps)) h = absurd h.2
  types_declared c n i j (more b (skip ps)) h = absurd h.2
  types_declared c n i j (more b none) h =
      let inner : Context = enter c (kind.Declaration declaring.Type) i j (more b none) (ends_named (more b none)) 0 b false in
      told_more (events inner b) (events inner b ++ []) (λ x. tells_front x (events inner b) []) n (declared n declaring.Type (more b none)) (body_told inner n b h.1)

  declaration_told : (c : Context) (n : ℕ) (t : Tree) → Derives ts category.Declaration t → AreTold (events c t) n (declaration n t)
  declaration_told c n (node (kind.Declaration declaring.Constant) i j ps) h = other_declared (events c (node (kind.Declaration declaring.Constant) i j ps)) n declaring.Constant ps refl
  declaration_told c n (node (kind.Declaration declaring.Variable) i j ps) h = other_declared (events c (node (kind.Declaration declaring.Variable) i j ps)) n declaring.Variable ps refl
  declaration_told c n (node (kind.Declaration declaring.Type) i j ps) h =
      let d : Kind = kind.Declaration declaring.Type in
      let own : List Event = statement_events c.listed i j ++ own_events c d i j ps in
      let rest : List Event = events_of (begin c d) d i j ps 0 ps in
      told_more rest (own ++ rest) (λ x. tells_behind x own rest) n (declared n declaring.Type ps) (types_declared (begin c d) n i j ps h.1)
  declaration_told c n (node kind.FunctionDeclaration i j ps) h = (record { file = refl; told = λ e. absurd (true_false false e refl) }, tt)
  declaration_told c n (node k i j ps) h = absurd (true_false false h.0 refl)

  -- ---- a file

  -- the specifications of each part are told by it, in any context
  abbrev AllTell : ℕ → Trees → Type 0
  AllTell n none = Unit {0}
  AllTell n (more p ps) = ((c : Context) → AreTold (events c p) n (declaration n p)) × AllTell n ps
  AllTell n (skip ps) = AllTell n ps

  row_told : (c : Context) (i j : ℕ) (all : Trees) (m n : ℕ) (ps : Trees) → AllTell n ps → AreTold (events_of c kind.File i j all m ps) n (declarations n ps)
  row_told c i j all m n none h = tt
  row_told c i j all m n (skip ps) h = row_told c i j all (suc m) n ps h
  row_told c i j all m n (more p ps) h =
      let inner : Context = enter c kind.File i j all (ends_named all) m p (is_more ps) in
      let own : List Event = events inner p in
      let rest : List Event = events_of (pass c p) kind.File i j all (suc m) ps in
      told_append (own ++ rest) n (declaration n p) (declarations n ps)
      (told_more own (own ++ rest) (λ x. tells_front x own rest) n (declaration n p) (h.0 inner))
      (told_more rest (own ++ rest) (λ x. tells_behind x own rest) n (declarations n ps) (row_told (pass c p) i j all (suc m) n ps h.1))

  goes_tell : (n : ℕ) (ps : Trees) (i j : ℕ) → Goes ts (Each category.Declaration (token.Semicolon ∷ []) []) i ps j → AllTell n ps
  goes_tell n none i j h = tt
  goes_tell n (more p ps) i j h = (λ c. declaration_told c n p h.3, goes_tell n ps (last p) j h.4)
  goes_tell n (skip ps) i j h = absurd h

  many_tell : (n : ℕ) (ps : Trees) (i j : ℕ) → Spells ts (Many [] (Each category.Declaration (token.Semicolon ∷ []) [])) i ps j → AllTell n ps
  many_tell n none i j h = tt
  many_tell n (more p ps) i j h = (λ c. declaration_told c n p h.3, goes_tell n ps (last p) j h.4)
  many_tell n (skip ps) i j h = absurd h

  -- imports specify nothing
  no_specifications : (n : ℕ) (p : Tree) → Derives ts category.Imports p → declaration n p ≡ []
  no_specifications n (node kind.Imports i j ps) h = refl
  no_specifications n (node k i j ps) h = absurd (true_false false h.0 refl)

  parts_tell : (n i j : ℕ) (ps : Trees) → Derives ts category.File (node kind.File i j ps) → AllTell n ps
  parts_tell n i j none h = absurd h.1
  parts_tell n i j (skip ps) h = many_tell n ps h.1.0 j h.1.2
  parts_tell n i j (more p ps) h = (λ c. subst (AreTold (events c p) n) (sym (no_specifications n p h.1.1)) tt, many_tell n ps (last p) j h.1.2)

  pub file_told : (n : ℕ) (t : Tree) → IsFile ts t → AreTold (events (file_context (last t)) t) n (in_file n t)
  file_told n (node kind.File i j ps) f =
      let c : Context = file_context j in
      let own : List Event = statement_events c.listed i j ++ own_events c kind.File i j ps in
      let rest : List Event = events_of (begin c kind.File) kind.File i j ps 0 ps in
      told_more rest (own ++ rest) (λ x. tells_behind x own rest) n (declarations n ps) (row_told (begin c kind.File) i j ps 0 n ps (parts_tell n i j ps f.derives))
  file_told n (node k i j ps) f = absurd (true_false false f.derives.0 refl)
