-- A function without a body declares no parameters, where no fault of names is reported: it is `func readByte() int`.
use Rattle.std.proofs.Common.{◌≡◌, ◌∙◌, ℕ, zero, suc, ◌+◌, ◌-◌, ◌<◌, ◌≤◌, ◌⊎◌, inl, inr, ⊎_elim, Bool, true, false, List, [], ◌∷◌, ◌++◌, take, drop, Option, Some, None, refl, sym, ap, subst, arith}
use Rattle.std.specs.Prelude.{if◌then◌else◌, ◌&&◌, not, nat_eq, slice_get, slice_range, codes, option_map}
use Rattle.std.specs.Str.{chars}
use Rattle.std.proofs.lemmas.Bool.{lt-ltb}
use Rattle.std.proofs.lemmas.Option.{slice_get-map}
use Rattle.std.proofs.lemmas.Str.{chars-encodes, chars-nil}
use Rattle.ucd_category.specs.GeneralCategory.{general_category}
use Rattle.ucd_category.specs.GeneralCategoryRows.{general_category_rows}
use Rattle.ucd_table.specs.Rows.{value_in}
use Rattle.go_tokens.specs.declared.token.Token.{Token}
use Rattle.go_tokens.specs.declared.token.TokenKind.{TokenKind}
use Rattle.go_tokens.specs.declared.token.TokenKind.TheVariants as token
use Rattle.go_tokens.specs.Characters.{is_white, is_letter}
use Rattle.go_tokens.specs.Files.{IsLexing}
use Rattle.go_tokens.specs.Lexing.{token_kind}
use Rattle.go_tokens.specs.Pieces.{begun_by}
use Rattle.go_tokens.specs.Spellings.{same_text, keywords}
use Rattle.go_tokens.specs.Tokens.{TokenList, kinds, kind_of, text_of}
use Rattle.go_tokens.proofs.Public.{same_text-true, spelling}
use Rattle.go_grammar.specs.declared.kind.Kind.TheVariants as kind
use Rattle.go_grammar.specs.declared.kind.Category.TheVariants as category
use Rattle.go_grammar.specs.Rules.{Lines}
use Rattle.go_grammar.specs.Trees as syntax
use Rattle.go_grammar.specs.Trees.{Tree, node, Trees, none, more, skip, first, last, parts}
use Rattle.go_grammar.specs.Grammar.{IsAt, Derives, Goes, ends_named}
use Rattle.go_rewriting.specs.Lists.{InOrder, Ordered}
use Rattle.go_rewriting.proofs.Public.{tree_order, derives_ordered}
use Rattle.go_tree.specs.declared.context.Role.TheVariants as role
use Rattle.go_tree.specs.declared.context.Context.{Context}
use Rattle.go_tree.specs.declared.event.Event.{Event}
use Rattle.go_tree.specs.declared.event.Event.TheVariants as event
use Rattle.go_tree.specs.Clauses.{declares, is_spelled, read_byte, is_read_byte, bodiless, missing_bodies, package_names, imports, outside_declarations}
use Rattle.go_tree.specs.Contexts.{file_context, enter}
use Rattle.go_tree.specs.Declarations.{found}
use Rattle.go_tree.specs.Events.{name_events, function_events, statement_events, pass, begin, events, events_of}
use Rattle.go_tree.specs.Failures.{Failure, is_earlier, least_from, least, or_else, failing, place_if, of_files}
use Rattle.go_tree.specs.Faults.{clause_faults, name_faults, reported}
use Rattle.go_tree.specs.Units as names
use Rattle.go_tree.specs.Units.{Place, word, text_in, bytes_at}
use Rattle.go_base.specs.declared.fault.FaultCode.{FaultCode}
use Rattle.go_base.specs.declared.fault.FaultCode.TheVariants as code
use Rattle.go_scopes_events.proofs.Public.{true_false, and_both}
use Rattle.go_heads.specs.Functions.{AreRead}
use Rattle.go_heads.specs.Heads.{File, IsRead, body_of, without_body}
use Rattle.go_heads.proofs.Public.{same_some, Sits, function_kind, read_at}
use Rattle.go_tree.specs.Lists.{is_function}
use Rattle.go_heads_types.proofs.Looked.{same_test}
use Rattle.go_package_defs.specs.Declarations.{first_part}
use Rattle.go_heads.specs.Objects.{units_of}
use Rattle.go_heads.specs.Told.{file_events}
use Rattle.go_heads_types.proofs.Names.{declared_names, names_append, statement_names}

-- ---- where no fault is reported

least_some : (f : Failure) (gs : List Failure) → least_from (Some f) gs ≡ None → ⊥
least_some f [] e = cc
least_some f (g ∷ gs) e = by (is_earlier g f) (least_some g gs) (least_some f gs) e
  where
    by : (b : Bool) → (least_from (Some g) gs ≡ None → ⊥) → (least_from (Some f) gs ≡ None → ⊥) → least_from (if b then Some g else Some f) gs ≡ None → ⊥
    by true h k e = h e
    by false h k e = k e

none_least : (fs : List Failure) → least fs ≡ None → fs ≡ []
none_least [] e = refl
none_least (f ∷ fs) e = absurd (least_some f fs e)

neither : (f g : Option Failure) → or_else f g ≡ None → f ≡ None
neither None g e = refl
neither (Some f) g e = absurd cc

behind_none : (xs ys : List Failure) → xs ++ ys ≡ [] → ys ≡ []
behind_none [] ys e = e
behind_none (x ∷ xs) ys e = absurd cc

front_none : (xs ys : List Place) → xs ++ ys ≡ [] → xs ≡ []
front_none [] ys e = refl
front_none (x ∷ xs) ys e = absurd cc

rest_none : (xs ys : List Place) → xs ++ ys ≡ [] → ys ≡ []
rest_none [] ys e = e
rest_none (x ∷ xs) ys e = absurd cc

none_failing : (c : FaultCode) (xs : List Place) → failing c xs ≡ [] → xs ≡ []
none_failing c [] e = refl
none_failing c (x ∷ xs) e = absurd cc

none_missing : (us : List names.Unit) → reported us ≡ None → missing_bodies (found us) us ≡ []
none_missing us e =
    let all : clause_faults us ≡ [] = none_least (clause_faults us) (neither (least (clause_faults us)) (least (name_faults us)) e) in
    none_failing code.Outside (missing_bodies (found us) us)
    (behind_none (failing code.PackageName (package_names us) ++ failing code.Outside (imports us) ++ failing code.Outside (outside_declarations (found us))) (failing code.Outside (missing_bodies (found us) us)) all)

in_file : (hidden : Bool) (k n : ℕ) (fs : List File) (f : File) → slice_get fs n ≡ Some f → of_files (bodiless hidden) k (units_of fs) ≡ [] → bodiless hidden (k + n) f.tokens (file_events f) ≡ []
in_file hidden k n [] f there e = absurd cc
in_file hidden k zero (g ∷ fs) f there e =
    let z : k + 0 ≡ k = omega arith in
    ap (λ i. bodiless hidden i f.tokens (file_events f)) z
    ∙ sym (ap (λ (x : File). bodiless hidden k x.tokens (file_events x)) (same_some g f there))
    ∙ front_none (bodiless hidden k g.tokens (file_events g)) (of_files (bodiless hidden) (suc k) (units_of fs)) e
in_file hidden k (suc n) (g ∷ fs) f there e =
    let z : k + suc n ≡ suc k + n = omega arith in
    ap (λ i. bodiless hidden i f.tokens (file_events f)) z
    ∙ in_file hidden (suc k) n fs f there (rest_none (bodiless hidden k g.tokens (file_events g)) (of_files (bodiless hidden) (suc k) (units_of fs)) e)

-- a function without a body is told
abbrev pub IsBodiless : ℕ → ℕ → List Event → Type 0
IsBodiless i j [] = ⊥
IsBodiless i j (event.Bodiless a b ∷ es) = ((a ≡ i) × (b ≡ j)) ⊎ IsBodiless i j es
IsBodiless i j (e ∷ es) = IsBodiless i j es

pub bodiless_behind : (i j : ℕ) (es fs : List Event) → IsBodiless i j fs → IsBodiless i j (es ++ fs)
bodiless_behind i j [] fs h = h
bodiless_behind i j (event.Bodiless a b ∷ es) fs h = inr (bodiless_behind i j es fs h)
bodiless_behind i j (event.Declaration d ∷ es) fs h = bodiless_behind i j es fs h
bodiless_behind i j (event.Use u ∷ es) fs h = bodiless_behind i j es fs h
bodiless_behind i j (event.Import k ∷ es) fs h = bodiless_behind i j es fs h
bodiless_behind i j (event.Member m g k ∷ es) fs h = bodiless_behind i j es fs h
bodiless_behind i j (event.Statement a k ∷ es) fs h = bodiless_behind i j es fs h
bodiless_behind i j (event.Misplaced a k ∷ es) fs h = bodiless_behind i j es fs h
bodiless_behind i j (event.SecondDefault k ∷ es) fs h = bodiless_behind i j es fs h

pub bodiless_front : (i j : ℕ) (es fs : List Event) → IsBodiless i j es → IsBodiless i j (es ++ fs)
bodiless_front i j [] fs h = absurd h
bodiless_front i j (event.Bodiless a b ∷ es) fs (inl s) = inl s
bodiless_front i j (event.Bodiless a b ∷ es) fs (inr h) = inr (bodiless_front i j es fs h)
bodiless_front i j (event.Declaration d ∷ es) fs h = bodiless_front i j es fs h
bodiless_front i j (event.Use u ∷ es) fs h = bodiless_front i j es fs h
bodiless_front i j (event.Import k ∷ es) fs h = bodiless_front i j es fs h
bodiless_front i j (event.Member m g k ∷ es) fs h = bodiless_front i j es fs h
bodiless_front i j (event.Statement a k ∷ es) fs h = bodiless_front i j es fs h
bodiless_front i j (event.Misplaced a k ∷ es) fs h = bodiless_front i j es fs h
bodiless_front i j (event.SecondDefault k ∷ es) fs h = bodiless_front i j es fs h

not_placed : (b : Bool) (x : Place) (xs : List Place) → place_if (not b) x xs ≡ [] → (b ≡ true) × (xs ≡ [])
not_placed true x xs e = (refl, e)
not_placed false x xs e = absurd cc

spelled_so : (hidden : Bool) (n : ℕ) (l : TokenList) (i j : ℕ) (es : List Event) → bodiless hidden n l es ≡ [] → IsBodiless i j es → is_read_byte hidden l i j ≡ true
spelled_so hidden n l i j [] e h = absurd h
spelled_so hidden n l i j (event.Bodiless a b ∷ es) e (inl s) =
    ap (λ x. is_read_byte hidden l x j) (sym s.0) ∙ ap (is_read_byte hidden l a) (sym s.1) ∙ (not_placed (is_read_byte hidden l a b) (bytes_at n l (suc a)) (bodiless hidden n l es) e).0
spelled_so hidden n l i j (event.Bodiless a b ∷ es) e (inr h) =
    spelled_so hidden n l i j es ((not_placed (is_read_byte hidden l a b) (bytes_at n l (suc a)) (bodiless hidden n l es) e).1) h
spelled_so hidden n l i j (event.Declaration d ∷ es) e h = spelled_so hidden n l i j es e h
spelled_so hidden n l i j (event.Use u ∷ es) e h = spelled_so hidden n l i j es e h
spelled_so hidden n l i j (event.Import k ∷ es) e h = spelled_so hidden n l i j es e h
spelled_so hidden n l i j (event.Member m g k ∷ es) e h = spelled_so hidden n l i j es e h
spelled_so hidden n l i j (event.Statement a k ∷ es) e h = spelled_so hidden n l i j es e h
spelled_so hidden n l i j (event.Misplaced a k ∷ es) e h = spelled_so hidden n l i j es e h
spelled_so hidden n l i j (event.SecondDefault k ∷ es) e h = spelled_so hidden n l i j es e h

-- ---- the kind of a token with the text `int`

abbrev kind_by : List ℕ → TokenKind
kind_by w = token_kind (chars w)

empty_at : (text : List ℕ) (i : ℕ) → slice_range text i i ≡ []
empty_at text i = let n : i - i ≡ 0 = omega arith in ap (λ m. take m (drop i text)) n

kind_at : (l : TokenList) → IsLexing l.file l.text l.tokens l.comments → (i : ℕ) (t : Token) → slice_get l.tokens i ≡ Some t → kind_of t ≡ kind_by (text_of l t)
kind_at l h i t e =
    ⊎_elim
    (λ s. s.kind_is ∙ ap token_kind (sym (chars-encodes s.characters s.scalars) ∙ ap chars s.encoded))
    (λ f. f.kind_is ∙ sym (ap kind_by (ap (λ n. slice_range l.text t.span.start n) f.empty ∙ empty_at l.text t.span.start) ∙ ap token_kind chars-nil))
    (spelling l.file l.text l.tokens l.comments i t h e)

int_kind : kind_by (codes "int") ≡ token.Identifier
unfolding chars begun_by is_white is_letter general_category value_in general_category_rows keywords
int_kind = refl

int_at : (l : TokenList) → IsLexing l.file l.text l.tokens l.comments → (i : ℕ) (w : TokenKind) → word l i ≡ codes "int" → IsAt (kinds l.tokens) i w → w ≡ token.Identifier
int_at l h i w text at = by (slice_get l.tokens i) refl (sym (slice_get-map kind_of l.tokens i) ∙ at) text
  where
    by : (o : Option Token) → slice_get l.tokens i ≡ o → option_map kind_of o ≡ Some w → text_in l o ≡ codes "int" → w ≡ token.Identifier
    by None e f g = absurd cc
    by (Some t) e f g = sym (same_some (kind_of t) w f) ∙ kind_at l h i t e ∙ ap kind_by g ∙ int_kind

-- ---- the signature

closes : (ts : List TokenKind) (x : ℕ) (es : Trees) (b : ℕ) → Goes ts (Lines false category.Entry token.Comma token.RightParenthesis) x es b → Ordered x es b → (k : ℕ) × (x ≤ k) × IsAt ts k token.RightParenthesis × (suc k ≡ b)
closes ts x none b (inl h) o = (x, omega arith, h.0, h.1)
closes ts x none b (inr h) o = (h.2.0, omega (arith, h.1.1, h.2.1), h.2.2, h.2.3)
closes ts x (more e es) b h o =
    let rest = closes ts (last e) es b h.4 o.2 in
    (rest.0, omega (arith, rest.1, o.0, tree_order e o.1), rest.2, rest.3)
closes ts x (skip es) b h o = absurd h

-- no token is another one
not_open : token.LeftParenthesis ≡ token.Identifier → ⊥
not_open e = cc

not_close : token.RightParenthesis ≡ token.Identifier → ⊥
not_close e = cc

not_bracket : token.LeftBracket ≡ token.Identifier → ⊥
not_bracket e = cc

not_func : token.Func ≡ token.Identifier → ⊥
not_func e = cc

not_struct : token.Struct ≡ token.Identifier → ⊥
not_struct e = cc

module _ (ts : List TokenKind) where
  abbrev IsName : ℕ → Type 0
  IsName x = (w : TokenKind) → IsAt ts x w → w ≡ token.Identifier

  own_none : (c : Context) (i : ℕ) → c.role ≡ role.Operand → declared_names (name_events c i c.role) ≡ []
  own_none c i e = ap (λ r. declared_names (name_events c i r)) e

  -- a result that begins with a name is a name
  result_names : (x : ℕ) → IsName x → (c : Context) (r : Tree) → Derives ts category.Result r → first r ≡ x → c.role ≡ role.Operand → declared_names (events c r) ≡ []
  result_names x f c (node kind.Name i j none) h e o =
      names_append (statement_events c.listed i j ++ name_events c i c.role) [] ∙ ap (λ ns. ns ++ []) (names_append (statement_events c.listed i j) (name_events c i c.role))
      ∙ ap (λ ns. (ns ++ declared_names (name_events c i c.role)) ++ []) (statement_names c.listed i j) ∙ ap (λ ns. ns ++ []) (own_none c i o)
  result_names x f c (node kind.Name i j (more p ps)) h e o = absurd h.1
  result_names x f c (node kind.Name i j (skip ps)) h e o = absurd h.1
  result_names x f c (node kind.SequenceType i j none) h e o = absurd h.1
  result_names x f c (node kind.SequenceType i j (more p ps)) h e o = absurd (not_bracket (f token.LeftBracket (subst (λ n. IsAt ts n token.LeftBracket) e h.1.0.0)))
  result_names x f c (node kind.SequenceType i j (skip ps)) h e o = absurd (not_bracket (f token.LeftBracket (subst (λ n. IsAt ts n token.LeftBracket) e h.1.1.0)))
  result_names x f c (node kind.FunctionType i j none) h e o = absurd h.1
  result_names x f c (node kind.FunctionType i j (more p ps)) h e o = absurd (not_func (f token.Func (subst (λ n. IsAt ts n token.Func) e h.1.0.0)))
  result_names x f c (node kind.FunctionType i j (skip ps)) h e o = absurd h.1
  result_names x f c (node kind.StructType i j none) h e o = absurd (not_struct (f token.Struct (subst (λ n. IsAt ts n token.Struct) e h.1.1.0)))
  result_names x f c (node kind.StructType i j (more p ps)) h e o = absurd (not_struct (f token.Struct (subst (λ n. IsAt ts n token.Struct) e h.1.1.0)))
  result_names x f c (node kind.StructType i j (skip ps)) h e o = absurd h.1
  result_names x f c (node kind.Results i j none) h e o = absurd (not_open (f token.LeftParenthesis (subst (λ n. IsAt ts n token.LeftParenthesis) e h.1.1.0)))
  result_names x f c (node kind.Results i j (more p ps)) h e o = absurd (not_open (f token.LeftParenthesis (subst (λ n. IsAt ts n token.LeftParenthesis) e h.1.1.0)))
  result_names x f c (node kind.Results i j (skip ps)) h e o = absurd h.1
  result_names x f c (node k i j ps) h e o = absurd (true_false false h.0 refl)

  -- between parentheses that enclose nothing there are no parameters
  pub record Empty (a : ℕ) (p : Tree) : Type 0 where
    pub ends : last p ≡ suc (suc a)
    pub names : (c : Context) → declared_names (events c p) ≡ []

  parameters_empty : (a : ℕ) → IsName (suc (suc a)) → (p : Tree) → Derives ts category.Parameters p → InOrder p → first p ≡ a → last p ≤ suc (suc (suc a)) → Empty a p
  parameters_empty a f (node kind.Parameters i j none) h o e le = record {
    ends = omega (arith, h.1.1.1, h.1.2.1, h.1.2.3, e);
    names = λ c. names_append (statement_events c.listed i j ++ []) [] ∙ ap (λ ns. ns ++ []) (names_append (statement_events c.listed i j) [] ∙ ap (λ ns. ns ++ []) (statement_names c.listed i j));
  }
  parameters_empty a f (node kind.Parameters i j (more p ps)) h o e le =
      let z = closes ts (last p) ps j h.1.4 o.1.2 in
      let at : z.0 ≡ suc (suc a) = omega (arith, z.1, z.3, le, tree_order p o.1.1, h.1.1.1, h.1.2, e) in
      absurd (not_close (f token.RightParenthesis (subst (λ n. IsAt ts n token.RightParenthesis) at z.2)))
  parameters_empty a f (node kind.Parameters i j (skip ps)) h o e le = absurd h.1
  parameters_empty a f (node k i j ps) h o e le = absurd (true_false false h.0 refl)

  signature_names : (a : ℕ) → IsName (suc (suc a)) → (s : Tree) → Derives ts category.Signature s → first s ≡ a → last s ≡ suc (suc (suc a)) → (c : Context) → declared_names (events c s) ≡ []
  signature_names a f (node kind.Signature i j none) h e l c = absurd h.1
  signature_names a f (node kind.Signature i j (skip ps)) h e l c = absurd h.1
  signature_names a f (node kind.Signature i j (more p none)) h e l c = absurd h.1.2
  signature_names a f (node kind.Signature i j (more p (more r (more q ps)))) h e l c = absurd h.1.2.2
  signature_names a f (node kind.Signature i j (more p (more r (skip ps)))) h e l c = absurd h.1.2.2
  signature_names a f (node kind.Signature i j (more p (skip (more q ps)))) h e l c = absurd h.1.2.3
  signature_names a f (node kind.Signature i j (more p (skip (skip ps)))) h e l c = absurd h.1.2.3
  signature_names a f (node kind.Signature i j (more p (skip none))) h e l c =
      let ps = more p (skip none) in
      let o : InOrder (node kind.Signature i j ps) = derives_ordered ts (node kind.Signature i j ps) category.Signature h in
      let z : Empty a p = parameters_empty a f p h.1.1 o.1.1 (sym h.1.0 ∙ e) (omega (arith, o.1.2, l)) in
      let inner : Context = enter (begin c kind.Signature) kind.Signature i j ps (ends_named ps) 0 p false in
      names_append (statement_events c.listed i j ++ []) (events inner p ++ [])
      ∙ ap (λ ns. ns ++ declared_names (events inner p ++ [])) (names_append (statement_events c.listed i j) [] ∙ ap (λ ns. ns ++ []) (statement_names c.listed i j))
      ∙ names_append (events inner p) [] ∙ ap (λ ns. ns ++ []) (z.names inner)
  signature_names a f (node kind.Signature i j (more p (more r none))) h e l c =
      let ps = more p (more r none) in
      let o : InOrder (node kind.Signature i j ps) = derives_ordered ts (node kind.Signature i j ps) category.Signature h in
      let in_r : first r < last r = tree_order r o.1.2.1 in
      let z : Empty a p = parameters_empty a f p h.1.1 o.1.1 (sym h.1.0 ∙ e) (omega (arith, o.1.2.0, in_r, o.1.2.2, l)) in
      let front : Context = begin c kind.Signature in
      let inner : Context = enter front kind.Signature i j ps (ends_named ps) 0 p true in
      let behind : Context = enter (pass front p) kind.Signature i j ps (ends_named ps) 1 r false in
      names_append (statement_events c.listed i j ++ []) (events inner p ++ (events behind r ++ []))
      ∙ ap (λ ns. ns ++ declared_names (events inner p ++ (events behind r ++ []))) (names_append (statement_events c.listed i j) [] ∙ ap (λ ns. ns ++ []) (statement_names c.listed i j))
      ∙ names_append (events inner p) (events behind r ++ []) ∙ ap (λ ns. ns ++ declared_names (events behind r ++ [])) (z.names inner)
      ∙ names_append (events behind r) [] ∙ ap (λ ns. ns ++ []) (result_names (suc (suc a)) f behind r h.1.2.1 (sym h.1.2.0 ∙ z.ends) refl)
  signature_names a f (node k i j ps) h e l c = absurd (true_false false h.0 refl)

-- ---- a function without a body

spells_int : (l : TokenList) (i : ℕ) → is_spelled l i read_byte ≡ true → word l (suc (suc (suc (suc i)))) ≡ codes "int"
spells_int l i e =
    let w : ℕ → List ℕ = word l in
    let a = and_both (same_text (w i) (codes "func")) (is_spelled l (suc i) (codes "readByte" ∷ codes "(" ∷ codes ")" ∷ codes "int" ∷ [])) e in
    let b = and_both (same_text (w (suc i)) (codes "readByte")) (is_spelled l (suc (suc i)) (codes "(" ∷ codes ")" ∷ codes "int" ∷ [])) a.1 in
    let c = and_both (same_text (w (suc (suc i))) (codes "(")) (is_spelled l (suc (suc (suc i))) (codes ")" ∷ codes "int" ∷ [])) b.1 in
    let d = and_both (same_text (w (suc (suc (suc i)))) (codes ")")) (is_spelled l (suc (suc (suc (suc i)))) (codes "int" ∷ [])) c.1 in
    same_text-true (w (suc (suc (suc (suc i))))) (codes "int") (and_both (same_text (w (suc (suc (suc (suc i))))) (codes "int")) true d.1).0

module _ (fs : List File) (h : AreRead fs) (faultless : reported (units_of fs) ≡ None) (n : ℕ) (f : File) (there : slice_get fs n ≡ Some f) (p : ℕ → Bool) where
  abbrev ts : List TokenKind
  ts = kinds f.tokens.tokens

  read_byte_there : (i j : ℕ) → IsBodiless i j (file_events f) → (j ≡ i + 5) × (word f.tokens (suc (suc (suc (suc i)))) ≡ codes "int")
  read_byte_there i j b =
      let us : List names.Unit = units_of fs in
      let hidden : Bool = declares (codes "int") (found us) in
      let none : bodiless hidden (0 + n) f.tokens (file_events f) ≡ [] = in_file hidden 0 n fs f there (none_missing us faultless) in
      let so : is_read_byte hidden f.tokens i j ≡ true = spelled_so hidden (0 + n) f.tokens i j (file_events f) none b in
      let both = and_both (nat_eq j (i + 5)) (is_spelled f.tokens i read_byte) (and_both (nat_eq j (i + 5) && is_spelled f.tokens i read_byte) (not hidden) so).0 in
      (same_test j (i + 5) both.0, spells_int f.tokens i both.1)

  declared_names_none : (i j : ℕ) (ps : Trees) → Sits ts p (node kind.FunctionDeclaration i j ps) → body_of (node kind.FunctionDeclaration i j ps) ≡ None
      → (before behind : List Event) → file_events f ≡ before ++ (events (file_context (last f.tree)) (node kind.FunctionDeclaration i j ps) ++ behind)
      → (s : Tree) → first_part (parts (without_body (node kind.FunctionDeclaration i j ps))) ≡ Some s → (c : Context) → declared_names (events c s) ≡ []
  declared_names_none i j none g none_body before behind w s e c = absurd g.derives.1
  declared_names_none i j (skip ps) g none_body before behind w s e c = absurd g.derives.1
  declared_names_none i j (more t none) g none_body before behind w s e c = absurd g.derives.1.2
  declared_names_none i j (more t (more b ps)) g none_body before behind w s e c = absurd cc
  declared_names_none i j (more t (skip (more q ps))) g none_body before behind w s e c = absurd g.derives.1.2.2
  declared_names_none i j (more t (skip (skip ps))) g none_body before behind w s e c = absurd g.derives.1.2.2
  declared_names_none i j (more t (skip none)) g none_body before behind w s e c =
      let ps = more t (skip none) in
      let tree = node kind.FunctionDeclaration i j ps in
      let read : IsRead f = read_at fs h n f there in
      let order = derives_ordered ts tree category.Declaration g.derives in
      let name : suc (suc i) ≡ first t = g.derives.1.0.1.1 in
      let end : last t ≡ j = g.derives.1.2.1 ∙ g.derives.1.2.2 in
      let lt : i < j = order.0 in
      let inside : List Event = events_of (begin (file_context (last f.tree)) kind.FunctionDeclaration) kind.FunctionDeclaration i j ps 0 ps in
      let own : IsBodiless i j (events (file_context (last f.tree)) tree) =
      subst (λ b. IsBodiless i j ((if b then function_events i j false else []) ++ inside)) (sym (lt-ltb i j lt)) (inl (refl, refl)) in
      let told : IsBodiless i j (file_events f) =
      subst (IsBodiless i j) (sym w) (bodiless_behind i j before (events (file_context (last f.tree)) tree ++ behind) (bodiless_front i j (events (file_context (last f.tree)) tree) behind own)) in
      let spelled = read_byte_there i j told in
      let ident : IsName ts (suc (suc (suc (suc i)))) = λ v at. int_at f.tokens read.lexing (suc (suc (suc (suc i)))) v spelled.1 at in
      let same : t ≡ s = same_some t s e in
      ap (λ z. declared_names (events c z)) (sym same)
      ∙ signature_names ts (suc (suc i)) ident t g.derives.1.1 (sym name) (let z : last t ≡ suc (suc (suc (suc (suc i)))) = omega (arith, end, spelled.0) in z) c

  pub bodiless_names : (t : Tree) → is_function (syntax.kind_of t) ≡ true → Sits ts p t → body_of t ≡ None → (before behind : List Event) → file_events f ≡ before ++ (events (file_context (last f.tree)) t ++ behind)
      → (s : Tree) → first_part (parts (without_body t)) ≡ Some s → (c : Context) → declared_names (events c s) ≡ []
  bodiless_names (node k i j ps) a g b before behind w s e c =
      let same : k ≡ kind.FunctionDeclaration = function_kind k a in
      declared_names_none i j ps (subst (λ x. Sits ts p (node x i j ps)) same g) (subst (λ x. body_of (node x i j ps) ≡ None) same b) before behind
      (subst (λ x. file_events f ≡ before ++ (events (file_context (last f.tree)) (node x i j ps) ++ behind)) same w) s
      (subst (λ x. first_part (parts (without_body (node x i j ps))) ≡ Some s) same e) c
