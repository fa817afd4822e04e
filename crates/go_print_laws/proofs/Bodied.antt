-- Functions are declarations over their tokens.
use Rattle.std.proofs.Common.{◌≡◌, inr, ℕ, zero, suc, ◌+◌, ◌-◌, ◌<◌, ◌≤◌, Bool, true, List, [], ◌∷◌, ◌++◌, length, refl, sym, ap, ◌∙◌, subst, codes, arith}
use Rattle.std.specs.Prelude.{slice_get}
use Rattle.go_tokens.specs.declared.token.TokenKind.{TokenKind}
use Rattle.go_tokens.specs.declared.token.TokenKind.TheVariants as token
use Rattle.go_grammar.specs.declared.kind.Kind.TheVariants as kind
use Rattle.go_grammar.specs.declared.kind.Place.TheVariants as place
use Rattle.go_grammar.specs.declared.kind.Category.TheVariants as category
use Rattle.go_grammar.specs.Rules.{Items, Many, item}
use Rattle.go_grammar.specs.Trees.{Tree, node, Trees, none, more, skip, first, last, depth, onto}
use Rattle.go_grammar.specs.Words.{is_word, is_among}
use Rattle.go_grammar.specs.Grammar.{result_words, IsAt, Words, Only, Derives, Spells, Goes}
use Rattle.go_rewriting.specs.Excerpts.{is_plain}
use Rattle.go_rewriting.specs.Lists.{no_clause, in_block, Elsewhere}
use Rattle.go_rewriting.specs.Places.{carries, IsDeclaration}
use Rattle.go_rewriting.specs.Replacing.{moved, Edge, Run}
use Rattle.go_print_laws.specs.Lexemes.{Lexeme, words}
use Rattle.go_print_laws.specs.Types.{semicolon, right_brace}
use Rattle.go_print_laws.specs.Trees.{name_at}
use Rattle.go_print_laws.specs.Calls.{names_behind, names_end}
use Rattle.go_print_laws.specs.Headers.{Header, header_lexemes, header_tree, signature_tree}
use Rattle.go_print_laws.specs.Functions.{Function, Statements, returning_lexemes, function_words, return_tree, returning_trees, returning_end, block_tree, function_tree}
use Rattle.go_print_laws.proofs.Standing.{one_on}
use Rattle.go_print_laws.proofs.Called.{names_spelled}
use Rattle.go_print_laws.proofs.Headed.{header_derives}

-- that runs of items stand elsewhere too
abbrev pub RunsStand : Type 0
RunsStand = (ts us : List TokenKind) (i j to : ℕ) → Elsewhere ts us i j to → (l : Items) (new : Trees) → no_clause (item l) ≡ true → Run ts l new i j → Run us l (carries (moved i to) new) to (moved i to j)

-- ---- words at their places

whole : (ws : List TokenKind) → Words ws 0 ws (length ws)
whole [] = refl
whole (w ∷ ws) = (refl, one_on w ws 0 (length ws) ws (whole ws))

-- the place behind words
abbrev past : ℕ → List TokenKind → ℕ
past i [] = i
past i (u ∷ us) = past (suc i) us

past_is : (i : ℕ) (us : List TokenKind) → past i us ≡ length us - 0 + i
past_is i [] = omega arith
past_is i (u ∷ us) = past_is (suc i) us ∙ omega arith

split : (ts us vs : List TokenKind) (i j : ℕ) → Words ts i (us ++ vs) j → Words ts (past i us) vs j
split ts [] vs i j s = s
split ts (u ∷ us) vs i j s = split ts us vs (suc i) j s.1

got_behind : (us vs : List TokenKind) (n j : ℕ) → j ≡ length us + n → slice_get (us ++ vs) j ≡ slice_get vs n
got_behind [] vs n j e = let same : j ≡ n = omega arith in ap (slice_get vs) same
got_behind (u ∷ us) vs n zero e = absurd (omega arith)
got_behind (u ∷ us) vs n (suc j) e = got_behind us vs n j (omega arith)

-- ---- a run in a block

module _ (ts : List TokenKind) where
  nothing : (i j : ℕ) → j ≡ i → Only ts token.Semicolon i j
  nothing i j e = record { order = omega arith; each = λ k a b. absurd (omega arith) }

  -- items with others behind them, the first of which begins here
  abbrev Begun : Trees → Trees → ℕ → ℕ → Type 0
  Begun none rest i b = ⊥
  Begun (more p ps) rest i b = (first p ≡ i) × Derives ts category.Statement p × Goes ts in_block (last p) (onto ps rest) b
  Begun (skip ps) rest i b = ⊥

  begun : (new rest : Trees) (i j b : ℕ) → Run ts in_block new i j → Goes ts in_block j rest b → Begun new rest i b
  begun none rest i j b r h = absurd r
  begun (skip ps) rest i j b r h = absurd r
  begun (more p none) rest i j b r h = (r.0, r.1, subst (λ n. Goes ts in_block n rest b) (sym r.2) h)
  begun (more p (skip qs)) rest i j b r h = absurd r
  begun (more p (more q qs)) rest i j b r h = let g = begun (more q qs) rest (first q) j b r.5 h in (r.0, r.1, (r.2, r.3, r.4, g.1, g.2))

  blocked : (new rest : Trees) (k b : ℕ) → IsAt ts k token.LeftBrace → Begun new rest (suc k) b → Spells ts (Many (token.LeftBrace ∷ []) in_block) k (onto new rest) b
  blocked none rest k b h g = absurd g
  blocked (skip ps) rest k b h g = absurd g
  blocked (more p ps) rest k b h g = (suc k, (h, refl), nothing (suc k) (first p) g.0, g.1, g.2)

  -- ---- what is returned

  closed : (m b : ℕ) → IsAt ts m token.Semicolon → IsAt ts (suc m) token.RightBrace → b ≡ suc (suc m) → Goes ts in_block m none b
  closed m b h k e = inr (suc m, (h, refl), (suc m, nothing (suc m) (suc m) refl, k, sym e))

  returning : (xs : List (List ℕ)) (m j : ℕ) → IsAt ts m token.Semicolon → Words ts (suc m) (words (returning_lexemes xs (right_brace ∷ semicolon ∷ []))) j
      → Goes ts in_block m (returning_trees (suc m) xs) (suc (returning_end (suc m) xs)) × IsAt ts (suc (returning_end (suc m) xs)) token.Semicolon × (suc (suc (returning_end (suc m) xs)) ≡ j)
  returning [] m j h s = (closed m (suc (suc m)) h s.0 refl, s.1.0, s.1.1)
  returning (x ∷ xs) m j h s =
      let i = suc m in
      let n = names_spelled ts xs (suc (suc i)) j (semicolon ∷ right_brace ∷ semicolon ∷ []) s.1.1 in
      let e = names_end (suc (suc i)) xs in
      let list : Derives ts (category.ExpressionList place.Free) (node kind.ExpressionList (suc i) e (more (name_at (suc i)) (names_behind (suc (suc i)) xs))) = (refl, (refl, (refl, (s.1.0, refl), refl, refl), n.0), refl, refl) in
      let statement : Derives ts category.Statement (return_tree i xs) = (refl, ((s.0, refl), list, refl), refl, refl) in
      ((i, (h, refl), nothing i i refl, statement, closed e (suc (suc e)) n.1.0 n.1.1.0 refl), n.1.1.1.0, n.1.1.1.1)

-- ---- the function

module _ (elsewhere : RunsStand) (name : ℕ → List ℕ) (f : Function) (ws : List TokenKind) where
  abbrev header : List TokenKind
  header = words (header_lexemes name f.header [])

  abbrev behind_statements : List TokenKind
  behind_statements = token.Semicolon ∷ words (returning_lexemes f.returned (right_brace ∷ semicolon ∷ []))

  abbrev behind_header : List TokenKind
  behind_header = token.LeftBrace ∷ (ws ++ behind_statements)

  abbrev ts : List TokenKind
  ts = header ++ behind_header

  abbrev k : ℕ
  k = last (header_tree 0 f.header)

  there : k ≡ length header → (n : ℕ) → slice_get ts (moved 0 (suc k) n) ≡ slice_get (ws ++ behind_statements) n
  there e n = got_behind header behind_header (suc n) (moved 0 (suc k) n) (omega arith)

  statements_there : k ≡ length header → Elsewhere (ws ++ behind_statements) ts 0 (length ws) (suc k)
  statements_there e = record {
    same = λ n a b. there e n;
    edge = record {
      brace = λ h. ap (λ w. is_word w token.LeftBrace) (sym (there e (length ws))) ∙ h;
      result = λ n next at h. ap (λ w. is_among w result_words) (sym (there e (length ws))) ∙ h;
    };
  }

  pub function_derives : (file : ℕ) (new : Trees) → Statements file f.body ws new → depth (function_tree f (length ws) new) ≤ 100 → IsDeclaration ts (function_tree f (length ws) new)
  function_derives file new b shallow =
      let h = header_derives name f.header behind_header refl in
      let s = subst (λ n. Words ts n behind_header (length ts)) (past_is 0 header ∙ omega (arith, h.1)) (split ts header behind_header 0 (length ts) (whole ts)) in
      let at = subst (λ n. Words ts n behind_statements (length ts)) (past_is (suc k) ws) (split ts ws behind_statements (suc k) (length ts) s.1) in
      let m = moved 0 (suc k) (length ws) in
      let run : Run ts in_block (carries (moved 0 (suc k)) new) (suc k) m =
      elsewhere (ws ++ behind_statements) ts 0 (length ws) (suc k) (statements_there h.1) in_block new refl (b.run behind_statements refl) in
      let r = returning ts f.returned m (length ts) at.0 at.1 in
      let block : Derives ts category.Block (block_tree k (length ws) new f.returned) = (
        refl,
        blocked ts (carries (moved 0 (suc k)) new) (returning_trees (suc m) f.returned) k (suc (returning_end (suc m) f.returned)) s.0
            (begun ts (carries (moved 0 (suc k)) new) (returning_trees (suc m) f.returned) (suc k) m (suc (returning_end (suc m) f.returned)) run r.0),
        refl,
        refl,
      ) in
      record {
        derives = (refl, (h.0.1.0, h.0.1.1, (refl, block, refl)), refl, refl);
        begins = refl;
        closed = r.1;
        all = sym r.2;
        shallow = shallow;
      }
