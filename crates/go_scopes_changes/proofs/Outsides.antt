-- What a file tells outside of its functions is what a file with an equal head tells there, with other places of tokens.
use Rattle.std.proofs.Common.{◌≡◌, ◌∙◌, ℕ, zero, suc, ◌-◌, ◌<◌, ◌≤◌, inl, inr, ◌⊎◌, Bool, true, false, List, [], ◌∷◌, map, length, refl, sym, ap, subst, arith}
use Rattle.std.specs.Prelude.{if◌then◌else◌, ◌||◌}
use Rattle.go_tokens.specs.declared.token.TokenKind.{TokenKind}
use Rattle.go_tokens.specs.declared.token.TokenKind.TheVariants as token
use Rattle.go_grammar.specs.declared.kind.Category.TheVariants as category
use Rattle.go_grammar.specs.declared.kind.Kind.TheVariants as kind
use Rattle.go_grammar.specs.declared.kind.Place.TheVariants as place
use Rattle.go_grammar.specs.Grammar.{IsFile, rule, Derives, Spells, Goes}
use Rattle.go_grammar.specs.Rules.{Items, Each, Many}
use Rattle.go_grammar.specs.Trees.{Tree, node, Trees, none, more, skip, kind_of, first, last, parts}
use Rattle.go_rewriting.specs.Lists.{InOrder, Ordered}
use Rattle.go_rewriting.specs.Places.{carry, carries}
use Rattle.go_rewriting.proofs.Public.{derives_ordered, goes_ordered, spells_ordered, tree_order, row_order}
use Rattle.go_tree.specs.declared.context.Context.{Context}
use Rattle.go_tree.specs.Events.{events}
use Rattle.go_tree.specs.Lists.{is_function}
use Rattle.go_scopes_events.proofs.Public.{IsInner, derives_inner, spells_inner, rule_inner, true_false}
use Rattle.go_heads.specs.Heads.{in_bodies, is_within, place_outside}
use Rattle.go_heads.proofs.Public.{AllSit, OthersSit, Sits, file_sat, place_next, plain_none, row_before}
use Rattle.go_scopes_bodies.specs.Carried.{KeepsNames, AllKeepNames, carried_context, carried_event}
use Rattle.go_scopes_bodies.specs.Outside.{no_functions, without_functions}
use Rattle.go_scopes_changes.proofs.Places.{token_from, token_at_place}
use Rattle.go_scopes_changes.proofs.Trees.{tree_fixed, names_kept}

-- the law on trees whose tokens stand elsewhere
abbrev pub CarriedTell : Type 0
CarriedTell = (v : ℕ → ℕ) (c : Context) (t : Tree) → KeepsNames v t → events (carried_context v c) (carry v t) ≡ map (carried_event v) (events c t)

-- the token behind the one at a place
abbrev pub behind_one : (ℕ → ℕ) → ℕ → ℕ
behind_one u zero = zero
behind_one u (suc k) = suc (u k)

abbrev pub lines : Items
lines = Each category.Declaration (token.Semicolon ∷ []) []

-- ---- tokens that stay

module _ (ts : List TokenKind) (p : ℕ → Bool) (z : ℕ) where
  abbrev m : ℕ → ℕ
  m = place_outside p

  abbrev u : ℕ → ℕ
  u = token_from p 0 z

  -- the token in front is outside
  pub record Behind (n : ℕ) : Type 0 where
    pub token : ℕ
    pub next : n ≡ suc token
    pub outside : p token ≡ false

  pub record Stays (n : ℕ) : Type 0 where
    pub at : u (m n) ≡ n
    pub behind : behind_one u (m n) ≡ n

  behind_stays : (n : ℕ) → n ≤ z → Behind n → behind_one u (m n) ≡ n
  behind_stays n le b =
      ap (λ x. behind_one u (m x)) b.next
      ∙ ap (behind_one u) (place_next p b.token b.outside)
      ∙ ap suc (token_at_place p z b.token (omega (arith, le, b.next)) (inr b.outside))
      ∙ sym b.next

  stays : (n : ℕ) → n ≤ z → p n ≡ false → Behind n → Stays n
  stays n le e b = record { at = token_at_place p z n le (inr e); behind = behind_stays n le b }

  ends_stay : (n : ℕ) → n ≡ z → Behind n → Stays n
  ends_stay n e b = record { at = token_at_place p z n (omega (arith, e)) (inl e); behind = behind_stays n (omega (arith, e)) b }

  -- the tokens of a part that is clear, and the end
  abbrev pub AllStay : Tree → Type 0
  AllStay d = (n : ℕ) → first d ≤ n → n ≤ last d → Stays n

  clear_stay : (d : Tree) → InOrder d → last d ≤ z → ((n : ℕ) → first d ≤ n → n < last d → p n ≡ false) → p (last d) ≡ false → Behind (first d) → AllStay d
  clear_stay d o le clear end begins n lo hi = stays n (omega (arith, hi, le)) (outside_at (order n (last d))) (behind_at (order (first d) n))
    where
      order : (a b : ℕ) → (a < b) ⊎ (b < a) ⊎ (a ≡ b)
      order a b = grind arith

      outside_at : (n < last d) ⊎ (last d < n) ⊎ (n ≡ last d) → p n ≡ false
      outside_at (inl lt) = clear n lo lt
      outside_at (inr (inl gt)) = absurd (omega (arith, gt, hi))
      outside_at (inr (inr e)) = ap p e ∙ end

      behind_at : (first d < n) ⊎ (n < first d) ⊎ (first d ≡ n) → Behind n
      behind_at (inl lt) = record { token = n - 1; next = omega (arith, lt); outside = clear (n - 1) (omega (arith, lt)) (omega (arith, hi, lt)) }
      behind_at (inr (inl gt)) = absurd (omega (arith, gt, lo))
      behind_at (inr (inr e)) = subst Behind e begins

  abbrev pub RowStays : Trees → Type 0
  RowStays none = Unit {0}
  RowStays (skip ps) = RowStays ps
  RowStays (more d ds) = (is_function (kind_of d) ≡ false → AllStay d) × RowStays ds

  sits_stay : (d : Tree) → last d ≤ z → Sits ts p d → Behind (first d) → is_function (kind_of d) ≡ false → AllStay d
  sits_stay d le s b e =
      clear_stay d (derives_ordered ts d category.Declaration s.derives) le (λ n lo hi. s.own n lo hi ∙ ap (λ o. is_within o n) (plain_none d e)) s.clear b

  goes_stay : (ps : Trees) (i j : ℕ) → j ≤ z → AllSit ts p ps → Goes ts lines i ps j → p i ≡ false → RowStays ps × Behind j
  goes_stay none i j le s (inl h) e = absurd h
  goes_stay none i j le s (inr h) e = (tt, record { token = i; next = sym (h.1.1 ∙ h.2); outside = e })
  goes_stay (more d ds) i j le s h e =
      let rest = goes_stay ds (last d) j le s.1 h.4 s.0.clear in
      let others : Ordered (last d) ds j = goes_ordered ts ds lines (last d) j h.4 in
      let behind : last d ≤ j = row_order ds (last d) j others in
      let b : Behind (first d) = record { token = i; next = sym (h.1.1 ∙ h.2); outside = e } in
      ((sits_stay d (omega (arith, behind, le)) s.0 b, rest.0), rest.1)
  goes_stay (skip ps) i j le s h e = absurd h

  rows_stay : (ps : Trees) (i j : ℕ) → j ≤ z → AllSit ts p ps → Spells ts (Many [] lines) i ps j → Behind i → RowStays ps × Behind j
  rows_stay none i j le s h b = (tt, subst Behind (h.1 ∙ h.2) b)
  rows_stay (more d ds) i j le s h b =
      let rest = goes_stay ds (last d) j le s.1 h.4 s.0.clear in
      let others : Ordered (last d) ds j = goes_ordered ts ds lines (last d) j h.4 in
      let behind : last d ≤ j = row_order ds (last d) j others in
      ((sits_stay d (omega (arith, behind, le)) s.0 (subst Behind (h.1 ∙ h.2) b), rest.0), rest.1)
  rows_stay (skip ps) i j le s h b = absurd h

  -- ---- trees that stay

  module _ (w : ℕ → ℕ) (by : (n : ℕ) → Stays n → w n ≡ n) where
    part_or : (d : Tree) (ds es : Trees) (b : Bool) → is_function (kind_of d) ≡ b → InOrder d → (is_function (kind_of d) ≡ false → AllStay d) → carries w ds ≡ es
        → carries w (if b then skip ds else more d ds) ≡ (if b then skip es else more d es)
    part_or d ds es true e o s h = ap skip h
    part_or d ds es false e o s h = ap (λ x. more x (carries w ds)) (tree_fixed w d o (λ n lo hi. by n (s e n lo hi))) ∙ ap (more d) h

    row_same : (ps : Trees) → AllSit ts p ps → RowStays ps → carries w (no_functions ps) ≡ no_functions ps
    row_same none s h = refl
    row_same (skip ps) s h = ap skip (row_same ps s h)
    row_same (more d ds) s h = part_or d (no_functions ds) (no_functions ds) (is_function (kind_of d)) refl (derives_ordered ts d category.Declaration s.0.derives) h.0 (row_same ds s.1 h.1)

    file_same : (i j : ℕ) (ps : Trees) → OthersSit ts p ps → RowStays ps → w i ≡ i → Stays j → carry w (node kind.File i j (no_functions ps)) ≡ node kind.File i j (no_functions ps)
    file_same i j ps o h e s = ap (λ x. node kind.File x (w j) (carries w (no_functions ps))) e ∙ ap (λ x. node kind.File i x (carries w (no_functions ps))) (by j s) ∙ ap (node kind.File i j) (row ps o h)
      where
        row : (ps : Trees) → OthersSit ts p ps → RowStays ps → carries w (no_functions ps) ≡ no_functions ps
        row none o h = refl
        row (skip ps) o h = ap skip (row_same ps o h)
        row (more d ds) o h = part_or d (no_functions ds) (no_functions ds) (is_function (kind_of d)) refl o.1 h.0 (row_same ds o.3 h.1)

  -- ---- names of functions

  inner_part : (d : Tree) → Derives ts category.Declaration d → is_function (kind_of d) ≡ false → IsInner d
  inner_part (node kind.FunctionDeclaration i j ps) h e = absurd (true_false true refl e)
  inner_part (node (kind.Declaration s) i j ps) h e = (refl, spells_inner ts ps (rule place.Free (kind.Declaration s)) i j (rule_inner place.Free (kind.Declaration s) refl) h.1)
  inner_part (node k i j ps) h e = absurd (true_false false h.0 refl)

  module _ (v : ℕ → ℕ) where
    kept_or : (d : Tree) (ds : Trees) (b : Bool) → is_function (kind_of d) ≡ b → (is_function (kind_of d) ≡ false → IsInner d) → AllKeepNames v ds → AllKeepNames v (if b then skip ds else more d ds)
    kept_or d ds true e x h = h
    kept_or d ds false e x h = (names_kept v d (x e), h)

    row_keeps : (ps : Trees) → AllSit ts p ps → AllKeepNames v (no_functions ps)
    row_keeps none s = tt
    row_keeps (skip ps) s = row_keeps ps s
    row_keeps (more d ds) s = kept_or d (no_functions ds) (is_function (kind_of d)) refl (inner_part d s.0.derives) (row_keeps ds s.1)

-- ---- the tree of a file

-- Outside of functions the tree keeps names, and stays where the tokens of the heads' places do.
pub record IsOutsideTree (ts : List TokenKind) (t : Tree) : Type 0 where
  pub keeps : (v : ℕ → ℕ) → KeepsNames v (without_functions t)
  pub at : carry (λ n. token_from (in_bodies (parts t)) 0 (length ts) (place_outside (in_bodies (parts t)) n)) (without_functions t) ≡ without_functions t
  pub behind : carry (λ n. behind_one (token_from (in_bodies (parts t)) 0 (length ts)) (place_outside (in_bodies (parts t)) n)) (without_functions t) ≡ without_functions t

module _ (ts : List TokenKind) where
  by_parts : (j : ℕ) (ps : Trees) → j ≡ length ts → OthersSit ts (in_bodies ps) ps → ((v : ℕ → ℕ) → AllKeepNames v (no_functions ps))
      → RowStays ts (in_bodies ps) (length ts) ps → Behind ts (in_bodies ps) (length ts) j → in_bodies ps 0 ≡ false
      → IsOutsideTree ts (node kind.File 0 j ps)
  by_parts j ps e o k r b c =
      let z : ℕ = length ts in
      let p : ℕ → Bool = in_bodies ps in
      record {
        keeps = λ v. (tt, k v);
        at = file_same ts p z (λ n. token_from p 0 z (place_outside p n)) (λ n s. s.at) 0 j ps o r (token_at_place p z 0 (omega arith) (inr c)) (ends_stay ts p z j e b);
        behind = file_same ts p z (λ n. behind_one (token_from p 0 z) (place_outside p n)) (λ n s. s.behind) 0 j ps o r refl (ends_stay ts p z j e b);
      }

  pub outside_tree : (t : Tree) → IsFile ts t → IsOutsideTree ts t
  outside_tree (node kind.File i j none) f = absurd f.derives.1
  outside_tree (node kind.File i j (skip ds)) f =
      let p : ℕ → Bool = in_bodies ds in
      let h = f.derives.1 in
      let sat : AllSit ts p ds = file_sat ts (node kind.File i j (skip ds)) f in
      let others : Ordered h.0 ds j = spells_ordered ts ds (Many [] lines) h.0 j h.2 in
      let three : suc (suc (suc i)) ≡ h.0 = h.1.1.1.1 in
      let ends : j ≡ length ts = f.ends in
      let b : Behind ts p (length ts) h.0 = record { token = suc (suc i); next = sym three; outside = row_before ds h.0 j (suc (suc i)) others (omega (arith, three)) } in
      let r = rows_stay ts p (length ts) ds h.0 j (omega (arith, ends)) sat h.2 b in
      let zero_i : i ≡ 0 = f.begins in
      subst (λ x. IsOutsideTree ts (node kind.File x j (skip ds))) (sym zero_i)
      (by_parts j (skip ds) ends sat (λ v. row_keeps ts p (length ts) v ds sat) r.0 r.1 (row_before ds h.0 j 0 others (omega arith)))
  outside_tree (node kind.File i j (more d ds)) f =
      let p : ℕ → Bool = in_bodies (more d ds) in
      let h = f.derives.1 in
      let sat : OthersSit ts p (more d ds) = file_sat ts (node kind.File i j (more d ds)) f in
      let others : Ordered (last d) ds j = spells_ordered ts ds (Many [] lines) (last d) j h.2 in
      let whole : Ordered (first d) (more d ds) j = (omega arith, sat.1, others) in
      let three : suc (suc (suc i)) ≡ first d = h.0.1.1.1 in
      let in_d : first d < last d = tree_order d sat.1 in
      let ends : j ≡ length ts = f.ends in
      let behind : last d ≤ j = row_order ds (last d) j others in
      let begins : Behind ts p (length ts) (first d) = record { token = suc (suc i); next = sym three; outside = row_before (more d ds) (first d) j (suc (suc i)) whole (omega (arith, three)) } in
      let clear_end : p (last d) ≡ false = ap (λ o. is_within o (last d) || in_bodies ds (last d)) (plain_none d sat.0) ∙ row_before ds (last d) j (last d) others (omega arith) in
      let b : Behind ts p (length ts) (last d) = record { token = last d - 1; next = omega (arith, in_d); outside = sat.2 (last d - 1) (omega (arith, in_d)) (omega (arith, in_d)) } in
      let r = rows_stay ts p (length ts) ds (last d) j (omega (arith, ends)) sat.3 h.2 b in
      let stay : AllStay ts p (length ts) d = clear_stay ts p (length ts) d sat.1 (omega (arith, behind, ends)) sat.2 clear_end begins in
      let zero_i : i ≡ 0 = f.begins in
      subst (λ x. IsOutsideTree ts (node kind.File x j (more d ds))) (sym zero_i)
      (by_parts j (more d ds) ends sat
      (λ v. kept_or ts p (length ts) v d (no_functions ds) (is_function (kind_of d)) refl (λ e. derives_inner ts d category.Imports refl h.1) (row_keeps ts p (length ts) v ds sat.3))
      ((λ e. stay), r.0) r.1 (row_before (more d ds) (first d) j 0 whole (omega arith)))
  outside_tree (node k i j ps) f = absurd (true_false false f.derives.0 refl)
