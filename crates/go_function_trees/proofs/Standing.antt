-- The statement lists of a typed function stand in the tree of its file.
use Rattle.std.proofs.Common.{◌≡◌, ◌∙◌, ℕ, zero, suc, ◌-◌, ◌<◌, ◌≤◌, Bool, true, false, if◌then◌else◌, List, [], ◌∷◌, ◌++◌, drop, map, Some, refl, sym, ap, subst, arith}
use Rattle.std.specs.List.{AllByRecursion}
use Rattle.go_grammar.specs.declared.kind.Category.{Category}
use Rattle.go_grammar.specs.declared.kind.Category.TheVariants as categories
use Rattle.go_grammar.specs.declared.kind.Kind.TheVariants as kind
use Rattle.go_grammar.specs.Categories.{place_of}
use Rattle.go_grammar.specs.Grammar.{rule, Derives}
use Rattle.go_grammar.specs.Trees.{Tree, node, Trees, none, more, skip, kind_of, first, last, parts}
use Rattle.go_tokens.specs.declared.token.TokenKind.{TokenKind}
use Rattle.go_rewriting.specs.Lists.{Subtree, items_at}
use Rattle.go_rewriting.specs.Replacing.{subtree_at, asked_at}
use Rattle.go_rewriting.specs.Sites.{items, is_clear}
use Rattle.go_types.specs.Trees.{TypeTree}
use Rattle.go_types_relations.specs.Renaming.{renamed}
use Rattle.go_typed.specs.declared.form.Form.{Form}
use Rattle.go_typed.specs.Forms.{is_statement_list, values_count}
use Rattle.go_typed.specs.Lists.{present, statements_of, statement_lists, lists_among, own_list}
use Rattle.go_typed.specs.Trees.{Typed, typed, Typeds, Label, first_of, last_of, form_of, mapped, all_mapped, label_mapped}
use Rattle.go_typed.specs.Trees as sort
use Rattle.go_exprs_rules.specs.Settling.{Part}
use Rattle.go_stmts_defs.specs.Bodies.{based, all_based}
use Rattle.go_function_trees.specs.Lists.{parts_behind, statements_from, StandOver, AreRead, ListStands}
use Rattle.go_function_trees.proofs.Listed.{OfList, Lists, AllLists, differ}
use Rattle.go_function_trees.proofs.Based.{From, some-same, clear-in-part, subtree-based, asked-based, clear-based, behind-based, based-kind, based-first, based-last, based-parts, subtree-part, asked-part, ordered-from, behind-from}
use Rattle.go_function_trees.proofs.Stood.{AreParts, Stood}

-- ---- over other words for types

module _ {T U : Type 0} (g : T → U) where
  pub first-mapped : (x : Typed T) → first_of (mapped g x) ≡ first_of x
  first-mapped (typed f i j l ps) = refl

  pub last-mapped : (x : Typed T) → last_of (mapped g x) ≡ last_of x
  last-mapped (typed f i j l ps) = refl

  pub present-mapped : (ps : Typeds T) → present (all_mapped g ps) ≡ map (mapped g) (present ps)
  present-mapped sort.none = refl
  present-mapped (sort.more p ps) = ap (λ xs. mapped g p ∷ xs) (present-mapped ps)
  present-mapped (sort.skip ps) = present-mapped ps

  pub drop-mapped : (n : ℕ) (xs : List (Typed T)) → drop n (map (mapped g) xs) ≡ map (mapped g) (drop n xs)
  drop-mapped zero xs = refl
  drop-mapped (suc n) [] = refl
  drop-mapped (suc n) (x ∷ xs) = drop-mapped n xs

  pub statements-mapped : (f : Form) (i j : ℕ) (l : Label T) (ps : Typeds T) → statements_of (mapped g (typed f i j l ps)) ≡ map (mapped g) (drop (values_count f) (present ps))
  statements-mapped f i j l ps = ap (drop (values_count f)) (present-mapped ps) ∙ drop-mapped (values_count f) (present ps)

-- ---- each list

pub all-both : {A : Type 0} (P : A → Type 0) (xs ys : List A) → AllByRecursion P xs → AllByRecursion P ys → AllByRecursion P (xs ++ ys)
all-both P [] ys h k = k
all-both P (x ∷ xs) ys h k = (h.0, all-both P xs ys h.1 k)

module _ (P : OfList) (Q : Part → Type 0) (g : TypeTree → TypeTree) (step : (f : Form) (i j : ℕ) (l : Label TypeTree) (ps : Typeds TypeTree) → P f i j ps → Q (mapped g (typed f i j l ps))) where
  own-each : (x : Part) (b : Bool) → (b ≡ true → Q x) → AllByRecursion Q (if b then x ∷ [] else [])
  own-each x true h = (h refl, tt)
  own-each x false h = tt

  mutual
    pub lists-each : (x : Part) → Lists P x → AllByRecursion Q (statement_lists (mapped g x))
    lists-each (typed f i j l ps) h =
        all-both Q (own_list (mapped g (typed f i j l ps))) (lists_among (all_mapped g ps)) (own-each (mapped g (typed f i j l ps)) (is_statement_list f) (λ e. step f i j l ps (h.0 e).1)) (all-lists-each ps h.1)

    all-lists-each : (ps : Typeds TypeTree) → AllLists P ps → AllByRecursion Q (lists_among (all_mapped g ps))
    all-lists-each sort.none h = tt
    all-lists-each (sort.more p ps) h = all-both Q (statement_lists (mapped g p)) (lists_among (all_mapped g ps)) (lists-each p h.0) (all-lists-each ps h.1)
    all-lists-each (sort.skip ps) h = all-lists-each ps h

-- ---- statements

module _ (name : ℕ → ℕ) (b : ℕ) where
  abbrev g : Part → Part
  g = mapped (renamed name)

  pub stand-over : (qs : Trees) (xs : List Part) → From b qs → AreParts (all_based b qs) xs → StandOver b qs (map g xs)
  stand-over none [] u h = tt
  stand-over none (x ∷ xs) u h = absurd h
  stand-over (more p ps) [] u h = absurd h
  stand-over (more p ps) (x ∷ xs) u h =
      let begins : first_of (g x) ≡ first p - b = first-mapped (renamed name) x ∙ (h.0.0 ∙ based-first b p) in
      let ends : last_of (g x) ≡ last p - b = last-mapped (renamed name) x ∙ (h.0.1 ∙ based-last b p) in
      (omega (arith, begins, u.0), omega (arith, ends, u.1), stand-over ps xs u.2 h.1)
  stand-over (skip ps) xs u h = absurd h

  pub are-read : (qs : Trees) (xs : List Part) → AreParts (all_based b qs) xs → AreRead name b qs (map g xs)
  are-read none [] h = tt
  are-read none (x ∷ xs) h = absurd h
  are-read (more p ps) [] h = absurd h
  are-read (more p ps) (x ∷ xs) h = let r = h.0.2 in (record { frame = r.frame; hint = r.hint; is = ap g r.is; faultless = r.faultless }, are-read ps xs h.1)
  are-read (skip ps) xs h = absurd h

-- what stands at the end of a path is derived, and its parts lie in order
abbrev pub SubtreesStand : Type 0
SubtreesStand = (ts : List TokenKind) (c : Category) (t s : Tree) (path : List ℕ) → Derives ts c t → subtree_at path t ≡ Some s → Subtree ts c t path s

-- a declaration of a file
pub record IsDeclared (t : Tree) (d : Tree) : Type 0 where
  pub tokens : List TokenKind
  pub derives : Derives tokens categories.File t
  pub part : ℕ
  pub at_path : subtree_at (part ∷ []) t ≡ Some d
  pub asked : asked_at categories.File (part ∷ []) t ≡ Some categories.Declaration

file-clear : (d t : Tree) (path : List ℕ) (n f m : ℕ) (new : Trees) (ts : List TokenKind) → Derives ts categories.File t → subtree_at (n ∷ []) t ≡ Some d → is_clear (n ∷ path) (items f m new) t ≡ is_clear path (items f m new) d
file-clear d (node kind.File i j ps) path zero f m new ts h e = clear-in-part d path f m new zero ps e
file-clear d (node kind.File i j ps) path (suc n) f m new ts h e = clear-in-part d path f m new (suc n) ps e
file-clear d (node k i j ps) path n f m new ts h e = absurd (differ h.0)

module _ (law : SubtreesStand) (t d : Tree) (at : IsDeclared t d) (name : ℕ → ℕ) where
  -- the declaration itself is derived
  pub declaration-derives : Derives at.tokens categories.Declaration d
  declaration-derives =
      let s = law at.tokens categories.File t d (at.part ∷ []) at.derives at.at_path in
      subst (λ c. Derives at.tokens c d) (some-same s.category categories.Declaration (sym s.asked ∙ at.asked)) s.derives

  pub list-stands : (f : Form) (i j : ℕ) (l : Label TypeTree) (qs : Typeds TypeTree) → Stood categories.Declaration (based (first d) d) f i j qs
      → ListStands t (first d) (mapped (renamed name) (typed f i j l qs))
  list-stands f i j l qs h =
      let b : ℕ = first d in
      let x = subtree-based b h.path d h.stood h.at_path in
      let s : Tree = x.tree in
      let same : h.stood ≡ based b s = x.is in
      let sub = law at.tokens categories.Declaration d s h.path declaration-derives x.there in
      let kinds : kind_of h.stood ≡ kind_of s = ap kind_of same ∙ based-kind b s in
      let begins : i ≡ first s - b = sym h.begins ∙ (ap first same ∙ based-first b s) in
      let ends : j ≡ last s - b = sym h.ends ∙ (ap last same ∙ based-last b s) in
      let low : b ≤ first s = sub.begins in
      let some : first s < last s = sub.some in
      let rows : parts_behind h.front (parts h.stood) ≡ all_based b (parts_behind h.front (parts s)) = ap (parts_behind h.front) (ap parts same ∙ based-parts b s) ∙ behind-based b h.front (parts s) in
      let are : AreParts (all_based b (parts_behind h.front (parts s))) (drop (values_count f) (present qs)) = subst (λ ps. AreParts ps (drop (values_count f) (present qs))) rows h.are in
      let from : From b (parts_behind h.front (parts s)) = behind-from b h.front (parts s) (ordered-from b (first s) (last s) (parts s) low sub.tiled) in
      let statements = statements-mapped (renamed name) f i j l qs in
      record {
        path = at.part ∷ h.path;
        stood = s;
        category = h.category;
        at_path = subtree-part d h.path at.part t at.at_path ∙ x.there;
        asked = asked-part d h.path categories.File categories.Declaration at.part t at.at_path at.asked ∙ (sym (asked-based b categories.Declaration h.path d) ∙ h.asked);
        front = h.front;
        holds = ap statements_from (sym kinds) ∙ h.holds;
        list = h.list;
        statements = h.statements;
        is_list = ap (λ k. items_at h.front (rule (place_of h.category) k)) (sym kinds) ∙ h.is_list;
        begins = omega (arith, begins, low);
        ends = omega (arith, ends, low, some);
        over = subst (StandOver b (parts_behind h.front (parts s))) (sym statements) (stand-over name b (parts_behind h.front (parts s)) (drop (values_count f) (present qs)) from are);
        name = name;
        read = subst (AreRead name b (parts_behind h.front (parts s))) (sym statements) (are-read name b (parts_behind h.front (parts s)) (drop (values_count f) (present qs)) are);
        clear = λ n m new. file-clear d t h.path at.part n m new at.tokens at.derives at.at_path ∙ (sym (clear-based b n m new h.path d) ∙ h.clear n m new);
      }
