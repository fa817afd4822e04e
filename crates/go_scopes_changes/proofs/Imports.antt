-- Rules on the imports of files with equal heads.
use Rattle.std.proofs.Common.{◌≡◌, ◌∙◌, ℕ, suc, Bool, true, false, List, [], ◌∷◌, ◌++◌, map, refl, sym, ap}
use Rattle.std.specs.Prelude.{if◌then◌else◌, ◌&&◌, ◌||◌, not}
use Rattle.go_tokens.specs.declared.token.TokenKind.{TokenKind}
use Rattle.go_tokens.specs.Tokens.{TokenList, kinds}
use Rattle.go_grammar.specs.declared.kind.Category.TheVariants as category
use Rattle.go_grammar.specs.declared.kind.Kind.TheVariants as kind
use Rattle.go_grammar.specs.Trees.{Tree, node, Trees, none, more, skip, kind_of, last}
use Rattle.go_grammar.specs.Grammar.{IsFile}
use Rattle.go_tree.specs.declared.event.Event.{Event}
use Rattle.go_tree.specs.declared.event.Event.TheVariants as event
use Rattle.go_tree.specs.Clauses.{other_imports}
use Rattle.go_tree.specs.Contexts.{file_context}
use Rattle.go_tree.specs.Failures.{of_files}
use Rattle.go_tree.specs.Imports.{is_fmt_value, is_fmt_path}
use Rattle.go_tree.specs.Lists.{is_function}
use Rattle.go_tree.specs.Redeclared.{second_imports}
use Rattle.go_tree.specs.Units.{word, bytes_at}
use Rattle.go_scopes_events.proofs.Public.{true_false}
use Rattle.go_heads.specs.Functions.{AreRead}
use Rattle.go_heads.specs.Heads.{File, IsRead, head_of, heads, in_bodies}
use Rattle.go_heads.specs.Objects.{units_of}
use Rattle.go_heads.specs.Told.{file_events}
use Rattle.go_heads.proofs.Public.{AllSit, OthersSit, Every, file_sat, first_same, others_same, some_not_none}
use Rattle.go_scopes_bodies.specs.Carried.{carried_event}
use Rattle.go_scopes_bodies.specs.Outside.{no_functions, without_functions, outside_events}
use Rattle.go_scopes_changes.proofs.Entries.{or_both, or_left, or_right}
use Rattle.go_scopes_changes.proofs.Outsides.{CarriedTell}
use Rattle.go_scopes_changes.proofs.Pairs.{moves, IsSame, all_same, same_events, none_if, if_none, left_none, right_none, none_both}
use Rattle.go_scopes_changes.proofs.Paths.{paths, tree_paths, row_paths, events_paths, derives_none}

-- ---- no function imports

one_path : (d : Tree) (ps : Trees) (ns : List ℕ) (b : Bool) → is_function (kind_of d) ≡ b → (is_function (kind_of d) ≡ true → tree_paths d ≡ []) → row_paths ps ≡ ns
    → row_paths (if b then skip ps else more d ps) ≡ tree_paths d ++ ns
one_path d ps ns true e h g = g ∙ sym (ap (λ xs. xs ++ ns) (h e))
one_path d ps ns false e h g = ap (λ xs. tree_paths d ++ xs) g

module _ (ts : List TokenKind) (p : ℕ → Bool) where
  all_paths : (ps : Trees) → AllSit ts p ps → row_paths (no_functions ps) ≡ row_paths ps
  all_paths none s = refl
  all_paths (skip ps) s = all_paths ps s
  all_paths (more d ds) s = one_path d (no_functions ds) (row_paths ds) (is_function (kind_of d)) refl (λ e. derives_none ts d category.Declaration refl s.0.derives) (all_paths ds s.1)

  other_paths : (ps : Trees) → OthersSit ts p ps → row_paths (no_functions ps) ≡ row_paths ps
  other_paths none s = refl
  other_paths (skip ps) s = all_paths ps s
  other_paths (more d ds) s = one_path d (no_functions ds) (row_paths ds) (is_function (kind_of d)) refl (λ e. absurd (true_false (is_function (kind_of d)) e s.0)) (all_paths ds s.3)

tree_outside : (ts : List TokenKind) (t : Tree) → IsFile ts t → tree_paths (without_functions t) ≡ tree_paths t
tree_outside ts (node kind.File i j ps) f = other_paths ts (in_bodies ps) ps (file_sat ts (node kind.File i j ps) f)
tree_outside ts (node k i j ps) f = absurd (true_false false f.derives.0 refl)

file_paths : (f : File) → IsRead f → paths (file_events f) ≡ paths (outside_events f)
file_paths f h =
    events_paths (file_context (last f.tree)) f.tree ∙ sym (tree_outside (kinds f.tokens.tokens) f.tree h.tree) ∙ sym (events_paths (file_context (last f.tree)) (without_functions f.tree))

-- ---- the texts of paths

abbrev pub texts_of : TokenList → List ℕ → List (List ℕ)
texts_of l ns = map (word l) ns

moved_texts : (a b : File) (es : List Event) → Every (IsSame a b) es → texts_of b.tokens (paths (map (carried_event (moves a b)) es)) ≡ texts_of a.tokens (paths es)
moved_texts a b [] h = refl
moved_texts a b (event.Import x ∷ es) h = ap (λ w. w ∷ texts_of b.tokens (paths (map (carried_event (moves a b)) es))) h.0 ∙ ap (λ ws. word a.tokens x ∷ ws) (moved_texts a b es h.1)
moved_texts a b (event.Member m g x ∷ es) h = moved_texts a b es h.1
moved_texts a b (event.Declaration d ∷ es) h = moved_texts a b es h.1
moved_texts a b (event.Use u ∷ es) h = moved_texts a b es h.1
moved_texts a b (event.Bodiless i j ∷ es) h = moved_texts a b es h.1
moved_texts a b (event.Statement i j ∷ es) h = moved_texts a b es h.1
moved_texts a b (event.Misplaced i j ∷ es) h = moved_texts a b es h.1
moved_texts a b (event.SecondDefault i ∷ es) h = moved_texts a b es h.1

pub same_texts : CarriedTell → (a b : File) → IsRead a → IsRead b → head_of a ≡ head_of b → texts_of b.tokens (paths (file_events b)) ≡ texts_of a.tokens (paths (file_events a))
same_texts tell a b g h e =
    ap (texts_of b.tokens) (file_paths b h ∙ ap paths (same_events tell a b g h e)) ∙ moved_texts a b (outside_events a) (all_same tell a b g h e) ∙ ap (texts_of a.tokens) (sym (file_paths a g))

-- ---- rules by texts

abbrev any_other : List (List ℕ) → Bool
any_other [] = false
any_other (w ∷ ws) = not (is_fmt_value w) || any_other ws

abbrev any_again : Bool → List (List ℕ) → Bool
any_again b [] = false
any_again b (w ∷ ws) = (b && is_fmt_value w) || any_again (b || is_fmt_value w) ws

module _ (n : ℕ) (l : TokenList) where
  other_to : (es : List Event) → other_imports n l es ≡ [] → any_other (texts_of l (paths es)) ≡ false
  other_to [] f = refl
  other_to (event.Import x ∷ es) f =
      let h = none_if (not (is_fmt_path l x)) (bytes_at n l x) (other_imports n l es) f in or_both (not (is_fmt_path l x)) (any_other (texts_of l (paths es))) h.0 (other_to es h.1)
  other_to (event.Member m g x ∷ es) f = other_to es f
  other_to (event.Declaration d ∷ es) f = other_to es f
  other_to (event.Use u ∷ es) f = other_to es f
  other_to (event.Bodiless i j ∷ es) f = other_to es f
  other_to (event.Statement i j ∷ es) f = other_to es f
  other_to (event.Misplaced i j ∷ es) f = other_to es f
  other_to (event.SecondDefault i ∷ es) f = other_to es f

  other_from : (es : List Event) → any_other (texts_of l (paths es)) ≡ false → other_imports n l es ≡ []
  other_from [] f = refl
  other_from (event.Import x ∷ es) f =
      if_none (not (is_fmt_path l x)) (bytes_at n l x) (other_imports n l es) (or_left (not (is_fmt_path l x)) (any_other (texts_of l (paths es))) f) (other_from es (or_right (not (is_fmt_path l x)) (any_other (texts_of l (paths es))) f))
  other_from (event.Member m g x ∷ es) f = other_from es f
  other_from (event.Declaration d ∷ es) f = other_from es f
  other_from (event.Use u ∷ es) f = other_from es f
  other_from (event.Bodiless i j ∷ es) f = other_from es f
  other_from (event.Statement i j ∷ es) f = other_from es f
  other_from (event.Misplaced i j ∷ es) f = other_from es f
  other_from (event.SecondDefault i ∷ es) f = other_from es f

  again_to : (b : Bool) (es : List Event) → second_imports b n l es ≡ [] → any_again b (texts_of l (paths es)) ≡ false
  again_to b [] f = refl
  again_to b (event.Import x ∷ es) f =
      let h = none_if (b && is_fmt_path l x) (bytes_at n l x) (second_imports (b || is_fmt_path l x) n l es) f in
      or_both (b && is_fmt_path l x) (any_again (b || is_fmt_path l x) (texts_of l (paths es))) h.0 (again_to (b || is_fmt_path l x) es h.1)
  again_to b (event.Member m g x ∷ es) f = again_to b es f
  again_to b (event.Declaration d ∷ es) f = again_to b es f
  again_to b (event.Use u ∷ es) f = again_to b es f
  again_to b (event.Bodiless i j ∷ es) f = again_to b es f
  again_to b (event.Statement i j ∷ es) f = again_to b es f
  again_to b (event.Misplaced i j ∷ es) f = again_to b es f
  again_to b (event.SecondDefault i ∷ es) f = again_to b es f

  again_from : (b : Bool) (es : List Event) → any_again b (texts_of l (paths es)) ≡ false → second_imports b n l es ≡ []
  again_from b [] f = refl
  again_from b (event.Import x ∷ es) f =
      if_none (b && is_fmt_path l x) (bytes_at n l x) (second_imports (b || is_fmt_path l x) n l es)
      (or_left (b && is_fmt_path l x) (any_again (b || is_fmt_path l x) (texts_of l (paths es))) f)
      (again_from (b || is_fmt_path l x) es (or_right (b && is_fmt_path l x) (any_again (b || is_fmt_path l x) (texts_of l (paths es))) f))
  again_from b (event.Member m g x ∷ es) f = again_from b es f
  again_from b (event.Declaration d ∷ es) f = again_from b es f
  again_from b (event.Use u ∷ es) f = again_from b es f
  again_from b (event.Bodiless i j ∷ es) f = again_from b es f
  again_from b (event.Statement i j ∷ es) f = again_from b es f
  again_from b (event.Misplaced i j ∷ es) f = again_from b es f
  again_from b (event.SecondDefault i ∷ es) f = again_from b es f

-- ---- packages

module _ (tell : CarriedTell) where
  pub paths_stay : (n : ℕ) (old new : List File) → AreRead old → AreRead new → heads old ≡ heads new → of_files other_imports n (units_of old) ≡ [] → of_files other_imports n (units_of new) ≡ []
  paths_stay n [] [] h k e f = refl
  paths_stay n [] (b ∷ bs) h k e f = absurd (some_not_none (head_of b) (heads bs) (sym e))
  paths_stay n (a ∷ xs) [] h k e f = refl
  paths_stay n (a ∷ xs) (b ∷ bs) h k e f =
      let here = other_imports n a.tokens (file_events a) in
      let rest = of_files other_imports (suc n) (units_of xs) in
      none_both (other_imports n b.tokens (file_events b)) (of_files other_imports (suc n) (units_of bs))
      (other_from n b.tokens (file_events b) (ap any_other (same_texts tell a b h.0 k.0 (first_same (head_of a) (head_of b) (heads xs) (heads bs) e)) ∙ other_to n a.tokens (file_events a) (left_none here rest f)))
      (paths_stay (suc n) xs bs h.1 k.1 (others_same (head_of a) (head_of b) (heads xs) (heads bs) e) (right_none here rest f))

  pub imported_once : (n : ℕ) (old new : List File) → AreRead old → AreRead new → heads old ≡ heads new → of_files (second_imports false) n (units_of old) ≡ [] → of_files (second_imports false) n (units_of new) ≡ []
  imported_once n [] [] h k e f = refl
  imported_once n [] (b ∷ bs) h k e f = absurd (some_not_none (head_of b) (heads bs) (sym e))
  imported_once n (a ∷ xs) [] h k e f = refl
  imported_once n (a ∷ xs) (b ∷ bs) h k e f =
      let here = second_imports false n a.tokens (file_events a) in
      let rest = of_files (second_imports false) (suc n) (units_of xs) in
      none_both (second_imports false n b.tokens (file_events b)) (of_files (second_imports false) (suc n) (units_of bs))
      (again_from n b.tokens false (file_events b)
      (ap (any_again false) (same_texts tell a b h.0 k.0 (first_same (head_of a) (head_of b) (heads xs) (heads bs) e)) ∙ again_to n a.tokens false (file_events a) (left_none here rest f)))
      (imported_once (suc n) xs bs h.1 k.1 (others_same (head_of a) (head_of b) (heads xs) (heads bs) e) (right_none here rest f))
