-- Each import is used, where functions that use it stay in its file.
use Rattle.std.proofs.Common.{◌≡◌, ◌∙◌, ℕ, suc, inl, inr, ◌⊎◌, Bool, true, false, List, [], ◌∷◌, Some, refl, sym, ap}
use Rattle.std.specs.Prelude.{slice_get}
use Rattle.go_tokens.specs.Tokens.{TokenList}
use Rattle.go_tree.specs.declared.event.Event.{Event}
use Rattle.go_tree.specs.declared.event.Event.TheVariants as event
use Rattle.go_tree.specs.Failures.{of_files}
use Rattle.go_tree.specs.Lookups.{uses_import, imports_unless, unused_imports}
use Rattle.go_tree.specs.Units.{Place, bytes_at}
use Rattle.go_scopes_events.proofs.Public.{true_false}
use Rattle.go_heads.specs.Functions.{Function, AreRead, all_functions, function_alone}
use Rattle.go_heads.specs.Heads.{File, IsRead, head_of, heads}
use Rattle.go_heads.specs.Objects.{units_of}
use Rattle.go_heads.specs.Told.{file_events}
use Rattle.go_heads.specs.Tokens.{function_files}
use Rattle.go_heads.proofs.Public.{first_same, others_same, some_not_none}
use Rattle.go_scopes_bodies.specs.Faults.{UsesImportByFunctions, all_asked, outside_asked, outer_in, own_asked}
use Rattle.go_scopes_changes.specs.Changes.{NamesImport, KeepsImports}
use Rattle.go_scopes_changes.proofs.Imports.{texts_of, same_texts}
use Rattle.go_scopes_changes.proofs.Outsides.{CarriedTell}
use Rattle.go_scopes_changes.proofs.Pairs.{left_none, right_none, none_both}
use Rattle.go_scopes_changes.proofs.Paths.{paths}

-- ---- the imports of a file

module _ (n : ℕ) (l : TokenList) where
  used_none : (es : List Event) → imports_unless true n l es ≡ []
  used_none [] = refl
  used_none (event.Import x ∷ es) = used_none es
  used_none (event.Member m g x ∷ es) = used_none es
  used_none (event.Declaration d ∷ es) = used_none es
  used_none (event.Use u ∷ es) = used_none es
  used_none (event.Bodiless i j ∷ es) = used_none es
  used_none (event.Statement i j ∷ es) = used_none es
  used_none (event.Misplaced i j ∷ es) = used_none es
  used_none (event.SecondDefault i ∷ es) = used_none es

  unused_none : (es : List Event) → imports_unless false n l es ≡ [] → paths es ≡ []
  unused_none [] e = refl
  unused_none (event.Import x ∷ es) e = absurd (some_not_none (bytes_at n l x) (imports_unless false n l es) e)
  unused_none (event.Member m g x ∷ es) e = unused_none es e
  unused_none (event.Declaration d ∷ es) e = unused_none es e
  unused_none (event.Use u ∷ es) e = unused_none es e
  unused_none (event.Bodiless i j ∷ es) e = unused_none es e
  unused_none (event.Statement i j ∷ es) e = unused_none es e
  unused_none (event.Misplaced i j ∷ es) e = unused_none es e
  unused_none (event.SecondDefault i ∷ es) e = unused_none es e

  none_imported : (b : Bool) (es : List Event) → paths es ≡ [] → imports_unless b n l es ≡ []
  none_imported b [] e = refl
  none_imported b (event.Import x ∷ es) e = absurd (some_not_none x (paths es) e)
  none_imported b (event.Member m g x ∷ es) e = none_imported b es e
  none_imported b (event.Declaration d ∷ es) e = none_imported b es e
  none_imported b (event.Use u ∷ es) e = none_imported b es e
  none_imported b (event.Bodiless i j ∷ es) e = none_imported b es e
  none_imported b (event.Statement i j ∷ es) e = none_imported b es e
  none_imported b (event.Misplaced i j ∷ es) e = none_imported b es e
  none_imported b (event.SecondDefault i ∷ es) e = none_imported b es e

no_texts : (l : TokenList) (ns : List ℕ) → texts_of l ns ≡ [] → ns ≡ []
no_texts l [] e = refl
no_texts l (n ∷ ns) e = cc

-- ---- files

module _ (tell : CarriedTell) (was is : ℕ → Bool) (back : (n : ℕ) → is n ≡ false → was n ≡ false) where
  file_used : (n : ℕ) (a b : File) → IsRead a → IsRead b → head_of a ≡ head_of b
      → imports_unless (was n) n a.tokens (file_events a) ≡ [] → imports_unless (is n) n b.tokens (file_events b) ≡ []
  file_used n a b h k e f = by (is n) refl
    where
      by : (c : Bool) → is n ≡ c → imports_unless c n b.tokens (file_events b) ≡ []
      by true x = used_none n b.tokens (file_events b)
      by false x =
          let before : paths (file_events a) ≡ [] = unused_none n a.tokens (file_events a) (sym (ap (λ c. imports_unless c n a.tokens (file_events a)) (back n x)) ∙ f) in
          none_imported n b.tokens false (file_events b) (no_texts b.tokens (paths (file_events b)) (same_texts tell a b h k e ∙ ap (texts_of a.tokens) before))

  pub all_used : (n : ℕ) (old new : List File) → AreRead old → AreRead new → heads old ≡ heads new
      → of_files (λ n. imports_unless (was n) n) n (units_of old) ≡ [] → of_files (λ n. imports_unless (is n) n) n (units_of new) ≡ []
  all_used n [] [] h k e f = refl
  all_used n [] (b ∷ bs) h k e f = absurd (some_not_none (head_of b) (heads bs) (sym e))
  all_used n (a ∷ xs) [] h k e f = refl
  all_used n (a ∷ xs) (b ∷ bs) h k e f =
      let here : List Place = imports_unless (was n) n a.tokens (file_events a) in
      let rest : List Place = of_files (λ n. imports_unless (was n) n) (suc n) (units_of xs) in
      none_both (imports_unless (is n) n b.tokens (file_events b)) (of_files (λ n. imports_unless (is n) n) (suc n) (units_of bs))
      (file_used n a b h.0 k.0 (first_same (head_of a) (head_of b) (heads xs) (heads bs) e) (left_none here rest f))
      (all_used (suc n) xs bs h.1 k.1 (others_same (head_of a) (head_of b) (heads xs) (heads bs) e) (right_none here rest f))

-- ---- functions

module _ (old new : List File) (outer : (n : ℕ) (w : List ℕ) → outer_in new n w ≡ outer_in old n w) (keeps : KeepsImports old new) where
  -- what no function uses now, none used
  used_before : (n : ℕ) → UsesImportByFunctions old n → UsesImportByFunctions new n → uses_import n (outside_asked new) ≡ uses_import n (outside_asked old) → uses_import n (all_asked new) ≡ false → uses_import n (all_asked old) ≡ false
  used_before n u v s e = u.together outside (λ k f a b. by k f a b (uses_import 0 (own_asked (function_alone f) (outer_in old n))) refl)
    where
      outside : uses_import n (outside_asked old) ≡ false
      outside = sym s ∙ (v.apart e).0

      never : uses_import n (outside_asked old) ≡ true ⊎ NamesImport old new n → ⊥
      never (inl x) = true_false (uses_import n (outside_asked old)) x outside
      never (inr x) =
          true_false (uses_import 0 (own_asked (function_alone x.function) (outer_in old n))) x.names
          (sym (ap (λ o. uses_import 0 (own_asked (function_alone x.function) o)) (λ i w. outer n w i)) ∙ (v.apart e).1 x.number x.function x.there x.file)

      by : (k : ℕ) (f : Function) → slice_get (all_functions old) k ≡ Some f → slice_get (function_files 0 old) k ≡ Some n → (c : Bool) → uses_import 0 (own_asked (function_alone f) (outer_in old n)) ≡ c → c ≡ false
      by k f a b true x = absurd (never (keeps.named n k f a b x))
      by k f a b false x = refl

  pub imports_used : CarriedTell → AreRead old → AreRead new → heads old ≡ heads new → ((n : ℕ) → UsesImportByFunctions old n) → ((n : ℕ) → UsesImportByFunctions new n)
      → ((n : ℕ) → uses_import n (outside_asked new) ≡ uses_import n (outside_asked old)) → unused_imports (all_asked old) (units_of old) ≡ [] → unused_imports (all_asked new) (units_of new) ≡ []
  imports_used tell h k e u v s f = all_used tell (λ n. uses_import n (all_asked old)) (λ n. uses_import n (all_asked new)) (λ n x. used_before n (u n) (v n) (s n) x) 0 old new h k e f
