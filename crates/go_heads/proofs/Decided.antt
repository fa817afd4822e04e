-- Whether heads and bodies are the same is decided, so that a function with a body is touched or the same.
use Rattle.std.proofs.Common.{◌≡◌, ℕ, ◌⊎◌, inl, inr, true, List, [], ◌∷◌, Option, Some, None, refl, sym, ap, ◌∙◌, subst}
use Rattle.std.proofs.lemmas.Bool.{cases_eq}
use Rattle.std.specs.Prelude.{is_some, slice_get}
use Rattle.go_grammar.specs.Trees.{Tree}
use Rattle.go_tokens.specs.Tokens.{TokenList}
use Rattle.go_heads.specs.Heads.{File, Head, body_of, heads}
use Rattle.go_heads.specs.Functions.{Function, AreRead, all_functions, texts_in, body_texts, body_there, IsTouched, IsUntouched}
use Rattle.go_heads.proofs.Files.{first_same, others_same, some_not_none}
use Rattle.go_heads.proofs.Functions.{some_none, same_some}
use Rattle.go_heads.proofs.Numbers.{functions_kept}

abbrev Decision : {A : Type 0} → A → A → Type 0
Decision x y = (x ≡ y) ⊎ (x ≡ y → ⊥)

module _ {A : Type 0} (decide : (x y : A) → Decision x y) where
  both_same : (x y : A) (xs ys : List A) → Decision x y → Decision xs ys → Decision (x ∷ xs) (y ∷ ys)
  both_same x y xs ys (inr n) e = inr (λ h. n (first_same x y xs ys h))
  both_same x y xs ys (inl d) (inr n) = inr (λ h. n (others_same x y xs ys h))
  both_same x y xs ys (inl d) (inl e) = inl (ap (λ z. z ∷ xs) d ∙ ap (λ zs. y ∷ zs) e)

  lists : (xs ys : List A) → Decision xs ys
  lists [] [] = inl refl
  lists [] (y ∷ ys) = inr (λ h. some_not_none y ys (sym h))
  lists (x ∷ xs) [] = inr (λ h. some_not_none x xs h)
  lists (x ∷ xs) (y ∷ ys) = both_same x y xs ys (decide x y) (lists xs ys)

  options : (o q : Option A) → Decision o q
  options None None = inl refl
  options None (Some y) = inr (λ h. some_none y (sym h))
  options (Some x) None = inr (λ h. some_none x h)
  options (Some x) (Some y) = of_some x y (decide x y)
    where
      of_some : (x y : A) → Decision x y → Decision (Some x) (Some y)
      of_some x y (inl e) = inl (ap (λ z. Some z) e)
      of_some x y (inr n) = inr (λ h. n (same_some x y h))

texts_decided : (xs ys : List (List ℕ)) → Decision xs ys
texts_decided xs ys = lists (lists cases_eq) xs ys

head_by : (x y : Head) → Decision x.name y.name → Decision x.texts y.texts → Decision x y
head_by x y (inr n) e = inr (λ h. n (ap (λ (z : Head). z.name) h))
head_by x y (inl d) (inr n) = inr (λ h. n (ap (λ (z : Head). z.texts) h))
head_by x y (inl d) (inl e) = inl (ap (λ w. let z : Head = record { name = w; texts = x.texts } in z) d ∙ ap (λ ws. let z : Head = record { name = y.name; texts = ws } in z) e)

head_decided : (x y : Head) → Decision x y
head_decided x y = head_by x y (lists cases_eq x.name y.name) (texts_decided x.texts y.texts)

no_body : (l : TokenList) (o : Option Tree) → is_some o ≡ true → None ≡ texts_in l o → ⊥
no_body l None b e = cc
no_body l (Some t) b e = cc

module _ (old new : List File) (h : AreRead old) (k : AreRead new) (n : ℕ) (g : Function) (there : slice_get (all_functions new) n ≡ Some g) (body : is_some (body_of g.tree) ≡ true) where
  by_body : heads old ≡ heads new → (o : Option Function) → slice_get (all_functions old) n ≡ o → body_there o ≡ body_texts g → IsUntouched old new n
  by_body e None s b = absurd (no_body g.file.tokens (body_of g.tree) body b)
  by_body e (Some f) s b = record { heads = e; before = f; after = g; stood = s; stands = there; same = (functions_kept old new h k e).bodies n f g s there (sym b) }

  abbrev HasSameBody : Type 0
  HasSameBody = body_there (slice_get (all_functions old) n) ≡ body_texts g

  on_body : heads old ≡ heads new → HasSameBody ⊎ (HasSameBody → ⊥) → IsTouched (Some old) new n ⊎ IsUntouched old new n
  on_body e (inl b) = inr (by_body e (slice_get (all_functions old) n) refl b)
  on_body e (inr other) =
      inl (record { function = g; there = there; body = body; other = λ fs i s t. other (subst (λ x. body_there (slice_get (all_functions x) n) ≡ body_texts g) (sym (same_some old fs i)) t) })

  on_heads : (heads old ≡ heads new) ⊎ (heads old ≡ heads new → ⊥) → IsTouched (Some old) new n ⊎ IsUntouched old new n
  on_heads (inl e) = on_body e (options texts_decided (body_there (slice_get (all_functions old) n)) (body_texts g))
  on_heads (inr other) = inl (record { function = g; there = there; body = body; other = λ fs i s t. other (subst (λ x. heads x ≡ heads new) (sym (same_some old fs i)) s) })

  pub touched_or_same : IsTouched (Some old) new n ⊎ IsUntouched old new n
  touched_or_same = on_heads (lists head_decided (heads old) (heads new))
