-- Lexically scoped trees are sound, in bodies and in windows.
use Rattle.std.proofs.Common.{◌≡◌, ℕ, refl, sym, subst, ◌⊎◌, inl, inr, List, [], ◌∷◌, ◌++◌}
use Rattle.std.specs.Prelude.{Bool, true, false, if◌then◌else◌}
use Rattle.go_types.specs.Trees.{TypeTree}
use Rattle.go_types.specs.Relations.{Rights}
use Rattle.go_typed.specs.Trees.{Typed, Typeds}
use Rattle.go_meaning.specs.Values.{Value}
use Rattle.go_meaning_simulation.specs.Links.{nowhere}
use Rattle.go_meaning_simulation.specs.Locals.{Linked, Inside, In, window_links, body_links}
use Rattle.extract_runs.specs.Sound.{SoundStatement, SoundChain}
use Rattle.extract_runs.specs.Holes.{never}
use Rattle.extract_runs.specs.Lexical.{lexical_links, linked_locals, window_locals, own_of, known}
use Rattle.extract_runs.proofs.Transfer.{Carries, statement, chain}

module _ (V : List Value → List Value → Type 0) (rights : Rights) (local : ℕ → ℕ) where
  pub bodies_are_sound : (J : Linked) (windows : Typeds TypeTree → Typeds TypeTree → Type 0) (cost factor : ℕ) (gone : ℕ → Bool) (s s' : List ℕ) (t : Typed TypeTree) → SoundStatement (lexical_links (linked_locals J local)) rights local gone nowhere s s' t → SoundStatement (body_links V J windows cost factor) rights local gone nowhere tt tt t
  bodies_are_sound J windows cost factor gone s s' t sound = statement (lexical_links (linked_locals J local)) (body_links V J windows cost factor) rights local gone (λ s. tt) carries nowhere s s' sound
    where
      carries : Carries (lexical_links (linked_locals J local)) (body_links V J windows cost factor) local (λ s. tt)
      carries = record { reads = λ s i a. a.1; writes = λ s i w. w; declares = λ s s1 i d. d.0; forgets = λ s s1 f. tt; returns = λ r. tt }

  module _ (I : Inside) (own : ℕ → Bool) (free : List ℕ) where
    in_free : (k : ℕ) (s : List ℕ) → In k free → In k (s ++ free)
    in_free k [] h = h
    in_free k (i ∷ s) h = inr (in_free k s h)

    -- a local that is declared in the window and in scope is known
    in_own : (k : ℕ) (s : List ℕ) → own k ≡ true → In k s → In k (known own free s)
    in_own k (i ∷ s) o (inl e) = subst (λ b. In k ((if b then i ∷ own_of own s else own_of own s) ++ free)) (sym (subst (λ x. own x ≡ true) e o)) (inl e)
    in_own k (i ∷ s) o (inr h) = further (own i) (in_own k s o h)
      where
        further : (b : Bool) → In k (own_of own s ++ free) → In k ((if b then i ∷ own_of own s else own_of own s) ++ free)
        further true h = inr h
        further false h = h
    in_own k [] o h = absurd h

    -- what is known is free, or declared in the window and in scope
    from_known : (k : ℕ) (s : List ℕ) → In k (known own free s) → ((own k ≡ true) × In k s) ⊎ In k free
    from_known k [] h = inr h
    from_known k (i ∷ s) h = by_own (from_known k s) (own i) refl h
      where
        later : ((own k ≡ true) × In k s) ⊎ In k free → ((own k ≡ true) × In k (i ∷ s)) ⊎ In k free
        later (inl p) = inl (p.0, inr p.1)
        later (inr p) = inr p

        by_own : (In k (own_of own s ++ free) → ((own k ≡ true) × In k s) ⊎ In k free) → (b : Bool) → own i ≡ b → In k ((if b then i ∷ own_of own s else own_of own s) ++ free) → ((own k ≡ true) × In k (i ∷ s)) ⊎ In k free
        by_own rest true o (inl e) = inl (subst (λ x. own x ≡ true) (sym e) o, inl e)
        by_own rest true o (inr h) = later (rest h)
        by_own rest false o h = later (rest h)

    less_known : (s s1 : List ℕ) → ((k : ℕ) → In k s1 → In k s) → (k : ℕ) → In k (known own free s1) → In k (known own free s)
    less_known s s1 f k h = by_case (from_known k s1 h)
      where
        by_case : ((own k ≡ true) × In k s1) ⊎ In k free → In k (known own free s)
        by_case (inl p) = in_own k s p.0 (f k p.1)
        by_case (inr p) = in_free k (own_of own s) p

    declared_known : (s s1 : List ℕ) (i : ℕ) → s1 ≡ i ∷ s → (k : ℕ) → In k (known own free s1) → In k (i ∷ known own free s)
    declared_known s s1 i e k h = by_case (from_known k (i ∷ s) (subst (λ x. In k (known own free x)) e h))
      where
        by_case : ((own k ≡ true) × In k (i ∷ s)) ⊎ In k free → In k (i ∷ known own free s)
        by_case (inl (o, inl e)) = inl e
        by_case (inl (o, inr p)) = inr (in_own k s o p)
        by_case (inr p) = inr (in_free k (own_of own s) p)

    read_known : (s : List ℕ) (i : ℕ) → In i s → (own i ≡ true) ⊎ In i free → In i (known own free s)
    read_known s i h (inl o) = in_own i s o h
    read_known s i h (inr p) = in_free i (own_of own s) p

    -- where none of the window's own locals is in scope before it
    pub windows_are_sound : (s s' : List ℕ) (ps : Typeds TypeTree) → own_of own s ≡ [] → SoundChain (lexical_links (window_locals I local own free)) rights local never nowhere s s' ps → SoundChain (window_links V I) rights local never nowhere free (known own free s') ps
    windows_are_sound s s' ps e sound = subst (λ x. SoundChain (window_links V I) rights local never nowhere (x ++ free) (known own free s') ps) e (chain (lexical_links (window_locals I local own free)) (window_links V I) rights local never (known own free) carries nowhere s s' sound)
      where
        carries : Carries (lexical_links (window_locals I local own free)) (window_links V I) local (known own free)
        carries = record { reads = λ s i a. (read_known s i a.0 a.1.1, a.1.0); writes = λ s i w. w; declares = λ s s1 i d. (d.0.0, d.0.1, declared_known s s1 i d.1); forgets = less_known; returns = λ r. r }
