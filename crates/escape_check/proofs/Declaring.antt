-- The first declaring place of some locals, local by local.
use Rattle.std.proofs.Common.{◌≡◌, ◌∙◌, ℕ, suc, ◌+◌, ◌<◌, ◌≤◌, Bool, true, false, List, ◌∷◌, ◌++◌, length, drop, get_or, filter, Option, Some, None, refl, ap}
use Rattle.std.proofs.lemmas.List.{drop_all, drop_more}
use Rattle.std.specs.Prelude.{if◌then◌else◌, slice_get}
use Rattle.go_tree.specs.declared.object.Declared.{Declared}
use Rattle.param_choose.specs.Members.{Member}
use Rattle.escape_check.specs.Names.{declaring_places}
use Rattle.escape_check.specs.Places.{Place, declaring_place, first_of}

abbrev pub first_declaring : Member ℕ → (ℕ → Bool) → List ℕ → Option Place
first_declaring m test ns = first_of (declaring_places m (filter test ns))

at-next : (m : Member ℕ) (test : ℕ → Bool) (ns : List ℕ) (i : ℕ) → i < length ns → first_declaring m test (drop i ns) ≡ first_declaring m test (get_or ns i 0 ∷ drop (i + 1) ns)
at-next m test ns i l = ap (first_declaring m test) (drop_more ns i 0 l)

-- one that fails
pub failing_next : (m : Member ℕ) (test : ℕ → Bool) (ns : List ℕ) (i : ℕ) → i < length ns → test (get_or ns i 0) ≡ false →
    first_declaring m test (drop i ns) ≡ first_declaring m test (drop (i + 1) ns)
failing_next m test ns i l h =
    at-next m test ns i l ∙ ap (λ b. first_of (declaring_places m (if b then get_or ns i 0 ∷ filter test (drop (i + 1) ns) else filter test (drop (i + 1) ns)))) h

missing-by : (m : Member ℕ) (n : ℕ) (ns : List ℕ) (b : Bool) → slice_get m.declared n ≡ None →
    first_of (declaring_places m (if b then n ∷ ns else ns)) ≡ first_of (declaring_places m ns)
missing-by m n ns true h = ap (λ o. first_of (declaring_place o ++ declaring_places m ns)) h
missing-by m n ns false h = refl

-- one that is declared nowhere
pub missing_next : (m : Member ℕ) (test : ℕ → Bool) (ns : List ℕ) (i : ℕ) → i < length ns → slice_get m.declared (get_or ns i 0) ≡ None →
    first_declaring m test (drop i ns) ≡ first_declaring m test (drop (i + 1) ns)
missing_next m test ns i l h = at-next m test ns i l ∙ missing-by m (get_or ns i 0) (filter test (drop (i + 1) ns)) (test (get_or ns i 0)) h

-- the first one
pub found_next : (m : Member ℕ) (test : ℕ → Bool) (ns : List ℕ) (i : ℕ) (d : Declared) → i < length ns → slice_get m.declared (get_or ns i 0) ≡ Some d → test (get_or ns i 0) ≡ true →
    first_declaring m test (drop i ns) ≡ Some (record { file = d.file; from = d.name; upto = suc d.name })
found_next m test ns i d l g h =
    at-next m test ns i l
    ∙ ap (λ b. first_of (declaring_places m (if b then get_or ns i 0 ∷ filter test (drop (i + 1) ns) else filter test (drop (i + 1) ns)))) h
    ∙ ap (λ o. first_of (declaring_place o ++ declaring_places m (filter test (drop (i + 1) ns)))) g

-- none is left
pub nothing_left : (m : Member ℕ) (test : ℕ → Bool) (ns : List ℕ) (i : ℕ) → length ns ≤ i → first_declaring m test (drop i ns) ≡ None
nothing_left m test ns i l = ap (first_declaring m test) (drop_all i ns l)
