-- Parameters and the types of entries, as loops go over them.
use Rattle.std.proofs.Common.{◌≡◌, ℕ, zero, suc, ◌+◌, ◌<◌, ◌≤◌, List, [], ◌∷◌, length, drop, get_or, min, Option, refl, ap, sym, ◌∙◌, subst, length-drop, arith}
use Rattle.std.specs.List.{AllByRecursion}
use Rattle.std.specs.Option.{option_map}
use Rattle.std.proofs.lemmas.List.{length-map}
use Rattle.go_types.specs.Trees.{TypeTree}
use Rattle.go_types.specs.Tables.{Table, type_of}
use Rattle.go_exprs_engine.proofs.Public.{drop_step}
use Rattle.go_stmts_defs.specs.Frames.{Frame}
use Rattle.go_stmts_defs.specs.Reading.{with_parameter, with_parameters}
use Rattle.go_stmts.specs.Signatures.{entries_seen, KnownEntry}

pub parameter_next : (t : Table) (ns : List (Option ℕ)) (is : List (Option ℕ)) (j : ℕ) (n i : Option ℕ) (s u : Frame) → j < length ns → j < length is → n ≡ get_or ns j n → i ≡ get_or is j i
    → with_parameter n (option_map (type_of t.shapes) i) s ≡ u
    → with_parameters (drop j ns) (entries_seen t (drop j is)) s ≡ with_parameters (drop (j + 1) ns) (entries_seen t (drop (j + 1) is)) u
parameter_next t ns is j n i s u ln li en ei e =
    ap (λ ms. with_parameters ms (entries_seen t (drop j is)) s) (drop_step ns j n n ln en)
    ∙ ap (λ ks. with_parameters (n ∷ drop (j + 1) ns) (entries_seen t ks) s) (drop_step is j i i li ei)
    ∙ ap (with_parameters (drop (j + 1) ns) (entries_seen t (drop (j + 1) is))) e

same_entry : {A : Type 0} (xs : List A) (j : ℕ) (d e : A) → j < length xs → get_or xs j d ≡ get_or xs j e
same_entry [] j d e lt = absurd (omega (arith, lt))
same_entry (x ∷ xs) zero d e lt = refl
same_entry (x ∷ xs) (suc j) d e lt = same_entry xs j d e (omega (arith, lt))

pub parameter_at : (t : Table) (ns : List (Option ℕ)) (is : List (Option ℕ)) (j : ℕ) (d g : Option ℕ) (s u : Frame) → j < length ns → j < length is
    → with_parameter (get_or ns j d) (option_map (type_of t.shapes) (get_or is j g)) s ≡ u
    → with_parameters (drop j ns) (entries_seen t (drop j is)) s ≡ with_parameters (drop (j + 1) ns) (entries_seen t (drop (j + 1) is)) u
parameter_at t ns is j d g s u ln li e = parameter_next t ns is j (get_or ns j d) (get_or is j g) s u ln li (same_entry ns j d (get_or ns j d) ln) (same_entry is j g (get_or is j g) li) e

short : (ns : List (Option ℕ)) (ts : List (Option TypeTree)) (s : Frame) → min (length ns) (length ts) ≡ 0 → with_parameters ns ts s ≡ s
short [] ts s h = refl
short (n ∷ ns) [] s h = refl
short (n ∷ ns) (t ∷ ts) s h = absurd (omega (arith, h))

pub parameters_end : (t : Table) (ns is : List (Option ℕ)) (j : ℕ) (s : Frame) → min (length ns) (length is) ≤ j → with_parameters (drop j ns) (entries_seen t (drop j is)) s ≡ s
parameters_end t ns is j s h =
    let a = length-drop j ns in
    let b = length-map (drop j is) (option_map (type_of t.shapes)) ∙ length-drop j is in
    short (drop j ns) (entries_seen t (drop j is)) s (omega (arith, a, b, h))

pub entry_at : (n : ℕ) (is : List (Option ℕ)) (j : ℕ) (i : Option ℕ) → j < length is → i ≡ get_or is j i → AllByRecursion (KnownEntry n) is → KnownEntry n i
entry_at n [] j i lt e h = absurd (omega (arith, lt))
entry_at n (k ∷ is) zero i lt e h = subst (KnownEntry n) (sym e) h.0
entry_at n (k ∷ is) (suc j) i lt e h = entry_at n is j i (omega (arith, lt)) e h.1

pub alone : {A : Type 0} (xs : List A) (x : A) → 1 ≤ length xs → length xs < 2 → x ≡ get_or xs 0 x → xs ≡ x ∷ []
alone [] x le lt e = absurd (omega (arith, le))
alone (y ∷ []) x le lt e = ap (λ z. z ∷ []) (sym e)
alone (y ∷ z ∷ xs) x le lt e = absurd (omega (arith, lt))
