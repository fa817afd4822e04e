-- The files of an object in memory, by cases on the newest write, and the names of a finite map.
use Rattle.std.proofs.Common.{◌≡◌, ℕ, ◌<◌, Bool, true, false, ◌&&◌, cond, Option, Some, None, Err, List, [], ◌∷◌, ◌++◌, map, length, refl, sym, ap, drop, get_or, suc, ◌+◌, add-one, drop-cons, subst, ◌∙◌}
use Rattle.std.specs.Prelude.{T, is_some, string_bytes}
use Rattle.std.specs.declared.cmp.Ordering.{Ordering}
use Rattle.std.specs.declared.cmp.Ordering.TheVariants.{Less, Equal, Greater}
use Rattle.std.specs.Ordering.{nat_cmp, is_eq, is_lt, eq_by_cmp}
use Rattle.std.specs.Cmp.{IsTotalOrder, eq_by_cmp_equiv}
use Rattle.std.specs.Cmp.Lexicographic.{slice_cmp, nat_list_cmp_total}
use Rattle.std.specs.Str.{bytes_eq}
use Rattle.std.specs.List.{list_any}
use Rattle.std.specs.List.Sorted.{IsPermutation}
use Rattle.std.specs.FinMap.Entries.{by_order, below_all}
use Rattle.std.specs.FinMap.{FinMap, find, put, is_sorted, insert, entries, keys, contains_key-keys, get-entries, empty, len-entries, len-empty, entries-insert, entries_sorted, from_entries}
use Rattle.std.proofs.Math.Seq.{drop-length}
use Rattle.std.proofs.lemmas.List.{nil_from_length}
use Rattle.std.proofs.lemmas.List.Sorted.{IsPermutation-refl, IsPermutation-sym, IsPermutation-cons, IsPermutation-trans, IsPermutation-middle, IsPermutation-to_front, list_any-IsPermutation}
use Rattle.port_io.specs.declared.store.Stored.{Stored}
use Rattle.port_io.specs.declared.folder.FolderError.TheVariants as errors
use Rattle.port_io.specs.Held.{Held}
use Rattle.port_io.specs.Folders.{Writes}
use Rattle.port_io.specs.Stored.{stored_under, held_by, with_name}
use Rattle.std.proofs.lemmas.Map.Text.{is_eq-slice_cmp}

-- a write that failed and left all as it was
pub nothing_written : (held : Held) (chosen : Option (List ℕ)) (name bytes : List ℕ) → Writes (Err errors.Failed) (Some held) (Some held) chosen name bytes
nothing_written held None name bytes = tt
nothing_written held (Some text) name bytes = (held, refl, record { folders = λ other apart. refl; names = λ other apart. refl })

both_tests : {A : Type 0} (a b : Bool) (x y : A) → cond a (cond b x y) y ≡ cond (a && b) x y
both_tests true b x y = refl
both_tests false b x y = refl

-- the newest write decides
pub find_step : (text name : List ℕ) (s : Stored) (ss : List Stored) → find (slice_cmp nat_cmp) name (stored_under text (s ∷ ss)) ≡ cond (bytes_eq text (string_bytes s.folder) && bytes_eq name s.name) (Some s.bytes) (find (slice_cmp nat_cmp) name (stored_under text ss))
find_step text name s ss =
    elim (bytes_eq text (string_bytes s.folder)) as (λ b. find (slice_cmp nat_cmp) name (cond b ((s.name, s.bytes) ∷ stored_under text ss) (stored_under text ss)) ≡ cond (b && bytes_eq name s.name) (Some s.bytes) (find (slice_cmp nat_cmp) name (stored_under text ss))) [
      | true ↦ ap (λ b. cond b (Some s.bytes) (find (slice_cmp nat_cmp) name (stored_under text ss))) (is_eq-slice_cmp name s.name)
      | false ↦ refl
    ]

pub find_at : (text name : List ℕ) (ss : List Stored) (i : ℕ) (s : Stored) → i < length ss → s ≡ get_or ss i s → find (slice_cmp nat_cmp) name (stored_under text (drop i ss)) ≡ cond (bytes_eq text (string_bytes s.folder) && bytes_eq name s.name) (Some s.bytes) (find (slice_cmp nat_cmp) name (stored_under text (drop (i + 1) ss)))
find_at text name ss i s lt is =
    let split : drop i ss ≡ s ∷ drop (i + 1) ss = rw add-one (drop-cons ss i s lt ∙ ap (λ x. x ∷ drop (suc i) ss) (sym is)) in
    ap (λ l. find (slice_cmp nat_cmp) name (stored_under text l)) split ∙ find_step text name s (drop (i + 1) ss)

-- ---- the keys of a map that gets one more value

lower : (o : Ordering) → T (is_lt o) → o ≡ Less
lower Less p = refl
lower Equal p = absurd p
lower Greater p = absurd p

left_of : (a b : Bool) → T (a && b) → T a
left_of true b p = tt
left_of false b p = p

right_of : (a b : Bool) → T (a && b) → T b
right_of true b p = p
right_of false b p = absurd p

module _ {K X : Type 0} {R : K → K → Ordering} (o : IsTotalOrder R) where
  -- what is below the first key is below all, and not among them
  none_below : (k x : K) (es : List (K × X)) → R k x ≡ Less → T (below_all R x es) → find R k es ≡ None
  none_below k x [] p h = refl
  none_below k x (e ∷ es) p h =
      let q : R k e.0 ≡ Less = o.trans k x e.0 p (lower _ (left_of _ _ h)) in
      ap (λ r. cond (is_eq r) (Some e.1) (find R k es)) q ∙ none_below k x es p (right_of _ _ h)

  keys_put : (k : K) (v : X) (es : List (K × X)) → T (is_sorted R es) → IsPermutation (cond (is_some (find R k es)) (map (λ e. e.0) es) (k ∷ map (λ e. e.0) es)) (map (λ e. e.0) (put R k v es))
  keys_put k v [] h = IsPermutation-refl _
  keys_put k v (e ∷ es) h =
      elim (R k e.0) as (λ r. R k e.0 ≡ r → IsPermutation (cond (is_some (cond (is_eq r) (Some e.1) (find R k es))) (e.0 ∷ map (λ e. e.0) es) (k ∷ e.0 ∷ map (λ e. e.0) es)) (map (λ e. e.0) (by_order r ((k, v) ∷ e ∷ es) ((e.0, v) ∷ es) (e ∷ put R k v es)))) [
        | Less ↦ λ p. subst (λ (x : Option X). IsPermutation (cond (is_some x) (e.0 ∷ map (λ e. e.0) es) (k ∷ e.0 ∷ map (λ e. e.0) es)) (k ∷ e.0 ∷ map (λ e. e.0) es)) (sym (none_below k e.0 es p (left_of _ _ h))) (IsPermutation-refl _)
        | Equal ↦ λ p. IsPermutation-refl _
        | Greater ↦ λ p. elim (is_some (find R k es)) as (λ b. IsPermutation (cond b (map (λ e. e.0) es) (k ∷ map (λ e. e.0) es)) (map (λ e. e.0) (put R k v es)) → IsPermutation (cond b (e.0 ∷ map (λ e. e.0) es) (k ∷ e.0 ∷ map (λ e. e.0) es)) (e.0 ∷ map (λ e. e.0) (put R k v es))) [
          | true ↦ λ rest. IsPermutation-cons e.0 _ _ rest
          | false ↦ λ rest. IsPermutation-trans _ _ _ (IsPermutation-middle (k ∷ []) e.0 (map (λ e. e.0) es)) (IsPermutation-cons e.0 _ _ rest)
        ] (keys_put k v es (right_of _ _ h))
      ] refl

  -- A name that is new goes to the end of any list of the names.
  pub keys_insert : (m : FinMap R X) (k : K) (v : X) (names : List K) → IsPermutation (keys m) names → IsPermutation (keys (insert m k v)) (cond (list_any (λ n. eq_by_cmp R n k) names) names (names ++ k ∷ []))
  keys_insert m k v names h =
      let same : is_some (find R k (entries m)) ≡ list_any (λ n. eq_by_cmp R n k) names =
      ap is_some (sym (get-entries m k)) ∙ contains_key-keys m k ∙ list_any-IsPermutation (eq_by_cmp R k) _ _ h
      ∙ (λ i. list_any (λ n. (eq_by_cmp_equiv o).symm k n i) names) in
      let put_all : IsPermutation (cond (is_some (find R k (entries m))) (keys m) (k ∷ keys m)) (keys (insert m k v)) =
      subst (λ (es : List (K × X)). IsPermutation (cond (is_some (find R k (entries m))) (keys m) (k ∷ keys m)) (map (λ e. e.0) es)) (sym (entries-insert o m k v)) (keys_put k v (entries m) (entries_sorted m)) in
      elim (list_any (λ n. eq_by_cmp R n k) names) as (λ b. IsPermutation (cond b (keys m) (k ∷ keys m)) (keys (insert m k v)) → IsPermutation (keys (insert m k v)) (cond b names (names ++ k ∷ []))) [
        | true ↦ λ p. IsPermutation-trans _ _ _ (IsPermutation-sym _ _ p) h
        | false ↦ λ p. IsPermutation-trans _ _ _ (IsPermutation-sym _ _ p) (IsPermutation-trans _ _ _ (IsPermutation-cons k _ _ h) (IsPermutation-sym _ _ (IsPermutation-to_front names k)))
      ] (subst (λ b. IsPermutation (cond b (keys m) (k ∷ keys m)) (keys (insert m k v))) same put_all)

-- the names with those of one more file
pub names_step : (text : List ℕ) (s : Stored) (ss : List Stored) (names : List (List ℕ)) → IsPermutation (keys (held_by ss text)) names → IsPermutation (keys (held_by (s ∷ ss) text)) (cond (bytes_eq text (string_bytes s.folder)) (with_name names s.name) names)
names_step text s ss names h =
    elim (bytes_eq text (string_bytes s.folder)) as (λ b. IsPermutation (keys (from_entries {R = slice_cmp nat_cmp} (cond b ((s.name, s.bytes) ∷ stored_under text ss) (stored_under text ss)))) (cond b (with_name names s.name) names)) [
      | true ↦ subst (λ b. IsPermutation (keys (insert (held_by ss text) s.name s.bytes)) (cond b names (names ++ s.name ∷ []))) (λ i. list_any (λ n. is_eq-slice_cmp n s.name i) names) (keys_insert nat_list_cmp_total (held_by ss text) s.name s.bytes names h)
      | false ↦ h
    ]

pub names_at : (text : List ℕ) (ss : List Stored) (i : ℕ) (s : Stored) (names : List (List ℕ)) → i < length ss → s ≡ get_or ss i s → IsPermutation (keys (held_by (drop (i + 1) ss) text)) names → IsPermutation (keys (held_by (drop i ss) text)) (cond (bytes_eq text (string_bytes s.folder)) (with_name names s.name) names)
names_at text ss i s names lt is h =
    let split : drop i ss ≡ s ∷ drop (i + 1) ss = rw add-one (drop-cons ss i s lt ∙ ap (λ x. x ∷ drop (suc i) ss) (sym is)) in
    subst (λ l. IsPermutation (keys (held_by l text)) (cond (bytes_eq text (string_bytes s.folder)) (with_name names s.name) names)) (sym split) (names_step text s (drop (i + 1) ss) names h)

pub no_names : (text : List ℕ) (ss : List Stored) (names : List (List ℕ)) → names ≡ [] → IsPermutation (keys (held_by (drop (length ss) ss) text)) names
no_names text ss names is =
    let nothing : drop (length ss) ss ≡ [] = drop-length ss in
    let none : FinMap (slice_cmp nat_cmp) (List ℕ) = empty in
    let no_entries : entries none ≡ [] = nil_from_length _ (sym (len-entries none) ∙ len-empty (slice_cmp nat_cmp) (List ℕ)) in
    let keys_none : keys (held_by (drop (length ss) ss) text) ≡ [] = ap (λ l. keys (held_by l text)) nothing ∙ ap (map (λ e. e.0)) no_entries in
    subst (λ ns. IsPermutation (keys (held_by (drop (length ss) ss) text)) ns) (keys_none ∙ sym is) (IsPermutation-refl _)
