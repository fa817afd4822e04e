-- What a specification of a type declares is a type.
use Rattle.std.proofs.Common.{◌≡◌, ◌∙◌, ℕ, suc, ◌≤◌, Bool, true, false, List, [], ◌∷◌, ◌++◌, map, Option, Some, None, refl, sym, ap, arith}
use Rattle.std.specs.Prelude.{if◌then◌else◌, nat_eq}
use Rattle.std.specs.List.{AllByRecursion}
use Rattle.std.proofs.lemmas.Bool.Decides.{nat_tests}
use Rattle.go_tokens.specs.declared.token.TokenKind.{TokenKind}
use Rattle.go_tokens.specs.Tokens.{TokenList, kinds}
use Rattle.go_grammar.specs.Grammar.{IsFile}
use Rattle.go_grammar.specs.Trees.{Tree, last}
use Rattle.go_tree.specs.declared.event.Event.{Event}
use Rattle.go_tree.specs.declared.event.Event.TheVariants as event
use Rattle.go_tree.specs.declared.object.Declared.{Declared}
use Rattle.go_tree.specs.Contexts.{is_package, file_context}
use Rattle.go_tree.specs.Declarations.{Found, found, found_in, found_from, is_new, new_among, declarations}
use Rattle.go_tree.specs.Events.{events}
use Rattle.go_tree.specs.Uses.{declared_by, declared_in_package, uses}
use Rattle.go_heads.specs.Functions.{AreRead}
use Rattle.go_scopes_events.proofs.Public.{true_false}
use Rattle.go_scopes_events.specs.Orders.{AreInOrder}
use Rattle.go_package_defs.specs.Answer.{specifications}
use Rattle.go_package_defs.specs.Declarations.{Specification, in_file}
use Rattle.go_package_defs.specs.Knowledge.{is_type, following, place_of, column_of, found_or, declaring}
use Rattle.go_package_defs.specs.Sources.{Source, unit_of}
use Rattle.go_heads_types.specs.Portions.{files_of, AreNamed}
use Rattle.go_heads_types.proofs.Told.{OnlyType, only_type, IsTold, AreTold, file_told}

-- ---- lists

every_append : {A : Type 0} (Q : A → Type 0) (xs ys : List A) → AllByRecursion Q xs → AllByRecursion Q ys → AllByRecursion Q (xs ++ ys)
every_append Q [] ys h g = g
every_append Q (x ∷ xs) ys h g = (h.0, every_append Q xs ys h.1 g)

every_more : {A : Type 0} (Q R : A → Type 0) → ((x : A) → Q x → R x) → (xs : List A) → AllByRecursion Q xs → AllByRecursion R xs
every_more Q R f [] h = tt
every_more Q R f (x ∷ xs) h = (f x h.0, every_more Q R f xs h.1)

both_every : {A : Type 0} (Q R S : A → Type 0) → ((x : A) → Q x → R x → S x) → (xs : List A) → AllByRecursion Q xs → AllByRecursion R xs → AllByRecursion S xs
both_every Q R S f [] h g = tt
both_every Q R S f (x ∷ xs) h g = (f x h.0 g.0, both_every Q R S f xs h.1 g.1)

-- ---- a specification and a declaration

-- Where the specification is one of a type and has the name that is declared at a token of a file, a type is declared there.
abbrev Agrees : Specification → Found → Type 0
Agrees s d = is_type s.entity ≡ true → s.file ≡ d.file → (c : ℕ) → place_of d.it.name s.names ≡ Some c → is_type d.it.entity ≡ true

abbrev AllAgree : List Found → Specification → Type 0
AllAgree ds s = AllByRecursion (Agrees s) ds

same_test : (t i : ℕ) → nat_eq t i ≡ true → t ≡ i
same_test t i e = grind (arith, nat_tests)

-- the only name
only_name : (t i c : ℕ) → place_of t (i ∷ []) ≡ Some c → t ≡ i
only_name t i c e = by (nat_eq t i) refl e
  where
    by : (b : Bool) → nat_eq t i ≡ b → (if b then Some 0 else following None) ≡ Some c → t ≡ i
    by true g h = same_test t i g
    by false g h = absurd cc

-- declarations of the file n
found_agree : (n : ℕ) (l : TokenList) (i : ℕ) (s : Specification) → s.names ≡ i ∷ [] → (es : List Event) → OnlyType i es → AllAgree (found_in n l es) s
found_agree n l i s e [] h = tt
found_agree n l i s e (event.Declaration d ∷ es) h = (λ b file c p. h.0 (only_name d.name i c (sym (ap (place_of d.name) e) ∙ p)), found_agree n l i s e es h.1)
found_agree n l i s e (other ∷ es) h = found_agree n l i s e es h

untyped_agree : (s : Specification) → is_type s.entity ≡ false → (ds : List Found) → AllAgree ds s
untyped_agree s e [] = tt
untyped_agree s e (d ∷ ds) = (λ h. absurd (true_false (is_type s.entity) h e), untyped_agree s e ds)

-- declarations of other files
other_files : (s : Specification) (ds : List Found) → AllByRecursion (λ d. s.file ≡ d.file → ⊥) ds → AllAgree ds s
other_files s [] h = tt
other_files s (d ∷ ds) h = (λ b file. absurd (h.0 file), other_files s ds h.1)

-- ---- files by their numbers

-- a file is read
abbrev Reads : Source → Type 0
Reads s = IsFile (kinds s.tokens.tokens) s.tree

all_read : (names : List (List ℕ)) (ss : List Source) → AreNamed names ss → AreRead (files_of names ss) → AllByRecursion Reads ss
all_read [] [] e h = tt
all_read [] (s ∷ ss) e h = absurd (omega (arith, e))
all_read (w ∷ ws) [] e h = tt
all_read (w ∷ ws) (s ∷ ss) e h = (h.0.tree, all_read ws ss (omega (arith, e)) h.1)

in_one_file : (n : ℕ) (l : TokenList) (es : List Event) → AllByRecursion (λ (d : Found). d.file ≡ n) (found_in n l es)
in_one_file n l [] = tt
in_one_file n l (event.Declaration d ∷ es) = (refl, in_one_file n l es)
in_one_file n l (other ∷ es) = in_one_file n l es

in_later_files : (n : ℕ) (ss : List Source) → AllByRecursion (λ (d : Found). n ≤ d.file) (found_from n (map unit_of ss))
in_later_files n [] = tt
in_later_files n (s ∷ ss) =
    let own : List Found = found_in n s.tokens (unit_of s).events in
    every_append (λ (d : Found). n ≤ d.file) own (found_from (suc n) (map unit_of ss))
    (every_more (λ (d : Found). d.file ≡ n) (λ (d : Found). n ≤ d.file) (λ d e. omega (arith, e)) own (in_one_file n s.tokens (unit_of s).events))
    (every_more (λ (d : Found). suc n ≤ d.file) (λ (d : Found). n ≤ d.file) (λ d e. omega (arith, e)) (found_from (suc n) (map unit_of ss)) (in_later_files (suc n) ss))

-- the specifications stand in files from the number n on
stand_in : (n : ℕ) (es : List Event) (xs : List Specification) → AreTold es n xs → AllByRecursion (λ (x : Specification). n ≤ x.file) xs
stand_in n es [] h = tt
stand_in n es (x ∷ xs) h = let file = h.0.file in (omega (arith, file), stand_in n es xs h.1)

later : (n : ℕ) (ss : List Source) → AllByRecursion Reads ss → AllByRecursion (λ (x : Specification). n ≤ x.file) (specifications n ss)
later n [] r = tt
later n (s ∷ ss) r =
    every_append (λ (x : Specification). n ≤ x.file) (in_file n s.tree) (specifications (suc n) ss)
    (stand_in n (unit_of s).events (in_file n s.tree) (file_told (kinds s.tokens.tokens) n s.tree r.0))
    (every_more (λ (x : Specification). suc n ≤ x.file) (λ (x : Specification). n ≤ x.file) (λ x e. omega (arith, e)) (specifications (suc n) ss) (later (suc n) ss r.1))

later_agree : (n : ℕ) (s : Source) (ss : List Source) (x : Specification) → suc n ≤ x.file → AllAgree (found_from (suc n) (map unit_of ss)) x
    → AllAgree (found_in n s.tokens (unit_of s).events ++ found_from (suc n) (map unit_of ss)) x
later_agree n s ss x lt h =
    every_append (Agrees x) (found_in n s.tokens (unit_of s).events) (found_from (suc n) (map unit_of ss))
    (other_files x (found_in n s.tokens (unit_of s).events)
    (every_more (λ (d : Found). d.file ≡ n) (λ d. x.file ≡ d.file → ⊥) (λ d e f. omega (arith, lt, e, f)) (found_in n s.tokens (unit_of s).events) (in_one_file n s.tokens (unit_of s).events)))
    h

-- ---- what declares an object

-- Where a specification of a type declares the object, it is a type.
abbrev pub Declares : List Specification → Declared → Type 0
Declares xs d = is_type (declaring xs d.file d.name).0.entity ≡ true → is_type d.entity ≡ true

column_there : (n t : ℕ) (x : Specification) (o : Option ℕ) → column_of n t x ≡ o → (c : ℕ) → o ≡ Some c → (x.file ≡ n) × (place_of t x.names ≡ Some c)
column_there n t x o e c f = by (nat_eq x.file n) refl (e ∙ f)
  where
    by : (b : Bool) → nat_eq x.file n ≡ b → (if b then place_of t x.names else None) ≡ Some c → (x.file ≡ n) × (place_of t x.names ≡ Some c)
    by true g h = (same_test x.file n g, h)
    by false g h = absurd cc

one_declares : (x : Specification) (xs : List Specification) (d : Found) → Agrees x d → Declares xs (declared_by d) → (o : Option ℕ) → column_of d.file d.it.name x ≡ o
    → is_type (found_or x o (declaring xs d.file d.it.name)).0.entity ≡ true → is_type d.it.entity ≡ true
one_declares x xs d a h (Some c) e t = let z = column_there d.file d.it.name x (Some c) e c refl in a t z.0 c z.1
one_declares x xs d a h None e t = h t

declares : (xs : List Specification) (d : Found) → AllByRecursion (λ x. Agrees x d) xs → Declares xs (declared_by d)
declares [] d a h = absurd (true_false false h refl)
declares (x ∷ xs) d a h = one_declares x xs d a.0 (declares xs d a.1) (column_of d.file d.it.name x) refl h

heads : (d : Found) (ds : List Found) (xs : List Specification) → AllByRecursion (AllAgree (d ∷ ds)) xs → AllByRecursion (λ x. Agrees x d) xs
heads d ds xs h = every_more (AllAgree (d ∷ ds)) (λ x. Agrees x d) (λ x g. g.0) xs h

tails : (d : Found) (ds : List Found) (xs : List Specification) → AllByRecursion (AllAgree (d ∷ ds)) xs → AllByRecursion (AllAgree ds) xs
tails d ds xs h = every_more (AllAgree (d ∷ ds)) (AllAgree ds) (λ x g. g.1) xs h

all_declare : (xs : List Specification) (ds : List Found) → AllByRecursion (AllAgree ds) xs → AllByRecursion (λ d. Declares xs (declared_by d)) ds
all_declare xs [] h = tt
all_declare xs (d ∷ ds) h = (declares xs d (heads d ds xs h), all_declare xs ds (tails d ds xs h))

every_new : (Q : Found → Type 0) (all ds : List Found) → AllByRecursion Q ds → AllByRecursion Q (new_among all ds)
every_new Q all [] h = tt
every_new Q all (d ∷ ds) h = by (is_new all d) (every_new Q all ds h.1)
  where
    by : (b : Bool) → AllByRecursion Q (new_among all ds) → AllByRecursion Q (if b then d ∷ new_among all ds else new_among all ds)
    by true g = (h.0, g)
    by false g = g

every_declared : (Q : Declared → Type 0) (ds : List Found) → AllByRecursion (λ d. Q (declared_by d)) ds → AllByRecursion Q (declared_in_package ds)
every_declared Q [] h = tt
every_declared Q (d ∷ ds) h = by (is_package d.it.block) (every_declared Q ds h.1)
  where
    by : (b : Bool) → AllByRecursion Q (declared_in_package ds) → AllByRecursion Q (if b then declared_by d ∷ declared_in_package ds else declared_in_package ds)
    by true g = (h.0, g)
    by false g = g

-- ---- packages

-- names stand in the order of their tokens
module _ (order : (ts : List TokenKind) (t : Tree) → IsFile ts t → AreInOrder 0 (last t) (events (file_context (last t)) t)) where
  one_agrees : (n : ℕ) (s : Source) → Reads s → (x : Specification) → IsTold (unit_of s).events n x → AllAgree (found_in n s.tokens (unit_of s).events) x
  one_agrees n s r x h = by (is_type x.entity) refl
    where
      by : (b : Bool) → is_type x.entity ≡ b → AllAgree (found_in n s.tokens (unit_of s).events) x
      by true e = let z = h.told e in found_agree n s.tokens z.0 x z.1 (unit_of s).events (only_type z.0 0 (last s.tree) (unit_of s).events (order (kinds s.tokens.tokens) s.tree r) z.2)
      by false e = untyped_agree x e (found_in n s.tokens (unit_of s).events)

  -- specifications of the file n, and the declarations of all files from there on
  file_agrees : (n : ℕ) (s : Source) (ss : List Source) → Reads s → (xs : List Specification) → AreTold (unit_of s).events n xs
      → AllByRecursion (AllAgree (found_in n s.tokens (unit_of s).events ++ found_from (suc n) (map unit_of ss))) xs
  file_agrees n s ss r [] h = tt
  file_agrees n s ss r (x ∷ xs) h =
      let file = h.0.file in (
        every_append (Agrees x) (found_in n s.tokens (unit_of s).events) (found_from (suc n) (map unit_of ss)) (one_agrees n s r x h.0)
            (other_files x (found_from (suc n) (map unit_of ss))
            (every_more (λ (d : Found). suc n ≤ d.file) (λ d. x.file ≡ d.file → ⊥) (λ d e f. omega (arith, file, e, f)) (found_from (suc n) (map unit_of ss)) (in_later_files (suc n) ss))),
        file_agrees n s ss r xs h.1,
      )

  all_agree : (n : ℕ) (ss : List Source) → AllByRecursion Reads ss → AllByRecursion (AllAgree (found_from n (map unit_of ss))) (specifications n ss)
  all_agree n [] r = tt
  all_agree n (s ∷ ss) r =
      every_append (AllAgree (found_from n (map unit_of (s ∷ ss)))) (in_file n s.tree) (specifications (suc n) ss)
      (file_agrees n s ss r.0 (in_file n s.tree) (file_told (kinds s.tokens.tokens) n s.tree r.0))
      (both_every (λ (x : Specification). suc n ≤ x.file) (AllAgree (found_from (suc n) (map unit_of ss))) (AllAgree (found_from n (map unit_of (s ∷ ss)))) (λ x lt h. later_agree n s ss x lt h)
      (specifications (suc n) ss) (later (suc n) ss r.1) (all_agree (suc n) ss r.1))

  -- Objects that specifications of types declare are types.
  pub types_declared : (names : List (List ℕ)) (ss : List Source) → AreNamed names ss → AreRead (files_of names ss) → AllByRecursion (Declares (specifications 0 ss)) (uses (map unit_of ss)).package_level
  types_declared names ss e h =
      let xs : List Specification = specifications 0 ss in
      let ds : List Found = found (map unit_of ss) in
      every_declared (Declares xs) (declarations (map unit_of ss))
      (every_new (λ d. Declares xs (declared_by d)) ds ds (all_declare xs ds (all_agree 0 ss (all_read names ss e h))))
