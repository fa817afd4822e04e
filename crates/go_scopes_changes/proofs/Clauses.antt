-- Rules on the clauses of packages with equal heads: the names of packages, and names that may not be declared.
use Rattle.std.proofs.Common.{◌≡◌, ◌∙◌, ℕ, suc, ◌<◌, ◌≤◌, inr, Bool, true, false, List, [], ◌∷◌, ◌++◌, map, length, refl, sym, ap, subst, arith}
use Rattle.std.specs.Prelude.{if◌then◌else◌, ◌&&◌, ◌||◌, not}
use Rattle.go_tokens.specs.Spellings.{same_text}
use Rattle.go_tokens.specs.declared.token.TokenKind.{TokenKind}
use Rattle.go_tokens.specs.Tokens.{kinds}
use Rattle.go_grammar.specs.declared.kind.Category.TheVariants as category
use Rattle.go_grammar.specs.declared.kind.Kind.TheVariants as kind
use Rattle.go_grammar.specs.Grammar.{IsFile}
use Rattle.go_grammar.specs.Rules.{Many}
use Rattle.go_grammar.specs.Trees.{Tree, node, none, more, skip, first, last, parts}
use Rattle.go_rewriting.specs.Lists.{Ordered}
use Rattle.go_rewriting.proofs.Public.{spells_ordered, row_order, tree_order, derives_ordered}
use Rattle.go_tree.specs.declared.context.Block.{Block}
use Rattle.go_tree.specs.declared.context.Block.TheVariants as block
use Rattle.go_tree.specs.declared.context.Entity.{Entity}
use Rattle.go_tree.specs.declared.context.Entity.TheVariants as entity
use Rattle.go_tree.specs.declared.event.Declaration.{Declaration}
use Rattle.go_tree.specs.declared.event.Event.{Event}
use Rattle.go_tree.specs.declared.event.Event.TheVariants as event
use Rattle.go_tree.specs.Clauses.{first_name, other_names, package_names, imports, is_outside, outside_declarations, missing_bodies}
use Rattle.go_tree.specs.Contexts.{is_package, file_context}
use Rattle.go_tree.specs.Declarations.{Found, found, found_in, found_from}
use Rattle.go_base.specs.declared.fault.FaultCode.TheVariants as code
use Rattle.go_tree.specs.Failures.{Failure, failing, place_if}
use Rattle.go_tree.specs.Faults.{clause_faults}
use Rattle.go_tree.specs.Units as names
use Rattle.go_tree.specs.Units.{word, is_blank, bytes_at}
use Rattle.go_scopes_events.specs.Orders.{BeginsIn, EachDeclared, IsFollowed}
use Rattle.go_scopes_events.proofs.Public.{derives_laid, derives_layered, each_between, events_order, file_follows, true_false}
use Rattle.go_heads.specs.Functions.{AreRead}
use Rattle.go_heads.specs.Heads.{File, IsRead, Head, head_of, heads, in_bodies}
use Rattle.go_heads.specs.Objects.{units_of}
use Rattle.go_heads.specs.Told.{Told, declares, asks, new_name, asked_name, told, placed, file_events, told_outside}
use Rattle.go_heads.proofs.Public.{IsHeaded, file_headed, first_same, others_same, some_not_none, place_next, row_before}
use Rattle.go_scopes_changes.proofs.Entries.{or_both, or_left, or_right}
use Rattle.go_scopes_changes.proofs.Imports.{paths_stay}
use Rattle.go_scopes_changes.proofs.Lookups.{failing_none}
use Rattle.go_scopes_changes.proofs.Outsides.{CarriedTell, lines}
use Rattle.go_scopes_changes.proofs.Pairs.{at_place, place_in, text_in_head, text_at_place, none_if, if_none, left_none, right_none, none_both}
use Rattle.go_scopes_changes.proofs.Places.{token_at_place}

-- ---- the names of packages

-- The first two tokens are in no body.
record Begins (ts : List TokenKind) (p : ℕ → Bool) : Type 0 where
  word : p 0 ≡ false
  name : p 1 ≡ false
  some : 1 ≤ length ts

begins : (ts : List TokenKind) (t : Tree) → IsFile ts t → Begins ts (in_bodies (parts t))
begins ts (node kind.File i j none) f = absurd f.derives.1
begins ts (node kind.File i j (skip ds)) f =
    let h = f.derives.1 in
    let others : Ordered h.0 ds j = spells_ordered ts ds (Many [] lines) h.0 j h.2 in
    let three : suc (suc (suc i)) ≡ h.0 = h.1.1.1.1 in
    let behind : h.0 ≤ j = row_order ds h.0 j others in
    record { word = row_before ds h.0 j 0 others (omega arith); name = row_before ds h.0 j 1 others (omega (arith, three)); some = omega (arith, three, behind, f.ends) }
begins ts (node kind.File i j (more d ds)) f =
    let h = f.derives.1 in
    let others : Ordered (last d) ds j = spells_ordered ts ds (Many [] lines) (last d) j h.2 in
    let order = derives_ordered ts d category.Imports h.1 in
    let whole : Ordered (first d) (more d ds) j = (omega arith, order, others) in
    let three : suc (suc (suc i)) ≡ first d = h.0.1.1.1 in
    let in_d : first d < last d = tree_order d order in
    let behind : last d ≤ j = row_order ds (last d) j others in
    record { word = row_before (more d ds) (first d) j 0 whole (omega arith); name = row_before (more d ds) (first d) j 1 whole (omega (arith, three)); some = omega (arith, three, in_d, behind, f.ends) }
begins ts (node k i j ps) f = absurd (true_false false f.derives.0 refl)

-- the name of the package is that in the head
name_in_head : (f : File) → IsRead f → word f.tokens 1 ≡ text_in_head (head_of f) 1
name_in_head f r =
    let p : ℕ → Bool = in_bodies (parts f.tree) in
    let b : Begins (kinds f.tokens.tokens) p = begins (kinds f.tokens.tokens) f.tree r.tree in
    ap (word f.tokens) (sym (ap (at_place f) (sym (place_next p 0 b.word)) ∙ token_at_place p (length (kinds f.tokens.tokens)) 1 b.some (inr b.name))) ∙ text_at_place f 1

same_name : (a b : File) → IsRead a → IsRead b → head_of a ≡ head_of b → word b.tokens 1 ≡ word a.tokens 1
same_name a b r s e = name_in_head b s ∙ ap (λ (h : Head). text_in_head h 1) (sym e) ∙ sym (name_in_head a r)

others_stay : (w : List ℕ) (n : ℕ) (old new : List File) → AreRead old → AreRead new → heads old ≡ heads new → other_names w n (units_of old) ≡ [] → other_names w n (units_of new) ≡ []
others_stay w n [] [] h k e f = refl
others_stay w n [] (b ∷ bs) h k e f = absurd (some_not_none (head_of b) (heads bs) (sym e))
others_stay w n (a ∷ xs) [] h k e f = refl
others_stay w n (a ∷ xs) (b ∷ bs) h k e f =
    let here = none_if (is_blank (word a.tokens 1) || not (same_text (word a.tokens 1) w)) (bytes_at n a.tokens 1) (other_names w (suc n) (units_of xs)) f in
    if_none (is_blank (word b.tokens 1) || not (same_text (word b.tokens 1) w)) (bytes_at n b.tokens 1) (other_names w (suc n) (units_of bs))
    (ap (λ x. is_blank x || not (same_text x w)) (same_name a b h.0 k.0 (first_same (head_of a) (head_of b) (heads xs) (heads bs) e)) ∙ here.0)
    (others_stay w (suc n) xs bs h.1 k.1 (others_same (head_of a) (head_of b) (heads xs) (heads bs) e) here.1)

first_stays : (old new : List File) → AreRead old → AreRead new → heads old ≡ heads new → first_name (units_of new) ≡ first_name (units_of old)
first_stays [] [] h k e = refl
first_stays [] (b ∷ bs) h k e = absurd (some_not_none (head_of b) (heads bs) (sym e))
first_stays (a ∷ xs) [] h k e = absurd (some_not_none (head_of a) (heads xs) e)
first_stays (a ∷ xs) (b ∷ bs) h k e = same_name a b h.0 k.0 (first_same (head_of a) (head_of b) (heads xs) (heads bs) e)

pub package_names_stay : (old new : List File) → AreRead old → AreRead new → heads old ≡ heads new → package_names (units_of old) ≡ [] → package_names (units_of new) ≡ []
package_names_stay old new h k e f = ap (λ w. other_names w 0 (units_of new)) (first_stays old new h k e) ∙ others_stay (first_name (units_of old)) 0 old new h k e f

-- ---- names that may not be declared

abbrev is_bad : Head → Told → Bool
is_bad h (declares x) = is_outside x.entity block.Package (text_in_head h x.name)
is_bad h (asks x) = false

abbrev any_bad : Head → List Told → Bool
any_bad h [] = false
any_bad h (x ∷ xs) = is_bad h x || any_bad h xs

module _ (n : ℕ) (f : File) where
  abbrev p : ℕ → Bool
  p = in_bodies (parts f.tree)

  abbrev z : ℕ
  z = length (kinds f.tokens.tokens)

  abbrev m : ℕ → ℕ
  m = place_in f

  -- what is known of each declaration
  pub record IsKnown (d : Declaration) : Type 0 where
    pub headed : is_package d.block ≡ true → p d.name ≡ false
    pub local : is_package d.block ≡ false → is_outside d.entity d.block (word f.tokens d.name) ≡ false
    pub early : d.name ≤ z

  abbrev listing : List Event → List Told
  listing es = map (placed m) (told p es)

  name_text : (d : Declaration) → IsKnown d → is_package d.block ≡ true → word f.tokens d.name ≡ text_in_head (head_of f) (m d.name)
  name_text d g e = ap (word f.tokens) (sym (token_at_place p z d.name g.early (inr (g.headed e)))) ∙ text_at_place f (m d.name)

  outer_same : (b : Block) (x : Entity) (w : List ℕ) → is_package b ≡ true → is_outside x b w ≡ is_outside x block.Package w
  outer_same block.Package x w e = refl
  outer_same (block.Local i) x w e = absurd (true_false false e refl)

  -- of a declaration in front of others
  one_bad : (d : Declaration) (es : List Event) (b : Bool) → is_package d.block ≡ b → IsKnown d
      → any_bad (head_of f) (listing (event.Declaration d ∷ es)) ≡ (is_outside d.entity d.block (word f.tokens d.name) || any_bad (head_of f) (listing es))
  one_bad d es true e g =
      ap (λ x. any_bad (head_of f) (map (placed m) (if x && not (p d.name) then declares (new_name d) ∷ told p es else told p es))) e
      ∙ ap (λ x. any_bad (head_of f) (map (placed m) (if true && not x then declares (new_name d) ∷ told p es else told p es))) (g.headed e)
      ∙ ap (λ w. is_outside d.entity block.Package w || any_bad (head_of f) (listing es)) (sym (name_text d g e))
      ∙ ap (λ x. x || any_bad (head_of f) (listing es)) (sym (outer_same d.block d.entity (word f.tokens d.name) e))
  one_bad d es false e g =
      ap (λ x. any_bad (head_of f) (map (placed m) (if x && not (p d.name) then declares (new_name d) ∷ told p es else told p es))) e
      ∙ ap (λ x. x || any_bad (head_of f) (listing es)) (sym (g.local e))

  asked_aside : (x : Told) (xs : List Told) (b : Bool) → is_bad (head_of f) (placed m x) ≡ false → any_bad (head_of f) (map (placed m) (if b then xs else x ∷ xs)) ≡ any_bad (head_of f) (map (placed m) xs)
  asked_aside x xs true e = refl
  asked_aside x xs false e = ap (λ b. b || any_bad (head_of f) (map (placed m) xs)) e

  bad_to : (es : List Event) → EachDeclared IsKnown es → outside_declarations (found_in n f.tokens es) ≡ [] → any_bad (head_of f) (listing es) ≡ false
  bad_to [] g e = refl
  bad_to (event.Declaration d ∷ es) g e =
      let here = none_if (is_outside d.entity d.block (word f.tokens d.name)) (bytes_at n f.tokens d.name) (outside_declarations (found_in n f.tokens es)) e in
      one_bad d es (is_package d.block) refl g.0 ∙ or_both (is_outside d.entity d.block (word f.tokens d.name)) (any_bad (head_of f) (listing es)) here.0 (bad_to es g.1 here.1)
  bad_to (event.Use u ∷ es) g e = asked_aside (asks (asked_name u)) (told p es) (p u.name) refl ∙ bad_to es g e
  bad_to (event.Import i ∷ es) g e = bad_to es g e
  bad_to (event.Member a b i ∷ es) g e = bad_to es g e
  bad_to (event.Bodiless i j ∷ es) g e = bad_to es g e
  bad_to (event.Statement i j ∷ es) g e = bad_to es g e
  bad_to (event.Misplaced i j ∷ es) g e = bad_to es g e
  bad_to (event.SecondDefault i ∷ es) g e = bad_to es g e

  bad_from : (es : List Event) → EachDeclared IsKnown es → any_bad (head_of f) (listing es) ≡ false → outside_declarations (found_in n f.tokens es) ≡ []
  bad_from [] g e = refl
  bad_from (event.Declaration d ∷ es) g e =
      let both : (is_outside d.entity d.block (word f.tokens d.name) || any_bad (head_of f) (listing es)) ≡ false = sym (one_bad d es (is_package d.block) refl g.0) ∙ e in
      if_none (is_outside d.entity d.block (word f.tokens d.name)) (bytes_at n f.tokens d.name) (outside_declarations (found_in n f.tokens es))
      (or_left (is_outside d.entity d.block (word f.tokens d.name)) (any_bad (head_of f) (listing es)) both)
      (bad_from es g.1 (or_right (is_outside d.entity d.block (word f.tokens d.name)) (any_bad (head_of f) (listing es)) both))
  bad_from (event.Use u ∷ es) g e = bad_from es g (sym (asked_aside (asks (asked_name u)) (told p es) (p u.name) refl) ∙ e)
  bad_from (event.Import i ∷ es) g e = bad_from es g e
  bad_from (event.Member a b i ∷ es) g e = bad_from es g e
  bad_from (event.Bodiless i j ∷ es) g e = bad_from es g e
  bad_from (event.Statement i j ∷ es) g e = bad_from es g e
  bad_from (event.Misplaced i j ∷ es) g e = bad_from es g e
  bad_from (event.SecondDefault i ∷ es) g e = bad_from es g e

  -- no local is a function
  local_fine : (b : Block) (x : Entity) (w : List ℕ) (name from to : ℕ) (d : Declaration) → d.block ≡ b → d.entity ≡ x → IsFollowed d → is_package b ≡ false → is_outside x b w ≡ false
  local_fine block.Package x w name from to d q r g e = absurd (true_false true refl e)
  local_fine (block.Local i) entity.Function w name from to d q r g e = absurd (no_function d i q r g)
    where
      no_function : (d : Declaration) (i : ℕ) → d.block ≡ block.Local i → d.entity ≡ entity.Function → IsFollowed d → ⊥
      no_function d i q r g = subst (λ y. BeginsIn (block.Local i) y d.name d.scope.from) r (subst (λ y. BeginsIn y d.entity d.name d.scope.from) q g.0)
  local_fine (block.Local i) x w name from to d q r g e = refl

  three_known : (es : List Event) → EachDeclared (IsHeaded (kinds f.tokens.tokens) p) es → EachDeclared IsFollowed es → EachDeclared (λ d. (first f.tree ≤ d.name) × (d.name < last f.tree)) es → last f.tree ≡ z → EachDeclared IsKnown es
  three_known [] g h k e = tt
  three_known (event.Declaration d ∷ es) g h k e =
      (record { headed = λ x. (g.0 x).1; local = local_fine d.block d.entity (word f.tokens d.name) 0 0 0 d refl refl h.0; early = omega (arith, k.0.1, e) }, three_known es g.1 h.1 k.1 e)
  three_known (event.Use u ∷ es) g h k e = three_known es g h k e
  three_known (event.Import i ∷ es) g h k e = three_known es g h k e
  three_known (event.Member a b i ∷ es) g h k e = three_known es g h k e
  three_known (event.Bodiless i j ∷ es) g h k e = three_known es g h k e
  three_known (event.Statement i j ∷ es) g h k e = three_known es g h k e
  three_known (event.Misplaced i j ∷ es) g h k e = three_known es g h k e
  three_known (event.SecondDefault i ∷ es) g h k e = three_known es g h k e

  file_known : IsRead f → EachDeclared IsKnown (file_events f)
  file_known r =
      let ts = kinds f.tokens.tokens in
      let laid = derives_laid ts f.tree category.File r.tree.derives in
      three_known (file_events f) (file_headed ts f.tree r.tree) (file_follows f.tree (derives_layered ts f.tree category.File r.tree.derives) laid)
      (each_between (first f.tree) (last f.tree) (first f.tree) (last f.tree) (file_events f) (omega arith) (omega arith) (events_order (file_context (last f.tree)) f.tree laid)) r.tree.ends

outside_append : (xs ys : List Found) → outside_declarations (xs ++ ys) ≡ outside_declarations xs ++ outside_declarations ys
outside_append [] ys = refl
outside_append (d ∷ ds) ys = by (is_outside d.it.entity d.it.block d.name) (outside_append ds ys)
  where
    by : (b : Bool) → outside_declarations (ds ++ ys) ≡ outside_declarations ds ++ outside_declarations ys → place_if b d.place (outside_declarations (ds ++ ys)) ≡ place_if b d.place (outside_declarations ds) ++ outside_declarations ys
    by true e = ap (λ zs. d.place ∷ zs) e
    by false e = e

abbrev pub TellTheSame : Type 0
TellTheSame = (a b : File) → IsRead a → IsRead b → head_of a ≡ head_of b → told_outside b ≡ told_outside a

pub declarations_stay : TellTheSame → (n : ℕ) (old new : List File) → AreRead old → AreRead new → heads old ≡ heads new → outside_declarations (found_from n (units_of old)) ≡ [] → outside_declarations (found_from n (units_of new)) ≡ []
declarations_stay tell n [] [] h k e f = refl
declarations_stay tell n [] (b ∷ bs) h k e f = absurd (some_not_none (head_of b) (heads bs) (sym e))
declarations_stay tell n (a ∷ xs) [] h k e f = refl
declarations_stay tell n (a ∷ xs) (b ∷ bs) h k e f =
    let one : head_of a ≡ head_of b = first_same (head_of a) (head_of b) (heads xs) (heads bs) e in
    let here : List Found = found_in n a.tokens (file_events a) in
    let rest : List Found = found_from (suc n) (units_of xs) in
    let split : outside_declarations here ++ outside_declarations rest ≡ [] = sym (outside_append here rest) ∙ f in
    outside_append (found_in n b.tokens (file_events b)) (found_from (suc n) (units_of bs))
    ∙ none_both (outside_declarations (found_in n b.tokens (file_events b))) (outside_declarations (found_from (suc n) (units_of bs)))
    (bad_from n b (file_events b) (file_known n b k.0)
    (ap (any_bad (head_of b)) (tell a b h.0 k.0 one) ∙ ap (λ x. any_bad x (told_outside a)) (sym one) ∙ bad_to n a (file_events a) (file_known n a h.0) (left_none (outside_declarations here) (outside_declarations rest) split)))
    (declarations_stay tell (suc n) xs bs h.1 k.1 (others_same (head_of a) (head_of b) (heads xs) (heads bs) e) (right_none (outside_declarations here) (outside_declarations rest) split))

-- ---- all rules on clauses

pub clauses_stay : CarriedTell → TellTheSame → (old new : List File) → AreRead old → AreRead new → heads old ≡ heads new
    → clause_faults (units_of old) ≡ [] → missing_bodies (found (units_of new)) (units_of new) ≡ [] → clause_faults (units_of new) ≡ []
clauses_stay carried tell old new h k e f bodies =
    let us = units_of old in
    let vs = units_of new in
    let a : List Failure = failing code.PackageName (package_names us) in
    let b : List Failure = failing code.Outside (imports us) in
    let c : List Failure = failing code.Outside (outside_declarations (found us)) in
    let d : List Failure = failing code.Outside (missing_bodies (found us) us) in
    let three = left_none ((a ++ b) ++ c) d f in
    let two = left_none (a ++ b) c three in
    ap (λ z. failing code.PackageName z ++ failing code.Outside (imports vs) ++ failing code.Outside (outside_declarations (found vs)) ++ failing code.Outside (missing_bodies (found vs) vs))
    (package_names_stay old new h k e (failing_none code.PackageName (package_names us) (left_none a b two)))
    ∙ ap (λ z. failing code.Outside z ++ failing code.Outside (outside_declarations (found vs)) ++ failing code.Outside (missing_bodies (found vs) vs))
    (paths_stay carried 0 old new h k e (failing_none code.Outside (imports us) (right_none a b two)))
    ∙ ap (λ z. failing code.Outside z ++ failing code.Outside (missing_bodies (found vs) vs))
    (declarations_stay tell 0 old new h k e (failing_none code.Outside (outside_declarations (found us)) (right_none (a ++ b) c three)))
    ∙ ap (failing code.Outside) bodies

-- no function lacks its body where none of these rules fails
pub no_missing : (us : List names.Unit) → clause_faults us ≡ [] → missing_bodies (found us) us ≡ []
no_missing us f =
    failing_none code.Outside (missing_bodies (found us) us)
    (right_none (failing code.PackageName (package_names us) ++ failing code.Outside (imports us) ++ failing code.Outside (outside_declarations (found us))) (failing code.Outside (missing_bodies (found us) us)) f)
