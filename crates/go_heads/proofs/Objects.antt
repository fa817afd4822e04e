-- The objects of a package are told by the heads of its files.
use Rattle.std.proofs.Common.{◌≡◌, ◌∙◌, ℕ, suc, ◌+◌, Bool, true, false, List, [], ◌∷◌, ◌++◌, map, length, Option, Some, None, refl, sym, ap, arith}
use Rattle.std.specs.Prelude.{if◌then◌else◌, ◌&&◌, not, slice_get, option_map}
use Rattle.std.proofs.lemmas.List.{map-append, length-map}
use Rattle.std.proofs.lemmas.Option.{slice_get-map}
use Rattle.go_tokens.specs.declared.token.Token.{Token}
use Rattle.go_tokens.specs.Tokens.{TokenList, kinds, text_of}
use Rattle.go_grammar.specs.Trees.{parts}
use Rattle.go_tree.specs.declared.context.Entity.{Entity}
use Rattle.go_tree.specs.declared.context.Manner.TheVariants as manner
use Rattle.go_tree.specs.declared.event.Declaration.{Declaration}
use Rattle.go_tree.specs.declared.event.Event.{Event}
use Rattle.go_tree.specs.declared.event.Event.TheVariants as event
use Rattle.go_tree.specs.declared.object.Declared.{Declared}
use Rattle.go_tree.specs.Contexts.{is_package}
use Rattle.go_tree.specs.Declarations.{Found, found_in, found_from, may_be_reused, is_reused, is_new, new_among}
use Rattle.go_tree.specs.Units.{word, text_in, is_blank, bytes_at}
use Rattle.go_tree.specs.Uses.{declared_by, declared_in_package}
use Rattle.go_typed.specs.Packages.{Counts, no_counts, counted, referent_of, referents_from}
use Rattle.go_scopes_events.specs.Orders.{EachDeclared}
use Rattle.go_heads.specs.Functions.{AreRead}
use Rattle.go_heads.specs.Heads.{File, Head, head_of, heads, in_bodies, place_outside, texts}
use Rattle.go_heads.proofs.Counting.{stands_outside}
use Rattle.go_heads.proofs.Files.{first_same, others_same, some_not_none}
use Rattle.go_heads.proofs.Functions.{same_some}
use Rattle.go_heads.specs.Objects.{units_of, package_objects, file_there, file_in, text_at, head_place, SameObject, KeepsObjects}
use Rattle.go_heads.specs.Told.{Told, declares, asks, new_name, told, placed, file_events, told_outside}
use Rattle.go_heads.proofs.Declared.{IsHeaded, file_headed}
use Rattle.go_heads.proofs.Outside.{heads_told}

-- an object by the head of its file
pub record Entry : Type 0 where
  pub file : ℕ
  pub place : ℕ
  pub text : List ℕ
  pub entity : Entity

abbrev pub entry : List File → Declared → Entry
entry fs d = record { file = d.file; place = head_place fs d.file d.name; text = text_at fs d.file d.name; entity = d.entity }

abbrev pub text_there : Option (List ℕ) → List ℕ
text_there None = []
text_there (Some w) = w

-- the text at a place of a head
abbrev pub head_text : File → ℕ → List ℕ
head_text f k = text_there (slice_get (head_of f).texts k)

-- the objects that a file declares, by what it tells
abbrev listed : ℕ → (ℕ → List ℕ) → List Told → List Entry
listed n w [] = []
listed n w (declares x ∷ xs) = if is_blank (w x.name) then listed n w xs else record { file = n; place = x.name; text = w x.name; entity = x.entity } ∷ listed n w xs
listed n w (asks x ∷ xs) = listed n w xs

there_mapped : (l : TokenList) (o : Option Token) → text_in l o ≡ text_there (option_map (text_of l) o)
there_mapped l None = refl
there_mapped l (Some t) = refl

there_same : (l : TokenList) (n : ℕ) → word l n ≡ text_there (slice_get (texts l) n)
there_same l n = there_mapped l (slice_get l.tokens n) ∙ ap text_there (sym (slice_get-map (text_of l) l.tokens n))

-- a token outside of bodies has the text at its place in the head
pub head_word : (f : File) (n : ℕ) → in_bodies (parts f.tree) n ≡ false → head_text f (place_outside (in_bodies (parts f.tree)) n) ≡ word f.tokens n
head_word f n e = ap text_there (stands_outside (in_bodies (parts f.tree)) (texts f.tokens) n e) ∙ sym (there_same f.tokens n)

-- ---- one file

module _ (all : List File) (among : List Found) (n : ℕ) (f : File) (here : file_in all n ≡ f) where
  abbrev p : ℕ → Bool
  p = in_bodies (parts f.tree)

  abbrev m : ℕ → ℕ
  m = place_outside p

  abbrev find : Declaration → Found
  find d = record { file = n; name = word f.tokens d.name; place = bytes_at n f.tokens d.name; it = d }

  abbrev objects_among : List Found → List Entry
  objects_among ds = map (entry all) (declared_in_package (new_among among ds))

  abbrev entry_by : Declaration → Entry
  entry_by d = record { file = n; place = m d.name; text = word f.tokens d.name; entity = d.entity }

  find_entry : (d : Declaration) → entry all (declared_by (find d)) ≡ entry_by d
  find_entry d = ap (λ (g : File). let e : Entry = record { file = n; place = place_outside (in_bodies (parts g.tree)) d.name; text = word g.tokens d.name; entity = d.entity } in e) here

  unless_reused : (b c : Bool) → not b && not (false && c) ≡ not b
  unless_reused true c = refl
  unless_reused false c = refl

  new_by : (d : Declaration) → d.manner ≡ manner.Declared → is_new among (find d) ≡ not (is_blank (word f.tokens d.name))
  new_by d e =
      ap (λ x. not (is_blank (word f.tokens d.name)) && not (may_be_reused x && is_reused (find d) among)) e
      ∙ unless_reused (is_blank (word f.tokens d.name)) (is_reused (find d) among)

  -- one of the package block, in front of others
  in_package : (d : Declaration) (ds : List Found) (xs : List Entry) (blank : Bool) → objects_among ds ≡ xs → is_package d.block ≡ true
      → map (entry all) (declared_in_package (if not blank then find d ∷ new_among among ds else new_among among ds)) ≡ (if blank then xs else entry_by d ∷ xs)
  in_package d ds xs true e b = e
  in_package d ds xs false e b =
      ap (λ x. map (entry all) (if x then declared_by (find d) ∷ declared_in_package (new_among among ds) else declared_in_package (new_among among ds))) b
      ∙ ap (λ x. x ∷ objects_among ds) (find_entry d) ∙ ap (λ ys. entry_by d ∷ ys) e

  -- and a local one
  not_in_package : (d : Declaration) (ds : List Found) (new : Bool) → is_package d.block ≡ false
      → map (entry all) (declared_in_package (if new then find d ∷ new_among among ds else new_among among ds)) ≡ objects_among ds
  not_in_package d ds false b = refl
  not_in_package d ds true b = ap (λ x. map (entry all) (if x then declared_by (find d) ∷ declared_in_package (new_among among ds) else declared_in_package (new_among among ds))) b

  abbrev listing : List Event → List Entry
  listing es = listed n (head_text f) (map (placed m) (told p es))

  listed_one : (d : Declaration) (es : List Event) → p d.name ≡ false → listed n (head_text f) (map (placed m) (declares (new_name d) ∷ told p es)) ≡ (if is_blank (word f.tokens d.name) then listing es else entry_by d ∷ listing es)
  listed_one d es e = ap (λ w. if is_blank w then listing es else record { file = n; place = m d.name; text = w; entity = d.entity } ∷ listing es) (head_word f d.name e)

  one : (d : Declaration) (es : List Event) (b : Bool) → is_package d.block ≡ b → IsHeaded (kinds f.tokens.tokens) p d → objects_among (found_in n f.tokens es) ≡ listing es
      → objects_among (found_in n f.tokens (event.Declaration d ∷ es)) ≡ listing (event.Declaration d ∷ es)
  one d es true b h e =
      let g = h b in
      ap (λ x. map (entry all) (declared_in_package (if x then find d ∷ new_among among (found_in n f.tokens es) else new_among among (found_in n f.tokens es)))) (new_by d g.0)
      ∙ in_package d (found_in n f.tokens es) (listing es) (is_blank (word f.tokens d.name)) e b
      ∙ sym (listed_one d es g.1)
      ∙ sym (ap (λ x. listed n (head_text f) (map (placed m) (if x && not (p d.name) then declares (new_name d) ∷ told p es else told p es))) b
      ∙ ap (λ x. listed n (head_text f) (map (placed m) (if true && not x then declares (new_name d) ∷ told p es else told p es))) g.1)
  one d es false b h e =
      not_in_package d (found_in n f.tokens es) (is_new among (find d)) b ∙ e
      ∙ sym (ap (λ x. listed n (head_text f) (map (placed m) (if x && not (p d.name) then declares (new_name d) ∷ told p es else told p es))) b)

  asked_one : (x : Told) (xs : List Told) (b : Bool) → ((ys : List Told) → listed n (head_text f) (map (placed m) (x ∷ ys)) ≡ listed n (head_text f) (map (placed m) ys))
      → listed n (head_text f) (map (placed m) xs) ≡ listed n (head_text f) (map (placed m) (if b then xs else x ∷ xs))
  asked_one x xs true e = refl
  asked_one x xs false e = sym (e xs)

  objects_listed : (es : List Event) → EachDeclared (IsHeaded (kinds f.tokens.tokens) p) es → objects_among (found_in n f.tokens es) ≡ listing es
  objects_listed [] h = refl
  objects_listed (event.Declaration d ∷ es) h = one d es (is_package d.block) refl h.0 (objects_listed es h.1)
  objects_listed (event.Use u ∷ es) h = objects_listed es h ∙ asked_one (asks _) (told p es) (p u.name) (λ ys. refl)
  objects_listed (e ∷ es) h = objects_listed es h

-- ---- packages

pub new_append : (all : List Found) (ds es : List Found) → new_among all (ds ++ es) ≡ new_among all ds ++ new_among all es
new_append all [] es = refl
new_append all (d ∷ ds) es = ap (λ xs. if is_new all d then d ∷ xs else xs) (new_append all ds es) ∙ spread (is_new all d) (new_among all ds) (new_among all es)
  where
    spread : (b : Bool) (xs ys : List Found) → (if b then d ∷ (xs ++ ys) else xs ++ ys) ≡ (if b then d ∷ xs else xs) ++ ys
    spread true xs ys = refl
    spread false xs ys = refl

pub declared_append : (ds es : List Found) → declared_in_package (ds ++ es) ≡ declared_in_package ds ++ declared_in_package es
declared_append [] es = refl
declared_append (d ∷ ds) es = ap (λ xs. if is_package d.it.block then declared_by d ∷ xs else xs) (declared_append ds es) ∙ spread (is_package d.it.block) (declared_in_package ds) (declared_in_package es)
  where
    spread : (b : Bool) (xs ys : List Declared) → (if b then declared_by d ∷ (xs ++ ys) else xs ++ ys) ≡ (if b then declared_by d ∷ xs else xs) ++ ys
    spread true xs ys = refl
    spread false xs ys = refl

-- the files from the number n on
module _ (all : List File) where
  abbrev pub StandFrom : ℕ → List File → Type 0
  StandFrom n [] = Unit {0}
  StandFrom n (f ∷ fs) = (file_in all n ≡ f) × StandFrom (suc n) fs

  pub stand_from : (n : ℕ) (fs : List File) → ((k : ℕ) → file_in all (n + k) ≡ file_there (slice_get fs k)) → StandFrom n fs
  stand_from n [] h = tt
  stand_from n (f ∷ fs) h =
      let here : n ≡ n + 0 = omega arith in
      (ap (file_in all) here ∙ h 0, stand_from (suc n) fs (λ k. let next : suc n + k ≡ n + suc k = omega arith in ap (file_in all) next ∙ h (suc k)))

abbrev told_objects : ℕ → List File → List Entry
told_objects n [] = []
told_objects n (f ∷ fs) = listed n (head_text f) (told_outside f) ++ told_objects (suc n) fs

objects_told : (all : List File) (among : List Found) (n : ℕ) (fs : List File) → AreRead fs → StandFrom all n fs
    → map (entry all) (declared_in_package (new_among among (found_from n (units_of fs)))) ≡ told_objects n fs
objects_told all among n [] h s = refl
objects_told all among n (f ∷ fs) h s =
    let front : List Found = found_in n f.tokens (file_events f) in
    let rest : List Found = found_from (suc n) (units_of fs) in
    ap (λ xs. map (entry all) (declared_in_package xs)) (new_append among front rest)
    ∙ ap (map (entry all)) (declared_append (new_among among front) (new_among among rest))
    ∙ map-append (entry all) (declared_in_package (new_among among front)) (declared_in_package (new_among among rest))
    ∙ ap (λ xs. xs ++ map (entry all) (declared_in_package (new_among among rest))) (objects_listed all among n f s.0 (file_events f) (file_headed (kinds f.tokens.tokens) f.tree h.0.tree))
    ∙ ap (λ xs. listed n (head_text f) (told_outside f) ++ xs) (objects_told all among (suc n) fs h.1 s.1)

-- with equal heads
told_same : (n : ℕ) (old new : List File) → AreRead old → AreRead new → heads old ≡ heads new → told_objects n new ≡ told_objects n old
told_same n [] [] h k e = refl
told_same n [] (b ∷ bs) h k e = absurd (some_not_none (head_of b) (heads bs) (sym e))
told_same n (a ∷ xs) [] h k e = absurd (some_not_none (head_of a) (heads xs) e)
told_same n (a ∷ xs) (b ∷ bs) h k e =
    let same : head_of a ≡ head_of b = first_same (head_of a) (head_of b) (heads xs) (heads bs) e in
    ap (λ (x : Head). listed n (λ i. text_there (slice_get x.texts i)) (told_outside b) ++ told_objects (suc n) bs) (sym same)
    ∙ ap (λ ts. listed n (head_text a) ts ++ told_objects (suc n) bs) (heads_told a b h.0 k.0 same)
    ∙ ap (λ zs. listed n (head_text a) (told_outside a) ++ zs) (told_same (suc n) xs bs h.1 k.1 (others_same (head_of a) (head_of b) (heads xs) (heads bs) e))

entries_told : (fs : List File) → AreRead fs → map (entry fs) (package_objects fs) ≡ told_objects 0 fs
entries_told fs h = objects_told fs (found_from 0 (units_of fs)) 0 fs h (stand_from fs 0 fs (λ k. let z : 0 + k ≡ k = omega arith in ap (file_in fs) z))

pub entries_same : (old new : List File) → AreRead old → AreRead new → heads old ≡ heads new → map (entry new) (package_objects new) ≡ map (entry old) (package_objects old)
entries_same old new h k e = entries_told new k ∙ told_same 0 old new h k e ∙ sym (entries_told old h)

-- ---- by number

module _ (old new : List File) where
  same_object : (x y : Declared) → entry new y ≡ entry old x → SameObject old new x y
  same_object x y e = record {
    file = ap (λ (z : Entry). z.file) e;
    place = ap (λ (z : Entry). z.place) e;
    text = ap (λ (z : Entry). z.text) e;
    entity = ap (λ (z : Entry). z.entity) e;
  }

  at_number : (xs ys : List Declared) → map (entry new) ys ≡ map (entry old) xs → (n : ℕ) (x y : Declared) → slice_get xs n ≡ Some x → slice_get ys n ≡ Some y → SameObject old new x y
  at_number xs ys e n x y f g =
      same_object x y (same_some (entry new y) (entry old x) (
      sym (ap (option_map (entry new)) g) ∙ sym (slice_get-map (entry new) ys n) ∙ ap (λ zs. slice_get zs n) e ∙ slice_get-map (entry old) xs n ∙ ap (option_map (entry old)) f))

  referents_same : (c : Counts) (xs ys : List Declared) → map (entry new) ys ≡ map (entry old) xs → referents_from c ys ≡ referents_from c xs
  referents_same c [] [] e = refl
  referents_same c [] (y ∷ ys) e = absurd (some_not_none (entry new y) (map (entry new) ys) e)
  referents_same c (x ∷ xs) [] e = absurd (some_not_none (entry old x) (map (entry old) xs) (sym e))
  referents_same c (x ∷ xs) (y ∷ ys) e =
      let one : y.entity ≡ x.entity = ap (λ (z : Entry). z.entity) (first_same (entry new y) (entry old x) (map (entry new) ys) (map (entry old) xs) e) in
      ap (λ a. referent_of c a ∷ referents_from (counted c a) ys) one
      ∙ ap (λ rs. referent_of c x.entity ∷ rs) (referents_same (counted c x.entity) xs ys (others_same (entry new y) (entry old x) (map (entry new) ys) (map (entry old) xs) e))

pub objects_kept : (old new : List File) → AreRead old → AreRead new → heads old ≡ heads new → KeepsObjects old new
objects_kept old new h k e =
    let xs : List Declared = package_objects old in
    let ys : List Declared = package_objects new in
    let same = entries_same old new h k e in
    record {
      count = sym (length-map ys (entry new)) ∙ ap length same ∙ length-map xs (entry old);
      objects = at_number old new xs ys same;
      referents = referents_same old new no_counts xs ys same;
    }
