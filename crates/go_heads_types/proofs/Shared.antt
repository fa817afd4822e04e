-- The objects of names that are declared in the package block, at one place of the heads.
use Rattle.std.proofs.Common.{◌≡◌, ◌∙◌, ℕ, zero, suc, ◌+◌, ◌⊎◌, inl, inr, Bool, true, false, List, [], ◌∷◌, ◌++◌, Option, Some, None, refl, sym, ap, subst, arith}
use Rattle.std.specs.Prelude.{if◌then◌else◌, ◌&&◌, not, nat_eq, slice_get, option_map}
use Rattle.std.proofs.lemmas.Option.{slice_get-map}
use Rattle.go_tokens.specs.Tokens.{TokenList, kinds}
use Rattle.go_grammar.specs.Trees.{parts}
use Rattle.go_tree.specs.declared.context.Manner.TheVariants as manner
use Rattle.go_tree.specs.declared.event.Declaration.{Declaration}
use Rattle.go_tree.specs.declared.event.Event.{Event}
use Rattle.go_tree.specs.declared.event.Event.TheVariants as event
use Rattle.go_tree.specs.declared.object.Declared.{Declared}
use Rattle.go_tree.specs.declared.object.Object.{Object}
use Rattle.go_tree.specs.declared.object.Object.TheVariants as object
use Rattle.go_tree.specs.Contexts.{is_package}
use Rattle.go_tree.specs.Declarations.{Found, found, found_in, found_from, is_reused, may_be_reused, is_new, new_among, declarations}
use Rattle.go_tree.specs.Units.{word, is_blank, bytes_at}
use Rattle.go_tree.specs.Uses.{UsesView, declared_by, declared_in_package, uses, object_of}
use Rattle.go_scopes_lookup.specs.Tables.{AreCounted}
use Rattle.go_scopes_lookup.proofs.Public.{uses_own}
use Rattle.go_scopes_events.specs.Scopes.{AreOrderly}
use Rattle.go_heads.specs.Functions.{AreRead}
use Rattle.go_heads.specs.Heads.{File, IsRead, heads, in_bodies, place_outside}
use Rattle.go_heads.proofs.Public.{same_some, file_headed, Entry, entry, entries_same, Among, among, Every, every_new}
use Rattle.go_heads.specs.Objects.{units_of, package_objects, file_in, file_there, head_place}
use Rattle.go_heads.specs.Told.{file_events}
use Rattle.go_heads.specs.Lookups.{AtOnePlace}
use Rattle.go_heads.specs.Meanings.{StandsOutside}
use Rattle.go_heads_types.proofs.Looked.{AreOrdered, Looked, all_looked, same_test, equal_test, place_test}
use Rattle.go_heads_types.proofs.Classes.{InEvents, each_in}

abbrev pub Member : Found → List Found → Type 0
Member d [] = ⊥
Member d (x ∷ xs) = (x ≡ d) ⊎ Member d xs

abbrev pub found_by : ℕ → TokenList → Declaration → Found
found_by n l d = record { file = n; name = word l d.name; place = bytes_at n l d.name; it = d }

pub in_found : (n : ℕ) (l : TokenList) (d : Declaration) (es : List Event) → InEvents d es → Member (found_by n l d) (found_in n l es)
in_found n l d [] i = absurd i
in_found n l d (event.Declaration e ∷ es) (inl s) = inl (ap (found_by n l) s)
in_found n l d (event.Declaration e ∷ es) (inr i) = inr (in_found n l d es i)
in_found n l d (event.Use u ∷ es) i = in_found n l d es i
in_found n l d (event.Import k ∷ es) i = in_found n l d es i
in_found n l d (event.Member m g k ∷ es) i = in_found n l d es i
in_found n l d (event.Bodiless a k ∷ es) i = in_found n l d es i
in_found n l d (event.Statement a k ∷ es) i = in_found n l d es i
in_found n l d (event.Misplaced a k ∷ es) i = in_found n l d es i
in_found n l d (event.SecondDefault k ∷ es) i = in_found n l d es i

member_behind : (d : Found) (xs ys : List Found) → Member d ys → Member d (xs ++ ys)
member_behind d [] ys h = h
member_behind d (x ∷ xs) ys h = inr (member_behind d xs ys h)

member_front : (d : Found) (xs ys : List Found) → Member d xs → Member d (xs ++ ys)
member_front d [] ys h = absurd h
member_front d (x ∷ xs) ys (inl s) = inl s
member_front d (x ∷ xs) ys (inr h) = inr (member_front d xs ys h)

pub in_files : (fs : List File) (n : ℕ) (f : File) (d : Found) → slice_get fs n ≡ Some f → Member d (found_in n f.tokens (file_events f)) → Member d (found (units_of fs))
in_files fs n f d there h =
    let a : Among n f (found_from 0 (units_of fs)) = among 0 n n fs f (let z : n ≡ 0 + n = omega arith in z) there in
    let own : List Found = found_in n f.tokens (file_events f) in
    subst (Member d) (sym a.whole) (member_behind d a.front (own ++ a.behind) (member_front d own a.behind h))

pub in_new : (all : List Found) (d : Found) (ds : List Found) → is_new all d ≡ true → Member d ds → Member d (new_among all ds)
in_new all d [] e h = absurd h
in_new all d (x ∷ ds) e (inl s) = subst (λ b. Member d (if b then x ∷ new_among all ds else new_among all ds)) (sym (ap (is_new all) s ∙ e)) (inl s)
in_new all d (x ∷ ds) e (inr h) = by (is_new all x) (in_new all d ds e h)
  where
    by : (b : Bool) → Member d (new_among all ds) → Member d (if b then x ∷ new_among all ds else new_among all ds)
    by true g = inr g
    by false g = g

-- an object of the package with its number
pub record Numbered (d : Found) (xs : List Declared) : Type 0 where
  pub number : ℕ
  pub there : slice_get xs number ≡ Some (declared_by d)

in_package : (d : Found) (ds : List Found) → is_package d.it.block ≡ true → Member d ds → Numbered d (declared_in_package ds)
in_package d [] e h = absurd h
in_package d (x ∷ ds) e (inl s) =
    subst (λ b. Numbered d (if b then declared_by x ∷ declared_in_package ds else declared_in_package ds)) (sym (ap (λ (z : Found). is_package z.it.block) s ∙ e))
    (record { number = 0; there = ap (λ z. Some (declared_by z)) s })
in_package d (x ∷ ds) e (inr h) = by (is_package x.it.block) (in_package d ds e h)
  where
    by : (b : Bool) → Numbered d (declared_in_package ds) → Numbered d (if b then declared_by x ∷ declared_in_package ds else declared_in_package ds)
    by true g = record { number = suc g.number; there = g.there }
    by false g = g

pub new_by : (all : List Found) (d : Found) → d.it.manner ≡ manner.Declared → is_blank d.name ≡ false → is_new all d ≡ true
new_by all d m b = ap (λ x. not (is_blank d.name) && not (may_be_reused x && is_reused d all)) m ∙ ap (λ x. not x && not (false && is_reused d all)) b

-- ---- outside of bodies

pub all_outside : (fs : List File) (ds : List Found) → Every (Looked fs) ds → Every (λ (x : Declared). StandsOutside fs x.file x.name) (declared_in_package ds)
all_outside fs [] h = tt
all_outside fs (d ∷ ds) h = by (is_package d.it.block) refl (all_outside fs ds h.1)
  where
    by : (b : Bool) → is_package d.it.block ≡ b → Every (λ (x : Declared). StandsOutside fs x.file x.name) (declared_in_package ds)
        → Every (λ (x : Declared). StandsOutside fs x.file x.name) (if b then declared_by d ∷ declared_in_package ds else declared_in_package ds)
    by true e g = ((h.0 e).outside, g)
    by false e g = g

pub every_at : {A : Type 0} (Q : A → Type 0) (xs : List A) (k : ℕ) (x : A) → Every Q xs → slice_get xs k ≡ Some x → Q x
every_at Q [] k x h e = absurd cc
every_at Q (y ∷ xs) zero x h e = subst Q (same_some y x e) h.0
every_at Q (y ∷ xs) (suc k) x h e = every_at Q xs k x h.1 e

pub objects_outside : (fs : List File) → AreOrdered fs → AreRead fs → Every (λ (x : Declared). StandsOutside fs x.file x.name) (package_objects fs)
objects_outside fs order h = all_outside fs (declarations (units_of fs)) (every_new (Looked fs) (found (units_of fs)) (found (units_of fs)) (all_looked fs order h))

-- tokens of two packages that both have this object
one_object : (v w : UsesView) (n k c u e t : ℕ) (o : Option Object) → c ≡ u → k ≡ n → object_of v k c ≡ o → object_of w n e ≡ o → e ≡ t → object_of v n u ≡ object_of w n t
one_object v w n k c u e t o one file own_v own_w same = ap (object_of v n) (sym one) ∙ sym (ap (λ j. object_of v j c) file) ∙ own_v ∙ sym own_w ∙ ap (object_of w n) same

module _ (old new : List File) (h : AreRead old) (k : AreRead new) (e : heads old ≡ heads new) (order : AreOrdered new) (orderly_old : AreOrderly (units_of old)) (orderly_new : AreOrderly (units_of new))
    (counted_old : AreCounted (units_of old)) (counted_new : AreCounted (units_of new)) where
  -- the object of the same number
  pub record Paired (i : ℕ) (x : Declared) : Type 0 where
    pub other : Declared
    pub there : slice_get (package_objects new) i ≡ Some other
    pub same : entry new other ≡ entry old x

  pub paired : (i : ℕ) (x : Declared) → slice_get (package_objects old) i ≡ Some x → Paired i x
  paired i x there =
      by (slice_get (package_objects new) i) refl
      (sym (slice_get-map (entry new) (package_objects new) i) ∙ ap (λ xs. slice_get xs i) (entries_same old new h k e) ∙ slice_get-map (entry old) (package_objects old) i ∙ ap (option_map (entry old)) there)
    where
      by : (o : Option Declared) → slice_get (package_objects new) i ≡ o → option_map (entry new) o ≡ Some (entry old x) → Paired i x
      by None g s = absurd cc
      by (Some y) g s = record { other = y; there = g; same = same_some (entry new y) (entry old x) s }

  -- a name of the package block that isn't blank
  pub shared_kept : (n t u : ℕ) → AtOnePlace old new n t u → (f : File) → slice_get old n ≡ Some f → (d : Declaration) → d.name ≡ t → InEvents d (file_events f) → is_package d.block ≡ true
      → is_blank (word f.tokens d.name) ≡ false → object_of (uses (units_of new)) n u ≡ object_of (uses (units_of old)) n t
  shared_kept n t u at f there d name i b blank =
      let us = units_of old in
      let here : file_in old n ≡ f = ap file_there there in
      let read : IsRead f = subst IsRead here (read_there old h n f there) in
      let x : Found = found_by n f.tokens d in
      let headed = each_in (λ c. is_package c.block ≡ true → (c.manner ≡ manner.Declared) × (in_bodies (parts f.tree) c.name ≡ false)) d (file_events f) (file_headed (kinds f.tokens.tokens) f.tree read.tree) i in
      let fresh : is_new (found us) x ≡ true = new_by (found us) x (headed b).0 blank in
      let number : Numbered x (package_objects old) =
      in_package x (declarations us) b (in_new (found us) x (found us) fresh (in_files old n f x there (in_found n f.tokens d (file_events f) i))) in
      let y : Paired number.number (declared_by x) = paired number.number (declared_by x) number.there in
      let file : y.other.file ≡ n = ap (λ (z : Entry). z.file) y.same in
      let outside : StandsOutside new y.other.file y.other.name = every_at (λ (z : Declared). StandsOutside new z.file z.name) (package_objects new) number.number y.other (objects_outside new order k) y.there in
      let out : StandsOutside new n y.other.name = subst (λ j. StandsOutside new j y.other.name) file outside in
      let place : head_place new n y.other.name ≡ head_place new n u =
      sym (ap (λ j. head_place new j y.other.name) file) ∙ ap (λ (z : Entry). z.place) y.same ∙ ap (head_place old n) name ∙ sym at.place in
      let q = in_bodies (parts (file_in new n).tree) in
      let one : y.other.name ≡ u =
      same_test y.other.name u (sym (place_test q y.other.name u out at.after) ∙ ap (λ j. nat_eq j (place_outside q u)) place ∙ equal_test (place_outside q u)) in
      let own_new : object_of (uses (units_of new)) y.other.file y.other.name ≡ Some (object.Package number.number) =
      uses_own (units_of new) orderly_new counted_new (object.Package number.number) y.other y.there in
      let own_old : object_of (uses us) n d.name ≡ Some (object.Package number.number) = uses_own us orderly_old counted_old (object.Package number.number) (declared_by x) number.there in
      one_object (uses (units_of new)) (uses us) n y.other.file y.other.name u d.name t (Some (object.Package number.number)) one file own_new own_old name
    where
      read_there : (fs : List File) → AreRead fs → (j : ℕ) (g : File) → slice_get fs j ≡ Some g → IsRead (file_in fs j)
      read_there [] r j g s = absurd cc
      read_there (c ∷ fs) r zero g s = r.0
      read_there (c ∷ fs) r (suc j) g s = read_there fs r.1 j g s
