-- What a file has to do with a token: it is a name that is looked up, or one that is declared, or neither.
use Rattle.std.proofs.Common.{◌≡◌, ◌∙◌, ℕ, suc, ◌+◌, ◌<◌, ◌⊎◌, inl, inr, Bool, true, false, List, [], ◌∷◌, ◌++◌, length, Option, Some, None, refl, sym, ap, subst, arith}
use Rattle.std.specs.Prelude.{if◌then◌else◌, ◌&&◌, not, nat_eq, slice_get}
use Rattle.go_tokens.specs.Tokens.{TokenList}
use Rattle.go_tree.specs.declared.event.Declaration.{Declaration}
use Rattle.go_tree.specs.declared.event.Event.{Event}
use Rattle.go_tree.specs.declared.event.Event.TheVariants as event
use Rattle.go_tree.specs.declared.object.Object.{Object}
use Rattle.go_tree.specs.Declarations.{Found, found, found_in, found_from, is_reused, may_be_reused, is_new, new_among, declarations}
use Rattle.go_tree.specs.Imports.{imports_fmt}
use Rattle.go_tree.specs.Meanings.{Meaning, Numbers, first_numbers, numbers_behind, numbered, imported_meaning, imported_from, meanings, meaning_at}
use Rattle.go_tree.specs.Objects.{object_by, object_at, is_declared_at, own_object, token_object}
use Rattle.go_tree.specs.Units as names
use Rattle.go_tree.specs.Units.{word, is_blank}
use Rattle.go_tree.specs.Uses.{uses, object_of}
use Rattle.go_scopes_events.specs.Orders.{EachDeclared}
use Rattle.go_scopes_events.proofs.Public.{true_false}
use Rattle.go_heads.specs.Heads.{File}
use Rattle.go_heads.specs.Objects.{units_of, file_in, file_there, text_at}
use Rattle.go_heads.specs.Told.{file_events}
use Rattle.go_heads.proofs.Public.{StandFrom, stand_from, token_told, Every, every_append, every_new}
use Rattle.go_heads.specs.Lookups.{HasUse}
use Rattle.go_heads_types.proofs.Looked.{same_test}

-- ---- events

abbrev pub InEvents : Declaration → List Event → Type 0
InEvents d [] = ⊥
InEvents d (event.Declaration e ∷ es) = (e ≡ d) ⊎ InEvents d es
InEvents d (e ∷ es) = InEvents d es

pub each_in : (Q : Declaration → Type 0) (d : Declaration) (es : List Event) → EachDeclared Q es → InEvents d es → Q d
each_in Q d [] h i = absurd i
each_in Q d (event.Declaration e ∷ es) h (inl s) = subst Q s h.0
each_in Q d (event.Declaration e ∷ es) h (inr i) = each_in Q d es h.1 i
each_in Q d (event.Use u ∷ es) h i = each_in Q d es h i
each_in Q d (event.Import k ∷ es) h i = each_in Q d es h i
each_in Q d (event.Member m g k ∷ es) h i = each_in Q d es h i
each_in Q d (event.Bodiless a k ∷ es) h i = each_in Q d es h i
each_in Q d (event.Statement a k ∷ es) h i = each_in Q d es h i
each_in Q d (event.Misplaced a k ∷ es) h i = each_in Q d es h i
each_in Q d (event.SecondDefault k ∷ es) h i = each_in Q d es h i

pub in_either : (d : Declaration) (es fs : List Event) → InEvents d (es ++ fs) → InEvents d es ⊎ InEvents d fs
in_either d [] fs i = inr i
in_either d (event.Declaration e ∷ es) fs (inl s) = inl (inl s)
in_either d (event.Declaration e ∷ es) fs (inr i) = by (in_either d es fs i)
  where
    by : InEvents d es ⊎ InEvents d fs → ((e ≡ d) ⊎ InEvents d es) ⊎ InEvents d fs
    by (inl x) = inl (inr x)
    by (inr x) = inr x
in_either d (event.Use u ∷ es) fs i = in_either d es fs i
in_either d (event.Import k ∷ es) fs i = in_either d es fs i
in_either d (event.Member m g k ∷ es) fs i = in_either d es fs i
in_either d (event.Bodiless a k ∷ es) fs i = in_either d es fs i
in_either d (event.Statement a k ∷ es) fs i = in_either d es fs i
in_either d (event.Misplaced a k ∷ es) fs i = in_either d es fs i
in_either d (event.SecondDefault k ∷ es) fs i = in_either d es fs i

pub record Declares (t : ℕ) (es : List Event) : Type 0 where
  pub it : Declaration
  pub name : it.name ≡ t
  pub there : InEvents it es

-- no name at the token
abbrev pub HasNone : ℕ → List Event → Type 0
HasNone t [] = Unit {0}
HasNone t (event.Declaration d ∷ es) = (nat_eq d.name t ≡ false) × HasNone t es
HasNone t (event.Use u ∷ es) = (nat_eq u.name t ≡ false) × HasNone t es
HasNone t (e ∷ es) = HasNone t es

abbrev pub Class : ℕ → List Event → Type 0
Class t es = HasUse t es ⊎ Declares t es ⊎ HasNone t es

declared_later : (t : ℕ) (e : Declaration) (es : List Event) → Declares t es → Declares t (event.Declaration e ∷ es)
declared_later t e es d = record { it = d.it; name = d.name; there = inr d.there }

pub class_of : (t : ℕ) (es : List Event) → Class t es
class_of t [] = inr (inr tt)
class_of t (event.Declaration d ∷ es) = by (nat_eq d.name t) refl (class_of t es)
  where
    by : (b : Bool) → nat_eq d.name t ≡ b → Class t es → Class t (event.Declaration d ∷ es)
    by true e c = inr (inl (record { it = d; name = same_test d.name t e; there = inl refl }))
    by false e (inl u) = inl u
    by false e (inr (inl x)) = inr (inl (declared_later t d es x))
    by false e (inr (inr n)) = inr (inr (e, n))
class_of t (event.Use u ∷ es) = by (nat_eq u.name t) refl (class_of t es)
  where
    by : (b : Bool) → nat_eq u.name t ≡ b → Class t es → Class t (event.Use u ∷ es)
    by true e c = inl (inl (same_test u.name t e))
    by false e (inl x) = inl (inr x)
    by false e (inr (inl x)) = inr (inl (record { it = x.it; name = x.name; there = x.there }))
    by false e (inr (inr n)) = inr (inr (e, n))
class_of t (event.Import i ∷ es) = by (class_of t es)
  where
    by : Class t es → Class t (event.Import i ∷ es)
    by (inl x) = inl x
    by (inr (inl x)) = inr (inl (record { it = x.it; name = x.name; there = x.there }))
    by (inr (inr n)) = inr (inr n)
class_of t (event.Member m g i ∷ es) = by (class_of t es)
  where
    by : Class t es → Class t (event.Member m g i ∷ es)
    by (inl x) = inl x
    by (inr (inl x)) = inr (inl (record { it = x.it; name = x.name; there = x.there }))
    by (inr (inr n)) = inr (inr n)
class_of t (event.Bodiless a i ∷ es) = by (class_of t es)
  where
    by : Class t es → Class t (event.Bodiless a i ∷ es)
    by (inl x) = inl x
    by (inr (inl x)) = inr (inl (record { it = x.it; name = x.name; there = x.there }))
    by (inr (inr n)) = inr (inr n)
class_of t (event.Statement a i ∷ es) = by (class_of t es)
  where
    by : Class t es → Class t (event.Statement a i ∷ es)
    by (inl x) = inl x
    by (inr (inl x)) = inr (inl (record { it = x.it; name = x.name; there = x.there }))
    by (inr (inr n)) = inr (inr n)
class_of t (event.Misplaced a i ∷ es) = by (class_of t es)
  where
    by : Class t es → Class t (event.Misplaced a i ∷ es)
    by (inl x) = inl x
    by (inr (inl x)) = inr (inl (record { it = x.it; name = x.name; there = x.there }))
    by (inr (inr n)) = inr (inr n)
class_of t (event.SecondDefault i ∷ es) = by (class_of t es)
  where
    by : Class t es → Class t (event.SecondDefault i ∷ es)
    by (inl x) = inl x
    by (inr (inl x)) = inr (inl (record { it = x.it; name = x.name; there = x.there }))
    by (inr (inr n)) = inr (inr n)

-- ---- objects

module _ (ms : List Meaning) (n : ℕ) (l : TokenList) (t : ℕ) where
  no_object : (es : List Event) → HasNone t es → token_object ms n l t es ≡ None
  no_object [] h = refl
  no_object (event.Declaration d ∷ es) h = ap (λ b. if b then own_object n t (word l t) ms ms else token_object ms n l t es) h.0 ∙ no_object es h.1
  no_object (event.Use u ∷ es) h = ap (λ b. if b then object_at ms n t (word l t) else token_object ms n l t es) h.0 ∙ no_object es h.1
  no_object (event.Import i ∷ es) h = no_object es h
  no_object (event.Member m g i ∷ es) h = no_object es h
  no_object (event.Bodiless a i ∷ es) h = no_object es h
  no_object (event.Statement a i ∷ es) h = no_object es h
  no_object (event.Misplaced a i ∷ es) h = no_object es h
  no_object (event.SecondDefault i ∷ es) h = no_object es h

  either_none : (b : Bool) (x y : Option Object) → x ≡ None → y ≡ None → (if b then x else y) ≡ None
  either_none true x y e f = e
  either_none false x y e f = f

  -- what a blank name is
  blank_object : (es : List Event) → object_at ms n t (word l t) ≡ None → own_object n t (word l t) ms ms ≡ None → token_object ms n l t es ≡ None
  blank_object [] h k = refl
  blank_object (event.Declaration d ∷ es) h k = either_none (nat_eq d.name t) (own_object n t (word l t) ms ms) (token_object ms n l t es) k (blank_object es h k)
  blank_object (event.Use u ∷ es) h k = either_none (nat_eq u.name t) (object_at ms n t (word l t)) (token_object ms n l t es) h (blank_object es h k)
  blank_object (event.Import i ∷ es) h k = blank_object es h k
  blank_object (event.Member m g i ∷ es) h k = blank_object es h k
  blank_object (event.Bodiless a i ∷ es) h k = blank_object es h k
  blank_object (event.Statement a i ∷ es) h k = blank_object es h k
  blank_object (event.Misplaced a i ∷ es) h k = blank_object es h k
  blank_object (event.SecondDefault i ∷ es) h k = blank_object es h k

  -- no meaning is declared there
  abbrev Aside : Meaning → Type 0
  Aside m = is_declared_at n t m.source ≡ false

  own_aside : (w : List ℕ) (all xs : List Meaning) → Every Aside xs → own_object n t w all xs ≡ object_at all n t w
  own_aside w all [] h = refl
  own_aside w all (m ∷ xs) h = ap (λ b. if b then Some m.object else own_object n t w all xs) h.0 ∙ own_aside w all xs h.1

imported_aside : (n t k : ℕ) (us : List names.Unit) → Every (λ m. is_declared_at n t m.source ≡ false) (imported_from k us)
imported_aside n t k [] = tt
imported_aside n t k (u ∷ us) = by (imports_fmt u.tokens u.events) (imported_aside n t (suc k) us)
  where
    by : (b : Bool) → Every (λ m. is_declared_at n t m.source ≡ false) (imported_from (suc k) us)
        → Every (λ m. is_declared_at n t m.source ≡ false) (if b then imported_meaning k ∷ imported_from (suc k) us else imported_from (suc k) us)
    by true g = (refl, g)
    by false g = g

numbered_aside : (n t : ℕ) (k : Numbers) (ds : List Found) → Every (λ d. is_declared_at n t (Some d) ≡ false) ds → Every (λ m. is_declared_at n t m.source ≡ false) (numbered k ds)
numbered_aside n t k [] h = tt
numbered_aside n t k (d ∷ ds) h = (h.0, numbered_aside n t (numbers_behind k d.it.entity d.it.block) ds h.1)

-- new names aren't blank
unblank : (b c : Bool) → (not b && c) ≡ true → b ≡ false
unblank true c e = cc
unblank false c e = refl

new_unblank : (all ds : List Found) → Every (λ d. is_blank d.name ≡ false) (new_among all ds)
new_unblank all [] = tt
new_unblank all (d ∷ ds) = by (is_new all d) refl (new_unblank all ds)
  where
    by : (b : Bool) → is_new all d ≡ b → Every (λ d. is_blank d.name ≡ false) (new_among all ds) → Every (λ d. is_blank d.name ≡ false) (if b then d ∷ new_among all ds else new_among all ds)
    by true e g = (unblank (is_blank d.name) (not (may_be_reused d.it.manner && is_reused d all)) e, g)
    by false e g = g

module _ (all : List File) where
  abbrev IsNamed : Found → Type 0
  IsNamed d = d.name ≡ text_at all d.file d.it.name

  file_named : (k : ℕ) (f : File) → file_in all k ≡ f → (es : List Event) → Every IsNamed (found_in k f.tokens es)
  file_named k f here [] = tt
  file_named k f here (event.Declaration d ∷ es) = (ap (λ (x : File). word x.tokens d.name) (sym here), file_named k f here es)
  file_named k f here (e ∷ es) = file_named k f here es

  all_named : (k : ℕ) (fs : List File) → StandFrom all k fs → Every IsNamed (found_from k (units_of fs))
  all_named k [] s = tt
  all_named k (f ∷ fs) s = every_append IsNamed (found_in k f.tokens (file_events f)) (found_from (suc k) (units_of fs)) (file_named k f s.0 (file_events f)) (all_named (suc k) fs s.1)

every_both : {A : Type 0} (Q R S : A → Type 0) (xs : List A) → ((x : A) → Q x → R x → S x) → Every Q xs → Every R xs → Every S xs
every_both Q R S [] f h g = tt
every_both Q R S (x ∷ xs) f h g = (f x h.0 g.0, every_both Q R S xs f h.1 g.1)

not_there : (fs : List File) (n t : ℕ) (d : Found) → is_blank (text_at fs n t) ≡ true → d.name ≡ text_at fs d.file d.it.name → is_blank d.name ≡ false → is_declared_at n t (Some d) ≡ false
not_there fs n t d b name u = by (nat_eq d.file n) (nat_eq d.it.name t) refl refl
  where
    by : (x y : Bool) → nat_eq d.file n ≡ x → nat_eq d.it.name t ≡ y → (x && y) ≡ false
    by false y e f = refl
    by true false e f = refl
    by true true e f =
        absurd (true_false (is_blank d.name) (ap is_blank (name ∙ ap (λ i. text_at fs i d.it.name) (same_test d.file n e) ∙ ap (text_at fs n) (same_test d.it.name t f)) ∙ b) u)

-- a blank name means nothing
pub blank_none : (fs : List File) (n t : ℕ) (f : File) → slice_get fs n ≡ Some f → t < length f.tokens.tokens → is_blank (text_at fs n t) ≡ true → object_of (uses (units_of fs)) n t ≡ None
blank_none fs n t f there lt b =
    let us : List names.Unit = units_of fs in
    let ms : List Meaning = meanings us in
    let here : file_in fs n ≡ f = ap file_there there in
    let w : is_blank (word f.tokens t) ≡ true = sym (ap (λ (g : File). is_blank (word g.tokens t)) here) ∙ b in
    let at : object_at ms n t (word f.tokens t) ≡ None = ap (λ c. if c then None else object_by (word f.tokens t) (meaning_at ms n t (word f.tokens t))) w in
    let named : Every (IsNamed fs) (declarations us) =
    every_new (IsNamed fs) (found us) (found us) (all_named fs 0 fs (stand_from fs 0 fs (λ k. let z : 0 + k ≡ k = omega arith in ap (file_in fs) z))) in
    let aside : Every (λ m. is_declared_at n t m.source ≡ false) ms =
    every_append (λ m. is_declared_at n t m.source ≡ false) (imported_from 0 us) (numbered first_numbers (declarations us)) (imported_aside n t 0 us)
    (numbered_aside n t first_numbers (declarations us)
    (every_both (IsNamed fs) (λ d. is_blank d.name ≡ false) (λ d. is_declared_at n t (Some d) ≡ false) (declarations us) (λ d x y. not_there fs n t d b x y) named (new_unblank (found us) (found us)))) in
    token_told fs n t f there lt ∙ blank_object ms n f.tokens t (file_events f) at (own_aside ms n f.tokens t (word f.tokens t) ms ms aside ∙ at)

-- and what is no name neither
pub none_none : (fs : List File) (n t : ℕ) (f : File) → slice_get fs n ≡ Some f → t < length f.tokens.tokens → HasNone t (file_events f) → object_of (uses (units_of fs)) n t ≡ None
none_none fs n t f there lt h = token_told fs n t f there lt ∙ no_object (meanings (units_of fs)) n f.tokens t (file_events f) h
