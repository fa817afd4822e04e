-- The objects of parameters: locals with the same numbers in packages with equal heads.
use Rattle.std.proofs.Common.{◌≡◌, ◌∙◌, ℕ, zero, suc, ◌+◌, ◌⊎◌, inl, inr, Bool, true, false, List, [], ◌∷◌, ◌++◌, map, length, Option, Some, None, refl, sym, ap, subst, arith}
use Rattle.std.specs.Prelude.{if◌then◌else◌, ◌&&◌, not, slice_get, option_map}
use Rattle.std.proofs.lemmas.List.{map-append}
use Rattle.std.proofs.lemmas.Option.{slice_get-map}
use Rattle.go_tokens.specs.Tokens.{TokenList}
use Rattle.go_grammar.specs.Trees.{Tree, first, last, parts}
use Rattle.go_tree.specs.declared.context.Block.{Block}
use Rattle.go_tree.specs.declared.context.Block.TheVariants as block
use Rattle.go_tree.specs.declared.context.Manner.TheVariants as manner
use Rattle.go_tree.specs.declared.event.Declaration.{Declaration}
use Rattle.go_tree.specs.declared.event.Event.{Event}
use Rattle.go_tree.specs.declared.event.Event.TheVariants as event
use Rattle.go_tree.specs.declared.object.Declared.{Declared}
use Rattle.go_tree.specs.declared.object.Object.TheVariants as object
use Rattle.go_tree.specs.Contexts.{is_package, file_context}
use Rattle.go_tree.specs.Declarations.{Found, found, found_in, is_reused, may_be_reused, is_new, new_among}
use Rattle.go_tree.specs.Events.{events}
use Rattle.go_tree.specs.Lists.{functions}
use Rattle.go_tree.specs.Units.{word, is_blank}
use Rattle.go_tree.specs.Uses.{UsesView, declared_by, uses, local_in, local_of, object_of}
use Rattle.go_scopes_lookup.specs.Tables.{AreCounted}
use Rattle.go_scopes_lookup.proofs.Public.{uses_own}
use Rattle.go_scopes_events.specs.Moved.{moved_block}
use Rattle.go_scopes_events.specs.Orders.{EachDeclared}
use Rattle.go_scopes_events.specs.Scopes.{AreOrderly}
use Rattle.go_heads.specs.Functions.{alone}
use Rattle.go_heads.specs.Heads.{File}
use Rattle.go_heads.proofs.Public.{same_some, new_append, found_append}
use Rattle.go_heads.specs.Objects.{units_of}
use Rattle.go_heads.specs.Names.{own_declarations, in_file, DeclaresByItself}
use Rattle.go_heads.specs.Locals.{locals_in, own_locals, local_in_file, locals_of_file, all_locals}
use Rattle.go_heads_types.proofs.Sited.{Unsourced, tree_unsourced}
use Rattle.go_heads_types.proofs.Classes.{InEvents}
use Rattle.go_heads_types.proofs.Headers.{Headed}
use Rattle.go_heads_types.proofs.Names.{declared_names}
use Rattle.go_heads_types.proofs.Shared.{found_by}

-- ---- lists of names

-- those that aren't blank
abbrev pub kept : TokenList → List ℕ → List ℕ
kept l [] = []
kept l (t ∷ ts) = if is_blank (word l t) then kept l ts else t ∷ kept l ts

abbrev pub names_of : List Declared → List ℕ
names_of xs = map (λ (x : Declared). x.name) xs

abbrev pub InList : ℕ → List ℕ → Type 0
InList t [] = ⊥
InList t (x ∷ xs) = (x ≡ t) ⊎ InList t xs

pub in_names : (d : Declaration) (es : List Event) → InEvents d es → InList d.name (declared_names es)
in_names d [] i = absurd i
in_names d (event.Declaration e ∷ es) (inl s) = inl (ap (λ (z : Declaration). z.name) s)
in_names d (event.Declaration e ∷ es) (inr i) = inr (in_names d es i)
in_names d (event.Use u ∷ es) i = in_names d es i
in_names d (event.Import k ∷ es) i = in_names d es i
in_names d (event.Member m g k ∷ es) i = in_names d es i
in_names d (event.Bodiless a k ∷ es) i = in_names d es i
in_names d (event.Statement a k ∷ es) i = in_names d es i
in_names d (event.Misplaced a k ∷ es) i = in_names d es i
in_names d (event.SecondDefault k ∷ es) i = in_names d es i

pub record IsAt (t : ℕ) (ns : List ℕ) : Type 0 where
  pub number : ℕ
  pub there : slice_get ns number ≡ Some t

pub kept_at : (l : TokenList) (t : ℕ) (ns : List ℕ) → is_blank (word l t) ≡ false → InList t ns → IsAt t (kept l ns)
kept_at l t [] b i = absurd i
kept_at l t (x ∷ ns) b (inl s) = subst (λ c. IsAt t (if c then kept l ns else x ∷ kept l ns)) (sym (ap (λ z. is_blank (word l z)) s ∙ b)) (record { number = 0; there = ap (λ z. Some z) s })
kept_at l t (x ∷ ns) b (inr i) = by (is_blank (word l x)) (kept_at l t ns b i)
  where
    by : (c : Bool) → IsAt t (kept l ns) → IsAt t (if c then kept l ns else x ∷ kept l ns)
    by true g = g
    by false g = record { number = suc g.number; there = g.there }

abbrev pub AllOf : (ℕ → Type 0) → List ℕ → Type 0
AllOf Q [] = Unit {0}
AllOf Q (n ∷ ns) = Q n × AllOf Q ns

-- names at the same places of two lists of tokens
pub kept_same : (l k : TokenList) (a b : ℕ) (ns : List ℕ) (Q : ℕ → Type 0) → ((x : ℕ) → Q x → word k (b + x) ≡ word l (a + x)) → AllOf Q ns → (j x : ℕ)
    → slice_get (kept l (map (λ i. a + i) ns)) j ≡ Some (a + x) → slice_get (kept k (map (λ i. b + i) ns)) j ≡ Some (b + x)
kept_same l k a b [] Q f h j x e = absurd cc
kept_same l k a b (n ∷ ns) Q f h j x e = by (is_blank (word l (a + n))) refl j (λ i. kept_same l k a b ns Q f h.1 i x) e
  where
    text : is_blank (word k (b + n)) ≡ is_blank (word l (a + n))
    text = ap is_blank (f n h.0)

    by : (c : Bool) → is_blank (word l (a + n)) ≡ c → (j : ℕ) → ((i : ℕ) → slice_get (kept l (map (λ i. a + i) ns)) i ≡ Some (a + x) → slice_get (kept k (map (λ i. b + i) ns)) i ≡ Some (b + x))
        → slice_get (if c then kept l (map (λ i. a + i) ns) else (a + n) ∷ kept l (map (λ i. a + i) ns)) j ≡ Some (a + x) → slice_get (kept k (map (λ i. b + i) (n ∷ ns))) j ≡ Some (b + x)
    by true g j go h = ap (λ c. slice_get (if c then kept k (map (λ i. b + i) ns) else (b + n) ∷ kept k (map (λ i. b + i) ns)) j) (text ∙ g) ∙ go j h
    by false g zero go h =
        ap (λ c. slice_get (if c then kept k (map (λ i. b + i) ns) else (b + n) ∷ kept k (map (λ i. b + i) ns)) 0) (text ∙ g)
        ∙ (let one : n ≡ x = omega (arith, same_some (a + n) (a + x) h) in ap (λ i. Some (b + i)) one)
    by false g (suc j) go h = ap (λ c. slice_get (if c then kept k (map (λ i. b + i) ns) else (b + n) ∷ kept k (map (λ i. b + i) ns)) (suc j)) (text ∙ g) ∙ go j h

-- ---- what of these is local

front_none : (n : ℕ) (l : TokenList) (all : List Found) (es : List Event) → EachDeclared (λ d. is_package d.block ≡ true) es → locals_in (new_among all (found_in n l es)) ≡ []
front_none n l all [] h = refl
front_none n l all (event.Declaration d ∷ es) h = by (is_new all (found_by n l d)) (front_none n l all es h.1)
  where
    by : (b : Bool) → locals_in (new_among all (found_in n l es)) ≡ [] → locals_in (if b then found_by n l d ∷ new_among all (found_in n l es) else new_among all (found_in n l es)) ≡ []
    by true e = ap (λ c. if c then locals_in (new_among all (found_in n l es)) else declared_by (found_by n l d) ∷ locals_in (new_among all (found_in n l es))) h.0 ∙ e
    by false e = e
front_none n l all (event.Use u ∷ es) h = front_none n l all es h
front_none n l all (event.Import i ∷ es) h = front_none n l all es h
front_none n l all (event.Member m g i ∷ es) h = front_none n l all es h
front_none n l all (event.Bodiless i j ∷ es) h = front_none n l all es h
front_none n l all (event.Statement i j ∷ es) h = front_none n l all es h
front_none n l all (event.Misplaced i j ∷ es) h = front_none n l all es h
front_none n l all (event.SecondDefault i ∷ es) h = front_none n l all es h

new_if : (all : List Found) (d : Found) → d.it.manner ≡ manner.Declared → is_new all d ≡ not (is_blank d.name)
new_if all d m = ap (λ x. not (is_blank d.name) && not (may_be_reused x && is_reused d all)) m ∙ by (is_blank d.name) (is_reused d all)
  where
    by : (b c : Bool) → (not b && not (false && c)) ≡ not b
    by true c = refl
    by false c = refl

parameters_kept : (n : ℕ) (l : TokenList) (all : List Found) (es : List Event) → EachDeclared Unsourced es → names_of (locals_in (new_among all (found_in n l es))) ≡ kept l (declared_names es)
parameters_kept n l all [] h = refl
parameters_kept n l all (event.Declaration d ∷ es) h =
    ap (λ b. names_of (locals_in (if b then found_by n l d ∷ new_among all (found_in n l es) else new_among all (found_in n l es)))) (new_if all (found_by n l d) h.0.1)
    ∙ by (is_blank (word l d.name)) (parameters_kept n l all es h.1)
  where
    by : (b : Bool) → names_of (locals_in (new_among all (found_in n l es))) ≡ kept l (declared_names es)
        → names_of (locals_in (if not b then found_by n l d ∷ new_among all (found_in n l es) else new_among all (found_in n l es))) ≡ (if b then kept l (declared_names es) else d.name ∷ kept l (declared_names es))
    by true e = e
    by false e =
        ap (λ c. names_of (if c then locals_in (new_among all (found_in n l es)) else declared_by (found_by n l d) ∷ locals_in (new_among all (found_in n l es)))) h.0.2 ∙ ap (λ ns. d.name ∷ ns) e
parameters_kept n l all (event.Use u ∷ es) h = parameters_kept n l all es h
parameters_kept n l all (event.Import i ∷ es) h = parameters_kept n l all es h
parameters_kept n l all (event.Member m g i ∷ es) h = parameters_kept n l all es h
parameters_kept n l all (event.Bodiless i j ∷ es) h = parameters_kept n l all es h
parameters_kept n l all (event.Statement i j ∷ es) h = parameters_kept n l all es h
parameters_kept n l all (event.Misplaced i j ∷ es) h = parameters_kept n l all es h
parameters_kept n l all (event.SecondDefault i ∷ es) h = parameters_kept n l all es h

locals_append : (ds es : List Found) → locals_in (ds ++ es) ≡ locals_in ds ++ locals_in es
locals_append [] es = refl
locals_append (d ∷ ds) es = by (is_package d.it.block) (locals_append ds es)
  where
    by : (b : Bool) → locals_in (ds ++ es) ≡ locals_in ds ++ locals_in es → (if b then locals_in (ds ++ es) else declared_by d ∷ locals_in (ds ++ es)) ≡ (if b then locals_in ds else declared_by d ∷ locals_in ds) ++ locals_in es
    by true e = e
    by false e = ap (λ xs. declared_by d ∷ xs) e

package_moved : (n : ℕ) (b : Block) → is_package (moved_block n b) ≡ is_package b
package_moved n block.Package = refl
package_moved n (block.Local i) = refl

locals_moved : (n : ℕ) (l : TokenList) (b : ℕ) (ds : List Found) → locals_in (map (in_file n l b) ds) ≡ map (local_in_file n b) (locals_in ds)
locals_moved n l b [] = refl
locals_moved n l b (d ∷ ds) =
    ap (λ c. if c then locals_in (map (in_file n l b) ds) else local_in_file n b (declared_by d) ∷ locals_in (map (in_file n l b) ds)) (package_moved b d.it.block)
    ∙ by (is_package d.it.block) (locals_moved n l b ds)
  where
    by : (c : Bool) → locals_in (map (in_file n l b) ds) ≡ map (local_in_file n b) (locals_in ds)
        → (if c then locals_in (map (in_file n l b) ds) else local_in_file n b (declared_by d) ∷ locals_in (map (in_file n l b) ds)) ≡ map (local_in_file n b) (if c then locals_in ds else declared_by d ∷ locals_in ds)
    by true e = e
    by false e = ap (λ xs. local_in_file n b (declared_by d) ∷ xs) e

-- ---- a function of a package

-- the locals of a function, as it stands in its file
abbrev pub locals_there : ℕ → TokenList → Tree → List Declared
locals_there n l t = map (local_in_file n (first t)) (own_locals (alone l t))

pub record Front (ns : List ℕ) (xs : List Declared) : Type 0 where
  pub rest : List ℕ
  pub whole : names_of xs ≡ ns ++ rest

pub parameters_first : (fs : List File) (n : ℕ) (f : File) (t : Tree) (p : ℕ → Bool) → DeclaresByItself fs n f t → (h : Headed p t (events (file_context (last f.tree)) t))
    → Front (kept f.tokens (declared_names (events h.around h.signature))) (locals_there n f.tokens t)
parameters_first fs n f t p own h =
    let all : List Found = found (units_of fs) in
    let l : TokenList = f.tokens in
    let es : List Event = events h.around h.signature in
    let news : List Event → List Found = λ xs. new_among all (found_in n l xs) in
    let signature : EachDeclared Unsourced es = tree_unsourced h.around h.signature h.plain h.declares_none in
    let spread : (xs ys : List Event) → locals_in (news (xs ++ ys)) ≡ locals_in (news xs) ++ locals_in (news ys) =
    λ xs ys. ap (λ ds. locals_in (new_among all ds)) (found_append n l xs ys) ∙ ap locals_in (new_append all (found_in n l xs) (found_in n l ys)) ∙ locals_append (news xs) (news ys) in
    record {
      rest = names_of (locals_in (news h.rest));
      whole =
          ap names_of (sym (locals_moved n l (first t) (own_declarations (alone l t))))
          ∙ sym (ap (λ ds. names_of (locals_in ds)) own.declared)
          ∙ ap (λ xs. names_of (locals_in (news xs))) h.whole
          ∙ ap names_of (spread h.front (es ++ h.rest) ∙ ap (λ xs. xs ++ locals_in (news (es ++ h.rest))) (front_none n l all h.front h.shared) ∙ spread es h.rest)
          ∙ map-append (λ (x : Declared). x.name) (locals_in (news es)) (locals_in (news h.rest))
          ∙ ap (λ ns. ns ++ names_of (locals_in (news h.rest))) (parameters_kept n l all es signature);
    }

-- the number of a function with its locals
pub record HasLocals (fs : List File) (n : ℕ) (l : TokenList) (t : Tree) : Type 0 where
  pub number : ℕ
  pub there : slice_get (uses (units_of fs)).locals number ≡ Some (locals_there n l t)

at_front : {A : Type 0} (xs ys : List A) (k : ℕ) (x : A) → slice_get xs k ≡ Some x → slice_get (xs ++ ys) k ≡ Some x
at_front [] ys k x e = absurd cc
at_front (z ∷ xs) ys zero x e = e
at_front (z ∷ xs) ys (suc k) x e = at_front xs ys k x e

behind_front : {A : Type 0} (xs ys : List A) (k : ℕ) (x : A) → slice_get ys k ≡ Some x → slice_get (xs ++ ys) (length xs + k) ≡ Some x
behind_front [] ys k x e = let z : 0 + k ≡ k = omega arith in ap (slice_get ys) z ∙ e
behind_front (z ∷ xs) ys k x e = let s : suc (length xs) + k ≡ suc (length xs + k) = omega arith in ap (slice_get (z ∷ (xs ++ ys))) s ∙ behind_front xs ys k x e

pub record InLists (xs : List (List Declared)) (x : List Declared) : Type 0 where
  pub number : ℕ
  pub there : slice_get xs number ≡ Some x

lists_at : (k i : ℕ) (fs : List File) (f : File) (j : ℕ) (t : Tree) → slice_get fs i ≡ Some f → slice_get (functions (parts f.tree)) j ≡ Some t → InLists (all_locals k fs) (locals_there (k + i) f.tokens t)
lists_at k i [] f j t a b = absurd cc
lists_at k zero (g ∷ fs) f j t a b =
    let z : k ≡ k + 0 = omega arith in
    let own : List (List Declared) = locals_of_file k g in
    let same : g ≡ f = same_some g f a in
    record {
      number = j;
      there =
          at_front own (all_locals (suc k) fs) j (locals_there (k + 0) f.tokens t)
          (slice_get-map (λ u. map (local_in_file k (first u)) (own_locals (alone g.tokens u))) (functions (parts g.tree)) j
          ∙ ap (λ (x : File). option_map (λ u. map (local_in_file k (first u)) (own_locals (alone x.tokens u))) (slice_get (functions (parts x.tree)) j)) same
          ∙ ap (option_map (λ u. map (local_in_file k (first u)) (own_locals (alone f.tokens u)))) b ∙ ap (λ c. Some (locals_there c f.tokens t)) z);
    }
lists_at k (suc i) (g ∷ fs) f j t a b =
    let s : suc k + i ≡ k + suc i = omega arith in
    let x : InLists (all_locals (suc k) fs) (locals_there (suc k + i) f.tokens t) = lists_at (suc k) i fs f j t a b in
    record {
      number = length (locals_of_file k g) + x.number;
      there = behind_front (locals_of_file k g) (all_locals (suc k) fs) x.number (locals_there (k + suc i) f.tokens t) (x.there ∙ ap (λ c. Some (locals_there c f.tokens t)) s);
    }

pub has_locals : (fs : List File) → (uses (units_of fs)).locals ≡ all_locals 0 fs → (n : ℕ) (f : File) (j : ℕ) (t : Tree) → slice_get fs n ≡ Some f → slice_get (functions (parts f.tree)) j ≡ Some t → HasLocals fs n f.tokens t
has_locals fs e n f j t a b =
    let z : 0 + n ≡ n = omega arith in
    let x : InLists (all_locals 0 fs) (locals_there (0 + n) f.tokens t) = lists_at 0 n fs f j t a b in
    record { number = x.number; there = ap (λ xs. slice_get xs x.number) e ∙ x.there ∙ ap (λ i. Some (locals_there i f.tokens t)) z }

-- the local of a number
pub record IsNamed (xs : List Declared) (j t : ℕ) : Type 0 where
  pub it : Declared
  pub there : slice_get xs j ≡ Some it
  pub name : it.name ≡ t

named_at : (xs : List Declared) (j t : ℕ) → slice_get (names_of xs) j ≡ Some t → IsNamed xs j t
named_at xs j t e = by (slice_get xs j) refl (sym (slice_get-map (λ (x : Declared). x.name) xs j) ∙ e)
  where
    by : (o : Option Declared) → slice_get xs j ≡ o → option_map (λ (x : Declared). x.name) o ≡ Some t → IsNamed xs j t
    by None f g = absurd cc
    by (Some x) f g = record { it = x; there = f; name = same_some x.name t g }

in_this_file : (n a : ℕ) (xs : List Declared) (j : ℕ) (x : Declared) → slice_get (map (local_in_file n a) xs) j ≡ Some x → x.file ≡ n
in_this_file n a [] j x e = absurd cc
in_this_file n a (y ∷ xs) zero x e = ap (λ (z : Declared). z.file) (sym (same_some (local_in_file n a y) x e))
in_this_file n a (y ∷ xs) (suc j) x e = in_this_file n a xs j x e

-- the object of the local of a number of a function
pub local_object : (fs : List File) → AreOrderly (units_of fs) → AreCounted (units_of fs) → (n : ℕ) (l : TokenList) (t : Tree) (h : HasLocals fs n l t) (ns : List ℕ) → Front ns (locals_there n l t) → (j x : ℕ)
    → slice_get ns j ≡ Some x → object_of (uses (units_of fs)) n x ≡ Some (object.Local h.number j)
local_object fs o c n l t h ns front j x e =
    let u : UsesView = uses (units_of fs) in
    let named : IsNamed (locals_there n l t) j x = named_at (locals_there n l t) j x (ap (λ ys. slice_get ys j) front.whole ∙ at_front ns front.rest j x e) in
    let file : named.it.file ≡ n = in_this_file n (first t) (own_locals (alone l t)) j named.it named.there in
    let there : local_of u h.number j ≡ Some named.it = ap (λ z. local_in z j) h.there ∙ named.there in
    ap (object_of u n) (sym named.name) ∙ sym (ap (λ i. object_of u i named.it.name) file) ∙ uses_own (units_of fs) o c (object.Local h.number j) named.it there
