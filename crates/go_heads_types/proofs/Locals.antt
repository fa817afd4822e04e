-- The locals of the function of a number: where they stand, and how they are spelled.
use Rattle.std.proofs.Common.{◌≡◌, ◌∙◌, ℕ, zero, suc, ◌+◌, Bool, true, false, List, [], ◌∷◌, ◌++◌, map, Some, refl, sym, ap, subst, arith}
use Rattle.std.specs.Prelude.{slice_get, if◌then◌else◌}
use Rattle.std.specs.List.{AllByRecursion}
use Rattle.go_tokens.specs.Tokens.{TokenList}
use Rattle.go_grammar.specs.Trees.{Tree, first, last, parts}
use Rattle.go_tree.specs.declared.event.Event.{Event}
use Rattle.go_tree.specs.declared.event.Event.TheVariants as event
use Rattle.go_tree.specs.declared.object.Declared.{Declared}
use Rattle.go_tree.specs.Contexts.{is_package, file_context}
use Rattle.go_tree.specs.Declarations.{Found, found, found_in, is_new, new_among}
use Rattle.go_tree.specs.Events.{events}
use Rattle.go_tree.specs.Lists.{functions}
use Rattle.go_tree.specs.Units.{word}
use Rattle.go_heads.specs.Functions.{Function, Alone, alone, all_functions, function_alone}
use Rattle.go_heads.specs.Heads.{File}
use Rattle.go_heads.proofs.Public.{some_none, same_some}
use Rattle.go_heads.specs.Objects.{units_of}
use Rattle.go_heads.specs.Bodies.{function_events}
use Rattle.go_heads.specs.Names.{own_text, found_by, own_names, own_declarations, in_file, DeclaresByItself}
use Rattle.go_heads.specs.Locals.{locals_in, own_locals, local_in_file, all_locals}

-- ---- by number

-- The function of a number: the number of its file, which of the file's functions it is, and its locals.
pub record IsPlaced (n : ℕ) (fs : List File) (dss : List (List Declared)) (k : ℕ) (g : Function) : Type 0 where
  pub number : ℕ
  pub place : ℕ
  pub file : slice_get fs number ≡ Some g.file
  pub tree : slice_get (functions (parts g.file.tree)) place ≡ Some g.tree
  pub locals : slice_get dss k ≡ Some (map (local_in_file (n + number) (first g.tree)) (own_locals (function_alone g)))

row_placed : (n : ℕ) (f : File) (fs : List File) (dss : List (List Declared)) (b : ℕ) (us : List Tree) → ((i : ℕ) → slice_get (functions (parts f.tree)) (b + i) ≡ slice_get us i)
    → ((k : ℕ) (g : Function) → slice_get (all_functions fs) k ≡ Some g → IsPlaced n (f ∷ fs) dss k g)
    → (k : ℕ) (g : Function) → slice_get (map (λ t. let x : Function = record { file = f; tree = t } in x) us ++ all_functions fs) k ≡ Some g
    → IsPlaced n (f ∷ fs) (map (λ t. map (local_in_file n (first t)) (own_locals (alone f.tokens t))) us ++ dss) k g
row_placed n f fs dss b [] at rest k g e = rest k g e
row_placed n f fs dss b (t ∷ us) at rest zero g e =
    let it : Function = record { file = f; tree = t } in
    subst (IsPlaced n (f ∷ fs) (map (λ t. map (local_in_file n (first t)) (own_locals (alone f.tokens t))) (t ∷ us) ++ dss) zero) (same_some it g e) (record {
      number = 0;
      place = b;
      file = refl;
      tree = ap (slice_get (functions (parts f.tree))) (let z : b ≡ b + 0 = omega arith in z) ∙ at 0;
      locals = ap (λ m. Some (map (local_in_file m (first t)) (own_locals (alone f.tokens t)))) (let z : n ≡ n + 0 = omega arith in z);
    })
row_placed n f fs dss b (t ∷ us) at rest (suc k) g e =
    let r = row_placed n f fs dss (suc b) us (λ i. ap (slice_get (functions (parts f.tree))) (let z : suc b + i ≡ b + suc i = omega arith in z) ∙ at (suc i)) rest k g e in
    record { number = r.number; place = r.place; file = r.file; tree = r.tree; locals = r.locals }

pub placed : (n : ℕ) (fs : List File) (k : ℕ) (g : Function) → slice_get (all_functions fs) k ≡ Some g → IsPlaced n fs (all_locals n fs) k g
placed n [] k g e = absurd (some_none g (sym e))
placed n (f ∷ fs) k g e =
    row_placed n f fs (all_locals (suc n) fs) 0 (functions (parts f.tree)) (λ i. ap (slice_get (functions (parts f.tree))) (let z : 0 + i ≡ i = omega arith in z))
    (λ j x s.
    let r = placed (suc n) fs j x s in
    let z : suc n + r.number ≡ n + suc r.number = omega arith in
    let y : IsPlaced n (f ∷ fs) (all_locals (suc n) fs) j x = record {
      number = suc r.number;
      place = r.place;
      file = r.file;
      tree = r.tree;
      locals = r.locals ∙ ap (λ m. Some (map (local_in_file m (first x.tree)) (own_locals (function_alone x)))) z;
    } in
    y)
    k g e

-- ---- spellings

abbrev IsSpelled : (ℕ → List ℕ) → Found → Type 0
IsSpelled w d = d.name ≡ w d.it.name

spelled_in : (n : ℕ) (l : TokenList) (es : List Event) → AllByRecursion (IsSpelled (word l)) (found_in n l es)
spelled_in n l [] = tt
spelled_in n l (event.Declaration d ∷ es) = (refl, spelled_in n l es)
spelled_in n l (e ∷ es) = spelled_in n l es

spelled_by : (w : ℕ → List ℕ) (es : List Event) → AllByRecursion (IsSpelled w) (found_by w es)
spelled_by w [] = tt
spelled_by w (event.Declaration d ∷ es) = (refl, spelled_by w es)
spelled_by w (e ∷ es) = spelled_by w es

new_spelled : (w : ℕ → List ℕ) (all ds : List Found) → AllByRecursion (IsSpelled w) ds → AllByRecursion (IsSpelled w) (new_among all ds)
new_spelled w all [] h = tt
new_spelled w all (d ∷ ds) h = by (is_new all d) (new_spelled w all ds h.1)
  where
    by : (b : Bool) → AllByRecursion (IsSpelled w) (new_among all ds) → AllByRecursion (IsSpelled w) (if b then d ∷ new_among all ds else new_among all ds)
    by true g = (h.0, g)
    by false g = g

-- names that are spelled in two ways, of which the other counts tokens from another one
locals_spelled : (n : ℕ) (l : TokenList) (b : ℕ) (w : ℕ → List ℕ) (ds : List Found) → AllByRecursion (IsSpelled w) ds → AllByRecursion (IsSpelled (word l)) (map (in_file n l b) ds)
    → AllByRecursion (λ (x : Declared). word l (b + x.name) ≡ w x.name) (locals_in ds)
locals_spelled n l b w [] h k = tt
locals_spelled n l b w (d ∷ ds) h k = by (is_package d.it.block) (locals_spelled n l b w ds h.1 k.1)
  where
    by : (c : Bool) → AllByRecursion (λ (x : Declared). word l (b + x.name) ≡ w x.name) (locals_in ds)
        → AllByRecursion (λ (x : Declared). word l (b + x.name) ≡ w x.name) (if c then locals_in ds else record { file = d.file; name = d.it.name; entity = d.it.entity; block = d.it.block; scope = d.it.scope } ∷ locals_in ds)
    by true g = g
    by false g = (sym k.0 ∙ h.0, g)

-- a local in its file has the text that its function by itself has there
pub own_spelled : (fs : List File) (n : ℕ) (f : File) (t : Tree) → DeclaresByItself fs n f t → AllByRecursion (λ (x : Declared). word f.tokens (first t + x.name) ≡ own_text (alone f.tokens t) x.name) (own_locals (alone f.tokens t))
own_spelled fs n f t h =
    let a : Alone = alone f.tokens t in
    let es : List Event = events (file_context (last f.tree)) t in
    locals_spelled n f.tokens (first t) (own_text a) (own_declarations a)
    (new_spelled (own_text a) (own_names a) (own_names a) (spelled_by (own_text a) (function_events a)))
    (subst (AllByRecursion (IsSpelled (word f.tokens))) h.declared (new_spelled (word f.tokens) (found (units_of fs)) (found_in n f.tokens es) (spelled_in n f.tokens es)))
