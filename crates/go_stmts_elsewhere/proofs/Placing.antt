-- Locals that are declared in both frames, and what names mean in them.
use Rattle.std.proofs.Common.{◌≡◌, ◌∙◌, ℕ, zero, suc, Bool, true, false, List, [], ◌∷◌, Option, Some, None, refl, sym, ap, is_some, slice_get, nat_eq}
use Rattle.std.proofs.lemmas.Bool.{eqb-true, eq-eqb}
use Rattle.go_tree.specs.declared.object.Object.{Object}
use Rattle.go_tree.specs.declared.object.Object.TheVariants as object
use Rattle.go_typed.specs.declared.form.Form.TheVariants as form
use Rattle.go_exprs_rules.specs.Names.{predeclared_sort, object_sort, object_form, declared_form}
use Rattle.go_exprs_rules.specs.Scopes.{Needed}
use Rattle.go_exprs_rules.specs.Sorts.{Stands}
use Rattle.go_stmts_defs.specs.Frames.{Frame, known, local_stands, scope_of, placed, with_local}
use Rattle.go_stmts_defs.specs.Reading.{back}
use Rattle.go_exprs_elsewhere.specs.Elsewhere.{Moves, form_moved, Along}
use Rattle.go_stmts_elsewhere.specs.Frames.{ObjectAlong, has_room, AlongFrames}
use Rattle.go_stmts_elsewhere.proofs.Naming.{Counts, AllCount}

-- ---- lists

pub placed_room : {A : Type 0} (n : ℕ) (x : A) (xs : List A) (k : ℕ) → is_some (slice_get (placed n x xs) k) ≡ is_some (slice_get xs k)
placed_room n x [] k = refl
placed_room zero x (y ∷ ys) zero = refl
placed_room zero x (y ∷ ys) (suc k) = refl
placed_room (suc n) x (y ∷ ys) zero = refl
placed_room (suc n) x (y ∷ ys) (suc k) = placed_room n x ys k

pub placed_here : {A : Type 0} (n : ℕ) (x : A) (xs : List A) → is_some (slice_get xs n) ≡ true → slice_get (placed n x xs) n ≡ Some x
placed_here n x [] e = cc
placed_here zero x (y ∷ ys) e = refl
placed_here (suc n) x (y ∷ ys) e = placed_here n x ys e

placed_nowhere : {A : Type 0} (n : ℕ) (x : A) (xs : List A) → is_some (slice_get xs n) ≡ false → placed n x xs ≡ xs
placed_nowhere n x [] e = refl
placed_nowhere zero x (y ∷ ys) e = cc
placed_nowhere (suc n) x (y ∷ ys) e = ap (λ zs. y ∷ zs) (placed_nowhere n x ys e)

pub placed_other : {A : Type 0} (n k : ℕ) (x : A) (xs : List A) → (n ≡ k → ⊥) → slice_get (placed n x xs) k ≡ slice_get xs k
placed_other n k x [] e = refl
placed_other zero zero x (y ∷ ys) e = absurd (e refl)
placed_other zero (suc k) x (y ∷ ys) e = refl
placed_other (suc n) zero x (y ∷ ys) e = refl
placed_other (suc n) (suc k) x (y ∷ ys) e = placed_other n k x ys (λ h. e (ap suc h))

pub different : (n k : ℕ) → nat_eq n k ≡ false → n ≡ k → ⊥
different n k h e = let d = eq-eqb n k e in cc

module _ (m : Moves) (l : ℕ → Bool) (f g : Frame) (c : AlongFrames m l f g) where
  -- ---- a local that is declared

  same_local : (n : ℕ) (x : Stands) → l n ≡ true → (b : Bool) → has_room f.locals n ≡ b
      → local_stands (placed (m.local n) (Some x) g.locals) (m.local n) ≡ local_stands (placed n (Some x) f.locals) n
  same_local n x e true r = ap known (placed_here (m.local n) (Some x) g.locals (c.room n e ∙ r)) ∙ sym (ap known (placed_here n (Some x) f.locals r))
  same_local n x e false r =
      ap (λ ls. local_stands ls (m.local n)) (placed_nowhere (m.local n) (Some x) g.locals (c.room n e ∙ r)) ∙ c.locals n e ∙ ap (λ ls. local_stands ls n) (sym (placed_nowhere n (Some x) f.locals r))

  each_local : (n : ℕ) (x : Stands) → l n ≡ true → (k : ℕ) → l k ≡ true → (b : Bool) → nat_eq n k ≡ b
      → local_stands (placed (m.local n) (Some x) g.locals) (m.local k) ≡ local_stands (placed n (Some x) f.locals) k
  each_local n x e k d true h =
      let s = eqb-true n k h in
      ap (λ z. local_stands (placed (m.local n) (Some x) g.locals) (m.local z)) (sym s) ∙ same_local n x e (has_room f.locals n) refl ∙ ap (local_stands (placed n (Some x) f.locals)) s
  each_local n x e k d false h =
      let apart : n ≡ k → ⊥ = different n k h in
      ap known (placed_other (m.local n) (m.local k) (Some x) g.locals (λ z. apart (c.apart n k e d z))) ∙ c.locals k d ∙ ap known (sym (placed_other n k (Some x) f.locals apart))

  pub local_along : (n : ℕ) (x : Stands) → l n ≡ true → AlongFrames m l (with_local n x f) (with_local (m.local n) x g)
  local_along n x e = record {
    rights = c.rights;
    iota = c.iota;
    needed = c.needed;
    limits = c.limits;
    texts = c.texts;
    characters = c.characters;
    objects = c.objects;
    apart = c.apart;
    room = λ k d. placed_room (m.local n) (Some x) g.locals (m.local k) ∙ c.room k d ∙ sym (placed_room n (Some x) f.locals k);
    locals = λ k d. each_local n x e k d (nat_eq n k) refl;
    types = c.types;
    source = c.source;
    repeats = c.repeats;
    tag = c.tag;
    results = c.results;
  }

  -- a local that doesn't count is declared in the first frame alone
  pub aside_along : (n : ℕ) (x : Stands) → l n ≡ false → AlongFrames m l (with_local n x f) g
  aside_along n x e = record {
    rights = c.rights;
    iota = c.iota;
    needed = c.needed;
    limits = c.limits;
    texts = c.texts;
    characters = c.characters;
    objects = c.objects;
    apart = c.apart;
    room = λ k d. c.room k d ∙ sym (placed_room n (Some x) f.locals k);
    locals = λ k d. c.locals k d ∙ ap known (sym (placed_other n k (Some x) f.locals (other k d)));
    types = c.types;
    source = c.source;
    repeats = c.repeats;
    tag = c.tag;
    results = c.results;
  }
    where
      other : (k : ℕ) → l k ≡ true → n ≡ k → ⊥
      other k d h = let a = ap l h in cc

  -- ---- what names mean

  object_along : (n : Needed) (o q : Option Object) → ObjectAlong m l f.around g.around o q → object_sort (scope_of g) n q ≡ object_sort (scope_of f) n o
  object_along n None None w = refl
  object_along n (Some object.Import) (Some object.Import) w = refl
  object_along n (Some (object.Predeclared p)) (Some (object.Predeclared q)) w = ap (λ z. predeclared_sort z q) c.iota ∙ ap (predeclared_sort f.around.iota) w
  object_along n (Some (object.Package a)) (Some (object.Package b)) w = w.0 n
  object_along n (Some (object.Local d a)) (Some (object.Local e b)) w = ap (local_stands g.locals) w.1 ∙ c.locals a w.0
  object_along n o q w = absurd w

  form_along : (o q : Option Object) → ObjectAlong m l f.around g.around o q → object_form (scope_of g) q ≡ form_moved m (object_form (scope_of f) o)
  form_along None None w = refl
  form_along (Some object.Import) (Some object.Import) w = refl
  form_along (Some (object.Predeclared p)) (Some (object.Predeclared q)) w = cc
  form_along (Some (object.Package a)) (Some (object.Package b)) w = ap form.Object w.1
  form_along (Some (object.Local d a)) (Some (object.Local e b)) w = ap form.Local w.1
  form_along o q w = absurd w

  pub declared_along : (o q : Option Object) → ObjectAlong m l f.around g.around o q → declared_form (scope_of g) q ≡ form_moved m (declared_form (scope_of f) o)
  declared_along None None w = refl
  declared_along (Some object.Import) (Some object.Import) w = refl
  declared_along (Some (object.Predeclared p)) (Some (object.Predeclared q)) w = cc
  declared_along (Some (object.Package a)) (Some (object.Package b)) w = ap form.Object w.1
  declared_along (Some (object.Local d a)) (Some (object.Local e b)) w = ap form.Declared w.1
  declared_along o q w = absurd w

  pub scopes_along : Along m (scope_of f) (scope_of g)
  scopes_along = record {
    rights = c.rights;
    needed = c.needed;
    limits = c.limits;
    means = record {
      texts = c.texts;
      characters = c.characters;
      standing = λ n i. object_along n (f.around.objects i) (g.around.objects (m.token i)) (c.objects i);
      object = λ i. form_along (f.around.objects i) (g.around.objects (m.token i)) (c.objects i);
      declared = λ i. declared_along (f.around.objects i) (g.around.objects (m.token i)) (c.objects i);
    };
  }

  -- ---- the locals that tokens mean

  counted : (o q : Option Object) → ObjectAlong m l f.around g.around o q → Counts l o
  counted None q w = tt
  counted (Some object.Import) q w = tt
  counted (Some (object.Predeclared p)) q w = tt
  counted (Some (object.Package n)) q w = tt
  counted (Some (object.Local d n)) (Some (object.Local e k)) w = w.0
  counted (Some (object.Local d n)) q w = absurd w

  pub all_count : AllCount l f.around
  all_count i = counted (f.around.objects i) (g.around.objects (m.token i)) (c.objects i)

-- ---- in front of a node again

-- the tag, the results and iota of the frames in front of it
pub back_along : (m : Moves) (l : ℕ → Bool) (a b f g : Frame) → AlongFrames m l a b → AlongFrames m l f g → AlongFrames m l (back a f) (back b g)
back_along m l a b f g d c = record {
  rights = c.rights;
  iota = d.iota;
  needed = c.needed;
  limits = c.limits;
  texts = c.texts;
  characters = c.characters;
  objects = c.objects;
  apart = c.apart;
  room = c.room;
  locals = c.locals;
  types = c.types;
  source = c.source;
  repeats = c.repeats;
  tag = d.tag;
  results = d.results;
}
