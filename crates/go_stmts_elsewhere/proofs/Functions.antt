-- Functions at their new places.
use Rattle.std.proofs.Common.{◌≡◌, ◌∙◌, ℕ, zero, suc, ◌+◌, ◌<◌, Bool, true, false, List, [], ◌∷◌, map, length, Option, Some, None, refl, sym, ap, subst, cond, is_some, slice_get, arith}
use Rattle.std.specs.Option.{option_map, unwrap_or}
use Rattle.go_grammar.specs.Trees.{Tree, node, Trees, none, more, skip, last}
use Rattle.go_rewriting.specs.Places.{carry, carries}
use Rattle.go_tree.specs.declared.object.Object.{Object}
use Rattle.go_tree.specs.declared.object.Object.TheVariants as object
use Rattle.go_typed.specs.declared.form.Form.TheVariants as form
use Rattle.go_exprs_rules.specs.declared.fault.TypeFault.{TypeFault}
use Rattle.go_exprs_rules.specs.Faults.{before, sooner, earlier, least, judged, reported}
use Rattle.go_exprs_rules.specs.Names.{predeclared_sort, object_sort, object_form, declared_form}
use Rattle.go_exprs_rules.specs.Scopes.{Needed, Scope, free}
use Rattle.go_exprs_rules.specs.Settling.{Part}
use Rattle.go_exprs_rules.specs.TypeNodes.{part_type}
use Rattle.go_stmts_defs.specs.Bodies.{numbers_from, start, token_locals, signature_in, signature_part, signature_of, no_function, function_read}
use Rattle.go_stmts_defs.specs.Frames.{Frame, local_stands}
use Rattle.go_stmts_defs.specs.Laying.{local_named}
use Rattle.go_stmts_defs.specs.Reading.{Found, Reading, read, reading, first_parts, entry_names}
use Rattle.go_package_defs.specs.Bodies.{Behind, behind_read, function_in}
use Rattle.go_exprs_elsewhere.specs.Elsewhere.{Moves, form_moved, placed, fault_placed, Along, KeepsSpelling, AllKeepSpelling}
use Rattle.go_exprs_elsewhere.proofs.Public.{optional, type_kept, typed_elsewhere}
use Rattle.go_stmts_elsewhere.specs.Frames.{ObjectAlong, has_room, faults_placed, AlongFrames, AlongReadings, KeepsPlaces}
use Rattle.go_stmts_elsewhere.specs.Functions.{FunctionAlong, KeepsOrder, AlongFunctions, LocalsStand}
use Rattle.go_stmts_elsewhere.proofs.Entering.{entry_names_kept, first_parts_kept}
use Rattle.go_stmts_elsewhere.proofs.Reading.{reading_along}

-- ---- lists by number

-- what there is at a place, if there is room
abbrev at : {A : Type 0} → Bool → A → Option A
at true x = Some x
at false x = None

pub listed : {A B : Type 0} (f : ℕ → B) (a : ℕ) (xs : List A) (n : ℕ) → slice_get (map f (numbers_from a (length xs))) n ≡ at (is_some (slice_get xs n)) (f (a + n))
listed f a [] n = refl
listed f a (x ∷ xs) zero = let e : a ≡ a + 0 = omega arith in ap (λ k. Some (f k)) e
listed f a (x ∷ xs) (suc n) = let e : suc a + n ≡ a + suc n = omega arith in listed f (suc a) xs n ∙ ap (λ k. at (is_some (slice_get xs n)) (f k)) e

within : {B : Type 0} (f : ℕ → B) (a k n : ℕ) → n < k → slice_get (map f (numbers_from a k)) n ≡ Some (f (a + n))
within f a zero n h = absurd (omega (arith, h))
within f a (suc k) zero h = let e : a ≡ a + 0 = omega arith in ap (λ i. Some (f i)) e
within f a (suc k) (suc n) h = let e : suc a + n ≡ a + suc n = omega arith in within f (suc a) k n (omega (arith, h)) ∙ ap (λ i. Some (f i)) e

first : (n : ℕ) → 0 + n ≡ n
first n = omega arith

pub listed_all : {A B : Type 0} (f : ℕ → B) (xs : List A) (n : ℕ) → slice_get (map f (numbers_from 0 (length xs))) n ≡ at (is_some (slice_get xs n)) (f n)
listed_all f xs n = listed f 0 xs n ∙ ap (λ k. at (is_some (slice_get xs n)) (f k)) (first n)

within_all : {B : Type 0} (f : ℕ → B) (k n : ℕ) → n < k → slice_get (map f (numbers_from 0 k)) n ≡ Some (f n)
within_all f k n h = within f 0 k n h ∙ ap (λ i. Some (f i)) (first n)

-- ---- which fault is reported

module _ (m : Moves) where
  module _ (order : KeepsOrder m) where
    before_kept : (f g : TypeFault) → before (fault_placed m f) (fault_placed m g) ≡ before f g
    before_kept f g = let a = order.same f.first g.first in let b = order.same f.last g.last in let c = order.less f.last g.last in let d = order.less f.first g.first in cc

    either_fault : (b : Bool) (f g : TypeFault) → cond b (fault_placed m g) (fault_placed m f) ≡ fault_placed m (cond b g f)
    either_fault true f g = refl
    either_fault false f g = refl

    sooner_kept : (f g : TypeFault) → sooner (fault_placed m f) (fault_placed m g) ≡ fault_placed m (sooner f g)
    unfolding sooner
    sooner_kept f g = ap (λ b. cond b (fault_placed m g) (fault_placed m f)) (before_kept g f) ∙ either_fault (before g f) f g

    earlier_kept : (f : TypeFault) (o : Option TypeFault) → earlier (Some (fault_placed m f)) (option_map (fault_placed m) o) ≡ option_map (fault_placed m) (earlier (Some f) o)
    earlier_kept f None = refl
    earlier_kept f (Some g) = ap Some (sooner_kept f g)

    least_kept : (fs : List TypeFault) → least (map (fault_placed m) fs) ≡ option_map (fault_placed m) (least fs)
    least_kept [] = refl
    least_kept (f ∷ fs) = ap (earlier (Some (fault_placed m f))) (least_kept fs) ∙ earlier_kept f (least fs)

    pub reported_kept : (fs : Found) → reported (faults_placed m fs) ≡ option_map (fault_placed m) (reported fs)
    reported_kept [] = refl
    reported_kept ([] ∷ fs) = reported_kept fs
    reported_kept ((f ∷ gs) ∷ fs) = least_kept (f ∷ gs)

  -- a fault is reported of both, or of neither
  earlier_some : (f : TypeFault) (o : Option TypeFault) → is_some (earlier (Some f) o) ≡ true
  earlier_some f None = refl
  earlier_some f (Some g) = refl

  pub as_many : (fs : Found) → is_some (reported (faults_placed m fs)) ≡ is_some (reported fs)
  as_many [] = refl
  as_many ([] ∷ fs) = as_many fs
  as_many ((f ∷ gs) ∷ fs) = earlier_some (fault_placed m f) (least (map (fault_placed m) gs)) ∙ sym (earlier_some f (least gs))

  -- ---- around a function

  module _ (l : ℕ → Bool) (f g : Frame) (c : AlongFrames m l f g) (ls : LocalsStand f.around g.around) where
    object_same : (n : Needed) (o q : Option Object) → ObjectAlong m l f.around g.around o q → object_sort g.around n q ≡ object_sort f.around n o
    object_same n None None w = refl
    object_same n (Some object.Import) (Some object.Import) w = refl
    object_same n (Some (object.Predeclared p)) (Some (object.Predeclared q)) w = ap (λ z. predeclared_sort z q) c.iota ∙ ap (predeclared_sort f.around.iota) w
    object_same n (Some (object.Package a)) (Some (object.Package b)) w = w.0 n
    object_same n (Some (object.Local d a)) (Some (object.Local e b)) w = ls n d a e b
    object_same n o q w = absurd w

    form_same : (o q : Option Object) → ObjectAlong m l f.around g.around o q → object_form g.around q ≡ form_moved m (object_form f.around o)
    form_same None None w = refl
    form_same (Some object.Import) (Some object.Import) w = refl
    form_same (Some (object.Predeclared p)) (Some (object.Predeclared q)) w = cc
    form_same (Some (object.Package a)) (Some (object.Package b)) w = ap form.Object w.1
    form_same (Some (object.Local d a)) (Some (object.Local e b)) w = ap form.Local w.1
    form_same o q w = absurd w

    declared_same : (o q : Option Object) → ObjectAlong m l f.around g.around o q → declared_form g.around q ≡ form_moved m (declared_form f.around o)
    declared_same None None w = refl
    declared_same (Some object.Import) (Some object.Import) w = refl
    declared_same (Some (object.Predeclared p)) (Some (object.Predeclared q)) w = cc
    declared_same (Some (object.Package a)) (Some (object.Package b)) w = ap form.Object w.1
    declared_same (Some (object.Local d a)) (Some (object.Local e b)) w = ap form.Declared w.1
    declared_same o q w = absurd w

    around_along : Along m f.around g.around
    around_along = record {
      rights = c.rights;
      needed = c.needed;
      limits = c.limits;
      means = record {
        texts = c.texts;
        characters = c.characters;
        standing = λ n i. object_same n (f.around.objects i) (g.around.objects (m.token i)) (c.objects i);
        object = λ i. form_same (f.around.objects i) (g.around.objects (m.token i)) (c.objects i);
        declared = λ i. declared_same (f.around.objects i) (g.around.objects (m.token i)) (c.objects i);
      };
    }

    pub signature_part_along : (ps : Trees) → AllKeepSpelling m ps → signature_part g.around (signature_in (carries m.token ps)) ≡ optional m (signature_part f.around (signature_in ps))
    signature_part_along none w = refl
    signature_part_along (skip ps) w = refl
    signature_part_along (more x ps) w = ap (λ y. Some y) (typed_elsewhere m f.around g.around free x around_along w.0).typed

    pub signature_along : (t : Tree) → KeepsSpelling m t → signature_of g.around (carry m.token t) ≡ optional m (signature_of f.around t)
    signature_along (node k i j ps) w = signature_part_along ps w.1

    pub named_same : (o q : Option Object) → ObjectAlong m l f.around g.around o q → local_named q ≡ option_map m.local (local_named o)
    named_same None None w = refl
    named_same (Some object.Import) (Some object.Import) w = refl
    named_same (Some (object.Predeclared p)) (Some (object.Predeclared q)) w = refl
    named_same (Some (object.Package a)) (Some (object.Package b)) w = refl
    named_same (Some (object.Local d a)) (Some (object.Local e b)) w = ap Some w.1
    named_same o q w = absurd w

    tokens_along : (old new i : ℕ) → i < old → m.token i < new → slice_get (token_locals g.around new) (m.token i) ≡ option_map (option_map m.local) (slice_get (token_locals f.around old) i)
    tokens_along old new i h k =
        within_all (λ t. local_named (g.around.objects t)) new (m.token i) k
        ∙ ap Some (named_same (f.around.objects i) (g.around.objects (m.token i)) (c.objects i))
        ∙ ap (option_map (option_map m.local)) (sym (within_all (λ t. local_named (f.around.objects t)) old i h))

  pub locals_along : (l : ℕ → Bool) (f g : Frame) → AlongFrames m l f g → (k : ℕ) → l k ≡ true
      → slice_get (map (local_stands g.locals) (numbers_from 0 (length g.locals))) (m.local k) ≡ slice_get (map (local_stands f.locals) (numbers_from 0 (length f.locals))) k
  locals_along l f g c k e =
      listed_all (local_stands g.locals) g.locals (m.local k) ∙ ap (λ b. at b (local_stands g.locals (m.local k))) (c.room k e) ∙ ap (at (has_room f.locals k)) (c.locals k e)
      ∙ sym (listed_all (local_stands f.locals) f.locals k)

  last_carried : (t : Tree) → last (carry m.token t) ≡ m.token (last t)
  last_carried (node k i j ps) = refl

  -- ---- functions

  module _ (l : ℕ → Bool) (s t : Scope) (count other : ℕ) (types others : ℕ → ℕ) (c : AlongFrames m l (start s count types) (start t other others)) (ls : LocalsStand s t)
      (old number : ℕ) (x : Tree) (w : KeepsSpelling m x) (v : KeepsPlaces m x) where
    function_same : (y : Part) (f g : Frame) → AlongFrames m l f g
        → FunctionAlong m l (last x) number (function_read s old (last x) (signature_of s x) y f) (function_read t number (last (carry m.token x)) (signature_of t (carry m.token x)) (placed m y) g)
    function_same y f g r =
        let told = signature_along l (start s count types) (start t other others) c ls x w in
        record {
          number = refl;
          signature = ap (λ o. unwrap_or (part_type o) no_function) told ∙ ap (λ o. unwrap_or o no_function) (type_kept m (signature_of s x));
          parameters = ap (λ o. entry_names (first_parts o)) told ∙ ap entry_names (first_parts_kept m (signature_of s x)) ∙ entry_names_kept m (first_parts (signature_of s x));
          locals = locals_along l f g r;
          tokens = λ i h k. ap (λ n. slice_get (token_locals t n) (m.token i)) (last_carried x) ∙ tokens_along l (start s count types) (start t other others) c ls (last x) (m.token (last x)) i h k;
          tree = refl;
        }

    judged_same : (o q : Option TypeFault) → is_some q ≡ is_some o → (KeepsOrder m → q ≡ option_map (fault_placed m) o) → (b d : Behind) → FunctionAlong m l (last x) number b.function d.function × (d.rights ≡ b.rights)
        → AlongFunctions m l (last x) number (judged o b) (judged q d)
    judged_same None None e k b d r = r
    judged_same (Some f) (Some g) e k b d r = λ order. let h = k order in cc
    judged_same None (Some g) e k b d r = cc
    judged_same (Some f) None e k b d r = cc

    read_same : (r q : Reading) → AlongReadings m l r q → AlongFunctions m l (last x) number (behind_read s old x r) (behind_read t number (carry m.token x) q)
    read_same (read y fs f) (read z gs g) e =
        subst (λ u. AlongFunctions m l (last x) number (behind_read s old x (read y fs f)) (behind_read t number (carry m.token x) (read u gs g))) (sym e.0)
        (subst (λ hs. AlongFunctions m l (last x) number (behind_read s old x (read y fs f)) (behind_read t number (carry m.token x) (read (placed m y) hs g))) (sym e.1)
        (judged_same (reported fs) (reported (faults_placed m fs)) (as_many fs) (λ order. reported_kept order fs)
        (record { function = function_read s old (last x) (signature_of s x) y f; rights = f.around.rights })
        (record { function = function_read t number (last (carry m.token x)) (signature_of t (carry m.token x)) (placed m y) g; rights = g.around.rights })
        (function_same y f g e.2, e.2.rights)))

    pub functions_along : AlongFunctions m l (last x) number (function_in s old count types x) (function_in t number other others (carry m.token x))
    functions_along = read_same (reading (start s count types) free x) (reading (start t other others) free (carry m.token x)) (reading_along m l (start s count types) (start t other others) c free x w v)
