-- What is known between statements stands for something known, and stays so.
use Rattle.std.proofs.Common.{◌≡◌, ℕ, zero, suc, ◌⊎◌, inl, inr, true, List, [], ◌∷◌, Option, Some, None, refl, sym, ap, subst, ◌∙◌}
use Rattle.std.specs.Prelude.{slice_get}
use Rattle.go_constants.specs.declared.values.Const.{Const}
use Rattle.go_grammar.specs.declared.kind.Kind.{Kind}
use Rattle.go_grammar.specs.declared.kind.Kind.TheVariants as kind
use Rattle.go_grammar.specs.declared.kind.Sort.TheVariants as declaring
use Rattle.go_grammar.specs.Trees.{Trees}
use Rattle.go_types.specs.Trees.{TypeTree, declared}
use Rattle.go_types.specs.Relations.{Rights, HasRight, Underlying, itself, through}
use Rattle.go_types_relations.specs.Tests.{underlying_of}
use Rattle.go_types_relations.proofs.Public.{told_underlying, underlying_told}
use Rattle.go_tree.specs.declared.object.Object.TheVariants as object
use Rattle.go_typed.specs.Trees.{sort_of, form_of, parts_of, list_of}
use Rattle.go_typed.specs.Trees as sort
use Rattle.go_exprs_rules.specs.Scopes.{in_full, Scope}
use Rattle.go_exprs_rules.specs.Settling.{Part}
use Rattle.go_exprs_rules.specs.Sorts.{Stands, is_family, family_of_const, family_of_type}
use Rattle.go_exprs_rules.specs.Tables.{Parts}
use Rattle.go_exprs_rules.specs.TypeNodes.{part_type, entry_types}
use Rattle.go_stmts_defs.specs.Bodies.{no_locals, start}
use Rattle.go_stmts_defs.specs.Frames.{Frame, Locals, known, scope_of, placed, with_local, with_right, with_own_right}
use Rattle.go_stmts_defs.specs.Laying.{local_named, type_number}
use Rattle.go_stmts_defs.specs.Reading.{entry_names, with_parameter, with_parameters, first_parts, signature_results, in_function, in_switch, in_constants, entering, with_type, beginning, declares_sort, is_new, declares_all, part_source, right_side, back, leaving}
use Rattle.go_stmts_final_types.specs.Names.{KeepsFamily}
use Rattle.go_stmts_final_types.specs.Placed.{IsKnownObject, ObjectsAreGood, LocalsAreGood}
use Rattle.go_stmts_placed.specs.Frames.{FrameIsGood, AllFine, DeclaresFine}
use Rattle.go_stmts_placed.specs.Placed.{IsFree, RightIsFree}

-- ---- more right sides

abbrev pub Kept : Rights → Rights → Type 0
Kept old new = (n : ℕ) (r : TypeTree) → HasRight old n r → HasRight new n r

module _ (old new : Rights) (kept : Kept old new) where
  underlying_stays : (t u : TypeTree) → Underlying old t u → Underlying new t u
  underlying_stays t u (itself v h) = itself v h
  underlying_stays t u (through n r v h g) = through n r v (kept n r h) (underlying_stays r v g)

  underlying_same : (t u : TypeTree) → underlying_of old t ≡ Some u → underlying_of new t ≡ Some u
  underlying_same t u e = underlying_told new t u (underlying_stays t u (told_underlying old t u e))

  family_stays : (t : TypeTree) (o : Option TypeTree) (c : Const) → underlying_of old t ≡ o → is_family (family_of_const c) (family_of_type o) ≡ true → is_family (family_of_const c) (family_of_type (underlying_of new t)) ≡ true
  family_stays t None c m e = cc
  family_stays t (Some u) c m e = subst (λ z. is_family (family_of_const c) (family_of_type z) ≡ true) (sym (underlying_same t u m)) e

  keeps_more : (x : Stands) → KeepsFamily old x → KeepsFamily new x
  keeps_more (sort.Constant t c) e = family_stays t (underlying_of old t) c refl e
  keeps_more x e = tt

  pub known_more : (x : Stands) → IsKnownObject old x → IsKnownObject new x
  known_more x h = record { fit = h.fit; family = keeps_more x h.family }

-- a right side where there was none
right_kept : (n : ℕ) (t : Option TypeTree) (rs : Rights) → ((r : TypeTree) → HasRight rs n r → ⊥) → Kept rs (placed n t rs)
right_kept n t [] f m r h = h
right_kept zero t (y ∷ rs) f zero r h = absurd (f r h)
right_kept zero t (y ∷ rs) f (suc m) r h = h
right_kept (suc n) t (y ∷ rs) f zero r h = h
right_kept (suc n) t (y ∷ rs) f (suc m) r h = right_kept n t rs f m r h

-- ---- locals

abbrev pub AreKnown : Rights → Locals → Type 0
AreKnown rights ls = (n : ℕ) (x : Stands) → slice_get ls n ≡ Some (Some x) → IsKnownObject rights x

same_stands : (x y : Stands) → (let o : Option (Option Stands) = Some (Some x) in o) ≡ Some (Some y) → x ≡ y
same_stands x y e = cc

local_there : (n m : ℕ) (x y : Stands) (ls : Locals) → slice_get (placed n (Some x) ls) m ≡ Some (Some y) → (x ≡ y) ⊎ (slice_get ls m ≡ Some (Some y))
local_there n m x y [] e = inr e
local_there zero zero x y (l ∷ ls) e = inl (same_stands x y e)
local_there zero (suc m) x y (l ∷ ls) e = inr e
local_there (suc n) zero x y (l ∷ ls) e = inr e
local_there (suc n) (suc m) x y (l ∷ ls) e = local_there n m x y ls e

local_known : (rights : Rights) (n : ℕ) (x : Stands) (ls : Locals) → IsKnownObject rights x → AreKnown rights ls → AreKnown rights (placed n (Some x) ls)
local_known rights n x ls k a m y e = by (local_there n m x y ls e)
  where
    by : (x ≡ y) ⊎ (slice_get ls m ≡ Some (Some y)) → IsKnownObject rights y
    by (inl s) = subst (IsKnownObject rights) s k
    by (inr h) = a m y h

none_there : (rights : Rights) (n : ℕ) → AreKnown rights (no_locals n)
none_there rights zero m y e = absurd cc
none_there rights (suc n) zero y e = absurd cc
none_there rights (suc n) (suc m) y e = none_there rights n m y e

-- ---- right sides are kept

kept_self : (old new : Rights) → new ≡ old → Kept old new
kept_self old new e n r h = subst (λ z. HasRight z n r) (sym e) h

pub kept_both : (a b c : Rights) → Kept a b → Kept b c → Kept a c
kept_both a b c f g n r h = g n r (f n r h)

type_rights : (o : Option ℕ) (s : Frame) → (with_type o s).around ≡ s.around
type_rights (Some n) s = refl
type_rights None s = refl

pub beginning_kept : (k : Kind) (i : ℕ) (s : Frame) → Kept s.around.rights (beginning k i s).around.rights
beginning_kept (kind.Specification declaring.Type) i s = kept_self s.around.rights (with_type (local_named (s.around.objects i)) s).around.rights (ap (λ (w : Scope). w.rights) (type_rights (local_named (s.around.objects i)) s))
beginning_kept k i s = λ n r h. h

parameter_rights : (n : Option ℕ) (t : Option TypeTree) (s : Frame) → (with_parameter n t s).around ≡ s.around
parameter_rights (Some n) (Some t) s = refl
parameter_rights (Some n) None s = refl
parameter_rights None t s = refl

parameters_rights : (ns : List (Option ℕ)) (ts : List (Option TypeTree)) (s : Frame) → (with_parameters ns ts s).around ≡ s.around
parameters_rights [] ts s = refl
parameters_rights (n ∷ ns) [] s = refl
parameters_rights (n ∷ ns) (t ∷ ts) s = parameters_rights ns ts (with_parameter n t s) ∙ parameter_rights n t s

entering_rights : (k : Kind) (xs : Parts) (s : Frame) → (entering k xs s).around.rights ≡ s.around.rights
entering_rights (kind.Declaration declaring.Constant) [] s = refl
entering_rights (kind.Declaration declaring.Constant) (x ∷ xs) s = refl
entering_rights (kind.Group declaring.Constant) [] s = refl
entering_rights (kind.Group declaring.Constant) (x ∷ xs) s = refl
entering_rights kind.Switch [] s = refl
entering_rights kind.Switch (x ∷ []) s = refl
entering_rights kind.Switch (x ∷ y ∷ xs) s = refl
entering_rights kind.FunctionDeclaration [] s = refl
entering_rights kind.FunctionDeclaration (x ∷ []) s =
    ap (λ (w : Scope). w.rights) (parameters_rights (entry_names (first_parts x)) (entry_types (first_parts x)) (record s { results = signature_results s (part_type x) }))
entering_rights kind.FunctionDeclaration (x ∷ y ∷ xs) s = refl
entering_rights k xs s = refl

pub entering_kept : (k : Kind) (xs : Parts) (s : Frame) → Kept s.around.rights (entering k xs s).around.rights
entering_kept k xs s = kept_self s.around.rights (entering k xs s).around.rights (entering_rights k xs s)

sort_rights : (o : Option ℕ) (z : Stands) (s : Frame) → (declares_sort o z s).around ≡ s.around
sort_rights (Some n) sort.Nothing s = refl
sort_rights (Some n) z s = refl
sort_rights None z s = refl

names_rights : (xs : Parts) (s : Frame) → (declares_all xs s).around ≡ s.around
names_rights [] s = refl
names_rights (None ∷ xs) s = names_rights xs s
names_rights (Some x ∷ xs) s = names_rights xs (declares_sort (is_new (form_of x)) (sort_of x) s) ∙ sort_rights (is_new (form_of x)) (sort_of x) s

names_kept : (xs : Parts) (s : Frame) → Kept s.around.rights (declares_all xs s).around.rights
names_kept xs s = kept_self s.around.rights (declares_all xs s).around.rights (ap (λ (w : Scope). w.rights) (names_rights xs s))

own_kept : (o : Option ℕ) (t : Option TypeTree) (s : Frame) → IsFree s.around.rights o → Kept s.around.rights (with_own_right o t s).around.rights
own_kept (Some n) t s f = right_kept n t s.around.rights f
own_kept None t s f = λ n r h. h

left_kept : (k : Kind) (i : ℕ) (ps : Trees) (x : Part) (s : Frame) → RightIsFree s k i → Kept s.around.rights (leaving k i ps x s).around.rights
left_kept (kind.Specification declaring.Type) i ps x s f = own_kept (type_number s i) (right_side (list_of (parts_of x))) s f
left_kept (kind.Specification declaring.Variable) i ps x s f = names_kept (list_of (parts_of x)) s
left_kept (kind.Specification declaring.Constant) i ps x s f = names_kept (list_of (parts_of x)) (record s { source = part_source ps s.source })
left_kept kind.Define i ps x s f = names_kept (list_of (parts_of x)) s
left_kept kind.DefiningRange i ps x s f = names_kept (list_of (parts_of x)) s
left_kept k i ps x s f = λ n r h. h

back_free : (before s : Frame) (k : Kind) (i : ℕ) → RightIsFree s k i → RightIsFree (back before s) k i
back_free before s (kind.Specification declaring.Type) i f = f
back_free before s k i f = tt

pub leaving_kept : (k : Kind) (i : ℕ) (ps : Trees) (x : Part) (before s : Frame) → RightIsFree s k i → Kept s.around.rights (leaving k i ps x (back before s)).around.rights
leaving_kept k i ps x before s f = left_kept k i ps x (back before s) (back_free before s k i f)

-- ---- frames

-- All that is known in front of a statement stands for something known: so many objects of the package, and all locals that are declared.
pub record Good (count : ℕ) (s : Frame) : Type 0 where
  pub full : s.around.needed ≡ in_full
  pub objects : ObjectsAreGood count s.around
  pub locals : AreKnown s.around.rights s.locals

module _ (count : ℕ) where
  pub started : (s : Scope) (n : ℕ) (types : ℕ → ℕ) → s.needed ≡ in_full → ObjectsAreGood count s → Good count (start s n types)
  started s n types f o = record { full = f; objects = o; locals = none_there s.rights n }

  pub locals_good : (s : Frame) → Good count s → LocalsAreGood s.locals (scope_of s)
  locals_good s g f n d = subst (λ o. IsKnownObject s.around.rights (known o)) (sym d.1) (g.locals n d.0 d.1)

  pub with_local_good : (n : ℕ) (x : Stands) (s : Frame) → IsKnownObject s.around.rights x → Good count s → Good count (with_local n x s)
  with_local_good n x s k g = record { full = g.full; objects = g.objects; locals = local_known s.around.rights n x s.locals k g.locals }

  with_right_good : (n : ℕ) (t : Option TypeTree) (s : Frame) → IsFree s.around.rights (Some n) → Good count s → Good count (with_right n t s)
  with_right_good n t s f g =
      let kept : Kept s.around.rights (placed n t s.around.rights) = right_kept n t s.around.rights f in
      record {
        full = g.full;
        objects = λ m l. let o = g.objects m l in record { known = known_more s.around.rights (placed n t s.around.rights) kept (s.around.sorts in_full (object.Package m)) o.known; typed = o.typed };
        locals = λ m x e. known_more s.around.rights (placed n t s.around.rights) kept x (g.locals m x e);
      }

  own_right_good : (o : Option ℕ) (t : Option TypeTree) (s : Frame) → IsFree s.around.rights o → Good count s → Good count (with_own_right o t s)
  own_right_good (Some n) t s f g = with_right_good n t s f g
  own_right_good None t s f g = g

  -- ---- before a node and its parts

  type_good : (o : Option ℕ) (s : Frame) → Good count s → Good count (with_type o s)
  type_good (Some n) s g = with_local_good n (sort.IsType (declared (s.types n))) s (record { fit = refl; family = tt }) g
  type_good None s g = g

  pub beginning_good : (k : Kind) (i : ℕ) (s : Frame) → Good count s → Good count (beginning k i s)
  beginning_good (kind.Specification declaring.Type) i s g = type_good (local_named (s.around.objects i)) s g
  beginning_good k i s g = g

  parameter_good : (n : Option ℕ) (t : Option TypeTree) (s : Frame) → Good count s → Good count (with_parameter n t s)
  parameter_good (Some n) (Some t) s g = with_local_good n (sort.Value t) s (record { fit = refl; family = tt }) g
  parameter_good (Some n) None s g = g
  parameter_good None t s g = g

  parameters_good : (ns : List (Option ℕ)) (ts : List (Option TypeTree)) (s : Frame) → Good count s → Good count (with_parameters ns ts s)
  parameters_good [] ts s g = g
  parameters_good (n ∷ ns) [] s g = g
  parameters_good (n ∷ ns) (t ∷ ts) s g = parameters_good ns ts (with_parameter n t s) (parameter_good n t s g)

  function_good : (xs : Parts) (s : Frame) → Good count s → Good count (in_function xs s)
  function_good [] s g = g
  function_good (x ∷ []) s g =
      parameters_good (entry_names (first_parts x)) (entry_types (first_parts x)) (record s { results = signature_results s (part_type x) }) (record { full = g.full; objects = g.objects; locals = g.locals })
  function_good (x ∷ y ∷ xs) s g = g

  switch_good : (xs : Parts) (s : Frame) → Good count s → Good count (in_switch xs s)
  switch_good [] s g = g
  switch_good (x ∷ []) s g = record { full = g.full; objects = g.objects; locals = g.locals }
  switch_good (x ∷ y ∷ xs) s g = g

  constants_good : (xs : Parts) (s : Frame) → Good count s → Good count (in_constants xs s)
  constants_good [] s g = record { full = g.full; objects = g.objects; locals = g.locals }
  constants_good (x ∷ xs) s g = record { full = g.full; objects = g.objects; locals = g.locals }

  pub entering_good : (k : Kind) (xs : Parts) (s : Frame) → Good count s → Good count (entering k xs s)
  entering_good (kind.Declaration declaring.Constant) xs s g = constants_good xs s g
  entering_good (kind.Group declaring.Constant) xs s g = constants_good xs s g
  entering_good kind.Switch xs s g = switch_good xs s g
  entering_good kind.FunctionDeclaration xs s g = function_good xs s g
  entering_good k xs s g = g

  -- ---- behind a node

  declared_is : (n : ℕ) (z : Stands) (s : Frame) → (declares_sort (Some n) z s ≡ s) ⊎ (declares_sort (Some n) z s ≡ with_local n z s)
  declared_is n sort.Nothing s = inl refl
  declared_is n z s = inr refl

  sort_good : (o : Option ℕ) (z : Stands) (s : Frame) → ((n : ℕ) → o ≡ Some n → (z ≡ sort.Nothing) ⊎ IsKnownObject s.around.rights z) → Good count s → Good count (declares_sort o z s)
  sort_good None z s f g = g
  sort_good (Some n) z s f g = by (f n refl)
    where
      one : IsKnownObject s.around.rights z → (declares_sort (Some n) z s ≡ s) ⊎ (declares_sort (Some n) z s ≡ with_local n z s) → Good count (declares_sort (Some n) z s)
      one k (inl e) = subst (Good count) (sym e) g
      one k (inr e) = subst (Good count) (sym e) (with_local_good n z s k g)

      by : (z ≡ sort.Nothing) ⊎ IsKnownObject s.around.rights z → Good count (declares_sort (Some n) z s)
      by (inl e) = subst (λ w. Good count (declares_sort (Some n) w s)) (sym e) g
      by (inr k) = one k (declared_is n z s)

  pub names_good : (rights : Rights) (xs : Parts) (s : Frame) → s.around.rights ≡ rights → AllFine rights xs → Good count s → Good count (declares_all xs s)
  names_good rights [] s e f g = g
  names_good rights (None ∷ xs) s e f g = names_good rights xs s e f g
  names_good rights (Some x ∷ xs) s e f g =
      let one = sort_good (is_new (form_of x)) (sort_of x) s (λ n m. subst (λ r. (sort_of x ≡ sort.Nothing) ⊎ IsKnownObject r (sort_of x)) (sym e) (f.0 n m)) g in
      names_good rights xs (declares_sort (is_new (form_of x)) (sort_of x) s) (subst (λ (w : Scope). w.rights ≡ rights) (sym (sort_rights (is_new (form_of x)) (sort_of x) s)) e) f.1 one

  left_good : (k : Kind) (i : ℕ) (ps : Trees) (x : Part) (s : Frame) → RightIsFree s k i → DeclaresFine k s.around.rights x → Good count s → Good count (leaving k i ps x s)
  left_good (kind.Specification declaring.Type) i ps x s f d g = own_right_good (type_number s i) (right_side (list_of (parts_of x))) s f g
  left_good (kind.Specification declaring.Variable) i ps x s f d g = names_good s.around.rights (list_of (parts_of x)) s refl d g
  left_good (kind.Specification declaring.Constant) i ps x s f d g =
      names_good s.around.rights (list_of (parts_of x)) (record s { source = part_source ps s.source }) refl d (record { full = g.full; objects = g.objects; locals = g.locals })
  left_good kind.Define i ps x s f d g = names_good s.around.rights (list_of (parts_of x)) s refl d g
  left_good kind.DefiningRange i ps x s f d g = names_good s.around.rights (list_of (parts_of x)) s refl d g
  left_good k i ps x s f d g = g

  pub leaving_good : (k : Kind) (i : ℕ) (ps : Trees) (x : Part) (before s : Frame) → RightIsFree s k i → DeclaresFine k s.around.rights x → Good count s → Good count (leaving k i ps x (back before s))
  leaving_good k i ps x before s f d g = left_good k i ps x (back before s) (back_free before s k i f) d (record { full = g.full; objects = g.objects; locals = g.locals })

  -- ---- as it is said

  known_there : (s : Frame) → LocalsAreGood s.locals (scope_of s) → AreKnown s.around.rights s.locals
  known_there s g n x e = subst (λ o. IsKnownObject s.around.rights (known o)) e (g 0 n (x, e))

  pub good_of : (s : Frame) → FrameIsGood count s → Good count s
  good_of s g = record { full = g.full; objects = g.objects; locals = known_there s g.locals }

  pub frame_of : (s : Frame) → Good count s → FrameIsGood count s
  frame_of s g = record { full = g.full; objects = g.objects; locals = locals_good s g }
