-- Scopes of specifications that are the same but for where they stand.
use Rattle.std.proofs.Common.{◌≡◌, ◌∙◌, ℕ, zero, suc, ◌+◌, Bool, true, false, List, [], ◌∷◌, map, Option, Some, None, refl, sym, ap}
use Rattle.std.specs.Prelude.{◌&&◌, if◌then◌else◌, slice_get}
use Rattle.std.specs.Str.{chars}
use Rattle.go_tree.specs.declared.context.Entity.{Entity}
use Rattle.go_tree.specs.declared.object.Declared.{Declared}
use Rattle.go_tree.specs.declared.object.Object.{Object}
use Rattle.go_tree.specs.declared.object.Object.TheVariants as object
use Rattle.go_tree.specs.Uses.{object_of}
use Rattle.go_typed.specs.declared.form.Referent.{Referent}
use Rattle.go_typed.specs.Packages.{referents}
use Rattle.go_typed.specs.Trees as sort
use Rattle.go_exprs_rules.specs.Scopes.{Needed, in_full, at_once, loosely, Scope}
use Rattle.go_exprs_rules.specs.Sorts.{Stands}
use Rattle.go_exprs_rules.specs.Tables.{no_faults}
use Rattle.go_package_defs.specs.Bodies.{own_object}
use Rattle.go_package_defs.specs.Declarations.{Specification}
use Rattle.go_package_defs.specs.Knowledge.{is_type, Outline, State, state_of, is_sound, is_told_by, is_told, all_pass, needs_of, passes, stands_if, stands_where, rights_among, rights_of, referent_there, need_in, scope_where}
use Rattle.go_package_defs.specs.Sources.{Package}
use Rattle.go_package_alike.specs.Scopes.{said, MeanSame, SaySame, StandSame}
use Rattle.go_elsewhere.specs.Elsewhere.{along}
use Rattle.go_heads_types.specs.Same.{SameSpecification, SameOutlines}
use Rattle.go_heads_types.specs.States.{SameState, SameStates}

abbrev pub MeansEqual : Type 0
MeansEqual = (s t : Scope) → StandSame s t → (o q : Option Object) → own_object q ≡ own_object o → MeanSame (said s) (said t) o q

-- ---- states

pub state_same : (ss ts : List State) → SameStates ss ts → (n : ℕ) → SameState (state_of ss n) (state_of ts n)
state_same [] [] h n = record { right = refl; stands = refl; faults = refl; assigning = refl }
state_same [] (t ∷ ts) h n = absurd h
state_same (s ∷ ss) [] h n = absurd h
state_same (s ∷ ss) (t ∷ ts) h zero = h.0
state_same (s ∷ ss) (t ∷ ts) h (suc n) = state_same ss ts h.1 n

-- a test that states pass alike which are the same
abbrev pub IsFair : (State → Bool) → Type 0
IsFair test = (x y : State) → SameState x y → test y ≡ test x

pub sound_same : IsFair is_sound
sound_same x y h = ap (λ b. b && no_faults y.assigning) h.faults ∙ ap (λ b. no_faults x.faults && b) h.assigning

pub told_same : IsFair is_told
told_same x y h = ap (λ z. is_told_by z y.right) h.stands ∙ ap (is_told_by x.stands) h.right

pub rights_same : (ds es : List Declared) (ss ts : List State) → map (λ (d : Declared). d.entity) es ≡ map (λ (d : Declared). d.entity) ds → SameStates ss ts → rights_among es ts ≡ rights_among ds ss
rights_same [] [] ss ts e h = refl
rights_same [] (y ∷ es) ss ts e h = absurd (first_missing y.entity (map (λ (d : Declared). d.entity) es) e)
  where
    first_missing : (x : Entity) (xs : List Entity) → (x ∷ xs) ≡ [] → ⊥
    first_missing x xs e = cc
rights_same (x ∷ ds) [] ss ts e h = absurd (first_missing x.entity (map (λ (d : Declared). d.entity) ds) e)
  where
    first_missing : (x : Entity) (xs : List Entity) → [] ≡ (x ∷ xs) → ⊥
    first_missing x xs e = cc
rights_same (x ∷ ds) (y ∷ es) [] [] e h = refl
rights_same (x ∷ ds) (y ∷ es) [] (t ∷ ts) e h = absurd h
rights_same (x ∷ ds) (y ∷ es) (s ∷ ss) [] e h = absurd h
rights_same (x ∷ ds) (y ∷ es) (s ∷ ss) (t ∷ ts) e h =
    ap (λ k. if is_type k then t.right ∷ rights_among es ts else rights_among es ts) (first_one y.entity x.entity (map (λ (d : Declared). d.entity) es) (map (λ (d : Declared). d.entity) ds) e)
    ∙ ap (λ o. if is_type x.entity then o ∷ rights_among es ts else rights_among es ts) h.0.right
    ∙ ap (λ rs. if is_type x.entity then s.right ∷ rs else rs) (rights_same ds es ss ts (others_one y.entity x.entity (map (λ (d : Declared). d.entity) es) (map (λ (d : Declared). d.entity) ds) e) h.1)
  where
    first_one : (a b : Entity) (xs ys : List Entity) → (a ∷ xs) ≡ (b ∷ ys) → a ≡ b
    first_one a b xs ys e = cc

    others_one : (a b : Entity) (xs ys : List Entity) → (a ∷ xs) ≡ (b ∷ ys) → xs ≡ ys
    others_one a b xs ys e = cc

-- ---- what is needed

module _ (p q : Package) where
  pub needs_same : (xs ys : List Outline) → SameOutlines p q xs ys → (need : Needed) (n : ℕ) → needs_of need (slice_get ys n) ≡ needs_of need (slice_get xs n)
  needs_same [] [] h need n = refl
  needs_same [] (y ∷ ys) h need n = absurd h
  needs_same (x ∷ xs) [] h need n = absurd h
  needs_same (x ∷ xs) (y ∷ ys) h in_full zero = h.0.fully
  needs_same (x ∷ xs) (y ∷ ys) h at_once zero = h.0.partly
  needs_same (x ∷ xs) (y ∷ ys) h loosely zero = refl
  needs_same (x ∷ xs) (y ∷ ys) h need (suc n) = needs_same xs ys h.1 need n

  module _ (test : State → Bool) (fair : IsFair test) (xs ys : List Outline) (outlined : SameOutlines p q xs ys) (ss ts : List State) (h : SameStates ss ts) where
    all_same : (ns : List ℕ) → all_pass test ts ns ≡ all_pass test ss ns
    all_same [] = refl
    all_same (n ∷ ns) =
        ap (λ b. b && all_pass test ts ns) (fair (state_of ss n) (state_of ts n) (state_same ss ts h n)) ∙ ap (λ b. test (state_of ss n) && b) (all_same ns)

    pub passes_same : (need : Needed) (n : ℕ) → passes test ys ts need n ≡ passes test xs ss need n
    passes_same loosely n = refl
    passes_same in_full n = ap (λ ns. all_pass test ts (n ∷ ns)) (needs_same xs ys outlined in_full n) ∙ all_same (n ∷ needs_of in_full (slice_get xs n))
    passes_same at_once n = ap (λ ns. all_pass test ts (n ∷ ns)) (needs_same xs ys outlined at_once n) ∙ all_same (n ∷ needs_of at_once (slice_get xs n))

    where_same : (need : Needed) (o : Object) → stands_where test ys ts need o ≡ stands_where test xs ss need o
    where_same need (object.Package n) = ap (λ b. stands_if b (state_of ts n)) (passes_same need n) ∙ by (passes test xs ss need n) (state_same ss ts h n)
      where
        by : (b : Bool) → SameState (state_of ss n) (state_of ts n) → stands_if b (state_of ts n) ≡ stands_if b (state_of ss n)
        by true g = g.stands
        by false g = refl
    where_same need o = refl

    -- which function a local is of counts for nothing
    abbrev stood : Needed → Option Object → Stands
    stood need (Some o) = stands_where test xs ss need o
    stood need None = sort.Unknown

    stood_own : (need : Needed) (o : Object) → stands_where test xs ss need o ≡ stood need (own_object (Some o))
    stood_own need (object.Local f n) = refl
    stood_own need o = refl

    pub stands_same : (need : Needed) (o q : Object) → own_object (Some q) ≡ own_object (Some o) → stands_where test ys ts need q ≡ stands_where test xs ss need o
    stands_same need o q e = where_same need q ∙ stood_own need q ∙ ap (stood need) e ∙ sym (stood_own need o)

    -- ---- a specification

    module _ (equal : MeansEqual) (as_many : rights_of q ts ≡ rights_of p ss) (same_referents : referents q.uses.package_level ≡ referents p.uses.package_level) (d e : Specification) (s : SameSpecification p q d e) (limits : Bool) where
      abbrev old : Scope
      old = along (λ i. s.from + i) (scope_where test limits p xs ss d)

      abbrev new : Scope
      new = along (λ i. s.to + i) (scope_where test limits q ys ts e)

      stand : StandSame old new
      stand = record {
        sorts = stands_same;
        referents = λ n. ap (λ (rs : List Referent). referent_there (slice_get rs n)) same_referents;
      }

      pub scopes_same : SaySame s.test old new
      scopes_same = record {
        rights = as_many;
        iota = s.after.iota ∙ sym s.before.iota;
        needed = ap need_in (s.after.entity ∙ sym s.before.entity);
        limits = refl;
        tokens = record {
          texts = s.texts;
          characters = λ i g. ap chars (s.texts i g);
          objects = λ i g. equal old new stand (object_of p.uses d.file (s.from + i)) (object_of q.uses e.file (s.to + i)) (s.objects i g);
        };
      }
